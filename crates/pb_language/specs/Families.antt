-- The groups of an inventory as families: children, parents, depths and members (Ansible's page on
-- how to build an inventory).
use Rattle.std.specs.Prelude.{ℕ, zero, suc, max, List, [], ◌∷◌, ◌++◌, length, map, Bool}
use Rattle.std.specs.Prelude.{not, ◌&&◌, ◌||◌, cond}
use Rattle.std.specs.List.{filter, flat_map, fold, list_any}
use Rattle.std.specs.Str.{bytes_eq}
use Rattle.std.specs.Ordering.{nat_cmp, match_ordering}
use Rattle.std.specs.Cmp.Lexicographic.{slice_cmp}
use Rattle.pb_semantics.specs.Data.{Fields, no_fields}
use Rattle.pb_semantics.specs.Keeps.{is_among}
use Rattle.pb_language.specs.Expression.{Name}
use Rattle.pb_language.specs.Plays.{add_hosts}
use Rattle.pb_language.specs.World.{Group}
use Rattle.pb_language.specs.Written.{Written, all_group, ungrouped_group, listed_hosts}

-- a group that is only named as a child has no hosts, variables or children
abbrev pub own_hosts : Name → List Written → List Name
own_hosts n [] = []
own_hosts n (w ∷ ws) = cond (bytes_eq n w.name) w.hosts (own_hosts n ws)

abbrev pub own_children : Name → List Written → List Name
own_children n [] = []
own_children n (w ∷ ws) = cond (bytes_eq n w.name) w.children (own_children n ws)

abbrev pub own_variables : Name → List Written → Fields
own_variables n [] = no_fields
own_variables n (w ∷ ws) = cond (bytes_eq n w.name) w.variables (own_variables n ws)

-- the group's descendants within so many generations
abbrev pub descendants : ℕ → List Written → Name → List Name
descendants zero ws n = []
descendants (suc k) ws n =
    own_children n ws ++ flat_map (descendants k ws) (own_children n ws)

-- a group is its own descendant, or `all` is a child
abbrev pub has_cycle : List Written → Bool
has_cycle ws = list_any (λ w. is_among all_group w.children
    || is_among w.name (descendants (length ws) ws w.name)) ws

-- each name once, where it first comes
abbrev pub once : List Name → List Name
once ns = add_hosts [] ns

-- the groups that have it as a child, but for the one of all hosts
abbrev pub parents : List Written → Name → List Name
parents ws n = map (λ w. w.name)
    (filter (λ w. is_among n w.children && not (bytes_eq w.name all_group)) ws)

-- one more than the deepest parent, and 1 where there is none; 0 of the group of all hosts
abbrev pub depth_within : ℕ → List Written → Name → ℕ
depth_within zero ws n = 1
depth_within (suc k) ws n = cond (bytes_eq n all_group) 0
    (suc (fold (λ deepest p. max deepest (depth_within k ws p)) 0 (parents ws n)))

abbrev pub depth : List Written → Name → ℕ
depth ws n = depth_within (length ws) ws n

-- the hosts in host order: as the groups list them, each where it first comes
abbrev pub host_order : List Written → List Name
host_order ws = once (listed_hosts ws)

-- a group's own hosts, then those of its children, within so many generations
abbrev pub members_within : ℕ → List Written → Name → List Name
members_within zero ws n = own_hosts n ws
members_within (suc k) ws n =
    own_hosts n ws ++ flat_map (members_within k ws) (own_children n ws)

-- the groups that count when a host is in a group at all
abbrev pub is_grouping : Written → Bool
is_grouping w = not (bytes_eq w.name all_group || bytes_eq w.name ungrouped_group)

abbrev pub is_grouped : List Written → Name → Bool
is_grouped ws h = list_any (λ w. is_grouping w && is_among h w.hosts) ws

abbrev pub members : List Written → Name → List Name
members ws n = cond (bytes_eq n all_group) (host_order ws)
    (cond (bytes_eq n ungrouped_group) (filter (λ h. not (is_grouped ws h)) (host_order ws))
    (once (members_within (length ws) ws n)))

-- names in the order of their bytes, each once
abbrev pub put_name : Name → List Name → List Name
put_name n [] = n ∷ []
put_name n (m ∷ ms) = match_ordering (slice_cmp nat_cmp n m) (n ∷ m ∷ ms) (m ∷ ms)
    (m ∷ put_name n ms)

-- the names of all groups: the two that are always there, those that are written, and their
-- children
abbrev pub group_names : List Written → List Name
group_names ws = fold (λ ns n. put_name n ns) []
    (all_group ∷ ungrouped_group ∷ flat_map (λ w. w.name ∷ w.children) ws)

abbrev pub groups_of : List Written → List Group
groups_of ws = map (λ n. record { name = n; hosts = members ws n }) (group_names ws)
