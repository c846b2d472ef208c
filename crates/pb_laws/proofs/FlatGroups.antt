-- Groups that list their hosts and have neither children nor variables.
use Rattle.std.proofs.Common.{◌≡◌, ℕ, zero, suc, List, [], ◌∷◌, ◌++◌, length, map, fold, Bool, true, false, not, ◌&&◌, ◌||◌, cond, bytes_eq, refl, sym, ap, ◌∙◌}
use Rattle.std.specs.List.{filter, flat_map, list_all, list_any}
use Rattle.std.proofs.lemmas.List.{append-nil}
use Rattle.pb_semantics.specs.Data.{Fields, no_fields}
use Rattle.pb_semantics.specs.Keeps.{is_among}
use Rattle.pb_semantics.proofs.Bools.{and-left, and-right, and-both, neither-left, neither-right}
use Rattle.pb_semantics.proofs.Names.{own_name}
use Rattle.pb_language.specs.Expression.{Name}
use Rattle.pb_language.specs.Families.{put_name, descendants, group_names, groups_of, has_cycle, host_order, is_grouped as is_written_grouped, members, members_within, once, own_children, own_hosts, own_variables}
use Rattle.pb_language.specs.Inventories.{group_variables, groups_at, overlaid}
use Rattle.pb_language.specs.Printed.{are_printable, meta_key}
use Rattle.pb_language.specs.Program.{Inventory}
use Rattle.pb_language.specs.Theorem.{are_distinct, host_names}
use Rattle.pb_language.specs.World.{Group}
use Rattle.pb_language.specs.Written.{all_group, is_group_name, is_well_named, listed_hosts, ungrouped_group}
use Rattle.pb_laws.specs.PrintedInventory.{flat}
use Rattle.pb_laws.specs.PrintableInventory.{AreGroups, AreNames, due_hosts, is_grouped, is_usable, names_of}
use Rattle.pb_laws.proofs.DistinctNames.{first_apart, rest_apart, turned}
use Rattle.pb_laws.proofs.OrderedNames.{names_put, ordered_apart}

either_way : {A : Type 0} (q : Bool) (x y : A) → y ≡ x → cond q x y ≡ x
either_way true x y h = refl
either_way false x y h = h

-- no group has children

no_children : (n : Name) (gs : List Group) → own_children n (map flat gs) ≡ []
no_children n [] = refl
no_children n (g ∷ gs) = either_way (bytes_eq n g.name) [] (own_children n (map flat gs)) (no_children n gs)

no_descendants : (k : ℕ) (gs : List Group) (n : Name) → descendants k (map flat gs) n ≡ []
no_descendants zero gs n = refl
no_descendants (suc k) gs n = ap (λ ns. ns ++ flat_map (descendants k (map flat gs)) ns) (no_children n gs)

none_cyclic : (all gs : List Group) → list_any (λ w. is_among all_group w.children || is_among w.name (descendants (length (map flat all)) (map flat all) w.name)) (map flat gs) ≡ false
none_cyclic all [] = refl
none_cyclic all (g ∷ gs) = λ i. is_among g.name (no_descendants (length (map flat all)) all g.name i) || none_cyclic all gs i

pub no_cycle : (gs : List Group) → has_cycle (map flat gs) ≡ false
no_cycle gs = none_cyclic gs gs

own_members : (k : ℕ) (gs : List Group) (n : Name) → members_within k (map flat gs) n ≡ own_hosts n (map flat gs)
own_members zero gs n = refl
own_members (suc k) gs n =
    ap (λ ns. own_hosts n (map flat gs) ++ flat_map (members_within k (map flat gs)) ns) (no_children n gs) ∙ append-nil (own_hosts n (map flat gs))

-- nor variables

no_variables : (n : Name) (gs : List Group) → own_variables n (map flat gs) ≡ no_fields
no_variables n [] = refl
no_variables n (g ∷ gs) = either_way (bytes_eq n g.name) no_fields (own_variables n (map flat gs)) (no_variables n gs)

nothing_laid : (gs : List Group) (vs : Fields) (ns : List Name) → fold (λ us n. overlaid us (own_variables n (map flat gs))) vs ns ≡ vs
nothing_laid gs vs [] = refl
nothing_laid gs vs (n ∷ ns) = ap (λ fs. fold (λ us m. overlaid us (own_variables m (map flat gs))) (overlaid vs fs) ns) (no_variables n gs) ∙ nothing_laid gs vs ns

pub no_group_variables : (gs : List Group) (h : Name) (k : ℕ) → group_variables (map flat gs) h k ≡ no_fields
no_group_variables gs h zero = refl
no_group_variables gs h (suc k) = nothing_laid gs (group_variables (map flat gs) h k) (groups_at (map flat gs) h k) ∙ no_group_variables gs h k

-- their names are those of the groups

names_written : (gs : List Group) → flat_map (λ w. w.name ∷ w.children) (map flat gs) ≡ names_of gs
names_written [] = refl
names_written (g ∷ gs) = ap (◌∷◌ g.name) (names_written gs)

pub names_read : (gs : List Group) → AreNames (names_of gs) → group_names (map flat gs) ≡ names_of gs
names_read gs h = ap (λ ns. fold (λ os n. put_name n os) [] (all_group ∷ ungrouped_group ∷ ns)) (names_written gs) ∙ names_put (names_of gs) h

pub printable : (gs : List Group) → list_all is_usable (names_of gs) ≡ true → are_printable (map flat gs) ≡ true
printable [] h = refl
printable (g ∷ gs) h =
    let rest = list_all is_usable (names_of gs) in
    let first = and-left (is_usable g.name) rest h in
    let other = not (bytes_eq g.name meta_key) in
    and-both (is_group_name g.name) (other && are_printable (map flat gs)) (and-left (is_group_name g.name) other first)
    (and-both other (are_printable (map flat gs)) (and-right (is_group_name g.name) other first) (printable gs (and-right (is_usable g.name) rest h)))

pub well_named : (gs : List Group) → list_all is_well_named (map flat gs) ≡ true
well_named [] = refl
well_named (g ∷ gs) = and-both (is_well_named (flat g)) (list_all is_well_named (map flat gs)) (either (bytes_eq g.name ungrouped_group) (bytes_eq g.name all_group)) (well_named gs) where
  either : (q r : Bool) → cond q true (r || true) ≡ true
  either true r = refl
  either false true = refl
  either false false = refl

-- their hosts are those that are due

pub listed : (gs : List Group) → listed_hosts (map flat gs) ≡ flat_map (λ g. g.hosts) gs
listed [] = refl
listed (g ∷ gs) = ap (λ hs. g.hosts ++ hs) (listed gs)

grouped : (gs : List Group) (h : Name) → is_written_grouped (map flat gs) h ≡ is_grouped gs h
grouped [] h = refl
grouped (g ∷ gs) h = ap (λ b. (not (bytes_eq g.name all_group || bytes_eq g.name ungrouped_group) && is_among h g.hosts) || b) (grouped gs h)

-- each of those groups has its own hosts among all groups
abbrev HaveOwn : List Group → List Group → Type 0
HaveOwn all [] = Unit {0}
HaveOwn all (g ∷ gs) = (own_hosts g.name (map flat all) ≡ g.hosts) × HaveOwn all gs

own_still : (g : Group) (all gs : List Group) → is_among g.name (names_of gs) ≡ false → HaveOwn all gs → HaveOwn (g ∷ all) gs
own_still g all [] h k = tt
own_still g all (x ∷ xs) h k =
    let other = turned g.name x.name (neither-left (bytes_eq g.name x.name) (is_among g.name (names_of xs)) h) in (
      ap (λ q. cond q g.hosts (own_hosts x.name (map flat all))) other ∙ k.0,
      own_still g all xs (neither-right (bytes_eq g.name x.name) (is_among g.name (names_of xs)) h) k.1,
    )

have_own : (gs : List Group) → are_distinct (names_of gs) ≡ true → HaveOwn gs gs
have_own [] h = tt
have_own (g ∷ gs) h = (
  ap (λ q. cond q g.hosts (own_hosts g.name (map flat gs))) (own_name g.name),
  own_still g gs gs (first_apart g.name (names_of gs) h) (have_own gs (rest_apart g.name (names_of gs) h)),
)

members_read : (i : Inventory) (g : Group) → host_order (map flat i.groups) ≡ host_names i.hosts → own_hosts g.name (map flat i.groups) ≡ g.hosts → g.hosts ≡ due_hosts i g → members (map flat i.groups) g.name ≡ g.hosts
members_read i g order own due =
    let ws = map flat i.groups in
    let mine = own_members (length ws) i.groups g.name ∙ own in
    (λ j. cond (bytes_eq g.name all_group) (order j) (cond (bytes_eq g.name ungrouped_group) (filter (λ h. not (grouped i.groups h j)) (order j)) (once (mine j)))) ∙ sym due

each_read : (i : Inventory) → host_order (map flat i.groups) ≡ host_names i.hosts → (gs : List Group) → HaveOwn i.groups gs → AreGroups i gs
    → map {B = Group} (λ n. record { name = n; hosts = members (map flat i.groups) n }) (names_of gs) ≡ gs
each_read i order [] own due = refl
each_read i order (g ∷ gs) own due = λ j. record { name = g.name; hosts = members_read i g order own.0 due.0 j } ∷ each_read i order gs own.1 due.1 j

pub groups_read : (i : Inventory) → AreNames (names_of i.groups) → host_order (map flat i.groups) ≡ host_names i.hosts → AreGroups i i.groups → groups_of (map flat i.groups) ≡ i.groups
groups_read i names order due =
    ap (map {B = Group} (λ n. record { name = n; hosts = members (map flat i.groups) n })) (names_read i.groups names)
    ∙ each_read i order i.groups (have_own i.groups (ordered_apart (names_of i.groups) names.ordered)) due
