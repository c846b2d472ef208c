-- What is known at a Start: of the host's own variables, of those of each host, and what tests have
-- taught (this project's own).
use Rattle.std.specs.Prelude.{ℕ, List, [], ◌∷◌, Bool, true, false, ◌&&◌, ◌||◌, cond, nat_le, Option}
use Rattle.std.specs.Prelude.{Some, None, codes, not}
use Rattle.std.specs.Str.{bytes_eq}
use Rattle.pb_semantics.specs.Kind.{KindData, Slots, Spot, never, texts, hosts, anything, no_slots}
use Rattle.pb_semantics.specs.Kind.{slot, nowhere, spot, slot_at, put_slot}
use Rattle.pb_semantics.specs.Keeps.{is_among}
use Rattle.pb_semantics.specs.Join.{join, join_spot}
use Rattle.pb_language.specs.Expression.{Name, Expression, Root, variable, alias, other, member}
use Rattle.pb_language.specs.Expression.{Term, named_host, this_host, item_host, group_member}
use Rattle.pb_language.specs.Same.{same_expression, same_root}
use Rattle.pb_language.specs.World.{Group, member_of}

abbrev pub spot_kind : Spot → KindData
spot_kind nowhere = never
spot_kind (spot a k) = k

abbrev pub is_certain : Spot → Bool
is_certain nowhere = false
is_certain (spot a k) = a

abbrev pub without_slot : Name → Slots → Slots
without_slot n no_slots = no_slots
without_slot n (slot m a k ss) =
    cond (bytes_eq n m) (without_slot n ss) (slot m a k (without_slot n ss))

-- the slots with this one in place of any other of that name
abbrev pub with_slot : Name → Bool → KindData → Slots → Slots
with_slot n a k ss = put_slot n a k (without_slot n ss)

abbrev pub with_spot : Name → Spot → Slots → Slots
with_spot n nowhere ss = ss
with_spot n (spot a k) ss = with_slot n a k ss

-- what tests taught of a name, in place of what they taught before
abbrev pub with_taught : Name → Spot → Slots → Slots
with_taught n s ss = with_slot n (is_certain s) (spot_kind s) ss

-- a name that is certainly there
abbrev pub sure : Spot → Spot
sure nowhere = spot true never
sure (spot a k) = spot true k

-- names that a host certainly has, each at its places from one on, and the place from which on it
-- has every name that may last
pub data Since : Type 0 where
  no_since : Since
  since : Name → ℕ → Since → Since
  every_name : ℕ → Since → Since

-- a failure's text may be gone again at the next place
abbrev pub may_last : Name → Bool
may_last x = not (bytes_eq x (codes "ansible_failed_result"))

abbrev pub is_later : Since → ℕ → Name → Bool
is_later no_since p x = false
is_later (since n q l) p x = (bytes_eq x n && nat_le q p) || is_later l p x
is_later (every_name q l) p x = (nat_le q p && may_last x) || is_later l p x

-- what is known of each host's variables
pub record View : Type 0 where
  pub host : Name
  pub slots : Slots

abbrev pub view_of : Name → List View → Slots
view_of g [] = no_slots
view_of g (v ∷ vs) = cond (bytes_eq g v.host) v.slots (view_of g vs)

abbrev pub has_view : Name → List View → Bool
has_view g [] = false
has_view g (v ∷ vs) = bytes_eq g v.host || has_view g vs

-- the views with this one in place of any other of that host
abbrev pub put_view : Name → Slots → List View → List View
put_view g ss [] = record { host = g; slots = ss } ∷ []
put_view g ss (v ∷ vs) =
    cond (bytes_eq g v.host) (record { host = v.host; slots = ss } ∷ vs) (v ∷ put_view g ss vs)

-- what each host has at its later places
pub record Later : Type 0 where
  pub host : Name
  pub names : Since

abbrev pub later_of : Name → List Later → Since
later_of g [] = no_since
later_of g (l ∷ ls) = cond (bytes_eq g l.host) l.names (later_of g ls)

-- what tests taught of the values of `vars`
pub data Learned : Type 0 where
  nothing : Learned
  taught : Name → Expression → KindData → Learned → Learned

abbrev pub learned_kind : Name → Expression → Learned → Option KindData
learned_kind n e nothing = None
learned_kind n e (taught m f k l) =
    cond (bytes_eq n m && same_expression e f) (Some k) (learned_kind n e l)

-- a path of which each step is there
pub record Present : Type 0 where
  pub root : Root
  pub steps : List Name

abbrev pub begins_with : List Name → List Name → Bool
begins_with [] ms = true
begins_with (n ∷ ns) [] = false
begins_with (n ∷ ns) (m ∷ ms) = bytes_eq n m && begins_with ns ms

abbrev pub is_present_path : Root → List Name → List Present → Bool
is_present_path r ns [] = false
is_present_path r ns (p ∷ ps) =
    (same_root r p.root && begins_with ns p.steps) || is_present_path r ns ps

pub record Scope : Type 0 where
  -- what is known before any test: of the host's own variables, and of those of each host
  pub own : Slots
  pub this : Name
  pub table : List View
  pub groups : List Group
  -- what active hosts have from the place of the task on; nothing under `free`
  pub laters : List Later
  pub place : ℕ
  -- what tests taught, which lies over that: of the host's own variables, and of those of hosts by
  -- their names
  pub own_slots : Slots
  pub views : List View
  pub learned : Learned
  -- the paths that were tested to be there
  pub present : List Present
  -- the hosts that are known to be active in the batch
  pub active : List Name
  -- what tests taught of the variables of the host that the item names, and that it is active
  pub item_slots : Slots
  pub item_active : Bool

-- what a test taught, else what is known
abbrev pub taught_spot : Spot → Spot → Spot
taught_spot nowhere s = s
taught_spot (spot a k) s = spot a k

-- what is known of a variable of the host's own
abbrev pub own_spot : Scope → Name → Spot
own_spot c x = taught_spot (slot_at x c.own_slots) (slot_at x c.own)

-- and of a host by its name
abbrev pub view_spot : Scope → Name → Name → Spot
view_spot c x g = taught_spot (slot_at x (view_of g c.views)) (slot_at x (view_of g c.table))

abbrev pub named_term : Term → Option Name → Term
named_term t None = t
named_term t (Some h) = named_host h

-- a host by its name, where that is known
abbrev pub resolved_term : Scope → Term → Term
resolved_term c (named_host n) = named_host n
resolved_term c this_host = named_host c.this
resolved_term c item_host = item_host
resolved_term c (group_member g n) = named_term (group_member g n) (member_of g n c.groups)

abbrev pub resolved : Scope → Root → Root
resolved c (variable n) = variable n
resolved c (alias n e) = alias n e
resolved c (other t x) = other (resolved_term c t) x
resolved c (member g n) = member g n

-- a test showed that the path is there
abbrev pub is_present : Scope → Root → List Name → Bool
is_present c r ns = is_present_path (resolved c r) ns c.present

-- the hosts that a term may name
pub data Hosts : Type 0 where
  these : List Name → Hosts
  any_host : Hosts
  no_hosts : Hosts
  nobody : Hosts

abbrev pub hosts_of_kind : KindData → Hosts
hosts_of_kind never = these []
hosts_of_kind (hosts ns) = these ns
hosts_of_kind texts = any_host
hosts_of_kind anything = any_host
hosts_of_kind k = no_hosts

abbrev pub hosts_at : Spot → Hosts
hosts_at nowhere = nobody
hosts_at (spot a k) = hosts_of_kind k

abbrev pub only : Option Name → Hosts
only None = nobody
only (Some h) = these (h ∷ [])

abbrev pub hosts_of : Scope → Term → Hosts
hosts_of c (named_host n) = these (n ∷ [])
hosts_of c this_host = these (c.this ∷ [])
hosts_of c item_host = hosts_at (own_spot c (codes "item"))
hosts_of c (group_member g n) = only (member_of g n c.groups)

-- what is known of a variable of that host; the flag says that it is known to be active
abbrev pub host_spot : Scope → Bool → Name → Name → Spot
host_spot c on x g = cond ((on || is_among g c.active) && is_later (later_of g c.laters) c.place x)
    (sure (view_spot c x g)) (view_spot c x g)

-- what is known of a variable of whichever of these hosts is meant
abbrev pub each_spot : Scope → Bool → Name → List Name → Spot
each_spot c on x [] = spot true never
each_spot c on x (g ∷ gs) = join_spot (host_spot c on x g) (each_spot c on x gs)

abbrev pub spot_among : Scope → Bool → Name → Hosts → Spot
spot_among c on x (these gs) = each_spot c on x gs
spot_among c on x any_host = spot false anything
spot_among c on x no_hosts = nowhere
spot_among c on x nobody = nowhere

abbrev pub below_spot : Bool → Spot → Spot
below_spot a nowhere = nowhere
below_spot a (spot b k) = spot (a && b) k

-- without what tests taught of hosts by their names
abbrev pub unnamed : Scope → Scope
unnamed c = record c { views = []; active = [] }

-- a variable of the item's host is certain only where the item is; what a test taught of a host by
-- its name isn't said of the item, whichever host that is
abbrev pub other_spot : Scope → Term → Name → Spot
other_spot c (named_host n) x = spot_among c false x (hosts_of c (named_host n))
other_spot c this_host x = spot_among c false x (hosts_of c this_host)
other_spot c item_host x = below_spot (is_certain (own_spot c (codes "item")))
    (taught_spot (slot_at x c.item_slots)
    (spot_among (unnamed c) c.item_active x (hosts_of c item_host)))
other_spot c (group_member g n) x = spot_among c false x (hosts_of c (group_member g n))

abbrev pub with_both_kinds : Name → Expression → KindData → Option KindData → Learned → Learned
with_both_kinds n e k None l = l
with_both_kinds n e k (Some m) l = taught n e (join k m) l

-- what both ways teach
abbrev pub both_learned : Learned → Learned → Learned
both_learned nothing m = nothing
both_learned (taught n e k l) m = with_both_kinds n e k (learned_kind n e m) (both_learned l m)

abbrev pub both_present : List Present → List Present → List Present
both_present [] qs = []
both_present (p ∷ ps) qs =
    cond (is_present_path p.root p.steps qs) (p ∷ both_present ps qs) (both_present ps qs)

abbrev pub both_names : List Name → List Name → List Name
both_names [] ms = []
both_names (n ∷ ns) ms = cond (is_among n ms) (n ∷ both_names ns ms) (both_names ns ms)

abbrev pub with_both_spots : Name → Bool → KindData → Spot → Slots → Slots
with_both_spots n a k nowhere ss = ss
with_both_spots n a k (spot b m) ss = with_slot n (a && b) (join k m) ss

abbrev pub both_slots : Slots → Slots → Slots
both_slots no_slots ts = no_slots
both_slots (slot n a k ss) ts = with_both_spots n a k (slot_at n ts) (both_slots ss ts)

abbrev pub both_views : List View → List View → List View
both_views [] ws = []
both_views (v ∷ vs) ws =
    record { host = v.host; slots = both_slots v.slots (view_of v.host ws) } ∷ both_views vs ws

-- where one of the two ways was taken: what both teach
abbrev pub both_scopes : Scope → Scope → Scope
both_scopes c d = record c {
  own_slots = both_slots c.own_slots d.own_slots;
  views = both_views c.views d.views;
  learned = both_learned c.learned d.learned;
  present = both_present c.present d.present;
  active = both_names c.active d.active;
  item_slots = both_slots c.item_slots d.item_slots;
  item_active = c.item_active && d.item_active;
}
