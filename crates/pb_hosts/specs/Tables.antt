-- What hosts' variables look like to others, and what hosts have at their later places.
use Rattle.std.specs.Prelude.{ℕ, List, [], ◌∷◌, true, cond, get_or, map, nat_eq, Option, Some, None}
use Rattle.std.specs.Prelude.{String}
use Rattle.std.specs.BTreeMap.{BTreeMap}
use Rattle.std.specs.declared.alloc.Global.{Global}
use Rattle.std.specs.declared.sync.Arc.{Arc}
use Rattle.pb_semantics.specs.Data.{Fields, no_fields, field}
use Rattle.pb_semantics.specs.Kind.{Slots, no_slots, put_slot, slot}
use Rattle.pb_language.specs.Expression.{Name}
use Rattle.pb_language.specs.Kinds.{known_kind}
use Rattle.pb_language.specs.Program.{Inventory}
use Rattle.pb_language.specs.Scope.{Later, Since, View, every_name, no_since, since}
use Rattle.pb_kind.specs.KindView.{slots_view}
use Rattle.pb_kind.specs.declared.kind.Kind.{Kind}
use Rattle.pb_kind.specs.declared.kind.Slot.{Slot}
use Rattle.pb_inventory.specs.Inventory.{inventory_view}
use Rattle.pb_inventory.specs.declared.inventory.Inventory as inventory
use Rattle.pb_hosts.specs.declared.lasting.Lasting.{Lasting}

abbrev pub host_names : Inventory → List Name
host_names i = map (λ h. h.name) i.hosts

-- a view for each host
abbrev pub views_from : List Name → List Slots → List View
views_from [] ss = []
views_from (n ∷ ns) [] = []
views_from (n ∷ ns) (s ∷ ss) = record { host = n; slots = s } ∷ views_from ns ss

abbrev pub slots_of_each : List (Arc (BTreeMap (String Global) (Slot Kind)) Global) → List Slots
slots_of_each ms = map (λ m. slots_view m.value.entries) ms

abbrev pub views_with : inventory.Inventory
    → List (Arc (BTreeMap (String Global) (Slot Kind)) Global) → List View
views_with i ms = views_from (host_names (inventory_view i)) (slots_of_each ms)

-- slots with the kinds of the values of a layer over them
abbrev pub with_layer : Slots → Fields → Slots
with_layer ss no_fields = ss
with_layer ss (field n d fs) = with_layer (put_slot n true (known_kind d) ss) fs

-- slots with others over them
abbrev pub with_slots : Slots → Slots → Slots
with_slots ss no_slots = ss
with_slots ss (slot n a k ts) = with_slots (put_slot n a k ss) ts

abbrev pub slots_in : List View → List Slots
slots_in vs = map (λ v. v.slots) vs

-- of each host the slots of the one that stands for it
abbrev pub shared_slots : List Slots → List ℕ → List Slots
shared_slots ss firsts = map (λ f. get_or ss f no_slots) firsts

-- a name without a place
abbrev pub never_lasts : ℕ
never_lasts = 4294967295

abbrev pub every_from : Option ℕ → Since
every_from None = no_since
every_from (Some p) = every_name p no_since

-- the names with the places from which on they last
abbrev pub names_from : List Name → List ℕ → Since → Since
names_from [] ps l = l
names_from (n ∷ ns) [] l = l
names_from (n ∷ ns) (p ∷ ps) l =
    cond (nat_eq p never_lasts) (names_from ns ps l) (since n p (names_from ns ps l))

abbrev pub since_view : List Name → Lasting → Since
since_view ns l = names_from ns l.from.items (every_from l.every)

-- what each host has
abbrev pub laters_from : List Name → List Since → List Later
laters_from [] ls = []
laters_from (h ∷ hs) [] = []
laters_from (h ∷ hs) (l ∷ ls) = record { host = h; names = l } ∷ laters_from hs ls
