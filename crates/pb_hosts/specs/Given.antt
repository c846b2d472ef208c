-- What the inventory says of hosts' variables, where hosts share it.
use Rattle.std.specs.Prelude.{◌≡◌, List, Some, String, map, slice_get}
use Rattle.std.specs.BTreeMap.{BTreeMap}
use Rattle.std.specs.declared.alloc.Global.{Global}
use Rattle.std.specs.declared.sync.Arc.{Arc}
use Rattle.pb_semantics.specs.Kind.{Slots}
use Rattle.pb_language.specs.Kinds.{known_slots}
use Rattle.pb_kind.specs.KindView.{slots_view}
use Rattle.pb_kind.specs.declared.kind.Kind.{Kind}
use Rattle.pb_kind.specs.declared.kind.Slot.{Slot}
use Rattle.pb_inventory.specs.Words.{base_at, bases_view, layered}
use Rattle.pb_inventory.specs.declared.inventory.Inventory.{Inventory}
use Rattle.pb_hosts.specs.Tables.{slots_of_each, with_slots}
use Rattle.pb_hosts.specs.declared.given.Given.{Given}

-- what each base says
abbrev pub AreBases : Inventory
    → List (Arc (BTreeMap (String Global) (Slot Kind)) Global) → Type 0
AreBases i bs = slots_of_each bs ≡ map (λ ls. known_slots (layered ls)) (bases_view i)

-- what is known of a host is what its base says, and its own over it
abbrev pub IsGiven : Inventory → Given → Type 0
IsGiven i g = slots_view g.known.value.entries
    ≡ with_slots (known_slots (layered (base_at (bases_view i) g.base))) (slots_view g.own.entries)

abbrev pub slots_given : List Given → List Slots
slots_given gs = map (λ g. slots_view g.known.value.entries) gs

-- of the one that stands for it the same is known
abbrev pub IsFirst : List Slots → Given → Type 0
IsFirst ss g = slice_get ss g.first ≡ Some (slots_view g.known.value.entries)
