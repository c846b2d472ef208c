-- What is known of names that are the same for a host in each play.
use Rattle.std.specs.Prelude.{◌≡◌, Some, option_map, slice_get}
use Rattle.pb_semantics.specs.Kind.{Slots}
use Rattle.pb_language.specs.Program.{Inventory}
use Rattle.pb_kind.specs.KindView.{slots_view}
use Rattle.pb_hosts.specs.Casts.{constant_slots}
use Rattle.pb_hosts.specs.declared.constants.Constants.{Constants}

abbrev pub constants_view : Constants → Slots
constants_view c = slots_view c.slots.entries

-- they are those of a host of the inventory
pub record AreConstants (i : Inventory) (c : Constants) : Type 0 where
  pub named : option_map (λ h. h.name) (slice_get i.hosts c.host) ≡ Some c.name.now
  pub known : constants_view c ≡ constant_slots i.groups c.name.now
