-- What is known of a name that a look-up has found.
use Rattle.std.specs.Prelude.{Option, None, Some}
use denote.Ref.{Bor}
use Rattle.pb_semantics.specs.Kind.{Spot, nowhere, spot}
use Rattle.pb_kind.specs.KindView.{kind_view, is_always}
use Rattle.pb_kind.specs.declared.kind.Slot.{Slot}
use Rattle.pb_kind.specs.declared.kind.Kind.{Kind}

abbrev pub spot_view : Option (Bor (Slot Kind)) → Spot
spot_view None = nowhere
spot_view (Some s) = spot (is_always s.now.presence) (kind_view s.now.kind)

-- what is known by a slot, where there is one
abbrev pub slot_given : Option (Slot Kind) → Spot
slot_given None = nowhere
slot_given (Some s) = spot (is_always s.presence) (kind_view s.kind)
