use Rattle.std.proofs.Common.{◌≡◌, drop, true}
use Rattle.pb_semantics.specs.Kind.{never, spot}
use Rattle.pb_taught.specs.Joined.{spots_onto}
use Rattle.pb_kind.specs.Found.{slot_given}
use Rattle.pb_taught.proofs.views.joined_slots.Given as goal

abbrev pub invariant-loop-index : goal.invariant-loop-index
invariant-loop-index l = slot_given l.joined ≡ spots_onto (drop l.index l.slots) (spot true never)
