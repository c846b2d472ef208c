-- What is known of a variable of which one of several slots is meant.
use Rattle.std.specs.Prelude.{List, [], ◌∷◌, Option}
use Rattle.pb_semantics.specs.Join.{join_spot}
use Rattle.pb_semantics.specs.Kind.{Spot}
use Rattle.pb_kind.specs.declared.kind.Kind.{Kind}
use Rattle.pb_kind.specs.declared.kind.Slot.{Slot}
use Rattle.pb_kind.specs.Found.{slot_given}

-- one of these, or else the last
abbrev pub spots_onto : List (Option (Slot Kind)) → Spot → Spot
spots_onto [] t = t
spots_onto (s ∷ ss) t = join_spot (slot_given s) (spots_onto ss t)
