use Rattle.std.proofs.Common.{◌≡◌, drop}
use Rattle.pb_semantics.specs.Kind.{never}
use Rattle.pb_kind.specs.Growing.{growing_view, joined_onto}
use Rattle.pb_kind.proofs.grow.join_all.Given as goal

abbrev pub invariant-loop-index : goal.invariant-loop-index
invariant-loop-index l = growing_view l.joined ≡ joined_onto (drop l.index l.kinds) never
