use Rattle.std.proofs.Common.{◌≡◌, drop}
use Rattle.pb_semantics.specs.Keeps.{is_among}
use Rattle.pb_syntax.specs.ExprView.{names_of}
use Rattle.pb_taught.proofs.scope.has_name.Given as goal

abbrev pub invariant-loop-other : goal.invariant-loop-other
invariant-loop-other l = is_among l.name (names_of l.names) ≡ is_among l.name (names_of (drop l.other-index l.names))
