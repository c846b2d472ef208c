-- What is left of a chain of filters is no deeper than all of it.
use Rattle.std.proofs.Common.{◌≤◌}
use Rattle.pb_syntax.proofs.expr.Expr.TheLaws.{the_size}
use Rattle.pb_syntax.proofs.expr.Expr.+drop.Given as goal

abbrev pub invariant-loop-self : goal.invariant-loop-self
invariant-loop-self l = the_size l.self ≤ the_size l.initial.self
