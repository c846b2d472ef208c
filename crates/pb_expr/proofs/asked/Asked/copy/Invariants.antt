use Rattle.pb_language.specs.Scope.{Scope}
use Rattle.pb_syntax.specs.Aliases.{Trees}
use Rattle.pb_expr.specs.Found.{AreRight}
use Rattle.pb_expr.proofs.asked.Asked.copy.Given as goal

abbrev pub invariant-loop-name : goal.invariant-loop-name
invariant-loop-name l = (c : Scope) (f : Trees) → AreRight c f l.self.found.entries → AreRight c f l.found.entries × AreRight c f l.name-iterator
