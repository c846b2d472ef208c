use Rattle.std.proofs.Common.{◌≡◌, Some, drop}
use Rattle.pb_language.specs.Expression.{Expression}
use Rattle.pb_language.specs.Scope.{learned_kind}
use Rattle.pb_syntax.specs.Aliases.{Trees}
use Rattle.pb_taught.specs.TaughtView.{learned_view}
use Rattle.pb_taught.proofs.scope.kind_learned.Given as goal

abbrev pub invariant-loop-taught : goal.invariant-loop-taught
invariant-loop-taught l = (f : Trees) (e : Expression) → f l.name ≡ Some e
    → learned_kind l.name e (learned_view f l.learned) ≡ learned_kind l.name e (learned_view f (drop l.taught-index l.learned))
