use Rattle.std.proofs.Common.{◌≡◌, drop}
use Rattle.pb_language.specs.Evaluation.{value_below}
use Rattle.pb_value.specs.View.{view}
use Rattle.pb_syntax.specs.ExprView.{names_of}
use Rattle.pb_eval.proofs.look.inner_value.Given as goal

abbrev pub invariant-loop-step : goal.invariant-loop-step
invariant-loop-step l = value_below (names_of l.steps) (view l.outer) ≡ value_below (names_of (drop l.step-index l.steps)) (view l.here)
