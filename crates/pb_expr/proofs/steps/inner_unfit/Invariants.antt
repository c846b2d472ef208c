use Rattle.std.proofs.Common.{drop}
use Rattle.pb_kind.specs.KindView.{kind_view}
use Rattle.pb_syntax.specs.ExprView.{names_of}
use Rattle.pb_forms.specs.FitView.{LeadsTo}
use Rattle.pb_expr.proofs.steps.inner_unfit.Given as goal

abbrev pub invariant-loop-step : goal.invariant-loop-step
invariant-loop-step l = LeadsTo (names_of l.steps) (kind_view l.outer) (names_of (drop l.step-index l.steps)) (kind_view l.here)
