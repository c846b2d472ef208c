use Rattle.std.proofs.Common.{◌≡◌, drop}
use Rattle.pb_language.specs.Narrow.{can_have}
use Rattle.pb_kind.specs.KindView.{kind_view}
use Rattle.pb_syntax.specs.ExprView.{names_of}
use Rattle.pb_forms.proofs.defined.can_have.Given as goal

abbrev pub invariant-loop-step : goal.invariant-loop-step
invariant-loop-step l = can_have (names_of l.steps) (kind_view l.kind) ≡ can_have (names_of (drop l.step-index l.steps)) (kind_view l.here)
