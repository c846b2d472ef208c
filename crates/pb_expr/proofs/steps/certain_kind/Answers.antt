use Rattle.std.proofs.Common.{sym, ap, ◌∙◌}
use Rattle.pb_semantics.specs.Kind.{spot}
use Rattle.pb_kind.specs.KindView.{kind_view}
use Rattle.pb_forms.specs.FitView.{certain}
use Rattle.pb_expr.proofs.steps.certain_kind.Goals as goal

pub returns-then-is_always : goal.returns-then-is_always
returns-then-is_always c = sym (ap certain (sym c.in_ok-slot.ensures) ∙ ap (λ a. certain (spot a (kind_view c.in_ok-slot.slot.now.kind))) (sym c.is_always.ensures ∙ c.if-is_always.true))

pub returns-else-is_always : goal.returns-else-is_always
returns-else-is_always c = sym (ap certain (sym c.in_ok-slot.ensures) ∙ ap (λ a. certain (spot a (kind_view c.in_ok-slot.slot.now.kind))) (sym c.is_always.ensures ∙ c.if-is_always.false))
