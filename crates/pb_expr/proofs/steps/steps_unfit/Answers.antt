use Rattle.std.proofs.Common.{sym, ap, ◌∙◌}
use Rattle.pb_language.specs.Fit.{steps_fault}
use Rattle.pb_language.specs.Scope.{spot_kind}
use Rattle.pb_syntax.specs.ExprView.{names_of}
use Rattle.pb_kind.specs.Found.{slot_given}
use Rattle.pb_forms.proofs.Findings.{never-steps}
use Rattle.pb_expr.proofs.steps.steps_unfit.Goals as goal

pub returns-in-None : goal.returns-in-None
returns-in-None c =
    let names = names_of c.args.steps.now in
    never-steps names ∙ ap (λ s. steps_fault names (spot_kind (slot_given s))) (sym c.in-None.is)
