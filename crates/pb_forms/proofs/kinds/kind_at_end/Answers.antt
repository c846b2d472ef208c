use Rattle.std.proofs.Common.{sym, ap, ◌∙◌}
use Rattle.pb_language.specs.Kinds.{path_spot}
use Rattle.pb_language.specs.Scope.{spot_kind}
use Rattle.pb_syntax.specs.ExprView.{names_of}
use Rattle.pb_kind.specs.Found.{slot_given}
use Rattle.pb_kind.proofs.KindLemmas.{kind_view-Never}
use Rattle.pb_forms.proofs.Findings.{nowhere-below}
use Rattle.pb_forms.proofs.kinds.kind_at_end.Goals as goal

pub returns-in-None : goal.returns-in-None
returns-in-None c =
    let names = names_of c.args.steps.now in
    kind_view-Never ∙ ap spot_kind (sym (nowhere-below names)) ∙ ap (λ s. spot_kind (path_spot names (slot_given s))) (sym c.in-None.is)
