use Rattle.std.proofs.Common.{sym, ap, ◌∙◌}
use Rattle.pb_language.specs.Kinds.{default_kind, path_spot, shown_spot}
use Rattle.pb_kind.specs.KindView.{kind_view}
use Rattle.pb_syntax.specs.ExprView.{names_of}
use Rattle.pb_kind.specs.Found.{slot_given}
use Rattle.pb_forms.proofs.Findings.{nowhere-below}
use Rattle.pb_forms.proofs.kinds.kind_or.Goals as goal

pub returns-in-None : goal.returns-in-None
returns-in-None c =
    let names = names_of c.args.steps.now in
    let m = kind_view c.args.other in
    ap (λ s. default_kind s m) (sym (nowhere-below names)) ∙ ap (λ s. default_kind (path_spot names (slot_given s)) m) (sym c.in-None.is)
    ∙ ap (λ q. default_kind (shown_spot q (path_spot names (slot_given c.args.slot.now))) m) (sym c.if-is_shown.false)
