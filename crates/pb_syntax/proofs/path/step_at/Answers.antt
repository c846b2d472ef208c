use Rattle.std.proofs.Common.{IfErr, subst, sym}
use Rattle.pb_syntax.specs.Reads.{IsNoStep}
use Rattle.pb_syntax.proofs.Steps.{bracket-step}
use Rattle.pb_syntax.proofs.path.step_at.Goals as goal

pub returns-in-OpenBracket-clause-refused : goal.returns-in-OpenBracket-clause-refused
returns-in-OpenBracket-clause-refused c =
    subst (λ x. IfErr c.bracketed_name.result (λ e. IsNoStep c.args.text.now e x)) (sym (bracket-step c.args.text.now c.args.token c.in-OpenBracket.is)) c.bracketed_name.ensures.refused
