use Rattle.std.proofs.Common.{◌∙◌, ap, sym}
use Rattle.std.proofs.Math.Path.{fun_ext}
use Rattle.pb_language.specs.Expansion.{trees}
use Rattle.pb_syntax.specs.ExprView.{expr_view}
use Rattle.pb_vars.specs.InScope.{in_scope}
use Rattle.pb_vars.specs.Reads.{every_read}
use Rattle.pb_vars.specs.Rounds.{answer_named, through}
use Rattle.pb_vars.proofs.AfterRounds.{through-trees}
use Rattle.pb_vars.proofs.in_scope.InScope.holds.Goals as goal

pub returns : goal.returns
returns g c =
    let f = g.Q.Question.holds c.args.question.now in
    let e = expr_view c.args.expr.now in
    c.every_read.ensures
    ∙ ap (λ bs. every_read (through (λ n. answer_named n (in_scope c.args.self.now) bs) f) e) c.as_slice.ensures.value
    ∙ ap (λ a. every_read (through a f) e) (fun_ext c.requires.answered.at)
    ∙ sym (through-trees f (trees (in_scope c.args.self.now)) e)
