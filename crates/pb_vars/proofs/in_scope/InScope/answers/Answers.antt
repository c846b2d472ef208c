use Rattle.std.proofs.Common.{ap, ◌∙◌}
use Rattle.pb_vars.specs.InScope.{in_scope}
use Rattle.pb_vars.specs.Rounds.{answer_named}
use Rattle.pb_vars.proofs.AfterRounds.{rounds-answer}
use Rattle.pb_vars.proofs.in_scope.InScope.answers.Goals as goal

pub returns : goal.returns
returns g c =
    let f = g.Q.Question.holds c.args.question.now in
    let ps = in_scope c.args.self.now in
    record { at = λ n. ap (answer_named n ps) c.in_ok-all.ensures ∙ rounds-answer f ps n }
