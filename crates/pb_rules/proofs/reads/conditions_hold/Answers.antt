use Rattle.std.proofs.Common.{◌∙◌, ap, sym}
use Rattle.pb_language.specs.Expansion.{trees}
use Rattle.pb_syntax.specs.ExprView.{exprs_view}
use Rattle.pb_vars.specs.InScope.{in_scope}
use Rattle.pb_vars.specs.Reads.{expanded_every_read}
use Rattle.pb_rules.specs.Sites.{conditions_round}
use Rattle.pb_rules.proofs.TaskReads.{both-first, both-not}
use Rattle.pb_rules.proofs.reads.conditions_hold.Goals as goal

pub returns-then-round_holds : goal.returns-then-round_holds
returns-then-round_holds g c =
    let t = trees (in_scope c.args.scope.now) in
    let f = g.Q.Question.holds c.args.question.now in
    both-first t f (conditions_round c.args.around.now) (exprs_view c.args.task.now.when.items) _ c.if-round_holds.ensures
    (c.all_hold.ensures ∙ ap (λ es. expanded_every_read t f (exprs_view es)) c.deref.ensures.value)

pub returns-else-round_holds : goal.returns-else-round_holds
returns-else-round_holds g c =
    c.round_holds.ensures ∙ sym c.if-round_holds.ensures
    ∙ both-not (trees (in_scope c.args.scope.now)) (g.Q.Question.holds c.args.question.now) (conditions_round c.args.around.now) (exprs_view c.args.task.now.when.items) c.if-round_holds.ensures
