use Rattle.std.proofs.Common.{◌∙◌, sym}
use Rattle.pb_language.specs.Expansion.{trees}
use Rattle.pb_language.specs.Plays.{append_expressions}
use Rattle.pb_language.specs.Rules.{list_expressions, until_expressions}
use Rattle.pb_task.specs.Tasks.{task_view}
use Rattle.pb_vars.specs.InScope.{in_scope}
use Rattle.pb_rules.proofs.TaskReads.{both-first, both-not}
use Rattle.pb_rules.proofs.reads.give_holds.Goals as goal

pub returns-then-not-list_holds : goal.returns-then-not-list_holds
returns-then-not-list_holds g c =
    let k = task_view c.args.task.now in
    both-not (trees (in_scope c.args.scope.now)) (g.Q.Question.holds c.args.question.now) (list_expressions k.changed_when)
    (append_expressions (list_expressions k.failed_when) (until_expressions k.attempts)) c.if-not-list_holds.ensures

pub returns-then-list_holds : goal.returns-then-list_holds
returns-then-list_holds g c =
    let t = trees (in_scope c.args.scope.now) in
    let f = g.Q.Question.holds c.args.question.now in
    let k = task_view c.args.task.now in
    let a = list_expressions k.failed_when in
    let b = until_expressions k.attempts in
    both-first t f (list_expressions k.changed_when) (append_expressions a b) _ c.if-not-list_holds.ensures (both-first t f a b _ c.if-list_holds.ensures c.until_holds.ensures)

pub returns-else-list_holds : goal.returns-else-list_holds
returns-else-list_holds g c =
    let t = trees (in_scope c.args.scope.now) in
    let f = g.Q.Question.holds c.args.question.now in
    let k = task_view c.args.task.now in
    let a = list_expressions k.failed_when in
    let b = until_expressions k.attempts in
    both-first t f (list_expressions k.changed_when) (append_expressions a b) _ c.if-not-list_holds.ensures (c.list_holds-2.ensures ∙ sym c.if-list_holds.ensures ∙ both-not t f a b c.if-list_holds.ensures)
