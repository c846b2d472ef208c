use Rattle.std.proofs.Common.{◌≡◌, ◌∙◌, true, ap, sym}
use Rattle.pb_language.specs.Expansion.{trees}
use Rattle.pb_language.specs.Plays.{append_expressions}
use Rattle.pb_language.specs.Rules.{give_expressions, option_expressions, work_expressions}
use Rattle.pb_syntax.specs.ExprView.{exprs_view}
use Rattle.pb_task.specs.Tasks.{task_view, work_view}
use Rattle.pb_template.specs.Entries.{entries_view}
use Rattle.pb_vars.specs.InScope.{in_scope}
use Rattle.pb_vars.specs.Reads.{expanded_every_read}
use Rattle.pb_rules.specs.Sites.{conditions_round}
use Rattle.pb_rules.proofs.TaskReads.{both-first, both-not}
use Rattle.pb_rules.proofs.reads.task_holds.Goals as goal

pub returns-then-not-option_holds : goal.returns-then-not-option_holds
returns-then-not-option_holds g c =
    let k = task_view c.args.task.now in
    let cs = append_expressions (conditions_round c.args.around.now) (exprs_view c.args.task.now.when.items) in
    both-not (trees (in_scope c.args.scope.now)) (g.Q.Question.holds c.args.question.now) (option_expressions k.loop)
    (append_expressions cs (append_expressions (work_expressions k.work) (give_expressions k))) c.if-not-option_holds.ensures

pub returns-then-not-conditions_hold : goal.returns-then-not-conditions_hold
returns-then-not-conditions_hold g c =
    let t = trees (in_scope c.args.scope.now) in
    let f = g.Q.Question.holds c.args.question.now in
    let k = task_view c.args.task.now in
    let cs = append_expressions (conditions_round c.args.around.now) (exprs_view c.args.task.now.when.items) in
    let done = append_expressions (work_expressions k.work) (give_expressions k) in
    both-first t f (option_expressions k.loop) (append_expressions cs done) _ c.if-not-option_holds.ensures (both-not t f cs done c.if-not-conditions_hold.ensures)

pub returns-then-work_holds : goal.returns-then-work_holds
returns-then-work_holds g c =
    let t = trees (in_scope c.args.scope.now) in
    let f = g.Q.Question.holds c.args.question.now in
    let k = task_view c.args.task.now in
    let cs = append_expressions (conditions_round c.args.around.now) (exprs_view c.args.task.now.when.items) in
    let work = work_expressions k.work in
    let give = give_expressions k in
    let worked : true ≡ expanded_every_read t f work = c.if-work_holds.ensures ∙ ap (λ es. expanded_every_read t f (work_expressions (work_view c.args.task.now.work (entries_view es)))) c.deref.ensures.value in
    both-first t f (option_expressions k.loop) (append_expressions cs (append_expressions work give)) _ c.if-not-option_holds.ensures
    (both-first t f cs (append_expressions work give) _ c.if-not-conditions_hold.ensures (both-first t f work give _ worked c.give_holds.ensures))

pub returns-else-work_holds : goal.returns-else-work_holds
returns-else-work_holds g c =
    let t = trees (in_scope c.args.scope.now) in
    let f = g.Q.Question.holds c.args.question.now in
    let k = task_view c.args.task.now in
    let cs = append_expressions (conditions_round c.args.around.now) (exprs_view c.args.task.now.when.items) in
    let work = work_expressions k.work in
    let give = give_expressions k in
    both-first t f (option_expressions k.loop) (append_expressions cs (append_expressions work give)) _ c.if-not-option_holds.ensures
    (both-first t f cs (append_expressions work give) _ c.if-not-conditions_hold.ensures
    (c.work_holds.ensures ∙ sym c.if-work_holds.ensures ∙ both-not t f work give
    (c.if-work_holds.ensures ∙ ap (λ es. expanded_every_read t f (work_expressions (work_view c.args.task.now.work (entries_view es)))) c.deref.ensures.value)))
