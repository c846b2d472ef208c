use Rattle.std.proofs.Common.{◌∙◌, ap, sym}
use Rattle.pb_language.specs.Expansion.{trees}
use Rattle.pb_language.specs.Rules.{asserted_expressions, part_expressions, work_expressions}
use Rattle.pb_task.specs.Tasks.{asserted_view, work_view}
use Rattle.pb_template.specs.Entries.{entries_view}
use Rattle.pb_vars.specs.InScope.{in_scope}
use Rattle.pb_vars.specs.Reads.{expanded_every_read}
use Rattle.pb_rules.proofs.TaskReads.{both-first, both-not}
use Rattle.pb_rules.proofs.reads.work_holds.Goals as goal

pub returns-then-entries_hold : goal.returns-then-entries_hold
returns-then-entries_hold g c =
    let t = trees (in_scope c.args.scope.now) in
    let f = g.Q.Question.holds c.args.question.now in
    let ps = entries_view c.args.arguments.now in
    both-first t f (part_expressions ps) (asserted_expressions (asserted_view c.in-Assert.asserted)) _ c.if-entries_hold.ensures c.asserted_holds.ensures
    ∙ ap (λ w. expanded_every_read t f (work_expressions (work_view w ps))) (sym c.in-Assert.is)

pub returns-else-entries_hold : goal.returns-else-entries_hold
returns-else-entries_hold g c =
    let t = trees (in_scope c.args.scope.now) in
    let f = g.Q.Question.holds c.args.question.now in
    let ps = entries_view c.args.arguments.now in
    c.entries_hold.ensures ∙ sym c.if-entries_hold.ensures ∙ both-not t f (part_expressions ps) (asserted_expressions (asserted_view c.in-Assert.asserted)) c.if-entries_hold.ensures
    ∙ ap (λ w. expanded_every_read t f (work_expressions (work_view w ps))) (sym c.in-Assert.is)
