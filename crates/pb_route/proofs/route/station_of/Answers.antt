use Rattle.std.proofs.Common.{◌∙◌, ap}
use Rattle.pb_language.specs.Plays.{task_at}
use Rattle.pb_task.specs.Tasks.{task_view}
use Rattle.pb_template.specs.Entries.{entries_view}
use Rattle.pb_flow.specs.Nodes.{around_view}
use Rattle.pb_route.proofs.Stations.{if-ok}
use Rattle.pb_route.proofs.route.station_of.Goals as goal

pub returns-clause-task : goal.returns-clause-task
returns-clause-task c =
    if-ok c.of.result _ _ c.of.ensures.task (λ s told. λ ms v k.
    let n = c.args.node.now in
    let done = c.in-Some.ensures ms c.args.play.now.gathering v k in
    told ms done.resolved ∙ ap (λ xs. task_at (around_view ms (entries_view xs) n.around.value) n.place (task_view c.in-Some.task.now)) c.deref.ensures.value
    ∙ ap (task_at (around_view ms (entries_view c.args.play.now.vars.items) n.around.value) n.place) done.view)
