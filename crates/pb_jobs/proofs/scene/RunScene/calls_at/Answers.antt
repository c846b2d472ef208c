use Rattle.std.proofs.Common.{◌∙◌, ap, get_or, map, sym}
use Rattle.std.proofs.lemmas.Result.{IfOk-weaker}
use Rattle.pb_language.specs.Cases.{action_name}
use Rattle.pb_history.specs.Jobs.{pass_calls}
use Rattle.pb_start.specs.Actions.{action_view}
use Rattle.pb_start.specs.Passes.{pass_view}
use Rattle.pb_start.specs.Prepared.{trees_of}
use Rattle.pb_jobs.proofs.scene.RunScene.calls_at.Goals as goal

pub returns-clause-calls : goal.returns-clause-calls
returns-clause-calls c = IfOk-weaker c.calls_of.result _ _
    (λ cs made reading s scene h there t prepares.
    let task = c.args.task.now in
    let p = task.task.now in
    let ps = map pass_view c.args.passes.now in
    made (trees_of p)
    ∙ ap (λ n. pass_calls c.args.host n (action_name (action_view (trees_of p) p.action)) ps task.before) (c.requires.name reading s scene h there)
    ∙ ap (λ n. pass_calls c.args.host h.name (action_name (action_view (trees_of p) p.action)) ps n) c.requires.before
    ∙ ap (λ a. pass_calls c.args.host h.name (action_name a) ps (get_or c.args.self.now.calls.now c.args.host 0)) (sym prepares.action))
    c.calls_of.ensures.calls
