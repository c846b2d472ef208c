use Rattle.std.proofs.Common.{◌≡◌, ◌∙◌, ap, get_or, map, refl, sym, arith}
use Rattle.std.proofs.lemmas.Result.{IfErr-weaker, IfOk-weaker}
use Rattle.pb_history.specs.Happens.{step_in}
use Rattle.pb_history.specs.Jobs.{pass_calls}
use Rattle.pb_language.specs.Cases.{action_name}
use Rattle.pb_language.specs.Start.{call_count}
use Rattle.pb_start.specs.Passes.{pass_view}
use Rattle.pb_jobs.proofs.HostTasks.{not_out}
use Rattle.pb_jobs.proofs.Nodes.{at_work, host_is, job_is}
use Rattle.pb_jobs.proofs.scene.RunScene.calls_again.Goals as goal

pub returns-in_default-clause-there : goal.returns-in_default-clause-there
returns-in_default-clause-there c = λ e. not_out c.args.self.now c.args.host (c.in_default.ensures.none refl)

pub returns-clause-repeats : goal.returns-clause-repeats
returns-clause-repeats c = IfOk-weaker c.calls_at.result _ _
    (λ cs made reading s scene w.
    let is = c.in-Some.ensures.task in
    let x = c.in-Some.task.state.now in
    let prepares = is.task reading s scene (at_work w) in
    let host = host_is reading c.args.self.now.core.now s scene.kept.core c.args.host (at_work w) x is.state in
    let job = job_is reading c.in-Runs.ticket c.in-Runs.attempts c.in-Runs.calls c.in-Runs.passes x.stage w.host.stage w.node w.attempts w.passes c.in-Runs.is w.stage host.stage in
    let passes : map pass_view c.in-Runs.passes.items ≡ w.passes = sym (job.1 ∙ scene.kept.reads.passes c.in-Runs.passes) in
    made reading s scene w.host w.there (step_in w).task prepares
    ∙ ap (λ ps. pass_calls c.args.host w.host.name (action_name (step_in w).task.action) ps (get_or c.args.self.now.calls.now c.args.host 0)) (ap (λ qs. map pass_view qs) c.deref.ensures.value ∙ passes))
    c.calls_at.ensures.calls

pub returns-clause-there : goal.returns-clause-there
returns-clause-there c = IfErr-weaker c.calls_at.result _ _ (λ e no q. absurd (no q)) c.calls_at.ensures.there

pub returns-clause-full : goal.returns-clause-full
returns-clause-full c = IfErr-weaker c.calls_at.result _ _
    (λ e more q reading s scene w.
    let is = c.in-Some.ensures.task in
    let x = c.in-Some.task.state.now in
    let host = host_is reading c.args.self.now.core.now s scene.kept.core c.args.host (at_work w) x is.state in
    let job = job_is reading c.in-Runs.ticket c.in-Runs.attempts c.in-Runs.calls c.in-Runs.passes x.stage w.host.stage w.node w.attempts w.passes c.in-Runs.is w.stage host.stage in
    let passes : map pass_view c.in-Runs.passes.items ≡ w.passes = sym (job.1 ∙ scene.kept.reads.passes c.in-Runs.passes) in
    omega (arith, more q, is.before, ap call_count (ap (λ qs. map pass_view qs) c.deref.ensures.value ∙ passes)))
    c.calls_at.ensures.full
