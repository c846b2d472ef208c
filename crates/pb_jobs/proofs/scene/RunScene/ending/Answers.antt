use Rattle.std.proofs.Common.{◌≡◌, ◌∙◌, ap, map, subst, sym}
use Rattle.pb_history.specs.Happens.{answered, step_in}
use Rattle.pb_language.specs.Give.{Admitted, admit_passes}
use Rattle.pb_language.specs.World.{World}
use Rattle.pb_machine.specs.Run.{world_of}
use Rattle.pb_finish.specs.Answers.{answer_data}
use Rattle.pb_finish.specs.Endings.{EndsAs}
use Rattle.pb_start.specs.Passes.{pass_view}
use Rattle.pb_world.specs.World.{world_shown}
use Rattle.pb_jobs.proofs.HostTasks.{world_there}
use Rattle.pb_jobs.proofs.Nodes.{at_work, host_is, job_is}
use Rattle.pb_jobs.proofs.scene.RunScene.ending.Goals as goal

pub returns-clause-comes : goal.returns-clause-comes
returns-clause-comes c = λ reading s scene w.
    let self = c.args.self.now in
    let is = c.requires.task in
    let x = c.args.task.now.state.now in
    let t = (step_in w).task in
    let e = c.in_ok-ending.ending in
    let xs = map answer_data c.args.answers.now in
    let prepares = is.task reading s scene (at_work w) in
    let host = host_is reading self.core.now s scene.kept.core c.args.host (at_work w) x is.state in
    let job = job_is reading c.in-Runs.ticket c.in-Runs.attempts c.in-Runs.calls c.in-Runs.passes x.stage w.host.stage w.node w.attempts w.passes c.in-Runs.is w.stage host.stage in
    let passes : map pass_view c.in-Runs.passes.items ≡ w.passes = sym (job.1 ∙ scene.kept.reads.passes c.in-Runs.passes) in
    let world = world_there self c.args.host c.args.task.now.task.now c.in_ok-failure.failure c.as_ref.result c.of_host-world.result is.task c.in_ok-failure.ensures c.as_ref.ensures.value c.of_host-world.ensures reading s scene (at_work w) in
    let made : admit_passes t.action (map pass_view c.in-Runs.passes.items) xs ≡ answered w xs = ap (λ ps. admit_passes t.action ps xs) passes in
    let shown : EndsAs e (world_of s w.batch w.host t) t c.in-Runs.attempts (admit_passes t.action (map pass_view c.in-Runs.passes.items) xs) =
    subst (λ (v : World). EndsAs e v t c.in-Runs.attempts (admit_passes t.action (map pass_view c.in-Runs.passes.items) xs)) world
    (subst (λ qs. EndsAs e (world_shown c.of_host-world.result) t c.in-Runs.attempts (admit_passes t.action (map pass_view qs) xs)) c.deref.ensures.value (c.in_ok-ending.ensures.ends t prepares)) in
    subst (λ n. EndsAs e (world_of s w.batch w.host t) t n (answered w xs)) (sym job.0) (subst (λ (a : Admitted). EndsAs e (world_of s w.batch w.host t) t c.in-Runs.attempts a) made shown)
