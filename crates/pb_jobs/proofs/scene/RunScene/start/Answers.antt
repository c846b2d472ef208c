use Rattle.std.proofs.Common.{◌≡◌, ◌∙◌, ap, get_or, map, refl, arith}
use Rattle.std.proofs.lemmas.Result.{err_from_is_err_and}
use Rattle.pb_history.specs.Happens.{task_of_start}
use Rattle.pb_history.specs.Jobs.{pass_calls}
use Rattle.pb_language.specs.Cases.{action_name}
use Rattle.pb_language.specs.Start.{call_count, plan_of}
use Rattle.pb_start.specs.Passes.{pass_view}
use Rattle.pb_jobs.proofs.HostTasks.{world_there}
use Rattle.pb_jobs.proofs.Nodes.{at_start}
use Rattle.pb_jobs.proofs.scene.RunScene.start.Goals as goal

pub returns-clause-starts : goal.returns-clause-starts
returns-clause-starts c = λ reading s scene m ps planned.
    let self = c.args.self.now in
    let t = task_of_start m in
    let is = c.in-Some.ensures.task in
    let prepares = is.task reading s scene (at_start m) in
    let world = world_there self c.args.host c.in-Some.task.task.now c.in_ok-failure.failure c.as_ref.result c.of_host-world.result is.task c.in_ok-failure.ensures c.as_ref.ensures.value c.of_host-world.ensures reading s scene (at_start m) in
    let passes : map pass_view c.in_ok-passes.passes.items ≡ ps = c.in_ok-passes.ensures t prepares ps (ap (λ w. plan_of w t t.loop) world ∙ planned) in
    record {
      passes = passes;
      calls = c.in_ok-calls.ensures.calls reading s scene m.host m.there t prepares ∙ ap (λ qs. pass_calls c.args.host m.host.name (action_name t.action) qs (get_or self.calls.now c.args.host 0)) (ap (λ qs. map pass_view qs) c.deref.ensures.value ∙ passes);
    }

pub returns-in_default-clause-there : goal.returns-in_default-clause-there
returns-in_default-clause-there c = λ e. c.in_default.ensures.none refl

pub returns-in_err-calls-clause-full : goal.returns-in_err-calls-clause-full
returns-in_err-calls-clause-full c =
    let p = err_from_is_err_and c.from_residual-in_err-calls.result c.from_residual-in_err-calls.ensures.1 in
    let self = c.args.self.now in
    let is = c.in-Some.ensures.task in
    rw (p.1, p.2) (λ e reading s scene m ps planned.
    let t = task_of_start m in
    let prepares = is.task reading s scene (at_start m) in
    let world = world_there self c.args.host c.in-Some.task.task.now c.in_ok-failure.failure c.as_ref.result c.of_host-world.result is.task c.in_ok-failure.ensures c.as_ref.ensures.value c.of_host-world.ensures reading s scene (at_start m) in
    let passes : map pass_view c.in_ok-passes.passes.items ≡ ps = c.in_ok-passes.ensures t prepares ps (ap (λ w. plan_of w t t.loop) world ∙ planned) in
    omega (arith, c.in_err-calls.ensures.full e, is.before, ap call_count (ap (λ qs. map pass_view qs) c.deref.ensures.value ∙ passes)))
