use Rattle.std.proofs.Common.{◌≡◌, ◌<◌, Some, arith, length, slice_get, string_bytes, subst, sym}
use Rattle.std.proofs.lemmas.List.{get_or_default}
use Rattle.pb_core.proofs.Hosts.{there}
use Rattle.pb_jobs.proofs.HostTasks.{name_is, step_is, task_is, unnamed_task, unplanned_task, unplayed_task, untold_task}
use Rattle.pb_jobs.proofs.scene.RunScene.task_at.Goals as goal

pub returns-in_default-play-clause-none : goal.returns-in_default-play-clause-none
returns-in_default-play-clause-none c = λ e. unplayed_task c.args.self.now c.args.host (sym c.in_default-play.ensures)

pub returns-then-index-len-clause-none : goal.returns-then-index-len-clause-none
returns-then-index-len-clause-none c = λ e.
    untold_task c.args.self.now c.args.host c.in-Some.index c.in-Some-play.play.now c.in-Some.ensures.node (sym c.in-Some-play.ensures) (omega (arith, c.if-index-len.true, c.len.ensures))

pub returns-then-index-len-2-clause-none : goal.returns-then-index-len-2-clause-none
returns-then-index-len-2-clause-none c = λ e.
    unplanned_task c.args.self.now c.args.host c.in-Some.index c.in-Some-play.play.now c.in-Some.ensures.node (sym c.in-Some-play.ensures) (omega (arith, c.if-index-len-2.true, c.len-2.ensures))

pub returns-in_default-host_name-clause-none : goal.returns-in_default-host_name-clause-none
returns-in_default-host_name-clause-none c = λ e. unnamed_task c.args.self.now c.args.host c.in_default-host_name.ensures

pub returns-clause-task : goal.returns-clause-task
returns-clause-task c =
    let self = c.args.self.now in
    let k = c.args.host in
    let play = c.in-Some-play.play.now in
    let within : k < length self.calls.now = omega (arith, c.in-Some.ensures.within, self.each_place, self.each_count) in
    record {
      name = name_is self k (string_bytes c.in-Some-host_name.name.now.value) c.in-Some-host_name.ensures;
      state = subst (λ xs. slice_get xs k ≡ Some c.index-hosts-host.result) c.hosts.ensures (there c.hosts.result.now k c.index-hosts-host.result (subst (λ xs. k < length xs) (sym c.hosts.ensures) c.in-Some.ensures.within) c.index-hosts-host.is);
      task = task_is self k c.in-Some.index play c.in-Some.ensures.node (sym c.in-Some-play.ensures) c.index.result.now (omega (arith, c.if-index-len.false, c.len.ensures)) c.index.ensures;
      step = step_is self k c.in-Some.index play c.in-Some.ensures.node (sym c.in-Some-play.ensures) c.index-2.result.now (omega (arith, c.if-index-len-2.false, c.len-2.ensures)) c.index-2.ensures;
      before = get_or_default self.calls.now k _ 0 within;
    }
