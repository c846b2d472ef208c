use Rattle.std.proofs.Common.{◌≡◌, ◌++◌, ◌∙◌, ap, sym, true}
use Rattle.pb_language.specs.Machine.{notified_by}
use Rattle.pb_machine.specs.Run.{plan_steps}
use Rattle.pb_machine.specs.Ways.{step_at}
use Rattle.pb_jobs.proofs.scene.RunScene.notified.Goals as goal

pub returns : goal.returns
returns c = λ reading s scene n is told.
    let yes : c.args.notifies ≡ true = c.if-not-notifies.false in
    let found = c.requires.task.step reading s scene n is (ap (λ b. notified_by n.batch.play (step_at (plan_steps n.batch) n.node).task b) (sym yes) ∙ told) in
    c.in_ok-extend_from_slice.ensures.items ∙ ap (λ xs. xs ++ c.deref.result.now) c.new-handlers.ensures.items ∙ c.deref.ensures.value ∙ found
