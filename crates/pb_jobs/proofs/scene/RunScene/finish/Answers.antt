use Rattle.std.proofs.Common.{map, refl, subst}
use Rattle.std.proofs.lemmas.Result.{err_from_is_err_and}
use Rattle.pb_history.specs.Happens.{answered, step_in}
use Rattle.pb_machine.specs.Run.{world_of}
use Rattle.pb_finish.specs.Answers.{answer_data}
use Rattle.pb_finish.specs.Endings.{EndsAs}
use Rattle.pb_finish.specs.declared.ending.Ending.{Ending}
use Rattle.pb_jobs.proofs.Endings.{ended_is}
use Rattle.pb_jobs.proofs.HostTasks.{not_out}
use Rattle.pb_jobs.proofs.scene.RunScene.finish.Goals as goal

pub returns-in_default-clause-there : goal.returns-in_default-clause-there
returns-in_default-clause-there c = λ e. not_out c.args.self.now c.args.host (c.in_default.ensures.none refl)

pub returns-in_err-ending-clause-there : goal.returns-in_err-ending-clause-there
returns-in_err-ending-clause-there c =
    let p = err_from_is_err_and c.from_residual.result c.from_residual.ensures.1 in
    rw (p.1, p.2) (λ e. c.in_err-ending.ensures.there e)

pub returns-in_err-ending-clause-full : goal.returns-in_err-ending-clause-full
returns-in_err-ending-clause-full c =
    let p = err_from_is_err_and c.from_residual.result c.from_residual.ensures.1 in
    rw (p.1, p.2) (λ e. c.in_err-ending.ensures.full e)

pub returns-in_ok-finished-in-Ended-clause-finishes : goal.returns-in_ok-finished-in-Ended-clause-finishes
returns-in_ok-finished-in-Ended-clause-finishes c = λ reading s scene w fine.
    let xs = map answer_data c.args.answers.now in
    let ends = subst (λ (e : Ending). EndsAs e (world_of s w.batch w.host (step_in w).task) (step_in w).task w.attempts (answered w xs)) c.in-Ended.is (c.in_ok-ending.ensures.comes reading s scene w) in
    let e = ended_is s c.args.host w xs fine c.in-Ended.outcome ends in
    c.in_ok-finished-in-Ended.ensures reading s scene w xs e.results e.comes e.last e.handlers e.notified e.outcome
