use Rattle.std.proofs.Common.{refl}
use Rattle.std.proofs.lemmas.Result.{err_from_is_err_and}
use Rattle.pb_run.proofs.Behind.{machine_back}
use Rattle.pb_run.proofs.Faults.{turn_faults}
use Rattle.pb_run.proofs.Records.{on_err, stays_by}
use Rattle.pb_run.proofs.recorded.RecordedMachine.take_turned.Goals as goal

pub returns-in_err-turned-clause-err : goal.returns-in_err-turned-clause-err
returns-in_err-turned-clause-err c = on_err c.from_residual.result _ (stays_by c.args.self.now _ refl refl c.in_err-turned.ensures.err)

pub returns-in_err-turned-clause-faults : goal.returns-in_err-turned-clause-faults
returns-in_err-turned-clause-faults c =
    let p = err_from_is_err_and c.from_residual.result c.from_residual.ensures.1 in
    rw (p.1, p.2) (turn_faults c.args.self.now _ c.requires.due c.in_err-turned.ensures.there c.in_err-turned.ensures.full)

pub returns-in-Ok-clause-takes : goal.returns-in-Ok-clause-takes
returns-in-Ok-clause-takes c = c.in-Ok.ensures.takes c.args.self.now (record { history = refl; stopped = refl; machine = c.in_ok-turned.ensures.turns })

pub returns-in-Err-clause-err : goal.returns-in-Err-clause-err
returns-in-Err-clause-err c =
    let e = c.in-Err.ensures.err in
    stays_by c.args.self.now _ e.history e.stopped
    (machine_back c.in_ok-turned.turned c.args.self.now.machine c.turn_all.new.self c.take_behind.new.self.machine c.turn_back.new.self c.in_ok-turned.ensures.back e.machine c.turn_back.ensures.back c.turn_back.ensures.batch)

pub returns-in-Err-clause-faults : goal.returns-in-Err-clause-faults
returns-in-Err-clause-faults c = c.in-Err.ensures.faults c.args.self.now (record { history = refl; stopped = refl; machine = c.in_ok-turned.ensures.turns })
