use Rattle.pb_run.proofs.Faults.{next_can, turns_when}
use Rattle.pb_run.proofs.Follows.{wants_start, wants_turn}
use Rattle.pb_run.proofs.Records.{on_err}
use Rattle.pb_run.proofs.Takes.{stay, stays, takes_rested, takes_started, takes_stopped}
use Rattle.pb_run.proofs.recorded.RecordedMachine.take.Goals as goal

pub returns-then-self-clause-takes : goal.returns-then-self-clause-takes
returns-then-self-clause-takes c = takes_stopped c.args.self.now c.if-self.true

pub returns-in_ok-job-in-Some-clause-takes : goal.returns-in_ok-job-in-Some-clause-takes
returns-in_ok-job-in-Some-clause-takes c =
    let m = c.args.self.now in
    takes_started m _ 0 m.machine.core c.if-self.false (stay m.machine.core) c.if-can_turn.ensures.turn _ c.in_ok-job-in-Some.job c.in-Some.ensures c.in_ok-job-in-Some.ensures.starts

pub returns-in-None-clause-takes : goal.returns-in-None-clause-takes
returns-in-None-clause-takes c =
    let m = c.args.self.now in
    rw c.resting.ensures (takes_rested m m 0 m.machine.core c.if-self.false (stay m.machine.core) c.if-can_turn.ensures.turn _ c.in-None.ensures c.has_ended.ensures.ended (stays m))

pub returns-then-can_turn-clause-memory : goal.returns-then-can_turn-clause-memory
returns-then-can_turn-clause-memory c =
    on_err c.take_turned.result _ (wants_turn c.args.self.now c.can_turn.result c.if-self.false c.can_turn.ensures.turn c.if-can_turn.true)

pub returns-in_err-job-in-Some-clause-memory : goal.returns-in_err-job-in-Some-clause-memory
returns-in_err-job-in-Some-clause-memory c =
    on_err c.from_residual.result _ (wants_start c.args.self.now c.in-Some.host c.can_turn.result c.if-self.false c.can_turn.ensures.turn c.if-can_turn.false c.in-Some.ensures)

pub begin-requires-clause-ready : goal.begin-requires-clause-ready
begin-requires-clause-ready c = next_can c.args.self.now.machine.core c.in-Some.host c.in-Some.ensures

pub take_turned-requires-clause-due : goal.take_turned-requires-clause-due
take_turned-requires-clause-due c = turns_when c.args.self.now.machine.core c.can_turn.result c.can_turn.ensures.turn c.if-can_turn.true
