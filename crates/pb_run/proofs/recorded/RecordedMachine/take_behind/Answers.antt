use Rattle.std.proofs.Common.{sym, ◌∙◌}
use Rattle.pb_run.proofs.Faults.{next_can}
use Rattle.pb_run.proofs.Takes.{takes_rested, takes_started}
use Rattle.pb_run.proofs.recorded.RecordedMachine.take_behind.Goals as goal

pub returns-in_ok-job-in-Some-clause-takes : goal.returns-in_ok-job-in-Some-clause-takes
returns-in_ok-job-in-Some-clause-takes c = λ old turned.
    let core = turned.machine.core in
    takes_started old _ c.args.turns c.args.self.now.machine.core (sym turned.stopped ∙ c.requires) core.turns core.over _ c.in_ok-job-in-Some.job c.in-Some.ensures (c.in_ok-job-in-Some.ensures.starts old turned)

pub returns-in_ok-record_turns-in-None-clause-takes : goal.returns-in_ok-record_turns-in-None-clause-takes
returns-in_ok-record_turns-in-None-clause-takes c = λ old turned.
    let core = turned.machine.core in
    rw c.resting.ensures (takes_rested old _ c.args.turns c.args.self.now.machine.core (sym turned.stopped ∙ c.requires) core.turns core.over _ c.in-None.ensures c.has_ended-has_ended.ensures.ended (c.in_ok-record_turns-in-None.ensures.goes old turned))

pub begin_behind-requires-clause-ready : goal.begin_behind-requires-clause-ready
begin_behind-requires-clause-ready c = next_can c.args.self.now.machine.core c.in-Some.host c.in-Some.ensures
