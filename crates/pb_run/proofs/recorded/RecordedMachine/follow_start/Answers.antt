use Rattle.pb_run.proofs.Faults.{starts_when}
use Rattle.pb_run.proofs.Follows.{follows_no_start, follows_start, follows_stopped}
use Rattle.pb_run.proofs.recorded.RecordedMachine.follow_start.Goals as goal

pub returns-then-self-clause-follows : goal.returns-then-self-clause-follows
returns-then-self-clause-follows c = follows_stopped c.args.self.now _ c.if-self.true

pub returns-then-not-can_start-clause-follows : goal.returns-then-not-can_start-clause-follows
returns-then-not-can_start-clause-follows c = follows_no_start c.args.self.now c.args.host c.can_start.result c.can_start.ensures c.if-not-can_start.true

pub returns-clause-follows : goal.returns-clause-follows
returns-clause-follows c = follows_start c.args.self.now _ c.args.host c.can_start.result _ c.can_start.ensures c.if-not-can_start.false c.in_ok-_job.ensures.starts

pub begin-requires-clause-ready : goal.begin-requires-clause-ready
begin-requires-clause-ready c = starts_when c.args.self.now.machine.core c.args.host c.can_start.result c.can_start.ensures c.if-not-can_start.false
