use Rattle.std.proofs.Common.{ap}
use Rattle.pb_run.specs.Follows.{event_view}
use Rattle.pb_run.proofs.Follows.{follows_stop}
use Rattle.pb_run.proofs.recorded.RecordedMachine.follow.Goals as goal

pub returns-in-Start-clause-follows : goal.returns-in-Start-clause-follows
returns-in-Start-clause-follows c = rw (ap event_view c.in-Start.is) c.follow_start.ensures.follows

pub returns-in-Give-clause-follows : goal.returns-in-Give-clause-follows
returns-in-Give-clause-follows c = rw (ap event_view c.in-Give.is, ← c.deref.ensures.value) c.follow_give.ensures.follows

pub returns-in-Turn-clause-follows : goal.returns-in-Turn-clause-follows
returns-in-Turn-clause-follows c = rw (ap event_view c.in-Turn.is) c.follow_turn.ensures.follows

pub returns-in-Stop-clause-follows : goal.returns-in-Stop-clause-follows
returns-in-Stop-clause-follows c = rw (ap event_view c.in-Stop.is) (follows_stop c.args.self.now c.stop.new.self c.stop.ensures)
