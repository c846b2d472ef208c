use Rattle.pb_run.proofs.Records.{stays_ended, stays_stopped, stops_now}
use Rattle.std.proofs.Common.{refl}
use Rattle.pb_run.proofs.recorded.RecordedMachine.stop.Goals as goal

pub returns-then-self : goal.returns-then-self
returns-then-self c = stays_stopped c.args.self.now c.if-self.true

pub returns-then-has_ended : goal.returns-then-has_ended
returns-then-has_ended c = stays_ended c.args.self.now c.has_ended.result c.has_ended.ensures.ended c.if-has_ended.true

pub returns : goal.returns
returns c =
    let e = c.stop.ensures in
    stops_now c.args.self.now _ c.has_ended.result c.if-self.false refl c.push_reserved.ensures.items c.has_ended.ensures.ended c.if-has_ended.false e.stops e.tickets e.counts
