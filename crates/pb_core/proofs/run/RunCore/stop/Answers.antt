use Rattle.std.proofs.Common.{subst}
use Rattle.pb_core.specs.Events.{TellsEnd}
use Rattle.pb_core.proofs.Runs.{stays_ended, stops_by}
use Rattle.pb_core.proofs.run.RunCore.stop.Goals as goal

pub returns-then-has_ended-clause-stops : goal.returns-then-has_ended-clause-stops
returns-then-has_ended-clause-stops g c = stays_ended c.args.self.now (subst (TellsEnd c.args.self.now) c.if-has_ended.true c.has_ended.ensures.ended)

pub returns-clause-stops : goal.returns-clause-stops
returns-clause-stops g c = stops_by c.args.self.now (subst (TellsEnd c.args.self.now) c.if-has_ended.false c.has_ended.ensures.ended)
