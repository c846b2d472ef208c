use Rattle.std.proofs.Common.{sym, ◌∙◌}
use Rattle.pb_visit.proofs.transfer.led.Goals as goal

pub goes-requires-clause-alive : goal.goes-requires-clause-alive
goes-requires-clause-alive g c = sym (c.is_dead.ensures c.args.space.now) ∙ c.if-is_dead.false
