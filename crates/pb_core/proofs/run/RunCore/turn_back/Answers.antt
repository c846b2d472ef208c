use Rattle.std.proofs.Common.{ap, ◌∙◌}
use Rattle.pb_core.specs.Cores.{tickets_of}
use Rattle.pb_core.proofs.Formers.{back_tickets}
use Rattle.pb_core.proofs.run.RunCore.turn_back.Goals as goal

pub returns-clause-tickets : goal.returns-clause-tickets
returns-clause-tickets g c = ap tickets_of c.stand_back.ensures ∙ back_tickets c.args.turned.formers.items c.args.self.now.hosts
