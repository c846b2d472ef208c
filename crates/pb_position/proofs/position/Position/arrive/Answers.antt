use Rattle.std.proofs.Common.{List, subst}
use Rattle.pb_flow.specs.declared.graph.Move.{Move}
use Rattle.pb_position.specs.Calls.{Moves}
use Rattle.pb_position.proofs.Along.{moves_and_reaches}
use Rattle.pb_position.proofs.position.Position.arrive.Goals as goal

pub returns-clause-host : goal.returns-clause-host
returns-clause-host c =
    moves_and_reaches c.args.steps.now c.args.target.now c.args.self.now c.make.new.self c.reach.new.self
    (subst (λ (moves : List Move). Moves moves c.args.self.now c.make.new.self) c.deref.ensures.value c.in_ok-make.ensures.host) c.in_ok-reach.ensures.host
