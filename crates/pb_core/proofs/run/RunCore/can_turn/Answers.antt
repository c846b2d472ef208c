use Rattle.std.proofs.Common.{◌<◌, length, subst, arith}
use Rattle.pb_core.specs.Events.{TellsEnd}
use Rattle.pb_core.specs.Cores.{scheduled_batches}
use Rattle.pb_core.proofs.Runs.{turn_stopped, turn_ended, turn_going}
use Rattle.pb_core.proofs.run.RunCore.can_turn.Goals as goal

pub returns-then-self-clause-turn : goal.returns-then-self-clause-turn
returns-then-self-clause-turn g c = turn_stopped c.args.self.now c.if-self.true

pub returns-then-has_ended-clause-turn : goal.returns-then-has_ended-clause-turn
returns-then-has_ended-clause-turn g c = turn_ended c.args.self.now (subst (TellsEnd c.args.self.now) c.if-has_ended.true c.has_ended.ensures.ended)

pub returns-clause-turn : goal.returns-clause-turn
returns-clause-turn g c =
    let left = c.has_ended.ensures.left c.if-has_ended.false in
    let few : c.args.self.now.current < length (scheduled_batches c.args.self.now) = omega (arith, left) in
    turn_going c.args.self.now c.is_idle.result c.if-self.false few c.is_idle.ensures
