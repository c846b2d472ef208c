use Rattle.std.proofs.Common.{take}
use Rattle.pb_visit.proofs.Held.{IsHeld, conditions_round}
use Rattle.pb_visit.proofs.footing.conditions_found.Given as goal

abbrev pub invariant-loop-block : goal.invariant-loop-block
invariant-loop-block g l = IsHeld (g.K.Known.before l.known) (conditions_round (take l.block-index l.around.blocks.items)) l.held
