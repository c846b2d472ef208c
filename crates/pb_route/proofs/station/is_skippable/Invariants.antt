use Rattle.std.proofs.Common.{◌≡◌, drop}
use Rattle.pb_route.proofs.Round.{is_conditional_round}
use Rattle.pb_route.proofs.station.is_skippable.Given as goal

abbrev pub invariant-loop-block : goal.invariant-loop-block
invariant-loop-block l = is_conditional_round l.around.blocks.items ≡ is_conditional_round (drop l.block-index l.around.blocks.items)
