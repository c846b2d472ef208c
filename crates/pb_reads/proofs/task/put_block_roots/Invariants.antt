use Rattle.std.proofs.Common.{◌≡◌, ◌++◌, drop, map}
use Rattle.pb_language.specs.Expression.{no_expressions}
use Rattle.pb_flow.specs.Nodes.{conditions_after}
use Rattle.pb_reads.specs.Roots.{all_roots}
use Rattle.pb_reads.specs.RootsView.{roots_view}
use Rattle.pb_reads.specs.Round.{conditions_round}
use Rattle.pb_reads.proofs.task.put_block_roots.Given as goal

abbrev pub invariant-loop-head : goal.invariant-loop-head
invariant-loop-head l = roots_view l.initial.roots.items ++ all_roots (conditions_round l.around) ≡ roots_view l.roots.items ++ all_roots (conditions_after no_expressions (map (λ b. b.now) (drop l.head-index l.around.blocks.items)))
