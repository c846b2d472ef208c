use Rattle.std.proofs.Common.{map, take}
use Rattle.pb_flow.specs.Nodes.{scope_after}
use Rattle.pb_template.specs.Entries.{entries_view}
use Rattle.pb_vars.specs.InScope.{in_scope}
use Rattle.pb_vars.specs.Same.{HaveSame}
use Rattle.pb_route.proofs.station.scope_at.Given as goal

abbrev pub invariant-loop-index : goal.invariant-loop-index
invariant-loop-index l = HaveSame (in_scope l.scope) (scope_after (entries_view l.play_vars) (map (λ b. b.now) (take l.index l.around.blocks.items)))
