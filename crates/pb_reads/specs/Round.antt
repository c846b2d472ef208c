-- The conditions that stand round a task.
use Rattle.std.specs.Prelude.{map}
use Rattle.pb_language.specs.Expression.{Expressions, no_expressions}
use Rattle.pb_flow.specs.Nodes.{conditions_after}
use Rattle.pb_flow.specs.declared.graph.Around.{Around}

-- those of the blocks that it stands in, the outermost first
abbrev pub conditions_round : Around → Expressions
conditions_round a = conditions_after no_expressions (map (λ b. b.now) a.blocks.items)
