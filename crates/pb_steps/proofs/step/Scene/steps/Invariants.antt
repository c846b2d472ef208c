use Rattle.std.proofs.Common.{◌≡◌, ◌++◌, length, map, take}
use Rattle.pb_language.specs.Book.{Registry}
use Rattle.pb_language.specs.Expression.{Parts}
use Rattle.pb_flow.specs.Nodes.{node_step}
use Rattle.pb_route.specs.Station.{station_task}
use Rattle.pb_rules.specs.Handlers.{handlers_names}
use Rattle.pb_slots.specs.Words.{names_of_slots}
use Rattle.pb_steps.specs.Outlines.{outline, outline_view}
use Rattle.pb_steps.specs.Uses.{AreUsed}
use Rattle.pb_steps.proofs.step.Scene.steps.Given as goal

abbrev pub invariant-loop-node : goal.invariant-loop-node
invariant-loop-node l = ((ms : Registry) (vars : Parts) → map (λ n. outline (node_step ms vars n)) l.fn.nodes.items
    ≡ map outline_view l.steps.items ++ map (λ n. outline (node_step ms vars n)) l.node-iterator.rest.items)
    × (AreUsed (names_of_slots l.self.slots.now) (handlers_names l.self.handlers.now) l.steps.items (map station_task (take (length l.steps.items) l.stations)))
