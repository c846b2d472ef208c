use Rattle.std.proofs.Common.{◌≡◌, ◌++◌, drop, length, map, take}
use Rattle.pb_language.specs.Book.{Registry}
use Rattle.pb_play.specs.Plays.{play_view}
use Rattle.pb_slots.specs.Words.{names_of_slots}
use Rattle.pb_steps.specs.Outlines.{plan_view, play_plan}
use Rattle.pb_plan.specs.Nodes.{AreUsesOf}
use Rattle.pb_plan.proofs.plan.steps_of_plays.Given as goal

abbrev pub invariant-loop-nodes : goal.invariant-loop-nodes
invariant-loop-nodes l = (l.nodes-iterator.rest.items ≡ drop (length l.planned.items) l.fn.plays.items)
    × ((ms : Registry) → map plan_view l.planned.items ≡ map (λ n. play_plan ms (play_view n.play.now)) (take (length l.planned.items) l.fn.plays.items))
    × ((ms : Registry) → AreUsesOf ms (names_of_slots l.slots) l.planned.items (take (length l.planned.items) l.fn.plays.items))
    × (map (λ s. s.handlers) l.planned.items ≡ map (λ n. length n.play.now.handlers.items) (take (length l.planned.items) l.fn.plays.items))
