use Rattle.std.proofs.Common.{◌≡◌, ℕ, cond, get_or, take, length, max}
use Rattle.pb_inventory.specs.Graph.{is_in}
use Rattle.pb_inventory.proofs.family.deepen.Given as goal

abbrev pub invariant-loop-group : goal.invariant-loop-group
invariant-loop-group l =
    (length l.depths ≡ length l.initial.depths) × ((g : ℕ) → get_or l.depths g 0 ≡ cond (is_in g (take l.group-index l.groups)) (max (get_or l.initial.depths g 0) l.depth) (get_or l.initial.depths g 0))
