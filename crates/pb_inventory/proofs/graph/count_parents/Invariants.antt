-- each count is how often the node stands among the children so far, of which each list has fewer than 2 ^ 64
use Rattle.std.proofs.Common.{◌≡◌, ℕ, ◌*◌, ◌^◌, ◌<◌, ◌≤◌, length, get_or, map, take, vec_len}
use Rattle.std.specs.List.{sum_by}
use Rattle.pb_inventory.specs.Orders.{times}
use Rattle.pb_inventory.proofs.graph.count_parents.Given as goal

abbrev pub invariant-loop-list : goal.invariant-loop-list
invariant-loop-list l = (vec_len l.counts ≡ length l.children) × ((c : ℕ) → c < length l.children → get_or l.counts.items c 0 ≡ sum_by (times c) (take l.list-index (map (λ v. v.items) l.children)))
    × ((c : ℕ) → get_or l.counts.items c 0 ≤ l.list-index * 2 ^ 64)
