use Rattle.std.proofs.Common.{◌≡◌, ◌≤◌, ◌+◌, vec_len, vec_capacity}
use Rattle.std.specs.Prelude.{All, sum_by}
use Rattle.pb_pool.specs.Pools.{MayAnswer}
use Rattle.pb_pool.specs.Seats.{handed_sum}
use Rattle.pb_pool.proofs.pool.paired.Given as goal

abbrev pub invariant-loop-seat : goal.invariant-loop-seat
invariant-loop-seat g l = record {
  same : vec_len l.runners ≡ vec_len l.seats;
  all : vec_len l.workers + vec_len l.seats ≡ vec_len l.fn.seats;
  room : (vec_len l.fn.seats ≤ vec_capacity l.workers) × (vec_capacity l.seats ≡ vec_capacity l.fn.seats) × (vec_capacity l.runners ≡ vec_capacity l.fn.runners);
  handed : sum_by (λ w. w.seat.handed) l.workers.items + handed_sum l.seats.items ≡ handed_sum l.fn.seats.items;
  made : sum_by (λ w. g.W.Runner.calls w.runner) l.workers.items + sum_by g.W.Runner.calls l.runners.items ≡ sum_by g.W.Runner.calls l.fn.runners.items;
  told : All (λ w. MayAnswer g.W.Runner.answers g.W.Runner.short g.P.Rule.of g.P.Rule.told w.runner) l.workers.items;
  left : All (MayAnswer g.W.Runner.answers g.W.Runner.short g.P.Rule.of g.P.Rule.told) l.runners.items;
}

abbrev pub decreases-loop-seat : goal.decreases-loop-seat
decreases-loop-seat g l = vec_len l.seats
