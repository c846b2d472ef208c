use Rattle.std.proofs.Common.{◌+◌, ◌≡◌, true, vec_capacity, vec_len}
use Rattle.std.specs.Prelude.{sum_by}
use Rattle.pb_pool.proofs.threads.join_all.Given as goal

abbrev pub invariant-loop-thread : goal.invariant-loop-thread
invariant-loop-thread g l =
    let calls = g.W.Runner.calls in record {
      all : vec_len l.workers + vec_len l.threads ≡ vec_len l.fn.workers + vec_len l.fn.threads;
      room : vec_capacity l.workers ≡ vec_capacity l.fn.workers;
      made : l.is_whole ≡ true
          → sum_by (λ w. calls w.runner) l.workers.items + (sum_by (λ w. w.seat.handed) l.fn.workers.items + sum_by (λ t. t.promise.worker.value.seat.handed) l.fn.threads.items)
          + sum_by (λ t. calls t.promise.worker.value.runner) l.threads.items
          ≡ sum_by (λ w. calls w.runner) l.fn.workers.items + sum_by (λ t. calls t.promise.worker.value.runner) l.fn.threads.items + sum_by (λ w. w.seat.handed) l.workers.items
          + sum_by (λ t. t.promise.worker.value.seat.handed) l.threads.items;
    }

abbrev pub decreases-loop-thread : goal.decreases-loop-thread
decreases-loop-thread g l = goal.left-loop-thread g l
