use Rattle.std.proofs.Common.{◌+◌, ◌≡◌, ◌≤◌, vec_capacity, vec_len}
use Rattle.std.specs.Prelude.{All, sum_by}
use Rattle.pb_pool.specs.Pools.{MayAnswer}
use Rattle.pb_pool.proofs.threads.start_all.Given as goal

abbrev pub invariant-loop-worker : goal.invariant-loop-worker
invariant-loop-worker g l =
    let calls = g.W.Runner.calls in record {
      all : vec_len l.workers + vec_len l.threads ≡ l.fn.crew.workers;
      room : (l.fn.crew.workers ≤ vec_capacity l.workers) × (l.fn.crew.workers ≤ vec_capacity l.threads);
      told : All (λ w. MayAnswer g.W.Runner.answers g.W.Runner.short g.P.Rule.of g.P.Rule.told w.runner) l.workers.items;
      made : sum_by (λ w. calls w.runner) l.workers.items + sum_by (λ t. calls t.promise.worker.value.runner) l.threads.items ≡ l.fn.crew.made;
      handed : sum_by (λ w. w.seat.handed) l.workers.items + sum_by (λ t. t.promise.worker.value.seat.handed) l.threads.items ≡ l.fn.crew.handed;
    }

abbrev pub decreases-loop-worker : goal.decreases-loop-worker
decreases-loop-worker g l = vec_len l.workers
