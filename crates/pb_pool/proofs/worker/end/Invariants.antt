use Rattle.std.proofs.Common.{◌≡◌, ◌+◌, length}
use Rattle.pb_pool.specs.Jobs.{IsRuledJob, IsWithinBudget}
use Rattle.pb_pool.specs.Pools.{CanGoOn, MayAnswer}
use Rattle.pb_pool.proofs.worker.end.Given as goal

abbrev pub invariant-loop : goal.invariant-loop
invariant-loop g l = record {
  next : (goal.iterator-loop g).can_next l.iterator';
  finite : (goal.iterator-loop g).is_finite l.iterator';
  told : MayAnswer g.W.Runner.answers g.W.Runner.short g.P.Rule.of g.P.Rule.told l.runner;
  job : IsRuledJob g.P.Rule.of l.job;
  within : IsWithinBudget g.P.Rule.of l.seat.handed;
  few : CanGoOn g.P.Rule.of (g.W.Runner.calls l.runner + length l.job.calls.items) l.seat.handed;
  made : g.W.Runner.calls l.runner + length l.job.calls.items + l.fn.seat.handed ≡ g.W.Runner.calls l.fn.runner + length l.fn.job.calls.items + l.seat.handed;
}
