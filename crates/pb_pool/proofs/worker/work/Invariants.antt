use Rattle.std.proofs.Common.{◌≡◌, ◌+◌}
use Rattle.pb_pool.specs.Pools.{MayAnswer}
use Rattle.pb_pool.proofs.worker.work.Given as goal

abbrev pub invariant-loop : goal.invariant-loop
invariant-loop g l = record {
  next : (goal.iterator-loop g).can_next l.iterator';
  finite : (goal.iterator-loop g).is_finite l.iterator';
  told : MayAnswer g.W.Runner.answers g.W.Runner.short g.P.Rule.of g.P.Rule.told l.worker.runner;
  made : g.W.Runner.calls l.worker.runner + l.fn.worker.seat.handed ≡ g.W.Runner.calls l.fn.worker.runner + l.worker.seat.handed;
}
