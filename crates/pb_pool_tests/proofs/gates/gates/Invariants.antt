use Rattle.std.proofs.Common.{◌≡◌, vec_len}
use Rattle.std.specs.Prelude.{sum_by}
use Rattle.pb_pool_tests.proofs.gates.gates.Given as goal

abbrev pub invariant-loop-worker : goal.invariant-loop-worker
invariant-loop-worker l = record {
  count : vec_len l.gates ≡ l._worker;
  none : sum_by (λ g. g.made) l.gates.items ≡ 0;
}
