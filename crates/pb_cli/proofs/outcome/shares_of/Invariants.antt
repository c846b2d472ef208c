use Rattle.std.proofs.Common.{◌≡◌, vec_len}
use Rattle.std.specs.Prelude.{All, sum_by}
use Rattle.pb_runner.specs.Scripts.{answers_in}
use Rattle.pb_cli.proofs.outcome.shares_of.Given as goal

abbrev pub invariant-loop-worker : goal.invariant-loop-worker
invariant-loop-worker l = record {
  count : vec_len l.runners ≡ l._worker;
  file : All (λ r. answers_in r ≡ answers_in l.first) l.runners.items;
  none : sum_by (λ r. r.made) l.runners.items ≡ 0;
}
