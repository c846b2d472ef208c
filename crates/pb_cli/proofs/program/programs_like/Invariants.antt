use Rattle.std.proofs.Common.{◌≡◌, vec_len}
use Rattle.std.specs.Prelude.{sum_by}
use Rattle.pb_cli.proofs.program.programs_like.Given as goal

abbrev pub invariant-loop-worker : goal.invariant-loop-worker
invariant-loop-worker g l = record {
  count : vec_len l.programs ≡ l.worker;
  none : sum_by (λ p. p.made) l.programs.items ≡ 0;
}
