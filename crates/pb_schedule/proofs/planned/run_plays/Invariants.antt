use Rattle.std.proofs.Common.{◌≡◌, ◌++◌, map}
use Rattle.std.specs.Slice.Iter.{iter_rest}
use Rattle.pb_play.specs.Plays.{is_linear}
use Rattle.pb_schedule.proofs.planned.run_plays.Given as goal

abbrev pub invariant-loop-play : goal.invariant-loop-play
invariant-loop-play l = record {
  plans : l.fn.plans.items ≡ map (λ r. r.plan) l.run.items ++ l.play-iterator.a.b.rest.items;
  tasks : l.fn.tasks.items ≡ map (λ r. r.tasks) l.run.items ++ l.play-iterator.b.rest.items;
  linear : map (λ p. is_linear p.strategy) l.plays ≡ map (λ r. r.is_linear) l.run.items ++ map (λ p. is_linear p.strategy) (iter_rest l.play-iterator.a.a);
}
