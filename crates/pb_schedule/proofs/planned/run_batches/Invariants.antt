use Rattle.std.proofs.Common.{◌≡◌, ◌++◌, map}
use Rattle.pb_batches.specs.Batches.{batch_view}
use Rattle.pb_schedule.proofs.planned.run_batches.Given as goal

abbrev pub invariant-loop-batch : goal.invariant-loop-batch
invariant-loop-batch l = map batch_view l.fn.batches.items ≡ map (λ b. (b.play, b.members.items)) l.run.items ++ map batch_view l.batch-iterator.rest.items
