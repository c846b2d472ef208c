use Rattle.std.proofs.Common.{◌≡◌, ◌≤◌, ◌++◌, drop, length, map, sum}
use Rattle.pb_batches.specs.Batches.{batch_view, cut_by}
use Rattle.pb_batches.proofs.batch.add_batches.Given as goal

abbrev pub invariant-loop-size : goal.invariant-loop-size
invariant-loop-size l = record {
  room : sum (drop l.size-index l.sizes) ≤ length l.left;
  parts : map batch_view l.batches.items ++ map (λ part. (l.play, part)) (cut_by (drop l.size-index l.sizes) l.left) ≡ map batch_view l.fn.batches.items ++ map (λ part. (l.play, part)) (cut_by l.sizes l.places);
}
