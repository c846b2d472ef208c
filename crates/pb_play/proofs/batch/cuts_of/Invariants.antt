use Rattle.std.proofs.Common.{◌≡◌, ◌≤◌, ◌++◌, ℕ, map}
use Rattle.pb_play.specs.Batches.{sizes_left}
use Rattle.pb_play.specs.Plays.{cut_view}
use Rattle.pb_play.proofs.batch.cuts_of.Given as goal

abbrev pub decreases-batches : goal.decreases-batches
decreases-batches l = l.left

abbrev pub invariant-batches : goal.invariant-batches
invariant-batches l = (k : ℕ) × (l.left ≤ k) × (sizes_left l.hosts l.hosts (map cut_view l.serial) l.hosts ≡ l.sizes.items ++ sizes_left l.hosts k (map cut_view l.entries) l.left)
