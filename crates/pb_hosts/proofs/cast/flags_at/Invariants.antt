use Rattle.std.proofs.Common.{◌≡◌, ℕ, ◌<◌, ◌||◌, drop, false, get_or, length}
use Rattle.pb_inventory.specs.Graph.{is_in}
use Rattle.pb_hosts.proofs.cast.flags_at.Given as goal

abbrev pub invariant-loop-place : goal.invariant-loop-place
invariant-loop-place l = record {
  count : length l.flags.items ≡ l.hosts;
  each : (k : ℕ) → k < l.hosts → (get_or l.flags.items k false || is_in k (drop l.place-index l.places)) ≡ is_in k l.places;
}
