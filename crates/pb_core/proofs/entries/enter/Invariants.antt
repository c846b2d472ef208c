use Rattle.std.proofs.Common.{◌≡◌, ◌≤◌, ◌+◌, ℕ, length, slice_get, vec_capacity}
use Rattle.pb_core.specs.Entries.{entered, found}
use Rattle.pb_core.specs.Formers.{before_all}
use Rattle.pb_core.proofs.entries.enter.Given as goal

abbrev pub invariant-loop-entry : goal.invariant-loop-entry
invariant-loop-entry g l = record {
  entered : (k : ℕ) → entered (found k l.entries.items) (slice_get l.hosts.items k) ≡ entered (found k l.fn.entries.items) (slice_get l.initial.hosts.items k);
  back : before_all l.formers.items l.hosts ≡ before_all l.fn.formers.items l.fn.hosts;
  room : length l.formers.items + length l.entries.items ≤ vec_capacity l.formers;
}

abbrev pub decreases-loop-entry : goal.decreases-loop-entry
decreases-loop-entry g l = length l.entries.items
