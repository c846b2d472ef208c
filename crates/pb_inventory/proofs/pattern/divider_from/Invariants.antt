use Rattle.std.proofs.Common.{◌≤◌, length}
use Rattle.pb_inventory.proofs.WordBytes.{Met}
use Rattle.pb_inventory.proofs.pattern.divider_from.Given as goal

abbrev pub invariant-loop-place : goal.invariant-loop-place
invariant-loop-place l = record { begins : l.from ≤ l.place; ends : l.place ≤ length l.text; met : Met l.text l.from l.place }
