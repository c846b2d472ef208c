use Rattle.std.proofs.Common.{◌≡◌, drop}
use Rattle.pb_language.specs.Inventories.{has_opening}
use Rattle.pb_inventory.proofs.Openings.{opens_from}
use Rattle.pb_inventory.proofs.variables.has_opening.Given as goal

abbrev pub invariant-loop-byte : goal.invariant-loop-byte
invariant-loop-byte l = opens_from l.after_brace (drop l.byte-index l.byte-items) ≡ has_opening l.text
