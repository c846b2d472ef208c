use Rattle.std.proofs.Common.{◌≡◌, drop}
use Rattle.pb_language.specs.Written.{are_host_bytes}
use Rattle.pb_inventory.proofs.names.are_host_bytes.Given as goal

abbrev pub invariant-loop-byte : goal.invariant-loop-byte
invariant-loop-byte l = are_host_bytes l.bytes ≡ are_host_bytes (drop l.byte-index l.bytes)
