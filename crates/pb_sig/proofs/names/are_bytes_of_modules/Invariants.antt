use Rattle.std.proofs.Common.{◌≡◌, drop}
use Rattle.pb_sig.specs.Signatures.{are_module_bytes}
use Rattle.pb_sig.proofs.names.are_bytes_of_modules.Given as goal

abbrev pub invariant-loop-byte : goal.invariant-loop-byte
invariant-loop-byte l = are_module_bytes (drop l.byte-index l.bytes) ≡ are_module_bytes l.bytes
