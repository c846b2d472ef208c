use Rattle.std.proofs.Common.{◌≡◌, drop}
use Rattle.pb_language.specs.Rules.{are_name_bytes}
use Rattle.pb_sig.proofs.names.are_bytes_of_names.Given as goal

abbrev pub invariant-loop-byte : goal.invariant-loop-byte
invariant-loop-byte l = are_name_bytes (drop l.byte-index l.bytes) ≡ are_name_bytes l.bytes
