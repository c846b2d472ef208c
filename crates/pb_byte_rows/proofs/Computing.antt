-- One name to unfold where a proof computes what bytes are read to.
use Rattle.std.specs.Str.{chars, is_utf8}
use lib.Utf8.{encode}
use Rattle.serde_json.proofs.OnLiterals.{serde_json_on_literals}

unfoldable pub reading : Unit {0}
unfolding is_utf8 chars encode serde_json_on_literals
reading = tt
