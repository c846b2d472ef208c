use Rattle.std.proofs.Common.{◌≡◌, ◌+◌, ◌≤◌, drop}
use Rattle.pb_language.specs.Evaluation.{character_count}
use Rattle.pb_eval.proofs.filter.characters.Given as goal

abbrev pub invariant-loop-byte : goal.invariant-loop-byte
invariant-loop-byte l = record {
  same : character_count l.text ≡ l.count + character_count (drop l.byte-index l.text);
  few : l.count ≤ l.byte-index;
}
