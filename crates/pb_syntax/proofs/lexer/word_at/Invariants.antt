-- What the loop keeps that goes to a word's end.
use Rattle.std.proofs.Common.{◌≡◌, true, length, drop, slice_range, ◌-◌, ◌+◌, ◌≤◌}
use Rattle.pb_language.specs.Rules.{are_name_bytes}
use Rattle.pb_language.specs.Tokens.{a_word, tokens_from, tokens_of}
use Rattle.pb_syntax.proofs.lexer.word_at.Given as goal

abbrev pub invariant-loop-end : goal.invariant-loop-end
invariant-loop-end l = record {
  begins : l.start + 1 ≤ l.end;
  ends : l.end ≤ length l.text;
  lettered : are_name_bytes (slice_range l.text l.start l.end) ≡ true;
  read : tokens_of (drop l.start l.text) ≡ tokens_from (a_word (slice_range l.text l.start l.end)) (drop l.end l.text);
}

abbrev pub decreases-loop-end : goal.decreases-loop-end
decreases-loop-end l = length l.text - l.end
