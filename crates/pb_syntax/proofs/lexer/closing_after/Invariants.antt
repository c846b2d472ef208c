-- What the loop keeps that goes to a text's end.
use Rattle.std.proofs.Common.{◌≡◌, ℕ, List, ◌++◌, length, drop, slice_range, ◌-◌, ◌+◌, ◌≤◌}
use Rattle.pb_language.specs.Tokens.{a_text, tokens_from, tokens_of}
use Rattle.pb_syntax.specs.Letters.{unescaped}
use Rattle.pb_syntax.proofs.lexer.closing_after.Given as goal

abbrev pub invariant-loop-at : goal.invariant-loop-at
invariant-loop-at l = record {
  begins : l.start + 1 ≤ l.at;
  ends : l.at ≤ length l.text;
  -- no escape is open
  whole : (rest : List ℕ) → unescaped (slice_range l.text (l.start + 1) l.at ++ rest) ≡ unescaped (slice_range l.text (l.start + 1) l.at) ++ unescaped rest;
  read : tokens_of (drop l.start l.text) ≡ tokens_from (a_text l.quote (unescaped (slice_range l.text (l.start + 1) l.at))) (drop l.at l.text);
}

abbrev pub decreases-loop-at : goal.decreases-loop-at
decreases-loop-at l = length l.text - l.at
