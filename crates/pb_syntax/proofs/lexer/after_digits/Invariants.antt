-- What the loop keeps that goes past digits.
use Rattle.std.proofs.Common.{◌≡◌, List, ℕ, ◌++◌, true, length, drop, slice_range, ◌-◌, ◌≤◌}
use Rattle.pb_language.specs.Tokens.{a_number, are_digits, tokens_from}
use Rattle.pb_syntax.proofs.lexer.after_digits.Given as goal

abbrev pub invariant-loop-at : goal.invariant-loop-at
invariant-loop-at l = record {
  begins : l.from ≤ l.at;
  ends : l.at ≤ length l.text;
  digits : are_digits (slice_range l.text l.from l.at) ≡ true;
  read : (w : List ℕ) → tokens_from (a_number w) (drop l.from l.text) ≡ tokens_from (a_number (w ++ slice_range l.text l.from l.at)) (drop l.at l.text);
}

abbrev pub decreases-loop-at : goal.decreases-loop-at
decreases-loop-at l = length l.text - l.at
