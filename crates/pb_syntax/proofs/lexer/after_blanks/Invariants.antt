-- What the loop keeps that goes past blanks.
use Rattle.std.proofs.Common.{◌≡◌, length, drop, ◌-◌, ◌≤◌}
use Rattle.pb_language.specs.Tokens.{tokens_of}
use Rattle.pb_syntax.proofs.lexer.after_blanks.Given as goal

abbrev pub invariant-loop-at : goal.invariant-loop-at
invariant-loop-at l = record { begins : l.from ≤ l.at; ends : l.at ≤ length l.text; same : tokens_of (drop l.at l.text) ≡ tokens_of (drop l.from l.text) }

abbrev pub decreases-loop-at : goal.decreases-loop-at
decreases-loop-at l = length l.text - l.at
