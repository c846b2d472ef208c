use Rattle.std.proofs.Common.{◌≡◌, Some, drop, length, slice_range, ◌-◌, ◌≤◌}
use Rattle.pb_language.specs.Grammar.{ending_in}
use Rattle.pb_syntax.specs.Forms.{with_bytes}
use Rattle.pb_syntax.proofs.template.after_quote.Given as goal

abbrev pub invariant-loop-at : goal.invariant-loop-at
invariant-loop-at l = record { begins : l.from ≤ l.at; ends : l.at ≤ length l.text; left : ending_in (Some l.quote) (drop l.from l.text) ≡ with_bytes (slice_range l.text l.from l.at) (ending_in (Some l.quote) (drop l.at l.text)) }

abbrev pub decreases-loop-at : goal.decreases-loop-at
decreases-loop-at l = length l.text - l.at
