use Rattle.std.proofs.Common.{length, ◌-◌, ◌≤◌}
use Rattle.pb_template.proofs.Braces.{Left}
use Rattle.pb_template.proofs.limits.is_text_within.Given as goal

abbrev pub invariant-expressions : goal.invariant-expressions
invariant-expressions l = record { ends : l.opening ≤ length l.fn.text; left : Left l.fn.text l.opening }

abbrev pub decreases-expressions : goal.decreases-expressions
decreases-expressions l = length l.fn.text - l.opening
