use Rattle.std.proofs.Common.{length, ◌-◌, ◌≤◌}
use Rattle.pb_syntax.specs.ExprView.{exprs_view}
use Rattle.pb_syntax.proofs.Parts.{Parted}
use Rattle.pb_syntax.proofs.template.parse_template.Given as goal

abbrev pub invariant-parts : goal.invariant-parts
invariant-parts l = record { ends : l.opening ≤ length l.fn.text; parted : Parted l.fn.text (exprs_view l.parts.items) l.opening }

abbrev pub decreases-parts : goal.decreases-parts
decreases-parts l = length l.fn.text - l.opening
