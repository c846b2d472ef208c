use Rattle.std.proofs.Common.{drop, length, ◌-◌, ◌≤◌}
use Rattle.pb_language.specs.Grammar.{opening_in}
use Rattle.pb_syntax.proofs.Braces.{Opening}
use Rattle.pb_syntax.proofs.template.opening_of.Given as goal

abbrev pub invariant-loop-at : goal.invariant-loop-at
invariant-loop-at l = record { begins : l.from ≤ l.at; ends : l.at ≤ length l.text; left : Opening (opening_in (drop l.from l.text)) l.text l.from l.at }

abbrev pub decreases-loop-at : goal.decreases-loop-at
decreases-loop-at l = length l.text - l.at
