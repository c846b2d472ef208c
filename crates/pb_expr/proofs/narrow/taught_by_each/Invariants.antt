use Rattle.std.proofs.Common.{◌≡◌, length}
use Rattle.pb_taught.specs.Before.{Before}
use Rattle.pb_taught.specs.TaughtView.{scope_view, scopes_view}
use Rattle.pb_expr.proofs.Ways.{met_by}
use Rattle.pb_expr.proofs.narrow.taught_by_each.Given as goal

abbrev pub decreases-loop-way : goal.decreases-loop-way
decreases-loop-way l = length l.ways.items

abbrev pub invariant-loop-way : goal.invariant-loop-way
invariant-loop-way l = (c : Before) → met_by (scopes_view c l.initial.ways.items) (scope_view c l.initial.all) ≡ met_by (scopes_view c l.ways.items) (scope_view c l.all)
