use Rattle.std.proofs.Common.{◌≡◌, take}
use Rattle.pb_syntax.specs.ExprView.{parts_view}
use Rattle.pb_prepare.proofs.Lists.{named_entries}
use Rattle.pb_prepare.proofs.bound.Bound.names.Given as goal

abbrev pub invariant-loop-entry : goal.invariant-loop-entry
invariant-loop-entry l = parts_view l.names.items ≡ parts_view (named_entries (take l.entry-index l.entries))
