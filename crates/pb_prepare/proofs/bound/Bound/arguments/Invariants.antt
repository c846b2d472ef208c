use Rattle.std.proofs.Common.{◌≡◌, take, true}
use Rattle.pb_syntax.specs.ExprView.{parts_view}
use Rattle.pb_syntax.proofs.Bound.{names_in}
use Rattle.pb_template.specs.Entries.{are_ascending, entry_names}
use Rattle.pb_prepare.proofs.Arguments.{argument_entries}
use Rattle.pb_prepare.proofs.bound.Bound.arguments.Given as goal

abbrev pub invariant-loop-entry : goal.invariant-loop-entry
invariant-loop-entry l = are_ascending (entry_names l.entries) ≡ true
    → (names_in l.arguments.entries ≡ names_in (argument_entries (take l.entry-index l.entries))) × (parts_view l.arguments.entries ≡ parts_view (argument_entries (take l.entry-index l.entries)))
