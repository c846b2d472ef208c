use Rattle.std.proofs.Common.{◌≡◌, ◌++◌, drop}
use Rattle.pb_language.specs.Rules.{part_expressions}
use Rattle.pb_template.specs.Entries.{entries_view}
use Rattle.pb_reads.specs.Roots.{all_roots}
use Rattle.pb_reads.specs.RootsView.{roots_view}
use Rattle.pb_reads.proofs.task.put_entry_roots.Given as goal

abbrev pub invariant-loop-entry : goal.invariant-loop-entry
invariant-loop-entry l = roots_view l.initial.roots.items ++ all_roots (part_expressions (entries_view l.entries)) ≡ roots_view l.roots.items ++ all_roots (part_expressions (entries_view (drop l.entry-index l.entries)))
