use Rattle.std.proofs.Common.{◌≡◌, ◌++◌, drop}
use Rattle.pb_semantics.specs.Keeps.{is_among}
use Rattle.pb_language.specs.Expression.{Name}
use Rattle.pb_language.specs.Rules.{part_names}
use Rattle.pb_template.specs.Entries.{entries_view}
use Rattle.pb_reads.specs.Reached.{names_in}
use Rattle.pb_reads.proofs.uses.add_entry_names.Given as goal

abbrev pub invariant-loop-entry : goal.invariant-loop-entry
invariant-loop-entry l = (n : Name) → is_among n (part_names (entries_view (drop l.entry-index l.entries)) ++ names_in l.names) ≡ is_among n (part_names (entries_view l.entries) ++ names_in l.fn.names)
