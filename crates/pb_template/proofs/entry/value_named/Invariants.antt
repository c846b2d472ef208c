use Rattle.std.proofs.Common.{◌≡◌, drop}
use Rattle.pb_language.specs.Expansion.{part_named}
use Rattle.pb_template.specs.Entries.{entries_view}
use Rattle.pb_template.proofs.entry.value_named.Given as goal

abbrev pub invariant-loop-entry : goal.invariant-loop-entry
invariant-loop-entry l = part_named l.name (entries_view (drop l.entry-index l.entries)) ≡ part_named l.name (entries_view l.entries)
