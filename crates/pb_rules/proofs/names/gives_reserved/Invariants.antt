use Rattle.std.proofs.Common.{◌≡◌, drop}
use Rattle.pb_language.specs.Rules.{any_among, part_names, reserved_names}
use Rattle.pb_template.specs.Entries.{entries_view}
use Rattle.pb_rules.proofs.names.gives_reserved.Given as goal

abbrev pub invariant-loop-entry : goal.invariant-loop-entry
invariant-loop-entry l = any_among (part_names (entries_view (drop l.entry-index l.entries))) reserved_names ≡ any_among (part_names (entries_view l.entries)) reserved_names
