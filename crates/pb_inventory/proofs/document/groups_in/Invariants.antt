use Rattle.std.proofs.Common.{◌≡◌, ◌++◌, map, true}
use Rattle.pb_language.specs.Written.{groups_in}
use Rattle.pb_value.specs.View.{fields_view}
use Rattle.pb_inventory.specs.Documents.{written_view}
use Rattle.pb_inventory.specs.Numbered.{are_apart, written_names}
use Rattle.pb_inventory.proofs.Formed.{before}
use Rattle.pb_inventory.proofs.Grouped.{entry_names}
use Rattle.pb_inventory.proofs.document.groups_in.Given as goal

abbrev pub invariant-loop-name : goal.invariant-loop-name
invariant-loop-name l = record {
  given : groups_in (fields_view l.fields.entries) ≡ before (map written_view l.groups.items) (groups_in (fields_view l.name-iterator));
  apart : are_apart (written_names (map written_view l.groups.items) ++ entry_names l.name-iterator) ≡ true;
}
