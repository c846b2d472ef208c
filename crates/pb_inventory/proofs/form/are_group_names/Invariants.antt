use Rattle.std.proofs.Common.{◌≡◌, drop}
use Rattle.std.specs.List.{list_all}
use Rattle.pb_language.specs.Written.{is_group_name}
use Rattle.pb_inventory.specs.Documents.{names_view}
use Rattle.pb_inventory.proofs.form.are_group_names.Given as goal

abbrev pub invariant-loop-name : goal.invariant-loop-name
invariant-loop-name l = list_all is_group_name (names_view l.names) ≡ list_all is_group_name (names_view (drop l.name-index l.names))
