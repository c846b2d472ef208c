use Rattle.std.proofs.Common.{◌≡◌, drop, map}
use Rattle.std.specs.List.{list_all}
use Rattle.pb_language.specs.Written.{is_well_named}
use Rattle.pb_inventory.specs.Documents.{written_view}
use Rattle.pb_inventory.proofs.form.are_well_named.Given as goal

abbrev pub invariant-loop-group : goal.invariant-loop-group
invariant-loop-group l = list_all is_well_named (map written_view l.groups) ≡ list_all is_well_named (map written_view (drop l.group-index l.groups))
