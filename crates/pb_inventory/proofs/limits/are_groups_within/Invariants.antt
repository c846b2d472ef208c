use Rattle.std.proofs.Common.{◌≡◌, drop, map}
use Rattle.std.specs.List.{list_all}
use Rattle.pb_language.specs.Inventories.{is_group_within}
use Rattle.pb_inventory.specs.Documents.{written_view}
use Rattle.pb_inventory.proofs.limits.are_groups_within.Given as goal

abbrev pub invariant-loop-group : goal.invariant-loop-group
invariant-loop-group l = list_all is_group_within (map written_view l.groups) ≡ list_all is_group_within (map written_view (drop l.group-index l.groups))
