use Rattle.std.proofs.Common.{◌≡◌, [], replicate}
use Rattle.pb_inventory.specs.Families.{lists_of}
use Rattle.pb_inventory.proofs.family.empty_lists.Given as goal

abbrev pub invariant-loop : goal.invariant-loop
invariant-loop l = lists_of l.lists.items ≡ replicate l.counter []
