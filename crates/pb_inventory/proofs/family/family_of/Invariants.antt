use Rattle.std.proofs.Common.{◌≡◌, ◌++◌, take}
use Rattle.std.specs.List.{flat_map}
use Rattle.pb_inventory.specs.Graph.{children_at}
use Rattle.pb_inventory.specs.Families.{IsMarked, lists_of, once}
use Rattle.pb_inventory.proofs.family.family_of.Given as goal

abbrev pub invariant-loop-child : goal.invariant-loop-child
invariant-loop-child l = record {
  members : l.family.items ≡ once (l.own ++ flat_map (children_at (lists_of l.members)) (take l.child-index l.children));
  marks : IsMarked l.family.items l.seen l.stamp;
}
