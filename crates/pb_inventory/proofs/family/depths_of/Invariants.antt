use Rattle.pb_inventory.specs.Families.{lists_of}
use Rattle.pb_inventory.proofs.Pushes.{IsPushed}
use Rattle.pb_inventory.proofs.family.depths_of.Given as goal

abbrev pub invariant-loop-group : goal.invariant-loop-group
invariant-loop-group l = IsPushed l.root (lists_of l.children) l.order l.group-index l.depths.items
