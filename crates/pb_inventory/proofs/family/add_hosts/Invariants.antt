use Rattle.std.proofs.Common.{◌≡◌, take}
use Rattle.pb_inventory.specs.Families.{IsMarked, add_numbers}
use Rattle.pb_inventory.proofs.family.add_hosts.Given as goal

abbrev pub invariant-loop-host : goal.invariant-loop-host
invariant-loop-host l = record {
  members : l.family.items ≡ add_numbers l.initial.family.items (take l.host-index l.hosts);
  marks : IsMarked l.family.items l.seen l.stamp;
}
