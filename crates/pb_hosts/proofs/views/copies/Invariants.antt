use Rattle.std.proofs.Common.{◌≡◌, take}
use Rattle.pb_hosts.specs.Tables.{slots_of_each}
use Rattle.pb_hosts.proofs.views.copies.Given as goal

abbrev pub invariant-loop-slots : goal.invariant-loop-slots
invariant-loop-slots l = slots_of_each l.copies.items ≡ slots_of_each (take l.slots-index l.hosts)
