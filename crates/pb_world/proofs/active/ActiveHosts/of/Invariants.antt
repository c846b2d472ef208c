use Rattle.std.proofs.Common.{◌≡◌, length, take}
use Rattle.pb_world.specs.Active.{flags_of}
use Rattle.pb_world.proofs.active.ActiveHosts.of.Given as goal

abbrev pub invariant-loop-index : goal.invariant-loop-index
invariant-loop-index l = (l.flags.items ≡ flags_of l.hosts (take l.index l.members.items)) × (length l.flags.items ≡ l.hosts)
