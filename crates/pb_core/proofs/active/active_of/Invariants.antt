use Rattle.std.proofs.Common.{◌<◌, All, length, take}
use Rattle.pb_core.specs.Entries.{AreHere}
use Rattle.pb_core.proofs.active.active_of.Given as goal

abbrev pub invariant-loop-host : goal.invariant-loop-host
invariant-loop-host g l = record {
  here : AreHere l.hosts (take l.host-index l.members) l.active.items;
  within : All (λ k. k < length l.hosts) l.active.items;
}
