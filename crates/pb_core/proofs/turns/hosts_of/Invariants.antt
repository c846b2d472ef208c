use Rattle.std.proofs.Common.{◌≡◌, All, length}
use Rattle.pb_core.specs.Hosts.{IsFresh}
use Rattle.pb_core.proofs.turns.hosts_of.Given as goal

abbrev pub invariant-loop : goal.invariant-loop
invariant-loop g l = record {
  fresh : All IsFresh l.hosts.items;
  count : length l.hosts.items ≡ l.counter;
}
