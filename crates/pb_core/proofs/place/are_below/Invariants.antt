use Rattle.std.proofs.Common.{◌≡◌, drop}
use Rattle.pb_core.specs.Hosts.{are_below}
use Rattle.pb_core.proofs.place.are_below.Given as goal

abbrev pub invariant-loop-number : goal.invariant-loop-number
invariant-loop-number l = are_below l.bound l.numbers ≡ are_below l.bound (drop l.number-index l.numbers)
