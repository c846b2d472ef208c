use Rattle.std.proofs.Common.{◌≡◌, ◌++◌, map}
use Rattle.pb_hosts.specs.Given.{slots_given}
use Rattle.pb_hosts.specs.Tables.{slots_of_each}
use Rattle.pb_hosts.proofs.given.parted.Given as goal

abbrev pub invariant-loop-one : goal.invariant-loop-one
invariant-loop-one l =
    (slots_given l.fn.given.items ≡ slots_of_each l.hosts.items ++ slots_given l.one-iterator.rest.items)
    × (map (λ g. g.first) l.fn.given.items ≡ l.firsts.items ++ map (λ g. g.first) l.one-iterator.rest.items)
