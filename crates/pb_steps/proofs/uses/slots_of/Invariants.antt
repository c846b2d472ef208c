use Rattle.std.proofs.Common.{◌≡◌, ◌++◌, map}
use Rattle.pb_slots.specs.Words.{names_of_slots}
use Rattle.pb_steps.specs.Numbers.{slots_named}
use Rattle.pb_steps.proofs.uses.slots_of.Given as goal

abbrev pub invariant-loop-name : goal.invariant-loop-name
invariant-loop-name l = l.found.items ++ slots_named (names_of_slots l.slots) (map (λ n. n.now) l.name-iterator) ≡ slots_named (names_of_slots l.slots) (map (λ n. n.now) l.names.keys)
