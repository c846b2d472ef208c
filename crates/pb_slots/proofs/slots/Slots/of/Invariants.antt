use Rattle.std.proofs.Common.{◌≡◌, ◌++◌, map, string_bytes}
use Rattle.pb_slots.proofs.slots.Slots.of.Given as goal

abbrev pub invariant-loop-name : goal.invariant-loop-name
invariant-loop-name l = map (λ n. string_bytes n) l.all.items ++ map (λ n. n.now) l.name-iterator ≡ map (λ n. n.now) l.names.keys
