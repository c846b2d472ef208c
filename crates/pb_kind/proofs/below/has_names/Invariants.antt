use Rattle.std.proofs.Common.{◌≡◌, map, string_bytes}
use Rattle.pb_semantics.specs.Below.{are_among}
use Rattle.pb_kind.proofs.below.has_names.Given as goal

abbrev pub invariant-loop-name : goal.invariant-loop-name
invariant-loop-name l =
    are_among (map (λ n. string_bytes n) l.few.keys) (map (λ n. string_bytes n) l.many.keys)
    ≡ are_among (map (λ n. string_bytes n) l.name-iterator) (map (λ n. string_bytes n) l.many.keys)
