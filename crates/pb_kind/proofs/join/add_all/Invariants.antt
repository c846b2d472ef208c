use Rattle.std.proofs.Common.{◌≡◌, map, string_bytes}
use Rattle.pb_semantics.specs.Join.{add_names}
use Rattle.pb_kind.proofs.join.add_all.Given as goal

abbrev pub invariant-loop-name : goal.invariant-loop-name
invariant-loop-name l =
    add_names (map (λ n. string_bytes n) l.few.keys) (map (λ n. string_bytes n) l.more.keys)
    ≡ add_names (map (λ n. string_bytes n) l.name-iterator) (map (λ n. string_bytes n) l.all.keys)
