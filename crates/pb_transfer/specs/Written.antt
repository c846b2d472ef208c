-- What a task writes into what is known of its host's variables.
use Rattle.std.specs.Prelude.{◌≡◌, List, [], ◌∷◌, true, false, string_bytes}
use Rattle.pb_semantics.specs.Kind.{Slots, slot_at}
use Rattle.pb_language.specs.Expression.{Name}
use Rattle.pb_language.specs.Cases.{Sets, no_sets, sets}
use Rattle.pb_language.specs.Judgement.{Exit, dead, live}
use Rattle.pb_kind.specs.KindView.{kind_view}
use Rattle.pb_transfer.specs.declared.written.Set.{Set}

-- the names that are set
abbrev pub sets_view : List Set → Sets
sets_view [] = no_sets
sets_view (s ∷ ss) = sets (string_bytes s.name.value) s.is_certain (kind_view s.kind) (sets_view ss)

-- where a way leads, what is known after that change
abbrev pub where_led : (Slots → Slots) → Exit → Exit
where_led f dead = dead
where_led f (live ss) = live (f ss)

-- a way leads to both or to none, and the same is known of each name
abbrev pub AreSame : Exit → Exit → Type 0
AreSame dead dead = Unit {0}
AreSame dead (live ts) = false ≡ true
AreSame (live ss) dead = false ≡ true
AreSame (live ss) (live ts) = (n : Name) → slot_at n ss ≡ slot_at n ts
