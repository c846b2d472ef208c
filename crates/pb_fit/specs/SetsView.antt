-- The names that a `set_fact` sets.
use Rattle.std.specs.Prelude.{List, [], ◌∷◌, Bool, string_bytes}
use Rattle.pb_language.specs.Cases.{Sets, no_sets, sets}
use Rattle.pb_kind.specs.KindView.{kind_view}
use Rattle.pb_fit.specs.declared.sets.Set.{Set}

-- each of them for certain, or none
abbrev pub sets_view : Bool → List Set → Sets
sets_view a [] = no_sets
sets_view a (s ∷ ss) = sets (string_bytes s.name.value) a (kind_view s.kind) (sets_view a ss)
