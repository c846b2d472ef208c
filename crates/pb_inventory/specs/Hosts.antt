-- Hosts in the order in which they are listed.
use Rattle.std.specs.Prelude.{List, [], ◌∷◌, ◌++◌, cond}
use Rattle.pb_semantics.specs.Keeps.{is_among}
use Rattle.pb_language.specs.Expression.{Name}

-- with one more, where it isn't there
abbrev pub with_host : List Name → Name → List Name
with_host ns n = cond (is_among n ns) ns (ns ++ n ∷ [])
