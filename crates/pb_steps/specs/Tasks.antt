-- The tasks of steps as they run.
use Rattle.std.specs.Prelude.{List, [], ◌∷◌}
use Rattle.pb_language.specs.Task.{Task}
use Rattle.pb_start.specs.Prepared.{Prepares}
use Rattle.pb_start.specs.declared.prepared.Prepared.{Prepared}

-- each is the task at its place
abbrev pub ArePrepared : List Prepared → List Task → Type 0
ArePrepared [] [] = Unit {0}
ArePrepared (p ∷ ps) (t ∷ ts) = Prepares p t × ArePrepared ps ts
ArePrepared ps ts = ⊥
