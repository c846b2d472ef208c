-- The tasks that gather the facts of plays.
use Rattle.std.specs.Prelude.{◌≡◌, ℕ, List, [], ◌∷◌, Option, Some, None, slice_get}
use Rattle.pb_language.specs.Book.{Registry}
use Rattle.pb_play.specs.declared.play.Play.{Play}
use Rattle.pb_task.specs.declared.task.Task.{Task}
use Rattle.pb_route.specs.Routes.{Gathers}

-- one for each play that gathers facts, at its place
abbrev pub AllGather : Registry → List Play → List (Option Task) → Type 0
AllGather ms [] ts = ts ≡ []
AllGather ms (p ∷ ps) [] = ⊥
AllGather ms (p ∷ ps) (t ∷ ts) = Gathers ms p.gathering t × AllGather ms ps ts

-- that of the play of that number
abbrev pub task_in : Option (Option Task) → Option Task
task_in None = None
task_in (Some t) = t

abbrev pub gathered_at : List (Option Task) → ℕ → Option Task
gathered_at ts n = task_in (slice_get ts n)
