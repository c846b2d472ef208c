-- The visits of a host's way through a play, node by node.
use Rattle.std.specs.Prelude.{◌≡◌, ℕ, suc, List, [], ◌∷◌, ◌++◌}
use Rattle.pb_language.specs.Judgement.{Exit}
use Rattle.pb_language.specs.Links.{values_at}
use Rattle.pb_language.specs.Nodes.{visits_of}
use Rattle.pb_language.specs.Setting.{Setting}
use Rattle.pb_language.specs.Task.{Row, Task}
use Rattle.pb_language.specs.Walk.{Visit, visits_at}
use Rattle.pb_flow.specs.Flow.{tasks_of}

-- the tasks of nodes, the first of which has that number, each with what is known there
abbrev pub nodes_visits : Setting → List Task → (ℕ → Exit) → ℕ → List Visit
nodes_visits st [] val n = []
nodes_visits st (t ∷ ts) val n = visits_at st t (val n) ++ nodes_visits st ts val (suc n)

-- those of a row are the row's visits
abbrev pub NodesAreVisits : Type 0
NodesAreVisits = (st : Setting) (row : Row) (val : ℕ → Exit) (n : ℕ)
    → visits_of st row (values_at val row n) ≡ nodes_visits st (tasks_of row) val n
