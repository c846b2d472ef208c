-- What is known at each node of a play on a host's way through it.
use Rattle.std.specs.Prelude.{◌≤◌, ℕ}
use Rattle.pb_language.specs.Judgement.{Exit}
use Rattle.pb_language.specs.Setting.{Setting}
use Rattle.pb_language.specs.Task.{Row}
use Rattle.pb_language.specs.Walk.{walk}
use Rattle.pb_language.specs.Wells.{WellExit}
use Rattle.pb_flow.specs.Flow.{end_node, tasks_of}
use Rattle.pb_walks.specs.Agree.{AllVisitsAgree, ExitsAgree}
use Rattle.pb_route.specs.Visited.{nodes_visits}

-- the walk of the row, as far as kinds that are below each other are the same
pub record IsWalk (st : Setting) (row : Row) (e : Exit) (val : ℕ → Exit) : Type 0 where
  pub visits : AllVisitsAgree (nodes_visits st (tasks_of row) val 1) (walk st row e).visits
  pub ends : ExitsAgree (val (end_node row)) (walk st row e).well
  pub wells : (n : ℕ) → n ≤ end_node row → WellExit (val n)
