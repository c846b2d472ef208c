-- Where a host is on a flat plan, and how it arrives at a target (this project's own).
use Rattle.std.specs.Prelude.{ℕ, suc, nat_lt, List, [], ◌∷◌, Bool, true, false, not, Option, Some}
use Rattle.std.specs.Prelude.{None}
use Rattle.pb_semantics.specs.Data.{Fields}
use Rattle.pb_language.specs.Expression.{Name}
use Rattle.pb_language.specs.Start.{Pass}
use Rattle.pb_language.specs.Machine.{Recap, is_marked, unmarked, outermost, innermost}
use Rattle.pb_machine.specs.Steps.{Move, rescuing, holding, releasing, Target, Step}

-- a host is past the play's last task, or it left the play as failed, or it is at that node
pub data Location : Type 0 where
  at_end : Location
  left_play : Location
  at : ℕ → Location

-- it stands there, before the task, or a job of that node's task is out, with the number of
-- attempts before it
pub data FlatStage : Type 0 where
  stands : Location → FlatStage
  works : ℕ → ℕ → List Pass → FlatStage

-- as pb_language's `Machine.Host`, but for the stage
pub record FlatHost : Type 0 where
  pub name : Name
  pub variables : Fields
  pub marks : List ℕ
  pub failure : List ℕ
  pub rescues : List (List ℕ)
  pub holds : List (List ℕ)
  pub stage : FlatStage
  pub recap : Recap

-- texts are kept and held with the innermost first; those of parts that a failure left go
abbrev pub moved : Move → FlatHost → FlatHost
moved (rescuing d) h = record h { rescues = h.failure ∷ outermost d h.rescues }
moved (holding m) h = record h { holds = h.failure ∷ outermost m h.holds }
moved (releasing m) h = record h { failure = innermost (outermost (suc m) h.holds) }

abbrev pub all_moved : List Move → FlatHost → FlatHost
all_moved [] h = h
all_moved (m ∷ ms) h = all_moved ms (moved m h)

-- a handler that isn't marked is passed over, and a mark is cleared when its handler begins
abbrev pub is_passed : Option ℕ → List ℕ → Bool
is_passed None marks = false
is_passed (Some n) marks = not (is_marked n marks)

abbrev pub cleared : Option ℕ → List ℕ → List ℕ
cleared None marks = marks
cleared (Some n) marks = unmarked n marks

-- a host on its way to node n comes to the step s of node o: that one is before node n; or it is a
-- handler that is passed over, and the host goes on where the step leads; or the host stands here.
-- `go` is the way along the steps behind this one.
abbrev pub at_step : (Option ℕ → FlatHost → FlatHost) → ℕ → Step → ℕ → FlatHost → Bool → Bool
    → FlatHost
at_step go o s n h true q = go (Some n) h
at_step go o s n h false true = go s.ok.to (all_moved s.ok.moves h)
at_step go o s n h false false =
    record h { marks = cleared s.handler h.marks; stage = stands (at o) }

-- the host once it stands, on its way to that node along the steps from node o on
abbrev pub arrival : List Step → ℕ → Option ℕ → FlatHost → FlatHost
arrival ss o None h = record h { stage = stands left_play }
arrival [] o (Some n) h = record h { stage = stands at_end }
arrival (s ∷ ss) o (Some n) h =
    at_step (arrival ss (suc o)) o s n h (nat_lt o n) (is_passed s.handler h.marks)

-- the host where a target leads
abbrev pub arrived : List Step → Target → FlatHost → FlatHost
arrived ss t h = arrival ss 1 t.to (all_moved t.moves h)
