-- What a host on a flat plan has still to do, as the tree of ways of pb_language (this project's
-- own).
use Rattle.std.specs.Prelude.{ℕ, suc, List, [], ◌∷◌, cond, nat_lt, false, Option, Some, None}
use Rattle.pb_semantics.specs.Data.{null}
use Rattle.pb_language.specs.Expression.{literal, no_expressions}
use Rattle.pb_language.specs.Task.{Task, debug}
use Rattle.pb_language.specs.Rest.{Rest, done, left, next, ask, rescue, hold, release}
use Rattle.pb_language.specs.Machine.{Ready, over, gone, begins, Stage, waits, runs, Host}
use Rattle.pb_machine.specs.Steps.{Move, rescuing, holding, releasing, Target, leaving, Step}
use Rattle.pb_machine.specs.Hosts.{Location, at_end, left_play, at, FlatStage, stands, works}
use Rattle.pb_machine.specs.Hosts.{FlatHost}

-- the moves, and then those ways on
abbrev pub moved_rest : List Move → Rest → Rest
moved_rest [] r = r
moved_rest (rescuing d ∷ ms) r = rescue d (moved_rest ms r)
moved_rest (holding m ∷ ms) r = hold m (moved_rest ms r)
moved_rest (releasing m ∷ ms) r = release m (moved_rest ms r)

-- the ways on from a task, or from a handler of that number, given those from where it leads: `a`
-- when it is done, `b` when it failed
abbrev pub step_rest : Option ℕ → Task → Rest → Rest → Rest
step_rest None t a b = next t a b
step_rest (Some n) t a b = ask n (next t a b) a

-- the ways on from a node, along the steps from node o on
abbrev pub rest_along : List Step → ℕ → Option ℕ → Rest
rest_along ss o None = left
rest_along [] o (Some n) = done
rest_along (s ∷ ss) o (Some n) = cond (nat_lt o n) (rest_along ss (suc o) (Some n))
    (step_rest s.handler s.task (moved_rest s.ok.moves (rest_along ss (suc o) s.ok.to))
    (moved_rest s.failed.moves (rest_along ss (suc o) s.failed.to)))

-- the ways on from where a target leads
abbrev pub rest_to : List Step → Target → Rest
rest_to ss t = moved_rest t.moves (rest_along ss 1 t.to)

-- what is found at a number that no node has
abbrev pub no_task : Task
no_task = record {
  line = 0;
  place = 0;
  action = debug (literal null);
  conditions = no_expressions;
  loop = None;
  register = None;
  changed_when = None;
  failed_when = None;
  attempts = None;
  ignores = false;
  notifies = [];
  rescued = false;
  depth = 0;
}

abbrev pub no_step : Step
no_step = record { task = no_task; handler = None; ok = leaving; failed = leaving }

-- the step of a node
abbrev pub step_along : List Step → ℕ → ℕ → Step
step_along [] o n = no_step
step_along (s ∷ ss) o n = cond (nat_lt o n) (step_along ss (suc o) n) s

abbrev pub step_at : List Step → ℕ → Step
step_at ss n = step_along ss 1 n

-- the host of pb_language's machine that is where this one is
abbrev pub ready_of : List Step → Location → Ready
ready_of ss at_end = over
ready_of ss left_play = gone
ready_of ss (at n) =
    let s = step_at ss n in begins s.task (rest_to ss s.ok) (rest_to ss s.failed)

abbrev pub stage_of : List Step → FlatStage → Stage
stage_of ss (stands p) = waits (ready_of ss p)
stage_of ss (works n k ps) =
    let s = step_at ss n in runs s.task k ps (rest_to ss s.ok) (rest_to ss s.failed)

abbrev pub host_of : List Step → FlatHost → Host
host_of ss h = record {
  name = h.name;
  variables = h.variables;
  marks = h.marks;
  failure = h.failure;
  rescues = h.rescues;
  holds = h.holds;
  stage = stage_of ss h.stage;
  recap = h.recap;
}
