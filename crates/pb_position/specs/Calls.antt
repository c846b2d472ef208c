-- What becomes of the hosts that a position describes, in the words of pb_machine's machine. Each
-- holds for every host, and for every flat plan of which those steps are kept.
use Rattle.std.specs.Prelude.{◌≡◌, ℕ, List, [], map, Bool, true, not, ◌&&◌, cond, Option}
use Rattle.pb_language.specs.Task.{Task}
use Rattle.pb_language.specs.Give.{Ended, any_failed, message_of}
use Rattle.pb_machine.specs.Steps as flat
use Rattle.pb_machine.specs.Hosts.{FlatHost, at_end, stands, all_moved, is_passed, cleared, arrival}
use Rattle.pb_machine.specs.Hosts.{arrived}
use Rattle.pb_machine.specs.Run.{after_task, target_on}
use Rattle.pb_flow.specs.Nodes.{move_view, target_view}
use Rattle.pb_flow.specs.declared.graph.Move.{Move}
use Rattle.pb_flow.specs.declared.graph.Target.{Target}
use Rattle.pb_steps.specs.Outlines.{outline, outline_view}
use Rattle.pb_steps.specs.declared.step.Step.{Step}
use Rattle.pb_position.specs.declared.position.Position.{Position}
use Rattle.pb_position.specs.declared.position.TaskEnd.{TaskEnd}
use Rattle.pb_position.specs.Texts.{text_of}
use Rattle.pb_position.specs.Positions.{IsAs, IsAt}

-- those steps are what is kept of the flat plan
abbrev pub AreKept : List flat.Step → List Step → Type 0
AreKept plan steps = map outline plan ≡ map outline_view steps

-- no handler is marked, and no text is kept or held
abbrev pub emptied : FlatHost → FlatHost
emptied h = record h { marks = []; rescues = []; holds = [] }

abbrev pub emptied_at_end : FlatHost → FlatHost
emptied_at_end h = record (emptied h) { stage = stands at_end }

-- before its first play (`Run.opening_hosts`) a host has no failure either
abbrev pub before_plays : FlatHost → FlatHost
before_plays h = record (emptied_at_end h) { failure = [] }

pub record Moves (moves : List Move) (old new : Position) : Type 0 where
  pub moved : (h : FlatHost) → IsAs old h → IsAs new (all_moved (map move_view moves) h)

-- a handler that isn't marked is passed over, and else its mark is cleared
pub record BeginsTask (handler : Option ℕ) (old new : Position) (begins : Bool) : Type 0 where
  pub test : (h : FlatHost) → IsAs old h → is_passed handler h.marks ≡ not begins
  pub marks : (h : FlatHost) → IsAs old h
      → IsAs new (record h { marks = cond begins (cleared handler h.marks) h.marks })

-- it is the host once it stands, on its way to that node
pub record Reaches (steps : List Step) (to : Option ℕ) (old new : Position) : Type 0 where
  pub host : (plan : List flat.Step) → AreKept plan steps → (h : FlatHost) → IsAs old h
      → IsAt new (arrival plan 1 to h)

-- it is the host where the target leads
pub record Arrives (steps : List Step) (t : Target) (old new : Position) : Type 0 where
  pub host : (plan : List flat.Step) → AreKept plan steps → (h : FlatHost) → IsAs old h
      → IsAt new (arrived plan (target_view t) h)

-- it is the host as a play begins for it (`Run.begun`), at that target
pub record BeginsPlay (steps : List Step) (begin : Target) (old new : Position) : Type 0 where
  pub host : (plan : List flat.Step) → AreKept plan steps → (h : FlatHost) → IsAs old h
      → IsAt new (arrived plan (target_view begin) (emptied h))

-- that is what came of the task's runs: whether it failed, and where it did the text
pub record IsEndOf (end : TaskEnd) (task : Task) (es : List Ended) : Type 0 where
  pub failed : end.has_failed ≡ any_failed es && not task.ignores
  pub text : end.has_failed ≡ true → text_of end.text ≡ message_of task.loop es

-- it is the host that goes on behind the task of the step, after that end (`Run.on_notified`)
pub record GoesOn (steps : List Step) (step : Step) (end : TaskEnd) (old new : Position) : Type 0
  where
    pub host : (plan : List flat.Step) (s : flat.Step) → AreKept plan steps
        → outline s ≡ outline_view step → (h : FlatHost) (es : List Ended) → IsAs old h
        → IsEndOf end s.task es → IsAt new (arrived plan (target_on s es)
        (after_task h s.task es end.notified.items))
