-- The nodes of a play as they are built, from its end to its start.
use Rattle.std.specs.Prelude.{◌≡◌, ℕ, ◌+◌, List, ◌++◌, Bool, Option, Some, None, length, map}
use Rattle.std.specs.Prelude.{reverse}
use Rattle.pb_language.specs.Book.{PlayData, Registry, Steps, block_step, no_steps}
use Rattle.pb_language.specs.Expression.{Parts}
use Rattle.pb_language.specs.Links.{size}
use Rattle.pb_language.specs.Plays.{Surroundings, ended_row, gathering_task, handlers_at, inside}
use Rattle.pb_language.specs.Plays.{places_in, row_of, section_row, sections_row, task_at}
use Rattle.pb_language.specs.Task.{Handlers, Row, Task, end, flush, task}
use Rattle.pb_play.specs.Plays.{handler_view, head_view, steps_view}
use Rattle.pb_play.specs.Sound.{AreSound, handler_tasks, tasks_in}
use Rattle.pb_play.specs.declared.play.Block.{Block}
use Rattle.pb_play.specs.declared.play.Handler.{Handler}
use Rattle.pb_play.specs.declared.play.Play.{Play}
use Rattle.pb_play.specs.declared.play.Step.{Step as ReadStep}
use Rattle.pb_task.specs.declared.task.Task.{Task as ReadTask}
use Rattle.pb_machine.specs.Steps.{Step, Target, row_steps, row_target}
use Rattle.pb_flow.specs.Nodes.{AreVisitedSound, around_view, node_step, visited_view}
use Rattle.pb_flow.specs.declared.scene.Part.{Part}
use Rattle.pb_flow.specs.declared.scene.Scene.{Scene}
use Rattle.pb_flow.specs.declared.tail.Tail.{Tail}
use Rattle.pb_flow.specs.declared.graph.Around.{Around}
use Rattle.pb_flow.specs.declared.graph.Visited.{Visited}

-- the steps of the nodes that are built
abbrev pub tail_steps : Registry → Parts → Tail → List Step
tail_steps ms vars t = map (node_step ms vars) (reverse t.nodes.items)

-- the task of a node
abbrev pub task_of : Registry → Parts → Around → ℕ → Visited → Task
task_of ms vars a p v = task_at (around_view ms vars a) p (visited_view v)

-- the row stands in front of what was built before, between those targets, inside so many `always`
-- parts that run after a failure, and is entered there
pub record IsPut (ms : Registry) (vars : Parts) (row : Row) (m : ℕ) (ok failed : Target)
    (old new : Tail) (at : Target) : Type 0 where
  pub room : new.front + size row ≡ old.front
  pub steps : tail_steps ms vars new
      ≡ row_steps row m new.front ok failed ++ tail_steps ms vars old
  pub entered : at ≡ row_target row new.front ok

-- the handlers of a flush at a place
abbrev pub handlers_from : Registry → Parts → Scene → ℕ → Handlers
handlers_from ms vars s p =
    handlers_at (around_view ms vars s.part.around.value) 0 p (map handler_view s.handlers.now)

abbrev pub flush_row : Registry → Parts → Scene → ℕ → Row
flush_row ms vars s p = flush (handlers_from ms vars s p) end

abbrev pub steps_row : Registry → Parts → Scene → Around → ℕ → Steps → Row
steps_row ms vars s a p ss = row_of (handlers_from ms vars s) (length s.handlers.now)
    (around_view ms vars a) p ss end

-- what stands round the steps of a block in that part
abbrev pub in_block : Registry → Parts → Part → Block ReadStep → Surroundings
in_block ms vars p b = inside (around_view ms vars p.around.value) (head_view b.head)

-- steps and the flush behind them
abbrev pub ended_steps_row : Registry → Parts → Scene → Bool → ℕ → Steps → Row
ended_steps_row ms vars s forces p ss = ended_row forces
    (handlers_from ms vars s (places_in (length s.handlers.now) ss + p))
    (row_of (handlers_from ms vars s) (length s.handlers.now)
    (around_view ms vars s.part.around.value) p ss) end

abbrev pub one_section_row : Registry → Parts → Scene → Bool → ℕ → Steps → Row
one_section_row ms vars s forces p ss = section_row (handlers_from ms vars s)
    (length s.handlers.now) (around_view ms vars s.part.around.value) forces p ss (λ q. end)

-- the gathering, where there is one
abbrev pub gathering_row : Registry → Parts → Scene → ℕ → Option ℕ → Row
gathering_row ms vars s p None = end
gathering_row ms vars s p (Some l) =
    task (task_at (around_view ms vars s.part.around.value) p (gathering_task l)) end

abbrev pub all_sections_row : Registry → Parts → Scene → ℕ → PlayData → Row
all_sections_row ms vars s p play = sections_row (handlers_from ms vars s)
    (length s.handlers.now) (around_view ms vars s.part.around.value) p play

-- a block with nothing behind it
abbrev pub block_alone : Block ReadStep → Steps
block_alone b = block_step (head_view b.head) (steps_view b.body.items)
    (steps_view b.rescue.items) (steps_view b.always.items) no_steps

-- where the handlers and those tasks are sound, the nodes that are put are
pub record StaySound (hs : List Handler) (ts : List ReadTask) (old new : Tail) : Type 0 where
  pub sound : (ms : Registry) (line : Option ℕ) → AreSound ms (handler_tasks hs) → AreSound ms ts
      → AreVisitedSound ms line old.nodes.items → AreVisitedSound ms line new.nodes.items

abbrev pub block_tasks : Block ReadStep → List ReadTask
block_tasks b = tasks_in b.body.items ++ (tasks_in b.rescue.items ++ tasks_in b.always.items)

abbrev pub sections_tasks : Play → List ReadTask
sections_tasks p =
    tasks_in p.pre_tasks.items ++ (tasks_in p.tasks.items ++ tasks_in p.post_tasks.items)
