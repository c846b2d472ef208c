-- Rows one after the other, their steps, and the tasks of these (this project's own).
use Rattle.std.specs.Prelude.{◌≡◌, ℕ, ◌+◌, List, [], ◌∷◌, ◌++◌, map}
use Rattle.pb_language.specs.Task.{Task, Handlers, no_handlers, handler, Row, end, task, flush}
use Rattle.pb_language.specs.Task.{section, block}
use Rattle.pb_language.specs.Links.{size}
use Rattle.pb_machine.specs.Steps.{Target, row_target, row_steps}

-- a row, then another
abbrev pub joined : Row → Row → Row
joined end r = r
joined (task t row) r = task t (joined row r)
joined (flush hs row) r = flush hs (joined row r)
joined (section body hs row) r = section body hs (joined row r)
joined (block d body saves rescued always row) r = block d body saves rescued always (joined row r)

-- the steps of rows one after the other
abbrev pub StepsJoin : Type 0
StepsJoin = (a b : Row) (m o : ℕ) (well hurt : Target) → row_steps (joined a b) m o well hurt
    ≡ row_steps a m o (row_target b (o + size a) well) hurt ++ row_steps b m (o + size a) well hurt

-- the tasks of a row's nodes
abbrev pub flush_tasks : Handlers → List Task
flush_tasks no_handlers = []
flush_tasks (handler n t hs) = t ∷ flush_tasks hs

abbrev pub tasks_of : Row → List Task
tasks_of end = []
tasks_of (task t row) = t ∷ tasks_of row
tasks_of (flush hs row) = flush_tasks hs ++ tasks_of row
tasks_of (section body hs row) =
    tasks_of body ++ (flush_tasks hs ++ (flush_tasks hs ++ tasks_of row))
tasks_of (block d body saves rescued always row) = tasks_of body
    ++ (tasks_of rescued ++ (tasks_of always ++ (tasks_of always ++ tasks_of row)))

-- each node's step has its task
abbrev pub StepsHaveTasks : Type 0
StepsHaveTasks = (row : Row) (m o : ℕ) (well hurt : Target)
    → map (λ s. s.task) (row_steps row m o well hurt) ≡ tasks_of row
