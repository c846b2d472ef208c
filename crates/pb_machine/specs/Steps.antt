-- A play as a flat plan: numbered steps, each with where a host goes from it (this project's own).
use Rattle.std.specs.Prelude.{ℕ, suc, ◌+◌, List, [], ◌∷◌, ◌++◌, Bool, true, false, Option, Some}
use Rattle.std.specs.Prelude.{None}
use Rattle.pb_language.specs.Task.{Task, Handlers, no_handlers, handler, Row, end, task, flush}
use Rattle.pb_language.specs.Task.{section, block}
use Rattle.pb_language.specs.Links.{handler_places, size}

-- what happens to the text of a failure on the way from one task to the next
pub data Move : Type 0 where
  -- it is kept for the `rescue` part that begins, inside so many others
  rescuing : ℕ → Move
  -- it is held while the `always` part runs that begins, inside so many others that run after a
  -- failure
  holding : ℕ → Move
  -- that part is done: the text that it held is the failure's again
  releasing : ℕ → Move

-- where a host goes: to the node of that number, which is the play's end where it is the one after
-- the last step's, or to none, where the host leaves as failed; and what happens on the way, the
-- first move first
pub record Target : Type 0 where
  pub moves : List Move
  pub to : Option ℕ

-- the task at a node, with its number where it is a handler; where a host goes when it is done, or
-- past a handler that wasn't notified; and where a failure leads
pub record Step : Type 0 where
  pub task : Task
  pub handler : Option ℕ
  pub ok : Target
  pub failed : Target

abbrev pub leaving : Target
leaving = record { moves = []; to = None }

abbrev pub to_node : ℕ → Target
to_node n = record { moves = []; to = Some n }

-- that move, and then the way to the target
abbrev pub moving : Move → Target → Target
moving m t = record { moves = m ∷ t.moves; to = t.to }

-- In what follows `o` is the number of the first node, and `after` where the end leads.

-- where a flush, or a row, is entered: at its first node, or past it where it has none
abbrev pub flush_target : Handlers → ℕ → Target → Target
flush_target no_handlers o after = after
flush_target (handler n t hs) o after = to_node o

abbrev pub row_target : Row → ℕ → Target → Target
row_target end o after = after
row_target (task t row) o after = to_node o
row_target (flush hs row) o after = flush_target hs o (row_target row (o + handler_places hs) after)
row_target (section body hs row) o after =
    let a = o + size body in
    row_target body o
    (flush_target hs a (row_target row (a + handler_places hs + handler_places hs) after))
row_target (block d body saves rescued always row) o after =
    let a = o + size body + size rescued in
    row_target body o (row_target always a (row_target row (a + size always + size always) after))

-- the steps of a flush: a host whose handler fails leaves
abbrev pub flush_steps : Handlers → ℕ → Target → List Step
flush_steps no_handlers o after = []
flush_steps (handler n t hs) o after = record {
  task = t;
  handler = Some n;
  ok = flush_target hs (suc o) after;
  failed = leaving;
} ∷ flush_steps hs (suc o) after

-- a failure in a body enters the rescue, where there is one
abbrev pub saved_target : ℕ → Bool → Target → Target → Target
saved_target d true inside outside = moving (rescuing d) inside
saved_target d false inside outside = outside

-- The steps of a row, in the order of its nodes (`Links.links`): of a section its body, its flush,
-- and that flush as it runs after a failure; of a block its body, its rescue, its always, and that
-- always as it runs after a failure. `m` counts the `always` parts round the row that run after a
-- failure; `well` is where the row's end leads, and `hurt` where a failure does. `r` is a rescue's
-- first node, `a` that of the flush or the always, `f` that of the one after a failure, and `n`
-- that of what follows. A body and a rescue that are done lead to `on`; a failure that isn't
-- rescued leads to `fails`, and the always that runs after it to `out`.
abbrev pub row_steps : Row → ℕ → ℕ → Target → Target → List Step
row_steps end m o well hurt = []
row_steps (task t row) m o well hurt =
    record { task = t; handler = None; ok = row_target row (suc o) well; failed = hurt }
    ∷ row_steps row m (suc o) well hurt
row_steps (flush hs row) m o well hurt =
    let n = o + handler_places hs in
    flush_steps hs o (row_target row n well) ++ row_steps row m n well hurt
row_steps (section body hs row) m o well hurt =
    let a = o + size body in
    let f = a + handler_places hs in
    let n = f + handler_places hs in
    let next = row_target row n well in
    row_steps body m o (flush_target hs a next) (flush_target hs f leaving)
    ++ (flush_steps hs a next ++ (flush_steps hs f leaving ++ row_steps row m n well hurt))
row_steps (block d body saves rescued always row) m o well hurt =
    let r = o + size body in
    let a = r + size rescued in
    let f = a + size always in
    let n = f + size always in
    let next = row_target row n well in
    let out = moving (releasing m) hurt in
    let on = row_target always a next in
    let fails = moving (holding m) (row_target always f out) in
    row_steps body m o on (saved_target d saves (row_target rescued r on) fails)
    ++ (row_steps rescued m r on fails
    ++ (row_steps always m a next hurt
    ++ (row_steps always (suc m) f out hurt ++ row_steps row m n well hurt)))

-- a play's nodes have the numbers from 1 on, and its end the one after them
abbrev pub end_target : Row → Target
end_target row = to_node (suc (size row))

-- the plan of a play's row: its steps, and where a host begins
abbrev pub play_steps : Row → List Step
play_steps row = row_steps row 0 1 (end_target row) leaving

abbrev pub play_begin : Row → Target
play_begin row = row_target row 1 (end_target row)
