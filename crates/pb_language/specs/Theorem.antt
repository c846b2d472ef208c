-- What holds of every accepted book, whatever happens.
use Rattle.std.specs.Prelude.{◌≡◌, ◌≤◌, ◌⊎◌, ℕ, suc, ◌+◌, ◌*◌, List, [], ◌∷◌, Bool, true, false}
use Rattle.std.specs.Prelude.{not, ◌&&◌, length}
use Rattle.pb_semantics.specs.Keeps.{is_among}
use Rattle.pb_language.specs.Expression.{Name}
use Rattle.pb_language.specs.World.{HostVariables}
use Rattle.pb_language.specs.Book.{Book, Registry}
use Rattle.pb_language.specs.Plays.{program_of}
use Rattle.pb_language.specs.Program.{Inventory, Program, Batch, all_batches}
use Rattle.pb_language.specs.Give.{retries_of}
use Rattle.pb_language.specs.Task.{Task, Handlers, no_handlers, handler, Row, end, task, flush}
use Rattle.pb_language.specs.Task.{section, block}
use Rattle.pb_language.specs.Tables.{all_walked, views_after}
use Rattle.pb_language.specs.Verdict.{accepted, all_have, found_laters}
use Rattle.pb_language.specs.Judged.{judged}
use Rattle.pb_language.specs.Machine.{Event, start, turn, Host, State, is_out, enabled, history}
use Rattle.pb_language.specs.Machine.{opening, run}

-- no host stands twice in the inventory
abbrev pub host_names : List HostVariables → List Name
host_names [] = []
host_names (x ∷ xs) = x.name ∷ host_names xs

abbrev pub are_distinct : List Name → Bool
are_distinct [] = true
are_distinct (n ∷ ns) = not (is_among n ns) && are_distinct ns

-- the run of a book after these events
abbrev pub run_of : Registry → Inventory → Book → ℕ → List Event → State
run_of ms inventory b forks es = run (program_of ms inventory b) inventory forks es

-- whatever the events, no step of an accepted book is stuck: it meets no undefined variable, no
-- missing field, no value of the wrong kind and no unknown handler
abbrev pub NeverStuck : Type 0
NeverStuck = (ms : Registry) (inventory : Inventory) (b : Book) (n forks : ℕ) (es : List Event)
    → are_distinct (host_names inventory.hosts) ≡ true → judged ms inventory b ≡ accepted n
    → (run_of ms inventory b forks es).is_stuck ≡ false

-- and the calls that were handed out are at most the budget
abbrev pub WithinBudget : Type 0
WithinBudget = (ms : Registry) (inventory : Inventory) (b : Book) (n forks : ℕ) (es : List Event)
    → are_distinct (host_names inventory.hosts) ≡ true → judged ms inventory b ≡ accepted n
    → (run_of ms inventory b forks es).handed ≤ n

abbrev pub none_out : List Host → Bool
none_out [] = true
none_out (h ∷ hs) = not (is_out h.stage) && none_out hs

abbrev pub CanGoOn : State → Type 0
CanGoOn s = ((k : ℕ) × (enabled s (start k) ≡ true)) ⊎ (enabled s turn ≡ true)

-- a run that hasn't ended, isn't stopped and has no job out can start a task or turn to the next
-- batch
abbrev pub Progress : Type 0
Progress = (ms : Registry) (inventory : Inventory) (b : Book) (forks : ℕ) (es : List Event)
    → 1 ≤ forks → (s : State) → s ≡ run_of ms inventory b forks es → s.is_stopped ≡ false
    → (s.batches ≡ [] → false ≡ true) → none_out s.hosts ≡ true → CanGoOn s

-- the events of an occurrence: one Start, and a Give for each attempt
abbrev pub task_events : Task → ℕ
task_events t = suc (suc (retries_of t.attempts))

abbrev pub handler_events : Handlers → ℕ
handler_events no_handlers = 0
handler_events (handler n t hs) = task_events t + handler_events hs

-- those of the places of a row: one for each task, and at each flush one for each handler; an
-- `always` part has one set of places for both its modes, and so has a flush that is forced
abbrev pub row_events : Row → ℕ
row_events end = 0
row_events (task t row) = task_events t + row_events row
row_events (flush hs row) = handler_events hs + row_events row
row_events (section body hs row) = row_events body + (handler_events hs + row_events row)
row_events (block d body saves rescued always row) =
    row_events body + (row_events rescued + (row_events always + row_events row))

-- an occurrence is a host of a batch and a place of its play
abbrev pub occurrence_events : List Batch → ℕ
occurrence_events [] = 0
occurrence_events (b ∷ bs) = length b.members * row_events b.play.row + occurrence_events bs

-- whatever the events, few of them are enabled: those of each occurrence, one for each batch, and
-- one Stop
abbrev pub ShortHistory : Type 0
ShortHistory = (ms : Registry) (inventory : Inventory) (b : Book) (n forks : ℕ) (es : List Event)
    → are_distinct (host_names inventory.hosts) ≡ true → judged ms inventory b ≡ accepted n
    → length (history (opening (program_of ms inventory b) inventory forks) es)
    ≤ occurrence_events (all_batches (program_of ms inventory b))
    + length (all_batches (program_of ms inventory b)) + 1

-- what the first walk says of later places is so in the walk with each table; so this never keeps a
-- book from being accepted
abbrev pub LatersHold : Type 0
LatersHold = (ps : Program) (inventory : Inventory) (r : ℕ)
    → are_distinct (host_names inventory.hosts) ≡ true
    → all_have ps (found_laters ps inventory)
    (all_walked inventory ps (views_after r inventory ps (found_laters ps inventory))
    (found_laters ps inventory)) ≡ true
