-- The machine on flat plans is pb_language's machine, event by event (this project's own).
use Rattle.std.specs.Prelude.{◌≡◌, ℕ, List, [], ◌∷◌}
use Rattle.pb_language.specs.Program.{Inventory, Program}
use Rattle.pb_language.specs.Task.{Row}
use Rattle.pb_language.specs.Rest.{done, left, rest_of}
use Rattle.pb_language.specs.Give.{Ended}
use Rattle.pb_language.specs.Machine.{Event, Host, State, enabled, step, run, opening, history}
use Rattle.pb_language.specs.Drive.{next_start}
use Rattle.pb_language.specs.Machine.{settled, after_task, way_on}
use Rattle.pb_machine.specs.Steps.{Step, play_steps, play_begin}
use Rattle.pb_machine.specs.Hosts.{FlatHost, arrived}
use Rattle.pb_machine.specs.Ways.{host_of, rest_to}
use Rattle.pb_machine.specs.Run.{FlatState, current_steps, target_on}
use Rattle.pb_machine.specs.Run as flat

-- a host that begins a play arrives where pb_language's host settles
abbrev pub BeginSettles : Type 0
BeginSettles = (row : Row) (h : FlatHost)
    → settled (host_of (play_steps row) h) (rest_of row 0 done left)
    ≡ host_of (play_steps row) (arrived (play_steps row) (play_begin row) h)

-- and so does one that goes on after a task
abbrev pub AfterSettles : Type 0
AfterSettles = (row : Row) (h : FlatHost) (x : Step) (es : List Ended) (ms : List ℕ)
    → (let ss = play_steps row in
    settled (after_task (host_of ss h) x.task es ms)
    (way_on x.task es (rest_to ss x.ok) (rest_to ss x.failed))
    ≡ host_of ss (arrived ss (target_on x es) (flat.after_task h x.task es ms)))

abbrev pub hosts_of : List Step → List FlatHost → List Host
hosts_of ss [] = []
hosts_of ss (h ∷ hs) = host_of ss h ∷ hosts_of ss hs

-- the state of pb_language's machine in which each host is where it is in this one
abbrev pub state_of : FlatState → State
state_of s = record {
  inventory = s.inventory;
  forks = s.forks;
  hosts = hosts_of (current_steps s.batches) s.hosts;
  batches = s.batches;
  handed = s.handed;
  is_stuck = s.is_stuck;
  is_stopped = s.is_stopped;
}

-- whatever happens, it is enabled in both or in neither, and leads to states that are the same
abbrev pub SameEnabled : Type 0
SameEnabled = (s : FlatState) (e : Event) → enabled (state_of s) e ≡ flat.enabled s e

abbrev pub SameStep : Type 0
SameStep = (s : FlatState) (e : Event) → step (state_of s) e ≡ state_of (flat.step s e)

-- the same host starts next
abbrev pub SameNext : Type 0
SameNext = (s : FlatState) → next_start (state_of s) ≡ flat.next_start s

-- so the runs of a program are the same, after any events, and so are their histories
abbrev pub SameRun : Type 0
SameRun = (program : Program) (inventory : Inventory) (forks : ℕ) (es : List Event)
    → run program inventory forks es ≡ state_of (flat.run program inventory forks es)

abbrev pub SameHistory : Type 0
SameHistory = (program : Program) (inventory : Inventory) (forks : ℕ) (es : List Event)
    → history (opening program inventory forks) es
    ≡ flat.history (flat.opening program inventory forks) es
