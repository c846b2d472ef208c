-- What the hosts do, as far as it says which of them starts next (`Run.next_start` of pb_machine).
use Rattle.std.specs.Prelude.{ℕ, suc, List, [], ◌∷◌, Bool, true, false, not, ◌&&◌, ◌||◌, nat_lt}
use Rattle.std.specs.Prelude.{nat_le, cond, map, Option, Some, None, option_map}
use Rattle.pb_language.specs.Drive.{Starting, lower}
use Rattle.pb_machine.specs.Steps.{Step}
use Rattle.pb_machine.specs.Hosts.{FlatHost, FlatStage, at_end, left_play, at, stands, works}
use Rattle.pb_machine.specs.Ways.{step_at}

-- a host is at no task, or it waits before one at that place in the book, or that one runs
pub data Activity : Type 0 where
  idle : Activity
  ready : ℕ → Activity
  runs : ℕ → Activity

abbrev pub activity_in : List Step → FlatStage → Activity
activity_in ss (stands at_end) = idle
activity_in ss (stands left_play) = idle
activity_in ss (stands (at n)) = ready (step_at ss n).task.place
activity_in ss (works n i ps) = runs (step_at ss n).task.place

abbrev pub activities : List Step → List FlatHost → List Activity
activities ss hs = map (λ h. activity_in ss h.stage) hs

abbrev pub count_running : Activity → ℕ → ℕ
count_running idle n = n
count_running (ready p) n = n
count_running (runs p) n = suc n

abbrev pub running_in : List Activity → ℕ
running_in [] = 0
running_in (a ∷ xs) = count_running a (running_in xs)

abbrev pub is_idle : Activity → Bool
is_idle idle = true
is_idle (ready p) = false
is_idle (runs p) = false

abbrev pub all_idle_in : List Activity → Bool
all_idle_in [] = true
all_idle_in (a ∷ xs) = is_idle a && all_idle_in xs

abbrev pub is_at_least : ℕ → Activity → Bool
is_at_least p idle = true
is_at_least p (ready q) = nat_le p q
is_at_least p (runs q) = nat_le p q

-- no host is behind that place
abbrev pub none_behind : ℕ → List Activity → Bool
none_behind p [] = true
none_behind p (a ∷ xs) = is_at_least p a && none_behind p xs

-- a task at that place can start
abbrev pub can_start_in : ℕ → Bool → List Activity → ℕ → Bool
can_start_in forks is_linear xs p =
    nat_lt (running_in xs) forks && (not is_linear || none_behind p xs)

abbrev pub start_of : (ℕ → Bool) → ℕ → Activity → Option Starting
start_of can k idle = None
start_of can k (ready p) = cond (can p) (Some (record { number = k; place = p })) None
start_of can k (runs p) = None

-- the one at the lowest place, ties by host order, of the hosts from that number on
abbrev pub first_in : (ℕ → Bool) → ℕ → List Activity → Option Starting
first_in can k [] = None
first_in can k (a ∷ xs) = lower (start_of can k a) (first_in can (suc k) xs)

abbrev pub always : ℕ → Bool
always p = true

-- the host that starts next
abbrev pub next_in : ℕ → Bool → List Activity → Option Starting
next_in forks is_linear xs = first_in (can_start_in forks is_linear xs) 0 xs

-- of a host and its place
abbrev pub starting_of : Option (ℕ × ℕ) → Option Starting
starting_of None = None
starting_of (Some x) = Some (record { number = x.0; place = x.1 })

abbrev pub number_of : Option Starting → Option ℕ
number_of o = option_map (λ x. x.number) o

abbrev pub is_not_behind : ℕ → Option Starting → Bool
is_not_behind p None = true
is_not_behind p (Some x) = nat_le p x.place
