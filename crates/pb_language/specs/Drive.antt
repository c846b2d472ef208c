-- Which host starts next, and a run whose jobs are answered one after the other (Ansible's page on
-- strategies; one job at a time is this project's own).
use Rattle.std.specs.Prelude.{ℕ, zero, suc, ◌-◌, List, [], ◌∷◌, nat_lt, cond, Option, Some, None}
use Rattle.std.specs.Prelude.{take, drop}
use Rattle.pb_language.specs.Start.{call_count}
use Rattle.pb_language.specs.Give.{Answer, retries_of}
use Rattle.pb_language.specs.Machine.{start, give, turn, begins, Stage, waits, runs, Host, State}
use Rattle.pb_language.specs.Machine.{host_at, enabled, step}

-- a host that can start, and its place
pub record Starting : Type 0 where
  pub number : ℕ
  pub place : ℕ

abbrev pub starting : State → ℕ → Stage → Option Starting
starting s k (waits (begins t a b)) =
    cond (enabled s (start k)) (Some (record { number = k; place = t.place })) None
starting s k g = None

-- the lowest place, ties by host order
abbrev pub lower : Option Starting → Option Starting → Option Starting
lower None y = y
lower (Some x) None = Some x
lower (Some x) (Some y) = cond (nat_lt y.place x.place) (Some y) (Some x)

abbrev pub first_starting : State → ℕ → List Host → Option Starting
first_starting s k [] = None
first_starting s k (h ∷ hs) = lower (starting s k h.stage) (first_starting s (suc k) hs)

abbrev pub next_start : State → Option Starting
next_start s = first_starting s 0 s.hosts

-- the calls of the job that is out
abbrev pub stage_calls : Stage → ℕ
stage_calls (waits r) = 0
stage_calls (runs t n ps a b) = call_count ps

abbrev pub calls_out : Option Host → ℕ
calls_out None = 0
calls_out (Some h) = stage_calls h.stage

abbrev pub answers_at : ℕ → List (List Answer) → List Answer
answers_at k [] = []
answers_at zero (xs ∷ xss) = xs
answers_at (suc k) (xs ∷ xss) = answers_at k xss

abbrev pub answers_used : ℕ → ℕ → List (List Answer) → List (List Answer)
answers_used k n [] = []
answers_used zero n (xs ∷ xss) = drop n xs ∷ xss
answers_used (suc k) n (xs ∷ xss) = xs ∷ answers_used k n xss

-- a run, and the answers of each host that are left
pub record Driven : Type 0 where
  pub state : State
  pub answers : List (List Answer)

abbrev pub given_next : ℕ → ℕ → List (List Answer) → State → Driven
given_next k n xss s =
    record { state = step s (give k (take n (answers_at k xss))); answers = answers_used k n xss }

-- the answers of one attempt after the other, while the host's job is out
abbrev pub attempts_out : Stage → ℕ
attempts_out (waits r) = 0
attempts_out (runs t n ps a b) = suc (retries_of t.attempts - n)

abbrev pub attempts_at : Option Host → ℕ
attempts_at None = 0
attempts_at (Some h) = attempts_out h.stage

abbrev pub given_all : ℕ → ℕ → Driven → Driven
given_all zero k d = d
given_all (suc m) k d = cond (nat_lt 0 (attempts_at (host_at k d.state.hosts)))
    (given_all m k (given_next k (calls_out (host_at k d.state.hosts)) d.answers d.state)) d

abbrev pub started_next : ℕ → List (List Answer) → State → Driven
started_next k xss s =
    given_all (attempts_at (host_at k s.hosts)) k (record { state = s; answers = xss })

abbrev pub drive_start : Option Starting → Driven → Driven
drive_start None d = d
drive_start (Some x) d = started_next x.number d.answers (step d.state (start x.number))

-- a Turn where one is enabled, else the next job with its answers
abbrev pub drive_step : Driven → Driven
drive_step d = cond (enabled d.state turn) (record d { state = step d.state turn })
    (drive_start (next_start d.state) d)

abbrev pub drive : ℕ → Driven → Driven
drive zero d = d
drive (suc n) d = drive n (drive_step d)
