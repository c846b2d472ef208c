-- The jobs of a run: which are out, by which tickets, and the calls that they make (this project's
-- own).
use Rattle.std.specs.Prelude.{ℕ, suc, ◌+◌, ◌-◌, List, [], ◌∷◌, Bool, false, cond, nat_eq, Option}
use Rattle.std.specs.Prelude.{Some, None}
use Rattle.pb_semantics.specs.Data.{Data}
use Rattle.pb_language.specs.Cases.{action_name}
use Rattle.pb_language.specs.Expression.{Name}
use Rattle.pb_language.specs.Machine.{Event, start, give, turn, stop, Host, Stage, State, host_at}
use Rattle.pb_language.specs.Machine.{is_out, of_host, runs, step, waits}
use Rattle.pb_language.specs.Start.{Entry, Pass, acts, calls, skips}

-- the event is a Start or a Give of the host
abbrev pub is_of : ℕ → Event → Bool
is_of k (start j) = nat_eq k j
is_of k (give j xs) = nat_eq k j
is_of k turn = false
is_of k stop = false

-- the place of the host's last event among these, the first of which has that place
abbrev pub last_from : ℕ → ℕ → List Event → Option ℕ → Option ℕ
last_from k p [] last = last
last_from k p (e ∷ es) last = last_from k (suc p) es (cond (is_of k e) (Some p) last)

abbrev pub last_place : ℕ → List Event → Option ℕ
last_place k es = last_from k 0 es None

-- a job of the host is out
abbrev pub is_out_at : ℕ → State → Bool
is_out_at k s = of_host (host_at k s.hosts) (λ h. is_out h.stage)

-- its ticket: the place of the event that handed it out, which is the host's last one
abbrev pub ticket_out : ℕ → State → List Event → Option ℕ
ticket_out k s es = cond (is_out_at k s) (last_place k es) None

-- how many calls these events handed out to the host
abbrev pub handed_to : ℕ → State → List Event → ℕ
handed_to k s [] = 0
handed_to k s (e ∷ es) =
    cond (is_of k e) ((step s e).handed - s.handed) 0 + handed_to k (step s e) es

pub record CallData : Type 0 where
  -- the host's number and name
  pub host : ℕ
  pub name : Name
  -- how many calls were handed out to the host before
  pub number : ℕ
  -- the module, and its arguments
  pub asked : Name
  pub arguments : Data

abbrev pub entry_calls : ℕ → Name → Name → Entry → (ℕ → List CallData) → ℕ → List CallData
entry_calls k host m (calls d) more n =
    record { host = k; name = host; number = n; asked = m; arguments = d } ∷ more (suc n)
entry_calls k host m skips more n = more n
entry_calls k host m (acts sh fs gs) more n = more n

-- the calls of that module on the host that its passes make, numbered from a number on
abbrev pub pass_calls : ℕ → Name → Name → List Pass → ℕ → List CallData
pass_calls k host m [] n = []
pass_calls k host m (p ∷ ps) n = entry_calls k host m p.entry (pass_calls k host m ps) n

abbrev pub stage_calls : ℕ → Name → ℕ → Stage → List CallData
stage_calls k host n (waits r) = []
stage_calls k host n (runs t i ps a b) = pass_calls k host (action_name t.action) ps n

abbrev pub host_calls : ℕ → ℕ → Option Host → List CallData
host_calls k n None = []
host_calls k n (Some h) = stage_calls k h.name n h.stage

-- the calls of the host's job that is out, to whom so many calls were handed out before
abbrev pub job_calls : ℕ → ℕ → State → List CallData
job_calls k n s = host_calls k n (host_at k s.hosts)
