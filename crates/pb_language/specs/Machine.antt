-- A run as a machine over events (Ansible's page on strategies).
use Rattle.std.specs.Prelude.{ℕ, zero, suc, ◌+◌, ◌-◌, List, [], ◌∷◌, ◌++◌, Bool, true, false, not}
use Rattle.std.specs.Prelude.{◌&&◌, ◌||◌, nat_le, nat_lt, nat_eq, cond, Option, Some, None, length}
use Rattle.std.specs.Prelude.{drop}
use Rattle.std.specs.Str.{bytes_eq}
use Rattle.pb_semantics.specs.Data.{Fields}
use Rattle.pb_semantics.specs.Keeps.{is_among}
use Rattle.pb_language.specs.Expression.{Name}
use Rattle.pb_language.specs.World.{HostVariables, World}
use Rattle.pb_language.specs.Task.{Task}
use Rattle.pb_language.specs.Rest.{Rest, done, left, next, ask, rescue, hold, release, rest_of}
use Rattle.pb_language.specs.Setting.{named_fields}
use Rattle.pb_language.specs.Start.{Pass, Plan, planned, halted, plan_of, call_count}
use Rattle.pb_language.specs.Give.{Answer, Admitted, admitted, breached, unreached, admit_passes}
use Rattle.pb_language.specs.Give.{Ended, Results, results_are, no_results, end_all, any_changed}
use Rattle.pb_language.specs.Give.{any_failed, all_skipped, asks_again, last_attempts, message_of}
use Rattle.pb_language.specs.Give.{written_variables}
use Rattle.pb_language.specs.Notify.{Notified, handlers_are, names_nothing, all_notified}
use Rattle.pb_language.specs.Program.{Inventory, Play, Program, Batch, all_batches, setting_of}

pub data Event : Type 0 where
  start : ℕ → Event
  give : ℕ → List Answer → Event
  turn : Event
  stop : Event

-- what comes next on a host: nothing in this play, nothing since it left, or a task with the two
-- ways on
pub data Ready : Type 0 where
  over : Ready
  gone : Ready
  begins : Task → Rest → Rest → Ready

-- it waits, or a job of it is out, with the number of attempts before it
pub data Stage : Type 0 where
  waits : Ready → Stage
  runs : Task → ℕ → List Pass → Rest → Rest → Stage

-- what the host's tasks came to
pub record Recap : Type 0 where
  pub ok : ℕ
  pub changed : ℕ
  pub unreachable : ℕ
  pub failed : ℕ
  pub skipped : ℕ
  pub rescued : ℕ
  pub ignored : ℕ

pub record Host : Type 0 where
  pub name : Name
  pub variables : Fields
  -- the numbers of the notified handlers
  pub marks : List ℕ
  -- the latest failure's text, those of the open `rescue` parts, and those held by open `always`
  -- parts, the innermost first
  pub failure : List ℕ
  pub rescues : List (List ℕ)
  pub holds : List (List ℕ)
  pub stage : Stage
  pub recap : Recap

pub record State : Type 0 where
  pub inventory : Inventory
  pub forks : ℕ
  pub hosts : List Host
  -- the batch that runs and those that are still to run; none where the run has ended
  pub batches : List Batch
  -- the calls handed out
  pub handed : ℕ
  pub is_stuck : Bool
  pub is_stopped : Bool

abbrev pub is_marked : ℕ → List ℕ → Bool
is_marked n [] = false
is_marked n (m ∷ ms) = nat_eq n m || is_marked n ms

abbrev pub unmarked : ℕ → List ℕ → List ℕ
unmarked n [] = []
unmarked n (m ∷ ms) = cond (nat_eq n m) (unmarked n ms) (m ∷ unmarked n ms)

-- the outermost so many
abbrev pub outermost : ℕ → List (List ℕ) → List (List ℕ)
outermost n xs = drop (length xs - n) xs

abbrev pub innermost : List (List ℕ) → List ℕ
innermost [] = []
innermost (x ∷ xs) = x

-- the host before its next task: a mark is cleared when its handler starts
abbrev pub settled : Host → Rest → Host
settled h done = record h { stage = waits over }
settled h left = record h { stage = waits gone }
settled h (next t a b) = record h { stage = waits (begins t a b) }
settled h (ask n a b) =
    cond (is_marked n h.marks) (settled (record h { marks = unmarked n h.marks }) a) (settled h b)
settled h (rescue d r) = settled (record h { rescues = h.failure ∷ outermost d h.rescues }) r
settled h (hold m r) = settled (record h { holds = h.failure ∷ outermost m h.holds }) r
settled h (release m r) = settled (record h { failure = innermost (outermost (suc m) h.holds) }) r

abbrev pub is_on_stage : Stage → Bool
is_on_stage (waits over) = true
is_on_stage (waits gone) = false
is_on_stage (waits (begins t a b)) = true
is_on_stage (runs t n ps a b) = true

-- a host is active until it leaves
abbrev pub is_on : Host → Bool
is_on h = is_on_stage h.stage

abbrev pub is_active_host : Name → List Host → Bool
is_active_host g [] = false
is_active_host g (h ∷ hs) = (is_on h && bytes_eq g h.name) || is_active_host g hs

-- the active ones of these in their order
abbrev pub still_active : List Host → List Name → List Name
still_active hs [] = []
still_active hs (n ∷ ns) = cond (is_active_host n hs) (n ∷ still_active hs ns) (still_active hs ns)

abbrev pub variables_seen : List Host → List HostVariables
variables_seen [] = []
variables_seen (h ∷ hs) = record { name = h.name; variables = h.variables } ∷ variables_seen hs

-- the world of a host's task
abbrev pub world_of : State → Batch → Host → Task → World
world_of s b h t = record {
  mine = named_fields (setting_of s.inventory b.play [] [] h.name) t.depth
      (innermost (outermost t.depth h.rescues)) (still_active s.hosts b.members) h.variables;
  this = h.name;
  hosts = variables_seen s.hosts;
  batch = still_active s.hosts b.members;
  groups = s.inventory.groups;
}

abbrev pub host_at : ℕ → List Host → Option Host
host_at k [] = None
host_at zero (h ∷ hs) = Some h
host_at (suc k) (h ∷ hs) = host_at k hs

abbrev pub put_host : ℕ → Host → List Host → List Host
put_host k x [] = []
put_host zero x (h ∷ hs) = x ∷ hs
put_host (suc k) x (h ∷ hs) = h ∷ put_host k x hs

abbrev pub is_out : Stage → Bool
is_out (waits r) = false
is_out (runs t n ps a b) = true

abbrev pub running : List Host → ℕ
running [] = 0
running (h ∷ hs) = cond (is_out h.stage) (suc (running hs)) (running hs)

-- it waits at no earlier place and runs at none
abbrev pub stands_at : ℕ → Stage → Bool
stands_at p (waits over) = true
stands_at p (waits gone) = true
stands_at p (waits (begins t a b)) = nat_le p t.place
stands_at p (runs t n ps a b) = nat_le p t.place

abbrev pub all_stand : ℕ → List Host → Bool
all_stand p [] = true
all_stand p (h ∷ hs) = stands_at p h.stage && all_stand p hs

-- fewer than `forks` hosts run, and under `linear` nobody is behind
abbrev pub can_start : State → Batch → Stage → Bool
can_start s b (waits (begins t x y)) =
    nat_lt (running s.hosts) s.forks && (not b.play.is_linear || all_stand t.place s.hosts)
can_start s b g = false

abbrev pub is_idle : Stage → Bool
is_idle (waits over) = true
is_idle (waits gone) = true
is_idle (waits (begins t a b)) = false
is_idle (runs t n ps a b) = false

abbrev pub all_idle : List Host → Bool
all_idle [] = true
all_idle (h ∷ hs) = is_idle h.stage && all_idle hs

abbrev pub of_host : Option Host → (Host → Bool) → Bool
of_host None f = false
of_host (Some h) f = f h

abbrev pub is_possible : State → List Batch → Event → Bool
is_possible s [] e = false
is_possible s (b ∷ bs) (start k) = of_host (host_at k s.hosts) (λ h. can_start s b h.stage)
is_possible s (b ∷ bs) (give k xs) = of_host (host_at k s.hosts) (λ h. is_out h.stage)
is_possible s (b ∷ bs) turn = all_idle s.hosts
is_possible s (b ∷ bs) stop = true

-- after a Stop, and where the run has ended, nothing is enabled
abbrev pub enabled : State → Event → Bool
enabled s e = not s.is_stopped && is_possible s s.batches e

abbrev pub with_host : State → ℕ → Host → State
with_host s k h = record s { hosts = put_host k h s.hosts }

abbrev pub stuck_state : State → State
stuck_state s = record s { is_stuck = true }

abbrev pub on_plan : State → ℕ → Host → Task → Rest → Rest → Plan → State
on_plan s k h t a b (halted y) = stuck_state s
on_plan s k h t a b (planned ps) = record s {
  hosts = put_host k (record h { stage = runs t 0 ps a b }) s.hosts;
  handed = s.handed
      + call_count ps;
}

abbrev pub on_start : State → Batch → ℕ → Host → Stage → State
on_start s b k h (waits (begins t x y)) = on_plan s k h t x y (plan_of (world_of s b h t) t t.loop)
on_start s b k h g = s

abbrev pub notified_by : Play → Task → Bool → Notified
notified_by p t true = all_notified p.handlers t.notifies
notified_by p t false = handlers_are []

abbrev pub count_if : Bool → ℕ → ℕ
count_if true n = suc n
count_if false n = n

-- one more task that counts as ok
abbrev pub ok_recap : Bool → Recap → Recap
ok_recap c r = record r { ok = suc r.ok; changed = count_if c r.changed }

-- one more task that ended: skipped, failed or not, ignored or not, in a block that saves it or not
abbrev pub ended_recap : Bool → Bool → Bool → Bool → Bool → Recap → Recap
ended_recap true changed failed ignored saved r = record r { skipped = suc r.skipped }
ended_recap false changed false ignored saved r = ok_recap changed r
ended_recap false changed true true saved r =
    record (ok_recap changed r) { ignored = suc r.ignored }
ended_recap false changed true false true r = record r { rescued = suc r.rescued }
ended_recap false changed true false false r = record r { failed = suc r.failed }

abbrev pub task_recap : Task → List Ended → Recap → Recap
task_recap t es r =
    ended_recap (all_skipped es) (any_changed es) (any_failed es) t.ignores t.rescued r

-- the host after its task: a failure that isn't ignored goes the other way
abbrev pub after_task : Host → Task → List Ended → List ℕ → Host
after_task h t es ms = record h {
  variables = written_variables t es h.variables;
  marks = ms
      ++ h.marks;
  failure = cond (any_failed es && not t.ignores) (message_of t.loop es) h.failure;
  recap = task_recap t es h.recap;
}

abbrev pub way_on : Task → List Ended → Rest → Rest → Rest
way_on t es a b = cond (any_failed es && not t.ignores) b a

abbrev pub on_notified : State → ℕ → Host → Task → Rest → Rest → List Ended → Notified → State
on_notified s k h t a b es names_nothing = stuck_state s
on_notified s k h t a b es (handlers_are ms) =
    with_host s k (settled (after_task h t es ms) (way_on t es a b))

-- a task notifies where it is changed and not failed
abbrev pub on_ended : State → Batch → ℕ → Host → Task → Rest → Rest → List Ended → State
on_ended s b k h t x y es =
    on_notified s k h t x y es (notified_by b.play t (any_changed es && not (any_failed es)))

-- the same calls again: nothing is counted, registered or notified
abbrev pub on_again : State → ℕ → Host → Task → ℕ → List Pass → Rest → Rest → State
on_again s k h t n ps x y = record s {
  hosts = put_host k (record h { stage = runs t (suc n) ps x y }) s.hosts;
  handed = s.handed + call_count ps;
}

abbrev pub on_results : State → Batch → ℕ → Host → Task → ℕ → List Pass → Rest → Rest → Results
    → State
on_results s b k h t n ps x y (no_results w) = stuck_state s
on_results s b k h t n ps x y (results_are es) = cond (asks_again t n es)
    (on_again s k h t n ps x y) (on_ended s b k h t x y (last_attempts es))

-- a host that can't be reached or that breaks its module's word leaves at once
abbrev pub on_admitted : State → Batch → ℕ → Host → Task → ℕ → List Pass → Rest → Rest → Admitted
    → State
on_admitted s b k h t n ps x y (admitted os) =
    on_results s b k h t n ps x y (end_all (world_of s b h t) t os)
on_admitted s b k h t n ps x y breached = with_host s k
    (record h { stage = waits gone; recap = record h.recap { failed = suc h.recap.failed } })
on_admitted s b k h t n ps x y unreached = with_host s k
    (record h {
      stage = waits gone;
      recap = record h.recap
          { unreachable = suc h.recap.unreachable };
    })

abbrev pub on_give : State → Batch → ℕ → Host → List Answer → Stage → State
on_give s b k h xs (waits r) = s
on_give s b k h xs (runs t n ps x y) =
    on_admitted s b k h t n ps x y (admit_passes t.action ps xs)

-- an active host of the batch begins its play
abbrev pub begun : Batch → Host → Host
begun b h = cond (is_on h && is_among h.name b.members)
    (settled (record h { marks = []; rescues = []; holds = [] }) (rest_of b.play.row 0 done left)) h

abbrev pub all_begun : Batch → List Host → List Host
all_begun b [] = []
all_begun b (h ∷ hs) = begun b h ∷ all_begun b hs

abbrev pub with_batches : State → List Batch → State
with_batches s [] = record s { batches = [] }
with_batches s (b ∷ bs) = record s { batches = b ∷ bs; hosts = all_begun b s.hosts }

abbrev pub any_names : List Name → Bool
any_names [] = false
any_names (n ∷ ns) = true

-- with no active host in the batch the run ends; else the next batch begins, or the run ends after
-- the last
abbrev pub on_turn : State → Batch → List Batch → State
on_turn s b bs = with_batches s (cond (any_names (still_active s.hosts b.members)) bs [])

abbrev pub on_host : State → Option Host → (Host → State) → State
on_host s None go = s
on_host s (Some h) go = go h

abbrev pub happened : State → List Batch → Event → State
happened s [] e = s
happened s (b ∷ bs) (start k) = on_host s (host_at k s.hosts) (λ h. on_start s b k h h.stage)
happened s (b ∷ bs) (give k xs) = on_host s (host_at k s.hosts) (λ h. on_give s b k h xs h.stage)
happened s (b ∷ bs) turn = on_turn s b bs
happened s (b ∷ bs) stop = record s { is_stopped = true }

-- an event that isn't enabled changes nothing
abbrev pub step : State → Event → State
step s e = cond (enabled s e) (happened s s.batches e) s

abbrev pub empty_recap : Recap
empty_recap = record {
  ok = 0;
  changed = 0;
  unreachable = 0;
  failed = 0;
  skipped = 0;
  rescued = 0;
  ignored = 0;
}

abbrev pub opening_hosts : List HostVariables → List Host
opening_hosts [] = []
opening_hosts (x ∷ xs) = record {
  name = x.name;
  variables = x.variables;
  marks = [];
  failure = [];
  rescues = [];
  holds = [];
  stage = waits over;
  recap = empty_recap;
} ∷ opening_hosts xs

abbrev pub opening : Program → Inventory → ℕ → State
opening program inventory forks = with_batches
    (record {
      inventory = inventory;
      forks = forks;
      hosts = opening_hosts inventory.hosts;
      batches = [];
      handed = 0;
      is_stuck = false;
      is_stopped = false;
    }) (all_batches program)

abbrev pub run_from : State → List Event → State
run_from s [] = s
run_from s (e ∷ es) = run_from (step s e) es

-- the run of a program after these events, enabled or not
abbrev pub run : Program → Inventory → ℕ → List Event → State
run program inventory forks es = run_from (opening program inventory forks) es

-- the enabled events of a list
abbrev pub history : State → List Event → List Event
history s [] = []
history s (e ∷ es) = cond (enabled s e) (e ∷ history (step s e) es) (history (step s e) es)
