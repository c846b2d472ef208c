-- A run on flat plans, as a machine over events: pb_language's `Machine`, definition by definition,
-- with a node's number in place of a task and its ways on (this project's own). `b` is the batch
-- that runs and `bs` those after it, `k` a host's number and `h` that host, `n` its node and `x`
-- the step there, `i` how many attempts were before this one, `ps` what it does for each item, and
-- `es` what came of each.
use Rattle.std.specs.Prelude.{ℕ, zero, suc, ◌+◌, List, [], ◌∷◌, ◌++◌, Bool, true, false, not}
use Rattle.std.specs.Prelude.{◌&&◌, ◌||◌, nat_le, nat_lt, cond, Option, Some, None}
use Rattle.std.specs.Str.{bytes_eq}
use Rattle.pb_semantics.specs.Keeps.{is_among}
use Rattle.pb_language.specs.Expression.{Name}
use Rattle.pb_language.specs.World.{HostVariables, World}
use Rattle.pb_language.specs.Task.{Task}
use Rattle.pb_language.specs.Setting.{named_fields}
use Rattle.pb_language.specs.Start.{Pass, Plan, planned, halted, plan_of, call_count}
use Rattle.pb_language.specs.Give.{Answer, Admitted, admitted, breached, unreached, admit_passes}
use Rattle.pb_language.specs.Give.{Ended, Results, results_are, no_results, end_all, any_changed}
use Rattle.pb_language.specs.Give.{any_failed, asks_again, last_attempts, message_of}
use Rattle.pb_language.specs.Give.{written_variables}
use Rattle.pb_language.specs.Notify.{Notified, handlers_are, names_nothing}
use Rattle.pb_language.specs.Program.{Inventory, Program, Batch, all_batches, setting_of}
use Rattle.pb_language.specs.Drive.{Starting, lower}
use Rattle.pb_language.specs.Machine.{Event, start, give, turn, stop, outermost, innermost}
use Rattle.pb_language.specs.Machine.{empty_recap, notified_by, task_recap, any_names}
use Rattle.pb_machine.specs.Steps.{Target, Step, play_steps, play_begin}
use Rattle.pb_machine.specs.Hosts.{at_end, left_play, at, FlatStage, stands, works, FlatHost}
use Rattle.pb_machine.specs.Hosts.{arrived}
use Rattle.pb_machine.specs.Ways.{step_at}

pub record FlatState : Type 0 where
  pub inventory : Inventory
  pub forks : ℕ
  pub hosts : List FlatHost
  pub batches : List Batch
  pub handed : ℕ
  pub is_stuck : Bool
  pub is_stopped : Bool

-- the steps of a batch's play
abbrev pub plan_steps : Batch → List Step
plan_steps b = play_steps b.play.row

abbrev pub is_on_stage : FlatStage → Bool
is_on_stage (stands at_end) = true
is_on_stage (stands left_play) = false
is_on_stage (stands (at n)) = true
is_on_stage (works n k ps) = true

abbrev pub is_on : FlatHost → Bool
is_on h = is_on_stage h.stage

abbrev pub is_active_host : Name → List FlatHost → Bool
is_active_host g [] = false
is_active_host g (h ∷ hs) = (is_on h && bytes_eq g h.name) || is_active_host g hs

abbrev pub still_active : List FlatHost → List Name → List Name
still_active hs [] = []
still_active hs (n ∷ ns) = cond (is_active_host n hs) (n ∷ still_active hs ns) (still_active hs ns)

abbrev pub variables_seen : List FlatHost → List HostVariables
variables_seen [] = []
variables_seen (h ∷ hs) = record { name = h.name; variables = h.variables } ∷ variables_seen hs

abbrev pub world_of : FlatState → Batch → FlatHost → Task → World
world_of s b h t = record {
  mine = named_fields (setting_of s.inventory b.play [] [] h.name) t.depth
      (innermost (outermost t.depth h.rescues)) (still_active s.hosts b.members) h.variables;
  this = h.name;
  hosts = variables_seen s.hosts;
  batch = still_active s.hosts b.members;
  groups = s.inventory.groups;
}

abbrev pub host_at : ℕ → List FlatHost → Option FlatHost
host_at k [] = None
host_at zero (h ∷ hs) = Some h
host_at (suc k) (h ∷ hs) = host_at k hs

abbrev pub put_host : ℕ → FlatHost → List FlatHost → List FlatHost
put_host k x [] = []
put_host zero x (h ∷ hs) = x ∷ hs
put_host (suc k) x (h ∷ hs) = h ∷ put_host k x hs

abbrev pub is_out : FlatStage → Bool
is_out (stands p) = false
is_out (works n k ps) = true

abbrev pub running : List FlatHost → ℕ
running [] = 0
running (h ∷ hs) = cond (is_out h.stage) (suc (running hs)) (running hs)

abbrev pub stands_at : List Step → ℕ → FlatStage → Bool
stands_at ss p (stands at_end) = true
stands_at ss p (stands left_play) = true
stands_at ss p (stands (at n)) = nat_le p (step_at ss n).task.place
stands_at ss p (works n k ps) = nat_le p (step_at ss n).task.place

abbrev pub all_stand : List Step → ℕ → List FlatHost → Bool
all_stand ss p [] = true
all_stand ss p (h ∷ hs) = stands_at ss p h.stage && all_stand ss p hs

abbrev pub can_start : FlatState → Batch → FlatStage → Bool
can_start s b (stands (at n)) = nat_lt (running s.hosts) s.forks && (not b.play.is_linear
    || all_stand (plan_steps b) (step_at (plan_steps b) n).task.place s.hosts)
can_start s b g = false

abbrev pub is_idle : FlatStage → Bool
is_idle (stands at_end) = true
is_idle (stands left_play) = true
is_idle (stands (at n)) = false
is_idle (works n k ps) = false

abbrev pub all_idle : List FlatHost → Bool
all_idle [] = true
all_idle (h ∷ hs) = is_idle h.stage && all_idle hs

abbrev pub of_host : Option FlatHost → (FlatHost → Bool) → Bool
of_host None f = false
of_host (Some h) f = f h

abbrev pub is_possible : FlatState → List Batch → Event → Bool
is_possible s [] e = false
is_possible s (b ∷ bs) (start k) = of_host (host_at k s.hosts) (λ h. can_start s b h.stage)
is_possible s (b ∷ bs) (give k xs) = of_host (host_at k s.hosts) (λ h. is_out h.stage)
is_possible s (b ∷ bs) turn = all_idle s.hosts
is_possible s (b ∷ bs) stop = true

abbrev pub enabled : FlatState → Event → Bool
enabled s e = not s.is_stopped && is_possible s s.batches e

abbrev pub with_host : FlatState → ℕ → FlatHost → FlatState
with_host s k h = record s { hosts = put_host k h s.hosts }

abbrev pub stuck_state : FlatState → FlatState
stuck_state s = record s { is_stuck = true }

abbrev pub on_plan : FlatState → ℕ → FlatHost → ℕ → Plan → FlatState
on_plan s k h n (halted y) = stuck_state s
on_plan s k h n (planned ps) = record s {
  hosts = put_host k (record h { stage = works n 0 ps }) s.hosts;
  handed = s.handed
      + call_count ps;
}

abbrev pub on_start : FlatState → Batch → ℕ → FlatHost → FlatStage → FlatState
on_start s b k h (stands (at n)) =
    let t = (step_at (plan_steps b) n).task in on_plan s k h n (plan_of (world_of s b h t) t t.loop)
on_start s b k h g = s

abbrev pub after_task : FlatHost → Task → List Ended → List ℕ → FlatHost
after_task h t es ms = record h {
  variables = written_variables t es h.variables;
  marks = ms
      ++ h.marks;
  failure = cond (any_failed es && not t.ignores) (message_of t.loop es) h.failure;
  recap = task_recap t es h.recap;
}

-- where a host goes from a step: a failure that isn't ignored goes the other way
abbrev pub target_on : Step → List Ended → Target
target_on x es = cond (any_failed es && not x.task.ignores) x.failed x.ok

abbrev pub on_notified : FlatState → Batch → ℕ → FlatHost → Step → List Ended → Notified → FlatState
on_notified s b k h x es names_nothing = stuck_state s
on_notified s b k h x es (handlers_are ms) =
    with_host s k (arrived (plan_steps b) (target_on x es) (after_task h x.task es ms))

abbrev pub on_ended : FlatState → Batch → ℕ → FlatHost → Step → List Ended → FlatState
on_ended s b k h x es =
    on_notified s b k h x es (notified_by b.play x.task (any_changed es && not (any_failed es)))

abbrev pub on_again : FlatState → ℕ → FlatHost → ℕ → ℕ → List Pass → FlatState
on_again s k h n i ps = record s {
  hosts = put_host k (record h { stage = works n (suc i) ps }) s.hosts;
  handed = s.handed + call_count ps;
}

abbrev pub on_results : FlatState → Batch → ℕ → FlatHost → ℕ → ℕ → List Pass → Results → FlatState
on_results s b k h n i ps (no_results w) = stuck_state s
on_results s b k h n i ps (results_are es) =
    let x = step_at (plan_steps b) n in
    cond (asks_again x.task i es) (on_again s k h n i ps) (on_ended s b k h x (last_attempts es))

abbrev pub on_admitted : FlatState → Batch → ℕ → FlatHost → ℕ → ℕ → List Pass → Admitted → FlatState
on_admitted s b k h n i ps (admitted os) =
    let t = (step_at (plan_steps b) n).task in
    on_results s b k h n i ps (end_all (world_of s b h t) t os)
on_admitted s b k h n i ps breached = with_host s k
    (record h { stage = stands left_play; recap = record h.recap { failed = suc h.recap.failed } })
on_admitted s b k h n i ps unreached = with_host s k
    (record h {
      stage = stands left_play;
      recap = record h.recap
          { unreachable = suc h.recap.unreachable };
    })

abbrev pub on_give : FlatState → Batch → ℕ → FlatHost → List Answer → FlatStage → FlatState
on_give s b k h xs (stands p) = s
on_give s b k h xs (works n i ps) = on_admitted s b k h n i ps
    (admit_passes (step_at (plan_steps b) n).task.action ps xs)

abbrev pub begun : Batch → FlatHost → FlatHost
begun b h = cond (is_on h && is_among h.name b.members)
    (arrived (plan_steps b) (play_begin b.play.row)
    (record h { marks = []; rescues = []; holds = [] })) h

abbrev pub all_begun : Batch → List FlatHost → List FlatHost
all_begun b [] = []
all_begun b (h ∷ hs) = begun b h ∷ all_begun b hs

abbrev pub with_batches : FlatState → List Batch → FlatState
with_batches s [] = record s { batches = [] }
with_batches s (b ∷ bs) = record s { batches = b ∷ bs; hosts = all_begun b s.hosts }

abbrev pub on_turn : FlatState → Batch → List Batch → FlatState
on_turn s b bs = with_batches s (cond (any_names (still_active s.hosts b.members)) bs [])

abbrev pub on_host : FlatState → Option FlatHost → (FlatHost → FlatState) → FlatState
on_host s None go = s
on_host s (Some h) go = go h

abbrev pub happened : FlatState → List Batch → Event → FlatState
happened s [] e = s
happened s (b ∷ bs) (start k) = on_host s (host_at k s.hosts) (λ h. on_start s b k h h.stage)
happened s (b ∷ bs) (give k xs) = on_host s (host_at k s.hosts) (λ h. on_give s b k h xs h.stage)
happened s (b ∷ bs) turn = on_turn s b bs
happened s (b ∷ bs) stop = record s { is_stopped = true }

abbrev pub step : FlatState → Event → FlatState
step s e = cond (enabled s e) (happened s s.batches e) s

abbrev pub opening_hosts : List HostVariables → List FlatHost
opening_hosts [] = []
opening_hosts (x ∷ xs) = record {
  name = x.name;
  variables = x.variables;
  marks = [];
  failure = [];
  rescues = [];
  holds = [];
  stage = stands at_end;
  recap = empty_recap;
} ∷ opening_hosts xs

abbrev pub opening : Program → Inventory → ℕ → FlatState
opening program inventory forks = with_batches
    (record {
      inventory = inventory;
      forks = forks;
      hosts = opening_hosts inventory.hosts;
      batches = [];
      handed = 0;
      is_stuck = false;
      is_stopped = false;
    }) (all_batches program)

abbrev pub run_from : FlatState → List Event → FlatState
run_from s [] = s
run_from s (e ∷ es) = run_from (step s e) es

abbrev pub run : Program → Inventory → ℕ → List Event → FlatState
run program inventory forks es = run_from (opening program inventory forks) es

abbrev pub history : FlatState → List Event → List Event
history s [] = []
history s (e ∷ es) = cond (enabled s e) (e ∷ history (step s e) es) (history (step s e) es)

-- the steps of the batch that runs
abbrev pub current_steps : List Batch → List Step
current_steps [] = []
current_steps (b ∷ bs) = plan_steps b

-- a host that can start, and the place of its task; and the one that starts next, as in `Drive`
abbrev pub starting : FlatState → ℕ → FlatStage → Option Starting
starting s k (stands (at n)) = cond (enabled s (start k)) (Some (record {
  number = k;
  place = (step_at (current_steps s.batches) n).task.place;
})) None
starting s k g = None

abbrev pub first_starting : FlatState → ℕ → List FlatHost → Option Starting
first_starting s k [] = None
first_starting s k (h ∷ hs) = lower (starting s k h.stage) (first_starting s (suc k) hs)

abbrev pub next_start : FlatState → Option Starting
next_start s = first_starting s 0 s.hosts
