-- In every state of a run the passes of each host at work set names of its task alone; so does what comes of its answers.
use Rattle.std.proofs.Common.{◌≡◌, ℕ, zero, suc, List, [], ◌∷◌, Bool, true, false, not, ◌&&◌, nat_lt, cond, Option, Some, None, refl, sym, subst}
use Rattle.std.specs.List.{AllByRecursion}
use Rattle.pb_semantics.specs.Data.{no_fields}
use Rattle.pb_semantics.specs.Keeps.{is_among}
use Rattle.pb_semantics.proofs.Bools.{untrue, and-left, and-right}
use Rattle.pb_language.specs.Give.{Answer, admit_passes, Admitted, admitted, breached, unreached, Ended, Results, results_are, no_results, end_all, asks_again, any_changed, any_failed, last_attempts, written_variables}
use Rattle.pb_language.specs.Machine.{Event, start, give, turn, stop, any_names, notified_by}
use Rattle.pb_language.specs.Notify.{Notified, handlers_are, names_nothing}
use Rattle.pb_language.specs.Program.{Inventory, Program, Batch, all_batches}
use Rattle.pb_language.specs.Rules.{option_names}
use Rattle.pb_language.specs.Start.{Pass, Plan, planned, halted, plan_of}
use Rattle.pb_language.specs.Task.{Task}
use Rattle.pb_language.specs.TaskForm.{keys_of}
use Rattle.pb_language.specs.World.{HostVariables}
use Rattle.pb_machine.specs.Hosts.{FlatHost, FlatStage, stands, works, at, at_end, left_play, all_moved, arrival, arrived, at_step, is_passed}
use Rattle.pb_machine.specs.Run as flat
use Rattle.pb_machine.specs.Run.{FlatState, plan_steps, world_of, host_at, put_host, all_idle, is_idle, is_on, is_possible, enabled, happened, on_host, on_start, on_plan, on_give, on_admitted, on_results, on_ended, on_notified, on_again, after_task, target_on, begun, all_begun, step, still_active, with_batches, current_steps, opening, opening_hosts, run_from}
use Rattle.pb_machine.specs.Steps.{Step, Target, play_begin}
use Rattle.pb_machine.specs.Ways.{step_at}
use Rattle.pb_history.specs.Happens.{Comes, Works, step_in}
use Rattle.pb_reads.specs.Uses.{action_names, written_by}
use Rattle.pb_written.specs.Laws.{WritesItsOwn}
use Rattle.pb_written.proofs.Admits.{AdmittedAmong, ResultsAmong, admits_among, ends_among, last_among, writes_among}
use Rattle.pb_written.proofs.Names.{AllAmong, all_first, all_second, through}
use Rattle.pb_written.proofs.Planned.{PassesAmong, PlanAmong, plan_among}

abbrev task_at : List Step → ℕ → Task
task_at ss n = (step_at ss n).task

abbrev StageAmong : List Step → FlatStage → Type 0
StageAmong ss (stands p) = Unit {0}
StageAmong ss (works n i ps) = PassesAmong (written_by (task_at ss n)) ps

abbrev HostsAmong : List Step → List FlatHost → Type 0
HostsAmong ss [] = Unit {0}
HostsAmong ss (h ∷ hs) = StageAmong ss h.stage × HostsAmong ss hs

-- and of each batch that is left some fact holds
abbrev StateAmong : (Batch → Type 0) → FlatState → Type 0
StateAmong P s = HostsAmong (current_steps s.batches) s.hosts × AllByRecursion P s.batches

acts_among : (t : Task) → AllAmong (written_by t) (action_names t.action)
acts_among t = all_second (option_names t.register) (action_names t.action)

host_among : (ss : List Step) (k : ℕ) (hs : List FlatHost) (h : FlatHost) → HostsAmong ss hs → host_at k hs ≡ Some h → StageAmong ss h.stage
host_among ss k [] h all there = absurd (cc)
host_among ss zero (g ∷ hs) h all there = let same : g ≡ h = cc in subst (λ x. StageAmong ss x.stage) same all.0
host_among ss (suc k) (g ∷ hs) h all there = host_among ss k hs h all.1 there

put_among : (ss : List Step) (k : ℕ) (h : FlatHost) (hs : List FlatHost) → StageAmong ss h.stage → HostsAmong ss hs → HostsAmong ss (put_host k h hs)
put_among ss k h [] here all = tt
put_among ss zero h (g ∷ hs) here all = (here, all.1)
put_among ss (suc k) h (g ∷ hs) here all = (all.0, put_among ss k h hs here all.1)

-- a host that arrives stands
arrival_among : (qs ss : List Step) (o : ℕ) (to : Option ℕ) (h : FlatHost) → StageAmong qs (arrival ss o to h).stage
arrival_among qs ss o None h = tt
arrival_among qs [] o (Some n) h = tt
arrival_among qs (s ∷ ss) o (Some n) h = by (nat_lt o n) (is_passed s.handler h.marks) (arrival_among qs ss (suc o) (Some n) h) (arrival_among qs ss (suc o) s.ok.to (all_moved s.ok.moves h)) where
  by : (q r : Bool) → StageAmong qs (arrival ss (suc o) (Some n) h).stage → StageAmong qs (arrival ss (suc o) s.ok.to (all_moved s.ok.moves h)).stage → StageAmong qs (at_step (arrival ss (suc o)) o s n h q r).stage
  by true r far near = far
  by false true far near = near
  by false false far near = tt

arrived_among : (qs ss : List Step) (t : Target) (h : FlatHost) → StageAmong qs (arrived ss t h).stage
arrived_among qs ss t h = arrival_among qs ss 1 t.to (all_moved t.moves h)

idle_among : (qs : List Step) (g : FlatStage) → is_idle g ≡ true → StageAmong qs g
idle_among qs (stands p) h = tt
idle_among qs (works n i ps) h = untrue h

all_idle_among : (qs : List Step) (hs : List FlatHost) → all_idle hs ≡ true → HostsAmong qs hs
all_idle_among qs [] h = tt
all_idle_among qs (x ∷ hs) h = (idle_among qs x.stage (and-left (is_idle x.stage) (all_idle hs) h), all_idle_among qs hs (and-right (is_idle x.stage) (all_idle hs) h))

begun_among : (qs : List Step) (b : Batch) (h : FlatHost) → StageAmong qs h.stage → StageAmong qs (begun b h).stage
begun_among qs b h all = by (is_on h && is_among h.name b.members) where
  by : (q : Bool) → StageAmong qs (cond q (arrived (plan_steps b) (play_begin b.play.row) (record h { marks = []; rescues = []; holds = [] })) h).stage
  by true = arrived_among qs (plan_steps b) (play_begin b.play.row) (record h { marks = []; rescues = []; holds = [] })
  by false = all

all_begun_among : (qs : List Step) (b : Batch) (hs : List FlatHost) → HostsAmong qs hs → HostsAmong qs (all_begun b hs)
all_begun_among qs b [] all = tt
all_begun_among qs b (h ∷ hs) all = (begun_among qs b h all.0, all_begun_among qs b hs all.1)

batches_among : (P : Batch → Type 0) (s : FlatState) (bs : List Batch) → ((qs : List Step) → HostsAmong qs s.hosts) → AllByRecursion P bs → StateAmong P (with_batches s bs)
batches_among P s [] all are = (all [], tt)
batches_among P s (b ∷ bs) all are = (all_begun_among (plan_steps b) b s.hosts (all (plan_steps b)), are)

-- the batch of a state that runs
module _ (P : Batch → Type 0) (s : FlatState) (b : Batch) (later : List Batch) (is : s.batches ≡ b ∷ later) (all : StateAmong P s) (k : ℕ) where
  abbrev ss : List Step
  ss = plan_steps b

  here : HostsAmong ss s.hosts
  here = subst (λ bs. HostsAmong (current_steps bs) s.hosts) is all.0

  placed : (h : FlatHost) → StageAmong ss h.stage → HostsAmong (current_steps s.batches) (put_host k h s.hosts) × AllByRecursion P s.batches
  placed h g = (subst (λ bs. HostsAmong (current_steps bs) (put_host k h s.hosts)) (sym is) (put_among ss k h s.hosts g here), all.1)

  plan_kept : (h : FlatHost) (n : ℕ) (p : Plan) → PlanAmong (written_by (task_at ss n)) p → StateAmong P (on_plan s k h n p)
  plan_kept h n (halted y) g = all
  plan_kept h n (planned ps) g = placed (record h { stage = works n 0 ps }) g

  start_kept : (h : FlatHost) (g : FlatStage) → StateAmong P (on_start s b k h g)
  start_kept h (stands (at n)) =
      let t = task_at ss n in
      plan_kept h n (plan_of (world_of s b h t) t t.loop) (plan_among (written_by t) (world_of s b h t) t (acts_among t) t.loop)
  start_kept h (stands at_end) = all
  start_kept h (stands left_play) = all
  start_kept h (works n i ps) = all

  ended_kept : (h : FlatHost) (x : Step) (es : List Ended) (r : Notified) → StateAmong P (on_notified s b k h x es r)
  ended_kept h x es names_nothing = all
  ended_kept h x es (handlers_are ms) =
      placed (arrived ss (target_on x es) (after_task h x.task es ms)) (arrived_among ss ss (target_on x es) (after_task h x.task es ms))

  results_kept : (h : FlatHost) (n i : ℕ) (ps : List Pass) (r : Results) → PassesAmong (written_by (task_at ss n)) ps → StateAmong P (on_results s b k h n i ps r)
  results_kept h n i ps (no_results w) g = all
  results_kept h n i ps (results_are es) g = by (asks_again (step_at ss n).task i es) where
    by : (q : Bool) → StateAmong P (cond q (on_again s k h n i ps) (on_ended s b k h (step_at ss n) (last_attempts es)))
    by true = placed (record h { stage = works n (suc i) ps }) g
    by false = ended_kept h (step_at ss n) (last_attempts es) (notified_by b.play (step_at ss n).task (any_changed (last_attempts es) && not (any_failed (last_attempts es))))

  admitted_kept : (h : FlatHost) (n i : ℕ) (ps : List Pass) (a : Admitted) → PassesAmong (written_by (task_at ss n)) ps → StateAmong P (on_admitted s b k h n i ps a)
  admitted_kept h n i ps (admitted os) g = results_kept h n i ps (end_all (world_of s b h (step_at ss n).task) (step_at ss n).task os) g
  admitted_kept h n i ps breached g = placed _ tt
  admitted_kept h n i ps unreached g = placed _ tt

  give_kept : (h : FlatHost) (xs : List Answer) (g : FlatStage) → StageAmong ss g → StateAmong P (on_give s b k h xs g)
  give_kept h xs (stands p) h' = all
  give_kept h xs (works n i ps) h' = admitted_kept h n i ps (admit_passes (step_at ss n).task.action ps xs) h'

  host_kept : (o : Option FlatHost) (go : FlatHost → FlatState) → ((h : FlatHost) → o ≡ Some h → StateAmong P (go h)) → StateAmong P (on_host s o go)
  host_kept None go kept = all
  host_kept (Some h) go kept = kept h refl

  starts_kept : StateAmong P (on_host s (host_at k s.hosts) (λ h. on_start s b k h h.stage))
  starts_kept = host_kept (host_at k s.hosts) (λ h. on_start s b k h h.stage) (λ h there. start_kept h h.stage)

  gives_kept : (xs : List Answer) → StateAmong P (on_host s (host_at k s.hosts) (λ h. on_give s b k h xs h.stage))
  gives_kept xs = host_kept (host_at k s.hosts) (λ h. on_give s b k h xs h.stage) (λ h there. give_kept h xs h.stage (host_among ss k s.hosts h here there))

module _ (P : Batch → Type 0) where
  some_are : (q : Bool) (bs : List Batch) → AllByRecursion P bs → AllByRecursion P (cond q bs [])
  some_are true bs are = are
  some_are false bs are = tt

  happened_kept : (s : FlatState) (bs : List Batch) (e : Event) → s.batches ≡ bs → is_possible s bs e ≡ true → StateAmong P s → StateAmong P (happened s bs e)
  happened_kept s [] e is may all = all
  happened_kept s (b ∷ bs) (start k) is may all = starts_kept P s b bs is all k
  happened_kept s (b ∷ bs) (give k xs) is may all = gives_kept P s b bs is all k xs
  happened_kept s (b ∷ bs) turn is may all =
      let later = subst (AllByRecursion P) is all.1 in
      batches_among P s (cond (any_names (still_active s.hosts b.members)) bs []) (λ qs. all_idle_among qs s.hosts may) (some_are (any_names (still_active s.hosts b.members)) bs later.1)
  happened_kept s (b ∷ bs) stop is may all = all

  step_kept : (s : FlatState) (e : Event) → StateAmong P s → StateAmong P (step s e)
  step_kept s e all = by (enabled s e) refl where
    by : (q : Bool) → enabled s e ≡ q → StateAmong P (cond q (happened s s.batches e) s)
    by true on = happened_kept s s.batches e refl (and-right (not s.is_stopped) (is_possible s s.batches e) on) all
    by false on = all

  run_kept : (s : FlatState) (es : List Event) → StateAmong P s → StateAmong P (run_from s es)
  run_kept s [] all = all
  run_kept s (e ∷ es) all = run_kept (step s e) es (step_kept s e all)

opening_among : (qs : List Step) (xs : List HostVariables) → HostsAmong qs (opening_hosts xs)
opening_among qs [] = tt
opening_among qs (x ∷ xs) = (tt, opening_among qs xs)

-- before its first batch begins
abbrev before : Inventory → ℕ → FlatState
before inventory forks = record {
  inventory = inventory;
  forks = forks;
  hosts = opening_hosts inventory.hosts;
  batches = [];
  handed = 0;
  is_stuck = false;
  is_stopped = false;
}

runs_among : (P : Batch → Type 0) (program : Program) (inventory : Inventory) (forks : ℕ) (es : List Event) → AllByRecursion P (all_batches program) → StateAmong P (flat.run program inventory forks es)
runs_among P program inventory forks es are =
    run_kept P (opening program inventory forks) es (batches_among P (before inventory forks) (all_batches program) (λ qs. opening_among qs inventory.hosts) are)

-- what holds of each batch of a program holds of that of a host at work
pub batch_among : (P : Batch → Type 0) (program : Program) (inventory : Inventory) (forks : ℕ) (es : List Event) (k : ℕ) (w : Works (flat.run program inventory forks es) k) → AllByRecursion P (all_batches program) → P w.batch
batch_among P program inventory forks es k w are = (subst (AllByRecursion P) w.batches (runs_among P program inventory forks es are).1).0

abbrev Any : Batch → Type 0
Any b = Unit {0}

any_are : (bs : List Batch) → AllByRecursion Any bs
any_are [] = tt
any_are (b ∷ bs) = (tt, any_are bs)

-- the passes of a host at work
works_among : (s : FlatState) (k : ℕ) (w : Works s k) → StateAmong Any s → PassesAmong (written_by (step_in w).task) w.passes
works_among s k w all =
    subst (StageAmong (plan_steps w.batch)) w.stage
    (host_among (plan_steps w.batch) k s.hosts w.host (subst (λ bs. HostsAmong (current_steps bs) s.hosts) w.batches all.0) w.there)

comes_among : (s : FlatState) (k : ℕ) (w : Works s k) (xs : List Answer) (results : List Ended) → Comes w xs results → StateAmong Any s
    → AllAmong (written_by (step_in w).task) (keys_of (written_variables (step_in w).task (last_attempts results) no_fields))
comes_among s k w xs results comes all =
    let t = (step_in w).task in
    let ns = written_by t in
    let owns : AdmittedAmong ns (admitted comes.owns) = subst (AdmittedAmong ns) comes.admits (admits_among ns t.action w.passes xs (acts_among t) (works_among s k w all)) in
    let ends : ResultsAmong ns (results_are results) = subst (ResultsAmong ns) comes.ends (ends_among ns (world_of s w.batch w.host t) t comes.owns owns) in
    writes_among ns t (last_attempts results) no_fields (all_first (option_names t.register) (action_names t.action)) (last_among ns results ends) tt

pub writes_its_own : WritesItsOwn
writes_its_own program inventory forks es k w xs results comes n h =
    let t = (step_in w).task in
    through n (written_by t) (keys_of (written_variables t (last_attempts results) no_fields))
    (comes_among (flat.run program inventory forks es) k w xs results comes (runs_among Any program inventory forks es (any_are (all_batches program)))) h
