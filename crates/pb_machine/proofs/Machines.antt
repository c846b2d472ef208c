-- The machine over flat plans goes as the definitions' machine.
use Rattle.std.proofs.Common.{◌≡◌, ℕ, zero, suc, ◌+◌, List, [], ◌∷◌, Bool, true, false, not, ◌&&◌, ◌||◌, nat_lt, cond, Option, Some, None, option_map, refl, sym, ap, ap₂, ◌∙◌}
use Rattle.std.specs.Str.{bytes_eq}
use Rattle.pb_semantics.proofs.Bools.{and-left, and-right}
use Rattle.pb_semantics.specs.Keeps.{is_among}
use Rattle.pb_language.specs.Expression.{Name}
use Rattle.pb_language.specs.World.{HostVariables}
use Rattle.pb_language.specs.Task.{Task}
use Rattle.pb_language.specs.Start.{Pass, Plan, planned, halted, plan_of, call_count}
use Rattle.pb_language.specs.Give.{Answer, Admitted, admitted, breached, unreached, admit_passes, Ended, Results, results_are, no_results, end_all, any_changed, any_failed, asks_again, last_attempts}
use Rattle.pb_language.specs.Notify.{Notified, handlers_are, names_nothing}
use Rattle.pb_language.specs.Program.{Inventory, Program, Batch, all_batches}
use Rattle.pb_language.specs.Machine.{Event, start, give, turn, stop, over, waits, Host, State, settled, is_on_stage, is_on, is_active_host, still_active, variables_seen, world_of, host_at, put_host, is_out, running, stands_at, all_stand, can_start, is_idle, all_idle, of_host, is_possible, enabled, with_host, on_plan, on_start, notified_by, after_task, on_notified, on_results, on_admitted, on_give, begun, all_begun, with_batches, any_names, on_host, happened, step, empty_recap, opening_hosts, opening, run_from, history}
use Rattle.pb_machine.specs.Steps.{Step, play_steps, play_begin}
use Rattle.pb_machine.specs.Hosts.{at_end, left_play, at, FlatStage, stands, works, FlatHost, arrived}
use Rattle.pb_machine.specs.Ways.{rest_to, step_at, stage_of, host_of}
use Rattle.pb_language.specs.Drive.{lower, starting, first_starting}
use Rattle.pb_machine.specs.Run.{FlatState, plan_steps, current_steps, target_on}
use Rattle.pb_machine.specs.Run as flat
use Rattle.pb_machine.specs.Simulation.{BeginSettles, AfterSettles, hosts_of, state_of, SameNext, SameEnabled, SameStep, SameRun, SameHistory}
use Rattle.pb_machine.proofs.Trees.{plan_is_row}
use Rattle.pb_machine.proofs.Arrivals.{arrival_settles}

-- what is read of hosts
module _ (ss : List Step) where
  on_same : (g : FlatStage) → is_on_stage (stage_of ss g) ≡ flat.is_on_stage g
  on_same (stands at_end) = refl
  on_same (stands left_play) = refl
  on_same (stands (at n)) = refl
  on_same (works n k ps) = refl

  active_same : (n : Name) (hs : List FlatHost)
      → is_active_host n (hosts_of ss hs) ≡ flat.is_active_host n hs
  active_same n [] = refl
  active_same n (h ∷ hs) = ap₂ (λ p q. (p && bytes_eq n h.name) || q) (on_same h.stage) (active_same n hs)

  pub still_same : (hs : List FlatHost) (ns : List Name)
      → still_active (hosts_of ss hs) ns ≡ flat.still_active hs ns
  still_same hs [] = refl
  still_same hs (n ∷ ns) = ap₂ (λ q ms. cond q (n ∷ ms) ms) (active_same n hs) (still_same hs ns)

  seen_same : (hs : List FlatHost) → variables_seen (hosts_of ss hs) ≡ flat.variables_seen hs
  seen_same [] = refl
  seen_same (h ∷ hs) = ap (λ vs. record { name = h.name; variables = h.variables } ∷ vs) (seen_same hs)

  pub at_same : (k : ℕ) (hs : List FlatHost)
      → host_at k (hosts_of ss hs) ≡ option_map (host_of ss) (flat.host_at k hs)
  at_same k [] = refl
  at_same zero (h ∷ hs) = refl
  at_same (suc k) (h ∷ hs) = at_same k hs

  pub put_same : (k : ℕ) (h : FlatHost) (hs : List FlatHost)
      → put_host k (host_of ss h) (hosts_of ss hs) ≡ hosts_of ss (flat.put_host k h hs)
  put_same k h [] = refl
  put_same zero h (g ∷ hs) = refl
  put_same (suc k) h (g ∷ hs) = ap (λ xs. host_of ss g ∷ xs) (put_same k h hs)

  out_same : (g : FlatStage) → is_out (stage_of ss g) ≡ flat.is_out g
  out_same (stands p) = refl
  out_same (works n k ps) = refl

  running_same : (hs : List FlatHost) → running (hosts_of ss hs) ≡ flat.running hs
  running_same [] = refl
  running_same (h ∷ hs) = ap₂ (λ q n. cond q (suc n) n) (out_same h.stage) (running_same hs)

  stands_same : (p : ℕ) (g : FlatStage) → stands_at p (stage_of ss g) ≡ flat.stands_at ss p g
  stands_same p (stands at_end) = refl
  stands_same p (stands left_play) = refl
  stands_same p (stands (at n)) = refl
  stands_same p (works n k ps) = refl

  stand_same : (p : ℕ) (hs : List FlatHost) → all_stand p (hosts_of ss hs) ≡ flat.all_stand ss p hs
  stand_same p [] = refl
  stand_same p (h ∷ hs) = ap₂ (λ q r. q && r) (stands_same p h.stage) (stand_same p hs)

  idle_same : (g : FlatStage) → is_idle (stage_of ss g) ≡ flat.is_idle g
  idle_same (stands at_end) = refl
  idle_same (stands left_play) = refl
  idle_same (stands (at n)) = refl
  idle_same (works n k ps) = refl

  all_idle_same : (hs : List FlatHost) → all_idle (hosts_of ss hs) ≡ flat.all_idle hs
  all_idle_same [] = refl
  all_idle_same (h ∷ hs) = ap₂ (λ q r. q && r) (idle_same h.stage) (all_idle_same hs)

-- where a host begins a play, and where it goes after a task
pub begin_settles : BeginSettles
begin_settles row h =
    let ss = play_steps row in
    ap (settled (host_of ss h)) (sym (plan_is_row row)) ∙ sym (arrival_settles row (play_begin row) h)

way_same : (ss : List Step) (q : Bool) (x : Step)
    → cond q (rest_to ss x.failed) (rest_to ss x.ok) ≡ rest_to ss (cond q x.failed x.ok)
way_same ss true x = refl
way_same ss false x = refl

pub after_settles : AfterSettles
after_settles row h x es ms =
    let ss = play_steps row in
    ap (settled (after_task (host_of ss h) x.task es ms)) (way_same ss (any_failed es && not x.task.ignores) x)
    ∙ sym (arrival_settles row (target_on x es) (flat.after_task h x.task es ms))

-- in a batch
module _ (old : FlatState) (b : Batch) (bs : List Batch) where
  abbrev s : FlatState
  s = record old { batches = b ∷ bs }

  abbrev ss : List Step
  ss = plan_steps b

  world_same : (h : FlatHost) (t : Task)
      → world_of (state_of s) b (host_of ss h) t ≡ flat.world_of s b h t
  world_same h t = rw (still_same ss old.hosts b.members, seen_same ss old.hosts) refl

  can_same : (g : FlatStage) → can_start (state_of s) b (stage_of ss g) ≡ flat.can_start s b g
  can_same (stands at_end) = refl
  can_same (stands left_play) = refl
  can_same (stands (at n)) =
      ap₂ (λ x y. nat_lt x old.forks && (not b.play.is_linear || y)) (running_same ss old.hosts) (stand_same ss (step_at ss n).task.place old.hosts)
  can_same (works n k ps) = refl

  of_same : (o : Option FlatHost) (f : Host → Bool) (g : FlatHost → Bool)
      → ((h : FlatHost) → f (host_of ss h) ≡ g h)
      → of_host (option_map (host_of ss) o) f ≡ flat.of_host o g
  of_same None f g same = refl
  of_same (Some h) f g same = same h

  possible_same : (e : Event) → is_possible (state_of s) (b ∷ bs) e ≡ flat.is_possible s (b ∷ bs) e
  possible_same (start k) =
      ap (λ o. of_host o (λ h. can_start (state_of s) b h.stage)) (at_same ss k old.hosts)
      ∙ of_same (flat.host_at k old.hosts) (λ h. can_start (state_of s) b h.stage) (λ h. flat.can_start s b h.stage) (λ h. can_same h.stage)
  possible_same (give k xs) =
      ap (λ o. of_host o (λ h. is_out h.stage)) (at_same ss k old.hosts)
      ∙ of_same (flat.host_at k old.hosts) (λ h. is_out h.stage) (λ h. flat.is_out h.stage) (λ h. out_same ss h.stage)
  possible_same turn = all_idle_same ss old.hosts
  possible_same stop = refl

  with_same : (k : ℕ) (h : FlatHost)
      → with_host (state_of s) k (host_of ss h) ≡ state_of (flat.with_host s k h)
  with_same k h = ap (λ hs. record (state_of s) { hosts = hs }) (put_same ss k h old.hosts)

  out_with : (k n i : ℕ) (h : FlatHost) (ps : List Pass)
      → record (state_of s) { hosts = put_host k (host_of ss (record h { stage = works n i ps })) (state_of s).hosts; handed = old.handed + call_count ps }
      ≡ state_of (record s { hosts = flat.put_host k (record h { stage = works n i ps }) old.hosts; handed = old.handed + call_count ps })
  out_with k n i h ps = ap (λ hs. record (state_of s) { hosts = hs; handed = old.handed + call_count ps }) (put_same ss k (record h { stage = works n i ps }) old.hosts)

  plan_same : (k n : ℕ) (h : FlatHost) (p : Plan)
      → on_plan (state_of s) k (host_of ss h) (step_at ss n).task (rest_to ss (step_at ss n).ok) (rest_to ss (step_at ss n).failed) p ≡ state_of (flat.on_plan s k h n p)
  plan_same k n h (halted y) = refl
  plan_same k n h (planned ps) = out_with k n 0 h ps

  start_same : (k : ℕ) (h : FlatHost) (g : FlatStage)
      → on_start (state_of s) b k (host_of ss h) (stage_of ss g) ≡ state_of (flat.on_start s b k h g)
  start_same k h (stands at_end) = refl
  start_same k h (stands left_play) = refl
  start_same k h (stands (at n)) =
      let t = (step_at ss n).task in
      ap (λ w. on_plan (state_of s) k (host_of ss h) t (rest_to ss (step_at ss n).ok) (rest_to ss (step_at ss n).failed) (plan_of w t t.loop)) (world_same h t)
      ∙ plan_same k n h (plan_of (flat.world_of s b h t) t t.loop)
  start_same k h (works n i ps) = refl

  notified_same : (k : ℕ) (h : FlatHost) (x : Step) (es : List Ended) (r : Notified)
      → on_notified (state_of s) k (host_of ss h) x.task (rest_to ss x.ok) (rest_to ss x.failed) es r ≡ state_of (flat.on_notified s b k h x es r)
  notified_same k h x es names_nothing = refl
  notified_same k h x es (handlers_are ms) =
      ap (with_host (state_of s) k) (after_settles b.play.row h x es ms)
      ∙ with_same k (arrived ss (target_on x es) (flat.after_task h x.task es ms))

  again_or : (q : Bool) (x y : State) (u v : FlatState) → x ≡ state_of u → y ≡ state_of v
      → cond q x y ≡ state_of (cond q u v)
  again_or true x y u v h i = h
  again_or false x y u v h i = i

  results_same : (k n i : ℕ) (h : FlatHost) (ps : List Pass) (r : Results)
      → on_results (state_of s) b k (host_of ss h) (step_at ss n).task i ps (rest_to ss (step_at ss n).ok) (rest_to ss (step_at ss n).failed) r ≡ state_of (flat.on_results s b k h n i ps r)
  results_same k n i h ps (no_results w) = refl
  results_same k n i h ps (results_are es) =
      let x = step_at ss n in
      let fs = last_attempts es in
      again_or (asks_again x.task i es) _ _ (flat.on_again s k h n i ps) (flat.on_ended s b k h x fs)
      (out_with k n (suc i) h ps)
      (notified_same k h x fs (notified_by b.play x.task (any_changed fs && not (any_failed fs))))

  admitted_same : (k n i : ℕ) (h : FlatHost) (ps : List Pass) (a : Admitted)
      → on_admitted (state_of s) b k (host_of ss h) (step_at ss n).task i ps (rest_to ss (step_at ss n).ok) (rest_to ss (step_at ss n).failed) a ≡ state_of (flat.on_admitted s b k h n i ps a)
  admitted_same k n i h ps (admitted os) =
      let t = (step_at ss n).task in
      ap (λ w. on_results (state_of s) b k (host_of ss h) t i ps (rest_to ss (step_at ss n).ok) (rest_to ss (step_at ss n).failed) (end_all w t os)) (world_same h t)
      ∙ results_same k n i h ps (end_all (flat.world_of s b h t) t os)
  admitted_same k n i h ps breached = with_same k (record h { stage = stands left_play; recap = record h.recap { failed = suc h.recap.failed } })
  admitted_same k n i h ps unreached = with_same k (record h { stage = stands left_play; recap = record h.recap { unreachable = suc h.recap.unreachable } })

  give_same : (k : ℕ) (h : FlatHost) (xs : List Answer) (g : FlatStage)
      → on_give (state_of s) b k (host_of ss h) xs (stage_of ss g) ≡ state_of (flat.on_give s b k h xs g)
  give_same k h xs (stands p) = refl
  give_same k h xs (works n i ps) = admitted_same k n i h ps (admit_passes (step_at ss n).task.action ps xs)

  host_same : (o : Option FlatHost) (f : Host → State) (g : FlatHost → FlatState)
      → ((h : FlatHost) → f (host_of ss h) ≡ state_of (g h))
      → on_host (state_of s) (option_map (host_of ss) o) f ≡ state_of (flat.on_host s o g)
  host_same None f g same = refl
  host_same (Some h) f g same = same h

-- an idle host is the same on each plan
idle_host : (ss rest : List Step) (h : FlatHost) (g : FlatStage) → flat.is_idle g ≡ true
    → stage_of ss g ≡ stage_of rest g
idle_host ss rest h (stands at_end) i = refl
idle_host ss rest h (stands left_play) i = refl
idle_host ss rest h (stands (at n)) i = cc
idle_host ss rest h (works n k ps) i = cc

-- hosts that begin, and those that are in no batch
idle_same_host : (ss rest : List Step) (h : FlatHost) → flat.is_idle h.stage ≡ true
    → host_of ss h ≡ host_of rest h
idle_same_host ss rest h i = ap (λ g. record (host_of rest h) { stage = g }) (idle_host ss rest h h.stage i)

idle_hosts : (plan rest : List Step) (hs : List FlatHost) → flat.all_idle hs ≡ true
    → hosts_of plan hs ≡ hosts_of rest hs
idle_hosts plan rest [] i = refl
idle_hosts plan rest (h ∷ hs) i =
    ap₂ (λ x xs. x ∷ xs) (idle_same_host plan rest h (and-left (flat.is_idle h.stage) (flat.all_idle hs) i))
    (idle_hosts plan rest hs (and-right (flat.is_idle h.stage) (flat.all_idle hs) i))

begun_or : (ss : List Step) (p q : Bool) (x y : Host) (u v : FlatHost) → p ≡ q → x ≡ host_of ss u
    → y ≡ host_of ss v → cond p x y ≡ host_of ss (cond q u v)
begun_or ss p true x y u v e h i = rw e h
begun_or ss p false x y u v e h i = rw e i

begun_same : (b : Batch) (h : FlatHost)
    → begun b (host_of (plan_steps b) h) ≡ host_of (plan_steps b) (flat.begun b h)
begun_same b h =
    let ss = plan_steps b in
    let g = record h { marks = []; rescues = []; holds = [] } in
    begun_or ss (is_on (host_of ss h) && is_among h.name b.members) (flat.is_on h && is_among h.name b.members) _ _
    (arrived ss (play_begin b.play.row) g) h
    (ap (λ q. q && is_among h.name b.members) (on_same ss h.stage))
    (begin_settles b.play.row g)
    refl

all_begun_same : (b : Batch) (hs : List FlatHost)
    → all_begun b (hosts_of (plan_steps b) hs) ≡ hosts_of (plan_steps b) (flat.all_begun b hs)
all_begun_same b [] = refl
all_begun_same b (h ∷ hs) = ap₂ (λ x xs. x ∷ xs) (begun_same b h) (all_begun_same b hs)

-- a state whose hosts are idle, with the hosts as they are on a plan
abbrev state_on : List Step → FlatState → State
state_on ss s = record (state_of s) { hosts = hosts_of ss s.hosts }

batches_same : (ss : List Step) (s : FlatState) (bs : List Batch) → flat.all_idle s.hosts ≡ true
    → with_batches (state_on ss s) bs ≡ state_of (flat.with_batches s bs)
batches_same ss s [] i = ap (λ hs. record (state_of s) { batches = []; hosts = hs }) (idle_hosts ss [] s.hosts i)
batches_same ss s (b ∷ bs) i =
    ap (λ hs. record (state_of s) { batches = b ∷ bs; hosts = hs })
    (ap (all_begun b) (idle_hosts ss (plan_steps b) s.hosts i) ∙ all_begun_same b s.hosts)

module _ (old : FlatState) (b : Batch) (bs : List Batch) where
  abbrev here : FlatState
  here = record old { batches = b ∷ bs }

  happened_same : (e : Event) → flat.enabled here e ≡ true
      → happened (state_of here) (b ∷ bs) e ≡ state_of (flat.happened here (b ∷ bs) e)
  happened_same (start k) i =
      ap (λ o. on_host (state_of here) o (λ h. on_start (state_of here) b k h h.stage)) (at_same (plan_steps b) k old.hosts)
      ∙ host_same old b bs (flat.host_at k old.hosts) (λ h. on_start (state_of here) b k h h.stage) (λ h. flat.on_start here b k h h.stage) (λ h. start_same old b bs k h h.stage)
  happened_same (give k xs) i =
      ap (λ o. on_host (state_of here) o (λ h. on_give (state_of here) b k h xs h.stage)) (at_same (plan_steps b) k old.hosts)
      ∙ host_same old b bs (flat.host_at k old.hosts) (λ h. on_give (state_of here) b k h xs h.stage) (λ h. flat.on_give here b k h xs h.stage) (λ h. give_same old b bs k h xs h.stage)
  happened_same turn i =
      ap (λ ns. with_batches (state_of here) (cond (any_names ns) bs [])) (still_same (plan_steps b) old.hosts b.members)
      ∙ batches_same (plan_steps b) here (cond (any_names (flat.still_active old.hosts b.members)) bs []) (and-right (not old.is_stopped) (flat.all_idle old.hosts) i)
  happened_same stop i = refl

chosen : (p q : Bool) (x : State) (u v : FlatState) → p ≡ q → (q ≡ true → x ≡ state_of u)
    → cond p x (state_of v) ≡ state_of (cond q u v)
chosen p true x u v e h = rw e (h refl)
chosen p false x u v e h = rw e refl

enabled_in : (s : FlatState) (bs : List Batch) (e : Event)
    → enabled (state_of (record s { batches = bs })) e ≡ flat.enabled (record s { batches = bs }) e
enabled_in s [] e = refl
enabled_in s (b ∷ bs) e = ap (λ q. not s.is_stopped && q) (possible_same s b bs e)

pub same_enabled : SameEnabled
same_enabled s e = enabled_in s s.batches e

step_in : (s : FlatState) (bs : List Batch) (e : Event)
    → step (state_of (record s { batches = bs })) e ≡ state_of (flat.step (record s { batches = bs }) e)
step_in s [] e =
    let x = record s { batches = [] } in
    chosen (enabled (state_of x) e) (flat.enabled x e) (state_of x) x x refl (λ h. refl)
step_in s (b ∷ bs) e =
    let x = record s { batches = b ∷ bs } in
    chosen (enabled (state_of x) e) (flat.enabled x e) (happened (state_of x) (b ∷ bs) e) (flat.happened x (b ∷ bs) e) x (enabled_in s (b ∷ bs) e) (happened_same s b bs e)

pub same_step : SameStep
same_step s e = step_in s s.batches e

abbrev first : HostVariables → Host
first y = record {
  name = y.name;
  variables = y.variables;
  marks = [];
  failure = [];
  rescues = [];
  holds = [];
  stage = waits over;
  recap = empty_recap;
}

opening_hosts_same : (plan : List Step) (xs : List HostVariables)
    → opening_hosts xs ≡ hosts_of plan (flat.opening_hosts xs)
opening_hosts_same plan [] = refl
opening_hosts_same plan (x ∷ xs) = ap (λ hs. first x ∷ hs) (opening_hosts_same plan xs)

opening_idle : (xs : List HostVariables) → flat.all_idle (flat.opening_hosts xs) ≡ true
opening_idle [] = refl
opening_idle (x ∷ xs) = opening_idle xs

abbrev blank : Inventory → ℕ → FlatState
blank inventory forks = record {
  inventory = inventory;
  forks = forks;
  hosts = flat.opening_hosts inventory.hosts;
  batches = [];
  handed = 0;
  is_stuck = false;
  is_stopped = false;
}

pub same_opening : (program : Program) (inventory : Inventory) (forks : ℕ)
    → opening program inventory forks ≡ state_of (flat.opening program inventory forks)
same_opening program inventory forks =
    ap (λ hs. with_batches (record (state_of (blank inventory forks)) { hosts = hs }) (all_batches program)) (opening_hosts_same [] inventory.hosts)
    ∙ batches_same [] (blank inventory forks) (all_batches program) (opening_idle inventory.hosts)

run_from_same : (s : FlatState) (es : List Event)
    → run_from (state_of s) es ≡ state_of (flat.run_from s es)
run_from_same s [] = refl
run_from_same s (e ∷ es) = ap (λ x. run_from x es) (same_step s e) ∙ run_from_same (flat.step s e) es

pub same_run : SameRun
same_run program inventory forks es =
    ap (λ s. run_from s es) (same_opening program inventory forks) ∙ run_from_same (flat.opening program inventory forks) es

history_from_same : (s : FlatState) (es : List Event) → history (state_of s) es ≡ flat.history s es
history_from_same s [] = refl
history_from_same s (e ∷ es) =
    ap₂ (λ q fs. cond q (e ∷ fs) fs) (same_enabled s e)
    (ap (λ x. history x es) (same_step s e) ∙ history_from_same (flat.step s e) es)

pub same_history : SameHistory
same_history program inventory forks es =
    ap (λ s. history s es) (same_opening program inventory forks) ∙ history_from_same (flat.opening program inventory forks) es

starting_same : (s : FlatState) (k : ℕ) (g : FlatStage)
    → starting (state_of s) k (stage_of (current_steps s.batches) g) ≡ flat.starting s k g
starting_same s k (stands at_end) = refl
starting_same s k (stands left_play) = refl
starting_same s k (stands (at n)) = ap (λ q. cond q (Some (record { number = k; place = (step_at (current_steps s.batches) n).task.place })) None) (same_enabled s (start k))
starting_same s k (works n i ps) = refl

first_same : (s : FlatState) (k : ℕ) (hs : List FlatHost)
    → first_starting (state_of s) k (hosts_of (current_steps s.batches) hs) ≡ flat.first_starting s k hs
first_same s k [] = refl
first_same s k (h ∷ hs) = ap₂ lower (starting_same s k h.stage) (first_same s (suc k) hs)

pub same_next : SameNext
same_next s = first_same s 0 s.hosts
