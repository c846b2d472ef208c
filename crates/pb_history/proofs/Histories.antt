-- A run that goes on, event by event.
use Rattle.std.proofs.Common.{◌≡◌, ◌<◌, ℕ, zero, suc, ◌+◌, ◌-◌, List, [], ◌∷◌, ◌++◌, length, replicate, Bool, true, false, not, ◌&&◌, cond, Option, Some, None, refl, sym, ap, subst, ◌∙◌, arith}
use Rattle.pb_language.specs.Give.{Answer, admit_passes, Admitted, admitted, breached, unreached, Results, results_are, no_results, end_all, asks_again, any_changed, any_failed, last_attempts}
use Rattle.pb_language.specs.Notify.{Notified, handlers_are, names_nothing}
use Rattle.pb_language.specs.Program.{Inventory, Program, Batch, all_batches}
use Rattle.pb_language.specs.Start.{Pass, Plan, planned, halted, plan_of}
use Rattle.pb_language.specs.Machine as machine
use Rattle.pb_language.specs.Machine.{Event, State, start, give, turn, stop, any_names, notified_by}
use Rattle.pb_machine.specs.Hosts.{FlatHost, FlatStage, stands, works, at, at_end, left_play}
use Rattle.pb_machine.specs.Ways.{step_at}
use Rattle.pb_machine.specs.Run.{FlatState, plan_steps, world_of, host_at, enabled, happened, on_host, on_start, on_plan, on_give, on_admitted, on_results, on_ended, on_notified, on_again, step, still_active, with_batches, run_from, history, opening, opening_hosts}
use Rattle.pb_history.specs.Happens.{turned}
use Rattle.pb_history.specs.Jobs.{handed_to, is_of, last_from, last_place}
use Rattle.pb_history.proofs.Turns.{turned_front}

-- events one after the other
pub run_join : (s : FlatState) (es fs : List Event) → run_from s (es ++ fs) ≡ run_from (run_from s es) fs
run_join s [] fs = refl
run_join s (e ∷ es) fs = run_join (step s e) es fs

pub run_turns : (n : ℕ) (s : FlatState) → run_from s (replicate n turn) ≡ turned n s
run_turns zero s = refl
run_turns (suc n) s = run_turns n (step s turn) ∙ turned_front n s

pub history_join : (s : FlatState) (es fs : List Event) → history s (es ++ fs) ≡ history s es ++ history (run_from s es) fs
history_join s [] fs = refl
history_join s (e ∷ es) fs = by (enabled s e) (history_join (step s e) es fs) where
  by : (q : Bool) → history (step s e) (es ++ fs) ≡ history (step s e) es ++ history (run_from (step s e) es) fs
      → cond q (e ∷ history (step s e) (es ++ fs)) (history (step s e) (es ++ fs))
      ≡ cond q (e ∷ history (step s e) es) (history (step s e) es) ++ history (run_from (step s e) es) fs
  by true rest = ap (λ xs. e ∷ xs) rest
  by false rest = rest

pub history_turns : (n : ℕ) (s : FlatState) → ((i : ℕ) → i < n → enabled (turned i s) turn ≡ true) → history s (replicate n turn) ≡ replicate n turn
history_turns zero s on = refl
history_turns (suc n) s on =
    ap (λ q. cond q (turn ∷ history (step s turn) (replicate n turn)) (history (step s turn) (replicate n turn))) (on 0 (omega arith))
    ∙ ap (λ xs. turn ∷ xs) (history_turns n (step s turn) (λ i within. subst (λ t. enabled t turn ≡ true) (sym (turned_front i s)) (on (suc i) (omega (arith, within)))))

pub history_one : (s : FlatState) (e : Event) → enabled s e ≡ true → history s (e ∷ []) ≡ e ∷ []
history_one s e on = ap (λ q. cond q (e ∷ []) []) on

-- the place of a host's last event
last_join : (k p : ℕ) (es fs : List Event) (o : Option ℕ) → last_from k p (es ++ fs) o ≡ last_from k (p + length es) fs (last_from k p es o)
last_join k p [] fs o = ap (λ n. last_from k n fs o) (omega arith)
last_join k p (e ∷ es) fs o =
    last_join k (suc p) es fs (cond (is_of k e) (Some p) o) ∙ ap (λ n. last_from k n fs (last_from k (suc p) es (cond (is_of k e) (Some p) o))) (omega arith)

pub last_more : (k : ℕ) (es : List Event) (e : Event) → last_place k (es ++ e ∷ []) ≡ cond (is_of k e) (Some (length es)) (last_place k es)
last_more k es e = last_join k 0 es (e ∷ []) None ∙ ap (λ n. cond (is_of k e) (Some n) (last_place k es)) (omega arith)

last_over_turns : (k p n : ℕ) (o : Option ℕ) → last_from k p (replicate n turn) o ≡ o
last_over_turns k p zero o = refl
last_over_turns k p (suc n) o = last_over_turns k (suc p) n o

pub last_turns : (k n : ℕ) (es : List Event) → last_place k (es ++ replicate n turn) ≡ last_place k es
last_turns k n es = last_join k 0 es (replicate n turn) None ∙ last_over_turns k (0 + length es) n (last_place k es)

-- how many calls were handed out to a host
pub handed_join : (k : ℕ) (s : State) (es fs : List Event) → handed_to k s (es ++ fs) ≡ handed_to k s es + handed_to k (machine.run_from s es) fs
handed_join k s [] fs = omega arith
handed_join k s (e ∷ es) fs =
    let more = handed_join k (machine.step s e) es fs in
    ap (λ n. cond (is_of k e) ((machine.step s e).handed - s.handed) 0 + n) more
    ∙ sum (cond (is_of k e) ((machine.step s e).handed - s.handed) 0) (handed_to k (machine.step s e) es) (handed_to k (machine.run_from (machine.step s e) es) fs) where
      sum : (a b c : ℕ) → a + (b + c) ≡ a + b + c
      sum a b c = omega arith

pub handed_turns : (k n : ℕ) (s : State) → handed_to k s (replicate n turn) ≡ 0
handed_turns k zero s = refl
handed_turns k (suc n) s = ap (λ m. 0 + m) (handed_turns k n (machine.step s turn))

-- the inventory stays
with_kept : (s : FlatState) (bs : List Batch) → (with_batches s bs).inventory ≡ s.inventory
with_kept s [] = refl
with_kept s (b ∷ bs) = refl

plan_kept : (s : FlatState) (k : ℕ) (h : FlatHost) (n : ℕ) (p : Plan) → (on_plan s k h n p).inventory ≡ s.inventory
plan_kept s k h n (planned ps) = refl
plan_kept s k h n (halted y) = refl

start_kept : (s : FlatState) (b : Batch) (k : ℕ) (h : FlatHost) (g : FlatStage) → (on_start s b k h g).inventory ≡ s.inventory
start_kept s b k h (stands (at n)) = plan_kept s k h n (plan_of (world_of s b h (step_at (plan_steps b) n).task) (step_at (plan_steps b) n).task (step_at (plan_steps b) n).task.loop)
start_kept s b k h (stands at_end) = refl
start_kept s b k h (stands left_play) = refl
start_kept s b k h (works n i ps) = refl

results_kept : (s : FlatState) (b : Batch) (k : ℕ) (h : FlatHost) (n i : ℕ) (ps : List Pass) (r : Results) → (on_results s b k h n i ps r).inventory ≡ s.inventory
results_kept s b k h n i ps (no_results w) = refl
results_kept s b k h n i ps (results_are es) = by (asks_again (step_at (plan_steps b) n).task i es) where
  told : (r : Notified) → (on_notified s b k h (step_at (plan_steps b) n) (last_attempts es) r).inventory ≡ s.inventory
  told names_nothing = refl
  told (handlers_are ms) = refl

  by : (q : Bool) → (cond q (on_again s k h n i ps) (on_ended s b k h (step_at (plan_steps b) n) (last_attempts es))).inventory ≡ s.inventory
  by true = refl
  by false = told (notified_by b.play (step_at (plan_steps b) n).task (any_changed (last_attempts es) && not (any_failed (last_attempts es))))

admitted_kept : (s : FlatState) (b : Batch) (k : ℕ) (h : FlatHost) (n i : ℕ) (ps : List Pass) (a : Admitted) → (on_admitted s b k h n i ps a).inventory ≡ s.inventory
admitted_kept s b k h n i ps (admitted os) = results_kept s b k h n i ps (end_all (world_of s b h (step_at (plan_steps b) n).task) (step_at (plan_steps b) n).task os)
admitted_kept s b k h n i ps breached = refl
admitted_kept s b k h n i ps unreached = refl

give_kept : (s : FlatState) (b : Batch) (k : ℕ) (h : FlatHost) (xs : List Answer) (g : FlatStage) → (on_give s b k h xs g).inventory ≡ s.inventory
give_kept s b k h xs (stands p) = refl
give_kept s b k h xs (works n i ps) = admitted_kept s b k h n i ps (admit_passes (step_at (plan_steps b) n).task.action ps xs)

host_kept : (s : FlatState) (o : Option FlatHost) (go : FlatHost → FlatState) → ((h : FlatHost) → (go h).inventory ≡ s.inventory) → (on_host s o go).inventory ≡ s.inventory
host_kept s None go kept = refl
host_kept s (Some h) go kept = kept h

happened_kept : (s : FlatState) (bs : List Batch) (e : Event) → (happened s bs e).inventory ≡ s.inventory
happened_kept s [] e = refl
happened_kept s (b ∷ bs) (start k) = host_kept s (host_at k s.hosts) (λ h. on_start s b k h h.stage) (λ h. start_kept s b k h h.stage)
happened_kept s (b ∷ bs) (give k xs) = host_kept s (host_at k s.hosts) (λ h. on_give s b k h xs h.stage) (λ h. give_kept s b k h xs h.stage)
happened_kept s (b ∷ bs) turn = with_kept s (cond (any_names (still_active s.hosts b.members)) bs [])
happened_kept s (b ∷ bs) stop = refl

pub step_kept : (s : FlatState) (e : Event) → (step s e).inventory ≡ s.inventory
step_kept s e = by (enabled s e) where
  by : (q : Bool) → (cond q (happened s s.batches e) s).inventory ≡ s.inventory
  by true = happened_kept s s.batches e
  by false = refl

pub inventory_stays : (s : FlatState) (es : List Event) → (run_from s es).inventory ≡ s.inventory
inventory_stays s [] = refl
inventory_stays s (e ∷ es) = inventory_stays (step s e) es ∙ step_kept s e

abbrev before : Inventory → ℕ → FlatState
before inventory forks = record {
  inventory = inventory;
  forks = forks;
  hosts = opening_hosts inventory.hosts;
  batches = [];
  handed = 0;
  is_stuck = false;
  is_stopped = false;
}

pub inventory_is : (program : Program) (inventory : Inventory) (forks : ℕ) (es : List Event) → (run_from (opening program inventory forks) es).inventory ≡ inventory
inventory_is program inventory forks es = inventory_stays (opening program inventory forks) es ∙ with_kept (before inventory forks) (all_batches program)
