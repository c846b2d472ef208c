-- A run that waits for nobody can go on: the host with the least place can start, or the batch is over.
use Rattle.std.proofs.Common.{◌≡◌, ◌≤◌, ◌⊎◌, inl, inr, ⊎_elim, ℕ, suc, List, [], ◌∷◌, Bool, true, false, not, ◌&&◌, ◌||◌, cond, nat_le, nat_lt, Option, Some, None, refl, sym, ap, subst, ◌∙◌, arith, true≢false}
use Rattle.std.proofs.lemmas.Bool.Decides.{nat_tests}
use Rattle.pb_semantics.proofs.Bools.{untrue, and-left, and-right, and-both, or-right, not-true}
use Rattle.pb_language.specs.Task.{Task}
use Rattle.pb_language.specs.Rest.{Rest}
use Rattle.pb_language.specs.Start.{Pass, Plan, planned, halted, plan_of}
use Rattle.pb_language.specs.Give.{asks_again, last_attempts, Answer, Admitted, admitted, breached, unreached, admit_passes, Ended, Results, results_are, no_results, end_all, any_changed, any_failed}
use Rattle.pb_language.specs.Notify.{Notified, handlers_are, names_nothing}
use Rattle.pb_language.specs.Program.{Inventory, Batch, Program, all_batches}
use Rattle.pb_language.specs.Plays.{program_of}
use Rattle.pb_language.specs.Theorem.{none_out, CanGoOn, Progress}
use Rattle.pb_language.specs.Machine.{on_again, on_ended, Event, start, give, turn, stop, over, gone, begins as at_task, Stage, waits, runs, Host, State, still_active, world_of, host_at, is_out, running, stands_at, all_stand, can_start, is_idle, all_idle, of_host, is_possible, enabled, notified_by, on_plan, on_start, on_notified, on_results, on_admitted, on_give, any_names, with_batches, on_host, happened, step, opening_hosts, opening, run_from}
use Rattle.pb_semantics.proofs.KeepsUp.{le_through}

-- a host whose place no other's is below
record Least (hs : List Host) : Type 0 where
  at : ℕ
  place : ℕ
  begins : (s : State) (b : Batch) → nat_lt (running s.hosts) s.forks ≡ true → all_stand place s.hosts ≡ true → of_host (host_at at hs) (λ h. can_start s b h.stage) ≡ true
  lowest : all_stand place hs ≡ true

idle_stands : (p : ℕ) (g : Stage) → is_idle g ≡ true → stands_at p g ≡ true
idle_stands p (waits over) h = refl
idle_stands p (waits gone) h = refl
idle_stands p (waits (at_task t a b)) h = untrue h
idle_stands p (runs t tries ps a b) h = untrue h

idle_stand : (p : ℕ) (hs : List Host) → all_idle hs ≡ true → all_stand p hs ≡ true
idle_stand p [] e = refl
idle_stand p (h ∷ hs) e = and-both (stands_at p h.stage) (all_stand p hs) (idle_stands p h.stage (and-left (is_idle h.stage) (all_idle hs) e)) (idle_stand p hs (and-right (is_idle h.stage) (all_idle hs) e))

stage_lower : (p q : ℕ) (g : Stage) → nat_le p q ≡ true → stands_at q g ≡ true → stands_at p g ≡ true
stage_lower p q (waits over) l h = refl
stage_lower p q (waits gone) l h = refl
stage_lower p q (waits (at_task t a b)) l h = le_through p q t.place l h
stage_lower p q (runs t tries ps a b) l h = le_through p q t.place l h

all_lower : (p q : ℕ) (hs : List Host) → nat_le p q ≡ true → all_stand q hs ≡ true → all_stand p hs ≡ true
all_lower p q [] l h = refl
all_lower p q (x ∷ hs) l h = and-both (stands_at p x.stage) (all_stand p hs) (stage_lower p q x.stage l (and-left (stands_at q x.stage) (all_stand q hs) h)) (all_lower p q hs l (and-right (stands_at q x.stage) (all_stand q hs) h))

le_own : (p : ℕ) → nat_le p p ≡ true
le_own p = grind (arith, nat_tests)

le_other : (p q : ℕ) → nat_le p q ≡ false → nat_le q p ≡ true
le_other p q h = grind (arith, nat_tests)

-- a host that waits at a place at which all stand can start
starts_at : (g : Stage) (t : Task) (x y : Rest) → g ≡ waits (at_task t x y) → (s : State) (b : Batch) → nat_lt (running s.hosts) s.forks ≡ true → all_stand t.place s.hosts ≡ true → can_start s b g ≡ true
starts_at g t x y e s b f a =
    rw e (and-both (nat_lt (running s.hosts) s.forks) (not b.play.is_linear || all_stand t.place s.hosts) f (or-right (not b.play.is_linear) (all_stand t.place s.hosts) a))

stands_own : (g : Stage) (t : Task) (x y : Rest) (p : ℕ) → g ≡ waits (at_task t x y) → nat_le p t.place ≡ true → stands_at p g ≡ true
stands_own g t x y p e l = rw e l

compared : (q : Bool) (h : Host) (hs : List Host) (t : Task) (a b : Rest) (m : Least hs) → h.stage ≡ waits (at_task t a b) → nat_le t.place m.place ≡ q → Least (h ∷ hs)
compared true h hs t a b m e l = record {
  at = 0;
  place = t.place;
  begins = starts_at h.stage t a b e;
  lowest = and-both (stands_at t.place h.stage) (all_stand t.place hs) (stands_own h.stage t a b t.place e (le_own t.place)) (all_lower t.place m.place hs l m.lowest);
}
compared false h hs t a b m e l = record {
  at = suc m.at;
  place = m.place;
  begins = m.begins;
  lowest = and-both (stands_at m.place h.stage) (all_stand m.place hs) (stands_own h.stage t a b m.place e (le_other t.place m.place l)) m.lowest;
}

first_least : (h : Host) (hs : List Host) (t : Task) (a b : Rest) → h.stage ≡ waits (at_task t a b) → (all_idle hs ≡ true) ⊎ Least hs → Least (h ∷ hs)
first_least h hs t a b e r =
    ⊎_elim (λ x. record {
      at = 0;
      place = t.place;
      begins = starts_at h.stage t a b e;
      lowest = and-both (stands_at t.place h.stage) (all_stand t.place hs) (stands_own h.stage t a b t.place e (le_own t.place)) (idle_stand t.place hs x);
    }) (λ m. compared (nat_le t.place m.place) h hs t a b m e refl) r

idle_least : (h : Host) (hs : List Host) → is_idle h.stage ≡ true → (all_idle hs ≡ true) ⊎ Least hs → (is_idle h.stage && all_idle hs ≡ true) ⊎ Least (h ∷ hs)
idle_least h hs o r =
    ⊎_elim (λ x. inl (and-both (is_idle h.stage) (all_idle hs) o x)) (λ m. inr (record {
      at = suc m.at;
      place = m.place;
      begins = m.begins;
      lowest = and-both (stands_at m.place h.stage) (all_stand m.place hs) (idle_stands m.place h.stage o) m.lowest;
    })) r

stage_least : (g : Stage) (h : Host) (hs : List Host) → h.stage ≡ g → is_out g ≡ false → (all_idle hs ≡ true) ⊎ Least hs → (is_idle h.stage && all_idle hs ≡ true) ⊎ Least (h ∷ hs)
stage_least (waits over) h hs e o r = idle_least h hs (ap is_idle e) r
stage_least (waits gone) h hs e o r = idle_least h hs (ap is_idle e) r
stage_least (waits (at_task t a b)) h hs e o r = inr (first_least h hs t a b e r)
stage_least (runs t tries ps a b) h hs e o r = absurd (true≢false o)

least : (hs : List Host) → none_out hs ≡ true → (all_idle hs ≡ true) ⊎ Least hs
least [] i = inl refl
least (h ∷ hs) i = stage_least h.stage h hs refl (not-true (is_out h.stage) (and-left (not (is_out h.stage)) (none_out hs) i)) (least hs (and-right (not (is_out h.stage)) (none_out hs) i))

-- where no job is out none runs
running_step : (q : Bool) (n : ℕ) → q ≡ false → n ≡ 0 → cond q (suc n) n ≡ 0
running_step true n e i = absurd (true≢false e)
running_step false n e i = i

none_running : (hs : List Host) → none_out hs ≡ true → running hs ≡ 0
none_running [] i = refl
none_running (h ∷ hs) i = running_step (is_out h.stage) (running hs) (not-true (is_out h.stage) (and-left (not (is_out h.stage)) (none_out hs) i)) (none_running hs (and-right (not (is_out h.stage)) (none_out hs) i))

few_run : (n m : ℕ) → n ≡ 0 → 1 ≤ m → nat_lt n m ≡ true
few_run n m e l = grind (arith, nat_tests)

possible : (s : State) (bs : List Batch) → (bs ≡ [] → false ≡ true) → 1 ≤ s.forks → none_out s.hosts ≡ true → ((k : ℕ) × (is_possible s bs (start k) ≡ true)) ⊎ (is_possible s bs turn ≡ true)
possible s [] going f n = untrue (going refl)
possible s (b ∷ bs) going f n =
    ⊎_elim (λ x. inr x) (λ m. inl (m.at, m.begins s b (few_run (running s.hosts) s.forks (none_running s.hosts n) f) m.lowest)) (least s.hosts n)

can_go_on : (s : State) → s.is_stopped ≡ false → (s.batches ≡ [] → false ≡ true) → 1 ≤ s.forks → none_out s.hosts ≡ true → CanGoOn s
can_go_on s on going f n =
    ⊎_elim (λ x. inl (x.0, and-both (not s.is_stopped) (is_possible s s.batches (start x.0)) (ap not on) x.1)) (λ x. inr (and-both (not s.is_stopped) (is_possible s s.batches turn) (ap not on) x)) (possible s s.batches going f n)

-- no step changes the number of forks
module _ (s : State) where
  plan_forks : (k : ℕ) (h : Host) (t : Task) (x y : Rest) (p : Plan) → (on_plan s k h t x y p).forks ≡ s.forks
  plan_forks k h t x y (planned ps) = refl
  plan_forks k h t x y (halted w) = refl

  start_forks : (b : Batch) (k : ℕ) (h : Host) (g : Stage) → (on_start s b k h g).forks ≡ s.forks
  start_forks b k h (waits over) = refl
  start_forks b k h (waits gone) = refl
  start_forks b k h (waits (at_task t x y)) = plan_forks k h t x y (plan_of (world_of s b h t) t t.loop)
  start_forks b k h (runs t tries ps x y) = refl

  notified_forks : (k : ℕ) (h : Host) (t : Task) (x y : Rest) (es : List Ended) (n : Notified) → (on_notified s k h t x y es n).forks ≡ s.forks
  notified_forks k h t x y es names_nothing = refl
  notified_forks k h t x y es (handlers_are ms) = refl

  attempt_forks : (q : Bool) (b : Batch) (k : ℕ) (h : Host) (t : Task) (i : ℕ) (ps : List Pass) (x y : Rest) (es : List Ended) → (cond q (on_again s k h t i ps x y) (on_ended s b k h t x y es)).forks ≡ s.forks
  attempt_forks true b k h t i ps x y es = refl
  attempt_forks false b k h t i ps x y es = notified_forks k h t x y es (notified_by b.play t (any_changed es && not (any_failed es)))

  results_forks : (b : Batch) (k : ℕ) (h : Host) (t : Task) (i : ℕ) (ps : List Pass) (x y : Rest) (r : Results) → (on_results s b k h t i ps x y r).forks ≡ s.forks
  results_forks b k h t i ps x y (no_results w) = refl
  results_forks b k h t i ps x y (results_are es) = attempt_forks (asks_again t i es) b k h t i ps x y (last_attempts es)

  admitted_forks : (b : Batch) (k : ℕ) (h : Host) (t : Task) (i : ℕ) (ps : List Pass) (x y : Rest) (a : Admitted) → (on_admitted s b k h t i ps x y a).forks ≡ s.forks
  admitted_forks b k h t i ps x y (admitted os) = results_forks b k h t i ps x y (end_all (world_of s b h t) t os)
  admitted_forks b k h t i ps x y breached = refl
  admitted_forks b k h t i ps x y unreached = refl

  give_forks : (b : Batch) (k : ℕ) (h : Host) (xs : List Answer) (g : Stage) → (on_give s b k h xs g).forks ≡ s.forks
  give_forks b k h xs (waits r) = refl
  give_forks b k h xs (runs t tries ps x y) = admitted_forks b k h t tries ps x y (admit_passes t.action ps xs)

  pub batches_forks : (bs : List Batch) → (with_batches s bs).forks ≡ s.forks
  batches_forks [] = refl
  batches_forks (b ∷ bs) = refl

  host_forks : (o : Option Host) (go : Host → State) → ((h : Host) → (go h).forks ≡ s.forks) → (on_host s o go).forks ≡ s.forks
  host_forks None go f = refl
  host_forks (Some h) go f = f h

  happened_forks : (bs : List Batch) (e : Event) → (happened s bs e).forks ≡ s.forks
  happened_forks [] e = refl
  happened_forks (b ∷ bs) (start k) = host_forks (host_at k s.hosts) (λ h. on_start s b k h h.stage) (λ h. start_forks b k h h.stage)
  happened_forks (b ∷ bs) (give k xs) = host_forks (host_at k s.hosts) (λ h. on_give s b k h xs h.stage) (λ h. give_forks b k h xs h.stage)
  happened_forks (b ∷ bs) turn = batches_forks (cond (any_names (still_active s.hosts b.members)) bs [])
  happened_forks (b ∷ bs) stop = refl

  either_forks : (q : Bool) (x : State) → x.forks ≡ s.forks → (cond q x s).forks ≡ s.forks
  either_forks true x e = e
  either_forks false x e = refl

  step_forks : (e : Event) → (step s e).forks ≡ s.forks
  step_forks e = either_forks (enabled s e) (happened s s.batches e) (happened_forks s.batches e)

run_forks : (es : List Event) (s : State) → (run_from s es).forks ≡ s.forks
run_forks [] s = refl
run_forks (e ∷ es) s = run_forks es (step s e) ∙ step_forks s e

opening_forks : (program : Program) (inventory : Inventory) (forks : ℕ) → (opening program inventory forks).forks ≡ forks
opening_forks program inventory forks =
    batches_forks (record { inventory = inventory; forks = forks; hosts = opening_hosts inventory.hosts; batches = []; handed = 0; is_stuck = false; is_stopped = false }) (all_batches program)

pub progress : Progress
progress ms inventory b forks es f s e on going n =
    let same = ap (λ z. z.forks) e ∙ (run_forks es (opening (program_of ms inventory b) inventory forks) ∙ opening_forks (program_of ms inventory b) inventory forks) in
    can_go_on s on going (subst (λ m. 1 ≤ m) (sym same) f) n
