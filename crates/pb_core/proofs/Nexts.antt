-- Which host starts next, by where the hosts are.
use Rattle.std.proofs.Common.{◌≡◌, ◌<◌, ◌≤◌, ℕ, suc, ◌+◌, List, [], ◌∷◌, Bool, true, false, not, ◌&&◌, ◌||◌, nat_lt, cond, Option, Some, None, refl, sym, ap, ap₂, ◌∙◌, arith}
use Rattle.std.proofs.lemmas.Bool.{ltb-true, ltb-false, leb-true, le-leb}
use Rattle.pb_semantics.proofs.Bools.{untrue, and-left, and-right, and-both}
use Rattle.pb_language.specs.Program as program
use Rattle.pb_language.specs.Machine.{start}
use Rattle.pb_language.specs.Drive.{Starting, lower}
use Rattle.pb_machine.specs.Steps.{Step}
use Rattle.pb_machine.specs.Hosts.{FlatHost, FlatStage, stands, works, at, at_end, left_play}
use Rattle.pb_machine.specs.Ways.{step_at}
use Rattle.pb_machine.specs.Run.{FlatState, plan_steps, host_at, running, is_out, stands_at, all_stand, can_start, of_host, is_possible, enabled, current_steps, starting, first_starting, next_start}
use Rattle.pb_core.specs.Activities.{Activity, idle, ready, runs, activity_in, activities, count_running, running_in, is_at_least, none_behind, can_start_in, start_of, first_in, always, next_in}

-- of the lowest, where it can start
abbrev pub kept : (ℕ → Bool) → Option Starting → Option Starting
kept can None = None
kept can (Some x) = cond (can x.place) (Some x) None

-- where a host can start at a place, it can at each lower one
abbrev IsDownward : (ℕ → Bool) → Type 0
IsDownward can = (p q : ℕ) → q ≤ p → can p ≡ true → can q ≡ true

module _ (can : ℕ → Bool) (down : IsDownward can) where
  both_kept : (x y : Starting) (l c d : Bool) → nat_lt y.place x.place ≡ l → can x.place ≡ c → can y.place ≡ d → lower (cond c (Some x) None) (cond d (Some y) None) ≡ kept can (cond l (Some y) (Some x))
  both_kept x y true true true e f g = ap (λ b. cond b (Some y) (Some x)) e ∙ sym (ap (λ b. cond b (Some y) None) g)
  both_kept x y true true false e f g = untrue (sym g ∙ down x.place y.place (let less : y.place < x.place = ltb-true y.place x.place e in omega arith) f)
  both_kept x y true false true e f g = sym (ap (λ b. cond b (Some y) None) g)
  both_kept x y true false false e f g = sym (ap (λ b. cond b (Some y) None) g)
  both_kept x y false true true e f g = ap (λ b. cond b (Some y) (Some x)) e ∙ sym (ap (λ b. cond b (Some x) None) f)
  both_kept x y false true false e f g = sym (ap (λ b. cond b (Some x) None) f)
  both_kept x y false false true e f g = untrue (sym f ∙ down y.place x.place (ltb-false y.place x.place e) g)
  both_kept x y false false false e f g = sym (ap (λ b. cond b (Some x) None) f)

  lower_none : (b : Bool) (x : Starting) → lower (cond b (Some x) None) None ≡ cond b (Some x) None
  lower_none true x = refl
  lower_none false x = refl

  lower_kept : (x y : Option Starting) → lower (kept can x) (kept can y) ≡ kept can (lower x y)
  lower_kept None y = refl
  lower_kept (Some x) None = lower_none (can x.place) x
  lower_kept (Some x) (Some y) = both_kept x y (nat_lt y.place x.place) (can x.place) (can y.place) refl refl refl

  start_kept : (k : ℕ) (s : Activity) → start_of can k s ≡ kept can (start_of always k s)
  start_kept k idle = refl
  start_kept k (ready p) = refl
  start_kept k (runs p) = refl

  -- the first that can start is the lowest, where that can
  first_kept : (k : ℕ) (ss : List Activity) → first_in can k ss ≡ kept can (first_in always k ss)
  first_kept k [] = refl
  first_kept k (s ∷ ss) = ap₂ lower (start_kept k s) (first_kept (suc k) ss) ∙ lower_kept (start_of always k s) (first_in always (suc k) ss)

stands_down : (p q : ℕ) (s : Activity) → q ≤ p → is_at_least p s ≡ true → is_at_least q s ≡ true
stands_down p q idle h e = refl
stands_down p q (ready r) h e = let low : p ≤ r = leb-true p r e in le-leb q r (omega arith)
stands_down p q (runs r) h e = let low : p ≤ r = leb-true p r e in le-leb q r (omega arith)

stand_down : (ss : List Activity) (p q : ℕ) → q ≤ p → none_behind p ss ≡ true → none_behind q ss ≡ true
stand_down [] p q h e = refl
stand_down (s ∷ ss) p q h e = and-both (is_at_least q s) (none_behind q ss) (stands_down p q s h (and-left (is_at_least p s) (none_behind p ss) e)) (stand_down ss p q h (and-right (is_at_least p s) (none_behind p ss) e))

linear_down : (l : Bool) (ss : List Activity) (p q : ℕ) → q ≤ p → not l || none_behind p ss ≡ true → not l || none_behind q ss ≡ true
linear_down true ss p q h e = stand_down ss p q h e
linear_down false ss p q h e = refl

can_down : (forks : ℕ) (l : Bool) (ss : List Activity) → IsDownward (can_start_in forks l ss)
can_down forks l ss p q h e = and-both (nat_lt (running_in ss) forks) (not l || none_behind q ss) (and-left (nat_lt (running_in ss) forks) (not l || none_behind p ss) e) (linear_down l ss p q h (and-right (nat_lt (running_in ss) forks) (not l || none_behind p ss) e))

pub next_kept : (forks : ℕ) (l : Bool) (ss : List Activity) → next_in forks l ss ≡ kept (can_start_in forks l ss) (first_in always 0 ss)
next_kept forks l ss = first_kept (can_start_in forks l ss) (can_down forks l ss) 0 ss

-- the machine's, by where its hosts are
module _ (ss : List Step) where
  busy_step : (g : FlatStage) (n : ℕ) → cond (is_out g) (suc n) n ≡ count_running (activity_in ss g) n
  busy_step (stands at_end) n = refl
  busy_step (stands left_play) n = refl
  busy_step (stands (at m)) n = refl
  busy_step (works m i ps) n = refl

  running_same : (hs : List FlatHost) → running hs ≡ running_in (activities ss hs)
  running_same [] = refl
  running_same (h ∷ hs) = busy_step h.stage (running hs) ∙ ap (count_running (activity_in ss h.stage)) (running_same hs)

  stands_same : (p : ℕ) (g : FlatStage) → stands_at ss p g ≡ is_at_least p (activity_in ss g)
  stands_same p (stands at_end) = refl
  stands_same p (stands left_play) = refl
  stands_same p (stands (at n)) = refl
  stands_same p (works n i ps) = refl

  stand_same : (p : ℕ) (hs : List FlatHost) → all_stand ss p hs ≡ none_behind p (activities ss hs)
  stand_same p [] = refl
  stand_same p (h ∷ hs) = ap₂ (λ a b. a && b) (stands_same p h.stage) (stand_same p hs)

module _ (s : FlatState) (b : program.Batch) (later : List program.Batch) (is : s.batches ≡ b ∷ later) (going : s.is_stopped ≡ false) where
  pub can_same : (p : ℕ) → nat_lt (running s.hosts) s.forks && (not b.play.is_linear || all_stand (plan_steps b) p s.hosts) ≡ can_start_in s.forks b.play.is_linear (activities (plan_steps b) s.hosts) p
  can_same p = ap₂ (λ x y. nat_lt x s.forks && (not b.play.is_linear || y)) (running_same (plan_steps b) s.hosts) (stand_same (plan_steps b) p s.hosts)

  pub enabled_is : (k : ℕ) (h : FlatHost) → host_at k s.hosts ≡ Some h → enabled s (start k) ≡ can_start s b h.stage
  enabled_is k h e =
      ap₂ (λ x bs. not x && is_possible s bs (start k)) going is
      ∙ ap (λ o. of_host o (λ g. can_start s b g.stage)) e

  start_same : (k : ℕ) (g : FlatStage) → enabled s (start k) ≡ can_start s b g → starting s k g ≡ start_of (can_start_in s.forks b.play.is_linear (activities (plan_steps b) s.hosts)) k (activity_in (plan_steps b) g)
  start_same k (stands at_end) e = refl
  start_same k (stands left_play) e = refl
  start_same k (stands (at n)) e =
      ap₂ (λ (c : Bool) (bs : List program.Batch). cond c (Some (let x : Starting = record { number = k; place = (step_at (current_steps bs) n).task.place } in x)) None) (e ∙ can_same (step_at (plan_steps b) n).task.place) is
  start_same k (works n i ps) e = refl

  first_same : (hs : List FlatHost) (k : ℕ) → ((j : ℕ) → host_at j hs ≡ host_at (k + j) s.hosts) → first_starting s k hs ≡ first_in (can_start_in s.forks b.play.is_linear (activities (plan_steps b) s.hosts)) k (activities (plan_steps b) hs)
  first_same [] k there = refl
  first_same (h ∷ hs) k there =
      let here : k ≡ k + 0 = omega arith in
      ap₂ lower (start_same k h.stage (enabled_is k h (ap (λ n. host_at n s.hosts) here ∙ sym (there 0))))
      (first_same hs (suc k) (λ j. there (suc j) ∙ ap (λ n. host_at n s.hosts) (let on : k + suc j ≡ suc k + j = omega arith in on)))

  pub next_same : next_start s ≡ next_in s.forks b.play.is_linear (activities (plan_steps b) s.hosts)
  next_same = first_same s.hosts 0 (λ j. ap (λ n. host_at n s.hosts) (let none : j ≡ 0 + j = omega arith in none))

-- where nothing is enabled nothing starts
starting_none : (s : FlatState) (k : ℕ) (g : FlatStage) → enabled s (start k) ≡ false → starting s k g ≡ None
starting_none s k (stands at_end) e = refl
starting_none s k (stands left_play) e = refl
starting_none s k (stands (at n)) e = ap (λ c. cond c (Some (let x : Starting = record { number = k; place = (step_at (current_steps s.batches) n).task.place } in x)) None) e
starting_none s k (works n i ps) e = refl

none_first : (s : FlatState) (k : ℕ) (hs : List FlatHost) → ((j : ℕ) → enabled s (start j) ≡ false) → first_starting s k hs ≡ None
none_first s k [] e = refl
none_first s k (h ∷ hs) e = ap₂ lower (starting_none s k h.stage (e k)) (none_first s (suc k) hs e)

pub next_stopped : (s : FlatState) → s.is_stopped ≡ true → next_start s ≡ None
next_stopped s e = none_first s 0 s.hosts (λ j. ap (λ b. not b && is_possible s s.batches (start j)) e)

and_false : (b : Bool) → b && false ≡ false
and_false true = refl
and_false false = refl

pub next_ended : (s : FlatState) → s.batches ≡ [] → next_start s ≡ None
next_ended s e = none_first s 0 s.hosts (λ j. ap (λ bs. not s.is_stopped && is_possible s bs (start j)) e ∙ and_false (not s.is_stopped))
