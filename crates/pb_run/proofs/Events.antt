-- A run that goes on by Turns and an event behind them.
use Rattle.std.proofs.Common.{◌≡◌, ◌<◌, ◌≤◌, ℕ, zero, suc, ◌+◌, ◌-◌, List, [], ◌∷◌, ◌++◌, length, replicate, get_or, set, Bool, true, false, nat_eq, cond, Option, Some, None, inl, inr, refl, sym, ap, ap₂, ◌∙◌, arith}
use Rattle.std.proofs.lemmas.Bool.{cases_lt}
use Rattle.std.proofs.lemmas.Bool.Decides.{eqb_tells}
use Rattle.std.proofs.lemmas.List.{length-replicate, length-set, get_or-set_same, get_or-set_other}
use Rattle.pb_language.specs.Machine as machine
use Rattle.pb_language.specs.Machine.{Event, State, any_names, turn}
use Rattle.pb_language.specs.Program.{Batch}
use Rattle.pb_machine.specs.Run.{FlatState, enabled, happened, history, opening, run_from, step, still_active, with_batches}
use Rattle.pb_machine.specs.Simulation.{state_of}
use Rattle.pb_machine.proofs.Machines.{same_history, same_run, same_step}
use Rattle.pb_history.specs.Happens.{turned}
use Rattle.pb_history.specs.Jobs.{handed_to, is_of, last_place}
use Rattle.pb_history.proofs.Histories.{handed_join, handed_turns, history_join, history_one, history_turns, last_more, last_turns, run_join, run_turns}
use Rattle.pb_run.specs.Openings.{AllEnabled, AreCounted, ArePlaces, IsNeverStuck, Opening, flat_after, state_after}

-- so many Turns, and then that event
abbrev pub behind : ℕ → Event → List Event
behind n e = replicate n turn ++ e ∷ []

pub join_one : (es fs : List Event) (e : Event) → es ++ (fs ++ e ∷ []) ≡ (es ++ fs) ++ e ∷ []
join_one [] fs e = refl
join_one (x ∷ es) fs e = ap (λ xs. x ∷ xs) (join_one es fs e)

length_join : (es fs : List Event) → length (es ++ fs) ≡ length es + length fs
length_join [] fs = omega arith
length_join (e ∷ es) fs = let rest = length_join es fs in omega (arith, rest)

pub fine_after : (o : Opening) → IsNeverStuck o → (es : List Event) → (flat_after o es).is_stuck ≡ false
fine_after o never es = sym (ap (λ (s : State). s.is_stuck) (same_run o.program o.inventory o.forks es)) ∙ never es

module _ (o : Opening) (es : List Event) where
  pub after_more : (fs : List Event) → flat_after o (es ++ fs) ≡ run_from (flat_after o es) fs
  after_more fs = run_join (opening o.program o.inventory o.forks) es fs

  pub after_turns : (n : ℕ) → flat_after o (es ++ replicate n turn) ≡ turned n (flat_after o es)
  after_turns n = after_more (replicate n turn) ∙ run_turns n (flat_after o es)

  pub after_behind : (n : ℕ) (e : Event) → flat_after o (es ++ behind n e) ≡ step (turned n (flat_after o es)) e
  after_behind n e =
      after_more (behind n e) ∙ run_join (flat_after o es) (replicate n turn) (e ∷ [])
      ∙ ap (λ s. step s e) (run_turns n (flat_after o es))

  pub enabled_more : (fs : List Event) → AllEnabled o es → history (flat_after o es) fs ≡ fs → AllEnabled o (es ++ fs)
  enabled_more fs on more =
      same_history o.program o.inventory o.forks (es ++ fs) ∙ history_join (opening o.program o.inventory o.forks) es fs
      ∙ ap₂ (λ xs ys. xs ++ ys) (sym (same_history o.program o.inventory o.forks es) ∙ on) more

  pub enabled_turns : (n : ℕ) → AllEnabled o es → ((i : ℕ) → i < n → enabled (turned i (flat_after o es)) turn ≡ true) → AllEnabled o (es ++ replicate n turn)
  enabled_turns n on turns = enabled_more (replicate n turn) on (history_turns n (flat_after o es) turns)

  pub enabled_behind : (n : ℕ) (e : Event) → AllEnabled o es → ((i : ℕ) → i < n → enabled (turned i (flat_after o es)) turn ≡ true) → enabled (turned n (flat_after o es)) e ≡ true → AllEnabled o (es ++ behind n e)
  enabled_behind n e on turns last =
      let s = flat_after o es in
      enabled_more (behind n e) on
      (history_join s (replicate n turn) (e ∷ [])
      ∙ ap₂ (λ xs ys. xs ++ ys) (history_turns n s turns) (ap (λ t. history t (e ∷ [])) (run_turns n s) ∙ history_one (turned n s) e last))

pub places_turned : (ts : List (Option ℕ)) (es : List Event) (n : ℕ) → ArePlaces ts es → ArePlaces ts (es ++ replicate n turn)
places_turned ts es n are k p e = last_turns k n es ∙ are k p e

past_set : {A : Type 0} → (xs : List A) (k : ℕ) (x d : A) → length xs ≤ k → get_or (set xs k x) k d ≡ d
past_set [] k x d l = refl
past_set (y ∷ xs) zero x d l = absurd (omega (arith, l))
past_set (y ∷ xs) (suc k) x d l = past_set xs k x d (omega (arith, l))

-- an event of one host
module _ (k : ℕ) (e : Event) (own : (j : ℕ) → is_of j e ≡ nat_eq j k) where
  pub place_behind : (j n : ℕ) (es : List Event) → last_place j (es ++ behind n e) ≡ cond (nat_eq j k) (Some (length es + n)) (last_place j es)
  place_behind j n es =
      let many : length (es ++ replicate n turn) ≡ length es + n = length_join es (replicate n turn) ∙ ap (λ m. length es + m) (length-replicate n turn) in
      ap (last_place j) (join_one es (replicate n turn) e) ∙ last_more j (es ++ replicate n turn) e
      ∙ ap₂ (λ q m. cond q (Some m) (last_place j (es ++ replicate n turn))) (own j) many
      ∙ ap (cond (nat_eq j k) (Some (length es + n))) (last_turns j n es)

  pub places_set : (ts : List (Option ℕ)) (es : List Event) (n : ℕ) (t : Option ℕ) → ArePlaces ts es → ((p : ℕ) → t ≡ Some p → p ≡ length es + n) → ArePlaces (set ts k t) (es ++ behind n e)
  places_set ts es n t are is j p h = place_behind j n es ∙ by where
    here : j ≡ k → Some (length es + n) ≡ Some p
    here same = elim (cases_lt k (length ts)) [
      | inl l ↦ ap Some (sym (is p (sym (get_or-set_same ts k t None l) ∙ ap (λ i. get_or (set ts k t) i None) (sym same) ∙ h)))
      | inr l ↦ let no : None ≡ Some p = sym (past_set ts k t None l) ∙ ap (λ i. get_or (set ts k t) i None) (sym same) ∙ h in cc
    ]

    by : cond (nat_eq j k) (Some (length es + n)) (last_place j es) ≡ Some p
    by = elim (eqb_tells j k) [
      | inl same ↦ ap (λ q. cond q (Some (length es + n)) (last_place j es)) same.0 ∙ here same.1
      | inr other ↦ ap (λ q. cond q (Some (length es + n)) (last_place j es)) other.0 ∙ are j p (sym (get_or-set_other ts k j t None other.1) ∙ h)
    ]

  -- and the calls that it hands out
  pub handed_behind : (j n : ℕ) (s : State) (es : List Event) → handed_to j s (es ++ behind n e)
      ≡ handed_to j s es + cond (nat_eq j k) ((machine.step (machine.run_from s (es ++ replicate n turn)) e).handed - (machine.run_from s (es ++ replicate n turn)).handed) 0
  handed_behind j n s es =
      let u = machine.run_from s (es ++ replicate n turn) in
      let more = (machine.step u e).handed - u.handed in
      ap (handed_to j s) (join_one es (replicate n turn) e) ∙ handed_join j s (es ++ replicate n turn) (e ∷ [])
      ∙ ap₂ (λ a b. a + b) (handed_join j s es (replicate n turn) ∙ ap (λ m. handed_to j s es + m) (handed_turns j n (machine.run_from s es))) (ap (λ q. cond q more 0 + 0) (own j))
      ∙ sum (handed_to j s es) (cond (nat_eq j k) more 0) where
        sum : (a b : ℕ) → (a + 0) + (b + 0) ≡ a + b
        sum a b = omega arith

  turned_same : (o : Opening) (es : List Event) (n : ℕ) → state_after o (es ++ replicate n turn) ≡ state_of (turned n (flat_after o es))
  turned_same o es n = same_run o.program o.inventory o.forks (es ++ replicate n turn) ∙ ap state_of (after_turns o es n)

  pub counted_behind : (o : Opening) (es : List Event) (n m : ℕ) (cs : List ℕ) → AreCounted cs o es → (step (turned n (flat_after o es)) e).handed ≡ (turned n (flat_after o es)).handed + m
      → AreCounted (set cs k (get_or cs k 0 + m)) o (es ++ behind n e)
  counted_behind o es n m cs are more j l =
      let u = turned n (flat_after o es) in
      let v = state_after o (es ++ replicate n turn) in
      let had = handed_to j (state_after o []) es in
      let within : j < length cs = omega (arith, l, length-set cs k (get_or cs k 0 + m)) in
      let after : (machine.step v e).handed ≡ u.handed + m =
      ap (λ (x : State). (machine.step x e).handed) (turned_same o es n) ∙ ap (λ (x : State). x.handed) (same_step u e) ∙ more in
      let before : v.handed ≡ u.handed = ap (λ (x : State). x.handed) (turned_same o es n) in
      let less : (machine.step v e).handed - v.handed ≡ m = ap₂ (λ x y. x - y) after before ∙ sum u.handed m in
      sym (handed_behind j n (state_after o []) es ∙ ap (λ x. had + cond (nat_eq j k) x 0) less ∙ by j within) where
        sum : (x y : ℕ) → (x + y) - x ≡ y
        sum x y = omega arith

        none : (x : ℕ) → x + 0 ≡ x
        none x = omega arith

        by : (j : ℕ) → j < length cs → handed_to j (state_after o []) es + cond (nat_eq j k) m 0 ≡ get_or (set cs k (get_or cs k 0 + m)) j 0
        by j within = elim (eqb_tells j k) [
          | inl same ↦
              let here : k < length cs = omega (arith, within, same.1) in
              ap (λ q. handed_to j (state_after o []) es + cond q m 0) same.0
              ∙ ap (λ x. x + m) (sym (are j within) ∙ ap (λ i. get_or cs i 0) same.1)
              ∙ sym (ap (λ i. get_or (set cs k (get_or cs k 0 + m)) i 0) same.1 ∙ get_or-set_same cs k (get_or cs k 0 + m) 0 here)
          | inr other ↦
              ap (λ q. handed_to j (state_after o []) es + cond q m 0) other.0
              ∙ none (handed_to j (state_after o []) es) ∙ sym (are j within) ∙ sym (get_or-set_other cs k j (get_or cs k 0 + m) 0 other.1)
        ]

pub counted_turned : (o : Opening) (es : List Event) (n : ℕ) (cs : List ℕ) → AreCounted cs o es → AreCounted cs o (es ++ replicate n turn)
counted_turned o es n cs are j l =
    are j l ∙ sym (handed_join j (state_after o []) es (replicate n turn) ∙ ap (λ m. handed_to j (state_after o []) es + m) (handed_turns j n (machine.run_from (state_after o []) es)) ∙ none (handed_to j (state_after o []) es)) where
      none : (x : ℕ) → x + 0 ≡ x
      none x = omega arith

-- Turns don't stop a run
pub with_going : (s : FlatState) (bs : List Batch) → (with_batches s bs).is_stopped ≡ s.is_stopped
with_going s [] = refl
with_going s (b ∷ bs) = refl

turn_going : (s : FlatState) → (step s turn).is_stopped ≡ s.is_stopped
turn_going s = by (enabled s turn) s.batches where
  goes : (bs : List Batch) → (happened s bs turn).is_stopped ≡ s.is_stopped
  goes [] = refl
  goes (b ∷ bs) = with_going s (cond (any_names (still_active s.hosts b.members)) bs [])

  by : (q : Bool) (bs : List Batch) → (cond q (happened s bs turn) s).is_stopped ≡ s.is_stopped
  by true bs = goes bs
  by false bs = refl

pub turned_going : (n : ℕ) (s : FlatState) → (turned n s).is_stopped ≡ s.is_stopped
turned_going zero s = refl
turned_going (suc n) s = turn_going (turned n s) ∙ turned_going n s

-- nor do they hand out calls
with_handed : (s : FlatState) (bs : List Batch) → (with_batches s bs).handed ≡ s.handed
with_handed s [] = refl
with_handed s (b ∷ bs) = refl

turn_handed : (s : FlatState) → (step s turn).handed ≡ s.handed
turn_handed s = by (enabled s turn) s.batches where
  goes : (bs : List Batch) → (happened s bs turn).handed ≡ s.handed
  goes [] = refl
  goes (b ∷ bs) = with_handed s (cond (any_names (still_active s.hosts b.members)) bs [])

  by : (q : Bool) (bs : List Batch) → (cond q (happened s bs turn) s).handed ≡ s.handed
  by true bs = goes bs
  by false bs = refl

pub turned_handed : (n : ℕ) (s : FlatState) → (turned n s).handed ≡ s.handed
turned_handed zero s = refl
turned_handed (suc n) s = turn_handed (turned n s) ∙ turned_handed n s

pub handed_same : (o : Opening) (es : List Event) → (state_after o es).handed ≡ (flat_after o es).handed
handed_same o es = ap (λ (s : State). s.handed) (same_run o.program o.inventory o.forks es)

pub handed_turned : (o : Opening) (es : List Event) (n : ℕ) → (state_after o (es ++ replicate n turn)).handed ≡ (state_after o es).handed + 0
handed_turned o es n =
    handed_same o (es ++ replicate n turn) ∙ ap (λ (s : FlatState). s.handed) (after_turns o es n) ∙ turned_handed n (flat_after o es) ∙ sym (handed_same o es) ∙ none (state_after o es).handed where
      none : (x : ℕ) → x ≡ x + 0
      none x = omega arith

pub handed_more : (o : Opening) (es : List Event) (n m : ℕ) (e : Event) → (step (turned n (flat_after o es)) e).handed ≡ (turned n (flat_after o es)).handed + m → (state_after o (es ++ behind n e)).handed ≡ (state_after o es).handed + m
handed_more o es n m e more =
    handed_same o (es ++ behind n e) ∙ ap (λ (s : FlatState). s.handed) (after_behind o es n e) ∙ more
    ∙ ap (λ x. x + m) (turned_handed n (flat_after o es) ∙ sym (handed_same o es))
