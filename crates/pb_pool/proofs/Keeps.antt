-- What a board keeps, as its run goes on.
use Rattle.std.proofs.Common.{◌≡◌, ◌≤◌, ◌<◌, ℕ, ◌+◌, List, [], ◌∷◌, ◌++◌, Vec, Bool, true, false, cond, length, append_assoc, replicate, Option, Some, None, take, slice_get, get_or, refl, sym, ap, subst, ◌∙◌, ◌⊎◌, inl, inr, arith}
use Rattle.std.specs.Prelude.{count_by, sum_by}
use Rattle.std.specs.declared.alloc.Global.{Global}
use Rattle.std.proofs.lemmas.Bool.{cases_lt, eqb-true}
use Rattle.std.proofs.lemmas.List.{append-nil, take-append-le, length-append, length_push, get_or_push, get_or_append_left, map-append}
use Rattle.std.proofs.Math.Seq.{take-append_seam}
use Rattle.std.proofs.lemmas.List.Sums.{sum_by-append, sum_by-cons, sum_by_push}
use Rattle.std.proofs.lemmas.List.Folds.{sum_by-replicate}
use Rattle.std.proofs.lemmas.Option.{get_or_from_slice_get, slice_get-get_or, slice_get_within}
use Rattle.pb_language.specs.Machine as machine
use Rattle.pb_language.specs.Machine.{State, enabled, happened, step, stop}
use Rattle.pb_language.specs.Program.{Batch}
use Rattle.pb_history.specs.Jobs.{is_out_at, last_place, ticket_out}
use Rattle.pb_history.specs.Turns.{turns_due}
use Rattle.pb_verify.specs.declared.checked.Accepted.{Accepted}
use Rattle.pb_finish.specs.declared.answer.Answer.{Answer}
use Rattle.pb_jobs.specs.declared.job.Job.{Job}
use Rattle.pb_run.specs.Calls.{is_ticket, refusal_in, taken_events}
use Rattle.pb_run.specs.Openings.{Opening, state_after}
use Rattle.pb_run.specs.Recorded.{data_of, event_data, is_over, stop_events}
use Rattle.pb_run.specs.declared.event.Event.{Event}
use Rattle.pb_run.specs.declared.event.Event.TheVariants.{Start, Give, Turn, Stop}
use Rattle.pb_run.specs.declared.event.Given.{Given}
use Rattle.pb_run.specs.declared.event.Given.TheVariants as given
use Rattle.pb_run.specs.declared.event.GiveFault.TheVariants as refusal
use Rattle.pb_run.specs.declared.event.Taken.{Taken}
use Rattle.pb_run.specs.declared.event.Taken.TheVariants as taken
use Rattle.pb_executor.specs.Drives.{GivesRun, IsSameRun, TakesRun}
use Rattle.pb_executor.specs.Sound.{IsSound}
use Rattle.pb_executor.specs.States.{RunState, opening_for, opening_of, state_of}
use Rattle.pb_executor.proofs.Driven.{moved}
use Rattle.pb_executor.proofs.Turns.{again_handed, rests_handed, run_more, taken_handed}
use Rattle.pb_pool.specs.Kept.{AllTold, AnswerRule, IsKept, IsRuled, IsTold, OpeningRule, gives_in, is_give, run_at}
use Rattle.pb_pool.specs.Seats.{calls_of_given, calls_of_taken}

-- what stands in a list with one more element
at_more : (es : List Event) (e x : Event) (i : ℕ) → slice_get (es ++ e ∷ []) i ≡ Some x → ((i < length es) × (slice_get es i ≡ Some x)) ⊎ ((i ≡ length es) × (x ≡ e))
at_more es e x i at = elim (cases_lt i (length es)) [
  | inl within ↦ inl (within, slice_get-get_or es i x within ∙ ap Some (sym (get_or_append_left es (e ∷ []) x i within) ∙ get_or_from_slice_get (es ++ e ∷ []) i x x at))
  | inr past ↦
      let inside : i < length (es ++ e ∷ []) = slice_get_within (es ++ e ∷ []) i x at in
      let here : i ≡ length es = omega (arith, past, inside, length_push es e) in
      inr (here, sym (get_or_from_slice_get (es ++ e ∷ []) i x x at) ∙ get_or_push es e x i (sym here))
]

module _ (told : AnswerRule) where
  pub all_told_more : (es : List Event) (e : Event) → AllTold told es → IsTold told es e → AllTold told (es ++ e ∷ [])
  all_told_more es e all one i x at = elim (at_more es e x i at) [
    | inl before ↦
        let le : i ≤ length es = omega (arith, before.0) in
        subst (λ fs. IsTold told fs x) (sym (take-append-le i es (e ∷ []) le)) (all i x before.1)
    | inr here ↦
        let whole : take i (es ++ e ∷ []) ≡ es = ap (λ n. take n (es ++ e ∷ [])) here.0 ∙ take-append_seam es (e ∷ []) in
        rw (whole, here.1) one
  ]

  silent : (es : List Event) (e : Event) → is_give e ≡ false → IsTold told es e
  silent es (Start k) none = tt
  silent es (Give k xs) none = cc
  silent es Turn none = tt
  silent es Stop none = tt

  no_give : (q : Bool) (n : ℕ) → cond q 1 0 + n ≡ 0 → (q ≡ false) × (n ≡ 0)
  no_give true n e = absurd (omega (arith, e))
  no_give false n e = (refl, omega (arith, e))

  -- events among which is no Give
  pub all_told_silent : (es fs : List Event) → AllTold told es → gives_in fs ≡ 0 → AllTold told (es ++ fs)
  all_told_silent es [] all none = subst (AllTold told) (sym (append-nil es)) all
  all_told_silent es (f ∷ fs) all none =
      let both = no_give (is_give f) (gives_in fs) (sym (sum_by-cons (λ x. cond (is_give x) 1 0) f fs) ∙ none) in
      let one = all_told_more es f all (silent es f both.0) in
      subst (AllTold told) (append_assoc es (f ∷ []) fs) (all_told_silent (es ++ f ∷ []) fs one both.1)

-- another rule that allows the same and more
pub all_told_along : (told also : AnswerRule) (es : List Event) → ((t k : ℕ) (xs : List Answer) → told t k xs → also t k xs) → AllTold told es → AllTold also es
all_told_along told also es along all i e at = by e (all i e at) where
  by : (x : Event) → IsTold told (take i es) x → IsTold also (take i es) x
  by (Start k) one = tt
  by (Give k xs) one = (one.0, one.1, along one.0 k xs.items one.2)
  by Turn one = tt
  by Stop one = tt

handed_same : (n : ℕ) (r s : RunState) → s.accepted ≡ r.accepted → s.forks ≡ r.forks → take n s.history ≡ take n r.history → (state_of (run_at n s)).handed ≡ (state_of (run_at n r)).handed
handed_same n r s book forks same i = (state_after (opening_for (book i) (forks i)) (data_of (same i))).handed

-- the ticket of a job that is out is the place of its host's last event
last_out : (o : Opening) (es : List Event) (h t : ℕ) → refusal_in o es h t ≡ None → last_place h (data_of es) ≡ Some t
last_out o es h t none = place (is_out_at h now) (ticket_is (ticket_out h now (data_of es)) (not_strange now.is_stopped (is_ticket t (ticket_out h now (data_of es))) none)) where
  now : State
  now = state_after o (data_of es)

  not_strange : (q b : Bool) → cond q (Some refusal.Stopped) (cond b None (Some refusal.Stranger)) ≡ None → b ≡ true
  not_strange true b e = cc
  not_strange false true e = refl
  not_strange false false e = cc

  ticket_is : (x : Option ℕ) → is_ticket t x ≡ true → x ≡ Some t
  ticket_is None e = cc
  ticket_is (Some p) e = ap Some (eqb-true p t e)

  place : (b : Bool) → cond b (last_place h (data_of es)) None ≡ Some t → last_place h (data_of es) ≡ Some t
  place true e = e
  place false e = cc

-- a Stop hands out no calls
stop_hands : (s : State) → (step s stop).handed ≡ s.handed
stop_hands s = by (enabled s stop) s.batches where
  by : (q : Bool) (bs : List Batch) → (cond q (happened s bs stop) s).handed ≡ s.handed
  by true [] = refl
  by true (b ∷ bs) = refl
  by false bs = refl

stopped_hands : (o : Opening) (es : List Event) → (state_after o (data_of (es ++ stop_events (state_after o (data_of es))))).handed ≡ (state_after o (data_of es)).handed
stopped_hands o es = by (is_over (state_after o (data_of es))) where
  by : (q : Bool) → (state_after o (data_of (es ++ cond q [] (Stop ∷ [])))).handed ≡ (state_after o (data_of es)).handed
  by true = ap (λ xs. (state_after o (data_of xs)).handed) (append-nil es)
  by false =
      ap (λ xs. (state_after o xs).handed) (map-append event_data es (Stop ∷ []))
      ∙ ap (λ (s : State). s.handed) (run_more (machine.opening o.program o.inventory o.forks) (data_of es) stop)
      ∙ stop_hands (state_after o (data_of es))

stopped_handed : (r s : RunState) → s ≡ record r { history = r.history ++ stop_events (state_of r) } → (state_of s).handed ≡ (state_of r).handed
stopped_handed r s halts = ap (λ (x : RunState). (state_of x).handed) halts ∙ stopped_hands (opening_of r) r.history

-- how many calls are handed out
module _ (r s : RunState) where
  pub taken_count : (t : Taken) → TakesRun t r s → (state_of s).handed ≡ (state_of r).handed + calls_of_taken t
  taken_count (taken.Job j) x = taken_handed r s j x
  taken_count taken.Idle x = let e = rests_handed r s taken.Idle refl x in omega (arith, e)
  taken_count taken.Finished x = let e = rests_handed r s taken.Finished refl x in omega (arith, e)
  taken_count taken.Stopped x = let e = rests_handed r s taken.Stopped refl x in omega (arith, e)

  pub given_count : (host ticket : ℕ) (xs : Vec Answer Global) (g : Given) → GivesRun host ticket xs g r s → (state_of s).handed ≡ (state_of r).handed + calls_of_given g
  given_count host ticket xs given.Done x = ap (λ (t : State). t.handed) (moved r s x.same) ∙ x.given.told.0
  given_count host ticket xs (given.Again j) x = again_handed r s host ticket xs j x

module _ (of : OpeningRule) (told : AnswerRule) (opened calls gives : ℕ) (r s : RunState) (k : IsKept of told opened calls gives r) (is : IsSameRun r s) (sound : IsSound s) where
  -- with these events more, and calls that were handed out with them
  kept_append : (fs : List Event) (m g n : ℕ) → s.history ≡ r.history ++ fs → AllTold told (r.history ++ fs) → (state_of s).handed + calls ≡ (state_of r).handed + m → g ≡ gives + n → gives_in fs ≡ n → IsKept of told opened m g s
  kept_append fs m g n more all handed given count =
      let book = ap (λ (x : RunState). x.accepted) is in
      let forks = ap (λ (x : RunState). x.forks) is in
      let same : take opened s.history ≡ take opened r.history = ap (take opened) more ∙ take-append-le opened r.history fs k.ruled.within in
      let at = handed_same opened r s book forks same in
      let sum : gives_in s.history ≡ gives_in r.history + gives_in fs = ap gives_in more ∙ sum_by-append (λ x. cond (is_give x) 1 0) r.history fs in
      record {
        ruled = record {
          sound = sound;
          within = omega (arith, k.ruled.within, ap length more, length-append r.history fs);
          opening = rw (book, forks, same) k.ruled.opening;
        };
        all_told = subst (AllTold told) (sym more) all;
        handed = omega (arith, at, k.handed, handed);
        given = omega (arith, ap gives_in same, k.given, sum, count, given);
      }

  turns_silent : (n : ℕ) → gives_in (replicate n Turn) ≡ 0
  turns_silent n = let e = sum_by-replicate (λ x. cond (is_give x) 1 0) n Turn in omega (arith, e)

  taken_silent : (n : ℕ) (t : Taken) → gives_in (taken_events n t) ≡ 0
  taken_silent n (taken.Job j) =
      let both = sum_by-append (λ x. cond (is_give x) 1 0) (replicate n Turn) (Start j.host ∷ []) in
      let turns = turns_silent n in
      omega (arith, both, turns)
  taken_silent n taken.Idle = turns_silent n
  taken_silent n taken.Finished = turns_silent n
  taken_silent n taken.Stopped = refl

  -- once it was asked what there is to do
  pub kept_taken : (t : Taken) (m : ℕ) → TakesRun t r s → m ≡ calls + calls_of_taken t → IsKept of told opened m gives s
  kept_taken t m x more =
      let fs = taken_events (turns_due (state_of r)) t in
      let none : gives_in fs ≡ 0 = taken_silent (turns_due (state_of r)) t in
      let count = taken_count r s t x in
      kept_append fs m gives 0 x.taken.events (all_told_silent told r.history fs k.all_told none) (omega (arith, count, more)) (omega arith) none

  -- once a job was answered
  pub kept_given : (host ticket : ℕ) (xs : Vec Answer Global) (g : Given) (m n : ℕ) → GivesRun host ticket xs g r s → told ticket host xs.items → m ≡ calls + calls_of_given g → n ≡ gives + 1 → IsKept of told opened m n s
  kept_given host ticket xs g m n x allowed more one =
      let count = given_count r s host ticket xs g x in
      let all = all_told_more told r.history (Give host xs) k.all_told (ticket, last_out (opening_of r) r.history host ticket x.given.out, allowed) in
      kept_append (Give host xs ∷ []) m n 1 x.given.events all (omega (arith, count, more)) one refl

  stop_silent : (q : Bool) → gives_in (cond q [] (Stop ∷ [])) ≡ 0
  stop_silent true = refl
  stop_silent false = refl

  -- once it was stopped
  pub kept_stopped : s ≡ record r { history = r.history ++ stop_events (state_of r) } → IsKept of told opened calls gives s
  kept_stopped stopped =
      let fs = stop_events (state_of r) in
      let none : gives_in fs ≡ 0 = stop_silent (is_over (state_of r)) in
      let handed = stopped_handed r s stopped in
      kept_append fs calls gives 0 (ap (λ (x : RunState). x.history) stopped) (all_told_silent told r.history fs k.all_told none) (omega (arith, handed)) (omega arith) none
