-- One turn of a driven run: what a Stop, a job that is taken and an answer change.
use Rattle.std.proofs.Common.{◌≡◌, ◌≤◌, ℕ, ◌+◌, List, [], ◌∷◌, ◌++◌, Vec, length, Bool, true, false, not, ◌&&◌, ◌||◌, cond, Option, Some, None, ◌⊎◌, inl, inr, refl, sym, ap, ◌∙◌, arith}
use Rattle.std.proofs.lemmas.List.{append_assoc, append-nil, length-append, map-append}
use Rattle.std.specs.declared.alloc.Global.{Global}
use Rattle.pb_language.specs.Drive.{Starting, next_start}
use Rattle.pb_language.specs.Machine as machine
use Rattle.pb_language.specs.Machine.{State, happened, is_possible, run_from, step, stop}
use Rattle.pb_language.specs.Program.{Batch}
use Rattle.pb_history.specs.Jobs.{is_out_at}
use Rattle.pb_history.specs.Turns.{next_of, start_or, stopped, turned, turns_due}
use Rattle.pb_finish.specs.declared.answer.Answer.{Answer}
use Rattle.pb_jobs.specs.declared.job.Job.{Job}
use Rattle.pb_run.specs.Calls.{taken_events}
use Rattle.pb_run.specs.Openings.{Opening, state_after}
use Rattle.pb_run.specs.Recorded.{data_of, event_data, is_none, is_over, stop_events}
use Rattle.pb_run.specs.declared.event.Event.{Event}
use Rattle.pb_run.specs.declared.event.Event.TheVariants.{Give, Stop}
use Rattle.pb_run.specs.declared.event.Given.{Given}
use Rattle.pb_run.specs.declared.event.Given.TheVariants as given
use Rattle.pb_run.specs.declared.event.Taken.{Taken}
use Rattle.pb_run.specs.declared.event.Taken.TheVariants as taken
use Rattle.pb_executor.specs.Drives.{GivesRun, GoesOn, IsSameRun, TakesRun, is_job}
use Rattle.pb_executor.specs.States.{RunState, opening_of, state_of}
use Rattle.pb_executor.proofs.Driven.{moved}

pub same_twice : (a b c : RunState) → IsSameRun a b → IsSameRun b c → IsSameRun a c
same_twice a b c first then = then ∙ ap (λ (r : RunState). record r { history = c.history }) first

-- a run goes on
pub goes_nowhere : (r : RunState) → GoesOn r r
goes_nowhere r = ([], sym (ap (λ es. record r { history = es }) (append-nil r.history)))

pub goes_twice : (a b c : RunState) → GoesOn a b → GoesOn b c → GoesOn a c
goes_twice a b c first then = (
  first.0 ++ then.0,
  then.1 ∙ ap (λ (r : RunState). record r { history = r.history ++ then.0 }) first.1
      ∙ ap (λ es. record a { history = es }) (append_assoc a.history first.0 then.0),
)

pub goes_by : (old new : RunState) (es : List Event) → IsSameRun old new → new.history ≡ old.history ++ es → GoesOn old new
goes_by old new es same more = (es, same ∙ ap (λ xs. record old { history = xs }) more)

pub run_more : (s : State) (es : List machine.Event) (e : machine.Event) → run_from s (es ++ e ∷ []) ≡ step (run_from s es) e
run_more s [] e = refl
run_more s (x ∷ es) e = run_more (step s x) es e

-- a run that is stopped is over
stops : (s : State) → is_over s ≡ false → is_over (step s stop) ≡ true
stops s e = by s.is_stopped s.batches e where
  by : (q : Bool) (bs : List Batch) → q || is_none bs ≡ false → is_over (cond (not q && is_possible s bs stop) (happened s bs stop) s) ≡ true
  by true bs f = cc
  by false [] f = cc
  by false (b ∷ bs) f = refl

stop_over : (o : Opening) (es : List Event) → is_over (state_after o (data_of (es ++ stop_events (state_after o (data_of es))))) ≡ true
stop_over o es = by (is_over (state_after o (data_of es))) refl where
  by : (q : Bool) → is_over (state_after o (data_of es)) ≡ q → is_over (state_after o (data_of (es ++ cond q [] (Stop ∷ [])))) ≡ true
  by true e = ap (λ xs. is_over (state_after o (data_of xs))) (append-nil es) ∙ e
  by false e =
      ap (λ xs. is_over (state_after o xs)) (map-append event_data es (Stop ∷ []))
      ∙ ap is_over (run_more (machine.opening o.program o.inventory o.forks) (data_of es) stop)
      ∙ stops (state_after o (data_of es)) e

pub stopped_over : (old new : RunState) → new ≡ record old { history = old.history ++ stop_events (state_of old) } → is_over (state_of new) ≡ true
stopped_over old new same = ap (λ r. is_over (state_of r)) same ∙ stop_over (opening_of old) old.history

-- a run that is stopped says so
never_stopped : (o : Option Starting) (bs : List Batch) → start_or o bs ≡ stopped → ⊥
never_stopped (Some x) bs e = cc
never_stopped None [] e = cc
never_stopped None (b ∷ bs) e = cc

stopped_next : (s : State) → stopped ≡ next_of s → s.is_stopped ≡ true
stopped_next s e = by s.is_stopped (sym e) where
  by : (q : Bool) → cond q stopped (start_or (next_start (turned s)) (turned s).batches) ≡ stopped → q ≡ true
  by true f = refl
  by false f = absurd (never_stopped (next_start (turned s)) (turned s).batches f)

-- what is taken
module _ (old new : RunState) where
  pub taken_longer : (t : Taken) → TakesRun t old new → length old.history ≤ length new.history
  taken_longer t x = let n = ap length x.taken.events ∙ length-append old.history (taken_events (turns_due (state_of old)) t) in omega (arith, n)

  pub goes_taken : (t : Taken) → TakesRun t old new → GoesOn old new
  goes_taken t x = goes_by old new (taken_events (turns_due (state_of old)) t) x.same x.taken.events

  pub taken_handed : (j : Job) → TakesRun (taken.Job j) old new → (state_of new).handed ≡ (state_of old).handed + length j.calls.items
  taken_handed j x = ap (λ (s : State). s.handed) (moved old new x.same) ∙ x.taken.job.0.count

  pub rests_handed : (t : Taken) → is_job t ≡ false → TakesRun t old new → (state_of new).handed ≡ (state_of old).handed
  rests_handed (taken.Job j) free x = cc
  rests_handed taken.Idle free x = let n = ap (λ (s : State). s.handed) (moved old new x.same) ∙ x.taken.job.0.0 in omega (arith, n)
  rests_handed taken.Finished free x = let n = ap (λ (s : State). s.handed) (moved old new x.same) ∙ x.taken.job.0.0 in omega (arith, n)
  rests_handed taken.Stopped free x = let n = ap (λ (s : State). s.handed) (moved old new x.same) ∙ x.taken.job.0 in omega (arith, n)

  -- an answer
  pub given_longer : (k t : ℕ) (xs : Vec Answer Global) (g : Given) → GivesRun k t xs g old new → length new.history ≡ length old.history + 1
  given_longer k t xs g x = ap length x.given.events ∙ length-append old.history (Give k xs ∷ [])

  pub goes_given : (k t : ℕ) (xs : Vec Answer Global) (g : Given) → GivesRun k t xs g old new → GoesOn old new
  goes_given k t xs g x = goes_by old new (Give k xs ∷ []) x.same x.given.events

  pub again_handed : (k t : ℕ) (xs : Vec Answer Global) (j : Job) → GivesRun k t xs (given.Again j) old new → (state_of new).handed ≡ (state_of old).handed + length j.calls.items
  again_handed k t xs j x = ap (λ (s : State). s.handed) (moved old new x.same) ∙ x.given.told.1.count

  pub over_or_out : (t : Taken) → is_job t ≡ false → TakesRun t old new → (t ≡ taken.Idle → (k : ℕ) × (is_out_at k (state_of new) ≡ true)) → (is_over (state_of new) ≡ true) ⊎ ((k : ℕ) × (is_out_at k (state_of new) ≡ true))
  over_or_out (taken.Job j) free x idle = cc
  over_or_out taken.Idle free x idle = inr (idle refl)
  over_or_out taken.Finished free x idle =
      inl (ap is_over (moved old new x.same) ∙ or_true (state_after (opening_of old) (data_of new.history)).is_stopped _ x.taken.job.1) where
        or_true : (p q : Bool) → q ≡ true → p || q ≡ true
        or_true true q e = refl
        or_true false q e = e
  over_or_out taken.Stopped free x idle =
      inl (ap is_over (moved old new x.same) ∙ true_or _ (is_none (state_after (opening_of old) (data_of new.history)).batches) (x.taken.going ∙ stopped_next (state_of old) x.taken.next)) where
        true_or : (p q : Bool) → p ≡ true → p || q ≡ true
        true_or p q e = ap (λ b. b || q) e

pub no_job : (t : Taken) → ((j : Job) → t ≡ taken.Job j → ⊥) → is_job t ≡ false
no_job (taken.Job j) none = absurd (none j refl)
no_job taken.Idle none = refl
no_job taken.Finished none = refl
no_job taken.Stopped none = refl
