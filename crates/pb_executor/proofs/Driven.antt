-- A run that is driven: nobody else's job is out at its end, and nothing stops it.
use Rattle.std.proofs.Common.{◌≡◌, ℕ, Bool, true, false, not, ◌&&◌, ◌||◌, nat_eq, refl, sym, ap, ◌∙◌}
use Rattle.pb_language.specs.Machine.{State}
use Rattle.pb_history.specs.Jobs.{is_out_at}
use Rattle.pb_finish.specs.declared.answer.Answer.{Answer}
use Rattle.pb_jobs.specs.declared.job.Call.{Call}
use Rattle.pb_jobs.specs.declared.job.Job.{Job}
use Rattle.pb_run.specs.Openings.{state_after}
use Rattle.pb_run.specs.Recorded.{data_of}
use Rattle.pb_run.specs.declared.event.Taken.{Taken}
use Rattle.pb_run.specs.declared.event.Taken.TheVariants as taken
use Rattle.pb_executor.specs.Drives.{Drives, Ends, IsSameRun, TakesRun, again, done, goes_on, is_job, rests}
use Rattle.pb_executor.specs.States.{RunState, opening_of, state_of}

abbrev pub NoneOut : RunState → Type 0
NoneOut r = (k : ℕ) → is_out_at k (state_of r) ≡ false

abbrev OneOut : ℕ → RunState → Type 0
OneOut k r = (i : ℕ) → is_out_at i (state_of r) ≡ nat_eq i k

abbrev is_stopped : RunState → Bool
is_stopped r = (state_of r).is_stopped

-- the state after, by what was run before
pub moved : (old new : RunState) → IsSameRun old new → state_of new ≡ state_after (opening_of old) (data_of new.history)
moved old new same = ap (λ (r : RunState). state_after (opening_of r) (data_of new.history)) same

or_none : (b q : Bool) → q ≡ false → b || q ≡ b
or_none true q e = refl
or_none false q e = e

but_own : (b q : Bool) → q ≡ b → not b && q ≡ false
but_own true q e = refl
but_own false q e = e

taken_going : (old new : RunState) (t : Taken) → TakesRun t old new → is_stopped new ≡ is_stopped old
taken_going old new t x = ap (λ (s : State). s.is_stopped) (moved old new x.same) ∙ x.taken.going

module _ (old new : RunState) where
  taken_one : (j : Job) → TakesRun (taken.Job j) old new → NoneOut old → OneOut j.host new
  taken_one j x none i = ap (is_out_at i) (moved old new x.same) ∙ x.taken.job.1 i ∙ or_none (nat_eq i j.host) (is_out_at i (state_of old)) (none i)

  rested : (t : Taken) → is_job t ≡ false → TakesRun t old new → NoneOut old → NoneOut new
  rested (taken.Job j) free x none i = cc
  rested taken.Idle free x none i = ap (is_out_at i) (moved old new x.same) ∙ x.taken.job.0.1 i ∙ none i
  rested taken.Finished free x none i = ap (is_out_at i) (moved old new x.same) ∙ x.taken.job.0.1 i ∙ none i
  rested taken.Stopped free x none i = ap (is_out_at i) (moved old new x.same) ∙ x.taken.job.1 i ∙ none i

module _ {R : Type 0} (answers : R → Call → Answer → R → Type 0) where
  ends_none : (old new : RunState) (r s : R) (j : Job) → Ends answers old r j new s → OneOut j.host old → NoneOut new
  ends_none old new r s j (done xs asked x) one =
      λ i. ap (is_out_at i) (moved old new x.same) ∙ x.given.told.1 i ∙ but_own (nat_eq i j.host) (is_out_at i (state_of old)) (one i)
  ends_none old new r s j (again {mid = mid} {q = q} xs next asked x more) one =
      ends_none mid new q s next more
      (λ i. ap (is_out_at i) (moved old mid x.same) ∙ x.given.told.2 i ∙ one i ∙ ap (nat_eq i) (sym x.given.told.0))

  ends_going : (old new : RunState) (r s : R) (j : Job) → Ends answers old r j new s → is_stopped new ≡ is_stopped old
  ends_going old new r s j (done xs asked x) = ap (λ (t : State). t.is_stopped) (moved old new x.same) ∙ x.given.going
  ends_going old new r s j (again {mid = mid} {q = q} xs next asked x more) =
      ends_going mid new q s next more ∙ ap (λ (t : State). t.is_stopped) (moved old mid x.same) ∙ x.given.going

  -- where nothing was out before nothing is then
  pub drives_none : (old new : RunState) (r s : R) → Drives answers old r new s → NoneOut old → NoneOut new
  drives_none old new r s (rests t free x) none = rested old new t free x none
  drives_none old new r s (goes_on {begun = begun} {mid = mid} {q = q} j x ended more) none =
      drives_none mid new q s more (ends_none begun mid r q j ended (taken_one old begun j x none))

  pub drives_going : (old new : RunState) (r s : R) → Drives answers old r new s → is_stopped new ≡ is_stopped old
  drives_going old new r s (rests t free x) = taken_going old new t x
  drives_going old new r s (goes_on {begun = begun} {mid = mid} {q = q} j x ended more) =
      drives_going mid new q s more ∙ ends_going begun mid r q j ended ∙ taken_going old begun (taken.Job j) x
