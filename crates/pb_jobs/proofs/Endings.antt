-- What the answers to a job come to, where their Give isn't stuck.
use Rattle.std.proofs.Common.{◌≡◌, ℕ, List, Bool, true, false, not, ◌&&◌, refl}
use Rattle.pb_language.specs.Give.{Answer, Own, Admitted, admitted, breached, unreached, Ended, results_are, end_all, any_changed, any_failed, asks_again, last_attempts}
use Rattle.pb_language.specs.Machine.{give, notified_by}
use Rattle.pb_language.specs.Notify.{handlers_are}
use Rattle.pb_language.specs.Task.{Task}
use Rattle.pb_machine.specs.Run.{FlatState, step, world_of}
use Rattle.pb_history.specs.Happens.{Comes, Works, answered, step_in}
use Rattle.pb_history.proofs.Starts.{come_to, notify}
use Rattle.pb_finish.specs.Endings.{EndsAs, CameTo, ComesTo, IsOutcome}
use Rattle.pb_finish.specs.declared.answer.Breach.{Breach}
use Rattle.pb_finish.specs.declared.ending.Ending.{Ending}
use Rattle.pb_finish.specs.declared.ending.Ending.TheVariants as endings
use Rattle.pb_finish.specs.declared.outcome.Outcome.{Outcome}
use Rattle.pb_jobs.specs.Tasks.{Repeats}

module _ (s : FlatState) (k : ℕ) (w : Works s k) (xs : List Answer) (fine : (step s (give k xs)).is_stuck ≡ false) where
  abbrev Ends : Ending → Admitted → Type 0
  Ends e a = EndsAs e (world_of s w.batch w.host (step_in w).task) (step_in w).task w.attempts a

  -- where the answers are admitted the ending is that of their results
  record Found (e : Ending) : Type 0 where
    owns : List Own
    results : List Ended
    admits : answered w xs ≡ admitted owns
    ends : end_all (world_of s w.batch w.host (step_in w).task) (step_in w).task owns ≡ results_are results
    comes : ComesTo e (step_in w).task w.attempts results

  found : (e : Ending) (os : List Own) → answered w xs ≡ admitted os → Ends e (admitted os) → Found e
  found e os is ends =
      let results = come_to s k w xs os fine is in
      record { owns = os; results = results.0; admits = is; ends = results.1; comes = ends results.0 results.1 }

  no_more : (q : Bool) (t : Task) (es : List Ended) → CameTo q endings.Unreached t es → ⊥
  no_more true t es c = cc
  no_more false t es c = c

  no_breach : (q : Bool) (b : Breach) (t : Task) (es : List Ended) → CameTo q (endings.Breached b) t es → ⊥
  no_breach true b t es c = cc
  no_breach false b t es c = c

  pub unreached_is : Ends endings.Unreached (answered w xs) → answered w xs ≡ unreached
  unreached_is ends = by (answered w xs) refl ends where
    by : (a : Admitted) → answered w xs ≡ a → Ends endings.Unreached a → answered w xs ≡ unreached
    by (admitted os) is e = let f = found endings.Unreached os is e in absurd (no_more (asks_again (step_in w).task w.attempts f.results) (step_in w).task (last_attempts f.results) f.comes)
    by breached is e = absurd e
    by unreached is e = is

  pub breached_is : (b : Breach) → Ends (endings.Breached b) (answered w xs) → answered w xs ≡ breached
  breached_is b ends = by (answered w xs) refl ends where
    by : (a : Admitted) → answered w xs ≡ a → Ends (endings.Breached b) a → answered w xs ≡ breached
    by (admitted os) is e = let f = found (endings.Breached b) os is e in absurd (no_breach (asks_again (step_in w).task w.attempts f.results) b (step_in w).task (last_attempts f.results) f.comes)
    by breached is e = is
    by unreached is e = cc

  pub repeats_is : Ends endings.Again (answered w xs) → Repeats w xs
  repeats_is ends = by (answered w xs) refl ends where
    again : (f : Found endings.Again) (q : Bool) → asks_again (step_in w).task w.attempts f.results ≡ q → CameTo q endings.Again (step_in w).task (last_attempts f.results) → Repeats w xs
    again f true e c = (f.results, record { owns = f.owns; admits = f.admits; ends = f.ends }, e)
    again f false e c = absurd c

    by : (a : Admitted) → answered w xs ≡ a → Ends endings.Again a → Repeats w xs
    by (admitted os) is e = let f = found endings.Again os is e in again f (asks_again (step_in w).task w.attempts f.results) refl f.comes
    by breached is e = absurd e
    by unreached is e = cc

  -- the task ended with these results, and notifies these handlers
  pub record EndedAs (o : Outcome) : Type 0 where
    pub results : List Ended
    pub comes : Comes w xs results
    pub last : asks_again (step_in w).task w.attempts results ≡ false
    pub handlers : List ℕ
    pub notified : notified_by w.batch.play (step_in w).task (any_changed (last_attempts results) && not (any_failed (last_attempts results))) ≡ handlers_are handlers
    pub outcome : IsOutcome o (step_in w).task (last_attempts results)

  pub ended_is : (o : Outcome) → Ends (endings.Ended o) (answered w xs) → EndedAs o
  ended_is o ends = by (answered w xs) refl ends where
    last : (f : Found (endings.Ended o)) (q : Bool) → asks_again (step_in w).task w.attempts f.results ≡ q → CameTo q (endings.Ended o) (step_in w).task (last_attempts f.results) → EndedAs o
    last f true e c = cc
    last f false e c =
        let told = notify s k w xs f.owns f.results fine f.admits f.ends e in
        record {
          results = f.results;
          comes = record { owns = f.owns; admits = f.admits; ends = f.ends };
          last = e;
          handlers = told.0;
          notified = told.1;
          outcome = c;
        }

    by : (a : Admitted) → answered w xs ≡ a → Ends (endings.Ended o) a → EndedAs o
    by (admitted os) is e = let f = found (endings.Ended o) os is e in last f (asks_again (step_in w).task w.attempts f.results) refl f.comes
    by breached is e = absurd e
    by unreached is e = cc
