-- What there is to do in a run, by what its core answers.
use Rattle.std.proofs.Common.{◌≡◌, ℕ, ◌+◌, List, [], ◌∷◌, Vec, replicate, Bool, true, false, cond, Option, Some, None, option_map, refl, sym, ap, ◌∙◌, arith}
use Rattle.std.proofs.lemmas.List.{append-nil}
use Rattle.std.specs.declared.alloc.Global.{Global}
use Rattle.pb_language.specs.Drive.{Starting}
use Rattle.pb_language.specs.Machine.{State, turn}
use Rattle.pb_language.specs.Program.{Batch}
use Rattle.pb_machine.specs.Run.{FlatState, enabled, next_start}
use Rattle.pb_machine.specs.Simulation.{state_of}
use Rattle.pb_machine.proofs.Machines.{same_enabled, same_next, same_run}
use Rattle.pb_history.specs.Happens.{turned}
use Rattle.pb_history.proofs.Starts.{next_may_start}
use Rattle.pb_history.specs.Turns.{ended, next_of, start_or, turns_due, waits}
use Rattle.pb_start.specs.declared.passes.Pass.{Pass}
use Rattle.pb_core.specs.Activities.{number_of}
use Rattle.pb_core.specs.Cores.{IsCore}
use Rattle.pb_core.specs.Events.{CanTurn, IsNext, TellsEnd, TurnsTo, is_over}
use Rattle.pb_core.specs.declared.run.RunCore.{RunCore}
use Rattle.pb_jobs.specs.declared.job.Job.{Job}
use Rattle.pb_run.specs.Calls.{HandsOutNone, HasJob, IsWaiting, Takes, taken_events, taken_next}
use Rattle.pb_run.specs.Openings.{Opening, flat_after, state_after}
use Rattle.pb_run.specs.Recorded.{IsRecorded, data_of, is_none}
use Rattle.pb_run.specs.Starts.{GoesOn, MayTurn, StartsJob}
use Rattle.pb_run.specs.declared.event.Event.{Event}
use Rattle.pb_run.specs.declared.event.Event.TheVariants.{Turn}
use Rattle.pb_run.specs.declared.event.Taken.TheVariants as taken
use Rattle.pb_run.specs.declared.recorded.RecordedMachine.{RecordedMachine}
use Rattle.pb_run.proofs.Events.{turned_going}
use Rattle.pb_run.proofs.Jobs.{due_is, next_rests, next_starts, next_stopped}

abbrev Core : Type 0
Core = RunCore (Vec Pass Global)

-- no Turn happens
pub stay : (c : Core) → TurnsTo 0 c c
stay c = record { core = λ reading s is. is; enabled = λ reading s is i l. absurd (omega (arith, l)) }

pub stays : (m : RecordedMachine) → GoesOn 0 m m
stays m = λ o recorded on. record {
  history = sym (append-nil m.history.items);
  stands = same_run o.program o.inventory o.forks (data_of m.history.items);
  none = (none (state_after o (data_of m.history.items)).handed, λ i. refl);
  going = refl;
  recorded = recorded;
  slots = refl;
} where
  none : (x : ℕ) → x ≡ x + 0
  none x = omega arith

rest_next : (bs : List Batch) → start_or None bs ≡ cond (is_over bs) ended waits
rest_next [] = refl
rest_next (b ∷ bs) = refl

taken_rest : (q : Bool) → taken_next (cond q taken.Finished taken.Idle) ≡ cond q ended waits
taken_rest true = refl
taken_rest false = refl

rest_events : (q : Bool) (n : ℕ) → taken_events n (cond q taken.Finished taken.Idle) ≡ replicate n Turn
rest_events true n = refl
rest_events false n = refl

rest_job : (q : Bool) (o : Opening) (es fs : List Event) (n : ℕ) → HandsOutNone o es fs → is_none (state_after o (data_of fs)).batches ≡ q → (q ≡ false → IsWaiting (state_after o (data_of fs))) → HasJob o es fs n (cond q taken.Finished taken.Idle)
rest_job true o es fs n none end waiting = (none, end)
rest_job false o es fs n none end waiting = (none, waiting refl)

over_none : (bs : List Batch) → is_none bs ≡ is_over bs
over_none [] = refl
over_none (b ∷ bs) = refl

no_start : (o : Option Starting) → option_map (λ x. x.number) o ≡ None → o ≡ None
no_start None e = refl
no_start (Some x) e = cc

same_after : (o : Opening) (m : RecordedMachine) → state_after o (data_of m.history.items) ≡ state_of (flat_after o (data_of m.history.items))
same_after o m = same_run o.program o.inventory o.forks (data_of m.history.items)

-- so many Turns happen, and no more can
module _ (old new : RecordedMachine) (n : ℕ) (core : Core) (going : old.is_stopped ≡ false) (turns : TurnsTo n old.machine.core core) (over : CanTurn core false) where
  module _ (o : Opening) (recorded : IsRecorded o old) where
    abbrev now : FlatState
    now = flat_after o (data_of old.history.items)

    going_on : now.is_stopped ≡ false
    going_on = recorded.is_stopped ∙ going

    on : MayTurn n now
    on = turns.enabled recorded.reading now recorded.machine.kept.core

    there : IsCore recorded.reading core (turned n now)
    there = turns.core recorded.reading now recorded.machine.kept.core

    off : enabled (turned n now) turn ≡ false
    off = sym (over recorded.reading (turned n now) there)

    due : turns_due (state_after o (data_of old.history.items)) ≡ n
    due = ap turns_due (same_after o old) ∙ due_is now n on off

  -- then a host's task begins
  pub takes_started : (k : ℕ) (j : Job) → IsNext core (Some k) → StartsJob n k j old new → Takes (taken.Job j) old new
  takes_started k j next starts = λ o never recorded.
      let s = flat_after o (data_of old.history.items) in
      let number : number_of (next_start (turned n s)) ≡ Some k = sym (next recorded.reading (turned n s) (there o recorded)) in
      let st = starts o never recorded (on o recorded) (next_may_start (turned n s) k number).enabled in
      record {
        taken = record {
          next = sym (ap next_of (same_after o old) ∙ next_starts s n (on o recorded) (off o recorded) k (going_on o recorded) number ∙ rw st.host refl);
          events = rw (due o recorded, st.host) st.history;
          job = (rw (due o recorded) st.handed, rw st.host st.out);
          going = st.going;
        };
        recorded = st.recorded;
        slots = st.slots;
      }

  -- or none can
  pub takes_rested : (q : Bool) → IsNext core None → TellsEnd core q → GoesOn n old new → Takes (cond q taken.Finished taken.Idle) old new
  takes_rested q next tells goes = λ o never recorded.
      let s = flat_after o (data_of old.history.items) in
      let number : number_of (next_start (turned n s)) ≡ None = sym (next recorded.reading (turned n s) (there o recorded)) in
      let end : q ≡ is_over (turned n s).batches = tells recorded.reading (turned n s) (there o recorded) in
      let gone = goes o recorded (on o recorded) in
      record {
        taken = record {
          next = taken_rest q ∙ sym (ap next_of (same_after o old) ∙ next_rests s n (on o recorded) (off o recorded) (going_on o recorded) number ∙ rest_next (turned n s).batches ∙ ap (λ b. cond b ended waits) (sym end));
          events = rw (due o recorded, rest_events q n) gone.history;
          job = rest_job q o old.history.items new.history.items (turns_due (state_after o (data_of old.history.items))) gone.none
              (ap (λ (x : State). is_none x.batches) gone.stands ∙ over_none (turned n s).batches ∙ sym end)
              (λ left. rw (gone.stands) (record {
                none = same_next (turned n s) ∙ no_start (next_start (turned n s)) number;
                busy = same_enabled (turned n s) turn ∙ off o recorded;
                going = turned_going n s ∙ going_on o recorded;
                left = over_none (turned n s).batches ∙ sym end ∙ left;
              }));
          going = gone.going;
        };
        recorded = gone.recorded;
        slots = gone.slots;
      }

-- a run that was stopped
pub takes_stopped : (m : RecordedMachine) → m.is_stopped ≡ true → Takes taken.Stopped m m
takes_stopped m stopped = λ o never recorded.
    let s = flat_after o (data_of m.history.items) in
    let still : s.is_stopped ≡ true = recorded.is_stopped ∙ stopped in
    let stay = stays m o recorded (λ i l. absurd (omega (arith, l))) in
    record {
      taken = record {
        next = sym (ap next_of (same_after o m) ∙ next_stopped s still);
        events = sym (append-nil m.history.items);
        job = stay.none;
        going = refl;
      };
      recorded = recorded;
      slots = refl;
    }
