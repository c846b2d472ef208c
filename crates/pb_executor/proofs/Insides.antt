-- What the calls of a run do, by what its recorded machine does.
use Rattle.std.proofs.Common.{◌≡◌, ◌++◌, ◌<◌, ◌^◌, Result, Ok, Err, IfOk, IfErr, OnErr, OnOk, ℕ, Vec, true, refl, ap, arith, subst, sym}
use Rattle.std.specs.declared.alloc.Global.{Global}
use Rattle.pb_language.specs.Expression.{Name}
use Rattle.pb_language.specs.Program.{all_batches}
use Rattle.pb_finish.specs.declared.answer.Answer.{Answer}
use Rattle.pb_history.specs.Jobs.{is_out_at}
use Rattle.pb_inventory.specs.Inventory.{inventory_view}
use Rattle.pb_inventory.specs.Numbered.{name_of}
use Rattle.pb_verify.specs.declared.checked.Accepted.{Accepted}
use Rattle.pb_world.specs.Hosts.{AreNamed, names_of_hosts}
use Rattle.pb_core.specs.Cores.{AreBatches}
use Rattle.pb_core.specs.declared.batch.Schedule.{Schedule}
use Rattle.pb_core.specs.declared.fault.CoreFault.{CoreFault}
use Rattle.pb_core.specs.declared.fault.CoreFault.TheVariants.{Full, Memory, NotThere}
use Rattle.pb_jobs.specs.Faults.{OpensNot}
use Rattle.pb_schedule.specs.Schedules.{program_for}
use Rattle.pb_run.specs.Calls.{Gives, HasJob, IsRefused, StaysRecorded, Takes, TakesSome}
use Rattle.pb_run.specs.Faults.{AreSlotted, Faults}
use Rattle.pb_run.specs.Follows.{EventView, Follows}
use Rattle.pb_run.specs.Openings.{IsNeverStuck, Opening}
use Rattle.pb_run.specs.Recorded.{IsRecorded, Stops, slot_names, stop_events}
use Rattle.pb_run.specs.declared.event.Given.{Given}
use Rattle.pb_run.specs.declared.event.GiveFault.{GiveFault}
use Rattle.pb_run.specs.declared.event.GiveFault.TheVariants as fault
use Rattle.pb_run.specs.declared.event.Taken.{Taken}
use Rattle.pb_run.specs.declared.event.Taken.TheVariants as taken
use Rattle.pb_run.specs.declared.recorded.RecordedMachine.{RecordedMachine}
use Rattle.pb_executor.specs.Drives.{GivesRun, TakesRun}
use Rattle.pb_executor.specs.Inside.{AllNamed, IsRun, run_state}
use Rattle.pb_executor.specs.Refusals.{IsMemory, IsNoFault, IsRefusedRun, TakesSomeRun, error_in}
use Rattle.pb_executor.specs.Replays.{FollowsRun}
use Rattle.pb_executor.specs.Sound.{IsSound}
use Rattle.pb_executor.specs.States.{opening_for, state_of}
use Rattle.pb_executor.specs.declared.run.Run.TheInside.{Inside}
use Rattle.pb_executor.proofs.Runs.{is_sound, never_stuck, waits_out, within}
use Rattle.pb_executor.proofs.Slotted.{slotted}

pub sound_run : (a : Inside) → IsRun a → IsSound (run_state a)
sound_run a is = is_sound (run_state a) is.accepted is.recorded.enabled

module _ (a : Inside) (is : IsRun a) where
  abbrev o : Opening
  o = opening_for a.checked.now a.forks

  never : IsNeverStuck o
  never = never_stuck (run_state a) is.accepted

  pub refused_run : (e : GiveFault) (k t : ℕ) → IsRefused e k t a.recorded → IsRefusedRun (error_in e) k t (run_state a)
  refused_run fault.Stopped k t x = x o is.recorded
  refused_run fault.Stranger k t x = x o is.recorded
  refused_run (fault.Core f) k t x = x.0 o is.recorded

  all_slotted : AreSlotted o (slot_names a.recorded)
  all_slotted = slotted a.checked.now a.forks (slot_names a.recorded) is.slots

  -- of the faults of its machine want of memory alone is met
  pub is_memory : a.checked.now.budget < 2 ^ 64 → (f : CoreFault) → Faults f a.recorded → IsMemory f
  is_memory few (Memory e) x = tt
  is_memory few NotThere x = x o never all_slotted is.recorded
  is_memory few Full x =
      let past = x o never all_slotted is.recorded in
      omega (arith, few, past.1, within (run_state a) is.accepted past.0)

  pub is_no_fault : a.checked.now.budget < 2 ^ 64 → (e : GiveFault) (k t : ℕ) → IsRefused e k t a.recorded → IsNoFault e
  is_no_fault few fault.Stopped k t x = tt
  is_no_fault few fault.Stranger k t x = tt
  is_no_fault few (fault.Core f) k t x = is_memory few f x.1

  pub takes_some : TakesSome a.recorded → TakesSomeRun (run_state a)
  takes_some x = x o is.recorded

  module _ (m : RecordedMachine) where
    abbrev b : Inside
    b = record a { recorded = m }

    keeps : IsRecorded o m → slot_names m ≡ slot_names a.recorded → IsRun b
    keeps recorded same = record {
      accepted = is.accepted;
      recorded = recorded;
      forks = is.forks;
      slots = subst (AllNamed a.checked.now) (sym same) is.slots;
    }

    -- what there is to do is asked
    pub take_keeps : {E : Type 0} (r : Result Taken E) → IfOk r (λ t. Takes t a.recorded m) → OnErr r (StaysRecorded a.recorded m) → IsRun b
    take_keeps (Ok t) takes stays = let x = takes o never is.recorded in keeps x.recorded x.slots
    take_keeps (Err e) takes stays = keeps (stays.recorded o is.recorded) stays.slots

    pub takes_run : (t : Taken) → Takes t a.recorded m → TakesRun t (run_state a) (run_state b)
    takes_run t takes = record { same = refl; taken = (takes o never is.recorded).taken }

    pub idle_run : (t : Taken) → Takes t a.recorded m → t ≡ taken.Idle → (k : ℕ) × (is_out_at k (state_of (run_state b)) ≡ true)
    idle_run t takes idle =
        let x = takes o never is.recorded in
        waits_out (run_state b) is.accepted is.forks (subst (HasJob o a.recorded.history.items m.history.items _) idle x.taken.job).1

    -- an event happens again, where it can
    pub follow_keeps : {X E : Type 0} (v : EventView) (r : Result X E) → OnOk r (Follows v a.recorded m) → OnErr r (StaysRecorded a.recorded m) → IsRun b
    follow_keeps v (Ok t) follows stays = let x = follows o never is.recorded in keeps x.recorded x.slots
    follow_keeps v (Err e) follows stays = keeps (stays.recorded o is.recorded) stays.slots

    pub follows_run : (v : EventView) → Follows v a.recorded m → FollowsRun v (run_state a) (run_state b)
    follows_run v follows = record { same = refl; events = (follows o never is.recorded).events }

    -- answers are given
    pub give_keeps : {E : Type 0} (k t : ℕ) (xs : Vec Answer Global) (r : Result Given E) → IfOk r (λ g. Gives k t xs g a.recorded m) → OnErr r (StaysRecorded a.recorded m) → IsRun b
    give_keeps k t xs (Ok g) gives stays = let x = gives o never is.recorded in keeps x.recorded x.slots
    give_keeps k t xs (Err e) gives stays = keeps (stays.recorded o is.recorded) stays.slots

    pub gives_run : (k t : ℕ) (xs : Vec Answer Global) (g : Given) → Gives k t xs g a.recorded m → GivesRun k t xs g (run_state a) (run_state b)
    gives_run k t xs g gives = record { same = refl; given = (gives o never is.recorded).given }

    -- it is stopped
    pub stop_keeps : Stops a.recorded m → IsRun b
    stop_keeps stops = let x = stops o is.recorded in keeps x.recorded x.slots

    pub stops_run : Stops a.recorded m → run_state b ≡ record (run_state a) { history = (run_state a).history ++ stop_events (state_of (run_state a)) }
    stops_run stops = ap (λ xs. record (run_state a) { history = xs }) (stops o is.recorded).history

-- an answer by what it is
pub ok_run : {X E : Type 0} (r : Result X E) (P Q : X → Type 0) → ((x : X) → P x → Q x) → IfOk r P → IfOk r Q
ok_run (Ok x) P Q f p = f x p
ok_run (Err e) P Q f p = p

pub err_run : {X E : Type 0} (r : Result X E) (P Q : E → Type 0) → ((e : E) → P e → Q e) → IfErr r P → IfErr r Q
err_run (Ok x) P Q f p = p
err_run (Err e) P Q f p = f e p

pub on_ok_run : {X E : Type 0} (r : Result X E) (P Q : Type 0) → (P → Q) → OnOk r P → OnOk r Q
on_ok_run (Ok x) P Q f p = f p
on_ok_run (Err e) P Q f p = p

pub on_err_run : {X E : Type 0} (r : Result X E) (P Q : Type 0) → (P → Q) → OnErr r P → OnErr r Q
on_err_run (Ok x) P Q f p = p
on_err_run (Err e) P Q f p = f p

-- the program of what was accepted has its schedule, so none is missing when it is opened
pub opens_memory : (a : Accepted) (schedule : Schedule) → ((name : ℕ → Name) → AreNamed name (inventory_view a.inventory).hosts → AreBatches name schedule.plays.items schedule.batches.items (all_batches (program_for a)))
    → (f : CoreFault) → OpensNot schedule f → IsMemory f
opens_memory a schedule batches (Memory e) x = tt
opens_memory a schedule batches NotThere x =
    let name = name_of (names_of_hosts (inventory_view a.inventory).hosts) in
    x name (all_batches (program_for a)) (batches name (λ k l. refl))
opens_memory a schedule batches Full x = x
