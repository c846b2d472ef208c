-- What is recorded once Turns have happened in the machine that the history doesn't have yet.
use Rattle.std.specs.Prelude.{◌≡◌, ℕ}
use Rattle.pb_core.specs.declared.fault.CoreFault.{CoreFault}
use Rattle.pb_jobs.specs.Machines.{IsSameBut, TurnsAllAs}
use Rattle.pb_jobs.specs.declared.job.Job.{Job}
use Rattle.pb_run.specs.Calls.{Takes}
use Rattle.pb_run.specs.Faults.{Faults}
use Rattle.pb_run.specs.Starts.{GoesOn, StartsJob}
use Rattle.pb_run.specs.declared.event.Taken.{Taken}
use Rattle.pb_run.specs.declared.recorded.RecordedMachine.{RecordedMachine}

-- so many Turns have happened in the machine, which are all that may
pub record HasTurnedAll (n : ℕ) (old new : RecordedMachine) : Type 0 where
  pub history : new.history.items ≡ old.history.items
  pub stopped : new.is_stopped ≡ old.is_stopped
  pub machine : TurnsAllAs n old.machine new.machine

-- seen from before these Turns
abbrev pub Behind : ℕ → (RecordedMachine → RecordedMachine → Type 0) → RecordedMachine
    → RecordedMachine → Type 0
Behind n step now new = (old : RecordedMachine) → HasTurnedAll n old now → step old new

abbrev pub TakesBehind : ℕ → Taken → RecordedMachine → RecordedMachine → Type 0
TakesBehind n t = Behind n (Takes t)

abbrev pub StartsBehind : ℕ → ℕ → Job → RecordedMachine → RecordedMachine → Type 0
StartsBehind n k j = Behind n (StartsJob n k j)

abbrev pub FaultsBehind : ℕ → CoreFault → RecordedMachine → Type 0
FaultsBehind n e now = (old : RecordedMachine) → HasTurnedAll n old now → Faults e old

abbrev pub GoesOnBehind : ℕ → RecordedMachine → RecordedMachine → Type 0
GoesOnBehind n = Behind n (GoesOn n)

-- nothing more has happened
pub record IsNotRecorded (old new : RecordedMachine) : Type 0 where
  pub history : new.history.items ≡ old.history.items
  pub stopped : new.is_stopped ≡ old.is_stopped
  pub machine : IsSameBut old.machine new.machine
