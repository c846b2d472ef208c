-- Why calls of a run are refused.
use Rattle.std.specs.Prelude.{◌≡◌, ℕ, None, Some, true}
use Rattle.pb_history.specs.Turns.{next_of, turns_due}
use Rattle.pb_core.specs.declared.fault.CoreFault.{CoreFault}
use Rattle.pb_core.specs.declared.fault.CoreFault.TheVariants.{Full, Memory, NotThere}
use Rattle.pb_run.specs.Calls.{records_some, refusal_in}
use Rattle.pb_run.specs.declared.event.GiveFault.{GiveFault}
use Rattle.pb_run.specs.declared.event.GiveFault.TheVariants as fault
use Rattle.pb_executor.specs.States.{RunState, opening_of, state_of}
use Rattle.pb_executor.specs.declared.fault.GiveError.{GiveError}
use Rattle.pb_executor.specs.declared.fault.GiveError.TheVariants.{NoMemory, Stopped, Stranger}

-- a Turn or a Start is to be recorded
abbrev pub TakesSomeRun : RunState → Type 0
TakesSomeRun r = records_some (next_of (state_of r)) (turns_due (state_of r)) ≡ true

-- it is refused for that reason; for want of memory only where no other is
abbrev pub IsRefusedRun : GiveError → ℕ → ℕ → RunState → Type 0
IsRefusedRun NoMemory k t r = refusal_in (opening_of r) r.history k t ≡ None
IsRefusedRun Stopped k t r = refusal_in (opening_of r) r.history k t ≡ Some fault.Stopped
IsRefusedRun Stranger k t r = refusal_in (opening_of r) r.history k t ≡ Some fault.Stranger

-- an allocation was refused
abbrev pub IsMemory : CoreFault → Type 0
IsMemory (Memory e) = Unit {0}
IsMemory NotThere = ⊥
IsMemory Full = ⊥

-- where it is the machine's, that
abbrev pub IsNoFault : GiveFault → Type 0
IsNoFault fault.Stopped = Unit {0}
IsNoFault fault.Stranger = Unit {0}
IsNoFault (fault.Core f) = IsMemory f

abbrev pub error_in : GiveFault → GiveError
error_in fault.Stopped = Stopped
error_in fault.Stranger = Stranger
error_in (fault.Core f) = NoMemory
