-- What a fault says of a run.
use Rattle.std.specs.Prelude.{◌≤◌, ◌^◌, ℕ, List}
use Rattle.pb_language.specs.Expression.{Name}
use Rattle.pb_language.specs.Give.{Answer}
use Rattle.pb_language.specs.Machine as machine
use Rattle.pb_history.specs.Happens.{Works}
use Rattle.pb_core.specs.declared.fault.CoreFault.{CoreFault}
use Rattle.pb_core.specs.declared.fault.CoreFault.TheVariants.{Full, Memory, NotThere}
use Rattle.pb_jobs.specs.Faults.{HasSlots}
use Rattle.pb_run.specs.Openings.{IsNeverStuck, Opening, flat_after, state_after}
use Rattle.pb_run.specs.Recorded.{IsRecorded, slot_names}
use Rattle.pb_run.specs.declared.recorded.RecordedMachine.{RecordedMachine}

-- by some events more calls are handed out than a count has room for
abbrev pub IsPast : Opening → Type 0
IsPast o = (es : List machine.Event) × (2 ^ 64 ≤ (state_after o es).handed)

-- each variable that a task of the run sets has one of these slots
abbrev pub AreSlotted : Opening → List Name → Type 0
AreSlotted o names = (es : List machine.Event) (k : ℕ) (w : Works (flat_after o es) k)
    (xs : List Answer) → HasSlots w xs names

-- memory was wanted; or, in a run whose steps are never stuck and whose variables have slots, a
-- count had no room
abbrev pub Faults : CoreFault → RecordedMachine → Type 0
Faults (Memory e) m = Unit {0}
Faults NotThere m = (o : Opening) → IsNeverStuck o → AreSlotted o (slot_names m) → IsRecorded o m
    → ⊥
Faults Full m = (o : Opening) → IsNeverStuck o → AreSlotted o (slot_names m) → IsRecorded o m
    → IsPast o
