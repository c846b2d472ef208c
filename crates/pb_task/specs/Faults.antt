-- Which fault of a task a fault of a value in it is, and which code it tells.
use Rattle.std.specs.Prelude.{ℕ, Option, Some, None, Result, Err}
use Rattle.pb_template.specs.declared.fault.TemplateFault.{TemplateFault}
use Rattle.pb_template.specs.declared.fault.TemplateFault.TheVariants as template
use Rattle.pb_task.specs.Offences.{number_of}
use Rattle.pb_task.specs.declared.fault.Code.TheVariants.{Expression}
use Rattle.pb_task.specs.declared.fault.TaskFault.{TaskFault}
use Rattle.pb_task.specs.declared.fault.TaskFault.TheVariants.{Refused, NoMemory}

abbrev pub from_template : TemplateFault → TaskFault
from_template template.Unreadable = Refused Expression
from_template template.NoMemory = NoMemory

-- its code, or it is want of memory
abbrev pub offence_of : {D : Type 0} → TaskFault → Option (Result D ℕ)
offence_of (Refused c) = Some (Err (number_of c))
offence_of NoMemory = None
