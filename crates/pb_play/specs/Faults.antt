-- What a fault of a play tells, and which fault of a play a fault of a task or of a text is.
use Rattle.std.specs.Prelude.{ℕ, Option, Some, None, Result, Err}
use Rattle.pb_language.specs.BookForm as language
use Rattle.pb_task.specs.Offences.{number_of}
use Rattle.pb_task.specs.declared.fault.Code.{Code}
use Rattle.pb_task.specs.declared.fault.Code.TheVariants.{Expression}
use Rattle.pb_task.specs.declared.fault.TaskFault.{TaskFault}
use Rattle.pb_task.specs.declared.fault.TaskFault.TheVariants as task
use Rattle.pb_template.specs.declared.fault.TemplateFault.{TemplateFault}
use Rattle.pb_template.specs.declared.fault.TemplateFault.TheVariants as template
use Rattle.pb_play.specs.declared.fault.Offence.{Offence}
use Rattle.pb_play.specs.declared.fault.PlayFault.{PlayFault}
use Rattle.pb_play.specs.declared.fault.PlayFault.TheVariants.{Refused, NoMemory}

abbrev pub offence_view : Offence → language.Offence
offence_view o = record { line = o.line; code = number_of o.code }

-- its offence, or it is want of memory
abbrev pub offence_of : {D : Type 0} → PlayFault → Option (Result D language.Offence)
offence_of (Refused o) = Some (Err (offence_view o))
offence_of NoMemory = None

abbrev pub refusal : ℕ → Code → PlayFault
refusal l c = Refused (record { line = l; code = c })

abbrev pub from_task : ℕ → TaskFault → PlayFault
from_task l (task.Refused c) = refusal l c
from_task l task.NoMemory = NoMemory

abbrev pub from_template : ℕ → TemplateFault → PlayFault
from_template l template.Unreadable = refusal l Expression
from_template l template.NoMemory = NoMemory
