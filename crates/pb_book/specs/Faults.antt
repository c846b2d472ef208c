-- What a fault of a book tells, and which fault of a book a fault of its JSON or of its plays is.
use Rattle.std.specs.Prelude.{Option, Some, None, Result, Err}
use Rattle.pb_language.specs.BookForm as language
use Rattle.pb_value.specs.declared.read.JsonFault.{JsonFault}
use Rattle.pb_value.specs.declared.read.JsonFault.TheVariants as json
use Rattle.pb_task.specs.declared.fault.Code.TheVariants.{Limit}
use Rattle.pb_play.specs.Faults.{offence_view}
use Rattle.pb_play.specs.declared.fault.PlayFault.{PlayFault}
use Rattle.pb_play.specs.declared.fault.PlayFault.TheVariants as plays
use Rattle.pb_book.specs.Reading.{of_file}
use Rattle.pb_book.specs.declared.fault.BookFault.{BookFault}
use Rattle.pb_book.specs.declared.fault.BookFault.TheVariants.{NotJson, Refused, NoMemory}

abbrev pub from_json : JsonFault → BookFault
from_json json.NotJson = NotJson
from_json json.NoMemory = NoMemory

abbrev pub from_plays : PlayFault → BookFault
from_plays (plays.Refused o) = Refused o
from_plays plays.NoMemory = NoMemory

-- a file of too many bytes
abbrev pub too_large : BookFault
too_large = Refused (record { line = 0; code = Limit })

-- its offence, or it is want of memory
abbrev pub offence_of : {D : Type 0} → BookFault → Option (Result D language.Offence)
offence_of NotJson = Some (Err (of_file 1))
offence_of (Refused o) = Some (Err (offence_view o))
offence_of NoMemory = None
