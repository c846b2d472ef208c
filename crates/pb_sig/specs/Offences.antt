-- What a fault of signatures says of the file.
use Rattle.std.specs.Prelude.{Option, Some, None, Result, Err}
use Rattle.pb_semantics.specs.Kind.{Spot, nowhere}
use Rattle.pb_value.specs.declared.read.JsonFault.{JsonFault}
use Rattle.pb_value.specs.declared.read.JsonFault.TheVariants as json
use Rattle.pb_sig.specs.Signatures.{Offence, not_json, wrong_form, broken_law, taken_name}
use Rattle.pb_sig.specs.Signatures.{over_limit}
use Rattle.pb_sig.specs.declared.fault.FormFault.{FormFault}
use Rattle.pb_sig.specs.declared.fault.FormFault.TheVariants as form
use Rattle.pb_sig.specs.declared.fault.SignatureFault.{SignatureFault}
use Rattle.pb_sig.specs.declared.fault.SignatureFault.TheVariants.{NotJson, Form, Law, Taken}
use Rattle.pb_sig.specs.declared.fault.SignatureFault.TheVariants.{Limit, NoMemory}

abbrev pub from_json : JsonFault → SignatureFault
from_json json.NotJson = NotJson
from_json json.NoMemory = NoMemory

-- the offence, none for want of memory
abbrev pub offence_of : {D : Type 0} → SignatureFault → Option (Result D Offence)
offence_of NotJson = Some (Err not_json)
offence_of Form = Some (Err wrong_form)
offence_of Law = Some (Err broken_law)
offence_of Taken = Some (Err taken_name)
offence_of Limit = Some (Err over_limit)
offence_of NoMemory = None

abbrev pub from_form : FormFault → SignatureFault
from_form form.Form = Form
from_form form.NoMemory = NoMemory

-- there is nothing to be read, or it is want of memory
abbrev pub no_form : {D : Type 0} → FormFault → Option (Option D)
no_form form.Form = Some None
no_form form.NoMemory = None

abbrev pub no_spot : FormFault → Option Spot
no_spot form.Form = Some nowhere
no_spot form.NoMemory = None
