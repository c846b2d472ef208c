-- Which fault of a file of answers a fault of its JSON is.
use Rattle.pb_value.specs.declared.read.JsonFault.{JsonFault}
use Rattle.pb_value.specs.declared.read.JsonFault.TheVariants as json
use Rattle.pb_runner.specs.declared.script.ScriptFault.{ScriptFault}
use Rattle.pb_runner.specs.declared.script.ScriptFault.TheVariants.{NotJson, NoMemory}

abbrev pub from_json : JsonFault → ScriptFault
from_json json.NotJson = NotJson
from_json json.NoMemory = NoMemory
