-- What a fault of an inventory says of the file, and the inventory that a text is.
use Rattle.std.specs.Prelude.{ℕ, List, length, nat_lt, cond, Option, Some, None, Result, Ok, Err}
use Rattle.pb_semantics.specs.Data.{Data}
use Rattle.pb_semantics.specs.Limits.{most_inventory_bytes}
use Rattle.pb_language.specs.Inventories.{Offence, wrong_form, wrong_host_name, cyclic, over_limit}
use Rattle.pb_language.specs.Inventories.{inventory_from}
use Rattle.pb_language.specs.Program as program
use Rattle.pb_value.specs.FromJson.{json_data}
use Rattle.pb_value.specs.declared.read.JsonFault.{JsonFault}
use Rattle.pb_value.specs.declared.read.JsonFault.TheVariants as json
use Rattle.pb_inventory.specs.declared.fault.InventoryFault.{InventoryFault}
use Rattle.pb_inventory.specs.declared.fault.InventoryFault.TheVariants.{NotJson, Form, HostName}
use Rattle.pb_inventory.specs.declared.fault.InventoryFault.TheVariants.{Cycle, Limit, NoMemory}

-- a file isn't JSON, or its value is no inventory
pub data FileOffence : Type 0 where
  not_json : FileOffence
  refused : Offence → FileOffence

abbrev pub from_json : JsonFault → InventoryFault
from_json json.NotJson = NotJson
from_json json.NoMemory = NoMemory

-- the offence of a file, none for want of memory
abbrev pub offence_of : {D : Type 0} → InventoryFault → Option (Result D FileOffence)
offence_of NotJson = Some (Err not_json)
offence_of Form = Some (Err (refused wrong_form))
offence_of HostName = Some (Err (refused wrong_host_name))
offence_of Cycle = Some (Err (refused cyclic))
offence_of Limit = Some (Err (refused over_limit))
offence_of NoMemory = None

abbrev pub of_file : {D : Type 0} → Result D Offence → Result D FileOffence
of_file (Ok d) = Ok d
of_file (Err o) = Err (refused o)

abbrev pub inventory_of_json : Option Data → Result program.Inventory FileOffence
inventory_of_json None = Err not_json
inventory_of_json (Some d) = of_file (inventory_from d)

-- the inventory that a text is; one that is too long isn't looked into
abbrev pub inventory_in : List ℕ → Result program.Inventory FileOffence
inventory_in bs = cond (nat_lt most_inventory_bytes (length bs)) (Err (refused over_limit))
    (inventory_of_json (json_data bs))
