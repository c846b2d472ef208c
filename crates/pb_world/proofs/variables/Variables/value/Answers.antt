use Rattle.std.proofs.Common.{◌∙◌, map, option_map, sym, ap}
use Rattle.std.specs.Prelude.{unwrap_or}
use Rattle.pb_semantics.specs.Data.{field_value, no_fields}
use Rattle.pb_facts.specs.Facts.{row_of}
use Rattle.pb_inventory.specs.Inventory.{inventory_view}
use Rattle.pb_slots.specs.Words.{names_of_slots}
use Rattle.pb_value.specs.View.{view}
use Rattle.pb_world.specs.Variables.{given_variables}
use Rattle.pb_world.proofs.InSlots.{read-given, slot-found}
use Rattle.pb_world.proofs.variables.Variables.value.Goals as goal

pub value_in-requires-clause-slot : goal.value_in-requires-clause-slot
value_in-requires-clause-slot c = slot-found c.args.name.now (names_of_slots c.args.self.now.slots.now) c.in-Some.slot (sym c.slot.ensures ∙ c.in-Some.is)

pub returns-in-None : goal.returns-in-None
returns-in-None c =
    let v = c.args.self.now in
    let n = c.args.name.now in
    let base = given_variables (inventory_view v.inventory.now).hosts c.args.host in
    c.value_given.ensures ∙ sym (read-given c.slots_are_variables.ensures.read base (names_of_slots v.slots.now) (map (option_map view) (row_of v.facts.now c.args.host)) n v.slots.now.ascending (sym c.slot.ensures ∙ c.in-None.is)
    ∙ ap (λ o. field_value n (unwrap_or o no_fields)) c.vars_of.ensures)
