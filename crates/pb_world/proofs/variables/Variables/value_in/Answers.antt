use Rattle.std.proofs.Common.{◌≡◌, ◌∙◌, map, get_or, None, Some, option_map, sym, ap}
use Rattle.std.specs.Prelude.{unwrap_or}
use Rattle.std.proofs.Math.ListN.{get_or-map}
use Rattle.pb_semantics.specs.Data.{field_value, no_fields}
use Rattle.pb_facts.specs.Facts.{row_of}
use Rattle.pb_facts.specs.Variables.{or_else}
use Rattle.pb_inventory.specs.Inventory.{inventory_view}
use Rattle.pb_slots.specs.Words.{names_of_slots}
use Rattle.pb_value.specs.View.{view}
use Rattle.pb_world.specs.Variables.{given_variables}
use Rattle.pb_world.proofs.InSlots.{read-slot}
use Rattle.pb_world.proofs.variables.Variables.value_in.Goals as goal

pub returns-in-Some : goal.returns-in-Some
returns-in-Some c =
    let v = c.args.self.now in
    let n = c.args.name.now in
    let base = given_variables (inventory_view v.inventory.now).hosts c.args.host in
    let row = row_of v.facts.now c.args.host in
    let there : get_or (map (option_map view) row) c.args.slot None ≡ Some (view c.in-Some.value.now) = get_or-map (option_map view) row c.args.slot None ∙ ap (option_map view) (sym c.in-Some.ensures) in
    sym (read-slot c.slots_are_variables.ensures.read base (names_of_slots v.slots.now) (map (option_map view) row) n c.args.slot v.slots.now.ascending c.requires.slot ∙ ap (λ o. or_else o (field_value n base)) there)

pub returns-in-None : goal.returns-in-None
returns-in-None c =
    let v = c.args.self.now in
    let n = c.args.name.now in
    let base = given_variables (inventory_view v.inventory.now).hosts c.args.host in
    let row = row_of v.facts.now c.args.host in
    let none : get_or (map (option_map view) row) c.args.slot None ≡ None = get_or-map (option_map view) row c.args.slot None ∙ ap (option_map view) (sym c.in-None.ensures) in
    c.value_given.ensures ∙ sym (read-slot c.slots_are_variables.ensures.read base (names_of_slots v.slots.now) (map (option_map view) row) n c.args.slot v.slots.now.ascending c.requires.slot
    ∙ ap (λ o. or_else o (field_value n base)) none ∙ ap (λ o. field_value n (unwrap_or o no_fields)) c.vars_of.ensures)
