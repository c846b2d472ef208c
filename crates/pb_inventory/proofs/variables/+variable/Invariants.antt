use Rattle.std.proofs.Common.{◌≡◌, ◌++◌, List, map, take}
use Rattle.pb_language.specs.Inventories.{items_of, variable_of}
use Rattle.pb_value.proofs.Fields.{Entry}
use Rattle.pb_value.specs.View.{view, items_view, fields_of, fields_view}
use Rattle.pb_inventory.proofs.variables.+variable.Given as goal

abbrev pub invariant-items_of-loop-item : goal.invariant-items_of-loop-item
invariant-items_of-loop-item l = items_view l.found.items ≡ items_of (items_view (take l.item-index l.items))

abbrev pub invariant-fields_of-loop-name : goal.invariant-fields_of-loop-name
invariant-fields_of-loop-name l =
    (done : List Entry) × (l.fields.entries ≡ done ++ l.name-iterator) × (fields_view l.found.entries ≡ fields_of (map (λ m. (m.0, variable_of (view m.1))) done))
