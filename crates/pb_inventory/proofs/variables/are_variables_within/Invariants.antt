use Rattle.std.proofs.Common.{◌≡◌}
use Rattle.pb_language.specs.Inventories.{are_variables_within}
use Rattle.pb_value.specs.View.{fields_view}
use Rattle.pb_inventory.proofs.variables.are_variables_within.Given as goal

abbrev pub invariant-loop-name : goal.invariant-loop-name
invariant-loop-name l = are_variables_within (fields_view l.fields.entries) ≡ are_variables_within (fields_view l.name-iterator)
