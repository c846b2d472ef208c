-- The variables of a run's hosts.
use Rattle.std.specs.Prelude.{ℕ, List, map, option_map, slice_get, unwrap_or}
use Rattle.pb_semantics.specs.Data.{Fields, no_fields}
use Rattle.pb_language.specs.Expression.{Name}
use Rattle.pb_language.specs.World.{HostVariables}
use Rattle.pb_facts.specs.Facts.{Held, row_of}
use Rattle.pb_facts.specs.Variables.{variables_over}
use Rattle.pb_inventory.specs.Inventory.{inventory_view}
use Rattle.pb_slots.specs.Words.{names_of_slots}
use Rattle.pb_value.specs.View.{view}
use Rattle.pb_world.specs.declared.variables.Variables.{Variables}

-- those that a host has before anything is run
abbrev pub given_variables : List HostVariables → ℕ → Fields
given_variables hs k = unwrap_or (option_map (λ h. h.variables) (slice_get hs k)) no_fields

-- and over them what was set in its slots, which have those names
abbrev pub host_variables : List HostVariables → List Name → Held → ℕ → Fields
host_variables hs names held k =
    variables_over (given_variables hs k) names (map (option_map view) (row_of held k))

abbrev pub variables_at : Variables → ℕ → Fields
variables_at v k = host_variables (inventory_view v.inventory.now).hosts
    (names_of_slots v.slots.now) v.facts.now k
