use Rattle.std.proofs.Common.{◌≡◌, [], get_or, map, take}
use Rattle.pb_semantics.specs.Data.{text}
use Rattle.pb_value.specs.View.{view}
use Rattle.pb_inventory.specs.Inventory.{inventory_view}
use Rattle.pb_probe.proofs.inventory.members_told.Given as goal

abbrev pub invariant-loop-place : goal.invariant-loop-place
invariant-loop-place l = map view l.names.items ≡ map (λ place. text (get_or (map (λ h. h.name) (inventory_view l.inventory).hosts) place [])) (take l.place-index l.places)
