use Rattle.std.proofs.Common.{◌≡◌, All, length, map, take}
use Rattle.pb_language.specs.Kinds.{known_slots}
use Rattle.pb_inventory.specs.Inventory.{inventory_view}
use Rattle.pb_hosts.specs.Given.{IsFirst, IsGiven, slots_given}
use Rattle.pb_hosts.proofs.given.known_of_each.Given as goal

abbrev pub invariant-loop-host : goal.invariant-loop-host
invariant-loop-host l =
    (slots_given l.given.items ≡ map (λ h. known_slots h.variables) (take l.host (inventory_view l.inventory).hosts))
    × All (IsGiven l.inventory) l.given.items
    × All (IsFirst (slots_given l.given.items)) l.given.items
    × (l.host ≡ length l.given.items)
