use Rattle.std.proofs.Common.{◌≡◌, map, take}
use Rattle.pb_language.specs.Kinds.{known_slots}
use Rattle.pb_inventory.specs.Inventory.{bases_view}
use Rattle.pb_inventory.specs.Views.{layered}
use Rattle.pb_hosts.specs.Tables.{slots_of_each}
use Rattle.pb_hosts.proofs.given.known_bases.Given as goal

abbrev pub invariant-loop-base : goal.invariant-loop-base
invariant-loop-base l = slots_of_each l.bases.items ≡ map (λ ls. known_slots (layered ls)) (take l.base (bases_view l.inventory))
