use Rattle.std.proofs.Common.{◌≡◌, ◌||◌, drop}
use Rattle.pb_semantics.specs.Keeps.{is_among}
use Rattle.pb_language.specs.Expression.{Name}
use Rattle.pb_language.specs.Plays.{is_host}
use Rattle.pb_inventory.specs.Inventory.{inventory_view}
use Rattle.pb_rules.specs.Names.{names_in}
use Rattle.pb_rules.proofs.known.IsKnown.of.Given as goal

abbrev pub invariant-loop-host : goal.invariant-loop-host
invariant-loop-host l = (n : Name) → (is_among n (names_in l.hosts) || is_host n (drop l.host (inventory_view l.inventory).hosts)) ≡ is_host n (inventory_view l.inventory).hosts
