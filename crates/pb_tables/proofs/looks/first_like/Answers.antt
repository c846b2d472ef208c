use Rattle.std.proofs.Common.{slice_get}
use Rattle.pb_inventory.specs.Inventory.{inventory_view}
use Rattle.pb_tables.proofs.Playing.{own_look}
use Rattle.pb_tables.proofs.looks.first_like.Goals as goal

pub returns-else-first-host : goal.returns-else-first-host
returns-else-first-host c = λ ps x y scenes a b. own_look (inventory_view c.args.stage.now.inventory.now) ps (slice_get (inventory_view c.args.stage.now.inventory.now).hosts c.args.host) x y a b

pub returns-in-None : goal.returns-in-None
returns-in-None c = λ ps x y scenes a b. own_look (inventory_view c.args.stage.now.inventory.now) ps (slice_get (inventory_view c.args.stage.now.inventory.now).hosts c.args.host) x y a b
