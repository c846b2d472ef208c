use Rattle.pb_inventory.specs.Inventory.{bases_view}
use Rattle.pb_inventory.specs.Views.{base_at}
use Rattle.pb_kind.specs.KindView.{slots_view}
use Rattle.pb_hosts.proofs.Sharing.{base_known}
use Rattle.pb_hosts.proofs.given.known_base.Goals as goal

pub returns : goal.returns
returns c =
    let m = c.loop-layer in
    base_known c.layers_of-layer-items.result.now m.layer-index (slots_view m.known.entries) (base_at (bases_view c.args.inventory.now) c.args.base) c.loop-layer-test.false m.invariant c.layers_of-layer-items.ensures
