use Rattle.std.proofs.Common.{◌≡◌, drop}
use Rattle.pb_semantics.specs.Kind.{no_slots}
use Rattle.pb_kind.specs.KindView.{slots_view}
use Rattle.pb_inventory.specs.HostGroups.{layer_views}
use Rattle.pb_hosts.proofs.Layers.{with_layers}
use Rattle.pb_hosts.proofs.given.known_base.Given as goal

abbrev pub invariant-loop-layer : goal.invariant-loop-layer
invariant-loop-layer l =
    with_layers (slots_view l.known.entries) (layer_views (drop l.layer-index l.layer-items)) ≡ with_layers no_slots (layer_views l.layer-items)
