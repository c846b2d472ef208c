use Rattle.std.proofs.Common.{◌≡◌, length, map, take}
use Rattle.pb_inventory.specs.Documents.{key_names, written_view}
use Rattle.pb_inventory.specs.HostGroups.{layer_views}
use Rattle.pb_inventory.proofs.Owned.{HasLayers}
use Rattle.pb_inventory.proofs.group_layers.group_layers.Given as goal

abbrev pub invariant-loop-group : goal.invariant-loop-group
invariant-loop-group l = record {
  count : length l.layers.items ≡ length l.names.keys;
  layers : HasLayers (key_names l.names.keys) (layer_views l.layers.items) (map written_view (take l.group-index l.groups));
}
