use Rattle.std.proofs.Common.{◌≡◌, replicate}
use Rattle.pb_semantics.specs.Data.{no_fields}
use Rattle.pb_inventory.specs.HostGroups.{layer_views}
use Rattle.pb_inventory.proofs.group_layers.empty_layers.Given as goal

abbrev pub invariant-loop : goal.invariant-loop
invariant-loop l = layer_views l.layers.items ≡ replicate l.counter no_fields
