use Rattle.std.proofs.Common.{◌≡◌, ◌∙◌, ◌<◌, BTreeMap, String, Global, length, map, take, sym, ap, true, false, string_bytes, arith}
use Rattle.std.specs.declared.sync.Arc.{Arc}
use Rattle.std.proofs.lemmas.List.{length-map, length-set, map-set}
use Rattle.pb_semantics.specs.Keeps.{is_among}
use Rattle.pb_value.specs.View.{fields_view}
use Rattle.pb_value.specs.declared.value.Value.{Value}
use Rattle.pb_inventory.specs.Documents.{key_names, written_view}
use Rattle.pb_inventory.specs.HostGroups.{layer_views}
use Rattle.pb_inventory.specs.Numbered.{are_apart, name_of, written_names}
use Rattle.pb_inventory.proofs.Apart.{group_names-apart}
use Rattle.pb_inventory.proofs.Groups.{group_name-at, taken-more, new-at}
use Rattle.pb_inventory.proofs.Owned.{layers-more}
use Rattle.pb_inventory.proofs.group_layers.group_layers.Goals as goal

pub place_of-number-requires : goal.place_of-number-requires
place_of-number-requires c =
    let g = c.group-item.result in
    record {
      known = ap (λ n. is_among n (key_names c.args.names.now.keys)) (c.as_str.ensures.value ∙ ap (λ s. string_bytes s) c.deref.ensures) ∙ ap (is_among (string_bytes g.name.value)) c.requires.names
          ∙ group_name-at c.args.groups.now c.loop-group.group-index g c.loop-group-test.true c.group-item.is;
    }

pub loop-group-preserved : goal.loop-group-preserved
loop-group-preserved c =
    let l = c.loop-group in
    let gs = c.args.groups.now in
    let i = l.group-index in
    let g = c.group-item.result in
    let lt = c.loop-group-test.true in
    let is = c.group-item.is in
    let ns = key_names c.args.names.now.keys in
    let k = c.place_of-number.result in
    let layer = c.in_ok-layers-2.field-0 in
    let size : length ns ≡ length c.args.names.now.keys = length-map c.args.names.now.keys (λ k. string_bytes k) in
    let apart : are_apart ns ≡ true = ap are_apart c.requires.names ∙ group_names-apart (map written_view gs) in
    let name : name_of ns k ≡ string_bytes g.name.value = c.place_of-number.ensures.named ∙ c.as_str.ensures.value ∙ ap (λ s. string_bytes s) c.deref.ensures in
    let new : is_among (string_bytes g.name.value) (written_names (map written_view (take i gs))) ≡ false = new-at gs i g lt is c.requires.apart in
    let few : k < length ns = omega (arith, c.place_of-number.ensures.within, size) in
    record {
      count = length-set l.layers.items k layer ∙ l.invariant.count;
      layers = rw (map-set (λ (x : Arc (BTreeMap (String Global) Value) Global). fields_view x.value.entries) l.layers.items k layer, taken-more written_view gs i g lt is)
          (layers-more ns (layer_views l.layers.items) (map written_view (take i gs)) (written_view g) k (fields_view layer.value.entries) apart
          (length-map l.layers.items (λ (x : Arc (BTreeMap (String Global) Value) Global). fields_view x.value.entries) ∙ l.invariant.count ∙ sym size) few name new c.in_ok-layers-2.ensures l.invariant.layers);
    }
