use Rattle.std.proofs.lemmas.List.Elements.{All-map}
use Rattle.pb_semantics.specs.Kind.{Slots, recs}
use Rattle.pb_semantics.specs.Well.{Well}
use Rattle.pb_kind.specs.KindView.{slots_view}
use Rattle.pb_inventory.specs.Inventory.{inventory_view}
use Rattle.pb_hosts.specs.Tables.{host_names, slots_of_each}
use Rattle.pb_hosts.proofs.Places.{views_well}
use Rattle.pb_hosts.proofs.views.Views.of_hosts.Goals as goal

pub invariant_of-result : goal.invariant_of-result
invariant_of-result c = record {
  each = c.requires.each;
  well = views_well (host_names (inventory_view c.args.inventory.now)) (slots_of_each c.args.hosts.items) (All-map (λ (us : Slots). Well (recs us)) (λ m. slots_view m.value.entries) c.args.hosts.items c.requires.well);
}
