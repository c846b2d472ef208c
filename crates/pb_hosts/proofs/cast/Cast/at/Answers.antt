use Rattle.std.proofs.Common.{◌∙◌, ◌<◌, ap, length, subst, sym, true}
use Rattle.std.specs.List.{All}
use Rattle.pb_semantics.specs.Kind.{spot}
use Rattle.pb_language.specs.Setting.{host_list}
use Rattle.pb_inventory.specs.Graph.{is_in}
use Rattle.pb_inventory.specs.Inventory.{inventory_view}
use Rattle.pb_inventory.specs.Patterns.{names_at}
use Rattle.pb_kind.specs.KindView.{is_always, kind_view}
use Rattle.pb_hosts.specs.Tables.{host_names}
use Rattle.pb_hosts.proofs.Sames.{spot_same}
use Rattle.pb_hosts.proofs.cast.Cast.at.Goals as goal

pub flags_at-requires : goal.flags_at-requires
flags_at-requires c =
    subst (λ n. All (λ p. p < n) c.deref-2.result.now) (sym c.hosts.ensures)
    (subst (λ ps. All (λ p. p < length (inventory_view c.args.inventory.now).hosts) ps) (sym c.deref-2.ensures.value) c.requires)

pub invariant_of-result : goal.invariant_of-result
invariant_of-result c =
    let names = host_names (inventory_view c.args.inventory.now) in
    let batch = c.always-batch.result in
    record {
      placed = c.requires;
      listed = spot_same _ (spot true (host_list (names_at names c.args.places.items)))
          (ap (λ b. spot b (kind_view batch.kind)) (ap is_always c.always-batch.ensures.presence)
          ∙ ap (spot true) (ap kind_view c.always-batch.ensures.kind ∙ c.in_ok-hosts_list.ensures ∙ ap (λ ps. host_list (names_at names ps)) c.deref.ensures.value));
      count = c.in_ok-flags.ensures.count ∙ c.hosts.ensures;
      flagged = λ k within. c.in_ok-flags.ensures.each k within ∙ ap (is_in k) c.deref-2.ensures.value;
    }
