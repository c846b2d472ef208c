use Rattle.std.proofs.Common.{List, ap, length, subst, sym, ◌∙◌}
use Rattle.std.proofs.lemmas.List.{length-map}
use Rattle.pb_language.specs.Scope.{View}
use Rattle.pb_language.specs.Wells.{WellViews}
use Rattle.pb_inventory.specs.Inventory.{inventory_view}
use Rattle.pb_kind.specs.KindView.{slots_view}
use Rattle.pb_hosts.specs.Tables.{host_names, slots_of_each, views_from}
use Rattle.pb_hosts.proofs.views.Views.copy.Goals as goal

pub invariant_of-result : goal.invariant_of-result
invariant_of-result c =
    let v = c.args.self.now in
    let same = c.in_ok-hosts.ensures ∙ ap slots_of_each c.deref.ensures.value in
    let few = length-map v.hosts.items (λ m. slots_view m.value.entries) in
    let more = length-map c.in_ok-hosts.hosts.items (λ m. slots_view m.value.entries) in
    record {
      each = sym more ∙ ap length same ∙ few ∙ v.each;
      well = subst (λ (vs : List View). WellViews vs) (sym (ap (views_from (host_names (inventory_view v.inventory.now))) same)) v.well;
    }

pub returns-clause-views : goal.returns-clause-views
returns-clause-views c = ap (views_from (host_names (inventory_view c.args.self.now.inventory.now))) (c.in_ok-hosts.ensures ∙ ap slots_of_each c.deref.ensures.value)
