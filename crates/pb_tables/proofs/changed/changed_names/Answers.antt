use Rattle.std.proofs.Common.{◌≡◌, ◌∙◌, ◌≤◌, length, sym, subst, ap, arith}
use Rattle.std.proofs.lemmas.List.{length-map}
use Rattle.pb_semantics.specs.Keeps.{is_among}
use Rattle.pb_others.specs.Others.{DifferIn}
use Rattle.pb_inventory.specs.Inventory.{inventory_view}
use Rattle.pb_kind.specs.KindView.{slots_view}
use Rattle.pb_rules.specs.Names.{names_in}
use Rattle.pb_hosts.specs.Shown.{views_view}
use Rattle.pb_hosts.specs.Tables.{host_names, slots_of_each, views_from}
use Rattle.pb_tables.proofs.Changing.{SameTo, not_either, same_hosts, same_more, same_slots}
use Rattle.pb_tables.proofs.changed.changed_names.Goals as goal

pub loop-host-preserved : goal.loop-host-preserved
loop-host-preserved c = λ x none.
    let l = c.loop-host in
    let before = not_either (is_among x (names_in l.names)) (is_among x (names_in c.add_changed.new.names)) (c.in_ok-add_changed.ensures.kept x) none in
    same_more x l.host (views_view c.args.before.now) (views_view c.args.after.now) (slots_view c.slots.result.now.entries) (slots_view c.slots-in-loop-host.result.now.entries) c.slots.ensures.slots c.slots-in-loop-host.ensures.slots
    (c.in_ok-add_changed.ensures.told x none) (l.invariant x before)

pub returns : goal.returns
returns c =
    let l = c.loop-host in
    let before = c.args.before.now in
    let after = c.args.after.now in
    let xs = (inventory_view before.inventory.now).hosts in
    let ys = (inventory_view after.inventory.now).hosts in
    let hs = host_names (inventory_view before.inventory.now) in
    let ss = slots_of_each before.hosts.items in
    let ts = slots_of_each after.hosts.items in
    let size = length-map xs (λ h. h.name) in
    let moved = ap (λ i. host_names (inventory_view i.now)) c.requires in
    let turned : views_from hs ts ≡ views_view after = ap (λ ns. views_from ns ts) (sym moved) in
    let few : length ss ≡ length hs = length-map before.hosts.items (λ m. slots_view m.value.entries) ∙ before.each ∙ sym size in
    let fit : length ts ≡ length hs = length-map after.hosts.items (λ m. slots_view m.value.entries) ∙ after.each ∙ sym (length-map ys (λ h. h.name)) ∙ ap length moved in
    let past : length hs ≤ l.host = omega (arith, size, c.hosts-host-end.ensures, c.loop-host-test.false) in
    subst (DifferIn (names_in l.names) (views_view before)) turned (record {
      hosts = λ g. same_hosts hs ss ts g few fit;
      slots = λ g x none. same_slots x hs ss ts g few fit (λ p lt. subst (SameTo x l.host (views_view before)) (sym turned) (l.invariant x none) p (omega (arith, lt, past)));
    })
