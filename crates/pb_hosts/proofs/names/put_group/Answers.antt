use Rattle.std.proofs.Common.{◌∙◌, ◌<◌, ℕ, List, ap, length, string_bytes, subst, sym, true}
use Rattle.std.specs.List.{All}
use Rattle.std.proofs.lemmas.Result.{on_ok_weaker}
use Rattle.pb_semantics.specs.Kind.{put_slot}
use Rattle.pb_kind.specs.KindView.{is_always, kind_view, slots_view}
use Rattle.pb_language.specs.Setting.{host_list}
use Rattle.pb_inventory.specs.Inventory.{inventory_view}
use Rattle.pb_inventory.specs.Numbered.{named}
use Rattle.pb_hosts.specs.Tables.{host_names}
use Rattle.pb_hosts.proofs.Groups.{group_put, placed_at}
use Rattle.pb_hosts.proofs.names.put_group.Goals as goal

pub hosts_list-requires : goal.hosts_list-requires
hosts_list-requires c = record {
  placed = subst (λ (ps : List ℕ). All (λ p. p < length (inventory_view c.args.inventory.now).hosts) ps) (sym c.deref.ensures.value)
      (placed_at (length (inventory_view c.args.inventory.now).hosts) c.groups.result.now.entries c.args.group (c.in-Some.name.now, c.in-Some.places.now) c.groups.ensures.placed c.in-Some.ensures.entry);
}

pub returns : goal.returns
returns c =
    let hs = host_names (inventory_view c.args.inventory.now) in
    let ss = slots_view c.args.slots.now.entries in
    let n = string_bytes c.in-Some.name.now in
    let kind = c.in_ok-kind-in-Some.ensures ∙ ap (λ ps. host_list (named hs ps)) c.deref.ensures.value in
    on_ok_weaker c.put_slot.result
    (λ put. group_put hs c.groups.result.now.entries (inventory_view c.args.inventory.now).groups c.args.group (c.in-Some.name.now, c.in-Some.places.now) ss _ c.groups.ensures.groups c.in-Some.ensures.entry
    (put ∙ ap (λ m. put_slot m (is_always c.always.result.presence) (kind_view c.always.result.kind) ss) c.in_ok-clone-in-Some.ensures.cases
    ∙ ap (λ p. put_slot n (is_always p) (kind_view c.always.result.kind) ss) c.always.ensures.presence
    ∙ ap (λ k. put_slot n true k ss) (ap kind_view c.always.ensures.kind ∙ kind)))
    c.put_slot.ensures
