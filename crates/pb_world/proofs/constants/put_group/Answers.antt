use Rattle.std.proofs.Common.{◌≡◌, ◌∙◌, ◌<◌, ℕ, List, ap, length, string_bytes, subst, sym}
use Rattle.std.specs.List.{All}
use Rattle.std.proofs.lemmas.List.{length-map}
use Rattle.std.proofs.lemmas.Result.{on_ok_weaker}
use Rattle.pb_semantics.specs.Data.{list, put_field, text}
use Rattle.pb_language.specs.Setting.{names_list}
use Rattle.pb_inventory.specs.Inventory.{inventory_view}
use Rattle.pb_inventory.specs.Numbered.{named}
use Rattle.pb_value.specs.View.{fields_view, view}
use Rattle.pb_world.specs.Hosts.{names_of_hosts}
use Rattle.pb_world.proofs.GroupFields.{group-put, placed-at}
use Rattle.pb_world.proofs.constants.put_group.Goals as goal

pub names_of-requires : goal.names_of-requires
names_of-requires c =
    let hs = (inventory_view c.args.inventory.now).hosts in
    let count : length c.args.hosts.now ≡ length hs =
    sym (length-map c.args.hosts.now (λ h. view h.name)) ∙ ap length c.requires.names ∙ length-map (names_of_hosts hs) text ∙ length-map hs (λ h. h.name) in
    let placed = placed-at (length hs) c.groups.result.now.entries c.args.group (c.in-Some.name.now, c.in-Some.members.now) c.groups.ensures.placed c.in-Some.ensures.entry in
    subst (λ (ps : List ℕ). All (λ p. p < length c.args.hosts.now) ps) (sym c.as_slice.ensures.value) (subst (λ n. All (λ p. p < n) c.in-Some.members.now.items) (sym count) placed)

pub returns : goal.returns
returns c =
    let hs = names_of_hosts (inventory_view c.args.inventory.now).hosts in
    let fs = fields_view c.args.fields.now.entries in
    let n = string_bytes c.in-Some.name.now in
    let value = c.in_ok-list-in-Some.ensures hs c.requires.names ∙ ap (λ ps. list (names_list (named hs ps))) c.as_slice.ensures.value in
    on_ok_weaker c.put_field.result
    (λ put. group-put hs c.groups.result.now.entries (inventory_view c.args.inventory.now).groups c.args.group (c.in-Some.name.now, c.in-Some.members.now) fs _ c.groups.ensures.groups c.in-Some.ensures.entry
    (put ∙ ap (λ m. put_field m (view c.in_ok-list-in-Some.list) fs) c.in_ok-clone-in-Some.ensures.cases ∙ ap (λ d. put_field n d fs) value))
    c.put_field.ensures
