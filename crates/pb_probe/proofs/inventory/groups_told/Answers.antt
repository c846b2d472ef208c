use Rattle.std.proofs.Common.{◌≡◌, ◌∙◌, ◌∷◌, ℕ, Global, String, Vec, fold, length, map, nat_lt, string_bytes, sym, ap}
use Rattle.std.specs.List.{list_all}
use Rattle.pb_semantics.specs.Data.{list, put_field}
use Rattle.pb_semantics.proofs.Bools.{and-right}
use Rattle.pb_language.specs.Setting.{names_list}
use Rattle.pb_value.specs.View.{fields_view, view}
use Rattle.pb_inventory.specs.Inventory.{inventory_view}
use Rattle.pb_inventory.specs.Views.{are_placed, group_view}
use Rattle.pb_probe.specs.Told.{names_at, with_group}
use Rattle.pb_probe.proofs.inventory.groups_told.Goals as goal

pub loop-name-preserved : goal.loop-name-preserved
loop-name-preserved c =
    let l = c.loop-name in
    let e : String Global × Vec ℕ Global = (c.in-Some.name.now, c.in-Some.places.now) in
    let left = c.next.new.self in
    let hs = (inventory_view c.args.inventory.now).hosts in
    let limit = length hs in
    let shown = group_view (map (λ h. h.name) hs) in
    let so_far = fields_view l.told.entries in
    let step : l.name-iterator ≡ e ∷ left = c.in-Some.ensures.steps in
    let value : view c.in_ok-of_items.field-0 ≡ list (names_list (names_at hs e.1.items)) = c.in_ok-of_items.ensures ∙ ap list (c.in_ok-members.ensures ∙ ap (λ ps. names_list (names_at hs ps)) c.deref.ensures.value) in
    let put : fields_view c.put_field.new.fields.entries ≡ with_group so_far (shown e) =
    c.in_ok-put_field.ensures ∙ ap (λ n. put_field n (view c.in_ok-of_items.field-0) so_far) c.in_ok-clone.ensures.cases ∙ ap (λ d. put_field (string_bytes e.0) d so_far) value in
    record {
      placed = and-right (list_all (λ i. nat_lt i limit) e.1.items) (are_placed limit left) (ap (are_placed limit) (sym step) ∙ l.invariant.placed);
      told = ap (λ fs. fold with_group fs (map shown left)) put ∙ ap (λ es. fold with_group so_far (map shown es)) (sym step) ∙ l.invariant.told;
    }
