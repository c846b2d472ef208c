use Rattle.std.proofs.Common.{◌≡◌, ◌∙◌, ◌++◌, ◌∷◌, [], ℕ, get_or, map, take, sym, ap, ap₂, arith, take_all}
use Rattle.std.proofs.lemmas.List.{map_push, take_more}
use Rattle.pb_semantics.specs.Data.{Data, text}
use Rattle.pb_language.specs.Expression.{Name}
use Rattle.pb_value.specs.View.{view, items_of}
use Rattle.pb_inventory.specs.Inventory.{inventory_view}
use Rattle.pb_probe.proofs.Tellings.{items_of-names, named-at}
use Rattle.pb_probe.proofs.inventory.members_told.Goals as goal

pub returns : goal.returns
returns c =
    let hs = (inventory_view c.args.inventory.now).hosts in
    let all = take_all c.loop-place.place-index c.args.places.now (omega arith) in
    ap items_of (rw all at c.loop-place.invariant) ∙ items_of-names (λ place. get_or (map (λ h. h.name) hs) place []) c.args.places.now

pub loop-place-preserved : goal.loop-place-preserved
loop-place-preserved c =
    let l = c.loop-place in
    let hs = (inventory_view c.args.inventory.now).hosts in
    let ps = c.args.places.now in
    let name : ℕ → Name = λ place. get_or (map (λ h. h.name) hs) place [] in
    let told : ℕ → Data = λ place. text (name place) in
    let p = get_or ps l.place-index 0 in
    let here : name p ≡ c.host_name.result.now = named-at hs p c.host_name.result.now c.host_name.ensures in
    let same : view c.in_ok-of_text.field-0 ≡ told p = c.in_ok-of_text.ensures ∙ ap text (c.in_ok-name.ensures.ok ∙ sym here) in
    ap (map view) c.in_ok-push.ensures.items ∙ map_push view l.names.items c.in_ok-of_text.field-0
    ∙ ap₂ (λ vs v. vs ++ v ∷ []) l.invariant same
    ∙ sym (ap (map told) (take_more ps l.place-index 0 c.loop-place-test.true) ∙ map_push told (take l.place-index ps) p)
