use Rattle.std.proofs.Common.{◌≡◌, ◌∙◌, ◌+◌, ◌-◌, ◌<◌, length, map, take, None, Some, sym, ap, subst, arith}
use Rattle.pb_semantics.specs.Data.{field_value}
use Rattle.pb_facts.specs.Variables.{or_else}
use Rattle.pb_inventory.specs.Views.{layered}
use Rattle.pb_value.specs.View.{fields_view, view}
use Rattle.pb_world.specs.Layers.{AreOnce}
use Rattle.pb_world.proofs.Layers.{at-layers}
use Rattle.pb_world.proofs.variables.value_given.Goals as goal

pub returns-in-Some : goal.returns-in-Some
returns-in-Some c =
    let n = c.args.name.now in
    let ls = c.args.layers.now in
    let x = c.index-layers-index.result in
    let j = c.loop-index.index - 1 in
    let rest = field_value n (layered (map (λ l. fields_view l.value.entries) (take j ls))) in
    let up : c.loop-index.index ≡ j + 1 = omega arith in
    let lt : j < length ls = omega arith in
    let here : Some (view c.in-Some.value.now) ≡ field_value n (fields_view x.value.entries) = c.in-Some.ensures.value ∙ ap (λ m. field_value n (fields_view m.entries)) c.deref.ensures in
    let once = subst (λ y. AreOnce (fields_view y.value.entries)) c.index-layers-index.is (subst (λ m. AreOnce (fields_view m.entries)) c.deref.ensures c.in-Some.ensures.once) in
    sym (c.loop-index.invariant ∙ ap (λ i. field_value n (layered (map (λ l. fields_view l.value.entries) (take i ls)))) up ∙ at-layers (λ l. fields_view l.value.entries) n ls j x lt once
    ∙ ap (λ y. or_else (field_value n (fields_view y.value.entries)) rest) (sym c.index-layers-index.is) ∙ ap (λ o. or_else o rest) (sym here))

pub loop-index-preserved : goal.loop-index-preserved
loop-index-preserved c =
    let n = c.args.name.now in
    let ls = c.args.layers.now in
    let x = c.index-layers-index.result in
    let j = c.loop-index.index - 1 in
    let rest = field_value n (layered (map (λ l. fields_view l.value.entries) (take j ls))) in
    let up : c.loop-index.index ≡ j + 1 = omega arith in
    let lt : j < length ls = omega arith in
    let none : None ≡ field_value n (fields_view x.value.entries) = c.in_default.ensures.value ∙ ap (λ m. field_value n (fields_view m.entries)) c.deref.ensures in
    let once = subst (λ y. AreOnce (fields_view y.value.entries)) c.index-layers-index.is (subst (λ m. AreOnce (fields_view m.entries)) c.deref.ensures c.in_default.ensures.once) in
    c.loop-index.invariant ∙ ap (λ i. field_value n (layered (map (λ l. fields_view l.value.entries) (take i ls)))) up ∙ at-layers (λ l. fields_view l.value.entries) n ls j x lt once
    ∙ ap (λ y. or_else (field_value n (fields_view y.value.entries)) rest) (sym c.index-layers-index.is) ∙ ap (λ o. or_else o rest) (sym none)
