use Rattle.std.proofs.Common.{[], ◌∷◌, ◌++◌, ◌+◌, drop, map, Some, sym, ap, ◌∙◌}
use Rattle.std.proofs.lemmas.List.{drop_all, map_push}
use Rattle.pb_language.specs.Start.{eval_item, plan_items, with_local_item}
use Rattle.pb_value.specs.View.{view, items_view}
use Rattle.pb_syntax.proofs.Left.{drop-at}
use Rattle.pb_start.specs.Passes.{pass_view, entry_view}
use Rattle.pb_start.proofs.Passed.{after_passes, passes-step, passes-done}
use Rattle.pb_start.proofs.passes.passes_of.Goals as goal

pub loop-item-preserved : goal.loop-item-preserved
loop-item-preserved g c = λ t d qs h.
    let w = g.V.Vars.world c.args.vars.now in
    let xs = c.args.items.now in
    let i = c.loop-item.item-index in
    let x = c.item-item.result in
    let rest = plan_items w t (items_view (drop (i + 1) xs)) in
    let done = map pass_view c.loop-item.passes.items in
    let here = ap (λ ys. after_passes done (plan_items w t (items_view ys))) (drop-at xs i x c.loop-item-test.true c.item-item.is) in
    let step = passes-step done (Some (view x)) (eval_item (with_local_item w (Some (view x))) t) c.in_ok-entry.entry rest qs (c.in_ok-entry.ensures t d) (sym here ∙ c.loop-item.invariant t d qs h) in
    ap (λ ps. after_passes (map pass_view ps) rest) c.in_ok-push.ensures.items
    ∙ ap (λ ps. after_passes ps rest) (map_push pass_view c.loop-item.passes.items (record { item = Some c.in_ok-clone.field-0; entry = c.in_ok-entry.entry }))
    ∙ ap (λ v. after_passes (done ++ record { item = Some v; entry = entry_view c.in_ok-entry.entry } ∷ []) rest) c.in_ok-clone.ensures.cases ∙ step

pub returns : goal.returns
returns g c = λ t d qs h.
    let w = g.V.Vars.world c.args.vars.now in
    passes-done (map pass_view c.loop-item.passes.items) qs
    (sym (ap (λ ys. after_passes (map pass_view c.loop-item.passes.items) (plan_items w t (items_view ys))) (drop_all c.loop-item.item-index c.args.items.now c.loop-item-test.false)) ∙ c.loop-item.invariant t d qs h)
