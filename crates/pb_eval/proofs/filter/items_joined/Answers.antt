use Rattle.std.proofs.Common.{◌≡◌, [], ◌++◌, ◌+◌, drop, string_bytes, IfOk, rules, sym, ap, ◌∙◌, subst}
use Rattle.pb_semantics.specs.Data.{Data}
use Rattle.pb_semantics.specs.Render.{rendered}
use Rattle.pb_value.specs.View.{view, items_view}
use Rattle.pb_eval.specs.OwnWorld.{shown}
use Rattle.pb_syntax.proofs.Exprs.{view-Opaque}
use Rattle.pb_eval.proofs.MadeTexts.{after_text, led, joined-first, joined-turn, joined-spoilt, joined-done}
use Rattle.pb_eval.proofs.filter.items_joined.Goals as goal

pub loop-item-init : goal.loop-item-init
loop-item-init c =
    let items = items_view c.args.items.now in
    let between = c.args.between.now in
    (search rules, sym (ap (λ t. after_text t (led between [] items)) c.new-text.ensures.bytes ∙ joined-first between items))

pub loop-item-preserved : goal.loop-item-preserved
loop-item-preserved c =
    let items = c.args.items.now in
    let between = c.args.between.now in
    let i = c.loop-item.item-index in
    let text = string_bytes c.loop-item.text in
    let put = c.in_ok-append.ensures ∙ ap (λ t. t ++ rendered (view c.item-item.result)) c.in_ok-append_letters.ensures in (
      search rules,
      c.loop-item.invariant.1
          ∙ joined-turn between text c.loop-item.before.now items i c.item-item.result c.loop-item-test.true c.item-item.is (sym c.if-not-is_plain.ensures)
          ∙ ap (λ t. after_text t (led between between (items_view (drop (i + 1) items)))) (sym put),
    )

pub returns-then-not-is_plain : goal.returns-then-not-is_plain
returns-then-not-is_plain c =
    view-Opaque
    ∙ sym (ap shown c.loop-item.invariant.1
    ∙ joined-spoilt c.args.between.now (string_bytes c.loop-item.text) c.loop-item.before.now c.args.items.now c.loop-item.item-index c.item-item.result
    c.loop-item-test.true c.item-item.is (sym c.if-not-is_plain.ensures))

pub returns : goal.returns
returns c =
    subst (λ (d : Data). IfOk c.of_text.result (λ v. view v ≡ d))
    (sym (ap shown c.loop-item.invariant.1
    ∙ joined-done c.args.between.now (string_bytes c.loop-item.text) c.loop-item.before.now c.args.items.now c.loop-item.item-index c.loop-item-test.false))
    c.of_text.ensures
