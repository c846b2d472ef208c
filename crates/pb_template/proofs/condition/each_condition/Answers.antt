use Rattle.std.proofs.Common.{◌≡◌, ◌≤◌, ◌∙◌, ◌+◌, ◌++◌, ◌∷◌, [], List, Vec, Global, length, drop, ap, sym, arith}
use Rattle.std.proofs.lemmas.List.{at_drop_all}
use Rattle.pb_language.specs.Texts.{condition_in, each_condition, with_item}
use Rattle.pb_value.specs.View.{view, items_view}
use Rattle.pb_value.specs.declared.value.Value.{Value}
use Rattle.pb_syntax.specs.ExprView.{exprs_view}
use Rattle.pb_syntax.specs.declared.expr.Expr.{Expr}
use Rattle.pb_template.proofs.Built.{Gives-refused, items_before, items_before-none, items_before-all, items_before-push, values-next}
use Rattle.pb_template.proofs.condition.each_condition.Goals as goal

pub returns-in_err-condition_in : goal.returns-in_err-condition_in
returns-in_err-condition_in c =
    let l = c.loop-item in
    let vs = c.args.items.now in
    let v = c.item-item.result in
    let rest = each_condition (items_view (drop (l.item-index + 1) vs)) in
    let next = ap (λ xs. each_condition (items_view xs)) (values-next vs l.item-index v c.loop-item-test.true c.item-item.is) in
    Gives-refused (λ (parts : Vec Expr Global). exprs_view parts.items) _ _ (condition_in (view v)) (each_condition (items_view c.args.items.now)) c.from_residual-in_err-condition_in.ensures.1
    c.in_err-condition_in.ensures (λ none. l.invariant ∙ ap (items_before (exprs_view l.conditions.items)) (next ∙ ap (λ x. with_item x rest) none) ∙ items_before-none (exprs_view l.conditions.items))

pub loop-item-preserved : goal.loop-item-preserved
loop-item-preserved c =
    let l = c.loop-item in
    let vs = c.args.items.now in
    let rest = each_condition (items_view (drop (l.item-index + 1) vs)) in
    let all : c.push.new.self.items ≡ l.conditions.items ++ c.in_ok-condition_in.field-0 ∷ [] = c.in_ok-push.ensures.items in
    let next = ap (λ xs. each_condition (items_view xs)) (values-next vs l.item-index c.item-item.result c.loop-item-test.true c.item-item.is) in
    l.invariant ∙ ap (items_before (exprs_view l.conditions.items)) (next ∙ ap (λ x. with_item x rest) c.in_ok-condition_in.ensures)
    ∙ items_before-push l.conditions.items c.in_ok-condition_in.field-0 rest ∙ ap (λ (es : List Expr). items_before (exprs_view es) rest) (sym all)

pub returns : goal.returns
returns c =
    let l = c.loop-item in
    let vs = c.args.items.now in
    let over : length vs ≤ l.item-index = omega arith in
    l.invariant
    ∙ ap (items_before (exprs_view l.conditions.items)) (at_drop_all (λ (xs : List Value). each_condition (items_view xs)) vs l.item-index over) ∙ items_before-all (exprs_view l.conditions.items)
