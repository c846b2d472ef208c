use Rattle.std.proofs.Common.{◌≡◌, true, false, Some, [], ◌∷◌, ◌++◌, map, drop, ◌+◌, string_bytes, String, Global, IfOk, sym, ap, ◌∙◌, subst, append_assoc}
use Rattle.std.proofs.lemmas.Result.{IfOk-weaker}
use Rattle.std.specs.List.Sorted.{IsStrictlySortedBy}
use Rattle.std.specs.Map.{keys_of}
use Rattle.std.specs.String.{string_cmp}
use Rattle.pb_semantics.specs.Data.{Data, field, no_fields}
use Rattle.pb_language.specs.Evaluation.{eval, eval_items, eval_parts, eval_text}
use Rattle.pb_language.specs.Expansion.{expanded, all_expanded, parts_expanded}
use Rattle.pb_value.specs.View.{view, items_view, fields_view, fields_of}
use Rattle.pb_value.proofs.Fields.{put_last}
use Rattle.pb_value.specs.Append.{append_fields}
use Rattle.pb_syntax.specs.ExprView.{comparison_view, expr_view, exprs_view, parts_view}
use Rattle.pb_eval.specs.OwnWorld.{shown}
use Rattle.pb_syntax.specs.declared.expr.Expr.{Expr}
use Rattle.pb_eval.proofs.Outcomes.{compared-by, joined-by, found-by, after_items, after_fields, fields-end}
use Rattle.pb_syntax.proofs.Exprs.{view-Bool, view-Opaque, view-And, view-Or, view-Compare, view-Join, view-In, view-List}
use Rattle.pb_eval.proofs.Turns.{all-turn, all-stops, all-spoilt, all-done, any-turn, any-stops, any-spoilt, any-done, list-turn, list-spoilt, list-done, record-turn, record-spoilt, fields-last}
use Rattle.pb_eval.proofs.MadeTexts.{after_text, concat-first, concat-turn, concat-spoilt, concat-done}
use Rattle.pb_eval.proofs.eval.+eval.Goals as goal

pub all_of-loop-operand-preserved : goal.all_of-loop-operand-preserved
all_of-loop-operand-preserved g t c =
    c.loop-operand.invariant
    ∙ all-turn (g.V.Vars.world c.args.vars.now) (g.V.Vars.trees c.args.vars.now) c.args.operands.now c.loop-operand.operand-index c.operand-item.result c.in_ok-found.found c.as_bool.result
    c.loop-operand-test.true c.operand-item.is c.in_ok-found.ensures c.as_bool.ensures (c.in-Some-true.is ∙ ap Some c.in-Some-true.field-0-test)

pub all_of-returns : goal.all_of-returns
all_of-returns g t c =
    let w = g.V.Vars.world c.args.vars.now in
    let f = g.V.Vars.trees c.args.vars.now in
    view-Bool true
    ∙ sym (ap shown c.loop-operand.invariant
    ∙ all-done w f c.args.operands.now c.loop-operand.operand-index c.loop-operand-test.false)

pub any_of-loop-operand-preserved : goal.any_of-loop-operand-preserved
any_of-loop-operand-preserved g t c =
    c.loop-operand.invariant
    ∙ any-turn (g.V.Vars.world c.args.vars.now) (g.V.Vars.trees c.args.vars.now) c.args.operands.now c.loop-operand.operand-index c.operand-item.result c.in_ok-found.found c.as_bool.result
    c.loop-operand-test.true c.operand-item.is c.in_ok-found.ensures c.as_bool.ensures (c.in-Some-false.is ∙ ap Some c.in-Some-false.field-0-test)

pub any_of-returns : goal.any_of-returns
any_of-returns g t c =
    let w = g.V.Vars.world c.args.vars.now in
    let f = g.V.Vars.trees c.args.vars.now in
    view-Bool false
    ∙ sym (ap shown c.loop-operand.invariant
    ∙ any-done w f c.args.operands.now c.loop-operand.operand-index c.loop-operand-test.false)

pub eval-returns-in_ok-pair_of-in-Compare : goal.eval-returns-in_ok-pair_of-in-Compare
eval-returns-in_ok-pair_of-in-Compare g t c =
    let w = g.V.Vars.world c.args.vars.now in
    let f = g.V.Vars.trees c.args.vars.now in
    let p = c.in-Compare in
    let r = c.in_ok-pair_of-in-Compare in
    rw (p.is, view-Compare p.comparison p.left p.right) (compared-by (comparison_view p.comparison) (view c.comparison_of.result) (view r.field-0.0) (view r.field-0.1)
    (eval w (expanded f (expr_view p.left.value))) (eval w (expanded f (expr_view p.right.value))) c.comparison_of.ensures
    (ap view r.ensures.left ∙ c.in_ok-left-in-Compare.ensures ∙ ap (λ e. shown (eval w (expanded f (expr_view e)))) c.deref-in-Compare.ensures)
    (r.ensures.right ∙ ap (λ e. shown (eval w (expanded f (expr_view e)))) c.deref-in-Compare-2.ensures))

pub eval-returns-in_ok-pair_of-in-Join : goal.eval-returns-in_ok-pair_of-in-Join
eval-returns-in_ok-pair_of-in-Join g t c =
    let w = g.V.Vars.world c.args.vars.now in
    let f = g.V.Vars.trees c.args.vars.now in
    let p = c.in-Join in
    let r = c.in_ok-pair_of-in-Join in
    rw (p.is, view-Join p.items p.between) (IfOk-weaker c.joined.result _ _ (λ v h. joined-by (view v) (view r.field-0.0) (view r.field-0.1)
    (eval w (expanded f (expr_view p.items.value))) (eval w (expanded f (expr_view p.between.value))) h
    (ap view r.ensures.left ∙ c.in_ok-items-in-Join.ensures ∙ ap (λ e. shown (eval w (expanded f (expr_view e)))) c.deref-in-Join.ensures)
    (r.ensures.right ∙ ap (λ e. shown (eval w (expanded f (expr_view e)))) c.deref-in-Join-2.ensures)) c.joined.ensures)

pub text_of-loop-part-init : goal.text_of-loop-part-init
text_of-loop-part-init g t c =
    let es = all_expanded (g.V.Vars.trees c.args.vars.now) (exprs_view c.args.parts.now) in
    let whole = eval_text (g.V.Vars.world c.args.vars.now) es in
    sym (ap (λ s. after_text s whole) c.new-text.ensures.bytes ∙ concat-first (g.V.Vars.world c.args.vars.now) es)

pub text_of-loop-part-preserved : goal.text_of-loop-part-preserved
text_of-loop-part-preserved g t c =
    let w = g.V.Vars.world c.args.vars.now in
    let f = g.V.Vars.trees c.args.vars.now in
    let parts = c.args.parts.now in
    let i = c.loop-part.part-index in
    c.loop-part.invariant
    ∙ concat-turn w f parts (string_bytes c.loop-part.text) i c.part-item.result c.in_ok-found.found c.loop-part-test.true c.part-item.is c.in_ok-found.ensures (sym c.if-not-is_plain.ensures)
    ∙ ap (λ t. after_text t (eval_text w (all_expanded f (exprs_view (drop (i + 1) parts))))) (sym c.in_ok-append.ensures)

pub text_of-returns : goal.text_of-returns
text_of-returns g t c =
    let w = g.V.Vars.world c.args.vars.now in
    let f = g.V.Vars.trees c.args.vars.now in
    subst (λ (d : Data). IfOk c.of_text.result (λ v. view v ≡ d))
    (sym (ap shown c.loop-part.invariant
    ∙ concat-done w f c.args.parts.now (string_bytes c.loop-part.text) c.loop-part.part-index c.loop-part-test.false))
    c.of_text.ensures

pub text_of-returns-then-not-is_plain : goal.text_of-returns-then-not-is_plain
text_of-returns-then-not-is_plain g t c =
    let w = g.V.Vars.world c.args.vars.now in
    let f = g.V.Vars.trees c.args.vars.now in
    view-Opaque
    ∙ sym (ap shown c.loop-part.invariant
    ∙ concat-spoilt w f c.args.parts.now (string_bytes c.loop-part.text) c.loop-part.part-index c.part-item.result c.in_ok-found.found
    c.loop-part-test.true c.part-item.is c.in_ok-found.ensures (sym c.if-not-is_plain.ensures))

pub eval-returns-in_ok-pair_of-in-In : goal.eval-returns-in_ok-pair_of-in-In
eval-returns-in_ok-pair_of-in-In g t c =
    let w = g.V.Vars.world c.args.vars.now in
    let f = g.V.Vars.trees c.args.vars.now in
    let p = c.in-In in
    let r = c.in_ok-pair_of-in-In in
    rw (p.is, view-In p.part p.whole) (found-by (view c.membership_of.result) (view r.field-0.0) (view r.field-0.1) (eval w (expanded f (expr_view p.part.value))) (eval w (expanded f (expr_view p.whole.value))) c.membership_of.ensures
    (ap view r.ensures.left ∙ c.in_ok-part-in-In.ensures ∙ ap (λ e. shown (eval w (expanded f (expr_view e)))) c.deref-in-In.ensures)
    (r.ensures.right ∙ ap (λ e. shown (eval w (expanded f (expr_view e)))) c.deref-in-In-2.ensures))

pub all_of-returns-in-Some-false : goal.all_of-returns-in-Some-false
all_of-returns-in-Some-false g t c =
    let w = g.V.Vars.world c.args.vars.now in
    let f = g.V.Vars.trees c.args.vars.now in
    view-Bool false
    ∙ sym (ap shown c.loop-operand.invariant
    ∙ all-stops w f c.args.operands.now c.loop-operand.operand-index c.operand-item.result c.in_ok-found.found c.as_bool.result
    c.loop-operand-test.true c.operand-item.is c.in_ok-found.ensures c.as_bool.ensures (c.in-Some-false.is ∙ ap Some c.in-Some-false.field-0-test))

pub all_of-returns-in-None : goal.all_of-returns-in-None
all_of-returns-in-None g t c =
    let w = g.V.Vars.world c.args.vars.now in
    let f = g.V.Vars.trees c.args.vars.now in
    view-Opaque
    ∙ sym (ap shown c.loop-operand.invariant
    ∙ all-spoilt w f c.args.operands.now c.loop-operand.operand-index c.operand-item.result c.in_ok-found.found c.as_bool.result
    c.loop-operand-test.true c.operand-item.is c.in_ok-found.ensures c.as_bool.ensures c.in-None.is)

pub any_of-returns-in-Some-true : goal.any_of-returns-in-Some-true
any_of-returns-in-Some-true g t c =
    let w = g.V.Vars.world c.args.vars.now in
    let f = g.V.Vars.trees c.args.vars.now in
    view-Bool true
    ∙ sym (ap shown c.loop-operand.invariant
    ∙ any-stops w f c.args.operands.now c.loop-operand.operand-index c.operand-item.result c.in_ok-found.found c.as_bool.result
    c.loop-operand-test.true c.operand-item.is c.in_ok-found.ensures c.as_bool.ensures (c.in-Some-true.is ∙ ap Some c.in-Some-true.field-0-test))

pub any_of-returns-in-None : goal.any_of-returns-in-None
any_of-returns-in-None g t c =
    let w = g.V.Vars.world c.args.vars.now in
    let f = g.V.Vars.trees c.args.vars.now in
    view-Opaque
    ∙ sym (ap shown c.loop-operand.invariant
    ∙ any-spoilt w f c.args.operands.now c.loop-operand.operand-index c.operand-item.result c.in_ok-found.found c.as_bool.result
    c.loop-operand-test.true c.operand-item.is c.in_ok-found.ensures c.as_bool.ensures c.in-None.is)

pub eval-returns-in-And : goal.eval-returns-in-And
eval-returns-in-And g t c = rw (c.in-And.is, view-And c.in-And.operands, ← c.deref-in-And.ensures.value) c.all_of.ensures

pub eval-returns-in-Or : goal.eval-returns-in-Or
eval-returns-in-Or g t c = rw (c.in-Or.is, view-Or c.in-Or.operands, ← c.deref-in-Or.ensures.value) c.any_of.ensures

pub eval-returns-in-List : goal.eval-returns-in-List
eval-returns-in-List g t c = rw (c.in-List.is, view-List c.in-List.items, ← c.deref-in-List.ensures.value) c.list_of.ensures

pub list_of-returns-in-None : goal.list_of-returns-in-None
list_of-returns-in-None g t c =
    let w = g.V.Vars.world c.args.vars.now in
    let f = g.V.Vars.trees c.args.vars.now in
    view-Opaque
    ∙ sym (ap shown c.loop-item.invariant
    ∙ list-spoilt w f c.args.items.now c.loop-item.values.items c.loop-item.item-index c.item-item.result c.in_ok-found.found
    c.loop-item-test.true c.item-item.is c.in_ok-found.ensures c.in-None.ensures)

pub list_of-loop-item-preserved : goal.list_of-loop-item-preserved
list_of-loop-item-preserved g t c =
    let w = g.V.Vars.world c.args.vars.now in
    let f = g.V.Vars.trees c.args.vars.now in
    let items = c.args.items.now in
    c.loop-item.invariant
    ∙ list-turn w f items c.loop-item.values.items c.loop-item.item-index c.item-item.result c.in-Some.found
    c.loop-item-test.true c.item-item.is (c.in-Some.ensures.0 ∙ c.in_ok-found.ensures) c.in-Some.ensures.1
    ∙ ap (λ vs. after_items (items_view vs) (eval_items w (all_expanded f (exprs_view (drop (c.loop-item.item-index + 1) items))))) (sym c.in_ok-push-in-Some.ensures.items)

pub list_of-returns : goal.list_of-returns
list_of-returns g t c =
    let w = g.V.Vars.world c.args.vars.now in
    let f = g.V.Vars.trees c.args.vars.now in
    subst (λ (d : Data). IfOk c.of_items.result (λ v. view v ≡ d))
    (sym (ap shown c.loop-item.invariant
    ∙ list-done w f c.args.items.now c.loop-item.values.items c.loop-item.item-index c.loop-item-test.false))
    c.of_items.ensures

pub record_of-returns-in-None-readable : goal.record_of-returns-in-None-readable
record_of-returns-in-None-readable g t c =
    let w = g.V.Vars.world c.args.vars.now in
    let f = g.V.Vars.trees c.args.vars.now in
    let e : String Global × Expr = (c.in-Some.name.now, c.in-Some.field.now) in
    let fs = fields_view c.loop-name.values.entries in
    view-Opaque
    ∙ sym (ap shown (c.loop-name.invariant.3 ∙ ap (λ xs. after_fields fs (eval_parts w (parts_expanded f (parts_view xs)))) c.in-Some.ensures.steps)
    ∙ record-spoilt w fs (string_bytes e.0) (expanded f (expr_view e.1)) (parts_expanded f (parts_view c.next.new.self)) c.in_ok-found.found c.in_ok-found.ensures c.in-None-readable.ensures)

pub record_of-loop-name-preserved : goal.record_of-loop-name-preserved
record_of-loop-name-preserved g t c =
    let w = g.V.Vars.world c.args.vars.now in
    let f = g.V.Vars.trees c.args.vars.now in
    let inv = c.loop-name.invariant in
    let done = inv.0 in
    let e : String Global × Expr = (c.in-Some.name.now, c.in-Some.field.now) in
    let left = c.next.new.self in
    let fs = fields_view c.loop-name.values.entries in
    let all : c.args.fields.now.entries ≡ done ++ e ∷ left = inv.1 ∙ ap (λ es. done ++ es) c.in-Some.ensures.steps in
    let last = put_last (λ x. shown (eval w (expanded f (expr_view x)))) done e left (subst (λ es. IsStrictlySortedBy string_cmp (keys_of es)) all c.iter-name-items.ensures.ordered) in
    let told : view c.in-Some-readable.found ≡ shown (eval w (expanded f (expr_view e.1))) = c.in-Some-readable.ensures.0 ∙ c.in_ok-found.ensures in
    let stored : fields_view c.put_field.new.fields.entries ≡ fields_of (map (λ m. (m.0, shown (eval w (expanded f (expr_view m.1))))) (done ++ e ∷ [])) =
    c.in_ok-put_field-in-Some-readable.ensures ∙ rw (c.in_ok-clone-in-Some-readable.ensures.cases, told, inv.2) last in (
      done ++ e ∷ [],
      all ∙ sym (append_assoc done (e ∷ []) left),
      stored,
      inv.3 ∙ ap (λ xs. after_fields fs (eval_parts w (parts_expanded f (parts_view xs)))) c.in-Some.ensures.steps
          ∙ record-turn w fs (string_bytes e.0) (expanded f (expr_view e.1)) (parts_expanded f (parts_view left)) c.in-Some-readable.found told c.in-Some-readable.ensures.1
          ∙ ap (λ x. after_fields x (eval_parts w (parts_expanded f (parts_view left))))
          (ap (λ x. append_fields x (field (string_bytes e.0) (shown (eval w (expanded f (expr_view e.1)))) no_fields)) inv.2 ∙ fields-last (λ x. shown (eval w (expanded f (expr_view x)))) done e ∙ sym stored),
    )

pub record_of-returns : goal.record_of-returns
record_of-returns g t c =
    let w = g.V.Vars.world c.args.vars.now in
    let f = g.V.Vars.trees c.args.vars.now in
    let fs = fields_view c.loop-name.values.entries in
    let nil : c.loop-name.name-iterator ≡ [] = (c.in-None.ensures).steps.0 in
    subst (λ (d : Data). IfOk c.of_fields.result (λ v. view v ≡ d))
    (sym (ap shown (c.loop-name.invariant.3 ∙ ap (λ xs. after_fields fs (eval_parts w (parts_expanded f (parts_view xs)))) nil ∙ fields-end fs)))
    c.of_fields.ensures
