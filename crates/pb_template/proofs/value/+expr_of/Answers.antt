use Rattle.std.proofs.Common.{◌≡◌, ◌≤◌, ◌∙◌, ◌+◌, ◌++◌, List, ◌∷◌, [], Bool, true, Some, String, Global, Vec, BTreeMap, string_bytes, length, drop, option_map, rules, arith, ap, refl, sym}
use Rattle.std.proofs.lemmas.List.{at_drop_all}
use Rattle.std.specs.declared.sync.Arc.{Arc}
use Rattle.pb_language.specs.Expression as language
use Rattle.pb_language.specs.Nesting.{holds, some_field_holds}
use Rattle.pb_language.specs.Texts.{opens, parts_of, value_of, values_of, with_item, with_part}
use Rattle.pb_value.specs.View.{view, items_view, fields_view}
use Rattle.pb_value.specs.declared.value.Value as Value-of
use Rattle.pb_value.specs.declared.value.Value.{Value}
use Rattle.pb_value.specs.declared.weight.Weighed.{Weighed}
use Rattle.pb_syntax.specs.ExprView.{expr_view, exprs_view, parts_view}
use Rattle.pb_syntax.specs.declared.expr.Expr as Expr-of
use Rattle.pb_syntax.specs.declared.expr.Expr.{Expr, the_lemmas}
use Rattle.pb_value.proofs.Views.{view-fields}
use Rattle.pb_template.specs.Entries.{are_ascending}
use Rattle.pb_template.proofs.Built.{Gives-refused, items_before, items_before-none, items_before-all, items_before-push, values-next, parts_before, parts_before-none, parts_before-all, parts_before-entry}
use Rattle.pb_template.proofs.Ordered.{ascending-keys, insert_entry-last, key_names, key_names-push}
use Rattle.pb_template.proofs.Plain.{value-plain}
use Rattle.pb_template.proofs.value.+expr_of.Goals as goal

record_of-holding : (v : Value) (fields : Arc (Weighed (BTreeMap (String Global) Value)) Global) (m : BTreeMap (String Global) Value) (b : Bool) → v ≡ Value-of.Rec fields → m ≡ fields.value.parts → b ≡ holds opens (view v) → b ≡ true
    → value_of (view v) ≡ option_map language.record_of (parts_of (fields_view m.entries))
record_of-holding v fields m b is behind e h =
    let known = view-fields v fields m is behind in
    let holding : some_field_holds opens (fields_view m.entries) ≡ true = sym (ap (holds opens) known) ∙ sym e ∙ h in
    ap value_of known ∙ rw holding

view-Record : (m : BTreeMap (String Global) Expr) → expr_view (Expr-of.Record m) ≡ language.record_of (parts_view m.entries)
view-Record m = search (rules, the_lemmas)

view-Literal : (v : Value) → expr_view (Expr-of.Literal v) ≡ language.literal (view v)
view-Literal v = search (rules, the_lemmas)

pub exprs_of-returns-in_err-expr_of : goal.exprs_of-returns-in_err-expr_of
exprs_of-returns-in_err-expr_of t c =
    let l = c.loop-item in
    let vs = c.args.items.now in
    let v = c.item-item.result in
    let rest = values_of (items_view (drop (l.item-index + 1) vs)) in
    let next = ap (λ xs. values_of (items_view xs)) (values-next vs l.item-index v c.loop-item-test.true c.item-item.is) in
    Gives-refused (λ (parts : Vec Expr Global). exprs_view parts.items) _ _ (value_of (view v)) (values_of (items_view c.args.items.now)) c.from_residual-in_err-expr_of.ensures.1
    c.in_err-expr_of.ensures (λ none. l.invariant ∙ ap (items_before (exprs_view l.parts.items)) (next ∙ ap (λ x. with_item x rest) none) ∙ items_before-none (exprs_view l.parts.items))

pub exprs_of-loop-item-preserved : goal.exprs_of-loop-item-preserved
exprs_of-loop-item-preserved t c =
    let l = c.loop-item in
    let vs = c.args.items.now in
    let rest = values_of (items_view (drop (l.item-index + 1) vs)) in
    let all : c.push.new.self.items ≡ l.parts.items ++ c.in_ok-expr_of.field-0 ∷ [] = c.in_ok-push.ensures.items in
    let next = ap (λ xs. values_of (items_view xs)) (values-next vs l.item-index c.item-item.result c.loop-item-test.true c.item-item.is) in
    l.invariant ∙ ap (items_before (exprs_view l.parts.items)) (next ∙ ap (λ x. with_item x rest) c.in_ok-expr_of.ensures)
    ∙ items_before-push l.parts.items c.in_ok-expr_of.field-0 rest ∙ ap (λ (es : List Expr). items_before (exprs_view es) rest) (sym all)

pub exprs_of-returns : goal.exprs_of-returns
exprs_of-returns t c =
    let l = c.loop-item in
    let vs = c.args.items.now in
    let over : length vs ≤ l.item-index = omega arith in
    l.invariant
    ∙ ap (items_before (exprs_view l.parts.items)) (at_drop_all (λ (xs : List Value). values_of (items_view xs)) vs l.item-index over) ∙ items_before-all (exprs_view l.parts.items)

pub record_of-returns-in_err-expr_of : goal.record_of-returns-in_err-expr_of
record_of-returns-in_err-expr_of t c =
    let l = c.loop-name in
    let name = string_bytes c.in-Some.name.now in
    let v = c.in-Some.value.now in
    let rest = parts_of (fields_view c.next.new.self) in
    let done = parts_view l.parts.entries in
    Gives-refused (λ (parts : BTreeMap (String Global) Expr). parts_view parts.entries) _ _ (value_of (view v)) (parts_of (fields_view c.args.fields.now.entries)) c.from_residual-in_err-expr_of.ensures.1
    c.in_err-expr_of.ensures (λ none. l.invariant.given ∙ ap (λ es. parts_before done (parts_of (fields_view es))) c.in-Some.ensures.steps ∙ ap (λ x. parts_before done (with_part name x rest)) none ∙ parts_before-none done)

pub record_of-loop-name-init : goal.record_of-loop-name-init
record_of-loop-name-init t c =
    let es = c.args.fields.now.entries in
    let none : c.new-parts.result.entries ≡ [] = search rules in
    let left : c.into_iter-name-iterator.result ≡ es = search rules in record {
      given = rw (none, left) refl;
      ordered = rw (none, left) (ascending-keys es c.iter-name-items.ensures.ordered);
    }

pub record_of-loop-name-preserved : goal.record_of-loop-name-preserved
record_of-loop-name-preserved t c =
    let l = c.loop-name in
    let k = c.in_ok-name.name in
    let e = c.in_ok-expr_of.field-0 in
    let first : String Global × Value = (c.in-Some.name.now, c.in-Some.value.now) in
    let left = c.next.new.self in
    let rest = parts_of (fields_view left) in
    let done = parts_view l.parts.entries in
    let same : string_bytes k ≡ string_bytes first.0 = c.in_ok-name.ensures.cases in
    let ordered : are_ascending (key_names l.parts.entries ++ string_bytes k ∷ key_names left) ≡ true =
    ap (λ n. are_ascending (key_names l.parts.entries ++ n ∷ key_names left)) same ∙ ap (λ es. are_ascending (key_names l.parts.entries ++ key_names es)) (sym c.in-Some.ensures.steps) ∙ l.invariant.ordered in
    let all : c.insert.new.self.entries ≡ l.parts.entries ++ (k, e) ∷ [] = c.in_ok-insert.ensures.entries ∙ insert_entry-last l.parts.entries k e (key_names left) ordered in record {
      given = l.invariant.given ∙ ap (λ es. parts_before done (parts_of (fields_view es))) c.in-Some.ensures.steps ∙ ap (λ x. parts_before done (with_part (string_bytes first.0) x rest)) c.in_ok-expr_of.ensures
          ∙ ap (λ n. parts_before done (with_part n (Some (expr_view e)) rest)) (sym same) ∙ parts_before-entry l.parts.entries k e rest ∙ ap (λ es. parts_before (parts_view es) rest) (sym all);
      ordered = ap (λ es. are_ascending (key_names es ++ key_names left)) all ∙ ap are_ascending (key_names-push l.parts.entries k e (key_names left)) ∙ ordered;
    }

pub record_of-returns : goal.record_of-returns
record_of-returns t c =
    let l = c.loop-name in
    let done = parts_view l.parts.entries in
    l.invariant.given ∙ ap (λ es. parts_before done (parts_of (fields_view es))) c.in-None.ensures.steps.0 ∙ parts_before-all done

pub expr_of-returns-then-not-holds : goal.expr_of-returns-then-not-holds
expr_of-returns-then-not-holds t c =
    value-plain (view c.args.value.now) (sym c.holds.ensures ∙ c.if-not-holds.true) ∙ ap (λ d. Some (language.literal d)) (sym c.in_ok-clone.ensures.cases) ∙ ap Some (sym (view-Literal c.in_ok-clone.field-0))

pub expr_of-returns-in_err-record_of-in-Rec : goal.expr_of-returns-in_err-record_of-in-Rec
expr_of-returns-in_err-record_of-in-Rec t c =
    let holding = record_of-holding c.args.value.now _ _ _ c.in-Rec.is (c.deref-in-Rec-2.ensures ∙ ap (λ w. w.parts) c.deref-in-Rec.ensures) c.holds.ensures c.if-not-holds.false in
    Gives-refused expr_view _ _ _ _ c.from_residual-in_err-record_of-in-Rec.ensures.1 c.in_err-record_of-in-Rec.ensures
    (λ none. holding ∙ ap (option_map language.record_of) none)

pub expr_of-returns-in_ok-record_of-in-Rec : goal.expr_of-returns-in_ok-record_of-in-Rec
expr_of-returns-in_ok-record_of-in-Rec t c =
    let holding = record_of-holding c.args.value.now _ _ _ c.in-Rec.is (c.deref-in-Rec-2.ensures ∙ ap (λ w. w.parts) c.deref-in-Rec.ensures) c.holds.ensures c.if-not-holds.false in
    holding ∙ ap (option_map language.record_of) c.in_ok-record_of-in-Rec.ensures ∙ ap Some (sym (view-Record c.in_ok-record_of-in-Rec.field-0))
