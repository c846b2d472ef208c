use Rattle.std.proofs.Common.{◌≡◌, ◌∙◌, ◌++◌, ◌∷◌, [], List, Some, String, Global, Vec, true, false, cond, option_map, string_bytes, rules, sym, ap, refl}
use Rattle.std.proofs.lemmas.List.{append-nil}
use Rattle.pb_semantics.specs.Data.{field}
use Rattle.pb_language.specs.Texts.{parts_of, value_of, with_part}
use Rattle.pb_value.specs.View.{view, fields_view}
use Rattle.pb_value.specs.declared.value.Value.{Value}
use Rattle.pb_syntax.specs.ExprView.{expr_view}
use Rattle.pb_template.specs.Entries.{are_ascending, but, entries_view, entry_names, is_that}
use Rattle.pb_template.specs.declared.entry.Entry.{Entry}
use Rattle.pb_template.proofs.Built.{Gives-refused, but-next, but-none, entry_names-push, parts_before, parts_before-none, parts_before-all, parts_before-named}
use Rattle.pb_template.proofs.Ordered.{ascending-keys, ascending-without, key_names}
use Rattle.pb_template.proofs.entry.entries_of.Goals as goal

pub loop-name-init : goal.loop-name-init
loop-name-init c =
    let es = c.args.fields.now.entries in
    let none : c.in_ok-entries.entries.items ≡ [] = search rules in
    let left : c.into_iter-name-iterator.result ≡ es = search rules in record {
      given = rw (none, left) refl;
      ordered = rw (none, left) (ascending-keys es c.iter-name-items.ensures.ordered);
    }

pub loop-name-preserved-then-is_one : goal.loop-name-preserved-then-is_one
loop-name-preserved-then-is_one c =
    let l = c.loop-name in
    let o = option_map (λ n. n.now) c.args.left_out in
    let name = string_bytes c.in-Some.name.now in
    let left = c.next.new.self in
    let done = entries_view l.entries.items in
    let out : is_that o name ≡ true = ap (is_that o) (sym c.as_str.ensures.value) ∙ sym c.is_one.ensures ∙ c.if-is_one.true in
    let rest = but o (fields_view left) in
    let next = but-next o name (view c.in-Some.value.now) (fields_view left) ∙ ap (λ q. cond q rest (field name (view c.in-Some.value.now) rest)) out in record {
      given = l.invariant.given ∙ ap (λ es. parts_before done (parts_of (but o (fields_view es)))) c.in-Some.ensures.steps ∙ ap (λ fs. parts_before done (parts_of fs)) next;
      ordered = ascending-without (entry_names l.entries.items) name (key_names left) (ap (λ es. are_ascending (entry_names l.entries.items ++ key_names es)) (sym c.in-Some.ensures.steps) ∙ l.invariant.ordered);
    }

pub returns-in_err-expr_of-clause-given : goal.returns-in_err-expr_of-clause-given
returns-in_err-expr_of-clause-given c =
    let l = c.loop-name in
    let o = option_map (λ n. n.now) c.args.left_out in
    let name = string_bytes c.in-Some.name.now in
    let v = c.in-Some.value.now in
    let left = c.next.new.self in
    let done = entries_view l.entries.items in
    let kept : is_that o name ≡ false = ap (is_that o) (sym c.as_str.ensures.value) ∙ sym c.is_one.ensures ∙ c.if-is_one.false in
    let rest = but o (fields_view left) in
    let next = but-next o name (view v) (fields_view left) ∙ ap (λ q. cond q rest (field name (view v) rest)) kept in
    Gives-refused (λ (found : Vec Entry Global). entries_view found.items) _ _ (value_of (view v)) (parts_of (but o (fields_view c.args.fields.now.entries)))
    c.from_residual-in_err-expr_of.ensures.1 c.in_err-expr_of.ensures
    (λ none. l.invariant.given ∙ ap (λ es. parts_before done (parts_of (but o (fields_view es)))) c.in-Some.ensures.steps ∙ ap (λ fs. parts_before done (parts_of fs)) next
    ∙ ap (λ x. parts_before done (with_part name x (parts_of rest))) none ∙ parts_before-none done)

pub loop-name-preserved : goal.loop-name-preserved
loop-name-preserved c =
    let l = c.loop-name in
    let o = option_map (λ n. n.now) c.args.left_out in
    let name = string_bytes c.in-Some.name.now in
    let v = c.in-Some.value.now in
    let left = c.next.new.self in
    let done = entries_view l.entries.items in
    let kept : is_that o name ≡ false = ap (is_that o) (sym c.as_str.ensures.value) ∙ sym c.is_one.ensures ∙ c.if-is_one.false in
    let rest = but o (fields_view left) in
    let next = but-next o name (view v) (fields_view left) ∙ ap (λ q. cond q rest (field name (view v) rest)) kept in
    let a : Entry = record { name = c.in_ok-new.field-0; value = c.in_ok-expr_of.field-0 } in
    let same : string_bytes a.name.value ≡ name = ap (λ (s : String Global). string_bytes s) c.in_ok-new.ensures.ok ∙ c.in_ok-clone.ensures.cases in
    let all : c.push.new.self.items ≡ l.entries.items ++ a ∷ [] = c.in_ok-push.ensures.items in record {
      given = l.invariant.given ∙ ap (λ es. parts_before done (parts_of (but o (fields_view es)))) c.in-Some.ensures.steps ∙ ap (λ fs. parts_before done (parts_of fs)) next
          ∙ ap (λ x. parts_before done (with_part name x (parts_of rest))) c.in_ok-expr_of.ensures ∙ ap (λ n. parts_before done (with_part n (Some (expr_view a.value)) (parts_of rest))) (sym same)
          ∙ parts_before-named l.entries.items a (parts_of rest) ∙ ap (λ (found : List Entry). parts_before (entries_view found) (parts_of rest)) (sym all);
      ordered = ap (λ (found : List Entry). are_ascending (entry_names found ++ key_names left)) all ∙ ap are_ascending (entry_names-push l.entries.items a (key_names left))
          ∙ ap (λ n. are_ascending (entry_names l.entries.items ++ n ∷ key_names left)) same ∙ ap (λ es. are_ascending (entry_names l.entries.items ++ key_names es)) (sym c.in-Some.ensures.steps) ∙ l.invariant.ordered;
    }

pub returns-clause-given : goal.returns-clause-given
returns-clause-given c =
    let l = c.loop-name in
    let done = entries_view l.entries.items in
    let o = option_map (λ n. n.now) c.args.left_out in
    l.invariant.given ∙ ap (λ es. parts_before done (parts_of (but o (fields_view es)))) c.in-None.ensures.steps.0 ∙ ap (λ fs. parts_before done (parts_of fs)) (but-none o) ∙ parts_before-all done

pub returns-clause-ordered : goal.returns-clause-ordered
returns-clause-ordered c =
    let l = c.loop-name in
    ap are_ascending (sym (append-nil (entry_names l.entries.items))) ∙ ap (λ (es : List (String Global × Value)). are_ascending (entry_names l.entries.items ++ key_names es)) (sym c.in-None.ensures.steps.0) ∙ l.invariant.ordered
