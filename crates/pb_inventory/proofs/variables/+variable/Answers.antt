use Rattle.std.proofs.Common.{◌≡◌, ◌∙◌, ◌++◌, ◌∷◌, [], List, string_bytes, string_cmp, map, sym, ap, subst, append_assoc}
use Rattle.std.proofs.lemmas.List.{append-nil}
use Rattle.std.specs.List.Sorted.{IsStrictlySortedBy}
use Rattle.std.specs.Map.{keys_of}
use Rattle.pb_semantics.specs.Data.{Data, put_field, rec}
use Rattle.pb_language.specs.Inventories.{variable_of}
use Rattle.pb_value.proofs.Fields.{Entry, put_last}
use Rattle.pb_value.proofs.Views.{view-fields}
use Rattle.pb_value.specs.View.{view, fields_of, fields_view}
use Rattle.pb_value.specs.declared.value.Value.{Value}
use Rattle.pb_inventory.proofs.Openings.{variable-plain}
use Rattle.pb_inventory.proofs.Overlays.{items_of-next, read_fields}
use Rattle.pb_inventory.proofs.variables.+variable.Goals as goal

pub variable_of-returns-then-not-holds_opening : goal.variable_of-returns-then-not-holds_opening
variable_of-returns-then-not-holds_opening t c =
    c.in_ok-clone.ensures.cases ∙ sym (variable-plain (view c.args.value.now) (sym c.holds_opening.ensures ∙ c.if-not-holds_opening.true))

pub variable_of-returns-in_ok-of_fields-in-Rec : goal.variable_of-returns-in_ok-of_fields-in-Rec
variable_of-returns-in_ok-of_fields-in-Rec t c =
    c.in_ok-of_fields-in-Rec.ensures ∙ ap rec c.in_ok-fields_of-in-Rec.ensures
    ∙ ap variable_of (sym (view-fields c.args.value.now c.in-Rec.fields c.deref-in-Rec-2.result.now c.in-Rec.is (c.deref-in-Rec-2.ensures ∙ ap (λ w. w.parts) c.deref-in-Rec.ensures)))

pub items_of-loop-item-preserved : goal.items_of-loop-item-preserved
items_of-loop-item-preserved t c =
    items_of-next c.args.items.now c.loop-item.found.items c.push.new.self.items c.loop-item.item-index c.item-item.result c.in_ok-variable_of.field-0 c.loop-item-test.true c.item-item.is c.in_ok-push.ensures.items c.in_ok-variable_of.ensures c.loop-item.invariant

pub fields_of-loop-name-preserved : goal.fields_of-loop-name-preserved
fields_of-loop-name-preserved t c =
    let l = c.loop-name in
    let done = l.invariant.0 in
    let e : Entry = (c.in-Some.name.now, c.in-Some.value.now) in
    let left = c.next.new.self in
    let read : Value → Data = λ v. variable_of (view v) in
    let so_far = fields_of (map (λ m. (m.0, read m.1)) done) in
    let all : c.args.fields.now.entries ≡ done ++ e ∷ left = l.invariant.1 ∙ ap (λ es. done ++ es) c.in-Some.ensures.steps in (
      done ++ e ∷ [],
      all ∙ sym (append_assoc done (e ∷ []) left),
      c.in_ok-put_field.ensures ∙ ap (λ n. put_field n (view c.in_ok-variable_of.field-0) (fields_view l.found.entries)) c.in_ok-clone.ensures.cases
          ∙ ap (λ d. put_field (string_bytes e.0) d (fields_view l.found.entries)) c.in_ok-variable_of.ensures ∙ ap (put_field (string_bytes e.0) (read e.1)) l.invariant.2
          ∙ put_last read done e left (subst (λ es. IsStrictlySortedBy string_cmp (keys_of es)) all c.iter-name-items.ensures.ordered),
    )

pub fields_of-returns : goal.fields_of-returns
fields_of-returns t c =
    let l = c.loop-name in
    let es = c.args.fields.now.entries in
    let nil : l.name-iterator ≡ [] = (c.in-None.ensures).steps.0 in
    let whole : es ≡ l.invariant.0 = l.invariant.1 ∙ ap (λ left. l.invariant.0 ++ left) nil ∙ append-nil l.invariant.0 in
    l.invariant.2 ∙ ap (λ (done : List Entry). fields_of (map (λ m. (m.0, variable_of (view m.1))) done)) (sym whole) ∙ sym (read_fields es)
