use Rattle.std.proofs.Common.{rules, ◌≡◌, ◌+◌, length, [], ◌∷◌, ◌++◌, drop, String, Global, sym, ap, ◌∙◌, subst, append_assoc, arith}
use Rattle.std.proofs.lemmas.Result.{IfOk-weaker}
use Rattle.std.proofs.lemmas.List.{append-nil, drop_all}
use Rattle.pb_semantics.specs.Data.{count_of}
use Rattle.pb_semantics.specs.Kind.{never, lists, recs}
use Rattle.pb_language.specs.Kinds.{known_kind, known_items}
use Rattle.pb_value.specs.View.{view, items_view}
use Rattle.pb_value.specs.declared.value.Value.{Value}
use Rattle.pb_value.proofs.Fields.{count_of-items_view}
use Rattle.pb_value.proofs.Views.{view-List, view-Rec}
use Rattle.pb_semantics.specs.Join.{join}
use Rattle.pb_kind.specs.Growing.{joined_onto}
use Rattle.pb_kind.specs.KindView.{kind_view}
use Rattle.pb_syntax.proofs.Ascending.{Ascending}
use Rattle.pb_forms.proofs.Findings.{onto-last}
use Rattle.pb_syntax.proofs.Left.{drop-at}
use Rattle.pb_forms.proofs.Records.{slots_from, put_slot-last, known_slots-ascending}
use Rattle.pb_forms.proofs.literal.+literal_kind.Goals as goal

pub literal_fields-loop-name-preserved : goal.literal_fields-loop-name-preserved
literal_fields-loop-name-preserved t c =
    let inv = c.loop-name.invariant in
    let done = inv.0 in
    let e : String Global × Value = (c.in-Some.name.now, c.in-Some.field.now) in
    let left = c.next.new.self in
    let all : c.args.fields.now.entries ≡ done ++ e ∷ left = inv.1 ∙ ap (λ es. done ++ es) c.in-Some.ensures.steps in
    let last = put_slot-last (λ v. known_kind (view v)) done e left (subst (λ es. Ascending es) all c.iter-name-items.ensures.ordered) in (
      done ++ e ∷ [],
      all ∙ sym (append_assoc done (e ∷ []) left),
      c.in_ok-put_certain.ensures ∙ rw (c.in_ok-kind.ensures, inv.2) last,
    )

pub literal_fields-returns : goal.literal_fields-returns
literal_fields-returns t c =
    let inv = c.loop-name.invariant in
    let nil : c.loop-name.name-iterator ≡ [] = (c.in-None.ensures).steps.0 in
    let whole : c.args.fields.now.entries ≡ inv.0 = inv.1 ∙ ap (λ es. inv.0 ++ es) nil ∙ append-nil inv.0 in
    IfOk-weaker c.of_slots.result _ _ (λ k h. h
    ∙ ap recs (inv.2 ∙ ap (slots_from (λ v. known_kind (view v))) (sym whole) ∙ sym (known_slots-ascending c.args.fields.now.entries c.iter-name-items.ensures.ordered))) c.of_slots.ensures

pub literal_kind-returns-in-Rec : goal.literal_kind-returns-in-Rec
literal_kind-returns-in-Rec t c = rw (c.in-Rec.is, view-Rec c.in-Rec.fields, sym c.deref-in-Rec.ensures, sym c.deref-in-Rec-2.ensures) c.literal_fields.ensures

pub literal_kind-returns-in-List : goal.literal_kind-returns-in-List
literal_kind-returns-in-List t c = rw (c.in-List.is, view-List c.in-List.items, sym c.deref.ensures, sym c.deref-in-List.ensures, sym c.deref-in-List-2.ensures.value) c.literal_items.ensures

pub literal_items-returns : goal.literal_items-returns
literal_items-returns t c =
    let items = c.args.items.now in
    let size : length items ≡ count_of (items_view items) = omega (arith, count_of-items_view items) in
    let joined : kind_view c.in_ok-joined-2.joined ≡ known_items (items_view items) = search rules in
    IfOk-weaker c.of_item.result _ _ (λ k h. h
    ∙ ap (λ k. lists k (length items)) joined ∙ ap (lists (known_items (items_view items))) size) c.of_item.ensures
