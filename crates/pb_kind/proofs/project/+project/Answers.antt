use Rattle.std.proofs.Common.{◌≡◌, ◌≤◌, ◌<◌, [], ◌∷◌, ◌++◌, ◌+◌, length, drop, map, true, false, Some, None, string_bytes, refl, sym, ap, ◌∙◌, subst, append_assoc, arith, rules}
use Rattle.pb_kind.specs.declared.kind.Kind.{the_lemmas as kind_lemmas}
use Rattle.pb_value.specs.declared.value.Value.{the_lemmas as value_lemmas}
use Rattle.std.proofs.lemmas.Grind.{common_steps}
use Rattle.std.specs.List.Sorted.{IsStrictlySortedBy}
use Rattle.std.specs.Map.{keys_of}
use Rattle.std.specs.String.{string_cmp}
use Rattle.pb_semantics.specs.Data.{item, no_items, field, no_fields, put_field}
use Rattle.pb_semantics.specs.Keeps.{is_among}
use Rattle.pb_semantics.specs.Project.{projected, projected_items, projected_fields, with_field}
use Rattle.pb_kind.specs.KindView.{kind_view, slots_view, is_always}
use Rattle.pb_value.specs.View.{view, items_view, fields_view}
use Rattle.pb_kind.proofs.KindLemmas.{SlotEntry}
use Rattle.pb_kind.proofs.Views.{kind_view-List, kind_view-Rec}
use Rattle.pb_value.proofs.Views.{view-List, view-Rec, view-Text}
use Rattle.pb_kind.proofs.KindLemmas.{kind_view-Host}
use Rattle.pb_kind.proofs.KeptLists.{projected-short, projected-long}
use Rattle.pb_value.proofs.Appended.{items_view-push, append_items-none, append_fields-none, put_field-above, IsAbove, IsAbove-further, IsAbove-append}
use Rattle.pb_kind.proofs.Projections.{each_step, and_items, and_fields, and_fields-nothing, and_fields-step, neighbours, projected_fields-there, projected_fields-missing}
use Rattle.pb_kind.proofs.project.+project.Goals as goal
use Rattle.pb_value.specs.Append.{append_fields, append_items}

pub project_fields-loop-name-init : goal.project_fields-loop-name-init
project_fields-loop-name-init t c =
    let same : c.into_iter-name-iterator.result ≡ c.args.slots.now.entries = c.into_iter-name-iterator.ensures.into_iter_gives ∙ c.iter-name-items.ensures.rest in
    ([], sym same, (λ e more h. rw c.new-found.ensures.empty tt), rw (c.new-found.ensures.empty, same) (sym (and_fields-nothing _)))

pub project_fields-loop-name-preserved-in_ok-put_field-in-Some-2 : goal.project_fields-loop-name-preserved-in_ok-put_field-in-Some-2
project_fields-loop-name-preserved-in_ok-put_field-in-Some-2 t c =
    let l = c.loop-name.invariant in
    let done = l.0 in
    let fs = fields_view c.args.fields.now.entries in
    let so_far = fields_view c.loop-name.found.entries in
    let e : SlotEntry = (c.in-Some.name.now, c.in-Some.slot.now) in
    let n = string_bytes e.0 in
    let left = c.next.new.self in
    let v = view c.in-Some-2.value in
    let step : c.loop-name.name-iterator ≡ e ∷ left = c.in-Some.ensures.steps in
    let all : c.args.slots.now.entries ≡ done ++ e ∷ left = l.1 ∙ ap (λ es. done ++ es) step in
    let above : IsAbove n so_far = l.2 e left step in
    let there = rw c.as_str.ensures.value at c.in-Some-field_of.ensures in
    let fit = rw c.in-Some-2.is at c.in_ok-value-in-Some-field_of.ensures in
    let put : fields_view c.put_field.new.fields.entries ≡ append_fields so_far (field n v no_fields) =
    c.in_ok-put_field-in-Some-2.ensures ∙ ap (λ m. put_field m v so_far) c.in_ok-clone-in-Some-2.ensures.cases ∙ put_field-above n v so_far above in
    let rest = projected_fields fs (slots_view left) in (
      done ++ e ∷ [],
      all ∙ sym (append_assoc done (e ∷ []) left),
      (λ f more h. rw put (IsAbove-append (string_bytes f.0) n v so_far (neighbours done e f more
          (subst (λ es. IsStrictlySortedBy string_cmp (keys_of es)) (all ∙ ap (λ es. done ++ e ∷ es) h) c.iter-name-items.ensures.ordered)) above)),
      l.3 ∙ ap (λ es. and_fields so_far (projected_fields fs (slots_view es))) step ∙ ap (and_fields so_far) (projected_fields-there fs e left _ (sym there))
          ∙ ap (λ p. and_fields so_far (with_field n (is_always e.1.presence) (Some p) rest)) (sym fit) ∙ and_fields-step so_far n (is_always e.1.presence) v rest
          ∙ ap (λ gs. and_fields gs rest) (sym put),
    )

pub project_fields-loop-name-preserved : goal.project_fields-loop-name-preserved
project_fields-loop-name-preserved t c =
    let l = c.loop-name.invariant in
    let done = l.0 in
    let fs = fields_view c.args.fields.now.entries in
    let so_far = fields_view c.loop-name.found.entries in
    let e : SlotEntry = (c.in-Some.name.now, c.in-Some.slot.now) in
    let n = string_bytes e.0 in
    let left = c.next.new.self in
    let step : c.loop-name.name-iterator ≡ e ∷ left = c.in-Some.ensures.steps in
    let all : c.args.slots.now.entries ≡ done ++ e ∷ left = l.1 ∙ ap (λ es. done ++ es) step in
    let above : IsAbove n so_far = l.2 e left step in
    let lacks = rw c.as_str.ensures.value at c.in-None-field_of.ensures in
    let rest = projected_fields fs (slots_view left) in (
      done ++ e ∷ [],
      all ∙ sym (append_assoc done (e ∷ []) left),
      (λ f more h. IsAbove-further (string_bytes f.0) n so_far (neighbours done e f more
          (subst (λ es. IsStrictlySortedBy string_cmp (keys_of es)) (all ∙ ap (λ es. done ++ e ∷ es) h) c.iter-name-items.ensures.ordered)) above),
      l.3 ∙ ap (λ es. and_fields so_far (projected_fields fs (slots_view es))) step ∙ ap (and_fields so_far) (projected_fields-missing fs e left (sym lacks))
          ∙ ap (λ b. and_fields so_far (with_field n b None rest)) (sym c.is_always.ensures ∙ c.if-is_always.false),
    )

pub project_fields-returns : goal.project_fields-returns
project_fields-returns t c =
    let l = c.loop-name.invariant in
    let fs = fields_view c.args.fields.now.entries in
    let so_far = fields_view c.loop-name.found.entries in
    let nil : c.loop-name.name-iterator ≡ [] = (c.in-None.ensures).steps.0 in
    sym (l.3 ∙ ap (λ es. and_fields so_far (projected_fields fs (slots_view es))) nil ∙ ap Some (append_fields-none so_far))

pub project_each-loop-item-preserved : goal.project_each-loop-item-preserved
project_each-loop-item-preserved t c =
    let vs = c.args.items.now in
    let so_far = items_view c.loop-item.found.items in
    let fit = rw c.in-Some.is at c.in_ok-item.ensures in
    let within : c.loop-item.item-index < length vs = omega arith in
    let pushed : items_view c.push.new.self.items ≡ append_items so_far (item (view c.in-Some.item) no_items) =
    ap items_view c.in_ok-push-in-Some.ensures.items ∙ items_view-push c.loop-item.found.items c.in-Some.item in
    c.loop-item.invariant ∙ each_step (λ d. projected d (kind_view c.args.kind.now)) vs c.loop-item.item-index c.item-item.result so_far (view c.in-Some.item) within c.item-item.is (sym fit)
    ∙ ap (λ ds. and_items ds (projected_items (λ d. projected d (kind_view c.args.kind.now)) (items_view (drop (c.loop-item.item-index + 1) vs)))) (sym pushed)

pub project_each-returns : goal.project_each-returns
project_each-returns t c =
    let vs = c.args.items.now in
    let so_far = items_view c.loop-item.found.items in
    let none : drop c.loop-item.item-index vs ≡ [] = grind (arith, common_steps) in
    let whole : projected_items (λ d. projected d (kind_view c.args.kind.now)) (items_view vs) ≡ Some so_far =
    c.loop-item.invariant ∙ ap (λ es. and_items so_far (projected_items (λ d. projected d (kind_view c.args.kind.now)) (items_view es))) none ∙ ap Some (append_items-none so_far) in
    sym whole

pub project_onto-returns-in_default : goal.project_onto-returns-in_default
project_onto-returns-in_default t c = search (rules, kind_lemmas, value_lemmas)

pub project_onto-returns-then-len-most : goal.project_onto-returns-then-len-most
project_onto-returns-then-len-most t c =
    let p = c.in-List-List in
    let size : c.len.result ≡ length p.items.value.parts.items = omega (arith, ap length (ap (λ v. v.items) (c.deref-in-List-List-2.ensures ∙ ap (λ w. w.parts) c.deref-in-List-List.ensures)), c.len.ensures) in
    let above : p.most < length p.items.value.parts.items = omega (arith, size, c.if-len-most.true) in
    sym (rw (p.is-0, p.is-1, view-List, kind_view-List, projected-long p.items.value.parts.items (kind_view p.item.value.parts) p.most above) refl)

pub project_onto-returns-in_ok-kept-in-List-List : goal.project_onto-returns-in_ok-kept-in-List-List
project_onto-returns-in_ok-kept-in-List-List t c =
    let p = c.in-List-List in
    let size : c.len.result ≡ length p.items.value.parts.items = omega (arith, ap length (ap (λ v. v.items) (c.deref-in-List-List-2.ensures ∙ ap (λ w. w.parts) c.deref-in-List-List.ensures)), c.len.ensures) in
    let at_most : length p.items.value.parts.items ≤ p.most = omega (arith, size, c.if-len-most.false) in
    let each = rw (c.deref-in-List-List-4.ensures, c.deref-in-List-List-3.ensures, c.deref-in-List-List-7.ensures.value, c.deref-in-List-List-6.ensures, c.deref-in-List-List-5.ensures) at c.in_ok-kept-in-List-List.ensures in
    rw (p.is-0, p.is-1, view-List, kind_view-List, projected-short p.items.value.parts.items (kind_view p.item.value.parts) p.most at_most, ← each) c.list_of.ensures

pub project_onto-returns-in_ok-kept-in-Rec-Rec : goal.project_onto-returns-in_ok-kept-in-Rec-Rec
project_onto-returns-in_ok-kept-in-Rec-Rec t c =
    let p = c.in-Rec-Rec in
    let all = rw (c.deref-in-Rec-Rec-2.ensures, c.deref-in-Rec-Rec.ensures, c.deref-in-Rec-Rec-4.ensures, c.deref-in-Rec-Rec-3.ensures) at c.in_ok-kept-in-Rec-Rec.ensures in
    rw (p.is-0, p.is-1, view-Rec, kind_view-Rec, ← all) c.record_of.ensures

pub project_onto-returns-then-has_name : goal.project_onto-returns-then-has_name
project_onto-returns-then-has_name t c =
    let p = c.in-Host-Text in
    let among = sym c.has_name.ensures ∙ c.if-has_name.true in
    let among : is_among (string_bytes p.text.value) (map (λ n. string_bytes n) p.names.value.keys) ≡ true = rw (c.as_str.ensures.value, c.deref.ensures, c.deref-in-Host-Text.ensures) at among in
    rw (p.is-0, p.is-1, view-Text, kind_view-Host, among, ← view-Text p.text, ← p.is-1) c.whole.ensures

pub project_onto-returns-else-has_name : goal.project_onto-returns-else-has_name
project_onto-returns-else-has_name t c =
    let p = c.in-Host-Text in
    let among = sym c.has_name.ensures ∙ c.if-has_name.false in
    let among : is_among (string_bytes p.text.value) (map (λ n. string_bytes n) p.names.value.keys) ≡ false = rw (c.as_str.ensures.value, c.deref.ensures, c.deref-in-Host-Text.ensures) at among in
    sym (rw (p.is-0, p.is-1, view-Text, kind_view-Host, among) refl)
