use Rattle.std.proofs.Common.{◌≡◌, true, false, string_bytes, is_some, refl, sym, ap, ◌∙◌, rules}
use Rattle.pb_semantics.specs.Kind.{no_slots}
use Rattle.pb_kind.specs.Added.{spot_of}
use Rattle.pb_kind.specs.Found.{spot_view}
use Rattle.pb_kind.specs.KindView.{is_always, kind_view, slots_view}
use Rattle.pb_kind.proofs.Adding.{left_next, left_view}
use Rattle.pb_kind.proofs.GrowLemmas.{ascend_slots}
use Rattle.pb_kind.proofs.Merging.{Over, ascend_rest, over_end, over_fails, over_found, over_missing}
use Rattle.pb_kind.specs.declared.kind.Kind.{the_lemmas as kind_lemmas}
use Rattle.pb_kind.proofs.KindLemmas.{kind_view-Any, kind_view-Null, kind_view-Bool, kind_view-Int, kind_view-Text, kind_view-Host}
use Rattle.pb_kind.proofs.Views.{kind_view-Rec, kind_view-Result}
use Rattle.pb_kind.proofs.below.+below.Goals as goal

pub is_above-returns-in-Any-default : goal.is_above-returns-in-Any-default
is_above-returns-in-Any-default t c = rw (c.in-Any-default.is-0, kind_view-Any) refl

pub is_above-returns-in-Null-Null : goal.is_above-returns-in-Null-Null
is_above-returns-in-Null-Null t c = rw (c.in-Null-Null.is-0, c.in-Null-Null.is-1, kind_view-Null) refl

pub is_above-returns-in-Bool-Bool : goal.is_above-returns-in-Bool-Bool
is_above-returns-in-Bool-Bool t c = rw (c.in-Bool-Bool.is-0, c.in-Bool-Bool.is-1, kind_view-Bool) refl

pub is_above-returns-in-Int-Int : goal.is_above-returns-in-Int-Int
is_above-returns-in-Int-Int t c = rw (c.in-Int-Int.is-0, c.in-Int-Int.is-1, kind_view-Int) refl

pub is_above-returns-in-Text-Text : goal.is_above-returns-in-Text-Text
is_above-returns-in-Text-Text t c = rw (c.in-Text-Text.is-0, c.in-Text-Text.is-1, kind_view-Text) refl

pub is_above-returns-in-Text-Host : goal.is_above-returns-in-Text-Host
is_above-returns-in-Text-Host t c = rw (c.in-Text-Host.is-0, c.in-Text-Host.is-1, kind_view-Text, kind_view-Host) refl

pub is_above-returns-in-Host-Host : goal.is_above-returns-in-Host-Host
is_above-returns-in-Host-Host t c =
    let p = c.in-Host-Host in
    c.has_names.ensures ∙ rw (p.is-0, p.is-1, kind_view-Host p.many, kind_view-Host p.few, c.deref.ensures, c.deref-in-Host-Host.ensures) refl

pub is_above-returns-in_default : goal.is_above-returns-in_default
is_above-returns-in_default t c = search (rules, kind_lemmas)

pub is_above-returns-in_default-2 : goal.is_above-returns-in_default-2
is_above-returns-in_default-2 t c = search (rules, kind_lemmas)

pub is_above-returns-in_default-3 : goal.is_above-returns-in_default-3
is_above-returns-in_default-3 t c = search (rules, kind_lemmas)

pub is_above-returns-in_default-4 : goal.is_above-returns-in_default-4
is_above-returns-in_default-4 t c = search (rules, kind_lemmas)

pub is_above-returns-in_default-5 : goal.is_above-returns-in_default-5
is_above-returns-in_default-5 t c = search (rules, kind_lemmas)

pub is_above-returns-in_default-6 : goal.is_above-returns-in_default-6
is_above-returns-in_default-6 t c = search (rules, kind_lemmas)

pub is_above-returns-in_default-7 : goal.is_above-returns-in_default-7
is_above-returns-in_default-7 t c = search (rules, kind_lemmas)

pub is_above-returns-in_default-8 : goal.is_above-returns-in_default-8
is_above-returns-in_default-8 t c = search (rules, kind_lemmas)

pub is_above-returns-in-Rec-Rec : goal.is_above-returns-in-Rec-Rec
is_above-returns-in-Rec-Rec t c =
    let p = c.in-Rec-Rec in
    c.is_record_above.ensures ∙ rw (p.is-0, p.is-1, kind_view-Rec p.many, kind_view-Rec p.few, c.deref-in-Rec-Rec-2.ensures, c.deref-in-Rec-Rec.ensures, c.deref-in-Rec-Rec-4.ensures, c.deref-in-Rec-Rec-3.ensures) refl

pub is_above-returns-in-Rec-Result : goal.is_above-returns-in-Rec-Result
is_above-returns-in-Rec-Result t c =
    let p = c.in-Rec-Result in
    c.is_above_cases.ensures ∙ rw (p.is-0, p.is-1, kind_view-Rec p.many, kind_view-Result p.cases p.field-1-1, c.deref-in-Rec-Result-2.ensures, c.deref-in-Rec-Result.ensures, c.deref-in-Rec-Result-5.ensures.value, c.deref-in-Rec-Result-4.ensures, c.deref-in-Rec-Result-3.ensures) refl

pub is_above-returns-in-Result-Result : goal.is_above-returns-in-Result-Result
is_above-returns-in-Result-Result t c =
    let p = c.in-Result-Result in
    c.covers_all.ensures
    ∙ rw (p.is-0, p.is-1, kind_view-Result p.many p.field-1-0, kind_view-Result p.few p.field-1-1, c.deref-in-Result-Result-3.ensures.value, c.deref-in-Result-Result-2.ensures, c.deref-in-Result-Result.ensures, c.deref-in-Result-Result-6.ensures.value, c.deref-in-Result-Result-5.ensures, c.deref-in-Result-Result-4.ensures) refl

pub is_above_fields-returns-in-Rec : goal.is_above_fields-returns-in-Rec
is_above_fields-returns-in-Rec t c =
    let p = c.in-Rec in
    c.is_record_above.ensures ∙ rw (p.is, kind_view-Rec p.few, c.deref-in-Rec.ensures, c.deref.ensures) refl

pub is_record_above-loop-name-init : goal.is_record_above-loop-name-init
is_record_above-loop-name-init t c =
    let all = left_next c.iter-others.result c.next-next.result c.next-next.new.self c.next-next.ensures.steps ∙ ap slots_view c.iter-others.ensures.rest in
    let items : c.into_iter-name-iterator.result ≡ c.args.many.now.entries = c.into_iter-name-iterator.ensures.into_iter_gives ∙ c.iter-name-items.ensures.rest in
    (rw all (ascend_slots c.args.few.now.entries c.iter-others.ensures.ordered), rw items (ascend_slots c.args.many.now.entries c.iter-name-items.ensures.ordered), rw (all, items) refl)

pub is_record_above-returns-then-not-is_slot_above : goal.is_record_above-returns-then-not-is_slot_above
is_record_above-returns-then-not-is_slot_above t c =
    let l = c.loop-name in
    let slot = c.in-Some.slot.now in
    let name = string_bytes c.in-Some.name.now in
    let found : spot_view c.slot_of-found.result ≡ spot_of name l.next = c.slot_of-found.ensures ∙ ap (λ n. spot_of n l.next) c.as_str.ensures.value in
    let before = rw c.in-Some.ensures.steps at l.invariant in
    sym (before.2 ∙ over_fails name (is_always slot.presence) (kind_view slot.kind) l.next c.slot_of-found.result l.others (slots_view c.next.new.self) found before.0 before.1.0 (sym c.is_slot_above.ensures ∙ c.if-not-is_slot_above.true))

pub is_record_above-loop-name-preserved-then-is_some :
    goal.is_record_above-loop-name-preserved-then-is_some
is_record_above-loop-name-preserved-then-is_some t c =
    let l = c.loop-name in
    let slot = c.in-Some.slot.now in
    let name = string_bytes c.in-Some.name.now in
    let found : spot_view c.slot_of-found.result ≡ spot_of name l.next = c.slot_of-found.ensures ∙ ap (λ n. spot_of n l.next) c.as_str.ensures.value in
    let some : is_some c.slot_of-found.result ≡ true = sym c.is_some.ensures ∙ c.if-is_some.true in
    let before = rw c.in-Some.ensures.steps at l.invariant in
    let rest = left_next l.others c.next-next-then-is_some.result c.next-next-then-is_some.new.self c.next-next-then-is_some.ensures.steps in
    let left = ascend_rest l.next c.slot_of-found.result l.others name found some before.0 in
    let over = over_found name (is_always slot.presence) (kind_view slot.kind) l.next c.slot_of-found.result l.others (slots_view c.next.new.self) found some before.0 before.1.0 in
    (rw rest left, before.1.1, before.2 ∙ over ∙ rw (sym c.is_slot_above.ensures ∙ c.if-not-is_slot_above.false, rest) refl)

pub is_record_above-loop-name-preserved : goal.is_record_above-loop-name-preserved
is_record_above-loop-name-preserved t c =
    let l = c.loop-name in
    let slot = c.in-Some.slot.now in
    let name = string_bytes c.in-Some.name.now in
    let found : spot_view c.slot_of-found.result ≡ spot_of name l.next = c.slot_of-found.ensures ∙ ap (λ n. spot_of n l.next) c.as_str.ensures.value in
    let none : is_some c.slot_of-found.result ≡ false = sym c.is_some.ensures ∙ c.if-is_some.false in
    let before = rw c.in-Some.ensures.steps at l.invariant in
    let over = over_missing name (is_always slot.presence) (kind_view slot.kind) l.next c.slot_of-found.result l.others (slots_view c.next.new.self) found none before.0 before.1.0 in
    (before.0, before.1.1, before.2 ∙ over ∙ rw (sym c.is_slot_above.ensures ∙ c.if-not-is_slot_above.false) refl)

pub is_record_above-returns : goal.is_record_above-returns
is_record_above-returns t c =
    let l = c.loop-name in
    let over : slots_view l.name-iterator ≡ no_slots = ap slots_view c.in-None.ensures.steps.0 in
    over_end l.next l.others c.is_none.result c.is_none.ensures ∙ sym (l.invariant.2 ∙ ap (Over (left_view l.next l.others)) over)
