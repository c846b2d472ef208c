use Rattle.std.proofs.Common.{◌≡◌, List, [], BTreeMap, String, Global, string_bytes, refl, sym, ap, ◌∙◌, rules}
use Rattle.pb_value.specs.declared.weight.Weighed.{Weighed}
use Rattle.pb_kind.specs.declared.kind.Kind.{the_lemmas as kind_lemmas}
use Rattle.pb_semantics.specs.Kind.{recs, nowhere, spot, slot_at}
use Rattle.pb_kind.specs.KindView.{kind_view, slots_view, is_always}
use Rattle.pb_kind.specs.declared.kind.Kind.{Kind}
use Rattle.pb_kind.specs.declared.kind.Slot.{Slot}
use Rattle.pb_kind.proofs.Views.{kind_view-Rec, kind_view-Result}
use Rattle.pb_kind.proofs.KindLemmas.{SlotEntry, found_spot, kind_view-Bool, kind_view-Host, kind_view-Int, kind_view-Never, kind_view-Null, kind_view-Text}
use Rattle.pb_kind.proofs.JoinLemmas.{built, built_joined}
use Rattle.pb_kind.proofs.GrowLemmas.{ascend_slots}
use Rattle.pb_kind.specs.Found.{spot_view}
use Rattle.pb_kind.proofs.Few.{put_after, after_next, built_onto, built_after}
use Rattle.pb_kind.proofs.join.+join.Goals as goal

pub join_parts-returns-in-Null-Null : goal.join_parts-returns-in-Null-Null
join_parts-returns-in-Null-Null t c = rw (c.in-Null-Null.is-0, c.in-Null-Null.is-1, kind_view-Null) refl

pub join_parts-returns-in-Bool-Bool : goal.join_parts-returns-in-Bool-Bool
join_parts-returns-in-Bool-Bool t c = rw (c.in-Bool-Bool.is-0, c.in-Bool-Bool.is-1, kind_view-Bool) refl

pub join_parts-returns-in-Int-Int : goal.join_parts-returns-in-Int-Int
join_parts-returns-in-Int-Int t c = rw (c.in-Int-Int.is-0, c.in-Int-Int.is-1, kind_view-Int) refl

pub join_parts-returns-in_default : goal.join_parts-returns-in_default
join_parts-returns-in_default t c = search (rules, kind_lemmas)

pub join_parts-returns-in-Text-Text : goal.join_parts-returns-in-Text-Text
join_parts-returns-in-Text-Text t c = rw (c.in-Text-Text.is-0, c.in-Text-Text.is-1, kind_view-Text) refl

pub join_parts-returns-in-Text-Host : goal.join_parts-returns-in-Text-Host
join_parts-returns-in-Text-Host t c = rw (c.in-Text-Host.is-0, c.in-Text-Host.is-1, kind_view-Host, kind_view-Text) refl

pub join_parts-returns-in-Host-Text : goal.join_parts-returns-in-Host-Text
join_parts-returns-in-Host-Text t c = rw (c.in-Host-Text.is-0, c.in-Host-Text.is-1, kind_view-Host, kind_view-Text) refl

pub join_parts-returns-in-Host-Host : goal.join_parts-returns-in-Host-Host
join_parts-returns-in-Host-Host t c =
    let p = c.in-Host-Host in
    rw (p.is-0, p.is-1, kind_view-Host p.few, kind_view-Host p.more, ← c.deref.ensures, ← c.deref-in-Host-Host.ensures) c.join_hosts.ensures

pub join_parts-returns-in-Rec-Rec : goal.join_parts-returns-in-Rec-Rec
join_parts-returns-in-Rec-Rec t c =
    let p = c.in-Rec-Rec in
    rw (p.is-0, p.is-1, kind_view-Rec p.slots, kind_view-Rec p.others, ← c.deref-in-Rec-Rec.ensures, ← c.deref-in-Rec-Rec-2.ensures, ← c.deref-in-Rec-Rec-3.ensures, ← c.deref-in-Rec-Rec-4.ensures) c.join_records.ensures

pub join_parts-returns-in_ok-record-in-Result-Result : goal.join_parts-returns-in_ok-record-in-Result-Result
join_parts-returns-in_ok-record-in-Result-Result t c =
    let p = c.in-Result-Result in
    rw (
      p.is-0,
      p.is-1,
      kind_view-Result p.cases p.record,
      kind_view-Result p.others p.other,
      ← c.deref-in-Result-Result.ensures,
      ← c.deref-in-Result-Result-2.ensures,
      ← c.deref-in-Result-Result-3.ensures,
      ← c.deref-in-Result-Result-4.ensures,
      ← c.deref-in-Result-Result-5.ensures.value,
      ← c.deref-in-Result-Result-6.ensures,
      ← c.deref-in-Result-Result-7.ensures,
      ← c.deref-in-Result-Result-8.ensures.value,
      ← c.in_ok-record-in-Result-Result.ensures,
    ) c.result_of.ensures

pub join_records-returns : goal.join_records-returns
join_records-returns t c =
    rw (← c.in_ok-slots.ensures) c.of_slots.ensures

pub join_with_record-returns-in-Rec : goal.join_with_record-returns-in-Rec
join_with_record-returns-in-Rec t c =
    let p = c.in-Rec in
    rw (p.is, kind_view-Rec p.others, ← c.deref.ensures, ← c.deref-in-Rec.ensures, ← c.deref-in-Rec-2.ensures, ← c.deref-in-Rec-3.ensures) c.join_records.ensures

pub join_with_record-returns-in_ok-clone-in-Never : goal.join_with_record-returns-in_ok-clone-in-Never
join_with_record-returns-in_ok-clone-in-Never t c =
    rw (c.in-Never.is, kind_view-Never) (kind_view-Rec c.in_ok-clone-in-Never.field-0 ∙ ap (λ (m : Weighed (BTreeMap (String Global) (Slot Kind))). recs (slots_view m.parts.entries)) c.in_ok-clone-in-Never.ensures.cases)

pub meet_slots-returns : goal.meet_slots-returns
meet_slots-returns t c =
    let l = c.loop-name in
    let ts = slots_view c.args.second.now.entries in
    let left : l.name-iterator ≡ [] = c.in-None.ensures.steps.0 in
    sym (l.invariant.0 ∙ ap (λ (es : List SlotEntry). built (slots_view es) ts (slots_view l.all.entries)) left)
    ∙ built_joined c.args.first.now.entries ts c.iter-name-items.ensures.ordered

pub join_few_first-returns : goal.join_few_first-returns
join_few_first-returns t c = λ h.
    let l = c.loop-name in
    let ts = slots_view c.args.many.now.entries in
    let left : l.name-iterator ≡ [] = c.in-None.ensures.steps.0 in
    sym (l.invariant.0 ∙ ap (λ (es : List SlotEntry). built (slots_view es) ts (slots_view l.all.entries)) left)
    ∙ built_onto (slots_view c.args.few.now.entries) ts (ascend_slots c.args.few.now.entries c.iter-name-items.ensures.ordered) (ascend_slots c.args.many.now.entries c.len.ensures.ordered) h

pub join_few_first-loop-name-init : goal.join_few_first-loop-name-init
join_few_first-loop-name-init t c =
    let ts = slots_view c.args.many.now.entries in
    let items : c.into_iter-name-iterator.result ≡ c.args.few.now.entries = c.into_iter-name-iterator.ensures.into_iter_gives ∙ c.iter-name-items.ensures.rest in
    let copy = c.in_ok-all.ensures in
    (ap (built (slots_view c.args.few.now.entries) ts) (sym copy) ∙ ap (λ (es : List SlotEntry). built (slots_view es) ts (slots_view c.in_ok-all.all.entries)) (sym items), tt)

pub join_few_last-returns : goal.join_few_last-returns
join_few_last-returns t c = λ h.
    let l = c.loop-name in
    let ts = slots_view c.args.many.now.entries in
    let left : l.name-iterator ≡ [] = c.in-None.ensures.steps.0 in
    sym (l.invariant.0 ∙ ap (λ (es : List SlotEntry). put_after (slots_view es) ts (slots_view l.all.entries)) left)
    ∙ built_after (slots_view c.args.few.now.entries) ts (ascend_slots c.args.few.now.entries c.iter-name-items.ensures.ordered) (ascend_slots c.args.many.now.entries c.len.ensures.ordered) h

pub join_few_last-loop-name-init : goal.join_few_last-loop-name-init
join_few_last-loop-name-init t c =
    let ts = slots_view c.args.many.now.entries in
    let items : c.into_iter-name-iterator.result ≡ c.args.few.now.entries = c.into_iter-name-iterator.ensures.into_iter_gives ∙ c.iter-name-items.ensures.rest in
    let copy = c.in_ok-all.ensures in
    (ap (put_after (slots_view c.args.few.now.entries) ts) (sym copy) ∙ ap (λ (es : List SlotEntry). put_after (slots_view es) ts (slots_view c.in_ok-all.all.entries)) (sym items), tt)

pub join_few_last-loop-name-preserved-in-Continue-branch-2 :
    goal.join_few_last-loop-name-preserved-in-Continue-branch-2
join_few_last-loop-name-preserved-in-Continue-branch-2 t c =
    let l = c.loop-name in
    let ts = slots_view c.args.many.now.entries in
    let us = slots_view l.all.entries in
    let name = string_bytes c.in-Some.name.now in
    let slot = c.in-Some.slot.now in
    let own = c.in-Some-get.own.now in
    let there : slot_at name ts ≡ spot (is_always own.presence) (kind_view own.kind) =
    ap (λ n. slot_at n ts) (sym c.as_str.ensures.value) ∙ sym (found_spot c.as_str.result.now c.args.many.now.entries c.get.result c.get.ensures.value) ∙ ap spot_view c.in-Some-get.is in (
      l.invariant.0 ∙ ap (λ (es : List SlotEntry). put_after (slots_view es) ts us) c.in-Some.ensures.steps
          ∙ after_next name (is_always slot.presence) (kind_view slot.kind) (slots_view c.next.new.self) ts us (slots_view c.put_met.new.slots.entries) (spot (is_always own.presence) (kind_view own.kind)) there (c.in_ok-put_met-in-Some-get.ensures.slots l.invariant.1),
      c.in_ok-put_met-in-Some-get.ensures.last l.invariant.1,
    )

pub join_few_last-loop-name-preserved : goal.join_few_last-loop-name-preserved
join_few_last-loop-name-preserved t c =
    let l = c.loop-name in
    let ts = slots_view c.args.many.now.entries in
    let us = slots_view l.all.entries in
    let name = string_bytes c.in-Some.name.now in
    let slot = c.in-Some.slot.now in
    let none : slot_at name ts ≡ nowhere =
    ap (λ n. slot_at n ts) (sym c.as_str.ensures.value) ∙ sym (found_spot c.as_str.result.now c.args.many.now.entries c.get.result c.get.ensures.value) ∙ ap spot_view c.in-None-get.is in (
      l.invariant.0 ∙ ap (λ (es : List SlotEntry). put_after (slots_view es) ts us) c.in-Some.ensures.steps
          ∙ after_next name (is_always slot.presence) (kind_view slot.kind) (slots_view c.next.new.self) ts us (slots_view c.put_uncertain.new.slots.entries) nowhere none c.in_ok-put_uncertain-in-None-get.ensures,
      l.invariant.1,
    )
