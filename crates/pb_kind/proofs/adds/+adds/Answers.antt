use Rattle.std.proofs.Common.{◌≡◌, true, false, string_bytes, is_some, not, sym, ap, ◌∙◌}
use Rattle.pb_semantics.specs.Kind.{no_slots, spot, recs}
use Rattle.pb_semantics.proofs.Ascents.{met_recs, met_result}
use Rattle.pb_kind.specs.KindView.{kind_view, slots_view, cases_view, is_always}
use Rattle.pb_kind.specs.Added.{met_spot, spot_of}
use Rattle.pb_kind.specs.Found.{spot_view}
use Rattle.pb_kind.proofs.Views.{kind_view-Rec, kind_view-Result}
use Rattle.pb_kind.proofs.GrowLemmas.{ascend_slots}
use Rattle.pb_kind.proofs.Adding.{left_view, left_next, left_none, adds_met, adds_none, adds_same, adds_other}
use Rattle.pb_kind.proofs.adds.+adds.Goals as goal

pub adds_no_record-returns-in-Rec : goal.adds_no_record-returns-in-Rec
adds_no_record-returns-in-Rec t c = λ h cs.
    let b = c.args.leads in
    let slots = c.in-Rec.slots in
    let ss = slots_view slots.value.parts.entries in
    let ts = slots_view c.args.joined.now.entries in
    rw (c.in-Rec.is, kind_view-Rec slots) (sym (met_result b cs ss ts) ∙ met_recs b ss ts ∙ ap recs (rw (c.deref-in-Rec.ensures, c.deref.ensures) at c.adds_no_slots.ensures h))

pub adds_no_slots-loop-name-init : goal.adds_no_slots-loop-name-init
adds_no_slots-loop-name-init t c =
    let b = c.args.leads in
    let all = left_next c.iter-others.result c.next-next.result c.next-next.new.self c.next-next.ensures.steps ∙ ap slots_view c.iter-others.ensures.rest in
    let items : c.into_iter-name-iterator.result ≡ c.args.joined.now.entries = c.into_iter-name-iterator.ensures.into_iter_gives ∙ c.iter-name-items.ensures.rest in
    (rw items (ascend_slots c.args.joined.now.entries c.iter-name-items.ensures.ordered), λ f. rw (all, items) at f)

pub adds_no_slots-loop-name-preserved-then-is_some :
    goal.adds_no_slots-loop-name-preserved-then-is_some
adds_no_slots-loop-name-preserved-then-is_some t c =
    let l = c.loop-name in
    let b = c.args.leads in
    let slot = c.in-Some.slot.now in
    let name = string_bytes c.in-Some.name.now in
    let found : spot_view c.slot_of-found.result ≡ spot_of name l.next = c.slot_of-found.ensures ∙ ap (λ n. spot_of n l.next) c.as_str.ensures.value in
    let some : is_some c.slot_of-found.result ≡ true = sym c.is_some.ensures ∙ c.if-is_some.true in
    let kept : met_spot b (spot_view c.slot_of-found.result) (spot (is_always slot.presence) (kind_view slot.kind)) ≡ spot (is_always slot.presence) (kind_view slot.kind) = c.is_kept.ensures c.if-not-is_kept.false in
    let before = rw c.in-Some.ensures.steps at l.invariant in
    let rest = left_next l.others c.next-next-then-is_some.result c.next-next-then-is_some.new.self c.next-next-then-is_some.ensures.steps in
    (before.0.1, λ f. before.1 (adds_same b name (is_always slot.presence) (kind_view slot.kind) l.next c.slot_of-found.result l.others (slots_view c.next.new.self) found some kept (rw rest at f)))

pub adds_no_slots-loop-name-preserved : goal.adds_no_slots-loop-name-preserved
adds_no_slots-loop-name-preserved t c =
    let l = c.loop-name in
    let b = c.args.leads in
    let slot = c.in-Some.slot.now in
    let name = string_bytes c.in-Some.name.now in
    let none : is_some c.slot_of-found.result ≡ false = sym c.is_some.ensures ∙ c.if-is_some.false in
    let kept : met_spot b (spot_view c.slot_of-found.result) (spot (is_always slot.presence) (kind_view slot.kind)) ≡ spot (is_always slot.presence) (kind_view slot.kind) = c.is_kept.ensures c.if-not-is_kept.false in
    let before = rw c.in-Some.ensures.steps at l.invariant in
    (before.0.1, λ f. before.1 (adds_other b name (is_always slot.presence) (kind_view slot.kind) c.slot_of-found.result (left_view l.next l.others) (slots_view c.next.new.self) none kept before.0.0 f))

pub adds_no_slots-returns : goal.adds_no_slots-returns
adds_no_slots-returns t c = λ h.
    let l = c.loop-name in
    let b = c.args.leads in
    let none : left_view l.next l.others ≡ no_slots = left_none l.next l.others (c.is_none.ensures ∙ ap not h) in
    let over : slots_view l.name-iterator ≡ no_slots = ap slots_view c.in-None.ensures.steps.0 in
    adds_met b (slots_view c.args.slots.now.entries) (slots_view c.args.joined.now.entries)
    (ascend_slots c.args.slots.now.entries c.iter-others.ensures.ordered) (ascend_slots c.args.joined.now.entries c.iter-name-items.ensures.ordered)
    (l.invariant.1 (rw (none, over) (adds_none b)))

pub adds_nothing-returns-in-Rec-Rec : goal.adds_nothing-returns-in-Rec-Rec
adds_nothing-returns-in-Rec-Rec t c = λ h.
    let p = c.in-Rec-Rec in
    let b = c.args.leads in
    let ss = slots_view p.others.value.parts.entries in
    let ts = slots_view p.slots.value.parts.entries in
    rw (p.is-0, p.is-1, kind_view-Rec p.slots, kind_view-Rec p.others) (met_recs b ss ts ∙ ap recs (rw (c.deref-in-Rec-Rec-2.ensures, c.deref-in-Rec-Rec.ensures, c.deref-in-Rec-Rec-4.ensures, c.deref-in-Rec-Rec-3.ensures) at c.adds_no_slots.ensures h))

pub adds_nothing-returns-in-Rec-Result : goal.adds_nothing-returns-in-Rec-Result
adds_nothing-returns-in-Rec-Result t c = λ h.
    let p = c.in-Rec-Result in
    let cs = cases_view p.field-0-1.value.parts.items in
    rw (p.is-0, p.is-1, kind_view-Rec p.slots, kind_view-Result p.field-0-1 p.record) (rw (c.deref-in-Rec-Result-2.ensures, c.deref-in-Rec-Result.ensures, c.deref-in-Rec-Result-3.ensures) at c.adds_no_record.ensures h cs)
