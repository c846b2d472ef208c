use Rattle.std.proofs.Common.{◌≡◌, OnOk, true, subst, map, String, Global, string_bytes, sym, ap, ap₂, ◌∙◌}
use Rattle.std.proofs.lemmas.Result.{IfOk-weaker}
use Rattle.pb_semantics.specs.Kind.{Slots, lists, recs, results, put_slot, slot_at, nowhere, spot}
use Rattle.pb_semantics.specs.Join.{kind_with}
use Rattle.pb_kind.specs.KindView.{kind_view, slots_view, cases_view}
use Rattle.pb_semantics.specs.Grown.{marked, met}
use Rattle.pb_kind.specs.Growing.{growing_view, kinds_view}
use Rattle.pb_kind.proofs.Views.{kind_view-Rec, kind_view-List, kind_view-Result}
use Rattle.pb_kind.proofs.GrowLemmas.{growing_view-Rec, growing_view-List, growing_view-Whole, kinds_view-insert_entry, found_in, found_at}
use Rattle.pb_semantics.proofs.Ascents.{put_twice, met_recs, met_lists, met_result}
use Rattle.pb_kind.specs.declared.grow.Growing as Growing-of
use Rattle.pb_kind.proofs.grow.+grow.Goals as goal

pub grow-returns-in_ok-item-in-List-List : goal.grow-returns-in_ok-item-in-List-List
grow-returns-in_ok-item-in-List-List t c =
    let p = c.in-List-List in
    let b = c.args.leads in
    let k = kind_view p.item.value.parts in
    let m = growing_view p.other.value in
    let inner = rw (c.deref-in-List-List.ensures, c.deref.ensures, c.into_inner.ensures) at c.in_ok-item-in-List-List.ensures in
    IfOk-weaker c.list_of.result _ _ (λ g h. h ∙ ap₂ lists inner c.larger.ensures
    ∙ sym (met_lists b k m p.most p.count)
    ∙ sym (ap₂ (met b) (ap kind_view p.is-0 ∙ kind_view-List p.item p.most) (sym c.in_ok-joined.ensures ∙ ap growing_view p.is-1 ∙ growing_view-List p.other p.count))) c.list_of.ensures

pub grow-returns-in-Rec-Rec : goal.grow-returns-in-Rec-Rec
grow-returns-in-Rec-Rec t c =
    let p = c.in-Rec-Rec in
    let b = c.args.leads in
    let ss = slots_view p.slots.value.parts.entries in
    let ts = marked (kinds_view p.kinds.entries) (map (λ (n : String Global). string_bytes n) p.certain.keys) in
    IfOk-weaker c.grow_record.result _ _ (λ g h. (rw (c.deref-in-Rec-Rec-2.ensures, c.deref-in-Rec-Rec.ensures) at h)
    ∙ sym (met_recs b ss ts)
    ∙ sym (ap₂ (met b) (ap kind_view p.is-0 ∙ kind_view-Rec p.slots) (sym c.in_ok-joined.ensures ∙ ap growing_view p.is-1 ∙ growing_view-Rec p.kinds p.certain))) c.grow_record.ensures

pub grow-returns-in-Result-Rec : goal.grow-returns-in-Result-Rec
grow-returns-in-Result-Rec t c =
    let p = c.in-Result-Rec in
    let cs = cases_view p.field-0-0.value.parts.items in
    let own : kind_view c.args.kind.now ≡ results cs (kind_view c.deref-in-Result-Rec.result.now) =
    ap kind_view p.is-0 ∙ kind_view-Result p.field-0-0 p.record ∙ ap (λ k. results cs (kind_view k)) (sym c.deref-in-Result-Rec.ensures) in
    IfOk-weaker c.grow_known.result _ _ (λ g h. h
    ∙ ap (met c.args.leads (kind_view c.args.kind.now)) (sym (sym c.in_ok-joined.ensures ∙ ap growing_view p.is-1 ∙ growing_view-Rec p.kinds p.certain))) (c.grow_known.ensures cs own)

pub grow_record-returns : goal.grow_record-returns
grow_record-returns t c =
    let kinds = c.in_ok-kinds.kinds in
    let still = c.in_ok-still.still in
    let names = map (λ (n : String Global). string_bytes n) still.keys in
    growing_view-Rec kinds still ∙ ap (λ ss. recs (marked ss names)) c.in_ok-kinds.ensures ∙ ap recs (c.in_ok-still.ensures c.args.leads)

pub grow_record-returns-then-adds_no_field : goal.grow_record-returns-then-adds_no_field
grow_record-returns-then-adds_no_field t c =
    growing_view-Rec c.args.kinds c.args.certain ∙ ap recs (sym (c.adds_no_field.ensures c.if-adds_no_field.true))

pub grow_known-returns-in-Rec : goal.grow_known-returns-in-Rec
grow_known-returns-in-Rec t c = λ cs own.
    let b = c.args.leads in
    let slots = c.in-Rec.slots in
    let ss = slots_view slots.value.parts.entries in
    let ts = marked (kinds_view c.args.kinds.entries) (map (λ (n : String Global). string_bytes n) c.args.certain.keys) in
    let whole : kind_view c.args.kind.now ≡ results cs (recs ss) = own ∙ ap (results cs) (ap kind_view c.in-Rec.is ∙ kind_view-Rec slots) in
    IfOk-weaker c.grow_record.result _ _ (λ g h. (rw (c.deref-in-Rec.ensures, c.deref.ensures) at h)
    ∙ sym (met_recs b ss ts) ∙ met_result b cs ss ts ∙ ap (λ k. met b k (recs ts)) (sym whole)) c.grow_record.ensures

pub put_grown-returns-in-None : goal.put_grown-returns-in-None
put_grown-returns-in-None t c =
    let es = c.args.kinds.now.entries in
    let us = kinds_view es in
    let key = c.in_ok-clone.field-0 in
    let name = string_bytes c.args.name.now in
    let kind = kind_view c.args.kind.now in
    let found : found_in c.in_ok-other.field-0 ≡ slot_at name us = ap found_in c.in_ok-other.ensures.old ∙ found_at (string_bytes key) es ∙ ap (λ n. slot_at n us) c.in_ok-clone.ensures.cases in
    let none : slot_at name us ≡ nowhere = sym found ∙ ap found_in c.in-None.is in
    ap kinds_view c.in_ok-other.ensures.entries ∙ kinds_view-insert_entry es key (Growing-of.Whole c.in_ok-clone-2.field-0 0)
    ∙ ap₂ (λ n k. put_slot n true k us) c.in_ok-clone.ensures.cases (growing_view-Whole c.in_ok-clone-2.field-0 0 ∙ c.in_ok-clone-2.ensures.cases)
    ∙ ap (λ s. put_slot name true (kind_with kind (λ m. met c.args.leads kind m) s) us) (sym none)

pub put_grown-returns-in_ok-grown-in-Some : goal.put_grown-returns-in_ok-grown-in-Some
put_grown-returns-in_ok-grown-in-Some t c =
    let es = c.args.kinds.now.entries in
    let us = kinds_view es in
    let key = c.in_ok-clone.field-0 in
    let name = string_bytes c.args.name.now in
    let kind = kind_view c.args.kind.now in
    let found : found_in c.in_ok-other.field-0 ≡ slot_at name us = ap found_in c.in_ok-other.ensures.old ∙ found_at (string_bytes key) es ∙ ap (λ n. slot_at n us) c.in_ok-clone.ensures.cases in
    let there : slot_at name us ≡ spot true (growing_view c.in-Some.other) = sym found ∙ ap found_in c.in-Some.is in
    let mid : kinds_view c.insert.new.self.entries ≡ put_slot name true kind us =
    ap kinds_view c.in_ok-other.ensures.entries ∙ kinds_view-insert_entry es key (Growing-of.Whole c.in_ok-clone-2.field-0 0)
    ∙ ap₂ (λ n k. put_slot n true k us) c.in_ok-clone.ensures.cases (growing_view-Whole c.in_ok-clone-2.field-0 0 ∙ c.in_ok-clone-2.ensures.cases) in
    let grown = growing_view c.in_ok-grown-in-Some.grown in
    let all : put_slot name true grown (kinds_view c.insert.new.self.entries) ≡ put_slot name true (kind_with kind (λ m. met c.args.leads kind m) (slot_at name us)) us =
    ap (put_slot name true grown) mid ∙ put_twice name true true grown kind us ∙ ap (λ k. put_slot name true k us) c.in_ok-grown-in-Some.ensures
    ∙ ap (λ s. put_slot name true (kind_with kind (λ m. met c.args.leads kind m) s) us) (sym there) in
    subst (λ (ss : Slots). OnOk c.put.result (kinds_view c.put.new.kinds.entries ≡ ss)) all c.put.ensures
