use Rattle.std.proofs.Common.{suc, ◌-◌, arith, sym, ap, ◌∙◌}
use Rattle.pb_semantics.specs.Kind.{recs}
use Rattle.pb_kind.specs.KindView.{kind_view, slots_view}
use Rattle.pb_kind.proofs.Views.{kind_view-List, kind_view-Rec}
use Rattle.pb_sig.specs.Signatures.{is_within}
use Rattle.pb_sig.proofs.Forms.{is_within-few, is_within-list, is_within-many, is_within-record, slot_count-length}
use Rattle.pb_sig.proofs.read.+is_within.Goals as goal

pub is_record_within-returns-then-len-gt-MOST_FIELDS :
    goal.is_record_within-returns-then-len-gt-MOST_FIELDS
is_record_within-returns-then-len-gt-MOST_FIELDS t c =
    let es = c.args.slots.now.entries in
    sym (is_within-many c.args.levels (slots_view es) (omega (arith, slot_count-length es, c.len.ensures.len)))

pub is_record_within-returns : goal.is_record_within-returns
is_record_within-returns t c =
    let es = c.args.slots.now.entries in
    c.are_within.ensures ∙ sym (is_within-few c.args.levels (slots_view es) (omega (arith, slot_count-length es, c.len.ensures.len)))

pub is_within-returns-else-most-gt-MOST_ITEMS : goal.is_within-returns-else-most-gt-MOST_ITEMS
is_within-returns-else-most-gt-MOST_ITEMS t c =
    let l = c.args.levels in
    let item = c.in-List.item in
    c.is_within.ensures ∙ ap (λ k. is_within (l - 1) (kind_view k)) (c.deref-in-List.ensures ∙ ap (λ w. w.parts) c.deref.ensures)
    ∙ sym (is_within-list l c.in-List.most (kind_view item.value.parts) (omega arith) (omega arith)) ∙ ap (is_within l) (sym (kind_view-List item c.in-List.most)) ∙ ap (λ k. is_within l (kind_view k)) (sym c.in-List.is)

pub is_within-returns-else-levels-eq0-2 : goal.is_within-returns-else-levels-eq0-2
is_within-returns-else-levels-eq0-2 t c =
    let l = c.args.levels in
    let slots = c.in-Rec.slots in
    c.is_record_within.ensures
    ∙ ap (λ m. is_within (suc (l - 1)) (recs (slots_view m.entries))) (c.deref-in-Rec-2.ensures ∙ ap (λ w. w.parts) c.deref-in-Rec.ensures)
    ∙ sym (is_within-record l (slots_view slots.value.parts.entries) (omega arith)) ∙ ap (is_within l) (sym (kind_view-Rec slots)) ∙ ap (λ k. is_within l (kind_view k)) (sym c.in-Rec.is)
