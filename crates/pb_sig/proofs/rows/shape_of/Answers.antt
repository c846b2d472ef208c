use Rattle.std.proofs.Common.{◌≡◌, ◌+◌, ◌<◌, ◌∷◌, arith, drop, length, ap, [], ◌∙◌, refl, add-one, drop-cons}
use Rattle.std.proofs.lemmas.List.{drop_all}
use Rattle.std.proofs.lemmas.Result.{IfOk-weaker}
use Rattle.pb_semantics.specs.Kind.{recs, put_slot}
use Rattle.pb_kind.specs.KindView.{kind_view, slots_view, is_always}
use Rattle.pb_sig.specs.Rows.{with_rows}
use Rattle.pb_sig.proofs.rows.shape_of.Goals as goal

pub loop-row-preserved : goal.loop-row-preserved
loop-row-preserved c =
    let l = c.loop-row in
    let i = l.row-index in
    let r = c.row-item.result in
    let within : i < length c.args.rows.now = omega arith in
    let next : drop i c.args.rows.now ≡ r ∷ drop (i + 1) c.args.rows.now = rw (add-one, drop-cons c.args.rows.now i r, ← c.row-item.is) refl in
    let put : slots_view c.put_slot.new.slots.entries ≡ put_slot r.name.now (is_always r.presence) (kind_view r.kind) (slots_view l.fields.entries) =
    c.in_ok-put_slot.ensures ∙ rw (c.in_ok-name.ensures.ok, c.in_ok-clone.ensures.cases) refl in
    ap (λ ss. with_rows (drop (i + 1) c.args.rows.now) ss) put ∙ (rw next at l.invariant)

pub returns : goal.returns
returns c =
    let i = c.loop-row.row-index in
    let none : drop i c.args.rows.now ≡ [] = drop_all i c.args.rows.now (omega arith) in
    IfOk-weaker c.of_slots.result _ _ (λ k h. h ∙ ap recs (rw none at c.loop-row.invariant)) c.of_slots.ensures
