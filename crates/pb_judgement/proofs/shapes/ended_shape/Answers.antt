use Rattle.std.proofs.Common.{◌≡◌, refl, sym, ap, ◌∙◌}
use Rattle.std.proofs.lemmas.Result.{IfOk-weaker}
use Rattle.pb_semantics.specs.Kind.{recs}
use Rattle.pb_semantics.proofs.Bools.{true-false}
use Rattle.pb_language.specs.Cases.{ended_kind, is_lawful_shape, slots_of}
use Rattle.pb_kind.specs.KindView.{kind_view, slots_view}
use Rattle.pb_kind.proofs.Views.{kind_view-Rec}
use Rattle.pb_judgement.proofs.LawfulShapes.{shape_slots-lawful, unfailed_shape, unlawful}
use Rattle.pb_judgement.proofs.shapes.ended_shape.Goals as goal

pub ended_record-requires : goal.ended_record-requires
ended_record-requires c =
    let view : kind_view c.args.shape.now ≡ recs (slots_view c.deref-in-Rec.result.now.entries) = ap kind_view c.in-Rec.is ∙ kind_view-Rec c.in-Rec.fields ∙ rw (c.deref-in-Rec.ensures, c.deref.ensures) refl in
    unfailed_shape (slots_view c.deref-in-Rec.result.now.entries) (ap is_lawful_shape (sym view) ∙ c.requires)

pub unreachable-requires : goal.unreachable-requires
unreachable-requires c = true-false (is_lawful_shape (kind_view c.args.shape.now)) c.requires (unlawful c.args.shape.now c.in_default.not-Rec)

pub returns : goal.returns
returns c =
    let view : kind_view c.args.shape.now ≡ recs (slots_view c.deref-in-Rec.result.now.entries) = ap kind_view c.in-Rec.is ∙ kind_view-Rec c.in-Rec.fields ∙ rw (c.deref-in-Rec.ensures, c.deref.ensures) refl in
    let fields = ap slots_of (sym view) ∙ sym (shape_slots-lawful (kind_view c.args.shape.now) c.requires) in
    IfOk-weaker c.ended_record.result _ _ (λ k h. h ∙ ap ended_kind fields) c.ended_record.ensures
