use Rattle.std.proofs.Common.{◌≡◌, refl, sym, ap, ◌∙◌}
use Rattle.std.proofs.lemmas.Result.{MatchResult-weaker}
use Rattle.pb_semantics.specs.Kind.{recs}
use Rattle.pb_language.specs.Cases.{slots_of}
use Rattle.pb_semantics.specs.Signature.{is_shape}
use Rattle.pb_kind.specs.KindView.{kind_view, slots_view}
use Rattle.pb_kind.proofs.Views.{kind_view-Rec}
use Rattle.pb_sig.specs.ModuleView.{known_view}
use Rattle.pb_probe.proofs.Shapes.{is_listed-failed}
use Rattle.pb_probe.proofs.scene.results_for.Goals as goal

pub of-requires : goal.of-requires
of-requires c =
    let view : kind_view c.ok_shape.result.now ≡ recs (slots_view c.deref-in-Rec.result.now.entries) = ap kind_view c.in-Rec.is ∙ kind_view-Rec c.in-Rec.fields ∙ rw (c.deref-in-Rec.ensures, c.deref.ensures) refl in
    is_listed-failed (slots_view c.deref-in-Rec.result.now.entries) (ap is_shape (sym view) ∙ c.ok_shape.ensures.lawful)

pub returns : goal.returns
returns c =
    let view : (known_view c.args.found.now).ok ≡ recs (slots_view c.deref-in-Rec.result.now.entries) = sym c.ok_shape.ensures.gives ∙ ap kind_view c.in-Rec.is ∙ kind_view-Rec c.in-Rec.fields ∙ rw (c.deref-in-Rec.ensures, c.deref.ensures) refl in
    let shape : slots_of (known_view c.args.found.now).ok ≡ slots_view c.deref-in-Rec.result.now.entries = ap slots_of view in
    MatchResult-weaker c.of.result c.of.ensures.ran (λ r e. e ∙ rw (shape, c.name.ensures) refl) (λ y e. tt)
