use Rattle.std.proofs.lemmas.Result.{MatchResult-weaker}
use Rattle.pb_kind.specs.KindView.{kind_view, slots_view}
use Rattle.pb_kind.proofs.Views.{kind_view-Rec}
use Rattle.pb_kind.proofs.KindLemmas.{kind_view-Never}
use Rattle.pb_forms.proofs.Findings.{field-certain, field-uncertain, below-never}
use Rattle.pb_expr.proofs.steps.kind_in.Goals as goal

pub returns-in-Never : goal.returns-in-Never
returns-in-Never c = λ ns. rw (c.in-Never.is, kind_view-Never) (below-never c.args.name.now ns)

pub returns-in-Rec : goal.returns-in-Rec
returns-in-Rec c =
    let slots = c.in-Rec.slots in
    MatchResult-weaker c.kind_among.result c.kind_among.ensures
    (λ k h ns. rw (c.in-Rec.is, kind_view-Rec slots) (field-certain c.args.name.now ns (slots_view slots.value.parts.entries) (kind_view k.now) (rw (c.deref-in-Rec.ensures, c.deref.ensures) at h)))
    (λ u h ns. rw (c.in-Rec.is, kind_view-Rec slots, h.1) (field-uncertain c.args.name.now ns (slots_view slots.value.parts.entries) (rw (c.deref-in-Rec.ensures, c.deref.ensures) at h.0)))
