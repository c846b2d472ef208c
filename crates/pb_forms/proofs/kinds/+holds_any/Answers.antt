use Rattle.std.proofs.Common.{refl, ◌∙◌}
use Rattle.pb_kind.proofs.Views.{kind_view-Rec, kind_view-Result}
use Rattle.pb_forms.proofs.kinds.+holds_any.Goals as goal

pub holds_any-returns-in-Rec : goal.holds_any-returns-in-Rec
holds_any-returns-in-Rec t c = c.slots_hold_any.ensures ∙ rw (c.in-Rec.is, kind_view-Rec c.in-Rec.slots, c.deref-in-Rec-2.ensures, c.deref-in-Rec.ensures) refl

pub holds_any-returns-in-Result : goal.holds_any-returns-in-Result
holds_any-returns-in-Result t c =
    c.cases_hold_any.ensures ∙ rw (c.in-Result.is, kind_view-Result c.in-Result.cases c.in-Result.field-1, c.deref-in-Result-3.ensures.value, c.deref-in-Result-2.ensures, c.deref-in-Result.ensures) refl
