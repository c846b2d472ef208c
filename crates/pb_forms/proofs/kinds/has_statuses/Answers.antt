use Rattle.std.proofs.Common.{refl, ◌∙◌}
use Rattle.pb_kind.proofs.Views.{kind_view-Rec}
use Rattle.pb_forms.proofs.kinds.has_statuses.Goals as goal

pub returns-in-Rec : goal.returns-in-Rec
returns-in-Rec c = c.are_statuses.ensures ∙ rw (c.in-Rec.is, kind_view-Rec c.in-Rec.slots, c.deref-in-Rec.ensures, c.deref.ensures) refl
