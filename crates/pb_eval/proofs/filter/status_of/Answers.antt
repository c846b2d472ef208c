use Rattle.std.proofs.Common.{refl, ◌∙◌}
use Rattle.pb_value.proofs.Views.{view-Rec}
use Rattle.pb_eval.proofs.filter.status_of.Goals as goal

pub returns-in-Rec : goal.returns-in-Rec
returns-in-Rec c = c.status_in.ensures ∙ rw (c.in-Rec.is, view-Rec c.in-Rec.fields, c.deref-in-Rec.ensures, c.deref.ensures) refl
