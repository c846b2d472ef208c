use Rattle.std.proofs.Common.{refl, ◌∙◌}
use Rattle.pb_value.proofs.Views.{view-Rec}
use Rattle.pb_eval.proofs.filter.length_of.Goals as goal

pub returns-in-Rec : goal.returns-in-Rec
returns-in-Rec c = c.fields_counted.ensures ∙ rw (c.in-Rec.is, view-Rec c.in-Rec.fields, c.deref-in-Rec-2.ensures, c.deref-in-Rec.ensures) refl
