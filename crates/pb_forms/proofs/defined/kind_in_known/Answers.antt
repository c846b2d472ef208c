use Rattle.pb_language.specs.Narrow.{can_have}
use Rattle.pb_kind.proofs.Views.{kind_view-Rec}
use Rattle.pb_forms.proofs.defined.kind_in_known.Goals as goal

pub returns-in-Rec : goal.returns-in-Rec
returns-in-Rec c = λ ns cs. rw (c.in-Rec.is, kind_view-Rec c.in-Rec.slots) (rw (c.deref-in-Rec.ensures, c.deref.ensures) at (c.kind_among.ensures (can_have ns)))
