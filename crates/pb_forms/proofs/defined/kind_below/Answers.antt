use Rattle.pb_language.specs.Narrow.{can_have}
use Rattle.pb_kind.proofs.KindLemmas.{kind_view-Any}
use Rattle.pb_kind.proofs.Views.{kind_view-Rec}
use Rattle.pb_forms.proofs.NewCases.{any-below}
use Rattle.pb_forms.proofs.defined.kind_below.Goals as goal

pub returns-in-Rec : goal.returns-in-Rec
returns-in-Rec c = λ ns. rw (c.in-Rec.is, kind_view-Rec c.in-Rec.slots) (rw (c.deref-in-Rec.ensures, c.deref.ensures) at (c.kind_among.ensures (can_have ns)))

pub returns-in-Any : goal.returns-in-Any
returns-in-Any c = λ ns. rw (c.in-Any.is, kind_view-Any) (any-below c.args.name.now ns)
