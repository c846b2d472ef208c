use Rattle.std.proofs.Common.{ap, refl, ◌∙◌}
use Rattle.pb_kind.specs.Growing.{kinds_view}
use Rattle.pb_kind.proofs.GrowLemmas.{kinds_view-insert_entry}
use Rattle.pb_kind.proofs.grow.put.Goals as goal

pub returns : goal.returns
returns c = ap kinds_view c.in_ok-insert.ensures.entries ∙ kinds_view-insert_entry c.args.kinds.now.entries c.in_ok-clone.field-0 c.args.kind ∙ rw c.in_ok-clone.ensures.cases refl
