use Rattle.std.proofs.Common.{◌∙◌}
use Rattle.pb_kind.specs.KindView.{slots_view}
use Rattle.pb_kind.proofs.KindLemmas.{found_listed}
use Rattle.pb_kind.proofs.below.has_field.Goals as goal

pub returns : goal.returns
returns c = c.is_some.ensures ∙ found_listed c.args.name.now (slots_view c.args.slots.now.entries) c.find.result c.find.ensures
