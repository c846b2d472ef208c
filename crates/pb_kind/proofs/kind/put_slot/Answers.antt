use Rattle.std.proofs.Common.{ap, ◌∙◌}
use Rattle.pb_kind.specs.KindView.{slots_view}
use Rattle.pb_kind.proofs.JoinLemmas.{slots_view-insert_entry}
use Rattle.pb_kind.proofs.kind.put_slot.Goals as goal

pub returns : goal.returns
returns c = ap slots_view c.in_ok-insert.ensures.entries ∙ slots_view-insert_entry c.args.slots.now.entries c.args.name c.args.slot
