use Rattle.pb_kind.proofs.Copies.{slots_view-copy}
use Rattle.pb_kind.proofs.kind.copy_slots.Goals as goal

pub returns : goal.returns
returns c = slots_view-copy c.args.slots.now.entries c.in_ok-clone.field-0.entries c.in_ok-clone.ensures.cases
