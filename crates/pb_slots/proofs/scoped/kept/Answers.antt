use Rattle.std.proofs.Common.{sym, ap, ◌∙◌}
use Rattle.pb_slots.specs.Slots.{kept_slot}
use Rattle.pb_slots.proofs.Found.{as-tried}
use Rattle.pb_slots.proofs.scoped.kept.Goals as goal

pub returns-in-Some : goal.returns-in-Some
returns-in-Some c = c.ok.ensures.value ∙ as-tried c.in-Some.slot c.try_from.result c.try_from.ensures ∙ ap kept_slot (sym c.in-Some.is)
