use Rattle.std.proofs.Common.{ap, ◌∙◌}
use Rattle.pb_taught.specs.TaughtView.{views_view}
use Rattle.pb_taught.proofs.Seen.{views-insert}
use Rattle.pb_taught.proofs.both.put_slots.Goals as goal

pub returns : goal.returns
returns c = ap views_view c.in_ok-insert.ensures.entries ∙ views-insert c.args.views.now.entries c.args.host c.args.slots
