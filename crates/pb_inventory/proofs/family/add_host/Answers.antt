use Rattle.pb_inventory.proofs.Marks.{marked-push}
use Rattle.pb_inventory.proofs.family.add_host.Goals as goal

pub returns-in_ok-push-clause-marks : goal.returns-in_ok-push-clause-marks
returns-in_ok-push-clause-marks c =
    rw c.in_ok-push.ensures.items (marked-push c.args.family.now.items c.args.seen.now c.args.stamp c.args.host c.requires.marks c.requires.known c.if-seen-host.true)
