use Rattle.std.proofs.Common.{arith, ◌<◌, length, get_or}
use Rattle.std.proofs.lemmas.List.{length-set}
use Rattle.pb_inventory.proofs.Depths.{deepened-more}
use Rattle.pb_inventory.proofs.family.deepen.Goals as goal

pub loop-group-preserved : goal.loop-group-preserved
loop-group-preserved c =
    let l = c.loop-group in
    let gs = c.args.groups.now in
    let lt : get_or gs l.group-index 0 < length l.depths = omega (arith, c.requires l.group-index 0 c.loop-group-test.true) in (
      omega (arith, length-set l.depths (get_or gs l.group-index 0) c.max.result),
      deepened-more c.args.depths.now l.depths gs c.args.depth l.group-index c.loop-group-test.true lt l.invariant.1 c.max.result c.max.ensures,
    )
