use Rattle.pb_rules.proofs.Put.{handler-put}
use Rattle.pb_rules.proofs.sites.put_handlers.Goals as goal

pub loop-number-preserved : goal.loop-number-preserved
loop-number-preserved c =
    let l = c.loop-number in
    let h = c.index-handlers-number.result in
    handler-put c.args.around.now.value c.args.sites.now.items l.sites.items c.put.new.sites.items c.args.handlers.now l.number h c.requires l.invariant c.loop-number-test.true c.index-handlers-number.is c.in_ok-put.ensures
