use Rattle.pb_inventory.specs.Inventory.{inventory_view}
use Rattle.pb_rules.specs.Names.{names_in}
use Rattle.pb_rules.specs.Rules.{all_asked}
use Rattle.pb_rules.proofs.Judged.{judged-all, judged-one}
use Rattle.pb_rules.proofs.rules.first_at.Goals as goal

pub loop-site-preserved : goal.loop-site-preserved
loop-site-preserved c ms h =
    let l = c.loop-site in
    judged-one ms (all_asked ms (inventory_view c.args.known.now.inventory.now) (names_in c.args.given.now)) c.args.sites.now l.site-index c.site-item.result l.first c.in_ok-broken.broken c.sooner-first.result
    (l.invariant ms h) c.loop-site-test.true c.site-item.is (c.in_ok-broken.ensures ms) c.sooner-first.ensures

pub returns : goal.returns
returns c ms h =
    let l = c.loop-site in
    judged-all ms (all_asked ms (inventory_view c.args.known.now.inventory.now) (names_in c.args.given.now)) c.args.sites.now l.site-index l.first (l.invariant ms h) c.loop-site-test.false
