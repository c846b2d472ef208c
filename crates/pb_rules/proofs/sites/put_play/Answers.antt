use Rattle.std.proofs.Common.{refl}
use Rattle.pb_flow.proofs.Blocks.{on-ok}
use Rattle.pb_rules.proofs.Put.{play-put}
use Rattle.pb_rules.proofs.sites.put_play.Goals as goal

pub returns : goal.returns
returns c =
    let play = c.args.play in
    on-ok c.put_handlers.result _ _ c.put_handlers.ensures (λ put. play-put c.in_ok-around.around.value play play.now.gathering c.deref.result.now c.deref-2.result.now c.deref-3.result.now c.deref-4.result.now
    c.args.sites.now.items c.put.new.sites.items c.put_gathering.new.sites.items c.put_steps.new.sites.items c.put_steps-2.new.sites.items c.put_steps-3.new.sites.items c.put_handlers.new.sites.items
    c.in_ok-around.ensures.play c.in_ok-around.ensures.blocks refl c.deref.ensures.value c.deref-2.ensures.value c.deref-3.ensures.value c.deref-4.ensures.value
    c.in_ok-put.ensures c.in_ok-put_gathering.ensures c.in_ok-put_steps.ensures c.in_ok-put_steps-2.ensures c.in_ok-put_steps-3.ensures put)
