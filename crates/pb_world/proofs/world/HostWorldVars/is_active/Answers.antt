use Rattle.std.proofs.Common.{◌∙◌, sym}
use Rattle.pb_world.proofs.Shown.{active-known, active-unknown}
use Rattle.pb_world.proofs.world.HostWorldVars.is_active.Goals as goal

pub returns-in-Some : goal.returns-in-Some
returns-in-Some c =
    let w = c.args.self.now in
    c.has.ensures ∙ active-known w.variables.now.inventory.now c.args.host.now c.in-Some.place w.active.now.members c.in-Some.ensures.named c.in-Some.ensures.placed w.members

pub returns-in-None : goal.returns-in-None
returns-in-None c =
    let w = c.args.self.now in active-unknown w.variables.now.inventory.now c.args.host.now w.active.now.members (sym c.in-None.ensures.known) w.members
