use Rattle.std.proofs.Common.{◌∙◌, sym, ap}
use Rattle.pb_semantics.specs.Data.{field_value}
use Rattle.pb_world.proofs.Shown.{other-known, other-unknown}
use Rattle.pb_world.proofs.world.HostWorldVars.other.Goals as goal

pub returns-in-Some : goal.returns-in-Some
returns-in-Some c =
    c.value.ensures ∙ ap (field_value c.args.name.now) (other-known c.args.self.now.variables.now c.args.host.now c.in-Some.place c.in-Some.ensures.named c.in-Some.ensures.placed)

pub returns-in-None : goal.returns-in-None
returns-in-None c = ap (field_value c.args.name.now) (other-unknown c.args.self.now.variables.now c.args.host.now (sym c.in-None.ensures.known))
