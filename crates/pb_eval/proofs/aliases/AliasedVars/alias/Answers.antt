use Rattle.std.proofs.Common.{◌∙◌}
use Rattle.pb_eval.proofs.aliases.AliasedVars.alias.Goals as goal

pub returns : goal.returns
returns g c = rw (← c.self.view_is) (c.field_of.ensures ∙ c.self.invariant c.args.name.now)
