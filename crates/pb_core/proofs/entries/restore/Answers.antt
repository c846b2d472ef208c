use Rattle.std.proofs.Common.{◌∙◌}
use Rattle.pb_core.proofs.Formers.{last_back}
use Rattle.pb_core.proofs.entries.restore.Goals as goal

pub loop-former-preserved : goal.loop-former-preserved
loop-former-preserved g c = last_back c.pop.new.self.items c.loop-former.formers.items c.in-Some.former c.loop-former.hosts c.restore_one.new.hosts c.in-Some.ensures.items c.restore_one.ensures ∙ c.loop-former.invariant
