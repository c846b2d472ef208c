use Rattle.std.proofs.Common.{[], refl}
use Rattle.pb_position.proofs.position.Position.new.Goals as goal

pub returns-clause-host : goal.returns-clause-host
returns-clause-host c h = c.in_ok-position.ensures.host (record h { failure = [] }) refl
