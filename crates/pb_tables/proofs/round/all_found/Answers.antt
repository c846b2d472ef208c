use Rattle.std.proofs.Common.{refl}
use Rattle.pb_tables.proofs.Rounded.{is_round}
use Rattle.pb_tables.proofs.round.all_found.Goals as goal

pub returns-clause-round : goal.returns-clause-round
returns-clause-round c = λ ps v ls at found. is_round c.args.inventory.now v at ps ls c.args.found _ refl refl refl refl c.of_hosts.ensures.views found
