use Rattle.pb_hosts.proofs.Sames.{slots_same}
use Rattle.pb_hosts.proofs.seen.Seen.of.Goals as goal

pub invariant_of-result : goal.invariant_of-result
invariant_of-result c = record { known = slots_same _ _ c.requires.known }
