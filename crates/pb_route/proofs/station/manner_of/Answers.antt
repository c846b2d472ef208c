use Rattle.pb_route.proofs.Placed.{same_manner}
use Rattle.pb_route.proofs.station.manner_of.Goals as goal

pub returns : goal.returns
returns c = λ ms. same_manner _ _ _ _ _ _ _ _ (c.is_skippable.ensures ms) c.is_some.ensures c.is_some-2.ensures c.unwrap_or.ensures
