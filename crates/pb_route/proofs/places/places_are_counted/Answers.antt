use Rattle.pb_route.proofs.PlacesCounted.{places_are_counted}
use Rattle.pb_route.proofs.places.places_are_counted.Goals as goal

pub returns : goal.returns
returns c = places_are_counted
