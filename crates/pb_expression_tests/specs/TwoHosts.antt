-- A world of two hosts, of which the first is asked and is alone active, and of a group of both.
use Rattle.std.specs.Prelude.{[], ◌∷◌, codes}
use Rattle.pb_semantics.specs.Data.{Fields}
use Rattle.pb_language.specs.World.{World}

abbrev pub two_hosts : Fields → Fields → Fields → World
two_hosts mine first second = record {
  mine = mine;
  this = codes "alpha";
  hosts = record { name = codes "alpha"; variables = first }
      ∷ record { name = codes "beta"; variables = second } ∷ [];
  batch = codes "alpha" ∷ [];
  groups = record { name = codes "web"; hosts = codes "beta" ∷ codes "alpha" ∷ [] } ∷ [];
}
