-- What is known of the one host, which stands in the groups `all` and `ungrouped`.
use Rattle.std.specs.Prelude.{[], ◌∷◌, false, codes}
use Rattle.pb_semantics.specs.Kind.{Slots, no_slots}
use Rattle.pb_language.specs.Expression.{Name}
use Rattle.pb_language.specs.Scope.{Scope, nothing}

abbrev pub one_host_scope : Name → Slots → Scope
one_host_scope host mine = record {
  own = mine;
  this = host;
  table = record { host = host; slots = mine } ∷ [];
  groups = record { name = codes "all"; hosts = host ∷ [] }
      ∷ record { name = codes "ungrouped"; hosts = host ∷ [] } ∷ [];
  laters = [];
  place = 0;
  own_slots = no_slots;
  views = [];
  learned = nothing;
  present = [];
  active = [];
  item_slots = no_slots;
  item_active = false;
}
