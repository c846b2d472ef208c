-- The scope of a host alone.
use Rattle.std.specs.Prelude.{[], false}
use Rattle.pb_semantics.specs.Kind.{Slots, no_slots}
use Rattle.pb_language.specs.Scope.{Scope, nothing}

-- where only the host's own variables are known
abbrev pub own_scope : Slots → Scope
own_scope ss = record {
  own = ss;
  this = [];
  table = [];
  groups = [];
  laters = [];
  place = 0;
  own_slots = no_slots;
  views = [];
  learned = nothing;
  present = [];
  active = [];
  item_slots = no_slots;
  item_active = false;
}
