-- The hosts of a play.
use Rattle.std.specs.Prelude.{List, [], ◌∷◌, codes, length, map, true}
use Rattle.pb_semantics.specs.Kind.{Slots, hosts, lists, no_slots, recs, texts}
use Rattle.pb_language.specs.Expression.{Name}
use Rattle.pb_language.specs.Plays.{names_of_handlers}
use Rattle.pb_language.specs.Program.{memberships_of}
use Rattle.pb_language.specs.Scope.{Later, View, with_slot}
use Rattle.pb_language.specs.Setting.{Setting, group_slots}
use Rattle.pb_language.specs.World.{Group}
use Rattle.pb_inventory.specs.Inventory.{inventory_view}
use Rattle.pb_inventory.specs.Patterns.{names_at}
use Rattle.pb_play.specs.Plays.{handler_view}
use Rattle.pb_hosts.specs.Tables.{host_names}
use Rattle.pb_hosts.specs.declared.cast.Cast.{Cast}

-- the names of the hosts of the play
abbrev pub cast_hosts : Cast → List Name
cast_hosts c = names_at (host_names (inventory_view c.inventory.now)) c.places.items

-- what the host of that name sees in the play
abbrev pub setting_in : Cast → List View → List Later → Name → Setting
setting_in c views laters h = record {
  this = h;
  groups = (inventory_view c.inventory.now).groups;
  memberships = memberships_of h (inventory_view c.inventory.now).groups;
  play_hosts = cast_hosts c;
  handlers = names_of_handlers (map handler_view c.play.now.handlers.items);
  views = views;
  laters = laters;
}

-- what is known of the names that are the same in each play, of the host of that name
abbrev pub constant_slots : List Group → Name → Slots
constant_slots gs h =
    with_slot (codes "inventory_hostname") true (hosts (h ∷ []))
    (with_slot (codes "groups") true (recs (group_slots gs))
    (with_slot (codes "group_names") true (lists texts (length (memberships_of h gs))) no_slots))
