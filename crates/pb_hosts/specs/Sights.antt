-- What a host of a play sees.
use denote.Ref.{Bor}
use Rattle.std.specs.Prelude.{List, [], map, Option, Some, None}
use Rattle.pb_language.specs.Program.{Inventory}
use Rattle.pb_language.specs.Scope.{Later}
use Rattle.pb_language.specs.Setting.{Setting}
use Rattle.pb_inventory.specs.Inventory.{inventory_view}
use Rattle.pb_lattice.specs.Arena.{names_of}
use Rattle.pb_hosts.specs.Casts.{setting_in}
use Rattle.pb_hosts.specs.Shown.{views_view}
use Rattle.pb_hosts.specs.Tables.{host_names, laters_from, since_view}
use Rattle.pb_hosts.specs.declared.seen.Laters.{Laters}
use Rattle.pb_hosts.specs.declared.seen.Seen.{Seen}

abbrev pub laters_view : Inventory → Option (Bor Laters) → List Later
laters_view i None = []
laters_view i (Some l) = laters_from (host_names i)
    (map (λ x. since_view (names_of l.now.names.now) x.value) l.now.hosts.now)

abbrev pub seen_setting : Seen → Setting
seen_setting s = setting_in s.cast.now (views_view s.views.now)
    (laters_view (inventory_view s.cast.now.inventory.now) s.laters) s.constants.now.name.now
