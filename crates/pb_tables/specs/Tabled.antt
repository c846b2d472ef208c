-- What is the same for all hosts in a round, and what hosts look like to others in it.
use Rattle.std.specs.Prelude.{◌≡◌, ℕ, List, [], All, Option, Some, None, length, map}
use Rattle.std.specs.Global.{Vec}
use Rattle.std.specs.declared.alloc.Global.{Global}
use Rattle.std.specs.declared.sync.Arc.{Arc}
use Rattle.pb_language.specs.Expression.{Name}
use Rattle.pb_language.specs.Program.{Inventory}
use Rattle.pb_language.specs.Scope.{Later}
use Rattle.pb_lattice.specs.Arena.{names_of}
use Rattle.pb_inventory.specs.Inventory.{inventory_view}
use Rattle.pb_hosts.specs.Tables.{host_names, laters_from, since_view}
use Rattle.pb_hosts.specs.declared.lasting.Lasting.{Lasting}
use Rattle.pb_tables.specs.declared.table.Stage.{Stage}
use Rattle.pb_tables.specs.declared.table.Tables.{Tables}

-- of each host as many places as there are names
abbrev pub AreBeside : ℕ → Option (Vec (Arc Lasting Global)) → Type 0
AreBeside n None = Unit {0}
AreBeside n (Some ls) = All (λ l. length l.value.from.items ≡ n) ls.items

pub record AreTables (s : Stage) (t : Tables) : Type 0 where
  pub inventory : t.views.inventory.now ≡ s.inventory.now
  pub beside : All (AreBeside (length s.names.now)) t.laters.items

-- what each host has at its later places in a play
abbrev pub laters_there : Inventory → List Name → Option (Vec (Arc Lasting Global)) → List Later
laters_there i ns None = []
laters_there i ns (Some ls) =
    laters_from (host_names i) (map (λ l. since_view ns l.value) ls.items)

abbrev pub laters_in : Stage → List (Option (Vec (Arc Lasting Global))) → List (List Later)
laters_in s os = map (laters_there (inventory_view s.inventory.now) (names_of s.names.now)) os
