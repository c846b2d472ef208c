-- What is found of a host on its way through one play.
use Rattle.std.specs.Prelude.{◌≡◌, ◌+◌, List, [], map, Option, Some, None}
use Rattle.pb_semantics.specs.Kind.{Slots}
use Rattle.pb_language.specs.Expression.{Name}
use Rattle.pb_language.specs.Judgement.{Exit}
use Rattle.pb_language.specs.Program.{Inventory}
use Rattle.pb_language.specs.Scope.{Later}
use Rattle.pb_language.specs.Setting.{Setting}
use Rattle.pb_language.specs.Tables.{row_calls}
use Rattle.pb_language.specs.Task.{Row}
use Rattle.pb_language.specs.Walk.{Visit, walk}
use Rattle.pb_language.specs.Wells.{WellExit}
use Rattle.pb_lattice.specs.Arena.{names_of}
use Rattle.pb_walks.specs.Agree.{AllVisitsAgree, ExitsAgree}
use Rattle.pb_find.specs.Finds.{Finds}
use Rattle.pb_hosts.specs.Tables.{host_names, laters_from, since_view}
use Rattle.pb_hosts.specs.declared.lasting.Lasting.{Lasting}
use Rattle.pb_hosts.specs.declared.seen.Laters.{Laters}
use Rattle.pb_lasting.specs.Lasts.{Lasts}
use Rattle.pb_tables.specs.declared.host.HostFound.{HostFound}

-- a way through the play from one exit to another, which agrees with the walk of its row
pub record IsWay (st : Setting) (row : Row) (from to : Exit) (vs : List Visit) : Type 0 where
  pub visits : AllVisitsAgree vs (walk st row from).visits
  pub ends : ExitsAgree to (walk st row from).well
  pub well : WellExit to

-- what is found on such a way, after what was found before
pub record PlayFinds (h : Name) (st : Setting) (row : Row) (view : Slots) (from to : Exit)
    (old new : HostFound) : Type 0 where
  pub visits : List Visit
  pub way : IsWay st row from to visits
  pub finds : Finds h view visits old.find new.find
  pub calls : new.calls ≡ old.calls + row_calls visits row

-- from which places on the host has its variables, as such a way says
pub record PlayLasts (ns : List Name) (st : Setting) (row : Row) (from to : Exit) (l : Lasting)
    : Type 0 where
  pub visits : List Visit
  pub way : IsWay st row from to visits
  pub lasts : Lasts ns l visits to

-- what each host has at its later places, where that is known
abbrev pub laters_here : Inventory → Option Laters → List Later
laters_here i None = []
laters_here i (Some l) =
    laters_from (host_names i) (map (λ x. since_view (names_of l.names.now) x.value) l.hosts.now)
