-- What is found of hosts, where some stand for others.
use Rattle.std.specs.Prelude.{◌≡◌, ℕ, List, Some, slice_get}
use Rattle.pb_language.specs.Program.{Inventory, Program}
use Rattle.pb_language.specs.Scope.{Later, View}
use Rattle.pb_language.specs.World.{HostVariables}
use Rattle.pb_alike.specs.Alike.{LookAlike}
use Rattle.pb_tables.specs.Found.{HostFinds}
use Rattle.pb_tables.specs.declared.end.HostEnd.{HostEnd}
use Rattle.pb_tables.specs.declared.host.HostFound.{HostFound}

abbrev pub found_in : HostEnd → HostFound
found_in e = record {
  find = record {
    fault = e.fault;
    next = e.next.value;
    is_settled = e.is_settled;
    is_same = e.is_same;
  };
  calls = e.calls;
}

-- of each host, in host order
abbrev pub AreEnds : Inventory → Program → List View → List (List Later) → List HostEnd → Type 0
AreEnds i ps views ls es = (h : ℕ) (x : HostVariables) (e : HostEnd) → slice_get es h ≡ Some e
    → slice_get i.hosts h ≡ Some x → HostFinds i ps views ls x (found_in e)

-- what is found of the host that stands for another is found of that one too
abbrev pub AreShared : Inventory → Program → List View → List (List Later) → List ℕ → Type 0
AreShared i ps views ls firsts = (h f : ℕ) (x y : HostVariables) (found : HostFound)
    → slice_get firsts h ≡ Some f → slice_get i.hosts f ≡ Some x → slice_get i.hosts h ≡ Some y
    → HostFinds i ps views ls x found → HostFinds i ps views ls y found

-- the host that stands for another looks like it
abbrev pub AreAlike : Inventory → Program → List ℕ → Type 0
AreAlike i ps firsts = (h f : ℕ) (x y : HostVariables) → slice_get firsts h ≡ Some f
    → slice_get i.hosts f ≡ Some x → slice_get i.hosts h ≡ Some y → LookAlike i ps x y
