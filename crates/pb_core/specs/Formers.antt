-- What Turns have changed, as it was before them.
use Rattle.std.specs.Prelude.{ℕ, List, [], ◌∷◌, Vec, Option, Some, None, slice_get}
use Rattle.std.specs.Vec.{with_item}
use Rattle.std.specs.declared.alloc.Global.{Global}
use Rattle.pb_core.specs.declared.entry.Former.{Former}
use Rattle.pb_core.specs.declared.host.HostState.{HostState}
use Rattle.pb_core.specs.declared.index.ReadyIndex.{ReadyIndex}
use Rattle.pb_core.specs.declared.run.RunCore.{RunCore}
use Rattle.pb_core.specs.declared.turns.Turned.{Turned}

module _ {P : Type 0} where
  -- the host stands where it stood
  abbrev pub stands_as : Former → HostState P → HostState P
  stands_as f x = record {
    position = f.position;
    handlers = f.handlers;
    stage = x.stage;
    recap = x.recap;
    room = f.room;
  }

  abbrev pub before_at : Former → Vec (HostState P) Global → Option (HostState P)
      → Vec (HostState P) Global
  before_at f xs None = xs
  before_at f xs (Some x) = with_item xs f.host (stands_as f x)

  abbrev pub before_one : Former → Vec (HostState P) Global → Vec (HostState P) Global
  before_one f xs = before_at f xs (slice_get xs.items f.host)

  -- the hosts before all these, of which the last was the last that began
  abbrev pub before_all : List Former → Vec (HostState P) Global → Vec (HostState P) Global
  before_all [] xs = xs
  before_all (f ∷ fs) xs = before_one f (before_all fs xs)

  -- the core that ran that batch with that index, before these hosts began
  abbrev pub before : ℕ → ReadyIndex → List Former → RunCore P → RunCore P
  before n index fs c =
      record c { current = n; index = index; hosts = before_all fs c.hosts }

  -- the core before those Turns
  abbrev pub before_turns : Turned → RunCore P → RunCore P
  before_turns t c = before t.current t.index t.formers.items c
