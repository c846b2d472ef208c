-- How the hosts of a batch begin their play.
use Rattle.std.specs.Prelude.{◌≡◌, ℕ, List, [], ◌∷◌, ◌++◌, Bool, true, false, ◌&&◌, ◌||◌, nat_eq}
use Rattle.std.specs.Prelude.{cond, map, Option, Some, None, slice_get}
use Rattle.pb_machine.specs.Steps as flat
use Rattle.pb_machine.specs.Hosts.{FlatHost, arrived}
use Rattle.pb_machine.specs.Run.{host_at, is_on, still_active}
use Rattle.pb_flow.specs.Nodes.{target_view}
use Rattle.pb_position.specs.declared.position.Location.{Location}
use Rattle.pb_position.specs.declared.position.Location.TheVariants.{End, Left, Node}
use Rattle.pb_position.specs.Positions.{IsAt}
use Rattle.pb_position.specs.Calls.{AreKept, emptied}
use Rattle.pb_core.specs.declared.batch.RunPlay.{RunPlay}
use Rattle.pb_core.specs.declared.entry.Entry.{Entry}
use Rattle.pb_core.specs.declared.host.HostState.{HostState}
use Rattle.pb_core.specs.declared.index.ReadyIndex.{ReadyIndex}
use Rattle.pb_core.specs.Readings.{Reading}
use Rattle.pb_core.specs.Indexes.{has_place}
use Rattle.pb_core.specs.Hosts.{PlaySize, IsHostAt, IsPlaceAt}

-- it hasn't left
abbrev pub is_here : Location → Bool
is_here End = true
is_here Left = false
is_here (Node n) = true

-- a host of the machine is there that hasn't left
abbrev pub on_at : Option FlatHost → Bool
on_at None = false
on_at (Some h) = is_on h

abbrev pub any_on : List FlatHost → List ℕ → Bool
any_on hs [] = false
any_on hs (m ∷ ms) = on_at (host_at m hs) || any_on hs ms

abbrev pub is_in : ℕ → List ℕ → Bool
is_in k [] = false
is_in k (m ∷ ms) = nat_eq k m || is_in k ms

-- it begins the play there (`Run.begun` of pb_machine)
pub record Begins (play : RunPlay) (h : FlatHost) (e : Entry) : Type 0 where
  pub host : (ss : List flat.Step) → AreKept ss play.plan.steps.items
      → IsAt e.position (arrived ss (target_view play.plan.begin) (emptied h))
  pub place : IsPlaceAt play.plan.steps.items e.position e.place
  pub handlers : e.handlers ≡ play.plan.handlers

abbrev pub BeginsAt : RunPlay → Option FlatHost → Option Entry → Type 0
BeginsAt play (Some h) (Some e) = Begins play h e
BeginsAt play p e = ⊥

abbrev pub EntryIf : RunPlay → Bool → Option FlatHost → Option Entry → Type 0
EntryIf play false p e = e ≡ None
EntryIf play true p e = BeginsAt play p e

-- a host begins that is a member and hasn't left, and no other
abbrev pub EntryFor : RunPlay → Bool → Option FlatHost → Option Entry → Type 0
EntryFor play b p e = EntryIf play (b && on_at p) p e

abbrev pub or_else : Option Entry → Option Entry → Option Entry
or_else None e = e
or_else (Some d) e = Some d

abbrev pub found_one : ℕ → Entry → Option Entry
found_one k e = cond (nat_eq k e.host) (Some e) None

-- the first entry of a host
abbrev pub found : ℕ → List Entry → Option Entry
found k [] = None
found k (e ∷ es) = or_else (found_one k e) (found k es)

abbrev pub with_entry : List Entry → Option Entry → List Entry
with_entry es None = es
with_entry es (Some e) = es ++ e ∷ []

abbrev pub is_at : ℕ → Option ℕ → Bool
is_at p None = false
is_at p (Some q) = nat_eq p q

-- by some entry the host waits at that place
abbrev pub waits_in : ℕ → ℕ → List Entry → Bool
waits_in p k [] = false
waits_in p k (e ∷ es) = (is_at p e.place && nat_eq k e.host) || waits_in p k es

-- the host of the entry waits where that says
pub record AddsEntry (e : Entry) (old new : ReadyIndex) : Type 0 where
  pub waiting : (p k : ℕ)
      → has_place p k new.waiting
      ≡ (is_at p e.place && nat_eq k e.host) || has_place p k old.waiting
  pub running : new.running ≡ old.running

abbrev pub AllBegin : RunPlay → List FlatHost → List Entry → Type 0
AllBegin play hs [] = Unit {0}
AllBegin play hs (e ∷ es) = BeginsAt play (host_at e.host hs) (Some e) × AllBegin play hs es

pub record HaveEntries (play : RunPlay) (ms : List ℕ) (hs : List FlatHost) (es : List Entry)
    : Type 0 where
  pub each : (k : ℕ) → EntryFor play (is_in k ms) (host_at k hs) (found k es)
  pub all : AllBegin play hs es

module _ {P : Type 0} where
  -- the code's hosts are those of the machine in a play of that size
  abbrev pub AreHosts : Reading P → PlaySize → List (HostState P) → List FlatHost → Type 0
  AreHosts reading z xs hs =
      (k : ℕ) → IsHostAt reading z k (slice_get xs k) (host_at k hs)

  abbrev pub IsHere : List (HostState P) → ℕ → Bool → Type 0
  IsHere xs k q = (reading : Reading P) (z : PlaySize) (hs : List FlatHost)
      → AreHosts reading z xs hs → q ≡ on_at (host_at k hs)

  abbrev pub IsAnyHere : List (HostState P) → List ℕ → Bool → Type 0
  IsAnyHere xs ms q = (reading : Reading P) (z : PlaySize) (hs : List FlatHost)
      → AreHosts reading z xs hs → q ≡ any_on hs ms

  -- those of the members that haven't left
  abbrev pub AreHere : List (HostState P) → List ℕ → List ℕ → Type 0
  AreHere xs ms ns = (reading : Reading P) (z : PlaySize) (hs : List FlatHost)
      → AreHosts reading z xs hs
      → map reading.name ns ≡ still_active hs (map reading.name ms)

  -- none of those that aren't left of the members is here
  abbrev pub AreOthersGone : List (HostState P) → List ℕ → List ℕ → Type 0
  AreOthersGone xs ms rest = (reading : Reading P) (z : PlaySize) (hs : List FlatHost)
      → AreHosts reading z xs hs → any_on hs ms ≡ any_on hs rest

  abbrev pub IsEntry : RunPlay → List (HostState P) → ℕ → Option Entry → Type 0
  IsEntry play xs k e = (reading : Reading P) (z : PlaySize) (hs : List FlatHost)
      → AreHosts reading z xs hs → EntryFor play true (host_at k hs) e

  abbrev pub AreEntries : RunPlay → List ℕ → List (HostState P) → List Entry → Type 0
  AreEntries play ms xs es = (reading : Reading P) (z : PlaySize) (hs : List FlatHost)
      → AreHosts reading z xs hs → HaveEntries play ms hs es

  -- the host as it begins the play
  abbrev pub entered : Option Entry → Option (HostState P) → Option (HostState P)
  entered e None = None
  entered None (Some x) = Some x
  entered (Some e) (Some x) = Some (record {
    position = e.position;
    handlers = e.handlers;
    stage = x.stage;
    recap = x.recap;
    room = e.room;
  })
