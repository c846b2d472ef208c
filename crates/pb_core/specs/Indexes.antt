-- An index of the hosts that aren't idle, by place and then by host order.
use Rattle.std.specs.Prelude.{◌≡◌, ℕ, ◌+◌, List, [], Bool, true, false, nat_eq, ◌&&◌, ◌||◌}
use Rattle.std.specs.Prelude.{map, Option, Some, None, length, slice_get, slice_set as set}
use Rattle.std.specs.declared.cmp.Ordering.{Ordering}
use Rattle.std.specs.Ordering.{nat_cmp, ordering_then}
use Rattle.std.specs.BTreeSet.{BTreeSet, contains}
use Rattle.pb_core.specs.declared.index.ReadyIndex.{ReadyIndex}
use Rattle.pb_core.specs.Activities.{Activity, idle, ready, runs, running_in}

abbrev pub place_cmp : ℕ × ℕ → ℕ × ℕ → Ordering
place_cmp x y = ordering_then (nat_cmp x.0 y.0) (nat_cmp x.1 y.1)

abbrev pub Places : Type 0
Places = BTreeSet (ℕ × ℕ)

abbrev pub has_place : ℕ → ℕ → Places → Bool
has_place p k s = contains place_cmp s (p, k)

abbrev pub is_ready : ℕ → Option Activity → Bool
is_ready p (Some (ready q)) = nat_eq p q
is_ready p o = false

-- the set has each host that waits before a task, with its place, and nothing else
abbrev pub HasPlaces : Places → List Activity → Type 0
HasPlaces s xs = (p k : ℕ) → has_place p k s ≡ is_ready p (slice_get xs k)

-- those that wait for those that run, and the other way round
abbrev pub exchanged : Activity → Activity
exchanged idle = idle
exchanged (ready p) = runs p
exchanged (runs p) = ready p

-- the index is that of these hosts
pub record IsIndexOf (x : ReadyIndex) (xs : List Activity) : Type 0 where
  pub waiting : HasPlaces x.waiting xs
  pub running : HasPlaces x.running (map exchanged xs)
  pub count : length x.running.keys ≡ running_in xs

-- nothing runs, and those wait of which that is so
pub record HoldsOnly (f : ℕ → ℕ → Bool) (x : ReadyIndex) : Type 0 where
  pub waiting : (p k : ℕ) → has_place p k x.waiting ≡ f p k
  pub running : x.running.keys ≡ []

abbrev pub is_not_ready : Activity → Bool
is_not_ready idle = true
is_not_ready (ready p) = false
is_not_ready (runs p) = true

-- a host that waited at that place doesn't wait any more
pub record TakesOut (k p : ℕ) (old new : Places) : Type 0 where
  pub places : (xs : List Activity) (a : Activity) → HasPlaces old xs
      → slice_get xs k ≡ Some (ready p) → is_not_ready a ≡ true → HasPlaces new (set xs k a)
  pub count : has_place p k old ≡ true → length old.keys ≡ length new.keys + 1

-- a host that waited nowhere waits at that place
pub record PutsIn (k p : ℕ) (old new : Places) : Type 0 where
  pub places : (xs : List Activity) (a : Activity) → HasPlaces old xs → slice_get xs k ≡ Some a
      → is_not_ready a ≡ true → HasPlaces new (set xs k (ready p))
  pub count : has_place p k old ≡ false → length new.keys ≡ length old.keys + 1

-- that place and host are in, and else it is xs it was
abbrev pub AddsPlace : ℕ → ℕ → Places → Places → Type 0
AddsPlace k p old new =
    (q j : ℕ) → has_place q j new ≡ (nat_eq q p && nat_eq j k) || has_place q j old

-- a host that waited at that place runs its task
pub record BeginsIn (k p : ℕ) (old new : ReadyIndex) : Type 0 where
  pub index : (xs : List Activity) → IsIndexOf old xs → slice_get xs k ≡ Some (ready p)
      → IsIndexOf new (set xs k (runs p))

-- a host whose task ran at that place is idle
pub record LeavesIn (k p : ℕ) (old new : ReadyIndex) : Type 0 where
  pub index : (xs : List Activity) → IsIndexOf old xs → slice_get xs k ≡ Some (runs p)
      → IsIndexOf new (set xs k idle)

abbrev pub waits_at : Option ℕ → Activity
waits_at None = idle
waits_at (Some q) = ready q

-- a host whose task ran at that place waits before another, or is idle
pub record GoesOnIn (k p : ℕ) (o : Option ℕ) (old new : ReadyIndex) : Type 0 where
  pub index : (xs : List Activity) → IsIndexOf old xs → slice_get xs k ≡ Some (runs p)
      → IsIndexOf new (set xs k (waits_at o))
