-- What is known of names, as a tree over a list of them: a fork has the first half of the list on
-- its left, and the rest on its right.
use Rattle.std.specs.Prelude.{◌≡◌, ◌/◌, ◌==◌, List, [], ◌∷◌, length, take, drop, nat_le}
use Rattle.std.specs.Prelude.{Bool, true, false, not, ◌&&◌, ◌||◌}
use Rattle.std.specs.Cmp.Lexicographic.{slice_cmp}
use Rattle.std.specs.List.Sorted.{IsStrictlySortedBy}
use Rattle.std.specs.Ordering.{nat_cmp}
use Rattle.pb_semantics.specs.Kind.{KindData, Slots, no_slots, slot}
use Rattle.pb_semantics.specs.Below.{below}
use Rattle.pb_semantics.specs.Join.{join}
use Rattle.pb_semantics.specs.Well.{Well}
use Rattle.pb_language.specs.Expression.{Name}

pub data Tree : Type 0 where
  -- nothing is known of any of the names
  bare : Tree
  -- of the one name: whether it is certainly there, and of which kind
  known : Bool → KindData → Tree
  fork : Tree → Tree → Tree

abbrev pub left_half : List Name → List Name
left_half ns = take (length ns / 2) ns

abbrev pub right_half : List Name → List Name
right_half ns = drop (length ns / 2) ns

-- known over one name, forks over two or more
abbrev pub fits : Tree → List Name → Bool
fits bare ns = true
fits (known a k) ns = length ns == 1
fits (fork l r) ns = nat_le 2 (length ns) && (fits l (left_half ns) && fits r (right_half ns))

abbrev pub append_slots : Slots → Slots → Slots
append_slots no_slots ts = ts
append_slots (slot n a k ss) ts = slot n a k (append_slots ss ts)

abbrev pub slot_of_first : List Name → Bool → KindData → Slots
slot_of_first [] a k = no_slots
slot_of_first (n ∷ ns) a k = slot n a k no_slots

-- what is known of the names, in their order
abbrev pub slots_over : Tree → List Name → Slots
slots_over bare ns = no_slots
slots_over (known a k) ns = slot_of_first ns a k
slots_over (fork l r) ns =
    append_slots (slots_over l (left_half ns)) (slots_over r (right_half ns))

abbrev pub WellTree : Tree → Type 0
WellTree bare = Unit {0}
WellTree (known a k) = Well k
WellTree (fork l r) = WellTree l × WellTree r

-- none of the names is certainly there
abbrev pub is_uncertain : Tree → Bool
is_uncertain bare = true
is_uncertain (known a k) = not a
is_uncertain (fork l r) = is_uncertain l && is_uncertain r

-- the first is below the second, name by name
abbrev pub tree_below : Tree → Tree → Bool
tree_below bare u = is_uncertain u
tree_below (known a k) (known b m) = (a || not b) && below k m
tree_below (known a k) u = false
tree_below (fork l r) bare = tree_below l bare && tree_below r bare
tree_below (fork l r) (known b m) = false
tree_below (fork l r) (fork p q) = tree_below l p && tree_below r q

-- what is known, with nothing certain
abbrev pub uncertain : Tree → Tree
uncertain bare = bare
uncertain (known a k) = known false k
uncertain (fork l r) = fork (uncertain l) (uncertain r)

-- what is known where both meet, name by name
abbrev pub tree_join : Tree → Tree → Tree
tree_join bare u = uncertain u
tree_join (known a k) (known b m) = known (a && b) (join k m)
tree_join (known a k) u = known false k
tree_join (fork l r) (fork p q) = fork (tree_join l p) (tree_join r q)
tree_join (fork l r) u = uncertain (fork l r)

-- both may be over the same names
abbrev pub are_alike : Tree → Tree → Bool
are_alike bare u = true
are_alike (known a k) (fork p q) = false
are_alike (known a k) u = true
are_alike (fork l r) bare = true
are_alike (fork l r) (known b m) = false
are_alike (fork l r) (fork p q) = are_alike l p && are_alike r q

-- the last is a least tree above the others, over the same names
pub record IsJoin (t u v : Tree) : Type 0 where
  pub first : tree_below t v ≡ true
  pub second : tree_below u v ≡ true
  pub least : tree_below v (tree_join t u) ≡ true
  pub fitting : (ns : List Name) → fits t ns ≡ true → fits u ns ≡ true → fits v ns ≡ true

-- the names ascend by their bytes
abbrev pub IsAscending : List Name → Type 0
IsAscending ns = IsStrictlySortedBy (slice_cmp nat_cmp) ns
