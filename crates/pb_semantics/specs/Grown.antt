-- A join of many in one pass over each: the kinds of all fields, and the names of those that are
-- certain.
use Rattle.std.specs.Prelude.{ℕ, List, [], ◌∷◌, Bool, true, false, ◌&&◌, cond}
use Rattle.pb_semantics.specs.Kind.{KindData, Slots, Spot, no_slots, slot, nowhere, spot, slot_at}
use Rattle.pb_semantics.specs.Kind.{is_listed, put_slot}
use Rattle.pb_semantics.specs.Join.{join, join_slots, kind_with, put_name}
use Rattle.pb_semantics.specs.Keeps.{is_among}

-- the slots, certain those that the names list
abbrev pub marked : Slots → List (List ℕ) → Slots
marked no_slots ns = no_slots
marked (slot n a k ss) ns = slot n (is_among n ns) k (marked ss ns)

-- the slots, all of them certain
abbrev pub all_sure : Slots → Slots
all_sure no_slots = no_slots
all_sure (slot n a k ss) = slot n true k (all_sure ss)

-- the least kind above both, of which the first leads or else comes second
abbrev pub met : Bool → KindData → KindData → KindData
met true k m = join k m
met false k m = join m k

abbrev pub met_slots : Bool → Slots → Slots → Slots
met_slots true ss ts = join_slots ss ts
met_slots false ss ts = join_slots ts ss

-- the second with the first's kinds joined into it
abbrev pub puts : Bool → Slots → Slots → Slots
puts b no_slots us = us
puts b (slot n a k ss) us =
    puts b ss (put_slot n true (kind_with k (λ m. met b k m) (slot_at n us)) us)

abbrev pub is_sure : Spot → Bool
is_sure nowhere = false
is_sure (spot a k) = a

-- the last names with those of the slots that are certain
abbrev pub sure_names : Slots → List (List ℕ) → List (List ℕ)
sure_names no_slots ms = ms
sure_names (slot n a k ss) ms = sure_names ss (cond a (put_name n ms) ms)

-- the last names with those of the first that the first slots have for certain and the others list
abbrev pub still : List (List ℕ) → Slots → Slots → List (List ℕ) → List (List ℕ)
still [] ss ks ms = ms
still (n ∷ ns) ss ks ms =
    still ns ss ks (cond (is_sure (slot_at n ss) && is_listed n ks) (put_name n ms) ms)

-- the second with the first's slots put into it
abbrev pub closed : Slots → Slots → Slots
closed no_slots us = us
closed (slot n a k ss) us = closed ss (put_slot n a k us)
