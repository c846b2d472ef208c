-- The least kind above two others, by recursion over the first.
use Rattle.std.specs.Prelude.{ℕ, List, [], ◌∷◌, Bool, false, ◌&&◌, cond, max}
use Rattle.std.specs.Ordering.{nat_cmp, match_ordering}
use Rattle.std.specs.Cmp.Lexicographic.{slice_cmp}
use Rattle.pb_semantics.specs.Kind.{KindData, Slots, Cases, Spot, never, nulls, booleans, ints}
use Rattle.pb_semantics.specs.Kind.{texts, hosts, lists, recs, results, anything, no_slots, slot}
use Rattle.pb_semantics.specs.Kind.{no_cases, one, nowhere, spot, slot_at, is_listed, put_slot}
use Rattle.pb_semantics.specs.Below.{is_covered}

-- the names with that one, at its place in the order of the bytes
abbrev pub put_name : List ℕ → List (List ℕ) → List (List ℕ)
put_name n [] = n ∷ []
put_name n (m ∷ ms) =
    match_ordering (slice_cmp nat_cmp n m) (n ∷ m ∷ ms) (m ∷ ms) (m ∷ put_name n ms)

-- the second's names, and with them the first's
abbrev pub add_names : List (List ℕ) → List (List ℕ) → List (List ℕ)
add_names [] ms = ms
add_names (n ∷ ns) ms = add_names ns (put_name n ms)

abbrev pub append_cases : Cases → Cases → Cases
append_cases no_cases ds = ds
append_cases (one m sh fl k cs) ds = one m sh fl k (append_cases cs ds)

-- the cases that aren't among the others
abbrev pub new_cases : Cases → Cases → Cases
new_cases no_cases cs = no_cases
new_cases (one m sh fl k ds) cs =
    cond (is_covered m sh fl k cs) (new_cases ds cs) (one m sh fl k (new_cases ds cs))

-- the first's cases, then those of the second that are new
abbrev pub add_cases : Cases → Cases → Cases
add_cases cs ds = append_cases cs (new_cases ds cs)

-- the last with the first's slots put into it that the second doesn't list, none of them certain
abbrev pub with_others : Slots → Slots → Slots → Slots
with_others no_slots ss us = us
with_others (slot n b m ts) ss us =
    with_others ts ss (cond (is_listed n ss) us (put_slot n false m us))

abbrev pub presence_with : Bool → Spot → Bool
presence_with a nowhere = false
presence_with a (spot b m) = a && b

abbrev pub kind_with : KindData → (KindData → KindData) → Spot → KindData
kind_with k f nowhere = k
kind_with k f (spot b m) = f m

-- a record with what is known of a result's cases
abbrev pub record_with : Slots → (Slots → Slots) → KindData → KindData
record_with ss f never = recs ss
record_with ss f (recs ts) = recs (with_others ts ss (f ts))
record_with ss f k = anything

abbrev mutual
  pub join : KindData → KindData → KindData
  join never m = m
  join nulls never = nulls
  join nulls nulls = nulls
  join booleans never = booleans
  join booleans booleans = booleans
  join ints never = ints
  join ints ints = ints
  join texts never = texts
  join texts texts = texts
  join texts (hosts ms) = texts
  join (hosts ns) never = hosts ns
  join (hosts ns) texts = texts
  join (hosts ns) (hosts ms) = hosts (add_names ns ms)
  join (lists k n) never = lists k n
  join (lists k n) (lists m o) = lists (join k m) (max n o)
  join (recs ss) never = recs ss
  join (recs ss) (recs ts) = recs (with_others ts ss (joined ss ts))
  join (recs ss) (results ds q) = record_with ss (λ ts. joined ss ts) q
  join (results cs r) never = results cs r
  join (results cs r) (recs ts) = join r (recs ts)
  join (results cs r) (results ds q) = results (add_cases cs ds) (join r q)
  join k m = anything

  -- the first's slots, each with what the second knows of it
  pub joined : Slots → Slots → Slots
  joined no_slots ts = no_slots
  joined (slot n a k ss) ts = slot n (presence_with a (slot_at n ts))
      (kind_with k (λ m. join k m) (slot_at n ts)) (joined ss ts)

-- where two environments meet
abbrev pub join_slots : Slots → Slots → Slots
join_slots ss ts = with_others ts ss (joined ss ts)

-- what is known of a name where two environments meet
abbrev pub join_spot : Spot → Spot → Spot
join_spot nowhere nowhere = nowhere
join_spot nowhere (spot b m) = spot false m
join_spot (spot a k) nowhere = spot false k
join_spot (spot a k) (spot b m) = spot (a && b) (join k m)
