-- Names in the order of their bytes: those of a map's entries, and of what is made of them.
use Rattle.std.proofs.Common.{◌≡◌, ℕ, List, [], ◌∷◌, ◌++◌, map, true, String, Global, Less, Greater, string_bytes, string_cmp, nat_cmp, refl, ap, ◌∙◌}
use Rattle.std.proofs.lemmas.Cmp.{nat_list_cmp_total}
use Rattle.std.specs.BTreeMap.{insert_entry}
use Rattle.std.specs.Cmp.Lexicographic.{slice_cmp}
use Rattle.std.specs.List.{AllByRecursion}
use Rattle.std.specs.List.Sorted.{IsStrictlySortedBy}
use Rattle.std.specs.Map.{keys_of}
use Rattle.std.specs.Ordering.{is_lt, ordering_reverse}
use Rattle.pb_semantics.proofs.Bools.{and-both, and-left, and-right, untrue}
use Rattle.pb_template.specs.Entries.{are_ascending, is_below}

abbrev pub key_names : {V : Type 0} → List (String Global × V) → List (List ℕ)
key_names es = map (λ e. string_bytes e.0) es

abbrev pub Ascending : {V : Type 0} → List (String Global × V) → Type 0
Ascending es = IsStrictlySortedBy string_cmp (keys_of es)

below-above : {V : Type 0} → (n : String Global) (es : List (String Global × V)) → AllByRecursion (λ y. string_cmp n y ≡ Less) (keys_of es) → is_below (string_bytes n) (key_names es) ≡ true
below-above n [] h = refl
below-above n (e ∷ es) h = and-both _ _ (ap is_lt h.0) (below-above n es h.1)

-- the names of a map's entries stand in their order
pub ascending-keys : {V : Type 0} → (es : List (String Global × V)) → Ascending es → are_ascending (key_names es) ≡ true
unfolding IsStrictlySortedBy
ascending-keys [] h = refl
ascending-keys (e ∷ es) h = and-both _ _ (below-above e.0 es h.0) (ascending-keys es h.1)

below-without : (n m : List ℕ) (ns ms : List (List ℕ)) → is_below n (ns ++ m ∷ ms) ≡ true → is_below n (ns ++ ms) ≡ true
below-without n m [] ms h = and-right (is_lt (slice_cmp nat_cmp n m)) (is_below n ms) h
below-without n m (k ∷ ns) ms h = and-both _ _ (and-left (is_lt (slice_cmp nat_cmp n k)) (is_below n (ns ++ m ∷ ms)) h) (below-without n m ns ms (and-right (is_lt (slice_cmp nat_cmp n k)) (is_below n (ns ++ m ∷ ms)) h))

-- and so do all but one of them
pub ascending-without : (ns : List (List ℕ)) (m : List ℕ) (ms : List (List ℕ)) → are_ascending (ns ++ m ∷ ms) ≡ true → are_ascending (ns ++ ms) ≡ true
ascending-without [] m ms h = and-right (is_below m ms) (are_ascending ms) h
ascending-without (n ∷ ns) m ms h =
    and-both _ _ (below-without n m ns ms (and-left (is_below n (ns ++ m ∷ ms)) (are_ascending (ns ++ m ∷ ms)) h))
    (ascending-without ns m ms (and-right (is_below n (ns ++ m ∷ ms)) (are_ascending (ns ++ m ∷ ms)) h))

is_less : (o : _) → is_lt o ≡ true → o ≡ Less
is_less Less h = refl
is_less o h = untrue h

below-middle : (n m : List ℕ) (ns more : List (List ℕ)) → is_below n (ns ++ m ∷ more) ≡ true → slice_cmp nat_cmp n m ≡ Less
below-middle n m [] more h = is_less (slice_cmp nat_cmp n m) (and-left _ (is_below n more) h)
below-middle n m (k ∷ ns) more h = below-middle n m ns more (and-right (is_lt (slice_cmp nat_cmp n k)) _ h)

-- a name that is above those before it goes last
pub insert_entry-last : {V : Type 0} (done : List (String Global × V)) (k : String Global) (v : V) (more : List (List ℕ)) → are_ascending (key_names done ++ string_bytes k ∷ more) ≡ true
    → insert_entry string_cmp done k v ≡ done ++ (k, v) ∷ []
insert_entry-last [] k v more h = refl
insert_entry-last (e ∷ done) k v more h =
    let above : slice_cmp nat_cmp (string_bytes k) (string_bytes e.0) ≡ Greater =
    nat_list_cmp_total.antisymm (string_bytes k) (string_bytes e.0) ∙ ap ordering_reverse (below-middle (string_bytes e.0) (string_bytes k) (key_names done) more (and-left _ (are_ascending (key_names done ++ string_bytes k ∷ more)) h)) in
    rw above (ap (λ es. e ∷ es) (insert_entry-last done k v more (and-right (is_below (string_bytes e.0) (key_names done ++ string_bytes k ∷ more)) _ h)))

-- one more entry has the first name of those that were left
pub key_names-push : {V : Type 0} (done : List (String Global × V)) (k : String Global) (v : V) (left : List (List ℕ)) → key_names (done ++ (k, v) ∷ []) ++ left ≡ key_names done ++ string_bytes k ∷ left
key_names-push [] k v left = refl
key_names-push (x ∷ done) k v left = ap (λ ns. string_bytes x.0 ∷ ns) (key_names-push done k v left)
