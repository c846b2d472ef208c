-- What a binary search among names in their order says of slots.
use denote.Ref.{Bor}
use Rattle.std.proofs.Common.{◌≡◌, inl, inr, ℕ, zero, suc, ◌<◌, ◌≤◌, List, [], ◌∷◌, ◌++◌, append_assoc, length, map, get_or, Bool, true, false, cond, bytes_eq, nat_cmp, String, Global, string_bytes, Some, None, Result, Ok, Err, refl, sym, ap, subst, ◌∙◌, arith}
use Rattle.std.specs.Prelude.{nat_lt}
use Rattle.std.specs.Cmp.Lexicographic.{slice_cmp}
use Rattle.std.specs.List.{AllByRecursion, position, position_or_len}
use Rattle.std.specs.List.Sorted.{IsBinarySearchResult, IsNonDecreasingBy, IsStrictlySortedBy}
use Rattle.std.specs.Result.{OkIff, result_ok}
use Rattle.std.specs.Ordering.{ordering_index, ordering_reverse}
use Rattle.std.specs.declared.cmp.Ordering.{Ordering}
use Rattle.std.specs.declared.cmp.Ordering.TheVariants.{Less, Equal, Greater}
use Rattle.std.proofs.lemmas.Bool.{cases_lt, lt-ltb, ltb-true}
use Rattle.std.proofs.lemmas.Cmp.{nat_list_cmp_total}
use Rattle.std.proofs.lemmas.List.{append-nil, get_or-map, length-map, map-append}
use Rattle.std.proofs.lemmas.List.Sums.{position_or_len_is}
use Rattle.pb_semantics.proofs.Ascending.{below-both, below-first, below-rest}
use Rattle.pb_semantics.proofs.Bools.{untrue, and-left, and-right, and-both}
use Rattle.pb_semantics.proofs.Names.{own_name}
use Rattle.pb_language.specs.Expression.{Name}
use Rattle.pb_template.specs.Entries.{are_ascending, is_below}
use Rattle.pb_vars.proofs.Ordered.{less-turned}
use Rattle.pb_vars.proofs.Searched.{equal-names, greater-differs}
use Rattle.pb_slots.specs.Slots.{kept_slot, slot_in}

abbrev order : Name → Name → Ordering
order n m = slice_cmp nat_cmp n m

abbrev names_of : List (String Global) → List Name
names_of es = map (λ e. string_bytes e) es

-- ---- the first place that passes

chosen : {A : Type 0} (q : Bool) (a b : A) → q ≡ true → cond q a b ≡ a
chosen true a b h = refl
chosen false a b h = untrue h

passed : {A : Type 0} (q : Bool) (a b : A) → q ≡ false → cond q a b ≡ b
passed true a b h = untrue (sym h)
passed false a b h = refl

not-below : (n : ℕ) → nat_lt n n ≡ false
not-below n = grind arith

within : (n m : ℕ) → n < m → nat_lt n m ≡ true
within n m l = lt-ltb n m l

position-at : (p : Name → Bool) (ns : List Name) (i : ℕ) → i < length ns → ((k : ℕ) → k < i → p (get_or ns k []) ≡ false) → p (get_or ns i []) ≡ true → position p ns ≡ Some i
position-at p ns i l before at =
    let first : position_or_len p ns ≡ i = position_or_len_is p ns i [] (omega (arith, l)) before (λ _. at) in
    ap (λ j. cond (nat_lt j (length ns)) (Some j) None) first ∙ chosen (nat_lt i (length ns)) (Some i) None (within i (length ns) l)

position-none : (p : Name → Bool) (ns : List Name) → ((k : ℕ) → k < length ns → p (get_or ns k []) ≡ false) → position p ns ≡ None
position-none p ns none =
    let last : position_or_len p ns ≡ length ns = position_or_len_is p ns (length ns) [] (omega arith) none (λ l. absurd (omega (arith, l))) in
    ap (λ j. cond (nat_lt j (length ns)) (Some j) None) last ∙ passed (nat_lt (length ns) (length ns)) (Some (length ns)) None (not-below (length ns))

-- ---- names in their order

in-step : (o : Ordering) (n m k : Name) → order n k ≡ o → order n m ≡ Less → ordering_index o ≤ ordering_index (order m k)
in-step Less n m k e l = omega arith
in-step Equal n m k e l =
    let turned : order m k ≡ Greater = ap (order m) (sym (equal-names n k e)) ∙ nat_list_cmp_total.antisymm m n ∙ ap ordering_reverse l in
    rw turned (omega arith)
in-step Greater n m k e l =
    let below : order k n ≡ Less = nat_list_cmp_total.antisymm k n ∙ ap ordering_reverse e in
    let turned : order m k ≡ Greater = nat_list_cmp_total.antisymm m k ∙ ap ordering_reverse (nat_list_cmp_total.trans k n m below l) in
    rw turned (omega arith)

same-place : (f : ℕ → ℕ) (i j : ℕ) → i ≤ j → j ≤ i → f i ≤ f j
same-place f i j l m = let e : i ≡ j = omega (arith, l, m) in rw e (omega arith)

-- a name behind another is above it
below-at : (n : Name) (es : List (String Global)) (i : ℕ) (d : String Global) → is_below n (names_of es) ≡ true → i < length es → order n (string_bytes (get_or es i d)) ≡ Less
below-at n [] i d h l = absurd (omega (arith, l))
below-at n (e ∷ es) zero d h l = below-first n (string_bytes e) (names_of es) h
below-at n (e ∷ es) (suc i) d h l = below-at n es i d (below-rest n (string_bytes e) (names_of es) h) (omega (arith, l))

rising : (es : List (String Global)) (i j : ℕ) (d : String Global) → are_ascending (names_of es) ≡ true → i < j → j < length es → order (string_bytes (get_or es i d)) (string_bytes (get_or es j d)) ≡ Less
rising [] i j d h l m = absurd (omega (arith, m))
rising (e ∷ es) i zero d h l m = absurd (omega (arith, l))
rising (e ∷ es) zero (suc j) d h l m = below-at (string_bytes e) es j d (and-left (is_below (string_bytes e) (names_of es)) (are_ascending (names_of es)) h) (omega (arith, m))
rising (e ∷ es) (suc i) (suc j) d h l m = rising es i j d (and-right (is_below (string_bytes e) (names_of es)) (are_ascending (names_of es)) h) (omega (arith, l)) (omega (arith, m))

rises : (es : List (String Global)) (n : Name) → are_ascending (names_of es) ≡ true → IsNonDecreasingBy (λ e. ordering_index (order (string_bytes e) n)) es
rises es n h i j d l m = elim (cases_lt i j) [
  | inl less ↦ in-step (order (string_bytes (get_or es i d)) n) (string_bytes (get_or es i d)) (string_bytes (get_or es j d)) n refl (rising es i j d h less m)
  | inr least ↦ same-place (λ k. ordering_index (order (string_bytes (get_or es k d)) n)) i j l least
]

-- ---- the place that is found is the first one, and where none is found there is none

name-at : (es : List (String Global)) (k : ℕ) (d : String Global) → k < length es → get_or (names_of es) k [] ≡ string_bytes (get_or es k d)
name-at es k d l = get_or-map (λ (e : String Global). string_bytes e) es k d [] l

size : (es : List (String Global)) → length (names_of es) ≡ length es
size es = length-map es (λ (e : String Global). string_bytes e)

differs-before : (e : String Global) (es : List (String Global)) (n : Name) (i k : ℕ) → are_ascending (names_of (e ∷ es)) ≡ true → string_bytes (get_or (e ∷ es) i e) ≡ n → i < length (e ∷ es) → k < i
    → bytes_eq n (get_or (names_of (e ∷ es)) k []) ≡ false
differs-before e es n i k o there l below =
    let less : order (string_bytes (get_or (e ∷ es) k e)) n ≡ Less = subst (λ m. order (string_bytes (get_or (e ∷ es) k e)) m ≡ Less) there (rising (e ∷ es) k i e o below l) in
    ap (bytes_eq n) (name-at (e ∷ es) k e (omega (arith, below, l))) ∙ less-turned (string_bytes (get_or (e ∷ es) k e)) n less

place-found : (es : List (String Global)) (n : Name) (i : ℕ) → are_ascending (names_of es) ≡ true → i < length es → IsBinarySearchResult (λ e. order (string_bytes e) n) es (Ok i)
    → position (bytes_eq n) (names_of es) ≡ Some i
place-found [] n i o l h = absurd (omega (arith, l))
place-found (e ∷ es) n i o l h =
    let there : string_bytes (get_or (e ∷ es) i e) ≡ n = equal-names (string_bytes (get_or (e ∷ es) i e)) n (h e) in
    let few : i < length (names_of (e ∷ es)) = subst (λ m. i < m) (sym (size (e ∷ es))) l in
    let at : bytes_eq n (get_or (names_of (e ∷ es)) i []) ≡ true = ap (bytes_eq n) (name-at (e ∷ es) i e l ∙ there) ∙ own_name n in
    position-at (bytes_eq n) (names_of (e ∷ es)) i few (λ k below. differs-before e es n i k o there l below) at

other-there : (e : String Global) (es : List (String Global)) (n : Name) (i k : ℕ) → are_ascending (names_of (e ∷ es)) ≡ true → IsBinarySearchResult (λ x. order (string_bytes x) n) (e ∷ es) (Err i) → k < length (e ∷ es)
    → bytes_eq n (string_bytes (get_or (e ∷ es) k e)) ≡ false
other-there e es n i k o h l = elim (cases_lt k i) [
  | inl less ↦ less-turned (string_bytes (get_or (e ∷ es) k e)) n ((h (rises (e ∷ es) n o)).0 k e (omega arith) less)
  | inr least ↦ greater-differs (string_bytes (get_or (e ∷ es) k e)) n ((h (rises (e ∷ es) n o)).1 k e least l)
]

missing-there : (e : String Global) (es : List (String Global)) (n : Name) (i k : ℕ) → are_ascending (names_of (e ∷ es)) ≡ true → IsBinarySearchResult (λ x. order (string_bytes x) n) (e ∷ es) (Err i)
    → k < length (names_of (e ∷ es)) → bytes_eq n (get_or (names_of (e ∷ es)) k []) ≡ false
missing-there e es n i k o h few =
    let l : k < length (e ∷ es) = subst (λ m. k < m) (size (e ∷ es)) few in
    ap (bytes_eq n) (name-at (e ∷ es) k e l) ∙ other-there e es n i k o h l

place-missing : (es : List (String Global)) (n : Name) (i : ℕ) → are_ascending (names_of es) ≡ true → IsBinarySearchResult (λ e. order (string_bytes e) n) es (Err i) → position (bytes_eq n) (names_of es) ≡ None
place-missing [] n i o h = refl
place-missing (e ∷ es) n i o h = position-none (bytes_eq n) (names_of (e ∷ es)) (λ k few. missing-there e es n i k o h few)

pub slot-found : (ss es : List (String Global)) (n : Name) (i : ℕ) (r : Result ℕ ℕ) → are_ascending (names_of es) ≡ true → ss ≡ es → r ≡ Ok i → i < length ss → IsBinarySearchResult (λ e. order (string_bytes e) n) ss r
    → Some i ≡ slot_in (names_of es) n
slot-found ss es n i r o same is l h =
    let found : IsBinarySearchResult (λ e. order (string_bytes e) n) ss (Ok i) = subst (λ x. IsBinarySearchResult (λ e. order (string_bytes e) n) ss x) is h in
    let there : IsBinarySearchResult (λ e. order (string_bytes e) n) es (Ok i) = subst (λ xs. IsBinarySearchResult (λ e. order (string_bytes e) n) xs (Ok i)) same found in
    sym (place-found es n i o (subst (λ xs. i < length xs) same l) there)

pub slot-missing : (ss es : List (String Global)) (n : Name) (i : ℕ) (r : Result ℕ ℕ) → are_ascending (names_of es) ≡ true → ss ≡ es → r ≡ Err i → IsBinarySearchResult (λ e. order (string_bytes e) n) ss r
    → None ≡ slot_in (names_of es) n
slot-missing ss es n i r o same is h =
    let missing : IsBinarySearchResult (λ e. order (string_bytes e) n) ss (Err i) = subst (λ x. IsBinarySearchResult (λ e. order (string_bytes e) n) ss x) is h in
    let there : IsBinarySearchResult (λ e. order (string_bytes e) n) es (Err i) = subst (λ xs. IsBinarySearchResult (λ e. order (string_bytes e) n) xs (Err i)) same missing in
    sym (place-missing es n i o there)

-- ---- a place as a number of 32 bits

refused : (q : Bool) (i : ℕ) → nat_lt i 4294967296 ≡ q → (i < 4294967296 → ⊥) → None ≡ cond q (Some i) None
refused true i h never = absurd (never (ltb-true i 4294967296 h))
refused false i h never = refl

pub as-tried : {E : Type 0} (i : ℕ) (r : Result ℕ E) → OkIff r (i < 4294967296) i → result_ok r ≡ kept_slot (Some i)
as-tried i (Ok x) h = ap Some h.1 ∙ sym (chosen (nat_lt i 4294967296) (Some i) None (within i 4294967296 h.0))
as-tried i (Err d) h = refused (nat_lt i 4294967296) i refl h

-- ---- the names of a set

abbrev texts : List (Bor (List ℕ)) → List Name
texts ns = map (λ n. n.now) ns

below-all : (n : Name) (ks : List (Bor (List ℕ))) → AllByRecursion (λ m. order n m.now ≡ Less) ks → is_below n (texts ks) ≡ true
below-all n [] h = refl
below-all n (k ∷ ks) h = below-both n k.now (texts ks) h.0 (below-all n ks h.1)

ascends : (ks : List (Bor (List ℕ))) → IsStrictlySortedBy (λ n m. order n.now m.now) ks → are_ascending (texts ks) ≡ true
unfolding IsStrictlySortedBy
ascends [] h = refl
ascends (k ∷ ks) h = and-both (is_below k.now (texts ks)) (are_ascending (texts ks)) (below-all k.now ks h.0) (ascends ks h.1)

pub begun : (es : List (String Global)) (rest ks : List (Bor (List ℕ))) → es ≡ [] → rest ≡ ks → names_of es ++ texts rest ≡ texts ks
begun es rest ks none all = ap (λ xs. names_of xs ++ texts rest) none ∙ ap texts all

pub each-pushed : (new old : List (String Global)) (s : String Global) (n : Bor (List ℕ)) (rest left : List (Bor (List ℕ))) (ns : List Name) → new ≡ old ++ s ∷ [] → string_bytes s ≡ n.now → rest ≡ n ∷ left
    → names_of old ++ texts rest ≡ ns → names_of new ++ texts left ≡ ns
each-pushed new old s n rest left ns push same step h =
    ap (λ es. names_of es ++ texts left) push ∙ ap (λ ms. ms ++ texts left) (map-append (λ (e : String Global). string_bytes e) old (s ∷ [])) ∙ append_assoc (names_of old) (string_bytes s ∷ []) (texts left)
    ∙ ap (λ m. names_of old ++ m ∷ texts left) same ∙ ap (λ xs. names_of old ++ texts xs) (sym step) ∙ h

pub all-ascend : (es : List (String Global)) (rest ks : List (Bor (List ℕ))) → rest ≡ [] → names_of es ++ texts rest ≡ texts ks → IsStrictlySortedBy (λ n m. order n.now m.now) ks → are_ascending (names_of es) ≡ true
all-ascend es rest ks none all sorted =
    ap are_ascending (sym (append-nil (names_of es)) ∙ ap (λ xs. names_of es ++ texts xs) (sym none) ∙ all) ∙ ascends ks sorted
