-- Names that last, looked up in a table in the order of their bytes.
use Rattle.std.proofs.Common.{◌≡◌, ℕ, zero, suc, ◌<◌, ◌≤◌, List, [], ◌∷◌, length, get_or, Bool, true, false, not, ◌&&◌, cond, bytes_eq, nat_cmp, String, Global, string_bytes, Result, Ok, Err, inl, inr, refl, sym, ap, subst, ◌∙◌, arith}
use Rattle.std.specs.Prelude.{◌||◌, nat_eq, nat_le}
use Rattle.std.specs.Cmp.Lexicographic.{slice_cmp}
use Rattle.std.specs.List.{AllByRecursion}
use Rattle.std.specs.List.Sorted.{IsBinarySearchResult, IsNonDecreasingBy, IsStrictlySortedBy}
use Rattle.std.specs.Ordering.{is_eq, ordering_index, ordering_reverse}
use Rattle.std.specs.declared.cmp.Ordering.{Ordering}
use Rattle.std.specs.declared.cmp.Ordering.TheVariants.{Less, Equal, Greater}
use Rattle.std.proofs.lemmas.Bool.{cases_lt, ne_eqb}
use Rattle.std.proofs.lemmas.Grind.{get_or_default_zero}
use Rattle.std.proofs.lemmas.Cmp.{nat_list_cmp_total}
use Rattle.std.proofs.lemmas.List.{get_or-map, length-map}
use Rattle.std.proofs.lemmas.Map.Text.{is_eq-slice_cmp}
use Rattle.pb_semantics.specs.Keeps.{is_among}
use Rattle.pb_semantics.proofs.Names.{own_name}
use Rattle.pb_language.specs.Expression.{Name}
use Rattle.pb_language.specs.Scope.{Since, is_later, no_since, since}
use Rattle.pb_inventory.specs.Numbered.{are_apart, name_of}
use Rattle.pb_inventory.proofs.Apart.{apart_first, apart_more, apart_rest, differs, is_among-name_of}
use Rattle.pb_lattice.specs.Arena.{names_of}
use Rattle.pb_lattice.specs.Trees.{IsAscending}
use Rattle.pb_vars.proofs.Searched.{equal-names, greater-differs}
use Rattle.pb_hosts.specs.Tables.{names_from, never_lasts}

abbrev order : Name → Name → Ordering
order n m = slice_cmp nat_cmp n m

less_differs : (n m : Name) → order n m ≡ Less → bytes_eq m n ≡ false
less_differs n m h = sym (is_eq-slice_cmp m n) ∙ ap is_eq (nat_list_cmp_total.antisymm m n ∙ ap ordering_reverse h)

above_new : (n : Name) (ns : List Name) → AllByRecursion (λ m. order n m ≡ Less) ns → is_among n ns ≡ false
above_new n [] h = refl
above_new n (m ∷ ns) h = ap (λ b. b || is_among n ns) (sym (is_eq-slice_cmp n m) ∙ ap is_eq h.0) ∙ above_new n ns h.1

-- names that ascend are apart
pub ascending_apart : (ns : List Name) → IsAscending ns → are_apart ns ≡ true
unfolding IsStrictlySortedBy
ascending_apart [] h = refl
ascending_apart (n ∷ ns) h = apart_more n ns (above_new n ns h.0) (ascending_apart ns h.1)

-- ---- what a search tells

in_step : (o : Ordering) (n m k : Name) → order n k ≡ o → order n m ≡ Less → ordering_index o ≤ ordering_index (order m k)
in_step Less n m k e l = omega arith
in_step Equal n m k e l =
    let turned : order m k ≡ Greater = ap (order m) (sym (equal-names n k e)) ∙ nat_list_cmp_total.antisymm m n ∙ ap ordering_reverse l in
    rw turned (omega arith)
in_step Greater n m k e l =
    let below : order k n ≡ Less = nat_list_cmp_total.antisymm k n ∙ ap ordering_reverse e in
    let turned : order m k ≡ Greater = nat_list_cmp_total.antisymm m k ∙ ap ordering_reverse (nat_list_cmp_total.trans k n m below l) in
    rw turned (omega arith)

same_place : (f : ℕ → ℕ) (i j : ℕ) → i ≤ j → j ≤ i → f i ≤ f j
same_place f i j l m = let e : i ≡ j = omega (arith, l, m) in rw e (omega arith)

at_place : (P : Name → Type 0) (es : List (String Global)) (j : ℕ) (d : String Global) → j < length es → AllByRecursion P (names_of es) → P (string_bytes (get_or es j d))
at_place P [] j d lt h = absurd (omega (arith, lt))
at_place P (e ∷ es) zero d lt h = h.0
at_place P (e ∷ es) (suc j) d lt h = at_place P es j d (omega (arith, lt)) h.1

rising : (es : List (String Global)) (i j : ℕ) (d : String Global) → IsAscending (names_of es) → i < j → j < length es → order (string_bytes (get_or es i d)) (string_bytes (get_or es j d)) ≡ Less
unfolding IsStrictlySortedBy
rising [] i j d h l m = absurd (omega (arith, m))
rising (e ∷ es) i zero d h l m = absurd (omega (arith, l))
rising (e ∷ es) zero (suc j) d h l m = at_place (λ x. order (string_bytes e) x ≡ Less) es j d (omega (arith, m)) h.0
rising (e ∷ es) (suc i) (suc j) d h l m = rising es i j d h.1 (omega (arith, l)) (omega (arith, m))

rises : (es : List (String Global)) (n : Name) → IsAscending (names_of es) → IsNonDecreasingBy (λ e. ordering_index (order (string_bytes e) n)) es
rises es n h i j d l m = elim (cases_lt i j) [
  | inl less ↦ in_step (order (string_bytes (get_or es i d)) n) (string_bytes (get_or es i d)) (string_bytes (get_or es j d)) n refl (rising es i j d h less m)
  | inr least ↦ same_place (λ k. ordering_index (order (string_bytes (get_or es k d)) n)) i j l least
]

not_among : (n : Name) (es : List (String Global)) (d : String Global) → ((k : ℕ) → k < length es → bytes_eq n (string_bytes (get_or es k d)) ≡ false) → is_among n (names_of es) ≡ false
not_among n [] d f = refl
not_among n (e ∷ es) d f = ap (λ b. b || is_among n (names_of es)) (f 0 (omega arith)) ∙ not_among n es d (λ k l. f (suc k) (omega (arith, l)))

pub found_name : (es : List (String Global)) (n : Name) (i : ℕ) → i < length es → IsBinarySearchResult (λ e. order (string_bytes e) n) es (Ok i) → name_of (names_of es) i ≡ n
found_name [] n i lt h = absurd (omega (arith, lt))
found_name (e ∷ es) n i lt h =
    get_or-map (λ (x : String Global). string_bytes x) (e ∷ es) i e [] lt ∙ equal-names (string_bytes (get_or (e ∷ es) i e)) n (h e)

pub missing_name : (es : List (String Global)) (n : Name) (i : ℕ) → IsAscending (names_of es) → IsBinarySearchResult (λ e. order (string_bytes e) n) es (Err i) → is_among n (names_of es) ≡ false
missing_name [] n i o h = refl
missing_name (x ∷ es) n i o h =
    not_among n (x ∷ es) x (λ k l. elim (cases_lt k i) [
      | inl less ↦ less_differs (string_bytes (get_or (x ∷ es) k x)) n ((h (rises (x ∷ es) n o)).0 k x (omega arith) less)
      | inr least ↦ greater-differs (string_bytes (get_or (x ∷ es) k x)) n ((h (rises (x ∷ es) n o)).1 k x least l)
    ])

-- ---- what that says of the places

or_through : (a b c : Bool) → a || (b || c) ≡ (a || b) || c
or_through true b c = refl
or_through false b c = refl

later_either : (q : Bool) (n x : Name) (i p : ℕ) (m : Since) (b c : Bool) → is_later m p x ≡ b || c → is_later (cond q m (since n i m)) p x ≡ cond q b ((bytes_eq x n && nat_le i p) || b) || c
later_either true n x i p m b c e = e
later_either false n x i p m b c e = ap (λ y. (bytes_eq x n && nat_le i p) || y) e ∙ or_through (bytes_eq x n && nat_le i p) b c

is_later_either : (q : Bool) (n x : Name) (i p : ℕ) (m : Since) → is_later (cond q m (since n i m)) p x ≡ cond q (is_later m p x) ((bytes_eq x n && nat_le i p) || is_later m p x)
is_later_either true n x i p m = refl
is_later_either false n x i p m = refl

-- the names that are listed, or what is said of every name
pub later_both : (ns : List Name) (ps : List ℕ) (l : Since) (p : ℕ) (x : Name) → is_later (names_from ns ps l) p x ≡ is_later (names_from ns ps no_since) p x || is_later l p x
later_both [] ps l p x = refl
later_both (n ∷ ns) [] l p x = refl
later_both (n ∷ ns) (i ∷ ps) l p x =
    later_either (nat_eq i never_lasts) n x i p (names_from ns ps l) (is_later (names_from ns ps no_since) p x) (is_later l p x) (later_both ns ps l p x)
    ∙ ap (λ b. b || is_later l p x) (sym (is_later_either (nat_eq i never_lasts) n x i p (names_from ns ps no_since)))

passed : (q : Bool) (n x : Name) (i p : ℕ) (m : Since) (c : Bool) → bytes_eq x n ≡ false → is_later m p x ≡ c → is_later (cond q m (since n i m)) p x ≡ c
passed true n x i p m c e f = f
passed false n x i p m c e f = ap (λ b. (b && nat_le i p) || is_later m p x) e ∙ f

not_first : (a b : Bool) → a || b ≡ false → a ≡ false
not_first true b h = h
not_first false b h = refl

not_rest : (a b : Bool) → a || b ≡ false → b ≡ false
not_rest true b h = absurd (cc)
not_rest false b h = h

pub later_missing : (ns : List Name) (ps : List ℕ) (p : ℕ) (x : Name) → is_among x ns ≡ false → is_later (names_from ns ps no_since) p x ≡ false
later_missing [] ps p x h = refl
later_missing (n ∷ ns) [] p x h = refl
later_missing (n ∷ ns) (i ∷ ps) p x h =
    passed (nat_eq i never_lasts) n x i p (names_from ns ps no_since) false (not_first (bytes_eq x n) (is_among x ns) h) (later_missing ns ps p x (not_rest (bytes_eq x n) (is_among x ns) h))

found_first : (q : Bool) (n x : Name) (i p : ℕ) (m : Since) → bytes_eq x n ≡ true → is_later m p x ≡ false → is_later (cond q m (since n i m)) p x ≡ not q && nat_le i p
found_first true n x i p m e f = f
found_first false n x i p m e f = ap (λ b. (b && nat_le i p) || is_later m p x) e ∙ last (nat_le i p) (is_later m p x) f where
  last : (a b : Bool) → b ≡ false → a || b ≡ a
  last true b h = refl
  last false b h = h

pub later_found : (ns : List Name) (ps : List ℕ) (p : ℕ) (x : Name) (i : ℕ) → are_apart ns ≡ true → i < length ns → length ps ≡ length ns → name_of ns i ≡ x
    → is_later (names_from ns ps no_since) p x ≡ not (nat_eq (get_or ps i 0) never_lasts) && nat_le (get_or ps i 0) p
later_found [] ps p x i a lt e n = absurd (omega (arith, lt))
later_found (m ∷ ns) [] p x i a lt e n = absurd (omega (arith, e))
later_found (m ∷ ns) (q ∷ ps) p x zero a lt e n =
    found_first (nat_eq q never_lasts) m x q p (names_from ns ps no_since) (ap (λ y. bytes_eq y m) (sym n) ∙ own_name m) (later_missing ns ps p x (ap (λ y. is_among y ns) (sym n) ∙ apart_first m ns a))
later_found (m ∷ ns) (q ∷ ps) p x (suc i) a lt e n =
    let few : i < length ns = omega (arith, lt) in
    let other = differs x m ns (ap (λ y. is_among y ns) (sym n) ∙ is_among-name_of ns i few) (apart_first m ns a) in
    passed (nat_eq q never_lasts) m x q p (names_from ns ps no_since) (not (nat_eq (get_or ps i 0) never_lasts) && nat_le (get_or ps i 0) p) other
    (later_found ns ps p x i (apart_rest m ns a) few (omega (arith, e)) n)

not_never : (i m : ℕ) → (i ≡ m → ⊥) → not (nat_eq i m) ≡ true
not_never i m h = ap not (ne_eqb i m h)

never : (i m : ℕ) → i ≡ m → not (nat_eq i m) ≡ false
never i m e = rw e (ap not (same_number m)) where
  same_number : (n : ℕ) → nat_eq n n ≡ true
  same_number n = grind arith

-- what a search that finds the name says, and one that doesn't
pub found_lasts : (es : List (String Global)) (ps : List ℕ) (n : Name) (p i j : ℕ) (r : Result ℕ ℕ) → IsAscending (names_of es) → length ps ≡ length es
    → r ≡ Ok i → i < length es → IsBinarySearchResult (λ e. order (string_bytes e) n) es r → j ≡ get_or ps i j
    → is_later (names_from (names_of es) ps no_since) p n ≡ not (nat_eq j never_lasts) && nat_le j p
found_lasts es ps n p i j r o e is lt found at =
    let size : length (names_of es) ≡ length es = length-map es (λ (x : String Global). string_bytes x) in
    let few : i < length (names_of es) = omega (arith, size) in
    let zero_at : j ≡ get_or ps i 0 = at ∙ get_or_default_zero ps i j (omega (arith, e)) in
    later_found (names_of es) ps p n i (ascending_apart (names_of es) o) few (e ∙ sym size) (found_name es n i lt (subst (λ x. IsBinarySearchResult (λ e. order (string_bytes e) n) es x) is found))
    ∙ ap (λ k. not (nat_eq k never_lasts) && nat_le k p) (sym zero_at)

-- what is read twice
pub same_read : (ps : List ℕ) (n i j k : ℕ) → length ps ≡ n → i < n → j ≡ get_or ps i j → k ≡ get_or ps i k → j ≡ k
same_read ps n i j k e lt f g = let few : i < length ps = omega (arith, e, lt) in f ∙ get_or_default_zero ps i j few ∙ sym (g ∙ get_or_default_zero ps i k few)

pub kept_lasts : (j p : ℕ) (b : Bool) → (j ≡ never_lasts → ⊥) → b ≡ not (nat_eq j never_lasts) && nat_le j p → nat_le j p ≡ b
kept_lasts j p b h e = sym (e ∙ ap (λ x. x && nat_le j p) (not_never j never_lasts h))

pub never_here : (j p : ℕ) (b : Bool) → j ≡ never_lasts → b ≡ not (nat_eq j never_lasts) && nat_le j p → not (nat_eq j never_lasts) ≡ b
never_here j p b h e = never j never_lasts h ∙ sym (e ∙ ap (λ x. x && nat_le j p) (never j never_lasts h))

pub missing_lasts : (es : List (String Global)) (ps : List ℕ) (n : Name) (p i : ℕ) (r : Result ℕ ℕ) → IsAscending (names_of es) → r ≡ Err i
    → IsBinarySearchResult (λ e. order (string_bytes e) n) es r → false ≡ is_later (names_from (names_of es) ps no_since) p n
missing_lasts es ps n p i r o is missing =
    sym (later_missing (names_of es) ps p n (missing_name es n i o (subst (λ x. IsBinarySearchResult (λ e. order (string_bytes e) n) es x) is missing)))
