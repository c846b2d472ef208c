-- The lowest of an index is the first of a scan.
use Rattle.std.proofs.Common.{◌≡◌, ◌≢◌, ◌<◌, ◌≤◌, ℕ, zero, suc, ◌+◌, List, [], ◌∷◌, length, set, Bool, true, false, not, ◌&&◌, ◌||◌, nat_eq, nat_lt, cond, Option, Some, None, slice_get, refl, sym, ap, ap₂, ◌∙◌, eq-eqb, arith}
use Rattle.std.proofs.lemmas.Bool.{ltb-true, lt-ltb, eqb-true}
use Rattle.std.proofs.lemmas.Bool.Decides.{nat_tests}
use Rattle.std.specs.Ordering.{nat_cmp, ordering_then, is_gt, is_eq}
use Rattle.std.specs.BTreeSet.{contains}
use Rattle.std.specs.List.{list_any}
use Rattle.pb_semantics.proofs.Bools.{untrue}
use Rattle.pb_language.specs.Drive.{Starting, lower}
use Rattle.pb_core.specs.Activities.{Activity, idle, ready, runs, start_of, first_in, always}
use Rattle.pb_core.specs.Indexes.{Places, place_cmp, is_ready, HasPlaces, is_not_ready, AddsPlace}
use Rattle.std.specs.declared.cmp.Ordering.{Ordering}
use Rattle.std.specs.declared.cmp.Ordering.TheVariants.{Less, Equal, Greater}

abbrev IsAbove : ℕ → Option Starting → Type 0
IsAbove r None = Unit {0}
IsAbove r (Some y) = r ≤ y.place

above_lower : (r : ℕ) (x y : Option Starting) → IsAbove r x → IsAbove r y → IsAbove r (lower x y)
above_lower r None y h i = i
above_lower r (Some x) None h i = h
above_lower r (Some x) (Some y) h i = pick (nat_lt y.place x.place) where
  pick : (b : Bool) → IsAbove r (cond b (Some y) (Some x))
  pick true = i
  pick false = h

above_start : (r i : ℕ) (s : Activity) → ((q : ℕ) → is_ready q (Some s) ≡ true → r ≤ q) → IsAbove r (start_of always i s)
above_start r i idle h = tt
above_start r i (ready q) h = h q (eq-eqb q q refl)
above_start r i (runs q) h = tt

above_first : (r i : ℕ) (ss : List Activity) → ((q j : ℕ) → is_ready q (slice_get ss j) ≡ true → r ≤ q) → IsAbove r (first_in always i ss)
above_first r i [] h = tt
above_first r i (s ∷ ss) h = above_lower r (start_of always i s) (first_in always (suc i) ss) (above_start r i s (λ q e. h q 0 e)) (above_first r (suc i) ss (λ q j e. h q (suc j) e))

lower_stays : (x : Starting) (o : Option Starting) → IsAbove x.place o → lower (Some x) o ≡ Some x
lower_stays x None h = refl
lower_stays x (Some y) h = stay (nat_lt y.place x.place) refl where
  stay : (b : Bool) → nat_lt y.place x.place ≡ b → cond b (Some y) (Some x) ≡ Some x
  stay true e = let less : y.place < x.place = ltb-true y.place x.place e in absurd (omega arith)
  stay false e = refl

abbrev IsLeast : ℕ → ℕ → List Activity → Type 0
IsLeast p k ss = (q j : ℕ) → is_ready q (slice_get ss j) ≡ true → (p ≤ q) × (p ≡ q → k ≤ j)

pub starting_same : (i j p q : ℕ) → i ≡ j → p ≡ q → Some (let x : Starting = record { number = i; place = p } in x) ≡ Some (record { number = j; place = q })
starting_same i j p q e f = ap₂ (λ (a b : ℕ). Some (let x : Starting = record { number = a; place = b } in x)) e f

later_least : (s : Activity) (ss : List Activity) (p k : ℕ) → IsLeast p (suc k) (s ∷ ss) → IsLeast p k ss
later_least s ss p k h q j f = let both = h q (suc j) f in (both.0, λ g. let one : suc k ≤ suc j = both.1 g in omega arith)

strictly : (a b n : ℕ) → a ≤ b → (a ≡ b → suc n ≤ 0) → a < b
strictly a b n low past = grind arith

pub first_least : (ss : List Activity) (i p k : ℕ) → is_ready p (slice_get ss k) ≡ true → IsLeast p k ss → first_in always i ss ≡ Some (record { number = i + k; place = p })
first_least [] i p k e h = untrue e
first_least (idle ∷ ss) i p zero e h = untrue e
first_least (runs r ∷ ss) i p zero e h = untrue e
first_least (ready r ∷ ss) i p zero e h =
    let same : r ≡ p = sym (eqb-true p r e) in
    lower_stays (record { number = i; place = r }) (first_in always (suc i) ss) (above_first r (suc i) ss (λ q j f. let low = (h q (suc j) f).0 in omega (arith, low)))
    ∙ starting_same i (i + 0) r p (omega arith) same
first_least (idle ∷ ss) i p (suc k) e h = first_least ss (suc i) p k e (later_least idle ss p k h) ∙ starting_same (suc i + k) (i + suc k) p p (omega arith) refl
first_least (runs r ∷ ss) i p (suc k) e h = first_least ss (suc i) p k e (later_least (runs r) ss p k h) ∙ starting_same (suc i + k) (i + suc k) p p (omega arith) refl
first_least (ready r ∷ ss) i p (suc k) e h =
    let here = h r 0 (eq-eqb r r refl) in
    let less : nat_lt p r ≡ true = lt-ltb p r (strictly p r k here.0 here.1) in
    ap (lower (Some (record { number = i; place = r }))) (first_least ss (suc i) p k e (later_least (ready r) ss p k h) ∙ starting_same (suc i + k) (i + suc k) p p (omega arith) refl)
    ∙ ap (λ b. cond b (Some (let x : Starting = record { number = i + suc k; place = p } in x)) (Some (record { number = i; place = r }))) less

pub first_none : (ss : List Activity) (i : ℕ) → ((q j : ℕ) → is_ready q (slice_get ss j) ≡ false) → first_in always i ss ≡ None
first_none [] i h = refl
first_none (idle ∷ ss) i h = first_none ss (suc i) (λ q j. h q (suc j))
first_none (runs r ∷ ss) i h = first_none ss (suc i) (λ q j. h q (suc j))
first_none (ready r ∷ ss) i h = untrue (sym (h r 0) ∙ eq-eqb r r refl)

pub not_above : (p k q j : ℕ) → is_gt (place_cmp (p, k) (q, j)) ≡ false → (p ≤ q) × (p ≡ q → k ≤ j)
not_above p k q j e = (grind (arith, nat_tests), λ same. grind (arith, nat_tests))

no_length : (n : ℕ) → (0 < n → false ≡ true) → n ≡ 0
no_length zero h = refl
no_length (suc n) h = untrue (h (omega arith))

any_none : (f : ℕ × ℕ → Bool) (ks : List (ℕ × ℕ)) → length ks ≡ 0 → list_any f ks ≡ false
any_none f [] e = refl
any_none f (k ∷ ks) e = absurd (omega (arith, e))

pub none_in : (index : Places) (x : ℕ × ℕ) → (0 < length index.keys → false ≡ true) → contains place_cmp index x ≡ false
none_in index x h = any_none _ index.keys (no_length (length index.keys) h)

-- the index after one host moved
then_at : (x y : Ordering) → is_eq (ordering_then x y) ≡ is_eq x && is_eq y
then_at Less y = refl
then_at Equal y = refl
then_at Greater y = refl

nat_at : (x y : ℕ) (l e : Bool) → nat_lt x y ≡ l → nat_eq x y ≡ e → is_eq (nat_cmp x y) ≡ e
nat_at x y true true f g = let less : x < y = ltb-true x y f in let same = eqb-true x y g in absurd (omega arith)
nat_at x y true false f g = ap (λ b. is_eq (cond b Less (cond (nat_eq x y) Equal Greater))) f
nat_at x y false true f g = ap₂ (λ b c. is_eq (cond b Less (cond c Equal Greater))) f g
nat_at x y false false f g = ap₂ (λ b c. is_eq (cond b Less (cond c Equal Greater))) f g

pub at_place : (p k q j : ℕ) → is_eq (place_cmp (p, k) (q, j)) ≡ nat_eq p q && nat_eq k j
at_place p k q j = then_at (nat_cmp p q) (nat_cmp k j) ∙ ap₂ (λ a b. a && b) (nat_at p q (nat_lt p q) (nat_eq p q) refl refl) (nat_at k j (nat_lt k j) (nat_eq k j) refl refl)

ready_here : (ss : List Activity) (k : ℕ) (s r : Activity) → slice_get ss k ≡ Some r → slice_get (set ss k s) k ≡ Some s
ready_here [] k s r e = cc
ready_here (x ∷ ss) zero s r e = refl
ready_here (x ∷ ss) (suc k) s r e = ready_here ss k s r e

ready_there : (ss : List Activity) (k j : ℕ) (s : Activity) → k ≢ j → slice_get (set ss k s) j ≡ slice_get ss j
ready_there [] k j s h = refl
ready_there (x ∷ ss) zero zero s h = absurd (h refl)
ready_there (x ∷ ss) zero (suc j) s h = refl
ready_there (x ∷ ss) (suc k) zero s h = refl
ready_there (x ∷ ss) (suc k) (suc j) s h = ready_there ss k j s (λ e. h (ap suc e))

apart : (k j : ℕ) → nat_eq k j ≡ false → k ≢ j
apart k j e same = untrue (sym e ∙ eq-eqb k j same)

nowhere : (p : ℕ) (s : Activity) → is_not_ready s ≡ true → is_ready p (Some s) ≡ false
nowhere p idle h = refl
nowhere p (runs q) h = refl
nowhere p (ready q) h = untrue h

module _ (old new : Places) (k p : ℕ) (ss : List Activity) (s : Activity) (is : HasPlaces old ss) where
  out_at : (q j : ℕ) (a b : Bool) → nat_eq p q ≡ a → nat_eq k j ≡ b → slice_get ss k ≡ Some (ready p) → is_not_ready s ≡ true → cond (a && b) false (contains place_cmp old (q, j)) ≡ is_ready q (slice_get (set ss k s) j)
  out_at q j true true e f here h = sym (ap (λ i. is_ready q (slice_get (set ss k s) i)) (sym (eqb-true k j f)) ∙ ap (is_ready q) (ready_here ss k s (ready p) here) ∙ nowhere q s h)
  out_at q j false true e f here h =
      is q j ∙ ap (λ i. is_ready q (slice_get ss i)) (sym (eqb-true k j f)) ∙ ap (is_ready q) here ∙ other
      ∙ sym (ap (λ i. is_ready q (slice_get (set ss k s) i)) (sym (eqb-true k j f)) ∙ ap (is_ready q) (ready_here ss k s (ready p) here) ∙ nowhere q s h) where
        other : nat_eq q p ≡ false
        other = grind (arith, nat_tests, e)
  out_at q j true false e f here h = is q j ∙ ap (is_ready q) (sym (ready_there ss k j s (apart k j f)))
  out_at q j false false e f here h = is q j ∙ ap (is_ready q) (sym (ready_there ss k j s (apart k j f)))

  in_at : (q j : ℕ) (a b : Bool) → nat_eq p q ≡ a → nat_eq k j ≡ b → slice_get ss k ≡ Some s → is_not_ready s ≡ true → cond (a && b) true (contains place_cmp old (q, j)) ≡ is_ready q (slice_get (set ss k (ready p)) j)
  in_at q j true true e f here h = sym (ap (λ i. is_ready q (slice_get (set ss k (ready p)) i)) (sym (eqb-true k j f)) ∙ ap (is_ready q) (ready_here ss k (ready p) s here) ∙ eq-eqb q p (sym (eqb-true p q e)))
  in_at q j false true e f here h =
      is q j ∙ ap (λ i. is_ready q (slice_get ss i)) (sym (eqb-true k j f)) ∙ ap (is_ready q) here ∙ nowhere q s h
      ∙ sym (ap (λ i. is_ready q (slice_get (set ss k (ready p)) i)) (sym (eqb-true k j f)) ∙ ap (is_ready q) (ready_here ss k (ready p) s here) ∙ other) where
        other : nat_eq q p ≡ false
        other = grind (arith, nat_tests, e)
  in_at q j true false e f here h = is q j ∙ ap (is_ready q) (sym (ready_there ss k j (ready p) (apart k j f)))
  in_at q j false false e f here h = is q j ∙ ap (is_ready q) (sym (ready_there ss k j (ready p) (apart k j f)))

pub takes_out : (old new : Places) (k p : ℕ) → ((x : ℕ × ℕ) → contains place_cmp new x ≡ cond (is_eq (place_cmp (p, k) x)) false (contains place_cmp old x))
    → (ss : List Activity) (s : Activity) → HasPlaces old ss → slice_get ss k ≡ Some (ready p) → is_not_ready s ≡ true → HasPlaces new (set ss k s)
takes_out old new k p updates ss s is here h q j =
    updates (q, j) ∙ ap (λ b. cond b false (contains place_cmp old (q, j))) (at_place p k q j) ∙ out_at old new k p ss s is q j (nat_eq p q) (nat_eq k j) refl refl here h

pub puts_in : (old new : Places) (k p : ℕ) → ((x : ℕ × ℕ) → contains place_cmp new x ≡ cond (is_eq (place_cmp (p, k) x)) true (contains place_cmp old x))
    → (ss : List Activity) (s : Activity) → HasPlaces old ss → slice_get ss k ≡ Some s → is_not_ready s ≡ true → HasPlaces new (set ss k (ready p))
puts_in old new k p updates ss s is here h q j =
    updates (q, j) ∙ ap (λ b. cond b true (contains place_cmp old (q, j))) (at_place p k q j) ∙ in_at old new k p ss s is q j (nat_eq p q) (nat_eq k j) refl refl here h

pub same_eq : (a b : ℕ) → nat_eq a b ≡ nat_eq b a
same_eq a b = by (nat_eq a b) (nat_eq b a) refl refl where
  by : (p q : Bool) → nat_eq a b ≡ p → nat_eq b a ≡ q → p ≡ q
  by true true e f = refl
  by false false e f = refl
  by true false e f = untrue (sym f ∙ eq-eqb b a (sym (eqb-true a b e)))
  by false true e f = untrue (sym e ∙ eq-eqb a b (sym (eqb-true b a f)))

pub adds_place : (old new : Places) (k p : ℕ) → ((x : ℕ × ℕ) → contains place_cmp new x ≡ cond (is_eq (place_cmp (p, k) x)) true (contains place_cmp old x)) → AddsPlace k p old new
adds_place old new k p updates q j =
    updates (q, j) ∙ ap (λ b. cond b true (contains place_cmp old (q, j))) (at_place p k q j) ∙ either (nat_eq p q && nat_eq k j) (contains place_cmp old (q, j))
    ∙ ap₂ (λ a b. (a && b) || contains place_cmp old (q, j)) (same_eq p q) (same_eq k j) where
      either : (a b : Bool) → cond a true b ≡ a || b
      either true b = refl
      either false b = refl

-- one less, and one more
pub one_less : (r h : Bool) (m n : ℕ) → r ≡ h → m + cond r 1 0 ≡ n → h ≡ true → n ≡ m + 1
one_less r h m n e f g = sym f ∙ ap (λ b. m + cond b 1 0) (e ∙ g)

pub one_more : (r h : Bool) (m n : ℕ) → r ≡ not h → m ≡ n + cond r 1 0 → h ≡ false → m ≡ n + 1
one_more r h m n e f g = f ∙ ap (λ b. n + cond b 1 0) (e ∙ ap not g)
