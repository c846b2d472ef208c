-- Tables that mark the numbers of a list by a stamp.
use Rattle.std.proofs.Common.{◌≡◌, ◌≢◌, ℕ, zero, suc, ◌<◌, ◌≤◌, Bool, true, false, ◌||◌, cond, eqb, nat_eq, List, [], ◌∷◌, ◌++◌, length, get_or, set, refl, sym, ap, ◌∙◌, arith, inl, inr}
use Rattle.std.specs.List.{All, count_by}
use Rattle.std.proofs.lemmas.Bool.{cases_Bool, cases_eq, eq-eqb, ne_eqb, or_right}
use Rattle.std.proofs.lemmas.List.{get_or-set_other, length_push, length-set}
use Rattle.std.proofs.lemmas.Grind.{get_or-set_at}
use Rattle.std.proofs.lemmas.List.Elements.{All-nil, All-push, All-set, All-tail, All-weaker}
use Rattle.std.proofs.lemmas.List.Sums.{count_by-le-length, sum_by-cons, sum_by-le, sum_by-set}
use Rattle.pb_inventory.specs.Graph.{is_in}
use Rattle.pb_inventory.specs.Families.{IsMarked, add_numbers}
use Rattle.pb_inventory.proofs.Onces.{is_in-joined}

abbrev weight : Bool → ℕ
weight b = cond b 1 0

weight-most : (b : Bool) → weight b ≤ 1
weight-most true = omega arith
weight-most false = omega arith

abbrev tested : (ℕ → Bool) → ℕ → ℕ
tested p x = weight (p x)

or_none : (b : Bool) → (b || false) ≡ b
or_none true = refl
or_none false = refl

count_none : (p : ℕ → Bool) (xs : List ℕ) → All (λ x. p x ≡ false) xs → count_by p xs ≡ 0
count_none p xs h = omega (arith, sum_by-le (tested p) 0 xs (λ k d lt. rw (h k d lt) (omega arith)))

-- a count of as many as there are counts each
count_all : (p : ℕ → Bool) (xs : List ℕ) (i d : ℕ) → length xs ≤ count_by p xs → i < length xs → p (get_or xs i d) ≡ true
count_all p [] i d full lt = absurd (omega arith)
count_all p (x ∷ xs) zero d full lt = elim (cases_Bool (p x)) [
  | inl e ↦ e
  | inr e ↦ absurd (omega (arith, sum_by-cons (tested p) x xs, count_by-le-length p xs, ap weight e))
]
count_all p (x ∷ xs) (suc i) d full lt = count_all p xs i d (omega (arith, sum_by-cons (tested p) x xs, weight-most (p x))) (omega arith)

-- a list that has each number stays as it is
add_numbers-whole : (ns ms : List ℕ) → All (λ m. is_in m ns ≡ true) ms → add_numbers ns ms ≡ ns
add_numbers-whole ns [] h = refl
add_numbers-whole ns (m ∷ ms) h =
    let there : is_in m ns ≡ true = h 0 0 (omega arith) in
    rw there (add_numbers-whole ns ms (All-tail (λ x. is_in x ns ≡ true) m ms h))

pub marked-full : (ns seen : List ℕ) (stamp : ℕ) → IsMarked ns seen stamp → length ns ≡ length seen
    → (ms : List ℕ) → All (λ m. m < length seen) ms → add_numbers ns ms ≡ ns
marked-full ns seen stamp k full ms h = add_numbers-whole ns ms
    (All-weaker (λ m. m < length seen) (λ m. is_in m ns ≡ true)
    (λ m lt. k.marks m lt ∙ count_all (λ s. nat_eq s stamp) seen m 0 (omega (arith, k.count)) lt) ms h)

pub marked-none : (seen : List ℕ) (stamp : ℕ) → All (λ s. stamp < s) seen → IsMarked [] seen stamp
marked-none seen stamp h = record {
  known = All-nil (λ n. n < length seen);
  marks = λ n lt. sym (ne_eqb (get_or seen n 0) stamp (λ e. omega (arith, h n 0 lt)));
  count = sym (count_none (λ s. nat_eq s stamp) seen (λ k d lt. ne_eqb (get_or seen k d) stamp (λ e. omega (arith, h k d lt))));
  stamps = λ k d lt. omega (arith, h k d lt);
}

pub marked-push : (ns seen : List ℕ) (stamp h : ℕ) → IsMarked ns seen stamp → h < length seen → get_or seen h 0 ≢ stamp
    → IsMarked (ns ++ h ∷ []) (set seen h stamp) stamp
marked-push ns seen stamp h k lt other =
    let size = length-set seen h stamp in
    let more = sum_by-set (tested (λ s. nat_eq s stamp)) seen h stamp 0 lt in
    let before : weight (nat_eq (get_or seen h 0) stamp) ≡ 0 = ap weight (ne_eqb (get_or seen h 0) stamp other) in
    let after : weight (nat_eq stamp stamp) ≡ 1 = ap weight (eq-eqb stamp stamp refl) in
    record {
      known = rw size (All-push (λ n. n < length seen) ns h k.known lt);
      marks = λ n within. is_in-joined n ns (h ∷ []) ∙ elim (cases_eq n h) [
        | inl e ↦ or_right (is_in n ns) (eqb n h || false) (rw (eq-eqb n h e) refl) ∙ sym (eq-eqb (get_or (set seen h stamp) n 0) stamp (get_or-set_at seen h n stamp 0 e lt))
        | inr e ↦ rw (ne_eqb n h e, get_or-set_other seen h n stamp 0 e) (or_none (is_in n ns) ∙ k.marks n (omega arith))
      ];
      count = omega (arith, length_push ns h, k.count);
      stamps = All-set (λ s. stamp ≤ s) seen h stamp (omega arith) k.stamps;
    }
