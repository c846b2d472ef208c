-- Taking the nodes of a queue one after another: at the end they are an order, or some node is its own descendant.
use Rattle.std.proofs.Common.{◌≡◌, ℕ, ◌+◌, ◌<◌, ◌≤◌, List, [], ◌∷◌, ◌++◌, length, get_or, take, Bool, true, false, not, ◌||◌, cond, eqb, sym, ap, ◌∙◌, inl, inr, arith, length-take}
use Rattle.std.proofs.lemmas.Bool.{cases_eq, cases_lt, cond-false, cond-true, eq-eqb, false_from_ne_true, ne_eqb, not-true, not_from_false, not_from_true, or_cases, or_left, or_right}
use Rattle.std.proofs.lemmas.List.{get_or-take, take-take, take_all, take_more}
use Rattle.std.proofs.lemmas.List.Sums.{sum_by-cons}
use Rattle.std.specs.List.{sum_by}
use Rattle.std.specs.Prelude.{nat_eq}
use Rattle.pb_inventory.specs.Graph.{HasCycle, IsGraph, IsOrder, children_at, is_in}
use Rattle.pb_inventory.specs.Orders.{IsQueue, times}
use Rattle.pb_inventory.proofs.Cycles.{stuck}
use Rattle.pb_inventory.proofs.Members.{is_in-at, is_in-append_right, is_in-head, place-of}
use Rattle.pb_inventory.proofs.Totals.{total-all, total-some, total-without, total_where}

-- one by one
times-cons : (c d : ℕ) (ds : List ℕ) → times c (d ∷ ds) ≡ cond (eqb c d) 1 0 + times c ds
times-cons c d ds = sum_by-cons (λ x. cond (eqb c x) 1 0) d ds

times-of : (c : ℕ) (ds : List ℕ) → is_in c ds ≡ true → 0 < times c ds
times-of c [] h = absurd (cc)
times-of c (d ∷ ds) h = elim (or_cases (nat_eq c d) (is_in c ds) h) [
  | inl e ↦ omega (arith, times-cons c d ds, cond-true {A = ℕ} (eqb c d) 1 0 e)
  | inr r ↦ omega (arith, times-cons c d ds, times-of c ds r)
]

is_in-times : (c : ℕ) (ds : List ℕ) → 0 < times c ds → is_in c ds ≡ true
is_in-times c [] h = absurd (omega (arith, h))
is_in-times c (d ∷ ds) h = elim (cases_eq c d) [
  | inl same ↦ or_left (nat_eq c d) (is_in c ds) (eq-eqb c d same)
  | inr other ↦ or_right (nat_eq c d) (is_in c ds) (is_in-times c ds (omega (arith, h, times-cons c d ds, cond-false {A = ℕ} (eqb c d) 1 0 (ne_eqb c d other))))
]

is_in-push_other : (i x : ℕ) (ms : List ℕ) → (i ≡ x → ⊥) → is_in i (ms ++ x ∷ []) ≡ is_in i ms
is_in-push_other i x [] other = ap (λ b. b || false) (ne_eqb i x other)
is_in-push_other i x (m ∷ ms) other = ap (λ b. nat_eq i m || b) (is_in-push_other i x ms other)

-- the nodes that are not taken
abbrev pub others : List ℕ → ℕ → Bool
others taken i = not (is_in i taken)

-- how often c stands among their children
abbrev pub times_left : List (List ℕ) → List ℕ → ℕ → ℕ
times_left cs taken c = total_where (times c) (others taken) 0 cs

abbrev pub nodes_left : List (List ℕ) → List ℕ → ℕ
nodes_left cs taken = total_where (λ ds. 1) (others taken) 0 cs

pub record IsTaking (cs : List (List ℕ)) (counts order : List ℕ) (taken : ℕ) : Type 0 where
  pub few : length counts ≡ length cs
  pub queue : IsQueue counts order
  pub within : taken ≤ length order
  pub left : (c : ℕ) → c < length cs → get_or counts c 0 ≡ times_left cs (take taken order) c
  pub behind : (j k : ℕ) → j < taken → k < length order → is_in (get_or order k 0) (children_at cs (get_or order j 0)) ≡ true → j < k

pub taking-begins : (cs : List (List ℕ)) (counts order : List ℕ) → length counts ≡ length cs → IsQueue counts order
    → ((c : ℕ) → c < length cs → get_or counts c 0 ≡ sum_by (times c) cs) → IsTaking cs counts order 0
taking-begins cs counts order few q counted = record {
  few = few;
  queue = q;
  within = omega arith;
  left = λ c lt. counted c lt ∙ sym (total-all (times c) 0 cs);
  behind = λ j k lt. absurd (omega (arith, lt));
}

untaken : (counts order : List ℕ) → IsQueue counts order → (t : ℕ) → t < length order → is_in (get_or order t 0) (take t order) ≡ false
untaken counts order q t lt = false_from_ne_true (is_in (get_or order t 0) (take t order)) (λ h.
    let p = place-of (get_or order t 0) (take t order) h in
    let before : p.0 < t = omega (arith, p.2, length-take t order) in
    omega (arith, before, q.once p.0 t (omega (arith, before, lt)) lt (sym (get_or-take t order p.0 0 before) ∙ p.3)))

-- the next node's list counts no more
left-less : (weight : List ℕ → ℕ) (cs : List (List ℕ)) (counts order : List ℕ) (t : ℕ) → IsTaking cs counts order t → t < length order
    → total_where weight (others (take t order)) 0 cs ≡ weight (children_at cs (get_or order t 0)) + total_where weight (others (take (t + 1) order)) 0 cs
left-less weight cs counts order t s lt =
    let x = get_or order t 0 in
    let inside : x < length cs = omega (arith, s.queue.within t lt, s.few) in
    let more = take_more order t 0 lt in
    let gone = not_from_true (is_in x (take (t + 1) order)) (ap (is_in x) more ∙ is_in-append_right x (take t order) (x ∷ []) (is_in-head x [])) in
    total-without weight (others (take t order)) (others (take (t + 1) order)) 0 cs x x inside (omega arith) (not_from_false (is_in x (take t order)) (untaken counts order s.queue t lt)) gone
    (λ i other. ap not (sym (ap (is_in i) more ∙ is_in-push_other i x (take t order) other)))

pub taking-enough : (cs : List (List ℕ)) (counts order : List ℕ) (t : ℕ) → IsTaking cs counts order t → t < length order
    → (c : ℕ) → c < length counts → times c (children_at cs (get_or order t 0)) ≤ get_or counts c 0
taking-enough cs counts order t s lt c inside =
    omega (arith, s.left c (omega (arith, inside, s.few)), left-less (times c) cs counts order t s lt)

module _ (cs : List (List ℕ)) (counts order : List ℕ) (t : ℕ) (s : IsTaking cs counts order t) (lt : t < length order)
    (counts' order' : List ℕ) (kept : take (length order) order' ≡ order) where
  longer : length order ≤ length order'
  longer = omega (arith, ap length kept, length-take (length order) order')

  same-at : (k : ℕ) → k < length order → get_or order' k 0 ≡ get_or order k 0
  same-at k inside = sym (get_or-take (length order) order' k 0 inside) ∙ ap (λ ms. get_or ms k 0) kept

  same-front : take (t + 1) order' ≡ take (t + 1) order
  same-front = sym (take-take (t + 1) (length order) order' (omega (arith, lt))) ∙ ap (take (t + 1)) kept

  pub taking-fewer : nodes_left cs (take (t + 1) order') < nodes_left cs (take t order)
  taking-fewer = omega (arith, left-less (λ ds. 1) cs counts order t s lt, ap (nodes_left cs) same-front)

  -- a child of the node that is taken was not yet in the queue
  new-child : (k : ℕ) → k < length order → is_in (get_or order k 0) (children_at cs (get_or order t 0)) ≡ true → ⊥
  new-child k inside h =
      let c = get_or order k 0 in
      let node = s.queue.within k inside in
      omega (arith, s.queue.ready k inside, taking-enough cs counts order t s lt c node, times-of c (children_at cs (get_or order t 0)) h)

  still-behind : (j k : ℕ) → j < t + 1 → k < length order' → is_in (get_or order' k 0) (children_at cs (get_or order' j 0)) ≡ true → j < k
  still-behind j k before inside h = elim (cases_lt k (length order)) [
    | inl old ↦
        let here = ap (λ x. is_in x (children_at cs (get_or order j 0))) (sym (same-at k old)) ∙ ap (λ x. is_in (get_or order' k 0) (children_at cs x)) (sym (same-at j (omega (arith, before, lt)))) ∙ h in
        elim (cases_eq j t) [
          | inl last ↦ absurd (new-child k old (ap (λ i. is_in (get_or order k 0) (children_at cs (get_or order i 0))) (sym last) ∙ here))
          | inr other ↦ s.behind j k (omega (arith, before, other)) old here
        ]
    | inr new ↦ omega (arith, before, lt, new)
  ]

  pub taking-more : length counts' ≡ length counts → IsQueue counts' order'
      → ((c : ℕ) → c < length counts → get_or counts' c 0 + times c (children_at cs (get_or order t 0)) ≡ get_or counts c 0) → IsTaking cs counts' order' (t + 1)
  taking-more few q lowered = record {
    few = few ∙ s.few;
    queue = q;
    within = omega (arith, lt, longer);
    left = λ c inside. omega (arith, lowered c (omega (arith, inside, s.few)), s.left c inside, left-less (times c) cs counts order t s lt, ap (λ ms. times_left cs ms c) same-front);
    behind = still-behind;
  }

pub taking-order : (cs : List (List ℕ)) (counts order : List ℕ) (t : ℕ) → IsGraph cs → IsTaking cs counts order t → length order ≤ t → ((c : ℕ) → c < length counts → get_or counts c 0 ≡ 0) → IsOrder cs order
taking-order cs counts order t g s all none = record {
  within = λ j lt. omega (arith, s.queue.within j lt, s.few);
  whole = λ i lt. let inside : i < length counts = omega (arith, lt, s.few) in s.queue.whole i inside (none i inside);
  once = s.queue.once;
  behind = λ j c lt h.
      let inside : c < length counts = omega (arith, g (get_or order j 0) c h, s.few) in
      let p = s.queue.whole c inside (none c inside) in
      (p.0, s.behind j p.0 (omega (arith, lt, all)) p.1 (ap (λ x. is_in x (children_at cs (get_or order j 0))) p.2 ∙ h), p.1, p.2);
}

-- a node that was never in the queue
abbrev IsRest : List (List ℕ) → List ℕ → ℕ → Type 0
IsRest cs counts n = (n < length cs) × (0 < get_or counts n 0)

rest-parent : (cs : List (List ℕ)) (counts order : List ℕ) (t : ℕ) → IsTaking cs counts order t → length order ≤ t
    → (n : ℕ) → IsRest cs counts n → (p : ℕ) × IsRest cs counts p × (is_in n (children_at cs p) ≡ true)
rest-parent cs counts order t s all n r =
    let left = s.left n r.0 ∙ ap (λ ms. times_left cs ms n) (take_all t order all) in
    let x = total-some (times n) (others order) 0 cs (omega (arith, left, r.1)) in
    let same : 0 + x.0 ≡ x.0 = omega arith in
    let out = not-true (is_in x.0 order) (ap (others order) (sym same) ∙ x.2) in
    let some : 0 < get_or counts x.0 0 = elim (cases_lt 0 (get_or counts x.0 0)) [
      | inl lt ↦ lt
      | inr none ↦
          let p = s.queue.whole x.0 (omega (arith, x.1, s.few)) (omega (arith, none)) in
          let yes = is_in-at x.0 order p.0 p.1 p.2 in
          absurd (cc)
    ] in
    (x.0, (x.1, some), is_in-times n (children_at cs x.0) x.3)

pub taking-cycle : (cs : List (List ℕ)) (counts order : List ℕ) (t : ℕ) → IsTaking cs counts order t → length order ≤ t
    → (c : ℕ) → c < length counts → (get_or counts c 0 ≡ 0 → ⊥) → HasCycle cs
taking-cycle cs counts order t s all c lt some =
    stuck cs (IsRest cs counts) (rest-parent cs counts order t s all) c ((omega (arith, lt, s.few)), (omega (arith, some)))
