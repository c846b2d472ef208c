-- Depths that are right for what stands before a place of the order.
use Rattle.std.proofs.Common.{◌≡◌, ◌≢◌, ℕ, ◌+◌, ◌<◌, ◌≤◌, Bool, true, false, cond, List, length, get_or, set, max, refl, sym, ap, subst, ◌∙◌, arith, ◌⊎◌, inl, inr}
use Rattle.std.proofs.Common.{replicate}
use Rattle.std.proofs.lemmas.Bool.{cases_eq, cases_lt, cond-false, false_from_ne_true, false≢true}
use Rattle.std.proofs.lemmas.List.{get_or-set_other, get_or-set_same, get_or-replicate, length-set, length-replicate, get_or_past}
use Rattle.pb_inventory.specs.Graph.{children_at, is_in, IsOrder}
use Rattle.pb_inventory.specs.Families.{AreDepths}
use Rattle.pb_inventory.proofs.Depths.{deepened}
use Rattle.pb_inventory.proofs.Places.{child_behind, places-le}

pub record IsPushed (root : ℕ) (cs : List (List ℕ)) (order : List ℕ) (j : ℕ) (d : List ℕ) : Type 0 where
  pub count : length d ≡ length cs
  pub top : get_or d root 0 ≡ 0
  pub others : (i : ℕ) → i < length cs → i ≢ root → 1 ≤ get_or d i 0
  pub bound : (k : ℕ) → k < length order → get_or d (get_or order k 0) 0 ≤ k + 1
  pub deeper : (k c : ℕ) → k < j → k < length order → get_or order k 0 ≢ root → is_in c (children_at cs (get_or order k 0)) ≡ true
      → get_or d (get_or order k 0) 0 < get_or d c 0
  pub least : (c : ℕ) → 1 < get_or d c 0
      → (k : ℕ) × (k < j) × (k < length order) × (get_or order k 0 ≢ root) × (is_in c (children_at cs (get_or order k 0)) ≡ true)
      × (get_or d c 0 ≡ get_or d (get_or order k 0) 0 + 1)

abbrev NobodyHas : ℕ → List (List ℕ) → Type 0
NobodyHas root cs = (i : ℕ) → is_in root (children_at cs i) ≡ false

abbrev ones : ℕ → List ℕ
ones n = replicate n 1

abbrev firsts : ℕ → ℕ → List ℕ
firsts n root = set (ones n) root 0

first_top : (n root : ℕ) → get_or (firsts n root) root 0 ≡ 0
first_top n root = elim (cases_lt root n) [
  | inl lt ↦ get_or-set_same (replicate n 1) root 0 0 (let size : length (ones n) ≡ n = length-replicate n 1 in omega arith)
  | inr ge ↦ get_or_past (firsts n root) root 0 (let size : length (firsts n root) ≡ n = length-set (replicate n 1) root 0 ∙ length-replicate n 1 in omega arith)
]

first_other : (n root i : ℕ) → i < n → i ≢ root → get_or (firsts n root) i 0 ≡ 1
first_other n root i lt ne = get_or-set_other (replicate n 1) root i 0 0 ne ∙ get_or-replicate n i 1 0 lt

first_bound : (n root i : ℕ) → get_or (firsts n root) i 0 ≤ 1
first_bound n root i = elim (cases_eq i root) [
  | inl e ↦ let t = first_top n root in rw e (omega arith)
  | inr ne ↦ elim (cases_lt i n) [
    | inl lt ↦ let t = first_other n root i lt ne in omega arith
    | inr ge ↦ let t = get_or_past (firsts n root) i 0 (let size : length (firsts n root) ≡ n = length-set (replicate n 1) root 0 ∙ length-replicate n 1 in omega arith) in omega arith
  ]
]

pub first_pushed : (root : ℕ) (cs : List (List ℕ)) (order : List ℕ) → IsPushed root cs order 0 (set (replicate (length cs) 1) root 0)
first_pushed root cs order = let n = length cs in record {
  count = length-set (replicate n 1) root 0 ∙ length-replicate n 1;
  top = first_top n root;
  others = λ i lt ne. let t = first_other n root i lt ne in omega arith;
  bound = λ k _. let t = first_bound n root (get_or order k 0) in omega arith;
  deeper = λ k c lt _ _ _. absurd (omega arith);
  least = λ c deep. let t = first_bound n root c in absurd (omega arith);
}

-- a place whose node pushes nothing
pub pushed-root : (root : ℕ) (cs : List (List ℕ)) (order : List ℕ) (j : ℕ) (d : List ℕ)
    → IsPushed root cs order j d → get_or order j 0 ≡ root → IsPushed root cs order (j + 1) d
pushed-root root cs order j d p e = record {
  count = p.count;
  top = p.top;
  others = p.others;
  bound = p.bound;
  deeper = λ k c lt kn ne h. elim (cases_eq k j) [
    | inl s ↦ absurd (ne (ap (λ n. get_or order n 0) s ∙ e))
    | inr s ↦ p.deeper k c (omega arith) kn ne h
  ];
  least = λ c deep. let l = p.least c deep in (l.0, omega arith, l.2, l.3, l.4, l.5);
}

-- what a push does to the depth of a node: nothing, or it makes it at least so deep
pushed_cases : (b : Bool) (old new depth : ℕ) → new ≡ cond b (max old depth) old
    → (new ≡ old) ⊎ ((b ≡ true) × (old < depth) × (new ≡ depth))
pushed_cases true old new depth e = elim (cases_lt old depth) [
  | inl lt ↦ inr (refl, lt, omega arith)
  | inr ge ↦ inl (omega arith)
]
pushed_cases false old new depth e = inl e

pushed_least : (b : Bool) (old new depth : ℕ) → new ≡ cond b (max old depth) old → old ≤ new
pushed_least true old new depth e = omega arith
pushed_least false old new depth e = omega arith

pushed_there : (b : Bool) (old new depth : ℕ) → new ≡ cond b (max old depth) old → b ≡ true → depth ≤ new
pushed_there true old new depth e h = omega arith
pushed_there false old new depth e h = absurd (false≢true h)

-- what stands up to the pushing place keeps its depth
kept : (cs : List (List ℕ)) (order : List ℕ) (j : ℕ) (d new : List ℕ)
    → IsOrder cs order → j < length order → (depth : ℕ)
    → ((i : ℕ) → get_or new i 0 ≡ deepened d depth (children_at cs (get_or order j 0)) i)
    → (k : ℕ) → k ≤ j → get_or new (get_or order k 0) 0 ≡ get_or d (get_or order k 0) 0
kept cs order j d new o lt depth at k le =
    let x = get_or order k 0 in
    at x ∙ cond-false (is_in x (children_at cs (get_or order j 0))) (max (get_or d x 0) depth) (get_or d x 0)
    (false_from_ne_true _ (λ h. let behind = child_behind cs order o j k lt (omega arith) h in omega arith))

-- a place whose node pushes one more than its own depth
pub pushed-more : (root : ℕ) (cs : List (List ℕ)) (order : List ℕ) (j : ℕ) (d new : List ℕ)
    → IsOrder cs order → NobodyHas root cs → IsPushed root cs order j d → j < length order → get_or order j 0 ≢ root
    → length new ≡ length d
    → ((i : ℕ) → get_or new i 0 ≡ deepened d (get_or d (get_or order j 0) 0 + 1) (children_at cs (get_or order j 0)) i)
    → IsPushed root cs order (j + 1) new
pushed-more root cs order j d new o nobody p lt other count at =
    let g = get_or order j 0 in
    let depth = get_or d g 0 + 1 in
    let gs = children_at cs g in
    let same = kept cs order j d new o lt depth at in
    let grows = λ (i : ℕ). pushed_least (is_in i gs) (get_or d i 0) (get_or new i 0) depth (at i) in
    record {
      count = count ∙ p.count;
      top = at root ∙ cond-false (is_in root gs) (max (get_or d root 0) depth) (get_or d root 0) (nobody g) ∙ p.top;
      others = λ i within ne. let a = p.others i within ne in let b = grows i in omega arith;
      bound = λ k kn. let x = get_or order k 0 in let a = p.bound k kn in let b = p.bound j lt in
          elim (pushed_cases (is_in x gs) (get_or d x 0) (get_or new x 0) depth (at x)) [
            | inl e ↦ omega arith
            | inr e ↦ let behind = child_behind cs order o j k lt kn e.0 in omega arith
          ];
      deeper = λ k c before kn ne h. elim (cases_eq k j) [
        | inl s ↦
            let there = pushed_there (is_in c gs) (get_or d c 0) (get_or new c 0) depth (at c) (rw s at h) in
            let stays = same j (omega arith) in
            rw s (omega arith)
        | inr s ↦
            let was = p.deeper k c (omega arith) kn ne h in
            let stays = same k (omega arith) in
            let more = grows c in
            omega arith
      ];
      least = λ c deep. elim (pushed_cases (is_in c gs) (get_or d c 0) (get_or new c 0) depth (at c)) [
        | inl e ↦
            let l = p.least c (omega arith) in
            let stays = same l.0 (omega arith) in
            (l.0, omega arith, l.2, l.3, l.4, omega (arith, l.5))
        | inr e ↦
            let stays = same j (omega arith) in
            (j, omega arith, lt, other, e.0, omega arith)
      ];
    }

pub depths-all_pushed : (root : ℕ) (cs : List (List ℕ)) (order : List ℕ) (j : ℕ) (d : List ℕ)
    → IsOrder cs order → IsPushed root cs order j d → length order ≤ j → AreDepths root cs d
depths-all_pushed root cs order j d o p over = record {
  count = p.count;
  top = λ i _ e. ap (λ n. get_or d n 0) e ∙ p.top;
  others = p.others;
  bound = λ i lt. let w = o.whole i lt in let few = places-le cs order o in
      let b = p.bound w.0 w.1 in let e = ap (λ n. get_or d n 0) w.2 in omega arith;
  deeper = λ i c lt ne h. let w = o.whole i lt in
      subst (λ (n : ℕ). get_or d n 0 < get_or d c 0) w.2
      (p.deeper w.0 c (omega arith) w.1 (λ e. ne (sym w.2 ∙ e)) (ap (λ n. is_in c (children_at cs n)) w.2 ∙ h));
  least = λ c _ deep. let l = p.least c deep in
      (get_or order l.0 0, o.within l.0 l.2, l.3, l.4, l.5);
}
