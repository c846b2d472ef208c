-- Steps towards a solution: so many edges are covered, by the least meanings that can be.
use Rattle.std.proofs.Common.{◌≡◌, ◌≢◌, ◌≤◌, ◌<◌, ◌+◌, ℕ, zero, suc, List, [], ◌∷◌, ◌++◌, Bool, true, false, nat_le, length, slice_index_or, slice_set, ◌⊎◌, inl, inr, ⊎_elim, refl, sym, ap, subst, ◌∙◌, arith}
use Rattle.std.proofs.lemmas.Bool.Decides.{nat_tests}
use Rattle.std.proofs.lemmas.List.{get_or-set_same, get_or-set_other, get_or_append_left, get_or_default, length-append, length-set}
use Rattle.std.proofs.Math.Seq.{get_or-append_seam}
use Rattle.pb_lattice.specs.Graph.{Graph, Rises, edge_at}
use Rattle.pb_lattice.specs.Solution.{Covers}
use Rattle.pb_lattice.specs.Space.{Extends}

same_or_not : (n m : ℕ) → (n ≡ m) ⊎ (n ≢ m)
same_or_not n m = go (nat_le n m) (nat_le m n) refl refl where
  go : (p q : Bool) → nat_le n m ≡ p → nat_le m n ≡ q → (n ≡ m) ⊎ (n ≢ m)
  go true true x y = inl (grind (arith, nat_tests))
  go true false x y = inr (grind (arith, nat_tests))
  go false q x y = inr (grind (arith, nat_tests))

less_or_same : (j i : ℕ) → j < i + 1 → (j ≡ i) ⊎ (j < i)
less_or_same j i h = go (nat_le i j) refl where
  go : (p : Bool) → nat_le i j ≡ p → (j ≡ i) ⊎ (j < i)
  go true x = inl (grind (arith, nat_tests))
  go false x = inr (grind (arith, nat_tests))

least_place : (n : ℕ) → (n ≡ 0) ⊎ (1 ≤ n)
least_place zero = inl refl
least_place (suc n) = inr (grind arith)

no_less : {A : Type 0} (j : ℕ) → j < 0 → A
no_less j h = absurd (grind arith)

-- what stands at a place doesn't depend on what is given past the end
pub in_range : {X : Type 0} (vs : List X) (n : ℕ) (d e : X) → n < length vs → d ≡ slice_index_or vs n d → d ≡ slice_index_or vs n e
in_range vs n d e h x = x ∙ get_or_default vs n d e h

-- meanings that cover so many edges, and are below all that cover each edge
module _ {M : Type 0} (well : M → Type 0) (below : M → M → Type 0) (carried : ℕ → M → M) (g : Graph) (entry : M) where
  pub record Part (i : ℕ) (a : ℕ → M) : Type 0 where
    pub wells : (n : ℕ) → n < g.count → well (a n)
    pub entered : below entry (a 0)
    pub covered : (j : ℕ) → j < i → below (carried j (a (edge_at g j).source)) (a (edge_at g j).target)
    pub least : (w : ℕ → M) → Covers well below carried g entry w → (n : ℕ) → n < g.count → below (a n) (w n)

  -- the entry and lowest meanings cover no edge yet
  pub no_edge : (a : ℕ → M) → a 0 ≡ entry → below entry entry → ((n : ℕ) → n < g.count → well (a n))
      → ((n : ℕ) → 1 ≤ n → n < g.count → (m : M) → well m → below (a n) m) → Part 0 a
  no_edge a e o w l = record {
    wells = w;
    entered = subst (λ x. below entry x) (sym e) o;
    covered = λ j h. no_less j h;
    least = λ v k n h. ⊎_elim (λ z. subst (λ m. below (a m) (v m)) (sym z) (subst (λ x. below x (v 0)) (sym e) k.entered)) (λ z. l n z h (v n) (k.wells n h)) (least_place n);
  }

  -- one edge more: its target's meaning is joined with what is carried along it
  module _ (through : (a b c : M) → well a → well b → well c → below a b → below b c → below a c) (own : (a : M) → well a → below a a)
      (goes_up : (e : ℕ) (a b : M) → e < length g.edges → well a → well b → below a b → below (carried e a) (carried e b)) (stays : (e : ℕ) (a : M) → e < length g.edges → well a → well (carried e a))
      (we : well entry) (r : Rises g) (i : ℕ) (a b : ℕ → M) (h : i < length g.edges) (wb : (n : ℕ) → n < g.count → well (b n))
      (others : (n : ℕ) → n < g.count → n ≢ (edge_at g i).target → b n ≡ a n)
      (over : below (a (edge_at g i).target) (b (edge_at g i).target)) (up : below (carried i (a (edge_at g i).source)) (b (edge_at g i).target))
      (lowest : (m : M) → well m → below (a (edge_at g i).target) m → below (carried i (a (edge_at g i).source)) m → below (b (edge_at g i).target) m) where
    abbrev s : ℕ → ℕ
    s j = (edge_at g j).source

    abbrev t : ℕ → ℕ
    t j = (edge_at g j).target

    inside : (j : ℕ) → j < length g.edges → s j < g.count
    inside j l = let x = r.up j l in let y = r.inside j l in grind arith

    kept : (j : ℕ) → j ≤ i → b (s j) ≡ a (s j)
    kept j l = let m : j < length g.edges = grind arith in let x = r.in_order j i l h in let y = r.up i h in others (s j) (inside j m) (grind arith)

    grows : (n : ℕ) → n < g.count → well (a n) → below (a n) (b n)
    grows n k w = ⊎_elim (λ e. subst (λ m. below (a m) (b m)) (sym e) over) (λ e. subst (λ z. below (a n) z) (sym (others n k e)) (own (a n) w)) (same_or_not n (t i))

    pub edge_more : Part i a → Part (i + 1) b
    edge_more p = record {
      wells = wb;
      entered = through entry (a 0) (b 0) we (p.wells 0 r.some) (wb 0 r.some) p.entered (grows 0 r.some (p.wells 0 r.some));
      covered = λ j l. ⊎_elim new (old j) (less_or_same j i l);
      least = λ w k n l. ⊎_elim (λ e. subst (λ m. below (b m) (w m)) (sym e) (low w k)) (λ e. subst (λ z. below z (w n)) (sym (others n l e)) (p.least w k n l)) (same_or_not n (t i));
    } where
      new : {j : ℕ} → j ≡ i → below (carried j (b (s j))) (b (t j))
      new e = subst (λ m. below (carried m (b (s m))) (b (t m))) (sym e) (subst (λ z. below (carried i z) (b (t i))) (sym (kept i (grind arith))) up)

      old : (j : ℕ) → j < i → below (carried j (b (s j))) (b (t j))
      old j l =
          let m : j < length g.edges = grind arith in
          let wt = p.wells (t j) (r.inside j m) in
          let x : below (carried j (a (s j))) (b (t j)) = through (carried j (a (s j))) (a (t j)) (b (t j)) (stays j (a (s j)) m (p.wells (s j) (inside j m))) wt (wb (t j) (r.inside j m)) (p.covered j l) (grows (t j) (r.inside j m) wt) in
          subst (λ z. below (carried j z) (b (t j))) (sym (kept j (grind arith))) x

      low : (w : ℕ → M) → Covers well below carried g entry w → below (b (t i)) (w (t i))
      low w k =
          let ws = k.wells (s i) (inside i h) in
          let wt = k.wells (t i) (r.inside i h) in
          let was = p.wells (s i) (inside i h) in
          let x = goes_up i (a (s i)) (w (s i)) h was ws (p.least w k (s i) (inside i h)) in
          lowest (w (t i)) wt (p.least w k (t i) (r.inside i h)) (through (carried i (a (s i))) (carried i (w (s i))) (w (t i)) (stays i (a (s i)) h was) (stays i (w (s i)) h ws) wt x (k.covered i h))

  -- after all edges
  pub all_covered : (a : ℕ → M) → Part (length g.edges) a → Covers well below carried g entry a
  all_covered a p = record { wells = p.wells; entered = p.entered; covered = p.covered }

-- what extends in turn extends
pub extends_through : {S V M : Type 0} (stands : S → V → Type 0) (meaning : S → V → M) (s t u : S) → Extends stands meaning s t → Extends stands meaning t u → Extends stands meaning s u
extends_through stands meaning s t u h i = λ v w. let x = h v w in let y = i v x.0 in (y.0, y.1 ∙ x.1)

-- values of the nodes in a space that may have grown
module _ {S V M : Type 0} (stands : S → V → Type 0) (meaning : S → V → M) (well : M → Type 0) (below : M → M → Type 0) (before : S) (entry : V) where
  abbrev at : List V → ℕ → V
  at vs n = slice_index_or vs n entry

  -- the entry, and the lowest for some nodes more
  pub record Begun (c : ℕ) (vs : List V) : Type 0 where
    pub number : length vs ≡ c
    pub first : slice_index_or vs 0 entry ≡ entry
    pub stand : (n : ℕ) → n < c → stands before (slice_index_or vs n entry)
    pub lowest : (n : ℕ) → 1 ≤ n → n < c → (m : M) → well m → below (meaning before (slice_index_or vs n entry)) m

  pub begun_one : stands before entry → Begun 1 (entry ∷ [])
  begun_one h = record { number = refl; first = refl; stand = one; lowest = λ n l m. absurd (grind arith) } where
    one : (n : ℕ) → n < 1 → stands before (at (entry ∷ []) n)
    one n l = let e : n ≡ 0 = grind arith in subst (λ m. stands before (at (entry ∷ []) m)) (sym e) h

  pub begun_more : (c : ℕ) (vs : List V) (b : V) → 1 ≤ c → stands before b → ((m : M) → well m → below (meaning before b) m) → Begun c vs → Begun (c + 1) (vs ++ b ∷ [])
  begun_more c vs b h w l p = record {
    number = length-append vs (b ∷ []) ∙ ap (λ n. n + 1) p.number;
    first = get_or_append_left vs (b ∷ []) entry 0 (subst (λ n. 0 < n) (sym p.number) (grind arith)) ∙ p.first;
    stand = λ n i. ⊎_elim (λ e. subst (stands before) (sym (last n e)) w) (λ j. subst (stands before) (sym (front n j)) (p.stand n j)) (less_or_same n c i);
    lowest = λ n k i. ⊎_elim (λ e. subst (λ z. (m : M) → well m → below (meaning before z) m) (sym (last n e)) l) (λ j. subst (λ z. (m : M) → well m → below (meaning before z) m) (sym (front n j)) (p.lowest n k j)) (less_or_same n c i);
  } where
    last : (n : ℕ) → n ≡ c → at (vs ++ b ∷ []) n ≡ b
    last n e = ap (at (vs ++ b ∷ [])) (e ∙ sym p.number) ∙ get_or-append_seam vs b [] entry

    front : (n : ℕ) → n < c → at (vs ++ b ∷ []) n ≡ at vs n
    front n j = get_or_append_left vs (b ∷ []) entry n (subst (λ m. n < m) (sym p.number) j)

-- so many edges are covered
module _ {S V M : Type 0} (stands : S → V → Type 0) (meaning : S → V → M) (well : M → Type 0) (below : M → M → Type 0) (carried : ℕ → M → M) (g : Graph) (before : S) (entry : V) where
  abbrev nth : List V → ℕ → V
  nth vs n = slice_index_or vs n entry

  pub record Stage (i : ℕ) (s : S) (vs : List V) : Type 0 where
    pub number : length vs ≡ g.count
    pub extends : Extends stands meaning before s
    pub stand : (n : ℕ) → n < g.count → stands s (slice_index_or vs n entry)
    pub part : Part well below carried g (meaning before entry) i (λ n. meaning s (slice_index_or vs n entry))

  -- no edge yet
  pub begun_stage : ((v : V) → stands before v → well (meaning before v)) → ((a : M) → well a → below a a) → stands before entry → (vs : List V) → Begun stands meaning well below before entry g.count vs → Stage 0 before vs
  begun_stage wells own h vs p = record {
    number = p.number;
    extends = λ v w. (w, refl);
    stand = p.stand;
    part = no_edge well below carried g (meaning before entry) (λ n. meaning before ((nth vs) n)) (ap (meaning before) p.first) (own (meaning before entry) (wells entry h)) (λ n l. wells ((nth vs) n) (p.stand n l)) p.lowest;
  }

  -- one edge more
  module _ (wells : (s : S) (v : V) → stands s v → well (meaning s v)) (through : (a b c : M) → well a → well b → well c → below a b → below b c → below a c) (own : (a : M) → well a → below a a)
      (goes_up : (e : ℕ) (a b : M) → e < length g.edges → well a → well b → below a b → below (carried e a) (carried e b)) (stays : (e : ℕ) (a : M) → e < length g.edges → well a → well (carried e a))
      (he : stands before entry) (r : Rises g) (i : ℕ) (h : i < length g.edges) (s s1 s2 : S) (vs : List V) (x j : V)
      (k1 : Extends stands meaning s s1) (hx : stands s1 x)
      (most : below (meaning s1 x) (carried i (meaning s (slice_index_or vs (edge_at g i).source entry)))) (least : below (carried i (meaning s (slice_index_or vs (edge_at g i).source entry))) (meaning s1 x))
      (k2 : Extends stands meaning s1 s2) (hj : stands s2 j)
      (above : below (meaning s1 (slice_index_or vs (edge_at g i).target entry)) (meaning s2 j) × below (meaning s1 x) (meaning s2 j))
      (lowest : (m : M) → well m → below (meaning s1 (slice_index_or vs (edge_at g i).target entry)) m → below (meaning s1 x) m → below (meaning s2 j) m) where
    abbrev source : ℕ
    source = (edge_at g i).source

    abbrev target : ℕ
    target = (edge_at g i).target

    abbrev us : List V
    us = slice_set vs (edge_at g i).target j

    lower : source < g.count
    lower = let a = r.up i h in let b = r.inside i h in grind arith

    pub stage_more : Stage i s vs → Stage (i + 1) s2 (slice_set vs (edge_at g i).target j)
    stage_more p = record {
      number = length-set vs target j ∙ p.number;
      extends = extends_through stands meaning before s s2 p.extends k;
      stand = stand_at;
      part = edge_more well below carried g (meaning before entry) through own goes_up stays (wells before entry he) r i (λ n. meaning s ((nth vs) n)) (λ n. meaning s2 ((nth us) n)) h
          (λ n l. wells s2 ((nth us) n) (stand_at n l))
          (λ n l e. ap (meaning s2) (there n e) ∙ (k ((nth vs) n) (p.stand n l)).1)
          (subst (λ v. below (meaning s ((nth vs) target)) (meaning s2 v)) (sym here) (subst (λ m. below m (meaning s2 j)) old above.0))
          (subst (λ v. below (carried i (meaning s ((nth vs) source))) (meaning s2 v)) (sym here) (through (carried i (meaning s ((nth vs) source))) (meaning s1 x) (meaning s2 j) wc wx wj least above.1))
          (λ m w a b. subst (λ v. below (meaning s2 v) m) (sym here) (lowest m w (subst (λ z. below z m) (sym old) a) (through (meaning s1 x) (carried i (meaning s ((nth vs) source))) m wx wc w most b)))
          p.part;
    } where
      within : target < length vs
      within = subst (λ n. target < n) (sym p.number) (r.inside i h)

      k : Extends stands meaning s s2
      k = extends_through stands meaning s s1 s2 k1 k2

      here : (nth us) target ≡ j
      here = get_or-set_same vs target j entry within

      there : (n : ℕ) → n ≢ target → (nth us) n ≡ (nth vs) n
      there n e = get_or-set_other vs target n j entry e

      stand_at : (n : ℕ) → n < g.count → stands s2 ((nth us) n)
      stand_at n l = ⊎_elim (λ e. subst (λ m. stands s2 ((nth us) m)) (sym e) (subst (stands s2) (sym here) hj)) (λ e. subst (stands s2) (sym (there n e)) (k ((nth vs) n) (p.stand n l)).0) (same_or_not n target)

      old : meaning s1 ((nth vs) target) ≡ meaning s ((nth vs) target)
      old = (k1 ((nth vs) target) (p.stand target (r.inside i h))).1

      wc : well (carried i (meaning s ((nth vs) source)))
      wc = stays i (meaning s ((nth vs) source)) h (wells s ((nth vs) source) (p.stand source lower))

      wx : well (meaning s1 x)
      wx = wells s1 x hx

      wj : well (meaning s2 j)
      wj = wells s2 j hj
