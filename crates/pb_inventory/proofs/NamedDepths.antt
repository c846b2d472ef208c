-- How deep groups lie by their names, where the groups are numbered.
use Rattle.std.proofs.Common.{◌≡◌, ℕ, zero, suc, ◌+◌, ◌<◌, ◌≤◌, List, [], ◌∷◌, length, get_or, drop, map, max, true, false, not, ◌&&◌, bytes_eq, refl, sym, ap, ◌∙◌, inl, inr, arith}
use Rattle.std.specs.List.{filter, fold}
use Rattle.std.specs.Prelude.{◌≢◌}
use Rattle.std.proofs.lemmas.Bool.{and_from, and_parts, cases_Bool, cases_eq, cases_lt, cond_both, cond-false, cond-true, false_from_ne_true, false≢true, not-true, not_from_false, or_cases, or_left, or_right}
use Rattle.pb_semantics.specs.Keeps.{is_among}
use Rattle.pb_semantics.proofs.Names.{own_name, same_name}
use Rattle.pb_language.specs.Expression.{Name}
use Rattle.pb_language.specs.Families.{depth, depth_within, own_children, parents}
use Rattle.pb_language.specs.Written.{Written, all_group}
use Rattle.pb_inventory.specs.Families.{AreDepths}
use Rattle.pb_inventory.specs.Graph.{IsOrder, children_at, is_in, parents_count}
use Rattle.pb_inventory.specs.Numbered.{AreNumbered, are_apart, name_of, named, written_names}
use Rattle.pb_inventory.proofs.Apart.{apart_first, apart_rest, differs, group_names-written, is_among-head, name_of-same, parent-written, place-of_name}
use Rattle.pb_inventory.proofs.NamedCycles.{child-within, is_among-named, is_in-named, names-apart, parents_count-few}
use Rattle.pb_inventory.proofs.Orders.{parents_from, parents_within, parents-most}

-- a node lies no deeper than parents stand before it in an order
module _ (cs : List (List ℕ)) (order d : List ℕ) (root : ℕ) (o : IsOrder cs order) (t : AreDepths root cs d) where
  parents_left : (j : ℕ) → parents_from cs order j ≤ parents_count cs
  parents_left j = parents-most (λ i. is_in i (drop j order)) 0 cs

  depth_at : (most j : ℕ) → j < length order → get_or d (get_or order j 0) 0 ≤ most → get_or d (get_or order j 0) 0 + parents_from cs order j ≤ suc (parents_count cs)
  depth_at zero j lt le = omega (arith, le, parents_left j)
  depth_at (suc most) j lt le = elim (cases_lt 1 (get_or d (get_or order j 0) 0)) [
    | inl deep ↦
        let c = get_or order j 0 in
        let p = t.least c (o.within j lt) deep in
        let w = o.whole p.0 p.1 in
        let b = parents_within cs order o w.0 c w.1 (ap (λ x. is_in c (children_at cs x)) w.2 ∙ p.3) in
        let here : parents_from cs order b.0 ≡ parents_from cs order j = ap (parents_from cs order) (o.once b.0 j b.1 lt b.2) in
        let same : get_or d (get_or order w.0 0) 0 ≡ get_or d p.0 0 = ap (λ x. get_or d x 0) w.2 in
        let before = depth_at most w.0 w.1 (omega (arith, same, p.4, le)) in
        omega (arith, before, same, here, b.3, p.4)
    | inr low ↦ omega (arith, low, parents_left j)
  ]

  depth-most : (i : ℕ) → i < length cs → get_or d i 0 ≤ suc (parents_count cs)
  depth-most i lt =
      let w = o.whole i lt in
      let same : get_or d (get_or order w.0 0) 0 ≡ get_or d i 0 = ap (λ x. get_or d x 0) w.2 in
      omega (arith, same, depth_at (get_or d (get_or order w.0 0) 0) w.0 w.1 (omega arith))

-- the largest of what f makes of names
abbrev deepest : (Name → ℕ) → ℕ → List Name → ℕ
deepest f m ns = fold (λ most n. max most (f n)) m ns

deepest-below : (f : Name → ℕ) (most m : ℕ) (ns : List Name) → m < most → ((n : Name) → is_among n ns ≡ true → f n < most) → deepest f m ns < most
deepest-below f most m [] lt h = lt
deepest-below f most m (n ∷ ns) lt h =
    let here = h n (is_among-head n ns) in
    deepest-below f most (max m (f n)) ns (omega (arith, lt, here)) (λ p i. h p (or_right (bytes_eq p n) (is_among p ns) i))

deepest-start : (f : Name → ℕ) (m : ℕ) (ns : List Name) → m ≤ deepest f m ns
deepest-start f m [] = omega arith
deepest-start f m (n ∷ ns) = omega (arith, deepest-start f (max m (f n)) ns)

deepest-some : (f : Name → ℕ) (m : ℕ) (ns : List Name) (n : Name) → is_among n ns ≡ true → f n ≤ deepest f m ns
deepest-some f m [] n h = absurd (false≢true h)
deepest-some f m (p ∷ ns) n h = elim (or_cases (bytes_eq n p) (is_among n ns) h) [
  | inl e ↦
      let same = ap f (same_name n p e) in
      omega (arith, same, deepest-start f (max m (f p)) ns)
  | inr r ↦ deepest-some f (max m (f p)) ns n r
]

-- a written group that has the name among its children, but for the one of all hosts
abbrev IsParent : List Written → Name → Name → Type 0
IsParent ws n p = (is_among n (own_children p ws) ≡ true) × (bytes_eq p all_group ≡ false)

written_parent : (ws : List Written) (n p : Name) → IsParent ws n p → is_among p (written_names ws) ≡ true
written_parent ws n p h = parent-written p ws (λ none. false≢true (sym (ap (is_among n) none) ∙ h.0))

parent_behind : (w : Written) (ws : List Written) (n p : Name) → are_apart (written_names (w ∷ ws)) ≡ true → IsParent ws n p → IsParent (w ∷ ws) n p
parent_behind w ws n p apart h =
    let other = differs p w.name (written_names ws) (written_parent ws n p h) (apart_first w.name (written_names ws) apart) in
    (ap (is_among n) (cond-false (bytes_eq p w.name) w.children (own_children p ws) other) ∙ h.0, h.1)

from-parents : (ws : List Written) (n p : Name) → are_apart (written_names ws) ≡ true → is_among p (parents ws n) ≡ true → IsParent ws n p
from-parents [] n p apart h = absurd (false≢true h)
from-parents (w ∷ ws) n p apart h =
    let test = is_among n w.children && not (bytes_eq w.name all_group) in
    let later = λ (i : is_among p (parents ws n) ≡ true). parent_behind w ws n p apart (from-parents ws n p (apart_rest w.name (written_names ws) apart) i) in
    elim (cases_Bool test) [
      | inl is ↦
          let first : parents (w ∷ ws) n ≡ w.name ∷ parents ws n = rw is refl in
          elim (or_cases (bytes_eq p w.name) (is_among p (parents ws n)) (ap (is_among p) (sym first) ∙ h)) [
            | inl e ↦
                let both = and_parts (is_among n w.children) (not (bytes_eq w.name all_group)) is in
                (ap (is_among n) (cond-true (bytes_eq p w.name) w.children (own_children p ws) e) ∙ both.0, ap (λ m. bytes_eq m all_group) (same_name p w.name e) ∙ not-true (bytes_eq w.name all_group) both.1)
            | inr r ↦ later r
          ]
      | inr none ↦
          let skipped : parents (w ∷ ws) n ≡ parents ws n = rw none refl in
          later (ap (is_among p) (sym skipped) ∙ h)
    ]

to-parents : (ws : List Written) (n p : Name) → IsParent ws n p → is_among p (parents ws n) ≡ true
to-parents [] n p h = absurd (false≢true h.0)
to-parents (w ∷ ws) n p h =
    let test = is_among n w.children && not (bytes_eq w.name all_group) in
    elim (cases_Bool (bytes_eq p w.name)) [
      | inl e ↦
          let child = ap (is_among n) (sym (cond-true (bytes_eq p w.name) w.children (own_children p ws) e)) ∙ h.0 in
          let other = ap (λ m. bytes_eq m all_group) (sym (same_name p w.name e)) ∙ h.1 in
          let is : test ≡ true = and_from (is_among n w.children) (not (bytes_eq w.name all_group)) child (not_from_false (bytes_eq w.name all_group) other) in
          let first : parents (w ∷ ws) n ≡ w.name ∷ parents ws n = rw is refl in
          ap (is_among p) first ∙ or_left (bytes_eq p w.name) (is_among p (parents ws n)) e
      | inr e ↦
          let rest = to-parents ws n p (ap (is_among n) (sym (cond-false (bytes_eq p w.name) w.children (own_children p ws) e)) ∙ h.0, h.1) in
          cond_both test (w ∷ filter (λ v. is_among n v.children && not (bytes_eq v.name all_group)) ws) (filter (λ v. is_among n v.children && not (bytes_eq v.name all_group)) ws)
          (λ vs. is_among p (map (λ v. v.name) vs) ≡ true)
          (λ is. or_right (bytes_eq p w.name) (is_among p (parents ws n)) rest)
          (λ none. rest)
    ]

all-depth : (k : ℕ) (ws : List Written) → 0 < k → depth_within k ws all_group ≡ 0
all-depth zero ws lt = absurd (omega (arith, lt))
all-depth (suc k) ws lt = cond-true (bytes_eq all_group all_group) 0 (suc (deepest (depth_within k ws) 0 (parents ws all_group))) (own_name all_group)

module _ {ws : List Written} {hs ns : List Name} {os cs : List (List ℕ)} (a : AreNumbered ws hs ns os cs)
    (root : ℕ) (top : root < length ns) (is_all : name_of ns root ≡ all_group) (d : List ℕ) (t : AreDepths root cs d) where
  other_name : (i : ℕ) → i < length ns → i ≢ root → bytes_eq (name_of ns i) all_group ≡ false
  other_name i lt other = false_from_ne_true (bytes_eq (name_of ns i) all_group) (λ h.
      other (name_of-same ns (names-apart a) i root lt top (same_name (name_of ns i) all_group h ∙ sym is_all)))

  -- a parent by name is one by number
  parent-number : (i : ℕ) (p : Name) → i < length ns → IsParent ws (name_of ns i) p → (q : ℕ) × (q < length ns) × (name_of ns q ≡ p) × (q ≢ root) × (is_in i (children_at cs q) ≡ true)
  parent-number i p lt h =
      let n = name_of ns i in
      let q = place-of_name p ns (ap (is_among p) a.names ∙ group_names-written p ws (written_parent ws n p h)) in
      let ds = children_at cs q.0 in
      let child : is_among n (named ns ds) ≡ true = ap (is_among n) (a.children q.0 q.1 ∙ ap (λ m. own_children m ws) q.2) ∙ h.0 in
      (q.0, q.1, q.2, (λ e. false≢true (sym h.1 ∙ ap (λ m. bytes_eq m all_group) (sym q.2 ∙ ap (name_of ns) e ∙ is_all) ∙ own_name all_group)), sym (is_in-named ns (names-apart a) i ds lt (child-within a q.0)) ∙ child)

  parent-name : (i q : ℕ) → q < length ns → q ≢ root → is_in i (children_at cs q) ≡ true → IsParent ws (name_of ns i) (name_of ns q)
  parent-name i q lt other h =
      (ap (is_among (name_of ns i)) (sym (a.children q lt)) ∙ is_among-named ns i (children_at cs q) h, other_name q lt other)

  -- a group lies one deeper than its deepest parent, where the parents are known
  deepest-parent : (f : Name → ℕ) (i : ℕ) → i < length ns → i ≢ root → ((q : ℕ) → q < length ns → q ≢ root → get_or d q 0 < get_or d i 0 → f (name_of ns q) ≡ get_or d q 0)
      → suc (deepest f 0 (parents ws (name_of ns i))) ≡ get_or d i 0
  deepest-parent f i lt other known =
      let n = name_of ns i in
      let some = t.others i (rw a.counted lt) other in
      let most = deepest-below f (get_or d i 0) 0 (parents ws n) some (λ p h.
      let q = parent-number i p lt (from-parents ws n p a.apart h) in
      let less = t.deeper q.0 i (omega (arith, q.1, a.counted)) q.3 q.4 in
      let same = ap f (sym q.2) ∙ known q.0 q.1 q.3 less in
      omega (arith, same, less)) in
      elim (cases_lt 1 (get_or d i 0)) [
        | inl deep ↦
            let p = t.least i (rw a.counted lt) deep in
            let within : p.0 < length ns = omega (arith, p.1, a.counted) in
            let there = to-parents ws n (name_of ns p.0) (parent-name i p.0 within p.2 p.3) in
            let least = deepest-some f 0 (parents ws n) (name_of ns p.0) there in
            omega (arith, most, least, p.4, known p.0 within p.2 (omega (arith, p.4)))
        | inr low ↦ omega (arith, most, low, some)
      ]

  -- within so many generations the depth is right of a group that lies no deeper
  depth_within-numbered : (k i : ℕ) → i < length ns → i ≢ root → get_or d i 0 ≤ suc k → depth_within k ws (name_of ns i) ≡ get_or d i 0
  depth_within-numbered zero i lt other few = omega (arith, few, t.others i (rw a.counted lt) other)
  depth_within-numbered (suc k) i lt other few =
      let n = name_of ns i in
      cond-false (bytes_eq n all_group) 0 (suc (deepest (depth_within k ws) 0 (parents ws n))) (other_name i lt other)
      ∙ deepest-parent (depth_within k ws) i lt other (λ q within no_root less. depth_within-numbered k q within no_root (omega (arith, less, few)))

-- a group lies as deep as its number
pub depth-numbered : {ws : List Written} {hs ns : List Name} {os cs : List (List ℕ)} → AreNumbered ws hs ns os cs → (order : List ℕ) → IsOrder cs order
    → (root : ℕ) → root < length ns → name_of ns root ≡ all_group → (d : List ℕ) → AreDepths root cs d → 0 < length ws
    → (i : ℕ) → i < length ns → depth ws (name_of ns i) ≡ get_or d i 0
depth-numbered {ws} {ns = ns} {cs = cs} a order o root top is_all d t some i lt = elim (cases_eq i root) [
  | inl e ↦ ap (depth ws) (ap (name_of ns) e ∙ is_all) ∙ all-depth (length ws) ws some ∙ sym (t.top i (rw a.counted lt) e)
  | inr other ↦
      let most = depth-most cs order d root o t i (rw a.counted lt) in
      depth_within-numbered a root top is_all d t (length ws) i lt other (omega (arith, most, parents_count-few a))
]
