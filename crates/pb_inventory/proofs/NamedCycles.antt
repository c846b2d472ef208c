-- Descendants and cycles of groups by their names, where the groups are numbered.
use Rattle.std.proofs.Common.{◌≡◌, ℕ, zero, suc, ◌<◌, ◌≤◌, List, [], ◌∷◌, ◌++◌, length, Bool, true, false, ◌||◌, bytes_eq, refl, sym, ap, subst, ◌∙◌, inl, inr, arith}
use Rattle.std.specs.List.{flat_map, list_any}
use Rattle.std.specs.Prelude.{nat_eq}
use Rattle.std.proofs.lemmas.Bool.{cases_Bool, cases_lt, eqb-true, false_from_ne_true, false≢true, or_cases, or_from, or_left, or_parts, or_right}
use Rattle.std.proofs.lemmas.List.{map-append}
use Rattle.pb_semantics.specs.Keeps.{is_among}
use Rattle.pb_semantics.proofs.Names.{own_name, same_name}
use Rattle.pb_language.specs.Expression.{Name}
use Rattle.pb_language.specs.Families.{descendants, has_cycle, own_children}
use Rattle.pb_language.specs.Written.{Written, all_group}
use Rattle.pb_inventory.specs.Graph.{HasCycle, IsOrder, below, children_at, is_in, parents_count}
use Rattle.pb_inventory.specs.Numbered.{AreNumbered, are_apart, name_of, named, written_names}
use Rattle.pb_inventory.proofs.Apart.{apart_first, apart_more, apart_rest, group_names-apart, group_names-written, is_among-head, is_among-name_of, name_of-same, parent-written, place-of_name, written-few}
use Rattle.pb_inventory.proofs.Cycles.{below-more}
use Rattle.pb_inventory.proofs.Members.{flat_map-same, from-flat_map, is_in-append, is_in-head, is_in-tail}
use Rattle.pb_inventory.proofs.Orders.{below-past, no_cycle}

-- the names of two lists of numbers, one behind the other
pub named-append : (ns : List Name) (is js : List ℕ) → named ns (is ++ js) ≡ named ns is ++ named ns js
named-append ns is js = map-append (name_of ns) is js

-- what is made of each of some names is made of each number's
pub flat_map-named : {A : Type 0} (f : Name → List A) (ns : List Name) (is : List ℕ) → flat_map f (named ns is) ≡ flat_map (λ i. f (name_of ns i)) is
flat_map-named f ns [] = refl
flat_map-named f ns (i ∷ is) = ap (λ xs. f (name_of ns i) ++ xs) (flat_map-named f ns is)

-- the names of what is made of each number
pub named-flat_map : (ns : List Name) (f : ℕ → List ℕ) (is : List ℕ) → flat_map (λ i. named ns (f i)) is ≡ named ns (flat_map f is)
named-flat_map ns f [] = refl
named-flat_map ns f (i ∷ is) = ap (λ xs. named ns (f i) ++ xs) (named-flat_map ns f is) ∙ sym (named-append ns (f i) (flat_map f is))

-- the name of a number that stands among others stands among theirs
pub is_among-named : (ns : List Name) (i : ℕ) (is : List ℕ) → is_in i is ≡ true → is_among (name_of ns i) (named ns is) ≡ true
is_among-named ns i [] h = absurd (false≢true h)
is_among-named ns i (j ∷ js) h = elim (or_cases (nat_eq i j) (is_in i js) h) [
  | inl e ↦ or_left (bytes_eq (name_of ns i) (name_of ns j)) (is_among (name_of ns i) (named ns js)) (subst (λ k. bytes_eq (name_of ns i) (name_of ns k) ≡ true) (eqb-true i j e) (own_name (name_of ns i)))
  | inr r ↦ or_right (bytes_eq (name_of ns i) (name_of ns j)) (is_among (name_of ns i) (named ns js)) (is_among-named ns i js r)
]

from-named : (ns : List Name) (n : Name) (is : List ℕ) → is_among n (named ns is) ≡ true → (i : ℕ) × (is_in i is ≡ true) × (name_of ns i ≡ n)
from-named ns n [] h = absurd (false≢true h)
from-named ns n (i ∷ is) h = elim (or_cases (bytes_eq n (name_of ns i)) (is_among n (named ns is)) h) [
  | inl e ↦ (i, is_in-head i is, sym (same_name n (name_of ns i) e))
  | inr r ↦ let p = from-named ns n is r in (p.0, is_in-tail p.0 i is p.1, p.2)
]

-- where names are apart, a number stands among others just where its name stands among theirs
pub is_in-named : (ns : List Name) → are_apart ns ≡ true → (i : ℕ) (is : List ℕ) → i < length ns → ((j : ℕ) → is_in j is ≡ true → j < length ns) → is_among (name_of ns i) (named ns is) ≡ is_in i is
is_in-named ns apart i is lt within = elim (cases_Bool (is_in i is)) [
  | inl e ↦ is_among-named ns i is e ∙ sym e
  | inr e ↦ false_from_ne_true (is_among (name_of ns i) (named ns is)) (λ h.
      let p = from-named ns (name_of ns i) is h in
      false≢true (sym e ∙ subst (λ j. is_in j is ≡ true) (name_of-same ns apart p.0 i (within p.0 p.1) lt p.2) p.1)) ∙ sym e
]

-- the names of the groups that have children
abbrev parent_names : List Name → List (List ℕ) → List Name
parent_names [] cs = []
parent_names (n ∷ ns) [] = []
parent_names (n ∷ ns) ([] ∷ cs) = parent_names ns cs
parent_names (n ∷ ns) ((c ∷ ds) ∷ cs) = n ∷ parent_names ns cs

parent_names-count : (ns : List Name) (cs : List (List ℕ)) → length cs ≡ length ns → length (parent_names ns cs) ≡ parents_count cs
parent_names-count [] [] h = refl
parent_names-count [] (ds ∷ cs) h = absurd (omega (arith, h))
parent_names-count (n ∷ ns) [] h = refl
parent_names-count (n ∷ ns) ([] ∷ cs) h = parent_names-count ns cs (omega (arith, h))
parent_names-count (n ∷ ns) ((c ∷ ds) ∷ cs) h = ap suc (parent_names-count ns cs (omega (arith, h)))

abbrev ParentAt : List Name → List (List ℕ) → Name → Type 0
ParentAt ns cs q = (i : ℕ) × (i < length ns) × (name_of ns i ≡ q) × (children_at cs i ≡ [] → ⊥)

parent-behind : (n q : Name) (ns : List Name) (ds : List ℕ) (cs : List (List ℕ)) → ParentAt ns cs q → ParentAt (n ∷ ns) (ds ∷ cs) q
parent-behind n q ns ds cs p = (suc p.0, (omega (arith, p.1)), p.2, p.3)

parent-of_name : (ns : List Name) (cs : List (List ℕ)) (q : Name) → is_among q (parent_names ns cs) ≡ true → ParentAt ns cs q
parent-of_name [] cs q h = absurd (false≢true h)
parent-of_name (n ∷ ns) [] q h = absurd (false≢true h)
parent-of_name (n ∷ ns) ([] ∷ cs) q h = parent-behind n q ns [] cs (parent-of_name ns cs q h)
parent-of_name (n ∷ ns) ((c ∷ ds) ∷ cs) q h = elim (or_cases (bytes_eq q n) (is_among q (parent_names ns cs)) h) [
  | inl e ↦ (0, (omega arith), sym (same_name q n e), (λ none. cc))
  | inr r ↦ parent-behind n q ns (c ∷ ds) cs (parent-of_name ns cs q r)
]

parent_names-apart : (ns : List Name) (cs : List (List ℕ)) → are_apart ns ≡ true → are_apart (parent_names ns cs) ≡ true
parent_names-apart [] cs h = refl
parent_names-apart (n ∷ ns) [] h = refl
parent_names-apart (n ∷ ns) ([] ∷ cs) h = parent_names-apart ns cs (apart_rest n ns h)
parent_names-apart (n ∷ ns) ((c ∷ ds) ∷ cs) h =
    apart_more n (parent_names ns cs) (false_from_ne_true (is_among n (parent_names ns cs)) (λ r.
    let p = parent-of_name ns cs n r in
    false≢true (sym (apart_first n ns h) ∙ ap (λ x. is_among x ns) (sym p.2) ∙ is_among-name_of ns p.0 p.1)))
    (parent_names-apart ns cs (apart_rest n ns h))

named-none : (ns : List Name) (is : List ℕ) → named ns is ≡ [] → is ≡ []
named-none ns [] h = refl
named-none ns (i ∷ is) h = absurd (cc)

descendants-none : (k : ℕ) (ws : List Written) (n : Name) → own_children n ws ≡ [] → descendants k ws n ≡ []
descendants-none zero ws n h = refl
descendants-none (suc k) ws n h = ap (λ ms. ms ++ flat_map (descendants k ws) ms) h

-- what some written group is, or none
any_written : (n : Name) (p : Written → Bool) (ws : List Written) → is_among n (written_names ws) ≡ true → ((w : Written) → w.name ≡ n → p w ≡ true) → list_any p ws ≡ true
any_written n p [] h is = absurd (false≢true h)
any_written n p (w ∷ ws) h is = elim (or_cases (bytes_eq n w.name) (is_among n (written_names ws)) h) [
  | inl e ↦ or_left (p w) (list_any p ws) (is w (sym (same_name n w.name e)))
  | inr r ↦ or_right (p w) (list_any p ws) (any_written n p ws r is)
]

none_either : (p q : Written → Bool) (ws : List Written) → list_any p ws ≡ false → ((w : Written) → is_among w.name (written_names ws) ≡ true → q w ≡ false) → list_any (λ w. p w || q w) ws ≡ false
none_either p q [] h none = refl
none_either p q (w ∷ ws) h none =
    let parts = or_parts (p w) (list_any p ws) h in
    or_from (p w || q w) (list_any (λ v. p v || q v) ws) (or_from (p w) (q w) parts.0 (none w (is_among-head w.name (written_names ws))))
    (none_either p q ws parts.1 (λ v i. none v (or_right (bytes_eq v.name w.name) (is_among v.name (written_names ws)) i)))

any_either : (p q : Written → Bool) (ws : List Written) → list_any p ws ≡ true → list_any (λ w. p w || q w) ws ≡ true
any_either p q [] h = h
any_either p q (w ∷ ws) h = elim (or_cases (p w) (list_any p ws) h) [
  | inl e ↦ or_left (p w || q w) (list_any (λ v. p v || q v) ws) (or_left (p w) (q w) e)
  | inr r ↦ or_right (p w || q w) (list_any (λ v. p v || q v) ws) (any_either p q ws r)
]

-- where `all` is a child there is a cycle
pub has_cycle-all : (ws : List Written) → list_any (λ w. is_among all_group w.children) ws ≡ true → has_cycle ws ≡ true
has_cycle-all ws h = any_either (λ w. is_among all_group w.children) (λ w. is_among w.name (descendants (length ws) ws w.name)) ws h

module _ {ws : List Written} {hs ns : List Name} {os cs : List (List ℕ)} (a : AreNumbered ws hs ns os cs) where
  -- the names of the groups are apart
  pub names-apart : are_apart ns ≡ true
  names-apart = ap are_apart a.names ∙ group_names-apart ws

  -- a child has a name
  pub child-within : (i c : ℕ) → is_in c (children_at cs i) ≡ true → c < length ns
  child-within i c h = omega (arith, a.graph i c h, a.counted)

  -- the descendants of a group are those of its number
  pub descendants-numbered : (k i : ℕ) → i < length ns → descendants k ws (name_of ns i) ≡ named ns (below k cs i)
  descendants-numbered zero i lt = refl
  descendants-numbered (suc k) i lt =
      let ds = children_at cs i in
      ap (λ ms. ms ++ flat_map (descendants k ws) ms) (sym (a.children i lt))
      ∙ ap (λ xs. named ns ds ++ xs) (flat_map-named (descendants k ws) ns ds
      ∙ flat_map-same (λ c. descendants k ws (name_of ns c)) (λ c. named ns (below k cs c)) ds (λ c h. descendants-numbered k c (child-within i c h))
      ∙ named-flat_map ns (below k cs) ds)
      ∙ sym (named-append ns ds (flat_map (below k cs) ds))

  -- no more groups have children than are written
  pub parents_count-few : parents_count cs ≤ length ws
  parents_count-few =
      let few = written-few ws (parent_names ns cs) (parent_names-apart ns cs names-apart) (λ n h none.
      let p = parent-of_name ns cs n h in
      p.3 (named-none ns (children_at cs p.0) (a.children p.0 p.1 ∙ ap (λ m. own_children m ws) p.2 ∙ none))) in
      omega (arith, few, parent_names-count ns cs a.counted)

  -- where a node is its own descendant there is a cycle
  pub has_cycle-found : HasCycle cs → has_cycle ws ≡ true
  has_cycle-found c = elim (cases_lt c.0 (length cs)) [
    | inl lt ↦
        let n = name_of ns c.0 in
        let more = below-more cs (parents_count cs) (length ws) c.0 c.0 parents_count-few c.1 in
        let again : is_among n (descendants (length ws) ws n) ≡ true =
        ap (is_among n) (descendants-numbered (length ws) c.0 (omega (arith, lt, a.counted))) ∙ is_among-named ns c.0 (below (length ws) cs c.0) more in
        let there = parent-written n ws (λ none. false≢true (sym (ap (is_among n) (descendants-none (length ws) ws n none)) ∙ again)) in
        any_written n (λ w. is_among all_group w.children || is_among w.name (descendants (length ws) ws w.name)) ws there (λ w e.
        or_right (is_among all_group w.children) (is_among w.name (descendants (length ws) ws w.name))
        (subst (λ m. is_among m (descendants (length ws) ws m) ≡ true) (sym e) again))
    | inr past ↦ absurd (false≢true (sym (ap (is_in c.0) (below-past cs (parents_count cs) c.0 past)) ∙ c.1))
  ]

  below-within : (k i c : ℕ) → is_in c (below k cs i) ≡ true → c < length ns
  below-within zero i c h = absurd (false≢true h)
  below-within (suc k) i c h =
      let ds = children_at cs i in
      elim (is_in-append c ds (flat_map (below k cs) ds) h) [
        | inl e ↦ child-within i c e
        | inr r ↦ let p = from-flat_map c (below k cs) ds r in below-within k p.0 c p.2
      ]

  -- where the nodes have an order, and `all` is no child, there is none
  pub has_cycle-none : (order : List ℕ) → IsOrder cs order → list_any (λ w. is_among all_group w.children) ws ≡ false → has_cycle ws ≡ false
  has_cycle-none order o none =
      none_either (λ w. is_among all_group w.children) (λ w. is_among w.name (descendants (length ws) ws w.name)) ws none (λ w there.
      let p = place-of_name w.name ns (ap (is_among w.name) a.names ∙ group_names-written w.name ws there) in
      let free : is_among (name_of ns p.0) (descendants (length ws) ws (name_of ns p.0)) ≡ false =
      false_from_ne_true (is_among (name_of ns p.0) (descendants (length ws) ws (name_of ns p.0))) (λ h.
      let same = is_in-named ns names-apart p.0 (below (length ws) cs p.0) p.1 (λ c i. below-within (length ws) p.0 c i) in
      false≢true (sym (no_cycle cs order a.graph o (length ws) p.0) ∙ sym same
      ∙ ap (is_among (name_of ns p.0)) (sym (descendants-numbered (length ws) p.0 p.1)) ∙ h)) in
      subst (λ m. is_among m (descendants (length ws) ws m) ≡ false) p.2 free)
