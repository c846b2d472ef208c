-- The roots that are reached are all that is read.
use Rattle.std.proofs.Common.{◌≡◌, ◌∙◌, ℕ, zero, suc, ◌<◌, ◌≤◌, List, [], ◌∷◌, ◌++◌, Bool, true, false, not, ◌||◌, bytes_eq, cond, Option, Some, None, is_some, length, get_or, refl, sym, ap, subst, ◌⊎◌, inl, inr, ⊎_elim, arith}
use Rattle.std.specs.List.{Contains}
use Rattle.std.proofs.lemmas.List.Elements.{Contains-append_left, Contains-append_right, Contains-append_cases, Contains-push}
use Rattle.pb_semantics.specs.Keeps.{is_among}
use Rattle.pb_semantics.proofs.Bools.{untrue, or-left, or-right, or-cases, true-false, neither-right}
use Rattle.pb_semantics.proofs.Names.{same_name, own_name as same_bytes}
use Rattle.pb_language.specs.Expansion.{part_named, depth_in, root_depth, depth_in_all, depth_in_parts}
use Rattle.pb_language.specs.Expression.{Name, Expression, literal, path, hostvars_alone, negation, conjunction, disjunction, comparison, membership, in_batch, defined, undefinable, path_status, value_status, path_or, value_or, length_of, joined_by, concatenation, list_of, record_of, Term, Root, variable, alias, other, member, Expressions, no_expressions, expression, Parts, no_parts, part}
use Rattle.pb_syntax.specs.Aliases.{unknown_in, IsInOrder}
use Rattle.pb_reads.specs.Roots.{roots_in, all_roots, part_roots}
use Rattle.pb_reads.specs.Reads.{IsRead, of_the_host, of_another, through, in_a_tree}
use Rattle.pb_reads.specs.Reached.{own_name, own_names, value_roots, with_value, reached, told_name, told_names}

-- a name is among two lists where it is among one of them
pub among-both : (n : Name) (ns ms : List Name) → is_among n (ns ++ ms) ≡ (is_among n ns || is_among n ms)
among-both n [] ms = refl
among-both n (m ∷ ns) ms = ap (λ b. bytes_eq n m || b) (among-both n ns ms) ∙ grouped (bytes_eq n m) (is_among n ns) (is_among n ms) where
  grouped : (a b c : Bool) → (a || (b || c)) ≡ ((a || b) || c)
  grouped a b c = grind arith

pub among-first : (n : Name) (ns ms : List Name) → is_among n ns ≡ true → is_among n (ns ++ ms) ≡ true
among-first n ns ms h = among-both n ns ms ∙ or-left (is_among n ns) (is_among n ms) h

pub among-second : (n : Name) (ns ms : List Name) → is_among n ms ≡ true → is_among n (ns ++ ms) ≡ true
among-second n ns ms h = among-both n ns ms ∙ or-right (is_among n ns) (is_among n ms) h

among-cases : (n : Name) (ns ms : List Name) → is_among n (ns ++ ms) ≡ true → (is_among n ns ≡ true) ⊎ (is_among n ms ≡ true)
among-cases n ns ms h = or-cases (is_among n ns) (is_among n ms) (sym (among-both n ns ms) ∙ h)

pub among-itself : (n : Name) → is_among n (n ∷ []) ≡ true
among-itself n = or-left (bytes_eq n n) false (same_bytes n)

pub among-one : (n m : Name) → is_among n (m ∷ []) ≡ true → n ≡ m
among-one n m h = ⊎_elim (λ e. same_name n m e) (λ e. untrue e) (or-cases (bytes_eq n m) false h)

-- the own names of two lists
pub own-both : (n : Name) (rs qs : List Root) → is_among n (own_names (rs ++ qs)) ≡ (is_among n (own_names rs) || is_among n (own_names qs))
own-both n [] qs = refl
own-both n (r ∷ rs) qs =
    among-both n (own_name r) (own_names (rs ++ qs)) ∙ ap (λ b. is_among n (own_name r) || b) (own-both n rs qs)
    ∙ grouped (is_among n (own_name r)) (is_among n (own_names rs)) (is_among n (own_names qs))
    ∙ ap (λ b. b || is_among n (own_names qs)) (sym (among-both n (own_name r) (own_names rs))) where
      grouped : (a b c : Bool) → (a || (b || c)) ≡ ((a || b) || c)
      grouped a b c = grind arith

pub own-cases : (n : Name) (rs qs : List Root) → is_among n (own_names (rs ++ qs)) ≡ true → (is_among n (own_names rs) ≡ true) ⊎ (is_among n (own_names qs) ≡ true)
own-cases n rs qs h = or-cases (is_among n (own_names rs)) (is_among n (own_names qs)) (sym (own-both n rs qs) ∙ h)

-- elements of lists
pub here : (r : Root) (rs : List Root) → Contains (r ∷ rs) r
here r rs = Contains-append_left (r ∷ []) rs r (Contains-push [] r)

pub later : (q : Root) (rs : List Root) (r : Root) → Contains rs r → Contains (q ∷ rs) r
later q rs r h = Contains-append_right (q ∷ []) rs r h

pub no-element : {A : Type 0} (r : Root) → Contains [] r → A
no-element r h = absurd (none h.0 h.1) where
  none : (k : ℕ) → k < 0 → ⊥
  none k l = omega (arith, l)

only : (r q : Root) → Contains (r ∷ []) q → r ≡ q
only r q h = at h.0 h.1 h.2 where
  at : (k : ℕ) → k < 1 → get_or (r ∷ []) k q ≡ q → r ≡ q
  at zero l e = e
  at (suc k) l e = absurd (none k l) where
    none : (j : ℕ) → suc j < 1 → ⊥
    none j m = omega (arith, m)

pub first-or-later : (r : Root) (rs : List Root) (q : Root) → Contains (r ∷ rs) q → (r ≡ q) ⊎ Contains rs q
first-or-later r rs q h = ⊎_elim (λ x. inl (only r q x)) (λ x. inr x) (Contains-append_cases (r ∷ []) rs q h)

pub own-there : (rs : List Root) (n : Name) → Contains rs (variable n) → is_among n (own_names rs) ≡ true
own-there [] n h = no-element (variable n) h
own-there (r ∷ rs) n h =
    ⊎_elim (λ e. among-first n (own_name r) (own_names rs) (subst (λ x. is_among n (own_name x) ≡ true) (sym e) (among-itself n)))
    (λ x. among-second n (own_name r) (own_names rs) (own-there rs n x)) (first-or-later r rs (variable n) h)

own-of : (r : Root) (n : Name) → is_among n (own_name r) ≡ true → r ≡ variable n
own-of (variable m) n h = ap variable (sym (among-one n m h))
own-of (alias m e) n h = untrue h
own-of (other t m) n h = untrue h
own-of (member g i) n h = untrue h

pub there-own : (rs : List Root) (n : Name) → is_among n (own_names rs) ≡ true → Contains rs (variable n)
there-own [] n h = untrue h
there-own (r ∷ rs) n h =
    ⊎_elim (λ x. subst (λ q. Contains (q ∷ rs) (variable n)) (sym (own-of r n x)) (here (variable n) rs)) (λ x. later r rs (variable n) (there-own rs n x))
    (among-cases n (own_name r) (own_names rs) h)

abbrev pub Within : List Root → List Root → Type 0
Within rs qs = (r : Root) → Contains rs r → Contains qs r

-- what is read through fewer roots
read-more : (scope : Parts) (rs qs : List Root) (n : Name) → Within rs qs → IsRead scope rs n → IsRead scope qs n
read-more scope rs qs n sub (of_the_host c p) = of_the_host (sub _ c) p
read-more scope rs qs n sub (of_another t c) = of_another t (sub _ c)
read-more scope rs qs n sub (through m e c p x) = through m e (sub _ c) p x
read-more scope rs qs n sub (in_a_tree m e c x) = in_a_tree m e (sub _ c) x

-- what is told is read
told-one : (scope : Parts) (r : Root) (rs : List Root) (n : Name) → is_among n (told_name scope r) ≡ true → IsRead scope (r ∷ rs) n
told-one scope (variable m) rs n h = outside (part_named m scope) refl h where
  outside : (o : Option Expression) → part_named m scope ≡ o → is_among n (cond (is_some o) [] (m ∷ [])) ≡ true → IsRead scope (variable m ∷ rs) n
  outside None p x = rw (among-one n m x) (of_the_host (here (variable m) rs) p)
  outside (Some e) p x = untrue x
told-one scope (alias m e) rs n h = untrue h
told-one scope (other t m) rs n h = rw (among-one n m h) (of_another t (here (other t m) rs))
told-one scope (member g i) rs n h = untrue h

told-read : (scope : Parts) (rs : List Root) (n : Name) → is_among n (told_names scope rs) ≡ true → IsRead scope rs n
told-read scope [] n h = untrue h
told-read scope (r ∷ rs) n h =
    ⊎_elim (λ x. told-one scope r rs n x) (λ x. read-more scope rs (r ∷ rs) n (λ q c. later r rs q c) (told-read scope rs n x)) (among-cases n (told_name scope r) (told_names scope rs) h)

-- what is read of two lists
read-cases : (scope : Parts) (rs qs : List Root) (n : Name) → IsRead scope (rs ++ qs) n → IsRead scope rs n ⊎ IsRead scope qs n
read-cases scope rs qs n (of_the_host c p) = ⊎_elim (λ x. inl (of_the_host x p)) (λ x. inr (of_the_host x p)) (Contains-append_cases rs qs _ c)
read-cases scope rs qs n (of_another t c) = ⊎_elim (λ x. inl (of_another t x)) (λ x. inr (of_another t x)) (Contains-append_cases rs qs _ c)
read-cases scope rs qs n (through m e c p x) = ⊎_elim (λ y. inl (through m e y p x)) (λ y. inr (through m e y p x)) (Contains-append_cases rs qs _ c)
read-cases scope rs qs n (in_a_tree m e c x) = ⊎_elim (λ y. inl (in_a_tree m e y x)) (λ y. inr (in_a_tree m e y x)) (Contains-append_cases rs qs _ c)

read-none : {A : Type 0} (scope : Parts) (rs : List Root) (n : Name) → rs ≡ [] → IsRead scope rs n → A
read-none scope rs n e (of_the_host c p) = no-element (variable n) (subst (λ xs. Contains xs (variable n)) e c)
read-none scope rs n e (of_another t c) = no-element (other t n) (subst (λ xs. Contains xs (other t n)) e c)
read-none scope rs n e (through m v c p x) = no-element (variable m) (subst (λ xs. Contains xs (variable m)) e c)
read-none scope rs n e (in_a_tree m v c x) = no-element (alias m v) (subst (λ xs. Contains xs (alias m v)) e c)

value-read : (scope : Parts) (k : Name) (rs : List Root) (n : Name) (o : Option Expression) → part_named k scope ≡ o → is_among k (own_names rs) ≡ true → IsRead scope (value_roots o) n → IsRead scope rs n
value-read scope k rs n None p own x = read-none scope [] n refl x
value-read scope k rs n (Some e) p own x = through k e (there-own rs k own) p x

value-back : (scope : Parts) (k : Name) (rs : List Root) (n : Name) (b : Bool) → is_among k (own_names rs) ≡ b → IsRead scope (cond b (rs ++ value_roots (part_named k scope)) rs) n → IsRead scope rs n
value-back scope k rs n true own x = ⊎_elim (λ y. y) (λ y. value-read scope k rs n (part_named k scope) refl own y) (read-cases scope rs (value_roots (part_named k scope)) n x)
value-back scope k rs n false own x = x

read-back : (scope ps : Parts) (rs : List Root) (n : Name) → IsRead scope (reached scope ps rs) n → IsRead scope rs n
read-back scope no_parts rs n x = x
read-back scope (part k v ps) rs n x =
    read-back scope ps rs n (value-back scope k (reached scope ps rs) n (is_among k (own_names (reached scope ps rs))) refl x)

pub told-is-read : (scope ps : Parts) (rs : List Root) (n : Name) → is_among n (told_names scope (reached scope ps rs)) ≡ true → IsRead scope rs n
told-is-read scope ps rs n h = read-back scope ps rs n (told-read scope (reached scope ps rs) n h)
