-- The expressions between the braces of a text, one after the other.
use Rattle.std.proofs.Common.{length-drop, ◌≡◌, ℕ, zero, suc, ◌+◌, ◌-◌, ◌<◌, ◌≤◌, List, [], ◌∷◌, length, get_or, drop, slice_range, Bool, true, false, ◌&&◌, leb, cond, Option, Some, None, refl, ap, ◌∙◌, arith}
use Rattle.std.proofs.lemmas.Bool.{eq-eqb, ne_eqb}
use Rattle.std.proofs.lemmas.List.{length-take-le}
use Rattle.pb_language.specs.Grammar.{Cut, cut, ending_in, opening_in}
use Rattle.pb_language.specs.Texts.{has_short_templates, is_text_within, short_behind, short_braces}
use Rattle.pb_syntax.proofs.Braces.{two-at}

-- from an opening on, with so many steps left
abbrev pub short_from : ℕ → List ℕ → ℕ → Bool
short_from steps bs at = short_behind (has_short_templates steps) (cut [] (drop at bs))

behind-same : (f : List ℕ → Bool) (bs cs rest : List ℕ) → short_behind f (cut bs rest) ≡ short_behind f (cut cs rest)
behind-same f bs cs [] = refl
behind-same f bs cs (b ∷ []) = refl
behind-same f bs cs (b ∷ c ∷ rest) = refl

-- what is left of the text is short where the text is, and there are steps enough for it
pub record Left (bs : List ℕ) (at : ℕ) : Type 0 where
  pub steps : ℕ
  pub enough : length bs ≤ steps + at
  pub same : is_text_within bs ≡ short_from steps bs at

pub begins : (bs pre : List ℕ) (at : ℕ) → opening_in bs ≡ cut pre (drop at bs) → Left bs at
begins bs pre at found = record {
  steps = length bs;
  enough = omega arith;
  same = ap (short_behind (has_short_templates (length bs))) found ∙ behind-same (has_short_templates (length bs)) pre [] (drop at bs);
}

-- at an opening of an expression
opened : (f : List ℕ → Bool) (bs : List ℕ) (at : ℕ) (c : Option Cut) → at + 1 < length bs → get_or bs (at + 1) 0 ≡ 123 → ending_in None (drop (at + 2) bs) ≡ c → short_behind f (cut [] (drop at bs)) ≡ short_braces f c
opened f bs at c lt mark e =
    ap (λ xs. short_behind f (cut [] xs)) (two-at bs at lt) ∙ ap (λ q. cond q (short_braces f (ending_in None (drop (at + 2) bs))) true) (eq-eqb (get_or bs (at + 1) 0) 123 mark) ∙ ap (short_braces f) e

one-less : (steps at n : ℕ) → at + 1 < n → n ≤ steps + at → (m : ℕ) × (steps ≡ suc m)
one-less zero at n lt h = absurd (omega (arith, lt, h))
one-less (suc m) at n lt h = (m, refl)

slice-length : (bs : List ℕ) (from to : ℕ) → from ≤ to → to ≤ length bs → length (slice_range bs from to) ≡ to - from
slice-length bs from to h le = let n = length-drop from bs in length-take-le (to - from) (drop from bs) (omega (arith, n, h, le))

pub goes : (bs pre : List ℕ) (at to next : ℕ) → Left bs at → at + 1 < length bs → get_or bs (at + 1) 0 ≡ 123 → at + 2 ≤ to → to + 2 ≤ length bs
    → ending_in None (drop (at + 2) bs) ≡ Some (cut (slice_range bs (at + 2) to) (drop (to + 2) bs)) → to - (at + 2) ≤ 4096 → opening_in (drop (to + 2) bs) ≡ cut pre (drop next bs) → to + 2 ≤ next → Left bs next
goes bs pre at to next l lt mark ordered within ended short found le =
    let m = one-less l.steps at (length bs) lt l.enough in
    let long : leb (length (slice_range bs (at + 2) to)) 4096 ≡ true = ap (λ n. leb n 4096) (slice-length bs (at + 2) to ordered (omega (arith, within))) ∙ short-true (to - (at + 2)) short in
    record {
      steps = m.0;
      enough = let e = m.1 in let enough = l.enough in omega (arith, e, enough, ordered, le);
      same =
          l.same ∙ ap (λ n. short_from n bs at) m.1 ∙ opened (has_short_templates (suc m.0)) bs at _ lt mark ended ∙ ap (λ q. q && has_short_templates (suc m.0) (drop (to + 2) bs)) long
          ∙ ap (short_behind (has_short_templates m.0)) found ∙ behind-same (has_short_templates m.0) pre [] (drop next bs);
    } where
      short-true : (n : ℕ) → n ≤ 4096 → leb n 4096 ≡ true
      short-true n h = search (arith, h)

pub too_long : (bs : List ℕ) (at to : ℕ) → Left bs at → at + 1 < length bs → get_or bs (at + 1) 0 ≡ 123 → at + 2 ≤ to → to + 2 ≤ length bs
    → ending_in None (drop (at + 2) bs) ≡ Some (cut (slice_range bs (at + 2) to) (drop (to + 2) bs)) → 4096 < to - (at + 2) → is_text_within bs ≡ false
too_long bs at to l lt mark ordered within ended long =
    let over : leb (length (slice_range bs (at + 2) to)) 4096 ≡ false = ap (λ n. leb n 4096) (slice-length bs (at + 2) to ordered (omega (arith, within))) ∙ long-false (to - (at + 2)) long in
    l.same ∙ opened (has_short_templates l.steps) bs at _ lt mark ended ∙ ap (λ q. q && has_short_templates l.steps (drop (to + 2) bs)) over where
      long-false : (n : ℕ) → 4096 < n → leb n 4096 ≡ false
      long-false n h = search (arith, h)

pub unclosed : (bs : List ℕ) (at : ℕ) → Left bs at → at + 1 < length bs → get_or bs (at + 1) 0 ≡ 123 → ending_in None (drop (at + 2) bs) ≡ None → is_text_within bs ≡ true
unclosed bs at l lt mark ended = l.same ∙ opened (has_short_templates l.steps) bs at None lt mark ended

few : (f : List ℕ → Bool) (bs : List ℕ) → length bs ≤ 1 → short_behind f (cut [] bs) ≡ true
few f [] h = refl
few f (b ∷ []) h = refl
few f (b ∷ c ∷ bs) h = absurd (omega (arith, h))

pub ends : (bs : List ℕ) (at : ℕ) → Left bs at → length bs ≤ at + 1 → is_text_within bs ≡ true
ends bs at l h = let n = length-drop at bs in l.same ∙ few (has_short_templates l.steps) (drop at bs) (omega (arith, n, h))

pub other_mark : (bs : List ℕ) (at : ℕ) → Left bs at → at + 1 < length bs → (get_or bs (at + 1) 0 ≡ 123 → ⊥) → is_text_within bs ≡ true
other_mark bs at l lt other =
    l.same ∙ ap (λ xs. short_behind (has_short_templates l.steps) (cut [] xs)) (two-at bs at lt)
    ∙ ap (λ q. cond q (short_braces (has_short_templates l.steps) (ending_in None (drop (at + 2) bs))) true) (ne_eqb (get_or bs (at + 1) 0) 123 other)
