-- How deep groups lie while their depths are pushed to their children.
use Rattle.std.proofs.Common.{◌≡◌, ℕ, ◌+◌, ◌<◌, Bool, true, false, ◌||◌, cond, eqb, List, [], ◌∷◌, length, get_or, set, take, max, refl, sym, ap, ◌∙◌, arith, inl, inr}
use Rattle.std.proofs.lemmas.Bool.{cases_eq, eq-eqb, ne_eqb}
use Rattle.std.proofs.lemmas.List.{get_or-set_other, take_more}
use Rattle.std.proofs.lemmas.Grind.{get_or-set_at}
use Rattle.pb_inventory.specs.Graph.{is_in}
use Rattle.pb_inventory.proofs.Onces.{is_in-joined}

-- the depth of a group, once these groups are made at least so deep
abbrev pub deepened : List ℕ → ℕ → List ℕ → ℕ → ℕ
deepened d depth gs g = cond (is_in g gs) (max (get_or d g 0) depth) (get_or d g 0)

pushed : (was same : Bool) (old now depth : ℕ) → now ≡ cond was (max old depth) old → cond same (max now depth) now ≡ cond (was || (same || false)) (max old depth) old
pushed true true old now depth h = omega (arith, h)
pushed true false old now depth h = h
pushed false true old now depth h = rw h refl
pushed false false old now depth h = h

at_set : (now : List ℕ) (x v g : ℕ) → x < length now → get_or (set now x v) g 0 ≡ cond (eqb g x) v (get_or now g 0)
at_set now x v g lt = elim (cases_eq g x) [
  | inl e ↦ rw (eq-eqb g x e) (get_or-set_at now x g v 0 e lt)
  | inr e ↦ rw (ne_eqb g x e) (get_or-set_other now x g v 0 e)
]

pub deepened-more : (d now gs : List ℕ) (depth i : ℕ) → i < length gs → get_or gs i 0 < length now
    → ((g : ℕ) → get_or now g 0 ≡ deepened d depth (take i gs) g)
    → (v : ℕ) → v ≡ max (get_or now (get_or gs i 0) 0) depth
    → (g : ℕ) → get_or (set now (get_or gs i 0) v) g 0 ≡ deepened d depth (take (i + 1) gs) g
deepened-more d now gs depth i h lt before v e g =
    let x = get_or gs i 0 in
    let new : get_or (set now x v) g 0 ≡ cond (eqb g x) (max (get_or now g 0) depth) (get_or now g 0) =
    at_set now x v g lt ∙ elim (cases_eq g x) [
      | inl s ↦ rw (eq-eqb g x s) (e ∙ ap (λ y. max (get_or now y 0) depth) (sym s))
      | inr s ↦ rw (ne_eqb g x s) refl
    ] in
    new ∙ pushed (is_in g (take i gs)) (eqb g x) (get_or d g 0) (get_or now g 0) depth (before g)
    ∙ ap (λ b. cond b (max (get_or d g 0) depth) (get_or d g 0)) (sym (ap (is_in g) (take_more gs i 0 h) ∙ is_in-joined g (take i gs) (x ∷ [])))
