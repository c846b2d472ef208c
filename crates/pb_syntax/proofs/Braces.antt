-- Where the braces of a template stand, byte by byte.
use Rattle.std.proofs.Common.{◌≡◌, ℕ, suc, ◌+◌, ◌-◌, ◌<◌, ◌≤◌, List, [], ◌∷◌, ◌++◌, length, get_or, take, drop, slice_range, Bool, true, false, ◌==◌, ◌&&◌, cond, Option, Some, None, refl, sym, ap, ◌∙◌, subst, add-one, arith, length-drop}
use Rattle.std.proofs.Math.Seq.{drop-cons, take-suc, take-append-add}
use Rattle.std.proofs.lemmas.Bool.{eq-eqb, ne_eqb, eqb-true, eqb-false}
use Rattle.std.proofs.lemmas.List.{get_or-drop, length-take-le}
use Rattle.std.proofs.lemmas.List.Folds.{drop_split}
use Rattle.std.specs.Option.{option_map}
use Rattle.pb_language.specs.Grammar.{Cut, cut, byte_before, ending_in, opening_in, is_mark, has_mark}
use Rattle.pb_language.specs.Tokens.{is_quote}
use Rattle.pb_syntax.specs.Forms.{bytes_before, with_byte, with_bytes}

pub byte-at : (bs : List ℕ) (i : ℕ) → i < length bs → drop i bs ≡ get_or bs i 0 ∷ drop (i + 1) bs
byte-at bs i h = rw add-one (drop-cons bs i 0 h)

pub two-at : (bs : List ℕ) (i : ℕ) → i + 1 < length bs → drop i bs ≡ get_or bs i 0 ∷ get_or bs (i + 1) 0 ∷ drop (i + 2) bs
two-at bs i h =
    byte-at bs i (omega (arith, h)) ∙ ap (λ cs. get_or bs i 0 ∷ cs) (byte-at bs (i + 1) h)
    ∙ ap (λ n. get_or bs i 0 ∷ get_or bs (i + 1) 0 ∷ drop n bs) (omega arith)

slice-more : (bs : List ℕ) (from at : ℕ) → from ≤ at → at < length bs → slice_range bs from (at + 1) ≡ slice_range bs from at ++ get_or bs at 0 ∷ []
slice-more bs from at h lt =
    let n = length-drop from bs in
    let e : at + 1 - from ≡ suc (at - from) = omega (arith, h) in
    let f : from + (at - from) ≡ at = omega (arith, h) in
    ap (λ n. take n (drop from bs)) e ∙ take-suc (drop from bs) (at - from) 0 (omega (arith, n, h, lt))
    ∙ ap (λ b. slice_range bs from at ++ b ∷ []) (get_or-drop from bs (at - from) 0 ∙ ap (λ i. get_or bs i 0) f)

slice-join : (bs : List ℕ) (from mid to : ℕ) → from ≤ mid → mid ≤ to → to ≤ length bs → slice_range bs from to ≡ slice_range bs from mid ++ slice_range bs mid to
slice-join bs from mid to h g lt =
    let n = length-drop from bs in
    let l : length (slice_range bs from mid) ≡ mid - from = length-take-le (mid - from) (drop from bs) (omega (arith, n, h, g, lt)) in
    let e : to - from ≡ length (slice_range bs from mid) + (to - mid) = omega (arith, l, h, g) in
    ap (λ n. take n (drop from bs)) e ∙ ap (λ cs. take (length (slice_range bs from mid) + (to - mid)) cs) (drop_split bs from mid h)
    ∙ take-append-add (slice_range bs from mid) (drop mid bs) (to - mid)

with_bytes-last : (xs : List ℕ) (b : ℕ) (c : Option Cut) → with_bytes (xs ++ b ∷ []) c ≡ with_bytes xs (with_byte b c)
with_bytes-last [] b c = refl
with_bytes-last (x ∷ xs) b c = ap (with_byte x) (with_bytes-last xs b c)

with_bytes-append : (xs ys : List ℕ) (c : Option Cut) → with_bytes (xs ++ ys) c ≡ with_bytes xs (with_bytes ys c)
with_bytes-append [] ys c = refl
with_bytes-append (x ∷ xs) ys c = ap (with_byte x) (with_bytes-append xs ys c)

with_bytes-none : (xs : List ℕ) → with_bytes xs None ≡ None
with_bytes-none [] = refl
with_bytes-none (x ∷ xs) = ap (with_byte x) (with_bytes-none xs)

with_bytes-end : (xs ys : List ℕ) → with_bytes xs (Some (cut [] ys)) ≡ Some (cut xs ys)
with_bytes-end [] ys = refl
with_bytes-end (x ∷ xs) ys = ap (with_byte x) (with_bytes-end xs ys)

-- the bytes up to that place are read, and what is cut behind it is this
abbrev pub Upto : Option Cut → List ℕ → ℕ → ℕ → Option Cut → Type 0
Upto x bs from at c = x ≡ with_bytes (slice_range bs from at) c

one-further : (x : Option Cut) (bs : List ℕ) (from at : ℕ) (c : Option Cut) → from ≤ at → at < length bs → Upto x bs from at (with_byte (get_or bs at 0) c) → Upto x bs from (at + 1) c
one-further x bs from at c h lt u =
    u ∙ sym (with_bytes-last (slice_range bs from at) (get_or bs at 0) c) ∙ ap (λ xs. with_bytes xs c) (sym (slice-more bs from at h lt))

-- a place without two bytes behind it
few_left : (q : Option ℕ) (bs : List ℕ) → length bs ≤ 1 → ending_in q bs ≡ None
few_left q [] h = refl
few_left None (b ∷ []) h = refl
few_left (Some q) (b ∷ []) h = refl
few_left q (b ∷ c ∷ bs) h = absurd (omega (arith, h))

pub cut-ends : (x : Option Cut) (bs : List ℕ) (from at : ℕ) (q : Option ℕ) → length bs ≤ at + 1 → Upto x bs from at (ending_in q (drop at bs)) → x ≡ None
cut-ends x bs from at q h u =
    let n = length-drop at bs in
    u ∙ ap (with_bytes (slice_range bs from at)) (few_left q (drop at bs) (omega (arith, n, h))) ∙ with_bytes-none (slice_range bs from at)

twice : (b c : ℕ) (o : Option Cut) → option_map (λ r. byte_before b (byte_before c r)) o ≡ with_byte b (with_byte c o)
twice b c None = refl
twice b c (Some r) = refl

-- inside a quoted text
quoted-at : (bs : List ℕ) (at q : ℕ) → at + 1 < length bs
    → ending_in (Some q) (drop at bs) ≡ cond (get_or bs at 0 == 92) (with_byte (get_or bs at 0) (with_byte (get_or bs (at + 1) 0) (ending_in (Some q) (drop (at + 2) bs))))
    (with_byte (get_or bs at 0) (ending_in (cond (get_or bs at 0 == q) None (Some q)) (drop (at + 1) bs)))
quoted-at bs at q lt =
    let b = get_or bs at 0 in let c = get_or bs (at + 1) 0 in
    let next : drop (at + 1) bs ≡ c ∷ drop (at + 2) bs = byte-at bs (at + 1) lt ∙ ap (λ n. c ∷ drop n bs) (omega arith) in
    ap (ending_in (Some q)) (two-at bs at lt)
    ∙ ap (λ o. cond (b == 92) o (with_byte b (ending_in (cond (b == q) None (Some q)) (c ∷ drop (at + 2) bs)))) (twice b c (ending_in (Some q) (drop (at + 2) bs)))
    ∙ ap (λ cs. cond (b == 92) (with_byte b (with_byte c (ending_in (Some q) (drop (at + 2) bs)))) (with_byte b (ending_in (cond (b == q) None (Some q)) cs))) (sym next)

pub quoted-escape : (x : Option Cut) (bs : List ℕ) (from at q : ℕ) → from ≤ at → at + 1 < length bs → get_or bs at 0 ≡ 92 → Upto x bs from at (ending_in (Some q) (drop at bs)) → Upto x bs from (at + 2) (ending_in (Some q) (drop (at + 2) bs))
quoted-escape x bs from at q h lt is u =
    let here = quoted-at bs at q lt ∙ ap (λ t. cond t (with_byte (get_or bs at 0) (with_byte (get_or bs (at + 1) 0) (ending_in (Some q) (drop (at + 2) bs)))) (with_byte (get_or bs at 0) (ending_in (cond (get_or bs at 0 == q) None (Some q)) (drop (at + 1) bs)))) (eq-eqb (get_or bs at 0) 92 is) in
    let once = one-further x bs from at (with_byte (get_or bs (at + 1) 0) (ending_in (Some q) (drop (at + 2) bs))) h (omega (arith, lt)) (u ∙ ap (with_bytes (slice_range bs from at)) here) in
    let twice = one-further x bs from (at + 1) (ending_in (Some q) (drop (at + 2) bs)) (omega (arith, h)) lt once in
    subst (λ n. Upto x bs from n (ending_in (Some q) (drop (at + 2) bs))) (omega arith) twice

quoted-plain : (x : Option Cut) (bs : List ℕ) (from at q : ℕ) → from ≤ at → at + 1 < length bs → (get_or bs at 0 ≡ 92 → ⊥) → Upto x bs from at (ending_in (Some q) (drop at bs))
    → Upto x bs from (at + 1) (ending_in (cond (get_or bs at 0 == q) None (Some q)) (drop (at + 1) bs))
quoted-plain x bs from at q h lt is u =
    let here = quoted-at bs at q lt ∙ ap (λ t. cond t (with_byte (get_or bs at 0) (with_byte (get_or bs (at + 1) 0) (ending_in (Some q) (drop (at + 2) bs)))) (with_byte (get_or bs at 0) (ending_in (cond (get_or bs at 0 == q) None (Some q)) (drop (at + 1) bs)))) (ne_eqb (get_or bs at 0) 92 is) in
    one-further x bs from at (ending_in (cond (get_or bs at 0 == q) None (Some q)) (drop (at + 1) bs)) h (omega (arith, lt)) (u ∙ ap (with_bytes (slice_range bs from at)) here)

pub quoted-closes : (x : Option Cut) (bs : List ℕ) (from at q : ℕ) → from ≤ at → at + 1 < length bs → (get_or bs at 0 ≡ 92 → ⊥) → get_or bs at 0 ≡ q → Upto x bs from at (ending_in (Some q) (drop at bs))
    → Upto x bs from (at + 1) (ending_in None (drop (at + 1) bs))
quoted-closes x bs from at q h lt is same u =
    quoted-plain x bs from at q h lt is u ∙ ap (λ t. with_bytes (slice_range bs from (at + 1)) (ending_in (cond t None (Some q)) (drop (at + 1) bs))) (eq-eqb (get_or bs at 0) q same)

pub quoted-goes : (x : Option Cut) (bs : List ℕ) (from at q : ℕ) → from ≤ at → at + 1 < length bs → (get_or bs at 0 ≡ 92 → ⊥) → (get_or bs at 0 ≡ q → ⊥) → Upto x bs from at (ending_in (Some q) (drop at bs))
    → Upto x bs from (at + 1) (ending_in (Some q) (drop (at + 1) bs))
quoted-goes x bs from at q h lt is other u =
    quoted-plain x bs from at q h lt is u ∙ ap (λ t. with_bytes (slice_range bs from (at + 1)) (ending_in (cond t None (Some q)) (drop (at + 1) bs))) (ne_eqb (get_or bs at 0) q other)

-- outside of quoted texts
open-at : (bs : List ℕ) (at : ℕ) → at + 1 < length bs
    → ending_in None (drop at bs) ≡ cond ((get_or bs at 0 == 125) && (get_or bs (at + 1) 0 == 125)) (Some (cut [] (drop (at + 2) bs)))
    (with_byte (get_or bs at 0) (ending_in (cond (is_quote (get_or bs at 0)) (Some (get_or bs at 0)) None) (drop (at + 1) bs)))
open-at bs at lt =
    let b = get_or bs at 0 in let c = get_or bs (at + 1) 0 in
    let next : drop (at + 1) bs ≡ c ∷ drop (at + 2) bs = byte-at bs (at + 1) lt ∙ ap (λ n. c ∷ drop n bs) (omega arith) in
    ap (ending_in None) (two-at bs at lt)
    ∙ ap (λ cs. cond ((b == 125) && (c == 125)) (Some (cut [] (drop (at + 2) bs))) (with_byte b (ending_in (cond (is_quote b) (Some b) None) cs))) (sym next)

both : (a b : Bool) → a ≡ true → b ≡ true → a && b ≡ true
both a b h g = ap (λ t. t && b) h ∙ g

pub not-first : (a c : ℕ) (b : Bool) → (a ≡ c → ⊥) → (a == c) && b ≡ false
not-first a c b h = ap (λ t. t && b) (ne_eqb a c h)

not_right : (a : Bool) → a && false ≡ false
not_right true = refl
not_right false = refl

pub not-second : (a b : Bool) → b ≡ false → a && b ≡ false
not-second a b h = ap (λ t. a && t) h ∙ not_right a

pub not-second-byte : (a : Bool) (b c : ℕ) → (b ≡ c → ⊥) → a && (b == c) ≡ false
not-second-byte a b c h = not-second a (b == c) (ne_eqb b c h)

pub cut-found : (x : Option Cut) (bs : List ℕ) (from at : ℕ) → at + 1 < length bs → get_or bs at 0 ≡ 125 → get_or bs (at + 1) 0 ≡ 125 → Upto x bs from at (ending_in None (drop at bs))
    → x ≡ Some (cut (slice_range bs from at) (drop (at + 2) bs))
cut-found x bs from at lt first second u =
    let b = get_or bs at 0 in let c = get_or bs (at + 1) 0 in
    let here = open-at bs at lt ∙ ap (λ t. cond t (Some (cut [] (drop (at + 2) bs))) (with_byte b (ending_in (cond (is_quote b) (Some b) None) (drop (at + 1) bs)))) (both (b == 125) (c == 125) (eq-eqb b 125 first) (eq-eqb c 125 second)) in
    u ∙ ap (with_bytes (slice_range bs from at)) here ∙ with_bytes-end (slice_range bs from at) (drop (at + 2) bs)

open-further : (x : Option Cut) (bs : List ℕ) (from at : ℕ) (q : Option ℕ) → from ≤ at → at + 1 < length bs → (get_or bs at 0 == 125) && (get_or bs (at + 1) 0 == 125) ≡ false
    → cond (is_quote (get_or bs at 0)) (Some (get_or bs at 0)) None ≡ q → Upto x bs from at (ending_in None (drop at bs)) → Upto x bs from (at + 1) (ending_in q (drop (at + 1) bs))
open-further x bs from at q h lt other is u =
    let b = get_or bs at 0 in
    let here =
    open-at bs at lt ∙ ap (λ t. cond t (Some (cut [] (drop (at + 2) bs))) (with_byte b (ending_in (cond (is_quote b) (Some b) None) (drop (at + 1) bs)))) other
    ∙ ap (λ q. with_byte b (ending_in q (drop (at + 1) bs))) is in
    one-further x bs from at (ending_in q (drop (at + 1) bs)) h (omega (arith, lt)) (u ∙ ap (with_bytes (slice_range bs from at)) here)

pub cut-goes : (x : Option Cut) (bs : List ℕ) (from at : ℕ) → from ≤ at → at + 1 < length bs → (get_or bs at 0 == 125) && (get_or bs (at + 1) 0 == 125) ≡ false → is_quote (get_or bs at 0) ≡ false
    → Upto x bs from at (ending_in None (drop at bs)) → Upto x bs from (at + 1) (ending_in None (drop (at + 1) bs))
cut-goes x bs from at h lt other is u = open-further x bs from at None h lt other (ap (λ t. cond t (Some (get_or bs at 0)) None) is) u

cut-quoted : (x : Option Cut) (bs : List ℕ) (from at : ℕ) → from ≤ at → at + 1 < length bs → (get_or bs at 0 == 125) && (get_or bs (at + 1) 0 == 125) ≡ false → is_quote (get_or bs at 0) ≡ true
    → Upto x bs from at (ending_in None (drop at bs)) → Upto x bs from (at + 1) (ending_in (Some (get_or bs at 0)) (drop (at + 1) bs))
cut-quoted x bs from at h lt other is u = open-further x bs from at (Some (get_or bs at 0)) h lt other (ap (λ t. cond t (Some (get_or bs at 0)) None) is) u

pub cut-past : (x : Option Cut) (bs : List ℕ) (from at to : ℕ) → from ≤ at → at + 1 < length bs → (get_or bs at 0 == 125) && (get_or bs (at + 1) 0 == 125) ≡ false → is_quote (get_or bs at 0) ≡ true
    → Upto x bs from at (ending_in None (drop at bs)) → at + 1 ≤ to → to ≤ length bs → Upto (ending_in (Some (get_or bs at 0)) (drop (at + 1) bs)) bs (at + 1) to (ending_in None (drop to bs))
    → Upto x bs from to (ending_in None (drop to bs))
cut-past x bs from at to h lt other is u le within found =
    cut-quoted x bs from at h lt other is u ∙ ap (with_bytes (slice_range bs from (at + 1))) found
    ∙ sym (with_bytes-append (slice_range bs from (at + 1)) (slice_range bs (at + 1) to) (ending_in None (drop to bs)))
    ∙ ap (λ xs. with_bytes xs (ending_in None (drop to bs))) (sym (slice-join bs from (at + 1) to (omega (arith, h)) le within))

pub cut-unclosed : (x : Option Cut) (bs : List ℕ) (from at : ℕ) → from ≤ at → at + 1 < length bs → (get_or bs at 0 == 125) && (get_or bs (at + 1) 0 == 125) ≡ false → is_quote (get_or bs at 0) ≡ true
    → Upto x bs from at (ending_in None (drop at bs)) → ending_in (Some (get_or bs at 0)) (drop (at + 1) bs) ≡ None → x ≡ None
cut-unclosed x bs from at h lt other is u none =
    cut-quoted x bs from at h lt other is u ∙ ap (with_bytes (slice_range bs from (at + 1))) none ∙ with_bytes-none (slice_range bs from (at + 1))

-- the first opening, with the bytes up to that place read
bytes_before-last : (xs : List ℕ) (b : ℕ) (c : Cut) → bytes_before (xs ++ b ∷ []) c ≡ bytes_before xs (byte_before b c)
bytes_before-last [] b c = refl
bytes_before-last (x ∷ xs) b c = ap (byte_before x) (bytes_before-last xs b c)

bytes_before-end : (xs ys : List ℕ) → bytes_before xs (cut [] ys) ≡ cut xs ys
bytes_before-end [] ys = refl
bytes_before-end (x ∷ xs) ys = ap (byte_before x) (bytes_before-end xs ys)

abbrev pub Opening : Cut → List ℕ → ℕ → ℕ → Type 0
Opening x bs from at = x ≡ bytes_before (slice_range bs from at) (opening_in (drop at bs))

opening-step : (x : Cut) (bs : List ℕ) (from at : ℕ) → from ≤ at → at < length bs → (get_or bs at 0 == 123) && has_mark (drop (at + 1) bs) ≡ false → Opening x bs from at → Opening x bs from (at + 1)
opening-step x bs from at h lt other u =
    let b = get_or bs at 0 in
    u ∙ ap (λ cs. bytes_before (slice_range bs from at) (opening_in cs)) (byte-at bs at lt)
    ∙ ap (λ t. bytes_before (slice_range bs from at) (cond t (cut [] (b ∷ drop (at + 1) bs)) (byte_before b (opening_in (drop (at + 1) bs))))) other
    ∙ sym (bytes_before-last (slice_range bs from at) b (opening_in (drop (at + 1) bs))) ∙ ap (λ xs. bytes_before xs (opening_in (drop (at + 1) bs))) (sym (slice-more bs from at h lt))

mark-at : (bs : List ℕ) (at : ℕ) → at + 1 < length bs → has_mark (drop (at + 1) bs) ≡ is_mark (get_or bs (at + 1) 0)
mark-at bs at lt = ap has_mark (byte-at bs (at + 1) lt)

pub opening-goes : (x : Cut) (bs : List ℕ) (from at : ℕ) → from ≤ at → at + 1 < length bs → (get_or bs at 0 == 123) && is_mark (get_or bs (at + 1) 0) ≡ false → Opening x bs from at → Opening x bs from (at + 1)
opening-goes x bs from at h lt other u =
    opening-step x bs from at h (omega (arith, lt)) (ap (λ t. (get_or bs at 0 == 123) && t) (mark-at bs at lt) ∙ other) u

pub opening-found : (x : Cut) (bs : List ℕ) (from at : ℕ) → at + 1 < length bs → get_or bs at 0 ≡ 123 → is_mark (get_or bs (at + 1) 0) ≡ true → Opening x bs from at → x ≡ cut (slice_range bs from at) (drop at bs)
opening-found x bs from at lt first mark u =
    let b = get_or bs at 0 in
    let here = byte-at bs at (omega (arith, lt)) in
    u ∙ ap (λ cs. bytes_before (slice_range bs from at) (opening_in cs)) here
    ∙ ap (λ t. bytes_before (slice_range bs from at) (cond t (cut [] (b ∷ drop (at + 1) bs)) (byte_before b (opening_in (drop (at + 1) bs)))))
    (both (b == 123) (has_mark (drop (at + 1) bs)) (eq-eqb b 123 first) (mark-at bs at lt ∙ mark))
    ∙ bytes_before-end (slice_range bs from at) (b ∷ drop (at + 1) bs) ∙ ap (cut (slice_range bs from at)) (sym here)

nothing_left : (bs : List ℕ) → length bs ≡ 0 → opening_in bs ≡ cut [] bs
nothing_left [] h = refl
nothing_left (b ∷ bs) h = absurd (omega (arith, h))

unmarked : (bs : List ℕ) → length bs ≡ 0 → has_mark bs ≡ false
unmarked [] h = refl
unmarked (b ∷ bs) h = absurd (omega (arith, h))

at-end : (x : Cut) (bs : List ℕ) (from at : ℕ) → at ≡ length bs → Opening x bs from at → x ≡ cut (slice_range bs from (length bs)) (drop (length bs) bs)
at-end x bs from at e u =
    let n = length-drop at bs in
    u ∙ ap (bytes_before (slice_range bs from at)) (nothing_left (drop at bs) (omega (arith, n, e))) ∙ bytes_before-end (slice_range bs from at) (drop at bs)
    ∙ ap (λ n. cut (slice_range bs from n) (drop n bs)) e

pub opening-ends : (x : Cut) (bs : List ℕ) (from at : ℕ) → from ≤ at → at ≤ length bs → length bs ≤ at + 1 → Opening x bs from at → x ≡ cut (slice_range bs from (length bs)) (drop (length bs) bs)
opening-ends x bs from at h le few u = ends (at == length bs) refl
  where
    ends : (t : Bool) → (at == length bs) ≡ t → x ≡ cut (slice_range bs from (length bs)) (drop (length bs) bs)
    ends true e = at-end x bs from at (eqb-true at (length bs) e) u
    ends false e =
        let n = length-drop (at + 1) bs in
        let other : at ≡ length bs → ⊥ = eqb-false at (length bs) e in
        at-end x bs from (at + 1) (omega (arith, le, few, other))
        (opening-step x bs from at h (omega (arith, le, few, other)) (not-second (get_or bs at 0 == 123) (has_mark (drop (at + 1) bs)) (unmarked (drop (at + 1) bs) (omega (arith, n, few)))) u)
