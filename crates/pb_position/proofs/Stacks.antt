-- Stacks whose innermost stands last.
use Rattle.std.proofs.Common.{◌≡◌, ◌<◌, ◌≤◌, ℕ, ◌+◌, ◌-◌, List, [], ◌∷◌, ◌++◌, length, min, take, drop, map, reverse, get_or, Option, String, Global, sym, ap, ap₂, ◌∙◌, length-drop, arith}
use Rattle.std.specs.declared.sync.Arc.{Arc}
use Rattle.std.proofs.lemmas.List.{reverse-append, take-append-drop, length-reverse, map-append, take-map, take_more, take_all, take_min}
use Rattle.std.proofs.Math.Seq.{drop-append_seam}
use Rattle.pb_language.specs.Machine.{outermost, innermost}
use Rattle.pb_position.specs.Texts.{text_of, texts_of}

module _ {A : Type 0} where
  drop_of_reverse : (n : ℕ) (xs : List A) → drop (length (reverse xs) - n) (reverse xs) ≡ reverse (take n xs)
  drop_of_reverse n xs =
      let parts : reverse xs ≡ reverse (drop n xs) ++ reverse (take n xs) = ap reverse (sym (take-append-drop n xs)) ∙ reverse-append (take n xs) (drop n xs) in
      let count : length (reverse xs) - n ≡ length (reverse (drop n xs)) = omega (arith, length-reverse xs, length-reverse (drop n xs), length-drop n xs) in
      ap₂ drop count parts ∙ drop-append_seam (reverse (drop n xs)) (reverse (take n xs))

  pub reverse_with_one_more : (xs : List A) (x : A) → reverse (xs ++ x ∷ []) ≡ x ∷ reverse xs
  reverse_with_one_more xs x = reverse-append xs (x ∷ [])

pub outermost_is_taken : (n : ℕ) (xs : List (Option (Arc (String Global) Global))) → outermost n (texts_of xs) ≡ texts_of (take n xs)
outermost_is_taken n xs = drop_of_reverse n (map text_of xs) ∙ ap reverse (take-map text_of n xs)

pub text_is_put_on_top : (xs : List (Option (Arc (String Global) Global))) (x : Option (Arc (String Global) Global)) → texts_of (xs ++ x ∷ []) ≡ text_of x ∷ texts_of xs
text_is_put_on_top xs x = ap reverse (map-append text_of xs (x ∷ [])) ∙ reverse_with_one_more (map text_of xs) (text_of x)

pub is_kept_on_top : (n : ℕ) (xs ys zs : List (Option (Arc (String Global) Global))) (x : Option (Arc (String Global) Global)) (t : List ℕ) → ys ≡ take n xs → zs ≡ ys ++ x ∷ [] → text_of x ≡ t → texts_of zs ≡ t ∷ outermost n (texts_of xs)
is_kept_on_top n xs ys zs x t e f g =
    ap texts_of (f ∙ ap (λ us. us ++ x ∷ []) e) ∙ text_is_put_on_top (take n xs) x ∙ ap₂ (λ u us. u ∷ us) g (sym (outermost_is_taken n xs))

-- of as many texts as there are among the first n, the last one
pub innermost_is_last : (n w : ℕ) (xs : List (Option (Arc (String Global) Global))) (x : Option (Arc (String Global) Global)) → take n xs ≡ take w xs → 0 < w → w ≤ length xs → get_or xs (w - 1) x ≡ x → innermost (outermost n (texts_of xs)) ≡ text_of x
innermost_is_last n w xs x same some within e =
    let more : w ≡ (w - 1) + 1 = omega arith in
    ap innermost (outermost_is_taken n xs ∙ ap texts_of (same ∙ ap (λ m. take m xs) more ∙ take_more xs (w - 1) x (omega arith)) ∙ text_is_put_on_top (take (w - 1) xs) (get_or xs (w - 1) x)) ∙ ap text_of e

pub all_are_taken : (n w : ℕ) (xs : List (Option (Arc (String Global) Global))) → length xs ≤ n → w ≡ length xs → take n xs ≡ take w xs
all_are_taken n w xs past e = take_all n xs past ∙ sym (take_all w xs (omega (arith, e)))

-- two numbers that are the same as far as there are texts
pub as_many_are_outermost : (n m : ℕ) (xs : List (Option (Arc (String Global) Global))) → min n (length xs) ≡ min m (length xs) → outermost n (texts_of xs) ≡ outermost m (texts_of xs)
as_many_are_outermost n m xs e = outermost_is_taken n xs ∙ ap texts_of (sym (take_min n xs) ∙ ap (λ k. take k xs) e ∙ take_min m xs) ∙ sym (outermost_is_taken m xs)
