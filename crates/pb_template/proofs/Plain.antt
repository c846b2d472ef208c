-- Values without templates, and what is found of openings.
use Rattle.std.proofs.Common.{◌≡◌, drop, ltb, ℕ, List, [], ◌∷◌, length, Bool, true, false, ◌||◌, cond, Some, option_map, refl, ap, ◌∙◌}
use Rattle.std.proofs.lemmas.Bool.{ltb-false, ltb-true}
use Rattle.std.proofs.lemmas.List.{at_drop_all}
use Rattle.pb_semantics.specs.Data.{Data, null, boolean, int, text, list, rec, opaque}
use Rattle.pb_semantics.proofs.Bools.{neither-left, neither-right}
use Rattle.pb_language.specs.Expression.{literal, list_of, record_of}
use Rattle.pb_language.specs.Grammar.{Cut, cut, byte_before, cut_parts, opening_in, opens_here, parts_of as template_parts, template_of, template_tree}
use Rattle.pb_language.specs.Inventories.{has_opening}
use Rattle.pb_language.specs.Nesting.{holds}
use Rattle.pb_language.specs.Texts.{opens, parts_of, value_of, values_of}
use Rattle.pb_syntax.proofs.Braces.{byte-at}

none-opens : (bs : List ℕ) → has_opening bs ≡ false → opening_in bs ≡ cut bs []
none-opens [] h = refl
none-opens (b ∷ bs) h =
    let here = neither-left (opens_here b bs) (has_opening bs) h in
    let later = none-opens bs (neither-right (opens_here b bs) (has_opening bs) h) in rw (here, later) refl

plain-text : (bs : List ℕ) → has_opening bs ≡ false → template_of bs ≡ Some (literal (text bs))
plain-text [] h = refl
plain-text (b ∷ bs) h = ap (λ c. option_map template_tree (cut_parts (template_parts (length (b ∷ bs))) c)) (none-opens (b ∷ bs) h)

-- a value in which nothing opens is itself
pub value-plain : (d : Data) → holds opens d ≡ false → value_of d ≡ Some (literal d)
value-plain null h = refl
value-plain (boolean b) h = refl
value-plain (int z) h = refl
value-plain (text bs) h = plain-text bs h
value-plain (list ds) h = ap (λ q. cond q (option_map list_of (values_of ds)) (Some (literal (list ds)))) h
value-plain (rec fs) h = ap (λ q. cond q (option_map record_of (parts_of fs)) (Some (literal (rec fs)))) h
value-plain opaque h = refl

-- something stands behind the cut
abbrev pub is_cut : Cut → Bool
is_cut (cut bs []) = false
is_cut (cut bs (c ∷ cs)) = true

cut-before : (b : ℕ) (c : Cut) → is_cut (byte_before b c) ≡ is_cut c
cut-before b (cut bs []) = refl
cut-before b (cut bs (c ∷ cs)) = refl

-- a text has an opening where one is found
pub opens-found : (bs : List ℕ) → is_cut (opening_in bs) ≡ has_opening bs
opens-found [] = refl
opens-found (b ∷ bs) = at (opens_here b bs) (opens-found bs) where
  at : (q : Bool) → is_cut (opening_in bs) ≡ has_opening bs → is_cut (cond q (cut [] (b ∷ bs)) (byte_before b (opening_in bs))) ≡ q || has_opening bs
  at true later = refl
  at false later = cut-before b (opening_in bs) ∙ later

-- something stands behind a place within
pub cut-there : (xs bs : List ℕ) (at : ℕ) → is_cut (cut xs (drop at bs)) ≡ ltb at (length bs)
cut-there xs bs at = there (ltb at (length bs)) refl where
  there : (q : Bool) → ltb at (length bs) ≡ q → is_cut (cut xs (drop at bs)) ≡ q
  there true h = ap (λ ys. is_cut (cut xs ys)) (byte-at bs at (ltb-true at (length bs) h))
  there false h = at_drop_all (λ ys. is_cut (cut xs ys)) bs at (ltb-false at (length bs) h)
