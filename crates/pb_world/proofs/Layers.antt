-- The value of a name in layers of variables: that of the last one that has it.
use Rattle.std.proofs.Common.{◌≡◌, ◌∙◌, ℕ, ◌+◌, ◌<◌, List, [], ◌∷◌, length, get_or, take, map, Bool, true, false, bytes_eq, cond, Some, None, String, Global, Less, string_bytes, string_cmp, refl, ap}
use Rattle.std.specs.List.{AllByRecursion}
use Rattle.std.specs.List.Sorted.{IsStrictlySortedBy}
use Rattle.std.specs.Map.{keys_of}
use Rattle.std.proofs.lemmas.List.{take_more, map-append}
use Rattle.std.proofs.lemmas.List.Sums.{fold-append}
use Rattle.pb_semantics.specs.Data.{Fields, no_fields, field, field_value, put_field}
use Rattle.pb_semantics.proofs.Names.{same_name}
use Rattle.pb_language.specs.Expression.{Name}
use Rattle.pb_language.proofs.GivenFields.{at_put_field}
use Rattle.pb_facts.specs.Variables.{or_else}
use Rattle.pb_inventory.specs.Views.{laid, layered}
use Rattle.pb_value.specs.View.{fields_view, view}
use Rattle.pb_value.specs.declared.value.Value.{Value}
use Rattle.pb_vars.proofs.Ordered.{less-differs}
use Rattle.pb_world.specs.Layers.{AreOnce}

-- the names of a map stand once
passed : {A : Type 0} (q : Bool) (a b : A) → q ≡ false → cond q a b ≡ b
passed true a b h = cc
passed false a b h = refl

unfound : (n : String Global) (es : List (String Global × Value)) → AllByRecursion (λ y. string_cmp n y ≡ Less) (keys_of es) → field_value (string_bytes n) (fields_view es) ≡ None
unfound n [] h = refl
unfound n (e ∷ es) h = passed (bytes_eq (string_bytes n) (string_bytes e.0)) (Some (view e.1)) (field_value (string_bytes n) (fields_view es)) (less-differs (string_bytes n) (string_bytes e.0) h.0) ∙ unfound n es h.1

pub sorted-once : (es : List (String Global × Value)) → IsStrictlySortedBy string_cmp (keys_of es) → AreOnce (fields_view es)
unfolding IsStrictlySortedBy
sorted-once [] h = tt
sorted-once (e ∷ es) h = (unfound e.0 es h.0, sorted-once es h.1)

-- one layer over others
pub at-laid : (n : Name) (vs fs : Fields) → AreOnce fs → field_value n (laid vs fs) ≡ or_else (field_value n fs) (field_value n vs)
at-laid n vs no_fields h = refl
at-laid n vs (field m d fs) h =
    at-laid n (put_field m d vs) fs h.1 ∙ ap (or_else (field_value n fs)) (at_put_field n m d vs) ∙ turned (bytes_eq n m) refl where
      turned : (b : Bool) → bytes_eq n m ≡ b → or_else (field_value n fs) (cond b (Some d) (field_value n vs)) ≡ or_else (cond b (Some d) (field_value n fs)) (field_value n vs)
      turned true q = ap (λ o. or_else o (Some d)) (ap (λ k. field_value k fs) (same_name n m q) ∙ h.0)
      turned false q = refl

-- the last of so many layers
pub at-layers : {A : Type 0} (f : A → Fields) (n : Name) (ls : List A) (i : ℕ) (d : A) → i < length ls → AreOnce (f (get_or ls i d))
    → field_value n (layered (map f (take (i + 1) ls))) ≡ or_else (field_value n (f (get_or ls i d))) (field_value n (layered (map f (take i ls))))
at-layers f n ls i d lt once =
    let x = get_or ls i d in
    ap (λ xs. field_value n (layered (map f xs))) (take_more ls i d lt) ∙ ap (λ fs. field_value n (layered fs)) (map-append f (take i ls) (x ∷ []))
    ∙ ap (field_value n) (fold-append laid no_fields (map f (take i ls)) (f x ∷ [])) ∙ at-laid n (layered (map f (take i ls))) (f x) once
