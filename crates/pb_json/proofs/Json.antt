-- The JSON of values, item by item, and that it has no number with a fraction.
use Rattle.std.proofs.Common.{◌≡◌, ℕ, List, [], ◌∷◌, map, Bool, false, ◌||◌, ℤ, pos, negsuc, refl, ap, ap₂, ◌∙◌, nat_cmp}
use Rattle.std.specs.Cmp.Lexicographic.{slice_cmp}
use Rattle.std.specs.Ordering.{match_ordering}
use Rattle.std.specs.declared.cmp.Ordering.{Ordering}
use Rattle.std.specs.declared.cmp.Ordering.TheVariants.{Less, Equal, Greater}
use Rattle.serde_json.specs.Data as json
use Rattle.serde_json.specs.Data.{Members, put}
use Rattle.serde_json.specs.Find.{is_float, of_integer}
use Rattle.serde_json.specs.View.{items_of}
use Rattle.serde_json.specs.Written.{has_float, items_have_float, members_have_float}
use Rattle.pb_semantics.proofs.Bools.{neither-left, neither-right}
use Rattle.pb_semantics.specs.Data as value
use Rattle.pb_semantics.specs.Data.{Data, Fields, Items}
use Rattle.pb_value.specs.View.{items_view, view}
use Rattle.pb_value.specs.declared.value.Value.{Value}
use Rattle.pb_json.specs.Json.{items_json, json_of, members_onto}

pub items-json : (vs : List Value) → items_of (map (λ v. json_of (view v)) vs) ≡ items_json (items_view vs)
items-json [] = refl
items-json (v ∷ vs) = ap (json.item (json_of (view v))) (items-json vs)

-- no number of it has a fraction
float_free : (z : ℤ) → is_float (of_integer z) ≡ false
float_free (pos n) = refl
float_free (negsuc n) = refl

put_free : (n : List ℕ) (d : json.Data) (ms : Members) → has_float d ≡ false → members_have_float ms ≡ false → members_have_float (put n d ms) ≡ false
put_free n d json.no_members e f = ap₂ (λ a b. a || b) e f
put_free n d (json.member m c ms) e f =
    let first : has_float c ≡ false = neither-left (has_float c) (members_have_float ms) f in
    let rest : members_have_float ms ≡ false = neither-right (has_float c) (members_have_float ms) f in
    by (slice_cmp nat_cmp n m) first rest (put_free n d ms e rest) where
      by : (o : Ordering) → has_float c ≡ false → members_have_float ms ≡ false → members_have_float (put n d ms) ≡ false
          → members_have_float (match_ordering o (json.member n d (json.member m c ms)) (json.member m d ms) (json.member m c (put n d ms))) ≡ false
      by Less first rest more = ap₂ (λ a b. a || b) e f
      by Equal first rest more = ap₂ (λ a b. a || b) e rest
      by Greater first rest more = ap₂ (λ a b. a || b) first more

mutual
  pub no_float : (d : Data) → has_float (json_of d) ≡ false
  no_float value.null = refl
  no_float (value.boolean b) = refl
  no_float (value.int z) = float_free z
  no_float (value.text s) = refl
  no_float (value.list ds) = items_free ds
  no_float (value.rec fs) = members_free fs json.no_members refl
  no_float value.opaque = refl

  items_free : (ds : Items) → items_have_float (items_json ds) ≡ false
  items_free value.no_items = refl
  items_free (value.item d ds) = ap₂ (λ a b. a || b) (no_float d) (items_free ds)

  members_free : (fs : Fields) (ms : Members) → members_have_float ms ≡ false → members_have_float (members_onto fs ms) ≡ false
  members_free value.no_fields ms e = e
  members_free (value.field n d fs) ms e = members_free fs (put n (json_of d) ms) (put_free n (json_of d) ms (no_float d) e)
