-- Openings of templates, found a byte at a time, and values without one.
use Rattle.std.proofs.Common.{◌≡◌, ℕ, List, Bool, false, ◌&&◌, ◌||◌, cond, refl, ap}
use Rattle.pb_semantics.specs.Data.{Data, Items, Fields, null, boolean, int, text, list, rec, opaque, no_items, item, no_fields, field}
use Rattle.pb_semantics.proofs.Bools.{neither-left, neither-right}
use Rattle.pb_language.specs.Grammar.{has_mark}
use Rattle.pb_language.specs.Inventories.{fields_of, has_opening, items_of, variable_of}
use Rattle.pb_language.specs.Nesting.{holds, some_field_holds, some_item_holds}
use Rattle.pb_language.specs.Texts.{opens}

-- a mark comes first, behind a brace, or there is an opening
abbrev pub opens_from : Bool → List ℕ → Bool
opens_from after_brace bs = (after_brace && has_mark bs) || has_opening bs

-- a value in which nothing opens stays as it is
mutual
  pub variable-plain : (d : Data) → holds opens d ≡ false → variable_of d ≡ d
  variable-plain null h = refl
  variable-plain (boolean b) h = refl
  variable-plain (int z) h = refl
  variable-plain (text bs) h = ap (λ q. cond q opaque (text bs)) h
  variable-plain (list ds) h = ap list (items-plain ds h)
  variable-plain (rec fs) h = ap rec (fields-plain fs h)
  variable-plain opaque h = refl

  items-plain : (ds : Items) → some_item_holds opens ds ≡ false → items_of ds ≡ ds
  items-plain no_items h = refl
  items-plain (item d ds) h =
      let first = variable-plain d (neither-left (holds opens d) (some_item_holds opens ds) h) in
      let rest = items-plain ds (neither-right (holds opens d) (some_item_holds opens ds) h) in
      rw (first, rest) refl

  fields-plain : (fs : Fields) → some_field_holds opens fs ≡ false → fields_of fs ≡ fs
  fields-plain no_fields h = refl
  fields-plain (field n d fs) h =
      let first = variable-plain d (neither-left (holds opens d) (some_field_holds opens fs) h) in
      let rest = fields-plain fs (neither-right (holds opens d) (some_field_holds opens fs) h) in
      rw (first, rest) refl
