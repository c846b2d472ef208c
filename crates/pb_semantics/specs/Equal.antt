-- Equality of values, in structure: values of different sorts are unequal.
use Rattle.std.specs.Prelude.{ℕ, List, [], ◌∷◌, Bool, true, false, ◌&&◌, ◌||◌, nat_eq}
use Rattle.std.specs.Ordering.{int_eq}
use Rattle.std.specs.Str.{bytes_eq}
use Rattle.pb_semantics.specs.Data.{Data, Items, Fields, null, boolean, int, text, list, rec}
use Rattle.pb_semantics.specs.Data.{no_items, item, no_fields, field, bool_eq}

abbrev mutual
  pub data_eq : Data → Data → Bool
  data_eq null null = true
  data_eq (boolean a) (boolean b) = bool_eq a b
  data_eq (int y) (int z) = int_eq y z
  data_eq (text s) (text t) = bytes_eq s t
  data_eq (list ds) (list es) = items_eq ds es
  data_eq (rec fs) (rec gs) = fields_eq fs gs
  data_eq d e = false

  pub items_eq : Items → Items → Bool
  items_eq no_items no_items = true
  items_eq (item d ds) (item e es) = data_eq d e && items_eq ds es
  items_eq ds es = false

  pub fields_eq : Fields → Fields → Bool
  fields_eq no_fields no_fields = true
  fields_eq (field n d fs) (field m e gs) = bytes_eq n m && (data_eq d e && fields_eq fs gs)
  fields_eq fs gs = false

abbrev pub is_item : Data → Items → Bool
is_item d no_items = false
is_item d (item e es) = data_eq d e || is_item d es

-- the first text begins the second
abbrev pub begins : List ℕ → List ℕ → Bool
begins [] t = true
begins (a ∷ s) [] = false
begins (a ∷ s) (b ∷ t) = nat_eq a b && begins s t

-- the first text is a part of the second
abbrev pub is_part : List ℕ → List ℕ → Bool
is_part s [] = begins s []
is_part s (b ∷ t) = begins s (b ∷ t) || is_part s t
