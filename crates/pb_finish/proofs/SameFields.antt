-- Fields that the test of equality calls the same are the same.
use Rattle.std.proofs.Common.{◌≡◌, Bool, true, false, ◌&&◌, refl, ap, ap₂}
use Rattle.std.specs.Str.{bytes_eq}
use Rattle.std.proofs.lemmas.Bool.Decides.{Decides-int_eq}
use Rattle.std.proofs.lemmas.Slice.Eq.{bytes_eq-Decides}
use Rattle.pb_semantics.proofs.Bools.{and-left, and-right, untrue}
use Rattle.pb_semantics.specs.Data.{Data, Items, Fields, null, boolean, int, text, list, rec}
use Rattle.pb_semantics.specs.Data.{no_items, item, no_fields, field, bool_eq}
use Rattle.pb_semantics.specs.Equal.{data_eq, items_eq, fields_eq}

pub same-flag : (a b : Bool) → bool_eq a b ≡ true → a ≡ b
same-flag true true h = refl
same-flag true false h = untrue h
same-flag false true h = untrue h
same-flag false false h = refl

mutual
  same_data : (d e : Data) → data_eq d e ≡ true → d ≡ e
  same_data null null h = refl
  same_data (boolean a) (boolean b) h = ap boolean (same-flag a b h)
  same_data (int y) (int z) h = ap int ((Decides-int_eq y z).0 h)
  same_data (text s) (text t) h = ap text ((bytes_eq-Decides s t).0 h)
  same_data (list ds) (list es) h = ap list (same_items ds es h)
  same_data (rec fs) (rec gs) h = ap rec (same-fields fs gs h)
  same_data d e h = absurd (cc)

  same_items : (ds es : Items) → items_eq ds es ≡ true → ds ≡ es
  same_items no_items no_items h = refl
  same_items no_items (item e es) h = untrue h
  same_items (item d ds) no_items h = untrue h
  same_items (item d ds) (item e es) h =
      ap₂ item (same_data d e (and-left (data_eq d e) (items_eq ds es) h))
      (same_items ds es (and-right (data_eq d e) (items_eq ds es) h))

  pub same-fields : (fs gs : Fields) → fields_eq fs gs ≡ true → fs ≡ gs
  same-fields no_fields no_fields h = refl
  same-fields no_fields (field m e gs) h = untrue h
  same-fields (field n d fs) no_fields h = untrue h
  same-fields (field n d fs) (field m e gs) h =
      let rest = and-right (bytes_eq n m) (data_eq d e && fields_eq fs gs) h in
      let named : n ≡ m = (bytes_eq-Decides n m).0 (and-left (bytes_eq n m) (data_eq d e && fields_eq fs gs) h) in
      let valued : d ≡ e = same_data d e (and-left (data_eq d e) (fields_eq fs gs) rest) in
      let others : fs ≡ gs = same-fields fs gs (and-right (data_eq d e) (fields_eq fs gs) rest) in
      rw (named, valued, others) refl
