-- The kinds of a file of signatures hold no result and have each name once; what the laws of a file
-- say in the words of modules.
use Rattle.std.proofs.Common.{◌≡◌, ℕ, Bool, true, false, cond, Option, Some, None, codes, refl, sym, ap, ◌∙◌}
use Rattle.std.specs.Prelude.{◌&&◌, not}
use Rattle.std.specs.Str.{bytes_eq}
use Rattle.pb_semantics.specs.Data.{Data, Fields, rec, text, no_fields, field}
use Rattle.pb_semantics.specs.Kind.{KindData, Slots, Spot, lists, recs, results, no_slots, slot, nowhere, spot, is_listed}
use Rattle.pb_semantics.specs.Signature.{is_free, are_free}
use Rattle.pb_semantics.proofs.Bools.{and-left, and-right, and-both}
use Rattle.pb_language.specs.Cases.{is_plain, are_plain}
use Rattle.pb_language.specs.Expression.{Name}
use Rattle.pb_language.specs.Rules.{is_variable_name}
use Rattle.pb_value.specs.View.{truth}
use Rattle.pb_sig.specs.Signatures.{kind_in, kind_named, kind_form, list_kind, record_kind, field_spot, slot_before, shape_in, slots_in, spot_in, spot_form, bound_in, shape_of}

abbrev is_plain_if : Option KindData → Bool
is_plain_if None = true
is_plain_if (Some k) = is_plain k

abbrev pub are_plain_if : Option Slots → Bool
are_plain_if None = true
are_plain_if (Some ss) = are_plain ss

abbrev is_plain_spot : Spot → Bool
is_plain_spot nowhere = true
is_plain_spot (spot a k) = is_plain k

plain_cond : (q : Bool) (x y : Option KindData) → is_plain_if x ≡ true → is_plain_if y ≡ true → is_plain_if (cond q x y) ≡ true
plain_cond true x y h g = h
plain_cond false x y h g = g

plain_spot_cond : (q : Bool) (x y : Spot) → is_plain_spot x ≡ true → is_plain_spot y ≡ true → is_plain_spot (cond q x y) ≡ true
plain_spot_cond true x y h g = h
plain_spot_cond false x y h g = g

plain_named : (n : Name) → is_plain_if (kind_named n) ≡ true
plain_named n = plain_cond (bytes_eq n (codes "bool")) _ _ refl (plain_cond (bytes_eq n (codes "int")) _ _ refl (plain_cond (bytes_eq n (codes "text")) _ _ refl refl))

plain_list : (n m : Name) (k : Option KindData) (b : Option ℕ) → is_plain_if k ≡ true → is_plain_if (list_kind n m k b) ≡ true
plain_list n m None b h = refl
plain_list n m (Some k) None h = refl
plain_list n m (Some k) (Some b) h = plain_cond (bytes_eq n (codes "list") && bytes_eq m (codes "max")) (Some (lists k b)) None h refl

plain_record : (n : Name) (s : Option Slots) → are_plain_if s ≡ true → is_plain_if (record_kind n s) ≡ true
plain_record n None h = refl
plain_record n (Some ss) h = plain_cond (bytes_eq n (codes "rec")) (Some (recs ss)) None h refl

plain_field : (n m : Name) (b : Option Bool) (k : Option KindData) → is_plain_if k ≡ true → is_plain_spot (field_spot n m b k) ≡ true
plain_field n m None k h = refl
plain_field n m (Some b) None h = refl
plain_field n m (Some b) (Some k) h = plain_spot_cond (bytes_eq n (codes "always") && bytes_eq m (codes "kind")) (spot b k) nowhere h refl

plain_slot : (n : Name) (a : Bool) (k : KindData) (ss : Slots) (v l : Bool) → is_listed n ss ≡ l → is_plain k ≡ true → are_plain ss ≡ true → are_plain_if (cond (v && not l) (Some (slot n a k ss)) None) ≡ true
plain_slot n a k ss false l e h g = refl
plain_slot n a k ss true true e h g = refl
plain_slot n a k ss true false e h g = and-both (not (is_listed n ss)) (is_plain k && are_plain ss) (ap not e) (and-both (is_plain k) (are_plain ss) h g)

plain_before : (n : Name) (s : Spot) (r : Option Slots) → is_plain_spot s ≡ true → are_plain_if r ≡ true → are_plain_if (slot_before n s r) ≡ true
plain_before n nowhere r h g = refl
plain_before n (spot a k) None h g = refl
plain_before n (spot a k) (Some ss) h g = plain_slot n a k ss (is_variable_name n) (is_listed n ss) refl h g

mutual
  plain_kind : (d : Data) → is_plain_if (kind_in d) ≡ true
  plain_kind (text s) = plain_named s
  plain_kind (rec fs) = plain_form fs
  plain_kind d = refl

  plain_form : (fs : Fields) → is_plain_if (kind_form fs) ≡ true
  plain_form no_fields = refl
  plain_form (field n d no_fields) = plain_record n (shape_in d) (plain_shape d)
  plain_form (field n d (field m e no_fields)) = plain_list n m (kind_in d) (bound_in e) (plain_kind d)
  plain_form (field n d (field m e (field o x fs))) = refl

  pub plain_shape : (d : Data) → are_plain_if (shape_in d) ≡ true
  plain_shape (rec fs) = plain_slots fs
  plain_shape d = refl

  plain_slots : (fs : Fields) → are_plain_if (slots_in fs) ≡ true
  plain_slots no_fields = refl
  plain_slots (field n d fs) = plain_before n (spot_in d) (slots_in fs) (plain_spot d) (plain_slots fs)

  plain_spot : (d : Data) → is_plain_spot (spot_in d) ≡ true
  plain_spot (rec fs) = plain_spot_form fs
  plain_spot d = refl

  plain_spot_form : (fs : Fields) → is_plain_spot (spot_form fs) ≡ true
  plain_spot_form no_fields = refl
  plain_spot_form (field n d no_fields) = refl
  plain_spot_form (field n d (field m e no_fields)) = plain_field n m (truth d) (kind_in e) (plain_kind e)
  plain_spot_form (field n d (field m e (field o x fs))) = refl

pub are_plain-shape : (o : Option Data) (ss : Slots) → shape_of o ≡ Some ss → are_plain ss ≡ true
are_plain-shape None ss h = absurd (cc)
are_plain-shape (Some d) ss h = sym (ap are_plain_if h) ∙ plain_shape d

mutual
  pub free_kind : (k : KindData) → is_plain k ≡ true → is_free k ≡ true
  free_kind (lists k n) h = free_kind k h
  free_kind (recs ss) h = free_slots ss h
  free_kind (results cs r) h = h
  free_kind k h = refl

  pub free_slots : (ss : Slots) → are_plain ss ≡ true → are_free ss ≡ true
  free_slots no_slots h = refl
  free_slots (slot n a k ss) h =
      let rest = and-right (not (is_listed n ss)) (is_plain k && are_plain ss) h in
      and-both (is_free k) (are_free ss) (free_kind k (and-left (is_plain k) (are_plain ss) rest)) (free_slots ss (and-right (is_plain k) (are_plain ss) rest))
