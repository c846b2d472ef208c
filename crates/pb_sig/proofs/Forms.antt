-- What the values of a file of signatures are, by the names that are asked for, and how large.
use Rattle.std.proofs.Common.{◌≡◌, ◌≢◌, ℕ, zero, suc, ◌+◌, ◌-◌, ◌<◌, ◌≤◌, List, [], ◌∷◌, ◌++◌, length, Bool, true, false, cond, Option, Some, None, String, Global, arith, codes, refl, sym, ap, subst, ◌∙◌}
use Rattle.std.specs.Prelude.{◌&&◌, ◌==◌}
use Rattle.std.specs.Str.{bytes_eq}
use Rattle.std.proofs.lemmas.Bool.{le-leb, lt-leb, ne_eqb}
use Rattle.pb_semantics.specs.Data.{Data, Fields, rec, no_fields, field, field_value}
use Rattle.pb_semantics.specs.Kind.{KindData, Slots, Spot, lists, recs, nowhere, spot}
use Rattle.pb_semantics.specs.Signature.{ParameterData}
use Rattle.pb_language.specs.Evaluation.{field_count}
use Rattle.pb_language.specs.Expression.{Name}
use Rattle.pb_value.specs.View.{view, fields_view, truth}
use Rattle.pb_kind.specs.KindView.{slots_view}
use Rattle.pb_kind.specs.declared.kind.Kind.{Kind}
use Rattle.pb_kind.specs.declared.kind.Slot.{Slot}
use Rattle.pb_value.proofs.Fields.{Entry}
use Rattle.pb_sig.specs.Signatures.{kind_in, inner_kind, shape_in, spot_in, bound_in, list_kind, record_kind, field_spot, pair_in, lone_in, module_form, module_name, parameters_of, shape_of, slot_count, is_within, are_within, most_fields, most_list_items}

same-cond : {X : Type 0} (q : Bool) (x : X) → cond q x x ≡ x
same-cond true x = refl
same-cond false x = refl

abbrev pub list_or : Option KindData → Option ℕ → Option KindData
list_or (Some k) (Some n) = Some (lists k n)
list_or k n = None

abbrev pub record_or : Option Slots → Option KindData
record_or (Some ss) = Some (recs ss)
record_or None = None

abbrev pub spot_or : Option Bool → Option KindData → Spot
spot_or (Some b) (Some k) = spot b k
spot_or b k = nowhere

-- a list by its pair of values, else a record by its lone one
abbrev pub inner_by : Option (Data × Data) → Option Data → Option KindData
inner_by (Some p) o = list_or (kind_in p.0) (bound_in p.1)
inner_by None (Some d) = record_or (shape_in d)
inner_by None None = None

abbrev pub spot_by : Option (Data × Data) → Spot
spot_by (Some p) = spot_or (truth p.0) (kind_in p.1)
spot_by None = nowhere

list_kind-or : (n m : Name) (k : Option KindData) (b : Option ℕ) → list_kind n m k b ≡ cond (bytes_eq n (codes "list") && bytes_eq m (codes "max")) (list_or k b) None
list_kind-or n m None b = sym (same-cond (bytes_eq n (codes "list") && bytes_eq m (codes "max")) None)
list_kind-or n m (Some k) None = sym (same-cond (bytes_eq n (codes "list") && bytes_eq m (codes "max")) None)
list_kind-or n m (Some k) (Some b) = refl

record_kind-or : (n : Name) (s : Option Slots) → record_kind n s ≡ cond (bytes_eq n (codes "rec")) (record_or s) None
record_kind-or n None = sym (same-cond (bytes_eq n (codes "rec")) None)
record_kind-or n (Some ss) = refl

field_spot-or : (n m : Name) (b : Option Bool) (k : Option KindData) → field_spot n m b k ≡ cond (bytes_eq n (codes "always") && bytes_eq m (codes "kind")) (spot_or b k) nowhere
field_spot-or n m None k = sym (same-cond (bytes_eq n (codes "always") && bytes_eq m (codes "kind")) nowhere)
field_spot-or n m (Some b) None = sym (same-cond (bytes_eq n (codes "always") && bytes_eq m (codes "kind")) nowhere)
field_spot-or n m (Some b) (Some k) = refl

by_pair : (q : Bool) (p : Data × Data) → cond q (list_or (kind_in p.0) (bound_in p.1)) None ≡ inner_by (cond q (Some p) None) None
by_pair true p = refl
by_pair false p = refl

by_one : (q : Bool) (d : Data) → cond q (record_or (shape_in d)) None ≡ inner_by None (cond q (Some d) None)
by_one true d = refl
by_one false d = refl

spot-pair : (q : Bool) (p : Data × Data) → cond q (spot_or (truth p.0) (kind_in p.1)) nowhere ≡ spot_by (cond q (Some p) None)
spot-pair true p = refl
spot-pair false p = refl

pub inner_kind-by : (d : Data) → inner_kind d ≡ inner_by (pair_in (codes "list") (codes "max") d) (lone_in (codes "rec") d)
inner_kind-by (rec no_fields) = refl
inner_kind-by (rec (field n d no_fields)) = record_kind-or n (shape_in d) ∙ by_one (bytes_eq n (codes "rec")) d
inner_kind-by (rec (field n d (field m e no_fields))) = list_kind-or n m (kind_in d) (bound_in e) ∙ by_pair (bytes_eq n (codes "list") && bytes_eq m (codes "max")) (d, e)
inner_kind-by (rec (field n d (field m e (field o x fs)))) = refl
inner_kind-by d = refl

pub spot_in-by : (d : Data) → spot_in d ≡ spot_by (pair_in (codes "always") (codes "kind") d)
spot_in-by (rec no_fields) = refl
spot_in-by (rec (field n d no_fields)) = refl
spot_in-by (rec (field n d (field m e no_fields))) = field_spot-or n m (truth d) (kind_in e) ∙ spot-pair (bytes_eq n (codes "always") && bytes_eq m (codes "kind")) (d, e)
spot_in-by (rec (field n d (field m e (field o x fs)))) = refl
spot_in-by d = refl

-- ---- how large a value is

abbrev mutual
  pub size : Data → ℕ
  size (rec fs) = suc (sizes fs)
  size d = 0

  pub sizes : Fields → ℕ
  sizes no_fields = 0
  sizes (field n d fs) = suc (size d + sizes fs)

IsSmall : Data → Option (Data × Data) → Type 0
IsSmall d None = Unit {0}
IsSmall d (Some p) = (size p.0 < size d) × (size p.1 < size d)

IsSmaller : Data → Option Data → Type 0
IsSmaller d None = Unit {0}
IsSmaller d (Some e) = size e < size d

small_pair : (q : Bool) (d : Data) (p : Data × Data) → size p.0 < size d → size p.1 < size d → IsSmall d (cond q (Some p) None)
unfolding IsSmall
small_pair true d p h g = (h, g)
small_pair false d p h g = tt

smaller_one : (q : Bool) (d e : Data) → size e < size d → IsSmaller d (cond q (Some e) None)
unfolding IsSmaller
smaller_one true d e h = h
smaller_one false d e h = tt

pair-small : (n m : Name) (d : Data) → IsSmall d (pair_in n m d)
unfolding IsSmall
pair-small n m (rec (field a d (field b e no_fields))) = small_pair (bytes_eq a n && bytes_eq b m) (rec (field a d (field b e no_fields))) (d, e) (omega arith) (omega arith)
pair-small n m d = tt

lone-smaller : (n : Name) (d : Data) → IsSmaller d (lone_in n d)
unfolding IsSmaller
lone-smaller n (rec (field m d no_fields)) = smaller_one (bytes_eq m n) (rec (field m d no_fields)) d (omega arith)
lone-smaller n d = tt

pub pair_in-small : (n m : Name) (d : Data) (p : Data × Data) → pair_in n m d ≡ Some p → (size p.0 < size d) × (size p.1 < size d)
unfolding IsSmall
pair_in-small n m d p h = subst (IsSmall d) h (pair-small n m d)

pub lone_in-small : (n : Name) (d e : Data) → lone_in n d ≡ Some e → size e < size d
unfolding IsSmaller
lone_in-small n d e h = subst (IsSmaller d) h (lone-smaller n d)

pub sizes-middle : (done : List Entry) (e : Entry) (more : List Entry) → size (view e.1) < sizes (fields_view (done ++ e ∷ more))
sizes-middle [] e more = omega arith
sizes-middle (f ∷ done) e more = omega (arith, sizes-middle done e more)

-- ---- a module

field_count-length : (es : List Entry) → field_count (fields_view es) ≡ length es
field_count-length [] = refl
field_count-length (e ∷ es) = ap suc (field_count-length es)

pub module_form-other : (es : List Entry) → length es ≢ 4 → module_form (fields_view es) ≡ None
module_form-other es h =
    let other : (field_count (fields_view es) == 4) ≡ false = ap (λ n. n == 4) (field_count-length es) ∙ ne_eqb (length es) 4 h in
    rw other refl

pub module_form-whole : (es : List Entry) (n : Name) (ps : List ParameterData) (ok failure : Slots) → length es ≡ 4 → module_name (field_value (codes "name") (fields_view es)) ≡ Some n → parameters_of (field_value (codes "params") (fields_view es)) ≡ Some ps
    → shape_of (field_value (codes "ok") (fields_view es)) ≡ Some ok → shape_of (field_value (codes "failure") (fields_view es)) ≡ Some failure
    → module_form (fields_view es) ≡ Some (record { name = n; params = ps; ok = recs ok; failure = recs failure; free = None })
module_form-whole es n ps ok failure h named given fine bad =
    let four : (field_count (fields_view es) == 4) ≡ true = ap (λ n. n == 4) (field_count-length es ∙ h) in
    rw (four, named, given, fine, bad) refl

-- ---- limits

pub slot_count-length : (es : List (String Global × Slot Kind)) → slot_count (slots_view es) ≡ length es
slot_count-length [] = refl
slot_count-length (e ∷ es) = ap suc (slot_count-length es)

pub is_within-list : (levels n : ℕ) (k : KindData) → 0 < levels → n ≤ most_list_items → is_within levels (lists k n) ≡ is_within (levels - 1) k
is_within-list zero n k h l = absurd (omega (arith, h))
is_within-list (suc levels) n k h l =
    let same : suc levels - 1 ≡ levels = omega arith in
    ap (λ q. q && is_within levels k) (le-leb n most_list_items l) ∙ ap (λ m. is_within m k) (sym same)

pub is_within-long : (levels n : ℕ) (k : KindData) → most_list_items < n → is_within levels (lists k n) ≡ false
is_within-long zero n k l = refl
is_within-long (suc levels) n k l = ap (λ q. q && is_within levels k) (lt-leb n most_list_items l)

pub is_within-record : (levels : ℕ) (ss : Slots) → 0 < levels → is_within levels (recs ss) ≡ is_within (suc (levels - 1)) (recs ss)
is_within-record zero ss h = absurd (omega (arith, h))
is_within-record (suc levels) ss h =
    let same : suc levels - 1 ≡ levels = omega arith in
    ap (λ m. is_within (suc m) (recs ss)) (sym same)

pub is_within-few : (levels : ℕ) (ss : Slots) → slot_count ss ≤ most_fields → is_within (suc levels) (recs ss) ≡ are_within levels ss
is_within-few levels ss l = ap (λ q. q && are_within levels ss) (le-leb (slot_count ss) most_fields l)

pub is_within-many : (levels : ℕ) (ss : Slots) → most_fields < slot_count ss → is_within (suc levels) (recs ss) ≡ false
is_within-many levels ss l = ap (λ q. q && are_within levels ss) (lt-leb (slot_count ss) most_fields l)
