-- Slots and parameters that are read one field after the other.
use Rattle.std.proofs.Common.{◌≡◌, List, [], ◌∷◌, ◌++◌, Bool, true, false, cond, Option, Some, None, option_map, String, Global, Less, Greater, string_bytes, string_cmp, nat_cmp, refl, sym, ap, ◌∙◌}
use Rattle.std.specs.Prelude.{◌&&◌, not}
use Rattle.std.proofs.lemmas.Cmp.{nat_list_cmp_total}
use Rattle.std.proofs.lemmas.Map.Text.{is_eq-slice_cmp}
use Rattle.std.specs.Cmp.Lexicographic.{slice_cmp}
use Rattle.std.specs.List.{AllByRecursion}
use Rattle.std.specs.List.Sorted.{IsStrictlySortedBy}
use Rattle.std.specs.Map.{keys_of}
use Rattle.std.specs.Ordering.{is_eq, ordering_reverse}
use Rattle.std.specs.Str.{bytes_eq}
use Rattle.pb_semantics.specs.Kind.{KindData, Slots, Spot, nowhere, spot, slot, put_slot, is_listed}
use Rattle.pb_semantics.specs.Signature.{ParameterData}
use Rattle.pb_semantics.proofs.PutSlots.{listed_put}
use Rattle.pb_language.specs.Expression.{Name}
use Rattle.pb_language.specs.Rules.{is_variable_name}
use Rattle.pb_value.specs.View.{view, fields_view}
use Rattle.pb_value.proofs.Fields.{Entry}
use Rattle.pb_sig.specs.Signatures.{slot_before, slots_in, spot_in, parameter_before, parameter_in, parameters_in}

abbrev pub Ascending : List Entry → Type 0
Ascending es = IsStrictlySortedBy string_cmp (keys_of es)

above-middle : (n : String Global) (es : List Entry) (e : Entry) (more : List Entry) → AllByRecursion (λ y. string_cmp n y ≡ Less) (keys_of (es ++ e ∷ more)) → string_cmp n e.0 ≡ Less
above-middle n [] e more h = h.0
above-middle n (x ∷ es) e more h = above-middle n es e more h.1

-- a field that says nothing of its slot, or that no variable can be named
slot_before-none : (n : Name) (s : Spot) → slot_before n s None ≡ None
slot_before-none n nowhere = refl
slot_before-none n (spot a k) = refl

unnamed : (n : Name) (s : Spot) (r : Option Slots) → is_variable_name n ≡ false → slot_before n s r ≡ None
unnamed n nowhere r h = refl
unnamed n (spot a k) None h = refl
unnamed n (spot a k) (Some ss) h = rw h refl

none-behind : (done rest : List Entry) → slots_in (fields_view rest) ≡ None → slots_in (fields_view (done ++ rest)) ≡ None
none-behind [] rest h = h
none-behind (e ∷ done) rest h = ap (slot_before (string_bytes e.0) (spot_in (view e.1))) (none-behind done rest h) ∙ slot_before-none (string_bytes e.0) (spot_in (view e.1))

pub slots_in-nowhere : (done : List Entry) (e : Entry) (more : List Entry) → spot_in (view e.1) ≡ nowhere → slots_in (fields_view (done ++ e ∷ more)) ≡ None
slots_in-nowhere done e more h = none-behind done (e ∷ more) (ap (λ s. slot_before (string_bytes e.0) s (slots_in (fields_view more))) h)

pub slots_in-unnamed : (done : List Entry) (e : Entry) (more : List Entry) → is_variable_name (string_bytes e.0) ≡ false → slots_in (fields_view (done ++ e ∷ more)) ≡ None
slots_in-unnamed done e more h = none-behind done (e ∷ more) (unnamed (string_bytes e.0) (spot_in (view e.1)) (slots_in (fields_view more)) h)

-- a slot of a later name is put behind
put-if : (q : Bool) (n f : Name) (a b : Bool) (k j : KindData) (ss : Slots) → slice_cmp nat_cmp n f ≡ Greater
    → cond q (Some (slot f b j (put_slot n a k ss))) None ≡ option_map (put_slot n a k) (cond q (Some (slot f b j ss)) None)
put-if true n f a b k j ss h = rw h refl
put-if false n f a b k j ss h = refl

before-put : (n f : Name) (a : Bool) (k : KindData) (s : Spot) (r : Option Slots) → slice_cmp nat_cmp n f ≡ Greater → bytes_eq f n ≡ false
    → slot_before f s (option_map (put_slot n a k) r) ≡ option_map (put_slot n a k) (slot_before f s r)
before-put n f a k nowhere r above other = refl
before-put n f a k (spot b j) None above other = refl
before-put n f a k (spot b j) (Some ss) above other =
    let same : is_listed f (put_slot n a k ss) ≡ is_listed f ss = listed_put f n a k ss ∙ ap (λ q. cond q true (is_listed f ss)) other in
    ap (λ q. cond (is_variable_name f && not q) (Some (slot f b j (put_slot n a k ss))) None) same ∙ put-if (is_variable_name f && not (is_listed f ss)) n f a b k j ss above

pub slots_in-last : (done : List Entry) (e : Entry) (more : List Entry) (a : Bool) (k : KindData) → Ascending (done ++ e ∷ more) → spot_in (view e.1) ≡ spot a k → is_variable_name (string_bytes e.0) ≡ true
    → slots_in (fields_view (done ++ e ∷ [])) ≡ option_map (put_slot (string_bytes e.0) a k) (slots_in (fields_view done))
unfolding IsStrictlySortedBy
slots_in-last [] e more a k ordered says named = rw (says, named) refl
slots_in-last (f ∷ done) e more a k ordered says named =
    let below = above-middle f.0 done e more ordered.0 in
    let above : slice_cmp nat_cmp (string_bytes e.0) (string_bytes f.0) ≡ Greater = nat_list_cmp_total.antisymm (string_bytes e.0) (string_bytes f.0) ∙ ap ordering_reverse below in
    let other : bytes_eq (string_bytes f.0) (string_bytes e.0) ≡ false = sym (is_eq-slice_cmp (string_bytes f.0) (string_bytes e.0)) ∙ ap is_eq below in
    ap (slot_before (string_bytes f.0) (spot_in (view f.1))) (slots_in-last done e more a k ordered.1 says named)
    ∙ before-put (string_bytes e.0) (string_bytes f.0) a k (spot_in (view f.1)) (slots_in (fields_view done)) above other

-- ---- parameters

parameter_before-none : (p : Option ParameterData) → parameter_before p None ≡ None
parameter_before-none None = refl
parameter_before-none (Some p) = refl

no_parameters-behind : (done rest : List Entry) → parameters_in (fields_view rest) ≡ None → parameters_in (fields_view (done ++ rest)) ≡ None
no_parameters-behind [] rest h = h
no_parameters-behind (e ∷ done) rest h =
    ap (parameter_before (parameter_in (string_bytes e.0) (view e.1))) (no_parameters-behind done rest h) ∙ parameter_before-none (parameter_in (string_bytes e.0) (view e.1))

pub parameters_in-none : (done : List Entry) (e : Entry) (more : List Entry) → parameter_in (string_bytes e.0) (view e.1) ≡ None → parameters_in (fields_view (done ++ e ∷ more)) ≡ None
parameters_in-none done e more h = no_parameters-behind done (e ∷ more) (ap (λ p. parameter_before p (parameters_in (fields_view more))) h)

behind : (p : ParameterData) (x : Option ParameterData) (r : Option (List ParameterData)) → parameter_before x (option_map (λ ps. ps ++ p ∷ []) r) ≡ option_map (λ ps. ps ++ p ∷ []) (parameter_before x r)
behind p None r = refl
behind p (Some q) None = refl
behind p (Some q) (Some ps) = refl

pub parameters_in-last : (done : List Entry) (e : Entry) (p : ParameterData) → parameter_in (string_bytes e.0) (view e.1) ≡ Some p
    → parameters_in (fields_view (done ++ e ∷ [])) ≡ option_map (λ ps. ps ++ p ∷ []) (parameters_in (fields_view done))
parameters_in-last [] e p h = ap (λ x. parameter_before x (Some [])) h
parameters_in-last (f ∷ done) e p h =
    ap (parameter_before (parameter_in (string_bytes f.0) (view f.1))) (parameters_in-last done e p h) ∙ behind p (parameter_in (string_bytes f.0) (view f.1)) (parameters_in (fields_view done))
