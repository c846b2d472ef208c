-- The names in a list of values, one after the other.
use Rattle.std.proofs.Common.{◌≡◌, ℕ, ◌+◌, suc, ◌<◌, List, [], ◌∷◌, length, get_or, drop, drop-cons, add-one, arith, Bor, true, is_some, option_map, Option, Some, None, Ok, BTreeMap, String, Global, refl, sym, ap, ◌∙◌}
use Rattle.pb_semantics.specs.Data.{Data, null, boolean, int, text, list, rec, opaque}
use Rattle.pb_language.specs.Expression.{Name}
use Rattle.pb_language.specs.TaskForm.{text_in}
use Rattle.pb_language.specs.Written.{fields_of, is_group_form, is_there, name_before, names_in}
use Rattle.std.specs.declared.sync.Arc.{Arc}
use Rattle.pb_value.proofs.Fields.{Entry}
use Rattle.pb_value.proofs.Views.{view-Rec}
use Rattle.pb_value.specs.declared.value.Value as Value-of
use Rattle.pb_value.specs.declared.weight.Weighed.{Weighed}
use Rattle.pb_inventory.specs.Documents.{formed, has_group_key}
use Rattle.pb_value.specs.View.{view, items_view, fields_view}
use Rattle.pb_value.specs.declared.value.Value.{Value}
use Rattle.pb_inventory.proofs.Formed.{and_first}

name_before-first : (d : Data) (r : Option (List Name)) → name_before d r ≡ and_first (text_in (Some d)) r
name_before-first null None = refl
name_before-first null (Some ns) = refl
name_before-first (boolean b) None = refl
name_before-first (boolean b) (Some ns) = refl
name_before-first (int z) None = refl
name_before-first (int z) (Some ns) = refl
name_before-first (text s) None = refl
name_before-first (text s) (Some ns) = refl
name_before-first (list ds) None = refl
name_before-first (list ds) (Some ns) = refl
name_before-first (rec fs) None = refl
name_before-first (rec fs) (Some ns) = refl
name_before-first opaque None = refl
name_before-first opaque (Some ns) = refl

pub names_in-next : (vs : List Value) (i : ℕ) (v : Value) → i < length vs → v ≡ get_or vs i v → names_in (items_view (drop i vs)) ≡ and_first (text_in (Some (view v))) (names_in (items_view (drop (i + 1) vs)))
names_in-next vs i v h e =
    let next : drop i vs ≡ v ∷ drop (i + 1) vs = drop-cons vs i v h ∙ rw (add-one i) (ap (λ x. x ∷ drop (suc i) vs) (sym e)) in
    ap (λ xs. names_in (items_view xs)) next ∙ name_before-first (view v) (names_in (items_view (drop (i + 1) vs)))

pub is_there-some : (o : Option (Bor Value)) → is_some o ≡ is_there (option_map (λ v. view v.now) o)
is_there-some None = refl
is_there-some (Some v) = refl

-- what a record of no key, or with some, is
pub is_group_form-empty : (es : List Entry) → length es ≡ 0 → true ≡ is_group_form (fields_view es)
is_group_form-empty [] h = refl
is_group_form-empty (e ∷ es) h = absurd (omega (arith, h))

pub is_group_form-keyed : (es : List Entry) → (length es ≡ 0 → ⊥)
    → has_group_key (fields_view es) ≡ is_group_form (fields_view es)
is_group_form-keyed [] h = absurd (h refl)
is_group_form-keyed (e ∷ es) h = refl

-- the fields of a record, which a copy shares
pub formed-fields : (v : Value) (m n : Arc (Weighed (BTreeMap (String Global) Value)) Global) → v ≡ Value-of.Rec m → n.value ≡ m.value → formed (fields_of (Some (view v))) ≡ Ok (fields_view n.value.parts.entries)
formed-fields v m n is same = ap (λ x. formed (fields_of (Some (view x)))) is ∙ ap (λ x. formed (fields_of (Some x))) (view-Rec m) ∙ ap (λ w. Ok (fields_view w.parts.entries)) (sym same)
