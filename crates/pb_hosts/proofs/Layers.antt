-- What is known of layers of variables, one over the other.
use Rattle.std.proofs.Common.{◌≡◌, ℕ, ◌≤◌, List, [], ◌∷◌, length, drop, true, Bool, false, cond, bytes_eq, Option, Some, None, String, Global, BTreeMap, refl, sym, ap, ◌∙◌}
use Rattle.std.specs.List.{fold}
use Rattle.std.specs.declared.sync.Arc.{Arc}
use Rattle.std.proofs.lemmas.List.{drop_all}
use Rattle.pb_semantics.specs.Data.{Data, Fields, no_fields, field, field_value, put_field}
use Rattle.pb_semantics.specs.Kind.{Slots, Spot, no_slots, nowhere, spot, slot_at, put_slot}
use Rattle.pb_semantics.proofs.PutSlots.{at_put}
use Rattle.pb_language.specs.Expression.{Name}
use Rattle.pb_language.specs.Kinds.{known_kind, known_slots}
use Rattle.pb_language.proofs.GivenFields.{at_put_field}
use Rattle.pb_language.proofs.WithSlot.{at_with}
use Rattle.pb_value.specs.declared.value.Value.{Value}
use Rattle.pb_inventory.specs.HostGroups.{layer_views}
use Rattle.pb_inventory.specs.Views.{laid, layered}
use Rattle.pb_hosts.specs.Tables.{with_layer}
use Rattle.pb_hosts.proofs.Rising.{Rising, rising_put, rising_with, same_rising}

pub rising_known : (fs : Fields) → Rising (known_slots fs)
rising_known no_fields = tt
rising_known (field n d fs) = rising_with n true (known_kind d) (known_slots fs) (rising_known fs)

abbrev spot_of : Option Data → Spot
spot_of None = nowhere
spot_of (Some d) = spot true (known_kind d)

spot_chosen : (q : Bool) (d : Data) (o : Option Data) → cond q (spot true (known_kind d)) (spot_of o) ≡ spot_of (cond q (Some d) o)
spot_chosen true d o = refl
spot_chosen false d o = refl

at_known : (p : Name) (fs : Fields) → slot_at p (known_slots fs) ≡ spot_of (field_value p fs)
at_known p no_fields = refl
at_known p (field n d fs) =
    at_with p n true (known_kind d) (known_slots fs) ∙ ap (cond (bytes_eq p n) (spot true (known_kind d))) (at_known p fs) ∙ spot_chosen (bytes_eq p n) d (field_value p fs)

-- a field that is put is known
known_put : (n : Name) (d : Data) (fs : Fields) → known_slots (put_field n d fs) ≡ put_slot n true (known_kind d) (known_slots fs)
known_put n d fs =
    same_rising (known_slots (put_field n d fs)) (put_slot n true (known_kind d) (known_slots fs)) (rising_known (put_field n d fs))
    (rising_put n true (known_kind d) (known_slots fs) (rising_known fs)) at where
      at : (p : Name) → slot_at p (known_slots (put_field n d fs)) ≡ slot_at p (put_slot n true (known_kind d) (known_slots fs))
      at p =
          at_known p (put_field n d fs) ∙ ap spot_of (at_put_field p n d fs) ∙ sym (spot_chosen (bytes_eq p n) d (field_value p fs))
          ∙ ap (cond (bytes_eq p n) (spot true (known_kind d))) (sym (at_known p fs)) ∙ sym (at_put p n true (known_kind d) (known_slots fs))

pub known_laid : (vs fs : Fields) → known_slots (laid vs fs) ≡ with_layer (known_slots vs) fs
known_laid vs no_fields = refl
known_laid vs (field n d fs) = known_laid (put_field n d vs) fs ∙ ap (λ ss. with_layer ss fs) (known_put n d vs)

abbrev pub with_layers : Slots → List Fields → Slots
with_layers ss [] = ss
with_layers ss (l ∷ ls) = with_layers (with_layer ss l) ls

known_fold : (vs : Fields) (ls : List Fields) → known_slots (fold laid vs ls) ≡ with_layers (known_slots vs) ls
known_fold vs [] = refl
known_fold vs (l ∷ ls) = known_fold (laid vs l) ls ∙ ap (λ ss. with_layers ss ls) (known_laid vs l)

pub known_layered : (ls : List Fields) → known_slots (layered ls) ≡ with_layers no_slots ls
known_layered ls = known_fold no_fields ls

-- all of them
pub layers_put : (ls : List (Arc (BTreeMap (String Global) Value) Global)) (i : ℕ) (ss ts : Slots) → length ls ≤ i → with_layers ss (layer_views (drop i ls)) ≡ ts → ss ≡ ts
layers_put ls i ss ts le left = ap (λ xs. with_layers ss (layer_views xs)) (sym (drop_all i ls le)) ∙ left
