-- What a list or a record stands for that is copied out of its block.
use Rattle.std.proofs.Common.{◌≡◌, List, [], ◌∷◌, String, Global, Vec, BTreeMap, string_bytes, ◌⊎◌, inl, inr, refl, ap, ap₂}
use Rattle.std.specs.List.{AllZip}
use Rattle.pb_semantics.specs.Data.{field, item}
use Rattle.pb_value.specs.View.{view, items_view, fields_view}
use Rattle.pb_value.specs.declared.value.Value.{Value}
use Rattle.pb_value.specs.declared.weight.Weighed.{Weighed}
use Rattle.pb_value.proofs.Fields.{Entry}

items_view-copy : (vs ws : List Value) → AllZip (λ v w. view w ≡ view v) vs ws → items_view ws ≡ items_view vs
items_view-copy [] [] h = refl
items_view-copy [] (w ∷ ws) h = absurd h
items_view-copy (v ∷ vs) [] h = absurd h
items_view-copy (v ∷ vs) (w ∷ ws) h = ap₂ item h.0 (items_view-copy vs ws h.1)

pub fields_view-copy : (es ds : List Entry) → AllZip (λ e d. (string_bytes d.0 ≡ string_bytes e.0) × (view d.1 ≡ view e.1)) es ds → fields_view ds ≡ fields_view es
fields_view-copy [] [] h = refl
fields_view-copy [] (d ∷ ds) h = absurd h
fields_view-copy (e ∷ es) [] h = absurd h
fields_view-copy (e ∷ es) (d ∷ ds) h = rw (h.0.0, h.0.1) (ap (field (string_bytes e.0) (view e.1)) (fields_view-copy es ds h.1))

-- the list itself, or a copy
pub items_view-own : {L W : Type 0} → (v w : Weighed (Vec Value Global)) → (w ≡ v) ⊎ (W × (AllZip (λ x y. view y ≡ view x) v.parts.items w.parts.items × L)) → items_view w.parts.items ≡ items_view v.parts.items
items_view-own v w (inl e) = ap (λ (x : Weighed (Vec Value Global)). items_view x.parts.items) e
items_view-own v w (inr h) = items_view-copy v.parts.items w.parts.items h.1.0

pub fields_view-own : {W : Type 0} → (m n : Weighed (BTreeMap (String Global) Value)) → (n ≡ m) ⊎ (W × AllZip (λ e d. (string_bytes d.0 ≡ string_bytes e.0) × (view d.1 ≡ view e.1)) m.parts.entries n.parts.entries) → fields_view n.parts.entries ≡ fields_view m.parts.entries
fields_view-own m n (inl e) = ap (λ (x : Weighed (BTreeMap (String Global) Value)). fields_view x.parts.entries) e
fields_view-own m n (inr h) = fields_view-copy m.parts.entries n.parts.entries h.1
