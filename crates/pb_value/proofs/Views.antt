-- What the layers of a value mean.
use Rattle.std.proofs.Common.{◌≡◌, Bool, ℤ, Vec, BTreeMap, String, Global, string_bytes, sym, ap, ◌∙◌}
use Rattle.std.proofs.Common.{rules}
use Rattle.std.specs.declared.sync.Arc.{Arc}
use Rattle.pb_semantics.specs.Data.{null, boolean, int, list, rec, text}
use Rattle.pb_value.specs.View.{view, fields_view, items_view}
use Rattle.pb_value.specs.declared.value.Value.{Value}
use Rattle.pb_value.specs.declared.value.Value as Value-of
use Rattle.pb_value.specs.declared.value.Value.{the_lemmas as value_lemmas}
use Rattle.pb_value.specs.declared.weight.Weighed.{Weighed}

pub view-List : (v : Arc (Weighed (Vec Value Global)) Global) → view (Value-of.List v) ≡ list (items_view v.value.parts.items)
view-List v = search (rules, value_lemmas)

pub view-Rec : (m : Arc (Weighed (BTreeMap (String Global) Value)) Global) → view (Value-of.Rec m) ≡ rec (fields_view m.value.parts.entries)
view-Rec m = search (rules, value_lemmas)

-- the record that a value is, read from its block
pub view-fields : (v : Value) (fields : Arc (Weighed (BTreeMap (String Global) Value)) Global) (m : BTreeMap (String Global) Value) → v ≡ Value-of.Rec fields → m ≡ fields.value.parts → view v ≡ rec (fields_view m.entries)
view-fields v fields m is behind = ap view is ∙ view-Rec fields ∙ ap (λ (x : BTreeMap (String Global) Value). rec (fields_view x.entries)) (sym behind)

pub view-Text : (s : Arc (String Global) Global) → view (Value-of.Text s) ≡ text (string_bytes s.value)
view-Text s = search (rules, value_lemmas)

pub view-Null : view Value-of.Null ≡ null
view-Null = search (rules, value_lemmas)

pub view-Bool : (b : Bool) → view (Value-of.Bool b) ≡ boolean b
view-Bool b = search (rules, value_lemmas)

pub view-Int : (z : ℤ) → view (Value-of.Int z) ≡ int z
view-Int z = search (rules, value_lemmas)
