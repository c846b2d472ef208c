-- Values within limits, where some more levels are left.
use Rattle.std.proofs.Common.{◌≡◌, ℕ, zero, suc, ◌<◌, ◌-◌, List, Vec, BTreeMap, String, Global, refl, sym, ap, ◌∙◌, arith}
use Rattle.std.specs.declared.sync.Arc.{Arc}
use Rattle.pb_semantics.specs.Data.{Items, Fields, list, rec}
use Rattle.pb_language.specs.Nesting.{are_fields_within, are_items_within, is_within}
use Rattle.pb_language.specs.Texts.{has_short_braces}
use Rattle.pb_value.proofs.Views.{view-List, view-fields}
use Rattle.pb_value.specs.View.{view, items_view, fields_view}
use Rattle.pb_value.specs.declared.value.Value as Value-of
use Rattle.pb_value.specs.declared.value.Value.{Value}
use Rattle.pb_value.specs.declared.weight.Weighed.{Weighed}

within-list : (k : ℕ) (ds : Items) → 0 < k → is_within has_short_braces k (list ds) ≡ are_items_within has_short_braces (k - 1) ds
within-list zero ds h = absurd (omega (arith, h))
within-list (suc k) ds h = let e : suc k - 1 ≡ k = omega arith in rw e refl

within-rec : (k : ℕ) (fs : Fields) → 0 < k → is_within has_short_braces k (rec fs) ≡ are_fields_within has_short_braces (k - 1) fs
within-rec zero fs h = absurd (omega (arith, h))
within-rec (suc k) fs h = let e : suc k - 1 ≡ k = omega arith in rw e refl

pub list_is_within : (v : Value) (items : Arc (Weighed (Vec Value Global)) Global) (own : List Value) (k : ℕ) → v ≡ Value-of.List items → own ≡ items.value.parts.items → 0 < k
    → are_items_within has_short_braces (k - 1) (items_view own) ≡ is_within has_short_braces k (view v)
list_is_within v items own k is e h =
    sym (within-list k (items_view own) h) ∙ ap (λ vs. is_within has_short_braces k (list (items_view vs))) e ∙ ap (is_within has_short_braces k) (sym (ap view is ∙ view-List items))

pub record_is_within : (v : Value) (fields : Arc (Weighed (BTreeMap (String Global) Value)) Global) (m : BTreeMap (String Global) Value) (k : ℕ) → v ≡ Value-of.Rec fields → m ≡ fields.value.parts → 0 < k
    → are_fields_within has_short_braces (k - 1) (fields_view m.entries) ≡ is_within has_short_braces k (view v)
record_is_within v fields m k is e h = sym (within-rec k (fields_view m.entries) h) ∙ ap (is_within has_short_braces k) (sym (view-fields v fields m is e))
