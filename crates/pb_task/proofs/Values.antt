-- Records and lists in values, and what is given of them.
use Rattle.std.proofs.Common.{◌≡◌, List, Bool, true, false, ◌||◌, cond, Some, Vec, Global, is_some, bytes_eq, refl, sym, ap, ◌∙◌}
use Rattle.std.specs.declared.sync.Arc.{Arc}
use Rattle.pb_semantics.specs.Data.{Fields, no_fields, field, field_value, list}
use Rattle.pb_language.specs.Expression.{Name}
use Rattle.pb_language.specs.TaskForm.{has_key}
use Rattle.pb_value.proofs.Views.{view-List}
use Rattle.pb_value.specs.View.{view, items_view}
use Rattle.pb_value.specs.declared.value.Value as Value-of
use Rattle.pb_value.specs.declared.value.Value.{Value}
use Rattle.pb_value.specs.declared.weight.Weighed.{Weighed}

-- what a list in a value is
pub view-items : (v : Value) (items : Arc (Weighed (Vec Value Global)) Global) (own : List Value) → v ≡ Value-of.List items → own ≡ items.value.parts.items → view v ≡ list (items_view own)
view-items v items own is e = ap view is ∙ view-List items ∙ ap (λ vs. list (items_view vs)) (sym e)

-- a key is there where a value is found
pub has_key-found : (n : Name) (fs : Fields) → is_some (field_value n fs) ≡ has_key n fs
has_key-found n no_fields = refl
has_key-found n (field m d fs) = at (bytes_eq n m) (has_key-found n fs) where
  at : (q : Bool) → is_some (field_value n fs) ≡ has_key n fs → is_some (cond q (Some d) (field_value n fs)) ≡ q || has_key n fs
  at true rest = refl
  at false rest = rest
