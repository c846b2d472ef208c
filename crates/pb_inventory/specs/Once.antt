-- Where a test tells which values are the same, they are so in one way at most: for ghost fields.
use Rattle.std.specs.Prelude.{◌≡◌, Bool, Some, true}
use mathlib.Core.Bool.{Bool-set}
use mathlib.Core.HLevel.{collapsible→set}
use mathlib.Core.Path.{◌∙◌, ap}
use Rattle.pb_semantics.specs.Data.{Data, Fields, rec}
use Rattle.pb_language.specs.Expression.{Expression, literal}
use Rattle.pb_language.specs.Inventories.{record_fields}
use Rattle.pb_language.specs.Same.{same_data, same_expression}

-- two values are the same in one way at most, where those that the test tells to be the same are,
-- and it tells it of each value and itself
pub told_set : {A : Type 0} {told : A → A → Bool} → ((x y : A) → told x y ≡ true → x ≡ y)
    → ((x : A) → told x x ≡ true) → IsSet A
told_set {A} {told} is own =
    let same : (x y : A) → x ≡ y → told x y ≡ true = λ x y p. ap (λ z. told z y) p ∙ own y in
    collapsible→set (λ x y p. is x y (same x y p))
    (λ x y p q. ap (is x y) (Bool-set (told x y) true (same x y p) (same x y q)))

-- variables, where it is told of values, and of values as expressions
pub fields_set : ((d e : Data) → same_data d e ≡ true → d ≡ e)
    → ((e : Expression) → same_expression e e ≡ true) → IsSet Fields
fields_set is own = told_set {told = λ fs gs. same_data (rec fs) (rec gs)}
    (λ fs gs h. ap (λ d. record_fields (Some d)) (is (rec fs) (rec gs) h))
    (λ fs. own (literal (rec fs)))
