-- What is known stays as it is after an expression that teaches nothing.
use Rattle.std.proofs.Common.{◌≡◌, Bool, true, false, not, refl, ap, ◌∙◌}
use Rattle.pb_semantics.proofs.Bools.{neither-left, neither-right}
use Rattle.pb_language.specs.Expression.{Expression, negation, conjunction, disjunction, in_batch, defined, path_status, Expressions, no_expressions, expression}
use Rattle.pb_language.specs.Scope.{Scope}
use Rattle.pb_language.specs.Narrow.{teaches, any_teaches, where_taught, narrow, narrow_each, narrow_some}

where_untaught : (q : Bool) (c d : Scope) → q ≡ false → where_taught q d c ≡ c
where_untaught true c d h = absurd (cc h)
where_untaught false c d h = refl

mutual
  pub narrow_untaught : (e : Expression) (c : Scope) (b : Bool) → teaches e ≡ false → narrow c e b ≡ c
  narrow_untaught (negation e) c b h = narrow_untaught e c (not b) h
  narrow_untaught (conjunction es) c true h = narrow_each_untaught es c true h
  narrow_untaught (conjunction es) c false h = where_untaught (any_teaches es) c (narrow_some c es false) h
  narrow_untaught (disjunction es) c true h = where_untaught (any_teaches es) c (narrow_some c es true) h
  narrow_untaught (disjunction es) c false h = narrow_each_untaught es c false h
  narrow_untaught (in_batch t) c b h = absurd (cc h)
  narrow_untaught (defined r ns) c b h = absurd (cc h)
  narrow_untaught (path_status s r ns) c b h = absurd (cc h)
  narrow_untaught e c b h = refl

  pub narrow_each_untaught : (es : Expressions) (c : Scope) (b : Bool) → any_teaches es ≡ false → narrow_each c es b ≡ c
  narrow_each_untaught no_expressions c b h = refl
  narrow_each_untaught (expression e es) c b h =
      ap (λ d. narrow_each d es b) (narrow_untaught e c b (neither-left (teaches e) (any_teaches es) h))
      ∙ narrow_each_untaught es c b (neither-right (teaches e) (any_teaches es) h)
