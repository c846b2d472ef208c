-- What is found of expressions, and of the trees of names of `vars`.
use Rattle.std.specs.Prelude.{◌≡◌, List, [], ◌∷◌, Option, Some, None, String, string_bytes}
use Rattle.std.specs.declared.alloc.Global.{Global}
use Rattle.pb_language.specs.Expression.{Expression, Expressions, no_expressions, expression}
use Rattle.pb_language.specs.Fit.{fault}
use Rattle.pb_language.specs.Kinds.{kind_of}
use Rattle.pb_language.specs.Scope.{Scope}
use Rattle.pb_kind.specs.KindView.{kind_view}
use Rattle.pb_syntax.specs.Aliases.{Trees}
use Rattle.pb_taught.specs.Before.{Before}
use Rattle.pb_forms.specs.InferredView.{fault_in}
use Rattle.pb_taught.specs.TaughtView.{scope_view}
use Rattle.pb_expr.specs.declared.asked.Asked.{Asked}
use Rattle.pb_expr.specs.declared.asked.Ways.{Ways}
use Rattle.pb_forms.specs.declared.inferred.Inferred.{Inferred}
use Rattle.pb_taught.specs.declared.scope.Taught.{Taught}

-- its kind, and its first fault
abbrev pub IsFound : Scope → Expression → Inferred → Type 0
IsFound c e i = (kind_view i.kind ≡ kind_of c e) × (fault_in i ≡ fault c e)

-- of each of them, in their order
abbrev pub AreFound : Scope → Expressions → List Inferred → Type 0
AreFound c no_expressions [] = Unit {0}
AreFound c (expression e es) (i ∷ is) = IsFound c e i × AreFound c es is
AreFound c es is = ⊥

-- of the tree of a name, where it has one
abbrev pub IsFoundOf : Scope → Option Expression → Inferred → Type 0
IsFoundOf c None i = Unit {0}
IsFoundOf c (Some e) i = IsFound c e i

abbrev pub AreRight : Scope → Trees → List (String Global × Inferred) → Type 0
AreRight c f [] = Unit {0}
AreRight c f (x ∷ xs) = IsFoundOf c (f (string_bytes x.0)) x.1 × AreRight c f xs

-- what was asked where that is taught was found there
abbrev pub IsRight : Before → Taught → Asked → Type 0
IsRight b t a = AreRight (scope_view b t) b.trees a.found.entries

pub record AreRightWays (b : Before) (w : Ways) : Type 0 where
  pub holds : IsRight b w.holds.taught w.holds.asked
  pub fails : IsRight b w.fails.taught w.fails.asked
