-- The slots of variables, and those at which the paths of a tree look.
use Rattle.std.specs.Prelude.{List, [], ◌∷◌, ◌++◌, flat_map, ℕ, Option, None}
use Rattle.pb_language.specs.Expression.{Name, Root, variable, alias, other, member}
use Rattle.pb_syntax.specs.ExprView.{root_view}
use Rattle.pb_syntax.specs.declared.expr.Path.{Path}
use Rattle.pb_syntax.specs.declared.expr.Expr.{Expr, fold-Expr}
use Rattle.pb_syntax.specs.declared.expr.Expr.TheOpen.{Expr-F}

-- the slot of each variable that has one: of the host that reads, where a name of `vars` has none,
-- and of the other hosts
pub record Slots : Type 0 where
  pub own : Name → Option ℕ
  pub other : Name → Option ℕ

abbrev pub slot_of : Slots → Root → Option ℕ
slot_of s (variable n) = s.own n
slot_of s (alias n e) = None
slot_of s (other t x) = s.other x
slot_of s (member g i) = None

-- one level, with what each expression inside has of its paths
abbrev pub paths_step : {D : Type 0} → (Path → D) → Expr-F (List D) → List D
paths_step f (Expr-F.Literal v) = []
paths_step f (Expr-F.Path p) = f p ∷ []
paths_step f (Expr-F.Hostvars t) = []
paths_step f (Expr-F.Not b) = b.value
paths_step f (Expr-F.And v) = flat_map (λ xs. xs) v.items
paths_step f (Expr-F.Or v) = flat_map (λ xs. xs) v.items
paths_step f (Expr-F.Compare c a b) = a.value ++ b.value
paths_step f (Expr-F.In a b) = a.value ++ b.value
paths_step f (Expr-F.InBatch t) = []
paths_step f (Expr-F.Defined p) = f p ∷ []
paths_step f (Expr-F.Undefinable b) = b.value
paths_step f (Expr-F.PathStatus s p) = f p ∷ []
paths_step f (Expr-F.Status s b) = b.value
paths_step f (Expr-F.PathOr p b) = f p ∷ b.value
paths_step f (Expr-F.ValueOr a b) = a.value ++ b.value
paths_step f (Expr-F.Length b) = b.value
paths_step f (Expr-F.Join a b) = a.value ++ b.value
paths_step f (Expr-F.Concat v) = flat_map (λ xs. xs) v.items
paths_step f (Expr-F.List v) = flat_map (λ xs. xs) v.items
paths_step f (Expr-F.Record m) = flat_map (λ e. e.1) m.entries

-- what each path of the tree has, from left to right
abbrev pub over_paths : {D : Type 0} → (Path → D) → Expr → List D
over_paths {D} f = fold-Expr (List D) (paths_step f)

-- the slots at which its paths look, and those that their roots have
abbrev pub slots_read : Expr → List (Option ℕ)
slots_read = over_paths (λ p. p.slot)

abbrev pub slots_given : Slots → Expr → List (Option ℕ)
slots_given s = over_paths (λ p. slot_of s (root_view p.root))
