-- The expression that an `Expr` stands for.
use Rattle.std.specs.Prelude.{List, [], ◌∷◌, map, option_map, String, string_bytes}
use Rattle.std.specs.declared.alloc.Global.{Global}
use Rattle.pb_language.specs.Expression.{Name, Comparison, equal, less, at_most, more, at_least}
use Rattle.pb_language.specs.Expression.{Status, is_failed, is_changed, is_skipped, Term}
use Rattle.pb_language.specs.Expression.{named_host, this_host, item_host, group_member, Expression}
use Rattle.pb_language.specs.Expression.{literal, path, hostvars_alone, negation, conjunction}
use Rattle.pb_language.specs.Expression.{disjunction, comparison, membership, in_batch, defined}
use Rattle.pb_language.specs.Expression.{undefinable, path_status, value_status, path_or, value_or}
use Rattle.pb_language.specs.Expression.{length_of, joined_by, concatenation, list_of, record_of}
use Rattle.pb_language.specs.Expression.{Root, variable, other, member, Expressions}
use Rattle.pb_language.specs.Expression.{no_expressions, expression, Parts, no_parts, part}
use Rattle.pb_value.specs.View.{view}
use Rattle.pb_syntax.specs.declared.expr.Comparison.{Comparison as WrittenComparison}
use Rattle.pb_syntax.specs.declared.expr.Comparison.TheVariants as comparisons
use Rattle.pb_syntax.specs.declared.expr.Status.{Status as WrittenStatus}
use Rattle.pb_syntax.specs.declared.expr.Status.TheVariants as statuses
use Rattle.pb_syntax.specs.declared.expr.Term.{Term as WrittenTerm}
use Rattle.pb_syntax.specs.declared.expr.Term.TheVariants as terms
use Rattle.pb_syntax.specs.declared.expr.Root.{Root as WrittenRoot}
use Rattle.pb_syntax.specs.declared.expr.Root.TheVariants as roots
use Rattle.pb_syntax.specs.declared.expr.Expr.{Expr, fold-Expr}
use Rattle.pb_syntax.specs.declared.expr.Expr.TheOpen.{Expr-F}

abbrev pub exprs_of : List Expression → Expressions
exprs_of [] = no_expressions
exprs_of (e ∷ es) = expression e (exprs_of es)

abbrev pub parts_of : List (String Global × Expression) → Parts
parts_of [] = no_parts
parts_of (m ∷ ms) = part (string_bytes m.0) m.1 (parts_of ms)

abbrev pub names_of : List (String Global) → List Name
names_of ns = map (λ n. string_bytes n) ns

abbrev pub comparison_view : WrittenComparison → Comparison
comparison_view comparisons.Equal = equal
comparison_view comparisons.Less = less
comparison_view comparisons.AtMost = at_most
comparison_view comparisons.More = more
comparison_view comparisons.AtLeast = at_least

abbrev pub status_view : WrittenStatus → Status
status_view statuses.Failed = is_failed
status_view statuses.Changed = is_changed
status_view statuses.Skipped = is_skipped

abbrev pub term_view : WrittenTerm → Term
term_view (terms.Named n) = named_host (string_bytes n)
term_view terms.This = this_host
term_view terms.Item = item_host
term_view (terms.Member m) = group_member (string_bytes m.group) m.place

abbrev pub root_view : WrittenRoot → Root
root_view (roots.Variable n) = variable (string_bytes n)
root_view (roots.Other t x) = other (term_view t) (string_bytes x)
root_view (roots.Member m) = member (string_bytes m.group) m.place

-- one level, with each expression inside already seen as what it stands for
abbrev pub expr_step : Expr-F Expression → Expression
expr_step (Expr-F.Literal v) = literal (view v)
expr_step (Expr-F.Path p) = path (root_view p.root) (names_of p.steps.items)
expr_step (Expr-F.Hostvars t) = hostvars_alone (option_map term_view t)
expr_step (Expr-F.Not b) = negation b.value
expr_step (Expr-F.And v) = conjunction (exprs_of v.items)
expr_step (Expr-F.Or v) = disjunction (exprs_of v.items)
expr_step (Expr-F.Compare c a b) = comparison (comparison_view c) a.value b.value
expr_step (Expr-F.In a b) = membership a.value b.value
expr_step (Expr-F.InBatch t) = in_batch (term_view t)
expr_step (Expr-F.Defined p) = defined (root_view p.root) (names_of p.steps.items)
expr_step (Expr-F.Undefinable b) = undefinable b.value
expr_step (Expr-F.PathStatus s p) =
    path_status (status_view s) (root_view p.root) (names_of p.steps.items)
expr_step (Expr-F.Status s b) = value_status (status_view s) b.value
expr_step (Expr-F.PathOr p b) = path_or (root_view p.root) (names_of p.steps.items) b.value
expr_step (Expr-F.ValueOr a b) = value_or a.value b.value
expr_step (Expr-F.Length b) = length_of b.value
expr_step (Expr-F.Join a b) = joined_by a.value b.value
expr_step (Expr-F.Concat v) = concatenation (exprs_of v.items)
expr_step (Expr-F.List v) = list_of (exprs_of v.items)
expr_step (Expr-F.Record m) = record_of (parts_of m.entries)

abbrev pub expr_view : Expr → Expression
expr_view = fold-Expr Expression expr_step

abbrev pub exprs_view : List Expr → Expressions
exprs_view es = exprs_of (map expr_view es)

abbrev pub parts_view : List (String Global × Expr) → Parts
parts_view ms = parts_of (map (λ m. (m.0, expr_view m.1)) ms)
