-- The layers of values and of expressions.
use Rattle.std.proofs.Common.{◌≡◌, Bool, Box, Vec, Global, rules}
use Rattle.pb_semantics.specs.Data.{boolean, opaque}
use Rattle.pb_language.specs.Expression.{literal, path, negation, conjunction, disjunction, comparison, membership, undefinable, path_status, value_status, path_or, value_or, length_of, joined_by, concatenation, list_of}
use Rattle.pb_value.specs.View.{view}
use Rattle.pb_value.specs.declared.value.Value as Value-of
use Rattle.pb_value.specs.declared.value.Value.{Value, the_lemmas as value_lemmas}
use Rattle.pb_syntax.specs.ExprView.{expr_view, exprs_view, names_of, comparison_view, root_view, status_view}
use Rattle.pb_syntax.specs.declared.expr.Expr.{Expr, the_lemmas}
use Rattle.pb_syntax.specs.declared.expr.Expr as Expr-of
use Rattle.pb_syntax.specs.declared.expr.Comparison.{Comparison}
use Rattle.pb_syntax.specs.declared.expr.Path.{Path}
use Rattle.pb_syntax.specs.declared.expr.Status.{Status}

pub view-Bool : (b : Bool) → view (Value-of.Bool b) ≡ boolean b
view-Bool b = search (rules, value_lemmas)

pub view-Opaque : view Value-of.Opaque ≡ opaque
view-Opaque = search (rules, value_lemmas)

pub view-Not : (b : Box Expr Global) → expr_view (Expr-of.Not b) ≡ negation (expr_view b.value)
view-Not b = search (rules, the_lemmas)

pub view-Concat : (v : Vec Expr Global) → expr_view (Expr-of.Concat v) ≡ concatenation (exprs_view v.items)
view-Concat v = search (rules, the_lemmas)

pub view-And : (v : Vec Expr Global) → expr_view (Expr-of.And v) ≡ conjunction (exprs_view v.items)
view-And v = search (rules, the_lemmas)

pub view-Or : (v : Vec Expr Global) → expr_view (Expr-of.Or v) ≡ disjunction (exprs_view v.items)
view-Or v = search (rules, the_lemmas)

pub view-List : (v : Vec Expr Global) → expr_view (Expr-of.List v) ≡ list_of (exprs_view v.items)
view-List v = search (rules, the_lemmas)

pub view-Path : (p : Path) → expr_view (Expr-of.Path p) ≡ path (root_view p.root) (names_of p.steps.items)
view-Path p = search (rules, the_lemmas)

pub view-Literal : (v : Value) → expr_view (Expr-of.Literal v) ≡ literal (view v)
view-Literal v = search (rules, the_lemmas)

pub view-Compare : (c : Comparison) (a b : Box Expr Global) → expr_view (Expr-of.Compare c a b) ≡ comparison (comparison_view c) (expr_view a.value) (expr_view b.value)
view-Compare c a b = search (rules, the_lemmas)

pub view-Undefinable : (b : Box Expr Global) → expr_view (Expr-of.Undefinable b) ≡ undefinable (expr_view b.value)
view-Undefinable b = search (rules, the_lemmas)

pub view-Status : (s : Status) (b : Box Expr Global) → expr_view (Expr-of.Status s b) ≡ value_status (status_view s) (expr_view b.value)
view-Status s b = search (rules, the_lemmas)

pub view-PathOr : (p : Path) (b : Box Expr Global) → expr_view (Expr-of.PathOr p b) ≡ path_or (root_view p.root) (names_of p.steps.items) (expr_view b.value)
view-PathOr p b = search (rules, the_lemmas)

pub view-ValueOr : (a b : Box Expr Global) → expr_view (Expr-of.ValueOr a b) ≡ value_or (expr_view a.value) (expr_view b.value)
view-ValueOr a b = search (rules, the_lemmas)

pub view-Length : (b : Box Expr Global) → expr_view (Expr-of.Length b) ≡ length_of (expr_view b.value)
view-Length b = search (rules, the_lemmas)

pub view-Join : (a b : Box Expr Global) → expr_view (Expr-of.Join a b) ≡ joined_by (expr_view a.value) (expr_view b.value)
view-Join a b = search (rules, the_lemmas)

pub view-In : (a b : Box Expr Global) → expr_view (Expr-of.In a b) ≡ membership (expr_view a.value) (expr_view b.value)
view-In a b = search (rules, the_lemmas)

pub view-PathStatus : (s : Status) (p : Path) → expr_view (Expr-of.PathStatus s p) ≡ path_status (status_view s) (root_view p.root) (names_of p.steps.items)
view-PathStatus s p = search (rules, the_lemmas)
