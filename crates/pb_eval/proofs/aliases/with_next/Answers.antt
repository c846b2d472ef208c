use Rattle.std.proofs.Common.{◌≡◌, ℕ, ◌+◌, ◌<◌, List, [], ◌∷◌, ◌++◌, length, get_or, take, String, Global, string_bytes, sym, ap, ◌∙◌, subst, add-one}
use Rattle.std.proofs.Math.Seq.{take-suc}
use Rattle.pb_semantics.specs.Data.{Data, Fields, put_field}
use Rattle.pb_language.specs.Expansion.{expanded}
use Rattle.pb_language.specs.World.{World}
use Rattle.pb_language.specs.Evaluation.{eval}
use Rattle.pb_value.specs.View.{view, fields_view}
use Rattle.pb_syntax.specs.ExprView.{expr_view, parts_view}
use Rattle.pb_syntax.specs.declared.expr.Expr.{Expr}
use Rattle.pb_syntax.specs.Aliases.{Trees, no_trees, with_tree, trees_in}
use Rattle.pb_eval.specs.Worth.{AreWorth}
use Rattle.pb_eval.specs.OwnWorld.{shown}
use Rattle.pb_eval.proofs.Trees.{worth-put, trees-last}
use Rattle.pb_eval.proofs.aliases.with_next.Goals as goal

worth-next : (w : World) (xs : List (String Global × Expr)) (i : ℕ) (x : String Global × Expr) (fs : Fields) (d : Data) → i < length xs → x ≡ get_or xs i x
    → AreWorth w (trees_in (parts_view (take i xs))) fs → d ≡ shown (eval w (expanded (trees_in (parts_view (take i xs))) (expr_view x.1)))
    → AreWorth w (trees_in (parts_view (take (i + 1) xs))) (put_field (string_bytes x.0) d fs)
worth-next w xs i x fs d lt is h told =
    let f : Trees = trees_in (parts_view (take i xs)) in
    let more : take (i + 1) xs ≡ take i xs ++ x ∷ [] = rw add-one (take-suc xs i x lt ∙ ap (λ y. take i xs ++ y ∷ []) (sym is)) in
    let grown : trees_in (parts_view (take (i + 1) xs)) ≡ with_tree f (string_bytes x.0) (expanded f (expr_view x.1)) =
    ap (λ ys. trees_in (parts_view ys)) more ∙ trees-last no_trees (take i xs) x in
    subst (λ (g : Trees). AreWorth w g (put_field (string_bytes x.0) d fs)) (sym grown)
    (worth-put w f fs (string_bytes x.0) (expanded f (expr_view x.1)) d h told)

pub invariant_of-result : goal.invariant_of-result
invariant_of-result g c =
    let w = g.V.Vars.world c.known.inside.world.now in
    let xs = c.args.names.now in
    let x = c.index-names-place.result in
    let d = view c.in_ok-worth.worth in
    let fs = fields_view c.known.inside.values.entries in
    let asked = c.requires.known in
    let worth = c.in_ok-worth.ensures in
    let same : c.known.inside.names.now ≡ take c.args.place xs = rw (← c.known.view_is) at asked in
    let told : d ≡ shown (eval w (expanded (trees_in (parts_view c.known.inside.names.now)) (expr_view x.1))) = rw (← c.known.view_is) at worth in
    let stored : fields_view c.put_field.new.fields.entries ≡ put_field (string_bytes x.0) d fs =
    c.in_ok-put_field.ensures ∙ ap (λ (n : List ℕ). put_field n d fs) c.in_ok-clone.ensures.cases in
    subst (λ (more : Fields). AreWorth w (trees_in (parts_view (take (c.args.place + 1) xs))) more) (sym stored)
    (worth-next w xs c.args.place x fs d c.requires.place c.index-names-place.is
    (subst (λ (ys : List (String Global × Expr)). AreWorth w (trees_in (parts_view ys)) fs) same c.known.invariant)
    (told ∙ ap (λ (ys : List (String Global × Expr)). shown (eval w (expanded (trees_in (parts_view ys)) (expr_view x.1)))) same))
