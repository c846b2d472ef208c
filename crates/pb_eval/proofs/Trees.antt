-- Names of `vars` beside what their trees are worth.
use Rattle.std.proofs.Common.{◌≡◌, List, [], ◌∷◌, ◌++◌, Bool, true, false, cond, Option, Some, None, String, Global, string_bytes, refl, ap, ◌∙◌}
use Rattle.std.specs.Str.{bytes_eq}
use Rattle.pb_semantics.specs.Data.{Data, Fields, field_value, put_field}
use Rattle.pb_language.specs.Expression.{Name, Expression}
use Rattle.pb_language.specs.Expansion.{expanded, root_named}
use Rattle.pb_language.specs.World.{World}
use Rattle.pb_language.specs.Evaluation.{Outcome, value, stuck, eval, look, found, readable}
use Rattle.pb_language.proofs.GivenFields.{at_put_field}
use Rattle.pb_syntax.proofs.Aliases.{no-names}
use Rattle.pb_syntax.specs.ExprView.{expr_view, parts_view}
use Rattle.pb_syntax.specs.declared.expr.Expr.{Expr}
use Rattle.pb_syntax.specs.Aliases.{Trees, no_trees, with_tree, trees_after}
use Rattle.pb_eval.specs.Worth.{worth_of, AreWorth}
use Rattle.pb_eval.specs.OwnWorld.{shown, end_of}

pub no-names-worth : (w : World) (e : Expression) → shown (eval w (expanded no_trees e)) ≡ shown (eval w e)
no-names-worth w e = ap (λ x. shown (eval w x)) (no-names e)

-- what may be read of a tree's outcome, beside what stands for that outcome
readable-shown : (ns : List Name) (o : Outcome) (d : Data) → d ≡ shown o → end_of ns (readable (value d)) ≡ end_of ns (readable o)
readable-shown ns (value x) d h = ap (λ y. end_of ns (readable (value y))) h
readable-shown ns (stuck s) d h = ap (λ y. end_of ns (readable (value y))) h

-- a name of `vars`, and one that is none
pub alias-there : (w : World) (n : Name) (ns : List Name) (t : Option Expression) (d : Data) → Some d ≡ worth_of w t
    → end_of ns (readable (value d)) ≡ end_of ns (look w (root_named n t))
alias-there w n ns None d h = absurd (cc)
alias-there w n ns (Some e) d h = let told : d ≡ shown (eval w e) = cc in readable-shown ns (eval w e) d told

pub alias-none : (w : World) (n : Name) (t : Option Expression) → None ≡ worth_of w t → found (field_value n w.mine) ≡ look w (root_named n t)
alias-none w n None h = refl
alias-none w n (Some e) h = absurd (cc)

-- one name more
chosen-worth : (w : World) (b : Bool) (x : Option Data) (t : Option Expression) (e : Expression) (d : Data) → x ≡ worth_of w t → d ≡ shown (eval w e)
    → cond b (Some d) x ≡ worth_of w (cond b (Some e) t)
chosen-worth w true x t e d h told = ap Some told
chosen-worth w false x t e d h told = h

pub worth-put : (w : World) (f : Trees) (fs : Fields) (n : Name) (e : Expression) (d : Data) → AreWorth w f fs → d ≡ shown (eval w e) → AreWorth w (with_tree f n e) (put_field n d fs)
worth-put w f fs n e d h told = λ m. at_put_field m n d fs ∙ chosen-worth w (bytes_eq m n) (field_value m fs) (f m) e d (h m) told

pub trees-last : (f : Trees) (xs : List (String Global × Expr)) (x : String Global × Expr)
    → trees_after f (parts_view (xs ++ x ∷ [])) ≡ with_tree (trees_after f (parts_view xs)) (string_bytes x.0) (expanded (trees_after f (parts_view xs)) (expr_view x.1))
trees-last f [] x = refl
trees-last f (y ∷ xs) x = trees-last (with_tree f (string_bytes y.0) (expanded f (expr_view y.1))) xs x
