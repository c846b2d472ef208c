-- Lists of expressions and of names that grow by one.
use denote.Ref.{Bor}
use Rattle.std.proofs.Common.{◌≡◌, ◌∙◌, ℕ, ◌+◌, ◌<◌, List, [], ◌∷◌, ◌++◌, length, get_or, take, map, String, Global, string_bytes, refl, sym, ap, append_assoc}
use Rattle.std.proofs.lemmas.List.{map-append, take_more}
use Rattle.pb_language.specs.Expression.{Expression, Expressions, expression, no_expressions}
use Rattle.pb_language.specs.Plays.{append_expressions}
use Rattle.pb_flow.specs.Nodes.{conditions_after}
use Rattle.pb_play.specs.declared.play.BlockHead.{BlockHead}
use Rattle.pb_syntax.specs.ExprView.{expr_view, exprs_of, exprs_view, parts_view}
use Rattle.pb_syntax.specs.declared.expr.Expr.{Expr}
use Rattle.pb_syntax.proofs.Bound.{parts-pushed}
use Rattle.pb_template.specs.declared.entry.Entry.{Entry}
use Rattle.pb_vars.specs.Borrowed.{borrowed_view}

pub exprs-both : (xs ys : List Expression) → exprs_of (xs ++ ys) ≡ append_expressions (exprs_of xs) (exprs_of ys)
exprs-both [] ys = refl
exprs-both (x ∷ xs) ys = ap (λ es. expression x es) (exprs-both xs ys)

-- one expression more
pub put-next : (old all new xs : List Expr) (i : ℕ) (x e : Expr) → i < length xs → x ≡ get_or xs i x → expr_view e ≡ expr_view x → new ≡ all ++ e ∷ []
    → map expr_view all ≡ map expr_view old ++ map expr_view (take i xs) → map expr_view new ≡ map expr_view old ++ map expr_view (take (i + 1) xs)
put-next old all new xs i x e lt at same put inv =
    ap (map expr_view) put ∙ map-append expr_view all (e ∷ []) ∙ ap (λ ys. ys ++ expr_view e ∷ []) inv ∙ append_assoc (map expr_view old) (map expr_view (take i xs)) (expr_view e ∷ [])
    ∙ ap (λ y. map expr_view old ++ (map expr_view (take i xs) ++ y ∷ [])) same ∙ ap (λ ys. map expr_view old ++ ys) (sym (map-append expr_view (take i xs) (x ∷ [])))
    ∙ ap (λ ys. map expr_view old ++ map expr_view ys) (ap (λ y. take i xs ++ y ∷ []) at ∙ sym (take_more xs i x lt))

pub put-whole : (old all xs : List Expr) → map expr_view all ≡ map expr_view old ++ map expr_view xs → exprs_view all ≡ append_expressions (exprs_view old) (exprs_view xs)
put-whole old all xs h = ap exprs_of h ∙ exprs-both (map expr_view old) (map expr_view xs)

-- the conditions of one block more
after-next : (es : Expressions) (bs : List BlockHead) (b : BlockHead) → conditions_after es (bs ++ b ∷ []) ≡ append_expressions (conditions_after es bs) (exprs_view b.when.items)
after-next es [] b = refl
after-next es (x ∷ bs) b = after-next (append_expressions es (exprs_view x.when.items)) bs b

pub round-next : (hs : List (Bor BlockHead)) (i : ℕ) (h : Bor BlockHead) (old new : Expressions) → i < length hs → h ≡ get_or hs i h → new ≡ append_expressions old (exprs_view h.now.when.items)
    → old ≡ conditions_after no_expressions (map (λ b. b.now) (take i hs)) → new ≡ conditions_after no_expressions (map (λ b. b.now) (take (i + 1) hs))
round-next hs i h old new lt at put inv =
    put ∙ ap (λ es. append_expressions es (exprs_view h.now.when.items)) inv ∙ sym (after-next no_expressions (map (λ b. b.now) (take i hs)) h.now)
    ∙ ap (conditions_after no_expressions) (sym (map-append (λ (b : Bor BlockHead). b.now) (take i hs) (h ∷ [])) ∙ ap (map (λ b. b.now)) (ap (λ y. take i hs ++ y ∷ []) at ∙ sym (take_more hs i h lt)))

-- names of `vars` with their values
abbrev pub named_entries : List (Bor Entry) → List (String Global × Expr)
named_entries es = map (λ e. (e.now.name.value, e.now.value)) es

pub names-view : (es : List (Bor Entry)) → parts_view (named_entries es) ≡ borrowed_view es
names-view [] = refl
names-view (e ∷ es) = rw (names-view es) refl

pub name-next : (es : List (Bor Entry)) (i : ℕ) (e : Bor Entry) (names new : List (String Global × Expr)) (k : String Global) (v : Expr) → i < length es → e ≡ get_or es i e
    → string_bytes k ≡ string_bytes e.now.name.value → expr_view v ≡ expr_view e.now.value → new ≡ names ++ (k, v) ∷ []
    → parts_view names ≡ parts_view (named_entries (take i es)) → parts_view new ≡ parts_view (named_entries (take (i + 1) es))
name-next es i e names new k v lt at name value put inv =
    let x : String Global × Expr = (e.now.name.value, e.now.value) in
    ap parts_view put ∙ parts-pushed names (named_entries (take i es)) (k, v) x inv name value
    ∙ ap parts_view (sym (map-append (λ (b : Bor Entry). (b.now.name.value, b.now.value)) (take i es) (e ∷ [])) ∙ ap named_entries (ap (λ y. take i es ++ y ∷ []) at ∙ sym (take_more es i e lt)))
