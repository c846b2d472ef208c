-- Texts that are made of others, from the first to the last.
use Rattle.std.proofs.Common.{◌≡◌, ℕ, ◌+◌, ◌<◌, ◌≤◌, List, [], ◌++◌, length, get_or, drop, Bool, true, false, cond, refl, sym, ap, ◌∙◌, append_assoc}
use Rattle.std.proofs.lemmas.List.{append-nil, drop_all}
use Rattle.pb_semantics.specs.Data.{Data, Items, text, opaque, no_items, item}
use Rattle.pb_semantics.specs.Render.{is_plain, rendered}
use Rattle.pb_language.specs.Expansion.{expanded, all_expanded}
use Rattle.pb_language.specs.Expression.{Expressions, no_expressions, expression}
use Rattle.pb_language.specs.World.{World}
use Rattle.pb_language.specs.Evaluation.{Outcome, value, stuck, wrong_sort, then_go, plain_text, with_text, joined_items, eval, eval_text}
use Rattle.pb_value.specs.View.{view, items_view}
use Rattle.pb_value.specs.declared.value.Value.{Value}
use Rattle.pb_syntax.specs.ExprView.{expr_view, exprs_view}
use Rattle.pb_syntax.specs.Aliases.{Trees}
use Rattle.pb_eval.specs.OwnWorld.{shown}
use Rattle.pb_syntax.specs.declared.expr.Expr.{Expr}
use Rattle.pb_syntax.proofs.Left.{drop-at}

-- a text before the rest of it
abbrev pub after_text : List ℕ → Outcome → Outcome
after_text s o = then_go o (with_text s)

after_text-append : (s t : List ℕ) (o : Outcome) → after_text s (after_text t o) ≡ after_text (s ++ t) o
after_text-append s t (stuck e) = refl
after_text-append s t (value (text u)) = ap (λ x. value (text x)) (sym (append_assoc s t u))
after_text-append s t (value d) = refl

after_text-nil : (s : List ℕ) (o : Outcome) → after_text [] (after_text s o) ≡ after_text s o
after_text-nil s (stuck e) = refl
after_text-nil s (value (text u)) = refl
after_text-nil s (value d) = refl

-- a plain value's text before the rest
abbrev put : Data → Outcome → Outcome
put d o = plain_text d (λ t. after_text t o)

chosen-nil : (b : Bool) (o : Outcome) → after_text [] o ≡ o → after_text [] (cond b o (stuck wrong_sort)) ≡ cond b o (stuck wrong_sort)
chosen-nil true o h = h
chosen-nil false o h = refl

put-nil : (d : Data) (o : Outcome) → after_text [] (put d o) ≡ put d o
put-nil d o = chosen-nil (is_plain d) (after_text (rendered d) o) (after_text-nil (rendered d) o)

put-plain : (d : Data) (o : Outcome) → is_plain d ≡ true → put d o ≡ after_text (rendered d) o
put-plain d o plain = ap (λ b. cond b (after_text (rendered d) o) (stuck wrong_sort)) plain

put-spoilt : (d : Data) (o : Outcome) → is_plain d ≡ false → put d o ≡ stuck wrong_sort
put-spoilt d o spoilt = ap (λ b. cond b (after_text (rendered d) o) (stuck wrong_sort)) spoilt

-- the parts of a template
part-nil : (o p : Outcome) → after_text [] (then_go o (λ d. put d p)) ≡ then_go o (λ d. put d p)
part-nil (stuck e) p = refl
part-nil (value d) p = put-nil d p

pub concat-first : (w : World) (es : Expressions) → after_text [] (eval_text w es) ≡ eval_text w es
concat-first w no_expressions = refl
concat-first w (expression e es) = part-nil (eval w e) (eval_text w es)

part-turn : (s : List ℕ) (d : Data) (o p : Outcome) → d ≡ shown o → is_plain d ≡ true → after_text s (then_go o (λ x. put x p)) ≡ after_text (s ++ rendered d) p
part-turn s d (stuck e) p told plain = cc
part-turn s d (value x) p told plain =
    ap (after_text s) (put-plain x p (ap is_plain (sym told) ∙ plain)) ∙ after_text-append s (rendered x) p ∙ ap (λ y. after_text (s ++ rendered y) p) (sym told)

part-spoilt : (s : List ℕ) (d : Data) (o p : Outcome) → d ≡ shown o → is_plain d ≡ false → shown (after_text s (then_go o (λ x. put x p))) ≡ opaque
part-spoilt s d (stuck e) p told spoilt = refl
part-spoilt s d (value x) p told spoilt = ap (λ o. shown (after_text s o)) (put-spoilt x p (ap is_plain (sym told) ∙ spoilt))

pub concat-turn : (w : World) (f : Trees) (es : List Expr) (s : List ℕ) (i : ℕ) (e : Expr) (v : Value) → i < length es → e ≡ get_or es i e → view v ≡ shown (eval w (expanded f (expr_view e))) → is_plain (view v) ≡ true
    → after_text s (eval_text w (all_expanded f (exprs_view (drop i es)))) ≡ after_text (s ++ rendered (view v)) (eval_text w (all_expanded f (exprs_view (drop (i + 1) es))))
concat-turn w f es s i e v lt is told plain =
    ap (λ xs. after_text s (eval_text w (all_expanded f (exprs_view xs)))) (drop-at es i e lt is)
    ∙ part-turn s (view v) (eval w (expanded f (expr_view e))) (eval_text w (all_expanded f (exprs_view (drop (i + 1) es)))) told plain

pub concat-spoilt : (w : World) (f : Trees) (es : List Expr) (s : List ℕ) (i : ℕ) (e : Expr) (v : Value) → i < length es → e ≡ get_or es i e → view v ≡ shown (eval w (expanded f (expr_view e))) → is_plain (view v) ≡ false
    → shown (after_text s (eval_text w (all_expanded f (exprs_view (drop i es))))) ≡ opaque
concat-spoilt w f es s i e v lt is told spoilt =
    ap (λ xs. shown (after_text s (eval_text w (all_expanded f (exprs_view xs))))) (drop-at es i e lt is)
    ∙ part-spoilt s (view v) (eval w (expanded f (expr_view e))) (eval_text w (all_expanded f (exprs_view (drop (i + 1) es)))) told spoilt

pub concat-done : (w : World) (f : Trees) (es : List Expr) (s : List ℕ) (i : ℕ) → length es ≤ i → shown (after_text s (eval_text w (all_expanded f (exprs_view (drop i es))))) ≡ text s
concat-done w f es s i past = ap (λ xs. shown (after_text s (eval_text w (all_expanded f (exprs_view xs))))) (drop_all i es past) ∙ ap text (append-nil s)

-- the items of a list, of which the next has that text before it
abbrev pub led : List ℕ → List ℕ → Items → Outcome
led s before no_items = value (text [])
led s before (item d ds) = after_text before (joined_items s (item d ds))

joined-item : (s : List ℕ) (d : Data) (ds : Items) → joined_items s (item d ds) ≡ put d (led s s ds)
joined-item s d no_items = ap (λ t. cond (is_plain d) (value (text t)) (stuck wrong_sort)) (sym (append-nil (rendered d)))
joined-item s d (item e ds) = ap (λ o. cond (is_plain d) o (stuck wrong_sort)) (sym (after_text-append (rendered d) s (joined_items s (item e ds))))

pub joined-first : (s : List ℕ) (ds : Items) → after_text [] (led s [] ds) ≡ joined_items s ds
joined-first s no_items = refl
joined-first s (item d ds) =
    after_text-append [] [] (joined_items s (item d ds)) ∙ ap (after_text []) (joined-item s d ds) ∙ put-nil d (led s s ds) ∙ sym (joined-item s d ds)

pub joined-turn : (s t before : List ℕ) (vs : List Value) (i : ℕ) (v : Value) → i < length vs → v ≡ get_or vs i v → is_plain (view v) ≡ true
    → after_text t (led s before (items_view (drop i vs))) ≡ after_text ((t ++ before) ++ rendered (view v)) (led s s (items_view (drop (i + 1) vs)))
joined-turn s t before vs i v lt is plain =
    let rest = items_view (drop (i + 1) vs) in
    ap (λ xs. after_text t (led s before (items_view xs))) (drop-at vs i v lt is)
    ∙ after_text-append t before (joined_items s (item (view v) rest))
    ∙ ap (after_text (t ++ before)) (joined-item s (view v) rest ∙ put-plain (view v) (led s s rest) plain)
    ∙ after_text-append (t ++ before) (rendered (view v)) (led s s rest)

pub joined-spoilt : (s t before : List ℕ) (vs : List Value) (i : ℕ) (v : Value) → i < length vs → v ≡ get_or vs i v → is_plain (view v) ≡ false
    → shown (after_text t (led s before (items_view (drop i vs)))) ≡ opaque
joined-spoilt s t before vs i v lt is spoilt =
    let rest = items_view (drop (i + 1) vs) in
    ap (λ xs. shown (after_text t (led s before (items_view xs)))) (drop-at vs i v lt is)
    ∙ ap (λ o. shown (after_text t (after_text before o))) (joined-item s (view v) rest ∙ put-spoilt (view v) (led s s rest) spoilt)

pub joined-done : (s t before : List ℕ) (vs : List Value) (i : ℕ) → length vs ≤ i → shown (after_text t (led s before (items_view (drop i vs)))) ≡ text t
joined-done s t before vs i past = ap (λ xs. shown (after_text t (led s before (items_view xs)))) (drop_all i vs past) ∙ ap text (append-nil t)
