-- One turn of a loop over the parts of an expression, and its end.
use Rattle.std.proofs.Common.{◌≡◌, ℕ, suc, ◌+◌, ◌<◌, ◌≤◌, List, [], ◌∷◌, ◌++◌, length, get_or, drop, map, Bool, true, false, Option, Some, None, String, Global, string_bytes, refl, sym, ap, ◌∙◌}
use Rattle.std.proofs.lemmas.List.{drop_all}
use Rattle.pb_semantics.specs.Data.{Data, Fields, count_of, boolean, list, rec, opaque, no_fields, field}
use Rattle.pb_language.specs.Evaluates.{is_unreadable}
use Rattle.pb_language.specs.Expansion.{expanded, all_expanded}
use Rattle.pb_language.specs.Expression.{Name, Status, Expression, Parts, part}
use Rattle.pb_language.specs.World.{World}
use Rattle.pb_language.specs.Evaluation.{Outcome, Stuck, Look, there, absent, failing, is_there, is_value, status_of, field_count, value, stuck, no_field, or_stuck, then_go, given, value_else, or_else, found, read, value_below, eval, eval_all, eval_any, eval_items, eval_parts}
use Rattle.pb_value.specs.Append.{append_fields}
use Rattle.pb_value.specs.View.{view, items_view, fields_of, fields_view, truth}
use Rattle.pb_value.specs.declared.value.Value.{Value}
use Rattle.pb_syntax.specs.ExprView.{expr_view, exprs_view, names_of}
use Rattle.pb_syntax.specs.Aliases.{Trees}
use Rattle.pb_eval.specs.OwnWorld.{end_of, field_in, shown, value_read}
use Rattle.pb_syntax.specs.declared.expr.Expr.{Expr}
use Rattle.pb_syntax.proofs.Left.{drop-at}
use Rattle.pb_eval.proofs.Outcomes.{and-true, and-false, and-spoilt, or-true, or-false, or-spoilt, after_items, items-spoilt, items-step, items-end, after_fields, fields-spoilt, fields-step}

pub all-turn : (w : World) (f : Trees) (es : List Expr) (i : ℕ) (e : Expr) (v : Value) (t : Option Bool) → i < length es → e ≡ get_or es i e → view v ≡ shown (eval w (expanded f (expr_view e)))
    → t ≡ truth (view v) → t ≡ Some true → eval_all w (all_expanded f (exprs_view (drop i es))) ≡ eval_all w (all_expanded f (exprs_view (drop (i + 1) es)))
all-turn w f es i e v t lt is told found holds =
    ap (λ xs. eval_all w (all_expanded f (exprs_view xs))) (drop-at es i e lt is)
    ∙ and-true w (eval w (expanded f (expr_view e))) (all_expanded f (exprs_view (drop (i + 1) es))) (ap truth (sym told) ∙ sym found ∙ holds)

pub all-stops : (w : World) (f : Trees) (es : List Expr) (i : ℕ) (e : Expr) (v : Value) (t : Option Bool) → i < length es → e ≡ get_or es i e → view v ≡ shown (eval w (expanded f (expr_view e)))
    → t ≡ truth (view v) → t ≡ Some false → shown (eval_all w (all_expanded f (exprs_view (drop i es)))) ≡ boolean false
all-stops w f es i e v t lt is told found holds =
    ap (λ xs. shown (eval_all w (all_expanded f (exprs_view xs)))) (drop-at es i e lt is)
    ∙ and-false (eval w (expanded f (expr_view e))) (eval_all w (all_expanded f (exprs_view (drop (i + 1) es)))) (ap truth (sym told) ∙ sym found ∙ holds)

pub all-spoilt : (w : World) (f : Trees) (es : List Expr) (i : ℕ) (e : Expr) (v : Value) (t : Option Bool) → i < length es → e ≡ get_or es i e → view v ≡ shown (eval w (expanded f (expr_view e)))
    → t ≡ truth (view v) → t ≡ None → shown (eval_all w (all_expanded f (exprs_view (drop i es)))) ≡ opaque
all-spoilt w f es i e v t lt is told found holds =
    ap (λ xs. shown (eval_all w (all_expanded f (exprs_view xs)))) (drop-at es i e lt is)
    ∙ and-spoilt (eval w (expanded f (expr_view e))) (eval_all w (all_expanded f (exprs_view (drop (i + 1) es)))) (ap truth (sym told) ∙ sym found ∙ holds)

pub all-done : (w : World) (f : Trees) (es : List Expr) (i : ℕ) → length es ≤ i → shown (eval_all w (all_expanded f (exprs_view (drop i es)))) ≡ boolean true
all-done w f es i past = ap (λ xs. shown (eval_all w (all_expanded f (exprs_view xs)))) (drop_all i es past)

pub any-turn : (w : World) (f : Trees) (es : List Expr) (i : ℕ) (e : Expr) (v : Value) (t : Option Bool) → i < length es → e ≡ get_or es i e → view v ≡ shown (eval w (expanded f (expr_view e)))
    → t ≡ truth (view v) → t ≡ Some false → eval_any w (all_expanded f (exprs_view (drop i es))) ≡ eval_any w (all_expanded f (exprs_view (drop (i + 1) es)))
any-turn w f es i e v t lt is told found holds =
    ap (λ xs. eval_any w (all_expanded f (exprs_view xs))) (drop-at es i e lt is)
    ∙ or-false w (eval w (expanded f (expr_view e))) (all_expanded f (exprs_view (drop (i + 1) es))) (ap truth (sym told) ∙ sym found ∙ holds)

pub any-stops : (w : World) (f : Trees) (es : List Expr) (i : ℕ) (e : Expr) (v : Value) (t : Option Bool) → i < length es → e ≡ get_or es i e → view v ≡ shown (eval w (expanded f (expr_view e)))
    → t ≡ truth (view v) → t ≡ Some true → shown (eval_any w (all_expanded f (exprs_view (drop i es)))) ≡ boolean true
any-stops w f es i e v t lt is told found holds =
    ap (λ xs. shown (eval_any w (all_expanded f (exprs_view xs)))) (drop-at es i e lt is)
    ∙ or-true (eval w (expanded f (expr_view e))) (eval_any w (all_expanded f (exprs_view (drop (i + 1) es)))) (ap truth (sym told) ∙ sym found ∙ holds)

pub any-spoilt : (w : World) (f : Trees) (es : List Expr) (i : ℕ) (e : Expr) (v : Value) (t : Option Bool) → i < length es → e ≡ get_or es i e → view v ≡ shown (eval w (expanded f (expr_view e)))
    → t ≡ truth (view v) → t ≡ None → shown (eval_any w (all_expanded f (exprs_view (drop i es)))) ≡ opaque
any-spoilt w f es i e v t lt is told found holds =
    ap (λ xs. shown (eval_any w (all_expanded f (exprs_view xs)))) (drop-at es i e lt is)
    ∙ or-spoilt (eval w (expanded f (expr_view e))) (eval_any w (all_expanded f (exprs_view (drop (i + 1) es)))) (ap truth (sym told) ∙ sym found ∙ holds)

pub any-done : (w : World) (f : Trees) (es : List Expr) (i : ℕ) → length es ≤ i → shown (eval_any w (all_expanded f (exprs_view (drop i es)))) ≡ boolean false
any-done w f es i past = ap (λ xs. shown (eval_any w (all_expanded f (exprs_view xs)))) (drop_all i es past)

pub list-turn : (w : World) (f : Trees) (es : List Expr) (vs : List Value) (i : ℕ) (e : Expr) (v : Value) → i < length es → e ≡ get_or es i e → view v ≡ shown (eval w (expanded f (expr_view e)))
    → is_unreadable (view v) ≡ false
    → after_items (items_view vs) (eval_items w (all_expanded f (exprs_view (drop i es)))) ≡ after_items (items_view (vs ++ v ∷ [])) (eval_items w (all_expanded f (exprs_view (drop (i + 1) es))))
list-turn w f es vs i e v lt is told readable =
    ap (λ xs. after_items (items_view vs) (eval_items w (all_expanded f (exprs_view xs)))) (drop-at es i e lt is)
    ∙ items-step vs v (eval w (expanded f (expr_view e))) (eval_items w (all_expanded f (exprs_view (drop (i + 1) es)))) told (ap is_unreadable (sym told) ∙ readable)

pub list-spoilt : (w : World) (f : Trees) (es : List Expr) (vs : List Value) (i : ℕ) (e : Expr) (v : Value) → i < length es → e ≡ get_or es i e → view v ≡ shown (eval w (expanded f (expr_view e)))
    → is_unreadable (view v) ≡ true → shown (after_items (items_view vs) (eval_items w (all_expanded f (exprs_view (drop i es))))) ≡ opaque
list-spoilt w f es vs i e v lt is told spoilt =
    ap (λ xs. shown (after_items (items_view vs) (eval_items w (all_expanded f (exprs_view xs))))) (drop-at es i e lt is)
    ∙ items-spoilt (items_view vs) (eval w (expanded f (expr_view e))) _ (ap is_unreadable (sym told) ∙ spoilt)

pub list-done : (w : World) (f : Trees) (es : List Expr) (vs : List Value) (i : ℕ) → length es ≤ i → shown (after_items (items_view vs) (eval_items w (all_expanded f (exprs_view (drop i es))))) ≡ list (items_view vs)
list-done w f es vs i past =
    ap (λ xs. shown (after_items (items_view vs) (eval_items w (all_expanded f (exprs_view xs))))) (drop_all i es past) ∙ ap shown (items-end (items_view vs))

-- one more entry, whatever the entries stand for
pub fields-last : (f : Expr → Data) (done : List (String Global × Expr)) (e : String Global × Expr)
    → append_fields (fields_of (map (λ m. (m.0, f m.1)) done)) (field (string_bytes e.0) (f e.1) no_fields) ≡ fields_of (map (λ m. (m.0, f m.1)) (done ++ e ∷ []))
fields-last f [] e = refl
fields-last f (x ∷ done) e = ap (field (string_bytes x.0) (f x.1)) (fields-last f done e)

pub record-turn : (w : World) (fs : Fields) (n : Name) (e : Expression) (ps : Parts) (v : Value) → view v ≡ shown (eval w e)
    → is_unreadable (view v) ≡ false
    → after_fields fs (eval_parts w (part n e ps)) ≡ after_fields (append_fields fs (field n (shown (eval w e)) no_fields)) (eval_parts w ps)
record-turn w fs n e ps v told readable = fields-step fs n (eval w e) (eval_parts w ps) (ap is_unreadable (sym told) ∙ readable)

pub record-spoilt : (w : World) (fs : Fields) (n : Name) (e : Expression) (ps : Parts) (v : Value) → view v ≡ shown (eval w e)
    → is_unreadable (view v) ≡ true → shown (after_fields fs (eval_parts w (part n e ps))) ≡ opaque
record-spoilt w fs n e ps v told spoilt = fields-spoilt fs n (eval w e) _ (ap is_unreadable (sym told) ∙ spoilt)

-- a step into a field that is there, and one into what isn't
below-field : (n : Name) (ns : List Name) (d e : Data) → Some e ≡ field_in n d → value_below (n ∷ ns) d ≡ value_below ns e
below-field n ns (rec fs) e h = ap (or_stuck no_field (value_below ns)) (sym h)
below-field n ns d e h = cc

below-nothing : (n : Name) (ns : List Name) (d : Data) → None ≡ field_in n d → value_read (value_below (n ∷ ns) d) ≡ None
below-nothing n ns (rec fs) h = ap (λ o. value_read (or_stuck no_field (value_below ns) o)) (sym h)
below-nothing n ns d h = refl

pub steps-turn : (ns : List (String Global)) (i : ℕ) (n : String Global) (d e : Data) → i < length ns → n ≡ get_or ns i n → Some e ≡ field_in (string_bytes n) d
    → value_below (names_of (drop i ns)) d ≡ value_below (names_of (drop (i + 1) ns)) e
steps-turn ns i n d e lt is found-field =
    ap (λ ms. value_below (names_of ms) d) (drop-at ns i n lt is) ∙ below-field (string_bytes n) (names_of (drop (i + 1) ns)) d e found-field

pub steps-lost : (ns : List (String Global)) (i : ℕ) (n : String Global) (d : Data) → i < length ns → n ≡ get_or ns i n → None ≡ field_in (string_bytes n) d
    → value_read (value_below (names_of (drop i ns)) d) ≡ None
steps-lost ns i n d lt is none =
    ap (λ ms. value_read (value_below (names_of ms) d)) (drop-at ns i n lt is) ∙ below-nothing (string_bytes n) (names_of (drop (i + 1) ns)) d none

pub steps-done : (ns : List (String Global)) (i : ℕ) (d : Data) → length ns ≤ i → value_read (value_below (names_of (drop i ns)) d) ≡ Some d
steps-done ns i d past = ap (λ ms. value_read (value_below (names_of ms) d)) (drop_all i ns past)

-- what is at the end of a path, beside the path itself
found-read : (o : Outcome) → shown (read [] (found (value_read o))) ≡ shown o
found-read (value d) = refl
found-read (stuck s) = refl

pub end-read : (ns : List Name) (l : Look) → shown (read [] (end_of ns l)) ≡ shown (read ns l)
end-read ns (there d) = found-read (value_below ns d)
end-read ns absent = refl
end-read ns (failing s) = refl

found-there : (o : Outcome) → is_there [] (found (value_read o)) ≡ value (boolean (is_value o))
found-there (value d) = refl
found-there (stuck s) = refl

pub end-there : (ns : List Name) (l : Look) → shown (is_there [] (end_of ns l)) ≡ shown (is_there ns l)
end-there ns (there d) = ap shown (found-there (value_below ns d))
end-there ns absent = refl
end-there ns (failing s) = refl

found-status : (s : Status) (o : Outcome) → shown (then_go (read [] (found (value_read o))) (status_of s)) ≡ shown (then_go o (status_of s))
found-status s (value d) = refl
found-status s (stuck t) = refl

pub end-status : (s : Status) (ns : List Name) (l : Look) → shown (then_go (read [] (end_of ns l)) (status_of s)) ≡ shown (then_go (read ns l) (status_of s))
end-status s ns (there d) = found-status s (value_below ns d)
end-status s ns absent = refl
end-status s ns (failing t) = refl

found-or : (o p : Outcome) → or_else [] (found (value_read o)) p ≡ value_else o p
found-or (value d) p = refl
found-or (stuck s) p = refl

end-or : (ns : List Name) (l : Look) (o : Outcome) → shown (or_else [] (end_of ns l) o) ≡ shown (or_else ns l o)
end-or ns (there d) o = ap shown (found-or (value_below ns d) o)
end-or ns absent o = refl
end-or ns (failing s) o = refl

given-shown : (o : Outcome) → shown (then_go o given) ≡ shown o
given-shown (stuck s) = refl
given-shown (value opaque) = refl
given-shown (value d) = refl

-- a path, and what stands for it where nothing is there
pub or-there : (ns : List Name) (l : Look) (o : Outcome) (d : Data) → there d ≡ end_of ns l → d ≡ shown (or_else ns l o)
or-there ns l o d h = ap (λ k. shown (or_else [] k o)) h ∙ end-or ns l o

pub or-absent : (ns : List Name) (l : Look) (o : Outcome) → absent ≡ end_of ns l → shown o ≡ shown (or_else ns l (then_go o given))
or-absent ns l o h =
    sym (given-shown o)
    ∙ ap (λ k. shown (or_else [] k (then_go o given))) h ∙ end-or ns l (then_go o given)

pub or-failing : (ns : List Name) (l : Look) (o : Outcome) (s : Stuck) → failing s ≡ end_of ns l → opaque ≡ shown (or_else ns l o)
or-failing ns l o s h = ap (λ k. shown (or_else [] k o)) h ∙ end-or ns l o

-- how many items and fields there are
pub items_count : (vs : List Value) → length vs ≡ count_of (items_view vs)
items_count [] = refl
items_count (v ∷ vs) = ap suc (items_count vs)

pub fields_count : (ms : List (String Global × Value)) → length ms ≡ field_count (fields_view ms)
fields_count [] = refl
fields_count (m ∷ ms) = ap suc (fields_count ms)
