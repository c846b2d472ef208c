-- Lists that are built in their order, and what is left to build.
use Rattle.std.proofs.Common.{◌≡◌, ℕ, suc, ◌+◌, ◌<◌, List, [], ◌∷◌, ◌++◌, length, get_or, drop, drop-cons, add-one, Option, Some, None, Result, String, Global, string_bytes, refl, sym, ap, ◌∙◌, cond}
use Rattle.std.proofs.lemmas.Result.{err_from_is_err_and}
use Rattle.std.specs.Result.{IsErrAnd}
use Rattle.pb_semantics.specs.Data.{Data, Fields, no_fields, field}
use Rattle.pb_semantics.specs.Gives.{FaultGives, Gives}
use Rattle.pb_language.specs.Expression.{Expressions, Name, no_expressions, expression, Parts, no_parts, part}
use Rattle.pb_language.specs.Texts.{with_item, with_part}
use Rattle.pb_value.specs.declared.value.Value.{Value}
use Rattle.pb_syntax.specs.ExprView.{expr_view, exprs_view, parts_view}
use Rattle.pb_syntax.specs.declared.expr.Expr.{Expr}
use Rattle.pb_template.specs.Entries.{but, entries_view, entry_names, is_that}
use Rattle.pb_template.specs.Faults.{refused}
use Rattle.pb_template.specs.declared.entry.Entry.{Entry}
use Rattle.pb_template.specs.declared.fault.TemplateFault.{TemplateFault}
use Rattle.pb_template.specs.declared.fault.TemplateFault.TheVariants as fault

-- what isn't given within isn't given without
refused-both : {Y W : Type 0} (e : TemplateFault) (y : Option Y) (z : Option W) → FaultGives (refused e) y → (y ≡ None → z ≡ None) → FaultGives (refused e) z
refused-both fault.Unreadable y z h k = k h
refused-both fault.NoMemory y z h k = tt

pub Gives-refused : {Y Z W : Type 0} (g : Z → W) (r : Result Z TemplateFault) (e : TemplateFault) (y : Option Y) (z : Option W) → IsErrAnd r (λ d. d ≡ e) → FaultGives (refused e) y → (y ≡ None → z ≡ None) → Gives (λ x. Some (g x)) refused r z
Gives-refused g r e y z is h k =
    let p = err_from_is_err_and r is in
    rw (p.1, p.2) (refused-both e y z h k)

-- ---- expressions

abbrev pub items_before : Expressions → Option Expressions → Option Expressions
items_before no_expressions r = r
items_before (expression e es) r = with_item (Some e) (items_before es r)

pub items_before-none : (es : Expressions) → items_before es None ≡ None
items_before-none no_expressions = refl
items_before-none (expression e es) = ap (with_item (Some e)) (items_before-none es)

pub items_before-all : (es : Expressions) → items_before es (Some no_expressions) ≡ Some es
items_before-all no_expressions = refl
items_before-all (expression e es) = ap (with_item (Some e)) (items_before-all es)

pub items_before-push : (done : List Expr) (e : Expr) (r : Option Expressions) → items_before (exprs_view done) (with_item (Some (expr_view e)) r) ≡ items_before (exprs_view (done ++ e ∷ [])) r
items_before-push [] e r = refl
items_before-push (x ∷ done) e r = ap (with_item (Some (expr_view x))) (items_before-push done e r)

-- the values from a place on, of which one comes first
pub values-next : (vs : List Value) (i : ℕ) (v : Value) → i < length vs → v ≡ get_or vs i v → drop i vs ≡ v ∷ drop (i + 1) vs
values-next vs i v h e = drop-cons vs i v h ∙ rw (add-one i) (ap (λ x. x ∷ drop (suc i) vs) (sym e))

-- ---- parts

abbrev pub parts_before : Parts → Option Parts → Option Parts
parts_before no_parts r = r
parts_before (part n e ps) r = with_part n (Some e) (parts_before ps r)

pub parts_before-none : (ps : Parts) → parts_before ps None ≡ None
parts_before-none no_parts = refl
parts_before-none (part n e ps) = ap (with_part n (Some e)) (parts_before-none ps)

pub parts_before-all : (ps : Parts) → parts_before ps (Some no_parts) ≡ Some ps
parts_before-all no_parts = refl
parts_before-all (part n e ps) = ap (with_part n (Some e)) (parts_before-all ps)

pub parts_before-entry : (done : List (String Global × Expr)) (k : String Global) (e : Expr) (r : Option Parts)
    → parts_before (parts_view done) (with_part (string_bytes k) (Some (expr_view e)) r) ≡ parts_before (parts_view (done ++ (k, e) ∷ [])) r
parts_before-entry [] k e r = refl
parts_before-entry (x ∷ done) k e r = ap (with_part (string_bytes x.0) (Some (expr_view x.1))) (parts_before-entry done k e r)

pub parts_before-named : (done : List Entry) (a : Entry) (r : Option Parts)
    → parts_before (entries_view done) (with_part (string_bytes a.name.value) (Some (expr_view a.value)) r) ≡ parts_before (entries_view (done ++ a ∷ [])) r
parts_before-named [] a r = refl
parts_before-named (x ∷ done) a r = ap (with_part (string_bytes x.name.value) (Some (expr_view x.value))) (parts_before-named done a r)

pub entry_names-push : (done : List Entry) (a : Entry) (left : List (List ℕ)) → entry_names (done ++ a ∷ []) ++ left ≡ entry_names done ++ string_bytes a.name.value ∷ left
entry_names-push [] a left = refl
entry_names-push (b ∷ done) a left = ap (λ ns. string_bytes b.name.value ∷ ns) (entry_names-push done a left)

-- ---- fields, but for one

pub but-next : (o : Option Name) (n : Name) (d : Data) (fs : Fields) → but o (field n d fs) ≡ cond (is_that o n) (but o fs) (field n d (but o fs))
but-next None n d fs = refl
but-next (Some m) n d fs = refl

pub but-none : (o : Option Name) → but o no_fields ≡ no_fields
but-none None = refl
but-none (Some m) = refl
