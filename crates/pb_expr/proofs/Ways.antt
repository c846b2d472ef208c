-- The ways to an answer of a chain, one after the other.
use Rattle.std.proofs.Common.{◌≡◌, List, [], ◌∷◌, ◌++◌, length, Bool, not, refl, sym, ap, ◌∙◌, append_assoc, arith}
use Rattle.pb_language.specs.Expression.{Name, Status, Expression, path_status, Root, Expressions, no_expressions, expression}
use Rattle.pb_language.specs.Narrow.{answers, cases_with, changed_at, changed_spot, narrow, narrow_some, on_results, teach}
use Rattle.pb_language.specs.Scope.{Scope, both_scopes}
use Rattle.pb_taught.specs.Before.{Before}
use Rattle.pb_taught.specs.TaughtView.{scope_view, scopes_view, taught_by}
use Rattle.pb_taught.specs.declared.scope.Taught.{Taught}

-- what is known on each way: that operand had the answer, and those before it hadn't
abbrev pub ways : Scope → Expressions → Bool → List Scope
ways c no_expressions b = []
ways c (expression e es) b = narrow c e b ∷ ways (narrow c e (not b)) es b

pub some-ways : (c : Scope) (es : Expressions) (b : Bool) → narrow_some c es b ≡ taught_by (ways c es b) c
some-ways c no_expressions b = refl
some-ways c (expression e no_expressions) b = refl
some-ways c (expression e (expression f es)) b = ap (both_scopes (narrow c e b)) (some-rest (narrow c e (not b)) f es b) where
  some-rest : (d : Scope) (f : Expression) (es : Expressions) (b : Bool) → narrow_some d (expression f es) b ≡ taught_by (ways d (expression f es) b) c
  some-rest d f no_expressions b = refl
  some-rest d f (expression g es) b = ap (both_scopes (narrow d f b)) (some-rest (narrow d f (not b)) g es b)

-- the ways to the left of one
abbrev pub met_by : List Scope → Scope → Scope
met_by [] d = d
met_by (e ∷ es) d = both_scopes e (met_by es d)

pub taught-last : (ds : List Scope) (d c : Scope) → taught_by (ds ++ d ∷ []) c ≡ met_by ds d
taught-last [] d c = refl
taught-last (e ∷ []) d c = refl
taught-last (e ∷ f ∷ ds) d c = ap (both_scopes e) (taught-last (f ∷ ds) d c)

pub met-last : (ds : List Scope) (d e : Scope) → met_by (ds ++ d ∷ []) e ≡ met_by ds (both_scopes d e)
met-last [] d e = refl
met-last (f ∷ ds) d e = ap (both_scopes f) (met-last ds d e)

scopes-last : (m : Before) (ws : List Taught) (w : Taught) → scopes_view m (ws ++ w ∷ []) ≡ scopes_view m ws ++ scope_view m w ∷ []
scopes-last m [] w = refl
scopes-last m (v ∷ ws) w = ap (λ ds. scope_view m v ∷ ds) (scopes-last m ws w)

-- the last of the ways is taken, and met with all behind it
pub last-taken : (m : Before) (us ws : List Taught) (w : Taught) (c : Scope) → us ≡ ws ++ w ∷ [] → taught_by (scopes_view m us) c ≡ met_by (scopes_view m ws) (scope_view m w)
last-taken m us ws w c is = ap (λ vs. taught_by (scopes_view m vs) c) is ∙ ap (λ ds. taught_by ds c) (scopes-last m ws w) ∙ taught-last (scopes_view m ws) (scope_view m w) c

pub way-met : (m : Before) (us ws : List Taught) (w all next : Taught) → us ≡ ws ++ w ∷ [] → scope_view m next ≡ both_scopes (scope_view m w) (scope_view m all)
    → met_by (scopes_view m us) (scope_view m all) ≡ met_by (scopes_view m ws) (scope_view m next)
way-met m us ws w all next is met =
    ap (λ vs. met_by (scopes_view m vs) (scope_view m all)) is ∙ ap (λ ds. met_by ds (scope_view m all)) (scopes-last m ws w)
    ∙ met-last (scopes_view m ws) (scope_view m w) (scope_view m all) ∙ ap (met_by (scopes_view m ws)) (sym met)

-- a way more
pub ways-turn : (m : Before) (us ws : List Taught) (way here next : Taught) (e : Expression) (es : Expressions) (b : Bool)
    → scope_view m way ≡ narrow (scope_view m here) e b → scope_view m next ≡ narrow (scope_view m here) e (not b) → ws ≡ us ++ way ∷ []
    → scopes_view m us ++ ways (scope_view m here) (expression e es) b ≡ scopes_view m ws ++ ways (scope_view m next) es b
ways-turn m us ws way here next e es b is then pushed =
    let rest = ways (scope_view m next) es b in
    ap (λ d. scopes_view m us ++ narrow (scope_view m here) e b ∷ ways d es b) (sym then) ∙ ap (λ d. scopes_view m us ++ d ∷ rest) (sym is)
    ∙ sym (append_assoc (scopes_view m us) (scope_view m way ∷ []) rest)
    ∙ ap (λ ds. ds ++ rest) (sym (scopes-last m us way) ∙ ap (scopes_view m) (sym pushed))

-- where there is a way, what was known before them isn't asked
pub same-last : (m : Before) (us ws : List Taught) (way : Taught) (c d : Scope) → ws ≡ us ++ way ∷ [] → taught_by (scopes_view m ws) c ≡ taught_by (scopes_view m ws) d
same-last m us ws way c d pushed = last-taken m ws us way c pushed ∙ sym (last-taken m ws us way d pushed)

pub no-entries : {A : Type 0} → (es : List A) → length es ≡ 0 → es ≡ []
no-entries [] h = refl
no-entries (e ∷ es) h = absurd (omega (arith, h))

-- what a test of a status at the end of a path teaches
pub status-narrowed : (c d : Scope) (e : Expression) (s : Status) (r : Root) (ns : List Name) (b : Bool) → e ≡ path_status s r ns → d ≡ teach c (changed_spot (changed_at ns (on_results (cases_with (answers s b))))) r → d ≡ narrow c e b
status-narrowed c d e s r ns b is h = h ∙ ap (λ x. narrow c x b) (sym is)
