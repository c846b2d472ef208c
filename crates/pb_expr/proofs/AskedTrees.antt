-- What was asked of names of `vars`: one found, and one put in.
use denote.Ref.{Bor}
use Rattle.std.specs.Option.{option_copied}
use Rattle.std.proofs.Common.{◌≡◌, ℕ, List, [], ◌∷◌, Bool, true, false, cond, Option, Some, None, IfSome, String, Global, string_bytes, string_cmp, nat_cmp, refl, sym, ap, ◌∙◌, subst}
use Rattle.std.specs.Cmp.Lexicographic.{slice_cmp}
use Rattle.std.specs.declared.cmp.Ordering.{Ordering}
use Rattle.std.specs.declared.cmp.Ordering.TheVariants.{Less, Equal, Greater}
use Rattle.std.specs.Ordering.{match_ordering, is_eq}
use Rattle.std.specs.Map.{lookup}
use Rattle.std.specs.BTreeMap.{insert_entry, is_at}
use Rattle.std.specs.Str.{bytes_eq}
use Rattle.std.proofs.lemmas.Map.Text.{is_eq-slice_cmp}
use Rattle.pb_semantics.proofs.Names.{same_name}
use Rattle.pb_language.specs.Scope.{Scope}
use Rattle.pb_syntax.specs.Aliases.{Trees}
use Rattle.pb_expr.specs.Found.{AreRight, IsFoundOf}
use Rattle.pb_forms.specs.declared.inferred.Inferred.{Inferred}

abbrev pub Entry : Type 0
Entry = String Global × Inferred

found-step : (c : Scope) (f : Trees) (name : List ℕ) (e : Entry) (o : Option Inferred) (i : Inferred) (q : Bool) → bytes_eq name (string_bytes e.0) ≡ q → IsFoundOf c (f (string_bytes e.0)) e.1
    → (o ≡ Some i → IsFoundOf c (f name) i) → cond q (Some e.1) o ≡ Some i → IsFoundOf c (f name) i
found-step c f name e o i true q here later is =
    let at : string_bytes e.0 ≡ name = sym (same_name name (string_bytes e.0) q) in
    let one : e.1 ≡ i = cc in
    subst (λ x. IsFoundOf c (f name) x) one (subst (λ n. IsFoundOf c (f n) e.1) at here)
found-step c f name e o i false q here later is = later is

-- what is found under a name was found of its tree
pub found-right : (c : Scope) (f : Trees) (name : List ℕ) (es : List Entry) (i : Inferred) → AreRight c f es
    → lookup (is_at (λ k. slice_cmp nat_cmp name (string_bytes k))) es ≡ Some i → IsFoundOf c (f name) i
found-right c f name [] i h is = absurd (cc)
found-right c f name (e ∷ es) i h is =
    found-step c f name e (lookup (is_at (λ k. slice_cmp nat_cmp name (string_bytes k))) es) i (bytes_eq name (string_bytes e.0)) refl h.0 (found-right c f name es i h.1)
    (ap (λ q. cond q (Some e.1) (lookup (is_at (λ k. slice_cmp nat_cmp name (string_bytes k))) es)) (sym (is_eq-slice_cmp name (string_bytes e.0))) ∙ is)

put-step : (c : Scope) (f : Trees) (k : String Global) (i : Inferred) (e : Entry) (es more : List Entry) (o : Ordering) → string_cmp k e.0 ≡ o
    → IsFoundOf c (f (string_bytes k)) i → AreRight c f (e ∷ es) → AreRight c f more
    → AreRight c f (match_ordering o ((k, i) ∷ e ∷ es) ((e.0, i) ∷ es) (e ∷ more))
put-step c f k i e es more Less is new h later = (new, h)
put-step c f k i e es more Equal is new h later =
    let at : string_bytes k ≡ string_bytes e.0 = same_name (string_bytes k) (string_bytes e.0) (sym (is_eq-slice_cmp (string_bytes k) (string_bytes e.0)) ∙ ap is_eq is) in
    (subst (λ n. IsFoundOf c (f n) i) at new, h.1)
put-step c f k i e es more Greater is new h later = (h.0, later)

-- one more
pub put-right : (c : Scope) (f : Trees) (es : List Entry) (k : String Global) (i : Inferred) → AreRight c f es → IsFoundOf c (f (string_bytes k)) i → AreRight c f (insert_entry string_cmp es k i)
put-right c f [] k i h new = (new, tt)
put-right c f (e ∷ es) k i h new = put-step c f k i e es (insert_entry string_cmp es k i) (string_cmp k e.0) refl new h (put-right c f es k i h.1 new)

pub find-right : (c : Scope) (f : Trees) (name : List ℕ) (es : List Entry) (o : Option (Bor Inferred)) → option_copied o ≡ lookup (is_at (λ k. slice_cmp nat_cmp name (string_bytes k))) es → AreRight c f es
    → IfSome o (λ i. IsFoundOf c (f name) i.now)
find-right c f name es None h r = tt
find-right c f name es (Some i) h r = found-right c f name es i.now r (sym h)
