-- What is found of the parts of a form, beside what the form asks of them.
use Rattle.std.proofs.Common.{◌≡◌, List, [], ◌∷◌, ◌++◌, suc, length, Bool, true, false, not, ◌&&◌, ◌||◌, Option, Some, None, option_map, refl, sym, ap, ◌∙◌}
use Rattle.pb_semantics.specs.Kind.{KindData}
use Rattle.pb_semantics.specs.Join.{join}
use Rattle.pb_language.specs.Expression.{Expression, Expressions, no_expressions, expression}
use Rattle.pb_language.specs.Fit.{Fault, are_booleans, are_plain, asks, chain_fault, fault, first, is_any, is_boolean, is_plain_kind, items_fault, parts_fault, wrong_kind}
use Rattle.pb_language.specs.Kinds.{count, items_kind, kind_of}
use Rattle.pb_language.specs.Narrow.{any_teaches, narrow, teaches}
use Rattle.pb_language.specs.Scope.{Scope}
use Rattle.pb_language.proofs.Untaught.{narrow_untaught}
use Rattle.pb_kind.specs.KindView.{kind_view}
use Rattle.pb_expr.specs.Found.{AreFound, IsFound, IsFoundOf}
use Rattle.pb_forms.specs.InferredView.{are_bools, are_plain_kinds, fault_in, faults_in, joined_in, part_fault, part_faults_in}
use Rattle.pb_forms.specs.FitView.{fault_view}
use Rattle.pb_forms.specs.declared.inferred.Inferred.{Inferred}

pub found-kinds : (c : Scope) (es : Expressions) (is : List Inferred) → AreFound c es is → items_kind c es ≡ joined_in is
found-kinds c no_expressions [] h = refl
found-kinds c no_expressions (i ∷ is) h = absurd h
found-kinds c (expression e es) [] h = absurd h
found-kinds c (expression e es) (i ∷ is) h = ap (λ k. join k (items_kind c es)) (sym h.0.0) ∙ ap (join (kind_view i.kind)) (found-kinds c es is h.1)

pub found-count : (c : Scope) (es : Expressions) (is : List Inferred) → AreFound c es is → count es ≡ length is
found-count c no_expressions [] h = refl
found-count c no_expressions (i ∷ is) h = absurd h
found-count c (expression e es) [] h = absurd h
found-count c (expression e es) (i ∷ is) h = ap suc (found-count c es is h.1)

pub found-faults : (c : Scope) (es : Expressions) (is : List Inferred) → AreFound c es is → parts_fault c es ≡ faults_in is
found-faults c no_expressions [] h = refl
found-faults c no_expressions (i ∷ is) h = absurd h
found-faults c (expression e es) [] h = absurd h
found-faults c (expression e es) (i ∷ is) h = ap (λ f. first f (parts_fault c es)) (sym h.0.1) ∙ ap (first (fault_in i)) (found-faults c es is h.1)

pub found-plain : (c : Scope) (es : Expressions) (is : List Inferred) → AreFound c es is → are_plain c es ≡ are_plain_kinds is
found-plain c no_expressions [] h = refl
found-plain c no_expressions (i ∷ is) h = absurd h
found-plain c (expression e es) [] h = absurd h
found-plain c (expression e es) (i ∷ is) h =
    ap (λ k. is_plain_kind k && are_plain c es) (sym h.0.0) ∙ ap (λ b. is_plain_kind (kind_view i.kind) && b) (found-plain c es is h.1)

found-part : (c : Scope) (e : Expression) (i : Inferred) → IsFound c e i → first (fault c e) (asks wrong_kind (not (is_any (kind_of c e)))) ≡ part_fault i
found-part c e i h = ap (λ f. first f (asks wrong_kind (not (is_any (kind_of c e))))) (sym h.1) ∙ ap (λ k. first (fault_in i) (asks wrong_kind (not (is_any k)))) (sym h.0)

pub found-items : (c : Scope) (es : Expressions) (is : List Inferred) → AreFound c es is → items_fault c es ≡ part_faults_in is
found-items c no_expressions [] h = refl
found-items c no_expressions (i ∷ is) h = absurd h
found-items c (expression e es) [] h = absurd h
found-items c (expression e es) (i ∷ is) h = ap (λ f. first f (items_fault c es)) (found-part c e i h.0) ∙ ap (first (part_fault i)) (found-items c es is h.1)

neither-left : (a b : Bool) → a || b ≡ false → a ≡ false
neither-left true b h = h
neither-left false b h = refl

neither-right : (a b : Bool) → a || b ≡ false → b ≡ false
neither-right true b h = absurd (cc)
neither-right false b h = h

-- where no operand teaches, each is asked where nothing more is taught
pub found-chain : (c : Scope) (es : Expressions) (is : List Inferred) (b : Bool) → any_teaches es ≡ false → AreFound c es is → chain_fault c es b ≡ faults_in is
found-chain c no_expressions [] b n h = refl
found-chain c no_expressions (i ∷ is) b n h = absurd h
found-chain c (expression e es) [] b n h = absurd h
found-chain c (expression e es) (i ∷ is) b n h =
    ap (λ d. first (fault c e) (chain_fault d es b)) (narrow_untaught e c b (neither-left (teaches e) (any_teaches es) n))
    ∙ ap (λ f. first f (chain_fault c es b)) (sym h.0.1) ∙ ap (first (fault_in i)) (found-chain c es is b (neither-right (teaches e) (any_teaches es) n) h.1)

pub found-booleans : (c : Scope) (es : Expressions) (is : List Inferred) (b : Bool) → any_teaches es ≡ false → AreFound c es is → are_booleans c es b ≡ are_bools is
found-booleans c no_expressions [] b n h = refl
found-booleans c no_expressions (i ∷ is) b n h = absurd h
found-booleans c (expression e es) [] b n h = absurd h
found-booleans c (expression e es) (i ∷ is) b n h =
    ap (λ d. is_boolean (kind_of c e) && are_booleans d es b) (narrow_untaught e c b (neither-left (teaches e) (any_teaches es) n))
    ∙ ap (λ k. is_boolean k && are_booleans c es b) (sym h.0.0) ∙ ap (λ q. is_boolean (kind_view i.kind) && q) (found-booleans c es is b (neither-right (teaches e) (any_teaches es) n) h.1)

-- a copy is found where it was
pub found-same : (c : Scope) (t : Option Expression) (i j : Inferred) → kind_view j.kind ≡ kind_view i.kind → j.unfit ≡ i.unfit → IsFoundOf c t i → IsFoundOf c t j
found-same c None i j k u h = h
found-same c (Some e) i j k u h = (k ∙ h.0, ap (λ x. option_map fault_view x) u ∙ h.1)
