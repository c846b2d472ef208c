-- Conditions one after the other, and in two lists.
use Rattle.std.proofs.Common.{◌≡◌, Bool, true, Option, refl, sym, ap, ◌∙◌}
use Rattle.pb_language.specs.Expansion.{all_expanded, expanded}
use Rattle.pb_language.specs.Expression.{Expression, Expressions, no_expressions, expression}
use Rattle.pb_language.specs.Fit.{Fault, asks, fault, first, is_boolean, wrong_kind}
use Rattle.pb_language.specs.Judgement.{conditions_fault}
use Rattle.pb_language.specs.Kinds.{kind_of}
use Rattle.pb_language.specs.Narrow.{narrow, narrow_each}
use Rattle.pb_language.specs.Plays.{append_expressions}
use Rattle.pb_language.specs.Scope.{Scope}
use Rattle.pb_syntax.specs.Aliases.{Trees}
use Rattle.pb_forms.proofs.Findings.{fault-turn}
use Rattle.pb_fit.specs.Asked.{condition_fault}

abbrev kind_fault : Scope → Expression → Option Fault
kind_fault c e = asks wrong_kind (is_boolean (kind_of c e))

-- the first of them is asked, and those behind it where it holds
condition-first : (c : Scope) (e : Expression) (es : Expressions) → conditions_fault c (expression e es) ≡ first (condition_fault c e) (conditions_fault (narrow c e true) es)
condition-first c e es = fault-turn (fault c e) (kind_fault c e) (conditions_fault (narrow c e true) es) (condition_fault c e) refl

-- the next condition's fault comes after those before it
pub condition-turn : (f u : Option Fault) (c d : Scope) (e : Expression) (es : Expressions) → u ≡ first f (condition_fault c e) → d ≡ narrow c e true
    → first f (conditions_fault c (expression e es)) ≡ first u (conditions_fault d es)
condition-turn f u c d e es is later =
    ap (first f) (condition-first c e es) ∙ fault-turn f (condition_fault c e) (conditions_fault (narrow c e true) es) u is
    ∙ ap (λ s. first u (conditions_fault s es)) (sym later)

pub conditions-append : (c : Scope) (es fs : Expressions) → conditions_fault c (append_expressions es fs) ≡ first (conditions_fault c es) (conditions_fault (narrow_each c es true) fs)
conditions-append c no_expressions fs = refl
conditions-append c (expression e es) fs =
    let d = narrow c e true in
    let here = conditions_fault d es in
    let then = conditions_fault (narrow_each d es true) fs in
    condition-first c e (append_expressions es fs) ∙ ap (first (condition_fault c e)) (conditions-append d es fs)
    ∙ fault-turn (condition_fault c e) here then (first (condition_fault c e) here) refl
    ∙ ap (λ x. first x then) (sym (condition-first c e es))

pub narrow_each-append : (c : Scope) (es fs : Expressions) (a : Bool) → narrow_each c (append_expressions es fs) a ≡ narrow_each (narrow_each c es a) fs a
narrow_each-append c no_expressions fs a = refl
narrow_each-append c (expression e es) fs a = narrow_each-append (narrow c e a) es fs a

pub expanded-append : (f : Trees) (es fs : Expressions) → all_expanded f (append_expressions es fs) ≡ append_expressions (all_expanded f es) (all_expanded f fs)
expanded-append f no_expressions fs = refl
expanded-append f (expression e es) fs = ap (expression (expanded f e)) (expanded-append f es fs)
