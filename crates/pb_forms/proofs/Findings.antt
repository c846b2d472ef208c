-- The fault and the kind of a form beside those of its operands.
use Rattle.std.proofs.Common.{◌≡◌, ℕ, suc, ◌+◌, ◌<◌, List, [], ◌∷◌, ◌++◌, length, drop, get_or, String, Global, string_bytes, Bool, true, false, ◌&&◌, Option, Some, None, refl, sym, ap, ◌∙◌}
use Rattle.pb_semantics.specs.Kind.{KindData, Slots, Spot, never, recs, nowhere, spot, slot_at}
use Rattle.pb_semantics.specs.Join.{join}
use Rattle.pb_language.specs.Expression.{Name, Expression, Expressions, expression}
use Rattle.pb_language.specs.Scope.{Scope, spot_kind, below_spot}
use Rattle.pb_language.specs.Kinds.{path_spot, step_spot, count, kind_of, default_kind, shown_spot}
use Rattle.pb_language.specs.Fit.{Fault, perhaps_missing, first, is_boolean, field_fault, steps_fault, fault, chain_fault, are_booleans}
use Rattle.pb_language.specs.Narrow.{narrow}
use Rattle.pb_kind.specs.KindView.{kind_view}
use Rattle.pb_kind.specs.declared.kind.Kind.{Kind}
use Rattle.pb_syntax.specs.ExprView.{expr_view, exprs_view, names_of}
use Rattle.pb_forms.specs.FitView.{LeadsTo, certain}
use Rattle.pb_kind.specs.Growing.{joined_onto}
use Rattle.pb_syntax.specs.declared.expr.Expr.{Expr}
use Rattle.pb_syntax.proofs.Left.{drop-at}

first-first : (f g h : Option Fault) → first (first f g) h ≡ first f (first g h)
first-first None g h = refl
first-first (Some x) g h = refl

-- a part's fault comes after those before it, and before those after it
pub fault-turn : (f g h u : Option Fault) → u ≡ first f g → first f (first g h) ≡ first u h
fault-turn f g h u is = sym (first-first f g h) ∙ ap (λ x. first x h) (sym is)

pub first-none : (f : Option Fault) → first f None ≡ f
first-none None = refl
first-none (Some x) = refl

-- a chain knows at each operand what those before it taught
pub chain-turn : (f g u : Option Fault) (c d : Scope) (e : Expression) (es : Expressions) (b : Bool) → g ≡ fault c e → u ≡ first f g → d ≡ narrow c e b
    → first f (chain_fault c (expression e es) b) ≡ first u (chain_fault d es b)
chain-turn f g u c d e es b found is later =
    ap (λ x. first f (first x (chain_fault (narrow c e b) es b))) (sym found)
    ∙ fault-turn f g (chain_fault (narrow c e b) es b) u is
    ∙ ap (λ s. first u (chain_fault s es b)) (sym later)

pub booleans-turn : (a q : Bool) (k : KindData) (c d : Scope) (e : Expression) (es : Expressions) (b : Bool) → q ≡ is_boolean k → k ≡ kind_of c e → d ≡ narrow c e b
    → a && are_booleans c (expression e es) b ≡ (a && q) && are_booleans d es b
booleans-turn false q k c d e es b h i is = refl
booleans-turn true q k c d e es b h i is =
    ap (λ m. is_boolean m && are_booleans (narrow c e b) es b) (sym i) ∙ ap (λ x. x && are_booleans (narrow c e b) es b) (sym h)
    ∙ ap (λ s. q && are_booleans s es b) (sym is)

pub count-exprs : (es : List Expr) → count (exprs_view es) ≡ length es
count-exprs [] = refl
count-exprs (e ∷ es) = ap suc (count-exprs es)

pub onto-last : (ks : List Kind) (k : Kind) (m : KindData) → joined_onto (ks ++ k ∷ []) m ≡ joined_onto ks (join (kind_view k) m)
onto-last [] k m = refl
onto-last (j ∷ ks) k m = ap (join (kind_view j)) (onto-last ks k m)

certain-spot : (s : Spot) (k : KindData) → certain s ≡ Some k → s ≡ spot true k
certain-spot nowhere k h = cc
certain-spot (spot true j) k h = ap (spot true) cc
certain-spot (spot false j) k h = cc

-- a field that is certainly there, and one that isn't
pub field-certain : (n : Name) (ns : List Name) (ss : Slots) (k : KindData) → certain (slot_at n ss) ≡ Some k → LeadsTo (n ∷ ns) (recs ss) ns k
field-certain n ns ss k h =
    let there = certain-spot (slot_at n ss) k h in
    ap (λ s. field_fault s (steps_fault ns)) there

missing : (s : Spot) (g : KindData → Option Fault) → certain s ≡ None → field_fault s g ≡ Some perhaps_missing
missing nowhere g h = refl
missing (spot true k) g h = cc
missing (spot false k) g h = refl

pub field-uncertain : (n : Name) (ns : List Name) (ss : Slots) → certain (slot_at n ss) ≡ None → steps_fault (n ∷ ns) (recs ss) ≡ Some perhaps_missing
field-uncertain n ns ss h = missing (slot_at n ss) (steps_fault ns) h

pub below-never : (n : Name) (ns : List Name) → LeadsTo (n ∷ ns) never ns never
below-never n [] = refl
below-never n (m ∷ ns) = refl

-- a path that is lost stays so
pub nowhere-below : (ns : List Name) → path_spot ns nowhere ≡ nowhere
nowhere-below [] = refl
nowhere-below (n ∷ ns) = refl

pub lost-below : (ns : List (String Global)) (i : ℕ) (n : String Global) (a : Bool) (k : KindData) → i < length ns → n ≡ get_or ns i n → nowhere ≡ step_spot (string_bytes n) k
    → path_spot (names_of (drop i ns)) (spot a k) ≡ nowhere
lost-below ns i n a k lt is lost =
    ap (λ ms. path_spot (names_of ms) (spot a k)) (drop-at ns i n lt is)
    ∙ ap (λ s. path_spot (names_of (drop (i + 1) ns)) (below_spot a s)) (sym lost) ∙ nowhere-below (names_of (drop (i + 1) ns))

-- what a test showed to be there is certain
pub shown-kind : (s : Spot) (m : KindData) → spot_kind s ≡ default_kind (shown_spot true s) m
shown-kind nowhere m = refl
shown-kind (spot a k) m = refl

pub and-true : (b : Bool) → b && true ≡ b
and-true true = refl
and-true false = refl

pub never-steps : (ns : List Name) → None ≡ steps_fault ns never
never-steps [] = refl
never-steps (n ∷ ns) = refl
