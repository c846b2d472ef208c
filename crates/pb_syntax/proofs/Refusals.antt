-- A fault that is passed on refuses what it refused.
use Rattle.std.proofs.Common.{◌≡◌, ℕ, List, drop, Option, Some, None, Result, Ok, Err, IfErr, subst, sym, ap, ◌∙◌}
use Rattle.std.specs.Result.{IsErrAnd}
use Rattle.pb_semantics.specs.Gives.{FaultGives, Gives}
use Rattle.pb_language.specs.Expression.{Expression}
use Rattle.pb_language.specs.Grammar.{all_of, deeper, disjunction_of, expression_of}
use Rattle.pb_language.specs.Tokens.{tokens_of}
use Rattle.pb_syntax.specs.Letters.{tokens_at}
use Rattle.pb_syntax.specs.Reads.{IsRefused}
use Rattle.pb_syntax.specs.ExprView.{expr_view}
use Rattle.pb_syntax.specs.Trees.{no_tree}
use Rattle.pb_syntax.specs.declared.expr.Expr.{Expr}
use Rattle.pb_syntax.specs.declared.lexer.Token.{Token as Place}
use Rattle.pb_syntax.specs.declared.fault.ExprFault.{ExprFault}
use Rattle.pb_syntax.specs.declared.fault.ExprFault.TheVariants.{Unreadable, TooDeep, NoMemory}

-- what isn't there is refused by any fault
pub refuses-none : {X : Type 0} → (f : ExprFault) (x : Option X) → x ≡ None → FaultGives (no_tree f) x
refuses-none (Unreadable at) x h = h
refuses-none TooDeep x h = h
refuses-none NoMemory x h = tt

-- what isn't there without another thing is refused with it
pub refuses-more : {X Y : Type 0} → (f : ExprFault) (x : Option X) (y : Option Y) → FaultGives (no_tree f) x → (x ≡ None → y ≡ None) → FaultGives (no_tree f) y
refuses-more (Unreadable at) x y h g = g h
refuses-more TooDeep x y h g = g h
refuses-more NoMemory x y h g = tt

pub passed : {A : Type 0} → (r : Result A ExprFault) (f : ExprFault) (P : ExprFault → Type 0) → IsErrAnd r (λ e. e ≡ f) → P f → IfErr r P
passed (Ok a) f P h g = tt
passed (Err e) f P h g = subst P (sym h) g

pub passed-tree : (r : Result Expr ExprFault) (f : ExprFault) (d : Option Expression) → IsErrAnd r (λ e. e ≡ f) → FaultGives (no_tree f) d → Gives (λ e. Some (expr_view e)) no_tree r d
passed-tree (Ok e) f d h g = absurd h
passed-tree (Err e) f d h g = subst (λ e. FaultGives (no_tree e) d) (sym h) g

pub passed-refused : {A X : Type 0} → (bs : List ℕ) (r : Result A ExprFault) (f : ExprFault) (x : Option X) → IsErrAnd r (λ e. e ≡ f) → IsRefused X bs f x → IfErr r (λ e. IsRefused X bs e x)
passed-refused {X = X} bs (Ok a) f x h g = tt
passed-refused {X = X} bs (Err e) f x h g = subst (λ e. IsRefused X bs e x) (sym h) g

-- what isn't read as an operand is no expression
pub tree-refused : (n : ℕ) (bs : List ℕ) (from : ℕ) (t : Place) (r : Result Expr ExprFault) (f : ExprFault) → n ≡ 32 → tokens_at bs t ≡ tokens_of (drop from bs)
    → IsErrAnd r (λ e. e ≡ f) → FaultGives (no_tree f) (disjunction_of (deeper n) (tokens_at bs t)) → Gives (λ e. Some (expr_view e)) no_tree r (expression_of (drop from bs))
tree-refused n bs from t (Ok e) f deep there h g = absurd h
tree-refused n bs from t (Err e) f deep there h g =
    subst (λ e. FaultGives (no_tree e) (expression_of (drop from bs))) (sym h)
    (refuses-more f (disjunction_of (deeper n) (tokens_at bs t)) (expression_of (drop from bs)) g
    (λ none. ap (λ ts. all_of (disjunction_of (deeper 32) ts)) (sym there) ∙ ap (λ n. all_of (disjunction_of (deeper n) (tokens_at bs t))) (sym deep) ∙ ap all_of none))
