-- A chain of operands with a link between them, as it is read one by one.
use Rattle.std.proofs.Common.{◌≡◌, ℕ, zero, suc, ◌<◌, ◌≤◌, List, [], ◌∷◌, ◌++◌, length, Option, Some, None, refl, sym, ap, ◌∙◌, arith}
use Rattle.pb_language.specs.Expression.{Expression, Expressions, no_expressions, expression}
use Rattle.pb_language.specs.Grammar.{Reading, reading, Reader, Link, behind_link, with_tree, then_on, chain_on, chain_of, joined, count_of}
use Rattle.pb_language.specs.Tokens.{Tokens}
use Rattle.pb_syntax.specs.ExprView.{expr_view, exprs_view}
use Rattle.pb_syntax.specs.declared.expr.Expr.{Expr}

-- an operand before the others
abbrev pub first : Expression → Option (Reading Expressions) → Option (Reading Expressions)
first e r = with_tree (λ es. expression e es) r

-- the operands that are read already, before the others
abbrev pub prepend : Expressions → Option (Reading Expressions) → Option (Reading Expressions)
prepend no_expressions r = r
prepend (expression e es) r = first e (prepend es r)

-- the operands behind the link, where it is there
abbrev pub rest_of : Tokens → Option Tokens → (Tokens → Option (Reading Expressions)) → Option (Reading Expressions)
rest_of ts None more = Some (reading no_expressions ts)
rest_of ts (Some us) more = more us

-- what is left of the chain of `ts`, with enough of its steps: the operands `es` are read, and these tokens stand behind them
pub record Begun (l : Link) (f : Reader) (ts : Tokens) (es : Expressions) (us : Tokens) : Type 0 where
  pub steps : ℕ
  pub enough : count_of us ≤ steps
  pub left : chain_of l f (count_of ts) ts ≡ prepend es (rest_of us (behind_link l us) (chain_of l f steps))

on-rest : (e : Expression) (ts : Tokens) (o : Option Tokens) (more : Tokens → Option (Reading Expressions)) → chain_on e ts o more ≡ first e (rest_of ts o more)
on-rest e ts None more = refl
on-rest e ts (Some us) more = refl

prepend-last : (es : List Expr) (e : Expr) (r : Option (Reading Expressions)) → prepend (exprs_view (es ++ e ∷ [])) r ≡ prepend (exprs_view es) (first (expr_view e) r)
prepend-last [] e r = refl
prepend-last (x ∷ es) e r = ap (first (expr_view x)) (prepend-last es e r)

prepend-none : (es : Expressions) → prepend es None ≡ None
prepend-none no_expressions = refl
prepend-none (expression e es) = ap (first e) (prepend-none es)

prepend-end : (es : Expressions) (ts : Tokens) → prepend es (Some (reading no_expressions ts)) ≡ Some (reading es ts)
prepend-end no_expressions ts = refl
prepend-end (expression e es) ts = ap (first e) (prepend-end es ts)

-- one operand of a chain with some steps left
one_operand : (l : Link) (f : Reader) (n : ℕ) (ts : Tokens) (e : Expression) (us : Tokens) → f ts ≡ Some (reading e us) → chain_of l f (suc n) ts ≡ first e (rest_of us (behind_link l us) (chain_of l f n))
one_operand l f n ts e us h = ap (λ r. then_on r (λ e us. chain_on e us (behind_link l us) (chain_of l f n))) h ∙ on-rest e us (behind_link l us) (chain_of l f n)

no_operand : (l : Link) (f : Reader) (n : ℕ) (ts : Tokens) → f ts ≡ None → chain_of l f n ts ≡ None
no_operand l f zero ts h = refl
no_operand l f (suc n) ts h = ap (λ r. then_on r (λ e us. chain_on e us (behind_link l us) (chain_of l f n))) h

begun-by : (l : Link) (f : Reader) (k n : ℕ) (ts : Tokens) (e : Expression) (us : Tokens) → k ≡ suc n → f ts ≡ Some (reading e us) → chain_of l f k ts ≡ first e (rest_of us (behind_link l us) (chain_of l f n))
begun-by l f k n ts e us is h = ap (λ k. chain_of l f k ts) is ∙ one_operand l f n ts e us h

before_of : (k n : ℕ) → n < k → (m : ℕ) × (k ≡ suc m) × (n ≤ m)
before_of zero n h = absurd (omega (arith, h))
before_of (suc k) n h = (k, refl, omega (arith, h))

pub chain-begins : (l : Link) (f : Reader) (ts : Tokens) (e : Expression) (us : Tokens) → f ts ≡ Some (reading e us) → count_of us < count_of ts → Begun l f ts (expression e no_expressions) us
chain-begins l f ts e us h less =
    let m = before_of (count_of ts) (count_of us) less in
    record { steps = m.0; enough = m.2; left = begun-by l f (count_of ts) m.0 ts e us m.1 h }

-- a further operand behind the link
pub chain-goes : (l : Link) (f : Reader) (ts : Tokens) (es : List Expr) (us vs : Tokens) (e : Expr) (next : Tokens) → Begun l f ts (exprs_view es) us
    → behind_link l us ≡ Some vs → count_of vs < count_of us → f vs ≡ Some (reading (expr_view e) next) → count_of next < count_of vs → Begun l f ts (exprs_view (es ++ e ∷ [])) next
chain-goes l f ts es us vs e next b there less h fewer =
    let m = before_of b.steps (count_of next) (omega (arith, b.enough, less, fewer)) in
    record {
      steps = m.0;
      enough = m.2;
      left =
          b.left ∙ ap (λ o. prepend (exprs_view es) (rest_of us o (chain_of l f b.steps))) there
          ∙ ap (prepend (exprs_view es)) (begun-by l f b.steps m.0 vs (expr_view e) next m.1 h)
          ∙ sym (prepend-last es e (rest_of next (behind_link l next) (chain_of l f m.0)));
    }

-- no operand behind the link
pub chain-breaks : (l : Link) (f : Reader) (ts : Tokens) (es : Expressions) (us vs : Tokens) → Begun l f ts es us → behind_link l us ≡ Some vs → f vs ≡ None → chain_of l f (count_of ts) ts ≡ None
chain-breaks l f ts es us vs b there h =
    b.left ∙ ap (λ o. prepend es (rest_of us o (chain_of l f b.steps))) there
    ∙ ap (prepend es) (no_operand l f b.steps vs h) ∙ prepend-none es

-- no link behind the operands
pub chain-ends : (l : Link) (f : Reader) (ts : Tokens) (es : Expressions) (us : Tokens) → Begun l f ts es us → behind_link l us ≡ None → chain_of l f (count_of ts) ts ≡ Some (reading es us)
chain-ends l f ts es us b there =
    b.left ∙ ap (λ o. prepend es (rest_of us o (chain_of l f b.steps))) there ∙ prepend-end es us

-- any other number of operands than one stays a chain
pub joined-other : (make : Expressions → Expression) (es : List Expr) → (length es ≡ 1 → ⊥) → joined make (exprs_view es) ≡ make (exprs_view es)
joined-other make [] h = refl
joined-other make (e ∷ []) h = absurd (h refl)
joined-other make (e ∷ x ∷ es) h = refl

-- no first operand
pub chain-none : (l : Link) (f : Reader) (n : ℕ) (ts : Tokens) → f ts ≡ None → chain_of l f n ts ≡ None
chain-none l f n ts h = no_operand l f n ts h
