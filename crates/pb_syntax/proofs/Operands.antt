-- The operands of a chain, one by one, at the tokens of the code.
use Rattle.std.proofs.Common.{◌≡◌, ℕ, ◌<◌, List, [], ◌∷◌, ◌++◌, Some, None, sym, ap, ◌∙◌, subst}
use Rattle.pb_language.specs.Expression.{Expression}
use Rattle.pb_language.specs.Grammar.{reading, chain_of, count_of, deeper}
use Rattle.pb_language.specs.Tokens.{Tokens, unreadable}
use Rattle.pb_syntax.specs.ExprView.{expr_view, exprs_view}
use Rattle.pb_syntax.specs.Forms.{link_view, link_sort, linked_of}
use Rattle.pb_syntax.specs.Letters.{tokens_at}
use Rattle.pb_syntax.specs.declared.expr.Expr.{Expr}
use Rattle.pb_syntax.specs.declared.lexer.Token.{Token as Place}
use Rattle.pb_syntax.specs.declared.parse.Link.{Link}
use Rattle.pb_syntax.specs.declared.parse.Link.TheVariants as links
use Rattle.pb_syntax.proofs.Chains.{Begun, chain-begins, chain-goes, chain-breaks, chain-ends}
use Rattle.pb_syntax.proofs.Fewer.{negation-fewer, conjunction-fewer, disjunction-fewer}
use Rattle.pb_syntax.proofs.Sorts.{behind, behind-link, link-counts, not-link}

linked-fewer : (l : Link) (n : ℕ) (ts : Tokens) (e : Expression) (us : Tokens) → linked_of l (deeper n) ts ≡ Some (reading e us) → count_of us < count_of ts
linked-fewer links.And n ts e us h = negation-fewer n ts e us h
linked-fewer links.Or n ts e us h = conjunction-fewer n ts e us h
linked-fewer links.Comma n ts e us h = disjunction-fewer n ts e us h

alone : (xs ys : List Expr) (e : Expr) → xs ≡ ys ++ e ∷ [] → ys ≡ [] → e ∷ [] ≡ xs
alone xs ys e h none = sym (h ∙ ap (λ zs. zs ++ e ∷ []) none)

-- the operands that are read
abbrev pub Operands : Link → ℕ → Tokens → List Expr → Tokens → Type 0
Operands l n ts xs us = Begun (link_view l) (linked_of l (deeper n)) ts (exprs_view xs) us

pub operand-first : (l : Link) (n : ℕ) (ts us : Tokens) (xs ys : List Expr) (e : Expr) → linked_of l (deeper n) ts ≡ Some (reading (expr_view e) us) → xs ≡ ys ++ e ∷ [] → ys ≡ [] → Operands l n ts xs us
operand-first l n ts us xs ys e h pushed none =
    subst (λ (zs : List Expr). Operands l n ts zs us) (alone xs ys e pushed none)
    (chain-begins (link_view l) (linked_of l (deeper n)) ts (expr_view e) us h (linked-fewer l n ts (expr_view e) us h))

pub operand-next : (l : Link) (bs : List ℕ) (n : ℕ) (ts : Tokens) (ys : List Expr) (after operand next : Place) (xs : List Expr) (e : Expr) → Operands l n ts ys (tokens_at bs after) → after.sort ≡ link_sort l
    → tokens_at bs operand ≡ behind bs after → linked_of l (deeper n) (tokens_at bs operand) ≡ Some (reading (expr_view e) (tokens_at bs next)) → xs ≡ ys ++ e ∷ [] → Operands l n ts xs (tokens_at bs next)
operand-next l bs n ts ys after operand next xs e h is there found pushed =
    let found_behind = ap (linked_of l (deeper n)) (sym there) ∙ found in
    subst (λ (zs : List Expr). Operands l n ts zs (tokens_at bs next)) (sym pushed)
    (chain-goes (link_view l) (linked_of l (deeper n)) ts ys (tokens_at bs after) (behind bs after) e (tokens_at bs next) h (behind-link bs after l is) (link-counts bs after l is) found_behind
    (linked-fewer l n (behind bs after) (expr_view e) (tokens_at bs next) found_behind))

pub operand-breaks : (l : Link) (bs : List ℕ) (n : ℕ) (ts : Tokens) (ys : List Expr) (after : Place) → Operands l n ts ys (tokens_at bs after) → after.sort ≡ link_sort l → linked_of l (deeper n) (behind bs after) ≡ None
    → chain_of (link_view l) (linked_of l (deeper n)) (count_of ts) ts ≡ None
operand-breaks l bs n ts ys after h is none =
    chain-breaks (link_view l) (linked_of l (deeper n)) ts (exprs_view ys) (tokens_at bs after) (behind bs after) h (behind-link bs after l is) none

pub operands-done : (l : Link) (bs : List ℕ) (n : ℕ) (ts : Tokens) (ys : List Expr) (after : Place) → Operands l n ts ys (tokens_at bs after) → (after.sort ≡ link_sort l → ⊥)
    → chain_of (link_view l) (linked_of l (deeper n)) (count_of ts) ts ≡ Some (reading (exprs_view ys) (tokens_at bs after))
operands-done l bs n ts ys after h is =
    chain-ends (link_view l) (linked_of l (deeper n)) ts (exprs_view ys) (tokens_at bs after) h (not-link bs after l is)

-- no operand where no token can be read
pub linked-unread : (l : Link) (n : ℕ) (ts : Tokens) → ts ≡ unreadable → linked_of l (deeper n) ts ≡ None
linked-unread links.And n ts h = ap (linked_of links.And (deeper n)) h
linked-unread links.Or n ts h = ap (linked_of links.Or (deeper n)) h
linked-unread links.Comma n ts h = ap (linked_of links.Comma (deeper n)) h
