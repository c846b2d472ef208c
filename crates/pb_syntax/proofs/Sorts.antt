-- What the forms of the grammar read at a token of the code, by its sort.
use Rattle.std.proofs.Common.{◌≡◌, ℕ, zero, suc, ◌-◌, ◌<◌, List, drop, Option, Some, None, refl, sym, ap, ◌∙◌, arith}
use Rattle.pb_language.specs.Expression.{Name, Expression, Expressions, negation}
use Rattle.pb_language.specs.Grammar.{Reading, reading, Reader, Deeper, relation_of, before, closed, closed_items, items_of, chain_of, and_link, or_link, comma_link, behind_link, count_of, disjunction_of, negation_of, deeper, with_tree, all_of, expression_of}
use Rattle.pb_language.specs.Tokens.{Tokens, unreadable, tokens_of}
use Rattle.pb_syntax.specs.Forms.{link_sort, link_view}
use Rattle.pb_syntax.specs.Place.{least_width}
use Rattle.pb_syntax.specs.Letters.{sort_tokens, letters_at, meaning_at, tokens_at}
use Rattle.pb_syntax.specs.declared.lexer.Sort.{Sort}
use Rattle.pb_syntax.specs.declared.lexer.Sort.TheVariants as sort
use Rattle.pb_syntax.specs.declared.parse.Link.{Link}
use Rattle.pb_syntax.specs.declared.parse.Link.TheVariants as links
use Rattle.pb_syntax.specs.declared.lexer.Token.{Token as Place}

-- the tokens behind that one
abbrev pub behind : List ℕ → Place → Tokens
behind bs t = tokens_of (drop t.end bs)

-- the tokens from that one on, where its sort is known
pub of_sort : (bs : List ℕ) (t : Place) (s : Sort) → t.sort ≡ s → tokens_at bs t ≡ sort_tokens s (letters_at bs t) (meaning_at bs t) (behind bs t)
of_sort bs t s h = ap (λ s. sort_tokens s (letters_at bs t) (meaning_at bs t) (behind bs t)) h

pub behind-link : (bs : List ℕ) (t : Place) (l : Link) → t.sort ≡ link_sort l → behind_link (link_view l) (tokens_at bs t) ≡ Some (behind bs t)
behind-link bs t links.And h = ap (behind_link and_link) (of_sort bs t sort.And h)
behind-link bs t links.Or h = ap (behind_link or_link) (of_sort bs t sort.Or h)
behind-link bs t links.Comma h = ap (behind_link comma_link) (of_sort bs t sort.Comma h)

link_counts : (l : Link) (n w : Name) (ts : Tokens) → count_of (sort_tokens (link_sort l) n w ts) ≡ suc (count_of ts)
link_counts links.And n w ts = refl
link_counts links.Or n w ts = refl
link_counts links.Comma n w ts = refl

pub link-counts : (bs : List ℕ) (t : Place) (l : Link) → t.sort ≡ link_sort l → count_of (behind bs t) < count_of (tokens_at bs t)
link-counts bs t l h = let e = ap count_of (of_sort bs t (link_sort l) h) ∙ link_counts l (letters_at bs t) (meaning_at bs t) (behind bs t) in omega (arith, e)

no_link : (l : Link) (s : Sort) (n w : Name) (ts : Tokens) → (s ≡ link_sort l → ⊥) → behind_link (link_view l) (sort_tokens s n w ts) ≡ None
no_link links.And sort.And n w ts h = absurd (h refl)
no_link links.And s n w ts h = refl
no_link links.Or sort.Or n w ts h = absurd (h refl)
no_link links.Or s n w ts h = refl
no_link links.Comma sort.Comma n w ts h = absurd (h refl)
no_link links.Comma s n w ts h = refl

pub not-link : (bs : List ℕ) (t : Place) (l : Link) → (t.sort ≡ link_sort l → ⊥) → behind_link (link_view l) (tokens_at bs t) ≡ None
not-link bs t l h = no_link l t.sort (letters_at bs t) (meaning_at bs t) (behind bs t) h

pub link-width : (l : Link) → least_width (link_sort l) ≡ 1
link-width links.And = refl
link-width links.Or = refl
link-width links.Comma = refl

-- what stands before a token of the code is read
before-sort : {T : Type 0} (e : T) (s : Sort) (n w : Name) (ts : Tokens) → before e (sort_tokens s n w ts) ≡ Some (reading e (sort_tokens s n w ts))
before-sort e sort.End n w ts = refl
before-sort e s n w ts = refl

pub before-at : {T : Type 0} (e : T) (bs : List ℕ) (t : Place) → before e (tokens_at bs t) ≡ Some (reading e (tokens_at bs t))
before-at e bs t = before-sort e t.sort (letters_at bs t) (meaning_at bs t) (behind bs t)

pub before-next : {T : Type 0} (e : T) (bs : List ℕ) (ts : Tokens) (u : Place) → tokens_at bs u ≡ ts → before e ts ≡ Some (reading e (tokens_at bs u))
before-next e bs ts u h = ap (before e) (sym h) ∙ before-at e bs u

pub before-unread : {T : Type 0} (e : T) (ts : Tokens) → ts ≡ unreadable → before e ts ≡ None
before-unread e ts h = ap (before e) h

-- a sign that closes, and none
pub closed-read : (e : Expression) (bs : List ℕ) (t u : Place) → t.sort ≡ sort.Close → tokens_at bs u ≡ behind bs t → closed (Some (reading e (tokens_at bs t))) ≡ Some (reading e (tokens_at bs u))
closed-read e bs t u is next = ap (λ ts. closed (Some (reading e ts))) (of_sort bs t sort.Close is) ∙ before-next e bs (behind bs t) u next

closed_sort : (e : Expression) (s : Sort) (n w : Name) (ts : Tokens) → (s ≡ sort.Close → ts ≡ unreadable) → closed (Some (reading e (sort_tokens s n w ts))) ≡ None
closed_sort e sort.Close n w ts h = before-unread e ts (h refl)
closed_sort e s n w ts h = refl

pub closed-refused : (e : Expression) (bs : List ℕ) (t : Place) → (t.sort ≡ sort.Close → behind bs t ≡ unreadable) → closed (Some (reading e (tokens_at bs t))) ≡ None
closed-refused e bs t h = closed_sort e t.sort (letters_at bs t) (meaning_at bs t) (behind bs t) h

pub items-read : (es : Expressions) (bs : List ℕ) (t u : Place) → t.sort ≡ sort.CloseBracket → tokens_at bs u ≡ behind bs t → closed_items (Some (reading es (tokens_at bs t))) ≡ Some (reading es (tokens_at bs u))
items-read es bs t u is next = ap (λ ts. closed_items (Some (reading es ts))) (of_sort bs t sort.CloseBracket is) ∙ before-next es bs (behind bs t) u next

items_sort : (es : Expressions) (s : Sort) (n w : Name) (ts : Tokens) → (s ≡ sort.CloseBracket → ts ≡ unreadable) → closed_items (Some (reading es (sort_tokens s n w ts))) ≡ None
items_sort es sort.CloseBracket n w ts h = before-unread es ts (h refl)
items_sort es s n w ts h = refl

pub items-refused : (es : Expressions) (bs : List ℕ) (t : Place) → (t.sort ≡ sort.CloseBracket → behind bs t ≡ unreadable) → closed_items (Some (reading es (tokens_at bs t))) ≡ None
items-refused es bs t h = items_sort es t.sort (letters_at bs t) (meaning_at bs t) (behind bs t) h

-- the items of a list that isn't empty
items_first : (f : Reader) (s : Sort) (n w : Name) (ts : Tokens) → (s ≡ sort.CloseBracket → ⊥)
    → items_of f (sort_tokens s n w ts) ≡ closed_items (chain_of comma_link f (count_of (sort_tokens s n w ts)) (sort_tokens s n w ts))
items_first f sort.CloseBracket n w ts h = absurd (h refl)
items_first f s n w ts h = refl

pub items-chain : (f : Reader) (bs : List ℕ) (t : Place) → (t.sort ≡ sort.CloseBracket → ⊥) → items_of f (tokens_at bs t) ≡ closed_items (chain_of comma_link f (count_of (tokens_at bs t)) (tokens_at bs t))
items-chain f bs t h = items_first f t.sort (letters_at bs t) (meaning_at bs t) (behind bs t) h

items-deeper : (n : ℕ) → (n ≡ 0 → ⊥) → (deeper n).items ≡ items_of (disjunction_of (deeper (n - 1)))
items-deeper zero h = absurd (h refl)
items-deeper (suc n) h = ap (λ m. items_of (disjunction_of (deeper m))) (omega arith)

pub items-below : (n : ℕ) (bs : List ℕ) (t first : Place) → (n ≡ 0 → ⊥) → tokens_at bs first ≡ behind bs t → (deeper n).items (behind bs t) ≡ items_of (disjunction_of (deeper (n - 1))) (tokens_at bs first)
items-below n bs t first some next = ap (λ (f : Tokens → Option (Reading Expressions)). f (behind bs t)) (items-deeper n some) ∙ ap (items_of (disjunction_of (deeper (n - 1)))) (sym next)

pub items-none : (n : ℕ) (bs : List ℕ) (t : Place) → behind bs t ≡ unreadable → (deeper n).items (behind bs t) ≡ None
items-none zero bs t h = refl
items-none (suc n) bs t h = ap (items_of (disjunction_of (deeper n))) h

-- below parentheses and `not`
whole-deeper : (n : ℕ) → (n ≡ 0 → ⊥) → (deeper n).whole ≡ disjunction_of (deeper (n - 1))
whole-deeper zero h = absurd (h refl)
whole-deeper (suc n) h = ap (λ m. disjunction_of (deeper m)) (omega arith)

-- parentheses, and what the reader below them gives
in-parentheses : (bs : List ℕ) (t : Place) (n : ℕ) (r : Option (Reading Expression)) → (n ≡ 0 → ⊥) → disjunction_of (deeper (n - 1)) (behind bs t) ≡ r
    → closed ((deeper n).whole (behind bs t)) ≡ closed r
in-parentheses bs t n r some h = ap (λ (f : Reader). closed (f (behind bs t))) (whole-deeper n some) ∙ ap closed h

-- what is inside, and the token that closes it
abbrev pub InsideOf : ℕ → List ℕ → Place → Expression → Place → Type 0
InsideOf n bs t e u = closed ((deeper n).whole (behind bs t)) ≡ closed (Some (reading e (tokens_at bs u)))

pub inside-of : (n : ℕ) (bs : List ℕ) (t first : Place) (e : Expression) (u : Place) → (n ≡ 0 → ⊥) → tokens_at bs first ≡ behind bs t → disjunction_of (deeper (n - 1)) (tokens_at bs first) ≡ Some (reading e (tokens_at bs u))
    → InsideOf n bs t e u
inside-of n bs t first e u some next h = in-parentheses bs t n (Some (reading e (tokens_at bs u))) some (ap (disjunction_of (deeper (n - 1))) (sym next) ∙ h)

not_negated : (d : Deeper) (s : Sort) (n w : Name) (ts : Tokens) → (s ≡ sort.Not → ⊥) → negation_of d (sort_tokens s n w ts) ≡ relation_of d (sort_tokens s n w ts)
not_negated d sort.Not n w ts h = absurd (h refl)
not_negated d s n w ts h = refl

pub not-negated : (d : Deeper) (bs : List ℕ) (t : Place) → (t.sort ≡ sort.Not → ⊥) → negation_of d (tokens_at bs t) ≡ relation_of d (tokens_at bs t)
not-negated d bs t h = not_negated d t.sort (letters_at bs t) (meaning_at bs t) (behind bs t) h

negated-deeper : (n : ℕ) → (n ≡ 0 → ⊥) → (deeper n).negated ≡ negation_of (deeper (n - 1))
negated-deeper zero h = absurd (h refl)
negated-deeper (suc n) h = ap (λ m. negation_of (deeper m)) (omega arith)

-- what is behind `not`
pub negation-read : (n : ℕ) (bs : List ℕ) (t first : Place) (e : Expression) (u : Place) → t.sort ≡ sort.Not → (n ≡ 0 → ⊥) → tokens_at bs first ≡ behind bs t
    → negation_of (deeper (n - 1)) (tokens_at bs first) ≡ Some (reading e (tokens_at bs u)) → negation_of (deeper n) (tokens_at bs t) ≡ Some (reading (negation e) (tokens_at bs u))
negation-read n bs t first e u is some next h =
    ap (negation_of (deeper n)) (of_sort bs t sort.Not is) ∙ ap (λ (f : Reader). with_tree (λ x. negation x) (f (behind bs t))) (negated-deeper n some)
    ∙ ap (λ ts. with_tree (λ x. negation x) (negation_of (deeper (n - 1)) ts)) (sym next) ∙ ap (with_tree (λ x. negation x)) h

pub negation-refused : (n : ℕ) (bs : List ℕ) (t first : Place) → t.sort ≡ sort.Not → (n ≡ 0 → ⊥) → tokens_at bs first ≡ behind bs t
    → negation_of (deeper (n - 1)) (tokens_at bs first) ≡ None → negation_of (deeper n) (tokens_at bs t) ≡ None
negation-refused n bs t first is some next h =
    ap (negation_of (deeper n)) (of_sort bs t sort.Not is) ∙ ap (λ (f : Reader). with_tree (λ x. negation x) (f (behind bs t))) (negated-deeper n some)
    ∙ ap (λ ts. with_tree (λ x. negation x) (negation_of (deeper (n - 1)) ts)) (sym next) ∙ ap (with_tree (λ x. negation x)) h

-- an expression behind which the text ends, and one behind which it goes on
pub whole-read : (n : ℕ) (bs : List ℕ) (from : ℕ) (t : Place) (e : Expression) (u : Place) → n ≡ 32 → tokens_at bs t ≡ tokens_of (drop from bs)
    → disjunction_of (deeper n) (tokens_at bs t) ≡ Some (reading e (tokens_at bs u)) → u.sort ≡ sort.End → expression_of (drop from bs) ≡ Some e
whole-read n bs from t e u deep there read is =
    ap (λ ts. all_of (disjunction_of (deeper 32) ts)) (sym there) ∙ ap (λ n. all_of (disjunction_of (deeper n) (tokens_at bs t))) (sym deep)
    ∙ ap all_of read ∙ ap (λ ts. all_of (Some (reading e ts))) (of_sort bs u sort.End is)

more_tokens : (e : Expression) (s : Sort) (n w : Name) (ts : Tokens) → (s ≡ sort.End → ⊥) → all_of (Some (reading e (sort_tokens s n w ts))) ≡ None
more_tokens e sort.End n w ts h = absurd (h refl)
more_tokens e s n w ts h = refl

pub not-whole : (n : ℕ) (bs : List ℕ) (from : ℕ) (t : Place) (e : Expression) (u : Place) → n ≡ 32 → tokens_at bs t ≡ tokens_of (drop from bs)
    → disjunction_of (deeper n) (tokens_at bs t) ≡ Some (reading e (tokens_at bs u)) → (u.sort ≡ sort.End → ⊥) → expression_of (drop from bs) ≡ None
not-whole n bs from t e u deep there read more =
    ap (λ ts. all_of (disjunction_of (deeper 32) ts)) (sym there) ∙ ap (λ n. all_of (disjunction_of (deeper n) (tokens_at bs t))) (sym deep)
    ∙ ap all_of read ∙ more_tokens e u.sort (letters_at bs u) (meaning_at bs u) (behind bs u) more
