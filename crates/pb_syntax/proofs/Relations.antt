-- What relates two operands, at the tokens of the code.
use Rattle.std.proofs.Common.{◌≡◌, ℕ, List, Bool, true, false, ◌⊎◌, inl, inr, refl, sym, ap, ◌∙◌}
use Rattle.pb_language.specs.Expression.{Name, Expression, negation}
use Rattle.pb_language.specs.Grammar.{Reader, contained, related, with_tree}
use Rattle.pb_language.specs.Tokens.{Tokens, token, word, not_word}
use Rattle.pb_syntax.specs.Forms.{related_by}
use Rattle.pb_syntax.specs.Letters.{sort_tokens, letters_at, meaning_at, tokens_at}
use Rattle.pb_syntax.specs.declared.lexer.Sort.{Sort}
use Rattle.pb_syntax.specs.declared.lexer.Sort.TheVariants as sort
use Rattle.pb_syntax.specs.declared.lexer.Token.{Token as Place}
use Rattle.pb_syntax.proofs.Sorts.{behind}

abbrev relates : Sort → Bool
relates sort.Equal = true
relates sort.Unequal = true
relates sort.In = true
relates sort.Less = true
relates sort.AtMost = true
relates sort.More = true
relates sort.AtLeast = true
relates s = false

sign_relates : (s : Sort) (n w : Name) (ts : Tokens) (a : Expression) (f : Reader) → relates s ≡ true → related f a (sort_tokens s n w ts) ≡ with_tree (λ b. related_by s a b) (f ts)
sign_relates sort.Equal n w ts a f h = refl
sign_relates sort.Unequal n w ts a f h = refl
sign_relates sort.In n w ts a f h = refl
sign_relates sort.Less n w ts a f h = refl
sign_relates sort.AtMost n w ts a f h = refl
sign_relates sort.More n w ts a f h = refl
sign_relates sort.AtLeast n w ts a f h = refl
sign_relates s n w ts a f h = cc

sign-at : (bs : List ℕ) (t u : Place) (a : Expression) (f : Reader) → relates t.sort ≡ true → tokens_at bs u ≡ behind bs t → related f a (tokens_at bs t) ≡ with_tree (λ b. related_by t.sort a b) (f (tokens_at bs u))
sign-at bs t u a f is next =
    sign_relates t.sort (letters_at bs t) (meaning_at bs t) (behind bs t) a f is ∙ ap (λ ts. with_tree (λ b. related_by t.sort a b) (f ts)) (sym next)

equal-relates : (s : Sort) → (s ≡ sort.Equal) ⊎ ((s ≡ sort.Unequal) ⊎ (s ≡ sort.In)) → relates s ≡ true
equal-relates s (inl e) = ap relates e
equal-relates s (inr (inl e)) = ap relates e
equal-relates s (inr (inr e)) = ap relates e

order-relates : (s : Sort) → (s ≡ sort.Less) ⊎ ((s ≡ sort.AtMost) ⊎ ((s ≡ sort.More) ⊎ (s ≡ sort.AtLeast))) → relates s ≡ true
order-relates s (inl e) = ap relates e
order-relates s (inr (inl e)) = ap relates e
order-relates s (inr (inr (inl e))) = ap relates e
order-relates s (inr (inr (inr e))) = ap relates e

-- `==`, `!=` or `in`, and the token behind it
pub related-sign : (bs : List ℕ) (t u : Place) (a : Expression) (f : Reader) → (t.sort ≡ sort.Equal) ⊎ ((t.sort ≡ sort.Unequal) ⊎ (t.sort ≡ sort.In)) → tokens_at bs u ≡ behind bs t
    → related f a (tokens_at bs t) ≡ with_tree (λ b. related_by t.sort a b) (f (tokens_at bs u))
related-sign bs t u a f is next = sign-at bs t u a f (equal-relates t.sort is) next

-- `<`, `<=`, `>` or `>=`
pub related-order : (bs : List ℕ) (t u : Place) (a : Expression) (f : Reader) → (t.sort ≡ sort.Less) ⊎ ((t.sort ≡ sort.AtMost) ⊎ ((t.sort ≡ sort.More) ⊎ (t.sort ≡ sort.AtLeast))) → tokens_at bs u ≡ behind bs t
    → related f a (tokens_at bs t) ≡ with_tree (λ b. related_by t.sort a b) (f (tokens_at bs u))
related-order bs t u a f is next = sign-at bs t u a f (order-relates t.sort is) next

-- `not in`, and the token behind it
pub related-not-in : (bs : List ℕ) (t m u : Place) (a : Expression) (f : Reader) → t.sort ≡ sort.Not → tokens_at bs m ≡ behind bs t → m.sort ≡ sort.In → tokens_at bs u ≡ behind bs m
    → related f a (tokens_at bs t) ≡ with_tree (λ b. related_by t.sort a b) (f (tokens_at bs u))
related-not-in bs t m u a f is there also next =
    ap (λ s. related f a (sort_tokens s (letters_at bs t) (meaning_at bs t) (behind bs t))) is
    ∙ ap (λ ts. related f a (token (word not_word (letters_at bs t)) ts)) (sym there)
    ∙ ap (λ s. related f a (token (word not_word (letters_at bs t)) (sort_tokens s (letters_at bs m) (meaning_at bs m) (behind bs m)))) also
    ∙ ap (λ ts. with_tree (λ b. negation (contained a b)) (f ts)) (sym next)
    ∙ ap (λ s. with_tree (λ b. related_by s a b) (f (tokens_at bs u))) (sym is)
