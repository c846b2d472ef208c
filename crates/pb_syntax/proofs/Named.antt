-- Tests and filters, at the tokens of the code.
use Rattle.std.proofs.Common.{◌≡◌, ℕ, ◌<◌, ◌≤◌, zero, suc, List, Some, None, refl, sym, ap, ◌∙◌, arith}
use Rattle.pb_language.specs.Expression.{Name, Expression}
use Rattle.pb_language.specs.Grammar.{reading, Deeper, deeper, before_some, count_of, filter_of, filtered, operand_at, operand_of, test_named, test_of, then_on}
use Rattle.pb_language.specs.Tokens.{Tokens, token, sign, bar}
use Rattle.pb_syntax.specs.Letters.{sort_tokens, letters_at, meaning_at, tokens_at}
use Rattle.pb_syntax.specs.declared.lexer.Sort.{Sort}
use Rattle.pb_syntax.specs.declared.lexer.Sort.TheVariants as sort
use Rattle.pb_syntax.specs.declared.lexer.Token.{Token as Place}
use Rattle.pb_syntax.proofs.Fewer.{bare-fewer, filter-fewer}
use Rattle.pb_syntax.proofs.Sorts.{behind, of_sort, before-next}

-- a test
pub test-read : (bs : List ℕ) (t u : Place) (m : Name) (a e : Expression) → t.sort ≡ sort.Name → letters_at bs t ≡ m → Some e ≡ test_named m a → tokens_at bs u ≡ behind bs t
    → test_of a (tokens_at bs t) ≡ Some (reading e (tokens_at bs u))
test-read bs t u m a e is named there next =
    ap (test_of a) (of_sort bs t sort.Name is) ∙ ap (λ n. before_some (test_named n a) (behind bs t)) named
    ∙ ap (λ o. before_some o (behind bs t)) (sym there) ∙ before-next e bs (behind bs t) u next

-- filters one after another: an operand with some of them is read, and these tokens stand behind it
pub record Filtering (n : ℕ) (ts : Tokens) (e : Expression) (us : Tokens) : Type 0 where
  pub steps : ℕ
  pub enough : count_of us ≤ steps
  pub left : operand_of (deeper n) ts ≡ filtered (deeper n) steps e us

pub filters-begin : (n : ℕ) (ts : Tokens) (e : Expression) (us : Tokens) → operand_at (deeper n) ts ≡ Some (reading e us) → Filtering n ts e us
filters-begin n ts e us h =
    let fewer = bare-fewer n ts e us h in
    record { steps = count_of ts; enough = omega (arith, fewer); left = ap (λ r. then_on r (filtered (deeper n) (count_of ts))) h }

before_of : (k n : ℕ) → n < k → (m : ℕ) × (k ≡ suc m) × (n ≤ m)
before_of zero n h = absurd (omega (arith, h))
before_of (suc k) n h = (k, refl, omega (arith, h))

abbrev Goes : ℕ → Tokens → Expression → Tokens → Type 0
Goes n ts e vs = (m : ℕ) × (count_of vs ≤ m) × (operand_of (deeper n) ts ≡ then_on (filter_of (deeper n) e vs) (filtered (deeper n) m))

one_goes : (n : ℕ) (ts : Tokens) (e : Expression) (bs : List ℕ) (t : Place) → Filtering n ts e (tokens_at bs t) → t.sort ≡ sort.Pipe → Goes n ts e (behind bs t)
one_goes n ts e bs t h is =
    let there = of_sort bs t sort.Pipe is in
    let counted = ap count_of there in
    let m = before_of h.steps (count_of (behind bs t)) (omega (arith, h.enough, counted)) in
    (m.0, m.2, h.left ∙ ap (λ us. filtered (deeper n) h.steps e us) there ∙ ap (λ k. filtered (deeper n) k e (token (sign bar) (behind bs t))) m.1)

pub filters-go : (n : ℕ) (ts : Tokens) (a : Expression) (bs : List ℕ) (t m u : Place) (e : Expression) → Filtering n ts a (tokens_at bs t) → t.sort ≡ sort.Pipe → tokens_at bs m ≡ behind bs t
    → filter_of (deeper n) a (tokens_at bs m) ≡ Some (reading e (tokens_at bs u)) → Filtering n ts e (tokens_at bs u)
filters-go n ts a bs t m u e h is there read =
    let g = one_goes n ts a bs t h is in
    let found = ap (filter_of (deeper n) a) (sym there) ∙ read in
    let fewer = filter-fewer n a (behind bs t) e (tokens_at bs u) found in
    record { steps = g.0; enough = omega (arith, g.1, fewer); left = g.2 ∙ ap (λ r. then_on r (filtered (deeper n) g.0)) found }

pub filters-break : (n : ℕ) (ts : Tokens) (a : Expression) (bs : List ℕ) (t : Place) → Filtering n ts a (tokens_at bs t) → t.sort ≡ sort.Pipe → filter_of (deeper n) a (behind bs t) ≡ None → operand_of (deeper n) ts ≡ None
filters-break n ts a bs t h is none =
    let g = one_goes n ts a bs t h is in
    g.2 ∙ ap (λ r. then_on r (filtered (deeper n) g.0)) none

no_filter : (d : Deeper) (k : ℕ) (e : Expression) (s : Sort) (n w : Name) (ts : Tokens) → (s ≡ sort.Pipe → ⊥) → filtered d k e (sort_tokens s n w ts) ≡ Some (reading e (sort_tokens s n w ts))
no_filter d zero e s n w ts h = refl
no_filter d (suc k) e sort.Pipe n w ts h = absurd (h refl)
no_filter d (suc k) e s n w ts h = refl

pub filters-end : (n : ℕ) (ts : Tokens) (e : Expression) (bs : List ℕ) (t : Place) → Filtering n ts e (tokens_at bs t) → (t.sort ≡ sort.Pipe → ⊥) → operand_of (deeper n) ts ≡ Some (reading e (tokens_at bs t))
filters-end n ts e bs t h is = h.left ∙ no_filter (deeper n) h.steps e t.sort (letters_at bs t) (meaning_at bs t) (behind bs t) is
