-- The steps of a path, one after another, and what stands in brackets.
use Rattle.std.specs.Result.{IsErrAnd}
use Rattle.std.proofs.Common.{◌≡◌, ℕ, zero, suc, List, [], ◌∷◌, ◌++◌, Option, Some, None, Result, Ok, Err, IfErr, subst, String, Global, string_bytes, refl, sym, ap, ◌∙◌}
use Rattle.pb_language.specs.Expression.{Name}
use Rattle.pb_language.specs.Grammar.{Reading, reading, valid, with_tree, Next, no_step, a_step, step_to, bracketed_step, next_step, go_on, steps_of}
use Rattle.pb_language.specs.Tokens.{Tokens, unreadable, token, quoted}
use Rattle.pb_syntax.specs.ExprView.{names_of}
use Rattle.pb_syntax.specs.Letters.{sort_tokens, letters_at, meaning_at, tokens_at}
use Rattle.pb_syntax.specs.Reads.{IsNoStep, IsRefused}
use Rattle.pb_syntax.specs.declared.fault.ExprFault.{ExprFault}
use Rattle.pb_syntax.specs.declared.lexer.Sort.{Sort}
use Rattle.pb_syntax.specs.declared.lexer.Sort.TheVariants as sort
use Rattle.pb_syntax.specs.declared.lexer.Token.{Token as Place}
use Rattle.pb_syntax.proofs.Refusals.{refuses-more}
use Rattle.pb_syntax.proofs.Sorts.{behind, of_sort}

-- the steps that are read already, before the others
abbrev pub with_steps : List Name → Option (Reading (List Name)) → Option (Reading (List Name))
with_steps [] r = r
with_steps (n ∷ ns) r = with_tree (λ ms. n ∷ ms) (with_steps ns r)

with_steps-last : (ns : List Name) (n : Name) (r : Option (Reading (List Name))) → with_steps (ns ++ n ∷ []) r ≡ with_steps ns (with_tree (λ ms. n ∷ ms) r)
with_steps-last [] n r = refl
with_steps-last (m ∷ ns) n r = ap (with_tree (λ ms. m ∷ ms)) (with_steps-last ns n r)

pub with_steps-none : (ns : List Name) → with_steps ns None ≡ None
with_steps-none [] = refl
with_steps-none (m ∷ ns) = ap (with_tree (λ ms. m ∷ ms)) (with_steps-none ns)

with_steps-end : (ns : List Name) (ts : Tokens) → with_steps ns (Some (reading [] ts)) ≡ Some (reading ns ts)
with_steps-end [] ts = refl
with_steps-end (m ∷ ns) ts = ap (with_tree (λ ms. m ∷ ms)) (with_steps-end ns ts)

names_of-push : (ns : List (String Global)) (n : String Global) → names_of (ns ++ n ∷ []) ≡ names_of ns ++ string_bytes n ∷ []
names_of-push [] n = refl
names_of-push (x ∷ ns) n = ap (λ ms. string_bytes x ∷ ms) (names_of-push ns n)

-- the loop's turns
abbrev pub Left : Option (Reading (List Name)) → List Name → ℕ → Tokens → Type 0
Left x ns k ts = x ≡ with_steps ns (steps_of k ts)

pub steps_unread : (k : ℕ) → steps_of k unreadable ≡ None
steps_unread zero = refl
steps_unread (suc k) = refl

steps_refused : (bs : List ℕ) (e : ExprFault) (k : ℕ) (ts : Tokens) → IsNoStep bs e (next_step ts) → IsRefused (Reading (List Name)) bs e (steps_of k ts)
steps_refused bs e zero ts h = h ts (λ us. None) refl
steps_refused bs e (suc k) ts h = h ts (steps_of k) (steps_unread k)

pub steps-stuck : (bs : List ℕ) (e : ExprFault) (x : Option (Reading (List Name))) (ns : List Name) (k : ℕ) (ts : Tokens) → Left x ns k ts → IsNoStep bs e (next_step ts) → IsRefused (Reading (List Name)) bs e x
steps-stuck bs e x ns k ts left h =
    let r = steps_refused bs e k ts h in
    record { place = r.place; refused = refuses-more e (steps_of k ts) x r.refused (λ none. left ∙ ap (with_steps ns) none ∙ with_steps-none ns) }

step_over : (k : ℕ) (n : Name) (ts us : Tokens) → k ≡ 0 → next_step ts ≡ a_step n us → steps_of k ts ≡ None
step_over zero n ts us e h = ap (λ x. go_on x ts (λ us. None)) h
step_over (suc k) n ts us e h = absurd (cc e)

pub steps-many : (x : Option (Reading (List Name))) (ns : List Name) (k : ℕ) (n : Name) (ts us : Tokens) → Left x ns k ts → k ≡ 0 → next_step ts ≡ a_step n us → x ≡ None
steps-many x ns k n ts us left e h = left ∙ ap (with_steps ns) (step_over k n ts us e h) ∙ with_steps-none ns

step_on : (k j : ℕ) (n : Name) (ts us : Tokens) → k ≡ suc j → next_step ts ≡ a_step n us → steps_of k ts ≡ with_tree (λ ms. n ∷ ms) (steps_of j us)
step_on k j n ts us e h = ap (λ k. steps_of k ts) e ∙ ap (λ x. go_on x ts (steps_of j)) h

pub steps-next : (x : Option (Reading (List Name))) (ns : List (String Global)) (k j : ℕ) (n : String Global) (ts us : Tokens) → Left x (names_of ns) k ts → k ≡ suc j → next_step ts ≡ a_step (string_bytes n) us → Left x (names_of (ns ++ n ∷ [])) j us
steps-next x ns k j n ts us left e h =
    left ∙ ap (with_steps (names_of ns)) (step_on k j (string_bytes n) ts us e h) ∙ sym (with_steps-last (names_of ns) (string_bytes n) (steps_of j us))
    ∙ ap (λ ms. with_steps ms (steps_of j us)) (sym (names_of-push ns n))

step_none : (k : ℕ) (ts : Tokens) → next_step ts ≡ no_step → steps_of k ts ≡ Some (reading [] ts)
step_none zero ts h = ap (λ x. go_on x ts (λ us. None)) h
step_none (suc k) ts h = ap (λ x. go_on x ts (steps_of k)) h

pub steps-done : (x : Option (Reading (List Name))) (ns : List Name) (k : ℕ) (ts : Tokens) → Left x ns k ts → next_step ts ≡ no_step → x ≡ Some (reading ns ts)
steps-done x ns k ts left h = left ∙ ap (with_steps ns) (step_none k ts h) ∙ with_steps-end ns ts

-- a name in brackets
pub bracket-step : (bs : List ℕ) (t : Place) → t.sort ≡ sort.OpenBracket → next_step (tokens_at bs t) ≡ bracketed_step (behind bs t)
bracket-step bs t is = ap next_step (of_sort bs t sort.OpenBracket is)

quoted-at : (bs : List ℕ) (t m : Place) → tokens_at bs m ≡ behind bs t → m.sort ≡ sort.Text → bracketed_step (behind bs t) ≡ bracketed_step (token (quoted (meaning_at bs m)) (behind bs m))
quoted-at bs t m there is = ap bracketed_step (sym there) ∙ ap bracketed_step (of_sort bs m sort.Text is)

open_sort : (x v : Name) (s : Sort) (n w : Name) (ts us : Tokens) (more : Tokens → Option (Reading (List Name))) → valid v ≡ Some x → (s ≡ sort.CloseBracket → ts ≡ unreadable) → more unreadable ≡ None
    → go_on (bracketed_step (token (quoted v) (sort_tokens s n w ts))) us more ≡ None
open_sort x v sort.CloseBracket n w ts us more named h g =
    ap (λ o. go_on (step_to o ts) us more) named ∙ ap (λ ts. go_on (a_step x ts) us more) (h refl) ∙ ap (with_tree (λ ns. x ∷ ns)) g
open_sort x v s n w ts us more named h g = refl

pub bracket-open : (bs : List ℕ) (t m u : Place) (n : Name) → tokens_at bs m ≡ behind bs t → m.sort ≡ sort.Text → tokens_at bs u ≡ behind bs m → valid (meaning_at bs m) ≡ Some n → (u.sort ≡ sort.CloseBracket → behind bs u ≡ unreadable)
    → (us : Tokens) (more : Tokens → Option (Reading (List Name))) → more unreadable ≡ None → go_on (bracketed_step (behind bs t)) us more ≡ None
bracket-open bs t m u n there is next named h us more g =
    ap (λ x. go_on x us more) (quoted-at bs t m there is) ∙ ap (λ ts. go_on (bracketed_step (token (quoted (meaning_at bs m)) ts)) us more) (sym next)
    ∙ open_sort n (meaning_at bs m) u.sort (letters_at bs u) (meaning_at bs u) (behind bs u) us more named h g

-- a fault that is passed on
pub passed-step : {A : Type 0} → (bs : List ℕ) (r : Result A ExprFault) (f : ExprFault) (n : Next) → IsErrAnd r (λ e. e ≡ f) → IsNoStep bs f n → IfErr r (λ e. IsNoStep bs e n)
passed-step bs (Ok a) f n h g = tt
passed-step bs (Err e) f n h g = subst (λ e. IsNoStep bs e n) (sym h) g
