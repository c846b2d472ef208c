-- The words of more than three letters.
use Rattle.std.proofs.Common.{◌≡◌, ℕ, List, [], ◌∷◌, length, slice_index, true, false, refl, subst, arith}
use Rattle.pb_language.specs.Tokens.{Tokens, none_word, other_word, token, truth_word, word, word_token, Word}
use Rattle.pb_syntax.proofs.lexer.word_of.Goals as goal

four : (w : List ℕ) (a b c d : ℕ) → length w ≡ 4 → slice_index w 0 ≡ a → slice_index w 1 ≡ b → slice_index w 2 ≡ c → slice_index w 3 ≡ d → a ∷ b ∷ c ∷ d ∷ [] ≡ w
four [] a b c d h i j k l = absurd (omega arith)
four (p ∷ []) a b c d h i j k l = absurd (omega arith)
four (p ∷ q ∷ []) a b c d h i j k l = absurd (omega arith)
four (p ∷ q ∷ r ∷ []) a b c d h i j k l = absurd (omega arith)
four (p ∷ q ∷ r ∷ s ∷ []) a b c d h i j k l = cc
four (p ∷ q ∷ r ∷ s ∷ t ∷ w) a b c d h i j k l = absurd (omega arith)

five : (w : List ℕ) (a b c d e : ℕ) → length w ≡ 5 → slice_index w 0 ≡ a → slice_index w 1 ≡ b → slice_index w 2 ≡ c → slice_index w 3 ≡ d → slice_index w 4 ≡ e
    → a ∷ b ∷ c ∷ d ∷ e ∷ [] ≡ w
five [] a b c d e h i j k l m = absurd (omega arith)
five (p ∷ w) a b c d e h i j k l m = cc (four w b c d e (omega arith) j k l m)

abbrev ReadsAs : Word → List ℕ → Type 0
ReadsAs w letters = List ℕ → (ts : Tokens) → token (word w letters) ts ≡ token (word_token letters) ts

pub returns-in-true-clause-word : goal.returns-in-true-clause-word
returns-in-true-clause-word c = subst (ReadsAs (truth_word true)) (four c.args.word.now 116 114 117 101 (omega arith) (omega arith) (omega arith) (omega arith) (omega arith)) (λ _ _. refl)

pub returns-in-true-2-clause-word : goal.returns-in-true-2-clause-word
returns-in-true-2-clause-word c = subst (ReadsAs (truth_word true)) (four c.args.word.now 84 114 117 101 (omega arith) (omega arith) (omega arith) (omega arith) (omega arith)) (λ _ _. refl)

pub returns-in-none-clause-word : goal.returns-in-none-clause-word
returns-in-none-clause-word c = subst (ReadsAs none_word) (four c.args.word.now 110 111 110 101 (omega arith) (omega arith) (omega arith) (omega arith) (omega arith)) (λ _ _. refl)

pub returns-in-none-2-clause-word : goal.returns-in-none-2-clause-word
returns-in-none-2-clause-word c = subst (ReadsAs none_word) (four c.args.word.now 78 111 110 101 (omega arith) (omega arith) (omega arith) (omega arith) (omega arith)) (λ _ _. refl)

pub returns-in-if-2-clause-word : goal.returns-in-if-2-clause-word
returns-in-if-2-clause-word c = subst (ReadsAs other_word) (four c.args.word.now 101 108 115 101 (omega arith) (omega arith) (omega arith) (omega arith) (omega arith)) (λ _ _. refl)

pub returns-in-false-clause-word : goal.returns-in-false-clause-word
returns-in-false-clause-word c =
    subst (ReadsAs (truth_word false)) (five c.args.word.now 102 97 108 115 101 (omega arith) (omega arith) (omega arith) (omega arith) (omega arith) (omega arith)) (λ _ _. refl)

pub returns-in-false-2-clause-word : goal.returns-in-false-2-clause-word
returns-in-false-2-clause-word c =
    subst (ReadsAs (truth_word false)) (five c.args.word.now 70 97 108 115 101 (omega arith) (omega arith) (omega arith) (omega arith) (omega arith) (omega arith)) (λ _ _. refl)
