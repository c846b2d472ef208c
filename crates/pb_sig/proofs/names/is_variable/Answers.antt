use Rattle.std.proofs.Common.{◌≡◌, ℕ, ◌-◌, ◌≤◌, List, [], ◌∷◌, length, true, get_or, take, drop, nat_lt, arith, refl, sym, ap, ◌∙◌}
use Rattle.std.proofs.lemmas.List.{take_all}
use Rattle.pb_language.specs.Rules.{are_name_bytes, is_letter, is_variable_name}
use Rattle.pb_sig.proofs.names.is_variable.Goals as goal
use Rattle.pb_sig.proofs.names.is_variable.Goals.{then-is_letter, else-is_letter}

-- what begins with a letter and goes on with bytes of names is a name where it is short
short_name : (bs : List ℕ) → 1 ≤ length bs → is_letter (get_or bs 0 0) ≡ true → are_name_bytes (take (length bs - 1) (drop 1 bs)) ≡ true
    → nat_lt (length (take (length bs - 1) (drop 1 bs))) 128 ≡ is_variable_name bs
short_name [] some letter bytes = absurd (omega (arith, some))
short_name (b ∷ bs) some letter bytes =
    let all : take (length (b ∷ bs) - 1) bs ≡ bs = take_all _ bs (omega arith) in
    let named : are_name_bytes bs ≡ true = sym (ap are_name_bytes all) ∙ bytes in
    ap (λ (xs : List ℕ). nat_lt (length xs) 128) all ∙ rw (letter, named) refl

pub returns-then-are_bytes_of_names : goal.returns-then-are_bytes_of_names
returns-then-are_bytes_of_names c = elim c.if-is_letter.branch [
  | then-is_letter w ↦ short_name _ c.in-len1-up.len_at_least (sym c.is_letter.ensures ∙ w.if-is_letter.true) (sym w.are_bytes_of_names.ensures ∙ sym w.value-is ∙ c.if-are_bytes_of_names.true) ∙ ap is_variable_name c.as_bytes.ensures.value
  | else-is_letter w ↦ absurd (cc)
]
