-- Variables that are read and set in their slots.
use Rattle.std.proofs.Common.{◌≡◌, ◌<◌, ℕ, zero, suc, List, [], ◌∷◌, length, Bool, true, false, cond}
use Rattle.std.proofs.Common.{Option, Some, None, not, ◌||◌, bytes_eq, get_or, refl, sym, ap, ◌∙◌, arith}
use Rattle.pb_semantics.specs.Data.{Data, Fields, field_value, put_field}
use Rattle.pb_semantics.specs.Keeps.{is_among}
use Rattle.pb_semantics.proofs.Bools.{and-left, and-right, not-true, untrue}
use Rattle.pb_semantics.proofs.Names.{same_name}
use Rattle.pb_language.specs.Expression.{Name}
use Rattle.pb_language.specs.Theorem.{are_distinct}
use Rattle.pb_language.proofs.GivenFields.{at_put_field}
use Rattle.pb_facts.specs.Variables.{put_value, variables_over, slot_value, or_else}
use Rattle.pb_facts.specs.Variables.{VariablesAreRead, VariablesArePut}
use Rattle.pb_facts.proofs.Puts.{put_again, put_both}

-- of a list in which a name doesn't stand
not_first : (b c : Bool) → b || c ≡ false → b ≡ false
not_first true c h = untrue (sym h)
not_first false c h = refl

not_later : (b c : Bool) → b || c ≡ false → c ≡ false
not_later true c h = untrue (sym h)
not_later false c h = h

apart_from : (n : Name) (names : List Name) (slot : ℕ) → is_among n names ≡ false
    → slot < length names → bytes_eq n (get_or names slot []) ≡ false
apart_from n [] slot h i = absurd (omega (arith, i))
apart_from n (m ∷ ms) zero h i = not_first (bytes_eq n m) (is_among n ms) h
apart_from n (m ∷ ms) (suc slot) h i =
    apart_from n ms slot (not_later (bytes_eq n m) (is_among n ms) h) (omega (arith, i))

first_apart : (name : Name) (names : List Name) → are_distinct (name ∷ names) ≡ true
    → is_among name names ≡ false
first_apart name names h =
    not-true (is_among name names) (and-left (not (is_among name names)) (are_distinct names) h)

rest_apart : (name : Name) (names : List Name) → are_distinct (name ∷ names) ≡ true
    → are_distinct names ≡ true
rest_apart name names h = and-right (not (is_among name names)) (are_distinct names) h

no_slot : (n : Name) (names : List Name) (values : List (Option Data)) → is_among n names ≡ false
    → slot_value n names values ≡ None
no_slot n [] values h = refl
no_slot n (m ∷ ms) [] h = refl
no_slot n (m ∷ ms) (v ∷ vs) h =
    rw (not_first (bytes_eq n m) (is_among n ms) h)
    (no_slot n ms vs (not_later (bytes_eq n m) (is_among n ms) h))

-- a name that is read is that of the first slot, or it isn't
module _ (n name : Name) (names : List Name) (values : List (Option Data)) (base over : Fields)
    (apart : is_among name names ≡ false)
    (rest : field_value n over ≡ or_else (slot_value n names values) (field_value n base)) where
  none_there : (q : Bool) → bytes_eq n name ≡ q → field_value n over
      ≡ or_else (cond q None (slot_value n names values)) (field_value n base)
  none_there true h =
      let same = same_name n name h in
      let free : is_among n names ≡ false = ap (λ m. is_among m names) same ∙ apart in
      rest ∙ ap (λ v. or_else v (field_value n base)) (no_slot n names values free)
  none_there false h = rest

  one_there : (w : Data) (q : Bool) → cond q (Some w) (field_value n over)
      ≡ or_else (cond q (Some w) (slot_value n names values)) (field_value n base)
  one_there w true = refl
  one_there w false = rest

  read_step : (value : Option Data) → field_value n (put_value name value over)
      ≡ or_else (cond (bytes_eq n name) value (slot_value n names values)) (field_value n base)
  read_step None = none_there (bytes_eq n name) refl
  read_step (Some w) = at_put_field n name w over ∙ one_there w (bytes_eq n name)

pub read : VariablesAreRead
read base [] values n h = refl
read base (name ∷ names) [] n h = refl
read base (name ∷ names) (value ∷ values) n h =
    read_step n name names values base (variables_over base names values)
    (first_apart name names h) (read base names values n (rest_apart name names h)) value

set_first : (name : Name) (value : Data) (old : Option Data) (over : Fields)
    → put_field name value over ≡ put_field name value (put_value name old over)
set_first name value None over = refl
set_first name value (Some w) over = sym (put_again name value w over)

past_first : (name other : Name) (value : Data) (old : Option Data) (over : Fields)
    → bytes_eq name other ≡ false
    → put_value name old (put_field other value over) ≡ put_field other value (put_value name old over)
past_first name other value None over h = refl
past_first name other value (Some w) over h = put_both name other w value over h

pub put : VariablesArePut
put base [] values slot value h e i = absurd (omega (arith, i))
put base (name ∷ names) [] slot value h e i = absurd (omega (arith, e))
put base (name ∷ names) (old ∷ values) zero value h e i =
    set_first name value old (variables_over base names values)
put base (name ∷ names) (old ∷ values) (suc slot) value h e i =
    ap (put_value name old) (put base names values slot value (rest_apart name names h) (omega (arith, e)) (omega (arith, i)))
    ∙ past_first name (get_or names slot []) value old (variables_over base names values)
    (apart_from name names slot (first_apart name names h) (omega (arith, i)))
