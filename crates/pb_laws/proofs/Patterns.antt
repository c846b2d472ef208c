-- The words of patterns and the cuts of `serial` are read as they are printed.
use Rattle.std.proofs.Common.{◌≡◌, ℕ, zero, suc, List, [], ◌∷◌, ◌++◌, Bool, true, false, not, ◌&&◌, ◌||◌, ◌==◌, ◌<◌, cond, nat_le, Option, Some, None, option_map, unwrap_or, codes, refl, sym, ap, ◌∙◌, arith}
use Rattle.std.specs.List.{list_all, list_any}
use Rattle.std.specs.Fmt.{decimal, digits}
use Rattle.std.proofs.lemmas.Bool.Decides.{nat_tests}
use Rattle.pb_semantics.specs.Data.{text}
use Rattle.pb_semantics.proofs.Bools.{untrue, and-left, and-right, and-both, neither-left, neither-right, not-true}
use Rattle.pb_language.specs.Book.{Cut, host_count, percentage}
use Rattle.pb_language.specs.BookForm.{are_filled_texts, cut_before, cut_in, cuts_in, fits, is_blank, is_filled_text, is_serial, percentage_in, serial_given, turned, without_blanks, word_met, words_from, words_of_each}
use Rattle.pb_language.specs.Expression.{Name}
use Rattle.pb_language.specs.Nesting.{holds, some_item_holds}
use Rattle.pb_language.specs.TaskForm.{is_missing}
use Rattle.pb_language.specs.Texts.{is_opaque}
use Rattle.pb_laws.specs.PrintedBook.{printed_cut, printed_cuts, some_list, texts}
use Rattle.pb_laws.specs.PrintableBook.{ends_blank, is_cut, is_divider, is_word}

-- words

turned_twice : (a b n : List ℕ) → turned a (turned b n) ≡ turned (n ++ a) b
turned_twice a b [] = refl
turned_twice a b (x ∷ n) = turned_twice a (x ∷ b) n

nothing_behind : (n : List ℕ) → n ++ [] ≡ n
nothing_behind [] = refl
nothing_behind (x ∷ n) = ap (◌∷◌ x) (nothing_behind n)

turned_back : (n : List ℕ) → turned [] (turned [] n) ≡ n
turned_back n = turned_twice [] [] n ∙ nothing_behind n

undivided : (met n : List ℕ) → list_any is_divider n ≡ false → words_from met n ≡ word_met (turned met n) ∷ []
undivided met [] h = refl
undivided met (b ∷ bs) h =
    ap (λ q. cond q (word_met met ∷ words_from [] bs) (words_from (b ∷ met) bs)) (neither-left (is_divider b) (list_any is_divider bs) h)
    ∙ undivided (b ∷ met) bs (neither-right (is_divider b) (list_any is_divider bs) h)

no_blank : (b : ℕ) (bs : List ℕ) → is_blank b ≡ false → without_blanks (b ∷ bs) ≡ b ∷ bs
no_blank b bs h = ap (λ q. cond q (without_blanks bs) (b ∷ bs)) h

last_unblank : (met : List ℕ) (b : ℕ) (bs : List ℕ) → ends_blank (b ∷ bs) ≡ false → without_blanks (turned met (b ∷ bs)) ≡ turned met (b ∷ bs)
last_unblank met b [] h = no_blank b met h
last_unblank met b (c ∷ bs) h = last_unblank (b ∷ met) c bs h

word_read : (n : Name) → is_word n ≡ true → words_from [] n ≡ n ∷ []
word_read [] h = untrue h
word_read (b ∷ bs) h =
    let n = b ∷ bs in
    let rest = not (ends_blank n) && not (list_any is_divider n) in
    let more = and-right (not (is_blank b)) rest h in
    let start = not-true (is_blank b) (and-left (not (is_blank b)) rest h) in
    let stop = not-true (ends_blank n) (and-left (not (ends_blank n)) (not (list_any is_divider n)) more) in
    let whole = not-true (list_any is_divider n) (and-right (not (ends_blank n)) (not (list_any is_divider n)) more) in
    undivided [] n whole
    ∙ ap (λ x. without_blanks (turned [] x) ∷ []) (last_unblank [] b bs stop)
    ∙ ap (λ x. without_blanks x ∷ []) (turned_back n)
    ∙ ap (λ x. x ∷ []) (no_blank b bs start)

pub words_read : (ns : List Name) → list_all is_word ns ≡ true → words_of_each (texts ns) ≡ ns
words_read [] h = refl
words_read (n ∷ ns) h =
    ap (λ x. x ++ words_of_each (texts ns)) (word_read n (and-left (is_word n) (list_all is_word ns) h))
    ∙ ap (◌∷◌ n) (words_read ns (and-right (is_word n) (list_all is_word ns) h))

filled : (n : Name) → is_word n ≡ true → is_filled_text (text n) ≡ true
filled [] h = untrue h
filled (b ∷ bs) h = refl

pub words_filled : (ns : List Name) → list_all is_word ns ≡ true → are_filled_texts (texts ns) ≡ true
words_filled [] h = refl
words_filled (n ∷ ns) h = and-both (is_filled_text (text n)) (are_filled_texts (texts ns)) (filled n (and-left (is_word n) (list_all is_word ns) h)) (words_filled ns (and-right (is_word n) (list_all is_word ns) h))

-- cuts

-- the test holds of each number below that one
abbrev all_below : ℕ → (ℕ → Bool) → Bool
all_below zero f = true
all_below (suc k) f = f zero && all_below k (λ n. f (suc n))

below : (k n : ℕ) (f : ℕ → Bool) → all_below k f ≡ true → n < k → f n ≡ true
below zero n f h lt = absurd (omega (arith, lt))
below (suc k) zero f h lt = and-left (f zero) (all_below k (λ n. f (suc n))) h
below (suc k) (suc n) f h lt = below k n (λ m. f (suc m)) (and-right (f zero) (all_below k (λ n. f (suc n))) h) (omega (arith, lt))

abbrev is_number : ℕ → Option ℕ → Bool
is_number n None = false
is_number n (Some m) = m == n

number_is : (n : ℕ) (o : Option ℕ) → is_number n o ≡ true → o ≡ Some n
number_is n None h = untrue h
number_is n (Some m) h = ap Some (same m n h) where
  same : (m n : ℕ) → (m == n) ≡ true → m ≡ n
  same m n h = grind (arith, nat_tests, h)

abbrev is_printed : ℕ → Bool
is_printed n = cond (nat_le 1 n && nat_le n 100) (is_number n (percentage_in (decimal n ++ codes "%"))) true

each_is_printed : all_below 101 is_printed ≡ true
unfolding digits
each_is_printed = refl

percentage_read : (n : ℕ) → nat_le 1 n && nat_le n 100 ≡ true → percentage_in (decimal n ++ codes "%") ≡ Some n
percentage_read n h =
    let few : nat_le n 100 ≡ true = and-right (nat_le 1 n) (nat_le n 100) h in
    let some : is_printed n ≡ true = below 101 n is_printed each_is_printed (within n few) in
    number_is n (percentage_in (decimal n ++ codes "%")) (sym (ap (λ q. cond q (is_number n (percentage_in (decimal n ++ codes "%"))) true) h) ∙ some) where
      within : (n : ℕ) → nat_le n 100 ≡ true → n < 101
      within n h = grind (arith, nat_tests, h)

cut_read : (c : Cut) → is_cut c ≡ true → cut_in (printed_cut c) ≡ Some c
cut_read (host_count n) h = ap (λ q. cond q (Some (host_count n)) None) h
cut_read (percentage n) h = ap (option_map percentage) (percentage_read n h)

cuts_read : (cs : List Cut) → list_all is_cut cs ≡ true → cuts_in (printed_cuts cs) ≡ Some cs
cuts_read [] h = refl
cuts_read (c ∷ cs) h =
    (λ i. cut_before (cut_read c (and-left (is_cut c) (list_all is_cut cs) h) i) (cuts_read cs (and-right (is_cut c) (list_all is_cut cs) h) i))

pub serial_read : (cs : List Cut) → list_all is_cut cs ≡ true → serial_given (some_list (printed_cuts cs)) ≡ cs
serial_read [] h = refl
serial_read (c ∷ cs) h = λ i. unwrap_or (cuts_read (c ∷ cs) h i) []

pub serial_form : (cs : List Cut) → list_all is_cut cs ≡ true → fits is_serial (some_list (printed_cuts cs)) ≡ true
serial_form [] h = refl
serial_form (c ∷ cs) h = λ i. not (is_missing (cuts_read (c ∷ cs) h i))

cut_clear : (c : Cut) → holds is_opaque (printed_cut c) ≡ false
cut_clear (host_count n) = refl
cut_clear (percentage n) = refl

pub cuts_clear : (cs : List Cut) → some_item_holds is_opaque (printed_cuts cs) ≡ false
cuts_clear [] = refl
cuts_clear (c ∷ cs) = λ i. cut_clear c i || cuts_clear cs i
