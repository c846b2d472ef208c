-- What is read of keys that are written, each where the book has something to say.
use Rattle.std.proofs.Common.{◌≡◌, List, [], ◌∷◌, Bool, true, false, not, ◌||◌, cond, Option, Some, None, bytes_eq, refl, sym, ap, ◌∙◌}
use Rattle.std.specs.List.{list_all, list_any}
use Rattle.pb_semantics.specs.Data.{Data, Fields, no_fields, field, field_value}
use Rattle.pb_semantics.specs.Keeps.{is_among}
use Rattle.pb_semantics.proofs.Bools.{and-left, and-right, and-both, neither-left, neither-right, neither-both, true-false}
use Rattle.pb_semantics.proofs.Names.{same_name}
use Rattle.pb_language.specs.BookForm.{fits, own_fields}
use Rattle.pb_language.specs.Expression.{Name}
use Rattle.pb_language.specs.Keywords.{Standing, is_left_out, keywords_of}
use Rattle.pb_language.specs.Nesting.{holds, some_field_holds}
use Rattle.pb_language.specs.TaskForm.{fit_keywords, fits_keyword, has_key, holds_where, is_missing, keys_of, without_prefix, works_in}
use Rattle.pb_laws.specs.PrintedBook.{Entries, written}

-- the first of two that is there
abbrev pub first_of : Option Data → Option Data → Option Data
first_of a None = a
first_of None (Some d) = Some d
first_of (Some e) (Some d) = Some e

pub second : (b : Option Data) → first_of None b ≡ b
second None = refl
second (Some d) = refl

pub foremost : (e : Data) (b : Option Data) → first_of (Some e) b ≡ Some e
foremost e None = refl
foremost e (Some d) = refl

-- what is written under a key
abbrev pub entry : Name → Entries → Option Data
entry n [] = None
entry n ((m, o) ∷ es) = cond (bytes_eq n m) (first_of o (entry n es)) (entry n es)

none_first : (q : Bool) (a b : Option Data) → cond q (first_of None a) a ≡ a
none_first true a b = second a
none_first false a b = refl

behind_one : (q : Bool) (e : Data) (a b c : Option Data) → c ≡ first_of a b → cond q (Some e) c ≡ first_of (cond q (first_of (Some e) a) a) b
behind_one true e a b c h = sym (ap (λ x. first_of x b) (foremost e a) ∙ foremost e b)
behind_one false e a b c h = h

pub value_written : (n : Name) (es : Entries) (fs : Fields) → field_value n (written es fs) ≡ first_of (entry n es) (field_value n fs)
value_written n [] fs = sym (second (field_value n fs))
value_written n ((m, None) ∷ es) fs = value_written n es fs ∙ ap (λ x. first_of x (field_value n fs)) (sym (none_first (bytes_eq n m) (entry n es) None))
value_written n ((m, Some d) ∷ es) fs = behind_one (bytes_eq n m) d (entry n es) (field_value n fs) (field_value n (written es fs)) (value_written n es fs)

-- a key is there just where it has a value
pub key_value : (n : Name) (fs : Fields) → has_key n fs ≡ not (is_missing (field_value n fs))
key_value n no_fields = refl
key_value n (field m d fs) = either (bytes_eq n m) (key_value n fs) where
  either : (q : Bool) → has_key n fs ≡ not (is_missing (field_value n fs)) → q || has_key n fs ≡ not (is_missing (cond q (Some d) (field_value n fs)))
  either true h = refl
  either false h = h

-- no key of the entries, nor of the fields behind them, has the property
pub no_key_written : (f : Name → Bool) (es : Entries) (fs : Fields) → list_any (λ e. f e.0) es ≡ false → list_any f (keys_of fs) ≡ false
    → list_any f (keys_of (written es fs)) ≡ false
no_key_written f [] fs h i = i
no_key_written f ((n, None) ∷ es) fs h i = no_key_written f es fs (neither-right (f n) (list_any (λ e. f e.0) es) h) i
no_key_written f ((n, Some d) ∷ es) fs h i =
    neither-both (f n) (list_any f (keys_of (written es fs))) (neither-left (f n) (list_any (λ e. f e.0) es) h) (no_key_written f es fs (neither-right (f n) (list_any (λ e. f e.0) es) h) i)

-- no value that is written passes the test
pub none_holds_written : (f : Data → Bool) (es : Entries) (fs : Fields) → list_any (λ e. holds_where (holds f) e.1) es ≡ false → some_field_holds f fs ≡ false
    → some_field_holds f (written es fs) ≡ false
none_holds_written f [] fs h i = i
none_holds_written f ((n, None) ∷ es) fs h i = none_holds_written f es fs h i
none_holds_written f ((n, Some d) ∷ es) fs h i =
    let rest = list_any (λ e. holds_where (holds f) e.1) es in
    neither-both (holds f d) (some_field_holds f (written es fs)) (neither-left (holds f d) rest h) (none_holds_written f es fs (neither-right (holds f d) rest h) i)

-- the same of the entries that are no lists of other lines
abbrev pub own_entry : (Data → Bool) → List Name → Name × Option Data → Bool
own_entry f ns (n, o) = cond (is_among n ns) false (holds_where (holds f) o)

none_of_own : (q : Bool) (f : Data → Bool) (n : Name) (d : Data) (gs : Fields) → cond q false (holds f d) ≡ false → some_field_holds f gs ≡ false
    → some_field_holds f (cond q gs (field n d gs)) ≡ false
none_of_own true f n d gs h i = i
none_of_own false f n d gs h i = neither-both (holds f d) (some_field_holds f gs) h i

pub none_of_own_written : (f : Data → Bool) (ns : List Name) (es : Entries) → list_any (own_entry f ns) es ≡ false
    → some_field_holds f (own_fields ns (written es no_fields)) ≡ false
none_of_own_written f ns [] h = refl
none_of_own_written f ns ((n, None) ∷ es) h = none_of_own_written f ns es (neither-right (own_entry f ns (n, None)) (list_any (own_entry f ns) es) h)
none_of_own_written f ns ((n, Some d) ∷ es) h =
    let first = own_entry f ns (n, Some d) in
    let rest = list_any (own_entry f ns) es in
    none_of_own (is_among n ns) f n d (own_fields ns (written es no_fields)) (neither-left first rest h) (none_of_own_written f ns es (neither-right first rest h))

-- each keyword that is written has a value of its form
abbrev pub fits_entry : Standing → Name × Option Data → Bool
fits_entry s (n, o) = fits (fits_keyword s n) o

keyword_fits : (q a : Bool) → a ≡ true → cond q a true ≡ true
keyword_fits true a h = h
keyword_fits false a h = refl

pub fit_written : (s : Standing) (es : Entries) (fs : Fields) → list_all (fits_entry s) es ≡ true → fit_keywords s fs ≡ true → fit_keywords s (written es fs) ≡ true
fit_written s [] fs h i = i
fit_written s ((n, None) ∷ es) fs h i = fit_written s es fs h i
fit_written s ((n, Some d) ∷ es) fs h i =
    let first = fits_keyword s n d in
    let rest = list_all (fits_entry s) es in
    and-both (cond (is_among n (keywords_of s)) first true) (fit_keywords s (written es fs)) (keyword_fits (is_among n (keywords_of s)) first (and-left first rest h)) (fit_written s es fs (and-right first rest h) i)

-- keywords are no works
abbrev pub is_keyword : Standing → Name × Option Data → Bool
is_keyword s (n, o) = is_among n (keywords_of s)

pub works_written : (s : Standing) (es : Entries) (fs : Fields) → list_all (is_keyword s) es ≡ true → works_in s (written es fs) ≡ works_in s fs
works_written s [] fs h = refl
works_written s ((n, None) ∷ es) fs h = works_written s es fs (and-right (is_keyword s (n, None)) (list_all (is_keyword s) es) h)
works_written s ((n, Some d) ∷ es) fs h =
    let rest = list_all (is_keyword s) es in
    ap (λ q. cond (q || is_left_out s n) (works_in s (written es fs)) (field (without_prefix n) d (works_in s (written es fs)))) (and-left (is_among n (keywords_of s)) rest h)
    ∙ works_written s es fs (and-right (is_among n (keywords_of s)) rest h)

-- a name of a row and one that isn't in it differ
pub not_among : (n m : Name) (ms : List Name) → is_among m ms ≡ false → is_among n ms ≡ true → bytes_eq n m ≡ false
not_among n m ms h i = apart (bytes_eq n m) refl where
  apart : (q : Bool) → bytes_eq n m ≡ q → q ≡ false
  apart true e = true-false (is_among m ms) (ap (λ x. is_among x ms) (sym (same_name n m e)) ∙ i) h
  apart false e = refl
