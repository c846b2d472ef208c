-- The key of what a task does is no keyword and no word that is left out, wherever the task stands.
use Rattle.std.proofs.Common.{◌≡◌, List, [], ◌∷◌, ◌++◌, length, drop, Bool, true, false, not, ◌||◌, ◌==◌, cond, bytes_eq, codes, refl, sym, ap, ◌∙◌}
use Rattle.std.specs.List.{list_all, starts_with}
use Rattle.pb_semantics.specs.Data.{Fields, rec}
use Rattle.pb_semantics.specs.Keeps.{is_among}
use Rattle.pb_semantics.proofs.Bools.{and-left, and-right, or-right, neither-left, neither-right, neither-both, true-false}
use Rattle.pb_semantics.proofs.Names.{same_name}
use Rattle.pb_language.specs.Book.{Registry, Work, module_work, debug_work, set_fact_work, assert_work, fail_work}
use Rattle.pb_language.specs.Expression.{Name}
use Rattle.pb_language.specs.Keywords.{Standing, as_handler, at_top, in_block, is_left_out, keywords_of, left_out_words, misplaced_words, part_keywords, task_keywords}
use Rattle.pb_language.specs.TaskForm.{builtin_prefix, fits_work, is_action, is_known_work, is_meta, is_missing, module_at, without_prefix}
use Rattle.pb_laws.specs.PrintedBook.{Writing, arguments, work_key}
use Rattle.pb_laws.specs.PrintableBook.{IsWork}
use Rattle.pb_laws.proofs.Expressions.{means_module}

-- a name in neither of two rows differs from each that is in one
differs : (n m : Name) (xs ys : List Name) → is_among n xs ≡ false → is_among n ys ≡ false → is_among m xs || is_among m ys ≡ true → bytes_eq n m ≡ false
differs n m xs ys h i j = apart (bytes_eq n m) refl where
  apart : (q : Bool) → bytes_eq n m ≡ q → q ≡ false
  apart true e = true-false (is_among m xs || is_among m ys) j (ap (λ x. is_among x xs || is_among x ys) (sym (same_name n m e)) ∙ neither-both (is_among n xs) (is_among n ys) h i)
  apart false e = refl

in_neither : (n : Name) (xs ys ns : List Name) → is_among n xs ≡ false → is_among n ys ≡ false → list_all (λ m. is_among m xs || is_among m ys) ns ≡ true → is_among n ns ≡ false
in_neither n xs ys [] h i j = refl
in_neither n xs ys (m ∷ ns) h i j =
    let first = is_among m xs || is_among m ys in
    let rest = list_all (λ m. is_among m xs || is_among m ys) ns in
    neither-both (bytes_eq n m) (is_among n ns) (differs n m xs ys h i (and-left first rest j)) (in_neither n xs ys ns h i (and-right first rest j))

-- the key is no word of any row
pub record OwnKey (n : Name) : Type 0 where
  pub word : is_among n (keywords_of as_handler) ≡ false
  pub left_out : is_left_out as_handler n ≡ false
  pub meta : bytes_eq n (codes "meta") ≡ false
  pub prefix : starts_with (λ a b. a == b) n builtin_prefix ≡ false

pub own_key : (ms : Registry) (w : Writing) (x : Work) → IsWork ms w x → OwnKey (work_key x)
own_key ms w (module_work n ps) h = let m = means_module n h.0.free in record { word = m.word; left_out = m.left_out; meta = m.meta; prefix = m.prefix }
own_key ms w (debug_work ps) h = record { word = refl; left_out = refl; meta = refl; prefix = refl }
own_key ms w (set_fact_work ps) h = record { word = refl; left_out = refl; meta = refl; prefix = refl }
own_key ms w (assert_work a ps) h = record { word = refl; left_out = refl; meta = refl; prefix = refl }
own_key ms w (fail_work ps) h = record { word = refl; left_out = refl; meta = refl; prefix = refl }

abbrev is_with : Name → Bool
is_with n = starts_with (λ a b. a == b) n (codes "with_")

pub no_word : (s : Standing) (n : Name) → OwnKey n → is_among n (keywords_of s) ≡ false
no_word at_top n h = neither-right (bytes_eq n (codes "listen")) (is_among n task_keywords) h.word
no_word in_block n h = neither-right (bytes_eq n (codes "listen")) (is_among n task_keywords) h.word
no_word as_handler n h = h.word

not_left_out : (n : Name) (ns : List Name) → OwnKey n → list_all (λ m. is_among m (left_out_words ++ part_keywords) || is_among m (keywords_of as_handler)) ns ≡ true
    → is_among n ns || is_with n ≡ false
not_left_out n ns h i =
    let words = is_among n (left_out_words ++ part_keywords) in
    neither-both (is_among n ns) (is_with n) (in_neither n (left_out_words ++ part_keywords) (keywords_of as_handler) ns (neither-left words (is_with n) h.left_out) h.word i) (neither-right words (is_with n) h.left_out)

pub no_left_out : (s : Standing) (n : Name) → OwnKey n → is_left_out s n ≡ false
no_left_out at_top n h = not_left_out n (left_out_words ++ misplaced_words at_top) h refl
no_left_out in_block n h = not_left_out n (left_out_words ++ misplaced_words in_block) h refl
no_left_out as_handler n h = h.left_out

pub no_prefix : (n : Name) → OwnKey n → without_prefix n ≡ n
no_prefix n h = ap (λ q. cond q (drop (length builtin_prefix) n) n) h.prefix

-- a word of a row is another name than the key
pub other_word : (m n : Name) → OwnKey n → is_among m (left_out_words ++ part_keywords) || is_among m (keywords_of as_handler) ≡ true → bytes_eq m n ≡ false
other_word m n h i = apart (bytes_eq m n) refl where
  apart : (q : Bool) → bytes_eq m n ≡ q → q ≡ false
  apart true e = true-false (is_among m (left_out_words ++ part_keywords) || is_among m (keywords_of as_handler)) i
      (ap (λ x. is_among x (left_out_words ++ part_keywords) || is_among x (keywords_of as_handler)) (same_name m n e)
      ∙ neither-both (is_among n (left_out_words ++ part_keywords)) (is_among n (keywords_of as_handler)) (neither-left (is_among n (left_out_words ++ part_keywords)) (is_with n) h.left_out) h.word)
  apart false e = refl

pub known_key : (ms : Registry) (w : Writing) (x : Work) → IsWork ms w x → is_known_work ms (work_key x) ≡ true
known_key ms w (module_work n ps) h =
    or-right (is_action n) (bytes_eq n (codes "meta") || not (is_missing (module_at n ms)))
    (or-right (bytes_eq n (codes "meta")) (not (is_missing (module_at n ms))) (ap not h.0.known))
known_key ms w (debug_work ps) h = refl
known_key ms w (set_fact_work ps) h = refl
known_key ms w (assert_work a ps) h = refl
known_key ms w (fail_work ps) h = refl

module_fits : (a b c d : Bool) → a ≡ false → b ≡ false → cond a d (cond b true (cond c true true)) ≡ true
module_fits a b c d h i = λ j. cond (h j) d (cond (i j) true (always c j)) where
  always : (c : Bool) → cond c true true ≡ true
  always true = refl
  always false = refl

pub work_fits : (ms : Registry) (w : Writing) (s : Standing) (all : Fields) (x : Work) → IsWork ms w x → fits_work ms s all (work_key x) (rec (arguments w x)) ≡ true
work_fits ms w s all (module_work n ps) h =
    let m = means_module n h.0.free in
    module_fits (bytes_eq n (codes "meta")) (is_action n) (is_known_work ms n) (is_meta s all (rec (arguments w (module_work n ps)))) m.meta m.action
work_fits ms w s all (debug_work ps) h = refl
work_fits ms w s all (set_fact_work ps) h = refl
work_fits ms w s all (assert_work a ps) h = refl
work_fits ms w s all (fail_work ps) h = refl
