-- Handlers, printed, are read as themselves, one line each.
use Rattle.std.proofs.Common.{◌≡◌, ℕ, suc, List, [], ◌∷◌, ◌++◌, ◌+◌, ◌≤◌, length, true, false, not, ◌&&◌, ◌||◌, nat_le, Option, Some, None, option_map, Ok, bytes_eq, codes, refl, ap, ◌∙◌, arith}
use Rattle.std.specs.List.{list_any}
use Rattle.pb_semantics.specs.Data.{Items, Fields, text, rec, item, field_value}
use Rattle.pb_language.specs.Book.{HandlerData, Registry}
use Rattle.pb_language.specs.BookForm.{changed, fits, most_handlers, handler_before, handlers_in, is_second, named_too, or_code, unless}
use Rattle.pb_language.specs.Expression.{Name}
use Rattle.pb_language.specs.Inventories.{has_opening}
use Rattle.pb_language.specs.Keywords.{as_handler, is_left_out}
use Rattle.pb_language.specs.TaskForm.{code_where, is_plain_text, text_in, topics_in}
use Rattle.pb_language.specs.Texts.{is_opaque}
use Rattle.pb_laws.specs.PrintedBook.{Writing, handler_entries, printed_handler, printed_handlers, printed_task, texts, work_key, written}
use Rattle.pb_language.specs.Rules.{option_names}
use Rattle.pb_language.specs.Theorem.{are_distinct}
use Rattle.pb_laws.specs.PrintableBook.{AreHandlers, IsHandler, IsPlain, Where, behind_handlers, handler_names}
use Rattle.pb_semantics.proofs.Bools.{and-left, and-right, neither-both, neither-left, neither-right, not-true}
use Rattle.pb_semantics.specs.Keeps.{is_among}
use Rattle.std.proofs.lemmas.Bool.Decides.{nat_tests}
use Rattle.pb_laws.proofs.DistinctNames.{turned}
use Rattle.pb_laws.proofs.Entries.{entry, first_of, fit_written, no_key_written, none_holds_written, second, value_written, works_written}
use Rattle.pb_laws.proofs.Expressions.{texts_clear, texts_read}
use Rattle.pb_laws.proofs.Keys.{other_word, own_key}
use Rattle.pb_laws.proofs.Tasks.{Says, list_clear, task_says, task_value, text_clear, topics_form}
use Rattle.pb_laws.proofs.TasksRead.{no_offence, task_read, text_read}

name_form : (o : Option Name) → Where IsPlain o → fits is_plain_text (option_map text o) ≡ true
name_form None h = refl
name_form (Some n) h = ap not h

-- a key that stands for neither a handler's name nor its topics says what it says of the task
behind_entries : (h : HandlerData) (n : Name) (fs : Fields) → entry n (handler_entries h) ≡ None → field_value n (written (handler_entries h) fs) ≡ field_value n fs
behind_entries h n fs e = value_written n (handler_entries h) fs ∙ ap (λ x. first_of x (field_value n fs)) e ∙ second (field_value n fs)

handler_says : (w : Writing) (fs : Fields) (h : HandlerData) → Where IsPlain h.name → list_any has_opening h.topics ≡ false → Says w as_handler fs h.work → Says w as_handler (written (handler_entries h) fs) h.work
handler_says w fs h plain topics f =
    let es = handler_entries h in
    record {
      left_out = no_key_written (is_left_out as_handler) es fs refl f.left_out;
      clear = none_holds_written is_opaque es fs (λ i. text_clear h.name i || (list_clear (texts h.topics) (texts_clear h.topics) i || false)) f.clear;
      fit = fit_written as_handler es fs (λ i. name_form h.name plain i && (topics_form h.topics topics i && true)) f.fit;
      works = works_written as_handler es fs refl ∙ f.works;
      condition = behind_entries h (codes "when") fs refl ∙ f.condition;
      loop = behind_entries h (codes "loop") fs refl ∙ f.loop;
      register = behind_entries h (codes "register") fs refl ∙ f.register;
      vars = behind_entries h (codes "vars") fs refl ∙ f.vars;
      notify = behind_entries h (codes "notify") fs refl ∙ f.notify;
      changed_when = behind_entries h (codes "changed_when") fs refl ∙ f.changed_when;
      failed_when = behind_entries h (codes "failed_when") fs refl ∙ f.failed_when;
      until = behind_entries h (codes "until") fs refl ∙ f.until;
      retries = behind_entries h (codes "retries") fs refl ∙ f.retries;
      ignore_errors = behind_entries h (codes "ignore_errors") fs refl ∙ f.ignore_errors;
    }

-- a handler's name and its topics stand in front of its task, which has neither
own_value : (w : Writing) (h : HandlerData) (n : Name) → field_value n (printed_task w h.work) ≡ None → field_value n (printed_handler w h) ≡ entry n (handler_entries h)
own_value w h n e = value_written n (handler_entries h) (printed_task w h.work) ∙ ap (first_of (entry n (handler_entries h))) e

-- the names of handlers are none of these, and no two of them are one

still_new : (n : Name) (ns ms : List Name) → list_any (λ m. is_among m ns) ms ≡ false → is_among n ms ≡ false → list_any (λ m. is_among m (n ∷ ns)) ms ≡ false
still_new n ns [] h i = refl
still_new n ns (m ∷ ms) h i =
    let rest = list_any (λ m. is_among m ns) ms in
    let other = turned n m (neither-left (bytes_eq n m) (is_among n ms) i) in
    let more = still_new n ns ms (neither-right (is_among m ns) rest h) (neither-right (bytes_eq n m) (is_among n ms) i) in
    neither-both (bytes_eq m n || is_among m ns) (list_any (λ m. is_among m (n ∷ ns)) ms) (neither-both (bytes_eq m n) (is_among m ns) other (neither-left (is_among m ns) rest h)) more

-- with those that earlier handlers have
record AreNew (ns ms : List Name) : Type 0 where
  others : list_any (λ m. is_among m ns) ms ≡ false
  distinct : are_distinct ms ≡ true

all_new : (ms : List Name) → are_distinct ms ≡ true → AreNew [] ms
all_new ms h = record { others = none ms; distinct = h } where
  none : (ms : List Name) → list_any (λ m. is_among m []) ms ≡ false
  none [] = refl
  none (m ∷ ms) = none ms

name_new : (ns : List Name) (o : Option Name) (ms : List Name) → AreNew ns (option_names o ++ ms) → is_second ns o ≡ false
name_new ns None ms h = refl
name_new ns (Some n) ms h = neither-left (is_among n ns) (list_any (λ m. is_among m ns) ms) h.others

rest_new : (ns : List Name) (o : Option Name) (ms : List Name) → AreNew ns (option_names o ++ ms) → AreNew (named_too ns o) ms
rest_new ns None ms h = h
rest_new ns (Some n) ms h = record {
  others = still_new n ns ms (neither-right (is_among n ns) (list_any (λ m. is_among m ns) ms) h.others) (not-true (is_among n ms) (and-left (not (is_among n ms)) (are_distinct ms) h.distinct));
  distinct = and-right (not (is_among n ms)) (are_distinct ms) h.distinct;
}

handler_read : (ms : Registry) (w : Writing) (l i : ℕ) (ns : List Name) (h : HandlerData) (ds : Items) → IsHandler ms w l h → nat_le most_handlers i ≡ false → is_second ns h.name ≡ false
    → handlers_in ms l i ns (item (rec (printed_handler w h)) ds) ≡ changed (λ hs. h ∷ hs) (handlers_in ms (suc l) (suc i) (named_too ns h.name) ds)
handler_read ms w l i ns h ds g few new =
    let fs = printed_handler w h in
    let t = h.work in
    let own = own_key ms w t.work g.task.work in
    let f = handler_says w (printed_task w t) h g.name g.topics (task_says ms w as_handler t g.task) in
    let name : text_in (field_value (codes "name") fs) ≡ h.name =
    ap text_in (own_value w h (codes "name") (task_value w t (codes "name") (other_word (codes "name") (work_key t.work) own refl))) ∙ text_read h.name in
    let topics : topics_in (field_value (codes "listen") fs) ≡ h.topics =
    ap topics_in (own_value w h (codes "listen") (task_value w t (codes "listen") (other_word (codes "listen") (work_key t.work) own refl))) ∙ texts_read h.topics in
    let offence = no_offence ms w as_handler fs t g.task f g.within in
    let task = task_read ms w as_handler fs l t g.task f g.line.number in
    let second : is_second ns (text_in (field_value (codes "name") fs)) ≡ false = ap (is_second ns) name ∙ new in
    (λ j. unless l (or_code (or_code (offence j) (code_where (g.line.few j) 8 None)) (code_where (few j) 8 (code_where (second j) 9 None)))
    (changed (handler_before fs (task j)) (handlers_in ms (suc l) (suc i) (named_too ns (name j)) ds)))
    ∙ (λ j. changed (λ hs. record { work = t; name = name j; topics = topics j } ∷ hs) (handlers_in ms (suc l) (suc i) (named_too ns h.name) ds))

handlers_from : (ms : Registry) (w : Writing) (l i : ℕ) (ns : List Name) (hs : List HandlerData) → AreHandlers ms w l hs → i + length hs ≤ most_handlers → AreNew ns (handler_names hs)
    → handlers_in ms l i ns (printed_handlers w hs) ≡ Ok (hs, behind_handlers l hs)
handlers_from ms w l i ns [] g few new = refl
handlers_from ms w l i ns (h ∷ hs) g few new =
    handler_read ms w l i ns h (printed_handlers w hs) g.0 (room i (length hs) few) (name_new ns h.name (handler_names hs) new)
    ∙ (λ j. changed (λ hs. h ∷ hs) (handlers_from ms w (suc l) (suc i) (named_too ns h.name) hs g.1 (omega (arith, few)) (rest_new ns h.name (handler_names hs) new) j)) where
      room : (i n : ℕ) → i + suc n ≤ most_handlers → nat_le most_handlers i ≡ false
      room i n h = grind (arith, nat_tests, h)

pub handlers_read : (ms : Registry) (w : Writing) (l : ℕ) (hs : List HandlerData) → AreHandlers ms w l hs → nat_le (length hs) most_handlers ≡ true → are_distinct (handler_names hs) ≡ true
    → handlers_in ms l 0 [] (printed_handlers w hs) ≡ Ok (hs, behind_handlers l hs)
handlers_read ms w l hs g few new = handlers_from ms w l 0 [] hs g (within (length hs) few) (all_new (handler_names hs) new) where
  within : (n : ℕ) → nat_le n most_handlers ≡ true → 0 + n ≤ most_handlers
  within n h = grind (arith, nat_tests, h)
