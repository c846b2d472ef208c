-- The book that a JSON value is, or why it is refused: plays, sections, blocks and handlers, whose
-- lines are counted in the order in which they run (Ansible's pages on playbooks and on blocks).
use Rattle.std.specs.Prelude.{ℕ, zero, suc, pos, List, [], ◌∷◌, ◌++◌, Bool, true}
use Rattle.std.specs.Prelude.{false, not, ◌&&◌, ◌||◌, ◌==◌, ◌+◌, ◌*◌, ◌-◌, nat_le, nat_lt, cond}
use Rattle.std.specs.Prelude.{Option, Some, None, option_map, unwrap_or, Result, Ok, Err, codes}
use Rattle.std.specs.List.{list_all, list_any}
use Rattle.std.specs.Str.{bytes_eq}
use Rattle.pb_semantics.specs.Data.{Data, Items, Fields, int, text, list, rec}
use Rattle.pb_semantics.specs.Data.{no_items, item, no_fields, field, field_value}
use Rattle.pb_semantics.specs.Keeps.{is_among}
use Rattle.pb_language.specs.Book.{BlockData, Book, Cut, HandlerData, PlayData, Registry, Steps}
use Rattle.pb_language.specs.Book.{TaskData, block_step, flush_step, host_count, no_steps}
use Rattle.pb_language.specs.Book.{percentage, task_step}
use Rattle.pb_language.specs.Expression.{Name, no_expressions, no_parts}
use Rattle.pb_language.specs.Keywords.{Standing, as_handler, at_top, block_keywords, in_block}
use Rattle.pb_language.specs.Keywords.{part_keywords, play_keywords, section_keywords}
use Rattle.pb_language.specs.Rules.{is_digit}
use Rattle.pb_language.specs.TaskForm.{boolean_in, code_where, conditions_found, fits_keyword}
use Rattle.pb_language.specs.TaskForm.{has_key, is_boolean, is_missing, is_text}
use Rattle.pb_language.specs.TaskForm.{is_vars, keys_of, lone, short_conditions, task_of}
use Rattle.pb_language.specs.TaskForm.{task_offence, text_in, topics_in, vars_found, works_in}
use Rattle.pb_language.specs.TaskForm.{is_record_within}
use Rattle.pb_language.specs.Nesting.{some_field_holds}
use Rattle.pb_language.specs.Texts.{is_long_text, is_opaque}

-- the limits: plays, lines, blocks in one another, and the handlers of a play
abbrev pub most_plays : ℕ
most_plays = 64

abbrev pub most_lines : ℕ
most_lines = 4096

abbrev pub most_block_nesting : ℕ
most_block_nesting = 16

abbrev pub most_handlers : ℕ
most_handlers = 256

-- a code P01 to P09, and the line where it is found
pub record Offence : Type 0 where
  pub line : ℕ
  pub code : ℕ

-- what was read, and the next line; or the first offence, whose line is the least
abbrev pub Reading : Type 0 → Type 0
Reading A = Result (A × ℕ) Offence

abbrev pub refused_at : {A : Type 0} → ℕ → ℕ → Reading A
refused_at l n = Err (record { line = l; code = n })

abbrev pub and_then : {A B : Type 0} → Reading A → (A → ℕ → Reading B) → Reading B
and_then (Err o) f = Err o
and_then (Ok r) f = f r.0 r.1

abbrev pub changed : {A B : Type 0} → (A → B) → Reading A → Reading B
changed f (Err o) = Err o
changed f (Ok r) = Ok (f r.0, r.1)

-- what is read where there is no such code
abbrev pub unless : {A : Type 0} → ℕ → Option ℕ → Reading A → Reading A
unless l None r = r
unless l (Some n) r = refused_at l n

abbrev pub is_list : Option Data → Bool
is_list None = true
is_list (Some (list ds)) = true
is_list (Some d) = false

-- the fields but lists of other lines
abbrev pub own_fields : List Name → Fields → Fields
own_fields ns no_fields = no_fields
own_fields ns (field n d fs) =
    cond (is_among n ns) (own_fields ns fs) (field n d (own_fields ns fs))

abbrev pub has_other_key : List Name → Fields → Bool
has_other_key ns fs = list_any (λ n. not (is_among n ns)) (keys_of fs)

abbrev pub fits_name : Option Data → Bool
fits_name None = true
fits_name (Some d) = is_text d

abbrev pub fits : (Data → Bool) → Option Data → Bool
fits f None = true
fits f (Some d) = f d

-- P04 of a block: a value of the wrong form, or a number that is no whole number of 64 bits
abbrev pub has_wrong_block_value : Fields → Bool
has_wrong_block_value fs = some_field_holds is_opaque (own_fields part_keywords fs)
    || (not (list_all (λ n. is_list (field_value n fs)) part_keywords)
    || not (list_all (λ n. fits (fits_keyword in_block n) (field_value n fs))
    (codes "name" ∷ codes "when" ∷ codes "vars" ∷ codes "ignore_errors" ∷ [])))

abbrev pub is_unreadable_block : Fields → Bool
is_unreadable_block fs = is_missing (conditions_found (field_value (codes "when") fs))
    || is_missing (vars_found (field_value (codes "vars") fs))

-- at most so many blocks stand round it, and so many lines before it
abbrev pub is_large_block : ℕ → Fields → Bool
is_large_block k fs = nat_lt most_block_nesting (suc k)
    || not (not (some_field_holds is_long_text (own_fields part_keywords fs))
    && (short_conditions (field_value (codes "when") fs)
    && is_record_within (field_value (codes "vars") fs)))

abbrev pub block_offence : ℕ → ℕ → Fields → Option ℕ
block_offence k l fs =
    code_where (has_other_key block_keywords fs) 3
    (code_where (has_wrong_block_value fs) 4
    (code_where (is_unreadable_block fs) 7
    (code_where (is_large_block k fs || nat_lt most_lines l) 8 None)))

abbrev pub block_of : ℕ → Fields → BlockData
block_of l fs = record {
  line = l;
  condition = unwrap_or (conditions_found (field_value (codes "when") fs)) no_expressions;
  vars = unwrap_or (vars_found (field_value (codes "vars") fs)) no_parts;
  ignore_errors = boolean_in (field_value (codes "ignore_errors") fs);
}

abbrev pub standing : ℕ → Standing
standing zero = at_top
standing (suc k) = in_block

abbrev pub or_code : Option ℕ → Option ℕ → Option ℕ
or_code (Some n) later = Some n
or_code None later = later

-- the code of a task, or of a line past the limit
abbrev pub line_offence : ℕ → Option ℕ → Option ℕ
line_offence l o = or_code o (code_where (nat_lt most_lines l) 8 None)

abbrev pub is_flush : Option (Name × Data) → Bool
is_flush None = false
is_flush (Some w) = bytes_eq w.0 (codes "meta")

-- a step in front of others
abbrev pub Before : Type 0
Before = Steps → Steps

abbrev pub task_before : Option TaskData → Before
task_before None ss = ss
task_before (Some t) ss = task_step t ss

-- a task, or a flush
abbrev pub task_in : Registry → ℕ → ℕ → Fields → Reading Before
task_in ms k l fs = unless l (line_offence l (task_offence ms (standing k) fs))
    (Ok (
      cond (is_flush (lone (works_in (standing k) fs))) (flush_step l)
          (task_before (task_of ms (standing k) l fs)),
      suc l,
    ))

abbrev mutual
  -- the steps of a list in so many blocks, from that line on
  pub steps_in : Registry → ℕ → ℕ → Items → Reading Steps
  steps_in ms k l no_items = Ok (no_steps, l)
  steps_in ms k l (item d ds) =
      and_then (step_in ms k l d) (λ before next. changed before (steps_in ms k next ds))

  -- a block has the key `block`
  pub step_in : Registry → ℕ → ℕ → Data → Reading Before
  step_in ms k l (rec fs) = cond (has_key (codes "block") fs)
      (unless l (block_offence k l fs) (and_then (part_in (codes "block") ms (suc k) (suc l) fs)
      (λ body next. and_then (part_in (codes "rescue") ms (suc k) next fs)
      (λ rescue then. changed (λ always. block_step (block_of l fs) body rescue always)
      (part_in (codes "always") ms (suc k) then fs)))))
      (task_in ms k l fs)
  step_in ms k l d = refused_at l 2

  -- the part of a block of that name
  pub part_in : Name → Registry → ℕ → ℕ → Fields → Reading Steps
  part_in p ms k l no_fields = Ok (no_steps, l)
  part_in p ms k l (field n d fs) = cond (bytes_eq p n) (part_of ms k l d) (part_in p ms k l fs)

  pub part_of : Registry → ℕ → ℕ → Data → Reading Steps
  part_of ms k l (list ds) = steps_in ms k l ds
  part_of ms k l d = Ok (no_steps, l)

-- P09: an earlier handler has that name
abbrev pub is_second : List Name → Option Name → Bool
is_second ns None = false
is_second ns (Some n) = is_among n ns

abbrev pub named_too : List Name → Option Name → List Name
named_too ns None = ns
named_too ns (Some n) = n ∷ ns

-- of the handler behind so many of the play with these names
abbrev pub handler_offence : Registry → ℕ → ℕ → List Name → Fields → Option ℕ
handler_offence ms l i ns fs = or_code (line_offence l (task_offence ms as_handler fs))
    (code_where (nat_le most_handlers i) 8
    (code_where (is_second ns (text_in (field_value (codes "name") fs))) 9 None))

abbrev pub handler_before : Fields → Option TaskData → List HandlerData → List HandlerData
handler_before fs None hs = hs
handler_before fs (Some t) hs = record {
  work = t;
  name = text_in (field_value (codes "name") fs);
  topics = topics_in (field_value (codes "listen") fs);
} ∷ hs

-- the handlers from that line on, behind so many with these names
abbrev pub handlers_in : Registry → ℕ → ℕ → List Name → Items → Reading (List HandlerData)
handlers_in ms l i ns no_items = Ok ([], l)
handlers_in ms l i ns (item (rec fs) ds) = unless l (handler_offence ms l i ns fs)
    (changed (handler_before fs (task_of ms as_handler l fs)) (handlers_in ms (suc l) (suc i)
    (named_too ns (text_in (field_value (codes "name") fs))) ds))
handlers_in ms l i ns (item d ds) = refused_at l 2

abbrev pub handlers_of : Registry → ℕ → Option Data → Reading (List HandlerData)
handlers_of ms l (Some (list ds)) = handlers_in ms l 0 [] ds
handlers_of ms l d = Ok ([], l)

abbrev pub section_of : Registry → ℕ → Option Data → Reading Steps
section_of ms l (Some (list ds)) = steps_in ms 0 l ds
section_of ms l d = Ok (no_steps, l)

-- digits without a leading zero, as a number
abbrev pub number_from : ℕ → List ℕ → Option (ℕ × List ℕ)
number_from n [] = Some (n, [])
number_from n (b ∷ bs) = cond (is_digit b) (number_from (n * 10 + (b - 48)) bs) (Some (n, b ∷ bs))

abbrev pub is_percentage : Option (ℕ × List ℕ) → Option ℕ
is_percentage (Some (n, b ∷ [])) =
    cond ((b == 37) && (nat_le 1 n && nat_le n 100)) (Some n) None
is_percentage r = None

-- `N%` from 1 to 100
abbrev pub percentage_in : List ℕ → Option ℕ
percentage_in [] = None
percentage_in (b ∷ bs) =
    cond (is_digit b && not (b == 48)) (is_percentage (number_from 0 (b ∷ bs))) None

abbrev pub cut_in : Data → Option Cut
cut_in (int (pos n)) = cond (nat_le 1 n && nat_le n 1024) (Some (host_count n)) None
cut_in (text bs) = option_map percentage (percentage_in bs)
cut_in d = None

abbrev pub cut_before : Option Cut → Option (List Cut) → Option (List Cut)
cut_before (Some c) (Some cs) = Some (c ∷ cs)
cut_before c cs = None

abbrev pub cuts_in : Items → Option (List Cut)
cuts_in no_items = Some []
cuts_in (item d ds) = cut_before (cut_in d) (cuts_in ds)

-- serial := cut | [cut, ..], with a cut at least
abbrev pub serial_in : Data → Option (List Cut)
serial_in (list no_items) = None
serial_in (list ds) = cuts_in ds
serial_in d = cut_before (cut_in d) (Some [])

abbrev pub is_serial : Data → Bool
is_serial d = not (is_missing (serial_in d))

abbrev pub is_filled_text : Data → Bool
is_filled_text (text (b ∷ bs)) = true
is_filled_text d = false

abbrev pub are_filled_texts : Items → Bool
are_filled_texts no_items = true
are_filled_texts (item d ds) = is_filled_text d && are_filled_texts ds

-- hosts := text | [text, ..], of texts that aren't empty
abbrev pub is_pattern : Data → Bool
is_pattern (list ds) = are_filled_texts ds
is_pattern d = is_filled_text d

abbrev pub is_strategy : Data → Bool
is_strategy (text bs) = is_among bs (codes "linear" ∷ codes "free" ∷ [])
is_strategy d = false

abbrev pub other_lines : List Name
other_lines = codes "handlers" ∷ section_keywords

abbrev pub has_wrong_play_value : Fields → Bool
has_wrong_play_value fs = some_field_holds is_opaque (own_fields other_lines fs)
    || (not (list_all (λ n. is_list (field_value n fs)) other_lines)
    || (not (fits is_pattern (field_value (codes "hosts") fs))
    || (not (fits is_text (field_value (codes "name") fs))
    || (not (fits is_boolean (field_value (codes "gather_facts") fs))
    || (not (fits is_vars (field_value (codes "vars") fs))
    || (not (fits is_strategy (field_value (codes "strategy") fs))
    || (not (fits is_serial (field_value (codes "serial") fs))
    || not (fits is_boolean (field_value (codes "force_handlers") fs)))))))))

abbrev pub is_large_play : ℕ → Fields → Bool
is_large_play i fs = nat_le most_plays i
    || not (not (some_field_holds is_long_text (own_fields other_lines fs))
    && is_record_within (field_value (codes "vars") fs))

-- what the play is refused with, the least code that applies
abbrev pub play_offence : ℕ → ℕ → Fields → Option ℕ
play_offence i l fs =
    code_where (not (has_key (codes "hosts") fs)) 2
    (code_where (has_other_key play_keywords fs) 3
    (code_where (has_wrong_play_value fs) 4
    (code_where (is_missing (vars_found (field_value (codes "vars") fs))) 7
    (code_where (is_large_play i fs || nat_lt most_lines l) 8 None))))

-- the words of a pattern, which `:` and `,` divide, without the blanks round them
abbrev pub is_blank : ℕ → Bool
is_blank b = (b == 32) || ((b == 9) || ((b == 10) || (b == 13)))

abbrev pub without_blanks : List ℕ → List ℕ
without_blanks [] = []
without_blanks (b ∷ bs) = cond (is_blank b) (without_blanks bs) (b ∷ bs)

abbrev pub turned : List ℕ → List ℕ → List ℕ
turned done [] = done
turned done (b ∷ bs) = turned (b ∷ done) bs

-- of a word whose bytes were met in the other order
abbrev pub word_met : List ℕ → Name
word_met bs = without_blanks (turned [] (without_blanks bs))

abbrev pub words_from : List ℕ → List ℕ → List Name
words_from met [] = word_met met ∷ []
words_from met (b ∷ bs) = cond ((b == 58) || (b == 44)) (word_met met ∷ words_from [] bs)
    (words_from (b ∷ met) bs)

abbrev pub words_of_each : Items → List Name
words_of_each (item (text bs) ds) = words_from [] bs ++ words_of_each ds
words_of_each ds = []

abbrev pub pattern_in : Option Data → List Name
pattern_in (Some (text bs)) = words_from [] bs
pattern_in (Some (list ds)) = words_of_each ds
pattern_in d = []

abbrev pub serial_given : Option Data → List Cut
serial_given None = []
serial_given (Some d) = unwrap_or (serial_in d) []

abbrev pub is_free : Option Name → Bool
is_free None = false
is_free (Some bs) = bytes_eq bs (codes "free")

abbrev pub is_set : Option Bool → Bool
is_set None = false
is_set (Some b) = b

abbrev pub play_of : ℕ → Option ℕ → Fields → Steps → Steps → Steps → List HandlerData → PlayData
play_of l gathering fs pre tasks post handlers = record {
  line = l;
  pattern = pattern_in (field_value (codes "hosts") fs);
  gathering = gathering;
  vars = unwrap_or (vars_found (field_value (codes "vars") fs)) no_parts;
  is_linear = not (is_free (text_in (field_value (codes "strategy") fs)));
  serial = serial_given (field_value (codes "serial") fs);
  pre_tasks = pre;
  tasks = tasks;
  post_tasks = post;
  handlers = handlers;
  forces = is_set (boolean_in (field_value (codes "force_handlers") fs));
}

abbrev pub gathers : Fields → Bool
gathers fs = is_set (boolean_in (field_value (codes "gather_facts") fs))

-- a play that gathers facts has a line more, for that task
abbrev pub gathering_in : ℕ → Fields → Reading (Option ℕ)
gathering_in l fs = cond (gathers fs) (unless l (line_offence l None) (Ok (Some l, suc l)))
    (Ok (None, l))

abbrev pub play_in : Registry → ℕ → ℕ → Data → Reading PlayData
play_in ms i l (rec fs) = unless l (play_offence i l fs)
    (and_then (gathering_in (suc l) fs) (λ gathering a.
    and_then (section_of ms a (field_value (codes "pre_tasks") fs)) (λ pre b.
    and_then (section_of ms b (field_value (codes "tasks") fs)) (λ tasks c.
    and_then (section_of ms c (field_value (codes "post_tasks") fs)) (λ post d.
    changed (play_of l gathering fs pre tasks post)
    (handlers_of ms d (field_value (codes "handlers") fs)))))))
play_in ms i l d = refused_at l 2

abbrev pub plays_in : Registry → ℕ → ℕ → Items → Reading Book
plays_in ms i l no_items = Ok ([], l)
plays_in ms i l (item d ds) = and_then (play_in ms i l d)
    (λ play next. changed (λ plays. play ∷ plays) (plays_in ms (suc i) next ds))

abbrev pub book_read : Reading Book → Result Book Offence
book_read (Ok r) = Ok r.0
book_read (Err o) = Err o

-- the book that the value is, with these modules
abbrev pub book_from : Registry → Data → Result Book Offence
book_from ms (list ds) = book_read (plays_in ms 0 1 ds)
book_from ms d = Err (record { line = 0; code = 2 })
