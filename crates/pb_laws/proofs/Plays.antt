-- Plays, printed, are read as themselves, and so are books.
use Rattle.std.proofs.Common.{◌≡◌, ℕ, suc, [], ◌∷◌, Bool, true, false, not, ◌&&◌, ◌||◌, cond, Option, Some, None, option_map, unwrap_or, Ok, codes, refl, sym, ap, ◌∙◌}
use Rattle.std.specs.List.{list_all, list_any}
use Rattle.pb_semantics.specs.Data.{Items, Fields, boolean, list, rec, no_items, item, no_fields, field_value}
use Rattle.pb_semantics.specs.Keeps.{is_among}
use Rattle.pb_language.specs.Book.{Book, PlayData, Registry}
use Rattle.pb_language.specs.BookForm.{and_then, book_read, changed, fits, gathering_in, handlers_in, handlers_of, has_other_key, has_wrong_play_value, is_free, is_large_play, is_list, is_pattern, is_serial, is_set, is_strategy, line_offence, other_lines, own_fields, pattern_in, play_in, play_of, play_offence, plays_in, section_of, serial_given, steps_in, unless}
use Rattle.pb_language.specs.Expression.{no_parts}
use Rattle.pb_language.specs.Keywords.{play_keywords}
use Rattle.pb_language.specs.Nesting.{holds, some_field_holds}
use Rattle.pb_language.specs.TaskForm.{boolean_in, code_where, has_key, holds_where, is_boolean, is_missing, is_text, is_vars, text_in, vars_found}
use Rattle.pb_language.specs.Texts.{is_opaque}
use Rattle.pb_laws.specs.PrintedBook.{Writing, play_entries, printed_cuts, printed_handlers, printed_play, printed_plays, printed_steps, some_list, some_record, strategy_name, texts, true_where, values}
use Rattle.pb_laws.specs.PrintableBook.{ArePlays, BooksAreReadBack, IsLine, IsPlay, Where, behind_gathering, behind_play, behind_post_tasks, behind_pre_tasks, behind_tasks}
use Rattle.pb_laws.proofs.Entries.{key_value, no_key_written, none_of_own_written, own_entry, value_written}
use Rattle.pb_laws.proofs.Expressions.{texts_clear, values_clear, vars_read}
use Rattle.pb_laws.proofs.Handlers.{handlers_read}
use Rattle.pb_laws.proofs.Patterns.{cuts_clear, serial_form, serial_read, words_filled, words_read}
use Rattle.pb_laws.proofs.Steps.{some_is_list, steps_read}
use Rattle.pb_laws.proofs.Tasks.{list_clear, record_clear, vars_form}

-- what fields say of a play
record SaysPlay (w : Writing) (fs : Fields) (p : PlayData) : Type 0 where
  keys : has_other_key play_keywords fs ≡ false
  clear : some_field_holds is_opaque (own_fields other_lines fs) ≡ false
  name : field_value (codes "name") fs ≡ None
  hosts : field_value (codes "hosts") fs ≡ Some (list (texts p.pattern))
  gather_facts : field_value (codes "gather_facts") fs ≡ option_map (λ l. boolean true) p.gathering
  vars : field_value (codes "vars") fs ≡ some_record (values w p.vars)
  strategy : field_value (codes "strategy") fs ≡ strategy_name p.is_linear
  serial : field_value (codes "serial") fs ≡ some_list (printed_cuts p.serial)
  force_handlers : field_value (codes "force_handlers") fs ≡ true_where p.forces
  pre_tasks : field_value (codes "pre_tasks") fs ≡ some_list (printed_steps w p.pre_tasks)
  tasks : field_value (codes "tasks") fs ≡ some_list (printed_steps w p.tasks)
  post_tasks : field_value (codes "post_tasks") fs ≡ some_list (printed_steps w p.post_tasks)
  handlers : field_value (codes "handlers") fs ≡ some_list (printed_handlers w p.handlers)

-- what may be left out

gathering_form : (o : Option ℕ) → fits is_boolean (option_map (λ l. boolean true) o) ≡ true
gathering_form None = refl
gathering_form (Some l) = refl

gathering_clear : (o : Option ℕ) → holds_where (holds is_opaque) (option_map (λ l. boolean true) o) ≡ false
gathering_clear None = refl
gathering_clear (Some l) = refl

strategy_form : (b : Bool) → fits is_strategy (strategy_name b) ≡ true
strategy_form true = refl
strategy_form false = refl

strategy_clear : (b : Bool) → holds_where (holds is_opaque) (strategy_name b) ≡ false
strategy_clear true = refl
strategy_clear false = refl

strategy_read : (b : Bool) → not (is_free (text_in (strategy_name b))) ≡ b
strategy_read true = refl
strategy_read false = refl

true_form : (b : Bool) → fits is_boolean (true_where b) ≡ true
true_form true = refl
true_form false = refl

true_clear : (b : Bool) → holds_where (holds is_opaque) (true_where b) ≡ false
true_clear true = refl
true_clear false = refl

true_read : (b : Bool) → is_set (boolean_in (true_where b)) ≡ b
true_read true = refl
true_read false = refl

-- the printed fields of a play say it

entries_clear : (ms : Registry) (w : Writing) (i l : ℕ) (p : PlayData) → IsPlay ms w i l p → list_any (own_entry is_opaque other_lines) (play_entries w p) ≡ false
entries_clear ms w i l p h = λ j. texts_clear p.pattern j || (gathering_clear p.gathering j || (record_clear (values w p.vars) (values_clear w p.vars h.vars.values) j
    || (strategy_clear p.is_linear j || (list_clear (printed_cuts p.serial) (cuts_clear p.serial) j || (true_clear p.forces j || false)))))

says_play : (ms : Registry) (w : Writing) (i l : ℕ) (p : PlayData) → IsPlay ms w i l p → SaysPlay w (printed_play w p) p
says_play ms w i l p h =
    let es = play_entries w p in
    record {
      keys = no_key_written (λ n. not (is_among n play_keywords)) es no_fields refl refl;
      clear = none_of_own_written is_opaque other_lines es (entries_clear ms w i l p h);
      name = value_written (codes "name") es no_fields;
      hosts = value_written (codes "hosts") es no_fields;
      gather_facts = value_written (codes "gather_facts") es no_fields;
      vars = value_written (codes "vars") es no_fields;
      strategy = value_written (codes "strategy") es no_fields;
      serial = value_written (codes "serial") es no_fields;
      force_handlers = value_written (codes "force_handlers") es no_fields;
      pre_tasks = value_written (codes "pre_tasks") es no_fields;
      tasks = value_written (codes "tasks") es no_fields;
      post_tasks = value_written (codes "post_tasks") es no_fields;
      handlers = value_written (codes "handlers") es no_fields;
    }

play_unrefused : (ms : Registry) (w : Writing) (i l : ℕ) (p : PlayData) (fs : Fields) → IsPlay ms w i l p → SaysPlay w fs p → is_large_play i fs ≡ false → play_offence i l fs ≡ None
play_unrefused ms w i l p fs h f large =
    let hosts : has_key (codes "hosts") fs ≡ true = key_value (codes "hosts") fs ∙ ap (λ x. not (is_missing x)) f.hosts in
    let lists : list_all (λ n. is_list (field_value n fs)) other_lines ≡ true =
    (λ j. is_list (f.handlers j) && (is_list (f.pre_tasks j) && (is_list (f.tasks j) && (is_list (f.post_tasks j) && true))))
    ∙ (λ j. some_is_list (printed_handlers w p.handlers) j && (some_is_list (printed_steps w p.pre_tasks) j && (some_is_list (printed_steps w p.tasks) j && (some_is_list (printed_steps w p.post_tasks) j && true)))) in
    let pattern : fits is_pattern (field_value (codes "hosts") fs) ≡ true = ap (fits is_pattern) f.hosts ∙ words_filled p.pattern h.pattern in
    let name : fits is_text (field_value (codes "name") fs) ≡ true = ap (fits is_text) f.name in
    let gathering = ap (fits is_boolean) f.gather_facts ∙ gathering_form p.gathering in
    let vars = ap (fits is_vars) f.vars ∙ vars_form w p.vars h.vars in
    let strategy = ap (fits is_strategy) f.strategy ∙ strategy_form p.is_linear in
    let serial = ap (fits is_serial) f.serial ∙ serial_form p.serial h.serial in
    let forces = ap (fits is_boolean) f.force_handlers ∙ true_form p.forces in
    let wrong : has_wrong_play_value fs ≡ false = λ j. f.clear j || (not (lists j) || (not (pattern j) || (not (name j) || (not (gathering j) || (not (vars j) || (not (strategy j) || (not (serial j) || not (forces j)))))))) in
    let readable : is_missing (vars_found (field_value (codes "vars") fs)) ≡ false = ap (λ x. is_missing (vars_found x)) f.vars ∙ ap is_missing (vars_read w p.vars h.vars) in
    λ j. code_where (not (hosts j)) 2 (code_where (f.keys j) 3 (code_where (wrong j) 4 (code_where (readable j) 7 (code_where (large j || h.line.few j) 8 None))))

play_said : (ms : Registry) (w : Writing) (i l : ℕ) (p : PlayData) (fs : Fields) → IsPlay ms w i l p → SaysPlay w fs p → play_of l p.gathering fs p.pre_tasks p.tasks p.post_tasks p.handlers ≡ p
play_said ms w i l p fs h f =
    let pattern = ap pattern_in f.hosts ∙ words_read p.pattern h.pattern in
    let vars = ap vars_found f.vars ∙ vars_read w p.vars h.vars in
    let linear = ap (λ x. not (is_free (text_in x))) f.strategy ∙ strategy_read p.is_linear in
    let serial = ap serial_given f.serial ∙ serial_read p.serial h.serial in
    let forces = ap (λ x. is_set (boolean_in x)) f.force_handlers ∙ true_read p.forces in
    λ j. record {
      line = sym h.line.number j;
      pattern = pattern j;
      gathering = p.gathering;
      vars = unwrap_or (vars j) no_parts;
      is_linear = linear j;
      serial = serial j;
      pre_tasks = p.pre_tasks;
      tasks = p.tasks;
      post_tasks = p.post_tasks;
      handlers = p.handlers;
      forces = forces j;
    }

-- the parts of a play

gathering_given : (l : ℕ) (o : Option ℕ) → Where (IsLine (suc l)) o
    → cond (is_set (boolean_in (option_map (λ m. boolean true) o))) (unless (suc l) (line_offence (suc l) None) (Ok (Some (suc l), suc (suc l)))) (Ok (None, suc l)) ≡ Ok (o, behind_gathering l o)
gathering_given l None h = refl
gathering_given l (Some m) h = λ j. unless (suc l) (code_where (h.few j) 8 None) (Ok (Some (sym h.number j), suc (suc l)))

some_section : (ms : Registry) (l : ℕ) (ds : Items) → section_of ms l (some_list ds) ≡ steps_in ms 0 l ds
some_section ms l no_items = refl
some_section ms l (item d ds) = refl

some_handlers : (ms : Registry) (l : ℕ) (ds : Items) → handlers_of ms l (some_list ds) ≡ handlers_in ms l 0 [] ds
some_handlers ms l no_items = refl
some_handlers ms l (item d ds) = refl

play_read : (ms : Registry) (w : Writing) (i l : ℕ) (p : PlayData) → IsPlay ms w i l p → play_in ms i l (rec (printed_play w p)) ≡ Ok (p, behind_play l p)
play_read ms w i l p h =
    let fs = printed_play w p in
    let f = says_play ms w i l p h in
    let a = behind_gathering l p.gathering in
    let b = behind_pre_tasks l p in
    let c = behind_tasks l p in
    let d = behind_post_tasks l p in
    let offence = play_unrefused ms w i l p fs h f h.within in
    let gathering : gathering_in (suc l) fs ≡ Ok (p.gathering, a) =
    ap (λ x. cond (is_set (boolean_in x)) (unless (suc l) (line_offence (suc l) None) (Ok (Some (suc l), suc (suc l)))) (Ok (None, suc l))) f.gather_facts ∙ gathering_given l p.gathering h.gathering in
    let pre : section_of ms a (field_value (codes "pre_tasks") fs) ≡ Ok (p.pre_tasks, b) = ap (section_of ms a) f.pre_tasks ∙ some_section ms a (printed_steps w p.pre_tasks) ∙ steps_read ms w 0 a p.pre_tasks h.pre_tasks in
    let tasks : section_of ms b (field_value (codes "tasks") fs) ≡ Ok (p.tasks, c) = ap (section_of ms b) f.tasks ∙ some_section ms b (printed_steps w p.tasks) ∙ steps_read ms w 0 b p.tasks h.tasks in
    let post : section_of ms c (field_value (codes "post_tasks") fs) ≡ Ok (p.post_tasks, d) = ap (section_of ms c) f.post_tasks ∙ some_section ms c (printed_steps w p.post_tasks) ∙ steps_read ms w 0 c p.post_tasks h.post_tasks in
    let handlers : handlers_of ms d (field_value (codes "handlers") fs) ≡ Ok (p.handlers, behind_play l p) = ap (handlers_of ms d) f.handlers ∙ some_handlers ms d (printed_handlers w p.handlers) ∙ handlers_read ms w d p.handlers h.handlers h.few_handlers h.own_names in
    (λ j. unless l (offence j) (and_then (gathering j) (λ g a. and_then (section_of ms a (field_value (codes "pre_tasks") fs)) (λ pre b. and_then (section_of ms b (field_value (codes "tasks") fs)) (λ tasks c.
    and_then (section_of ms c (field_value (codes "post_tasks") fs)) (λ post d. changed (play_of l g fs pre tasks post) (handlers_of ms d (field_value (codes "handlers") fs))))))))
    ∙ (λ j. and_then (pre j) (λ pre b. and_then (section_of ms b (field_value (codes "tasks") fs)) (λ tasks c.
    and_then (section_of ms c (field_value (codes "post_tasks") fs)) (λ post d. changed (play_of l p.gathering fs pre tasks post) (handlers_of ms d (field_value (codes "handlers") fs))))))
    ∙ (λ j. and_then (tasks j) (λ tasks c. and_then (section_of ms c (field_value (codes "post_tasks") fs)) (λ post d. changed (play_of l p.gathering fs p.pre_tasks tasks post) (handlers_of ms d (field_value (codes "handlers") fs)))))
    ∙ (λ j. and_then (post j) (λ post d. changed (play_of l p.gathering fs p.pre_tasks p.tasks post) (handlers_of ms d (field_value (codes "handlers") fs))))
    ∙ (λ j. changed (play_of l p.gathering fs p.pre_tasks p.tasks p.post_tasks) (handlers j))
    ∙ (λ j. Ok (play_said ms w i l p fs h f j, behind_play l p))

-- the line behind the plays
abbrev behind_plays : ℕ → Book → ℕ
behind_plays l [] = l
behind_plays l (p ∷ ps) = behind_plays (behind_play l p) ps

plays_read : (ms : Registry) (w : Writing) (i l : ℕ) (ps : Book) → ArePlays ms w i l ps → plays_in ms i l (printed_plays w ps) ≡ Ok (ps, behind_plays l ps)
plays_read ms w i l [] h = refl
plays_read ms w i l (p ∷ ps) h =
    (λ j. and_then (play_read ms w i l p h.0 j) (λ play next. changed (λ plays. play ∷ plays) (plays_in ms (suc i) next (printed_plays w ps))))
    ∙ (λ j. changed (λ plays. p ∷ plays) (plays_read ms w (suc i) (behind_play l p) ps h.1 j))

pub books_are_read_back : BooksAreReadBack
books_are_read_back ms w b h = ap book_read (plays_read ms w 0 1 b h)
