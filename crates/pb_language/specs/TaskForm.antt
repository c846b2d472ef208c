-- A task or a handler as a value writes it: what is wrong with it, by code, or what it is
-- (Ansible's pages on playbook keywords, loops, conditionals and handlers; the modules and actions
-- are this project's own).
use Rattle.std.specs.Prelude.{ℕ, pos, List, [], ◌∷◌, length, drop, Bool, true, false, not}
use Rattle.std.specs.Prelude.{◌&&◌, ◌||◌, ◌==◌, nat_le, cond, Option, Some, None, codes}
use Rattle.std.specs.Prelude.{option_map, unwrap_or}
use Rattle.std.specs.List.{list_all, list_any, starts_with}
use Rattle.std.specs.Str.{bytes_eq}
use Rattle.pb_semantics.specs.Data.{Data, Items, Fields, null, boolean, int, text, list, rec}
use Rattle.pb_semantics.specs.Data.{no_items, item, no_fields, field, field_value, count_of}
use Rattle.pb_semantics.specs.Keeps.{is_among}
use Rattle.pb_semantics.specs.Signature.{ModuleData}
use Rattle.pb_language.specs.Book.{Asserted, not_given, not_well_formed, conditions_are, Work}
use Rattle.pb_language.specs.Book.{module_work, debug_work, set_fact_work, assert_work, fail_work}
use Rattle.pb_language.specs.Book.{TaskData, Registry}
use Rattle.pb_language.specs.Expression.{Name, Expression, Expressions, no_expressions, Parts}
use Rattle.pb_language.specs.Expression.{no_parts}
use Rattle.pb_language.specs.Grammar.{Cut, cut, ending_in}
use Rattle.pb_language.specs.Inventories.{has_opening}
use Rattle.pb_language.specs.Keywords.{Standing, at_top, as_handler, is_left_out}
use Rattle.pb_language.specs.Keywords.{condition_keywords, keywords_of, topic_keywords}
use Rattle.pb_language.specs.Rules.{is_variable_name}
use Rattle.pb_language.specs.Nesting.{some_field_holds}
use Rattle.pb_language.specs.Task.{Attempts}
use Rattle.pb_language.specs.Texts.{are_list_within, are_values_within, conditions_in}
use Rattle.pb_language.specs.Texts.{has_conditions, has_short_conditions, is_long_text, is_opaque}
use Rattle.pb_language.specs.Texts.{is_text_within, parts_of, value_of, with_part}

-- the retries that may be asked for, and those where none are
abbrev pub most_retries : ℕ
most_retries = 255

abbrev pub default_retries : ℕ
default_retries = 3

-- of a loop that is written out
abbrev pub most_loop_items : ℕ
most_loop_items = 1024

-- what may stand once before the name of a module, an action or `meta`
abbrev pub builtin_prefix : Name
builtin_prefix = codes "ansible.builtin."

abbrev pub without_prefix : Name → Name
without_prefix n =
    cond (starts_with (λ a b. a == b) n builtin_prefix) (drop (length builtin_prefix) n) n

abbrev pub actions : List Name
actions = codes "debug" ∷ codes "set_fact" ∷ codes "assert" ∷ codes "fail" ∷ []

abbrev pub is_action : Name → Bool
is_action n = is_among n actions

abbrev pub module_at : Name → Registry → Option ModuleData
module_at n [] = None
module_at n (m ∷ ms) = cond (bytes_eq m.name n) (Some m) (module_at n ms)

abbrev pub is_missing : {A : Type 0} → Option A → Bool
is_missing None = true
is_missing (Some a) = false

abbrev pub is_known_work : Registry → Name → Bool
is_known_work ms n =
    is_action n || (bytes_eq n (codes "meta") || not (is_missing (module_at n ms)))

-- the entries whose keys are neither keywords nor left-out words: what the task does
abbrev pub works_in : Standing → Fields → Fields
works_in s no_fields = no_fields
works_in s (field n d fs) = cond (is_among n (keywords_of s) || is_left_out s n) (works_in s fs)
    (field (without_prefix n) d (works_in s fs))

abbrev pub has_key : Name → Fields → Bool
has_key n no_fields = false
has_key n (field m d fs) = bytes_eq n m || has_key n fs

abbrev pub keys_of : Fields → List Name
keys_of no_fields = []
keys_of (field n d fs) = n ∷ keys_of fs

-- P03: a left-out word, or one of another row
abbrev pub has_left_out : Standing → Fields → Bool
has_left_out s fs = list_any (is_left_out s) (keys_of fs)

abbrev pub is_text : Data → Bool
is_text (text bs) = true
is_text d = false

abbrev pub is_boolean : Data → Bool
is_boolean (boolean b) = true
is_boolean d = false

-- a text without templates
abbrev pub is_plain_text : Data → Bool
is_plain_text (text bs) = not (has_opening bs)
is_plain_text d = false

abbrev pub are_plain_texts : Items → Bool
are_plain_texts no_items = true
are_plain_texts (item d ds) = is_plain_text d && are_plain_texts ds

-- topics := text | [text, ..]
abbrev pub is_topics : Data → Bool
is_topics (list ds) = are_plain_texts ds
is_topics d = is_plain_text d

-- what stands behind the end of the expression whose braces begin the text
abbrev pub ends_with_it : Option Cut → Bool
ends_with_it (Some (cut bs [])) = true
ends_with_it c = false

-- the text is one template from its first byte to its last
abbrev pub is_template : List ℕ → Bool
is_template (b ∷ c ∷ bs) = ((b == 123) && (c == 123)) && ends_with_it (ending_in None bs)
is_template bs = false

-- loop := [value, ..] | template
abbrev pub is_loop : Data → Bool
is_loop (list ds) = true
is_loop (text bs) = is_template bs
is_loop d = false

abbrev pub is_name_of_variable : Data → Bool
is_name_of_variable (text bs) = is_variable_name bs
is_name_of_variable d = false

-- vars := {variable: value, ..}
abbrev pub is_vars : Data → Bool
is_vars (rec fs) = list_all is_variable_name (keys_of fs)
is_vars d = false

abbrev pub is_retries : Data → Bool
is_retries (int (pos n)) = nat_le 1 n && nat_le n most_retries
is_retries d = false

abbrev pub is_handler_name : Standing → Data → Bool
is_handler_name as_handler d = is_plain_text d
is_handler_name s d = is_text d

-- the value has the form that the keyword wants; of another key nothing is wanted
abbrev pub fits_keyword : Standing → Name → Data → Bool
fits_keyword s n d =
    cond (bytes_eq n (codes "name")) (is_handler_name s d)
    (cond (is_among n condition_keywords) (has_conditions d)
    (cond (bytes_eq n (codes "loop")) (is_loop d)
    (cond (bytes_eq n (codes "register")) (is_name_of_variable d)
    (cond (bytes_eq n (codes "vars")) (is_vars d)
    (cond (is_among n topic_keywords) (is_topics d)
    (cond (bytes_eq n (codes "ignore_errors")) (is_boolean d)
    (cond (bytes_eq n (codes "retries")) (is_retries d) true)))))))

abbrev pub fit_keywords : Standing → Fields → Bool
fit_keywords s no_fields = true
fit_keywords s (field n d fs) =
    cond (is_among n (keywords_of s)) (fits_keyword s n d) true && fit_keywords s fs

abbrev pub free_form : Option ModuleData → Option Name
free_form None = None
free_form (Some m) = m.free

-- arguments := {name: value, ..} | null, or a text for the parameter of the free form
abbrev pub is_arguments : Option Name → Data → Bool
is_arguments free null = true
is_arguments free (rec fs) = true
is_arguments free (text bs) = not (is_missing free)
is_arguments free d = false

abbrev pub is_flush : Standing → Data → Bool
is_flush at_top (text bs) = bytes_eq bs (codes "flush_handlers")
is_flush s d = false

-- `meta` stands at the top of a section, and no keyword but `name` beside it
abbrev pub is_meta : Standing → Fields → Data → Bool
is_meta s all d = is_flush s d
    && list_all (λ n. bytes_eq n (codes "name") || not (is_among n (keywords_of s))) (keys_of all)

-- a known module or action has arguments; of an unknown one nothing is wanted
abbrev pub fits_work : Registry → Standing → Fields → Name → Data → Bool
fits_work ms s all n d =
    cond (bytes_eq n (codes "meta")) (is_meta s all d)
    (cond (is_action n) (is_arguments None d)
    (cond (is_known_work ms n) (is_arguments (free_form (module_at n ms)) d) true))

abbrev pub fit_works : Registry → Standing → Fields → Fields → Bool
fit_works ms s all no_fields = true
fit_works ms s all (field n d fs) = fits_work ms s all n d && fit_works ms s all fs

-- `until` repeats a module's call without a loop, and `retries` says how often
abbrev pub fits_until : Standing → Fields → Bool
fits_until s fs = cond (has_key (codes "until") fs)
    (not (has_key (codes "loop") fs) && not (list_any is_action (keys_of (works_in s fs))))
    (not (has_key (codes "retries") fs))

-- P04: a value of the wrong form, or a number that is no whole number of 64 bits
abbrev pub has_wrong_value : Registry → Standing → Fields → Bool
has_wrong_value ms s fs = some_field_holds is_opaque fs
    || (not (fit_keywords s fs)
    || (not (fit_works ms s fs (works_in s fs)) || not (fits_until s fs)))

-- the one entry, where there is exactly one
abbrev pub lone : Fields → Option (Name × Data)
lone (field n d no_fields) = Some (n, d)
lone fs = None

-- P05: no module or several
abbrev pub has_no_lone_work : Standing → Fields → Bool
has_no_lone_work s fs = is_missing (lone (works_in s fs))

-- P06: a module that isn't known
abbrev pub is_unknown : Registry → Option (Name × Data) → Bool
is_unknown ms None = false
is_unknown ms (Some w) = not (is_known_work ms w.0)

-- the arguments that the value of a module's key gives
abbrev pub arguments_in : Option Name → Data → Option Parts
arguments_in free (rec fs) = parts_of fs
arguments_in (Some n) (text bs) = with_part n (value_of (text bs)) (Some no_parts)
arguments_in free d = Some no_parts

-- the arguments but that one
abbrev pub without_field : Name → Fields → Fields
without_field n no_fields = no_fields
without_field n (field m d fs) =
    cond (bytes_eq n m) (without_field n fs) (field m d (without_field n fs))

abbrev pub asserted_in : Option Data → Option Asserted
asserted_in None = Some not_given
asserted_in (Some d) = cond (has_conditions d) (option_map conditions_are (conditions_in d))
    (option_map (λ e. not_well_formed) (value_of d))

abbrev pub asserts : Option Asserted → Option Parts → Option Work
asserts (Some a) (Some ps) = Some (assert_work a ps)
asserts a ps = None

abbrev pub assertion : Data → Option Work
assertion (rec fs) = asserts (asserted_in (field_value (codes "that") fs))
    (parts_of (without_field (codes "that") fs))
assertion d = Some (assert_work not_given no_parts)

-- what the entry of that name asks for, where its texts can be read
abbrev pub work_of : Registry → Name → Data → Option Work
work_of ms n d =
    cond (bytes_eq n (codes "debug")) (option_map debug_work (arguments_in None d))
    (cond (bytes_eq n (codes "set_fact")) (option_map set_fact_work (arguments_in None d))
    (cond (bytes_eq n (codes "fail")) (option_map fail_work (arguments_in None d))
    (cond (bytes_eq n (codes "assert")) (assertion d)
    (option_map (module_work n) (arguments_in (free_form (module_at n ms)) d)))))

abbrev pub work_found : Registry → Option (Name × Data) → Option Work
work_found ms None = None
work_found ms (Some w) = work_of ms w.0 w.1

abbrev pub conditions_found : Option Data → Option Expressions
conditions_found None = Some no_expressions
conditions_found (Some d) = conditions_in d

abbrev pub vars_found : Option Data → Option Parts
vars_found (Some (rec fs)) = parts_of fs
vars_found d = Some no_parts

abbrev pub reads_all : Fields → Bool
reads_all fs = not (is_missing (conditions_found (field_value (codes "when") fs)))
    && (not (is_missing (conditions_found (field_value (codes "changed_when") fs)))
    && (not (is_missing (conditions_found (field_value (codes "failed_when") fs)))
    && (not (is_missing (conditions_found (field_value (codes "until") fs)))
    && not (is_missing (vars_found (field_value (codes "vars") fs))))))

abbrev pub loop_reads : Option Data → Bool
loop_reads None = true
loop_reads (Some d) = not (is_missing (value_of d))

-- P07: an expression that can't be read
abbrev pub has_unreadable : Registry → Standing → Fields → Bool
has_unreadable ms s fs = not (reads_all fs)
    || (not (loop_reads (field_value (codes "loop") fs))
    || is_missing (work_found ms (lone (works_in s fs))))

abbrev pub short_conditions : Option Data → Bool
short_conditions None = true
short_conditions (Some d) = has_short_conditions d

abbrev pub holds_where : (Data → Bool) → Option Data → Bool
holds_where f None = false
holds_where f (Some d) = f d

abbrev pub is_loop_within : Option Data → Bool
is_loop_within (Some (list ds)) = nat_le (count_of ds) most_loop_items && are_list_within ds
is_loop_within (Some (text bs)) = is_text_within bs
is_loop_within d = true

abbrev pub is_record_within : Option Data → Bool
is_record_within (Some (rec fs)) = are_values_within fs
is_record_within d = true

abbrev pub are_arguments_within : Data → Bool
are_arguments_within (text bs) = is_text_within bs
are_arguments_within (rec fs) = are_values_within fs
are_arguments_within d = true

-- what is asserted are conditions, where it has their form
abbrev pub is_assertion_within : Data → Bool
is_assertion_within (rec fs) = cond (holds_where has_conditions (field_value (codes "that") fs))
    (short_conditions (field_value (codes "that") fs)
    && are_values_within (without_field (codes "that") fs)) (are_values_within fs)
is_assertion_within d = true

abbrev pub is_work_within : Option (Name × Data) → Bool
is_work_within None = true
is_work_within (Some w) = cond (bytes_eq w.0 (codes "assert")) (is_assertion_within w.1)
    (are_arguments_within w.1)

-- P08: a text, an expression, a loop or a value past its limit
abbrev pub is_past_limits : Standing → Fields → Bool
is_past_limits s fs = not (not (some_field_holds is_long_text fs)
    && (short_conditions (field_value (codes "when") fs)
    && (short_conditions (field_value (codes "changed_when") fs)
    && (short_conditions (field_value (codes "failed_when") fs)
    && (short_conditions (field_value (codes "until") fs)
    && (is_loop_within (field_value (codes "loop") fs)
    && (is_record_within (field_value (codes "vars") fs)
    && is_work_within (lone (works_in s fs)))))))))

-- the code where that is so, else another
abbrev pub code_where : Bool → ℕ → Option ℕ → Option ℕ
code_where true n later = Some n
code_where false n later = later

-- what the task is refused with, the least code that applies
abbrev pub task_offence : Registry → Standing → Fields → Option ℕ
task_offence ms s fs =
    code_where (has_left_out s fs) 3
    (code_where (has_wrong_value ms s fs) 4
    (code_where (has_no_lone_work s fs) 5
    (code_where (is_unknown ms (lone (works_in s fs))) 6
    (code_where (has_unreadable ms s fs) 7
    (code_where (is_past_limits s fs) 8 None)))))

-- of a value that has the form, what it says
abbrev pub text_in : Option Data → Option Name
text_in (Some (text bs)) = Some bs
text_in d = None

abbrev pub names_in : Items → List Name
names_in (item (text bs) ds) = bs ∷ names_in ds
names_in ds = []

abbrev pub topics_in : Option Data → List Name
topics_in (Some (text bs)) = bs ∷ []
topics_in (Some (list ds)) = names_in ds
topics_in d = []

abbrev pub boolean_in : Option Data → Option Bool
boolean_in (Some (boolean b)) = Some b
boolean_in d = None

abbrev pub conditions_given : Option Data → Option Expressions
conditions_given None = None
conditions_given (Some d) = conditions_in d

abbrev pub loop_in : Option Data → Option Expression
loop_in None = None
loop_in (Some d) = value_of d

abbrev pub retries_in : Option Data → ℕ
retries_in (Some (int (pos n))) = n
retries_in d = default_retries

abbrev pub attempts_in : Fields → Option Attempts
attempts_in fs = option_map
    (λ es. record { until = es; retries = retries_in (field_value (codes "retries") fs) })
    (conditions_given (field_value (codes "until") fs))

-- the task at that line, where nothing is wrong with it
abbrev pub task_of : Registry → Standing → ℕ → Fields → Option TaskData
task_of ms s l fs = option_map (λ w. record {
  line = l;
  work = w;
  condition = unwrap_or (conditions_found (field_value (codes "when") fs)) no_expressions;
  loop = loop_in (field_value (codes "loop") fs);
  register = text_in (field_value (codes "register") fs);
  vars = unwrap_or (vars_found (field_value (codes "vars") fs)) no_parts;
  notify = topics_in (field_value (codes "notify") fs);
  changed_when = conditions_given (field_value (codes "changed_when") fs);
  failed_when = conditions_given (field_value (codes "failed_when") fs);
  attempts = attempts_in fs;
  ignore_errors = boolean_in (field_value (codes "ignore_errors") fs);
}) (work_found ms (lone (works_in s fs)))
