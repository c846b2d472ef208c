-- What stands at a play itself, by steps, and where it is refused.
use Rattle.std.specs.Prelude.{ℕ, List, [], ◌∷◌, Bool, true, not, ◌&&◌, ◌||◌, cond}
use Rattle.std.specs.Prelude.{Option, None, Result, codes, map, unwrap_or}
use Rattle.std.specs.List.{list_all}
use Rattle.std.specs.Str.{bytes_eq}
use Rattle.pb_semantics.specs.Data.{Data, Fields, field_value}
use Rattle.pb_semantics.specs.Keeps.{is_among}
use Rattle.pb_language.specs.Book.{Cut}
use Rattle.pb_language.specs.BookForm.{Offence, fits, gathers, has_other_key, has_wrong_play_value}
use Rattle.pb_language.specs.BookForm.{is_free, is_list, is_pattern, is_serial, is_set, is_strategy}
use Rattle.pb_language.specs.BookForm.{other_lines, own_fields, pattern_in, play_offence}
use Rattle.pb_language.specs.BookForm.{serial_given}
use Rattle.pb_language.specs.Expression.{Name, Parts, no_parts}
use Rattle.pb_language.specs.Keywords.{play_keywords}
use Rattle.pb_language.specs.Nesting.{some_field_holds}
use Rattle.pb_language.specs.TaskForm.{boolean_in, code_where, has_key, is_boolean}
use Rattle.pb_language.specs.TaskForm.{is_record_within, is_text, is_vars, text_in, vars_found}
use Rattle.pb_language.specs.Texts.{is_long_text}
use Rattle.pb_template.specs.Entries.{entries_view}
use Rattle.pb_task.specs.Tasks.{names_view}
use Rattle.pb_play.specs.Blocks.{refused_or}
use Rattle.pb_play.specs.Plays.{cut_view, is_linear, words_in}
use Rattle.pb_play.specs.declared.head.Head as code

-- the codes that are seen before a text is read
abbrev pub play_form_offence : Fields → Option ℕ
play_form_offence fs = code_where (not (has_key (codes "hosts") fs)) 2
    (code_where (has_other_key play_keywords fs) 3
    (code_where (has_wrong_play_value fs) 4 None))

-- the value has the form that the keyword wants; of another key nothing is wanted
abbrev pub fits_play_keyword : Name → Data → Bool
fits_play_keyword n d =
    cond (bytes_eq n (codes "hosts")) (is_pattern d)
    (cond (bytes_eq n (codes "name")) (is_text d)
    (cond (is_among n (codes "gather_facts" ∷ codes "force_handlers" ∷ [])) (is_boolean d)
    (cond (bytes_eq n (codes "vars")) (is_vars d)
    (cond (bytes_eq n (codes "strategy")) (is_strategy d)
    (cond (bytes_eq n (codes "serial")) (is_serial d) true)))))

abbrev pub are_other_lists : Fields → Bool
are_other_lists fs = list_all (λ n. is_list (field_value n fs)) other_lines

abbrev pub fits_at : Name → Fields → Bool
fits_at n fs = fits (fits_play_keyword n) (field_value n fs)

abbrev pub fit_run_keywords : Fields → Bool
fit_run_keywords fs = fits_at (codes "strategy") fs
    && (fits_at (codes "serial") fs && fits_at (codes "force_handlers") fs)

abbrev pub fit_play_keywords : Fields → Bool
fit_play_keywords fs = fits_at (codes "hosts") fs && (fits_at (codes "name") fs
    && (fits_at (codes "gather_facts") fs && (fits_at (codes "vars") fs && fit_run_keywords fs)))

abbrev pub has_wrong_form : Fields → Bool
has_wrong_form fs = not (are_other_lists fs) || not (fit_play_keywords fs)

abbrev pub are_play_texts_short : Fields → Bool
are_play_texts_short fs = not (some_field_holds is_long_text (own_fields other_lines fs))
    && is_record_within (field_value (codes "vars") fs)

pub record Head : Type 0 where
  pub pattern : List Name
  pub vars : Parts
  pub is_linear : Bool
  pub serial : List Cut
  pub gathers : Bool
  pub forces : Bool

abbrev pub play_head_view : code.Head → Head
play_head_view h = record {
  pattern = words_in (names_view h.pattern.items);
  vars = entries_view h.vars.items;
  is_linear = is_linear h.strategy;
  serial = map cut_view h.serial.items;
  gathers = h.gathers;
  forces = h.force_handlers;
}

abbrev pub play_head_with : Parts → Fields → Head
play_head_with ps fs = record {
  pattern = pattern_in (field_value (codes "hosts") fs);
  vars = ps;
  is_linear = not (is_free (text_in (field_value (codes "strategy") fs)));
  serial = serial_given (field_value (codes "serial") fs);
  gathers = gathers fs;
  forces = is_set (boolean_in (field_value (codes "force_handlers") fs));
}

abbrev pub play_head_read : ℕ → ℕ → Fields → Result Head Offence
play_head_read i l fs = refused_or l (play_offence i l fs)
    (play_head_with (unwrap_or (vars_found (field_value (codes "vars") fs)) no_parts) fs)
