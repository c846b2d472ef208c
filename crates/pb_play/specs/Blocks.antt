-- What stands at a block itself, by steps, and where it is refused.
use Rattle.std.specs.Prelude.{ℕ, Bool, ◌&&◌, not, Option, Some, None, Result, Ok, Err, codes}
use Rattle.std.specs.List.{list_all}
use Rattle.pb_semantics.specs.Data.{Fields, field_value}
use Rattle.pb_language.specs.Book.{BlockData}
use Rattle.pb_language.specs.BookForm.{Offence, block_offence, block_of, fits, has_other_key}
use Rattle.pb_language.specs.BookForm.{has_wrong_block_value, is_list, own_fields}
use Rattle.pb_language.specs.Expression.{Expressions, Parts}
use Rattle.pb_language.specs.Keywords.{block_keywords, in_block, part_keywords}
use Rattle.pb_language.specs.Nesting.{some_field_holds}
use Rattle.pb_language.specs.TaskForm.{boolean_in, code_where, conditions_found, fits_keyword}
use Rattle.pb_language.specs.TaskForm.{is_record_within, short_conditions, vars_found}
use Rattle.pb_language.specs.Texts.{is_long_text}

-- what is read, or the code that refuses the line
abbrev pub refused_or : {A : Type 0} → ℕ → Option ℕ → A → Result A Offence
refused_or l None a = Ok a
refused_or l (Some n) a = Err (record { line = l; code = n })

-- what a block says of its steps, or the code that refuses its line
abbrev pub head_read : ℕ → ℕ → Fields → Result BlockData Offence
head_read k l fs = refused_or l (block_offence k l fs) (block_of l fs)

-- the codes that are seen before a text is read
abbrev pub block_form_offence : Fields → Option ℕ
block_form_offence fs = code_where (has_other_key block_keywords fs) 3
    (code_where (has_wrong_block_value fs) 4 None)

abbrev pub are_block_lists : Fields → Bool
are_block_lists fs = list_all (λ n. is_list (field_value n fs)) part_keywords

abbrev pub fit_block_keywords : Fields → Bool
fit_block_keywords fs = fits (fits_keyword in_block (codes "name")) (field_value (codes "name") fs)
    && (fits (fits_keyword in_block (codes "when")) (field_value (codes "when") fs)
    && (fits (fits_keyword in_block (codes "vars")) (field_value (codes "vars") fs)
    && fits (fits_keyword in_block (codes "ignore_errors"))
    (field_value (codes "ignore_errors") fs)))

abbrev pub are_block_texts_short : Fields → Bool
are_block_texts_short fs = not (some_field_holds is_long_text (own_fields part_keywords fs))
    && (short_conditions (field_value (codes "when") fs)
    && is_record_within (field_value (codes "vars") fs))

-- what is said at the block, where its texts can be read
abbrev pub head_with : ℕ → Option Bool → Option Expressions → Option Parts → Option BlockData
head_with l i (Some es) (Some ps) =
    Some (record { line = l; condition = es; vars = ps; ignore_errors = i })
head_with l i es ps = None

abbrev pub head_from : ℕ → Fields → Option BlockData
head_from l fs = head_with l (boolean_in (field_value (codes "ignore_errors") fs))
    (conditions_found (field_value (codes "when") fs))
    (vars_found (field_value (codes "vars") fs))
