-- Sections, parts of blocks, and blocks, as they are read one by one.
use Rattle.std.specs.Prelude.{ℕ, suc, Option, Some, None, Ok, codes}
use Rattle.pb_semantics.specs.Data.{Data, Fields, field_value, list}
use Rattle.pb_language.specs.Book.{Registry, TaskData, block_step, flush_step, no_steps, task_step}
use Rattle.pb_language.specs.Book.{Steps}
use Rattle.pb_language.specs.BookForm.{Before, Reading, and_then, block_offence, block_of, changed}
use Rattle.pb_language.specs.BookForm.{steps_in, unless}

-- the steps of a section or a part that may be there
abbrev pub steps_at : Registry → ℕ → ℕ → Option Data → Reading Steps
steps_at ms k l (Some (list ds)) = steps_in ms k l ds
steps_at ms k l d = Ok (no_steps, l)

abbrev pub block_at : Registry → ℕ → ℕ → Fields → Reading Before
block_at ms k l fs = unless l (block_offence k l fs)
    (and_then (steps_at ms (suc k) (suc l) (field_value (codes "block") fs))
    (λ body next. and_then (steps_at ms (suc k) next (field_value (codes "rescue") fs))
    (λ rescue then. changed (λ always. block_step (block_of l fs) body rescue always)
    (steps_at ms (suc k) then (field_value (codes "always") fs)))))

abbrev pub step_with : ℕ → Option TaskData → Before
step_with l None ss = flush_step l ss
step_with l (Some t) ss = task_step t ss
