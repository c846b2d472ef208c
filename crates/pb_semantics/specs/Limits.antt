-- The limits of files, and of what stands in them (this project's own).
use Rattle.std.specs.Prelude.{ℕ}

-- of files, in bytes: of a playbook, and of an inventory
abbrev pub most_book_bytes : ℕ
most_book_bytes = 4194304

abbrev pub most_inventory_bytes : ℕ
most_inventory_bytes = 4194304

abbrev pub most_answer_bytes : ℕ
most_answer_bytes = 67108864

-- the tasks of a playbook: its lines but the first, which is the play's
abbrev pub most_tasks : ℕ
most_tasks = 4095

-- the steps of all plays
abbrev pub most_play_steps : ℕ
most_play_steps = 8192

-- how many lists and records of an argument stand inside one another
abbrev pub most_levels : ℕ
most_levels = 32

-- of texts, in bytes
abbrev pub most_text_bytes : ℕ
most_text_bytes = 65536

abbrev pub most_expression_bytes : ℕ
most_expression_bytes = 4096

-- how deep parentheses and `not` stand inside one another in an expression
abbrev pub most_nesting : ℕ
most_nesting = 32

-- the steps of a path: `a.b` has one
abbrev pub most_path_steps : ℕ
most_path_steps = 16

-- an expression with its braces
abbrev pub most_template_bytes : ℕ
most_template_bytes = 4100

-- of the name of a variable
abbrev pub most_name_bytes : ℕ
most_name_bytes = 128

abbrev pub most_host_name_bytes : ℕ
most_host_name_bytes = 253

abbrev pub most_hosts : ℕ
most_hosts = 1024

-- the lines of what a program prints
abbrev pub most_output_lines : ℕ
most_output_lines = 65536

-- of what a value and a kind weigh, and how many lists and records nest in one
abbrev pub most_value_weight : ℕ
most_value_weight = 16777216

abbrev pub most_kind_weight : ℕ
most_kind_weight = 4194304

abbrev pub most_weight_levels : ℕ
most_weight_levels = 512
