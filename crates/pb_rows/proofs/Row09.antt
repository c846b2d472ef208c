-- Cases of row, computed.
use Rattle.std.specs.Prelude.{◌≡◌, refl, pos, [], ◌∷◌, ◌++◌, true, false, Some, None, codes}
use Rattle.std.specs.Fmt.{digits}
use Rattle.pb_semantics.specs.Data.{boolean, int, text, list, rec, no_items, item, no_fields, field}
use Rattle.pb_language.specs.Expression.{equal, literal, path, comparison, variable, no_expressions, expression, no_parts, part}
use Rattle.pb_language.specs.Book.{module_work, debug_work, no_steps, task_step, block_step, Book, Registry}
use Rattle.pb_language.specs.Builtins.{builtins}
use Rattle.pb_language.specs.Give.{object}
use Rattle.pb_language.specs.Judged.{judged}
use Rattle.pb_language.specs.Program.{Inventory}
use Rattle.pb_language.specs.Verdict.{accepted, refused}
use Rattle.pb_rows.specs.Recaps.{recaps_of}

-- row_until_rescued: until: a last attempt is failed
abbrev row_until_rescued_book : Book
row_until_rescued_book = (record { line = 1; pattern = ((codes "all") ∷ []); gathering = None; vars = (no_parts); is_linear = true; serial = ([]); pre_tasks = (no_steps); tasks = (block_step (record { line = 2; condition = (no_expressions); vars = (no_parts); ignore_errors = None }) (task_step (record { line = 3; work = (module_work (codes "command") (part (codes "cmd") (literal (text (codes "x"))) (no_parts))); condition = (no_expressions); loop = None; register = (Some (codes "out")); vars = (no_parts); notify = ([]); changed_when = None; failed_when = None; attempts = (Some (record { until = (expression (comparison equal (path (variable (codes "out")) ((codes "rc") ∷ [])) (literal (int (pos 5)))) (no_expressions)); retries = 1 })); ignore_errors = None }) (no_steps)) (task_step (record { line = 4; work = (debug_work (part (codes "msg") (path (variable (codes "ansible_failed_result")) ((codes "msg") ∷ [])) (no_parts))); condition = (no_expressions); loop = None; register = None; vars = (no_parts); notify = ([]); changed_when = None; failed_when = None; attempts = None; ignore_errors = None }) (no_steps)) (no_steps) (no_steps)); post_tasks = (no_steps); handlers = ([]); forces = false } ∷ [])

abbrev row_until_rescued_inventory : Inventory
row_until_rescued_inventory = record { hosts = (record { name = (codes "h1"); variables = (no_fields) } ∷ []); groups = (record { name = (codes "all"); hosts = ((codes "h1") ∷ []) } ∷ record { name = (codes "ungrouped"); hosts = ((codes "h1") ∷ []) } ∷ []) }

abbrev row_until_rescued_registry : Registry
row_until_rescued_registry = (builtins ++ ([]))

row_until_rescued : judged row_until_rescued_registry row_until_rescued_inventory row_until_rescued_book ≡ accepted 2
row_until_rescued = refl

-- row_until_rescued_run: until: a last attempt is failed, and rescued
abbrev row_until_rescued_run_book : Book
row_until_rescued_run_book = (record { line = 1; pattern = ((codes "all") ∷ []); gathering = None; vars = (no_parts); is_linear = true; serial = ([]); pre_tasks = (no_steps); tasks = (block_step (record { line = 2; condition = (no_expressions); vars = (no_parts); ignore_errors = None }) (task_step (record { line = 3; work = (module_work (codes "command") (part (codes "cmd") (literal (text (codes "x"))) (no_parts))); condition = (no_expressions); loop = None; register = (Some (codes "out")); vars = (no_parts); notify = ([]); changed_when = None; failed_when = None; attempts = (Some (record { until = (expression (comparison equal (path (variable (codes "out")) ((codes "rc") ∷ [])) (literal (int (pos 5)))) (no_expressions)); retries = 1 })); ignore_errors = None }) (no_steps)) (task_step (record { line = 4; work = (debug_work (part (codes "msg") (path (variable (codes "ansible_failed_result")) ((codes "msg") ∷ [])) (no_parts))); condition = (no_expressions); loop = None; register = None; vars = (no_parts); notify = ([]); changed_when = None; failed_when = None; attempts = None; ignore_errors = None }) (no_steps)) (no_steps) (no_steps)); post_tasks = (no_steps); handlers = ([]); forces = false } ∷ [])

abbrev row_until_rescued_run_inventory : Inventory
row_until_rescued_run_inventory = record { hosts = (record { name = (codes "h1"); variables = (no_fields) } ∷ []); groups = (record { name = (codes "all"); hosts = ((codes "h1") ∷ []) } ∷ record { name = (codes "ungrouped"); hosts = ((codes "h1") ∷ []) } ∷ []) }

abbrev row_until_rescued_run_registry : Registry
row_until_rescued_run_registry = (builtins ++ ([]))

row_until_rescued_run : recaps_of row_until_rescued_run_registry row_until_rescued_run_inventory row_until_rescued_run_book 5 ((object (rec (field (codes "changed") (boolean true) (field (codes "rc") (int (pos 0)) (field (codes "stderr") (text ([])) (field (codes "stderr_lines") (list (no_items)) (field (codes "stdout") (text (codes "a")) (field (codes "stdout_lines") (list (item (text (codes "a")) (no_items))) (no_fields)))))))) ∷ object (rec (field (codes "changed") (boolean true) (field (codes "rc") (int (pos 0)) (field (codes "stderr") (text ([])) (field (codes "stderr_lines") (list (no_items)) (field (codes "stdout") (text (codes "a")) (field (codes "stdout_lines") (list (item (text (codes "a")) (no_items))) (no_fields)))))))) ∷ []) ∷ []) ≡ (record { ok = 1; changed = 0; unreachable = 0; failed = 0; skipped = 0; rescued = 1; ignored = 0 } ∷ [])
unfolding digits
row_until_rescued_run = refl

-- row_until_read: until: what only a failure has
abbrev row_until_read_book : Book
row_until_read_book = (record { line = 1; pattern = ((codes "all") ∷ []); gathering = None; vars = (no_parts); is_linear = true; serial = ([]); pre_tasks = (no_steps); tasks = (task_step (record { line = 2; work = (module_work (codes "command") (part (codes "cmd") (literal (text (codes "x"))) (no_parts))); condition = (no_expressions); loop = None; register = (Some (codes "out")); vars = (no_parts); notify = ([]); changed_when = None; failed_when = None; attempts = (Some (record { until = (expression (comparison equal (path (variable (codes "out")) ((codes "msg") ∷ [])) (literal (text (codes "x")))) (no_expressions)); retries = 2 })); ignore_errors = None }) (no_steps)); post_tasks = (no_steps); handlers = ([]); forces = false } ∷ [])

abbrev row_until_read_inventory : Inventory
row_until_read_inventory = record { hosts = (record { name = (codes "h1"); variables = (no_fields) } ∷ []); groups = (record { name = (codes "all"); hosts = ((codes "h1") ∷ []) } ∷ record { name = (codes "ungrouped"); hosts = ((codes "h1") ∷ []) } ∷ []) }

abbrev row_until_read_registry : Registry
row_until_read_registry = (builtins ++ ([]))

row_until_read : judged row_until_read_registry row_until_read_inventory row_until_read_book ≡ refused (record { code = 3; line = 2; host = (Some (codes "h1")) })
row_until_read = refl
