-- The books of cases as they are read, computed.
use Rattle.std.specs.Prelude.{◌≡◌, refl, pos, [], ◌∷◌, ◌++◌, true, false, Some, None, Ok, Err, codes}
use Rattle.pb_semantics.specs.Data.{null, boolean, int, text, list, rec, no_items, item, no_fields, field}
use Rattle.pb_language.specs.Expression.{equal, is_failed, is_skipped, this_host, literal, path, negation, disjunction, comparison, in_batch, path_status, variable, other, no_expressions, expression, no_parts, part}
use Rattle.pb_language.specs.Book.{not_well_formed, conditions_are, module_work, debug_work, set_fact_work, assert_work, fail_work, no_steps, task_step, block_step, flush_step}
use Rattle.pb_language.specs.BookForm.{book_from}
use Rattle.pb_language.specs.Builtins.{builtins}

book_240 : book_from (builtins ++ ([])) (list (item (rec (field (codes "hosts") (text (codes "all")) (field (codes "tasks") (list (item (rec (field (codes "always") (list (item (int (pos 5)) (no_items))) (field (codes "block") (list (item (rec (field (codes "ping") null (no_fields))) (item (rec (field (codes "ping") null (no_fields))) (no_items)))) (field (codes "rescue") (list (item (rec (field (codes "nope") null (no_fields))) (no_items))) (no_fields))))) (no_items))) (no_fields)))) (no_items))) ≡ Err (record { line = 5; code = 6 })
book_240 = refl

book_241 : book_from (builtins ++ ([])) (list (item (rec (field (codes "hosts") (text (codes "all")) (field (codes "tasks") (list (item (rec (field (codes "always") (list (item (int (pos 5)) (no_items))) (field (codes "block") (list (item (rec (field (codes "ping") null (no_fields))) (no_items))) (field (codes "rescue") (list (item (rec (field (codes "nope") null (no_fields))) (no_items))) (no_fields))))) (no_items))) (no_fields)))) (no_items))) ≡ Err (record { line = 4; code = 6 })
book_241 = refl

book_242 : book_from (builtins ++ ([])) (list (item (rec (field (codes "hosts") (text (codes "all")) (field (codes "tasks") (list (item (rec (field (codes "always") (list (item (rec (field (codes "always") (list (item (rec (field (codes "always") (list (item (rec (field (codes "always") (list (item (rec (field (codes "always") (list (item (rec (field (codes "always") (list (item (rec (field (codes "always") (list (item (rec (field (codes "always") (list (item (rec (field (codes "always") (list (item (rec (field (codes "always") (list (item (rec (field (codes "always") (list (item (rec (field (codes "always") (list (item (rec (field (codes "always") (list (item (rec (field (codes "always") (list (item (rec (field (codes "always") (list (item (rec (field (codes "always") (list (item (rec (field (codes "ping") null (no_fields))) (no_items))) (field (codes "block") (list (no_items)) (no_fields)))) (no_items))) (field (codes "block") (list (no_items)) (no_fields)))) (no_items))) (field (codes "block") (list (no_items)) (no_fields)))) (no_items))) (field (codes "block") (list (no_items)) (no_fields)))) (no_items))) (field (codes "block") (list (no_items)) (no_fields)))) (no_items))) (field (codes "block") (list (no_items)) (no_fields)))) (no_items))) (field (codes "block") (list (no_items)) (no_fields)))) (no_items))) (field (codes "block") (list (no_items)) (no_fields)))) (no_items))) (field (codes "block") (list (no_items)) (no_fields)))) (no_items))) (field (codes "block") (list (no_items)) (no_fields)))) (no_items))) (field (codes "block") (list (no_items)) (no_fields)))) (no_items))) (field (codes "block") (list (no_items)) (no_fields)))) (no_items))) (field (codes "block") (list (no_items)) (no_fields)))) (no_items))) (field (codes "block") (list (no_items)) (no_fields)))) (no_items))) (field (codes "block") (list (no_items)) (no_fields)))) (no_items))) (field (codes "block") (list (no_items)) (no_fields)))) (no_items))) (no_fields)))) (no_items))) ≡ Ok ((record { line = 1; pattern = ((codes "all") ∷ []); gathering = None; vars = (no_parts); is_linear = true; serial = ([]); pre_tasks = (no_steps); tasks = (block_step (record { line = 2; condition = (no_expressions); vars = (no_parts); ignore_errors = None }) (no_steps) (no_steps) (block_step (record { line = 3; condition = (no_expressions); vars = (no_parts); ignore_errors = None }) (no_steps) (no_steps) (block_step (record { line = 4; condition = (no_expressions); vars = (no_parts); ignore_errors = None }) (no_steps) (no_steps) (block_step (record { line = 5; condition = (no_expressions); vars = (no_parts); ignore_errors = None }) (no_steps) (no_steps) (block_step (record { line = 6; condition = (no_expressions); vars = (no_parts); ignore_errors = None }) (no_steps) (no_steps) (block_step (record { line = 7; condition = (no_expressions); vars = (no_parts); ignore_errors = None }) (no_steps) (no_steps) (block_step (record { line = 8; condition = (no_expressions); vars = (no_parts); ignore_errors = None }) (no_steps) (no_steps) (block_step (record { line = 9; condition = (no_expressions); vars = (no_parts); ignore_errors = None }) (no_steps) (no_steps) (block_step (record { line = 10; condition = (no_expressions); vars = (no_parts); ignore_errors = None }) (no_steps) (no_steps) (block_step (record { line = 11; condition = (no_expressions); vars = (no_parts); ignore_errors = None }) (no_steps) (no_steps) (block_step (record { line = 12; condition = (no_expressions); vars = (no_parts); ignore_errors = None }) (no_steps) (no_steps) (block_step (record { line = 13; condition = (no_expressions); vars = (no_parts); ignore_errors = None }) (no_steps) (no_steps) (block_step (record { line = 14; condition = (no_expressions); vars = (no_parts); ignore_errors = None }) (no_steps) (no_steps) (block_step (record { line = 15; condition = (no_expressions); vars = (no_parts); ignore_errors = None }) (no_steps) (no_steps) (block_step (record { line = 16; condition = (no_expressions); vars = (no_parts); ignore_errors = None }) (no_steps) (no_steps) (block_step (record { line = 17; condition = (no_expressions); vars = (no_parts); ignore_errors = None }) (no_steps) (no_steps) (task_step (record { line = 18; work = (module_work (codes "ping") (no_parts)); condition = (no_expressions); loop = None; register = None; vars = (no_parts); notify = ([]); changed_when = None; failed_when = None; attempts = None; ignore_errors = None }) (no_steps)) (no_steps)) (no_steps)) (no_steps)) (no_steps)) (no_steps)) (no_steps)) (no_steps)) (no_steps)) (no_steps)) (no_steps)) (no_steps)) (no_steps)) (no_steps)) (no_steps)) (no_steps)) (no_steps)); post_tasks = (no_steps); handlers = ([]); forces = false } ∷ []))
book_242 = refl

book_243 : book_from (builtins ++ ([])) (list (item (rec (field (codes "hosts") (text (codes "all")) (field (codes "tasks") (list (item (rec (field (codes "always") (list (item (rec (field (codes "always") (list (item (rec (field (codes "always") (list (item (rec (field (codes "always") (list (item (rec (field (codes "always") (list (item (rec (field (codes "always") (list (item (rec (field (codes "always") (list (item (rec (field (codes "always") (list (item (rec (field (codes "always") (list (item (rec (field (codes "always") (list (item (rec (field (codes "always") (list (item (rec (field (codes "always") (list (item (rec (field (codes "always") (list (item (rec (field (codes "always") (list (item (rec (field (codes "ping") null (no_fields))) (no_items))) (field (codes "block") (list (no_items)) (no_fields)))) (no_items))) (field (codes "block") (list (no_items)) (no_fields)))) (no_items))) (field (codes "block") (list (no_items)) (no_fields)))) (no_items))) (field (codes "block") (list (no_items)) (no_fields)))) (no_items))) (field (codes "block") (list (no_items)) (no_fields)))) (no_items))) (field (codes "block") (list (no_items)) (no_fields)))) (no_items))) (field (codes "block") (list (no_items)) (no_fields)))) (no_items))) (field (codes "block") (list (no_items)) (no_fields)))) (no_items))) (field (codes "block") (list (no_items)) (no_fields)))) (no_items))) (field (codes "block") (list (no_items)) (no_fields)))) (no_items))) (field (codes "block") (list (no_items)) (no_fields)))) (no_items))) (field (codes "block") (list (no_items)) (no_fields)))) (no_items))) (field (codes "block") (list (no_items)) (no_fields)))) (no_items))) (field (codes "block") (list (no_items)) (no_fields)))) (no_items))) (field (codes "vars") (rec (field (codes "item") (int (pos 1)) (no_fields))) (no_fields))))) (no_items))) ≡ Ok ((record { line = 1; pattern = ((codes "all") ∷ []); gathering = None; vars = (part (codes "item") (literal (int (pos 1))) (no_parts)); is_linear = true; serial = ([]); pre_tasks = (no_steps); tasks = (block_step (record { line = 2; condition = (no_expressions); vars = (no_parts); ignore_errors = None }) (no_steps) (no_steps) (block_step (record { line = 3; condition = (no_expressions); vars = (no_parts); ignore_errors = None }) (no_steps) (no_steps) (block_step (record { line = 4; condition = (no_expressions); vars = (no_parts); ignore_errors = None }) (no_steps) (no_steps) (block_step (record { line = 5; condition = (no_expressions); vars = (no_parts); ignore_errors = None }) (no_steps) (no_steps) (block_step (record { line = 6; condition = (no_expressions); vars = (no_parts); ignore_errors = None }) (no_steps) (no_steps) (block_step (record { line = 7; condition = (no_expressions); vars = (no_parts); ignore_errors = None }) (no_steps) (no_steps) (block_step (record { line = 8; condition = (no_expressions); vars = (no_parts); ignore_errors = None }) (no_steps) (no_steps) (block_step (record { line = 9; condition = (no_expressions); vars = (no_parts); ignore_errors = None }) (no_steps) (no_steps) (block_step (record { line = 10; condition = (no_expressions); vars = (no_parts); ignore_errors = None }) (no_steps) (no_steps) (block_step (record { line = 11; condition = (no_expressions); vars = (no_parts); ignore_errors = None }) (no_steps) (no_steps) (block_step (record { line = 12; condition = (no_expressions); vars = (no_parts); ignore_errors = None }) (no_steps) (no_steps) (block_step (record { line = 13; condition = (no_expressions); vars = (no_parts); ignore_errors = None }) (no_steps) (no_steps) (block_step (record { line = 14; condition = (no_expressions); vars = (no_parts); ignore_errors = None }) (no_steps) (no_steps) (block_step (record { line = 15; condition = (no_expressions); vars = (no_parts); ignore_errors = None }) (no_steps) (no_steps) (task_step (record { line = 16; work = (module_work (codes "ping") (no_parts)); condition = (no_expressions); loop = None; register = None; vars = (no_parts); notify = ([]); changed_when = None; failed_when = None; attempts = None; ignore_errors = None }) (no_steps)) (no_steps)) (no_steps)) (no_steps)) (no_steps)) (no_steps)) (no_steps)) (no_steps)) (no_steps)) (no_steps)) (no_steps)) (no_steps)) (no_steps)) (no_steps)) (no_steps)); post_tasks = (no_steps); handlers = ([]); forces = false } ∷ []))
book_243 = refl

book_244 : book_from (builtins ++ ([])) (list (item (rec (field (codes "hosts") (text (codes "all")) (field (codes "tasks") (list (item (rec (field (codes "always") (list (item (rec (field (codes "always") (list (item (rec (field (codes "always") (list (item (rec (field (codes "always") (list (item (rec (field (codes "always") (list (item (rec (field (codes "always") (list (item (rec (field (codes "always") (list (item (rec (field (codes "always") (list (item (rec (field (codes "always") (list (item (rec (field (codes "always") (list (item (rec (field (codes "always") (list (item (rec (field (codes "always") (list (item (rec (field (codes "always") (list (item (rec (field (codes "always") (list (item (rec (field (codes "ping") null (no_fields))) (no_items))) (field (codes "block") (list (no_items)) (no_fields)))) (no_items))) (field (codes "block") (list (no_items)) (no_fields)))) (no_items))) (field (codes "block") (list (no_items)) (no_fields)))) (no_items))) (field (codes "block") (list (no_items)) (no_fields)))) (no_items))) (field (codes "block") (list (no_items)) (no_fields)))) (no_items))) (field (codes "block") (list (no_items)) (no_fields)))) (no_items))) (field (codes "block") (list (no_items)) (no_fields)))) (no_items))) (field (codes "block") (list (no_items)) (no_fields)))) (no_items))) (field (codes "block") (list (no_items)) (no_fields)))) (no_items))) (field (codes "block") (list (no_items)) (no_fields)))) (no_items))) (field (codes "block") (list (no_items)) (no_fields)))) (no_items))) (field (codes "block") (list (no_items)) (no_fields)))) (no_items))) (field (codes "block") (list (no_items)) (no_fields)))) (no_items))) (field (codes "block") (list (no_items)) (no_fields)))) (no_items))) (no_fields)))) (item (rec (field (codes "hosts") (text (codes "all")) (field (codes "tasks") (list (item (rec (field (codes "always") (list (item (rec (field (codes "always") (list (item (rec (field (codes "always") (list (item (rec (field (codes "always") (list (item (rec (field (codes "always") (list (item (rec (field (codes "always") (list (item (rec (field (codes "always") (list (item (rec (field (codes "always") (list (item (rec (field (codes "always") (list (item (rec (field (codes "always") (list (item (rec (field (codes "always") (list (item (rec (field (codes "always") (list (item (rec (field (codes "always") (list (item (rec (field (codes "always") (list (item (rec (field (codes "ping") null (no_fields))) (no_items))) (field (codes "block") (list (no_items)) (no_fields)))) (no_items))) (field (codes "block") (list (no_items)) (no_fields)))) (no_items))) (field (codes "block") (list (no_items)) (no_fields)))) (no_items))) (field (codes "block") (list (no_items)) (no_fields)))) (no_items))) (field (codes "block") (list (no_items)) (no_fields)))) (no_items))) (field (codes "block") (list (no_items)) (no_fields)))) (no_items))) (field (codes "block") (list (no_items)) (no_fields)))) (no_items))) (field (codes "block") (list (no_items)) (no_fields)))) (no_items))) (field (codes "block") (list (no_items)) (no_fields)))) (no_items))) (field (codes "block") (list (no_items)) (no_fields)))) (no_items))) (field (codes "block") (list (no_items)) (no_fields)))) (no_items))) (field (codes "block") (list (no_items)) (no_fields)))) (no_items))) (field (codes "block") (list (no_items)) (no_fields)))) (no_items))) (field (codes "block") (list (no_items)) (no_fields)))) (no_items))) (no_fields)))) (no_items)))) ≡ Ok ((record { line = 1; pattern = ((codes "all") ∷ []); gathering = None; vars = (no_parts); is_linear = true; serial = ([]); pre_tasks = (no_steps); tasks = (block_step (record { line = 2; condition = (no_expressions); vars = (no_parts); ignore_errors = None }) (no_steps) (no_steps) (block_step (record { line = 3; condition = (no_expressions); vars = (no_parts); ignore_errors = None }) (no_steps) (no_steps) (block_step (record { line = 4; condition = (no_expressions); vars = (no_parts); ignore_errors = None }) (no_steps) (no_steps) (block_step (record { line = 5; condition = (no_expressions); vars = (no_parts); ignore_errors = None }) (no_steps) (no_steps) (block_step (record { line = 6; condition = (no_expressions); vars = (no_parts); ignore_errors = None }) (no_steps) (no_steps) (block_step (record { line = 7; condition = (no_expressions); vars = (no_parts); ignore_errors = None }) (no_steps) (no_steps) (block_step (record { line = 8; condition = (no_expressions); vars = (no_parts); ignore_errors = None }) (no_steps) (no_steps) (block_step (record { line = 9; condition = (no_expressions); vars = (no_parts); ignore_errors = None }) (no_steps) (no_steps) (block_step (record { line = 10; condition = (no_expressions); vars = (no_parts); ignore_errors = None }) (no_steps) (no_steps) (block_step (record { line = 11; condition = (no_expressions); vars = (no_parts); ignore_errors = None }) (no_steps) (no_steps) (block_step (record { line = 12; condition = (no_expressions); vars = (no_parts); ignore_errors = None }) (no_steps) (no_steps) (block_step (record { line = 13; condition = (no_expressions); vars = (no_parts); ignore_errors = None }) (no_steps) (no_steps) (block_step (record { line = 14; condition = (no_expressions); vars = (no_parts); ignore_errors = None }) (no_steps) (no_steps) (block_step (record { line = 15; condition = (no_expressions); vars = (no_parts); ignore_errors = None }) (no_steps) (no_steps) (task_step (record { line = 16; work = (module_work (codes "ping") (no_parts)); condition = (no_expressions); loop = None; register = None; vars = (no_parts); notify = ([]); changed_when = None; failed_when = None; attempts = None; ignore_errors = None }) (no_steps)) (no_steps)) (no_steps)) (no_steps)) (no_steps)) (no_steps)) (no_steps)) (no_steps)) (no_steps)) (no_steps)) (no_steps)) (no_steps)) (no_steps)) (no_steps)) (no_steps)); post_tasks = (no_steps); handlers = ([]); forces = false } ∷ record { line = 17; pattern = ((codes "all") ∷ []); gathering = None; vars = (no_parts); is_linear = true; serial = ([]); pre_tasks = (no_steps); tasks = (block_step (record { line = 18; condition = (no_expressions); vars = (no_parts); ignore_errors = None }) (no_steps) (no_steps) (block_step (record { line = 19; condition = (no_expressions); vars = (no_parts); ignore_errors = None }) (no_steps) (no_steps) (block_step (record { line = 20; condition = (no_expressions); vars = (no_parts); ignore_errors = None }) (no_steps) (no_steps) (block_step (record { line = 21; condition = (no_expressions); vars = (no_parts); ignore_errors = None }) (no_steps) (no_steps) (block_step (record { line = 22; condition = (no_expressions); vars = (no_parts); ignore_errors = None }) (no_steps) (no_steps) (block_step (record { line = 23; condition = (no_expressions); vars = (no_parts); ignore_errors = None }) (no_steps) (no_steps) (block_step (record { line = 24; condition = (no_expressions); vars = (no_parts); ignore_errors = None }) (no_steps) (no_steps) (block_step (record { line = 25; condition = (no_expressions); vars = (no_parts); ignore_errors = None }) (no_steps) (no_steps) (block_step (record { line = 26; condition = (no_expressions); vars = (no_parts); ignore_errors = None }) (no_steps) (no_steps) (block_step (record { line = 27; condition = (no_expressions); vars = (no_parts); ignore_errors = None }) (no_steps) (no_steps) (block_step (record { line = 28; condition = (no_expressions); vars = (no_parts); ignore_errors = None }) (no_steps) (no_steps) (block_step (record { line = 29; condition = (no_expressions); vars = (no_parts); ignore_errors = None }) (no_steps) (no_steps) (block_step (record { line = 30; condition = (no_expressions); vars = (no_parts); ignore_errors = None }) (no_steps) (no_steps) (block_step (record { line = 31; condition = (no_expressions); vars = (no_parts); ignore_errors = None }) (no_steps) (no_steps) (task_step (record { line = 32; work = (module_work (codes "ping") (no_parts)); condition = (no_expressions); loop = None; register = None; vars = (no_parts); notify = ([]); changed_when = None; failed_when = None; attempts = None; ignore_errors = None }) (no_steps)) (no_steps)) (no_steps)) (no_steps)) (no_steps)) (no_steps)) (no_steps)) (no_steps)) (no_steps)) (no_steps)) (no_steps)) (no_steps)) (no_steps)) (no_steps)) (no_steps)); post_tasks = (no_steps); handlers = ([]); forces = false } ∷ []))
book_244 = refl

book_245 : book_from (builtins ++ ([])) (list (item (rec (field (codes "hosts") (text (codes "all")) (field (codes "tasks") (list (item (rec (field (codes "always") (list (item (rec (field (codes "always") (list (item (rec (field (codes "always") (list (item (rec (field (codes "always") (list (item (rec (field (codes "always") (list (item (rec (field (codes "always") (list (item (rec (field (codes "always") (list (item (rec (field (codes "always") (list (item (rec (field (codes "always") (list (item (rec (field (codes "always") (list (item (rec (field (codes "always") (list (item (rec (field (codes "always") (list (item (rec (field (codes "always") (list (item (rec (field (codes "always") (list (no_items)) (field (codes "block") (list (no_items)) (no_fields)))) (no_items))) (field (codes "block") (list (no_items)) (no_fields)))) (no_items))) (field (codes "block") (list (no_items)) (no_fields)))) (no_items))) (field (codes "block") (list (no_items)) (no_fields)))) (no_items))) (field (codes "block") (list (no_items)) (no_fields)))) (no_items))) (field (codes "block") (list (no_items)) (no_fields)))) (no_items))) (field (codes "block") (list (no_items)) (no_fields)))) (no_items))) (field (codes "block") (list (no_items)) (no_fields)))) (no_items))) (field (codes "block") (list (no_items)) (no_fields)))) (no_items))) (field (codes "block") (list (no_items)) (no_fields)))) (no_items))) (field (codes "block") (list (no_items)) (no_fields)))) (no_items))) (field (codes "block") (list (no_items)) (no_fields)))) (no_items))) (field (codes "block") (list (no_items)) (no_fields)))) (no_items))) (field (codes "block") (list (no_items)) (no_fields)))) (item (rec (field (codes "ping") null (no_fields))) (no_items)))) (no_fields)))) (item (rec (field (codes "hosts") (text (codes "all")) (field (codes "tasks") (list (item (rec (field (codes "always") (list (item (rec (field (codes "always") (list (item (rec (field (codes "always") (list (item (rec (field (codes "always") (list (item (rec (field (codes "always") (list (item (rec (field (codes "always") (list (item (rec (field (codes "always") (list (item (rec (field (codes "always") (list (item (rec (field (codes "always") (list (item (rec (field (codes "always") (list (item (rec (field (codes "always") (list (item (rec (field (codes "always") (list (item (rec (field (codes "always") (list (item (rec (field (codes "always") (list (item (rec (field (codes "command") (rec (no_fields)) (no_fields))) (no_items))) (field (codes "block") (list (no_items)) (no_fields)))) (no_items))) (field (codes "block") (list (no_items)) (no_fields)))) (no_items))) (field (codes "block") (list (no_items)) (no_fields)))) (no_items))) (field (codes "block") (list (no_items)) (no_fields)))) (no_items))) (field (codes "block") (list (no_items)) (no_fields)))) (no_items))) (field (codes "block") (list (no_items)) (no_fields)))) (no_items))) (field (codes "block") (list (no_items)) (no_fields)))) (no_items))) (field (codes "block") (list (no_items)) (no_fields)))) (no_items))) (field (codes "block") (list (no_items)) (no_fields)))) (no_items))) (field (codes "block") (list (no_items)) (no_fields)))) (no_items))) (field (codes "block") (list (no_items)) (no_fields)))) (no_items))) (field (codes "block") (list (no_items)) (no_fields)))) (no_items))) (field (codes "block") (list (no_items)) (no_fields)))) (no_items))) (field (codes "block") (list (no_items)) (no_fields)))) (no_items))) (no_fields)))) (no_items)))) ≡ Ok ((record { line = 1; pattern = ((codes "all") ∷ []); gathering = None; vars = (no_parts); is_linear = true; serial = ([]); pre_tasks = (no_steps); tasks = (block_step (record { line = 2; condition = (no_expressions); vars = (no_parts); ignore_errors = None }) (no_steps) (no_steps) (block_step (record { line = 3; condition = (no_expressions); vars = (no_parts); ignore_errors = None }) (no_steps) (no_steps) (block_step (record { line = 4; condition = (no_expressions); vars = (no_parts); ignore_errors = None }) (no_steps) (no_steps) (block_step (record { line = 5; condition = (no_expressions); vars = (no_parts); ignore_errors = None }) (no_steps) (no_steps) (block_step (record { line = 6; condition = (no_expressions); vars = (no_parts); ignore_errors = None }) (no_steps) (no_steps) (block_step (record { line = 7; condition = (no_expressions); vars = (no_parts); ignore_errors = None }) (no_steps) (no_steps) (block_step (record { line = 8; condition = (no_expressions); vars = (no_parts); ignore_errors = None }) (no_steps) (no_steps) (block_step (record { line = 9; condition = (no_expressions); vars = (no_parts); ignore_errors = None }) (no_steps) (no_steps) (block_step (record { line = 10; condition = (no_expressions); vars = (no_parts); ignore_errors = None }) (no_steps) (no_steps) (block_step (record { line = 11; condition = (no_expressions); vars = (no_parts); ignore_errors = None }) (no_steps) (no_steps) (block_step (record { line = 12; condition = (no_expressions); vars = (no_parts); ignore_errors = None }) (no_steps) (no_steps) (block_step (record { line = 13; condition = (no_expressions); vars = (no_parts); ignore_errors = None }) (no_steps) (no_steps) (block_step (record { line = 14; condition = (no_expressions); vars = (no_parts); ignore_errors = None }) (no_steps) (no_steps) (block_step (record { line = 15; condition = (no_expressions); vars = (no_parts); ignore_errors = None }) (no_steps) (no_steps) (no_steps) (no_steps)) (no_steps)) (no_steps)) (no_steps)) (no_steps)) (no_steps)) (no_steps)) (no_steps)) (no_steps)) (no_steps)) (no_steps)) (no_steps)) (no_steps)) (task_step (record { line = 16; work = (module_work (codes "ping") (no_parts)); condition = (no_expressions); loop = None; register = None; vars = (no_parts); notify = ([]); changed_when = None; failed_when = None; attempts = None; ignore_errors = None }) (no_steps))); post_tasks = (no_steps); handlers = ([]); forces = false } ∷ record { line = 17; pattern = ((codes "all") ∷ []); gathering = None; vars = (no_parts); is_linear = true; serial = ([]); pre_tasks = (no_steps); tasks = (block_step (record { line = 18; condition = (no_expressions); vars = (no_parts); ignore_errors = None }) (no_steps) (no_steps) (block_step (record { line = 19; condition = (no_expressions); vars = (no_parts); ignore_errors = None }) (no_steps) (no_steps) (block_step (record { line = 20; condition = (no_expressions); vars = (no_parts); ignore_errors = None }) (no_steps) (no_steps) (block_step (record { line = 21; condition = (no_expressions); vars = (no_parts); ignore_errors = None }) (no_steps) (no_steps) (block_step (record { line = 22; condition = (no_expressions); vars = (no_parts); ignore_errors = None }) (no_steps) (no_steps) (block_step (record { line = 23; condition = (no_expressions); vars = (no_parts); ignore_errors = None }) (no_steps) (no_steps) (block_step (record { line = 24; condition = (no_expressions); vars = (no_parts); ignore_errors = None }) (no_steps) (no_steps) (block_step (record { line = 25; condition = (no_expressions); vars = (no_parts); ignore_errors = None }) (no_steps) (no_steps) (block_step (record { line = 26; condition = (no_expressions); vars = (no_parts); ignore_errors = None }) (no_steps) (no_steps) (block_step (record { line = 27; condition = (no_expressions); vars = (no_parts); ignore_errors = None }) (no_steps) (no_steps) (block_step (record { line = 28; condition = (no_expressions); vars = (no_parts); ignore_errors = None }) (no_steps) (no_steps) (block_step (record { line = 29; condition = (no_expressions); vars = (no_parts); ignore_errors = None }) (no_steps) (no_steps) (block_step (record { line = 30; condition = (no_expressions); vars = (no_parts); ignore_errors = None }) (no_steps) (no_steps) (block_step (record { line = 31; condition = (no_expressions); vars = (no_parts); ignore_errors = None }) (no_steps) (no_steps) (task_step (record { line = 32; work = (module_work (codes "command") (no_parts)); condition = (no_expressions); loop = None; register = None; vars = (no_parts); notify = ([]); changed_when = None; failed_when = None; attempts = None; ignore_errors = None }) (no_steps)) (no_steps)) (no_steps)) (no_steps)) (no_steps)) (no_steps)) (no_steps)) (no_steps)) (no_steps)) (no_steps)) (no_steps)) (no_steps)) (no_steps)) (no_steps)) (no_steps)); post_tasks = (no_steps); handlers = ([]); forces = false } ∷ []))
book_245 = refl

book_246 : book_from (builtins ++ ([])) (list (item (rec (field (codes "hosts") (text (codes "all")) (field (codes "tasks") (list (item (rec (field (codes "always") (list (item (rec (field (codes "always") (list (item (rec (field (codes "always") (list (item (rec (field (codes "always") (list (item (rec (field (codes "always") (list (item (rec (field (codes "always") (list (item (rec (field (codes "always") (list (item (rec (field (codes "always") (list (item (rec (field (codes "always") (list (item (rec (field (codes "always") (list (item (rec (field (codes "always") (list (item (rec (field (codes "always") (list (item (rec (field (codes "ping") null (no_fields))) (item (rec (field (codes "ping") null (no_fields))) (item (rec (field (codes "ping") null (no_fields))) (no_items))))) (field (codes "block") (list (no_items)) (no_fields)))) (no_items))) (field (codes "block") (list (no_items)) (no_fields)))) (no_items))) (field (codes "block") (list (no_items)) (no_fields)))) (no_items))) (field (codes "block") (list (no_items)) (no_fields)))) (no_items))) (field (codes "block") (list (no_items)) (no_fields)))) (no_items))) (field (codes "block") (list (no_items)) (no_fields)))) (no_items))) (field (codes "block") (list (no_items)) (no_fields)))) (no_items))) (field (codes "block") (list (no_items)) (no_fields)))) (no_items))) (field (codes "block") (list (no_items)) (no_fields)))) (no_items))) (field (codes "block") (list (no_items)) (no_fields)))) (no_items))) (field (codes "block") (list (no_items)) (no_fields)))) (no_items))) (field (codes "block") (list (no_items)) (no_fields)))) (no_items))) (no_fields)))) (no_items))) ≡ Ok ((record { line = 1; pattern = ((codes "all") ∷ []); gathering = None; vars = (no_parts); is_linear = true; serial = ([]); pre_tasks = (no_steps); tasks = (block_step (record { line = 2; condition = (no_expressions); vars = (no_parts); ignore_errors = None }) (no_steps) (no_steps) (block_step (record { line = 3; condition = (no_expressions); vars = (no_parts); ignore_errors = None }) (no_steps) (no_steps) (block_step (record { line = 4; condition = (no_expressions); vars = (no_parts); ignore_errors = None }) (no_steps) (no_steps) (block_step (record { line = 5; condition = (no_expressions); vars = (no_parts); ignore_errors = None }) (no_steps) (no_steps) (block_step (record { line = 6; condition = (no_expressions); vars = (no_parts); ignore_errors = None }) (no_steps) (no_steps) (block_step (record { line = 7; condition = (no_expressions); vars = (no_parts); ignore_errors = None }) (no_steps) (no_steps) (block_step (record { line = 8; condition = (no_expressions); vars = (no_parts); ignore_errors = None }) (no_steps) (no_steps) (block_step (record { line = 9; condition = (no_expressions); vars = (no_parts); ignore_errors = None }) (no_steps) (no_steps) (block_step (record { line = 10; condition = (no_expressions); vars = (no_parts); ignore_errors = None }) (no_steps) (no_steps) (block_step (record { line = 11; condition = (no_expressions); vars = (no_parts); ignore_errors = None }) (no_steps) (no_steps) (block_step (record { line = 12; condition = (no_expressions); vars = (no_parts); ignore_errors = None }) (no_steps) (no_steps) (block_step (record { line = 13; condition = (no_expressions); vars = (no_parts); ignore_errors = None }) (no_steps) (no_steps) (task_step (record { line = 14; work = (module_work (codes "ping") (no_parts)); condition = (no_expressions); loop = None; register = None; vars = (no_parts); notify = ([]); changed_when = None; failed_when = None; attempts = None; ignore_errors = None }) (task_step (record { line = 15; work = (module_work (codes "ping") (no_parts)); condition = (no_expressions); loop = None; register = None; vars = (no_parts); notify = ([]); changed_when = None; failed_when = None; attempts = None; ignore_errors = None }) (task_step (record { line = 16; work = (module_work (codes "ping") (no_parts)); condition = (no_expressions); loop = None; register = None; vars = (no_parts); notify = ([]); changed_when = None; failed_when = None; attempts = None; ignore_errors = None }) (no_steps)))) (no_steps)) (no_steps)) (no_steps)) (no_steps)) (no_steps)) (no_steps)) (no_steps)) (no_steps)) (no_steps)) (no_steps)) (no_steps)) (no_steps)); post_tasks = (no_steps); handlers = ([]); forces = false } ∷ []))
book_246 = refl

book_247 : book_from (builtins ++ ([])) (list (item (rec (field (codes "hosts") (text (codes "all")) (field (codes "tasks") (list (item (rec (field (codes "always") (list (item (rec (field (codes "always") (list (item (rec (field (codes "always") (list (item (rec (field (codes "always") (list (item (rec (field (codes "always") (list (item (rec (field (codes "always") (list (item (rec (field (codes "always") (list (item (rec (field (codes "always") (list (item (rec (field (codes "always") (list (item (rec (field (codes "always") (list (item (rec (field (codes "always") (list (item (rec (field (codes "always") (list (item (rec (field (codes "ping") null (no_fields))) (item (rec (field (codes "ping") null (no_fields))) (no_items)))) (field (codes "block") (list (no_items)) (no_fields)))) (no_items))) (field (codes "block") (list (no_items)) (no_fields)))) (no_items))) (field (codes "block") (list (no_items)) (no_fields)))) (no_items))) (field (codes "block") (list (no_items)) (no_fields)))) (no_items))) (field (codes "block") (list (no_items)) (no_fields)))) (no_items))) (field (codes "block") (list (no_items)) (no_fields)))) (no_items))) (field (codes "block") (list (no_items)) (no_fields)))) (no_items))) (field (codes "block") (list (no_items)) (no_fields)))) (no_items))) (field (codes "block") (list (no_items)) (no_fields)))) (no_items))) (field (codes "block") (list (no_items)) (no_fields)))) (no_items))) (field (codes "block") (list (no_items)) (no_fields)))) (no_items))) (field (codes "block") (list (no_items)) (no_fields)))) (item (rec (field (codes "debug") (rec (field (codes "msg") (text (codes "x")) (no_fields))) (no_fields))) (no_items)))) (no_fields)))) (no_items))) ≡ Ok ((record { line = 1; pattern = ((codes "all") ∷ []); gathering = None; vars = (no_parts); is_linear = true; serial = ([]); pre_tasks = (no_steps); tasks = (block_step (record { line = 2; condition = (no_expressions); vars = (no_parts); ignore_errors = None }) (no_steps) (no_steps) (block_step (record { line = 3; condition = (no_expressions); vars = (no_parts); ignore_errors = None }) (no_steps) (no_steps) (block_step (record { line = 4; condition = (no_expressions); vars = (no_parts); ignore_errors = None }) (no_steps) (no_steps) (block_step (record { line = 5; condition = (no_expressions); vars = (no_parts); ignore_errors = None }) (no_steps) (no_steps) (block_step (record { line = 6; condition = (no_expressions); vars = (no_parts); ignore_errors = None }) (no_steps) (no_steps) (block_step (record { line = 7; condition = (no_expressions); vars = (no_parts); ignore_errors = None }) (no_steps) (no_steps) (block_step (record { line = 8; condition = (no_expressions); vars = (no_parts); ignore_errors = None }) (no_steps) (no_steps) (block_step (record { line = 9; condition = (no_expressions); vars = (no_parts); ignore_errors = None }) (no_steps) (no_steps) (block_step (record { line = 10; condition = (no_expressions); vars = (no_parts); ignore_errors = None }) (no_steps) (no_steps) (block_step (record { line = 11; condition = (no_expressions); vars = (no_parts); ignore_errors = None }) (no_steps) (no_steps) (block_step (record { line = 12; condition = (no_expressions); vars = (no_parts); ignore_errors = None }) (no_steps) (no_steps) (block_step (record { line = 13; condition = (no_expressions); vars = (no_parts); ignore_errors = None }) (no_steps) (no_steps) (task_step (record { line = 14; work = (module_work (codes "ping") (no_parts)); condition = (no_expressions); loop = None; register = None; vars = (no_parts); notify = ([]); changed_when = None; failed_when = None; attempts = None; ignore_errors = None }) (task_step (record { line = 15; work = (module_work (codes "ping") (no_parts)); condition = (no_expressions); loop = None; register = None; vars = (no_parts); notify = ([]); changed_when = None; failed_when = None; attempts = None; ignore_errors = None }) (no_steps))) (no_steps)) (no_steps)) (no_steps)) (no_steps)) (no_steps)) (no_steps)) (no_steps)) (no_steps)) (no_steps)) (no_steps)) (no_steps)) (task_step (record { line = 16; work = (debug_work (part (codes "msg") (literal (text (codes "x"))) (no_parts))); condition = (no_expressions); loop = None; register = None; vars = (no_parts); notify = ([]); changed_when = None; failed_when = None; attempts = None; ignore_errors = None }) (no_steps))); post_tasks = (no_steps); handlers = ([]); forces = false } ∷ []))
book_247 = refl

book_248 : book_from (builtins ++ ([])) (list (item (rec (field (codes "hosts") (text (codes "all")) (field (codes "tasks") (list (item (rec (field (codes "always") (list (item (rec (field (codes "always") (list (item (rec (field (codes "always") (list (item (rec (field (codes "always") (list (item (rec (field (codes "always") (list (item (rec (field (codes "always") (list (item (rec (field (codes "always") (list (item (rec (field (codes "always") (list (item (rec (field (codes "always") (list (item (rec (field (codes "always") (list (item (rec (field (codes "always") (list (item (rec (field (codes "always") (list (item (rec (field (codes "ping") null (no_fields))) (item (rec (field (codes "ping") null (no_fields))) (no_items)))) (field (codes "block") (list (no_items)) (no_fields)))) (no_items))) (field (codes "block") (list (no_items)) (no_fields)))) (no_items))) (field (codes "block") (list (no_items)) (no_fields)))) (no_items))) (field (codes "block") (list (no_items)) (no_fields)))) (no_items))) (field (codes "block") (list (no_items)) (no_fields)))) (no_items))) (field (codes "block") (list (no_items)) (no_fields)))) (no_items))) (field (codes "block") (list (no_items)) (no_fields)))) (no_items))) (field (codes "block") (list (no_items)) (no_fields)))) (no_items))) (field (codes "block") (list (no_items)) (no_fields)))) (no_items))) (field (codes "block") (list (no_items)) (no_fields)))) (no_items))) (field (codes "block") (list (no_items)) (no_fields)))) (no_items))) (field (codes "block") (list (no_items)) (no_fields)))) (no_items))) (no_fields)))) (item (rec (field (codes "hosts") (text (codes "all")) (field (codes "tasks") (list (item (rec (field (codes "ping") null (no_fields))) (no_items))) (no_fields)))) (no_items)))) ≡ Ok ((record { line = 1; pattern = ((codes "all") ∷ []); gathering = None; vars = (no_parts); is_linear = true; serial = ([]); pre_tasks = (no_steps); tasks = (block_step (record { line = 2; condition = (no_expressions); vars = (no_parts); ignore_errors = None }) (no_steps) (no_steps) (block_step (record { line = 3; condition = (no_expressions); vars = (no_parts); ignore_errors = None }) (no_steps) (no_steps) (block_step (record { line = 4; condition = (no_expressions); vars = (no_parts); ignore_errors = None }) (no_steps) (no_steps) (block_step (record { line = 5; condition = (no_expressions); vars = (no_parts); ignore_errors = None }) (no_steps) (no_steps) (block_step (record { line = 6; condition = (no_expressions); vars = (no_parts); ignore_errors = None }) (no_steps) (no_steps) (block_step (record { line = 7; condition = (no_expressions); vars = (no_parts); ignore_errors = None }) (no_steps) (no_steps) (block_step (record { line = 8; condition = (no_expressions); vars = (no_parts); ignore_errors = None }) (no_steps) (no_steps) (block_step (record { line = 9; condition = (no_expressions); vars = (no_parts); ignore_errors = None }) (no_steps) (no_steps) (block_step (record { line = 10; condition = (no_expressions); vars = (no_parts); ignore_errors = None }) (no_steps) (no_steps) (block_step (record { line = 11; condition = (no_expressions); vars = (no_parts); ignore_errors = None }) (no_steps) (no_steps) (block_step (record { line = 12; condition = (no_expressions); vars = (no_parts); ignore_errors = None }) (no_steps) (no_steps) (block_step (record { line = 13; condition = (no_expressions); vars = (no_parts); ignore_errors = None }) (no_steps) (no_steps) (task_step (record { line = 14; work = (module_work (codes "ping") (no_parts)); condition = (no_expressions); loop = None; register = None; vars = (no_parts); notify = ([]); changed_when = None; failed_when = None; attempts = None; ignore_errors = None }) (task_step (record { line = 15; work = (module_work (codes "ping") (no_parts)); condition = (no_expressions); loop = None; register = None; vars = (no_parts); notify = ([]); changed_when = None; failed_when = None; attempts = None; ignore_errors = None }) (no_steps))) (no_steps)) (no_steps)) (no_steps)) (no_steps)) (no_steps)) (no_steps)) (no_steps)) (no_steps)) (no_steps)) (no_steps)) (no_steps)) (no_steps)); post_tasks = (no_steps); handlers = ([]); forces = false } ∷ record { line = 16; pattern = ((codes "all") ∷ []); gathering = None; vars = (no_parts); is_linear = true; serial = ([]); pre_tasks = (no_steps); tasks = (task_step (record { line = 17; work = (module_work (codes "ping") (no_parts)); condition = (no_expressions); loop = None; register = None; vars = (no_parts); notify = ([]); changed_when = None; failed_when = None; attempts = None; ignore_errors = None }) (no_steps)); post_tasks = (no_steps); handlers = ([]); forces = false } ∷ []))
book_248 = refl

book_249 : book_from (builtins ++ ([])) (list (item (rec (field (codes "hosts") (text (codes "all")) (field (codes "tasks") (list (item (rec (field (codes "always") (list (item (rec (field (codes "always") (list (item (rec (field (codes "always") (list (item (rec (field (codes "always") (list (item (rec (field (codes "always") (list (item (rec (field (codes "always") (list (item (rec (field (codes "always") (list (item (rec (field (codes "always") (list (item (rec (field (codes "always") (list (item (rec (field (codes "always") (list (item (rec (field (codes "always") (list (item (rec (field (codes "always") (list (item (rec (field (codes "ping") null (no_fields))) (item (rec (field (codes "ping") null (no_fields))) (no_items)))) (field (codes "block") (list (no_items)) (no_fields)))) (no_items))) (field (codes "block") (list (no_items)) (no_fields)))) (no_items))) (field (codes "block") (list (no_items)) (no_fields)))) (no_items))) (field (codes "block") (list (no_items)) (no_fields)))) (no_items))) (field (codes "block") (list (no_items)) (no_fields)))) (no_items))) (field (codes "block") (list (no_items)) (no_fields)))) (no_items))) (field (codes "block") (list (no_items)) (no_fields)))) (no_items))) (field (codes "block") (list (no_items)) (no_fields)))) (no_items))) (field (codes "block") (list (no_items)) (no_fields)))) (no_items))) (field (codes "block") (list (no_items)) (no_fields)))) (no_items))) (field (codes "block") (list (no_items)) (no_fields)))) (no_items))) (field (codes "block") (list (no_items)) (no_fields)))) (no_items))) (no_fields)))) (no_items))) ≡ Ok ((record { line = 1; pattern = ((codes "all") ∷ []); gathering = None; vars = (no_parts); is_linear = true; serial = ([]); pre_tasks = (no_steps); tasks = (block_step (record { line = 2; condition = (no_expressions); vars = (no_parts); ignore_errors = None }) (no_steps) (no_steps) (block_step (record { line = 3; condition = (no_expressions); vars = (no_parts); ignore_errors = None }) (no_steps) (no_steps) (block_step (record { line = 4; condition = (no_expressions); vars = (no_parts); ignore_errors = None }) (no_steps) (no_steps) (block_step (record { line = 5; condition = (no_expressions); vars = (no_parts); ignore_errors = None }) (no_steps) (no_steps) (block_step (record { line = 6; condition = (no_expressions); vars = (no_parts); ignore_errors = None }) (no_steps) (no_steps) (block_step (record { line = 7; condition = (no_expressions); vars = (no_parts); ignore_errors = None }) (no_steps) (no_steps) (block_step (record { line = 8; condition = (no_expressions); vars = (no_parts); ignore_errors = None }) (no_steps) (no_steps) (block_step (record { line = 9; condition = (no_expressions); vars = (no_parts); ignore_errors = None }) (no_steps) (no_steps) (block_step (record { line = 10; condition = (no_expressions); vars = (no_parts); ignore_errors = None }) (no_steps) (no_steps) (block_step (record { line = 11; condition = (no_expressions); vars = (no_parts); ignore_errors = None }) (no_steps) (no_steps) (block_step (record { line = 12; condition = (no_expressions); vars = (no_parts); ignore_errors = None }) (no_steps) (no_steps) (block_step (record { line = 13; condition = (no_expressions); vars = (no_parts); ignore_errors = None }) (no_steps) (no_steps) (task_step (record { line = 14; work = (module_work (codes "ping") (no_parts)); condition = (no_expressions); loop = None; register = None; vars = (no_parts); notify = ([]); changed_when = None; failed_when = None; attempts = None; ignore_errors = None }) (task_step (record { line = 15; work = (module_work (codes "ping") (no_parts)); condition = (no_expressions); loop = None; register = None; vars = (no_parts); notify = ([]); changed_when = None; failed_when = None; attempts = None; ignore_errors = None }) (no_steps))) (no_steps)) (no_steps)) (no_steps)) (no_steps)) (no_steps)) (no_steps)) (no_steps)) (no_steps)) (no_steps)) (no_steps)) (no_steps)) (no_steps)); post_tasks = (no_steps); handlers = ([]); forces = false } ∷ []))
book_249 = refl

book_250 : book_from (builtins ++ ([])) (list (item (rec (field (codes "hosts") (text (codes "all")) (field (codes "tasks") (list (item (rec (field (codes "always") (list (item (rec (field (codes "always") (list (item (rec (field (codes "fail") (rec (field (codes "msg") (text (codes "two")) (no_fields))) (no_fields))) (no_items))) (field (codes "block") (list (item (rec (field (codes "fail") (rec (field (codes "msg") (text (codes "one")) (no_fields))) (no_fields))) (no_items))) (no_fields)))) (no_items))) (field (codes "block") (list (no_items)) (no_fields)))) (no_items))) (no_fields)))) (no_items))) ≡ Ok ((record { line = 1; pattern = ((codes "all") ∷ []); gathering = None; vars = (no_parts); is_linear = true; serial = ([]); pre_tasks = (no_steps); tasks = (block_step (record { line = 2; condition = (no_expressions); vars = (no_parts); ignore_errors = None }) (no_steps) (no_steps) (block_step (record { line = 3; condition = (no_expressions); vars = (no_parts); ignore_errors = None }) (task_step (record { line = 4; work = (fail_work (part (codes "msg") (literal (text (codes "one"))) (no_parts))); condition = (no_expressions); loop = None; register = None; vars = (no_parts); notify = ([]); changed_when = None; failed_when = None; attempts = None; ignore_errors = None }) (no_steps)) (no_steps) (task_step (record { line = 5; work = (fail_work (part (codes "msg") (literal (text (codes "two"))) (no_parts))); condition = (no_expressions); loop = None; register = None; vars = (no_parts); notify = ([]); changed_when = None; failed_when = None; attempts = None; ignore_errors = None }) (no_steps)) (no_steps)) (no_steps)); post_tasks = (no_steps); handlers = ([]); forces = false } ∷ []))
book_250 = refl

book_251 : book_from (builtins ++ ([])) (list (item (rec (field (codes "hosts") (text (codes "all")) (field (codes "tasks") (list (item (rec (field (codes "always") (list (item (rec (field (codes "debug") (rec (field (codes "msg") (text (123 ∷ 123 ∷ 32 ∷ 111 ∷ 117 ∷ 116 ∷ 46 ∷ 109 ∷ 115 ∷ 103 ∷ 32 ∷ 125 ∷ 125 ∷ [])) (no_fields))) (field (codes "when") (text (codes "out is failed")) (no_fields)))) (no_items))) (field (codes "block") (list (item (rec (field (codes "command") (text (codes "x")) (field (codes "register") (text (codes "out")) (no_fields)))) (no_items))) (no_fields)))) (no_items))) (no_fields)))) (no_items))) ≡ Ok ((record { line = 1; pattern = ((codes "all") ∷ []); gathering = None; vars = (no_parts); is_linear = true; serial = ([]); pre_tasks = (no_steps); tasks = (block_step (record { line = 2; condition = (no_expressions); vars = (no_parts); ignore_errors = None }) (task_step (record { line = 3; work = (module_work (codes "command") (part (codes "cmd") (literal (text (codes "x"))) (no_parts))); condition = (no_expressions); loop = None; register = (Some (codes "out")); vars = (no_parts); notify = ([]); changed_when = None; failed_when = None; attempts = None; ignore_errors = None }) (no_steps)) (no_steps) (task_step (record { line = 4; work = (debug_work (part (codes "msg") (path (variable (codes "out")) ((codes "msg") ∷ [])) (no_parts))); condition = (expression (path_status is_failed (variable (codes "out")) ([])) (no_expressions)); loop = None; register = None; vars = (no_parts); notify = ([]); changed_when = None; failed_when = None; attempts = None; ignore_errors = None }) (no_steps)) (no_steps)); post_tasks = (no_steps); handlers = ([]); forces = false } ∷ []))
book_251 = refl

book_252 : book_from (builtins ++ ([])) (list (item (rec (field (codes "hosts") (text (codes "all")) (field (codes "tasks") (list (item (rec (field (codes "always") (list (item (rec (field (codes "debug") (rec (field (codes "msg") (text (123 ∷ 123 ∷ 32 ∷ 111 ∷ 117 ∷ 116 ∷ 46 ∷ 114 ∷ 99 ∷ 32 ∷ 125 ∷ 125 ∷ [])) (no_fields))) (no_fields))) (item (rec (field (codes "ping") null (no_fields))) (no_items)))) (field (codes "block") (list (item (rec (field (codes "command") (text (codes "x")) (field (codes "register") (text (codes "out")) (no_fields)))) (no_items))) (no_fields)))) (no_items))) (no_fields)))) (no_items))) ≡ Ok ((record { line = 1; pattern = ((codes "all") ∷ []); gathering = None; vars = (no_parts); is_linear = true; serial = ([]); pre_tasks = (no_steps); tasks = (block_step (record { line = 2; condition = (no_expressions); vars = (no_parts); ignore_errors = None }) (task_step (record { line = 3; work = (module_work (codes "command") (part (codes "cmd") (literal (text (codes "x"))) (no_parts))); condition = (no_expressions); loop = None; register = (Some (codes "out")); vars = (no_parts); notify = ([]); changed_when = None; failed_when = None; attempts = None; ignore_errors = None }) (no_steps)) (no_steps) (task_step (record { line = 4; work = (debug_work (part (codes "msg") (path (variable (codes "out")) ((codes "rc") ∷ [])) (no_parts))); condition = (no_expressions); loop = None; register = None; vars = (no_parts); notify = ([]); changed_when = None; failed_when = None; attempts = None; ignore_errors = None }) (task_step (record { line = 5; work = (module_work (codes "ping") (no_parts)); condition = (no_expressions); loop = None; register = None; vars = (no_parts); notify = ([]); changed_when = None; failed_when = None; attempts = None; ignore_errors = None }) (no_steps))) (no_steps)); post_tasks = (no_steps); handlers = ([]); forces = false } ∷ []))
book_252 = refl

book_253 : book_from (builtins ++ ([])) (list (item (rec (field (codes "hosts") (text (codes "all")) (field (codes "tasks") (list (item (rec (field (codes "always") (list (no_items)) (field (codes "block") (list (item (rec (field (codes "command") (text (codes "x")) (no_fields))) (no_items))) (field (codes "rescue") (list (item (rec (field (codes "ping") null (no_fields))) (no_items))) (no_fields))))) (item (rec (field (codes "debug") (rec (field (codes "msg") (text (123 ∷ 123 ∷ 32 ∷ 122 ∷ 122 ∷ 32 ∷ 125 ∷ 125 ∷ [])) (no_fields))) (no_fields))) (no_items)))) (no_fields)))) (no_items))) ≡ Ok ((record { line = 1; pattern = ((codes "all") ∷ []); gathering = None; vars = (no_parts); is_linear = true; serial = ([]); pre_tasks = (no_steps); tasks = (block_step (record { line = 2; condition = (no_expressions); vars = (no_parts); ignore_errors = None }) (task_step (record { line = 3; work = (module_work (codes "command") (part (codes "cmd") (literal (text (codes "x"))) (no_parts))); condition = (no_expressions); loop = None; register = None; vars = (no_parts); notify = ([]); changed_when = None; failed_when = None; attempts = None; ignore_errors = None }) (no_steps)) (task_step (record { line = 4; work = (module_work (codes "ping") (no_parts)); condition = (no_expressions); loop = None; register = None; vars = (no_parts); notify = ([]); changed_when = None; failed_when = None; attempts = None; ignore_errors = None }) (no_steps)) (no_steps) (task_step (record { line = 5; work = (debug_work (part (codes "msg") (path (variable (codes "zz")) ([])) (no_parts))); condition = (no_expressions); loop = None; register = None; vars = (no_parts); notify = ([]); changed_when = None; failed_when = None; attempts = None; ignore_errors = None }) (no_steps))); post_tasks = (no_steps); handlers = ([]); forces = false } ∷ []))
book_253 = refl

book_254 : book_from (builtins ++ ([])) (list (item (rec (field (codes "hosts") (text (codes "all")) (field (codes "tasks") (list (item (rec (field (codes "always") (list (no_items)) (field (codes "block") (list (no_items)) (field (codes "rescue") (list (no_items)) (no_fields))))) (item (rec (field (codes "meta") (text (codes "flush_handlers")) (no_fields))) (item (rec (field (codes "fail") (rec (field (codes "msg") (text (codes "m")) (no_fields))) (field (codes "when") (text (110 ∷ 111 ∷ 116 ∷ 32 ∷ 40 ∷ 40 ∷ 104 ∷ 111 ∷ 115 ∷ 116 ∷ 118 ∷ 97 ∷ 114 ∷ 115 ∷ 91 ∷ 105 ∷ 110 ∷ 118 ∷ 101 ∷ 110 ∷ 116 ∷ 111 ∷ 114 ∷ 121 ∷ 95 ∷ 104 ∷ 111 ∷ 115 ∷ 116 ∷ 110 ∷ 97 ∷ 109 ∷ 101 ∷ 93 ∷ 46 ∷ 105 ∷ 110 ∷ 118 ∷ 32 ∷ 105 ∷ 115 ∷ 32 ∷ 115 ∷ 107 ∷ 105 ∷ 112 ∷ 112 ∷ 101 ∷ 100 ∷ 41 ∷ 32 ∷ 111 ∷ 114 ∷ 32 ∷ 40 ∷ 114 ∷ 46 ∷ 114 ∷ 99 ∷ 32 ∷ 61 ∷ 61 ∷ 32 ∷ 49 ∷ 41 ∷ 41 ∷ [])) (no_fields)))) (no_items))))) (field (codes "vars") (rec (field (codes "v1") (text (123 ∷ 123 ∷ 32 ∷ 105 ∷ 110 ∷ 118 ∷ 101 ∷ 110 ∷ 116 ∷ 111 ∷ 114 ∷ 121 ∷ 95 ∷ 104 ∷ 111 ∷ 115 ∷ 116 ∷ 110 ∷ 97 ∷ 109 ∷ 101 ∷ 32 ∷ 105 ∷ 110 ∷ 32 ∷ 97 ∷ 110 ∷ 115 ∷ 105 ∷ 98 ∷ 108 ∷ 101 ∷ 95 ∷ 112 ∷ 108 ∷ 97 ∷ 121 ∷ 95 ∷ 98 ∷ 97 ∷ 116 ∷ 99 ∷ 104 ∷ 32 ∷ 125 ∷ 125 ∷ [])) (no_fields))) (no_fields))))) (no_items))) ≡ Ok ((record { line = 1; pattern = ((codes "all") ∷ []); gathering = None; vars = (part (codes "v1") (in_batch this_host) (no_parts)); is_linear = true; serial = ([]); pre_tasks = (no_steps); tasks = (block_step (record { line = 2; condition = (no_expressions); vars = (no_parts); ignore_errors = None }) (no_steps) (no_steps) (no_steps) (flush_step 3 (task_step (record { line = 4; work = (fail_work (part (codes "msg") (literal (text (codes "m"))) (no_parts))); condition = (expression (negation (disjunction (expression (path_status is_skipped (other this_host (codes "inv")) ([])) (expression (comparison equal (path (variable (codes "r")) ((codes "rc") ∷ [])) (literal (int (pos 1)))) (no_expressions))))) (no_expressions)); loop = None; register = None; vars = (no_parts); notify = ([]); changed_when = None; failed_when = None; attempts = None; ignore_errors = None }) (no_steps)))); post_tasks = (no_steps); handlers = ([]); forces = false } ∷ []))
book_254 = refl

book_255 : book_from (builtins ++ ([])) (list (item (rec (field (codes "hosts") (text (codes "all")) (field (codes "tasks") (list (item (rec (field (codes "always") null (field (codes "ping") null (no_fields)))) (no_items))) (no_fields)))) (no_items))) ≡ Err (record { line = 2; code = 3 })
book_255 = refl

book_256 : book_from (builtins ++ ([])) (list (item (rec (field (codes "hosts") (text (codes "all")) (field (codes "tasks") (list (item (rec (field (codes "ansible.builtin.ansible.builtin.ping") null (no_fields))) (no_items))) (no_fields)))) (no_items))) ≡ Err (record { line = 2; code = 6 })
book_256 = refl

book_257 : book_from (builtins ++ ([])) (list (item (rec (field (codes "hosts") (text (codes "all")) (field (codes "tasks") (list (item (rec (field (codes "ansible.builtin.debug") (rec (field (codes "msg") (text (codes "x")) (no_fields))) (no_fields))) (no_items))) (no_fields)))) (no_items))) ≡ Ok ((record { line = 1; pattern = ((codes "all") ∷ []); gathering = None; vars = (no_parts); is_linear = true; serial = ([]); pre_tasks = (no_steps); tasks = (task_step (record { line = 2; work = (debug_work (part (codes "msg") (literal (text (codes "x"))) (no_parts))); condition = (no_expressions); loop = None; register = None; vars = (no_parts); notify = ([]); changed_when = None; failed_when = None; attempts = None; ignore_errors = None }) (no_steps)); post_tasks = (no_steps); handlers = ([]); forces = false } ∷ []))
book_257 = refl

book_258 : book_from (builtins ++ ([])) (list (item (rec (field (codes "hosts") (text (codes "all")) (field (codes "tasks") (list (item (rec (field (codes "ansible.builtin.ping") null (field (codes "ping") null (no_fields)))) (no_items))) (no_fields)))) (no_items))) ≡ Err (record { line = 2; code = 5 })
book_258 = refl

book_259 : book_from (builtins ++ ([])) (list (item (rec (field (codes "hosts") (text (codes "all")) (field (codes "tasks") (list (item (rec (field (codes "ansible.builtin.when") (text (codes "x")) (field (codes "ping") null (no_fields)))) (no_items))) (no_fields)))) (no_items))) ≡ Err (record { line = 2; code = 5 })
book_259 = refl

book_260 : book_from (builtins ++ ([])) (list (item (rec (field (codes "hosts") (text (codes "all")) (field (codes "tasks") (list (item (rec (field (codes "any_errors_fatal") null (field (codes "ping") null (no_fields)))) (no_items))) (no_fields)))) (no_items))) ≡ Err (record { line = 2; code = 3 })
book_260 = refl

book_261 : book_from (builtins ++ ([])) (list (item (rec (field (codes "hosts") (text (codes "all")) (field (codes "tasks") (list (item (rec (field (codes "assert") (rec (field (codes "fail_msg") (int (pos 1)) (field (codes "that") (boolean true) (no_fields)))) (no_fields))) (no_items))) (no_fields)))) (no_items))) ≡ Ok ((record { line = 1; pattern = ((codes "all") ∷ []); gathering = None; vars = (no_parts); is_linear = true; serial = ([]); pre_tasks = (no_steps); tasks = (task_step (record { line = 2; work = (assert_work (conditions_are (expression (literal (boolean true)) (no_expressions))) (part (codes "fail_msg") (literal (int (pos 1))) (no_parts))); condition = (no_expressions); loop = None; register = None; vars = (no_parts); notify = ([]); changed_when = None; failed_when = None; attempts = None; ignore_errors = None }) (no_steps)); post_tasks = (no_steps); handlers = ([]); forces = false } ∷ []))
book_261 = refl

book_262 : book_from (builtins ++ ([])) (list (item (rec (field (codes "hosts") (text (codes "all")) (field (codes "tasks") (list (item (rec (field (codes "assert") (rec (field (codes "success_msg") (text (codes "x")) (field (codes "that") (boolean true) (no_fields)))) (no_fields))) (no_items))) (no_fields)))) (no_items))) ≡ Ok ((record { line = 1; pattern = ((codes "all") ∷ []); gathering = None; vars = (no_parts); is_linear = true; serial = ([]); pre_tasks = (no_steps); tasks = (task_step (record { line = 2; work = (assert_work (conditions_are (expression (literal (boolean true)) (no_expressions))) (part (codes "success_msg") (literal (text (codes "x"))) (no_parts))); condition = (no_expressions); loop = None; register = None; vars = (no_parts); notify = ([]); changed_when = None; failed_when = None; attempts = None; ignore_errors = None }) (no_steps)); post_tasks = (no_steps); handlers = ([]); forces = false } ∷ []))
book_262 = refl

book_263 : book_from (builtins ++ ([])) (list (item (rec (field (codes "hosts") (text (codes "all")) (field (codes "tasks") (list (item (rec (field (codes "assert") (rec (field (codes "that") (boolean false) (no_fields))) (no_fields))) (no_items))) (no_fields)))) (no_items))) ≡ Ok ((record { line = 1; pattern = ((codes "all") ∷ []); gathering = None; vars = (no_parts); is_linear = true; serial = ([]); pre_tasks = (no_steps); tasks = (task_step (record { line = 2; work = (assert_work (conditions_are (expression (literal (boolean false)) (no_expressions))) (no_parts)); condition = (no_expressions); loop = None; register = None; vars = (no_parts); notify = ([]); changed_when = None; failed_when = None; attempts = None; ignore_errors = None }) (no_steps)); post_tasks = (no_steps); handlers = ([]); forces = false } ∷ []))
book_263 = refl

book_264 : book_from (builtins ++ ([])) (list (item (rec (field (codes "hosts") (text (codes "all")) (field (codes "tasks") (list (item (rec (field (codes "assert") (rec (field (codes "that") (list (item (text (codes "true")) (item (int (pos 1)) (no_items)))) (no_fields))) (no_fields))) (no_items))) (no_fields)))) (no_items))) ≡ Ok ((record { line = 1; pattern = ((codes "all") ∷ []); gathering = None; vars = (no_parts); is_linear = true; serial = ([]); pre_tasks = (no_steps); tasks = (task_step (record { line = 2; work = (assert_work not_well_formed (no_parts)); condition = (no_expressions); loop = None; register = None; vars = (no_parts); notify = ([]); changed_when = None; failed_when = None; attempts = None; ignore_errors = None }) (no_steps)); post_tasks = (no_steps); handlers = ([]); forces = false } ∷ []))
book_264 = refl

book_265 : book_from (builtins ++ ([])) (list (item (rec (field (codes "hosts") (text (codes "all")) (field (codes "tasks") (list (item (rec (field (codes "assert") (rec (field (codes "that") (text (codes "p == 1")) (no_fields))) (field (codes "ignore_errors") (boolean true) (no_fields)))) (no_items))) (no_fields)))) (no_items))) ≡ Ok ((record { line = 1; pattern = ((codes "all") ∷ []); gathering = None; vars = (no_parts); is_linear = true; serial = ([]); pre_tasks = (no_steps); tasks = (task_step (record { line = 2; work = (assert_work (conditions_are (expression (comparison equal (path (variable (codes "p")) ([])) (literal (int (pos 1)))) (no_expressions))) (no_parts)); condition = (no_expressions); loop = None; register = None; vars = (no_parts); notify = ([]); changed_when = None; failed_when = None; attempts = None; ignore_errors = (Some true) }) (no_steps)); post_tasks = (no_steps); handlers = ([]); forces = false } ∷ []))
book_265 = refl

book_266 : book_from (builtins ++ ([])) (list (item (rec (field (codes "hosts") (text (codes "all")) (field (codes "tasks") (list (item (rec (field (codes "assert") (rec (field (codes "that") (text (codes "p == 2")) (no_fields))) (field (codes "ignore_errors") (boolean true) (no_fields)))) (no_items))) (no_fields)))) (no_items))) ≡ Ok ((record { line = 1; pattern = ((codes "all") ∷ []); gathering = None; vars = (no_parts); is_linear = true; serial = ([]); pre_tasks = (no_steps); tasks = (task_step (record { line = 2; work = (assert_work (conditions_are (expression (comparison equal (path (variable (codes "p")) ([])) (literal (int (pos 2)))) (no_expressions))) (no_parts)); condition = (no_expressions); loop = None; register = None; vars = (no_parts); notify = ([]); changed_when = None; failed_when = None; attempts = None; ignore_errors = (Some true) }) (no_steps)); post_tasks = (no_steps); handlers = ([]); forces = false } ∷ []))
book_266 = refl

book_267 : book_from (builtins ++ ([])) (list (item (rec (field (codes "hosts") (text (codes "all")) (field (codes "tasks") (list (item (rec (field (codes "assert") (rec (field (codes "that") (text (codes "true")) (no_fields))) (field (codes "register") (text (codes "o")) (no_fields)))) (item (rec (field (codes "debug") (rec (field (codes "msg") (text (123 ∷ 123 ∷ 32 ∷ 111 ∷ 46 ∷ 109 ∷ 115 ∷ 103 ∷ 32 ∷ 125 ∷ 125 ∷ [])) (no_fields))) (no_fields))) (no_items)))) (no_fields)))) (no_items))) ≡ Ok ((record { line = 1; pattern = ((codes "all") ∷ []); gathering = None; vars = (no_parts); is_linear = true; serial = ([]); pre_tasks = (no_steps); tasks = (task_step (record { line = 2; work = (assert_work (conditions_are (expression (literal (boolean true)) (no_expressions))) (no_parts)); condition = (no_expressions); loop = None; register = (Some (codes "o")); vars = (no_parts); notify = ([]); changed_when = None; failed_when = None; attempts = None; ignore_errors = None }) (task_step (record { line = 3; work = (debug_work (part (codes "msg") (path (variable (codes "o")) ((codes "msg") ∷ [])) (no_parts))); condition = (no_expressions); loop = None; register = None; vars = (no_parts); notify = ([]); changed_when = None; failed_when = None; attempts = None; ignore_errors = None }) (no_steps))); post_tasks = (no_steps); handlers = ([]); forces = false } ∷ []))
book_267 = refl

book_268 : book_from (builtins ++ ([])) (list (item (rec (field (codes "hosts") (text (codes "all")) (field (codes "tasks") (list (item (rec (field (codes "assert") (rec (field (codes "that") null (no_fields))) (no_fields))) (no_items))) (no_fields)))) (no_items))) ≡ Ok ((record { line = 1; pattern = ((codes "all") ∷ []); gathering = None; vars = (no_parts); is_linear = true; serial = ([]); pre_tasks = (no_steps); tasks = (task_step (record { line = 2; work = (assert_work not_well_formed (no_parts)); condition = (no_expressions); loop = None; register = None; vars = (no_parts); notify = ([]); changed_when = None; failed_when = None; attempts = None; ignore_errors = None }) (no_steps)); post_tasks = (no_steps); handlers = ([]); forces = false } ∷ []))
book_268 = refl

book_269 : book_from (builtins ++ ([])) (list (item (rec (field (codes "hosts") (text (codes "all")) (field (codes "tasks") (list (item (rec (field (codes "block") (list (item (int (pos 5)) (no_items))) (field (codes "when") (text (codes "a b")) (no_fields)))) (no_items))) (no_fields)))) (no_items))) ≡ Err (record { line = 2; code = 7 })
book_269 = refl

book_270 : book_from (builtins ++ ([])) (list (item (rec (field (codes "hosts") (text (codes "all")) (field (codes "tasks") (list (item (rec (field (codes "block") (list (item (rec (field (codes "block") (list (item (rec (field (codes "block") (list (item (rec (field (codes "block") (list (item (rec (field (codes "block") (list (item (rec (field (codes "block") (list (item (rec (field (codes "block") (list (item (rec (field (codes "block") (list (item (rec (field (codes "block") (list (item (rec (field (codes "block") (list (item (rec (field (codes "block") (list (item (rec (field (codes "block") (list (item (rec (field (codes "block") (list (item (rec (field (codes "block") (list (item (rec (field (codes "block") (list (item (rec (field (codes "block") (list (item (rec (field (codes "block") (list (item (rec (field (codes "ping") null (no_fields))) (no_items))) (no_fields))) (no_items))) (no_fields))) (no_items))) (no_fields))) (no_items))) (no_fields))) (no_items))) (no_fields))) (no_items))) (no_fields))) (no_items))) (no_fields))) (no_items))) (no_fields))) (no_items))) (no_fields))) (no_items))) (no_fields))) (no_items))) (no_fields))) (no_items))) (no_fields))) (no_items))) (no_fields))) (no_items))) (no_fields))) (no_items))) (no_fields))) (no_items))) (no_fields))) (no_items))) (no_fields))) (no_items))) (no_fields)))) (no_items))) ≡ Err (record { line = 18; code = 8 })
book_270 = refl

book_271 : book_from (builtins ++ ([])) (list (item (rec (field (codes "hosts") (text (codes "all")) (field (codes "tasks") (list (item (rec (field (codes "block") (list (item (rec (field (codes "block") (list (item (rec (field (codes "block") (list (item (rec (field (codes "block") (list (item (rec (field (codes "block") (list (item (rec (field (codes "block") (list (item (rec (field (codes "block") (list (item (rec (field (codes "block") (list (item (rec (field (codes "block") (list (item (rec (field (codes "block") (list (item (rec (field (codes "block") (list (item (rec (field (codes "block") (list (item (rec (field (codes "block") (list (item (rec (field (codes "block") (list (item (rec (field (codes "block") (list (item (rec (field (codes "block") (list (item (rec (field (codes "ping") null (no_fields))) (no_items))) (no_fields))) (no_items))) (no_fields))) (no_items))) (no_fields))) (no_items))) (no_fields))) (no_items))) (no_fields))) (no_items))) (no_fields))) (no_items))) (no_fields))) (no_items))) (no_fields))) (no_items))) (no_fields))) (no_items))) (no_fields))) (no_items))) (no_fields))) (no_items))) (no_fields))) (no_items))) (no_fields))) (no_items))) (no_fields))) (no_items))) (no_fields))) (no_items))) (no_fields))) (no_items))) (no_fields)))) (no_items))) ≡ Ok ((record { line = 1; pattern = ((codes "all") ∷ []); gathering = None; vars = (no_parts); is_linear = true; serial = ([]); pre_tasks = (no_steps); tasks = (block_step (record { line = 2; condition = (no_expressions); vars = (no_parts); ignore_errors = None }) (block_step (record { line = 3; condition = (no_expressions); vars = (no_parts); ignore_errors = None }) (block_step (record { line = 4; condition = (no_expressions); vars = (no_parts); ignore_errors = None }) (block_step (record { line = 5; condition = (no_expressions); vars = (no_parts); ignore_errors = None }) (block_step (record { line = 6; condition = (no_expressions); vars = (no_parts); ignore_errors = None }) (block_step (record { line = 7; condition = (no_expressions); vars = (no_parts); ignore_errors = None }) (block_step (record { line = 8; condition = (no_expressions); vars = (no_parts); ignore_errors = None }) (block_step (record { line = 9; condition = (no_expressions); vars = (no_parts); ignore_errors = None }) (block_step (record { line = 10; condition = (no_expressions); vars = (no_parts); ignore_errors = None }) (block_step (record { line = 11; condition = (no_expressions); vars = (no_parts); ignore_errors = None }) (block_step (record { line = 12; condition = (no_expressions); vars = (no_parts); ignore_errors = None }) (block_step (record { line = 13; condition = (no_expressions); vars = (no_parts); ignore_errors = None }) (block_step (record { line = 14; condition = (no_expressions); vars = (no_parts); ignore_errors = None }) (block_step (record { line = 15; condition = (no_expressions); vars = (no_parts); ignore_errors = None }) (block_step (record { line = 16; condition = (no_expressions); vars = (no_parts); ignore_errors = None }) (block_step (record { line = 17; condition = (no_expressions); vars = (no_parts); ignore_errors = None }) (task_step (record { line = 18; work = (module_work (codes "ping") (no_parts)); condition = (no_expressions); loop = None; register = None; vars = (no_parts); notify = ([]); changed_when = None; failed_when = None; attempts = None; ignore_errors = None }) (no_steps)) (no_steps) (no_steps) (no_steps)) (no_steps) (no_steps) (no_steps)) (no_steps) (no_steps) (no_steps)) (no_steps) (no_steps) (no_steps)) (no_steps) (no_steps) (no_steps)) (no_steps) (no_steps) (no_steps)) (no_steps) (no_steps) (no_steps)) (no_steps) (no_steps) (no_steps)) (no_steps) (no_steps) (no_steps)) (no_steps) (no_steps) (no_steps)) (no_steps) (no_steps) (no_steps)) (no_steps) (no_steps) (no_steps)) (no_steps) (no_steps) (no_steps)) (no_steps) (no_steps) (no_steps)) (no_steps) (no_steps) (no_steps)) (no_steps) (no_steps) (no_steps)); post_tasks = (no_steps); handlers = ([]); forces = false } ∷ []))
book_271 = refl

book_272 : book_from (builtins ++ ([])) (list (item (rec (field (codes "hosts") (text (codes "all")) (field (codes "tasks") (list (item (rec (field (codes "block") (list (item (rec (field (codes "command") (text (codes "x")) (field (codes "register") (text (codes "out")) (no_fields)))) (no_items))) (field (codes "rescue") (list (item (rec (field (codes "debug") (rec (field (codes "msg") (int (pos 1)) (no_fields))) (no_fields))) (no_items))) (no_fields)))) (no_items))) (no_fields)))) (item (rec (field (codes "hosts") (text (codes "all")) (field (codes "tasks") (list (item (rec (field (codes "debug") (rec (field (codes "msg") (text (123 ∷ 123 ∷ 32 ∷ 111 ∷ 117 ∷ 116 ∷ 46 ∷ 109 ∷ 115 ∷ 103 ∷ 32 ∷ 125 ∷ 125 ∷ [])) (no_fields))) (no_fields))) (no_items))) (no_fields)))) (no_items)))) ≡ Ok ((record { line = 1; pattern = ((codes "all") ∷ []); gathering = None; vars = (no_parts); is_linear = true; serial = ([]); pre_tasks = (no_steps); tasks = (block_step (record { line = 2; condition = (no_expressions); vars = (no_parts); ignore_errors = None }) (task_step (record { line = 3; work = (module_work (codes "command") (part (codes "cmd") (literal (text (codes "x"))) (no_parts))); condition = (no_expressions); loop = None; register = (Some (codes "out")); vars = (no_parts); notify = ([]); changed_when = None; failed_when = None; attempts = None; ignore_errors = None }) (no_steps)) (task_step (record { line = 4; work = (debug_work (part (codes "msg") (literal (int (pos 1))) (no_parts))); condition = (no_expressions); loop = None; register = None; vars = (no_parts); notify = ([]); changed_when = None; failed_when = None; attempts = None; ignore_errors = None }) (no_steps)) (no_steps) (no_steps)); post_tasks = (no_steps); handlers = ([]); forces = false } ∷ record { line = 5; pattern = ((codes "all") ∷ []); gathering = None; vars = (no_parts); is_linear = true; serial = ([]); pre_tasks = (no_steps); tasks = (task_step (record { line = 6; work = (debug_work (part (codes "msg") (path (variable (codes "out")) ((codes "msg") ∷ [])) (no_parts))); condition = (no_expressions); loop = None; register = None; vars = (no_parts); notify = ([]); changed_when = None; failed_when = None; attempts = None; ignore_errors = None }) (no_steps)); post_tasks = (no_steps); handlers = ([]); forces = false } ∷ []))
book_272 = refl

book_273 : book_from (builtins ++ ([])) (list (item (rec (field (codes "hosts") (text (codes "all")) (field (codes "tasks") (list (item (rec (field (codes "block") (list (item (rec (field (codes "command") (text (codes "x")) (field (codes "register") (text (codes "out")) (no_fields)))) (no_items))) (field (codes "when") (text (codes "true")) (no_fields)))) (item (rec (field (codes "debug") (rec (field (codes "msg") (text (123 ∷ 123 ∷ 32 ∷ 111 ∷ 117 ∷ 116 ∷ 46 ∷ 114 ∷ 99 ∷ 32 ∷ 125 ∷ 125 ∷ [])) (no_fields))) (no_fields))) (no_items)))) (no_fields)))) (no_items))) ≡ Ok ((record { line = 1; pattern = ((codes "all") ∷ []); gathering = None; vars = (no_parts); is_linear = true; serial = ([]); pre_tasks = (no_steps); tasks = (block_step (record { line = 2; condition = (expression (literal (boolean true)) (no_expressions)); vars = (no_parts); ignore_errors = None }) (task_step (record { line = 3; work = (module_work (codes "command") (part (codes "cmd") (literal (text (codes "x"))) (no_parts))); condition = (no_expressions); loop = None; register = (Some (codes "out")); vars = (no_parts); notify = ([]); changed_when = None; failed_when = None; attempts = None; ignore_errors = None }) (no_steps)) (no_steps) (no_steps) (task_step (record { line = 4; work = (debug_work (part (codes "msg") (path (variable (codes "out")) ((codes "rc") ∷ [])) (no_parts))); condition = (no_expressions); loop = None; register = None; vars = (no_parts); notify = ([]); changed_when = None; failed_when = None; attempts = None; ignore_errors = None }) (no_steps))); post_tasks = (no_steps); handlers = ([]); forces = false } ∷ []))
book_273 = refl

book_274 : book_from (builtins ++ ([])) (list (item (rec (field (codes "hosts") (text (codes "all")) (field (codes "tasks") (list (item (rec (field (codes "block") (list (item (rec (field (codes "command") (text (codes "x")) (no_fields))) (item (rec (field (codes "set_fact") (rec (field (codes "a") (int (pos 1)) (no_fields))) (no_fields))) (no_items)))) (field (codes "rescue") (list (item (rec (field (codes "ping") null (no_fields))) (item (rec (field (codes "set_fact") (rec (field (codes "a") (text (codes "x")) (no_fields))) (no_fields))) (no_items)))) (no_fields)))) (item (rec (field (codes "debug") (rec (field (codes "msg") (text (123 ∷ 123 ∷ 32 ∷ 97 ∷ 32 ∷ 125 ∷ 125 ∷ [])) (no_fields))) (no_fields))) (no_items)))) (no_fields)))) (no_items))) ≡ Ok ((record { line = 1; pattern = ((codes "all") ∷ []); gathering = None; vars = (no_parts); is_linear = true; serial = ([]); pre_tasks = (no_steps); tasks = (block_step (record { line = 2; condition = (no_expressions); vars = (no_parts); ignore_errors = None }) (task_step (record { line = 3; work = (module_work (codes "command") (part (codes "cmd") (literal (text (codes "x"))) (no_parts))); condition = (no_expressions); loop = None; register = None; vars = (no_parts); notify = ([]); changed_when = None; failed_when = None; attempts = None; ignore_errors = None }) (task_step (record { line = 4; work = (set_fact_work (part (codes "a") (literal (int (pos 1))) (no_parts))); condition = (no_expressions); loop = None; register = None; vars = (no_parts); notify = ([]); changed_when = None; failed_when = None; attempts = None; ignore_errors = None }) (no_steps))) (task_step (record { line = 5; work = (module_work (codes "ping") (no_parts)); condition = (no_expressions); loop = None; register = None; vars = (no_parts); notify = ([]); changed_when = None; failed_when = None; attempts = None; ignore_errors = None }) (task_step (record { line = 6; work = (set_fact_work (part (codes "a") (literal (text (codes "x"))) (no_parts))); condition = (no_expressions); loop = None; register = None; vars = (no_parts); notify = ([]); changed_when = None; failed_when = None; attempts = None; ignore_errors = None }) (no_steps))) (no_steps) (task_step (record { line = 7; work = (debug_work (part (codes "msg") (path (variable (codes "a")) ([])) (no_parts))); condition = (no_expressions); loop = None; register = None; vars = (no_parts); notify = ([]); changed_when = None; failed_when = None; attempts = None; ignore_errors = None }) (no_steps))); post_tasks = (no_steps); handlers = ([]); forces = false } ∷ []))
book_274 = refl

book_275 : book_from (builtins ++ ([])) (list (item (rec (field (codes "hosts") (text (codes "all")) (field (codes "tasks") (list (item (rec (field (codes "block") (list (item (rec (field (codes "command") (text (codes "x")) (no_fields))) (item (rec (field (codes "set_fact") (rec (field (codes "a") (int (pos 1)) (no_fields))) (no_fields))) (no_items)))) (field (codes "rescue") (list (item (rec (field (codes "ping") null (no_fields))) (no_items))) (no_fields)))) (item (rec (field (codes "debug") (rec (field (codes "msg") (text (123 ∷ 123 ∷ 32 ∷ 97 ∷ 32 ∷ 125 ∷ 125 ∷ [])) (no_fields))) (no_fields))) (no_items)))) (no_fields)))) (no_items))) ≡ Ok ((record { line = 1; pattern = ((codes "all") ∷ []); gathering = None; vars = (no_parts); is_linear = true; serial = ([]); pre_tasks = (no_steps); tasks = (block_step (record { line = 2; condition = (no_expressions); vars = (no_parts); ignore_errors = None }) (task_step (record { line = 3; work = (module_work (codes "command") (part (codes "cmd") (literal (text (codes "x"))) (no_parts))); condition = (no_expressions); loop = None; register = None; vars = (no_parts); notify = ([]); changed_when = None; failed_when = None; attempts = None; ignore_errors = None }) (task_step (record { line = 4; work = (set_fact_work (part (codes "a") (literal (int (pos 1))) (no_parts))); condition = (no_expressions); loop = None; register = None; vars = (no_parts); notify = ([]); changed_when = None; failed_when = None; attempts = None; ignore_errors = None }) (no_steps))) (task_step (record { line = 5; work = (module_work (codes "ping") (no_parts)); condition = (no_expressions); loop = None; register = None; vars = (no_parts); notify = ([]); changed_when = None; failed_when = None; attempts = None; ignore_errors = None }) (no_steps)) (no_steps) (task_step (record { line = 6; work = (debug_work (part (codes "msg") (path (variable (codes "a")) ([])) (no_parts))); condition = (no_expressions); loop = None; register = None; vars = (no_parts); notify = ([]); changed_when = None; failed_when = None; attempts = None; ignore_errors = None }) (no_steps))); post_tasks = (no_steps); handlers = ([]); forces = false } ∷ []))
book_275 = refl

book_276 : book_from (builtins ++ ([])) (list (item (rec (field (codes "hosts") (text (codes "all")) (field (codes "tasks") (list (item (rec (field (codes "block") (list (item (rec (field (codes "command") (text (codes "x")) (no_fields))) (item (rec (field (codes "set_fact") (rec (field (codes "a") (int (pos 1)) (no_fields))) (no_fields))) (no_items)))) (no_fields))) (item (rec (field (codes "debug") (rec (field (codes "msg") (text (123 ∷ 123 ∷ 32 ∷ 97 ∷ 32 ∷ 125 ∷ 125 ∷ [])) (no_fields))) (no_fields))) (no_items)))) (no_fields)))) (no_items))) ≡ Ok ((record { line = 1; pattern = ((codes "all") ∷ []); gathering = None; vars = (no_parts); is_linear = true; serial = ([]); pre_tasks = (no_steps); tasks = (block_step (record { line = 2; condition = (no_expressions); vars = (no_parts); ignore_errors = None }) (task_step (record { line = 3; work = (module_work (codes "command") (part (codes "cmd") (literal (text (codes "x"))) (no_parts))); condition = (no_expressions); loop = None; register = None; vars = (no_parts); notify = ([]); changed_when = None; failed_when = None; attempts = None; ignore_errors = None }) (task_step (record { line = 4; work = (set_fact_work (part (codes "a") (literal (int (pos 1))) (no_parts))); condition = (no_expressions); loop = None; register = None; vars = (no_parts); notify = ([]); changed_when = None; failed_when = None; attempts = None; ignore_errors = None }) (no_steps))) (no_steps) (no_steps) (task_step (record { line = 5; work = (debug_work (part (codes "msg") (path (variable (codes "a")) ([])) (no_parts))); condition = (no_expressions); loop = None; register = None; vars = (no_parts); notify = ([]); changed_when = None; failed_when = None; attempts = None; ignore_errors = None }) (no_steps))); post_tasks = (no_steps); handlers = ([]); forces = false } ∷ []))
book_276 = refl

book_277 : book_from (builtins ++ ([])) (list (item (rec (field (codes "hosts") (text (codes "all")) (field (codes "tasks") (list (item (rec (field (codes "block") (list (item (rec (field (codes "command") (text (codes "x")) (no_fields))) (no_items))) (field (codes "rescue") (list (item (rec (field (codes "always") (list (item (rec (field (codes "debug") (rec (field (codes "msg") (text (123 ∷ 123 ∷ 32 ∷ 97 ∷ 110 ∷ 115 ∷ 105 ∷ 98 ∷ 108 ∷ 101 ∷ 95 ∷ 102 ∷ 97 ∷ 105 ∷ 108 ∷ 101 ∷ 100 ∷ 95 ∷ 114 ∷ 101 ∷ 115 ∷ 117 ∷ 108 ∷ 116 ∷ 46 ∷ 109 ∷ 115 ∷ 103 ∷ 32 ∷ 125 ∷ 125 ∷ [])) (no_fields))) (no_fields))) (no_items))) (field (codes "block") (list (item (rec (field (codes "ping") null (no_fields))) (no_items))) (no_fields)))) (no_items))) (no_fields)))) (no_items))) (no_fields)))) (no_items))) ≡ Ok ((record { line = 1; pattern = ((codes "all") ∷ []); gathering = None; vars = (no_parts); is_linear = true; serial = ([]); pre_tasks = (no_steps); tasks = (block_step (record { line = 2; condition = (no_expressions); vars = (no_parts); ignore_errors = None }) (task_step (record { line = 3; work = (module_work (codes "command") (part (codes "cmd") (literal (text (codes "x"))) (no_parts))); condition = (no_expressions); loop = None; register = None; vars = (no_parts); notify = ([]); changed_when = None; failed_when = None; attempts = None; ignore_errors = None }) (no_steps)) (block_step (record { line = 4; condition = (no_expressions); vars = (no_parts); ignore_errors = None }) (task_step (record { line = 5; work = (module_work (codes "ping") (no_parts)); condition = (no_expressions); loop = None; register = None; vars = (no_parts); notify = ([]); changed_when = None; failed_when = None; attempts = None; ignore_errors = None }) (no_steps)) (no_steps) (task_step (record { line = 6; work = (debug_work (part (codes "msg") (path (variable (codes "ansible_failed_result")) ((codes "msg") ∷ [])) (no_parts))); condition = (no_expressions); loop = None; register = None; vars = (no_parts); notify = ([]); changed_when = None; failed_when = None; attempts = None; ignore_errors = None }) (no_steps)) (no_steps)) (no_steps) (no_steps)); post_tasks = (no_steps); handlers = ([]); forces = false } ∷ []))
book_277 = refl

book_278 : book_from (builtins ++ ([])) (list (item (rec (field (codes "hosts") (text (codes "all")) (field (codes "tasks") (list (item (rec (field (codes "block") (list (item (rec (field (codes "command") (text (codes "x")) (no_fields))) (no_items))) (field (codes "rescue") (list (item (rec (field (codes "block") (list (no_items)) (no_fields))) (no_items))) (no_fields)))) (no_items))) (no_fields)))) (no_items))) ≡ Ok ((record { line = 1; pattern = ((codes "all") ∷ []); gathering = None; vars = (no_parts); is_linear = true; serial = ([]); pre_tasks = (no_steps); tasks = (block_step (record { line = 2; condition = (no_expressions); vars = (no_parts); ignore_errors = None }) (task_step (record { line = 3; work = (module_work (codes "command") (part (codes "cmd") (literal (text (codes "x"))) (no_parts))); condition = (no_expressions); loop = None; register = None; vars = (no_parts); notify = ([]); changed_when = None; failed_when = None; attempts = None; ignore_errors = None }) (no_steps)) (block_step (record { line = 4; condition = (no_expressions); vars = (no_parts); ignore_errors = None }) (no_steps) (no_steps) (no_steps) (no_steps)) (no_steps) (no_steps)); post_tasks = (no_steps); handlers = ([]); forces = false } ∷ []))
book_278 = refl

book_279 : book_from (builtins ++ ([])) (list (item (rec (field (codes "hosts") (text (codes "all")) (field (codes "tasks") (list (item (rec (field (codes "block") (list (item (rec (field (codes "command") (text (codes "x")) (no_fields))) (no_items))) (field (codes "rescue") (list (item (rec (field (codes "ping") null (no_fields))) (no_items))) (no_fields)))) (item (rec (field (codes "debug") (rec (field (codes "msg") (text (123 ∷ 123 ∷ 32 ∷ 97 ∷ 110 ∷ 115 ∷ 105 ∷ 98 ∷ 108 ∷ 101 ∷ 95 ∷ 102 ∷ 97 ∷ 105 ∷ 108 ∷ 101 ∷ 100 ∷ 95 ∷ 114 ∷ 101 ∷ 115 ∷ 117 ∷ 108 ∷ 116 ∷ 46 ∷ 109 ∷ 115 ∷ 103 ∷ 32 ∷ 125 ∷ 125 ∷ [])) (no_fields))) (no_fields))) (no_items)))) (no_fields)))) (no_items))) ≡ Ok ((record { line = 1; pattern = ((codes "all") ∷ []); gathering = None; vars = (no_parts); is_linear = true; serial = ([]); pre_tasks = (no_steps); tasks = (block_step (record { line = 2; condition = (no_expressions); vars = (no_parts); ignore_errors = None }) (task_step (record { line = 3; work = (module_work (codes "command") (part (codes "cmd") (literal (text (codes "x"))) (no_parts))); condition = (no_expressions); loop = None; register = None; vars = (no_parts); notify = ([]); changed_when = None; failed_when = None; attempts = None; ignore_errors = None }) (no_steps)) (task_step (record { line = 4; work = (module_work (codes "ping") (no_parts)); condition = (no_expressions); loop = None; register = None; vars = (no_parts); notify = ([]); changed_when = None; failed_when = None; attempts = None; ignore_errors = None }) (no_steps)) (no_steps) (task_step (record { line = 5; work = (debug_work (part (codes "msg") (path (variable (codes "ansible_failed_result")) ((codes "msg") ∷ [])) (no_parts))); condition = (no_expressions); loop = None; register = None; vars = (no_parts); notify = ([]); changed_when = None; failed_when = None; attempts = None; ignore_errors = None }) (no_steps))); post_tasks = (no_steps); handlers = ([]); forces = false } ∷ []))
book_279 = refl
