-- The books of cases as they are read, computed.
use Rattle.std.specs.Prelude.{◌≡◌, refl, pos, [], ◌∷◌, ◌++◌, true, false, Some, None, Ok, Err, codes}
use Rattle.pb_semantics.specs.Data.{null, boolean, int, text, list, rec, no_items, item, no_fields, field}
use Rattle.pb_language.specs.Expression.{equal, literal, path, negation, conjunction, comparison, list_of, record_of, variable, no_expressions, expression, no_parts, part}
use Rattle.pb_language.specs.Book.{module_work, debug_work, set_fact_work, fail_work, no_steps, task_step, flush_step}
use Rattle.pb_language.specs.BookForm.{book_from}
use Rattle.pb_language.specs.Builtins.{builtins}

book_640 : book_from (builtins ++ ([])) (list (item (rec (field (codes "hosts") (text (codes "all")) (field (codes "tasks") (list (item (rec (field (codes "fail") null (no_fields))) (no_items))) (no_fields)))) (item (rec (field (codes "hosts") (text (codes "all")) (field (codes "tasks") (list (item (rec (field (codes "debug") (rec (field (codes "msg") (text (123 ∷ 123 ∷ 32 ∷ 122 ∷ 122 ∷ 32 ∷ 125 ∷ 125 ∷ [])) (no_fields))) (no_fields))) (no_items))) (no_fields)))) (no_items)))) ≡ Ok ((record { line = 1; pattern = ((codes "all") ∷ []); gathering = None; vars = (no_parts); is_linear = true; serial = ([]); pre_tasks = (no_steps); tasks = (task_step (record { line = 2; work = (fail_work (no_parts)); condition = (no_expressions); loop = None; register = None; vars = (no_parts); notify = ([]); changed_when = None; failed_when = None; attempts = None; ignore_errors = None }) (no_steps)); post_tasks = (no_steps); handlers = ([]); forces = false } ∷ record { line = 3; pattern = ((codes "all") ∷ []); gathering = None; vars = (no_parts); is_linear = true; serial = ([]); pre_tasks = (no_steps); tasks = (task_step (record { line = 4; work = (debug_work (part (codes "msg") (path (variable (codes "zz")) ([])) (no_parts))); condition = (no_expressions); loop = None; register = None; vars = (no_parts); notify = ([]); changed_when = None; failed_when = None; attempts = None; ignore_errors = None }) (no_steps)); post_tasks = (no_steps); handlers = ([]); forces = false } ∷ []))
book_640 = refl

book_641 : book_from (builtins ++ ([])) (list (item (rec (field (codes "hosts") (text (codes "all")) (field (codes "tasks") (list (item (rec (field (codes "failed_when") (boolean false) (field (codes "setup") null (no_fields)))) (item (rec (field (codes "debug") (rec (field (codes "msg") (text (123 ∷ 123 ∷ 32 ∷ 97 ∷ 110 ∷ 115 ∷ 105 ∷ 98 ∷ 108 ∷ 101 ∷ 95 ∷ 104 ∷ 111 ∷ 115 ∷ 116 ∷ 110 ∷ 97 ∷ 109 ∷ 101 ∷ 32 ∷ 125 ∷ 125 ∷ [])) (no_fields))) (no_fields))) (no_items)))) (no_fields)))) (no_items))) ≡ Ok ((record { line = 1; pattern = ((codes "all") ∷ []); gathering = None; vars = (no_parts); is_linear = true; serial = ([]); pre_tasks = (no_steps); tasks = (task_step (record { line = 2; work = (module_work (codes "setup") (no_parts)); condition = (no_expressions); loop = None; register = None; vars = (no_parts); notify = ([]); changed_when = None; failed_when = (Some (expression (literal (boolean false)) (no_expressions))); attempts = None; ignore_errors = None }) (task_step (record { line = 3; work = (debug_work (part (codes "msg") (path (variable (codes "ansible_hostname")) ([])) (no_parts))); condition = (no_expressions); loop = None; register = None; vars = (no_parts); notify = ([]); changed_when = None; failed_when = None; attempts = None; ignore_errors = None }) (no_steps))); post_tasks = (no_steps); handlers = ([]); forces = false } ∷ []))
book_641 = refl

book_642 : book_from (builtins ++ ([])) (list (item (rec (field (codes "hosts") (text (codes "all")) (field (codes "tasks") (list (item (rec (field (codes "failed_when") (boolean true) (field (codes "ping") null (no_fields)))) (no_items))) (no_fields)))) (no_items))) ≡ Ok ((record { line = 1; pattern = ((codes "all") ∷ []); gathering = None; vars = (no_parts); is_linear = true; serial = ([]); pre_tasks = (no_steps); tasks = (task_step (record { line = 2; work = (module_work (codes "ping") (no_parts)); condition = (no_expressions); loop = None; register = None; vars = (no_parts); notify = ([]); changed_when = None; failed_when = (Some (expression (literal (boolean true)) (no_expressions))); attempts = None; ignore_errors = None }) (no_steps)); post_tasks = (no_steps); handlers = ([]); forces = false } ∷ []))
book_642 = refl

book_643 : book_from (builtins ++ ([])) (list (item (rec (field (codes "hosts") (text (codes "all")) (field (codes "tasks") (list (item (rec (field (codes "ignore_errors") (text (codes "yes")) (field (codes "ping") null (no_fields)))) (no_items))) (no_fields)))) (no_items))) ≡ Err (record { line = 2; code = 4 })
book_643 = refl

book_644 : book_from (builtins ++ ([])) (list (item (rec (field (codes "hosts") (text (codes "all")) (field (codes "tasks") (list (item (rec (field (codes "import_role") (rec (field (codes "name") (text (codes "x")) (no_fields))) (no_fields))) (no_items))) (no_fields)))) (no_items))) ≡ Err (record { line = 2; code = 6 })
book_644 = refl

book_645 : book_from (builtins ++ ([])) (list (item (rec (field (codes "hosts") (text (codes "all")) (field (codes "tasks") (list (item (rec (field (codes "include_tasks") (text (codes "x.yml")) (no_fields))) (no_items))) (no_fields)))) (no_items))) ≡ Err (record { line = 2; code = 6 })
book_645 = refl

book_646 : book_from (builtins ++ ([])) (list (item (rec (field (codes "hosts") (text (codes "all")) (field (codes "tasks") (list (item (rec (field (codes "listen") null (field (codes "ping") null (no_fields)))) (no_items))) (no_fields)))) (no_items))) ≡ Err (record { line = 2; code = 3 })
book_646 = refl

book_647 : book_from (builtins ++ ([])) (list (item (rec (field (codes "hosts") (text (codes "all")) (field (codes "tasks") (list (item (rec (field (codes "loop") (list (item (int (pos 1)) (item (int (pos 1)) (item (int (pos 1)) (item (int (pos 1)) (item (int (pos 1)) (item (int (pos 1)) (item (int (pos 1)) (item (int (pos 1)) (item (int (pos 1)) (item (int (pos 1)) (item (int (pos 1)) (item (int (pos 1)) (item (int (pos 1)) (item (int (pos 1)) (item (int (pos 1)) (item (int (pos 1)) (item (int (pos 1)) (item (int (pos 1)) (item (int (pos 1)) (item (int (pos 1)) (item (int (pos 1)) (item (int (pos 1)) (item (int (pos 1)) (item (int (pos 1)) (item (int (pos 1)) (item (int (pos 1)) (item (int (pos 1)) (item (int (pos 1)) (item (int (pos 1)) (item (int (pos 1)) (item (int (pos 1)) (item (int (pos 1)) (item (int (pos 1)) (item (int (pos 1)) (item (int (pos 1)) (item (int (pos 1)) (item (int (pos 1)) (item (int (pos 1)) (item (int (pos 1)) (item (int (pos 1)) (item (int (pos 1)) (item (int (pos 1)) (item (int (pos 1)) (item (int (pos 1)) (item (int (pos 1)) (item (int (pos 1)) (item (int (pos 1)) (item (int (pos 1)) (item (int (pos 1)) (item (int (pos 1)) (item (int (pos 1)) (item (int (pos 1)) (item (int (pos 1)) (item (int (pos 1)) (item (int (pos 1)) (item (int (pos 1)) (item (int (pos 1)) (item (int (pos 1)) (item (int (pos 1)) (item (int (pos 1)) (item (int (pos 1)) (item (int (pos 1)) (item (int (pos 1)) (item (int (pos 1)) (item (int (pos 1)) (item (int (pos 1)) (item (int (pos 1)) (item (int (pos 1)) (item (int (pos 1)) (item (int (pos 1)) (item (int (pos 1)) (item (int (pos 1)) (item (int (pos 1)) (item (int (pos 1)) (item (int (pos 1)) (item (int (pos 1)) (item (int (pos 1)) (item (int (pos 1)) (item (int (pos 1)) (item (int (pos 1)) (item (int (pos 1)) (item (int (pos 1)) (item (int (pos 1)) (item (int (pos 1)) (item (int (pos 1)) (item (int (pos 1)) (item (int (pos 1)) (item (int (pos 1)) (item (int (pos 1)) (item (int (pos 1)) (item (int (pos 1)) (item (int (pos 1)) (item (int (pos 1)) (item (int (pos 1)) (item (int (pos 1)) (item (int (pos 1)) (item (int (pos 1)) (item (int (pos 1)) (item (int (pos 1)) (item (int (pos 1)) (item (int (pos 1)) (item (int (pos 1)) (item (int (pos 1)) (item (int (pos 1)) (item (int (pos 1)) (item (int (pos 1)) (item (int (pos 1)) (item (int (pos 1)) (item (int (pos 1)) (item (int (pos 1)) (item (int (pos 1)) (item (int (pos 1)) (item (int (pos 1)) (item (int (pos 1)) (item (int (pos 1)) (item (int (pos 1)) (item (int (pos 1)) (item (int (pos 1)) (item (int (pos 1)) (item (int (pos 1)) (item (int (pos 1)) (item (int (pos 1)) (item (int (pos 1)) (item (int (pos 1)) (item (int (pos 1)) (item (int (pos 1)) (item (int (pos 1)) (item (int (pos 1)) (item (int (pos 1)) (item (int (pos 1)) (item (int (pos 1)) (item (int (pos 1)) (item (int (pos 1)) (item (int (pos 1)) (item (int (pos 1)) (item (int (pos 1)) (item (int (pos 1)) (item (int (pos 1)) (item (int (pos 1)) (item (int (pos 1)) (item (int (pos 1)) (item (int (pos 1)) (item (int (pos 1)) (item (int (pos 1)) (item (int (pos 1)) (item (int (pos 1)) (item (int (pos 1)) (item (int (pos 1)) (item (int (pos 1)) (item (int (pos 1)) (item (int (pos 1)) (item (int (pos 1)) (item (int (pos 1)) (item (int (pos 1)) (item (int (pos 1)) (item (int (pos 1)) (item (int (pos 1)) (item (int (pos 1)) (item (int (pos 1)) (item (int (pos 1)) (item (int (pos 1)) (item (int (pos 1)) (item (int (pos 1)) (item (int (pos 1)) (item (int (pos 1)) (item (int (pos 1)) (item (int (pos 1)) (item (int (pos 1)) (item (int (pos 1)) (item (int (pos 1)) (item (int (pos 1)) (item (int (pos 1)) (item (int (pos 1)) (item (int (pos 1)) (item (int (pos 1)) (item (int (pos 1)) (item (int (pos 1)) (item (int (pos 1)) (item (int (pos 1)) (item (int (pos 1)) (item (int (pos 1)) (item (int (pos 1)) (item (int (pos 1)) (item (int (pos 1)) (item (int (pos 1)) (item (int (pos 1)) (item (int (pos 1)) (item (int (pos 1)) (item (int (pos 1)) (item (int (pos 1)) (item (int (pos 1)) (item (int (pos 1)) (item (int (pos 1)) (item (int (pos 1)) (item (int (pos 1)) (item (int (pos 1)) (item (int (pos 1)) (item (int (pos 1)) (item (int (pos 1)) (item (int (pos 1)) (item (int (pos 1)) (item (int (pos 1)) (item (int (pos 1)) (item (int (pos 1)) (item (int (pos 1)) (item (int (pos 1)) (item (int (pos 1)) (item (int (pos 1)) (item (int (pos 1)) (item (int (pos 1)) (item (int (pos 1)) (item (int (pos 1)) (item (int (pos 1)) (item (int (pos 1)) (item (int (pos 1)) (item (int (pos 1)) (item (int (pos 1)) (item (int (pos 1)) (item (int (pos 1)) (item (int (pos 1)) (item (int (pos 1)) (item (int (pos 1)) (item (int (pos 1)) (item (int (pos 1)) (item (int (pos 1)) (item (int (pos 1)) (item (int (pos 1)) (item (int (pos 1)) (item (int (pos 1)) (item (int (pos 1)) (item (int (pos 1)) (item (int (pos 1)) (item (int (pos 1)) (item (int (pos 1)) (item (int (pos 1)) (item (int (pos 1)) (item (int (pos 1)) (item (int (pos 1)) (item (int (pos 1)) (item (int (pos 1)) (item (int (pos 1)) (item (int (pos 1)) (item (int (pos 1)) (item (int (pos 1)) (item (int (pos 1)) (item (int (pos 1)) (item (int (pos 1)) (item (int (pos 1)) (item (int (pos 1)) (item (int (pos 1)) (item (int (pos 1)) (item (int (pos 1)) (item (int (pos 1)) (item (int (pos 1)) (item (int (pos 1)) (item (int (pos 1)) (item (int (pos 1)) (item (int (pos 1)) (item (int (pos 1)) (item (int (pos 1)) (item (int (pos 1)) (item (int (pos 1)) (item (int (pos 1)) (item (int (pos 1)) (item (int (pos 1)) (item (int (pos 1)) (item (int (pos 1)) (item (int (pos 1)) (item (int (pos 1)) (item (int (pos 1)) (item (int (pos 1)) (item (int (pos 1)) (item (int (pos 1)) (item (int (pos 1)) (item (int (pos 1)) (item (int (pos 1)) (item (int (pos 1)) (item (int (pos 1)) (item (int (pos 1)) (item (int (pos 1)) (item (int (pos 1)) (item (int (pos 1)) (item (int (pos 1)) (item (int (pos 1)) (item (int (pos 1)) (item (int (pos 1)) (item (int (pos 1)) (item (int (pos 1)) (item (int (pos 1)) (item (int (pos 1)) (item (int (pos 1)) (item (int (pos 1)) (item (int (pos 1)) (item (int (pos 1)) (item (int (pos 1)) (item (int (pos 1)) (item (int (pos 1)) (item (int (pos 1)) (item (int (pos 1)) (item (int (pos 1)) (item (int (pos 1)) (item (int (pos 1)) (item (int (pos 1)) (item (int (pos 1)) (item (int (pos 1)) (item (int (pos 1)) (item (int (pos 1)) (item (int (pos 1)) (item (int (pos 1)) (item (int (pos 1)) (item (int (pos 1)) (item (int (pos 1)) (item (int (pos 1)) (item (int (pos 1)) (item (int (pos 1)) (item (int (pos 1)) (item (int (pos 1)) (item (int (pos 1)) (item (int (pos 1)) (item (int (pos 1)) (item (int (pos 1)) (item (int (pos 1)) (item (int (pos 1)) (item (int (pos 1)) (item (int (pos 1)) (item (int (pos 1)) (item (int (pos 1)) (item (int (pos 1)) (item (int (pos 1)) (item (int (pos 1)) (item (int (pos 1)) (item (int (pos 1)) (item (int (pos 1)) (item (int (pos 1)) (item (int (pos 1)) (item (int (pos 1)) (item (int (pos 1)) (item (int (pos 1)) (item (int (pos 1)) (item (int (pos 1)) (item (int (pos 1)) (item (int (pos 1)) (item (int (pos 1)) (item (int (pos 1)) (item (int (pos 1)) (item (int (pos 1)) (item (int (pos 1)) (item (int (pos 1)) (item (int (pos 1)) (item (int (pos 1)) (item (int (pos 1)) (item (int (pos 1)) (item (int (pos 1)) (item (int (pos 1)) (item (int (pos 1)) (item (int (pos 1)) (item (int (pos 1)) (item (int (pos 1)) (item (int (pos 1)) (item (int (pos 1)) (item (int (pos 1)) (item (int (pos 1)) (item (int (pos 1)) (item (int (pos 1)) (item (int (pos 1)) (item (int (pos 1)) (item (int (pos 1)) (item (int (pos 1)) (item (int (pos 1)) (item (int (pos 1)) (item (int (pos 1)) (item (int (pos 1)) (item (int (pos 1)) (item (int (pos 1)) (item (int (pos 1)) (item (int (pos 1)) (item (int (pos 1)) (item (int (pos 1)) (item (int (pos 1)) (item (int (pos 1)) (item (int (pos 1)) (item (int (pos 1)) (item (int (pos 1)) (item (int (pos 1)) (item (int (pos 1)) (item (int (pos 1)) (item (int (pos 1)) (item (int (pos 1)) (item (int (pos 1)) (item (int (pos 1)) (item (int (pos 1)) (item (int (pos 1)) (item (int (pos 1)) (item (int (pos 1)) (item (int (pos 1)) (item (int (pos 1)) (item (int (pos 1)) (item (int (pos 1)) (item (int (pos 1)) (item (int (pos 1)) (item (int (pos 1)) (item (int (pos 1)) (item (int (pos 1)) (item (int (pos 1)) (item (int (pos 1)) (item (int (pos 1)) (item (int (pos 1)) (item (int (pos 1)) (item (int (pos 1)) (item (int (pos 1)) (item (int (pos 1)) (item (int (pos 1)) (item (int (pos 1)) (item (int (pos 1)) (item (int (pos 1)) (item (int (pos 1)) (item (int (pos 1)) (item (int (pos 1)) (item (int (pos 1)) (item (int (pos 1)) (item (int (pos 1)) (item (int (pos 1)) (item (int (pos 1)) (item (int (pos 1)) (item (int (pos 1)) (item (int (pos 1)) (item (int (pos 1)) (item (int (pos 1)) (item (int (pos 1)) (item (int (pos 1)) (item (int (pos 1)) (item (int (pos 1)) (item (int (pos 1)) (item (int (pos 1)) (item (int (pos 1)) (item (int (pos 1)) (item (int (pos 1)) (item (int (pos 1)) (item (int (pos 1)) (item (int (pos 1)) (item (int (pos 1)) (item (int (pos 1)) (item (int (pos 1)) (item (int (pos 1)) (item (int (pos 1)) (item (int (pos 1)) (item (int (pos 1)) (item (int (pos 1)) (item (int (pos 1)) (item (int (pos 1)) (item (int (pos 1)) (item (int (pos 1)) (item (int (pos 1)) (item (int (pos 1)) (item (int (pos 1)) (item (int (pos 1)) (item (int (pos 1)) (item (int (pos 1)) (item (int (pos 1)) (item (int (pos 1)) (item (int (pos 1)) (item (int (pos 1)) (item (int (pos 1)) (item (int (pos 1)) (item (int (pos 1)) (item (int (pos 1)) (item (int (pos 1)) (item (int (pos 1)) (item (int (pos 1)) (item (int (pos 1)) (item (int (pos 1)) (item (int (pos 1)) (item (int (pos 1)) (item (int (pos 1)) (item (int (pos 1)) (item (int (pos 1)) (item (int (pos 1)) (item (int (pos 1)) (item (int (pos 1)) (item (int (pos 1)) (item (int (pos 1)) (item (int (pos 1)) (item (int (pos 1)) (item (int (pos 1)) (item (int (pos 1)) (item (int (pos 1)) (item (int (pos 1)) (item (int (pos 1)) (item (int (pos 1)) (item (int (pos 1)) (item (int (pos 1)) (item (int (pos 1)) (item (int (pos 1)) (item (int (pos 1)) (item (int (pos 1)) (item (int (pos 1)) (item (int (pos 1)) (item (int (pos 1)) (item (int (pos 1)) (item (int (pos 1)) (item (int (pos 1)) (item (int (pos 1)) (item (int (pos 1)) (item (int (pos 1)) (item (int (pos 1)) (item (int (pos 1)) (item (int (pos 1)) (item (int (pos 1)) (item (int (pos 1)) (item (int (pos 1)) (item (int (pos 1)) (item (int (pos 1)) (item (int (pos 1)) (item (int (pos 1)) (item (int (pos 1)) (item (int (pos 1)) (item (int (pos 1)) (item (int (pos 1)) (item (int (pos 1)) (item (int (pos 1)) (item (int (pos 1)) (item (int (pos 1)) (item (int (pos 1)) (item (int (pos 1)) (item (int (pos 1)) (item (int (pos 1)) (item (int (pos 1)) (item (int (pos 1)) (item (int (pos 1)) (item (int (pos 1)) (item (int (pos 1)) (item (int (pos 1)) (item (int (pos 1)) (item (int (pos 1)) (item (int (pos 1)) (item (int (pos 1)) (item (int (pos 1)) (item (int (pos 1)) (item (int (pos 1)) (item (int (pos 1)) (item (int (pos 1)) (item (int (pos 1)) (item (int (pos 1)) (item (int (pos 1)) (item (int (pos 1)) (item (int (pos 1)) (item (int (pos 1)) (item (int (pos 1)) (item (int (pos 1)) (item (int (pos 1)) (item (int (pos 1)) (item (int (pos 1)) (item (int (pos 1)) (item (int (pos 1)) (item (int (pos 1)) (item (int (pos 1)) (item (int (pos 1)) (item (int (pos 1)) (item (int (pos 1)) (item (int (pos 1)) (item (int (pos 1)) (item (int (pos 1)) (item (int (pos 1)) (item (int (pos 1)) (item (int (pos 1)) (item (int (pos 1)) (item (int (pos 1)) (item (int (pos 1)) (item (int (pos 1)) (item (int (pos 1)) (item (int (pos 1)) (item (int (pos 1)) (item (int (pos 1)) (item (int (pos 1)) (item (int (pos 1)) (item (int (pos 1)) (item (int (pos 1)) (item (int (pos 1)) (item (int (pos 1)) (item (int (pos 1)) (item (int (pos 1)) (item (int (pos 1)) (item (int (pos 1)) (item (int (pos 1)) (item (int (pos 1)) (item (int (pos 1)) (item (int (pos 1)) (item (int (pos 1)) (item (int (pos 1)) (item (int (pos 1)) (item (int (pos 1)) (item (int (pos 1)) (item (int (pos 1)) (item (int (pos 1)) (item (int (pos 1)) (item (int (pos 1)) (item (int (pos 1)) (item (int (pos 1)) (item (int (pos 1)) (item (int (pos 1)) (item (int (pos 1)) (item (int (pos 1)) (item (int (pos 1)) (item (int (pos 1)) (item (int (pos 1)) (item (int (pos 1)) (item (int (pos 1)) (item (int (pos 1)) (item (int (pos 1)) (item (int (pos 1)) (item (int (pos 1)) (item (int (pos 1)) (item (int (pos 1)) (item (int (pos 1)) (item (int (pos 1)) (item (int (pos 1)) (item (int (pos 1)) (item (int (pos 1)) (item (int (pos 1)) (item (int (pos 1)) (item (int (pos 1)) (item (int (pos 1)) (item (int (pos 1)) (item (int (pos 1)) (item (int (pos 1)) (item (int (pos 1)) (item (int (pos 1)) (item (int (pos 1)) (item (int (pos 1)) (item (int (pos 1)) (item (int (pos 1)) (item (int (pos 1)) (item (int (pos 1)) (item (int (pos 1)) (item (int (pos 1)) (item (int (pos 1)) (item (int (pos 1)) (item (int (pos 1)) (item (int (pos 1)) (item (int (pos 1)) (item (int (pos 1)) (item (int (pos 1)) (item (int (pos 1)) (item (int (pos 1)) (item (int (pos 1)) (item (int (pos 1)) (item (int (pos 1)) (item (int (pos 1)) (item (int (pos 1)) (item (int (pos 1)) (item (int (pos 1)) (item (int (pos 1)) (item (int (pos 1)) (item (int (pos 1)) (item (int (pos 1)) (item (int (pos 1)) (item (int (pos 1)) (item (int (pos 1)) (item (int (pos 1)) (item (int (pos 1)) (item (int (pos 1)) (item (int (pos 1)) (item (int (pos 1)) (item (int (pos 1)) (item (int (pos 1)) (item (int (pos 1)) (item (int (pos 1)) (item (int (pos 1)) (item (int (pos 1)) (item (int (pos 1)) (item (int (pos 1)) (item (int (pos 1)) (item (int (pos 1)) (item (int (pos 1)) (item (int (pos 1)) (item (int (pos 1)) (item (int (pos 1)) (item (int (pos 1)) (item (int (pos 1)) (item (int (pos 1)) (item (int (pos 1)) (item (int (pos 1)) (item (int (pos 1)) (item (int (pos 1)) (item (int (pos 1)) (item (int (pos 1)) (item (int (pos 1)) (item (int (pos 1)) (item (int (pos 1)) (item (int (pos 1)) (item (int (pos 1)) (item (int (pos 1)) (item (int (pos 1)) (item (int (pos 1)) (item (int (pos 1)) (item (int (pos 1)) (item (int (pos 1)) (item (int (pos 1)) (item (int (pos 1)) (item (int (pos 1)) (item (int (pos 1)) (item (int (pos 1)) (item (int (pos 1)) (item (int (pos 1)) (item (int (pos 1)) (item (int (pos 1)) (item (int (pos 1)) (item (int (pos 1)) (item (int (pos 1)) (item (int (pos 1)) (item (int (pos 1)) (item (int (pos 1)) (item (int (pos 1)) (item (int (pos 1)) (item (int (pos 1)) (item (int (pos 1)) (item (int (pos 1)) (item (int (pos 1)) (item (int (pos 1)) (item (int (pos 1)) (item (int (pos 1)) (item (int (pos 1)) (item (int (pos 1)) (item (int (pos 1)) (item (int (pos 1)) (item (int (pos 1)) (item (int (pos 1)) (item (int (pos 1)) (item (int (pos 1)) (item (int (pos 1)) (item (int (pos 1)) (item (int (pos 1)) (item (int (pos 1)) (item (int (pos 1)) (item (int (pos 1)) (item (int (pos 1)) (item (int (pos 1)) (item (int (pos 1)) (item (int (pos 1)) (item (int (pos 1)) (item (int (pos 1)) (item (int (pos 1)) (item (int (pos 1)) (item (int (pos 1)) (item (int (pos 1)) (item (int (pos 1)) (item (int (pos 1)) (item (int (pos 1)) (item (int (pos 1)) (item (int (pos 1)) (item (int (pos 1)) (item (int (pos 1)) (item (int (pos 1)) (item (int (pos 1)) (item (int (pos 1)) (item (int (pos 1)) (item (int (pos 1)) (item (int (pos 1)) (item (int (pos 1)) (item (int (pos 1)) (item (int (pos 1)) (item (int (pos 1)) (item (int (pos 1)) (item (int (pos 1)) (item (int (pos 1)) (item (int (pos 1)) (item (int (pos 1)) (item (int (pos 1)) (item (int (pos 1)) (item (int (pos 1)) (item (int (pos 1)) (item (int (pos 1)) (item (int (pos 1)) (item (int (pos 1)) (item (int (pos 1)) (item (int (pos 1)) (item (int (pos 1)) (item (int (pos 1)) (item (int (pos 1)) (item (int (pos 1)) (item (int (pos 1)) (item (int (pos 1)) (item (int (pos 1)) (item (int (pos 1)) (item (int (pos 1)) (item (int (pos 1)) (item (int (pos 1)) (item (int (pos 1)) (item (int (pos 1)) (item (int (pos 1)) (item (int (pos 1)) (item (int (pos 1)) (item (int (pos 1)) (item (int (pos 1)) (item (int (pos 1)) (item (int (pos 1)) (item (int (pos 1)) (item (int (pos 1)) (item (int (pos 1)) (item (int (pos 1)) (item (int (pos 1)) (item (int (pos 1)) (item (int (pos 1)) (item (int (pos 1)) (item (int (pos 1)) (item (int (pos 1)) (item (int (pos 1)) (item (int (pos 1)) (item (int (pos 1)) (item (int (pos 1)) (item (int (pos 1)) (item (int (pos 1)) (item (int (pos 1)) (item (int (pos 1)) (item (int (pos 1)) (item (int (pos 1)) (item (int (pos 1)) (item (int (pos 1)) (item (int (pos 1)) (item (int (pos 1)) (item (int (pos 1)) (item (int (pos 1)) (item (int (pos 1)) (item (int (pos 1)) (item (int (pos 1)) (item (int (pos 1)) (item (int (pos 1)) (item (int (pos 1)) (item (int (pos 1)) (item (int (pos 1)) (item (int (pos 1)) (item (int (pos 1)) (item (int (pos 1)) (item (int (pos 1)) (item (int (pos 1)) (item (int (pos 1)) (item (int (pos 1)) (item (int (pos 1)) (item (int (pos 1)) (item (int (pos 1)) (item (int (pos 1)) (item (int (pos 1)) (item (int (pos 1)) (item (int (pos 1)) (item (int (pos 1)) (item (int (pos 1)) (item (int (pos 1)) (item (int (pos 1)) (item (int (pos 1)) (item (int (pos 1)) (item (int (pos 1)) (item (int (pos 1)) (item (int (pos 1)) (item (int (pos 1)) (item (int (pos 1)) (item (int (pos 1)) (item (int (pos 1)) (item (int (pos 1)) (item (int (pos 1)) (item (int (pos 1)) (item (int (pos 1)) (item (int (pos 1)) (item (int (pos 1)) (item (int (pos 1)) (item (int (pos 1)) (item (int (pos 1)) (item (int (pos 1)) (item (int (pos 1)) (item (int (pos 1)) (item (int (pos 1)) (item (int (pos 1)) (item (int (pos 1)) (item (int (pos 1)) (item (int (pos 1)) (item (int (pos 1)) (item (int (pos 1)) (item (int (pos 1)) (item (int (pos 1)) (item (int (pos 1)) (item (int (pos 1)) (item (int (pos 1)) (item (int (pos 1)) (item (int (pos 1)) (item (int (pos 1)) (item (int (pos 1)) (item (int (pos 1)) (item (int (pos 1)) (item (int (pos 1)) (item (int (pos 1)) (item (int (pos 1)) (item (int (pos 1)) (item (int (pos 1)) (item (int (pos 1)) (item (int (pos 1)) (item (int (pos 1)) (item (int (pos 1)) (item (int (pos 1)) (item (int (pos 1)) (item (int (pos 1)) (item (int (pos 1)) (item (int (pos 1)) (item (int (pos 1)) (item (int (pos 1)) (item (int (pos 1)) (item (int (pos 1)) (item (int (pos 1)) (item (int (pos 1)) (item (int (pos 1)) (item (int (pos 1)) (item (int (pos 1)) (item (int (pos 1)) (item (int (pos 1)) (item (int (pos 1)) (item (int (pos 1)) (item (int (pos 1)) (item (int (pos 1)) (item (int (pos 1)) (item (int (pos 1)) (item (int (pos 1)) (item (int (pos 1)) (item (int (pos 1)) (item (int (pos 1)) (item (int (pos 1)) (item (int (pos 1)) (item (int (pos 1)) (item (int (pos 1)) (item (int (pos 1)) (item (int (pos 1)) (item (int (pos 1)) (item (int (pos 1)) (item (int (pos 1)) (item (int (pos 1)) (item (int (pos 1)) (item (int (pos 1)) (item (int (pos 1)) (item (int (pos 1)) (item (int (pos 1)) (item (int (pos 1)) (item (int (pos 1)) (item (int (pos 1)) (item (int (pos 1)) (item (int (pos 1)) (item (int (pos 1)) (item (int (pos 1)) (item (int (pos 1)) (item (int (pos 1)) (item (int (pos 1)) (item (int (pos 1)) (item (int (pos 1)) (item (int (pos 1)) (item (int (pos 1)) (item (int (pos 1)) (item (int (pos 1)) (item (int (pos 1)) (item (int (pos 1)) (item (int (pos 1)) (item (int (pos 1)) (item (int (pos 1)) (item (int (pos 1)) (item (int (pos 1)) (item (int (pos 1)) (item (int (pos 1)) (item (int (pos 1)) (item (int (pos 1)) (item (int (pos 1)) (item (int (pos 1)) (item (int (pos 1)) (item (int (pos 1)) (item (int (pos 1)) (item (int (pos 1)) (item (int (pos 1)) (item (int (pos 1)) (item (int (pos 1)) (item (int (pos 1)) (item (int (pos 1)) (item (int (pos 1)) (item (int (pos 1)) (item (int (pos 1)) (item (int (pos 1)) (item (int (pos 1)) (item (int (pos 1)) (item (int (pos 1)) (item (int (pos 1)) (item (int (pos 1)) (item (int (pos 1)) (item (int (pos 1)) (item (int (pos 1)) (item (int (pos 1)) (item (int (pos 1)) (item (int (pos 1)) (item (int (pos 1)) (item (int (pos 1)) (item (int (pos 1)) (item (int (pos 1)) (item (int (pos 1)) (item (int (pos 1)) (item (int (pos 1)) (item (int (pos 1)) (item (int (pos 1)) (item (int (pos 1)) (item (int (pos 1)) (item (int (pos 1)) (item (int (pos 1)) (item (int (pos 1)) (item (int (pos 1)) (item (int (pos 1)) (item (int (pos 1)) (item (int (pos 1)) (item (int (pos 1)) (item (int (pos 1)) (item (int (pos 1)) (item (int (pos 1)) (item (int (pos 1)) (item (int (pos 1)) (item (int (pos 1)) (item (int (pos 1)) (item (int (pos 1)) (item (int (pos 1)) (item (int (pos 1)) (item (int (pos 1)) (item (int (pos 1)) (item (int (pos 1)) (item (int (pos 1)) (item (int (pos 1)) (item (int (pos 1)) (no_items))))))))))))))))))))))))))))))))))))))))))))))))))))))))))))))))))))))))))))))))))))))))))))))))))))))))))))))))))))))))))))))))))))))))))))))))))))))))))))))))))))))))))))))))))))))))))))))))))))))))))))))))))))))))))))))))))))))))))))))))))))))))))))))))))))))))))))))))))))))))))))))))))))))))))))))))))))))))))))))))))))))))))))))))))))))))))))))))))))))))))))))))))))))))))))))))))))))))))))))))))))))))))))))))))))))))))))))))))))))))))))))))))))))))))))))))))))))))))))))))))))))))))))))))))))))))))))))))))))))))))))))))))))))))))))))))))))))))))))))))))))))))))))))))))))))))))))))))))))))))))))))))))))))))))))))))))))))))))))))))))))))))))))))))))))))))))))))))))))))))))))))))))))))))))))))))))))))))))))))))))))))))))))))))))))))))))))))))))))))))))))))))))))))))))))))))))))))))))))))))))))))))))))))))))))))))))))))))))))))))))))))))))))))))))))))))))))))))))))))))))))))))))))))))))))))))))))))))))))))))))))))))))))))))))))))))))))))))))))))))))))))))))))))))))))))))))))))))))))))))))))))))))))))))))))))))))) (field (codes "ping") null (no_fields)))) (no_items))) (no_fields)))) (no_items))) ≡ Err (record { line = 2; code = 8 })
book_647 = refl

book_648 : book_from (builtins ++ ([])) (list (item (rec (field (codes "hosts") (text (codes "all")) (field (codes "tasks") (list (item (rec (field (codes "loop") (list (item (int (pos 1)) (item (int (pos 2)) (item (int (pos 3)) (no_items))))) (field (codes "ping") null (field (codes "when") (text (codes "item != 2")) (no_fields))))) (no_items))) (no_fields)))) (no_items))) ≡ Ok ((record { line = 1; pattern = ((codes "all") ∷ []); gathering = None; vars = (no_parts); is_linear = true; serial = ([]); pre_tasks = (no_steps); tasks = (task_step (record { line = 2; work = (module_work (codes "ping") (no_parts)); condition = (expression (negation (comparison equal (path (variable (codes "item")) ([])) (literal (int (pos 2))))) (no_expressions)); loop = (Some (literal (list (item (int (pos 1)) (item (int (pos 2)) (item (int (pos 3)) (no_items))))))); register = None; vars = (no_parts); notify = ([]); changed_when = None; failed_when = None; attempts = None; ignore_errors = None }) (no_steps)); post_tasks = (no_steps); handlers = ([]); forces = false } ∷ []))
book_648 = refl

book_649 : book_from (builtins ++ ([])) (list (item (rec (field (codes "hosts") (text (codes "all")) (field (codes "tasks") (list (item (rec (field (codes "loop") (list (item (int (pos 1)) (item (text (codes "a")) (no_items)))) (field (codes "ping") null (no_fields)))) (no_items))) (no_fields)))) (no_items))) ≡ Ok ((record { line = 1; pattern = ((codes "all") ∷ []); gathering = None; vars = (no_parts); is_linear = true; serial = ([]); pre_tasks = (no_steps); tasks = (task_step (record { line = 2; work = (module_work (codes "ping") (no_parts)); condition = (no_expressions); loop = (Some (literal (list (item (int (pos 1)) (item (text (codes "a")) (no_items)))))); register = None; vars = (no_parts); notify = ([]); changed_when = None; failed_when = None; attempts = None; ignore_errors = None }) (no_steps)); post_tasks = (no_steps); handlers = ([]); forces = false } ∷ []))
book_649 = refl

book_650 : book_from (builtins ++ ([])) (list (item (rec (field (codes "hosts") (text (codes "all")) (field (codes "tasks") (list (item (rec (field (codes "loop") (list (item (int (pos 1)) (no_items))) (field (codes "ping") null (field (codes "until") (text (codes "true")) (no_fields))))) (no_items))) (no_fields)))) (no_items))) ≡ Err (record { line = 2; code = 4 })
book_650 = refl

book_651 : book_from (builtins ++ ([])) (list (item (rec (field (codes "hosts") (text (codes "all")) (field (codes "tasks") (list (item (rec (field (codes "loop") (list (item (int (pos 1)) (no_items))) (field (codes "ping") null (no_fields)))) (item (rec (field (codes "debug") (rec (field (codes "msg") (text (123 ∷ 123 ∷ 32 ∷ 105 ∷ 116 ∷ 101 ∷ 109 ∷ 32 ∷ 125 ∷ 125 ∷ [])) (no_fields))) (no_fields))) (no_items)))) (no_fields)))) (no_items))) ≡ Ok ((record { line = 1; pattern = ((codes "all") ∷ []); gathering = None; vars = (no_parts); is_linear = true; serial = ([]); pre_tasks = (no_steps); tasks = (task_step (record { line = 2; work = (module_work (codes "ping") (no_parts)); condition = (no_expressions); loop = (Some (literal (list (item (int (pos 1)) (no_items))))); register = None; vars = (no_parts); notify = ([]); changed_when = None; failed_when = None; attempts = None; ignore_errors = None }) (task_step (record { line = 3; work = (debug_work (part (codes "msg") (path (variable (codes "item")) ([])) (no_parts))); condition = (no_expressions); loop = None; register = None; vars = (no_parts); notify = ([]); changed_when = None; failed_when = None; attempts = None; ignore_errors = None }) (no_steps))); post_tasks = (no_steps); handlers = ([]); forces = false } ∷ []))
book_651 = refl

book_652 : book_from (builtins ++ ([])) (list (item (rec (field (codes "hosts") (text (codes "all")) (field (codes "tasks") (list (item (rec (field (codes "loop") (list (item (int (pos 1)) (no_items))) (field (codes "setup") null (no_fields)))) (item (rec (field (codes "debug") (rec (field (codes "msg") (text (123 ∷ 123 ∷ 32 ∷ 97 ∷ 110 ∷ 115 ∷ 105 ∷ 98 ∷ 108 ∷ 101 ∷ 95 ∷ 104 ∷ 111 ∷ 115 ∷ 116 ∷ 110 ∷ 97 ∷ 109 ∷ 101 ∷ 32 ∷ 125 ∷ 125 ∷ [])) (no_fields))) (no_fields))) (no_items)))) (no_fields)))) (no_items))) ≡ Ok ((record { line = 1; pattern = ((codes "all") ∷ []); gathering = None; vars = (no_parts); is_linear = true; serial = ([]); pre_tasks = (no_steps); tasks = (task_step (record { line = 2; work = (module_work (codes "setup") (no_parts)); condition = (no_expressions); loop = (Some (literal (list (item (int (pos 1)) (no_items))))); register = None; vars = (no_parts); notify = ([]); changed_when = None; failed_when = None; attempts = None; ignore_errors = None }) (task_step (record { line = 3; work = (debug_work (part (codes "msg") (path (variable (codes "ansible_hostname")) ([])) (no_parts))); condition = (no_expressions); loop = None; register = None; vars = (no_parts); notify = ([]); changed_when = None; failed_when = None; attempts = None; ignore_errors = None }) (no_steps))); post_tasks = (no_steps); handlers = ([]); forces = false } ∷ []))
book_652 = refl

book_653 : book_from (builtins ++ ([])) (list (item (rec (field (codes "hosts") (text (codes "all")) (field (codes "tasks") (list (item (rec (field (codes "loop") (list (item (list (item (list (item (list (item (list (item (list (item (list (item (list (item (list (item (list (item (list (item (list (item (list (item (list (item (list (item (list (item (list (item (list (item (list (item (list (item (list (item (list (item (list (item (list (item (list (item (list (item (list (item (list (item (list (item (list (item (list (item (list (item (list (item (list (no_items)) (no_items))) (no_items))) (no_items))) (no_items))) (no_items))) (no_items))) (no_items))) (no_items))) (no_items))) (no_items))) (no_items))) (no_items))) (no_items))) (no_items))) (no_items))) (no_items))) (no_items))) (no_items))) (no_items))) (no_items))) (no_items))) (no_items))) (no_items))) (no_items))) (no_items))) (no_items))) (no_items))) (no_items))) (no_items))) (no_items))) (no_items))) (no_items))) (no_items))) (field (codes "ping") null (no_fields)))) (no_items))) (no_fields)))) (no_items))) ≡ Err (record { line = 2; code = 8 })
book_653 = refl

book_654 : book_from (builtins ++ ([])) (list (item (rec (field (codes "hosts") (text (codes "all")) (field (codes "tasks") (list (item (rec (field (codes "loop") (list (item (list (item (list (item (list (item (list (item (list (item (list (item (list (item (list (item (list (item (list (item (list (item (list (item (list (item (list (item (list (item (list (item (list (item (list (item (list (item (list (item (list (item (list (item (list (item (list (item (list (item (list (item (list (item (list (item (list (item (list (item (list (item (list (no_items)) (no_items))) (no_items))) (no_items))) (no_items))) (no_items))) (no_items))) (no_items))) (no_items))) (no_items))) (no_items))) (no_items))) (no_items))) (no_items))) (no_items))) (no_items))) (no_items))) (no_items))) (no_items))) (no_items))) (no_items))) (no_items))) (no_items))) (no_items))) (no_items))) (no_items))) (no_items))) (no_items))) (no_items))) (no_items))) (no_items))) (no_items))) (no_items))) (field (codes "ping") null (no_fields)))) (no_items))) (no_fields)))) (no_items))) ≡ Ok ((record { line = 1; pattern = ((codes "all") ∷ []); gathering = None; vars = (no_parts); is_linear = true; serial = ([]); pre_tasks = (no_steps); tasks = (task_step (record { line = 2; work = (module_work (codes "ping") (no_parts)); condition = (no_expressions); loop = (Some (literal (list (item (list (item (list (item (list (item (list (item (list (item (list (item (list (item (list (item (list (item (list (item (list (item (list (item (list (item (list (item (list (item (list (item (list (item (list (item (list (item (list (item (list (item (list (item (list (item (list (item (list (item (list (item (list (item (list (item (list (item (list (item (list (item (list (no_items)) (no_items))) (no_items))) (no_items))) (no_items))) (no_items))) (no_items))) (no_items))) (no_items))) (no_items))) (no_items))) (no_items))) (no_items))) (no_items))) (no_items))) (no_items))) (no_items))) (no_items))) (no_items))) (no_items))) (no_items))) (no_items))) (no_items))) (no_items))) (no_items))) (no_items))) (no_items))) (no_items))) (no_items))) (no_items))) (no_items))) (no_items))) (no_items))))); register = None; vars = (no_parts); notify = ([]); changed_when = None; failed_when = None; attempts = None; ignore_errors = None }) (no_steps)); post_tasks = (no_steps); handlers = ([]); forces = false } ∷ []))
book_654 = refl

book_655 : book_from (builtins ++ ([])) (list (item (rec (field (codes "hosts") (text (codes "all")) (field (codes "tasks") (list (item (rec (field (codes "loop") (rec (no_fields)) (field (codes "ping") null (no_fields)))) (no_items))) (no_fields)))) (no_items))) ≡ Err (record { line = 2; code = 4 })
book_655 = refl

book_656 : book_from (builtins ++ ([])) (list (item (rec (field (codes "hosts") (text (codes "all")) (field (codes "tasks") (list (item (rec (field (codes "loop") (text (123 ∷ 123 ∷ 32 ∷ 125 ∷ 125 ∷ [])) (field (codes "ping") null (no_fields)))) (no_items))) (no_fields)))) (no_items))) ≡ Err (record { line = 2; code = 7 })
book_656 = refl

book_657 : book_from (builtins ++ ([])) (list (item (rec (field (codes "hosts") (text (codes "all")) (field (codes "tasks") (list (item (rec (field (codes "loop") (text (123 ∷ 123 ∷ 32 ∷ 53 ∷ 32 ∷ 125 ∷ 125 ∷ [])) (field (codes "ping") null (field (codes "when") (text (codes "zz")) (no_fields))))) (no_items))) (no_fields)))) (no_items))) ≡ Ok ((record { line = 1; pattern = ((codes "all") ∷ []); gathering = None; vars = (no_parts); is_linear = true; serial = ([]); pre_tasks = (no_steps); tasks = (task_step (record { line = 2; work = (module_work (codes "ping") (no_parts)); condition = (expression (path (variable (codes "zz")) ([])) (no_expressions)); loop = (Some (literal (int (pos 5)))); register = None; vars = (no_parts); notify = ([]); changed_when = None; failed_when = None; attempts = None; ignore_errors = None }) (no_steps)); post_tasks = (no_steps); handlers = ([]); forces = false } ∷ []))
book_657 = refl

book_658 : book_from (builtins ++ ([])) (list (item (rec (field (codes "hosts") (text (codes "all")) (field (codes "tasks") (list (item (rec (field (codes "loop") (text (123 ∷ 123 ∷ 32 ∷ 91 ∷ 105 ∷ 116 ∷ 101 ∷ 109 ∷ 93 ∷ 32 ∷ 125 ∷ 125 ∷ [])) (field (codes "ping") null (no_fields)))) (no_items))) (no_fields)))) (no_items))) ≡ Ok ((record { line = 1; pattern = ((codes "all") ∷ []); gathering = None; vars = (no_parts); is_linear = true; serial = ([]); pre_tasks = (no_steps); tasks = (task_step (record { line = 2; work = (module_work (codes "ping") (no_parts)); condition = (no_expressions); loop = (Some (list_of (expression (path (variable (codes "item")) ([])) (no_expressions)))); register = None; vars = (no_parts); notify = ([]); changed_when = None; failed_when = None; attempts = None; ignore_errors = None }) (no_steps)); post_tasks = (no_steps); handlers = ([]); forces = false } ∷ []))
book_658 = refl

book_659 : book_from (builtins ++ ([])) (list (item (rec (field (codes "hosts") (text (codes "all")) (field (codes "tasks") (list (item (rec (field (codes "loop") (text (123 ∷ 123 ∷ 32 ∷ 91 ∷ 49 ∷ 93 ∷ 32 ∷ 125 ∷ 125 ∷ 123 ∷ 123 ∷ 32 ∷ 91 ∷ 50 ∷ 93 ∷ 32 ∷ 125 ∷ 125 ∷ [])) (field (codes "ping") null (no_fields)))) (no_items))) (no_fields)))) (no_items))) ≡ Err (record { line = 2; code = 4 })
book_659 = refl

book_660 : book_from (builtins ++ ([])) (list (item (rec (field (codes "hosts") (text (codes "all")) (field (codes "tasks") (list (item (rec (field (codes "loop") (text (123 ∷ 123 ∷ 32 ∷ 91 ∷ 49 ∷ 93 ∷ [])) (field (codes "ping") null (no_fields)))) (no_items))) (no_fields)))) (no_items))) ≡ Err (record { line = 2; code = 4 })
book_660 = refl

book_661 : book_from (builtins ++ ([])) (list (item (rec (field (codes "hosts") (text (codes "all")) (field (codes "tasks") (list (item (rec (field (codes "loop") (text (123 ∷ 123 ∷ 32 ∷ 97 ∷ 32 ∷ 98 ∷ 32 ∷ 125 ∷ 125 ∷ [])) (field (codes "ping") null (no_fields)))) (no_items))) (no_fields)))) (no_items))) ≡ Err (record { line = 2; code = 7 })
book_661 = refl

book_662 : book_from (builtins ++ ([])) (list (item (rec (field (codes "hosts") (text (codes "all")) (field (codes "tasks") (list (item (rec (field (codes "loop") null (field (codes "ping") null (no_fields)))) (no_items))) (no_fields)))) (no_items))) ≡ Err (record { line = 2; code = 4 })
book_662 = refl

book_663 : book_from (builtins ++ ([])) (list (item (rec (field (codes "hosts") (text (codes "all")) (field (codes "tasks") (list (item (rec (field (codes "meta") (rec (field (codes "x") (int (pos 1)) (no_fields))) (no_fields))) (no_items))) (no_fields)))) (no_items))) ≡ Err (record { line = 2; code = 4 })
book_663 = refl

book_664 : book_from (builtins ++ ([])) (list (item (rec (field (codes "hosts") (text (codes "all")) (field (codes "tasks") (list (item (rec (field (codes "meta") (text (codes "flush_handlers")) (no_fields))) (no_items))) (field (codes "vars") (rec (field (codes "a") (text (123 ∷ 123 ∷ 32 ∷ 97 ∷ 32 ∷ 125 ∷ 125 ∷ [])) (no_fields))) (no_fields))))) (no_items))) ≡ Ok ((record { line = 1; pattern = ((codes "all") ∷ []); gathering = None; vars = (part (codes "a") (path (variable (codes "a")) ([])) (no_parts)); is_linear = true; serial = ([]); pre_tasks = (no_steps); tasks = (flush_step 2 (no_steps)); post_tasks = (no_steps); handlers = ([]); forces = false } ∷ []))
book_664 = refl

book_665 : book_from (builtins ++ ([])) (list (item (rec (field (codes "hosts") (text (codes "all")) (field (codes "tasks") (list (item (rec (field (codes "meta") (text (codes "flush_handlers")) (no_fields))) (no_items))) (no_fields)))) (no_items))) ≡ Ok ((record { line = 1; pattern = ((codes "all") ∷ []); gathering = None; vars = (no_parts); is_linear = true; serial = ([]); pre_tasks = (no_steps); tasks = (flush_step 2 (no_steps)); post_tasks = (no_steps); handlers = ([]); forces = false } ∷ []))
book_665 = refl

book_666 : book_from (builtins ++ ([])) (list (item (rec (field (codes "hosts") (text (codes "all")) (field (codes "tasks") (list (item (rec (field (codes "name") (text (codes "task 0")) (field (codes "ping") null (field (codes "register") (text (codes "r1")) (field (codes "when") (text (codes "not not r1.skip_reason.stderr_lines and true")) (no_fields)))))) (no_items))) (no_fields)))) (no_items))) ≡ Ok ((record { line = 1; pattern = ((codes "all") ∷ []); gathering = None; vars = (no_parts); is_linear = true; serial = ([]); pre_tasks = (no_steps); tasks = (task_step (record { line = 2; work = (module_work (codes "ping") (no_parts)); condition = (expression (conjunction (expression (negation (negation (path (variable (codes "r1")) ((codes "skip_reason") ∷ (codes "stderr_lines") ∷ [])))) (expression (literal (boolean true)) (no_expressions)))) (no_expressions)); loop = None; register = (Some (codes "r1")); vars = (no_parts); notify = ([]); changed_when = None; failed_when = None; attempts = None; ignore_errors = None }) (no_steps)); post_tasks = (no_steps); handlers = ([]); forces = false } ∷ []))
book_666 = refl

book_667 : book_from (builtins ++ ([])) (list (item (rec (field (codes "hosts") (text (codes "all")) (field (codes "tasks") (list (item (rec (field (codes "name") (text (codes "task 0")) (field (codes "ping") null (field (codes "register") (text (codes "r3")) (field (codes "when") (text (codes "true")) (no_fields)))))) (item (rec (field (codes "command") (text (codes "x")) (field (codes "register") (text (codes "r1")) (no_fields)))) (item (rec (field (codes "command") (text (codes "x")) (field (codes "when") (text (codes "r3.changed")) (no_fields)))) (item (rec (field (codes "command") (rec (field (codes "cmd") (text (123 ∷ 123 ∷ 32 ∷ 105 ∷ 110 ∷ 118 ∷ 101 ∷ 110 ∷ 116 ∷ 111 ∷ 114 ∷ 121 ∷ 95 ∷ 104 ∷ 111 ∷ 115 ∷ 116 ∷ 110 ∷ 97 ∷ 109 ∷ 101 ∷ 32 ∷ 125 ∷ 125 ∷ [])) (no_fields))) (field (codes "name") (text (codes "task 3")) (field (codes "when") (text (codes "r1.failed and r1.changed")) (no_fields))))) (item (rec (field (codes "set_fact") (rec (field (codes "s1") (text (123 ∷ 123 ∷ 32 ∷ 84 ∷ 114 ∷ 117 ∷ 101 ∷ 32 ∷ 125 ∷ 125 ∷ [])) (no_fields))) (field (codes "when") (boolean true) (no_fields)))) (item (rec (field (codes "command") (text (codes "x")) (no_fields))) (no_items)))))))) (no_fields)))) (no_items))) ≡ Ok ((record { line = 1; pattern = ((codes "all") ∷ []); gathering = None; vars = (no_parts); is_linear = true; serial = ([]); pre_tasks = (no_steps); tasks = (task_step (record { line = 2; work = (module_work (codes "ping") (no_parts)); condition = (expression (literal (boolean true)) (no_expressions)); loop = None; register = (Some (codes "r3")); vars = (no_parts); notify = ([]); changed_when = None; failed_when = None; attempts = None; ignore_errors = None }) (task_step (record { line = 3; work = (module_work (codes "command") (part (codes "cmd") (literal (text (codes "x"))) (no_parts))); condition = (no_expressions); loop = None; register = (Some (codes "r1")); vars = (no_parts); notify = ([]); changed_when = None; failed_when = None; attempts = None; ignore_errors = None }) (task_step (record { line = 4; work = (module_work (codes "command") (part (codes "cmd") (literal (text (codes "x"))) (no_parts))); condition = (expression (path (variable (codes "r3")) ((codes "changed") ∷ [])) (no_expressions)); loop = None; register = None; vars = (no_parts); notify = ([]); changed_when = None; failed_when = None; attempts = None; ignore_errors = None }) (task_step (record { line = 5; work = (module_work (codes "command") (part (codes "cmd") (path (variable (codes "inventory_hostname")) ([])) (no_parts))); condition = (expression (conjunction (expression (path (variable (codes "r1")) ((codes "failed") ∷ [])) (expression (path (variable (codes "r1")) ((codes "changed") ∷ [])) (no_expressions)))) (no_expressions)); loop = None; register = None; vars = (no_parts); notify = ([]); changed_when = None; failed_when = None; attempts = None; ignore_errors = None }) (task_step (record { line = 6; work = (set_fact_work (part (codes "s1") (literal (boolean true)) (no_parts))); condition = (expression (literal (boolean true)) (no_expressions)); loop = None; register = None; vars = (no_parts); notify = ([]); changed_when = None; failed_when = None; attempts = None; ignore_errors = None }) (task_step (record { line = 7; work = (module_work (codes "command") (part (codes "cmd") (literal (text (codes "x"))) (no_parts))); condition = (no_expressions); loop = None; register = None; vars = (no_parts); notify = ([]); changed_when = None; failed_when = None; attempts = None; ignore_errors = None }) (no_steps))))))); post_tasks = (no_steps); handlers = ([]); forces = false } ∷ []))
book_667 = refl

book_668 : book_from (builtins ++ ([])) (list (item (rec (field (codes "hosts") (text (codes "all")) (field (codes "tasks") (list (item (rec (field (codes "name") (text (codes "task 0")) (field (codes "ping") null (no_fields)))) (item (rec (field (codes "command") (text (codes "x")) (field (codes "name") (text (codes "task 1")) (field (codes "when") (text (codes "inventory_hostname")) (no_fields))))) (no_items)))) (no_fields)))) (no_items))) ≡ Ok ((record { line = 1; pattern = ((codes "all") ∷ []); gathering = None; vars = (no_parts); is_linear = true; serial = ([]); pre_tasks = (no_steps); tasks = (task_step (record { line = 2; work = (module_work (codes "ping") (no_parts)); condition = (no_expressions); loop = None; register = None; vars = (no_parts); notify = ([]); changed_when = None; failed_when = None; attempts = None; ignore_errors = None }) (task_step (record { line = 3; work = (module_work (codes "command") (part (codes "cmd") (literal (text (codes "x"))) (no_parts))); condition = (expression (path (variable (codes "inventory_hostname")) ([])) (no_expressions)); loop = None; register = None; vars = (no_parts); notify = ([]); changed_when = None; failed_when = None; attempts = None; ignore_errors = None }) (no_steps))); post_tasks = (no_steps); handlers = ([]); forces = false } ∷ []))
book_668 = refl

book_669 : book_from (builtins ++ ([])) (list (item (rec (field (codes "hosts") (text (codes "all")) (field (codes "tasks") (list (item (rec (field (codes "name") (text (codes "task 0")) (field (codes "ping") null (no_fields)))) (item (rec (field (codes "command") (text (codes "x")) (no_fields))) (item (rec (field (codes "command") (text (codes "x")) (field (codes "name") (text (codes "task 2")) (no_fields)))) (no_items))))) (no_fields)))) (no_items))) ≡ Ok ((record { line = 1; pattern = ((codes "all") ∷ []); gathering = None; vars = (no_parts); is_linear = true; serial = ([]); pre_tasks = (no_steps); tasks = (task_step (record { line = 2; work = (module_work (codes "ping") (no_parts)); condition = (no_expressions); loop = None; register = None; vars = (no_parts); notify = ([]); changed_when = None; failed_when = None; attempts = None; ignore_errors = None }) (task_step (record { line = 3; work = (module_work (codes "command") (part (codes "cmd") (literal (text (codes "x"))) (no_parts))); condition = (no_expressions); loop = None; register = None; vars = (no_parts); notify = ([]); changed_when = None; failed_when = None; attempts = None; ignore_errors = None }) (task_step (record { line = 4; work = (module_work (codes "command") (part (codes "cmd") (literal (text (codes "x"))) (no_parts))); condition = (no_expressions); loop = None; register = None; vars = (no_parts); notify = ([]); changed_when = None; failed_when = None; attempts = None; ignore_errors = None }) (no_steps)))); post_tasks = (no_steps); handlers = ([]); forces = false } ∷ []))
book_669 = refl

book_670 : book_from (builtins ++ ([])) (list (item (rec (field (codes "hosts") (text (codes "all")) (field (codes "tasks") (list (item (rec (field (codes "name") (text (codes "task 0")) (field (codes "register") (text (codes "r1")) (field (codes "set_fact") (rec (field (codes "s2") (list (item (text (123 ∷ 123 ∷ 32 ∷ 105 ∷ 110 ∷ 118 ∷ 101 ∷ 110 ∷ 116 ∷ 111 ∷ 114 ∷ 121 ∷ 95 ∷ 104 ∷ 111 ∷ 115 ∷ 116 ∷ 110 ∷ 97 ∷ 109 ∷ 101 ∷ 32 ∷ 125 ∷ 125 ∷ [])) (no_items))) (no_fields))) (no_fields))))) (item (rec (field (codes "command") (text (codes "x")) (field (codes "name") (text (codes "task 1")) (field (codes "register") (text (codes "s1")) (no_fields))))) (item (rec (field (codes "register") (text (codes "s1")) (field (codes "set_fact") (rec (field (codes "s2") (list (no_items)) (no_fields))) (no_fields)))) (no_items))))) (no_fields)))) (no_items))) ≡ Ok ((record { line = 1; pattern = ((codes "all") ∷ []); gathering = None; vars = (no_parts); is_linear = true; serial = ([]); pre_tasks = (no_steps); tasks = (task_step (record { line = 2; work = (set_fact_work (part (codes "s2") (list_of (expression (path (variable (codes "inventory_hostname")) ([])) (no_expressions))) (no_parts))); condition = (no_expressions); loop = None; register = (Some (codes "r1")); vars = (no_parts); notify = ([]); changed_when = None; failed_when = None; attempts = None; ignore_errors = None }) (task_step (record { line = 3; work = (module_work (codes "command") (part (codes "cmd") (literal (text (codes "x"))) (no_parts))); condition = (no_expressions); loop = None; register = (Some (codes "s1")); vars = (no_parts); notify = ([]); changed_when = None; failed_when = None; attempts = None; ignore_errors = None }) (task_step (record { line = 4; work = (set_fact_work (part (codes "s2") (literal (list (no_items))) (no_parts))); condition = (no_expressions); loop = None; register = (Some (codes "s1")); vars = (no_parts); notify = ([]); changed_when = None; failed_when = None; attempts = None; ignore_errors = None }) (no_steps)))); post_tasks = (no_steps); handlers = ([]); forces = false } ∷ []))
book_670 = refl

book_671 : book_from (builtins ++ ([])) (list (item (rec (field (codes "hosts") (text (codes "all")) (field (codes "tasks") (list (item (rec (field (codes "name") (text (codes "task 0")) (field (codes "register") (text (codes "r1")) (field (codes "set_fact") (rec (field (codes "s2") (text (123 ∷ 123 ∷ 32 ∷ 116 ∷ 114 ∷ 117 ∷ 101 ∷ 32 ∷ 125 ∷ 125 ∷ [])) (no_fields))) (no_fields))))) (no_items))) (no_fields)))) (no_items))) ≡ Ok ((record { line = 1; pattern = ((codes "all") ∷ []); gathering = None; vars = (no_parts); is_linear = true; serial = ([]); pre_tasks = (no_steps); tasks = (task_step (record { line = 2; work = (set_fact_work (part (codes "s2") (literal (boolean true)) (no_parts))); condition = (no_expressions); loop = None; register = (Some (codes "r1")); vars = (no_parts); notify = ([]); changed_when = None; failed_when = None; attempts = None; ignore_errors = None }) (no_steps)); post_tasks = (no_steps); handlers = ([]); forces = false } ∷ []))
book_671 = refl

book_672 : book_from (builtins ++ ([])) (list (item (rec (field (codes "hosts") (text (codes "all")) (field (codes "tasks") (list (item (rec (field (codes "name") (text (codes "task 0")) (field (codes "register") (text (codes "r2")) (field (codes "set_fact") (rec (field (codes "s2") (list (item null (no_items))) (no_fields))) (no_fields))))) (item (rec (field (codes "command") (text (codes "x")) (field (codes "register") (text (codes "s1")) (no_fields)))) (item (rec (field (codes "debug") (rec (field (codes "msg") (rec (field (codes "f") (text (123 ∷ 123 ∷ 32 ∷ 115 ∷ 50 ∷ 46 ∷ 115 ∷ 116 ∷ 100 ∷ 101 ∷ 114 ∷ 114 ∷ 32 ∷ 125 ∷ 125 ∷ [])) (no_fields))) (no_fields))) (field (codes "name") (text (codes "task 2")) (field (codes "register") (text (codes "r3")) (no_fields))))) (no_items))))) (no_fields)))) (no_items))) ≡ Ok ((record { line = 1; pattern = ((codes "all") ∷ []); gathering = None; vars = (no_parts); is_linear = true; serial = ([]); pre_tasks = (no_steps); tasks = (task_step (record { line = 2; work = (set_fact_work (part (codes "s2") (literal (list (item null (no_items)))) (no_parts))); condition = (no_expressions); loop = None; register = (Some (codes "r2")); vars = (no_parts); notify = ([]); changed_when = None; failed_when = None; attempts = None; ignore_errors = None }) (task_step (record { line = 3; work = (module_work (codes "command") (part (codes "cmd") (literal (text (codes "x"))) (no_parts))); condition = (no_expressions); loop = None; register = (Some (codes "s1")); vars = (no_parts); notify = ([]); changed_when = None; failed_when = None; attempts = None; ignore_errors = None }) (task_step (record { line = 4; work = (debug_work (part (codes "msg") (record_of (part (codes "f") (path (variable (codes "s2")) ((codes "stderr") ∷ [])) (no_parts))) (no_parts))); condition = (no_expressions); loop = None; register = (Some (codes "r3")); vars = (no_parts); notify = ([]); changed_when = None; failed_when = None; attempts = None; ignore_errors = None }) (no_steps)))); post_tasks = (no_steps); handlers = ([]); forces = false } ∷ []))
book_672 = refl

book_673 : book_from (builtins ++ ([])) (list (item (rec (field (codes "hosts") (text (codes "all")) (field (codes "tasks") (list (item (rec (field (codes "name") (text (codes "task 0")) (field (codes "set_fact") (rec (field (codes "s1") (text ([])) (field (codes "s2") (rec (field (codes "h") (text (123 ∷ 123 ∷ 32 ∷ 70 ∷ 97 ∷ 108 ∷ 115 ∷ 101 ∷ 32 ∷ 125 ∷ 125 ∷ [])) (no_fields))) (no_fields)))) (no_fields)))) (item (rec (field (codes "set_fact") (rec (field (codes "s2") (int (pos 5)) (no_fields))) (no_fields))) (no_items)))) (no_fields)))) (no_items))) ≡ Ok ((record { line = 1; pattern = ((codes "all") ∷ []); gathering = None; vars = (no_parts); is_linear = true; serial = ([]); pre_tasks = (no_steps); tasks = (task_step (record { line = 2; work = (set_fact_work (part (codes "s1") (literal (text ([]))) (part (codes "s2") (record_of (part (codes "h") (literal (boolean false)) (no_parts))) (no_parts)))); condition = (no_expressions); loop = None; register = None; vars = (no_parts); notify = ([]); changed_when = None; failed_when = None; attempts = None; ignore_errors = None }) (task_step (record { line = 3; work = (set_fact_work (part (codes "s2") (literal (int (pos 5))) (no_parts))); condition = (no_expressions); loop = None; register = None; vars = (no_parts); notify = ([]); changed_when = None; failed_when = None; attempts = None; ignore_errors = None }) (no_steps))); post_tasks = (no_steps); handlers = ([]); forces = false } ∷ []))
book_673 = refl

book_674 : book_from (builtins ++ ([])) (list (item (rec (field (codes "hosts") (text (codes "all")) (field (codes "tasks") (list (item (rec (field (codes "name") (text (codes "task 0")) (field (codes "set_fact") (rec (field (codes "s2") (list (item (text (codes "text")) (no_items))) (field (codes "s3") (int (pos 5)) (no_fields)))) (no_fields)))) (item (rec (field (codes "command") (text (codes "x")) (field (codes "register") (text (codes "r3")) (no_fields)))) (item (rec (field (codes "command") (rec (field (codes "cmd") (list (no_items)) (no_fields))) (field (codes "register") (text (codes "r2")) (no_fields)))) (no_items))))) (no_fields)))) (no_items))) ≡ Ok ((record { line = 1; pattern = ((codes "all") ∷ []); gathering = None; vars = (no_parts); is_linear = true; serial = ([]); pre_tasks = (no_steps); tasks = (task_step (record { line = 2; work = (set_fact_work (part (codes "s2") (literal (list (item (text (codes "text")) (no_items)))) (part (codes "s3") (literal (int (pos 5))) (no_parts)))); condition = (no_expressions); loop = None; register = None; vars = (no_parts); notify = ([]); changed_when = None; failed_when = None; attempts = None; ignore_errors = None }) (task_step (record { line = 3; work = (module_work (codes "command") (part (codes "cmd") (literal (text (codes "x"))) (no_parts))); condition = (no_expressions); loop = None; register = (Some (codes "r3")); vars = (no_parts); notify = ([]); changed_when = None; failed_when = None; attempts = None; ignore_errors = None }) (task_step (record { line = 4; work = (module_work (codes "command") (part (codes "cmd") (literal (list (no_items))) (no_parts))); condition = (no_expressions); loop = None; register = (Some (codes "r2")); vars = (no_parts); notify = ([]); changed_when = None; failed_when = None; attempts = None; ignore_errors = None }) (no_steps)))); post_tasks = (no_steps); handlers = ([]); forces = false } ∷ []))
book_674 = refl

book_675 : book_from (builtins ++ ([])) (list (item (rec (field (codes "hosts") (text (codes "all")) (field (codes "tasks") (list (item (rec (field (codes "name") (text (codes "task 0")) (field (codes "set_fact") (rec (field (codes "s2") (list (no_items)) (no_fields))) (no_fields)))) (no_items))) (no_fields)))) (no_items))) ≡ Ok ((record { line = 1; pattern = ((codes "all") ∷ []); gathering = None; vars = (no_parts); is_linear = true; serial = ([]); pre_tasks = (no_steps); tasks = (task_step (record { line = 2; work = (set_fact_work (part (codes "s2") (literal (list (no_items))) (no_parts))); condition = (no_expressions); loop = None; register = None; vars = (no_parts); notify = ([]); changed_when = None; failed_when = None; attempts = None; ignore_errors = None }) (no_steps)); post_tasks = (no_steps); handlers = ([]); forces = false } ∷ []))
book_675 = refl

book_676 : book_from (builtins ++ ([])) (list (item (rec (field (codes "hosts") (text (codes "all")) (field (codes "tasks") (list (item (rec (field (codes "name") (text (codes "task 0")) (field (codes "set_fact") (rec (field (codes "s3") (rec (field (codes "f") (boolean true) (no_fields))) (no_fields))) (field (codes "when") (text (codes "r1.failed")) (no_fields))))) (no_items))) (no_fields)))) (no_items))) ≡ Ok ((record { line = 1; pattern = ((codes "all") ∷ []); gathering = None; vars = (no_parts); is_linear = true; serial = ([]); pre_tasks = (no_steps); tasks = (task_step (record { line = 2; work = (set_fact_work (part (codes "s3") (literal (rec (field (codes "f") (boolean true) (no_fields)))) (no_parts))); condition = (expression (path (variable (codes "r1")) ((codes "failed") ∷ [])) (no_expressions)); loop = None; register = None; vars = (no_parts); notify = ([]); changed_when = None; failed_when = None; attempts = None; ignore_errors = None }) (no_steps)); post_tasks = (no_steps); handlers = ([]); forces = false } ∷ []))
book_676 = refl

book_677 : book_from (builtins ++ ([])) (list (item (rec (field (codes "hosts") (text (codes "all")) (field (codes "tasks") (list (item (rec (field (codes "name") (text (codes "x")) (no_fields))) (no_items))) (no_fields)))) (no_items))) ≡ Err (record { line = 2; code = 5 })
book_677 = refl

book_678 : book_from (builtins ++ ([])) (list (item (rec (field (codes "hosts") (text (codes "all")) (field (codes "tasks") (list (item (rec (field (codes "no_log") null (field (codes "ping") null (no_fields)))) (no_items))) (no_fields)))) (no_items))) ≡ Err (record { line = 2; code = 3 })
book_678 = refl

book_679 : book_from (builtins ++ ([])) (list (item (rec (field (codes "hosts") (text (codes "all")) (field (codes "tasks") (list (item (rec (field (codes "nope") (rec (field (codes "a") (text (123 ∷ 123 ∷ [])) (no_fields))) (no_fields))) (no_items))) (no_fields)))) (no_items))) ≡ Err (record { line = 2; code = 6 })
book_679 = refl
