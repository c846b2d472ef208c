-- The books of cases as they are read, computed.
use Rattle.std.specs.Prelude.{◌≡◌, refl, pos, [], ◌∷◌, ◌++◌, true, false, Some, None, Ok, Err, codes}
use Rattle.pb_semantics.specs.Data.{null, boolean, int, text, list, rec, no_items, item, no_fields, field}
use Rattle.pb_language.specs.Expression.{equal, item_host, group_member, literal, path, negation, comparison, membership, value_or, length_of, joined_by, concatenation, list_of, variable, other, member, no_expressions, expression, no_parts, part}
use Rattle.pb_language.specs.Book.{module_work, debug_work, no_steps, task_step}
use Rattle.pb_language.specs.BookForm.{book_from}
use Rattle.pb_language.specs.Builtins.{builtins}

book_400 : book_from (builtins ++ ([])) (list (item (rec (field (codes "hosts") (text (codes "all")) (field (codes "tasks") (list (item (rec (field (codes "command") (text (codes "x")) (field (codes "register") (text (codes "out")) (no_fields)))) (item (rec (field (codes "debug") (rec (field (codes "msg") (text (123 ∷ 123 ∷ 32 ∷ 49 ∷ 32 ∷ 125 ∷ [])) (no_fields))) (no_fields))) (no_items)))) (no_fields)))) (no_items))) ≡ Err (record { line = 3; code = 7 })
book_400 = refl

book_401 : book_from (builtins ++ ([])) (list (item (rec (field (codes "hosts") (text (codes "all")) (field (codes "tasks") (list (item (rec (field (codes "command") (text (codes "x")) (field (codes "register") (text (codes "out")) (no_fields)))) (item (rec (field (codes "debug") (rec (field (codes "msg") (text (123 ∷ 123 ∷ 32 ∷ 49 ∷ 32 ∷ 37 ∷ 125 ∷ [])) (no_fields))) (no_fields))) (no_items)))) (no_fields)))) (no_items))) ≡ Err (record { line = 3; code = 7 })
book_401 = refl

book_402 : book_from (builtins ++ ([])) (list (item (rec (field (codes "hosts") (text (codes "all")) (field (codes "tasks") (list (item (rec (field (codes "command") (text (codes "x")) (field (codes "register") (text (codes "out")) (no_fields)))) (item (rec (field (codes "debug") (rec (field (codes "msg") (text (123 ∷ 123 ∷ 32 ∷ 91 ∷ 110 ∷ 111 ∷ 116 ∷ 32 ∷ 49 ∷ 44 ∷ 32 ∷ 122 ∷ 122 ∷ 93 ∷ 32 ∷ 125 ∷ 125 ∷ [])) (no_fields))) (no_fields))) (no_items)))) (no_fields)))) (no_items))) ≡ Ok ((record { line = 1; pattern = ((codes "all") ∷ []); gathering = None; vars = (no_parts); is_linear = true; serial = ([]); pre_tasks = (no_steps); tasks = (task_step (record { line = 2; work = (module_work (codes "command") (part (codes "cmd") (literal (text (codes "x"))) (no_parts))); condition = (no_expressions); loop = None; register = (Some (codes "out")); vars = (no_parts); notify = ([]); changed_when = None; failed_when = None; attempts = None; ignore_errors = None }) (task_step (record { line = 3; work = (debug_work (part (codes "msg") (list_of (expression (negation (literal (int (pos 1)))) (expression (path (variable (codes "zz")) ([])) (no_expressions)))) (no_parts))); condition = (no_expressions); loop = None; register = None; vars = (no_parts); notify = ([]); changed_when = None; failed_when = None; attempts = None; ignore_errors = None }) (no_steps))); post_tasks = (no_steps); handlers = ([]); forces = false } ∷ []))
book_402 = refl

book_403 : book_from (builtins ++ ([])) (list (item (rec (field (codes "hosts") (text (codes "all")) (field (codes "tasks") (list (item (rec (field (codes "command") (text (codes "x")) (field (codes "register") (text (codes "out")) (no_fields)))) (item (rec (field (codes "debug") (rec (field (codes "msg") (text (123 ∷ 123 ∷ 32 ∷ 91 ∷ 49 ∷ 93 ∷ 32 ∷ 124 ∷ 32 ∷ 106 ∷ 111 ∷ 105 ∷ 110 ∷ 40 ∷ 122 ∷ 122 ∷ 41 ∷ 32 ∷ 125 ∷ 125 ∷ [])) (no_fields))) (no_fields))) (no_items)))) (no_fields)))) (no_items))) ≡ Ok ((record { line = 1; pattern = ((codes "all") ∷ []); gathering = None; vars = (no_parts); is_linear = true; serial = ([]); pre_tasks = (no_steps); tasks = (task_step (record { line = 2; work = (module_work (codes "command") (part (codes "cmd") (literal (text (codes "x"))) (no_parts))); condition = (no_expressions); loop = None; register = (Some (codes "out")); vars = (no_parts); notify = ([]); changed_when = None; failed_when = None; attempts = None; ignore_errors = None }) (task_step (record { line = 3; work = (debug_work (part (codes "msg") (joined_by (list_of (expression (literal (int (pos 1))) (no_expressions))) (path (variable (codes "zz")) ([]))) (no_parts))); condition = (no_expressions); loop = None; register = None; vars = (no_parts); notify = ([]); changed_when = None; failed_when = None; attempts = None; ignore_errors = None }) (no_steps))); post_tasks = (no_steps); handlers = ([]); forces = false } ∷ []))
book_403 = refl

book_404 : book_from (builtins ++ ([])) (list (item (rec (field (codes "hosts") (text (codes "all")) (field (codes "tasks") (list (item (rec (field (codes "command") (text (codes "x")) (field (codes "register") (text (codes "out")) (no_fields)))) (item (rec (field (codes "debug") (rec (field (codes "msg") (text (123 ∷ 123 ∷ 32 ∷ 91 ∷ 49 ∷ 93 ∷ 32 ∷ 125 ∷ 125 ∷ 32 ∷ 123 ∷ 123 ∷ 32 ∷ 122 ∷ 122 ∷ 32 ∷ 125 ∷ 125 ∷ [])) (no_fields))) (no_fields))) (no_items)))) (no_fields)))) (no_items))) ≡ Ok ((record { line = 1; pattern = ((codes "all") ∷ []); gathering = None; vars = (no_parts); is_linear = true; serial = ([]); pre_tasks = (no_steps); tasks = (task_step (record { line = 2; work = (module_work (codes "command") (part (codes "cmd") (literal (text (codes "x"))) (no_parts))); condition = (no_expressions); loop = None; register = (Some (codes "out")); vars = (no_parts); notify = ([]); changed_when = None; failed_when = None; attempts = None; ignore_errors = None }) (task_step (record { line = 3; work = (debug_work (part (codes "msg") (concatenation (expression (list_of (expression (literal (int (pos 1))) (no_expressions))) (expression (literal (text (codes " "))) (expression (path (variable (codes "zz")) ([])) (no_expressions))))) (no_parts))); condition = (no_expressions); loop = None; register = None; vars = (no_parts); notify = ([]); changed_when = None; failed_when = None; attempts = None; ignore_errors = None }) (no_steps))); post_tasks = (no_steps); handlers = ([]); forces = false } ∷ []))
book_404 = refl

book_405 : book_from (builtins ++ ([])) (list (item (rec (field (codes "hosts") (text (codes "all")) (field (codes "tasks") (list (item (rec (field (codes "command") (text (codes "x")) (field (codes "register") (text (codes "out")) (no_fields)))) (item (rec (field (codes "debug") (rec (field (codes "msg") (text (123 ∷ 123 ∷ 32 ∷ 91 ∷ 49 ∷ 93 ∷ 32 ∷ 125 ∷ 125 ∷ [])) (no_fields))) (no_fields))) (no_items)))) (no_fields)))) (no_items))) ≡ Ok ((record { line = 1; pattern = ((codes "all") ∷ []); gathering = None; vars = (no_parts); is_linear = true; serial = ([]); pre_tasks = (no_steps); tasks = (task_step (record { line = 2; work = (module_work (codes "command") (part (codes "cmd") (literal (text (codes "x"))) (no_parts))); condition = (no_expressions); loop = None; register = (Some (codes "out")); vars = (no_parts); notify = ([]); changed_when = None; failed_when = None; attempts = None; ignore_errors = None }) (task_step (record { line = 3; work = (debug_work (part (codes "msg") (list_of (expression (literal (int (pos 1))) (no_expressions))) (no_parts))); condition = (no_expressions); loop = None; register = None; vars = (no_parts); notify = ([]); changed_when = None; failed_when = None; attempts = None; ignore_errors = None }) (no_steps))); post_tasks = (no_steps); handlers = ([]); forces = false } ∷ []))
book_405 = refl

book_406 : book_from (builtins ++ ([])) (list (item (rec (field (codes "hosts") (text (codes "all")) (field (codes "tasks") (list (item (rec (field (codes "command") (text (codes "x")) (field (codes "register") (text (codes "out")) (no_fields)))) (item (rec (field (codes "debug") (rec (field (codes "msg") (text (123 ∷ 123 ∷ 49 ∷ 125 ∷ 125 ∷ [])) (no_fields))) (no_fields))) (no_items)))) (no_fields)))) (no_items))) ≡ Ok ((record { line = 1; pattern = ((codes "all") ∷ []); gathering = None; vars = (no_parts); is_linear = true; serial = ([]); pre_tasks = (no_steps); tasks = (task_step (record { line = 2; work = (module_work (codes "command") (part (codes "cmd") (literal (text (codes "x"))) (no_parts))); condition = (no_expressions); loop = None; register = (Some (codes "out")); vars = (no_parts); notify = ([]); changed_when = None; failed_when = None; attempts = None; ignore_errors = None }) (task_step (record { line = 3; work = (debug_work (part (codes "msg") (literal (int (pos 1))) (no_parts))); condition = (no_expressions); loop = None; register = None; vars = (no_parts); notify = ([]); changed_when = None; failed_when = None; attempts = None; ignore_errors = None }) (no_steps))); post_tasks = (no_steps); handlers = ([]); forces = false } ∷ []))
book_406 = refl

book_407 : book_from (builtins ++ ([])) (list (item (rec (field (codes "hosts") (text (codes "all")) (field (codes "tasks") (list (item (rec (field (codes "command") (text (codes "x")) (field (codes "register") (text (codes "out")) (no_fields)))) (item (rec (field (codes "debug") (rec (field (codes "msg") (text (123 ∷ 32 ∷ 123 ∷ 49 ∷ 125 ∷ 32 ∷ 125 ∷ [])) (no_fields))) (no_fields))) (no_items)))) (no_fields)))) (no_items))) ≡ Ok ((record { line = 1; pattern = ((codes "all") ∷ []); gathering = None; vars = (no_parts); is_linear = true; serial = ([]); pre_tasks = (no_steps); tasks = (task_step (record { line = 2; work = (module_work (codes "command") (part (codes "cmd") (literal (text (codes "x"))) (no_parts))); condition = (no_expressions); loop = None; register = (Some (codes "out")); vars = (no_parts); notify = ([]); changed_when = None; failed_when = None; attempts = None; ignore_errors = None }) (task_step (record { line = 3; work = (debug_work (part (codes "msg") (literal (text (123 ∷ 32 ∷ 123 ∷ 49 ∷ 125 ∷ 32 ∷ 125 ∷ []))) (no_parts))); condition = (no_expressions); loop = None; register = None; vars = (no_parts); notify = ([]); changed_when = None; failed_when = None; attempts = None; ignore_errors = None }) (no_steps))); post_tasks = (no_steps); handlers = ([]); forces = false } ∷ []))
book_407 = refl

book_408 : book_from (builtins ++ ([])) (list (item (rec (field (codes "hosts") (text (codes "all")) (field (codes "tasks") (list (item (rec (field (codes "command") (text (codes "x")) (field (codes "register") (text (codes "out")) (no_fields)))) (item (rec (field (codes "debug") (rec (field (codes "msg") (text (123 ∷ 32 ∷ 37 ∷ [])) (no_fields))) (no_fields))) (no_items)))) (no_fields)))) (no_items))) ≡ Ok ((record { line = 1; pattern = ((codes "all") ∷ []); gathering = None; vars = (no_parts); is_linear = true; serial = ([]); pre_tasks = (no_steps); tasks = (task_step (record { line = 2; work = (module_work (codes "command") (part (codes "cmd") (literal (text (codes "x"))) (no_parts))); condition = (no_expressions); loop = None; register = (Some (codes "out")); vars = (no_parts); notify = ([]); changed_when = None; failed_when = None; attempts = None; ignore_errors = None }) (task_step (record { line = 3; work = (debug_work (part (codes "msg") (literal (text (123 ∷ 32 ∷ 37 ∷ []))) (no_parts))); condition = (no_expressions); loop = None; register = None; vars = (no_parts); notify = ([]); changed_when = None; failed_when = None; attempts = None; ignore_errors = None }) (no_steps))); post_tasks = (no_steps); handlers = ([]); forces = false } ∷ []))
book_408 = refl

book_409 : book_from (builtins ++ ([])) (list (item (rec (field (codes "hosts") (text (codes "all")) (field (codes "tasks") (list (item (rec (field (codes "command") (text (codes "x")) (field (codes "register") (text (codes "out")) (no_fields)))) (item (rec (field (codes "debug") (rec (field (codes "msg") (text (123 ∷ 37 ∷ 32 ∷ 105 ∷ 102 ∷ 32 ∷ 120 ∷ 32 ∷ 37 ∷ 125 ∷ [])) (no_fields))) (no_fields))) (no_items)))) (no_fields)))) (no_items))) ≡ Err (record { line = 3; code = 7 })
book_409 = refl

book_410 : book_from (builtins ++ ([])) (list (item (rec (field (codes "hosts") (text (codes "all")) (field (codes "tasks") (list (item (rec (field (codes "command") (text (codes "x")) (field (codes "register") (text (codes "out")) (no_fields)))) (item (rec (field (codes "debug") (rec (field (codes "msg") (text (123 ∷ 37 ∷ 32 ∷ 123 ∷ 123 ∷ 32 ∷ 49 ∷ 32 ∷ 125 ∷ 125 ∷ [])) (no_fields))) (no_fields))) (no_items)))) (no_fields)))) (no_items))) ≡ Err (record { line = 3; code = 7 })
book_410 = refl

book_411 : book_from (builtins ++ ([])) (list (item (rec (field (codes "hosts") (text (codes "all")) (field (codes "tasks") (list (item (rec (field (codes "command") (text (codes "x")) (field (codes "register") (text (codes "out")) (no_fields)))) (item (rec (field (codes "debug") (rec (field (codes "msg") (text (123 ∷ 37 ∷ [])) (no_fields))) (no_fields))) (no_items)))) (no_fields)))) (no_items))) ≡ Err (record { line = 3; code = 7 })
book_411 = refl

book_412 : book_from (builtins ++ ([])) (list (item (rec (field (codes "hosts") (text (codes "all")) (field (codes "tasks") (list (item (rec (field (codes "command") (text (codes "x")) (field (codes "register") (text (codes "out")) (no_fields)))) (item (rec (field (codes "debug") (rec (field (codes "msg") (text (125 ∷ 125 ∷ 32 ∷ 123 ∷ 123 ∷ 32 ∷ 49 ∷ 32 ∷ 125 ∷ 125 ∷ [])) (no_fields))) (no_fields))) (no_items)))) (no_fields)))) (no_items))) ≡ Ok ((record { line = 1; pattern = ((codes "all") ∷ []); gathering = None; vars = (no_parts); is_linear = true; serial = ([]); pre_tasks = (no_steps); tasks = (task_step (record { line = 2; work = (module_work (codes "command") (part (codes "cmd") (literal (text (codes "x"))) (no_parts))); condition = (no_expressions); loop = None; register = (Some (codes "out")); vars = (no_parts); notify = ([]); changed_when = None; failed_when = None; attempts = None; ignore_errors = None }) (task_step (record { line = 3; work = (debug_work (part (codes "msg") (concatenation (expression (literal (text (125 ∷ 125 ∷ 32 ∷ []))) (expression (literal (int (pos 1))) (no_expressions)))) (no_parts))); condition = (no_expressions); loop = None; register = None; vars = (no_parts); notify = ([]); changed_when = None; failed_when = None; attempts = None; ignore_errors = None }) (no_steps))); post_tasks = (no_steps); handlers = ([]); forces = false } ∷ []))
book_412 = refl

book_413 : book_from (builtins ++ ([])) (list (item (rec (field (codes "hosts") (text (codes "all")) (field (codes "tasks") (list (item (rec (field (codes "command") (text (codes "x")) (field (codes "register") (text (codes "out")) (no_fields)))) (item (rec (field (codes "debug") (rec (field (codes "msg") (text (32 ∷ 123 ∷ 123 ∷ 32 ∷ 49 ∷ 32 ∷ 125 ∷ 125 ∷ [])) (no_fields))) (no_fields))) (no_items)))) (no_fields)))) (no_items))) ≡ Ok ((record { line = 1; pattern = ((codes "all") ∷ []); gathering = None; vars = (no_parts); is_linear = true; serial = ([]); pre_tasks = (no_steps); tasks = (task_step (record { line = 2; work = (module_work (codes "command") (part (codes "cmd") (literal (text (codes "x"))) (no_parts))); condition = (no_expressions); loop = None; register = (Some (codes "out")); vars = (no_parts); notify = ([]); changed_when = None; failed_when = None; attempts = None; ignore_errors = None }) (task_step (record { line = 3; work = (debug_work (part (codes "msg") (concatenation (expression (literal (text (codes " "))) (expression (literal (int (pos 1))) (no_expressions)))) (no_parts))); condition = (no_expressions); loop = None; register = None; vars = (no_parts); notify = ([]); changed_when = None; failed_when = None; attempts = None; ignore_errors = None }) (no_steps))); post_tasks = (no_steps); handlers = ([]); forces = false } ∷ []))
book_413 = refl

book_414 : book_from (builtins ++ ([])) (list (item (rec (field (codes "hosts") (text (codes "all")) (field (codes "tasks") (list (item (rec (field (codes "command") (text (codes "x")) (field (codes "register") (text (codes "out")) (no_fields)))) (item (rec (field (codes "debug") (rec (field (codes "msg") (text (97 ∷ 123 ∷ 98 ∷ 125 ∷ 99 ∷ [])) (no_fields))) (no_fields))) (no_items)))) (no_fields)))) (no_items))) ≡ Ok ((record { line = 1; pattern = ((codes "all") ∷ []); gathering = None; vars = (no_parts); is_linear = true; serial = ([]); pre_tasks = (no_steps); tasks = (task_step (record { line = 2; work = (module_work (codes "command") (part (codes "cmd") (literal (text (codes "x"))) (no_parts))); condition = (no_expressions); loop = None; register = (Some (codes "out")); vars = (no_parts); notify = ([]); changed_when = None; failed_when = None; attempts = None; ignore_errors = None }) (task_step (record { line = 3; work = (debug_work (part (codes "msg") (literal (text (97 ∷ 123 ∷ 98 ∷ 125 ∷ 99 ∷ []))) (no_parts))); condition = (no_expressions); loop = None; register = None; vars = (no_parts); notify = ([]); changed_when = None; failed_when = None; attempts = None; ignore_errors = None }) (no_steps))); post_tasks = (no_steps); handlers = ([]); forces = false } ∷ []))
book_414 = refl

book_415 : book_from (builtins ++ ([])) (list (item (rec (field (codes "hosts") (text (codes "all")) (field (codes "tasks") (list (item (rec (field (codes "command") (text (codes "x")) (field (codes "register") (text (codes "out")) (no_fields)))) (item (rec (field (codes "debug") (rec (field (codes "msg") (text ([])) (no_fields))) (no_fields))) (no_items)))) (no_fields)))) (no_items))) ≡ Ok ((record { line = 1; pattern = ((codes "all") ∷ []); gathering = None; vars = (no_parts); is_linear = true; serial = ([]); pre_tasks = (no_steps); tasks = (task_step (record { line = 2; work = (module_work (codes "command") (part (codes "cmd") (literal (text (codes "x"))) (no_parts))); condition = (no_expressions); loop = None; register = (Some (codes "out")); vars = (no_parts); notify = ([]); changed_when = None; failed_when = None; attempts = None; ignore_errors = None }) (task_step (record { line = 3; work = (debug_work (part (codes "msg") (literal (text ([]))) (no_parts))); condition = (no_expressions); loop = None; register = None; vars = (no_parts); notify = ([]); changed_when = None; failed_when = None; attempts = None; ignore_errors = None }) (no_steps))); post_tasks = (no_steps); handlers = ([]); forces = false } ∷ []))
book_415 = refl

book_416 : book_from (builtins ++ ([])) (list (item (rec (field (codes "hosts") (text (codes "all")) (field (codes "tasks") (list (item (rec (field (codes "command") (text (codes "x")) (field (codes "register") (text (codes "out")) (no_fields)))) (item (rec (field (codes "ping") null (field (codes "when") (text (103 ∷ 114 ∷ 111 ∷ 117 ∷ 112 ∷ 115 ∷ 46 ∷ 97 ∷ 108 ∷ 108 ∷ 91 ∷ 45 ∷ 49 ∷ 93 ∷ [])) (no_fields)))) (no_items)))) (no_fields)))) (no_items))) ≡ Err (record { line = 3; code = 7 })
book_416 = refl

book_417 : book_from (builtins ++ ([])) (list (item (rec (field (codes "hosts") (text (codes "all")) (field (codes "tasks") (list (item (rec (field (codes "command") (text (codes "x")) (field (codes "register") (text (codes "out")) (no_fields)))) (item (rec (field (codes "ping") null (field (codes "when") (text (103 ∷ 114 ∷ 111 ∷ 117 ∷ 112 ∷ 115 ∷ 46 ∷ 97 ∷ 108 ∷ 108 ∷ 91 ∷ 48 ∷ 93 ∷ 46 ∷ 120 ∷ [])) (no_fields)))) (no_items)))) (no_fields)))) (no_items))) ≡ Err (record { line = 3; code = 7 })
book_417 = refl

book_418 : book_from (builtins ++ ([])) (list (item (rec (field (codes "hosts") (text (codes "all")) (field (codes "tasks") (list (item (rec (field (codes "command") (text (codes "x")) (field (codes "register") (text (codes "out")) (no_fields)))) (item (rec (field (codes "ping") null (field (codes "when") (text (103 ∷ 114 ∷ 111 ∷ 117 ∷ 112 ∷ 115 ∷ 46 ∷ 97 ∷ 108 ∷ 108 ∷ 91 ∷ 48 ∷ 93 ∷ [])) (no_fields)))) (no_items)))) (no_fields)))) (no_items))) ≡ Ok ((record { line = 1; pattern = ((codes "all") ∷ []); gathering = None; vars = (no_parts); is_linear = true; serial = ([]); pre_tasks = (no_steps); tasks = (task_step (record { line = 2; work = (module_work (codes "command") (part (codes "cmd") (literal (text (codes "x"))) (no_parts))); condition = (no_expressions); loop = None; register = (Some (codes "out")); vars = (no_parts); notify = ([]); changed_when = None; failed_when = None; attempts = None; ignore_errors = None }) (task_step (record { line = 3; work = (module_work (codes "ping") (no_parts)); condition = (expression (path (member (codes "all") 0) ([])) (no_expressions)); loop = None; register = None; vars = (no_parts); notify = ([]); changed_when = None; failed_when = None; attempts = None; ignore_errors = None }) (no_steps))); post_tasks = (no_steps); handlers = ([]); forces = false } ∷ []))
book_418 = refl

book_419 : book_from (builtins ++ ([])) (list (item (rec (field (codes "hosts") (text (codes "all")) (field (codes "tasks") (list (item (rec (field (codes "command") (text (codes "x")) (field (codes "register") (text (codes "out")) (no_fields)))) (item (rec (field (codes "ping") null (field (codes "when") (text (103 ∷ 114 ∷ 111 ∷ 117 ∷ 112 ∷ 115 ∷ 46 ∷ 97 ∷ 108 ∷ 108 ∷ 91 ∷ 49 ∷ 93 ∷ [])) (no_fields)))) (no_items)))) (no_fields)))) (no_items))) ≡ Ok ((record { line = 1; pattern = ((codes "all") ∷ []); gathering = None; vars = (no_parts); is_linear = true; serial = ([]); pre_tasks = (no_steps); tasks = (task_step (record { line = 2; work = (module_work (codes "command") (part (codes "cmd") (literal (text (codes "x"))) (no_parts))); condition = (no_expressions); loop = None; register = (Some (codes "out")); vars = (no_parts); notify = ([]); changed_when = None; failed_when = None; attempts = None; ignore_errors = None }) (task_step (record { line = 3; work = (module_work (codes "ping") (no_parts)); condition = (expression (path (member (codes "all") 1) ([])) (no_expressions)); loop = None; register = None; vars = (no_parts); notify = ([]); changed_when = None; failed_when = None; attempts = None; ignore_errors = None }) (no_steps))); post_tasks = (no_steps); handlers = ([]); forces = false } ∷ []))
book_419 = refl

book_420 : book_from (builtins ++ ([])) (list (item (rec (field (codes "hosts") (text (codes "all")) (field (codes "tasks") (list (item (rec (field (codes "command") (text (codes "x")) (field (codes "register") (text (codes "out")) (no_fields)))) (item (rec (field (codes "ping") null (field (codes "when") (text (103 ∷ 114 ∷ 111 ∷ 117 ∷ 112 ∷ 115 ∷ 46 ∷ 97 ∷ 108 ∷ 108 ∷ 91 ∷ 57 ∷ 57 ∷ 57 ∷ 57 ∷ 57 ∷ 57 ∷ 57 ∷ 57 ∷ 57 ∷ 57 ∷ 57 ∷ 57 ∷ 57 ∷ 57 ∷ 57 ∷ 57 ∷ 57 ∷ 57 ∷ 57 ∷ 57 ∷ 93 ∷ [])) (no_fields)))) (no_items)))) (no_fields)))) (no_items))) ≡ Ok ((record { line = 1; pattern = ((codes "all") ∷ []); gathering = None; vars = (no_parts); is_linear = true; serial = ([]); pre_tasks = (no_steps); tasks = (task_step (record { line = 2; work = (module_work (codes "command") (part (codes "cmd") (literal (text (codes "x"))) (no_parts))); condition = (no_expressions); loop = None; register = (Some (codes "out")); vars = (no_parts); notify = ([]); changed_when = None; failed_when = None; attempts = None; ignore_errors = None }) (task_step (record { line = 3; work = (module_work (codes "ping") (no_parts)); condition = (expression (path (member (codes "all") 1024) ([])) (no_expressions)); loop = None; register = None; vars = (no_parts); notify = ([]); changed_when = None; failed_when = None; attempts = None; ignore_errors = None }) (no_steps))); post_tasks = (no_steps); handlers = ([]); forces = false } ∷ []))
book_420 = refl

book_421 : book_from (builtins ++ ([])) (list (item (rec (field (codes "hosts") (text (codes "all")) (field (codes "tasks") (list (item (rec (field (codes "command") (text (codes "x")) (field (codes "register") (text (codes "out")) (no_fields)))) (item (rec (field (codes "ping") null (field (codes "when") (text (104 ∷ 111 ∷ 115 ∷ 116 ∷ 118 ∷ 97 ∷ 114 ∷ 115 ∷ 91 ∷ 103 ∷ 114 ∷ 111 ∷ 117 ∷ 112 ∷ 115 ∷ 46 ∷ 97 ∷ 108 ∷ 108 ∷ 91 ∷ 48 ∷ 93 ∷ 93 ∷ 46 ∷ 105 ∷ 110 ∷ 118 ∷ [])) (no_fields)))) (no_items)))) (no_fields)))) (no_items))) ≡ Ok ((record { line = 1; pattern = ((codes "all") ∷ []); gathering = None; vars = (no_parts); is_linear = true; serial = ([]); pre_tasks = (no_steps); tasks = (task_step (record { line = 2; work = (module_work (codes "command") (part (codes "cmd") (literal (text (codes "x"))) (no_parts))); condition = (no_expressions); loop = None; register = (Some (codes "out")); vars = (no_parts); notify = ([]); changed_when = None; failed_when = None; attempts = None; ignore_errors = None }) (task_step (record { line = 3; work = (module_work (codes "ping") (no_parts)); condition = (expression (path (other (group_member (codes "all") 0) (codes "inv")) ([])) (no_expressions)); loop = None; register = None; vars = (no_parts); notify = ([]); changed_when = None; failed_when = None; attempts = None; ignore_errors = None }) (no_steps))); post_tasks = (no_steps); handlers = ([]); forces = false } ∷ []))
book_421 = refl

book_422 : book_from (builtins ++ ([])) (list (item (rec (field (codes "hosts") (text (codes "all")) (field (codes "tasks") (list (item (rec (field (codes "command") (text (codes "x")) (field (codes "register") (text (codes "out")) (no_fields)))) (item (rec (field (codes "ping") null (field (codes "when") (text (104 ∷ 111 ∷ 115 ∷ 116 ∷ 118 ∷ 97 ∷ 114 ∷ 115 ∷ 91 ∷ 103 ∷ 114 ∷ 111 ∷ 117 ∷ 112 ∷ 115 ∷ 46 ∷ 97 ∷ 108 ∷ 108 ∷ 93 ∷ 46 ∷ 120 ∷ [])) (no_fields)))) (no_items)))) (no_fields)))) (no_items))) ≡ Err (record { line = 3; code = 7 })
book_422 = refl

book_423 : book_from (builtins ++ ([])) (list (item (rec (field (codes "hosts") (text (codes "all")) (field (codes "tasks") (list (item (rec (field (codes "command") (text (codes "x")) (field (codes "register") (text (codes "out")) (no_fields)))) (item (rec (field (codes "ping") null (field (codes "when") (text (104 ∷ 111 ∷ 115 ∷ 116 ∷ 118 ∷ 97 ∷ 114 ∷ 115 ∷ 91 ∷ 105 ∷ 116 ∷ 101 ∷ 109 ∷ 93 ∷ 46 ∷ 120 ∷ [])) (no_fields)))) (no_items)))) (no_fields)))) (no_items))) ≡ Ok ((record { line = 1; pattern = ((codes "all") ∷ []); gathering = None; vars = (no_parts); is_linear = true; serial = ([]); pre_tasks = (no_steps); tasks = (task_step (record { line = 2; work = (module_work (codes "command") (part (codes "cmd") (literal (text (codes "x"))) (no_parts))); condition = (no_expressions); loop = None; register = (Some (codes "out")); vars = (no_parts); notify = ([]); changed_when = None; failed_when = None; attempts = None; ignore_errors = None }) (task_step (record { line = 3; work = (module_work (codes "ping") (no_parts)); condition = (expression (path (other item_host (codes "x")) ([])) (no_expressions)); loop = None; register = None; vars = (no_parts); notify = ([]); changed_when = None; failed_when = None; attempts = None; ignore_errors = None }) (no_steps))); post_tasks = (no_steps); handlers = ([]); forces = false } ∷ []))
book_423 = refl

book_424 : book_from (builtins ++ ([])) (list (item (rec (field (codes "hosts") (text (codes "all")) (field (codes "tasks") (list (item (rec (field (codes "command") (text (codes "x")) (field (codes "register") (text (codes "out")) (no_fields)))) (item (rec (field (codes "ping") null (field (codes "when") (text (104 ∷ 111 ∷ 115 ∷ 116 ∷ 118 ∷ 97 ∷ 114 ∷ 115 ∷ 91 ∷ 40 ∷ 105 ∷ 116 ∷ 101 ∷ 109 ∷ 41 ∷ 93 ∷ 46 ∷ 120 ∷ [])) (no_fields)))) (no_items)))) (no_fields)))) (no_items))) ≡ Err (record { line = 3; code = 7 })
book_424 = refl

book_425 : book_from (builtins ++ ([])) (list (item (rec (field (codes "hosts") (text (codes "all")) (field (codes "tasks") (list (item (rec (field (codes "command") (text (codes "x")) (field (codes "register") (text (codes "out")) (no_fields)))) (item (rec (field (codes "ping") null (field (codes "when") (text (104 ∷ 111 ∷ 115 ∷ 116 ∷ 118 ∷ 97 ∷ 114 ∷ 115 ∷ 91 ∷ 48 ∷ 93 ∷ [])) (no_fields)))) (no_items)))) (no_fields)))) (no_items))) ≡ Err (record { line = 3; code = 7 })
book_425 = refl

book_426 : book_from (builtins ++ ([])) (list (item (rec (field (codes "hosts") (text (codes "all")) (field (codes "tasks") (list (item (rec (field (codes "command") (text (codes "x")) (field (codes "register") (text (codes "out")) (no_fields)))) (item (rec (field (codes "ping") null (field (codes "when") (text (110 ∷ 111 ∷ 116 ∷ 32 ∷ 49 ∷ 32 ∷ 105 ∷ 110 ∷ 32 ∷ 91 ∷ 49 ∷ 93 ∷ [])) (no_fields)))) (no_items)))) (no_fields)))) (no_items))) ≡ Ok ((record { line = 1; pattern = ((codes "all") ∷ []); gathering = None; vars = (no_parts); is_linear = true; serial = ([]); pre_tasks = (no_steps); tasks = (task_step (record { line = 2; work = (module_work (codes "command") (part (codes "cmd") (literal (text (codes "x"))) (no_parts))); condition = (no_expressions); loop = None; register = (Some (codes "out")); vars = (no_parts); notify = ([]); changed_when = None; failed_when = None; attempts = None; ignore_errors = None }) (task_step (record { line = 3; work = (module_work (codes "ping") (no_parts)); condition = (expression (negation (membership (literal (int (pos 1))) (list_of (expression (literal (int (pos 1))) (no_expressions))))) (no_expressions)); loop = None; register = None; vars = (no_parts); notify = ([]); changed_when = None; failed_when = None; attempts = None; ignore_errors = None }) (no_steps))); post_tasks = (no_steps); handlers = ([]); forces = false } ∷ []))
book_426 = refl

book_427 : book_from (builtins ++ ([])) (list (item (rec (field (codes "hosts") (text (codes "all")) (field (codes "tasks") (list (item (rec (field (codes "command") (text (codes "x")) (field (codes "register") (text (codes "out")) (no_fields)))) (item (rec (field (codes "ping") null (field (codes "when") (text (116 ∷ 114 ∷ 117 ∷ 101 ∷ 32 ∷ 124 ∷ 32 ∷ 100 ∷ 101 ∷ 102 ∷ 97 ∷ 117 ∷ 108 ∷ 116 ∷ 40 ∷ 116 ∷ 114 ∷ 117 ∷ 101 ∷ 32 ∷ 124 ∷ 32 ∷ 100 ∷ 101 ∷ 102 ∷ 97 ∷ 117 ∷ 108 ∷ 116 ∷ 40 ∷ 116 ∷ 114 ∷ 117 ∷ 101 ∷ 32 ∷ 124 ∷ 32 ∷ 100 ∷ 101 ∷ 102 ∷ 97 ∷ 117 ∷ 108 ∷ 116 ∷ 40 ∷ 116 ∷ 114 ∷ 117 ∷ 101 ∷ 32 ∷ 124 ∷ 32 ∷ 100 ∷ 101 ∷ 102 ∷ 97 ∷ 117 ∷ 108 ∷ 116 ∷ 40 ∷ 116 ∷ 114 ∷ 117 ∷ 101 ∷ 32 ∷ 124 ∷ 32 ∷ 100 ∷ 101 ∷ 102 ∷ 97 ∷ 117 ∷ 108 ∷ 116 ∷ 40 ∷ 116 ∷ 114 ∷ 117 ∷ 101 ∷ 32 ∷ 124 ∷ 32 ∷ 100 ∷ 101 ∷ 102 ∷ 97 ∷ 117 ∷ 108 ∷ 116 ∷ 40 ∷ 116 ∷ 114 ∷ 117 ∷ 101 ∷ 32 ∷ 124 ∷ 32 ∷ 100 ∷ 101 ∷ 102 ∷ 97 ∷ 117 ∷ 108 ∷ 116 ∷ 40 ∷ 116 ∷ 114 ∷ 117 ∷ 101 ∷ 32 ∷ 124 ∷ 32 ∷ 100 ∷ 101 ∷ 102 ∷ 97 ∷ 117 ∷ 108 ∷ 116 ∷ 40 ∷ 116 ∷ 114 ∷ 117 ∷ 101 ∷ 32 ∷ 124 ∷ 32 ∷ 100 ∷ 101 ∷ 102 ∷ 97 ∷ 117 ∷ 108 ∷ 116 ∷ 40 ∷ 116 ∷ 114 ∷ 117 ∷ 101 ∷ 32 ∷ 124 ∷ 32 ∷ 100 ∷ 101 ∷ 102 ∷ 97 ∷ 117 ∷ 108 ∷ 116 ∷ 40 ∷ 116 ∷ 114 ∷ 117 ∷ 101 ∷ 32 ∷ 124 ∷ 32 ∷ 100 ∷ 101 ∷ 102 ∷ 97 ∷ 117 ∷ 108 ∷ 116 ∷ 40 ∷ 116 ∷ 114 ∷ 117 ∷ 101 ∷ 32 ∷ 124 ∷ 32 ∷ 100 ∷ 101 ∷ 102 ∷ 97 ∷ 117 ∷ 108 ∷ 116 ∷ 40 ∷ 116 ∷ 114 ∷ 117 ∷ 101 ∷ 32 ∷ 124 ∷ 32 ∷ 100 ∷ 101 ∷ 102 ∷ 97 ∷ 117 ∷ 108 ∷ 116 ∷ 40 ∷ 116 ∷ 114 ∷ 117 ∷ 101 ∷ 32 ∷ 124 ∷ 32 ∷ 100 ∷ 101 ∷ 102 ∷ 97 ∷ 117 ∷ 108 ∷ 116 ∷ 40 ∷ 116 ∷ 114 ∷ 117 ∷ 101 ∷ 32 ∷ 124 ∷ 32 ∷ 100 ∷ 101 ∷ 102 ∷ 97 ∷ 117 ∷ 108 ∷ 116 ∷ 40 ∷ 116 ∷ 114 ∷ 117 ∷ 101 ∷ 32 ∷ 124 ∷ 32 ∷ 100 ∷ 101 ∷ 102 ∷ 97 ∷ 117 ∷ 108 ∷ 116 ∷ 40 ∷ 116 ∷ 114 ∷ 117 ∷ 101 ∷ 32 ∷ 124 ∷ 32 ∷ 100 ∷ 101 ∷ 102 ∷ 97 ∷ 117 ∷ 108 ∷ 116 ∷ 40 ∷ 116 ∷ 114 ∷ 117 ∷ 101 ∷ 32 ∷ 124 ∷ 32 ∷ 100 ∷ 101 ∷ 102 ∷ 97 ∷ 117 ∷ 108 ∷ 116 ∷ 40 ∷ 116 ∷ 114 ∷ 117 ∷ 101 ∷ 32 ∷ 124 ∷ 32 ∷ 100 ∷ 101 ∷ 102 ∷ 97 ∷ 117 ∷ 108 ∷ 116 ∷ 40 ∷ 116 ∷ 114 ∷ 117 ∷ 101 ∷ 32 ∷ 124 ∷ 32 ∷ 100 ∷ 101 ∷ 102 ∷ 97 ∷ 117 ∷ 108 ∷ 116 ∷ 40 ∷ 116 ∷ 114 ∷ 117 ∷ 101 ∷ 32 ∷ 124 ∷ 32 ∷ 100 ∷ 101 ∷ 102 ∷ 97 ∷ 117 ∷ 108 ∷ 116 ∷ 40 ∷ 116 ∷ 114 ∷ 117 ∷ 101 ∷ 32 ∷ 124 ∷ 32 ∷ 100 ∷ 101 ∷ 102 ∷ 97 ∷ 117 ∷ 108 ∷ 116 ∷ 40 ∷ 116 ∷ 114 ∷ 117 ∷ 101 ∷ 32 ∷ 124 ∷ 32 ∷ 100 ∷ 101 ∷ 102 ∷ 97 ∷ 117 ∷ 108 ∷ 116 ∷ 40 ∷ 116 ∷ 114 ∷ 117 ∷ 101 ∷ 32 ∷ 124 ∷ 32 ∷ 100 ∷ 101 ∷ 102 ∷ 97 ∷ 117 ∷ 108 ∷ 116 ∷ 40 ∷ 116 ∷ 114 ∷ 117 ∷ 101 ∷ 32 ∷ 124 ∷ 32 ∷ 100 ∷ 101 ∷ 102 ∷ 97 ∷ 117 ∷ 108 ∷ 116 ∷ 40 ∷ 116 ∷ 114 ∷ 117 ∷ 101 ∷ 32 ∷ 124 ∷ 32 ∷ 100 ∷ 101 ∷ 102 ∷ 97 ∷ 117 ∷ 108 ∷ 116 ∷ 40 ∷ 116 ∷ 114 ∷ 117 ∷ 101 ∷ 32 ∷ 124 ∷ 32 ∷ 100 ∷ 101 ∷ 102 ∷ 97 ∷ 117 ∷ 108 ∷ 116 ∷ 40 ∷ 116 ∷ 114 ∷ 117 ∷ 101 ∷ 32 ∷ 124 ∷ 32 ∷ 100 ∷ 101 ∷ 102 ∷ 97 ∷ 117 ∷ 108 ∷ 116 ∷ 40 ∷ 116 ∷ 114 ∷ 117 ∷ 101 ∷ 32 ∷ 124 ∷ 32 ∷ 100 ∷ 101 ∷ 102 ∷ 97 ∷ 117 ∷ 108 ∷ 116 ∷ 40 ∷ 116 ∷ 114 ∷ 117 ∷ 101 ∷ 32 ∷ 124 ∷ 32 ∷ 100 ∷ 101 ∷ 102 ∷ 97 ∷ 117 ∷ 108 ∷ 116 ∷ 40 ∷ 116 ∷ 114 ∷ 117 ∷ 101 ∷ 32 ∷ 124 ∷ 32 ∷ 100 ∷ 101 ∷ 102 ∷ 97 ∷ 117 ∷ 108 ∷ 116 ∷ 40 ∷ 116 ∷ 114 ∷ 117 ∷ 101 ∷ 32 ∷ 124 ∷ 32 ∷ 100 ∷ 101 ∷ 102 ∷ 97 ∷ 117 ∷ 108 ∷ 116 ∷ 40 ∷ 116 ∷ 114 ∷ 117 ∷ 101 ∷ 41 ∷ 41 ∷ 41 ∷ 41 ∷ 41 ∷ 41 ∷ 41 ∷ 41 ∷ 41 ∷ 41 ∷ 41 ∷ 41 ∷ 41 ∷ 41 ∷ 41 ∷ 41 ∷ 41 ∷ 41 ∷ 41 ∷ 41 ∷ 41 ∷ 41 ∷ 41 ∷ 41 ∷ 41 ∷ 41 ∷ 41 ∷ 41 ∷ 41 ∷ 41 ∷ 41 ∷ 41 ∷ [])) (no_fields)))) (no_items)))) (no_fields)))) (no_items))) ≡ Ok ((record { line = 1; pattern = ((codes "all") ∷ []); gathering = None; vars = (no_parts); is_linear = true; serial = ([]); pre_tasks = (no_steps); tasks = (task_step (record { line = 2; work = (module_work (codes "command") (part (codes "cmd") (literal (text (codes "x"))) (no_parts))); condition = (no_expressions); loop = None; register = (Some (codes "out")); vars = (no_parts); notify = ([]); changed_when = None; failed_when = None; attempts = None; ignore_errors = None }) (task_step (record { line = 3; work = (module_work (codes "ping") (no_parts)); condition = (expression (value_or (literal (boolean true)) (value_or (literal (boolean true)) (value_or (literal (boolean true)) (value_or (literal (boolean true)) (value_or (literal (boolean true)) (value_or (literal (boolean true)) (value_or (literal (boolean true)) (value_or (literal (boolean true)) (value_or (literal (boolean true)) (value_or (literal (boolean true)) (value_or (literal (boolean true)) (value_or (literal (boolean true)) (value_or (literal (boolean true)) (value_or (literal (boolean true)) (value_or (literal (boolean true)) (value_or (literal (boolean true)) (value_or (literal (boolean true)) (value_or (literal (boolean true)) (value_or (literal (boolean true)) (value_or (literal (boolean true)) (value_or (literal (boolean true)) (value_or (literal (boolean true)) (value_or (literal (boolean true)) (value_or (literal (boolean true)) (value_or (literal (boolean true)) (value_or (literal (boolean true)) (value_or (literal (boolean true)) (value_or (literal (boolean true)) (value_or (literal (boolean true)) (value_or (literal (boolean true)) (value_or (literal (boolean true)) (value_or (literal (boolean true)) (literal (boolean true)))))))))))))))))))))))))))))))))) (no_expressions)); loop = None; register = None; vars = (no_parts); notify = ([]); changed_when = None; failed_when = None; attempts = None; ignore_errors = None }) (no_steps))); post_tasks = (no_steps); handlers = ([]); forces = false } ∷ []))
book_427 = refl

book_428 : book_from (builtins ++ ([])) (list (item (rec (field (codes "hosts") (text (codes "all")) (field (codes "tasks") (list (item (rec (field (codes "command") (text (codes "x")) (field (codes "register") (text (codes "out")) (no_fields)))) (item (rec (field (codes "ping") null (field (codes "when") (text (116 ∷ 114 ∷ 117 ∷ 101 ∷ 32 ∷ 124 ∷ 32 ∷ 100 ∷ 101 ∷ 102 ∷ 97 ∷ 117 ∷ 108 ∷ 116 ∷ 40 ∷ 116 ∷ 114 ∷ 117 ∷ 101 ∷ 41 ∷ 32 ∷ 124 ∷ 32 ∷ 100 ∷ 101 ∷ 102 ∷ 97 ∷ 117 ∷ 108 ∷ 116 ∷ 40 ∷ 116 ∷ 114 ∷ 117 ∷ 101 ∷ 41 ∷ 32 ∷ 124 ∷ 32 ∷ 100 ∷ 101 ∷ 102 ∷ 97 ∷ 117 ∷ 108 ∷ 116 ∷ 40 ∷ 116 ∷ 114 ∷ 117 ∷ 101 ∷ 41 ∷ 32 ∷ 124 ∷ 32 ∷ 100 ∷ 101 ∷ 102 ∷ 97 ∷ 117 ∷ 108 ∷ 116 ∷ 40 ∷ 116 ∷ 114 ∷ 117 ∷ 101 ∷ 41 ∷ 32 ∷ 124 ∷ 32 ∷ 100 ∷ 101 ∷ 102 ∷ 97 ∷ 117 ∷ 108 ∷ 116 ∷ 40 ∷ 116 ∷ 114 ∷ 117 ∷ 101 ∷ 41 ∷ 32 ∷ 124 ∷ 32 ∷ 100 ∷ 101 ∷ 102 ∷ 97 ∷ 117 ∷ 108 ∷ 116 ∷ 40 ∷ 116 ∷ 114 ∷ 117 ∷ 101 ∷ 41 ∷ 32 ∷ 124 ∷ 32 ∷ 100 ∷ 101 ∷ 102 ∷ 97 ∷ 117 ∷ 108 ∷ 116 ∷ 40 ∷ 116 ∷ 114 ∷ 117 ∷ 101 ∷ 41 ∷ 32 ∷ 124 ∷ 32 ∷ 100 ∷ 101 ∷ 102 ∷ 97 ∷ 117 ∷ 108 ∷ 116 ∷ 40 ∷ 116 ∷ 114 ∷ 117 ∷ 101 ∷ 41 ∷ 32 ∷ 124 ∷ 32 ∷ 100 ∷ 101 ∷ 102 ∷ 97 ∷ 117 ∷ 108 ∷ 116 ∷ 40 ∷ 116 ∷ 114 ∷ 117 ∷ 101 ∷ 41 ∷ 32 ∷ 124 ∷ 32 ∷ 100 ∷ 101 ∷ 102 ∷ 97 ∷ 117 ∷ 108 ∷ 116 ∷ 40 ∷ 116 ∷ 114 ∷ 117 ∷ 101 ∷ 41 ∷ 32 ∷ 124 ∷ 32 ∷ 100 ∷ 101 ∷ 102 ∷ 97 ∷ 117 ∷ 108 ∷ 116 ∷ 40 ∷ 116 ∷ 114 ∷ 117 ∷ 101 ∷ 41 ∷ 32 ∷ 124 ∷ 32 ∷ 100 ∷ 101 ∷ 102 ∷ 97 ∷ 117 ∷ 108 ∷ 116 ∷ 40 ∷ 116 ∷ 114 ∷ 117 ∷ 101 ∷ 41 ∷ 32 ∷ 124 ∷ 32 ∷ 100 ∷ 101 ∷ 102 ∷ 97 ∷ 117 ∷ 108 ∷ 116 ∷ 40 ∷ 116 ∷ 114 ∷ 117 ∷ 101 ∷ 41 ∷ 32 ∷ 124 ∷ 32 ∷ 100 ∷ 101 ∷ 102 ∷ 97 ∷ 117 ∷ 108 ∷ 116 ∷ 40 ∷ 116 ∷ 114 ∷ 117 ∷ 101 ∷ 41 ∷ 32 ∷ 124 ∷ 32 ∷ 100 ∷ 101 ∷ 102 ∷ 97 ∷ 117 ∷ 108 ∷ 116 ∷ 40 ∷ 116 ∷ 114 ∷ 117 ∷ 101 ∷ 41 ∷ 32 ∷ 124 ∷ 32 ∷ 100 ∷ 101 ∷ 102 ∷ 97 ∷ 117 ∷ 108 ∷ 116 ∷ 40 ∷ 116 ∷ 114 ∷ 117 ∷ 101 ∷ 41 ∷ 32 ∷ 124 ∷ 32 ∷ 100 ∷ 101 ∷ 102 ∷ 97 ∷ 117 ∷ 108 ∷ 116 ∷ 40 ∷ 116 ∷ 114 ∷ 117 ∷ 101 ∷ 41 ∷ 32 ∷ 124 ∷ 32 ∷ 100 ∷ 101 ∷ 102 ∷ 97 ∷ 117 ∷ 108 ∷ 116 ∷ 40 ∷ 116 ∷ 114 ∷ 117 ∷ 101 ∷ 41 ∷ 32 ∷ 124 ∷ 32 ∷ 100 ∷ 101 ∷ 102 ∷ 97 ∷ 117 ∷ 108 ∷ 116 ∷ 40 ∷ 116 ∷ 114 ∷ 117 ∷ 101 ∷ 41 ∷ 32 ∷ 124 ∷ 32 ∷ 100 ∷ 101 ∷ 102 ∷ 97 ∷ 117 ∷ 108 ∷ 116 ∷ 40 ∷ 116 ∷ 114 ∷ 117 ∷ 101 ∷ 41 ∷ 32 ∷ 124 ∷ 32 ∷ 100 ∷ 101 ∷ 102 ∷ 97 ∷ 117 ∷ 108 ∷ 116 ∷ 40 ∷ 116 ∷ 114 ∷ 117 ∷ 101 ∷ 41 ∷ 32 ∷ 124 ∷ 32 ∷ 100 ∷ 101 ∷ 102 ∷ 97 ∷ 117 ∷ 108 ∷ 116 ∷ 40 ∷ 116 ∷ 114 ∷ 117 ∷ 101 ∷ 41 ∷ 32 ∷ 124 ∷ 32 ∷ 100 ∷ 101 ∷ 102 ∷ 97 ∷ 117 ∷ 108 ∷ 116 ∷ 40 ∷ 116 ∷ 114 ∷ 117 ∷ 101 ∷ 41 ∷ 32 ∷ 124 ∷ 32 ∷ 100 ∷ 101 ∷ 102 ∷ 97 ∷ 117 ∷ 108 ∷ 116 ∷ 40 ∷ 116 ∷ 114 ∷ 117 ∷ 101 ∷ 41 ∷ 32 ∷ 124 ∷ 32 ∷ 100 ∷ 101 ∷ 102 ∷ 97 ∷ 117 ∷ 108 ∷ 116 ∷ 40 ∷ 116 ∷ 114 ∷ 117 ∷ 101 ∷ 41 ∷ 32 ∷ 124 ∷ 32 ∷ 100 ∷ 101 ∷ 102 ∷ 97 ∷ 117 ∷ 108 ∷ 116 ∷ 40 ∷ 116 ∷ 114 ∷ 117 ∷ 101 ∷ 41 ∷ 32 ∷ 124 ∷ 32 ∷ 100 ∷ 101 ∷ 102 ∷ 97 ∷ 117 ∷ 108 ∷ 116 ∷ 40 ∷ 116 ∷ 114 ∷ 117 ∷ 101 ∷ 41 ∷ 32 ∷ 124 ∷ 32 ∷ 100 ∷ 101 ∷ 102 ∷ 97 ∷ 117 ∷ 108 ∷ 116 ∷ 40 ∷ 116 ∷ 114 ∷ 117 ∷ 101 ∷ 41 ∷ 32 ∷ 124 ∷ 32 ∷ 100 ∷ 101 ∷ 102 ∷ 97 ∷ 117 ∷ 108 ∷ 116 ∷ 40 ∷ 116 ∷ 114 ∷ 117 ∷ 101 ∷ 41 ∷ 32 ∷ 124 ∷ 32 ∷ 100 ∷ 101 ∷ 102 ∷ 97 ∷ 117 ∷ 108 ∷ 116 ∷ 40 ∷ 116 ∷ 114 ∷ 117 ∷ 101 ∷ 41 ∷ 32 ∷ 124 ∷ 32 ∷ 100 ∷ 101 ∷ 102 ∷ 97 ∷ 117 ∷ 108 ∷ 116 ∷ 40 ∷ 116 ∷ 114 ∷ 117 ∷ 101 ∷ 41 ∷ 32 ∷ 124 ∷ 32 ∷ 100 ∷ 101 ∷ 102 ∷ 97 ∷ 117 ∷ 108 ∷ 116 ∷ 40 ∷ 116 ∷ 114 ∷ 117 ∷ 101 ∷ 41 ∷ 32 ∷ 124 ∷ 32 ∷ 100 ∷ 101 ∷ 102 ∷ 97 ∷ 117 ∷ 108 ∷ 116 ∷ 40 ∷ 116 ∷ 114 ∷ 117 ∷ 101 ∷ 41 ∷ 32 ∷ 124 ∷ 32 ∷ 100 ∷ 101 ∷ 102 ∷ 97 ∷ 117 ∷ 108 ∷ 116 ∷ 40 ∷ 116 ∷ 114 ∷ 117 ∷ 101 ∷ 41 ∷ 32 ∷ 124 ∷ 32 ∷ 100 ∷ 101 ∷ 102 ∷ 97 ∷ 117 ∷ 108 ∷ 116 ∷ 40 ∷ 116 ∷ 114 ∷ 117 ∷ 101 ∷ 41 ∷ 32 ∷ 124 ∷ 32 ∷ 100 ∷ 101 ∷ 102 ∷ 97 ∷ 117 ∷ 108 ∷ 116 ∷ 40 ∷ 116 ∷ 114 ∷ 117 ∷ 101 ∷ 41 ∷ 32 ∷ 124 ∷ 32 ∷ 100 ∷ 101 ∷ 102 ∷ 97 ∷ 117 ∷ 108 ∷ 116 ∷ 40 ∷ 116 ∷ 114 ∷ 117 ∷ 101 ∷ 41 ∷ 32 ∷ 124 ∷ 32 ∷ 100 ∷ 101 ∷ 102 ∷ 97 ∷ 117 ∷ 108 ∷ 116 ∷ 40 ∷ 116 ∷ 114 ∷ 117 ∷ 101 ∷ 41 ∷ 32 ∷ 124 ∷ 32 ∷ 100 ∷ 101 ∷ 102 ∷ 97 ∷ 117 ∷ 108 ∷ 116 ∷ 40 ∷ 116 ∷ 114 ∷ 117 ∷ 101 ∷ 41 ∷ 32 ∷ 124 ∷ 32 ∷ 100 ∷ 101 ∷ 102 ∷ 97 ∷ 117 ∷ 108 ∷ 116 ∷ 40 ∷ 116 ∷ 114 ∷ 117 ∷ 101 ∷ 41 ∷ [])) (no_fields)))) (no_items)))) (no_fields)))) (no_items))) ≡ Ok ((record { line = 1; pattern = ((codes "all") ∷ []); gathering = None; vars = (no_parts); is_linear = true; serial = ([]); pre_tasks = (no_steps); tasks = (task_step (record { line = 2; work = (module_work (codes "command") (part (codes "cmd") (literal (text (codes "x"))) (no_parts))); condition = (no_expressions); loop = None; register = (Some (codes "out")); vars = (no_parts); notify = ([]); changed_when = None; failed_when = None; attempts = None; ignore_errors = None }) (task_step (record { line = 3; work = (module_work (codes "ping") (no_parts)); condition = (expression (value_or (value_or (value_or (value_or (value_or (value_or (value_or (value_or (value_or (value_or (value_or (value_or (value_or (value_or (value_or (value_or (value_or (value_or (value_or (value_or (value_or (value_or (value_or (value_or (value_or (value_or (value_or (value_or (value_or (value_or (value_or (value_or (value_or (value_or (value_or (value_or (value_or (value_or (value_or (value_or (literal (boolean true)) (literal (boolean true))) (literal (boolean true))) (literal (boolean true))) (literal (boolean true))) (literal (boolean true))) (literal (boolean true))) (literal (boolean true))) (literal (boolean true))) (literal (boolean true))) (literal (boolean true))) (literal (boolean true))) (literal (boolean true))) (literal (boolean true))) (literal (boolean true))) (literal (boolean true))) (literal (boolean true))) (literal (boolean true))) (literal (boolean true))) (literal (boolean true))) (literal (boolean true))) (literal (boolean true))) (literal (boolean true))) (literal (boolean true))) (literal (boolean true))) (literal (boolean true))) (literal (boolean true))) (literal (boolean true))) (literal (boolean true))) (literal (boolean true))) (literal (boolean true))) (literal (boolean true))) (literal (boolean true))) (literal (boolean true))) (literal (boolean true))) (literal (boolean true))) (literal (boolean true))) (literal (boolean true))) (literal (boolean true))) (literal (boolean true))) (literal (boolean true))) (no_expressions)); loop = None; register = None; vars = (no_parts); notify = ([]); changed_when = None; failed_when = None; attempts = None; ignore_errors = None }) (no_steps))); post_tasks = (no_steps); handlers = ([]); forces = false } ∷ []))
book_428 = refl

book_429 : book_from (builtins ++ ([])) (list (item (rec (field (codes "hosts") (text (codes "all")) (field (codes "tasks") (list (item (rec (field (codes "command") (text (codes "x")) (field (codes "register") (text (codes "out")) (no_fields)))) (item (rec (field (codes "ping") null (field (codes "when") (text (123 ∷ 125 ∷ [])) (no_fields)))) (no_items)))) (no_fields)))) (no_items))) ≡ Err (record { line = 3; code = 7 })
book_429 = refl

book_430 : book_from (builtins ++ ([])) (list (item (rec (field (codes "hosts") (text (codes "all")) (field (codes "tasks") (list (item (rec (field (codes "command") (text (codes "x")) (field (codes "register") (text (codes "out")) (no_fields)))) (item (rec (field (codes "ping") null (field (codes "when") (text (49 ∷ 32 ∷ 105 ∷ 110 ∷ 32 ∷ 91 ∷ 49 ∷ 93 ∷ [])) (no_fields)))) (no_items)))) (no_fields)))) (no_items))) ≡ Ok ((record { line = 1; pattern = ((codes "all") ∷ []); gathering = None; vars = (no_parts); is_linear = true; serial = ([]); pre_tasks = (no_steps); tasks = (task_step (record { line = 2; work = (module_work (codes "command") (part (codes "cmd") (literal (text (codes "x"))) (no_parts))); condition = (no_expressions); loop = None; register = (Some (codes "out")); vars = (no_parts); notify = ([]); changed_when = None; failed_when = None; attempts = None; ignore_errors = None }) (task_step (record { line = 3; work = (module_work (codes "ping") (no_parts)); condition = (expression (membership (literal (int (pos 1))) (list_of (expression (literal (int (pos 1))) (no_expressions)))) (no_expressions)); loop = None; register = None; vars = (no_parts); notify = ([]); changed_when = None; failed_when = None; attempts = None; ignore_errors = None }) (no_steps))); post_tasks = (no_steps); handlers = ([]); forces = false } ∷ []))
book_430 = refl

book_431 : book_from (builtins ++ ([])) (list (item (rec (field (codes "hosts") (text (codes "all")) (field (codes "tasks") (list (item (rec (field (codes "command") (text (codes "x")) (field (codes "register") (text (codes "out")) (no_fields)))) (item (rec (field (codes "ping") null (field (codes "when") (text (49 ∷ 32 ∷ 105 ∷ 115 ∷ 32 ∷ 105 ∷ 110 ∷ 32 ∷ 91 ∷ 49 ∷ 93 ∷ [])) (no_fields)))) (no_items)))) (no_fields)))) (no_items))) ≡ Err (record { line = 3; code = 7 })
book_431 = refl

book_432 : book_from (builtins ++ ([])) (list (item (rec (field (codes "hosts") (text (codes "all")) (field (codes "tasks") (list (item (rec (field (codes "command") (text (codes "x")) (field (codes "register") (text (codes "out")) (no_fields)))) (item (rec (field (codes "ping") null (field (codes "when") (text (49 ∷ 32 ∷ 110 ∷ 111 ∷ 116 ∷ 32 ∷ 105 ∷ 110 ∷ 32 ∷ 91 ∷ 49 ∷ 93 ∷ [])) (no_fields)))) (no_items)))) (no_fields)))) (no_items))) ≡ Ok ((record { line = 1; pattern = ((codes "all") ∷ []); gathering = None; vars = (no_parts); is_linear = true; serial = ([]); pre_tasks = (no_steps); tasks = (task_step (record { line = 2; work = (module_work (codes "command") (part (codes "cmd") (literal (text (codes "x"))) (no_parts))); condition = (no_expressions); loop = None; register = (Some (codes "out")); vars = (no_parts); notify = ([]); changed_when = None; failed_when = None; attempts = None; ignore_errors = None }) (task_step (record { line = 3; work = (module_work (codes "ping") (no_parts)); condition = (expression (negation (membership (literal (int (pos 1))) (list_of (expression (literal (int (pos 1))) (no_expressions))))) (no_expressions)); loop = None; register = None; vars = (no_parts); notify = ([]); changed_when = None; failed_when = None; attempts = None; ignore_errors = None }) (no_steps))); post_tasks = (no_steps); handlers = ([]); forces = false } ∷ []))
book_432 = refl

book_433 : book_from (builtins ++ ([])) (list (item (rec (field (codes "hosts") (text (codes "all")) (field (codes "tasks") (list (item (rec (field (codes "command") (text (codes "x")) (field (codes "register") (text (codes "out")) (no_fields)))) (item (rec (field (codes "ping") null (field (codes "when") (text (91 ∷ 110 ∷ 111 ∷ 116 ∷ 93 ∷ [])) (no_fields)))) (no_items)))) (no_fields)))) (no_items))) ≡ Err (record { line = 3; code = 7 })
book_433 = refl

book_434 : book_from (builtins ++ ([])) (list (item (rec (field (codes "hosts") (text (codes "all")) (field (codes "tasks") (list (item (rec (field (codes "command") (text (codes "x")) (field (codes "register") (text (codes "out")) (no_fields)))) (item (rec (field (codes "ping") null (field (codes "when") (text (91 ∷ 44 ∷ 49 ∷ 93 ∷ [])) (no_fields)))) (no_items)))) (no_fields)))) (no_items))) ≡ Err (record { line = 3; code = 7 })
book_434 = refl

book_435 : book_from (builtins ++ ([])) (list (item (rec (field (codes "hosts") (text (codes "all")) (field (codes "tasks") (list (item (rec (field (codes "command") (text (codes "x")) (field (codes "register") (text (codes "out")) (no_fields)))) (item (rec (field (codes "ping") null (field (codes "when") (text (91 ∷ 49 ∷ 32 ∷ 50 ∷ 93 ∷ [])) (no_fields)))) (no_items)))) (no_fields)))) (no_items))) ≡ Err (record { line = 3; code = 7 })
book_435 = refl

book_436 : book_from (builtins ++ ([])) (list (item (rec (field (codes "hosts") (text (codes "all")) (field (codes "tasks") (list (item (rec (field (codes "command") (text (codes "x")) (field (codes "register") (text (codes "out")) (no_fields)))) (item (rec (field (codes "ping") null (field (codes "when") (text (91 ∷ 49 ∷ 93 ∷ 32 ∷ 124 ∷ 32 ∷ 108 ∷ 101 ∷ 110 ∷ 103 ∷ 116 ∷ 104 ∷ [])) (no_fields)))) (no_items)))) (no_fields)))) (no_items))) ≡ Ok ((record { line = 1; pattern = ((codes "all") ∷ []); gathering = None; vars = (no_parts); is_linear = true; serial = ([]); pre_tasks = (no_steps); tasks = (task_step (record { line = 2; work = (module_work (codes "command") (part (codes "cmd") (literal (text (codes "x"))) (no_parts))); condition = (no_expressions); loop = None; register = (Some (codes "out")); vars = (no_parts); notify = ([]); changed_when = None; failed_when = None; attempts = None; ignore_errors = None }) (task_step (record { line = 3; work = (module_work (codes "ping") (no_parts)); condition = (expression (length_of (list_of (expression (literal (int (pos 1))) (no_expressions)))) (no_expressions)); loop = None; register = None; vars = (no_parts); notify = ([]); changed_when = None; failed_when = None; attempts = None; ignore_errors = None }) (no_steps))); post_tasks = (no_steps); handlers = ([]); forces = false } ∷ []))
book_436 = refl

book_437 : book_from (builtins ++ ([])) (list (item (rec (field (codes "hosts") (text (codes "all")) (field (codes "tasks") (list (item (rec (field (codes "command") (text (codes "x")) (field (codes "register") (text (codes "out")) (no_fields)))) (item (rec (field (codes "ping") null (field (codes "when") (text (91 ∷ 49 ∷ 93 ∷ 32 ∷ 61 ∷ 61 ∷ 32 ∷ 91 ∷ 49 ∷ 93 ∷ [])) (no_fields)))) (no_items)))) (no_fields)))) (no_items))) ≡ Ok ((record { line = 1; pattern = ((codes "all") ∷ []); gathering = None; vars = (no_parts); is_linear = true; serial = ([]); pre_tasks = (no_steps); tasks = (task_step (record { line = 2; work = (module_work (codes "command") (part (codes "cmd") (literal (text (codes "x"))) (no_parts))); condition = (no_expressions); loop = None; register = (Some (codes "out")); vars = (no_parts); notify = ([]); changed_when = None; failed_when = None; attempts = None; ignore_errors = None }) (task_step (record { line = 3; work = (module_work (codes "ping") (no_parts)); condition = (expression (comparison equal (list_of (expression (literal (int (pos 1))) (no_expressions))) (list_of (expression (literal (int (pos 1))) (no_expressions)))) (no_expressions)); loop = None; register = None; vars = (no_parts); notify = ([]); changed_when = None; failed_when = None; attempts = None; ignore_errors = None }) (no_steps))); post_tasks = (no_steps); handlers = ([]); forces = false } ∷ []))
book_437 = refl

book_438 : book_from (builtins ++ ([])) (list (item (rec (field (codes "hosts") (text (codes "all")) (field (codes "tasks") (list (item (rec (field (codes "command") (text (codes "x")) (field (codes "register") (text (codes "out")) (no_fields)))) (item (rec (field (codes "ping") null (field (codes "when") (text (91 ∷ 91 ∷ 91 ∷ 91 ∷ 91 ∷ 91 ∷ 91 ∷ 91 ∷ 91 ∷ 91 ∷ 91 ∷ 91 ∷ 91 ∷ 91 ∷ 91 ∷ 91 ∷ 91 ∷ 91 ∷ 91 ∷ 91 ∷ 91 ∷ 91 ∷ 91 ∷ 91 ∷ 91 ∷ 91 ∷ 91 ∷ 91 ∷ 91 ∷ 91 ∷ 91 ∷ 91 ∷ 91 ∷ 93 ∷ 93 ∷ 93 ∷ 93 ∷ 93 ∷ 93 ∷ 93 ∷ 93 ∷ 93 ∷ 93 ∷ 93 ∷ 93 ∷ 93 ∷ 93 ∷ 93 ∷ 93 ∷ 93 ∷ 93 ∷ 93 ∷ 93 ∷ 93 ∷ 93 ∷ 93 ∷ 93 ∷ 93 ∷ 93 ∷ 93 ∷ 93 ∷ 93 ∷ 93 ∷ 93 ∷ 93 ∷ 93 ∷ 32 ∷ 61 ∷ 61 ∷ 32 ∷ 49 ∷ [])) (no_fields)))) (no_items)))) (no_fields)))) (no_items))) ≡ Err (record { line = 3; code = 7 })
book_438 = refl

book_439 : book_from (builtins ++ ([])) (list (item (rec (field (codes "hosts") (text (codes "all")) (field (codes "tasks") (list (item (rec (field (codes "command") (text (codes "x")) (field (codes "register") (text (codes "out")) (no_fields)))) (item (rec (field (codes "ping") null (field (codes "when") (text (91 ∷ 91 ∷ 91 ∷ 91 ∷ 91 ∷ 91 ∷ 91 ∷ 91 ∷ 91 ∷ 91 ∷ 91 ∷ 91 ∷ 91 ∷ 91 ∷ 91 ∷ 91 ∷ 91 ∷ 91 ∷ 91 ∷ 91 ∷ 91 ∷ 91 ∷ 91 ∷ 91 ∷ 91 ∷ 91 ∷ 91 ∷ 91 ∷ 91 ∷ 91 ∷ 91 ∷ 91 ∷ 93 ∷ 93 ∷ 93 ∷ 93 ∷ 93 ∷ 93 ∷ 93 ∷ 93 ∷ 93 ∷ 93 ∷ 93 ∷ 93 ∷ 93 ∷ 93 ∷ 93 ∷ 93 ∷ 93 ∷ 93 ∷ 93 ∷ 93 ∷ 93 ∷ 93 ∷ 93 ∷ 93 ∷ 93 ∷ 93 ∷ 93 ∷ 93 ∷ 93 ∷ 93 ∷ 93 ∷ 93 ∷ 32 ∷ 61 ∷ 61 ∷ 32 ∷ 49 ∷ [])) (no_fields)))) (no_items)))) (no_fields)))) (no_items))) ≡ Ok ((record { line = 1; pattern = ((codes "all") ∷ []); gathering = None; vars = (no_parts); is_linear = true; serial = ([]); pre_tasks = (no_steps); tasks = (task_step (record { line = 2; work = (module_work (codes "command") (part (codes "cmd") (literal (text (codes "x"))) (no_parts))); condition = (no_expressions); loop = None; register = (Some (codes "out")); vars = (no_parts); notify = ([]); changed_when = None; failed_when = None; attempts = None; ignore_errors = None }) (task_step (record { line = 3; work = (module_work (codes "ping") (no_parts)); condition = (expression (comparison equal (list_of (expression (list_of (expression (list_of (expression (list_of (expression (list_of (expression (list_of (expression (list_of (expression (list_of (expression (list_of (expression (list_of (expression (list_of (expression (list_of (expression (list_of (expression (list_of (expression (list_of (expression (list_of (expression (list_of (expression (list_of (expression (list_of (expression (list_of (expression (list_of (expression (list_of (expression (list_of (expression (list_of (expression (list_of (expression (list_of (expression (list_of (expression (list_of (expression (list_of (expression (list_of (expression (list_of (expression (list_of (no_expressions)) (no_expressions))) (no_expressions))) (no_expressions))) (no_expressions))) (no_expressions))) (no_expressions))) (no_expressions))) (no_expressions))) (no_expressions))) (no_expressions))) (no_expressions))) (no_expressions))) (no_expressions))) (no_expressions))) (no_expressions))) (no_expressions))) (no_expressions))) (no_expressions))) (no_expressions))) (no_expressions))) (no_expressions))) (no_expressions))) (no_expressions))) (no_expressions))) (no_expressions))) (no_expressions))) (no_expressions))) (no_expressions))) (no_expressions))) (no_expressions))) (no_expressions))) (literal (int (pos 1)))) (no_expressions)); loop = None; register = None; vars = (no_parts); notify = ([]); changed_when = None; failed_when = None; attempts = None; ignore_errors = None }) (no_steps))); post_tasks = (no_steps); handlers = ([]); forces = false } ∷ []))
book_439 = refl
