-- The books of cases as they are read, computed.
use Rattle.std.specs.Prelude.{◌≡◌, refl, pos, negsuc, [], ◌∷◌, ◌++◌, true, false, Some, None, Ok, Err, codes}
use Rattle.pb_semantics.specs.Data.{null, boolean, int, text, list, rec, opaque, no_items, item, no_fields, field}
use Rattle.pb_language.specs.Expression.{less, is_failed, item_host, literal, path, negation, conjunction, disjunction, comparison, defined, path_status, path_or, list_of, record_of, variable, other, no_expressions, expression, no_parts, part}
use Rattle.pb_language.specs.Book.{conditions_are, module_work, debug_work, set_fact_work, assert_work, no_steps, task_step, block_step, host_count, percentage}
use Rattle.pb_language.specs.BookForm.{book_from}
use Rattle.pb_language.specs.Builtins.{builtins}

book_200 : book_from (builtins ++ ([])) (list (item (rec (field (codes "hosts") (text (codes "all")) (field (codes "name") (text (codes "play")) (field (codes "tasks") (list (item (rec (field (codes "register") (text (codes "r2")) (field (codes "set_fact") (rec (field (codes "s1") (text (codes "text")) (no_fields))) (no_fields)))) (item (rec (field (codes "debug") (rec (field (codes "msg") (rec (field (codes "g") (text (123 ∷ 123 ∷ 32 ∷ 45 ∷ 51 ∷ 32 ∷ 125 ∷ 125 ∷ [])) (no_fields))) (no_fields))) (no_fields))) (item (rec (field (codes "command") (rec (field (codes "cmd") (text (123 ∷ 123 ∷ 32 ∷ 105 ∷ 110 ∷ 118 ∷ 101 ∷ 110 ∷ 116 ∷ 111 ∷ 114 ∷ 121 ∷ 95 ∷ 104 ∷ 111 ∷ 115 ∷ 116 ∷ 110 ∷ 97 ∷ 109 ∷ 101 ∷ 32 ∷ 125 ∷ 125 ∷ [])) (no_fields))) (no_fields))) (no_items))))) (no_fields))))) (no_items))) ≡ Ok ((record { line = 1; pattern = ((codes "all") ∷ []); gathering = None; vars = (no_parts); is_linear = true; serial = ([]); pre_tasks = (no_steps); tasks = (task_step (record { line = 2; work = (set_fact_work (part (codes "s1") (literal (text (codes "text"))) (no_parts))); condition = (no_expressions); loop = None; register = (Some (codes "r2")); vars = (no_parts); notify = ([]); changed_when = None; failed_when = None; attempts = None; ignore_errors = None }) (task_step (record { line = 3; work = (debug_work (part (codes "msg") (record_of (part (codes "g") (literal (int (negsuc 2))) (no_parts))) (no_parts))); condition = (no_expressions); loop = None; register = None; vars = (no_parts); notify = ([]); changed_when = None; failed_when = None; attempts = None; ignore_errors = None }) (task_step (record { line = 4; work = (module_work (codes "command") (part (codes "cmd") (path (variable (codes "inventory_hostname")) ([])) (no_parts))); condition = (no_expressions); loop = None; register = None; vars = (no_parts); notify = ([]); changed_when = None; failed_when = None; attempts = None; ignore_errors = None }) (no_steps)))); post_tasks = (no_steps); handlers = ([]); forces = false } ∷ []))
book_200 = refl

book_201 : book_from (builtins ++ ([])) (list (item (rec (field (codes "hosts") (text (codes "all")) (field (codes "name") (text (codes "play")) (field (codes "tasks") (list (item (rec (field (codes "register") (text (codes "r2")) (field (codes "set_fact") (rec (field (codes "s2") null (no_fields))) (no_fields)))) (item (rec (field (codes "ping") null (field (codes "when") (text (codes "r2.failed")) (no_fields)))) (item (rec (field (codes "command") (text (codes "x")) (field (codes "name") (text (codes "task 2")) (field (codes "register") (text (codes "r1")) (no_fields))))) (no_items))))) (no_fields))))) (no_items))) ≡ Ok ((record { line = 1; pattern = ((codes "all") ∷ []); gathering = None; vars = (no_parts); is_linear = true; serial = ([]); pre_tasks = (no_steps); tasks = (task_step (record { line = 2; work = (set_fact_work (part (codes "s2") (literal null) (no_parts))); condition = (no_expressions); loop = None; register = (Some (codes "r2")); vars = (no_parts); notify = ([]); changed_when = None; failed_when = None; attempts = None; ignore_errors = None }) (task_step (record { line = 3; work = (module_work (codes "ping") (no_parts)); condition = (expression (path (variable (codes "r2")) ((codes "failed") ∷ [])) (no_expressions)); loop = None; register = None; vars = (no_parts); notify = ([]); changed_when = None; failed_when = None; attempts = None; ignore_errors = None }) (task_step (record { line = 4; work = (module_work (codes "command") (part (codes "cmd") (literal (text (codes "x"))) (no_parts))); condition = (no_expressions); loop = None; register = (Some (codes "r1")); vars = (no_parts); notify = ([]); changed_when = None; failed_when = None; attempts = None; ignore_errors = None }) (no_steps)))); post_tasks = (no_steps); handlers = ([]); forces = false } ∷ []))
book_201 = refl

book_202 : book_from (builtins ++ ([])) (list (item (rec (field (codes "hosts") (text (codes "all")) (field (codes "name") (text (codes "play")) (field (codes "tasks") (list (item (rec (field (codes "register") (text (codes "r2")) (field (codes "set_fact") (rec (field (codes "s3") (text (97 ∷ 32 ∷ 123 ∷ 32 ∷ 98 ∷ 32 ∷ 125 ∷ 32 ∷ 99 ∷ [])) (no_fields))) (no_fields)))) (item (rec (field (codes "command") (text (codes "x")) (field (codes "register") (text (codes "r3")) (field (codes "when") (text (codes "r2.failed")) (no_fields))))) (item (rec (field (codes "command") (text (codes "x")) (field (codes "name") (text (codes "task 2")) (field (codes "register") (text (codes "s1")) (no_fields))))) (no_items))))) (no_fields))))) (no_items))) ≡ Ok ((record { line = 1; pattern = ((codes "all") ∷ []); gathering = None; vars = (no_parts); is_linear = true; serial = ([]); pre_tasks = (no_steps); tasks = (task_step (record { line = 2; work = (set_fact_work (part (codes "s3") (literal (text (97 ∷ 32 ∷ 123 ∷ 32 ∷ 98 ∷ 32 ∷ 125 ∷ 32 ∷ 99 ∷ []))) (no_parts))); condition = (no_expressions); loop = None; register = (Some (codes "r2")); vars = (no_parts); notify = ([]); changed_when = None; failed_when = None; attempts = None; ignore_errors = None }) (task_step (record { line = 3; work = (module_work (codes "command") (part (codes "cmd") (literal (text (codes "x"))) (no_parts))); condition = (expression (path (variable (codes "r2")) ((codes "failed") ∷ [])) (no_expressions)); loop = None; register = (Some (codes "r3")); vars = (no_parts); notify = ([]); changed_when = None; failed_when = None; attempts = None; ignore_errors = None }) (task_step (record { line = 4; work = (module_work (codes "command") (part (codes "cmd") (literal (text (codes "x"))) (no_parts))); condition = (no_expressions); loop = None; register = (Some (codes "s1")); vars = (no_parts); notify = ([]); changed_when = None; failed_when = None; attempts = None; ignore_errors = None }) (no_steps)))); post_tasks = (no_steps); handlers = ([]); forces = false } ∷ []))
book_202 = refl

book_203 : book_from (builtins ++ ([])) (list (item (rec (field (codes "hosts") (text (codes "all")) (field (codes "name") (text (codes "play")) (field (codes "tasks") (list (item (rec (field (codes "register") (text (codes "r3")) (field (codes "set_fact") (rec (field (codes "s1") (rec (no_fields)) (no_fields))) (no_fields)))) (no_items))) (no_fields))))) (no_items))) ≡ Ok ((record { line = 1; pattern = ((codes "all") ∷ []); gathering = None; vars = (no_parts); is_linear = true; serial = ([]); pre_tasks = (no_steps); tasks = (task_step (record { line = 2; work = (set_fact_work (part (codes "s1") (literal (rec (no_fields))) (no_parts))); condition = (no_expressions); loop = None; register = (Some (codes "r3")); vars = (no_parts); notify = ([]); changed_when = None; failed_when = None; attempts = None; ignore_errors = None }) (no_steps)); post_tasks = (no_steps); handlers = ([]); forces = false } ∷ []))
book_203 = refl

book_204 : book_from (builtins ++ ([])) (list (item (rec (field (codes "hosts") (text (codes "all")) (field (codes "name") (text (codes "play")) (field (codes "tasks") (list (item (rec (field (codes "set_fact") (rec (field (codes "s1") (boolean true) (no_fields))) (no_fields))) (item (rec (field (codes "command") (text (codes "x")) (field (codes "register") (text (codes "r3")) (no_fields)))) (item (rec (field (codes "command") (rec (field (codes "cmd") (text (123 ∷ 123 ∷ 32 ∷ 105 ∷ 110 ∷ 118 ∷ 101 ∷ 110 ∷ 116 ∷ 111 ∷ 114 ∷ 121 ∷ 95 ∷ 104 ∷ 111 ∷ 115 ∷ 116 ∷ 110 ∷ 97 ∷ 109 ∷ 101 ∷ 32 ∷ 125 ∷ 125 ∷ [])) (no_fields))) (field (codes "register") (text (codes "r2")) (no_fields)))) (item (rec (field (codes "command") (text (codes "x")) (no_fields))) (no_items)))))) (no_fields))))) (no_items))) ≡ Ok ((record { line = 1; pattern = ((codes "all") ∷ []); gathering = None; vars = (no_parts); is_linear = true; serial = ([]); pre_tasks = (no_steps); tasks = (task_step (record { line = 2; work = (set_fact_work (part (codes "s1") (literal (boolean true)) (no_parts))); condition = (no_expressions); loop = None; register = None; vars = (no_parts); notify = ([]); changed_when = None; failed_when = None; attempts = None; ignore_errors = None }) (task_step (record { line = 3; work = (module_work (codes "command") (part (codes "cmd") (literal (text (codes "x"))) (no_parts))); condition = (no_expressions); loop = None; register = (Some (codes "r3")); vars = (no_parts); notify = ([]); changed_when = None; failed_when = None; attempts = None; ignore_errors = None }) (task_step (record { line = 4; work = (module_work (codes "command") (part (codes "cmd") (path (variable (codes "inventory_hostname")) ([])) (no_parts))); condition = (no_expressions); loop = None; register = (Some (codes "r2")); vars = (no_parts); notify = ([]); changed_when = None; failed_when = None; attempts = None; ignore_errors = None }) (task_step (record { line = 5; work = (module_work (codes "command") (part (codes "cmd") (literal (text (codes "x"))) (no_parts))); condition = (no_expressions); loop = None; register = None; vars = (no_parts); notify = ([]); changed_when = None; failed_when = None; attempts = None; ignore_errors = None }) (no_steps))))); post_tasks = (no_steps); handlers = ([]); forces = false } ∷ []))
book_204 = refl

book_205 : book_from (builtins ++ ([])) (list (item (rec (field (codes "hosts") (text (codes "all")) (field (codes "name") (text (codes "play")) (field (codes "tasks") (list (item (rec (field (codes "set_fact") (rec (field (codes "s1") (rec (no_fields)) (no_fields))) (no_fields))) (item (rec (field (codes "command") (text (codes "x")) (field (codes "name") (text (codes "task 1")) (field (codes "register") (text (codes "s1")) (no_fields))))) (no_items)))) (no_fields))))) (no_items))) ≡ Ok ((record { line = 1; pattern = ((codes "all") ∷ []); gathering = None; vars = (no_parts); is_linear = true; serial = ([]); pre_tasks = (no_steps); tasks = (task_step (record { line = 2; work = (set_fact_work (part (codes "s1") (literal (rec (no_fields))) (no_parts))); condition = (no_expressions); loop = None; register = None; vars = (no_parts); notify = ([]); changed_when = None; failed_when = None; attempts = None; ignore_errors = None }) (task_step (record { line = 3; work = (module_work (codes "command") (part (codes "cmd") (literal (text (codes "x"))) (no_parts))); condition = (no_expressions); loop = None; register = (Some (codes "s1")); vars = (no_parts); notify = ([]); changed_when = None; failed_when = None; attempts = None; ignore_errors = None }) (no_steps))); post_tasks = (no_steps); handlers = ([]); forces = false } ∷ []))
book_205 = refl

book_206 : book_from (builtins ++ ([])) (list (item (rec (field (codes "hosts") (text (codes "all")) (field (codes "name") (text (codes "play")) (field (codes "tasks") (list (item (rec (field (codes "set_fact") (rec (field (codes "s2") (text (123 ∷ 123 ∷ 32 ∷ 114 ∷ 49 ∷ 32 ∷ 125 ∷ 125 ∷ [])) (no_fields))) (field (codes "when") (text (codes "r1.failed")) (no_fields)))) (no_items))) (no_fields))))) (no_items))) ≡ Ok ((record { line = 1; pattern = ((codes "all") ∷ []); gathering = None; vars = (no_parts); is_linear = true; serial = ([]); pre_tasks = (no_steps); tasks = (task_step (record { line = 2; work = (set_fact_work (part (codes "s2") (path (variable (codes "r1")) ([])) (no_parts))); condition = (expression (path (variable (codes "r1")) ((codes "failed") ∷ [])) (no_expressions)); loop = None; register = None; vars = (no_parts); notify = ([]); changed_when = None; failed_when = None; attempts = None; ignore_errors = None }) (no_steps)); post_tasks = (no_steps); handlers = ([]); forces = false } ∷ []))
book_206 = refl

book_207 : book_from (builtins ++ ([])) (list (item (rec (field (codes "hosts") (text (codes "all")) (field (codes "name") (text (codes "play")) (field (codes "tasks") (list (item (rec (field (codes "set_fact") (rec (field (codes "s3") (rec (no_fields)) (no_fields))) (no_fields))) (item (rec (field (codes "command") (text (codes "x")) (field (codes "name") (text (codes "task 1")) (field (codes "register") (text (codes "r2")) (no_fields))))) (item (rec (field (codes "command") (text (codes "x")) (field (codes "name") (text (codes "task 2")) (field (codes "register") (text (codes "r3")) (field (codes "when") (text (codes "r2.failed")) (no_fields)))))) (no_items))))) (no_fields))))) (no_items))) ≡ Ok ((record { line = 1; pattern = ((codes "all") ∷ []); gathering = None; vars = (no_parts); is_linear = true; serial = ([]); pre_tasks = (no_steps); tasks = (task_step (record { line = 2; work = (set_fact_work (part (codes "s3") (literal (rec (no_fields))) (no_parts))); condition = (no_expressions); loop = None; register = None; vars = (no_parts); notify = ([]); changed_when = None; failed_when = None; attempts = None; ignore_errors = None }) (task_step (record { line = 3; work = (module_work (codes "command") (part (codes "cmd") (literal (text (codes "x"))) (no_parts))); condition = (no_expressions); loop = None; register = (Some (codes "r2")); vars = (no_parts); notify = ([]); changed_when = None; failed_when = None; attempts = None; ignore_errors = None }) (task_step (record { line = 4; work = (module_work (codes "command") (part (codes "cmd") (literal (text (codes "x"))) (no_parts))); condition = (expression (path (variable (codes "r2")) ((codes "failed") ∷ [])) (no_expressions)); loop = None; register = (Some (codes "r3")); vars = (no_parts); notify = ([]); changed_when = None; failed_when = None; attempts = None; ignore_errors = None }) (no_steps)))); post_tasks = (no_steps); handlers = ([]); forces = false } ∷ []))
book_207 = refl

book_208 : book_from (builtins ++ ([])) (list (item (rec (field (codes "hosts") (text (codes "all")) (field (codes "name") (text (codes "play")) (field (codes "tasks") (list (item (rec (field (codes "set_fact") (rec (field (codes "s3") (text (123 ∷ 123 ∷ 32 ∷ 48 ∷ 32 ∷ 125 ∷ 125 ∷ [])) (no_fields))) (no_fields))) (item (rec (field (codes "command") (text (codes "x")) (field (codes "name") (text (codes "task 1")) (field (codes "register") (text (codes "r3")) (no_fields))))) (item (rec (field (codes "debug") (rec (field (codes "msg") (list (no_items)) (no_fields))) (field (codes "name") (text (codes "task 2")) (no_fields)))) (item (rec (field (codes "command") (text (codes "x")) (field (codes "register") (text (codes "r2")) (no_fields)))) (no_items)))))) (no_fields))))) (no_items))) ≡ Ok ((record { line = 1; pattern = ((codes "all") ∷ []); gathering = None; vars = (no_parts); is_linear = true; serial = ([]); pre_tasks = (no_steps); tasks = (task_step (record { line = 2; work = (set_fact_work (part (codes "s3") (literal (int (pos 0))) (no_parts))); condition = (no_expressions); loop = None; register = None; vars = (no_parts); notify = ([]); changed_when = None; failed_when = None; attempts = None; ignore_errors = None }) (task_step (record { line = 3; work = (module_work (codes "command") (part (codes "cmd") (literal (text (codes "x"))) (no_parts))); condition = (no_expressions); loop = None; register = (Some (codes "r3")); vars = (no_parts); notify = ([]); changed_when = None; failed_when = None; attempts = None; ignore_errors = None }) (task_step (record { line = 4; work = (debug_work (part (codes "msg") (literal (list (no_items))) (no_parts))); condition = (no_expressions); loop = None; register = None; vars = (no_parts); notify = ([]); changed_when = None; failed_when = None; attempts = None; ignore_errors = None }) (task_step (record { line = 5; work = (module_work (codes "command") (part (codes "cmd") (literal (text (codes "x"))) (no_parts))); condition = (no_expressions); loop = None; register = (Some (codes "r2")); vars = (no_parts); notify = ([]); changed_when = None; failed_when = None; attempts = None; ignore_errors = None }) (no_steps))))); post_tasks = (no_steps); handlers = ([]); forces = false } ∷ []))
book_208 = refl

book_209 : book_from (builtins ++ ([])) (list (item (rec (field (codes "hosts") (text (codes "all")) (field (codes "post_tasks") (list (item (rec (field (codes "loop") (text (123 ∷ 123 ∷ 32 ∷ 97 ∷ 110 ∷ 115 ∷ 105 ∷ 98 ∷ 108 ∷ 101 ∷ 95 ∷ 112 ∷ 108 ∷ 97 ∷ 121 ∷ 95 ∷ 98 ∷ 97 ∷ 116 ∷ 99 ∷ 104 ∷ 32 ∷ 125 ∷ 125 ∷ [])) (field (codes "ping") null (no_fields)))) (no_items))) (field (codes "strategy") (text (codes "free")) (field (codes "tasks") (list (item (rec (field (codes "ignore_errors") (boolean true) (field (codes "loop") (text (123 ∷ 123 ∷ 32 ∷ 97 ∷ 110 ∷ 115 ∷ 105 ∷ 98 ∷ 108 ∷ 101 ∷ 95 ∷ 112 ∷ 108 ∷ 97 ∷ 121 ∷ 95 ∷ 98 ∷ 97 ∷ 116 ∷ 99 ∷ 104 ∷ 32 ∷ 125 ∷ 125 ∷ [])) (field (codes "register") (text (codes "r")) (field (codes "setup") null (no_fields)))))) (no_items))) (no_fields)))))) (no_items))) ≡ Ok ((record { line = 1; pattern = ((codes "all") ∷ []); gathering = None; vars = (no_parts); is_linear = false; serial = ([]); pre_tasks = (no_steps); tasks = (task_step (record { line = 2; work = (module_work (codes "setup") (no_parts)); condition = (no_expressions); loop = (Some (path (variable (codes "ansible_play_batch")) ([]))); register = (Some (codes "r")); vars = (no_parts); notify = ([]); changed_when = None; failed_when = None; attempts = None; ignore_errors = (Some true) }) (no_steps)); post_tasks = (task_step (record { line = 3; work = (module_work (codes "ping") (no_parts)); condition = (no_expressions); loop = (Some (path (variable (codes "ansible_play_batch")) ([]))); register = None; vars = (no_parts); notify = ([]); changed_when = None; failed_when = None; attempts = None; ignore_errors = None }) (no_steps)); handlers = ([]); forces = false } ∷ []))
book_209 = refl

book_210 : book_from (builtins ++ ([])) (list (item (rec (field (codes "hosts") (text (codes "all")) (field (codes "serial") (boolean true) (field (codes "tasks") (list (no_items)) (no_fields))))) (no_items))) ≡ Err (record { line = 1; code = 4 })
book_210 = refl

book_211 : book_from (builtins ++ ([])) (list (item (rec (field (codes "hosts") (text (codes "all")) (field (codes "serial") (int (negsuc 0)) (field (codes "tasks") (list (no_items)) (no_fields))))) (no_items))) ≡ Err (record { line = 1; code = 4 })
book_211 = refl

book_212 : book_from (builtins ++ ([])) (list (item (rec (field (codes "hosts") (text (codes "all")) (field (codes "serial") (int (pos 1)) (field (codes "tasks") (list (item (rec (field (codes "ping") null (no_fields))) (no_items))) (no_fields))))) (no_items))) ≡ Ok ((record { line = 1; pattern = ((codes "all") ∷ []); gathering = None; vars = (no_parts); is_linear = true; serial = (host_count 1 ∷ []); pre_tasks = (no_steps); tasks = (task_step (record { line = 2; work = (module_work (codes "ping") (no_parts)); condition = (no_expressions); loop = None; register = None; vars = (no_parts); notify = ([]); changed_when = None; failed_when = None; attempts = None; ignore_errors = None }) (no_steps)); post_tasks = (no_steps); handlers = ([]); forces = false } ∷ []))
book_212 = refl

book_213 : book_from (builtins ++ ([])) (list (item (rec (field (codes "hosts") (text (codes "all")) (field (codes "serial") (int (pos 1024)) (field (codes "tasks") (list (item (rec (field (codes "ping") null (no_fields))) (no_items))) (no_fields))))) (no_items))) ≡ Ok ((record { line = 1; pattern = ((codes "all") ∷ []); gathering = None; vars = (no_parts); is_linear = true; serial = (host_count 1024 ∷ []); pre_tasks = (no_steps); tasks = (task_step (record { line = 2; work = (module_work (codes "ping") (no_parts)); condition = (no_expressions); loop = None; register = None; vars = (no_parts); notify = ([]); changed_when = None; failed_when = None; attempts = None; ignore_errors = None }) (no_steps)); post_tasks = (no_steps); handlers = ([]); forces = false } ∷ []))
book_213 = refl

book_214 : book_from (builtins ++ ([])) (list (item (rec (field (codes "hosts") (text (codes "all")) (field (codes "serial") (int (pos 2)) (field (codes "tasks") (list (item (rec (field (codes "ping") null (no_fields))) (no_items))) (no_fields))))) (no_items))) ≡ Ok ((record { line = 1; pattern = ((codes "all") ∷ []); gathering = None; vars = (no_parts); is_linear = true; serial = (host_count 2 ∷ []); pre_tasks = (no_steps); tasks = (task_step (record { line = 2; work = (module_work (codes "ping") (no_parts)); condition = (no_expressions); loop = None; register = None; vars = (no_parts); notify = ([]); changed_when = None; failed_when = None; attempts = None; ignore_errors = None }) (no_steps)); post_tasks = (no_steps); handlers = ([]); forces = false } ∷ []))
book_214 = refl

book_215 : book_from (builtins ++ ([])) (list (item (rec (field (codes "hosts") (text (codes "all")) (field (codes "serial") (int (pos 3)) (field (codes "tasks") (list (item (rec (field (codes "ping") null (no_fields))) (no_items))) (no_fields))))) (no_items))) ≡ Ok ((record { line = 1; pattern = ((codes "all") ∷ []); gathering = None; vars = (no_parts); is_linear = true; serial = (host_count 3 ∷ []); pre_tasks = (no_steps); tasks = (task_step (record { line = 2; work = (module_work (codes "ping") (no_parts)); condition = (no_expressions); loop = None; register = None; vars = (no_parts); notify = ([]); changed_when = None; failed_when = None; attempts = None; ignore_errors = None }) (no_steps)); post_tasks = (no_steps); handlers = ([]); forces = false } ∷ []))
book_215 = refl

book_216 : book_from (builtins ++ ([])) (list (item (rec (field (codes "hosts") (text (codes "all")) (field (codes "serial") (int (pos 5)) (field (codes "tasks") (list (item (rec (field (codes "ping") null (no_fields))) (no_items))) (no_fields))))) (no_items))) ≡ Ok ((record { line = 1; pattern = ((codes "all") ∷ []); gathering = None; vars = (no_parts); is_linear = true; serial = (host_count 5 ∷ []); pre_tasks = (no_steps); tasks = (task_step (record { line = 2; work = (module_work (codes "ping") (no_parts)); condition = (no_expressions); loop = None; register = None; vars = (no_parts); notify = ([]); changed_when = None; failed_when = None; attempts = None; ignore_errors = None }) (no_steps)); post_tasks = (no_steps); handlers = ([]); forces = false } ∷ []))
book_216 = refl

book_217 : book_from (builtins ++ ([])) (list (item (rec (field (codes "hosts") (text (codes "all")) (field (codes "serial") (list (item (int (pos 1)) (item (int (pos 2)) (no_items)))) (field (codes "tasks") (list (item (rec (field (codes "assert") (rec (field (codes "that") (text (codes "y.msg is defined")) (no_fields))) (field (codes "register") (text (codes "r")) (field (codes "when") (list (item (text (codes "s is defined and s is not failed")) (item (text (codes "r is defined")) (no_items)))) (no_fields))))) (item (rec (field (codes "block") (list (no_items)) (field (codes "ignore_errors") (boolean true) (no_fields)))) (no_items)))) (no_fields))))) (no_items))) ≡ Ok ((record { line = 1; pattern = ((codes "all") ∷ []); gathering = None; vars = (no_parts); is_linear = true; serial = (host_count 1 ∷ host_count 2 ∷ []); pre_tasks = (no_steps); tasks = (task_step (record { line = 2; work = (assert_work (conditions_are (expression (defined (variable (codes "y")) ((codes "msg") ∷ [])) (no_expressions))) (no_parts)); condition = (expression (conjunction (expression (defined (variable (codes "s")) ([])) (expression (negation (path_status is_failed (variable (codes "s")) ([]))) (no_expressions)))) (expression (defined (variable (codes "r")) ([])) (no_expressions))); loop = None; register = (Some (codes "r")); vars = (no_parts); notify = ([]); changed_when = None; failed_when = None; attempts = None; ignore_errors = None }) (block_step (record { line = 3; condition = (no_expressions); vars = (no_parts); ignore_errors = (Some true) }) (no_steps) (no_steps) (no_steps) (no_steps))); post_tasks = (no_steps); handlers = ([]); forces = false } ∷ []))
book_217 = refl

book_218 : book_from (builtins ++ ([])) (list (item (rec (field (codes "hosts") (text (codes "all")) (field (codes "serial") (list (item (int (pos 1)) (item (int (pos 2)) (no_items)))) (field (codes "tasks") (list (item (rec (field (codes "ping") null (no_fields))) (no_items))) (no_fields))))) (no_items))) ≡ Ok ((record { line = 1; pattern = ((codes "all") ∷ []); gathering = None; vars = (no_parts); is_linear = true; serial = (host_count 1 ∷ host_count 2 ∷ []); pre_tasks = (no_steps); tasks = (task_step (record { line = 2; work = (module_work (codes "ping") (no_parts)); condition = (no_expressions); loop = None; register = None; vars = (no_parts); notify = ([]); changed_when = None; failed_when = None; attempts = None; ignore_errors = None }) (no_steps)); post_tasks = (no_steps); handlers = ([]); forces = false } ∷ []))
book_218 = refl

book_219 : book_from (builtins ++ ([])) (list (item (rec (field (codes "hosts") (text (codes "all")) (field (codes "serial") (list (item (int (pos 1)) (item (text (49 ∷ 37 ∷ [])) (no_items)))) (field (codes "tasks") (list (item (rec (field (codes "ping") null (no_fields))) (no_items))) (no_fields))))) (no_items))) ≡ Ok ((record { line = 1; pattern = ((codes "all") ∷ []); gathering = None; vars = (no_parts); is_linear = true; serial = (host_count 1 ∷ percentage 1 ∷ []); pre_tasks = (no_steps); tasks = (task_step (record { line = 2; work = (module_work (codes "ping") (no_parts)); condition = (no_expressions); loop = None; register = None; vars = (no_parts); notify = ([]); changed_when = None; failed_when = None; attempts = None; ignore_errors = None }) (no_steps)); post_tasks = (no_steps); handlers = ([]); forces = false } ∷ []))
book_219 = refl

book_220 : book_from (builtins ++ ([])) (list (item (rec (field (codes "hosts") (text (codes "all")) (field (codes "serial") (list (item (int (pos 2)) (item (text (53 ∷ 48 ∷ 37 ∷ [])) (no_items)))) (field (codes "tasks") (list (item (rec (field (codes "ping") null (no_fields))) (no_items))) (no_fields))))) (no_items))) ≡ Ok ((record { line = 1; pattern = ((codes "all") ∷ []); gathering = None; vars = (no_parts); is_linear = true; serial = (host_count 2 ∷ percentage 50 ∷ []); pre_tasks = (no_steps); tasks = (task_step (record { line = 2; work = (module_work (codes "ping") (no_parts)); condition = (no_expressions); loop = None; register = None; vars = (no_parts); notify = ([]); changed_when = None; failed_when = None; attempts = None; ignore_errors = None }) (no_steps)); post_tasks = (no_steps); handlers = ([]); forces = false } ∷ []))
book_220 = refl

book_221 : book_from (builtins ++ ([])) (list (item (rec (field (codes "hosts") (text (codes "all")) (field (codes "serial") (list (item (int (pos 4)) (no_items))) (field (codes "tasks") (list (item (rec (field (codes "ping") null (no_fields))) (no_items))) (no_fields))))) (no_items))) ≡ Ok ((record { line = 1; pattern = ((codes "all") ∷ []); gathering = None; vars = (no_parts); is_linear = true; serial = (host_count 4 ∷ []); pre_tasks = (no_steps); tasks = (task_step (record { line = 2; work = (module_work (codes "ping") (no_parts)); condition = (no_expressions); loop = None; register = None; vars = (no_parts); notify = ([]); changed_when = None; failed_when = None; attempts = None; ignore_errors = None }) (no_steps)); post_tasks = (no_steps); handlers = ([]); forces = false } ∷ []))
book_221 = refl

book_222 : book_from (builtins ++ ([])) (list (item (rec (field (codes "hosts") (text (codes "all")) (field (codes "serial") (list (item (list (item (int (pos 1)) (no_items))) (no_items))) (field (codes "tasks") (list (no_items)) (no_fields))))) (no_items))) ≡ Err (record { line = 1; code = 4 })
book_222 = refl

book_223 : book_from (builtins ++ ([])) (list (item (rec (field (codes "hosts") (text (codes "all")) (field (codes "serial") (list (item (text (51 ∷ 48 ∷ 37 ∷ [])) (item (int (pos 1)) (no_items)))) (field (codes "tasks") (list (item (rec (field (codes "ping") null (no_fields))) (no_items))) (no_fields))))) (no_items))) ≡ Ok ((record { line = 1; pattern = ((codes "all") ∷ []); gathering = None; vars = (no_parts); is_linear = true; serial = (percentage 30 ∷ host_count 1 ∷ []); pre_tasks = (no_steps); tasks = (task_step (record { line = 2; work = (module_work (codes "ping") (no_parts)); condition = (no_expressions); loop = None; register = None; vars = (no_parts); notify = ([]); changed_when = None; failed_when = None; attempts = None; ignore_errors = None }) (no_steps)); post_tasks = (no_steps); handlers = ([]); forces = false } ∷ []))
book_223 = refl

book_224 : book_from (builtins ++ ([])) (list (item (rec (field (codes "hosts") (text (codes "all")) (field (codes "serial") (list (item (text (53 ∷ 37 ∷ [])) (item (int (pos 2)) (no_items)))) (field (codes "tasks") (list (no_items)) (no_fields))))) (no_items))) ≡ Ok ((record { line = 1; pattern = ((codes "all") ∷ []); gathering = None; vars = (no_parts); is_linear = true; serial = (percentage 5 ∷ host_count 2 ∷ []); pre_tasks = (no_steps); tasks = (no_steps); post_tasks = (no_steps); handlers = ([]); forces = false } ∷ []))
book_224 = refl

book_225 : book_from (builtins ++ ([])) (list (item (rec (field (codes "hosts") (text (codes "all")) (field (codes "serial") (list (no_items)) (field (codes "tasks") (list (no_items)) (no_fields))))) (no_items))) ≡ Err (record { line = 1; code = 4 })
book_225 = refl

book_226 : book_from (builtins ++ ([])) (list (item (rec (field (codes "hosts") (text (codes "all")) (field (codes "serial") (text (32 ∷ 53 ∷ 37 ∷ [])) (field (codes "tasks") (list (no_items)) (no_fields))))) (no_items))) ≡ Err (record { line = 1; code = 4 })
book_226 = refl

book_227 : book_from (builtins ++ ([])) (list (item (rec (field (codes "hosts") (text (codes "all")) (field (codes "serial") (text (48 ∷ 37 ∷ [])) (field (codes "tasks") (list (no_items)) (no_fields))))) (no_items))) ≡ Err (record { line = 1; code = 4 })
book_227 = refl

book_228 : book_from (builtins ++ ([])) (list (item (rec (field (codes "hosts") (text (codes "all")) (field (codes "serial") (text (49 ∷ 37 ∷ [])) (field (codes "tasks") (list (item (rec (field (codes "ping") null (no_fields))) (no_items))) (no_fields))))) (no_items))) ≡ Ok ((record { line = 1; pattern = ((codes "all") ∷ []); gathering = None; vars = (no_parts); is_linear = true; serial = (percentage 1 ∷ []); pre_tasks = (no_steps); tasks = (task_step (record { line = 2; work = (module_work (codes "ping") (no_parts)); condition = (no_expressions); loop = None; register = None; vars = (no_parts); notify = ([]); changed_when = None; failed_when = None; attempts = None; ignore_errors = None }) (no_steps)); post_tasks = (no_steps); handlers = ([]); forces = false } ∷ []))
book_228 = refl

book_229 : book_from (builtins ++ ([])) (list (item (rec (field (codes "hosts") (text (codes "all")) (field (codes "serial") (text (49 ∷ 37 ∷ [])) (field (codes "tasks") (list (no_items)) (no_fields))))) (no_items))) ≡ Ok ((record { line = 1; pattern = ((codes "all") ∷ []); gathering = None; vars = (no_parts); is_linear = true; serial = (percentage 1 ∷ []); pre_tasks = (no_steps); tasks = (no_steps); post_tasks = (no_steps); handlers = ([]); forces = false } ∷ []))
book_229 = refl

book_230 : book_from (builtins ++ ([])) (list (item (rec (field (codes "hosts") (text (codes "all")) (field (codes "serial") (text (49 ∷ 46 ∷ 53 ∷ 37 ∷ [])) (field (codes "tasks") (list (no_items)) (no_fields))))) (no_items))) ≡ Err (record { line = 1; code = 4 })
book_230 = refl

book_231 : book_from (builtins ++ ([])) (list (item (rec (field (codes "hosts") (text (codes "all")) (field (codes "serial") (text (49 ∷ 48 ∷ 48 ∷ 37 ∷ [])) (field (codes "tasks") (list (no_items)) (no_fields))))) (no_items))) ≡ Ok ((record { line = 1; pattern = ((codes "all") ∷ []); gathering = None; vars = (no_parts); is_linear = true; serial = (percentage 100 ∷ []); pre_tasks = (no_steps); tasks = (no_steps); post_tasks = (no_steps); handlers = ([]); forces = false } ∷ []))
book_231 = refl

book_232 : book_from (builtins ++ ([])) (list (item (rec (field (codes "hosts") (text (codes "all")) (field (codes "serial") (text (51 ∷ 57 ∷ 37 ∷ [])) (field (codes "tasks") (list (item (rec (field (codes "ping") null (no_fields))) (no_items))) (no_fields))))) (no_items))) ≡ Ok ((record { line = 1; pattern = ((codes "all") ∷ []); gathering = None; vars = (no_parts); is_linear = true; serial = (percentage 39 ∷ []); pre_tasks = (no_steps); tasks = (task_step (record { line = 2; work = (module_work (codes "ping") (no_parts)); condition = (no_expressions); loop = None; register = None; vars = (no_parts); notify = ([]); changed_when = None; failed_when = None; attempts = None; ignore_errors = None }) (no_steps)); post_tasks = (no_steps); handlers = ([]); forces = false } ∷ []))
book_232 = refl

book_233 : book_from (builtins ++ ([])) (list (item (rec (field (codes "hosts") (text (codes "all")) (field (codes "serial") (text (52 ∷ 48 ∷ 37 ∷ [])) (field (codes "tasks") (list (item (rec (field (codes "ping") null (no_fields))) (no_items))) (no_fields))))) (no_items))) ≡ Ok ((record { line = 1; pattern = ((codes "all") ∷ []); gathering = None; vars = (no_parts); is_linear = true; serial = (percentage 40 ∷ []); pre_tasks = (no_steps); tasks = (task_step (record { line = 2; work = (module_work (codes "ping") (no_parts)); condition = (no_expressions); loop = None; register = None; vars = (no_parts); notify = ([]); changed_when = None; failed_when = None; attempts = None; ignore_errors = None }) (no_steps)); post_tasks = (no_steps); handlers = ([]); forces = false } ∷ []))
book_233 = refl

book_234 : book_from (builtins ++ ([])) (list (item (rec (field (codes "hosts") (text (codes "all")) (field (codes "serial") (text (53 ∷ 48 ∷ 37 ∷ [])) (field (codes "strategy") (text (codes "free")) (field (codes "tasks") (list (item (rec (field (codes "command") (text (codes "x")) (field (codes "failed_when") (boolean true) (field (codes "register") (text (codes "s")) (field (codes "retries") (int (pos 1)) (field (codes "until") (text (codes "s.changed")) (no_fields))))))) (item (rec (field (codes "debug") (rec (field (codes "msg") (list (item (text (123 ∷ 123 ∷ 32 ∷ 114 ∷ 46 ∷ 114 ∷ 101 ∷ 115 ∷ 117 ∷ 108 ∷ 116 ∷ 115 ∷ 32 ∷ 125 ∷ 125 ∷ [])) (no_items))) (no_fields))) (field (codes "ignore_errors") (boolean true) (field (codes "loop") (list (item (int (pos 1)) (item (int (pos 2)) (no_items)))) (field (codes "register") (text (codes "s")) (no_fields)))))) (no_items)))) (no_fields)))))) (no_items))) ≡ Ok ((record { line = 1; pattern = ((codes "all") ∷ []); gathering = None; vars = (no_parts); is_linear = false; serial = (percentage 50 ∷ []); pre_tasks = (no_steps); tasks = (task_step (record { line = 2; work = (module_work (codes "command") (part (codes "cmd") (literal (text (codes "x"))) (no_parts))); condition = (no_expressions); loop = None; register = (Some (codes "s")); vars = (no_parts); notify = ([]); changed_when = None; failed_when = (Some (expression (literal (boolean true)) (no_expressions))); attempts = (Some (record { until = (expression (path (variable (codes "s")) ((codes "changed") ∷ [])) (no_expressions)); retries = 1 })); ignore_errors = None }) (task_step (record { line = 3; work = (debug_work (part (codes "msg") (list_of (expression (path (variable (codes "r")) ((codes "results") ∷ [])) (no_expressions))) (no_parts))); condition = (no_expressions); loop = (Some (literal (list (item (int (pos 1)) (item (int (pos 2)) (no_items)))))); register = (Some (codes "s")); vars = (no_parts); notify = ([]); changed_when = None; failed_when = None; attempts = None; ignore_errors = (Some true) }) (no_steps))); post_tasks = (no_steps); handlers = ([]); forces = false } ∷ []))
book_234 = refl

book_235 : book_from (builtins ++ ([])) (list (item (rec (field (codes "hosts") (text (codes "all")) (field (codes "serial") (text (53 ∷ 48 ∷ 37 ∷ [])) (field (codes "tasks") (list (item (rec (field (codes "always") (list (no_items)) (field (codes "block") (list (no_items)) (field (codes "rescue") (list (item (rec (field (codes "set_fact") (rec (field (codes "s") (text (123 ∷ 123 ∷ 32 ∷ 103 ∷ 114 ∷ 111 ∷ 117 ∷ 112 ∷ 95 ∷ 110 ∷ 97 ∷ 109 ∷ 101 ∷ 115 ∷ 46 ∷ 111 ∷ 115 ∷ 95 ∷ 102 ∷ 97 ∷ 109 ∷ 105 ∷ 108 ∷ 121 ∷ 32 ∷ 124 ∷ 32 ∷ 100 ∷ 101 ∷ 102 ∷ 97 ∷ 117 ∷ 108 ∷ 116 ∷ 40 ∷ 121 ∷ 41 ∷ 32 ∷ 125 ∷ 125 ∷ [])) (no_fields))) (no_fields))) (no_items))) (no_fields))))) (no_items))) (no_fields))))) (no_items))) ≡ Ok ((record { line = 1; pattern = ((codes "all") ∷ []); gathering = None; vars = (no_parts); is_linear = true; serial = (percentage 50 ∷ []); pre_tasks = (no_steps); tasks = (block_step (record { line = 2; condition = (no_expressions); vars = (no_parts); ignore_errors = None }) (no_steps) (task_step (record { line = 3; work = (set_fact_work (part (codes "s") (path_or (variable (codes "group_names")) ((codes "os_family") ∷ []) (path (variable (codes "y")) ([]))) (no_parts))); condition = (no_expressions); loop = None; register = None; vars = (no_parts); notify = ([]); changed_when = None; failed_when = None; attempts = None; ignore_errors = None }) (no_steps)) (no_steps) (no_steps)); post_tasks = (no_steps); handlers = ([]); forces = false } ∷ []))
book_235 = refl

book_236 : book_from (builtins ++ ([])) (list (item (rec (field (codes "hosts") (text (codes "all")) (field (codes "serial") (text (57 ∷ 57 ∷ 37 ∷ [])) (field (codes "tasks") (list (item (rec (field (codes "ping") null (no_fields))) (no_items))) (no_fields))))) (no_items))) ≡ Ok ((record { line = 1; pattern = ((codes "all") ∷ []); gathering = None; vars = (no_parts); is_linear = true; serial = (percentage 99 ∷ []); pre_tasks = (no_steps); tasks = (task_step (record { line = 2; work = (module_work (codes "ping") (no_parts)); condition = (no_expressions); loop = None; register = None; vars = (no_parts); notify = ([]); changed_when = None; failed_when = None; attempts = None; ignore_errors = None }) (no_steps)); post_tasks = (no_steps); handlers = ([]); forces = false } ∷ []))
book_236 = refl

book_237 : book_from (builtins ++ ([])) (list (item (rec (field (codes "hosts") (text (codes "all")) (field (codes "serial") opaque (no_fields)))) (no_items))) ≡ Err (record { line = 1; code = 4 })
book_237 = refl

book_238 : book_from (builtins ++ ([])) (list (item (rec (field (codes "hosts") (text (codes "all")) (field (codes "strategy") (text (codes "free")) (field (codes "tasks") (list (item (rec (field (codes "command") (text (codes "x")) (field (codes "ignore_errors") (boolean false) (field (codes "register") (text (codes "r")) (no_fields))))) (item (rec (field (codes "block") (list (item (rec (field (codes "ignore_errors") (boolean true) (field (codes "stat") (rec (field (codes "path") (text (codes "p")) (no_fields))) (field (codes "when") (text (104 ∷ 111 ∷ 115 ∷ 116 ∷ 118 ∷ 97 ∷ 114 ∷ 115 ∷ 91 ∷ 105 ∷ 116 ∷ 101 ∷ 109 ∷ 93 ∷ 46 ∷ 111 ∷ 112 ∷ 113 ∷ 46 ∷ 109 ∷ 115 ∷ 103 ∷ 32 ∷ 105 ∷ 115 ∷ 32 ∷ 115 ∷ 117 ∷ 99 ∷ 99 ∷ 101 ∷ 101 ∷ 100 ∷ 101 ∷ 100 ∷ [])) (no_fields))))) (item (rec (field (codes "ignore_errors") (boolean false) (field (codes "loop") (list (item (int (pos 1)) (item (int (pos 2)) (no_items)))) (field (codes "register") (text (codes "r")) (field (codes "set_fact") (rec (field (codes "y") (text (123 ∷ 123 ∷ 32 ∷ 110 ∷ 111 ∷ 116 ∷ 32 ∷ 40 ∷ 114 ∷ 46 ∷ 115 ∷ 116 ∷ 97 ∷ 116 ∷ 46 ∷ 105 ∷ 115 ∷ 100 ∷ 105 ∷ 114 ∷ 32 ∷ 60 ∷ 32 ∷ 51 ∷ 41 ∷ 32 ∷ 125 ∷ 125 ∷ [])) (no_fields))) (field (codes "when") (list (item (text (codes "r is defined")) (item (text (codes "not (r is undefined or r is failed)")) (no_items)))) (no_fields))))))) (no_items)))) (no_fields))) (no_items)))) (no_fields))))) (no_items))) ≡ Ok ((record { line = 1; pattern = ((codes "all") ∷ []); gathering = None; vars = (no_parts); is_linear = false; serial = ([]); pre_tasks = (no_steps); tasks = (task_step (record { line = 2; work = (module_work (codes "command") (part (codes "cmd") (literal (text (codes "x"))) (no_parts))); condition = (no_expressions); loop = None; register = (Some (codes "r")); vars = (no_parts); notify = ([]); changed_when = None; failed_when = None; attempts = None; ignore_errors = (Some false) }) (block_step (record { line = 3; condition = (no_expressions); vars = (no_parts); ignore_errors = None }) (task_step (record { line = 4; work = (module_work (codes "stat") (part (codes "path") (literal (text (codes "p"))) (no_parts))); condition = (expression (negation (path_status is_failed (other item_host (codes "opq")) ((codes "msg") ∷ []))) (no_expressions)); loop = None; register = None; vars = (no_parts); notify = ([]); changed_when = None; failed_when = None; attempts = None; ignore_errors = (Some true) }) (task_step (record { line = 5; work = (set_fact_work (part (codes "y") (negation (comparison less (path (variable (codes "r")) ((codes "stat") ∷ (codes "isdir") ∷ [])) (literal (int (pos 3))))) (no_parts))); condition = (expression (defined (variable (codes "r")) ([])) (expression (negation (disjunction (expression (negation (defined (variable (codes "r")) ([]))) (expression (path_status is_failed (variable (codes "r")) ([])) (no_expressions))))) (no_expressions))); loop = (Some (literal (list (item (int (pos 1)) (item (int (pos 2)) (no_items)))))); register = (Some (codes "r")); vars = (no_parts); notify = ([]); changed_when = None; failed_when = None; attempts = None; ignore_errors = (Some false) }) (no_steps))) (no_steps) (no_steps) (no_steps))); post_tasks = (no_steps); handlers = ([]); forces = false } ∷ []))
book_238 = refl

book_239 : book_from (builtins ++ ([])) (list (item (rec (field (codes "hosts") (text (codes "all")) (field (codes "tasks") (list (item (rec (field (codes "action") null (field (codes "ping") null (no_fields)))) (no_items))) (no_fields)))) (no_items))) ≡ Err (record { line = 2; code = 3 })
book_239 = refl
