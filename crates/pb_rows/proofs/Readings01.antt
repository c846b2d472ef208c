-- The books of cases as they are read, computed.
use Rattle.std.specs.Prelude.{◌≡◌, refl, pos, [], ◌∷◌, ◌++◌, true, false, Some, None, Ok, Err, codes}
use Rattle.pb_semantics.specs.Data.{null, boolean, int, text, list, rec, no_items, item, no_fields, field}
use Rattle.pb_language.specs.Expression.{equal, less, is_failed, is_changed, is_skipped, this_host, item_host, literal, path, negation, conjunction, disjunction, comparison, in_batch, defined, path_status, path_or, length_of, concatenation, list_of, record_of, variable, other, no_expressions, expression, no_parts, part}
use Rattle.pb_language.specs.Book.{conditions_are, module_work, debug_work, set_fact_work, assert_work, fail_work, no_steps, task_step, block_step, flush_step, host_count, percentage}
use Rattle.pb_language.specs.BookForm.{book_from}
use Rattle.pb_language.specs.Builtins.{builtins}

book_0 : book_from (builtins ++ ([])) (list (item (list (item (list (item (list (item (list (item (list (item (list (item (list (item (list (item (list (item (list (item (list (item (list (item (list (item (list (item (list (item (list (item (list (item (list (item (list (item (list (item (list (item (list (item (list (item (list (item (list (item (list (item (list (item (list (item (list (item (list (item (list (item (list (item (list (item (list (item (list (item (list (item (list (item (list (item (list (item (list (item (list (item (list (item (list (item (list (item (list (item (list (item (list (item (list (item (list (item (list (item (list (item (list (item (list (item (list (item (list (item (list (item (list (item (list (item (list (item (list (item (list (item (list (item (list (item (list (item (list (item (list (item (list (item (list (item (list (item (list (item (list (item (list (item (list (item (list (item (list (item (list (item (list (item (list (item (list (item (list (item (list (item (list (item (list (item (list (item (list (item (list (item (list (item (list (item (list (item (list (item (list (item (list (item (list (item (list (item (list (item (list (item (list (item (list (item (list (item (list (item (list (item (list (item (list (item (list (item (list (item (list (item (list (item (list (item (list (item (list (item (list (item (list (item (list (item (list (item (list (item (list (item (list (item (list (item (list (item (list (item (list (item (list (item (list (item (list (item (list (no_items)) (no_items))) (no_items))) (no_items))) (no_items))) (no_items))) (no_items))) (no_items))) (no_items))) (no_items))) (no_items))) (no_items))) (no_items))) (no_items))) (no_items))) (no_items))) (no_items))) (no_items))) (no_items))) (no_items))) (no_items))) (no_items))) (no_items))) (no_items))) (no_items))) (no_items))) (no_items))) (no_items))) (no_items))) (no_items))) (no_items))) (no_items))) (no_items))) (no_items))) (no_items))) (no_items))) (no_items))) (no_items))) (no_items))) (no_items))) (no_items))) (no_items))) (no_items))) (no_items))) (no_items))) (no_items))) (no_items))) (no_items))) (no_items))) (no_items))) (no_items))) (no_items))) (no_items))) (no_items))) (no_items))) (no_items))) (no_items))) (no_items))) (no_items))) (no_items))) (no_items))) (no_items))) (no_items))) (no_items))) (no_items))) (no_items))) (no_items))) (no_items))) (no_items))) (no_items))) (no_items))) (no_items))) (no_items))) (no_items))) (no_items))) (no_items))) (no_items))) (no_items))) (no_items))) (no_items))) (no_items))) (no_items))) (no_items))) (no_items))) (no_items))) (no_items))) (no_items))) (no_items))) (no_items))) (no_items))) (no_items))) (no_items))) (no_items))) (no_items))) (no_items))) (no_items))) (no_items))) (no_items))) (no_items))) (no_items))) (no_items))) (no_items))) (no_items))) (no_items))) (no_items))) (no_items))) (no_items))) (no_items))) (no_items))) (no_items))) (no_items))) (no_items))) (no_items))) (no_items))) (no_items))) (no_items))) (no_items))) (no_items))) (no_items))) (no_items))) (no_items))) (no_items))) (no_items))) (no_items))) (no_items))) (no_items))) ≡ Err (record { line = 1; code = 2 })
book_0 = refl

book_1 : book_from (builtins ++ ([])) (list (item (list (no_items)) (no_items))) ≡ Err (record { line = 1; code = 2 })
book_1 = refl

book_2 : book_from (builtins ++ ([])) (list (item (rec (field (codes "become") (boolean true) (field (codes "hosts") (text (codes "all")) (no_fields)))) (no_items))) ≡ Err (record { line = 1; code = 3 })
book_2 = refl

book_3 : book_from (builtins ++ ([])) (list (item (rec (field (codes "force_handlers") (boolean true) (field (codes "gather_facts") (boolean true) (field (codes "handlers") (list (item (rec (field (codes "debug") (rec (field (codes "msg") (text (123 ∷ 123 ∷ 32 ∷ 97 ∷ 110 ∷ 115 ∷ 105 ∷ 98 ∷ 108 ∷ 101 ∷ 95 ∷ 104 ∷ 111 ∷ 115 ∷ 116 ∷ 110 ∷ 97 ∷ 109 ∷ 101 ∷ 32 ∷ 125 ∷ 125 ∷ [])) (no_fields))) (field (codes "name") (text (codes "r")) (no_fields)))) (no_items))) (field (codes "hosts") (text (codes "all")) (field (codes "tasks") (list (item (rec (field (codes "debug") (rec (field (codes "msg") (text (123 ∷ 123 ∷ 32 ∷ 49 ∷ 32 ∷ 125 ∷ 125 ∷ [])) (no_fields))) (no_fields))) (no_items))) (no_fields))))))) (no_items))) ≡ Ok ((record { line = 1; pattern = ((codes "all") ∷ []); gathering = (Some 2); vars = (no_parts); is_linear = true; serial = ([]); pre_tasks = (no_steps); tasks = (task_step (record { line = 3; work = (debug_work (part (codes "msg") (literal (int (pos 1))) (no_parts))); condition = (no_expressions); loop = None; register = None; vars = (no_parts); notify = ([]); changed_when = None; failed_when = None; attempts = None; ignore_errors = None }) (no_steps)); post_tasks = (no_steps); handlers = (record { work = (record { line = 4; work = (debug_work (part (codes "msg") (path (variable (codes "ansible_hostname")) ([])) (no_parts))); condition = (no_expressions); loop = None; register = None; vars = (no_parts); notify = ([]); changed_when = None; failed_when = None; attempts = None; ignore_errors = None }); name = (Some (codes "r")); topics = ([]) } ∷ []); forces = true } ∷ []))
book_3 = refl

book_4 : book_from (builtins ++ ([])) (list (item (rec (field (codes "force_handlers") (boolean true) (field (codes "gather_facts") (boolean true) (field (codes "handlers") (list (item (rec (field (codes "name") (text (codes "h0")) (field (codes "ping") null (field (codes "register") (text (codes "s")) (field (codes "vars") (rec (field (codes "v1") (text (123 ∷ 123 ∷ 32 ∷ 114 ∷ 46 ∷ 115 ∷ 116 ∷ 100 ∷ 111 ∷ 117 ∷ 116 ∷ 32 ∷ 125 ∷ 125 ∷ [])) (no_fields))) (no_fields)))))) (no_items))) (field (codes "hosts") (text (codes "a")) (field (codes "tasks") (list (item (rec (field (codes "always") (list (no_items)) (field (codes "block") (list (no_items)) (no_fields)))) (no_items))) (no_fields))))))) (no_items))) ≡ Ok ((record { line = 1; pattern = ((codes "a") ∷ []); gathering = (Some 2); vars = (no_parts); is_linear = true; serial = ([]); pre_tasks = (no_steps); tasks = (block_step (record { line = 3; condition = (no_expressions); vars = (no_parts); ignore_errors = None }) (no_steps) (no_steps) (no_steps) (no_steps)); post_tasks = (no_steps); handlers = (record { work = (record { line = 4; work = (module_work (codes "ping") (no_parts)); condition = (no_expressions); loop = None; register = (Some (codes "s")); vars = (part (codes "v1") (path (variable (codes "r")) ((codes "stdout") ∷ [])) (no_parts)); notify = ([]); changed_when = None; failed_when = None; attempts = None; ignore_errors = None }); name = (Some (codes "h0")); topics = ([]) } ∷ []); forces = true } ∷ []))
book_4 = refl

book_5 : book_from (builtins ++ ([])) (list (item (rec (field (codes "force_handlers") (boolean true) (field (codes "gather_facts") (boolean true) (field (codes "hosts") (text (codes "b,a")) (field (codes "tasks") (list (item (rec (field (codes "set_fact") (rec (field (codes "s") (text (123 ∷ 123 ∷ 32 ∷ 97 ∷ 110 ∷ 115 ∷ 105 ∷ 98 ∷ 108 ∷ 101 ∷ 95 ∷ 102 ∷ 97 ∷ 99 ∷ 116 ∷ 115 ∷ 46 ∷ 115 ∷ 116 ∷ 97 ∷ 116 ∷ 46 ∷ 105 ∷ 115 ∷ 100 ∷ 105 ∷ 114 ∷ 32 ∷ 105 ∷ 115 ∷ 32 ∷ 102 ∷ 97 ∷ 105 ∷ 108 ∷ 101 ∷ 100 ∷ 32 ∷ 125 ∷ 125 ∷ [])) (no_fields))) (field (codes "when") (text (codes "not (ansible_facts.rc is failed)")) (no_fields)))) (no_items))) (no_fields)))))) (no_items))) ≡ Ok ((record { line = 1; pattern = ((codes "b") ∷ (codes "a") ∷ []); gathering = (Some 2); vars = (no_parts); is_linear = true; serial = ([]); pre_tasks = (no_steps); tasks = (task_step (record { line = 3; work = (set_fact_work (part (codes "s") (path_status is_failed (variable (codes "ansible_facts")) ((codes "stat") ∷ (codes "isdir") ∷ [])) (no_parts))); condition = (expression (negation (path_status is_failed (variable (codes "ansible_facts")) ((codes "rc") ∷ []))) (no_expressions)); loop = None; register = None; vars = (no_parts); notify = ([]); changed_when = None; failed_when = None; attempts = None; ignore_errors = None }) (no_steps)); post_tasks = (no_steps); handlers = ([]); forces = true } ∷ []))
book_5 = refl

book_6 : book_from (builtins ++ ([])) (list (item (rec (field (codes "force_handlers") (boolean true) (field (codes "handlers") (list (item (rec (field (codes "command") (rec (field (codes "cmd") (rec (field (codes "k") (list (item (int (pos 1)) (item (int (pos 2)) (no_items)))) (no_fields))) (no_fields))) (field (codes "ignore_errors") (boolean true) (field (codes "name") (text (codes "h0")) (field (codes "when") (list (item (text (codes "s is defined and s is not failed")) (no_items))) (no_fields)))))) (item (rec (field (codes "changed_when") (text (codes "r is changed")) (field (codes "command") (rec (field (codes "cmd") (text (123 ∷ 123 ∷ 32 ∷ 103 ∷ 114 ∷ 111 ∷ 117 ∷ 112 ∷ 95 ∷ 110 ∷ 97 ∷ 109 ∷ 101 ∷ 115 ∷ 46 ∷ 109 ∷ 115 ∷ 103 ∷ 32 ∷ 125 ∷ 125 ∷ [])) (no_fields))) (field (codes "failed_when") (boolean false) (field (codes "name") (text (codes "h1")) (field (codes "register") (text (codes "r")) (no_fields))))))) (no_items)))) (field (codes "hosts") (text (codes "g")) (field (codes "tasks") (list (item (rec (field (codes "command") (text (codes "x")) (field (codes "notify") (text (codes "h0")) (field (codes "register") (text (codes "r")) (no_fields))))) (item (rec (field (codes "retries") (int (pos 1)) (field (codes "stat") (rec (field (codes "path") (text (codes "p")) (no_fields))) (field (codes "until") (boolean true) (field (codes "vars") (rec (field (codes "v2") (rec (field (codes "k") (rec (field (codes "k") (text (123 ∷ 123 ∷ 32 ∷ 121 ∷ 32 ∷ 125 ∷ 125 ∷ [])) (no_fields))) (no_fields))) (no_fields))) (no_fields)))))) (item (rec (field (codes "command") (text (codes "x")) (field (codes "notify") (text (codes "h1")) (field (codes "vars") (rec (field (codes "v2") (list (item (text (123 ∷ 123 ∷ 32 ∷ 114 ∷ 46 ∷ 114 ∷ 101 ∷ 115 ∷ 117 ∷ 108 ∷ 116 ∷ 115 ∷ 32 ∷ 125 ∷ 125 ∷ [])) (no_items))) (no_fields))) (field (codes "when") (list (item (text (codes "y is defined")) (no_items))) (no_fields)))))) (no_items))))) (no_fields)))))) (no_items))) ≡ Ok ((record { line = 1; pattern = ((codes "g") ∷ []); gathering = None; vars = (no_parts); is_linear = true; serial = ([]); pre_tasks = (no_steps); tasks = (task_step (record { line = 2; work = (module_work (codes "command") (part (codes "cmd") (literal (text (codes "x"))) (no_parts))); condition = (no_expressions); loop = None; register = (Some (codes "r")); vars = (no_parts); notify = ((codes "h0") ∷ []); changed_when = None; failed_when = None; attempts = None; ignore_errors = None }) (task_step (record { line = 3; work = (module_work (codes "stat") (part (codes "path") (literal (text (codes "p"))) (no_parts))); condition = (no_expressions); loop = None; register = None; vars = (part (codes "v2") (record_of (part (codes "k") (record_of (part (codes "k") (path (variable (codes "y")) ([])) (no_parts))) (no_parts))) (no_parts)); notify = ([]); changed_when = None; failed_when = None; attempts = (Some (record { until = (expression (literal (boolean true)) (no_expressions)); retries = 1 })); ignore_errors = None }) (task_step (record { line = 4; work = (module_work (codes "command") (part (codes "cmd") (literal (text (codes "x"))) (no_parts))); condition = (expression (defined (variable (codes "y")) ([])) (no_expressions)); loop = None; register = None; vars = (part (codes "v2") (list_of (expression (path (variable (codes "r")) ((codes "results") ∷ [])) (no_expressions))) (no_parts)); notify = ((codes "h1") ∷ []); changed_when = None; failed_when = None; attempts = None; ignore_errors = None }) (no_steps)))); post_tasks = (no_steps); handlers = (record { work = (record { line = 5; work = (module_work (codes "command") (part (codes "cmd") (literal (rec (field (codes "k") (list (item (int (pos 1)) (item (int (pos 2)) (no_items)))) (no_fields)))) (no_parts))); condition = (expression (conjunction (expression (defined (variable (codes "s")) ([])) (expression (negation (path_status is_failed (variable (codes "s")) ([]))) (no_expressions)))) (no_expressions)); loop = None; register = None; vars = (no_parts); notify = ([]); changed_when = None; failed_when = None; attempts = None; ignore_errors = (Some true) }); name = (Some (codes "h0")); topics = ([]) } ∷ record { work = (record { line = 6; work = (module_work (codes "command") (part (codes "cmd") (path (variable (codes "group_names")) ((codes "msg") ∷ [])) (no_parts))); condition = (no_expressions); loop = None; register = (Some (codes "r")); vars = (no_parts); notify = ([]); changed_when = (Some (expression (path_status is_changed (variable (codes "r")) ([])) (no_expressions))); failed_when = (Some (expression (literal (boolean false)) (no_expressions))); attempts = None; ignore_errors = None }); name = (Some (codes "h1")); topics = ([]) } ∷ []); forces = true } ∷ []))
book_6 = refl

book_7 : book_from (builtins ++ ([])) (list (item (rec (field (codes "force_handlers") (boolean true) (field (codes "handlers") (list (item (rec (field (codes "command") (rec (field (codes "cmd") (text (120 ∷ 123 ∷ 123 ∷ 32 ∷ 118 ∷ 49 ∷ 46 ∷ 111 ∷ 115 ∷ 95 ∷ 102 ∷ 97 ∷ 109 ∷ 105 ∷ 108 ∷ 121 ∷ 32 ∷ 124 ∷ 32 ∷ 108 ∷ 101 ∷ 110 ∷ 103 ∷ 116 ∷ 104 ∷ 32 ∷ 125 ∷ 125 ∷ [])) (no_fields))) (field (codes "loop") (list (item (int (pos 1)) (item (int (pos 2)) (no_items)))) (field (codes "name") (text (codes "h0")) (no_fields))))) (no_items))) (field (codes "hosts") (text (codes "all")) (field (codes "pre_tasks") (list (item (rec (field (codes "failed_when") (boolean true) (field (codes "register") (text (codes "r")) (field (codes "set_fact") (rec (field (codes "s") (text (120 ∷ 123 ∷ 123 ∷ 32 ∷ 118 ∷ 49 ∷ 46 ∷ 114 ∷ 101 ∷ 115 ∷ 117 ∷ 108 ∷ 116 ∷ 115 ∷ 32 ∷ 125 ∷ 125 ∷ [])) (no_fields))) (field (codes "vars") (rec (field (codes "v1") (text (123 ∷ 123 ∷ 32 ∷ 114 ∷ 46 ∷ 102 ∷ 97 ∷ 105 ∷ 108 ∷ 101 ∷ 100 ∷ 32 ∷ 125 ∷ 125 ∷ [])) (no_fields))) (no_fields)))))) (no_items))) (field (codes "strategy") (text (codes "free")) (field (codes "tasks") (list (item (rec (field (codes "command") (text (codes "x")) (field (codes "loop") (list (item (text (codes "a")) (item (text (codes "b")) (no_items)))) (no_fields)))) (no_items))) (no_fields)))))))) (no_items))) ≡ Ok ((record { line = 1; pattern = ((codes "all") ∷ []); gathering = None; vars = (no_parts); is_linear = false; serial = ([]); pre_tasks = (task_step (record { line = 2; work = (set_fact_work (part (codes "s") (concatenation (expression (literal (text (codes "x"))) (expression (path (variable (codes "v1")) ((codes "results") ∷ [])) (no_expressions)))) (no_parts))); condition = (no_expressions); loop = None; register = (Some (codes "r")); vars = (part (codes "v1") (path (variable (codes "r")) ((codes "failed") ∷ [])) (no_parts)); notify = ([]); changed_when = None; failed_when = (Some (expression (literal (boolean true)) (no_expressions))); attempts = None; ignore_errors = None }) (no_steps)); tasks = (task_step (record { line = 3; work = (module_work (codes "command") (part (codes "cmd") (literal (text (codes "x"))) (no_parts))); condition = (no_expressions); loop = (Some (literal (list (item (text (codes "a")) (item (text (codes "b")) (no_items)))))); register = None; vars = (no_parts); notify = ([]); changed_when = None; failed_when = None; attempts = None; ignore_errors = None }) (no_steps)); post_tasks = (no_steps); handlers = (record { work = (record { line = 4; work = (module_work (codes "command") (part (codes "cmd") (concatenation (expression (literal (text (codes "x"))) (expression (length_of (path (variable (codes "v1")) ((codes "os_family") ∷ []))) (no_expressions)))) (no_parts))); condition = (no_expressions); loop = (Some (literal (list (item (int (pos 1)) (item (int (pos 2)) (no_items)))))); register = None; vars = (no_parts); notify = ([]); changed_when = None; failed_when = None; attempts = None; ignore_errors = None }); name = (Some (codes "h0")); topics = ([]) } ∷ []); forces = true } ∷ []))
book_7 = refl

book_8 : book_from (builtins ++ ([])) (list (item (rec (field (codes "force_handlers") (boolean true) (field (codes "handlers") (list (item (rec (field (codes "debug") (rec (field (codes "msg") (text (123 ∷ 123 ∷ 32 ∷ 111 ∷ 117 ∷ 116 ∷ 46 ∷ 114 ∷ 99 ∷ 32 ∷ 125 ∷ 125 ∷ [])) (no_fields))) (field (codes "name") (text (codes "r")) (no_fields)))) (no_items))) (field (codes "hosts") (text (codes "all")) (field (codes "tasks") (list (item (rec (field (codes "block") (list (item (rec (field (codes "command") (text (codes "x")) (no_fields))) (item (rec (field (codes "command") (text (codes "x")) (field (codes "register") (text (codes "out")) (no_fields)))) (no_items)))) (no_fields))) (no_items))) (no_fields)))))) (no_items))) ≡ Ok ((record { line = 1; pattern = ((codes "all") ∷ []); gathering = None; vars = (no_parts); is_linear = true; serial = ([]); pre_tasks = (no_steps); tasks = (block_step (record { line = 2; condition = (no_expressions); vars = (no_parts); ignore_errors = None }) (task_step (record { line = 3; work = (module_work (codes "command") (part (codes "cmd") (literal (text (codes "x"))) (no_parts))); condition = (no_expressions); loop = None; register = None; vars = (no_parts); notify = ([]); changed_when = None; failed_when = None; attempts = None; ignore_errors = None }) (task_step (record { line = 4; work = (module_work (codes "command") (part (codes "cmd") (literal (text (codes "x"))) (no_parts))); condition = (no_expressions); loop = None; register = (Some (codes "out")); vars = (no_parts); notify = ([]); changed_when = None; failed_when = None; attempts = None; ignore_errors = None }) (no_steps))) (no_steps) (no_steps) (no_steps)); post_tasks = (no_steps); handlers = (record { work = (record { line = 5; work = (debug_work (part (codes "msg") (path (variable (codes "out")) ((codes "rc") ∷ [])) (no_parts))); condition = (no_expressions); loop = None; register = None; vars = (no_parts); notify = ([]); changed_when = None; failed_when = None; attempts = None; ignore_errors = None }); name = (Some (codes "r")); topics = ([]) } ∷ []); forces = true } ∷ []))
book_8 = refl

book_9 : book_from (builtins ++ ([])) (list (item (rec (field (codes "force_handlers") (boolean true) (field (codes "handlers") (list (item (rec (field (codes "loop") (list (item (text (codes "a")) (item (text (codes "b")) (no_items)))) (field (codes "name") (text (codes "h0")) (field (codes "register") (text (codes "r")) (field (codes "setup") null (no_fields)))))) (no_items))) (field (codes "hosts") (text (codes "all")) (field (codes "post_tasks") (list (item (rec (field (codes "fail") null (field (codes "loop") (text (123 ∷ 123 ∷ 32 ∷ 105 ∷ 110 ∷ 118 ∷ 32 ∷ 125 ∷ 125 ∷ [])) (no_fields)))) (item (rec (field (codes "ignore_errors") (boolean true) (field (codes "loop") (list (no_items)) (field (codes "ping") null (field (codes "register") (text (codes "r")) (no_fields)))))) (item (rec (field (codes "fail") (rec (field (codes "msg") (text (codes "m")) (no_fields))) (field (codes "ignore_errors") (boolean true) (field (codes "register") (text (codes "s")) (field (codes "vars") (rec (field (codes "v2") (text (120 ∷ 123 ∷ 123 ∷ 32 ∷ 104 ∷ 111 ∷ 115 ∷ 116 ∷ 118 ∷ 97 ∷ 114 ∷ 115 ∷ 91 ∷ 105 ∷ 116 ∷ 101 ∷ 109 ∷ 93 ∷ 46 ∷ 105 ∷ 110 ∷ 118 ∷ 32 ∷ 125 ∷ 125 ∷ [])) (no_fields))) (no_fields)))))) (item (rec (field (codes "meta") (text (codes "flush_handlers")) (no_fields))) (no_items)))))) (field (codes "tasks") (list (item (rec (field (codes "command") (text (codes "x")) (field (codes "loop") (text (123 ∷ 123 ∷ 32 ∷ 114 ∷ 46 ∷ 114 ∷ 101 ∷ 115 ∷ 117 ∷ 108 ∷ 116 ∷ 115 ∷ 32 ∷ 125 ∷ 125 ∷ [])) (no_fields)))) (item (rec (field (codes "block") (list (item (rec (field (codes "loop") (text (123 ∷ 123 ∷ 32 ∷ 97 ∷ 110 ∷ 115 ∷ 105 ∷ 98 ∷ 108 ∷ 101 ∷ 95 ∷ 112 ∷ 108 ∷ 97 ∷ 121 ∷ 95 ∷ 98 ∷ 97 ∷ 116 ∷ 99 ∷ 104 ∷ 32 ∷ 125 ∷ 125 ∷ [])) (field (codes "notify") (text (codes "h0")) (field (codes "register") (text (codes "s")) (field (codes "set_fact") (rec (field (codes "y") (text (123 ∷ 123 ∷ 32 ∷ 105 ∷ 110 ∷ 118 ∷ 32 ∷ 125 ∷ 125 ∷ [])) (no_fields))) (field (codes "when") (text (codes "((item.msg < 3) or (r)) or (not (r.failed is succeeded))")) (no_fields))))))) (no_items))) (no_fields))) (item (rec (field (codes "notify") (text (codes "h0")) (field (codes "set_fact") (rec (field (codes "s") (rec (field (codes "k") (int (pos 1)) (no_fields))) (no_fields))) (no_fields)))) (no_items))))) (no_fields))))))) (no_items))) ≡ Ok ((record { line = 1; pattern = ((codes "all") ∷ []); gathering = None; vars = (no_parts); is_linear = true; serial = ([]); pre_tasks = (no_steps); tasks = (task_step (record { line = 2; work = (module_work (codes "command") (part (codes "cmd") (literal (text (codes "x"))) (no_parts))); condition = (no_expressions); loop = (Some (path (variable (codes "r")) ((codes "results") ∷ []))); register = None; vars = (no_parts); notify = ([]); changed_when = None; failed_when = None; attempts = None; ignore_errors = None }) (block_step (record { line = 3; condition = (no_expressions); vars = (no_parts); ignore_errors = None }) (task_step (record { line = 4; work = (set_fact_work (part (codes "y") (path (variable (codes "inv")) ([])) (no_parts))); condition = (expression (disjunction (expression (disjunction (expression (comparison less (path (variable (codes "item")) ((codes "msg") ∷ [])) (literal (int (pos 3)))) (expression (path (variable (codes "r")) ([])) (no_expressions)))) (expression (negation (negation (path_status is_failed (variable (codes "r")) ((codes "failed") ∷ [])))) (no_expressions)))) (no_expressions)); loop = (Some (path (variable (codes "ansible_play_batch")) ([]))); register = (Some (codes "s")); vars = (no_parts); notify = ((codes "h0") ∷ []); changed_when = None; failed_when = None; attempts = None; ignore_errors = None }) (no_steps)) (no_steps) (no_steps) (task_step (record { line = 5; work = (set_fact_work (part (codes "s") (literal (rec (field (codes "k") (int (pos 1)) (no_fields)))) (no_parts))); condition = (no_expressions); loop = None; register = None; vars = (no_parts); notify = ((codes "h0") ∷ []); changed_when = None; failed_when = None; attempts = None; ignore_errors = None }) (no_steps)))); post_tasks = (task_step (record { line = 6; work = (fail_work (no_parts)); condition = (no_expressions); loop = (Some (path (variable (codes "inv")) ([]))); register = None; vars = (no_parts); notify = ([]); changed_when = None; failed_when = None; attempts = None; ignore_errors = None }) (task_step (record { line = 7; work = (module_work (codes "ping") (no_parts)); condition = (no_expressions); loop = (Some (literal (list (no_items)))); register = (Some (codes "r")); vars = (no_parts); notify = ([]); changed_when = None; failed_when = None; attempts = None; ignore_errors = (Some true) }) (task_step (record { line = 8; work = (fail_work (part (codes "msg") (literal (text (codes "m"))) (no_parts))); condition = (no_expressions); loop = None; register = (Some (codes "s")); vars = (part (codes "v2") (concatenation (expression (literal (text (codes "x"))) (expression (path (other item_host (codes "inv")) ([])) (no_expressions)))) (no_parts)); notify = ([]); changed_when = None; failed_when = None; attempts = None; ignore_errors = (Some true) }) (flush_step 9 (no_steps))))); handlers = (record { work = (record { line = 10; work = (module_work (codes "setup") (no_parts)); condition = (no_expressions); loop = (Some (literal (list (item (text (codes "a")) (item (text (codes "b")) (no_items)))))); register = (Some (codes "r")); vars = (no_parts); notify = ([]); changed_when = None; failed_when = None; attempts = None; ignore_errors = None }); name = (Some (codes "h0")); topics = ([]) } ∷ []); forces = true } ∷ []))
book_9 = refl

book_10 : book_from (builtins ++ ([])) (list (item (rec (field (codes "force_handlers") (boolean true) (field (codes "handlers") (list (item (rec (field (codes "name") (text (codes "a")) (field (codes "notify") (text (codes "c")) (field (codes "ping") null (no_fields))))) (item (rec (field (codes "name") (text (codes "b")) (field (codes "ping") null (no_fields)))) (item (rec (field (codes "listen") (list (item (text (codes "b")) (no_items))) (field (codes "name") (text (codes "c")) (field (codes "ping") null (no_fields))))) (no_items))))) (field (codes "hosts") (text (codes "all")) (field (codes "tasks") (list (item (rec (field (codes "notify") (text (codes "a")) (field (codes "ping") null (no_fields)))) (item (rec (field (codes "ping") null (no_fields))) (no_items)))) (no_fields)))))) (no_items))) ≡ Ok ((record { line = 1; pattern = ((codes "all") ∷ []); gathering = None; vars = (no_parts); is_linear = true; serial = ([]); pre_tasks = (no_steps); tasks = (task_step (record { line = 2; work = (module_work (codes "ping") (no_parts)); condition = (no_expressions); loop = None; register = None; vars = (no_parts); notify = ((codes "a") ∷ []); changed_when = None; failed_when = None; attempts = None; ignore_errors = None }) (task_step (record { line = 3; work = (module_work (codes "ping") (no_parts)); condition = (no_expressions); loop = None; register = None; vars = (no_parts); notify = ([]); changed_when = None; failed_when = None; attempts = None; ignore_errors = None }) (no_steps))); post_tasks = (no_steps); handlers = (record { work = (record { line = 4; work = (module_work (codes "ping") (no_parts)); condition = (no_expressions); loop = None; register = None; vars = (no_parts); notify = ((codes "c") ∷ []); changed_when = None; failed_when = None; attempts = None; ignore_errors = None }); name = (Some (codes "a")); topics = ([]) } ∷ record { work = (record { line = 5; work = (module_work (codes "ping") (no_parts)); condition = (no_expressions); loop = None; register = None; vars = (no_parts); notify = ([]); changed_when = None; failed_when = None; attempts = None; ignore_errors = None }); name = (Some (codes "b")); topics = ([]) } ∷ record { work = (record { line = 6; work = (module_work (codes "ping") (no_parts)); condition = (no_expressions); loop = None; register = None; vars = (no_parts); notify = ([]); changed_when = None; failed_when = None; attempts = None; ignore_errors = None }); name = (Some (codes "c")); topics = ((codes "b") ∷ []) } ∷ []); forces = true } ∷ []))
book_10 = refl

book_11 : book_from (builtins ++ ([])) (list (item (rec (field (codes "force_handlers") (boolean true) (field (codes "handlers") (list (item (rec (field (codes "name") (text (codes "a")) (field (codes "notify") (text (codes "c")) (field (codes "ping") null (no_fields))))) (item (rec (field (codes "name") (text (codes "b")) (field (codes "ping") null (no_fields)))) (item (rec (field (codes "listen") (list (item (text (codes "b")) (no_items))) (field (codes "name") (text (codes "c")) (field (codes "ping") null (no_fields))))) (no_items))))) (field (codes "hosts") (text (codes "all")) (field (codes "tasks") (list (item (rec (field (codes "notify") (text (codes "b")) (field (codes "ping") null (no_fields)))) (item (rec (field (codes "ping") null (no_fields))) (no_items)))) (no_fields)))))) (no_items))) ≡ Ok ((record { line = 1; pattern = ((codes "all") ∷ []); gathering = None; vars = (no_parts); is_linear = true; serial = ([]); pre_tasks = (no_steps); tasks = (task_step (record { line = 2; work = (module_work (codes "ping") (no_parts)); condition = (no_expressions); loop = None; register = None; vars = (no_parts); notify = ((codes "b") ∷ []); changed_when = None; failed_when = None; attempts = None; ignore_errors = None }) (task_step (record { line = 3; work = (module_work (codes "ping") (no_parts)); condition = (no_expressions); loop = None; register = None; vars = (no_parts); notify = ([]); changed_when = None; failed_when = None; attempts = None; ignore_errors = None }) (no_steps))); post_tasks = (no_steps); handlers = (record { work = (record { line = 4; work = (module_work (codes "ping") (no_parts)); condition = (no_expressions); loop = None; register = None; vars = (no_parts); notify = ((codes "c") ∷ []); changed_when = None; failed_when = None; attempts = None; ignore_errors = None }); name = (Some (codes "a")); topics = ([]) } ∷ record { work = (record { line = 5; work = (module_work (codes "ping") (no_parts)); condition = (no_expressions); loop = None; register = None; vars = (no_parts); notify = ([]); changed_when = None; failed_when = None; attempts = None; ignore_errors = None }); name = (Some (codes "b")); topics = ([]) } ∷ record { work = (record { line = 6; work = (module_work (codes "ping") (no_parts)); condition = (no_expressions); loop = None; register = None; vars = (no_parts); notify = ([]); changed_when = None; failed_when = None; attempts = None; ignore_errors = None }); name = (Some (codes "c")); topics = ((codes "b") ∷ []) } ∷ []); forces = true } ∷ []))
book_11 = refl

book_12 : book_from (builtins ++ ([])) (list (item (rec (field (codes "force_handlers") (boolean true) (field (codes "handlers") (list (item (rec (field (codes "name") (text (codes "b")) (field (codes "ping") null (no_fields)))) (item (rec (field (codes "listen") (text (codes "b")) (field (codes "name") (text (codes "d")) (field (codes "ping") null (no_fields))))) (no_items)))) (field (codes "hosts") (text (codes "all")) (field (codes "tasks") (list (item (rec (field (codes "notify") (text (codes "b")) (field (codes "ping") null (no_fields)))) (item (rec (field (codes "meta") (text (codes "flush_handlers")) (no_fields))) (item (rec (field (codes "ping") null (no_fields))) (no_items))))) (no_fields)))))) (no_items))) ≡ Ok ((record { line = 1; pattern = ((codes "all") ∷ []); gathering = None; vars = (no_parts); is_linear = true; serial = ([]); pre_tasks = (no_steps); tasks = (task_step (record { line = 2; work = (module_work (codes "ping") (no_parts)); condition = (no_expressions); loop = None; register = None; vars = (no_parts); notify = ((codes "b") ∷ []); changed_when = None; failed_when = None; attempts = None; ignore_errors = None }) (flush_step 3 (task_step (record { line = 4; work = (module_work (codes "ping") (no_parts)); condition = (no_expressions); loop = None; register = None; vars = (no_parts); notify = ([]); changed_when = None; failed_when = None; attempts = None; ignore_errors = None }) (no_steps)))); post_tasks = (no_steps); handlers = (record { work = (record { line = 5; work = (module_work (codes "ping") (no_parts)); condition = (no_expressions); loop = None; register = None; vars = (no_parts); notify = ([]); changed_when = None; failed_when = None; attempts = None; ignore_errors = None }); name = (Some (codes "b")); topics = ([]) } ∷ record { work = (record { line = 6; work = (module_work (codes "ping") (no_parts)); condition = (no_expressions); loop = None; register = None; vars = (no_parts); notify = ([]); changed_when = None; failed_when = None; attempts = None; ignore_errors = None }); name = (Some (codes "d")); topics = ((codes "b") ∷ []) } ∷ []); forces = true } ∷ []))
book_12 = refl

book_13 : book_from (builtins ++ ([])) (list (item (rec (field (codes "force_handlers") (boolean true) (field (codes "handlers") (list (item (rec (field (codes "name") (text (codes "b")) (field (codes "ping") null (no_fields)))) (no_items))) (field (codes "hosts") (text (codes "all")) (field (codes "post_tasks") (list (item (rec (field (codes "ping") null (no_fields))) (no_items))) (field (codes "tasks") (list (item (rec (field (codes "notify") (text (codes "b")) (field (codes "ping") null (no_fields)))) (item (rec (field (codes "ping") null (no_fields))) (item (rec (field (codes "meta") (text (codes "flush_handlers")) (no_fields))) (item (rec (field (codes "ping") null (no_fields))) (no_items)))))) (no_fields))))))) (no_items))) ≡ Ok ((record { line = 1; pattern = ((codes "all") ∷ []); gathering = None; vars = (no_parts); is_linear = true; serial = ([]); pre_tasks = (no_steps); tasks = (task_step (record { line = 2; work = (module_work (codes "ping") (no_parts)); condition = (no_expressions); loop = None; register = None; vars = (no_parts); notify = ((codes "b") ∷ []); changed_when = None; failed_when = None; attempts = None; ignore_errors = None }) (task_step (record { line = 3; work = (module_work (codes "ping") (no_parts)); condition = (no_expressions); loop = None; register = None; vars = (no_parts); notify = ([]); changed_when = None; failed_when = None; attempts = None; ignore_errors = None }) (flush_step 4 (task_step (record { line = 5; work = (module_work (codes "ping") (no_parts)); condition = (no_expressions); loop = None; register = None; vars = (no_parts); notify = ([]); changed_when = None; failed_when = None; attempts = None; ignore_errors = None }) (no_steps))))); post_tasks = (task_step (record { line = 6; work = (module_work (codes "ping") (no_parts)); condition = (no_expressions); loop = None; register = None; vars = (no_parts); notify = ([]); changed_when = None; failed_when = None; attempts = None; ignore_errors = None }) (no_steps)); handlers = (record { work = (record { line = 7; work = (module_work (codes "ping") (no_parts)); condition = (no_expressions); loop = None; register = None; vars = (no_parts); notify = ([]); changed_when = None; failed_when = None; attempts = None; ignore_errors = None }); name = (Some (codes "b")); topics = ([]) } ∷ []); forces = true } ∷ []))
book_13 = refl

book_14 : book_from (builtins ++ ([])) (list (item (rec (field (codes "force_handlers") (boolean true) (field (codes "handlers") (list (item (rec (field (codes "name") (text (codes "b")) (field (codes "ping") null (no_fields)))) (no_items))) (field (codes "hosts") (text (codes "all")) (field (codes "pre_tasks") (list (item (rec (field (codes "notify") (text (codes "b")) (field (codes "ping") null (no_fields)))) (item (rec (field (codes "fail") null (no_fields))) (no_items)))) (field (codes "tasks") (list (item (rec (field (codes "ping") null (no_fields))) (no_items))) (no_fields))))))) (no_items))) ≡ Ok ((record { line = 1; pattern = ((codes "all") ∷ []); gathering = None; vars = (no_parts); is_linear = true; serial = ([]); pre_tasks = (task_step (record { line = 2; work = (module_work (codes "ping") (no_parts)); condition = (no_expressions); loop = None; register = None; vars = (no_parts); notify = ((codes "b") ∷ []); changed_when = None; failed_when = None; attempts = None; ignore_errors = None }) (task_step (record { line = 3; work = (fail_work (no_parts)); condition = (no_expressions); loop = None; register = None; vars = (no_parts); notify = ([]); changed_when = None; failed_when = None; attempts = None; ignore_errors = None }) (no_steps))); tasks = (task_step (record { line = 4; work = (module_work (codes "ping") (no_parts)); condition = (no_expressions); loop = None; register = None; vars = (no_parts); notify = ([]); changed_when = None; failed_when = None; attempts = None; ignore_errors = None }) (no_steps)); post_tasks = (no_steps); handlers = (record { work = (record { line = 5; work = (module_work (codes "ping") (no_parts)); condition = (no_expressions); loop = None; register = None; vars = (no_parts); notify = ([]); changed_when = None; failed_when = None; attempts = None; ignore_errors = None }); name = (Some (codes "b")); topics = ([]) } ∷ []); forces = true } ∷ []))
book_14 = refl

book_15 : book_from (builtins ++ ([])) (list (item (rec (field (codes "force_handlers") (boolean true) (field (codes "handlers") (list (item (rec (field (codes "name") (text (codes "b")) (field (codes "ping") null (no_fields)))) (no_items))) (field (codes "hosts") (text (codes "all")) (field (codes "tasks") (list (item (rec (field (codes "notify") (text (codes "b")) (field (codes "ping") null (no_fields)))) (item (rec (field (codes "block") (list (item (rec (field (codes "ping") null (no_fields))) (no_items))) (field (codes "rescue") (list (item (rec (field (codes "fail") null (no_fields))) (no_items))) (no_fields)))) (no_items)))) (no_fields)))))) (no_items))) ≡ Ok ((record { line = 1; pattern = ((codes "all") ∷ []); gathering = None; vars = (no_parts); is_linear = true; serial = ([]); pre_tasks = (no_steps); tasks = (task_step (record { line = 2; work = (module_work (codes "ping") (no_parts)); condition = (no_expressions); loop = None; register = None; vars = (no_parts); notify = ((codes "b") ∷ []); changed_when = None; failed_when = None; attempts = None; ignore_errors = None }) (block_step (record { line = 3; condition = (no_expressions); vars = (no_parts); ignore_errors = None }) (task_step (record { line = 4; work = (module_work (codes "ping") (no_parts)); condition = (no_expressions); loop = None; register = None; vars = (no_parts); notify = ([]); changed_when = None; failed_when = None; attempts = None; ignore_errors = None }) (no_steps)) (task_step (record { line = 5; work = (fail_work (no_parts)); condition = (no_expressions); loop = None; register = None; vars = (no_parts); notify = ([]); changed_when = None; failed_when = None; attempts = None; ignore_errors = None }) (no_steps)) (no_steps) (no_steps))); post_tasks = (no_steps); handlers = (record { work = (record { line = 6; work = (module_work (codes "ping") (no_parts)); condition = (no_expressions); loop = None; register = None; vars = (no_parts); notify = ([]); changed_when = None; failed_when = None; attempts = None; ignore_errors = None }); name = (Some (codes "b")); topics = ([]) } ∷ []); forces = true } ∷ []))
book_15 = refl

book_16 : book_from (builtins ++ ([])) (list (item (rec (field (codes "force_handlers") (boolean true) (field (codes "handlers") (list (item (rec (field (codes "name") (text (codes "h0")) (field (codes "register") (text (codes "r")) (field (codes "set_fact") (rec (field (codes "y") (rec (field (codes "k") (text (120 ∷ 123 ∷ 123 ∷ 32 ∷ 110 ∷ 111 ∷ 110 ∷ 101 ∷ 32 ∷ 125 ∷ 125 ∷ [])) (no_fields))) (no_fields))) (field (codes "when") (list (item (text (codes "ansible_failed_result.stdout_lines is skipped")) (item (text (codes "opq is succeeded")) (no_items)))) (no_fields)))))) (item (rec (field (codes "name") (text (codes "h1")) (field (codes "register") (text (codes "s")) (field (codes "stat") (rec (field (codes "path") (text (codes "p")) (no_fields))) (no_fields))))) (no_items)))) (field (codes "hosts") (text (codes "b,a")) (field (codes "serial") (list (item (int (pos 1)) (item (int (pos 2)) (no_items)))) (field (codes "tasks") (list (item (rec (field (codes "block") (list (item (rec (field (codes "register") (text (codes "r")) (field (codes "set_fact") (rec (field (codes "s") (text (123 ∷ 123 ∷ 32 ∷ 110 ∷ 111 ∷ 110 ∷ 101 ∷ 32 ∷ 125 ∷ 125 ∷ [])) (no_fields))) (no_fields)))) (no_items))) (no_fields))) (no_items))) (field (codes "vars") (rec (field (codes "v1") (text (codes "a")) (no_fields))) (no_fields)))))))) (no_items))) ≡ Ok ((record { line = 1; pattern = ((codes "b") ∷ (codes "a") ∷ []); gathering = None; vars = (part (codes "v1") (literal (text (codes "a"))) (no_parts)); is_linear = true; serial = (host_count 1 ∷ host_count 2 ∷ []); pre_tasks = (no_steps); tasks = (block_step (record { line = 2; condition = (no_expressions); vars = (no_parts); ignore_errors = None }) (task_step (record { line = 3; work = (set_fact_work (part (codes "s") (literal null) (no_parts))); condition = (no_expressions); loop = None; register = (Some (codes "r")); vars = (no_parts); notify = ([]); changed_when = None; failed_when = None; attempts = None; ignore_errors = None }) (no_steps)) (no_steps) (no_steps) (no_steps)); post_tasks = (no_steps); handlers = (record { work = (record { line = 4; work = (set_fact_work (part (codes "y") (record_of (part (codes "k") (concatenation (expression (literal (text (codes "x"))) (expression (literal null) (no_expressions)))) (no_parts))) (no_parts))); condition = (expression (path_status is_skipped (variable (codes "ansible_failed_result")) ((codes "stdout_lines") ∷ [])) (expression (negation (path_status is_failed (variable (codes "opq")) ([]))) (no_expressions))); loop = None; register = (Some (codes "r")); vars = (no_parts); notify = ([]); changed_when = None; failed_when = None; attempts = None; ignore_errors = None }); name = (Some (codes "h0")); topics = ([]) } ∷ record { work = (record { line = 5; work = (module_work (codes "stat") (part (codes "path") (literal (text (codes "p"))) (no_parts))); condition = (no_expressions); loop = None; register = (Some (codes "s")); vars = (no_parts); notify = ([]); changed_when = None; failed_when = None; attempts = None; ignore_errors = None }); name = (Some (codes "h1")); topics = ([]) } ∷ []); forces = true } ∷ []))
book_16 = refl

book_17 : book_from (builtins ++ ([])) (list (item (rec (field (codes "force_handlers") (boolean true) (field (codes "hosts") (text (codes "a")) (field (codes "serial") (text (53 ∷ 48 ∷ 37 ∷ [])) (field (codes "tasks") (list (item (rec (field (codes "register") (text (codes "r")) (field (codes "setup") null (no_fields)))) (item (rec (field (codes "changed_when") (text (codes "s is changed")) (field (codes "register") (text (codes "s")) (field (codes "setup") null (no_fields))))) (no_items)))) (no_fields)))))) (no_items))) ≡ Ok ((record { line = 1; pattern = ((codes "a") ∷ []); gathering = None; vars = (no_parts); is_linear = true; serial = (percentage 50 ∷ []); pre_tasks = (no_steps); tasks = (task_step (record { line = 2; work = (module_work (codes "setup") (no_parts)); condition = (no_expressions); loop = None; register = (Some (codes "r")); vars = (no_parts); notify = ([]); changed_when = None; failed_when = None; attempts = None; ignore_errors = None }) (task_step (record { line = 3; work = (module_work (codes "setup") (no_parts)); condition = (no_expressions); loop = None; register = (Some (codes "s")); vars = (no_parts); notify = ([]); changed_when = (Some (expression (path_status is_changed (variable (codes "s")) ([])) (no_expressions))); failed_when = None; attempts = None; ignore_errors = None }) (no_steps))); post_tasks = (no_steps); handlers = ([]); forces = true } ∷ []))
book_17 = refl

book_18 : book_from (builtins ++ ([])) (list (item (rec (field (codes "force_handlers") (boolean true) (field (codes "hosts") (text (codes "a")) (field (codes "strategy") (text (codes "free")) (field (codes "tasks") (list (item (rec (field (codes "ping") null (no_fields))) (no_items))) (no_fields)))))) (item (rec (field (codes "force_handlers") (boolean true) (field (codes "hosts") (text (codes "all")) (field (codes "pre_tasks") (list (item (rec (field (codes "register") (text (codes "s")) (field (codes "setup") null (field (codes "when") (list (item (text (codes "s is defined and s is not failed")) (no_items))) (no_fields))))) (no_items))) (field (codes "strategy") (text (codes "free")) (field (codes "tasks") (list (item (rec (field (codes "command") (rec (field (codes "cmd") (text (123 ∷ 123 ∷ 32 ∷ 118 ∷ 49 ∷ 46 ∷ 111 ∷ 115 ∷ 95 ∷ 102 ∷ 97 ∷ 109 ∷ 105 ∷ 108 ∷ 121 ∷ 32 ∷ 125 ∷ 125 ∷ [])) (no_fields))) (field (codes "ignore_errors") (boolean true) (no_fields)))) (no_items))) (no_fields))))))) (no_items)))) ≡ Ok ((record { line = 1; pattern = ((codes "a") ∷ []); gathering = None; vars = (no_parts); is_linear = false; serial = ([]); pre_tasks = (no_steps); tasks = (task_step (record { line = 2; work = (module_work (codes "ping") (no_parts)); condition = (no_expressions); loop = None; register = None; vars = (no_parts); notify = ([]); changed_when = None; failed_when = None; attempts = None; ignore_errors = None }) (no_steps)); post_tasks = (no_steps); handlers = ([]); forces = true } ∷ record { line = 3; pattern = ((codes "all") ∷ []); gathering = None; vars = (no_parts); is_linear = false; serial = ([]); pre_tasks = (task_step (record { line = 4; work = (module_work (codes "setup") (no_parts)); condition = (expression (conjunction (expression (defined (variable (codes "s")) ([])) (expression (negation (path_status is_failed (variable (codes "s")) ([]))) (no_expressions)))) (no_expressions)); loop = None; register = (Some (codes "s")); vars = (no_parts); notify = ([]); changed_when = None; failed_when = None; attempts = None; ignore_errors = None }) (no_steps)); tasks = (task_step (record { line = 5; work = (module_work (codes "command") (part (codes "cmd") (path (variable (codes "v1")) ((codes "os_family") ∷ [])) (no_parts))); condition = (no_expressions); loop = None; register = None; vars = (no_parts); notify = ([]); changed_when = None; failed_when = None; attempts = None; ignore_errors = (Some true) }) (no_steps)); post_tasks = (no_steps); handlers = ([]); forces = true } ∷ []))
book_18 = refl

book_19 : book_from (builtins ++ ([])) (list (item (rec (field (codes "force_handlers") (boolean true) (field (codes "hosts") (text (codes "all")) (field (codes "post_tasks") (list (item (rec (field (codes "block") (list (no_items)) (no_fields))) (item (rec (field (codes "ping") null (field (codes "register") (text (codes "s")) (no_fields)))) (no_items)))) (field (codes "serial") (text (53 ∷ 48 ∷ 37 ∷ [])) (field (codes "tasks") (list (item (rec (field (codes "block") (list (no_items)) (no_fields))) (item (rec (field (codes "debug") (rec (field (codes "msg") (rec (field (codes "k") (int (pos 1)) (no_fields))) (no_fields))) (field (codes "failed_when") (boolean false) (field (codes "when") (list (item (text (codes "(inventory_hostname in ansible_play_batch) or (group_names.hostname is skipped)")) (item (text (codes "not (not (group_names is not defined))")) (no_items)))) (no_fields))))) (item (rec (field (codes "meta") (text (codes "flush_handlers")) (no_fields))) (no_items))))) (no_fields))))))) (no_items))) ≡ Ok ((record { line = 1; pattern = ((codes "all") ∷ []); gathering = None; vars = (no_parts); is_linear = true; serial = (percentage 50 ∷ []); pre_tasks = (no_steps); tasks = (block_step (record { line = 2; condition = (no_expressions); vars = (no_parts); ignore_errors = None }) (no_steps) (no_steps) (no_steps) (task_step (record { line = 3; work = (debug_work (part (codes "msg") (literal (rec (field (codes "k") (int (pos 1)) (no_fields)))) (no_parts))); condition = (expression (disjunction (expression (in_batch this_host) (expression (path_status is_skipped (variable (codes "group_names")) ((codes "hostname") ∷ [])) (no_expressions)))) (expression (negation (negation (negation (defined (variable (codes "group_names")) ([]))))) (no_expressions))); loop = None; register = None; vars = (no_parts); notify = ([]); changed_when = None; failed_when = (Some (expression (literal (boolean false)) (no_expressions))); attempts = None; ignore_errors = None }) (flush_step 4 (no_steps)))); post_tasks = (block_step (record { line = 5; condition = (no_expressions); vars = (no_parts); ignore_errors = None }) (no_steps) (no_steps) (no_steps) (task_step (record { line = 6; work = (module_work (codes "ping") (no_parts)); condition = (no_expressions); loop = None; register = (Some (codes "s")); vars = (no_parts); notify = ([]); changed_when = None; failed_when = None; attempts = None; ignore_errors = None }) (no_steps))); handlers = ([]); forces = true } ∷ []))
book_19 = refl

book_20 : book_from (builtins ++ ([])) (list (item (rec (field (codes "force_handlers") (boolean true) (field (codes "hosts") (text (codes "all")) (field (codes "post_tasks") (list (item (rec (field (codes "changed_when") (boolean false) (field (codes "set_fact") (rec (field (codes "y") (text (123 ∷ 123 ∷ 32 ∷ 49 ∷ 32 ∷ 125 ∷ 125 ∷ [])) (no_fields))) (field (codes "when") (text (codes "ansible_facts.changed is succeeded")) (no_fields))))) (item (rec (field (codes "changed_when") (boolean true) (field (codes "loop") (text (123 ∷ 123 ∷ 32 ∷ 97 ∷ 110 ∷ 115 ∷ 105 ∷ 98 ∷ 108 ∷ 101 ∷ 95 ∷ 112 ∷ 108 ∷ 97 ∷ 121 ∷ 95 ∷ 98 ∷ 97 ∷ 116 ∷ 99 ∷ 104 ∷ 32 ∷ 125 ∷ 125 ∷ [])) (field (codes "ping") null (no_fields))))) (no_items)))) (field (codes "tasks") (list (item (rec (field (codes "ignore_errors") (boolean false) (field (codes "ping") null (field (codes "register") (text (codes "r")) (no_fields))))) (item (rec (field (codes "block") (list (no_items)) (no_fields))) (no_items)))) (no_fields)))))) (item (rec (field (codes "force_handlers") (boolean true) (field (codes "hosts") (text (codes "b,a")) (field (codes "serial") (list (item (int (pos 1)) (item (int (pos 2)) (no_items)))) (field (codes "tasks") (list (item (rec (field (codes "register") (text (codes "s")) (field (codes "retries") (int (pos 2)) (field (codes "stat") (rec (field (codes "path") (text (codes "p")) (no_fields))) (field (codes "until") (text (codes "s is succeeded")) (field (codes "vars") (rec (field (codes "v1") (text (123 ∷ 123 ∷ 32 ∷ 110 ∷ 111 ∷ 116 ∷ 32 ∷ 40 ∷ 103 ∷ 114 ∷ 111 ∷ 117 ∷ 112 ∷ 115 ∷ 46 ∷ 103 ∷ 32 ∷ 105 ∷ 115 ∷ 32 ∷ 115 ∷ 117 ∷ 99 ∷ 99 ∷ 101 ∷ 101 ∷ 100 ∷ 101 ∷ 100 ∷ 41 ∷ 32 ∷ 125 ∷ 125 ∷ [])) (no_fields))) (no_fields))))))) (item (rec (field (codes "meta") (text (codes "flush_handlers")) (no_fields))) (no_items)))) (field (codes "vars") (rec (field (codes "v1") (text (123 ∷ 123 ∷ 32 ∷ 105 ∷ 110 ∷ 118 ∷ 32 ∷ 125 ∷ 125 ∷ [])) (no_fields))) (no_fields))))))) (no_items)))) ≡ Ok ((record { line = 1; pattern = ((codes "all") ∷ []); gathering = None; vars = (no_parts); is_linear = true; serial = ([]); pre_tasks = (no_steps); tasks = (task_step (record { line = 2; work = (module_work (codes "ping") (no_parts)); condition = (no_expressions); loop = None; register = (Some (codes "r")); vars = (no_parts); notify = ([]); changed_when = None; failed_when = None; attempts = None; ignore_errors = (Some false) }) (block_step (record { line = 3; condition = (no_expressions); vars = (no_parts); ignore_errors = None }) (no_steps) (no_steps) (no_steps) (no_steps))); post_tasks = (task_step (record { line = 4; work = (set_fact_work (part (codes "y") (literal (int (pos 1))) (no_parts))); condition = (expression (negation (path_status is_failed (variable (codes "ansible_facts")) ((codes "changed") ∷ []))) (no_expressions)); loop = None; register = None; vars = (no_parts); notify = ([]); changed_when = (Some (expression (literal (boolean false)) (no_expressions))); failed_when = None; attempts = None; ignore_errors = None }) (task_step (record { line = 5; work = (module_work (codes "ping") (no_parts)); condition = (no_expressions); loop = (Some (path (variable (codes "ansible_play_batch")) ([]))); register = None; vars = (no_parts); notify = ([]); changed_when = (Some (expression (literal (boolean true)) (no_expressions))); failed_when = None; attempts = None; ignore_errors = None }) (no_steps))); handlers = ([]); forces = true } ∷ record { line = 6; pattern = ((codes "b") ∷ (codes "a") ∷ []); gathering = None; vars = (part (codes "v1") (path (variable (codes "inv")) ([])) (no_parts)); is_linear = true; serial = (host_count 1 ∷ host_count 2 ∷ []); pre_tasks = (no_steps); tasks = (task_step (record { line = 7; work = (module_work (codes "stat") (part (codes "path") (literal (text (codes "p"))) (no_parts))); condition = (no_expressions); loop = None; register = (Some (codes "s")); vars = (part (codes "v1") (negation (negation (path_status is_failed (variable (codes "groups")) ((codes "g") ∷ [])))) (no_parts)); notify = ([]); changed_when = None; failed_when = None; attempts = (Some (record { until = (expression (negation (path_status is_failed (variable (codes "s")) ([]))) (no_expressions)); retries = 2 })); ignore_errors = None }) (flush_step 8 (no_steps))); post_tasks = (no_steps); handlers = ([]); forces = true } ∷ []))
book_20 = refl

book_21 : book_from (builtins ++ ([])) (list (item (rec (field (codes "force_handlers") (boolean true) (field (codes "hosts") (text (codes "all")) (field (codes "post_tasks") (list (item (rec (field (codes "command") (rec (field (codes "cmd") (text (120 ∷ 123 ∷ 123 ∷ 32 ∷ 110 ∷ 111 ∷ 110 ∷ 101 ∷ 32 ∷ 125 ∷ 125 ∷ [])) (no_fields))) (field (codes "loop") (text (123 ∷ 123 ∷ 32 ∷ 103 ∷ 114 ∷ 111 ∷ 117 ∷ 112 ∷ 115 ∷ 46 ∷ 97 ∷ 108 ∷ 108 ∷ 32 ∷ 125 ∷ 125 ∷ [])) (field (codes "when") (list (item (text (104 ∷ 111 ∷ 115 ∷ 116 ∷ 118 ∷ 97 ∷ 114 ∷ 115 ∷ 91 ∷ 105 ∷ 116 ∷ 101 ∷ 109 ∷ 93 ∷ 46 ∷ 121 ∷ 32 ∷ 105 ∷ 115 ∷ 32 ∷ 100 ∷ 101 ∷ 102 ∷ 105 ∷ 110 ∷ 101 ∷ 100 ∷ [])) (item (text (codes "r is not skipped")) (no_items)))) (no_fields))))) (item (rec (field (codes "ignore_errors") (boolean true) (field (codes "loop") (text (123 ∷ 123 ∷ 32 ∷ 105 ∷ 110 ∷ 118 ∷ 32 ∷ 125 ∷ 125 ∷ [])) (field (codes "set_fact") (rec (field (codes "s") (list (item (int (pos 1)) (item (int (pos 2)) (no_items)))) (no_fields))) (no_fields))))) (no_items)))) (field (codes "tasks") (list (item (rec (field (codes "command") (text (codes "x")) (no_fields))) (item (rec (field (codes "block") (list (no_items)) (no_fields))) (item (rec (field (codes "assert") (rec (field (codes "that") (text (104 ∷ 111 ∷ 115 ∷ 116 ∷ 118 ∷ 97 ∷ 114 ∷ 115 ∷ 91 ∷ 105 ∷ 110 ∷ 118 ∷ 101 ∷ 110 ∷ 116 ∷ 111 ∷ 114 ∷ 121 ∷ 95 ∷ 104 ∷ 111 ∷ 115 ∷ 116 ∷ 110 ∷ 97 ∷ 109 ∷ 101 ∷ 93 ∷ 46 ∷ 105 ∷ 110 ∷ 118 ∷ 32 ∷ 105 ∷ 115 ∷ 32 ∷ 99 ∷ 104 ∷ 97 ∷ 110 ∷ 103 ∷ 101 ∷ 100 ∷ [])) (no_fields))) (field (codes "register") (text (codes "r")) (no_fields)))) (no_items))))) (no_fields)))))) (no_items))) ≡ Ok ((record { line = 1; pattern = ((codes "all") ∷ []); gathering = None; vars = (no_parts); is_linear = true; serial = ([]); pre_tasks = (no_steps); tasks = (task_step (record { line = 2; work = (module_work (codes "command") (part (codes "cmd") (literal (text (codes "x"))) (no_parts))); condition = (no_expressions); loop = None; register = None; vars = (no_parts); notify = ([]); changed_when = None; failed_when = None; attempts = None; ignore_errors = None }) (block_step (record { line = 3; condition = (no_expressions); vars = (no_parts); ignore_errors = None }) (no_steps) (no_steps) (no_steps) (task_step (record { line = 4; work = (assert_work (conditions_are (expression (path_status is_changed (other this_host (codes "inv")) ([])) (no_expressions))) (no_parts)); condition = (no_expressions); loop = None; register = (Some (codes "r")); vars = (no_parts); notify = ([]); changed_when = None; failed_when = None; attempts = None; ignore_errors = None }) (no_steps)))); post_tasks = (task_step (record { line = 5; work = (module_work (codes "command") (part (codes "cmd") (concatenation (expression (literal (text (codes "x"))) (expression (literal null) (no_expressions)))) (no_parts))); condition = (expression (defined (other item_host (codes "y")) ([])) (expression (negation (path_status is_skipped (variable (codes "r")) ([]))) (no_expressions))); loop = (Some (path (variable (codes "groups")) ((codes "all") ∷ []))); register = None; vars = (no_parts); notify = ([]); changed_when = None; failed_when = None; attempts = None; ignore_errors = None }) (task_step (record { line = 6; work = (set_fact_work (part (codes "s") (literal (list (item (int (pos 1)) (item (int (pos 2)) (no_items))))) (no_parts))); condition = (no_expressions); loop = (Some (path (variable (codes "inv")) ([]))); register = None; vars = (no_parts); notify = ([]); changed_when = None; failed_when = None; attempts = None; ignore_errors = (Some true) }) (no_steps))); handlers = ([]); forces = true } ∷ []))
book_21 = refl

book_22 : book_from (builtins ++ ([])) (list (item (rec (field (codes "force_handlers") (boolean true) (field (codes "hosts") (text (codes "all")) (field (codes "serial") (int (pos 1)) (field (codes "tasks") (list (item (rec (field (codes "loop") (list (no_items)) (field (codes "set_fact") (rec (field (codes "s") (list (item (boolean true) (no_items))) (no_fields))) (no_fields)))) (item (rec (field (codes "command") (text (codes "x")) (no_fields))) (item (rec (field (codes "loop") (list (item (text (codes "a")) (item (text (codes "b")) (no_items)))) (field (codes "ping") null (no_fields)))) (no_items))))) (no_fields)))))) (no_items))) ≡ Ok ((record { line = 1; pattern = ((codes "all") ∷ []); gathering = None; vars = (no_parts); is_linear = true; serial = (host_count 1 ∷ []); pre_tasks = (no_steps); tasks = (task_step (record { line = 2; work = (set_fact_work (part (codes "s") (literal (list (item (boolean true) (no_items)))) (no_parts))); condition = (no_expressions); loop = (Some (literal (list (no_items)))); register = None; vars = (no_parts); notify = ([]); changed_when = None; failed_when = None; attempts = None; ignore_errors = None }) (task_step (record { line = 3; work = (module_work (codes "command") (part (codes "cmd") (literal (text (codes "x"))) (no_parts))); condition = (no_expressions); loop = None; register = None; vars = (no_parts); notify = ([]); changed_when = None; failed_when = None; attempts = None; ignore_errors = None }) (task_step (record { line = 4; work = (module_work (codes "ping") (no_parts)); condition = (no_expressions); loop = (Some (literal (list (item (text (codes "a")) (item (text (codes "b")) (no_items)))))); register = None; vars = (no_parts); notify = ([]); changed_when = None; failed_when = None; attempts = None; ignore_errors = None }) (no_steps)))); post_tasks = (no_steps); handlers = ([]); forces = true } ∷ []))
book_22 = refl

book_23 : book_from (builtins ++ ([])) (list (item (rec (field (codes "force_handlers") (boolean true) (field (codes "hosts") (text (codes "all")) (field (codes "serial") (int (pos 2)) (field (codes "strategy") (text (codes "free")) (field (codes "tasks") (list (item (rec (field (codes "ignore_errors") (boolean false) (field (codes "register") (text (codes "s")) (field (codes "setup") null (no_fields))))) (no_items))) (no_fields))))))) (no_items))) ≡ Ok ((record { line = 1; pattern = ((codes "all") ∷ []); gathering = None; vars = (no_parts); is_linear = false; serial = (host_count 2 ∷ []); pre_tasks = (no_steps); tasks = (task_step (record { line = 2; work = (module_work (codes "setup") (no_parts)); condition = (no_expressions); loop = None; register = (Some (codes "s")); vars = (no_parts); notify = ([]); changed_when = None; failed_when = None; attempts = None; ignore_errors = (Some false) }) (no_steps)); post_tasks = (no_steps); handlers = ([]); forces = true } ∷ []))
book_23 = refl

book_24 : book_from (builtins ++ ([])) (list (item (rec (field (codes "force_handlers") (boolean true) (field (codes "hosts") (text (codes "all")) (field (codes "tasks") (list (item (rec (field (codes "always") (list (item (rec (field (codes "command") (rec (field (codes "cmd") (text (123 ∷ 123 ∷ 32 ∷ 114 ∷ 46 ∷ 115 ∷ 116 ∷ 100 ∷ 111 ∷ 117 ∷ 116 ∷ 32 ∷ 124 ∷ 32 ∷ 100 ∷ 101 ∷ 102 ∷ 97 ∷ 117 ∷ 108 ∷ 116 ∷ 40 ∷ 91 ∷ 93 ∷ 41 ∷ 32 ∷ 125 ∷ 125 ∷ [])) (no_fields))) (field (codes "ignore_errors") (boolean true) (field (codes "register") (text (codes "r")) (no_fields))))) (no_items))) (field (codes "block") (list (no_items)) (field (codes "rescue") (list (no_items)) (no_fields))))) (item (rec (field (codes "ping") null (no_fields))) (no_items)))) (no_fields))))) (no_items))) ≡ Ok ((record { line = 1; pattern = ((codes "all") ∷ []); gathering = None; vars = (no_parts); is_linear = true; serial = ([]); pre_tasks = (no_steps); tasks = (block_step (record { line = 2; condition = (no_expressions); vars = (no_parts); ignore_errors = None }) (no_steps) (no_steps) (task_step (record { line = 3; work = (module_work (codes "command") (part (codes "cmd") (path_or (variable (codes "r")) ((codes "stdout") ∷ []) (list_of (no_expressions))) (no_parts))); condition = (no_expressions); loop = None; register = (Some (codes "r")); vars = (no_parts); notify = ([]); changed_when = None; failed_when = None; attempts = None; ignore_errors = (Some true) }) (no_steps)) (task_step (record { line = 4; work = (module_work (codes "ping") (no_parts)); condition = (no_expressions); loop = None; register = None; vars = (no_parts); notify = ([]); changed_when = None; failed_when = None; attempts = None; ignore_errors = None }) (no_steps))); post_tasks = (no_steps); handlers = ([]); forces = true } ∷ []))
book_24 = refl

book_25 : book_from (builtins ++ ([])) (list (item (rec (field (codes "force_handlers") (boolean true) (field (codes "hosts") (text (codes "all")) (field (codes "tasks") (list (item (rec (field (codes "block") (list (no_items)) (no_fields))) (item (rec (field (codes "register") (text (codes "s")) (field (codes "stat") (rec (field (codes "path") (text (codes "p")) (no_fields))) (no_fields)))) (no_items)))) (field (codes "vars") (rec (field (codes "v1") (text (123 ∷ 123 ∷ 32 ∷ 103 ∷ 114 ∷ 111 ∷ 117 ∷ 112 ∷ 95 ∷ 110 ∷ 97 ∷ 109 ∷ 101 ∷ 115 ∷ 46 ∷ 115 ∷ 116 ∷ 100 ∷ 111 ∷ 117 ∷ 116 ∷ 32 ∷ 125 ∷ 125 ∷ [])) (no_fields))) (no_fields)))))) (no_items))) ≡ Ok ((record { line = 1; pattern = ((codes "all") ∷ []); gathering = None; vars = (part (codes "v1") (path (variable (codes "group_names")) ((codes "stdout") ∷ [])) (no_parts)); is_linear = true; serial = ([]); pre_tasks = (no_steps); tasks = (block_step (record { line = 2; condition = (no_expressions); vars = (no_parts); ignore_errors = None }) (no_steps) (no_steps) (no_steps) (task_step (record { line = 3; work = (module_work (codes "stat") (part (codes "path") (literal (text (codes "p"))) (no_parts))); condition = (no_expressions); loop = None; register = (Some (codes "s")); vars = (no_parts); notify = ([]); changed_when = None; failed_when = None; attempts = None; ignore_errors = None }) (no_steps))); post_tasks = (no_steps); handlers = ([]); forces = true } ∷ []))
book_25 = refl

book_26 : book_from (builtins ++ ([])) (list (item (rec (field (codes "force_handlers") (boolean true) (field (codes "hosts") (text (codes "all")) (field (codes "tasks") (list (item (rec (field (codes "command") (rec (field (codes "cmd") (text (codes "a")) (no_fields))) (field (codes "retries") (int (pos 2)) (field (codes "until") (boolean true) (no_fields))))) (item (rec (field (codes "meta") (text (codes "flush_handlers")) (no_fields))) (item (rec (field (codes "register") (text (codes "r")) (field (codes "stat") (rec (field (codes "path") (text (codes "p")) (no_fields))) (field (codes "vars") (rec (field (codes "v2") (rec (field (codes "k") (int (pos 1)) (no_fields))) (no_fields))) (no_fields))))) (item (rec (field (codes "retries") (int (pos 2)) (field (codes "stat") (rec (field (codes "path") (text (codes "p")) (no_fields))) (field (codes "until") (boolean false) (no_fields))))) (no_items)))))) (no_fields))))) (no_items))) ≡ Ok ((record { line = 1; pattern = ((codes "all") ∷ []); gathering = None; vars = (no_parts); is_linear = true; serial = ([]); pre_tasks = (no_steps); tasks = (task_step (record { line = 2; work = (module_work (codes "command") (part (codes "cmd") (literal (text (codes "a"))) (no_parts))); condition = (no_expressions); loop = None; register = None; vars = (no_parts); notify = ([]); changed_when = None; failed_when = None; attempts = (Some (record { until = (expression (literal (boolean true)) (no_expressions)); retries = 2 })); ignore_errors = None }) (flush_step 3 (task_step (record { line = 4; work = (module_work (codes "stat") (part (codes "path") (literal (text (codes "p"))) (no_parts))); condition = (no_expressions); loop = None; register = (Some (codes "r")); vars = (part (codes "v2") (literal (rec (field (codes "k") (int (pos 1)) (no_fields)))) (no_parts)); notify = ([]); changed_when = None; failed_when = None; attempts = None; ignore_errors = None }) (task_step (record { line = 5; work = (module_work (codes "stat") (part (codes "path") (literal (text (codes "p"))) (no_parts))); condition = (no_expressions); loop = None; register = None; vars = (no_parts); notify = ([]); changed_when = None; failed_when = None; attempts = (Some (record { until = (expression (literal (boolean false)) (no_expressions)); retries = 2 })); ignore_errors = None }) (no_steps))))); post_tasks = (no_steps); handlers = ([]); forces = true } ∷ []))
book_26 = refl

book_27 : book_from (builtins ++ ([])) (list (item (rec (field (codes "force_handlers") (boolean true) (field (codes "hosts") (text (codes "all")) (field (codes "tasks") (list (item (rec (field (codes "set_fact") (rec (field (codes "y") (text (123 ∷ 123 ∷ 32 ∷ 105 ∷ 110 ∷ 118 ∷ 46 ∷ 115 ∷ 116 ∷ 100 ∷ 111 ∷ 117 ∷ 116 ∷ 95 ∷ 108 ∷ 105 ∷ 110 ∷ 101 ∷ 115 ∷ 32 ∷ 125 ∷ 125 ∷ [])) (no_fields))) (no_fields))) (item (rec (field (codes "failed_when") (text (codes "s.changed")) (field (codes "register") (text (codes "s")) (field (codes "stat") (rec (field (codes "path") (text (codes "p")) (no_fields))) (field (codes "until") (text (codes "s is succeeded")) (field (codes "vars") (rec (field (codes "v2") null (no_fields))) (field (codes "when") (list (item (text (codes "r.rc is defined")) (no_items))) (no_fields)))))))) (item (rec (field (codes "block") (list (no_items)) (field (codes "rescue") (list (no_items)) (no_fields)))) (item (rec (field (codes "command") (rec (field (codes "cmd") (text (123 ∷ 123 ∷ 32 ∷ 118 ∷ 50 ∷ 46 ∷ 99 ∷ 104 ∷ 97 ∷ 110 ∷ 103 ∷ 101 ∷ 100 ∷ 32 ∷ 125 ∷ 125 ∷ [])) (no_fields))) (field (codes "loop") (list (item (text (codes "a")) (item (text (codes "b")) (no_items)))) (field (codes "register") (text (codes "s")) (field (codes "when") (text (codes "zz.stdout_lines == 1")) (no_fields)))))) (no_items)))))) (no_fields))))) (no_items))) ≡ Ok ((record { line = 1; pattern = ((codes "all") ∷ []); gathering = None; vars = (no_parts); is_linear = true; serial = ([]); pre_tasks = (no_steps); tasks = (task_step (record { line = 2; work = (set_fact_work (part (codes "y") (path (variable (codes "inv")) ((codes "stdout_lines") ∷ [])) (no_parts))); condition = (no_expressions); loop = None; register = None; vars = (no_parts); notify = ([]); changed_when = None; failed_when = None; attempts = None; ignore_errors = None }) (task_step (record { line = 3; work = (module_work (codes "stat") (part (codes "path") (literal (text (codes "p"))) (no_parts))); condition = (expression (defined (variable (codes "r")) ((codes "rc") ∷ [])) (no_expressions)); loop = None; register = (Some (codes "s")); vars = (part (codes "v2") (literal null) (no_parts)); notify = ([]); changed_when = None; failed_when = (Some (expression (path (variable (codes "s")) ((codes "changed") ∷ [])) (no_expressions))); attempts = (Some (record { until = (expression (negation (path_status is_failed (variable (codes "s")) ([]))) (no_expressions)); retries = 3 })); ignore_errors = None }) (block_step (record { line = 4; condition = (no_expressions); vars = (no_parts); ignore_errors = None }) (no_steps) (no_steps) (no_steps) (task_step (record { line = 5; work = (module_work (codes "command") (part (codes "cmd") (path (variable (codes "v2")) ((codes "changed") ∷ [])) (no_parts))); condition = (expression (comparison equal (path (variable (codes "zz")) ((codes "stdout_lines") ∷ [])) (literal (int (pos 1)))) (no_expressions)); loop = (Some (literal (list (item (text (codes "a")) (item (text (codes "b")) (no_items)))))); register = (Some (codes "s")); vars = (no_parts); notify = ([]); changed_when = None; failed_when = None; attempts = None; ignore_errors = None }) (no_steps))))); post_tasks = (no_steps); handlers = ([]); forces = true } ∷ []))
book_27 = refl

book_28 : book_from (builtins ++ ([])) (list (item (rec (field (codes "force_handlers") (boolean true) (field (codes "hosts") (text (codes "all")) (no_fields)))) (no_items))) ≡ Ok ((record { line = 1; pattern = ((codes "all") ∷ []); gathering = None; vars = (no_parts); is_linear = true; serial = ([]); pre_tasks = (no_steps); tasks = (no_steps); post_tasks = (no_steps); handlers = ([]); forces = true } ∷ []))
book_28 = refl

book_29 : book_from (builtins ++ ([])) (list (item (rec (field (codes "force_handlers") (boolean true) (field (codes "hosts") (text (codes "b,a")) (field (codes "tasks") (list (item (rec (field (codes "always") (list (no_items)) (field (codes "block") (list (item (rec (field (codes "always") (list (item (rec (field (codes "command") (rec (field (codes "cmd") null (no_fields))) (field (codes "register") (text (codes "r")) (no_fields)))) (no_items))) (field (codes "block") (list (item (rec (field (codes "loop") (list (item (int (pos 1)) (item (int (pos 2)) (no_items)))) (field (codes "set_fact") (rec (field (codes "s") null (no_fields))) (no_fields)))) (item (rec (field (codes "ping") null (no_fields))) (no_items)))) (no_fields)))) (no_items))) (no_fields)))) (item (rec (field (codes "register") (text (codes "s")) (field (codes "setup") null (field (codes "when") (list (item (text (codes "r is defined")) (no_items))) (no_fields))))) (no_items)))) (no_fields))))) (no_items))) ≡ Ok ((record { line = 1; pattern = ((codes "b") ∷ (codes "a") ∷ []); gathering = None; vars = (no_parts); is_linear = true; serial = ([]); pre_tasks = (no_steps); tasks = (block_step (record { line = 2; condition = (no_expressions); vars = (no_parts); ignore_errors = None }) (block_step (record { line = 3; condition = (no_expressions); vars = (no_parts); ignore_errors = None }) (task_step (record { line = 4; work = (set_fact_work (part (codes "s") (literal null) (no_parts))); condition = (no_expressions); loop = (Some (literal (list (item (int (pos 1)) (item (int (pos 2)) (no_items)))))); register = None; vars = (no_parts); notify = ([]); changed_when = None; failed_when = None; attempts = None; ignore_errors = None }) (task_step (record { line = 5; work = (module_work (codes "ping") (no_parts)); condition = (no_expressions); loop = None; register = None; vars = (no_parts); notify = ([]); changed_when = None; failed_when = None; attempts = None; ignore_errors = None }) (no_steps))) (no_steps) (task_step (record { line = 6; work = (module_work (codes "command") (part (codes "cmd") (literal null) (no_parts))); condition = (no_expressions); loop = None; register = (Some (codes "r")); vars = (no_parts); notify = ([]); changed_when = None; failed_when = None; attempts = None; ignore_errors = None }) (no_steps)) (no_steps)) (no_steps) (no_steps) (task_step (record { line = 7; work = (module_work (codes "setup") (no_parts)); condition = (expression (defined (variable (codes "r")) ([])) (no_expressions)); loop = None; register = (Some (codes "s")); vars = (no_parts); notify = ([]); changed_when = None; failed_when = None; attempts = None; ignore_errors = None }) (no_steps))); post_tasks = (no_steps); handlers = ([]); forces = true } ∷ []))
book_29 = refl

book_30 : book_from (builtins ++ ([])) (list (item (rec (field (codes "force_handlers") (boolean true) (field (codes "hosts") (text (codes "g")) (field (codes "pre_tasks") (list (item (rec (field (codes "meta") (text (codes "flush_handlers")) (no_fields))) (no_items))) (field (codes "serial") (int (pos 2)) (field (codes "strategy") (text (codes "free")) (field (codes "tasks") (list (item (rec (field (codes "meta") (text (codes "flush_handlers")) (no_fields))) (item (rec (field (codes "changed_when") (boolean true) (field (codes "command") (text (codes "x")) (field (codes "when") (list (item (text (codes "not (r is undefined or r is failed)")) (no_items))) (no_fields))))) (no_items)))) (no_fields)))))))) (no_items))) ≡ Ok ((record { line = 1; pattern = ((codes "g") ∷ []); gathering = None; vars = (no_parts); is_linear = false; serial = (host_count 2 ∷ []); pre_tasks = (flush_step 2 (no_steps)); tasks = (flush_step 3 (task_step (record { line = 4; work = (module_work (codes "command") (part (codes "cmd") (literal (text (codes "x"))) (no_parts))); condition = (expression (negation (disjunction (expression (negation (defined (variable (codes "r")) ([]))) (expression (path_status is_failed (variable (codes "r")) ([])) (no_expressions))))) (no_expressions)); loop = None; register = None; vars = (no_parts); notify = ([]); changed_when = (Some (expression (literal (boolean true)) (no_expressions))); failed_when = None; attempts = None; ignore_errors = None }) (no_steps))); post_tasks = (no_steps); handlers = ([]); forces = true } ∷ []))
book_30 = refl

book_31 : book_from (builtins ++ ([])) (list (item (rec (field (codes "force_handlers") (boolean true) (field (codes "hosts") (text (codes "g")) (field (codes "serial") (text (53 ∷ 48 ∷ 37 ∷ [])) (field (codes "strategy") (text (codes "free")) (field (codes "tasks") (list (item (rec (field (codes "stat") (rec (field (codes "path") (text (codes "p")) (no_fields))) (field (codes "vars") (rec (field (codes "v1") (text (123 ∷ 123 ∷ 32 ∷ 103 ∷ 114 ∷ 111 ∷ 117 ∷ 112 ∷ 95 ∷ 110 ∷ 97 ∷ 109 ∷ 101 ∷ 115 ∷ 46 ∷ 114 ∷ 99 ∷ 32 ∷ 125 ∷ 125 ∷ [])) (no_fields))) (field (codes "when") (list (item (text (codes "s is defined and s is not failed")) (no_items))) (no_fields))))) (item (rec (field (codes "block") (list (item (rec (field (codes "loop") (list (item (text (codes "a")) (item (text (codes "b")) (no_items)))) (field (codes "register") (text (codes "r")) (field (codes "setup") null (no_fields))))) (no_items))) (no_fields))) (item (rec (field (codes "meta") (text (codes "flush_handlers")) (no_fields))) (no_items))))) (no_fields))))))) (no_items))) ≡ Ok ((record { line = 1; pattern = ((codes "g") ∷ []); gathering = None; vars = (no_parts); is_linear = false; serial = (percentage 50 ∷ []); pre_tasks = (no_steps); tasks = (task_step (record { line = 2; work = (module_work (codes "stat") (part (codes "path") (literal (text (codes "p"))) (no_parts))); condition = (expression (conjunction (expression (defined (variable (codes "s")) ([])) (expression (negation (path_status is_failed (variable (codes "s")) ([]))) (no_expressions)))) (no_expressions)); loop = None; register = None; vars = (part (codes "v1") (path (variable (codes "group_names")) ((codes "rc") ∷ [])) (no_parts)); notify = ([]); changed_when = None; failed_when = None; attempts = None; ignore_errors = None }) (block_step (record { line = 3; condition = (no_expressions); vars = (no_parts); ignore_errors = None }) (task_step (record { line = 4; work = (module_work (codes "setup") (no_parts)); condition = (no_expressions); loop = (Some (literal (list (item (text (codes "a")) (item (text (codes "b")) (no_items)))))); register = (Some (codes "r")); vars = (no_parts); notify = ([]); changed_when = None; failed_when = None; attempts = None; ignore_errors = None }) (no_steps)) (no_steps) (no_steps) (flush_step 5 (no_steps)))); post_tasks = (no_steps); handlers = ([]); forces = true } ∷ []))
book_31 = refl

book_32 : book_from (builtins ++ ([])) (list (item (rec (field (codes "gather_facts") (boolean true) (field (codes "handlers") (list (item (rec (field (codes "command") (rec (field (codes "cmd") (text (123 ∷ 123 ∷ 32 ∷ 103 ∷ 114 ∷ 111 ∷ 117 ∷ 112 ∷ 95 ∷ 110 ∷ 97 ∷ 109 ∷ 101 ∷ 115 ∷ 46 ∷ 99 ∷ 104 ∷ 97 ∷ 110 ∷ 103 ∷ 101 ∷ 100 ∷ 32 ∷ 125 ∷ 125 ∷ [])) (no_fields))) (field (codes "name") (text (codes "h0")) (field (codes "retries") (int (pos 2)) (field (codes "until") (boolean false) (no_fields)))))) (item (rec (field (codes "failed_when") (text (codes "zz is failed")) (field (codes "name") (text (codes "h1")) (field (codes "stat") (rec (field (codes "path") (text (codes "p")) (no_fields))) (no_fields))))) (no_items)))) (field (codes "hosts") (text (codes "all")) (field (codes "tasks") (list (item (rec (field (codes "meta") (text (codes "flush_handlers")) (no_fields))) (item (rec (field (codes "fail") null (field (codes "notify") (text (codes "h0")) (no_fields)))) (item (rec (field (codes "debug") (rec (field (codes "msg") (int (pos 1)) (no_fields))) (field (codes "failed_when") (boolean false) (field (codes "ignore_errors") (boolean true) (field (codes "loop") (text (123 ∷ 123 ∷ 32 ∷ 114 ∷ 46 ∷ 115 ∷ 116 ∷ 100 ∷ 111 ∷ 117 ∷ 116 ∷ 95 ∷ 108 ∷ 105 ∷ 110 ∷ 101 ∷ 115 ∷ 32 ∷ 125 ∷ 125 ∷ [])) (field (codes "notify") (text (codes "h1")) (field (codes "when") (text (codes "(r.stdout is not defined) or (item.stdout_lines)")) (no_fields)))))))) (no_items))))) (no_fields)))))) (no_items))) ≡ Ok ((record { line = 1; pattern = ((codes "all") ∷ []); gathering = (Some 2); vars = (no_parts); is_linear = true; serial = ([]); pre_tasks = (no_steps); tasks = (flush_step 3 (task_step (record { line = 4; work = (fail_work (no_parts)); condition = (no_expressions); loop = None; register = None; vars = (no_parts); notify = ((codes "h0") ∷ []); changed_when = None; failed_when = None; attempts = None; ignore_errors = None }) (task_step (record { line = 5; work = (debug_work (part (codes "msg") (literal (int (pos 1))) (no_parts))); condition = (expression (disjunction (expression (negation (defined (variable (codes "r")) ((codes "stdout") ∷ []))) (expression (path (variable (codes "item")) ((codes "stdout_lines") ∷ [])) (no_expressions)))) (no_expressions)); loop = (Some (path (variable (codes "r")) ((codes "stdout_lines") ∷ []))); register = None; vars = (no_parts); notify = ((codes "h1") ∷ []); changed_when = None; failed_when = (Some (expression (literal (boolean false)) (no_expressions))); attempts = None; ignore_errors = (Some true) }) (no_steps)))); post_tasks = (no_steps); handlers = (record { work = (record { line = 6; work = (module_work (codes "command") (part (codes "cmd") (path (variable (codes "group_names")) ((codes "changed") ∷ [])) (no_parts))); condition = (no_expressions); loop = None; register = None; vars = (no_parts); notify = ([]); changed_when = None; failed_when = None; attempts = (Some (record { until = (expression (literal (boolean false)) (no_expressions)); retries = 2 })); ignore_errors = None }); name = (Some (codes "h0")); topics = ([]) } ∷ record { work = (record { line = 7; work = (module_work (codes "stat") (part (codes "path") (literal (text (codes "p"))) (no_parts))); condition = (no_expressions); loop = None; register = None; vars = (no_parts); notify = ([]); changed_when = None; failed_when = (Some (expression (path_status is_failed (variable (codes "zz")) ([])) (no_expressions))); attempts = None; ignore_errors = None }); name = (Some (codes "h1")); topics = ([]) } ∷ []); forces = false } ∷ []))
book_32 = refl

book_33 : book_from (builtins ++ ([])) (list (item (rec (field (codes "gather_facts") (boolean true) (field (codes "handlers") (list (item (rec (field (codes "command") (rec (field (codes "cmd") (text (123 ∷ 123 ∷ 32 ∷ 114 ∷ 46 ∷ 99 ∷ 104 ∷ 97 ∷ 110 ∷ 103 ∷ 101 ∷ 100 ∷ 32 ∷ 125 ∷ 125 ∷ [])) (no_fields))) (field (codes "name") (text (codes "h0")) (no_fields)))) (no_items))) (field (codes "hosts") (text (codes "a")) (field (codes "serial") (list (item (int (pos 1)) (item (int (pos 2)) (no_items)))) (field (codes "tasks") (list (item (rec (field (codes "meta") (text (codes "flush_handlers")) (no_fields))) (no_items))) (no_fields))))))) (no_items))) ≡ Ok ((record { line = 1; pattern = ((codes "a") ∷ []); gathering = (Some 2); vars = (no_parts); is_linear = true; serial = (host_count 1 ∷ host_count 2 ∷ []); pre_tasks = (no_steps); tasks = (flush_step 3 (no_steps)); post_tasks = (no_steps); handlers = (record { work = (record { line = 4; work = (module_work (codes "command") (part (codes "cmd") (path (variable (codes "r")) ((codes "changed") ∷ [])) (no_parts))); condition = (no_expressions); loop = None; register = None; vars = (no_parts); notify = ([]); changed_when = None; failed_when = None; attempts = None; ignore_errors = None }); name = (Some (codes "h0")); topics = ([]) } ∷ []); forces = false } ∷ []))
book_33 = refl

book_34 : book_from (builtins ++ ([])) (list (item (rec (field (codes "gather_facts") (boolean true) (field (codes "handlers") (list (item (rec (field (codes "loop") (text (123 ∷ 123 ∷ 32 ∷ 105 ∷ 110 ∷ 118 ∷ 32 ∷ 125 ∷ 125 ∷ [])) (field (codes "name") (text (codes "h0")) (field (codes "ping") null (field (codes "register") (text (codes "r")) (no_fields)))))) (item (rec (field (codes "failed_when") (text (codes "zz is failed")) (field (codes "ignore_errors") (boolean true) (field (codes "name") (text (codes "h1")) (field (codes "ping") null (field (codes "when") (list (item (text (codes "r is not skipped")) (no_items))) (no_fields))))))) (no_items)))) (field (codes "hosts") (text (codes "all")) (field (codes "tasks") (list (item (rec (field (codes "always") (list (no_items)) (field (codes "block") (list (item (rec (field (codes "loop") (list (no_items)) (field (codes "ping") null (field (codes "register") (text (codes "r")) (field (codes "vars") (rec (field (codes "v2") (list (item (int (pos 1)) (item (int (pos 2)) (no_items)))) (no_fields))) (field (codes "when") (list (item (text (codes "not (r is undefined or r is failed)")) (no_items))) (no_fields))))))) (item (rec (field (codes "changed_when") (boolean true) (field (codes "ignore_errors") (boolean true) (field (codes "loop") (list (item (text (codes "a")) (item (text (codes "b")) (no_items)))) (field (codes "notify") (text (codes "h0")) (field (codes "register") (text (codes "r")) (field (codes "set_fact") (rec (field (codes "y") (list (item (text (codes "a")) (no_items))) (no_fields))) (field (codes "when") (list (item (text (codes "y is defined")) (item (text (codes "r is defined")) (no_items)))) (no_fields))))))))) (no_items)))) (field (codes "ignore_errors") (boolean false) (field (codes "rescue") (list (item (rec (field (codes "debug") (rec (field (codes "msg") (boolean true) (no_fields))) (field (codes "failed_when") (text (codes "s.changed")) (field (codes "register") (text (codes "s")) (no_fields))))) (item (rec (field (codes "debug") (rec (field (codes "msg") (text (123 ∷ 123 ∷ 32 ∷ 118 ∷ 50 ∷ 46 ∷ 115 ∷ 116 ∷ 97 ∷ 116 ∷ 46 ∷ 105 ∷ 115 ∷ 100 ∷ 105 ∷ 114 ∷ 32 ∷ 125 ∷ 125 ∷ [])) (no_fields))) (field (codes "failed_when") (text (codes "zz.changed")) (no_fields)))) (no_items)))) (no_fields)))))) (no_items))) (no_fields)))))) (no_items))) ≡ Ok ((record { line = 1; pattern = ((codes "all") ∷ []); gathering = (Some 2); vars = (no_parts); is_linear = true; serial = ([]); pre_tasks = (no_steps); tasks = (block_step (record { line = 3; condition = (no_expressions); vars = (no_parts); ignore_errors = (Some false) }) (task_step (record { line = 4; work = (module_work (codes "ping") (no_parts)); condition = (expression (negation (disjunction (expression (negation (defined (variable (codes "r")) ([]))) (expression (path_status is_failed (variable (codes "r")) ([])) (no_expressions))))) (no_expressions)); loop = (Some (literal (list (no_items)))); register = (Some (codes "r")); vars = (part (codes "v2") (literal (list (item (int (pos 1)) (item (int (pos 2)) (no_items))))) (no_parts)); notify = ([]); changed_when = None; failed_when = None; attempts = None; ignore_errors = None }) (task_step (record { line = 5; work = (set_fact_work (part (codes "y") (literal (list (item (text (codes "a")) (no_items)))) (no_parts))); condition = (expression (defined (variable (codes "y")) ([])) (expression (defined (variable (codes "r")) ([])) (no_expressions))); loop = (Some (literal (list (item (text (codes "a")) (item (text (codes "b")) (no_items)))))); register = (Some (codes "r")); vars = (no_parts); notify = ((codes "h0") ∷ []); changed_when = (Some (expression (literal (boolean true)) (no_expressions))); failed_when = None; attempts = None; ignore_errors = (Some true) }) (no_steps))) (task_step (record { line = 6; work = (debug_work (part (codes "msg") (literal (boolean true)) (no_parts))); condition = (no_expressions); loop = None; register = (Some (codes "s")); vars = (no_parts); notify = ([]); changed_when = None; failed_when = (Some (expression (path (variable (codes "s")) ((codes "changed") ∷ [])) (no_expressions))); attempts = None; ignore_errors = None }) (task_step (record { line = 7; work = (debug_work (part (codes "msg") (path (variable (codes "v2")) ((codes "stat") ∷ (codes "isdir") ∷ [])) (no_parts))); condition = (no_expressions); loop = None; register = None; vars = (no_parts); notify = ([]); changed_when = None; failed_when = (Some (expression (path (variable (codes "zz")) ((codes "changed") ∷ [])) (no_expressions))); attempts = None; ignore_errors = None }) (no_steps))) (no_steps) (no_steps)); post_tasks = (no_steps); handlers = (record { work = (record { line = 8; work = (module_work (codes "ping") (no_parts)); condition = (no_expressions); loop = (Some (path (variable (codes "inv")) ([]))); register = (Some (codes "r")); vars = (no_parts); notify = ([]); changed_when = None; failed_when = None; attempts = None; ignore_errors = None }); name = (Some (codes "h0")); topics = ([]) } ∷ record { work = (record { line = 9; work = (module_work (codes "ping") (no_parts)); condition = (expression (negation (path_status is_skipped (variable (codes "r")) ([]))) (no_expressions)); loop = None; register = None; vars = (no_parts); notify = ([]); changed_when = None; failed_when = (Some (expression (path_status is_failed (variable (codes "zz")) ([])) (no_expressions))); attempts = None; ignore_errors = (Some true) }); name = (Some (codes "h1")); topics = ([]) } ∷ []); forces = false } ∷ []))
book_34 = refl

book_35 : book_from (builtins ++ ([])) (list (item (rec (field (codes "gather_facts") (boolean true) (field (codes "hosts") (text (codes "a")) (field (codes "strategy") (text (codes "free")) (field (codes "tasks") (list (item (rec (field (codes "block") (list (no_items)) (no_fields))) (no_items))) (no_fields)))))) (no_items))) ≡ Ok ((record { line = 1; pattern = ((codes "a") ∷ []); gathering = (Some 2); vars = (no_parts); is_linear = false; serial = ([]); pre_tasks = (no_steps); tasks = (block_step (record { line = 3; condition = (no_expressions); vars = (no_parts); ignore_errors = None }) (no_steps) (no_steps) (no_steps) (no_steps)); post_tasks = (no_steps); handlers = ([]); forces = false } ∷ []))
book_35 = refl

book_36 : book_from (builtins ++ ([])) (list (item (rec (field (codes "gather_facts") (boolean true) (field (codes "hosts") (text (codes "all")) (field (codes "serial") (list (item (int (pos 1)) (item (int (pos 2)) (no_items)))) (field (codes "tasks") (list (item (rec (field (codes "fail") null (field (codes "when") (text (codes "r.rc is changed")) (no_fields)))) (no_items))) (no_fields)))))) (no_items))) ≡ Ok ((record { line = 1; pattern = ((codes "all") ∷ []); gathering = (Some 2); vars = (no_parts); is_linear = true; serial = (host_count 1 ∷ host_count 2 ∷ []); pre_tasks = (no_steps); tasks = (task_step (record { line = 3; work = (fail_work (no_parts)); condition = (expression (path_status is_changed (variable (codes "r")) ((codes "rc") ∷ [])) (no_expressions)); loop = None; register = None; vars = (no_parts); notify = ([]); changed_when = None; failed_when = None; attempts = None; ignore_errors = None }) (no_steps)); post_tasks = (no_steps); handlers = ([]); forces = false } ∷ []))
book_36 = refl

book_37 : book_from (builtins ++ ([])) (list (item (rec (field (codes "gather_facts") (boolean true) (field (codes "hosts") (text (codes "all")) (field (codes "strategy") (text (codes "free")) (field (codes "tasks") (list (item (rec (field (codes "meta") (text (codes "flush_handlers")) (no_fields))) (item (rec (field (codes "block") (list (item (rec (field (codes "fail") null (field (codes "failed_when") (boolean true) (field (codes "loop") (text (123 ∷ 123 ∷ 32 ∷ 114 ∷ 46 ∷ 115 ∷ 116 ∷ 100 ∷ 111 ∷ 117 ∷ 116 ∷ 95 ∷ 108 ∷ 105 ∷ 110 ∷ 101 ∷ 115 ∷ 32 ∷ 125 ∷ 125 ∷ [])) (field (codes "register") (text (codes "s")) (no_fields)))))) (item (rec (field (codes "command") (text (codes "x")) (field (codes "register") (text (codes "r")) (no_fields)))) (no_items)))) (no_fields))) (no_items)))) (no_fields)))))) (no_items))) ≡ Ok ((record { line = 1; pattern = ((codes "all") ∷ []); gathering = (Some 2); vars = (no_parts); is_linear = false; serial = ([]); pre_tasks = (no_steps); tasks = (flush_step 3 (block_step (record { line = 4; condition = (no_expressions); vars = (no_parts); ignore_errors = None }) (task_step (record { line = 5; work = (fail_work (no_parts)); condition = (no_expressions); loop = (Some (path (variable (codes "r")) ((codes "stdout_lines") ∷ []))); register = (Some (codes "s")); vars = (no_parts); notify = ([]); changed_when = None; failed_when = (Some (expression (literal (boolean true)) (no_expressions))); attempts = None; ignore_errors = None }) (task_step (record { line = 6; work = (module_work (codes "command") (part (codes "cmd") (literal (text (codes "x"))) (no_parts))); condition = (no_expressions); loop = None; register = (Some (codes "r")); vars = (no_parts); notify = ([]); changed_when = None; failed_when = None; attempts = None; ignore_errors = None }) (no_steps))) (no_steps) (no_steps) (no_steps))); post_tasks = (no_steps); handlers = ([]); forces = false } ∷ []))
book_37 = refl

book_38 : book_from (builtins ++ ([])) (list (item (rec (field (codes "gather_facts") (boolean true) (field (codes "hosts") (text (codes "all")) (field (codes "tasks") (list (item (int (pos 5)) (no_items))) (no_fields))))) (no_items))) ≡ Err (record { line = 3; code = 2 })
book_38 = refl

book_39 : book_from (builtins ++ ([])) (list (item (rec (field (codes "gather_facts") (boolean true) (field (codes "hosts") (text (codes "all")) (field (codes "tasks") (list (item (rec (field (codes "always") (list (item (rec (field (codes "always") (list (item (rec (field (codes "always") (list (item (rec (field (codes "always") (list (item (rec (field (codes "always") (list (item (rec (field (codes "always") (list (item (rec (field (codes "always") (list (item (rec (field (codes "always") (list (item (rec (field (codes "always") (list (item (rec (field (codes "always") (list (item (rec (field (codes "always") (list (item (rec (field (codes "always") (list (item (rec (field (codes "ping") null (no_fields))) (item (rec (field (codes "ping") null (no_fields))) (no_items)))) (field (codes "block") (list (no_items)) (no_fields)))) (no_items))) (field (codes "block") (list (no_items)) (no_fields)))) (no_items))) (field (codes "block") (list (no_items)) (no_fields)))) (no_items))) (field (codes "block") (list (no_items)) (no_fields)))) (no_items))) (field (codes "block") (list (no_items)) (no_fields)))) (no_items))) (field (codes "block") (list (no_items)) (no_fields)))) (no_items))) (field (codes "block") (list (no_items)) (no_fields)))) (no_items))) (field (codes "block") (list (no_items)) (no_fields)))) (no_items))) (field (codes "block") (list (no_items)) (no_fields)))) (no_items))) (field (codes "block") (list (no_items)) (no_fields)))) (no_items))) (field (codes "block") (list (no_items)) (no_fields)))) (no_items))) (field (codes "block") (list (no_items)) (no_fields)))) (no_items))) (no_fields))))) (no_items))) ≡ Ok ((record { line = 1; pattern = ((codes "all") ∷ []); gathering = (Some 2); vars = (no_parts); is_linear = true; serial = ([]); pre_tasks = (no_steps); tasks = (block_step (record { line = 3; condition = (no_expressions); vars = (no_parts); ignore_errors = None }) (no_steps) (no_steps) (block_step (record { line = 4; condition = (no_expressions); vars = (no_parts); ignore_errors = None }) (no_steps) (no_steps) (block_step (record { line = 5; condition = (no_expressions); vars = (no_parts); ignore_errors = None }) (no_steps) (no_steps) (block_step (record { line = 6; condition = (no_expressions); vars = (no_parts); ignore_errors = None }) (no_steps) (no_steps) (block_step (record { line = 7; condition = (no_expressions); vars = (no_parts); ignore_errors = None }) (no_steps) (no_steps) (block_step (record { line = 8; condition = (no_expressions); vars = (no_parts); ignore_errors = None }) (no_steps) (no_steps) (block_step (record { line = 9; condition = (no_expressions); vars = (no_parts); ignore_errors = None }) (no_steps) (no_steps) (block_step (record { line = 10; condition = (no_expressions); vars = (no_parts); ignore_errors = None }) (no_steps) (no_steps) (block_step (record { line = 11; condition = (no_expressions); vars = (no_parts); ignore_errors = None }) (no_steps) (no_steps) (block_step (record { line = 12; condition = (no_expressions); vars = (no_parts); ignore_errors = None }) (no_steps) (no_steps) (block_step (record { line = 13; condition = (no_expressions); vars = (no_parts); ignore_errors = None }) (no_steps) (no_steps) (block_step (record { line = 14; condition = (no_expressions); vars = (no_parts); ignore_errors = None }) (no_steps) (no_steps) (task_step (record { line = 15; work = (module_work (codes "ping") (no_parts)); condition = (no_expressions); loop = None; register = None; vars = (no_parts); notify = ([]); changed_when = None; failed_when = None; attempts = None; ignore_errors = None }) (task_step (record { line = 16; work = (module_work (codes "ping") (no_parts)); condition = (no_expressions); loop = None; register = None; vars = (no_parts); notify = ([]); changed_when = None; failed_when = None; attempts = None; ignore_errors = None }) (no_steps))) (no_steps)) (no_steps)) (no_steps)) (no_steps)) (no_steps)) (no_steps)) (no_steps)) (no_steps)) (no_steps)) (no_steps)) (no_steps)) (no_steps)); post_tasks = (no_steps); handlers = ([]); forces = false } ∷ []))
book_39 = refl
