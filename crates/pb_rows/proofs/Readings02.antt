-- The books of cases as they are read, computed.
use Rattle.std.specs.Prelude.{◌≡◌, refl, pos, [], ◌∷◌, ◌++◌, true, false, Some, None, Ok, Err, codes}
use Rattle.pb_semantics.specs.Data.{null, boolean, int, text, list, rec, no_items, item, no_fields, field}
use Rattle.pb_language.specs.Expression.{equal, is_failed, is_skipped, this_host, item_host, literal, path, negation, conjunction, disjunction, comparison, in_batch, defined, path_status, length_of, list_of, record_of, variable, other, no_expressions, expression, no_parts, part}
use Rattle.pb_language.specs.Book.{conditions_are, module_work, debug_work, set_fact_work, assert_work, fail_work, no_steps, task_step, block_step, flush_step, host_count}
use Rattle.pb_language.specs.BookForm.{book_from}
use Rattle.pb_language.specs.Builtins.{builtins}

book_40 : book_from (builtins ++ ([])) (list (item (rec (field (codes "gather_facts") (boolean true) (field (codes "hosts") (text (codes "all")) (field (codes "tasks") (list (item (rec (field (codes "block") (list (item (rec (field (codes "ping") null (no_fields))) (item (rec (field (codes "block") (list (no_items)) (field (codes "rescue") (list (item (rec (field (codes "debug") (rec (field (codes "msg") (text (123 ∷ 123 ∷ 32 ∷ 121 ∷ 46 ∷ 99 ∷ 104 ∷ 97 ∷ 110 ∷ 103 ∷ 101 ∷ 100 ∷ 32 ∷ 61 ∷ 61 ∷ 32 ∷ 49 ∷ 32 ∷ 125 ∷ 125 ∷ [])) (no_fields))) (no_fields))) (no_items))) (field (codes "when") (text (codes "y.os_family is skipped")) (no_fields))))) (no_items)))) (field (codes "rescue") (list (item (rec (field (codes "register") (text (codes "s")) (field (codes "stat") (rec (field (codes "path") (text (codes "p")) (no_fields))) (field (codes "when") (text (codes "inv.results is undefined")) (no_fields))))) (item (rec (field (codes "setup") null (no_fields))) (no_items)))) (field (codes "when") (text (codes "y is undefined")) (no_fields))))) (item (rec (field (codes "command") (rec (field (codes "cmd") (list (item (text (123 ∷ 123 ∷ 32 ∷ 121 ∷ 32 ∷ 124 ∷ 32 ∷ 108 ∷ 101 ∷ 110 ∷ 103 ∷ 116 ∷ 104 ∷ 32 ∷ 125 ∷ 125 ∷ [])) (no_items))) (no_fields))) (field (codes "ignore_errors") (boolean true) (no_fields)))) (no_items)))) (no_fields))))) (no_items))) ≡ Ok ((record { line = 1; pattern = ((codes "all") ∷ []); gathering = (Some 2); vars = (no_parts); is_linear = true; serial = ([]); pre_tasks = (no_steps); tasks = (block_step (record { line = 3; condition = (expression (negation (defined (variable (codes "y")) ([]))) (no_expressions)); vars = (no_parts); ignore_errors = None }) (task_step (record { line = 4; work = (module_work (codes "ping") (no_parts)); condition = (no_expressions); loop = None; register = None; vars = (no_parts); notify = ([]); changed_when = None; failed_when = None; attempts = None; ignore_errors = None }) (block_step (record { line = 5; condition = (expression (path_status is_skipped (variable (codes "y")) ((codes "os_family") ∷ [])) (no_expressions)); vars = (no_parts); ignore_errors = None }) (no_steps) (task_step (record { line = 6; work = (debug_work (part (codes "msg") (comparison equal (path (variable (codes "y")) ((codes "changed") ∷ [])) (literal (int (pos 1)))) (no_parts))); condition = (no_expressions); loop = None; register = None; vars = (no_parts); notify = ([]); changed_when = None; failed_when = None; attempts = None; ignore_errors = None }) (no_steps)) (no_steps) (no_steps))) (task_step (record { line = 7; work = (module_work (codes "stat") (part (codes "path") (literal (text (codes "p"))) (no_parts))); condition = (expression (negation (defined (variable (codes "inv")) ((codes "results") ∷ []))) (no_expressions)); loop = None; register = (Some (codes "s")); vars = (no_parts); notify = ([]); changed_when = None; failed_when = None; attempts = None; ignore_errors = None }) (task_step (record { line = 8; work = (module_work (codes "setup") (no_parts)); condition = (no_expressions); loop = None; register = None; vars = (no_parts); notify = ([]); changed_when = None; failed_when = None; attempts = None; ignore_errors = None }) (no_steps))) (no_steps) (task_step (record { line = 9; work = (module_work (codes "command") (part (codes "cmd") (list_of (expression (length_of (path (variable (codes "y")) ([]))) (no_expressions))) (no_parts))); condition = (no_expressions); loop = None; register = None; vars = (no_parts); notify = ([]); changed_when = None; failed_when = None; attempts = None; ignore_errors = (Some true) }) (no_steps))); post_tasks = (no_steps); handlers = ([]); forces = false } ∷ []))
book_40 = refl

book_41 : book_from (builtins ++ ([])) (list (item (rec (field (codes "gather_facts") (boolean true) (field (codes "hosts") (text (codes "all")) (field (codes "tasks") (list (item (rec (field (codes "debug") (rec (field (codes "msg") (text (123 ∷ 123 ∷ 32 ∷ 97 ∷ 110 ∷ 115 ∷ 105 ∷ 98 ∷ 108 ∷ 101 ∷ 95 ∷ 111 ∷ 115 ∷ 95 ∷ 102 ∷ 97 ∷ 109 ∷ 105 ∷ 108 ∷ 121 ∷ 32 ∷ 125 ∷ 125 ∷ [])) (no_fields))) (field (codes "when") (text (codes "ansible_os_family is defined")) (no_fields)))) (no_items))) (no_fields))))) (no_items))) ≡ Ok ((record { line = 1; pattern = ((codes "all") ∷ []); gathering = (Some 2); vars = (no_parts); is_linear = true; serial = ([]); pre_tasks = (no_steps); tasks = (task_step (record { line = 3; work = (debug_work (part (codes "msg") (path (variable (codes "ansible_os_family")) ([])) (no_parts))); condition = (expression (defined (variable (codes "ansible_os_family")) ([])) (no_expressions)); loop = None; register = None; vars = (no_parts); notify = ([]); changed_when = None; failed_when = None; attempts = None; ignore_errors = None }) (no_steps)); post_tasks = (no_steps); handlers = ([]); forces = false } ∷ []))
book_41 = refl

book_42 : book_from (builtins ++ ([])) (list (item (rec (field (codes "gather_facts") (boolean true) (field (codes "hosts") (text (codes "all")) (field (codes "tasks") (list (item (rec (field (codes "loop") (list (no_items)) (field (codes "register") (text (codes "s")) (field (codes "setup") null (no_fields))))) (item (rec (field (codes "command") (text (codes "x")) (field (codes "loop") (list (item (text (codes "a")) (item (text (codes "b")) (no_items)))) (field (codes "register") (text (codes "s")) (field (codes "when") (list (item (text (codes "item in ansible_play_batch")) (item (text (codes "r is not skipped")) (no_items)))) (no_fields)))))) (item (rec (field (codes "debug") (rec (field (codes "msg") (text (123 ∷ 123 ∷ 32 ∷ 114 ∷ 46 ∷ 102 ∷ 97 ∷ 105 ∷ 108 ∷ 101 ∷ 100 ∷ 32 ∷ 124 ∷ 32 ∷ 108 ∷ 101 ∷ 110 ∷ 103 ∷ 116 ∷ 104 ∷ 32 ∷ 125 ∷ 125 ∷ [])) (no_fields))) (field (codes "register") (text (codes "r")) (no_fields)))) (no_items))))) (field (codes "vars") (rec (field (codes "v1") (text (123 ∷ 123 ∷ 32 ∷ 115 ∷ 46 ∷ 99 ∷ 104 ∷ 97 ∷ 110 ∷ 103 ∷ 101 ∷ 100 ∷ 32 ∷ 125 ∷ 125 ∷ [])) (no_fields))) (no_fields)))))) (no_items))) ≡ Ok ((record { line = 1; pattern = ((codes "all") ∷ []); gathering = (Some 2); vars = (part (codes "v1") (path (variable (codes "s")) ((codes "changed") ∷ [])) (no_parts)); is_linear = true; serial = ([]); pre_tasks = (no_steps); tasks = (task_step (record { line = 3; work = (module_work (codes "setup") (no_parts)); condition = (no_expressions); loop = (Some (literal (list (no_items)))); register = (Some (codes "s")); vars = (no_parts); notify = ([]); changed_when = None; failed_when = None; attempts = None; ignore_errors = None }) (task_step (record { line = 4; work = (module_work (codes "command") (part (codes "cmd") (literal (text (codes "x"))) (no_parts))); condition = (expression (in_batch item_host) (expression (negation (path_status is_skipped (variable (codes "r")) ([]))) (no_expressions))); loop = (Some (literal (list (item (text (codes "a")) (item (text (codes "b")) (no_items)))))); register = (Some (codes "s")); vars = (no_parts); notify = ([]); changed_when = None; failed_when = None; attempts = None; ignore_errors = None }) (task_step (record { line = 5; work = (debug_work (part (codes "msg") (length_of (path (variable (codes "r")) ((codes "failed") ∷ []))) (no_parts))); condition = (no_expressions); loop = None; register = (Some (codes "r")); vars = (no_parts); notify = ([]); changed_when = None; failed_when = None; attempts = None; ignore_errors = None }) (no_steps)))); post_tasks = (no_steps); handlers = ([]); forces = false } ∷ []))
book_42 = refl

book_43 : book_from (builtins ++ ([])) (list (item (rec (field (codes "gather_facts") (boolean true) (field (codes "hosts") (text (codes "all")) (field (codes "tasks") (list (item (rec (field (codes "ping") null (field (codes "register") (text (codes "r")) (field (codes "when") (text (104 ∷ 111 ∷ 115 ∷ 116 ∷ 118 ∷ 97 ∷ 114 ∷ 115 ∷ 91 ∷ 105 ∷ 110 ∷ 118 ∷ 101 ∷ 110 ∷ 116 ∷ 111 ∷ 114 ∷ 121 ∷ 95 ∷ 104 ∷ 111 ∷ 115 ∷ 116 ∷ 110 ∷ 97 ∷ 109 ∷ 101 ∷ 93 ∷ 46 ∷ 105 ∷ 110 ∷ 118 ∷ 32 ∷ 105 ∷ 115 ∷ 32 ∷ 102 ∷ 97 ∷ 105 ∷ 108 ∷ 101 ∷ 100 ∷ [])) (no_fields))))) (no_items))) (no_fields))))) (no_items))) ≡ Ok ((record { line = 1; pattern = ((codes "all") ∷ []); gathering = (Some 2); vars = (no_parts); is_linear = true; serial = ([]); pre_tasks = (no_steps); tasks = (task_step (record { line = 3; work = (module_work (codes "ping") (no_parts)); condition = (expression (path_status is_failed (other this_host (codes "inv")) ([])) (no_expressions)); loop = None; register = (Some (codes "r")); vars = (no_parts); notify = ([]); changed_when = None; failed_when = None; attempts = None; ignore_errors = None }) (no_steps)); post_tasks = (no_steps); handlers = ([]); forces = false } ∷ []))
book_43 = refl

book_44 : book_from (builtins ++ ([])) (list (item (rec (field (codes "gather_facts") (boolean true) (field (codes "hosts") (text (codes "all")) (field (codes "tasks") (list (item (rec (field (codes "retries") (int (pos 2)) (field (codes "setup") null (field (codes "until") (boolean false) (no_fields))))) (item (rec (field (codes "command") (rec (field (codes "cmd") (boolean true) (no_fields))) (field (codes "register") (text (codes "s")) (field (codes "retries") (int (pos 1)) (field (codes "until") (text (codes "s is succeeded")) (no_fields)))))) (no_items)))) (no_fields))))) (no_items))) ≡ Ok ((record { line = 1; pattern = ((codes "all") ∷ []); gathering = (Some 2); vars = (no_parts); is_linear = true; serial = ([]); pre_tasks = (no_steps); tasks = (task_step (record { line = 3; work = (module_work (codes "setup") (no_parts)); condition = (no_expressions); loop = None; register = None; vars = (no_parts); notify = ([]); changed_when = None; failed_when = None; attempts = (Some (record { until = (expression (literal (boolean false)) (no_expressions)); retries = 2 })); ignore_errors = None }) (task_step (record { line = 4; work = (module_work (codes "command") (part (codes "cmd") (literal (boolean true)) (no_parts))); condition = (no_expressions); loop = None; register = (Some (codes "s")); vars = (no_parts); notify = ([]); changed_when = None; failed_when = None; attempts = (Some (record { until = (expression (negation (path_status is_failed (variable (codes "s")) ([]))) (no_expressions)); retries = 1 })); ignore_errors = None }) (no_steps))); post_tasks = (no_steps); handlers = ([]); forces = false } ∷ []))
book_44 = refl

book_45 : book_from (builtins ++ ([])) (list (item (rec (field (codes "gather_facts") (boolean true) (field (codes "hosts") (text (codes "all")) (field (codes "tasks") (list (no_items)) (field (codes "vars") (rec (field (codes "a") (text (123 ∷ 123 ∷ 32 ∷ 97 ∷ 32 ∷ 125 ∷ 125 ∷ [])) (no_fields))) (no_fields)))))) (no_items))) ≡ Ok ((record { line = 1; pattern = ((codes "all") ∷ []); gathering = (Some 2); vars = (part (codes "a") (path (variable (codes "a")) ([])) (no_parts)); is_linear = true; serial = ([]); pre_tasks = (no_steps); tasks = (no_steps); post_tasks = (no_steps); handlers = ([]); forces = false } ∷ []))
book_45 = refl

book_46 : book_from (builtins ++ ([])) (list (item (rec (field (codes "gather_facts") (boolean true) (field (codes "hosts") (text (codes "g")) (field (codes "post_tasks") (list (item (rec (field (codes "register") (text (codes "s")) (field (codes "retries") (int (pos 1)) (field (codes "stat") (rec (field (codes "path") (text (codes "p")) (no_fields))) (field (codes "until") (text (codes "s.changed")) (no_fields)))))) (item (rec (field (codes "meta") (text (codes "flush_handlers")) (no_fields))) (item (rec (field (codes "fail") null (no_fields))) (item (rec (field (codes "register") (text (codes "s")) (field (codes "stat") (rec (field (codes "path") (text (codes "p")) (no_fields))) (no_fields)))) (no_items)))))) (field (codes "strategy") (text (codes "free")) (field (codes "tasks") (list (item (rec (field (codes "assert") (rec (field (codes "that") (text (codes "r.rc is undefined")) (no_fields))) (field (codes "vars") (rec (field (codes "v2") (rec (field (codes "k") (text (123 ∷ 123 ∷ 32 ∷ 105 ∷ 110 ∷ 118 ∷ 101 ∷ 110 ∷ 116 ∷ 111 ∷ 114 ∷ 121 ∷ 95 ∷ 104 ∷ 111 ∷ 115 ∷ 116 ∷ 110 ∷ 97 ∷ 109 ∷ 101 ∷ 46 ∷ 107 ∷ 32 ∷ 125 ∷ 125 ∷ [])) (no_fields))) (no_fields))) (no_fields)))) (item (rec (field (codes "command") (text (codes "x")) (no_fields))) (no_items)))) (field (codes "vars") (rec (field (codes "v1") (text (123 ∷ 123 ∷ 32 ∷ 114 ∷ 46 ∷ 114 ∷ 99 ∷ 32 ∷ 125 ∷ 125 ∷ [])) (no_fields))) (no_fields)))))))) (no_items))) ≡ Ok ((record { line = 1; pattern = ((codes "g") ∷ []); gathering = (Some 2); vars = (part (codes "v1") (path (variable (codes "r")) ((codes "rc") ∷ [])) (no_parts)); is_linear = false; serial = ([]); pre_tasks = (no_steps); tasks = (task_step (record { line = 3; work = (assert_work (conditions_are (expression (negation (defined (variable (codes "r")) ((codes "rc") ∷ []))) (no_expressions))) (no_parts)); condition = (no_expressions); loop = None; register = None; vars = (part (codes "v2") (record_of (part (codes "k") (path (variable (codes "inventory_hostname")) ((codes "k") ∷ [])) (no_parts))) (no_parts)); notify = ([]); changed_when = None; failed_when = None; attempts = None; ignore_errors = None }) (task_step (record { line = 4; work = (module_work (codes "command") (part (codes "cmd") (literal (text (codes "x"))) (no_parts))); condition = (no_expressions); loop = None; register = None; vars = (no_parts); notify = ([]); changed_when = None; failed_when = None; attempts = None; ignore_errors = None }) (no_steps))); post_tasks = (task_step (record { line = 5; work = (module_work (codes "stat") (part (codes "path") (literal (text (codes "p"))) (no_parts))); condition = (no_expressions); loop = None; register = (Some (codes "s")); vars = (no_parts); notify = ([]); changed_when = None; failed_when = None; attempts = (Some (record { until = (expression (path (variable (codes "s")) ((codes "changed") ∷ [])) (no_expressions)); retries = 1 })); ignore_errors = None }) (flush_step 6 (task_step (record { line = 7; work = (fail_work (no_parts)); condition = (no_expressions); loop = None; register = None; vars = (no_parts); notify = ([]); changed_when = None; failed_when = None; attempts = None; ignore_errors = None }) (task_step (record { line = 8; work = (module_work (codes "stat") (part (codes "path") (literal (text (codes "p"))) (no_parts))); condition = (no_expressions); loop = None; register = (Some (codes "s")); vars = (no_parts); notify = ([]); changed_when = None; failed_when = None; attempts = None; ignore_errors = None }) (no_steps))))); handlers = ([]); forces = false } ∷ []))
book_46 = refl

book_47 : book_from (builtins ++ ([])) (list (item (rec (field (codes "gather_facts") (boolean true) (field (codes "hosts") (text (codes "g")) (field (codes "serial") (list (item (int (pos 1)) (item (int (pos 2)) (no_items)))) (field (codes "tasks") (list (item (rec (field (codes "meta") (text (codes "flush_handlers")) (no_fields))) (item (rec (field (codes "block") (list (no_items)) (field (codes "rescue") (list (item (rec (field (codes "command") (text (codes "x")) (field (codes "when") (list (item (text (codes "s is defined and s is not failed")) (no_items))) (no_fields)))) (item (rec (field (codes "assert") (rec (field (codes "that") (text (codes "(ansible_play_batch.rc) or (not (group_names.k is not defined))")) (no_fields))) (no_fields))) (no_items)))) (no_fields)))) (item (rec (field (codes "loop") (list (no_items)) (field (codes "set_fact") (rec (field (codes "s") (int (pos 1)) (no_fields))) (no_fields)))) (no_items))))) (no_fields)))))) (no_items))) ≡ Ok ((record { line = 1; pattern = ((codes "g") ∷ []); gathering = (Some 2); vars = (no_parts); is_linear = true; serial = (host_count 1 ∷ host_count 2 ∷ []); pre_tasks = (no_steps); tasks = (flush_step 3 (block_step (record { line = 4; condition = (no_expressions); vars = (no_parts); ignore_errors = None }) (no_steps) (task_step (record { line = 5; work = (module_work (codes "command") (part (codes "cmd") (literal (text (codes "x"))) (no_parts))); condition = (expression (conjunction (expression (defined (variable (codes "s")) ([])) (expression (negation (path_status is_failed (variable (codes "s")) ([]))) (no_expressions)))) (no_expressions)); loop = None; register = None; vars = (no_parts); notify = ([]); changed_when = None; failed_when = None; attempts = None; ignore_errors = None }) (task_step (record { line = 6; work = (assert_work (conditions_are (expression (disjunction (expression (path (variable (codes "ansible_play_batch")) ((codes "rc") ∷ [])) (expression (negation (negation (defined (variable (codes "group_names")) ((codes "k") ∷ [])))) (no_expressions)))) (no_expressions))) (no_parts)); condition = (no_expressions); loop = None; register = None; vars = (no_parts); notify = ([]); changed_when = None; failed_when = None; attempts = None; ignore_errors = None }) (no_steps))) (no_steps) (task_step (record { line = 7; work = (set_fact_work (part (codes "s") (literal (int (pos 1))) (no_parts))); condition = (no_expressions); loop = (Some (literal (list (no_items)))); register = None; vars = (no_parts); notify = ([]); changed_when = None; failed_when = None; attempts = None; ignore_errors = None }) (no_steps)))); post_tasks = (no_steps); handlers = ([]); forces = false } ∷ []))
book_47 = refl

book_48 : book_from (builtins ++ ([])) (list (item (rec (field (codes "gather_facts") (boolean true) (field (codes "hosts") (text (codes "g")) (field (codes "serial") (list (item (int (pos 1)) (item (int (pos 2)) (no_items)))) (field (codes "tasks") (list (item (rec (field (codes "set_fact") (rec (field (codes "s") (list (item (text (123 ∷ 123 ∷ 32 ∷ 97 ∷ 110 ∷ 115 ∷ 105 ∷ 98 ∷ 108 ∷ 101 ∷ 95 ∷ 112 ∷ 108 ∷ 97 ∷ 121 ∷ 95 ∷ 98 ∷ 97 ∷ 116 ∷ 99 ∷ 104 ∷ 32 ∷ 125 ∷ 125 ∷ [])) (no_items))) (no_fields))) (no_fields))) (no_items))) (no_fields)))))) (no_items))) ≡ Ok ((record { line = 1; pattern = ((codes "g") ∷ []); gathering = (Some 2); vars = (no_parts); is_linear = true; serial = (host_count 1 ∷ host_count 2 ∷ []); pre_tasks = (no_steps); tasks = (task_step (record { line = 3; work = (set_fact_work (part (codes "s") (list_of (expression (path (variable (codes "ansible_play_batch")) ([])) (no_expressions))) (no_parts))); condition = (no_expressions); loop = None; register = None; vars = (no_parts); notify = ([]); changed_when = None; failed_when = None; attempts = None; ignore_errors = None }) (no_steps)); post_tasks = (no_steps); handlers = ([]); forces = false } ∷ []))
book_48 = refl

book_49 : book_from (builtins ++ ([])) (list (item (rec (field (codes "gather_facts") (boolean true) (field (codes "hosts") (text (codes "g")) (field (codes "strategy") (text (codes "free")) (field (codes "tasks") (list (item (rec (field (codes "debug") (rec (field (codes "msg") (list (item (text (123 ∷ 123 ∷ 32 ∷ 97 ∷ 110 ∷ 115 ∷ 105 ∷ 98 ∷ 108 ∷ 101 ∷ 95 ∷ 112 ∷ 108 ∷ 97 ∷ 121 ∷ 95 ∷ 98 ∷ 97 ∷ 116 ∷ 99 ∷ 104 ∷ 32 ∷ 125 ∷ 125 ∷ [])) (no_items))) (no_fields))) (field (codes "vars") (rec (field (codes "v1") (text (123 ∷ 123 ∷ 32 ∷ 103 ∷ 114 ∷ 111 ∷ 117 ∷ 112 ∷ 95 ∷ 110 ∷ 97 ∷ 109 ∷ 101 ∷ 115 ∷ 32 ∷ 125 ∷ 125 ∷ [])) (no_fields))) (field (codes "when") (list (item (text (codes "s is defined and s is not failed")) (no_items))) (no_fields))))) (item (rec (field (codes "failed_when") (text (codes "r.changed")) (field (codes "loop") (list (item (int (pos 1)) (item (int (pos 2)) (no_items)))) (field (codes "register") (text (codes "r")) (field (codes "setup") null (no_fields)))))) (item (rec (field (codes "setup") null (no_fields))) (no_items))))) (no_fields)))))) (no_items))) ≡ Ok ((record { line = 1; pattern = ((codes "g") ∷ []); gathering = (Some 2); vars = (no_parts); is_linear = false; serial = ([]); pre_tasks = (no_steps); tasks = (task_step (record { line = 3; work = (debug_work (part (codes "msg") (list_of (expression (path (variable (codes "ansible_play_batch")) ([])) (no_expressions))) (no_parts))); condition = (expression (conjunction (expression (defined (variable (codes "s")) ([])) (expression (negation (path_status is_failed (variable (codes "s")) ([]))) (no_expressions)))) (no_expressions)); loop = None; register = None; vars = (part (codes "v1") (path (variable (codes "group_names")) ([])) (no_parts)); notify = ([]); changed_when = None; failed_when = None; attempts = None; ignore_errors = None }) (task_step (record { line = 4; work = (module_work (codes "setup") (no_parts)); condition = (no_expressions); loop = (Some (literal (list (item (int (pos 1)) (item (int (pos 2)) (no_items)))))); register = (Some (codes "r")); vars = (no_parts); notify = ([]); changed_when = None; failed_when = (Some (expression (path (variable (codes "r")) ((codes "changed") ∷ [])) (no_expressions))); attempts = None; ignore_errors = None }) (task_step (record { line = 5; work = (module_work (codes "setup") (no_parts)); condition = (no_expressions); loop = None; register = None; vars = (no_parts); notify = ([]); changed_when = None; failed_when = None; attempts = None; ignore_errors = None }) (no_steps)))); post_tasks = (no_steps); handlers = ([]); forces = false } ∷ []))
book_49 = refl

book_50 : book_from (builtins ++ ([])) (list (item (rec (field (codes "gather_facts") (text (codes "yes")) (field (codes "hosts") (text (codes "all")) (no_fields)))) (no_items))) ≡ Err (record { line = 1; code = 4 })
book_50 = refl

book_51 : book_from (builtins ++ ([])) (list (item (rec (field (codes "gather_facts") null (field (codes "hosts") (text (codes "all")) (no_fields)))) (no_items))) ≡ Err (record { line = 1; code = 4 })
book_51 = refl

book_52 : book_from (builtins ++ ([])) (list (item (rec (field (codes "handlers") (list (item (int (pos 5)) (no_items))) (field (codes "hosts") (text (codes "all")) (field (codes "post_tasks") (list (item (int (pos 5)) (no_items))) (field (codes "pre_tasks") (list (item (rec (field (codes "ping") null (no_fields))) (no_items))) (field (codes "tasks") (list (item (rec (field (codes "ping") null (no_fields))) (no_items))) (no_fields))))))) (no_items))) ≡ Err (record { line = 4; code = 2 })
book_52 = refl

book_53 : book_from (builtins ++ ([])) (list (item (rec (field (codes "handlers") (list (item (rec (field (codes "assert") (rec (field (codes "that") (text (codes "inventory_hostname.stdout is undefined")) (no_fields))) (field (codes "name") (text (codes "h0")) (field (codes "register") (text (codes "r")) (no_fields))))) (item (rec (field (codes "name") (text (codes "h1")) (field (codes "register") (text (codes "s")) (field (codes "set_fact") (rec (field (codes "s") (text (codes "a")) (no_fields))) (no_fields))))) (no_items)))) (field (codes "hosts") (text (codes "b,a")) (field (codes "tasks") (list (item (rec (field (codes "command") (text (codes "x")) (field (codes "ignore_errors") (boolean true) (field (codes "notify") (text (codes "h1")) (field (codes "register") (text (codes "s")) (no_fields)))))) (item (rec (field (codes "notify") (text (codes "h1")) (field (codes "register") (text (codes "r")) (field (codes "setup") null (field (codes "when") (list (item (text (codes "r is not skipped")) (no_items))) (no_fields)))))) (no_items)))) (field (codes "vars") (rec (field (codes "v1") (text (123 ∷ 123 ∷ 32 ∷ 114 ∷ 46 ∷ 114 ∷ 101 ∷ 115 ∷ 117 ∷ 108 ∷ 116 ∷ 115 ∷ 32 ∷ 125 ∷ 125 ∷ [])) (no_fields))) (no_fields)))))) (no_items))) ≡ Ok ((record { line = 1; pattern = ((codes "b") ∷ (codes "a") ∷ []); gathering = None; vars = (part (codes "v1") (path (variable (codes "r")) ((codes "results") ∷ [])) (no_parts)); is_linear = true; serial = ([]); pre_tasks = (no_steps); tasks = (task_step (record { line = 2; work = (module_work (codes "command") (part (codes "cmd") (literal (text (codes "x"))) (no_parts))); condition = (no_expressions); loop = None; register = (Some (codes "s")); vars = (no_parts); notify = ((codes "h1") ∷ []); changed_when = None; failed_when = None; attempts = None; ignore_errors = (Some true) }) (task_step (record { line = 3; work = (module_work (codes "setup") (no_parts)); condition = (expression (negation (path_status is_skipped (variable (codes "r")) ([]))) (no_expressions)); loop = None; register = (Some (codes "r")); vars = (no_parts); notify = ((codes "h1") ∷ []); changed_when = None; failed_when = None; attempts = None; ignore_errors = None }) (no_steps))); post_tasks = (no_steps); handlers = (record { work = (record { line = 4; work = (assert_work (conditions_are (expression (negation (defined (variable (codes "inventory_hostname")) ((codes "stdout") ∷ []))) (no_expressions))) (no_parts)); condition = (no_expressions); loop = None; register = (Some (codes "r")); vars = (no_parts); notify = ([]); changed_when = None; failed_when = None; attempts = None; ignore_errors = None }); name = (Some (codes "h0")); topics = ([]) } ∷ record { work = (record { line = 5; work = (set_fact_work (part (codes "s") (literal (text (codes "a"))) (no_parts))); condition = (no_expressions); loop = None; register = (Some (codes "s")); vars = (no_parts); notify = ([]); changed_when = None; failed_when = None; attempts = None; ignore_errors = None }); name = (Some (codes "h1")); topics = ([]) } ∷ []); forces = false } ∷ []))
book_53 = refl

book_54 : book_from (builtins ++ ([])) (list (item (rec (field (codes "handlers") (list (item (rec (field (codes "block") (list (item (int (pos 5)) (item (int (pos 5)) (no_items)))) (field (codes "name") (text (codes "a")) (no_fields)))) (item (int (pos 5)) (no_items)))) (field (codes "hosts") (text (codes "all")) (field (codes "tasks") (list (no_items)) (no_fields))))) (no_items))) ≡ Err (record { line = 2; code = 3 })
book_54 = refl

book_55 : book_from (builtins ++ ([])) (list (item (rec (field (codes "handlers") (list (item (rec (field (codes "block") (list (no_items)) (no_fields))) (no_items))) (field (codes "hosts") (text (codes "all")) (field (codes "tasks") (list (no_items)) (no_fields))))) (no_items))) ≡ Err (record { line = 2; code = 3 })
book_55 = refl

book_56 : book_from (builtins ++ ([])) (list (item (rec (field (codes "handlers") (list (item (rec (field (codes "command") (rec (field (codes "cmd") (text (123 ∷ 123 ∷ 32 ∷ 103 ∷ 114 ∷ 111 ∷ 117 ∷ 112 ∷ 115 ∷ 46 ∷ 103 ∷ 32 ∷ 125 ∷ 125 ∷ [])) (no_fields))) (field (codes "name") (text (codes "h0")) (no_fields)))) (item (rec (field (codes "command") (text (codes "x")) (field (codes "ignore_errors") (boolean false) (field (codes "name") (text (codes "h1")) (field (codes "when") (text (codes "inventory_hostname in ansible_play_batch")) (no_fields)))))) (no_items)))) (field (codes "hosts") (text (codes "a")) (field (codes "strategy") (text (codes "free")) (field (codes "tasks") (list (item (rec (field (codes "command") (rec (field (codes "cmd") (text (123 ∷ 123 ∷ 32 ∷ 97 ∷ 110 ∷ 115 ∷ 105 ∷ 98 ∷ 108 ∷ 101 ∷ 95 ∷ 102 ∷ 97 ∷ 105 ∷ 108 ∷ 101 ∷ 100 ∷ 95 ∷ 114 ∷ 101 ∷ 115 ∷ 117 ∷ 108 ∷ 116 ∷ 46 ∷ 115 ∷ 116 ∷ 100 ∷ 111 ∷ 117 ∷ 116 ∷ 95 ∷ 108 ∷ 105 ∷ 110 ∷ 101 ∷ 115 ∷ 32 ∷ 125 ∷ 125 ∷ [])) (no_fields))) (no_fields))) (item (rec (field (codes "always") (list (item (rec (field (codes "debug") (rec (field (codes "msg") (boolean true) (no_fields))) (no_fields))) (no_items))) (field (codes "block") (list (no_items)) (field (codes "rescue") (list (no_items)) (no_fields))))) (item (rec (field (codes "meta") (text (codes "flush_handlers")) (no_fields))) (no_items))))) (no_fields)))))) (no_items))) ≡ Ok ((record { line = 1; pattern = ((codes "a") ∷ []); gathering = None; vars = (no_parts); is_linear = false; serial = ([]); pre_tasks = (no_steps); tasks = (task_step (record { line = 2; work = (module_work (codes "command") (part (codes "cmd") (path (variable (codes "ansible_failed_result")) ((codes "stdout_lines") ∷ [])) (no_parts))); condition = (no_expressions); loop = None; register = None; vars = (no_parts); notify = ([]); changed_when = None; failed_when = None; attempts = None; ignore_errors = None }) (block_step (record { line = 3; condition = (no_expressions); vars = (no_parts); ignore_errors = None }) (no_steps) (no_steps) (task_step (record { line = 4; work = (debug_work (part (codes "msg") (literal (boolean true)) (no_parts))); condition = (no_expressions); loop = None; register = None; vars = (no_parts); notify = ([]); changed_when = None; failed_when = None; attempts = None; ignore_errors = None }) (no_steps)) (flush_step 5 (no_steps)))); post_tasks = (no_steps); handlers = (record { work = (record { line = 6; work = (module_work (codes "command") (part (codes "cmd") (path (variable (codes "groups")) ((codes "g") ∷ [])) (no_parts))); condition = (no_expressions); loop = None; register = None; vars = (no_parts); notify = ([]); changed_when = None; failed_when = None; attempts = None; ignore_errors = None }); name = (Some (codes "h0")); topics = ([]) } ∷ record { work = (record { line = 7; work = (module_work (codes "command") (part (codes "cmd") (literal (text (codes "x"))) (no_parts))); condition = (expression (in_batch this_host) (no_expressions)); loop = None; register = None; vars = (no_parts); notify = ([]); changed_when = None; failed_when = None; attempts = None; ignore_errors = (Some false) }); name = (Some (codes "h1")); topics = ([]) } ∷ []); forces = false } ∷ []))
book_56 = refl

book_57 : book_from (builtins ++ ([])) (list (item (rec (field (codes "handlers") (list (item (rec (field (codes "command") (text (codes "x")) (field (codes "name") (text (codes "a")) (field (codes "register") (text (codes "out")) (no_fields))))) (item (rec (field (codes "debug") (rec (field (codes "msg") (text (123 ∷ 123 ∷ 32 ∷ 111 ∷ 117 ∷ 116 ∷ 46 ∷ 114 ∷ 99 ∷ 32 ∷ 125 ∷ 125 ∷ [])) (no_fields))) (field (codes "name") (text (codes "b")) (field (codes "when") (text (codes "out is defined")) (no_fields))))) (no_items)))) (field (codes "hosts") (text (codes "all")) (field (codes "tasks") (list (item (rec (field (codes "ping") null (no_fields))) (no_items))) (no_fields))))) (no_items))) ≡ Ok ((record { line = 1; pattern = ((codes "all") ∷ []); gathering = None; vars = (no_parts); is_linear = true; serial = ([]); pre_tasks = (no_steps); tasks = (task_step (record { line = 2; work = (module_work (codes "ping") (no_parts)); condition = (no_expressions); loop = None; register = None; vars = (no_parts); notify = ([]); changed_when = None; failed_when = None; attempts = None; ignore_errors = None }) (no_steps)); post_tasks = (no_steps); handlers = (record { work = (record { line = 3; work = (module_work (codes "command") (part (codes "cmd") (literal (text (codes "x"))) (no_parts))); condition = (no_expressions); loop = None; register = (Some (codes "out")); vars = (no_parts); notify = ([]); changed_when = None; failed_when = None; attempts = None; ignore_errors = None }); name = (Some (codes "a")); topics = ([]) } ∷ record { work = (record { line = 4; work = (debug_work (part (codes "msg") (path (variable (codes "out")) ((codes "rc") ∷ [])) (no_parts))); condition = (expression (defined (variable (codes "out")) ([])) (no_expressions)); loop = None; register = None; vars = (no_parts); notify = ([]); changed_when = None; failed_when = None; attempts = None; ignore_errors = None }); name = (Some (codes "b")); topics = ([]) } ∷ []); forces = false } ∷ []))
book_57 = refl

book_58 : book_from (builtins ++ ([])) (list (item (rec (field (codes "handlers") (list (item (rec (field (codes "command") (text (codes "x")) (field (codes "name") (text (codes "h0")) (field (codes "until") (boolean true) (no_fields))))) (item (rec (field (codes "failed_when") (boolean true) (field (codes "name") (text (codes "h1")) (field (codes "retries") (int (pos 1)) (field (codes "setup") null (field (codes "until") (text (codes "zz.changed")) (no_fields))))))) (no_items)))) (field (codes "hosts") (text (codes "all")) (field (codes "tasks") (list (item (rec (field (codes "loop") (text (123 ∷ 123 ∷ 32 ∷ 103 ∷ 114 ∷ 111 ∷ 117 ∷ 112 ∷ 115 ∷ 46 ∷ 97 ∷ 108 ∷ 108 ∷ 32 ∷ 125 ∷ 125 ∷ [])) (field (codes "register") (text (codes "r")) (field (codes "setup") null (field (codes "when") (text (codes "y")) (no_fields)))))) (no_items))) (no_fields))))) (no_items))) ≡ Ok ((record { line = 1; pattern = ((codes "all") ∷ []); gathering = None; vars = (no_parts); is_linear = true; serial = ([]); pre_tasks = (no_steps); tasks = (task_step (record { line = 2; work = (module_work (codes "setup") (no_parts)); condition = (expression (path (variable (codes "y")) ([])) (no_expressions)); loop = (Some (path (variable (codes "groups")) ((codes "all") ∷ []))); register = (Some (codes "r")); vars = (no_parts); notify = ([]); changed_when = None; failed_when = None; attempts = None; ignore_errors = None }) (no_steps)); post_tasks = (no_steps); handlers = (record { work = (record { line = 3; work = (module_work (codes "command") (part (codes "cmd") (literal (text (codes "x"))) (no_parts))); condition = (no_expressions); loop = None; register = None; vars = (no_parts); notify = ([]); changed_when = None; failed_when = None; attempts = (Some (record { until = (expression (literal (boolean true)) (no_expressions)); retries = 3 })); ignore_errors = None }); name = (Some (codes "h0")); topics = ([]) } ∷ record { work = (record { line = 4; work = (module_work (codes "setup") (no_parts)); condition = (no_expressions); loop = None; register = None; vars = (no_parts); notify = ([]); changed_when = None; failed_when = (Some (expression (literal (boolean true)) (no_expressions))); attempts = (Some (record { until = (expression (path (variable (codes "zz")) ((codes "changed") ∷ [])) (no_expressions)); retries = 1 })); ignore_errors = None }); name = (Some (codes "h1")); topics = ([]) } ∷ []); forces = false } ∷ []))
book_58 = refl

book_59 : book_from (builtins ++ ([])) (list (item (rec (field (codes "handlers") (list (item (rec (field (codes "debug") (rec (field (codes "msg") (text (123 ∷ 123 ∷ 32 ∷ 122 ∷ 122 ∷ 32 ∷ 125 ∷ 125 ∷ [])) (no_fields))) (field (codes "name") (text (codes "x")) (no_fields)))) (no_items))) (field (codes "hosts") (text (codes "all")) (no_fields)))) (item (rec (field (codes "hosts") (text (codes "all")) (field (codes "tasks") (list (item (rec (field (codes "ping") null (no_fields))) (item (rec (field (codes "ping") null (no_fields))) (item (rec (field (codes "ping") null (no_fields))) (no_items))))) (no_fields)))) (no_items)))) ≡ Ok ((record { line = 1; pattern = ((codes "all") ∷ []); gathering = None; vars = (no_parts); is_linear = true; serial = ([]); pre_tasks = (no_steps); tasks = (no_steps); post_tasks = (no_steps); handlers = (record { work = (record { line = 2; work = (debug_work (part (codes "msg") (path (variable (codes "zz")) ([])) (no_parts))); condition = (no_expressions); loop = None; register = None; vars = (no_parts); notify = ([]); changed_when = None; failed_when = None; attempts = None; ignore_errors = None }); name = (Some (codes "x")); topics = ([]) } ∷ []); forces = false } ∷ record { line = 3; pattern = ((codes "all") ∷ []); gathering = None; vars = (no_parts); is_linear = true; serial = ([]); pre_tasks = (no_steps); tasks = (task_step (record { line = 4; work = (module_work (codes "ping") (no_parts)); condition = (no_expressions); loop = None; register = None; vars = (no_parts); notify = ([]); changed_when = None; failed_when = None; attempts = None; ignore_errors = None }) (task_step (record { line = 5; work = (module_work (codes "ping") (no_parts)); condition = (no_expressions); loop = None; register = None; vars = (no_parts); notify = ([]); changed_when = None; failed_when = None; attempts = None; ignore_errors = None }) (task_step (record { line = 6; work = (module_work (codes "ping") (no_parts)); condition = (no_expressions); loop = None; register = None; vars = (no_parts); notify = ([]); changed_when = None; failed_when = None; attempts = None; ignore_errors = None }) (no_steps)))); post_tasks = (no_steps); handlers = ([]); forces = false } ∷ []))
book_59 = refl

book_60 : book_from (builtins ++ ([])) (list (item (rec (field (codes "handlers") (list (item (rec (field (codes "ignore_errors") (boolean true) (field (codes "name") (text (codes "b")) (field (codes "ping") null (no_fields))))) (no_items))) (field (codes "hosts") (text (codes "all")) (field (codes "post_tasks") (list (item (rec (field (codes "ping") null (no_fields))) (no_items))) (field (codes "tasks") (list (item (rec (field (codes "notify") (text (codes "b")) (field (codes "ping") null (no_fields)))) (no_items))) (no_fields)))))) (no_items))) ≡ Ok ((record { line = 1; pattern = ((codes "all") ∷ []); gathering = None; vars = (no_parts); is_linear = true; serial = ([]); pre_tasks = (no_steps); tasks = (task_step (record { line = 2; work = (module_work (codes "ping") (no_parts)); condition = (no_expressions); loop = None; register = None; vars = (no_parts); notify = ((codes "b") ∷ []); changed_when = None; failed_when = None; attempts = None; ignore_errors = None }) (no_steps)); post_tasks = (task_step (record { line = 3; work = (module_work (codes "ping") (no_parts)); condition = (no_expressions); loop = None; register = None; vars = (no_parts); notify = ([]); changed_when = None; failed_when = None; attempts = None; ignore_errors = None }) (no_steps)); handlers = (record { work = (record { line = 4; work = (module_work (codes "ping") (no_parts)); condition = (no_expressions); loop = None; register = None; vars = (no_parts); notify = ([]); changed_when = None; failed_when = None; attempts = None; ignore_errors = (Some true) }); name = (Some (codes "b")); topics = ([]) } ∷ []); forces = false } ∷ []))
book_60 = refl

book_61 : book_from (builtins ++ ([])) (list (item (rec (field (codes "handlers") (list (item (rec (field (codes "listen") (int (pos 1)) (field (codes "ping") null (no_fields)))) (no_items))) (field (codes "hosts") (text (codes "all")) (field (codes "tasks") (list (no_items)) (no_fields))))) (no_items))) ≡ Err (record { line = 2; code = 4 })
book_61 = refl

book_62 : book_from (builtins ++ ([])) (list (item (rec (field (codes "handlers") (list (item (rec (field (codes "listen") (list (item (text (123 ∷ 123 ∷ 32 ∷ 120 ∷ [])) (no_items))) (field (codes "name") (text (codes "h")) (field (codes "ping") null (no_fields))))) (no_items))) (field (codes "hosts") (text (codes "all")) (field (codes "tasks") (list (no_items)) (no_fields))))) (no_items))) ≡ Err (record { line = 2; code = 4 })
book_62 = refl

book_63 : book_from (builtins ++ ([])) (list (item (rec (field (codes "handlers") (list (item (rec (field (codes "listen") (list (item (text (123 ∷ 32 ∷ 120 ∷ [])) (item (text (125 ∷ 125 ∷ 32 ∷ 120 ∷ [])) (no_items)))) (field (codes "name") (text (codes "h")) (field (codes "ping") null (no_fields))))) (no_items))) (field (codes "hosts") (text (codes "all")) (field (codes "tasks") (list (item (rec (field (codes "notify") (text (123 ∷ 123 ∷ 32 ∷ 120 ∷ 32 ∷ 125 ∷ 125 ∷ [])) (field (codes "ping") null (no_fields)))) (no_items))) (no_fields))))) (no_items))) ≡ Err (record { line = 2; code = 4 })
book_63 = refl

book_64 : book_from (builtins ++ ([])) (list (item (rec (field (codes "handlers") (list (item (rec (field (codes "listen") (list (item (text (123 ∷ 32 ∷ 120 ∷ [])) (item (text (125 ∷ 125 ∷ 32 ∷ 120 ∷ [])) (no_items)))) (field (codes "name") (text (codes "h")) (field (codes "ping") null (no_fields))))) (no_items))) (field (codes "hosts") (text (codes "all")) (field (codes "tasks") (list (item (rec (field (codes "notify") (text (123 ∷ 123 ∷ 32 ∷ 120 ∷ [])) (field (codes "ping") null (no_fields)))) (no_items))) (no_fields))))) (no_items))) ≡ Err (record { line = 2; code = 4 })
book_64 = refl

book_65 : book_from (builtins ++ ([])) (list (item (rec (field (codes "handlers") (list (item (rec (field (codes "listen") (list (item (text (123 ∷ 32 ∷ 120 ∷ [])) (item (text (125 ∷ 125 ∷ 32 ∷ 120 ∷ [])) (no_items)))) (field (codes "name") (text (codes "h")) (field (codes "ping") null (no_fields))))) (no_items))) (field (codes "hosts") (text (codes "all")) (field (codes "tasks") (list (item (rec (field (codes "notify") (text (123 ∷ 32 ∷ 120 ∷ [])) (field (codes "ping") null (no_fields)))) (no_items))) (no_fields))))) (no_items))) ≡ Ok ((record { line = 1; pattern = ((codes "all") ∷ []); gathering = None; vars = (no_parts); is_linear = true; serial = ([]); pre_tasks = (no_steps); tasks = (task_step (record { line = 2; work = (module_work (codes "ping") (no_parts)); condition = (no_expressions); loop = None; register = None; vars = (no_parts); notify = ((123 ∷ 32 ∷ 120 ∷ []) ∷ []); changed_when = None; failed_when = None; attempts = None; ignore_errors = None }) (no_steps)); post_tasks = (no_steps); handlers = (record { work = (record { line = 3; work = (module_work (codes "ping") (no_parts)); condition = (no_expressions); loop = None; register = None; vars = (no_parts); notify = ([]); changed_when = None; failed_when = None; attempts = None; ignore_errors = None }); name = (Some (codes "h")); topics = ((123 ∷ 32 ∷ 120 ∷ []) ∷ (125 ∷ 125 ∷ 32 ∷ 120 ∷ []) ∷ []) } ∷ []); forces = false } ∷ []))
book_65 = refl

book_66 : book_from (builtins ++ ([])) (list (item (rec (field (codes "handlers") (list (item (rec (field (codes "listen") (list (item (text (123 ∷ 32 ∷ 120 ∷ [])) (item (text (125 ∷ 125 ∷ 32 ∷ 120 ∷ [])) (no_items)))) (field (codes "name") (text (codes "h")) (field (codes "ping") null (no_fields))))) (no_items))) (field (codes "hosts") (text (codes "all")) (field (codes "tasks") (list (item (rec (field (codes "notify") (text (123 ∷ 37 ∷ 32 ∷ 120 ∷ [])) (field (codes "ping") null (no_fields)))) (no_items))) (no_fields))))) (no_items))) ≡ Err (record { line = 2; code = 4 })
book_66 = refl

book_67 : book_from (builtins ++ ([])) (list (item (rec (field (codes "handlers") (list (item (rec (field (codes "listen") (list (item (text (123 ∷ 32 ∷ 120 ∷ [])) (item (text (125 ∷ 125 ∷ 32 ∷ 120 ∷ [])) (no_items)))) (field (codes "name") (text (codes "h")) (field (codes "ping") null (no_fields))))) (no_items))) (field (codes "hosts") (text (codes "all")) (field (codes "tasks") (list (item (rec (field (codes "notify") (text (125 ∷ 125 ∷ 32 ∷ 120 ∷ [])) (field (codes "ping") null (no_fields)))) (no_items))) (no_fields))))) (no_items))) ≡ Ok ((record { line = 1; pattern = ((codes "all") ∷ []); gathering = None; vars = (no_parts); is_linear = true; serial = ([]); pre_tasks = (no_steps); tasks = (task_step (record { line = 2; work = (module_work (codes "ping") (no_parts)); condition = (no_expressions); loop = None; register = None; vars = (no_parts); notify = ((125 ∷ 125 ∷ 32 ∷ 120 ∷ []) ∷ []); changed_when = None; failed_when = None; attempts = None; ignore_errors = None }) (no_steps)); post_tasks = (no_steps); handlers = (record { work = (record { line = 3; work = (module_work (codes "ping") (no_parts)); condition = (no_expressions); loop = None; register = None; vars = (no_parts); notify = ([]); changed_when = None; failed_when = None; attempts = None; ignore_errors = None }); name = (Some (codes "h")); topics = ((123 ∷ 32 ∷ 120 ∷ []) ∷ (125 ∷ 125 ∷ 32 ∷ 120 ∷ []) ∷ []) } ∷ []); forces = false } ∷ []))
book_67 = refl

book_68 : book_from (builtins ++ ([])) (list (item (rec (field (codes "handlers") (list (item (rec (field (codes "listen") (list (item (text (123 ∷ 32 ∷ 120 ∷ [])) (no_items))) (field (codes "name") (text (codes "h")) (field (codes "ping") null (no_fields))))) (no_items))) (field (codes "hosts") (text (codes "all")) (field (codes "tasks") (list (no_items)) (no_fields))))) (no_items))) ≡ Ok ((record { line = 1; pattern = ((codes "all") ∷ []); gathering = None; vars = (no_parts); is_linear = true; serial = ([]); pre_tasks = (no_steps); tasks = (no_steps); post_tasks = (no_steps); handlers = (record { work = (record { line = 2; work = (module_work (codes "ping") (no_parts)); condition = (no_expressions); loop = None; register = None; vars = (no_parts); notify = ([]); changed_when = None; failed_when = None; attempts = None; ignore_errors = None }); name = (Some (codes "h")); topics = ((123 ∷ 32 ∷ 120 ∷ []) ∷ []) } ∷ []); forces = false } ∷ []))
book_68 = refl

book_69 : book_from (builtins ++ ([])) (list (item (rec (field (codes "handlers") (list (item (rec (field (codes "listen") (list (item (text (123 ∷ 37 ∷ 32 ∷ 120 ∷ [])) (no_items))) (field (codes "name") (text (codes "h")) (field (codes "ping") null (no_fields))))) (no_items))) (field (codes "hosts") (text (codes "all")) (field (codes "tasks") (list (no_items)) (no_fields))))) (no_items))) ≡ Err (record { line = 2; code = 4 })
book_69 = refl

book_70 : book_from (builtins ++ ([])) (list (item (rec (field (codes "handlers") (list (item (rec (field (codes "listen") (list (item (text (125 ∷ 125 ∷ 32 ∷ 120 ∷ [])) (no_items))) (field (codes "name") (text (codes "h")) (field (codes "ping") null (no_fields))))) (no_items))) (field (codes "hosts") (text (codes "all")) (field (codes "tasks") (list (no_items)) (no_fields))))) (no_items))) ≡ Ok ((record { line = 1; pattern = ((codes "all") ∷ []); gathering = None; vars = (no_parts); is_linear = true; serial = ([]); pre_tasks = (no_steps); tasks = (no_steps); post_tasks = (no_steps); handlers = (record { work = (record { line = 2; work = (module_work (codes "ping") (no_parts)); condition = (no_expressions); loop = None; register = None; vars = (no_parts); notify = ([]); changed_when = None; failed_when = None; attempts = None; ignore_errors = None }); name = (Some (codes "h")); topics = ((125 ∷ 125 ∷ 32 ∷ 120 ∷ []) ∷ []) } ∷ []); forces = false } ∷ []))
book_70 = refl

book_71 : book_from (builtins ++ ([])) (list (item (rec (field (codes "handlers") (list (item (rec (field (codes "listen") (text (codes "t")) (field (codes "name") (text (codes "a")) (field (codes "notify") (text (codes "t")) (field (codes "ping") null (no_fields)))))) (no_items))) (field (codes "hosts") (text (codes "all")) (field (codes "tasks") (list (item (rec (field (codes "ping") null (no_fields))) (no_items))) (no_fields))))) (no_items))) ≡ Ok ((record { line = 1; pattern = ((codes "all") ∷ []); gathering = None; vars = (no_parts); is_linear = true; serial = ([]); pre_tasks = (no_steps); tasks = (task_step (record { line = 2; work = (module_work (codes "ping") (no_parts)); condition = (no_expressions); loop = None; register = None; vars = (no_parts); notify = ([]); changed_when = None; failed_when = None; attempts = None; ignore_errors = None }) (no_steps)); post_tasks = (no_steps); handlers = (record { work = (record { line = 3; work = (module_work (codes "ping") (no_parts)); condition = (no_expressions); loop = None; register = None; vars = (no_parts); notify = ((codes "t") ∷ []); changed_when = None; failed_when = None; attempts = None; ignore_errors = None }); name = (Some (codes "a")); topics = ((codes "t") ∷ []) } ∷ []); forces = false } ∷ []))
book_71 = refl

book_72 : book_from (builtins ++ ([])) (list (item (rec (field (codes "handlers") (list (item (rec (field (codes "listen") (text (codes "t")) (field (codes "name") (text (codes "a")) (field (codes "ping") null (no_fields))))) (item (rec (field (codes "name") (text (codes "b")) (field (codes "notify") (text (codes "t")) (field (codes "ping") null (no_fields))))) (item (rec (field (codes "listen") (text (codes "t")) (field (codes "name") (text (codes "c")) (field (codes "ping") null (no_fields))))) (no_items))))) (field (codes "hosts") (text (codes "all")) (field (codes "tasks") (list (item (rec (field (codes "ping") null (no_fields))) (no_items))) (no_fields))))) (no_items))) ≡ Ok ((record { line = 1; pattern = ((codes "all") ∷ []); gathering = None; vars = (no_parts); is_linear = true; serial = ([]); pre_tasks = (no_steps); tasks = (task_step (record { line = 2; work = (module_work (codes "ping") (no_parts)); condition = (no_expressions); loop = None; register = None; vars = (no_parts); notify = ([]); changed_when = None; failed_when = None; attempts = None; ignore_errors = None }) (no_steps)); post_tasks = (no_steps); handlers = (record { work = (record { line = 3; work = (module_work (codes "ping") (no_parts)); condition = (no_expressions); loop = None; register = None; vars = (no_parts); notify = ([]); changed_when = None; failed_when = None; attempts = None; ignore_errors = None }); name = (Some (codes "a")); topics = ((codes "t") ∷ []) } ∷ record { work = (record { line = 4; work = (module_work (codes "ping") (no_parts)); condition = (no_expressions); loop = None; register = None; vars = (no_parts); notify = ((codes "t") ∷ []); changed_when = None; failed_when = None; attempts = None; ignore_errors = None }); name = (Some (codes "b")); topics = ([]) } ∷ record { work = (record { line = 5; work = (module_work (codes "ping") (no_parts)); condition = (no_expressions); loop = None; register = None; vars = (no_parts); notify = ([]); changed_when = None; failed_when = None; attempts = None; ignore_errors = None }); name = (Some (codes "c")); topics = ((codes "t") ∷ []) } ∷ []); forces = false } ∷ []))
book_72 = refl

book_73 : book_from (builtins ++ ([])) (list (item (rec (field (codes "handlers") (list (item (rec (field (codes "meta") (text (codes "flush_handlers")) (no_fields))) (no_items))) (field (codes "hosts") (text (codes "all")) (field (codes "tasks") (list (no_items)) (no_fields))))) (no_items))) ≡ Err (record { line = 2; code = 4 })
book_73 = refl

book_74 : book_from (builtins ++ ([])) (list (item (rec (field (codes "handlers") (list (item (rec (field (codes "name") (text (123 ∷ 123 ∷ 32 ∷ 120 ∷ 32 ∷ 125 ∷ 125 ∷ [])) (field (codes "ping") null (no_fields)))) (no_items))) (field (codes "hosts") (text (codes "all")) (field (codes "tasks") (list (no_items)) (no_fields))))) (no_items))) ≡ Err (record { line = 2; code = 4 })
book_74 = refl

book_75 : book_from (builtins ++ ([])) (list (item (rec (field (codes "handlers") (list (item (rec (field (codes "name") (text (123 ∷ 123 ∷ 32 ∷ 120 ∷ [])) (field (codes "ping") null (no_fields)))) (no_items))) (field (codes "hosts") (text (codes "all")) (field (codes "tasks") (list (no_items)) (no_fields))))) (no_items))) ≡ Err (record { line = 2; code = 4 })
book_75 = refl

book_76 : book_from (builtins ++ ([])) (list (item (rec (field (codes "handlers") (list (item (rec (field (codes "name") (text (123 ∷ 32 ∷ 120 ∷ [])) (field (codes "ping") null (no_fields)))) (no_items))) (field (codes "hosts") (text (codes "all")) (field (codes "tasks") (list (no_items)) (no_fields))))) (no_items))) ≡ Ok ((record { line = 1; pattern = ((codes "all") ∷ []); gathering = None; vars = (no_parts); is_linear = true; serial = ([]); pre_tasks = (no_steps); tasks = (no_steps); post_tasks = (no_steps); handlers = (record { work = (record { line = 2; work = (module_work (codes "ping") (no_parts)); condition = (no_expressions); loop = None; register = None; vars = (no_parts); notify = ([]); changed_when = None; failed_when = None; attempts = None; ignore_errors = None }); name = (Some (123 ∷ 32 ∷ 120 ∷ [])); topics = ([]) } ∷ []); forces = false } ∷ []))
book_76 = refl

book_77 : book_from (builtins ++ ([])) (list (item (rec (field (codes "handlers") (list (item (rec (field (codes "name") (text (123 ∷ 37 ∷ 32 ∷ 120 ∷ [])) (field (codes "ping") null (no_fields)))) (no_items))) (field (codes "hosts") (text (codes "all")) (field (codes "tasks") (list (no_items)) (no_fields))))) (no_items))) ≡ Err (record { line = 2; code = 4 })
book_77 = refl

book_78 : book_from (builtins ++ ([])) (list (item (rec (field (codes "handlers") (list (item (rec (field (codes "name") (text (125 ∷ 125 ∷ 32 ∷ 120 ∷ [])) (field (codes "ping") null (no_fields)))) (no_items))) (field (codes "hosts") (text (codes "all")) (field (codes "tasks") (list (no_items)) (no_fields))))) (no_items))) ≡ Ok ((record { line = 1; pattern = ((codes "all") ∷ []); gathering = None; vars = (no_parts); is_linear = true; serial = ([]); pre_tasks = (no_steps); tasks = (no_steps); post_tasks = (no_steps); handlers = (record { work = (record { line = 2; work = (module_work (codes "ping") (no_parts)); condition = (no_expressions); loop = None; register = None; vars = (no_parts); notify = ([]); changed_when = None; failed_when = None; attempts = None; ignore_errors = None }); name = (Some (125 ∷ 125 ∷ 32 ∷ 120 ∷ [])); topics = ([]) } ∷ []); forces = false } ∷ []))
book_78 = refl

book_79 : book_from (builtins ++ ([])) (list (item (rec (field (codes "handlers") (list (item (rec (field (codes "name") (text (codes "a")) (field (codes "notify") (list (item (text (codes "a")) (item (text (codes "zz")) (no_items)))) (field (codes "ping") null (no_fields))))) (no_items))) (field (codes "hosts") (text (codes "all")) (field (codes "tasks") (list (item (rec (field (codes "ping") null (no_fields))) (no_items))) (no_fields))))) (no_items))) ≡ Ok ((record { line = 1; pattern = ((codes "all") ∷ []); gathering = None; vars = (no_parts); is_linear = true; serial = ([]); pre_tasks = (no_steps); tasks = (task_step (record { line = 2; work = (module_work (codes "ping") (no_parts)); condition = (no_expressions); loop = None; register = None; vars = (no_parts); notify = ([]); changed_when = None; failed_when = None; attempts = None; ignore_errors = None }) (no_steps)); post_tasks = (no_steps); handlers = (record { work = (record { line = 3; work = (module_work (codes "ping") (no_parts)); condition = (no_expressions); loop = None; register = None; vars = (no_parts); notify = ((codes "a") ∷ (codes "zz") ∷ []); changed_when = None; failed_when = None; attempts = None; ignore_errors = None }); name = (Some (codes "a")); topics = ([]) } ∷ []); forces = false } ∷ []))
book_79 = refl
