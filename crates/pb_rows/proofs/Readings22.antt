-- The books of cases as they are read, computed.
use Rattle.std.specs.Prelude.{◌≡◌, refl, pos, negsuc, [], ◌∷◌, ◌++◌, true, false, Some, None, Ok, Err, codes}
use Rattle.pb_semantics.specs.Data.{null, boolean, int, text, list, rec, opaque, no_items, item, no_fields, field}
use Rattle.pb_semantics.specs.Kind.{booleans, ints, texts, lists, recs, no_slots, slot}
use Rattle.pb_language.specs.Expression.{equal, is_failed, is_changed, is_skipped, item_host, literal, path, negation, disjunction, comparison, in_batch, defined, path_status, path_or, length_of, concatenation, list_of, variable, no_expressions, expression, no_parts, part}
use Rattle.pb_language.specs.Book.{conditions_are, module_work, debug_work, set_fact_work, assert_work, fail_work, no_steps, task_step, block_step, flush_step, host_count, percentage}
use Rattle.pb_language.specs.BookForm.{book_from}
use Rattle.pb_language.specs.Builtins.{builtins}

book_840 : book_from (builtins ++ ([])) (list (item opaque (no_items))) ≡ Err (record { line = 1; code = 2 })
book_840 = refl

book_841 : book_from (builtins ++ ([])) (list (no_items)) ≡ Ok (([]))
book_841 = refl

book_842 : book_from (builtins ++ ([])) (rec (no_fields)) ≡ Err (record { line = 0; code = 2 })
book_842 = refl

book_843 : book_from (builtins ++ ([])) (text (codes "x")) ≡ Err (record { line = 0; code = 2 })
book_843 = refl

book_844 : book_from (builtins ++ (record { name = (codes "ansible"); params = ([]); ok = recs (slot (codes "changed") true booleans (no_slots)); failure = recs (slot (codes "changed") true booleans (slot (codes "msg") true texts (no_slots))); free = None } ∷ [])) (list (no_items)) ≡ Ok (([]))
book_844 = refl

book_845 : book_from (builtins ++ (record { name = (codes "ansible_x"); params = ([]); ok = recs (slot (codes "changed") true booleans (no_slots)); failure = recs (slot (codes "changed") true booleans (slot (codes "msg") true texts (no_slots))); free = None } ∷ [])) (list (no_items)) ≡ Ok (([]))
book_845 = refl

book_846 : book_from (builtins ++ (record { name = (codes "probe"); params = (record { name = (codes "n"); kind = ints; required = false } ∷ record { name = (codes "l"); kind = (lists texts 3); required = false } ∷ []); ok = recs (slot (codes "changed") true booleans (slot (codes "deep") false (recs (slot (codes "a") true texts (slot (codes "b") false booleans (no_slots)))) (slot (codes "rows") true (lists texts 2) (slot (codes "v") false ints (no_slots))))); failure = recs (slot (codes "changed") true booleans (slot (codes "msg") true texts (slot (codes "v") false texts (slot (codes "why") true ints (no_slots))))); free = None } ∷ record { name = (codes "odd"); params = ([]); ok = recs (slot (codes "changed") true booleans (slot (codes "msg") false ints (no_slots))); failure = recs (slot (codes "changed") true booleans (slot (codes "msg") true texts (no_slots))); free = None } ∷ [])) (list (item (rec (field (codes "force_handlers") (boolean false) (field (codes "gather_facts") (boolean true) (field (codes "handlers") (list (item (rec (field (codes "listen") (text (codes "t")) (field (codes "name") (text (codes "h0")) (field (codes "probe") null (no_fields))))) (item (rec (field (codes "ignore_errors") (boolean false) (field (codes "name") (text (codes "h1")) (field (codes "notify") (text (codes "h2")) (field (codes "register") (text (codes "r2")) (field (codes "set_fact") (rec (field (codes "s3") (text (123 ∷ 123 ∷ 32 ∷ 114 ∷ 51 ∷ 46 ∷ 102 ∷ 97 ∷ 105 ∷ 108 ∷ 101 ∷ 100 ∷ 32 ∷ 125 ∷ 125 ∷ [])) (no_fields))) (no_fields))))))) (item (rec (field (codes "command") (text (codes "x")) (field (codes "failed_when") (text (codes "r1 is changed")) (field (codes "name") (text (codes "h2")) (field (codes "register") (text (codes "r1")) (no_fields)))))) (no_items))))) (field (codes "hosts") (text (codes "all")) (field (codes "tasks") (list (item (rec (field (codes "failed_when") (boolean false) (field (codes "notify") (text (codes "h1")) (field (codes "probe") (rec (no_fields)) (field (codes "register") (text (codes "r3")) (field (codes "until") (text (codes "r3.failed == 1")) (no_fields))))))) (no_items))) (no_fields))))))) (no_items))) ≡ Ok ((record { line = 1; pattern = ((codes "all") ∷ []); gathering = (Some 2); vars = (no_parts); is_linear = true; serial = ([]); pre_tasks = (no_steps); tasks = (task_step (record { line = 3; work = (module_work (codes "probe") (no_parts)); condition = (no_expressions); loop = None; register = (Some (codes "r3")); vars = (no_parts); notify = ((codes "h1") ∷ []); changed_when = None; failed_when = (Some (expression (literal (boolean false)) (no_expressions))); attempts = (Some (record { until = (expression (comparison equal (path (variable (codes "r3")) ((codes "failed") ∷ [])) (literal (int (pos 1)))) (no_expressions)); retries = 3 })); ignore_errors = None }) (no_steps)); post_tasks = (no_steps); handlers = (record { work = (record { line = 4; work = (module_work (codes "probe") (no_parts)); condition = (no_expressions); loop = None; register = None; vars = (no_parts); notify = ([]); changed_when = None; failed_when = None; attempts = None; ignore_errors = None }); name = (Some (codes "h0")); topics = ((codes "t") ∷ []) } ∷ record { work = (record { line = 5; work = (set_fact_work (part (codes "s3") (path (variable (codes "r3")) ((codes "failed") ∷ [])) (no_parts))); condition = (no_expressions); loop = None; register = (Some (codes "r2")); vars = (no_parts); notify = ((codes "h2") ∷ []); changed_when = None; failed_when = None; attempts = None; ignore_errors = (Some false) }); name = (Some (codes "h1")); topics = ([]) } ∷ record { work = (record { line = 6; work = (module_work (codes "command") (part (codes "cmd") (literal (text (codes "x"))) (no_parts))); condition = (no_expressions); loop = None; register = (Some (codes "r1")); vars = (no_parts); notify = ([]); changed_when = None; failed_when = (Some (expression (path_status is_changed (variable (codes "r1")) ([])) (no_expressions))); attempts = None; ignore_errors = None }); name = (Some (codes "h2")); topics = ([]) } ∷ []); forces = false } ∷ []))
book_846 = refl

book_847 : book_from (builtins ++ (record { name = (codes "probe"); params = (record { name = (codes "n"); kind = ints; required = false } ∷ record { name = (codes "l"); kind = (lists texts 3); required = false } ∷ []); ok = recs (slot (codes "changed") true booleans (slot (codes "deep") false (recs (slot (codes "a") true texts (slot (codes "b") false booleans (no_slots)))) (slot (codes "rows") true (lists texts 2) (slot (codes "v") false ints (no_slots))))); failure = recs (slot (codes "changed") true booleans (slot (codes "msg") true texts (slot (codes "v") false texts (slot (codes "why") true ints (no_slots))))); free = None } ∷ record { name = (codes "odd"); params = ([]); ok = recs (slot (codes "changed") true booleans (slot (codes "msg") false ints (no_slots))); failure = recs (slot (codes "changed") true booleans (slot (codes "msg") true texts (no_slots))); free = None } ∷ [])) (list (item (rec (field (codes "force_handlers") (boolean false) (field (codes "handlers") (list (item (rec (field (codes "command") (text (codes "x")) (field (codes "listen") (text (codes "t")) (field (codes "name") (text (codes "h0")) (no_fields))))) (no_items))) (field (codes "hosts") (text (codes "all")) (field (codes "tasks") (list (item (rec (field (codes "command") (text (codes "x")) (field (codes "loop") (text (123 ∷ 123 ∷ 32 ∷ 114 ∷ 49 ∷ 46 ∷ 114 ∷ 101 ∷ 115 ∷ 117 ∷ 108 ∷ 116 ∷ 115 ∷ 32 ∷ 124 ∷ 32 ∷ 100 ∷ 101 ∷ 102 ∷ 97 ∷ 117 ∷ 108 ∷ 116 ∷ 40 ∷ 91 ∷ 93 ∷ 41 ∷ 32 ∷ 125 ∷ 125 ∷ [])) (field (codes "register") (text (codes "r3")) (field (codes "vars") (rec (field (codes "v1") (text (123 ∷ 123 ∷ 32 ∷ 97 ∷ 110 ∷ 115 ∷ 105 ∷ 98 ∷ 108 ∷ 101 ∷ 95 ∷ 102 ∷ 97 ∷ 99 ∷ 116 ∷ 115 ∷ 32 ∷ 124 ∷ 32 ∷ 108 ∷ 101 ∷ 110 ∷ 103 ∷ 116 ∷ 104 ∷ 32 ∷ 125 ∷ 125 ∷ [])) (field (codes "v3") (text (120 ∷ 123 ∷ 123 ∷ 32 ∷ 114 ∷ 51 ∷ 46 ∷ 102 ∷ 97 ∷ 105 ∷ 108 ∷ 101 ∷ 100 ∷ 32 ∷ 124 ∷ 32 ∷ 100 ∷ 101 ∷ 102 ∷ 97 ∷ 117 ∷ 108 ∷ 116 ∷ 40 ∷ 115 ∷ 49 ∷ 41 ∷ 32 ∷ 125 ∷ 125 ∷ [])) (no_fields)))) (no_fields)))))) (no_items))) (no_fields)))))) (no_items))) ≡ Ok ((record { line = 1; pattern = ((codes "all") ∷ []); gathering = None; vars = (no_parts); is_linear = true; serial = ([]); pre_tasks = (no_steps); tasks = (task_step (record { line = 2; work = (module_work (codes "command") (part (codes "cmd") (literal (text (codes "x"))) (no_parts))); condition = (no_expressions); loop = (Some (path_or (variable (codes "r1")) ((codes "results") ∷ []) (list_of (no_expressions)))); register = (Some (codes "r3")); vars = (part (codes "v1") (length_of (path (variable (codes "ansible_facts")) ([]))) (part (codes "v3") (concatenation (expression (literal (text (codes "x"))) (expression (path_or (variable (codes "r3")) ((codes "failed") ∷ []) (path (variable (codes "s1")) ([]))) (no_expressions)))) (no_parts))); notify = ([]); changed_when = None; failed_when = None; attempts = None; ignore_errors = None }) (no_steps)); post_tasks = (no_steps); handlers = (record { work = (record { line = 3; work = (module_work (codes "command") (part (codes "cmd") (literal (text (codes "x"))) (no_parts))); condition = (no_expressions); loop = None; register = None; vars = (no_parts); notify = ([]); changed_when = None; failed_when = None; attempts = None; ignore_errors = None }); name = (Some (codes "h0")); topics = ((codes "t") ∷ []) } ∷ []); forces = false } ∷ []))
book_847 = refl

book_848 : book_from (builtins ++ (record { name = (codes "probe"); params = (record { name = (codes "n"); kind = ints; required = false } ∷ record { name = (codes "l"); kind = (lists texts 3); required = false } ∷ []); ok = recs (slot (codes "changed") true booleans (slot (codes "deep") false (recs (slot (codes "a") true texts (slot (codes "b") false booleans (no_slots)))) (slot (codes "rows") true (lists texts 2) (slot (codes "v") false ints (no_slots))))); failure = recs (slot (codes "changed") true booleans (slot (codes "msg") true texts (slot (codes "v") false texts (slot (codes "why") true ints (no_slots))))); free = None } ∷ record { name = (codes "odd"); params = ([]); ok = recs (slot (codes "changed") true booleans (slot (codes "msg") false ints (no_slots))); failure = recs (slot (codes "changed") true booleans (slot (codes "msg") true texts (no_slots))); free = None } ∷ [])) (list (item (rec (field (codes "force_handlers") (boolean false) (field (codes "handlers") (list (item (rec (field (codes "fail") null (field (codes "listen") (text (codes "t")) (field (codes "name") (text (codes "h0")) (field (codes "register") (text (codes "r1")) (no_fields)))))) (no_items))) (field (codes "hosts") (text (codes "all")) (field (codes "pre_tasks") (list (item (rec (field (codes "assert") (rec (field (codes "that") (boolean true) (no_fields))) (field (codes "loop") (text (123 ∷ 123 ∷ 32 ∷ 114 ∷ 50 ∷ 46 ∷ 114 ∷ 101 ∷ 115 ∷ 117 ∷ 108 ∷ 116 ∷ 115 ∷ 32 ∷ 124 ∷ 32 ∷ 100 ∷ 101 ∷ 102 ∷ 97 ∷ 117 ∷ 108 ∷ 116 ∷ 40 ∷ 91 ∷ 93 ∷ 41 ∷ 32 ∷ 125 ∷ 125 ∷ [])) (field (codes "register") (text (codes "r3")) (no_fields))))) (item (rec (field (codes "changed_when") (boolean true) (field (codes "debug") (rec (field (codes "msg") (text (123 ∷ 123 ∷ 32 ∷ 103 ∷ 114 ∷ 111 ∷ 117 ∷ 112 ∷ 95 ∷ 110 ∷ 97 ∷ 109 ∷ 101 ∷ 115 ∷ 32 ∷ 124 ∷ 32 ∷ 100 ∷ 101 ∷ 102 ∷ 97 ∷ 117 ∷ 108 ∷ 116 ∷ 40 ∷ 49 ∷ 41 ∷ 32 ∷ 125 ∷ 125 ∷ [])) (no_fields))) (field (codes "failed_when") (boolean true) (field (codes "loop") (list (item (list (item (text (codes "a")) (item (boolean false) (no_items)))) (item (text (codes "no")) (item (rec (field (codes "f") (int (negsuc 0)) (field (codes "g") (list (item (text (codes "b")) (no_items))) (no_fields)))) (no_items))))) (field (codes "notify") (text (codes "t")) (field (codes "vars") (rec (field (codes "v1") (text (123 ∷ 123 ∷ 32 ∷ 91 ∷ 115 ∷ 49 ∷ 44 ∷ 32 ∷ 115 ∷ 49 ∷ 93 ∷ 32 ∷ 125 ∷ 125 ∷ [])) (field (codes "v2") (text (120 ∷ 123 ∷ 123 ∷ 32 ∷ 114 ∷ 51 ∷ 46 ∷ 109 ∷ 115 ∷ 103 ∷ 32 ∷ 125 ∷ 125 ∷ [])) (no_fields)))) (no_fields)))))))) (no_items)))) (field (codes "serial") (list (item (int (pos 1)) (item (text (49 ∷ 48 ∷ 48 ∷ 37 ∷ [])) (no_items)))) (field (codes "tasks") (list (item (rec (field (codes "ignore_errors") (boolean false) (field (codes "loop") (text (123 ∷ 123 ∷ 32 ∷ 114 ∷ 51 ∷ 46 ∷ 115 ∷ 116 ∷ 100 ∷ 111 ∷ 117 ∷ 116 ∷ 95 ∷ 108 ∷ 105 ∷ 110 ∷ 101 ∷ 115 ∷ 32 ∷ 124 ∷ 32 ∷ 100 ∷ 101 ∷ 102 ∷ 97 ∷ 117 ∷ 108 ∷ 116 ∷ 40 ∷ 91 ∷ 93 ∷ 41 ∷ 32 ∷ 125 ∷ 125 ∷ [])) (field (codes "register") (text (codes "r1")) (field (codes "setup") null (no_fields)))))) (no_items))) (no_fields)))))))) (no_items))) ≡ Ok ((record { line = 1; pattern = ((codes "all") ∷ []); gathering = None; vars = (no_parts); is_linear = true; serial = (host_count 1 ∷ percentage 100 ∷ []); pre_tasks = (task_step (record { line = 2; work = (assert_work (conditions_are (expression (literal (boolean true)) (no_expressions))) (no_parts)); condition = (no_expressions); loop = (Some (path_or (variable (codes "r2")) ((codes "results") ∷ []) (list_of (no_expressions)))); register = (Some (codes "r3")); vars = (no_parts); notify = ([]); changed_when = None; failed_when = None; attempts = None; ignore_errors = None }) (task_step (record { line = 3; work = (debug_work (part (codes "msg") (path_or (variable (codes "group_names")) ([]) (literal (int (pos 1)))) (no_parts))); condition = (no_expressions); loop = (Some (literal (list (item (list (item (text (codes "a")) (item (boolean false) (no_items)))) (item (text (codes "no")) (item (rec (field (codes "f") (int (negsuc 0)) (field (codes "g") (list (item (text (codes "b")) (no_items))) (no_fields)))) (no_items))))))); register = None; vars = (part (codes "v1") (list_of (expression (path (variable (codes "s1")) ([])) (expression (path (variable (codes "s1")) ([])) (no_expressions)))) (part (codes "v2") (concatenation (expression (literal (text (codes "x"))) (expression (path (variable (codes "r3")) ((codes "msg") ∷ [])) (no_expressions)))) (no_parts))); notify = ((codes "t") ∷ []); changed_when = (Some (expression (literal (boolean true)) (no_expressions))); failed_when = (Some (expression (literal (boolean true)) (no_expressions))); attempts = None; ignore_errors = None }) (no_steps))); tasks = (task_step (record { line = 4; work = (module_work (codes "setup") (no_parts)); condition = (no_expressions); loop = (Some (path_or (variable (codes "r3")) ((codes "stdout_lines") ∷ []) (list_of (no_expressions)))); register = (Some (codes "r1")); vars = (no_parts); notify = ([]); changed_when = None; failed_when = None; attempts = None; ignore_errors = (Some false) }) (no_steps)); post_tasks = (no_steps); handlers = (record { work = (record { line = 5; work = (fail_work (no_parts)); condition = (no_expressions); loop = None; register = (Some (codes "r1")); vars = (no_parts); notify = ([]); changed_when = None; failed_when = None; attempts = None; ignore_errors = None }); name = (Some (codes "h0")); topics = ((codes "t") ∷ []) } ∷ []); forces = false } ∷ []))
book_848 = refl

book_849 : book_from (builtins ++ (record { name = (codes "probe"); params = (record { name = (codes "n"); kind = ints; required = false } ∷ record { name = (codes "l"); kind = (lists texts 3); required = false } ∷ []); ok = recs (slot (codes "changed") true booleans (slot (codes "deep") false (recs (slot (codes "a") true texts (slot (codes "b") false booleans (no_slots)))) (slot (codes "rows") true (lists texts 2) (slot (codes "v") false ints (no_slots))))); failure = recs (slot (codes "changed") true booleans (slot (codes "msg") true texts (slot (codes "v") false texts (slot (codes "why") true ints (no_slots))))); free = None } ∷ record { name = (codes "odd"); params = ([]); ok = recs (slot (codes "changed") true booleans (slot (codes "msg") false ints (no_slots))); failure = recs (slot (codes "changed") true booleans (slot (codes "msg") true texts (no_slots))); free = None } ∷ [])) (list (item (rec (field (codes "force_handlers") (boolean false) (field (codes "hosts") (list (item (text (codes "c")) (item (text (codes "all")) (no_items)))) (field (codes "serial") (int (pos 1)) (field (codes "tasks") (list (item (rec (field (codes "changed_when") (boolean false) (field (codes "probe") (rec (no_fields)) (no_fields)))) (no_items))) (no_fields)))))) (no_items))) ≡ Ok ((record { line = 1; pattern = ((codes "c") ∷ (codes "all") ∷ []); gathering = None; vars = (no_parts); is_linear = true; serial = (host_count 1 ∷ []); pre_tasks = (no_steps); tasks = (task_step (record { line = 2; work = (module_work (codes "probe") (no_parts)); condition = (no_expressions); loop = None; register = None; vars = (no_parts); notify = ([]); changed_when = (Some (expression (literal (boolean false)) (no_expressions))); failed_when = None; attempts = None; ignore_errors = None }) (no_steps)); post_tasks = (no_steps); handlers = ([]); forces = false } ∷ []))
book_849 = refl

book_850 : book_from (builtins ++ (record { name = (codes "probe"); params = (record { name = (codes "n"); kind = ints; required = false } ∷ record { name = (codes "l"); kind = (lists texts 3); required = false } ∷ []); ok = recs (slot (codes "changed") true booleans (slot (codes "deep") false (recs (slot (codes "a") true texts (slot (codes "b") false booleans (no_slots)))) (slot (codes "rows") true (lists texts 2) (slot (codes "v") false ints (no_slots))))); failure = recs (slot (codes "changed") true booleans (slot (codes "msg") true texts (slot (codes "v") false texts (slot (codes "why") true ints (no_slots))))); free = None } ∷ record { name = (codes "odd"); params = ([]); ok = recs (slot (codes "changed") true booleans (slot (codes "msg") false ints (no_slots))); failure = recs (slot (codes "changed") true booleans (slot (codes "msg") true texts (no_slots))); free = None } ∷ [])) (list (item (rec (field (codes "force_handlers") (boolean true) (field (codes "gather_facts") (boolean true) (field (codes "handlers") (list (item (rec (field (codes "command") (rec (field (codes "cmd") (text (codes "x")) (no_fields))) (field (codes "name") (text (codes "h0")) (field (codes "register") (text (codes "r1")) (no_fields))))) (item (rec (field (codes "loop") (text (123 ∷ 123 ∷ 32 ∷ 114 ∷ 49 ∷ 46 ∷ 114 ∷ 101 ∷ 115 ∷ 117 ∷ 108 ∷ 116 ∷ 115 ∷ 32 ∷ 124 ∷ 32 ∷ 100 ∷ 101 ∷ 102 ∷ 97 ∷ 117 ∷ 108 ∷ 116 ∷ 40 ∷ 91 ∷ 93 ∷ 41 ∷ 32 ∷ 125 ∷ 125 ∷ [])) (field (codes "name") (text (codes "h1")) (field (codes "probe") (rec (no_fields)) (field (codes "register") (text (codes "r2")) (no_fields)))))) (item (rec (field (codes "command") (rec (field (codes "cmd") (text (codes "x")) (no_fields))) (field (codes "listen") (text (codes "t")) (field (codes "name") (text (codes "h2")) (no_fields))))) (no_items))))) (field (codes "hosts") (text (codes "a")) (field (codes "strategy") (text (codes "free")) (field (codes "tasks") (list (item (rec (field (codes "command") (text (codes "x")) (no_fields))) (no_items))) (no_fields)))))))) (no_items))) ≡ Ok ((record { line = 1; pattern = ((codes "a") ∷ []); gathering = (Some 2); vars = (no_parts); is_linear = false; serial = ([]); pre_tasks = (no_steps); tasks = (task_step (record { line = 3; work = (module_work (codes "command") (part (codes "cmd") (literal (text (codes "x"))) (no_parts))); condition = (no_expressions); loop = None; register = None; vars = (no_parts); notify = ([]); changed_when = None; failed_when = None; attempts = None; ignore_errors = None }) (no_steps)); post_tasks = (no_steps); handlers = (record { work = (record { line = 4; work = (module_work (codes "command") (part (codes "cmd") (literal (text (codes "x"))) (no_parts))); condition = (no_expressions); loop = None; register = (Some (codes "r1")); vars = (no_parts); notify = ([]); changed_when = None; failed_when = None; attempts = None; ignore_errors = None }); name = (Some (codes "h0")); topics = ([]) } ∷ record { work = (record { line = 5; work = (module_work (codes "probe") (no_parts)); condition = (no_expressions); loop = (Some (path_or (variable (codes "r1")) ((codes "results") ∷ []) (list_of (no_expressions)))); register = (Some (codes "r2")); vars = (no_parts); notify = ([]); changed_when = None; failed_when = None; attempts = None; ignore_errors = None }); name = (Some (codes "h1")); topics = ([]) } ∷ record { work = (record { line = 6; work = (module_work (codes "command") (part (codes "cmd") (literal (text (codes "x"))) (no_parts))); condition = (no_expressions); loop = None; register = None; vars = (no_parts); notify = ([]); changed_when = None; failed_when = None; attempts = None; ignore_errors = None }); name = (Some (codes "h2")); topics = ((codes "t") ∷ []) } ∷ []); forces = true } ∷ []))
book_850 = refl

book_851 : book_from (builtins ++ (record { name = (codes "probe"); params = (record { name = (codes "n"); kind = ints; required = false } ∷ record { name = (codes "l"); kind = (lists texts 3); required = false } ∷ []); ok = recs (slot (codes "changed") true booleans (slot (codes "deep") false (recs (slot (codes "a") true texts (slot (codes "b") false booleans (no_slots)))) (slot (codes "rows") true (lists texts 2) (slot (codes "v") false ints (no_slots))))); failure = recs (slot (codes "changed") true booleans (slot (codes "msg") true texts (slot (codes "v") false texts (slot (codes "why") true ints (no_slots))))); free = None } ∷ record { name = (codes "odd"); params = ([]); ok = recs (slot (codes "changed") true booleans (slot (codes "msg") false ints (no_slots))); failure = recs (slot (codes "changed") true booleans (slot (codes "msg") true texts (no_slots))); free = None } ∷ [])) (list (item (rec (field (codes "force_handlers") (boolean true) (field (codes "gather_facts") (boolean true) (field (codes "handlers") (list (item (rec (field (codes "ignore_errors") (boolean false) (field (codes "listen") (text (codes "t")) (field (codes "name") (text (codes "h0")) (field (codes "odd") null (field (codes "register") (text (codes "r3")) (no_fields))))))) (no_items))) (field (codes "hosts") (text (codes "all")) (field (codes "post_tasks") (list (item (rec (field (codes "register") (text (codes "r1")) (field (codes "stat") (rec (field (codes "path") (text (codes "/")) (no_fields))) (no_fields)))) (no_items))) (field (codes "strategy") (text (codes "free")) (field (codes "tasks") (list (item (rec (field (codes "block") (list (no_items)) (no_fields))) (item (rec (field (codes "meta") (text (codes "flush_handlers")) (no_fields))) (item (rec (field (codes "loop") (text (123 ∷ 123 ∷ 32 ∷ 114 ∷ 49 ∷ 46 ∷ 114 ∷ 101 ∷ 115 ∷ 117 ∷ 108 ∷ 116 ∷ 115 ∷ 32 ∷ 124 ∷ 32 ∷ 100 ∷ 101 ∷ 102 ∷ 97 ∷ 117 ∷ 108 ∷ 116 ∷ 40 ∷ 91 ∷ 93 ∷ 41 ∷ 32 ∷ 125 ∷ 125 ∷ [])) (field (codes "setup") null (field (codes "vars") (rec (field (codes "v1") (text (123 ∷ 123 ∷ 32 ∷ 115 ∷ 50 ∷ 32 ∷ 124 ∷ 32 ∷ 100 ∷ 101 ∷ 102 ∷ 97 ∷ 117 ∷ 108 ∷ 116 ∷ 40 ∷ 49 ∷ 41 ∷ 32 ∷ 125 ∷ 125 ∷ [])) (field (codes "v2") (text (120 ∷ 123 ∷ 123 ∷ 32 ∷ 114 ∷ 50 ∷ 46 ∷ 102 ∷ 97 ∷ 105 ∷ 108 ∷ 101 ∷ 100 ∷ 32 ∷ 125 ∷ 125 ∷ [])) (no_fields)))) (no_fields))))) (no_items))))) (field (codes "vars") (rec (field (codes "v1") (text (123 ∷ 123 ∷ 32 ∷ 114 ∷ 50 ∷ 46 ∷ 115 ∷ 107 ∷ 105 ∷ 112 ∷ 95 ∷ 114 ∷ 101 ∷ 97 ∷ 115 ∷ 111 ∷ 110 ∷ 32 ∷ 125 ∷ 125 ∷ [])) (field (codes "v3") (rec (field (codes "f") (int (pos 3)) (no_fields))) (no_fields)))) (no_fields)))))))))) (no_items))) ≡ Ok ((record { line = 1; pattern = ((codes "all") ∷ []); gathering = (Some 2); vars = (part (codes "v1") (path (variable (codes "r2")) ((codes "skip_reason") ∷ [])) (part (codes "v3") (literal (rec (field (codes "f") (int (pos 3)) (no_fields)))) (no_parts))); is_linear = false; serial = ([]); pre_tasks = (no_steps); tasks = (block_step (record { line = 3; condition = (no_expressions); vars = (no_parts); ignore_errors = None }) (no_steps) (no_steps) (no_steps) (flush_step 4 (task_step (record { line = 5; work = (module_work (codes "setup") (no_parts)); condition = (no_expressions); loop = (Some (path_or (variable (codes "r1")) ((codes "results") ∷ []) (list_of (no_expressions)))); register = None; vars = (part (codes "v1") (path_or (variable (codes "s2")) ([]) (literal (int (pos 1)))) (part (codes "v2") (concatenation (expression (literal (text (codes "x"))) (expression (path (variable (codes "r2")) ((codes "failed") ∷ [])) (no_expressions)))) (no_parts))); notify = ([]); changed_when = None; failed_when = None; attempts = None; ignore_errors = None }) (no_steps)))); post_tasks = (task_step (record { line = 6; work = (module_work (codes "stat") (part (codes "path") (literal (text (codes "/"))) (no_parts))); condition = (no_expressions); loop = None; register = (Some (codes "r1")); vars = (no_parts); notify = ([]); changed_when = None; failed_when = None; attempts = None; ignore_errors = None }) (no_steps)); handlers = (record { work = (record { line = 7; work = (module_work (codes "odd") (no_parts)); condition = (no_expressions); loop = None; register = (Some (codes "r3")); vars = (no_parts); notify = ([]); changed_when = None; failed_when = None; attempts = None; ignore_errors = (Some false) }); name = (Some (codes "h0")); topics = ((codes "t") ∷ []) } ∷ []); forces = true } ∷ []))
book_851 = refl

book_852 : book_from (builtins ++ (record { name = (codes "probe"); params = (record { name = (codes "n"); kind = ints; required = false } ∷ record { name = (codes "l"); kind = (lists texts 3); required = false } ∷ []); ok = recs (slot (codes "changed") true booleans (slot (codes "deep") false (recs (slot (codes "a") true texts (slot (codes "b") false booleans (no_slots)))) (slot (codes "rows") true (lists texts 2) (slot (codes "v") false ints (no_slots))))); failure = recs (slot (codes "changed") true booleans (slot (codes "msg") true texts (slot (codes "v") false texts (slot (codes "why") true ints (no_slots))))); free = None } ∷ record { name = (codes "odd"); params = ([]); ok = recs (slot (codes "changed") true booleans (slot (codes "msg") false ints (no_slots))); failure = recs (slot (codes "changed") true booleans (slot (codes "msg") true texts (no_slots))); free = None } ∷ [])) (list (item (rec (field (codes "force_handlers") (boolean true) (field (codes "gather_facts") (boolean true) (field (codes "handlers") (list (item (rec (field (codes "ignore_errors") (boolean false) (field (codes "listen") (text (codes "t")) (field (codes "name") (text (codes "h0")) (field (codes "ping") null (no_fields)))))) (no_items))) (field (codes "hosts") (text (codes "all")) (field (codes "tasks") (list (item (rec (field (codes "meta") (text (codes "flush_handlers")) (no_fields))) (item (rec (field (codes "register") (text (codes "r3")) (field (codes "setup") null (no_fields)))) (item (rec (field (codes "block") (list (item (rec (field (codes "debug") (rec (field (codes "msg") (text (codes "x")) (no_fields))) (field (codes "ignore_errors") (boolean true) (field (codes "register") (text (codes "r1")) (field (codes "when") (list (item (text (codes "r3 is defined")) (item (text (codes "r3 is succeeded")) (no_items)))) (no_fields)))))) (no_items))) (field (codes "rescue") (list (item (rec (field (codes "command") (rec (field (codes "cmd") (text (codes "x")) (no_fields))) (field (codes "register") (text (codes "r2")) (field (codes "vars") (rec (no_fields)) (no_fields))))) (item (rec (field (codes "ping") null (field (codes "register") (text (codes "r2")) (no_fields)))) (no_items)))) (field (codes "vars") (rec (field (codes "v2") (int (pos 1)) (no_fields))) (no_fields))))) (no_items))))) (field (codes "vars") (rec (field (codes "v2") (text (123 ∷ 123 ∷ 32 ∷ 115 ∷ 49 ∷ 32 ∷ 125 ∷ 125 ∷ [])) (no_fields))) (no_fields)))))))) (no_items))) ≡ Ok ((record { line = 1; pattern = ((codes "all") ∷ []); gathering = (Some 2); vars = (part (codes "v2") (path (variable (codes "s1")) ([])) (no_parts)); is_linear = true; serial = ([]); pre_tasks = (no_steps); tasks = (flush_step 3 (task_step (record { line = 4; work = (module_work (codes "setup") (no_parts)); condition = (no_expressions); loop = None; register = (Some (codes "r3")); vars = (no_parts); notify = ([]); changed_when = None; failed_when = None; attempts = None; ignore_errors = None }) (block_step (record { line = 5; condition = (no_expressions); vars = (part (codes "v2") (literal (int (pos 1))) (no_parts)); ignore_errors = None }) (task_step (record { line = 6; work = (debug_work (part (codes "msg") (literal (text (codes "x"))) (no_parts))); condition = (expression (defined (variable (codes "r3")) ([])) (expression (negation (path_status is_failed (variable (codes "r3")) ([]))) (no_expressions))); loop = None; register = (Some (codes "r1")); vars = (no_parts); notify = ([]); changed_when = None; failed_when = None; attempts = None; ignore_errors = (Some true) }) (no_steps)) (task_step (record { line = 7; work = (module_work (codes "command") (part (codes "cmd") (literal (text (codes "x"))) (no_parts))); condition = (no_expressions); loop = None; register = (Some (codes "r2")); vars = (no_parts); notify = ([]); changed_when = None; failed_when = None; attempts = None; ignore_errors = None }) (task_step (record { line = 8; work = (module_work (codes "ping") (no_parts)); condition = (no_expressions); loop = None; register = (Some (codes "r2")); vars = (no_parts); notify = ([]); changed_when = None; failed_when = None; attempts = None; ignore_errors = None }) (no_steps))) (no_steps) (no_steps)))); post_tasks = (no_steps); handlers = (record { work = (record { line = 9; work = (module_work (codes "ping") (no_parts)); condition = (no_expressions); loop = None; register = None; vars = (no_parts); notify = ([]); changed_when = None; failed_when = None; attempts = None; ignore_errors = (Some false) }); name = (Some (codes "h0")); topics = ((codes "t") ∷ []) } ∷ []); forces = true } ∷ []))
book_852 = refl

book_853 : book_from (builtins ++ (record { name = (codes "probe"); params = (record { name = (codes "n"); kind = ints; required = false } ∷ record { name = (codes "l"); kind = (lists texts 3); required = false } ∷ []); ok = recs (slot (codes "changed") true booleans (slot (codes "deep") false (recs (slot (codes "a") true texts (slot (codes "b") false booleans (no_slots)))) (slot (codes "rows") true (lists texts 2) (slot (codes "v") false ints (no_slots))))); failure = recs (slot (codes "changed") true booleans (slot (codes "msg") true texts (slot (codes "v") false texts (slot (codes "why") true ints (no_slots))))); free = None } ∷ record { name = (codes "odd"); params = ([]); ok = recs (slot (codes "changed") true booleans (slot (codes "msg") false ints (no_slots))); failure = recs (slot (codes "changed") true booleans (slot (codes "msg") true texts (no_slots))); free = None } ∷ [])) (list (item (rec (field (codes "force_handlers") (boolean true) (field (codes "gather_facts") (boolean true) (field (codes "hosts") (text (codes "all")) (field (codes "serial") (int (pos 2)) (field (codes "tasks") (list (item (rec (field (codes "ping") null (no_fields))) (item (rec (field (codes "probe") null (field (codes "register") (text (codes "r3")) (no_fields)))) (no_items)))) (no_fields))))))) (no_items))) ≡ Ok ((record { line = 1; pattern = ((codes "all") ∷ []); gathering = (Some 2); vars = (no_parts); is_linear = true; serial = (host_count 2 ∷ []); pre_tasks = (no_steps); tasks = (task_step (record { line = 3; work = (module_work (codes "ping") (no_parts)); condition = (no_expressions); loop = None; register = None; vars = (no_parts); notify = ([]); changed_when = None; failed_when = None; attempts = None; ignore_errors = None }) (task_step (record { line = 4; work = (module_work (codes "probe") (no_parts)); condition = (no_expressions); loop = None; register = (Some (codes "r3")); vars = (no_parts); notify = ([]); changed_when = None; failed_when = None; attempts = None; ignore_errors = None }) (no_steps))); post_tasks = (no_steps); handlers = ([]); forces = true } ∷ []))
book_853 = refl

book_854 : book_from (builtins ++ (record { name = (codes "probe"); params = (record { name = (codes "n"); kind = ints; required = false } ∷ record { name = (codes "l"); kind = (lists texts 3); required = false } ∷ []); ok = recs (slot (codes "changed") true booleans (slot (codes "deep") false (recs (slot (codes "a") true texts (slot (codes "b") false booleans (no_slots)))) (slot (codes "rows") true (lists texts 2) (slot (codes "v") false ints (no_slots))))); failure = recs (slot (codes "changed") true booleans (slot (codes "msg") true texts (slot (codes "v") false texts (slot (codes "why") true ints (no_slots))))); free = None } ∷ record { name = (codes "odd"); params = ([]); ok = recs (slot (codes "changed") true booleans (slot (codes "msg") false ints (no_slots))); failure = recs (slot (codes "changed") true booleans (slot (codes "msg") true texts (no_slots))); free = None } ∷ [])) (list (item (rec (field (codes "force_handlers") (boolean true) (field (codes "gather_facts") (boolean true) (field (codes "hosts") (text (codes "all")) (field (codes "strategy") (text (codes "free")) (field (codes "tasks") (list (item (rec (field (codes "meta") (text (codes "flush_handlers")) (no_fields))) (item (rec (field (codes "set_fact") (rec (field (codes "s1") (rec (field (codes "f") (int (pos 1)) (no_fields))) (no_fields))) (no_fields))) (item (rec (field (codes "ping") null (field (codes "register") (text (codes "r1")) (no_fields)))) (no_items))))) (no_fields))))))) (no_items))) ≡ Ok ((record { line = 1; pattern = ((codes "all") ∷ []); gathering = (Some 2); vars = (no_parts); is_linear = false; serial = ([]); pre_tasks = (no_steps); tasks = (flush_step 3 (task_step (record { line = 4; work = (set_fact_work (part (codes "s1") (literal (rec (field (codes "f") (int (pos 1)) (no_fields)))) (no_parts))); condition = (no_expressions); loop = None; register = None; vars = (no_parts); notify = ([]); changed_when = None; failed_when = None; attempts = None; ignore_errors = None }) (task_step (record { line = 5; work = (module_work (codes "ping") (no_parts)); condition = (no_expressions); loop = None; register = (Some (codes "r1")); vars = (no_parts); notify = ([]); changed_when = None; failed_when = None; attempts = None; ignore_errors = None }) (no_steps)))); post_tasks = (no_steps); handlers = ([]); forces = true } ∷ []))
book_854 = refl

book_855 : book_from (builtins ++ (record { name = (codes "probe"); params = (record { name = (codes "n"); kind = ints; required = false } ∷ record { name = (codes "l"); kind = (lists texts 3); required = false } ∷ []); ok = recs (slot (codes "changed") true booleans (slot (codes "deep") false (recs (slot (codes "a") true texts (slot (codes "b") false booleans (no_slots)))) (slot (codes "rows") true (lists texts 2) (slot (codes "v") false ints (no_slots))))); failure = recs (slot (codes "changed") true booleans (slot (codes "msg") true texts (slot (codes "v") false texts (slot (codes "why") true ints (no_slots))))); free = None } ∷ record { name = (codes "odd"); params = ([]); ok = recs (slot (codes "changed") true booleans (slot (codes "msg") false ints (no_slots))); failure = recs (slot (codes "changed") true booleans (slot (codes "msg") true texts (no_slots))); free = None } ∷ [])) (list (item (rec (field (codes "force_handlers") (boolean true) (field (codes "handlers") (list (item (rec (field (codes "assert") (rec (field (codes "that") (boolean true) (no_fields))) (field (codes "name") (text (codes "h0")) (field (codes "notify") (text (codes "h1")) (field (codes "register") (text (codes "r3")) (no_fields)))))) (item (rec (field (codes "listen") (text (codes "t")) (field (codes "name") (text (codes "h1")) (field (codes "ping") null (field (codes "register") (text (codes "r1")) (no_fields)))))) (no_items)))) (field (codes "hosts") (text (codes "g1")) (field (codes "pre_tasks") (list (item (rec (field (codes "command") (rec (field (codes "cmd") (text (codes "x")) (no_fields))) (field (codes "ignore_errors") (boolean true) (field (codes "loop") (list (item (int (pos 2)) (no_items))) (field (codes "register") (text (codes "r2")) (no_fields)))))) (no_items))) (field (codes "tasks") (list (item (rec (field (codes "fail") null (no_fields))) (no_items))) (no_fields))))))) (item (rec (field (codes "force_handlers") (boolean false) (field (codes "gather_facts") (boolean true) (field (codes "handlers") (list (item (rec (field (codes "command") (rec (field (codes "cmd") (text (codes "x")) (no_fields))) (field (codes "listen") (text (codes "t")) (field (codes "loop") (text (123 ∷ 123 ∷ 32 ∷ 114 ∷ 51 ∷ 46 ∷ 114 ∷ 101 ∷ 115 ∷ 117 ∷ 108 ∷ 116 ∷ 115 ∷ 32 ∷ 124 ∷ 32 ∷ 100 ∷ 101 ∷ 102 ∷ 97 ∷ 117 ∷ 108 ∷ 116 ∷ 40 ∷ 91 ∷ 93 ∷ 41 ∷ 32 ∷ 125 ∷ 125 ∷ [])) (field (codes "name") (text (codes "h0")) (no_fields)))))) (no_items))) (field (codes "hosts") (text (codes "all")) (field (codes "pre_tasks") (list (item (rec (field (codes "meta") (text (codes "flush_handlers")) (no_fields))) (no_items))) (field (codes "tasks") (list (item (rec (field (codes "command") (text (codes "x")) (field (codes "loop") (text (123 ∷ 123 ∷ 32 ∷ 97 ∷ 110 ∷ 115 ∷ 105 ∷ 98 ∷ 108 ∷ 101 ∷ 95 ∷ 112 ∷ 108 ∷ 97 ∷ 121 ∷ 95 ∷ 98 ∷ 97 ∷ 116 ∷ 99 ∷ 104 ∷ 32 ∷ 125 ∷ 125 ∷ [])) (field (codes "notify") (text (codes "h0")) (no_fields))))) (no_items))) (no_fields)))))))) (no_items)))) ≡ Ok ((record { line = 1; pattern = ((codes "g1") ∷ []); gathering = None; vars = (no_parts); is_linear = true; serial = ([]); pre_tasks = (task_step (record { line = 2; work = (module_work (codes "command") (part (codes "cmd") (literal (text (codes "x"))) (no_parts))); condition = (no_expressions); loop = (Some (literal (list (item (int (pos 2)) (no_items))))); register = (Some (codes "r2")); vars = (no_parts); notify = ([]); changed_when = None; failed_when = None; attempts = None; ignore_errors = (Some true) }) (no_steps)); tasks = (task_step (record { line = 3; work = (fail_work (no_parts)); condition = (no_expressions); loop = None; register = None; vars = (no_parts); notify = ([]); changed_when = None; failed_when = None; attempts = None; ignore_errors = None }) (no_steps)); post_tasks = (no_steps); handlers = (record { work = (record { line = 4; work = (assert_work (conditions_are (expression (literal (boolean true)) (no_expressions))) (no_parts)); condition = (no_expressions); loop = None; register = (Some (codes "r3")); vars = (no_parts); notify = ((codes "h1") ∷ []); changed_when = None; failed_when = None; attempts = None; ignore_errors = None }); name = (Some (codes "h0")); topics = ([]) } ∷ record { work = (record { line = 5; work = (module_work (codes "ping") (no_parts)); condition = (no_expressions); loop = None; register = (Some (codes "r1")); vars = (no_parts); notify = ([]); changed_when = None; failed_when = None; attempts = None; ignore_errors = None }); name = (Some (codes "h1")); topics = ((codes "t") ∷ []) } ∷ []); forces = true } ∷ record { line = 6; pattern = ((codes "all") ∷ []); gathering = (Some 7); vars = (no_parts); is_linear = true; serial = ([]); pre_tasks = (flush_step 8 (no_steps)); tasks = (task_step (record { line = 9; work = (module_work (codes "command") (part (codes "cmd") (literal (text (codes "x"))) (no_parts))); condition = (no_expressions); loop = (Some (path (variable (codes "ansible_play_batch")) ([]))); register = None; vars = (no_parts); notify = ((codes "h0") ∷ []); changed_when = None; failed_when = None; attempts = None; ignore_errors = None }) (no_steps)); post_tasks = (no_steps); handlers = (record { work = (record { line = 10; work = (module_work (codes "command") (part (codes "cmd") (literal (text (codes "x"))) (no_parts))); condition = (no_expressions); loop = (Some (path_or (variable (codes "r3")) ((codes "results") ∷ []) (list_of (no_expressions)))); register = None; vars = (no_parts); notify = ([]); changed_when = None; failed_when = None; attempts = None; ignore_errors = None }); name = (Some (codes "h0")); topics = ((codes "t") ∷ []) } ∷ []); forces = false } ∷ []))
book_855 = refl

book_856 : book_from (builtins ++ (record { name = (codes "probe"); params = (record { name = (codes "n"); kind = ints; required = false } ∷ record { name = (codes "l"); kind = (lists texts 3); required = false } ∷ []); ok = recs (slot (codes "changed") true booleans (slot (codes "deep") false (recs (slot (codes "a") true texts (slot (codes "b") false booleans (no_slots)))) (slot (codes "rows") true (lists texts 2) (slot (codes "v") false ints (no_slots))))); failure = recs (slot (codes "changed") true booleans (slot (codes "msg") true texts (slot (codes "v") false texts (slot (codes "why") true ints (no_slots))))); free = None } ∷ record { name = (codes "odd"); params = ([]); ok = recs (slot (codes "changed") true booleans (slot (codes "msg") false ints (no_slots))); failure = recs (slot (codes "changed") true booleans (slot (codes "msg") true texts (no_slots))); free = None } ∷ [])) (list (item (rec (field (codes "force_handlers") (boolean true) (field (codes "handlers") (list (item (rec (field (codes "command") (rec (field (codes "cmd") (text (codes "x")) (no_fields))) (field (codes "listen") (text (codes "t")) (field (codes "name") (text (codes "h0")) (no_fields))))) (no_items))) (field (codes "hosts") (text (codes "d")) (field (codes "tasks") (list (item (rec (field (codes "command") (rec (field (codes "cmd") (text (120 ∷ 32 ∷ 123 ∷ 123 ∷ 32 ∷ 114 ∷ 49 ∷ 46 ∷ 102 ∷ 97 ∷ 105 ∷ 108 ∷ 101 ∷ 100 ∷ 32 ∷ 125 ∷ 125 ∷ [])) (no_fields))) (field (codes "loop") (text (123 ∷ 123 ∷ 32 ∷ 114 ∷ 49 ∷ 46 ∷ 115 ∷ 116 ∷ 100 ∷ 111 ∷ 117 ∷ 116 ∷ 95 ∷ 108 ∷ 105 ∷ 110 ∷ 101 ∷ 115 ∷ 32 ∷ 124 ∷ 32 ∷ 100 ∷ 101 ∷ 102 ∷ 97 ∷ 117 ∷ 108 ∷ 116 ∷ 40 ∷ 91 ∷ 93 ∷ 41 ∷ 32 ∷ 125 ∷ 125 ∷ [])) (field (codes "when") (list (item (text (codes "r1 is defined")) (item (text (codes "r1 is succeeded")) (no_items)))) (no_fields))))) (item (rec (field (codes "assert") (rec (field (codes "that") (list (item (text (codes "r3.results is defined")) (no_items))) (no_fields))) (field (codes "ignore_errors") (boolean false) (no_fields)))) (no_items)))) (no_fields)))))) (item (rec (field (codes "hosts") (text (codes "all")) (field (codes "tasks") (list (item (rec (field (codes "ping") null (field (codes "register") (text (codes "r1")) (no_fields)))) (item (rec (field (codes "debug") (rec (field (codes "msg") (text (120 ∷ 123 ∷ 123 ∷ 32 ∷ 114 ∷ 49 ∷ 46 ∷ 112 ∷ 105 ∷ 110 ∷ 103 ∷ 32 ∷ 125 ∷ 125 ∷ [])) (no_fields))) (field (codes "ignore_errors") (boolean true) (field (codes "register") (text (codes "r1")) (field (codes "when") (list (item (text (codes "ansible_os_family is defined")) (item (text (codes "r1.ping is defined")) (no_items)))) (no_fields)))))) (no_items)))) (no_fields)))) (no_items)))) ≡ Ok ((record { line = 1; pattern = ((codes "d") ∷ []); gathering = None; vars = (no_parts); is_linear = true; serial = ([]); pre_tasks = (no_steps); tasks = (task_step (record { line = 2; work = (module_work (codes "command") (part (codes "cmd") (concatenation (expression (literal (text (codes "x "))) (expression (path (variable (codes "r1")) ((codes "failed") ∷ [])) (no_expressions)))) (no_parts))); condition = (expression (defined (variable (codes "r1")) ([])) (expression (negation (path_status is_failed (variable (codes "r1")) ([]))) (no_expressions))); loop = (Some (path_or (variable (codes "r1")) ((codes "stdout_lines") ∷ []) (list_of (no_expressions)))); register = None; vars = (no_parts); notify = ([]); changed_when = None; failed_when = None; attempts = None; ignore_errors = None }) (task_step (record { line = 3; work = (assert_work (conditions_are (expression (defined (variable (codes "r3")) ((codes "results") ∷ [])) (no_expressions))) (no_parts)); condition = (no_expressions); loop = None; register = None; vars = (no_parts); notify = ([]); changed_when = None; failed_when = None; attempts = None; ignore_errors = (Some false) }) (no_steps))); post_tasks = (no_steps); handlers = (record { work = (record { line = 4; work = (module_work (codes "command") (part (codes "cmd") (literal (text (codes "x"))) (no_parts))); condition = (no_expressions); loop = None; register = None; vars = (no_parts); notify = ([]); changed_when = None; failed_when = None; attempts = None; ignore_errors = None }); name = (Some (codes "h0")); topics = ((codes "t") ∷ []) } ∷ []); forces = true } ∷ record { line = 5; pattern = ((codes "all") ∷ []); gathering = None; vars = (no_parts); is_linear = true; serial = ([]); pre_tasks = (no_steps); tasks = (task_step (record { line = 6; work = (module_work (codes "ping") (no_parts)); condition = (no_expressions); loop = None; register = (Some (codes "r1")); vars = (no_parts); notify = ([]); changed_when = None; failed_when = None; attempts = None; ignore_errors = None }) (task_step (record { line = 7; work = (debug_work (part (codes "msg") (concatenation (expression (literal (text (codes "x"))) (expression (path (variable (codes "r1")) ((codes "ping") ∷ [])) (no_expressions)))) (no_parts))); condition = (expression (defined (variable (codes "ansible_os_family")) ([])) (expression (defined (variable (codes "r1")) ((codes "ping") ∷ [])) (no_expressions))); loop = None; register = (Some (codes "r1")); vars = (no_parts); notify = ([]); changed_when = None; failed_when = None; attempts = None; ignore_errors = (Some true) }) (no_steps))); post_tasks = (no_steps); handlers = ([]); forces = false } ∷ []))
book_856 = refl

book_857 : book_from (builtins ++ (record { name = (codes "probe"); params = (record { name = (codes "n"); kind = ints; required = false } ∷ record { name = (codes "l"); kind = (lists texts 3); required = false } ∷ []); ok = recs (slot (codes "changed") true booleans (slot (codes "deep") false (recs (slot (codes "a") true texts (slot (codes "b") false booleans (no_slots)))) (slot (codes "rows") true (lists texts 2) (slot (codes "v") false ints (no_slots))))); failure = recs (slot (codes "changed") true booleans (slot (codes "msg") true texts (slot (codes "v") false texts (slot (codes "why") true ints (no_slots))))); free = None } ∷ record { name = (codes "odd"); params = ([]); ok = recs (slot (codes "changed") true booleans (slot (codes "msg") false ints (no_slots))); failure = recs (slot (codes "changed") true booleans (slot (codes "msg") true texts (no_slots))); free = None } ∷ [])) (list (item (rec (field (codes "force_handlers") (boolean true) (field (codes "handlers") (list (item (rec (field (codes "command") (text (codes "x")) (field (codes "listen") (text (codes "t")) (field (codes "name") (text (codes "h0")) (field (codes "register") (text (codes "r1")) (no_fields)))))) (no_items))) (field (codes "hosts") (list (item (text (codes "c")) (item (text (codes "all")) (no_items)))) (field (codes "serial") (text (53 ∷ 48 ∷ 37 ∷ [])) (field (codes "strategy") (text (codes "free")) (field (codes "tasks") (list (item (rec (field (codes "ping") null (field (codes "register") (text (codes "r3")) (no_fields)))) (item (rec (field (codes "register") (text (codes "r1")) (field (codes "set_fact") (rec (field (codes "s1") (rec (field (codes "f") (int (pos 1)) (no_fields))) (no_fields))) (no_fields)))) (no_items)))) (no_fields)))))))) (no_items))) ≡ Ok ((record { line = 1; pattern = ((codes "c") ∷ (codes "all") ∷ []); gathering = None; vars = (no_parts); is_linear = false; serial = (percentage 50 ∷ []); pre_tasks = (no_steps); tasks = (task_step (record { line = 2; work = (module_work (codes "ping") (no_parts)); condition = (no_expressions); loop = None; register = (Some (codes "r3")); vars = (no_parts); notify = ([]); changed_when = None; failed_when = None; attempts = None; ignore_errors = None }) (task_step (record { line = 3; work = (set_fact_work (part (codes "s1") (literal (rec (field (codes "f") (int (pos 1)) (no_fields)))) (no_parts))); condition = (no_expressions); loop = None; register = (Some (codes "r1")); vars = (no_parts); notify = ([]); changed_when = None; failed_when = None; attempts = None; ignore_errors = None }) (no_steps))); post_tasks = (no_steps); handlers = (record { work = (record { line = 4; work = (module_work (codes "command") (part (codes "cmd") (literal (text (codes "x"))) (no_parts))); condition = (no_expressions); loop = None; register = (Some (codes "r1")); vars = (no_parts); notify = ([]); changed_when = None; failed_when = None; attempts = None; ignore_errors = None }); name = (Some (codes "h0")); topics = ((codes "t") ∷ []) } ∷ []); forces = true } ∷ []))
book_857 = refl

book_858 : book_from (builtins ++ (record { name = (codes "probe"); params = (record { name = (codes "n"); kind = ints; required = false } ∷ record { name = (codes "l"); kind = (lists texts 3); required = false } ∷ []); ok = recs (slot (codes "changed") true booleans (slot (codes "deep") false (recs (slot (codes "a") true texts (slot (codes "b") false booleans (no_slots)))) (slot (codes "rows") true (lists texts 2) (slot (codes "v") false ints (no_slots))))); failure = recs (slot (codes "changed") true booleans (slot (codes "msg") true texts (slot (codes "v") false texts (slot (codes "why") true ints (no_slots))))); free = None } ∷ record { name = (codes "odd"); params = ([]); ok = recs (slot (codes "changed") true booleans (slot (codes "msg") false ints (no_slots))); failure = recs (slot (codes "changed") true booleans (slot (codes "msg") true texts (no_slots))); free = None } ∷ [])) (list (item (rec (field (codes "force_handlers") (boolean true) (field (codes "handlers") (list (item (rec (field (codes "command") (text (codes "x")) (field (codes "listen") (text (codes "t")) (field (codes "name") (text (codes "h0")) (field (codes "register") (text (codes "r3")) (no_fields)))))) (item (rec (field (codes "name") (text (codes "h1")) (field (codes "stat") (rec (field (codes "path") (text (codes "/")) (no_fields))) (field (codes "vars") (rec (no_fields)) (no_fields))))) (no_items)))) (field (codes "hosts") (text (codes "all")) (field (codes "tasks") (list (item (rec (field (codes "register") (text (codes "r3")) (field (codes "set_fact") (rec (field (codes "s1") (rec (field (codes "f") (int (pos 1)) (no_fields))) (no_fields))) (no_fields)))) (item (rec (field (codes "odd") null (field (codes "register") (text (codes "r3")) (field (codes "until") (boolean false) (no_fields))))) (no_items)))) (field (codes "vars") (rec (no_fields)) (no_fields))))))) (no_items))) ≡ Ok ((record { line = 1; pattern = ((codes "all") ∷ []); gathering = None; vars = (no_parts); is_linear = true; serial = ([]); pre_tasks = (no_steps); tasks = (task_step (record { line = 2; work = (set_fact_work (part (codes "s1") (literal (rec (field (codes "f") (int (pos 1)) (no_fields)))) (no_parts))); condition = (no_expressions); loop = None; register = (Some (codes "r3")); vars = (no_parts); notify = ([]); changed_when = None; failed_when = None; attempts = None; ignore_errors = None }) (task_step (record { line = 3; work = (module_work (codes "odd") (no_parts)); condition = (no_expressions); loop = None; register = (Some (codes "r3")); vars = (no_parts); notify = ([]); changed_when = None; failed_when = None; attempts = (Some (record { until = (expression (literal (boolean false)) (no_expressions)); retries = 3 })); ignore_errors = None }) (no_steps))); post_tasks = (no_steps); handlers = (record { work = (record { line = 4; work = (module_work (codes "command") (part (codes "cmd") (literal (text (codes "x"))) (no_parts))); condition = (no_expressions); loop = None; register = (Some (codes "r3")); vars = (no_parts); notify = ([]); changed_when = None; failed_when = None; attempts = None; ignore_errors = None }); name = (Some (codes "h0")); topics = ((codes "t") ∷ []) } ∷ record { work = (record { line = 5; work = (module_work (codes "stat") (part (codes "path") (literal (text (codes "/"))) (no_parts))); condition = (no_expressions); loop = None; register = None; vars = (no_parts); notify = ([]); changed_when = None; failed_when = None; attempts = None; ignore_errors = None }); name = (Some (codes "h1")); topics = ([]) } ∷ []); forces = true } ∷ []))
book_858 = refl

book_859 : book_from (builtins ++ (record { name = (codes "probe"); params = (record { name = (codes "n"); kind = ints; required = false } ∷ record { name = (codes "l"); kind = (lists texts 3); required = false } ∷ []); ok = recs (slot (codes "changed") true booleans (slot (codes "deep") false (recs (slot (codes "a") true texts (slot (codes "b") false booleans (no_slots)))) (slot (codes "rows") true (lists texts 2) (slot (codes "v") false ints (no_slots))))); failure = recs (slot (codes "changed") true booleans (slot (codes "msg") true texts (slot (codes "v") false texts (slot (codes "why") true ints (no_slots))))); free = None } ∷ record { name = (codes "odd"); params = ([]); ok = recs (slot (codes "changed") true booleans (slot (codes "msg") false ints (no_slots))); failure = recs (slot (codes "changed") true booleans (slot (codes "msg") true texts (no_slots))); free = None } ∷ [])) (list (item (rec (field (codes "force_handlers") (boolean true) (field (codes "handlers") (list (item (rec (field (codes "debug") (rec (field (codes "msg") (text (123 ∷ 123 ∷ 32 ∷ 116 ∷ 114 ∷ 117 ∷ 101 ∷ 32 ∷ 125 ∷ 125 ∷ [])) (no_fields))) (field (codes "ignore_errors") (boolean false) (field (codes "name") (text (codes "h0")) (field (codes "register") (text (codes "r2")) (no_fields)))))) (item (rec (field (codes "listen") (text (codes "t")) (field (codes "loop") (text (123 ∷ 123 ∷ 32 ∷ 97 ∷ 110 ∷ 115 ∷ 105 ∷ 98 ∷ 108 ∷ 101 ∷ 95 ∷ 112 ∷ 108 ∷ 97 ∷ 121 ∷ 95 ∷ 98 ∷ 97 ∷ 116 ∷ 99 ∷ 104 ∷ 32 ∷ 125 ∷ 125 ∷ [])) (field (codes "name") (text (codes "h1")) (field (codes "ping") null (field (codes "register") (text (codes "r2")) (field (codes "when") (text (codes "item in ansible_play_batch")) (no_fields)))))))) (item (rec (field (codes "loop") (list (no_items)) (field (codes "name") (text (codes "h2")) (field (codes "odd") null (no_fields))))) (no_items))))) (field (codes "hosts") (text (codes "all")) (field (codes "tasks") (list (item (rec (field (codes "loop") (text (123 ∷ 123 ∷ 32 ∷ 114 ∷ 49 ∷ 46 ∷ 115 ∷ 116 ∷ 100 ∷ 111 ∷ 117 ∷ 116 ∷ 95 ∷ 108 ∷ 105 ∷ 110 ∷ 101 ∷ 115 ∷ 32 ∷ 124 ∷ 32 ∷ 100 ∷ 101 ∷ 102 ∷ 97 ∷ 117 ∷ 108 ∷ 116 ∷ 40 ∷ 91 ∷ 93 ∷ 41 ∷ 32 ∷ 125 ∷ 125 ∷ [])) (field (codes "probe") (rec (no_fields)) (field (codes "register") (text (codes "r1")) (no_fields))))) (no_items))) (no_fields)))))) (no_items))) ≡ Ok ((record { line = 1; pattern = ((codes "all") ∷ []); gathering = None; vars = (no_parts); is_linear = true; serial = ([]); pre_tasks = (no_steps); tasks = (task_step (record { line = 2; work = (module_work (codes "probe") (no_parts)); condition = (no_expressions); loop = (Some (path_or (variable (codes "r1")) ((codes "stdout_lines") ∷ []) (list_of (no_expressions)))); register = (Some (codes "r1")); vars = (no_parts); notify = ([]); changed_when = None; failed_when = None; attempts = None; ignore_errors = None }) (no_steps)); post_tasks = (no_steps); handlers = (record { work = (record { line = 3; work = (debug_work (part (codes "msg") (literal (boolean true)) (no_parts))); condition = (no_expressions); loop = None; register = (Some (codes "r2")); vars = (no_parts); notify = ([]); changed_when = None; failed_when = None; attempts = None; ignore_errors = (Some false) }); name = (Some (codes "h0")); topics = ([]) } ∷ record { work = (record { line = 4; work = (module_work (codes "ping") (no_parts)); condition = (expression (in_batch item_host) (no_expressions)); loop = (Some (path (variable (codes "ansible_play_batch")) ([]))); register = (Some (codes "r2")); vars = (no_parts); notify = ([]); changed_when = None; failed_when = None; attempts = None; ignore_errors = None }); name = (Some (codes "h1")); topics = ((codes "t") ∷ []) } ∷ record { work = (record { line = 5; work = (module_work (codes "odd") (no_parts)); condition = (no_expressions); loop = (Some (literal (list (no_items)))); register = None; vars = (no_parts); notify = ([]); changed_when = None; failed_when = None; attempts = None; ignore_errors = None }); name = (Some (codes "h2")); topics = ([]) } ∷ []); forces = true } ∷ []))
book_859 = refl

book_860 : book_from (builtins ++ (record { name = (codes "probe"); params = (record { name = (codes "n"); kind = ints; required = false } ∷ record { name = (codes "l"); kind = (lists texts 3); required = false } ∷ []); ok = recs (slot (codes "changed") true booleans (slot (codes "deep") false (recs (slot (codes "a") true texts (slot (codes "b") false booleans (no_slots)))) (slot (codes "rows") true (lists texts 2) (slot (codes "v") false ints (no_slots))))); failure = recs (slot (codes "changed") true booleans (slot (codes "msg") true texts (slot (codes "v") false texts (slot (codes "why") true ints (no_slots))))); free = None } ∷ record { name = (codes "odd"); params = ([]); ok = recs (slot (codes "changed") true booleans (slot (codes "msg") false ints (no_slots))); failure = recs (slot (codes "changed") true booleans (slot (codes "msg") true texts (no_slots))); free = None } ∷ [])) (list (item (rec (field (codes "force_handlers") (boolean true) (field (codes "handlers") (list (item (rec (field (codes "ignore_errors") (boolean true) (field (codes "name") (text (codes "h0")) (field (codes "notify") (text (codes "h1")) (field (codes "register") (text (codes "r2")) (field (codes "set_fact") (rec (field (codes "s2") (boolean true) (field (codes "s3") (list (item (text (123 ∷ 123 ∷ 32 ∷ 114 ∷ 50 ∷ 46 ∷ 102 ∷ 97 ∷ 105 ∷ 108 ∷ 101 ∷ 100 ∷ 32 ∷ 125 ∷ 125 ∷ [])) (no_items))) (no_fields)))) (field (codes "when") (text (codes "r2 is succeeded")) (no_fields)))))))) (item (rec (field (codes "command") (text (codes "x")) (field (codes "listen") (text (codes "t")) (field (codes "name") (text (codes "h1")) (field (codes "notify") (text (codes "h2")) (no_fields)))))) (item (rec (field (codes "command") (rec (field (codes "cmd") (text (codes "x")) (no_fields))) (field (codes "listen") (text (codes "t")) (field (codes "name") (text (codes "h2")) (field (codes "register") (text (codes "r2")) (no_fields)))))) (no_items))))) (field (codes "hosts") (text (codes "all")) (field (codes "serial") (list (item (int (pos 1)) (item (text (49 ∷ 48 ∷ 48 ∷ 37 ∷ [])) (no_items)))) (field (codes "strategy") (text (codes "free")) (field (codes "tasks") (list (item (rec (field (codes "command") (rec (field (codes "cmd") (text (codes "x")) (no_fields))) (field (codes "register") (text (codes "r2")) (no_fields)))) (item (rec (field (codes "command") (rec (field (codes "cmd") (text (codes "x")) (no_fields))) (field (codes "failed_when") (text (114 ∷ 51 ∷ 46 ∷ 115 ∷ 116 ∷ 100 ∷ 111 ∷ 117 ∷ 116 ∷ 32 ∷ 124 ∷ 32 ∷ 100 ∷ 101 ∷ 102 ∷ 97 ∷ 117 ∷ 108 ∷ 116 ∷ 40 ∷ 116 ∷ 114 ∷ 117 ∷ 101 ∷ 41 ∷ 32 ∷ 61 ∷ 61 ∷ 32 ∷ 116 ∷ 114 ∷ 117 ∷ 101 ∷ [])) (field (codes "register") (text (codes "r3")) (field (codes "until") (text (114 ∷ 51 ∷ 46 ∷ 115 ∷ 116 ∷ 100 ∷ 111 ∷ 117 ∷ 116 ∷ 32 ∷ 124 ∷ 32 ∷ 100 ∷ 101 ∷ 102 ∷ 97 ∷ 117 ∷ 108 ∷ 116 ∷ 40 ∷ 116 ∷ 114 ∷ 117 ∷ 101 ∷ 41 ∷ 32 ∷ 61 ∷ 61 ∷ 32 ∷ 116 ∷ 114 ∷ 117 ∷ 101 ∷ [])) (no_fields)))))) (no_items)))) (field (codes "vars") (rec (field (codes "v3") (text (123 ∷ 123 ∷ 32 ∷ 114 ∷ 49 ∷ 32 ∷ 125 ∷ 125 ∷ [])) (no_fields))) (no_fields))))))))) (no_items))) ≡ Ok ((record { line = 1; pattern = ((codes "all") ∷ []); gathering = None; vars = (part (codes "v3") (path (variable (codes "r1")) ([])) (no_parts)); is_linear = false; serial = (host_count 1 ∷ percentage 100 ∷ []); pre_tasks = (no_steps); tasks = (task_step (record { line = 2; work = (module_work (codes "command") (part (codes "cmd") (literal (text (codes "x"))) (no_parts))); condition = (no_expressions); loop = None; register = (Some (codes "r2")); vars = (no_parts); notify = ([]); changed_when = None; failed_when = None; attempts = None; ignore_errors = None }) (task_step (record { line = 3; work = (module_work (codes "command") (part (codes "cmd") (literal (text (codes "x"))) (no_parts))); condition = (no_expressions); loop = None; register = (Some (codes "r3")); vars = (no_parts); notify = ([]); changed_when = None; failed_when = (Some (expression (comparison equal (path_or (variable (codes "r3")) ((codes "stdout") ∷ []) (literal (boolean true))) (literal (boolean true))) (no_expressions))); attempts = (Some (record { until = (expression (comparison equal (path_or (variable (codes "r3")) ((codes "stdout") ∷ []) (literal (boolean true))) (literal (boolean true))) (no_expressions)); retries = 3 })); ignore_errors = None }) (no_steps))); post_tasks = (no_steps); handlers = (record { work = (record { line = 4; work = (set_fact_work (part (codes "s2") (literal (boolean true)) (part (codes "s3") (list_of (expression (path (variable (codes "r2")) ((codes "failed") ∷ [])) (no_expressions))) (no_parts)))); condition = (expression (negation (path_status is_failed (variable (codes "r2")) ([]))) (no_expressions)); loop = None; register = (Some (codes "r2")); vars = (no_parts); notify = ((codes "h1") ∷ []); changed_when = None; failed_when = None; attempts = None; ignore_errors = (Some true) }); name = (Some (codes "h0")); topics = ([]) } ∷ record { work = (record { line = 5; work = (module_work (codes "command") (part (codes "cmd") (literal (text (codes "x"))) (no_parts))); condition = (no_expressions); loop = None; register = None; vars = (no_parts); notify = ((codes "h2") ∷ []); changed_when = None; failed_when = None; attempts = None; ignore_errors = None }); name = (Some (codes "h1")); topics = ((codes "t") ∷ []) } ∷ record { work = (record { line = 6; work = (module_work (codes "command") (part (codes "cmd") (literal (text (codes "x"))) (no_parts))); condition = (no_expressions); loop = None; register = (Some (codes "r2")); vars = (no_parts); notify = ([]); changed_when = None; failed_when = None; attempts = None; ignore_errors = None }); name = (Some (codes "h2")); topics = ((codes "t") ∷ []) } ∷ []); forces = true } ∷ []))
book_860 = refl

book_861 : book_from (builtins ++ (record { name = (codes "probe"); params = (record { name = (codes "n"); kind = ints; required = false } ∷ record { name = (codes "l"); kind = (lists texts 3); required = false } ∷ []); ok = recs (slot (codes "changed") true booleans (slot (codes "deep") false (recs (slot (codes "a") true texts (slot (codes "b") false booleans (no_slots)))) (slot (codes "rows") true (lists texts 2) (slot (codes "v") false ints (no_slots))))); failure = recs (slot (codes "changed") true booleans (slot (codes "msg") true texts (slot (codes "v") false texts (slot (codes "why") true ints (no_slots))))); free = None } ∷ record { name = (codes "odd"); params = ([]); ok = recs (slot (codes "changed") true booleans (slot (codes "msg") false ints (no_slots))); failure = recs (slot (codes "changed") true booleans (slot (codes "msg") true texts (no_slots))); free = None } ∷ [])) (list (item (rec (field (codes "force_handlers") (boolean true) (field (codes "hosts") (list (item (text (codes "b")) (item (text (codes "all")) (no_items)))) (field (codes "pre_tasks") (list (item (rec (field (codes "changed_when") (text (codes "r3.changed == 1")) (field (codes "ignore_errors") (boolean true) (field (codes "register") (text (codes "r3")) (field (codes "set_fact") (rec (field (codes "s2") (text (123 ∷ 123 ∷ 32 ∷ 114 ∷ 49 ∷ 46 ∷ 102 ∷ 97 ∷ 105 ∷ 108 ∷ 101 ∷ 100 ∷ 32 ∷ 125 ∷ 125 ∷ [])) (no_fields))) (field (codes "when") (text (codes "r1.failed is defined")) (no_fields))))))) (item (rec (field (codes "command") (rec (field (codes "cmd") (text (codes "x")) (no_fields))) (field (codes "register") (text (codes "r1")) (no_fields)))) (item (rec (field (codes "changed_when") (boolean false) (field (codes "setup") null (no_fields)))) (item (rec (field (codes "probe") (rec (no_fields)) (no_fields))) (no_items)))))) (field (codes "tasks") (list (item (rec (field (codes "changed_when") (text (codes "r2 is failed")) (field (codes "failed_when") (text (codes "r2.changed == 1")) (field (codes "register") (text (codes "r2")) (field (codes "setup") null (no_fields)))))) (item (rec (field (codes "command") (rec (field (codes "cmd") (text (codes "x")) (no_fields))) (field (codes "ignore_errors") (boolean true) (field (codes "register") (text (codes "r2")) (field (codes "when") (text (codes "op is defined")) (no_fields)))))) (item (rec (field (codes "meta") (text (codes "flush_handlers")) (no_fields))) (item (rec (field (codes "meta") (text (codes "flush_handlers")) (no_fields))) (no_items)))))) (no_fields)))))) (no_items))) ≡ Ok ((record { line = 1; pattern = ((codes "b") ∷ (codes "all") ∷ []); gathering = None; vars = (no_parts); is_linear = true; serial = ([]); pre_tasks = (task_step (record { line = 2; work = (set_fact_work (part (codes "s2") (path (variable (codes "r1")) ((codes "failed") ∷ [])) (no_parts))); condition = (expression (defined (variable (codes "r1")) ((codes "failed") ∷ [])) (no_expressions)); loop = None; register = (Some (codes "r3")); vars = (no_parts); notify = ([]); changed_when = (Some (expression (comparison equal (path (variable (codes "r3")) ((codes "changed") ∷ [])) (literal (int (pos 1)))) (no_expressions))); failed_when = None; attempts = None; ignore_errors = (Some true) }) (task_step (record { line = 3; work = (module_work (codes "command") (part (codes "cmd") (literal (text (codes "x"))) (no_parts))); condition = (no_expressions); loop = None; register = (Some (codes "r1")); vars = (no_parts); notify = ([]); changed_when = None; failed_when = None; attempts = None; ignore_errors = None }) (task_step (record { line = 4; work = (module_work (codes "setup") (no_parts)); condition = (no_expressions); loop = None; register = None; vars = (no_parts); notify = ([]); changed_when = (Some (expression (literal (boolean false)) (no_expressions))); failed_when = None; attempts = None; ignore_errors = None }) (task_step (record { line = 5; work = (module_work (codes "probe") (no_parts)); condition = (no_expressions); loop = None; register = None; vars = (no_parts); notify = ([]); changed_when = None; failed_when = None; attempts = None; ignore_errors = None }) (no_steps))))); tasks = (task_step (record { line = 6; work = (module_work (codes "setup") (no_parts)); condition = (no_expressions); loop = None; register = (Some (codes "r2")); vars = (no_parts); notify = ([]); changed_when = (Some (expression (path_status is_failed (variable (codes "r2")) ([])) (no_expressions))); failed_when = (Some (expression (comparison equal (path (variable (codes "r2")) ((codes "changed") ∷ [])) (literal (int (pos 1)))) (no_expressions))); attempts = None; ignore_errors = None }) (task_step (record { line = 7; work = (module_work (codes "command") (part (codes "cmd") (literal (text (codes "x"))) (no_parts))); condition = (expression (defined (variable (codes "op")) ([])) (no_expressions)); loop = None; register = (Some (codes "r2")); vars = (no_parts); notify = ([]); changed_when = None; failed_when = None; attempts = None; ignore_errors = (Some true) }) (flush_step 8 (flush_step 9 (no_steps))))); post_tasks = (no_steps); handlers = ([]); forces = true } ∷ []))
book_861 = refl

book_862 : book_from (builtins ++ (record { name = (codes "probe"); params = (record { name = (codes "n"); kind = ints; required = false } ∷ record { name = (codes "l"); kind = (lists texts 3); required = false } ∷ []); ok = recs (slot (codes "changed") true booleans (slot (codes "deep") false (recs (slot (codes "a") true texts (slot (codes "b") false booleans (no_slots)))) (slot (codes "rows") true (lists texts 2) (slot (codes "v") false ints (no_slots))))); failure = recs (slot (codes "changed") true booleans (slot (codes "msg") true texts (slot (codes "v") false texts (slot (codes "why") true ints (no_slots))))); free = None } ∷ record { name = (codes "odd"); params = ([]); ok = recs (slot (codes "changed") true booleans (slot (codes "msg") false ints (no_slots))); failure = recs (slot (codes "changed") true booleans (slot (codes "msg") true texts (no_slots))); free = None } ∷ [])) (list (item (rec (field (codes "force_handlers") (boolean true) (field (codes "hosts") (list (item (text (codes "b")) (item (text (codes "all")) (no_items)))) (field (codes "strategy") (text (codes "free")) (field (codes "tasks") (list (item (rec (field (codes "command") (rec (field (codes "cmd") (text (120 ∷ 32 ∷ 123 ∷ 123 ∷ 32 ∷ 105 ∷ 110 ∷ 118 ∷ 101 ∷ 110 ∷ 116 ∷ 111 ∷ 114 ∷ 121 ∷ 95 ∷ 104 ∷ 111 ∷ 115 ∷ 116 ∷ 110 ∷ 97 ∷ 109 ∷ 101 ∷ 32 ∷ 124 ∷ 32 ∷ 108 ∷ 101 ∷ 110 ∷ 103 ∷ 116 ∷ 104 ∷ 32 ∷ 125 ∷ 125 ∷ [])) (no_fields))) (field (codes "loop") (text (123 ∷ 123 ∷ 32 ∷ 114 ∷ 49 ∷ 46 ∷ 115 ∷ 116 ∷ 100 ∷ 111 ∷ 117 ∷ 116 ∷ 95 ∷ 108 ∷ 105 ∷ 110 ∷ 101 ∷ 115 ∷ 32 ∷ 124 ∷ 32 ∷ 100 ∷ 101 ∷ 102 ∷ 97 ∷ 117 ∷ 108 ∷ 116 ∷ 40 ∷ 91 ∷ 93 ∷ 41 ∷ 32 ∷ 125 ∷ 125 ∷ [])) (no_fields)))) (item (rec (field (codes "command") (rec (field (codes "cmd") (text (codes "x")) (no_fields))) (no_fields))) (item (rec (field (codes "assert") (rec (field (codes "that") (list (item (text (codes "r3 is not skipped")) (no_items))) (no_fields))) (field (codes "changed_when") (boolean false) (field (codes "vars") (rec (field (codes "v3") (text (123 ∷ 123 ∷ 32 ∷ 105 ∷ 110 ∷ 118 ∷ 101 ∷ 110 ∷ 116 ∷ 111 ∷ 114 ∷ 121 ∷ 95 ∷ 104 ∷ 111 ∷ 115 ∷ 116 ∷ 110 ∷ 97 ∷ 109 ∷ 101 ∷ 32 ∷ 125 ∷ 125 ∷ [])) (no_fields))) (no_fields))))) (no_items))))) (field (codes "vars") (rec (field (codes "v1") (int (pos 1)) (field (codes "v2") (text (codes "b")) (field (codes "v3") (rec (field (codes "f") (text (codes "a")) (field (codes "g") (int (pos 1)) (no_fields)))) (no_fields))))) (no_fields))))))) (no_items))) ≡ Ok ((record { line = 1; pattern = ((codes "b") ∷ (codes "all") ∷ []); gathering = None; vars = (part (codes "v1") (literal (int (pos 1))) (part (codes "v2") (literal (text (codes "b"))) (part (codes "v3") (literal (rec (field (codes "f") (text (codes "a")) (field (codes "g") (int (pos 1)) (no_fields))))) (no_parts)))); is_linear = false; serial = ([]); pre_tasks = (no_steps); tasks = (task_step (record { line = 2; work = (module_work (codes "command") (part (codes "cmd") (concatenation (expression (literal (text (codes "x "))) (expression (length_of (path (variable (codes "inventory_hostname")) ([]))) (no_expressions)))) (no_parts))); condition = (no_expressions); loop = (Some (path_or (variable (codes "r1")) ((codes "stdout_lines") ∷ []) (list_of (no_expressions)))); register = None; vars = (no_parts); notify = ([]); changed_when = None; failed_when = None; attempts = None; ignore_errors = None }) (task_step (record { line = 3; work = (module_work (codes "command") (part (codes "cmd") (literal (text (codes "x"))) (no_parts))); condition = (no_expressions); loop = None; register = None; vars = (no_parts); notify = ([]); changed_when = None; failed_when = None; attempts = None; ignore_errors = None }) (task_step (record { line = 4; work = (assert_work (conditions_are (expression (negation (path_status is_skipped (variable (codes "r3")) ([]))) (no_expressions))) (no_parts)); condition = (no_expressions); loop = None; register = None; vars = (part (codes "v3") (path (variable (codes "inventory_hostname")) ([])) (no_parts)); notify = ([]); changed_when = (Some (expression (literal (boolean false)) (no_expressions))); failed_when = None; attempts = None; ignore_errors = None }) (no_steps)))); post_tasks = (no_steps); handlers = ([]); forces = true } ∷ []))
book_862 = refl

book_863 : book_from (builtins ++ (record { name = (codes "probe"); params = (record { name = (codes "n"); kind = ints; required = false } ∷ record { name = (codes "l"); kind = (lists texts 3); required = false } ∷ []); ok = recs (slot (codes "changed") true booleans (slot (codes "deep") false (recs (slot (codes "a") true texts (slot (codes "b") false booleans (no_slots)))) (slot (codes "rows") true (lists texts 2) (slot (codes "v") false ints (no_slots))))); failure = recs (slot (codes "changed") true booleans (slot (codes "msg") true texts (slot (codes "v") false texts (slot (codes "why") true ints (no_slots))))); free = None } ∷ record { name = (codes "odd"); params = ([]); ok = recs (slot (codes "changed") true booleans (slot (codes "msg") false ints (no_slots))); failure = recs (slot (codes "changed") true booleans (slot (codes "msg") true texts (no_slots))); free = None } ∷ [])) (list (item (rec (field (codes "force_handlers") (boolean true) (field (codes "hosts") (list (item (text (codes "b")) (item (text (codes "all")) (no_items)))) (field (codes "tasks") (list (item (rec (field (codes "command") (rec (field (codes "cmd") (text (codes "x")) (no_fields))) (field (codes "register") (text (codes "r1")) (no_fields)))) (item (rec (field (codes "ping") null (field (codes "register") (text (codes "r2")) (field (codes "until") (boolean false) (no_fields))))) (item (rec (field (codes "ping") null (no_fields))) (no_items))))) (field (codes "vars") (rec (field (codes "v2") (list (item (text (codes "x")) (no_items))) (field (codes "v3") (text (123 ∷ 123 ∷ 32 ∷ 115 ∷ 51 ∷ 32 ∷ 125 ∷ 125 ∷ [])) (no_fields)))) (no_fields)))))) (no_items))) ≡ Ok ((record { line = 1; pattern = ((codes "b") ∷ (codes "all") ∷ []); gathering = None; vars = (part (codes "v2") (literal (list (item (text (codes "x")) (no_items)))) (part (codes "v3") (path (variable (codes "s3")) ([])) (no_parts))); is_linear = true; serial = ([]); pre_tasks = (no_steps); tasks = (task_step (record { line = 2; work = (module_work (codes "command") (part (codes "cmd") (literal (text (codes "x"))) (no_parts))); condition = (no_expressions); loop = None; register = (Some (codes "r1")); vars = (no_parts); notify = ([]); changed_when = None; failed_when = None; attempts = None; ignore_errors = None }) (task_step (record { line = 3; work = (module_work (codes "ping") (no_parts)); condition = (no_expressions); loop = None; register = (Some (codes "r2")); vars = (no_parts); notify = ([]); changed_when = None; failed_when = None; attempts = (Some (record { until = (expression (literal (boolean false)) (no_expressions)); retries = 3 })); ignore_errors = None }) (task_step (record { line = 4; work = (module_work (codes "ping") (no_parts)); condition = (no_expressions); loop = None; register = None; vars = (no_parts); notify = ([]); changed_when = None; failed_when = None; attempts = None; ignore_errors = None }) (no_steps)))); post_tasks = (no_steps); handlers = ([]); forces = true } ∷ []))
book_863 = refl

book_864 : book_from (builtins ++ (record { name = (codes "probe"); params = (record { name = (codes "n"); kind = ints; required = false } ∷ record { name = (codes "l"); kind = (lists texts 3); required = false } ∷ []); ok = recs (slot (codes "changed") true booleans (slot (codes "deep") false (recs (slot (codes "a") true texts (slot (codes "b") false booleans (no_slots)))) (slot (codes "rows") true (lists texts 2) (slot (codes "v") false ints (no_slots))))); failure = recs (slot (codes "changed") true booleans (slot (codes "msg") true texts (slot (codes "v") false texts (slot (codes "why") true ints (no_slots))))); free = None } ∷ record { name = (codes "odd"); params = ([]); ok = recs (slot (codes "changed") true booleans (slot (codes "msg") false ints (no_slots))); failure = recs (slot (codes "changed") true booleans (slot (codes "msg") true texts (no_slots))); free = None } ∷ [])) (list (item (rec (field (codes "force_handlers") (boolean true) (field (codes "hosts") (list (item (text (codes "c")) (item (text (codes "all")) (no_items)))) (field (codes "strategy") (text (codes "free")) (field (codes "tasks") (list (item (rec (field (codes "ignore_errors") (boolean true) (field (codes "set_fact") (rec (field (codes "s2") (rec (field (codes "f") (int (pos 1)) (no_fields))) (no_fields))) (no_fields)))) (item (rec (field (codes "assert") (rec (field (codes "that") (list (item (text (codes "not (ansible_hostname is not defined)")) (no_items))) (no_fields))) (field (codes "changed_when") (boolean false) (field (codes "register") (text (codes "r2")) (field (codes "vars") (rec (field (codes "v2") (text (123 ∷ 123 ∷ 32 ∷ 114 ∷ 51 ∷ 46 ∷ 99 ∷ 104 ∷ 97 ∷ 110 ∷ 103 ∷ 101 ∷ 100 ∷ 32 ∷ 124 ∷ 32 ∷ 108 ∷ 101 ∷ 110 ∷ 103 ∷ 116 ∷ 104 ∷ 32 ∷ 125 ∷ 125 ∷ [])) (no_fields))) (no_fields)))))) (no_items)))) (field (codes "vars") (rec (field (codes "v2") (text (123 ∷ 123 ∷ 32 ∷ 91 ∷ 97 ∷ 110 ∷ 115 ∷ 105 ∷ 98 ∷ 108 ∷ 101 ∷ 95 ∷ 102 ∷ 97 ∷ 99 ∷ 116 ∷ 115 ∷ 46 ∷ 104 ∷ 111 ∷ 115 ∷ 116 ∷ 110 ∷ 97 ∷ 109 ∷ 101 ∷ 44 ∷ 32 ∷ 49 ∷ 93 ∷ 32 ∷ 125 ∷ 125 ∷ [])) (no_fields))) (no_fields))))))) (no_items))) ≡ Ok ((record { line = 1; pattern = ((codes "c") ∷ (codes "all") ∷ []); gathering = None; vars = (part (codes "v2") (list_of (expression (path (variable (codes "ansible_facts")) ((codes "hostname") ∷ [])) (expression (literal (int (pos 1))) (no_expressions)))) (no_parts)); is_linear = false; serial = ([]); pre_tasks = (no_steps); tasks = (task_step (record { line = 2; work = (set_fact_work (part (codes "s2") (literal (rec (field (codes "f") (int (pos 1)) (no_fields)))) (no_parts))); condition = (no_expressions); loop = None; register = None; vars = (no_parts); notify = ([]); changed_when = None; failed_when = None; attempts = None; ignore_errors = (Some true) }) (task_step (record { line = 3; work = (assert_work (conditions_are (expression (negation (negation (defined (variable (codes "ansible_hostname")) ([])))) (no_expressions))) (no_parts)); condition = (no_expressions); loop = None; register = (Some (codes "r2")); vars = (part (codes "v2") (length_of (path (variable (codes "r3")) ((codes "changed") ∷ []))) (no_parts)); notify = ([]); changed_when = (Some (expression (literal (boolean false)) (no_expressions))); failed_when = None; attempts = None; ignore_errors = None }) (no_steps))); post_tasks = (no_steps); handlers = ([]); forces = true } ∷ []))
book_864 = refl

book_865 : book_from (builtins ++ (record { name = (codes "probe"); params = (record { name = (codes "n"); kind = ints; required = false } ∷ record { name = (codes "l"); kind = (lists texts 3); required = false } ∷ []); ok = recs (slot (codes "changed") true booleans (slot (codes "deep") false (recs (slot (codes "a") true texts (slot (codes "b") false booleans (no_slots)))) (slot (codes "rows") true (lists texts 2) (slot (codes "v") false ints (no_slots))))); failure = recs (slot (codes "changed") true booleans (slot (codes "msg") true texts (slot (codes "v") false texts (slot (codes "why") true ints (no_slots))))); free = None } ∷ record { name = (codes "odd"); params = ([]); ok = recs (slot (codes "changed") true booleans (slot (codes "msg") false ints (no_slots))); failure = recs (slot (codes "changed") true booleans (slot (codes "msg") true texts (no_slots))); free = None } ∷ [])) (list (item (rec (field (codes "force_handlers") (boolean true) (field (codes "hosts") (text (codes "all")) (field (codes "post_tasks") (list (item (rec (field (codes "command") (rec (field (codes "cmd") (text (codes "x")) (no_fields))) (field (codes "retries") (int (pos 3)) (field (codes "until") (boolean false) (no_fields))))) (item (rec (field (codes "fail") (rec (field (codes "msg") (text (codes "m")) (no_fields))) (field (codes "register") (text (codes "r1")) (no_fields)))) (item (rec (field (codes "command") (rec (field (codes "cmd") (text (codes "x")) (no_fields))) (field (codes "register") (text (codes "r3")) (field (codes "retries") (int (pos 1)) (field (codes "until") (text (codes "r3 is failed")) (no_fields)))))) (no_items))))) (field (codes "pre_tasks") (list (item (rec (field (codes "ping") null (field (codes "register") (text (codes "r3")) (no_fields)))) (item (rec (field (codes "debug") (rec (field (codes "msg") (text (codes "x")) (no_fields))) (field (codes "register") (text (codes "r2")) (no_fields)))) (no_items)))) (field (codes "strategy") (text (codes "free")) (field (codes "tasks") (list (item (rec (field (codes "probe") (rec (no_fields)) (field (codes "register") (text (codes "r3")) (no_fields)))) (no_items))) (no_fields)))))))) (no_items))) ≡ Ok ((record { line = 1; pattern = ((codes "all") ∷ []); gathering = None; vars = (no_parts); is_linear = false; serial = ([]); pre_tasks = (task_step (record { line = 2; work = (module_work (codes "ping") (no_parts)); condition = (no_expressions); loop = None; register = (Some (codes "r3")); vars = (no_parts); notify = ([]); changed_when = None; failed_when = None; attempts = None; ignore_errors = None }) (task_step (record { line = 3; work = (debug_work (part (codes "msg") (literal (text (codes "x"))) (no_parts))); condition = (no_expressions); loop = None; register = (Some (codes "r2")); vars = (no_parts); notify = ([]); changed_when = None; failed_when = None; attempts = None; ignore_errors = None }) (no_steps))); tasks = (task_step (record { line = 4; work = (module_work (codes "probe") (no_parts)); condition = (no_expressions); loop = None; register = (Some (codes "r3")); vars = (no_parts); notify = ([]); changed_when = None; failed_when = None; attempts = None; ignore_errors = None }) (no_steps)); post_tasks = (task_step (record { line = 5; work = (module_work (codes "command") (part (codes "cmd") (literal (text (codes "x"))) (no_parts))); condition = (no_expressions); loop = None; register = None; vars = (no_parts); notify = ([]); changed_when = None; failed_when = None; attempts = (Some (record { until = (expression (literal (boolean false)) (no_expressions)); retries = 3 })); ignore_errors = None }) (task_step (record { line = 6; work = (fail_work (part (codes "msg") (literal (text (codes "m"))) (no_parts))); condition = (no_expressions); loop = None; register = (Some (codes "r1")); vars = (no_parts); notify = ([]); changed_when = None; failed_when = None; attempts = None; ignore_errors = None }) (task_step (record { line = 7; work = (module_work (codes "command") (part (codes "cmd") (literal (text (codes "x"))) (no_parts))); condition = (no_expressions); loop = None; register = (Some (codes "r3")); vars = (no_parts); notify = ([]); changed_when = None; failed_when = None; attempts = (Some (record { until = (expression (path_status is_failed (variable (codes "r3")) ([])) (no_expressions)); retries = 1 })); ignore_errors = None }) (no_steps)))); handlers = ([]); forces = true } ∷ []))
book_865 = refl

book_866 : book_from (builtins ++ (record { name = (codes "probe"); params = (record { name = (codes "n"); kind = ints; required = false } ∷ record { name = (codes "l"); kind = (lists texts 3); required = false } ∷ []); ok = recs (slot (codes "changed") true booleans (slot (codes "deep") false (recs (slot (codes "a") true texts (slot (codes "b") false booleans (no_slots)))) (slot (codes "rows") true (lists texts 2) (slot (codes "v") false ints (no_slots))))); failure = recs (slot (codes "changed") true booleans (slot (codes "msg") true texts (slot (codes "v") false texts (slot (codes "why") true ints (no_slots))))); free = None } ∷ record { name = (codes "odd"); params = ([]); ok = recs (slot (codes "changed") true booleans (slot (codes "msg") false ints (no_slots))); failure = recs (slot (codes "changed") true booleans (slot (codes "msg") true texts (no_slots))); free = None } ∷ [])) (list (item (rec (field (codes "force_handlers") (boolean true) (field (codes "hosts") (text (codes "all")) (field (codes "serial") (int (pos 2)) (field (codes "tasks") (list (item (rec (field (codes "ignore_errors") (boolean false) (field (codes "set_fact") (rec (field (codes "s3") (text (123 ∷ 123 ∷ 32 ∷ 114 ∷ 51 ∷ 46 ∷ 99 ∷ 104 ∷ 97 ∷ 110 ∷ 103 ∷ 101 ∷ 100 ∷ 32 ∷ 124 ∷ 32 ∷ 100 ∷ 101 ∷ 102 ∷ 97 ∷ 117 ∷ 108 ∷ 116 ∷ 40 ∷ 91 ∷ 93 ∷ 41 ∷ 32 ∷ 125 ∷ 125 ∷ [])) (no_fields))) (no_fields)))) (no_items))) (no_fields)))))) (no_items))) ≡ Ok ((record { line = 1; pattern = ((codes "all") ∷ []); gathering = None; vars = (no_parts); is_linear = true; serial = (host_count 2 ∷ []); pre_tasks = (no_steps); tasks = (task_step (record { line = 2; work = (set_fact_work (part (codes "s3") (path_or (variable (codes "r3")) ((codes "changed") ∷ []) (list_of (no_expressions))) (no_parts))); condition = (no_expressions); loop = None; register = None; vars = (no_parts); notify = ([]); changed_when = None; failed_when = None; attempts = None; ignore_errors = (Some false) }) (no_steps)); post_tasks = (no_steps); handlers = ([]); forces = true } ∷ []))
book_866 = refl

book_867 : book_from (builtins ++ (record { name = (codes "probe"); params = (record { name = (codes "n"); kind = ints; required = false } ∷ record { name = (codes "l"); kind = (lists texts 3); required = false } ∷ []); ok = recs (slot (codes "changed") true booleans (slot (codes "deep") false (recs (slot (codes "a") true texts (slot (codes "b") false booleans (no_slots)))) (slot (codes "rows") true (lists texts 2) (slot (codes "v") false ints (no_slots))))); failure = recs (slot (codes "changed") true booleans (slot (codes "msg") true texts (slot (codes "v") false texts (slot (codes "why") true ints (no_slots))))); free = None } ∷ record { name = (codes "odd"); params = ([]); ok = recs (slot (codes "changed") true booleans (slot (codes "msg") false ints (no_slots))); failure = recs (slot (codes "changed") true booleans (slot (codes "msg") true texts (no_slots))); free = None } ∷ [])) (list (item (rec (field (codes "force_handlers") (boolean true) (field (codes "hosts") (text (codes "all")) (field (codes "tasks") (list (item (rec (field (codes "meta") (text (codes "flush_handlers")) (no_fields))) (item (rec (field (codes "set_fact") (rec (field (codes "s1") (text (codes "t")) (no_fields))) (no_fields))) (item (rec (field (codes "assert") (rec (field (codes "that") (boolean true) (no_fields))) (field (codes "ignore_errors") (boolean true) (no_fields)))) (no_items))))) (no_fields))))) (no_items))) ≡ Ok ((record { line = 1; pattern = ((codes "all") ∷ []); gathering = None; vars = (no_parts); is_linear = true; serial = ([]); pre_tasks = (no_steps); tasks = (flush_step 2 (task_step (record { line = 3; work = (set_fact_work (part (codes "s1") (literal (text (codes "t"))) (no_parts))); condition = (no_expressions); loop = None; register = None; vars = (no_parts); notify = ([]); changed_when = None; failed_when = None; attempts = None; ignore_errors = None }) (task_step (record { line = 4; work = (assert_work (conditions_are (expression (literal (boolean true)) (no_expressions))) (no_parts)); condition = (no_expressions); loop = None; register = None; vars = (no_parts); notify = ([]); changed_when = None; failed_when = None; attempts = None; ignore_errors = (Some true) }) (no_steps)))); post_tasks = (no_steps); handlers = ([]); forces = true } ∷ []))
book_867 = refl

book_868 : book_from (builtins ++ (record { name = (codes "probe"); params = (record { name = (codes "n"); kind = ints; required = false } ∷ record { name = (codes "l"); kind = (lists texts 3); required = false } ∷ []); ok = recs (slot (codes "changed") true booleans (slot (codes "deep") false (recs (slot (codes "a") true texts (slot (codes "b") false booleans (no_slots)))) (slot (codes "rows") true (lists texts 2) (slot (codes "v") false ints (no_slots))))); failure = recs (slot (codes "changed") true booleans (slot (codes "msg") true texts (slot (codes "v") false texts (slot (codes "why") true ints (no_slots))))); free = None } ∷ record { name = (codes "odd"); params = ([]); ok = recs (slot (codes "changed") true booleans (slot (codes "msg") false ints (no_slots))); failure = recs (slot (codes "changed") true booleans (slot (codes "msg") true texts (no_slots))); free = None } ∷ [])) (list (item (rec (field (codes "force_handlers") (boolean true) (field (codes "hosts") (text (codes "g2")) (field (codes "serial") (int (pos 1)) (field (codes "tasks") (list (item (rec (field (codes "ignore_errors") (boolean true) (field (codes "register") (text (codes "r2")) (field (codes "set_fact") (rec (field (codes "s1") (int (pos 1)) (no_fields))) (no_fields))))) (no_items))) (no_fields)))))) (no_items))) ≡ Ok ((record { line = 1; pattern = ((codes "g2") ∷ []); gathering = None; vars = (no_parts); is_linear = true; serial = (host_count 1 ∷ []); pre_tasks = (no_steps); tasks = (task_step (record { line = 2; work = (set_fact_work (part (codes "s1") (literal (int (pos 1))) (no_parts))); condition = (no_expressions); loop = None; register = (Some (codes "r2")); vars = (no_parts); notify = ([]); changed_when = None; failed_when = None; attempts = None; ignore_errors = (Some true) }) (no_steps)); post_tasks = (no_steps); handlers = ([]); forces = true } ∷ []))
book_868 = refl

book_869 : book_from (builtins ++ (record { name = (codes "probe"); params = (record { name = (codes "n"); kind = ints; required = false } ∷ record { name = (codes "l"); kind = (lists texts 3); required = false } ∷ []); ok = recs (slot (codes "changed") true booleans (slot (codes "deep") false (recs (slot (codes "a") true texts (slot (codes "b") false booleans (no_slots)))) (slot (codes "rows") true (lists texts 2) (slot (codes "v") false ints (no_slots))))); failure = recs (slot (codes "changed") true booleans (slot (codes "msg") true texts (slot (codes "v") false texts (slot (codes "why") true ints (no_slots))))); free = None } ∷ record { name = (codes "odd"); params = ([]); ok = recs (slot (codes "changed") true booleans (slot (codes "msg") false ints (no_slots))); failure = recs (slot (codes "changed") true booleans (slot (codes "msg") true texts (no_slots))); free = None } ∷ [])) (list (item (rec (field (codes "gather_facts") (boolean true) (field (codes "handlers") (list (item (rec (field (codes "failed_when") (boolean false) (field (codes "listen") (text (codes "t")) (field (codes "name") (text (codes "h0")) (field (codes "probe") (rec (no_fields)) (field (codes "retries") (int (pos 3)) (field (codes "until") (boolean true) (field (codes "vars") (rec (no_fields)) (no_fields))))))))) (item (rec (field (codes "debug") (rec (field (codes "msg") (text (codes "x")) (no_fields))) (field (codes "failed_when") (text (codes "r2 is failed")) (field (codes "ignore_errors") (boolean true) (field (codes "name") (text (codes "h1")) (field (codes "register") (text (codes "r2")) (no_fields))))))) (no_items)))) (field (codes "hosts") (text (codes "all")) (field (codes "tasks") (list (item (rec (field (codes "changed_when") (boolean true) (field (codes "debug") (rec (field (codes "msg") (text (123 ∷ 123 ∷ 32 ∷ 91 ∷ 115 ∷ 49 ∷ 46 ∷ 114 ∷ 99 ∷ 44 ∷ 32 ∷ 49 ∷ 93 ∷ 32 ∷ 125 ∷ 125 ∷ [])) (no_fields))) (field (codes "loop") (text (123 ∷ 123 ∷ 32 ∷ 114 ∷ 49 ∷ 46 ∷ 115 ∷ 116 ∷ 100 ∷ 111 ∷ 117 ∷ 116 ∷ 95 ∷ 108 ∷ 105 ∷ 110 ∷ 101 ∷ 115 ∷ 32 ∷ 124 ∷ 32 ∷ 100 ∷ 101 ∷ 102 ∷ 97 ∷ 117 ∷ 108 ∷ 116 ∷ 40 ∷ 91 ∷ 93 ∷ 41 ∷ 32 ∷ 125 ∷ 125 ∷ [])) (field (codes "notify") (text (codes "t")) (field (codes "register") (text (codes "r1")) (field (codes "vars") (rec (field (codes "v1") (text (123 ∷ 123 ∷ 32 ∷ 114 ∷ 49 ∷ 46 ∷ 115 ∷ 107 ∷ 105 ∷ 112 ∷ 95 ∷ 114 ∷ 101 ∷ 97 ∷ 115 ∷ 111 ∷ 110 ∷ 32 ∷ 125 ∷ 125 ∷ [])) (field (codes "v2") (text (123 ∷ 123 ∷ 32 ∷ 40 ∷ 114 ∷ 51 ∷ 46 ∷ 99 ∷ 104 ∷ 97 ∷ 110 ∷ 103 ∷ 101 ∷ 100 ∷ 41 ∷ 32 ∷ 61 ∷ 61 ∷ 32 ∷ 40 ∷ 97 ∷ 110 ∷ 115 ∷ 105 ∷ 98 ∷ 108 ∷ 101 ∷ 95 ∷ 104 ∷ 111 ∷ 115 ∷ 116 ∷ 110 ∷ 97 ∷ 109 ∷ 101 ∷ 41 ∷ 32 ∷ 125 ∷ 125 ∷ [])) (field (codes "v3") (text (123 ∷ 123 ∷ 32 ∷ 114 ∷ 50 ∷ 46 ∷ 102 ∷ 97 ∷ 105 ∷ 108 ∷ 101 ∷ 100 ∷ 32 ∷ 125 ∷ 125 ∷ [])) (no_fields))))) (field (codes "when") (text (codes "s1.rc is defined")) (no_fields))))))))) (item (rec (field (codes "register") (text (codes "r2")) (field (codes "set_fact") (rec (field (codes "s1") (text (codes "t")) (no_fields))) (no_fields)))) (item (rec (field (codes "assert") (rec (field (codes "that") (boolean true) (no_fields))) (field (codes "register") (text (codes "r3")) (no_fields)))) (no_items))))) (field (codes "vars") (rec (field (codes "v2") (text ([])) (no_fields))) (no_fields))))))) (no_items))) ≡ Ok ((record { line = 1; pattern = ((codes "all") ∷ []); gathering = (Some 2); vars = (part (codes "v2") (literal (text ([]))) (no_parts)); is_linear = true; serial = ([]); pre_tasks = (no_steps); tasks = (task_step (record { line = 3; work = (debug_work (part (codes "msg") (list_of (expression (path (variable (codes "s1")) ((codes "rc") ∷ [])) (expression (literal (int (pos 1))) (no_expressions)))) (no_parts))); condition = (expression (defined (variable (codes "s1")) ((codes "rc") ∷ [])) (no_expressions)); loop = (Some (path_or (variable (codes "r1")) ((codes "stdout_lines") ∷ []) (list_of (no_expressions)))); register = (Some (codes "r1")); vars = (part (codes "v1") (path (variable (codes "r1")) ((codes "skip_reason") ∷ [])) (part (codes "v2") (comparison equal (path (variable (codes "r3")) ((codes "changed") ∷ [])) (path (variable (codes "ansible_hostname")) ([]))) (part (codes "v3") (path (variable (codes "r2")) ((codes "failed") ∷ [])) (no_parts)))); notify = ((codes "t") ∷ []); changed_when = (Some (expression (literal (boolean true)) (no_expressions))); failed_when = None; attempts = None; ignore_errors = None }) (task_step (record { line = 4; work = (set_fact_work (part (codes "s1") (literal (text (codes "t"))) (no_parts))); condition = (no_expressions); loop = None; register = (Some (codes "r2")); vars = (no_parts); notify = ([]); changed_when = None; failed_when = None; attempts = None; ignore_errors = None }) (task_step (record { line = 5; work = (assert_work (conditions_are (expression (literal (boolean true)) (no_expressions))) (no_parts)); condition = (no_expressions); loop = None; register = (Some (codes "r3")); vars = (no_parts); notify = ([]); changed_when = None; failed_when = None; attempts = None; ignore_errors = None }) (no_steps)))); post_tasks = (no_steps); handlers = (record { work = (record { line = 6; work = (module_work (codes "probe") (no_parts)); condition = (no_expressions); loop = None; register = None; vars = (no_parts); notify = ([]); changed_when = None; failed_when = (Some (expression (literal (boolean false)) (no_expressions))); attempts = (Some (record { until = (expression (literal (boolean true)) (no_expressions)); retries = 3 })); ignore_errors = None }); name = (Some (codes "h0")); topics = ((codes "t") ∷ []) } ∷ record { work = (record { line = 7; work = (debug_work (part (codes "msg") (literal (text (codes "x"))) (no_parts))); condition = (no_expressions); loop = None; register = (Some (codes "r2")); vars = (no_parts); notify = ([]); changed_when = None; failed_when = (Some (expression (path_status is_failed (variable (codes "r2")) ([])) (no_expressions))); attempts = None; ignore_errors = (Some true) }); name = (Some (codes "h1")); topics = ([]) } ∷ []); forces = false } ∷ []))
book_869 = refl

book_870 : book_from (builtins ++ (record { name = (codes "probe"); params = (record { name = (codes "n"); kind = ints; required = false } ∷ record { name = (codes "l"); kind = (lists texts 3); required = false } ∷ []); ok = recs (slot (codes "changed") true booleans (slot (codes "deep") false (recs (slot (codes "a") true texts (slot (codes "b") false booleans (no_slots)))) (slot (codes "rows") true (lists texts 2) (slot (codes "v") false ints (no_slots))))); failure = recs (slot (codes "changed") true booleans (slot (codes "msg") true texts (slot (codes "v") false texts (slot (codes "why") true ints (no_slots))))); free = None } ∷ record { name = (codes "odd"); params = ([]); ok = recs (slot (codes "changed") true booleans (slot (codes "msg") false ints (no_slots))); failure = recs (slot (codes "changed") true booleans (slot (codes "msg") true texts (no_slots))); free = None } ∷ [])) (list (item (rec (field (codes "gather_facts") (boolean true) (field (codes "handlers") (list (item (rec (field (codes "ignore_errors") (boolean true) (field (codes "listen") (text (codes "t")) (field (codes "name") (text (codes "h0")) (field (codes "stat") (rec (field (codes "path") (text (codes "/")) (no_fields))) (no_fields)))))) (no_items))) (field (codes "hosts") (text (codes "all")) (field (codes "tasks") (list (item (rec (field (codes "stat") (rec (field (codes "path") (text (codes "/")) (no_fields))) (no_fields))) (item (rec (field (codes "command") (rec (field (codes "cmd") (text (codes "x")) (no_fields))) (field (codes "failed_when") (boolean false) (no_fields)))) (item (rec (field (codes "notify") (text (codes "h0")) (field (codes "register") (text (codes "r1")) (field (codes "setup") null (no_fields))))) (no_items))))) (field (codes "vars") (rec (field (codes "v2") (list (item (int (negsuc 0)) (item (boolean false) (no_items)))) (field (codes "v3") (text (123 ∷ 123 ∷ 32 ∷ 114 ∷ 51 ∷ 32 ∷ 124 ∷ 32 ∷ 100 ∷ 101 ∷ 102 ∷ 97 ∷ 117 ∷ 108 ∷ 116 ∷ 40 ∷ 91 ∷ 93 ∷ 41 ∷ 32 ∷ 125 ∷ 125 ∷ [])) (no_fields)))) (no_fields))))))) (no_items))) ≡ Ok ((record { line = 1; pattern = ((codes "all") ∷ []); gathering = (Some 2); vars = (part (codes "v2") (literal (list (item (int (negsuc 0)) (item (boolean false) (no_items))))) (part (codes "v3") (path_or (variable (codes "r3")) ([]) (list_of (no_expressions))) (no_parts))); is_linear = true; serial = ([]); pre_tasks = (no_steps); tasks = (task_step (record { line = 3; work = (module_work (codes "stat") (part (codes "path") (literal (text (codes "/"))) (no_parts))); condition = (no_expressions); loop = None; register = None; vars = (no_parts); notify = ([]); changed_when = None; failed_when = None; attempts = None; ignore_errors = None }) (task_step (record { line = 4; work = (module_work (codes "command") (part (codes "cmd") (literal (text (codes "x"))) (no_parts))); condition = (no_expressions); loop = None; register = None; vars = (no_parts); notify = ([]); changed_when = None; failed_when = (Some (expression (literal (boolean false)) (no_expressions))); attempts = None; ignore_errors = None }) (task_step (record { line = 5; work = (module_work (codes "setup") (no_parts)); condition = (no_expressions); loop = None; register = (Some (codes "r1")); vars = (no_parts); notify = ((codes "h0") ∷ []); changed_when = None; failed_when = None; attempts = None; ignore_errors = None }) (no_steps)))); post_tasks = (no_steps); handlers = (record { work = (record { line = 6; work = (module_work (codes "stat") (part (codes "path") (literal (text (codes "/"))) (no_parts))); condition = (no_expressions); loop = None; register = None; vars = (no_parts); notify = ([]); changed_when = None; failed_when = None; attempts = None; ignore_errors = (Some true) }); name = (Some (codes "h0")); topics = ((codes "t") ∷ []) } ∷ []); forces = false } ∷ []))
book_870 = refl

book_871 : book_from (builtins ++ (record { name = (codes "probe"); params = (record { name = (codes "n"); kind = ints; required = false } ∷ record { name = (codes "l"); kind = (lists texts 3); required = false } ∷ []); ok = recs (slot (codes "changed") true booleans (slot (codes "deep") false (recs (slot (codes "a") true texts (slot (codes "b") false booleans (no_slots)))) (slot (codes "rows") true (lists texts 2) (slot (codes "v") false ints (no_slots))))); failure = recs (slot (codes "changed") true booleans (slot (codes "msg") true texts (slot (codes "v") false texts (slot (codes "why") true ints (no_slots))))); free = None } ∷ record { name = (codes "odd"); params = ([]); ok = recs (slot (codes "changed") true booleans (slot (codes "msg") false ints (no_slots))); failure = recs (slot (codes "changed") true booleans (slot (codes "msg") true texts (no_slots))); free = None } ∷ [])) (list (item (rec (field (codes "gather_facts") (boolean true) (field (codes "handlers") (list (item (rec (field (codes "listen") (text (codes "t")) (field (codes "name") (text (codes "h0")) (field (codes "probe") (rec (no_fields)) (no_fields))))) (item (rec (field (codes "listen") (text (codes "t")) (field (codes "name") (text (codes "h1")) (field (codes "register") (text (codes "r1")) (field (codes "setup") null (no_fields)))))) (item (rec (field (codes "debug") (rec (field (codes "msg") (text (codes "x")) (no_fields))) (field (codes "name") (text (codes "h2")) (field (codes "register") (text (codes "r2")) (no_fields))))) (no_items))))) (field (codes "hosts") (text (codes "all")) (field (codes "serial") (list (item (int (pos 1)) (item (text (49 ∷ 48 ∷ 48 ∷ 37 ∷ [])) (no_items)))) (field (codes "tasks") (list (item (rec (field (codes "ping") null (no_fields))) (item (rec (field (codes "meta") (text (codes "flush_handlers")) (no_fields))) (no_items)))) (no_fields))))))) (no_items))) ≡ Ok ((record { line = 1; pattern = ((codes "all") ∷ []); gathering = (Some 2); vars = (no_parts); is_linear = true; serial = (host_count 1 ∷ percentage 100 ∷ []); pre_tasks = (no_steps); tasks = (task_step (record { line = 3; work = (module_work (codes "ping") (no_parts)); condition = (no_expressions); loop = None; register = None; vars = (no_parts); notify = ([]); changed_when = None; failed_when = None; attempts = None; ignore_errors = None }) (flush_step 4 (no_steps))); post_tasks = (no_steps); handlers = (record { work = (record { line = 5; work = (module_work (codes "probe") (no_parts)); condition = (no_expressions); loop = None; register = None; vars = (no_parts); notify = ([]); changed_when = None; failed_when = None; attempts = None; ignore_errors = None }); name = (Some (codes "h0")); topics = ((codes "t") ∷ []) } ∷ record { work = (record { line = 6; work = (module_work (codes "setup") (no_parts)); condition = (no_expressions); loop = None; register = (Some (codes "r1")); vars = (no_parts); notify = ([]); changed_when = None; failed_when = None; attempts = None; ignore_errors = None }); name = (Some (codes "h1")); topics = ((codes "t") ∷ []) } ∷ record { work = (record { line = 7; work = (debug_work (part (codes "msg") (literal (text (codes "x"))) (no_parts))); condition = (no_expressions); loop = None; register = (Some (codes "r2")); vars = (no_parts); notify = ([]); changed_when = None; failed_when = None; attempts = None; ignore_errors = None }); name = (Some (codes "h2")); topics = ([]) } ∷ []); forces = false } ∷ []))
book_871 = refl

book_872 : book_from (builtins ++ (record { name = (codes "probe"); params = (record { name = (codes "n"); kind = ints; required = false } ∷ record { name = (codes "l"); kind = (lists texts 3); required = false } ∷ []); ok = recs (slot (codes "changed") true booleans (slot (codes "deep") false (recs (slot (codes "a") true texts (slot (codes "b") false booleans (no_slots)))) (slot (codes "rows") true (lists texts 2) (slot (codes "v") false ints (no_slots))))); failure = recs (slot (codes "changed") true booleans (slot (codes "msg") true texts (slot (codes "v") false texts (slot (codes "why") true ints (no_slots))))); free = None } ∷ record { name = (codes "odd"); params = ([]); ok = recs (slot (codes "changed") true booleans (slot (codes "msg") false ints (no_slots))); failure = recs (slot (codes "changed") true booleans (slot (codes "msg") true texts (no_slots))); free = None } ∷ [])) (list (item (rec (field (codes "gather_facts") (boolean true) (field (codes "hosts") (text (codes "a")) (field (codes "strategy") (text (codes "free")) (field (codes "tasks") (list (item (rec (field (codes "ping") null (no_fields))) (item (rec (field (codes "ignore_errors") (boolean true) (field (codes "probe") (rec (no_fields)) (field (codes "register") (text (codes "r3")) (no_fields))))) (item (rec (field (codes "fail") (rec (field (codes "msg") (text (codes "m")) (no_fields))) (field (codes "failed_when") (boolean true) (field (codes "when") (text (codes "(op is undefined) or (r3 is not defined)")) (no_fields))))) (no_items))))) (no_fields)))))) (no_items))) ≡ Ok ((record { line = 1; pattern = ((codes "a") ∷ []); gathering = (Some 2); vars = (no_parts); is_linear = false; serial = ([]); pre_tasks = (no_steps); tasks = (task_step (record { line = 3; work = (module_work (codes "ping") (no_parts)); condition = (no_expressions); loop = None; register = None; vars = (no_parts); notify = ([]); changed_when = None; failed_when = None; attempts = None; ignore_errors = None }) (task_step (record { line = 4; work = (module_work (codes "probe") (no_parts)); condition = (no_expressions); loop = None; register = (Some (codes "r3")); vars = (no_parts); notify = ([]); changed_when = None; failed_when = None; attempts = None; ignore_errors = (Some true) }) (task_step (record { line = 5; work = (fail_work (part (codes "msg") (literal (text (codes "m"))) (no_parts))); condition = (expression (disjunction (expression (negation (defined (variable (codes "op")) ([]))) (expression (negation (defined (variable (codes "r3")) ([]))) (no_expressions)))) (no_expressions)); loop = None; register = None; vars = (no_parts); notify = ([]); changed_when = None; failed_when = (Some (expression (literal (boolean true)) (no_expressions))); attempts = None; ignore_errors = None }) (no_steps)))); post_tasks = (no_steps); handlers = ([]); forces = false } ∷ []))
book_872 = refl

book_873 : book_from (builtins ++ (record { name = (codes "probe"); params = (record { name = (codes "n"); kind = ints; required = false } ∷ record { name = (codes "l"); kind = (lists texts 3); required = false } ∷ []); ok = recs (slot (codes "changed") true booleans (slot (codes "deep") false (recs (slot (codes "a") true texts (slot (codes "b") false booleans (no_slots)))) (slot (codes "rows") true (lists texts 2) (slot (codes "v") false ints (no_slots))))); failure = recs (slot (codes "changed") true booleans (slot (codes "msg") true texts (slot (codes "v") false texts (slot (codes "why") true ints (no_slots))))); free = None } ∷ record { name = (codes "odd"); params = ([]); ok = recs (slot (codes "changed") true booleans (slot (codes "msg") false ints (no_slots))); failure = recs (slot (codes "changed") true booleans (slot (codes "msg") true texts (no_slots))); free = None } ∷ [])) (list (item (rec (field (codes "gather_facts") (boolean true) (field (codes "hosts") (text (codes "all")) (field (codes "serial") (int (pos 1)) (field (codes "strategy") (text (codes "free")) (field (codes "tasks") (list (item (rec (field (codes "meta") (text (codes "flush_handlers")) (no_fields))) (item (rec (field (codes "command") (rec (field (codes "cmd") (text (codes "x")) (no_fields))) (field (codes "failed_when") (boolean false) (no_fields)))) (item (rec (field (codes "meta") (text (codes "flush_handlers")) (no_fields))) (no_items))))) (field (codes "vars") (rec (field (codes "v1") (text (123 ∷ 123 ∷ 32 ∷ 114 ∷ 50 ∷ 46 ∷ 115 ∷ 107 ∷ 105 ∷ 112 ∷ 95 ∷ 114 ∷ 101 ∷ 97 ∷ 115 ∷ 111 ∷ 110 ∷ 32 ∷ 125 ∷ 125 ∷ [])) (field (codes "v3") (boolean true) (no_fields)))) (no_fields)))))))) (item (rec (field (codes "force_handlers") (boolean true) (field (codes "gather_facts") (boolean true) (field (codes "handlers") (list (item (rec (field (codes "command") (text (codes "x")) (field (codes "listen") (text (codes "t")) (field (codes "loop") (text (123 ∷ 123 ∷ 32 ∷ 97 ∷ 110 ∷ 115 ∷ 105 ∷ 98 ∷ 108 ∷ 101 ∷ 95 ∷ 112 ∷ 108 ∷ 97 ∷ 121 ∷ 95 ∷ 98 ∷ 97 ∷ 116 ∷ 99 ∷ 104 ∷ 32 ∷ 125 ∷ 125 ∷ [])) (field (codes "name") (text (codes "h0")) (field (codes "register") (text (codes "r3")) (no_fields))))))) (no_items))) (field (codes "hosts") (text (codes "all")) (field (codes "serial") (text (53 ∷ 48 ∷ 37 ∷ [])) (field (codes "strategy") (text (codes "free")) (field (codes "tasks") (list (item (rec (field (codes "ignore_errors") (boolean true) (field (codes "loop") (list (item (text (codes "x")) (item (text (codes "b")) (item (boolean true) (no_items))))) (field (codes "register") (text (codes "r1")) (field (codes "stat") (rec (field (codes "path") (text (codes "/")) (no_fields))) (no_fields)))))) (no_items))) (field (codes "vars") (rec (field (codes "v1") (int (pos 1)) (no_fields))) (no_fields)))))))))) (no_items)))) ≡ Ok ((record { line = 1; pattern = ((codes "all") ∷ []); gathering = (Some 2); vars = (part (codes "v1") (path (variable (codes "r2")) ((codes "skip_reason") ∷ [])) (part (codes "v3") (literal (boolean true)) (no_parts))); is_linear = false; serial = (host_count 1 ∷ []); pre_tasks = (no_steps); tasks = (flush_step 3 (task_step (record { line = 4; work = (module_work (codes "command") (part (codes "cmd") (literal (text (codes "x"))) (no_parts))); condition = (no_expressions); loop = None; register = None; vars = (no_parts); notify = ([]); changed_when = None; failed_when = (Some (expression (literal (boolean false)) (no_expressions))); attempts = None; ignore_errors = None }) (flush_step 5 (no_steps)))); post_tasks = (no_steps); handlers = ([]); forces = false } ∷ record { line = 6; pattern = ((codes "all") ∷ []); gathering = (Some 7); vars = (part (codes "v1") (literal (int (pos 1))) (no_parts)); is_linear = false; serial = (percentage 50 ∷ []); pre_tasks = (no_steps); tasks = (task_step (record { line = 8; work = (module_work (codes "stat") (part (codes "path") (literal (text (codes "/"))) (no_parts))); condition = (no_expressions); loop = (Some (literal (list (item (text (codes "x")) (item (text (codes "b")) (item (boolean true) (no_items))))))); register = (Some (codes "r1")); vars = (no_parts); notify = ([]); changed_when = None; failed_when = None; attempts = None; ignore_errors = (Some true) }) (no_steps)); post_tasks = (no_steps); handlers = (record { work = (record { line = 9; work = (module_work (codes "command") (part (codes "cmd") (literal (text (codes "x"))) (no_parts))); condition = (no_expressions); loop = (Some (path (variable (codes "ansible_play_batch")) ([]))); register = (Some (codes "r3")); vars = (no_parts); notify = ([]); changed_when = None; failed_when = None; attempts = None; ignore_errors = None }); name = (Some (codes "h0")); topics = ((codes "t") ∷ []) } ∷ []); forces = true } ∷ []))
book_873 = refl

book_874 : book_from (builtins ++ (record { name = (codes "probe"); params = (record { name = (codes "n"); kind = ints; required = false } ∷ record { name = (codes "l"); kind = (lists texts 3); required = false } ∷ []); ok = recs (slot (codes "changed") true booleans (slot (codes "deep") false (recs (slot (codes "a") true texts (slot (codes "b") false booleans (no_slots)))) (slot (codes "rows") true (lists texts 2) (slot (codes "v") false ints (no_slots))))); failure = recs (slot (codes "changed") true booleans (slot (codes "msg") true texts (slot (codes "v") false texts (slot (codes "why") true ints (no_slots))))); free = None } ∷ record { name = (codes "odd"); params = ([]); ok = recs (slot (codes "changed") true booleans (slot (codes "msg") false ints (no_slots))); failure = recs (slot (codes "changed") true booleans (slot (codes "msg") true texts (no_slots))); free = None } ∷ [])) (list (item (rec (field (codes "gather_facts") (boolean true) (field (codes "hosts") (text (codes "all")) (field (codes "serial") (int (pos 1)) (field (codes "tasks") (list (item (rec (field (codes "debug") (rec (field (codes "msg") (text (codes "x")) (no_fields))) (no_fields))) (no_items))) (no_fields)))))) (item (rec (field (codes "force_handlers") (boolean true) (field (codes "handlers") (list (item (rec (field (codes "listen") (text (codes "t")) (field (codes "name") (text (codes "h0")) (field (codes "register") (text (codes "r3")) (field (codes "setup") null (field (codes "vars") (rec (field (codes "v2") (text (123 ∷ 123 ∷ 32 ∷ 103 ∷ 114 ∷ 111 ∷ 117 ∷ 112 ∷ 115 ∷ 46 ∷ 97 ∷ 108 ∷ 108 ∷ 32 ∷ 125 ∷ 125 ∷ [])) (field (codes "v3") (text (123 ∷ 123 ∷ 32 ∷ 114 ∷ 49 ∷ 46 ∷ 119 ∷ 104 ∷ 121 ∷ 32 ∷ 125 ∷ 125 ∷ [])) (no_fields)))) (no_fields))))))) (item (rec (field (codes "loop") (text (123 ∷ 123 ∷ 32 ∷ 114 ∷ 49 ∷ 46 ∷ 114 ∷ 101 ∷ 115 ∷ 117 ∷ 108 ∷ 116 ∷ 115 ∷ 32 ∷ 124 ∷ 32 ∷ 100 ∷ 101 ∷ 102 ∷ 97 ∷ 117 ∷ 108 ∷ 116 ∷ 40 ∷ 91 ∷ 93 ∷ 41 ∷ 32 ∷ 125 ∷ 125 ∷ [])) (field (codes "name") (text (codes "h1")) (field (codes "set_fact") (rec (field (codes "s1") (list (item (boolean true) (no_items))) (no_fields))) (no_fields))))) (no_items)))) (field (codes "hosts") (text (codes "all")) (field (codes "tasks") (list (item (rec (field (codes "register") (text (codes "r3")) (field (codes "setup") null (no_fields)))) (item (rec (field (codes "failed_when") (text (codes "r1 is failed")) (field (codes "loop") (text (123 ∷ 123 ∷ 32 ∷ 114 ∷ 51 ∷ 46 ∷ 115 ∷ 116 ∷ 100 ∷ 111 ∷ 117 ∷ 116 ∷ 95 ∷ 108 ∷ 105 ∷ 110 ∷ 101 ∷ 115 ∷ 32 ∷ 124 ∷ 32 ∷ 100 ∷ 101 ∷ 102 ∷ 97 ∷ 117 ∷ 108 ∷ 116 ∷ 40 ∷ 91 ∷ 93 ∷ 41 ∷ 32 ∷ 125 ∷ 125 ∷ [])) (field (codes "notify") (text (codes "t")) (field (codes "probe") (rec (no_fields)) (field (codes "register") (text (codes "r1")) (no_fields))))))) (no_items)))) (no_fields)))))) (item (rec (field (codes "hosts") (text (codes "g2")) (field (codes "tasks") (list (item (rec (field (codes "register") (text (codes "r1")) (field (codes "setup") null (no_fields)))) (item (rec (field (codes "always") (list (item (rec (field (codes "command") (rec (field (codes "cmd") (text (codes "x")) (no_fields))) (no_fields))) (item (rec (field (codes "probe") (rec (no_fields)) (field (codes "register") (text (codes "r1")) (no_fields)))) (item (rec (field (codes "changed_when") (boolean true) (field (codes "ping") null (no_fields)))) (no_items))))) (field (codes "block") (list (item (rec (field (codes "register") (text (codes "r2")) (field (codes "set_fact") (rec (field (codes "s1") (int (pos 1)) (no_fields))) (no_fields)))) (no_items))) (field (codes "ignore_errors") (boolean true) (field (codes "rescue") (list (item (rec (field (codes "debug") (rec (field (codes "msg") (text (123 ∷ 123 ∷ 32 ∷ 103 ∷ 114 ∷ 111 ∷ 117 ∷ 112 ∷ 115 ∷ 46 ∷ 97 ∷ 108 ∷ 108 ∷ 32 ∷ 125 ∷ 125 ∷ [])) (no_fields))) (field (codes "vars") (rec (field (codes "v2") (text (123 ∷ 123 ∷ 32 ∷ 114 ∷ 49 ∷ 46 ∷ 102 ∷ 97 ∷ 105 ∷ 108 ∷ 101 ∷ 100 ∷ 32 ∷ 125 ∷ 125 ∷ [])) (no_fields))) (field (codes "when") (text (codes "groups.all is defined")) (no_fields))))) (no_items))) (no_fields)))))) (no_items)))) (no_fields)))) (no_items))))) ≡ Ok ((record { line = 1; pattern = ((codes "all") ∷ []); gathering = (Some 2); vars = (no_parts); is_linear = true; serial = (host_count 1 ∷ []); pre_tasks = (no_steps); tasks = (task_step (record { line = 3; work = (debug_work (part (codes "msg") (literal (text (codes "x"))) (no_parts))); condition = (no_expressions); loop = None; register = None; vars = (no_parts); notify = ([]); changed_when = None; failed_when = None; attempts = None; ignore_errors = None }) (no_steps)); post_tasks = (no_steps); handlers = ([]); forces = false } ∷ record { line = 4; pattern = ((codes "all") ∷ []); gathering = None; vars = (no_parts); is_linear = true; serial = ([]); pre_tasks = (no_steps); tasks = (task_step (record { line = 5; work = (module_work (codes "setup") (no_parts)); condition = (no_expressions); loop = None; register = (Some (codes "r3")); vars = (no_parts); notify = ([]); changed_when = None; failed_when = None; attempts = None; ignore_errors = None }) (task_step (record { line = 6; work = (module_work (codes "probe") (no_parts)); condition = (no_expressions); loop = (Some (path_or (variable (codes "r3")) ((codes "stdout_lines") ∷ []) (list_of (no_expressions)))); register = (Some (codes "r1")); vars = (no_parts); notify = ((codes "t") ∷ []); changed_when = None; failed_when = (Some (expression (path_status is_failed (variable (codes "r1")) ([])) (no_expressions))); attempts = None; ignore_errors = None }) (no_steps))); post_tasks = (no_steps); handlers = (record { work = (record { line = 7; work = (module_work (codes "setup") (no_parts)); condition = (no_expressions); loop = None; register = (Some (codes "r3")); vars = (part (codes "v2") (path (variable (codes "groups")) ((codes "all") ∷ [])) (part (codes "v3") (path (variable (codes "r1")) ((codes "why") ∷ [])) (no_parts))); notify = ([]); changed_when = None; failed_when = None; attempts = None; ignore_errors = None }); name = (Some (codes "h0")); topics = ((codes "t") ∷ []) } ∷ record { work = (record { line = 8; work = (set_fact_work (part (codes "s1") (literal (list (item (boolean true) (no_items)))) (no_parts))); condition = (no_expressions); loop = (Some (path_or (variable (codes "r1")) ((codes "results") ∷ []) (list_of (no_expressions)))); register = None; vars = (no_parts); notify = ([]); changed_when = None; failed_when = None; attempts = None; ignore_errors = None }); name = (Some (codes "h1")); topics = ([]) } ∷ []); forces = true } ∷ record { line = 9; pattern = ((codes "g2") ∷ []); gathering = None; vars = (no_parts); is_linear = true; serial = ([]); pre_tasks = (no_steps); tasks = (task_step (record { line = 10; work = (module_work (codes "setup") (no_parts)); condition = (no_expressions); loop = None; register = (Some (codes "r1")); vars = (no_parts); notify = ([]); changed_when = None; failed_when = None; attempts = None; ignore_errors = None }) (block_step (record { line = 11; condition = (no_expressions); vars = (no_parts); ignore_errors = (Some true) }) (task_step (record { line = 12; work = (set_fact_work (part (codes "s1") (literal (int (pos 1))) (no_parts))); condition = (no_expressions); loop = None; register = (Some (codes "r2")); vars = (no_parts); notify = ([]); changed_when = None; failed_when = None; attempts = None; ignore_errors = None }) (no_steps)) (task_step (record { line = 13; work = (debug_work (part (codes "msg") (path (variable (codes "groups")) ((codes "all") ∷ [])) (no_parts))); condition = (expression (defined (variable (codes "groups")) ((codes "all") ∷ [])) (no_expressions)); loop = None; register = None; vars = (part (codes "v2") (path (variable (codes "r1")) ((codes "failed") ∷ [])) (no_parts)); notify = ([]); changed_when = None; failed_when = None; attempts = None; ignore_errors = None }) (no_steps)) (task_step (record { line = 14; work = (module_work (codes "command") (part (codes "cmd") (literal (text (codes "x"))) (no_parts))); condition = (no_expressions); loop = None; register = None; vars = (no_parts); notify = ([]); changed_when = None; failed_when = None; attempts = None; ignore_errors = None }) (task_step (record { line = 15; work = (module_work (codes "probe") (no_parts)); condition = (no_expressions); loop = None; register = (Some (codes "r1")); vars = (no_parts); notify = ([]); changed_when = None; failed_when = None; attempts = None; ignore_errors = None }) (task_step (record { line = 16; work = (module_work (codes "ping") (no_parts)); condition = (no_expressions); loop = None; register = None; vars = (no_parts); notify = ([]); changed_when = (Some (expression (literal (boolean true)) (no_expressions))); failed_when = None; attempts = None; ignore_errors = None }) (no_steps)))) (no_steps))); post_tasks = (no_steps); handlers = ([]); forces = false } ∷ []))
book_874 = refl

book_875 : book_from (builtins ++ (record { name = (codes "probe"); params = (record { name = (codes "n"); kind = ints; required = false } ∷ record { name = (codes "l"); kind = (lists texts 3); required = false } ∷ []); ok = recs (slot (codes "changed") true booleans (slot (codes "deep") false (recs (slot (codes "a") true texts (slot (codes "b") false booleans (no_slots)))) (slot (codes "rows") true (lists texts 2) (slot (codes "v") false ints (no_slots))))); failure = recs (slot (codes "changed") true booleans (slot (codes "msg") true texts (slot (codes "v") false texts (slot (codes "why") true ints (no_slots))))); free = None } ∷ record { name = (codes "odd"); params = ([]); ok = recs (slot (codes "changed") true booleans (slot (codes "msg") false ints (no_slots))); failure = recs (slot (codes "changed") true booleans (slot (codes "msg") true texts (no_slots))); free = None } ∷ [])) (list (item (rec (field (codes "gather_facts") (boolean true) (field (codes "hosts") (text (codes "all")) (field (codes "strategy") (text (codes "free")) (field (codes "tasks") (list (item (rec (field (codes "assert") (rec (field (codes "that") (boolean true) (no_fields))) (field (codes "register") (text (codes "r2")) (no_fields)))) (no_items))) (field (codes "vars") (rec (field (codes "v2") (text (120 ∷ 123 ∷ 123 ∷ 32 ∷ 114 ∷ 50 ∷ 32 ∷ 125 ∷ 125 ∷ [])) (no_fields))) (no_fields))))))) (no_items))) ≡ Ok ((record { line = 1; pattern = ((codes "all") ∷ []); gathering = (Some 2); vars = (part (codes "v2") (concatenation (expression (literal (text (codes "x"))) (expression (path (variable (codes "r2")) ([])) (no_expressions)))) (no_parts)); is_linear = false; serial = ([]); pre_tasks = (no_steps); tasks = (task_step (record { line = 3; work = (assert_work (conditions_are (expression (literal (boolean true)) (no_expressions))) (no_parts)); condition = (no_expressions); loop = None; register = (Some (codes "r2")); vars = (no_parts); notify = ([]); changed_when = None; failed_when = None; attempts = None; ignore_errors = None }) (no_steps)); post_tasks = (no_steps); handlers = ([]); forces = false } ∷ []))
book_875 = refl

book_876 : book_from (builtins ++ (record { name = (codes "probe"); params = (record { name = (codes "n"); kind = ints; required = false } ∷ record { name = (codes "l"); kind = (lists texts 3); required = false } ∷ []); ok = recs (slot (codes "changed") true booleans (slot (codes "deep") false (recs (slot (codes "a") true texts (slot (codes "b") false booleans (no_slots)))) (slot (codes "rows") true (lists texts 2) (slot (codes "v") false ints (no_slots))))); failure = recs (slot (codes "changed") true booleans (slot (codes "msg") true texts (slot (codes "v") false texts (slot (codes "why") true ints (no_slots))))); free = None } ∷ record { name = (codes "odd"); params = ([]); ok = recs (slot (codes "changed") true booleans (slot (codes "msg") false ints (no_slots))); failure = recs (slot (codes "changed") true booleans (slot (codes "msg") true texts (no_slots))); free = None } ∷ [])) (list (item (rec (field (codes "gather_facts") (boolean true) (field (codes "hosts") (text (codes "b")) (field (codes "tasks") (list (item (rec (field (codes "debug") (rec (field (codes "msg") (text (codes "x")) (no_fields))) (field (codes "register") (text (codes "r1")) (no_fields)))) (item (rec (field (codes "debug") (rec (field (codes "msg") (text (123 ∷ 123 ∷ 32 ∷ 91 ∷ 49 ∷ 44 ∷ 32 ∷ 50 ∷ 93 ∷ 32 ∷ 125 ∷ 125 ∷ [])) (no_fields))) (field (codes "register") (text (codes "r1")) (no_fields)))) (no_items)))) (field (codes "vars") (rec (field (codes "v3") (rec (no_fields)) (no_fields))) (no_fields)))))) (item (rec (field (codes "hosts") (list (item (text (codes "a")) (item (text (codes "all")) (no_items)))) (field (codes "pre_tasks") (list (item (rec (field (codes "command") (rec (field (codes "cmd") (text (120 ∷ 32 ∷ 123 ∷ 123 ∷ 32 ∷ 118 ∷ 50 ∷ 32 ∷ 124 ∷ 32 ∷ 100 ∷ 101 ∷ 102 ∷ 97 ∷ 117 ∷ 108 ∷ 116 ∷ 40 ∷ 49 ∷ 41 ∷ 32 ∷ 125 ∷ 125 ∷ [])) (no_fields))) (field (codes "register") (text (codes "r2")) (field (codes "vars") (rec (field (codes "v2") (text (123 ∷ 123 ∷ 32 ∷ 114 ∷ 50 ∷ 46 ∷ 115 ∷ 107 ∷ 105 ∷ 112 ∷ 95 ∷ 114 ∷ 101 ∷ 97 ∷ 115 ∷ 111 ∷ 110 ∷ 32 ∷ 124 ∷ 32 ∷ 108 ∷ 101 ∷ 110 ∷ 103 ∷ 116 ∷ 104 ∷ 32 ∷ 125 ∷ 125 ∷ [])) (field (codes "v3") (text (123 ∷ 123 ∷ 32 ∷ 91 ∷ 114 ∷ 50 ∷ 46 ∷ 99 ∷ 104 ∷ 97 ∷ 110 ∷ 103 ∷ 101 ∷ 100 ∷ 44 ∷ 32 ∷ 114 ∷ 50 ∷ 46 ∷ 99 ∷ 104 ∷ 97 ∷ 110 ∷ 103 ∷ 101 ∷ 100 ∷ 93 ∷ 32 ∷ 125 ∷ 125 ∷ [])) (no_fields)))) (no_fields))))) (no_items))) (field (codes "tasks") (list (item (rec (field (codes "odd") null (field (codes "register") (text (codes "r2")) (field (codes "vars") (rec (no_fields)) (no_fields))))) (item (rec (field (codes "register") (text (codes "r1")) (field (codes "stat") (rec (field (codes "path") (text (codes "/")) (no_fields))) (no_fields)))) (no_items)))) (no_fields))))) (no_items)))) ≡ Ok ((record { line = 1; pattern = ((codes "b") ∷ []); gathering = (Some 2); vars = (part (codes "v3") (literal (rec (no_fields))) (no_parts)); is_linear = true; serial = ([]); pre_tasks = (no_steps); tasks = (task_step (record { line = 3; work = (debug_work (part (codes "msg") (literal (text (codes "x"))) (no_parts))); condition = (no_expressions); loop = None; register = (Some (codes "r1")); vars = (no_parts); notify = ([]); changed_when = None; failed_when = None; attempts = None; ignore_errors = None }) (task_step (record { line = 4; work = (debug_work (part (codes "msg") (list_of (expression (literal (int (pos 1))) (expression (literal (int (pos 2))) (no_expressions)))) (no_parts))); condition = (no_expressions); loop = None; register = (Some (codes "r1")); vars = (no_parts); notify = ([]); changed_when = None; failed_when = None; attempts = None; ignore_errors = None }) (no_steps))); post_tasks = (no_steps); handlers = ([]); forces = false } ∷ record { line = 5; pattern = ((codes "a") ∷ (codes "all") ∷ []); gathering = None; vars = (no_parts); is_linear = true; serial = ([]); pre_tasks = (task_step (record { line = 6; work = (module_work (codes "command") (part (codes "cmd") (concatenation (expression (literal (text (codes "x "))) (expression (path_or (variable (codes "v2")) ([]) (literal (int (pos 1)))) (no_expressions)))) (no_parts))); condition = (no_expressions); loop = None; register = (Some (codes "r2")); vars = (part (codes "v2") (length_of (path (variable (codes "r2")) ((codes "skip_reason") ∷ []))) (part (codes "v3") (list_of (expression (path (variable (codes "r2")) ((codes "changed") ∷ [])) (expression (path (variable (codes "r2")) ((codes "changed") ∷ [])) (no_expressions)))) (no_parts))); notify = ([]); changed_when = None; failed_when = None; attempts = None; ignore_errors = None }) (no_steps)); tasks = (task_step (record { line = 7; work = (module_work (codes "odd") (no_parts)); condition = (no_expressions); loop = None; register = (Some (codes "r2")); vars = (no_parts); notify = ([]); changed_when = None; failed_when = None; attempts = None; ignore_errors = None }) (task_step (record { line = 8; work = (module_work (codes "stat") (part (codes "path") (literal (text (codes "/"))) (no_parts))); condition = (no_expressions); loop = None; register = (Some (codes "r1")); vars = (no_parts); notify = ([]); changed_when = None; failed_when = None; attempts = None; ignore_errors = None }) (no_steps))); post_tasks = (no_steps); handlers = ([]); forces = false } ∷ []))
book_876 = refl

book_877 : book_from (builtins ++ (record { name = (codes "probe"); params = (record { name = (codes "n"); kind = ints; required = false } ∷ record { name = (codes "l"); kind = (lists texts 3); required = false } ∷ []); ok = recs (slot (codes "changed") true booleans (slot (codes "deep") false (recs (slot (codes "a") true texts (slot (codes "b") false booleans (no_slots)))) (slot (codes "rows") true (lists texts 2) (slot (codes "v") false ints (no_slots))))); failure = recs (slot (codes "changed") true booleans (slot (codes "msg") true texts (slot (codes "v") false texts (slot (codes "why") true ints (no_slots))))); free = None } ∷ record { name = (codes "odd"); params = ([]); ok = recs (slot (codes "changed") true booleans (slot (codes "msg") false ints (no_slots))); failure = recs (slot (codes "changed") true booleans (slot (codes "msg") true texts (no_slots))); free = None } ∷ [])) (list (item (rec (field (codes "handlers") (list (item (rec (field (codes "command") (rec (field (codes "cmd") (text (120 ∷ 32 ∷ 123 ∷ 123 ∷ 32 ∷ 105 ∷ 50 ∷ 32 ∷ 124 ∷ 32 ∷ 100 ∷ 101 ∷ 102 ∷ 97 ∷ 117 ∷ 108 ∷ 116 ∷ 40 ∷ 115 ∷ 49 ∷ 41 ∷ 32 ∷ 125 ∷ 125 ∷ [])) (no_fields))) (field (codes "name") (text (codes "h0")) (field (codes "register") (text (codes "r2")) (no_fields))))) (item (rec (field (codes "loop") (text (123 ∷ 123 ∷ 32 ∷ 97 ∷ 110 ∷ 115 ∷ 105 ∷ 98 ∷ 108 ∷ 101 ∷ 95 ∷ 112 ∷ 108 ∷ 97 ∷ 121 ∷ 95 ∷ 98 ∷ 97 ∷ 116 ∷ 99 ∷ 104 ∷ 32 ∷ 125 ∷ 125 ∷ [])) (field (codes "name") (text (codes "h1")) (field (codes "notify") (text (codes "h2")) (field (codes "odd") null (field (codes "register") (text (codes "r2")) (no_fields))))))) (item (rec (field (codes "debug") (rec (field (codes "msg") (text (123 ∷ 123 ∷ 32 ∷ 114 ∷ 50 ∷ 32 ∷ 125 ∷ 125 ∷ [])) (no_fields))) (field (codes "listen") (text (codes "t")) (field (codes "name") (text (codes "h2")) (field (codes "when") (text (codes "r2 is defined")) (no_fields)))))) (no_items))))) (field (codes "hosts") (list (item (text (codes "a")) (item (text (codes "all")) (no_items)))) (field (codes "serial") (list (item (int (pos 1)) (item (text (49 ∷ 48 ∷ 48 ∷ 37 ∷ [])) (no_items)))) (field (codes "tasks") (list (item (rec (field (codes "ignore_errors") (boolean true) (field (codes "notify") (text (codes "h0")) (field (codes "register") (text (codes "r3")) (field (codes "stat") (rec (field (codes "path") (text (codes "/")) (no_fields))) (no_fields)))))) (item (rec (field (codes "command") (rec (field (codes "cmd") (text (codes "x")) (no_fields))) (field (codes "loop") (text (123 ∷ 123 ∷ 32 ∷ 97 ∷ 110 ∷ 115 ∷ 105 ∷ 98 ∷ 108 ∷ 101 ∷ 95 ∷ 112 ∷ 108 ∷ 97 ∷ 121 ∷ 95 ∷ 98 ∷ 97 ∷ 116 ∷ 99 ∷ 104 ∷ 32 ∷ 125 ∷ 125 ∷ [])) (field (codes "register") (text (codes "r3")) (field (codes "vars") (rec (field (codes "v1") (text (123 ∷ 123 ∷ 32 ∷ 115 ∷ 49 ∷ 32 ∷ 125 ∷ 125 ∷ [])) (no_fields))) (field (codes "when") (text (codes "item in ansible_play_batch")) (no_fields))))))) (item (rec (field (codes "command") (rec (field (codes "cmd") (text (codes "x")) (no_fields))) (field (codes "register") (text (codes "r2")) (no_fields)))) (no_items))))) (no_fields)))))) (no_items))) ≡ Ok ((record { line = 1; pattern = ((codes "a") ∷ (codes "all") ∷ []); gathering = None; vars = (no_parts); is_linear = true; serial = (host_count 1 ∷ percentage 100 ∷ []); pre_tasks = (no_steps); tasks = (task_step (record { line = 2; work = (module_work (codes "stat") (part (codes "path") (literal (text (codes "/"))) (no_parts))); condition = (no_expressions); loop = None; register = (Some (codes "r3")); vars = (no_parts); notify = ((codes "h0") ∷ []); changed_when = None; failed_when = None; attempts = None; ignore_errors = (Some true) }) (task_step (record { line = 3; work = (module_work (codes "command") (part (codes "cmd") (literal (text (codes "x"))) (no_parts))); condition = (expression (in_batch item_host) (no_expressions)); loop = (Some (path (variable (codes "ansible_play_batch")) ([]))); register = (Some (codes "r3")); vars = (part (codes "v1") (path (variable (codes "s1")) ([])) (no_parts)); notify = ([]); changed_when = None; failed_when = None; attempts = None; ignore_errors = None }) (task_step (record { line = 4; work = (module_work (codes "command") (part (codes "cmd") (literal (text (codes "x"))) (no_parts))); condition = (no_expressions); loop = None; register = (Some (codes "r2")); vars = (no_parts); notify = ([]); changed_when = None; failed_when = None; attempts = None; ignore_errors = None }) (no_steps)))); post_tasks = (no_steps); handlers = (record { work = (record { line = 5; work = (module_work (codes "command") (part (codes "cmd") (concatenation (expression (literal (text (codes "x "))) (expression (path_or (variable (codes "i2")) ([]) (path (variable (codes "s1")) ([]))) (no_expressions)))) (no_parts))); condition = (no_expressions); loop = None; register = (Some (codes "r2")); vars = (no_parts); notify = ([]); changed_when = None; failed_when = None; attempts = None; ignore_errors = None }); name = (Some (codes "h0")); topics = ([]) } ∷ record { work = (record { line = 6; work = (module_work (codes "odd") (no_parts)); condition = (no_expressions); loop = (Some (path (variable (codes "ansible_play_batch")) ([]))); register = (Some (codes "r2")); vars = (no_parts); notify = ((codes "h2") ∷ []); changed_when = None; failed_when = None; attempts = None; ignore_errors = None }); name = (Some (codes "h1")); topics = ([]) } ∷ record { work = (record { line = 7; work = (debug_work (part (codes "msg") (path (variable (codes "r2")) ([])) (no_parts))); condition = (expression (defined (variable (codes "r2")) ([])) (no_expressions)); loop = None; register = None; vars = (no_parts); notify = ([]); changed_when = None; failed_when = None; attempts = None; ignore_errors = None }); name = (Some (codes "h2")); topics = ((codes "t") ∷ []) } ∷ []); forces = false } ∷ []))
book_877 = refl

book_878 : book_from (builtins ++ (record { name = (codes "probe"); params = (record { name = (codes "n"); kind = ints; required = false } ∷ record { name = (codes "l"); kind = (lists texts 3); required = false } ∷ []); ok = recs (slot (codes "changed") true booleans (slot (codes "deep") false (recs (slot (codes "a") true texts (slot (codes "b") false booleans (no_slots)))) (slot (codes "rows") true (lists texts 2) (slot (codes "v") false ints (no_slots))))); failure = recs (slot (codes "changed") true booleans (slot (codes "msg") true texts (slot (codes "v") false texts (slot (codes "why") true ints (no_slots))))); free = None } ∷ record { name = (codes "odd"); params = ([]); ok = recs (slot (codes "changed") true booleans (slot (codes "msg") false ints (no_slots))); failure = recs (slot (codes "changed") true booleans (slot (codes "msg") true texts (no_slots))); free = None } ∷ [])) (list (item (rec (field (codes "handlers") (list (item (rec (field (codes "command") (rec (field (codes "cmd") (text (codes "x")) (no_fields))) (field (codes "name") (text (codes "h0")) (field (codes "register") (text (codes "r1")) (no_fields))))) (item (rec (field (codes "ignore_errors") (boolean false) (field (codes "listen") (text (codes "t")) (field (codes "loop") (text (123 ∷ 123 ∷ 32 ∷ 114 ∷ 49 ∷ 46 ∷ 114 ∷ 101 ∷ 115 ∷ 117 ∷ 108 ∷ 116 ∷ 115 ∷ 32 ∷ 124 ∷ 32 ∷ 100 ∷ 101 ∷ 102 ∷ 97 ∷ 117 ∷ 108 ∷ 116 ∷ 40 ∷ 91 ∷ 93 ∷ 41 ∷ 32 ∷ 125 ∷ 125 ∷ [])) (field (codes "name") (text (codes "h1")) (field (codes "ping") null (field (codes "register") (text (codes "r1")) (field (codes "vars") (rec (no_fields)) (no_fields))))))))) (no_items)))) (field (codes "hosts") (text (codes "a")) (field (codes "tasks") (list (item (rec (field (codes "command") (rec (field (codes "cmd") (text (codes "x")) (no_fields))) (field (codes "register") (text (codes "r1")) (field (codes "retries") (int (pos 2)) (field (codes "until") (text (codes "r1.rc == 1")) (field (codes "when") (text (codes "op is defined")) (no_fields))))))) (no_items))) (no_fields))))) (no_items))) ≡ Ok ((record { line = 1; pattern = ((codes "a") ∷ []); gathering = None; vars = (no_parts); is_linear = true; serial = ([]); pre_tasks = (no_steps); tasks = (task_step (record { line = 2; work = (module_work (codes "command") (part (codes "cmd") (literal (text (codes "x"))) (no_parts))); condition = (expression (defined (variable (codes "op")) ([])) (no_expressions)); loop = None; register = (Some (codes "r1")); vars = (no_parts); notify = ([]); changed_when = None; failed_when = None; attempts = (Some (record { until = (expression (comparison equal (path (variable (codes "r1")) ((codes "rc") ∷ [])) (literal (int (pos 1)))) (no_expressions)); retries = 2 })); ignore_errors = None }) (no_steps)); post_tasks = (no_steps); handlers = (record { work = (record { line = 3; work = (module_work (codes "command") (part (codes "cmd") (literal (text (codes "x"))) (no_parts))); condition = (no_expressions); loop = None; register = (Some (codes "r1")); vars = (no_parts); notify = ([]); changed_when = None; failed_when = None; attempts = None; ignore_errors = None }); name = (Some (codes "h0")); topics = ([]) } ∷ record { work = (record { line = 4; work = (module_work (codes "ping") (no_parts)); condition = (no_expressions); loop = (Some (path_or (variable (codes "r1")) ((codes "results") ∷ []) (list_of (no_expressions)))); register = (Some (codes "r1")); vars = (no_parts); notify = ([]); changed_when = None; failed_when = None; attempts = None; ignore_errors = (Some false) }); name = (Some (codes "h1")); topics = ((codes "t") ∷ []) } ∷ []); forces = false } ∷ []))
book_878 = refl

book_879 : book_from (builtins ++ (record { name = (codes "probe"); params = (record { name = (codes "n"); kind = ints; required = false } ∷ record { name = (codes "l"); kind = (lists texts 3); required = false } ∷ []); ok = recs (slot (codes "changed") true booleans (slot (codes "deep") false (recs (slot (codes "a") true texts (slot (codes "b") false booleans (no_slots)))) (slot (codes "rows") true (lists texts 2) (slot (codes "v") false ints (no_slots))))); failure = recs (slot (codes "changed") true booleans (slot (codes "msg") true texts (slot (codes "v") false texts (slot (codes "why") true ints (no_slots))))); free = None } ∷ record { name = (codes "odd"); params = ([]); ok = recs (slot (codes "changed") true booleans (slot (codes "msg") false ints (no_slots))); failure = recs (slot (codes "changed") true booleans (slot (codes "msg") true texts (no_slots))); free = None } ∷ [])) (list (item (rec (field (codes "handlers") (list (item (rec (field (codes "command") (text (codes "x")) (field (codes "listen") (text (codes "t")) (field (codes "name") (text (codes "h0")) (field (codes "notify") (text (codes "h1")) (field (codes "register") (text (codes "r2")) (no_fields))))))) (item (rec (field (codes "ignore_errors") (boolean true) (field (codes "name") (text (codes "h1")) (field (codes "odd") null (field (codes "when") (text (codes "r1 is changed")) (no_fields)))))) (no_items)))) (field (codes "hosts") (text (codes "all")) (field (codes "tasks") (list (item (rec (field (codes "command") (rec (field (codes "cmd") (text (codes "x")) (no_fields))) (field (codes "loop") (text (123 ∷ 123 ∷ 32 ∷ 114 ∷ 49 ∷ 46 ∷ 115 ∷ 116 ∷ 100 ∷ 111 ∷ 117 ∷ 116 ∷ 95 ∷ 108 ∷ 105 ∷ 110 ∷ 101 ∷ 115 ∷ 32 ∷ 124 ∷ 32 ∷ 100 ∷ 101 ∷ 102 ∷ 97 ∷ 117 ∷ 108 ∷ 116 ∷ 40 ∷ 91 ∷ 93 ∷ 41 ∷ 32 ∷ 125 ∷ 125 ∷ [])) (field (codes "register") (text (codes "r3")) (no_fields))))) (item (rec (field (codes "notify") (text (codes "t")) (field (codes "odd") null (no_fields)))) (no_items)))) (no_fields))))) (no_items))) ≡ Ok ((record { line = 1; pattern = ((codes "all") ∷ []); gathering = None; vars = (no_parts); is_linear = true; serial = ([]); pre_tasks = (no_steps); tasks = (task_step (record { line = 2; work = (module_work (codes "command") (part (codes "cmd") (literal (text (codes "x"))) (no_parts))); condition = (no_expressions); loop = (Some (path_or (variable (codes "r1")) ((codes "stdout_lines") ∷ []) (list_of (no_expressions)))); register = (Some (codes "r3")); vars = (no_parts); notify = ([]); changed_when = None; failed_when = None; attempts = None; ignore_errors = None }) (task_step (record { line = 3; work = (module_work (codes "odd") (no_parts)); condition = (no_expressions); loop = None; register = None; vars = (no_parts); notify = ((codes "t") ∷ []); changed_when = None; failed_when = None; attempts = None; ignore_errors = None }) (no_steps))); post_tasks = (no_steps); handlers = (record { work = (record { line = 4; work = (module_work (codes "command") (part (codes "cmd") (literal (text (codes "x"))) (no_parts))); condition = (no_expressions); loop = None; register = (Some (codes "r2")); vars = (no_parts); notify = ((codes "h1") ∷ []); changed_when = None; failed_when = None; attempts = None; ignore_errors = None }); name = (Some (codes "h0")); topics = ((codes "t") ∷ []) } ∷ record { work = (record { line = 5; work = (module_work (codes "odd") (no_parts)); condition = (expression (path_status is_changed (variable (codes "r1")) ([])) (no_expressions)); loop = None; register = None; vars = (no_parts); notify = ([]); changed_when = None; failed_when = None; attempts = None; ignore_errors = (Some true) }); name = (Some (codes "h1")); topics = ([]) } ∷ []); forces = false } ∷ []))
book_879 = refl
