-- The books of cases as they are read, computed.
use Rattle.std.specs.Prelude.{◌≡◌, refl, pos, [], ◌∷◌, ◌++◌, true, false, Some, None, Ok, Err, codes}
use Rattle.pb_semantics.specs.Data.{null, boolean, int, text, list, rec, no_items, item, no_fields, field}
use Rattle.pb_language.specs.Expression.{is_failed, is_changed, is_skipped, this_host, item_host, literal, path, negation, conjunction, disjunction, defined, path_status, length_of, concatenation, record_of, variable, other, no_expressions, expression, no_parts, part}
use Rattle.pb_language.specs.Book.{conditions_are, module_work, debug_work, set_fact_work, assert_work, fail_work, no_steps, task_step, block_step, flush_step, host_count, percentage}
use Rattle.pb_language.specs.BookForm.{book_from}
use Rattle.pb_language.specs.Builtins.{builtins}

book_80 : book_from (builtins ++ ([])) (list (item (rec (field (codes "handlers") (list (item (rec (field (codes "name") (text (codes "a")) (field (codes "notify") (text (codes "c")) (field (codes "ping") null (no_fields))))) (item (rec (field (codes "name") (text (codes "b")) (field (codes "ping") null (no_fields)))) (item (rec (field (codes "listen") (list (item (text (codes "b")) (no_items))) (field (codes "name") (text (codes "c")) (field (codes "ping") null (no_fields))))) (no_items))))) (field (codes "hosts") (text (codes "all")) (field (codes "post_tasks") (list (item (rec (field (codes "ping") null (no_fields))) (no_items))) (field (codes "tasks") (list (item (rec (field (codes "notify") (text (codes "b")) (field (codes "ping") null (no_fields)))) (no_items))) (no_fields)))))) (no_items))) ≡ Ok ((record { line = 1; pattern = ((codes "all") ∷ []); gathering = None; vars = (no_parts); is_linear = true; serial = ([]); pre_tasks = (no_steps); tasks = (task_step (record { line = 2; work = (module_work (codes "ping") (no_parts)); condition = (no_expressions); loop = None; register = None; vars = (no_parts); notify = ((codes "b") ∷ []); changed_when = None; failed_when = None; attempts = None; ignore_errors = None }) (no_steps)); post_tasks = (task_step (record { line = 3; work = (module_work (codes "ping") (no_parts)); condition = (no_expressions); loop = None; register = None; vars = (no_parts); notify = ([]); changed_when = None; failed_when = None; attempts = None; ignore_errors = None }) (no_steps)); handlers = (record { work = (record { line = 4; work = (module_work (codes "ping") (no_parts)); condition = (no_expressions); loop = None; register = None; vars = (no_parts); notify = ((codes "c") ∷ []); changed_when = None; failed_when = None; attempts = None; ignore_errors = None }); name = (Some (codes "a")); topics = ([]) } ∷ record { work = (record { line = 5; work = (module_work (codes "ping") (no_parts)); condition = (no_expressions); loop = None; register = None; vars = (no_parts); notify = ([]); changed_when = None; failed_when = None; attempts = None; ignore_errors = None }); name = (Some (codes "b")); topics = ([]) } ∷ record { work = (record { line = 6; work = (module_work (codes "ping") (no_parts)); condition = (no_expressions); loop = None; register = None; vars = (no_parts); notify = ([]); changed_when = None; failed_when = None; attempts = None; ignore_errors = None }); name = (Some (codes "c")); topics = ((codes "b") ∷ []) } ∷ []); forces = false } ∷ []))
book_80 = refl

book_81 : book_from (builtins ++ ([])) (list (item (rec (field (codes "handlers") (list (item (rec (field (codes "name") (text (codes "a")) (field (codes "notify") (text (codes "c")) (field (codes "ping") null (no_fields))))) (item (rec (field (codes "name") (text (codes "b")) (field (codes "ping") null (no_fields)))) (item (rec (field (codes "listen") (list (item (text (codes "b")) (no_items))) (field (codes "name") (text (codes "c")) (field (codes "ping") null (no_fields))))) (no_items))))) (field (codes "hosts") (text (codes "all")) (field (codes "tasks") (list (item (rec (field (codes "ignore_errors") (boolean true) (field (codes "notify") (text (codes "b")) (field (codes "ping") null (no_fields))))) (no_items))) (no_fields))))) (no_items))) ≡ Ok ((record { line = 1; pattern = ((codes "all") ∷ []); gathering = None; vars = (no_parts); is_linear = true; serial = ([]); pre_tasks = (no_steps); tasks = (task_step (record { line = 2; work = (module_work (codes "ping") (no_parts)); condition = (no_expressions); loop = None; register = None; vars = (no_parts); notify = ((codes "b") ∷ []); changed_when = None; failed_when = None; attempts = None; ignore_errors = (Some true) }) (no_steps)); post_tasks = (no_steps); handlers = (record { work = (record { line = 3; work = (module_work (codes "ping") (no_parts)); condition = (no_expressions); loop = None; register = None; vars = (no_parts); notify = ((codes "c") ∷ []); changed_when = None; failed_when = None; attempts = None; ignore_errors = None }); name = (Some (codes "a")); topics = ([]) } ∷ record { work = (record { line = 4; work = (module_work (codes "ping") (no_parts)); condition = (no_expressions); loop = None; register = None; vars = (no_parts); notify = ([]); changed_when = None; failed_when = None; attempts = None; ignore_errors = None }); name = (Some (codes "b")); topics = ([]) } ∷ record { work = (record { line = 5; work = (module_work (codes "ping") (no_parts)); condition = (no_expressions); loop = None; register = None; vars = (no_parts); notify = ([]); changed_when = None; failed_when = None; attempts = None; ignore_errors = None }); name = (Some (codes "c")); topics = ((codes "b") ∷ []) } ∷ []); forces = false } ∷ []))
book_81 = refl

book_82 : book_from (builtins ++ ([])) (list (item (rec (field (codes "handlers") (list (item (rec (field (codes "name") (text (codes "a")) (field (codes "notify") (text (codes "c")) (field (codes "ping") null (no_fields))))) (item (rec (field (codes "name") (text (codes "b")) (field (codes "ping") null (no_fields)))) (item (rec (field (codes "listen") (list (item (text (codes "b")) (no_items))) (field (codes "name") (text (codes "c")) (field (codes "ping") null (no_fields))))) (no_items))))) (field (codes "hosts") (text (codes "all")) (field (codes "tasks") (list (item (rec (field (codes "notify") (text (codes "b")) (field (codes "ping") null (no_fields)))) (no_items))) (no_fields))))) (no_items))) ≡ Ok ((record { line = 1; pattern = ((codes "all") ∷ []); gathering = None; vars = (no_parts); is_linear = true; serial = ([]); pre_tasks = (no_steps); tasks = (task_step (record { line = 2; work = (module_work (codes "ping") (no_parts)); condition = (no_expressions); loop = None; register = None; vars = (no_parts); notify = ((codes "b") ∷ []); changed_when = None; failed_when = None; attempts = None; ignore_errors = None }) (no_steps)); post_tasks = (no_steps); handlers = (record { work = (record { line = 3; work = (module_work (codes "ping") (no_parts)); condition = (no_expressions); loop = None; register = None; vars = (no_parts); notify = ((codes "c") ∷ []); changed_when = None; failed_when = None; attempts = None; ignore_errors = None }); name = (Some (codes "a")); topics = ([]) } ∷ record { work = (record { line = 4; work = (module_work (codes "ping") (no_parts)); condition = (no_expressions); loop = None; register = None; vars = (no_parts); notify = ([]); changed_when = None; failed_when = None; attempts = None; ignore_errors = None }); name = (Some (codes "b")); topics = ([]) } ∷ record { work = (record { line = 5; work = (module_work (codes "ping") (no_parts)); condition = (no_expressions); loop = None; register = None; vars = (no_parts); notify = ([]); changed_when = None; failed_when = None; attempts = None; ignore_errors = None }); name = (Some (codes "c")); topics = ((codes "b") ∷ []) } ∷ []); forces = false } ∷ []))
book_82 = refl

book_83 : book_from (builtins ++ ([])) (list (item (rec (field (codes "handlers") (list (item (rec (field (codes "name") (text (codes "a")) (field (codes "ping") null (no_fields)))) (item (rec (field (codes "name") (text (codes "a")) (field (codes "ping") null (field (codes "when") (text (codes "a b")) (no_fields))))) (no_items)))) (field (codes "hosts") (text (codes "all")) (field (codes "tasks") (list (no_items)) (no_fields))))) (no_items))) ≡ Err (record { line = 3; code = 7 })
book_83 = refl

book_84 : book_from (builtins ++ ([])) (list (item (rec (field (codes "handlers") (list (item (rec (field (codes "name") (text (codes "a")) (field (codes "ping") null (no_fields)))) (item (rec (field (codes "name") (text (codes "b")) (field (codes "notify") (text (codes "a")) (field (codes "ping") null (no_fields))))) (no_items)))) (field (codes "hosts") (text (codes "all")) (field (codes "tasks") (list (item (rec (field (codes "ping") null (no_fields))) (no_items))) (no_fields))))) (no_items))) ≡ Ok ((record { line = 1; pattern = ((codes "all") ∷ []); gathering = None; vars = (no_parts); is_linear = true; serial = ([]); pre_tasks = (no_steps); tasks = (task_step (record { line = 2; work = (module_work (codes "ping") (no_parts)); condition = (no_expressions); loop = None; register = None; vars = (no_parts); notify = ([]); changed_when = None; failed_when = None; attempts = None; ignore_errors = None }) (no_steps)); post_tasks = (no_steps); handlers = (record { work = (record { line = 3; work = (module_work (codes "ping") (no_parts)); condition = (no_expressions); loop = None; register = None; vars = (no_parts); notify = ([]); changed_when = None; failed_when = None; attempts = None; ignore_errors = None }); name = (Some (codes "a")); topics = ([]) } ∷ record { work = (record { line = 4; work = (module_work (codes "ping") (no_parts)); condition = (no_expressions); loop = None; register = None; vars = (no_parts); notify = ((codes "a") ∷ []); changed_when = None; failed_when = None; attempts = None; ignore_errors = None }); name = (Some (codes "b")); topics = ([]) } ∷ []); forces = false } ∷ []))
book_84 = refl

book_85 : book_from (builtins ++ ([])) (list (item (rec (field (codes "handlers") (list (item (rec (field (codes "name") (text (codes "a")) (field (codes "ping") null (no_fields)))) (no_items))) (field (codes "hosts") (text (codes "all")) (field (codes "tasks") (list (no_items)) (no_fields))))) (item (rec (field (codes "handlers") (list (item (rec (field (codes "name") (text (codes "a")) (field (codes "ping") null (no_fields)))) (no_items))) (field (codes "hosts") (text (codes "all")) (field (codes "tasks") (list (no_items)) (no_fields))))) (no_items)))) ≡ Ok ((record { line = 1; pattern = ((codes "all") ∷ []); gathering = None; vars = (no_parts); is_linear = true; serial = ([]); pre_tasks = (no_steps); tasks = (no_steps); post_tasks = (no_steps); handlers = (record { work = (record { line = 2; work = (module_work (codes "ping") (no_parts)); condition = (no_expressions); loop = None; register = None; vars = (no_parts); notify = ([]); changed_when = None; failed_when = None; attempts = None; ignore_errors = None }); name = (Some (codes "a")); topics = ([]) } ∷ []); forces = false } ∷ record { line = 3; pattern = ((codes "all") ∷ []); gathering = None; vars = (no_parts); is_linear = true; serial = ([]); pre_tasks = (no_steps); tasks = (no_steps); post_tasks = (no_steps); handlers = (record { work = (record { line = 4; work = (module_work (codes "ping") (no_parts)); condition = (no_expressions); loop = None; register = None; vars = (no_parts); notify = ([]); changed_when = None; failed_when = None; attempts = None; ignore_errors = None }); name = (Some (codes "a")); topics = ([]) } ∷ []); forces = false } ∷ []))
book_85 = refl

book_86 : book_from (builtins ++ ([])) (list (item (rec (field (codes "handlers") (list (item (rec (field (codes "name") (text (codes "b")) (field (codes "ping") null (no_fields)))) (no_items))) (field (codes "hosts") (text (codes "all")) (field (codes "tasks") (list (item (rec (field (codes "notify") (text (codes "b")) (field (codes "ping") null (no_fields)))) (item (rec (field (codes "meta") (text (codes "flush_handlers")) (no_fields))) (item (rec (field (codes "notify") (text (codes "b")) (field (codes "ping") null (no_fields)))) (no_items))))) (no_fields))))) (no_items))) ≡ Ok ((record { line = 1; pattern = ((codes "all") ∷ []); gathering = None; vars = (no_parts); is_linear = true; serial = ([]); pre_tasks = (no_steps); tasks = (task_step (record { line = 2; work = (module_work (codes "ping") (no_parts)); condition = (no_expressions); loop = None; register = None; vars = (no_parts); notify = ((codes "b") ∷ []); changed_when = None; failed_when = None; attempts = None; ignore_errors = None }) (flush_step 3 (task_step (record { line = 4; work = (module_work (codes "ping") (no_parts)); condition = (no_expressions); loop = None; register = None; vars = (no_parts); notify = ((codes "b") ∷ []); changed_when = None; failed_when = None; attempts = None; ignore_errors = None }) (no_steps)))); post_tasks = (no_steps); handlers = (record { work = (record { line = 5; work = (module_work (codes "ping") (no_parts)); condition = (no_expressions); loop = None; register = None; vars = (no_parts); notify = ([]); changed_when = None; failed_when = None; attempts = None; ignore_errors = None }); name = (Some (codes "b")); topics = ([]) } ∷ []); forces = false } ∷ []))
book_86 = refl

book_87 : book_from (builtins ++ ([])) (list (item (rec (field (codes "handlers") (list (item (rec (field (codes "name") (text (codes "h0")) (field (codes "ping") null (field (codes "register") (text (codes "s")) (field (codes "retries") (int (pos 1)) (field (codes "until") (text (codes "s is succeeded")) (no_fields))))))) (item (rec (field (codes "failed_when") (text (codes "zz.changed")) (field (codes "ignore_errors") (boolean false) (field (codes "name") (text (codes "h1")) (field (codes "ping") null (no_fields)))))) (no_items)))) (field (codes "hosts") (text (codes "all")) (field (codes "strategy") (text (codes "free")) (field (codes "tasks") (list (item (rec (field (codes "debug") (rec (field (codes "msg") (list (item null (no_items))) (no_fields))) (field (codes "loop") (list (no_items)) (field (codes "register") (text (codes "s")) (no_fields))))) (no_items))) (field (codes "vars") (rec (field (codes "v1") (text (123 ∷ 123 ∷ 32 ∷ 104 ∷ 111 ∷ 115 ∷ 116 ∷ 118 ∷ 97 ∷ 114 ∷ 115 ∷ 91 ∷ 105 ∷ 116 ∷ 101 ∷ 109 ∷ 93 ∷ 46 ∷ 111 ∷ 112 ∷ 113 ∷ 46 ∷ 115 ∷ 116 ∷ 97 ∷ 116 ∷ 46 ∷ 105 ∷ 115 ∷ 100 ∷ 105 ∷ 114 ∷ 32 ∷ 124 ∷ 32 ∷ 108 ∷ 101 ∷ 110 ∷ 103 ∷ 116 ∷ 104 ∷ 32 ∷ 125 ∷ 125 ∷ [])) (no_fields))) (no_fields))))))) (no_items))) ≡ Ok ((record { line = 1; pattern = ((codes "all") ∷ []); gathering = None; vars = (part (codes "v1") (length_of (path (other item_host (codes "opq")) ((codes "stat") ∷ (codes "isdir") ∷ []))) (no_parts)); is_linear = false; serial = ([]); pre_tasks = (no_steps); tasks = (task_step (record { line = 2; work = (debug_work (part (codes "msg") (literal (list (item null (no_items)))) (no_parts))); condition = (no_expressions); loop = (Some (literal (list (no_items)))); register = (Some (codes "s")); vars = (no_parts); notify = ([]); changed_when = None; failed_when = None; attempts = None; ignore_errors = None }) (no_steps)); post_tasks = (no_steps); handlers = (record { work = (record { line = 3; work = (module_work (codes "ping") (no_parts)); condition = (no_expressions); loop = None; register = (Some (codes "s")); vars = (no_parts); notify = ([]); changed_when = None; failed_when = None; attempts = (Some (record { until = (expression (negation (path_status is_failed (variable (codes "s")) ([]))) (no_expressions)); retries = 1 })); ignore_errors = None }); name = (Some (codes "h0")); topics = ([]) } ∷ record { work = (record { line = 4; work = (module_work (codes "ping") (no_parts)); condition = (no_expressions); loop = None; register = None; vars = (no_parts); notify = ([]); changed_when = None; failed_when = (Some (expression (path (variable (codes "zz")) ((codes "changed") ∷ [])) (no_expressions))); attempts = None; ignore_errors = (Some false) }); name = (Some (codes "h1")); topics = ([]) } ∷ []); forces = false } ∷ []))
book_87 = refl

book_88 : book_from (builtins ++ ([])) (list (item (rec (field (codes "handlers") (list (item (rec (field (codes "name") (text (codes "h0")) (field (codes "ping") null (no_fields)))) (item (rec (field (codes "name") (text (codes "h1")) (field (codes "ping") null (no_fields)))) (item (rec (field (codes "name") (text (codes "h2")) (field (codes "ping") null (no_fields)))) (item (rec (field (codes "name") (text (codes "h3")) (field (codes "ping") null (no_fields)))) (item (rec (field (codes "name") (text (codes "h4")) (field (codes "ping") null (no_fields)))) (item (rec (field (codes "name") (text (codes "h5")) (field (codes "ping") null (no_fields)))) (item (rec (field (codes "name") (text (codes "h6")) (field (codes "ping") null (no_fields)))) (item (rec (field (codes "name") (text (codes "h7")) (field (codes "ping") null (no_fields)))) (item (rec (field (codes "name") (text (codes "h8")) (field (codes "ping") null (no_fields)))) (item (rec (field (codes "name") (text (codes "h9")) (field (codes "ping") null (no_fields)))) (item (rec (field (codes "name") (text (codes "h10")) (field (codes "ping") null (no_fields)))) (item (rec (field (codes "name") (text (codes "h11")) (field (codes "ping") null (no_fields)))) (item (rec (field (codes "name") (text (codes "h12")) (field (codes "ping") null (no_fields)))) (item (rec (field (codes "name") (text (codes "h13")) (field (codes "ping") null (no_fields)))) (item (rec (field (codes "name") (text (codes "h14")) (field (codes "ping") null (no_fields)))) (item (rec (field (codes "name") (text (codes "h15")) (field (codes "ping") null (no_fields)))) (item (rec (field (codes "name") (text (codes "h16")) (field (codes "ping") null (no_fields)))) (item (rec (field (codes "name") (text (codes "h17")) (field (codes "ping") null (no_fields)))) (item (rec (field (codes "name") (text (codes "h18")) (field (codes "ping") null (no_fields)))) (item (rec (field (codes "name") (text (codes "h19")) (field (codes "ping") null (no_fields)))) (item (rec (field (codes "name") (text (codes "h20")) (field (codes "ping") null (no_fields)))) (item (rec (field (codes "name") (text (codes "h21")) (field (codes "ping") null (no_fields)))) (item (rec (field (codes "name") (text (codes "h22")) (field (codes "ping") null (no_fields)))) (item (rec (field (codes "name") (text (codes "h23")) (field (codes "ping") null (no_fields)))) (item (rec (field (codes "name") (text (codes "h24")) (field (codes "ping") null (no_fields)))) (item (rec (field (codes "name") (text (codes "h25")) (field (codes "ping") null (no_fields)))) (item (rec (field (codes "name") (text (codes "h26")) (field (codes "ping") null (no_fields)))) (item (rec (field (codes "name") (text (codes "h27")) (field (codes "ping") null (no_fields)))) (item (rec (field (codes "name") (text (codes "h28")) (field (codes "ping") null (no_fields)))) (item (rec (field (codes "name") (text (codes "h29")) (field (codes "ping") null (no_fields)))) (item (rec (field (codes "name") (text (codes "h30")) (field (codes "ping") null (no_fields)))) (item (rec (field (codes "name") (text (codes "h31")) (field (codes "ping") null (no_fields)))) (item (rec (field (codes "name") (text (codes "h32")) (field (codes "ping") null (no_fields)))) (item (rec (field (codes "name") (text (codes "h33")) (field (codes "ping") null (no_fields)))) (item (rec (field (codes "name") (text (codes "h34")) (field (codes "ping") null (no_fields)))) (item (rec (field (codes "name") (text (codes "h35")) (field (codes "ping") null (no_fields)))) (item (rec (field (codes "name") (text (codes "h36")) (field (codes "ping") null (no_fields)))) (item (rec (field (codes "name") (text (codes "h37")) (field (codes "ping") null (no_fields)))) (item (rec (field (codes "name") (text (codes "h38")) (field (codes "ping") null (no_fields)))) (item (rec (field (codes "name") (text (codes "h39")) (field (codes "ping") null (no_fields)))) (item (rec (field (codes "name") (text (codes "h40")) (field (codes "ping") null (no_fields)))) (item (rec (field (codes "name") (text (codes "h41")) (field (codes "ping") null (no_fields)))) (item (rec (field (codes "name") (text (codes "h42")) (field (codes "ping") null (no_fields)))) (item (rec (field (codes "name") (text (codes "h43")) (field (codes "ping") null (no_fields)))) (item (rec (field (codes "name") (text (codes "h44")) (field (codes "ping") null (no_fields)))) (item (rec (field (codes "name") (text (codes "h45")) (field (codes "ping") null (no_fields)))) (item (rec (field (codes "name") (text (codes "h46")) (field (codes "ping") null (no_fields)))) (item (rec (field (codes "name") (text (codes "h47")) (field (codes "ping") null (no_fields)))) (item (rec (field (codes "name") (text (codes "h48")) (field (codes "ping") null (no_fields)))) (item (rec (field (codes "name") (text (codes "h49")) (field (codes "ping") null (no_fields)))) (item (rec (field (codes "name") (text (codes "h50")) (field (codes "ping") null (no_fields)))) (item (rec (field (codes "name") (text (codes "h51")) (field (codes "ping") null (no_fields)))) (item (rec (field (codes "name") (text (codes "h52")) (field (codes "ping") null (no_fields)))) (item (rec (field (codes "name") (text (codes "h53")) (field (codes "ping") null (no_fields)))) (item (rec (field (codes "name") (text (codes "h54")) (field (codes "ping") null (no_fields)))) (item (rec (field (codes "name") (text (codes "h55")) (field (codes "ping") null (no_fields)))) (item (rec (field (codes "name") (text (codes "h56")) (field (codes "ping") null (no_fields)))) (item (rec (field (codes "name") (text (codes "h57")) (field (codes "ping") null (no_fields)))) (item (rec (field (codes "name") (text (codes "h58")) (field (codes "ping") null (no_fields)))) (item (rec (field (codes "name") (text (codes "h59")) (field (codes "ping") null (no_fields)))) (item (rec (field (codes "name") (text (codes "h60")) (field (codes "ping") null (no_fields)))) (item (rec (field (codes "name") (text (codes "h61")) (field (codes "ping") null (no_fields)))) (item (rec (field (codes "name") (text (codes "h62")) (field (codes "ping") null (no_fields)))) (item (rec (field (codes "name") (text (codes "h63")) (field (codes "ping") null (no_fields)))) (item (rec (field (codes "name") (text (codes "h64")) (field (codes "ping") null (no_fields)))) (item (rec (field (codes "name") (text (codes "h65")) (field (codes "ping") null (no_fields)))) (item (rec (field (codes "name") (text (codes "h66")) (field (codes "ping") null (no_fields)))) (item (rec (field (codes "name") (text (codes "h67")) (field (codes "ping") null (no_fields)))) (item (rec (field (codes "name") (text (codes "h68")) (field (codes "ping") null (no_fields)))) (item (rec (field (codes "name") (text (codes "h69")) (field (codes "ping") null (no_fields)))) (item (rec (field (codes "name") (text (codes "h70")) (field (codes "ping") null (no_fields)))) (item (rec (field (codes "name") (text (codes "h71")) (field (codes "ping") null (no_fields)))) (item (rec (field (codes "name") (text (codes "h72")) (field (codes "ping") null (no_fields)))) (item (rec (field (codes "name") (text (codes "h73")) (field (codes "ping") null (no_fields)))) (item (rec (field (codes "name") (text (codes "h74")) (field (codes "ping") null (no_fields)))) (item (rec (field (codes "name") (text (codes "h75")) (field (codes "ping") null (no_fields)))) (item (rec (field (codes "name") (text (codes "h76")) (field (codes "ping") null (no_fields)))) (item (rec (field (codes "name") (text (codes "h77")) (field (codes "ping") null (no_fields)))) (item (rec (field (codes "name") (text (codes "h78")) (field (codes "ping") null (no_fields)))) (item (rec (field (codes "name") (text (codes "h79")) (field (codes "ping") null (no_fields)))) (item (rec (field (codes "name") (text (codes "h80")) (field (codes "ping") null (no_fields)))) (item (rec (field (codes "name") (text (codes "h81")) (field (codes "ping") null (no_fields)))) (item (rec (field (codes "name") (text (codes "h82")) (field (codes "ping") null (no_fields)))) (item (rec (field (codes "name") (text (codes "h83")) (field (codes "ping") null (no_fields)))) (item (rec (field (codes "name") (text (codes "h84")) (field (codes "ping") null (no_fields)))) (item (rec (field (codes "name") (text (codes "h85")) (field (codes "ping") null (no_fields)))) (item (rec (field (codes "name") (text (codes "h86")) (field (codes "ping") null (no_fields)))) (item (rec (field (codes "name") (text (codes "h87")) (field (codes "ping") null (no_fields)))) (item (rec (field (codes "name") (text (codes "h88")) (field (codes "ping") null (no_fields)))) (item (rec (field (codes "name") (text (codes "h89")) (field (codes "ping") null (no_fields)))) (item (rec (field (codes "name") (text (codes "h90")) (field (codes "ping") null (no_fields)))) (item (rec (field (codes "name") (text (codes "h91")) (field (codes "ping") null (no_fields)))) (item (rec (field (codes "name") (text (codes "h92")) (field (codes "ping") null (no_fields)))) (item (rec (field (codes "name") (text (codes "h93")) (field (codes "ping") null (no_fields)))) (item (rec (field (codes "name") (text (codes "h94")) (field (codes "ping") null (no_fields)))) (item (rec (field (codes "name") (text (codes "h95")) (field (codes "ping") null (no_fields)))) (item (rec (field (codes "name") (text (codes "h96")) (field (codes "ping") null (no_fields)))) (item (rec (field (codes "name") (text (codes "h97")) (field (codes "ping") null (no_fields)))) (item (rec (field (codes "name") (text (codes "h98")) (field (codes "ping") null (no_fields)))) (item (rec (field (codes "name") (text (codes "h99")) (field (codes "ping") null (no_fields)))) (item (rec (field (codes "name") (text (codes "h100")) (field (codes "ping") null (no_fields)))) (item (rec (field (codes "name") (text (codes "h101")) (field (codes "ping") null (no_fields)))) (item (rec (field (codes "name") (text (codes "h102")) (field (codes "ping") null (no_fields)))) (item (rec (field (codes "name") (text (codes "h103")) (field (codes "ping") null (no_fields)))) (item (rec (field (codes "name") (text (codes "h104")) (field (codes "ping") null (no_fields)))) (item (rec (field (codes "name") (text (codes "h105")) (field (codes "ping") null (no_fields)))) (item (rec (field (codes "name") (text (codes "h106")) (field (codes "ping") null (no_fields)))) (item (rec (field (codes "name") (text (codes "h107")) (field (codes "ping") null (no_fields)))) (item (rec (field (codes "name") (text (codes "h108")) (field (codes "ping") null (no_fields)))) (item (rec (field (codes "name") (text (codes "h109")) (field (codes "ping") null (no_fields)))) (item (rec (field (codes "name") (text (codes "h110")) (field (codes "ping") null (no_fields)))) (item (rec (field (codes "name") (text (codes "h111")) (field (codes "ping") null (no_fields)))) (item (rec (field (codes "name") (text (codes "h112")) (field (codes "ping") null (no_fields)))) (item (rec (field (codes "name") (text (codes "h113")) (field (codes "ping") null (no_fields)))) (item (rec (field (codes "name") (text (codes "h114")) (field (codes "ping") null (no_fields)))) (item (rec (field (codes "name") (text (codes "h115")) (field (codes "ping") null (no_fields)))) (item (rec (field (codes "name") (text (codes "h116")) (field (codes "ping") null (no_fields)))) (item (rec (field (codes "name") (text (codes "h117")) (field (codes "ping") null (no_fields)))) (item (rec (field (codes "name") (text (codes "h118")) (field (codes "ping") null (no_fields)))) (item (rec (field (codes "name") (text (codes "h119")) (field (codes "ping") null (no_fields)))) (item (rec (field (codes "name") (text (codes "h120")) (field (codes "ping") null (no_fields)))) (item (rec (field (codes "name") (text (codes "h121")) (field (codes "ping") null (no_fields)))) (item (rec (field (codes "name") (text (codes "h122")) (field (codes "ping") null (no_fields)))) (item (rec (field (codes "name") (text (codes "h123")) (field (codes "ping") null (no_fields)))) (item (rec (field (codes "name") (text (codes "h124")) (field (codes "ping") null (no_fields)))) (item (rec (field (codes "name") (text (codes "h125")) (field (codes "ping") null (no_fields)))) (item (rec (field (codes "name") (text (codes "h126")) (field (codes "ping") null (no_fields)))) (item (rec (field (codes "name") (text (codes "h127")) (field (codes "ping") null (no_fields)))) (item (rec (field (codes "name") (text (codes "h128")) (field (codes "ping") null (no_fields)))) (item (rec (field (codes "name") (text (codes "h129")) (field (codes "ping") null (no_fields)))) (item (rec (field (codes "name") (text (codes "h130")) (field (codes "ping") null (no_fields)))) (item (rec (field (codes "name") (text (codes "h131")) (field (codes "ping") null (no_fields)))) (item (rec (field (codes "name") (text (codes "h132")) (field (codes "ping") null (no_fields)))) (item (rec (field (codes "name") (text (codes "h133")) (field (codes "ping") null (no_fields)))) (item (rec (field (codes "name") (text (codes "h134")) (field (codes "ping") null (no_fields)))) (item (rec (field (codes "name") (text (codes "h135")) (field (codes "ping") null (no_fields)))) (item (rec (field (codes "name") (text (codes "h136")) (field (codes "ping") null (no_fields)))) (item (rec (field (codes "name") (text (codes "h137")) (field (codes "ping") null (no_fields)))) (item (rec (field (codes "name") (text (codes "h138")) (field (codes "ping") null (no_fields)))) (item (rec (field (codes "name") (text (codes "h139")) (field (codes "ping") null (no_fields)))) (item (rec (field (codes "name") (text (codes "h140")) (field (codes "ping") null (no_fields)))) (item (rec (field (codes "name") (text (codes "h141")) (field (codes "ping") null (no_fields)))) (item (rec (field (codes "name") (text (codes "h142")) (field (codes "ping") null (no_fields)))) (item (rec (field (codes "name") (text (codes "h143")) (field (codes "ping") null (no_fields)))) (item (rec (field (codes "name") (text (codes "h144")) (field (codes "ping") null (no_fields)))) (item (rec (field (codes "name") (text (codes "h145")) (field (codes "ping") null (no_fields)))) (item (rec (field (codes "name") (text (codes "h146")) (field (codes "ping") null (no_fields)))) (item (rec (field (codes "name") (text (codes "h147")) (field (codes "ping") null (no_fields)))) (item (rec (field (codes "name") (text (codes "h148")) (field (codes "ping") null (no_fields)))) (item (rec (field (codes "name") (text (codes "h149")) (field (codes "ping") null (no_fields)))) (item (rec (field (codes "name") (text (codes "h150")) (field (codes "ping") null (no_fields)))) (item (rec (field (codes "name") (text (codes "h151")) (field (codes "ping") null (no_fields)))) (item (rec (field (codes "name") (text (codes "h152")) (field (codes "ping") null (no_fields)))) (item (rec (field (codes "name") (text (codes "h153")) (field (codes "ping") null (no_fields)))) (item (rec (field (codes "name") (text (codes "h154")) (field (codes "ping") null (no_fields)))) (item (rec (field (codes "name") (text (codes "h155")) (field (codes "ping") null (no_fields)))) (item (rec (field (codes "name") (text (codes "h156")) (field (codes "ping") null (no_fields)))) (item (rec (field (codes "name") (text (codes "h157")) (field (codes "ping") null (no_fields)))) (item (rec (field (codes "name") (text (codes "h158")) (field (codes "ping") null (no_fields)))) (item (rec (field (codes "name") (text (codes "h159")) (field (codes "ping") null (no_fields)))) (item (rec (field (codes "name") (text (codes "h160")) (field (codes "ping") null (no_fields)))) (item (rec (field (codes "name") (text (codes "h161")) (field (codes "ping") null (no_fields)))) (item (rec (field (codes "name") (text (codes "h162")) (field (codes "ping") null (no_fields)))) (item (rec (field (codes "name") (text (codes "h163")) (field (codes "ping") null (no_fields)))) (item (rec (field (codes "name") (text (codes "h164")) (field (codes "ping") null (no_fields)))) (item (rec (field (codes "name") (text (codes "h165")) (field (codes "ping") null (no_fields)))) (item (rec (field (codes "name") (text (codes "h166")) (field (codes "ping") null (no_fields)))) (item (rec (field (codes "name") (text (codes "h167")) (field (codes "ping") null (no_fields)))) (item (rec (field (codes "name") (text (codes "h168")) (field (codes "ping") null (no_fields)))) (item (rec (field (codes "name") (text (codes "h169")) (field (codes "ping") null (no_fields)))) (item (rec (field (codes "name") (text (codes "h170")) (field (codes "ping") null (no_fields)))) (item (rec (field (codes "name") (text (codes "h171")) (field (codes "ping") null (no_fields)))) (item (rec (field (codes "name") (text (codes "h172")) (field (codes "ping") null (no_fields)))) (item (rec (field (codes "name") (text (codes "h173")) (field (codes "ping") null (no_fields)))) (item (rec (field (codes "name") (text (codes "h174")) (field (codes "ping") null (no_fields)))) (item (rec (field (codes "name") (text (codes "h175")) (field (codes "ping") null (no_fields)))) (item (rec (field (codes "name") (text (codes "h176")) (field (codes "ping") null (no_fields)))) (item (rec (field (codes "name") (text (codes "h177")) (field (codes "ping") null (no_fields)))) (item (rec (field (codes "name") (text (codes "h178")) (field (codes "ping") null (no_fields)))) (item (rec (field (codes "name") (text (codes "h179")) (field (codes "ping") null (no_fields)))) (item (rec (field (codes "name") (text (codes "h180")) (field (codes "ping") null (no_fields)))) (item (rec (field (codes "name") (text (codes "h181")) (field (codes "ping") null (no_fields)))) (item (rec (field (codes "name") (text (codes "h182")) (field (codes "ping") null (no_fields)))) (item (rec (field (codes "name") (text (codes "h183")) (field (codes "ping") null (no_fields)))) (item (rec (field (codes "name") (text (codes "h184")) (field (codes "ping") null (no_fields)))) (item (rec (field (codes "name") (text (codes "h185")) (field (codes "ping") null (no_fields)))) (item (rec (field (codes "name") (text (codes "h186")) (field (codes "ping") null (no_fields)))) (item (rec (field (codes "name") (text (codes "h187")) (field (codes "ping") null (no_fields)))) (item (rec (field (codes "name") (text (codes "h188")) (field (codes "ping") null (no_fields)))) (item (rec (field (codes "name") (text (codes "h189")) (field (codes "ping") null (no_fields)))) (item (rec (field (codes "name") (text (codes "h190")) (field (codes "ping") null (no_fields)))) (item (rec (field (codes "name") (text (codes "h191")) (field (codes "ping") null (no_fields)))) (item (rec (field (codes "name") (text (codes "h192")) (field (codes "ping") null (no_fields)))) (item (rec (field (codes "name") (text (codes "h193")) (field (codes "ping") null (no_fields)))) (item (rec (field (codes "name") (text (codes "h194")) (field (codes "ping") null (no_fields)))) (item (rec (field (codes "name") (text (codes "h195")) (field (codes "ping") null (no_fields)))) (item (rec (field (codes "name") (text (codes "h196")) (field (codes "ping") null (no_fields)))) (item (rec (field (codes "name") (text (codes "h197")) (field (codes "ping") null (no_fields)))) (item (rec (field (codes "name") (text (codes "h198")) (field (codes "ping") null (no_fields)))) (item (rec (field (codes "name") (text (codes "h199")) (field (codes "ping") null (no_fields)))) (item (rec (field (codes "name") (text (codes "h200")) (field (codes "ping") null (no_fields)))) (item (rec (field (codes "name") (text (codes "h201")) (field (codes "ping") null (no_fields)))) (item (rec (field (codes "name") (text (codes "h202")) (field (codes "ping") null (no_fields)))) (item (rec (field (codes "name") (text (codes "h203")) (field (codes "ping") null (no_fields)))) (item (rec (field (codes "name") (text (codes "h204")) (field (codes "ping") null (no_fields)))) (item (rec (field (codes "name") (text (codes "h205")) (field (codes "ping") null (no_fields)))) (item (rec (field (codes "name") (text (codes "h206")) (field (codes "ping") null (no_fields)))) (item (rec (field (codes "name") (text (codes "h207")) (field (codes "ping") null (no_fields)))) (item (rec (field (codes "name") (text (codes "h208")) (field (codes "ping") null (no_fields)))) (item (rec (field (codes "name") (text (codes "h209")) (field (codes "ping") null (no_fields)))) (item (rec (field (codes "name") (text (codes "h210")) (field (codes "ping") null (no_fields)))) (item (rec (field (codes "name") (text (codes "h211")) (field (codes "ping") null (no_fields)))) (item (rec (field (codes "name") (text (codes "h212")) (field (codes "ping") null (no_fields)))) (item (rec (field (codes "name") (text (codes "h213")) (field (codes "ping") null (no_fields)))) (item (rec (field (codes "name") (text (codes "h214")) (field (codes "ping") null (no_fields)))) (item (rec (field (codes "name") (text (codes "h215")) (field (codes "ping") null (no_fields)))) (item (rec (field (codes "name") (text (codes "h216")) (field (codes "ping") null (no_fields)))) (item (rec (field (codes "name") (text (codes "h217")) (field (codes "ping") null (no_fields)))) (item (rec (field (codes "name") (text (codes "h218")) (field (codes "ping") null (no_fields)))) (item (rec (field (codes "name") (text (codes "h219")) (field (codes "ping") null (no_fields)))) (item (rec (field (codes "name") (text (codes "h220")) (field (codes "ping") null (no_fields)))) (item (rec (field (codes "name") (text (codes "h221")) (field (codes "ping") null (no_fields)))) (item (rec (field (codes "name") (text (codes "h222")) (field (codes "ping") null (no_fields)))) (item (rec (field (codes "name") (text (codes "h223")) (field (codes "ping") null (no_fields)))) (item (rec (field (codes "name") (text (codes "h224")) (field (codes "ping") null (no_fields)))) (item (rec (field (codes "name") (text (codes "h225")) (field (codes "ping") null (no_fields)))) (item (rec (field (codes "name") (text (codes "h226")) (field (codes "ping") null (no_fields)))) (item (rec (field (codes "name") (text (codes "h227")) (field (codes "ping") null (no_fields)))) (item (rec (field (codes "name") (text (codes "h228")) (field (codes "ping") null (no_fields)))) (item (rec (field (codes "name") (text (codes "h229")) (field (codes "ping") null (no_fields)))) (item (rec (field (codes "name") (text (codes "h230")) (field (codes "ping") null (no_fields)))) (item (rec (field (codes "name") (text (codes "h231")) (field (codes "ping") null (no_fields)))) (item (rec (field (codes "name") (text (codes "h232")) (field (codes "ping") null (no_fields)))) (item (rec (field (codes "name") (text (codes "h233")) (field (codes "ping") null (no_fields)))) (item (rec (field (codes "name") (text (codes "h234")) (field (codes "ping") null (no_fields)))) (item (rec (field (codes "name") (text (codes "h235")) (field (codes "ping") null (no_fields)))) (item (rec (field (codes "name") (text (codes "h236")) (field (codes "ping") null (no_fields)))) (item (rec (field (codes "name") (text (codes "h237")) (field (codes "ping") null (no_fields)))) (item (rec (field (codes "name") (text (codes "h238")) (field (codes "ping") null (no_fields)))) (item (rec (field (codes "name") (text (codes "h239")) (field (codes "ping") null (no_fields)))) (item (rec (field (codes "name") (text (codes "h240")) (field (codes "ping") null (no_fields)))) (item (rec (field (codes "name") (text (codes "h241")) (field (codes "ping") null (no_fields)))) (item (rec (field (codes "name") (text (codes "h242")) (field (codes "ping") null (no_fields)))) (item (rec (field (codes "name") (text (codes "h243")) (field (codes "ping") null (no_fields)))) (item (rec (field (codes "name") (text (codes "h244")) (field (codes "ping") null (no_fields)))) (item (rec (field (codes "name") (text (codes "h245")) (field (codes "ping") null (no_fields)))) (item (rec (field (codes "name") (text (codes "h246")) (field (codes "ping") null (no_fields)))) (item (rec (field (codes "name") (text (codes "h247")) (field (codes "ping") null (no_fields)))) (item (rec (field (codes "name") (text (codes "h248")) (field (codes "ping") null (no_fields)))) (item (rec (field (codes "name") (text (codes "h249")) (field (codes "ping") null (no_fields)))) (item (rec (field (codes "name") (text (codes "h250")) (field (codes "ping") null (no_fields)))) (item (rec (field (codes "name") (text (codes "h251")) (field (codes "ping") null (no_fields)))) (item (rec (field (codes "name") (text (codes "h252")) (field (codes "ping") null (no_fields)))) (item (rec (field (codes "name") (text (codes "h253")) (field (codes "ping") null (no_fields)))) (item (rec (field (codes "name") (text (codes "h254")) (field (codes "ping") null (no_fields)))) (item (rec (field (codes "name") (text (codes "h255")) (field (codes "ping") null (no_fields)))) (item (rec (field (codes "name") (text (codes "h256")) (field (codes "ping") null (no_fields)))) (no_items))))))))))))))))))))))))))))))))))))))))))))))))))))))))))))))))))))))))))))))))))))))))))))))))))))))))))))))))))))))))))))))))))))))))))))))))))))))))))))))))))))))))))))))))))))))))))))))))))))))))))))))))))))))))))))))))))))))))))))))))))))))))))))))))))) (field (codes "hosts") (text (codes "all")) (no_fields)))) (no_items))) ≡ Err (record { line = 258; code = 8 })
book_88 = refl

book_89 : book_from (builtins ++ ([])) (list (item (rec (field (codes "handlers") (list (item (rec (field (codes "name") (text (codes "h0")) (field (codes "ping") null (no_fields)))) (item (rec (field (codes "name") (text (codes "h1")) (field (codes "ping") null (no_fields)))) (item (rec (field (codes "name") (text (codes "h2")) (field (codes "ping") null (no_fields)))) (item (rec (field (codes "name") (text (codes "h3")) (field (codes "ping") null (no_fields)))) (item (rec (field (codes "name") (text (codes "h4")) (field (codes "ping") null (no_fields)))) (item (rec (field (codes "name") (text (codes "h5")) (field (codes "ping") null (no_fields)))) (item (rec (field (codes "name") (text (codes "h6")) (field (codes "ping") null (no_fields)))) (item (rec (field (codes "name") (text (codes "h7")) (field (codes "ping") null (no_fields)))) (item (rec (field (codes "name") (text (codes "h8")) (field (codes "ping") null (no_fields)))) (item (rec (field (codes "name") (text (codes "h9")) (field (codes "ping") null (no_fields)))) (item (rec (field (codes "name") (text (codes "h10")) (field (codes "ping") null (no_fields)))) (item (rec (field (codes "name") (text (codes "h11")) (field (codes "ping") null (no_fields)))) (item (rec (field (codes "name") (text (codes "h12")) (field (codes "ping") null (no_fields)))) (item (rec (field (codes "name") (text (codes "h13")) (field (codes "ping") null (no_fields)))) (item (rec (field (codes "name") (text (codes "h14")) (field (codes "ping") null (no_fields)))) (item (rec (field (codes "name") (text (codes "h15")) (field (codes "ping") null (no_fields)))) (item (rec (field (codes "name") (text (codes "h16")) (field (codes "ping") null (no_fields)))) (item (rec (field (codes "name") (text (codes "h17")) (field (codes "ping") null (no_fields)))) (item (rec (field (codes "name") (text (codes "h18")) (field (codes "ping") null (no_fields)))) (item (rec (field (codes "name") (text (codes "h19")) (field (codes "ping") null (no_fields)))) (item (rec (field (codes "name") (text (codes "h20")) (field (codes "ping") null (no_fields)))) (item (rec (field (codes "name") (text (codes "h21")) (field (codes "ping") null (no_fields)))) (item (rec (field (codes "name") (text (codes "h22")) (field (codes "ping") null (no_fields)))) (item (rec (field (codes "name") (text (codes "h23")) (field (codes "ping") null (no_fields)))) (item (rec (field (codes "name") (text (codes "h24")) (field (codes "ping") null (no_fields)))) (item (rec (field (codes "name") (text (codes "h25")) (field (codes "ping") null (no_fields)))) (item (rec (field (codes "name") (text (codes "h26")) (field (codes "ping") null (no_fields)))) (item (rec (field (codes "name") (text (codes "h27")) (field (codes "ping") null (no_fields)))) (item (rec (field (codes "name") (text (codes "h28")) (field (codes "ping") null (no_fields)))) (item (rec (field (codes "name") (text (codes "h29")) (field (codes "ping") null (no_fields)))) (item (rec (field (codes "name") (text (codes "h30")) (field (codes "ping") null (no_fields)))) (item (rec (field (codes "name") (text (codes "h31")) (field (codes "ping") null (no_fields)))) (item (rec (field (codes "name") (text (codes "h32")) (field (codes "ping") null (no_fields)))) (item (rec (field (codes "name") (text (codes "h33")) (field (codes "ping") null (no_fields)))) (item (rec (field (codes "name") (text (codes "h34")) (field (codes "ping") null (no_fields)))) (item (rec (field (codes "name") (text (codes "h35")) (field (codes "ping") null (no_fields)))) (item (rec (field (codes "name") (text (codes "h36")) (field (codes "ping") null (no_fields)))) (item (rec (field (codes "name") (text (codes "h37")) (field (codes "ping") null (no_fields)))) (item (rec (field (codes "name") (text (codes "h38")) (field (codes "ping") null (no_fields)))) (item (rec (field (codes "name") (text (codes "h39")) (field (codes "ping") null (no_fields)))) (item (rec (field (codes "name") (text (codes "h40")) (field (codes "ping") null (no_fields)))) (item (rec (field (codes "name") (text (codes "h41")) (field (codes "ping") null (no_fields)))) (item (rec (field (codes "name") (text (codes "h42")) (field (codes "ping") null (no_fields)))) (item (rec (field (codes "name") (text (codes "h43")) (field (codes "ping") null (no_fields)))) (item (rec (field (codes "name") (text (codes "h44")) (field (codes "ping") null (no_fields)))) (item (rec (field (codes "name") (text (codes "h45")) (field (codes "ping") null (no_fields)))) (item (rec (field (codes "name") (text (codes "h46")) (field (codes "ping") null (no_fields)))) (item (rec (field (codes "name") (text (codes "h47")) (field (codes "ping") null (no_fields)))) (item (rec (field (codes "name") (text (codes "h48")) (field (codes "ping") null (no_fields)))) (item (rec (field (codes "name") (text (codes "h49")) (field (codes "ping") null (no_fields)))) (item (rec (field (codes "name") (text (codes "h50")) (field (codes "ping") null (no_fields)))) (item (rec (field (codes "name") (text (codes "h51")) (field (codes "ping") null (no_fields)))) (item (rec (field (codes "name") (text (codes "h52")) (field (codes "ping") null (no_fields)))) (item (rec (field (codes "name") (text (codes "h53")) (field (codes "ping") null (no_fields)))) (item (rec (field (codes "name") (text (codes "h54")) (field (codes "ping") null (no_fields)))) (item (rec (field (codes "name") (text (codes "h55")) (field (codes "ping") null (no_fields)))) (item (rec (field (codes "name") (text (codes "h56")) (field (codes "ping") null (no_fields)))) (item (rec (field (codes "name") (text (codes "h57")) (field (codes "ping") null (no_fields)))) (item (rec (field (codes "name") (text (codes "h58")) (field (codes "ping") null (no_fields)))) (item (rec (field (codes "name") (text (codes "h59")) (field (codes "ping") null (no_fields)))) (item (rec (field (codes "name") (text (codes "h60")) (field (codes "ping") null (no_fields)))) (item (rec (field (codes "name") (text (codes "h61")) (field (codes "ping") null (no_fields)))) (item (rec (field (codes "name") (text (codes "h62")) (field (codes "ping") null (no_fields)))) (item (rec (field (codes "name") (text (codes "h63")) (field (codes "ping") null (no_fields)))) (item (rec (field (codes "name") (text (codes "h64")) (field (codes "ping") null (no_fields)))) (item (rec (field (codes "name") (text (codes "h65")) (field (codes "ping") null (no_fields)))) (item (rec (field (codes "name") (text (codes "h66")) (field (codes "ping") null (no_fields)))) (item (rec (field (codes "name") (text (codes "h67")) (field (codes "ping") null (no_fields)))) (item (rec (field (codes "name") (text (codes "h68")) (field (codes "ping") null (no_fields)))) (item (rec (field (codes "name") (text (codes "h69")) (field (codes "ping") null (no_fields)))) (item (rec (field (codes "name") (text (codes "h70")) (field (codes "ping") null (no_fields)))) (item (rec (field (codes "name") (text (codes "h71")) (field (codes "ping") null (no_fields)))) (item (rec (field (codes "name") (text (codes "h72")) (field (codes "ping") null (no_fields)))) (item (rec (field (codes "name") (text (codes "h73")) (field (codes "ping") null (no_fields)))) (item (rec (field (codes "name") (text (codes "h74")) (field (codes "ping") null (no_fields)))) (item (rec (field (codes "name") (text (codes "h75")) (field (codes "ping") null (no_fields)))) (item (rec (field (codes "name") (text (codes "h76")) (field (codes "ping") null (no_fields)))) (item (rec (field (codes "name") (text (codes "h77")) (field (codes "ping") null (no_fields)))) (item (rec (field (codes "name") (text (codes "h78")) (field (codes "ping") null (no_fields)))) (item (rec (field (codes "name") (text (codes "h79")) (field (codes "ping") null (no_fields)))) (item (rec (field (codes "name") (text (codes "h80")) (field (codes "ping") null (no_fields)))) (item (rec (field (codes "name") (text (codes "h81")) (field (codes "ping") null (no_fields)))) (item (rec (field (codes "name") (text (codes "h82")) (field (codes "ping") null (no_fields)))) (item (rec (field (codes "name") (text (codes "h83")) (field (codes "ping") null (no_fields)))) (item (rec (field (codes "name") (text (codes "h84")) (field (codes "ping") null (no_fields)))) (item (rec (field (codes "name") (text (codes "h85")) (field (codes "ping") null (no_fields)))) (item (rec (field (codes "name") (text (codes "h86")) (field (codes "ping") null (no_fields)))) (item (rec (field (codes "name") (text (codes "h87")) (field (codes "ping") null (no_fields)))) (item (rec (field (codes "name") (text (codes "h88")) (field (codes "ping") null (no_fields)))) (item (rec (field (codes "name") (text (codes "h89")) (field (codes "ping") null (no_fields)))) (item (rec (field (codes "name") (text (codes "h90")) (field (codes "ping") null (no_fields)))) (item (rec (field (codes "name") (text (codes "h91")) (field (codes "ping") null (no_fields)))) (item (rec (field (codes "name") (text (codes "h92")) (field (codes "ping") null (no_fields)))) (item (rec (field (codes "name") (text (codes "h93")) (field (codes "ping") null (no_fields)))) (item (rec (field (codes "name") (text (codes "h94")) (field (codes "ping") null (no_fields)))) (item (rec (field (codes "name") (text (codes "h95")) (field (codes "ping") null (no_fields)))) (item (rec (field (codes "name") (text (codes "h96")) (field (codes "ping") null (no_fields)))) (item (rec (field (codes "name") (text (codes "h97")) (field (codes "ping") null (no_fields)))) (item (rec (field (codes "name") (text (codes "h98")) (field (codes "ping") null (no_fields)))) (item (rec (field (codes "name") (text (codes "h99")) (field (codes "ping") null (no_fields)))) (item (rec (field (codes "name") (text (codes "h100")) (field (codes "ping") null (no_fields)))) (item (rec (field (codes "name") (text (codes "h101")) (field (codes "ping") null (no_fields)))) (item (rec (field (codes "name") (text (codes "h102")) (field (codes "ping") null (no_fields)))) (item (rec (field (codes "name") (text (codes "h103")) (field (codes "ping") null (no_fields)))) (item (rec (field (codes "name") (text (codes "h104")) (field (codes "ping") null (no_fields)))) (item (rec (field (codes "name") (text (codes "h105")) (field (codes "ping") null (no_fields)))) (item (rec (field (codes "name") (text (codes "h106")) (field (codes "ping") null (no_fields)))) (item (rec (field (codes "name") (text (codes "h107")) (field (codes "ping") null (no_fields)))) (item (rec (field (codes "name") (text (codes "h108")) (field (codes "ping") null (no_fields)))) (item (rec (field (codes "name") (text (codes "h109")) (field (codes "ping") null (no_fields)))) (item (rec (field (codes "name") (text (codes "h110")) (field (codes "ping") null (no_fields)))) (item (rec (field (codes "name") (text (codes "h111")) (field (codes "ping") null (no_fields)))) (item (rec (field (codes "name") (text (codes "h112")) (field (codes "ping") null (no_fields)))) (item (rec (field (codes "name") (text (codes "h113")) (field (codes "ping") null (no_fields)))) (item (rec (field (codes "name") (text (codes "h114")) (field (codes "ping") null (no_fields)))) (item (rec (field (codes "name") (text (codes "h115")) (field (codes "ping") null (no_fields)))) (item (rec (field (codes "name") (text (codes "h116")) (field (codes "ping") null (no_fields)))) (item (rec (field (codes "name") (text (codes "h117")) (field (codes "ping") null (no_fields)))) (item (rec (field (codes "name") (text (codes "h118")) (field (codes "ping") null (no_fields)))) (item (rec (field (codes "name") (text (codes "h119")) (field (codes "ping") null (no_fields)))) (item (rec (field (codes "name") (text (codes "h120")) (field (codes "ping") null (no_fields)))) (item (rec (field (codes "name") (text (codes "h121")) (field (codes "ping") null (no_fields)))) (item (rec (field (codes "name") (text (codes "h122")) (field (codes "ping") null (no_fields)))) (item (rec (field (codes "name") (text (codes "h123")) (field (codes "ping") null (no_fields)))) (item (rec (field (codes "name") (text (codes "h124")) (field (codes "ping") null (no_fields)))) (item (rec (field (codes "name") (text (codes "h125")) (field (codes "ping") null (no_fields)))) (item (rec (field (codes "name") (text (codes "h126")) (field (codes "ping") null (no_fields)))) (item (rec (field (codes "name") (text (codes "h127")) (field (codes "ping") null (no_fields)))) (item (rec (field (codes "name") (text (codes "h128")) (field (codes "ping") null (no_fields)))) (item (rec (field (codes "name") (text (codes "h129")) (field (codes "ping") null (no_fields)))) (item (rec (field (codes "name") (text (codes "h130")) (field (codes "ping") null (no_fields)))) (item (rec (field (codes "name") (text (codes "h131")) (field (codes "ping") null (no_fields)))) (item (rec (field (codes "name") (text (codes "h132")) (field (codes "ping") null (no_fields)))) (item (rec (field (codes "name") (text (codes "h133")) (field (codes "ping") null (no_fields)))) (item (rec (field (codes "name") (text (codes "h134")) (field (codes "ping") null (no_fields)))) (item (rec (field (codes "name") (text (codes "h135")) (field (codes "ping") null (no_fields)))) (item (rec (field (codes "name") (text (codes "h136")) (field (codes "ping") null (no_fields)))) (item (rec (field (codes "name") (text (codes "h137")) (field (codes "ping") null (no_fields)))) (item (rec (field (codes "name") (text (codes "h138")) (field (codes "ping") null (no_fields)))) (item (rec (field (codes "name") (text (codes "h139")) (field (codes "ping") null (no_fields)))) (item (rec (field (codes "name") (text (codes "h140")) (field (codes "ping") null (no_fields)))) (item (rec (field (codes "name") (text (codes "h141")) (field (codes "ping") null (no_fields)))) (item (rec (field (codes "name") (text (codes "h142")) (field (codes "ping") null (no_fields)))) (item (rec (field (codes "name") (text (codes "h143")) (field (codes "ping") null (no_fields)))) (item (rec (field (codes "name") (text (codes "h144")) (field (codes "ping") null (no_fields)))) (item (rec (field (codes "name") (text (codes "h145")) (field (codes "ping") null (no_fields)))) (item (rec (field (codes "name") (text (codes "h146")) (field (codes "ping") null (no_fields)))) (item (rec (field (codes "name") (text (codes "h147")) (field (codes "ping") null (no_fields)))) (item (rec (field (codes "name") (text (codes "h148")) (field (codes "ping") null (no_fields)))) (item (rec (field (codes "name") (text (codes "h149")) (field (codes "ping") null (no_fields)))) (item (rec (field (codes "name") (text (codes "h150")) (field (codes "ping") null (no_fields)))) (item (rec (field (codes "name") (text (codes "h151")) (field (codes "ping") null (no_fields)))) (item (rec (field (codes "name") (text (codes "h152")) (field (codes "ping") null (no_fields)))) (item (rec (field (codes "name") (text (codes "h153")) (field (codes "ping") null (no_fields)))) (item (rec (field (codes "name") (text (codes "h154")) (field (codes "ping") null (no_fields)))) (item (rec (field (codes "name") (text (codes "h155")) (field (codes "ping") null (no_fields)))) (item (rec (field (codes "name") (text (codes "h156")) (field (codes "ping") null (no_fields)))) (item (rec (field (codes "name") (text (codes "h157")) (field (codes "ping") null (no_fields)))) (item (rec (field (codes "name") (text (codes "h158")) (field (codes "ping") null (no_fields)))) (item (rec (field (codes "name") (text (codes "h159")) (field (codes "ping") null (no_fields)))) (item (rec (field (codes "name") (text (codes "h160")) (field (codes "ping") null (no_fields)))) (item (rec (field (codes "name") (text (codes "h161")) (field (codes "ping") null (no_fields)))) (item (rec (field (codes "name") (text (codes "h162")) (field (codes "ping") null (no_fields)))) (item (rec (field (codes "name") (text (codes "h163")) (field (codes "ping") null (no_fields)))) (item (rec (field (codes "name") (text (codes "h164")) (field (codes "ping") null (no_fields)))) (item (rec (field (codes "name") (text (codes "h165")) (field (codes "ping") null (no_fields)))) (item (rec (field (codes "name") (text (codes "h166")) (field (codes "ping") null (no_fields)))) (item (rec (field (codes "name") (text (codes "h167")) (field (codes "ping") null (no_fields)))) (item (rec (field (codes "name") (text (codes "h168")) (field (codes "ping") null (no_fields)))) (item (rec (field (codes "name") (text (codes "h169")) (field (codes "ping") null (no_fields)))) (item (rec (field (codes "name") (text (codes "h170")) (field (codes "ping") null (no_fields)))) (item (rec (field (codes "name") (text (codes "h171")) (field (codes "ping") null (no_fields)))) (item (rec (field (codes "name") (text (codes "h172")) (field (codes "ping") null (no_fields)))) (item (rec (field (codes "name") (text (codes "h173")) (field (codes "ping") null (no_fields)))) (item (rec (field (codes "name") (text (codes "h174")) (field (codes "ping") null (no_fields)))) (item (rec (field (codes "name") (text (codes "h175")) (field (codes "ping") null (no_fields)))) (item (rec (field (codes "name") (text (codes "h176")) (field (codes "ping") null (no_fields)))) (item (rec (field (codes "name") (text (codes "h177")) (field (codes "ping") null (no_fields)))) (item (rec (field (codes "name") (text (codes "h178")) (field (codes "ping") null (no_fields)))) (item (rec (field (codes "name") (text (codes "h179")) (field (codes "ping") null (no_fields)))) (item (rec (field (codes "name") (text (codes "h180")) (field (codes "ping") null (no_fields)))) (item (rec (field (codes "name") (text (codes "h181")) (field (codes "ping") null (no_fields)))) (item (rec (field (codes "name") (text (codes "h182")) (field (codes "ping") null (no_fields)))) (item (rec (field (codes "name") (text (codes "h183")) (field (codes "ping") null (no_fields)))) (item (rec (field (codes "name") (text (codes "h184")) (field (codes "ping") null (no_fields)))) (item (rec (field (codes "name") (text (codes "h185")) (field (codes "ping") null (no_fields)))) (item (rec (field (codes "name") (text (codes "h186")) (field (codes "ping") null (no_fields)))) (item (rec (field (codes "name") (text (codes "h187")) (field (codes "ping") null (no_fields)))) (item (rec (field (codes "name") (text (codes "h188")) (field (codes "ping") null (no_fields)))) (item (rec (field (codes "name") (text (codes "h189")) (field (codes "ping") null (no_fields)))) (item (rec (field (codes "name") (text (codes "h190")) (field (codes "ping") null (no_fields)))) (item (rec (field (codes "name") (text (codes "h191")) (field (codes "ping") null (no_fields)))) (item (rec (field (codes "name") (text (codes "h192")) (field (codes "ping") null (no_fields)))) (item (rec (field (codes "name") (text (codes "h193")) (field (codes "ping") null (no_fields)))) (item (rec (field (codes "name") (text (codes "h194")) (field (codes "ping") null (no_fields)))) (item (rec (field (codes "name") (text (codes "h195")) (field (codes "ping") null (no_fields)))) (item (rec (field (codes "name") (text (codes "h196")) (field (codes "ping") null (no_fields)))) (item (rec (field (codes "name") (text (codes "h197")) (field (codes "ping") null (no_fields)))) (item (rec (field (codes "name") (text (codes "h198")) (field (codes "ping") null (no_fields)))) (item (rec (field (codes "name") (text (codes "h199")) (field (codes "ping") null (no_fields)))) (item (rec (field (codes "name") (text (codes "h200")) (field (codes "ping") null (no_fields)))) (item (rec (field (codes "name") (text (codes "h201")) (field (codes "ping") null (no_fields)))) (item (rec (field (codes "name") (text (codes "h202")) (field (codes "ping") null (no_fields)))) (item (rec (field (codes "name") (text (codes "h203")) (field (codes "ping") null (no_fields)))) (item (rec (field (codes "name") (text (codes "h204")) (field (codes "ping") null (no_fields)))) (item (rec (field (codes "name") (text (codes "h205")) (field (codes "ping") null (no_fields)))) (item (rec (field (codes "name") (text (codes "h206")) (field (codes "ping") null (no_fields)))) (item (rec (field (codes "name") (text (codes "h207")) (field (codes "ping") null (no_fields)))) (item (rec (field (codes "name") (text (codes "h208")) (field (codes "ping") null (no_fields)))) (item (rec (field (codes "name") (text (codes "h209")) (field (codes "ping") null (no_fields)))) (item (rec (field (codes "name") (text (codes "h210")) (field (codes "ping") null (no_fields)))) (item (rec (field (codes "name") (text (codes "h211")) (field (codes "ping") null (no_fields)))) (item (rec (field (codes "name") (text (codes "h212")) (field (codes "ping") null (no_fields)))) (item (rec (field (codes "name") (text (codes "h213")) (field (codes "ping") null (no_fields)))) (item (rec (field (codes "name") (text (codes "h214")) (field (codes "ping") null (no_fields)))) (item (rec (field (codes "name") (text (codes "h215")) (field (codes "ping") null (no_fields)))) (item (rec (field (codes "name") (text (codes "h216")) (field (codes "ping") null (no_fields)))) (item (rec (field (codes "name") (text (codes "h217")) (field (codes "ping") null (no_fields)))) (item (rec (field (codes "name") (text (codes "h218")) (field (codes "ping") null (no_fields)))) (item (rec (field (codes "name") (text (codes "h219")) (field (codes "ping") null (no_fields)))) (item (rec (field (codes "name") (text (codes "h220")) (field (codes "ping") null (no_fields)))) (item (rec (field (codes "name") (text (codes "h221")) (field (codes "ping") null (no_fields)))) (item (rec (field (codes "name") (text (codes "h222")) (field (codes "ping") null (no_fields)))) (item (rec (field (codes "name") (text (codes "h223")) (field (codes "ping") null (no_fields)))) (item (rec (field (codes "name") (text (codes "h224")) (field (codes "ping") null (no_fields)))) (item (rec (field (codes "name") (text (codes "h225")) (field (codes "ping") null (no_fields)))) (item (rec (field (codes "name") (text (codes "h226")) (field (codes "ping") null (no_fields)))) (item (rec (field (codes "name") (text (codes "h227")) (field (codes "ping") null (no_fields)))) (item (rec (field (codes "name") (text (codes "h228")) (field (codes "ping") null (no_fields)))) (item (rec (field (codes "name") (text (codes "h229")) (field (codes "ping") null (no_fields)))) (item (rec (field (codes "name") (text (codes "h230")) (field (codes "ping") null (no_fields)))) (item (rec (field (codes "name") (text (codes "h231")) (field (codes "ping") null (no_fields)))) (item (rec (field (codes "name") (text (codes "h232")) (field (codes "ping") null (no_fields)))) (item (rec (field (codes "name") (text (codes "h233")) (field (codes "ping") null (no_fields)))) (item (rec (field (codes "name") (text (codes "h234")) (field (codes "ping") null (no_fields)))) (item (rec (field (codes "name") (text (codes "h235")) (field (codes "ping") null (no_fields)))) (item (rec (field (codes "name") (text (codes "h236")) (field (codes "ping") null (no_fields)))) (item (rec (field (codes "name") (text (codes "h237")) (field (codes "ping") null (no_fields)))) (item (rec (field (codes "name") (text (codes "h238")) (field (codes "ping") null (no_fields)))) (item (rec (field (codes "name") (text (codes "h239")) (field (codes "ping") null (no_fields)))) (item (rec (field (codes "name") (text (codes "h240")) (field (codes "ping") null (no_fields)))) (item (rec (field (codes "name") (text (codes "h241")) (field (codes "ping") null (no_fields)))) (item (rec (field (codes "name") (text (codes "h242")) (field (codes "ping") null (no_fields)))) (item (rec (field (codes "name") (text (codes "h243")) (field (codes "ping") null (no_fields)))) (item (rec (field (codes "name") (text (codes "h244")) (field (codes "ping") null (no_fields)))) (item (rec (field (codes "name") (text (codes "h245")) (field (codes "ping") null (no_fields)))) (item (rec (field (codes "name") (text (codes "h246")) (field (codes "ping") null (no_fields)))) (item (rec (field (codes "name") (text (codes "h247")) (field (codes "ping") null (no_fields)))) (item (rec (field (codes "name") (text (codes "h248")) (field (codes "ping") null (no_fields)))) (item (rec (field (codes "name") (text (codes "h249")) (field (codes "ping") null (no_fields)))) (item (rec (field (codes "name") (text (codes "h250")) (field (codes "ping") null (no_fields)))) (item (rec (field (codes "name") (text (codes "h251")) (field (codes "ping") null (no_fields)))) (item (rec (field (codes "name") (text (codes "h252")) (field (codes "ping") null (no_fields)))) (item (rec (field (codes "name") (text (codes "h253")) (field (codes "ping") null (no_fields)))) (item (rec (field (codes "name") (text (codes "h254")) (field (codes "ping") null (no_fields)))) (item (rec (field (codes "name") (text (codes "h255")) (field (codes "ping") null (no_fields)))) (no_items)))))))))))))))))))))))))))))))))))))))))))))))))))))))))))))))))))))))))))))))))))))))))))))))))))))))))))))))))))))))))))))))))))))))))))))))))))))))))))))))))))))))))))))))))))))))))))))))))))))))))))))))))))))))))))))))))))))))))))))))))))))))))))))))))) (field (codes "hosts") (text (codes "all")) (no_fields)))) (no_items))) ≡ Ok ((record { line = 1; pattern = ((codes "all") ∷ []); gathering = None; vars = (no_parts); is_linear = true; serial = ([]); pre_tasks = (no_steps); tasks = (no_steps); post_tasks = (no_steps); handlers = (record { work = (record { line = 2; work = (module_work (codes "ping") (no_parts)); condition = (no_expressions); loop = None; register = None; vars = (no_parts); notify = ([]); changed_when = None; failed_when = None; attempts = None; ignore_errors = None }); name = (Some (codes "h0")); topics = ([]) } ∷ record { work = (record { line = 3; work = (module_work (codes "ping") (no_parts)); condition = (no_expressions); loop = None; register = None; vars = (no_parts); notify = ([]); changed_when = None; failed_when = None; attempts = None; ignore_errors = None }); name = (Some (codes "h1")); topics = ([]) } ∷ record { work = (record { line = 4; work = (module_work (codes "ping") (no_parts)); condition = (no_expressions); loop = None; register = None; vars = (no_parts); notify = ([]); changed_when = None; failed_when = None; attempts = None; ignore_errors = None }); name = (Some (codes "h2")); topics = ([]) } ∷ record { work = (record { line = 5; work = (module_work (codes "ping") (no_parts)); condition = (no_expressions); loop = None; register = None; vars = (no_parts); notify = ([]); changed_when = None; failed_when = None; attempts = None; ignore_errors = None }); name = (Some (codes "h3")); topics = ([]) } ∷ record { work = (record { line = 6; work = (module_work (codes "ping") (no_parts)); condition = (no_expressions); loop = None; register = None; vars = (no_parts); notify = ([]); changed_when = None; failed_when = None; attempts = None; ignore_errors = None }); name = (Some (codes "h4")); topics = ([]) } ∷ record { work = (record { line = 7; work = (module_work (codes "ping") (no_parts)); condition = (no_expressions); loop = None; register = None; vars = (no_parts); notify = ([]); changed_when = None; failed_when = None; attempts = None; ignore_errors = None }); name = (Some (codes "h5")); topics = ([]) } ∷ record { work = (record { line = 8; work = (module_work (codes "ping") (no_parts)); condition = (no_expressions); loop = None; register = None; vars = (no_parts); notify = ([]); changed_when = None; failed_when = None; attempts = None; ignore_errors = None }); name = (Some (codes "h6")); topics = ([]) } ∷ record { work = (record { line = 9; work = (module_work (codes "ping") (no_parts)); condition = (no_expressions); loop = None; register = None; vars = (no_parts); notify = ([]); changed_when = None; failed_when = None; attempts = None; ignore_errors = None }); name = (Some (codes "h7")); topics = ([]) } ∷ record { work = (record { line = 10; work = (module_work (codes "ping") (no_parts)); condition = (no_expressions); loop = None; register = None; vars = (no_parts); notify = ([]); changed_when = None; failed_when = None; attempts = None; ignore_errors = None }); name = (Some (codes "h8")); topics = ([]) } ∷ record { work = (record { line = 11; work = (module_work (codes "ping") (no_parts)); condition = (no_expressions); loop = None; register = None; vars = (no_parts); notify = ([]); changed_when = None; failed_when = None; attempts = None; ignore_errors = None }); name = (Some (codes "h9")); topics = ([]) } ∷ record { work = (record { line = 12; work = (module_work (codes "ping") (no_parts)); condition = (no_expressions); loop = None; register = None; vars = (no_parts); notify = ([]); changed_when = None; failed_when = None; attempts = None; ignore_errors = None }); name = (Some (codes "h10")); topics = ([]) } ∷ record { work = (record { line = 13; work = (module_work (codes "ping") (no_parts)); condition = (no_expressions); loop = None; register = None; vars = (no_parts); notify = ([]); changed_when = None; failed_when = None; attempts = None; ignore_errors = None }); name = (Some (codes "h11")); topics = ([]) } ∷ record { work = (record { line = 14; work = (module_work (codes "ping") (no_parts)); condition = (no_expressions); loop = None; register = None; vars = (no_parts); notify = ([]); changed_when = None; failed_when = None; attempts = None; ignore_errors = None }); name = (Some (codes "h12")); topics = ([]) } ∷ record { work = (record { line = 15; work = (module_work (codes "ping") (no_parts)); condition = (no_expressions); loop = None; register = None; vars = (no_parts); notify = ([]); changed_when = None; failed_when = None; attempts = None; ignore_errors = None }); name = (Some (codes "h13")); topics = ([]) } ∷ record { work = (record { line = 16; work = (module_work (codes "ping") (no_parts)); condition = (no_expressions); loop = None; register = None; vars = (no_parts); notify = ([]); changed_when = None; failed_when = None; attempts = None; ignore_errors = None }); name = (Some (codes "h14")); topics = ([]) } ∷ record { work = (record { line = 17; work = (module_work (codes "ping") (no_parts)); condition = (no_expressions); loop = None; register = None; vars = (no_parts); notify = ([]); changed_when = None; failed_when = None; attempts = None; ignore_errors = None }); name = (Some (codes "h15")); topics = ([]) } ∷ record { work = (record { line = 18; work = (module_work (codes "ping") (no_parts)); condition = (no_expressions); loop = None; register = None; vars = (no_parts); notify = ([]); changed_when = None; failed_when = None; attempts = None; ignore_errors = None }); name = (Some (codes "h16")); topics = ([]) } ∷ record { work = (record { line = 19; work = (module_work (codes "ping") (no_parts)); condition = (no_expressions); loop = None; register = None; vars = (no_parts); notify = ([]); changed_when = None; failed_when = None; attempts = None; ignore_errors = None }); name = (Some (codes "h17")); topics = ([]) } ∷ record { work = (record { line = 20; work = (module_work (codes "ping") (no_parts)); condition = (no_expressions); loop = None; register = None; vars = (no_parts); notify = ([]); changed_when = None; failed_when = None; attempts = None; ignore_errors = None }); name = (Some (codes "h18")); topics = ([]) } ∷ record { work = (record { line = 21; work = (module_work (codes "ping") (no_parts)); condition = (no_expressions); loop = None; register = None; vars = (no_parts); notify = ([]); changed_when = None; failed_when = None; attempts = None; ignore_errors = None }); name = (Some (codes "h19")); topics = ([]) } ∷ record { work = (record { line = 22; work = (module_work (codes "ping") (no_parts)); condition = (no_expressions); loop = None; register = None; vars = (no_parts); notify = ([]); changed_when = None; failed_when = None; attempts = None; ignore_errors = None }); name = (Some (codes "h20")); topics = ([]) } ∷ record { work = (record { line = 23; work = (module_work (codes "ping") (no_parts)); condition = (no_expressions); loop = None; register = None; vars = (no_parts); notify = ([]); changed_when = None; failed_when = None; attempts = None; ignore_errors = None }); name = (Some (codes "h21")); topics = ([]) } ∷ record { work = (record { line = 24; work = (module_work (codes "ping") (no_parts)); condition = (no_expressions); loop = None; register = None; vars = (no_parts); notify = ([]); changed_when = None; failed_when = None; attempts = None; ignore_errors = None }); name = (Some (codes "h22")); topics = ([]) } ∷ record { work = (record { line = 25; work = (module_work (codes "ping") (no_parts)); condition = (no_expressions); loop = None; register = None; vars = (no_parts); notify = ([]); changed_when = None; failed_when = None; attempts = None; ignore_errors = None }); name = (Some (codes "h23")); topics = ([]) } ∷ record { work = (record { line = 26; work = (module_work (codes "ping") (no_parts)); condition = (no_expressions); loop = None; register = None; vars = (no_parts); notify = ([]); changed_when = None; failed_when = None; attempts = None; ignore_errors = None }); name = (Some (codes "h24")); topics = ([]) } ∷ record { work = (record { line = 27; work = (module_work (codes "ping") (no_parts)); condition = (no_expressions); loop = None; register = None; vars = (no_parts); notify = ([]); changed_when = None; failed_when = None; attempts = None; ignore_errors = None }); name = (Some (codes "h25")); topics = ([]) } ∷ record { work = (record { line = 28; work = (module_work (codes "ping") (no_parts)); condition = (no_expressions); loop = None; register = None; vars = (no_parts); notify = ([]); changed_when = None; failed_when = None; attempts = None; ignore_errors = None }); name = (Some (codes "h26")); topics = ([]) } ∷ record { work = (record { line = 29; work = (module_work (codes "ping") (no_parts)); condition = (no_expressions); loop = None; register = None; vars = (no_parts); notify = ([]); changed_when = None; failed_when = None; attempts = None; ignore_errors = None }); name = (Some (codes "h27")); topics = ([]) } ∷ record { work = (record { line = 30; work = (module_work (codes "ping") (no_parts)); condition = (no_expressions); loop = None; register = None; vars = (no_parts); notify = ([]); changed_when = None; failed_when = None; attempts = None; ignore_errors = None }); name = (Some (codes "h28")); topics = ([]) } ∷ record { work = (record { line = 31; work = (module_work (codes "ping") (no_parts)); condition = (no_expressions); loop = None; register = None; vars = (no_parts); notify = ([]); changed_when = None; failed_when = None; attempts = None; ignore_errors = None }); name = (Some (codes "h29")); topics = ([]) } ∷ record { work = (record { line = 32; work = (module_work (codes "ping") (no_parts)); condition = (no_expressions); loop = None; register = None; vars = (no_parts); notify = ([]); changed_when = None; failed_when = None; attempts = None; ignore_errors = None }); name = (Some (codes "h30")); topics = ([]) } ∷ record { work = (record { line = 33; work = (module_work (codes "ping") (no_parts)); condition = (no_expressions); loop = None; register = None; vars = (no_parts); notify = ([]); changed_when = None; failed_when = None; attempts = None; ignore_errors = None }); name = (Some (codes "h31")); topics = ([]) } ∷ record { work = (record { line = 34; work = (module_work (codes "ping") (no_parts)); condition = (no_expressions); loop = None; register = None; vars = (no_parts); notify = ([]); changed_when = None; failed_when = None; attempts = None; ignore_errors = None }); name = (Some (codes "h32")); topics = ([]) } ∷ record { work = (record { line = 35; work = (module_work (codes "ping") (no_parts)); condition = (no_expressions); loop = None; register = None; vars = (no_parts); notify = ([]); changed_when = None; failed_when = None; attempts = None; ignore_errors = None }); name = (Some (codes "h33")); topics = ([]) } ∷ record { work = (record { line = 36; work = (module_work (codes "ping") (no_parts)); condition = (no_expressions); loop = None; register = None; vars = (no_parts); notify = ([]); changed_when = None; failed_when = None; attempts = None; ignore_errors = None }); name = (Some (codes "h34")); topics = ([]) } ∷ record { work = (record { line = 37; work = (module_work (codes "ping") (no_parts)); condition = (no_expressions); loop = None; register = None; vars = (no_parts); notify = ([]); changed_when = None; failed_when = None; attempts = None; ignore_errors = None }); name = (Some (codes "h35")); topics = ([]) } ∷ record { work = (record { line = 38; work = (module_work (codes "ping") (no_parts)); condition = (no_expressions); loop = None; register = None; vars = (no_parts); notify = ([]); changed_when = None; failed_when = None; attempts = None; ignore_errors = None }); name = (Some (codes "h36")); topics = ([]) } ∷ record { work = (record { line = 39; work = (module_work (codes "ping") (no_parts)); condition = (no_expressions); loop = None; register = None; vars = (no_parts); notify = ([]); changed_when = None; failed_when = None; attempts = None; ignore_errors = None }); name = (Some (codes "h37")); topics = ([]) } ∷ record { work = (record { line = 40; work = (module_work (codes "ping") (no_parts)); condition = (no_expressions); loop = None; register = None; vars = (no_parts); notify = ([]); changed_when = None; failed_when = None; attempts = None; ignore_errors = None }); name = (Some (codes "h38")); topics = ([]) } ∷ record { work = (record { line = 41; work = (module_work (codes "ping") (no_parts)); condition = (no_expressions); loop = None; register = None; vars = (no_parts); notify = ([]); changed_when = None; failed_when = None; attempts = None; ignore_errors = None }); name = (Some (codes "h39")); topics = ([]) } ∷ record { work = (record { line = 42; work = (module_work (codes "ping") (no_parts)); condition = (no_expressions); loop = None; register = None; vars = (no_parts); notify = ([]); changed_when = None; failed_when = None; attempts = None; ignore_errors = None }); name = (Some (codes "h40")); topics = ([]) } ∷ record { work = (record { line = 43; work = (module_work (codes "ping") (no_parts)); condition = (no_expressions); loop = None; register = None; vars = (no_parts); notify = ([]); changed_when = None; failed_when = None; attempts = None; ignore_errors = None }); name = (Some (codes "h41")); topics = ([]) } ∷ record { work = (record { line = 44; work = (module_work (codes "ping") (no_parts)); condition = (no_expressions); loop = None; register = None; vars = (no_parts); notify = ([]); changed_when = None; failed_when = None; attempts = None; ignore_errors = None }); name = (Some (codes "h42")); topics = ([]) } ∷ record { work = (record { line = 45; work = (module_work (codes "ping") (no_parts)); condition = (no_expressions); loop = None; register = None; vars = (no_parts); notify = ([]); changed_when = None; failed_when = None; attempts = None; ignore_errors = None }); name = (Some (codes "h43")); topics = ([]) } ∷ record { work = (record { line = 46; work = (module_work (codes "ping") (no_parts)); condition = (no_expressions); loop = None; register = None; vars = (no_parts); notify = ([]); changed_when = None; failed_when = None; attempts = None; ignore_errors = None }); name = (Some (codes "h44")); topics = ([]) } ∷ record { work = (record { line = 47; work = (module_work (codes "ping") (no_parts)); condition = (no_expressions); loop = None; register = None; vars = (no_parts); notify = ([]); changed_when = None; failed_when = None; attempts = None; ignore_errors = None }); name = (Some (codes "h45")); topics = ([]) } ∷ record { work = (record { line = 48; work = (module_work (codes "ping") (no_parts)); condition = (no_expressions); loop = None; register = None; vars = (no_parts); notify = ([]); changed_when = None; failed_when = None; attempts = None; ignore_errors = None }); name = (Some (codes "h46")); topics = ([]) } ∷ record { work = (record { line = 49; work = (module_work (codes "ping") (no_parts)); condition = (no_expressions); loop = None; register = None; vars = (no_parts); notify = ([]); changed_when = None; failed_when = None; attempts = None; ignore_errors = None }); name = (Some (codes "h47")); topics = ([]) } ∷ record { work = (record { line = 50; work = (module_work (codes "ping") (no_parts)); condition = (no_expressions); loop = None; register = None; vars = (no_parts); notify = ([]); changed_when = None; failed_when = None; attempts = None; ignore_errors = None }); name = (Some (codes "h48")); topics = ([]) } ∷ record { work = (record { line = 51; work = (module_work (codes "ping") (no_parts)); condition = (no_expressions); loop = None; register = None; vars = (no_parts); notify = ([]); changed_when = None; failed_when = None; attempts = None; ignore_errors = None }); name = (Some (codes "h49")); topics = ([]) } ∷ record { work = (record { line = 52; work = (module_work (codes "ping") (no_parts)); condition = (no_expressions); loop = None; register = None; vars = (no_parts); notify = ([]); changed_when = None; failed_when = None; attempts = None; ignore_errors = None }); name = (Some (codes "h50")); topics = ([]) } ∷ record { work = (record { line = 53; work = (module_work (codes "ping") (no_parts)); condition = (no_expressions); loop = None; register = None; vars = (no_parts); notify = ([]); changed_when = None; failed_when = None; attempts = None; ignore_errors = None }); name = (Some (codes "h51")); topics = ([]) } ∷ record { work = (record { line = 54; work = (module_work (codes "ping") (no_parts)); condition = (no_expressions); loop = None; register = None; vars = (no_parts); notify = ([]); changed_when = None; failed_when = None; attempts = None; ignore_errors = None }); name = (Some (codes "h52")); topics = ([]) } ∷ record { work = (record { line = 55; work = (module_work (codes "ping") (no_parts)); condition = (no_expressions); loop = None; register = None; vars = (no_parts); notify = ([]); changed_when = None; failed_when = None; attempts = None; ignore_errors = None }); name = (Some (codes "h53")); topics = ([]) } ∷ record { work = (record { line = 56; work = (module_work (codes "ping") (no_parts)); condition = (no_expressions); loop = None; register = None; vars = (no_parts); notify = ([]); changed_when = None; failed_when = None; attempts = None; ignore_errors = None }); name = (Some (codes "h54")); topics = ([]) } ∷ record { work = (record { line = 57; work = (module_work (codes "ping") (no_parts)); condition = (no_expressions); loop = None; register = None; vars = (no_parts); notify = ([]); changed_when = None; failed_when = None; attempts = None; ignore_errors = None }); name = (Some (codes "h55")); topics = ([]) } ∷ record { work = (record { line = 58; work = (module_work (codes "ping") (no_parts)); condition = (no_expressions); loop = None; register = None; vars = (no_parts); notify = ([]); changed_when = None; failed_when = None; attempts = None; ignore_errors = None }); name = (Some (codes "h56")); topics = ([]) } ∷ record { work = (record { line = 59; work = (module_work (codes "ping") (no_parts)); condition = (no_expressions); loop = None; register = None; vars = (no_parts); notify = ([]); changed_when = None; failed_when = None; attempts = None; ignore_errors = None }); name = (Some (codes "h57")); topics = ([]) } ∷ record { work = (record { line = 60; work = (module_work (codes "ping") (no_parts)); condition = (no_expressions); loop = None; register = None; vars = (no_parts); notify = ([]); changed_when = None; failed_when = None; attempts = None; ignore_errors = None }); name = (Some (codes "h58")); topics = ([]) } ∷ record { work = (record { line = 61; work = (module_work (codes "ping") (no_parts)); condition = (no_expressions); loop = None; register = None; vars = (no_parts); notify = ([]); changed_when = None; failed_when = None; attempts = None; ignore_errors = None }); name = (Some (codes "h59")); topics = ([]) } ∷ record { work = (record { line = 62; work = (module_work (codes "ping") (no_parts)); condition = (no_expressions); loop = None; register = None; vars = (no_parts); notify = ([]); changed_when = None; failed_when = None; attempts = None; ignore_errors = None }); name = (Some (codes "h60")); topics = ([]) } ∷ record { work = (record { line = 63; work = (module_work (codes "ping") (no_parts)); condition = (no_expressions); loop = None; register = None; vars = (no_parts); notify = ([]); changed_when = None; failed_when = None; attempts = None; ignore_errors = None }); name = (Some (codes "h61")); topics = ([]) } ∷ record { work = (record { line = 64; work = (module_work (codes "ping") (no_parts)); condition = (no_expressions); loop = None; register = None; vars = (no_parts); notify = ([]); changed_when = None; failed_when = None; attempts = None; ignore_errors = None }); name = (Some (codes "h62")); topics = ([]) } ∷ record { work = (record { line = 65; work = (module_work (codes "ping") (no_parts)); condition = (no_expressions); loop = None; register = None; vars = (no_parts); notify = ([]); changed_when = None; failed_when = None; attempts = None; ignore_errors = None }); name = (Some (codes "h63")); topics = ([]) } ∷ record { work = (record { line = 66; work = (module_work (codes "ping") (no_parts)); condition = (no_expressions); loop = None; register = None; vars = (no_parts); notify = ([]); changed_when = None; failed_when = None; attempts = None; ignore_errors = None }); name = (Some (codes "h64")); topics = ([]) } ∷ record { work = (record { line = 67; work = (module_work (codes "ping") (no_parts)); condition = (no_expressions); loop = None; register = None; vars = (no_parts); notify = ([]); changed_when = None; failed_when = None; attempts = None; ignore_errors = None }); name = (Some (codes "h65")); topics = ([]) } ∷ record { work = (record { line = 68; work = (module_work (codes "ping") (no_parts)); condition = (no_expressions); loop = None; register = None; vars = (no_parts); notify = ([]); changed_when = None; failed_when = None; attempts = None; ignore_errors = None }); name = (Some (codes "h66")); topics = ([]) } ∷ record { work = (record { line = 69; work = (module_work (codes "ping") (no_parts)); condition = (no_expressions); loop = None; register = None; vars = (no_parts); notify = ([]); changed_when = None; failed_when = None; attempts = None; ignore_errors = None }); name = (Some (codes "h67")); topics = ([]) } ∷ record { work = (record { line = 70; work = (module_work (codes "ping") (no_parts)); condition = (no_expressions); loop = None; register = None; vars = (no_parts); notify = ([]); changed_when = None; failed_when = None; attempts = None; ignore_errors = None }); name = (Some (codes "h68")); topics = ([]) } ∷ record { work = (record { line = 71; work = (module_work (codes "ping") (no_parts)); condition = (no_expressions); loop = None; register = None; vars = (no_parts); notify = ([]); changed_when = None; failed_when = None; attempts = None; ignore_errors = None }); name = (Some (codes "h69")); topics = ([]) } ∷ record { work = (record { line = 72; work = (module_work (codes "ping") (no_parts)); condition = (no_expressions); loop = None; register = None; vars = (no_parts); notify = ([]); changed_when = None; failed_when = None; attempts = None; ignore_errors = None }); name = (Some (codes "h70")); topics = ([]) } ∷ record { work = (record { line = 73; work = (module_work (codes "ping") (no_parts)); condition = (no_expressions); loop = None; register = None; vars = (no_parts); notify = ([]); changed_when = None; failed_when = None; attempts = None; ignore_errors = None }); name = (Some (codes "h71")); topics = ([]) } ∷ record { work = (record { line = 74; work = (module_work (codes "ping") (no_parts)); condition = (no_expressions); loop = None; register = None; vars = (no_parts); notify = ([]); changed_when = None; failed_when = None; attempts = None; ignore_errors = None }); name = (Some (codes "h72")); topics = ([]) } ∷ record { work = (record { line = 75; work = (module_work (codes "ping") (no_parts)); condition = (no_expressions); loop = None; register = None; vars = (no_parts); notify = ([]); changed_when = None; failed_when = None; attempts = None; ignore_errors = None }); name = (Some (codes "h73")); topics = ([]) } ∷ record { work = (record { line = 76; work = (module_work (codes "ping") (no_parts)); condition = (no_expressions); loop = None; register = None; vars = (no_parts); notify = ([]); changed_when = None; failed_when = None; attempts = None; ignore_errors = None }); name = (Some (codes "h74")); topics = ([]) } ∷ record { work = (record { line = 77; work = (module_work (codes "ping") (no_parts)); condition = (no_expressions); loop = None; register = None; vars = (no_parts); notify = ([]); changed_when = None; failed_when = None; attempts = None; ignore_errors = None }); name = (Some (codes "h75")); topics = ([]) } ∷ record { work = (record { line = 78; work = (module_work (codes "ping") (no_parts)); condition = (no_expressions); loop = None; register = None; vars = (no_parts); notify = ([]); changed_when = None; failed_when = None; attempts = None; ignore_errors = None }); name = (Some (codes "h76")); topics = ([]) } ∷ record { work = (record { line = 79; work = (module_work (codes "ping") (no_parts)); condition = (no_expressions); loop = None; register = None; vars = (no_parts); notify = ([]); changed_when = None; failed_when = None; attempts = None; ignore_errors = None }); name = (Some (codes "h77")); topics = ([]) } ∷ record { work = (record { line = 80; work = (module_work (codes "ping") (no_parts)); condition = (no_expressions); loop = None; register = None; vars = (no_parts); notify = ([]); changed_when = None; failed_when = None; attempts = None; ignore_errors = None }); name = (Some (codes "h78")); topics = ([]) } ∷ record { work = (record { line = 81; work = (module_work (codes "ping") (no_parts)); condition = (no_expressions); loop = None; register = None; vars = (no_parts); notify = ([]); changed_when = None; failed_when = None; attempts = None; ignore_errors = None }); name = (Some (codes "h79")); topics = ([]) } ∷ record { work = (record { line = 82; work = (module_work (codes "ping") (no_parts)); condition = (no_expressions); loop = None; register = None; vars = (no_parts); notify = ([]); changed_when = None; failed_when = None; attempts = None; ignore_errors = None }); name = (Some (codes "h80")); topics = ([]) } ∷ record { work = (record { line = 83; work = (module_work (codes "ping") (no_parts)); condition = (no_expressions); loop = None; register = None; vars = (no_parts); notify = ([]); changed_when = None; failed_when = None; attempts = None; ignore_errors = None }); name = (Some (codes "h81")); topics = ([]) } ∷ record { work = (record { line = 84; work = (module_work (codes "ping") (no_parts)); condition = (no_expressions); loop = None; register = None; vars = (no_parts); notify = ([]); changed_when = None; failed_when = None; attempts = None; ignore_errors = None }); name = (Some (codes "h82")); topics = ([]) } ∷ record { work = (record { line = 85; work = (module_work (codes "ping") (no_parts)); condition = (no_expressions); loop = None; register = None; vars = (no_parts); notify = ([]); changed_when = None; failed_when = None; attempts = None; ignore_errors = None }); name = (Some (codes "h83")); topics = ([]) } ∷ record { work = (record { line = 86; work = (module_work (codes "ping") (no_parts)); condition = (no_expressions); loop = None; register = None; vars = (no_parts); notify = ([]); changed_when = None; failed_when = None; attempts = None; ignore_errors = None }); name = (Some (codes "h84")); topics = ([]) } ∷ record { work = (record { line = 87; work = (module_work (codes "ping") (no_parts)); condition = (no_expressions); loop = None; register = None; vars = (no_parts); notify = ([]); changed_when = None; failed_when = None; attempts = None; ignore_errors = None }); name = (Some (codes "h85")); topics = ([]) } ∷ record { work = (record { line = 88; work = (module_work (codes "ping") (no_parts)); condition = (no_expressions); loop = None; register = None; vars = (no_parts); notify = ([]); changed_when = None; failed_when = None; attempts = None; ignore_errors = None }); name = (Some (codes "h86")); topics = ([]) } ∷ record { work = (record { line = 89; work = (module_work (codes "ping") (no_parts)); condition = (no_expressions); loop = None; register = None; vars = (no_parts); notify = ([]); changed_when = None; failed_when = None; attempts = None; ignore_errors = None }); name = (Some (codes "h87")); topics = ([]) } ∷ record { work = (record { line = 90; work = (module_work (codes "ping") (no_parts)); condition = (no_expressions); loop = None; register = None; vars = (no_parts); notify = ([]); changed_when = None; failed_when = None; attempts = None; ignore_errors = None }); name = (Some (codes "h88")); topics = ([]) } ∷ record { work = (record { line = 91; work = (module_work (codes "ping") (no_parts)); condition = (no_expressions); loop = None; register = None; vars = (no_parts); notify = ([]); changed_when = None; failed_when = None; attempts = None; ignore_errors = None }); name = (Some (codes "h89")); topics = ([]) } ∷ record { work = (record { line = 92; work = (module_work (codes "ping") (no_parts)); condition = (no_expressions); loop = None; register = None; vars = (no_parts); notify = ([]); changed_when = None; failed_when = None; attempts = None; ignore_errors = None }); name = (Some (codes "h90")); topics = ([]) } ∷ record { work = (record { line = 93; work = (module_work (codes "ping") (no_parts)); condition = (no_expressions); loop = None; register = None; vars = (no_parts); notify = ([]); changed_when = None; failed_when = None; attempts = None; ignore_errors = None }); name = (Some (codes "h91")); topics = ([]) } ∷ record { work = (record { line = 94; work = (module_work (codes "ping") (no_parts)); condition = (no_expressions); loop = None; register = None; vars = (no_parts); notify = ([]); changed_when = None; failed_when = None; attempts = None; ignore_errors = None }); name = (Some (codes "h92")); topics = ([]) } ∷ record { work = (record { line = 95; work = (module_work (codes "ping") (no_parts)); condition = (no_expressions); loop = None; register = None; vars = (no_parts); notify = ([]); changed_when = None; failed_when = None; attempts = None; ignore_errors = None }); name = (Some (codes "h93")); topics = ([]) } ∷ record { work = (record { line = 96; work = (module_work (codes "ping") (no_parts)); condition = (no_expressions); loop = None; register = None; vars = (no_parts); notify = ([]); changed_when = None; failed_when = None; attempts = None; ignore_errors = None }); name = (Some (codes "h94")); topics = ([]) } ∷ record { work = (record { line = 97; work = (module_work (codes "ping") (no_parts)); condition = (no_expressions); loop = None; register = None; vars = (no_parts); notify = ([]); changed_when = None; failed_when = None; attempts = None; ignore_errors = None }); name = (Some (codes "h95")); topics = ([]) } ∷ record { work = (record { line = 98; work = (module_work (codes "ping") (no_parts)); condition = (no_expressions); loop = None; register = None; vars = (no_parts); notify = ([]); changed_when = None; failed_when = None; attempts = None; ignore_errors = None }); name = (Some (codes "h96")); topics = ([]) } ∷ record { work = (record { line = 99; work = (module_work (codes "ping") (no_parts)); condition = (no_expressions); loop = None; register = None; vars = (no_parts); notify = ([]); changed_when = None; failed_when = None; attempts = None; ignore_errors = None }); name = (Some (codes "h97")); topics = ([]) } ∷ record { work = (record { line = 100; work = (module_work (codes "ping") (no_parts)); condition = (no_expressions); loop = None; register = None; vars = (no_parts); notify = ([]); changed_when = None; failed_when = None; attempts = None; ignore_errors = None }); name = (Some (codes "h98")); topics = ([]) } ∷ record { work = (record { line = 101; work = (module_work (codes "ping") (no_parts)); condition = (no_expressions); loop = None; register = None; vars = (no_parts); notify = ([]); changed_when = None; failed_when = None; attempts = None; ignore_errors = None }); name = (Some (codes "h99")); topics = ([]) } ∷ record { work = (record { line = 102; work = (module_work (codes "ping") (no_parts)); condition = (no_expressions); loop = None; register = None; vars = (no_parts); notify = ([]); changed_when = None; failed_when = None; attempts = None; ignore_errors = None }); name = (Some (codes "h100")); topics = ([]) } ∷ record { work = (record { line = 103; work = (module_work (codes "ping") (no_parts)); condition = (no_expressions); loop = None; register = None; vars = (no_parts); notify = ([]); changed_when = None; failed_when = None; attempts = None; ignore_errors = None }); name = (Some (codes "h101")); topics = ([]) } ∷ record { work = (record { line = 104; work = (module_work (codes "ping") (no_parts)); condition = (no_expressions); loop = None; register = None; vars = (no_parts); notify = ([]); changed_when = None; failed_when = None; attempts = None; ignore_errors = None }); name = (Some (codes "h102")); topics = ([]) } ∷ record { work = (record { line = 105; work = (module_work (codes "ping") (no_parts)); condition = (no_expressions); loop = None; register = None; vars = (no_parts); notify = ([]); changed_when = None; failed_when = None; attempts = None; ignore_errors = None }); name = (Some (codes "h103")); topics = ([]) } ∷ record { work = (record { line = 106; work = (module_work (codes "ping") (no_parts)); condition = (no_expressions); loop = None; register = None; vars = (no_parts); notify = ([]); changed_when = None; failed_when = None; attempts = None; ignore_errors = None }); name = (Some (codes "h104")); topics = ([]) } ∷ record { work = (record { line = 107; work = (module_work (codes "ping") (no_parts)); condition = (no_expressions); loop = None; register = None; vars = (no_parts); notify = ([]); changed_when = None; failed_when = None; attempts = None; ignore_errors = None }); name = (Some (codes "h105")); topics = ([]) } ∷ record { work = (record { line = 108; work = (module_work (codes "ping") (no_parts)); condition = (no_expressions); loop = None; register = None; vars = (no_parts); notify = ([]); changed_when = None; failed_when = None; attempts = None; ignore_errors = None }); name = (Some (codes "h106")); topics = ([]) } ∷ record { work = (record { line = 109; work = (module_work (codes "ping") (no_parts)); condition = (no_expressions); loop = None; register = None; vars = (no_parts); notify = ([]); changed_when = None; failed_when = None; attempts = None; ignore_errors = None }); name = (Some (codes "h107")); topics = ([]) } ∷ record { work = (record { line = 110; work = (module_work (codes "ping") (no_parts)); condition = (no_expressions); loop = None; register = None; vars = (no_parts); notify = ([]); changed_when = None; failed_when = None; attempts = None; ignore_errors = None }); name = (Some (codes "h108")); topics = ([]) } ∷ record { work = (record { line = 111; work = (module_work (codes "ping") (no_parts)); condition = (no_expressions); loop = None; register = None; vars = (no_parts); notify = ([]); changed_when = None; failed_when = None; attempts = None; ignore_errors = None }); name = (Some (codes "h109")); topics = ([]) } ∷ record { work = (record { line = 112; work = (module_work (codes "ping") (no_parts)); condition = (no_expressions); loop = None; register = None; vars = (no_parts); notify = ([]); changed_when = None; failed_when = None; attempts = None; ignore_errors = None }); name = (Some (codes "h110")); topics = ([]) } ∷ record { work = (record { line = 113; work = (module_work (codes "ping") (no_parts)); condition = (no_expressions); loop = None; register = None; vars = (no_parts); notify = ([]); changed_when = None; failed_when = None; attempts = None; ignore_errors = None }); name = (Some (codes "h111")); topics = ([]) } ∷ record { work = (record { line = 114; work = (module_work (codes "ping") (no_parts)); condition = (no_expressions); loop = None; register = None; vars = (no_parts); notify = ([]); changed_when = None; failed_when = None; attempts = None; ignore_errors = None }); name = (Some (codes "h112")); topics = ([]) } ∷ record { work = (record { line = 115; work = (module_work (codes "ping") (no_parts)); condition = (no_expressions); loop = None; register = None; vars = (no_parts); notify = ([]); changed_when = None; failed_when = None; attempts = None; ignore_errors = None }); name = (Some (codes "h113")); topics = ([]) } ∷ record { work = (record { line = 116; work = (module_work (codes "ping") (no_parts)); condition = (no_expressions); loop = None; register = None; vars = (no_parts); notify = ([]); changed_when = None; failed_when = None; attempts = None; ignore_errors = None }); name = (Some (codes "h114")); topics = ([]) } ∷ record { work = (record { line = 117; work = (module_work (codes "ping") (no_parts)); condition = (no_expressions); loop = None; register = None; vars = (no_parts); notify = ([]); changed_when = None; failed_when = None; attempts = None; ignore_errors = None }); name = (Some (codes "h115")); topics = ([]) } ∷ record { work = (record { line = 118; work = (module_work (codes "ping") (no_parts)); condition = (no_expressions); loop = None; register = None; vars = (no_parts); notify = ([]); changed_when = None; failed_when = None; attempts = None; ignore_errors = None }); name = (Some (codes "h116")); topics = ([]) } ∷ record { work = (record { line = 119; work = (module_work (codes "ping") (no_parts)); condition = (no_expressions); loop = None; register = None; vars = (no_parts); notify = ([]); changed_when = None; failed_when = None; attempts = None; ignore_errors = None }); name = (Some (codes "h117")); topics = ([]) } ∷ record { work = (record { line = 120; work = (module_work (codes "ping") (no_parts)); condition = (no_expressions); loop = None; register = None; vars = (no_parts); notify = ([]); changed_when = None; failed_when = None; attempts = None; ignore_errors = None }); name = (Some (codes "h118")); topics = ([]) } ∷ record { work = (record { line = 121; work = (module_work (codes "ping") (no_parts)); condition = (no_expressions); loop = None; register = None; vars = (no_parts); notify = ([]); changed_when = None; failed_when = None; attempts = None; ignore_errors = None }); name = (Some (codes "h119")); topics = ([]) } ∷ record { work = (record { line = 122; work = (module_work (codes "ping") (no_parts)); condition = (no_expressions); loop = None; register = None; vars = (no_parts); notify = ([]); changed_when = None; failed_when = None; attempts = None; ignore_errors = None }); name = (Some (codes "h120")); topics = ([]) } ∷ record { work = (record { line = 123; work = (module_work (codes "ping") (no_parts)); condition = (no_expressions); loop = None; register = None; vars = (no_parts); notify = ([]); changed_when = None; failed_when = None; attempts = None; ignore_errors = None }); name = (Some (codes "h121")); topics = ([]) } ∷ record { work = (record { line = 124; work = (module_work (codes "ping") (no_parts)); condition = (no_expressions); loop = None; register = None; vars = (no_parts); notify = ([]); changed_when = None; failed_when = None; attempts = None; ignore_errors = None }); name = (Some (codes "h122")); topics = ([]) } ∷ record { work = (record { line = 125; work = (module_work (codes "ping") (no_parts)); condition = (no_expressions); loop = None; register = None; vars = (no_parts); notify = ([]); changed_when = None; failed_when = None; attempts = None; ignore_errors = None }); name = (Some (codes "h123")); topics = ([]) } ∷ record { work = (record { line = 126; work = (module_work (codes "ping") (no_parts)); condition = (no_expressions); loop = None; register = None; vars = (no_parts); notify = ([]); changed_when = None; failed_when = None; attempts = None; ignore_errors = None }); name = (Some (codes "h124")); topics = ([]) } ∷ record { work = (record { line = 127; work = (module_work (codes "ping") (no_parts)); condition = (no_expressions); loop = None; register = None; vars = (no_parts); notify = ([]); changed_when = None; failed_when = None; attempts = None; ignore_errors = None }); name = (Some (codes "h125")); topics = ([]) } ∷ record { work = (record { line = 128; work = (module_work (codes "ping") (no_parts)); condition = (no_expressions); loop = None; register = None; vars = (no_parts); notify = ([]); changed_when = None; failed_when = None; attempts = None; ignore_errors = None }); name = (Some (codes "h126")); topics = ([]) } ∷ record { work = (record { line = 129; work = (module_work (codes "ping") (no_parts)); condition = (no_expressions); loop = None; register = None; vars = (no_parts); notify = ([]); changed_when = None; failed_when = None; attempts = None; ignore_errors = None }); name = (Some (codes "h127")); topics = ([]) } ∷ record { work = (record { line = 130; work = (module_work (codes "ping") (no_parts)); condition = (no_expressions); loop = None; register = None; vars = (no_parts); notify = ([]); changed_when = None; failed_when = None; attempts = None; ignore_errors = None }); name = (Some (codes "h128")); topics = ([]) } ∷ record { work = (record { line = 131; work = (module_work (codes "ping") (no_parts)); condition = (no_expressions); loop = None; register = None; vars = (no_parts); notify = ([]); changed_when = None; failed_when = None; attempts = None; ignore_errors = None }); name = (Some (codes "h129")); topics = ([]) } ∷ record { work = (record { line = 132; work = (module_work (codes "ping") (no_parts)); condition = (no_expressions); loop = None; register = None; vars = (no_parts); notify = ([]); changed_when = None; failed_when = None; attempts = None; ignore_errors = None }); name = (Some (codes "h130")); topics = ([]) } ∷ record { work = (record { line = 133; work = (module_work (codes "ping") (no_parts)); condition = (no_expressions); loop = None; register = None; vars = (no_parts); notify = ([]); changed_when = None; failed_when = None; attempts = None; ignore_errors = None }); name = (Some (codes "h131")); topics = ([]) } ∷ record { work = (record { line = 134; work = (module_work (codes "ping") (no_parts)); condition = (no_expressions); loop = None; register = None; vars = (no_parts); notify = ([]); changed_when = None; failed_when = None; attempts = None; ignore_errors = None }); name = (Some (codes "h132")); topics = ([]) } ∷ record { work = (record { line = 135; work = (module_work (codes "ping") (no_parts)); condition = (no_expressions); loop = None; register = None; vars = (no_parts); notify = ([]); changed_when = None; failed_when = None; attempts = None; ignore_errors = None }); name = (Some (codes "h133")); topics = ([]) } ∷ record { work = (record { line = 136; work = (module_work (codes "ping") (no_parts)); condition = (no_expressions); loop = None; register = None; vars = (no_parts); notify = ([]); changed_when = None; failed_when = None; attempts = None; ignore_errors = None }); name = (Some (codes "h134")); topics = ([]) } ∷ record { work = (record { line = 137; work = (module_work (codes "ping") (no_parts)); condition = (no_expressions); loop = None; register = None; vars = (no_parts); notify = ([]); changed_when = None; failed_when = None; attempts = None; ignore_errors = None }); name = (Some (codes "h135")); topics = ([]) } ∷ record { work = (record { line = 138; work = (module_work (codes "ping") (no_parts)); condition = (no_expressions); loop = None; register = None; vars = (no_parts); notify = ([]); changed_when = None; failed_when = None; attempts = None; ignore_errors = None }); name = (Some (codes "h136")); topics = ([]) } ∷ record { work = (record { line = 139; work = (module_work (codes "ping") (no_parts)); condition = (no_expressions); loop = None; register = None; vars = (no_parts); notify = ([]); changed_when = None; failed_when = None; attempts = None; ignore_errors = None }); name = (Some (codes "h137")); topics = ([]) } ∷ record { work = (record { line = 140; work = (module_work (codes "ping") (no_parts)); condition = (no_expressions); loop = None; register = None; vars = (no_parts); notify = ([]); changed_when = None; failed_when = None; attempts = None; ignore_errors = None }); name = (Some (codes "h138")); topics = ([]) } ∷ record { work = (record { line = 141; work = (module_work (codes "ping") (no_parts)); condition = (no_expressions); loop = None; register = None; vars = (no_parts); notify = ([]); changed_when = None; failed_when = None; attempts = None; ignore_errors = None }); name = (Some (codes "h139")); topics = ([]) } ∷ record { work = (record { line = 142; work = (module_work (codes "ping") (no_parts)); condition = (no_expressions); loop = None; register = None; vars = (no_parts); notify = ([]); changed_when = None; failed_when = None; attempts = None; ignore_errors = None }); name = (Some (codes "h140")); topics = ([]) } ∷ record { work = (record { line = 143; work = (module_work (codes "ping") (no_parts)); condition = (no_expressions); loop = None; register = None; vars = (no_parts); notify = ([]); changed_when = None; failed_when = None; attempts = None; ignore_errors = None }); name = (Some (codes "h141")); topics = ([]) } ∷ record { work = (record { line = 144; work = (module_work (codes "ping") (no_parts)); condition = (no_expressions); loop = None; register = None; vars = (no_parts); notify = ([]); changed_when = None; failed_when = None; attempts = None; ignore_errors = None }); name = (Some (codes "h142")); topics = ([]) } ∷ record { work = (record { line = 145; work = (module_work (codes "ping") (no_parts)); condition = (no_expressions); loop = None; register = None; vars = (no_parts); notify = ([]); changed_when = None; failed_when = None; attempts = None; ignore_errors = None }); name = (Some (codes "h143")); topics = ([]) } ∷ record { work = (record { line = 146; work = (module_work (codes "ping") (no_parts)); condition = (no_expressions); loop = None; register = None; vars = (no_parts); notify = ([]); changed_when = None; failed_when = None; attempts = None; ignore_errors = None }); name = (Some (codes "h144")); topics = ([]) } ∷ record { work = (record { line = 147; work = (module_work (codes "ping") (no_parts)); condition = (no_expressions); loop = None; register = None; vars = (no_parts); notify = ([]); changed_when = None; failed_when = None; attempts = None; ignore_errors = None }); name = (Some (codes "h145")); topics = ([]) } ∷ record { work = (record { line = 148; work = (module_work (codes "ping") (no_parts)); condition = (no_expressions); loop = None; register = None; vars = (no_parts); notify = ([]); changed_when = None; failed_when = None; attempts = None; ignore_errors = None }); name = (Some (codes "h146")); topics = ([]) } ∷ record { work = (record { line = 149; work = (module_work (codes "ping") (no_parts)); condition = (no_expressions); loop = None; register = None; vars = (no_parts); notify = ([]); changed_when = None; failed_when = None; attempts = None; ignore_errors = None }); name = (Some (codes "h147")); topics = ([]) } ∷ record { work = (record { line = 150; work = (module_work (codes "ping") (no_parts)); condition = (no_expressions); loop = None; register = None; vars = (no_parts); notify = ([]); changed_when = None; failed_when = None; attempts = None; ignore_errors = None }); name = (Some (codes "h148")); topics = ([]) } ∷ record { work = (record { line = 151; work = (module_work (codes "ping") (no_parts)); condition = (no_expressions); loop = None; register = None; vars = (no_parts); notify = ([]); changed_when = None; failed_when = None; attempts = None; ignore_errors = None }); name = (Some (codes "h149")); topics = ([]) } ∷ record { work = (record { line = 152; work = (module_work (codes "ping") (no_parts)); condition = (no_expressions); loop = None; register = None; vars = (no_parts); notify = ([]); changed_when = None; failed_when = None; attempts = None; ignore_errors = None }); name = (Some (codes "h150")); topics = ([]) } ∷ record { work = (record { line = 153; work = (module_work (codes "ping") (no_parts)); condition = (no_expressions); loop = None; register = None; vars = (no_parts); notify = ([]); changed_when = None; failed_when = None; attempts = None; ignore_errors = None }); name = (Some (codes "h151")); topics = ([]) } ∷ record { work = (record { line = 154; work = (module_work (codes "ping") (no_parts)); condition = (no_expressions); loop = None; register = None; vars = (no_parts); notify = ([]); changed_when = None; failed_when = None; attempts = None; ignore_errors = None }); name = (Some (codes "h152")); topics = ([]) } ∷ record { work = (record { line = 155; work = (module_work (codes "ping") (no_parts)); condition = (no_expressions); loop = None; register = None; vars = (no_parts); notify = ([]); changed_when = None; failed_when = None; attempts = None; ignore_errors = None }); name = (Some (codes "h153")); topics = ([]) } ∷ record { work = (record { line = 156; work = (module_work (codes "ping") (no_parts)); condition = (no_expressions); loop = None; register = None; vars = (no_parts); notify = ([]); changed_when = None; failed_when = None; attempts = None; ignore_errors = None }); name = (Some (codes "h154")); topics = ([]) } ∷ record { work = (record { line = 157; work = (module_work (codes "ping") (no_parts)); condition = (no_expressions); loop = None; register = None; vars = (no_parts); notify = ([]); changed_when = None; failed_when = None; attempts = None; ignore_errors = None }); name = (Some (codes "h155")); topics = ([]) } ∷ record { work = (record { line = 158; work = (module_work (codes "ping") (no_parts)); condition = (no_expressions); loop = None; register = None; vars = (no_parts); notify = ([]); changed_when = None; failed_when = None; attempts = None; ignore_errors = None }); name = (Some (codes "h156")); topics = ([]) } ∷ record { work = (record { line = 159; work = (module_work (codes "ping") (no_parts)); condition = (no_expressions); loop = None; register = None; vars = (no_parts); notify = ([]); changed_when = None; failed_when = None; attempts = None; ignore_errors = None }); name = (Some (codes "h157")); topics = ([]) } ∷ record { work = (record { line = 160; work = (module_work (codes "ping") (no_parts)); condition = (no_expressions); loop = None; register = None; vars = (no_parts); notify = ([]); changed_when = None; failed_when = None; attempts = None; ignore_errors = None }); name = (Some (codes "h158")); topics = ([]) } ∷ record { work = (record { line = 161; work = (module_work (codes "ping") (no_parts)); condition = (no_expressions); loop = None; register = None; vars = (no_parts); notify = ([]); changed_when = None; failed_when = None; attempts = None; ignore_errors = None }); name = (Some (codes "h159")); topics = ([]) } ∷ record { work = (record { line = 162; work = (module_work (codes "ping") (no_parts)); condition = (no_expressions); loop = None; register = None; vars = (no_parts); notify = ([]); changed_when = None; failed_when = None; attempts = None; ignore_errors = None }); name = (Some (codes "h160")); topics = ([]) } ∷ record { work = (record { line = 163; work = (module_work (codes "ping") (no_parts)); condition = (no_expressions); loop = None; register = None; vars = (no_parts); notify = ([]); changed_when = None; failed_when = None; attempts = None; ignore_errors = None }); name = (Some (codes "h161")); topics = ([]) } ∷ record { work = (record { line = 164; work = (module_work (codes "ping") (no_parts)); condition = (no_expressions); loop = None; register = None; vars = (no_parts); notify = ([]); changed_when = None; failed_when = None; attempts = None; ignore_errors = None }); name = (Some (codes "h162")); topics = ([]) } ∷ record { work = (record { line = 165; work = (module_work (codes "ping") (no_parts)); condition = (no_expressions); loop = None; register = None; vars = (no_parts); notify = ([]); changed_when = None; failed_when = None; attempts = None; ignore_errors = None }); name = (Some (codes "h163")); topics = ([]) } ∷ record { work = (record { line = 166; work = (module_work (codes "ping") (no_parts)); condition = (no_expressions); loop = None; register = None; vars = (no_parts); notify = ([]); changed_when = None; failed_when = None; attempts = None; ignore_errors = None }); name = (Some (codes "h164")); topics = ([]) } ∷ record { work = (record { line = 167; work = (module_work (codes "ping") (no_parts)); condition = (no_expressions); loop = None; register = None; vars = (no_parts); notify = ([]); changed_when = None; failed_when = None; attempts = None; ignore_errors = None }); name = (Some (codes "h165")); topics = ([]) } ∷ record { work = (record { line = 168; work = (module_work (codes "ping") (no_parts)); condition = (no_expressions); loop = None; register = None; vars = (no_parts); notify = ([]); changed_when = None; failed_when = None; attempts = None; ignore_errors = None }); name = (Some (codes "h166")); topics = ([]) } ∷ record { work = (record { line = 169; work = (module_work (codes "ping") (no_parts)); condition = (no_expressions); loop = None; register = None; vars = (no_parts); notify = ([]); changed_when = None; failed_when = None; attempts = None; ignore_errors = None }); name = (Some (codes "h167")); topics = ([]) } ∷ record { work = (record { line = 170; work = (module_work (codes "ping") (no_parts)); condition = (no_expressions); loop = None; register = None; vars = (no_parts); notify = ([]); changed_when = None; failed_when = None; attempts = None; ignore_errors = None }); name = (Some (codes "h168")); topics = ([]) } ∷ record { work = (record { line = 171; work = (module_work (codes "ping") (no_parts)); condition = (no_expressions); loop = None; register = None; vars = (no_parts); notify = ([]); changed_when = None; failed_when = None; attempts = None; ignore_errors = None }); name = (Some (codes "h169")); topics = ([]) } ∷ record { work = (record { line = 172; work = (module_work (codes "ping") (no_parts)); condition = (no_expressions); loop = None; register = None; vars = (no_parts); notify = ([]); changed_when = None; failed_when = None; attempts = None; ignore_errors = None }); name = (Some (codes "h170")); topics = ([]) } ∷ record { work = (record { line = 173; work = (module_work (codes "ping") (no_parts)); condition = (no_expressions); loop = None; register = None; vars = (no_parts); notify = ([]); changed_when = None; failed_when = None; attempts = None; ignore_errors = None }); name = (Some (codes "h171")); topics = ([]) } ∷ record { work = (record { line = 174; work = (module_work (codes "ping") (no_parts)); condition = (no_expressions); loop = None; register = None; vars = (no_parts); notify = ([]); changed_when = None; failed_when = None; attempts = None; ignore_errors = None }); name = (Some (codes "h172")); topics = ([]) } ∷ record { work = (record { line = 175; work = (module_work (codes "ping") (no_parts)); condition = (no_expressions); loop = None; register = None; vars = (no_parts); notify = ([]); changed_when = None; failed_when = None; attempts = None; ignore_errors = None }); name = (Some (codes "h173")); topics = ([]) } ∷ record { work = (record { line = 176; work = (module_work (codes "ping") (no_parts)); condition = (no_expressions); loop = None; register = None; vars = (no_parts); notify = ([]); changed_when = None; failed_when = None; attempts = None; ignore_errors = None }); name = (Some (codes "h174")); topics = ([]) } ∷ record { work = (record { line = 177; work = (module_work (codes "ping") (no_parts)); condition = (no_expressions); loop = None; register = None; vars = (no_parts); notify = ([]); changed_when = None; failed_when = None; attempts = None; ignore_errors = None }); name = (Some (codes "h175")); topics = ([]) } ∷ record { work = (record { line = 178; work = (module_work (codes "ping") (no_parts)); condition = (no_expressions); loop = None; register = None; vars = (no_parts); notify = ([]); changed_when = None; failed_when = None; attempts = None; ignore_errors = None }); name = (Some (codes "h176")); topics = ([]) } ∷ record { work = (record { line = 179; work = (module_work (codes "ping") (no_parts)); condition = (no_expressions); loop = None; register = None; vars = (no_parts); notify = ([]); changed_when = None; failed_when = None; attempts = None; ignore_errors = None }); name = (Some (codes "h177")); topics = ([]) } ∷ record { work = (record { line = 180; work = (module_work (codes "ping") (no_parts)); condition = (no_expressions); loop = None; register = None; vars = (no_parts); notify = ([]); changed_when = None; failed_when = None; attempts = None; ignore_errors = None }); name = (Some (codes "h178")); topics = ([]) } ∷ record { work = (record { line = 181; work = (module_work (codes "ping") (no_parts)); condition = (no_expressions); loop = None; register = None; vars = (no_parts); notify = ([]); changed_when = None; failed_when = None; attempts = None; ignore_errors = None }); name = (Some (codes "h179")); topics = ([]) } ∷ record { work = (record { line = 182; work = (module_work (codes "ping") (no_parts)); condition = (no_expressions); loop = None; register = None; vars = (no_parts); notify = ([]); changed_when = None; failed_when = None; attempts = None; ignore_errors = None }); name = (Some (codes "h180")); topics = ([]) } ∷ record { work = (record { line = 183; work = (module_work (codes "ping") (no_parts)); condition = (no_expressions); loop = None; register = None; vars = (no_parts); notify = ([]); changed_when = None; failed_when = None; attempts = None; ignore_errors = None }); name = (Some (codes "h181")); topics = ([]) } ∷ record { work = (record { line = 184; work = (module_work (codes "ping") (no_parts)); condition = (no_expressions); loop = None; register = None; vars = (no_parts); notify = ([]); changed_when = None; failed_when = None; attempts = None; ignore_errors = None }); name = (Some (codes "h182")); topics = ([]) } ∷ record { work = (record { line = 185; work = (module_work (codes "ping") (no_parts)); condition = (no_expressions); loop = None; register = None; vars = (no_parts); notify = ([]); changed_when = None; failed_when = None; attempts = None; ignore_errors = None }); name = (Some (codes "h183")); topics = ([]) } ∷ record { work = (record { line = 186; work = (module_work (codes "ping") (no_parts)); condition = (no_expressions); loop = None; register = None; vars = (no_parts); notify = ([]); changed_when = None; failed_when = None; attempts = None; ignore_errors = None }); name = (Some (codes "h184")); topics = ([]) } ∷ record { work = (record { line = 187; work = (module_work (codes "ping") (no_parts)); condition = (no_expressions); loop = None; register = None; vars = (no_parts); notify = ([]); changed_when = None; failed_when = None; attempts = None; ignore_errors = None }); name = (Some (codes "h185")); topics = ([]) } ∷ record { work = (record { line = 188; work = (module_work (codes "ping") (no_parts)); condition = (no_expressions); loop = None; register = None; vars = (no_parts); notify = ([]); changed_when = None; failed_when = None; attempts = None; ignore_errors = None }); name = (Some (codes "h186")); topics = ([]) } ∷ record { work = (record { line = 189; work = (module_work (codes "ping") (no_parts)); condition = (no_expressions); loop = None; register = None; vars = (no_parts); notify = ([]); changed_when = None; failed_when = None; attempts = None; ignore_errors = None }); name = (Some (codes "h187")); topics = ([]) } ∷ record { work = (record { line = 190; work = (module_work (codes "ping") (no_parts)); condition = (no_expressions); loop = None; register = None; vars = (no_parts); notify = ([]); changed_when = None; failed_when = None; attempts = None; ignore_errors = None }); name = (Some (codes "h188")); topics = ([]) } ∷ record { work = (record { line = 191; work = (module_work (codes "ping") (no_parts)); condition = (no_expressions); loop = None; register = None; vars = (no_parts); notify = ([]); changed_when = None; failed_when = None; attempts = None; ignore_errors = None }); name = (Some (codes "h189")); topics = ([]) } ∷ record { work = (record { line = 192; work = (module_work (codes "ping") (no_parts)); condition = (no_expressions); loop = None; register = None; vars = (no_parts); notify = ([]); changed_when = None; failed_when = None; attempts = None; ignore_errors = None }); name = (Some (codes "h190")); topics = ([]) } ∷ record { work = (record { line = 193; work = (module_work (codes "ping") (no_parts)); condition = (no_expressions); loop = None; register = None; vars = (no_parts); notify = ([]); changed_when = None; failed_when = None; attempts = None; ignore_errors = None }); name = (Some (codes "h191")); topics = ([]) } ∷ record { work = (record { line = 194; work = (module_work (codes "ping") (no_parts)); condition = (no_expressions); loop = None; register = None; vars = (no_parts); notify = ([]); changed_when = None; failed_when = None; attempts = None; ignore_errors = None }); name = (Some (codes "h192")); topics = ([]) } ∷ record { work = (record { line = 195; work = (module_work (codes "ping") (no_parts)); condition = (no_expressions); loop = None; register = None; vars = (no_parts); notify = ([]); changed_when = None; failed_when = None; attempts = None; ignore_errors = None }); name = (Some (codes "h193")); topics = ([]) } ∷ record { work = (record { line = 196; work = (module_work (codes "ping") (no_parts)); condition = (no_expressions); loop = None; register = None; vars = (no_parts); notify = ([]); changed_when = None; failed_when = None; attempts = None; ignore_errors = None }); name = (Some (codes "h194")); topics = ([]) } ∷ record { work = (record { line = 197; work = (module_work (codes "ping") (no_parts)); condition = (no_expressions); loop = None; register = None; vars = (no_parts); notify = ([]); changed_when = None; failed_when = None; attempts = None; ignore_errors = None }); name = (Some (codes "h195")); topics = ([]) } ∷ record { work = (record { line = 198; work = (module_work (codes "ping") (no_parts)); condition = (no_expressions); loop = None; register = None; vars = (no_parts); notify = ([]); changed_when = None; failed_when = None; attempts = None; ignore_errors = None }); name = (Some (codes "h196")); topics = ([]) } ∷ record { work = (record { line = 199; work = (module_work (codes "ping") (no_parts)); condition = (no_expressions); loop = None; register = None; vars = (no_parts); notify = ([]); changed_when = None; failed_when = None; attempts = None; ignore_errors = None }); name = (Some (codes "h197")); topics = ([]) } ∷ record { work = (record { line = 200; work = (module_work (codes "ping") (no_parts)); condition = (no_expressions); loop = None; register = None; vars = (no_parts); notify = ([]); changed_when = None; failed_when = None; attempts = None; ignore_errors = None }); name = (Some (codes "h198")); topics = ([]) } ∷ record { work = (record { line = 201; work = (module_work (codes "ping") (no_parts)); condition = (no_expressions); loop = None; register = None; vars = (no_parts); notify = ([]); changed_when = None; failed_when = None; attempts = None; ignore_errors = None }); name = (Some (codes "h199")); topics = ([]) } ∷ record { work = (record { line = 202; work = (module_work (codes "ping") (no_parts)); condition = (no_expressions); loop = None; register = None; vars = (no_parts); notify = ([]); changed_when = None; failed_when = None; attempts = None; ignore_errors = None }); name = (Some (codes "h200")); topics = ([]) } ∷ record { work = (record { line = 203; work = (module_work (codes "ping") (no_parts)); condition = (no_expressions); loop = None; register = None; vars = (no_parts); notify = ([]); changed_when = None; failed_when = None; attempts = None; ignore_errors = None }); name = (Some (codes "h201")); topics = ([]) } ∷ record { work = (record { line = 204; work = (module_work (codes "ping") (no_parts)); condition = (no_expressions); loop = None; register = None; vars = (no_parts); notify = ([]); changed_when = None; failed_when = None; attempts = None; ignore_errors = None }); name = (Some (codes "h202")); topics = ([]) } ∷ record { work = (record { line = 205; work = (module_work (codes "ping") (no_parts)); condition = (no_expressions); loop = None; register = None; vars = (no_parts); notify = ([]); changed_when = None; failed_when = None; attempts = None; ignore_errors = None }); name = (Some (codes "h203")); topics = ([]) } ∷ record { work = (record { line = 206; work = (module_work (codes "ping") (no_parts)); condition = (no_expressions); loop = None; register = None; vars = (no_parts); notify = ([]); changed_when = None; failed_when = None; attempts = None; ignore_errors = None }); name = (Some (codes "h204")); topics = ([]) } ∷ record { work = (record { line = 207; work = (module_work (codes "ping") (no_parts)); condition = (no_expressions); loop = None; register = None; vars = (no_parts); notify = ([]); changed_when = None; failed_when = None; attempts = None; ignore_errors = None }); name = (Some (codes "h205")); topics = ([]) } ∷ record { work = (record { line = 208; work = (module_work (codes "ping") (no_parts)); condition = (no_expressions); loop = None; register = None; vars = (no_parts); notify = ([]); changed_when = None; failed_when = None; attempts = None; ignore_errors = None }); name = (Some (codes "h206")); topics = ([]) } ∷ record { work = (record { line = 209; work = (module_work (codes "ping") (no_parts)); condition = (no_expressions); loop = None; register = None; vars = (no_parts); notify = ([]); changed_when = None; failed_when = None; attempts = None; ignore_errors = None }); name = (Some (codes "h207")); topics = ([]) } ∷ record { work = (record { line = 210; work = (module_work (codes "ping") (no_parts)); condition = (no_expressions); loop = None; register = None; vars = (no_parts); notify = ([]); changed_when = None; failed_when = None; attempts = None; ignore_errors = None }); name = (Some (codes "h208")); topics = ([]) } ∷ record { work = (record { line = 211; work = (module_work (codes "ping") (no_parts)); condition = (no_expressions); loop = None; register = None; vars = (no_parts); notify = ([]); changed_when = None; failed_when = None; attempts = None; ignore_errors = None }); name = (Some (codes "h209")); topics = ([]) } ∷ record { work = (record { line = 212; work = (module_work (codes "ping") (no_parts)); condition = (no_expressions); loop = None; register = None; vars = (no_parts); notify = ([]); changed_when = None; failed_when = None; attempts = None; ignore_errors = None }); name = (Some (codes "h210")); topics = ([]) } ∷ record { work = (record { line = 213; work = (module_work (codes "ping") (no_parts)); condition = (no_expressions); loop = None; register = None; vars = (no_parts); notify = ([]); changed_when = None; failed_when = None; attempts = None; ignore_errors = None }); name = (Some (codes "h211")); topics = ([]) } ∷ record { work = (record { line = 214; work = (module_work (codes "ping") (no_parts)); condition = (no_expressions); loop = None; register = None; vars = (no_parts); notify = ([]); changed_when = None; failed_when = None; attempts = None; ignore_errors = None }); name = (Some (codes "h212")); topics = ([]) } ∷ record { work = (record { line = 215; work = (module_work (codes "ping") (no_parts)); condition = (no_expressions); loop = None; register = None; vars = (no_parts); notify = ([]); changed_when = None; failed_when = None; attempts = None; ignore_errors = None }); name = (Some (codes "h213")); topics = ([]) } ∷ record { work = (record { line = 216; work = (module_work (codes "ping") (no_parts)); condition = (no_expressions); loop = None; register = None; vars = (no_parts); notify = ([]); changed_when = None; failed_when = None; attempts = None; ignore_errors = None }); name = (Some (codes "h214")); topics = ([]) } ∷ record { work = (record { line = 217; work = (module_work (codes "ping") (no_parts)); condition = (no_expressions); loop = None; register = None; vars = (no_parts); notify = ([]); changed_when = None; failed_when = None; attempts = None; ignore_errors = None }); name = (Some (codes "h215")); topics = ([]) } ∷ record { work = (record { line = 218; work = (module_work (codes "ping") (no_parts)); condition = (no_expressions); loop = None; register = None; vars = (no_parts); notify = ([]); changed_when = None; failed_when = None; attempts = None; ignore_errors = None }); name = (Some (codes "h216")); topics = ([]) } ∷ record { work = (record { line = 219; work = (module_work (codes "ping") (no_parts)); condition = (no_expressions); loop = None; register = None; vars = (no_parts); notify = ([]); changed_when = None; failed_when = None; attempts = None; ignore_errors = None }); name = (Some (codes "h217")); topics = ([]) } ∷ record { work = (record { line = 220; work = (module_work (codes "ping") (no_parts)); condition = (no_expressions); loop = None; register = None; vars = (no_parts); notify = ([]); changed_when = None; failed_when = None; attempts = None; ignore_errors = None }); name = (Some (codes "h218")); topics = ([]) } ∷ record { work = (record { line = 221; work = (module_work (codes "ping") (no_parts)); condition = (no_expressions); loop = None; register = None; vars = (no_parts); notify = ([]); changed_when = None; failed_when = None; attempts = None; ignore_errors = None }); name = (Some (codes "h219")); topics = ([]) } ∷ record { work = (record { line = 222; work = (module_work (codes "ping") (no_parts)); condition = (no_expressions); loop = None; register = None; vars = (no_parts); notify = ([]); changed_when = None; failed_when = None; attempts = None; ignore_errors = None }); name = (Some (codes "h220")); topics = ([]) } ∷ record { work = (record { line = 223; work = (module_work (codes "ping") (no_parts)); condition = (no_expressions); loop = None; register = None; vars = (no_parts); notify = ([]); changed_when = None; failed_when = None; attempts = None; ignore_errors = None }); name = (Some (codes "h221")); topics = ([]) } ∷ record { work = (record { line = 224; work = (module_work (codes "ping") (no_parts)); condition = (no_expressions); loop = None; register = None; vars = (no_parts); notify = ([]); changed_when = None; failed_when = None; attempts = None; ignore_errors = None }); name = (Some (codes "h222")); topics = ([]) } ∷ record { work = (record { line = 225; work = (module_work (codes "ping") (no_parts)); condition = (no_expressions); loop = None; register = None; vars = (no_parts); notify = ([]); changed_when = None; failed_when = None; attempts = None; ignore_errors = None }); name = (Some (codes "h223")); topics = ([]) } ∷ record { work = (record { line = 226; work = (module_work (codes "ping") (no_parts)); condition = (no_expressions); loop = None; register = None; vars = (no_parts); notify = ([]); changed_when = None; failed_when = None; attempts = None; ignore_errors = None }); name = (Some (codes "h224")); topics = ([]) } ∷ record { work = (record { line = 227; work = (module_work (codes "ping") (no_parts)); condition = (no_expressions); loop = None; register = None; vars = (no_parts); notify = ([]); changed_when = None; failed_when = None; attempts = None; ignore_errors = None }); name = (Some (codes "h225")); topics = ([]) } ∷ record { work = (record { line = 228; work = (module_work (codes "ping") (no_parts)); condition = (no_expressions); loop = None; register = None; vars = (no_parts); notify = ([]); changed_when = None; failed_when = None; attempts = None; ignore_errors = None }); name = (Some (codes "h226")); topics = ([]) } ∷ record { work = (record { line = 229; work = (module_work (codes "ping") (no_parts)); condition = (no_expressions); loop = None; register = None; vars = (no_parts); notify = ([]); changed_when = None; failed_when = None; attempts = None; ignore_errors = None }); name = (Some (codes "h227")); topics = ([]) } ∷ record { work = (record { line = 230; work = (module_work (codes "ping") (no_parts)); condition = (no_expressions); loop = None; register = None; vars = (no_parts); notify = ([]); changed_when = None; failed_when = None; attempts = None; ignore_errors = None }); name = (Some (codes "h228")); topics = ([]) } ∷ record { work = (record { line = 231; work = (module_work (codes "ping") (no_parts)); condition = (no_expressions); loop = None; register = None; vars = (no_parts); notify = ([]); changed_when = None; failed_when = None; attempts = None; ignore_errors = None }); name = (Some (codes "h229")); topics = ([]) } ∷ record { work = (record { line = 232; work = (module_work (codes "ping") (no_parts)); condition = (no_expressions); loop = None; register = None; vars = (no_parts); notify = ([]); changed_when = None; failed_when = None; attempts = None; ignore_errors = None }); name = (Some (codes "h230")); topics = ([]) } ∷ record { work = (record { line = 233; work = (module_work (codes "ping") (no_parts)); condition = (no_expressions); loop = None; register = None; vars = (no_parts); notify = ([]); changed_when = None; failed_when = None; attempts = None; ignore_errors = None }); name = (Some (codes "h231")); topics = ([]) } ∷ record { work = (record { line = 234; work = (module_work (codes "ping") (no_parts)); condition = (no_expressions); loop = None; register = None; vars = (no_parts); notify = ([]); changed_when = None; failed_when = None; attempts = None; ignore_errors = None }); name = (Some (codes "h232")); topics = ([]) } ∷ record { work = (record { line = 235; work = (module_work (codes "ping") (no_parts)); condition = (no_expressions); loop = None; register = None; vars = (no_parts); notify = ([]); changed_when = None; failed_when = None; attempts = None; ignore_errors = None }); name = (Some (codes "h233")); topics = ([]) } ∷ record { work = (record { line = 236; work = (module_work (codes "ping") (no_parts)); condition = (no_expressions); loop = None; register = None; vars = (no_parts); notify = ([]); changed_when = None; failed_when = None; attempts = None; ignore_errors = None }); name = (Some (codes "h234")); topics = ([]) } ∷ record { work = (record { line = 237; work = (module_work (codes "ping") (no_parts)); condition = (no_expressions); loop = None; register = None; vars = (no_parts); notify = ([]); changed_when = None; failed_when = None; attempts = None; ignore_errors = None }); name = (Some (codes "h235")); topics = ([]) } ∷ record { work = (record { line = 238; work = (module_work (codes "ping") (no_parts)); condition = (no_expressions); loop = None; register = None; vars = (no_parts); notify = ([]); changed_when = None; failed_when = None; attempts = None; ignore_errors = None }); name = (Some (codes "h236")); topics = ([]) } ∷ record { work = (record { line = 239; work = (module_work (codes "ping") (no_parts)); condition = (no_expressions); loop = None; register = None; vars = (no_parts); notify = ([]); changed_when = None; failed_when = None; attempts = None; ignore_errors = None }); name = (Some (codes "h237")); topics = ([]) } ∷ record { work = (record { line = 240; work = (module_work (codes "ping") (no_parts)); condition = (no_expressions); loop = None; register = None; vars = (no_parts); notify = ([]); changed_when = None; failed_when = None; attempts = None; ignore_errors = None }); name = (Some (codes "h238")); topics = ([]) } ∷ record { work = (record { line = 241; work = (module_work (codes "ping") (no_parts)); condition = (no_expressions); loop = None; register = None; vars = (no_parts); notify = ([]); changed_when = None; failed_when = None; attempts = None; ignore_errors = None }); name = (Some (codes "h239")); topics = ([]) } ∷ record { work = (record { line = 242; work = (module_work (codes "ping") (no_parts)); condition = (no_expressions); loop = None; register = None; vars = (no_parts); notify = ([]); changed_when = None; failed_when = None; attempts = None; ignore_errors = None }); name = (Some (codes "h240")); topics = ([]) } ∷ record { work = (record { line = 243; work = (module_work (codes "ping") (no_parts)); condition = (no_expressions); loop = None; register = None; vars = (no_parts); notify = ([]); changed_when = None; failed_when = None; attempts = None; ignore_errors = None }); name = (Some (codes "h241")); topics = ([]) } ∷ record { work = (record { line = 244; work = (module_work (codes "ping") (no_parts)); condition = (no_expressions); loop = None; register = None; vars = (no_parts); notify = ([]); changed_when = None; failed_when = None; attempts = None; ignore_errors = None }); name = (Some (codes "h242")); topics = ([]) } ∷ record { work = (record { line = 245; work = (module_work (codes "ping") (no_parts)); condition = (no_expressions); loop = None; register = None; vars = (no_parts); notify = ([]); changed_when = None; failed_when = None; attempts = None; ignore_errors = None }); name = (Some (codes "h243")); topics = ([]) } ∷ record { work = (record { line = 246; work = (module_work (codes "ping") (no_parts)); condition = (no_expressions); loop = None; register = None; vars = (no_parts); notify = ([]); changed_when = None; failed_when = None; attempts = None; ignore_errors = None }); name = (Some (codes "h244")); topics = ([]) } ∷ record { work = (record { line = 247; work = (module_work (codes "ping") (no_parts)); condition = (no_expressions); loop = None; register = None; vars = (no_parts); notify = ([]); changed_when = None; failed_when = None; attempts = None; ignore_errors = None }); name = (Some (codes "h245")); topics = ([]) } ∷ record { work = (record { line = 248; work = (module_work (codes "ping") (no_parts)); condition = (no_expressions); loop = None; register = None; vars = (no_parts); notify = ([]); changed_when = None; failed_when = None; attempts = None; ignore_errors = None }); name = (Some (codes "h246")); topics = ([]) } ∷ record { work = (record { line = 249; work = (module_work (codes "ping") (no_parts)); condition = (no_expressions); loop = None; register = None; vars = (no_parts); notify = ([]); changed_when = None; failed_when = None; attempts = None; ignore_errors = None }); name = (Some (codes "h247")); topics = ([]) } ∷ record { work = (record { line = 250; work = (module_work (codes "ping") (no_parts)); condition = (no_expressions); loop = None; register = None; vars = (no_parts); notify = ([]); changed_when = None; failed_when = None; attempts = None; ignore_errors = None }); name = (Some (codes "h248")); topics = ([]) } ∷ record { work = (record { line = 251; work = (module_work (codes "ping") (no_parts)); condition = (no_expressions); loop = None; register = None; vars = (no_parts); notify = ([]); changed_when = None; failed_when = None; attempts = None; ignore_errors = None }); name = (Some (codes "h249")); topics = ([]) } ∷ record { work = (record { line = 252; work = (module_work (codes "ping") (no_parts)); condition = (no_expressions); loop = None; register = None; vars = (no_parts); notify = ([]); changed_when = None; failed_when = None; attempts = None; ignore_errors = None }); name = (Some (codes "h250")); topics = ([]) } ∷ record { work = (record { line = 253; work = (module_work (codes "ping") (no_parts)); condition = (no_expressions); loop = None; register = None; vars = (no_parts); notify = ([]); changed_when = None; failed_when = None; attempts = None; ignore_errors = None }); name = (Some (codes "h251")); topics = ([]) } ∷ record { work = (record { line = 254; work = (module_work (codes "ping") (no_parts)); condition = (no_expressions); loop = None; register = None; vars = (no_parts); notify = ([]); changed_when = None; failed_when = None; attempts = None; ignore_errors = None }); name = (Some (codes "h252")); topics = ([]) } ∷ record { work = (record { line = 255; work = (module_work (codes "ping") (no_parts)); condition = (no_expressions); loop = None; register = None; vars = (no_parts); notify = ([]); changed_when = None; failed_when = None; attempts = None; ignore_errors = None }); name = (Some (codes "h253")); topics = ([]) } ∷ record { work = (record { line = 256; work = (module_work (codes "ping") (no_parts)); condition = (no_expressions); loop = None; register = None; vars = (no_parts); notify = ([]); changed_when = None; failed_when = None; attempts = None; ignore_errors = None }); name = (Some (codes "h254")); topics = ([]) } ∷ record { work = (record { line = 257; work = (module_work (codes "ping") (no_parts)); condition = (no_expressions); loop = None; register = None; vars = (no_parts); notify = ([]); changed_when = None; failed_when = None; attempts = None; ignore_errors = None }); name = (Some (codes "h255")); topics = ([]) } ∷ []); forces = false } ∷ []))
book_89 = refl

book_90 : book_from (builtins ++ ([])) (list (item (rec (field (codes "handlers") (list (item (rec (field (codes "name") (text (codes "h0")) (field (codes "register") (text (codes "r")) (field (codes "set_fact") (rec (field (codes "y") (text (120 ∷ 123 ∷ 123 ∷ 32 ∷ 115 ∷ 32 ∷ 125 ∷ 125 ∷ [])) (no_fields))) (no_fields))))) (item (rec (field (codes "fail") (rec (field (codes "msg") (text (codes "m")) (no_fields))) (field (codes "name") (text (codes "h1")) (no_fields)))) (no_items)))) (field (codes "hosts") (text (codes "all")) (field (codes "serial") (list (item (int (pos 1)) (item (int (pos 2)) (no_items)))) (field (codes "strategy") (text (codes "free")) (field (codes "tasks") (list (item (rec (field (codes "fail") null (no_fields))) (item (rec (field (codes "debug") (rec (field (codes "msg") (text (123 ∷ 123 ∷ 32 ∷ 97 ∷ 110 ∷ 115 ∷ 105 ∷ 98 ∷ 108 ∷ 101 ∷ 95 ∷ 112 ∷ 108 ∷ 97 ∷ 121 ∷ 95 ∷ 98 ∷ 97 ∷ 116 ∷ 99 ∷ 104 ∷ 32 ∷ 124 ∷ 32 ∷ 108 ∷ 101 ∷ 110 ∷ 103 ∷ 116 ∷ 104 ∷ 32 ∷ 125 ∷ 125 ∷ [])) (no_fields))) (field (codes "failed_when") (boolean false) (field (codes "notify") (text (codes "h1")) (no_fields))))) (no_items)))) (no_fields))))))) (no_items))) ≡ Ok ((record { line = 1; pattern = ((codes "all") ∷ []); gathering = None; vars = (no_parts); is_linear = false; serial = (host_count 1 ∷ host_count 2 ∷ []); pre_tasks = (no_steps); tasks = (task_step (record { line = 2; work = (fail_work (no_parts)); condition = (no_expressions); loop = None; register = None; vars = (no_parts); notify = ([]); changed_when = None; failed_when = None; attempts = None; ignore_errors = None }) (task_step (record { line = 3; work = (debug_work (part (codes "msg") (length_of (path (variable (codes "ansible_play_batch")) ([]))) (no_parts))); condition = (no_expressions); loop = None; register = None; vars = (no_parts); notify = ((codes "h1") ∷ []); changed_when = None; failed_when = (Some (expression (literal (boolean false)) (no_expressions))); attempts = None; ignore_errors = None }) (no_steps))); post_tasks = (no_steps); handlers = (record { work = (record { line = 4; work = (set_fact_work (part (codes "y") (concatenation (expression (literal (text (codes "x"))) (expression (path (variable (codes "s")) ([])) (no_expressions)))) (no_parts))); condition = (no_expressions); loop = None; register = (Some (codes "r")); vars = (no_parts); notify = ([]); changed_when = None; failed_when = None; attempts = None; ignore_errors = None }); name = (Some (codes "h0")); topics = ([]) } ∷ record { work = (record { line = 5; work = (fail_work (part (codes "msg") (literal (text (codes "m"))) (no_parts))); condition = (no_expressions); loop = None; register = None; vars = (no_parts); notify = ([]); changed_when = None; failed_when = None; attempts = None; ignore_errors = None }); name = (Some (codes "h1")); topics = ([]) } ∷ []); forces = false } ∷ []))
book_90 = refl

book_91 : book_from (builtins ++ ([])) (list (item (rec (field (codes "handlers") (list (item (rec (field (codes "name") (text (codes "h0")) (field (codes "register") (text (codes "s")) (field (codes "setup") null (no_fields))))) (no_items))) (field (codes "hosts") (text (codes "all")) (field (codes "serial") (text (53 ∷ 48 ∷ 37 ∷ [])) (field (codes "strategy") (text (codes "free")) (field (codes "tasks") (list (item (rec (field (codes "meta") (text (codes "flush_handlers")) (no_fields))) (no_items))) (field (codes "vars") (rec (field (codes "v1") (rec (field (codes "k") (int (pos 1)) (no_fields))) (no_fields))) (no_fields)))))))) (no_items))) ≡ Ok ((record { line = 1; pattern = ((codes "all") ∷ []); gathering = None; vars = (part (codes "v1") (literal (rec (field (codes "k") (int (pos 1)) (no_fields)))) (no_parts)); is_linear = false; serial = (percentage 50 ∷ []); pre_tasks = (no_steps); tasks = (flush_step 2 (no_steps)); post_tasks = (no_steps); handlers = (record { work = (record { line = 3; work = (module_work (codes "setup") (no_parts)); condition = (no_expressions); loop = None; register = (Some (codes "s")); vars = (no_parts); notify = ([]); changed_when = None; failed_when = None; attempts = None; ignore_errors = None }); name = (Some (codes "h0")); topics = ([]) } ∷ []); forces = false } ∷ []))
book_91 = refl

book_92 : book_from (builtins ++ ([])) (list (item (rec (field (codes "handlers") (list (item (rec (field (codes "name") (text (codes "h0")) (field (codes "stat") (rec (field (codes "path") (text (codes "p")) (no_fields))) (no_fields)))) (item (rec (field (codes "name") (text (codes "h1")) (field (codes "set_fact") (rec (field (codes "s") (list (item (int (pos 1)) (item (int (pos 2)) (no_items)))) (no_fields))) (field (codes "when") (list (item (text (codes "not (r is undefined or r is failed)")) (no_items))) (no_fields))))) (no_items)))) (field (codes "hosts") (text (codes "all")) (field (codes "strategy") (text (codes "free")) (field (codes "tasks") (list (item (rec (field (codes "always") (list (item (rec (field (codes "command") (text (codes "x")) (field (codes "when") (list (item (text (codes "s is defined and s is not failed")) (no_items))) (no_fields)))) (no_items))) (field (codes "block") (list (no_items)) (field (codes "rescue") (list (item (rec (field (codes "command") (rec (field (codes "cmd") (list (item null (no_items))) (no_fields))) (field (codes "loop") (list (item (int (pos 1)) (item (int (pos 2)) (no_items)))) (no_fields)))) (item (rec (field (codes "block") (list (no_items)) (no_fields))) (no_items)))) (no_fields))))) (item (rec (field (codes "assert") (rec (field (codes "that") (list (item (text (codes "r.failed is skipped")) (item (text (codes "opq.stdout is changed")) (no_items)))) (no_fields))) (field (codes "notify") (text (codes "h1")) (field (codes "register") (text (codes "s")) (no_fields))))) (item (rec (field (codes "block") (list (no_items)) (field (codes "ignore_errors") (boolean false) (field (codes "rescue") (list (no_items)) (no_fields))))) (item (rec (field (codes "loop") (list (item (int (pos 1)) (item (int (pos 2)) (no_items)))) (field (codes "register") (text (codes "s")) (field (codes "stat") (rec (field (codes "path") (text (codes "p")) (no_fields))) (no_fields))))) (no_items)))))) (no_fields)))))) (no_items))) ≡ Ok ((record { line = 1; pattern = ((codes "all") ∷ []); gathering = None; vars = (no_parts); is_linear = false; serial = ([]); pre_tasks = (no_steps); tasks = (block_step (record { line = 2; condition = (no_expressions); vars = (no_parts); ignore_errors = None }) (no_steps) (task_step (record { line = 3; work = (module_work (codes "command") (part (codes "cmd") (literal (list (item null (no_items)))) (no_parts))); condition = (no_expressions); loop = (Some (literal (list (item (int (pos 1)) (item (int (pos 2)) (no_items)))))); register = None; vars = (no_parts); notify = ([]); changed_when = None; failed_when = None; attempts = None; ignore_errors = None }) (block_step (record { line = 4; condition = (no_expressions); vars = (no_parts); ignore_errors = None }) (no_steps) (no_steps) (no_steps) (no_steps))) (task_step (record { line = 5; work = (module_work (codes "command") (part (codes "cmd") (literal (text (codes "x"))) (no_parts))); condition = (expression (conjunction (expression (defined (variable (codes "s")) ([])) (expression (negation (path_status is_failed (variable (codes "s")) ([]))) (no_expressions)))) (no_expressions)); loop = None; register = None; vars = (no_parts); notify = ([]); changed_when = None; failed_when = None; attempts = None; ignore_errors = None }) (no_steps)) (task_step (record { line = 6; work = (assert_work (conditions_are (expression (path_status is_skipped (variable (codes "r")) ((codes "failed") ∷ [])) (expression (path_status is_changed (variable (codes "opq")) ((codes "stdout") ∷ [])) (no_expressions)))) (no_parts)); condition = (no_expressions); loop = None; register = (Some (codes "s")); vars = (no_parts); notify = ((codes "h1") ∷ []); changed_when = None; failed_when = None; attempts = None; ignore_errors = None }) (block_step (record { line = 7; condition = (no_expressions); vars = (no_parts); ignore_errors = (Some false) }) (no_steps) (no_steps) (no_steps) (task_step (record { line = 8; work = (module_work (codes "stat") (part (codes "path") (literal (text (codes "p"))) (no_parts))); condition = (no_expressions); loop = (Some (literal (list (item (int (pos 1)) (item (int (pos 2)) (no_items)))))); register = (Some (codes "s")); vars = (no_parts); notify = ([]); changed_when = None; failed_when = None; attempts = None; ignore_errors = None }) (no_steps))))); post_tasks = (no_steps); handlers = (record { work = (record { line = 9; work = (module_work (codes "stat") (part (codes "path") (literal (text (codes "p"))) (no_parts))); condition = (no_expressions); loop = None; register = None; vars = (no_parts); notify = ([]); changed_when = None; failed_when = None; attempts = None; ignore_errors = None }); name = (Some (codes "h0")); topics = ([]) } ∷ record { work = (record { line = 10; work = (set_fact_work (part (codes "s") (literal (list (item (int (pos 1)) (item (int (pos 2)) (no_items))))) (no_parts))); condition = (expression (negation (disjunction (expression (negation (defined (variable (codes "r")) ([]))) (expression (path_status is_failed (variable (codes "r")) ([])) (no_expressions))))) (no_expressions)); loop = None; register = None; vars = (no_parts); notify = ([]); changed_when = None; failed_when = None; attempts = None; ignore_errors = None }); name = (Some (codes "h1")); topics = ([]) } ∷ []); forces = false } ∷ []))
book_92 = refl

book_93 : book_from (builtins ++ ([])) (list (item (rec (field (codes "handlers") (list (item (rec (field (codes "ping") null (field (codes "rescue") (list (no_items)) (no_fields)))) (no_items))) (field (codes "hosts") (text (codes "all")) (field (codes "tasks") (list (no_items)) (no_fields))))) (no_items))) ≡ Err (record { line = 2; code = 3 })
book_93 = refl

book_94 : book_from (builtins ++ ([])) (list (item (rec (field (codes "handlers") (list (item (rec (field (codes "ping") null (field (codes "vars") (rec (field (codes "item") (int (pos 1)) (no_fields))) (no_fields)))) (no_items))) (field (codes "hosts") (text (codes "all")) (field (codes "tasks") (list (item (rec (field (codes "ping") null (no_fields))) (no_items))) (no_fields))))) (no_items))) ≡ Ok ((record { line = 1; pattern = ((codes "all") ∷ []); gathering = None; vars = (no_parts); is_linear = true; serial = ([]); pre_tasks = (no_steps); tasks = (task_step (record { line = 2; work = (module_work (codes "ping") (no_parts)); condition = (no_expressions); loop = None; register = None; vars = (no_parts); notify = ([]); changed_when = None; failed_when = None; attempts = None; ignore_errors = None }) (no_steps)); post_tasks = (no_steps); handlers = (record { work = (record { line = 3; work = (module_work (codes "ping") (no_parts)); condition = (no_expressions); loop = None; register = None; vars = (part (codes "item") (literal (int (pos 1))) (no_parts)); notify = ([]); changed_when = None; failed_when = None; attempts = None; ignore_errors = None }); name = None; topics = ([]) } ∷ []); forces = false } ∷ []))
book_94 = refl

book_95 : book_from (builtins ++ ([])) (list (item (rec (field (codes "handlers") (list (item (rec (field (codes "ping") null (no_fields))) (item (rec (field (codes "ping") null (no_fields))) (no_items)))) (field (codes "hosts") (text (codes "all")) (field (codes "tasks") (list (no_items)) (no_fields))))) (no_items))) ≡ Ok ((record { line = 1; pattern = ((codes "all") ∷ []); gathering = None; vars = (no_parts); is_linear = true; serial = ([]); pre_tasks = (no_steps); tasks = (no_steps); post_tasks = (no_steps); handlers = (record { work = (record { line = 2; work = (module_work (codes "ping") (no_parts)); condition = (no_expressions); loop = None; register = None; vars = (no_parts); notify = ([]); changed_when = None; failed_when = None; attempts = None; ignore_errors = None }); name = None; topics = ([]) } ∷ record { work = (record { line = 3; work = (module_work (codes "ping") (no_parts)); condition = (no_expressions); loop = None; register = None; vars = (no_parts); notify = ([]); changed_when = None; failed_when = None; attempts = None; ignore_errors = None }); name = None; topics = ([]) } ∷ []); forces = false } ∷ []))
book_95 = refl

book_96 : book_from (builtins ++ ([])) (list (item (rec (field (codes "hosts") (int (pos 1)) (no_fields))) (no_items))) ≡ Err (record { line = 1; code = 4 })
book_96 = refl

book_97 : book_from (builtins ++ ([])) (list (item (rec (field (codes "hosts") (int (pos 5)) (no_fields))) (no_items))) ≡ Err (record { line = 1; code = 4 })
book_97 = refl

book_98 : book_from (builtins ++ ([])) (list (item (rec (field (codes "hosts") (list (item (text (codes "all")) (item (text ([])) (no_items)))) (no_fields))) (no_items))) ≡ Err (record { line = 1; code = 4 })
book_98 = refl

book_99 : book_from (builtins ++ ([])) (list (item (rec (field (codes "hosts") (list (item (text (codes "all:h1")) (no_items))) (field (codes "tasks") (list (item (rec (field (codes "ping") null (no_fields))) (no_items))) (no_fields)))) (no_items))) ≡ Ok ((record { line = 1; pattern = ((codes "all") ∷ (codes "h1") ∷ []); gathering = None; vars = (no_parts); is_linear = true; serial = ([]); pre_tasks = (no_steps); tasks = (task_step (record { line = 2; work = (module_work (codes "ping") (no_parts)); condition = (no_expressions); loop = None; register = None; vars = (no_parts); notify = ([]); changed_when = None; failed_when = None; attempts = None; ignore_errors = None }) (no_steps)); post_tasks = (no_steps); handlers = ([]); forces = false } ∷ []))
book_99 = refl

book_100 : book_from (builtins ++ ([])) (list (item (rec (field (codes "hosts") (list (item (text (codes "h3")) (item (text (codes "h1")) (no_items)))) (field (codes "serial") (int (pos 1)) (field (codes "tasks") (list (item (rec (field (codes "ping") null (no_fields))) (no_items))) (no_fields))))) (no_items))) ≡ Ok ((record { line = 1; pattern = ((codes "h3") ∷ (codes "h1") ∷ []); gathering = None; vars = (no_parts); is_linear = true; serial = (host_count 1 ∷ []); pre_tasks = (no_steps); tasks = (task_step (record { line = 2; work = (module_work (codes "ping") (no_parts)); condition = (no_expressions); loop = None; register = None; vars = (no_parts); notify = ([]); changed_when = None; failed_when = None; attempts = None; ignore_errors = None }) (no_steps)); post_tasks = (no_steps); handlers = ([]); forces = false } ∷ []))
book_100 = refl

book_101 : book_from (builtins ++ ([])) (list (item (rec (field (codes "hosts") (list (item (text (codes "web")) (item (text (codes "zz")) (no_items)))) (field (codes "tasks") (list (item (rec (field (codes "ping") null (no_fields))) (no_items))) (no_fields)))) (no_items))) ≡ Ok ((record { line = 1; pattern = ((codes "web") ∷ (codes "zz") ∷ []); gathering = None; vars = (no_parts); is_linear = true; serial = ([]); pre_tasks = (no_steps); tasks = (task_step (record { line = 2; work = (module_work (codes "ping") (no_parts)); condition = (no_expressions); loop = None; register = None; vars = (no_parts); notify = ([]); changed_when = None; failed_when = None; attempts = None; ignore_errors = None }) (no_steps)); post_tasks = (no_steps); handlers = ([]); forces = false } ∷ []))
book_101 = refl

book_102 : book_from (builtins ++ ([])) (list (item (rec (field (codes "hosts") (list (no_items)) (field (codes "tasks") (list (item (rec (field (codes "ping") null (no_fields))) (no_items))) (no_fields)))) (no_items))) ≡ Ok ((record { line = 1; pattern = ([]); gathering = None; vars = (no_parts); is_linear = true; serial = ([]); pre_tasks = (no_steps); tasks = (task_step (record { line = 2; work = (module_work (codes "ping") (no_parts)); condition = (no_expressions); loop = None; register = None; vars = (no_parts); notify = ([]); changed_when = None; failed_when = None; attempts = None; ignore_errors = None }) (no_steps)); post_tasks = (no_steps); handlers = ([]); forces = false } ∷ []))
book_102 = refl

book_103 : book_from (builtins ++ ([])) (list (item (rec (field (codes "hosts") (list (no_items)) (no_fields))) (no_items))) ≡ Ok ((record { line = 1; pattern = ([]); gathering = None; vars = (no_parts); is_linear = true; serial = ([]); pre_tasks = (no_steps); tasks = (no_steps); post_tasks = (no_steps); handlers = ([]); forces = false } ∷ []))
book_103 = refl

book_104 : book_from (builtins ++ ([])) (list (item (rec (field (codes "hosts") (text (126 ∷ 104 ∷ [])) (field (codes "tasks") (list (item (rec (field (codes "ping") null (no_fields))) (no_items))) (no_fields)))) (no_items))) ≡ Ok ((record { line = 1; pattern = ((126 ∷ 104 ∷ []) ∷ []); gathering = None; vars = (no_parts); is_linear = true; serial = ([]); pre_tasks = (no_steps); tasks = (task_step (record { line = 2; work = (module_work (codes "ping") (no_parts)); condition = (no_expressions); loop = None; register = None; vars = (no_parts); notify = ([]); changed_when = None; failed_when = None; attempts = None; ignore_errors = None }) (no_steps)); post_tasks = (no_steps); handlers = ([]); forces = false } ∷ []))
book_104 = refl

book_105 : book_from (builtins ++ ([])) (list (item (rec (field (codes "hosts") (text ([])) (no_fields))) (no_items))) ≡ Err (record { line = 1; code = 4 })
book_105 = refl

book_106 : book_from (builtins ++ ([])) (list (item (rec (field (codes "hosts") (text (codes " ")) (no_fields))) (no_items))) ≡ Ok ((record { line = 1; pattern = (([]) ∷ []); gathering = None; vars = (no_parts); is_linear = true; serial = ([]); pre_tasks = (no_steps); tasks = (no_steps); post_tasks = (no_steps); handlers = ([]); forces = false } ∷ []))
book_106 = refl

book_107 : book_from (builtins ++ ([])) (list (item (rec (field (codes "hosts") (text (codes " web , db ")) (field (codes "tasks") (list (item (rec (field (codes "ping") null (no_fields))) (no_items))) (no_fields)))) (no_items))) ≡ Ok ((record { line = 1; pattern = ((codes "web") ∷ (codes "db") ∷ []); gathering = None; vars = (no_parts); is_linear = true; serial = ([]); pre_tasks = (no_steps); tasks = (task_step (record { line = 2; work = (module_work (codes "ping") (no_parts)); condition = (no_expressions); loop = None; register = None; vars = (no_parts); notify = ([]); changed_when = None; failed_when = None; attempts = None; ignore_errors = None }) (no_steps)); post_tasks = (no_steps); handlers = ([]); forces = false } ∷ []))
book_107 = refl

book_108 : book_from (builtins ++ ([])) (list (item (rec (field (codes "hosts") (text (codes "!web")) (field (codes "tasks") (list (item (rec (field (codes "ping") null (no_fields))) (no_items))) (no_fields)))) (no_items))) ≡ Ok ((record { line = 1; pattern = ((codes "!web") ∷ []); gathering = None; vars = (no_parts); is_linear = true; serial = ([]); pre_tasks = (no_steps); tasks = (task_step (record { line = 2; work = (module_work (codes "ping") (no_parts)); condition = (no_expressions); loop = None; register = None; vars = (no_parts); notify = ([]); changed_when = None; failed_when = None; attempts = None; ignore_errors = None }) (no_steps)); post_tasks = (no_steps); handlers = ([]); forces = false } ∷ []))
book_108 = refl

book_109 : book_from (builtins ++ ([])) (list (item (rec (field (codes "hosts") (text (codes "*")) (field (codes "tasks") (list (item (rec (field (codes "ping") null (no_fields))) (no_items))) (no_fields)))) (no_items))) ≡ Ok ((record { line = 1; pattern = ((codes "*") ∷ []); gathering = None; vars = (no_parts); is_linear = true; serial = ([]); pre_tasks = (no_steps); tasks = (task_step (record { line = 2; work = (module_work (codes "ping") (no_parts)); condition = (no_expressions); loop = None; register = None; vars = (no_parts); notify = ([]); changed_when = None; failed_when = None; attempts = None; ignore_errors = None }) (no_steps)); post_tasks = (no_steps); handlers = ([]); forces = false } ∷ []))
book_109 = refl

book_110 : book_from (builtins ++ ([])) (list (item (rec (field (codes "hosts") (text (codes ",")) (field (codes "tasks") (list (item (rec (field (codes "ping") null (no_fields))) (no_items))) (no_fields)))) (no_items))) ≡ Ok ((record { line = 1; pattern = (([]) ∷ ([]) ∷ []); gathering = None; vars = (no_parts); is_linear = true; serial = ([]); pre_tasks = (no_steps); tasks = (task_step (record { line = 2; work = (module_work (codes "ping") (no_parts)); condition = (no_expressions); loop = None; register = None; vars = (no_parts); notify = ([]); changed_when = None; failed_when = None; attempts = None; ignore_errors = None }) (no_steps)); post_tasks = (no_steps); handlers = ([]); forces = false } ∷ []))
book_110 = refl

book_111 : book_from (builtins ++ ([])) (list (item (rec (field (codes "hosts") (text (codes ":")) (field (codes "tasks") (list (item (rec (field (codes "ping") null (no_fields))) (no_items))) (no_fields)))) (no_items))) ≡ Ok ((record { line = 1; pattern = (([]) ∷ ([]) ∷ []); gathering = None; vars = (no_parts); is_linear = true; serial = ([]); pre_tasks = (no_steps); tasks = (task_step (record { line = 2; work = (module_work (codes "ping") (no_parts)); condition = (no_expressions); loop = None; register = None; vars = (no_parts); notify = ([]); changed_when = None; failed_when = None; attempts = None; ignore_errors = None }) (no_steps)); post_tasks = (no_steps); handlers = ([]); forces = false } ∷ []))
book_111 = refl

book_112 : book_from (builtins ++ ([])) (list (item (rec (field (codes "hosts") (text (codes "WEB")) (field (codes "tasks") (list (item (rec (field (codes "ping") null (no_fields))) (no_items))) (no_fields)))) (no_items))) ≡ Ok ((record { line = 1; pattern = ((codes "WEB") ∷ []); gathering = None; vars = (no_parts); is_linear = true; serial = ([]); pre_tasks = (no_steps); tasks = (task_step (record { line = 2; work = (module_work (codes "ping") (no_parts)); condition = (no_expressions); loop = None; register = None; vars = (no_parts); notify = ([]); changed_when = None; failed_when = None; attempts = None; ignore_errors = None }) (no_steps)); post_tasks = (no_steps); handlers = ([]); forces = false } ∷ []))
book_112 = refl

book_113 : book_from (builtins ++ ([])) (list (item (rec (field (codes "hosts") (text (codes "a")) (field (codes "serial") (int (pos 1)) (field (codes "strategy") (text (codes "free")) (field (codes "tasks") (list (item (rec (field (codes "block") (list (no_items)) (field (codes "rescue") (list (item (rec (field (codes "register") (text (codes "s")) (field (codes "setup") null (field (codes "when") (text (codes "y is succeeded")) (no_fields))))) (no_items))) (no_fields)))) (item (rec (field (codes "debug") (rec (field (codes "msg") (rec (field (codes "k") (text (123 ∷ 123 ∷ 32 ∷ 115 ∷ 46 ∷ 99 ∷ 104 ∷ 97 ∷ 110 ∷ 103 ∷ 101 ∷ 100 ∷ 32 ∷ 124 ∷ 32 ∷ 108 ∷ 101 ∷ 110 ∷ 103 ∷ 116 ∷ 104 ∷ 32 ∷ 125 ∷ 125 ∷ [])) (no_fields))) (no_fields))) (no_fields))) (no_items)))) (no_fields)))))) (no_items))) ≡ Ok ((record { line = 1; pattern = ((codes "a") ∷ []); gathering = None; vars = (no_parts); is_linear = false; serial = (host_count 1 ∷ []); pre_tasks = (no_steps); tasks = (block_step (record { line = 2; condition = (no_expressions); vars = (no_parts); ignore_errors = None }) (no_steps) (task_step (record { line = 3; work = (module_work (codes "setup") (no_parts)); condition = (expression (negation (path_status is_failed (variable (codes "y")) ([]))) (no_expressions)); loop = None; register = (Some (codes "s")); vars = (no_parts); notify = ([]); changed_when = None; failed_when = None; attempts = None; ignore_errors = None }) (no_steps)) (no_steps) (task_step (record { line = 4; work = (debug_work (part (codes "msg") (record_of (part (codes "k") (length_of (path (variable (codes "s")) ((codes "changed") ∷ []))) (no_parts))) (no_parts))); condition = (no_expressions); loop = None; register = None; vars = (no_parts); notify = ([]); changed_when = None; failed_when = None; attempts = None; ignore_errors = None }) (no_steps))); post_tasks = (no_steps); handlers = ([]); forces = false } ∷ []))
book_113 = refl

book_114 : book_from (builtins ++ ([])) (list (item (rec (field (codes "hosts") (text (codes "a")) (field (codes "tasks") (list (item (rec (field (codes "ping") null (field (codes "register") (text (codes "r")) (no_fields)))) (item (rec (field (codes "command") (text (codes "x")) (field (codes "failed_when") (text (codes "zz is failed")) (field (codes "vars") (rec (field (codes "v2") (text (120 ∷ 123 ∷ 123 ∷ 32 ∷ 104 ∷ 111 ∷ 115 ∷ 116 ∷ 118 ∷ 97 ∷ 114 ∷ 115 ∷ 91 ∷ 105 ∷ 110 ∷ 118 ∷ 101 ∷ 110 ∷ 116 ∷ 111 ∷ 114 ∷ 121 ∷ 95 ∷ 104 ∷ 111 ∷ 115 ∷ 116 ∷ 110 ∷ 97 ∷ 109 ∷ 101 ∷ 93 ∷ 46 ∷ 114 ∷ 32 ∷ 124 ∷ 32 ∷ 108 ∷ 101 ∷ 110 ∷ 103 ∷ 116 ∷ 104 ∷ 32 ∷ 125 ∷ 125 ∷ [])) (no_fields))) (no_fields))))) (no_items)))) (no_fields)))) (no_items))) ≡ Ok ((record { line = 1; pattern = ((codes "a") ∷ []); gathering = None; vars = (no_parts); is_linear = true; serial = ([]); pre_tasks = (no_steps); tasks = (task_step (record { line = 2; work = (module_work (codes "ping") (no_parts)); condition = (no_expressions); loop = None; register = (Some (codes "r")); vars = (no_parts); notify = ([]); changed_when = None; failed_when = None; attempts = None; ignore_errors = None }) (task_step (record { line = 3; work = (module_work (codes "command") (part (codes "cmd") (literal (text (codes "x"))) (no_parts))); condition = (no_expressions); loop = None; register = None; vars = (part (codes "v2") (concatenation (expression (literal (text (codes "x"))) (expression (length_of (path (other this_host (codes "r")) ([]))) (no_expressions)))) (no_parts)); notify = ([]); changed_when = None; failed_when = (Some (expression (path_status is_failed (variable (codes "zz")) ([])) (no_expressions))); attempts = None; ignore_errors = None }) (no_steps))); post_tasks = (no_steps); handlers = ([]); forces = false } ∷ []))
book_114 = refl

book_115 : book_from (builtins ++ ([])) (list (item (rec (field (codes "hosts") (text (codes "a")) (field (codes "tasks") (list (item (rec (field (codes "register") (text (codes "s")) (field (codes "stat") (rec (field (codes "path") (text (codes "p")) (no_fields))) (no_fields)))) (no_items))) (no_fields)))) (no_items))) ≡ Ok ((record { line = 1; pattern = ((codes "a") ∷ []); gathering = None; vars = (no_parts); is_linear = true; serial = ([]); pre_tasks = (no_steps); tasks = (task_step (record { line = 2; work = (module_work (codes "stat") (part (codes "path") (literal (text (codes "p"))) (no_parts))); condition = (no_expressions); loop = None; register = (Some (codes "s")); vars = (no_parts); notify = ([]); changed_when = None; failed_when = None; attempts = None; ignore_errors = None }) (no_steps)); post_tasks = (no_steps); handlers = ([]); forces = false } ∷ []))
book_115 = refl

book_116 : book_from (builtins ++ ([])) (list (item (rec (field (codes "hosts") (text (codes "a")) (field (codes "tasks") (list (item (rec (field (codes "retries") (int (pos 1)) (field (codes "setup") null (field (codes "until") (text (codes "zz.changed")) (field (codes "vars") (rec (field (codes "v1") (rec (field (codes "k") (int (pos 1)) (no_fields))) (no_fields))) (field (codes "when") (text (104 ∷ 111 ∷ 115 ∷ 116 ∷ 118 ∷ 97 ∷ 114 ∷ 115 ∷ 91 ∷ 105 ∷ 110 ∷ 118 ∷ 101 ∷ 110 ∷ 116 ∷ 111 ∷ 114 ∷ 121 ∷ 95 ∷ 104 ∷ 111 ∷ 115 ∷ 116 ∷ 110 ∷ 97 ∷ 109 ∷ 101 ∷ 93 ∷ 46 ∷ 105 ∷ 110 ∷ 118 ∷ 32 ∷ 105 ∷ 115 ∷ 32 ∷ 100 ∷ 101 ∷ 102 ∷ 105 ∷ 110 ∷ 101 ∷ 100 ∷ [])) (no_fields))))))) (no_items))) (no_fields)))) (no_items))) ≡ Ok ((record { line = 1; pattern = ((codes "a") ∷ []); gathering = None; vars = (no_parts); is_linear = true; serial = ([]); pre_tasks = (no_steps); tasks = (task_step (record { line = 2; work = (module_work (codes "setup") (no_parts)); condition = (expression (defined (other this_host (codes "inv")) ([])) (no_expressions)); loop = None; register = None; vars = (part (codes "v1") (literal (rec (field (codes "k") (int (pos 1)) (no_fields)))) (no_parts)); notify = ([]); changed_when = None; failed_when = None; attempts = (Some (record { until = (expression (path (variable (codes "zz")) ((codes "changed") ∷ [])) (no_expressions)); retries = 1 })); ignore_errors = None }) (no_steps)); post_tasks = (no_steps); handlers = ([]); forces = false } ∷ []))
book_116 = refl

book_117 : book_from (builtins ++ ([])) (list (item (rec (field (codes "hosts") (text (codes "all")) (field (codes "ignore_errors") (boolean true) (no_fields)))) (no_items))) ≡ Err (record { line = 1; code = 3 })
book_117 = refl

book_118 : book_from (builtins ++ ([])) (list (item (rec (field (codes "hosts") (text (codes "all")) (field (codes "max_fail_percentage") (int (pos 1)) (no_fields)))) (no_items))) ≡ Err (record { line = 1; code = 3 })
book_118 = refl

book_119 : book_from (builtins ++ ([])) (list (item (rec (field (codes "hosts") (text (codes "all")) (field (codes "name") (text (123 ∷ 123 ∷ 32 ∷ 120 ∷ [])) (no_fields)))) (no_items))) ≡ Ok ((record { line = 1; pattern = ((codes "all") ∷ []); gathering = None; vars = (no_parts); is_linear = true; serial = ([]); pre_tasks = (no_steps); tasks = (no_steps); post_tasks = (no_steps); handlers = ([]); forces = false } ∷ []))
book_119 = refl
