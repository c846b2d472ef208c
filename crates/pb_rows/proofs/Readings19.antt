-- The books of cases as they are read, computed.
use Rattle.std.specs.Prelude.{◌≡◌, refl, pos, [], ◌∷◌, ◌++◌, true, false, Some, None, Ok, Err, codes}
use Rattle.pb_semantics.specs.Data.{null, boolean, int, text, list, rec, no_items, item, no_fields, field}
use Rattle.pb_language.specs.Expression.{equal, literal, path, conjunction, comparison, list_of, record_of, variable, no_expressions, expression, no_parts, part}
use Rattle.pb_language.specs.Book.{module_work, debug_work, set_fact_work, no_steps, task_step, block_step}
use Rattle.pb_language.specs.BookForm.{book_from}
use Rattle.pb_language.specs.Builtins.{builtins}

book_720 : book_from (builtins ++ ([])) (list (item (rec (field (codes "hosts") (text (codes "all")) (field (codes "tasks") (list (item (rec (field (codes "ping") null (field (codes "rescue") null (no_fields)))) (no_items))) (no_fields)))) (no_items))) ≡ Err (record { line = 2; code = 3 })
book_720 = refl

book_721 : book_from (builtins ++ ([])) (list (item (rec (field (codes "hosts") (text (codes "all")) (field (codes "tasks") (list (item (rec (field (codes "ping") null (field (codes "retries") (int (pos 0)) (field (codes "until") (text (codes "true")) (no_fields))))) (no_items))) (no_fields)))) (no_items))) ≡ Err (record { line = 2; code = 4 })
book_721 = refl

book_722 : book_from (builtins ++ ([])) (list (item (rec (field (codes "hosts") (text (codes "all")) (field (codes "tasks") (list (item (rec (field (codes "ping") null (field (codes "retries") (int (pos 1)) (field (codes "until") (text (codes "true")) (no_fields))))) (no_items))) (no_fields)))) (no_items))) ≡ Ok ((record { line = 1; pattern = ((codes "all") ∷ []); gathering = None; vars = (no_parts); is_linear = true; serial = ([]); pre_tasks = (no_steps); tasks = (task_step (record { line = 2; work = (module_work (codes "ping") (no_parts)); condition = (no_expressions); loop = None; register = None; vars = (no_parts); notify = ([]); changed_when = None; failed_when = None; attempts = (Some (record { until = (expression (literal (boolean true)) (no_expressions)); retries = 1 })); ignore_errors = None }) (no_steps)); post_tasks = (no_steps); handlers = ([]); forces = false } ∷ []))
book_722 = refl

book_723 : book_from (builtins ++ ([])) (list (item (rec (field (codes "hosts") (text (codes "all")) (field (codes "tasks") (list (item (rec (field (codes "ping") null (field (codes "retries") (int (pos 255)) (field (codes "until") (text (codes "true")) (no_fields))))) (no_items))) (no_fields)))) (no_items))) ≡ Ok ((record { line = 1; pattern = ((codes "all") ∷ []); gathering = None; vars = (no_parts); is_linear = true; serial = ([]); pre_tasks = (no_steps); tasks = (task_step (record { line = 2; work = (module_work (codes "ping") (no_parts)); condition = (no_expressions); loop = None; register = None; vars = (no_parts); notify = ([]); changed_when = None; failed_when = None; attempts = (Some (record { until = (expression (literal (boolean true)) (no_expressions)); retries = 255 })); ignore_errors = None }) (no_steps)); post_tasks = (no_steps); handlers = ([]); forces = false } ∷ []))
book_723 = refl

book_724 : book_from (builtins ++ ([])) (list (item (rec (field (codes "hosts") (text (codes "all")) (field (codes "tasks") (list (item (rec (field (codes "ping") null (field (codes "retries") (int (pos 256)) (field (codes "until") (text (codes "true")) (no_fields))))) (no_items))) (no_fields)))) (no_items))) ≡ Err (record { line = 2; code = 4 })
book_724 = refl

book_725 : book_from (builtins ++ ([])) (list (item (rec (field (codes "hosts") (text (codes "all")) (field (codes "tasks") (list (item (rec (field (codes "ping") null (field (codes "retries") (text (codes "3")) (field (codes "until") (text (codes "true")) (no_fields))))) (no_items))) (no_fields)))) (no_items))) ≡ Err (record { line = 2; code = 4 })
book_725 = refl

book_726 : book_from (builtins ++ ([])) (list (item (rec (field (codes "hosts") (text (codes "all")) (field (codes "tasks") (list (item (rec (field (codes "ping") null (field (codes "throttle") null (no_fields)))) (no_items))) (no_fields)))) (no_items))) ≡ Err (record { line = 2; code = 3 })
book_726 = refl

book_727 : book_from (builtins ++ ([])) (list (item (rec (field (codes "hosts") (text (codes "all")) (field (codes "tasks") (list (item (rec (field (codes "ping") null (field (codes "until") (int (pos 1)) (no_fields)))) (no_items))) (no_fields)))) (no_items))) ≡ Err (record { line = 2; code = 4 })
book_727 = refl

book_728 : book_from (builtins ++ ([])) (list (item (rec (field (codes "hosts") (text (codes "all")) (field (codes "tasks") (list (item (rec (field (codes "ping") null (field (codes "until") (list (no_items)) (no_fields)))) (no_items))) (no_fields)))) (no_items))) ≡ Ok ((record { line = 1; pattern = ((codes "all") ∷ []); gathering = None; vars = (no_parts); is_linear = true; serial = ([]); pre_tasks = (no_steps); tasks = (task_step (record { line = 2; work = (module_work (codes "ping") (no_parts)); condition = (no_expressions); loop = None; register = None; vars = (no_parts); notify = ([]); changed_when = None; failed_when = None; attempts = (Some (record { until = (no_expressions); retries = 3 })); ignore_errors = None }) (no_steps)); post_tasks = (no_steps); handlers = ([]); forces = false } ∷ []))
book_728 = refl

book_729 : book_from (builtins ++ ([])) (list (item (rec (field (codes "hosts") (text (codes "all")) (field (codes "tasks") (list (item (rec (field (codes "ping") null (field (codes "until") (text (codes "true")) (no_fields)))) (no_items))) (no_fields)))) (no_items))) ≡ Ok ((record { line = 1; pattern = ((codes "all") ∷ []); gathering = None; vars = (no_parts); is_linear = true; serial = ([]); pre_tasks = (no_steps); tasks = (task_step (record { line = 2; work = (module_work (codes "ping") (no_parts)); condition = (no_expressions); loop = None; register = None; vars = (no_parts); notify = ([]); changed_when = None; failed_when = None; attempts = (Some (record { until = (expression (literal (boolean true)) (no_expressions)); retries = 3 })); ignore_errors = None }) (no_steps)); post_tasks = (no_steps); handlers = ([]); forces = false } ∷ []))
book_729 = refl

book_730 : book_from (builtins ++ ([])) (list (item (rec (field (codes "hosts") (text (codes "all")) (field (codes "tasks") (list (item (rec (field (codes "ping") null (field (codes "vars") (rec (field (codes "False") (int (pos 1)) (no_fields))) (no_fields)))) (no_items))) (no_fields)))) (no_items))) ≡ Ok ((record { line = 1; pattern = ((codes "all") ∷ []); gathering = None; vars = (no_parts); is_linear = true; serial = ([]); pre_tasks = (no_steps); tasks = (task_step (record { line = 2; work = (module_work (codes "ping") (no_parts)); condition = (no_expressions); loop = None; register = None; vars = (part (codes "False") (literal (int (pos 1))) (no_parts)); notify = ([]); changed_when = None; failed_when = None; attempts = None; ignore_errors = None }) (no_steps)); post_tasks = (no_steps); handlers = ([]); forces = false } ∷ []))
book_730 = refl

book_731 : book_from (builtins ++ ([])) (list (item (rec (field (codes "hosts") (text (codes "all")) (field (codes "tasks") (list (item (rec (field (codes "ping") null (field (codes "vars") (rec (field (codes "and") (int (pos 1)) (no_fields))) (no_fields)))) (no_items))) (no_fields)))) (no_items))) ≡ Ok ((record { line = 1; pattern = ((codes "all") ∷ []); gathering = None; vars = (no_parts); is_linear = true; serial = ([]); pre_tasks = (no_steps); tasks = (task_step (record { line = 2; work = (module_work (codes "ping") (no_parts)); condition = (no_expressions); loop = None; register = None; vars = (part (codes "and") (literal (int (pos 1))) (no_parts)); notify = ([]); changed_when = None; failed_when = None; attempts = None; ignore_errors = None }) (no_steps)); post_tasks = (no_steps); handlers = ([]); forces = false } ∷ []))
book_731 = refl

book_732 : book_from (builtins ++ ([])) (list (item (rec (field (codes "hosts") (text (codes "all")) (field (codes "tasks") (list (item (rec (field (codes "ping") null (field (codes "vars") (rec (field (codes "ansible_facts") (int (pos 1)) (no_fields))) (no_fields)))) (no_items))) (no_fields)))) (no_items))) ≡ Ok ((record { line = 1; pattern = ((codes "all") ∷ []); gathering = None; vars = (no_parts); is_linear = true; serial = ([]); pre_tasks = (no_steps); tasks = (task_step (record { line = 2; work = (module_work (codes "ping") (no_parts)); condition = (no_expressions); loop = None; register = None; vars = (part (codes "ansible_facts") (literal (int (pos 1))) (no_parts)); notify = ([]); changed_when = None; failed_when = None; attempts = None; ignore_errors = None }) (no_steps)); post_tasks = (no_steps); handlers = ([]); forces = false } ∷ []))
book_732 = refl

book_733 : book_from (builtins ++ ([])) (list (item (rec (field (codes "hosts") (text (codes "all")) (field (codes "tasks") (list (item (rec (field (codes "ping") null (field (codes "vars") (rec (field (codes "ansible_memtotal_mb") (int (pos 1)) (no_fields))) (no_fields)))) (no_items))) (no_fields)))) (no_items))) ≡ Ok ((record { line = 1; pattern = ((codes "all") ∷ []); gathering = None; vars = (no_parts); is_linear = true; serial = ([]); pre_tasks = (no_steps); tasks = (task_step (record { line = 2; work = (module_work (codes "ping") (no_parts)); condition = (no_expressions); loop = None; register = None; vars = (part (codes "ansible_memtotal_mb") (literal (int (pos 1))) (no_parts)); notify = ([]); changed_when = None; failed_when = None; attempts = None; ignore_errors = None }) (no_steps)); post_tasks = (no_steps); handlers = ([]); forces = false } ∷ []))
book_733 = refl

book_734 : book_from (builtins ++ ([])) (list (item (rec (field (codes "hosts") (text (codes "all")) (field (codes "tasks") (list (item (rec (field (codes "ping") null (field (codes "vars") (rec (field (codes "ansible_play_batch") (int (pos 1)) (no_fields))) (no_fields)))) (no_items))) (no_fields)))) (no_items))) ≡ Ok ((record { line = 1; pattern = ((codes "all") ∷ []); gathering = None; vars = (no_parts); is_linear = true; serial = ([]); pre_tasks = (no_steps); tasks = (task_step (record { line = 2; work = (module_work (codes "ping") (no_parts)); condition = (no_expressions); loop = None; register = None; vars = (part (codes "ansible_play_batch") (literal (int (pos 1))) (no_parts)); notify = ([]); changed_when = None; failed_when = None; attempts = None; ignore_errors = None }) (no_steps)); post_tasks = (no_steps); handlers = ([]); forces = false } ∷ []))
book_734 = refl

book_735 : book_from (builtins ++ ([])) (list (item (rec (field (codes "hosts") (text (codes "all")) (field (codes "tasks") (list (item (rec (field (codes "ping") null (field (codes "vars") (rec (field (codes "defined") (int (pos 1)) (no_fields))) (no_fields)))) (no_items))) (no_fields)))) (no_items))) ≡ Ok ((record { line = 1; pattern = ((codes "all") ∷ []); gathering = None; vars = (no_parts); is_linear = true; serial = ([]); pre_tasks = (no_steps); tasks = (task_step (record { line = 2; work = (module_work (codes "ping") (no_parts)); condition = (no_expressions); loop = None; register = None; vars = (part (codes "defined") (literal (int (pos 1))) (no_parts)); notify = ([]); changed_when = None; failed_when = None; attempts = None; ignore_errors = None }) (no_steps)); post_tasks = (no_steps); handlers = ([]); forces = false } ∷ []))
book_735 = refl

book_736 : book_from (builtins ++ ([])) (list (item (rec (field (codes "hosts") (text (codes "all")) (field (codes "tasks") (list (item (rec (field (codes "ping") null (field (codes "vars") (rec (field (codes "else") (int (pos 1)) (no_fields))) (no_fields)))) (no_items))) (no_fields)))) (no_items))) ≡ Ok ((record { line = 1; pattern = ((codes "all") ∷ []); gathering = None; vars = (no_parts); is_linear = true; serial = ([]); pre_tasks = (no_steps); tasks = (task_step (record { line = 2; work = (module_work (codes "ping") (no_parts)); condition = (no_expressions); loop = None; register = None; vars = (part (codes "else") (literal (int (pos 1))) (no_parts)); notify = ([]); changed_when = None; failed_when = None; attempts = None; ignore_errors = None }) (no_steps)); post_tasks = (no_steps); handlers = ([]); forces = false } ∷ []))
book_736 = refl

book_737 : book_from (builtins ++ ([])) (list (item (rec (field (codes "hosts") (text (codes "all")) (field (codes "tasks") (list (item (rec (field (codes "ping") null (field (codes "vars") (rec (field (codes "groups") (int (pos 1)) (no_fields))) (no_fields)))) (no_items))) (no_fields)))) (no_items))) ≡ Ok ((record { line = 1; pattern = ((codes "all") ∷ []); gathering = None; vars = (no_parts); is_linear = true; serial = ([]); pre_tasks = (no_steps); tasks = (task_step (record { line = 2; work = (module_work (codes "ping") (no_parts)); condition = (no_expressions); loop = None; register = None; vars = (part (codes "groups") (literal (int (pos 1))) (no_parts)); notify = ([]); changed_when = None; failed_when = None; attempts = None; ignore_errors = None }) (no_steps)); post_tasks = (no_steps); handlers = ([]); forces = false } ∷ []))
book_737 = refl

book_738 : book_from (builtins ++ ([])) (list (item (rec (field (codes "hosts") (text (codes "all")) (field (codes "tasks") (list (item (rec (field (codes "ping") null (field (codes "vars") (rec (field (codes "if") (int (pos 1)) (no_fields))) (no_fields)))) (no_items))) (no_fields)))) (no_items))) ≡ Ok ((record { line = 1; pattern = ((codes "all") ∷ []); gathering = None; vars = (no_parts); is_linear = true; serial = ([]); pre_tasks = (no_steps); tasks = (task_step (record { line = 2; work = (module_work (codes "ping") (no_parts)); condition = (no_expressions); loop = None; register = None; vars = (part (codes "if") (literal (int (pos 1))) (no_parts)); notify = ([]); changed_when = None; failed_when = None; attempts = None; ignore_errors = None }) (no_steps)); post_tasks = (no_steps); handlers = ([]); forces = false } ∷ []))
book_738 = refl

book_739 : book_from (builtins ++ ([])) (list (item (rec (field (codes "hosts") (text (codes "all")) (field (codes "tasks") (list (item (rec (field (codes "ping") null (field (codes "vars") (rec (field (codes "inventory_hostname") (int (pos 1)) (no_fields))) (no_fields)))) (no_items))) (no_fields)))) (no_items))) ≡ Ok ((record { line = 1; pattern = ((codes "all") ∷ []); gathering = None; vars = (no_parts); is_linear = true; serial = ([]); pre_tasks = (no_steps); tasks = (task_step (record { line = 2; work = (module_work (codes "ping") (no_parts)); condition = (no_expressions); loop = None; register = None; vars = (part (codes "inventory_hostname") (literal (int (pos 1))) (no_parts)); notify = ([]); changed_when = None; failed_when = None; attempts = None; ignore_errors = None }) (no_steps)); post_tasks = (no_steps); handlers = ([]); forces = false } ∷ []))
book_739 = refl

book_740 : book_from (builtins ++ ([])) (list (item (rec (field (codes "hosts") (text (codes "all")) (field (codes "tasks") (list (item (rec (field (codes "ping") null (field (codes "vars") (rec (field (codes "none") (int (pos 1)) (no_fields))) (no_fields)))) (no_items))) (no_fields)))) (no_items))) ≡ Ok ((record { line = 1; pattern = ((codes "all") ∷ []); gathering = None; vars = (no_parts); is_linear = true; serial = ([]); pre_tasks = (no_steps); tasks = (task_step (record { line = 2; work = (module_work (codes "ping") (no_parts)); condition = (no_expressions); loop = None; register = None; vars = (part (codes "none") (literal (int (pos 1))) (no_parts)); notify = ([]); changed_when = None; failed_when = None; attempts = None; ignore_errors = None }) (no_steps)); post_tasks = (no_steps); handlers = ([]); forces = false } ∷ []))
book_740 = refl

book_741 : book_from (builtins ++ ([])) (list (item (rec (field (codes "hosts") (text (codes "all")) (field (codes "tasks") (list (item (rec (field (codes "ping") null (field (codes "vars") (rec (field (codes "true") (int (pos 1)) (no_fields))) (no_fields)))) (no_items))) (no_fields)))) (no_items))) ≡ Ok ((record { line = 1; pattern = ((codes "all") ∷ []); gathering = None; vars = (no_parts); is_linear = true; serial = ([]); pre_tasks = (no_steps); tasks = (task_step (record { line = 2; work = (module_work (codes "ping") (no_parts)); condition = (no_expressions); loop = None; register = None; vars = (part (codes "true") (literal (int (pos 1))) (no_parts)); notify = ([]); changed_when = None; failed_when = None; attempts = None; ignore_errors = None }) (no_steps)); post_tasks = (no_steps); handlers = ([]); forces = false } ∷ []))
book_741 = refl

book_742 : book_from (builtins ++ ([])) (list (item (rec (field (codes "hosts") (text (codes "all")) (field (codes "tasks") (list (item (rec (field (codes "ping") null (field (codes "vars") (rec (field (codes "vars") (int (pos 1)) (no_fields))) (no_fields)))) (no_items))) (no_fields)))) (no_items))) ≡ Ok ((record { line = 1; pattern = ((codes "all") ∷ []); gathering = None; vars = (no_parts); is_linear = true; serial = ([]); pre_tasks = (no_steps); tasks = (task_step (record { line = 2; work = (module_work (codes "ping") (no_parts)); condition = (no_expressions); loop = None; register = None; vars = (part (codes "vars") (literal (int (pos 1))) (no_parts)); notify = ([]); changed_when = None; failed_when = None; attempts = None; ignore_errors = None }) (no_steps)); post_tasks = (no_steps); handlers = ([]); forces = false } ∷ []))
book_742 = refl

book_743 : book_from (builtins ++ ([])) (list (item (rec (field (codes "hosts") (text (codes "all")) (field (codes "tasks") (list (item (rec (field (codes "ping") null (field (codes "vars") (rec (field (codes "x") (int (pos 1)) (no_fields))) (no_fields)))) (item (rec (field (codes "ping") null (field (codes "register") (text (codes "x")) (no_fields)))) (no_items)))) (no_fields)))) (no_items))) ≡ Ok ((record { line = 1; pattern = ((codes "all") ∷ []); gathering = None; vars = (no_parts); is_linear = true; serial = ([]); pre_tasks = (no_steps); tasks = (task_step (record { line = 2; work = (module_work (codes "ping") (no_parts)); condition = (no_expressions); loop = None; register = None; vars = (part (codes "x") (literal (int (pos 1))) (no_parts)); notify = ([]); changed_when = None; failed_when = None; attempts = None; ignore_errors = None }) (task_step (record { line = 3; work = (module_work (codes "ping") (no_parts)); condition = (no_expressions); loop = None; register = (Some (codes "x")); vars = (no_parts); notify = ([]); changed_when = None; failed_when = None; attempts = None; ignore_errors = None }) (no_steps))); post_tasks = (no_steps); handlers = ([]); forces = false } ∷ []))
book_743 = refl

book_744 : book_from (builtins ++ ([])) (list (item (rec (field (codes "hosts") (text (codes "all")) (field (codes "tasks") (list (item (rec (field (codes "ping") null (field (codes "when") (text (123 ∷ 123 ∷ 32 ∷ 116 ∷ 114 ∷ 117 ∷ 101 ∷ 32 ∷ 125 ∷ 125 ∷ [])) (no_fields)))) (no_items))) (no_fields)))) (no_items))) ≡ Err (record { line = 2; code = 7 })
book_744 = refl

book_745 : book_from (builtins ++ ([])) (list (item (rec (field (codes "hosts") (text (codes "all")) (field (codes "tasks") (list (item (rec (field (codes "ping") null (field (codes "with_") null (no_fields)))) (no_items))) (no_fields)))) (no_items))) ≡ Err (record { line = 2; code = 3 })
book_745 = refl

book_746 : book_from (builtins ++ ([])) (list (item (rec (field (codes "hosts") (text (codes "all")) (field (codes "tasks") (list (item (rec (field (codes "ping") null (no_fields))) (item (rec (field (codes "always") (list (item (rec (field (codes "ping") null (no_fields))) (no_items))) (field (codes "block") (list (item (rec (field (codes "ping") null (no_fields))) (no_items))) (field (codes "rescue") (list (item (rec (field (codes "ping") null (no_fields))) (no_items))) (no_fields))))) (no_items)))) (no_fields)))) (item (int (pos 5)) (no_items)))) ≡ Err (record { line = 7; code = 2 })
book_746 = refl

book_747 : book_from (builtins ++ ([])) (list (item (rec (field (codes "hosts") (text (codes "all")) (field (codes "tasks") (list (item (rec (field (codes "ping") null (no_fields))) (item (rec (field (codes "block") (list (item (rec (field (codes "ping") null (no_fields))) (no_items))) (field (codes "vars") (rec (field (codes "item") (int (pos 1)) (no_fields))) (no_fields)))) (no_items)))) (no_fields)))) (no_items))) ≡ Ok ((record { line = 1; pattern = ((codes "all") ∷ []); gathering = None; vars = (no_parts); is_linear = true; serial = ([]); pre_tasks = (no_steps); tasks = (task_step (record { line = 2; work = (module_work (codes "ping") (no_parts)); condition = (no_expressions); loop = None; register = None; vars = (no_parts); notify = ([]); changed_when = None; failed_when = None; attempts = None; ignore_errors = None }) (block_step (record { line = 3; condition = (no_expressions); vars = (part (codes "item") (literal (int (pos 1))) (no_parts)); ignore_errors = None }) (task_step (record { line = 4; work = (module_work (codes "ping") (no_parts)); condition = (no_expressions); loop = None; register = None; vars = (no_parts); notify = ([]); changed_when = None; failed_when = None; attempts = None; ignore_errors = None }) (no_steps)) (no_steps) (no_steps) (no_steps))); post_tasks = (no_steps); handlers = ([]); forces = false } ∷ []))
book_747 = refl

book_748 : book_from (builtins ++ ([])) (list (item (rec (field (codes "hosts") (text (codes "all")) (field (codes "tasks") (list (item (rec (field (codes "ping") null (no_fields))) (item (rec (field (codes "command") (text (codes "x")) (field (codes "name") (text (codes "task 1")) (field (codes "register") (text (codes "s1")) (no_fields))))) (no_items)))) (no_fields)))) (no_items))) ≡ Ok ((record { line = 1; pattern = ((codes "all") ∷ []); gathering = None; vars = (no_parts); is_linear = true; serial = ([]); pre_tasks = (no_steps); tasks = (task_step (record { line = 2; work = (module_work (codes "ping") (no_parts)); condition = (no_expressions); loop = None; register = None; vars = (no_parts); notify = ([]); changed_when = None; failed_when = None; attempts = None; ignore_errors = None }) (task_step (record { line = 3; work = (module_work (codes "command") (part (codes "cmd") (literal (text (codes "x"))) (no_parts))); condition = (no_expressions); loop = None; register = (Some (codes "s1")); vars = (no_parts); notify = ([]); changed_when = None; failed_when = None; attempts = None; ignore_errors = None }) (no_steps))); post_tasks = (no_steps); handlers = ([]); forces = false } ∷ []))
book_748 = refl

book_749 : book_from (builtins ++ ([])) (list (item (rec (field (codes "hosts") (text (codes "all")) (field (codes "tasks") (list (item (rec (field (codes "ping") null (no_fields))) (item (rec (field (codes "command") (text (codes "x")) (no_fields))) (item (rec (field (codes "debug") (rec (field (codes "msg") (text (123 ∷ 123 ∷ 32 ∷ 102 ∷ 97 ∷ 108 ∷ 115 ∷ 101 ∷ 32 ∷ 125 ∷ 125 ∷ [])) (no_fields))) (no_fields))) (item (rec (field (codes "debug") (rec (field (codes "msg") (text (123 ∷ 123 ∷ 32 ∷ 40 ∷ 102 ∷ 97 ∷ 108 ∷ 115 ∷ 101 ∷ 41 ∷ 32 ∷ 97 ∷ 110 ∷ 100 ∷ 32 ∷ 103 ∷ 114 ∷ 111 ∷ 117 ∷ 112 ∷ 95 ∷ 110 ∷ 97 ∷ 109 ∷ 101 ∷ 115 ∷ 32 ∷ 125 ∷ 125 ∷ [])) (no_fields))) (field (codes "register") (text (codes "s1")) (field (codes "when") (text (codes "r1.changed")) (no_fields))))) (no_items)))))) (no_fields)))) (no_items))) ≡ Ok ((record { line = 1; pattern = ((codes "all") ∷ []); gathering = None; vars = (no_parts); is_linear = true; serial = ([]); pre_tasks = (no_steps); tasks = (task_step (record { line = 2; work = (module_work (codes "ping") (no_parts)); condition = (no_expressions); loop = None; register = None; vars = (no_parts); notify = ([]); changed_when = None; failed_when = None; attempts = None; ignore_errors = None }) (task_step (record { line = 3; work = (module_work (codes "command") (part (codes "cmd") (literal (text (codes "x"))) (no_parts))); condition = (no_expressions); loop = None; register = None; vars = (no_parts); notify = ([]); changed_when = None; failed_when = None; attempts = None; ignore_errors = None }) (task_step (record { line = 4; work = (debug_work (part (codes "msg") (literal (boolean false)) (no_parts))); condition = (no_expressions); loop = None; register = None; vars = (no_parts); notify = ([]); changed_when = None; failed_when = None; attempts = None; ignore_errors = None }) (task_step (record { line = 5; work = (debug_work (part (codes "msg") (conjunction (expression (literal (boolean false)) (expression (path (variable (codes "group_names")) ([])) (no_expressions)))) (no_parts))); condition = (expression (path (variable (codes "r1")) ((codes "changed") ∷ [])) (no_expressions)); loop = None; register = (Some (codes "s1")); vars = (no_parts); notify = ([]); changed_when = None; failed_when = None; attempts = None; ignore_errors = None }) (no_steps))))); post_tasks = (no_steps); handlers = ([]); forces = false } ∷ []))
book_749 = refl

book_750 : book_from (builtins ++ ([])) (list (item (rec (field (codes "hosts") (text (codes "all")) (field (codes "tasks") (list (item (rec (field (codes "ping") null (no_fields))) (item (rec (field (codes "command") (text (codes "x")) (no_fields))) (item (rec (field (codes "debug") (rec (field (codes "msg") (text (codes "text")) (no_fields))) (field (codes "register") (text (codes "r3")) (no_fields)))) (no_items))))) (no_fields)))) (no_items))) ≡ Ok ((record { line = 1; pattern = ((codes "all") ∷ []); gathering = None; vars = (no_parts); is_linear = true; serial = ([]); pre_tasks = (no_steps); tasks = (task_step (record { line = 2; work = (module_work (codes "ping") (no_parts)); condition = (no_expressions); loop = None; register = None; vars = (no_parts); notify = ([]); changed_when = None; failed_when = None; attempts = None; ignore_errors = None }) (task_step (record { line = 3; work = (module_work (codes "command") (part (codes "cmd") (literal (text (codes "x"))) (no_parts))); condition = (no_expressions); loop = None; register = None; vars = (no_parts); notify = ([]); changed_when = None; failed_when = None; attempts = None; ignore_errors = None }) (task_step (record { line = 4; work = (debug_work (part (codes "msg") (literal (text (codes "text"))) (no_parts))); condition = (no_expressions); loop = None; register = (Some (codes "r3")); vars = (no_parts); notify = ([]); changed_when = None; failed_when = None; attempts = None; ignore_errors = None }) (no_steps)))); post_tasks = (no_steps); handlers = ([]); forces = false } ∷ []))
book_750 = refl

book_751 : book_from (builtins ++ ([])) (list (item (rec (field (codes "hosts") (text (codes "all")) (field (codes "tasks") (list (item (rec (field (codes "ping") null (no_fields))) (item (rec (field (codes "command") (text (codes "x")) (no_fields))) (no_items)))) (no_fields)))) (no_items))) ≡ Ok ((record { line = 1; pattern = ((codes "all") ∷ []); gathering = None; vars = (no_parts); is_linear = true; serial = ([]); pre_tasks = (no_steps); tasks = (task_step (record { line = 2; work = (module_work (codes "ping") (no_parts)); condition = (no_expressions); loop = None; register = None; vars = (no_parts); notify = ([]); changed_when = None; failed_when = None; attempts = None; ignore_errors = None }) (task_step (record { line = 3; work = (module_work (codes "command") (part (codes "cmd") (literal (text (codes "x"))) (no_parts))); condition = (no_expressions); loop = None; register = None; vars = (no_parts); notify = ([]); changed_when = None; failed_when = None; attempts = None; ignore_errors = None }) (no_steps))); post_tasks = (no_steps); handlers = ([]); forces = false } ∷ []))
book_751 = refl

book_752 : book_from (builtins ++ ([])) (list (item (rec (field (codes "hosts") (text (codes "all")) (field (codes "tasks") (list (item (rec (field (codes "ping") null (no_fields))) (item (rec (field (codes "ping") null (field (codes "register") (text (codes "s1")) (no_fields)))) (item (rec (field (codes "debug") (rec (field (codes "msg") (list (no_items)) (no_fields))) (field (codes "name") (text (codes "task 2")) (field (codes "register") (text (codes "r3")) (no_fields))))) (no_items))))) (no_fields)))) (no_items))) ≡ Ok ((record { line = 1; pattern = ((codes "all") ∷ []); gathering = None; vars = (no_parts); is_linear = true; serial = ([]); pre_tasks = (no_steps); tasks = (task_step (record { line = 2; work = (module_work (codes "ping") (no_parts)); condition = (no_expressions); loop = None; register = None; vars = (no_parts); notify = ([]); changed_when = None; failed_when = None; attempts = None; ignore_errors = None }) (task_step (record { line = 3; work = (module_work (codes "ping") (no_parts)); condition = (no_expressions); loop = None; register = (Some (codes "s1")); vars = (no_parts); notify = ([]); changed_when = None; failed_when = None; attempts = None; ignore_errors = None }) (task_step (record { line = 4; work = (debug_work (part (codes "msg") (literal (list (no_items))) (no_parts))); condition = (no_expressions); loop = None; register = (Some (codes "r3")); vars = (no_parts); notify = ([]); changed_when = None; failed_when = None; attempts = None; ignore_errors = None }) (no_steps)))); post_tasks = (no_steps); handlers = ([]); forces = false } ∷ []))
book_752 = refl

book_753 : book_from (builtins ++ ([])) (list (item (rec (field (codes "hosts") (text (codes "all")) (field (codes "tasks") (list (item (rec (field (codes "ping") null (no_fields))) (item (rec (field (codes "ping") null (field (codes "vars") (rec (field (codes "a") (text (123 ∷ 123 ∷ 32 ∷ 97 ∷ 32 ∷ 125 ∷ 125 ∷ [])) (no_fields))) (no_fields)))) (no_items)))) (field (codes "vars") (rec (field (codes "a") (int (pos 1)) (no_fields))) (no_fields))))) (no_items))) ≡ Ok ((record { line = 1; pattern = ((codes "all") ∷ []); gathering = None; vars = (part (codes "a") (literal (int (pos 1))) (no_parts)); is_linear = true; serial = ([]); pre_tasks = (no_steps); tasks = (task_step (record { line = 2; work = (module_work (codes "ping") (no_parts)); condition = (no_expressions); loop = None; register = None; vars = (no_parts); notify = ([]); changed_when = None; failed_when = None; attempts = None; ignore_errors = None }) (task_step (record { line = 3; work = (module_work (codes "ping") (no_parts)); condition = (no_expressions); loop = None; register = None; vars = (part (codes "a") (path (variable (codes "a")) ([])) (no_parts)); notify = ([]); changed_when = None; failed_when = None; attempts = None; ignore_errors = None }) (no_steps))); post_tasks = (no_steps); handlers = ([]); forces = false } ∷ []))
book_753 = refl

book_754 : book_from (builtins ++ ([])) (list (item (rec (field (codes "hosts") (text (codes "all")) (field (codes "tasks") (list (item (rec (field (codes "ping") null (no_fields))) (item (rec (field (codes "set_fact") (rec (field (codes "s1") (list (no_items)) (field (codes "s3") (list (no_items)) (no_fields)))) (no_fields))) (item (rec (field (codes "set_fact") (rec (field (codes "s3") (rec (field (codes "f") (rec (field (codes "h") (int (pos 7)) (no_fields))) (field (codes "h") (text (123 ∷ 123 ∷ 32 ∷ 49 ∷ 32 ∷ 61 ∷ 61 ∷ 32 ∷ 49 ∷ 32 ∷ 125 ∷ 125 ∷ [])) (no_fields)))) (no_fields))) (no_fields))) (item (rec (field (codes "debug") (rec (field (codes "msg") (text (123 ∷ 123 ∷ 32 ∷ 102 ∷ 97 ∷ 108 ∷ 115 ∷ 101 ∷ 32 ∷ 125 ∷ 125 ∷ [])) (no_fields))) (field (codes "name") (text (codes "task 3")) (no_fields)))) (no_items)))))) (no_fields)))) (no_items))) ≡ Ok ((record { line = 1; pattern = ((codes "all") ∷ []); gathering = None; vars = (no_parts); is_linear = true; serial = ([]); pre_tasks = (no_steps); tasks = (task_step (record { line = 2; work = (module_work (codes "ping") (no_parts)); condition = (no_expressions); loop = None; register = None; vars = (no_parts); notify = ([]); changed_when = None; failed_when = None; attempts = None; ignore_errors = None }) (task_step (record { line = 3; work = (set_fact_work (part (codes "s1") (literal (list (no_items))) (part (codes "s3") (literal (list (no_items))) (no_parts)))); condition = (no_expressions); loop = None; register = None; vars = (no_parts); notify = ([]); changed_when = None; failed_when = None; attempts = None; ignore_errors = None }) (task_step (record { line = 4; work = (set_fact_work (part (codes "s3") (record_of (part (codes "f") (literal (rec (field (codes "h") (int (pos 7)) (no_fields)))) (part (codes "h") (comparison equal (literal (int (pos 1))) (literal (int (pos 1)))) (no_parts)))) (no_parts))); condition = (no_expressions); loop = None; register = None; vars = (no_parts); notify = ([]); changed_when = None; failed_when = None; attempts = None; ignore_errors = None }) (task_step (record { line = 5; work = (debug_work (part (codes "msg") (literal (boolean false)) (no_parts))); condition = (no_expressions); loop = None; register = None; vars = (no_parts); notify = ([]); changed_when = None; failed_when = None; attempts = None; ignore_errors = None }) (no_steps))))); post_tasks = (no_steps); handlers = ([]); forces = false } ∷ []))
book_754 = refl

book_755 : book_from (builtins ++ ([])) (list (item (rec (field (codes "hosts") (text (codes "all")) (field (codes "tasks") (list (item (rec (field (codes "ping") null (no_fields))) (no_items))) (field (codes "vars") (rec (field (codes "a") (rec (field (codes "k") (list (item (text (123 ∷ 123 ∷ 32 ∷ 97 ∷ 46 ∷ 107 ∷ 32 ∷ 125 ∷ 125 ∷ [])) (no_items))) (no_fields))) (no_fields))) (no_fields))))) (no_items))) ≡ Ok ((record { line = 1; pattern = ((codes "all") ∷ []); gathering = None; vars = (part (codes "a") (record_of (part (codes "k") (list_of (expression (path (variable (codes "a")) ((codes "k") ∷ [])) (no_expressions))) (no_parts))) (no_parts)); is_linear = true; serial = ([]); pre_tasks = (no_steps); tasks = (task_step (record { line = 2; work = (module_work (codes "ping") (no_parts)); condition = (no_expressions); loop = None; register = None; vars = (no_parts); notify = ([]); changed_when = None; failed_when = None; attempts = None; ignore_errors = None }) (no_steps)); post_tasks = (no_steps); handlers = ([]); forces = false } ∷ []))
book_755 = refl

book_756 : book_from (builtins ++ ([])) (list (item (rec (field (codes "hosts") (text (codes "all")) (field (codes "tasks") (list (item (rec (field (codes "ping") null (no_fields))) (no_items))) (field (codes "vars") (rec (field (codes "a") (text (123 ∷ 123 ∷ 32 ∷ 98 ∷ 32 ∷ 125 ∷ 125 ∷ [])) (field (codes "b") (text (123 ∷ 123 ∷ 32 ∷ 97 ∷ 32 ∷ 125 ∷ 125 ∷ [])) (no_fields)))) (no_fields))))) (no_items))) ≡ Ok ((record { line = 1; pattern = ((codes "all") ∷ []); gathering = None; vars = (part (codes "a") (path (variable (codes "b")) ([])) (part (codes "b") (path (variable (codes "a")) ([])) (no_parts))); is_linear = true; serial = ([]); pre_tasks = (no_steps); tasks = (task_step (record { line = 2; work = (module_work (codes "ping") (no_parts)); condition = (no_expressions); loop = None; register = None; vars = (no_parts); notify = ([]); changed_when = None; failed_when = None; attempts = None; ignore_errors = None }) (no_steps)); post_tasks = (no_steps); handlers = ([]); forces = false } ∷ []))
book_756 = refl

book_757 : book_from (builtins ++ ([])) (list (item (rec (field (codes "hosts") (text (codes "all")) (field (codes "tasks") (list (item (rec (field (codes "ping") null (no_fields))) (no_items))) (field (codes "vars") (rec (field (codes "item") (int (pos 1)) (no_fields))) (no_fields))))) (item (rec (field (codes "hosts") (text (codes "all")) (field (codes "tasks") (list (item (rec (field (codes "always") (list (item (rec (field (codes "always") (list (item (rec (field (codes "always") (list (item (rec (field (codes "always") (list (item (rec (field (codes "always") (list (item (rec (field (codes "always") (list (item (rec (field (codes "always") (list (item (rec (field (codes "always") (list (item (rec (field (codes "always") (list (item (rec (field (codes "always") (list (item (rec (field (codes "always") (list (item (rec (field (codes "always") (list (item (rec (field (codes "always") (list (item (rec (field (codes "always") (list (item (rec (field (codes "ping") null (no_fields))) (no_items))) (field (codes "block") (list (no_items)) (no_fields)))) (no_items))) (field (codes "block") (list (no_items)) (no_fields)))) (no_items))) (field (codes "block") (list (no_items)) (no_fields)))) (no_items))) (field (codes "block") (list (no_items)) (no_fields)))) (no_items))) (field (codes "block") (list (no_items)) (no_fields)))) (no_items))) (field (codes "block") (list (no_items)) (no_fields)))) (no_items))) (field (codes "block") (list (no_items)) (no_fields)))) (no_items))) (field (codes "block") (list (no_items)) (no_fields)))) (no_items))) (field (codes "block") (list (no_items)) (no_fields)))) (no_items))) (field (codes "block") (list (no_items)) (no_fields)))) (no_items))) (field (codes "block") (list (no_items)) (no_fields)))) (no_items))) (field (codes "block") (list (no_items)) (no_fields)))) (no_items))) (field (codes "block") (list (no_items)) (no_fields)))) (no_items))) (field (codes "block") (list (no_items)) (no_fields)))) (no_items))) (no_fields)))) (no_items)))) ≡ Ok ((record { line = 1; pattern = ((codes "all") ∷ []); gathering = None; vars = (part (codes "item") (literal (int (pos 1))) (no_parts)); is_linear = true; serial = ([]); pre_tasks = (no_steps); tasks = (task_step (record { line = 2; work = (module_work (codes "ping") (no_parts)); condition = (no_expressions); loop = None; register = None; vars = (no_parts); notify = ([]); changed_when = None; failed_when = None; attempts = None; ignore_errors = None }) (no_steps)); post_tasks = (no_steps); handlers = ([]); forces = false } ∷ record { line = 3; pattern = ((codes "all") ∷ []); gathering = None; vars = (no_parts); is_linear = true; serial = ([]); pre_tasks = (no_steps); tasks = (block_step (record { line = 4; condition = (no_expressions); vars = (no_parts); ignore_errors = None }) (no_steps) (no_steps) (block_step (record { line = 5; condition = (no_expressions); vars = (no_parts); ignore_errors = None }) (no_steps) (no_steps) (block_step (record { line = 6; condition = (no_expressions); vars = (no_parts); ignore_errors = None }) (no_steps) (no_steps) (block_step (record { line = 7; condition = (no_expressions); vars = (no_parts); ignore_errors = None }) (no_steps) (no_steps) (block_step (record { line = 8; condition = (no_expressions); vars = (no_parts); ignore_errors = None }) (no_steps) (no_steps) (block_step (record { line = 9; condition = (no_expressions); vars = (no_parts); ignore_errors = None }) (no_steps) (no_steps) (block_step (record { line = 10; condition = (no_expressions); vars = (no_parts); ignore_errors = None }) (no_steps) (no_steps) (block_step (record { line = 11; condition = (no_expressions); vars = (no_parts); ignore_errors = None }) (no_steps) (no_steps) (block_step (record { line = 12; condition = (no_expressions); vars = (no_parts); ignore_errors = None }) (no_steps) (no_steps) (block_step (record { line = 13; condition = (no_expressions); vars = (no_parts); ignore_errors = None }) (no_steps) (no_steps) (block_step (record { line = 14; condition = (no_expressions); vars = (no_parts); ignore_errors = None }) (no_steps) (no_steps) (block_step (record { line = 15; condition = (no_expressions); vars = (no_parts); ignore_errors = None }) (no_steps) (no_steps) (block_step (record { line = 16; condition = (no_expressions); vars = (no_parts); ignore_errors = None }) (no_steps) (no_steps) (block_step (record { line = 17; condition = (no_expressions); vars = (no_parts); ignore_errors = None }) (no_steps) (no_steps) (task_step (record { line = 18; work = (module_work (codes "ping") (no_parts)); condition = (no_expressions); loop = None; register = None; vars = (no_parts); notify = ([]); changed_when = None; failed_when = None; attempts = None; ignore_errors = None }) (no_steps)) (no_steps)) (no_steps)) (no_steps)) (no_steps)) (no_steps)) (no_steps)) (no_steps)) (no_steps)) (no_steps)) (no_steps)) (no_steps)) (no_steps)) (no_steps)) (no_steps)); post_tasks = (no_steps); handlers = ([]); forces = false } ∷ []))
book_757 = refl

book_758 : book_from (builtins ++ ([])) (list (item (rec (field (codes "hosts") (text (codes "all")) (field (codes "tasks") (list (item (rec (field (codes "ping") null (no_fields))) (no_items))) (field (codes "vars") (rec (field (codes "v") (list (item (list (item (list (item (list (item (list (item (list (item (list (item (list (item (list (item (list (item (list (item (list (item (list (item (list (item (list (item (list (item (list (item (list (item (list (item (list (item (list (item (list (item (list (item (list (item (list (item (list (item (list (item (list (item (list (item (list (item (list (item (list (item (list (no_items)) (no_items))) (no_items))) (no_items))) (no_items))) (no_items))) (no_items))) (no_items))) (no_items))) (no_items))) (no_items))) (no_items))) (no_items))) (no_items))) (no_items))) (no_items))) (no_items))) (no_items))) (no_items))) (no_items))) (no_items))) (no_items))) (no_items))) (no_items))) (no_items))) (no_items))) (no_items))) (no_items))) (no_items))) (no_items))) (no_items))) (no_items))) (no_items))) (no_fields))) (no_fields))))) (no_items))) ≡ Err (record { line = 1; code = 8 })
book_758 = refl

book_759 : book_from (builtins ++ ([])) (list (item (rec (field (codes "hosts") (text (codes "all")) (field (codes "tasks") (list (item (rec (field (codes "ping") null (no_fields))) (no_items))) (field (codes "vars") (rec (field (codes "v") (list (item (list (item (list (item (list (item (list (item (list (item (list (item (list (item (list (item (list (item (list (item (list (item (list (item (list (item (list (item (list (item (list (item (list (item (list (item (list (item (list (item (list (item (list (item (list (item (list (item (list (item (list (item (list (item (list (item (list (item (list (item (list (no_items)) (no_items))) (no_items))) (no_items))) (no_items))) (no_items))) (no_items))) (no_items))) (no_items))) (no_items))) (no_items))) (no_items))) (no_items))) (no_items))) (no_items))) (no_items))) (no_items))) (no_items))) (no_items))) (no_items))) (no_items))) (no_items))) (no_items))) (no_items))) (no_items))) (no_items))) (no_items))) (no_items))) (no_items))) (no_items))) (no_items))) (no_items))) (no_fields))) (no_fields))))) (no_items))) ≡ Ok ((record { line = 1; pattern = ((codes "all") ∷ []); gathering = None; vars = (part (codes "v") (literal (list (item (list (item (list (item (list (item (list (item (list (item (list (item (list (item (list (item (list (item (list (item (list (item (list (item (list (item (list (item (list (item (list (item (list (item (list (item (list (item (list (item (list (item (list (item (list (item (list (item (list (item (list (item (list (item (list (item (list (item (list (item (list (no_items)) (no_items))) (no_items))) (no_items))) (no_items))) (no_items))) (no_items))) (no_items))) (no_items))) (no_items))) (no_items))) (no_items))) (no_items))) (no_items))) (no_items))) (no_items))) (no_items))) (no_items))) (no_items))) (no_items))) (no_items))) (no_items))) (no_items))) (no_items))) (no_items))) (no_items))) (no_items))) (no_items))) (no_items))) (no_items))) (no_items))) (no_items)))) (no_parts)); is_linear = true; serial = ([]); pre_tasks = (no_steps); tasks = (task_step (record { line = 2; work = (module_work (codes "ping") (no_parts)); condition = (no_expressions); loop = None; register = None; vars = (no_parts); notify = ([]); changed_when = None; failed_when = None; attempts = None; ignore_errors = None }) (no_steps)); post_tasks = (no_steps); handlers = ([]); forces = false } ∷ []))
book_759 = refl
