-- The books of cases as they are read, computed.
use Rattle.std.specs.Prelude.{◌≡◌, refl, pos, [], ◌∷◌, ◌++◌, true, false, Some, None, Ok, Err, codes}
use Rattle.pb_semantics.specs.Data.{null, boolean, int, text, list, rec, opaque, no_items, item, no_fields, field}
use Rattle.pb_language.specs.Expression.{equal, is_failed, literal, path, negation, conjunction, comparison, defined, path_status, path_or, list_of, variable, no_expressions, expression, no_parts, part}
use Rattle.pb_language.specs.Book.{conditions_are, module_work, set_fact_work, assert_work, fail_work, no_steps, task_step, block_step, host_count, percentage}
use Rattle.pb_language.specs.BookForm.{book_from}
use Rattle.pb_language.specs.Builtins.{builtins}

book_800 : book_from (builtins ++ ([])) (list (item (rec (field (codes "hosts") (text (codes "all")) (field (codes "tasks") (list (item (rec (field (codes "set_fact") (rec (field (codes "s2") (text (123 ∷ 123 ∷ 32 ∷ 102 ∷ 97 ∷ 108 ∷ 115 ∷ 101 ∷ 32 ∷ 125 ∷ 125 ∷ [])) (no_fields))) (no_fields))) (no_items))) (no_fields)))) (no_items))) ≡ Ok ((record { line = 1; pattern = ((codes "all") ∷ []); gathering = None; vars = (no_parts); is_linear = true; serial = ([]); pre_tasks = (no_steps); tasks = (task_step (record { line = 2; work = (set_fact_work (part (codes "s2") (literal (boolean false)) (no_parts))); condition = (no_expressions); loop = None; register = None; vars = (no_parts); notify = ([]); changed_when = None; failed_when = None; attempts = None; ignore_errors = None }) (no_steps)); post_tasks = (no_steps); handlers = ([]); forces = false } ∷ []))
book_800 = refl

book_801 : book_from (builtins ++ ([])) (list (item (rec (field (codes "hosts") (text (codes "all")) (field (codes "tasks") (list (item (rec (field (codes "set_fact") (rec (field (codes "true") (int (pos 1)) (no_fields))) (no_fields))) (no_items))) (no_fields)))) (no_items))) ≡ Ok ((record { line = 1; pattern = ((codes "all") ∷ []); gathering = None; vars = (no_parts); is_linear = true; serial = ([]); pre_tasks = (no_steps); tasks = (task_step (record { line = 2; work = (set_fact_work (part (codes "true") (literal (int (pos 1))) (no_parts))); condition = (no_expressions); loop = None; register = None; vars = (no_parts); notify = ([]); changed_when = None; failed_when = None; attempts = None; ignore_errors = None }) (no_steps)); post_tasks = (no_steps); handlers = ([]); forces = false } ∷ []))
book_801 = refl

book_802 : book_from (builtins ++ ([])) (list (item (rec (field (codes "hosts") (text (codes "all")) (field (codes "tasks") (list (item (rec (field (codes "set_fact") (rec (field (codes "y") (int (pos 1)) (no_fields))) (no_fields))) (item (rec (field (codes "ping") null (field (codes "when") (text (codes "y")) (no_fields)))) (no_items)))) (no_fields)))) (no_items))) ≡ Ok ((record { line = 1; pattern = ((codes "all") ∷ []); gathering = None; vars = (no_parts); is_linear = true; serial = ([]); pre_tasks = (no_steps); tasks = (task_step (record { line = 2; work = (set_fact_work (part (codes "y") (literal (int (pos 1))) (no_parts))); condition = (no_expressions); loop = None; register = None; vars = (no_parts); notify = ([]); changed_when = None; failed_when = None; attempts = None; ignore_errors = None }) (task_step (record { line = 3; work = (module_work (codes "ping") (no_parts)); condition = (expression (path (variable (codes "y")) ([])) (no_expressions)); loop = None; register = None; vars = (no_parts); notify = ([]); changed_when = None; failed_when = None; attempts = None; ignore_errors = None }) (no_steps))); post_tasks = (no_steps); handlers = ([]); forces = false } ∷ []))
book_802 = refl

book_803 : book_from (builtins ++ ([])) (list (item (rec (field (codes "hosts") (text (codes "all")) (field (codes "tasks") (list (item (rec (field (codes "set_fact") (rec (field (codes "y") (list (item (list (item (list (item (list (item (list (item (list (item (list (item (list (item (list (item (list (item (list (item (list (item (list (item (list (item (list (item (list (item (list (item (list (item (list (item (list (item (list (item (list (item (list (item (list (item (list (item (list (item (list (item (list (item (list (item (list (item (list (item (list (item (list (no_items)) (no_items))) (no_items))) (no_items))) (no_items))) (no_items))) (no_items))) (no_items))) (no_items))) (no_items))) (no_items))) (no_items))) (no_items))) (no_items))) (no_items))) (no_items))) (no_items))) (no_items))) (no_items))) (no_items))) (no_items))) (no_items))) (no_items))) (no_items))) (no_items))) (no_items))) (no_items))) (no_items))) (no_items))) (no_items))) (no_items))) (no_items))) (no_items))) (no_fields))) (no_fields))) (no_items))) (no_fields)))) (no_items))) ≡ Err (record { line = 2; code = 8 })
book_803 = refl

book_804 : book_from (builtins ++ ([])) (list (item (rec (field (codes "hosts") (text (codes "all")) (field (codes "tasks") (list (item (rec (field (codes "set_fact") (rec (field (codes "y") (text (123 ∷ 123 ∷ 32 ∷ 49 ∷ 32 ∷ 125 ∷ 125 ∷ [])) (no_fields))) (no_fields))) (item (rec (field (codes "assert") (rec (field (codes "that") (text (codes "y == 1")) (no_fields))) (field (codes "ignore_errors") (boolean true) (no_fields)))) (no_items)))) (no_fields)))) (no_items))) ≡ Ok ((record { line = 1; pattern = ((codes "all") ∷ []); gathering = None; vars = (no_parts); is_linear = true; serial = ([]); pre_tasks = (no_steps); tasks = (task_step (record { line = 2; work = (set_fact_work (part (codes "y") (literal (int (pos 1))) (no_parts))); condition = (no_expressions); loop = None; register = None; vars = (no_parts); notify = ([]); changed_when = None; failed_when = None; attempts = None; ignore_errors = None }) (task_step (record { line = 3; work = (assert_work (conditions_are (expression (comparison equal (path (variable (codes "y")) ([])) (literal (int (pos 1)))) (no_expressions))) (no_parts)); condition = (no_expressions); loop = None; register = None; vars = (no_parts); notify = ([]); changed_when = None; failed_when = None; attempts = None; ignore_errors = (Some true) }) (no_steps))); post_tasks = (no_steps); handlers = ([]); forces = false } ∷ []))
book_804 = refl

book_805 : book_from (builtins ++ ([])) (list (item (rec (field (codes "hosts") (text (codes "all")) (field (codes "tasks") (list (item (rec (field (codes "set_fact") null (no_fields))) (no_items))) (no_fields)))) (no_items))) ≡ Ok ((record { line = 1; pattern = ((codes "all") ∷ []); gathering = None; vars = (no_parts); is_linear = true; serial = ([]); pre_tasks = (no_steps); tasks = (task_step (record { line = 2; work = (set_fact_work (no_parts)); condition = (no_expressions); loop = None; register = None; vars = (no_parts); notify = ([]); changed_when = None; failed_when = None; attempts = None; ignore_errors = None }) (no_steps)); post_tasks = (no_steps); handlers = ([]); forces = false } ∷ []))
book_805 = refl

book_806 : book_from (builtins ++ ([])) (list (item (rec (field (codes "hosts") (text (codes "all")) (field (codes "tasks") (list (item (rec (field (codes "shell") (int (pos 5)) (no_fields))) (no_items))) (no_fields)))) (no_items))) ≡ Err (record { line = 2; code = 4 })
book_806 = refl

book_807 : book_from (builtins ++ ([])) (list (item (rec (field (codes "hosts") (text (codes "all")) (field (codes "tasks") (list (item (rec (field (codes "tags") (list (no_items)) (no_fields))) (no_items))) (no_fields)))) (no_items))) ≡ Err (record { line = 2; code = 3 })
book_807 = refl

book_808 : book_from (builtins ++ ([])) (list (item (rec (field (codes "hosts") (text (codes "all")) (field (codes "tasks") (list (item (rec (no_fields)) (no_items))) (no_fields)))) (no_items))) ≡ Err (record { line = 2; code = 5 })
book_808 = refl

book_809 : book_from (builtins ++ ([])) (list (item (rec (field (codes "hosts") (text (codes "all")) (field (codes "tasks") (list (item (text (codes "x")) (no_items))) (no_fields)))) (no_items))) ≡ Err (record { line = 2; code = 2 })
book_809 = refl

book_810 : book_from (builtins ++ ([])) (list (item (rec (field (codes "hosts") (text (codes "all")) (field (codes "tasks") (list (item opaque (no_items))) (no_fields)))) (no_items))) ≡ Err (record { line = 2; code = 2 })
book_810 = refl

book_811 : book_from (builtins ++ ([])) (list (item (rec (field (codes "hosts") (text (codes "all")) (field (codes "tasks") (list (no_items)) (field (codes "vars") (rec (field (codes "a") (text (123 ∷ 123 ∷ 32 ∷ 97 ∷ 32 ∷ 125 ∷ 125 ∷ [])) (no_fields))) (no_fields))))) (no_items))) ≡ Ok ((record { line = 1; pattern = ((codes "all") ∷ []); gathering = None; vars = (part (codes "a") (path (variable (codes "a")) ([])) (no_parts)); is_linear = true; serial = ([]); pre_tasks = (no_steps); tasks = (no_steps); post_tasks = (no_steps); handlers = ([]); forces = false } ∷ []))
book_811 = refl

book_812 : book_from (builtins ++ ([])) (list (item (rec (field (codes "hosts") (text (codes "all")) (field (codes "vars") (rec (field (codes "a-b") (int (pos 1)) (no_fields))) (no_fields)))) (no_items))) ≡ Err (record { line = 1; code = 4 })
book_812 = refl

book_813 : book_from (builtins ++ ([])) (list (item (rec (field (codes "hosts") (text (codes "all")) (field (codes "vars") (rec (field (codes "rrrrrrrrrrrrrrrrrrrrrrrrrrrrrrrrrrrrrrrrrrrrrrrrrrrrrrrrrrrrrrrrrrrrrrrrrrrrrrrrrrrrrrrrrrrrrrrrrrrrrrrrrrrrrrrrrrrrrrrrrrrrrrrr") (int (pos 1)) (no_fields))) (no_fields)))) (no_items))) ≡ Ok ((record { line = 1; pattern = ((codes "all") ∷ []); gathering = None; vars = (part (codes "rrrrrrrrrrrrrrrrrrrrrrrrrrrrrrrrrrrrrrrrrrrrrrrrrrrrrrrrrrrrrrrrrrrrrrrrrrrrrrrrrrrrrrrrrrrrrrrrrrrrrrrrrrrrrrrrrrrrrrrrrrrrrrrr") (literal (int (pos 1))) (no_parts)); is_linear = true; serial = ([]); pre_tasks = (no_steps); tasks = (no_steps); post_tasks = (no_steps); handlers = ([]); forces = false } ∷ []))
book_813 = refl

book_814 : book_from (builtins ++ ([])) (list (item (rec (field (codes "hosts") (text (codes "all")) (field (codes "vars") (rec (field (codes "v") (list (item opaque (no_items))) (no_fields))) (no_fields)))) (no_items))) ≡ Err (record { line = 1; code = 4 })
book_814 = refl

book_815 : book_from (builtins ++ ([])) (list (item (rec (field (codes "hosts") (text (codes "all")) (field (codes "vars") null (no_fields)))) (no_items))) ≡ Err (record { line = 1; code = 4 })
book_815 = refl

book_816 : book_from (builtins ++ ([])) (list (item (rec (field (codes "hosts") (text (codes "all")) (field (codes "when") (text (codes "x")) (no_fields)))) (no_items))) ≡ Err (record { line = 1; code = 3 })
book_816 = refl

book_817 : book_from (builtins ++ ([])) (list (item (rec (field (codes "hosts") (text (codes "all")) (no_fields))) (item (rec (field (codes "hosts") (text (codes "all")) (no_fields))) (item (rec (field (codes "hosts") (text (codes "all")) (no_fields))) (item (rec (field (codes "hosts") (text (codes "all")) (no_fields))) (item (rec (field (codes "hosts") (text (codes "all")) (no_fields))) (item (rec (field (codes "hosts") (text (codes "all")) (no_fields))) (item (rec (field (codes "hosts") (text (codes "all")) (no_fields))) (item (rec (field (codes "hosts") (text (codes "all")) (no_fields))) (item (rec (field (codes "hosts") (text (codes "all")) (no_fields))) (item (rec (field (codes "hosts") (text (codes "all")) (no_fields))) (item (rec (field (codes "hosts") (text (codes "all")) (no_fields))) (item (rec (field (codes "hosts") (text (codes "all")) (no_fields))) (item (rec (field (codes "hosts") (text (codes "all")) (no_fields))) (item (rec (field (codes "hosts") (text (codes "all")) (no_fields))) (item (rec (field (codes "hosts") (text (codes "all")) (no_fields))) (item (rec (field (codes "hosts") (text (codes "all")) (no_fields))) (item (rec (field (codes "hosts") (text (codes "all")) (no_fields))) (item (rec (field (codes "hosts") (text (codes "all")) (no_fields))) (item (rec (field (codes "hosts") (text (codes "all")) (no_fields))) (item (rec (field (codes "hosts") (text (codes "all")) (no_fields))) (item (rec (field (codes "hosts") (text (codes "all")) (no_fields))) (item (rec (field (codes "hosts") (text (codes "all")) (no_fields))) (item (rec (field (codes "hosts") (text (codes "all")) (no_fields))) (item (rec (field (codes "hosts") (text (codes "all")) (no_fields))) (item (rec (field (codes "hosts") (text (codes "all")) (no_fields))) (item (rec (field (codes "hosts") (text (codes "all")) (no_fields))) (item (rec (field (codes "hosts") (text (codes "all")) (no_fields))) (item (rec (field (codes "hosts") (text (codes "all")) (no_fields))) (item (rec (field (codes "hosts") (text (codes "all")) (no_fields))) (item (rec (field (codes "hosts") (text (codes "all")) (no_fields))) (item (rec (field (codes "hosts") (text (codes "all")) (no_fields))) (item (rec (field (codes "hosts") (text (codes "all")) (no_fields))) (item (rec (field (codes "hosts") (text (codes "all")) (no_fields))) (item (rec (field (codes "hosts") (text (codes "all")) (no_fields))) (item (rec (field (codes "hosts") (text (codes "all")) (no_fields))) (item (rec (field (codes "hosts") (text (codes "all")) (no_fields))) (item (rec (field (codes "hosts") (text (codes "all")) (no_fields))) (item (rec (field (codes "hosts") (text (codes "all")) (no_fields))) (item (rec (field (codes "hosts") (text (codes "all")) (no_fields))) (item (rec (field (codes "hosts") (text (codes "all")) (no_fields))) (item (rec (field (codes "hosts") (text (codes "all")) (no_fields))) (item (rec (field (codes "hosts") (text (codes "all")) (no_fields))) (item (rec (field (codes "hosts") (text (codes "all")) (no_fields))) (item (rec (field (codes "hosts") (text (codes "all")) (no_fields))) (item (rec (field (codes "hosts") (text (codes "all")) (no_fields))) (item (rec (field (codes "hosts") (text (codes "all")) (no_fields))) (item (rec (field (codes "hosts") (text (codes "all")) (no_fields))) (item (rec (field (codes "hosts") (text (codes "all")) (no_fields))) (item (rec (field (codes "hosts") (text (codes "all")) (no_fields))) (item (rec (field (codes "hosts") (text (codes "all")) (no_fields))) (item (rec (field (codes "hosts") (text (codes "all")) (no_fields))) (item (rec (field (codes "hosts") (text (codes "all")) (no_fields))) (item (rec (field (codes "hosts") (text (codes "all")) (no_fields))) (item (rec (field (codes "hosts") (text (codes "all")) (no_fields))) (item (rec (field (codes "hosts") (text (codes "all")) (no_fields))) (item (rec (field (codes "hosts") (text (codes "all")) (no_fields))) (item (rec (field (codes "hosts") (text (codes "all")) (no_fields))) (item (rec (field (codes "hosts") (text (codes "all")) (no_fields))) (item (rec (field (codes "hosts") (text (codes "all")) (no_fields))) (item (rec (field (codes "hosts") (text (codes "all")) (no_fields))) (item (rec (field (codes "hosts") (text (codes "all")) (no_fields))) (item (rec (field (codes "hosts") (text (codes "all")) (no_fields))) (item (rec (field (codes "hosts") (text (codes "all")) (no_fields))) (item (rec (field (codes "hosts") (text (codes "all")) (no_fields))) (no_items)))))))))))))))))))))))))))))))))))))))))))))))))))))))))))))))))) ≡ Ok ((record { line = 1; pattern = ((codes "all") ∷ []); gathering = None; vars = (no_parts); is_linear = true; serial = ([]); pre_tasks = (no_steps); tasks = (no_steps); post_tasks = (no_steps); handlers = ([]); forces = false } ∷ record { line = 2; pattern = ((codes "all") ∷ []); gathering = None; vars = (no_parts); is_linear = true; serial = ([]); pre_tasks = (no_steps); tasks = (no_steps); post_tasks = (no_steps); handlers = ([]); forces = false } ∷ record { line = 3; pattern = ((codes "all") ∷ []); gathering = None; vars = (no_parts); is_linear = true; serial = ([]); pre_tasks = (no_steps); tasks = (no_steps); post_tasks = (no_steps); handlers = ([]); forces = false } ∷ record { line = 4; pattern = ((codes "all") ∷ []); gathering = None; vars = (no_parts); is_linear = true; serial = ([]); pre_tasks = (no_steps); tasks = (no_steps); post_tasks = (no_steps); handlers = ([]); forces = false } ∷ record { line = 5; pattern = ((codes "all") ∷ []); gathering = None; vars = (no_parts); is_linear = true; serial = ([]); pre_tasks = (no_steps); tasks = (no_steps); post_tasks = (no_steps); handlers = ([]); forces = false } ∷ record { line = 6; pattern = ((codes "all") ∷ []); gathering = None; vars = (no_parts); is_linear = true; serial = ([]); pre_tasks = (no_steps); tasks = (no_steps); post_tasks = (no_steps); handlers = ([]); forces = false } ∷ record { line = 7; pattern = ((codes "all") ∷ []); gathering = None; vars = (no_parts); is_linear = true; serial = ([]); pre_tasks = (no_steps); tasks = (no_steps); post_tasks = (no_steps); handlers = ([]); forces = false } ∷ record { line = 8; pattern = ((codes "all") ∷ []); gathering = None; vars = (no_parts); is_linear = true; serial = ([]); pre_tasks = (no_steps); tasks = (no_steps); post_tasks = (no_steps); handlers = ([]); forces = false } ∷ record { line = 9; pattern = ((codes "all") ∷ []); gathering = None; vars = (no_parts); is_linear = true; serial = ([]); pre_tasks = (no_steps); tasks = (no_steps); post_tasks = (no_steps); handlers = ([]); forces = false } ∷ record { line = 10; pattern = ((codes "all") ∷ []); gathering = None; vars = (no_parts); is_linear = true; serial = ([]); pre_tasks = (no_steps); tasks = (no_steps); post_tasks = (no_steps); handlers = ([]); forces = false } ∷ record { line = 11; pattern = ((codes "all") ∷ []); gathering = None; vars = (no_parts); is_linear = true; serial = ([]); pre_tasks = (no_steps); tasks = (no_steps); post_tasks = (no_steps); handlers = ([]); forces = false } ∷ record { line = 12; pattern = ((codes "all") ∷ []); gathering = None; vars = (no_parts); is_linear = true; serial = ([]); pre_tasks = (no_steps); tasks = (no_steps); post_tasks = (no_steps); handlers = ([]); forces = false } ∷ record { line = 13; pattern = ((codes "all") ∷ []); gathering = None; vars = (no_parts); is_linear = true; serial = ([]); pre_tasks = (no_steps); tasks = (no_steps); post_tasks = (no_steps); handlers = ([]); forces = false } ∷ record { line = 14; pattern = ((codes "all") ∷ []); gathering = None; vars = (no_parts); is_linear = true; serial = ([]); pre_tasks = (no_steps); tasks = (no_steps); post_tasks = (no_steps); handlers = ([]); forces = false } ∷ record { line = 15; pattern = ((codes "all") ∷ []); gathering = None; vars = (no_parts); is_linear = true; serial = ([]); pre_tasks = (no_steps); tasks = (no_steps); post_tasks = (no_steps); handlers = ([]); forces = false } ∷ record { line = 16; pattern = ((codes "all") ∷ []); gathering = None; vars = (no_parts); is_linear = true; serial = ([]); pre_tasks = (no_steps); tasks = (no_steps); post_tasks = (no_steps); handlers = ([]); forces = false } ∷ record { line = 17; pattern = ((codes "all") ∷ []); gathering = None; vars = (no_parts); is_linear = true; serial = ([]); pre_tasks = (no_steps); tasks = (no_steps); post_tasks = (no_steps); handlers = ([]); forces = false } ∷ record { line = 18; pattern = ((codes "all") ∷ []); gathering = None; vars = (no_parts); is_linear = true; serial = ([]); pre_tasks = (no_steps); tasks = (no_steps); post_tasks = (no_steps); handlers = ([]); forces = false } ∷ record { line = 19; pattern = ((codes "all") ∷ []); gathering = None; vars = (no_parts); is_linear = true; serial = ([]); pre_tasks = (no_steps); tasks = (no_steps); post_tasks = (no_steps); handlers = ([]); forces = false } ∷ record { line = 20; pattern = ((codes "all") ∷ []); gathering = None; vars = (no_parts); is_linear = true; serial = ([]); pre_tasks = (no_steps); tasks = (no_steps); post_tasks = (no_steps); handlers = ([]); forces = false } ∷ record { line = 21; pattern = ((codes "all") ∷ []); gathering = None; vars = (no_parts); is_linear = true; serial = ([]); pre_tasks = (no_steps); tasks = (no_steps); post_tasks = (no_steps); handlers = ([]); forces = false } ∷ record { line = 22; pattern = ((codes "all") ∷ []); gathering = None; vars = (no_parts); is_linear = true; serial = ([]); pre_tasks = (no_steps); tasks = (no_steps); post_tasks = (no_steps); handlers = ([]); forces = false } ∷ record { line = 23; pattern = ((codes "all") ∷ []); gathering = None; vars = (no_parts); is_linear = true; serial = ([]); pre_tasks = (no_steps); tasks = (no_steps); post_tasks = (no_steps); handlers = ([]); forces = false } ∷ record { line = 24; pattern = ((codes "all") ∷ []); gathering = None; vars = (no_parts); is_linear = true; serial = ([]); pre_tasks = (no_steps); tasks = (no_steps); post_tasks = (no_steps); handlers = ([]); forces = false } ∷ record { line = 25; pattern = ((codes "all") ∷ []); gathering = None; vars = (no_parts); is_linear = true; serial = ([]); pre_tasks = (no_steps); tasks = (no_steps); post_tasks = (no_steps); handlers = ([]); forces = false } ∷ record { line = 26; pattern = ((codes "all") ∷ []); gathering = None; vars = (no_parts); is_linear = true; serial = ([]); pre_tasks = (no_steps); tasks = (no_steps); post_tasks = (no_steps); handlers = ([]); forces = false } ∷ record { line = 27; pattern = ((codes "all") ∷ []); gathering = None; vars = (no_parts); is_linear = true; serial = ([]); pre_tasks = (no_steps); tasks = (no_steps); post_tasks = (no_steps); handlers = ([]); forces = false } ∷ record { line = 28; pattern = ((codes "all") ∷ []); gathering = None; vars = (no_parts); is_linear = true; serial = ([]); pre_tasks = (no_steps); tasks = (no_steps); post_tasks = (no_steps); handlers = ([]); forces = false } ∷ record { line = 29; pattern = ((codes "all") ∷ []); gathering = None; vars = (no_parts); is_linear = true; serial = ([]); pre_tasks = (no_steps); tasks = (no_steps); post_tasks = (no_steps); handlers = ([]); forces = false } ∷ record { line = 30; pattern = ((codes "all") ∷ []); gathering = None; vars = (no_parts); is_linear = true; serial = ([]); pre_tasks = (no_steps); tasks = (no_steps); post_tasks = (no_steps); handlers = ([]); forces = false } ∷ record { line = 31; pattern = ((codes "all") ∷ []); gathering = None; vars = (no_parts); is_linear = true; serial = ([]); pre_tasks = (no_steps); tasks = (no_steps); post_tasks = (no_steps); handlers = ([]); forces = false } ∷ record { line = 32; pattern = ((codes "all") ∷ []); gathering = None; vars = (no_parts); is_linear = true; serial = ([]); pre_tasks = (no_steps); tasks = (no_steps); post_tasks = (no_steps); handlers = ([]); forces = false } ∷ record { line = 33; pattern = ((codes "all") ∷ []); gathering = None; vars = (no_parts); is_linear = true; serial = ([]); pre_tasks = (no_steps); tasks = (no_steps); post_tasks = (no_steps); handlers = ([]); forces = false } ∷ record { line = 34; pattern = ((codes "all") ∷ []); gathering = None; vars = (no_parts); is_linear = true; serial = ([]); pre_tasks = (no_steps); tasks = (no_steps); post_tasks = (no_steps); handlers = ([]); forces = false } ∷ record { line = 35; pattern = ((codes "all") ∷ []); gathering = None; vars = (no_parts); is_linear = true; serial = ([]); pre_tasks = (no_steps); tasks = (no_steps); post_tasks = (no_steps); handlers = ([]); forces = false } ∷ record { line = 36; pattern = ((codes "all") ∷ []); gathering = None; vars = (no_parts); is_linear = true; serial = ([]); pre_tasks = (no_steps); tasks = (no_steps); post_tasks = (no_steps); handlers = ([]); forces = false } ∷ record { line = 37; pattern = ((codes "all") ∷ []); gathering = None; vars = (no_parts); is_linear = true; serial = ([]); pre_tasks = (no_steps); tasks = (no_steps); post_tasks = (no_steps); handlers = ([]); forces = false } ∷ record { line = 38; pattern = ((codes "all") ∷ []); gathering = None; vars = (no_parts); is_linear = true; serial = ([]); pre_tasks = (no_steps); tasks = (no_steps); post_tasks = (no_steps); handlers = ([]); forces = false } ∷ record { line = 39; pattern = ((codes "all") ∷ []); gathering = None; vars = (no_parts); is_linear = true; serial = ([]); pre_tasks = (no_steps); tasks = (no_steps); post_tasks = (no_steps); handlers = ([]); forces = false } ∷ record { line = 40; pattern = ((codes "all") ∷ []); gathering = None; vars = (no_parts); is_linear = true; serial = ([]); pre_tasks = (no_steps); tasks = (no_steps); post_tasks = (no_steps); handlers = ([]); forces = false } ∷ record { line = 41; pattern = ((codes "all") ∷ []); gathering = None; vars = (no_parts); is_linear = true; serial = ([]); pre_tasks = (no_steps); tasks = (no_steps); post_tasks = (no_steps); handlers = ([]); forces = false } ∷ record { line = 42; pattern = ((codes "all") ∷ []); gathering = None; vars = (no_parts); is_linear = true; serial = ([]); pre_tasks = (no_steps); tasks = (no_steps); post_tasks = (no_steps); handlers = ([]); forces = false } ∷ record { line = 43; pattern = ((codes "all") ∷ []); gathering = None; vars = (no_parts); is_linear = true; serial = ([]); pre_tasks = (no_steps); tasks = (no_steps); post_tasks = (no_steps); handlers = ([]); forces = false } ∷ record { line = 44; pattern = ((codes "all") ∷ []); gathering = None; vars = (no_parts); is_linear = true; serial = ([]); pre_tasks = (no_steps); tasks = (no_steps); post_tasks = (no_steps); handlers = ([]); forces = false } ∷ record { line = 45; pattern = ((codes "all") ∷ []); gathering = None; vars = (no_parts); is_linear = true; serial = ([]); pre_tasks = (no_steps); tasks = (no_steps); post_tasks = (no_steps); handlers = ([]); forces = false } ∷ record { line = 46; pattern = ((codes "all") ∷ []); gathering = None; vars = (no_parts); is_linear = true; serial = ([]); pre_tasks = (no_steps); tasks = (no_steps); post_tasks = (no_steps); handlers = ([]); forces = false } ∷ record { line = 47; pattern = ((codes "all") ∷ []); gathering = None; vars = (no_parts); is_linear = true; serial = ([]); pre_tasks = (no_steps); tasks = (no_steps); post_tasks = (no_steps); handlers = ([]); forces = false } ∷ record { line = 48; pattern = ((codes "all") ∷ []); gathering = None; vars = (no_parts); is_linear = true; serial = ([]); pre_tasks = (no_steps); tasks = (no_steps); post_tasks = (no_steps); handlers = ([]); forces = false } ∷ record { line = 49; pattern = ((codes "all") ∷ []); gathering = None; vars = (no_parts); is_linear = true; serial = ([]); pre_tasks = (no_steps); tasks = (no_steps); post_tasks = (no_steps); handlers = ([]); forces = false } ∷ record { line = 50; pattern = ((codes "all") ∷ []); gathering = None; vars = (no_parts); is_linear = true; serial = ([]); pre_tasks = (no_steps); tasks = (no_steps); post_tasks = (no_steps); handlers = ([]); forces = false } ∷ record { line = 51; pattern = ((codes "all") ∷ []); gathering = None; vars = (no_parts); is_linear = true; serial = ([]); pre_tasks = (no_steps); tasks = (no_steps); post_tasks = (no_steps); handlers = ([]); forces = false } ∷ record { line = 52; pattern = ((codes "all") ∷ []); gathering = None; vars = (no_parts); is_linear = true; serial = ([]); pre_tasks = (no_steps); tasks = (no_steps); post_tasks = (no_steps); handlers = ([]); forces = false } ∷ record { line = 53; pattern = ((codes "all") ∷ []); gathering = None; vars = (no_parts); is_linear = true; serial = ([]); pre_tasks = (no_steps); tasks = (no_steps); post_tasks = (no_steps); handlers = ([]); forces = false } ∷ record { line = 54; pattern = ((codes "all") ∷ []); gathering = None; vars = (no_parts); is_linear = true; serial = ([]); pre_tasks = (no_steps); tasks = (no_steps); post_tasks = (no_steps); handlers = ([]); forces = false } ∷ record { line = 55; pattern = ((codes "all") ∷ []); gathering = None; vars = (no_parts); is_linear = true; serial = ([]); pre_tasks = (no_steps); tasks = (no_steps); post_tasks = (no_steps); handlers = ([]); forces = false } ∷ record { line = 56; pattern = ((codes "all") ∷ []); gathering = None; vars = (no_parts); is_linear = true; serial = ([]); pre_tasks = (no_steps); tasks = (no_steps); post_tasks = (no_steps); handlers = ([]); forces = false } ∷ record { line = 57; pattern = ((codes "all") ∷ []); gathering = None; vars = (no_parts); is_linear = true; serial = ([]); pre_tasks = (no_steps); tasks = (no_steps); post_tasks = (no_steps); handlers = ([]); forces = false } ∷ record { line = 58; pattern = ((codes "all") ∷ []); gathering = None; vars = (no_parts); is_linear = true; serial = ([]); pre_tasks = (no_steps); tasks = (no_steps); post_tasks = (no_steps); handlers = ([]); forces = false } ∷ record { line = 59; pattern = ((codes "all") ∷ []); gathering = None; vars = (no_parts); is_linear = true; serial = ([]); pre_tasks = (no_steps); tasks = (no_steps); post_tasks = (no_steps); handlers = ([]); forces = false } ∷ record { line = 60; pattern = ((codes "all") ∷ []); gathering = None; vars = (no_parts); is_linear = true; serial = ([]); pre_tasks = (no_steps); tasks = (no_steps); post_tasks = (no_steps); handlers = ([]); forces = false } ∷ record { line = 61; pattern = ((codes "all") ∷ []); gathering = None; vars = (no_parts); is_linear = true; serial = ([]); pre_tasks = (no_steps); tasks = (no_steps); post_tasks = (no_steps); handlers = ([]); forces = false } ∷ record { line = 62; pattern = ((codes "all") ∷ []); gathering = None; vars = (no_parts); is_linear = true; serial = ([]); pre_tasks = (no_steps); tasks = (no_steps); post_tasks = (no_steps); handlers = ([]); forces = false } ∷ record { line = 63; pattern = ((codes "all") ∷ []); gathering = None; vars = (no_parts); is_linear = true; serial = ([]); pre_tasks = (no_steps); tasks = (no_steps); post_tasks = (no_steps); handlers = ([]); forces = false } ∷ record { line = 64; pattern = ((codes "all") ∷ []); gathering = None; vars = (no_parts); is_linear = true; serial = ([]); pre_tasks = (no_steps); tasks = (no_steps); post_tasks = (no_steps); handlers = ([]); forces = false } ∷ []))
book_817 = refl

book_818 : book_from (builtins ++ ([])) (list (item (rec (field (codes "hosts") (text (codes "all")) (no_fields))) (no_items))) ≡ Ok ((record { line = 1; pattern = ((codes "all") ∷ []); gathering = None; vars = (no_parts); is_linear = true; serial = ([]); pre_tasks = (no_steps); tasks = (no_steps); post_tasks = (no_steps); handlers = ([]); forces = false } ∷ []))
book_818 = refl

book_819 : book_from (builtins ++ ([])) (list (item (rec (field (codes "hosts") (text (codes "b,a")) (field (codes "serial") (list (item (int (pos 1)) (item (int (pos 2)) (no_items)))) (field (codes "tasks") (list (item (rec (field (codes "ignore_errors") (boolean true) (field (codes "register") (text (codes "s")) (field (codes "set_fact") (rec (field (codes "y") (text (123 ∷ 123 ∷ 32 ∷ 97 ∷ 110 ∷ 115 ∷ 105 ∷ 98 ∷ 108 ∷ 101 ∷ 95 ∷ 102 ∷ 97 ∷ 99 ∷ 116 ∷ 115 ∷ 46 ∷ 107 ∷ 32 ∷ 124 ∷ 32 ∷ 100 ∷ 101 ∷ 102 ∷ 97 ∷ 117 ∷ 108 ∷ 116 ∷ 40 ∷ 91 ∷ 93 ∷ 41 ∷ 32 ∷ 125 ∷ 125 ∷ [])) (no_fields))) (no_fields))))) (no_items))) (no_fields))))) (no_items))) ≡ Ok ((record { line = 1; pattern = ((codes "b") ∷ (codes "a") ∷ []); gathering = None; vars = (no_parts); is_linear = true; serial = (host_count 1 ∷ host_count 2 ∷ []); pre_tasks = (no_steps); tasks = (task_step (record { line = 2; work = (set_fact_work (part (codes "y") (path_or (variable (codes "ansible_facts")) ((codes "k") ∷ []) (list_of (no_expressions))) (no_parts))); condition = (no_expressions); loop = None; register = (Some (codes "s")); vars = (no_parts); notify = ([]); changed_when = None; failed_when = None; attempts = None; ignore_errors = (Some true) }) (no_steps)); post_tasks = (no_steps); handlers = ([]); forces = false } ∷ []))
book_819 = refl

book_820 : book_from (builtins ++ ([])) (list (item (rec (field (codes "hosts") (text (codes "db,web")) (field (codes "tasks") (list (item (rec (field (codes "ping") null (no_fields))) (no_items))) (no_fields)))) (no_items))) ≡ Ok ((record { line = 1; pattern = ((codes "db") ∷ (codes "web") ∷ []); gathering = None; vars = (no_parts); is_linear = true; serial = ([]); pre_tasks = (no_steps); tasks = (task_step (record { line = 2; work = (module_work (codes "ping") (no_parts)); condition = (no_expressions); loop = None; register = None; vars = (no_parts); notify = ([]); changed_when = None; failed_when = None; attempts = None; ignore_errors = None }) (no_steps)); post_tasks = (no_steps); handlers = ([]); forces = false } ∷ []))
book_820 = refl

book_821 : book_from (builtins ++ ([])) (list (item (rec (field (codes "hosts") (text (codes "db:web")) (field (codes "serial") (int (pos 1)) (field (codes "tasks") (list (item (rec (field (codes "ping") null (no_fields))) (no_items))) (no_fields))))) (no_items))) ≡ Ok ((record { line = 1; pattern = ((codes "db") ∷ (codes "web") ∷ []); gathering = None; vars = (no_parts); is_linear = true; serial = (host_count 1 ∷ []); pre_tasks = (no_steps); tasks = (task_step (record { line = 2; work = (module_work (codes "ping") (no_parts)); condition = (no_expressions); loop = None; register = None; vars = (no_parts); notify = ([]); changed_when = None; failed_when = None; attempts = None; ignore_errors = None }) (no_steps)); post_tasks = (no_steps); handlers = ([]); forces = false } ∷ []))
book_821 = refl

book_822 : book_from (builtins ++ ([])) (list (item (rec (field (codes "hosts") (text (codes "g")) (field (codes "serial") (int (pos 2)) (field (codes "strategy") (text (codes "free")) (field (codes "tasks") (list (item (rec (field (codes "command") (text (codes "x")) (field (codes "register") (text (codes "r")) (field (codes "when") (list (item (text (codes "s is defined and s is not failed")) (no_items))) (no_fields))))) (item (rec (field (codes "ping") null (no_fields))) (no_items)))) (no_fields)))))) (no_items))) ≡ Ok ((record { line = 1; pattern = ((codes "g") ∷ []); gathering = None; vars = (no_parts); is_linear = false; serial = (host_count 2 ∷ []); pre_tasks = (no_steps); tasks = (task_step (record { line = 2; work = (module_work (codes "command") (part (codes "cmd") (literal (text (codes "x"))) (no_parts))); condition = (expression (conjunction (expression (defined (variable (codes "s")) ([])) (expression (negation (path_status is_failed (variable (codes "s")) ([]))) (no_expressions)))) (no_expressions)); loop = None; register = (Some (codes "r")); vars = (no_parts); notify = ([]); changed_when = None; failed_when = None; attempts = None; ignore_errors = None }) (task_step (record { line = 3; work = (module_work (codes "ping") (no_parts)); condition = (no_expressions); loop = None; register = None; vars = (no_parts); notify = ([]); changed_when = None; failed_when = None; attempts = None; ignore_errors = None }) (no_steps))); post_tasks = (no_steps); handlers = ([]); forces = false } ∷ []))
book_822 = refl

book_823 : book_from (builtins ++ ([])) (list (item (rec (field (codes "hosts") (text (codes "g")) (field (codes "serial") (text (53 ∷ 48 ∷ 37 ∷ [])) (field (codes "strategy") (text (codes "free")) (field (codes "tasks") (list (item (rec (field (codes "assert") (rec (field (codes "that") (text (codes "group_names.results is defined")) (no_fields))) (no_fields))) (no_items))) (no_fields)))))) (no_items))) ≡ Ok ((record { line = 1; pattern = ((codes "g") ∷ []); gathering = None; vars = (no_parts); is_linear = false; serial = (percentage 50 ∷ []); pre_tasks = (no_steps); tasks = (task_step (record { line = 2; work = (assert_work (conditions_are (expression (defined (variable (codes "group_names")) ((codes "results") ∷ [])) (no_expressions))) (no_parts)); condition = (no_expressions); loop = None; register = None; vars = (no_parts); notify = ([]); changed_when = None; failed_when = None; attempts = None; ignore_errors = None }) (no_steps)); post_tasks = (no_steps); handlers = ([]); forces = false } ∷ []))
book_823 = refl

book_824 : book_from (builtins ++ ([])) (list (item (rec (field (codes "hosts") (text (codes "g")) (field (codes "serial") (text (53 ∷ 48 ∷ 37 ∷ [])) (field (codes "strategy") (text (codes "free")) (field (codes "tasks") (list (item (rec (field (codes "ping") null (field (codes "vars") (rec (field (codes "v1") (text (123 ∷ 123 ∷ 32 ∷ 97 ∷ 110 ∷ 115 ∷ 105 ∷ 98 ∷ 108 ∷ 101 ∷ 95 ∷ 102 ∷ 97 ∷ 99 ∷ 116 ∷ 115 ∷ 46 ∷ 107 ∷ 32 ∷ 125 ∷ 125 ∷ [])) (no_fields))) (no_fields)))) (no_items))) (no_fields)))))) (no_items))) ≡ Ok ((record { line = 1; pattern = ((codes "g") ∷ []); gathering = None; vars = (no_parts); is_linear = false; serial = (percentage 50 ∷ []); pre_tasks = (no_steps); tasks = (task_step (record { line = 2; work = (module_work (codes "ping") (no_parts)); condition = (no_expressions); loop = None; register = None; vars = (part (codes "v1") (path (variable (codes "ansible_facts")) ((codes "k") ∷ [])) (no_parts)); notify = ([]); changed_when = None; failed_when = None; attempts = None; ignore_errors = None }) (no_steps)); post_tasks = (no_steps); handlers = ([]); forces = false } ∷ []))
book_824 = refl

book_825 : book_from (builtins ++ ([])) (list (item (rec (field (codes "hosts") (text (codes "g")) (field (codes "tasks") (list (item (rec (field (codes "always") (list (no_items)) (field (codes "block") (list (item (rec (field (codes "fail") (rec (field (codes "msg") (text (codes "m")) (no_fields))) (field (codes "failed_when") (boolean true) (field (codes "ignore_errors") (boolean true) (field (codes "loop") (text (123 ∷ 123 ∷ 32 ∷ 114 ∷ 46 ∷ 115 ∷ 116 ∷ 100 ∷ 111 ∷ 117 ∷ 116 ∷ 95 ∷ 108 ∷ 105 ∷ 110 ∷ 101 ∷ 115 ∷ 32 ∷ 125 ∷ 125 ∷ [])) (field (codes "vars") (rec (field (codes "v2") (text (codes "a")) (no_fields))) (no_fields))))))) (no_items))) (field (codes "rescue") (list (no_items)) (no_fields))))) (item (rec (field (codes "fail") (rec (field (codes "msg") (text (codes "m")) (no_fields))) (no_fields))) (no_items)))) (no_fields)))) (no_items))) ≡ Ok ((record { line = 1; pattern = ((codes "g") ∷ []); gathering = None; vars = (no_parts); is_linear = true; serial = ([]); pre_tasks = (no_steps); tasks = (block_step (record { line = 2; condition = (no_expressions); vars = (no_parts); ignore_errors = None }) (task_step (record { line = 3; work = (fail_work (part (codes "msg") (literal (text (codes "m"))) (no_parts))); condition = (no_expressions); loop = (Some (path (variable (codes "r")) ((codes "stdout_lines") ∷ []))); register = None; vars = (part (codes "v2") (literal (text (codes "a"))) (no_parts)); notify = ([]); changed_when = None; failed_when = (Some (expression (literal (boolean true)) (no_expressions))); attempts = None; ignore_errors = (Some true) }) (no_steps)) (no_steps) (no_steps) (task_step (record { line = 4; work = (fail_work (part (codes "msg") (literal (text (codes "m"))) (no_parts))); condition = (no_expressions); loop = None; register = None; vars = (no_parts); notify = ([]); changed_when = None; failed_when = None; attempts = None; ignore_errors = None }) (no_steps))); post_tasks = (no_steps); handlers = ([]); forces = false } ∷ []))
book_825 = refl

book_826 : book_from (builtins ++ ([])) (list (item (rec (field (codes "hosts") (text (codes "h1")) (field (codes "tasks") (list (item (rec (field (codes "ping") null (no_fields))) (no_items))) (no_fields)))) (no_items))) ≡ Ok ((record { line = 1; pattern = ((codes "h1") ∷ []); gathering = None; vars = (no_parts); is_linear = true; serial = ([]); pre_tasks = (no_steps); tasks = (task_step (record { line = 2; work = (module_work (codes "ping") (no_parts)); condition = (no_expressions); loop = None; register = None; vars = (no_parts); notify = ([]); changed_when = None; failed_when = None; attempts = None; ignore_errors = None }) (no_steps)); post_tasks = (no_steps); handlers = ([]); forces = false } ∷ []))
book_826 = refl

book_827 : book_from (builtins ++ ([])) (list (item (rec (field (codes "hosts") (text (codes "h2")) (field (codes "tasks") (list (item (rec (field (codes "ping") null (no_fields))) (no_items))) (no_fields)))) (no_items))) ≡ Ok ((record { line = 1; pattern = ((codes "h2") ∷ []); gathering = None; vars = (no_parts); is_linear = true; serial = ([]); pre_tasks = (no_steps); tasks = (task_step (record { line = 2; work = (module_work (codes "ping") (no_parts)); condition = (no_expressions); loop = None; register = None; vars = (no_parts); notify = ([]); changed_when = None; failed_when = None; attempts = None; ignore_errors = None }) (no_steps)); post_tasks = (no_steps); handlers = ([]); forces = false } ∷ []))
book_827 = refl

book_828 : book_from (builtins ++ ([])) (list (item (rec (field (codes "hosts") (text (codes "web db")) (field (codes "tasks") (list (item (rec (field (codes "ping") null (no_fields))) (no_items))) (no_fields)))) (no_items))) ≡ Ok ((record { line = 1; pattern = ((codes "web db") ∷ []); gathering = None; vars = (no_parts); is_linear = true; serial = ([]); pre_tasks = (no_steps); tasks = (task_step (record { line = 2; work = (module_work (codes "ping") (no_parts)); condition = (no_expressions); loop = None; register = None; vars = (no_parts); notify = ([]); changed_when = None; failed_when = None; attempts = None; ignore_errors = None }) (no_steps)); post_tasks = (no_steps); handlers = ([]); forces = false } ∷ []))
book_828 = refl

book_829 : book_from (builtins ++ ([])) (list (item (rec (field (codes "hosts") (text (codes "web,zz")) (field (codes "tasks") (list (item (rec (field (codes "ping") null (no_fields))) (no_items))) (no_fields)))) (no_items))) ≡ Ok ((record { line = 1; pattern = ((codes "web") ∷ (codes "zz") ∷ []); gathering = None; vars = (no_parts); is_linear = true; serial = ([]); pre_tasks = (no_steps); tasks = (task_step (record { line = 2; work = (module_work (codes "ping") (no_parts)); condition = (no_expressions); loop = None; register = None; vars = (no_parts); notify = ([]); changed_when = None; failed_when = None; attempts = None; ignore_errors = None }) (no_steps)); post_tasks = (no_steps); handlers = ([]); forces = false } ∷ []))
book_829 = refl

book_830 : book_from (builtins ++ ([])) (list (item (rec (field (codes "hosts") (text (codes "web::db")) (field (codes "tasks") (list (item (rec (field (codes "ping") null (no_fields))) (no_items))) (no_fields)))) (no_items))) ≡ Ok ((record { line = 1; pattern = ((codes "web") ∷ ([]) ∷ (codes "db") ∷ []); gathering = None; vars = (no_parts); is_linear = true; serial = ([]); pre_tasks = (no_steps); tasks = (task_step (record { line = 2; work = (module_work (codes "ping") (no_parts)); condition = (no_expressions); loop = None; register = None; vars = (no_parts); notify = ([]); changed_when = None; failed_when = None; attempts = None; ignore_errors = None }) (no_steps)); post_tasks = (no_steps); handlers = ([]); forces = false } ∷ []))
book_830 = refl

book_831 : book_from (builtins ++ ([])) (list (item (rec (field (codes "hosts") (text (codes "web:db")) (field (codes "tasks") (list (item (rec (field (codes "ping") null (no_fields))) (no_items))) (no_fields)))) (no_items))) ≡ Ok ((record { line = 1; pattern = ((codes "web") ∷ (codes "db") ∷ []); gathering = None; vars = (no_parts); is_linear = true; serial = ([]); pre_tasks = (no_steps); tasks = (task_step (record { line = 2; work = (module_work (codes "ping") (no_parts)); condition = (no_expressions); loop = None; register = None; vars = (no_parts); notify = ([]); changed_when = None; failed_when = None; attempts = None; ignore_errors = None }) (no_steps)); post_tasks = (no_steps); handlers = ([]); forces = false } ∷ []))
book_831 = refl

book_832 : book_from (builtins ++ ([])) (list (item (rec (field (codes "hosts") (text (codes "web:db,h1")) (field (codes "tasks") (list (item (rec (field (codes "ping") null (no_fields))) (no_items))) (no_fields)))) (no_items))) ≡ Ok ((record { line = 1; pattern = ((codes "web") ∷ (codes "db") ∷ (codes "h1") ∷ []); gathering = None; vars = (no_parts); is_linear = true; serial = ([]); pre_tasks = (no_steps); tasks = (task_step (record { line = 2; work = (module_work (codes "ping") (no_parts)); condition = (no_expressions); loop = None; register = None; vars = (no_parts); notify = ([]); changed_when = None; failed_when = None; attempts = None; ignore_errors = None }) (no_steps)); post_tasks = (no_steps); handlers = ([]); forces = false } ∷ []))
book_832 = refl

book_833 : book_from (builtins ++ ([])) (list (item (rec (field (codes "hosts") (text (codes "zz")) (field (codes "tasks") (list (item (int (pos 5)) (no_items))) (no_fields)))) (no_items))) ≡ Err (record { line = 2; code = 2 })
book_833 = refl

book_834 : book_from (builtins ++ ([])) (list (item (rec (field (codes "hosts") (text (codes "zz")) (field (codes "tasks") (list (item (rec (field (codes "always") (list (item (rec (field (codes "always") (list (item (rec (field (codes "always") (list (item (rec (field (codes "always") (list (item (rec (field (codes "always") (list (item (rec (field (codes "always") (list (item (rec (field (codes "always") (list (item (rec (field (codes "always") (list (item (rec (field (codes "always") (list (item (rec (field (codes "always") (list (item (rec (field (codes "always") (list (item (rec (field (codes "always") (list (item (rec (field (codes "always") (list (item (rec (field (codes "always") (list (item (rec (field (codes "ping") null (no_fields))) (no_items))) (field (codes "block") (list (no_items)) (no_fields)))) (no_items))) (field (codes "block") (list (no_items)) (no_fields)))) (no_items))) (field (codes "block") (list (no_items)) (no_fields)))) (no_items))) (field (codes "block") (list (no_items)) (no_fields)))) (no_items))) (field (codes "block") (list (no_items)) (no_fields)))) (no_items))) (field (codes "block") (list (no_items)) (no_fields)))) (no_items))) (field (codes "block") (list (no_items)) (no_fields)))) (no_items))) (field (codes "block") (list (no_items)) (no_fields)))) (no_items))) (field (codes "block") (list (no_items)) (no_fields)))) (no_items))) (field (codes "block") (list (no_items)) (no_fields)))) (no_items))) (field (codes "block") (list (no_items)) (no_fields)))) (no_items))) (field (codes "block") (list (no_items)) (no_fields)))) (no_items))) (field (codes "block") (list (no_items)) (no_fields)))) (no_items))) (field (codes "block") (list (no_items)) (no_fields)))) (no_items))) (no_fields)))) (no_items))) ≡ Ok ((record { line = 1; pattern = ((codes "zz") ∷ []); gathering = None; vars = (no_parts); is_linear = true; serial = ([]); pre_tasks = (no_steps); tasks = (block_step (record { line = 2; condition = (no_expressions); vars = (no_parts); ignore_errors = None }) (no_steps) (no_steps) (block_step (record { line = 3; condition = (no_expressions); vars = (no_parts); ignore_errors = None }) (no_steps) (no_steps) (block_step (record { line = 4; condition = (no_expressions); vars = (no_parts); ignore_errors = None }) (no_steps) (no_steps) (block_step (record { line = 5; condition = (no_expressions); vars = (no_parts); ignore_errors = None }) (no_steps) (no_steps) (block_step (record { line = 6; condition = (no_expressions); vars = (no_parts); ignore_errors = None }) (no_steps) (no_steps) (block_step (record { line = 7; condition = (no_expressions); vars = (no_parts); ignore_errors = None }) (no_steps) (no_steps) (block_step (record { line = 8; condition = (no_expressions); vars = (no_parts); ignore_errors = None }) (no_steps) (no_steps) (block_step (record { line = 9; condition = (no_expressions); vars = (no_parts); ignore_errors = None }) (no_steps) (no_steps) (block_step (record { line = 10; condition = (no_expressions); vars = (no_parts); ignore_errors = None }) (no_steps) (no_steps) (block_step (record { line = 11; condition = (no_expressions); vars = (no_parts); ignore_errors = None }) (no_steps) (no_steps) (block_step (record { line = 12; condition = (no_expressions); vars = (no_parts); ignore_errors = None }) (no_steps) (no_steps) (block_step (record { line = 13; condition = (no_expressions); vars = (no_parts); ignore_errors = None }) (no_steps) (no_steps) (block_step (record { line = 14; condition = (no_expressions); vars = (no_parts); ignore_errors = None }) (no_steps) (no_steps) (block_step (record { line = 15; condition = (no_expressions); vars = (no_parts); ignore_errors = None }) (no_steps) (no_steps) (task_step (record { line = 16; work = (module_work (codes "ping") (no_parts)); condition = (no_expressions); loop = None; register = None; vars = (no_parts); notify = ([]); changed_when = None; failed_when = None; attempts = None; ignore_errors = None }) (no_steps)) (no_steps)) (no_steps)) (no_steps)) (no_steps)) (no_steps)) (no_steps)) (no_steps)) (no_steps)) (no_steps)) (no_steps)) (no_steps)) (no_steps)) (no_steps)) (no_steps)); post_tasks = (no_steps); handlers = ([]); forces = false } ∷ []))
book_834 = refl

book_835 : book_from (builtins ++ ([])) (list (item (rec (field (codes "hosts") (text (codes "zz")) (field (codes "tasks") (list (item (rec (field (codes "ping") null (no_fields))) (no_items))) (no_fields)))) (no_items))) ≡ Ok ((record { line = 1; pattern = ((codes "zz") ∷ []); gathering = None; vars = (no_parts); is_linear = true; serial = ([]); pre_tasks = (no_steps); tasks = (task_step (record { line = 2; work = (module_work (codes "ping") (no_parts)); condition = (no_expressions); loop = None; register = None; vars = (no_parts); notify = ([]); changed_when = None; failed_when = None; attempts = None; ignore_errors = None }) (no_steps)); post_tasks = (no_steps); handlers = ([]); forces = false } ∷ []))
book_835 = refl

book_836 : book_from (builtins ++ ([])) (list (item (rec (field (codes "hosts") (text (codes "zz")) (no_fields))) (no_items))) ≡ Ok ((record { line = 1; pattern = ((codes "zz") ∷ []); gathering = None; vars = (no_parts); is_linear = true; serial = ([]); pre_tasks = (no_steps); tasks = (no_steps); post_tasks = (no_steps); handlers = ([]); forces = false } ∷ []))
book_836 = refl

book_837 : book_from (builtins ++ ([])) (list (item (rec (field (codes "name") (int (pos 5)) (no_fields))) (no_items))) ≡ Err (record { line = 1; code = 2 })
book_837 = refl

book_838 : book_from (builtins ++ ([])) (list (item (rec (no_fields)) (no_items))) ≡ Err (record { line = 1; code = 2 })
book_838 = refl

book_839 : book_from (builtins ++ ([])) (list (item (text (97 ∷ 127 ∷ 98 ∷ [])) (no_items))) ≡ Err (record { line = 1; code = 2 })
book_839 = refl
