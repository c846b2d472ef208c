-- The books of cases as they are read, computed.
use Rattle.std.specs.Prelude.{◌≡◌, refl, pos, negsuc, [], ◌∷◌, ◌++◌, true, false, Some, None, Ok, Err, codes}
use Rattle.pb_semantics.specs.Data.{null, int, text, list, rec, no_items, item, no_fields, field}
use Rattle.pb_language.specs.Expression.{equal, less, is_failed, literal, path, negation, conjunction, comparison, defined, undefinable, value_status, length_of, variable, no_expressions, expression, no_parts, part}
use Rattle.pb_language.specs.Book.{module_work, no_steps, task_step}
use Rattle.pb_language.specs.BookForm.{book_from}
use Rattle.pb_language.specs.Builtins.{builtins}

book_440 : book_from (builtins ++ ([])) (list (item (rec (field (codes "hosts") (text (codes "all")) (field (codes "tasks") (list (item (rec (field (codes "command") (text (codes "x")) (field (codes "register") (text (codes "out")) (no_fields)))) (item (rec (field (codes "ping") null (field (codes "when") (text (97 ∷ 11 ∷ [])) (no_fields)))) (no_items)))) (no_fields)))) (no_items))) ≡ Err (record { line = 3; code = 7 })
book_440 = refl

book_441 : book_from (builtins ++ ([])) (list (item (rec (field (codes "hosts") (text (codes "all")) (field (codes "tasks") (list (item (rec (field (codes "command") (text (codes "x")) (field (codes "register") (text (codes "out")) (no_fields)))) (item (rec (field (codes "ping") null (field (codes "when") (text (97 ∷ 32 ∷ 124 ∷ 32 ∷ 100 ∷ 101 ∷ 102 ∷ 97 ∷ 117 ∷ 108 ∷ 116 ∷ 40 ∷ 49 ∷ 44 ∷ 32 ∷ 116 ∷ 114 ∷ 117 ∷ 101 ∷ 41 ∷ [])) (no_fields)))) (no_items)))) (no_fields)))) (no_items))) ≡ Err (record { line = 3; code = 7 })
book_441 = refl

book_442 : book_from (builtins ++ ([])) (list (item (rec (field (codes "hosts") (text (codes "all")) (field (codes "tasks") (list (item (rec (field (codes "command") (text (codes "x")) (field (codes "register") (text (codes "out")) (no_fields)))) (item (rec (field (codes "ping") null (field (codes "when") (text (97 ∷ 32 ∷ 124 ∷ 32 ∷ 100 ∷ 101 ∷ 102 ∷ 97 ∷ 117 ∷ 108 ∷ 116 ∷ [])) (no_fields)))) (no_items)))) (no_fields)))) (no_items))) ≡ Err (record { line = 3; code = 7 })
book_442 = refl

book_443 : book_from (builtins ++ ([])) (list (item (rec (field (codes "hosts") (text (codes "all")) (field (codes "tasks") (list (item (rec (field (codes "command") (text (codes "x")) (field (codes "register") (text (codes "out")) (no_fields)))) (item (rec (field (codes "ping") null (field (codes "when") (text (97 ∷ 32 ∷ 124 ∷ 32 ∷ 108 ∷ 101 ∷ 110 ∷ 103 ∷ 116 ∷ 104 ∷ 32 ∷ 105 ∷ 115 ∷ 32 ∷ 100 ∷ 101 ∷ 102 ∷ 105 ∷ 110 ∷ 101 ∷ 100 ∷ [])) (no_fields)))) (no_items)))) (no_fields)))) (no_items))) ≡ Ok ((record { line = 1; pattern = ((codes "all") ∷ []); gathering = None; vars = (no_parts); is_linear = true; serial = ([]); pre_tasks = (no_steps); tasks = (task_step (record { line = 2; work = (module_work (codes "command") (part (codes "cmd") (literal (text (codes "x"))) (no_parts))); condition = (no_expressions); loop = None; register = (Some (codes "out")); vars = (no_parts); notify = ([]); changed_when = None; failed_when = None; attempts = None; ignore_errors = None }) (task_step (record { line = 3; work = (module_work (codes "ping") (no_parts)); condition = (expression (undefinable (length_of (path (variable (codes "a")) ([])))) (no_expressions)); loop = None; register = None; vars = (no_parts); notify = ([]); changed_when = None; failed_when = None; attempts = None; ignore_errors = None }) (no_steps))); post_tasks = (no_steps); handlers = ([]); forces = false } ∷ []))
book_443 = refl

book_444 : book_from (builtins ++ ([])) (list (item (rec (field (codes "hosts") (text (codes "all")) (field (codes "tasks") (list (item (rec (field (codes "command") (text (codes "x")) (field (codes "register") (text (codes "out")) (no_fields)))) (item (rec (field (codes "ping") null (field (codes "when") (text (97 ∷ 32 ∷ 124 ∷ 32 ∷ 117 ∷ 112 ∷ 112 ∷ 101 ∷ 114 ∷ [])) (no_fields)))) (no_items)))) (no_fields)))) (no_items))) ≡ Err (record { line = 3; code = 7 })
book_444 = refl

book_445 : book_from (builtins ++ ([])) (list (item (rec (field (codes "hosts") (text (codes "all")) (field (codes "tasks") (list (item (rec (field (codes "command") (text (codes "x")) (field (codes "register") (text (codes "out")) (no_fields)))) (item (rec (field (codes "ping") null (field (codes "when") (text (97 ∷ 32 ∷ 38 ∷ 38 ∷ 32 ∷ 98 ∷ [])) (no_fields)))) (no_items)))) (no_fields)))) (no_items))) ≡ Err (record { line = 3; code = 7 })
book_445 = refl

book_446 : book_from (builtins ++ ([])) (list (item (rec (field (codes "hosts") (text (codes "all")) (field (codes "tasks") (list (item (rec (field (codes "command") (text (codes "x")) (field (codes "register") (text (codes "out")) (no_fields)))) (item (rec (field (codes "ping") null (field (codes "when") (text (97 ∷ 32 ∷ 61 ∷ 61 ∷ 10 ∷ [])) (no_fields)))) (no_items)))) (no_fields)))) (no_items))) ≡ Err (record { line = 3; code = 7 })
book_446 = refl

book_447 : book_from (builtins ++ ([])) (list (item (rec (field (codes "hosts") (text (codes "all")) (field (codes "tasks") (list (item (rec (field (codes "command") (text (codes "x")) (field (codes "register") (text (codes "out")) (no_fields)))) (item (rec (field (codes "ping") null (field (codes "when") (text (97 ∷ 35 ∷ 98 ∷ [])) (no_fields)))) (no_items)))) (no_fields)))) (no_items))) ≡ Err (record { line = 3; code = 7 })
book_447 = refl

book_448 : book_from (builtins ++ ([])) (list (item (rec (field (codes "hosts") (text (codes "all")) (field (codes "tasks") (list (item (rec (field (codes "command") (text (codes "x")) (field (codes "register") (text (codes "out")) (no_fields)))) (item (rec (field (codes "ping") null (field (codes "when") (text (97 ∷ 91 ∷ 48 ∷ 93 ∷ [])) (no_fields)))) (no_items)))) (no_fields)))) (no_items))) ≡ Err (record { line = 3; code = 7 })
book_448 = refl

book_449 : book_from (builtins ++ ([])) (list (item (rec (field (codes "hosts") (text (codes "all")) (field (codes "tasks") (list (item (rec (field (codes "command") (text (codes "x")) (field (codes "register") (text (codes "out")) (no_fields)))) (item (rec (field (codes "ping") null (field (codes "when") (text ([])) (no_fields)))) (no_items)))) (no_fields)))) (no_items))) ≡ Err (record { line = 3; code = 7 })
book_449 = refl

book_450 : book_from (builtins ++ ([])) (list (item (rec (field (codes "hosts") (text (codes "all")) (field (codes "tasks") (list (item (rec (field (codes "command") (text (codes "x")) (field (codes "register") (text (codes "out")) (no_fields)))) (item (rec (field (codes "ping") null (field (codes "when") (text (codes "!a")) (no_fields)))) (no_items)))) (no_fields)))) (no_items))) ≡ Err (record { line = 3; code = 7 })
book_450 = refl

book_451 : book_from (builtins ++ ([])) (list (item (rec (field (codes "hosts") (text (codes "all")) (field (codes "tasks") (list (item (rec (field (codes "command") (text (codes "x")) (field (codes "register") (text (codes "out")) (no_fields)))) (item (rec (field (codes "ping") null (field (codes "when") (text (codes "(((((((((((((((((((((((((((((((((")) (no_fields)))) (no_items)))) (no_fields)))) (no_items))) ≡ Err (record { line = 3; code = 7 })
book_451 = refl

book_452 : book_from (builtins ++ ([])) (list (item (rec (field (codes "hosts") (text (codes "all")) (field (codes "tasks") (list (item (rec (field (codes "command") (text (codes "x")) (field (codes "register") (text (codes "out")) (no_fields)))) (item (rec (field (codes "ping") null (field (codes "when") (text (codes "((((1))))")) (no_fields)))) (no_items)))) (no_fields)))) (no_items))) ≡ Ok ((record { line = 1; pattern = ((codes "all") ∷ []); gathering = None; vars = (no_parts); is_linear = true; serial = ([]); pre_tasks = (no_steps); tasks = (task_step (record { line = 2; work = (module_work (codes "command") (part (codes "cmd") (literal (text (codes "x"))) (no_parts))); condition = (no_expressions); loop = None; register = (Some (codes "out")); vars = (no_parts); notify = ([]); changed_when = None; failed_when = None; attempts = None; ignore_errors = None }) (task_step (record { line = 3; work = (module_work (codes "ping") (no_parts)); condition = (expression (literal (int (pos 1))) (no_expressions)); loop = None; register = None; vars = (no_parts); notify = ([]); changed_when = None; failed_when = None; attempts = None; ignore_errors = None }) (no_steps))); post_tasks = (no_steps); handlers = ([]); forces = false } ∷ []))
book_452 = refl

book_453 : book_from (builtins ++ ([])) (list (item (rec (field (codes "hosts") (text (codes "all")) (field (codes "tasks") (list (item (rec (field (codes "command") (text (codes "x")) (field (codes "register") (text (codes "out")) (no_fields)))) (item (rec (field (codes "ping") null (field (codes "when") (text (codes "--1")) (no_fields)))) (no_items)))) (no_fields)))) (no_items))) ≡ Err (record { line = 3; code = 7 })
book_453 = refl

book_454 : book_from (builtins ++ ([])) (list (item (rec (field (codes "hosts") (text (codes "all")) (field (codes "tasks") (list (item (rec (field (codes "command") (text (codes "x")) (field (codes "register") (text (codes "out")) (no_fields)))) (item (rec (field (codes "ping") null (field (codes "when") (text (codes "-0")) (no_fields)))) (no_items)))) (no_fields)))) (no_items))) ≡ Ok ((record { line = 1; pattern = ((codes "all") ∷ []); gathering = None; vars = (no_parts); is_linear = true; serial = ([]); pre_tasks = (no_steps); tasks = (task_step (record { line = 2; work = (module_work (codes "command") (part (codes "cmd") (literal (text (codes "x"))) (no_parts))); condition = (no_expressions); loop = None; register = (Some (codes "out")); vars = (no_parts); notify = ([]); changed_when = None; failed_when = None; attempts = None; ignore_errors = None }) (task_step (record { line = 3; work = (module_work (codes "ping") (no_parts)); condition = (expression (literal (int (pos 0))) (no_expressions)); loop = None; register = None; vars = (no_parts); notify = ([]); changed_when = None; failed_when = None; attempts = None; ignore_errors = None }) (no_steps))); post_tasks = (no_steps); handlers = ([]); forces = false } ∷ []))
book_454 = refl

book_455 : book_from (builtins ++ ([])) (list (item (rec (field (codes "hosts") (text (codes "all")) (field (codes "tasks") (list (item (rec (field (codes "command") (text (codes "x")) (field (codes "register") (text (codes "out")) (no_fields)))) (item (rec (field (codes "ping") null (field (codes "when") (text (codes "-1")) (no_fields)))) (no_items)))) (no_fields)))) (no_items))) ≡ Ok ((record { line = 1; pattern = ((codes "all") ∷ []); gathering = None; vars = (no_parts); is_linear = true; serial = ([]); pre_tasks = (no_steps); tasks = (task_step (record { line = 2; work = (module_work (codes "command") (part (codes "cmd") (literal (text (codes "x"))) (no_parts))); condition = (no_expressions); loop = None; register = (Some (codes "out")); vars = (no_parts); notify = ([]); changed_when = None; failed_when = None; attempts = None; ignore_errors = None }) (task_step (record { line = 3; work = (module_work (codes "ping") (no_parts)); condition = (expression (literal (int (negsuc 0))) (no_expressions)); loop = None; register = None; vars = (no_parts); notify = ([]); changed_when = None; failed_when = None; attempts = None; ignore_errors = None }) (no_steps))); post_tasks = (no_steps); handlers = ([]); forces = false } ∷ []))
book_455 = refl

book_456 : book_from (builtins ++ ([])) (list (item (rec (field (codes "hosts") (text (codes "all")) (field (codes "tasks") (list (item (rec (field (codes "command") (text (codes "x")) (field (codes "register") (text (codes "out")) (no_fields)))) (item (rec (field (codes "ping") null (field (codes "when") (text (codes "-9223372036854775808")) (no_fields)))) (no_items)))) (no_fields)))) (no_items))) ≡ Ok ((record { line = 1; pattern = ((codes "all") ∷ []); gathering = None; vars = (no_parts); is_linear = true; serial = ([]); pre_tasks = (no_steps); tasks = (task_step (record { line = 2; work = (module_work (codes "command") (part (codes "cmd") (literal (text (codes "x"))) (no_parts))); condition = (no_expressions); loop = None; register = (Some (codes "out")); vars = (no_parts); notify = ([]); changed_when = None; failed_when = None; attempts = None; ignore_errors = None }) (task_step (record { line = 3; work = (module_work (codes "ping") (no_parts)); condition = (expression (literal (int (negsuc 9223372036854775807))) (no_expressions)); loop = None; register = None; vars = (no_parts); notify = ([]); changed_when = None; failed_when = None; attempts = None; ignore_errors = None }) (no_steps))); post_tasks = (no_steps); handlers = ([]); forces = false } ∷ []))
book_456 = refl

book_457 : book_from (builtins ++ ([])) (list (item (rec (field (codes "hosts") (text (codes "all")) (field (codes "tasks") (list (item (rec (field (codes "command") (text (codes "x")) (field (codes "register") (text (codes "out")) (no_fields)))) (item (rec (field (codes "ping") null (field (codes "when") (text (codes "-9223372036854775809")) (no_fields)))) (no_items)))) (no_fields)))) (no_items))) ≡ Err (record { line = 3; code = 7 })
book_457 = refl

book_458 : book_from (builtins ++ ([])) (list (item (rec (field (codes "hosts") (text (codes "all")) (field (codes "tasks") (list (item (rec (field (codes "command") (text (codes "x")) (field (codes "register") (text (codes "out")) (no_fields)))) (item (rec (field (codes "ping") null (field (codes "when") (text (codes "01")) (no_fields)))) (no_items)))) (no_fields)))) (no_items))) ≡ Err (record { line = 3; code = 7 })
book_458 = refl

book_459 : book_from (builtins ++ ([])) (list (item (rec (field (codes "hosts") (text (codes "all")) (field (codes "tasks") (list (item (rec (field (codes "command") (text (codes "x")) (field (codes "register") (text (codes "out")) (no_fields)))) (item (rec (field (codes "ping") null (field (codes "when") (text (codes "1 != 2")) (no_fields)))) (no_items)))) (no_fields)))) (no_items))) ≡ Ok ((record { line = 1; pattern = ((codes "all") ∷ []); gathering = None; vars = (no_parts); is_linear = true; serial = ([]); pre_tasks = (no_steps); tasks = (task_step (record { line = 2; work = (module_work (codes "command") (part (codes "cmd") (literal (text (codes "x"))) (no_parts))); condition = (no_expressions); loop = None; register = (Some (codes "out")); vars = (no_parts); notify = ([]); changed_when = None; failed_when = None; attempts = None; ignore_errors = None }) (task_step (record { line = 3; work = (module_work (codes "ping") (no_parts)); condition = (expression (negation (comparison equal (literal (int (pos 1))) (literal (int (pos 2))))) (no_expressions)); loop = None; register = None; vars = (no_parts); notify = ([]); changed_when = None; failed_when = None; attempts = None; ignore_errors = None }) (no_steps))); post_tasks = (no_steps); handlers = ([]); forces = false } ∷ []))
book_459 = refl

book_460 : book_from (builtins ++ ([])) (list (item (rec (field (codes "hosts") (text (codes "all")) (field (codes "tasks") (list (item (rec (field (codes "command") (text (codes "x")) (field (codes "register") (text (codes "out")) (no_fields)))) (item (rec (field (codes "ping") null (field (codes "when") (text (codes "1 + (((((((((((((((((((((((((((((((((")) (no_fields)))) (no_items)))) (no_fields)))) (no_items))) ≡ Err (record { line = 3; code = 7 })
book_460 = refl

book_461 : book_from (builtins ++ ([])) (list (item (rec (field (codes "hosts") (text (codes "all")) (field (codes "tasks") (list (item (rec (field (codes "command") (text (codes "x")) (field (codes "register") (text (codes "out")) (no_fields)))) (item (rec (field (codes "ping") null (field (codes "when") (text (codes "1 < 2 < 3")) (no_fields)))) (no_items)))) (no_fields)))) (no_items))) ≡ Err (record { line = 3; code = 7 })
book_461 = refl

book_462 : book_from (builtins ++ ([])) (list (item (rec (field (codes "hosts") (text (codes "all")) (field (codes "tasks") (list (item (rec (field (codes "command") (text (codes "x")) (field (codes "register") (text (codes "out")) (no_fields)))) (item (rec (field (codes "ping") null (field (codes "when") (text (codes "1 < 2")) (no_fields)))) (no_items)))) (no_fields)))) (no_items))) ≡ Ok ((record { line = 1; pattern = ((codes "all") ∷ []); gathering = None; vars = (no_parts); is_linear = true; serial = ([]); pre_tasks = (no_steps); tasks = (task_step (record { line = 2; work = (module_work (codes "command") (part (codes "cmd") (literal (text (codes "x"))) (no_parts))); condition = (no_expressions); loop = None; register = (Some (codes "out")); vars = (no_parts); notify = ([]); changed_when = None; failed_when = None; attempts = None; ignore_errors = None }) (task_step (record { line = 3; work = (module_work (codes "ping") (no_parts)); condition = (expression (comparison less (literal (int (pos 1))) (literal (int (pos 2)))) (no_expressions)); loop = None; register = None; vars = (no_parts); notify = ([]); changed_when = None; failed_when = None; attempts = None; ignore_errors = None }) (no_steps))); post_tasks = (no_steps); handlers = ([]); forces = false } ∷ []))
book_462 = refl

book_463 : book_from (builtins ++ ([])) (list (item (rec (field (codes "hosts") (text (codes "all")) (field (codes "tasks") (list (item (rec (field (codes "command") (text (codes "x")) (field (codes "register") (text (codes "out")) (no_fields)))) (item (rec (field (codes "ping") null (field (codes "when") (text (codes "1 = 1")) (no_fields)))) (no_items)))) (no_fields)))) (no_items))) ≡ Err (record { line = 3; code = 7 })
book_463 = refl

book_464 : book_from (builtins ++ ([])) (list (item (rec (field (codes "hosts") (text (codes "all")) (field (codes "tasks") (list (item (rec (field (codes "command") (text (codes "x")) (field (codes "register") (text (codes "out")) (no_fields)))) (item (rec (field (codes "ping") null (field (codes "when") (text (codes "1 == 1 ")) (no_fields)))) (no_items)))) (no_fields)))) (no_items))) ≡ Ok ((record { line = 1; pattern = ((codes "all") ∷ []); gathering = None; vars = (no_parts); is_linear = true; serial = ([]); pre_tasks = (no_steps); tasks = (task_step (record { line = 2; work = (module_work (codes "command") (part (codes "cmd") (literal (text (codes "x"))) (no_parts))); condition = (no_expressions); loop = None; register = (Some (codes "out")); vars = (no_parts); notify = ([]); changed_when = None; failed_when = None; attempts = None; ignore_errors = None }) (task_step (record { line = 3; work = (module_work (codes "ping") (no_parts)); condition = (expression (comparison equal (literal (int (pos 1))) (literal (int (pos 1)))) (no_expressions)); loop = None; register = None; vars = (no_parts); notify = ([]); changed_when = None; failed_when = None; attempts = None; ignore_errors = None }) (no_steps))); post_tasks = (no_steps); handlers = ([]); forces = false } ∷ []))
book_464 = refl

book_465 : book_from (builtins ++ ([])) (list (item (rec (field (codes "hosts") (text (codes "all")) (field (codes "tasks") (list (item (rec (field (codes "command") (text (codes "x")) (field (codes "register") (text (codes "out")) (no_fields)))) (item (rec (field (codes "ping") null (field (codes "when") (text (codes "1 is not failed")) (no_fields)))) (no_items)))) (no_fields)))) (no_items))) ≡ Ok ((record { line = 1; pattern = ((codes "all") ∷ []); gathering = None; vars = (no_parts); is_linear = true; serial = ([]); pre_tasks = (no_steps); tasks = (task_step (record { line = 2; work = (module_work (codes "command") (part (codes "cmd") (literal (text (codes "x"))) (no_parts))); condition = (no_expressions); loop = None; register = (Some (codes "out")); vars = (no_parts); notify = ([]); changed_when = None; failed_when = None; attempts = None; ignore_errors = None }) (task_step (record { line = 3; work = (module_work (codes "ping") (no_parts)); condition = (expression (negation (value_status is_failed (literal (int (pos 1))))) (no_expressions)); loop = None; register = None; vars = (no_parts); notify = ([]); changed_when = None; failed_when = None; attempts = None; ignore_errors = None }) (no_steps))); post_tasks = (no_steps); handlers = ([]); forces = false } ∷ []))
book_465 = refl

book_466 : book_from (builtins ++ ([])) (list (item (rec (field (codes "hosts") (text (codes "all")) (field (codes "tasks") (list (item (rec (field (codes "command") (text (codes "x")) (field (codes "register") (text (codes "out")) (no_fields)))) (item (rec (field (codes "ping") null (field (codes "when") (text (codes "1.5")) (no_fields)))) (no_items)))) (no_fields)))) (no_items))) ≡ Err (record { line = 3; code = 7 })
book_466 = refl

book_467 : book_from (builtins ++ ([])) (list (item (rec (field (codes "hosts") (text (codes "all")) (field (codes "tasks") (list (item (rec (field (codes "command") (text (codes "x")) (field (codes "register") (text (codes "out")) (no_fields)))) (item (rec (field (codes "ping") null (field (codes "when") (text (codes "1e3")) (no_fields)))) (no_items)))) (no_fields)))) (no_items))) ≡ Err (record { line = 3; code = 7 })
book_467 = refl

book_468 : book_from (builtins ++ ([])) (list (item (rec (field (codes "hosts") (text (codes "all")) (field (codes "tasks") (list (item (rec (field (codes "command") (text (codes "x")) (field (codes "register") (text (codes "out")) (no_fields)))) (item (rec (field (codes "ping") null (field (codes "when") (text (codes "9223372036854775808")) (no_fields)))) (no_items)))) (no_fields)))) (no_items))) ≡ Err (record { line = 3; code = 7 })
book_468 = refl

book_469 : book_from (builtins ++ ([])) (list (item (rec (field (codes "hosts") (text (codes "all")) (field (codes "tasks") (list (item (rec (field (codes "command") (text (codes "x")) (field (codes "register") (text (codes "out")) (no_fields)))) (item (rec (field (codes "ping") null (field (codes "when") (text (codes "None")) (no_fields)))) (no_items)))) (no_fields)))) (no_items))) ≡ Ok ((record { line = 1; pattern = ((codes "all") ∷ []); gathering = None; vars = (no_parts); is_linear = true; serial = ([]); pre_tasks = (no_steps); tasks = (task_step (record { line = 2; work = (module_work (codes "command") (part (codes "cmd") (literal (text (codes "x"))) (no_parts))); condition = (no_expressions); loop = None; register = (Some (codes "out")); vars = (no_parts); notify = ([]); changed_when = None; failed_when = None; attempts = None; ignore_errors = None }) (task_step (record { line = 3; work = (module_work (codes "ping") (no_parts)); condition = (expression (literal null) (no_expressions)); loop = None; register = None; vars = (no_parts); notify = ([]); changed_when = None; failed_when = None; attempts = None; ignore_errors = None }) (no_steps))); post_tasks = (no_steps); handlers = ([]); forces = false } ∷ []))
book_469 = refl

book_470 : book_from (builtins ++ ([])) (list (item (rec (field (codes "hosts") (text (codes "all")) (field (codes "tasks") (list (item (rec (field (codes "command") (text (codes "x")) (field (codes "register") (text (codes "out")) (no_fields)))) (item (rec (field (codes "ping") null (field (codes "when") (text (codes "TRUE")) (no_fields)))) (no_items)))) (no_fields)))) (no_items))) ≡ Ok ((record { line = 1; pattern = ((codes "all") ∷ []); gathering = None; vars = (no_parts); is_linear = true; serial = ([]); pre_tasks = (no_steps); tasks = (task_step (record { line = 2; work = (module_work (codes "command") (part (codes "cmd") (literal (text (codes "x"))) (no_parts))); condition = (no_expressions); loop = None; register = (Some (codes "out")); vars = (no_parts); notify = ([]); changed_when = None; failed_when = None; attempts = None; ignore_errors = None }) (task_step (record { line = 3; work = (module_work (codes "ping") (no_parts)); condition = (expression (path (variable (codes "TRUE")) ([])) (no_expressions)); loop = None; register = None; vars = (no_parts); notify = ([]); changed_when = None; failed_when = None; attempts = None; ignore_errors = None }) (no_steps))); post_tasks = (no_steps); handlers = ([]); forces = false } ∷ []))
book_470 = refl

book_471 : book_from (builtins ++ ([])) (list (item (rec (field (codes "hosts") (text (codes "all")) (field (codes "tasks") (list (item (rec (field (codes "command") (text (codes "x")) (field (codes "register") (text (codes "out")) (no_fields)))) (item (rec (field (codes "ping") null (field (codes "when") (text (codes "a + b")) (no_fields)))) (no_items)))) (no_fields)))) (no_items))) ≡ Err (record { line = 3; code = 7 })
book_471 = refl

book_472 : book_from (builtins ++ ([])) (list (item (rec (field (codes "hosts") (text (codes "all")) (field (codes "tasks") (list (item (rec (field (codes "command") (text (codes "x")) (field (codes "register") (text (codes "out")) (no_fields)))) (item (rec (field (codes "ping") null (field (codes "when") (text (codes "a - b")) (no_fields)))) (no_items)))) (no_fields)))) (no_items))) ≡ Err (record { line = 3; code = 7 })
book_472 = refl

book_473 : book_from (builtins ++ ([])) (list (item (rec (field (codes "hosts") (text (codes "all")) (field (codes "tasks") (list (item (rec (field (codes "command") (text (codes "x")) (field (codes "register") (text (codes "out")) (no_fields)))) (item (rec (field (codes "ping") null (field (codes "when") (text (codes "a -1")) (no_fields)))) (no_items)))) (no_fields)))) (no_items))) ≡ Err (record { line = 3; code = 7 })
book_473 = refl

book_474 : book_from (builtins ++ ([])) (list (item (rec (field (codes "hosts") (text (codes "all")) (field (codes "tasks") (list (item (rec (field (codes "command") (text (codes "x")) (field (codes "register") (text (codes "out")) (no_fields)))) (item (rec (field (codes "ping") null (field (codes "when") (text (codes "a . b")) (no_fields)))) (no_items)))) (no_fields)))) (no_items))) ≡ Ok ((record { line = 1; pattern = ((codes "all") ∷ []); gathering = None; vars = (no_parts); is_linear = true; serial = ([]); pre_tasks = (no_steps); tasks = (task_step (record { line = 2; work = (module_work (codes "command") (part (codes "cmd") (literal (text (codes "x"))) (no_parts))); condition = (no_expressions); loop = None; register = (Some (codes "out")); vars = (no_parts); notify = ([]); changed_when = None; failed_when = None; attempts = None; ignore_errors = None }) (task_step (record { line = 3; work = (module_work (codes "ping") (no_parts)); condition = (expression (path (variable (codes "a")) ((codes "b") ∷ [])) (no_expressions)); loop = None; register = None; vars = (no_parts); notify = ([]); changed_when = None; failed_when = None; attempts = None; ignore_errors = None }) (no_steps))); post_tasks = (no_steps); handlers = ([]); forces = false } ∷ []))
book_474 = refl

book_475 : book_from (builtins ++ ([])) (list (item (rec (field (codes "hosts") (text (codes "all")) (field (codes "tasks") (list (item (rec (field (codes "command") (text (codes "x")) (field (codes "register") (text (codes "out")) (no_fields)))) (item (rec (field (codes "ping") null (field (codes "when") (text (codes "a ==")) (no_fields)))) (no_items)))) (no_fields)))) (no_items))) ≡ Err (record { line = 3; code = 7 })
book_475 = refl

book_476 : book_from (builtins ++ ([])) (list (item (rec (field (codes "hosts") (text (codes "all")) (field (codes "tasks") (list (item (rec (field (codes "command") (text (codes "x")) (field (codes "register") (text (codes "out")) (no_fields)))) (item (rec (field (codes "ping") null (field (codes "when") (text (codes "a and b is defined")) (no_fields)))) (no_items)))) (no_fields)))) (no_items))) ≡ Ok ((record { line = 1; pattern = ((codes "all") ∷ []); gathering = None; vars = (no_parts); is_linear = true; serial = ([]); pre_tasks = (no_steps); tasks = (task_step (record { line = 2; work = (module_work (codes "command") (part (codes "cmd") (literal (text (codes "x"))) (no_parts))); condition = (no_expressions); loop = None; register = (Some (codes "out")); vars = (no_parts); notify = ([]); changed_when = None; failed_when = None; attempts = None; ignore_errors = None }) (task_step (record { line = 3; work = (module_work (codes "ping") (no_parts)); condition = (expression (conjunction (expression (path (variable (codes "a")) ([])) (expression (defined (variable (codes "b")) ([])) (no_expressions)))) (no_expressions)); loop = None; register = None; vars = (no_parts); notify = ([]); changed_when = None; failed_when = None; attempts = None; ignore_errors = None }) (no_steps))); post_tasks = (no_steps); handlers = ([]); forces = false } ∷ []))
book_476 = refl

book_477 : book_from (builtins ++ ([])) (list (item (rec (field (codes "hosts") (text (codes "all")) (field (codes "tasks") (list (item (rec (field (codes "command") (text (codes "x")) (field (codes "register") (text (codes "out")) (no_fields)))) (item (rec (field (codes "ping") null (field (codes "when") (text (codes "a is defined == true")) (no_fields)))) (no_items)))) (no_fields)))) (no_items))) ≡ Err (record { line = 3; code = 7 })
book_477 = refl

book_478 : book_from (builtins ++ ([])) (list (item (rec (field (codes "hosts") (text (codes "all")) (field (codes "tasks") (list (item (rec (field (codes "command") (text (codes "x")) (field (codes "register") (text (codes "out")) (no_fields)))) (item (rec (field (codes "ping") null (field (codes "when") (text (codes "a is none")) (no_fields)))) (no_items)))) (no_fields)))) (no_items))) ≡ Err (record { line = 3; code = 7 })
book_478 = refl

book_479 : book_from (builtins ++ ([])) (list (item (rec (field (codes "hosts") (text (codes "all")) (field (codes "tasks") (list (item (rec (field (codes "command") (text (codes "x")) (field (codes "register") (text (codes "out")) (no_fields)))) (item (rec (field (codes "ping") null (field (codes "when") (text (codes "a is not not defined")) (no_fields)))) (no_items)))) (no_fields)))) (no_items))) ≡ Err (record { line = 3; code = 7 })
book_479 = refl
