-- The books of cases as they are read, computed.
use Rattle.std.specs.Prelude.{◌≡◌, refl, pos, [], ◌∷◌, ◌++◌, true, false, Some, None, Ok, Err, codes}
use Rattle.pb_semantics.specs.Data.{null, boolean, int, text, list, rec, no_items, item, no_fields, field}
use Rattle.pb_language.specs.Expression.{equal, is_failed, is_changed, named_host, literal, path, hostvars_alone, negation, conjunction, disjunction, comparison, defined, path_status, record_of, variable, no_expressions, expression, no_parts, part}
use Rattle.pb_language.specs.Book.{module_work, debug_work, set_fact_work, no_steps, task_step}
use Rattle.pb_language.specs.BookForm.{book_from}
use Rattle.pb_language.specs.Builtins.{builtins}

book_480 : book_from (builtins ++ ([])) (list (item (rec (field (codes "hosts") (text (codes "all")) (field (codes "tasks") (list (item (rec (field (codes "command") (text (codes "x")) (field (codes "register") (text (codes "out")) (no_fields)))) (item (rec (field (codes "ping") null (field (codes "when") (text (codes "a isdefined")) (no_fields)))) (no_items)))) (no_fields)))) (no_items))) ≡ Err (record { line = 3; code = 7 })
book_480 = refl

book_481 : book_from (builtins ++ ([])) (list (item (rec (field (codes "hosts") (text (codes "all")) (field (codes "tasks") (list (item (rec (field (codes "command") (text (codes "x")) (field (codes "register") (text (codes "out")) (no_fields)))) (item (rec (field (codes "ping") null (field (codes "when") (text (codes "a not is b")) (no_fields)))) (no_items)))) (no_fields)))) (no_items))) ≡ Err (record { line = 3; code = 7 })
book_481 = refl

book_482 : book_from (builtins ++ ([])) (list (item (rec (field (codes "hosts") (text (codes "all")) (field (codes "tasks") (list (item (rec (field (codes "command") (text (codes "x")) (field (codes "register") (text (codes "out")) (no_fields)))) (item (rec (field (codes "ping") null (field (codes "when") (text (codes "a*b")) (no_fields)))) (no_items)))) (no_fields)))) (no_items))) ≡ Err (record { line = 3; code = 7 })
book_482 = refl

book_483 : book_from (builtins ++ ([])) (list (item (rec (field (codes "hosts") (text (codes "all")) (field (codes "tasks") (list (item (rec (field (codes "command") (text (codes "x")) (field (codes "register") (text (codes "out")) (no_fields)))) (item (rec (field (codes "ping") null (field (codes "when") (text (codes "a.")) (no_fields)))) (no_items)))) (no_fields)))) (no_items))) ≡ Err (record { line = 3; code = 7 })
book_483 = refl

book_484 : book_from (builtins ++ ([])) (list (item (rec (field (codes "hosts") (text (codes "all")) (field (codes "tasks") (list (item (rec (field (codes "command") (text (codes "x")) (field (codes "register") (text (codes "out")) (no_fields)))) (item (rec (field (codes "ping") null (field (codes "when") (text (codes "a..b")) (no_fields)))) (no_items)))) (no_fields)))) (no_items))) ≡ Err (record { line = 3; code = 7 })
book_484 = refl

book_485 : book_from (builtins ++ ([])) (list (item (rec (field (codes "hosts") (text (codes "all")) (field (codes "tasks") (list (item (rec (field (codes "command") (text (codes "x")) (field (codes "register") (text (codes "out")) (no_fields)))) (item (rec (field (codes "ping") null (field (codes "when") (text (codes "a.b.b.b.b.b.b.b.b.b.b.b.b.b.b.b.b is defined")) (no_fields)))) (no_items)))) (no_fields)))) (no_items))) ≡ Ok ((record { line = 1; pattern = ((codes "all") ∷ []); gathering = None; vars = (no_parts); is_linear = true; serial = ([]); pre_tasks = (no_steps); tasks = (task_step (record { line = 2; work = (module_work (codes "command") (part (codes "cmd") (literal (text (codes "x"))) (no_parts))); condition = (no_expressions); loop = None; register = (Some (codes "out")); vars = (no_parts); notify = ([]); changed_when = None; failed_when = None; attempts = None; ignore_errors = None }) (task_step (record { line = 3; work = (module_work (codes "ping") (no_parts)); condition = (expression (defined (variable (codes "a")) ((codes "b") ∷ (codes "b") ∷ (codes "b") ∷ (codes "b") ∷ (codes "b") ∷ (codes "b") ∷ (codes "b") ∷ (codes "b") ∷ (codes "b") ∷ (codes "b") ∷ (codes "b") ∷ (codes "b") ∷ (codes "b") ∷ (codes "b") ∷ (codes "b") ∷ (codes "b") ∷ [])) (no_expressions)); loop = None; register = None; vars = (no_parts); notify = ([]); changed_when = None; failed_when = None; attempts = None; ignore_errors = None }) (no_steps))); post_tasks = (no_steps); handlers = ([]); forces = false } ∷ []))
book_485 = refl

book_486 : book_from (builtins ++ ([])) (list (item (rec (field (codes "hosts") (text (codes "all")) (field (codes "tasks") (list (item (rec (field (codes "command") (text (codes "x")) (field (codes "register") (text (codes "out")) (no_fields)))) (item (rec (field (codes "ping") null (field (codes "when") (text (codes "a.b.b.b.b.b.b.b.b.b.b.b.b.b.b.b.b.b +")) (no_fields)))) (no_items)))) (no_fields)))) (no_items))) ≡ Err (record { line = 3; code = 7 })
book_486 = refl

book_487 : book_from (builtins ++ ([])) (list (item (rec (field (codes "hosts") (text (codes "all")) (field (codes "tasks") (list (item (rec (field (codes "command") (text (codes "x")) (field (codes "register") (text (codes "out")) (no_fields)))) (item (rec (field (codes "ping") null (field (codes "when") (text (codes "a.in.is")) (no_fields)))) (no_items)))) (no_fields)))) (no_items))) ≡ Ok ((record { line = 1; pattern = ((codes "all") ∷ []); gathering = None; vars = (no_parts); is_linear = true; serial = ([]); pre_tasks = (no_steps); tasks = (task_step (record { line = 2; work = (module_work (codes "command") (part (codes "cmd") (literal (text (codes "x"))) (no_parts))); condition = (no_expressions); loop = None; register = (Some (codes "out")); vars = (no_parts); notify = ([]); changed_when = None; failed_when = None; attempts = None; ignore_errors = None }) (task_step (record { line = 3; work = (module_work (codes "ping") (no_parts)); condition = (expression (path (variable (codes "a")) ((codes "in") ∷ (codes "is") ∷ [])) (no_expressions)); loop = None; register = None; vars = (no_parts); notify = ([]); changed_when = None; failed_when = None; attempts = None; ignore_errors = None }) (no_steps))); post_tasks = (no_steps); handlers = ([]); forces = false } ∷ []))
book_487 = refl

book_488 : book_from (builtins ++ ([])) (list (item (rec (field (codes "hosts") (text (codes "all")) (field (codes "tasks") (list (item (rec (field (codes "command") (text (codes "x")) (field (codes "register") (text (codes "out")) (no_fields)))) (item (rec (field (codes "ping") null (field (codes "when") (text (codes "a.not")) (no_fields)))) (no_items)))) (no_fields)))) (no_items))) ≡ Ok ((record { line = 1; pattern = ((codes "all") ∷ []); gathering = None; vars = (no_parts); is_linear = true; serial = ([]); pre_tasks = (no_steps); tasks = (task_step (record { line = 2; work = (module_work (codes "command") (part (codes "cmd") (literal (text (codes "x"))) (no_parts))); condition = (no_expressions); loop = None; register = (Some (codes "out")); vars = (no_parts); notify = ([]); changed_when = None; failed_when = None; attempts = None; ignore_errors = None }) (task_step (record { line = 3; work = (module_work (codes "ping") (no_parts)); condition = (expression (path (variable (codes "a")) ((codes "not") ∷ [])) (no_expressions)); loop = None; register = None; vars = (no_parts); notify = ([]); changed_when = None; failed_when = None; attempts = None; ignore_errors = None }) (no_steps))); post_tasks = (no_steps); handlers = ([]); forces = false } ∷ []))
book_488 = refl

book_489 : book_from (builtins ++ ([])) (list (item (rec (field (codes "hosts") (text (codes "all")) (field (codes "tasks") (list (item (rec (field (codes "command") (text (codes "x")) (field (codes "register") (text (codes "out")) (no_fields)))) (item (rec (field (codes "ping") null (field (codes "when") (text (codes "a?b")) (no_fields)))) (no_items)))) (no_fields)))) (no_items))) ≡ Err (record { line = 3; code = 7 })
book_489 = refl

book_490 : book_from (builtins ++ ([])) (list (item (rec (field (codes "hosts") (text (codes "all")) (field (codes "tasks") (list (item (rec (field (codes "command") (text (codes "x")) (field (codes "register") (text (codes "out")) (no_fields)))) (item (rec (field (codes "ping") null (field (codes "when") (text (codes "false or false or false or false or false or false or false or false or false or false or false or false or false or false or false or false or false or false or false or false or false or false or false or false or false or false or false or false or false or false or false or false or false or false or false or false or false or false or false or false or false or false or false or false or false or false or false or false or false or false or false or false or false or false or false or false or false or false or false or false")) (no_fields)))) (no_items)))) (no_fields)))) (no_items))) ≡ Ok ((record { line = 1; pattern = ((codes "all") ∷ []); gathering = None; vars = (no_parts); is_linear = true; serial = ([]); pre_tasks = (no_steps); tasks = (task_step (record { line = 2; work = (module_work (codes "command") (part (codes "cmd") (literal (text (codes "x"))) (no_parts))); condition = (no_expressions); loop = None; register = (Some (codes "out")); vars = (no_parts); notify = ([]); changed_when = None; failed_when = None; attempts = None; ignore_errors = None }) (task_step (record { line = 3; work = (module_work (codes "ping") (no_parts)); condition = (expression (disjunction (expression (literal (boolean false)) (expression (literal (boolean false)) (expression (literal (boolean false)) (expression (literal (boolean false)) (expression (literal (boolean false)) (expression (literal (boolean false)) (expression (literal (boolean false)) (expression (literal (boolean false)) (expression (literal (boolean false)) (expression (literal (boolean false)) (expression (literal (boolean false)) (expression (literal (boolean false)) (expression (literal (boolean false)) (expression (literal (boolean false)) (expression (literal (boolean false)) (expression (literal (boolean false)) (expression (literal (boolean false)) (expression (literal (boolean false)) (expression (literal (boolean false)) (expression (literal (boolean false)) (expression (literal (boolean false)) (expression (literal (boolean false)) (expression (literal (boolean false)) (expression (literal (boolean false)) (expression (literal (boolean false)) (expression (literal (boolean false)) (expression (literal (boolean false)) (expression (literal (boolean false)) (expression (literal (boolean false)) (expression (literal (boolean false)) (expression (literal (boolean false)) (expression (literal (boolean false)) (expression (literal (boolean false)) (expression (literal (boolean false)) (expression (literal (boolean false)) (expression (literal (boolean false)) (expression (literal (boolean false)) (expression (literal (boolean false)) (expression (literal (boolean false)) (expression (literal (boolean false)) (expression (literal (boolean false)) (expression (literal (boolean false)) (expression (literal (boolean false)) (expression (literal (boolean false)) (expression (literal (boolean false)) (expression (literal (boolean false)) (expression (literal (boolean false)) (expression (literal (boolean false)) (expression (literal (boolean false)) (expression (literal (boolean false)) (expression (literal (boolean false)) (expression (literal (boolean false)) (expression (literal (boolean false)) (expression (literal (boolean false)) (expression (literal (boolean false)) (expression (literal (boolean false)) (expression (literal (boolean false)) (expression (literal (boolean false)) (expression (literal (boolean false)) (expression (literal (boolean false)) (no_expressions)))))))))))))))))))))))))))))))))))))))))))))))))))))))))))))) (no_expressions)); loop = None; register = None; vars = (no_parts); notify = ([]); changed_when = None; failed_when = None; attempts = None; ignore_errors = None }) (no_steps))); post_tasks = (no_steps); handlers = ([]); forces = false } ∷ []))
book_490 = refl

book_491 : book_from (builtins ++ ([])) (list (item (rec (field (codes "hosts") (text (codes "all")) (field (codes "tasks") (list (item (rec (field (codes "command") (text (codes "x")) (field (codes "register") (text (codes "out")) (no_fields)))) (item (rec (field (codes "ping") null (field (codes "when") (text (codes "group_names")) (no_fields)))) (no_items)))) (no_fields)))) (no_items))) ≡ Ok ((record { line = 1; pattern = ((codes "all") ∷ []); gathering = None; vars = (no_parts); is_linear = true; serial = ([]); pre_tasks = (no_steps); tasks = (task_step (record { line = 2; work = (module_work (codes "command") (part (codes "cmd") (literal (text (codes "x"))) (no_parts))); condition = (no_expressions); loop = None; register = (Some (codes "out")); vars = (no_parts); notify = ([]); changed_when = None; failed_when = None; attempts = None; ignore_errors = None }) (task_step (record { line = 3; work = (module_work (codes "ping") (no_parts)); condition = (expression (path (variable (codes "group_names")) ([])) (no_expressions)); loop = None; register = None; vars = (no_parts); notify = ([]); changed_when = None; failed_when = None; attempts = None; ignore_errors = None }) (no_steps))); post_tasks = (no_steps); handlers = ([]); forces = false } ∷ []))
book_491 = refl

book_492 : book_from (builtins ++ ([])) (list (item (rec (field (codes "hosts") (text (codes "all")) (field (codes "tasks") (list (item (rec (field (codes "command") (text (codes "x")) (field (codes "register") (text (codes "out")) (no_fields)))) (item (rec (field (codes "ping") null (field (codes "when") (text (codes "groups")) (no_fields)))) (no_items)))) (no_fields)))) (no_items))) ≡ Ok ((record { line = 1; pattern = ((codes "all") ∷ []); gathering = None; vars = (no_parts); is_linear = true; serial = ([]); pre_tasks = (no_steps); tasks = (task_step (record { line = 2; work = (module_work (codes "command") (part (codes "cmd") (literal (text (codes "x"))) (no_parts))); condition = (no_expressions); loop = None; register = (Some (codes "out")); vars = (no_parts); notify = ([]); changed_when = None; failed_when = None; attempts = None; ignore_errors = None }) (task_step (record { line = 3; work = (module_work (codes "ping") (no_parts)); condition = (expression (path (variable (codes "groups")) ([])) (no_expressions)); loop = None; register = None; vars = (no_parts); notify = ([]); changed_when = None; failed_when = None; attempts = None; ignore_errors = None }) (no_steps))); post_tasks = (no_steps); handlers = ([]); forces = false } ∷ []))
book_492 = refl

book_493 : book_from (builtins ++ ([])) (list (item (rec (field (codes "hosts") (text (codes "all")) (field (codes "tasks") (list (item (rec (field (codes "command") (text (codes "x")) (field (codes "register") (text (codes "out")) (no_fields)))) (item (rec (field (codes "ping") null (field (codes "when") (text (codes "groups.all")) (no_fields)))) (no_items)))) (no_fields)))) (no_items))) ≡ Ok ((record { line = 1; pattern = ((codes "all") ∷ []); gathering = None; vars = (no_parts); is_linear = true; serial = ([]); pre_tasks = (no_steps); tasks = (task_step (record { line = 2; work = (module_work (codes "command") (part (codes "cmd") (literal (text (codes "x"))) (no_parts))); condition = (no_expressions); loop = None; register = (Some (codes "out")); vars = (no_parts); notify = ([]); changed_when = None; failed_when = None; attempts = None; ignore_errors = None }) (task_step (record { line = 3; work = (module_work (codes "ping") (no_parts)); condition = (expression (path (variable (codes "groups")) ((codes "all") ∷ [])) (no_expressions)); loop = None; register = None; vars = (no_parts); notify = ([]); changed_when = None; failed_when = None; attempts = None; ignore_errors = None }) (no_steps))); post_tasks = (no_steps); handlers = ([]); forces = false } ∷ []))
book_493 = refl

book_494 : book_from (builtins ++ ([])) (list (item (rec (field (codes "hosts") (text (codes "all")) (field (codes "tasks") (list (item (rec (field (codes "command") (text (codes "x")) (field (codes "register") (text (codes "out")) (no_fields)))) (item (rec (field (codes "ping") null (field (codes "when") (text (codes "groups.all.b.b.b.b.b.b.b.b.b.b.b.b.b.b.b is defined")) (no_fields)))) (no_items)))) (no_fields)))) (no_items))) ≡ Ok ((record { line = 1; pattern = ((codes "all") ∷ []); gathering = None; vars = (no_parts); is_linear = true; serial = ([]); pre_tasks = (no_steps); tasks = (task_step (record { line = 2; work = (module_work (codes "command") (part (codes "cmd") (literal (text (codes "x"))) (no_parts))); condition = (no_expressions); loop = None; register = (Some (codes "out")); vars = (no_parts); notify = ([]); changed_when = None; failed_when = None; attempts = None; ignore_errors = None }) (task_step (record { line = 3; work = (module_work (codes "ping") (no_parts)); condition = (expression (defined (variable (codes "groups")) ((codes "all") ∷ (codes "b") ∷ (codes "b") ∷ (codes "b") ∷ (codes "b") ∷ (codes "b") ∷ (codes "b") ∷ (codes "b") ∷ (codes "b") ∷ (codes "b") ∷ (codes "b") ∷ (codes "b") ∷ (codes "b") ∷ (codes "b") ∷ (codes "b") ∷ (codes "b") ∷ [])) (no_expressions)); loop = None; register = None; vars = (no_parts); notify = ([]); changed_when = None; failed_when = None; attempts = None; ignore_errors = None }) (no_steps))); post_tasks = (no_steps); handlers = ([]); forces = false } ∷ []))
book_494 = refl

book_495 : book_from (builtins ++ ([])) (list (item (rec (field (codes "hosts") (text (codes "all")) (field (codes "tasks") (list (item (rec (field (codes "command") (text (codes "x")) (field (codes "register") (text (codes "out")) (no_fields)))) (item (rec (field (codes "ping") null (field (codes "when") (text (codes "groups.all.x")) (no_fields)))) (no_items)))) (no_fields)))) (no_items))) ≡ Ok ((record { line = 1; pattern = ((codes "all") ∷ []); gathering = None; vars = (no_parts); is_linear = true; serial = ([]); pre_tasks = (no_steps); tasks = (task_step (record { line = 2; work = (module_work (codes "command") (part (codes "cmd") (literal (text (codes "x"))) (no_parts))); condition = (no_expressions); loop = None; register = (Some (codes "out")); vars = (no_parts); notify = ([]); changed_when = None; failed_when = None; attempts = None; ignore_errors = None }) (task_step (record { line = 3; work = (module_work (codes "ping") (no_parts)); condition = (expression (path (variable (codes "groups")) ((codes "all") ∷ (codes "x") ∷ [])) (no_expressions)); loop = None; register = None; vars = (no_parts); notify = ([]); changed_when = None; failed_when = None; attempts = None; ignore_errors = None }) (no_steps))); post_tasks = (no_steps); handlers = ([]); forces = false } ∷ []))
book_495 = refl

book_496 : book_from (builtins ++ ([])) (list (item (rec (field (codes "hosts") (text (codes "all")) (field (codes "tasks") (list (item (rec (field (codes "command") (text (codes "x")) (field (codes "register") (text (codes "out")) (no_fields)))) (item (rec (field (codes "ping") null (field (codes "when") (text (codes "hostvars.zz")) (no_fields)))) (no_items)))) (no_fields)))) (no_items))) ≡ Ok ((record { line = 1; pattern = ((codes "all") ∷ []); gathering = None; vars = (no_parts); is_linear = true; serial = ([]); pre_tasks = (no_steps); tasks = (task_step (record { line = 2; work = (module_work (codes "command") (part (codes "cmd") (literal (text (codes "x"))) (no_parts))); condition = (no_expressions); loop = None; register = (Some (codes "out")); vars = (no_parts); notify = ([]); changed_when = None; failed_when = None; attempts = None; ignore_errors = None }) (task_step (record { line = 3; work = (module_work (codes "ping") (no_parts)); condition = (expression (hostvars_alone (Some (named_host (codes "zz")))) (no_expressions)); loop = None; register = None; vars = (no_parts); notify = ([]); changed_when = None; failed_when = None; attempts = None; ignore_errors = None }) (no_steps))); post_tasks = (no_steps); handlers = ([]); forces = false } ∷ []))
book_496 = refl

book_497 : book_from (builtins ++ ([])) (list (item (rec (field (codes "hosts") (text (codes "all")) (field (codes "tasks") (list (item (rec (field (codes "command") (text (codes "x")) (field (codes "register") (text (codes "out")) (no_fields)))) (item (rec (field (codes "ping") null (field (codes "when") (text (codes "inv is changed")) (no_fields)))) (no_items)))) (no_fields)))) (no_items))) ≡ Ok ((record { line = 1; pattern = ((codes "all") ∷ []); gathering = None; vars = (no_parts); is_linear = true; serial = ([]); pre_tasks = (no_steps); tasks = (task_step (record { line = 2; work = (module_work (codes "command") (part (codes "cmd") (literal (text (codes "x"))) (no_parts))); condition = (no_expressions); loop = None; register = (Some (codes "out")); vars = (no_parts); notify = ([]); changed_when = None; failed_when = None; attempts = None; ignore_errors = None }) (task_step (record { line = 3; work = (module_work (codes "ping") (no_parts)); condition = (expression (path_status is_changed (variable (codes "inv")) ([])) (no_expressions)); loop = None; register = None; vars = (no_parts); notify = ([]); changed_when = None; failed_when = None; attempts = None; ignore_errors = None }) (no_steps))); post_tasks = (no_steps); handlers = ([]); forces = false } ∷ []))
book_497 = refl

book_498 : book_from (builtins ++ ([])) (list (item (rec (field (codes "hosts") (text (codes "all")) (field (codes "tasks") (list (item (rec (field (codes "command") (text (codes "x")) (field (codes "register") (text (codes "out")) (no_fields)))) (item (rec (field (codes "ping") null (field (codes "when") (text (codes "inventory_hostname")) (no_fields)))) (no_items)))) (no_fields)))) (no_items))) ≡ Ok ((record { line = 1; pattern = ((codes "all") ∷ []); gathering = None; vars = (no_parts); is_linear = true; serial = ([]); pre_tasks = (no_steps); tasks = (task_step (record { line = 2; work = (module_work (codes "command") (part (codes "cmd") (literal (text (codes "x"))) (no_parts))); condition = (no_expressions); loop = None; register = (Some (codes "out")); vars = (no_parts); notify = ([]); changed_when = None; failed_when = None; attempts = None; ignore_errors = None }) (task_step (record { line = 3; work = (module_work (codes "ping") (no_parts)); condition = (expression (path (variable (codes "inventory_hostname")) ([])) (no_expressions)); loop = None; register = None; vars = (no_parts); notify = ([]); changed_when = None; failed_when = None; attempts = None; ignore_errors = None }) (no_steps))); post_tasks = (no_steps); handlers = ([]); forces = false } ∷ []))
book_498 = refl

book_499 : book_from (builtins ++ ([])) (list (item (rec (field (codes "hosts") (text (codes "all")) (field (codes "tasks") (list (item (rec (field (codes "command") (text (codes "x")) (field (codes "register") (text (codes "out")) (no_fields)))) (item (rec (field (codes "ping") null (field (codes "when") (text (codes "is")) (no_fields)))) (no_items)))) (no_fields)))) (no_items))) ≡ Err (record { line = 3; code = 7 })
book_499 = refl

book_500 : book_from (builtins ++ ([])) (list (item (rec (field (codes "hosts") (text (codes "all")) (field (codes "tasks") (list (item (rec (field (codes "command") (text (codes "x")) (field (codes "register") (text (codes "out")) (no_fields)))) (item (rec (field (codes "ping") null (field (codes "when") (text (codes "item")) (no_fields)))) (no_items)))) (no_fields)))) (no_items))) ≡ Ok ((record { line = 1; pattern = ((codes "all") ∷ []); gathering = None; vars = (no_parts); is_linear = true; serial = ([]); pre_tasks = (no_steps); tasks = (task_step (record { line = 2; work = (module_work (codes "command") (part (codes "cmd") (literal (text (codes "x"))) (no_parts))); condition = (no_expressions); loop = None; register = (Some (codes "out")); vars = (no_parts); notify = ([]); changed_when = None; failed_when = None; attempts = None; ignore_errors = None }) (task_step (record { line = 3; work = (module_work (codes "ping") (no_parts)); condition = (expression (path (variable (codes "item")) ([])) (no_expressions)); loop = None; register = None; vars = (no_parts); notify = ([]); changed_when = None; failed_when = None; attempts = None; ignore_errors = None }) (no_steps))); post_tasks = (no_steps); handlers = ([]); forces = false } ∷ []))
book_500 = refl

book_501 : book_from (builtins ++ ([])) (list (item (rec (field (codes "hosts") (text (codes "all")) (field (codes "tasks") (list (item (rec (field (codes "command") (text (codes "x")) (field (codes "register") (text (codes "out")) (no_fields)))) (item (rec (field (codes "ping") null (field (codes "when") (text (codes "none == none")) (no_fields)))) (no_items)))) (no_fields)))) (no_items))) ≡ Ok ((record { line = 1; pattern = ((codes "all") ∷ []); gathering = None; vars = (no_parts); is_linear = true; serial = ([]); pre_tasks = (no_steps); tasks = (task_step (record { line = 2; work = (module_work (codes "command") (part (codes "cmd") (literal (text (codes "x"))) (no_parts))); condition = (no_expressions); loop = None; register = (Some (codes "out")); vars = (no_parts); notify = ([]); changed_when = None; failed_when = None; attempts = None; ignore_errors = None }) (task_step (record { line = 3; work = (module_work (codes "ping") (no_parts)); condition = (expression (comparison equal (literal null) (literal null)) (no_expressions)); loop = None; register = None; vars = (no_parts); notify = ([]); changed_when = None; failed_when = None; attempts = None; ignore_errors = None }) (no_steps))); post_tasks = (no_steps); handlers = ([]); forces = false } ∷ []))
book_501 = refl

book_502 : book_from (builtins ++ ([])) (list (item (rec (field (codes "hosts") (text (codes "all")) (field (codes "tasks") (list (item (rec (field (codes "command") (text (codes "x")) (field (codes "register") (text (codes "out")) (no_fields)))) (item (rec (field (codes "ping") null (field (codes "when") (text (codes "not 1")) (no_fields)))) (no_items)))) (no_fields)))) (no_items))) ≡ Ok ((record { line = 1; pattern = ((codes "all") ∷ []); gathering = None; vars = (no_parts); is_linear = true; serial = ([]); pre_tasks = (no_steps); tasks = (task_step (record { line = 2; work = (module_work (codes "command") (part (codes "cmd") (literal (text (codes "x"))) (no_parts))); condition = (no_expressions); loop = None; register = (Some (codes "out")); vars = (no_parts); notify = ([]); changed_when = None; failed_when = None; attempts = None; ignore_errors = None }) (task_step (record { line = 3; work = (module_work (codes "ping") (no_parts)); condition = (expression (negation (literal (int (pos 1)))) (no_expressions)); loop = None; register = None; vars = (no_parts); notify = ([]); changed_when = None; failed_when = None; attempts = None; ignore_errors = None }) (no_steps))); post_tasks = (no_steps); handlers = ([]); forces = false } ∷ []))
book_502 = refl

book_503 : book_from (builtins ++ ([])) (list (item (rec (field (codes "hosts") (text (codes "all")) (field (codes "tasks") (list (item (rec (field (codes "command") (text (codes "x")) (field (codes "register") (text (codes "out")) (no_fields)))) (item (rec (field (codes "ping") null (field (codes "when") (text (codes "not not not not not not not not not not not not not not not not ((((((((((((((((true))))))))))))))))")) (no_fields)))) (no_items)))) (no_fields)))) (no_items))) ≡ Ok ((record { line = 1; pattern = ((codes "all") ∷ []); gathering = None; vars = (no_parts); is_linear = true; serial = ([]); pre_tasks = (no_steps); tasks = (task_step (record { line = 2; work = (module_work (codes "command") (part (codes "cmd") (literal (text (codes "x"))) (no_parts))); condition = (no_expressions); loop = None; register = (Some (codes "out")); vars = (no_parts); notify = ([]); changed_when = None; failed_when = None; attempts = None; ignore_errors = None }) (task_step (record { line = 3; work = (module_work (codes "ping") (no_parts)); condition = (expression (negation (negation (negation (negation (negation (negation (negation (negation (negation (negation (negation (negation (negation (negation (negation (negation (literal (boolean true)))))))))))))))))) (no_expressions)); loop = None; register = None; vars = (no_parts); notify = ([]); changed_when = None; failed_when = None; attempts = None; ignore_errors = None }) (no_steps))); post_tasks = (no_steps); handlers = ([]); forces = false } ∷ []))
book_503 = refl

book_504 : book_from (builtins ++ ([])) (list (item (rec (field (codes "hosts") (text (codes "all")) (field (codes "tasks") (list (item (rec (field (codes "command") (text (codes "x")) (field (codes "register") (text (codes "out")) (no_fields)))) (item (rec (field (codes "ping") null (field (codes "when") (text (codes "not not not not not not not not not not not not not not not not not ((((((((((((((((true))))))))))))))))")) (no_fields)))) (no_items)))) (no_fields)))) (no_items))) ≡ Err (record { line = 3; code = 7 })
book_504 = refl

book_505 : book_from (builtins ++ ([])) (list (item (rec (field (codes "hosts") (text (codes "all")) (field (codes "tasks") (list (item (rec (field (codes "command") (text (codes "x")) (field (codes "register") (text (codes "out")) (no_fields)))) (item (rec (field (codes "ping") null (field (codes "when") (text (codes "not not not not not not not not not not not not not not not not not not not not not not not not not not not not not not not not not ")) (no_fields)))) (no_items)))) (no_fields)))) (no_items))) ≡ Err (record { line = 3; code = 7 })
book_505 = refl

book_506 : book_from (builtins ++ ([])) (list (item (rec (field (codes "hosts") (text (codes "all")) (field (codes "tasks") (list (item (rec (field (codes "command") (text (codes "x")) (field (codes "register") (text (codes "out")) (no_fields)))) (item (rec (field (codes "ping") null (field (codes "when") (text (codes "not")) (no_fields)))) (no_items)))) (no_fields)))) (no_items))) ≡ Err (record { line = 3; code = 7 })
book_506 = refl

book_507 : book_from (builtins ++ ([])) (list (item (rec (field (codes "hosts") (text (codes "all")) (field (codes "tasks") (list (item (rec (field (codes "command") (text (codes "x")) (field (codes "register") (text (codes "out")) (no_fields)))) (item (rec (field (codes "ping") null (field (codes "when") (text (codes "not.a")) (no_fields)))) (no_items)))) (no_fields)))) (no_items))) ≡ Err (record { line = 3; code = 7 })
book_507 = refl

book_508 : book_from (builtins ++ ([])) (list (item (rec (field (codes "hosts") (text (codes "all")) (field (codes "tasks") (list (item (rec (field (codes "command") (text (codes "x")) (field (codes "register") (text (codes "out")) (no_fields)))) (item (rec (field (codes "ping") null (field (codes "when") (text (codes "null")) (no_fields)))) (no_items)))) (no_fields)))) (no_items))) ≡ Ok ((record { line = 1; pattern = ((codes "all") ∷ []); gathering = None; vars = (no_parts); is_linear = true; serial = ([]); pre_tasks = (no_steps); tasks = (task_step (record { line = 2; work = (module_work (codes "command") (part (codes "cmd") (literal (text (codes "x"))) (no_parts))); condition = (no_expressions); loop = None; register = (Some (codes "out")); vars = (no_parts); notify = ([]); changed_when = None; failed_when = None; attempts = None; ignore_errors = None }) (task_step (record { line = 3; work = (module_work (codes "ping") (no_parts)); condition = (expression (path (variable (codes "null")) ([])) (no_expressions)); loop = None; register = None; vars = (no_parts); notify = ([]); changed_when = None; failed_when = None; attempts = None; ignore_errors = None }) (no_steps))); post_tasks = (no_steps); handlers = ([]); forces = false } ∷ []))
book_508 = refl

book_509 : book_from (builtins ++ ([])) (list (item (rec (field (codes "hosts") (text (codes "all")) (field (codes "tasks") (list (item (rec (field (codes "command") (text (codes "x")) (field (codes "register") (text (codes "out")) (no_fields)))) (item (rec (field (codes "ping") null (field (codes "when") (text (codes "out is failed")) (no_fields)))) (no_items)))) (no_fields)))) (no_items))) ≡ Ok ((record { line = 1; pattern = ((codes "all") ∷ []); gathering = None; vars = (no_parts); is_linear = true; serial = ([]); pre_tasks = (no_steps); tasks = (task_step (record { line = 2; work = (module_work (codes "command") (part (codes "cmd") (literal (text (codes "x"))) (no_parts))); condition = (no_expressions); loop = None; register = (Some (codes "out")); vars = (no_parts); notify = ([]); changed_when = None; failed_when = None; attempts = None; ignore_errors = None }) (task_step (record { line = 3; work = (module_work (codes "ping") (no_parts)); condition = (expression (path_status is_failed (variable (codes "out")) ([])) (no_expressions)); loop = None; register = None; vars = (no_parts); notify = ([]); changed_when = None; failed_when = None; attempts = None; ignore_errors = None }) (no_steps))); post_tasks = (no_steps); handlers = ([]); forces = false } ∷ []))
book_509 = refl

book_510 : book_from (builtins ++ ([])) (list (item (rec (field (codes "hosts") (text (codes "all")) (field (codes "tasks") (list (item (rec (field (codes "command") (text (codes "x")) (field (codes "register") (text (codes "out")) (no_fields)))) (item (rec (field (codes "ping") null (field (codes "when") (text (codes "true == 1")) (no_fields)))) (no_items)))) (no_fields)))) (no_items))) ≡ Ok ((record { line = 1; pattern = ((codes "all") ∷ []); gathering = None; vars = (no_parts); is_linear = true; serial = ([]); pre_tasks = (no_steps); tasks = (task_step (record { line = 2; work = (module_work (codes "command") (part (codes "cmd") (literal (text (codes "x"))) (no_parts))); condition = (no_expressions); loop = None; register = (Some (codes "out")); vars = (no_parts); notify = ([]); changed_when = None; failed_when = None; attempts = None; ignore_errors = None }) (task_step (record { line = 3; work = (module_work (codes "ping") (no_parts)); condition = (expression (comparison equal (literal (boolean true)) (literal (int (pos 1)))) (no_expressions)); loop = None; register = None; vars = (no_parts); notify = ([]); changed_when = None; failed_when = None; attempts = None; ignore_errors = None }) (no_steps))); post_tasks = (no_steps); handlers = ([]); forces = false } ∷ []))
book_510 = refl

book_511 : book_from (builtins ++ ([])) (list (item (rec (field (codes "hosts") (text (codes "all")) (field (codes "tasks") (list (item (rec (field (codes "command") (text (codes "x")) (field (codes "register") (text (codes "out")) (no_fields)))) (item (rec (field (codes "ping") null (field (codes "when") (text (codes "true and true and true and true and true and true and true and true and true and true and true and true and true and true and true and true and true and true and true and true and true and true and true and true and true and true and true and true and true and true and true and true and true and true and true and true and true and true and true and true and true and true and true and true and true and true and true and true and true and true and true and true and true and true and true and true and true and true and true and true")) (no_fields)))) (no_items)))) (no_fields)))) (no_items))) ≡ Ok ((record { line = 1; pattern = ((codes "all") ∷ []); gathering = None; vars = (no_parts); is_linear = true; serial = ([]); pre_tasks = (no_steps); tasks = (task_step (record { line = 2; work = (module_work (codes "command") (part (codes "cmd") (literal (text (codes "x"))) (no_parts))); condition = (no_expressions); loop = None; register = (Some (codes "out")); vars = (no_parts); notify = ([]); changed_when = None; failed_when = None; attempts = None; ignore_errors = None }) (task_step (record { line = 3; work = (module_work (codes "ping") (no_parts)); condition = (expression (conjunction (expression (literal (boolean true)) (expression (literal (boolean true)) (expression (literal (boolean true)) (expression (literal (boolean true)) (expression (literal (boolean true)) (expression (literal (boolean true)) (expression (literal (boolean true)) (expression (literal (boolean true)) (expression (literal (boolean true)) (expression (literal (boolean true)) (expression (literal (boolean true)) (expression (literal (boolean true)) (expression (literal (boolean true)) (expression (literal (boolean true)) (expression (literal (boolean true)) (expression (literal (boolean true)) (expression (literal (boolean true)) (expression (literal (boolean true)) (expression (literal (boolean true)) (expression (literal (boolean true)) (expression (literal (boolean true)) (expression (literal (boolean true)) (expression (literal (boolean true)) (expression (literal (boolean true)) (expression (literal (boolean true)) (expression (literal (boolean true)) (expression (literal (boolean true)) (expression (literal (boolean true)) (expression (literal (boolean true)) (expression (literal (boolean true)) (expression (literal (boolean true)) (expression (literal (boolean true)) (expression (literal (boolean true)) (expression (literal (boolean true)) (expression (literal (boolean true)) (expression (literal (boolean true)) (expression (literal (boolean true)) (expression (literal (boolean true)) (expression (literal (boolean true)) (expression (literal (boolean true)) (expression (literal (boolean true)) (expression (literal (boolean true)) (expression (literal (boolean true)) (expression (literal (boolean true)) (expression (literal (boolean true)) (expression (literal (boolean true)) (expression (literal (boolean true)) (expression (literal (boolean true)) (expression (literal (boolean true)) (expression (literal (boolean true)) (expression (literal (boolean true)) (expression (literal (boolean true)) (expression (literal (boolean true)) (expression (literal (boolean true)) (expression (literal (boolean true)) (expression (literal (boolean true)) (expression (literal (boolean true)) (expression (literal (boolean true)) (expression (literal (boolean true)) (expression (literal (boolean true)) (no_expressions)))))))))))))))))))))))))))))))))))))))))))))))))))))))))))))) (no_expressions)); loop = None; register = None; vars = (no_parts); notify = ([]); changed_when = None; failed_when = None; attempts = None; ignore_errors = None }) (no_steps))); post_tasks = (no_steps); handlers = ([]); forces = false } ∷ []))
book_511 = refl

book_512 : book_from (builtins ++ ([])) (list (item (rec (field (codes "hosts") (text (codes "all")) (field (codes "tasks") (list (item (rec (field (codes "command") (text (codes "x")) (field (codes "register") (text (codes "out")) (no_fields)))) (item (rec (field (codes "ping") null (field (codes "when") (text (codes "true")) (no_fields)))) (no_items)))) (no_fields)))) (no_items))) ≡ Ok ((record { line = 1; pattern = ((codes "all") ∷ []); gathering = None; vars = (no_parts); is_linear = true; serial = ([]); pre_tasks = (no_steps); tasks = (task_step (record { line = 2; work = (module_work (codes "command") (part (codes "cmd") (literal (text (codes "x"))) (no_parts))); condition = (no_expressions); loop = None; register = (Some (codes "out")); vars = (no_parts); notify = ([]); changed_when = None; failed_when = None; attempts = None; ignore_errors = None }) (task_step (record { line = 3; work = (module_work (codes "ping") (no_parts)); condition = (expression (literal (boolean true)) (no_expressions)); loop = None; register = None; vars = (no_parts); notify = ([]); changed_when = None; failed_when = None; attempts = None; ignore_errors = None }) (no_steps))); post_tasks = (no_steps); handlers = ([]); forces = false } ∷ []))
book_512 = refl

book_513 : book_from (builtins ++ ([])) (list (item (rec (field (codes "hosts") (text (codes "all")) (field (codes "tasks") (list (item (rec (field (codes "command") (text (codes "x")) (field (codes "register") (text (codes "out")) (no_fields)))) (item (rec (field (codes "ping") null (field (codes "when") (text (codes "true)")) (no_fields)))) (no_items)))) (no_fields)))) (no_items))) ≡ Err (record { line = 3; code = 7 })
book_513 = refl

book_514 : book_from (builtins ++ ([])) (list (item (rec (field (codes "hosts") (text (codes "all")) (field (codes "tasks") (list (item (rec (field (codes "command") (text (codes "x")) (field (codes "register") (text (codes "out")) (no_fields)))) (item (rec (field (codes "ping") null (field (codes "when") (text (codes "true.a")) (no_fields)))) (no_items)))) (no_fields)))) (no_items))) ≡ Err (record { line = 3; code = 7 })
book_514 = refl

book_515 : book_from (builtins ++ ([])) (list (item (rec (field (codes "hosts") (text (codes "all")) (field (codes "tasks") (list (item (rec (field (codes "command") (text (codes "x")) (field (codes "register") (text (codes "out")) (no_fields)))) (no_items))) (no_fields)))) (item (rec (field (codes "hosts") (text (codes "all")) (field (codes "tasks") (list (item (rec (field (codes "debug") (rec (field (codes "msg") (text (123 ∷ 123 ∷ 32 ∷ 111 ∷ 117 ∷ 116 ∷ 46 ∷ 114 ∷ 99 ∷ 32 ∷ 125 ∷ 125 ∷ [])) (no_fields))) (no_fields))) (no_items))) (no_fields)))) (no_items)))) ≡ Ok ((record { line = 1; pattern = ((codes "all") ∷ []); gathering = None; vars = (no_parts); is_linear = true; serial = ([]); pre_tasks = (no_steps); tasks = (task_step (record { line = 2; work = (module_work (codes "command") (part (codes "cmd") (literal (text (codes "x"))) (no_parts))); condition = (no_expressions); loop = None; register = (Some (codes "out")); vars = (no_parts); notify = ([]); changed_when = None; failed_when = None; attempts = None; ignore_errors = None }) (no_steps)); post_tasks = (no_steps); handlers = ([]); forces = false } ∷ record { line = 3; pattern = ((codes "all") ∷ []); gathering = None; vars = (no_parts); is_linear = true; serial = ([]); pre_tasks = (no_steps); tasks = (task_step (record { line = 4; work = (debug_work (part (codes "msg") (path (variable (codes "out")) ((codes "rc") ∷ [])) (no_parts))); condition = (no_expressions); loop = None; register = None; vars = (no_parts); notify = ([]); changed_when = None; failed_when = None; attempts = None; ignore_errors = None }) (no_steps)); post_tasks = (no_steps); handlers = ([]); forces = false } ∷ []))
book_515 = refl

book_516 : book_from (builtins ++ ([])) (list (item (rec (field (codes "hosts") (text (codes "all")) (field (codes "tasks") (list (item (rec (field (codes "command") (text (codes "x")) (field (codes "register") (text (codes "out")) (no_fields)))) (no_items))) (no_fields)))) (no_items))) ≡ Ok ((record { line = 1; pattern = ((codes "all") ∷ []); gathering = None; vars = (no_parts); is_linear = true; serial = ([]); pre_tasks = (no_steps); tasks = (task_step (record { line = 2; work = (module_work (codes "command") (part (codes "cmd") (literal (text (codes "x"))) (no_parts))); condition = (no_expressions); loop = None; register = (Some (codes "out")); vars = (no_parts); notify = ([]); changed_when = None; failed_when = None; attempts = None; ignore_errors = None }) (no_steps)); post_tasks = (no_steps); handlers = ([]); forces = false } ∷ []))
book_516 = refl

book_517 : book_from (builtins ++ ([])) (list (item (rec (field (codes "hosts") (text (codes "all")) (field (codes "tasks") (list (item (rec (field (codes "command") (text (codes "x")) (field (codes "register") (text (codes "r1")) (field (codes "when") (boolean true) (no_fields))))) (item (rec (field (codes "ping") null (no_fields))) (item (rec (field (codes "ping") (rec (field (codes "data") (text ([])) (no_fields))) (no_fields))) (item (rec (field (codes "command") (text (codes "x")) (field (codes "name") (text (codes "task 3")) (no_fields)))) (item (rec (field (codes "register") (text (codes "s1")) (field (codes "set_fact") (rec (field (codes "s3") (rec (field (codes "f") (text (123 ∷ 123 ∷ 32 ∷ 114 ∷ 49 ∷ 46 ∷ 99 ∷ 104 ∷ 97 ∷ 110 ∷ 103 ∷ 101 ∷ 100 ∷ 32 ∷ 125 ∷ 125 ∷ [])) (no_fields))) (no_fields))) (no_fields)))) (item (rec (field (codes "command") (rec (field (codes "chdir") (text (codes "/t")) (field (codes "cmd") (text (codes "x")) (no_fields)))) (field (codes "name") (text (codes "task 5")) (field (codes "register") (text (codes "r1")) (no_fields))))) (item (rec (field (codes "command") (rec (field (codes "cmd") (text (123 ∷ 123 ∷ 32 ∷ 105 ∷ 110 ∷ 118 ∷ 101 ∷ 110 ∷ 116 ∷ 111 ∷ 114 ∷ 121 ∷ 95 ∷ 104 ∷ 111 ∷ 115 ∷ 116 ∷ 110 ∷ 97 ∷ 109 ∷ 101 ∷ 32 ∷ 125 ∷ 125 ∷ [])) (no_fields))) (no_fields))) (item (rec (field (codes "command") (text (codes "x")) (field (codes "name") (text (codes "task 7")) (no_fields)))) (item (rec (field (codes "command") (rec (field (codes "chdir") (text (codes "/t")) (field (codes "cmd") (text (codes "x")) (no_fields)))) (field (codes "name") (text (codes "task 8")) (field (codes "register") (text (codes "s1")) (no_fields))))) (no_items))))))))))) (no_fields)))) (no_items))) ≡ Ok ((record { line = 1; pattern = ((codes "all") ∷ []); gathering = None; vars = (no_parts); is_linear = true; serial = ([]); pre_tasks = (no_steps); tasks = (task_step (record { line = 2; work = (module_work (codes "command") (part (codes "cmd") (literal (text (codes "x"))) (no_parts))); condition = (expression (literal (boolean true)) (no_expressions)); loop = None; register = (Some (codes "r1")); vars = (no_parts); notify = ([]); changed_when = None; failed_when = None; attempts = None; ignore_errors = None }) (task_step (record { line = 3; work = (module_work (codes "ping") (no_parts)); condition = (no_expressions); loop = None; register = None; vars = (no_parts); notify = ([]); changed_when = None; failed_when = None; attempts = None; ignore_errors = None }) (task_step (record { line = 4; work = (module_work (codes "ping") (part (codes "data") (literal (text ([]))) (no_parts))); condition = (no_expressions); loop = None; register = None; vars = (no_parts); notify = ([]); changed_when = None; failed_when = None; attempts = None; ignore_errors = None }) (task_step (record { line = 5; work = (module_work (codes "command") (part (codes "cmd") (literal (text (codes "x"))) (no_parts))); condition = (no_expressions); loop = None; register = None; vars = (no_parts); notify = ([]); changed_when = None; failed_when = None; attempts = None; ignore_errors = None }) (task_step (record { line = 6; work = (set_fact_work (part (codes "s3") (record_of (part (codes "f") (path (variable (codes "r1")) ((codes "changed") ∷ [])) (no_parts))) (no_parts))); condition = (no_expressions); loop = None; register = (Some (codes "s1")); vars = (no_parts); notify = ([]); changed_when = None; failed_when = None; attempts = None; ignore_errors = None }) (task_step (record { line = 7; work = (module_work (codes "command") (part (codes "chdir") (literal (text (codes "/t"))) (part (codes "cmd") (literal (text (codes "x"))) (no_parts)))); condition = (no_expressions); loop = None; register = (Some (codes "r1")); vars = (no_parts); notify = ([]); changed_when = None; failed_when = None; attempts = None; ignore_errors = None }) (task_step (record { line = 8; work = (module_work (codes "command") (part (codes "cmd") (path (variable (codes "inventory_hostname")) ([])) (no_parts))); condition = (no_expressions); loop = None; register = None; vars = (no_parts); notify = ([]); changed_when = None; failed_when = None; attempts = None; ignore_errors = None }) (task_step (record { line = 9; work = (module_work (codes "command") (part (codes "cmd") (literal (text (codes "x"))) (no_parts))); condition = (no_expressions); loop = None; register = None; vars = (no_parts); notify = ([]); changed_when = None; failed_when = None; attempts = None; ignore_errors = None }) (task_step (record { line = 10; work = (module_work (codes "command") (part (codes "chdir") (literal (text (codes "/t"))) (part (codes "cmd") (literal (text (codes "x"))) (no_parts)))); condition = (no_expressions); loop = None; register = (Some (codes "s1")); vars = (no_parts); notify = ([]); changed_when = None; failed_when = None; attempts = None; ignore_errors = None }) (no_steps)))))))))); post_tasks = (no_steps); handlers = ([]); forces = false } ∷ []))
book_517 = refl

book_518 : book_from (builtins ++ ([])) (list (item (rec (field (codes "hosts") (text (codes "all")) (field (codes "tasks") (list (item (rec (field (codes "command") (text (codes "x")) (field (codes "register") (text (codes "r1")) (no_fields)))) (item (rec (field (codes "command") (text (codes "x")) (field (codes "register") (text (codes "r1")) (no_fields)))) (item (rec (field (codes "register") (text (codes "r2")) (field (codes "set_fact") (rec (field (codes "s3") (text (123 ∷ 123 ∷ 32 ∷ 114 ∷ 49 ∷ 32 ∷ 125 ∷ 125 ∷ [])) (no_fields))) (field (codes "when") (text (codes "true")) (no_fields))))) (no_items))))) (no_fields)))) (no_items))) ≡ Ok ((record { line = 1; pattern = ((codes "all") ∷ []); gathering = None; vars = (no_parts); is_linear = true; serial = ([]); pre_tasks = (no_steps); tasks = (task_step (record { line = 2; work = (module_work (codes "command") (part (codes "cmd") (literal (text (codes "x"))) (no_parts))); condition = (no_expressions); loop = None; register = (Some (codes "r1")); vars = (no_parts); notify = ([]); changed_when = None; failed_when = None; attempts = None; ignore_errors = None }) (task_step (record { line = 3; work = (module_work (codes "command") (part (codes "cmd") (literal (text (codes "x"))) (no_parts))); condition = (no_expressions); loop = None; register = (Some (codes "r1")); vars = (no_parts); notify = ([]); changed_when = None; failed_when = None; attempts = None; ignore_errors = None }) (task_step (record { line = 4; work = (set_fact_work (part (codes "s3") (path (variable (codes "r1")) ([])) (no_parts))); condition = (expression (literal (boolean true)) (no_expressions)); loop = None; register = (Some (codes "r2")); vars = (no_parts); notify = ([]); changed_when = None; failed_when = None; attempts = None; ignore_errors = None }) (no_steps)))); post_tasks = (no_steps); handlers = ([]); forces = false } ∷ []))
book_518 = refl

book_519 : book_from (builtins ++ ([])) (list (item (rec (field (codes "hosts") (text (codes "all")) (field (codes "tasks") (list (item (rec (field (codes "command") (text (codes "x")) (field (codes "register") (text (codes "r1")) (no_fields)))) (item (rec (field (codes "command") (text (codes "x")) (no_fields))) (item (rec (field (codes "command") (rec (field (codes "cmd") (text (123 ∷ 123 ∷ 32 ∷ 105 ∷ 110 ∷ 118 ∷ 101 ∷ 110 ∷ 116 ∷ 111 ∷ 114 ∷ 121 ∷ 95 ∷ 104 ∷ 111 ∷ 115 ∷ 116 ∷ 110 ∷ 97 ∷ 109 ∷ 101 ∷ 32 ∷ 125 ∷ 125 ∷ [])) (no_fields))) (no_fields))) (item (rec (field (codes "command") (text (codes "x")) (field (codes "register") (text (codes "r1")) (no_fields)))) (item (rec (field (codes "debug") (rec (field (codes "msg") (text (123 ∷ 123 ∷ 32 ∷ 70 ∷ 97 ∷ 108 ∷ 115 ∷ 101 ∷ 32 ∷ 125 ∷ 125 ∷ [])) (no_fields))) (field (codes "register") (text (codes "r1")) (no_fields)))) (item (rec (field (codes "command") (text (codes "x")) (field (codes "register") (text (codes "r1")) (field (codes "when") (text (codes "r1.failed")) (no_fields))))) (no_items)))))))) (no_fields)))) (no_items))) ≡ Ok ((record { line = 1; pattern = ((codes "all") ∷ []); gathering = None; vars = (no_parts); is_linear = true; serial = ([]); pre_tasks = (no_steps); tasks = (task_step (record { line = 2; work = (module_work (codes "command") (part (codes "cmd") (literal (text (codes "x"))) (no_parts))); condition = (no_expressions); loop = None; register = (Some (codes "r1")); vars = (no_parts); notify = ([]); changed_when = None; failed_when = None; attempts = None; ignore_errors = None }) (task_step (record { line = 3; work = (module_work (codes "command") (part (codes "cmd") (literal (text (codes "x"))) (no_parts))); condition = (no_expressions); loop = None; register = None; vars = (no_parts); notify = ([]); changed_when = None; failed_when = None; attempts = None; ignore_errors = None }) (task_step (record { line = 4; work = (module_work (codes "command") (part (codes "cmd") (path (variable (codes "inventory_hostname")) ([])) (no_parts))); condition = (no_expressions); loop = None; register = None; vars = (no_parts); notify = ([]); changed_when = None; failed_when = None; attempts = None; ignore_errors = None }) (task_step (record { line = 5; work = (module_work (codes "command") (part (codes "cmd") (literal (text (codes "x"))) (no_parts))); condition = (no_expressions); loop = None; register = (Some (codes "r1")); vars = (no_parts); notify = ([]); changed_when = None; failed_when = None; attempts = None; ignore_errors = None }) (task_step (record { line = 6; work = (debug_work (part (codes "msg") (literal (boolean false)) (no_parts))); condition = (no_expressions); loop = None; register = (Some (codes "r1")); vars = (no_parts); notify = ([]); changed_when = None; failed_when = None; attempts = None; ignore_errors = None }) (task_step (record { line = 7; work = (module_work (codes "command") (part (codes "cmd") (literal (text (codes "x"))) (no_parts))); condition = (expression (path (variable (codes "r1")) ((codes "failed") ∷ [])) (no_expressions)); loop = None; register = (Some (codes "r1")); vars = (no_parts); notify = ([]); changed_when = None; failed_when = None; attempts = None; ignore_errors = None }) (no_steps))))))); post_tasks = (no_steps); handlers = ([]); forces = false } ∷ []))
book_519 = refl
