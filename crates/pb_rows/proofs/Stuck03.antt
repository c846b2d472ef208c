-- Runs of refused books that get stuck, computed.
use Rattle.std.specs.Prelude.{◌≡◌, refl, pos, [], ◌∷◌, ◌++◌, true, false, Some, None, codes}
use Rattle.std.specs.Fmt.{digits}
use Rattle.pb_semantics.specs.Data.{boolean, int, text, list, rec, no_items, item, no_fields, field}
use Rattle.pb_language.specs.Expression.{equal, named_host, literal, path, comparison, membership, length_of, list_of, variable, other, no_expressions, expression, no_parts, part}
use Rattle.pb_language.specs.Book.{conditions_are, module_work, debug_work, assert_work, fail_work, no_steps, task_step, Book}
use Rattle.pb_language.specs.Builtins.{builtins}
use Rattle.pb_language.specs.Give.{object}
use Rattle.pb_language.specs.Judged.{judged}
use Rattle.pb_language.specs.Program.{Inventory}
use Rattle.pb_language.specs.Verdict.{refused}
use Rattle.pb_rows.specs.Recaps.{run_after}

-- stuck_24: an assertion that is a number
abbrev stuck_24_book : Book
stuck_24_book = (record { line = 1; pattern = ((codes "all") ∷ []); gathering = None; vars = (no_parts); is_linear = true; serial = ([]); pre_tasks = (no_steps); tasks = (task_step (record { line = 2; work = (module_work (codes "command") (part (codes "cmd") (literal (text (codes "x"))) (no_parts))); condition = (no_expressions); loop = None; register = (Some (codes "out")); vars = (no_parts); notify = ([]); changed_when = None; failed_when = None; attempts = None; ignore_errors = None }) (task_step (record { line = 3; work = (assert_work (conditions_are (expression (path (variable (codes "out")) ((codes "rc") ∷ [])) (no_expressions))) (no_parts)); condition = (no_expressions); loop = None; register = None; vars = (no_parts); notify = ([]); changed_when = None; failed_when = None; attempts = None; ignore_errors = None }) (no_steps))); post_tasks = (no_steps); handlers = ([]); forces = false } ∷ [])

abbrev stuck_24_inventory : Inventory
stuck_24_inventory = record { hosts = (record { name = (codes "h1"); variables = (no_fields) } ∷ []); groups = (record { name = (codes "all"); hosts = ((codes "h1") ∷ []) } ∷ record { name = (codes "ungrouped"); hosts = ((codes "h1") ∷ []) } ∷ []) }

stuck_24_judged : judged (builtins ++ ([])) stuck_24_inventory stuck_24_book ≡ refused (record { code = 4; line = 3; host = (Some (codes "h1")) })
stuck_24_judged = refl

stuck_24 : run_after (builtins ++ ([])) stuck_24_inventory stuck_24_book 1 ((object (rec (field (codes "changed") (boolean true) (field (codes "rc") (int (pos 0)) (field (codes "stderr") (text ([])) (field (codes "stderr_lines") (list (no_items)) (field (codes "stdout") (text (codes "a")) (field (codes "stdout_lines") (list (item (text (codes "a")) (no_items))) (no_fields)))))))) ∷ object (rec (field (codes "changed") (boolean true) (field (codes "rc") (int (pos 0)) (field (codes "stderr") (text ([])) (field (codes "stderr_lines") (list (no_items)) (field (codes "stdout") (text (codes "a")) (field (codes "stdout_lines") (list (item (text (codes "a")) (no_items))) (no_fields)))))))) ∷ object (rec (field (codes "changed") (boolean true) (field (codes "rc") (int (pos 0)) (field (codes "stderr") (text ([])) (field (codes "stderr_lines") (list (no_items)) (field (codes "stdout") (text (codes "a")) (field (codes "stdout_lines") (list (item (text (codes "a")) (no_items))) (no_fields)))))))) ∷ []) ∷ []) ≡ record { is_stuck = true; handed = 1; out = (false ∷ []); recaps = (record { ok = 1; changed = 1; unreachable = 0; failed = 0; skipped = 0; rescued = 0; ignored = 0 } ∷ []) }
unfolding digits
stuck_24 = refl

-- stuck_25: a second assertion that is not there
abbrev stuck_25_book : Book
stuck_25_book = (record { line = 1; pattern = ((codes "all") ∷ []); gathering = None; vars = (no_parts); is_linear = true; serial = ([]); pre_tasks = (no_steps); tasks = (task_step (record { line = 2; work = (module_work (codes "command") (part (codes "cmd") (literal (text (codes "x"))) (no_parts))); condition = (no_expressions); loop = None; register = (Some (codes "out")); vars = (no_parts); notify = ([]); changed_when = None; failed_when = None; attempts = None; ignore_errors = None }) (task_step (record { line = 3; work = (assert_work (conditions_are (expression (comparison equal (path (variable (codes "out")) ((codes "rc") ∷ [])) (literal (int (pos 0)))) (expression (path (variable (codes "zz")) ([])) (no_expressions)))) (no_parts)); condition = (no_expressions); loop = None; register = None; vars = (no_parts); notify = ([]); changed_when = None; failed_when = None; attempts = None; ignore_errors = None }) (no_steps))); post_tasks = (no_steps); handlers = ([]); forces = false } ∷ [])

abbrev stuck_25_inventory : Inventory
stuck_25_inventory = record { hosts = (record { name = (codes "h1"); variables = (no_fields) } ∷ []); groups = (record { name = (codes "all"); hosts = ((codes "h1") ∷ []) } ∷ record { name = (codes "ungrouped"); hosts = ((codes "h1") ∷ []) } ∷ []) }

stuck_25_judged : judged (builtins ++ ([])) stuck_25_inventory stuck_25_book ≡ refused (record { code = 1; line = 3; host = (Some (codes "h1")) })
stuck_25_judged = refl

stuck_25 : run_after (builtins ++ ([])) stuck_25_inventory stuck_25_book 1 ((object (rec (field (codes "changed") (boolean true) (field (codes "rc") (int (pos 0)) (field (codes "stderr") (text ([])) (field (codes "stderr_lines") (list (no_items)) (field (codes "stdout") (text (codes "a")) (field (codes "stdout_lines") (list (item (text (codes "a")) (no_items))) (no_fields)))))))) ∷ object (rec (field (codes "changed") (boolean true) (field (codes "rc") (int (pos 0)) (field (codes "stderr") (text ([])) (field (codes "stderr_lines") (list (no_items)) (field (codes "stdout") (text (codes "a")) (field (codes "stdout_lines") (list (item (text (codes "a")) (no_items))) (no_fields)))))))) ∷ object (rec (field (codes "changed") (boolean true) (field (codes "rc") (int (pos 0)) (field (codes "stderr") (text ([])) (field (codes "stderr_lines") (list (no_items)) (field (codes "stdout") (text (codes "a")) (field (codes "stdout_lines") (list (item (text (codes "a")) (no_items))) (no_fields)))))))) ∷ []) ∷ []) ≡ record { is_stuck = true; handed = 1; out = (false ∷ []); recaps = (record { ok = 1; changed = 1; unreachable = 0; failed = 0; skipped = 0; rescued = 0; ignored = 0 } ∷ []) }
unfolding digits
stuck_25 = refl

-- stuck_26: the text of an assertion is not there
abbrev stuck_26_book : Book
stuck_26_book = (record { line = 1; pattern = ((codes "all") ∷ []); gathering = None; vars = (no_parts); is_linear = true; serial = ([]); pre_tasks = (no_steps); tasks = (task_step (record { line = 2; work = (module_work (codes "command") (part (codes "cmd") (literal (text (codes "x"))) (no_parts))); condition = (no_expressions); loop = None; register = (Some (codes "out")); vars = (no_parts); notify = ([]); changed_when = None; failed_when = None; attempts = None; ignore_errors = None }) (task_step (record { line = 3; work = (assert_work (conditions_are (expression (comparison equal (path (variable (codes "out")) ((codes "rc") ∷ [])) (literal (int (pos 0)))) (no_expressions))) (part (codes "fail_msg") (path (variable (codes "zz")) ([])) (no_parts))); condition = (no_expressions); loop = None; register = None; vars = (no_parts); notify = ([]); changed_when = None; failed_when = None; attempts = None; ignore_errors = None }) (no_steps))); post_tasks = (no_steps); handlers = ([]); forces = false } ∷ [])

abbrev stuck_26_inventory : Inventory
stuck_26_inventory = record { hosts = (record { name = (codes "h1"); variables = (no_fields) } ∷ []); groups = (record { name = (codes "all"); hosts = ((codes "h1") ∷ []) } ∷ record { name = (codes "ungrouped"); hosts = ((codes "h1") ∷ []) } ∷ []) }

stuck_26_judged : judged (builtins ++ ([])) stuck_26_inventory stuck_26_book ≡ refused (record { code = 1; line = 3; host = (Some (codes "h1")) })
stuck_26_judged = refl

stuck_26 : run_after (builtins ++ ([])) stuck_26_inventory stuck_26_book 1 ((object (rec (field (codes "changed") (boolean true) (field (codes "rc") (int (pos 0)) (field (codes "stderr") (text ([])) (field (codes "stderr_lines") (list (no_items)) (field (codes "stdout") (text (codes "a")) (field (codes "stdout_lines") (list (item (text (codes "a")) (no_items))) (no_fields)))))))) ∷ object (rec (field (codes "changed") (boolean true) (field (codes "rc") (int (pos 0)) (field (codes "stderr") (text ([])) (field (codes "stderr_lines") (list (no_items)) (field (codes "stdout") (text (codes "a")) (field (codes "stdout_lines") (list (item (text (codes "a")) (no_items))) (no_fields)))))))) ∷ object (rec (field (codes "changed") (boolean true) (field (codes "rc") (int (pos 0)) (field (codes "stderr") (text ([])) (field (codes "stderr_lines") (list (no_items)) (field (codes "stdout") (text (codes "a")) (field (codes "stdout_lines") (list (item (text (codes "a")) (no_items))) (no_fields)))))))) ∷ []) ∷ []) ≡ record { is_stuck = true; handed = 1; out = (false ∷ []); recaps = (record { ok = 1; changed = 1; unreachable = 0; failed = 0; skipped = 0; rescued = 0; ignored = 0 } ∷ []) }
unfolding digits
stuck_26 = refl

-- stuck_27: the text of a failure is a record
abbrev stuck_27_book : Book
stuck_27_book = (record { line = 1; pattern = ((codes "all") ∷ []); gathering = None; vars = (no_parts); is_linear = true; serial = ([]); pre_tasks = (no_steps); tasks = (task_step (record { line = 2; work = (module_work (codes "command") (part (codes "cmd") (literal (text (codes "x"))) (no_parts))); condition = (no_expressions); loop = None; register = (Some (codes "out")); vars = (no_parts); notify = ([]); changed_when = None; failed_when = None; attempts = None; ignore_errors = None }) (task_step (record { line = 3; work = (fail_work (part (codes "msg") (path (variable (codes "out")) ([])) (no_parts))); condition = (no_expressions); loop = None; register = None; vars = (no_parts); notify = ([]); changed_when = None; failed_when = None; attempts = None; ignore_errors = None }) (no_steps))); post_tasks = (no_steps); handlers = ([]); forces = false } ∷ [])

abbrev stuck_27_inventory : Inventory
stuck_27_inventory = record { hosts = (record { name = (codes "h1"); variables = (no_fields) } ∷ []); groups = (record { name = (codes "all"); hosts = ((codes "h1") ∷ []) } ∷ record { name = (codes "ungrouped"); hosts = ((codes "h1") ∷ []) } ∷ []) }

stuck_27_judged : judged (builtins ++ ([])) stuck_27_inventory stuck_27_book ≡ refused (record { code = 4; line = 3; host = (Some (codes "h1")) })
stuck_27_judged = refl

stuck_27 : run_after (builtins ++ ([])) stuck_27_inventory stuck_27_book 1 ((object (rec (field (codes "changed") (boolean true) (field (codes "rc") (int (pos 0)) (field (codes "stderr") (text ([])) (field (codes "stderr_lines") (list (no_items)) (field (codes "stdout") (text (codes "a")) (field (codes "stdout_lines") (list (item (text (codes "a")) (no_items))) (no_fields)))))))) ∷ object (rec (field (codes "changed") (boolean true) (field (codes "rc") (int (pos 0)) (field (codes "stderr") (text ([])) (field (codes "stderr_lines") (list (no_items)) (field (codes "stdout") (text (codes "a")) (field (codes "stdout_lines") (list (item (text (codes "a")) (no_items))) (no_fields)))))))) ∷ object (rec (field (codes "changed") (boolean true) (field (codes "rc") (int (pos 0)) (field (codes "stderr") (text ([])) (field (codes "stderr_lines") (list (no_items)) (field (codes "stdout") (text (codes "a")) (field (codes "stdout_lines") (list (item (text (codes "a")) (no_items))) (no_fields)))))))) ∷ []) ∷ []) ≡ record { is_stuck = true; handed = 1; out = (false ∷ []); recaps = (record { ok = 1; changed = 1; unreachable = 0; failed = 0; skipped = 0; rescued = 0; ignored = 0 } ∷ []) }
unfolding digits
stuck_27 = refl

-- stuck_28: the text of a failure is not there
abbrev stuck_28_book : Book
stuck_28_book = (record { line = 1; pattern = ((codes "all") ∷ []); gathering = None; vars = (no_parts); is_linear = true; serial = ([]); pre_tasks = (no_steps); tasks = (task_step (record { line = 2; work = (module_work (codes "command") (part (codes "cmd") (literal (text (codes "x"))) (no_parts))); condition = (no_expressions); loop = None; register = (Some (codes "out")); vars = (no_parts); notify = ([]); changed_when = None; failed_when = None; attempts = None; ignore_errors = None }) (task_step (record { line = 3; work = (fail_work (part (codes "msg") (path (variable (codes "zz")) ([])) (no_parts))); condition = (no_expressions); loop = None; register = None; vars = (no_parts); notify = ([]); changed_when = None; failed_when = None; attempts = None; ignore_errors = None }) (no_steps))); post_tasks = (no_steps); handlers = ([]); forces = false } ∷ [])

abbrev stuck_28_inventory : Inventory
stuck_28_inventory = record { hosts = (record { name = (codes "h1"); variables = (no_fields) } ∷ []); groups = (record { name = (codes "all"); hosts = ((codes "h1") ∷ []) } ∷ record { name = (codes "ungrouped"); hosts = ((codes "h1") ∷ []) } ∷ []) }

stuck_28_judged : judged (builtins ++ ([])) stuck_28_inventory stuck_28_book ≡ refused (record { code = 1; line = 3; host = (Some (codes "h1")) })
stuck_28_judged = refl

stuck_28 : run_after (builtins ++ ([])) stuck_28_inventory stuck_28_book 1 ((object (rec (field (codes "changed") (boolean true) (field (codes "rc") (int (pos 0)) (field (codes "stderr") (text ([])) (field (codes "stderr_lines") (list (no_items)) (field (codes "stdout") (text (codes "a")) (field (codes "stdout_lines") (list (item (text (codes "a")) (no_items))) (no_fields)))))))) ∷ object (rec (field (codes "changed") (boolean true) (field (codes "rc") (int (pos 0)) (field (codes "stderr") (text ([])) (field (codes "stderr_lines") (list (no_items)) (field (codes "stdout") (text (codes "a")) (field (codes "stdout_lines") (list (item (text (codes "a")) (no_items))) (no_fields)))))))) ∷ object (rec (field (codes "changed") (boolean true) (field (codes "rc") (int (pos 0)) (field (codes "stderr") (text ([])) (field (codes "stderr_lines") (list (no_items)) (field (codes "stdout") (text (codes "a")) (field (codes "stdout_lines") (list (item (text (codes "a")) (no_items))) (no_fields)))))))) ∷ []) ∷ []) ≡ record { is_stuck = true; handed = 1; out = (false ∷ []); recaps = (record { ok = 1; changed = 1; unreachable = 0; failed = 0; skipped = 0; rescued = 0; ignored = 0 } ∷ []) }
unfolding digits
stuck_28 = refl

-- stuck_29: a step into a text, of an item
abbrev stuck_29_book : Book
stuck_29_book = (record { line = 1; pattern = ((codes "all") ∷ []); gathering = None; vars = (no_parts); is_linear = true; serial = ([]); pre_tasks = (no_steps); tasks = (task_step (record { line = 2; work = (module_work (codes "command") (part (codes "cmd") (literal (text (codes "x"))) (no_parts))); condition = (no_expressions); loop = None; register = (Some (codes "out")); vars = (no_parts); notify = ([]); changed_when = None; failed_when = None; attempts = None; ignore_errors = None }) (task_step (record { line = 3; work = (module_work (codes "command") (part (codes "cmd") (path (variable (codes "item")) ((codes "k") ∷ [])) (no_parts))); condition = (no_expressions); loop = (Some (list_of (expression (literal (text (codes "a"))) (expression (literal (text (codes "b"))) (no_expressions))))); register = None; vars = (no_parts); notify = ([]); changed_when = None; failed_when = None; attempts = None; ignore_errors = None }) (no_steps))); post_tasks = (no_steps); handlers = ([]); forces = false } ∷ [])

abbrev stuck_29_inventory : Inventory
stuck_29_inventory = record { hosts = (record { name = (codes "h1"); variables = (no_fields) } ∷ []); groups = (record { name = (codes "all"); hosts = ((codes "h1") ∷ []) } ∷ record { name = (codes "ungrouped"); hosts = ((codes "h1") ∷ []) } ∷ []) }

stuck_29_judged : judged (builtins ++ ([])) stuck_29_inventory stuck_29_book ≡ refused (record { code = 4; line = 3; host = (Some (codes "h1")) })
stuck_29_judged = refl

stuck_29 : run_after (builtins ++ ([])) stuck_29_inventory stuck_29_book 1 ((object (rec (field (codes "changed") (boolean true) (field (codes "rc") (int (pos 0)) (field (codes "stderr") (text ([])) (field (codes "stderr_lines") (list (no_items)) (field (codes "stdout") (text (codes "a")) (field (codes "stdout_lines") (list (item (text (codes "a")) (no_items))) (no_fields)))))))) ∷ object (rec (field (codes "changed") (boolean true) (field (codes "rc") (int (pos 0)) (field (codes "stderr") (text ([])) (field (codes "stderr_lines") (list (no_items)) (field (codes "stdout") (text (codes "a")) (field (codes "stdout_lines") (list (item (text (codes "a")) (no_items))) (no_fields)))))))) ∷ object (rec (field (codes "changed") (boolean true) (field (codes "rc") (int (pos 0)) (field (codes "stderr") (text ([])) (field (codes "stderr_lines") (list (no_items)) (field (codes "stdout") (text (codes "a")) (field (codes "stdout_lines") (list (item (text (codes "a")) (no_items))) (no_fields)))))))) ∷ []) ∷ []) ≡ record { is_stuck = true; handed = 1; out = (false ∷ []); recaps = (record { ok = 1; changed = 1; unreachable = 0; failed = 0; skipped = 0; rescued = 0; ignored = 0 } ∷ []) }
unfolding digits
stuck_29 = refl

-- stuck_30: a condition that is a number, of an item
abbrev stuck_30_book : Book
stuck_30_book = (record { line = 1; pattern = ((codes "all") ∷ []); gathering = None; vars = (no_parts); is_linear = true; serial = ([]); pre_tasks = (no_steps); tasks = (task_step (record { line = 2; work = (module_work (codes "command") (part (codes "cmd") (literal (text (codes "x"))) (no_parts))); condition = (no_expressions); loop = None; register = (Some (codes "out")); vars = (no_parts); notify = ([]); changed_when = None; failed_when = None; attempts = None; ignore_errors = None }) (task_step (record { line = 3; work = (debug_work (part (codes "msg") (literal (text (codes "x"))) (no_parts))); condition = (expression (path (variable (codes "item")) ([])) (no_expressions)); loop = (Some (list_of (expression (literal (int (pos 1))) (expression (literal (int (pos 2))) (no_expressions))))); register = None; vars = (no_parts); notify = ([]); changed_when = None; failed_when = None; attempts = None; ignore_errors = None }) (no_steps))); post_tasks = (no_steps); handlers = ([]); forces = false } ∷ [])

abbrev stuck_30_inventory : Inventory
stuck_30_inventory = record { hosts = (record { name = (codes "h1"); variables = (no_fields) } ∷ []); groups = (record { name = (codes "all"); hosts = ((codes "h1") ∷ []) } ∷ record { name = (codes "ungrouped"); hosts = ((codes "h1") ∷ []) } ∷ []) }

stuck_30_judged : judged (builtins ++ ([])) stuck_30_inventory stuck_30_book ≡ refused (record { code = 4; line = 3; host = (Some (codes "h1")) })
stuck_30_judged = refl

stuck_30 : run_after (builtins ++ ([])) stuck_30_inventory stuck_30_book 1 ((object (rec (field (codes "changed") (boolean true) (field (codes "rc") (int (pos 0)) (field (codes "stderr") (text ([])) (field (codes "stderr_lines") (list (no_items)) (field (codes "stdout") (text (codes "a")) (field (codes "stdout_lines") (list (item (text (codes "a")) (no_items))) (no_fields)))))))) ∷ object (rec (field (codes "changed") (boolean true) (field (codes "rc") (int (pos 0)) (field (codes "stderr") (text ([])) (field (codes "stderr_lines") (list (no_items)) (field (codes "stdout") (text (codes "a")) (field (codes "stdout_lines") (list (item (text (codes "a")) (no_items))) (no_fields)))))))) ∷ object (rec (field (codes "changed") (boolean true) (field (codes "rc") (int (pos 0)) (field (codes "stderr") (text ([])) (field (codes "stderr_lines") (list (no_items)) (field (codes "stdout") (text (codes "a")) (field (codes "stdout_lines") (list (item (text (codes "a")) (no_items))) (no_fields)))))))) ∷ []) ∷ []) ≡ record { is_stuck = true; handed = 1; out = (false ∷ []); recaps = (record { ok = 1; changed = 1; unreachable = 0; failed = 0; skipped = 0; rescued = 0; ignored = 0 } ∷ []) }
unfolding digits
stuck_30 = refl

-- stuck_31: the length of a number
abbrev stuck_31_book : Book
stuck_31_book = (record { line = 1; pattern = ((codes "all") ∷ []); gathering = None; vars = (no_parts); is_linear = true; serial = ([]); pre_tasks = (no_steps); tasks = (task_step (record { line = 2; work = (module_work (codes "command") (part (codes "cmd") (literal (text (codes "x"))) (no_parts))); condition = (no_expressions); loop = None; register = (Some (codes "out")); vars = (no_parts); notify = ([]); changed_when = None; failed_when = None; attempts = None; ignore_errors = None }) (task_step (record { line = 3; work = (debug_work (part (codes "msg") (length_of (path (variable (codes "out")) ((codes "rc") ∷ []))) (no_parts))); condition = (no_expressions); loop = None; register = None; vars = (no_parts); notify = ([]); changed_when = None; failed_when = None; attempts = None; ignore_errors = None }) (no_steps))); post_tasks = (no_steps); handlers = ([]); forces = false } ∷ [])

abbrev stuck_31_inventory : Inventory
stuck_31_inventory = record { hosts = (record { name = (codes "h1"); variables = (no_fields) } ∷ []); groups = (record { name = (codes "all"); hosts = ((codes "h1") ∷ []) } ∷ record { name = (codes "ungrouped"); hosts = ((codes "h1") ∷ []) } ∷ []) }

stuck_31_judged : judged (builtins ++ ([])) stuck_31_inventory stuck_31_book ≡ refused (record { code = 4; line = 3; host = (Some (codes "h1")) })
stuck_31_judged = refl

stuck_31 : run_after (builtins ++ ([])) stuck_31_inventory stuck_31_book 1 ((object (rec (field (codes "changed") (boolean true) (field (codes "rc") (int (pos 0)) (field (codes "stderr") (text ([])) (field (codes "stderr_lines") (list (no_items)) (field (codes "stdout") (text (codes "a")) (field (codes "stdout_lines") (list (item (text (codes "a")) (no_items))) (no_fields)))))))) ∷ object (rec (field (codes "changed") (boolean true) (field (codes "rc") (int (pos 0)) (field (codes "stderr") (text ([])) (field (codes "stderr_lines") (list (no_items)) (field (codes "stdout") (text (codes "a")) (field (codes "stdout_lines") (list (item (text (codes "a")) (no_items))) (no_fields)))))))) ∷ object (rec (field (codes "changed") (boolean true) (field (codes "rc") (int (pos 0)) (field (codes "stderr") (text ([])) (field (codes "stderr_lines") (list (no_items)) (field (codes "stdout") (text (codes "a")) (field (codes "stdout_lines") (list (item (text (codes "a")) (no_items))) (no_fields)))))))) ∷ []) ∷ []) ≡ record { is_stuck = true; handed = 1; out = (false ∷ []); recaps = (record { ok = 1; changed = 1; unreachable = 0; failed = 0; skipped = 0; rescued = 0; ignored = 0 } ∷ []) }
unfolding digits
stuck_31 = refl

-- stuck_32: a number in a number
abbrev stuck_32_book : Book
stuck_32_book = (record { line = 1; pattern = ((codes "all") ∷ []); gathering = None; vars = (no_parts); is_linear = true; serial = ([]); pre_tasks = (no_steps); tasks = (task_step (record { line = 2; work = (module_work (codes "command") (part (codes "cmd") (literal (text (codes "x"))) (no_parts))); condition = (no_expressions); loop = None; register = (Some (codes "out")); vars = (no_parts); notify = ([]); changed_when = None; failed_when = None; attempts = None; ignore_errors = None }) (task_step (record { line = 3; work = (debug_work (part (codes "msg") (literal (text (codes "x"))) (no_parts))); condition = (expression (membership (literal (int (pos 1))) (path (variable (codes "out")) ((codes "rc") ∷ []))) (no_expressions)); loop = None; register = None; vars = (no_parts); notify = ([]); changed_when = None; failed_when = None; attempts = None; ignore_errors = None }) (no_steps))); post_tasks = (no_steps); handlers = ([]); forces = false } ∷ [])

abbrev stuck_32_inventory : Inventory
stuck_32_inventory = record { hosts = (record { name = (codes "h1"); variables = (no_fields) } ∷ []); groups = (record { name = (codes "all"); hosts = ((codes "h1") ∷ []) } ∷ record { name = (codes "ungrouped"); hosts = ((codes "h1") ∷ []) } ∷ []) }

stuck_32_judged : judged (builtins ++ ([])) stuck_32_inventory stuck_32_book ≡ refused (record { code = 4; line = 3; host = (Some (codes "h1")) })
stuck_32_judged = refl

stuck_32 : run_after (builtins ++ ([])) stuck_32_inventory stuck_32_book 1 ((object (rec (field (codes "changed") (boolean true) (field (codes "rc") (int (pos 0)) (field (codes "stderr") (text ([])) (field (codes "stderr_lines") (list (no_items)) (field (codes "stdout") (text (codes "a")) (field (codes "stdout_lines") (list (item (text (codes "a")) (no_items))) (no_fields)))))))) ∷ object (rec (field (codes "changed") (boolean true) (field (codes "rc") (int (pos 0)) (field (codes "stderr") (text ([])) (field (codes "stderr_lines") (list (no_items)) (field (codes "stdout") (text (codes "a")) (field (codes "stdout_lines") (list (item (text (codes "a")) (no_items))) (no_fields)))))))) ∷ object (rec (field (codes "changed") (boolean true) (field (codes "rc") (int (pos 0)) (field (codes "stderr") (text ([])) (field (codes "stderr_lines") (list (no_items)) (field (codes "stdout") (text (codes "a")) (field (codes "stdout_lines") (list (item (text (codes "a")) (no_items))) (no_fields)))))))) ∷ []) ∷ []) ≡ record { is_stuck = true; handed = 1; out = (false ∷ []); recaps = (record { ok = 1; changed = 1; unreachable = 0; failed = 0; skipped = 0; rescued = 0; ignored = 0 } ∷ []) }
unfolding digits
stuck_32 = refl

-- stuck_33: the second host has no such variable
abbrev stuck_33_book : Book
stuck_33_book = (record { line = 1; pattern = ((codes "all") ∷ []); gathering = None; vars = (no_parts); is_linear = true; serial = ([]); pre_tasks = (no_steps); tasks = (task_step (record { line = 2; work = (debug_work (part (codes "msg") (path (variable (codes "v")) ([])) (no_parts))); condition = (no_expressions); loop = None; register = None; vars = (no_parts); notify = ([]); changed_when = None; failed_when = None; attempts = None; ignore_errors = None }) (no_steps)); post_tasks = (no_steps); handlers = ([]); forces = false } ∷ [])

abbrev stuck_33_inventory : Inventory
stuck_33_inventory = record { hosts = (record { name = (codes "a"); variables = (field (codes "v") (int (pos 1)) (no_fields)) } ∷ record { name = (codes "b"); variables = (no_fields) } ∷ []); groups = (record { name = (codes "all"); hosts = ((codes "a") ∷ (codes "b") ∷ []) } ∷ record { name = (codes "ungrouped"); hosts = ((codes "a") ∷ (codes "b") ∷ []) } ∷ []) }

stuck_33_judged : judged (builtins ++ ([])) stuck_33_inventory stuck_33_book ≡ refused (record { code = 1; line = 2; host = (Some (codes "b")) })
stuck_33_judged = refl

stuck_33 : run_after (builtins ++ ([])) stuck_33_inventory stuck_33_book 1 (([]) ∷ ([]) ∷ []) ≡ record { is_stuck = true; handed = 0; out = (false ∷ false ∷ []); recaps = (record { ok = 1; changed = 0; unreachable = 0; failed = 0; skipped = 0; rescued = 0; ignored = 0 } ∷ record { ok = 0; changed = 0; unreachable = 0; failed = 0; skipped = 0; rescued = 0; ignored = 0 } ∷ []) }
unfolding digits
stuck_33 = refl

-- stuck_34: another host has no such variable
abbrev stuck_34_book : Book
stuck_34_book = (record { line = 1; pattern = ((codes "all") ∷ []); gathering = None; vars = (no_parts); is_linear = true; serial = ([]); pre_tasks = (no_steps); tasks = (task_step (record { line = 2; work = (debug_work (part (codes "msg") (path (other (named_host (codes "b")) (codes "v")) ([])) (no_parts))); condition = (no_expressions); loop = None; register = None; vars = (no_parts); notify = ([]); changed_when = None; failed_when = None; attempts = None; ignore_errors = None }) (no_steps)); post_tasks = (no_steps); handlers = ([]); forces = false } ∷ [])

abbrev stuck_34_inventory : Inventory
stuck_34_inventory = record { hosts = (record { name = (codes "a"); variables = (field (codes "v") (int (pos 1)) (no_fields)) } ∷ record { name = (codes "b"); variables = (no_fields) } ∷ []); groups = (record { name = (codes "all"); hosts = ((codes "a") ∷ (codes "b") ∷ []) } ∷ record { name = (codes "ungrouped"); hosts = ((codes "a") ∷ (codes "b") ∷ []) } ∷ []) }

stuck_34_judged : judged (builtins ++ ([])) stuck_34_inventory stuck_34_book ≡ refused (record { code = 2; line = 2; host = (Some (codes "a")) })
stuck_34_judged = refl

stuck_34 : run_after (builtins ++ ([])) stuck_34_inventory stuck_34_book 1 (([]) ∷ ([]) ∷ []) ≡ record { is_stuck = true; handed = 0; out = (false ∷ false ∷ []); recaps = (record { ok = 0; changed = 0; unreachable = 0; failed = 0; skipped = 0; rescued = 0; ignored = 0 } ∷ record { ok = 0; changed = 0; unreachable = 0; failed = 0; skipped = 0; rescued = 0; ignored = 0 } ∷ []) }
unfolding digits
stuck_34 = refl

-- stuck_35: `changed_when` is not there
abbrev stuck_35_book : Book
stuck_35_book = (record { line = 1; pattern = ((codes "all") ∷ []); gathering = None; vars = (no_parts); is_linear = true; serial = ([]); pre_tasks = (no_steps); tasks = (task_step (record { line = 2; work = (module_work (codes "command") (part (codes "cmd") (literal (text (codes "x"))) (no_parts))); condition = (no_expressions); loop = None; register = None; vars = (no_parts); notify = ([]); changed_when = (Some (expression (path (variable (codes "zz")) ([])) (no_expressions))); failed_when = None; attempts = None; ignore_errors = None }) (no_steps)); post_tasks = (no_steps); handlers = ([]); forces = false } ∷ [])

abbrev stuck_35_inventory : Inventory
stuck_35_inventory = record { hosts = (record { name = (codes "h1"); variables = (no_fields) } ∷ []); groups = (record { name = (codes "all"); hosts = ((codes "h1") ∷ []) } ∷ record { name = (codes "ungrouped"); hosts = ((codes "h1") ∷ []) } ∷ []) }

stuck_35_judged : judged (builtins ++ ([])) stuck_35_inventory stuck_35_book ≡ refused (record { code = 1; line = 2; host = (Some (codes "h1")) })
stuck_35_judged = refl

stuck_35 : run_after (builtins ++ ([])) stuck_35_inventory stuck_35_book 1 ((object (rec (field (codes "changed") (boolean true) (field (codes "rc") (int (pos 0)) (field (codes "stderr") (text ([])) (field (codes "stderr_lines") (list (no_items)) (field (codes "stdout") (text (codes "a")) (field (codes "stdout_lines") (list (item (text (codes "a")) (no_items))) (no_fields)))))))) ∷ object (rec (field (codes "changed") (boolean true) (field (codes "rc") (int (pos 0)) (field (codes "stderr") (text ([])) (field (codes "stderr_lines") (list (no_items)) (field (codes "stdout") (text (codes "a")) (field (codes "stdout_lines") (list (item (text (codes "a")) (no_items))) (no_fields)))))))) ∷ []) ∷ []) ≡ record { is_stuck = true; handed = 1; out = (true ∷ []); recaps = (record { ok = 0; changed = 0; unreachable = 0; failed = 0; skipped = 0; rescued = 0; ignored = 0 } ∷ []) }
unfolding digits
stuck_35 = refl
