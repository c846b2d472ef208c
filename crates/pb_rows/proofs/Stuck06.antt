-- Runs of refused books that get stuck, computed.
use Rattle.std.specs.Prelude.{◌≡◌, refl, pos, [], ◌∷◌, ◌++◌, true, false, Some, None, codes}
use Rattle.std.specs.Fmt.{digits}
use Rattle.pb_semantics.specs.Data.{boolean, int, text, list, rec, no_items, item, no_fields, field}
use Rattle.pb_language.specs.Expression.{equal, literal, path, comparison, variable, no_expressions, expression, no_parts, part}
use Rattle.pb_language.specs.Book.{module_work, debug_work, no_steps, task_step, Book}
use Rattle.pb_language.specs.Builtins.{builtins}
use Rattle.pb_language.specs.Give.{object}
use Rattle.pb_language.specs.Judged.{judged}
use Rattle.pb_language.specs.Program.{Inventory}
use Rattle.pb_language.specs.Verdict.{refused}
use Rattle.pb_rows.specs.Recaps.{run_after}

-- stuck_60: an attempt that is made again notifies nobody
abbrev stuck_60_book : Book
stuck_60_book = (record { line = 1; pattern = ((codes "all") ∷ []); gathering = None; vars = (no_parts); is_linear = true; serial = ([]); pre_tasks = (no_steps); tasks = (task_step (record { line = 2; work = (module_work (codes "command") (part (codes "cmd") (literal (text (codes "x"))) (no_parts))); condition = (no_expressions); loop = None; register = (Some (codes "out")); vars = (no_parts); notify = ((codes "nobody") ∷ []); changed_when = None; failed_when = None; attempts = (Some (record { until = (expression (comparison equal (path (variable (codes "out")) ((codes "rc") ∷ [])) (literal (int (pos 5)))) (no_expressions)); retries = 1 })); ignore_errors = None }) (no_steps)); post_tasks = (no_steps); handlers = ([]); forces = false } ∷ [])

abbrev stuck_60_inventory : Inventory
stuck_60_inventory = record { hosts = (record { name = (codes "h1"); variables = (no_fields) } ∷ []); groups = (record { name = (codes "all"); hosts = ((codes "h1") ∷ []) } ∷ record { name = (codes "ungrouped"); hosts = ((codes "h1") ∷ []) } ∷ []) }

stuck_60_judged : judged (builtins ++ ([])) stuck_60_inventory stuck_60_book ≡ refused (record { code = 5; line = 2; host = None })
stuck_60_judged = refl

stuck_60 : run_after (builtins ++ ([])) stuck_60_inventory stuck_60_book 1 ((object (rec (field (codes "changed") (boolean true) (field (codes "rc") (int (pos 0)) (field (codes "stderr") (text ([])) (field (codes "stderr_lines") (list (no_items)) (field (codes "stdout") (text (codes "a")) (field (codes "stdout_lines") (list (item (text (codes "a")) (no_items))) (no_fields)))))))) ∷ object (rec (field (codes "changed") (boolean true) (field (codes "rc") (int (pos 0)) (field (codes "stderr") (text ([])) (field (codes "stderr_lines") (list (no_items)) (field (codes "stdout") (text (codes "a")) (field (codes "stdout_lines") (list (item (text (codes "a")) (no_items))) (no_fields)))))))) ∷ []) ∷ []) ≡ record { is_stuck = false; handed = 2; out = (false ∷ []); recaps = (record { ok = 0; changed = 0; unreachable = 0; failed = 1; skipped = 0; rescued = 0; ignored = 0 } ∷ []) }
unfolding digits
stuck_60 = refl

-- stuck_61: `until` of a handler
abbrev stuck_61_book : Book
stuck_61_book = (record { line = 1; pattern = ((codes "all") ∷ []); gathering = None; vars = (no_parts); is_linear = true; serial = ([]); pre_tasks = (no_steps); tasks = (task_step (record { line = 2; work = (module_work (codes "command") (part (codes "cmd") (literal (text (codes "x"))) (no_parts))); condition = (no_expressions); loop = None; register = None; vars = (no_parts); notify = ((codes "r") ∷ []); changed_when = None; failed_when = None; attempts = None; ignore_errors = None }) (no_steps)); post_tasks = (no_steps); handlers = (record { work = (record { line = 3; work = (module_work (codes "command") (part (codes "cmd") (literal (text (codes "y"))) (no_parts))); condition = (no_expressions); loop = None; register = None; vars = (no_parts); notify = ([]); changed_when = None; failed_when = None; attempts = (Some (record { until = (expression (path (variable (codes "zz")) ([])) (no_expressions)); retries = 1 })); ignore_errors = None }); name = (Some (codes "r")); topics = ([]) } ∷ []); forces = false } ∷ [])

abbrev stuck_61_inventory : Inventory
stuck_61_inventory = record { hosts = (record { name = (codes "h1"); variables = (no_fields) } ∷ []); groups = (record { name = (codes "all"); hosts = ((codes "h1") ∷ []) } ∷ record { name = (codes "ungrouped"); hosts = ((codes "h1") ∷ []) } ∷ []) }

stuck_61_judged : judged (builtins ++ ([])) stuck_61_inventory stuck_61_book ≡ refused (record { code = 1; line = 3; host = (Some (codes "h1")) })
stuck_61_judged = refl

stuck_61 : run_after (builtins ++ ([])) stuck_61_inventory stuck_61_book 1 ((object (rec (field (codes "changed") (boolean true) (field (codes "rc") (int (pos 0)) (field (codes "stderr") (text ([])) (field (codes "stderr_lines") (list (no_items)) (field (codes "stdout") (text (codes "a")) (field (codes "stdout_lines") (list (item (text (codes "a")) (no_items))) (no_fields)))))))) ∷ object (rec (field (codes "changed") (boolean true) (field (codes "rc") (int (pos 0)) (field (codes "stderr") (text ([])) (field (codes "stderr_lines") (list (no_items)) (field (codes "stdout") (text (codes "a")) (field (codes "stdout_lines") (list (item (text (codes "a")) (no_items))) (no_fields)))))))) ∷ object (rec (field (codes "changed") (boolean true) (field (codes "rc") (int (pos 0)) (field (codes "stderr") (text ([])) (field (codes "stderr_lines") (list (no_items)) (field (codes "stdout") (text (codes "a")) (field (codes "stdout_lines") (list (item (text (codes "a")) (no_items))) (no_fields)))))))) ∷ []) ∷ []) ≡ record { is_stuck = true; handed = 2; out = (true ∷ []); recaps = (record { ok = 1; changed = 1; unreachable = 0; failed = 0; skipped = 0; rescued = 0; ignored = 0 } ∷ []) }
unfolding digits
stuck_61 = refl

-- stuck_62: an argument in a forced flush
abbrev stuck_62_book : Book
stuck_62_book = (record { line = 1; pattern = ((codes "all") ∷ []); gathering = None; vars = (no_parts); is_linear = true; serial = ([]); pre_tasks = (no_steps); tasks = (task_step (record { line = 2; work = (module_work (codes "command") (part (codes "cmd") (literal (text (codes "x"))) (no_parts))); condition = (no_expressions); loop = None; register = None; vars = (no_parts); notify = ((codes "r") ∷ []); changed_when = None; failed_when = None; attempts = None; ignore_errors = None }) (task_step (record { line = 3; work = (module_work (codes "command") (part (codes "cmd") (literal (text (codes "y"))) (no_parts))); condition = (no_expressions); loop = None; register = None; vars = (no_parts); notify = ([]); changed_when = None; failed_when = None; attempts = None; ignore_errors = None }) (task_step (record { line = 4; work = (module_work (codes "command") (part (codes "cmd") (literal (text (codes "x"))) (no_parts))); condition = (no_expressions); loop = None; register = (Some (codes "out")); vars = (no_parts); notify = ([]); changed_when = None; failed_when = None; attempts = None; ignore_errors = None }) (no_steps)))); post_tasks = (no_steps); handlers = (record { work = (record { line = 5; work = (debug_work (part (codes "msg") (path (variable (codes "out")) ((codes "rc") ∷ [])) (no_parts))); condition = (no_expressions); loop = None; register = None; vars = (no_parts); notify = ([]); changed_when = None; failed_when = None; attempts = None; ignore_errors = None }); name = (Some (codes "r")); topics = ([]) } ∷ []); forces = true } ∷ [])

abbrev stuck_62_inventory : Inventory
stuck_62_inventory = record { hosts = (record { name = (codes "h1"); variables = (no_fields) } ∷ []); groups = (record { name = (codes "all"); hosts = ((codes "h1") ∷ []) } ∷ record { name = (codes "ungrouped"); hosts = ((codes "h1") ∷ []) } ∷ []) }

stuck_62_judged : judged (builtins ++ ([])) stuck_62_inventory stuck_62_book ≡ refused (record { code = 1; line = 5; host = (Some (codes "h1")) })
stuck_62_judged = refl

stuck_62 : run_after (builtins ++ ([])) stuck_62_inventory stuck_62_book 1 ((object (rec (field (codes "changed") (boolean true) (field (codes "rc") (int (pos 0)) (field (codes "stderr") (text ([])) (field (codes "stderr_lines") (list (no_items)) (field (codes "stdout") (text (codes "a")) (field (codes "stdout_lines") (list (item (text (codes "a")) (no_items))) (no_fields)))))))) ∷ object (rec (field (codes "changed") (boolean false) (field (codes "failed") (boolean true) (field (codes "msg") (text (codes "no")) (field (codes "rc") (int (pos 1)) (field (codes "stderr") (text ([])) (field (codes "stderr_lines") (list (no_items)) (field (codes "stdout") (text ([])) (field (codes "stdout_lines") (list (no_items)) (no_fields)))))))))) ∷ object (rec (field (codes "changed") (boolean true) (field (codes "rc") (int (pos 0)) (field (codes "stderr") (text ([])) (field (codes "stderr_lines") (list (no_items)) (field (codes "stdout") (text (codes "a")) (field (codes "stdout_lines") (list (item (text (codes "a")) (no_items))) (no_fields)))))))) ∷ []) ∷ []) ≡ record { is_stuck = true; handed = 2; out = (false ∷ []); recaps = (record { ok = 1; changed = 1; unreachable = 0; failed = 1; skipped = 0; rescued = 0; ignored = 0 } ∷ []) }
unfolding digits
stuck_62 = refl

-- stuck_63: nobody is notified in a forced flush
abbrev stuck_63_book : Book
stuck_63_book = (record { line = 1; pattern = ((codes "all") ∷ []); gathering = None; vars = (no_parts); is_linear = true; serial = ([]); pre_tasks = (no_steps); tasks = (task_step (record { line = 2; work = (module_work (codes "command") (part (codes "cmd") (literal (text (codes "x"))) (no_parts))); condition = (no_expressions); loop = None; register = None; vars = (no_parts); notify = ((codes "r") ∷ []); changed_when = None; failed_when = None; attempts = None; ignore_errors = None }) (task_step (record { line = 3; work = (module_work (codes "command") (part (codes "cmd") (literal (text (codes "y"))) (no_parts))); condition = (no_expressions); loop = None; register = None; vars = (no_parts); notify = ([]); changed_when = None; failed_when = None; attempts = None; ignore_errors = None }) (no_steps))); post_tasks = (no_steps); handlers = (record { work = (record { line = 4; work = (module_work (codes "command") (part (codes "cmd") (literal (text (codes "z"))) (no_parts))); condition = (no_expressions); loop = None; register = None; vars = (no_parts); notify = ((codes "nobody") ∷ []); changed_when = None; failed_when = None; attempts = None; ignore_errors = None }); name = (Some (codes "r")); topics = ([]) } ∷ []); forces = true } ∷ [])

abbrev stuck_63_inventory : Inventory
stuck_63_inventory = record { hosts = (record { name = (codes "h1"); variables = (no_fields) } ∷ []); groups = (record { name = (codes "all"); hosts = ((codes "h1") ∷ []) } ∷ record { name = (codes "ungrouped"); hosts = ((codes "h1") ∷ []) } ∷ []) }

stuck_63_judged : judged (builtins ++ ([])) stuck_63_inventory stuck_63_book ≡ refused (record { code = 5; line = 4; host = None })
stuck_63_judged = refl

stuck_63 : run_after (builtins ++ ([])) stuck_63_inventory stuck_63_book 1 ((object (rec (field (codes "changed") (boolean true) (field (codes "rc") (int (pos 0)) (field (codes "stderr") (text ([])) (field (codes "stderr_lines") (list (no_items)) (field (codes "stdout") (text (codes "a")) (field (codes "stdout_lines") (list (item (text (codes "a")) (no_items))) (no_fields)))))))) ∷ object (rec (field (codes "changed") (boolean false) (field (codes "failed") (boolean true) (field (codes "msg") (text (codes "no")) (field (codes "rc") (int (pos 1)) (field (codes "stderr") (text ([])) (field (codes "stderr_lines") (list (no_items)) (field (codes "stdout") (text ([])) (field (codes "stdout_lines") (list (no_items)) (no_fields)))))))))) ∷ object (rec (field (codes "changed") (boolean true) (field (codes "rc") (int (pos 0)) (field (codes "stderr") (text ([])) (field (codes "stderr_lines") (list (no_items)) (field (codes "stdout") (text (codes "a")) (field (codes "stdout_lines") (list (item (text (codes "a")) (no_items))) (no_fields)))))))) ∷ []) ∷ []) ≡ record { is_stuck = true; handed = 3; out = (true ∷ []); recaps = (record { ok = 1; changed = 1; unreachable = 0; failed = 1; skipped = 0; rescued = 0; ignored = 0 } ∷ []) }
unfolding digits
stuck_63 = refl

-- stuck_64: `until` in a forced flush
abbrev stuck_64_book : Book
stuck_64_book = (record { line = 1; pattern = ((codes "all") ∷ []); gathering = None; vars = (no_parts); is_linear = true; serial = ([]); pre_tasks = (no_steps); tasks = (task_step (record { line = 2; work = (module_work (codes "command") (part (codes "cmd") (literal (text (codes "x"))) (no_parts))); condition = (no_expressions); loop = None; register = None; vars = (no_parts); notify = ((codes "r") ∷ []); changed_when = None; failed_when = None; attempts = None; ignore_errors = None }) (task_step (record { line = 3; work = (module_work (codes "command") (part (codes "cmd") (literal (text (codes "y"))) (no_parts))); condition = (no_expressions); loop = None; register = None; vars = (no_parts); notify = ([]); changed_when = None; failed_when = None; attempts = None; ignore_errors = None }) (no_steps))); post_tasks = (no_steps); handlers = (record { work = (record { line = 4; work = (module_work (codes "command") (part (codes "cmd") (literal (text (codes "z"))) (no_parts))); condition = (no_expressions); loop = None; register = None; vars = (no_parts); notify = ([]); changed_when = None; failed_when = None; attempts = (Some (record { until = (expression (path (variable (codes "zz")) ([])) (no_expressions)); retries = 1 })); ignore_errors = None }); name = (Some (codes "r")); topics = ([]) } ∷ []); forces = true } ∷ [])

abbrev stuck_64_inventory : Inventory
stuck_64_inventory = record { hosts = (record { name = (codes "h1"); variables = (no_fields) } ∷ []); groups = (record { name = (codes "all"); hosts = ((codes "h1") ∷ []) } ∷ record { name = (codes "ungrouped"); hosts = ((codes "h1") ∷ []) } ∷ []) }

stuck_64_judged : judged (builtins ++ ([])) stuck_64_inventory stuck_64_book ≡ refused (record { code = 1; line = 4; host = (Some (codes "h1")) })
stuck_64_judged = refl

stuck_64 : run_after (builtins ++ ([])) stuck_64_inventory stuck_64_book 1 ((object (rec (field (codes "changed") (boolean true) (field (codes "rc") (int (pos 0)) (field (codes "stderr") (text ([])) (field (codes "stderr_lines") (list (no_items)) (field (codes "stdout") (text (codes "a")) (field (codes "stdout_lines") (list (item (text (codes "a")) (no_items))) (no_fields)))))))) ∷ object (rec (field (codes "changed") (boolean false) (field (codes "failed") (boolean true) (field (codes "msg") (text (codes "no")) (field (codes "rc") (int (pos 1)) (field (codes "stderr") (text ([])) (field (codes "stderr_lines") (list (no_items)) (field (codes "stdout") (text ([])) (field (codes "stdout_lines") (list (no_items)) (no_fields)))))))))) ∷ object (rec (field (codes "changed") (boolean true) (field (codes "rc") (int (pos 0)) (field (codes "stderr") (text ([])) (field (codes "stderr_lines") (list (no_items)) (field (codes "stdout") (text (codes "a")) (field (codes "stdout_lines") (list (item (text (codes "a")) (no_items))) (no_fields)))))))) ∷ object (rec (field (codes "changed") (boolean true) (field (codes "rc") (int (pos 0)) (field (codes "stderr") (text ([])) (field (codes "stderr_lines") (list (no_items)) (field (codes "stdout") (text (codes "a")) (field (codes "stdout_lines") (list (item (text (codes "a")) (no_items))) (no_fields)))))))) ∷ []) ∷ []) ≡ record { is_stuck = true; handed = 3; out = (true ∷ []); recaps = (record { ok = 1; changed = 1; unreachable = 0; failed = 1; skipped = 0; rescued = 0; ignored = 0 } ∷ []) }
unfolding digits
stuck_64 = refl
