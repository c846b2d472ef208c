-- Cases of flow, computed.
use Rattle.std.specs.Prelude.{◌≡◌, refl, pos, [], ◌∷◌, ◌++◌, true, false, Some, None, codes}
use Rattle.pb_semantics.specs.Data.{boolean, int, text, no_fields}
use Rattle.pb_language.specs.Expression.{equal, is_failed, is_skipped, literal, path, negation, conjunction, disjunction, comparison, defined, path_status, joined_by, list_of, variable, no_expressions, expression, no_parts, part}
use Rattle.pb_language.specs.Book.{conditions_are, module_work, debug_work, assert_work, no_steps, task_step, Book, Registry}
use Rattle.pb_language.specs.Builtins.{builtins}
use Rattle.pb_language.specs.Judged.{judged}
use Rattle.pb_language.specs.Program.{Inventory}
use Rattle.pb_language.specs.Verdict.{accepted, refused}

-- flow_042: or: the right side learns from the false left
abbrev flow_042_book : Book
flow_042_book = (record { line = 1; pattern = ((codes "all") ∷ []); gathering = None; vars = (no_parts); is_linear = true; serial = ([]); pre_tasks = (no_steps); tasks = (task_step (record { line = 2; work = (module_work (codes "command") (part (codes "cmd") (literal (text (codes "x"))) (no_parts))); condition = (expression (literal (boolean true)) (no_expressions)); loop = None; register = (Some (codes "out")); vars = (no_parts); notify = ([]); changed_when = None; failed_when = None; attempts = None; ignore_errors = None }) (task_step (record { line = 3; work = (debug_work (part (codes "msg") (disjunction (expression (path_status is_skipped (variable (codes "out")) ([])) (expression (comparison equal (path (variable (codes "out")) ((codes "rc") ∷ [])) (literal (int (pos 0)))) (no_expressions)))) (no_parts))); condition = (no_expressions); loop = None; register = None; vars = (no_parts); notify = ([]); changed_when = None; failed_when = None; attempts = None; ignore_errors = None }) (no_steps))); post_tasks = (no_steps); handlers = ([]); forces = false } ∷ [])

abbrev flow_042_inventory : Inventory
flow_042_inventory = record { hosts = (record { name = (codes "h1"); variables = (no_fields) } ∷ []); groups = (record { name = (codes "all"); hosts = ((codes "h1") ∷ []) } ∷ record { name = (codes "ungrouped"); hosts = ((codes "h1") ∷ []) } ∷ []) }

abbrev flow_042_registry : Registry
flow_042_registry = (builtins ++ ([]))

flow_042 : judged flow_042_registry flow_042_inventory flow_042_book ≡ accepted 1
flow_042 = refl

-- flow_044: an argument doesn't teach another
abbrev flow_044_book : Book
flow_044_book = (record { line = 1; pattern = ((codes "all") ∷ []); gathering = None; vars = (no_parts); is_linear = true; serial = ([]); pre_tasks = (no_steps); tasks = (task_step (record { line = 2; work = (module_work (codes "command") (part (codes "cmd") (literal (text (codes "x"))) (no_parts))); condition = (expression (literal (boolean true)) (no_expressions)); loop = None; register = (Some (codes "out")); vars = (no_parts); notify = ([]); changed_when = None; failed_when = None; attempts = None; ignore_errors = None }) (task_step (record { line = 3; work = (module_work (codes "copy") (part (codes "content") (joined_by (list_of (expression (negation (path_status is_skipped (variable (codes "out")) ([]))) (no_expressions))) (literal (text []))) (part (codes "dest") (path (variable (codes "out")) ((codes "stdout") ∷ [])) (no_parts)))); condition = (no_expressions); loop = None; register = None; vars = (no_parts); notify = ([]); changed_when = None; failed_when = None; attempts = None; ignore_errors = None }) (no_steps))); post_tasks = (no_steps); handlers = ([]); forces = false } ∷ [])

abbrev flow_044_inventory : Inventory
flow_044_inventory = record { hosts = (record { name = (codes "h1"); variables = (no_fields) } ∷ []); groups = (record { name = (codes "all"); hosts = ((codes "h1") ∷ []) } ∷ record { name = (codes "ungrouped"); hosts = ((codes "h1") ∷ []) } ∷ []) }

abbrev flow_044_registry : Registry
flow_044_registry = (builtins ++ ([]))

flow_044 : judged flow_044_registry flow_044_inventory flow_044_book ≡ refused (record { code = 3; line = 3; host = (Some (codes "h1")) })
flow_044 = refl

-- flow_046: and not from right to left
abbrev flow_046_book : Book
flow_046_book = (record { line = 1; pattern = ((codes "all") ∷ []); gathering = None; vars = (no_parts); is_linear = true; serial = ([]); pre_tasks = (no_steps); tasks = (task_step (record { line = 2; work = (module_work (codes "command") (part (codes "cmd") (literal (text (codes "x"))) (no_parts))); condition = (expression (literal (boolean true)) (no_expressions)); loop = None; register = (Some (codes "out")); vars = (no_parts); notify = ([]); changed_when = None; failed_when = None; attempts = None; ignore_errors = None }) (task_step (record { line = 3; work = (debug_work (part (codes "msg") (literal (int (pos 1))) (no_parts))); condition = (expression (comparison equal (path (variable (codes "out")) ((codes "rc") ∷ [])) (literal (int (pos 0)))) (expression (negation (path_status is_skipped (variable (codes "out")) ([]))) (no_expressions))); loop = None; register = None; vars = (no_parts); notify = ([]); changed_when = None; failed_when = None; attempts = None; ignore_errors = None }) (no_steps))); post_tasks = (no_steps); handlers = ([]); forces = false } ∷ [])

abbrev flow_046_inventory : Inventory
flow_046_inventory = record { hosts = (record { name = (codes "h1"); variables = (no_fields) } ∷ []); groups = (record { name = (codes "all"); hosts = ((codes "h1") ∷ []) } ∷ record { name = (codes "ungrouped"); hosts = ((codes "h1") ∷ []) } ∷ []) }

abbrev flow_046_registry : Registry
flow_046_registry = (builtins ++ ([]))

flow_046 : judged flow_046_registry flow_046_inventory flow_046_book ≡ refused (record { code = 3; line = 3; host = (Some (codes "h1")) })
flow_046 = refl

-- flow_047: assert's list teaches from left to right
abbrev flow_047_book : Book
flow_047_book = (record { line = 1; pattern = ((codes "all") ∷ []); gathering = None; vars = (no_parts); is_linear = true; serial = ([]); pre_tasks = (no_steps); tasks = (task_step (record { line = 2; work = (module_work (codes "command") (part (codes "cmd") (literal (text (codes "x"))) (no_parts))); condition = (expression (literal (boolean true)) (no_expressions)); loop = None; register = (Some (codes "out")); vars = (no_parts); notify = ([]); changed_when = None; failed_when = None; attempts = None; ignore_errors = None }) (task_step (record { line = 3; work = (assert_work (conditions_are (expression (negation (path_status is_skipped (variable (codes "out")) ([]))) (expression (comparison equal (path (variable (codes "out")) ((codes "rc") ∷ [])) (literal (int (pos 0)))) (no_expressions)))) (no_parts)); condition = (no_expressions); loop = None; register = None; vars = (no_parts); notify = ([]); changed_when = None; failed_when = None; attempts = None; ignore_errors = None }) (no_steps))); post_tasks = (no_steps); handlers = ([]); forces = false } ∷ [])

abbrev flow_047_inventory : Inventory
flow_047_inventory = record { hosts = (record { name = (codes "h1"); variables = (no_fields) } ∷ []); groups = (record { name = (codes "all"); hosts = ((codes "h1") ∷ []) } ∷ record { name = (codes "ungrouped"); hosts = ((codes "h1") ∷ []) } ∷ []) }

abbrev flow_047_registry : Registry
flow_047_registry = (builtins ++ ([]))

flow_047 : judged flow_047_registry flow_047_inventory flow_047_book ≡ accepted 1
flow_047 = refl

-- flow_048: assert teaches nothing to later tasks
abbrev flow_048_book : Book
flow_048_book = (record { line = 1; pattern = ((codes "all") ∷ []); gathering = None; vars = (no_parts); is_linear = true; serial = ([]); pre_tasks = (no_steps); tasks = (task_step (record { line = 2; work = (module_work (codes "command") (part (codes "cmd") (literal (text (codes "x"))) (no_parts))); condition = (expression (literal (boolean true)) (no_expressions)); loop = None; register = (Some (codes "out")); vars = (no_parts); notify = ([]); changed_when = None; failed_when = None; attempts = None; ignore_errors = None }) (task_step (record { line = 3; work = (assert_work (conditions_are (expression (negation (path_status is_skipped (variable (codes "out")) ([]))) (no_expressions))) (no_parts)); condition = (no_expressions); loop = None; register = None; vars = (no_parts); notify = ([]); changed_when = None; failed_when = None; attempts = None; ignore_errors = None }) (task_step (record { line = 4; work = (debug_work (part (codes "msg") (path (variable (codes "out")) ((codes "rc") ∷ [])) (no_parts))); condition = (no_expressions); loop = None; register = None; vars = (no_parts); notify = ([]); changed_when = None; failed_when = None; attempts = None; ignore_errors = None }) (no_steps)))); post_tasks = (no_steps); handlers = ([]); forces = false } ∷ [])

abbrev flow_048_inventory : Inventory
flow_048_inventory = record { hosts = (record { name = (codes "h1"); variables = (no_fields) } ∷ []); groups = (record { name = (codes "all"); hosts = ((codes "h1") ∷ []) } ∷ record { name = (codes "ungrouped"); hosts = ((codes "h1") ∷ []) } ∷ []) }

abbrev flow_048_registry : Registry
flow_048_registry = (builtins ++ ([]))

flow_048 : judged flow_048_registry flow_048_inventory flow_048_book ≡ refused (record { code = 3; line = 4; host = (Some (codes "h1")) })
flow_048 = refl

-- flow_051: changed_when teaches failed_when nothing
abbrev flow_051_book : Book
flow_051_book = (record { line = 1; pattern = ((codes "all") ∷ []); gathering = None; vars = (no_parts); is_linear = true; serial = ([]); pre_tasks = (no_steps); tasks = (task_step (record { line = 2; work = (module_work (codes "command") (part (codes "cmd") (literal (text (codes "x"))) (no_parts))); condition = (no_expressions); loop = None; register = None; vars = (no_parts); notify = ([]); changed_when = (Some (expression (defined (variable (codes "zz")) ([])) (expression (comparison equal (path (variable (codes "zz")) ([])) (literal (int (pos 1)))) (no_expressions)))); failed_when = (Some (expression (comparison equal (path (variable (codes "zz")) ([])) (literal (int (pos 1)))) (no_expressions))); attempts = None; ignore_errors = None }) (no_steps)); post_tasks = (no_steps); handlers = ([]); forces = false } ∷ [])

abbrev flow_051_inventory : Inventory
flow_051_inventory = record { hosts = (record { name = (codes "h1"); variables = (no_fields) } ∷ []); groups = (record { name = (codes "all"); hosts = ((codes "h1") ∷ []) } ∷ record { name = (codes "ungrouped"); hosts = ((codes "h1") ∷ []) } ∷ []) }

abbrev flow_051_registry : Registry
flow_051_registry = (builtins ++ ([]))

flow_051 : judged flow_051_registry flow_051_inventory flow_051_book ≡ refused (record { code = 1; line = 2; host = (Some (codes "h1")) })
flow_051 = refl

-- flow_052: own result as admitted: msg perhaps
abbrev flow_052_book : Book
flow_052_book = (record { line = 1; pattern = ((codes "all") ∷ []); gathering = None; vars = (no_parts); is_linear = true; serial = ([]); pre_tasks = (no_steps); tasks = (task_step (record { line = 2; work = (module_work (codes "command") (part (codes "cmd") (literal (text (codes "x"))) (no_parts))); condition = (no_expressions); loop = None; register = (Some (codes "out")); vars = (no_parts); notify = ([]); changed_when = None; failed_when = (Some (expression (comparison equal (path (variable (codes "out")) ((codes "msg") ∷ [])) (literal (text (codes "x")))) (no_expressions))); attempts = None; ignore_errors = None }) (no_steps)); post_tasks = (no_steps); handlers = ([]); forces = false } ∷ [])

abbrev flow_052_inventory : Inventory
flow_052_inventory = record { hosts = (record { name = (codes "h1"); variables = (no_fields) } ∷ []); groups = (record { name = (codes "all"); hosts = ((codes "h1") ∷ []) } ∷ record { name = (codes "ungrouped"); hosts = ((codes "h1") ∷ []) } ∷ []) }

abbrev flow_052_registry : Registry
flow_052_registry = (builtins ++ ([]))

flow_052 : judged flow_052_registry flow_052_inventory flow_052_book ≡ refused (record { code = 3; line = 2; host = (Some (codes "h1")) })
flow_052 = refl

-- flow_053: own result, msg where failed
abbrev flow_053_book : Book
flow_053_book = (record { line = 1; pattern = ((codes "all") ∷ []); gathering = None; vars = (no_parts); is_linear = true; serial = ([]); pre_tasks = (no_steps); tasks = (task_step (record { line = 2; work = (module_work (codes "command") (part (codes "cmd") (literal (text (codes "x"))) (no_parts))); condition = (no_expressions); loop = None; register = (Some (codes "out")); vars = (no_parts); notify = ([]); changed_when = None; failed_when = (Some (expression (conjunction (expression (path_status is_failed (variable (codes "out")) ([])) (expression (comparison equal (path (variable (codes "out")) ((codes "msg") ∷ [])) (literal (text (codes "x")))) (no_expressions)))) (no_expressions))); attempts = None; ignore_errors = None }) (no_steps)); post_tasks = (no_steps); handlers = ([]); forces = false } ∷ [])

abbrev flow_053_inventory : Inventory
flow_053_inventory = record { hosts = (record { name = (codes "h1"); variables = (no_fields) } ∷ []); groups = (record { name = (codes "all"); hosts = ((codes "h1") ∷ []) } ∷ record { name = (codes "ungrouped"); hosts = ((codes "h1") ∷ []) } ∷ []) }

abbrev flow_053_registry : Registry
flow_053_registry = (builtins ++ ([]))

flow_053 : judged flow_053_registry flow_053_inventory flow_053_book ≡ accepted 1
flow_053 = refl

-- flow_056: until sees rc in both shapes
abbrev flow_056_book : Book
flow_056_book = (record { line = 1; pattern = ((codes "all") ∷ []); gathering = None; vars = (no_parts); is_linear = true; serial = ([]); pre_tasks = (no_steps); tasks = (task_step (record { line = 2; work = (module_work (codes "command") (part (codes "cmd") (literal (text (codes "x"))) (no_parts))); condition = (no_expressions); loop = None; register = (Some (codes "out")); vars = (no_parts); notify = ([]); changed_when = None; failed_when = None; attempts = (Some (record { until = (expression (comparison equal (path (variable (codes "out")) ((codes "rc") ∷ [])) (literal (int (pos 0)))) (no_expressions)); retries = 3 })); ignore_errors = None }) (no_steps)); post_tasks = (no_steps); handlers = ([]); forces = false } ∷ [])

abbrev flow_056_inventory : Inventory
flow_056_inventory = record { hosts = (record { name = (codes "h1"); variables = (no_fields) } ∷ []); groups = (record { name = (codes "all"); hosts = ((codes "h1") ∷ []) } ∷ record { name = (codes "ungrouped"); hosts = ((codes "h1") ∷ []) } ∷ []) }

abbrev flow_056_registry : Registry
flow_056_registry = (builtins ++ ([]))

flow_056 : judged flow_056_registry flow_056_inventory flow_056_book ≡ accepted 4
flow_056 = refl

-- flow_061: a loop with when: skipped items
abbrev flow_061_book : Book
flow_061_book = (record { line = 1; pattern = ((codes "all") ∷ []); gathering = None; vars = (no_parts); is_linear = true; serial = ([]); pre_tasks = (no_steps); tasks = (task_step (record { line = 2; work = (module_work (codes "command") (part (codes "cmd") (literal (text (codes "x"))) (no_parts))); condition = (expression (comparison equal (path (variable (codes "item")) ([])) (literal (int (pos 1)))) (no_expressions)); loop = (Some (list_of (expression (literal (int (pos 1))) (expression (literal (int (pos 2))) (no_expressions))))); register = (Some (codes "out")); vars = (no_parts); notify = ([]); changed_when = None; failed_when = None; attempts = None; ignore_errors = None }) (task_step (record { line = 3; work = (debug_work (part (codes "msg") (path (variable (codes "item")) ((codes "rc") ∷ [])) (no_parts))); condition = (no_expressions); loop = (Some (path (variable (codes "out")) ((codes "results") ∷ []))); register = None; vars = (no_parts); notify = ([]); changed_when = None; failed_when = None; attempts = None; ignore_errors = None }) (no_steps))); post_tasks = (no_steps); handlers = ([]); forces = false } ∷ [])

abbrev flow_061_inventory : Inventory
flow_061_inventory = record { hosts = (record { name = (codes "h1"); variables = (no_fields) } ∷ []); groups = (record { name = (codes "all"); hosts = ((codes "h1") ∷ []) } ∷ record { name = (codes "ungrouped"); hosts = ((codes "h1") ∷ []) } ∷ []) }

abbrev flow_061_registry : Registry
flow_061_registry = (builtins ++ ([]))

flow_061 : judged flow_061_registry flow_061_inventory flow_061_book ≡ refused (record { code = 3; line = 3; host = (Some (codes "h1")) })
flow_061 = refl

-- flow_064: a looped result has no rc
abbrev flow_064_book : Book
flow_064_book = (record { line = 1; pattern = ((codes "all") ∷ []); gathering = None; vars = (no_parts); is_linear = true; serial = ([]); pre_tasks = (no_steps); tasks = (task_step (record { line = 2; work = (module_work (codes "command") (part (codes "cmd") (literal (text (codes "x"))) (no_parts))); condition = (no_expressions); loop = (Some (list_of (expression (literal (int (pos 1))) (expression (literal (int (pos 2))) (no_expressions))))); register = (Some (codes "out")); vars = (no_parts); notify = ([]); changed_when = None; failed_when = None; attempts = None; ignore_errors = None }) (task_step (record { line = 3; work = (debug_work (part (codes "msg") (path (variable (codes "out")) ((codes "rc") ∷ [])) (no_parts))); condition = (no_expressions); loop = None; register = None; vars = (no_parts); notify = ([]); changed_when = None; failed_when = None; attempts = None; ignore_errors = None }) (no_steps))); post_tasks = (no_steps); handlers = ([]); forces = false } ∷ [])

abbrev flow_064_inventory : Inventory
flow_064_inventory = record { hosts = (record { name = (codes "h1"); variables = (no_fields) } ∷ []); groups = (record { name = (codes "all"); hosts = ((codes "h1") ∷ []) } ∷ record { name = (codes "ungrouped"); hosts = ((codes "h1") ∷ []) } ∷ []) }

abbrev flow_064_registry : Registry
flow_064_registry = (builtins ++ ([]))

flow_064 : judged flow_064_registry flow_064_inventory flow_064_book ≡ refused (record { code = 3; line = 3; host = (Some (codes "h1")) })
flow_064 = refl

-- flow_066: item in the loop itself
abbrev flow_066_book : Book
flow_066_book = (record { line = 1; pattern = ((codes "all") ∷ []); gathering = None; vars = (no_parts); is_linear = true; serial = ([]); pre_tasks = (no_steps); tasks = (task_step (record { line = 2; work = (module_work (codes "ping") (no_parts)); condition = (no_expressions); loop = (Some (list_of (expression (path (variable (codes "item")) ([])) (no_expressions)))); register = None; vars = (no_parts); notify = ([]); changed_when = None; failed_when = None; attempts = None; ignore_errors = None }) (no_steps)); post_tasks = (no_steps); handlers = ([]); forces = false } ∷ [])

abbrev flow_066_inventory : Inventory
flow_066_inventory = record { hosts = (record { name = (codes "h1"); variables = (no_fields) } ∷ []); groups = (record { name = (codes "all"); hosts = ((codes "h1") ∷ []) } ∷ record { name = (codes "ungrouped"); hosts = ((codes "h1") ∷ []) } ∷ []) }

abbrev flow_066_registry : Registry
flow_066_registry = (builtins ++ ([]))

flow_066 : judged flow_066_registry flow_066_inventory flow_066_book ≡ refused (record { code = 1; line = 2; host = (Some (codes "h1")) })
flow_066 = refl
