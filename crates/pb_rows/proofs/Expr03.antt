-- Cases of expr, computed.
use Rattle.std.specs.Prelude.{◌≡◌, refl, pos, [], ◌∷◌, ◌++◌, true, false, Some, None, codes}
use Rattle.pb_semantics.specs.Data.{null, boolean, int, text, no_fields, field}
use Rattle.pb_language.specs.Expression.{equal, literal, comparison, no_expressions, expression, no_parts, part}
use Rattle.pb_language.specs.Book.{module_work, no_steps, task_step, Book, Registry}
use Rattle.pb_language.specs.Builtins.{builtins}
use Rattle.pb_language.specs.Judged.{judged}
use Rattle.pb_language.specs.Program.{Inventory}
use Rattle.pb_language.specs.Verdict.{accepted, refused}

-- expr_172: when
abbrev expr_172_book : Book
expr_172_book = (record { line = 1; pattern = ((codes "all") ∷ []); gathering = None; vars = (no_parts); is_linear = true; serial = ([]); pre_tasks = (no_steps); tasks = (task_step (record { line = 2; work = (module_work (codes "command") (part (codes "cmd") (literal (text (codes "x"))) (no_parts))); condition = (no_expressions); loop = None; register = (Some (codes "out")); vars = (no_parts); notify = ([]); changed_when = None; failed_when = None; attempts = None; ignore_errors = None }) (task_step (record { line = 3; work = (module_work (codes "ping") (no_parts)); condition = (expression (literal (int (pos 1))) (no_expressions)); loop = None; register = None; vars = (no_parts); notify = ([]); changed_when = None; failed_when = None; attempts = None; ignore_errors = None }) (no_steps))); post_tasks = (no_steps); handlers = ([]); forces = false } ∷ [])

abbrev expr_172_inventory : Inventory
expr_172_inventory = record { hosts = (record { name = (codes "h1"); variables = (field (codes "inv") (int (pos 3)) (no_fields)) } ∷ []); groups = (record { name = (codes "all"); hosts = ((codes "h1") ∷ []) } ∷ record { name = (codes "ungrouped"); hosts = ((codes "h1") ∷ []) } ∷ []) }

abbrev expr_172_registry : Registry
expr_172_registry = (builtins ++ ([]))

expr_172 : judged expr_172_registry expr_172_inventory expr_172_book ≡ refused (record { code = 4; line = 3; host = (Some (codes "h1")) })
expr_172 = refl

-- expr_177: when
abbrev expr_177_book : Book
expr_177_book = (record { line = 1; pattern = ((codes "all") ∷ []); gathering = None; vars = (no_parts); is_linear = true; serial = ([]); pre_tasks = (no_steps); tasks = (task_step (record { line = 2; work = (module_work (codes "command") (part (codes "cmd") (literal (text (codes "x"))) (no_parts))); condition = (no_expressions); loop = None; register = (Some (codes "out")); vars = (no_parts); notify = ([]); changed_when = None; failed_when = None; attempts = None; ignore_errors = None }) (task_step (record { line = 3; work = (module_work (codes "ping") (no_parts)); condition = (expression (comparison equal (literal (boolean true)) (literal (int (pos 1)))) (no_expressions)); loop = None; register = None; vars = (no_parts); notify = ([]); changed_when = None; failed_when = None; attempts = None; ignore_errors = None }) (no_steps))); post_tasks = (no_steps); handlers = ([]); forces = false } ∷ [])

abbrev expr_177_inventory : Inventory
expr_177_inventory = record { hosts = (record { name = (codes "h1"); variables = (field (codes "inv") (int (pos 3)) (no_fields)) } ∷ []); groups = (record { name = (codes "all"); hosts = ((codes "h1") ∷ []) } ∷ record { name = (codes "ungrouped"); hosts = ((codes "h1") ∷ []) } ∷ []) }

abbrev expr_177_registry : Registry
expr_177_registry = (builtins ++ ([]))

expr_177 : judged expr_177_registry expr_177_inventory expr_177_book ≡ accepted 2
expr_177 = refl

-- expr_179: when
abbrev expr_179_book : Book
expr_179_book = (record { line = 1; pattern = ((codes "all") ∷ []); gathering = None; vars = (no_parts); is_linear = true; serial = ([]); pre_tasks = (no_steps); tasks = (task_step (record { line = 2; work = (module_work (codes "command") (part (codes "cmd") (literal (text (codes "x"))) (no_parts))); condition = (no_expressions); loop = None; register = (Some (codes "out")); vars = (no_parts); notify = ([]); changed_when = None; failed_when = None; attempts = None; ignore_errors = None }) (task_step (record { line = 3; work = (module_work (codes "ping") (no_parts)); condition = (expression (comparison equal (literal null) (literal null)) (no_expressions)); loop = None; register = None; vars = (no_parts); notify = ([]); changed_when = None; failed_when = None; attempts = None; ignore_errors = None }) (no_steps))); post_tasks = (no_steps); handlers = ([]); forces = false } ∷ [])

abbrev expr_179_inventory : Inventory
expr_179_inventory = record { hosts = (record { name = (codes "h1"); variables = (field (codes "inv") (int (pos 3)) (no_fields)) } ∷ []); groups = (record { name = (codes "all"); hosts = ((codes "h1") ∷ []) } ∷ record { name = (codes "ungrouped"); hosts = ((codes "h1") ∷ []) } ∷ []) }

abbrev expr_179_registry : Registry
expr_179_registry = (builtins ++ ([]))

expr_179 : judged expr_179_registry expr_179_inventory expr_179_book ≡ accepted 2
expr_179 = refl

-- expr_190: when
abbrev expr_190_book : Book
expr_190_book = (record { line = 1; pattern = ((codes "all") ∷ []); gathering = None; vars = (no_parts); is_linear = true; serial = ([]); pre_tasks = (no_steps); tasks = (task_step (record { line = 2; work = (module_work (codes "command") (part (codes "cmd") (literal (text (codes "x"))) (no_parts))); condition = (no_expressions); loop = None; register = (Some (codes "out")); vars = (no_parts); notify = ([]); changed_when = None; failed_when = None; attempts = None; ignore_errors = None }) (task_step (record { line = 3; work = (module_work (codes "ping") (no_parts)); condition = (expression (comparison equal (literal (int (pos 1))) (literal (int (pos 1)))) (no_expressions)); loop = None; register = None; vars = (no_parts); notify = ([]); changed_when = None; failed_when = None; attempts = None; ignore_errors = None }) (no_steps))); post_tasks = (no_steps); handlers = ([]); forces = false } ∷ [])

abbrev expr_190_inventory : Inventory
expr_190_inventory = record { hosts = (record { name = (codes "h1"); variables = (field (codes "inv") (int (pos 3)) (no_fields)) } ∷ []); groups = (record { name = (codes "all"); hosts = ((codes "h1") ∷ []) } ∷ record { name = (codes "ungrouped"); hosts = ((codes "h1") ∷ []) } ∷ []) }

abbrev expr_190_registry : Registry
expr_190_registry = (builtins ++ ([]))

expr_190 : judged expr_190_registry expr_190_inventory expr_190_book ≡ accepted 2
expr_190 = refl

-- expr_194: when
abbrev expr_194_book : Book
expr_194_book = (record { line = 1; pattern = ((codes "all") ∷ []); gathering = None; vars = (no_parts); is_linear = true; serial = ([]); pre_tasks = (no_steps); tasks = (task_step (record { line = 2; work = (module_work (codes "command") (part (codes "cmd") (literal (text (codes "x"))) (no_parts))); condition = (no_expressions); loop = None; register = (Some (codes "out")); vars = (no_parts); notify = ([]); changed_when = None; failed_when = None; attempts = None; ignore_errors = None }) (task_step (record { line = 3; work = (module_work (codes "ping") (no_parts)); condition = (expression (comparison equal (literal (text (97 ∷ 10 ∷ 98 ∷ []))) (literal (text (codes "x")))) (no_expressions)); loop = None; register = None; vars = (no_parts); notify = ([]); changed_when = None; failed_when = None; attempts = None; ignore_errors = None }) (no_steps))); post_tasks = (no_steps); handlers = ([]); forces = false } ∷ [])

abbrev expr_194_inventory : Inventory
expr_194_inventory = record { hosts = (record { name = (codes "h1"); variables = (field (codes "inv") (int (pos 3)) (no_fields)) } ∷ []); groups = (record { name = (codes "all"); hosts = ((codes "h1") ∷ []) } ∷ record { name = (codes "ungrouped"); hosts = ((codes "h1") ∷ []) } ∷ []) }

abbrev expr_194_registry : Registry
expr_194_registry = (builtins ++ ([]))

expr_194 : judged expr_194_registry expr_194_inventory expr_194_book ≡ accepted 2
expr_194 = refl
