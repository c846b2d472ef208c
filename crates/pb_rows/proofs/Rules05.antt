-- Cases of rules, computed.
use Rattle.std.specs.Prelude.{◌≡◌, refl, pos, [], ◌∷◌, ◌++◌, true, false, Some, None, codes}
use Rattle.pb_semantics.specs.Data.{int, text, no_fields}
use Rattle.pb_language.specs.Expression.{named_host, literal, path, hostvars_alone, value_or, variable, no_expressions, expression, no_parts, part}
use Rattle.pb_language.specs.Book.{module_work, debug_work, no_steps, task_step, block_step, Book, Registry}
use Rattle.pb_language.specs.Builtins.{builtins}
use Rattle.pb_language.specs.Judged.{judged}
use Rattle.pb_language.specs.Program.{Inventory}
use Rattle.pb_language.specs.Verdict.{refused}

-- rules_177: order: when before arguments
abbrev rules_177_book : Book
rules_177_book = (record { line = 1; pattern = ((codes "all") ∷ []); gathering = None; vars = (no_parts); is_linear = true; serial = ([]); pre_tasks = (no_steps); tasks = (task_step (record { line = 2; work = (debug_work (part (codes "msg") (path (variable (codes "zz")) ([])) (no_parts))); condition = (expression (literal (int (pos 1))) (no_expressions)); loop = None; register = None; vars = (no_parts); notify = ([]); changed_when = None; failed_when = None; attempts = None; ignore_errors = None }) (no_steps)); post_tasks = (no_steps); handlers = ([]); forces = false } ∷ [])

abbrev rules_177_inventory : Inventory
rules_177_inventory = record { hosts = (record { name = (codes "h1"); variables = (no_fields) } ∷ []); groups = (record { name = (codes "all"); hosts = ((codes "h1") ∷ []) } ∷ record { name = (codes "ungrouped"); hosts = ((codes "h1") ∷ []) } ∷ []) }

abbrev rules_177_registry : Registry
rules_177_registry = (builtins ++ ([]))

rules_177 : judged rules_177_registry rules_177_inventory rules_177_book ≡ refused (record { code = 4; line = 2; host = (Some (codes "h1")) })
rules_177 = refl

-- rules_179: order: failed_when before until
abbrev rules_179_book : Book
rules_179_book = (record { line = 1; pattern = ((codes "all") ∷ []); gathering = None; vars = (no_parts); is_linear = true; serial = ([]); pre_tasks = (no_steps); tasks = (task_step (record { line = 2; work = (module_work (codes "command") (part (codes "cmd") (literal (text (codes "x"))) (no_parts))); condition = (no_expressions); loop = None; register = (Some (codes "out")); vars = (no_parts); notify = ([]); changed_when = None; failed_when = (Some (expression (literal (int (pos 1))) (no_expressions))); attempts = (Some (record { until = (expression (path (variable (codes "zz")) ([])) (no_expressions)); retries = 3 })); ignore_errors = None }) (no_steps)); post_tasks = (no_steps); handlers = ([]); forces = false } ∷ [])

abbrev rules_179_inventory : Inventory
rules_179_inventory = record { hosts = (record { name = (codes "h1"); variables = (no_fields) } ∷ []); groups = (record { name = (codes "all"); hosts = ((codes "h1") ∷ []) } ∷ record { name = (codes "ungrouped"); hosts = ((codes "h1") ∷ []) } ∷ []) }

abbrev rules_179_registry : Registry
rules_179_registry = (builtins ++ ([]))

rules_179 : judged rules_179_registry rules_179_inventory rules_179_book ≡ refused (record { code = 4; line = 2; host = (Some (codes "h1")) })
rules_179 = refl

-- rules_180: order: block's when before the task's
abbrev rules_180_book : Book
rules_180_book = (record { line = 1; pattern = ((codes "all") ∷ []); gathering = None; vars = (no_parts); is_linear = true; serial = ([]); pre_tasks = (no_steps); tasks = (block_step (record { line = 2; condition = (expression (path (variable (codes "zz")) ([])) (no_expressions)); vars = (no_parts); ignore_errors = None }) (task_step (record { line = 3; work = (module_work (codes "ping") (no_parts)); condition = (expression (literal (int (pos 1))) (no_expressions)); loop = None; register = None; vars = (no_parts); notify = ([]); changed_when = None; failed_when = None; attempts = None; ignore_errors = None }) (no_steps)) (no_steps) (no_steps) (no_steps)); post_tasks = (no_steps); handlers = ([]); forces = false } ∷ [])

abbrev rules_180_inventory : Inventory
rules_180_inventory = record { hosts = (record { name = (codes "h1"); variables = (no_fields) } ∷ []); groups = (record { name = (codes "all"); hosts = ((codes "h1") ∷ []) } ∷ record { name = (codes "ungrouped"); hosts = ((codes "h1") ∷ []) } ∷ []) }

abbrev rules_180_registry : Registry
rules_180_registry = (builtins ++ ([]))

rules_180 : judged rules_180_registry rules_180_inventory rules_180_book ≡ refused (record { code = 1; line = 3; host = (Some (codes "h1")) })
rules_180 = refl

-- rules_183: hostvars['h1'] alone
abbrev rules_183_book : Book
rules_183_book = (record { line = 1; pattern = ((codes "all") ∷ []); gathering = None; vars = (no_parts); is_linear = true; serial = ([]); pre_tasks = (no_steps); tasks = (task_step (record { line = 2; work = (debug_work (part (codes "msg") (hostvars_alone (Some (named_host (codes "h1")))) (no_parts))); condition = (no_expressions); loop = None; register = None; vars = (no_parts); notify = ([]); changed_when = None; failed_when = None; attempts = None; ignore_errors = None }) (no_steps)); post_tasks = (no_steps); handlers = ([]); forces = false } ∷ [])

abbrev rules_183_inventory : Inventory
rules_183_inventory = record { hosts = (record { name = (codes "h1"); variables = (no_fields) } ∷ []); groups = (record { name = (codes "all"); hosts = ((codes "h1") ∷ []) } ∷ record { name = (codes "ungrouped"); hosts = ((codes "h1") ∷ []) } ∷ []) }

abbrev rules_183_registry : Registry
rules_183_registry = (builtins ++ ([]))

rules_183 : judged rules_183_registry rules_183_inventory rules_183_book ≡ refused (record { code = 4; line = 2; host = (Some (codes "h1")) })
rules_183 = refl

-- rules_193: default on what isn't a path
abbrev rules_193_book : Book
rules_193_book = (record { line = 1; pattern = ((codes "all") ∷ []); gathering = None; vars = (no_parts); is_linear = true; serial = ([]); pre_tasks = (no_steps); tasks = (task_step (record { line = 2; work = (debug_work (part (codes "msg") (value_or (literal (int (pos 1))) (path (variable (codes "zz")) ([]))) (no_parts))); condition = (no_expressions); loop = None; register = None; vars = (no_parts); notify = ([]); changed_when = None; failed_when = None; attempts = None; ignore_errors = None }) (no_steps)); post_tasks = (no_steps); handlers = ([]); forces = false } ∷ [])

abbrev rules_193_inventory : Inventory
rules_193_inventory = record { hosts = (record { name = (codes "h1"); variables = (no_fields) } ∷ []); groups = (record { name = (codes "all"); hosts = ((codes "h1") ∷ []) } ∷ record { name = (codes "ungrouped"); hosts = ((codes "h1") ∷ []) } ∷ []) }

abbrev rules_193_registry : Registry
rules_193_registry = (builtins ++ ([]))

rules_193 : judged rules_193_registry rules_193_inventory rules_193_book ≡ refused (record { code = 1; line = 2; host = (Some (codes "h1")) })
rules_193 = refl
