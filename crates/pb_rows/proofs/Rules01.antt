-- Cases of rules, computed.
use Rattle.std.specs.Prelude.{◌≡◌, refl, pos, [], ◌∷◌, ◌++◌, true, false, Some, None, codes}
use Rattle.pb_semantics.specs.Data.{boolean, int, text, no_fields}
use Rattle.pb_language.specs.Expression.{literal, path, variable, no_expressions, expression, no_parts, part}
use Rattle.pb_language.specs.Book.{not_well_formed, conditions_are, module_work, set_fact_work, assert_work, no_steps, task_step, Book, Registry}
use Rattle.pb_language.specs.Builtins.{builtins}
use Rattle.pb_language.specs.Judged.{judged}
use Rattle.pb_language.specs.Program.{Inventory}
use Rattle.pb_language.specs.Verdict.{refused}

-- rules_003: V07 command with an empty object
abbrev rules_003_book : Book
rules_003_book = (record { line = 1; pattern = ((codes "all") ∷ []); gathering = None; vars = (no_parts); is_linear = true; serial = ([]); pre_tasks = (no_steps); tasks = (task_step (record { line = 2; work = (module_work (codes "command") (no_parts)); condition = (no_expressions); loop = None; register = None; vars = (no_parts); notify = ([]); changed_when = None; failed_when = None; attempts = None; ignore_errors = None }) (no_steps)); post_tasks = (no_steps); handlers = ([]); forces = false } ∷ [])

abbrev rules_003_inventory : Inventory
rules_003_inventory = record { hosts = (record { name = (codes "h1"); variables = (no_fields) } ∷ []); groups = (record { name = (codes "all"); hosts = ((codes "h1") ∷ []) } ∷ record { name = (codes "ungrouped"); hosts = ((codes "h1") ∷ []) } ∷ []) }

abbrev rules_003_registry : Registry
rules_003_registry = (builtins ++ ([]))

rules_003 : judged rules_003_registry rules_003_inventory rules_003_book ≡ refused (record { code = 7; line = 2; host = None })
rules_003 = refl

-- rules_008: V07 set_fact null
abbrev rules_008_book : Book
rules_008_book = (record { line = 1; pattern = ((codes "all") ∷ []); gathering = None; vars = (no_parts); is_linear = true; serial = ([]); pre_tasks = (no_steps); tasks = (task_step (record { line = 2; work = (set_fact_work (no_parts)); condition = (no_expressions); loop = None; register = None; vars = (no_parts); notify = ([]); changed_when = None; failed_when = None; attempts = None; ignore_errors = None }) (no_steps)); post_tasks = (no_steps); handlers = ([]); forces = false } ∷ [])

abbrev rules_008_inventory : Inventory
rules_008_inventory = record { hosts = (record { name = (codes "h1"); variables = (no_fields) } ∷ []); groups = (record { name = (codes "all"); hosts = ((codes "h1") ∷ []) } ∷ record { name = (codes "ungrouped"); hosts = ((codes "h1") ∷ []) } ∷ []) }

abbrev rules_008_registry : Registry
rules_008_registry = (builtins ++ ([]))

rules_008 : judged rules_008_registry rules_008_inventory rules_008_book ≡ refused (record { code = 7; line = 2; host = None })
rules_008 = refl

-- rules_010: V07 set_fact of no variable name
abbrev rules_010_book : Book
rules_010_book = (record { line = 1; pattern = ((codes "all") ∷ []); gathering = None; vars = (no_parts); is_linear = true; serial = ([]); pre_tasks = (no_steps); tasks = (task_step (record { line = 2; work = (set_fact_work (part (codes "a-b") (literal (int (pos 1))) (no_parts))); condition = (no_expressions); loop = None; register = None; vars = (no_parts); notify = ([]); changed_when = None; failed_when = None; attempts = None; ignore_errors = None }) (no_steps)); post_tasks = (no_steps); handlers = ([]); forces = false } ∷ [])

abbrev rules_010_inventory : Inventory
rules_010_inventory = record { hosts = (record { name = (codes "h1"); variables = (no_fields) } ∷ []); groups = (record { name = (codes "all"); hosts = ((codes "h1") ∷ []) } ∷ record { name = (codes "ungrouped"); hosts = ((codes "h1") ∷ []) } ∷ []) }

abbrev rules_010_registry : Registry
rules_010_registry = (builtins ++ ([]))

rules_010 : judged rules_010_registry rules_010_inventory rules_010_book ≡ refused (record { code = 7; line = 2; host = None })
rules_010 = refl

-- rules_014: V07 assert that a list with a number
abbrev rules_014_book : Book
rules_014_book = (record { line = 1; pattern = ((codes "all") ∷ []); gathering = None; vars = (no_parts); is_linear = true; serial = ([]); pre_tasks = (no_steps); tasks = (task_step (record { line = 2; work = (assert_work not_well_formed (no_parts)); condition = (no_expressions); loop = None; register = None; vars = (no_parts); notify = ([]); changed_when = None; failed_when = None; attempts = None; ignore_errors = None }) (no_steps)); post_tasks = (no_steps); handlers = ([]); forces = false } ∷ [])

abbrev rules_014_inventory : Inventory
rules_014_inventory = record { hosts = (record { name = (codes "h1"); variables = (no_fields) } ∷ []); groups = (record { name = (codes "all"); hosts = ((codes "h1") ∷ []) } ∷ record { name = (codes "ungrouped"); hosts = ((codes "h1") ∷ []) } ∷ []) }

abbrev rules_014_registry : Registry
rules_014_registry = (builtins ++ ([]))

rules_014 : judged rules_014_registry rules_014_inventory rules_014_book ≡ refused (record { code = 7; line = 2; host = None })
rules_014 = refl

-- rules_018: assert that null
abbrev rules_018_book : Book
rules_018_book = (record { line = 1; pattern = ((codes "all") ∷ []); gathering = None; vars = (no_parts); is_linear = true; serial = ([]); pre_tasks = (no_steps); tasks = (task_step (record { line = 2; work = (assert_work not_well_formed (no_parts)); condition = (no_expressions); loop = None; register = None; vars = (no_parts); notify = ([]); changed_when = None; failed_when = None; attempts = None; ignore_errors = None }) (no_steps)); post_tasks = (no_steps); handlers = ([]); forces = false } ∷ [])

abbrev rules_018_inventory : Inventory
rules_018_inventory = record { hosts = (record { name = (codes "h1"); variables = (no_fields) } ∷ []); groups = (record { name = (codes "all"); hosts = ((codes "h1") ∷ []) } ∷ record { name = (codes "ungrouped"); hosts = ((codes "h1") ∷ []) } ∷ []) }

abbrev rules_018_registry : Registry
rules_018_registry = (builtins ++ ([]))

rules_018 : judged rules_018_registry rules_018_inventory rules_018_book ≡ refused (record { code = 7; line = 2; host = None })
rules_018 = refl

-- rules_020: V04 fail_msg a number
abbrev rules_020_book : Book
rules_020_book = (record { line = 1; pattern = ((codes "all") ∷ []); gathering = None; vars = (no_parts); is_linear = true; serial = ([]); pre_tasks = (no_steps); tasks = (task_step (record { line = 2; work = (assert_work (conditions_are (expression (literal (boolean true)) (no_expressions))) (part (codes "fail_msg") (literal (int (pos 1))) (no_parts))); condition = (no_expressions); loop = None; register = None; vars = (no_parts); notify = ([]); changed_when = None; failed_when = None; attempts = None; ignore_errors = None }) (no_steps)); post_tasks = (no_steps); handlers = ([]); forces = false } ∷ [])

abbrev rules_020_inventory : Inventory
rules_020_inventory = record { hosts = (record { name = (codes "h1"); variables = (no_fields) } ∷ []); groups = (record { name = (codes "all"); hosts = ((codes "h1") ∷ []) } ∷ record { name = (codes "ungrouped"); hosts = ((codes "h1") ∷ []) } ∷ []) }

abbrev rules_020_registry : Registry
rules_020_registry = (builtins ++ ([]))

rules_020 : judged rules_020_registry rules_020_inventory rules_020_book ≡ refused (record { code = 4; line = 2; host = (Some (codes "h1")) })
rules_020 = refl

-- rules_023: V04 an int for a text
abbrev rules_023_book : Book
rules_023_book = (record { line = 1; pattern = ((codes "all") ∷ []); gathering = None; vars = (no_parts); is_linear = true; serial = ([]); pre_tasks = (no_steps); tasks = (task_step (record { line = 2; work = (module_work (codes "copy") (part (codes "dest") (literal (text (codes "x"))) (part (codes "mode") (literal (int (pos 644))) (no_parts)))); condition = (no_expressions); loop = None; register = None; vars = (no_parts); notify = ([]); changed_when = None; failed_when = None; attempts = None; ignore_errors = None }) (no_steps)); post_tasks = (no_steps); handlers = ([]); forces = false } ∷ [])

abbrev rules_023_inventory : Inventory
rules_023_inventory = record { hosts = (record { name = (codes "h1"); variables = (no_fields) } ∷ []); groups = (record { name = (codes "all"); hosts = ((codes "h1") ∷ []) } ∷ record { name = (codes "ungrouped"); hosts = ((codes "h1") ∷ []) } ∷ []) }

abbrev rules_023_registry : Registry
rules_023_registry = (builtins ++ ([]))

rules_023 : judged rules_023_registry rules_023_inventory rules_023_book ≡ refused (record { code = 4; line = 2; host = (Some (codes "h1")) })
rules_023 = refl

-- rules_026: V01 by the order of names
abbrev rules_026_book : Book
rules_026_book = (record { line = 1; pattern = ((codes "all") ∷ []); gathering = None; vars = (no_parts); is_linear = true; serial = ([]); pre_tasks = (no_steps); tasks = (task_step (record { line = 2; work = (module_work (codes "copy") (part (codes "content") (path (variable (codes "zz")) ([])) (part (codes "dest") (literal (int (pos 1))) (no_parts)))); condition = (no_expressions); loop = None; register = None; vars = (no_parts); notify = ([]); changed_when = None; failed_when = None; attempts = None; ignore_errors = None }) (no_steps)); post_tasks = (no_steps); handlers = ([]); forces = false } ∷ [])

abbrev rules_026_inventory : Inventory
rules_026_inventory = record { hosts = (record { name = (codes "h1"); variables = (no_fields) } ∷ []); groups = (record { name = (codes "all"); hosts = ((codes "h1") ∷ []) } ∷ record { name = (codes "ungrouped"); hosts = ((codes "h1") ∷ []) } ∷ []) }

abbrev rules_026_registry : Registry
rules_026_registry = (builtins ++ ([]))

rules_026 : judged rules_026_registry rules_026_inventory rules_026_book ≡ refused (record { code = 1; line = 2; host = (Some (codes "h1")) })
rules_026 = refl

-- rules_059: register and
abbrev rules_059_book : Book
rules_059_book = (record { line = 1; pattern = ((codes "all") ∷ []); gathering = None; vars = (no_parts); is_linear = true; serial = ([]); pre_tasks = (no_steps); tasks = (task_step (record { line = 2; work = (module_work (codes "ping") (no_parts)); condition = (no_expressions); loop = None; register = (Some (codes "and")); vars = (no_parts); notify = ([]); changed_when = None; failed_when = None; attempts = None; ignore_errors = None }) (no_steps)); post_tasks = (no_steps); handlers = ([]); forces = false } ∷ [])

abbrev rules_059_inventory : Inventory
rules_059_inventory = record { hosts = (record { name = (codes "h1"); variables = (no_fields) } ∷ []); groups = (record { name = (codes "all"); hosts = ((codes "h1") ∷ []) } ∷ record { name = (codes "ungrouped"); hosts = ((codes "h1") ∷ []) } ∷ []) }

abbrev rules_059_registry : Registry
rules_059_registry = (builtins ++ ([]))

rules_059 : judged rules_059_registry rules_059_inventory rules_059_book ≡ refused (record { code = 8; line = 2; host = None })
rules_059 = refl

-- rules_062: register none
abbrev rules_062_book : Book
rules_062_book = (record { line = 1; pattern = ((codes "all") ∷ []); gathering = None; vars = (no_parts); is_linear = true; serial = ([]); pre_tasks = (no_steps); tasks = (task_step (record { line = 2; work = (module_work (codes "ping") (no_parts)); condition = (no_expressions); loop = None; register = (Some (codes "none")); vars = (no_parts); notify = ([]); changed_when = None; failed_when = None; attempts = None; ignore_errors = None }) (no_steps)); post_tasks = (no_steps); handlers = ([]); forces = false } ∷ [])

abbrev rules_062_inventory : Inventory
rules_062_inventory = record { hosts = (record { name = (codes "h1"); variables = (no_fields) } ∷ []); groups = (record { name = (codes "all"); hosts = ((codes "h1") ∷ []) } ∷ record { name = (codes "ungrouped"); hosts = ((codes "h1") ∷ []) } ∷ []) }

abbrev rules_062_registry : Registry
rules_062_registry = (builtins ++ ([]))

rules_062 : judged rules_062_registry rules_062_inventory rules_062_book ≡ refused (record { code = 8; line = 2; host = None })
rules_062 = refl

-- rules_065: register None
abbrev rules_065_book : Book
rules_065_book = (record { line = 1; pattern = ((codes "all") ∷ []); gathering = None; vars = (no_parts); is_linear = true; serial = ([]); pre_tasks = (no_steps); tasks = (task_step (record { line = 2; work = (module_work (codes "ping") (no_parts)); condition = (no_expressions); loop = None; register = (Some (codes "None")); vars = (no_parts); notify = ([]); changed_when = None; failed_when = None; attempts = None; ignore_errors = None }) (no_steps)); post_tasks = (no_steps); handlers = ([]); forces = false } ∷ [])

abbrev rules_065_inventory : Inventory
rules_065_inventory = record { hosts = (record { name = (codes "h1"); variables = (no_fields) } ∷ []); groups = (record { name = (codes "all"); hosts = ((codes "h1") ∷ []) } ∷ record { name = (codes "ungrouped"); hosts = ((codes "h1") ∷ []) } ∷ []) }

abbrev rules_065_registry : Registry
rules_065_registry = (builtins ++ ([]))

rules_065 : judged rules_065_registry rules_065_inventory rules_065_book ≡ refused (record { code = 8; line = 2; host = None })
rules_065 = refl

-- rules_071: register else
abbrev rules_071_book : Book
rules_071_book = (record { line = 1; pattern = ((codes "all") ∷ []); gathering = None; vars = (no_parts); is_linear = true; serial = ([]); pre_tasks = (no_steps); tasks = (task_step (record { line = 2; work = (module_work (codes "ping") (no_parts)); condition = (no_expressions); loop = None; register = (Some (codes "else")); vars = (no_parts); notify = ([]); changed_when = None; failed_when = None; attempts = None; ignore_errors = None }) (no_steps)); post_tasks = (no_steps); handlers = ([]); forces = false } ∷ [])

abbrev rules_071_inventory : Inventory
rules_071_inventory = record { hosts = (record { name = (codes "h1"); variables = (no_fields) } ∷ []); groups = (record { name = (codes "all"); hosts = ((codes "h1") ∷ []) } ∷ record { name = (codes "ungrouped"); hosts = ((codes "h1") ∷ []) } ∷ []) }

abbrev rules_071_registry : Registry
rules_071_registry = (builtins ++ ([]))

rules_071 : judged rules_071_registry rules_071_inventory rules_071_book ≡ refused (record { code = 8; line = 2; host = None })
rules_071 = refl
