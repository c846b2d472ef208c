-- Cases of book, computed.
use Rattle.std.specs.Prelude.{◌≡◌, refl, [], ◌∷◌, ◌++◌, true, false, Some, None, codes}
use Rattle.pb_semantics.specs.Data.{boolean, text, no_fields}
use Rattle.pb_language.specs.Expression.{literal, no_expressions, expression, no_parts, part}
use Rattle.pb_language.specs.Book.{module_work, debug_work, no_steps, task_step, host_count, percentage, Book, Registry}
use Rattle.pb_language.specs.Builtins.{builtins}
use Rattle.pb_language.specs.Judged.{judged}
use Rattle.pb_language.specs.Program.{Inventory}
use Rattle.pb_language.specs.Verdict.{accepted, refused}

-- book_005: hosts an empty list
abbrev book_005_book : Book
book_005_book = (record { line = 1; pattern = ([]); gathering = None; vars = (no_parts); is_linear = true; serial = ([]); pre_tasks = (no_steps); tasks = (no_steps); post_tasks = (no_steps); handlers = ([]); forces = false } ∷ [])

abbrev book_005_inventory : Inventory
book_005_inventory = record { hosts = (record { name = (codes "h1"); variables = (no_fields) } ∷ []); groups = (record { name = (codes "all"); hosts = ((codes "h1") ∷ []) } ∷ record { name = (codes "ungrouped"); hosts = ((codes "h1") ∷ []) } ∷ []) }

abbrev book_005_registry : Registry
book_005_registry = (builtins ++ ([]))

book_005 : judged book_005_registry book_005_inventory book_005_book ≡ accepted 0
book_005 = refl

-- book_008: hosts a blank
abbrev book_008_book : Book
book_008_book = (record { line = 1; pattern = (([]) ∷ []); gathering = None; vars = (no_parts); is_linear = true; serial = ([]); pre_tasks = (no_steps); tasks = (no_steps); post_tasks = (no_steps); handlers = ([]); forces = false } ∷ [])

abbrev book_008_inventory : Inventory
book_008_inventory = record { hosts = (record { name = (codes "h1"); variables = (no_fields) } ∷ []); groups = (record { name = (codes "all"); hosts = ((codes "h1") ∷ []) } ∷ record { name = (codes "ungrouped"); hosts = ((codes "h1") ∷ []) } ∷ []) }

abbrev book_008_registry : Registry
book_008_registry = (builtins ++ ([]))

book_008 : judged book_008_registry book_008_inventory book_008_book ≡ refused (record { code = 6; line = 1; host = None })
book_008 = refl

-- book_014: play name a template is fine
abbrev book_014_book : Book
book_014_book = (record { line = 1; pattern = ((codes "all") ∷ []); gathering = None; vars = (no_parts); is_linear = true; serial = ([]); pre_tasks = (no_steps); tasks = (no_steps); post_tasks = (no_steps); handlers = ([]); forces = false } ∷ [])

abbrev book_014_inventory : Inventory
book_014_inventory = record { hosts = (record { name = (codes "h1"); variables = (no_fields) } ∷ []); groups = (record { name = (codes "all"); hosts = ((codes "h1") ∷ []) } ∷ record { name = (codes "ungrouped"); hosts = ((codes "h1") ∷ []) } ∷ []) }

abbrev book_014_registry : Registry
book_014_registry = (builtins ++ ([]))

book_014 : judged book_014_registry book_014_inventory book_014_book ≡ accepted 0
book_014 = refl

-- book_029: force_handlers true
abbrev book_029_book : Book
book_029_book = (record { line = 1; pattern = ((codes "all") ∷ []); gathering = None; vars = (no_parts); is_linear = true; serial = ([]); pre_tasks = (no_steps); tasks = (no_steps); post_tasks = (no_steps); handlers = ([]); forces = true } ∷ [])

abbrev book_029_inventory : Inventory
book_029_inventory = record { hosts = (record { name = (codes "h1"); variables = (no_fields) } ∷ []); groups = (record { name = (codes "all"); hosts = ((codes "h1") ∷ []) } ∷ record { name = (codes "ungrouped"); hosts = ((codes "h1") ∷ []) } ∷ []) }

abbrev book_029_registry : Registry
book_029_registry = (builtins ++ ([]))

book_029 : judged book_029_registry book_029_inventory book_029_book ≡ accepted 0
book_029 = refl

-- book_043: serial "1%"
abbrev book_043_book : Book
book_043_book = (record { line = 1; pattern = ((codes "all") ∷ []); gathering = None; vars = (no_parts); is_linear = true; serial = (percentage 1 ∷ []); pre_tasks = (no_steps); tasks = (no_steps); post_tasks = (no_steps); handlers = ([]); forces = false } ∷ [])

abbrev book_043_inventory : Inventory
book_043_inventory = record { hosts = (record { name = (codes "h1"); variables = (no_fields) } ∷ []); groups = (record { name = (codes "all"); hosts = ((codes "h1") ∷ []) } ∷ record { name = (codes "ungrouped"); hosts = ((codes "h1") ∷ []) } ∷ []) }

abbrev book_043_registry : Registry
book_043_registry = (builtins ++ ([]))

book_043 : judged book_043_registry book_043_inventory book_043_book ≡ accepted 0
book_043 = refl

-- book_044: serial "100%"
abbrev book_044_book : Book
book_044_book = (record { line = 1; pattern = ((codes "all") ∷ []); gathering = None; vars = (no_parts); is_linear = true; serial = (percentage 100 ∷ []); pre_tasks = (no_steps); tasks = (no_steps); post_tasks = (no_steps); handlers = ([]); forces = false } ∷ [])

abbrev book_044_inventory : Inventory
book_044_inventory = record { hosts = (record { name = (codes "h1"); variables = (no_fields) } ∷ []); groups = (record { name = (codes "all"); hosts = ((codes "h1") ∷ []) } ∷ record { name = (codes "ungrouped"); hosts = ((codes "h1") ∷ []) } ∷ []) }

abbrev book_044_registry : Registry
book_044_registry = (builtins ++ ([]))

book_044 : judged book_044_registry book_044_inventory book_044_book ≡ accepted 0
book_044 = refl

-- book_056: serial ["5%", 2]
abbrev book_056_book : Book
book_056_book = (record { line = 1; pattern = ((codes "all") ∷ []); gathering = None; vars = (no_parts); is_linear = true; serial = (percentage 5 ∷ host_count 2 ∷ []); pre_tasks = (no_steps); tasks = (no_steps); post_tasks = (no_steps); handlers = ([]); forces = false } ∷ [])

abbrev book_056_inventory : Inventory
book_056_inventory = record { hosts = (record { name = (codes "h1"); variables = (no_fields) } ∷ []); groups = (record { name = (codes "all"); hosts = ((codes "h1") ∷ []) } ∷ record { name = (codes "ungrouped"); hosts = ((codes "h1") ∷ []) } ∷ []) }

abbrev book_056_registry : Registry
book_056_registry = (builtins ++ ([]))

book_056 : judged book_056_registry book_056_inventory book_056_book ≡ accepted 0
book_056 = refl

-- book_079: prefix on an action
abbrev book_079_book : Book
book_079_book = (record { line = 1; pattern = ((codes "all") ∷ []); gathering = None; vars = (no_parts); is_linear = true; serial = ([]); pre_tasks = (no_steps); tasks = (task_step (record { line = 2; work = (debug_work (part (codes "msg") (literal (text (codes "x"))) (no_parts))); condition = (no_expressions); loop = None; register = None; vars = (no_parts); notify = ([]); changed_when = None; failed_when = None; attempts = None; ignore_errors = None }) (no_steps)); post_tasks = (no_steps); handlers = ([]); forces = false } ∷ [])

abbrev book_079_inventory : Inventory
book_079_inventory = record { hosts = (record { name = (codes "h1"); variables = (no_fields) } ∷ []); groups = (record { name = (codes "all"); hosts = ((codes "h1") ∷ []) } ∷ record { name = (codes "ungrouped"); hosts = ((codes "h1") ∷ []) } ∷ []) }

abbrev book_079_registry : Registry
book_079_registry = (builtins ++ ([]))

book_079 : judged book_079_registry book_079_inventory book_079_book ≡ accepted 0
book_079 = refl

-- book_087: ping with an object
abbrev book_087_book : Book
book_087_book = (record { line = 1; pattern = ((codes "all") ∷ []); gathering = None; vars = (no_parts); is_linear = true; serial = ([]); pre_tasks = (no_steps); tasks = (task_step (record { line = 2; work = (module_work (codes "ping") (no_parts)); condition = (no_expressions); loop = None; register = None; vars = (no_parts); notify = ([]); changed_when = None; failed_when = None; attempts = None; ignore_errors = None }) (no_steps)); post_tasks = (no_steps); handlers = ([]); forces = false } ∷ [])

abbrev book_087_inventory : Inventory
book_087_inventory = record { hosts = (record { name = (codes "h1"); variables = (no_fields) } ∷ []); groups = (record { name = (codes "all"); hosts = ((codes "h1") ∷ []) } ∷ record { name = (codes "ungrouped"); hosts = ((codes "h1") ∷ []) } ∷ []) }

abbrev book_087_registry : Registry
book_087_registry = (builtins ++ ([]))

book_087 : judged book_087_registry book_087_inventory book_087_book ≡ accepted 1
book_087 = refl

-- book_089: command with null
abbrev book_089_book : Book
book_089_book = (record { line = 1; pattern = ((codes "all") ∷ []); gathering = None; vars = (no_parts); is_linear = true; serial = ([]); pre_tasks = (no_steps); tasks = (task_step (record { line = 2; work = (module_work (codes "command") (no_parts)); condition = (no_expressions); loop = None; register = None; vars = (no_parts); notify = ([]); changed_when = None; failed_when = None; attempts = None; ignore_errors = None }) (no_steps)); post_tasks = (no_steps); handlers = ([]); forces = false } ∷ [])

abbrev book_089_inventory : Inventory
book_089_inventory = record { hosts = (record { name = (codes "h1"); variables = (no_fields) } ∷ []); groups = (record { name = (codes "all"); hosts = ((codes "h1") ∷ []) } ∷ record { name = (codes "ungrouped"); hosts = ((codes "h1") ∷ []) } ∷ []) }

abbrev book_089_registry : Registry
book_089_registry = (builtins ++ ([]))

book_089 : judged book_089_registry book_089_inventory book_089_book ≡ refused (record { code = 7; line = 2; host = None })
book_089 = refl

-- book_128: failed_when true
abbrev book_128_book : Book
book_128_book = (record { line = 1; pattern = ((codes "all") ∷ []); gathering = None; vars = (no_parts); is_linear = true; serial = ([]); pre_tasks = (no_steps); tasks = (task_step (record { line = 2; work = (module_work (codes "ping") (no_parts)); condition = (no_expressions); loop = None; register = None; vars = (no_parts); notify = ([]); changed_when = None; failed_when = (Some (expression (literal (boolean true)) (no_expressions))); attempts = None; ignore_errors = None }) (no_steps)); post_tasks = (no_steps); handlers = ([]); forces = false } ∷ [])

abbrev book_128_inventory : Inventory
book_128_inventory = record { hosts = (record { name = (codes "h1"); variables = (no_fields) } ∷ []); groups = (record { name = (codes "all"); hosts = ((codes "h1") ∷ []) } ∷ record { name = (codes "ungrouped"); hosts = ((codes "h1") ∷ []) } ∷ []) }

abbrev book_128_registry : Registry
book_128_registry = (builtins ++ ([]))

book_128 : judged book_128_registry book_128_inventory book_128_book ≡ accepted 1
book_128 = refl

-- book_135: notify an empty list
abbrev book_135_book : Book
book_135_book = (record { line = 1; pattern = ((codes "all") ∷ []); gathering = None; vars = (no_parts); is_linear = true; serial = ([]); pre_tasks = (no_steps); tasks = (task_step (record { line = 2; work = (module_work (codes "ping") (no_parts)); condition = (no_expressions); loop = None; register = None; vars = (no_parts); notify = ([]); changed_when = None; failed_when = None; attempts = None; ignore_errors = None }) (no_steps)); post_tasks = (no_steps); handlers = ([]); forces = false } ∷ [])

abbrev book_135_inventory : Inventory
book_135_inventory = record { hosts = (record { name = (codes "h1"); variables = (no_fields) } ∷ []); groups = (record { name = (codes "all"); hosts = ((codes "h1") ∷ []) } ∷ record { name = (codes "ungrouped"); hosts = ((codes "h1") ∷ []) } ∷ []) }

abbrev book_135_registry : Registry
book_135_registry = (builtins ++ ([]))

book_135 : judged book_135_registry book_135_inventory book_135_book ≡ accepted 1
book_135 = refl
