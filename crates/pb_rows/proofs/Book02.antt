-- Cases of book, computed.
use Rattle.std.specs.Prelude.{◌≡◌, refl, [], ◌∷◌, ◌++◌, true, false, Some, None, codes}
use Rattle.pb_semantics.specs.Data.{boolean, no_fields}
use Rattle.pb_language.specs.Expression.{literal, no_expressions, expression, no_parts}
use Rattle.pb_language.specs.Book.{module_work, no_steps, task_step, block_step, Book, Registry}
use Rattle.pb_language.specs.Builtins.{builtins}
use Rattle.pb_language.specs.Judged.{judged}
use Rattle.pb_language.specs.Program.{Inventory}
use Rattle.pb_language.specs.Verdict.{accepted, refused}

-- book_150: handler named { x
abbrev book_150_book : Book
book_150_book = (record { line = 1; pattern = ((codes "all") ∷ []); gathering = None; vars = (no_parts); is_linear = true; serial = ([]); pre_tasks = (no_steps); tasks = (no_steps); post_tasks = (no_steps); handlers = (record { work = (record { line = 2; work = (module_work (codes "ping") (no_parts)); condition = (no_expressions); loop = None; register = None; vars = (no_parts); notify = ([]); changed_when = None; failed_when = None; attempts = None; ignore_errors = None }); name = (Some (123 ∷ 32 ∷ 120 ∷ [])); topics = ([]) } ∷ []); forces = false } ∷ [])

abbrev book_150_inventory : Inventory
book_150_inventory = record { hosts = (record { name = (codes "h1"); variables = (no_fields) } ∷ []); groups = (record { name = (codes "all"); hosts = ((codes "h1") ∷ []) } ∷ record { name = (codes "ungrouped"); hosts = ((codes "h1") ∷ []) } ∷ []) }

abbrev book_150_registry : Registry
book_150_registry = (builtins ++ ([]))

book_150 : judged book_150_registry book_150_inventory book_150_book ≡ accepted 0
book_150 = refl

-- book_153: handler named }} x
abbrev book_153_book : Book
book_153_book = (record { line = 1; pattern = ((codes "all") ∷ []); gathering = None; vars = (no_parts); is_linear = true; serial = ([]); pre_tasks = (no_steps); tasks = (no_steps); post_tasks = (no_steps); handlers = (record { work = (record { line = 2; work = (module_work (codes "ping") (no_parts)); condition = (no_expressions); loop = None; register = None; vars = (no_parts); notify = ([]); changed_when = None; failed_when = None; attempts = None; ignore_errors = None }); name = (Some (125 ∷ 125 ∷ 32 ∷ 120 ∷ [])); topics = ([]) } ∷ []); forces = false } ∷ [])

abbrev book_153_inventory : Inventory
book_153_inventory = record { hosts = (record { name = (codes "h1"); variables = (no_fields) } ∷ []); groups = (record { name = (codes "all"); hosts = ((codes "h1") ∷ []) } ∷ record { name = (codes "ungrouped"); hosts = ((codes "h1") ∷ []) } ∷ []) }

abbrev book_153_registry : Registry
book_153_registry = (builtins ++ ([]))

book_153 : judged book_153_registry book_153_inventory book_153_book ≡ accepted 0
book_153 = refl

-- book_176: block empty
abbrev book_176_book : Book
book_176_book = (record { line = 1; pattern = ((codes "all") ∷ []); gathering = None; vars = (no_parts); is_linear = true; serial = ([]); pre_tasks = (no_steps); tasks = (block_step (record { line = 2; condition = (no_expressions); vars = (no_parts); ignore_errors = None }) (no_steps) (no_steps) (no_steps) (no_steps)); post_tasks = (no_steps); handlers = ([]); forces = false } ∷ [])

abbrev book_176_inventory : Inventory
book_176_inventory = record { hosts = (record { name = (codes "h1"); variables = (no_fields) } ∷ []); groups = (record { name = (codes "all"); hosts = ((codes "h1") ∷ []) } ∷ record { name = (codes "ungrouped"); hosts = ((codes "h1") ∷ []) } ∷ []) }

abbrev book_176_registry : Registry
book_176_registry = (builtins ++ ([]))

book_176 : judged book_176_registry book_176_inventory book_176_book ≡ accepted 0
book_176 = refl

-- book_203: retries 1
abbrev book_203_book : Book
book_203_book = (record { line = 1; pattern = ((codes "all") ∷ []); gathering = None; vars = (no_parts); is_linear = true; serial = ([]); pre_tasks = (no_steps); tasks = (task_step (record { line = 2; work = (module_work (codes "ping") (no_parts)); condition = (no_expressions); loop = None; register = None; vars = (no_parts); notify = ([]); changed_when = None; failed_when = None; attempts = (Some (record { until = (expression (literal (boolean true)) (no_expressions)); retries = 1 })); ignore_errors = None }) (no_steps)); post_tasks = (no_steps); handlers = ([]); forces = false } ∷ [])

abbrev book_203_inventory : Inventory
book_203_inventory = record { hosts = (record { name = (codes "h1"); variables = (no_fields) } ∷ []); groups = (record { name = (codes "all"); hosts = ((codes "h1") ∷ []) } ∷ record { name = (codes "ungrouped"); hosts = ((codes "h1") ∷ []) } ∷ []) }

abbrev book_203_registry : Registry
book_203_registry = (builtins ++ ([]))

book_203 : judged book_203_registry book_203_inventory book_203_book ≡ accepted 2
book_203 = refl

-- book_204: retries 255
abbrev book_204_book : Book
book_204_book = (record { line = 1; pattern = ((codes "all") ∷ []); gathering = None; vars = (no_parts); is_linear = true; serial = ([]); pre_tasks = (no_steps); tasks = (task_step (record { line = 2; work = (module_work (codes "ping") (no_parts)); condition = (no_expressions); loop = None; register = None; vars = (no_parts); notify = ([]); changed_when = None; failed_when = None; attempts = (Some (record { until = (expression (literal (boolean true)) (no_expressions)); retries = 255 })); ignore_errors = None }) (no_steps)); post_tasks = (no_steps); handlers = ([]); forces = false } ∷ [])

abbrev book_204_inventory : Inventory
book_204_inventory = record { hosts = (record { name = (codes "h1"); variables = (no_fields) } ∷ []); groups = (record { name = (codes "all"); hosts = ((codes "h1") ∷ []) } ∷ record { name = (codes "ungrouped"); hosts = ((codes "h1") ∷ []) } ∷ []) }

abbrev book_204_registry : Registry
book_204_registry = (builtins ++ ([]))

book_204 : judged book_204_registry book_204_inventory book_204_book ≡ accepted 256
book_204 = refl

-- book_208: until alone: 3 retries
abbrev book_208_book : Book
book_208_book = (record { line = 1; pattern = ((codes "all") ∷ []); gathering = None; vars = (no_parts); is_linear = true; serial = ([]); pre_tasks = (no_steps); tasks = (task_step (record { line = 2; work = (module_work (codes "ping") (no_parts)); condition = (no_expressions); loop = None; register = None; vars = (no_parts); notify = ([]); changed_when = None; failed_when = None; attempts = (Some (record { until = (expression (literal (boolean true)) (no_expressions)); retries = 3 })); ignore_errors = None }) (no_steps)); post_tasks = (no_steps); handlers = ([]); forces = false } ∷ [])

abbrev book_208_inventory : Inventory
book_208_inventory = record { hosts = (record { name = (codes "h1"); variables = (no_fields) } ∷ []); groups = (record { name = (codes "all"); hosts = ((codes "h1") ∷ []) } ∷ record { name = (codes "ungrouped"); hosts = ((codes "h1") ∷ []) } ∷ []) }

abbrev book_208_registry : Registry
book_208_registry = (builtins ++ ([]))

book_208 : judged book_208_registry book_208_inventory book_208_book ≡ accepted 4
book_208 = refl

-- book_212: until an empty list
abbrev book_212_book : Book
book_212_book = (record { line = 1; pattern = ((codes "all") ∷ []); gathering = None; vars = (no_parts); is_linear = true; serial = ([]); pre_tasks = (no_steps); tasks = (task_step (record { line = 2; work = (module_work (codes "ping") (no_parts)); condition = (no_expressions); loop = None; register = None; vars = (no_parts); notify = ([]); changed_when = None; failed_when = None; attempts = (Some (record { until = (no_expressions); retries = 3 })); ignore_errors = None }) (no_steps)); post_tasks = (no_steps); handlers = ([]); forces = false } ∷ [])

abbrev book_212_inventory : Inventory
book_212_inventory = record { hosts = (record { name = (codes "h1"); variables = (no_fields) } ∷ []); groups = (record { name = (codes "all"); hosts = ((codes "h1") ∷ []) } ∷ record { name = (codes "ungrouped"); hosts = ((codes "h1") ∷ []) } ∷ []) }

abbrev book_212_registry : Registry
book_212_registry = (builtins ++ ([]))

book_212 : judged book_212_registry book_212_inventory book_212_book ≡ accepted 4
book_212 = refl

-- book_223: A after V
abbrev book_223_book : Book
book_223_book = (record { line = 1; pattern = ((codes "zz") ∷ []); gathering = None; vars = (no_parts); is_linear = true; serial = ([]); pre_tasks = (no_steps); tasks = (no_steps); post_tasks = (no_steps); handlers = ([]); forces = false } ∷ [])

abbrev book_223_inventory : Inventory
book_223_inventory = record { hosts = (record { name = (codes "h1"); variables = (no_fields) } ∷ []); groups = (record { name = (codes "all"); hosts = ((codes "h1") ∷ []) } ∷ record { name = (codes "ungrouped"); hosts = ((codes "h1") ∷ []) } ∷ []) }

abbrev book_223_registry : Registry
book_223_registry = (builtins ++ ([]))

book_223 : judged book_223_registry book_223_inventory book_223_book ≡ refused (record { code = 6; line = 1; host = None })
book_223 = refl
