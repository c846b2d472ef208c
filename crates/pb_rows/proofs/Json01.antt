-- Cases of json, computed.
use Rattle.std.specs.Prelude.{◌≡◌, refl, pos, negsuc, [], ◌∷◌, ◌++◌, true, false, Some, None, codes}
use Rattle.pb_semantics.specs.Data.{int, opaque, no_fields, field}
use Rattle.pb_language.specs.Expression.{literal, path, variable, no_expressions, no_parts, part}
use Rattle.pb_language.specs.Book.{debug_work, no_steps, task_step, Book, Registry}
use Rattle.pb_language.specs.Builtins.{builtins}
use Rattle.pb_language.specs.Judged.{judged}
use Rattle.pb_language.specs.Program.{Inventory}
use Rattle.pb_language.specs.Verdict.{accepted, refused}

-- json_042: key twice by escape (book)
abbrev json_042_book : Book
json_042_book = (record { line = 1; pattern = ((codes "all") ∷ []); gathering = None; vars = (no_parts); is_linear = true; serial = ([]); pre_tasks = (no_steps); tasks = (no_steps); post_tasks = (no_steps); handlers = ([]); forces = false } ∷ [])

abbrev json_042_inventory : Inventory
json_042_inventory = record { hosts = (record { name = (codes "h1"); variables = (no_fields) } ∷ []); groups = (record { name = (codes "all"); hosts = ((codes "h1") ∷ []) } ∷ record { name = (codes "ungrouped"); hosts = ((codes "h1") ∷ []) } ∷ []) }

abbrev json_042_registry : Registry
json_042_registry = (builtins ++ ([]))

json_042 : judged json_042_registry json_042_inventory json_042_book ≡ accepted 0
json_042 = refl

-- json_052: number 1.0 in the inventory, read
abbrev json_052_book : Book
json_052_book = (record { line = 1; pattern = ((codes "all") ∷ []); gathering = None; vars = (no_parts); is_linear = true; serial = ([]); pre_tasks = (no_steps); tasks = (task_step (record { line = 2; work = (debug_work (part (codes "msg") (path (variable (codes "n")) ([])) (no_parts))); condition = (no_expressions); loop = None; register = None; vars = (no_parts); notify = ([]); changed_when = None; failed_when = None; attempts = None; ignore_errors = None }) (no_steps)); post_tasks = (no_steps); handlers = ([]); forces = false } ∷ [])

abbrev json_052_inventory : Inventory
json_052_inventory = record { hosts = (record { name = (codes "h1"); variables = (field (codes "n") opaque (no_fields)) } ∷ []); groups = (record { name = (codes "all"); hosts = ((codes "h1") ∷ []) } ∷ record { name = (codes "ungrouped"); hosts = ((codes "h1") ∷ []) } ∷ []) }

abbrev json_052_registry : Registry
json_052_registry = (builtins ++ ([]))

json_052 : judged json_052_registry json_052_inventory json_052_book ≡ refused (record { code = 4; line = 2; host = (Some (codes "h1")) })
json_052 = refl

-- json_060: number i64 max in the book
abbrev json_060_book : Book
json_060_book = (record { line = 1; pattern = ((codes "all") ∷ []); gathering = None; vars = (no_parts); is_linear = true; serial = ([]); pre_tasks = (no_steps); tasks = (task_step (record { line = 2; work = (debug_work (part (codes "msg") (literal (int (pos 9223372036854775807))) (no_parts))); condition = (no_expressions); loop = None; register = None; vars = (no_parts); notify = ([]); changed_when = None; failed_when = None; attempts = None; ignore_errors = None }) (no_steps)); post_tasks = (no_steps); handlers = ([]); forces = false } ∷ [])

abbrev json_060_inventory : Inventory
json_060_inventory = record { hosts = (record { name = (codes "h1"); variables = (no_fields) } ∷ []); groups = (record { name = (codes "all"); hosts = ((codes "h1") ∷ []) } ∷ record { name = (codes "ungrouped"); hosts = ((codes "h1") ∷ []) } ∷ []) }

abbrev json_060_registry : Registry
json_060_registry = (builtins ++ ([]))

json_060 : judged json_060_registry json_060_inventory json_060_book ≡ accepted 0
json_060 = refl

-- json_064: number i64 max + 1 in the inventory, read
abbrev json_064_book : Book
json_064_book = (record { line = 1; pattern = ((codes "all") ∷ []); gathering = None; vars = (no_parts); is_linear = true; serial = ([]); pre_tasks = (no_steps); tasks = (task_step (record { line = 2; work = (debug_work (part (codes "msg") (path (variable (codes "n")) ([])) (no_parts))); condition = (no_expressions); loop = None; register = None; vars = (no_parts); notify = ([]); changed_when = None; failed_when = None; attempts = None; ignore_errors = None }) (no_steps)); post_tasks = (no_steps); handlers = ([]); forces = false } ∷ [])

abbrev json_064_inventory : Inventory
json_064_inventory = record { hosts = (record { name = (codes "h1"); variables = (field (codes "n") opaque (no_fields)) } ∷ []); groups = (record { name = (codes "all"); hosts = ((codes "h1") ∷ []) } ∷ record { name = (codes "ungrouped"); hosts = ((codes "h1") ∷ []) } ∷ []) }

abbrev json_064_registry : Registry
json_064_registry = (builtins ++ ([]))

json_064 : judged json_064_registry json_064_inventory json_064_book ≡ refused (record { code = 4; line = 2; host = (Some (codes "h1")) })
json_064 = refl

-- json_066: number i64 min in the book
abbrev json_066_book : Book
json_066_book = (record { line = 1; pattern = ((codes "all") ∷ []); gathering = None; vars = (no_parts); is_linear = true; serial = ([]); pre_tasks = (no_steps); tasks = (task_step (record { line = 2; work = (debug_work (part (codes "msg") (literal (int (negsuc 9223372036854775807))) (no_parts))); condition = (no_expressions); loop = None; register = None; vars = (no_parts); notify = ([]); changed_when = None; failed_when = None; attempts = None; ignore_errors = None }) (no_steps)); post_tasks = (no_steps); handlers = ([]); forces = false } ∷ [])

abbrev json_066_inventory : Inventory
json_066_inventory = record { hosts = (record { name = (codes "h1"); variables = (no_fields) } ∷ []); groups = (record { name = (codes "all"); hosts = ((codes "h1") ∷ []) } ∷ record { name = (codes "ungrouped"); hosts = ((codes "h1") ∷ []) } ∷ []) }

abbrev json_066_registry : Registry
json_066_registry = (builtins ++ ([]))

json_066 : judged json_066_registry json_066_inventory json_066_book ≡ accepted 0
json_066 = refl

-- json_067: number i64 min in the inventory, read
abbrev json_067_book : Book
json_067_book = (record { line = 1; pattern = ((codes "all") ∷ []); gathering = None; vars = (no_parts); is_linear = true; serial = ([]); pre_tasks = (no_steps); tasks = (task_step (record { line = 2; work = (debug_work (part (codes "msg") (path (variable (codes "n")) ([])) (no_parts))); condition = (no_expressions); loop = None; register = None; vars = (no_parts); notify = ([]); changed_when = None; failed_when = None; attempts = None; ignore_errors = None }) (no_steps)); post_tasks = (no_steps); handlers = ([]); forces = false } ∷ [])

abbrev json_067_inventory : Inventory
json_067_inventory = record { hosts = (record { name = (codes "h1"); variables = (field (codes "n") (int (negsuc 9223372036854775807)) (no_fields)) } ∷ []); groups = (record { name = (codes "all"); hosts = ((codes "h1") ∷ []) } ∷ record { name = (codes "ungrouped"); hosts = ((codes "h1") ∷ []) } ∷ []) }

abbrev json_067_registry : Registry
json_067_registry = (builtins ++ ([]))

json_067 : judged json_067_registry json_067_inventory json_067_book ≡ accepted 0
json_067 = refl

-- json_070: number i64 min - 1 in the inventory, read
abbrev json_070_book : Book
json_070_book = (record { line = 1; pattern = ((codes "all") ∷ []); gathering = None; vars = (no_parts); is_linear = true; serial = ([]); pre_tasks = (no_steps); tasks = (task_step (record { line = 2; work = (debug_work (part (codes "msg") (path (variable (codes "n")) ([])) (no_parts))); condition = (no_expressions); loop = None; register = None; vars = (no_parts); notify = ([]); changed_when = None; failed_when = None; attempts = None; ignore_errors = None }) (no_steps)); post_tasks = (no_steps); handlers = ([]); forces = false } ∷ [])

abbrev json_070_inventory : Inventory
json_070_inventory = record { hosts = (record { name = (codes "h1"); variables = (field (codes "n") opaque (no_fields)) } ∷ []); groups = (record { name = (codes "all"); hosts = ((codes "h1") ∷ []) } ∷ record { name = (codes "ungrouped"); hosts = ((codes "h1") ∷ []) } ∷ []) }

abbrev json_070_registry : Registry
json_070_registry = (builtins ++ ([]))

json_070 : judged json_070_registry json_070_inventory json_070_book ≡ refused (record { code = 4; line = 2; host = (Some (codes "h1")) })
json_070 = refl

-- json_073: number u64 max in the inventory, read
abbrev json_073_book : Book
json_073_book = (record { line = 1; pattern = ((codes "all") ∷ []); gathering = None; vars = (no_parts); is_linear = true; serial = ([]); pre_tasks = (no_steps); tasks = (task_step (record { line = 2; work = (debug_work (part (codes "msg") (path (variable (codes "n")) ([])) (no_parts))); condition = (no_expressions); loop = None; register = None; vars = (no_parts); notify = ([]); changed_when = None; failed_when = None; attempts = None; ignore_errors = None }) (no_steps)); post_tasks = (no_steps); handlers = ([]); forces = false } ∷ [])

abbrev json_073_inventory : Inventory
json_073_inventory = record { hosts = (record { name = (codes "h1"); variables = (field (codes "n") opaque (no_fields)) } ∷ []); groups = (record { name = (codes "all"); hosts = ((codes "h1") ∷ []) } ∷ record { name = (codes "ungrouped"); hosts = ((codes "h1") ∷ []) } ∷ []) }

abbrev json_073_registry : Registry
json_073_registry = (builtins ++ ([]))

json_073 : judged json_073_registry json_073_inventory json_073_book ≡ refused (record { code = 4; line = 2; host = (Some (codes "h1")) })
json_073 = refl

-- json_081: number -1 in the book
abbrev json_081_book : Book
json_081_book = (record { line = 1; pattern = ((codes "all") ∷ []); gathering = None; vars = (no_parts); is_linear = true; serial = ([]); pre_tasks = (no_steps); tasks = (task_step (record { line = 2; work = (debug_work (part (codes "msg") (literal (int (negsuc 0))) (no_parts))); condition = (no_expressions); loop = None; register = None; vars = (no_parts); notify = ([]); changed_when = None; failed_when = None; attempts = None; ignore_errors = None }) (no_steps)); post_tasks = (no_steps); handlers = ([]); forces = false } ∷ [])

abbrev json_081_inventory : Inventory
json_081_inventory = record { hosts = (record { name = (codes "h1"); variables = (no_fields) } ∷ []); groups = (record { name = (codes "all"); hosts = ((codes "h1") ∷ []) } ∷ record { name = (codes "ungrouped"); hosts = ((codes "h1") ∷ []) } ∷ []) }

abbrev json_081_registry : Registry
json_081_registry = (builtins ++ ([]))

json_081 : judged json_081_registry json_081_inventory json_081_book ≡ accepted 0
json_081 = refl

-- json_082: number -1 in the inventory, read
abbrev json_082_book : Book
json_082_book = (record { line = 1; pattern = ((codes "all") ∷ []); gathering = None; vars = (no_parts); is_linear = true; serial = ([]); pre_tasks = (no_steps); tasks = (task_step (record { line = 2; work = (debug_work (part (codes "msg") (path (variable (codes "n")) ([])) (no_parts))); condition = (no_expressions); loop = None; register = None; vars = (no_parts); notify = ([]); changed_when = None; failed_when = None; attempts = None; ignore_errors = None }) (no_steps)); post_tasks = (no_steps); handlers = ([]); forces = false } ∷ [])

abbrev json_082_inventory : Inventory
json_082_inventory = record { hosts = (record { name = (codes "h1"); variables = (field (codes "n") (int (negsuc 0)) (no_fields)) } ∷ []); groups = (record { name = (codes "all"); hosts = ((codes "h1") ∷ []) } ∷ record { name = (codes "ungrouped"); hosts = ((codes "h1") ∷ []) } ∷ []) }

abbrev json_082_registry : Registry
json_082_registry = (builtins ++ ([]))

json_082 : judged json_082_registry json_082_inventory json_082_book ≡ accepted 0
json_082 = refl
