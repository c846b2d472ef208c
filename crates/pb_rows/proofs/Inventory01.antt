-- Cases of inventory, computed.
use Rattle.std.specs.Prelude.{◌≡◌, refl, pos, [], ◌∷◌, ◌++◌, true, false, Some, None, codes}
use Rattle.pb_semantics.specs.Data.{int, text, rec, opaque, no_fields, field}
use Rattle.pb_language.specs.Expression.{named_host, literal, path, defined, path_or, variable, other, no_expressions, no_parts, part}
use Rattle.pb_language.specs.Book.{debug_work, no_steps, task_step, Book, Registry}
use Rattle.pb_language.specs.Builtins.{builtins}
use Rattle.pb_language.specs.Judged.{judged}
use Rattle.pb_language.specs.Program.{Inventory}
use Rattle.pb_language.specs.Verdict.{accepted, refused}

-- inventory_001: empty
abbrev inventory_001_book : Book
inventory_001_book = ([])

abbrev inventory_001_inventory : Inventory
inventory_001_inventory = record { hosts = ([]); groups = (record { name = (codes "all"); hosts = ([]) } ∷ record { name = (codes "ungrouped"); hosts = ([]) } ∷ []) }

abbrev inventory_001_registry : Registry
inventory_001_registry = (builtins ++ ([]))

inventory_001 : judged inventory_001_registry inventory_001_inventory inventory_001_book ≡ accepted 0
inventory_001 = refl

-- inventory_046: hostvars of a bad host name of no group
abbrev inventory_046_book : Book
inventory_046_book = ([])

abbrev inventory_046_inventory : Inventory
inventory_046_inventory = record { hosts = ([]); groups = (record { name = (codes "all"); hosts = ([]) } ∷ record { name = (codes "ungrouped"); hosts = ([]) } ∷ []) }

abbrev inventory_046_registry : Registry
inventory_046_registry = (builtins ++ ([]))

inventory_046 : judged inventory_046_registry inventory_046_inventory inventory_046_book ≡ accepted 0
inventory_046 = refl

-- inventory_049: vars names are free
abbrev inventory_049_book : Book
inventory_049_book = ([])

abbrev inventory_049_inventory : Inventory
inventory_049_inventory = record { hosts = ([]); groups = (record { name = (codes "all"); hosts = ([]) } ∷ record { name = (codes "ungrouped"); hosts = ([]) } ∷ []) }

abbrev inventory_049_registry : Registry
inventory_049_registry = (builtins ++ ([]))

inventory_049 : judged inventory_049_registry inventory_049_inventory inventory_049_book ≡ accepted 0
inventory_049 = refl

-- inventory_050: reserved names are passed over
abbrev inventory_050_book : Book
inventory_050_book = ([])

abbrev inventory_050_inventory : Inventory
inventory_050_inventory = record { hosts = ([]); groups = (record { name = (codes "all"); hosts = ([]) } ∷ record { name = (codes "ungrouped"); hosts = ([]) } ∷ []) }

abbrev inventory_050_registry : Registry
inventory_050_registry = (builtins ++ ([]))

inventory_050 : judged inventory_050_registry inventory_050_inventory inventory_050_book ≡ accepted 0
inventory_050 = refl

-- inventory_052: read hostvars['h1'].ansible_hostname
abbrev inventory_052_book : Book
inventory_052_book = (record { line = 1; pattern = ((codes "all") ∷ []); gathering = None; vars = (no_parts); is_linear = true; serial = ([]); pre_tasks = (no_steps); tasks = (task_step (record { line = 2; work = (debug_work (part (codes "msg") (path (other (named_host (codes "h1")) (codes "ansible_hostname")) ([])) (no_parts))); condition = (no_expressions); loop = None; register = None; vars = (no_parts); notify = ([]); changed_when = None; failed_when = None; attempts = None; ignore_errors = None }) (no_steps)); post_tasks = (no_steps); handlers = ([]); forces = false } ∷ [])

abbrev inventory_052_inventory : Inventory
inventory_052_inventory = record { hosts = (record { name = (codes "h1"); variables = (no_fields) } ∷ []); groups = (record { name = (codes "all"); hosts = ((codes "h1") ∷ []) } ∷ record { name = (codes "ungrouped"); hosts = ((codes "h1") ∷ []) } ∷ []) }

abbrev inventory_052_registry : Registry
inventory_052_registry = (builtins ++ ([]))

inventory_052 : judged inventory_052_registry inventory_052_inventory inventory_052_book ≡ refused (record { code = 2; line = 2; host = (Some (codes "h1")) })
inventory_052 = refl

-- inventory_053: read ansible_hostname
abbrev inventory_053_book : Book
inventory_053_book = (record { line = 1; pattern = ((codes "all") ∷ []); gathering = None; vars = (no_parts); is_linear = true; serial = ([]); pre_tasks = (no_steps); tasks = (task_step (record { line = 2; work = (debug_work (part (codes "msg") (path (variable (codes "ansible_hostname")) ([])) (no_parts))); condition = (no_expressions); loop = None; register = None; vars = (no_parts); notify = ([]); changed_when = None; failed_when = None; attempts = None; ignore_errors = None }) (no_steps)); post_tasks = (no_steps); handlers = ([]); forces = false } ∷ [])

abbrev inventory_053_inventory : Inventory
inventory_053_inventory = record { hosts = (record { name = (codes "h1"); variables = (no_fields) } ∷ []); groups = (record { name = (codes "all"); hosts = ((codes "h1") ∷ []) } ∷ record { name = (codes "ungrouped"); hosts = ((codes "h1") ∷ []) } ∷ []) }

abbrev inventory_053_registry : Registry
inventory_053_registry = (builtins ++ ([]))

inventory_053 : judged inventory_053_registry inventory_053_inventory inventory_053_book ≡ refused (record { code = 1; line = 2; host = (Some (codes "h1")) })
inventory_053 = refl

-- inventory_055: read x
abbrev inventory_055_book : Book
inventory_055_book = (record { line = 1; pattern = ((codes "all") ∷ []); gathering = None; vars = (no_parts); is_linear = true; serial = ([]); pre_tasks = (no_steps); tasks = (task_step (record { line = 2; work = (debug_work (part (codes "msg") (path (variable (codes "x")) ([])) (no_parts))); condition = (no_expressions); loop = None; register = None; vars = (no_parts); notify = ([]); changed_when = None; failed_when = None; attempts = None; ignore_errors = None }) (no_steps)); post_tasks = (no_steps); handlers = ([]); forces = false } ∷ [])

abbrev inventory_055_inventory : Inventory
inventory_055_inventory = record { hosts = (record { name = (codes "h1"); variables = (field (codes "x") opaque (no_fields)) } ∷ []); groups = (record { name = (codes "all"); hosts = ((codes "h1") ∷ []) } ∷ record { name = (codes "ungrouped"); hosts = ((codes "h1") ∷ []) } ∷ []) }

abbrev inventory_055_registry : Registry
inventory_055_registry = (builtins ++ ([]))

inventory_055 : judged inventory_055_registry inventory_055_inventory inventory_055_book ≡ refused (record { code = 4; line = 2; host = (Some (codes "h1")) })
inventory_055 = refl

-- inventory_056: read x
abbrev inventory_056_book : Book
inventory_056_book = (record { line = 1; pattern = ((codes "all") ∷ []); gathering = None; vars = (no_parts); is_linear = true; serial = ([]); pre_tasks = (no_steps); tasks = (task_step (record { line = 2; work = (debug_work (part (codes "msg") (path (variable (codes "x")) ([])) (no_parts))); condition = (no_expressions); loop = None; register = None; vars = (no_parts); notify = ([]); changed_when = None; failed_when = None; attempts = None; ignore_errors = None }) (no_steps)); post_tasks = (no_steps); handlers = ([]); forces = false } ∷ [])

abbrev inventory_056_inventory : Inventory
inventory_056_inventory = record { hosts = (record { name = (codes "h1"); variables = (field (codes "x") opaque (no_fields)) } ∷ []); groups = (record { name = (codes "all"); hosts = ((codes "h1") ∷ []) } ∷ record { name = (codes "ungrouped"); hosts = ((codes "h1") ∷ []) } ∷ []) }

abbrev inventory_056_registry : Registry
inventory_056_registry = (builtins ++ ([]))

inventory_056 : judged inventory_056_registry inventory_056_inventory inventory_056_book ≡ refused (record { code = 4; line = 2; host = (Some (codes "h1")) })
inventory_056 = refl

-- inventory_058: read x
abbrev inventory_058_book : Book
inventory_058_book = (record { line = 1; pattern = ((codes "all") ∷ []); gathering = None; vars = (no_parts); is_linear = true; serial = ([]); pre_tasks = (no_steps); tasks = (task_step (record { line = 2; work = (debug_work (part (codes "msg") (path (variable (codes "x")) ([])) (no_parts))); condition = (no_expressions); loop = None; register = None; vars = (no_parts); notify = ([]); changed_when = None; failed_when = None; attempts = None; ignore_errors = None }) (no_steps)); post_tasks = (no_steps); handlers = ([]); forces = false } ∷ [])

abbrev inventory_058_inventory : Inventory
inventory_058_inventory = record { hosts = (record { name = (codes "h1"); variables = (field (codes "x") (text (125 ∷ 125 ∷ [])) (no_fields)) } ∷ []); groups = (record { name = (codes "all"); hosts = ((codes "h1") ∷ []) } ∷ record { name = (codes "ungrouped"); hosts = ((codes "h1") ∷ []) } ∷ []) }

abbrev inventory_058_registry : Registry
inventory_058_registry = (builtins ++ ([]))

inventory_058 : judged inventory_058_registry inventory_058_inventory inventory_058_book ≡ accepted 0
inventory_058 = refl

-- inventory_060: read x
abbrev inventory_060_book : Book
inventory_060_book = (record { line = 1; pattern = ((codes "all") ∷ []); gathering = None; vars = (no_parts); is_linear = true; serial = ([]); pre_tasks = (no_steps); tasks = (task_step (record { line = 2; work = (debug_work (part (codes "msg") (path (variable (codes "x")) ([])) (no_parts))); condition = (no_expressions); loop = None; register = None; vars = (no_parts); notify = ([]); changed_when = None; failed_when = None; attempts = None; ignore_errors = None }) (no_steps)); post_tasks = (no_steps); handlers = ([]); forces = false } ∷ [])

abbrev inventory_060_inventory : Inventory
inventory_060_inventory = record { hosts = (record { name = (codes "h1"); variables = (field (codes "x") (rec (field (codes "k") opaque (no_fields))) (no_fields)) } ∷ []); groups = (record { name = (codes "all"); hosts = ((codes "h1") ∷ []) } ∷ record { name = (codes "ungrouped"); hosts = ((codes "h1") ∷ []) } ∷ []) }

abbrev inventory_060_registry : Registry
inventory_060_registry = (builtins ++ ([]))

inventory_060 : judged inventory_060_registry inventory_060_inventory inventory_060_book ≡ accepted 0
inventory_060 = refl

-- inventory_063: read x is defined
abbrev inventory_063_book : Book
inventory_063_book = (record { line = 1; pattern = ((codes "all") ∷ []); gathering = None; vars = (no_parts); is_linear = true; serial = ([]); pre_tasks = (no_steps); tasks = (task_step (record { line = 2; work = (debug_work (part (codes "msg") (defined (variable (codes "x")) ([])) (no_parts))); condition = (no_expressions); loop = None; register = None; vars = (no_parts); notify = ([]); changed_when = None; failed_when = None; attempts = None; ignore_errors = None }) (no_steps)); post_tasks = (no_steps); handlers = ([]); forces = false } ∷ [])

abbrev inventory_063_inventory : Inventory
inventory_063_inventory = record { hosts = (record { name = (codes "h1"); variables = (field (codes "x") opaque (no_fields)) } ∷ []); groups = (record { name = (codes "all"); hosts = ((codes "h1") ∷ []) } ∷ record { name = (codes "ungrouped"); hosts = ((codes "h1") ∷ []) } ∷ []) }

abbrev inventory_063_registry : Registry
inventory_063_registry = (builtins ++ ([]))

inventory_063 : judged inventory_063_registry inventory_063_inventory inventory_063_book ≡ accepted 0
inventory_063 = refl

-- inventory_064: read x | default(1)
abbrev inventory_064_book : Book
inventory_064_book = (record { line = 1; pattern = ((codes "all") ∷ []); gathering = None; vars = (no_parts); is_linear = true; serial = ([]); pre_tasks = (no_steps); tasks = (task_step (record { line = 2; work = (debug_work (part (codes "msg") (path_or (variable (codes "x")) ([]) (literal (int (pos 1)))) (no_parts))); condition = (no_expressions); loop = None; register = None; vars = (no_parts); notify = ([]); changed_when = None; failed_when = None; attempts = None; ignore_errors = None }) (no_steps)); post_tasks = (no_steps); handlers = ([]); forces = false } ∷ [])

abbrev inventory_064_inventory : Inventory
inventory_064_inventory = record { hosts = (record { name = (codes "h1"); variables = (field (codes "x") opaque (no_fields)) } ∷ []); groups = (record { name = (codes "all"); hosts = ((codes "h1") ∷ []) } ∷ record { name = (codes "ungrouped"); hosts = ((codes "h1") ∷ []) } ∷ []) }

abbrev inventory_064_registry : Registry
inventory_064_registry = (builtins ++ ([]))

inventory_064 : judged inventory_064_registry inventory_064_inventory inventory_064_book ≡ refused (record { code = 4; line = 2; host = (Some (codes "h1")) })
inventory_064 = refl
