-- Cases of serial, computed.
use Rattle.std.specs.Prelude.{◌≡◌, refl, [], ◌∷◌, ◌++◌, true, false, None, codes}
use Rattle.std.specs.Fmt.{digits}
use Rattle.pb_semantics.specs.Data.{text, rec, no_fields, field}
use Rattle.pb_language.specs.Expression.{no_expressions, no_parts}
use Rattle.pb_language.specs.Book.{module_work, no_steps, task_step, host_count, percentage, Book, Registry}
use Rattle.pb_language.specs.Builtins.{builtins}
use Rattle.pb_language.specs.Give.{object}
use Rattle.pb_language.specs.Program.{Inventory}
use Rattle.pb_rows.specs.Recaps.{recaps_of}

-- serial_002: serial 1: all after the first host break
abbrev serial_002_book : Book
serial_002_book = (record { line = 1; pattern = ((codes "all") ∷ []); gathering = None; vars = (no_parts); is_linear = true; serial = (host_count 1 ∷ []); pre_tasks = (no_steps); tasks = (task_step (record { line = 2; work = (module_work (codes "ping") (no_parts)); condition = (no_expressions); loop = None; register = None; vars = (no_parts); notify = ([]); changed_when = None; failed_when = None; attempts = None; ignore_errors = None }) (no_steps)); post_tasks = (no_steps); handlers = ([]); forces = false } ∷ [])

abbrev serial_002_inventory : Inventory
serial_002_inventory = record { hosts = (record { name = (codes "h1"); variables = (no_fields) } ∷ record { name = (codes "h2"); variables = (no_fields) } ∷ record { name = (codes "h3"); variables = (no_fields) } ∷ record { name = (codes "h4"); variables = (no_fields) } ∷ record { name = (codes "h5"); variables = (no_fields) } ∷ []); groups = (record { name = (codes "all"); hosts = ((codes "h1") ∷ (codes "h2") ∷ (codes "h3") ∷ (codes "h4") ∷ (codes "h5") ∷ []) } ∷ record { name = (codes "ungrouped"); hosts = ((codes "h1") ∷ (codes "h2") ∷ (codes "h3") ∷ (codes "h4") ∷ (codes "h5") ∷ []) } ∷ []) }

abbrev serial_002_registry : Registry
serial_002_registry = (builtins ++ ([]))

serial_002 : recaps_of serial_002_registry serial_002_inventory serial_002_book 5 ((object (rec (field (codes "ping") (text (codes "pong")) (no_fields))) ∷ []) ∷ ([]) ∷ ([]) ∷ ([]) ∷ ([]) ∷ []) ≡ (record { ok = 1; changed = 0; unreachable = 0; failed = 0; skipped = 0; rescued = 0; ignored = 0 } ∷ record { ok = 0; changed = 0; unreachable = 0; failed = 1; skipped = 0; rescued = 0; ignored = 0 } ∷ record { ok = 0; changed = 0; unreachable = 0; failed = 0; skipped = 0; rescued = 0; ignored = 0 } ∷ record { ok = 0; changed = 0; unreachable = 0; failed = 0; skipped = 0; rescued = 0; ignored = 0 } ∷ record { ok = 0; changed = 0; unreachable = 0; failed = 0; skipped = 0; rescued = 0; ignored = 0 } ∷ [])
unfolding digits
serial_002 = refl

-- serial_004: serial 2: all of the first batch break
abbrev serial_004_book : Book
serial_004_book = (record { line = 1; pattern = ((codes "all") ∷ []); gathering = None; vars = (no_parts); is_linear = true; serial = (host_count 2 ∷ []); pre_tasks = (no_steps); tasks = (task_step (record { line = 2; work = (module_work (codes "ping") (no_parts)); condition = (no_expressions); loop = None; register = None; vars = (no_parts); notify = ([]); changed_when = None; failed_when = None; attempts = None; ignore_errors = None }) (no_steps)); post_tasks = (no_steps); handlers = ([]); forces = false } ∷ [])

abbrev serial_004_inventory : Inventory
serial_004_inventory = record { hosts = (record { name = (codes "h1"); variables = (no_fields) } ∷ record { name = (codes "h2"); variables = (no_fields) } ∷ record { name = (codes "h3"); variables = (no_fields) } ∷ record { name = (codes "h4"); variables = (no_fields) } ∷ record { name = (codes "h5"); variables = (no_fields) } ∷ []); groups = (record { name = (codes "all"); hosts = ((codes "h1") ∷ (codes "h2") ∷ (codes "h3") ∷ (codes "h4") ∷ (codes "h5") ∷ []) } ∷ record { name = (codes "ungrouped"); hosts = ((codes "h1") ∷ (codes "h2") ∷ (codes "h3") ∷ (codes "h4") ∷ (codes "h5") ∷ []) } ∷ []) }

abbrev serial_004_registry : Registry
serial_004_registry = (builtins ++ ([]))

serial_004 : recaps_of serial_004_registry serial_004_inventory serial_004_book 5 (([]) ∷ ([]) ∷ ([]) ∷ ([]) ∷ ([]) ∷ []) ≡ (record { ok = 0; changed = 0; unreachable = 0; failed = 1; skipped = 0; rescued = 0; ignored = 0 } ∷ record { ok = 0; changed = 0; unreachable = 0; failed = 1; skipped = 0; rescued = 0; ignored = 0 } ∷ record { ok = 0; changed = 0; unreachable = 0; failed = 0; skipped = 0; rescued = 0; ignored = 0 } ∷ record { ok = 0; changed = 0; unreachable = 0; failed = 0; skipped = 0; rescued = 0; ignored = 0 } ∷ record { ok = 0; changed = 0; unreachable = 0; failed = 0; skipped = 0; rescued = 0; ignored = 0 } ∷ [])
unfolding digits
serial_004 = refl

-- serial_016: serial 1024: all of the first batch break
abbrev serial_016_book : Book
serial_016_book = (record { line = 1; pattern = ((codes "all") ∷ []); gathering = None; vars = (no_parts); is_linear = true; serial = (host_count 1024 ∷ []); pre_tasks = (no_steps); tasks = (task_step (record { line = 2; work = (module_work (codes "ping") (no_parts)); condition = (no_expressions); loop = None; register = None; vars = (no_parts); notify = ([]); changed_when = None; failed_when = None; attempts = None; ignore_errors = None }) (no_steps)); post_tasks = (no_steps); handlers = ([]); forces = false } ∷ [])

abbrev serial_016_inventory : Inventory
serial_016_inventory = record { hosts = (record { name = (codes "h1"); variables = (no_fields) } ∷ record { name = (codes "h2"); variables = (no_fields) } ∷ record { name = (codes "h3"); variables = (no_fields) } ∷ record { name = (codes "h4"); variables = (no_fields) } ∷ record { name = (codes "h5"); variables = (no_fields) } ∷ []); groups = (record { name = (codes "all"); hosts = ((codes "h1") ∷ (codes "h2") ∷ (codes "h3") ∷ (codes "h4") ∷ (codes "h5") ∷ []) } ∷ record { name = (codes "ungrouped"); hosts = ((codes "h1") ∷ (codes "h2") ∷ (codes "h3") ∷ (codes "h4") ∷ (codes "h5") ∷ []) } ∷ []) }

abbrev serial_016_registry : Registry
serial_016_registry = (builtins ++ ([]))

serial_016 : recaps_of serial_016_registry serial_016_inventory serial_016_book 5 (([]) ∷ ([]) ∷ ([]) ∷ ([]) ∷ ([]) ∷ []) ≡ (record { ok = 0; changed = 0; unreachable = 0; failed = 1; skipped = 0; rescued = 0; ignored = 0 } ∷ record { ok = 0; changed = 0; unreachable = 0; failed = 1; skipped = 0; rescued = 0; ignored = 0 } ∷ record { ok = 0; changed = 0; unreachable = 0; failed = 1; skipped = 0; rescued = 0; ignored = 0 } ∷ record { ok = 0; changed = 0; unreachable = 0; failed = 1; skipped = 0; rescued = 0; ignored = 0 } ∷ record { ok = 0; changed = 0; unreachable = 0; failed = 1; skipped = 0; rescued = 0; ignored = 0 } ∷ [])
unfolding digits
serial_016 = refl

-- serial_025: serial "39%": all of the first batch break
abbrev serial_025_book : Book
serial_025_book = (record { line = 1; pattern = ((codes "all") ∷ []); gathering = None; vars = (no_parts); is_linear = true; serial = (percentage 39 ∷ []); pre_tasks = (no_steps); tasks = (task_step (record { line = 2; work = (module_work (codes "ping") (no_parts)); condition = (no_expressions); loop = None; register = None; vars = (no_parts); notify = ([]); changed_when = None; failed_when = None; attempts = None; ignore_errors = None }) (no_steps)); post_tasks = (no_steps); handlers = ([]); forces = false } ∷ [])

abbrev serial_025_inventory : Inventory
serial_025_inventory = record { hosts = (record { name = (codes "h1"); variables = (no_fields) } ∷ record { name = (codes "h2"); variables = (no_fields) } ∷ record { name = (codes "h3"); variables = (no_fields) } ∷ record { name = (codes "h4"); variables = (no_fields) } ∷ record { name = (codes "h5"); variables = (no_fields) } ∷ []); groups = (record { name = (codes "all"); hosts = ((codes "h1") ∷ (codes "h2") ∷ (codes "h3") ∷ (codes "h4") ∷ (codes "h5") ∷ []) } ∷ record { name = (codes "ungrouped"); hosts = ((codes "h1") ∷ (codes "h2") ∷ (codes "h3") ∷ (codes "h4") ∷ (codes "h5") ∷ []) } ∷ []) }

abbrev serial_025_registry : Registry
serial_025_registry = (builtins ++ ([]))

serial_025 : recaps_of serial_025_registry serial_025_inventory serial_025_book 5 (([]) ∷ ([]) ∷ ([]) ∷ ([]) ∷ ([]) ∷ []) ≡ (record { ok = 0; changed = 0; unreachable = 0; failed = 1; skipped = 0; rescued = 0; ignored = 0 } ∷ record { ok = 0; changed = 0; unreachable = 0; failed = 0; skipped = 0; rescued = 0; ignored = 0 } ∷ record { ok = 0; changed = 0; unreachable = 0; failed = 0; skipped = 0; rescued = 0; ignored = 0 } ∷ record { ok = 0; changed = 0; unreachable = 0; failed = 0; skipped = 0; rescued = 0; ignored = 0 } ∷ record { ok = 0; changed = 0; unreachable = 0; failed = 0; skipped = 0; rescued = 0; ignored = 0 } ∷ [])
unfolding digits
serial_025 = refl

-- serial_028: serial "40%": all of the first batch break
abbrev serial_028_book : Book
serial_028_book = (record { line = 1; pattern = ((codes "all") ∷ []); gathering = None; vars = (no_parts); is_linear = true; serial = (percentage 40 ∷ []); pre_tasks = (no_steps); tasks = (task_step (record { line = 2; work = (module_work (codes "ping") (no_parts)); condition = (no_expressions); loop = None; register = None; vars = (no_parts); notify = ([]); changed_when = None; failed_when = None; attempts = None; ignore_errors = None }) (no_steps)); post_tasks = (no_steps); handlers = ([]); forces = false } ∷ [])

abbrev serial_028_inventory : Inventory
serial_028_inventory = record { hosts = (record { name = (codes "h1"); variables = (no_fields) } ∷ record { name = (codes "h2"); variables = (no_fields) } ∷ record { name = (codes "h3"); variables = (no_fields) } ∷ record { name = (codes "h4"); variables = (no_fields) } ∷ record { name = (codes "h5"); variables = (no_fields) } ∷ []); groups = (record { name = (codes "all"); hosts = ((codes "h1") ∷ (codes "h2") ∷ (codes "h3") ∷ (codes "h4") ∷ (codes "h5") ∷ []) } ∷ record { name = (codes "ungrouped"); hosts = ((codes "h1") ∷ (codes "h2") ∷ (codes "h3") ∷ (codes "h4") ∷ (codes "h5") ∷ []) } ∷ []) }

abbrev serial_028_registry : Registry
serial_028_registry = (builtins ++ ([]))

serial_028 : recaps_of serial_028_registry serial_028_inventory serial_028_book 5 (([]) ∷ ([]) ∷ ([]) ∷ ([]) ∷ ([]) ∷ []) ≡ (record { ok = 0; changed = 0; unreachable = 0; failed = 1; skipped = 0; rescued = 0; ignored = 0 } ∷ record { ok = 0; changed = 0; unreachable = 0; failed = 1; skipped = 0; rescued = 0; ignored = 0 } ∷ record { ok = 0; changed = 0; unreachable = 0; failed = 0; skipped = 0; rescued = 0; ignored = 0 } ∷ record { ok = 0; changed = 0; unreachable = 0; failed = 0; skipped = 0; rescued = 0; ignored = 0 } ∷ record { ok = 0; changed = 0; unreachable = 0; failed = 0; skipped = 0; rescued = 0; ignored = 0 } ∷ [])
unfolding digits
serial_028 = refl

-- serial_031: serial "99%": all of the first batch break
abbrev serial_031_book : Book
serial_031_book = (record { line = 1; pattern = ((codes "all") ∷ []); gathering = None; vars = (no_parts); is_linear = true; serial = (percentage 99 ∷ []); pre_tasks = (no_steps); tasks = (task_step (record { line = 2; work = (module_work (codes "ping") (no_parts)); condition = (no_expressions); loop = None; register = None; vars = (no_parts); notify = ([]); changed_when = None; failed_when = None; attempts = None; ignore_errors = None }) (no_steps)); post_tasks = (no_steps); handlers = ([]); forces = false } ∷ [])

abbrev serial_031_inventory : Inventory
serial_031_inventory = record { hosts = (record { name = (codes "h1"); variables = (no_fields) } ∷ record { name = (codes "h2"); variables = (no_fields) } ∷ record { name = (codes "h3"); variables = (no_fields) } ∷ record { name = (codes "h4"); variables = (no_fields) } ∷ record { name = (codes "h5"); variables = (no_fields) } ∷ []); groups = (record { name = (codes "all"); hosts = ((codes "h1") ∷ (codes "h2") ∷ (codes "h3") ∷ (codes "h4") ∷ (codes "h5") ∷ []) } ∷ record { name = (codes "ungrouped"); hosts = ((codes "h1") ∷ (codes "h2") ∷ (codes "h3") ∷ (codes "h4") ∷ (codes "h5") ∷ []) } ∷ []) }

abbrev serial_031_registry : Registry
serial_031_registry = (builtins ++ ([]))

serial_031 : recaps_of serial_031_registry serial_031_inventory serial_031_book 5 (([]) ∷ ([]) ∷ ([]) ∷ ([]) ∷ ([]) ∷ []) ≡ (record { ok = 0; changed = 0; unreachable = 0; failed = 1; skipped = 0; rescued = 0; ignored = 0 } ∷ record { ok = 0; changed = 0; unreachable = 0; failed = 1; skipped = 0; rescued = 0; ignored = 0 } ∷ record { ok = 0; changed = 0; unreachable = 0; failed = 1; skipped = 0; rescued = 0; ignored = 0 } ∷ record { ok = 0; changed = 0; unreachable = 0; failed = 1; skipped = 0; rescued = 0; ignored = 0 } ∷ record { ok = 0; changed = 0; unreachable = 0; failed = 0; skipped = 0; rescued = 0; ignored = 0 } ∷ [])
unfolding digits
serial_031 = refl

-- serial_037: serial [1, 2]: all of the first batch break
abbrev serial_037_book : Book
serial_037_book = (record { line = 1; pattern = ((codes "all") ∷ []); gathering = None; vars = (no_parts); is_linear = true; serial = (host_count 1 ∷ host_count 2 ∷ []); pre_tasks = (no_steps); tasks = (task_step (record { line = 2; work = (module_work (codes "ping") (no_parts)); condition = (no_expressions); loop = None; register = None; vars = (no_parts); notify = ([]); changed_when = None; failed_when = None; attempts = None; ignore_errors = None }) (no_steps)); post_tasks = (no_steps); handlers = ([]); forces = false } ∷ [])

abbrev serial_037_inventory : Inventory
serial_037_inventory = record { hosts = (record { name = (codes "h1"); variables = (no_fields) } ∷ record { name = (codes "h2"); variables = (no_fields) } ∷ record { name = (codes "h3"); variables = (no_fields) } ∷ record { name = (codes "h4"); variables = (no_fields) } ∷ record { name = (codes "h5"); variables = (no_fields) } ∷ []); groups = (record { name = (codes "all"); hosts = ((codes "h1") ∷ (codes "h2") ∷ (codes "h3") ∷ (codes "h4") ∷ (codes "h5") ∷ []) } ∷ record { name = (codes "ungrouped"); hosts = ((codes "h1") ∷ (codes "h2") ∷ (codes "h3") ∷ (codes "h4") ∷ (codes "h5") ∷ []) } ∷ []) }

abbrev serial_037_registry : Registry
serial_037_registry = (builtins ++ ([]))

serial_037 : recaps_of serial_037_registry serial_037_inventory serial_037_book 5 (([]) ∷ ([]) ∷ ([]) ∷ ([]) ∷ ([]) ∷ []) ≡ (record { ok = 0; changed = 0; unreachable = 0; failed = 1; skipped = 0; rescued = 0; ignored = 0 } ∷ record { ok = 0; changed = 0; unreachable = 0; failed = 0; skipped = 0; rescued = 0; ignored = 0 } ∷ record { ok = 0; changed = 0; unreachable = 0; failed = 0; skipped = 0; rescued = 0; ignored = 0 } ∷ record { ok = 0; changed = 0; unreachable = 0; failed = 0; skipped = 0; rescued = 0; ignored = 0 } ∷ record { ok = 0; changed = 0; unreachable = 0; failed = 0; skipped = 0; rescued = 0; ignored = 0 } ∷ [])
unfolding digits
serial_037 = refl

-- serial_040: serial [2, "50%"]: all of the first batch break
abbrev serial_040_book : Book
serial_040_book = (record { line = 1; pattern = ((codes "all") ∷ []); gathering = None; vars = (no_parts); is_linear = true; serial = (host_count 2 ∷ percentage 50 ∷ []); pre_tasks = (no_steps); tasks = (task_step (record { line = 2; work = (module_work (codes "ping") (no_parts)); condition = (no_expressions); loop = None; register = None; vars = (no_parts); notify = ([]); changed_when = None; failed_when = None; attempts = None; ignore_errors = None }) (no_steps)); post_tasks = (no_steps); handlers = ([]); forces = false } ∷ [])

abbrev serial_040_inventory : Inventory
serial_040_inventory = record { hosts = (record { name = (codes "h1"); variables = (no_fields) } ∷ record { name = (codes "h2"); variables = (no_fields) } ∷ record { name = (codes "h3"); variables = (no_fields) } ∷ record { name = (codes "h4"); variables = (no_fields) } ∷ record { name = (codes "h5"); variables = (no_fields) } ∷ []); groups = (record { name = (codes "all"); hosts = ((codes "h1") ∷ (codes "h2") ∷ (codes "h3") ∷ (codes "h4") ∷ (codes "h5") ∷ []) } ∷ record { name = (codes "ungrouped"); hosts = ((codes "h1") ∷ (codes "h2") ∷ (codes "h3") ∷ (codes "h4") ∷ (codes "h5") ∷ []) } ∷ []) }

abbrev serial_040_registry : Registry
serial_040_registry = (builtins ++ ([]))

serial_040 : recaps_of serial_040_registry serial_040_inventory serial_040_book 5 (([]) ∷ ([]) ∷ ([]) ∷ ([]) ∷ ([]) ∷ []) ≡ (record { ok = 0; changed = 0; unreachable = 0; failed = 1; skipped = 0; rescued = 0; ignored = 0 } ∷ record { ok = 0; changed = 0; unreachable = 0; failed = 1; skipped = 0; rescued = 0; ignored = 0 } ∷ record { ok = 0; changed = 0; unreachable = 0; failed = 0; skipped = 0; rescued = 0; ignored = 0 } ∷ record { ok = 0; changed = 0; unreachable = 0; failed = 0; skipped = 0; rescued = 0; ignored = 0 } ∷ record { ok = 0; changed = 0; unreachable = 0; failed = 0; skipped = 0; rescued = 0; ignored = 0 } ∷ [])
unfolding digits
serial_040 = refl

-- serial_043: serial ["30%", 1]: all of the first batch break
abbrev serial_043_book : Book
serial_043_book = (record { line = 1; pattern = ((codes "all") ∷ []); gathering = None; vars = (no_parts); is_linear = true; serial = (percentage 30 ∷ host_count 1 ∷ []); pre_tasks = (no_steps); tasks = (task_step (record { line = 2; work = (module_work (codes "ping") (no_parts)); condition = (no_expressions); loop = None; register = None; vars = (no_parts); notify = ([]); changed_when = None; failed_when = None; attempts = None; ignore_errors = None }) (no_steps)); post_tasks = (no_steps); handlers = ([]); forces = false } ∷ [])

abbrev serial_043_inventory : Inventory
serial_043_inventory = record { hosts = (record { name = (codes "h1"); variables = (no_fields) } ∷ record { name = (codes "h2"); variables = (no_fields) } ∷ record { name = (codes "h3"); variables = (no_fields) } ∷ record { name = (codes "h4"); variables = (no_fields) } ∷ record { name = (codes "h5"); variables = (no_fields) } ∷ []); groups = (record { name = (codes "all"); hosts = ((codes "h1") ∷ (codes "h2") ∷ (codes "h3") ∷ (codes "h4") ∷ (codes "h5") ∷ []) } ∷ record { name = (codes "ungrouped"); hosts = ((codes "h1") ∷ (codes "h2") ∷ (codes "h3") ∷ (codes "h4") ∷ (codes "h5") ∷ []) } ∷ []) }

abbrev serial_043_registry : Registry
serial_043_registry = (builtins ++ ([]))

serial_043 : recaps_of serial_043_registry serial_043_inventory serial_043_book 5 (([]) ∷ ([]) ∷ ([]) ∷ ([]) ∷ ([]) ∷ []) ≡ (record { ok = 0; changed = 0; unreachable = 0; failed = 1; skipped = 0; rescued = 0; ignored = 0 } ∷ record { ok = 0; changed = 0; unreachable = 0; failed = 0; skipped = 0; rescued = 0; ignored = 0 } ∷ record { ok = 0; changed = 0; unreachable = 0; failed = 0; skipped = 0; rescued = 0; ignored = 0 } ∷ record { ok = 0; changed = 0; unreachable = 0; failed = 0; skipped = 0; rescued = 0; ignored = 0 } ∷ record { ok = 0; changed = 0; unreachable = 0; failed = 0; skipped = 0; rescued = 0; ignored = 0 } ∷ [])
unfolding digits
serial_043 = refl

-- serial_049: serial [1, "1%"]: all of the first batch break
abbrev serial_049_book : Book
serial_049_book = (record { line = 1; pattern = ((codes "all") ∷ []); gathering = None; vars = (no_parts); is_linear = true; serial = (host_count 1 ∷ percentage 1 ∷ []); pre_tasks = (no_steps); tasks = (task_step (record { line = 2; work = (module_work (codes "ping") (no_parts)); condition = (no_expressions); loop = None; register = None; vars = (no_parts); notify = ([]); changed_when = None; failed_when = None; attempts = None; ignore_errors = None }) (no_steps)); post_tasks = (no_steps); handlers = ([]); forces = false } ∷ [])

abbrev serial_049_inventory : Inventory
serial_049_inventory = record { hosts = (record { name = (codes "h1"); variables = (no_fields) } ∷ record { name = (codes "h2"); variables = (no_fields) } ∷ record { name = (codes "h3"); variables = (no_fields) } ∷ record { name = (codes "h4"); variables = (no_fields) } ∷ record { name = (codes "h5"); variables = (no_fields) } ∷ []); groups = (record { name = (codes "all"); hosts = ((codes "h1") ∷ (codes "h2") ∷ (codes "h3") ∷ (codes "h4") ∷ (codes "h5") ∷ []) } ∷ record { name = (codes "ungrouped"); hosts = ((codes "h1") ∷ (codes "h2") ∷ (codes "h3") ∷ (codes "h4") ∷ (codes "h5") ∷ []) } ∷ []) }

abbrev serial_049_registry : Registry
serial_049_registry = (builtins ++ ([]))

serial_049 : recaps_of serial_049_registry serial_049_inventory serial_049_book 5 (([]) ∷ ([]) ∷ ([]) ∷ ([]) ∷ ([]) ∷ []) ≡ (record { ok = 0; changed = 0; unreachable = 0; failed = 1; skipped = 0; rescued = 0; ignored = 0 } ∷ record { ok = 0; changed = 0; unreachable = 0; failed = 0; skipped = 0; rescued = 0; ignored = 0 } ∷ record { ok = 0; changed = 0; unreachable = 0; failed = 0; skipped = 0; rescued = 0; ignored = 0 } ∷ record { ok = 0; changed = 0; unreachable = 0; failed = 0; skipped = 0; rescued = 0; ignored = 0 } ∷ record { ok = 0; changed = 0; unreachable = 0; failed = 0; skipped = 0; rescued = 0; ignored = 0 } ∷ [])
unfolding digits
serial_049 = refl
