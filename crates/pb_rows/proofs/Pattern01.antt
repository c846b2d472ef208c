-- Cases of pattern, computed.
use Rattle.std.specs.Prelude.{◌≡◌, refl, [], ◌∷◌, ◌++◌, true, false, None, codes}
use Rattle.std.specs.Fmt.{digits}
use Rattle.pb_semantics.specs.Data.{no_fields}
use Rattle.pb_language.specs.Expression.{no_expressions, no_parts}
use Rattle.pb_language.specs.Book.{module_work, no_steps, task_step, Book, Registry}
use Rattle.pb_language.specs.Builtins.{builtins}
use Rattle.pb_language.specs.Judged.{judged}
use Rattle.pb_language.specs.Program.{Inventory}
use Rattle.pb_language.specs.Verdict.{accepted, refused}
use Rattle.pb_rows.specs.Recaps.{recaps_of}

-- pattern_002: pattern "all", all break
abbrev pattern_002_book : Book
pattern_002_book = (record { line = 1; pattern = ((codes "all") ∷ []); gathering = None; vars = (no_parts); is_linear = true; serial = ([]); pre_tasks = (no_steps); tasks = (task_step (record { line = 2; work = (module_work (codes "ping") (no_parts)); condition = (no_expressions); loop = None; register = None; vars = (no_parts); notify = ([]); changed_when = None; failed_when = None; attempts = None; ignore_errors = None }) (no_steps)); post_tasks = (no_steps); handlers = ([]); forces = false } ∷ [])

abbrev pattern_002_inventory : Inventory
pattern_002_inventory = record { hosts = (record { name = (codes "h3"); variables = (no_fields) } ∷ record { name = (codes "h1"); variables = (no_fields) } ∷ record { name = (codes "h2"); variables = (no_fields) } ∷ []); groups = (record { name = (codes "all"); hosts = ((codes "h3") ∷ (codes "h1") ∷ (codes "h2") ∷ []) } ∷ record { name = (codes "db"); hosts = ((codes "h3") ∷ (codes "h1") ∷ []) } ∷ record { name = (codes "h2"); hosts = ((codes "h3") ∷ []) } ∷ record { name = (codes "ungrouped"); hosts = ([]) } ∷ record { name = (codes "web"); hosts = ((codes "h1") ∷ (codes "h2") ∷ []) } ∷ []) }

abbrev pattern_002_registry : Registry
pattern_002_registry = (builtins ++ ([]))

pattern_002 : recaps_of pattern_002_registry pattern_002_inventory pattern_002_book 1 (([]) ∷ ([]) ∷ ([]) ∷ []) ≡ (record { ok = 0; changed = 0; unreachable = 0; failed = 1; skipped = 0; rescued = 0; ignored = 0 } ∷ record { ok = 0; changed = 0; unreachable = 0; failed = 1; skipped = 0; rescued = 0; ignored = 0 } ∷ record { ok = 0; changed = 0; unreachable = 0; failed = 1; skipped = 0; rescued = 0; ignored = 0 } ∷ [])
unfolding digits
pattern_002 = refl

-- pattern_006: pattern "h1", all break
abbrev pattern_006_book : Book
pattern_006_book = (record { line = 1; pattern = ((codes "h1") ∷ []); gathering = None; vars = (no_parts); is_linear = true; serial = ([]); pre_tasks = (no_steps); tasks = (task_step (record { line = 2; work = (module_work (codes "ping") (no_parts)); condition = (no_expressions); loop = None; register = None; vars = (no_parts); notify = ([]); changed_when = None; failed_when = None; attempts = None; ignore_errors = None }) (no_steps)); post_tasks = (no_steps); handlers = ([]); forces = false } ∷ [])

abbrev pattern_006_inventory : Inventory
pattern_006_inventory = record { hosts = (record { name = (codes "h3"); variables = (no_fields) } ∷ record { name = (codes "h1"); variables = (no_fields) } ∷ record { name = (codes "h2"); variables = (no_fields) } ∷ []); groups = (record { name = (codes "all"); hosts = ((codes "h3") ∷ (codes "h1") ∷ (codes "h2") ∷ []) } ∷ record { name = (codes "db"); hosts = ((codes "h3") ∷ (codes "h1") ∷ []) } ∷ record { name = (codes "h2"); hosts = ((codes "h3") ∷ []) } ∷ record { name = (codes "ungrouped"); hosts = ([]) } ∷ record { name = (codes "web"); hosts = ((codes "h1") ∷ (codes "h2") ∷ []) } ∷ []) }

abbrev pattern_006_registry : Registry
pattern_006_registry = (builtins ++ ([]))

pattern_006 : recaps_of pattern_006_registry pattern_006_inventory pattern_006_book 1 (([]) ∷ ([]) ∷ ([]) ∷ []) ≡ (record { ok = 0; changed = 0; unreachable = 0; failed = 0; skipped = 0; rescued = 0; ignored = 0 } ∷ record { ok = 0; changed = 0; unreachable = 0; failed = 1; skipped = 0; rescued = 0; ignored = 0 } ∷ record { ok = 0; changed = 0; unreachable = 0; failed = 0; skipped = 0; rescued = 0; ignored = 0 } ∷ [])
unfolding digits
pattern_006 = refl

-- pattern_008: pattern "web:db", all break
abbrev pattern_008_book : Book
pattern_008_book = (record { line = 1; pattern = ((codes "web") ∷ (codes "db") ∷ []); gathering = None; vars = (no_parts); is_linear = true; serial = ([]); pre_tasks = (no_steps); tasks = (task_step (record { line = 2; work = (module_work (codes "ping") (no_parts)); condition = (no_expressions); loop = None; register = None; vars = (no_parts); notify = ([]); changed_when = None; failed_when = None; attempts = None; ignore_errors = None }) (no_steps)); post_tasks = (no_steps); handlers = ([]); forces = false } ∷ [])

abbrev pattern_008_inventory : Inventory
pattern_008_inventory = record { hosts = (record { name = (codes "h3"); variables = (no_fields) } ∷ record { name = (codes "h1"); variables = (no_fields) } ∷ record { name = (codes "h2"); variables = (no_fields) } ∷ []); groups = (record { name = (codes "all"); hosts = ((codes "h3") ∷ (codes "h1") ∷ (codes "h2") ∷ []) } ∷ record { name = (codes "db"); hosts = ((codes "h3") ∷ (codes "h1") ∷ []) } ∷ record { name = (codes "h2"); hosts = ((codes "h3") ∷ []) } ∷ record { name = (codes "ungrouped"); hosts = ([]) } ∷ record { name = (codes "web"); hosts = ((codes "h1") ∷ (codes "h2") ∷ []) } ∷ []) }

abbrev pattern_008_registry : Registry
pattern_008_registry = (builtins ++ ([]))

pattern_008 : recaps_of pattern_008_registry pattern_008_inventory pattern_008_book 1 (([]) ∷ ([]) ∷ ([]) ∷ []) ≡ (record { ok = 0; changed = 0; unreachable = 0; failed = 1; skipped = 0; rescued = 0; ignored = 0 } ∷ record { ok = 0; changed = 0; unreachable = 0; failed = 1; skipped = 0; rescued = 0; ignored = 0 } ∷ record { ok = 0; changed = 0; unreachable = 0; failed = 1; skipped = 0; rescued = 0; ignored = 0 } ∷ [])
unfolding digits
pattern_008 = refl

-- pattern_009: pattern "db,web"
abbrev pattern_009_book : Book
pattern_009_book = (record { line = 1; pattern = ((codes "db") ∷ (codes "web") ∷ []); gathering = None; vars = (no_parts); is_linear = true; serial = ([]); pre_tasks = (no_steps); tasks = (task_step (record { line = 2; work = (module_work (codes "ping") (no_parts)); condition = (no_expressions); loop = None; register = None; vars = (no_parts); notify = ([]); changed_when = None; failed_when = None; attempts = None; ignore_errors = None }) (no_steps)); post_tasks = (no_steps); handlers = ([]); forces = false } ∷ [])

abbrev pattern_009_inventory : Inventory
pattern_009_inventory = record { hosts = (record { name = (codes "h3"); variables = (no_fields) } ∷ record { name = (codes "h1"); variables = (no_fields) } ∷ record { name = (codes "h2"); variables = (no_fields) } ∷ []); groups = (record { name = (codes "all"); hosts = ((codes "h3") ∷ (codes "h1") ∷ (codes "h2") ∷ []) } ∷ record { name = (codes "db"); hosts = ((codes "h3") ∷ (codes "h1") ∷ []) } ∷ record { name = (codes "h2"); hosts = ((codes "h3") ∷ []) } ∷ record { name = (codes "ungrouped"); hosts = ([]) } ∷ record { name = (codes "web"); hosts = ((codes "h1") ∷ (codes "h2") ∷ []) } ∷ []) }

abbrev pattern_009_registry : Registry
pattern_009_registry = (builtins ++ ([]))

pattern_009 : judged pattern_009_registry pattern_009_inventory pattern_009_book ≡ accepted 3
pattern_009 = refl

-- pattern_010: pattern "db,web", all break
abbrev pattern_010_book : Book
pattern_010_book = (record { line = 1; pattern = ((codes "db") ∷ (codes "web") ∷ []); gathering = None; vars = (no_parts); is_linear = true; serial = ([]); pre_tasks = (no_steps); tasks = (task_step (record { line = 2; work = (module_work (codes "ping") (no_parts)); condition = (no_expressions); loop = None; register = None; vars = (no_parts); notify = ([]); changed_when = None; failed_when = None; attempts = None; ignore_errors = None }) (no_steps)); post_tasks = (no_steps); handlers = ([]); forces = false } ∷ [])

abbrev pattern_010_inventory : Inventory
pattern_010_inventory = record { hosts = (record { name = (codes "h3"); variables = (no_fields) } ∷ record { name = (codes "h1"); variables = (no_fields) } ∷ record { name = (codes "h2"); variables = (no_fields) } ∷ []); groups = (record { name = (codes "all"); hosts = ((codes "h3") ∷ (codes "h1") ∷ (codes "h2") ∷ []) } ∷ record { name = (codes "db"); hosts = ((codes "h3") ∷ (codes "h1") ∷ []) } ∷ record { name = (codes "h2"); hosts = ((codes "h3") ∷ []) } ∷ record { name = (codes "ungrouped"); hosts = ([]) } ∷ record { name = (codes "web"); hosts = ((codes "h1") ∷ (codes "h2") ∷ []) } ∷ []) }

abbrev pattern_010_registry : Registry
pattern_010_registry = (builtins ++ ([]))

pattern_010 : recaps_of pattern_010_registry pattern_010_inventory pattern_010_book 1 (([]) ∷ ([]) ∷ ([]) ∷ []) ≡ (record { ok = 0; changed = 0; unreachable = 0; failed = 1; skipped = 0; rescued = 0; ignored = 0 } ∷ record { ok = 0; changed = 0; unreachable = 0; failed = 1; skipped = 0; rescued = 0; ignored = 0 } ∷ record { ok = 0; changed = 0; unreachable = 0; failed = 1; skipped = 0; rescued = 0; ignored = 0 } ∷ [])
unfolding digits
pattern_010 = refl

-- pattern_011: pattern " web , db "
abbrev pattern_011_book : Book
pattern_011_book = (record { line = 1; pattern = ((codes "web") ∷ (codes "db") ∷ []); gathering = None; vars = (no_parts); is_linear = true; serial = ([]); pre_tasks = (no_steps); tasks = (task_step (record { line = 2; work = (module_work (codes "ping") (no_parts)); condition = (no_expressions); loop = None; register = None; vars = (no_parts); notify = ([]); changed_when = None; failed_when = None; attempts = None; ignore_errors = None }) (no_steps)); post_tasks = (no_steps); handlers = ([]); forces = false } ∷ [])

abbrev pattern_011_inventory : Inventory
pattern_011_inventory = record { hosts = (record { name = (codes "h3"); variables = (no_fields) } ∷ record { name = (codes "h1"); variables = (no_fields) } ∷ record { name = (codes "h2"); variables = (no_fields) } ∷ []); groups = (record { name = (codes "all"); hosts = ((codes "h3") ∷ (codes "h1") ∷ (codes "h2") ∷ []) } ∷ record { name = (codes "db"); hosts = ((codes "h3") ∷ (codes "h1") ∷ []) } ∷ record { name = (codes "h2"); hosts = ((codes "h3") ∷ []) } ∷ record { name = (codes "ungrouped"); hosts = ([]) } ∷ record { name = (codes "web"); hosts = ((codes "h1") ∷ (codes "h2") ∷ []) } ∷ []) }

abbrev pattern_011_registry : Registry
pattern_011_registry = (builtins ++ ([]))

pattern_011 : judged pattern_011_registry pattern_011_inventory pattern_011_book ≡ accepted 3
pattern_011 = refl

-- pattern_012: pattern " web , db ", all break
abbrev pattern_012_book : Book
pattern_012_book = (record { line = 1; pattern = ((codes "web") ∷ (codes "db") ∷ []); gathering = None; vars = (no_parts); is_linear = true; serial = ([]); pre_tasks = (no_steps); tasks = (task_step (record { line = 2; work = (module_work (codes "ping") (no_parts)); condition = (no_expressions); loop = None; register = None; vars = (no_parts); notify = ([]); changed_when = None; failed_when = None; attempts = None; ignore_errors = None }) (no_steps)); post_tasks = (no_steps); handlers = ([]); forces = false } ∷ [])

abbrev pattern_012_inventory : Inventory
pattern_012_inventory = record { hosts = (record { name = (codes "h3"); variables = (no_fields) } ∷ record { name = (codes "h1"); variables = (no_fields) } ∷ record { name = (codes "h2"); variables = (no_fields) } ∷ []); groups = (record { name = (codes "all"); hosts = ((codes "h3") ∷ (codes "h1") ∷ (codes "h2") ∷ []) } ∷ record { name = (codes "db"); hosts = ((codes "h3") ∷ (codes "h1") ∷ []) } ∷ record { name = (codes "h2"); hosts = ((codes "h3") ∷ []) } ∷ record { name = (codes "ungrouped"); hosts = ([]) } ∷ record { name = (codes "web"); hosts = ((codes "h1") ∷ (codes "h2") ∷ []) } ∷ []) }

abbrev pattern_012_registry : Registry
pattern_012_registry = (builtins ++ ([]))

pattern_012 : recaps_of pattern_012_registry pattern_012_inventory pattern_012_book 1 (([]) ∷ ([]) ∷ ([]) ∷ []) ≡ (record { ok = 0; changed = 0; unreachable = 0; failed = 1; skipped = 0; rescued = 0; ignored = 0 } ∷ record { ok = 0; changed = 0; unreachable = 0; failed = 1; skipped = 0; rescued = 0; ignored = 0 } ∷ record { ok = 0; changed = 0; unreachable = 0; failed = 1; skipped = 0; rescued = 0; ignored = 0 } ∷ [])
unfolding digits
pattern_012 = refl

-- pattern_013: pattern "web:db,h1"
abbrev pattern_013_book : Book
pattern_013_book = (record { line = 1; pattern = ((codes "web") ∷ (codes "db") ∷ (codes "h1") ∷ []); gathering = None; vars = (no_parts); is_linear = true; serial = ([]); pre_tasks = (no_steps); tasks = (task_step (record { line = 2; work = (module_work (codes "ping") (no_parts)); condition = (no_expressions); loop = None; register = None; vars = (no_parts); notify = ([]); changed_when = None; failed_when = None; attempts = None; ignore_errors = None }) (no_steps)); post_tasks = (no_steps); handlers = ([]); forces = false } ∷ [])

abbrev pattern_013_inventory : Inventory
pattern_013_inventory = record { hosts = (record { name = (codes "h3"); variables = (no_fields) } ∷ record { name = (codes "h1"); variables = (no_fields) } ∷ record { name = (codes "h2"); variables = (no_fields) } ∷ []); groups = (record { name = (codes "all"); hosts = ((codes "h3") ∷ (codes "h1") ∷ (codes "h2") ∷ []) } ∷ record { name = (codes "db"); hosts = ((codes "h3") ∷ (codes "h1") ∷ []) } ∷ record { name = (codes "h2"); hosts = ((codes "h3") ∷ []) } ∷ record { name = (codes "ungrouped"); hosts = ([]) } ∷ record { name = (codes "web"); hosts = ((codes "h1") ∷ (codes "h2") ∷ []) } ∷ []) }

abbrev pattern_013_registry : Registry
pattern_013_registry = (builtins ++ ([]))

pattern_013 : judged pattern_013_registry pattern_013_inventory pattern_013_book ≡ accepted 3
pattern_013 = refl

-- pattern_021: pattern ","
abbrev pattern_021_book : Book
pattern_021_book = (record { line = 1; pattern = (([]) ∷ ([]) ∷ []); gathering = None; vars = (no_parts); is_linear = true; serial = ([]); pre_tasks = (no_steps); tasks = (task_step (record { line = 2; work = (module_work (codes "ping") (no_parts)); condition = (no_expressions); loop = None; register = None; vars = (no_parts); notify = ([]); changed_when = None; failed_when = None; attempts = None; ignore_errors = None }) (no_steps)); post_tasks = (no_steps); handlers = ([]); forces = false } ∷ [])

abbrev pattern_021_inventory : Inventory
pattern_021_inventory = record { hosts = (record { name = (codes "h3"); variables = (no_fields) } ∷ record { name = (codes "h1"); variables = (no_fields) } ∷ record { name = (codes "h2"); variables = (no_fields) } ∷ []); groups = (record { name = (codes "all"); hosts = ((codes "h3") ∷ (codes "h1") ∷ (codes "h2") ∷ []) } ∷ record { name = (codes "db"); hosts = ((codes "h3") ∷ (codes "h1") ∷ []) } ∷ record { name = (codes "h2"); hosts = ((codes "h3") ∷ []) } ∷ record { name = (codes "ungrouped"); hosts = ([]) } ∷ record { name = (codes "web"); hosts = ((codes "h1") ∷ (codes "h2") ∷ []) } ∷ []) }

abbrev pattern_021_registry : Registry
pattern_021_registry = (builtins ++ ([]))

pattern_021 : judged pattern_021_registry pattern_021_inventory pattern_021_book ≡ refused (record { code = 6; line = 1; host = None })
pattern_021 = refl

-- pattern_023: pattern "zz"
abbrev pattern_023_book : Book
pattern_023_book = (record { line = 1; pattern = ((codes "zz") ∷ []); gathering = None; vars = (no_parts); is_linear = true; serial = ([]); pre_tasks = (no_steps); tasks = (task_step (record { line = 2; work = (module_work (codes "ping") (no_parts)); condition = (no_expressions); loop = None; register = None; vars = (no_parts); notify = ([]); changed_when = None; failed_when = None; attempts = None; ignore_errors = None }) (no_steps)); post_tasks = (no_steps); handlers = ([]); forces = false } ∷ [])

abbrev pattern_023_inventory : Inventory
pattern_023_inventory = record { hosts = (record { name = (codes "h3"); variables = (no_fields) } ∷ record { name = (codes "h1"); variables = (no_fields) } ∷ record { name = (codes "h2"); variables = (no_fields) } ∷ []); groups = (record { name = (codes "all"); hosts = ((codes "h3") ∷ (codes "h1") ∷ (codes "h2") ∷ []) } ∷ record { name = (codes "db"); hosts = ((codes "h3") ∷ (codes "h1") ∷ []) } ∷ record { name = (codes "h2"); hosts = ((codes "h3") ∷ []) } ∷ record { name = (codes "ungrouped"); hosts = ([]) } ∷ record { name = (codes "web"); hosts = ((codes "h1") ∷ (codes "h2") ∷ []) } ∷ []) }

abbrev pattern_023_registry : Registry
pattern_023_registry = (builtins ++ ([]))

pattern_023 : judged pattern_023_registry pattern_023_inventory pattern_023_book ≡ refused (record { code = 6; line = 1; host = None })
pattern_023 = refl

-- pattern_027: pattern "h2"
abbrev pattern_027_book : Book
pattern_027_book = (record { line = 1; pattern = ((codes "h2") ∷ []); gathering = None; vars = (no_parts); is_linear = true; serial = ([]); pre_tasks = (no_steps); tasks = (task_step (record { line = 2; work = (module_work (codes "ping") (no_parts)); condition = (no_expressions); loop = None; register = None; vars = (no_parts); notify = ([]); changed_when = None; failed_when = None; attempts = None; ignore_errors = None }) (no_steps)); post_tasks = (no_steps); handlers = ([]); forces = false } ∷ [])

abbrev pattern_027_inventory : Inventory
pattern_027_inventory = record { hosts = (record { name = (codes "h3"); variables = (no_fields) } ∷ record { name = (codes "h1"); variables = (no_fields) } ∷ record { name = (codes "h2"); variables = (no_fields) } ∷ []); groups = (record { name = (codes "all"); hosts = ((codes "h3") ∷ (codes "h1") ∷ (codes "h2") ∷ []) } ∷ record { name = (codes "db"); hosts = ((codes "h3") ∷ (codes "h1") ∷ []) } ∷ record { name = (codes "h2"); hosts = ((codes "h3") ∷ []) } ∷ record { name = (codes "ungrouped"); hosts = ([]) } ∷ record { name = (codes "web"); hosts = ((codes "h1") ∷ (codes "h2") ∷ []) } ∷ []) }

abbrev pattern_027_registry : Registry
pattern_027_registry = (builtins ++ ([]))

pattern_027 : judged pattern_027_registry pattern_027_inventory pattern_027_book ≡ accepted 1
pattern_027 = refl

-- pattern_028: pattern "h2", all break
abbrev pattern_028_book : Book
pattern_028_book = (record { line = 1; pattern = ((codes "h2") ∷ []); gathering = None; vars = (no_parts); is_linear = true; serial = ([]); pre_tasks = (no_steps); tasks = (task_step (record { line = 2; work = (module_work (codes "ping") (no_parts)); condition = (no_expressions); loop = None; register = None; vars = (no_parts); notify = ([]); changed_when = None; failed_when = None; attempts = None; ignore_errors = None }) (no_steps)); post_tasks = (no_steps); handlers = ([]); forces = false } ∷ [])

abbrev pattern_028_inventory : Inventory
pattern_028_inventory = record { hosts = (record { name = (codes "h3"); variables = (no_fields) } ∷ record { name = (codes "h1"); variables = (no_fields) } ∷ record { name = (codes "h2"); variables = (no_fields) } ∷ []); groups = (record { name = (codes "all"); hosts = ((codes "h3") ∷ (codes "h1") ∷ (codes "h2") ∷ []) } ∷ record { name = (codes "db"); hosts = ((codes "h3") ∷ (codes "h1") ∷ []) } ∷ record { name = (codes "h2"); hosts = ((codes "h3") ∷ []) } ∷ record { name = (codes "ungrouped"); hosts = ([]) } ∷ record { name = (codes "web"); hosts = ((codes "h1") ∷ (codes "h2") ∷ []) } ∷ []) }

abbrev pattern_028_registry : Registry
pattern_028_registry = (builtins ++ ([]))

pattern_028 : recaps_of pattern_028_registry pattern_028_inventory pattern_028_book 1 (([]) ∷ ([]) ∷ ([]) ∷ []) ≡ (record { ok = 0; changed = 0; unreachable = 0; failed = 1; skipped = 0; rescued = 0; ignored = 0 } ∷ record { ok = 0; changed = 0; unreachable = 0; failed = 0; skipped = 0; rescued = 0; ignored = 0 } ∷ record { ok = 0; changed = 0; unreachable = 0; failed = 0; skipped = 0; rescued = 0; ignored = 0 } ∷ [])
unfolding digits
pattern_028 = refl
