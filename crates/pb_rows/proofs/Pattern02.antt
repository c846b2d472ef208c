-- Cases of pattern, computed.
use Rattle.std.specs.Prelude.{◌≡◌, refl, [], ◌∷◌, ◌++◌, true, false, None, codes}
use Rattle.std.specs.Fmt.{digits}
use Rattle.pb_semantics.specs.Data.{no_fields}
use Rattle.pb_language.specs.Expression.{no_expressions, no_parts}
use Rattle.pb_language.specs.Book.{module_work, no_steps, task_step, host_count, Book, Registry}
use Rattle.pb_language.specs.Builtins.{builtins}
use Rattle.pb_language.specs.Judged.{judged}
use Rattle.pb_language.specs.Program.{Inventory}
use Rattle.pb_language.specs.Verdict.{accepted, refused}
use Rattle.pb_rows.specs.Recaps.{recaps_of}

-- pattern_035: pattern "WEB"
abbrev pattern_035_book : Book
pattern_035_book = (record { line = 1; pattern = ((codes "WEB") ∷ []); gathering = None; vars = (no_parts); is_linear = true; serial = ([]); pre_tasks = (no_steps); tasks = (task_step (record { line = 2; work = (module_work (codes "ping") (no_parts)); condition = (no_expressions); loop = None; register = None; vars = (no_parts); notify = ([]); changed_when = None; failed_when = None; attempts = None; ignore_errors = None }) (no_steps)); post_tasks = (no_steps); handlers = ([]); forces = false } ∷ [])

abbrev pattern_035_inventory : Inventory
pattern_035_inventory = record { hosts = (record { name = (codes "h3"); variables = (no_fields) } ∷ record { name = (codes "h1"); variables = (no_fields) } ∷ record { name = (codes "h2"); variables = (no_fields) } ∷ []); groups = (record { name = (codes "all"); hosts = ((codes "h3") ∷ (codes "h1") ∷ (codes "h2") ∷ []) } ∷ record { name = (codes "db"); hosts = ((codes "h3") ∷ (codes "h1") ∷ []) } ∷ record { name = (codes "h2"); hosts = ((codes "h3") ∷ []) } ∷ record { name = (codes "ungrouped"); hosts = ([]) } ∷ record { name = (codes "web"); hosts = ((codes "h1") ∷ (codes "h2") ∷ []) } ∷ []) }

abbrev pattern_035_registry : Registry
pattern_035_registry = (builtins ++ ([]))

pattern_035 : judged pattern_035_registry pattern_035_inventory pattern_035_book ≡ refused (record { code = 6; line = 1; host = None })
pattern_035 = refl

-- pattern_039: pattern "!web"
abbrev pattern_039_book : Book
pattern_039_book = (record { line = 1; pattern = ((codes "!web") ∷ []); gathering = None; vars = (no_parts); is_linear = true; serial = ([]); pre_tasks = (no_steps); tasks = (task_step (record { line = 2; work = (module_work (codes "ping") (no_parts)); condition = (no_expressions); loop = None; register = None; vars = (no_parts); notify = ([]); changed_when = None; failed_when = None; attempts = None; ignore_errors = None }) (no_steps)); post_tasks = (no_steps); handlers = ([]); forces = false } ∷ [])

abbrev pattern_039_inventory : Inventory
pattern_039_inventory = record { hosts = (record { name = (codes "h3"); variables = (no_fields) } ∷ record { name = (codes "h1"); variables = (no_fields) } ∷ record { name = (codes "h2"); variables = (no_fields) } ∷ []); groups = (record { name = (codes "all"); hosts = ((codes "h3") ∷ (codes "h1") ∷ (codes "h2") ∷ []) } ∷ record { name = (codes "db"); hosts = ((codes "h3") ∷ (codes "h1") ∷ []) } ∷ record { name = (codes "h2"); hosts = ((codes "h3") ∷ []) } ∷ record { name = (codes "ungrouped"); hosts = ([]) } ∷ record { name = (codes "web"); hosts = ((codes "h1") ∷ (codes "h2") ∷ []) } ∷ []) }

abbrev pattern_039_registry : Registry
pattern_039_registry = (builtins ++ ([]))

pattern_039 : judged pattern_039_registry pattern_039_inventory pattern_039_book ≡ refused (record { code = 6; line = 1; host = None })
pattern_039 = refl

-- pattern_043: pattern "*"
abbrev pattern_043_book : Book
pattern_043_book = (record { line = 1; pattern = ((codes "*") ∷ []); gathering = None; vars = (no_parts); is_linear = true; serial = ([]); pre_tasks = (no_steps); tasks = (task_step (record { line = 2; work = (module_work (codes "ping") (no_parts)); condition = (no_expressions); loop = None; register = None; vars = (no_parts); notify = ([]); changed_when = None; failed_when = None; attempts = None; ignore_errors = None }) (no_steps)); post_tasks = (no_steps); handlers = ([]); forces = false } ∷ [])

abbrev pattern_043_inventory : Inventory
pattern_043_inventory = record { hosts = (record { name = (codes "h3"); variables = (no_fields) } ∷ record { name = (codes "h1"); variables = (no_fields) } ∷ record { name = (codes "h2"); variables = (no_fields) } ∷ []); groups = (record { name = (codes "all"); hosts = ((codes "h3") ∷ (codes "h1") ∷ (codes "h2") ∷ []) } ∷ record { name = (codes "db"); hosts = ((codes "h3") ∷ (codes "h1") ∷ []) } ∷ record { name = (codes "h2"); hosts = ((codes "h3") ∷ []) } ∷ record { name = (codes "ungrouped"); hosts = ([]) } ∷ record { name = (codes "web"); hosts = ((codes "h1") ∷ (codes "h2") ∷ []) } ∷ []) }

abbrev pattern_043_registry : Registry
pattern_043_registry = (builtins ++ ([]))

pattern_043 : judged pattern_043_registry pattern_043_inventory pattern_043_book ≡ refused (record { code = 6; line = 1; host = None })
pattern_043 = refl

-- pattern_053: pattern ["all:h1"]
abbrev pattern_053_book : Book
pattern_053_book = (record { line = 1; pattern = ((codes "all") ∷ (codes "h1") ∷ []); gathering = None; vars = (no_parts); is_linear = true; serial = ([]); pre_tasks = (no_steps); tasks = (task_step (record { line = 2; work = (module_work (codes "ping") (no_parts)); condition = (no_expressions); loop = None; register = None; vars = (no_parts); notify = ([]); changed_when = None; failed_when = None; attempts = None; ignore_errors = None }) (no_steps)); post_tasks = (no_steps); handlers = ([]); forces = false } ∷ [])

abbrev pattern_053_inventory : Inventory
pattern_053_inventory = record { hosts = (record { name = (codes "h3"); variables = (no_fields) } ∷ record { name = (codes "h1"); variables = (no_fields) } ∷ record { name = (codes "h2"); variables = (no_fields) } ∷ []); groups = (record { name = (codes "all"); hosts = ((codes "h3") ∷ (codes "h1") ∷ (codes "h2") ∷ []) } ∷ record { name = (codes "db"); hosts = ((codes "h3") ∷ (codes "h1") ∷ []) } ∷ record { name = (codes "h2"); hosts = ((codes "h3") ∷ []) } ∷ record { name = (codes "ungrouped"); hosts = ([]) } ∷ record { name = (codes "web"); hosts = ((codes "h1") ∷ (codes "h2") ∷ []) } ∷ []) }

abbrev pattern_053_registry : Registry
pattern_053_registry = (builtins ++ ([]))

pattern_053 : judged pattern_053_registry pattern_053_inventory pattern_053_book ≡ accepted 3
pattern_053 = refl

-- pattern_054: pattern ["all:h1"], all break
abbrev pattern_054_book : Book
pattern_054_book = (record { line = 1; pattern = ((codes "all") ∷ (codes "h1") ∷ []); gathering = None; vars = (no_parts); is_linear = true; serial = ([]); pre_tasks = (no_steps); tasks = (task_step (record { line = 2; work = (module_work (codes "ping") (no_parts)); condition = (no_expressions); loop = None; register = None; vars = (no_parts); notify = ([]); changed_when = None; failed_when = None; attempts = None; ignore_errors = None }) (no_steps)); post_tasks = (no_steps); handlers = ([]); forces = false } ∷ [])

abbrev pattern_054_inventory : Inventory
pattern_054_inventory = record { hosts = (record { name = (codes "h3"); variables = (no_fields) } ∷ record { name = (codes "h1"); variables = (no_fields) } ∷ record { name = (codes "h2"); variables = (no_fields) } ∷ []); groups = (record { name = (codes "all"); hosts = ((codes "h3") ∷ (codes "h1") ∷ (codes "h2") ∷ []) } ∷ record { name = (codes "db"); hosts = ((codes "h3") ∷ (codes "h1") ∷ []) } ∷ record { name = (codes "h2"); hosts = ((codes "h3") ∷ []) } ∷ record { name = (codes "ungrouped"); hosts = ([]) } ∷ record { name = (codes "web"); hosts = ((codes "h1") ∷ (codes "h2") ∷ []) } ∷ []) }

abbrev pattern_054_registry : Registry
pattern_054_registry = (builtins ++ ([]))

pattern_054 : recaps_of pattern_054_registry pattern_054_inventory pattern_054_book 1 (([]) ∷ ([]) ∷ ([]) ∷ []) ≡ (record { ok = 0; changed = 0; unreachable = 0; failed = 1; skipped = 0; rescued = 0; ignored = 0 } ∷ record { ok = 0; changed = 0; unreachable = 0; failed = 1; skipped = 0; rescued = 0; ignored = 0 } ∷ record { ok = 0; changed = 0; unreachable = 0; failed = 1; skipped = 0; rescued = 0; ignored = 0 } ∷ [])
unfolding digits
pattern_054 = refl

-- pattern_055: pattern []
abbrev pattern_055_book : Book
pattern_055_book = (record { line = 1; pattern = ([]); gathering = None; vars = (no_parts); is_linear = true; serial = ([]); pre_tasks = (no_steps); tasks = (task_step (record { line = 2; work = (module_work (codes "ping") (no_parts)); condition = (no_expressions); loop = None; register = None; vars = (no_parts); notify = ([]); changed_when = None; failed_when = None; attempts = None; ignore_errors = None }) (no_steps)); post_tasks = (no_steps); handlers = ([]); forces = false } ∷ [])

abbrev pattern_055_inventory : Inventory
pattern_055_inventory = record { hosts = (record { name = (codes "h3"); variables = (no_fields) } ∷ record { name = (codes "h1"); variables = (no_fields) } ∷ record { name = (codes "h2"); variables = (no_fields) } ∷ []); groups = (record { name = (codes "all"); hosts = ((codes "h3") ∷ (codes "h1") ∷ (codes "h2") ∷ []) } ∷ record { name = (codes "db"); hosts = ((codes "h3") ∷ (codes "h1") ∷ []) } ∷ record { name = (codes "h2"); hosts = ((codes "h3") ∷ []) } ∷ record { name = (codes "ungrouped"); hosts = ([]) } ∷ record { name = (codes "web"); hosts = ((codes "h1") ∷ (codes "h2") ∷ []) } ∷ []) }

abbrev pattern_055_registry : Registry
pattern_055_registry = (builtins ++ ([]))

pattern_055 : judged pattern_055_registry pattern_055_inventory pattern_055_book ≡ accepted 0
pattern_055 = refl

-- pattern_056: pattern [], all break
abbrev pattern_056_book : Book
pattern_056_book = (record { line = 1; pattern = ([]); gathering = None; vars = (no_parts); is_linear = true; serial = ([]); pre_tasks = (no_steps); tasks = (task_step (record { line = 2; work = (module_work (codes "ping") (no_parts)); condition = (no_expressions); loop = None; register = None; vars = (no_parts); notify = ([]); changed_when = None; failed_when = None; attempts = None; ignore_errors = None }) (no_steps)); post_tasks = (no_steps); handlers = ([]); forces = false } ∷ [])

abbrev pattern_056_inventory : Inventory
pattern_056_inventory = record { hosts = (record { name = (codes "h3"); variables = (no_fields) } ∷ record { name = (codes "h1"); variables = (no_fields) } ∷ record { name = (codes "h2"); variables = (no_fields) } ∷ []); groups = (record { name = (codes "all"); hosts = ((codes "h3") ∷ (codes "h1") ∷ (codes "h2") ∷ []) } ∷ record { name = (codes "db"); hosts = ((codes "h3") ∷ (codes "h1") ∷ []) } ∷ record { name = (codes "h2"); hosts = ((codes "h3") ∷ []) } ∷ record { name = (codes "ungrouped"); hosts = ([]) } ∷ record { name = (codes "web"); hosts = ((codes "h1") ∷ (codes "h2") ∷ []) } ∷ []) }

abbrev pattern_056_registry : Registry
pattern_056_registry = (builtins ++ ([]))

pattern_056 : recaps_of pattern_056_registry pattern_056_inventory pattern_056_book 1 (([]) ∷ ([]) ∷ ([]) ∷ []) ≡ (record { ok = 0; changed = 0; unreachable = 0; failed = 0; skipped = 0; rescued = 0; ignored = 0 } ∷ record { ok = 0; changed = 0; unreachable = 0; failed = 0; skipped = 0; rescued = 0; ignored = 0 } ∷ record { ok = 0; changed = 0; unreachable = 0; failed = 0; skipped = 0; rescued = 0; ignored = 0 } ∷ [])
unfolding digits
pattern_056 = refl

-- pattern_057: order of the batch: "db:web"
abbrev pattern_057_book : Book
pattern_057_book = (record { line = 1; pattern = ((codes "db") ∷ (codes "web") ∷ []); gathering = None; vars = (no_parts); is_linear = true; serial = (host_count 1 ∷ []); pre_tasks = (no_steps); tasks = (task_step (record { line = 2; work = (module_work (codes "ping") (no_parts)); condition = (no_expressions); loop = None; register = None; vars = (no_parts); notify = ([]); changed_when = None; failed_when = None; attempts = None; ignore_errors = None }) (no_steps)); post_tasks = (no_steps); handlers = ([]); forces = false } ∷ [])

abbrev pattern_057_inventory : Inventory
pattern_057_inventory = record { hosts = (record { name = (codes "h3"); variables = (no_fields) } ∷ record { name = (codes "h1"); variables = (no_fields) } ∷ record { name = (codes "h2"); variables = (no_fields) } ∷ []); groups = (record { name = (codes "all"); hosts = ((codes "h3") ∷ (codes "h1") ∷ (codes "h2") ∷ []) } ∷ record { name = (codes "db"); hosts = ((codes "h3") ∷ (codes "h1") ∷ []) } ∷ record { name = (codes "h2"); hosts = ((codes "h3") ∷ []) } ∷ record { name = (codes "ungrouped"); hosts = ([]) } ∷ record { name = (codes "web"); hosts = ((codes "h1") ∷ (codes "h2") ∷ []) } ∷ []) }

abbrev pattern_057_registry : Registry
pattern_057_registry = (builtins ++ ([]))

pattern_057 : recaps_of pattern_057_registry pattern_057_inventory pattern_057_book 1 (([]) ∷ ([]) ∷ ([]) ∷ []) ≡ (record { ok = 0; changed = 0; unreachable = 0; failed = 1; skipped = 0; rescued = 0; ignored = 0 } ∷ record { ok = 0; changed = 0; unreachable = 0; failed = 0; skipped = 0; rescued = 0; ignored = 0 } ∷ record { ok = 0; changed = 0; unreachable = 0; failed = 0; skipped = 0; rescued = 0; ignored = 0 } ∷ [])
unfolding digits
pattern_057 = refl

-- pattern_059: order of the batch: ["h3", "h1"]
abbrev pattern_059_book : Book
pattern_059_book = (record { line = 1; pattern = ((codes "h3") ∷ (codes "h1") ∷ []); gathering = None; vars = (no_parts); is_linear = true; serial = (host_count 1 ∷ []); pre_tasks = (no_steps); tasks = (task_step (record { line = 2; work = (module_work (codes "ping") (no_parts)); condition = (no_expressions); loop = None; register = None; vars = (no_parts); notify = ([]); changed_when = None; failed_when = None; attempts = None; ignore_errors = None }) (no_steps)); post_tasks = (no_steps); handlers = ([]); forces = false } ∷ [])

abbrev pattern_059_inventory : Inventory
pattern_059_inventory = record { hosts = (record { name = (codes "h3"); variables = (no_fields) } ∷ record { name = (codes "h1"); variables = (no_fields) } ∷ record { name = (codes "h2"); variables = (no_fields) } ∷ []); groups = (record { name = (codes "all"); hosts = ((codes "h3") ∷ (codes "h1") ∷ (codes "h2") ∷ []) } ∷ record { name = (codes "db"); hosts = ((codes "h3") ∷ (codes "h1") ∷ []) } ∷ record { name = (codes "h2"); hosts = ((codes "h3") ∷ []) } ∷ record { name = (codes "ungrouped"); hosts = ([]) } ∷ record { name = (codes "web"); hosts = ((codes "h1") ∷ (codes "h2") ∷ []) } ∷ []) }

abbrev pattern_059_registry : Registry
pattern_059_registry = (builtins ++ ([]))

pattern_059 : recaps_of pattern_059_registry pattern_059_inventory pattern_059_book 1 (([]) ∷ ([]) ∷ ([]) ∷ []) ≡ (record { ok = 0; changed = 0; unreachable = 0; failed = 1; skipped = 0; rescued = 0; ignored = 0 } ∷ record { ok = 0; changed = 0; unreachable = 0; failed = 0; skipped = 0; rescued = 0; ignored = 0 } ∷ record { ok = 0; changed = 0; unreachable = 0; failed = 0; skipped = 0; rescued = 0; ignored = 0 } ∷ [])
unfolding digits
pattern_059 = refl
