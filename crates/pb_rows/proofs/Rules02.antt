-- Cases of rules, computed.
use Rattle.std.specs.Prelude.{◌≡◌, refl, pos, [], ◌∷◌, ◌++◌, true, false, Some, None, codes}
use Rattle.pb_semantics.specs.Data.{int, no_fields}
use Rattle.pb_language.specs.Expression.{literal, path, variable, no_expressions, no_parts, part}
use Rattle.pb_language.specs.Book.{module_work, set_fact_work, no_steps, task_step, Book, Registry}
use Rattle.pb_language.specs.Builtins.{builtins}
use Rattle.pb_language.specs.Judged.{judged}
use Rattle.pb_language.specs.Program.{Inventory}
use Rattle.pb_language.specs.Verdict.{accepted, refused}

-- rules_074: register is
abbrev rules_074_book : Book
rules_074_book = (record { line = 1; pattern = ((codes "all") ∷ []); gathering = None; vars = (no_parts); is_linear = true; serial = ([]); pre_tasks = (no_steps); tasks = (task_step (record { line = 2; work = (module_work (codes "ping") (no_parts)); condition = (no_expressions); loop = None; register = (Some (codes "is")); vars = (no_parts); notify = ([]); changed_when = None; failed_when = None; attempts = None; ignore_errors = None }) (no_steps)); post_tasks = (no_steps); handlers = ([]); forces = false } ∷ [])

abbrev rules_074_inventory : Inventory
rules_074_inventory = record { hosts = (record { name = (codes "h1"); variables = (no_fields) } ∷ []); groups = (record { name = (codes "all"); hosts = ((codes "h1") ∷ []) } ∷ record { name = (codes "ungrouped"); hosts = ((codes "h1") ∷ []) } ∷ []) }

abbrev rules_074_registry : Registry
rules_074_registry = (builtins ++ ([]))

rules_074 : judged rules_074_registry rules_074_inventory rules_074_book ≡ refused (record { code = 8; line = 2; host = None })
rules_074 = refl

-- rules_083: register default
abbrev rules_083_book : Book
rules_083_book = (record { line = 1; pattern = ((codes "all") ∷ []); gathering = None; vars = (no_parts); is_linear = true; serial = ([]); pre_tasks = (no_steps); tasks = (task_step (record { line = 2; work = (module_work (codes "ping") (no_parts)); condition = (no_expressions); loop = None; register = (Some (codes "default")); vars = (no_parts); notify = ([]); changed_when = None; failed_when = None; attempts = None; ignore_errors = None }) (no_steps)); post_tasks = (no_steps); handlers = ([]); forces = false } ∷ [])

abbrev rules_083_inventory : Inventory
rules_083_inventory = record { hosts = (record { name = (codes "h1"); variables = (no_fields) } ∷ []); groups = (record { name = (codes "all"); hosts = ((codes "h1") ∷ []) } ∷ record { name = (codes "ungrouped"); hosts = ((codes "h1") ∷ []) } ∷ []) }

abbrev rules_083_registry : Registry
rules_083_registry = (builtins ++ ([]))

rules_083 : judged rules_083_registry rules_083_inventory rules_083_book ≡ accepted 1
rules_083 = refl

-- rules_084: set_fact default
abbrev rules_084_book : Book
rules_084_book = (record { line = 1; pattern = ((codes "all") ∷ []); gathering = None; vars = (no_parts); is_linear = true; serial = ([]); pre_tasks = (no_steps); tasks = (task_step (record { line = 2; work = (set_fact_work (part (codes "default") (literal (int (pos 1))) (no_parts))); condition = (no_expressions); loop = None; register = None; vars = (no_parts); notify = ([]); changed_when = None; failed_when = None; attempts = None; ignore_errors = None }) (no_steps)); post_tasks = (no_steps); handlers = ([]); forces = false } ∷ [])

abbrev rules_084_inventory : Inventory
rules_084_inventory = record { hosts = (record { name = (codes "h1"); variables = (no_fields) } ∷ []); groups = (record { name = (codes "all"); hosts = ((codes "h1") ∷ []) } ∷ record { name = (codes "ungrouped"); hosts = ((codes "h1") ∷ []) } ∷ []) }

abbrev rules_084_registry : Registry
rules_084_registry = (builtins ++ ([]))

rules_084 : judged rules_084_registry rules_084_inventory rules_084_book ≡ accepted 0
rules_084 = refl

-- rules_089: register length
abbrev rules_089_book : Book
rules_089_book = (record { line = 1; pattern = ((codes "all") ∷ []); gathering = None; vars = (no_parts); is_linear = true; serial = ([]); pre_tasks = (no_steps); tasks = (task_step (record { line = 2; work = (module_work (codes "ping") (no_parts)); condition = (no_expressions); loop = None; register = (Some (codes "length")); vars = (no_parts); notify = ([]); changed_when = None; failed_when = None; attempts = None; ignore_errors = None }) (no_steps)); post_tasks = (no_steps); handlers = ([]); forces = false } ∷ [])

abbrev rules_089_inventory : Inventory
rules_089_inventory = record { hosts = (record { name = (codes "h1"); variables = (no_fields) } ∷ []); groups = (record { name = (codes "all"); hosts = ((codes "h1") ∷ []) } ∷ record { name = (codes "ungrouped"); hosts = ((codes "h1") ∷ []) } ∷ []) }

abbrev rules_089_registry : Registry
rules_089_registry = (builtins ++ ([]))

rules_089 : judged rules_089_registry rules_089_inventory rules_089_book ≡ accepted 1
rules_089 = refl

-- rules_090: set_fact length
abbrev rules_090_book : Book
rules_090_book = (record { line = 1; pattern = ((codes "all") ∷ []); gathering = None; vars = (no_parts); is_linear = true; serial = ([]); pre_tasks = (no_steps); tasks = (task_step (record { line = 2; work = (set_fact_work (part (codes "length") (literal (int (pos 1))) (no_parts))); condition = (no_expressions); loop = None; register = None; vars = (no_parts); notify = ([]); changed_when = None; failed_when = None; attempts = None; ignore_errors = None }) (no_steps)); post_tasks = (no_steps); handlers = ([]); forces = false } ∷ [])

abbrev rules_090_inventory : Inventory
rules_090_inventory = record { hosts = (record { name = (codes "h1"); variables = (no_fields) } ∷ []); groups = (record { name = (codes "all"); hosts = ((codes "h1") ∷ []) } ∷ record { name = (codes "ungrouped"); hosts = ((codes "h1") ∷ []) } ∷ []) }

abbrev rules_090_registry : Registry
rules_090_registry = (builtins ++ ([]))

rules_090 : judged rules_090_registry rules_090_inventory rules_090_book ≡ accepted 0
rules_090 = refl

-- rules_093: set_fact ansible_fqdn
abbrev rules_093_book : Book
rules_093_book = (record { line = 1; pattern = ((codes "all") ∷ []); gathering = None; vars = (no_parts); is_linear = true; serial = ([]); pre_tasks = (no_steps); tasks = (task_step (record { line = 2; work = (set_fact_work (part (codes "ansible_fqdn") (literal (int (pos 1))) (no_parts))); condition = (no_expressions); loop = None; register = None; vars = (no_parts); notify = ([]); changed_when = None; failed_when = None; attempts = None; ignore_errors = None }) (no_steps)); post_tasks = (no_steps); handlers = ([]); forces = false } ∷ [])

abbrev rules_093_inventory : Inventory
rules_093_inventory = record { hosts = (record { name = (codes "h1"); variables = (no_fields) } ∷ []); groups = (record { name = (codes "all"); hosts = ((codes "h1") ∷ []) } ∷ record { name = (codes "ungrouped"); hosts = ((codes "h1") ∷ []) } ∷ []) }

abbrev rules_093_registry : Registry
rules_093_registry = (builtins ++ ([]))

rules_093 : judged rules_093_registry rules_093_inventory rules_093_book ≡ accepted 0
rules_093 = refl

-- rules_095: register play_hosts
abbrev rules_095_book : Book
rules_095_book = (record { line = 1; pattern = ((codes "all") ∷ []); gathering = None; vars = (no_parts); is_linear = true; serial = ([]); pre_tasks = (no_steps); tasks = (task_step (record { line = 2; work = (module_work (codes "ping") (no_parts)); condition = (no_expressions); loop = None; register = (Some (codes "play_hosts")); vars = (no_parts); notify = ([]); changed_when = None; failed_when = None; attempts = None; ignore_errors = None }) (no_steps)); post_tasks = (no_steps); handlers = ([]); forces = false } ∷ [])

abbrev rules_095_inventory : Inventory
rules_095_inventory = record { hosts = (record { name = (codes "h1"); variables = (no_fields) } ∷ []); groups = (record { name = (codes "all"); hosts = ((codes "h1") ∷ []) } ∷ record { name = (codes "ungrouped"); hosts = ((codes "h1") ∷ []) } ∷ []) }

abbrev rules_095_registry : Registry
rules_095_registry = (builtins ++ ([]))

rules_095 : judged rules_095_registry rules_095_inventory rules_095_book ≡ accepted 1
rules_095 = refl

-- rules_096: set_fact play_hosts
abbrev rules_096_book : Book
rules_096_book = (record { line = 1; pattern = ((codes "all") ∷ []); gathering = None; vars = (no_parts); is_linear = true; serial = ([]); pre_tasks = (no_steps); tasks = (task_step (record { line = 2; work = (set_fact_work (part (codes "play_hosts") (literal (int (pos 1))) (no_parts))); condition = (no_expressions); loop = None; register = None; vars = (no_parts); notify = ([]); changed_when = None; failed_when = None; attempts = None; ignore_errors = None }) (no_steps)); post_tasks = (no_steps); handlers = ([]); forces = false } ∷ [])

abbrev rules_096_inventory : Inventory
rules_096_inventory = record { hosts = (record { name = (codes "h1"); variables = (no_fields) } ∷ []); groups = (record { name = (codes "all"); hosts = ((codes "h1") ∷ []) } ∷ record { name = (codes "ungrouped"); hosts = ((codes "h1") ∷ []) } ∷ []) }

abbrev rules_096_registry : Registry
rules_096_registry = (builtins ++ ([]))

rules_096 : judged rules_096_registry rules_096_inventory rules_096_book ≡ accepted 0
rules_096 = refl

-- rules_100: vars vars of a task
abbrev rules_100_book : Book
rules_100_book = (record { line = 1; pattern = ((codes "all") ∷ []); gathering = None; vars = (no_parts); is_linear = true; serial = ([]); pre_tasks = (no_steps); tasks = (task_step (record { line = 2; work = (module_work (codes "ping") (no_parts)); condition = (no_expressions); loop = None; register = None; vars = (part (codes "vars") (literal (int (pos 1))) (no_parts)); notify = ([]); changed_when = None; failed_when = None; attempts = None; ignore_errors = None }) (no_steps)); post_tasks = (no_steps); handlers = ([]); forces = false } ∷ [])

abbrev rules_100_inventory : Inventory
rules_100_inventory = record { hosts = (record { name = (codes "h1"); variables = (no_fields) } ∷ []); groups = (record { name = (codes "all"); hosts = ((codes "h1") ∷ []) } ∷ record { name = (codes "ungrouped"); hosts = ((codes "h1") ∷ []) } ∷ []) }

abbrev rules_100_registry : Registry
rules_100_registry = (builtins ++ ([]))

rules_100 : judged rules_100_registry rules_100_inventory rules_100_book ≡ accepted 1
rules_100 = refl

-- rules_108: V10 a cycle
abbrev rules_108_book : Book
rules_108_book = (record { line = 1; pattern = ((codes "all") ∷ []); gathering = None; vars = (part (codes "a") (path (variable (codes "b")) ([])) (part (codes "b") (path (variable (codes "a")) ([])) (no_parts))); is_linear = true; serial = ([]); pre_tasks = (no_steps); tasks = (task_step (record { line = 2; work = (module_work (codes "ping") (no_parts)); condition = (no_expressions); loop = None; register = None; vars = (no_parts); notify = ([]); changed_when = None; failed_when = None; attempts = None; ignore_errors = None }) (no_steps)); post_tasks = (no_steps); handlers = ([]); forces = false } ∷ [])

abbrev rules_108_inventory : Inventory
rules_108_inventory = record { hosts = (record { name = (codes "h1"); variables = (no_fields) } ∷ []); groups = (record { name = (codes "all"); hosts = ((codes "h1") ∷ []) } ∷ record { name = (codes "ungrouped"); hosts = ((codes "h1") ∷ []) } ∷ []) }

abbrev rules_108_registry : Registry
rules_108_registry = (builtins ++ ([]))

rules_108 : judged rules_108_registry rules_108_inventory rules_108_book ≡ refused (record { code = 10; line = 2; host = None })
rules_108 = refl

-- rules_110: V10 no task: nothing is asked
abbrev rules_110_book : Book
rules_110_book = (record { line = 1; pattern = ((codes "all") ∷ []); gathering = None; vars = (part (codes "a") (path (variable (codes "a")) ([])) (no_parts)); is_linear = true; serial = ([]); pre_tasks = (no_steps); tasks = (no_steps); post_tasks = (no_steps); handlers = ([]); forces = false } ∷ [])

abbrev rules_110_inventory : Inventory
rules_110_inventory = record { hosts = (record { name = (codes "h1"); variables = (no_fields) } ∷ []); groups = (record { name = (codes "all"); hosts = ((codes "h1") ∷ []) } ∷ record { name = (codes "ungrouped"); hosts = ((codes "h1") ∷ []) } ∷ []) }

abbrev rules_110_registry : Registry
rules_110_registry = (builtins ++ ([]))

rules_110 : judged rules_110_registry rules_110_inventory rules_110_book ≡ accepted 0
rules_110 = refl

-- rules_111: V10 asked at the gathering
abbrev rules_111_book : Book
rules_111_book = (record { line = 1; pattern = ((codes "all") ∷ []); gathering = (Some 2); vars = (part (codes "a") (path (variable (codes "a")) ([])) (no_parts)); is_linear = true; serial = ([]); pre_tasks = (no_steps); tasks = (no_steps); post_tasks = (no_steps); handlers = ([]); forces = false } ∷ [])

abbrev rules_111_inventory : Inventory
rules_111_inventory = record { hosts = (record { name = (codes "h1"); variables = (no_fields) } ∷ []); groups = (record { name = (codes "all"); hosts = ((codes "h1") ∷ []) } ∷ record { name = (codes "ungrouped"); hosts = ((codes "h1") ∷ []) } ∷ []) }

abbrev rules_111_registry : Registry
rules_111_registry = (builtins ++ ([]))

rules_111 : judged rules_111_registry rules_111_inventory rules_111_book ≡ refused (record { code = 10; line = 2; host = None })
rules_111 = refl
