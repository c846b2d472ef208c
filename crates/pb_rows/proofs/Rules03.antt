-- Cases of rules, computed.
use Rattle.std.specs.Prelude.{◌≡◌, refl, pos, [], ◌∷◌, ◌++◌, true, false, Some, None, codes}
use Rattle.pb_semantics.specs.Data.{int, text, no_fields}
use Rattle.pb_language.specs.Expression.{equal, is_failed, named_host, literal, path, comparison, defined, path_status, list_of, record_of, variable, other, member, no_expressions, expression, no_parts, part}
use Rattle.pb_language.specs.Book.{module_work, debug_work, no_steps, task_step, block_step, flush_step, Book, Registry}
use Rattle.pb_language.specs.Builtins.{builtins}
use Rattle.pb_language.specs.Judged.{judged}
use Rattle.pb_language.specs.Program.{Inventory}
use Rattle.pb_language.specs.Verdict.{accepted, refused}

-- rules_112: V10 asked at meta
abbrev rules_112_book : Book
rules_112_book = (record { line = 1; pattern = ((codes "all") ∷ []); gathering = None; vars = (part (codes "a") (path (variable (codes "a")) ([])) (no_parts)); is_linear = true; serial = ([]); pre_tasks = (no_steps); tasks = (flush_step 2 (no_steps)); post_tasks = (no_steps); handlers = ([]); forces = false } ∷ [])

abbrev rules_112_inventory : Inventory
rules_112_inventory = record { hosts = (record { name = (codes "h1"); variables = (no_fields) } ∷ []); groups = (record { name = (codes "all"); hosts = ((codes "h1") ∷ []) } ∷ record { name = (codes "ungrouped"); hosts = ((codes "h1") ∷ []) } ∷ []) }

abbrev rules_112_registry : Registry
rules_112_registry = (builtins ++ ([]))

rules_112 : judged rules_112_registry rules_112_inventory rules_112_book ≡ refused (record { code = 10; line = 2; host = None })
rules_112 = refl

-- rules_118: V10 in a record
abbrev rules_118_book : Book
rules_118_book = (record { line = 1; pattern = ((codes "all") ∷ []); gathering = None; vars = (part (codes "a") (record_of (part (codes "k") (list_of (expression (path (variable (codes "a")) ((codes "k") ∷ [])) (no_expressions))) (no_parts))) (no_parts)); is_linear = true; serial = ([]); pre_tasks = (no_steps); tasks = (task_step (record { line = 2; work = (module_work (codes "ping") (no_parts)); condition = (no_expressions); loop = None; register = None; vars = (no_parts); notify = ([]); changed_when = None; failed_when = None; attempts = None; ignore_errors = None }) (no_steps)); post_tasks = (no_steps); handlers = ([]); forces = false } ∷ [])

abbrev rules_118_inventory : Inventory
rules_118_inventory = record { hosts = (record { name = (codes "h1"); variables = (no_fields) } ∷ []); groups = (record { name = (codes "all"); hosts = ((codes "h1") ∷ []) } ∷ record { name = (codes "ungrouped"); hosts = ((codes "h1") ∷ []) } ∷ []) }

abbrev rules_118_registry : Registry
rules_118_registry = (builtins ++ ([]))

rules_118 : judged rules_118_registry rules_118_inventory rules_118_book ≡ refused (record { code = 10; line = 2; host = None })
rules_118 = refl

-- rules_121: V06 unknown host
abbrev rules_121_book : Book
rules_121_book = (record { line = 1; pattern = ((codes "all") ∷ []); gathering = None; vars = (no_parts); is_linear = true; serial = ([]); pre_tasks = (no_steps); tasks = (task_step (record { line = 2; work = (debug_work (part (codes "msg") (path (other (named_host (codes "zz")) (codes "x")) ([])) (no_parts))); condition = (no_expressions); loop = None; register = None; vars = (no_parts); notify = ([]); changed_when = None; failed_when = None; attempts = None; ignore_errors = None }) (no_steps)); post_tasks = (no_steps); handlers = ([]); forces = false } ∷ [])

abbrev rules_121_inventory : Inventory
rules_121_inventory = record { hosts = (record { name = (codes "h1"); variables = (no_fields) } ∷ []); groups = (record { name = (codes "all"); hosts = ((codes "h1") ∷ []) } ∷ record { name = (codes "ungrouped"); hosts = ((codes "h1") ∷ []) } ∷ []) }

abbrev rules_121_registry : Registry
rules_121_registry = (builtins ++ ([]))

rules_121 : judged rules_121_registry rules_121_inventory rules_121_book ≡ refused (record { code = 6; line = 2; host = None })
rules_121 = refl

-- rules_128: V06 under is failed
abbrev rules_128_book : Book
rules_128_book = (record { line = 1; pattern = ((codes "all") ∷ []); gathering = None; vars = (no_parts); is_linear = true; serial = ([]); pre_tasks = (no_steps); tasks = (task_step (record { line = 2; work = (debug_work (part (codes "msg") (path_status is_failed (other (named_host (codes "zz")) (codes "x")) ([])) (no_parts))); condition = (no_expressions); loop = None; register = None; vars = (no_parts); notify = ([]); changed_when = None; failed_when = None; attempts = None; ignore_errors = None }) (no_steps)); post_tasks = (no_steps); handlers = ([]); forces = false } ∷ [])

abbrev rules_128_inventory : Inventory
rules_128_inventory = record { hosts = (record { name = (codes "h1"); variables = (no_fields) } ∷ []); groups = (record { name = (codes "all"); hosts = ((codes "h1") ∷ []) } ∷ record { name = (codes "ungrouped"); hosts = ((codes "h1") ∷ []) } ∷ []) }

abbrev rules_128_registry : Registry
rules_128_registry = (builtins ++ ([]))

rules_128 : judged rules_128_registry rules_128_inventory rules_128_book ≡ refused (record { code = 6; line = 2; host = None })
rules_128 = refl

-- rules_129: V06 after a test
abbrev rules_129_book : Book
rules_129_book = (record { line = 1; pattern = ((codes "all") ∷ []); gathering = None; vars = (no_parts); is_linear = true; serial = ([]); pre_tasks = (no_steps); tasks = (task_step (record { line = 2; work = (debug_work (part (codes "msg") (path (other (named_host (codes "zz")) (codes "x")) ([])) (no_parts))); condition = (expression (defined (other (named_host (codes "zz")) (codes "x")) ([])) (no_expressions)); loop = None; register = None; vars = (no_parts); notify = ([]); changed_when = None; failed_when = None; attempts = None; ignore_errors = None }) (no_steps)); post_tasks = (no_steps); handlers = ([]); forces = false } ∷ [])

abbrev rules_129_inventory : Inventory
rules_129_inventory = record { hosts = (record { name = (codes "h1"); variables = (no_fields) } ∷ []); groups = (record { name = (codes "all"); hosts = ((codes "h1") ∷ []) } ∷ record { name = (codes "ungrouped"); hosts = ((codes "h1") ∷ []) } ∷ []) }

abbrev rules_129_registry : Registry
rules_129_registry = (builtins ++ ([]))

rules_129 : judged rules_129_registry rules_129_inventory rules_129_book ≡ refused (record { code = 6; line = 2; host = None })
rules_129 = refl

-- rules_136: V06 in a block's when: no task
abbrev rules_136_book : Book
rules_136_book = (record { line = 1; pattern = ((codes "all") ∷ []); gathering = None; vars = (no_parts); is_linear = true; serial = ([]); pre_tasks = (no_steps); tasks = (block_step (record { line = 2; condition = (expression (comparison equal (path (other (named_host (codes "zz")) (codes "x")) ([])) (literal (int (pos 1)))) (no_expressions)); vars = (no_parts); ignore_errors = None }) (no_steps) (no_steps) (no_steps) (no_steps)); post_tasks = (no_steps); handlers = ([]); forces = false } ∷ [])

abbrev rules_136_inventory : Inventory
rules_136_inventory = record { hosts = (record { name = (codes "h1"); variables = (no_fields) } ∷ []); groups = (record { name = (codes "all"); hosts = ((codes "h1") ∷ []) } ∷ record { name = (codes "ungrouped"); hosts = ((codes "h1") ∷ []) } ∷ []) }

abbrev rules_136_registry : Registry
rules_136_registry = (builtins ++ ([]))

rules_136 : judged rules_136_registry rules_136_inventory rules_136_book ≡ accepted 0
rules_136 = refl

-- rules_137: V06 groups past the end
abbrev rules_137_book : Book
rules_137_book = (record { line = 1; pattern = ((codes "all") ∷ []); gathering = None; vars = (no_parts); is_linear = true; serial = ([]); pre_tasks = (no_steps); tasks = (task_step (record { line = 2; work = (debug_work (part (codes "msg") (path (member (codes "all") 1) ([])) (no_parts))); condition = (no_expressions); loop = None; register = None; vars = (no_parts); notify = ([]); changed_when = None; failed_when = None; attempts = None; ignore_errors = None }) (no_steps)); post_tasks = (no_steps); handlers = ([]); forces = false } ∷ [])

abbrev rules_137_inventory : Inventory
rules_137_inventory = record { hosts = (record { name = (codes "h1"); variables = (no_fields) } ∷ []); groups = (record { name = (codes "all"); hosts = ((codes "h1") ∷ []) } ∷ record { name = (codes "ungrouped"); hosts = ((codes "h1") ∷ []) } ∷ []) }

abbrev rules_137_registry : Registry
rules_137_registry = (builtins ++ ([]))

rules_137 : judged rules_137_registry rules_137_inventory rules_137_book ≡ refused (record { code = 6; line = 2; host = None })
rules_137 = refl

-- rules_140: V06 unknown group
abbrev rules_140_book : Book
rules_140_book = (record { line = 1; pattern = ((codes "all") ∷ []); gathering = None; vars = (no_parts); is_linear = true; serial = ([]); pre_tasks = (no_steps); tasks = (task_step (record { line = 2; work = (debug_work (part (codes "msg") (path (variable (codes "groups")) ((codes "zz") ∷ [])) (no_parts))); condition = (no_expressions); loop = None; register = None; vars = (no_parts); notify = ([]); changed_when = None; failed_when = None; attempts = None; ignore_errors = None }) (no_steps)); post_tasks = (no_steps); handlers = ([]); forces = false } ∷ [])

abbrev rules_140_inventory : Inventory
rules_140_inventory = record { hosts = (record { name = (codes "h1"); variables = (no_fields) } ∷ []); groups = (record { name = (codes "all"); hosts = ((codes "h1") ∷ []) } ∷ record { name = (codes "ungrouped"); hosts = ((codes "h1") ∷ []) } ∷ []) }

abbrev rules_140_registry : Registry
rules_140_registry = (builtins ++ ([]))

rules_140 : judged rules_140_registry rules_140_inventory rules_140_book ≡ refused (record { code = 6; line = 2; host = None })
rules_140 = refl

-- rules_142: V06 in until
abbrev rules_142_book : Book
rules_142_book = (record { line = 1; pattern = ((codes "all") ∷ []); gathering = None; vars = (no_parts); is_linear = true; serial = ([]); pre_tasks = (no_steps); tasks = (task_step (record { line = 2; work = (module_work (codes "command") (part (codes "cmd") (literal (text (codes "x"))) (no_parts))); condition = (no_expressions); loop = None; register = (Some (codes "out")); vars = (no_parts); notify = ([]); changed_when = None; failed_when = None; attempts = (Some (record { until = (expression (comparison equal (path (member (codes "zz") 0) ([])) (literal (text (codes "a")))) (no_expressions)); retries = 3 })); ignore_errors = None }) (no_steps)); post_tasks = (no_steps); handlers = ([]); forces = false } ∷ [])

abbrev rules_142_inventory : Inventory
rules_142_inventory = record { hosts = (record { name = (codes "h1"); variables = (no_fields) } ∷ []); groups = (record { name = (codes "all"); hosts = ((codes "h1") ∷ []) } ∷ record { name = (codes "ungrouped"); hosts = ((codes "h1") ∷ []) } ∷ []) }

abbrev rules_142_registry : Registry
rules_142_registry = (builtins ++ ([]))

rules_142 : judged rules_142_registry rules_142_inventory rules_142_book ≡ refused (record { code = 6; line = 2; host = None })
rules_142 = refl

-- rules_151: V05 a handler of another play
abbrev rules_151_book : Book
rules_151_book = (record { line = 1; pattern = ((codes "all") ∷ []); gathering = None; vars = (no_parts); is_linear = true; serial = ([]); pre_tasks = (no_steps); tasks = (task_step (record { line = 2; work = (module_work (codes "ping") (no_parts)); condition = (no_expressions); loop = None; register = None; vars = (no_parts); notify = ((codes "a") ∷ []); changed_when = None; failed_when = None; attempts = None; ignore_errors = None }) (no_steps)); post_tasks = (no_steps); handlers = ([]); forces = false } ∷ record { line = 3; pattern = ((codes "all") ∷ []); gathering = None; vars = (no_parts); is_linear = true; serial = ([]); pre_tasks = (no_steps); tasks = (no_steps); post_tasks = (no_steps); handlers = (record { work = (record { line = 4; work = (module_work (codes "ping") (no_parts)); condition = (no_expressions); loop = None; register = None; vars = (no_parts); notify = ([]); changed_when = None; failed_when = None; attempts = None; ignore_errors = None }); name = (Some (codes "a")); topics = ([]) } ∷ record { work = (record { line = 5; work = (module_work (codes "ping") (no_parts)); condition = (no_expressions); loop = None; register = None; vars = (no_parts); notify = ([]); changed_when = None; failed_when = None; attempts = None; ignore_errors = None }); name = (Some (codes "b")); topics = ((codes "t") ∷ (codes "u") ∷ []) } ∷ record { work = (record { line = 6; work = (module_work (codes "ping") (no_parts)); condition = (no_expressions); loop = None; register = None; vars = (no_parts); notify = ([]); changed_when = None; failed_when = None; attempts = None; ignore_errors = None }); name = (Some (codes "c")); topics = ((codes "t") ∷ []) } ∷ []); forces = false } ∷ [])

abbrev rules_151_inventory : Inventory
rules_151_inventory = record { hosts = (record { name = (codes "h1"); variables = (no_fields) } ∷ []); groups = (record { name = (codes "all"); hosts = ((codes "h1") ∷ []) } ∷ record { name = (codes "ungrouped"); hosts = ((codes "h1") ∷ []) } ∷ []) }

abbrev rules_151_registry : Registry
rules_151_registry = (builtins ++ ([]))

rules_151 : judged rules_151_registry rules_151_inventory rules_151_book ≡ refused (record { code = 5; line = 2; host = None })
rules_151 = refl

-- rules_152: V12 itself by topic
abbrev rules_152_book : Book
rules_152_book = (record { line = 1; pattern = ((codes "all") ∷ []); gathering = None; vars = (no_parts); is_linear = true; serial = ([]); pre_tasks = (no_steps); tasks = (task_step (record { line = 2; work = (module_work (codes "ping") (no_parts)); condition = (no_expressions); loop = None; register = None; vars = (no_parts); notify = ([]); changed_when = None; failed_when = None; attempts = None; ignore_errors = None }) (no_steps)); post_tasks = (no_steps); handlers = (record { work = (record { line = 3; work = (module_work (codes "ping") (no_parts)); condition = (no_expressions); loop = None; register = None; vars = (no_parts); notify = ((codes "t") ∷ []); changed_when = None; failed_when = None; attempts = None; ignore_errors = None }); name = (Some (codes "a")); topics = ((codes "t") ∷ []) } ∷ []); forces = false } ∷ [])

abbrev rules_152_inventory : Inventory
rules_152_inventory = record { hosts = (record { name = (codes "h1"); variables = (no_fields) } ∷ []); groups = (record { name = (codes "all"); hosts = ((codes "h1") ∷ []) } ∷ record { name = (codes "ungrouped"); hosts = ((codes "h1") ∷ []) } ∷ []) }

abbrev rules_152_registry : Registry
rules_152_registry = (builtins ++ ([]))

rules_152 : judged rules_152_registry rules_152_inventory rules_152_book ≡ refused (record { code = 12; line = 3; host = None })
rules_152 = refl

-- rules_153: V12 an earlier one
abbrev rules_153_book : Book
rules_153_book = (record { line = 1; pattern = ((codes "all") ∷ []); gathering = None; vars = (no_parts); is_linear = true; serial = ([]); pre_tasks = (no_steps); tasks = (task_step (record { line = 2; work = (module_work (codes "ping") (no_parts)); condition = (no_expressions); loop = None; register = None; vars = (no_parts); notify = ([]); changed_when = None; failed_when = None; attempts = None; ignore_errors = None }) (no_steps)); post_tasks = (no_steps); handlers = (record { work = (record { line = 3; work = (module_work (codes "ping") (no_parts)); condition = (no_expressions); loop = None; register = None; vars = (no_parts); notify = ([]); changed_when = None; failed_when = None; attempts = None; ignore_errors = None }); name = (Some (codes "a")); topics = ([]) } ∷ record { work = (record { line = 4; work = (module_work (codes "ping") (no_parts)); condition = (no_expressions); loop = None; register = None; vars = (no_parts); notify = ((codes "a") ∷ []); changed_when = None; failed_when = None; attempts = None; ignore_errors = None }); name = (Some (codes "b")); topics = ([]) } ∷ []); forces = false } ∷ [])

abbrev rules_153_inventory : Inventory
rules_153_inventory = record { hosts = (record { name = (codes "h1"); variables = (no_fields) } ∷ []); groups = (record { name = (codes "all"); hosts = ((codes "h1") ∷ []) } ∷ record { name = (codes "ungrouped"); hosts = ((codes "h1") ∷ []) } ∷ []) }

abbrev rules_153_registry : Registry
rules_153_registry = (builtins ++ ([]))

rules_153 : judged rules_153_registry rules_153_inventory rules_153_book ≡ refused (record { code = 12; line = 4; host = None })
rules_153 = refl
