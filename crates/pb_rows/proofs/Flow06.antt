-- Cases of flow, computed.
use Rattle.std.specs.Prelude.{◌≡◌, refl, pos, [], ◌∷◌, ◌++◌, true, false, Some, None, codes}
use Rattle.pb_semantics.specs.Data.{int, text, no_fields}
use Rattle.pb_language.specs.Expression.{less, named_host, literal, path, comparison, defined, path_or, record_of, variable, other, no_expressions, expression, no_parts, part}
use Rattle.pb_language.specs.Book.{debug_work, set_fact_work, no_steps, task_step, block_step, Book, Registry}
use Rattle.pb_language.specs.Builtins.{builtins}
use Rattle.pb_language.specs.Judged.{judged}
use Rattle.pb_language.specs.Program.{Inventory}
use Rattle.pb_language.specs.Verdict.{accepted, refused}

-- flow_116: one's own name by hostvars needs a guard
abbrev flow_116_book : Book
flow_116_book = (record { line = 1; pattern = ((codes "all") ∷ []); gathering = None; vars = (no_parts); is_linear = true; serial = ([]); pre_tasks = (no_steps); tasks = (task_step (record { line = 2; work = (set_fact_work (part (codes "x") (literal (int (pos 1))) (no_parts))); condition = (no_expressions); loop = None; register = None; vars = (no_parts); notify = ([]); changed_when = None; failed_when = None; attempts = None; ignore_errors = None }) (task_step (record { line = 3; work = (debug_work (part (codes "msg") (path (other (named_host (codes "h1")) (codes "x")) ([])) (no_parts))); condition = (no_expressions); loop = None; register = None; vars = (no_parts); notify = ([]); changed_when = None; failed_when = None; attempts = None; ignore_errors = None }) (no_steps))); post_tasks = (no_steps); handlers = ([]); forces = false } ∷ [])

abbrev flow_116_inventory : Inventory
flow_116_inventory = record { hosts = (record { name = (codes "h1"); variables = (no_fields) } ∷ []); groups = (record { name = (codes "all"); hosts = ((codes "h1") ∷ []) } ∷ record { name = (codes "ungrouped"); hosts = ((codes "h1") ∷ []) } ∷ []) }

abbrev flow_116_registry : Registry
flow_116_registry = (builtins ++ ([]))

flow_116 : judged flow_116_registry flow_116_inventory flow_116_book ≡ refused (record { code = 2; line = 3; host = (Some (codes "h1")) })
flow_116 = refl

-- flow_118: hostvars before default: Never or Int
abbrev flow_118_book : Book
flow_118_book = (record { line = 1; pattern = ((codes "all") ∷ []); gathering = None; vars = (no_parts); is_linear = true; serial = ([]); pre_tasks = (no_steps); tasks = (task_step (record { line = 2; work = (debug_work (part (codes "msg") (comparison less (path_or (other (named_host (codes "h1")) (codes "x")) ([]) (literal (int (pos 1)))) (literal (int (pos 2)))) (no_parts))); condition = (no_expressions); loop = None; register = None; vars = (no_parts); notify = ([]); changed_when = None; failed_when = None; attempts = None; ignore_errors = None }) (no_steps)); post_tasks = (no_steps); handlers = ([]); forces = false } ∷ [])

abbrev flow_118_inventory : Inventory
flow_118_inventory = record { hosts = (record { name = (codes "h1"); variables = (no_fields) } ∷ []); groups = (record { name = (codes "all"); hosts = ((codes "h1") ∷ []) } ∷ record { name = (codes "ungrouped"); hosts = ((codes "h1") ∷ []) } ∷ []) }

abbrev flow_118_registry : Registry
flow_118_registry = (builtins ++ ([]))

flow_118 : judged flow_118_registry flow_118_inventory flow_118_book ≡ accepted 0
flow_118 = refl

-- flow_119: hostvars before default: Text from the table joined with Int
abbrev flow_119_book : Book
flow_119_book = (record { line = 1; pattern = ((codes "all") ∷ []); gathering = None; vars = (no_parts); is_linear = true; serial = ([]); pre_tasks = (no_steps); tasks = (task_step (record { line = 2; work = (debug_work (part (codes "msg") (comparison less (path_or (other (named_host (codes "h1")) (codes "x")) ([]) (literal (int (pos 1)))) (literal (int (pos 2)))) (no_parts))); condition = (no_expressions); loop = None; register = None; vars = (no_parts); notify = ([]); changed_when = None; failed_when = None; attempts = None; ignore_errors = None }) (task_step (record { line = 3; work = (set_fact_work (part (codes "x") (literal (text (codes "t"))) (no_parts))); condition = (no_expressions); loop = None; register = None; vars = (no_parts); notify = ([]); changed_when = None; failed_when = None; attempts = None; ignore_errors = None }) (no_steps))); post_tasks = (no_steps); handlers = ([]); forces = false } ∷ [])

abbrev flow_119_inventory : Inventory
flow_119_inventory = record { hosts = (record { name = (codes "h1"); variables = (no_fields) } ∷ []); groups = (record { name = (codes "all"); hosts = ((codes "h1") ∷ []) } ∷ record { name = (codes "ungrouped"); hosts = ((codes "h1") ∷ []) } ∷ []) }

abbrev flow_119_registry : Registry
flow_119_registry = (builtins ++ ([]))

flow_119 : judged flow_119_registry flow_119_inventory flow_119_book ≡ refused (record { code = 4; line = 2; host = (Some (codes "h1")) })
flow_119 = refl

-- flow_120: a vars value is judged where it is used
abbrev flow_120_book : Book
flow_120_book = (record { line = 1; pattern = ((codes "all") ∷ []); gathering = None; vars = (no_parts); is_linear = true; serial = ([]); pre_tasks = (no_steps); tasks = (task_step (record { line = 2; work = (debug_work (part (codes "msg") (path (variable (codes "v")) ([])) (no_parts))); condition = (no_expressions); loop = None; register = None; vars = (part (codes "v") (path (variable (codes "zz")) ([])) (no_parts)); notify = ([]); changed_when = None; failed_when = None; attempts = None; ignore_errors = None }) (no_steps)); post_tasks = (no_steps); handlers = ([]); forces = false } ∷ [])

abbrev flow_120_inventory : Inventory
flow_120_inventory = record { hosts = (record { name = (codes "h1"); variables = (no_fields) } ∷ []); groups = (record { name = (codes "all"); hosts = ((codes "h1") ∷ []) } ∷ record { name = (codes "ungrouped"); hosts = ((codes "h1") ∷ []) } ∷ []) }

abbrev flow_120_registry : Registry
flow_120_registry = (builtins ++ ([]))

flow_120 : judged flow_120_registry flow_120_inventory flow_120_book ≡ refused (record { code = 1; line = 2; host = (Some (codes "h1")) })
flow_120 = refl

-- flow_121: also under is defined
abbrev flow_121_book : Book
flow_121_book = (record { line = 1; pattern = ((codes "all") ∷ []); gathering = None; vars = (no_parts); is_linear = true; serial = ([]); pre_tasks = (no_steps); tasks = (task_step (record { line = 2; work = (debug_work (part (codes "msg") (defined (variable (codes "v")) ([])) (no_parts))); condition = (no_expressions); loop = None; register = None; vars = (part (codes "v") (path (variable (codes "zz")) ([])) (no_parts)); notify = ([]); changed_when = None; failed_when = None; attempts = None; ignore_errors = None }) (no_steps)); post_tasks = (no_steps); handlers = ([]); forces = false } ∷ [])

abbrev flow_121_inventory : Inventory
flow_121_inventory = record { hosts = (record { name = (codes "h1"); variables = (no_fields) } ∷ []); groups = (record { name = (codes "all"); hosts = ((codes "h1") ∷ []) } ∷ record { name = (codes "ungrouped"); hosts = ((codes "h1") ∷ []) } ∷ []) }

abbrev flow_121_registry : Registry
flow_121_registry = (builtins ++ ([]))

flow_121 : judged flow_121_registry flow_121_inventory flow_121_book ≡ refused (record { code = 1; line = 2; host = (Some (codes "h1")) })
flow_121 = refl

-- flow_122: also before default
abbrev flow_122_book : Book
flow_122_book = (record { line = 1; pattern = ((codes "all") ∷ []); gathering = None; vars = (no_parts); is_linear = true; serial = ([]); pre_tasks = (no_steps); tasks = (task_step (record { line = 2; work = (debug_work (part (codes "msg") (path_or (variable (codes "v")) ([]) (literal (int (pos 1)))) (no_parts))); condition = (no_expressions); loop = None; register = None; vars = (part (codes "v") (path (variable (codes "zz")) ([])) (no_parts)); notify = ([]); changed_when = None; failed_when = None; attempts = None; ignore_errors = None }) (no_steps)); post_tasks = (no_steps); handlers = ([]); forces = false } ∷ [])

abbrev flow_122_inventory : Inventory
flow_122_inventory = record { hosts = (record { name = (codes "h1"); variables = (no_fields) } ∷ []); groups = (record { name = (codes "all"); hosts = ((codes "h1") ∷ []) } ∷ record { name = (codes "ungrouped"); hosts = ((codes "h1") ∷ []) } ∷ []) }

abbrev flow_122_registry : Registry
flow_122_registry = (builtins ++ ([]))

flow_122 : judged flow_122_registry flow_122_inventory flow_122_book ≡ refused (record { code = 1; line = 2; host = (Some (codes "h1")) })
flow_122 = refl

-- flow_123: whole, also where one field is read
abbrev flow_123_book : Book
flow_123_book = (record { line = 1; pattern = ((codes "all") ∷ []); gathering = None; vars = (no_parts); is_linear = true; serial = ([]); pre_tasks = (no_steps); tasks = (task_step (record { line = 2; work = (debug_work (part (codes "msg") (path (variable (codes "v")) ((codes "a") ∷ [])) (no_parts))); condition = (no_expressions); loop = None; register = None; vars = (part (codes "v") (record_of (part (codes "a") (literal (int (pos 1))) (part (codes "b") (path (variable (codes "zz")) ([])) (no_parts)))) (no_parts)); notify = ([]); changed_when = None; failed_when = None; attempts = None; ignore_errors = None }) (no_steps)); post_tasks = (no_steps); handlers = ([]); forces = false } ∷ [])

abbrev flow_123_inventory : Inventory
flow_123_inventory = record { hosts = (record { name = (codes "h1"); variables = (no_fields) } ∷ []); groups = (record { name = (codes "all"); hosts = ((codes "h1") ∷ []) } ∷ record { name = (codes "ungrouped"); hosts = ((codes "h1") ∷ []) } ∷ []) }

abbrev flow_123_registry : Registry
flow_123_registry = (builtins ++ ([]))

flow_123 : judged flow_123_registry flow_123_inventory flow_123_book ≡ refused (record { code = 1; line = 2; host = (Some (codes "h1")) })
flow_123 = refl

-- flow_124: with what earlier tests taught
abbrev flow_124_book : Book
flow_124_book = (record { line = 1; pattern = ((codes "all") ∷ []); gathering = None; vars = (no_parts); is_linear = true; serial = ([]); pre_tasks = (no_steps); tasks = (task_step (record { line = 2; work = (debug_work (part (codes "msg") (path (variable (codes "v")) ([])) (no_parts))); condition = (expression (defined (variable (codes "zz")) ([])) (no_expressions)); loop = None; register = None; vars = (part (codes "v") (path (variable (codes "zz")) ([])) (no_parts)); notify = ([]); changed_when = None; failed_when = None; attempts = None; ignore_errors = None }) (no_steps)); post_tasks = (no_steps); handlers = ([]); forces = false } ∷ [])

abbrev flow_124_inventory : Inventory
flow_124_inventory = record { hosts = (record { name = (codes "h1"); variables = (no_fields) } ∷ []); groups = (record { name = (codes "all"); hosts = ((codes "h1") ∷ []) } ∷ record { name = (codes "ungrouped"); hosts = ((codes "h1") ∷ []) } ∷ []) }

abbrev flow_124_registry : Registry
flow_124_registry = (builtins ++ ([]))

flow_124 : judged flow_124_registry flow_124_inventory flow_124_book ≡ accepted 0
flow_124 = refl

-- flow_125: what nobody reads is asked nothing
abbrev flow_125_book : Book
flow_125_book = (record { line = 1; pattern = ((codes "all") ∷ []); gathering = None; vars = (no_parts); is_linear = true; serial = ([]); pre_tasks = (no_steps); tasks = (task_step (record { line = 2; work = (debug_work (part (codes "msg") (literal (int (pos 1))) (no_parts))); condition = (no_expressions); loop = None; register = None; vars = (part (codes "v") (path (variable (codes "zz")) ([])) (no_parts)); notify = ([]); changed_when = None; failed_when = None; attempts = None; ignore_errors = None }) (no_steps)); post_tasks = (no_steps); handlers = ([]); forces = false } ∷ [])

abbrev flow_125_inventory : Inventory
flow_125_inventory = record { hosts = (record { name = (codes "h1"); variables = (no_fields) } ∷ []); groups = (record { name = (codes "all"); hosts = ((codes "h1") ∷ []) } ∷ record { name = (codes "ungrouped"); hosts = ((codes "h1") ∷ []) } ∷ []) }

abbrev flow_125_registry : Registry
flow_125_registry = (builtins ++ ([]))

flow_125 : judged flow_125_registry flow_125_inventory flow_125_book ≡ accepted 0
flow_125 = refl

-- flow_130: vars of the task hide those of the block and the play
abbrev flow_130_book : Book
flow_130_book = (record { line = 1; pattern = ((codes "all") ∷ []); gathering = None; vars = (part (codes "v") (literal (text (codes "a"))) (no_parts)); is_linear = true; serial = ([]); pre_tasks = (no_steps); tasks = (block_step (record { line = 2; condition = (no_expressions); vars = (part (codes "v") (literal (text (codes "b"))) (no_parts)); ignore_errors = None }) (task_step (record { line = 3; work = (debug_work (part (codes "msg") (comparison less (path (variable (codes "v")) ([])) (literal (int (pos 1)))) (no_parts))); condition = (no_expressions); loop = None; register = None; vars = (part (codes "v") (literal (int (pos 1))) (no_parts)); notify = ([]); changed_when = None; failed_when = None; attempts = None; ignore_errors = None }) (no_steps)) (no_steps) (no_steps) (no_steps)); post_tasks = (no_steps); handlers = ([]); forces = false } ∷ [])

abbrev flow_130_inventory : Inventory
flow_130_inventory = record { hosts = (record { name = (codes "h1"); variables = (no_fields) } ∷ []); groups = (record { name = (codes "all"); hosts = ((codes "h1") ∷ []) } ∷ record { name = (codes "ungrouped"); hosts = ((codes "h1") ∷ []) } ∷ []) }

abbrev flow_130_registry : Registry
flow_130_registry = (builtins ++ ([]))

flow_130 : judged flow_130_registry flow_130_inventory flow_130_book ≡ accepted 0
flow_130 = refl

-- flow_131: the block's hide the play's
abbrev flow_131_book : Book
flow_131_book = (record { line = 1; pattern = ((codes "all") ∷ []); gathering = None; vars = (part (codes "v") (literal (int (pos 1))) (no_parts)); is_linear = true; serial = ([]); pre_tasks = (no_steps); tasks = (block_step (record { line = 2; condition = (no_expressions); vars = (part (codes "v") (literal (text (codes "b"))) (no_parts)); ignore_errors = None }) (task_step (record { line = 3; work = (debug_work (part (codes "msg") (comparison less (path (variable (codes "v")) ([])) (literal (int (pos 1)))) (no_parts))); condition = (no_expressions); loop = None; register = None; vars = (no_parts); notify = ([]); changed_when = None; failed_when = None; attempts = None; ignore_errors = None }) (no_steps)) (no_steps) (no_steps) (no_steps)); post_tasks = (no_steps); handlers = ([]); forces = false } ∷ [])

abbrev flow_131_inventory : Inventory
flow_131_inventory = record { hosts = (record { name = (codes "h1"); variables = (no_fields) } ∷ []); groups = (record { name = (codes "all"); hosts = ((codes "h1") ∷ []) } ∷ record { name = (codes "ungrouped"); hosts = ((codes "h1") ∷ []) } ∷ []) }

abbrev flow_131_registry : Registry
flow_131_registry = (builtins ++ ([]))

flow_131 : judged flow_131_registry flow_131_inventory flow_131_book ≡ refused (record { code = 4; line = 3; host = (Some (codes "h1")) })
flow_131 = refl
