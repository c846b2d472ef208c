-- Cases of flow, computed.
use Rattle.std.specs.Prelude.{◌≡◌, refl, pos, [], ◌∷◌, ◌++◌, true, false, Some, None, codes}
use Rattle.pb_semantics.specs.Data.{boolean, int, text, no_fields, field}
use Rattle.pb_language.specs.Expression.{is_skipped, named_host, this_host, item_host, literal, path, negation, conjunction, in_batch, defined, path_status, variable, other, no_expressions, expression, no_parts, part}
use Rattle.pb_language.specs.Book.{module_work, debug_work, no_steps, task_step, Book, Registry}
use Rattle.pb_language.specs.Builtins.{builtins}
use Rattle.pb_language.specs.Judged.{judged}
use Rattle.pb_language.specs.Program.{Inventory}
use Rattle.pb_language.specs.Verdict.{accepted, refused}

-- flow_094: registered in an earlier play
abbrev flow_094_book : Book
flow_094_book = (record { line = 1; pattern = ((codes "all") ∷ []); gathering = None; vars = (no_parts); is_linear = true; serial = ([]); pre_tasks = (no_steps); tasks = (task_step (record { line = 2; work = (module_work (codes "command") (part (codes "cmd") (literal (text (codes "x"))) (no_parts))); condition = (no_expressions); loop = None; register = (Some (codes "out")); vars = (no_parts); notify = ([]); changed_when = None; failed_when = None; attempts = None; ignore_errors = None }) (no_steps)); post_tasks = (no_steps); handlers = ([]); forces = false } ∷ record { line = 3; pattern = ((codes "all") ∷ []); gathering = None; vars = (no_parts); is_linear = true; serial = ([]); pre_tasks = (no_steps); tasks = (task_step (record { line = 4; work = (debug_work (part (codes "msg") (path (variable (codes "out")) ((codes "rc") ∷ [])) (no_parts))); condition = (no_expressions); loop = None; register = None; vars = (no_parts); notify = ([]); changed_when = None; failed_when = None; attempts = None; ignore_errors = None }) (no_steps)); post_tasks = (no_steps); handlers = ([]); forces = false } ∷ [])

abbrev flow_094_inventory : Inventory
flow_094_inventory = record { hosts = (record { name = (codes "h1"); variables = (no_fields) } ∷ []); groups = (record { name = (codes "all"); hosts = ((codes "h1") ∷ []) } ∷ record { name = (codes "ungrouped"); hosts = ((codes "h1") ∷ []) } ∷ []) }

abbrev flow_094_registry : Registry
flow_094_registry = (builtins ++ ([]))

flow_094 : judged flow_094_registry flow_094_inventory flow_094_book ≡ accepted 1
flow_094 = refl

-- flow_096: read before it is registered
abbrev flow_096_book : Book
flow_096_book = (record { line = 1; pattern = ((codes "all") ∷ []); gathering = None; vars = (no_parts); is_linear = true; serial = ([]); pre_tasks = (no_steps); tasks = (task_step (record { line = 2; work = (debug_work (part (codes "msg") (path (other (named_host (codes "db1")) (codes "out")) ((codes "rc") ∷ [])) (no_parts))); condition = (expression (in_batch (named_host (codes "db1"))) (no_expressions)); loop = None; register = None; vars = (no_parts); notify = ([]); changed_when = None; failed_when = None; attempts = None; ignore_errors = None }) (task_step (record { line = 3; work = (module_work (codes "command") (part (codes "cmd") (literal (text (codes "x"))) (no_parts))); condition = (no_expressions); loop = None; register = (Some (codes "out")); vars = (no_parts); notify = ([]); changed_when = None; failed_when = None; attempts = None; ignore_errors = None }) (no_steps))); post_tasks = (no_steps); handlers = ([]); forces = false } ∷ [])

abbrev flow_096_inventory : Inventory
flow_096_inventory = record { hosts = (record { name = (codes "db1"); variables = (no_fields) } ∷ record { name = (codes "web1"); variables = (no_fields) } ∷ []); groups = (record { name = (codes "all"); hosts = ((codes "db1") ∷ (codes "web1") ∷ []) } ∷ record { name = (codes "ungrouped"); hosts = ((codes "db1") ∷ (codes "web1") ∷ []) } ∷ []) }

abbrev flow_096_registry : Registry
flow_096_registry = (builtins ++ ([]))

flow_096 : judged flow_096_registry flow_096_inventory flow_096_book ≡ refused (record { code = 2; line = 2; host = (Some (codes "db1")) })
flow_096 = refl

-- flow_097: read without the guard
abbrev flow_097_book : Book
flow_097_book = (record { line = 1; pattern = ((codes "all") ∷ []); gathering = None; vars = (no_parts); is_linear = true; serial = ([]); pre_tasks = (no_steps); tasks = (task_step (record { line = 2; work = (module_work (codes "command") (part (codes "cmd") (literal (text (codes "x"))) (no_parts))); condition = (no_expressions); loop = None; register = (Some (codes "out")); vars = (no_parts); notify = ([]); changed_when = None; failed_when = None; attempts = None; ignore_errors = None }) (task_step (record { line = 3; work = (debug_work (part (codes "msg") (path (other (named_host (codes "db1")) (codes "out")) ((codes "rc") ∷ [])) (no_parts))); condition = (no_expressions); loop = None; register = None; vars = (no_parts); notify = ([]); changed_when = None; failed_when = None; attempts = None; ignore_errors = None }) (no_steps))); post_tasks = (no_steps); handlers = ([]); forces = false } ∷ [])

abbrev flow_097_inventory : Inventory
flow_097_inventory = record { hosts = (record { name = (codes "db1"); variables = (no_fields) } ∷ record { name = (codes "web1"); variables = (no_fields) } ∷ []); groups = (record { name = (codes "all"); hosts = ((codes "db1") ∷ (codes "web1") ∷ []) } ∷ record { name = (codes "ungrouped"); hosts = ((codes "db1") ∷ (codes "web1") ∷ []) } ∷ []) }

abbrev flow_097_registry : Registry
flow_097_registry = (builtins ++ ([]))

flow_097 : judged flow_097_registry flow_097_inventory flow_097_book ≡ refused (record { code = 2; line = 3; host = (Some (codes "db1")) })
flow_097 = refl

-- flow_098: guarded by item
abbrev flow_098_book : Book
flow_098_book = (record { line = 1; pattern = ((codes "all") ∷ []); gathering = None; vars = (no_parts); is_linear = true; serial = ([]); pre_tasks = (no_steps); tasks = (task_step (record { line = 2; work = (module_work (codes "command") (part (codes "cmd") (literal (text (codes "x"))) (no_parts))); condition = (no_expressions); loop = None; register = (Some (codes "out")); vars = (no_parts); notify = ([]); changed_when = None; failed_when = None; attempts = None; ignore_errors = None }) (task_step (record { line = 3; work = (debug_work (part (codes "msg") (path (other item_host (codes "out")) ((codes "rc") ∷ [])) (no_parts))); condition = (expression (in_batch item_host) (no_expressions)); loop = (Some (path (variable (codes "groups")) ((codes "all") ∷ []))); register = None; vars = (no_parts); notify = ([]); changed_when = None; failed_when = None; attempts = None; ignore_errors = None }) (no_steps))); post_tasks = (no_steps); handlers = ([]); forces = false } ∷ [])

abbrev flow_098_inventory : Inventory
flow_098_inventory = record { hosts = (record { name = (codes "db1"); variables = (no_fields) } ∷ record { name = (codes "web1"); variables = (no_fields) } ∷ []); groups = (record { name = (codes "all"); hosts = ((codes "db1") ∷ (codes "web1") ∷ []) } ∷ record { name = (codes "ungrouped"); hosts = ((codes "db1") ∷ (codes "web1") ∷ []) } ∷ []) }

abbrev flow_098_registry : Registry
flow_098_registry = (builtins ++ ([]))

flow_098 : judged flow_098_registry flow_098_inventory flow_098_book ≡ accepted 2
flow_098 = refl

-- flow_099: guarded by another term
abbrev flow_099_book : Book
flow_099_book = (record { line = 1; pattern = ((codes "all") ∷ []); gathering = None; vars = (no_parts); is_linear = true; serial = ([]); pre_tasks = (no_steps); tasks = (task_step (record { line = 2; work = (module_work (codes "command") (part (codes "cmd") (literal (text (codes "x"))) (no_parts))); condition = (no_expressions); loop = None; register = (Some (codes "out")); vars = (no_parts); notify = ([]); changed_when = None; failed_when = None; attempts = None; ignore_errors = None }) (task_step (record { line = 3; work = (debug_work (part (codes "msg") (path (other item_host (codes "out")) ((codes "rc") ∷ [])) (no_parts))); condition = (expression (in_batch (named_host (codes "db1"))) (no_expressions)); loop = (Some (path (variable (codes "groups")) ((codes "all") ∷ []))); register = None; vars = (no_parts); notify = ([]); changed_when = None; failed_when = None; attempts = None; ignore_errors = None }) (no_steps))); post_tasks = (no_steps); handlers = ([]); forces = false } ∷ [])

abbrev flow_099_inventory : Inventory
flow_099_inventory = record { hosts = (record { name = (codes "db1"); variables = (no_fields) } ∷ record { name = (codes "web1"); variables = (no_fields) } ∷ []); groups = (record { name = (codes "all"); hosts = ((codes "db1") ∷ (codes "web1") ∷ []) } ∷ record { name = (codes "ungrouped"); hosts = ((codes "db1") ∷ (codes "web1") ∷ []) } ∷ []) }

abbrev flow_099_registry : Registry
flow_099_registry = (builtins ++ ([]))

flow_099 : judged flow_099_registry flow_099_inventory flow_099_book ≡ refused (record { code = 2; line = 3; host = (Some (codes "db1")) })
flow_099 = refl

-- flow_101: inventory_hostname names the host
abbrev flow_101_book : Book
flow_101_book = (record { line = 1; pattern = ((codes "all") ∷ []); gathering = None; vars = (no_parts); is_linear = true; serial = ([]); pre_tasks = (no_steps); tasks = (task_step (record { line = 2; work = (module_work (codes "command") (part (codes "cmd") (literal (text (codes "x"))) (no_parts))); condition = (no_expressions); loop = None; register = (Some (codes "out")); vars = (no_parts); notify = ([]); changed_when = None; failed_when = None; attempts = None; ignore_errors = None }) (task_step (record { line = 3; work = (debug_work (part (codes "msg") (path (other (named_host (codes "db1")) (codes "out")) ((codes "rc") ∷ [])) (no_parts))); condition = (expression (conjunction (expression (in_batch this_host) (expression (in_batch (named_host (codes "db1"))) (no_expressions)))) (no_expressions)); loop = None; register = None; vars = (no_parts); notify = ([]); changed_when = None; failed_when = None; attempts = None; ignore_errors = None }) (no_steps))); post_tasks = (no_steps); handlers = ([]); forces = false } ∷ [])

abbrev flow_101_inventory : Inventory
flow_101_inventory = record { hosts = (record { name = (codes "db1"); variables = (no_fields) } ∷ record { name = (codes "web1"); variables = (no_fields) } ∷ []); groups = (record { name = (codes "all"); hosts = ((codes "db1") ∷ (codes "web1") ∷ []) } ∷ record { name = (codes "ungrouped"); hosts = ((codes "db1") ∷ (codes "web1") ∷ []) } ∷ []) }

abbrev flow_101_registry : Registry
flow_101_registry = (builtins ++ ([]))

flow_101 : judged flow_101_registry flow_101_inventory flow_101_book ≡ accepted 2
flow_101 = refl

-- flow_102: inventory_hostname names db1 on db1 alone
abbrev flow_102_book : Book
flow_102_book = (record { line = 1; pattern = ((codes "all") ∷ []); gathering = None; vars = (no_parts); is_linear = true; serial = ([]); pre_tasks = (no_steps); tasks = (task_step (record { line = 2; work = (module_work (codes "command") (part (codes "cmd") (literal (text (codes "x"))) (no_parts))); condition = (no_expressions); loop = None; register = (Some (codes "out")); vars = (no_parts); notify = ([]); changed_when = None; failed_when = None; attempts = None; ignore_errors = None }) (task_step (record { line = 3; work = (debug_work (part (codes "msg") (path (other (named_host (codes "db1")) (codes "out")) ((codes "rc") ∷ [])) (no_parts))); condition = (expression (in_batch this_host) (no_expressions)); loop = None; register = None; vars = (no_parts); notify = ([]); changed_when = None; failed_when = None; attempts = None; ignore_errors = None }) (no_steps))); post_tasks = (no_steps); handlers = ([]); forces = false } ∷ [])

abbrev flow_102_inventory : Inventory
flow_102_inventory = record { hosts = (record { name = (codes "db1"); variables = (no_fields) } ∷ record { name = (codes "web1"); variables = (no_fields) } ∷ []); groups = (record { name = (codes "all"); hosts = ((codes "db1") ∷ (codes "web1") ∷ []) } ∷ record { name = (codes "ungrouped"); hosts = ((codes "db1") ∷ (codes "web1") ∷ []) } ∷ []) }

abbrev flow_102_registry : Registry
flow_102_registry = (builtins ++ ([]))

flow_102 : judged flow_102_registry flow_102_inventory flow_102_book ≡ refused (record { code = 2; line = 3; host = (Some (codes "web1")) })
flow_102 = refl

-- flow_106: of the name alone, not of the field
abbrev flow_106_book : Book
flow_106_book = (record { line = 1; pattern = ((codes "all") ∷ []); gathering = None; vars = (no_parts); is_linear = true; serial = ([]); pre_tasks = (no_steps); tasks = (task_step (record { line = 2; work = (module_work (codes "command") (part (codes "cmd") (literal (text (codes "x"))) (no_parts))); condition = (expression (literal (boolean true)) (no_expressions)); loop = None; register = (Some (codes "out")); vars = (no_parts); notify = ([]); changed_when = None; failed_when = None; attempts = None; ignore_errors = None }) (task_step (record { line = 3; work = (debug_work (part (codes "msg") (path (other (named_host (codes "db1")) (codes "out")) ((codes "rc") ∷ [])) (no_parts))); condition = (expression (defined (other (named_host (codes "db1")) (codes "out")) ([])) (no_expressions)); loop = None; register = None; vars = (no_parts); notify = ([]); changed_when = None; failed_when = None; attempts = None; ignore_errors = None }) (no_steps))); post_tasks = (no_steps); handlers = ([]); forces = false } ∷ [])

abbrev flow_106_inventory : Inventory
flow_106_inventory = record { hosts = (record { name = (codes "db1"); variables = (no_fields) } ∷ record { name = (codes "web1"); variables = (no_fields) } ∷ []); groups = (record { name = (codes "all"); hosts = ((codes "db1") ∷ (codes "web1") ∷ []) } ∷ record { name = (codes "ungrouped"); hosts = ((codes "db1") ∷ (codes "web1") ∷ []) } ∷ []) }

abbrev flow_106_registry : Registry
flow_106_registry = (builtins ++ ([]))

flow_106 : judged flow_106_registry flow_106_inventory flow_106_book ≡ refused (record { code = 3; line = 3; host = (Some (codes "db1")) })
flow_106 = refl

-- flow_107: and cases by a test
abbrev flow_107_book : Book
flow_107_book = (record { line = 1; pattern = ((codes "all") ∷ []); gathering = None; vars = (no_parts); is_linear = true; serial = ([]); pre_tasks = (no_steps); tasks = (task_step (record { line = 2; work = (module_work (codes "command") (part (codes "cmd") (literal (text (codes "x"))) (no_parts))); condition = (expression (literal (boolean true)) (no_expressions)); loop = None; register = (Some (codes "out")); vars = (no_parts); notify = ([]); changed_when = None; failed_when = None; attempts = None; ignore_errors = None }) (task_step (record { line = 3; work = (debug_work (part (codes "msg") (path (other (named_host (codes "db1")) (codes "out")) ((codes "rc") ∷ [])) (no_parts))); condition = (expression (defined (other (named_host (codes "db1")) (codes "out")) ([])) (expression (negation (path_status is_skipped (other (named_host (codes "db1")) (codes "out")) ([]))) (no_expressions))); loop = None; register = None; vars = (no_parts); notify = ([]); changed_when = None; failed_when = None; attempts = None; ignore_errors = None }) (no_steps))); post_tasks = (no_steps); handlers = ([]); forces = false } ∷ [])

abbrev flow_107_inventory : Inventory
flow_107_inventory = record { hosts = (record { name = (codes "db1"); variables = (no_fields) } ∷ record { name = (codes "web1"); variables = (no_fields) } ∷ []); groups = (record { name = (codes "all"); hosts = ((codes "db1") ∷ (codes "web1") ∷ []) } ∷ record { name = (codes "ungrouped"); hosts = ((codes "db1") ∷ (codes "web1") ∷ []) } ∷ []) }

abbrev flow_107_registry : Registry
flow_107_registry = (builtins ++ ([]))

flow_107 : judged flow_107_registry flow_107_inventory flow_107_book ≡ accepted 2
flow_107 = refl

-- flow_108: the table joins all writes
abbrev flow_108_book : Book
flow_108_book = (record { line = 1; pattern = ((codes "all") ∷ []); gathering = None; vars = (no_parts); is_linear = true; serial = ([]); pre_tasks = (no_steps); tasks = (task_step (record { line = 2; work = (module_work (codes "command") (part (codes "cmd") (literal (text (codes "x"))) (no_parts))); condition = (no_expressions); loop = None; register = (Some (codes "out")); vars = (no_parts); notify = ([]); changed_when = None; failed_when = None; attempts = None; ignore_errors = None }) (task_step (record { line = 3; work = (module_work (codes "command") (part (codes "cmd") (literal (text (codes "x"))) (no_parts))); condition = (expression (literal (boolean true)) (no_expressions)); loop = None; register = (Some (codes "out")); vars = (no_parts); notify = ([]); changed_when = None; failed_when = None; attempts = None; ignore_errors = None }) (task_step (record { line = 4; work = (debug_work (part (codes "msg") (path (other (named_host (codes "db1")) (codes "out")) ((codes "rc") ∷ [])) (no_parts))); condition = (expression (in_batch (named_host (codes "db1"))) (no_expressions)); loop = None; register = None; vars = (no_parts); notify = ([]); changed_when = None; failed_when = None; attempts = None; ignore_errors = None }) (no_steps)))); post_tasks = (no_steps); handlers = ([]); forces = false } ∷ [])

abbrev flow_108_inventory : Inventory
flow_108_inventory = record { hosts = (record { name = (codes "db1"); variables = (no_fields) } ∷ record { name = (codes "web1"); variables = (no_fields) } ∷ []); groups = (record { name = (codes "all"); hosts = ((codes "db1") ∷ (codes "web1") ∷ []) } ∷ record { name = (codes "ungrouped"); hosts = ((codes "db1") ∷ (codes "web1") ∷ []) } ∷ []) }

abbrev flow_108_registry : Registry
flow_108_registry = (builtins ++ ([]))

flow_108 : judged flow_108_registry flow_108_inventory flow_108_book ≡ refused (record { code = 3; line = 4; host = (Some (codes "db1")) })
flow_108 = refl

-- flow_109: inventory names need no guard
abbrev flow_109_book : Book
flow_109_book = (record { line = 1; pattern = ((codes "all") ∷ []); gathering = None; vars = (no_parts); is_linear = true; serial = ([]); pre_tasks = (no_steps); tasks = (task_step (record { line = 2; work = (debug_work (part (codes "msg") (path (other (named_host (codes "web1")) (codes "x")) ([])) (no_parts))); condition = (no_expressions); loop = None; register = None; vars = (no_parts); notify = ([]); changed_when = None; failed_when = None; attempts = None; ignore_errors = None }) (no_steps)); post_tasks = (no_steps); handlers = ([]); forces = false } ∷ [])

abbrev flow_109_inventory : Inventory
flow_109_inventory = record { hosts = (record { name = (codes "db1"); variables = (field (codes "x") (int (pos 1)) (no_fields)) } ∷ record { name = (codes "web1"); variables = (field (codes "x") (int (pos 1)) (no_fields)) } ∷ []); groups = (record { name = (codes "all"); hosts = ((codes "db1") ∷ (codes "web1") ∷ []) } ∷ record { name = (codes "ungrouped"); hosts = ((codes "db1") ∷ (codes "web1") ∷ []) } ∷ []) }

abbrev flow_109_registry : Registry
flow_109_registry = (builtins ++ ([]))

flow_109 : judged flow_109_registry flow_109_inventory flow_109_book ≡ accepted 0
flow_109 = refl

-- flow_112: vars aren't seen by hostvars
abbrev flow_112_book : Book
flow_112_book = (record { line = 1; pattern = ((codes "all") ∷ []); gathering = None; vars = (part (codes "v") (literal (int (pos 1))) (no_parts)); is_linear = true; serial = ([]); pre_tasks = (no_steps); tasks = (task_step (record { line = 2; work = (module_work (codes "ping") (no_parts)); condition = (no_expressions); loop = None; register = None; vars = (no_parts); notify = ([]); changed_when = None; failed_when = None; attempts = None; ignore_errors = None }) (task_step (record { line = 3; work = (debug_work (part (codes "msg") (path (other (named_host (codes "db1")) (codes "v")) ([])) (no_parts))); condition = (expression (in_batch (named_host (codes "db1"))) (no_expressions)); loop = None; register = None; vars = (no_parts); notify = ([]); changed_when = None; failed_when = None; attempts = None; ignore_errors = None }) (no_steps))); post_tasks = (no_steps); handlers = ([]); forces = false } ∷ [])

abbrev flow_112_inventory : Inventory
flow_112_inventory = record { hosts = (record { name = (codes "db1"); variables = (no_fields) } ∷ record { name = (codes "web1"); variables = (no_fields) } ∷ []); groups = (record { name = (codes "all"); hosts = ((codes "db1") ∷ (codes "web1") ∷ []) } ∷ record { name = (codes "ungrouped"); hosts = ((codes "db1") ∷ (codes "web1") ∷ []) } ∷ []) }

abbrev flow_112_registry : Registry
flow_112_registry = (builtins ++ ([]))

flow_112 : judged flow_112_registry flow_112_inventory flow_112_book ≡ refused (record { code = 2; line = 3; host = (Some (codes "db1")) })
flow_112 = refl
