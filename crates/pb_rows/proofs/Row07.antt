-- Cases of row, computed.
use Rattle.std.specs.Prelude.{◌≡◌, refl, pos, [], ◌∷◌, ◌++◌, true, false, Some, None, codes}
use Rattle.std.specs.Fmt.{digits}
use Rattle.pb_semantics.specs.Data.{int, text, no_fields}
use Rattle.pb_language.specs.Expression.{equal, named_host, item_host, literal, path, comparison, in_batch, defined, path_or, list_of, variable, other, no_expressions, expression, no_parts, part}
use Rattle.pb_language.specs.Book.{module_work, debug_work, set_fact_work, fail_work, no_steps, task_step, block_step, Book, Registry}
use Rattle.pb_language.specs.Builtins.{builtins}
use Rattle.pb_language.specs.Judged.{judged}
use Rattle.pb_language.specs.Program.{Inventory}
use Rattle.pb_language.specs.Verdict.{accepted, refused}
use Rattle.pb_rows.specs.Recaps.{recaps_of}

-- row_own_hostvars: failed_when reads hostvars
abbrev row_own_hostvars_book : Book
row_own_hostvars_book = (record { line = 1; pattern = ((codes "all") ∷ []); gathering = None; vars = (no_parts); is_linear = true; serial = ([]); pre_tasks = (no_steps); tasks = (task_step (record { line = 2; work = (module_work (codes "command") (part (codes "cmd") (literal (text (codes "x"))) (no_parts))); condition = (no_expressions); loop = None; register = (Some (codes "out")); vars = (no_parts); notify = ([]); changed_when = None; failed_when = (Some (expression (comparison equal (path (other (named_host (codes "h1")) (codes "out")) ((codes "rc") ∷ [])) (literal (int (pos 1)))) (no_expressions))); attempts = None; ignore_errors = None }) (no_steps)); post_tasks = (no_steps); handlers = ([]); forces = false } ∷ [])

abbrev row_own_hostvars_inventory : Inventory
row_own_hostvars_inventory = record { hosts = (record { name = (codes "h1"); variables = (no_fields) } ∷ []); groups = (record { name = (codes "all"); hosts = ((codes "h1") ∷ []) } ∷ record { name = (codes "ungrouped"); hosts = ((codes "h1") ∷ []) } ∷ []) }

abbrev row_own_hostvars_registry : Registry
row_own_hostvars_registry = (builtins ++ ([]))

row_own_hostvars : judged row_own_hostvars_registry row_own_hostvars_inventory row_own_hostvars_book ≡ refused (record { code = 9; line = 2; host = None })
row_own_hostvars = refl

-- row_unknown_host: an unknown host
abbrev row_unknown_host_book : Book
row_unknown_host_book = (record { line = 1; pattern = ((codes "all") ∷ []); gathering = None; vars = (no_parts); is_linear = true; serial = ([]); pre_tasks = (no_steps); tasks = (task_step (record { line = 2; work = (debug_work (part (codes "msg") (path (other (named_host (codes "zz")) (codes "x")) ([])) (no_parts))); condition = (no_expressions); loop = None; register = None; vars = (no_parts); notify = ([]); changed_when = None; failed_when = None; attempts = None; ignore_errors = None }) (no_steps)); post_tasks = (no_steps); handlers = ([]); forces = false } ∷ [])

abbrev row_unknown_host_inventory : Inventory
row_unknown_host_inventory = record { hosts = (record { name = (codes "h1"); variables = (no_fields) } ∷ []); groups = (record { name = (codes "all"); hosts = ((codes "h1") ∷ []) } ∷ record { name = (codes "ungrouped"); hosts = ((codes "h1") ∷ []) } ∷ []) }

abbrev row_unknown_host_registry : Registry
row_unknown_host_registry = (builtins ++ ([]))

row_unknown_host : judged row_unknown_host_registry row_unknown_host_inventory row_unknown_host_book ≡ refused (record { code = 6; line = 2; host = None })
row_unknown_host = refl

-- row_unknown_default: an unknown host before default
abbrev row_unknown_default_book : Book
row_unknown_default_book = (record { line = 1; pattern = ((codes "all") ∷ []); gathering = None; vars = (no_parts); is_linear = true; serial = ([]); pre_tasks = (no_steps); tasks = (task_step (record { line = 2; work = (debug_work (part (codes "msg") (path_or (other (named_host (codes "zz")) (codes "x")) ([]) (literal (int (pos 1)))) (no_parts))); condition = (no_expressions); loop = None; register = None; vars = (no_parts); notify = ([]); changed_when = None; failed_when = None; attempts = None; ignore_errors = None }) (no_steps)); post_tasks = (no_steps); handlers = ([]); forces = false } ∷ [])

abbrev row_unknown_default_inventory : Inventory
row_unknown_default_inventory = record { hosts = (record { name = (codes "h1"); variables = (no_fields) } ∷ []); groups = (record { name = (codes "all"); hosts = ((codes "h1") ∷ []) } ∷ record { name = (codes "ungrouped"); hosts = ((codes "h1") ∷ []) } ∷ []) }

abbrev row_unknown_default_registry : Registry
row_unknown_default_registry = (builtins ++ ([]))

row_unknown_default : recaps_of row_unknown_default_registry row_unknown_default_inventory row_unknown_default_book 5 (([]) ∷ []) ≡ (record { ok = 1; changed = 0; unreachable = 0; failed = 0; skipped = 0; rescued = 0; ignored = 0 } ∷ [])
unfolding digits
row_unknown_default = refl

-- row_failed_result_there: the failure's text isn't seen through hostvars
abbrev row_failed_result_there_book : Book
row_failed_result_there_book = (record { line = 1; pattern = ((codes "all") ∷ []); gathering = None; vars = (no_parts); is_linear = true; serial = ([]); pre_tasks = (no_steps); tasks = (block_step (record { line = 2; condition = (no_expressions); vars = (no_parts); ignore_errors = None }) (task_step (record { line = 3; work = (fail_work (no_parts)); condition = (no_expressions); loop = None; register = None; vars = (no_parts); notify = ([]); changed_when = None; failed_when = None; attempts = None; ignore_errors = None }) (no_steps)) (task_step (record { line = 4; work = (debug_work (part (codes "msg") (path (other (named_host (codes "h1")) (codes "ansible_failed_result")) ((codes "msg") ∷ [])) (no_parts))); condition = (expression (in_batch (named_host (codes "h1"))) (no_expressions)); loop = None; register = None; vars = (no_parts); notify = ([]); changed_when = None; failed_when = None; attempts = None; ignore_errors = None }) (task_step (record { line = 5; work = (fail_work (no_parts)); condition = (no_expressions); loop = None; register = None; vars = (no_parts); notify = ([]); changed_when = None; failed_when = None; attempts = None; ignore_errors = None }) (no_steps))) (no_steps) (no_steps)); post_tasks = (no_steps); handlers = ([]); forces = false } ∷ [])

abbrev row_failed_result_there_inventory : Inventory
row_failed_result_there_inventory = record { hosts = (record { name = (codes "h1"); variables = (no_fields) } ∷ []); groups = (record { name = (codes "all"); hosts = ((codes "h1") ∷ []) } ∷ record { name = (codes "ungrouped"); hosts = ((codes "h1") ∷ []) } ∷ []) }

abbrev row_failed_result_there_registry : Registry
row_failed_result_there_registry = (builtins ++ ([]))

row_failed_result_there : judged row_failed_result_there_registry row_failed_result_there_inventory row_failed_result_there_book ≡ refused (record { code = 2; line = 4; host = (Some (codes "h1")) })
row_failed_result_there = refl

-- row_later_failure: the text of another host's failure is not said to last
abbrev row_later_failure_book : Book
row_later_failure_book = (record { line = 1; pattern = ((codes "a") ∷ []); gathering = None; vars = (no_parts); is_linear = true; serial = ([]); pre_tasks = (no_steps); tasks = (task_step (record { line = 2; work = (debug_work (part (codes "msg") (path (other (named_host (codes "b")) (codes "ansible_failed_result")) ((codes "msg") ∷ [])) (no_parts))); condition = (expression (in_batch (named_host (codes "b"))) (no_expressions)); loop = None; register = None; vars = (no_parts); notify = ([]); changed_when = None; failed_when = None; attempts = None; ignore_errors = None }) (no_steps)); post_tasks = (no_steps); handlers = ([]); forces = false } ∷ [])

abbrev row_later_failure_inventory : Inventory
row_later_failure_inventory = record { hosts = (record { name = (codes "a"); variables = (no_fields) } ∷ record { name = (codes "b"); variables = (no_fields) } ∷ []); groups = (record { name = (codes "all"); hosts = ((codes "a") ∷ (codes "b") ∷ []) } ∷ record { name = (codes "ungrouped"); hosts = ((codes "a") ∷ (codes "b") ∷ []) } ∷ []) }

abbrev row_later_failure_registry : Registry
row_later_failure_registry = (builtins ++ ([]))

row_later_failure : judged row_later_failure_registry row_later_failure_inventory row_later_failure_book ≡ refused (record { code = 2; line = 2; host = (Some (codes "a")) })
row_later_failure = refl

-- row_item_not_named: what a test teaches of a named host isn't said of an item that can only be that host
abbrev row_item_not_named_book : Book
row_item_not_named_book = (record { line = 1; pattern = ((codes "g") ∷ []); gathering = None; vars = (no_parts); is_linear = true; serial = ([]); pre_tasks = (no_steps); tasks = (task_step (record { line = 2; work = (module_work (codes "stat") (part (codes "path") (literal (text (codes "/"))) (no_parts))); condition = (no_expressions); loop = None; register = (Some (codes "r")); vars = (no_parts); notify = ([]); changed_when = None; failed_when = None; attempts = None; ignore_errors = (Some true) }) (task_step (record { line = 3; work = (debug_work (part (codes "msg") (path (other item_host (codes "r")) ((codes "changed") ∷ [])) (no_parts))); condition = (expression (in_batch (named_host (codes "b"))) (no_expressions)); loop = (Some (path (variable (codes "groups")) ((codes "g") ∷ []))); register = None; vars = (no_parts); notify = ([]); changed_when = None; failed_when = None; attempts = None; ignore_errors = None }) (no_steps))); post_tasks = (no_steps); handlers = ([]); forces = false } ∷ [])

abbrev row_item_not_named_inventory : Inventory
row_item_not_named_inventory = record { hosts = (record { name = (codes "a"); variables = (no_fields) } ∷ record { name = (codes "b"); variables = (no_fields) } ∷ []); groups = (record { name = (codes "all"); hosts = ((codes "a") ∷ (codes "b") ∷ []) } ∷ record { name = (codes "g"); hosts = ((codes "b") ∷ []) } ∷ record { name = (codes "ungrouped"); hosts = ((codes "a") ∷ []) } ∷ []) }

abbrev row_item_not_named_registry : Registry
row_item_not_named_registry = (builtins ++ ([]))

row_item_not_named : judged row_item_not_named_registry row_item_not_named_inventory row_item_not_named_book ≡ refused (record { code = 2; line = 3; host = (Some (codes "b")) })
row_item_not_named = refl

-- row_named_host: of the named host it is said
abbrev row_named_host_book : Book
row_named_host_book = (record { line = 1; pattern = ((codes "g") ∷ []); gathering = None; vars = (no_parts); is_linear = true; serial = ([]); pre_tasks = (no_steps); tasks = (task_step (record { line = 2; work = (module_work (codes "stat") (part (codes "path") (literal (text (codes "/"))) (no_parts))); condition = (no_expressions); loop = None; register = (Some (codes "r")); vars = (no_parts); notify = ([]); changed_when = None; failed_when = None; attempts = None; ignore_errors = (Some true) }) (task_step (record { line = 3; work = (debug_work (part (codes "msg") (path (other (named_host (codes "b")) (codes "r")) ((codes "changed") ∷ [])) (no_parts))); condition = (expression (in_batch (named_host (codes "b"))) (no_expressions)); loop = (Some (path (variable (codes "groups")) ((codes "g") ∷ []))); register = None; vars = (no_parts); notify = ([]); changed_when = None; failed_when = None; attempts = None; ignore_errors = None }) (no_steps))); post_tasks = (no_steps); handlers = ([]); forces = false } ∷ [])

abbrev row_named_host_inventory : Inventory
row_named_host_inventory = record { hosts = (record { name = (codes "a"); variables = (no_fields) } ∷ record { name = (codes "b"); variables = (no_fields) } ∷ []); groups = (record { name = (codes "all"); hosts = ((codes "a") ∷ (codes "b") ∷ []) } ∷ record { name = (codes "g"); hosts = ((codes "b") ∷ []) } ∷ record { name = (codes "ungrouped"); hosts = ((codes "a") ∷ []) } ∷ []) }

abbrev row_named_host_registry : Registry
row_named_host_registry = (builtins ++ ([]))

row_named_host : judged row_named_host_registry row_named_host_inventory row_named_host_book ≡ accepted 1
row_named_host = refl

-- row_item_itself: and of an item by a test of the item
abbrev row_item_itself_book : Book
row_item_itself_book = (record { line = 1; pattern = ((codes "g") ∷ []); gathering = None; vars = (no_parts); is_linear = true; serial = ([]); pre_tasks = (no_steps); tasks = (task_step (record { line = 2; work = (module_work (codes "stat") (part (codes "path") (literal (text (codes "/"))) (no_parts))); condition = (no_expressions); loop = None; register = (Some (codes "r")); vars = (no_parts); notify = ([]); changed_when = None; failed_when = None; attempts = None; ignore_errors = (Some true) }) (task_step (record { line = 3; work = (debug_work (part (codes "msg") (path (other item_host (codes "r")) ((codes "changed") ∷ [])) (no_parts))); condition = (expression (in_batch item_host) (no_expressions)); loop = (Some (path (variable (codes "groups")) ((codes "g") ∷ []))); register = None; vars = (no_parts); notify = ([]); changed_when = None; failed_when = None; attempts = None; ignore_errors = None }) (no_steps))); post_tasks = (no_steps); handlers = ([]); forces = false } ∷ [])

abbrev row_item_itself_inventory : Inventory
row_item_itself_inventory = record { hosts = (record { name = (codes "a"); variables = (no_fields) } ∷ record { name = (codes "b"); variables = (no_fields) } ∷ []); groups = (record { name = (codes "all"); hosts = ((codes "a") ∷ (codes "b") ∷ []) } ∷ record { name = (codes "g"); hosts = ((codes "b") ∷ []) } ∷ record { name = (codes "ungrouped"); hosts = ((codes "a") ∷ []) } ∷ []) }

abbrev row_item_itself_registry : Registry
row_item_itself_registry = (builtins ++ ([]))

row_item_itself : judged row_item_itself_registry row_item_itself_inventory row_item_itself_book ≡ accepted 1
row_item_itself = refl

-- row_item_defined: a path of a named host that is there says nothing of the item
abbrev row_item_defined_book : Book
row_item_defined_book = (record { line = 1; pattern = ((codes "g") ∷ []); gathering = None; vars = (no_parts); is_linear = true; serial = ([]); pre_tasks = (no_steps); tasks = (task_step (record { line = 2; work = (module_work (codes "stat") (part (codes "path") (literal (text (codes "/"))) (no_parts))); condition = (no_expressions); loop = None; register = (Some (codes "r")); vars = (no_parts); notify = ([]); changed_when = None; failed_when = None; attempts = None; ignore_errors = (Some true) }) (task_step (record { line = 3; work = (debug_work (part (codes "msg") (path (other item_host (codes "r")) ((codes "changed") ∷ [])) (no_parts))); condition = (expression (defined (other (named_host (codes "b")) (codes "r")) ([])) (no_expressions)); loop = (Some (path (variable (codes "groups")) ((codes "g") ∷ []))); register = None; vars = (no_parts); notify = ([]); changed_when = None; failed_when = None; attempts = None; ignore_errors = None }) (no_steps))); post_tasks = (no_steps); handlers = ([]); forces = false } ∷ [])

abbrev row_item_defined_inventory : Inventory
row_item_defined_inventory = record { hosts = (record { name = (codes "a"); variables = (no_fields) } ∷ record { name = (codes "b"); variables = (no_fields) } ∷ []); groups = (record { name = (codes "all"); hosts = ((codes "a") ∷ (codes "b") ∷ []) } ∷ record { name = (codes "g"); hosts = ((codes "b") ∷ []) } ∷ record { name = (codes "ungrouped"); hosts = ((codes "a") ∷ []) } ∷ []) }

abbrev row_item_defined_registry : Registry
row_item_defined_registry = (builtins ++ ([]))

row_item_defined : judged row_item_defined_registry row_item_defined_inventory row_item_defined_book ≡ refused (record { code = 2; line = 3; host = (Some (codes "b")) })
row_item_defined = refl

-- row_vars_reserved: a name of `vars` is reserved
abbrev row_vars_reserved_book : Book
row_vars_reserved_book = (record { line = 1; pattern = ((codes "all") ∷ []); gathering = None; vars = (part (codes "groups") (literal (int (pos 1))) (no_parts)); is_linear = true; serial = ([]); pre_tasks = (no_steps); tasks = (task_step (record { line = 2; work = (module_work (codes "ping") (no_parts)); condition = (no_expressions); loop = None; register = None; vars = (no_parts); notify = ([]); changed_when = None; failed_when = None; attempts = None; ignore_errors = None }) (no_steps)); post_tasks = (no_steps); handlers = ([]); forces = false } ∷ [])

abbrev row_vars_reserved_inventory : Inventory
row_vars_reserved_inventory = record { hosts = (record { name = (codes "h1"); variables = (no_fields) } ∷ []); groups = (record { name = (codes "all"); hosts = ((codes "h1") ∷ []) } ∷ record { name = (codes "ungrouped"); hosts = ((codes "h1") ∷ []) } ∷ []) }

abbrev row_vars_reserved_registry : Registry
row_vars_reserved_registry = (builtins ++ ([]))

row_vars_reserved : judged row_vars_reserved_registry row_vars_reserved_inventory row_vars_reserved_book ≡ refused (record { code = 8; line = 1; host = None })
row_vars_reserved = refl

-- row_task_vars_reserved: a name of a task's `vars` is reserved
abbrev row_task_vars_reserved_book : Book
row_task_vars_reserved_book = (record { line = 1; pattern = ((codes "all") ∷ []); gathering = None; vars = (no_parts); is_linear = true; serial = ([]); pre_tasks = (no_steps); tasks = (task_step (record { line = 2; work = (module_work (codes "ping") (no_parts)); condition = (no_expressions); loop = None; register = None; vars = (part (codes "item") (literal (int (pos 1))) (no_parts)); notify = ([]); changed_when = None; failed_when = None; attempts = None; ignore_errors = None }) (no_steps)); post_tasks = (no_steps); handlers = ([]); forces = false } ∷ [])

abbrev row_task_vars_reserved_inventory : Inventory
row_task_vars_reserved_inventory = record { hosts = (record { name = (codes "h1"); variables = (no_fields) } ∷ []); groups = (record { name = (codes "all"); hosts = ((codes "h1") ∷ []) } ∷ record { name = (codes "ungrouped"); hosts = ((codes "h1") ∷ []) } ∷ []) }

abbrev row_task_vars_reserved_registry : Registry
row_task_vars_reserved_registry = (builtins ++ ([]))

row_task_vars_reserved : judged row_task_vars_reserved_registry row_task_vars_reserved_inventory row_task_vars_reserved_book ≡ refused (record { code = 8; line = 2; host = None })
row_task_vars_reserved = refl

-- row_four_rounds: kinds that settle in the fourth round
abbrev row_four_rounds_book : Book
row_four_rounds_book = (record { line = 1; pattern = ((codes "all") ∷ []); gathering = None; vars = (no_parts); is_linear = true; serial = ([]); pre_tasks = (no_steps); tasks = (task_step (record { line = 2; work = (set_fact_work (part (codes "x1") (list_of (expression (literal (text (codes "a"))) (no_expressions))) (no_parts))); condition = (no_expressions); loop = None; register = None; vars = (no_parts); notify = ([]); changed_when = None; failed_when = None; attempts = None; ignore_errors = None }) (task_step (record { line = 3; work = (set_fact_work (part (codes "x2") (path_or (other (named_host (codes "h1")) (codes "x1")) ([]) (list_of (no_expressions))) (no_parts))); condition = (no_expressions); loop = None; register = None; vars = (no_parts); notify = ([]); changed_when = None; failed_when = None; attempts = None; ignore_errors = None }) (task_step (record { line = 4; work = (set_fact_work (part (codes "x3") (path_or (other (named_host (codes "h1")) (codes "x2")) ([]) (list_of (no_expressions))) (no_parts))); condition = (no_expressions); loop = None; register = None; vars = (no_parts); notify = ([]); changed_when = None; failed_when = None; attempts = None; ignore_errors = None }) (task_step (record { line = 5; work = (set_fact_work (part (codes "x4") (path_or (other (named_host (codes "h1")) (codes "x3")) ([]) (list_of (no_expressions))) (no_parts))); condition = (no_expressions); loop = None; register = None; vars = (no_parts); notify = ([]); changed_when = None; failed_when = None; attempts = None; ignore_errors = None }) (no_steps))))); post_tasks = (no_steps); handlers = ([]); forces = false } ∷ [])

abbrev row_four_rounds_inventory : Inventory
row_four_rounds_inventory = record { hosts = (record { name = (codes "h1"); variables = (no_fields) } ∷ []); groups = (record { name = (codes "all"); hosts = ((codes "h1") ∷ []) } ∷ record { name = (codes "ungrouped"); hosts = ((codes "h1") ∷ []) } ∷ []) }

abbrev row_four_rounds_registry : Registry
row_four_rounds_registry = (builtins ++ ([]))

row_four_rounds : judged row_four_rounds_registry row_four_rounds_inventory row_four_rounds_book ≡ accepted 0
row_four_rounds = refl
