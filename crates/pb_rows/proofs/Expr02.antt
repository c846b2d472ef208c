-- Cases of expr, computed.
use Rattle.std.specs.Prelude.{◌≡◌, refl, pos, [], ◌∷◌, ◌++◌, true, false, Some, None, codes}
use Rattle.pb_semantics.specs.Data.{int, text, no_fields, field}
use Rattle.pb_language.specs.Expression.{is_failed, named_host, item_host, literal, path, hostvars_alone, negation, membership, path_status, list_of, variable, other, member, no_expressions, expression, no_parts, part}
use Rattle.pb_language.specs.Book.{module_work, no_steps, task_step, Book, Registry}
use Rattle.pb_language.specs.Builtins.{builtins}
use Rattle.pb_language.specs.Judged.{judged}
use Rattle.pb_language.specs.Program.{Inventory}
use Rattle.pb_language.specs.Verdict.{accepted, refused}

-- expr_056: when
abbrev expr_056_book : Book
expr_056_book = (record { line = 1; pattern = ((codes "all") ∷ []); gathering = None; vars = (no_parts); is_linear = true; serial = ([]); pre_tasks = (no_steps); tasks = (task_step (record { line = 2; work = (module_work (codes "command") (part (codes "cmd") (literal (text (codes "x"))) (no_parts))); condition = (no_expressions); loop = None; register = (Some (codes "out")); vars = (no_parts); notify = ([]); changed_when = None; failed_when = None; attempts = None; ignore_errors = None }) (task_step (record { line = 3; work = (module_work (codes "ping") (no_parts)); condition = (expression (negation (membership (literal (int (pos 1))) (list_of (expression (literal (int (pos 1))) (no_expressions))))) (no_expressions)); loop = None; register = None; vars = (no_parts); notify = ([]); changed_when = None; failed_when = None; attempts = None; ignore_errors = None }) (no_steps))); post_tasks = (no_steps); handlers = ([]); forces = false } ∷ [])

abbrev expr_056_inventory : Inventory
expr_056_inventory = record { hosts = (record { name = (codes "h1"); variables = (field (codes "inv") (int (pos 3)) (no_fields)) } ∷ []); groups = (record { name = (codes "all"); hosts = ((codes "h1") ∷ []) } ∷ record { name = (codes "ungrouped"); hosts = ((codes "h1") ∷ []) } ∷ []) }

abbrev expr_056_registry : Registry
expr_056_registry = (builtins ++ ([]))

expr_056 : judged expr_056_registry expr_056_inventory expr_056_book ≡ accepted 2
expr_056 = refl

-- expr_066: when
abbrev expr_066_book : Book
expr_066_book = (record { line = 1; pattern = ((codes "all") ∷ []); gathering = None; vars = (no_parts); is_linear = true; serial = ([]); pre_tasks = (no_steps); tasks = (task_step (record { line = 2; work = (module_work (codes "command") (part (codes "cmd") (literal (text (codes "x"))) (no_parts))); condition = (no_expressions); loop = None; register = (Some (codes "out")); vars = (no_parts); notify = ([]); changed_when = None; failed_when = None; attempts = None; ignore_errors = None }) (task_step (record { line = 3; work = (module_work (codes "ping") (no_parts)); condition = (expression (path_status is_failed (variable (codes "out")) ([])) (no_expressions)); loop = None; register = None; vars = (no_parts); notify = ([]); changed_when = None; failed_when = None; attempts = None; ignore_errors = None }) (no_steps))); post_tasks = (no_steps); handlers = ([]); forces = false } ∷ [])

abbrev expr_066_inventory : Inventory
expr_066_inventory = record { hosts = (record { name = (codes "h1"); variables = (field (codes "inv") (int (pos 3)) (no_fields)) } ∷ []); groups = (record { name = (codes "all"); hosts = ((codes "h1") ∷ []) } ∷ record { name = (codes "ungrouped"); hosts = ((codes "h1") ∷ []) } ∷ []) }

abbrev expr_066_registry : Registry
expr_066_registry = (builtins ++ ([]))

expr_066 : judged expr_066_registry expr_066_inventory expr_066_book ≡ accepted 2
expr_066 = refl

-- expr_119: when
abbrev expr_119_book : Book
expr_119_book = (record { line = 1; pattern = ((codes "all") ∷ []); gathering = None; vars = (no_parts); is_linear = true; serial = ([]); pre_tasks = (no_steps); tasks = (task_step (record { line = 2; work = (module_work (codes "command") (part (codes "cmd") (literal (text (codes "x"))) (no_parts))); condition = (no_expressions); loop = None; register = (Some (codes "out")); vars = (no_parts); notify = ([]); changed_when = None; failed_when = None; attempts = None; ignore_errors = None }) (task_step (record { line = 3; work = (module_work (codes "ping") (no_parts)); condition = (expression (path (other item_host (codes "x")) ([])) (no_expressions)); loop = None; register = None; vars = (no_parts); notify = ([]); changed_when = None; failed_when = None; attempts = None; ignore_errors = None }) (no_steps))); post_tasks = (no_steps); handlers = ([]); forces = false } ∷ [])

abbrev expr_119_inventory : Inventory
expr_119_inventory = record { hosts = (record { name = (codes "h1"); variables = (field (codes "inv") (int (pos 3)) (no_fields)) } ∷ []); groups = (record { name = (codes "all"); hosts = ((codes "h1") ∷ []) } ∷ record { name = (codes "ungrouped"); hosts = ((codes "h1") ∷ []) } ∷ []) }

abbrev expr_119_registry : Registry
expr_119_registry = (builtins ++ ([]))

expr_119 : judged expr_119_registry expr_119_inventory expr_119_book ≡ refused (record { code = 1; line = 3; host = (Some (codes "h1")) })
expr_119 = refl

-- expr_143: when
abbrev expr_143_book : Book
expr_143_book = (record { line = 1; pattern = ((codes "all") ∷ []); gathering = None; vars = (no_parts); is_linear = true; serial = ([]); pre_tasks = (no_steps); tasks = (task_step (record { line = 2; work = (module_work (codes "command") (part (codes "cmd") (literal (text (codes "x"))) (no_parts))); condition = (no_expressions); loop = None; register = (Some (codes "out")); vars = (no_parts); notify = ([]); changed_when = None; failed_when = None; attempts = None; ignore_errors = None }) (task_step (record { line = 3; work = (module_work (codes "ping") (no_parts)); condition = (expression (path (member (codes "all") 1024) ([])) (no_expressions)); loop = None; register = None; vars = (no_parts); notify = ([]); changed_when = None; failed_when = None; attempts = None; ignore_errors = None }) (no_steps))); post_tasks = (no_steps); handlers = ([]); forces = false } ∷ [])

abbrev expr_143_inventory : Inventory
expr_143_inventory = record { hosts = (record { name = (codes "h1"); variables = (field (codes "inv") (int (pos 3)) (no_fields)) } ∷ []); groups = (record { name = (codes "all"); hosts = ((codes "h1") ∷ []) } ∷ record { name = (codes "ungrouped"); hosts = ((codes "h1") ∷ []) } ∷ []) }

abbrev expr_143_registry : Registry
expr_143_registry = (builtins ++ ([]))

expr_143 : judged expr_143_registry expr_143_inventory expr_143_book ≡ refused (record { code = 6; line = 3; host = None })
expr_143 = refl

-- expr_144: when
abbrev expr_144_book : Book
expr_144_book = (record { line = 1; pattern = ((codes "all") ∷ []); gathering = None; vars = (no_parts); is_linear = true; serial = ([]); pre_tasks = (no_steps); tasks = (task_step (record { line = 2; work = (module_work (codes "command") (part (codes "cmd") (literal (text (codes "x"))) (no_parts))); condition = (no_expressions); loop = None; register = (Some (codes "out")); vars = (no_parts); notify = ([]); changed_when = None; failed_when = None; attempts = None; ignore_errors = None }) (task_step (record { line = 3; work = (module_work (codes "ping") (no_parts)); condition = (expression (path (member (codes "all") 1) ([])) (no_expressions)); loop = None; register = None; vars = (no_parts); notify = ([]); changed_when = None; failed_when = None; attempts = None; ignore_errors = None }) (no_steps))); post_tasks = (no_steps); handlers = ([]); forces = false } ∷ [])

abbrev expr_144_inventory : Inventory
expr_144_inventory = record { hosts = (record { name = (codes "h1"); variables = (field (codes "inv") (int (pos 3)) (no_fields)) } ∷ []); groups = (record { name = (codes "all"); hosts = ((codes "h1") ∷ []) } ∷ record { name = (codes "ungrouped"); hosts = ((codes "h1") ∷ []) } ∷ []) }

abbrev expr_144_registry : Registry
expr_144_registry = (builtins ++ ([]))

expr_144 : judged expr_144_registry expr_144_inventory expr_144_book ≡ refused (record { code = 6; line = 3; host = None })
expr_144 = refl

-- expr_145: when
abbrev expr_145_book : Book
expr_145_book = (record { line = 1; pattern = ((codes "all") ∷ []); gathering = None; vars = (no_parts); is_linear = true; serial = ([]); pre_tasks = (no_steps); tasks = (task_step (record { line = 2; work = (module_work (codes "command") (part (codes "cmd") (literal (text (codes "x"))) (no_parts))); condition = (no_expressions); loop = None; register = (Some (codes "out")); vars = (no_parts); notify = ([]); changed_when = None; failed_when = None; attempts = None; ignore_errors = None }) (task_step (record { line = 3; work = (module_work (codes "ping") (no_parts)); condition = (expression (path (variable (codes "groups")) ((codes "zz") ∷ [])) (no_expressions)); loop = None; register = None; vars = (no_parts); notify = ([]); changed_when = None; failed_when = None; attempts = None; ignore_errors = None }) (no_steps))); post_tasks = (no_steps); handlers = ([]); forces = false } ∷ [])

abbrev expr_145_inventory : Inventory
expr_145_inventory = record { hosts = (record { name = (codes "h1"); variables = (field (codes "inv") (int (pos 3)) (no_fields)) } ∷ []); groups = (record { name = (codes "all"); hosts = ((codes "h1") ∷ []) } ∷ record { name = (codes "ungrouped"); hosts = ((codes "h1") ∷ []) } ∷ []) }

abbrev expr_145_registry : Registry
expr_145_registry = (builtins ++ ([]))

expr_145 : judged expr_145_registry expr_145_inventory expr_145_book ≡ refused (record { code = 6; line = 3; host = None })
expr_145 = refl

-- expr_147: when
abbrev expr_147_book : Book
expr_147_book = (record { line = 1; pattern = ((codes "all") ∷ []); gathering = None; vars = (no_parts); is_linear = true; serial = ([]); pre_tasks = (no_steps); tasks = (task_step (record { line = 2; work = (module_work (codes "command") (part (codes "cmd") (literal (text (codes "x"))) (no_parts))); condition = (no_expressions); loop = None; register = (Some (codes "out")); vars = (no_parts); notify = ([]); changed_when = None; failed_when = None; attempts = None; ignore_errors = None }) (task_step (record { line = 3; work = (module_work (codes "ping") (no_parts)); condition = (expression (path (member (codes "zz") 0) ([])) (no_expressions)); loop = None; register = None; vars = (no_parts); notify = ([]); changed_when = None; failed_when = None; attempts = None; ignore_errors = None }) (no_steps))); post_tasks = (no_steps); handlers = ([]); forces = false } ∷ [])

abbrev expr_147_inventory : Inventory
expr_147_inventory = record { hosts = (record { name = (codes "h1"); variables = (field (codes "inv") (int (pos 3)) (no_fields)) } ∷ []); groups = (record { name = (codes "all"); hosts = ((codes "h1") ∷ []) } ∷ record { name = (codes "ungrouped"); hosts = ((codes "h1") ∷ []) } ∷ []) }

abbrev expr_147_registry : Registry
expr_147_registry = (builtins ++ ([]))

expr_147 : judged expr_147_registry expr_147_inventory expr_147_book ≡ refused (record { code = 6; line = 3; host = None })
expr_147 = refl

-- expr_148: when
abbrev expr_148_book : Book
expr_148_book = (record { line = 1; pattern = ((codes "all") ∷ []); gathering = None; vars = (no_parts); is_linear = true; serial = ([]); pre_tasks = (no_steps); tasks = (task_step (record { line = 2; work = (module_work (codes "command") (part (codes "cmd") (literal (text (codes "x"))) (no_parts))); condition = (no_expressions); loop = None; register = (Some (codes "out")); vars = (no_parts); notify = ([]); changed_when = None; failed_when = None; attempts = None; ignore_errors = None }) (task_step (record { line = 3; work = (module_work (codes "ping") (no_parts)); condition = (expression (path (other (named_host (codes "zz")) (codes "x")) ([])) (no_expressions)); loop = None; register = None; vars = (no_parts); notify = ([]); changed_when = None; failed_when = None; attempts = None; ignore_errors = None }) (no_steps))); post_tasks = (no_steps); handlers = ([]); forces = false } ∷ [])

abbrev expr_148_inventory : Inventory
expr_148_inventory = record { hosts = (record { name = (codes "h1"); variables = (field (codes "inv") (int (pos 3)) (no_fields)) } ∷ []); groups = (record { name = (codes "all"); hosts = ((codes "h1") ∷ []) } ∷ record { name = (codes "ungrouped"); hosts = ((codes "h1") ∷ []) } ∷ []) }

abbrev expr_148_registry : Registry
expr_148_registry = (builtins ++ ([]))

expr_148 : judged expr_148_registry expr_148_inventory expr_148_book ≡ refused (record { code = 6; line = 3; host = None })
expr_148 = refl

-- expr_149: when
abbrev expr_149_book : Book
expr_149_book = (record { line = 1; pattern = ((codes "all") ∷ []); gathering = None; vars = (no_parts); is_linear = true; serial = ([]); pre_tasks = (no_steps); tasks = (task_step (record { line = 2; work = (module_work (codes "command") (part (codes "cmd") (literal (text (codes "x"))) (no_parts))); condition = (no_expressions); loop = None; register = (Some (codes "out")); vars = (no_parts); notify = ([]); changed_when = None; failed_when = None; attempts = None; ignore_errors = None }) (task_step (record { line = 3; work = (module_work (codes "ping") (no_parts)); condition = (expression (hostvars_alone (Some (named_host (codes "zz")))) (no_expressions)); loop = None; register = None; vars = (no_parts); notify = ([]); changed_when = None; failed_when = None; attempts = None; ignore_errors = None }) (no_steps))); post_tasks = (no_steps); handlers = ([]); forces = false } ∷ [])

abbrev expr_149_inventory : Inventory
expr_149_inventory = record { hosts = (record { name = (codes "h1"); variables = (field (codes "inv") (int (pos 3)) (no_fields)) } ∷ []); groups = (record { name = (codes "all"); hosts = ((codes "h1") ∷ []) } ∷ record { name = (codes "ungrouped"); hosts = ((codes "h1") ∷ []) } ∷ []) }

abbrev expr_149_registry : Registry
expr_149_registry = (builtins ++ ([]))

expr_149 : judged expr_149_registry expr_149_inventory expr_149_book ≡ refused (record { code = 6; line = 3; host = None })
expr_149 = refl

-- expr_150: when
abbrev expr_150_book : Book
expr_150_book = (record { line = 1; pattern = ((codes "all") ∷ []); gathering = None; vars = (no_parts); is_linear = true; serial = ([]); pre_tasks = (no_steps); tasks = (task_step (record { line = 2; work = (module_work (codes "command") (part (codes "cmd") (literal (text (codes "x"))) (no_parts))); condition = (no_expressions); loop = None; register = (Some (codes "out")); vars = (no_parts); notify = ([]); changed_when = None; failed_when = None; attempts = None; ignore_errors = None }) (task_step (record { line = 3; work = (module_work (codes "ping") (no_parts)); condition = (expression (membership (literal (text (codes "zz"))) (path (variable (codes "groups")) ([]))) (no_expressions)); loop = None; register = None; vars = (no_parts); notify = ([]); changed_when = None; failed_when = None; attempts = None; ignore_errors = None }) (no_steps))); post_tasks = (no_steps); handlers = ([]); forces = false } ∷ [])

abbrev expr_150_inventory : Inventory
expr_150_inventory = record { hosts = (record { name = (codes "h1"); variables = (field (codes "inv") (int (pos 3)) (no_fields)) } ∷ []); groups = (record { name = (codes "all"); hosts = ((codes "h1") ∷ []) } ∷ record { name = (codes "ungrouped"); hosts = ((codes "h1") ∷ []) } ∷ []) }

abbrev expr_150_registry : Registry
expr_150_registry = (builtins ++ ([]))

expr_150 : judged expr_150_registry expr_150_inventory expr_150_book ≡ accepted 2
expr_150 = refl

-- expr_154: when
abbrev expr_154_book : Book
expr_154_book = (record { line = 1; pattern = ((codes "all") ∷ []); gathering = None; vars = (no_parts); is_linear = true; serial = ([]); pre_tasks = (no_steps); tasks = (task_step (record { line = 2; work = (module_work (codes "command") (part (codes "cmd") (literal (text (codes "x"))) (no_parts))); condition = (no_expressions); loop = None; register = (Some (codes "out")); vars = (no_parts); notify = ([]); changed_when = None; failed_when = None; attempts = None; ignore_errors = None }) (task_step (record { line = 3; work = (module_work (codes "ping") (no_parts)); condition = (expression (path (variable (codes "item")) ([])) (no_expressions)); loop = None; register = None; vars = (no_parts); notify = ([]); changed_when = None; failed_when = None; attempts = None; ignore_errors = None }) (no_steps))); post_tasks = (no_steps); handlers = ([]); forces = false } ∷ [])

abbrev expr_154_inventory : Inventory
expr_154_inventory = record { hosts = (record { name = (codes "h1"); variables = (field (codes "inv") (int (pos 3)) (no_fields)) } ∷ []); groups = (record { name = (codes "all"); hosts = ((codes "h1") ∷ []) } ∷ record { name = (codes "ungrouped"); hosts = ((codes "h1") ∷ []) } ∷ []) }

abbrev expr_154_registry : Registry
expr_154_registry = (builtins ++ ([]))

expr_154 : judged expr_154_registry expr_154_inventory expr_154_book ≡ refused (record { code = 1; line = 3; host = (Some (codes "h1")) })
expr_154 = refl

-- expr_162: when
abbrev expr_162_book : Book
expr_162_book = (record { line = 1; pattern = ((codes "all") ∷ []); gathering = None; vars = (no_parts); is_linear = true; serial = ([]); pre_tasks = (no_steps); tasks = (task_step (record { line = 2; work = (module_work (codes "command") (part (codes "cmd") (literal (text (codes "x"))) (no_parts))); condition = (no_expressions); loop = None; register = (Some (codes "out")); vars = (no_parts); notify = ([]); changed_when = None; failed_when = None; attempts = None; ignore_errors = None }) (task_step (record { line = 3; work = (module_work (codes "ping") (no_parts)); condition = (expression (path (variable (codes "a")) ((codes "b") ∷ [])) (no_expressions)); loop = None; register = None; vars = (no_parts); notify = ([]); changed_when = None; failed_when = None; attempts = None; ignore_errors = None }) (no_steps))); post_tasks = (no_steps); handlers = ([]); forces = false } ∷ [])

abbrev expr_162_inventory : Inventory
expr_162_inventory = record { hosts = (record { name = (codes "h1"); variables = (field (codes "inv") (int (pos 3)) (no_fields)) } ∷ []); groups = (record { name = (codes "all"); hosts = ((codes "h1") ∷ []) } ∷ record { name = (codes "ungrouped"); hosts = ((codes "h1") ∷ []) } ∷ []) }

abbrev expr_162_registry : Registry
expr_162_registry = (builtins ++ ([]))

expr_162 : judged expr_162_registry expr_162_inventory expr_162_book ≡ refused (record { code = 1; line = 3; host = (Some (codes "h1")) })
expr_162 = refl
