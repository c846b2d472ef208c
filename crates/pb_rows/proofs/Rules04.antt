-- Cases of rules, computed.
use Rattle.std.specs.Prelude.{◌≡◌, refl, pos, [], ◌∷◌, ◌++◌, true, false, Some, None, codes}
use Rattle.pb_semantics.specs.Data.{int, text, no_fields, field}
use Rattle.pb_language.specs.Expression.{equal, named_host, literal, path, comparison, in_batch, defined, variable, other, no_expressions, expression, no_parts, part}
use Rattle.pb_language.specs.Book.{module_work, debug_work, no_steps, task_step, Book, Registry}
use Rattle.pb_language.specs.Builtins.{builtins}
use Rattle.pb_language.specs.Judged.{judged}
use Rattle.pb_language.specs.Program.{Inventory}
use Rattle.pb_language.specs.Verdict.{refused}

-- rules_154: V12 an earlier one by topic, a later one too
abbrev rules_154_book : Book
rules_154_book = (record { line = 1; pattern = ((codes "all") ∷ []); gathering = None; vars = (no_parts); is_linear = true; serial = ([]); pre_tasks = (no_steps); tasks = (task_step (record { line = 2; work = (module_work (codes "ping") (no_parts)); condition = (no_expressions); loop = None; register = None; vars = (no_parts); notify = ([]); changed_when = None; failed_when = None; attempts = None; ignore_errors = None }) (no_steps)); post_tasks = (no_steps); handlers = (record { work = (record { line = 3; work = (module_work (codes "ping") (no_parts)); condition = (no_expressions); loop = None; register = None; vars = (no_parts); notify = ([]); changed_when = None; failed_when = None; attempts = None; ignore_errors = None }); name = (Some (codes "a")); topics = ((codes "t") ∷ []) } ∷ record { work = (record { line = 4; work = (module_work (codes "ping") (no_parts)); condition = (no_expressions); loop = None; register = None; vars = (no_parts); notify = ((codes "t") ∷ []); changed_when = None; failed_when = None; attempts = None; ignore_errors = None }); name = (Some (codes "b")); topics = ([]) } ∷ record { work = (record { line = 5; work = (module_work (codes "ping") (no_parts)); condition = (no_expressions); loop = None; register = None; vars = (no_parts); notify = ([]); changed_when = None; failed_when = None; attempts = None; ignore_errors = None }); name = (Some (codes "c")); topics = ((codes "t") ∷ []) } ∷ []); forces = false } ∷ [])

abbrev rules_154_inventory : Inventory
rules_154_inventory = record { hosts = (record { name = (codes "h1"); variables = (no_fields) } ∷ []); groups = (record { name = (codes "all"); hosts = ((codes "h1") ∷ []) } ∷ record { name = (codes "ungrouped"); hosts = ((codes "h1") ∷ []) } ∷ []) }

abbrev rules_154_registry : Registry
rules_154_registry = (builtins ++ ([]))

rules_154 : judged rules_154_registry rules_154_inventory rules_154_book ≡ refused (record { code = 12; line = 4; host = None })
rules_154 = refl

-- rules_156: V05 before V12 on one line
abbrev rules_156_book : Book
rules_156_book = (record { line = 1; pattern = ((codes "all") ∷ []); gathering = None; vars = (no_parts); is_linear = true; serial = ([]); pre_tasks = (no_steps); tasks = (task_step (record { line = 2; work = (module_work (codes "ping") (no_parts)); condition = (no_expressions); loop = None; register = None; vars = (no_parts); notify = ([]); changed_when = None; failed_when = None; attempts = None; ignore_errors = None }) (no_steps)); post_tasks = (no_steps); handlers = (record { work = (record { line = 3; work = (module_work (codes "ping") (no_parts)); condition = (no_expressions); loop = None; register = None; vars = (no_parts); notify = ((codes "a") ∷ (codes "zz") ∷ []); changed_when = None; failed_when = None; attempts = None; ignore_errors = None }); name = (Some (codes "a")); topics = ([]) } ∷ []); forces = false } ∷ [])

abbrev rules_156_inventory : Inventory
rules_156_inventory = record { hosts = (record { name = (codes "h1"); variables = (no_fields) } ∷ []); groups = (record { name = (codes "all"); hosts = ((codes "h1") ∷ []) } ∷ record { name = (codes "ungrouped"); hosts = ((codes "h1") ∷ []) } ∷ []) }

abbrev rules_156_registry : Registry
rules_156_registry = (builtins ++ ([]))

rules_156 : judged rules_156_registry rules_156_inventory rules_156_book ≡ refused (record { code = 5; line = 3; host = None })
rules_156 = refl

-- rules_157: V09 hostvars
abbrev rules_157_book : Book
rules_157_book = (record { line = 1; pattern = ((codes "all") ∷ []); gathering = None; vars = (no_parts); is_linear = true; serial = ([]); pre_tasks = (no_steps); tasks = (task_step (record { line = 2; work = (module_work (codes "command") (part (codes "cmd") (literal (text (codes "x"))) (no_parts))); condition = (no_expressions); loop = None; register = (Some (codes "out")); vars = (no_parts); notify = ([]); changed_when = None; failed_when = (Some (expression (comparison equal (path (other (named_host (codes "h1")) (codes "inv")) ([])) (literal (int (pos 1)))) (no_expressions))); attempts = None; ignore_errors = None }) (no_steps)); post_tasks = (no_steps); handlers = ([]); forces = false } ∷ [])

abbrev rules_157_inventory : Inventory
rules_157_inventory = record { hosts = (record { name = (codes "h1"); variables = (no_fields) } ∷ []); groups = (record { name = (codes "all"); hosts = ((codes "h1") ∷ []) } ∷ record { name = (codes "ungrouped"); hosts = ((codes "h1") ∷ []) } ∷ []) }

abbrev rules_157_registry : Registry
rules_157_registry = (builtins ++ ([]))

rules_157 : judged rules_157_registry rules_157_inventory rules_157_book ≡ refused (record { code = 9; line = 2; host = None })
rules_157 = refl

-- rules_158: V09 ansible_play_batch
abbrev rules_158_book : Book
rules_158_book = (record { line = 1; pattern = ((codes "all") ∷ []); gathering = None; vars = (no_parts); is_linear = true; serial = ([]); pre_tasks = (no_steps); tasks = (task_step (record { line = 2; work = (module_work (codes "command") (part (codes "cmd") (literal (text (codes "x"))) (no_parts))); condition = (no_expressions); loop = None; register = (Some (codes "out")); vars = (no_parts); notify = ([]); changed_when = (Some (expression (in_batch (named_host (codes "h1"))) (no_expressions))); failed_when = None; attempts = None; ignore_errors = None }) (no_steps)); post_tasks = (no_steps); handlers = ([]); forces = false } ∷ [])

abbrev rules_158_inventory : Inventory
rules_158_inventory = record { hosts = (record { name = (codes "h1"); variables = (no_fields) } ∷ []); groups = (record { name = (codes "all"); hosts = ((codes "h1") ∷ []) } ∷ record { name = (codes "ungrouped"); hosts = ((codes "h1") ∷ []) } ∷ []) }

abbrev rules_158_registry : Registry
rules_158_registry = (builtins ++ ([]))

rules_158 : judged rules_158_registry rules_158_inventory rules_158_book ≡ refused (record { code = 9; line = 2; host = None })
rules_158 = refl

-- rules_161: V09 through vars
abbrev rules_161_book : Book
rules_161_book = (record { line = 1; pattern = ((codes "all") ∷ []); gathering = None; vars = (part (codes "v") (defined (other (named_host (codes "h1")) (codes "x")) ([])) (no_parts)); is_linear = true; serial = ([]); pre_tasks = (no_steps); tasks = (task_step (record { line = 2; work = (module_work (codes "command") (part (codes "cmd") (literal (text (codes "x"))) (no_parts))); condition = (no_expressions); loop = None; register = (Some (codes "out")); vars = (no_parts); notify = ([]); changed_when = None; failed_when = (Some (expression (path (variable (codes "v")) ([])) (no_expressions))); attempts = None; ignore_errors = None }) (no_steps)); post_tasks = (no_steps); handlers = ([]); forces = false } ∷ [])

abbrev rules_161_inventory : Inventory
rules_161_inventory = record { hosts = (record { name = (codes "h1"); variables = (no_fields) } ∷ []); groups = (record { name = (codes "all"); hosts = ((codes "h1") ∷ []) } ∷ record { name = (codes "ungrouped"); hosts = ((codes "h1") ∷ []) } ∷ []) }

abbrev rules_161_registry : Registry
rules_161_registry = (builtins ++ ([]))

rules_161 : judged rules_161_registry rules_161_inventory rules_161_book ≡ refused (record { code = 9; line = 2; host = None })
rules_161 = refl

-- rules_162: V09 through vars, twice
abbrev rules_162_book : Book
rules_162_book = (record { line = 1; pattern = ((codes "all") ∷ []); gathering = None; vars = (part (codes "v") (defined (other (named_host (codes "h1")) (codes "x")) ([])) (part (codes "w") (path (variable (codes "v")) ([])) (no_parts))); is_linear = true; serial = ([]); pre_tasks = (no_steps); tasks = (task_step (record { line = 2; work = (module_work (codes "command") (part (codes "cmd") (literal (text (codes "x"))) (no_parts))); condition = (no_expressions); loop = None; register = (Some (codes "out")); vars = (no_parts); notify = ([]); changed_when = None; failed_when = (Some (expression (path (variable (codes "w")) ([])) (no_expressions))); attempts = None; ignore_errors = None }) (no_steps)); post_tasks = (no_steps); handlers = ([]); forces = false } ∷ [])

abbrev rules_162_inventory : Inventory
rules_162_inventory = record { hosts = (record { name = (codes "h1"); variables = (no_fields) } ∷ []); groups = (record { name = (codes "all"); hosts = ((codes "h1") ∷ []) } ∷ record { name = (codes "ungrouped"); hosts = ((codes "h1") ∷ []) } ∷ []) }

abbrev rules_162_registry : Registry
rules_162_registry = (builtins ++ ([]))

rules_162 : judged rules_162_registry rules_162_inventory rules_162_book ≡ refused (record { code = 9; line = 2; host = None })
rules_162 = refl

-- rules_165: V12 before V09 on one line
abbrev rules_165_book : Book
rules_165_book = (record { line = 1; pattern = ((codes "all") ∷ []); gathering = None; vars = (no_parts); is_linear = true; serial = ([]); pre_tasks = (no_steps); tasks = (task_step (record { line = 2; work = (module_work (codes "ping") (no_parts)); condition = (no_expressions); loop = None; register = None; vars = (no_parts); notify = ([]); changed_when = None; failed_when = None; attempts = None; ignore_errors = None }) (no_steps)); post_tasks = (no_steps); handlers = (record { work = (record { line = 3; work = (module_work (codes "command") (part (codes "cmd") (literal (text (codes "x"))) (no_parts))); condition = (no_expressions); loop = None; register = (Some (codes "out")); vars = (no_parts); notify = ((codes "a") ∷ []); changed_when = None; failed_when = (Some (expression (in_batch (named_host (codes "a"))) (no_expressions))); attempts = None; ignore_errors = None }); name = (Some (codes "a")); topics = ([]) } ∷ []); forces = false } ∷ [])

abbrev rules_165_inventory : Inventory
rules_165_inventory = record { hosts = (record { name = (codes "h1"); variables = (no_fields) } ∷ []); groups = (record { name = (codes "all"); hosts = ((codes "h1") ∷ []) } ∷ record { name = (codes "ungrouped"); hosts = ((codes "h1") ∷ []) } ∷ []) }

abbrev rules_165_registry : Registry
rules_165_registry = (builtins ++ ([]))

rules_165 : judged rules_165_registry rules_165_inventory rules_165_book ≡ refused (record { code = 12; line = 3; host = None })
rules_165 = refl

-- rules_166: the least line of all
abbrev rules_166_book : Book
rules_166_book = (record { line = 1; pattern = ((codes "all") ∷ []); gathering = None; vars = (no_parts); is_linear = true; serial = ([]); pre_tasks = (no_steps); tasks = (task_step (record { line = 2; work = (debug_work (part (codes "msg") (path (variable (codes "zz")) ([])) (no_parts))); condition = (no_expressions); loop = None; register = None; vars = (no_parts); notify = ([]); changed_when = None; failed_when = None; attempts = None; ignore_errors = None }) (task_step (record { line = 3; work = (module_work (codes "ping") (no_parts)); condition = (no_expressions); loop = None; register = None; vars = (no_parts); notify = ((codes "zz") ∷ []); changed_when = None; failed_when = None; attempts = None; ignore_errors = None }) (task_step (record { line = 4; work = (module_work (codes "ping") (part (codes "zz") (literal (int (pos 1))) (no_parts))); condition = (no_expressions); loop = None; register = None; vars = (no_parts); notify = ([]); changed_when = None; failed_when = None; attempts = None; ignore_errors = None }) (no_steps)))); post_tasks = (no_steps); handlers = ([]); forces = false } ∷ [])

abbrev rules_166_inventory : Inventory
rules_166_inventory = record { hosts = (record { name = (codes "h1"); variables = (no_fields) } ∷ []); groups = (record { name = (codes "all"); hosts = ((codes "h1") ∷ []) } ∷ record { name = (codes "ungrouped"); hosts = ((codes "h1") ∷ []) } ∷ []) }

abbrev rules_166_registry : Registry
rules_166_registry = (builtins ++ ([]))

rules_166 : judged rules_166_registry rules_166_inventory rules_166_book ≡ refused (record { code = 5; line = 3; host = None })
rules_166 = refl

-- rules_169: V10 before V06 on one line
abbrev rules_169_book : Book
rules_169_book = (record { line = 1; pattern = ((codes "all") ∷ []); gathering = None; vars = (no_parts); is_linear = true; serial = ([]); pre_tasks = (no_steps); tasks = (task_step (record { line = 2; work = (debug_work (part (codes "msg") (path (variable (codes "groups")) ((codes "zz") ∷ [])) (no_parts))); condition = (no_expressions); loop = None; register = None; vars = (part (codes "a") (path (variable (codes "a")) ([])) (no_parts)); notify = ([]); changed_when = None; failed_when = None; attempts = None; ignore_errors = None }) (no_steps)); post_tasks = (no_steps); handlers = ([]); forces = false } ∷ [])

abbrev rules_169_inventory : Inventory
rules_169_inventory = record { hosts = (record { name = (codes "h1"); variables = (no_fields) } ∷ []); groups = (record { name = (codes "all"); hosts = ((codes "h1") ∷ []) } ∷ record { name = (codes "ungrouped"); hosts = ((codes "h1") ∷ []) } ∷ []) }

abbrev rules_169_registry : Registry
rules_169_registry = (builtins ++ ([]))

rules_169 : judged rules_169_registry rules_169_inventory rules_169_book ≡ refused (record { code = 10; line = 2; host = None })
rules_169 = refl

-- rules_174: host order: only the second lacks it
abbrev rules_174_book : Book
rules_174_book = (record { line = 1; pattern = ((codes "all") ∷ []); gathering = None; vars = (no_parts); is_linear = true; serial = ([]); pre_tasks = (no_steps); tasks = (task_step (record { line = 2; work = (debug_work (part (codes "msg") (path (variable (codes "x")) ([])) (no_parts))); condition = (no_expressions); loop = None; register = None; vars = (no_parts); notify = ([]); changed_when = None; failed_when = None; attempts = None; ignore_errors = None }) (no_steps)); post_tasks = (no_steps); handlers = ([]); forces = false } ∷ [])

abbrev rules_174_inventory : Inventory
rules_174_inventory = record { hosts = (record { name = (codes "b"); variables = (field (codes "x") (int (pos 1)) (no_fields)) } ∷ record { name = (codes "a"); variables = (no_fields) } ∷ []); groups = (record { name = (codes "all"); hosts = ((codes "b") ∷ (codes "a") ∷ []) } ∷ record { name = (codes "ungrouped"); hosts = ((codes "b") ∷ (codes "a") ∷ []) } ∷ []) }

abbrev rules_174_registry : Registry
rules_174_registry = (builtins ++ ([]))

rules_174 : judged rules_174_registry rules_174_inventory rules_174_book ≡ refused (record { code = 1; line = 2; host = (Some (codes "a")) })
rules_174 = refl

-- rules_175: least line before host order
abbrev rules_175_book : Book
rules_175_book = (record { line = 1; pattern = ((codes "all") ∷ []); gathering = None; vars = (no_parts); is_linear = true; serial = ([]); pre_tasks = (no_steps); tasks = (task_step (record { line = 2; work = (debug_work (part (codes "msg") (path (variable (codes "y")) ([])) (no_parts))); condition = (no_expressions); loop = None; register = None; vars = (no_parts); notify = ([]); changed_when = None; failed_when = None; attempts = None; ignore_errors = None }) (task_step (record { line = 3; work = (debug_work (part (codes "msg") (path (variable (codes "x")) ([])) (no_parts))); condition = (no_expressions); loop = None; register = None; vars = (no_parts); notify = ([]); changed_when = None; failed_when = None; attempts = None; ignore_errors = None }) (no_steps))); post_tasks = (no_steps); handlers = ([]); forces = false } ∷ [])

abbrev rules_175_inventory : Inventory
rules_175_inventory = record { hosts = (record { name = (codes "b"); variables = (field (codes "y") (int (pos 1)) (no_fields)) } ∷ record { name = (codes "a"); variables = (no_fields) } ∷ []); groups = (record { name = (codes "all"); hosts = ((codes "b") ∷ (codes "a") ∷ []) } ∷ record { name = (codes "ungrouped"); hosts = ((codes "b") ∷ (codes "a") ∷ []) } ∷ []) }

abbrev rules_175_registry : Registry
rules_175_registry = (builtins ++ ([]))

rules_175 : judged rules_175_registry rules_175_inventory rules_175_book ≡ refused (record { code = 1; line = 2; host = (Some (codes "a")) })
rules_175 = refl

-- rules_176: order: loop before when
abbrev rules_176_book : Book
rules_176_book = (record { line = 1; pattern = ((codes "all") ∷ []); gathering = None; vars = (no_parts); is_linear = true; serial = ([]); pre_tasks = (no_steps); tasks = (task_step (record { line = 2; work = (module_work (codes "ping") (no_parts)); condition = (expression (path (variable (codes "zz")) ([])) (no_expressions)); loop = (Some (literal (int (pos 5)))); register = None; vars = (no_parts); notify = ([]); changed_when = None; failed_when = None; attempts = None; ignore_errors = None }) (no_steps)); post_tasks = (no_steps); handlers = ([]); forces = false } ∷ [])

abbrev rules_176_inventory : Inventory
rules_176_inventory = record { hosts = (record { name = (codes "h1"); variables = (no_fields) } ∷ []); groups = (record { name = (codes "all"); hosts = ((codes "h1") ∷ []) } ∷ record { name = (codes "ungrouped"); hosts = ((codes "h1") ∷ []) } ∷ []) }

abbrev rules_176_registry : Registry
rules_176_registry = (builtins ++ ([]))

rules_176 : judged rules_176_registry rules_176_inventory rules_176_book ≡ refused (record { code = 4; line = 2; host = (Some (codes "h1")) })
rules_176 = refl
