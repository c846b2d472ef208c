-- Cases of groups, computed.
use Rattle.std.specs.Prelude.{◌≡◌, refl, pos, [], ◌∷◌, ◌++◌, true, false, Some, None, codes}
use Rattle.std.specs.Fmt.{digits}
use Rattle.pb_semantics.specs.Data.{int, text, no_fields, field}
use Rattle.pb_language.specs.Expression.{equal, literal, path, negation, comparison, defined, list_of, variable, member, no_expressions, expression, no_parts}
use Rattle.pb_language.specs.Book.{conditions_are, assert_work, no_steps, task_step, Book, Registry}
use Rattle.pb_language.specs.Builtins.{builtins}
use Rattle.pb_language.specs.Program.{Inventory}
use Rattle.pb_rows.specs.Recaps.{recaps_of}

-- groups_001: deeper groups win
abbrev groups_001_book : Book
groups_001_book = (record { line = 1; pattern = ((codes "all") ∷ []); gathering = None; vars = (no_parts); is_linear = true; serial = ([]); pre_tasks = (no_steps); tasks = (task_step (record { line = 2; work = (assert_work (conditions_are (expression (comparison equal (path (variable (codes "p")) ([])) (literal (text (codes "w2")))) (no_expressions))) (no_parts)); condition = (no_expressions); loop = None; register = None; vars = (no_parts); notify = ([]); changed_when = None; failed_when = None; attempts = None; ignore_errors = (Some true) }) (task_step (record { line = 3; work = (assert_work (conditions_are (expression (comparison equal (path (variable (codes "q")) ([])) (literal (text (codes "all")))) (no_expressions))) (no_parts)); condition = (no_expressions); loop = None; register = None; vars = (no_parts); notify = ([]); changed_when = None; failed_when = None; attempts = None; ignore_errors = (Some true) }) (no_steps))); post_tasks = (no_steps); handlers = ([]); forces = false } ∷ [])

abbrev groups_001_inventory : Inventory
groups_001_inventory = record { hosts = (record { name = (codes "h2"); variables = (field (codes "p") (text (codes "w2")) (field (codes "q") (text (codes "all")) (no_fields))) } ∷ record { name = (codes "h1"); variables = (field (codes "p") (text (codes "w2")) (field (codes "q") (text (codes "all")) (no_fields))) } ∷ []); groups = (record { name = (codes "all"); hosts = ((codes "h2") ∷ (codes "h1") ∷ []) } ∷ record { name = (codes "ungrouped"); hosts = ([]) } ∷ record { name = (codes "w2"); hosts = ((codes "h2") ∷ (codes "h1") ∷ []) } ∷ record { name = (codes "web"); hosts = ((codes "h1") ∷ (codes "h2") ∷ []) } ∷ []) }

abbrev groups_001_registry : Registry
groups_001_registry = (builtins ++ ([]))

groups_001 : recaps_of groups_001_registry groups_001_inventory groups_001_book 5 (([]) ∷ ([]) ∷ []) ≡ (record { ok = 2; changed = 0; unreachable = 0; failed = 0; skipped = 0; rescued = 0; ignored = 0 } ∷ record { ok = 2; changed = 0; unreachable = 0; failed = 0; skipped = 0; rescued = 0; ignored = 0 } ∷ [])
unfolding digits
groups_001 = refl

-- groups_003: by name within a depth
abbrev groups_003_book : Book
groups_003_book = (record { line = 1; pattern = ((codes "all") ∷ []); gathering = None; vars = (no_parts); is_linear = true; serial = ([]); pre_tasks = (no_steps); tasks = (task_step (record { line = 2; work = (assert_work (conditions_are (expression (comparison equal (path (variable (codes "p")) ([])) (literal (int (pos 2)))) (no_expressions))) (no_parts)); condition = (no_expressions); loop = None; register = None; vars = (no_parts); notify = ([]); changed_when = None; failed_when = None; attempts = None; ignore_errors = (Some true) }) (no_steps)); post_tasks = (no_steps); handlers = ([]); forces = false } ∷ [])

abbrev groups_003_inventory : Inventory
groups_003_inventory = record { hosts = (record { name = (codes "h1"); variables = (field (codes "p") (int (pos 2)) (no_fields)) } ∷ []); groups = (record { name = (codes "a"); hosts = ((codes "h1") ∷ []) } ∷ record { name = (codes "all"); hosts = ((codes "h1") ∷ []) } ∷ record { name = (codes "b"); hosts = ((codes "h1") ∷ []) } ∷ record { name = (codes "ungrouped"); hosts = ([]) } ∷ []) }

abbrev groups_003_registry : Registry
groups_003_registry = (builtins ++ ([]))

groups_003 : recaps_of groups_003_registry groups_003_inventory groups_003_book 5 (([]) ∷ []) ≡ (record { ok = 1; changed = 0; unreachable = 0; failed = 0; skipped = 0; rescued = 0; ignored = 0 } ∷ [])
unfolding digits
groups_003 = refl

-- groups_004: by bytes of the name
abbrev groups_004_book : Book
groups_004_book = (record { line = 1; pattern = ((codes "all") ∷ []); gathering = None; vars = (no_parts); is_linear = true; serial = ([]); pre_tasks = (no_steps); tasks = (task_step (record { line = 2; work = (assert_work (conditions_are (expression (comparison equal (path (variable (codes "p")) ([])) (literal (int (pos 1)))) (no_expressions))) (no_parts)); condition = (no_expressions); loop = None; register = None; vars = (no_parts); notify = ([]); changed_when = None; failed_when = None; attempts = None; ignore_errors = (Some true) }) (no_steps)); post_tasks = (no_steps); handlers = ([]); forces = false } ∷ [])

abbrev groups_004_inventory : Inventory
groups_004_inventory = record { hosts = (record { name = (codes "h1"); variables = (field (codes "p") (int (pos 1)) (no_fields)) } ∷ []); groups = (record { name = (codes "B"); hosts = ((codes "h1") ∷ []) } ∷ record { name = (codes "a"); hosts = ((codes "h1") ∷ []) } ∷ record { name = (codes "all"); hosts = ((codes "h1") ∷ []) } ∷ record { name = (codes "ungrouped"); hosts = ([]) } ∷ []) }

abbrev groups_004_registry : Registry
groups_004_registry = (builtins ++ ([]))

groups_004 : recaps_of groups_004_registry groups_004_inventory groups_004_book 5 (([]) ∷ []) ≡ (record { ok = 1; changed = 0; unreachable = 0; failed = 0; skipped = 0; rescued = 0; ignored = 0 } ∷ [])
unfolding digits
groups_004 = refl

-- groups_007: the greatest depth of the parents counts
abbrev groups_007_book : Book
groups_007_book = (record { line = 1; pattern = ((codes "all") ∷ []); gathering = None; vars = (no_parts); is_linear = true; serial = ([]); pre_tasks = (no_steps); tasks = (task_step (record { line = 2; work = (assert_work (conditions_are (expression (comparison equal (path (variable (codes "p")) ([])) (literal (text (codes "zz")))) (no_expressions))) (no_parts)); condition = (no_expressions); loop = None; register = None; vars = (no_parts); notify = ([]); changed_when = None; failed_when = None; attempts = None; ignore_errors = (Some true) }) (task_step (record { line = 3; work = (assert_work (conditions_are (expression (comparison equal (path (variable (codes "p")) ([])) (literal (text (codes "x")))) (no_expressions))) (no_parts)); condition = (no_expressions); loop = None; register = None; vars = (no_parts); notify = ([]); changed_when = None; failed_when = None; attempts = None; ignore_errors = (Some true) }) (no_steps))); post_tasks = (no_steps); handlers = ([]); forces = false } ∷ [])

abbrev groups_007_inventory : Inventory
groups_007_inventory = record { hosts = (record { name = (codes "h1"); variables = (field (codes "p") (text (codes "zz")) (no_fields)) } ∷ []); groups = (record { name = (codes "a"); hosts = ((codes "h1") ∷ []) } ∷ record { name = (codes "all"); hosts = ((codes "h1") ∷ []) } ∷ record { name = (codes "b"); hosts = ((codes "h1") ∷ []) } ∷ record { name = (codes "c"); hosts = ((codes "h1") ∷ []) } ∷ record { name = (codes "ungrouped"); hosts = ([]) } ∷ record { name = (codes "x"); hosts = ((codes "h1") ∷ []) } ∷ record { name = (codes "y"); hosts = ((codes "h1") ∷ []) } ∷ record { name = (codes "z"); hosts = ((codes "h1") ∷ []) } ∷ record { name = (codes "zz"); hosts = ((codes "h1") ∷ []) } ∷ []) }

abbrev groups_007_registry : Registry
groups_007_registry = (builtins ++ ([]))

groups_007 : recaps_of groups_007_registry groups_007_inventory groups_007_book 5 (([]) ∷ []) ≡ (record { ok = 2; changed = 0; unreachable = 0; failed = 0; skipped = 0; rescued = 0; ignored = 1 } ∷ [])
unfolding digits
groups_007 = refl

-- groups_008: a child of all alone has depth 1
abbrev groups_008_book : Book
groups_008_book = (record { line = 1; pattern = ((codes "all") ∷ []); gathering = None; vars = (no_parts); is_linear = true; serial = ([]); pre_tasks = (no_steps); tasks = (task_step (record { line = 2; work = (assert_work (conditions_are (expression (comparison equal (path (variable (codes "p")) ([])) (literal (text (codes "z")))) (no_expressions))) (no_parts)); condition = (no_expressions); loop = None; register = None; vars = (no_parts); notify = ([]); changed_when = None; failed_when = None; attempts = None; ignore_errors = (Some true) }) (no_steps)); post_tasks = (no_steps); handlers = ([]); forces = false } ∷ [])

abbrev groups_008_inventory : Inventory
groups_008_inventory = record { hosts = (record { name = (codes "h1"); variables = (field (codes "p") (text (codes "z")) (no_fields)) } ∷ []); groups = (record { name = (codes "a"); hosts = ((codes "h1") ∷ []) } ∷ record { name = (codes "all"); hosts = ((codes "h1") ∷ []) } ∷ record { name = (codes "ungrouped"); hosts = ([]) } ∷ record { name = (codes "z"); hosts = ((codes "h1") ∷ []) } ∷ []) }

abbrev groups_008_registry : Registry
groups_008_registry = (builtins ++ ([]))

groups_008 : recaps_of groups_008_registry groups_008_inventory groups_008_book 5 (([]) ∷ []) ≡ (record { ok = 1; changed = 0; unreachable = 0; failed = 0; skipped = 0; rescued = 0; ignored = 0 } ∷ [])
unfolding digits
groups_008 = refl

-- groups_014: host order: groups by bytes
abbrev groups_014_book : Book
groups_014_book = (record { line = 1; pattern = ((codes "all") ∷ []); gathering = None; vars = (no_parts); is_linear = true; serial = ([]); pre_tasks = (no_steps); tasks = (task_step (record { line = 2; work = (assert_work (conditions_are (expression (comparison equal (path (variable (codes "groups")) ((codes "all") ∷ [])) (list_of (expression (literal (text (codes "h9"))) (expression (literal (text (codes "h3"))) (expression (literal (text (codes "h1"))) (expression (literal (text (codes "h2"))) (no_expressions))))))) (no_expressions))) (no_parts)); condition = (no_expressions); loop = None; register = None; vars = (no_parts); notify = ([]); changed_when = None; failed_when = None; attempts = None; ignore_errors = (Some true) }) (no_steps)); post_tasks = (no_steps); handlers = ([]); forces = false } ∷ [])

abbrev groups_014_inventory : Inventory
groups_014_inventory = record { hosts = (record { name = (codes "h9"); variables = (no_fields) } ∷ record { name = (codes "h3"); variables = (no_fields) } ∷ record { name = (codes "h1"); variables = (no_fields) } ∷ record { name = (codes "h2"); variables = (no_fields) } ∷ []); groups = (record { name = (codes "B"); hosts = ((codes "h9") ∷ []) } ∷ record { name = (codes "a"); hosts = ((codes "h3") ∷ (codes "h1") ∷ []) } ∷ record { name = (codes "all"); hosts = ((codes "h9") ∷ (codes "h3") ∷ (codes "h1") ∷ (codes "h2") ∷ []) } ∷ record { name = (codes "b"); hosts = ((codes "h1") ∷ (codes "h2") ∷ []) } ∷ record { name = (codes "ungrouped"); hosts = ([]) } ∷ []) }

abbrev groups_014_registry : Registry
groups_014_registry = (builtins ++ ([]))

groups_014 : recaps_of groups_014_registry groups_014_inventory groups_014_book 5 (([]) ∷ ([]) ∷ ([]) ∷ ([]) ∷ []) ≡ (record { ok = 1; changed = 0; unreachable = 0; failed = 0; skipped = 0; rescued = 0; ignored = 0 } ∷ record { ok = 1; changed = 0; unreachable = 0; failed = 0; skipped = 0; rescued = 0; ignored = 0 } ∷ record { ok = 1; changed = 0; unreachable = 0; failed = 0; skipped = 0; rescued = 0; ignored = 0 } ∷ record { ok = 1; changed = 0; unreachable = 0; failed = 0; skipped = 0; rescued = 0; ignored = 0 } ∷ [])
unfolding digits
groups_014 = refl

-- groups_016: own hosts, then those of the children
abbrev groups_016_book : Book
groups_016_book = (record { line = 1; pattern = ((codes "all") ∷ []); gathering = None; vars = (no_parts); is_linear = true; serial = ([]); pre_tasks = (no_steps); tasks = (task_step (record { line = 2; work = (assert_work (conditions_are (expression (comparison equal (path (variable (codes "groups")) ((codes "p") ∷ [])) (list_of (expression (literal (text (codes "h5"))) (expression (literal (text (codes "h2"))) (expression (literal (text (codes "h1"))) (no_expressions)))))) (no_expressions))) (no_parts)); condition = (no_expressions); loop = None; register = None; vars = (no_parts); notify = ([]); changed_when = None; failed_when = None; attempts = None; ignore_errors = (Some true) }) (no_steps)); post_tasks = (no_steps); handlers = ([]); forces = false } ∷ [])

abbrev groups_016_inventory : Inventory
groups_016_inventory = record { hosts = (record { name = (codes "h1"); variables = (no_fields) } ∷ record { name = (codes "h5"); variables = (no_fields) } ∷ record { name = (codes "h2"); variables = (no_fields) } ∷ []); groups = (record { name = (codes "all"); hosts = ((codes "h1") ∷ (codes "h5") ∷ (codes "h2") ∷ []) } ∷ record { name = (codes "c1"); hosts = ((codes "h1") ∷ (codes "h5") ∷ []) } ∷ record { name = (codes "c2"); hosts = ((codes "h2") ∷ (codes "h1") ∷ []) } ∷ record { name = (codes "p"); hosts = ((codes "h5") ∷ (codes "h2") ∷ (codes "h1") ∷ []) } ∷ record { name = (codes "ungrouped"); hosts = ([]) } ∷ []) }

abbrev groups_016_registry : Registry
groups_016_registry = (builtins ++ ([]))

groups_016 : recaps_of groups_016_registry groups_016_inventory groups_016_book 5 (([]) ∷ ([]) ∷ ([]) ∷ []) ≡ (record { ok = 1; changed = 0; unreachable = 0; failed = 0; skipped = 0; rescued = 0; ignored = 0 } ∷ record { ok = 1; changed = 0; unreachable = 0; failed = 0; skipped = 0; rescued = 0; ignored = 0 } ∷ record { ok = 1; changed = 0; unreachable = 0; failed = 0; skipped = 0; rescued = 0; ignored = 0 } ∷ [])
unfolding digits
groups_016 = refl

-- groups_017: a host twice in a list
abbrev groups_017_book : Book
groups_017_book = (record { line = 1; pattern = ((codes "all") ∷ []); gathering = None; vars = (no_parts); is_linear = true; serial = ([]); pre_tasks = (no_steps); tasks = (task_step (record { line = 2; work = (assert_work (conditions_are (expression (comparison equal (path (variable (codes "groups")) ((codes "a") ∷ [])) (list_of (expression (literal (text (codes "h1"))) (no_expressions)))) (no_expressions))) (no_parts)); condition = (no_expressions); loop = None; register = None; vars = (no_parts); notify = ([]); changed_when = None; failed_when = None; attempts = None; ignore_errors = (Some true) }) (no_steps)); post_tasks = (no_steps); handlers = ([]); forces = false } ∷ [])

abbrev groups_017_inventory : Inventory
groups_017_inventory = record { hosts = (record { name = (codes "h1"); variables = (no_fields) } ∷ []); groups = (record { name = (codes "a"); hosts = ((codes "h1") ∷ []) } ∷ record { name = (codes "all"); hosts = ((codes "h1") ∷ []) } ∷ record { name = (codes "ungrouped"); hosts = ([]) } ∷ []) }

abbrev groups_017_registry : Registry
groups_017_registry = (builtins ++ ([]))

groups_017 : recaps_of groups_017_registry groups_017_inventory groups_017_book 5 (([]) ∷ []) ≡ (record { ok = 1; changed = 0; unreachable = 0; failed = 0; skipped = 0; rescued = 0; ignored = 0 } ∷ [])
unfolding digits
groups_017 = refl

-- groups_019: groups: unknown under a test
abbrev groups_019_book : Book
groups_019_book = (record { line = 1; pattern = ((codes "all") ∷ []); gathering = None; vars = (no_parts); is_linear = true; serial = ([]); pre_tasks = (no_steps); tasks = (task_step (record { line = 2; work = (assert_work (conditions_are (expression (negation (defined (variable (codes "groups")) ((codes "zz") ∷ []))) (no_expressions))) (no_parts)); condition = (no_expressions); loop = None; register = None; vars = (no_parts); notify = ([]); changed_when = None; failed_when = None; attempts = None; ignore_errors = (Some true) }) (task_step (record { line = 3; work = (assert_work (conditions_are (expression (negation (defined (member (codes "zz") 0) ([]))) (no_expressions))) (no_parts)); condition = (no_expressions); loop = None; register = None; vars = (no_parts); notify = ([]); changed_when = None; failed_when = None; attempts = None; ignore_errors = (Some true) }) (task_step (record { line = 4; work = (assert_work (conditions_are (expression (negation (defined (member (codes "all") 1) ([]))) (no_expressions))) (no_parts)); condition = (no_expressions); loop = None; register = None; vars = (no_parts); notify = ([]); changed_when = None; failed_when = None; attempts = None; ignore_errors = (Some true) }) (task_step (record { line = 5; work = (assert_work (conditions_are (expression (comparison equal (path (member (codes "all") 0) ([])) (literal (text (codes "h1")))) (no_expressions))) (no_parts)); condition = (no_expressions); loop = None; register = None; vars = (no_parts); notify = ([]); changed_when = None; failed_when = None; attempts = None; ignore_errors = (Some true) }) (no_steps))))); post_tasks = (no_steps); handlers = ([]); forces = false } ∷ [])

abbrev groups_019_inventory : Inventory
groups_019_inventory = record { hosts = (record { name = (codes "h1"); variables = (no_fields) } ∷ []); groups = (record { name = (codes "all"); hosts = ((codes "h1") ∷ []) } ∷ record { name = (codes "ungrouped"); hosts = ((codes "h1") ∷ []) } ∷ []) }

abbrev groups_019_registry : Registry
groups_019_registry = (builtins ++ ([]))

groups_019 : recaps_of groups_019_registry groups_019_inventory groups_019_book 5 (([]) ∷ []) ≡ (record { ok = 4; changed = 0; unreachable = 0; failed = 0; skipped = 0; rescued = 0; ignored = 0 } ∷ [])
unfolding digits
groups_019 = refl
