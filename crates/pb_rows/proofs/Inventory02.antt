-- Cases of inventory, computed.
use Rattle.std.specs.Prelude.{◌≡◌, refl, [], ◌∷◌, ◌++◌, true, false, Some, None, codes}
use Rattle.pb_semantics.specs.Data.{opaque, no_fields, field}
use Rattle.pb_language.specs.Expression.{path, length_of, list_of, variable, no_expressions, expression, no_parts, part}
use Rattle.pb_language.specs.Book.{debug_work, no_steps, task_step, Book, Registry}
use Rattle.pb_language.specs.Builtins.{builtins}
use Rattle.pb_language.specs.Judged.{judged}
use Rattle.pb_language.specs.Program.{Inventory}
use Rattle.pb_language.specs.Verdict.{refused}

-- inventory_065: read [x] | length
abbrev inventory_065_book : Book
inventory_065_book = (record { line = 1; pattern = ((codes "all") ∷ []); gathering = None; vars = (no_parts); is_linear = true; serial = ([]); pre_tasks = (no_steps); tasks = (task_step (record { line = 2; work = (debug_work (part (codes "msg") (length_of (list_of (expression (path (variable (codes "x")) ([])) (no_expressions)))) (no_parts))); condition = (no_expressions); loop = None; register = None; vars = (no_parts); notify = ([]); changed_when = None; failed_when = None; attempts = None; ignore_errors = None }) (no_steps)); post_tasks = (no_steps); handlers = ([]); forces = false } ∷ [])

abbrev inventory_065_inventory : Inventory
inventory_065_inventory = record { hosts = (record { name = (codes "h1"); variables = (field (codes "x") opaque (no_fields)) } ∷ []); groups = (record { name = (codes "all"); hosts = ((codes "h1") ∷ []) } ∷ record { name = (codes "ungrouped"); hosts = ((codes "h1") ∷ []) } ∷ []) }

abbrev inventory_065_registry : Registry
inventory_065_registry = (builtins ++ ([]))

inventory_065 : judged inventory_065_registry inventory_065_inventory inventory_065_book ≡ refused (record { code = 4; line = 2; host = (Some (codes "h1")) })
inventory_065 = refl
