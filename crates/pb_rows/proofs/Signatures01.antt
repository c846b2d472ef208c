-- Cases of signatures, computed.
use Rattle.std.specs.Prelude.{◌≡◌, refl, pos, [], ◌∷◌, ◌++◌, true, false, Some, None, codes}
use Rattle.pb_semantics.specs.Data.{int, no_fields}
use Rattle.pb_semantics.specs.Kind.{booleans, ints, texts, lists, recs, no_slots, slot}
use Rattle.pb_language.specs.Expression.{literal, list_of, record_of, no_expressions, expression, no_parts, part}
use Rattle.pb_language.specs.Book.{module_work, no_steps, task_step, Book, Registry}
use Rattle.pb_language.specs.Builtins.{builtins}
use Rattle.pb_language.specs.Judged.{judged}
use Rattle.pb_language.specs.Program.{Inventory}
use Rattle.pb_language.specs.Verdict.{accepted, refused}

-- signatures_001: none
abbrev signatures_001_book : Book
signatures_001_book = ([])

abbrev signatures_001_inventory : Inventory
signatures_001_inventory = record { hosts = (record { name = (codes "h1"); variables = (no_fields) } ∷ []); groups = (record { name = (codes "all"); hosts = ((codes "h1") ∷ []) } ∷ record { name = (codes "ungrouped"); hosts = ((codes "h1") ∷ []) } ∷ []) }

abbrev signatures_001_registry : Registry
signatures_001_registry = (builtins ++ ([]))

signatures_001 : judged signatures_001_registry signatures_001_inventory signatures_001_book ≡ accepted 0
signatures_001 = refl

-- signatures_035: name withx
abbrev signatures_035_book : Book
signatures_035_book = ([])

abbrev signatures_035_inventory : Inventory
signatures_035_inventory = record { hosts = (record { name = (codes "h1"); variables = (no_fields) } ∷ []); groups = (record { name = (codes "all"); hosts = ((codes "h1") ∷ []) } ∷ record { name = (codes "ungrouped"); hosts = ((codes "h1") ∷ []) } ∷ []) }

abbrev signatures_035_registry : Registry
signatures_035_registry = (builtins ++ (record { name = (codes "withx"); params = ([]); ok = recs (slot (codes "changed") true booleans (no_slots)); failure = recs (slot (codes "changed") true booleans (slot (codes "msg") true texts (no_slots))); free = None } ∷ []))

signatures_035 : judged signatures_035_registry signatures_035_inventory signatures_035_book ≡ accepted 0
signatures_035 = refl

-- signatures_037: name ansible
abbrev signatures_037_book : Book
signatures_037_book = ([])

abbrev signatures_037_inventory : Inventory
signatures_037_inventory = record { hosts = (record { name = (codes "h1"); variables = (no_fields) } ∷ []); groups = (record { name = (codes "all"); hosts = ((codes "h1") ∷ []) } ∷ record { name = (codes "ungrouped"); hosts = ((codes "h1") ∷ []) } ∷ []) }

abbrev signatures_037_registry : Registry
signatures_037_registry = (builtins ++ (record { name = (codes "ansible"); params = ([]); ok = recs (slot (codes "changed") true booleans (no_slots)); failure = recs (slot (codes "changed") true booleans (slot (codes "msg") true texts (no_slots))); free = None } ∷ []))

signatures_037 : judged signatures_037_registry signatures_037_inventory signatures_037_book ≡ accepted 0
signatures_037 = refl

-- signatures_038: name ansible_x
abbrev signatures_038_book : Book
signatures_038_book = ([])

abbrev signatures_038_inventory : Inventory
signatures_038_inventory = record { hosts = (record { name = (codes "h1"); variables = (no_fields) } ∷ []); groups = (record { name = (codes "all"); hosts = ((codes "h1") ∷ []) } ∷ record { name = (codes "ungrouped"); hosts = ((codes "h1") ∷ []) } ∷ []) }

abbrev signatures_038_registry : Registry
signatures_038_registry = (builtins ++ (record { name = (codes "ansible_x"); params = ([]); ok = recs (slot (codes "changed") true booleans (no_slots)); failure = recs (slot (codes "changed") true booleans (slot (codes "msg") true texts (no_slots))); free = None } ∷ []))

signatures_038 : judged signatures_038_registry signatures_038_inventory signatures_038_book ≡ accepted 0
signatures_038 = refl

-- signatures_083: declared module, list too long
abbrev signatures_083_book : Book
signatures_083_book = (record { line = 1; pattern = ((codes "all") ∷ []); gathering = None; vars = (no_parts); is_linear = true; serial = ([]); pre_tasks = (no_steps); tasks = (task_step (record { line = 2; work = (module_work (codes "probe") (part (codes "p") (list_of (expression (literal (int (pos 1))) (expression (literal (int (pos 2))) (no_expressions)))) (no_parts))); condition = (no_expressions); loop = None; register = None; vars = (no_parts); notify = ([]); changed_when = None; failed_when = None; attempts = None; ignore_errors = None }) (no_steps)); post_tasks = (no_steps); handlers = ([]); forces = false } ∷ [])

abbrev signatures_083_inventory : Inventory
signatures_083_inventory = record { hosts = (record { name = (codes "h1"); variables = (no_fields) } ∷ []); groups = (record { name = (codes "all"); hosts = ((codes "h1") ∷ []) } ∷ record { name = (codes "ungrouped"); hosts = ((codes "h1") ∷ []) } ∷ []) }

abbrev signatures_083_registry : Registry
signatures_083_registry = (builtins ++ (record { name = (codes "probe"); params = (record { name = (codes "p"); kind = (lists ints 1); required = true } ∷ []); ok = recs (slot (codes "changed") true booleans (no_slots)); failure = recs (slot (codes "changed") true booleans (slot (codes "msg") true texts (no_slots))); free = None } ∷ []))

signatures_083 : judged signatures_083_registry signatures_083_inventory signatures_083_book ≡ refused (record { code = 4; line = 2; host = (Some (codes "h1")) })
signatures_083 = refl

-- signatures_084: declared module, record with a field more
abbrev signatures_084_book : Book
signatures_084_book = (record { line = 1; pattern = ((codes "all") ∷ []); gathering = None; vars = (no_parts); is_linear = true; serial = ([]); pre_tasks = (no_steps); tasks = (task_step (record { line = 2; work = (module_work (codes "probe") (part (codes "p") (record_of (part (codes "a") (literal (int (pos 1))) (part (codes "b") (literal (int (pos 2))) (no_parts)))) (no_parts))); condition = (no_expressions); loop = None; register = None; vars = (no_parts); notify = ([]); changed_when = None; failed_when = None; attempts = None; ignore_errors = None }) (no_steps)); post_tasks = (no_steps); handlers = ([]); forces = false } ∷ [])

abbrev signatures_084_inventory : Inventory
signatures_084_inventory = record { hosts = (record { name = (codes "h1"); variables = (no_fields) } ∷ []); groups = (record { name = (codes "all"); hosts = ((codes "h1") ∷ []) } ∷ record { name = (codes "ungrouped"); hosts = ((codes "h1") ∷ []) } ∷ []) }

abbrev signatures_084_registry : Registry
signatures_084_registry = (builtins ++ (record { name = (codes "probe"); params = (record { name = (codes "p"); kind = (recs (slot (codes "a") true ints (no_slots))); required = true } ∷ []); ok = recs (slot (codes "changed") true booleans (no_slots)); failure = recs (slot (codes "changed") true booleans (slot (codes "msg") true texts (no_slots))); free = None } ∷ []))

signatures_084 : judged signatures_084_registry signatures_084_inventory signatures_084_book ≡ refused (record { code = 4; line = 2; host = (Some (codes "h1")) })
signatures_084 = refl
