-- Cases of row, computed.
use Rattle.std.specs.Prelude.{◌≡◌, refl, pos, [], ◌∷◌, ◌++◌, true, false, Some, None, codes}
use Rattle.std.specs.Fmt.{digits}
use Rattle.pb_semantics.specs.Data.{boolean, int, text, list, rec, no_items, item, no_fields, field}
use Rattle.pb_language.specs.Expression.{named_host, literal, path, in_batch, defined, other, no_expressions, expression, no_parts, part}
use Rattle.pb_language.specs.Book.{module_work, debug_work, no_steps, task_step, block_step, host_count, percentage, Book, Registry}
use Rattle.pb_language.specs.Builtins.{builtins}
use Rattle.pb_language.specs.Give.{object, unreachable}
use Rattle.pb_language.specs.Judged.{judged}
use Rattle.pb_language.specs.Program.{Inventory}
use Rattle.pb_language.specs.Verdict.{accepted, refused}
use Rattle.pb_rows.specs.Recaps.{recaps_of}

-- row_topic: a handler by topic
abbrev row_topic_book : Book
row_topic_book = (record { line = 1; pattern = ((codes "all") ∷ []); gathering = None; vars = (no_parts); is_linear = true; serial = ([]); pre_tasks = (no_steps); tasks = (task_step (record { line = 2; work = (module_work (codes "command") (part (codes "cmd") (literal (text (codes "x"))) (no_parts))); condition = (no_expressions); loop = None; register = None; vars = (no_parts); notify = ((codes "restart web") ∷ []); changed_when = None; failed_when = None; attempts = None; ignore_errors = None }) (no_steps)); post_tasks = (no_steps); handlers = (record { work = (record { line = 3; work = (module_work (codes "service") (part (codes "name") (literal (text (codes "web"))) (no_parts))); condition = (no_expressions); loop = None; register = None; vars = (no_parts); notify = ([]); changed_when = None; failed_when = None; attempts = None; ignore_errors = None }); name = (Some (codes "r")); topics = ((codes "restart web") ∷ []) } ∷ []); forces = false } ∷ [])

abbrev row_topic_inventory : Inventory
row_topic_inventory = record { hosts = (record { name = (codes "h1"); variables = (no_fields) } ∷ []); groups = (record { name = (codes "all"); hosts = ((codes "h1") ∷ []) } ∷ record { name = (codes "ungrouped"); hosts = ((codes "h1") ∷ []) } ∷ []) }

abbrev row_topic_registry : Registry
row_topic_registry = (builtins ++ ([]))

row_topic : judged row_topic_registry row_topic_inventory row_topic_book ≡ accepted 2
row_topic = refl

-- row_topic_run: a handler by topic
abbrev row_topic_run_book : Book
row_topic_run_book = (record { line = 1; pattern = ((codes "all") ∷ []); gathering = None; vars = (no_parts); is_linear = true; serial = ([]); pre_tasks = (no_steps); tasks = (task_step (record { line = 2; work = (module_work (codes "command") (part (codes "cmd") (literal (text (codes "x"))) (no_parts))); condition = (no_expressions); loop = None; register = None; vars = (no_parts); notify = ((codes "restart web") ∷ []); changed_when = None; failed_when = None; attempts = None; ignore_errors = None }) (no_steps)); post_tasks = (no_steps); handlers = (record { work = (record { line = 3; work = (module_work (codes "service") (part (codes "name") (literal (text (codes "web"))) (no_parts))); condition = (no_expressions); loop = None; register = None; vars = (no_parts); notify = ([]); changed_when = None; failed_when = None; attempts = None; ignore_errors = None }); name = (Some (codes "r")); topics = ((codes "restart web") ∷ []) } ∷ []); forces = false } ∷ [])

abbrev row_topic_run_inventory : Inventory
row_topic_run_inventory = record { hosts = (record { name = (codes "h1"); variables = (no_fields) } ∷ []); groups = (record { name = (codes "all"); hosts = ((codes "h1") ∷ []) } ∷ record { name = (codes "ungrouped"); hosts = ((codes "h1") ∷ []) } ∷ []) }

abbrev row_topic_run_registry : Registry
row_topic_run_registry = (builtins ++ ([]))

row_topic_run : recaps_of row_topic_run_registry row_topic_run_inventory row_topic_run_book 5 ((object (rec (field (codes "changed") (boolean true) (field (codes "rc") (int (pos 0)) (field (codes "stderr") (text ([])) (field (codes "stderr_lines") (list (no_items)) (field (codes "stdout") (text (codes "a")) (field (codes "stdout_lines") (list (item (text (codes "a")) (no_items))) (no_fields)))))))) ∷ object (rec (field (codes "changed") (boolean true) (field (codes "name") (text (codes "web")) (no_fields)))) ∷ []) ∷ []) ≡ (record { ok = 2; changed = 2; unreachable = 0; failed = 0; skipped = 0; rescued = 0; ignored = 0 } ∷ [])
unfolding digits
row_topic_run = refl

-- row_topic_unknown: a text that notifies nothing
abbrev row_topic_unknown_book : Book
row_topic_unknown_book = (record { line = 1; pattern = ((codes "all") ∷ []); gathering = None; vars = (no_parts); is_linear = true; serial = ([]); pre_tasks = (no_steps); tasks = (task_step (record { line = 2; work = (module_work (codes "command") (part (codes "cmd") (literal (text (codes "x"))) (no_parts))); condition = (no_expressions); loop = None; register = None; vars = (no_parts); notify = ((codes "restart wep") ∷ []); changed_when = None; failed_when = None; attempts = None; ignore_errors = None }) (no_steps)); post_tasks = (no_steps); handlers = (record { work = (record { line = 3; work = (module_work (codes "service") (part (codes "name") (literal (text (codes "web"))) (no_parts))); condition = (no_expressions); loop = None; register = None; vars = (no_parts); notify = ([]); changed_when = None; failed_when = None; attempts = None; ignore_errors = None }); name = (Some (codes "r")); topics = ((codes "restart web") ∷ []) } ∷ []); forces = false } ∷ [])

abbrev row_topic_unknown_inventory : Inventory
row_topic_unknown_inventory = record { hosts = (record { name = (codes "h1"); variables = (no_fields) } ∷ []); groups = (record { name = (codes "all"); hosts = ((codes "h1") ∷ []) } ∷ record { name = (codes "ungrouped"); hosts = ((codes "h1") ∷ []) } ∷ []) }

abbrev row_topic_unknown_registry : Registry
row_topic_unknown_registry = (builtins ++ ([]))

row_topic_unknown : judged row_topic_unknown_registry row_topic_unknown_inventory row_topic_unknown_book ≡ refused (record { code = 5; line = 2; host = None })
row_topic_unknown = refl

-- row_defined_order: handlers run in the order in which they are defined
abbrev row_defined_order_book : Book
row_defined_order_book = (record { line = 1; pattern = ((codes "all") ∷ []); gathering = None; vars = (no_parts); is_linear = true; serial = ([]); pre_tasks = (no_steps); tasks = (task_step (record { line = 2; work = (module_work (codes "command") (part (codes "cmd") (literal (text (codes "x"))) (no_parts))); condition = (no_expressions); loop = None; register = None; vars = (no_parts); notify = ((codes "b") ∷ []); changed_when = None; failed_when = None; attempts = None; ignore_errors = None }) (task_step (record { line = 3; work = (module_work (codes "command") (part (codes "cmd") (literal (text (codes "x"))) (no_parts))); condition = (no_expressions); loop = None; register = None; vars = (no_parts); notify = ((codes "a") ∷ []); changed_when = None; failed_when = None; attempts = None; ignore_errors = None }) (no_steps))); post_tasks = (no_steps); handlers = (record { work = (record { line = 4; work = (module_work (codes "command") (part (codes "cmd") (literal (text (codes "x"))) (no_parts))); condition = (no_expressions); loop = None; register = None; vars = (no_parts); notify = ([]); changed_when = None; failed_when = None; attempts = None; ignore_errors = None }); name = (Some (codes "a")); topics = ([]) } ∷ record { work = (record { line = 5; work = (module_work (codes "ping") (no_parts)); condition = (no_expressions); loop = None; register = None; vars = (no_parts); notify = ([]); changed_when = None; failed_when = None; attempts = None; ignore_errors = None }); name = (Some (codes "b")); topics = ([]) } ∷ []); forces = false } ∷ [])

abbrev row_defined_order_inventory : Inventory
row_defined_order_inventory = record { hosts = (record { name = (codes "h1"); variables = (no_fields) } ∷ []); groups = (record { name = (codes "all"); hosts = ((codes "h1") ∷ []) } ∷ record { name = (codes "ungrouped"); hosts = ((codes "h1") ∷ []) } ∷ []) }

abbrev row_defined_order_registry : Registry
row_defined_order_registry = (builtins ++ ([]))

row_defined_order : recaps_of row_defined_order_registry row_defined_order_inventory row_defined_order_book 5 ((object (rec (field (codes "changed") (boolean true) (field (codes "rc") (int (pos 0)) (field (codes "stderr") (text ([])) (field (codes "stderr_lines") (list (no_items)) (field (codes "stdout") (text (codes "a")) (field (codes "stdout_lines") (list (item (text (codes "a")) (no_items))) (no_fields)))))))) ∷ object (rec (field (codes "changed") (boolean true) (field (codes "rc") (int (pos 0)) (field (codes "stderr") (text ([])) (field (codes "stderr_lines") (list (no_items)) (field (codes "stdout") (text (codes "a")) (field (codes "stdout_lines") (list (item (text (codes "a")) (no_items))) (no_fields)))))))) ∷ object (rec (field (codes "changed") (boolean true) (field (codes "rc") (int (pos 0)) (field (codes "stderr") (text ([])) (field (codes "stderr_lines") (list (no_items)) (field (codes "stdout") (text (codes "a")) (field (codes "stdout_lines") (list (item (text (codes "a")) (no_items))) (no_fields)))))))) ∷ object (rec (field (codes "ping") (text (codes "pong")) (no_fields))) ∷ []) ∷ []) ≡ (record { ok = 4; changed = 3; unreachable = 0; failed = 0; skipped = 0; rescued = 0; ignored = 0 } ∷ [])
unfolding digits
row_defined_order = refl

-- row_batch_guard: the batch guard under linear
abbrev row_batch_guard_book : Book
row_batch_guard_book = (record { line = 1; pattern = ((codes "all") ∷ []); gathering = None; vars = (no_parts); is_linear = true; serial = ([]); pre_tasks = (no_steps); tasks = (task_step (record { line = 2; work = (module_work (codes "command") (part (codes "cmd") (literal (text (codes "x"))) (no_parts))); condition = (no_expressions); loop = None; register = (Some (codes "out")); vars = (no_parts); notify = ([]); changed_when = None; failed_when = None; attempts = None; ignore_errors = None }) (task_step (record { line = 3; work = (debug_work (part (codes "msg") (path (other (named_host (codes "db1")) (codes "out")) ((codes "stdout") ∷ [])) (no_parts))); condition = (expression (in_batch (named_host (codes "db1"))) (no_expressions)); loop = None; register = None; vars = (no_parts); notify = ([]); changed_when = None; failed_when = None; attempts = None; ignore_errors = None }) (no_steps))); post_tasks = (no_steps); handlers = ([]); forces = false } ∷ [])

abbrev row_batch_guard_inventory : Inventory
row_batch_guard_inventory = record { hosts = (record { name = (codes "db1"); variables = (no_fields) } ∷ record { name = (codes "web1"); variables = (no_fields) } ∷ []); groups = (record { name = (codes "all"); hosts = ((codes "db1") ∷ (codes "web1") ∷ []) } ∷ record { name = (codes "ungrouped"); hosts = ((codes "db1") ∷ (codes "web1") ∷ []) } ∷ []) }

abbrev row_batch_guard_registry : Registry
row_batch_guard_registry = (builtins ++ ([]))

row_batch_guard : judged row_batch_guard_registry row_batch_guard_inventory row_batch_guard_book ≡ accepted 2
row_batch_guard = refl

-- row_batch_guard_run: the other host left
abbrev row_batch_guard_run_book : Book
row_batch_guard_run_book = (record { line = 1; pattern = ((codes "all") ∷ []); gathering = None; vars = (no_parts); is_linear = true; serial = ([]); pre_tasks = (no_steps); tasks = (task_step (record { line = 2; work = (module_work (codes "command") (part (codes "cmd") (literal (text (codes "x"))) (no_parts))); condition = (no_expressions); loop = None; register = (Some (codes "out")); vars = (no_parts); notify = ([]); changed_when = None; failed_when = None; attempts = None; ignore_errors = None }) (task_step (record { line = 3; work = (debug_work (part (codes "msg") (path (other (named_host (codes "db1")) (codes "out")) ((codes "stdout") ∷ [])) (no_parts))); condition = (expression (in_batch (named_host (codes "db1"))) (no_expressions)); loop = None; register = None; vars = (no_parts); notify = ([]); changed_when = None; failed_when = None; attempts = None; ignore_errors = None }) (no_steps))); post_tasks = (no_steps); handlers = ([]); forces = false } ∷ [])

abbrev row_batch_guard_run_inventory : Inventory
row_batch_guard_run_inventory = record { hosts = (record { name = (codes "db1"); variables = (no_fields) } ∷ record { name = (codes "web1"); variables = (no_fields) } ∷ []); groups = (record { name = (codes "all"); hosts = ((codes "db1") ∷ (codes "web1") ∷ []) } ∷ record { name = (codes "ungrouped"); hosts = ((codes "db1") ∷ (codes "web1") ∷ []) } ∷ []) }

abbrev row_batch_guard_run_registry : Registry
row_batch_guard_run_registry = (builtins ++ ([]))

row_batch_guard_run : recaps_of row_batch_guard_run_registry row_batch_guard_run_inventory row_batch_guard_run_book 5 ((unreachable ∷ []) ∷ (object (rec (field (codes "changed") (boolean true) (field (codes "rc") (int (pos 0)) (field (codes "stderr") (text ([])) (field (codes "stderr_lines") (list (no_items)) (field (codes "stdout") (text (codes "a")) (field (codes "stdout_lines") (list (item (text (codes "a")) (no_items))) (no_fields)))))))) ∷ []) ∷ []) ≡ (record { ok = 0; changed = 0; unreachable = 1; failed = 0; skipped = 0; rescued = 0; ignored = 0 } ∷ record { ok = 1; changed = 1; unreachable = 0; failed = 0; skipped = 1; rescued = 0; ignored = 0 } ∷ [])
unfolding digits
row_batch_guard_run = refl

-- row_batch_guard_free: the batch guard under free
abbrev row_batch_guard_free_book : Book
row_batch_guard_free_book = (record { line = 1; pattern = ((codes "all") ∷ []); gathering = None; vars = (no_parts); is_linear = false; serial = ([]); pre_tasks = (no_steps); tasks = (task_step (record { line = 2; work = (module_work (codes "command") (part (codes "cmd") (literal (text (codes "x"))) (no_parts))); condition = (no_expressions); loop = None; register = (Some (codes "out")); vars = (no_parts); notify = ([]); changed_when = None; failed_when = None; attempts = None; ignore_errors = None }) (task_step (record { line = 3; work = (debug_work (part (codes "msg") (path (other (named_host (codes "db1")) (codes "out")) ((codes "stdout") ∷ [])) (no_parts))); condition = (expression (in_batch (named_host (codes "db1"))) (no_expressions)); loop = None; register = None; vars = (no_parts); notify = ([]); changed_when = None; failed_when = None; attempts = None; ignore_errors = None }) (no_steps))); post_tasks = (no_steps); handlers = ([]); forces = false } ∷ [])

abbrev row_batch_guard_free_inventory : Inventory
row_batch_guard_free_inventory = record { hosts = (record { name = (codes "db1"); variables = (no_fields) } ∷ record { name = (codes "web1"); variables = (no_fields) } ∷ []); groups = (record { name = (codes "all"); hosts = ((codes "db1") ∷ (codes "web1") ∷ []) } ∷ record { name = (codes "ungrouped"); hosts = ((codes "db1") ∷ (codes "web1") ∷ []) } ∷ []) }

abbrev row_batch_guard_free_registry : Registry
row_batch_guard_free_registry = (builtins ++ ([]))

row_batch_guard_free : judged row_batch_guard_free_registry row_batch_guard_free_inventory row_batch_guard_free_book ≡ refused (record { code = 2; line = 3; host = (Some (codes "db1")) })
row_batch_guard_free = refl

-- row_defined_there_free: a test of the other host's variable under free
abbrev row_defined_there_free_book : Book
row_defined_there_free_book = (record { line = 1; pattern = ((codes "all") ∷ []); gathering = None; vars = (no_parts); is_linear = false; serial = ([]); pre_tasks = (no_steps); tasks = (task_step (record { line = 2; work = (module_work (codes "command") (part (codes "cmd") (literal (text (codes "x"))) (no_parts))); condition = (no_expressions); loop = None; register = (Some (codes "out")); vars = (no_parts); notify = ([]); changed_when = None; failed_when = None; attempts = None; ignore_errors = None }) (task_step (record { line = 3; work = (debug_work (part (codes "msg") (path (other (named_host (codes "db1")) (codes "out")) ((codes "stdout") ∷ [])) (no_parts))); condition = (expression (defined (other (named_host (codes "db1")) (codes "out")) ((codes "stdout") ∷ [])) (no_expressions)); loop = None; register = None; vars = (no_parts); notify = ([]); changed_when = None; failed_when = None; attempts = None; ignore_errors = None }) (no_steps))); post_tasks = (no_steps); handlers = ([]); forces = false } ∷ [])

abbrev row_defined_there_free_inventory : Inventory
row_defined_there_free_inventory = record { hosts = (record { name = (codes "db1"); variables = (no_fields) } ∷ record { name = (codes "web1"); variables = (no_fields) } ∷ []); groups = (record { name = (codes "all"); hosts = ((codes "db1") ∷ (codes "web1") ∷ []) } ∷ record { name = (codes "ungrouped"); hosts = ((codes "db1") ∷ (codes "web1") ∷ []) } ∷ []) }

abbrev row_defined_there_free_registry : Registry
row_defined_there_free_registry = (builtins ++ ([]))

row_defined_there_free : judged row_defined_there_free_registry row_defined_there_free_inventory row_defined_there_free_book ≡ accepted 2
row_defined_there_free = refl

-- row_rescue_behind: the other host may be in its rescue
abbrev row_rescue_behind_book : Book
row_rescue_behind_book = (record { line = 1; pattern = ((codes "all") ∷ []); gathering = None; vars = (no_parts); is_linear = true; serial = ([]); pre_tasks = (no_steps); tasks = (block_step (record { line = 2; condition = (no_expressions); vars = (no_parts); ignore_errors = None }) (task_step (record { line = 3; work = (module_work (codes "command") (part (codes "cmd") (literal (text (codes "x"))) (no_parts))); condition = (no_expressions); loop = None; register = None; vars = (no_parts); notify = ([]); changed_when = None; failed_when = None; attempts = None; ignore_errors = None }) (no_steps)) (task_step (record { line = 4; work = (module_work (codes "command") (part (codes "cmd") (literal (text (codes "x"))) (no_parts))); condition = (no_expressions); loop = None; register = (Some (codes "out")); vars = (no_parts); notify = ([]); changed_when = None; failed_when = None; attempts = None; ignore_errors = None }) (task_step (record { line = 5; work = (debug_work (part (codes "msg") (path (other (named_host (codes "db1")) (codes "out")) ((codes "stdout") ∷ [])) (no_parts))); condition = (expression (in_batch (named_host (codes "db1"))) (no_expressions)); loop = None; register = None; vars = (no_parts); notify = ([]); changed_when = None; failed_when = None; attempts = None; ignore_errors = None }) (no_steps))) (no_steps) (no_steps)); post_tasks = (no_steps); handlers = ([]); forces = false } ∷ [])

abbrev row_rescue_behind_inventory : Inventory
row_rescue_behind_inventory = record { hosts = (record { name = (codes "db1"); variables = (no_fields) } ∷ record { name = (codes "web1"); variables = (no_fields) } ∷ []); groups = (record { name = (codes "all"); hosts = ((codes "db1") ∷ (codes "web1") ∷ []) } ∷ record { name = (codes "ungrouped"); hosts = ((codes "db1") ∷ (codes "web1") ∷ []) } ∷ []) }

abbrev row_rescue_behind_registry : Registry
row_rescue_behind_registry = (builtins ++ ([]))

row_rescue_behind : judged row_rescue_behind_registry row_rescue_behind_inventory row_rescue_behind_book ≡ refused (record { code = 2; line = 5; host = (Some (codes "db1")) })
row_rescue_behind = refl

-- row_serial: batches
abbrev row_serial_book : Book
row_serial_book = (record { line = 1; pattern = ((codes "all") ∷ []); gathering = None; vars = (no_parts); is_linear = true; serial = (host_count 1 ∷ percentage 50 ∷ []); pre_tasks = (no_steps); tasks = (task_step (record { line = 2; work = (module_work (codes "command") (part (codes "cmd") (literal (text (codes "x"))) (no_parts))); condition = (no_expressions); loop = None; register = None; vars = (no_parts); notify = ([]); changed_when = None; failed_when = None; attempts = None; ignore_errors = None }) (no_steps)); post_tasks = (no_steps); handlers = ([]); forces = false } ∷ [])

abbrev row_serial_inventory : Inventory
row_serial_inventory = record { hosts = (record { name = (codes "h1"); variables = (no_fields) } ∷ record { name = (codes "h2"); variables = (no_fields) } ∷ record { name = (codes "h3"); variables = (no_fields) } ∷ record { name = (codes "h4"); variables = (no_fields) } ∷ record { name = (codes "h5"); variables = (no_fields) } ∷ []); groups = (record { name = (codes "all"); hosts = ((codes "h1") ∷ (codes "h2") ∷ (codes "h3") ∷ (codes "h4") ∷ (codes "h5") ∷ []) } ∷ record { name = (codes "ungrouped"); hosts = ((codes "h1") ∷ (codes "h2") ∷ (codes "h3") ∷ (codes "h4") ∷ (codes "h5") ∷ []) } ∷ []) }

abbrev row_serial_registry : Registry
row_serial_registry = (builtins ++ ([]))

row_serial : judged row_serial_registry row_serial_inventory row_serial_book ≡ accepted 5
row_serial = refl

-- row_serial_run: a batch of failed hosts ends the run
abbrev row_serial_run_book : Book
row_serial_run_book = (record { line = 1; pattern = ((codes "all") ∷ []); gathering = None; vars = (no_parts); is_linear = true; serial = (host_count 1 ∷ percentage 50 ∷ []); pre_tasks = (no_steps); tasks = (task_step (record { line = 2; work = (module_work (codes "command") (part (codes "cmd") (literal (text (codes "x"))) (no_parts))); condition = (no_expressions); loop = None; register = None; vars = (no_parts); notify = ([]); changed_when = None; failed_when = None; attempts = None; ignore_errors = None }) (no_steps)); post_tasks = (no_steps); handlers = ([]); forces = false } ∷ [])

abbrev row_serial_run_inventory : Inventory
row_serial_run_inventory = record { hosts = (record { name = (codes "h1"); variables = (no_fields) } ∷ record { name = (codes "h2"); variables = (no_fields) } ∷ record { name = (codes "h3"); variables = (no_fields) } ∷ record { name = (codes "h4"); variables = (no_fields) } ∷ record { name = (codes "h5"); variables = (no_fields) } ∷ []); groups = (record { name = (codes "all"); hosts = ((codes "h1") ∷ (codes "h2") ∷ (codes "h3") ∷ (codes "h4") ∷ (codes "h5") ∷ []) } ∷ record { name = (codes "ungrouped"); hosts = ((codes "h1") ∷ (codes "h2") ∷ (codes "h3") ∷ (codes "h4") ∷ (codes "h5") ∷ []) } ∷ []) }

abbrev row_serial_run_registry : Registry
row_serial_run_registry = (builtins ++ ([]))

row_serial_run : recaps_of row_serial_run_registry row_serial_run_inventory row_serial_run_book 5 ((object (rec (field (codes "changed") (boolean false) (field (codes "failed") (boolean true) (field (codes "msg") (text (codes "no")) (field (codes "rc") (int (pos 1)) (field (codes "stderr") (text ([])) (field (codes "stderr_lines") (list (no_items)) (field (codes "stdout") (text ([])) (field (codes "stdout_lines") (list (no_items)) (no_fields)))))))))) ∷ []) ∷ ([]) ∷ ([]) ∷ ([]) ∷ ([]) ∷ []) ≡ (record { ok = 0; changed = 0; unreachable = 0; failed = 1; skipped = 0; rescued = 0; ignored = 0 } ∷ record { ok = 0; changed = 0; unreachable = 0; failed = 0; skipped = 0; rescued = 0; ignored = 0 } ∷ record { ok = 0; changed = 0; unreachable = 0; failed = 0; skipped = 0; rescued = 0; ignored = 0 } ∷ record { ok = 0; changed = 0; unreachable = 0; failed = 0; skipped = 0; rescued = 0; ignored = 0 } ∷ record { ok = 0; changed = 0; unreachable = 0; failed = 0; skipped = 0; rescued = 0; ignored = 0 } ∷ [])
unfolding digits
row_serial_run = refl

-- row_breach: a block with all its parts
abbrev row_breach_book : Book
row_breach_book = (record { line = 1; pattern = ((codes "all") ∷ []); gathering = None; vars = (no_parts); is_linear = true; serial = ([]); pre_tasks = (no_steps); tasks = (block_step (record { line = 2; condition = (no_expressions); vars = (no_parts); ignore_errors = None }) (task_step (record { line = 3; work = (module_work (codes "command") (part (codes "cmd") (literal (text (codes "x"))) (no_parts))); condition = (no_expressions); loop = None; register = None; vars = (no_parts); notify = ([]); changed_when = None; failed_when = None; attempts = None; ignore_errors = None }) (no_steps)) (task_step (record { line = 4; work = (module_work (codes "ping") (no_parts)); condition = (no_expressions); loop = None; register = None; vars = (no_parts); notify = ([]); changed_when = None; failed_when = None; attempts = None; ignore_errors = None }) (no_steps)) (task_step (record { line = 5; work = (module_work (codes "ping") (no_parts)); condition = (no_expressions); loop = None; register = None; vars = (no_parts); notify = ([]); changed_when = None; failed_when = None; attempts = None; ignore_errors = None }) (no_steps)) (no_steps)); post_tasks = (no_steps); handlers = ([]); forces = false } ∷ [])

abbrev row_breach_inventory : Inventory
row_breach_inventory = record { hosts = (record { name = (codes "h1"); variables = (no_fields) } ∷ []); groups = (record { name = (codes "all"); hosts = ((codes "h1") ∷ []) } ∷ record { name = (codes "ungrouped"); hosts = ((codes "h1") ∷ []) } ∷ []) }

abbrev row_breach_registry : Registry
row_breach_registry = (builtins ++ ([]))

row_breach : judged row_breach_registry row_breach_inventory row_breach_book ≡ accepted 3
row_breach = refl
