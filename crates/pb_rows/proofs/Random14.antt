-- Cases of random, computed.
use Rattle.std.specs.Prelude.{◌≡◌, refl, pos, negsuc, [], ◌∷◌, ◌++◌, true, false, Some, None, codes}
use Rattle.std.specs.Fmt.{digits}
use Rattle.pb_semantics.specs.Data.{null, boolean, int, text, list, rec, opaque, no_items, item, no_fields, field}
use Rattle.pb_semantics.specs.Kind.{booleans, ints, texts, lists, recs, no_slots, slot}
use Rattle.pb_language.specs.Expression.{equal, less, is_failed, is_changed, is_skipped, named_host, this_host, item_host, group_member, literal, path, negation, conjunction, disjunction, comparison, membership, in_batch, defined, path_status, path_or, length_of, joined_by, concatenation, list_of, record_of, variable, other, no_expressions, expression, no_parts, part}
use Rattle.pb_language.specs.Book.{conditions_are, module_work, debug_work, set_fact_work, assert_work, fail_work, no_steps, task_step, block_step, flush_step, host_count, percentage, Book, Registry}
use Rattle.pb_language.specs.Builtins.{builtins}
use Rattle.pb_language.specs.Give.{object, unreachable}
use Rattle.pb_language.specs.Judged.{judged}
use Rattle.pb_language.specs.Program.{Inventory}
use Rattle.pb_language.specs.Verdict.{accepted, refused}
use Rattle.pb_rows.specs.Recaps.{recaps_of}

-- random_100228:
abbrev random_100228_book : Book
random_100228_book = (record { line = 1; pattern = ((codes "all") ∷ []); gathering = (Some 2); vars = (part (codes "v1") (concatenation (expression (literal (text (codes "x"))) (expression (path (other item_host (codes "inv")) ((codes "rc") ∷ [])) (no_expressions)))) (no_parts)); is_linear = true; serial = ([]); pre_tasks = (no_steps); tasks = (task_step (record { line = 3; work = (module_work (codes "stat") (part (codes "path") (literal (text (codes "p"))) (no_parts))); condition = (expression (in_batch (named_host (codes "b"))) (expression (in_batch (named_host (codes "a"))) (no_expressions))); loop = None; register = (Some (codes "s")); vars = (no_parts); notify = ([]); changed_when = None; failed_when = None; attempts = None; ignore_errors = None }) (task_step (record { line = 4; work = (module_work (codes "setup") (no_parts)); condition = (no_expressions); loop = None; register = (Some (codes "s")); vars = (no_parts); notify = ([]); changed_when = None; failed_when = None; attempts = None; ignore_errors = None }) (task_step (record { line = 5; work = (set_fact_work (part (codes "y") (literal (int (pos 1))) (no_parts))); condition = (expression (in_batch (named_host (codes "a"))) (expression (defined (variable (codes "r")) ([])) (no_expressions))); loop = None; register = None; vars = (no_parts); notify = ([]); changed_when = None; failed_when = None; attempts = None; ignore_errors = (Some true) }) (no_steps)))); post_tasks = (block_step (record { line = 6; condition = (no_expressions); vars = (no_parts); ignore_errors = None }) (no_steps) (no_steps) (no_steps) (task_step (record { line = 7; work = (module_work (codes "ping") (no_parts)); condition = (expression (in_batch (named_host (codes "a"))) (no_expressions)); loop = None; register = None; vars = (no_parts); notify = ([]); changed_when = None; failed_when = None; attempts = None; ignore_errors = None }) (block_step (record { line = 8; condition = (expression (negation (path_status is_skipped (variable (codes "r")) ((codes "results") ∷ []))) (expression (in_batch (group_member (codes "g") 0)) (no_expressions))); vars = (no_parts); ignore_errors = None }) (task_step (record { line = 9; work = (module_work (codes "command") (part (codes "cmd") (path (variable (codes "group_names")) ([])) (no_parts))); condition = (no_expressions); loop = None; register = (Some (codes "s")); vars = (no_parts); notify = ([]); changed_when = None; failed_when = None; attempts = None; ignore_errors = None }) (block_step (record { line = 10; condition = (no_expressions); vars = (no_parts); ignore_errors = None }) (task_step (record { line = 11; work = (module_work (codes "setup") (no_parts)); condition = (expression (negation (defined (other (named_host (codes "b")) (codes "y")) ([]))) (no_expressions)); loop = None; register = (Some (codes "r")); vars = (part (codes "v2") (list_of (expression (list_of (expression (concatenation (expression (literal (text (codes "x"))) (expression (joined_by (path (variable (codes "inventory_hostname")) ([])) (literal (text (codes ",")))) (no_expressions)))) (no_expressions))) (no_expressions))) (no_parts)); notify = ([]); changed_when = None; failed_when = None; attempts = (Some (record { until = (expression (literal (boolean false)) (no_expressions)); retries = 3 })); ignore_errors = None }) (no_steps)) (no_steps) (no_steps) (no_steps))) (task_step (record { line = 12; work = (module_work (codes "stat") (part (codes "path") (literal (text (codes "p"))) (no_parts))); condition = (no_expressions); loop = None; register = None; vars = (no_parts); notify = ([]); changed_when = None; failed_when = None; attempts = None; ignore_errors = (Some true) }) (no_steps)) (no_steps) (task_step (record { line = 13; work = (debug_work (part (codes "msg") (in_batch item_host) (no_parts))); condition = (no_expressions); loop = (Some (path (variable (codes "r")) ((codes "stdout_lines") ∷ []))); register = None; vars = (no_parts); notify = ([]); changed_when = None; failed_when = None; attempts = None; ignore_errors = None }) (no_steps))))); handlers = ([]); forces = true } ∷ [])

abbrev random_100228_inventory : Inventory
random_100228_inventory = record { hosts = (record { name = (codes "c"); variables = (field (codes "inv") (list (item (int (pos 1)) (item (int (pos 2)) (no_items)))) (no_fields)) } ∷ record { name = (codes "b"); variables = (field (codes "inv") (list (item (int (pos 1)) (item (int (pos 2)) (no_items)))) (field (codes "k") (rec (field (codes "z") opaque (no_fields))) (no_fields))) } ∷ record { name = (codes "a"); variables = (field (codes "inv") (list (item (text (codes "x")) (no_items))) (field (codes "opq") opaque (no_fields))) } ∷ []); groups = (record { name = (codes "all"); hosts = ((codes "c") ∷ (codes "b") ∷ (codes "a") ∷ []) } ∷ record { name = (codes "g"); hosts = ((codes "b") ∷ (codes "a") ∷ []) } ∷ record { name = (codes "ungrouped"); hosts = ((codes "c") ∷ []) } ∷ []) }

abbrev random_100228_registry : Registry
random_100228_registry = (builtins ++ ([]))

random_100228 : judged random_100228_registry random_100228_inventory random_100228_book ≡ refused (record { code = 1; line = 9; host = (Some (codes "c")) })
random_100228 = refl

-- random_100255_run:
abbrev random_100255_run_book : Book
random_100255_run_book = (record { line = 1; pattern = ((codes "b") ∷ (codes "all") ∷ []); gathering = None; vars = (no_parts); is_linear = false; serial = ([]); pre_tasks = (no_steps); tasks = (flush_step 2 (task_step (record { line = 3; work = (module_work (codes "command") (part (codes "cmd") (literal (text (codes "x"))) (no_parts))); condition = (expression (negation (defined (variable (codes "group_names")) ([]))) (no_expressions)); loop = None; register = None; vars = (no_parts); notify = ([]); changed_when = None; failed_when = None; attempts = (Some (record { until = (expression (comparison equal (path (variable (codes "inventory_hostname")) ([])) (literal (text (codes "a")))) (no_expressions)); retries = 2 })); ignore_errors = None }) (no_steps))); post_tasks = (no_steps); handlers = (record { work = (record { line = 4; work = (assert_work (conditions_are (expression (comparison equal (path (variable (codes "inventory_hostname")) ([])) (literal (text (codes "c")))) (no_expressions))) (no_parts)); condition = (expression (in_batch item_host) (no_expressions)); loop = (Some (path (variable (codes "ansible_play_batch")) ([]))); register = (Some (codes "r1")); vars = (no_parts); notify = ([]); changed_when = None; failed_when = None; attempts = None; ignore_errors = (Some false) }); name = (Some (codes "h0")); topics = ((codes "t") ∷ []) } ∷ []); forces = true } ∷ [])

abbrev random_100255_run_inventory : Inventory
random_100255_run_inventory = record { hosts = (record { name = (codes "a"); variables = (field (codes "i2") (text (codes "no")) (field (codes "s1") (list (item (text (codes "no")) (item (text (codes "t")) (no_items)))) (no_fields))) } ∷ record { name = (codes "b"); variables = (field (codes "i2") (text (codes "no")) (field (codes "op") opaque (field (codes "s1") (int (pos 1)) (no_fields)))) } ∷ record { name = (codes "c"); variables = (field (codes "i2") (text (codes "no")) (field (codes "s1") (int (pos 1)) (no_fields))) } ∷ []); groups = (record { name = (codes "all"); hosts = ((codes "a") ∷ (codes "b") ∷ (codes "c") ∷ []) } ∷ record { name = (codes "g1"); hosts = ((codes "b") ∷ (codes "c") ∷ []) } ∷ record { name = (codes "ungrouped"); hosts = ((codes "a") ∷ []) } ∷ []) }

abbrev random_100255_run_registry : Registry
random_100255_run_registry = (builtins ++ (record { name = (codes "probe"); params = (record { name = (codes "n"); kind = ints; required = false } ∷ record { name = (codes "l"); kind = (lists texts 3); required = false } ∷ []); ok = recs (slot (codes "changed") true booleans (slot (codes "deep") false (recs (slot (codes "a") true texts (slot (codes "b") false booleans (no_slots)))) (slot (codes "rows") true (lists texts 2) (slot (codes "v") false ints (no_slots))))); failure = recs (slot (codes "changed") true booleans (slot (codes "msg") true texts (slot (codes "v") false texts (slot (codes "why") true ints (no_slots))))); free = None } ∷ record { name = (codes "odd"); params = ([]); ok = recs (slot (codes "changed") true booleans (slot (codes "msg") false ints (no_slots))); failure = recs (slot (codes "changed") true booleans (slot (codes "msg") true texts (no_slots))); free = None } ∷ []))

random_100255_run : recaps_of random_100255_run_registry random_100255_run_inventory random_100255_run_book 1 (([]) ∷ ([]) ∷ ([]) ∷ []) ≡ (record { ok = 0; changed = 0; unreachable = 0; failed = 0; skipped = 1; rescued = 0; ignored = 0 } ∷ record { ok = 0; changed = 0; unreachable = 0; failed = 0; skipped = 1; rescued = 0; ignored = 0 } ∷ record { ok = 0; changed = 0; unreachable = 0; failed = 0; skipped = 1; rescued = 0; ignored = 0 } ∷ [])
unfolding digits
random_100255_run = refl

-- random_100260:
abbrev random_100260_book : Book
random_100260_book = (record { line = 1; pattern = ((codes "all") ∷ []); gathering = None; vars = (no_parts); is_linear = true; serial = (host_count 1 ∷ host_count 2 ∷ []); pre_tasks = (no_steps); tasks = (task_step (record { line = 2; work = (module_work (codes "command") (part (codes "cmd") (path (other (named_host (codes "a")) (codes "inv")) ([])) (no_parts))); condition = (expression (defined (other (named_host (codes "a")) (codes "r")) ((codes "rc") ∷ [])) (expression (negation (disjunction (expression (negation (defined (variable (codes "r")) ([]))) (expression (path_status is_failed (variable (codes "r")) ([])) (no_expressions))))) (no_expressions))); loop = None; register = None; vars = (no_parts); notify = ([]); changed_when = None; failed_when = None; attempts = (Some (record { until = (expression (literal (boolean true)) (no_expressions)); retries = 1 })); ignore_errors = None }) (task_step (record { line = 3; work = (fail_work (part (codes "msg") (literal (text (codes "m"))) (no_parts))); condition = (no_expressions); loop = None; register = None; vars = (no_parts); notify = ([]); changed_when = None; failed_when = None; attempts = None; ignore_errors = None }) (no_steps))); post_tasks = (no_steps); handlers = ([]); forces = false } ∷ [])

abbrev random_100260_inventory : Inventory
random_100260_inventory = record { hosts = (record { name = (codes "c"); variables = (field (codes "inv") (list (item (int (pos 1)) (item (int (pos 2)) (no_items)))) (no_fields)) } ∷ record { name = (codes "b"); variables = (field (codes "inv") (list (item (int (pos 1)) (item (int (pos 2)) (no_items)))) (field (codes "k") (rec (field (codes "z") opaque (no_fields))) (no_fields))) } ∷ record { name = (codes "a"); variables = (field (codes "inv") (list (item (text (codes "x")) (no_items))) (field (codes "opq") opaque (no_fields))) } ∷ []); groups = (record { name = (codes "all"); hosts = ((codes "c") ∷ (codes "b") ∷ (codes "a") ∷ []) } ∷ record { name = (codes "g"); hosts = ((codes "b") ∷ (codes "a") ∷ []) } ∷ record { name = (codes "ungrouped"); hosts = ((codes "c") ∷ []) } ∷ []) }

abbrev random_100260_registry : Registry
random_100260_registry = (builtins ++ ([]))

random_100260 : judged random_100260_registry random_100260_inventory random_100260_book ≡ refused (record { code = 4; line = 2; host = (Some (codes "c")) })
random_100260 = refl

-- random_100294:
abbrev random_100294_book : Book
random_100294_book = (record { line = 1; pattern = ((codes "b") ∷ (codes "a") ∷ []); gathering = (Some 2); vars = (part (codes "v1") (disjunction (expression (negation (path_status is_skipped (variable (codes "s")) ((codes "changed") ∷ []))) (expression (comparison equal (path (variable (codes "y")) ([])) (literal (int (pos 1)))) (no_expressions)))) (no_parts)); is_linear = false; serial = ([]); pre_tasks = (no_steps); tasks = (task_step (record { line = 3; work = (debug_work (part (codes "msg") (record_of (part (codes "k") (list_of (expression (path (variable (codes "inventory_hostname")) ([])) (no_expressions))) (no_parts))) (no_parts))); condition = (expression (in_batch (named_host (codes "a"))) (expression (conjunction (expression (defined (variable (codes "s")) ([])) (expression (negation (path_status is_failed (variable (codes "s")) ([]))) (no_expressions)))) (no_expressions))); loop = (Some (path (variable (codes "ansible_play_batch")) ([]))); register = None; vars = (no_parts); notify = ([]); changed_when = None; failed_when = None; attempts = None; ignore_errors = None }) (no_steps)); post_tasks = (no_steps); handlers = ([]); forces = false } ∷ record { line = 4; pattern = ((codes "all") ∷ []); gathering = None; vars = (no_parts); is_linear = false; serial = ([]); pre_tasks = (no_steps); tasks = (flush_step 5 (block_step (record { line = 6; condition = (expression (conjunction (expression (negation (path (other (named_host (codes "a")) (codes "r")) ((codes "rc") ∷ []))) (expression (negation (path_status is_skipped (variable (codes "v2")) ((codes "results") ∷ []))) (no_expressions)))) (no_expressions)); vars = (no_parts); ignore_errors = None }) (no_steps) (task_step (record { line = 7; work = (set_fact_work (part (codes "y") (path (variable (codes "group_names")) ((codes "hostname") ∷ [])) (no_parts))); condition = (no_expressions); loop = None; register = (Some (codes "s")); vars = (no_parts); notify = ([]); changed_when = None; failed_when = None; attempts = None; ignore_errors = None }) (block_step (record { line = 8; condition = (no_expressions); vars = (no_parts); ignore_errors = None }) (task_step (record { line = 9; work = (module_work (codes "command") (part (codes "cmd") (literal (text (codes "x"))) (no_parts))); condition = (expression (defined (other (named_host (codes "a")) (codes "r")) ((codes "rc") ∷ [])) (no_expressions)); loop = (Some (list_of (no_expressions))); register = (Some (codes "r")); vars = (part (codes "v1") (literal null) (no_parts)); notify = ([]); changed_when = None; failed_when = None; attempts = None; ignore_errors = None }) (task_step (record { line = 10; work = (debug_work (part (codes "msg") (literal (text (codes "a"))) (no_parts))); condition = (no_expressions); loop = None; register = (Some (codes "s")); vars = (no_parts); notify = ([]); changed_when = None; failed_when = (Some (expression (path_status is_failed (variable (codes "s")) ([])) (no_expressions))); attempts = None; ignore_errors = (Some true) }) (no_steps))) (task_step (record { line = 11; work = (fail_work (part (codes "msg") (literal (text (codes "m"))) (no_parts))); condition = (no_expressions); loop = (Some (path (variable (codes "inv")) ([]))); register = (Some (codes "r")); vars = (no_parts); notify = ([]); changed_when = None; failed_when = None; attempts = None; ignore_errors = None }) (task_step (record { line = 12; work = (assert_work (conditions_are (expression (path (variable (codes "opq")) ((codes "k") ∷ [])) (no_expressions))) (no_parts)); condition = (no_expressions); loop = None; register = None; vars = (no_parts); notify = ([]); changed_when = None; failed_when = None; attempts = None; ignore_errors = None }) (no_steps))) (no_steps) (no_steps))) (block_step (record { line = 13; condition = (no_expressions); vars = (no_parts); ignore_errors = None }) (task_step (record { line = 14; work = (module_work (codes "command") (part (codes "cmd") (concatenation (expression (literal (text (codes "x"))) (expression (joined_by (path (variable (codes "inventory_hostname")) ((codes "rc") ∷ [])) (literal (text (codes ",")))) (no_expressions)))) (no_parts))); condition = (no_expressions); loop = None; register = None; vars = (no_parts); notify = ([]); changed_when = None; failed_when = None; attempts = None; ignore_errors = None }) (no_steps)) (no_steps) (no_steps) (no_steps)) (task_step (record { line = 15; work = (module_work (codes "command") (part (codes "cmd") (literal (text (codes "a"))) (no_parts))); condition = (no_expressions); loop = None; register = None; vars = (no_parts); notify = ([]); changed_when = None; failed_when = None; attempts = None; ignore_errors = None }) (task_step (record { line = 16; work = (debug_work (part (codes "msg") (record_of (part (codes "k") (path (variable (codes "ansible_play_batch")) ((codes "stat") ∷ (codes "isdir") ∷ [])) (no_parts))) (no_parts))); condition = (expression (negation (path_status is_skipped (variable (codes "r")) ([]))) (expression (in_batch (named_host (codes "a"))) (no_expressions))); loop = (Some (list_of (no_expressions))); register = None; vars = (no_parts); notify = ([]); changed_when = None; failed_when = None; attempts = None; ignore_errors = (Some false) }) (no_steps))))); post_tasks = (no_steps); handlers = ([]); forces = false } ∷ [])

abbrev random_100294_inventory : Inventory
random_100294_inventory = record { hosts = (record { name = (codes "c"); variables = (field (codes "inv") (list (item (int (pos 1)) (item (int (pos 2)) (no_items)))) (no_fields)) } ∷ record { name = (codes "b"); variables = (field (codes "inv") (list (item (int (pos 1)) (item (int (pos 2)) (no_items)))) (field (codes "k") (rec (field (codes "z") opaque (no_fields))) (no_fields))) } ∷ record { name = (codes "a"); variables = (field (codes "inv") (list (item (text (codes "x")) (no_items))) (field (codes "opq") opaque (no_fields))) } ∷ []); groups = (record { name = (codes "all"); hosts = ((codes "c") ∷ (codes "b") ∷ (codes "a") ∷ []) } ∷ record { name = (codes "g"); hosts = ((codes "b") ∷ (codes "a") ∷ []) } ∷ record { name = (codes "ungrouped"); hosts = ((codes "c") ∷ []) } ∷ []) }

abbrev random_100294_registry : Registry
random_100294_registry = (builtins ++ ([]))

random_100294 : judged random_100294_registry random_100294_inventory random_100294_book ≡ refused (record { code = 2; line = 14; host = (Some (codes "c")) })
random_100294 = refl

-- random_100298:
abbrev random_100298_book : Book
random_100298_book = (record { line = 1; pattern = ((codes "b") ∷ (codes "a") ∷ []); gathering = None; vars = (no_parts); is_linear = true; serial = ([]); pre_tasks = (block_step (record { line = 2; condition = (no_expressions); vars = (no_parts); ignore_errors = None }) (block_step (record { line = 3; condition = (expression (path_status is_failed (other (named_host (codes "a")) (codes "inv")) ((codes "rc") ∷ [])) (no_expressions)); vars = (no_parts); ignore_errors = None }) (task_step (record { line = 4; work = (set_fact_work (part (codes "y") (record_of (part (codes "k") (literal (int (pos 1))) (no_parts))) (no_parts))); condition = (expression (comparison less (path (variable (codes "ansible_hostname")) ([])) (literal (int (pos 3)))) (expression (conjunction (expression (negation (path_status is_skipped (variable (codes "item")) ((codes "k") ∷ []))) (expression (negation (path_status is_failed (variable (codes "s")) ((codes "changed") ∷ []))) (no_expressions)))) (no_expressions))); loop = None; register = (Some (codes "s")); vars = (no_parts); notify = ([]); changed_when = None; failed_when = None; attempts = None; ignore_errors = None }) (task_step (record { line = 5; work = (module_work (codes "ping") (no_parts)); condition = (expression (defined (variable (codes "opq")) ((codes "results") ∷ [])) (expression (negation (defined (variable (codes "inv")) ([]))) (no_expressions))); loop = (Some (list_of (no_expressions))); register = None; vars = (no_parts); notify = ([]); changed_when = None; failed_when = None; attempts = None; ignore_errors = None }) (no_steps))) (task_step (record { line = 6; work = (set_fact_work (part (codes "y") (path (variable (codes "r")) ((codes "changed") ∷ [])) (no_parts))); condition = (no_expressions); loop = None; register = (Some (codes "s")); vars = (no_parts); notify = ([]); changed_when = None; failed_when = None; attempts = None; ignore_errors = (Some false) }) (no_steps)) (task_step (record { line = 7; work = (module_work (codes "setup") (no_parts)); condition = (no_expressions); loop = None; register = (Some (codes "s")); vars = (no_parts); notify = ([]); changed_when = None; failed_when = None; attempts = None; ignore_errors = None }) (no_steps)) (block_step (record { line = 8; condition = (no_expressions); vars = (no_parts); ignore_errors = None }) (no_steps) (task_step (record { line = 9; work = (module_work (codes "command") (part (codes "cmd") (concatenation (expression (literal (text (codes "x"))) (expression (path_or (variable (codes "inventory_hostname")) ((codes "msg") ∷ []) (list_of (no_expressions))) (no_expressions)))) (no_parts))); condition = (expression (conjunction (expression (defined (variable (codes "s")) ([])) (expression (negation (path_status is_failed (variable (codes "s")) ([]))) (no_expressions)))) (no_expressions)); loop = None; register = (Some (codes "r")); vars = (no_parts); notify = ([]); changed_when = None; failed_when = None; attempts = None; ignore_errors = None }) (no_steps)) (no_steps) (no_steps))) (no_steps) (no_steps) (task_step (record { line = 10; work = (fail_work (part (codes "msg") (literal (text (codes "m"))) (no_parts))); condition = (expression (in_batch item_host) (expression (in_batch (named_host (codes "b"))) (no_expressions))); loop = None; register = None; vars = (no_parts); notify = ([]); changed_when = None; failed_when = (Some (expression (literal (boolean false)) (no_expressions))); attempts = None; ignore_errors = None }) (no_steps))); tasks = (task_step (record { line = 11; work = (assert_work (conditions_are (expression (in_batch (named_host (codes "b"))) (expression (negation (comparison equal (path (variable (codes "r")) ((codes "failed") ∷ [])) (literal (text (codes "a"))))) (no_expressions)))) (no_parts)); condition = (expression (in_batch (named_host (codes "b"))) (expression (defined (variable (codes "r")) ((codes "rc") ∷ [])) (no_expressions))); loop = None; register = (Some (codes "r")); vars = (no_parts); notify = ([]); changed_when = None; failed_when = None; attempts = None; ignore_errors = (Some true) }) (task_step (record { line = 12; work = (module_work (codes "command") (part (codes "cmd") (path_or (variable (codes "inv")) ([]) (literal (text (codes "d")))) (no_parts))); condition = (no_expressions); loop = None; register = (Some (codes "s")); vars = (no_parts); notify = ([]); changed_when = None; failed_when = None; attempts = None; ignore_errors = None }) (no_steps))); post_tasks = (no_steps); handlers = ([]); forces = false } ∷ record { line = 13; pattern = ((codes "a") ∷ []); gathering = (Some 14); vars = (no_parts); is_linear = false; serial = ([]); pre_tasks = (no_steps); tasks = (block_step (record { line = 15; condition = (expression (comparison less (path (variable (codes "s")) ([])) (literal (int (pos 3)))) (expression (membership (literal (text (codes "a"))) (path (other (named_host (codes "a")) (codes "inv")) ([]))) (no_expressions))); vars = (no_parts); ignore_errors = None }) (no_steps) (no_steps) (no_steps) (block_step (record { line = 16; condition = (no_expressions); vars = (no_parts); ignore_errors = None }) (no_steps) (no_steps) (task_step (record { line = 17; work = (module_work (codes "command") (part (codes "cmd") (literal (text (codes "x"))) (no_parts))); condition = (no_expressions); loop = None; register = (Some (codes "r")); vars = (part (codes "v2") (path_or (variable (codes "v2")) ([]) (path (variable (codes "opq")) ((codes "stdout_lines") ∷ []))) (no_parts)); notify = ([]); changed_when = (Some (expression (path_status is_changed (variable (codes "r")) ([])) (no_expressions))); failed_when = None; attempts = None; ignore_errors = (Some true) }) (no_steps)) (block_step (record { line = 18; condition = (no_expressions); vars = (no_parts); ignore_errors = None }) (task_step (record { line = 19; work = (module_work (codes "command") (part (codes "cmd") (path (other item_host (codes "y")) ((codes "stat") ∷ (codes "isdir") ∷ [])) (no_parts))); condition = (expression (membership (literal (text (codes "a"))) (path (variable (codes "inv")) ([]))) (expression (negation (path_status is_changed (variable (codes "r")) ((codes "failed") ∷ []))) (no_expressions))); loop = None; register = None; vars = (no_parts); notify = ([]); changed_when = None; failed_when = None; attempts = (Some (record { until = (expression (path (variable (codes "zz")) ((codes "changed") ∷ [])) (no_expressions)); retries = 3 })); ignore_errors = None }) (task_step (record { line = 20; work = (module_work (codes "setup") (no_parts)); condition = (no_expressions); loop = None; register = (Some (codes "r")); vars = (no_parts); notify = ([]); changed_when = None; failed_when = None; attempts = None; ignore_errors = None }) (no_steps))) (no_steps) (task_step (record { line = 21; work = (set_fact_work (part (codes "y") (path (variable (codes "r")) ((codes "results") ∷ [])) (no_parts))); condition = (expression (disjunction (expression (conjunction (expression (negation (defined (variable (codes "inv")) ((codes "stat") ∷ (codes "isdir") ∷ []))) (expression (path_status is_skipped (other (named_host (codes "a")) (codes "inv")) ([])) (no_expressions)))) (expression (defined (variable (codes "inv")) ((codes "stdout") ∷ [])) (no_expressions)))) (no_expressions)); loop = None; register = None; vars = (no_parts); notify = ([]); changed_when = None; failed_when = None; attempts = None; ignore_errors = (Some false) }) (no_steps)) (task_step (record { line = 22; work = (module_work (codes "stat") (part (codes "path") (literal (text (codes "p"))) (no_parts))); condition = (expression (negation (disjunction (expression (negation (defined (variable (codes "r")) ([]))) (expression (path_status is_failed (variable (codes "r")) ([])) (no_expressions))))) (no_expressions)); loop = None; register = (Some (codes "r")); vars = (no_parts); notify = ([]); changed_when = None; failed_when = None; attempts = (Some (record { until = (expression (negation (path_status is_failed (variable (codes "r")) ([]))) (no_expressions)); retries = 3 })); ignore_errors = (Some true) }) (no_steps))))); post_tasks = (block_step (record { line = 23; condition = (no_expressions); vars = (no_parts); ignore_errors = None }) (no_steps) (task_step (record { line = 24; work = (module_work (codes "command") (part (codes "cmd") (literal (boolean true)) (no_parts))); condition = (expression (negation (disjunction (expression (negation (defined (variable (codes "r")) ([]))) (expression (path_status is_failed (variable (codes "r")) ([])) (no_expressions))))) (expression (in_batch (named_host (codes "a"))) (no_expressions))); loop = (Some (path (variable (codes "inv")) ([]))); register = (Some (codes "s")); vars = (no_parts); notify = ([]); changed_when = None; failed_when = None; attempts = None; ignore_errors = None }) (task_step (record { line = 25; work = (module_work (codes "stat") (part (codes "path") (literal (text (codes "p"))) (no_parts))); condition = (expression (negation (disjunction (expression (comparison less (path (variable (codes "opq")) ([])) (literal (int (pos 3)))) (expression (membership (literal (text (codes "a"))) (path (variable (codes "s")) ((codes "os_family") ∷ []))) (no_expressions))))) (no_expressions)); loop = (Some (path (variable (codes "groups")) ((codes "g") ∷ []))); register = (Some (codes "s")); vars = (part (codes "v1") (joined_by (path (variable (codes "item")) ([])) (literal (text (codes ",")))) (no_parts)); notify = ([]); changed_when = None; failed_when = None; attempts = None; ignore_errors = None }) (no_steps))) (no_steps) (no_steps)); handlers = ([]); forces = false } ∷ [])

abbrev random_100298_inventory : Inventory
random_100298_inventory = record { hosts = (record { name = (codes "c"); variables = (field (codes "inv") (list (item (int (pos 1)) (item (int (pos 2)) (no_items)))) (no_fields)) } ∷ record { name = (codes "b"); variables = (field (codes "inv") (list (item (int (pos 1)) (item (int (pos 2)) (no_items)))) (field (codes "k") (rec (field (codes "z") opaque (no_fields))) (no_fields))) } ∷ record { name = (codes "a"); variables = (field (codes "inv") (list (item (text (codes "x")) (no_items))) (field (codes "opq") opaque (no_fields))) } ∷ []); groups = (record { name = (codes "all"); hosts = ((codes "c") ∷ (codes "b") ∷ (codes "a") ∷ []) } ∷ record { name = (codes "g"); hosts = ((codes "b") ∷ (codes "a") ∷ []) } ∷ record { name = (codes "ungrouped"); hosts = ((codes "c") ∷ []) } ∷ []) }

abbrev random_100298_registry : Registry
random_100298_registry = (builtins ++ ([]))

random_100298 : judged random_100298_registry random_100298_inventory random_100298_book ≡ refused (record { code = 10; line = 17; host = None })
random_100298 = refl

-- random_100316_run:
abbrev random_100316_run_book : Book
random_100316_run_book = (record { line = 1; pattern = ((codes "all") ∷ []); gathering = (Some 2); vars = (no_parts); is_linear = false; serial = ([]); pre_tasks = (no_steps); tasks = (task_step (record { line = 3; work = (fail_work (no_parts)); condition = (no_expressions); loop = None; register = None; vars = (no_parts); notify = ([]); changed_when = None; failed_when = None; attempts = None; ignore_errors = None }) (block_step (record { line = 4; condition = (no_expressions); vars = (no_parts); ignore_errors = None }) (no_steps) (task_step (record { line = 5; work = (module_work (codes "command") (part (codes "cmd") (literal (text (codes "x"))) (no_parts))); condition = (no_expressions); loop = None; register = None; vars = (no_parts); notify = ([]); changed_when = (Some (expression (path_status is_changed (variable (codes "zz")) ([])) (no_expressions))); failed_when = None; attempts = None; ignore_errors = None }) (no_steps)) (task_step (record { line = 6; work = (module_work (codes "setup") (no_parts)); condition = (no_expressions); loop = None; register = (Some (codes "r")); vars = (no_parts); notify = ([]); changed_when = (Some (expression (literal (boolean false)) (no_expressions))); failed_when = None; attempts = None; ignore_errors = None }) (no_steps)) (task_step (record { line = 7; work = (module_work (codes "command") (part (codes "cmd") (literal (text (codes "x"))) (no_parts))); condition = (expression (defined (other (named_host (codes "a")) (codes "r")) ((codes "rc") ∷ [])) (no_expressions)); loop = None; register = (Some (codes "s")); vars = (no_parts); notify = ([]); changed_when = None; failed_when = None; attempts = None; ignore_errors = (Some true) }) (no_steps)))); post_tasks = (no_steps); handlers = ([]); forces = true } ∷ record { line = 8; pattern = ((codes "all") ∷ []); gathering = None; vars = (part (codes "v1") (conjunction (expression (defined (variable (codes "groups")) ((codes "g") ∷ [])) (expression (membership (literal (text (codes "a"))) (path (variable (codes "r")) ((codes "results") ∷ []))) (no_expressions)))) (no_parts)); is_linear = true; serial = ([]); pre_tasks = (task_step (record { line = 9; work = (module_work (codes "stat") (part (codes "path") (literal (text (codes "p"))) (no_parts))); condition = (no_expressions); loop = (Some (path (variable (codes "groups")) ((codes "g") ∷ []))); register = None; vars = (no_parts); notify = ([]); changed_when = None; failed_when = None; attempts = None; ignore_errors = None }) (task_step (record { line = 10; work = (module_work (codes "command") (part (codes "cmd") (literal (text (codes "x"))) (no_parts))); condition = (expression (in_batch (named_host (codes "a"))) (expression (disjunction (expression (disjunction (expression (path (variable (codes "v1")) ((codes "rc") ∷ [])) (expression (comparison equal (path (variable (codes "s")) ((codes "hostname") ∷ [])) (literal (int (pos 1)))) (no_expressions)))) (expression (path_status is_skipped (variable (codes "r")) ((codes "rc") ∷ [])) (no_expressions)))) (no_expressions))); loop = None; register = (Some (codes "r")); vars = (no_parts); notify = ([]); changed_when = None; failed_when = None; attempts = None; ignore_errors = None }) (task_step (record { line = 11; work = (module_work (codes "setup") (no_parts)); condition = (no_expressions); loop = None; register = (Some (codes "s")); vars = (no_parts); notify = ([]); changed_when = (Some (expression (literal (boolean true)) (no_expressions))); failed_when = None; attempts = (Some (record { until = (expression (path (variable (codes "s")) ((codes "changed") ∷ [])) (no_expressions)); retries = 1 })); ignore_errors = None }) (no_steps)))); tasks = (block_step (record { line = 12; condition = (no_expressions); vars = (no_parts); ignore_errors = None }) (no_steps) (block_step (record { line = 13; condition = (no_expressions); vars = (no_parts); ignore_errors = (Some false) }) (task_step (record { line = 14; work = (module_work (codes "command") (part (codes "cmd") (literal (boolean true)) (no_parts))); condition = (no_expressions); loop = None; register = None; vars = (no_parts); notify = ((codes "h1") ∷ []); changed_when = (Some (expression (literal (boolean true)) (no_expressions))); failed_when = None; attempts = (Some (record { until = (expression (negation (path_status is_failed (variable (codes "zz")) ([]))) (no_expressions)); retries = 3 })); ignore_errors = None }) (task_step (record { line = 15; work = (debug_work (part (codes "msg") (concatenation (expression (literal (text (codes "x"))) (expression (disjunction (expression (comparison less (path (other this_host (codes "s")) ((codes "results") ∷ [])) (literal (int (pos 3)))) (expression (comparison less (path (variable (codes "y")) ((codes "rc") ∷ [])) (literal (int (pos 3)))) (no_expressions)))) (no_expressions)))) (no_parts))); condition = (expression (defined (variable (codes "r")) ([])) (no_expressions)); loop = None; register = None; vars = (no_parts); notify = ([]); changed_when = None; failed_when = None; attempts = None; ignore_errors = None }) (no_steps))) (no_steps) (no_steps) (no_steps)) (no_steps) (task_step (record { line = 16; work = (module_work (codes "ping") (no_parts)); condition = (no_expressions); loop = None; register = (Some (codes "s")); vars = (no_parts); notify = ((codes "h1") ∷ []); changed_when = None; failed_when = None; attempts = None; ignore_errors = None }) (no_steps))); post_tasks = (no_steps); handlers = (record { work = (record { line = 17; work = (fail_work (part (codes "msg") (literal (text (codes "m"))) (no_parts))); condition = (expression (negation (disjunction (expression (negation (defined (variable (codes "r")) ([]))) (expression (path_status is_failed (variable (codes "r")) ([])) (no_expressions))))) (no_expressions)); loop = None; register = (Some (codes "r")); vars = (no_parts); notify = ([]); changed_when = None; failed_when = (Some (expression (path (variable (codes "r")) ((codes "changed") ∷ [])) (no_expressions))); attempts = None; ignore_errors = None }); name = (Some (codes "h0")); topics = ([]) } ∷ record { work = (record { line = 18; work = (module_work (codes "setup") (no_parts)); condition = (expression (in_batch (group_member (codes "g") 0)) (expression (disjunction (expression (negation (negation (defined (variable (codes "y")) ([])))) (expression (comparison less (path (variable (codes "ansible_failed_result")) ([])) (literal (int (pos 3)))) (no_expressions)))) (no_expressions))); loop = None; register = (Some (codes "r")); vars = (no_parts); notify = ([]); changed_when = None; failed_when = None; attempts = None; ignore_errors = None }); name = (Some (codes "h1")); topics = ([]) } ∷ []); forces = true } ∷ [])

abbrev random_100316_run_inventory : Inventory
random_100316_run_inventory = record { hosts = (record { name = (codes "c"); variables = (field (codes "inv") (list (item (int (pos 1)) (item (int (pos 2)) (no_items)))) (no_fields)) } ∷ record { name = (codes "b"); variables = (field (codes "inv") (list (item (int (pos 1)) (item (int (pos 2)) (no_items)))) (field (codes "k") (rec (field (codes "z") opaque (no_fields))) (no_fields))) } ∷ record { name = (codes "a"); variables = (field (codes "inv") (list (item (text (codes "x")) (no_items))) (field (codes "opq") opaque (no_fields))) } ∷ []); groups = (record { name = (codes "all"); hosts = ((codes "c") ∷ (codes "b") ∷ (codes "a") ∷ []) } ∷ record { name = (codes "g"); hosts = ((codes "b") ∷ (codes "a") ∷ []) } ∷ record { name = (codes "ungrouped"); hosts = ((codes "c") ∷ []) } ∷ []) }

abbrev random_100316_run_registry : Registry
random_100316_run_registry = (builtins ++ ([]))

random_100316_run : recaps_of random_100316_run_registry random_100316_run_inventory random_100316_run_book 1 ((object (rec (field (codes "ansible_facts") (rec (field (codes "ansible_hostname") (text (codes "b")) (field (codes "ansible_memtotal_mb") (int (pos 0)) (field (codes "ansible_system") (text (codes "b")) (no_fields))))) (field (codes "changed") (boolean true) (no_fields)))) ∷ []) ∷ (object (rec (field (codes "ansible_facts") (rec (field (codes "ansible_distribution") (text (123 ∷ 123 ∷ 32 ∷ 120 ∷ 32 ∷ 125 ∷ 125 ∷ [])) (field (codes "ansible_hostname") (text (123 ∷ 123 ∷ 32 ∷ 120 ∷ 32 ∷ 125 ∷ 125 ∷ [])) (field (codes "ansible_memtotal_mb") (int (pos 2)) (field (codes "ansible_os_family") (text (codes "b")) (field (codes "ansible_system") (text (codes "c")) (no_fields))))))) (field (codes "changed") (boolean false) (no_fields)))) ∷ []) ∷ (object (rec (field (codes "ansible_facts") (rec (field (codes "ansible_hostname") (text (codes "b")) (field (codes "ansible_memtotal_mb") (int (negsuc 6)) (field (codes "ansible_os_family") (text (codes "x")) (field (codes "ansible_processor_vcpus") (int (pos 2)) (field (codes "ansible_system") (text (codes "a")) (no_fields))))))) (field (codes "changed") (boolean false) (no_fields)))) ∷ []) ∷ []) ≡ (record { ok = 1; changed = 1; unreachable = 0; failed = 1; skipped = 0; rescued = 0; ignored = 0 } ∷ record { ok = 1; changed = 0; unreachable = 0; failed = 1; skipped = 0; rescued = 0; ignored = 0 } ∷ record { ok = 1; changed = 0; unreachable = 0; failed = 1; skipped = 0; rescued = 0; ignored = 0 } ∷ [])
unfolding digits
random_100316_run = refl

-- random_100336:
abbrev random_100336_book : Book
random_100336_book = (record { line = 1; pattern = ((codes "all") ∷ []); gathering = None; vars = (no_parts); is_linear = true; serial = ([]); pre_tasks = (no_steps); tasks = (task_step (record { line = 2; work = (module_work (codes "command") (part (codes "cmd") (literal (text (codes "a"))) (no_parts))); condition = (no_expressions); loop = None; register = None; vars = (no_parts); notify = ([]); changed_when = None; failed_when = None; attempts = (Some (record { until = (expression (literal (boolean true)) (no_expressions)); retries = 2 })); ignore_errors = None }) (flush_step 3 (task_step (record { line = 4; work = (module_work (codes "stat") (part (codes "path") (literal (text (codes "p"))) (no_parts))); condition = (no_expressions); loop = None; register = (Some (codes "r")); vars = (part (codes "v2") (record_of (part (codes "k") (literal (int (pos 1))) (no_parts))) (no_parts)); notify = ([]); changed_when = None; failed_when = None; attempts = None; ignore_errors = None }) (task_step (record { line = 5; work = (module_work (codes "stat") (part (codes "path") (literal (text (codes "p"))) (no_parts))); condition = (no_expressions); loop = None; register = None; vars = (no_parts); notify = ([]); changed_when = None; failed_when = None; attempts = (Some (record { until = (expression (literal (boolean false)) (no_expressions)); retries = 2 })); ignore_errors = None }) (no_steps))))); post_tasks = (no_steps); handlers = ([]); forces = true } ∷ [])

abbrev random_100336_inventory : Inventory
random_100336_inventory = record { hosts = (record { name = (codes "c"); variables = (field (codes "inv") (list (item (int (pos 1)) (item (int (pos 2)) (no_items)))) (no_fields)) } ∷ record { name = (codes "b"); variables = (field (codes "inv") (list (item (int (pos 1)) (item (int (pos 2)) (no_items)))) (field (codes "k") (rec (field (codes "z") opaque (no_fields))) (no_fields))) } ∷ record { name = (codes "a"); variables = (field (codes "inv") (list (item (text (codes "x")) (no_items))) (field (codes "opq") opaque (no_fields))) } ∷ []); groups = (record { name = (codes "all"); hosts = ((codes "c") ∷ (codes "b") ∷ (codes "a") ∷ []) } ∷ record { name = (codes "g"); hosts = ((codes "b") ∷ (codes "a") ∷ []) } ∷ record { name = (codes "ungrouped"); hosts = ((codes "c") ∷ []) } ∷ []) }

abbrev random_100336_registry : Registry
random_100336_registry = (builtins ++ ([]))

random_100336 : judged random_100336_registry random_100336_inventory random_100336_book ≡ accepted 21
random_100336 = refl

-- random_100336_run:
abbrev random_100336_run_book : Book
random_100336_run_book = (record { line = 1; pattern = ((codes "all") ∷ []); gathering = None; vars = (no_parts); is_linear = true; serial = ([]); pre_tasks = (no_steps); tasks = (task_step (record { line = 2; work = (module_work (codes "command") (part (codes "cmd") (literal (text (codes "a"))) (no_parts))); condition = (no_expressions); loop = None; register = None; vars = (no_parts); notify = ([]); changed_when = None; failed_when = None; attempts = (Some (record { until = (expression (literal (boolean true)) (no_expressions)); retries = 2 })); ignore_errors = None }) (flush_step 3 (task_step (record { line = 4; work = (module_work (codes "stat") (part (codes "path") (literal (text (codes "p"))) (no_parts))); condition = (no_expressions); loop = None; register = (Some (codes "r")); vars = (part (codes "v2") (record_of (part (codes "k") (literal (int (pos 1))) (no_parts))) (no_parts)); notify = ([]); changed_when = None; failed_when = None; attempts = None; ignore_errors = None }) (task_step (record { line = 5; work = (module_work (codes "stat") (part (codes "path") (literal (text (codes "p"))) (no_parts))); condition = (no_expressions); loop = None; register = None; vars = (no_parts); notify = ([]); changed_when = None; failed_when = None; attempts = (Some (record { until = (expression (literal (boolean false)) (no_expressions)); retries = 2 })); ignore_errors = None }) (no_steps))))); post_tasks = (no_steps); handlers = ([]); forces = true } ∷ [])

abbrev random_100336_run_inventory : Inventory
random_100336_run_inventory = record { hosts = (record { name = (codes "c"); variables = (field (codes "inv") (list (item (int (pos 1)) (item (int (pos 2)) (no_items)))) (no_fields)) } ∷ record { name = (codes "b"); variables = (field (codes "inv") (list (item (int (pos 1)) (item (int (pos 2)) (no_items)))) (field (codes "k") (rec (field (codes "z") opaque (no_fields))) (no_fields))) } ∷ record { name = (codes "a"); variables = (field (codes "inv") (list (item (text (codes "x")) (no_items))) (field (codes "opq") opaque (no_fields))) } ∷ []); groups = (record { name = (codes "all"); hosts = ((codes "c") ∷ (codes "b") ∷ (codes "a") ∷ []) } ∷ record { name = (codes "g"); hosts = ((codes "b") ∷ (codes "a") ∷ []) } ∷ record { name = (codes "ungrouped"); hosts = ((codes "c") ∷ []) } ∷ []) }

abbrev random_100336_run_registry : Registry
random_100336_run_registry = (builtins ++ ([]))

random_100336_run : recaps_of random_100336_run_registry random_100336_run_inventory random_100336_run_book 1 ((object (rec (field (codes "changed") (boolean true) (field (codes "rc") (int (negsuc 6)) (field (codes "stderr") (text (codes "b")) (field (codes "stderr_lines") (list (item (text (codes "c")) (item (text (codes "b")) (item (text (123 ∷ 123 ∷ 32 ∷ 120 ∷ 32 ∷ 125 ∷ 125 ∷ [])) (no_items))))) (field (codes "stdout") (text (codes "a")) (field (codes "stdout_lines") (list (item (text (123 ∷ 123 ∷ 32 ∷ 120 ∷ 32 ∷ 125 ∷ 125 ∷ [])) (no_items))) (no_fields)))))))) ∷ object (rec (field (codes "changed") (boolean false) (field (codes "stat") (rec (field (codes "exists") (boolean false) (field (codes "mode") (text (codes "c")) (field (codes "size") (int (negsuc 6)) (no_fields))))) (no_fields)))) ∷ object (rec (field (codes "changed") (boolean true) (field (codes "failed") (boolean true) (field (codes "msg") (text (codes "b")) (no_fields))))) ∷ object (rec (field (codes "changed") (boolean false) (field (codes "stat") (rec (field (codes "exists") (boolean true) (field (codes "isdir") (boolean false) (field (codes "isreg") (boolean false) (field (codes "mode") (text (codes "a")) (field (codes "size") (int (pos 2)) (no_fields))))))) (no_fields)))) ∷ object (rec (field (codes "changed") (boolean true) (field (codes "stat") (rec (field (codes "exists") (boolean false) (field (codes "isdir") (boolean false) (field (codes "isreg") (boolean false) (field (codes "mode") (text (codes "a")) (no_fields)))))) (no_fields)))) ∷ []) ∷ (object (rec (field (codes "changed") (boolean true) (field (codes "rc") (int (pos 1)) (field (codes "stderr") (text (codes "x")) (field (codes "stderr_lines") (list (item (text (codes "b")) (item (text (codes "b")) (item (text (codes "b")) (no_items))))) (field (codes "stdout") (text (codes "b")) (field (codes "stdout_lines") (list (item (text (codes "b")) (item (text (codes "a")) (no_items)))) (no_fields)))))))) ∷ object (rec (field (codes "changed") (boolean true) (field (codes "stat") (rec (field (codes "exists") (boolean false) (field (codes "isdir") (boolean false) (field (codes "isreg") (boolean false) (field (codes "mode") (text (codes "a")) (no_fields)))))) (no_fields)))) ∷ object (rec (field (codes "changed") (boolean false) (field (codes "stat") (rec (field (codes "exists") (boolean true) (field (codes "isdir") (boolean true) (field (codes "isreg") (boolean true) (field (codes "size") (int (pos 0)) (no_fields)))))) (no_fields)))) ∷ object (rec (field (codes "changed") (boolean false) (field (codes "failed") (boolean true) (field (codes "msg") (text (codes "x")) (no_fields))))) ∷ object (rec (field (codes "changed") (boolean false) (field (codes "stat") (rec (field (codes "exists") (boolean true) (field (codes "isreg") (boolean true) (field (codes "mode") (text (123 ∷ 123 ∷ 32 ∷ 120 ∷ 32 ∷ 125 ∷ 125 ∷ [])) (no_fields))))) (no_fields)))) ∷ []) ∷ (unreachable ∷ []) ∷ []) ≡ (record { ok = 2; changed = 1; unreachable = 0; failed = 1; skipped = 0; rescued = 0; ignored = 0 } ∷ record { ok = 2; changed = 2; unreachable = 0; failed = 1; skipped = 0; rescued = 0; ignored = 0 } ∷ record { ok = 0; changed = 0; unreachable = 1; failed = 0; skipped = 0; rescued = 0; ignored = 0 } ∷ [])
unfolding digits
random_100336_run = refl

-- random_100389_run:
abbrev random_100389_run_book : Book
random_100389_run_book = (record { line = 1; pattern = ((codes "all") ∷ []); gathering = None; vars = (no_parts); is_linear = false; serial = (host_count 1 ∷ percentage 100 ∷ []); pre_tasks = (no_steps); tasks = (task_step (record { line = 2; work = (module_work (codes "probe") (no_parts)); condition = (no_expressions); loop = None; register = None; vars = (no_parts); notify = ([]); changed_when = None; failed_when = None; attempts = (Some (record { until = (expression (comparison equal (path (variable (codes "inventory_hostname")) ([])) (literal (text (codes "a")))) (no_expressions)); retries = 2 })); ignore_errors = (Some true) }) (task_step (record { line = 3; work = (module_work (codes "command") (part (codes "cmd") (literal (text (codes "x"))) (no_parts))); condition = (no_expressions); loop = (Some (list_of (expression (list_of (no_expressions)) (expression (record_of (no_parts)) (no_expressions))))); register = (Some (codes "r2")); vars = (no_parts); notify = ([]); changed_when = None; failed_when = None; attempts = None; ignore_errors = None }) (task_step (record { line = 4; work = (module_work (codes "ping") (no_parts)); condition = (no_expressions); loop = None; register = (Some (codes "r1")); vars = (no_parts); notify = ([]); changed_when = None; failed_when = None; attempts = None; ignore_errors = None }) (no_steps)))); post_tasks = (no_steps); handlers = ([]); forces = false } ∷ [])

abbrev random_100389_run_inventory : Inventory
random_100389_run_inventory = record { hosts = (record { name = (codes "a"); variables = (no_fields) } ∷ []); groups = (record { name = (codes "all"); hosts = ((codes "a") ∷ []) } ∷ record { name = (codes "ungrouped"); hosts = ((codes "a") ∷ []) } ∷ []) }

abbrev random_100389_run_registry : Registry
random_100389_run_registry = (builtins ++ (record { name = (codes "probe"); params = (record { name = (codes "n"); kind = ints; required = false } ∷ record { name = (codes "l"); kind = (lists texts 3); required = false } ∷ []); ok = recs (slot (codes "changed") true booleans (slot (codes "deep") false (recs (slot (codes "a") true texts (slot (codes "b") false booleans (no_slots)))) (slot (codes "rows") true (lists texts 2) (slot (codes "v") false ints (no_slots))))); failure = recs (slot (codes "changed") true booleans (slot (codes "msg") true texts (slot (codes "v") false texts (slot (codes "why") true ints (no_slots))))); free = None } ∷ record { name = (codes "odd"); params = ([]); ok = recs (slot (codes "changed") true booleans (slot (codes "msg") false ints (no_slots))); failure = recs (slot (codes "changed") true booleans (slot (codes "msg") true texts (no_slots))); free = None } ∷ []))

random_100389_run : recaps_of random_100389_run_registry random_100389_run_inventory random_100389_run_book 1 ((object (rec (field (codes "changed") (boolean true) (field (codes "rows") (list (item (text (codes "a")) (no_items))) (no_fields)))) ∷ object (rec (field (codes "changed") (boolean true) (field (codes "rc") (int (pos 0)) (field (codes "stderr") (text ([])) (field (codes "stderr_lines") (list (item (text (codes "x")) (item (text (codes "a")) (item (text (123 ∷ 123 ∷ 32 ∷ 120 ∷ 32 ∷ 125 ∷ 125 ∷ [])) (no_items))))) (field (codes "stdout") (text (codes "a")) (field (codes "stdout_lines") (list (item (text (codes "b")) (item (text (codes "x")) (no_items)))) (no_fields)))))))) ∷ object (rec (field (codes "changed") (boolean false) (field (codes "rc") (int (negsuc 6)) (field (codes "stderr") (text (codes "a")) (field (codes "stderr_lines") (list (item (text (codes "x")) (no_items))) (field (codes "stdout") (text (codes "a")) (field (codes "stdout_lines") (list (item (text ([])) (no_items))) (no_fields)))))))) ∷ object (rec (field (codes "changed") (boolean false) (field (codes "ping") (text (codes "a")) (no_fields)))) ∷ []) ∷ []) ≡ (record { ok = 3; changed = 2; unreachable = 0; failed = 0; skipped = 0; rescued = 0; ignored = 0 } ∷ [])
unfolding digits
random_100389_run = refl

-- random_100391_run:
abbrev random_100391_run_book : Book
random_100391_run_book = (record { line = 1; pattern = ((codes "a") ∷ (codes "all") ∷ []); gathering = None; vars = (no_parts); is_linear = true; serial = ([]); pre_tasks = (no_steps); tasks = (block_step (record { line = 2; condition = (no_expressions); vars = (no_parts); ignore_errors = (Some true) }) (task_step (record { line = 3; work = (module_work (codes "command") (part (codes "cmd") (literal (text (codes "x"))) (no_parts))); condition = (no_expressions); loop = None; register = (Some (codes "r2")); vars = (no_parts); notify = ((codes "t") ∷ []); changed_when = None; failed_when = (Some (expression (path_status is_changed (variable (codes "r2")) ([])) (no_expressions))); attempts = None; ignore_errors = None }) (task_step (record { line = 4; work = (set_fact_work (part (codes "s2") (literal (text (codes "no"))) (part (codes "s3") (path (other (named_host (codes "c")) (codes "r3")) ((codes "changed") ∷ [])) (no_parts)))); condition = (expression (defined (other (named_host (codes "c")) (codes "r3")) ([])) (expression (negation (path_status is_failed (other (named_host (codes "c")) (codes "r3")) ([]))) (no_expressions))); loop = None; register = None; vars = (no_parts); notify = ([]); changed_when = None; failed_when = (Some (expression (comparison equal (path (variable (codes "inventory_hostname")) ([])) (literal (text (codes "a")))) (no_expressions))); attempts = None; ignore_errors = None }) (task_step (record { line = 5; work = (module_work (codes "probe") (no_parts)); condition = (no_expressions); loop = None; register = None; vars = (no_parts); notify = ([]); changed_when = None; failed_when = None; attempts = (Some (record { until = (expression (comparison equal (path (variable (codes "inventory_hostname")) ([])) (literal (text (codes "a")))) (no_expressions)); retries = 1 })); ignore_errors = None }) (no_steps)))) (no_steps) (task_step (record { line = 6; work = (set_fact_work (part (codes "s2") (literal (int (pos 1))) (part (codes "s3") (literal null) (no_parts)))); condition = (expression (defined (variable (codes "r2")) ([])) (expression (negation (path_status is_failed (variable (codes "r2")) ([]))) (no_expressions))); loop = None; register = (Some (codes "r2")); vars = (no_parts); notify = ([]); changed_when = None; failed_when = None; attempts = None; ignore_errors = None }) (task_step (record { line = 7; work = (debug_work (part (codes "msg") (list_of (expression (path (variable (codes "r2")) ((codes "changed") ∷ [])) (expression (path (variable (codes "r2")) ((codes "changed") ∷ [])) (no_expressions)))) (no_parts))); condition = (expression (defined (variable (codes "r2")) ((codes "changed") ∷ [])) (no_expressions)); loop = None; register = (Some (codes "r3")); vars = (no_parts); notify = ((codes "t") ∷ []); changed_when = None; failed_when = None; attempts = None; ignore_errors = None }) (no_steps))) (task_step (record { line = 8; work = (set_fact_work (part (codes "s3") (literal (text (codes "no"))) (no_parts))); condition = (expression (negation (defined (variable (codes "r3")) ((codes "changed") ∷ []))) (no_expressions)); loop = None; register = None; vars = (no_parts); notify = ((codes "t") ∷ []); changed_when = (Some (expression (literal (boolean true)) (no_expressions))); failed_when = None; attempts = None; ignore_errors = None }) (task_step (record { line = 9; work = (fail_work (part (codes "msg") (literal (text (codes "m"))) (no_parts))); condition = (no_expressions); loop = None; register = (Some (codes "r2")); vars = (no_parts); notify = ((codes "t") ∷ []); changed_when = None; failed_when = None; attempts = None; ignore_errors = None }) (no_steps)))); post_tasks = (no_steps); handlers = (record { work = (record { line = 10; work = (module_work (codes "probe") (no_parts)); condition = (expression (disjunction (expression (comparison equal (path (other (named_host (codes "b")) (codes "i2")) ([])) (literal (int (pos 1)))) (expression (defined (variable (codes "r3")) ((codes "skip_reason") ∷ [])) (no_expressions)))) (no_expressions)); loop = None; register = (Some (codes "r3")); vars = (no_parts); notify = ([]); changed_when = (Some (expression (path_status is_changed (variable (codes "r3")) ([])) (no_expressions))); failed_when = None; attempts = None; ignore_errors = None }); name = (Some (codes "h0")); topics = ((codes "t") ∷ []) } ∷ []); forces = false } ∷ [])

abbrev random_100391_run_inventory : Inventory
random_100391_run_inventory = record { hosts = (record { name = (codes "a"); variables = (field (codes "i1") (int (pos 2)) (no_fields)) } ∷ record { name = (codes "b"); variables = (field (codes "i1") (text (codes "no")) (field (codes "i2") (boolean true) (field (codes "op") opaque (no_fields)))) } ∷ record { name = (codes "c"); variables = (field (codes "i1") null (no_fields)) } ∷ []); groups = (record { name = (codes "all"); hosts = ((codes "a") ∷ (codes "b") ∷ (codes "c") ∷ []) } ∷ record { name = (codes "g1"); hosts = ((codes "a") ∷ []) } ∷ record { name = (codes "g2"); hosts = ((codes "a") ∷ (codes "b") ∷ (codes "c") ∷ []) } ∷ record { name = (codes "ungrouped"); hosts = ([]) } ∷ []) }

abbrev random_100391_run_registry : Registry
random_100391_run_registry = (builtins ++ (record { name = (codes "probe"); params = (record { name = (codes "n"); kind = ints; required = false } ∷ record { name = (codes "l"); kind = (lists texts 3); required = false } ∷ []); ok = recs (slot (codes "changed") true booleans (slot (codes "deep") false (recs (slot (codes "a") true texts (slot (codes "b") false booleans (no_slots)))) (slot (codes "rows") true (lists texts 2) (slot (codes "v") false ints (no_slots))))); failure = recs (slot (codes "changed") true booleans (slot (codes "msg") true texts (slot (codes "v") false texts (slot (codes "why") true ints (no_slots))))); free = None } ∷ record { name = (codes "odd"); params = ([]); ok = recs (slot (codes "changed") true booleans (slot (codes "msg") false ints (no_slots))); failure = recs (slot (codes "changed") true booleans (slot (codes "msg") true texts (no_slots))); free = None } ∷ []))

random_100391_run : recaps_of random_100391_run_registry random_100391_run_inventory random_100391_run_book 1 ((object (rec (field (codes "changed") (boolean false) (field (codes "rc") (int (pos 0)) (field (codes "stderr") (text (codes "b")) (field (codes "stderr_lines") (list (item (text (codes "a")) (item (text (codes "b")) (no_items)))) (field (codes "stdout") (text (codes "c")) (field (codes "stdout_lines") (list (item (text (123 ∷ 123 ∷ 32 ∷ 120 ∷ 32 ∷ 125 ∷ 125 ∷ [])) (no_items))) (no_fields)))))))) ∷ object (rec (field (codes "changed") (int (pos 7)) (no_fields))) ∷ []) ∷ (object (rec (field (codes "changed") (boolean true) (field (codes "rc") (int (pos 0)) (field (codes "stderr") (text (codes "a")) (field (codes "stderr_lines") (list (item (text (codes "b")) (no_items))) (field (codes "stdout") (text (codes "a")) (field (codes "stdout_lines") (list (no_items)) (no_fields)))))))) ∷ object (rec (field (codes "changed") (boolean true) (field (codes "deep") (rec (field (codes "a") (text (codes "c")) (no_fields))) (field (codes "extra") (rec (field (codes "a") (int (pos 1)) (no_fields))) (field (codes "rows") (list (item (text (codes "c")) (no_items))) (field (codes "v") (int (pos 1)) (no_fields))))))) ∷ object (rec (field (codes "changed") (boolean false) (field (codes "rows") (list (item (text (codes "x")) (item (text (codes "b")) (no_items)))) (field (codes "v") (int (pos 1)) (no_fields))))) ∷ []) ∷ (object (rec (field (codes "changed") (boolean false) (field (codes "extra") (rec (field (codes "a") (int (pos 1)) (no_fields))) (field (codes "rc") (int (pos 1)) (field (codes "stderr") (text ([])) (field (codes "stderr_lines") (list (item (text (codes "b")) (no_items))) (field (codes "stdout") (text (codes "b")) (field (codes "stdout_lines") (list (item (text (codes "a")) (item (text (codes "b")) (no_items)))) (no_fields))))))))) ∷ object (rec (field (codes "changed") (boolean false) (field (codes "failed") (boolean true) (field (codes "msg") (text (codes "x")) (field (codes "why") (int (pos 2)) (no_fields)))))) ∷ object (rec (field (codes "changed") (boolean false) (field (codes "deep") (rec (field (codes "a") (text ([])) (no_fields))) (field (codes "rows") (list (item (text (123 ∷ 123 ∷ 32 ∷ 120 ∷ 32 ∷ 125 ∷ 125 ∷ [])) (no_items))) (no_fields))))) ∷ []) ∷ []) ≡ (record { ok = 1; changed = 0; unreachable = 0; failed = 1; skipped = 1; rescued = 0; ignored = 0 } ∷ record { ok = 3; changed = 1; unreachable = 0; failed = 1; skipped = 3; rescued = 0; ignored = 2 } ∷ record { ok = 4; changed = 0; unreachable = 0; failed = 1; skipped = 2; rescued = 0; ignored = 1 } ∷ [])
unfolding digits
random_100391_run = refl

-- random_100425:
abbrev random_100425_book : Book
random_100425_book = (record { line = 1; pattern = ((codes "g2") ∷ []); gathering = (Some 2); vars = (no_parts); is_linear = true; serial = (host_count 1 ∷ []); pre_tasks = (no_steps); tasks = (task_step (record { line = 3; work = (set_fact_work (part (codes "s2") (literal (int (pos 1))) (no_parts))); condition = (no_expressions); loop = (Some (list_of (expression (literal (boolean false)) (expression (literal (int (pos 1))) (expression (literal (int (negsuc 0))) (no_expressions)))))); register = (Some (codes "r3")); vars = (no_parts); notify = ([]); changed_when = None; failed_when = (Some (expression (comparison equal (path (variable (codes "r3")) ((codes "changed") ∷ [])) (literal (int (pos 1)))) (no_expressions))); attempts = None; ignore_errors = None }) (task_step (record { line = 4; work = (assert_work (conditions_are (expression (literal (boolean true)) (no_expressions))) (no_parts)); condition = (no_expressions); loop = None; register = (Some (codes "r3")); vars = (no_parts); notify = ((codes "h0") ∷ []); changed_when = None; failed_when = (Some (expression (comparison equal (path (variable (codes "inventory_hostname")) ([])) (literal (text (codes "a")))) (no_expressions))); attempts = None; ignore_errors = (Some true) }) (block_step (record { line = 5; condition = (no_expressions); vars = (part (codes "v3") (literal (int (pos 1))) (no_parts)); ignore_errors = None }) (block_step (record { line = 6; condition = (no_expressions); vars = (no_parts); ignore_errors = (Some true) }) (task_step (record { line = 7; work = (debug_work (part (codes "msg") (concatenation (expression (literal (text (codes "x"))) (expression (path (variable (codes "r3")) ((codes "msg") ∷ [])) (no_expressions)))) (no_parts))); condition = (expression (defined (variable (codes "r3")) ([])) (expression (defined (variable (codes "r3")) ((codes "msg") ∷ [])) (no_expressions))); loop = None; register = None; vars = (no_parts); notify = ([]); changed_when = None; failed_when = None; attempts = None; ignore_errors = None }) (block_step (record { line = 8; condition = (no_expressions); vars = (no_parts); ignore_errors = None }) (task_step (record { line = 9; work = (module_work (codes "command") (part (codes "cmd") (concatenation (expression (literal (text (codes "x "))) (expression (length_of (path (variable (codes "r2")) ((codes "failed") ∷ []))) (no_expressions)))) (no_parts))); condition = (expression (defined (variable (codes "r2")) ((codes "failed") ∷ [])) (no_expressions)); loop = None; register = (Some (codes "r2")); vars = (no_parts); notify = ((codes "t") ∷ []); changed_when = None; failed_when = None; attempts = None; ignore_errors = (Some false) }) (task_step (record { line = 10; work = (module_work (codes "command") (part (codes "cmd") (literal (text (codes "x"))) (no_parts))); condition = (no_expressions); loop = None; register = (Some (codes "r1")); vars = (part (codes "v1") (list_of (expression (path (variable (codes "ansible_play_batch")) ([])) (expression (path (variable (codes "ansible_play_batch")) ([])) (no_expressions)))) (no_parts)); notify = ([]); changed_when = None; failed_when = None; attempts = (Some (record { until = (expression (path_status is_changed (variable (codes "r1")) ([])) (no_expressions)); retries = 1 })); ignore_errors = None }) (task_step (record { line = 11; work = (module_work (codes "command") (part (codes "cmd") (concatenation (expression (literal (text (codes "x "))) (expression (path (variable (codes "r2")) ((codes "results") ∷ [])) (no_expressions)))) (no_parts))); condition = (expression (defined (variable (codes "r2")) ([])) (expression (defined (variable (codes "r2")) ((codes "results") ∷ [])) (no_expressions))); loop = None; register = (Some (codes "r3")); vars = (no_parts); notify = ([]); changed_when = None; failed_when = None; attempts = None; ignore_errors = None }) (no_steps)))) (no_steps) (no_steps) (task_step (record { line = 12; work = (module_work (codes "probe") (no_parts)); condition = (no_expressions); loop = None; register = (Some (codes "r3")); vars = (no_parts); notify = ([]); changed_when = None; failed_when = None; attempts = None; ignore_errors = (Some true) }) (no_steps)))) (task_step (record { line = 13; work = (set_fact_work (part (codes "s2") (record_of (part (codes "f") (literal (int (pos 1))) (no_parts))) (no_parts))); condition = (no_expressions); loop = None; register = None; vars = (no_parts); notify = ((codes "h0") ∷ []); changed_when = None; failed_when = None; attempts = None; ignore_errors = None }) (task_step (record { line = 14; work = (module_work (codes "stat") (part (codes "path") (literal (text (codes "/"))) (no_parts))); condition = (no_expressions); loop = None; register = (Some (codes "r2")); vars = (no_parts); notify = ((codes "h0") ∷ []); changed_when = (Some (expression (literal (boolean false)) (no_expressions))); failed_when = None; attempts = (Some (record { until = (expression (comparison equal (path (variable (codes "inventory_hostname")) ([])) (literal (text (codes "a")))) (no_expressions)); retries = 1 })); ignore_errors = None }) (task_step (record { line = 15; work = (module_work (codes "probe") (no_parts)); condition = (no_expressions); loop = None; register = (Some (codes "r1")); vars = (part (codes "v1") (length_of (path (variable (codes "r3")) ((codes "skipped") ∷ []))) (part (codes "v2") (path (other (named_host (codes "a")) (codes "s1")) ([])) (no_parts))); notify = ((codes "h1") ∷ []); changed_when = None; failed_when = None; attempts = None; ignore_errors = None }) (no_steps)))) (task_step (record { line = 16; work = (assert_work (conditions_are (expression (disjunction (expression (conjunction (expression (defined (variable (codes "r2")) ([])) (expression (negation (path_status is_failed (variable (codes "r2")) ([]))) (expression (comparison equal (path (variable (codes "r2")) ((codes "failed") ∷ [])) (literal (text (codes "a")))) (no_expressions))))) (expression (path_status is_changed (variable (codes "r3")) ([])) (no_expressions)))) (no_expressions))) (no_parts)); condition = (expression (negation (membership (literal (text (codes "g2"))) (path (variable (codes "group_names")) ([])))) (no_expressions)); loop = None; register = (Some (codes "r2")); vars = (part (codes "v1") (list_of (expression (literal (int (pos 1))) (expression (literal (int (pos 2))) (no_expressions)))) (part (codes "v2") (path (variable (codes "i1")) ([])) (part (codes "v3") (path (variable (codes "r3")) ([])) (no_parts)))); notify = ([]); changed_when = (Some (expression (path_status is_failed (variable (codes "r2")) ([])) (no_expressions))); failed_when = (Some (expression (literal (boolean true)) (no_expressions))); attempts = None; ignore_errors = None }) (no_steps)) (no_steps)) (no_steps) (block_step (record { line = 17; condition = (no_expressions); vars = (no_parts); ignore_errors = None }) (task_step (record { line = 18; work = (assert_work (conditions_are (expression (literal (boolean true)) (no_expressions))) (no_parts)); condition = (no_expressions); loop = None; register = None; vars = (no_parts); notify = ([]); changed_when = None; failed_when = None; attempts = None; ignore_errors = None }) (no_steps)) (task_step (record { line = 19; work = (set_fact_work (part (codes "s1") (literal (int (pos 1))) (part (codes "s3") (comparison equal (path (other item_host (codes "r1")) ([])) (path (variable (codes "r1")) ((codes "results") ∷ []))) (no_parts)))); condition = (no_expressions); loop = (Some (list_of (no_expressions))); register = None; vars = (part (codes "v2") (path_or (variable (codes "ansible_facts")) ([]) (list_of (no_expressions))) (no_parts)); notify = ([]); changed_when = None; failed_when = (Some (expression (literal (boolean true)) (no_expressions))); attempts = None; ignore_errors = None }) (no_steps)) (block_step (record { line = 20; condition = (no_expressions); vars = (no_parts); ignore_errors = None }) (task_step (record { line = 21; work = (set_fact_work (part (codes "s2") (literal (text (codes "b"))) (part (codes "s3") (comparison equal (path (other (group_member (codes "all") 0) (codes "r1")) ((codes "why") ∷ [])) (path (other item_host (codes "r2")) ((codes "changed") ∷ []))) (no_parts)))); condition = (no_expressions); loop = (Some (path_or (variable (codes "r1")) ((codes "results") ∷ []) (list_of (no_expressions)))); register = None; vars = (no_parts); notify = ([]); changed_when = None; failed_when = None; attempts = None; ignore_errors = None }) (no_steps)) (no_steps) (no_steps) (no_steps)) (no_steps)) (task_step (record { line = 22; work = (module_work (codes "command") (part (codes "cmd") (literal (text (codes "x"))) (no_parts))); condition = (no_expressions); loop = None; register = (Some (codes "r3")); vars = (part (codes "v1") (path (other (named_host (codes "a")) (codes "s3")) ([])) (part (codes "v2") (path (variable (codes "s2")) ((codes "f") ∷ [])) (no_parts))); notify = ((codes "t") ∷ []); changed_when = None; failed_when = None; attempts = None; ignore_errors = None }) (no_steps))))); post_tasks = (no_steps); handlers = (record { work = (record { line = 23; work = (module_work (codes "command") (part (codes "cmd") (literal (text (codes "x"))) (no_parts))); condition = (no_expressions); loop = None; register = (Some (codes "r3")); vars = (part (codes "v3") (path (other (named_host (codes "b")) (codes "r1")) ((codes "changed") ∷ [])) (no_parts)); notify = ((codes "h1") ∷ []); changed_when = None; failed_when = None; attempts = None; ignore_errors = None }); name = (Some (codes "h0")); topics = ([]) } ∷ record { work = (record { line = 24; work = (module_work (codes "odd") (no_parts)); condition = (no_expressions); loop = None; register = (Some (codes "r1")); vars = (no_parts); notify = ([]); changed_when = None; failed_when = None; attempts = (Some (record { until = (expression (path_status is_failed (variable (codes "r1")) ([])) (no_expressions)); retries = 3 })); ignore_errors = None }); name = (Some (codes "h1")); topics = ((codes "t") ∷ []) } ∷ []); forces = false } ∷ [])

abbrev random_100425_inventory : Inventory
random_100425_inventory = record { hosts = (record { name = (codes "a"); variables = (field (codes "i1") (list (item (boolean false) (no_items))) (no_fields)) } ∷ record { name = (codes "b"); variables = (field (codes "i1") (text ([])) (field (codes "s1") (list (item (text (codes "x")) (item (text (codes "x")) (no_items)))) (no_fields))) } ∷ []); groups = (record { name = (codes "all"); hosts = ((codes "a") ∷ (codes "b") ∷ []) } ∷ record { name = (codes "g2"); hosts = ((codes "a") ∷ []) } ∷ record { name = (codes "ungrouped"); hosts = ((codes "b") ∷ []) } ∷ []) }

abbrev random_100425_registry : Registry
random_100425_registry = (builtins ++ (record { name = (codes "probe"); params = (record { name = (codes "n"); kind = ints; required = false } ∷ record { name = (codes "l"); kind = (lists texts 3); required = false } ∷ []); ok = recs (slot (codes "changed") true booleans (slot (codes "deep") false (recs (slot (codes "a") true texts (slot (codes "b") false booleans (no_slots)))) (slot (codes "rows") true (lists texts 2) (slot (codes "v") false ints (no_slots))))); failure = recs (slot (codes "changed") true booleans (slot (codes "msg") true texts (slot (codes "v") false texts (slot (codes "why") true ints (no_slots))))); free = None } ∷ record { name = (codes "odd"); params = ([]); ok = recs (slot (codes "changed") true booleans (slot (codes "msg") false ints (no_slots))); failure = recs (slot (codes "changed") true booleans (slot (codes "msg") true texts (no_slots))); free = None } ∷ []))

random_100425 : judged random_100425_registry random_100425_inventory random_100425_book ≡ refused (record { code = 3; line = 19; host = (Some (codes "a")) })
random_100425 = refl

-- random_100462:
abbrev random_100462_book : Book
random_100462_book = (record { line = 1; pattern = ((codes "all") ∷ []); gathering = (Some 2); vars = (no_parts); is_linear = true; serial = ([]); pre_tasks = (no_steps); tasks = (flush_step 3 (task_step (record { line = 4; work = (fail_work (no_parts)); condition = (no_expressions); loop = None; register = None; vars = (no_parts); notify = ((codes "h0") ∷ []); changed_when = None; failed_when = None; attempts = None; ignore_errors = None }) (task_step (record { line = 5; work = (debug_work (part (codes "msg") (literal (int (pos 1))) (no_parts))); condition = (expression (disjunction (expression (negation (defined (variable (codes "r")) ((codes "stdout") ∷ []))) (expression (path (variable (codes "item")) ((codes "stdout_lines") ∷ [])) (no_expressions)))) (no_expressions)); loop = (Some (path (variable (codes "r")) ((codes "stdout_lines") ∷ []))); register = None; vars = (no_parts); notify = ((codes "h1") ∷ []); changed_when = None; failed_when = (Some (expression (literal (boolean false)) (no_expressions))); attempts = None; ignore_errors = (Some true) }) (no_steps)))); post_tasks = (no_steps); handlers = (record { work = (record { line = 6; work = (module_work (codes "command") (part (codes "cmd") (path (variable (codes "group_names")) ((codes "changed") ∷ [])) (no_parts))); condition = (no_expressions); loop = None; register = None; vars = (no_parts); notify = ([]); changed_when = None; failed_when = None; attempts = (Some (record { until = (expression (literal (boolean false)) (no_expressions)); retries = 2 })); ignore_errors = None }); name = (Some (codes "h0")); topics = ([]) } ∷ record { work = (record { line = 7; work = (module_work (codes "stat") (part (codes "path") (literal (text (codes "p"))) (no_parts))); condition = (no_expressions); loop = None; register = None; vars = (no_parts); notify = ([]); changed_when = None; failed_when = (Some (expression (path_status is_failed (variable (codes "zz")) ([])) (no_expressions))); attempts = None; ignore_errors = None }); name = (Some (codes "h1")); topics = ([]) } ∷ []); forces = false } ∷ [])

abbrev random_100462_inventory : Inventory
random_100462_inventory = record { hosts = (record { name = (codes "c"); variables = (field (codes "inv") (list (item (int (pos 1)) (item (int (pos 2)) (no_items)))) (no_fields)) } ∷ record { name = (codes "b"); variables = (field (codes "inv") (list (item (int (pos 1)) (item (int (pos 2)) (no_items)))) (field (codes "k") (rec (field (codes "z") opaque (no_fields))) (no_fields))) } ∷ record { name = (codes "a"); variables = (field (codes "inv") (list (item (text (codes "x")) (no_items))) (field (codes "opq") opaque (no_fields))) } ∷ []); groups = (record { name = (codes "all"); hosts = ((codes "c") ∷ (codes "b") ∷ (codes "a") ∷ []) } ∷ record { name = (codes "g"); hosts = ((codes "b") ∷ (codes "a") ∷ []) } ∷ record { name = (codes "ungrouped"); hosts = ((codes "c") ∷ []) } ∷ []) }

abbrev random_100462_registry : Registry
random_100462_registry = (builtins ++ ([]))

random_100462 : judged random_100462_registry random_100462_inventory random_100462_book ≡ refused (record { code = 4; line = 6; host = (Some (codes "c")) })
random_100462 = refl
