-- Cases of random, computed.
use Rattle.std.specs.Prelude.{◌≡◌, refl, pos, negsuc, [], ◌∷◌, ◌++◌, true, false, Some, None, codes}
use Rattle.std.specs.Fmt.{digits}
use Rattle.pb_semantics.specs.Data.{null, boolean, int, text, list, rec, opaque, no_items, item, no_fields, field}
use Rattle.pb_semantics.specs.Kind.{booleans, ints, texts, lists, recs, no_slots, slot}
use Rattle.pb_language.specs.Expression.{equal, is_failed, is_changed, is_skipped, named_host, this_host, item_host, group_member, literal, path, negation, conjunction, disjunction, comparison, membership, in_batch, defined, path_status, path_or, length_of, joined_by, concatenation, list_of, record_of, variable, other, no_expressions, expression, no_parts, part}
use Rattle.pb_language.specs.Book.{conditions_are, module_work, debug_work, set_fact_work, assert_work, fail_work, no_steps, task_step, block_step, flush_step, host_count, percentage, Book, Registry}
use Rattle.pb_language.specs.Builtins.{builtins}
use Rattle.pb_language.specs.Give.{object}
use Rattle.pb_language.specs.Judged.{judged}
use Rattle.pb_language.specs.Program.{Inventory}
use Rattle.pb_language.specs.Verdict.{accepted, refused}
use Rattle.pb_rows.specs.Recaps.{recaps_of}

-- random_100494:
abbrev random_100494_book : Book
random_100494_book = (record { line = 1; pattern = ((codes "all") ∷ []); gathering = None; vars = (no_parts); is_linear = true; serial = ([]); pre_tasks = (no_steps); tasks = (task_step (record { line = 2; work = (set_fact_work (part (codes "y") (literal (text (codes "a"))) (no_parts))); condition = (no_expressions); loop = None; register = (Some (codes "r")); vars = (no_parts); notify = ([]); changed_when = None; failed_when = None; attempts = None; ignore_errors = None }) (task_step (record { line = 3; work = (module_work (codes "ping") (no_parts)); condition = (no_expressions); loop = (Some (path (variable (codes "r")) ((codes "stdout_lines") ∷ []))); register = (Some (codes "s")); vars = (no_parts); notify = ([]); changed_when = None; failed_when = None; attempts = None; ignore_errors = None }) (task_step (record { line = 4; work = (module_work (codes "command") (part (codes "cmd") (joined_by (path (variable (codes "s")) ((codes "changed") ∷ [])) (literal (text (codes ",")))) (no_parts))); condition = (no_expressions); loop = None; register = None; vars = (no_parts); notify = ([]); changed_when = None; failed_when = None; attempts = None; ignore_errors = None }) (block_step (record { line = 5; condition = (no_expressions); vars = (no_parts); ignore_errors = None }) (no_steps) (no_steps) (no_steps) (no_steps))))); post_tasks = (no_steps); handlers = ([]); forces = false } ∷ [])

abbrev random_100494_inventory : Inventory
random_100494_inventory = record { hosts = (record { name = (codes "c"); variables = (field (codes "inv") (list (item (int (pos 1)) (item (int (pos 2)) (no_items)))) (no_fields)) } ∷ record { name = (codes "b"); variables = (field (codes "inv") (list (item (int (pos 1)) (item (int (pos 2)) (no_items)))) (field (codes "k") (rec (field (codes "z") opaque (no_fields))) (no_fields))) } ∷ record { name = (codes "a"); variables = (field (codes "inv") (list (item (text (codes "x")) (no_items))) (field (codes "opq") opaque (no_fields))) } ∷ []); groups = (record { name = (codes "all"); hosts = ((codes "c") ∷ (codes "b") ∷ (codes "a") ∷ []) } ∷ record { name = (codes "g"); hosts = ((codes "b") ∷ (codes "a") ∷ []) } ∷ record { name = (codes "ungrouped"); hosts = ((codes "c") ∷ []) } ∷ []) }

abbrev random_100494_registry : Registry
random_100494_registry = (builtins ++ ([]))

random_100494 : judged random_100494_registry random_100494_inventory random_100494_book ≡ refused (record { code = 3; line = 3; host = (Some (codes "c")) })
random_100494 = refl

-- random_100503_run:
abbrev random_100503_run_book : Book
random_100503_run_book = (record { line = 1; pattern = ((codes "all") ∷ []); gathering = None; vars = (no_parts); is_linear = true; serial = ([]); pre_tasks = (no_steps); tasks = (block_step (record { line = 2; condition = (no_expressions); vars = (no_parts); ignore_errors = None }) (task_step (record { line = 3; work = (module_work (codes "command") (part (codes "cmd") (literal (text (codes "x"))) (no_parts))); condition = (no_expressions); loop = None; register = (Some (codes "r1")); vars = (no_parts); notify = ([]); changed_when = None; failed_when = None; attempts = None; ignore_errors = None }) (no_steps)) (task_step (record { line = 4; work = (set_fact_work (part (codes "s1") (record_of (part (codes "g") (list_of (expression (literal (boolean false)) (no_expressions))) (no_parts))) (no_parts))); condition = (expression (defined (variable (codes "groups")) ((codes "all") ∷ [])) (no_expressions)); loop = None; register = None; vars = (no_parts); notify = ([]); changed_when = (Some (expression (literal (boolean true)) (no_expressions))); failed_when = None; attempts = None; ignore_errors = None }) (no_steps)) (no_steps) (task_step (record { line = 5; work = (module_work (codes "command") (part (codes "cmd") (literal (text (codes "x"))) (no_parts))); condition = (no_expressions); loop = None; register = (Some (codes "r1")); vars = (no_parts); notify = ([]); changed_when = None; failed_when = None; attempts = (Some (record { until = (expression (path_status is_failed (variable (codes "r1")) ([])) (no_expressions)); retries = 3 })); ignore_errors = None }) (no_steps))); post_tasks = (no_steps); handlers = ([]); forces = true } ∷ record { line = 6; pattern = ((codes "all") ∷ []); gathering = None; vars = (no_parts); is_linear = true; serial = (host_count 1 ∷ host_count 2 ∷ []); pre_tasks = (no_steps); tasks = (block_step (record { line = 7; condition = (expression (comparison equal (path (variable (codes "inventory_hostname")) ([])) (literal (text (codes "a")))) (no_expressions)); vars = (no_parts); ignore_errors = None }) (block_step (record { line = 8; condition = (no_expressions); vars = (no_parts); ignore_errors = None }) (task_step (record { line = 9; work = (debug_work (part (codes "msg") (literal (text (codes "x"))) (no_parts))); condition = (no_expressions); loop = None; register = (Some (codes "r3")); vars = (no_parts); notify = ((codes "t") ∷ []); changed_when = (Some (expression (literal (boolean true)) (no_expressions))); failed_when = None; attempts = None; ignore_errors = None }) (task_step (record { line = 10; work = (debug_work (part (codes "msg") (path (variable (codes "group_names")) ([])) (no_parts))); condition = (no_expressions); loop = None; register = (Some (codes "r3")); vars = (no_parts); notify = ([]); changed_when = (Some (expression (literal (boolean true)) (no_expressions))); failed_when = None; attempts = None; ignore_errors = None }) (task_step (record { line = 11; work = (fail_work (no_parts)); condition = (no_expressions); loop = None; register = (Some (codes "r3")); vars = (no_parts); notify = ((codes "t") ∷ []); changed_when = None; failed_when = None; attempts = None; ignore_errors = None }) (no_steps)))) (no_steps) (task_step (record { line = 12; work = (module_work (codes "command") (part (codes "cmd") (concatenation (expression (literal (text (codes "x "))) (expression (length_of (path (variable (codes "r2")) ((codes "failed") ∷ []))) (no_expressions)))) (no_parts))); condition = (expression (defined (variable (codes "r2")) ([])) (expression (negation (path_status is_failed (variable (codes "r2")) ([]))) (no_expressions))); loop = None; register = (Some (codes "r2")); vars = (no_parts); notify = ((codes "h0") ∷ []); changed_when = None; failed_when = None; attempts = None; ignore_errors = None }) (no_steps)) (block_step (record { line = 13; condition = (no_expressions); vars = (no_parts); ignore_errors = None }) (block_step (record { line = 14; condition = (no_expressions); vars = (no_parts); ignore_errors = None }) (task_step (record { line = 15; work = (module_work (codes "probe") (no_parts)); condition = (no_expressions); loop = None; register = (Some (codes "r1")); vars = (no_parts); notify = ([]); changed_when = None; failed_when = None; attempts = None; ignore_errors = None }) (task_step (record { line = 16; work = (module_work (codes "ping") (no_parts)); condition = (no_expressions); loop = None; register = (Some (codes "r1")); vars = (no_parts); notify = ([]); changed_when = None; failed_when = None; attempts = None; ignore_errors = None }) (task_step (record { line = 17; work = (module_work (codes "command") (part (codes "cmd") (literal (text (codes "x"))) (no_parts))); condition = (expression (negation (path_status is_skipped (variable (codes "r1")) ([]))) (no_expressions)); loop = None; register = (Some (codes "r3")); vars = (no_parts); notify = ([]); changed_when = None; failed_when = None; attempts = None; ignore_errors = None }) (no_steps)))) (task_step (record { line = 18; work = (module_work (codes "command") (part (codes "cmd") (literal (text (codes "x"))) (no_parts))); condition = (no_expressions); loop = None; register = None; vars = (no_parts); notify = ((codes "t") ∷ []); changed_when = (Some (expression (literal (boolean true)) (no_expressions))); failed_when = None; attempts = None; ignore_errors = None }) (task_step (record { line = 19; work = (debug_work (part (codes "msg") (path (variable (codes "r1")) ((codes "failed") ∷ [])) (no_parts))); condition = (no_expressions); loop = None; register = None; vars = (part (codes "v1") (path (variable (codes "r3")) ((codes "changed") ∷ [])) (part (codes "v3") (length_of (path (variable (codes "r2")) ([]))) (no_parts))); notify = ([]); changed_when = (Some (expression (literal (boolean false)) (no_expressions))); failed_when = None; attempts = None; ignore_errors = None }) (no_steps))) (no_steps) (task_step (record { line = 20; work = (module_work (codes "command") (part (codes "cmd") (concatenation (expression (literal (text (codes "x "))) (expression (path (variable (codes "r1")) ((codes "failed") ∷ [])) (no_expressions)))) (no_parts))); condition = (expression (defined (variable (codes "r1")) ((codes "failed") ∷ [])) (no_expressions)); loop = None; register = (Some (codes "r3")); vars = (no_parts); notify = ((codes "h0") ∷ []); changed_when = None; failed_when = None; attempts = None; ignore_errors = None }) (task_step (record { line = 21; work = (module_work (codes "command") (part (codes "cmd") (literal (text (codes "x"))) (no_parts))); condition = (no_expressions); loop = None; register = (Some (codes "r3")); vars = (no_parts); notify = ([]); changed_when = None; failed_when = None; attempts = None; ignore_errors = None }) (no_steps)))) (block_step (record { line = 22; condition = (no_expressions); vars = (no_parts); ignore_errors = None }) (task_step (record { line = 23; work = (module_work (codes "probe") (no_parts)); condition = (no_expressions); loop = None; register = (Some (codes "r3")); vars = (no_parts); notify = ((codes "t") ∷ []); changed_when = None; failed_when = None; attempts = None; ignore_errors = None }) (task_step (record { line = 24; work = (set_fact_work (part (codes "s3") (literal (text (codes "x"))) (no_parts))); condition = (expression (in_batch (named_host (codes "a"))) (no_expressions)); loop = None; register = None; vars = (no_parts); notify = ([]); changed_when = None; failed_when = None; attempts = None; ignore_errors = None }) (no_steps))) (no_steps) (no_steps) (task_step (record { line = 25; work = (module_work (codes "command") (part (codes "cmd") (concatenation (expression (literal (text (codes "x "))) (expression (path_or (variable (codes "s2")) ((codes "rc") ∷ []) (literal (int (pos 1)))) (no_expressions)))) (no_parts))); condition = (no_expressions); loop = None; register = (Some (codes "r3")); vars = (part (codes "v3") (length_of (path (variable (codes "s2")) ((codes "g") ∷ []))) (no_parts)); notify = ((codes "t") ∷ []); changed_when = None; failed_when = None; attempts = None; ignore_errors = None }) (no_steps))) (task_step (record { line = 26; work = (set_fact_work (part (codes "s1") (path (variable (codes "r1")) ((codes "msg") ∷ [])) (no_parts))); condition = (expression (defined (variable (codes "r1")) ([])) (expression (defined (variable (codes "r1")) ((codes "msg") ∷ [])) (no_expressions))); loop = None; register = None; vars = (no_parts); notify = ([]); changed_when = None; failed_when = None; attempts = None; ignore_errors = None }) (task_step (record { line = 27; work = (module_work (codes "command") (part (codes "cmd") (literal (text (codes "x"))) (no_parts))); condition = (no_expressions); loop = None; register = (Some (codes "r1")); vars = (no_parts); notify = ((codes "t") ∷ []); changed_when = (Some (expression (literal (boolean true)) (no_expressions))); failed_when = None; attempts = None; ignore_errors = (Some true) }) (no_steps))) (task_step (record { line = 28; work = (module_work (codes "command") (part (codes "cmd") (literal (text (codes "x"))) (no_parts))); condition = (expression (negation (defined (variable (codes "s2")) ((codes "g") ∷ []))) (no_expressions)); loop = (Some (path_or (variable (codes "r1")) ((codes "stdout_lines") ∷ []) (list_of (no_expressions)))); register = None; vars = (no_parts); notify = ((codes "h0") ∷ []); changed_when = None; failed_when = None; attempts = None; ignore_errors = None }) (no_steps)))) (no_steps) (task_step (record { line = 29; work = (module_work (codes "command") (part (codes "cmd") (literal (text (codes "x"))) (no_parts))); condition = (no_expressions); loop = (Some (path (variable (codes "ansible_play_batch")) ([]))); register = (Some (codes "r1")); vars = (no_parts); notify = ([]); changed_when = None; failed_when = None; attempts = None; ignore_errors = None }) (no_steps)) (no_steps)); post_tasks = (no_steps); handlers = (record { work = (record { line = 30; work = (debug_work (part (codes "msg") (literal (text (codes "x"))) (no_parts))); condition = (expression (negation (path_status is_skipped (variable (codes "r2")) ([]))) (no_expressions)); loop = None; register = (Some (codes "r1")); vars = (no_parts); notify = ([]); changed_when = None; failed_when = None; attempts = None; ignore_errors = None }); name = (Some (codes "h0")); topics = ((codes "t") ∷ []) } ∷ []); forces = true } ∷ [])

abbrev random_100503_run_inventory : Inventory
random_100503_run_inventory = record { hosts = (record { name = (codes "a"); variables = (field (codes "i1") (int (negsuc 0)) (field (codes "op") opaque (field (codes "s1") (text (codes "x")) (no_fields)))) } ∷ []); groups = (record { name = (codes "all"); hosts = ((codes "a") ∷ []) } ∷ record { name = (codes "g2"); hosts = ([]) } ∷ record { name = (codes "ungrouped"); hosts = ((codes "a") ∷ []) } ∷ []) }

abbrev random_100503_run_registry : Registry
random_100503_run_registry = (builtins ++ (record { name = (codes "probe"); params = (record { name = (codes "n"); kind = ints; required = false } ∷ record { name = (codes "l"); kind = (lists texts 3); required = false } ∷ []); ok = recs (slot (codes "changed") true booleans (slot (codes "deep") false (recs (slot (codes "a") true texts (slot (codes "b") false booleans (no_slots)))) (slot (codes "rows") true (lists texts 2) (slot (codes "v") false ints (no_slots))))); failure = recs (slot (codes "changed") true booleans (slot (codes "msg") true texts (slot (codes "v") false texts (slot (codes "why") true ints (no_slots))))); free = None } ∷ record { name = (codes "odd"); params = ([]); ok = recs (slot (codes "changed") true booleans (slot (codes "msg") false ints (no_slots))); failure = recs (slot (codes "changed") true booleans (slot (codes "msg") true texts (no_slots))); free = None } ∷ []))

random_100503_run : recaps_of random_100503_run_registry random_100503_run_inventory random_100503_run_book 1 ((object (rec (field (codes "changed") (boolean true) (field (codes "rc") (int (pos 2)) (field (codes "stderr") (text (codes "x")) (field (codes "stderr_lines") (list (no_items)) (field (codes "stdout") (text ([])) (field (codes "stdout_lines") (list (item (text ([])) (no_items))) (no_fields)))))))) ∷ object (rec (field (codes "changed") (boolean true) (field (codes "rc") (int (pos 2)) (field (codes "stderr") (text (codes "b")) (field (codes "stderr_lines") (list (item (text (codes "a")) (no_items))) (field (codes "stdout") (text (codes "a")) (field (codes "stdout_lines") (list (item (text ([])) (item (text (codes "b")) (item (text (codes "a")) (no_items))))) (no_fields)))))))) ∷ object (rec (field (codes "changed") (boolean true) (field (codes "rc") (int (pos 2)) (field (codes "stderr") (text (codes "b")) (field (codes "stderr_lines") (list (item (text (123 ∷ 123 ∷ 32 ∷ 120 ∷ 32 ∷ 125 ∷ 125 ∷ [])) (item (text ([])) (item (text (codes "b")) (no_items))))) (field (codes "stdout") (text (123 ∷ 123 ∷ 32 ∷ 120 ∷ 32 ∷ 125 ∷ 125 ∷ [])) (field (codes "stdout_lines") (list (item (text (codes "b")) (item (text (codes "x")) (item (text (codes "x")) (no_items))))) (no_fields)))))))) ∷ object (rec (field (codes "changed") (boolean true) (field (codes "rc") (int (pos 1)) (field (codes "stderr") (text (123 ∷ 123 ∷ 32 ∷ 120 ∷ 32 ∷ 125 ∷ 125 ∷ [])) (field (codes "stderr_lines") (list (no_items)) (field (codes "stdout") (text (codes "a")) (field (codes "stdout_lines") (list (item (text (123 ∷ 123 ∷ 32 ∷ 120 ∷ 32 ∷ 125 ∷ 125 ∷ [])) (item (text (codes "x")) (item (text (codes "a")) (no_items))))) (no_fields)))))))) ∷ object (rec (field (codes "changed") (boolean false) (field (codes "rc") (int (pos 0)) (field (codes "stderr") (text (123 ∷ 123 ∷ 32 ∷ 120 ∷ 32 ∷ 125 ∷ 125 ∷ [])) (field (codes "stderr_lines") (list (item (text (123 ∷ 123 ∷ 32 ∷ 120 ∷ 32 ∷ 125 ∷ 125 ∷ [])) (no_items))) (field (codes "stdout") (text (codes "a")) (field (codes "stdout_lines") (list (item (text ([])) (no_items))) (no_fields)))))))) ∷ []) ∷ []) ≡ (record { ok = 1; changed = 1; unreachable = 0; failed = 1; skipped = 0; rescued = 0; ignored = 0 } ∷ [])
unfolding digits
random_100503_run = refl

-- random_100518:
abbrev random_100518_book : Book
random_100518_book = (record { line = 1; pattern = ((codes "a") ∷ []); gathering = None; vars = (no_parts); is_linear = true; serial = ([]); pre_tasks = (no_steps); tasks = (task_step (record { line = 2; work = (module_work (codes "setup") (no_parts)); condition = (expression (defined (other this_host (codes "inv")) ([])) (no_expressions)); loop = None; register = None; vars = (part (codes "v1") (record_of (part (codes "k") (literal (int (pos 1))) (no_parts))) (no_parts)); notify = ([]); changed_when = None; failed_when = None; attempts = (Some (record { until = (expression (path (variable (codes "zz")) ((codes "changed") ∷ [])) (no_expressions)); retries = 1 })); ignore_errors = None }) (no_steps)); post_tasks = (no_steps); handlers = ([]); forces = false } ∷ [])

abbrev random_100518_inventory : Inventory
random_100518_inventory = record { hosts = (record { name = (codes "c"); variables = (field (codes "inv") (list (item (int (pos 1)) (item (int (pos 2)) (no_items)))) (no_fields)) } ∷ record { name = (codes "b"); variables = (field (codes "inv") (list (item (int (pos 1)) (item (int (pos 2)) (no_items)))) (field (codes "k") (rec (field (codes "z") opaque (no_fields))) (no_fields))) } ∷ record { name = (codes "a"); variables = (field (codes "inv") (list (item (text (codes "x")) (no_items))) (field (codes "opq") opaque (no_fields))) } ∷ []); groups = (record { name = (codes "all"); hosts = ((codes "c") ∷ (codes "b") ∷ (codes "a") ∷ []) } ∷ record { name = (codes "g"); hosts = ((codes "b") ∷ (codes "a") ∷ []) } ∷ record { name = (codes "ungrouped"); hosts = ((codes "c") ∷ []) } ∷ []) }

abbrev random_100518_registry : Registry
random_100518_registry = (builtins ++ ([]))

random_100518 : judged random_100518_registry random_100518_inventory random_100518_book ≡ refused (record { code = 1; line = 2; host = (Some (codes "a")) })
random_100518 = refl

-- random_100522:
abbrev random_100522_book : Book
random_100522_book = (record { line = 1; pattern = ((codes "all") ∷ []); gathering = None; vars = (no_parts); is_linear = true; serial = ([]); pre_tasks = (no_steps); tasks = (block_step (record { line = 2; condition = (no_expressions); vars = (no_parts); ignore_errors = None }) (no_steps) (task_step (record { line = 3; work = (set_fact_work (part (codes "y") (literal (text (codes "a"))) (no_parts))); condition = (expression (in_batch (named_host (codes "a"))) (no_expressions)); loop = (Some (path (variable (codes "r")) ((codes "stdout_lines") ∷ []))); register = (Some (codes "r")); vars = (no_parts); notify = ([]); changed_when = None; failed_when = None; attempts = None; ignore_errors = None }) (no_steps)) (block_step (record { line = 4; condition = (no_expressions); vars = (no_parts); ignore_errors = None }) (task_step (record { line = 5; work = (assert_work (conditions_are (expression (negation (defined (other (group_member (codes "g") 0) (codes "s")) ((codes "hostname") ∷ []))) (expression (in_batch (group_member (codes "g") 0)) (no_expressions)))) (no_parts)); condition = (no_expressions); loop = None; register = (Some (codes "r")); vars = (no_parts); notify = ((codes "h1") ∷ []); changed_when = None; failed_when = None; attempts = None; ignore_errors = None }) (task_step (record { line = 6; work = (module_work (codes "ping") (no_parts)); condition = (no_expressions); loop = (Some (path (variable (codes "r")) ((codes "stdout_lines") ∷ []))); register = None; vars = (no_parts); notify = ([]); changed_when = None; failed_when = None; attempts = None; ignore_errors = None }) (no_steps))) (task_step (record { line = 7; work = (module_work (codes "command") (part (codes "cmd") (literal (text (codes "x"))) (no_parts))); condition = (expression (conjunction (expression (comparison equal (path (variable (codes "s")) ((codes "changed") ∷ [])) (literal (int (pos 1)))) (expression (disjunction (expression (path_status is_changed (variable (codes "inv")) ([])) (expression (path_status is_skipped (variable (codes "s")) ([])) (no_expressions)))) (no_expressions)))) (expression (path_status is_skipped (variable (codes "v2")) ((codes "k") ∷ [])) (no_expressions))); loop = None; register = (Some (codes "s")); vars = (no_parts); notify = ((codes "h1") ∷ []); changed_when = (Some (expression (path_status is_changed (variable (codes "s")) ([])) (no_expressions))); failed_when = None; attempts = (Some (record { until = (expression (literal (boolean false)) (no_expressions)); retries = 1 })); ignore_errors = None }) (no_steps)) (no_steps) (no_steps)) (no_steps)); post_tasks = (no_steps); handlers = (record { work = (record { line = 8; work = (module_work (codes "command") (part (codes "cmd") (literal (text (codes "x"))) (no_parts))); condition = (no_expressions); loop = None; register = (Some (codes "s")); vars = (no_parts); notify = ([]); changed_when = (Some (expression (literal (boolean false)) (no_expressions))); failed_when = None; attempts = None; ignore_errors = None }); name = (Some (codes "h0")); topics = ([]) } ∷ record { work = (record { line = 9; work = (module_work (codes "setup") (no_parts)); condition = (expression (disjunction (expression (path_status is_failed (variable (codes "inv")) ([])) (expression (conjunction (expression (path_status is_failed (other item_host (codes "s")) ((codes "changed") ∷ [])) (expression (negation (defined (variable (codes "r")) ((codes "rc") ∷ []))) (no_expressions)))) (no_expressions)))) (expression (in_batch item_host) (no_expressions))); loop = None; register = (Some (codes "r")); vars = (part (codes "v2") (literal (int (pos 1))) (no_parts)); notify = ([]); changed_when = None; failed_when = None; attempts = None; ignore_errors = None }); name = (Some (codes "h1")); topics = ([]) } ∷ []); forces = true } ∷ [])

abbrev random_100522_inventory : Inventory
random_100522_inventory = record { hosts = (record { name = (codes "c"); variables = (field (codes "inv") (list (item (int (pos 1)) (item (int (pos 2)) (no_items)))) (no_fields)) } ∷ record { name = (codes "b"); variables = (field (codes "inv") (list (item (int (pos 1)) (item (int (pos 2)) (no_items)))) (field (codes "k") (rec (field (codes "z") opaque (no_fields))) (no_fields))) } ∷ record { name = (codes "a"); variables = (field (codes "inv") (list (item (text (codes "x")) (no_items))) (field (codes "opq") opaque (no_fields))) } ∷ []); groups = (record { name = (codes "all"); hosts = ((codes "c") ∷ (codes "b") ∷ (codes "a") ∷ []) } ∷ record { name = (codes "g"); hosts = ((codes "b") ∷ (codes "a") ∷ []) } ∷ record { name = (codes "ungrouped"); hosts = ((codes "c") ∷ []) } ∷ []) }

abbrev random_100522_registry : Registry
random_100522_registry = (builtins ++ ([]))

random_100522 : judged random_100522_registry random_100522_inventory random_100522_book ≡ refused (record { code = 3; line = 6; host = (Some (codes "c")) })
random_100522 = refl

-- random_100523:
abbrev random_100523_book : Book
random_100523_book = (record { line = 1; pattern = ((codes "all") ∷ []); gathering = (Some 2); vars = (no_parts); is_linear = false; serial = (host_count 1 ∷ percentage 100 ∷ []); pre_tasks = (block_step (record { line = 3; condition = (no_expressions); vars = (no_parts); ignore_errors = None }) (block_step (record { line = 4; condition = (no_expressions); vars = (no_parts); ignore_errors = None }) (block_step (record { line = 5; condition = (no_expressions); vars = (no_parts); ignore_errors = (Some false) }) (task_step (record { line = 6; work = (module_work (codes "command") (part (codes "cmd") (literal (text (codes "x"))) (no_parts))); condition = (no_expressions); loop = None; register = None; vars = (no_parts); notify = ((codes "h0") ∷ []); changed_when = (Some (expression (literal (boolean false)) (no_expressions))); failed_when = None; attempts = None; ignore_errors = None }) (task_step (record { line = 7; work = (module_work (codes "command") (part (codes "cmd") (literal (text (codes "x"))) (no_parts))); condition = (expression (negation (defined (variable (codes "r3")) ((codes "changed") ∷ []))) (no_expressions)); loop = None; register = None; vars = (no_parts); notify = ([]); changed_when = None; failed_when = None; attempts = None; ignore_errors = None }) (no_steps))) (task_step (record { line = 8; work = (module_work (codes "command") (part (codes "cmd") (literal (text (codes "x"))) (no_parts))); condition = (no_expressions); loop = None; register = None; vars = (no_parts); notify = ([]); changed_when = None; failed_when = None; attempts = None; ignore_errors = (Some true) }) (task_step (record { line = 9; work = (module_work (codes "command") (part (codes "cmd") (literal (text (codes "x"))) (no_parts))); condition = (expression (negation (negation (path_status is_skipped (variable (codes "r3")) ([])))) (no_expressions)); loop = (Some (path (other (named_host (codes "a")) (codes "r1")) ((codes "failed") ∷ []))); register = (Some (codes "r1")); vars = (no_parts); notify = ((codes "h0") ∷ []); changed_when = None; failed_when = None; attempts = None; ignore_errors = None }) (task_step (record { line = 10; work = (module_work (codes "ping") (no_parts)); condition = (no_expressions); loop = None; register = (Some (codes "r3")); vars = (no_parts); notify = ([]); changed_when = None; failed_when = (Some (expression (literal (boolean false)) (no_expressions))); attempts = None; ignore_errors = (Some true) }) (no_steps)))) (no_steps) (no_steps)) (no_steps) (no_steps) (block_step (record { line = 11; condition = (no_expressions); vars = (no_parts); ignore_errors = None }) (task_step (record { line = 12; work = (module_work (codes "stat") (part (codes "path") (literal (text (codes "/"))) (no_parts))); condition = (expression (in_batch item_host) (no_expressions)); loop = (Some (path (variable (codes "groups")) ((codes "all") ∷ []))); register = (Some (codes "r2")); vars = (no_parts); notify = ([]); changed_when = None; failed_when = None; attempts = None; ignore_errors = None }) (task_step (record { line = 13; work = (module_work (codes "setup") (no_parts)); condition = (expression (negation (defined (variable (codes "r1")) ((codes "stdout") ∷ []))) (no_expressions)); loop = None; register = (Some (codes "r1")); vars = (no_parts); notify = ([]); changed_when = None; failed_when = None; attempts = None; ignore_errors = None }) (no_steps))) (no_steps) (no_steps) (no_steps))) (block_step (record { line = 14; condition = (expression (conjunction (expression (in_batch (named_host (codes "a"))) (expression (negation (defined (variable (codes "s2")) ((codes "changed") ∷ []))) (no_expressions)))) (no_expressions)); vars = (no_parts); ignore_errors = None }) (task_step (record { line = 15; work = (module_work (codes "probe") (no_parts)); condition = (expression (membership (literal (text (codes "g2"))) (path (variable (codes "group_names")) ([]))) (no_expressions)); loop = None; register = (Some (codes "r1")); vars = (no_parts); notify = ([]); changed_when = None; failed_when = None; attempts = None; ignore_errors = None }) (task_step (record { line = 16; work = (module_work (codes "probe") (no_parts)); condition = (no_expressions); loop = (Some (path (variable (codes "ansible_play_batch")) ([]))); register = None; vars = (no_parts); notify = ([]); changed_when = None; failed_when = (Some (expression (comparison equal (path (variable (codes "inventory_hostname")) ([])) (literal (text (codes "a")))) (no_expressions))); attempts = None; ignore_errors = (Some false) }) (block_step (record { line = 17; condition = (no_expressions); vars = (part (codes "v2") (list_of (no_expressions)) (no_parts)); ignore_errors = None }) (task_step (record { line = 18; work = (debug_work (part (codes "msg") (path_or (other this_host (codes "op")) ([]) (literal (int (pos 1)))) (no_parts))); condition = (no_expressions); loop = None; register = None; vars = (part (codes "v2") (concatenation (expression (literal (text (codes "x"))) (expression (path_or (variable (codes "r3")) ((codes "ping") ∷ []) (path (variable (codes "s1")) ([]))) (no_expressions)))) (part (codes "v3") (comparison equal (path (variable (codes "i1")) ([])) (path (variable (codes "ansible_play_batch")) ([]))) (no_parts))); notify = ([]); changed_when = (Some (expression (literal (boolean false)) (no_expressions))); failed_when = None; attempts = None; ignore_errors = None }) (no_steps)) (task_step (record { line = 19; work = (module_work (codes "ping") (no_parts)); condition = (expression (disjunction (expression (in_batch (named_host (codes "a"))) (expression (path_status is_failed (variable (codes "r2")) ([])) (no_expressions)))) (no_expressions)); loop = None; register = (Some (codes "r3")); vars = (no_parts); notify = ([]); changed_when = None; failed_when = None; attempts = None; ignore_errors = None }) (no_steps)) (task_step (record { line = 20; work = (module_work (codes "command") (part (codes "cmd") (literal (text (codes "x"))) (no_parts))); condition = (expression (negation (defined (variable (codes "r3")) ([]))) (no_expressions)); loop = None; register = None; vars = (no_parts); notify = ([]); changed_when = None; failed_when = None; attempts = None; ignore_errors = None }) (task_step (record { line = 21; work = (set_fact_work (part (codes "s2") (path_or (variable (codes "ansible_facts")) ([]) (path (variable (codes "s1")) ([]))) (no_parts))); condition = (expression (negation (comparison equal (path (other (named_host (codes "a")) (codes "r3")) ((codes "msg") ∷ [])) (literal (boolean true)))) (no_expressions)); loop = None; register = (Some (codes "r2")); vars = (part (codes "v2") (path (variable (codes "r3")) ([])) (no_parts)); notify = ([]); changed_when = None; failed_when = None; attempts = None; ignore_errors = None }) (task_step (record { line = 22; work = (module_work (codes "ping") (no_parts)); condition = (expression (in_batch item_host) (no_expressions)); loop = (Some (path (variable (codes "groups")) ((codes "all") ∷ []))); register = (Some (codes "r1")); vars = (no_parts); notify = ([]); changed_when = None; failed_when = None; attempts = None; ignore_errors = None }) (no_steps)))) (no_steps)))) (task_step (record { line = 23; work = (assert_work (conditions_are (expression (comparison equal (path (variable (codes "r3")) ((codes "results") ∷ [])) (list_of (expression (literal (int (pos 1))) (no_expressions)))) (no_expressions))) (no_parts)); condition = (no_expressions); loop = None; register = None; vars = (no_parts); notify = ([]); changed_when = None; failed_when = None; attempts = None; ignore_errors = None }) (task_step (record { line = 24; work = (module_work (codes "command") (part (codes "cmd") (literal (text (codes "x"))) (no_parts))); condition = (expression (in_batch this_host) (no_expressions)); loop = None; register = None; vars = (part (codes "v2") (concatenation (expression (literal (text (codes "x"))) (expression (list_of (expression (path (variable (codes "r2")) ((codes "changed") ∷ [])) (expression (literal (int (pos 1))) (no_expressions)))) (no_expressions)))) (part (codes "v3") (literal null) (no_parts))); notify = ([]); changed_when = None; failed_when = None; attempts = None; ignore_errors = None }) (no_steps))) (no_steps) (task_step (record { line = 25; work = (module_work (codes "stat") (part (codes "path") (literal (text (codes "/"))) (no_parts))); condition = (no_expressions); loop = None; register = None; vars = (no_parts); notify = ([]); changed_when = None; failed_when = None; attempts = None; ignore_errors = None }) (no_steps))) (no_steps) (task_step (record { line = 26; work = (set_fact_work (part (codes "s1") (literal (text (codes "t"))) (no_parts))); condition = (expression (conjunction (expression (membership (literal (text (codes "g1"))) (path (variable (codes "group_names")) ([]))) (expression (defined (variable (codes "i2")) ([])) (no_expressions)))) (no_expressions)); loop = None; register = (Some (codes "r1")); vars = (no_parts); notify = ([]); changed_when = None; failed_when = None; attempts = None; ignore_errors = None }) (no_steps))); tasks = (task_step (record { line = 27; work = (module_work (codes "odd") (no_parts)); condition = (expression (disjunction (expression (membership (literal (text (codes "g2"))) (path (variable (codes "group_names")) ([]))) (expression (comparison equal (path (variable (codes "inventory_hostname")) ([])) (literal (text (codes "a")))) (no_expressions)))) (no_expressions)); loop = (Some (list_of (expression (literal (text (codes "no"))) (no_expressions)))); register = (Some (codes "r3")); vars = (no_parts); notify = ((codes "t") ∷ []); changed_when = None; failed_when = None; attempts = None; ignore_errors = (Some false) }) (task_step (record { line = 28; work = (module_work (codes "command") (part (codes "cmd") (literal (text (codes "x"))) (no_parts))); condition = (no_expressions); loop = None; register = None; vars = (no_parts); notify = ([]); changed_when = None; failed_when = None; attempts = None; ignore_errors = None }) (flush_step 29 (no_steps)))); post_tasks = (no_steps); handlers = (record { work = (record { line = 30; work = (module_work (codes "stat") (part (codes "path") (literal (text (codes "/"))) (no_parts))); condition = (no_expressions); loop = None; register = (Some (codes "r2")); vars = (part (codes "v1") (path (variable (codes "r3")) ((codes "skipped") ∷ [])) (part (codes "v2") (path (other (named_host (codes "a")) (codes "r2")) ((codes "changed") ∷ [])) (no_parts))); notify = ((codes "h1") ∷ []); changed_when = None; failed_when = None; attempts = None; ignore_errors = None }); name = (Some (codes "h0")); topics = ((codes "t") ∷ []) } ∷ record { work = (record { line = 31; work = (module_work (codes "command") (part (codes "cmd") (literal (text (codes "x"))) (no_parts))); condition = (no_expressions); loop = None; register = (Some (codes "r2")); vars = (no_parts); notify = ([]); changed_when = None; failed_when = None; attempts = None; ignore_errors = None }); name = (Some (codes "h1")); topics = ([]) } ∷ []); forces = false } ∷ record { line = 32; pattern = ((codes "all") ∷ []); gathering = (Some 33); vars = (no_parts); is_linear = true; serial = (host_count 1 ∷ []); pre_tasks = (no_steps); tasks = (task_step (record { line = 34; work = (module_work (codes "ping") (no_parts)); condition = (no_expressions); loop = (Some (path (variable (codes "r1")) ((codes "failed") ∷ []))); register = (Some (codes "r2")); vars = (part (codes "v3") (list_of (expression (path (variable (codes "item")) ((codes "f") ∷ [])) (expression (path (variable (codes "item")) ((codes "f") ∷ [])) (no_expressions)))) (no_parts)); notify = ([]); changed_when = None; failed_when = None; attempts = None; ignore_errors = None }) (task_step (record { line = 35; work = (module_work (codes "command") (part (codes "cmd") (literal (text (codes "x"))) (no_parts))); condition = (no_expressions); loop = None; register = (Some (codes "r1")); vars = (no_parts); notify = ([]); changed_when = None; failed_when = None; attempts = None; ignore_errors = None }) (block_step (record { line = 36; condition = (expression (in_batch (named_host (codes "a"))) (no_expressions)); vars = (no_parts); ignore_errors = None }) (task_step (record { line = 37; work = (module_work (codes "command") (part (codes "cmd") (concatenation (expression (literal (text (codes "x "))) (expression (comparison equal (path (other this_host (codes "i1")) ((codes "rc") ∷ [])) (path (variable (codes "op")) ([]))) (no_expressions)))) (no_parts))); condition = (expression (conjunction (expression (in_batch (named_host (codes "a"))) (expression (negation (path_status is_changed (variable (codes "r1")) ([]))) (no_expressions)))) (no_expressions)); loop = None; register = (Some (codes "r3")); vars = (no_parts); notify = ([]); changed_when = None; failed_when = None; attempts = (Some (record { until = (expression (literal (boolean true)) (no_expressions)); retries = 1 })); ignore_errors = None }) (no_steps)) (no_steps) (task_step (record { line = 38; work = (debug_work (part (codes "msg") (path_or (variable (codes "r2")) ((codes "msg") ∷ []) (list_of (no_expressions))) (no_parts))); condition = (expression (comparison equal (path (variable (codes "group_names")) ([])) (literal (text (codes "a")))) (no_expressions)); loop = None; register = None; vars = (no_parts); notify = ((codes "t") ∷ []); changed_when = None; failed_when = None; attempts = None; ignore_errors = None }) (no_steps)) (task_step (record { line = 39; work = (module_work (codes "setup") (no_parts)); condition = (no_expressions); loop = (Some (path (variable (codes "ansible_os_family")) ([]))); register = (Some (codes "r1")); vars = (no_parts); notify = ([]); changed_when = None; failed_when = None; attempts = None; ignore_errors = (Some true) }) (no_steps))))); post_tasks = (no_steps); handlers = (record { work = (record { line = 40; work = (assert_work (conditions_are (expression (negation (in_batch (named_host (codes "a")))) (no_expressions))) (no_parts)); condition = (no_expressions); loop = None; register = (Some (codes "r2")); vars = (no_parts); notify = ([]); changed_when = None; failed_when = None; attempts = None; ignore_errors = None }); name = (Some (codes "h0")); topics = ((codes "t") ∷ []) } ∷ []); forces = true } ∷ [])

abbrev random_100523_inventory : Inventory
random_100523_inventory = record { hosts = (record { name = (codes "a"); variables = (field (codes "i2") (int (pos 2)) (field (codes "op") opaque (no_fields))) } ∷ []); groups = (record { name = (codes "all"); hosts = ((codes "a") ∷ []) } ∷ record { name = (codes "g2"); hosts = ((codes "a") ∷ []) } ∷ record { name = (codes "ungrouped"); hosts = ([]) } ∷ []) }

abbrev random_100523_registry : Registry
random_100523_registry = (builtins ++ (record { name = (codes "probe"); params = (record { name = (codes "n"); kind = ints; required = false } ∷ record { name = (codes "l"); kind = (lists texts 3); required = false } ∷ []); ok = recs (slot (codes "changed") true booleans (slot (codes "deep") false (recs (slot (codes "a") true texts (slot (codes "b") false booleans (no_slots)))) (slot (codes "rows") true (lists texts 2) (slot (codes "v") false ints (no_slots))))); failure = recs (slot (codes "changed") true booleans (slot (codes "msg") true texts (slot (codes "v") false texts (slot (codes "why") true ints (no_slots))))); free = None } ∷ record { name = (codes "odd"); params = ([]); ok = recs (slot (codes "changed") true booleans (slot (codes "msg") false ints (no_slots))); failure = recs (slot (codes "changed") true booleans (slot (codes "msg") true texts (no_slots))); free = None } ∷ []))

random_100523 : judged random_100523_registry random_100523_inventory random_100523_book ≡ refused (record { code = 2; line = 9; host = (Some (codes "a")) })
random_100523 = refl

-- random_100530:
abbrev random_100530_book : Book
random_100530_book = (record { line = 1; pattern = ((codes "g") ∷ []); gathering = None; vars = (no_parts); is_linear = true; serial = ([]); pre_tasks = (no_steps); tasks = (task_step (record { line = 2; work = (set_fact_work (part (codes "s") (literal (text (codes "a"))) (no_parts))); condition = (expression (defined (variable (codes "r")) ([])) (expression (in_batch (named_host (codes "a"))) (no_expressions))); loop = None; register = (Some (codes "r")); vars = (part (codes "v1") (literal null) (no_parts)); notify = ([]); changed_when = None; failed_when = None; attempts = None; ignore_errors = (Some true) }) (task_step (record { line = 3; work = (module_work (codes "command") (part (codes "cmd") (length_of (path (variable (codes "r")) ((codes "rc") ∷ []))) (no_parts))); condition = (no_expressions); loop = None; register = None; vars = (no_parts); notify = ([]); changed_when = None; failed_when = (Some (expression (path_status is_failed (variable (codes "zz")) ([])) (no_expressions))); attempts = None; ignore_errors = None }) (no_steps))); post_tasks = (no_steps); handlers = ([]); forces = false } ∷ [])

abbrev random_100530_inventory : Inventory
random_100530_inventory = record { hosts = (record { name = (codes "c"); variables = (field (codes "inv") (list (item (int (pos 1)) (item (int (pos 2)) (no_items)))) (no_fields)) } ∷ record { name = (codes "b"); variables = (field (codes "inv") (list (item (int (pos 1)) (item (int (pos 2)) (no_items)))) (field (codes "k") (rec (field (codes "z") opaque (no_fields))) (no_fields))) } ∷ record { name = (codes "a"); variables = (field (codes "inv") (list (item (text (codes "x")) (no_items))) (field (codes "opq") opaque (no_fields))) } ∷ []); groups = (record { name = (codes "all"); hosts = ((codes "c") ∷ (codes "b") ∷ (codes "a") ∷ []) } ∷ record { name = (codes "g"); hosts = ((codes "b") ∷ (codes "a") ∷ []) } ∷ record { name = (codes "ungrouped"); hosts = ((codes "c") ∷ []) } ∷ []) }

abbrev random_100530_registry : Registry
random_100530_registry = (builtins ++ ([]))

random_100530 : judged random_100530_registry random_100530_inventory random_100530_book ≡ refused (record { code = 3; line = 3; host = (Some (codes "b")) })
random_100530 = refl

-- random_100533_run:
abbrev random_100533_run_book : Book
random_100533_run_book = (record { line = 1; pattern = ((codes "all") ∷ []); gathering = None; vars = (no_parts); is_linear = false; serial = (host_count 2 ∷ []); pre_tasks = (no_steps); tasks = (task_step (record { line = 2; work = (set_fact_work (part (codes "s3") (list_of (expression (list_of (expression (literal (int (pos 1))) (expression (literal (int (pos 2))) (no_expressions)))) (no_expressions))) (no_parts))); condition = (no_expressions); loop = None; register = (Some (codes "r3")); vars = (no_parts); notify = ([]); changed_when = None; failed_when = None; attempts = None; ignore_errors = None }) (no_steps)); post_tasks = (no_steps); handlers = ([]); forces = false } ∷ [])

abbrev random_100533_run_inventory : Inventory
random_100533_run_inventory = record { hosts = (record { name = (codes "a"); variables = (field (codes "i2") (text ([])) (field (codes "op") opaque (no_fields))) } ∷ record { name = (codes "b"); variables = (field (codes "i2") (text ([])) (no_fields)) } ∷ []); groups = (record { name = (codes "all"); hosts = ((codes "a") ∷ (codes "b") ∷ []) } ∷ record { name = (codes "g2"); hosts = ((codes "b") ∷ []) } ∷ record { name = (codes "ungrouped"); hosts = ((codes "a") ∷ []) } ∷ []) }

abbrev random_100533_run_registry : Registry
random_100533_run_registry = (builtins ++ (record { name = (codes "probe"); params = (record { name = (codes "n"); kind = ints; required = false } ∷ record { name = (codes "l"); kind = (lists texts 3); required = false } ∷ []); ok = recs (slot (codes "changed") true booleans (slot (codes "deep") false (recs (slot (codes "a") true texts (slot (codes "b") false booleans (no_slots)))) (slot (codes "rows") true (lists texts 2) (slot (codes "v") false ints (no_slots))))); failure = recs (slot (codes "changed") true booleans (slot (codes "msg") true texts (slot (codes "v") false texts (slot (codes "why") true ints (no_slots))))); free = None } ∷ record { name = (codes "odd"); params = ([]); ok = recs (slot (codes "changed") true booleans (slot (codes "msg") false ints (no_slots))); failure = recs (slot (codes "changed") true booleans (slot (codes "msg") true texts (no_slots))); free = None } ∷ []))

random_100533_run : recaps_of random_100533_run_registry random_100533_run_inventory random_100533_run_book 1 (([]) ∷ ([]) ∷ []) ≡ (record { ok = 1; changed = 0; unreachable = 0; failed = 0; skipped = 0; rescued = 0; ignored = 0 } ∷ record { ok = 1; changed = 0; unreachable = 0; failed = 0; skipped = 0; rescued = 0; ignored = 0 } ∷ [])
unfolding digits
random_100533_run = refl

-- random_100575:
abbrev random_100575_book : Book
random_100575_book = (record { line = 1; pattern = ((codes "all") ∷ []); gathering = None; vars = (no_parts); is_linear = false; serial = ([]); pre_tasks = (task_step (record { line = 2; work = (module_work (codes "ping") (no_parts)); condition = (no_expressions); loop = None; register = (Some (codes "r3")); vars = (no_parts); notify = ([]); changed_when = None; failed_when = None; attempts = None; ignore_errors = None }) (task_step (record { line = 3; work = (debug_work (part (codes "msg") (literal (text (codes "x"))) (no_parts))); condition = (no_expressions); loop = None; register = (Some (codes "r2")); vars = (no_parts); notify = ([]); changed_when = None; failed_when = None; attempts = None; ignore_errors = None }) (no_steps))); tasks = (task_step (record { line = 4; work = (module_work (codes "probe") (no_parts)); condition = (no_expressions); loop = None; register = (Some (codes "r3")); vars = (no_parts); notify = ([]); changed_when = None; failed_when = None; attempts = None; ignore_errors = None }) (no_steps)); post_tasks = (task_step (record { line = 5; work = (module_work (codes "command") (part (codes "cmd") (literal (text (codes "x"))) (no_parts))); condition = (no_expressions); loop = None; register = None; vars = (no_parts); notify = ([]); changed_when = None; failed_when = None; attempts = (Some (record { until = (expression (literal (boolean false)) (no_expressions)); retries = 3 })); ignore_errors = None }) (task_step (record { line = 6; work = (fail_work (part (codes "msg") (literal (text (codes "m"))) (no_parts))); condition = (no_expressions); loop = None; register = (Some (codes "r1")); vars = (no_parts); notify = ([]); changed_when = None; failed_when = None; attempts = None; ignore_errors = None }) (task_step (record { line = 7; work = (module_work (codes "command") (part (codes "cmd") (literal (text (codes "x"))) (no_parts))); condition = (no_expressions); loop = None; register = (Some (codes "r3")); vars = (no_parts); notify = ([]); changed_when = None; failed_when = None; attempts = (Some (record { until = (expression (path_status is_failed (variable (codes "r3")) ([])) (no_expressions)); retries = 1 })); ignore_errors = None }) (no_steps)))); handlers = ([]); forces = true } ∷ [])

abbrev random_100575_inventory : Inventory
random_100575_inventory = record { hosts = (record { name = (codes "a"); variables = (field (codes "i1") (boolean true) (field (codes "i2") (list (item (boolean true) (no_items))) (no_fields))) } ∷ record { name = (codes "b"); variables = (field (codes "i1") (list (item (text (codes "x")) (item (boolean false) (no_items)))) (field (codes "op") opaque (no_fields))) } ∷ []); groups = (record { name = (codes "all"); hosts = ((codes "a") ∷ (codes "b") ∷ []) } ∷ record { name = (codes "g1"); hosts = ((codes "b") ∷ []) } ∷ record { name = (codes "g2"); hosts = ((codes "a") ∷ (codes "b") ∷ []) } ∷ record { name = (codes "ungrouped"); hosts = ([]) } ∷ []) }

abbrev random_100575_registry : Registry
random_100575_registry = (builtins ++ (record { name = (codes "probe"); params = (record { name = (codes "n"); kind = ints; required = false } ∷ record { name = (codes "l"); kind = (lists texts 3); required = false } ∷ []); ok = recs (slot (codes "changed") true booleans (slot (codes "deep") false (recs (slot (codes "a") true texts (slot (codes "b") false booleans (no_slots)))) (slot (codes "rows") true (lists texts 2) (slot (codes "v") false ints (no_slots))))); failure = recs (slot (codes "changed") true booleans (slot (codes "msg") true texts (slot (codes "v") false texts (slot (codes "why") true ints (no_slots))))); free = None } ∷ record { name = (codes "odd"); params = ([]); ok = recs (slot (codes "changed") true booleans (slot (codes "msg") false ints (no_slots))); failure = recs (slot (codes "changed") true booleans (slot (codes "msg") true texts (no_slots))); free = None } ∷ []))

random_100575 : judged random_100575_registry random_100575_inventory random_100575_book ≡ accepted 16
random_100575 = refl

-- random_100575_run:
abbrev random_100575_run_book : Book
random_100575_run_book = (record { line = 1; pattern = ((codes "all") ∷ []); gathering = None; vars = (no_parts); is_linear = false; serial = ([]); pre_tasks = (task_step (record { line = 2; work = (module_work (codes "ping") (no_parts)); condition = (no_expressions); loop = None; register = (Some (codes "r3")); vars = (no_parts); notify = ([]); changed_when = None; failed_when = None; attempts = None; ignore_errors = None }) (task_step (record { line = 3; work = (debug_work (part (codes "msg") (literal (text (codes "x"))) (no_parts))); condition = (no_expressions); loop = None; register = (Some (codes "r2")); vars = (no_parts); notify = ([]); changed_when = None; failed_when = None; attempts = None; ignore_errors = None }) (no_steps))); tasks = (task_step (record { line = 4; work = (module_work (codes "probe") (no_parts)); condition = (no_expressions); loop = None; register = (Some (codes "r3")); vars = (no_parts); notify = ([]); changed_when = None; failed_when = None; attempts = None; ignore_errors = None }) (no_steps)); post_tasks = (task_step (record { line = 5; work = (module_work (codes "command") (part (codes "cmd") (literal (text (codes "x"))) (no_parts))); condition = (no_expressions); loop = None; register = None; vars = (no_parts); notify = ([]); changed_when = None; failed_when = None; attempts = (Some (record { until = (expression (literal (boolean false)) (no_expressions)); retries = 3 })); ignore_errors = None }) (task_step (record { line = 6; work = (fail_work (part (codes "msg") (literal (text (codes "m"))) (no_parts))); condition = (no_expressions); loop = None; register = (Some (codes "r1")); vars = (no_parts); notify = ([]); changed_when = None; failed_when = None; attempts = None; ignore_errors = None }) (task_step (record { line = 7; work = (module_work (codes "command") (part (codes "cmd") (literal (text (codes "x"))) (no_parts))); condition = (no_expressions); loop = None; register = (Some (codes "r3")); vars = (no_parts); notify = ([]); changed_when = None; failed_when = None; attempts = (Some (record { until = (expression (path_status is_failed (variable (codes "r3")) ([])) (no_expressions)); retries = 1 })); ignore_errors = None }) (no_steps)))); handlers = ([]); forces = true } ∷ [])

abbrev random_100575_run_inventory : Inventory
random_100575_run_inventory = record { hosts = (record { name = (codes "a"); variables = (field (codes "i1") (boolean true) (field (codes "i2") (list (item (boolean true) (no_items))) (no_fields))) } ∷ record { name = (codes "b"); variables = (field (codes "i1") (list (item (text (codes "x")) (item (boolean false) (no_items)))) (field (codes "op") opaque (no_fields))) } ∷ []); groups = (record { name = (codes "all"); hosts = ((codes "a") ∷ (codes "b") ∷ []) } ∷ record { name = (codes "g1"); hosts = ((codes "b") ∷ []) } ∷ record { name = (codes "g2"); hosts = ((codes "a") ∷ (codes "b") ∷ []) } ∷ record { name = (codes "ungrouped"); hosts = ([]) } ∷ []) }

abbrev random_100575_run_registry : Registry
random_100575_run_registry = (builtins ++ (record { name = (codes "probe"); params = (record { name = (codes "n"); kind = ints; required = false } ∷ record { name = (codes "l"); kind = (lists texts 3); required = false } ∷ []); ok = recs (slot (codes "changed") true booleans (slot (codes "deep") false (recs (slot (codes "a") true texts (slot (codes "b") false booleans (no_slots)))) (slot (codes "rows") true (lists texts 2) (slot (codes "v") false ints (no_slots))))); failure = recs (slot (codes "changed") true booleans (slot (codes "msg") true texts (slot (codes "v") false texts (slot (codes "why") true ints (no_slots))))); free = None } ∷ record { name = (codes "odd"); params = ([]); ok = recs (slot (codes "changed") true booleans (slot (codes "msg") false ints (no_slots))); failure = recs (slot (codes "changed") true booleans (slot (codes "msg") true texts (no_slots))); free = None } ∷ []))

random_100575_run : recaps_of random_100575_run_registry random_100575_run_inventory random_100575_run_book 1 ((object (rec (field (codes "changed") (boolean false) (field (codes "failed") (boolean true) (field (codes "msg") (text (codes "x")) (no_fields))))) ∷ []) ∷ (object (rec (field (codes "changed") (boolean true) (field (codes "failed") (boolean true) (field (codes "msg") (text (123 ∷ 123 ∷ 32 ∷ 120 ∷ 32 ∷ 125 ∷ 125 ∷ [])) (no_fields))))) ∷ []) ∷ []) ≡ (record { ok = 0; changed = 0; unreachable = 0; failed = 1; skipped = 0; rescued = 0; ignored = 0 } ∷ record { ok = 0; changed = 0; unreachable = 0; failed = 1; skipped = 0; rescued = 0; ignored = 0 } ∷ [])
unfolding digits
random_100575_run = refl

-- random_100594:
abbrev random_100594_book : Book
random_100594_book = (record { line = 1; pattern = ((codes "all") ∷ []); gathering = None; vars = (part (codes "v1") (literal null) (no_parts)); is_linear = true; serial = ([]); pre_tasks = (no_steps); tasks = (block_step (record { line = 2; condition = (no_expressions); vars = (no_parts); ignore_errors = None }) (task_step (record { line = 3; work = (module_work (codes "ping") (no_parts)); condition = (no_expressions); loop = None; register = None; vars = (no_parts); notify = ([]); changed_when = None; failed_when = None; attempts = None; ignore_errors = None }) (no_steps)) (block_step (record { line = 4; condition = (no_expressions); vars = (no_parts); ignore_errors = None }) (task_step (record { line = 5; work = (module_work (codes "command") (part (codes "cmd") (literal (text (codes "x"))) (no_parts))); condition = (no_expressions); loop = None; register = None; vars = (no_parts); notify = ([]); changed_when = None; failed_when = None; attempts = (Some (record { until = (expression (literal (boolean false)) (no_expressions)); retries = 2 })); ignore_errors = None }) (task_step (record { line = 6; work = (module_work (codes "setup") (no_parts)); condition = (expression (defined (variable (codes "y")) ([])) (expression (negation (disjunction (expression (negation (defined (variable (codes "r")) ([]))) (expression (path_status is_failed (variable (codes "r")) ([])) (no_expressions))))) (no_expressions))); loop = None; register = (Some (codes "r")); vars = (no_parts); notify = ([]); changed_when = None; failed_when = None; attempts = None; ignore_errors = None }) (no_steps))) (no_steps) (no_steps) (task_step (record { line = 7; work = (module_work (codes "setup") (no_parts)); condition = (expression (conjunction (expression (defined (variable (codes "r")) ([])) (expression (negation (path_status is_failed (variable (codes "r")) ([]))) (no_expressions)))) (no_expressions)); loop = None; register = None; vars = (no_parts); notify = ([]); changed_when = None; failed_when = None; attempts = None; ignore_errors = None }) (no_steps))) (task_step (record { line = 8; work = (assert_work (conditions_are (expression (negation (negation (defined (variable (codes "groups")) ((codes "g") ∷ [])))) (no_expressions))) (no_parts)); condition = (no_expressions); loop = None; register = (Some (codes "s")); vars = (no_parts); notify = ([]); changed_when = None; failed_when = None; attempts = None; ignore_errors = None }) (no_steps)) (task_step (record { line = 9; work = (module_work (codes "stat") (part (codes "path") (literal (text (codes "p"))) (no_parts))); condition = (no_expressions); loop = None; register = None; vars = (no_parts); notify = ([]); changed_when = None; failed_when = None; attempts = None; ignore_errors = (Some true) }) (task_step (record { line = 10; work = (module_work (codes "command") (part (codes "cmd") (literal (text (codes "x"))) (no_parts))); condition = (expression (negation (disjunction (expression (negation (defined (variable (codes "r")) ((codes "failed") ∷ []))) (expression (membership (literal (text (codes "a"))) (path (variable (codes "inventory_hostname")) ([]))) (no_expressions))))) (expression (conjunction (expression (in_batch this_host) (expression (path_status is_failed (variable (codes "r")) ((codes "os_family") ∷ [])) (no_expressions)))) (no_expressions))); loop = None; register = None; vars = (no_parts); notify = ([]); changed_when = None; failed_when = None; attempts = None; ignore_errors = None }) (task_step (record { line = 11; work = (module_work (codes "command") (part (codes "cmd") (length_of (path (variable (codes "zz")) ((codes "results") ∷ []))) (no_parts))); condition = (expression (negation (path_status is_skipped (variable (codes "r")) ([]))) (expression (negation (disjunction (expression (negation (defined (variable (codes "r")) ([]))) (expression (path_status is_failed (variable (codes "r")) ([])) (no_expressions))))) (no_expressions))); loop = None; register = (Some (codes "s")); vars = (no_parts); notify = ([]); changed_when = None; failed_when = None; attempts = None; ignore_errors = None }) (no_steps))))); post_tasks = (no_steps); handlers = ([]); forces = true } ∷ record { line = 12; pattern = ((codes "g") ∷ []); gathering = None; vars = (part (codes "v1") (path (variable (codes "inv")) ((codes "rc") ∷ [])) (no_parts)); is_linear = false; serial = ([]); pre_tasks = (no_steps); tasks = (block_step (record { line = 13; condition = (no_expressions); vars = (no_parts); ignore_errors = None }) (no_steps) (no_steps) (no_steps) (no_steps)); post_tasks = (no_steps); handlers = (record { work = (record { line = 14; work = (module_work (codes "setup") (no_parts)); condition = (no_expressions); loop = None; register = (Some (codes "r")); vars = (no_parts); notify = ([]); changed_when = None; failed_when = None; attempts = None; ignore_errors = None }); name = (Some (codes "h0")); topics = ([]) } ∷ record { work = (record { line = 15; work = (debug_work (part (codes "msg") (path (variable (codes "ansible_hostname")) ((codes "changed") ∷ [])) (no_parts))); condition = (no_expressions); loop = None; register = None; vars = (no_parts); notify = ([]); changed_when = (Some (expression (literal (boolean true)) (no_expressions))); failed_when = None; attempts = None; ignore_errors = None }); name = (Some (codes "h1")); topics = ([]) } ∷ []); forces = false } ∷ [])

abbrev random_100594_inventory : Inventory
random_100594_inventory = record { hosts = (record { name = (codes "c"); variables = (field (codes "inv") (list (item (int (pos 1)) (item (int (pos 2)) (no_items)))) (no_fields)) } ∷ record { name = (codes "b"); variables = (field (codes "inv") (list (item (int (pos 1)) (item (int (pos 2)) (no_items)))) (field (codes "k") (rec (field (codes "z") opaque (no_fields))) (no_fields))) } ∷ record { name = (codes "a"); variables = (field (codes "inv") (list (item (text (codes "x")) (no_items))) (field (codes "opq") opaque (no_fields))) } ∷ []); groups = (record { name = (codes "all"); hosts = ((codes "c") ∷ (codes "b") ∷ (codes "a") ∷ []) } ∷ record { name = (codes "g"); hosts = ((codes "b") ∷ (codes "a") ∷ []) } ∷ record { name = (codes "ungrouped"); hosts = ((codes "c") ∷ []) } ∷ []) }

abbrev random_100594_registry : Registry
random_100594_registry = (builtins ++ ([]))

random_100594 : judged random_100594_registry random_100594_inventory random_100594_book ≡ refused (record { code = 3; line = 10; host = (Some (codes "c")) })
random_100594 = refl

-- random_100598:
abbrev random_100598_book : Book
random_100598_book = (record { line = 1; pattern = ((codes "all") ∷ []); gathering = None; vars = (no_parts); is_linear = true; serial = ([]); pre_tasks = (no_steps); tasks = (task_step (record { line = 2; work = (module_work (codes "ping") (no_parts)); condition = (no_expressions); loop = None; register = (Some (codes "r")); vars = (no_parts); notify = ([]); changed_when = None; failed_when = None; attempts = None; ignore_errors = (Some false) }) (block_step (record { line = 3; condition = (no_expressions); vars = (no_parts); ignore_errors = None }) (no_steps) (no_steps) (no_steps) (no_steps))); post_tasks = (task_step (record { line = 4; work = (set_fact_work (part (codes "y") (literal (int (pos 1))) (no_parts))); condition = (expression (negation (path_status is_failed (variable (codes "ansible_facts")) ((codes "changed") ∷ []))) (no_expressions)); loop = None; register = None; vars = (no_parts); notify = ([]); changed_when = (Some (expression (literal (boolean false)) (no_expressions))); failed_when = None; attempts = None; ignore_errors = None }) (task_step (record { line = 5; work = (module_work (codes "ping") (no_parts)); condition = (no_expressions); loop = (Some (path (variable (codes "ansible_play_batch")) ([]))); register = None; vars = (no_parts); notify = ([]); changed_when = (Some (expression (literal (boolean true)) (no_expressions))); failed_when = None; attempts = None; ignore_errors = None }) (no_steps))); handlers = ([]); forces = true } ∷ record { line = 6; pattern = ((codes "b") ∷ (codes "a") ∷ []); gathering = None; vars = (part (codes "v1") (path (variable (codes "inv")) ([])) (no_parts)); is_linear = true; serial = (host_count 1 ∷ host_count 2 ∷ []); pre_tasks = (no_steps); tasks = (task_step (record { line = 7; work = (module_work (codes "stat") (part (codes "path") (literal (text (codes "p"))) (no_parts))); condition = (no_expressions); loop = None; register = (Some (codes "s")); vars = (part (codes "v1") (negation (negation (path_status is_failed (variable (codes "groups")) ((codes "g") ∷ [])))) (no_parts)); notify = ([]); changed_when = None; failed_when = None; attempts = (Some (record { until = (expression (negation (path_status is_failed (variable (codes "s")) ([]))) (no_expressions)); retries = 2 })); ignore_errors = None }) (flush_step 8 (no_steps))); post_tasks = (no_steps); handlers = ([]); forces = true } ∷ [])

abbrev random_100598_inventory : Inventory
random_100598_inventory = record { hosts = (record { name = (codes "c"); variables = (field (codes "inv") (list (item (int (pos 1)) (item (int (pos 2)) (no_items)))) (no_fields)) } ∷ record { name = (codes "b"); variables = (field (codes "inv") (list (item (int (pos 1)) (item (int (pos 2)) (no_items)))) (field (codes "k") (rec (field (codes "z") opaque (no_fields))) (no_fields))) } ∷ record { name = (codes "a"); variables = (field (codes "inv") (list (item (text (codes "x")) (no_items))) (field (codes "opq") opaque (no_fields))) } ∷ []); groups = (record { name = (codes "all"); hosts = ((codes "c") ∷ (codes "b") ∷ (codes "a") ∷ []) } ∷ record { name = (codes "g"); hosts = ((codes "b") ∷ (codes "a") ∷ []) } ∷ record { name = (codes "ungrouped"); hosts = ((codes "c") ∷ []) } ∷ []) }

abbrev random_100598_registry : Registry
random_100598_registry = (builtins ++ ([]))

random_100598 : judged random_100598_registry random_100598_inventory random_100598_book ≡ refused (record { code = 1; line = 4; host = (Some (codes "c")) })
random_100598 = refl

-- random_100615:
abbrev random_100615_book : Book
random_100615_book = (record { line = 1; pattern = ((codes "all") ∷ []); gathering = None; vars = (no_parts); is_linear = true; serial = (host_count 1 ∷ []); pre_tasks = (no_steps); tasks = (block_step (record { line = 2; condition = (no_expressions); vars = (no_parts); ignore_errors = None }) (task_step (record { line = 3; work = (module_work (codes "command") (part (codes "cmd") (literal (text (codes "x"))) (no_parts))); condition = (no_expressions); loop = None; register = (Some (codes "r2")); vars = (no_parts); notify = ((codes "h1") ∷ []); changed_when = (Some (expression (literal (boolean false)) (no_expressions))); failed_when = None; attempts = (Some (record { until = (expression (comparison equal (path (variable (codes "r2")) ((codes "rc") ∷ [])) (literal (int (pos 1)))) (no_expressions)); retries = 3 })); ignore_errors = None }) (no_steps)) (task_step (record { line = 4; work = (module_work (codes "probe") (no_parts)); condition = (expression (negation (comparison equal (path (other (named_host (codes "a")) (codes "i1")) ([])) (list_of (expression (literal (int (pos 1))) (no_expressions))))) (no_expressions)); loop = None; register = (Some (codes "r2")); vars = (no_parts); notify = ([]); changed_when = None; failed_when = (Some (expression (comparison equal (path (variable (codes "r2")) ((codes "changed") ∷ [])) (literal (int (pos 1)))) (no_expressions))); attempts = None; ignore_errors = None }) (no_steps)) (no_steps) (no_steps)); post_tasks = (no_steps); handlers = (record { work = (record { line = 5; work = (module_work (codes "command") (part (codes "cmd") (literal (text (codes "x"))) (no_parts))); condition = (no_expressions); loop = None; register = None; vars = (no_parts); notify = ((codes "h2") ∷ []); changed_when = None; failed_when = None; attempts = None; ignore_errors = None }); name = (Some (codes "h0")); topics = ((codes "t") ∷ []) } ∷ record { work = (record { line = 6; work = (module_work (codes "command") (part (codes "cmd") (concatenation (expression (literal (text (codes "x "))) (expression (path (variable (codes "i1")) ([])) (no_expressions)))) (no_parts))); condition = (no_expressions); loop = None; register = None; vars = (no_parts); notify = ((codes "h2") ∷ []); changed_when = None; failed_when = None; attempts = None; ignore_errors = None }); name = (Some (codes "h1")); topics = ([]) } ∷ record { work = (record { line = 7; work = (fail_work (no_parts)); condition = (no_expressions); loop = None; register = None; vars = (no_parts); notify = ([]); changed_when = None; failed_when = None; attempts = None; ignore_errors = None }); name = (Some (codes "h2")); topics = ((codes "t") ∷ []) } ∷ []); forces = false } ∷ [])

abbrev random_100615_inventory : Inventory
random_100615_inventory = record { hosts = (record { name = (codes "a"); variables = (field (codes "i1") (int (pos 1)) (field (codes "s1") (list (item (boolean false) (item (int (pos 1)) (no_items)))) (no_fields))) } ∷ []); groups = (record { name = (codes "all"); hosts = ((codes "a") ∷ []) } ∷ record { name = (codes "g1"); hosts = ((codes "a") ∷ []) } ∷ record { name = (codes "ungrouped"); hosts = ([]) } ∷ []) }

abbrev random_100615_registry : Registry
random_100615_registry = (builtins ++ (record { name = (codes "probe"); params = (record { name = (codes "n"); kind = ints; required = false } ∷ record { name = (codes "l"); kind = (lists texts 3); required = false } ∷ []); ok = recs (slot (codes "changed") true booleans (slot (codes "deep") false (recs (slot (codes "a") true texts (slot (codes "b") false booleans (no_slots)))) (slot (codes "rows") true (lists texts 2) (slot (codes "v") false ints (no_slots))))); failure = recs (slot (codes "changed") true booleans (slot (codes "msg") true texts (slot (codes "v") false texts (slot (codes "why") true ints (no_slots))))); free = None } ∷ record { name = (codes "odd"); params = ([]); ok = recs (slot (codes "changed") true booleans (slot (codes "msg") false ints (no_slots))); failure = recs (slot (codes "changed") true booleans (slot (codes "msg") true texts (no_slots))); free = None } ∷ []))

random_100615 : judged random_100615_registry random_100615_inventory random_100615_book ≡ accepted 7
random_100615 = refl
