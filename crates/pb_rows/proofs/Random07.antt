-- Cases of random, computed.
use Rattle.std.specs.Prelude.{◌≡◌, refl, pos, negsuc, [], ◌∷◌, ◌++◌, true, false, Some, None, codes}
use Rattle.std.specs.Fmt.{digits}
use Rattle.pb_semantics.specs.Data.{null, boolean, int, text, list, rec, opaque, no_items, item, no_fields, field}
use Rattle.pb_semantics.specs.Kind.{booleans, ints, texts, lists, recs, no_slots, slot}
use Rattle.pb_language.specs.Expression.{equal, less, is_failed, is_changed, is_skipped, named_host, this_host, item_host, group_member, literal, path, negation, conjunction, disjunction, comparison, membership, in_batch, defined, path_status, path_or, length_of, concatenation, list_of, record_of, variable, other, no_expressions, expression, no_parts, part}
use Rattle.pb_language.specs.Book.{conditions_are, module_work, debug_work, set_fact_work, assert_work, fail_work, no_steps, task_step, block_step, flush_step, host_count, percentage, Book, Registry}
use Rattle.pb_language.specs.Builtins.{builtins}
use Rattle.pb_language.specs.Give.{object}
use Rattle.pb_language.specs.Judged.{judged}
use Rattle.pb_language.specs.Program.{Inventory}
use Rattle.pb_language.specs.Verdict.{accepted, refused}
use Rattle.pb_rows.specs.Recaps.{recaps_of}

-- random_001691_run:
abbrev random_001691_run_book : Book
random_001691_run_book = (record { line = 1; pattern = ((codes "c") ∷ []); gathering = None; vars = (no_parts); is_linear = true; serial = ([]); pre_tasks = (no_steps); tasks = (task_step (record { line = 2; work = (debug_work (part (codes "msg") (literal (text (codes "x"))) (no_parts))); condition = (no_expressions); loop = None; register = None; vars = (no_parts); notify = ([]); changed_when = None; failed_when = None; attempts = None; ignore_errors = None }) (task_step (record { line = 3; work = (assert_work (conditions_are (expression (conjunction (expression (in_batch (named_host (codes "b"))) (expression (path_or (variable (codes "r3")) ((codes "skipped") ∷ []) (literal (boolean false))) (no_expressions)))) (no_expressions))) (no_parts)); condition = (expression (disjunction (expression (defined (variable (codes "r2")) ((codes "failed") ∷ [])) (expression (negation (comparison equal (path (variable (codes "inventory_hostname")) ([])) (literal (text (codes "a"))))) (no_expressions)))) (no_expressions)); loop = (Some (path_or (variable (codes "r2")) ((codes "results") ∷ []) (list_of (no_expressions)))); register = (Some (codes "r2")); vars = (part (codes "v2") (length_of (path (variable (codes "i1")) ((codes "rc") ∷ []))) (no_parts)); notify = ([]); changed_when = None; failed_when = (Some (expression (literal (boolean false)) (no_expressions))); attempts = None; ignore_errors = (Some true) }) (task_step (record { line = 4; work = (set_fact_work (part (codes "s1") (record_of (part (codes "f") (literal (int (pos 1))) (no_parts))) (no_parts))); condition = (no_expressions); loop = None; register = None; vars = (no_parts); notify = ([]); changed_when = None; failed_when = None; attempts = None; ignore_errors = None }) (no_steps)))); post_tasks = (no_steps); handlers = (record { work = (record { line = 5; work = (module_work (codes "odd") (no_parts)); condition = (expression (in_batch item_host) (no_expressions)); loop = (Some (path (variable (codes "ansible_play_batch")) ([]))); register = None; vars = (part (codes "v1") (length_of (path (other item_host (codes "s2")) ((codes "f") ∷ []))) (part (codes "v3") (list_of (expression (path (other item_host (codes "s2")) ((codes "f") ∷ [])) (expression (path (other item_host (codes "s2")) ((codes "f") ∷ [])) (no_expressions)))) (no_parts))); notify = ((codes "h1") ∷ []); changed_when = None; failed_when = None; attempts = None; ignore_errors = None }); name = (Some (codes "h0")); topics = ([]) } ∷ record { work = (record { line = 6; work = (debug_work (part (codes "msg") (literal (text (codes "x"))) (no_parts))); condition = (no_expressions); loop = (Some (path_or (variable (codes "r2")) ((codes "results") ∷ []) (list_of (no_expressions)))); register = None; vars = (no_parts); notify = ([]); changed_when = (Some (expression (literal (boolean true)) (no_expressions))); failed_when = None; attempts = None; ignore_errors = None }); name = (Some (codes "h1")); topics = ((codes "t") ∷ []) } ∷ []); forces = false } ∷ [])

abbrev random_001691_run_inventory : Inventory
random_001691_run_inventory = record { hosts = (record { name = (codes "a"); variables = (field (codes "s1") (int (pos 0)) (no_fields)) } ∷ record { name = (codes "b"); variables = (no_fields) } ∷ record { name = (codes "c"); variables = (field (codes "op") opaque (field (codes "s1") (rec (field (codes "f") (text (codes "no")) (field (codes "g") (int (pos 1)) (no_fields)))) (no_fields))) } ∷ []); groups = (record { name = (codes "all"); hosts = ((codes "a") ∷ (codes "b") ∷ (codes "c") ∷ []) } ∷ record { name = (codes "g1"); hosts = ((codes "c") ∷ []) } ∷ record { name = (codes "ungrouped"); hosts = ((codes "a") ∷ (codes "b") ∷ []) } ∷ []) }

abbrev random_001691_run_registry : Registry
random_001691_run_registry = (builtins ++ (record { name = (codes "probe"); params = (record { name = (codes "n"); kind = ints; required = false } ∷ record { name = (codes "l"); kind = (lists texts 3); required = false } ∷ []); ok = recs (slot (codes "changed") true booleans (slot (codes "deep") false (recs (slot (codes "a") true texts (slot (codes "b") false booleans (no_slots)))) (slot (codes "rows") true (lists texts 2) (slot (codes "v") false ints (no_slots))))); failure = recs (slot (codes "changed") true booleans (slot (codes "msg") true texts (slot (codes "v") false texts (slot (codes "why") true ints (no_slots))))); free = None } ∷ record { name = (codes "odd"); params = ([]); ok = recs (slot (codes "changed") true booleans (slot (codes "msg") false ints (no_slots))); failure = recs (slot (codes "changed") true booleans (slot (codes "msg") true texts (no_slots))); free = None } ∷ []))

random_001691_run : recaps_of random_001691_run_registry random_001691_run_inventory random_001691_run_book 1 (([]) ∷ ([]) ∷ ([]) ∷ []) ≡ (record { ok = 0; changed = 0; unreachable = 0; failed = 0; skipped = 0; rescued = 0; ignored = 0 } ∷ record { ok = 0; changed = 0; unreachable = 0; failed = 0; skipped = 0; rescued = 0; ignored = 0 } ∷ record { ok = 2; changed = 0; unreachable = 0; failed = 0; skipped = 1; rescued = 0; ignored = 0 } ∷ [])
unfolding digits
random_001691_run = refl

-- random_001692_run:
abbrev random_001692_run_book : Book
random_001692_run_book = (record { line = 1; pattern = ((codes "all") ∷ []); gathering = None; vars = (part (codes "v1") (comparison equal (path (variable (codes "s")) ((codes "changed") ∷ [])) (literal (text (codes "a")))) (no_parts)); is_linear = true; serial = (percentage 50 ∷ []); pre_tasks = (no_steps); tasks = (task_step (record { line = 2; work = (module_work (codes "stat") (part (codes "path") (literal (text (codes "p"))) (no_parts))); condition = (no_expressions); loop = None; register = None; vars = (no_parts); notify = ([]); changed_when = None; failed_when = None; attempts = None; ignore_errors = None }) (no_steps)); post_tasks = (no_steps); handlers = ([]); forces = true } ∷ [])

abbrev random_001692_run_inventory : Inventory
random_001692_run_inventory = record { hosts = (record { name = (codes "c"); variables = (field (codes "inv") (list (item (int (pos 1)) (item (int (pos 2)) (no_items)))) (no_fields)) } ∷ record { name = (codes "b"); variables = (field (codes "inv") (list (item (int (pos 1)) (item (int (pos 2)) (no_items)))) (field (codes "k") (rec (field (codes "z") opaque (no_fields))) (no_fields))) } ∷ record { name = (codes "a"); variables = (field (codes "inv") (list (item (text (codes "x")) (no_items))) (field (codes "opq") opaque (no_fields))) } ∷ []); groups = (record { name = (codes "all"); hosts = ((codes "c") ∷ (codes "b") ∷ (codes "a") ∷ []) } ∷ record { name = (codes "g"); hosts = ((codes "b") ∷ (codes "a") ∷ []) } ∷ record { name = (codes "ungrouped"); hosts = ((codes "c") ∷ []) } ∷ []) }

abbrev random_001692_run_registry : Registry
random_001692_run_registry = (builtins ++ ([]))

random_001692_run : recaps_of random_001692_run_registry random_001692_run_inventory random_001692_run_book 1 ((object (rec (field (codes "changed") (boolean true) (field (codes "extra") (rec (field (codes "a") (int (pos 1)) (no_fields))) (field (codes "failed") (boolean true) (field (codes "msg") (text (codes "a")) (no_fields)))))) ∷ []) ∷ ([]) ∷ ([]) ∷ []) ≡ (record { ok = 0; changed = 0; unreachable = 0; failed = 1; skipped = 0; rescued = 0; ignored = 0 } ∷ record { ok = 0; changed = 0; unreachable = 0; failed = 0; skipped = 0; rescued = 0; ignored = 0 } ∷ record { ok = 0; changed = 0; unreachable = 0; failed = 0; skipped = 0; rescued = 0; ignored = 0 } ∷ [])
unfolding digits
random_001692_run = refl

-- random_001698:
abbrev random_001698_book : Book
random_001698_book = (record { line = 1; pattern = ((codes "all") ∷ []); gathering = None; vars = (no_parts); is_linear = false; serial = ([]); pre_tasks = (no_steps); tasks = (task_step (record { line = 2; work = (assert_work (conditions_are (expression (negation (defined (variable (codes "r")) ((codes "rc") ∷ []))) (expression (disjunction (expression (comparison equal (path (variable (codes "r")) ([])) (literal (text (codes "a")))) (expression (path_status is_failed (variable (codes "inventory_hostname")) ((codes "hostname") ∷ [])) (no_expressions)))) (no_expressions)))) (no_parts)); condition = (no_expressions); loop = (Some (path (variable (codes "r")) ((codes "results") ∷ []))); register = (Some (codes "r")); vars = (no_parts); notify = ([]); changed_when = None; failed_when = None; attempts = None; ignore_errors = None }) (no_steps)); post_tasks = (no_steps); handlers = ([]); forces = false } ∷ [])

abbrev random_001698_inventory : Inventory
random_001698_inventory = record { hosts = (record { name = (codes "c"); variables = (field (codes "inv") (list (item (int (pos 1)) (item (int (pos 2)) (no_items)))) (no_fields)) } ∷ record { name = (codes "b"); variables = (field (codes "inv") (list (item (int (pos 1)) (item (int (pos 2)) (no_items)))) (field (codes "k") (rec (field (codes "z") opaque (no_fields))) (no_fields))) } ∷ record { name = (codes "a"); variables = (field (codes "inv") (list (item (text (codes "x")) (no_items))) (field (codes "opq") opaque (no_fields))) } ∷ []); groups = (record { name = (codes "all"); hosts = ((codes "c") ∷ (codes "b") ∷ (codes "a") ∷ []) } ∷ record { name = (codes "g"); hosts = ((codes "b") ∷ (codes "a") ∷ []) } ∷ record { name = (codes "ungrouped"); hosts = ((codes "c") ∷ []) } ∷ []) }

abbrev random_001698_registry : Registry
random_001698_registry = (builtins ++ ([]))

random_001698 : judged random_001698_registry random_001698_inventory random_001698_book ≡ refused (record { code = 1; line = 2; host = (Some (codes "c")) })
random_001698 = refl

-- random_001703_run:
abbrev random_001703_run_book : Book
random_001703_run_book = (record { line = 1; pattern = ((codes "all") ∷ []); gathering = None; vars = (no_parts); is_linear = true; serial = (host_count 2 ∷ []); pre_tasks = (task_step (record { line = 2; work = (debug_work (part (codes "msg") (literal (text (codes "x"))) (no_parts))); condition = (no_expressions); loop = None; register = None; vars = (no_parts); notify = ([]); changed_when = None; failed_when = None; attempts = None; ignore_errors = None }) (task_step (record { line = 3; work = (debug_work (part (codes "msg") (literal (text (codes "x"))) (no_parts))); condition = (no_expressions); loop = None; register = None; vars = (no_parts); notify = ((codes "h1") ∷ []); changed_when = None; failed_when = None; attempts = None; ignore_errors = None }) (block_step (record { line = 4; condition = (no_expressions); vars = (no_parts); ignore_errors = (Some true) }) (task_step (record { line = 5; work = (module_work (codes "setup") (no_parts)); condition = (no_expressions); loop = None; register = (Some (codes "r2")); vars = (no_parts); notify = ([]); changed_when = None; failed_when = None; attempts = (Some (record { until = (expression (conjunction (expression (defined (variable (codes "r2")) ((codes "failed") ∷ [])) (expression (comparison equal (path (variable (codes "r2")) ((codes "failed") ∷ [])) (literal (text (codes "a")))) (no_expressions)))) (no_expressions)); retries = 3 })); ignore_errors = None }) (block_step (record { line = 6; condition = (no_expressions); vars = (no_parts); ignore_errors = None }) (task_step (record { line = 7; work = (module_work (codes "probe") (part (codes "l") (path (variable (codes "group_names")) ([])) (no_parts))); condition = (no_expressions); loop = None; register = (Some (codes "r1")); vars = (no_parts); notify = ([]); changed_when = None; failed_when = None; attempts = None; ignore_errors = None }) (task_step (record { line = 8; work = (module_work (codes "command") (part (codes "cmd") (literal (text (codes "x"))) (no_parts))); condition = (no_expressions); loop = None; register = None; vars = (no_parts); notify = ((codes "h2") ∷ []); changed_when = None; failed_when = (Some (expression (comparison equal (path (variable (codes "inventory_hostname")) ([])) (literal (text (codes "a")))) (no_expressions))); attempts = (Some (record { until = (expression (literal (boolean false)) (no_expressions)); retries = 3 })); ignore_errors = None }) (no_steps))) (block_step (record { line = 9; condition = (expression (negation (negation (path_status is_failed (variable (codes "r2")) ([])))) (no_expressions)); vars = (no_parts); ignore_errors = (Some true) }) (task_step (record { line = 10; work = (fail_work (part (codes "msg") (literal (text (codes "m"))) (no_parts))); condition = (expression (negation (negation (path_status is_failed (variable (codes "r2")) ([])))) (no_expressions)); loop = None; register = (Some (codes "r3")); vars = (no_parts); notify = ([]); changed_when = None; failed_when = None; attempts = None; ignore_errors = None }) (no_steps)) (task_step (record { line = 11; work = (module_work (codes "command") (part (codes "cmd") (concatenation (expression (literal (text (codes "x "))) (expression (path (variable (codes "r3")) ((codes "msg") ∷ [])) (no_expressions)))) (no_parts))); condition = (expression (defined (variable (codes "r3")) ([])) (expression (negation (path_status is_skipped (variable (codes "r3")) ([]))) (no_expressions))); loop = None; register = None; vars = (no_parts); notify = ([]); changed_when = None; failed_when = None; attempts = (Some (record { until = (expression (literal (boolean true)) (no_expressions)); retries = 3 })); ignore_errors = None }) (task_step (record { line = 12; work = (module_work (codes "probe") (no_parts)); condition = (no_expressions); loop = None; register = None; vars = (no_parts); notify = ([]); changed_when = None; failed_when = None; attempts = None; ignore_errors = None }) (task_step (record { line = 13; work = (module_work (codes "ping") (no_parts)); condition = (expression (disjunction (expression (negation (defined (variable (codes "op")) ([]))) (expression (defined (variable (codes "s2")) ([])) (no_expressions)))) (no_expressions)); loop = None; register = (Some (codes "r1")); vars = (no_parts); notify = ((codes "h1") ∷ []); changed_when = (Some (expression (literal (boolean true)) (no_expressions))); failed_when = (Some (expression (comparison equal (path_or (variable (codes "r1")) ((codes "changed") ∷ []) (literal (boolean true))) (literal (boolean true))) (no_expressions))); attempts = (Some (record { until = (expression (path_status is_failed (variable (codes "r1")) ([])) (no_expressions)); retries = 2 })); ignore_errors = (Some false) }) (no_steps)))) (task_step (record { line = 14; work = (module_work (codes "ping") (no_parts)); condition = (no_expressions); loop = None; register = (Some (codes "r3")); vars = (no_parts); notify = ([]); changed_when = None; failed_when = None; attempts = None; ignore_errors = (Some true) }) (task_step (record { line = 15; work = (module_work (codes "command") (part (codes "cmd") (literal (text (codes "x"))) (no_parts))); condition = (no_expressions); loop = (Some (path (other (named_host (codes "b")) (codes "s3")) ([]))); register = None; vars = (no_parts); notify = ([]); changed_when = None; failed_when = None; attempts = None; ignore_errors = None }) (task_step (record { line = 16; work = (debug_work (part (codes "msg") (path (other (named_host (codes "c")) (codes "r2")) ((codes "failed") ∷ [])) (no_parts))); condition = (expression (defined (other (named_host (codes "c")) (codes "r2")) ([])) (expression (path_status is_failed (other (named_host (codes "c")) (codes "r2")) ([])) (no_expressions))); loop = None; register = None; vars = (no_parts); notify = ([]); changed_when = None; failed_when = None; attempts = None; ignore_errors = None }) (no_steps)))) (no_steps)) (task_step (record { line = 17; work = (module_work (codes "probe") (no_parts)); condition = (no_expressions); loop = None; register = (Some (codes "r2")); vars = (no_parts); notify = ((codes "h2") ∷ []); changed_when = None; failed_when = None; attempts = None; ignore_errors = None }) (task_step (record { line = 18; work = (module_work (codes "probe") (no_parts)); condition = (no_expressions); loop = None; register = None; vars = (no_parts); notify = ([]); changed_when = (Some (expression (literal (boolean true)) (no_expressions))); failed_when = None; attempts = None; ignore_errors = (Some true) }) (no_steps))) (task_step (record { line = 19; work = (assert_work (conditions_are (expression (negation (membership (literal (text (codes "g2"))) (path (variable (codes "group_names")) ([])))) (no_expressions))) (no_parts)); condition = (no_expressions); loop = None; register = None; vars = (no_parts); notify = ([]); changed_when = None; failed_when = None; attempts = None; ignore_errors = None }) (no_steps)))) (no_steps) (no_steps) (block_step (record { line = 20; condition = (no_expressions); vars = (no_parts); ignore_errors = None }) (block_step (record { line = 21; condition = (expression (comparison equal (path (variable (codes "i2")) ([])) (literal (text (codes "a")))) (no_expressions)); vars = (no_parts); ignore_errors = None }) (task_step (record { line = 22; work = (debug_work (part (codes "msg") (path (variable (codes "inventory_hostname")) ([])) (no_parts))); condition = (no_expressions); loop = None; register = None; vars = (no_parts); notify = ([]); changed_when = None; failed_when = None; attempts = None; ignore_errors = None }) (task_step (record { line = 23; work = (debug_work (part (codes "msg") (literal (text (codes "x"))) (no_parts))); condition = (no_expressions); loop = None; register = None; vars = (no_parts); notify = ([]); changed_when = None; failed_when = None; attempts = None; ignore_errors = None }) (task_step (record { line = 24; work = (module_work (codes "setup") (no_parts)); condition = (no_expressions); loop = None; register = (Some (codes "r1")); vars = (no_parts); notify = ([]); changed_when = None; failed_when = None; attempts = None; ignore_errors = None }) (no_steps)))) (no_steps) (task_step (record { line = 25; work = (module_work (codes "ping") (no_parts)); condition = (no_expressions); loop = None; register = (Some (codes "r2")); vars = (no_parts); notify = ([]); changed_when = (Some (expression (literal (boolean false)) (no_expressions))); failed_when = None; attempts = None; ignore_errors = None }) (task_step (record { line = 26; work = (module_work (codes "command") (part (codes "cmd") (concatenation (expression (literal (text (codes "x "))) (expression (literal (boolean true)) (no_expressions)))) (no_parts))); condition = (no_expressions); loop = (Some (list_of (expression (literal (text (codes "a"))) (expression (literal (text (codes "x"))) (expression (record_of (part (codes "g") (list_of (no_expressions)) (no_parts))) (no_expressions)))))); register = None; vars = (no_parts); notify = ([]); changed_when = None; failed_when = (Some (expression (literal (boolean true)) (no_expressions))); attempts = None; ignore_errors = None }) (task_step (record { line = 27; work = (module_work (codes "probe") (no_parts)); condition = (no_expressions); loop = None; register = (Some (codes "r3")); vars = (no_parts); notify = ([]); changed_when = None; failed_when = None; attempts = None; ignore_errors = None }) (no_steps)))) (task_step (record { line = 28; work = (set_fact_work (part (codes "s1") (path_or (variable (codes "s1")) ((codes "rc") ∷ []) (literal (int (pos 1)))) (part (codes "s2") (literal (text (codes "b"))) (no_parts)))); condition = (no_expressions); loop = None; register = (Some (codes "r2")); vars = (no_parts); notify = ([]); changed_when = None; failed_when = None; attempts = None; ignore_errors = None }) (no_steps))) (no_steps) (no_steps) (no_steps))))); tasks = (task_step (record { line = 29; work = (module_work (codes "ping") (no_parts)); condition = (no_expressions); loop = None; register = (Some (codes "r2")); vars = (no_parts); notify = ((codes "h0") ∷ []); changed_when = None; failed_when = None; attempts = None; ignore_errors = None }) (task_step (record { line = 30; work = (module_work (codes "command") (part (codes "cmd") (literal (text (codes "x"))) (no_parts))); condition = (expression (negation (comparison equal (path (variable (codes "inventory_hostname")) ([])) (literal (text (codes "b"))))) (no_expressions)); loop = None; register = (Some (codes "r2")); vars = (no_parts); notify = ((codes "t") ∷ []); changed_when = (Some (expression (literal (boolean true)) (no_expressions))); failed_when = None; attempts = (Some (record { until = (expression (path_status is_failed (variable (codes "r2")) ([])) (no_expressions)); retries = 3 })); ignore_errors = None }) (task_step (record { line = 31; work = (module_work (codes "probe") (no_parts)); condition = (no_expressions); loop = None; register = None; vars = (no_parts); notify = ([]); changed_when = None; failed_when = None; attempts = None; ignore_errors = (Some true) }) (block_step (record { line = 32; condition = (no_expressions); vars = (no_parts); ignore_errors = None }) (block_step (record { line = 33; condition = (no_expressions); vars = (no_parts); ignore_errors = (Some true) }) (task_step (record { line = 34; work = (set_fact_work (part (codes "s1") (list_of (expression (literal (text (codes "b"))) (expression (literal (boolean true)) (no_expressions)))) (no_parts))); condition = (expression (defined (variable (codes "r2")) ([])) (no_expressions)); loop = None; register = (Some (codes "r1")); vars = (no_parts); notify = ([]); changed_when = None; failed_when = (Some (expression (path_status is_failed (variable (codes "r1")) ([])) (no_expressions))); attempts = None; ignore_errors = None }) (block_step (record { line = 35; condition = (no_expressions); vars = (no_parts); ignore_errors = None }) (task_step (record { line = 36; work = (set_fact_work (part (codes "s2") (literal (text (codes "t"))) (no_parts))); condition = (expression (negation (path_status is_skipped (variable (codes "r3")) ([]))) (no_expressions)); loop = None; register = (Some (codes "r1")); vars = (no_parts); notify = ((codes "h0") ∷ []); changed_when = (Some (expression (literal (boolean true)) (no_expressions))); failed_when = None; attempts = None; ignore_errors = None }) (no_steps)) (task_step (record { line = 37; work = (module_work (codes "command") (part (codes "cmd") (literal (text (codes "x"))) (no_parts))); condition = (no_expressions); loop = None; register = None; vars = (no_parts); notify = ([]); changed_when = (Some (expression (literal (boolean false)) (no_expressions))); failed_when = (Some (expression (comparison equal (path (variable (codes "inventory_hostname")) ([])) (literal (text (codes "a")))) (no_expressions))); attempts = None; ignore_errors = (Some true) }) (task_step (record { line = 38; work = (module_work (codes "probe") (part (codes "n") (literal (text (codes "t"))) (no_parts))); condition = (no_expressions); loop = None; register = None; vars = (no_parts); notify = ([]); changed_when = (Some (expression (literal (boolean true)) (no_expressions))); failed_when = None; attempts = None; ignore_errors = None }) (task_step (record { line = 39; work = (module_work (codes "command") (part (codes "cmd") (literal (text (codes "x"))) (no_parts))); condition = (expression (negation (defined (variable (codes "op")) ([]))) (no_expressions)); loop = None; register = (Some (codes "r2")); vars = (no_parts); notify = ([]); changed_when = None; failed_when = (Some (expression (path_status is_changed (variable (codes "r2")) ([])) (no_expressions))); attempts = None; ignore_errors = None }) (no_steps)))) (task_step (record { line = 40; work = (module_work (codes "stat") (part (codes "path") (literal (text (codes "/"))) (no_parts))); condition = (no_expressions); loop = None; register = None; vars = (no_parts); notify = ([]); changed_when = None; failed_when = None; attempts = None; ignore_errors = None }) (task_step (record { line = 41; work = (debug_work (part (codes "msg") (path (variable (codes "r2")) ((codes "changed") ∷ [])) (no_parts))); condition = (expression (negation (path_status is_failed (variable (codes "r2")) ([]))) (no_expressions)); loop = None; register = None; vars = (part (codes "v3") (path (other (named_host (codes "a")) (codes "op")) ([])) (no_parts)); notify = ([]); changed_when = None; failed_when = None; attempts = None; ignore_errors = None }) (task_step (record { line = 42; work = (module_work (codes "odd") (no_parts)); condition = (expression (negation (defined (variable (codes "r1")) ([]))) (no_expressions)); loop = None; register = None; vars = (no_parts); notify = ([]); changed_when = None; failed_when = (Some (expression (literal (boolean true)) (no_expressions))); attempts = None; ignore_errors = None }) (no_steps)))) (no_steps))) (no_steps) (task_step (record { line = 43; work = (module_work (codes "odd") (no_parts)); condition = (no_expressions); loop = None; register = (Some (codes "r1")); vars = (no_parts); notify = ([]); changed_when = None; failed_when = None; attempts = None; ignore_errors = None }) (block_step (record { line = 44; condition = (no_expressions); vars = (no_parts); ignore_errors = None }) (task_step (record { line = 45; work = (debug_work (part (codes "msg") (path (variable (codes "r2")) ((codes "rc") ∷ [])) (no_parts))); condition = (expression (membership (literal (text (codes "g1"))) (path (variable (codes "group_names")) ([]))) (expression (negation (path_status is_skipped (variable (codes "r2")) ([]))) (no_expressions))); loop = None; register = (Some (codes "r3")); vars = (no_parts); notify = ((codes "h2") ∷ []); changed_when = None; failed_when = None; attempts = None; ignore_errors = None }) (task_step (record { line = 46; work = (assert_work (conditions_are (expression (membership (literal (text (codes "g1"))) (path (variable (codes "group_names")) ([]))) (no_expressions))) (no_parts)); condition = (no_expressions); loop = None; register = (Some (codes "r1")); vars = (part (codes "v2") (path (variable (codes "s3")) ((codes "stdout") ∷ [])) (part (codes "v3") (path_or (variable (codes "r2")) ((codes "failed") ∷ []) (path (variable (codes "s1")) ([]))) (no_parts))); notify = ([]); changed_when = None; failed_when = (Some (expression (conjunction (expression (defined (variable (codes "r1")) ((codes "msg") ∷ [])) (expression (comparison equal (path (variable (codes "r1")) ((codes "msg") ∷ [])) (literal (text (codes "a")))) (no_expressions)))) (no_expressions))); attempts = None; ignore_errors = None }) (task_step (record { line = 47; work = (debug_work (part (codes "msg") (literal (text (codes "x"))) (no_parts))); condition = (no_expressions); loop = (Some (path_or (variable (codes "r3")) ((codes "stdout_lines") ∷ []) (list_of (no_expressions)))); register = None; vars = (no_parts); notify = ([]); changed_when = None; failed_when = None; attempts = None; ignore_errors = None }) (no_steps)))) (no_steps) (no_steps) (block_step (record { line = 48; condition = (no_expressions); vars = (no_parts); ignore_errors = None }) (task_step (record { line = 49; work = (debug_work (part (codes "msg") (literal (text (codes "x"))) (no_parts))); condition = (no_expressions); loop = None; register = (Some (codes "r1")); vars = (no_parts); notify = ([]); changed_when = None; failed_when = None; attempts = None; ignore_errors = None }) (task_step (record { line = 50; work = (module_work (codes "ping") (no_parts)); condition = (expression (negation (negation (path_status is_failed (variable (codes "r1")) ([])))) (no_expressions)); loop = (Some (path_or (variable (codes "r1")) ((codes "stdout_lines") ∷ []) (list_of (no_expressions)))); register = None; vars = (part (codes "v2") (list_of (expression (literal (int (pos 1))) (expression (literal (int (pos 2))) (no_expressions)))) (no_parts)); notify = ([]); changed_when = None; failed_when = (Some (expression (literal (boolean false)) (no_expressions))); attempts = None; ignore_errors = None }) (task_step (record { line = 51; work = (module_work (codes "command") (part (codes "cmd") (literal (text (codes "x"))) (no_parts))); condition = (expression (comparison equal (path (variable (codes "groups")) ((codes "all") ∷ [])) (list_of (expression (literal (int (pos 1))) (no_expressions)))) (no_expressions)); loop = None; register = (Some (codes "r1")); vars = (part (codes "v2") (path (other (named_host (codes "d")) (codes "r3")) ((codes "failed") ∷ [])) (no_parts)); notify = ((codes "h2") ∷ []); changed_when = None; failed_when = None; attempts = None; ignore_errors = None }) (no_steps)))) (no_steps) (task_step (record { line = 52; work = (fail_work (no_parts)); condition = (no_expressions); loop = None; register = None; vars = (part (codes "v2") (comparison equal (path (other (group_member (codes "all") 0) (codes "r3")) ((codes "failed") ∷ [])) (path (variable (codes "r1")) ((codes "stderr") ∷ []))) (no_parts)); notify = ((codes "t") ∷ []); changed_when = (Some (expression (comparison equal (path (variable (codes "inventory_hostname")) ([])) (literal (text (codes "a")))) (no_expressions))); failed_when = None; attempts = None; ignore_errors = None }) (task_step (record { line = 53; work = (module_work (codes "command") (part (codes "cmd") (literal (text (codes "x"))) (no_parts))); condition = (no_expressions); loop = None; register = None; vars = (no_parts); notify = ([]); changed_when = None; failed_when = None; attempts = None; ignore_errors = None }) (task_step (record { line = 54; work = (module_work (codes "command") (part (codes "cmd") (literal (text (codes "x"))) (no_parts))); condition = (no_expressions); loop = None; register = (Some (codes "r2")); vars = (no_parts); notify = ((codes "t") ∷ []); changed_when = None; failed_when = (Some (expression (conjunction (expression (defined (variable (codes "r2")) ((codes "stdout_lines") ∷ [])) (expression (comparison equal (path (variable (codes "r2")) ((codes "stdout_lines") ∷ [])) (literal (text (codes "a")))) (no_expressions)))) (no_expressions))); attempts = None; ignore_errors = (Some true) }) (no_steps)))) (no_steps)))) (task_step (record { line = 55; work = (set_fact_work (part (codes "s1") (record_of (part (codes "f") (path (variable (codes "r1")) ([])) (part (codes "rc") (literal (int (pos 1))) (no_parts)))) (no_parts))); condition = (expression (defined (variable (codes "r1")) ([])) (no_expressions)); loop = None; register = None; vars = (part (codes "v2") (literal null) (no_parts)); notify = ([]); changed_when = (Some (expression (comparison equal (path (variable (codes "inventory_hostname")) ([])) (literal (text (codes "a")))) (no_expressions))); failed_when = None; attempts = None; ignore_errors = None }) (task_step (record { line = 56; work = (module_work (codes "stat") (part (codes "path") (literal (text (codes "/"))) (no_parts))); condition = (no_expressions); loop = None; register = (Some (codes "r3")); vars = (no_parts); notify = ([]); changed_when = None; failed_when = None; attempts = (Some (record { until = (expression (comparison equal (path (variable (codes "r3")) ((codes "changed") ∷ [])) (literal (int (pos 1)))) (no_expressions)); retries = 1 })); ignore_errors = (Some true) }) (no_steps)))) (no_steps) (no_steps) (no_steps))))); post_tasks = (no_steps); handlers = (record { work = (record { line = 57; work = (set_fact_work (part (codes "s1") (literal (int (pos 1))) (no_parts))); condition = (no_expressions); loop = None; register = (Some (codes "r1")); vars = (no_parts); notify = ((codes "h1") ∷ []); changed_when = None; failed_when = None; attempts = None; ignore_errors = None }); name = (Some (codes "h0")); topics = ([]) } ∷ record { work = (record { line = 58; work = (assert_work (conditions_are (expression (path_or (variable (codes "r3")) ((codes "results") ∷ []) (literal (boolean false))) (no_expressions))) (no_parts)); condition = (no_expressions); loop = None; register = (Some (codes "r3")); vars = (no_parts); notify = ([]); changed_when = None; failed_when = None; attempts = None; ignore_errors = None }); name = (Some (codes "h1")); topics = ((codes "t") ∷ []) } ∷ record { work = (record { line = 59; work = (set_fact_work (part (codes "s2") (literal (int (pos 1))) (no_parts))); condition = (no_expressions); loop = None; register = None; vars = (no_parts); notify = ([]); changed_when = None; failed_when = None; attempts = None; ignore_errors = None }); name = (Some (codes "h2")); topics = ([]) } ∷ []); forces = false } ∷ record { line = 60; pattern = ((codes "all") ∷ []); gathering = None; vars = (no_parts); is_linear = false; serial = ([]); pre_tasks = (no_steps); tasks = (task_step (record { line = 61; work = (debug_work (part (codes "msg") (literal (text (codes "x"))) (no_parts))); condition = (no_expressions); loop = None; register = (Some (codes "r3")); vars = (no_parts); notify = ([]); changed_when = None; failed_when = None; attempts = None; ignore_errors = None }) (no_steps)); post_tasks = (no_steps); handlers = ([]); forces = false } ∷ [])

abbrev random_001703_run_inventory : Inventory
random_001703_run_inventory = record { hosts = (record { name = (codes "a"); variables = (field (codes "i1") (int (pos 1)) (field (codes "i2") null (field (codes "s1") (int (negsuc 0)) (no_fields)))) } ∷ record { name = (codes "b"); variables = (field (codes "i1") (int (pos 1)) (field (codes "i2") null (no_fields))) } ∷ record { name = (codes "c"); variables = (field (codes "i1") (int (pos 1)) (field (codes "i2") (list (item null (no_items))) (no_fields))) } ∷ record { name = (codes "d"); variables = (field (codes "i1") (int (pos 1)) (field (codes "i2") null (no_fields))) } ∷ []); groups = (record { name = (codes "all"); hosts = ((codes "a") ∷ (codes "b") ∷ (codes "c") ∷ (codes "d") ∷ []) } ∷ record { name = (codes "ungrouped"); hosts = ((codes "a") ∷ (codes "b") ∷ (codes "c") ∷ (codes "d") ∷ []) } ∷ []) }

abbrev random_001703_run_registry : Registry
random_001703_run_registry = (builtins ++ (record { name = (codes "probe"); params = (record { name = (codes "n"); kind = ints; required = false } ∷ record { name = (codes "l"); kind = (lists texts 3); required = false } ∷ []); ok = recs (slot (codes "changed") true booleans (slot (codes "deep") false (recs (slot (codes "a") true texts (slot (codes "b") false booleans (no_slots)))) (slot (codes "rows") true (lists texts 2) (slot (codes "v") false ints (no_slots))))); failure = recs (slot (codes "changed") true booleans (slot (codes "msg") true texts (slot (codes "v") false texts (slot (codes "why") true ints (no_slots))))); free = None } ∷ record { name = (codes "odd"); params = ([]); ok = recs (slot (codes "changed") true booleans (slot (codes "msg") false ints (no_slots))); failure = recs (slot (codes "changed") true booleans (slot (codes "msg") true texts (no_slots))); free = None } ∷ []))

random_001703_run : recaps_of random_001703_run_registry random_001703_run_inventory random_001703_run_book 1 ((object (rec (field (codes "ansible_facts") (rec (field (codes "ansible_distribution") (text (codes "b")) (field (codes "ansible_hostname") (text (codes "b")) (field (codes "ansible_system") (text (123 ∷ 123 ∷ 32 ∷ 120 ∷ 32 ∷ 125 ∷ 125 ∷ [])) (no_fields))))) (field (codes "changed") (boolean true) (no_fields)))) ∷ object (rec (field (codes "ansible_facts") (rec (field (codes "ansible_hostname") (text (codes "x")) (field (codes "ansible_os_family") (text (codes "x")) (field (codes "ansible_system") (text (123 ∷ 123 ∷ 32 ∷ 120 ∷ 32 ∷ 125 ∷ 125 ∷ [])) (no_fields))))) (field (codes "changed") (boolean false) (field (codes "extra") (rec (field (codes "a") (int (pos 1)) (no_fields))) (no_fields))))) ∷ object (rec (field (codes "ansible_facts") (rec (field (codes "ansible_distribution") (text (codes "b")) (field (codes "ansible_hostname") (text (codes "x")) (field (codes "ansible_memtotal_mb") (int (pos 2)) (field (codes "ansible_os_family") (text (codes "b")) (field (codes "ansible_processor_vcpus") (int (negsuc 6)) (field (codes "ansible_system") (text (codes "b")) (no_fields)))))))) (field (codes "changed") (boolean false) (no_fields)))) ∷ object (rec (field (codes "ansible_facts") (rec (field (codes "ansible_distribution") (text (codes "d")) (field (codes "ansible_hostname") (text (codes "c")) (field (codes "ansible_os_family") (text (codes "d")) (field (codes "ansible_system") (text (codes "x")) (no_fields)))))) (field (codes "changed") (boolean false) (no_fields)))) ∷ object (rec (field (codes "changed") (boolean true) (field (codes "deep") (rec (field (codes "a") (text (codes "c")) (field (codes "b") (boolean false) (no_fields)))) (field (codes "rows") (list (item (text (codes "d")) (item (text (codes "a")) (no_items)))) (field (codes "v") (int (negsuc 6)) (no_fields)))))) ∷ object (rec (field (codes "changed") (boolean true) (field (codes "extra") (rec (field (codes "a") (int (pos 1)) (no_fields))) (field (codes "rc") (int (pos 2)) (field (codes "stderr") (text (codes "a")) (field (codes "stderr_lines") (list (item (text (123 ∷ 123 ∷ 32 ∷ 120 ∷ 32 ∷ 125 ∷ 125 ∷ [])) (item (text (codes "d")) (no_items)))) (field (codes "stdout") (text (codes "c")) (field (codes "stdout_lines") (list (no_items)) (no_fields))))))))) ∷ object (rec (field (codes "changed") (boolean false) (field (codes "rc") (int (pos 0)) (field (codes "stderr") (text (codes "b")) (field (codes "stderr_lines") (list (no_items)) (field (codes "stdout") (text (codes "d")) (field (codes "stdout_lines") (list (no_items)) (no_fields)))))))) ∷ object (rec (field (codes "changed") (boolean false) (field (codes "failed") (boolean true) (field (codes "msg") (text (codes "a")) (field (codes "rc") (int (pos 0)) (field (codes "stderr") (text (codes "a")) (field (codes "stderr_lines") (list (item (text (codes "x")) (no_items))) (field (codes "stdout") (text ([])) (field (codes "stdout_lines") (list (item (text (codes "a")) (item (text (codes "a")) (no_items)))) (no_fields)))))))))) ∷ object (rec (field (codes "changed") (boolean false) (field (codes "rc") (int (pos 2)) (field (codes "stderr") (text (123 ∷ 123 ∷ 32 ∷ 120 ∷ 32 ∷ 125 ∷ 125 ∷ [])) (field (codes "stderr_lines") (list (item (text (codes "b")) (no_items))) (field (codes "stdout") (text ([])) (field (codes "stdout_lines") (list (no_items)) (no_fields)))))))) ∷ object (rec (field (codes "changed") (boolean false) (field (codes "deep") (rec (field (codes "a") (text (codes "a")) (field (codes "b") (boolean false) (no_fields)))) (field (codes "extra") (rec (field (codes "a") (int (pos 1)) (no_fields))) (field (codes "rows") (list (no_items)) (field (codes "v") (int (negsuc 6)) (no_fields))))))) ∷ object (rec (field (codes "changed") (boolean false) (field (codes "extra") (rec (field (codes "a") (int (pos 1)) (no_fields))) (field (codes "rows") (list (item (text (codes "b")) (item (text (codes "a")) (no_items)))) (field (codes "v") (int (pos 1)) (no_fields)))))) ∷ object (rec (field (codes "changed") (boolean false) (field (codes "failed") (boolean true) (field (codes "msg") (text (codes "a")) (no_fields))))) ∷ []) ∷ (object (rec (field (codes "ansible_facts") (rec (field (codes "ansible_distribution") (text (codes "c")) (field (codes "ansible_hostname") (text (codes "d")) (field (codes "ansible_memtotal_mb") (int (pos 0)) (field (codes "ansible_os_family") (text (codes "a")) (field (codes "ansible_system") (text (codes "a")) (no_fields))))))) (field (codes "changed") (boolean false) (no_fields)))) ∷ object (rec (field (codes "ansible_facts") (rec (field (codes "ansible_hostname") (text (codes "a")) (field (codes "ansible_memtotal_mb") (int (negsuc 6)) (field (codes "ansible_system") (text (codes "a")) (no_fields))))) (field (codes "changed") (boolean false) (no_fields)))) ∷ object (rec (field (codes "ansible_facts") (rec (field (codes "ansible_distribution") (text ([])) (field (codes "ansible_hostname") (text (codes "c")) (field (codes "ansible_os_family") (text ([])) (field (codes "ansible_processor_vcpus") (int (pos 0)) (field (codes "ansible_system") (text (codes "a")) (no_fields))))))) (field (codes "changed") (boolean false) (field (codes "extra") (rec (field (codes "a") (int (pos 1)) (no_fields))) (no_fields))))) ∷ object (rec (field (codes "ansible_facts") (rec (field (codes "ansible_hostname") (text (codes "x")) (field (codes "ansible_memtotal_mb") (int (pos 2)) (field (codes "ansible_processor_vcpus") (int (pos 0)) (field (codes "ansible_system") (text (codes "a")) (no_fields)))))) (field (codes "changed") (boolean true) (no_fields)))) ∷ object (rec (field (codes "changed") (boolean false) (field (codes "deep") (rec (field (codes "a") (text (codes "c")) (field (codes "b") (boolean false) (no_fields)))) (field (codes "rows") (list (no_items)) (field (codes "v") (int (pos 2)) (no_fields)))))) ∷ object (rec (field (codes "changed") (boolean false) (field (codes "rc") (int (pos 0)) (field (codes "stderr") (text (codes "d")) (field (codes "stderr_lines") (list (no_items)) (field (codes "stdout") (text (codes "c")) (field (codes "stdout_lines") (list (no_items)) (no_fields)))))))) ∷ object (rec (field (codes "changed") (boolean true) (field (codes "rc") (int (negsuc 6)) (field (codes "stderr") (text ([])) (field (codes "stderr_lines") (list (item (text (codes "a")) (item (text ([])) (no_items)))) (field (codes "stdout") (text (codes "c")) (field (codes "stdout_lines") (list (item (text ([])) (item (text (codes "b")) (item (text (codes "a")) (no_items))))) (no_fields)))))))) ∷ object (rec (field (codes "changed") (boolean false) (field (codes "rc") (int (pos 2)) (field (codes "stderr") (text ([])) (field (codes "stderr_lines") (list (item (text (codes "a")) (item (text ([])) (no_items)))) (field (codes "stdout") (text (codes "b")) (field (codes "stdout_lines") (list (no_items)) (no_fields)))))))) ∷ object (rec (field (codes "changed") (boolean false) (field (codes "rc") (int (pos 1)) (field (codes "stderr") (text (codes "a")) (field (codes "stderr_lines") (list (no_items)) (field (codes "stdout") (text (codes "b")) (field (codes "stdout_lines") (list (item (text (codes "d")) (item (text ([])) (item (text (codes "a")) (no_items))))) (no_fields)))))))) ∷ object (rec (field (codes "changed") (boolean true) (field (codes "deep") (rec (field (codes "a") (text (codes "b")) (no_fields))) (field (codes "rows") (list (item (text (codes "a")) (no_items))) (field (codes "v") (int (pos 0)) (no_fields)))))) ∷ object (rec (field (codes "changed") (boolean true) (field (codes "deep") (rec (field (codes "a") (text (123 ∷ 123 ∷ 32 ∷ 120 ∷ 32 ∷ 125 ∷ 125 ∷ [])) (no_fields))) (field (codes "rows") (list (item (text (codes "c")) (item (text (codes "c")) (no_items)))) (no_fields))))) ∷ object (rec (field (codes "changed") (boolean true) (field (codes "ping") (text ([])) (no_fields)))) ∷ object (rec (field (codes "changed") (boolean true) (field (codes "rows") (list (no_items)) (field (codes "v") (int (negsuc 6)) (no_fields))))) ∷ object (rec (field (codes "changed") (boolean false) (field (codes "failed") (boolean true) (field (codes "msg") (text (codes "a")) (no_fields))))) ∷ object (rec (field (codes "changed") (boolean false) (field (codes "msg") (int (pos 2)) (no_fields)))) ∷ object (rec (field (codes "changed") (boolean false) (field (codes "rc") (int (pos 2)) (field (codes "stderr") (text (codes "a")) (field (codes "stderr_lines") (list (item (text (codes "a")) (no_items))) (field (codes "stdout") (text (123 ∷ 123 ∷ 32 ∷ 120 ∷ 32 ∷ 125 ∷ 125 ∷ [])) (field (codes "stdout_lines") (list (item (text (codes "b")) (item (text (codes "b")) (no_items)))) (no_fields)))))))) ∷ object (rec (field (codes "changed") (boolean true) (field (codes "rc") (int (pos 1)) (field (codes "stderr") (text (codes "d")) (field (codes "stderr_lines") (list (no_items)) (field (codes "stdout") (text (codes "d")) (field (codes "stdout_lines") (list (item (text (123 ∷ 123 ∷ 32 ∷ 120 ∷ 32 ∷ 125 ∷ 125 ∷ [])) (no_items))) (no_fields)))))))) ∷ object (rec (field (codes "changed") (boolean true) (field (codes "extra") (rec (field (codes "a") (int (pos 1)) (no_fields))) (field (codes "failed") (boolean true) (field (codes "msg") (text (codes "b")) (no_fields)))))) ∷ object (rec (field (codes "changed") (boolean true) (field (codes "stat") (rec (field (codes "exists") (boolean false) (field (codes "isreg") (boolean true) (field (codes "mode") (text (codes "b")) (field (codes "size") (int (pos 2)) (no_fields)))))) (no_fields)))) ∷ []) ∷ ([]) ∷ ([]) ∷ []) ≡ (record { ok = 9; changed = 2; unreachable = 0; failed = 1; skipped = 6; rescued = 0; ignored = 2 } ∷ record { ok = 24; changed = 7; unreachable = 0; failed = 1; skipped = 13; rescued = 0; ignored = 5 } ∷ record { ok = 0; changed = 0; unreachable = 0; failed = 0; skipped = 0; rescued = 0; ignored = 0 } ∷ record { ok = 0; changed = 0; unreachable = 0; failed = 0; skipped = 0; rescued = 0; ignored = 0 } ∷ [])
unfolding digits
random_001703_run = refl

-- random_001749:
abbrev random_001749_book : Book
random_001749_book = (record { line = 1; pattern = ((codes "b") ∷ (codes "all") ∷ []); gathering = None; vars = (part (codes "v2") (list_of (expression (literal (text (codes "x"))) (no_expressions))) (part (codes "v3") (path (variable (codes "s3")) ([])) (no_parts))); is_linear = true; serial = ([]); pre_tasks = (no_steps); tasks = (task_step (record { line = 2; work = (module_work (codes "command") (part (codes "cmd") (literal (text (codes "x"))) (no_parts))); condition = (no_expressions); loop = None; register = (Some (codes "r1")); vars = (no_parts); notify = ([]); changed_when = None; failed_when = None; attempts = None; ignore_errors = None }) (task_step (record { line = 3; work = (module_work (codes "ping") (no_parts)); condition = (no_expressions); loop = None; register = (Some (codes "r2")); vars = (no_parts); notify = ([]); changed_when = None; failed_when = None; attempts = (Some (record { until = (expression (literal (boolean false)) (no_expressions)); retries = 3 })); ignore_errors = None }) (task_step (record { line = 4; work = (module_work (codes "ping") (no_parts)); condition = (no_expressions); loop = None; register = None; vars = (no_parts); notify = ([]); changed_when = None; failed_when = None; attempts = None; ignore_errors = None }) (no_steps)))); post_tasks = (no_steps); handlers = ([]); forces = true } ∷ [])

abbrev random_001749_inventory : Inventory
random_001749_inventory = record { hosts = (record { name = (codes "a"); variables = (field (codes "i2") (text (codes "a")) (field (codes "op") opaque (field (codes "s1") (list (item (boolean true) (no_items))) (no_fields)))) } ∷ record { name = (codes "b"); variables = (field (codes "i2") (int (pos 2)) (no_fields)) } ∷ []); groups = (record { name = (codes "all"); hosts = ((codes "a") ∷ (codes "b") ∷ []) } ∷ record { name = (codes "ungrouped"); hosts = ((codes "a") ∷ (codes "b") ∷ []) } ∷ []) }

abbrev random_001749_registry : Registry
random_001749_registry = (builtins ++ (record { name = (codes "probe"); params = (record { name = (codes "n"); kind = ints; required = false } ∷ record { name = (codes "l"); kind = (lists texts 3); required = false } ∷ []); ok = recs (slot (codes "changed") true booleans (slot (codes "deep") false (recs (slot (codes "a") true texts (slot (codes "b") false booleans (no_slots)))) (slot (codes "rows") true (lists texts 2) (slot (codes "v") false ints (no_slots))))); failure = recs (slot (codes "changed") true booleans (slot (codes "msg") true texts (slot (codes "v") false texts (slot (codes "why") true ints (no_slots))))); free = None } ∷ record { name = (codes "odd"); params = ([]); ok = recs (slot (codes "changed") true booleans (slot (codes "msg") false ints (no_slots))); failure = recs (slot (codes "changed") true booleans (slot (codes "msg") true texts (no_slots))); free = None } ∷ []))

random_001749 : judged random_001749_registry random_001749_inventory random_001749_book ≡ accepted 12
random_001749 = refl

-- random_001755_run:
abbrev random_001755_run_book : Book
random_001755_run_book = (record { line = 1; pattern = ((codes "g2") ∷ []); gathering = None; vars = (no_parts); is_linear = true; serial = ([]); pre_tasks = (no_steps); tasks = (task_step (record { line = 2; work = (module_work (codes "ping") (no_parts)); condition = (no_expressions); loop = None; register = (Some (codes "r2")); vars = (part (codes "v2") (list_of (expression (path (variable (codes "r3")) ((codes "failed") ∷ [])) (expression (literal (int (pos 1))) (no_expressions)))) (part (codes "v3") (path (variable (codes "r2")) ([])) (no_parts))); notify = ([]); changed_when = (Some (expression (literal (boolean true)) (no_expressions))); failed_when = None; attempts = (Some (record { until = (expression (literal (boolean false)) (no_expressions)); retries = 2 })); ignore_errors = None }) (task_step (record { line = 3; work = (debug_work (part (codes "msg") (path (other (named_host (codes "c")) (codes "r1")) ((codes "changed") ∷ [])) (no_parts))); condition = (expression (defined (other (named_host (codes "c")) (codes "r1")) ([])) (expression (negation (path_status is_failed (other (named_host (codes "c")) (codes "r1")) ([]))) (no_expressions))); loop = None; register = (Some (codes "r3")); vars = (no_parts); notify = ([]); changed_when = None; failed_when = None; attempts = None; ignore_errors = None }) (task_step (record { line = 4; work = (debug_work (part (codes "msg") (list_of (expression (path (variable (codes "r3")) ([])) (expression (path (variable (codes "r3")) ([])) (no_expressions)))) (no_parts))); condition = (expression (defined (variable (codes "r3")) ([])) (no_expressions)); loop = None; register = (Some (codes "r3")); vars = (no_parts); notify = ([]); changed_when = None; failed_when = None; attempts = None; ignore_errors = (Some true) }) (block_step (record { line = 5; condition = (no_expressions); vars = (no_parts); ignore_errors = None }) (block_step (record { line = 6; condition = (no_expressions); vars = (no_parts); ignore_errors = None }) (block_step (record { line = 7; condition = (no_expressions); vars = (no_parts); ignore_errors = None }) (task_step (record { line = 8; work = (assert_work (conditions_are (expression (literal (boolean true)) (no_expressions))) (no_parts)); condition = (no_expressions); loop = None; register = (Some (codes "r1")); vars = (no_parts); notify = ([]); changed_when = None; failed_when = None; attempts = None; ignore_errors = None }) (task_step (record { line = 9; work = (fail_work (part (codes "msg") (literal (text (codes "m"))) (no_parts))); condition = (no_expressions); loop = None; register = (Some (codes "r3")); vars = (no_parts); notify = ([]); changed_when = None; failed_when = None; attempts = None; ignore_errors = (Some false) }) (task_step (record { line = 10; work = (set_fact_work (part (codes "s2") (list_of (expression (path_or (variable (codes "group_names")) ([]) (path (variable (codes "s1")) ([]))) (no_expressions))) (no_parts))); condition = (no_expressions); loop = None; register = None; vars = (no_parts); notify = ([]); changed_when = None; failed_when = None; attempts = None; ignore_errors = None }) (no_steps)))) (task_step (record { line = 11; work = (set_fact_work (part (codes "s1") (record_of (part (codes "f") (literal (int (pos 1))) (no_parts))) (no_parts))); condition = (no_expressions); loop = None; register = (Some (codes "r2")); vars = (no_parts); notify = ([]); changed_when = None; failed_when = None; attempts = None; ignore_errors = None }) (task_step (record { line = 12; work = (module_work (codes "command") (part (codes "cmd") (literal (text (codes "x"))) (no_parts))); condition = (no_expressions); loop = None; register = (Some (codes "r2")); vars = (no_parts); notify = ([]); changed_when = None; failed_when = None; attempts = None; ignore_errors = None }) (task_step (record { line = 13; work = (module_work (codes "command") (part (codes "cmd") (literal (text (codes "x"))) (no_parts))); condition = (no_expressions); loop = (Some (list_of (expression (list_of (expression (literal (int (pos 2))) (no_expressions))) (expression (literal (text (codes "a"))) (expression (literal (text (codes "t"))) (no_expressions)))))); register = (Some (codes "r1")); vars = (no_parts); notify = ([]); changed_when = None; failed_when = (Some (expression (comparison equal (path (variable (codes "inventory_hostname")) ([])) (literal (text (codes "a")))) (no_expressions))); attempts = None; ignore_errors = None }) (no_steps)))) (no_steps) (task_step (record { line = 14; work = (set_fact_work (part (codes "s2") (record_of (part (codes "f") (literal (int (pos 1))) (no_parts))) (no_parts))); condition = (no_expressions); loop = None; register = (Some (codes "r1")); vars = (no_parts); notify = ([]); changed_when = None; failed_when = None; attempts = None; ignore_errors = None }) (no_steps))) (task_step (record { line = 15; work = (module_work (codes "probe") (no_parts)); condition = (no_expressions); loop = None; register = (Some (codes "r3")); vars = (no_parts); notify = ([]); changed_when = None; failed_when = None; attempts = None; ignore_errors = None }) (task_step (record { line = 16; work = (module_work (codes "setup") (no_parts)); condition = (expression (disjunction (expression (defined (variable (codes "r1")) ((codes "failed") ∷ [])) (expression (path_or (variable (codes "r2")) ((codes "failed") ∷ []) (literal (boolean false))) (no_expressions)))) (no_expressions)); loop = None; register = (Some (codes "r1")); vars = (no_parts); notify = ([]); changed_when = None; failed_when = None; attempts = None; ignore_errors = None }) (no_steps))) (task_step (record { line = 17; work = (module_work (codes "ping") (no_parts)); condition = (no_expressions); loop = None; register = None; vars = (no_parts); notify = ([]); changed_when = None; failed_when = None; attempts = None; ignore_errors = None }) (task_step (record { line = 18; work = (set_fact_work (part (codes "s1") (record_of (part (codes "f") (literal (int (pos 1))) (no_parts))) (no_parts))); condition = (no_expressions); loop = None; register = (Some (codes "r2")); vars = (no_parts); notify = ([]); changed_when = None; failed_when = (Some (expression (comparison equal (path (variable (codes "r2")) ((codes "failed") ∷ [])) (literal (int (pos 1)))) (no_expressions))); attempts = None; ignore_errors = None }) (no_steps))) (task_step (record { line = 19; work = (set_fact_work (part (codes "s1") (record_of (part (codes "f") (literal (int (pos 1))) (no_parts))) (no_parts))); condition = (no_expressions); loop = None; register = (Some (codes "r2")); vars = (no_parts); notify = ([]); changed_when = None; failed_when = None; attempts = None; ignore_errors = None }) (no_steps))) (block_step (record { line = 20; condition = (no_expressions); vars = (no_parts); ignore_errors = None }) (task_step (record { line = 21; work = (fail_work (part (codes "msg") (literal (text (codes "m"))) (no_parts))); condition = (no_expressions); loop = None; register = None; vars = (no_parts); notify = ([]); changed_when = None; failed_when = None; attempts = None; ignore_errors = None }) (block_step (record { line = 22; condition = (no_expressions); vars = (no_parts); ignore_errors = None }) (task_step (record { line = 23; work = (module_work (codes "probe") (no_parts)); condition = (no_expressions); loop = None; register = (Some (codes "r1")); vars = (no_parts); notify = ([]); changed_when = None; failed_when = None; attempts = None; ignore_errors = None }) (no_steps)) (task_step (record { line = 24; work = (set_fact_work (part (codes "s1") (list_of (expression (path (variable (codes "s3")) ([])) (no_expressions))) (no_parts))); condition = (no_expressions); loop = None; register = (Some (codes "r1")); vars = (no_parts); notify = ([]); changed_when = None; failed_when = None; attempts = None; ignore_errors = None }) (task_step (record { line = 25; work = (module_work (codes "command") (part (codes "cmd") (literal (text (codes "x"))) (no_parts))); condition = (expression (in_batch this_host) (no_expressions)); loop = None; register = (Some (codes "r1")); vars = (no_parts); notify = ([]); changed_when = None; failed_when = None; attempts = None; ignore_errors = None }) (task_step (record { line = 26; work = (module_work (codes "odd") (no_parts)); condition = (no_expressions); loop = None; register = (Some (codes "r1")); vars = (no_parts); notify = ([]); changed_when = None; failed_when = None; attempts = None; ignore_errors = None }) (no_steps)))) (task_step (record { line = 27; work = (module_work (codes "setup") (no_parts)); condition = (no_expressions); loop = None; register = None; vars = (no_parts); notify = ([]); changed_when = None; failed_when = (Some (expression (literal (boolean false)) (no_expressions))); attempts = None; ignore_errors = None }) (task_step (record { line = 28; work = (module_work (codes "probe") (no_parts)); condition = (expression (membership (literal (text (codes "g2"))) (path (variable (codes "group_names")) ([]))) (no_expressions)); loop = None; register = None; vars = (no_parts); notify = ([]); changed_when = None; failed_when = None; attempts = (Some (record { until = (expression (literal (boolean false)) (no_expressions)); retries = 3 })); ignore_errors = (Some true) }) (task_step (record { line = 29; work = (module_work (codes "ping") (no_parts)); condition = (no_expressions); loop = None; register = (Some (codes "r2")); vars = (no_parts); notify = ([]); changed_when = (Some (expression (comparison equal (path (variable (codes "r2")) ((codes "ping") ∷ [])) (literal (text (codes "a")))) (no_expressions))); failed_when = (Some (expression (conjunction (expression (defined (variable (codes "r2")) ((codes "ping") ∷ [])) (expression (comparison equal (path (variable (codes "r2")) ((codes "ping") ∷ [])) (literal (text (codes "a")))) (no_expressions)))) (no_expressions))); attempts = (Some (record { until = (expression (comparison equal (path (variable (codes "inventory_hostname")) ([])) (literal (text (codes "a")))) (no_expressions)); retries = 3 })); ignore_errors = None }) (no_steps)))) (task_step (record { line = 30; work = (set_fact_work (part (codes "s3") (list_of (expression (concatenation (expression (literal (text (codes "x"))) (expression (path (variable (codes "r2")) ((codes "failed") ∷ [])) (no_expressions)))) (no_expressions))) (no_parts))); condition = (expression (defined (variable (codes "r2")) ([])) (expression (negation (path_status is_failed (variable (codes "r2")) ([]))) (no_expressions))); loop = None; register = (Some (codes "r2")); vars = (no_parts); notify = ([]); changed_when = None; failed_when = (Some (expression (conjunction (expression (defined (variable (codes "r2")) ((codes "changed") ∷ [])) (expression (comparison equal (path (variable (codes "r2")) ((codes "changed") ∷ [])) (literal (text (codes "a")))) (no_expressions)))) (no_expressions))); attempts = None; ignore_errors = None }) (no_steps)))) (task_step (record { line = 31; work = (module_work (codes "command") (part (codes "cmd") (literal (text (codes "x"))) (no_parts))); condition = (no_expressions); loop = None; register = (Some (codes "r2")); vars = (no_parts); notify = ([]); changed_when = (Some (expression (literal (boolean true)) (no_expressions))); failed_when = None; attempts = None; ignore_errors = None }) (no_steps)) (no_steps) (no_steps)) (no_steps) (no_steps))))); post_tasks = (no_steps); handlers = ([]); forces = false } ∷ record { line = 32; pattern = ((codes "all") ∷ []); gathering = None; vars = (no_parts); is_linear = true; serial = ([]); pre_tasks = (no_steps); tasks = (task_step (record { line = 33; work = (set_fact_work (part (codes "s1") (concatenation (expression (literal (text (codes "x"))) (expression (path (other (named_host (codes "b")) (codes "op")) ([])) (no_expressions)))) (no_parts))); condition = (expression (defined (other (named_host (codes "b")) (codes "op")) ([])) (no_expressions)); loop = None; register = None; vars = (no_parts); notify = ([]); changed_when = None; failed_when = None; attempts = None; ignore_errors = None }) (task_step (record { line = 34; work = (debug_work (part (codes "msg") (path (variable (codes "r1")) ((codes "changed") ∷ [])) (no_parts))); condition = (no_expressions); loop = None; register = (Some (codes "r3")); vars = (no_parts); notify = ((codes "t") ∷ []); changed_when = None; failed_when = None; attempts = None; ignore_errors = None }) (task_step (record { line = 35; work = (module_work (codes "command") (part (codes "cmd") (literal (text (codes "x"))) (no_parts))); condition = (no_expressions); loop = None; register = None; vars = (no_parts); notify = ((codes "h0") ∷ []); changed_when = None; failed_when = None; attempts = None; ignore_errors = None }) (no_steps)))); post_tasks = (no_steps); handlers = (record { work = (record { line = 36; work = (module_work (codes "odd") (no_parts)); condition = (no_expressions); loop = None; register = None; vars = (no_parts); notify = ([]); changed_when = None; failed_when = (Some (expression (comparison equal (path (variable (codes "inventory_hostname")) ([])) (literal (text (codes "a")))) (no_expressions))); attempts = (Some (record { until = (expression (comparison equal (path (variable (codes "inventory_hostname")) ([])) (literal (text (codes "a")))) (no_expressions)); retries = 1 })); ignore_errors = None }); name = (Some (codes "h0")); topics = ((codes "t") ∷ []) } ∷ record { work = (record { line = 37; work = (module_work (codes "setup") (no_parts)); condition = (expression (disjunction (expression (negation (path_status is_changed (variable (codes "r1")) ([]))) (expression (conjunction (expression (conjunction (expression (defined (variable (codes "s2")) ([])) (expression (comparison equal (path (variable (codes "s2")) ([])) (literal (text (codes "a")))) (no_expressions)))) (expression (path_status is_changed (variable (codes "r3")) ([])) (no_expressions)))) (no_expressions)))) (no_expressions)); loop = (Some (path_or (variable (codes "r1")) ((codes "stdout_lines") ∷ []) (list_of (no_expressions)))); register = None; vars = (no_parts); notify = ([]); changed_when = None; failed_when = None; attempts = None; ignore_errors = None }); name = (Some (codes "h1")); topics = ([]) } ∷ []); forces = false } ∷ record { line = 38; pattern = ((codes "g2") ∷ []); gathering = None; vars = (no_parts); is_linear = true; serial = ([]); pre_tasks = (task_step (record { line = 39; work = (module_work (codes "command") (part (codes "cmd") (literal (text (codes "x"))) (no_parts))); condition = (no_expressions); loop = None; register = None; vars = (no_parts); notify = ([]); changed_when = None; failed_when = (Some (expression (literal (boolean true)) (no_expressions))); attempts = None; ignore_errors = None }) (task_step (record { line = 40; work = (module_work (codes "command") (part (codes "cmd") (literal (text (codes "x"))) (no_parts))); condition = (no_expressions); loop = None; register = (Some (codes "r1")); vars = (no_parts); notify = ([]); changed_when = None; failed_when = None; attempts = None; ignore_errors = None }) (no_steps))); tasks = (task_step (record { line = 41; work = (set_fact_work (part (codes "s1") (literal (text (codes "t"))) (no_parts))); condition = (no_expressions); loop = None; register = (Some (codes "r3")); vars = (no_parts); notify = ([]); changed_when = None; failed_when = None; attempts = None; ignore_errors = None }) (task_step (record { line = 42; work = (set_fact_work (part (codes "s2") (path (variable (codes "s3")) ([])) (no_parts))); condition = (expression (defined (variable (codes "s3")) ([])) (no_expressions)); loop = None; register = (Some (codes "r1")); vars = (no_parts); notify = ([]); changed_when = None; failed_when = (Some (expression (literal (boolean false)) (no_expressions))); attempts = None; ignore_errors = None }) (task_step (record { line = 43; work = (module_work (codes "command") (part (codes "cmd") (literal (text (codes "x"))) (no_parts))); condition = (no_expressions); loop = None; register = (Some (codes "r3")); vars = (no_parts); notify = ([]); changed_when = None; failed_when = None; attempts = None; ignore_errors = None }) (no_steps)))); post_tasks = (no_steps); handlers = ([]); forces = true } ∷ [])

abbrev random_001755_run_inventory : Inventory
random_001755_run_inventory = record { hosts = (record { name = (codes "a"); variables = (field (codes "i1") (text ([])) (field (codes "i2") (list (item (int (pos 2)) (item (text (codes "t")) (no_items)))) (field (codes "op") opaque (no_fields)))) } ∷ record { name = (codes "b"); variables = (field (codes "i2") (boolean false) (no_fields)) } ∷ record { name = (codes "c"); variables = (field (codes "i2") (boolean false) (no_fields)) } ∷ []); groups = (record { name = (codes "all"); hosts = ((codes "a") ∷ (codes "b") ∷ (codes "c") ∷ []) } ∷ record { name = (codes "g2"); hosts = ((codes "a") ∷ (codes "b") ∷ (codes "c") ∷ []) } ∷ record { name = (codes "ungrouped"); hosts = ([]) } ∷ []) }

abbrev random_001755_run_registry : Registry
random_001755_run_registry = (builtins ++ (record { name = (codes "probe"); params = (record { name = (codes "n"); kind = ints; required = false } ∷ record { name = (codes "l"); kind = (lists texts 3); required = false } ∷ []); ok = recs (slot (codes "changed") true booleans (slot (codes "deep") false (recs (slot (codes "a") true texts (slot (codes "b") false booleans (no_slots)))) (slot (codes "rows") true (lists texts 2) (slot (codes "v") false ints (no_slots))))); failure = recs (slot (codes "changed") true booleans (slot (codes "msg") true texts (slot (codes "v") false texts (slot (codes "why") true ints (no_slots))))); free = None } ∷ record { name = (codes "odd"); params = ([]); ok = recs (slot (codes "changed") true booleans (slot (codes "msg") false ints (no_slots))); failure = recs (slot (codes "changed") true booleans (slot (codes "msg") true texts (no_slots))); free = None } ∷ []))

random_001755_run : recaps_of random_001755_run_registry random_001755_run_inventory random_001755_run_book 1 ((object (rec (field (codes "changed") (boolean true) (field (codes "ping") (text (123 ∷ 123 ∷ 32 ∷ 120 ∷ 32 ∷ 125 ∷ 125 ∷ [])) (no_fields)))) ∷ object (rec (field (codes "changed") (boolean true) (field (codes "ping") (text (123 ∷ 123 ∷ 32 ∷ 120 ∷ 32 ∷ 125 ∷ 125 ∷ [])) (no_fields)))) ∷ object (rec (field (codes "changed") (boolean true) (field (codes "ping") (text (codes "a")) (no_fields)))) ∷ []) ∷ (object (rec (field (codes "changed") (boolean true) (field (codes "ping") (text (codes "x")) (no_fields)))) ∷ object (rec (field (codes "changed") (boolean true) (field (codes "failed") (boolean true) (field (codes "msg") (text (123 ∷ 123 ∷ 32 ∷ 120 ∷ 32 ∷ 125 ∷ 125 ∷ [])) (no_fields))))) ∷ object (rec (field (codes "changed") (boolean true) (field (codes "extra") (rec (field (codes "a") (int (pos 1)) (no_fields))) (field (codes "ping") (text (codes "x")) (no_fields))))) ∷ []) ∷ (object (rec (field (codes "changed") (boolean false) (field (codes "failed") (boolean true) (field (codes "msg") (text (codes "b")) (no_fields))))) ∷ object (rec (field (codes "changed") (boolean true) (field (codes "ping") (text (codes "b")) (no_fields)))) ∷ object (rec (field (codes "changed") (boolean true) (field (codes "ping") (text (123 ∷ 123 ∷ 32 ∷ 120 ∷ 32 ∷ 125 ∷ 125 ∷ [])) (no_fields)))) ∷ []) ∷ []) ≡ (record { ok = 0; changed = 0; unreachable = 0; failed = 1; skipped = 0; rescued = 0; ignored = 0 } ∷ record { ok = 0; changed = 0; unreachable = 0; failed = 1; skipped = 0; rescued = 0; ignored = 0 } ∷ record { ok = 0; changed = 0; unreachable = 0; failed = 1; skipped = 0; rescued = 0; ignored = 0 } ∷ [])
unfolding digits
random_001755_run = refl

-- random_001782:
abbrev random_001782_book : Book
random_001782_book = (record { line = 1; pattern = ((codes "all") ∷ []); gathering = None; vars = (no_parts); is_linear = true; serial = ([]); pre_tasks = (no_steps); tasks = (task_step (record { line = 2; work = (debug_work (part (codes "msg") (path_or (variable (codes "r")) ((codes "stdout") ∷ []) (list_of (no_expressions))) (no_parts))); condition = (no_expressions); loop = None; register = (Some (codes "r")); vars = (part (codes "v2") (path (variable (codes "y")) ([])) (no_parts)); notify = ([]); changed_when = None; failed_when = None; attempts = None; ignore_errors = None }) (task_step (record { line = 3; work = (fail_work (part (codes "msg") (literal (text (codes "m"))) (no_parts))); condition = (expression (conjunction (expression (defined (variable (codes "s")) ([])) (expression (negation (path_status is_failed (variable (codes "s")) ([]))) (no_expressions)))) (expression (defined (other (named_host (codes "a")) (codes "r")) ((codes "rc") ∷ [])) (no_expressions))); loop = None; register = None; vars = (no_parts); notify = ([]); changed_when = None; failed_when = None; attempts = None; ignore_errors = (Some true) }) (task_step (record { line = 4; work = (set_fact_work (part (codes "s") (literal null) (no_parts))); condition = (no_expressions); loop = None; register = (Some (codes "r")); vars = (no_parts); notify = ([]); changed_when = None; failed_when = (Some (expression (path_status is_failed (variable (codes "r")) ([])) (no_expressions))); attempts = None; ignore_errors = None }) (task_step (record { line = 5; work = (module_work (codes "setup") (no_parts)); condition = (no_expressions); loop = None; register = None; vars = (no_parts); notify = ([]); changed_when = None; failed_when = None; attempts = (Some (record { until = (expression (literal (boolean true)) (no_expressions)); retries = 2 })); ignore_errors = None }) (no_steps))))); post_tasks = (no_steps); handlers = ([]); forces = true } ∷ [])

abbrev random_001782_inventory : Inventory
random_001782_inventory = record { hosts = (record { name = (codes "c"); variables = (field (codes "inv") (list (item (int (pos 1)) (item (int (pos 2)) (no_items)))) (no_fields)) } ∷ record { name = (codes "b"); variables = (field (codes "inv") (list (item (int (pos 1)) (item (int (pos 2)) (no_items)))) (field (codes "k") (rec (field (codes "z") opaque (no_fields))) (no_fields))) } ∷ record { name = (codes "a"); variables = (field (codes "inv") (list (item (text (codes "x")) (no_items))) (field (codes "opq") opaque (no_fields))) } ∷ []); groups = (record { name = (codes "all"); hosts = ((codes "c") ∷ (codes "b") ∷ (codes "a") ∷ []) } ∷ record { name = (codes "g"); hosts = ((codes "b") ∷ (codes "a") ∷ []) } ∷ record { name = (codes "ungrouped"); hosts = ((codes "c") ∷ []) } ∷ []) }

abbrev random_001782_registry : Registry
random_001782_registry = (builtins ++ ([]))

random_001782 : judged random_001782_registry random_001782_inventory random_001782_book ≡ accepted 9
random_001782 = refl

-- random_001795_run:
abbrev random_001795_run_book : Book
random_001795_run_book = (record { line = 1; pattern = ((codes "all") ∷ []); gathering = None; vars = (part (codes "v1") (literal (text ([]))) (part (codes "v2") (literal null) (part (codes "v3") (concatenation (expression (literal (text (codes "x"))) (expression (literal (boolean true)) (no_expressions)))) (no_parts)))); is_linear = true; serial = ([]); pre_tasks = (no_steps); tasks = (task_step (record { line = 2; work = (set_fact_work (part (codes "s1") (literal (int (pos 1))) (no_parts))); condition = (expression (defined (variable (codes "r2")) ((codes "changed") ∷ [])) (expression (defined (variable (codes "r3")) ([])) (expression (defined (variable (codes "r3")) ((codes "failed") ∷ [])) (no_expressions)))); loop = None; register = (Some (codes "r3")); vars = (no_parts); notify = ((codes "h0") ∷ []); changed_when = (Some (expression (literal (boolean true)) (no_expressions))); failed_when = None; attempts = None; ignore_errors = None }) (task_step (record { line = 3; work = (module_work (codes "command") (part (codes "cmd") (literal (text (codes "x"))) (no_parts))); condition = (no_expressions); loop = None; register = (Some (codes "r1")); vars = (no_parts); notify = ((codes "t") ∷ []); changed_when = None; failed_when = None; attempts = None; ignore_errors = None }) (task_step (record { line = 4; work = (module_work (codes "stat") (part (codes "path") (literal (text (codes "/"))) (no_parts))); condition = (no_expressions); loop = None; register = None; vars = (no_parts); notify = ((codes "t") ∷ []); changed_when = (Some (expression (literal (boolean true)) (no_expressions))); failed_when = None; attempts = (Some (record { until = (expression (literal (boolean true)) (no_expressions)); retries = 3 })); ignore_errors = (Some false) }) (task_step (record { line = 5; work = (set_fact_work (part (codes "s3") (literal (int (pos 1))) (no_parts))); condition = (expression (negation (path_status is_skipped (variable (codes "r1")) ([]))) (no_expressions)); loop = None; register = (Some (codes "r1")); vars = (no_parts); notify = ((codes "h0") ∷ []); changed_when = (Some (expression (literal (boolean true)) (no_expressions))); failed_when = (Some (expression (comparison equal (path (variable (codes "r1")) ((codes "failed") ∷ [])) (literal (text (codes "a")))) (no_expressions))); attempts = None; ignore_errors = None }) (no_steps))))); post_tasks = (task_step (record { line = 6; work = (module_work (codes "command") (part (codes "cmd") (literal (text (codes "x"))) (no_parts))); condition = (no_expressions); loop = None; register = (Some (codes "r1")); vars = (part (codes "v2") (path_or (variable (codes "ansible_os_family")) ([]) (literal (text (codes "z")))) (part (codes "v3") (path_or (variable (codes "s1")) ([]) (literal (int (pos 1)))) (no_parts))); notify = ([]); changed_when = None; failed_when = None; attempts = (Some (record { until = (expression (literal (boolean false)) (no_expressions)); retries = 2 })); ignore_errors = None }) (no_steps)); handlers = (record { work = (record { line = 7; work = (module_work (codes "command") (part (codes "cmd") (literal (text (codes "x"))) (no_parts))); condition = (expression (negation (path_status is_failed (variable (codes "r1")) ([]))) (no_expressions)); loop = None; register = None; vars = (no_parts); notify = ([]); changed_when = None; failed_when = None; attempts = None; ignore_errors = None }); name = (Some (codes "h0")); topics = ((codes "t") ∷ []) } ∷ []); forces = false } ∷ record { line = 8; pattern = ((codes "g2") ∷ []); gathering = (Some 9); vars = (no_parts); is_linear = true; serial = ([]); pre_tasks = (no_steps); tasks = (task_step (record { line = 10; work = (debug_work (part (codes "msg") (path (variable (codes "r2")) ((codes "changed") ∷ [])) (no_parts))); condition = (expression (defined (variable (codes "r1")) ((codes "stdout") ∷ [])) (expression (negation (path_status is_failed (variable (codes "r2")) ([]))) (no_expressions))); loop = (Some (path (variable (codes "ansible_play_batch")) ([]))); register = None; vars = (no_parts); notify = ((codes "h0") ∷ []); changed_when = None; failed_when = None; attempts = None; ignore_errors = None }) (task_step (record { line = 11; work = (module_work (codes "stat") (part (codes "path") (literal (text (codes "/"))) (no_parts))); condition = (no_expressions); loop = None; register = (Some (codes "r3")); vars = (no_parts); notify = ([]); changed_when = None; failed_when = None; attempts = None; ignore_errors = None }) (no_steps))); post_tasks = (no_steps); handlers = (record { work = (record { line = 12; work = (module_work (codes "stat") (part (codes "path") (literal (text (codes "/"))) (no_parts))); condition = (no_expressions); loop = None; register = (Some (codes "r1")); vars = (no_parts); notify = ([]); changed_when = None; failed_when = None; attempts = None; ignore_errors = None }); name = (Some (codes "h0")); topics = ((codes "t") ∷ []) } ∷ []); forces = false } ∷ [])

abbrev random_001795_run_inventory : Inventory
random_001795_run_inventory = record { hosts = (record { name = (codes "a"); variables = (field (codes "op") opaque (field (codes "s1") (int (pos 1)) (no_fields))) } ∷ []); groups = (record { name = (codes "all"); hosts = ((codes "a") ∷ []) } ∷ record { name = (codes "g1"); hosts = ((codes "a") ∷ []) } ∷ record { name = (codes "g2"); hosts = ([]) } ∷ record { name = (codes "ungrouped"); hosts = ([]) } ∷ []) }

abbrev random_001795_run_registry : Registry
random_001795_run_registry = (builtins ++ (record { name = (codes "probe"); params = (record { name = (codes "n"); kind = ints; required = false } ∷ record { name = (codes "l"); kind = (lists texts 3); required = false } ∷ []); ok = recs (slot (codes "changed") true booleans (slot (codes "deep") false (recs (slot (codes "a") true texts (slot (codes "b") false booleans (no_slots)))) (slot (codes "rows") true (lists texts 2) (slot (codes "v") false ints (no_slots))))); failure = recs (slot (codes "changed") true booleans (slot (codes "msg") true texts (slot (codes "v") false texts (slot (codes "why") true ints (no_slots))))); free = None } ∷ record { name = (codes "odd"); params = ([]); ok = recs (slot (codes "changed") true booleans (slot (codes "msg") false ints (no_slots))); failure = recs (slot (codes "changed") true booleans (slot (codes "msg") true texts (no_slots))); free = None } ∷ []))

random_001795_run : recaps_of random_001795_run_registry random_001795_run_inventory random_001795_run_book 1 ((object (rec (field (codes "changed") (boolean false) (field (codes "rc") (int (pos 1)) (field (codes "stderr") (text (codes "x")) (field (codes "stderr_lines") (list (item (text (123 ∷ 123 ∷ 32 ∷ 120 ∷ 32 ∷ 125 ∷ 125 ∷ [])) (no_items))) (field (codes "stdout") (text (codes "b")) (field (codes "stdout_lines") (list (item (text (codes "b")) (item (text (codes "b")) (no_items)))) (no_fields)))))))) ∷ object (rec (field (codes "changed") (boolean false) (field (codes "stat") (rec (field (codes "exists") (boolean false) (field (codes "isdir") (boolean false) (no_fields)))) (no_fields)))) ∷ object (rec (field (codes "changed") (boolean true) (field (codes "rc") (int (pos 2)) (field (codes "stderr") (text (codes "x")) (field (codes "stderr_lines") (list (item (text (123 ∷ 123 ∷ 32 ∷ 120 ∷ 32 ∷ 125 ∷ 125 ∷ [])) (no_items))) (field (codes "stdout") (text (codes "a")) (field (codes "stdout_lines") (list (no_items)) (no_fields)))))))) ∷ object (rec (field (codes "changed") (boolean true) (field (codes "extra") (rec (field (codes "a") (int (pos 1)) (no_fields))) (field (codes "failed") (boolean true) (field (codes "msg") (text ([])) (field (codes "rc") (int (pos 0)) (field (codes "stderr") (text (codes "a")) (field (codes "stderr_lines") (list (item (text (codes "a")) (item (text (codes "a")) (item (text (codes "x")) (no_items))))) (field (codes "stdout") (text (123 ∷ 123 ∷ 32 ∷ 120 ∷ 32 ∷ 125 ∷ 125 ∷ [])) (field (codes "stdout_lines") (list (item (text (codes "a")) (item (text (codes "a")) (item (text (codes "x")) (no_items))))) (no_fields))))))))))) ∷ object (rec (field (codes "changed") (boolean true) (field (codes "rc") (int (pos 0)) (field (codes "stderr") (text (codes "b")) (field (codes "stderr_lines") (list (item (text (123 ∷ 123 ∷ 32 ∷ 120 ∷ 32 ∷ 125 ∷ 125 ∷ [])) (no_items))) (field (codes "stdout") (text (codes "x")) (field (codes "stdout_lines") (list (item (text (codes "a")) (no_items))) (no_fields)))))))) ∷ object (rec (field (codes "changed") (boolean true) (field (codes "rc") (int (pos 1)) (field (codes "stderr") (text (codes "a")) (field (codes "stderr_lines") (list (item (text (codes "b")) (item (text (codes "b")) (no_items)))) (field (codes "stdout") (text ([])) (field (codes "stdout_lines") (list (item (text (codes "x")) (item (text (codes "a")) (item (text (codes "a")) (no_items))))) (no_fields)))))))) ∷ []) ∷ []) ≡ (record { ok = 4; changed = 3; unreachable = 0; failed = 1; skipped = 1; rescued = 0; ignored = 0 } ∷ [])
unfolding digits
random_001795_run = refl

-- random_001804:
abbrev random_001804_book : Book
random_001804_book = (record { line = 1; pattern = ((codes "g") ∷ []); gathering = (Some 2); vars = (no_parts); is_linear = true; serial = (host_count 1 ∷ host_count 2 ∷ []); pre_tasks = (no_steps); tasks = (task_step (record { line = 3; work = (assert_work (conditions_are (expression (negation (path_status is_failed (other (group_member (codes "g") 0) (codes "opq")) ((codes "changed") ∷ []))) (expression (negation (path_status is_failed (variable (codes "r")) ((codes "failed") ∷ []))) (no_expressions)))) (no_parts)); condition = (no_expressions); loop = None; register = (Some (codes "r")); vars = (no_parts); notify = ([]); changed_when = None; failed_when = None; attempts = None; ignore_errors = None }) (task_step (record { line = 4; work = (module_work (codes "command") (part (codes "cmd") (literal (text (codes "x"))) (no_parts))); condition = (expression (defined (variable (codes "r")) ([])) (no_expressions)); loop = None; register = None; vars = (no_parts); notify = ([]); changed_when = None; failed_when = (Some (expression (path (variable (codes "zz")) ((codes "changed") ∷ [])) (no_expressions))); attempts = (Some (record { until = (expression (negation (path_status is_failed (variable (codes "zz")) ([]))) (no_expressions)); retries = 2 })); ignore_errors = None }) (no_steps))); post_tasks = (task_step (record { line = 5; work = (assert_work (conditions_are (expression (conjunction (expression (path_status is_skipped (variable (codes "r")) ((codes "changed") ∷ [])) (expression (negation (path_status is_failed (variable (codes "item")) ((codes "stat") ∷ (codes "isdir") ∷ []))) (no_expressions)))) (expression (disjunction (expression (negation (comparison less (path (variable (codes "r")) ((codes "failed") ∷ [])) (literal (int (pos 3))))) (expression (conjunction (expression (path (variable (codes "y")) ([])) (expression (negation (path_status is_skipped (variable (codes "inventory_hostname")) ([]))) (no_expressions)))) (no_expressions)))) (no_expressions)))) (no_parts)); condition = (no_expressions); loop = None; register = (Some (codes "r")); vars = (no_parts); notify = ([]); changed_when = None; failed_when = None; attempts = None; ignore_errors = None }) (task_step (record { line = 6; work = (module_work (codes "stat") (part (codes "path") (literal (text (codes "p"))) (no_parts))); condition = (expression (path_status is_changed (variable (codes "ansible_failed_result")) ((codes "changed") ∷ [])) (expression (conjunction (expression (negation (defined (other (named_host (codes "b")) (codes "y")) ([]))) (expression (negation (path_status is_failed (other (named_host (codes "a")) (codes "r")) ((codes "rc") ∷ []))) (no_expressions)))) (no_expressions))); loop = None; register = None; vars = (part (codes "v1") (conjunction (expression (membership (literal (text (codes "a"))) (path (other (named_host (codes "a")) (codes "inv")) ([]))) (expression (negation (path_status is_skipped (other item_host (codes "inv")) ([]))) (no_expressions)))) (no_parts)); notify = ((codes "h0") ∷ []); changed_when = None; failed_when = None; attempts = (Some (record { until = (expression (literal (boolean true)) (no_expressions)); retries = 3 })); ignore_errors = (Some true) }) (task_step (record { line = 7; work = (module_work (codes "stat") (part (codes "path") (literal (text (codes "p"))) (no_parts))); condition = (expression (negation (path_status is_skipped (variable (codes "r")) ([]))) (expression (defined (other (named_host (codes "a")) (codes "r")) ((codes "rc") ∷ [])) (no_expressions))); loop = None; register = None; vars = (no_parts); notify = ((codes "h0") ∷ []); changed_when = None; failed_when = None; attempts = None; ignore_errors = None }) (no_steps)))); handlers = (record { work = (record { line = 8; work = (module_work (codes "command") (part (codes "cmd") (path (variable (codes "inventory_hostname")) ([])) (no_parts))); condition = (expression (comparison equal (path (variable (codes "r")) ([])) (literal (int (pos 1)))) (no_expressions)); loop = None; register = (Some (codes "s")); vars = (no_parts); notify = ([]); changed_when = None; failed_when = None; attempts = None; ignore_errors = None }); name = (Some (codes "h0")); topics = ([]) } ∷ []); forces = true } ∷ record { line = 9; pattern = ((codes "g") ∷ []); gathering = None; vars = (no_parts); is_linear = false; serial = (host_count 1 ∷ []); pre_tasks = (no_steps); tasks = (block_step (record { line = 10; condition = (no_expressions); vars = (no_parts); ignore_errors = None }) (block_step (record { line = 11; condition = (no_expressions); vars = (no_parts); ignore_errors = None }) (no_steps) (no_steps) (no_steps) (task_step (record { line = 12; work = (module_work (codes "command") (part (codes "cmd") (literal (text (codes "x"))) (no_parts))); condition = (expression (conjunction (expression (defined (variable (codes "s")) ([])) (expression (negation (path_status is_failed (variable (codes "s")) ([]))) (no_expressions)))) (no_expressions)); loop = None; register = (Some (codes "s")); vars = (no_parts); notify = ((codes "h0") ∷ []); changed_when = None; failed_when = None; attempts = None; ignore_errors = None }) (no_steps))) (no_steps) (no_steps) (block_step (record { line = 13; condition = (no_expressions); vars = (no_parts); ignore_errors = None }) (no_steps) (no_steps) (no_steps) (block_step (record { line = 14; condition = (expression (disjunction (expression (negation (defined (variable (codes "zz")) ((codes "changed") ∷ []))) (expression (negation (comparison equal (path (variable (codes "s")) ((codes "changed") ∷ [])) (literal (int (pos 1))))) (no_expressions)))) (no_expressions)); vars = (no_parts); ignore_errors = None }) (task_step (record { line = 15; work = (module_work (codes "setup") (no_parts)); condition = (no_expressions); loop = (Some (path (variable (codes "r")) ((codes "results") ∷ []))); register = None; vars = (no_parts); notify = ([]); changed_when = None; failed_when = None; attempts = None; ignore_errors = None }) (no_steps)) (no_steps) (task_step (record { line = 16; work = (assert_work (conditions_are (expression (negation (in_batch this_host)) (no_expressions))) (no_parts)); condition = (expression (in_batch (named_host (codes "b"))) (expression (in_batch (named_host (codes "a"))) (no_expressions))); loop = None; register = None; vars = (no_parts); notify = ((codes "h0") ∷ []); changed_when = None; failed_when = None; attempts = None; ignore_errors = None }) (no_steps)) (task_step (record { line = 17; work = (set_fact_work (part (codes "y") (path (variable (codes "group_names")) ([])) (no_parts))); condition = (no_expressions); loop = None; register = (Some (codes "r")); vars = (no_parts); notify = ([]); changed_when = None; failed_when = None; attempts = None; ignore_errors = None }) (no_steps))))); post_tasks = (task_step (record { line = 18; work = (debug_work (part (codes "msg") (record_of (part (codes "k") (length_of (path (variable (codes "ansible_play_batch")) ((codes "stat") ∷ (codes "isdir") ∷ []))) (no_parts))) (no_parts))); condition = (expression (in_batch item_host) (no_expressions)); loop = (Some (path (variable (codes "groups")) ((codes "g") ∷ []))); register = (Some (codes "r")); vars = (no_parts); notify = ((codes "h0") ∷ []); changed_when = None; failed_when = None; attempts = None; ignore_errors = None }) (no_steps)); handlers = (record { work = (record { line = 19; work = (module_work (codes "stat") (part (codes "path") (literal (text (codes "p"))) (no_parts))); condition = (expression (defined (other (named_host (codes "a")) (codes "r")) ((codes "rc") ∷ [])) (expression (defined (variable (codes "r")) ((codes "rc") ∷ [])) (no_expressions))); loop = None; register = (Some (codes "r")); vars = (no_parts); notify = ([]); changed_when = None; failed_when = None; attempts = None; ignore_errors = None }); name = (Some (codes "h0")); topics = ([]) } ∷ []); forces = true } ∷ [])

abbrev random_001804_inventory : Inventory
random_001804_inventory = record { hosts = (record { name = (codes "c"); variables = (field (codes "inv") (list (item (int (pos 1)) (item (int (pos 2)) (no_items)))) (no_fields)) } ∷ record { name = (codes "b"); variables = (field (codes "inv") (list (item (int (pos 1)) (item (int (pos 2)) (no_items)))) (field (codes "k") (rec (field (codes "z") opaque (no_fields))) (no_fields))) } ∷ record { name = (codes "a"); variables = (field (codes "inv") (list (item (text (codes "x")) (no_items))) (field (codes "opq") opaque (no_fields))) } ∷ []); groups = (record { name = (codes "all"); hosts = ((codes "c") ∷ (codes "b") ∷ (codes "a") ∷ []) } ∷ record { name = (codes "g"); hosts = ((codes "b") ∷ (codes "a") ∷ []) } ∷ record { name = (codes "ungrouped"); hosts = ((codes "c") ∷ []) } ∷ []) }

abbrev random_001804_registry : Registry
random_001804_registry = (builtins ++ ([]))

random_001804 : judged random_001804_registry random_001804_inventory random_001804_book ≡ refused (record { code = 2; line = 3; host = (Some (codes "b")) })
random_001804 = refl

-- random_001810:
abbrev random_001810_book : Book
random_001810_book = (record { line = 1; pattern = ((codes "all") ∷ []); gathering = (Some 2); vars = (no_parts); is_linear = true; serial = ([]); pre_tasks = (no_steps); tasks = (task_step (record { line = 3; work = (debug_work (part (codes "msg") (list_of (expression (record_of (part (codes "k") (list_of (expression (literal null) (no_expressions))) (no_parts))) (no_expressions))) (no_parts))); condition = (no_expressions); loop = None; register = (Some (codes "r")); vars = (no_parts); notify = ([]); changed_when = None; failed_when = None; attempts = None; ignore_errors = None }) (block_step (record { line = 4; condition = (no_expressions); vars = (no_parts); ignore_errors = None }) (task_step (record { line = 5; work = (assert_work (conditions_are (expression (disjunction (expression (negation (path_status is_failed (other (named_host (codes "a")) (codes "r")) ((codes "rc") ∷ []))) (expression (negation (negation (path_status is_failed (variable (codes "ansible_hostname")) ((codes "results") ∷ [])))) (no_expressions)))) (no_expressions))) (no_parts)); condition = (no_expressions); loop = None; register = (Some (codes "r")); vars = (no_parts); notify = ([]); changed_when = None; failed_when = None; attempts = None; ignore_errors = None }) (task_step (record { line = 6; work = (module_work (codes "stat") (part (codes "path") (literal (text (codes "p"))) (no_parts))); condition = (expression (negation (path_status is_skipped (variable (codes "ansible_play_batch")) ((codes "stdout_lines") ∷ []))) (no_expressions)); loop = (Some (path (variable (codes "ansible_play_batch")) ([]))); register = (Some (codes "s")); vars = (no_parts); notify = ([]); changed_when = None; failed_when = (Some (expression (literal (boolean false)) (no_expressions))); attempts = None; ignore_errors = None }) (no_steps))) (no_steps) (no_steps) (no_steps))); post_tasks = (task_step (record { line = 7; work = (set_fact_work (part (codes "y") (literal (int (pos 1))) (no_parts))); condition = (no_expressions); loop = None; register = None; vars = (no_parts); notify = ([]); changed_when = (Some (expression (literal (boolean true)) (no_expressions))); failed_when = None; attempts = None; ignore_errors = None }) (task_step (record { line = 8; work = (assert_work (conditions_are (expression (comparison equal (path (variable (codes "inventory_hostname")) ((codes "results") ∷ [])) (literal (text (codes "a")))) (expression (disjunction (expression (negation (comparison equal (path (variable (codes "v1")) ((codes "stdout_lines") ∷ [])) (literal (text (codes "a"))))) (expression (disjunction (expression (defined (variable (codes "item")) ((codes "results") ∷ [])) (expression (comparison equal (path (variable (codes "y")) ([])) (literal (text (codes "a")))) (no_expressions)))) (no_expressions)))) (no_expressions)))) (no_parts)); condition = (no_expressions); loop = None; register = (Some (codes "r")); vars = (no_parts); notify = ([]); changed_when = None; failed_when = (Some (expression (literal (boolean false)) (no_expressions))); attempts = None; ignore_errors = None }) (task_step (record { line = 9; work = (set_fact_work (part (codes "y") (path_or (other item_host (codes "ansible_hostname")) ((codes "k") ∷ []) (path (variable (codes "inv")) ((codes "stdout") ∷ []))) (no_parts))); condition = (no_expressions); loop = None; register = (Some (codes "r")); vars = (no_parts); notify = ([]); changed_when = None; failed_when = (Some (expression (literal (boolean false)) (no_expressions))); attempts = None; ignore_errors = None }) (task_step (record { line = 10; work = (assert_work (conditions_are (expression (negation (defined (other (named_host (codes "b")) (codes "y")) ([]))) (expression (negation (in_batch (named_host (codes "b")))) (no_expressions)))) (no_parts)); condition = (no_expressions); loop = None; register = None; vars = (no_parts); notify = ([]); changed_when = None; failed_when = None; attempts = None; ignore_errors = None }) (no_steps))))); handlers = ([]); forces = false } ∷ [])

abbrev random_001810_inventory : Inventory
random_001810_inventory = record { hosts = (record { name = (codes "c"); variables = (field (codes "inv") (list (item (int (pos 1)) (item (int (pos 2)) (no_items)))) (no_fields)) } ∷ record { name = (codes "b"); variables = (field (codes "inv") (list (item (int (pos 1)) (item (int (pos 2)) (no_items)))) (field (codes "k") (rec (field (codes "z") opaque (no_fields))) (no_fields))) } ∷ record { name = (codes "a"); variables = (field (codes "inv") (list (item (text (codes "x")) (no_items))) (field (codes "opq") opaque (no_fields))) } ∷ []); groups = (record { name = (codes "all"); hosts = ((codes "c") ∷ (codes "b") ∷ (codes "a") ∷ []) } ∷ record { name = (codes "g"); hosts = ((codes "b") ∷ (codes "a") ∷ []) } ∷ record { name = (codes "ungrouped"); hosts = ((codes "c") ∷ []) } ∷ []) }

abbrev random_001810_registry : Registry
random_001810_registry = (builtins ++ ([]))

random_001810 : judged random_001810_registry random_001810_inventory random_001810_book ≡ refused (record { code = 2; line = 5; host = (Some (codes "c")) })
random_001810 = refl

-- random_001842:
abbrev random_001842_book : Book
random_001842_book = (record { line = 1; pattern = ((codes "all") ∷ []); gathering = None; vars = (no_parts); is_linear = true; serial = ([]); pre_tasks = (no_steps); tasks = (flush_step 2 (no_steps)); post_tasks = (no_steps); handlers = ([]); forces = false } ∷ [])

abbrev random_001842_inventory : Inventory
random_001842_inventory = record { hosts = (record { name = (codes "c"); variables = (field (codes "inv") (list (item (int (pos 1)) (item (int (pos 2)) (no_items)))) (no_fields)) } ∷ record { name = (codes "b"); variables = (field (codes "inv") (list (item (int (pos 1)) (item (int (pos 2)) (no_items)))) (field (codes "k") (rec (field (codes "z") opaque (no_fields))) (no_fields))) } ∷ record { name = (codes "a"); variables = (field (codes "inv") (list (item (text (codes "x")) (no_items))) (field (codes "opq") opaque (no_fields))) } ∷ []); groups = (record { name = (codes "all"); hosts = ((codes "c") ∷ (codes "b") ∷ (codes "a") ∷ []) } ∷ record { name = (codes "g"); hosts = ((codes "b") ∷ (codes "a") ∷ []) } ∷ record { name = (codes "ungrouped"); hosts = ((codes "c") ∷ []) } ∷ []) }

abbrev random_001842_registry : Registry
random_001842_registry = (builtins ++ ([]))

random_001842 : judged random_001842_registry random_001842_inventory random_001842_book ≡ accepted 0
random_001842 = refl

-- random_001871_run:
abbrev random_001871_run_book : Book
random_001871_run_book = (record { line = 1; pattern = ((codes "d") ∷ []); gathering = None; vars = (no_parts); is_linear = false; serial = (host_count 1 ∷ []); pre_tasks = (task_step (record { line = 2; work = (assert_work (conditions_are (expression (literal (boolean true)) (no_expressions))) (no_parts)); condition = (no_expressions); loop = None; register = None; vars = (no_parts); notify = ((codes "h2") ∷ []); changed_when = None; failed_when = None; attempts = None; ignore_errors = None }) (task_step (record { line = 3; work = (module_work (codes "odd") (no_parts)); condition = (no_expressions); loop = None; register = (Some (codes "r2")); vars = (no_parts); notify = ([]); changed_when = None; failed_when = None; attempts = None; ignore_errors = (Some true) }) (no_steps))); tasks = (task_step (record { line = 4; work = (module_work (codes "command") (part (codes "cmd") (literal (text (codes "x"))) (no_parts))); condition = (no_expressions); loop = None; register = (Some (codes "r1")); vars = (no_parts); notify = ([]); changed_when = None; failed_when = None; attempts = None; ignore_errors = None }) (block_step (record { line = 5; condition = (no_expressions); vars = (no_parts); ignore_errors = (Some true) }) (task_step (record { line = 6; work = (module_work (codes "command") (part (codes "cmd") (literal (text (codes "x"))) (no_parts))); condition = (no_expressions); loop = (Some (list_of (expression (record_of (part (codes "g") (literal (text (codes "a"))) (no_parts))) (expression (literal (boolean false)) (no_expressions))))); register = (Some (codes "r1")); vars = (no_parts); notify = ((codes "t") ∷ []); changed_when = (Some (expression (comparison equal (path (variable (codes "r1")) ((codes "changed") ∷ [])) (literal (int (pos 1)))) (no_expressions))); failed_when = None; attempts = None; ignore_errors = None }) (no_steps)) (task_step (record { line = 7; work = (debug_work (part (codes "msg") (path_or (variable (codes "r2")) ((codes "failed") ∷ []) (list_of (no_expressions))) (no_parts))); condition = (no_expressions); loop = None; register = (Some (codes "r3")); vars = (no_parts); notify = ([]); changed_when = None; failed_when = None; attempts = None; ignore_errors = (Some true) }) (task_step (record { line = 8; work = (set_fact_work (part (codes "s3") (list_of (expression (literal (text (codes "t"))) (expression (literal (boolean false)) (no_expressions)))) (no_parts))); condition = (expression (negation (comparison equal (path (other (group_member (codes "all") 0) (codes "i1")) ([])) (list_of (expression (literal (int (pos 1))) (no_expressions))))) (no_expressions)); loop = None; register = None; vars = (no_parts); notify = ([]); changed_when = None; failed_when = None; attempts = None; ignore_errors = None }) (no_steps))) (no_steps) (block_step (record { line = 9; condition = (expression (membership (literal (text (codes "g2"))) (path (variable (codes "group_names")) ([]))) (no_expressions)); vars = (no_parts); ignore_errors = (Some false) }) (task_step (record { line = 10; work = (module_work (codes "ping") (no_parts)); condition = (no_expressions); loop = None; register = (Some (codes "r3")); vars = (no_parts); notify = ([]); changed_when = None; failed_when = (Some (expression (comparison equal (path_or (variable (codes "r3")) ((codes "failed") ∷ []) (literal (boolean true))) (literal (boolean true))) (no_expressions))); attempts = None; ignore_errors = None }) (task_step (record { line = 11; work = (module_work (codes "odd") (no_parts)); condition = (expression (negation (in_batch this_host)) (no_expressions)); loop = None; register = (Some (codes "r1")); vars = (no_parts); notify = ([]); changed_when = None; failed_when = None; attempts = None; ignore_errors = None }) (task_step (record { line = 12; work = (module_work (codes "command") (part (codes "cmd") (literal (text (codes "x"))) (no_parts))); condition = (no_expressions); loop = None; register = (Some (codes "r2")); vars = (no_parts); notify = ((codes "h1") ∷ []); changed_when = None; failed_when = None; attempts = None; ignore_errors = (Some true) }) (no_steps)))) (no_steps) (no_steps) (no_steps)))); post_tasks = (no_steps); handlers = (record { work = (record { line = 13; work = (set_fact_work (part (codes "s2") (record_of (part (codes "f") (literal (int (pos 1))) (no_parts))) (no_parts))); condition = (no_expressions); loop = None; register = (Some (codes "r2")); vars = (no_parts); notify = ([]); changed_when = None; failed_when = None; attempts = None; ignore_errors = None }); name = (Some (codes "h0")); topics = ((codes "t") ∷ []) } ∷ record { work = (record { line = 14; work = (fail_work (no_parts)); condition = (expression (in_batch item_host) (no_expressions)); loop = (Some (path (variable (codes "ansible_play_batch")) ([]))); register = None; vars = (no_parts); notify = ((codes "h2") ∷ []); changed_when = None; failed_when = (Some (expression (literal (boolean true)) (no_expressions))); attempts = None; ignore_errors = None }); name = (Some (codes "h1")); topics = ((codes "t") ∷ []) } ∷ record { work = (record { line = 15; work = (set_fact_work (part (codes "s3") (literal (int (pos 1))) (no_parts))); condition = (no_expressions); loop = (Some (list_of (expression (record_of (part (codes "f") (list_of (expression (literal (text (codes "b"))) (expression (literal null) (no_expressions)))) (part (codes "g") (list_of (expression (literal (text (codes "b"))) (expression (literal (int (negsuc 0))) (no_expressions)))) (no_parts)))) (expression (literal (text (codes "no"))) (no_expressions))))); register = (Some (codes "r2")); vars = (part (codes "v2") (path_or (other (named_host (codes "d")) (codes "r3")) ((codes "ping") ∷ []) (literal (int (pos 1)))) (part (codes "v3") (path (variable (codes "r1")) ((codes "failed") ∷ [])) (no_parts))); notify = ([]); changed_when = None; failed_when = (Some (expression (comparison equal (path (variable (codes "r2")) ((codes "changed") ∷ [])) (literal (text (codes "a")))) (no_expressions))); attempts = None; ignore_errors = None }); name = (Some (codes "h2")); topics = ((codes "t") ∷ []) } ∷ []); forces = true } ∷ [])

abbrev random_001871_run_inventory : Inventory
random_001871_run_inventory = record { hosts = (record { name = (codes "a"); variables = (field (codes "i1") (text (codes "t")) (no_fields)) } ∷ record { name = (codes "b"); variables = (field (codes "i1") (text (codes "no")) (field (codes "s1") (text (codes "b")) (no_fields))) } ∷ record { name = (codes "c"); variables = (field (codes "i1") (text (codes "no")) (field (codes "s1") (list (item (int (pos 1)) (item (text ([])) (no_items)))) (no_fields))) } ∷ record { name = (codes "d"); variables = (field (codes "i1") (text (codes "no")) (field (codes "op") opaque (no_fields))) } ∷ []); groups = (record { name = (codes "all"); hosts = ((codes "a") ∷ (codes "b") ∷ (codes "c") ∷ (codes "d") ∷ []) } ∷ record { name = (codes "ungrouped"); hosts = ((codes "a") ∷ (codes "b") ∷ (codes "c") ∷ (codes "d") ∷ []) } ∷ []) }

abbrev random_001871_run_registry : Registry
random_001871_run_registry = (builtins ++ (record { name = (codes "probe"); params = (record { name = (codes "n"); kind = ints; required = false } ∷ record { name = (codes "l"); kind = (lists texts 3); required = false } ∷ []); ok = recs (slot (codes "changed") true booleans (slot (codes "deep") false (recs (slot (codes "a") true texts (slot (codes "b") false booleans (no_slots)))) (slot (codes "rows") true (lists texts 2) (slot (codes "v") false ints (no_slots))))); failure = recs (slot (codes "changed") true booleans (slot (codes "msg") true texts (slot (codes "v") false texts (slot (codes "why") true ints (no_slots))))); free = None } ∷ record { name = (codes "odd"); params = ([]); ok = recs (slot (codes "changed") true booleans (slot (codes "msg") false ints (no_slots))); failure = recs (slot (codes "changed") true booleans (slot (codes "msg") true texts (no_slots))); free = None } ∷ []))

random_001871_run : recaps_of random_001871_run_registry random_001871_run_inventory random_001871_run_book 1 (([]) ∷ ([]) ∷ ([]) ∷ (object (rec (field (codes "changed") (boolean true) (field (codes "msg") (int (pos 2)) (no_fields)))) ∷ object (rec (field (codes "changed") (boolean false) (field (codes "rc") (int (pos 1)) (field (codes "stderr") (text (123 ∷ 123 ∷ 32 ∷ 120 ∷ 32 ∷ 125 ∷ 125 ∷ [])) (field (codes "stderr_lines") (list (no_items)) (field (codes "stdout") (text (codes "a")) (field (codes "stdout_lines") (list (item (text (codes "a")) (item (text (codes "b")) (no_items)))) (no_fields)))))))) ∷ object (rec (field (codes "changed") (boolean true) (field (codes "rc") (int (negsuc 6)) (field (codes "stderr") (text (codes "b")) (field (codes "stderr_lines") (list (no_items)) (field (codes "stdout") (text ([])) (field (codes "stdout_lines") (list (item (text (codes "c")) (no_items))) (no_fields)))))))) ∷ object (rec (field (codes "changed") (boolean false) (field (codes "failed") (boolean true) (field (codes "msg") (text (codes "x")) (field (codes "rc") (int (pos 1)) (field (codes "stderr") (text (codes "b")) (field (codes "stderr_lines") (list (item (text (codes "a")) (no_items))) (field (codes "stdout") (text (codes "d")) (field (codes "stdout_lines") (list (item (text (123 ∷ 123 ∷ 32 ∷ 120 ∷ 32 ∷ 125 ∷ 125 ∷ [])) (item (text ([])) (item (text ([])) (no_items))))) (no_fields)))))))))) ∷ []) ∷ []) ≡ (record { ok = 0; changed = 0; unreachable = 0; failed = 0; skipped = 0; rescued = 0; ignored = 0 } ∷ record { ok = 0; changed = 0; unreachable = 0; failed = 0; skipped = 0; rescued = 0; ignored = 0 } ∷ record { ok = 0; changed = 0; unreachable = 0; failed = 0; skipped = 0; rescued = 0; ignored = 0 } ∷ record { ok = 4; changed = 1; unreachable = 0; failed = 0; skipped = 3; rescued = 0; ignored = 1 } ∷ [])
unfolding digits
random_001871_run = refl
