-- Cases of random, computed.
use Rattle.std.specs.Prelude.{◌≡◌, refl, pos, negsuc, [], ◌∷◌, ◌++◌, true, false, Some, None, codes}
use Rattle.std.specs.Fmt.{digits}
use Rattle.pb_semantics.specs.Data.{null, boolean, int, text, list, rec, opaque, no_items, item, no_fields, field}
use Rattle.pb_semantics.specs.Kind.{booleans, ints, texts, lists, recs, no_slots, slot}
use Rattle.pb_language.specs.Expression.{equal, is_failed, is_changed, is_skipped, named_host, this_host, item_host, group_member, literal, path, negation, conjunction, disjunction, comparison, membership, in_batch, defined, path_status, path_or, length_of, concatenation, list_of, record_of, variable, other, no_expressions, expression, no_parts, part}
use Rattle.pb_language.specs.Book.{conditions_are, module_work, debug_work, set_fact_work, assert_work, fail_work, no_steps, task_step, block_step, flush_step, host_count, percentage, Book, Registry}
use Rattle.pb_language.specs.Builtins.{builtins}
use Rattle.pb_language.specs.Give.{object}
use Rattle.pb_language.specs.Judged.{judged}
use Rattle.pb_language.specs.Program.{Inventory}
use Rattle.pb_language.specs.Verdict.{accepted, refused}
use Rattle.pb_rows.specs.Recaps.{recaps_of}

-- random_100068:
abbrev random_100068_book : Book
random_100068_book = (record { line = 1; pattern = ((codes "all") ∷ []); gathering = (Some 2); vars = (no_parts); is_linear = true; serial = (host_count 2 ∷ []); pre_tasks = (no_steps); tasks = (block_step (record { line = 3; condition = (no_expressions); vars = (no_parts); ignore_errors = None }) (no_steps) (no_steps) (task_step (record { line = 4; work = (module_work (codes "command") (part (codes "cmd") (literal (text (codes "x"))) (no_parts))); condition = (no_expressions); loop = None; register = (Some (codes "s")); vars = (no_parts); notify = ([]); changed_when = None; failed_when = None; attempts = (Some (record { until = (expression (negation (path_status is_failed (variable (codes "s")) ([]))) (no_expressions)); retries = 3 })); ignore_errors = (Some true) }) (no_steps)) (task_step (record { line = 5; work = (set_fact_work (part (codes "y") (literal (int (pos 1))) (no_parts))); condition = (no_expressions); loop = None; register = (Some (codes "s")); vars = (part (codes "v2") (length_of (path (variable (codes "group_names")) ([]))) (no_parts)); notify = ([]); changed_when = (Some (expression (literal (boolean true)) (no_expressions))); failed_when = (Some (expression (path_status is_failed (variable (codes "s")) ([])) (no_expressions))); attempts = None; ignore_errors = None }) (task_step (record { line = 6; work = (assert_work (conditions_are (expression (conjunction (expression (comparison equal (path (other (named_host (codes "b")) (codes "y")) ([])) (literal (text (codes "a")))) (expression (comparison equal (path (variable (codes "opq")) ((codes "changed") ∷ [])) (literal (text (codes "a")))) (no_expressions)))) (expression (negation (path (variable (codes "inv")) ([]))) (no_expressions)))) (no_parts)); condition = (no_expressions); loop = None; register = None; vars = (no_parts); notify = ([]); changed_when = None; failed_when = (Some (expression (literal (boolean false)) (no_expressions))); attempts = None; ignore_errors = None }) (task_step (record { line = 7; work = (module_work (codes "command") (part (codes "cmd") (path (variable (codes "r")) ((codes "rc") ∷ [])) (no_parts))); condition = (expression (disjunction (expression (disjunction (expression (path_status is_changed (variable (codes "inventory_hostname")) ([])) (expression (path_status is_skipped (variable (codes "v1")) ((codes "stdout") ∷ [])) (no_expressions)))) (expression (disjunction (expression (path (other this_host (codes "inv")) ((codes "k") ∷ [])) (expression (path_status is_changed (other (named_host (codes "b")) (codes "y")) ([])) (no_expressions)))) (no_expressions)))) (expression (comparison equal (path (variable (codes "group_names")) ((codes "rc") ∷ [])) (literal (text (codes "a")))) (no_expressions))); loop = None; register = None; vars = (no_parts); notify = ((codes "h0") ∷ []); changed_when = None; failed_when = (Some (expression (literal (boolean false)) (no_expressions))); attempts = None; ignore_errors = None }) (no_steps))))); post_tasks = (no_steps); handlers = (record { work = (record { line = 8; work = (module_work (codes "command") (part (codes "cmd") (literal (text (codes "a"))) (no_parts))); condition = (expression (negation (path_status is_failed (variable (codes "group_names")) ([]))) (expression (conjunction (expression (path (variable (codes "y")) ((codes "stat") ∷ (codes "isdir") ∷ [])) (expression (in_batch (named_host (codes "b"))) (no_expressions)))) (no_expressions))); loop = (Some (list_of (expression (literal (text (codes "a"))) (expression (literal (text (codes "b"))) (no_expressions))))); register = (Some (codes "r")); vars = (no_parts); notify = ([]); changed_when = None; failed_when = None; attempts = None; ignore_errors = None }); name = (Some (codes "h0")); topics = ([]) } ∷ []); forces = false } ∷ [])

abbrev random_100068_inventory : Inventory
random_100068_inventory = record { hosts = (record { name = (codes "c"); variables = (field (codes "inv") (list (item (int (pos 1)) (item (int (pos 2)) (no_items)))) (no_fields)) } ∷ record { name = (codes "b"); variables = (field (codes "inv") (list (item (int (pos 1)) (item (int (pos 2)) (no_items)))) (field (codes "k") (rec (field (codes "z") opaque (no_fields))) (no_fields))) } ∷ record { name = (codes "a"); variables = (field (codes "inv") (list (item (text (codes "x")) (no_items))) (field (codes "opq") opaque (no_fields))) } ∷ []); groups = (record { name = (codes "all"); hosts = ((codes "c") ∷ (codes "b") ∷ (codes "a") ∷ []) } ∷ record { name = (codes "g"); hosts = ((codes "b") ∷ (codes "a") ∷ []) } ∷ record { name = (codes "ungrouped"); hosts = ((codes "c") ∷ []) } ∷ []) }

abbrev random_100068_registry : Registry
random_100068_registry = (builtins ++ ([]))

random_100068 : judged random_100068_registry random_100068_inventory random_100068_book ≡ refused (record { code = 2; line = 6; host = (Some (codes "c")) })
random_100068 = refl

-- random_100087_run:
abbrev random_100087_run_book : Book
random_100087_run_book = (record { line = 1; pattern = ((codes "a") ∷ []); gathering = None; vars = (no_parts); is_linear = true; serial = (host_count 2 ∷ []); pre_tasks = (no_steps); tasks = (block_step (record { line = 2; condition = (no_expressions); vars = (no_parts); ignore_errors = None }) (task_step (record { line = 3; work = (debug_work (part (codes "msg") (literal (text (codes "x"))) (no_parts))); condition = (no_expressions); loop = None; register = None; vars = (no_parts); notify = ([]); changed_when = None; failed_when = None; attempts = None; ignore_errors = None }) (task_step (record { line = 4; work = (module_work (codes "stat") (part (codes "path") (literal (text (codes "/"))) (no_parts))); condition = (no_expressions); loop = (Some (path_or (variable (codes "r3")) ((codes "stdout_lines") ∷ []) (list_of (no_expressions)))); register = (Some (codes "r2")); vars = (no_parts); notify = ((codes "h0") ∷ []); changed_when = None; failed_when = None; attempts = None; ignore_errors = None }) (no_steps))) (no_steps) (task_step (record { line = 5; work = (assert_work (conditions_are (expression (path_or (variable (codes "r3")) ((codes "skipped") ∷ []) (literal (boolean false))) (no_expressions))) (no_parts)); condition = (no_expressions); loop = (Some (list_of (expression (literal (int (pos 1))) (expression (literal (text (codes "x"))) (expression (literal (boolean true)) (no_expressions)))))); register = None; vars = (no_parts); notify = ((codes "t") ∷ []); changed_when = None; failed_when = None; attempts = None; ignore_errors = None }) (task_step (record { line = 6; work = (module_work (codes "ping") (no_parts)); condition = (no_expressions); loop = None; register = (Some (codes "r2")); vars = (no_parts); notify = ([]); changed_when = None; failed_when = None; attempts = None; ignore_errors = None }) (no_steps))) (no_steps)); post_tasks = (no_steps); handlers = (record { work = (record { line = 7; work = (debug_work (part (codes "msg") (comparison equal (path (variable (codes "i2")) ([])) (path (variable (codes "r2")) ((codes "changed") ∷ []))) (no_parts))); condition = (no_expressions); loop = (Some (path (variable (codes "ansible_play_batch")) ([]))); register = (Some (codes "r3")); vars = (no_parts); notify = ([]); changed_when = None; failed_when = None; attempts = None; ignore_errors = None }); name = (Some (codes "h0")); topics = ([]) } ∷ record { work = (record { line = 8; work = (module_work (codes "probe") (no_parts)); condition = (no_expressions); loop = None; register = None; vars = (no_parts); notify = ([]); changed_when = None; failed_when = (Some (expression (literal (boolean false)) (no_expressions))); attempts = (Some (record { until = (expression (comparison equal (path (variable (codes "inventory_hostname")) ([])) (literal (text (codes "a")))) (no_expressions)); retries = 2 })); ignore_errors = None }); name = (Some (codes "h1")); topics = ((codes "t") ∷ []) } ∷ record { work = (record { line = 9; work = (assert_work (conditions_are (expression (membership (literal (text (codes "g2"))) (path (variable (codes "group_names")) ([]))) (no_expressions))) (no_parts)); condition = (no_expressions); loop = None; register = (Some (codes "r3")); vars = (part (codes "v1") (path_or (variable (codes "r2")) ([]) (literal (text (codes "z")))) (no_parts)); notify = ([]); changed_when = None; failed_when = None; attempts = None; ignore_errors = None }); name = (Some (codes "h2")); topics = ([]) } ∷ []); forces = true } ∷ [])

abbrev random_100087_run_inventory : Inventory
random_100087_run_inventory = record { hosts = (record { name = (codes "a"); variables = (field (codes "i1") (list (item (text (codes "b")) (item (boolean false) (no_items)))) (field (codes "i2") (text (codes "a")) (field (codes "op") opaque (field (codes "s1") (int (pos 0)) (no_fields))))) } ∷ record { name = (codes "b"); variables = (field (codes "i1") (text (codes "t")) (field (codes "i2") (list (item (boolean false) (item (int (pos 3)) (no_items)))) (field (codes "op") opaque (field (codes "s1") (list (item (text (codes "b")) (item (boolean true) (no_items)))) (no_fields))))) } ∷ record { name = (codes "c"); variables = (field (codes "i1") (text ([])) (field (codes "op") opaque (field (codes "s1") (list (item (text (codes "b")) (item (boolean true) (no_items)))) (no_fields)))) } ∷ []); groups = (record { name = (codes "all"); hosts = ((codes "a") ∷ (codes "b") ∷ (codes "c") ∷ []) } ∷ record { name = (codes "g1"); hosts = ((codes "a") ∷ []) } ∷ record { name = (codes "g2"); hosts = ([]) } ∷ record { name = (codes "ungrouped"); hosts = ((codes "b") ∷ (codes "c") ∷ []) } ∷ []) }

abbrev random_100087_run_registry : Registry
random_100087_run_registry = (builtins ++ (record { name = (codes "probe"); params = (record { name = (codes "n"); kind = ints; required = false } ∷ record { name = (codes "l"); kind = (lists texts 3); required = false } ∷ []); ok = recs (slot (codes "changed") true booleans (slot (codes "deep") false (recs (slot (codes "a") true texts (slot (codes "b") false booleans (no_slots)))) (slot (codes "rows") true (lists texts 2) (slot (codes "v") false ints (no_slots))))); failure = recs (slot (codes "changed") true booleans (slot (codes "msg") true texts (slot (codes "v") false texts (slot (codes "why") true ints (no_slots))))); free = None } ∷ record { name = (codes "odd"); params = ([]); ok = recs (slot (codes "changed") true booleans (slot (codes "msg") false ints (no_slots))); failure = recs (slot (codes "changed") true booleans (slot (codes "msg") true texts (no_slots))); free = None } ∷ []))

random_100087_run : recaps_of random_100087_run_registry random_100087_run_inventory random_100087_run_book 1 (([]) ∷ ([]) ∷ ([]) ∷ []) ≡ (record { ok = 1; changed = 0; unreachable = 0; failed = 1; skipped = 1; rescued = 0; ignored = 0 } ∷ record { ok = 0; changed = 0; unreachable = 0; failed = 0; skipped = 0; rescued = 0; ignored = 0 } ∷ record { ok = 0; changed = 0; unreachable = 0; failed = 0; skipped = 0; rescued = 0; ignored = 0 } ∷ [])
unfolding digits
random_100087_run = refl

-- random_100103_run:
abbrev random_100103_run_book : Book
random_100103_run_book = (record { line = 1; pattern = ((codes "g2") ∷ []); gathering = None; vars = (no_parts); is_linear = true; serial = ([]); pre_tasks = (task_step (record { line = 2; work = (set_fact_work (part (codes "s1") (concatenation (expression (literal (text (codes "x"))) (expression (path_or (variable (codes "r3")) ((codes "failed") ∷ []) (literal (text (codes "z")))) (no_expressions)))) (part (codes "s3") (literal (int (pos 0))) (no_parts)))); condition = (no_expressions); loop = None; register = (Some (codes "r2")); vars = (no_parts); notify = ([]); changed_when = None; failed_when = None; attempts = None; ignore_errors = None }) (task_step (record { line = 3; work = (debug_work (part (codes "msg") (literal (boolean true)) (no_parts))); condition = (expression (membership (literal (text (codes "g1"))) (path (variable (codes "group_names")) ([]))) (no_expressions)); loop = None; register = (Some (codes "r2")); vars = (part (codes "v1") (list_of (expression (path (variable (codes "s1")) ([])) (expression (path (variable (codes "s1")) ([])) (no_expressions)))) (part (codes "v3") (path (other (named_host (codes "a")) (codes "r1")) ((codes "failed") ∷ [])) (no_parts))); notify = ([]); changed_when = None; failed_when = None; attempts = None; ignore_errors = None }) (block_step (record { line = 4; condition = (no_expressions); vars = (no_parts); ignore_errors = None }) (task_step (record { line = 5; work = (module_work (codes "ping") (no_parts)); condition = (no_expressions); loop = None; register = (Some (codes "r2")); vars = (no_parts); notify = ([]); changed_when = None; failed_when = None; attempts = None; ignore_errors = None }) (task_step (record { line = 6; work = (set_fact_work (part (codes "s3") (literal (int (pos 1))) (no_parts))); condition = (no_expressions); loop = (Some (path_or (variable (codes "r3")) ((codes "stdout_lines") ∷ []) (list_of (no_expressions)))); register = (Some (codes "r3")); vars = (no_parts); notify = ([]); changed_when = None; failed_when = (Some (expression (literal (boolean false)) (no_expressions))); attempts = None; ignore_errors = None }) (block_step (record { line = 7; condition = (expression (defined (variable (codes "r1")) ((codes "skipped") ∷ [])) (no_expressions)); vars = (no_parts); ignore_errors = None }) (task_step (record { line = 8; work = (set_fact_work (part (codes "s3") (literal (int (pos 1))) (no_parts))); condition = (expression (defined (variable (codes "r3")) ((codes "changed") ∷ [])) (no_expressions)); loop = None; register = (Some (codes "r1")); vars = (no_parts); notify = ([]); changed_when = None; failed_when = None; attempts = None; ignore_errors = None }) (task_step (record { line = 9; work = (module_work (codes "setup") (no_parts)); condition = (no_expressions); loop = None; register = (Some (codes "r2")); vars = (no_parts); notify = ([]); changed_when = None; failed_when = None; attempts = None; ignore_errors = None }) (block_step (record { line = 10; condition = (no_expressions); vars = (no_parts); ignore_errors = (Some true) }) (task_step (record { line = 11; work = (module_work (codes "probe") (no_parts)); condition = (expression (disjunction (expression (negation (comparison equal (path (variable (codes "r2")) ((codes "results") ∷ [])) (list_of (expression (literal (int (pos 1))) (no_expressions))))) (expression (negation (negation (path_status is_failed (variable (codes "r1")) ([])))) (no_expressions)))) (no_expressions)); loop = None; register = (Some (codes "r1")); vars = (no_parts); notify = ([]); changed_when = None; failed_when = None; attempts = None; ignore_errors = None }) (no_steps)) (task_step (record { line = 12; work = (set_fact_work (part (codes "s2") (path (variable (codes "r1")) ((codes "results") ∷ [])) (no_parts))); condition = (expression (path_status is_failed (variable (codes "r1")) ([])) (no_expressions)); loop = None; register = (Some (codes "r2")); vars = (no_parts); notify = ([]); changed_when = None; failed_when = None; attempts = None; ignore_errors = None }) (task_step (record { line = 13; work = (module_work (codes "command") (part (codes "cmd") (literal (text (codes "x"))) (no_parts))); condition = (expression (negation (comparison equal (path (variable (codes "r1")) ([])) (literal (boolean true)))) (no_expressions)); loop = None; register = None; vars = (part (codes "v1") (list_of (expression (path (variable (codes "r3")) ((codes "results") ∷ [])) (expression (literal (int (pos 1))) (no_expressions)))) (part (codes "v2") (path (variable (codes "r2")) ((codes "changed") ∷ [])) (no_parts))); notify = ([]); changed_when = None; failed_when = None; attempts = (Some (record { until = (expression (literal (boolean true)) (no_expressions)); retries = 3 })); ignore_errors = None }) (task_step (record { line = 14; work = (module_work (codes "ping") (no_parts)); condition = (no_expressions); loop = None; register = None; vars = (no_parts); notify = ([]); changed_when = (Some (expression (literal (boolean false)) (no_expressions))); failed_when = (Some (expression (comparison equal (path (variable (codes "inventory_hostname")) ([])) (literal (text (codes "a")))) (no_expressions))); attempts = None; ignore_errors = None }) (no_steps)))) (no_steps) (no_steps)))) (block_step (record { line = 15; condition = (no_expressions); vars = (no_parts); ignore_errors = None }) (task_step (record { line = 16; work = (module_work (codes "probe") (no_parts)); condition = (expression (membership (literal (text (codes "g2"))) (path (variable (codes "group_names")) ([]))) (no_expressions)); loop = None; register = (Some (codes "r3")); vars = (no_parts); notify = ([]); changed_when = None; failed_when = None; attempts = None; ignore_errors = None }) (task_step (record { line = 17; work = (debug_work (part (codes "msg") (concatenation (expression (literal (text (codes "x"))) (expression (path (variable (codes "r3")) ((codes "rows") ∷ [])) (no_expressions)))) (no_parts))); condition = (expression (negation (defined (other (named_host (codes "b")) (codes "r3")) ((codes "why") ∷ []))) (expression (path_status is_failed (variable (codes "r3")) ([])) (no_expressions))); loop = None; register = (Some (codes "r1")); vars = (part (codes "v1") (path (variable (codes "ansible_failed_result")) ((codes "msg") ∷ [])) (part (codes "v2") (comparison equal (path (variable (codes "r1")) ([])) (path (variable (codes "ansible_failed_result")) ((codes "msg") ∷ []))) (no_parts))); notify = ([]); changed_when = None; failed_when = None; attempts = None; ignore_errors = None }) (task_step (record { line = 18; work = (module_work (codes "command") (part (codes "cmd") (literal (text (codes "x"))) (no_parts))); condition = (expression (comparison equal (path (other (named_host (codes "a")) (codes "r3")) ((codes "rows") ∷ [])) (literal (int (pos 1)))) (no_expressions)); loop = None; register = None; vars = (no_parts); notify = ([]); changed_when = None; failed_when = None; attempts = None; ignore_errors = None }) (no_steps)))) (no_steps) (no_steps) (no_steps)) (no_steps) (no_steps)))) (task_step (record { line = 19; work = (debug_work (part (codes "msg") (comparison equal (path (variable (codes "s1")) ([])) (path (variable (codes "s2")) ([]))) (no_parts))); condition = (no_expressions); loop = None; register = (Some (codes "r2")); vars = (no_parts); notify = ([]); changed_when = None; failed_when = None; attempts = None; ignore_errors = None }) (no_steps)) (block_step (record { line = 20; condition = (no_expressions); vars = (no_parts); ignore_errors = None }) (task_step (record { line = 21; work = (module_work (codes "ping") (no_parts)); condition = (no_expressions); loop = (Some (path (variable (codes "ansible_play_batch")) ([]))); register = (Some (codes "r1")); vars = (no_parts); notify = ([]); changed_when = None; failed_when = None; attempts = None; ignore_errors = None }) (no_steps)) (task_step (record { line = 22; work = (module_work (codes "command") (part (codes "cmd") (concatenation (expression (literal (text (codes "x "))) (expression (list_of (expression (path (variable (codes "ansible_os_family")) ([])) (expression (path (variable (codes "ansible_os_family")) ([])) (no_expressions)))) (no_expressions)))) (no_parts))); condition = (no_expressions); loop = None; register = None; vars = (no_parts); notify = ([]); changed_when = None; failed_when = None; attempts = None; ignore_errors = None }) (no_steps)) (no_steps) (block_step (record { line = 23; condition = (no_expressions); vars = (no_parts); ignore_errors = None }) (task_step (record { line = 24; work = (module_work (codes "probe") (no_parts)); condition = (no_expressions); loop = None; register = None; vars = (no_parts); notify = ([]); changed_when = None; failed_when = None; attempts = None; ignore_errors = None }) (task_step (record { line = 25; work = (module_work (codes "stat") (part (codes "path") (literal (text (codes "/"))) (no_parts))); condition = (no_expressions); loop = None; register = (Some (codes "r2")); vars = (no_parts); notify = ([]); changed_when = None; failed_when = None; attempts = None; ignore_errors = None }) (no_steps))) (task_step (record { line = 26; work = (debug_work (part (codes "msg") (path_or (variable (codes "s1")) ((codes "rc") ∷ []) (list_of (no_expressions))) (no_parts))); condition = (no_expressions); loop = (Some (path_or (variable (codes "r2")) ((codes "results") ∷ []) (list_of (no_expressions)))); register = None; vars = (no_parts); notify = ([]); changed_when = None; failed_when = (Some (expression (literal (boolean false)) (no_expressions))); attempts = None; ignore_errors = None }) (task_step (record { line = 27; work = (debug_work (part (codes "msg") (path_or (variable (codes "r3")) ((codes "changed") ∷ []) (list_of (no_expressions))) (no_parts))); condition = (no_expressions); loop = (Some (path_or (variable (codes "r1")) ((codes "results") ∷ []) (list_of (no_expressions)))); register = None; vars = (no_parts); notify = ([]); changed_when = None; failed_when = None; attempts = None; ignore_errors = None }) (no_steps))) (task_step (record { line = 28; work = (module_work (codes "stat") (part (codes "path") (literal (text (codes "/"))) (no_parts))); condition = (no_expressions); loop = None; register = (Some (codes "r2")); vars = (no_parts); notify = ([]); changed_when = (Some (expression (literal (boolean true)) (no_expressions))); failed_when = None; attempts = None; ignore_errors = (Some true) }) (no_steps)) (no_steps))) (no_steps)))); tasks = (task_step (record { line = 29; work = (module_work (codes "setup") (no_parts)); condition = (expression (path_or (variable (codes "s1")) ((codes "rc") ∷ []) (literal (boolean false))) (no_expressions)); loop = None; register = (Some (codes "r2")); vars = (part (codes "v1") (path (other (named_host (codes "b")) (codes "s3")) ((codes "rc") ∷ [])) (no_parts)); notify = ([]); changed_when = None; failed_when = (Some (expression (comparison equal (path (variable (codes "r2")) ((codes "ansible_facts") ∷ (codes "ansible_hostname") ∷ [])) (literal (int (pos 1)))) (no_expressions))); attempts = None; ignore_errors = None }) (no_steps)); post_tasks = (flush_step 30 (flush_step 31 (task_step (record { line = 32; work = (module_work (codes "stat") (part (codes "path") (literal (text (codes "/"))) (no_parts))); condition = (no_expressions); loop = None; register = (Some (codes "r3")); vars = (no_parts); notify = ([]); changed_when = None; failed_when = (Some (expression (literal (boolean true)) (no_expressions))); attempts = None; ignore_errors = None }) (task_step (record { line = 33; work = (set_fact_work (part (codes "s3") (list_of (expression (concatenation (expression (literal (text (codes "x"))) (expression (comparison equal (path (variable (codes "r3")) ((codes "changed") ∷ [])) (path (variable (codes "r3")) ((codes "stat") ∷ (codes "exists") ∷ []))) (no_expressions)))) (no_expressions))) (no_parts))); condition = (no_expressions); loop = None; register = None; vars = (no_parts); notify = ([]); changed_when = None; failed_when = None; attempts = None; ignore_errors = None }) (no_steps))))); handlers = ([]); forces = false } ∷ [])

abbrev random_100103_run_inventory : Inventory
random_100103_run_inventory = record { hosts = (record { name = (codes "a"); variables = (field (codes "s1") (text (codes "a")) (no_fields)) } ∷ record { name = (codes "b"); variables = (field (codes "op") opaque (field (codes "s1") (text (codes "a")) (no_fields))) } ∷ []); groups = (record { name = (codes "all"); hosts = ((codes "a") ∷ (codes "b") ∷ []) } ∷ record { name = (codes "g2"); hosts = ([]) } ∷ record { name = (codes "ungrouped"); hosts = ((codes "a") ∷ (codes "b") ∷ []) } ∷ []) }

abbrev random_100103_run_registry : Registry
random_100103_run_registry = (builtins ++ (record { name = (codes "probe"); params = (record { name = (codes "n"); kind = ints; required = false } ∷ record { name = (codes "l"); kind = (lists texts 3); required = false } ∷ []); ok = recs (slot (codes "changed") true booleans (slot (codes "deep") false (recs (slot (codes "a") true texts (slot (codes "b") false booleans (no_slots)))) (slot (codes "rows") true (lists texts 2) (slot (codes "v") false ints (no_slots))))); failure = recs (slot (codes "changed") true booleans (slot (codes "msg") true texts (slot (codes "v") false texts (slot (codes "why") true ints (no_slots))))); free = None } ∷ record { name = (codes "odd"); params = ([]); ok = recs (slot (codes "changed") true booleans (slot (codes "msg") false ints (no_slots))); failure = recs (slot (codes "changed") true booleans (slot (codes "msg") true texts (no_slots))); free = None } ∷ []))

random_100103_run : recaps_of random_100103_run_registry random_100103_run_inventory random_100103_run_book 1 (([]) ∷ ([]) ∷ []) ≡ (record { ok = 0; changed = 0; unreachable = 0; failed = 0; skipped = 0; rescued = 0; ignored = 0 } ∷ record { ok = 0; changed = 0; unreachable = 0; failed = 0; skipped = 0; rescued = 0; ignored = 0 } ∷ [])
unfolding digits
random_100103_run = refl

-- random_100131_run:
abbrev random_100131_run_book : Book
random_100131_run_book = (record { line = 1; pattern = ((codes "all") ∷ []); gathering = None; vars = (no_parts); is_linear = true; serial = ([]); pre_tasks = (task_step (record { line = 2; work = (module_work (codes "probe") (no_parts)); condition = (no_expressions); loop = None; register = (Some (codes "r1")); vars = (no_parts); notify = ([]); changed_when = None; failed_when = None; attempts = None; ignore_errors = None }) (task_step (record { line = 3; work = (module_work (codes "command") (part (codes "cmd") (literal (text (codes "x"))) (no_parts))); condition = (no_expressions); loop = None; register = (Some (codes "r1")); vars = (no_parts); notify = ((codes "h1") ∷ []); changed_when = None; failed_when = None; attempts = None; ignore_errors = (Some true) }) (no_steps))); tasks = (task_step (record { line = 4; work = (assert_work (conditions_are (expression (conjunction (expression (comparison equal (path (variable (codes "inventory_hostname")) ([])) (literal (text (codes "a")))) (expression (defined (variable (codes "s2")) ([])) (no_expressions)))) (no_expressions))) (no_parts)); condition = (expression (comparison equal (path (variable (codes "inventory_hostname")) ([])) (literal (text (codes "a")))) (no_expressions)); loop = None; register = None; vars = (no_parts); notify = ((codes "h0") ∷ []); changed_when = None; failed_when = (Some (expression (literal (boolean true)) (no_expressions))); attempts = None; ignore_errors = None }) (task_step (record { line = 5; work = (module_work (codes "ping") (no_parts)); condition = (no_expressions); loop = None; register = None; vars = (no_parts); notify = ((codes "h1") ∷ []); changed_when = None; failed_when = None; attempts = None; ignore_errors = None }) (task_step (record { line = 6; work = (set_fact_work (part (codes "s1") (literal (text (codes "a"))) (no_parts))); condition = (expression (negation (comparison equal (path (variable (codes "inventory_hostname")) ([])) (literal (text (codes "a"))))) (expression (defined (variable (codes "r3")) ([])) (expression (negation (path_status is_failed (variable (codes "r3")) ([]))) (no_expressions)))); loop = None; register = (Some (codes "r3")); vars = (no_parts); notify = ([]); changed_when = None; failed_when = None; attempts = None; ignore_errors = None }) (no_steps)))); post_tasks = (flush_step 7 (task_step (record { line = 8; work = (module_work (codes "setup") (no_parts)); condition = (no_expressions); loop = None; register = (Some (codes "r3")); vars = (no_parts); notify = ((codes "h0") ∷ []); changed_when = None; failed_when = None; attempts = None; ignore_errors = None }) (no_steps))); handlers = (record { work = (record { line = 9; work = (debug_work (part (codes "msg") (literal (text (codes "x"))) (no_parts))); condition = (no_expressions); loop = None; register = (Some (codes "r3")); vars = (part (codes "v2") (path (other (named_host (codes "a")) (codes "i1")) ((codes "f") ∷ [])) (part (codes "v3") (path (variable (codes "s1")) ((codes "f") ∷ [])) (no_parts))); notify = ([]); changed_when = None; failed_when = None; attempts = None; ignore_errors = None }); name = (Some (codes "h0")); topics = ([]) } ∷ record { work = (record { line = 10; work = (assert_work (conditions_are (expression (negation (comparison equal (path (variable (codes "groups")) ((codes "all") ∷ [])) (literal (text (codes "a"))))) (no_expressions))) (no_parts)); condition = (no_expressions); loop = None; register = (Some (codes "r2")); vars = (no_parts); notify = ([]); changed_when = None; failed_when = (Some (expression (path_status is_failed (variable (codes "r2")) ([])) (no_expressions))); attempts = None; ignore_errors = None }); name = (Some (codes "h1")); topics = ((codes "t") ∷ []) } ∷ []); forces = false } ∷ record { line = 11; pattern = ((codes "a") ∷ (codes "all") ∷ []); gathering = None; vars = (part (codes "v2") (path (other (named_host (codes "a")) (codes "s1")) ([])) (no_parts)); is_linear = false; serial = (host_count 1 ∷ host_count 2 ∷ []); pre_tasks = (no_steps); tasks = (task_step (record { line = 12; work = (module_work (codes "ping") (no_parts)); condition = (no_expressions); loop = None; register = None; vars = (no_parts); notify = ([]); changed_when = None; failed_when = None; attempts = None; ignore_errors = (Some true) }) (task_step (record { line = 13; work = (module_work (codes "command") (part (codes "cmd") (literal (text (codes "x"))) (no_parts))); condition = (no_expressions); loop = None; register = (Some (codes "r1")); vars = (no_parts); notify = ((codes "t") ∷ []); changed_when = None; failed_when = None; attempts = None; ignore_errors = None }) (task_step (record { line = 14; work = (module_work (codes "command") (part (codes "cmd") (literal (text (codes "x"))) (no_parts))); condition = (expression (negation (in_batch (named_host (codes "a")))) (no_expressions)); loop = None; register = (Some (codes "r3")); vars = (no_parts); notify = ((codes "h0") ∷ []); changed_when = None; failed_when = None; attempts = (Some (record { until = (expression (literal (boolean true)) (no_expressions)); retries = 1 })); ignore_errors = None }) (no_steps)))); post_tasks = (no_steps); handlers = (record { work = (record { line = 15; work = (module_work (codes "command") (part (codes "cmd") (literal (text (codes "x"))) (no_parts))); condition = (expression (negation (path_status is_failed (variable (codes "r3")) ([]))) (expression (in_batch item_host) (no_expressions))); loop = (Some (path (variable (codes "groups")) ((codes "all") ∷ []))); register = (Some (codes "r1")); vars = (no_parts); notify = ((codes "h1") ∷ []); changed_when = None; failed_when = (Some (expression (comparison equal (path (variable (codes "inventory_hostname")) ([])) (literal (text (codes "a")))) (no_expressions))); attempts = None; ignore_errors = None }); name = (Some (codes "h0")); topics = ((codes "t") ∷ []) } ∷ record { work = (record { line = 16; work = (module_work (codes "command") (part (codes "cmd") (literal (text (codes "x"))) (no_parts))); condition = (no_expressions); loop = None; register = (Some (codes "r3")); vars = (no_parts); notify = ([]); changed_when = None; failed_when = None; attempts = None; ignore_errors = None }); name = (Some (codes "h1")); topics = ((codes "t") ∷ []) } ∷ []); forces = true } ∷ [])

abbrev random_100131_run_inventory : Inventory
random_100131_run_inventory = record { hosts = (record { name = (codes "a"); variables = (field (codes "i1") (text (codes "a")) (field (codes "i2") (list (item (text (codes "t")) (no_items))) (field (codes "op") opaque (field (codes "s1") (int (pos 1)) (no_fields))))) } ∷ []); groups = (record { name = (codes "all"); hosts = ((codes "a") ∷ []) } ∷ record { name = (codes "g2"); hosts = ((codes "a") ∷ []) } ∷ record { name = (codes "ungrouped"); hosts = ([]) } ∷ []) }

abbrev random_100131_run_registry : Registry
random_100131_run_registry = (builtins ++ (record { name = (codes "probe"); params = (record { name = (codes "n"); kind = ints; required = false } ∷ record { name = (codes "l"); kind = (lists texts 3); required = false } ∷ []); ok = recs (slot (codes "changed") true booleans (slot (codes "deep") false (recs (slot (codes "a") true texts (slot (codes "b") false booleans (no_slots)))) (slot (codes "rows") true (lists texts 2) (slot (codes "v") false ints (no_slots))))); failure = recs (slot (codes "changed") true booleans (slot (codes "msg") true texts (slot (codes "v") false texts (slot (codes "why") true ints (no_slots))))); free = None } ∷ record { name = (codes "odd"); params = ([]); ok = recs (slot (codes "changed") true booleans (slot (codes "msg") false ints (no_slots))); failure = recs (slot (codes "changed") true booleans (slot (codes "msg") true texts (no_slots))); free = None } ∷ []))

random_100131_run : recaps_of random_100131_run_registry random_100131_run_inventory random_100131_run_book 1 ((object (rec (field (codes "changed") (boolean false) (field (codes "deep") (rec (field (codes "a") (text (codes "a")) (no_fields))) (field (codes "rows") (list (no_items)) (field (codes "v") (int (pos 2)) (no_fields)))))) ∷ object (rec (field (codes "changed") (boolean false) (field (codes "rc") (int (negsuc 6)) (field (codes "stderr") (text (codes "a")) (field (codes "stderr_lines") (list (item (text (codes "b")) (item (text (codes "a")) (item (text (codes "a")) (no_items))))) (field (codes "stdout") (text (codes "x")) (field (codes "stdout_lines") (list (item (text ([])) (no_items))) (no_fields)))))))) ∷ []) ∷ []) ≡ (record { ok = 2; changed = 0; unreachable = 0; failed = 1; skipped = 0; rescued = 0; ignored = 0 } ∷ [])
unfolding digits
random_100131_run = refl

-- random_100142:
abbrev random_100142_book : Book
random_100142_book = (record { line = 1; pattern = ((codes "g") ∷ []); gathering = None; vars = (no_parts); is_linear = false; serial = (percentage 50 ∷ []); pre_tasks = (no_steps); tasks = (task_step (record { line = 2; work = (assert_work (conditions_are (expression (defined (variable (codes "group_names")) ((codes "results") ∷ [])) (no_expressions))) (no_parts)); condition = (no_expressions); loop = None; register = None; vars = (no_parts); notify = ([]); changed_when = None; failed_when = None; attempts = None; ignore_errors = None }) (no_steps)); post_tasks = (no_steps); handlers = ([]); forces = false } ∷ [])

abbrev random_100142_inventory : Inventory
random_100142_inventory = record { hosts = (record { name = (codes "c"); variables = (field (codes "inv") (list (item (int (pos 1)) (item (int (pos 2)) (no_items)))) (no_fields)) } ∷ record { name = (codes "b"); variables = (field (codes "inv") (list (item (int (pos 1)) (item (int (pos 2)) (no_items)))) (field (codes "k") (rec (field (codes "z") opaque (no_fields))) (no_fields))) } ∷ record { name = (codes "a"); variables = (field (codes "inv") (list (item (text (codes "x")) (no_items))) (field (codes "opq") opaque (no_fields))) } ∷ []); groups = (record { name = (codes "all"); hosts = ((codes "c") ∷ (codes "b") ∷ (codes "a") ∷ []) } ∷ record { name = (codes "g"); hosts = ((codes "b") ∷ (codes "a") ∷ []) } ∷ record { name = (codes "ungrouped"); hosts = ((codes "c") ∷ []) } ∷ []) }

abbrev random_100142_registry : Registry
random_100142_registry = (builtins ++ ([]))

random_100142 : judged random_100142_registry random_100142_inventory random_100142_book ≡ accepted 0
random_100142 = refl

-- random_100143_run:
abbrev random_100143_run_book : Book
random_100143_run_book = (record { line = 1; pattern = ((codes "c") ∷ []); gathering = None; vars = (no_parts); is_linear = true; serial = (percentage 50 ∷ []); pre_tasks = (no_steps); tasks = (task_step (record { line = 2; work = (module_work (codes "command") (part (codes "cmd") (literal (text (codes "x"))) (no_parts))); condition = (no_expressions); loop = None; register = None; vars = (no_parts); notify = ([]); changed_when = None; failed_when = None; attempts = None; ignore_errors = None }) (no_steps)); post_tasks = (task_step (record { line = 3; work = (module_work (codes "probe") (no_parts)); condition = (no_expressions); loop = None; register = (Some (codes "r2")); vars = (no_parts); notify = ([]); changed_when = None; failed_when = None; attempts = None; ignore_errors = None }) (flush_step 4 (task_step (record { line = 5; work = (module_work (codes "ping") (no_parts)); condition = (no_expressions); loop = None; register = None; vars = (no_parts); notify = ([]); changed_when = None; failed_when = None; attempts = None; ignore_errors = (Some false) }) (task_step (record { line = 6; work = (debug_work (part (codes "msg") (path_or (variable (codes "i1")) ([]) (literal (text (codes "z")))) (no_parts))); condition = (no_expressions); loop = None; register = (Some (codes "r3")); vars = (no_parts); notify = ([]); changed_when = None; failed_when = (Some (expression (path_status is_failed (variable (codes "r3")) ([])) (no_expressions))); attempts = None; ignore_errors = None }) (no_steps))))); handlers = (record { work = (record { line = 7; work = (debug_work (part (codes "msg") (literal (text (codes "x"))) (no_parts))); condition = (no_expressions); loop = (Some (list_of (expression (literal (boolean true)) (no_expressions)))); register = (Some (codes "r2")); vars = (no_parts); notify = ([]); changed_when = None; failed_when = None; attempts = None; ignore_errors = None }); name = (Some (codes "h0")); topics = ((codes "t") ∷ []) } ∷ []); forces = false } ∷ record { line = 8; pattern = ((codes "all") ∷ []); gathering = None; vars = (part (codes "v1") (literal (int (pos 1))) (part (codes "v2") (literal (boolean true)) (part (codes "v3") (literal (text (codes "b"))) (no_parts)))); is_linear = true; serial = ([]); pre_tasks = (no_steps); tasks = (task_step (record { line = 9; work = (module_work (codes "stat") (part (codes "path") (literal (text (codes "/"))) (no_parts))); condition = (no_expressions); loop = None; register = (Some (codes "r1")); vars = (no_parts); notify = ([]); changed_when = None; failed_when = None; attempts = None; ignore_errors = (Some true) }) (flush_step 10 (no_steps))); post_tasks = (task_step (record { line = 11; work = (module_work (codes "command") (part (codes "cmd") (literal (text (codes "x"))) (no_parts))); condition = (no_expressions); loop = None; register = (Some (codes "r3")); vars = (no_parts); notify = ([]); changed_when = None; failed_when = None; attempts = (Some (record { until = (expression (comparison equal (path (variable (codes "inventory_hostname")) ([])) (literal (text (codes "a")))) (no_expressions)); retries = 3 })); ignore_errors = None }) (task_step (record { line = 12; work = (module_work (codes "ping") (no_parts)); condition = (no_expressions); loop = None; register = None; vars = (no_parts); notify = ([]); changed_when = None; failed_when = None; attempts = None; ignore_errors = None }) (task_step (record { line = 13; work = (module_work (codes "command") (part (codes "cmd") (literal (text (codes "x"))) (no_parts))); condition = (no_expressions); loop = None; register = (Some (codes "r3")); vars = (no_parts); notify = ([]); changed_when = (Some (expression (comparison equal (path (variable (codes "inventory_hostname")) ([])) (literal (text (codes "a")))) (no_expressions))); failed_when = None; attempts = None; ignore_errors = None }) (task_step (record { line = 14; work = (module_work (codes "probe") (no_parts)); condition = (expression (negation (defined (variable (codes "r3")) ((codes "results") ∷ []))) (expression (in_batch item_host) (no_expressions))); loop = (Some (path (variable (codes "ansible_play_batch")) ([]))); register = None; vars = (part (codes "v2") (length_of (path (other (named_host (codes "b")) (codes "r1")) ((codes "changed") ∷ []))) (part (codes "v3") (path (other item_host (codes "s1")) ([])) (no_parts))); notify = ([]); changed_when = None; failed_when = None; attempts = None; ignore_errors = None }) (no_steps))))); handlers = ([]); forces = false } ∷ [])

abbrev random_100143_run_inventory : Inventory
random_100143_run_inventory = record { hosts = (record { name = (codes "a"); variables = (field (codes "i1") (list (no_items)) (field (codes "i2") (int (negsuc 0)) (field (codes "op") opaque (no_fields)))) } ∷ record { name = (codes "b"); variables = (field (codes "i1") (text ([])) (field (codes "i2") (int (negsuc 0)) (field (codes "op") opaque (no_fields)))) } ∷ record { name = (codes "c"); variables = (field (codes "i1") (text (codes "t")) (field (codes "i2") (int (negsuc 0)) (field (codes "op") opaque (field (codes "s1") (list (no_items)) (no_fields))))) } ∷ record { name = (codes "d"); variables = (field (codes "i2") (text (codes "t")) (field (codes "op") opaque (field (codes "s1") (rec (field (codes "f") (list (item (boolean true) (no_items))) (no_fields))) (no_fields)))) } ∷ []); groups = (record { name = (codes "all"); hosts = ((codes "a") ∷ (codes "b") ∷ (codes "c") ∷ (codes "d") ∷ []) } ∷ record { name = (codes "g2"); hosts = ((codes "c") ∷ []) } ∷ record { name = (codes "ungrouped"); hosts = ((codes "a") ∷ (codes "b") ∷ (codes "d") ∷ []) } ∷ []) }

abbrev random_100143_run_registry : Registry
random_100143_run_registry = (builtins ++ (record { name = (codes "probe"); params = (record { name = (codes "n"); kind = ints; required = false } ∷ record { name = (codes "l"); kind = (lists texts 3); required = false } ∷ []); ok = recs (slot (codes "changed") true booleans (slot (codes "deep") false (recs (slot (codes "a") true texts (slot (codes "b") false booleans (no_slots)))) (slot (codes "rows") true (lists texts 2) (slot (codes "v") false ints (no_slots))))); failure = recs (slot (codes "changed") true booleans (slot (codes "msg") true texts (slot (codes "v") false texts (slot (codes "why") true ints (no_slots))))); free = None } ∷ record { name = (codes "odd"); params = ([]); ok = recs (slot (codes "changed") true booleans (slot (codes "msg") false ints (no_slots))); failure = recs (slot (codes "changed") true booleans (slot (codes "msg") true texts (no_slots))); free = None } ∷ []))

random_100143_run : recaps_of random_100143_run_registry random_100143_run_inventory random_100143_run_book 1 (([]) ∷ ([]) ∷ (object (rec (field (codes "changed") (boolean true) (field (codes "extra") (rec (field (codes "a") (int (pos 1)) (no_fields))) (field (codes "failed") (boolean true) (field (codes "msg") (text (codes "a")) (field (codes "rc") (int (pos 0)) (field (codes "stderr") (text (codes "a")) (field (codes "stderr_lines") (list (no_items)) (field (codes "stdout") (text (codes "c")) (field (codes "stdout_lines") (list (no_items)) (no_fields))))))))))) ∷ []) ∷ ([]) ∷ []) ≡ (record { ok = 0; changed = 0; unreachable = 0; failed = 0; skipped = 0; rescued = 0; ignored = 0 } ∷ record { ok = 0; changed = 0; unreachable = 0; failed = 0; skipped = 0; rescued = 0; ignored = 0 } ∷ record { ok = 0; changed = 0; unreachable = 0; failed = 1; skipped = 0; rescued = 0; ignored = 0 } ∷ record { ok = 0; changed = 0; unreachable = 0; failed = 0; skipped = 0; rescued = 0; ignored = 0 } ∷ [])
unfolding digits
random_100143_run = refl

-- random_100146_run:
abbrev random_100146_run_book : Book
random_100146_run_book = (record { line = 1; pattern = ((codes "b") ∷ (codes "a") ∷ []); gathering = None; vars = (no_parts); is_linear = true; serial = (host_count 1 ∷ host_count 2 ∷ []); pre_tasks = (no_steps); tasks = (task_step (record { line = 2; work = (set_fact_work (part (codes "y") (path_or (variable (codes "ansible_facts")) ((codes "k") ∷ []) (list_of (no_expressions))) (no_parts))); condition = (no_expressions); loop = None; register = (Some (codes "s")); vars = (no_parts); notify = ([]); changed_when = None; failed_when = None; attempts = None; ignore_errors = (Some true) }) (no_steps)); post_tasks = (no_steps); handlers = ([]); forces = false } ∷ [])

abbrev random_100146_run_inventory : Inventory
random_100146_run_inventory = record { hosts = (record { name = (codes "c"); variables = (field (codes "inv") (list (item (int (pos 1)) (item (int (pos 2)) (no_items)))) (no_fields)) } ∷ record { name = (codes "b"); variables = (field (codes "inv") (list (item (int (pos 1)) (item (int (pos 2)) (no_items)))) (field (codes "k") (rec (field (codes "z") opaque (no_fields))) (no_fields))) } ∷ record { name = (codes "a"); variables = (field (codes "inv") (list (item (text (codes "x")) (no_items))) (field (codes "opq") opaque (no_fields))) } ∷ []); groups = (record { name = (codes "all"); hosts = ((codes "c") ∷ (codes "b") ∷ (codes "a") ∷ []) } ∷ record { name = (codes "g"); hosts = ((codes "b") ∷ (codes "a") ∷ []) } ∷ record { name = (codes "ungrouped"); hosts = ((codes "c") ∷ []) } ∷ []) }

abbrev random_100146_run_registry : Registry
random_100146_run_registry = (builtins ++ ([]))

random_100146_run : recaps_of random_100146_run_registry random_100146_run_inventory random_100146_run_book 1 (([]) ∷ ([]) ∷ ([]) ∷ []) ≡ (record { ok = 0; changed = 0; unreachable = 0; failed = 0; skipped = 0; rescued = 0; ignored = 0 } ∷ record { ok = 1; changed = 0; unreachable = 0; failed = 0; skipped = 0; rescued = 0; ignored = 0 } ∷ record { ok = 1; changed = 0; unreachable = 0; failed = 0; skipped = 0; rescued = 0; ignored = 0 } ∷ [])
unfolding digits
random_100146_run = refl

-- random_100147_run:
abbrev random_100147_run_book : Book
random_100147_run_book = (record { line = 1; pattern = ((codes "all") ∷ []); gathering = None; vars = (no_parts); is_linear = true; serial = ([]); pre_tasks = (no_steps); tasks = (block_step (record { line = 2; condition = (expression (negation (defined (variable (codes "ansible_play_batch")) ([]))) (no_expressions)); vars = (no_parts); ignore_errors = None }) (task_step (record { line = 3; work = (debug_work (part (codes "msg") (literal (text (codes "x"))) (no_parts))); condition = (expression (defined (variable (codes "r3")) ((codes "changed") ∷ [])) (no_expressions)); loop = None; register = None; vars = (no_parts); notify = ([]); changed_when = None; failed_when = None; attempts = None; ignore_errors = None }) (no_steps)) (task_step (record { line = 4; work = (set_fact_work (part (codes "s2") (literal (int (pos 2))) (no_parts))); condition = (expression (comparison equal (path (variable (codes "r3")) ([])) (list_of (expression (literal (int (pos 1))) (no_expressions)))) (expression (negation (path_status is_failed (variable (codes "r1")) ([]))) (no_expressions))); loop = None; register = (Some (codes "r2")); vars = (no_parts); notify = ([]); changed_when = None; failed_when = None; attempts = None; ignore_errors = None }) (block_step (record { line = 5; condition = (expression (path_or (variable (codes "r3")) ((codes "failed") ∷ []) (literal (boolean false))) (no_expressions)); vars = (no_parts); ignore_errors = None }) (block_step (record { line = 6; condition = (no_expressions); vars = (no_parts); ignore_errors = None }) (task_step (record { line = 7; work = (fail_work (no_parts)); condition = (no_expressions); loop = None; register = None; vars = (no_parts); notify = ([]); changed_when = None; failed_when = None; attempts = None; ignore_errors = None }) (task_step (record { line = 8; work = (module_work (codes "stat") (part (codes "path") (literal (text (codes "/"))) (no_parts))); condition = (no_expressions); loop = None; register = None; vars = (no_parts); notify = ([]); changed_when = (Some (expression (comparison equal (path (variable (codes "inventory_hostname")) ([])) (literal (text (codes "a")))) (no_expressions))); failed_when = (Some (expression (comparison equal (path (variable (codes "inventory_hostname")) ([])) (literal (text (codes "a")))) (no_expressions))); attempts = None; ignore_errors = None }) (no_steps))) (task_step (record { line = 9; work = (module_work (codes "command") (part (codes "cmd") (literal (text (codes "x"))) (no_parts))); condition = (expression (disjunction (expression (membership (literal (text (codes "g1"))) (path (variable (codes "group_names")) ([]))) (expression (defined (other (named_host (codes "d")) (codes "i2")) ([])) (no_expressions)))) (no_expressions)); loop = (Some (path (variable (codes "groups")) ((codes "all") ∷ []))); register = (Some (codes "r3")); vars = (no_parts); notify = ([]); changed_when = (Some (expression (comparison equal (path (variable (codes "r3")) ((codes "stderr") ∷ [])) (literal (int (pos 1)))) (no_expressions))); failed_when = None; attempts = None; ignore_errors = None }) (task_step (record { line = 10; work = (set_fact_work (part (codes "s1") (concatenation (expression (literal (text (codes "x"))) (expression (path (variable (codes "ansible_play_batch")) ([])) (no_expressions)))) (no_parts))); condition = (no_expressions); loop = None; register = None; vars = (part (codes "v3") (literal null) (no_parts)); notify = ([]); changed_when = None; failed_when = None; attempts = None; ignore_errors = None }) (task_step (record { line = 11; work = (module_work (codes "command") (part (codes "cmd") (literal (text (codes "x"))) (no_parts))); condition = (no_expressions); loop = None; register = None; vars = (part (codes "v1") (path (other (group_member (codes "all") 0) (codes "r1")) ((codes "failed") ∷ [])) (part (codes "v2") (concatenation (expression (literal (text (codes "x"))) (expression (path (other (named_host (codes "a")) (codes "r2")) ((codes "changed") ∷ [])) (no_expressions)))) (no_parts))); notify = ([]); changed_when = None; failed_when = None; attempts = None; ignore_errors = None }) (no_steps)))) (no_steps) (block_step (record { line = 12; condition = (no_expressions); vars = (no_parts); ignore_errors = None }) (no_steps) (no_steps) (no_steps) (block_step (record { line = 13; condition = (no_expressions); vars = (no_parts); ignore_errors = None }) (task_step (record { line = 14; work = (set_fact_work (part (codes "s2") (literal (boolean false)) (part (codes "s3") (path (other (named_host (codes "c")) (codes "i1")) ([])) (no_parts)))); condition = (no_expressions); loop = None; register = None; vars = (no_parts); notify = ([]); changed_when = None; failed_when = None; attempts = None; ignore_errors = None }) (task_step (record { line = 15; work = (assert_work (conditions_are (expression (membership (literal (text (codes "g1"))) (path (variable (codes "group_names")) ([]))) (no_expressions))) (no_parts)); condition = (expression (negation (in_batch this_host)) (no_expressions)); loop = None; register = (Some (codes "r3")); vars = (part (codes "v3") (path (variable (codes "r1")) ((codes "changed") ∷ [])) (no_parts)); notify = ([]); changed_when = None; failed_when = None; attempts = None; ignore_errors = None }) (no_steps))) (no_steps) (task_step (record { line = 16; work = (module_work (codes "command") (part (codes "cmd") (literal (text (codes "x"))) (no_parts))); condition = (no_expressions); loop = (Some (path (variable (codes "ansible_play_batch")) ([]))); register = (Some (codes "r1")); vars = (no_parts); notify = ([]); changed_when = None; failed_when = (Some (expression (comparison equal (path (variable (codes "r1")) ((codes "stdout_lines") ∷ [])) (literal (text (codes "a")))) (no_expressions))); attempts = None; ignore_errors = None }) (task_step (record { line = 17; work = (set_fact_work (part (codes "s2") (list_of (expression (literal (int (pos 1))) (no_expressions))) (no_parts))); condition = (no_expressions); loop = None; register = None; vars = (no_parts); notify = ([]); changed_when = None; failed_when = None; attempts = None; ignore_errors = None }) (no_steps))) (no_steps)))) (task_step (record { line = 18; work = (module_work (codes "probe") (no_parts)); condition = (no_expressions); loop = (Some (path (variable (codes "ansible_play_batch")) ([]))); register = (Some (codes "r3")); vars = (no_parts); notify = ([]); changed_when = (Some (expression (path_status is_failed (variable (codes "r3")) ([])) (no_expressions))); failed_when = (Some (expression (conjunction (expression (defined (variable (codes "r3")) ((codes "deep") ∷ [])) (expression (comparison equal (path (variable (codes "r3")) ((codes "deep") ∷ [])) (literal (text (codes "a")))) (no_expressions)))) (no_expressions))); attempts = None; ignore_errors = (Some false) }) (no_steps)) (no_steps) (no_steps))) (task_step (record { line = 19; work = (assert_work (conditions_are (expression (negation (defined (variable (codes "s2")) ((codes "changed") ∷ []))) (no_expressions))) (no_parts)); condition = (no_expressions); loop = None; register = None; vars = (no_parts); notify = ([]); changed_when = None; failed_when = None; attempts = None; ignore_errors = None }) (task_step (record { line = 20; work = (module_work (codes "stat") (part (codes "path") (literal (text (codes "/"))) (no_parts))); condition = (no_expressions); loop = None; register = (Some (codes "r3")); vars = (no_parts); notify = ([]); changed_when = (Some (expression (literal (boolean true)) (no_expressions))); failed_when = None; attempts = None; ignore_errors = (Some true) }) (task_step (record { line = 21; work = (assert_work (conditions_are (expression (in_batch (named_host (codes "b"))) (no_expressions))) (no_parts)); condition = (expression (defined (other (group_member (codes "all") 0) (codes "r3")) ([])) (no_expressions)); loop = None; register = None; vars = (no_parts); notify = ([]); changed_when = None; failed_when = None; attempts = None; ignore_errors = None }) (no_steps)))) (task_step (record { line = 22; work = (module_work (codes "setup") (no_parts)); condition = (expression (defined (variable (codes "s1")) ([])) (expression (in_batch item_host) (no_expressions))); loop = (Some (path (variable (codes "ansible_play_batch")) ([]))); register = None; vars = (part (codes "v2") (path_or (variable (codes "r3")) ((codes "stat") ∷ []) (literal (int (pos 1)))) (part (codes "v3") (path (variable (codes "r2")) ((codes "failed") ∷ [])) (no_parts))); notify = ([]); changed_when = None; failed_when = None; attempts = None; ignore_errors = None }) (task_step (record { line = 23; work = (set_fact_work (part (codes "s1") (literal (int (pos 1))) (part (codes "s2") (literal (int (negsuc 0))) (no_parts)))); condition = (expression (in_batch (named_host (codes "c"))) (no_expressions)); loop = None; register = (Some (codes "r1")); vars = (no_parts); notify = ([]); changed_when = None; failed_when = None; attempts = None; ignore_errors = None }) (task_step (record { line = 24; work = (fail_work (no_parts)); condition = (no_expressions); loop = None; register = (Some (codes "r2")); vars = (no_parts); notify = ([]); changed_when = None; failed_when = None; attempts = None; ignore_errors = None }) (no_steps))))); post_tasks = (no_steps); handlers = ([]); forces = false } ∷ record { line = 25; pattern = ((codes "all") ∷ []); gathering = None; vars = (part (codes "v1") (path (variable (codes "r1")) ((codes "failed") ∷ [])) (no_parts)); is_linear = false; serial = ([]); pre_tasks = (block_step (record { line = 26; condition = (no_expressions); vars = (no_parts); ignore_errors = None }) (task_step (record { line = 27; work = (module_work (codes "command") (part (codes "cmd") (concatenation (expression (literal (text (codes "x "))) (expression (literal (text (codes "t"))) (no_expressions)))) (no_parts))); condition = (expression (negation (in_batch (named_host (codes "c")))) (no_expressions)); loop = None; register = (Some (codes "r2")); vars = (no_parts); notify = ([]); changed_when = None; failed_when = None; attempts = None; ignore_errors = None }) (no_steps)) (task_step (record { line = 28; work = (module_work (codes "odd") (no_parts)); condition = (no_expressions); loop = None; register = None; vars = (no_parts); notify = ([]); changed_when = None; failed_when = (Some (expression (comparison equal (path (variable (codes "inventory_hostname")) ([])) (literal (text (codes "a")))) (no_expressions))); attempts = None; ignore_errors = None }) (no_steps)) (no_steps) (task_step (record { line = 29; work = (module_work (codes "command") (part (codes "cmd") (literal (text (codes "x"))) (no_parts))); condition = (expression (negation (path_status is_failed (variable (codes "r2")) ([]))) (no_expressions)); loop = None; register = (Some (codes "r3")); vars = (no_parts); notify = ((codes "h1") ∷ []); changed_when = None; failed_when = None; attempts = None; ignore_errors = (Some true) }) (flush_step 30 (task_step (record { line = 31; work = (module_work (codes "odd") (no_parts)); condition = (no_expressions); loop = None; register = None; vars = (no_parts); notify = ([]); changed_when = None; failed_when = None; attempts = (Some (record { until = (expression (literal (boolean false)) (no_expressions)); retries = 3 })); ignore_errors = None }) (no_steps))))); tasks = (task_step (record { line = 32; work = (assert_work (conditions_are (expression (conjunction (expression (defined (other (named_host (codes "c")) (codes "r2")) ([])) (expression (negation (path_status is_failed (other (named_host (codes "c")) (codes "r2")) ([]))) (expression (negation (comparison equal (path (other (named_host (codes "c")) (codes "r2")) ((codes "stdout") ∷ [])) (literal (text (codes "x"))))) (no_expressions))))) (no_expressions))) (no_parts)); condition = (expression (path_or (variable (codes "r1")) ([]) (literal (boolean false))) (no_expressions)); loop = (Some (list_of (expression (literal (boolean true)) (expression (literal (text (codes "a"))) (expression (literal (boolean false)) (no_expressions)))))); register = None; vars = (no_parts); notify = ((codes "h0") ∷ []); changed_when = None; failed_when = None; attempts = None; ignore_errors = (Some true) }) (no_steps)); post_tasks = (no_steps); handlers = (record { work = (record { line = 33; work = (set_fact_work (part (codes "s1") (literal (text (codes "a"))) (part (codes "s2") (list_of (expression (path (variable (codes "groups")) ((codes "all") ∷ [])) (no_expressions))) (no_parts)))); condition = (expression (defined (variable (codes "groups")) ((codes "all") ∷ [])) (no_expressions)); loop = None; register = (Some (codes "r2")); vars = (no_parts); notify = ([]); changed_when = (Some (expression (comparison equal (path (variable (codes "inventory_hostname")) ([])) (literal (text (codes "a")))) (no_expressions))); failed_when = None; attempts = None; ignore_errors = None }); name = (Some (codes "h0")); topics = ((codes "t") ∷ []) } ∷ record { work = (record { line = 34; work = (module_work (codes "probe") (no_parts)); condition = (no_expressions); loop = None; register = (Some (codes "r1")); vars = (part (codes "v3") (path (variable (codes "r2")) ((codes "changed") ∷ [])) (no_parts)); notify = ((codes "h2") ∷ []); changed_when = None; failed_when = None; attempts = None; ignore_errors = None }); name = (Some (codes "h1")); topics = ([]) } ∷ record { work = (record { line = 35; work = (set_fact_work (part (codes "s3") (concatenation (expression (literal (text (codes "x"))) (expression (path (variable (codes "r2")) ([])) (no_expressions)))) (no_parts))); condition = (expression (defined (variable (codes "r2")) ([])) (no_expressions)); loop = None; register = (Some (codes "r2")); vars = (no_parts); notify = ([]); changed_when = None; failed_when = None; attempts = None; ignore_errors = (Some true) }); name = (Some (codes "h2")); topics = ((codes "t") ∷ []) } ∷ []); forces = false } ∷ [])

abbrev random_100147_run_inventory : Inventory
random_100147_run_inventory = record { hosts = (record { name = (codes "a"); variables = (field (codes "i2") (int (pos 3)) (field (codes "op") opaque (field (codes "s1") (int (pos 3)) (no_fields)))) } ∷ record { name = (codes "b"); variables = (field (codes "i1") (text ([])) (field (codes "i2") (list (item (text (codes "a")) (no_items))) (field (codes "op") opaque (field (codes "s1") (text (codes "no")) (no_fields))))) } ∷ record { name = (codes "c"); variables = (field (codes "i1") (text ([])) (field (codes "i2") (list (item (text (codes "a")) (no_items))) (field (codes "op") opaque (field (codes "s1") (text (codes "x")) (no_fields))))) } ∷ record { name = (codes "d"); variables = (field (codes "i2") (int (pos 1)) (field (codes "s1") (text ([])) (no_fields))) } ∷ []); groups = (record { name = (codes "all"); hosts = ((codes "a") ∷ (codes "b") ∷ (codes "c") ∷ (codes "d") ∷ []) } ∷ record { name = (codes "g1"); hosts = ((codes "a") ∷ (codes "b") ∷ []) } ∷ record { name = (codes "g2"); hosts = ((codes "b") ∷ (codes "c") ∷ []) } ∷ record { name = (codes "ungrouped"); hosts = ((codes "d") ∷ []) } ∷ []) }

abbrev random_100147_run_registry : Registry
random_100147_run_registry = (builtins ++ (record { name = (codes "probe"); params = (record { name = (codes "n"); kind = ints; required = false } ∷ record { name = (codes "l"); kind = (lists texts 3); required = false } ∷ []); ok = recs (slot (codes "changed") true booleans (slot (codes "deep") false (recs (slot (codes "a") true texts (slot (codes "b") false booleans (no_slots)))) (slot (codes "rows") true (lists texts 2) (slot (codes "v") false ints (no_slots))))); failure = recs (slot (codes "changed") true booleans (slot (codes "msg") true texts (slot (codes "v") false texts (slot (codes "why") true ints (no_slots))))); free = None } ∷ record { name = (codes "odd"); params = ([]); ok = recs (slot (codes "changed") true booleans (slot (codes "msg") false ints (no_slots))); failure = recs (slot (codes "changed") true booleans (slot (codes "msg") true texts (no_slots))); free = None } ∷ []))

random_100147_run : recaps_of random_100147_run_registry random_100147_run_inventory random_100147_run_book 1 ((object (rec (field (codes "changed") (int (pos 7)) (no_fields))) ∷ object (rec (field (codes "ansible_facts") (rec (field (codes "ansible_distribution") (text (codes "b")) (field (codes "ansible_hostname") (text ([])) (field (codes "ansible_os_family") (text (codes "b")) (field (codes "ansible_system") (text (123 ∷ 123 ∷ 32 ∷ 120 ∷ 32 ∷ 125 ∷ 125 ∷ [])) (no_fields)))))) (field (codes "changed") (boolean false) (no_fields)))) ∷ object (rec (field (codes "ansible_facts") (rec (field (codes "ansible_hostname") (text (codes "c")) (field (codes "ansible_os_family") (text (codes "a")) (field (codes "ansible_system") (text ([])) (no_fields))))) (field (codes "changed") (boolean false) (no_fields)))) ∷ object (rec (field (codes "ansible_facts") (rec (field (codes "ansible_hostname") (text (codes "a")) (field (codes "ansible_memtotal_mb") (int (pos 2)) (field (codes "ansible_os_family") (text (codes "c")) (field (codes "ansible_system") (text (codes "a")) (no_fields)))))) (field (codes "changed") (boolean true) (no_fields)))) ∷ []) ∷ (object (rec (field (codes "ansible_facts") (rec (field (codes "ansible_hostname") (text (codes "x")) (field (codes "ansible_os_family") (text (codes "c")) (field (codes "ansible_processor_vcpus") (int (pos 0)) (field (codes "ansible_system") (text (codes "a")) (no_fields)))))) (field (codes "changed") (boolean true) (no_fields)))) ∷ object (rec (field (codes "ansible_facts") (rec (field (codes "ansible_hostname") (text (codes "d")) (field (codes "ansible_memtotal_mb") (int (negsuc 6)) (field (codes "ansible_processor_vcpus") (int (negsuc 6)) (field (codes "ansible_system") (text (123 ∷ 123 ∷ 32 ∷ 120 ∷ 32 ∷ 125 ∷ 125 ∷ [])) (no_fields)))))) (field (codes "changed") (boolean true) (no_fields)))) ∷ object (rec (field (codes "changed") (boolean false) (field (codes "failed") (boolean true) (field (codes "msg") (text (codes "d")) (no_fields))))) ∷ []) ∷ (object (rec (field (codes "ansible_facts") (rec (field (codes "ansible_hostname") (text (codes "a")) (field (codes "ansible_processor_vcpus") (int (pos 1)) (field (codes "ansible_system") (text (codes "c")) (no_fields))))) (field (codes "changed") (boolean true) (no_fields)))) ∷ object (rec (field (codes "changed") (boolean false) (field (codes "failed") (boolean true) (field (codes "msg") (text (codes "x")) (no_fields))))) ∷ []) ∷ (object (rec (field (codes "changed") (boolean false) (field (codes "failed") (boolean true) (field (codes "msg") (text (123 ∷ 123 ∷ 32 ∷ 120 ∷ 32 ∷ 125 ∷ 125 ∷ [])) (no_fields))))) ∷ []) ∷ []) ≡ (record { ok = 0; changed = 0; unreachable = 0; failed = 1; skipped = 4; rescued = 0; ignored = 0 } ∷ record { ok = 0; changed = 0; unreachable = 0; failed = 1; skipped = 4; rescued = 0; ignored = 0 } ∷ record { ok = 0; changed = 0; unreachable = 0; failed = 1; skipped = 4; rescued = 0; ignored = 0 } ∷ record { ok = 0; changed = 0; unreachable = 0; failed = 1; skipped = 4; rescued = 0; ignored = 0 } ∷ [])
unfolding digits
random_100147_run = refl

-- random_100179_run:
abbrev random_100179_run_book : Book
random_100179_run_book = (record { line = 1; pattern = ((codes "all") ∷ []); gathering = (Some 2); vars = (part (codes "v1") (literal (int (pos 1))) (part (codes "v3") (concatenation (expression (literal (text (codes "x"))) (expression (path (variable (codes "groups")) ((codes "all") ∷ [])) (no_expressions)))) (no_parts))); is_linear = true; serial = (host_count 2 ∷ []); pre_tasks = (no_steps); tasks = (task_step (record { line = 3; work = (module_work (codes "ping") (no_parts)); condition = (no_expressions); loop = None; register = (Some (codes "r2")); vars = (no_parts); notify = ([]); changed_when = None; failed_when = None; attempts = None; ignore_errors = None }) (flush_step 4 (no_steps))); post_tasks = (no_steps); handlers = (record { work = (record { line = 5; work = (module_work (codes "probe") (no_parts)); condition = (no_expressions); loop = None; register = (Some (codes "r3")); vars = (no_parts); notify = ([]); changed_when = None; failed_when = None; attempts = None; ignore_errors = None }); name = (Some (codes "h0")); topics = ((codes "t") ∷ []) } ∷ []); forces = false } ∷ record { line = 6; pattern = ((codes "all") ∷ []); gathering = None; vars = (no_parts); is_linear = true; serial = (host_count 1 ∷ percentage 100 ∷ []); pre_tasks = (no_steps); tasks = (task_step (record { line = 7; work = (module_work (codes "command") (part (codes "cmd") (literal (text (codes "x"))) (no_parts))); condition = (no_expressions); loop = None; register = (Some (codes "r2")); vars = (part (codes "v1") (path_or (variable (codes "r3")) ([]) (list_of (no_expressions))) (part (codes "v2") (comparison equal (path (variable (codes "r3")) ((codes "changed") ∷ [])) (path (variable (codes "i1")) ([]))) (no_parts))); notify = ([]); changed_when = None; failed_when = None; attempts = None; ignore_errors = None }) (block_step (record { line = 8; condition = (no_expressions); vars = (no_parts); ignore_errors = None }) (block_step (record { line = 9; condition = (no_expressions); vars = (no_parts); ignore_errors = None }) (task_step (record { line = 10; work = (module_work (codes "command") (part (codes "cmd") (literal (text (codes "x"))) (no_parts))); condition = (no_expressions); loop = None; register = (Some (codes "r2")); vars = (no_parts); notify = ([]); changed_when = None; failed_when = (Some (expression (path_status is_changed (variable (codes "r2")) ([])) (no_expressions))); attempts = None; ignore_errors = (Some true) }) (no_steps)) (task_step (record { line = 11; work = (module_work (codes "ping") (no_parts)); condition = (expression (comparison equal (path (variable (codes "inventory_hostname")) ([])) (literal (text (codes "a")))) (no_expressions)); loop = None; register = None; vars = (part (codes "v1") (path (other (named_host (codes "a")) (codes "s2")) ([])) (part (codes "v2") (concatenation (expression (literal (text (codes "x"))) (expression (path_or (variable (codes "r3")) ((codes "deep") ∷ (codes "a") ∷ []) (path (variable (codes "s1")) ([]))) (no_expressions)))) (no_parts))); notify = ([]); changed_when = None; failed_when = None; attempts = (Some (record { until = (expression (literal (boolean false)) (no_expressions)); retries = 1 })); ignore_errors = None }) (task_step (record { line = 12; work = (debug_work (part (codes "msg") (path (other (named_host (codes "a")) (codes "r2")) ((codes "stdout") ∷ [])) (no_parts))); condition = (no_expressions); loop = None; register = (Some (codes "r3")); vars = (part (codes "v2") (path (variable (codes "inventory_hostname")) ([])) (no_parts)); notify = ([]); changed_when = (Some (expression (conjunction (expression (defined (variable (codes "r3")) ((codes "changed") ∷ [])) (expression (comparison equal (path (variable (codes "r3")) ((codes "changed") ∷ [])) (literal (text (codes "a")))) (no_expressions)))) (no_expressions))); failed_when = None; attempts = None; ignore_errors = None }) (no_steps))) (no_steps) (no_steps)) (block_step (record { line = 13; condition = (no_expressions); vars = (no_parts); ignore_errors = None }) (task_step (record { line = 14; work = (module_work (codes "ping") (no_parts)); condition = (expression (negation (defined (variable (codes "r1")) ((codes "failed") ∷ []))) (no_expressions)); loop = None; register = None; vars = (no_parts); notify = ([]); changed_when = None; failed_when = None; attempts = None; ignore_errors = None }) (no_steps)) (task_step (record { line = 15; work = (debug_work (part (codes "msg") (literal (text (codes "t"))) (no_parts))); condition = (expression (defined (variable (codes "i2")) ((codes "f") ∷ [])) (no_expressions)); loop = None; register = (Some (codes "r1")); vars = (no_parts); notify = ((codes "h2") ∷ []); changed_when = (Some (expression (literal (boolean true)) (no_expressions))); failed_when = None; attempts = None; ignore_errors = None }) (no_steps)) (no_steps) (block_step (record { line = 16; condition = (no_expressions); vars = (no_parts); ignore_errors = None }) (task_step (record { line = 17; work = (set_fact_work (part (codes "s1") (path (variable (codes "r1")) ([])) (part (codes "s3") (literal (text (codes "a"))) (no_parts)))); condition = (no_expressions); loop = None; register = None; vars = (no_parts); notify = ([]); changed_when = None; failed_when = None; attempts = None; ignore_errors = None }) (no_steps)) (task_step (record { line = 18; work = (fail_work (part (codes "msg") (literal (text (codes "m"))) (no_parts))); condition = (no_expressions); loop = None; register = (Some (codes "r3")); vars = (part (codes "v2") (path (variable (codes "ansible_hostname")) ([])) (part (codes "v3") (path (other (group_member (codes "all") 0) (codes "s1")) ([])) (no_parts))); notify = ([]); changed_when = (Some (expression (literal (boolean true)) (no_expressions))); failed_when = None; attempts = None; ignore_errors = None }) (block_step (record { line = 19; condition = (no_expressions); vars = (no_parts); ignore_errors = None }) (task_step (record { line = 20; work = (module_work (codes "command") (part (codes "cmd") (literal (text (codes "x"))) (no_parts))); condition = (no_expressions); loop = None; register = (Some (codes "r1")); vars = (no_parts); notify = ([]); changed_when = None; failed_when = (Some (expression (literal (boolean false)) (no_expressions))); attempts = None; ignore_errors = None }) (no_steps)) (no_steps) (no_steps) (task_step (record { line = 21; work = (module_work (codes "probe") (part (codes "n") (path (variable (codes "i2")) ((codes "f") ∷ [])) (no_parts))); condition = (expression (comparison equal (path (variable (codes "inventory_hostname")) ([])) (literal (text (codes "a")))) (expression (negation (path_status is_skipped (variable (codes "i2")) ([]))) (no_expressions))); loop = None; register = None; vars = (no_parts); notify = ((codes "h2") ∷ []); changed_when = None; failed_when = None; attempts = None; ignore_errors = None }) (no_steps)))) (no_steps) (task_step (record { line = 22; work = (assert_work (conditions_are (expression (negation (comparison equal (path (variable (codes "r2")) ((codes "failed") ∷ [])) (list_of (expression (literal (int (pos 1))) (no_expressions))))) (no_expressions))) (no_parts)); condition = (no_expressions); loop = (Some (path (variable (codes "ansible_play_batch")) ([]))); register = None; vars = (no_parts); notify = ((codes "h2") ∷ []); changed_when = None; failed_when = None; attempts = None; ignore_errors = None }) (no_steps)))) (no_steps) (no_steps))); post_tasks = (task_step (record { line = 23; work = (module_work (codes "probe") (no_parts)); condition = (expression (conjunction (expression (disjunction (expression (in_batch (named_host (codes "a"))) (expression (in_batch (named_host (codes "a"))) (no_expressions)))) (expression (path_status is_skipped (variable (codes "r2")) ([])) (no_expressions)))) (no_expressions)); loop = None; register = (Some (codes "r3")); vars = (no_parts); notify = ([]); changed_when = (Some (expression (comparison equal (path (variable (codes "inventory_hostname")) ([])) (literal (text (codes "a")))) (no_expressions))); failed_when = None; attempts = None; ignore_errors = None }) (block_step (record { line = 24; condition = (no_expressions); vars = (part (codes "v3") (record_of (part (codes "g") (list_of (expression (literal (boolean false)) (expression (literal (boolean false)) (no_expressions)))) (no_parts))) (no_parts)); ignore_errors = None }) (task_step (record { line = 25; work = (module_work (codes "command") (part (codes "cmd") (literal (text (codes "x"))) (no_parts))); condition = (no_expressions); loop = (Some (path (variable (codes "ansible_play_batch")) ([]))); register = (Some (codes "r2")); vars = (no_parts); notify = ((codes "h1") ∷ []); changed_when = (Some (expression (literal (boolean true)) (no_expressions))); failed_when = None; attempts = None; ignore_errors = None }) (no_steps)) (task_step (record { line = 26; work = (module_work (codes "command") (part (codes "cmd") (literal (text (codes "x"))) (no_parts))); condition = (no_expressions); loop = None; register = (Some (codes "r2")); vars = (no_parts); notify = ((codes "t") ∷ []); changed_when = None; failed_when = (Some (expression (conjunction (expression (defined (variable (codes "r2")) ((codes "stderr") ∷ [])) (expression (comparison equal (path (variable (codes "r2")) ((codes "stderr") ∷ [])) (literal (text (codes "a")))) (no_expressions)))) (no_expressions))); attempts = None; ignore_errors = None }) (task_step (record { line = 27; work = (set_fact_work (part (codes "s1") (record_of (part (codes "f") (literal (int (pos 1))) (no_parts))) (no_parts))); condition = (no_expressions); loop = None; register = None; vars = (no_parts); notify = ([]); changed_when = None; failed_when = None; attempts = None; ignore_errors = None }) (task_step (record { line = 28; work = (set_fact_work (part (codes "s1") (literal (int (negsuc 0))) (part (codes "s3") (list_of (expression (path (variable (codes "r1")) ([])) (expression (literal (int (pos 1))) (no_expressions)))) (no_parts)))); condition = (expression (defined (variable (codes "r1")) ([])) (no_expressions)); loop = None; register = (Some (codes "r3")); vars = (no_parts); notify = ([]); changed_when = None; failed_when = None; attempts = None; ignore_errors = (Some true) }) (no_steps)))) (no_steps) (task_step (record { line = 29; work = (set_fact_work (part (codes "s2") (list_of (expression (list_of (expression (path (other (named_host (codes "a")) (codes "r3")) ((codes "changed") ∷ [])) (expression (literal (int (pos 1))) (no_expressions)))) (no_expressions))) (no_parts))); condition = (expression (in_batch (named_host (codes "a"))) (expression (path_status is_failed (other (named_host (codes "a")) (codes "r3")) ([])) (no_expressions))); loop = None; register = None; vars = (part (codes "v3") (length_of (path (variable (codes "r3")) ((codes "results") ∷ []))) (no_parts)); notify = ([]); changed_when = None; failed_when = None; attempts = None; ignore_errors = None }) (task_step (record { line = 30; work = (module_work (codes "odd") (no_parts)); condition = (no_expressions); loop = None; register = (Some (codes "r2")); vars = (no_parts); notify = ([]); changed_when = None; failed_when = None; attempts = None; ignore_errors = None }) (no_steps))))); handlers = (record { work = (record { line = 31; work = (debug_work (part (codes "msg") (path_or (variable (codes "group_names")) ([]) (literal (text (codes "z")))) (no_parts))); condition = (no_expressions); loop = (Some (path_or (variable (codes "r3")) ((codes "stdout_lines") ∷ []) (list_of (no_expressions)))); register = (Some (codes "r2")); vars = (part (codes "v1") (path (variable (codes "ansible_facts")) ([])) (part (codes "v3") (list_of (expression (literal (int (pos 1))) (expression (literal (int (pos 2))) (no_expressions)))) (no_parts))); notify = ([]); changed_when = None; failed_when = None; attempts = None; ignore_errors = None }); name = (Some (codes "h0")); topics = ([]) } ∷ record { work = (record { line = 32; work = (debug_work (part (codes "msg") (path (variable (codes "r1")) ((codes "stdout_lines") ∷ [])) (no_parts))); condition = (expression (defined (variable (codes "r1")) ((codes "stdout_lines") ∷ [])) (no_expressions)); loop = None; register = None; vars = (part (codes "v1") (path (variable (codes "r1")) ((codes "failed") ∷ [])) (no_parts)); notify = ([]); changed_when = (Some (expression (comparison equal (path (variable (codes "inventory_hostname")) ([])) (literal (text (codes "a")))) (no_expressions))); failed_when = None; attempts = None; ignore_errors = None }); name = (Some (codes "h1")); topics = ((codes "t") ∷ []) } ∷ record { work = (record { line = 33; work = (debug_work (part (codes "msg") (literal (text (codes "x"))) (no_parts))); condition = (no_expressions); loop = None; register = None; vars = (no_parts); notify = ([]); changed_when = None; failed_when = None; attempts = None; ignore_errors = None }); name = (Some (codes "h2")); topics = ((codes "t") ∷ []) } ∷ []); forces = true } ∷ [])

abbrev random_100179_run_inventory : Inventory
random_100179_run_inventory = record { hosts = (record { name = (codes "a"); variables = (field (codes "i1") (list (item (text (codes "x")) (item (text (codes "b")) (no_items)))) (field (codes "i2") (text (codes "a")) (field (codes "op") opaque (field (codes "s1") (list (item (text (codes "x")) (item (boolean true) (no_items)))) (no_fields))))) } ∷ []); groups = (record { name = (codes "all"); hosts = ((codes "a") ∷ []) } ∷ record { name = (codes "g2"); hosts = ((codes "a") ∷ []) } ∷ record { name = (codes "ungrouped"); hosts = ([]) } ∷ []) }

abbrev random_100179_run_registry : Registry
random_100179_run_registry = (builtins ++ (record { name = (codes "probe"); params = (record { name = (codes "n"); kind = ints; required = false } ∷ record { name = (codes "l"); kind = (lists texts 3); required = false } ∷ []); ok = recs (slot (codes "changed") true booleans (slot (codes "deep") false (recs (slot (codes "a") true texts (slot (codes "b") false booleans (no_slots)))) (slot (codes "rows") true (lists texts 2) (slot (codes "v") false ints (no_slots))))); failure = recs (slot (codes "changed") true booleans (slot (codes "msg") true texts (slot (codes "v") false texts (slot (codes "why") true ints (no_slots))))); free = None } ∷ record { name = (codes "odd"); params = ([]); ok = recs (slot (codes "changed") true booleans (slot (codes "msg") false ints (no_slots))); failure = recs (slot (codes "changed") true booleans (slot (codes "msg") true texts (no_slots))); free = None } ∷ []))

random_100179_run : recaps_of random_100179_run_registry random_100179_run_inventory random_100179_run_book 1 ((object (rec (field (codes "ansible_facts") (rec (field (codes "ansible_distribution") (text ([])) (field (codes "ansible_hostname") (text (codes "a")) (field (codes "ansible_memtotal_mb") (int (pos 2)) (field (codes "ansible_os_family") (text (codes "x")) (field (codes "ansible_system") (text ([])) (no_fields))))))) (field (codes "changed") (boolean true) (no_fields)))) ∷ object (rec (field (codes "changed") (boolean false) (field (codes "extra") (rec (field (codes "a") (int (pos 1)) (no_fields))) (field (codes "ping") (text (codes "a")) (no_fields))))) ∷ object (rec (field (codes "changed") (boolean false) (field (codes "extra") (rec (field (codes "a") (int (pos 1)) (no_fields))) (field (codes "failed") (boolean true) (field (codes "msg") (text (codes "a")) (field (codes "rc") (int (negsuc 6)) (field (codes "stderr") (text (codes "b")) (field (codes "stderr_lines") (list (no_items)) (field (codes "stdout") (text (codes "b")) (field (codes "stdout_lines") (list (no_items)) (no_fields))))))))))) ∷ []) ∷ []) ≡ (record { ok = 2; changed = 1; unreachable = 0; failed = 1; skipped = 0; rescued = 0; ignored = 0 } ∷ [])
unfolding digits
random_100179_run = refl

-- random_100188:
abbrev random_100188_book : Book
random_100188_book = (record { line = 1; pattern = ((codes "all") ∷ []); gathering = None; vars = (no_parts); is_linear = true; serial = ([]); pre_tasks = (no_steps); tasks = (task_step (record { line = 2; work = (debug_work (part (codes "msg") (record_of (part (codes "k") (literal (boolean true)) (no_parts))) (no_parts))); condition = (no_expressions); loop = None; register = (Some (codes "r")); vars = (no_parts); notify = ((codes "h1") ∷ []); changed_when = (Some (expression (path_status is_changed (variable (codes "r")) ([])) (no_expressions))); failed_when = None; attempts = None; ignore_errors = None }) (block_step (record { line = 3; condition = (expression (in_batch (group_member (codes "g") 0)) (expression (comparison equal (path (variable (codes "r")) ((codes "msg") ∷ [])) (literal (int (pos 1)))) (no_expressions))); vars = (no_parts); ignore_errors = None }) (task_step (record { line = 4; work = (module_work (codes "setup") (no_parts)); condition = (expression (comparison equal (path (variable (codes "inventory_hostname")) ((codes "rc") ∷ [])) (literal (text (codes "a")))) (no_expressions)); loop = None; register = None; vars = (part (codes "v2") (record_of (part (codes "k") (concatenation (expression (literal (text (codes "x"))) (expression (negation (defined (variable (codes "ansible_play_batch")) ((codes "hostname") ∷ []))) (no_expressions)))) (no_parts))) (no_parts)); notify = ([]); changed_when = None; failed_when = None; attempts = None; ignore_errors = None }) (no_steps)) (block_step (record { line = 5; condition = (no_expressions); vars = (no_parts); ignore_errors = None }) (task_step (record { line = 6; work = (module_work (codes "command") (part (codes "cmd") (length_of (path (variable (codes "v1")) ((codes "os_family") ∷ []))) (no_parts))); condition = (expression (defined (other (named_host (codes "b")) (codes "y")) ([])) (expression (negation (path_status is_skipped (variable (codes "r")) ([]))) (no_expressions))); loop = None; register = None; vars = (no_parts); notify = ([]); changed_when = None; failed_when = None; attempts = None; ignore_errors = None }) (task_step (record { line = 7; work = (set_fact_work (part (codes "y") (literal (text (codes "a"))) (no_parts))); condition = (no_expressions); loop = None; register = (Some (codes "s")); vars = (part (codes "v2") (length_of (path (other item_host (codes "inv")) ([]))) (no_parts)); notify = ([]); changed_when = None; failed_when = None; attempts = None; ignore_errors = None }) (no_steps))) (no_steps) (task_step (record { line = 8; work = (set_fact_work (part (codes "y") (concatenation (expression (literal (text (codes "x"))) (expression (path (variable (codes "s")) ((codes "changed") ∷ [])) (no_expressions)))) (no_parts))); condition = (no_expressions); loop = None; register = None; vars = (no_parts); notify = ([]); changed_when = None; failed_when = None; attempts = None; ignore_errors = (Some true) }) (no_steps)) (no_steps)) (task_step (record { line = 9; work = (module_work (codes "command") (part (codes "cmd") (path (variable (codes "r")) ((codes "results") ∷ [])) (no_parts))); condition = (expression (conjunction (expression (defined (variable (codes "r")) ([])) (expression (negation (path_status is_failed (variable (codes "r")) ([]))) (no_expressions)))) (no_expressions)); loop = None; register = (Some (codes "s")); vars = (no_parts); notify = ([]); changed_when = None; failed_when = None; attempts = (Some (record { until = (expression (negation (path_status is_failed (variable (codes "s")) ([]))) (no_expressions)); retries = 3 })); ignore_errors = None }) (no_steps)) (task_step (record { line = 10; work = (set_fact_work (part (codes "s") (concatenation (expression (literal (text (codes "x"))) (expression (path (variable (codes "s")) ([])) (no_expressions)))) (no_parts))); condition = (no_expressions); loop = (Some (list_of (expression (literal (int (pos 1))) (expression (literal (int (pos 2))) (no_expressions))))); register = (Some (codes "r")); vars = (no_parts); notify = ([]); changed_when = None; failed_when = (Some (expression (path_status is_failed (variable (codes "r")) ([])) (no_expressions))); attempts = None; ignore_errors = None }) (task_step (record { line = 11; work = (module_work (codes "ping") (no_parts)); condition = (no_expressions); loop = (Some (list_of (expression (literal (int (pos 1))) (expression (literal (int (pos 2))) (no_expressions))))); register = (Some (codes "s")); vars = (no_parts); notify = ((codes "h1") ∷ []); changed_when = None; failed_when = (Some (expression (literal (boolean false)) (no_expressions))); attempts = None; ignore_errors = None }) (no_steps))))); post_tasks = (no_steps); handlers = (record { work = (record { line = 12; work = (module_work (codes "stat") (part (codes "path") (literal (text (codes "p"))) (no_parts))); condition = (expression (in_batch (named_host (codes "b"))) (no_expressions)); loop = None; register = (Some (codes "s")); vars = (no_parts); notify = ([]); changed_when = None; failed_when = None; attempts = None; ignore_errors = None }); name = (Some (codes "h0")); topics = ([]) } ∷ record { work = (record { line = 13; work = (set_fact_work (part (codes "s") (length_of (path (variable (codes "y")) ((codes "os_family") ∷ []))) (no_parts))); condition = (expression (disjunction (expression (negation (defined (variable (codes "r")) ((codes "failed") ∷ []))) (expression (path_status is_failed (variable (codes "s")) ((codes "changed") ∷ [])) (no_expressions)))) (no_expressions)); loop = None; register = (Some (codes "s")); vars = (no_parts); notify = ([]); changed_when = None; failed_when = (Some (expression (path_status is_failed (variable (codes "s")) ([])) (no_expressions))); attempts = None; ignore_errors = None }); name = (Some (codes "h1")); topics = ([]) } ∷ []); forces = true } ∷ [])

abbrev random_100188_inventory : Inventory
random_100188_inventory = record { hosts = (record { name = (codes "c"); variables = (field (codes "inv") (list (item (int (pos 1)) (item (int (pos 2)) (no_items)))) (no_fields)) } ∷ record { name = (codes "b"); variables = (field (codes "inv") (list (item (int (pos 1)) (item (int (pos 2)) (no_items)))) (field (codes "k") (rec (field (codes "z") opaque (no_fields))) (no_fields))) } ∷ record { name = (codes "a"); variables = (field (codes "inv") (list (item (text (codes "x")) (no_items))) (field (codes "opq") opaque (no_fields))) } ∷ []); groups = (record { name = (codes "all"); hosts = ((codes "c") ∷ (codes "b") ∷ (codes "a") ∷ []) } ∷ record { name = (codes "g"); hosts = ((codes "b") ∷ (codes "a") ∷ []) } ∷ record { name = (codes "ungrouped"); hosts = ((codes "c") ∷ []) } ∷ []) }

abbrev random_100188_registry : Registry
random_100188_registry = (builtins ++ ([]))

random_100188 : judged random_100188_registry random_100188_inventory random_100188_book ≡ refused (record { code = 3; line = 4; host = (Some (codes "c")) })
random_100188 = refl

-- random_100201_run:
abbrev random_100201_run_book : Book
random_100201_run_book = (record { line = 1; pattern = ((codes "g1") ∷ []); gathering = None; vars = (no_parts); is_linear = false; serial = ([]); pre_tasks = (no_steps); tasks = (task_step (record { line = 2; work = (module_work (codes "command") (part (codes "cmd") (literal (text (codes "x"))) (no_parts))); condition = (no_expressions); loop = None; register = None; vars = (no_parts); notify = ((codes "t") ∷ []); changed_when = None; failed_when = None; attempts = None; ignore_errors = None }) (block_step (record { line = 3; condition = (no_expressions); vars = (no_parts); ignore_errors = None }) (block_step (record { line = 4; condition = (no_expressions); vars = (part (codes "v2") (literal (text (codes "a"))) (no_parts)); ignore_errors = None }) (task_step (record { line = 5; work = (module_work (codes "stat") (part (codes "path") (literal (text (codes "/"))) (no_parts))); condition = (no_expressions); loop = None; register = None; vars = (no_parts); notify = ([]); changed_when = None; failed_when = None; attempts = None; ignore_errors = None }) (task_step (record { line = 6; work = (module_work (codes "setup") (no_parts)); condition = (no_expressions); loop = None; register = (Some (codes "r3")); vars = (no_parts); notify = ((codes "t") ∷ []); changed_when = (Some (expression (literal (boolean true)) (no_expressions))); failed_when = None; attempts = (Some (record { until = (expression (literal (boolean true)) (no_expressions)); retries = 1 })); ignore_errors = None }) (task_step (record { line = 7; work = (assert_work (conditions_are (expression (literal (boolean true)) (no_expressions))) (no_parts)); condition = (no_expressions); loop = None; register = None; vars = (no_parts); notify = ([]); changed_when = None; failed_when = None; attempts = None; ignore_errors = None }) (no_steps)))) (task_step (record { line = 8; work = (module_work (codes "command") (part (codes "cmd") (literal (text (codes "x"))) (no_parts))); condition = (no_expressions); loop = None; register = (Some (codes "r2")); vars = (no_parts); notify = ((codes "t") ∷ []); changed_when = None; failed_when = None; attempts = None; ignore_errors = None }) (no_steps)) (no_steps) (task_step (record { line = 9; work = (module_work (codes "command") (part (codes "cmd") (literal (text (codes "x"))) (no_parts))); condition = (no_expressions); loop = None; register = (Some (codes "r3")); vars = (no_parts); notify = ((codes "t") ∷ []); changed_when = None; failed_when = None; attempts = None; ignore_errors = None }) (no_steps))) (no_steps) (task_step (record { line = 10; work = (module_work (codes "command") (part (codes "cmd") (literal (text (codes "x"))) (no_parts))); condition = (no_expressions); loop = None; register = None; vars = (no_parts); notify = ((codes "h0") ∷ []); changed_when = (Some (expression (comparison equal (path (variable (codes "inventory_hostname")) ([])) (literal (text (codes "a")))) (no_expressions))); failed_when = None; attempts = None; ignore_errors = None }) (no_steps)) (block_step (record { line = 11; condition = (no_expressions); vars = (no_parts); ignore_errors = None }) (task_step (record { line = 12; work = (fail_work (no_parts)); condition = (no_expressions); loop = (Some (list_of (expression (literal (boolean true)) (expression (literal (text (codes "a"))) (no_expressions))))); register = None; vars = (no_parts); notify = ([]); changed_when = None; failed_when = None; attempts = None; ignore_errors = None }) (task_step (record { line = 13; work = (module_work (codes "ping") (no_parts)); condition = (no_expressions); loop = None; register = None; vars = (no_parts); notify = ([]); changed_when = None; failed_when = (Some (expression (comparison equal (path (variable (codes "inventory_hostname")) ([])) (literal (text (codes "a")))) (no_expressions))); attempts = None; ignore_errors = None }) (block_step (record { line = 14; condition = (no_expressions); vars = (no_parts); ignore_errors = (Some true) }) (task_step (record { line = 15; work = (debug_work (part (codes "msg") (path (variable (codes "r3")) ([])) (no_parts))); condition = (expression (comparison equal (path (variable (codes "inventory_hostname")) ([])) (literal (text (codes "a")))) (no_expressions)); loop = None; register = None; vars = (no_parts); notify = ([]); changed_when = None; failed_when = None; attempts = None; ignore_errors = None }) (block_step (record { line = 16; condition = (no_expressions); vars = (no_parts); ignore_errors = None }) (task_step (record { line = 17; work = (module_work (codes "command") (part (codes "cmd") (literal (text (codes "x"))) (no_parts))); condition = (no_expressions); loop = None; register = None; vars = (part (codes "v3") (path_or (variable (codes "s3")) ([]) (list_of (no_expressions))) (no_parts)); notify = ([]); changed_when = None; failed_when = None; attempts = None; ignore_errors = None }) (task_step (record { line = 18; work = (module_work (codes "command") (part (codes "cmd") (literal (text (codes "x"))) (no_parts))); condition = (expression (conjunction (expression (negation (defined (other (named_host (codes "c")) (codes "r2")) ((codes "failed") ∷ []))) (expression (negation (comparison equal (path (variable (codes "inventory_hostname")) ([])) (literal (text (codes "b"))))) (no_expressions)))) (no_expressions)); loop = None; register = None; vars = (no_parts); notify = ([]); changed_when = None; failed_when = None; attempts = None; ignore_errors = None }) (no_steps))) (no_steps) (task_step (record { line = 19; work = (module_work (codes "command") (part (codes "cmd") (literal (text (codes "x"))) (no_parts))); condition = (no_expressions); loop = None; register = (Some (codes "r2")); vars = (no_parts); notify = ((codes "h0") ∷ []); changed_when = None; failed_when = None; attempts = None; ignore_errors = (Some true) }) (task_step (record { line = 20; work = (assert_work (conditions_are (expression (negation (defined (variable (codes "ansible_facts")) ((codes "hostname") ∷ []))) (no_expressions))) (no_parts)); condition = (no_expressions); loop = None; register = (Some (codes "r2")); vars = (no_parts); notify = ([]); changed_when = None; failed_when = None; attempts = None; ignore_errors = None }) (no_steps))) (task_step (record { line = 21; work = (module_work (codes "command") (part (codes "cmd") (literal (text (codes "x"))) (no_parts))); condition = (no_expressions); loop = (Some (path_or (variable (codes "r3")) ((codes "results") ∷ []) (list_of (no_expressions)))); register = None; vars = (no_parts); notify = ((codes "h0") ∷ []); changed_when = None; failed_when = None; attempts = None; ignore_errors = None }) (no_steps)))) (no_steps) (task_step (record { line = 22; work = (module_work (codes "ping") (no_parts)); condition = (no_expressions); loop = None; register = (Some (codes "r2")); vars = (part (codes "v3") (path_or (variable (codes "r2")) ((codes "failed") ∷ []) (list_of (no_expressions))) (no_parts)); notify = ((codes "h0") ∷ []); changed_when = None; failed_when = (Some (expression (path_status is_changed (variable (codes "r2")) ([])) (no_expressions))); attempts = None; ignore_errors = None }) (task_step (record { line = 23; work = (module_work (codes "ping") (no_parts)); condition = (expression (negation (comparison equal (path (variable (codes "inventory_hostname")) ([])) (literal (text (codes "a"))))) (no_expressions)); loop = None; register = (Some (codes "r2")); vars = (no_parts); notify = ([]); changed_when = None; failed_when = None; attempts = None; ignore_errors = None }) (no_steps))) (no_steps)))) (task_step (record { line = 24; work = (set_fact_work (part (codes "s2") (literal (int (pos 1))) (no_parts))); condition = (no_expressions); loop = None; register = (Some (codes "r1")); vars = (no_parts); notify = ([]); changed_when = None; failed_when = None; attempts = None; ignore_errors = None }) (task_step (record { line = 25; work = (assert_work (conditions_are (expression (literal (boolean true)) (no_expressions))) (no_parts)); condition = (no_expressions); loop = None; register = None; vars = (no_parts); notify = ([]); changed_when = None; failed_when = None; attempts = None; ignore_errors = None }) (task_step (record { line = 26; work = (module_work (codes "command") (part (codes "cmd") (concatenation (expression (literal (text (codes "x "))) (expression (path (variable (codes "r1")) ((codes "changed") ∷ [])) (no_expressions)))) (no_parts))); condition = (no_expressions); loop = None; register = (Some (codes "r1")); vars = (no_parts); notify = ([]); changed_when = None; failed_when = None; attempts = (Some (record { until = (expression (conjunction (expression (defined (variable (codes "r1")) ((codes "stdout_lines") ∷ [])) (expression (comparison equal (path (variable (codes "r1")) ((codes "stdout_lines") ∷ [])) (literal (text (codes "a")))) (no_expressions)))) (no_expressions)); retries = 3 })); ignore_errors = None }) (no_steps)))) (task_step (record { line = 27; work = (module_work (codes "command") (part (codes "cmd") (literal (text (codes "x"))) (no_parts))); condition = (no_expressions); loop = (Some (path_or (variable (codes "r2")) ((codes "stdout_lines") ∷ []) (list_of (no_expressions)))); register = None; vars = (no_parts); notify = ([]); changed_when = (Some (expression (literal (boolean false)) (no_expressions))); failed_when = None; attempts = None; ignore_errors = (Some false) }) (task_step (record { line = 28; work = (assert_work (conditions_are (expression (comparison equal (path (variable (codes "inventory_hostname")) ([])) (literal (text (codes "a")))) (no_expressions))) (no_parts)); condition = (no_expressions); loop = None; register = None; vars = (no_parts); notify = ((codes "h0") ∷ []); changed_when = None; failed_when = None; attempts = None; ignore_errors = None }) (task_step (record { line = 29; work = (debug_work (part (codes "msg") (path (variable (codes "r3")) ((codes "failed") ∷ [])) (no_parts))); condition = (expression (defined (variable (codes "r3")) ([])) (expression (path_status is_failed (variable (codes "r3")) ([])) (no_expressions))); loop = None; register = (Some (codes "r1")); vars = (no_parts); notify = ([]); changed_when = None; failed_when = (Some (expression (literal (boolean true)) (no_expressions))); attempts = None; ignore_errors = None }) (no_steps)))) (block_step (record { line = 30; condition = (no_expressions); vars = (no_parts); ignore_errors = None }) (task_step (record { line = 31; work = (module_work (codes "command") (part (codes "cmd") (literal (text (codes "x"))) (no_parts))); condition = (no_expressions); loop = None; register = None; vars = (no_parts); notify = ((codes "h0") ∷ []); changed_when = (Some (expression (comparison equal (path (variable (codes "inventory_hostname")) ([])) (literal (text (codes "a")))) (no_expressions))); failed_when = (Some (expression (comparison equal (path (variable (codes "inventory_hostname")) ([])) (literal (text (codes "a")))) (no_expressions))); attempts = None; ignore_errors = None }) (task_step (record { line = 32; work = (debug_work (part (codes "msg") (literal (text (codes "x"))) (no_parts))); condition = (no_expressions); loop = None; register = (Some (codes "r3")); vars = (no_parts); notify = ([]); changed_when = None; failed_when = None; attempts = None; ignore_errors = None }) (task_step (record { line = 33; work = (module_work (codes "probe") (no_parts)); condition = (no_expressions); loop = None; register = (Some (codes "r2")); vars = (no_parts); notify = ([]); changed_when = None; failed_when = None; attempts = None; ignore_errors = None }) (no_steps)))) (task_step (record { line = 34; work = (module_work (codes "ping") (no_parts)); condition = (no_expressions); loop = None; register = None; vars = (no_parts); notify = ([]); changed_when = None; failed_when = None; attempts = None; ignore_errors = None }) (no_steps)) (no_steps) (no_steps))))); post_tasks = (no_steps); handlers = (record { work = (record { line = 35; work = (set_fact_work (part (codes "s3") (record_of (part (codes "f") (path (variable (codes "inventory_hostname")) ([])) (part (codes "rc") (literal (int (pos 1))) (no_parts)))) (no_parts))); condition = (no_expressions); loop = (Some (path_or (variable (codes "r1")) ((codes "results") ∷ []) (list_of (no_expressions)))); register = (Some (codes "r2")); vars = (no_parts); notify = ([]); changed_when = None; failed_when = None; attempts = None; ignore_errors = None }); name = (Some (codes "h0")); topics = ((codes "t") ∷ []) } ∷ []); forces = false } ∷ record { line = 36; pattern = ((codes "all") ∷ []); gathering = None; vars = (no_parts); is_linear = false; serial = ([]); pre_tasks = (no_steps); tasks = (task_step (record { line = 37; work = (module_work (codes "command") (part (codes "cmd") (literal (text (codes "x"))) (no_parts))); condition = (expression (negation (path_status is_skipped (variable (codes "r1")) ([]))) (no_expressions)); loop = None; register = None; vars = (no_parts); notify = ([]); changed_when = (Some (expression (literal (boolean false)) (no_expressions))); failed_when = (Some (expression (comparison equal (path (variable (codes "inventory_hostname")) ([])) (literal (text (codes "a")))) (no_expressions))); attempts = None; ignore_errors = (Some false) }) (no_steps)); post_tasks = (task_step (record { line = 38; work = (module_work (codes "odd") (no_parts)); condition = (no_expressions); loop = (Some (path_or (variable (codes "r3")) ((codes "stdout_lines") ∷ []) (list_of (no_expressions)))); register = (Some (codes "r2")); vars = (no_parts); notify = ([]); changed_when = None; failed_when = (Some (expression (literal (boolean true)) (no_expressions))); attempts = None; ignore_errors = (Some true) }) (task_step (record { line = 39; work = (module_work (codes "probe") (no_parts)); condition = (no_expressions); loop = None; register = None; vars = (no_parts); notify = ([]); changed_when = None; failed_when = None; attempts = (Some (record { until = (expression (literal (boolean false)) (no_expressions)); retries = 3 })); ignore_errors = None }) (task_step (record { line = 40; work = (set_fact_work (part (codes "s2") (literal (text (codes "t"))) (no_parts))); condition = (no_expressions); loop = None; register = (Some (codes "r1")); vars = (no_parts); notify = ((codes "h0") ∷ []); changed_when = None; failed_when = (Some (expression (path_status is_failed (variable (codes "r1")) ([])) (no_expressions))); attempts = None; ignore_errors = (Some true) }) (block_step (record { line = 41; condition = (no_expressions); vars = (no_parts); ignore_errors = None }) (task_step (record { line = 42; work = (module_work (codes "command") (part (codes "cmd") (literal (text (codes "x"))) (no_parts))); condition = (no_expressions); loop = None; register = None; vars = (no_parts); notify = ([]); changed_when = (Some (expression (literal (boolean true)) (no_expressions))); failed_when = None; attempts = None; ignore_errors = None }) (no_steps)) (block_step (record { line = 43; condition = (no_expressions); vars = (part (codes "v3") (record_of (part (codes "f") (list_of (no_expressions)) (part (codes "g") (list_of (expression (literal (int (pos 3))) (expression (literal (boolean true)) (no_expressions)))) (no_parts)))) (no_parts)); ignore_errors = None }) (task_step (record { line = 44; work = (set_fact_work (part (codes "s1") (literal (int (pos 1))) (no_parts))); condition = (no_expressions); loop = None; register = (Some (codes "r2")); vars = (no_parts); notify = ([]); changed_when = None; failed_when = None; attempts = None; ignore_errors = None }) (no_steps)) (task_step (record { line = 45; work = (module_work (codes "command") (part (codes "cmd") (literal (text (codes "x"))) (no_parts))); condition = (no_expressions); loop = None; register = (Some (codes "r3")); vars = (no_parts); notify = ([]); changed_when = (Some (expression (path_status is_changed (variable (codes "r3")) ([])) (no_expressions))); failed_when = (Some (expression (conjunction (expression (defined (variable (codes "r3")) ((codes "stdout") ∷ [])) (expression (comparison equal (path (variable (codes "r3")) ((codes "stdout") ∷ [])) (literal (text (codes "a")))) (no_expressions)))) (no_expressions))); attempts = None; ignore_errors = None }) (task_step (record { line = 46; work = (debug_work (part (codes "msg") (path (other (named_host (codes "b")) (codes "s1")) ([])) (no_parts))); condition = (expression (in_batch (named_host (codes "b"))) (no_expressions)); loop = None; register = (Some (codes "r2")); vars = (no_parts); notify = ([]); changed_when = None; failed_when = None; attempts = None; ignore_errors = None }) (task_step (record { line = 47; work = (fail_work (no_parts)); condition = (no_expressions); loop = None; register = (Some (codes "r1")); vars = (no_parts); notify = ([]); changed_when = None; failed_when = None; attempts = None; ignore_errors = (Some false) }) (no_steps)))) (no_steps) (block_step (record { line = 48; condition = (no_expressions); vars = (no_parts); ignore_errors = None }) (block_step (record { line = 49; condition = (no_expressions); vars = (no_parts); ignore_errors = None }) (task_step (record { line = 50; work = (module_work (codes "command") (part (codes "cmd") (literal (text (codes "x"))) (no_parts))); condition = (no_expressions); loop = None; register = None; vars = (no_parts); notify = ([]); changed_when = None; failed_when = None; attempts = None; ignore_errors = None }) (task_step (record { line = 51; work = (fail_work (part (codes "msg") (literal (text (codes "m"))) (no_parts))); condition = (expression (in_batch item_host) (no_expressions)); loop = (Some (path (variable (codes "groups")) ((codes "all") ∷ []))); register = (Some (codes "r3")); vars = (no_parts); notify = ((codes "h1") ∷ []); changed_when = None; failed_when = None; attempts = None; ignore_errors = None }) (no_steps))) (no_steps) (no_steps) (no_steps)) (task_step (record { line = 52; work = (set_fact_work (part (codes "s2") (literal (int (pos 1))) (no_parts))); condition = (no_expressions); loop = None; register = (Some (codes "r2")); vars = (no_parts); notify = ((codes "h1") ∷ []); changed_when = None; failed_when = None; attempts = None; ignore_errors = None }) (task_step (record { line = 53; work = (module_work (codes "command") (part (codes "cmd") (literal (text (codes "x"))) (no_parts))); condition = (no_expressions); loop = None; register = (Some (codes "r3")); vars = (no_parts); notify = ([]); changed_when = None; failed_when = None; attempts = (Some (record { until = (expression (comparison equal (path_or (variable (codes "r3")) ((codes "failed") ∷ []) (literal (boolean true))) (literal (boolean true))) (no_expressions)); retries = 3 })); ignore_errors = None }) (task_step (record { line = 54; work = (module_work (codes "ping") (no_parts)); condition = (expression (negation (defined (variable (codes "r3")) ((codes "rc") ∷ []))) (no_expressions)); loop = None; register = None; vars = (no_parts); notify = ([]); changed_when = None; failed_when = None; attempts = None; ignore_errors = None }) (no_steps)))) (task_step (record { line = 55; work = (module_work (codes "odd") (no_parts)); condition = (expression (negation (defined (variable (codes "ansible_failed_result")) ((codes "msg") ∷ []))) (no_expressions)); loop = (Some (path (variable (codes "ansible_play_batch")) ([]))); register = (Some (codes "r3")); vars = (no_parts); notify = ([]); changed_when = None; failed_when = (Some (expression (comparison equal (path (variable (codes "r3")) ((codes "changed") ∷ [])) (literal (text (codes "a")))) (no_expressions))); attempts = None; ignore_errors = None }) (block_step (record { line = 56; condition = (no_expressions); vars = (no_parts); ignore_errors = None }) (task_step (record { line = 57; work = (module_work (codes "ping") (no_parts)); condition = (no_expressions); loop = None; register = None; vars = (no_parts); notify = ([]); changed_when = None; failed_when = None; attempts = None; ignore_errors = None }) (task_step (record { line = 58; work = (module_work (codes "probe") (no_parts)); condition = (expression (in_batch item_host) (no_expressions)); loop = (Some (path (variable (codes "ansible_play_batch")) ([]))); register = None; vars = (no_parts); notify = ([]); changed_when = None; failed_when = None; attempts = None; ignore_errors = None }) (no_steps))) (no_steps) (no_steps) (no_steps))) (no_steps))) (no_steps) (no_steps))))); handlers = (record { work = (record { line = 59; work = (module_work (codes "probe") (no_parts)); condition = (no_expressions); loop = (Some (list_of (expression (literal (text (codes "a"))) (expression (literal (boolean true)) (expression (record_of (part (codes "f") (list_of (expression (literal (boolean true)) (no_expressions))) (part (codes "g") (literal (boolean false)) (no_parts)))) (no_expressions)))))); register = None; vars = (no_parts); notify = ([]); changed_when = (Some (expression (literal (boolean true)) (no_expressions))); failed_when = None; attempts = None; ignore_errors = None }); name = (Some (codes "h0")); topics = ((codes "t") ∷ []) } ∷ record { work = (record { line = 60; work = (debug_work (part (codes "msg") (path (variable (codes "r1")) ([])) (no_parts))); condition = (no_expressions); loop = None; register = (Some (codes "r3")); vars = (no_parts); notify = ([]); changed_when = None; failed_when = None; attempts = None; ignore_errors = (Some true) }); name = (Some (codes "h1")); topics = ([]) } ∷ []); forces = true } ∷ [])

abbrev random_100201_run_inventory : Inventory
random_100201_run_inventory = record { hosts = (record { name = (codes "a"); variables = (field (codes "i1") (rec (field (codes "f") (list (item (int (pos 1)) (no_items))) (field (codes "g") (list (no_items)) (no_fields)))) (field (codes "i2") (rec (no_fields)) (field (codes "op") opaque (field (codes "s1") (rec (no_fields)) (no_fields))))) } ∷ record { name = (codes "b"); variables = (field (codes "i1") (rec (field (codes "f") (list (no_items)) (field (codes "g") (text ([])) (no_fields)))) (field (codes "i2") (list (item (boolean false) (item (int (negsuc 0)) (no_items)))) (field (codes "op") opaque (field (codes "s1") (rec (no_fields)) (no_fields))))) } ∷ record { name = (codes "c"); variables = (field (codes "i2") (list (item (boolean false) (item (int (negsuc 0)) (no_items)))) (field (codes "op") opaque (field (codes "s1") (rec (no_fields)) (no_fields)))) } ∷ []); groups = (record { name = (codes "all"); hosts = ((codes "a") ∷ (codes "b") ∷ (codes "c") ∷ []) } ∷ record { name = (codes "g1"); hosts = ((codes "b") ∷ (codes "c") ∷ (codes "a") ∷ []) } ∷ record { name = (codes "g2"); hosts = ((codes "a") ∷ (codes "b") ∷ []) } ∷ record { name = (codes "ungrouped"); hosts = ([]) } ∷ []) }

abbrev random_100201_run_registry : Registry
random_100201_run_registry = (builtins ++ (record { name = (codes "probe"); params = (record { name = (codes "n"); kind = ints; required = false } ∷ record { name = (codes "l"); kind = (lists texts 3); required = false } ∷ []); ok = recs (slot (codes "changed") true booleans (slot (codes "deep") false (recs (slot (codes "a") true texts (slot (codes "b") false booleans (no_slots)))) (slot (codes "rows") true (lists texts 2) (slot (codes "v") false ints (no_slots))))); failure = recs (slot (codes "changed") true booleans (slot (codes "msg") true texts (slot (codes "v") false texts (slot (codes "why") true ints (no_slots))))); free = None } ∷ record { name = (codes "odd"); params = ([]); ok = recs (slot (codes "changed") true booleans (slot (codes "msg") false ints (no_slots))); failure = recs (slot (codes "changed") true booleans (slot (codes "msg") true texts (no_slots))); free = None } ∷ []))

random_100201_run : recaps_of random_100201_run_registry random_100201_run_inventory random_100201_run_book 1 ((object (rec (field (codes "changed") (boolean true) (field (codes "rc") (int (pos 2)) (field (codes "stderr") (text (codes "a")) (field (codes "stderr_lines") (list (item (text (codes "a")) (no_items))) (field (codes "stdout") (text (codes "a")) (field (codes "stdout_lines") (list (no_items)) (no_fields)))))))) ∷ object (rec (field (codes "changed") (boolean true) (field (codes "stat") (rec (field (codes "exists") (boolean false) (field (codes "isdir") (boolean true) (field (codes "isreg") (boolean false) (field (codes "size") (int (pos 1)) (no_fields)))))) (no_fields)))) ∷ object (rec (field (codes "ansible_facts") (rec (field (codes "ansible_hostname") (text ([])) (field (codes "ansible_memtotal_mb") (int (pos 0)) (field (codes "ansible_os_family") (text ([])) (field (codes "ansible_processor_vcpus") (int (pos 1)) (field (codes "ansible_system") (text (codes "a")) (no_fields))))))) (field (codes "changed") (boolean true) (no_fields)))) ∷ object (rec (field (codes "changed") (boolean false) (field (codes "rc") (int (pos 1)) (field (codes "stderr") (text (codes "a")) (field (codes "stderr_lines") (list (item (text ([])) (item (text (codes "c")) (item (text (codes "c")) (no_items))))) (field (codes "stdout") (text (codes "c")) (field (codes "stdout_lines") (list (item (text (codes "a")) (item (text (123 ∷ 123 ∷ 32 ∷ 120 ∷ 32 ∷ 125 ∷ 125 ∷ [])) (item (text (codes "c")) (no_items))))) (no_fields)))))))) ∷ object (rec (field (codes "changed") (boolean false) (field (codes "rc") (int (pos 2)) (field (codes "stderr") (text (codes "b")) (field (codes "stderr_lines") (list (item (text (codes "x")) (no_items))) (field (codes "stdout") (text (codes "a")) (field (codes "stdout_lines") (list (item (text (codes "c")) (item (text (codes "x")) (item (text (codes "c")) (no_items))))) (no_fields)))))))) ∷ object (rec (field (codes "changed") (boolean true) (field (codes "rc") (int (pos 0)) (field (codes "stderr") (text (codes "a")) (field (codes "stderr_lines") (list (no_items)) (field (codes "stdout") (text ([])) (field (codes "stdout_lines") (list (item (text (codes "x")) (item (text (codes "a")) (no_items)))) (no_fields)))))))) ∷ object (rec (field (codes "changed") (boolean true) (field (codes "rc") (int (pos 0)) (field (codes "stderr") (text (123 ∷ 123 ∷ 32 ∷ 120 ∷ 32 ∷ 125 ∷ 125 ∷ [])) (field (codes "stderr_lines") (list (item (text (codes "a")) (no_items))) (field (codes "stdout") (text (codes "a")) (field (codes "stdout_lines") (list (item (text (codes "b")) (no_items))) (no_fields)))))))) ∷ object (rec (field (codes "changed") (boolean true) (field (codes "rc") (int (negsuc 6)) (field (codes "stderr") (text (codes "a")) (field (codes "stderr_lines") (list (item (text (123 ∷ 123 ∷ 32 ∷ 120 ∷ 32 ∷ 125 ∷ 125 ∷ [])) (item (text (codes "c")) (no_items)))) (field (codes "stdout") (text ([])) (field (codes "stdout_lines") (list (item (text (codes "a")) (no_items))) (no_fields)))))))) ∷ object (rec (field (codes "changed") (boolean true) (field (codes "rc") (int (pos 1)) (field (codes "stderr") (text (codes "b")) (field (codes "stderr_lines") (list (item (text (123 ∷ 123 ∷ 32 ∷ 120 ∷ 32 ∷ 125 ∷ 125 ∷ [])) (no_items))) (field (codes "stdout") (text (codes "b")) (field (codes "stdout_lines") (list (item (text (codes "c")) (item (text (codes "b")) (item (text ([])) (no_items))))) (no_fields)))))))) ∷ []) ∷ (object (rec (field (codes "changed") (boolean true) (field (codes "failed") (boolean true) (field (codes "msg") (text (codes "b")) (field (codes "rc") (int (negsuc 6)) (field (codes "stderr") (text (codes "a")) (field (codes "stderr_lines") (list (item (text (codes "x")) (no_items))) (field (codes "stdout") (text (codes "x")) (field (codes "stdout_lines") (list (item (text (codes "b")) (no_items))) (no_fields)))))))))) ∷ []) ∷ (object (rec (field (codes "changed") (boolean true) (field (codes "rc") (int (negsuc 6)) (field (codes "stderr") (text (123 ∷ 123 ∷ 32 ∷ 120 ∷ 32 ∷ 125 ∷ 125 ∷ [])) (field (codes "stderr_lines") (list (item (text (codes "c")) (no_items))) (field (codes "stdout") (text (codes "c")) (field (codes "stdout_lines") (list (item (text ([])) (no_items))) (no_fields)))))))) ∷ object (rec (field (codes "changed") (boolean true) (field (codes "extra") (rec (field (codes "a") (int (pos 1)) (no_fields))) (field (codes "stat") (rec (field (codes "exists") (boolean false) (field (codes "mode") (text (codes "x")) (no_fields)))) (no_fields))))) ∷ object (rec (field (codes "ansible_facts") (rec (field (codes "ansible_hostname") (text (codes "a")) (field (codes "ansible_system") (text (codes "b")) (no_fields)))) (field (codes "changed") (boolean false) (no_fields)))) ∷ object (rec (field (codes "changed") (boolean true) (field (codes "rc") (int (pos 1)) (field (codes "stderr") (text ([])) (field (codes "stderr_lines") (list (item (text (codes "x")) (item (text (codes "a")) (no_items)))) (field (codes "stdout") (text (codes "x")) (field (codes "stdout_lines") (list (item (text (codes "a")) (no_items))) (no_fields)))))))) ∷ object (rec (field (codes "changed") (boolean false) (field (codes "failed") (boolean true) (field (codes "msg") (text (codes "a")) (field (codes "rc") (int (negsuc 6)) (field (codes "stderr") (text (123 ∷ 123 ∷ 32 ∷ 120 ∷ 32 ∷ 125 ∷ 125 ∷ [])) (field (codes "stderr_lines") (list (item (text (codes "x")) (no_items))) (field (codes "stdout") (text (codes "b")) (field (codes "stdout_lines") (list (no_items)) (no_fields)))))))))) ∷ []) ∷ []) ≡ (record { ok = 9; changed = 4; unreachable = 0; failed = 1; skipped = 2; rescued = 1; ignored = 0 } ∷ record { ok = 0; changed = 0; unreachable = 0; failed = 1; skipped = 0; rescued = 0; ignored = 0 } ∷ record { ok = 5; changed = 4; unreachable = 0; failed = 1; skipped = 0; rescued = 0; ignored = 0 } ∷ [])
unfolding digits
random_100201_run = refl

-- random_100215_run:
abbrev random_100215_run_book : Book
random_100215_run_book = (record { line = 1; pattern = ((codes "all") ∷ []); gathering = None; vars = (no_parts); is_linear = true; serial = ([]); pre_tasks = (no_steps); tasks = (task_step (record { line = 2; work = (set_fact_work (part (codes "s2") (list_of (expression (path_or (variable (codes "i2")) ([]) (path (variable (codes "s1")) ([]))) (no_expressions))) (no_parts))); condition = (no_expressions); loop = None; register = None; vars = (part (codes "v3") (path (variable (codes "r2")) ([])) (no_parts)); notify = ([]); changed_when = None; failed_when = None; attempts = None; ignore_errors = (Some true) }) (task_step (record { line = 3; work = (debug_work (part (codes "msg") (literal (text (codes "x"))) (no_parts))); condition = (no_expressions); loop = None; register = (Some (codes "r3")); vars = (part (codes "v2") (concatenation (expression (literal (text (codes "x"))) (expression (path (variable (codes "r1")) ((codes "failed") ∷ [])) (no_expressions)))) (no_parts)); notify = ([]); changed_when = None; failed_when = None; attempts = None; ignore_errors = None }) (task_step (record { line = 4; work = (module_work (codes "setup") (no_parts)); condition = (expression (negation (defined (variable (codes "r3")) ((codes "changed") ∷ []))) (no_expressions)); loop = None; register = (Some (codes "r2")); vars = (no_parts); notify = ([]); changed_when = None; failed_when = None; attempts = None; ignore_errors = None }) (task_step (record { line = 5; work = (module_work (codes "ping") (no_parts)); condition = (no_expressions); loop = None; register = None; vars = (part (codes "v1") (comparison equal (path (variable (codes "r3")) ([])) (path (variable (codes "i1")) ([]))) (part (codes "v3") (path (variable (codes "s1")) ((codes "stdout") ∷ [])) (no_parts))); notify = ([]); changed_when = None; failed_when = None; attempts = None; ignore_errors = (Some false) }) (no_steps))))); post_tasks = (no_steps); handlers = (record { work = (record { line = 6; work = (module_work (codes "command") (part (codes "cmd") (literal (text (codes "x"))) (no_parts))); condition = (no_expressions); loop = None; register = (Some (codes "r1")); vars = (no_parts); notify = ([]); changed_when = None; failed_when = None; attempts = (Some (record { until = (expression (path_status is_failed (variable (codes "r1")) ([])) (no_expressions)); retries = 3 })); ignore_errors = None }); name = (Some (codes "h0")); topics = ((codes "t") ∷ []) } ∷ record { work = (record { line = 7; work = (module_work (codes "command") (part (codes "cmd") (literal (text (codes "x"))) (no_parts))); condition = (no_expressions); loop = (Some (path (variable (codes "ansible_play_batch")) ([]))); register = (Some (codes "r2")); vars = (no_parts); notify = ([]); changed_when = None; failed_when = (Some (expression (comparison equal (path (variable (codes "r2")) ((codes "stderr") ∷ [])) (literal (text (codes "a")))) (no_expressions))); attempts = None; ignore_errors = (Some true) }); name = (Some (codes "h1")); topics = ((codes "t") ∷ []) } ∷ record { work = (record { line = 8; work = (set_fact_work (part (codes "s2") (literal (int (pos 1))) (no_parts))); condition = (expression (negation (defined (variable (codes "s1")) ([]))) (no_expressions)); loop = None; register = (Some (codes "r1")); vars = (no_parts); notify = ([]); changed_when = None; failed_when = None; attempts = None; ignore_errors = None }); name = (Some (codes "h2")); topics = ((codes "t") ∷ []) } ∷ []); forces = false } ∷ record { line = 9; pattern = ((codes "all") ∷ []); gathering = None; vars = (no_parts); is_linear = false; serial = ([]); pre_tasks = (no_steps); tasks = (block_step (record { line = 10; condition = (no_expressions); vars = (no_parts); ignore_errors = None }) (no_steps) (no_steps) (no_steps) (flush_step 11 (no_steps))); post_tasks = (no_steps); handlers = (record { work = (record { line = 12; work = (module_work (codes "command") (part (codes "cmd") (literal (text (codes "x"))) (no_parts))); condition = (no_expressions); loop = None; register = None; vars = (no_parts); notify = ([]); changed_when = None; failed_when = None; attempts = None; ignore_errors = None }); name = (Some (codes "h0")); topics = ((codes "t") ∷ []) } ∷ []); forces = false } ∷ [])

abbrev random_100215_run_inventory : Inventory
random_100215_run_inventory = record { hosts = (record { name = (codes "a"); variables = (field (codes "i1") (text (codes "b")) (field (codes "i2") (text (codes "no")) (field (codes "op") opaque (field (codes "s1") (text (codes "no")) (no_fields))))) } ∷ record { name = (codes "b"); variables = (field (codes "i1") (text (codes "b")) (field (codes "i2") (text (codes "no")) (field (codes "s1") (text (codes "no")) (no_fields)))) } ∷ record { name = (codes "c"); variables = (field (codes "i1") (text ([])) (field (codes "i2") (text (codes "no")) (field (codes "s1") (text (codes "no")) (no_fields)))) } ∷ record { name = (codes "d"); variables = (field (codes "i1") (rec (field (codes "f") (text (codes "b")) (no_fields))) (field (codes "i2") (text (codes "no")) (field (codes "op") opaque (field (codes "s1") (text (codes "no")) (no_fields))))) } ∷ []); groups = (record { name = (codes "all"); hosts = ((codes "a") ∷ (codes "b") ∷ (codes "c") ∷ (codes "d") ∷ []) } ∷ record { name = (codes "g1"); hosts = ((codes "a") ∷ (codes "c") ∷ (codes "d") ∷ (codes "b") ∷ []) } ∷ record { name = (codes "g2"); hosts = ((codes "a") ∷ (codes "b") ∷ (codes "c") ∷ (codes "d") ∷ []) } ∷ record { name = (codes "ungrouped"); hosts = ([]) } ∷ []) }

abbrev random_100215_run_registry : Registry
random_100215_run_registry = (builtins ++ (record { name = (codes "probe"); params = (record { name = (codes "n"); kind = ints; required = false } ∷ record { name = (codes "l"); kind = (lists texts 3); required = false } ∷ []); ok = recs (slot (codes "changed") true booleans (slot (codes "deep") false (recs (slot (codes "a") true texts (slot (codes "b") false booleans (no_slots)))) (slot (codes "rows") true (lists texts 2) (slot (codes "v") false ints (no_slots))))); failure = recs (slot (codes "changed") true booleans (slot (codes "msg") true texts (slot (codes "v") false texts (slot (codes "why") true ints (no_slots))))); free = None } ∷ record { name = (codes "odd"); params = ([]); ok = recs (slot (codes "changed") true booleans (slot (codes "msg") false ints (no_slots))); failure = recs (slot (codes "changed") true booleans (slot (codes "msg") true texts (no_slots))); free = None } ∷ []))

random_100215_run : recaps_of random_100215_run_registry random_100215_run_inventory random_100215_run_book 1 ((object (rec (field (codes "changed") (boolean false) (field (codes "failed") (boolean true) (field (codes "msg") (text (codes "b")) (no_fields))))) ∷ []) ∷ (object (rec (field (codes "changed") (boolean true) (field (codes "ping") (text (codes "c")) (no_fields)))) ∷ []) ∷ (object (rec (field (codes "changed") (boolean true) (field (codes "ping") (text (123 ∷ 123 ∷ 32 ∷ 120 ∷ 32 ∷ 125 ∷ 125 ∷ [])) (no_fields)))) ∷ []) ∷ (object (rec (field (codes "changed") (boolean false) (field (codes "ping") (text (codes "a")) (no_fields)))) ∷ []) ∷ []) ≡ (record { ok = 2; changed = 0; unreachable = 0; failed = 1; skipped = 1; rescued = 0; ignored = 0 } ∷ record { ok = 3; changed = 1; unreachable = 0; failed = 0; skipped = 1; rescued = 0; ignored = 0 } ∷ record { ok = 3; changed = 1; unreachable = 0; failed = 0; skipped = 1; rescued = 0; ignored = 0 } ∷ record { ok = 3; changed = 0; unreachable = 0; failed = 0; skipped = 1; rescued = 0; ignored = 0 } ∷ [])
unfolding digits
random_100215_run = refl
