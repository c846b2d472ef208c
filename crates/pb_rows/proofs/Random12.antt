-- Cases of random, computed.
use Rattle.std.specs.Prelude.{◌≡◌, refl, pos, negsuc, [], ◌∷◌, ◌++◌, true, false, Some, None, codes}
use Rattle.std.specs.Fmt.{digits}
use Rattle.pb_semantics.specs.Data.{null, boolean, int, text, list, rec, opaque, no_items, item, no_fields, field}
use Rattle.pb_semantics.specs.Kind.{booleans, ints, texts, lists, recs, no_slots, slot}
use Rattle.pb_language.specs.Expression.{equal, is_failed, is_changed, is_skipped, named_host, this_host, group_member, literal, path, negation, conjunction, disjunction, comparison, membership, in_batch, defined, path_status, path_or, length_of, concatenation, list_of, record_of, variable, other, no_expressions, expression, no_parts, part}
use Rattle.pb_language.specs.Book.{conditions_are, module_work, debug_work, set_fact_work, assert_work, fail_work, no_steps, task_step, block_step, flush_step, host_count, Book, Registry}
use Rattle.pb_language.specs.Builtins.{builtins}
use Rattle.pb_language.specs.Give.{object}
use Rattle.pb_language.specs.Judged.{judged}
use Rattle.pb_language.specs.Program.{Inventory}
use Rattle.pb_language.specs.Verdict.{accepted, refused}
use Rattle.pb_rows.specs.Recaps.{recaps_of}

-- random_002501:
abbrev random_002501_book : Book
random_002501_book = (record { line = 1; pattern = ((codes "g1") ∷ []); gathering = None; vars = (no_parts); is_linear = true; serial = ([]); pre_tasks = (no_steps); tasks = (task_step (record { line = 2; work = (module_work (codes "probe") (no_parts)); condition = (no_expressions); loop = None; register = (Some (codes "r2")); vars = (no_parts); notify = ([]); changed_when = (Some (expression (comparison equal (path (variable (codes "r2")) ((codes "deep") ∷ [])) (literal (text (codes "a")))) (no_expressions))); failed_when = None; attempts = None; ignore_errors = None }) (task_step (record { line = 3; work = (debug_work (part (codes "msg") (literal (text (codes "t"))) (no_parts))); condition = (no_expressions); loop = (Some (list_of (expression (list_of (expression (literal (text (codes "t"))) (expression (literal (boolean false)) (no_expressions)))) (expression (record_of (part (codes "f") (literal (text (codes "a"))) (part (codes "g") (literal (int (pos 1))) (no_parts)))) (no_expressions))))); register = (Some (codes "r3")); vars = (no_parts); notify = ([]); changed_when = None; failed_when = (Some (expression (comparison equal (path (variable (codes "inventory_hostname")) ([])) (literal (text (codes "a")))) (no_expressions))); attempts = None; ignore_errors = None }) (task_step (record { line = 4; work = (module_work (codes "command") (part (codes "cmd") (literal (text (codes "x"))) (no_parts))); condition = (no_expressions); loop = None; register = None; vars = (no_parts); notify = ([]); changed_when = None; failed_when = None; attempts = (Some (record { until = (expression (comparison equal (path (variable (codes "inventory_hostname")) ([])) (literal (text (codes "a")))) (no_expressions)); retries = 1 })); ignore_errors = None }) (flush_step 5 (no_steps))))); post_tasks = (no_steps); handlers = ([]); forces = true } ∷ [])

abbrev random_002501_inventory : Inventory
random_002501_inventory = record { hosts = (record { name = (codes "a"); variables = (field (codes "s1") (list (no_items)) (no_fields)) } ∷ record { name = (codes "b"); variables = (field (codes "i2") (rec (field (codes "f") (rec (field (codes "f") (int (pos 1)) (field (codes "g") (text (codes "x")) (no_fields)))) (field (codes "g") (list (no_items)) (no_fields)))) (field (codes "s1") (boolean false) (no_fields))) } ∷ []); groups = (record { name = (codes "all"); hosts = ((codes "a") ∷ (codes "b") ∷ []) } ∷ record { name = (codes "g1"); hosts = ([]) } ∷ record { name = (codes "g2"); hosts = ((codes "b") ∷ []) } ∷ record { name = (codes "ungrouped"); hosts = ((codes "a") ∷ []) } ∷ []) }

abbrev random_002501_registry : Registry
random_002501_registry = (builtins ++ (record { name = (codes "probe"); params = (record { name = (codes "n"); kind = ints; required = false } ∷ record { name = (codes "l"); kind = (lists texts 3); required = false } ∷ []); ok = recs (slot (codes "changed") true booleans (slot (codes "deep") false (recs (slot (codes "a") true texts (slot (codes "b") false booleans (no_slots)))) (slot (codes "rows") true (lists texts 2) (slot (codes "v") false ints (no_slots))))); failure = recs (slot (codes "changed") true booleans (slot (codes "msg") true texts (slot (codes "v") false texts (slot (codes "why") true ints (no_slots))))); free = None } ∷ record { name = (codes "odd"); params = ([]); ok = recs (slot (codes "changed") true booleans (slot (codes "msg") false ints (no_slots))); failure = recs (slot (codes "changed") true booleans (slot (codes "msg") true texts (no_slots))); free = None } ∷ []))

random_002501 : judged random_002501_registry random_002501_inventory random_002501_book ≡ accepted 0
random_002501 = refl

-- random_002503:
abbrev random_002503_book : Book
random_002503_book = (record { line = 1; pattern = ((codes "c") ∷ (codes "all") ∷ []); gathering = None; vars = (part (codes "v2") (path_or (variable (codes "r3")) ((codes "changed") ∷ []) (list_of (no_expressions))) (no_parts)); is_linear = true; serial = ([]); pre_tasks = (no_steps); tasks = (block_step (record { line = 2; condition = (no_expressions); vars = (no_parts); ignore_errors = None }) (task_step (record { line = 3; work = (module_work (codes "ping") (no_parts)); condition = (no_expressions); loop = None; register = (Some (codes "r2")); vars = (no_parts); notify = ([]); changed_when = None; failed_when = None; attempts = None; ignore_errors = None }) (task_step (record { line = 4; work = (set_fact_work (part (codes "s2") (literal (text (codes "t"))) (part (codes "s3") (literal (text ([]))) (no_parts)))); condition = (no_expressions); loop = None; register = None; vars = (no_parts); notify = ([]); changed_when = None; failed_when = None; attempts = None; ignore_errors = None }) (task_step (record { line = 5; work = (set_fact_work (part (codes "s3") (literal (int (pos 1))) (no_parts))); condition = (expression (in_batch (named_host (codes "a"))) (no_expressions)); loop = None; register = None; vars = (no_parts); notify = ([]); changed_when = None; failed_when = (Some (expression (comparison equal (path (variable (codes "inventory_hostname")) ([])) (literal (text (codes "a")))) (no_expressions))); attempts = None; ignore_errors = None }) (no_steps)))) (task_step (record { line = 6; work = (module_work (codes "command") (part (codes "cmd") (literal (text (codes "x"))) (no_parts))); condition = (no_expressions); loop = None; register = (Some (codes "r3")); vars = (no_parts); notify = ([]); changed_when = None; failed_when = None; attempts = None; ignore_errors = None }) (task_step (record { line = 7; work = (module_work (codes "odd") (no_parts)); condition = (no_expressions); loop = None; register = (Some (codes "r2")); vars = (no_parts); notify = ([]); changed_when = None; failed_when = (Some (expression (literal (boolean true)) (no_expressions))); attempts = None; ignore_errors = None }) (task_step (record { line = 8; work = (module_work (codes "probe") (no_parts)); condition = (no_expressions); loop = None; register = (Some (codes "r2")); vars = (no_parts); notify = ([]); changed_when = None; failed_when = None; attempts = None; ignore_errors = None }) (no_steps)))) (no_steps) (task_step (record { line = 9; work = (set_fact_work (part (codes "s3") (record_of (part (codes "f") (path (variable (codes "r2")) ((codes "deep") ∷ [])) (part (codes "rc") (literal (int (pos 1))) (no_parts)))) (no_parts))); condition = (expression (membership (literal (text (codes "g1"))) (path (variable (codes "group_names")) ([]))) (expression (path_status is_failed (variable (codes "r2")) ([])) (no_expressions))); loop = None; register = (Some (codes "r1")); vars = (no_parts); notify = ([]); changed_when = None; failed_when = None; attempts = None; ignore_errors = None }) (no_steps))); post_tasks = (no_steps); handlers = ([]); forces = false } ∷ record { line = 10; pattern = ((codes "g1") ∷ []); gathering = None; vars = (no_parts); is_linear = true; serial = ([]); pre_tasks = (no_steps); tasks = (block_step (record { line = 11; condition = (no_expressions); vars = (no_parts); ignore_errors = None }) (block_step (record { line = 12; condition = (no_expressions); vars = (no_parts); ignore_errors = None }) (block_step (record { line = 13; condition = (no_expressions); vars = (no_parts); ignore_errors = None }) (task_step (record { line = 14; work = (module_work (codes "command") (part (codes "cmd") (literal (text (codes "x"))) (no_parts))); condition = (no_expressions); loop = None; register = None; vars = (no_parts); notify = ([]); changed_when = None; failed_when = None; attempts = None; ignore_errors = None }) (task_step (record { line = 15; work = (module_work (codes "probe") (no_parts)); condition = (no_expressions); loop = None; register = (Some (codes "r1")); vars = (no_parts); notify = ([]); changed_when = None; failed_when = None; attempts = None; ignore_errors = None }) (no_steps))) (task_step (record { line = 16; work = (module_work (codes "probe") (no_parts)); condition = (no_expressions); loop = None; register = (Some (codes "r3")); vars = (no_parts); notify = ((codes "t") ∷ []); changed_when = (Some (expression (literal (boolean true)) (no_expressions))); failed_when = None; attempts = None; ignore_errors = None }) (task_step (record { line = 17; work = (module_work (codes "setup") (no_parts)); condition = (no_expressions); loop = None; register = None; vars = (no_parts); notify = ([]); changed_when = None; failed_when = None; attempts = None; ignore_errors = None }) (task_step (record { line = 18; work = (assert_work (conditions_are (expression (in_batch (named_host (codes "c"))) (no_expressions))) (no_parts)); condition = (expression (comparison equal (path (variable (codes "inventory_hostname")) ([])) (literal (text (codes "b")))) (no_expressions)); loop = None; register = None; vars = (no_parts); notify = ([]); changed_when = None; failed_when = None; attempts = None; ignore_errors = None }) (no_steps)))) (no_steps) (no_steps)) (task_step (record { line = 19; work = (module_work (codes "setup") (no_parts)); condition = (no_expressions); loop = None; register = (Some (codes "r3")); vars = (no_parts); notify = ((codes "h1") ∷ []); changed_when = (Some (expression (literal (boolean true)) (no_expressions))); failed_when = None; attempts = (Some (record { until = (expression (literal (boolean false)) (no_expressions)); retries = 3 })); ignore_errors = (Some true) }) (task_step (record { line = 20; work = (module_work (codes "stat") (part (codes "path") (literal (text (codes "/"))) (no_parts))); condition = (no_expressions); loop = None; register = (Some (codes "r2")); vars = (no_parts); notify = ([]); changed_when = None; failed_when = None; attempts = None; ignore_errors = None }) (no_steps))) (task_step (record { line = 21; work = (set_fact_work (part (codes "s1") (literal (int (pos 1))) (no_parts))); condition = (no_expressions); loop = None; register = (Some (codes "r2")); vars = (no_parts); notify = ((codes "h2") ∷ []); changed_when = None; failed_when = None; attempts = None; ignore_errors = None }) (no_steps)) (no_steps)) (task_step (record { line = 22; work = (module_work (codes "command") (part (codes "cmd") (literal (text (codes "x"))) (no_parts))); condition = (expression (disjunction (expression (path_status is_changed (variable (codes "r2")) ([])) (expression (negation (defined (variable (codes "r1")) ((codes "rows") ∷ []))) (no_expressions)))) (no_expressions)); loop = None; register = None; vars = (no_parts); notify = ([]); changed_when = None; failed_when = None; attempts = None; ignore_errors = None }) (block_step (record { line = 23; condition = (no_expressions); vars = (no_parts); ignore_errors = None }) (task_step (record { line = 24; work = (module_work (codes "command") (part (codes "cmd") (literal (text (codes "x"))) (no_parts))); condition = (no_expressions); loop = None; register = (Some (codes "r3")); vars = (no_parts); notify = ((codes "h1") ∷ []); changed_when = None; failed_when = None; attempts = None; ignore_errors = None }) (task_step (record { line = 25; work = (debug_work (part (codes "msg") (path (variable (codes "r1")) ((codes "deep") ∷ [])) (no_parts))); condition = (expression (path_status is_changed (variable (codes "r1")) ([])) (expression (path_status is_failed (variable (codes "r1")) ([])) (no_expressions))); loop = None; register = None; vars = (no_parts); notify = ([]); changed_when = None; failed_when = None; attempts = None; ignore_errors = (Some true) }) (no_steps))) (block_step (record { line = 26; condition = (expression (negation (path_status is_changed (variable (codes "r3")) ([]))) (no_expressions)); vars = (no_parts); ignore_errors = None }) (task_step (record { line = 27; work = (module_work (codes "command") (part (codes "cmd") (concatenation (expression (literal (text (codes "x x"))) (expression (list_of (expression (path (variable (codes "r2")) ((codes "changed") ∷ [])) (expression (path (variable (codes "r2")) ((codes "changed") ∷ [])) (no_expressions)))) (no_expressions)))) (no_parts))); condition = (expression (defined (variable (codes "r2")) ((codes "changed") ∷ [])) (no_expressions)); loop = None; register = None; vars = (no_parts); notify = ([]); changed_when = None; failed_when = None; attempts = None; ignore_errors = None }) (task_step (record { line = 28; work = (debug_work (part (codes "msg") (path (variable (codes "s1")) ((codes "stdout") ∷ [])) (no_parts))); condition = (expression (path_status is_failed (variable (codes "s1")) ([])) (no_expressions)); loop = None; register = None; vars = (no_parts); notify = ([]); changed_when = (Some (expression (comparison equal (path (variable (codes "inventory_hostname")) ([])) (literal (text (codes "a")))) (no_expressions))); failed_when = (Some (expression (literal (boolean false)) (no_expressions))); attempts = None; ignore_errors = None }) (task_step (record { line = 29; work = (set_fact_work (part (codes "s2") (record_of (part (codes "f") (concatenation (expression (literal (text (codes "x"))) (expression (path (other (named_host (codes "b")) (codes "s2")) ([])) (no_expressions)))) (part (codes "rc") (literal (int (pos 1))) (no_parts)))) (no_parts))); condition = (expression (in_batch (named_host (codes "b"))) (no_expressions)); loop = (Some (path_or (variable (codes "r2")) ((codes "results") ∷ []) (list_of (no_expressions)))); register = (Some (codes "r3")); vars = (no_parts); notify = ((codes "t") ∷ []); changed_when = None; failed_when = (Some (expression (literal (boolean true)) (no_expressions))); attempts = None; ignore_errors = None }) (no_steps)))) (task_step (record { line = 30; work = (set_fact_work (part (codes "s2") (record_of (part (codes "f") (comparison equal (path (variable (codes "s3")) ([])) (path (other (named_host (codes "c")) (codes "s2")) ([]))) (part (codes "rc") (literal (int (pos 1))) (no_parts)))) (no_parts))); condition = (no_expressions); loop = None; register = None; vars = (no_parts); notify = ([]); changed_when = (Some (expression (literal (boolean true)) (no_expressions))); failed_when = None; attempts = None; ignore_errors = None }) (no_steps)) (task_step (record { line = 31; work = (module_work (codes "command") (part (codes "cmd") (literal (text (codes "x"))) (no_parts))); condition = (no_expressions); loop = None; register = (Some (codes "r1")); vars = (no_parts); notify = ((codes "h0") ∷ []); changed_when = None; failed_when = None; attempts = None; ignore_errors = None }) (task_step (record { line = 32; work = (module_work (codes "stat") (part (codes "path") (literal (text (codes "/"))) (no_parts))); condition = (no_expressions); loop = None; register = (Some (codes "r2")); vars = (no_parts); notify = ((codes "h0") ∷ []); changed_when = (Some (expression (literal (boolean true)) (no_expressions))); failed_when = None; attempts = None; ignore_errors = None }) (no_steps))) (no_steps)) (task_step (record { line = 33; work = (set_fact_work (part (codes "s1") (literal (int (pos 3))) (part (codes "s2") (literal (int (pos 1))) (no_parts)))); condition = (expression (disjunction (expression (comparison equal (path (variable (codes "inventory_hostname")) ([])) (literal (text (codes "b")))) (expression (negation (path_status is_changed (variable (codes "r1")) ([]))) (no_expressions)))) (expression (defined (variable (codes "i2")) ((codes "stdout") ∷ [])) (no_expressions))); loop = None; register = None; vars = (no_parts); notify = ([]); changed_when = None; failed_when = None; attempts = None; ignore_errors = None }) (task_step (record { line = 34; work = (debug_work (part (codes "msg") (concatenation (expression (literal (text (codes "x"))) (expression (length_of (path (other this_host (codes "r3")) ((codes "changed") ∷ []))) (no_expressions)))) (no_parts))); condition = (expression (defined (other this_host (codes "r3")) ([])) (expression (negation (path_status is_skipped (other this_host (codes "r3")) ([]))) (no_expressions))); loop = None; register = (Some (codes "r1")); vars = (no_parts); notify = ((codes "h1") ∷ []); changed_when = None; failed_when = None; attempts = None; ignore_errors = None }) (task_step (record { line = 35; work = (debug_work (part (codes "msg") (comparison equal (path (variable (codes "r3")) ((codes "skip_reason") ∷ [])) (path (variable (codes "groups")) ((codes "all") ∷ []))) (no_parts))); condition = (no_expressions); loop = (Some (list_of (expression (record_of (part (codes "f") (literal (int (negsuc 0))) (no_parts))) (expression (list_of (no_expressions)) (expression (literal (text (codes "no"))) (no_expressions)))))); register = (Some (codes "r2")); vars = (no_parts); notify = ([]); changed_when = None; failed_when = (Some (expression (comparison equal (path (variable (codes "r2")) ((codes "failed") ∷ [])) (literal (int (pos 1)))) (no_expressions))); attempts = None; ignore_errors = None }) (no_steps)))) (block_step (record { line = 36; condition = (no_expressions); vars = (no_parts); ignore_errors = None }) (task_step (record { line = 37; work = (debug_work (part (codes "msg") (path (other (named_host (codes "b")) (codes "i1")) ([])) (no_parts))); condition = (no_expressions); loop = None; register = (Some (codes "r1")); vars = (no_parts); notify = ([]); changed_when = (Some (expression (path_status is_changed (variable (codes "r1")) ([])) (no_expressions))); failed_when = None; attempts = None; ignore_errors = None }) (no_steps)) (task_step (record { line = 38; work = (module_work (codes "odd") (no_parts)); condition = (no_expressions); loop = None; register = None; vars = (no_parts); notify = ([]); changed_when = None; failed_when = None; attempts = None; ignore_errors = None }) (no_steps)) (no_steps) (no_steps)))) (block_step (record { line = 39; condition = (no_expressions); vars = (no_parts); ignore_errors = None }) (task_step (record { line = 40; work = (set_fact_work (part (codes "s3") (literal (text (codes "a"))) (no_parts))); condition = (no_expressions); loop = None; register = (Some (codes "r1")); vars = (no_parts); notify = ([]); changed_when = None; failed_when = None; attempts = None; ignore_errors = None }) (task_step (record { line = 41; work = (module_work (codes "odd") (no_parts)); condition = (no_expressions); loop = None; register = None; vars = (no_parts); notify = ([]); changed_when = None; failed_when = None; attempts = None; ignore_errors = None }) (task_step (record { line = 42; work = (module_work (codes "probe") (no_parts)); condition = (no_expressions); loop = None; register = None; vars = (no_parts); notify = ([]); changed_when = None; failed_when = None; attempts = None; ignore_errors = None }) (no_steps)))) (task_step (record { line = 43; work = (module_work (codes "setup") (no_parts)); condition = (no_expressions); loop = None; register = None; vars = (no_parts); notify = ((codes "h1") ∷ []); changed_when = None; failed_when = None; attempts = None; ignore_errors = None }) (task_step (record { line = 44; work = (module_work (codes "command") (part (codes "cmd") (literal (text (codes "x"))) (no_parts))); condition = (no_expressions); loop = None; register = None; vars = (no_parts); notify = ((codes "t") ∷ []); changed_when = (Some (expression (literal (boolean true)) (no_expressions))); failed_when = None; attempts = None; ignore_errors = None }) (task_step (record { line = 45; work = (assert_work (conditions_are (expression (defined (variable (codes "r3")) ((codes "failed") ∷ [])) (no_expressions))) (no_parts)); condition = (no_expressions); loop = None; register = (Some (codes "r2")); vars = (no_parts); notify = ((codes "t") ∷ []); changed_when = (Some (expression (comparison equal (path (variable (codes "r2")) ((codes "changed") ∷ [])) (literal (int (pos 1)))) (no_expressions))); failed_when = None; attempts = None; ignore_errors = None }) (no_steps)))) (no_steps) (task_step (record { line = 46; work = (module_work (codes "ping") (no_parts)); condition = (no_expressions); loop = None; register = None; vars = (no_parts); notify = ([]); changed_when = None; failed_when = None; attempts = None; ignore_errors = None }) (no_steps))) (flush_step 47 (task_step (record { line = 48; work = (module_work (codes "setup") (no_parts)); condition = (expression (negation (defined (other (group_member (codes "all") 0) (codes "r1")) ((codes "changed") ∷ []))) (no_expressions)); loop = None; register = None; vars = (no_parts); notify = ([]); changed_when = (Some (expression (comparison equal (path (variable (codes "inventory_hostname")) ([])) (literal (text (codes "a")))) (no_expressions))); failed_when = None; attempts = None; ignore_errors = None }) (no_steps)))); post_tasks = (no_steps); handlers = (record { work = (record { line = 49; work = (module_work (codes "probe") (no_parts)); condition = (expression (negation (defined (other (named_host (codes "b")) (codes "s3")) ([]))) (no_expressions)); loop = (Some (path (other (named_host (codes "b")) (codes "i1")) ([]))); register = (Some (codes "r1")); vars = (no_parts); notify = ((codes "h1") ∷ []); changed_when = None; failed_when = None; attempts = None; ignore_errors = (Some true) }); name = (Some (codes "h0")); topics = ((codes "t") ∷ []) } ∷ record { work = (record { line = 50; work = (module_work (codes "ping") (no_parts)); condition = (no_expressions); loop = None; register = None; vars = (no_parts); notify = ((codes "h2") ∷ []); changed_when = None; failed_when = None; attempts = None; ignore_errors = None }); name = (Some (codes "h1")); topics = ([]) } ∷ record { work = (record { line = 51; work = (module_work (codes "probe") (part (codes "n") (path (variable (codes "s1")) ([])) (no_parts))); condition = (no_expressions); loop = None; register = None; vars = (part (codes "v1") (path (variable (codes "s2")) ([])) (part (codes "v2") (path (variable (codes "r2")) ((codes "changed") ∷ [])) (no_parts))); notify = ([]); changed_when = None; failed_when = None; attempts = None; ignore_errors = None }); name = (Some (codes "h2")); topics = ([]) } ∷ []); forces = false } ∷ [])

abbrev random_002503_inventory : Inventory
random_002503_inventory = record { hosts = (record { name = (codes "a"); variables = (field (codes "i2") (boolean false) (no_fields)) } ∷ record { name = (codes "b"); variables = (field (codes "i2") (boolean false) (field (codes "op") opaque (no_fields))) } ∷ record { name = (codes "c"); variables = (field (codes "i2") (boolean true) (no_fields)) } ∷ []); groups = (record { name = (codes "all"); hosts = ((codes "a") ∷ (codes "b") ∷ (codes "c") ∷ []) } ∷ record { name = (codes "g1"); hosts = ((codes "a") ∷ (codes "b") ∷ (codes "c") ∷ []) } ∷ record { name = (codes "ungrouped"); hosts = ([]) } ∷ []) }

abbrev random_002503_registry : Registry
random_002503_registry = (builtins ++ (record { name = (codes "probe"); params = (record { name = (codes "n"); kind = ints; required = false } ∷ record { name = (codes "l"); kind = (lists texts 3); required = false } ∷ []); ok = recs (slot (codes "changed") true booleans (slot (codes "deep") false (recs (slot (codes "a") true texts (slot (codes "b") false booleans (no_slots)))) (slot (codes "rows") true (lists texts 2) (slot (codes "v") false ints (no_slots))))); failure = recs (slot (codes "changed") true booleans (slot (codes "msg") true texts (slot (codes "v") false texts (slot (codes "why") true ints (no_slots))))); free = None } ∷ record { name = (codes "odd"); params = ([]); ok = recs (slot (codes "changed") true booleans (slot (codes "msg") false ints (no_slots))); failure = recs (slot (codes "changed") true booleans (slot (codes "msg") true texts (no_slots))); free = None } ∷ []))

random_002503 : judged random_002503_registry random_002503_inventory random_002503_book ≡ refused (record { code = 3; line = 25; host = (Some (codes "a")) })
random_002503 = refl

-- random_002548:
abbrev random_002548_book : Book
random_002548_book = (record { line = 1; pattern = ((codes "all") ∷ []); gathering = None; vars = (no_parts); is_linear = true; serial = ([]); pre_tasks = (no_steps); tasks = (task_step (record { line = 2; work = (module_work (codes "setup") (no_parts)); condition = (expression (path (variable (codes "y")) ([])) (no_expressions)); loop = (Some (path (variable (codes "groups")) ((codes "all") ∷ []))); register = (Some (codes "r")); vars = (no_parts); notify = ([]); changed_when = None; failed_when = None; attempts = None; ignore_errors = None }) (no_steps)); post_tasks = (no_steps); handlers = (record { work = (record { line = 3; work = (module_work (codes "command") (part (codes "cmd") (literal (text (codes "x"))) (no_parts))); condition = (no_expressions); loop = None; register = None; vars = (no_parts); notify = ([]); changed_when = None; failed_when = None; attempts = (Some (record { until = (expression (literal (boolean true)) (no_expressions)); retries = 3 })); ignore_errors = None }); name = (Some (codes "h0")); topics = ([]) } ∷ record { work = (record { line = 4; work = (module_work (codes "setup") (no_parts)); condition = (no_expressions); loop = None; register = None; vars = (no_parts); notify = ([]); changed_when = None; failed_when = (Some (expression (literal (boolean true)) (no_expressions))); attempts = (Some (record { until = (expression (path (variable (codes "zz")) ((codes "changed") ∷ [])) (no_expressions)); retries = 1 })); ignore_errors = None }); name = (Some (codes "h1")); topics = ([]) } ∷ []); forces = false } ∷ [])

abbrev random_002548_inventory : Inventory
random_002548_inventory = record { hosts = (record { name = (codes "c"); variables = (field (codes "inv") (list (item (int (pos 1)) (item (int (pos 2)) (no_items)))) (no_fields)) } ∷ record { name = (codes "b"); variables = (field (codes "inv") (list (item (int (pos 1)) (item (int (pos 2)) (no_items)))) (field (codes "k") (rec (field (codes "z") opaque (no_fields))) (no_fields))) } ∷ record { name = (codes "a"); variables = (field (codes "inv") (list (item (text (codes "x")) (no_items))) (field (codes "opq") opaque (no_fields))) } ∷ []); groups = (record { name = (codes "all"); hosts = ((codes "c") ∷ (codes "b") ∷ (codes "a") ∷ []) } ∷ record { name = (codes "g"); hosts = ((codes "b") ∷ (codes "a") ∷ []) } ∷ record { name = (codes "ungrouped"); hosts = ((codes "c") ∷ []) } ∷ []) }

abbrev random_002548_registry : Registry
random_002548_registry = (builtins ++ ([]))

random_002548 : judged random_002548_registry random_002548_inventory random_002548_book ≡ refused (record { code = 1; line = 2; host = (Some (codes "c")) })
random_002548 = refl

-- random_002569:
abbrev random_002569_book : Book
random_002569_book = (record { line = 1; pattern = ((codes "all") ∷ []); gathering = (Some 2); vars = (no_parts); is_linear = false; serial = ([]); pre_tasks = (no_steps); tasks = (task_step (record { line = 3; work = (assert_work (conditions_are (expression (path_status is_skipped (variable (codes "r1")) ([])) (no_expressions))) (no_parts)); condition = (no_expressions); loop = None; register = (Some (codes "r3")); vars = (no_parts); notify = ([]); changed_when = None; failed_when = (Some (expression (literal (boolean true)) (no_expressions))); attempts = None; ignore_errors = None }) (task_step (record { line = 4; work = (debug_work (part (codes "msg") (path (variable (codes "r2")) ([])) (no_parts))); condition = (expression (defined (variable (codes "r2")) ([])) (no_expressions)); loop = None; register = (Some (codes "r3")); vars = (no_parts); notify = ([]); changed_when = None; failed_when = None; attempts = None; ignore_errors = (Some true) }) (task_step (record { line = 5; work = (set_fact_work (part (codes "s3") (list_of (expression (literal (boolean false)) (no_expressions))) (no_parts))); condition = (expression (defined (variable (codes "s1")) ([])) (expression (negation (path_status is_failed (variable (codes "s1")) ([]))) (no_expressions))); loop = None; register = (Some (codes "r2")); vars = (no_parts); notify = ([]); changed_when = None; failed_when = None; attempts = None; ignore_errors = None }) (block_step (record { line = 6; condition = (expression (comparison equal (path (variable (codes "r2")) ([])) (literal (text (codes "a")))) (no_expressions)); vars = (no_parts); ignore_errors = None }) (task_step (record { line = 7; work = (module_work (codes "stat") (part (codes "path") (literal (text (codes "/"))) (no_parts))); condition = (no_expressions); loop = None; register = (Some (codes "r3")); vars = (part (codes "v3") (path (variable (codes "r3")) ((codes "results") ∷ [])) (no_parts)); notify = ([]); changed_when = None; failed_when = (Some (expression (comparison equal (path_or (variable (codes "r3")) ((codes "stat") ∷ (codes "size") ∷ []) (literal (boolean true))) (literal (boolean true))) (no_expressions))); attempts = None; ignore_errors = None }) (task_step (record { line = 8; work = (module_work (codes "setup") (no_parts)); condition = (no_expressions); loop = None; register = (Some (codes "r3")); vars = (no_parts); notify = ([]); changed_when = None; failed_when = None; attempts = (Some (record { until = (expression (literal (boolean false)) (no_expressions)); retries = 2 })); ignore_errors = None }) (no_steps))) (task_step (record { line = 9; work = (debug_work (part (codes "msg") (concatenation (expression (literal (text (codes "x"))) (expression (literal null) (no_expressions)))) (no_parts))); condition = (no_expressions); loop = None; register = (Some (codes "r2")); vars = (no_parts); notify = ([]); changed_when = (Some (expression (comparison equal (path (variable (codes "inventory_hostname")) ([])) (literal (text (codes "a")))) (no_expressions))); failed_when = (Some (expression (comparison equal (path_or (variable (codes "r2")) ((codes "failed") ∷ []) (literal (boolean true))) (literal (boolean true))) (no_expressions))); attempts = None; ignore_errors = (Some true) }) (no_steps)) (no_steps) (no_steps))))); post_tasks = (no_steps); handlers = ([]); forces = true } ∷ [])

abbrev random_002569_inventory : Inventory
random_002569_inventory = record { hosts = (record { name = (codes "a"); variables = (field (codes "i1") (int (pos 3)) (field (codes "i2") (int (pos 0)) (no_fields))) } ∷ record { name = (codes "b"); variables = (field (codes "i1") (int (pos 3)) (field (codes "i2") (int (pos 0)) (no_fields))) } ∷ record { name = (codes "c"); variables = (field (codes "i1") (list (item (text (codes "b")) (item (text (codes "t")) (no_items)))) (field (codes "i2") (int (pos 0)) (field (codes "op") opaque (field (codes "s1") (text (codes "a")) (no_fields))))) } ∷ []); groups = (record { name = (codes "all"); hosts = ((codes "a") ∷ (codes "b") ∷ (codes "c") ∷ []) } ∷ record { name = (codes "g2"); hosts = ((codes "a") ∷ (codes "b") ∷ []) } ∷ record { name = (codes "ungrouped"); hosts = ((codes "c") ∷ []) } ∷ []) }

abbrev random_002569_registry : Registry
random_002569_registry = (builtins ++ (record { name = (codes "probe"); params = (record { name = (codes "n"); kind = ints; required = false } ∷ record { name = (codes "l"); kind = (lists texts 3); required = false } ∷ []); ok = recs (slot (codes "changed") true booleans (slot (codes "deep") false (recs (slot (codes "a") true texts (slot (codes "b") false booleans (no_slots)))) (slot (codes "rows") true (lists texts 2) (slot (codes "v") false ints (no_slots))))); failure = recs (slot (codes "changed") true booleans (slot (codes "msg") true texts (slot (codes "v") false texts (slot (codes "why") true ints (no_slots))))); free = None } ∷ record { name = (codes "odd"); params = ([]); ok = recs (slot (codes "changed") true booleans (slot (codes "msg") false ints (no_slots))); failure = recs (slot (codes "changed") true booleans (slot (codes "msg") true texts (no_slots))); free = None } ∷ []))

random_002569 : judged random_002569_registry random_002569_inventory random_002569_book ≡ refused (record { code = 1; line = 3; host = (Some (codes "a")) })
random_002569 = refl

-- random_002578:
abbrev random_002578_book : Book
random_002578_book = (record { line = 1; pattern = ((codes "all") ∷ []); gathering = None; vars = (no_parts); is_linear = true; serial = ([]); pre_tasks = (no_steps); tasks = (task_step (record { line = 2; work = (module_work (codes "ping") (no_parts)); condition = (expression (in_batch (named_host (codes "b"))) (no_expressions)); loop = None; register = (Some (codes "r")); vars = (no_parts); notify = ([]); changed_when = None; failed_when = None; attempts = None; ignore_errors = None }) (no_steps)); post_tasks = (no_steps); handlers = ([]); forces = false } ∷ [])

abbrev random_002578_inventory : Inventory
random_002578_inventory = record { hosts = (record { name = (codes "c"); variables = (field (codes "inv") (list (item (int (pos 1)) (item (int (pos 2)) (no_items)))) (no_fields)) } ∷ record { name = (codes "b"); variables = (field (codes "inv") (list (item (int (pos 1)) (item (int (pos 2)) (no_items)))) (field (codes "k") (rec (field (codes "z") opaque (no_fields))) (no_fields))) } ∷ record { name = (codes "a"); variables = (field (codes "inv") (list (item (text (codes "x")) (no_items))) (field (codes "opq") opaque (no_fields))) } ∷ []); groups = (record { name = (codes "all"); hosts = ((codes "c") ∷ (codes "b") ∷ (codes "a") ∷ []) } ∷ record { name = (codes "g"); hosts = ((codes "b") ∷ (codes "a") ∷ []) } ∷ record { name = (codes "ungrouped"); hosts = ((codes "c") ∷ []) } ∷ []) }

abbrev random_002578_registry : Registry
random_002578_registry = (builtins ++ ([]))

random_002578 : judged random_002578_registry random_002578_inventory random_002578_book ≡ accepted 3
random_002578 = refl

-- random_002578_run:
abbrev random_002578_run_book : Book
random_002578_run_book = (record { line = 1; pattern = ((codes "all") ∷ []); gathering = None; vars = (no_parts); is_linear = true; serial = ([]); pre_tasks = (no_steps); tasks = (task_step (record { line = 2; work = (module_work (codes "ping") (no_parts)); condition = (expression (in_batch (named_host (codes "b"))) (no_expressions)); loop = None; register = (Some (codes "r")); vars = (no_parts); notify = ([]); changed_when = None; failed_when = None; attempts = None; ignore_errors = None }) (no_steps)); post_tasks = (no_steps); handlers = ([]); forces = false } ∷ [])

abbrev random_002578_run_inventory : Inventory
random_002578_run_inventory = record { hosts = (record { name = (codes "c"); variables = (field (codes "inv") (list (item (int (pos 1)) (item (int (pos 2)) (no_items)))) (no_fields)) } ∷ record { name = (codes "b"); variables = (field (codes "inv") (list (item (int (pos 1)) (item (int (pos 2)) (no_items)))) (field (codes "k") (rec (field (codes "z") opaque (no_fields))) (no_fields))) } ∷ record { name = (codes "a"); variables = (field (codes "inv") (list (item (text (codes "x")) (no_items))) (field (codes "opq") opaque (no_fields))) } ∷ []); groups = (record { name = (codes "all"); hosts = ((codes "c") ∷ (codes "b") ∷ (codes "a") ∷ []) } ∷ record { name = (codes "g"); hosts = ((codes "b") ∷ (codes "a") ∷ []) } ∷ record { name = (codes "ungrouped"); hosts = ((codes "c") ∷ []) } ∷ []) }

abbrev random_002578_run_registry : Registry
random_002578_run_registry = (builtins ++ ([]))

random_002578_run : recaps_of random_002578_run_registry random_002578_run_inventory random_002578_run_book 1 ((object (rec (field (codes "changed") (boolean true) (field (codes "ping") (text (codes "a")) (no_fields)))) ∷ []) ∷ (object (rec (field (codes "changed") (boolean true) (field (codes "extra") (rec (field (codes "a") (int (pos 1)) (no_fields))) (field (codes "ping") (text (codes "a")) (no_fields))))) ∷ []) ∷ (object (rec (field (codes "changed") (boolean false) (field (codes "ping") (text (codes "b")) (no_fields)))) ∷ []) ∷ []) ≡ (record { ok = 1; changed = 1; unreachable = 0; failed = 0; skipped = 0; rescued = 0; ignored = 0 } ∷ record { ok = 1; changed = 1; unreachable = 0; failed = 0; skipped = 0; rescued = 0; ignored = 0 } ∷ record { ok = 1; changed = 0; unreachable = 0; failed = 0; skipped = 0; rescued = 0; ignored = 0 } ∷ [])
unfolding digits
random_002578_run = refl

-- random_002603_run:
abbrev random_002603_run_book : Book
random_002603_run_book = (record { line = 1; pattern = ((codes "g2") ∷ []); gathering = None; vars = (no_parts); is_linear = true; serial = ([]); pre_tasks = (block_step (record { line = 2; condition = (no_expressions); vars = (no_parts); ignore_errors = None }) (task_step (record { line = 3; work = (set_fact_work (part (codes "s1") (path (other (named_host (codes "a")) (codes "r2")) ((codes "failed") ∷ [])) (part (codes "s2") (list_of (expression (literal (text (codes "a"))) (no_expressions))) (no_parts)))); condition = (expression (in_batch (named_host (codes "a"))) (expression (path_status is_failed (other (named_host (codes "a")) (codes "r2")) ([])) (no_expressions))); loop = None; register = None; vars = (no_parts); notify = ([]); changed_when = None; failed_when = None; attempts = None; ignore_errors = None }) (task_step (record { line = 4; work = (module_work (codes "probe") (part (codes "l") (concatenation (expression (literal (text (codes "x"))) (expression (path (variable (codes "s1")) ([])) (no_expressions)))) (no_parts))); condition = (no_expressions); loop = None; register = None; vars = (no_parts); notify = ([]); changed_when = None; failed_when = None; attempts = (Some (record { until = (expression (comparison equal (path (variable (codes "inventory_hostname")) ([])) (literal (text (codes "a")))) (no_expressions)); retries = 3 })); ignore_errors = None }) (block_step (record { line = 5; condition = (no_expressions); vars = (no_parts); ignore_errors = None }) (no_steps) (no_steps) (task_step (record { line = 6; work = (module_work (codes "ping") (no_parts)); condition = (no_expressions); loop = None; register = None; vars = (no_parts); notify = ([]); changed_when = None; failed_when = None; attempts = (Some (record { until = (expression (literal (boolean false)) (no_expressions)); retries = 3 })); ignore_errors = None }) (no_steps)) (no_steps)))) (no_steps) (block_step (record { line = 7; condition = (expression (negation (in_batch (named_host (codes "a")))) (no_expressions)); vars = (no_parts); ignore_errors = None }) (task_step (record { line = 8; work = (debug_work (part (codes "msg") (path (variable (codes "groups")) ((codes "all") ∷ [])) (no_parts))); condition = (expression (path_status is_skipped (variable (codes "r3")) ([])) (expression (negation (path_status is_skipped (variable (codes "groups")) ([]))) (no_expressions))); loop = None; register = None; vars = (part (codes "v1") (path (other (named_host (codes "a")) (codes "r3")) ((codes "changed") ∷ [])) (part (codes "v3") (comparison equal (path (other (named_host (codes "b")) (codes "r3")) ((codes "failed") ∷ [])) (path (variable (codes "r3")) ([]))) (no_parts))); notify = ((codes "t") ∷ []); changed_when = (Some (expression (literal (boolean false)) (no_expressions))); failed_when = None; attempts = None; ignore_errors = (Some true) }) (no_steps)) (no_steps) (task_step (record { line = 9; work = (debug_work (part (codes "msg") (path_or (variable (codes "r2")) ([]) (path (variable (codes "s1")) ([]))) (no_parts))); condition = (no_expressions); loop = None; register = (Some (codes "r3")); vars = (no_parts); notify = ([]); changed_when = (Some (expression (comparison equal (path (variable (codes "r3")) ((codes "failed") ∷ [])) (literal (text (codes "a")))) (no_expressions))); failed_when = (Some (expression (path_status is_failed (variable (codes "r3")) ([])) (no_expressions))); attempts = None; ignore_errors = None }) (block_step (record { line = 10; condition = (no_expressions); vars = (no_parts); ignore_errors = (Some true) }) (task_step (record { line = 11; work = (module_work (codes "command") (part (codes "cmd") (concatenation (expression (literal (text (codes "x "))) (expression (length_of (path (variable (codes "r1")) ((codes "changed") ∷ []))) (no_expressions)))) (no_parts))); condition = (expression (negation (path_status is_skipped (variable (codes "r1")) ([]))) (no_expressions)); loop = None; register = None; vars = (no_parts); notify = ([]); changed_when = None; failed_when = None; attempts = None; ignore_errors = (Some false) }) (task_step (record { line = 12; work = (debug_work (part (codes "msg") (path (variable (codes "inventory_hostname")) ([])) (no_parts))); condition = (no_expressions); loop = None; register = (Some (codes "r3")); vars = (no_parts); notify = ([]); changed_when = (Some (expression (path_status is_changed (variable (codes "r3")) ([])) (no_expressions))); failed_when = (Some (expression (path_status is_changed (variable (codes "r3")) ([])) (no_expressions))); attempts = None; ignore_errors = None }) (task_step (record { line = 13; work = (module_work (codes "ping") (no_parts)); condition = (no_expressions); loop = None; register = (Some (codes "r3")); vars = (no_parts); notify = ((codes "h0") ∷ []); changed_when = (Some (expression (literal (boolean true)) (no_expressions))); failed_when = None; attempts = None; ignore_errors = None }) (no_steps)))) (no_steps) (task_step (record { line = 14; work = (module_work (codes "command") (part (codes "cmd") (literal (text (codes "x"))) (no_parts))); condition = (expression (path_or (variable (codes "r3")) ([]) (literal (boolean false))) (no_expressions)); loop = None; register = None; vars = (part (codes "v1") (path_or (variable (codes "op")) ([]) (list_of (no_expressions))) (no_parts)); notify = ((codes "t") ∷ []); changed_when = None; failed_when = None; attempts = None; ignore_errors = None }) (task_step (record { line = 15; work = (assert_work (conditions_are (expression (negation (defined (variable (codes "r1")) ((codes "changed") ∷ []))) (no_expressions))) (no_parts)); condition = (no_expressions); loop = None; register = (Some (codes "r2")); vars = (no_parts); notify = ([]); changed_when = None; failed_when = None; attempts = None; ignore_errors = None }) (no_steps))) (no_steps))) (task_step (record { line = 16; work = (set_fact_work (part (codes "s1") (list_of (expression (concatenation (expression (literal (text (codes "x"))) (expression (list_of (expression (path (variable (codes "s2")) ([])) (expression (literal (text (codes "q"))) (no_expressions)))) (no_expressions)))) (no_expressions))) (no_parts))); condition = (expression (membership (literal (text (codes "g1"))) (path (variable (codes "group_names")) ([]))) (no_expressions)); loop = None; register = None; vars = (part (codes "v2") (path (variable (codes "r2")) ([])) (part (codes "v3") (path_or (variable (codes "r1")) ((codes "changed") ∷ []) (literal (int (pos 1)))) (no_parts))); notify = ([]); changed_when = None; failed_when = None; attempts = None; ignore_errors = None }) (no_steps))) (no_steps)); tasks = (block_step (record { line = 17; condition = (expression (membership (literal (text (codes "g2"))) (path (variable (codes "group_names")) ([]))) (no_expressions)); vars = (no_parts); ignore_errors = None }) (task_step (record { line = 18; work = (set_fact_work (part (codes "s3") (path (variable (codes "i2")) ([])) (no_parts))); condition = (expression (defined (other (named_host (codes "a")) (codes "r1")) ((codes "failed") ∷ [])) (no_expressions)); loop = None; register = None; vars = (no_parts); notify = ((codes "t") ∷ []); changed_when = None; failed_when = None; attempts = None; ignore_errors = None }) (task_step (record { line = 19; work = (module_work (codes "command") (part (codes "cmd") (literal (text (codes "x"))) (no_parts))); condition = (no_expressions); loop = None; register = (Some (codes "r2")); vars = (no_parts); notify = ((codes "h0") ∷ []); changed_when = None; failed_when = None; attempts = None; ignore_errors = None }) (block_step (record { line = 20; condition = (no_expressions); vars = (no_parts); ignore_errors = None }) (task_step (record { line = 21; work = (module_work (codes "probe") (no_parts)); condition = (no_expressions); loop = None; register = None; vars = (no_parts); notify = ((codes "t") ∷ []); changed_when = None; failed_when = None; attempts = None; ignore_errors = (Some true) }) (no_steps)) (no_steps) (no_steps) (no_steps)))) (task_step (record { line = 22; work = (fail_work (no_parts)); condition = (no_expressions); loop = None; register = (Some (codes "r1")); vars = (no_parts); notify = ([]); changed_when = None; failed_when = None; attempts = None; ignore_errors = None }) (task_step (record { line = 23; work = (module_work (codes "probe") (no_parts)); condition = (no_expressions); loop = (Some (path (variable (codes "ansible_play_batch")) ([]))); register = None; vars = (no_parts); notify = ([]); changed_when = None; failed_when = None; attempts = None; ignore_errors = None }) (task_step (record { line = 24; work = (assert_work (conditions_are (expression (disjunction (expression (negation (path_status is_changed (variable (codes "r1")) ([]))) (expression (path_status is_failed (variable (codes "r2")) ([])) (no_expressions)))) (no_expressions))) (no_parts)); condition = (no_expressions); loop = None; register = None; vars = (part (codes "v1") (concatenation (expression (literal (text (codes "x"))) (expression (path_or (other (named_host (codes "a")) (codes "r2")) ((codes "stdout") ∷ []) (literal (text (codes "z")))) (no_expressions)))) (part (codes "v3") (path (variable (codes "r1")) ((codes "msg") ∷ [])) (no_parts))); notify = ([]); changed_when = None; failed_when = None; attempts = None; ignore_errors = (Some true) }) (no_steps)))) (no_steps) (task_step (record { line = 25; work = (set_fact_work (part (codes "s2") (literal (int (negsuc 0))) (no_parts))); condition = (no_expressions); loop = (Some (path (variable (codes "ansible_play_batch")) ([]))); register = None; vars = (no_parts); notify = ([]); changed_when = None; failed_when = (Some (expression (literal (boolean true)) (no_expressions))); attempts = None; ignore_errors = None }) (task_step (record { line = 26; work = (module_work (codes "command") (part (codes "cmd") (concatenation (expression (literal (text (codes "x "))) (expression (literal (int (pos 1))) (no_expressions)))) (no_parts))); condition = (no_expressions); loop = None; register = (Some (codes "r3")); vars = (no_parts); notify = ([]); changed_when = None; failed_when = None; attempts = None; ignore_errors = None }) (task_step (record { line = 27; work = (assert_work (conditions_are (expression (comparison equal (path (variable (codes "inventory_hostname")) ([])) (literal (text (codes "a")))) (no_expressions))) (no_parts)); condition = (no_expressions); loop = None; register = None; vars = (no_parts); notify = ((codes "t") ∷ []); changed_when = (Some (expression (comparison equal (path (variable (codes "inventory_hostname")) ([])) (literal (text (codes "a")))) (no_expressions))); failed_when = None; attempts = None; ignore_errors = None }) (no_steps))))); post_tasks = (no_steps); handlers = (record { work = (record { line = 28; work = (set_fact_work (part (codes "s2") (list_of (expression (literal (int (pos 1))) (expression (literal (int (pos 2))) (no_expressions)))) (no_parts))); condition = (no_expressions); loop = None; register = (Some (codes "r3")); vars = (no_parts); notify = ([]); changed_when = None; failed_when = None; attempts = None; ignore_errors = None }); name = (Some (codes "h0")); topics = ((codes "t") ∷ []) } ∷ []); forces = false } ∷ [])

abbrev random_002603_run_inventory : Inventory
random_002603_run_inventory = record { hosts = (record { name = (codes "a"); variables = (field (codes "i1") (text (codes "a")) (field (codes "op") opaque (no_fields))) } ∷ record { name = (codes "b"); variables = (field (codes "i1") (text (codes "a")) (field (codes "op") opaque (no_fields))) } ∷ record { name = (codes "c"); variables = (field (codes "i1") (text (codes "a")) (field (codes "op") opaque (no_fields))) } ∷ []); groups = (record { name = (codes "all"); hosts = ((codes "a") ∷ (codes "b") ∷ (codes "c") ∷ []) } ∷ record { name = (codes "g2"); hosts = ([]) } ∷ record { name = (codes "ungrouped"); hosts = ((codes "a") ∷ (codes "b") ∷ (codes "c") ∷ []) } ∷ []) }

abbrev random_002603_run_registry : Registry
random_002603_run_registry = (builtins ++ (record { name = (codes "probe"); params = (record { name = (codes "n"); kind = ints; required = false } ∷ record { name = (codes "l"); kind = (lists texts 3); required = false } ∷ []); ok = recs (slot (codes "changed") true booleans (slot (codes "deep") false (recs (slot (codes "a") true texts (slot (codes "b") false booleans (no_slots)))) (slot (codes "rows") true (lists texts 2) (slot (codes "v") false ints (no_slots))))); failure = recs (slot (codes "changed") true booleans (slot (codes "msg") true texts (slot (codes "v") false texts (slot (codes "why") true ints (no_slots))))); free = None } ∷ record { name = (codes "odd"); params = ([]); ok = recs (slot (codes "changed") true booleans (slot (codes "msg") false ints (no_slots))); failure = recs (slot (codes "changed") true booleans (slot (codes "msg") true texts (no_slots))); free = None } ∷ []))

random_002603_run : recaps_of random_002603_run_registry random_002603_run_inventory random_002603_run_book 1 (([]) ∷ ([]) ∷ ([]) ∷ []) ≡ (record { ok = 0; changed = 0; unreachable = 0; failed = 0; skipped = 0; rescued = 0; ignored = 0 } ∷ record { ok = 0; changed = 0; unreachable = 0; failed = 0; skipped = 0; rescued = 0; ignored = 0 } ∷ record { ok = 0; changed = 0; unreachable = 0; failed = 0; skipped = 0; rescued = 0; ignored = 0 } ∷ [])
unfolding digits
random_002603_run = refl

-- random_002604:
abbrev random_002604_book : Book
random_002604_book = (record { line = 1; pattern = ((codes "g") ∷ []); gathering = None; vars = (no_parts); is_linear = true; serial = (host_count 1 ∷ host_count 2 ∷ []); pre_tasks = (no_steps); tasks = (task_step (record { line = 2; work = (fail_work (no_parts)); condition = (expression (negation (path_status is_skipped (variable (codes "r")) ([]))) (no_expressions)); loop = None; register = (Some (codes "r")); vars = (no_parts); notify = ([]); changed_when = None; failed_when = None; attempts = None; ignore_errors = None }) (task_step (record { line = 3; work = (fail_work (part (codes "msg") (literal (text (codes "m"))) (no_parts))); condition = (expression (in_batch (named_host (codes "a"))) (no_expressions)); loop = None; register = (Some (codes "s")); vars = (no_parts); notify = ([]); changed_when = None; failed_when = None; attempts = None; ignore_errors = (Some true) }) (no_steps))); post_tasks = (no_steps); handlers = ([]); forces = false } ∷ [])

abbrev random_002604_inventory : Inventory
random_002604_inventory = record { hosts = (record { name = (codes "c"); variables = (field (codes "inv") (list (item (int (pos 1)) (item (int (pos 2)) (no_items)))) (no_fields)) } ∷ record { name = (codes "b"); variables = (field (codes "inv") (list (item (int (pos 1)) (item (int (pos 2)) (no_items)))) (field (codes "k") (rec (field (codes "z") opaque (no_fields))) (no_fields))) } ∷ record { name = (codes "a"); variables = (field (codes "inv") (list (item (text (codes "x")) (no_items))) (field (codes "opq") opaque (no_fields))) } ∷ []); groups = (record { name = (codes "all"); hosts = ((codes "c") ∷ (codes "b") ∷ (codes "a") ∷ []) } ∷ record { name = (codes "g"); hosts = ((codes "b") ∷ (codes "a") ∷ []) } ∷ record { name = (codes "ungrouped"); hosts = ((codes "c") ∷ []) } ∷ []) }

abbrev random_002604_registry : Registry
random_002604_registry = (builtins ++ ([]))

random_002604 : judged random_002604_registry random_002604_inventory random_002604_book ≡ refused (record { code = 1; line = 2; host = (Some (codes "b")) })
random_002604 = refl

-- random_002607_run:
abbrev random_002607_run_book : Book
random_002607_run_book = (record { line = 1; pattern = ((codes "all") ∷ []); gathering = None; vars = (no_parts); is_linear = true; serial = (host_count 2 ∷ []); pre_tasks = (no_steps); tasks = (task_step (record { line = 2; work = (module_work (codes "command") (part (codes "cmd") (concatenation (expression (literal (text (codes "x "))) (expression (length_of (path (variable (codes "ansible_play_batch")) ([]))) (no_expressions)))) (no_parts))); condition = (no_expressions); loop = None; register = (Some (codes "r1")); vars = (no_parts); notify = ([]); changed_when = None; failed_when = None; attempts = None; ignore_errors = None }) (task_step (record { line = 3; work = (set_fact_work (part (codes "s1") (path_or (variable (codes "r3")) ((codes "changed") ∷ []) (list_of (no_expressions))) (no_parts))); condition = (expression (negation (defined (variable (codes "s1")) ([]))) (no_expressions)); loop = None; register = (Some (codes "r1")); vars = (no_parts); notify = ([]); changed_when = None; failed_when = None; attempts = None; ignore_errors = (Some true) }) (flush_step 4 (flush_step 5 (no_steps))))); post_tasks = (block_step (record { line = 6; condition = (no_expressions); vars = (no_parts); ignore_errors = None }) (task_step (record { line = 7; work = (module_work (codes "setup") (no_parts)); condition = (no_expressions); loop = None; register = (Some (codes "r1")); vars = (no_parts); notify = ([]); changed_when = None; failed_when = (Some (expression (path_status is_changed (variable (codes "r1")) ([])) (no_expressions))); attempts = None; ignore_errors = None }) (no_steps)) (block_step (record { line = 8; condition = (no_expressions); vars = (no_parts); ignore_errors = None }) (task_step (record { line = 9; work = (set_fact_work (part (codes "s2") (literal (text (codes "t"))) (no_parts))); condition = (expression (defined (variable (codes "r1")) ([])) (expression (negation (path_status is_failed (variable (codes "r1")) ([]))) (no_expressions))); loop = None; register = None; vars = (no_parts); notify = ([]); changed_when = None; failed_when = None; attempts = None; ignore_errors = None }) (task_step (record { line = 10; work = (module_work (codes "stat") (part (codes "path") (literal (text (codes "/"))) (no_parts))); condition = (no_expressions); loop = None; register = (Some (codes "r2")); vars = (no_parts); notify = ([]); changed_when = None; failed_when = None; attempts = None; ignore_errors = None }) (block_step (record { line = 11; condition = (no_expressions); vars = (no_parts); ignore_errors = None }) (task_step (record { line = 12; work = (module_work (codes "stat") (part (codes "path") (literal (text (codes "/"))) (no_parts))); condition = (no_expressions); loop = None; register = None; vars = (no_parts); notify = ([]); changed_when = (Some (expression (literal (boolean false)) (no_expressions))); failed_when = None; attempts = None; ignore_errors = None }) (task_step (record { line = 13; work = (fail_work (part (codes "msg") (literal (text (codes "m"))) (no_parts))); condition = (no_expressions); loop = None; register = None; vars = (no_parts); notify = ([]); changed_when = None; failed_when = None; attempts = None; ignore_errors = None }) (no_steps))) (task_step (record { line = 14; work = (module_work (codes "command") (part (codes "cmd") (literal (text (codes "x"))) (no_parts))); condition = (expression (membership (literal (text (codes "g1"))) (path (variable (codes "group_names")) ([]))) (no_expressions)); loop = None; register = None; vars = (no_parts); notify = ([]); changed_when = None; failed_when = None; attempts = None; ignore_errors = None }) (task_step (record { line = 15; work = (module_work (codes "stat") (part (codes "path") (literal (text (codes "/"))) (no_parts))); condition = (no_expressions); loop = None; register = None; vars = (no_parts); notify = ([]); changed_when = None; failed_when = None; attempts = None; ignore_errors = None }) (no_steps))) (task_step (record { line = 16; work = (module_work (codes "probe") (no_parts)); condition = (expression (in_batch (named_host (codes "a"))) (expression (defined (other (named_host (codes "a")) (codes "r3")) ((codes "failed") ∷ [])) (no_expressions))); loop = None; register = (Some (codes "r2")); vars = (no_parts); notify = ([]); changed_when = None; failed_when = None; attempts = None; ignore_errors = None }) (no_steps)) (no_steps)))) (no_steps) (no_steps) (no_steps)) (no_steps) (block_step (record { line = 17; condition = (no_expressions); vars = (no_parts); ignore_errors = None }) (task_step (record { line = 18; work = (assert_work (conditions_are (expression (negation (defined (variable (codes "s2")) ([]))) (no_expressions))) (no_parts)); condition = (no_expressions); loop = None; register = (Some (codes "r3")); vars = (no_parts); notify = ([]); changed_when = (Some (expression (comparison equal (path (variable (codes "r3")) ((codes "changed") ∷ [])) (literal (text (codes "a")))) (no_expressions))); failed_when = None; attempts = None; ignore_errors = None }) (no_steps)) (no_steps) (no_steps) (block_step (record { line = 19; condition = (no_expressions); vars = (part (codes "v2") (record_of (part (codes "f") (list_of (expression (literal (text (codes "t"))) (no_expressions))) (no_parts))) (no_parts)); ignore_errors = None }) (task_step (record { line = 20; work = (module_work (codes "command") (part (codes "cmd") (literal (text (codes "x"))) (no_parts))); condition = (expression (negation (defined (variable (codes "groups")) ((codes "all") ∷ []))) (no_expressions)); loop = None; register = (Some (codes "r2")); vars = (no_parts); notify = ([]); changed_when = None; failed_when = None; attempts = (Some (record { until = (expression (literal (boolean false)) (no_expressions)); retries = 3 })); ignore_errors = None }) (no_steps)) (task_step (record { line = 21; work = (fail_work (no_parts)); condition = (expression (membership (literal (text (codes "g1"))) (path (variable (codes "group_names")) ([]))) (no_expressions)); loop = None; register = None; vars = (no_parts); notify = ([]); changed_when = None; failed_when = None; attempts = None; ignore_errors = None }) (task_step (record { line = 22; work = (module_work (codes "command") (part (codes "cmd") (concatenation (expression (literal (text (codes "x x"))) (expression (literal (int (pos 1))) (no_expressions)))) (no_parts))); condition = (expression (negation (comparison equal (path (variable (codes "inventory_hostname")) ([])) (literal (text (codes "b"))))) (no_expressions)); loop = None; register = (Some (codes "r2")); vars = (no_parts); notify = ([]); changed_when = None; failed_when = None; attempts = None; ignore_errors = None }) (no_steps))) (task_step (record { line = 23; work = (set_fact_work (part (codes "s1") (record_of (part (codes "f") (literal (int (pos 1))) (no_parts))) (no_parts))); condition = (no_expressions); loop = None; register = None; vars = (no_parts); notify = ([]); changed_when = None; failed_when = None; attempts = None; ignore_errors = None }) (no_steps)) (no_steps)))); handlers = ([]); forces = true } ∷ [])

abbrev random_002607_run_inventory : Inventory
random_002607_run_inventory = record { hosts = (record { name = (codes "a"); variables = (field (codes "i1") null (field (codes "op") opaque (field (codes "s1") (list (no_items)) (no_fields)))) } ∷ record { name = (codes "b"); variables = (field (codes "i1") (text (codes "x")) (field (codes "i2") null (field (codes "op") opaque (no_fields)))) } ∷ []); groups = (record { name = (codes "all"); hosts = ((codes "a") ∷ (codes "b") ∷ []) } ∷ record { name = (codes "g1"); hosts = ((codes "a") ∷ []) } ∷ record { name = (codes "g2"); hosts = ((codes "a") ∷ (codes "b") ∷ []) } ∷ record { name = (codes "ungrouped"); hosts = ([]) } ∷ []) }

abbrev random_002607_run_registry : Registry
random_002607_run_registry = (builtins ++ (record { name = (codes "probe"); params = (record { name = (codes "n"); kind = ints; required = false } ∷ record { name = (codes "l"); kind = (lists texts 3); required = false } ∷ []); ok = recs (slot (codes "changed") true booleans (slot (codes "deep") false (recs (slot (codes "a") true texts (slot (codes "b") false booleans (no_slots)))) (slot (codes "rows") true (lists texts 2) (slot (codes "v") false ints (no_slots))))); failure = recs (slot (codes "changed") true booleans (slot (codes "msg") true texts (slot (codes "v") false texts (slot (codes "why") true ints (no_slots))))); free = None } ∷ record { name = (codes "odd"); params = ([]); ok = recs (slot (codes "changed") true booleans (slot (codes "msg") false ints (no_slots))); failure = recs (slot (codes "changed") true booleans (slot (codes "msg") true texts (no_slots))); free = None } ∷ []))

random_002607_run : recaps_of random_002607_run_registry random_002607_run_inventory random_002607_run_book 1 ((object (rec (field (codes "changed") (boolean false) (field (codes "rc") (int (pos 2)) (field (codes "stderr") (text ([])) (field (codes "stderr_lines") (list (item (text (codes "b")) (item (text (codes "b")) (no_items)))) (field (codes "stdout") (text (codes "b")) (field (codes "stdout_lines") (list (item (text ([])) (item (text (123 ∷ 123 ∷ 32 ∷ 120 ∷ 32 ∷ 125 ∷ 125 ∷ [])) (no_items)))) (no_fields)))))))) ∷ object (rec (field (codes "ansible_facts") (rec (field (codes "ansible_hostname") (text (codes "a")) (field (codes "ansible_os_family") (text (codes "a")) (field (codes "ansible_system") (text (123 ∷ 123 ∷ 32 ∷ 120 ∷ 32 ∷ 125 ∷ 125 ∷ [])) (no_fields))))) (field (codes "changed") (boolean false) (no_fields)))) ∷ []) ∷ (object (rec (field (codes "changed") (boolean true) (field (codes "rc") (int (pos 2)) (field (codes "stderr") (text (codes "b")) (field (codes "stderr_lines") (list (item (text (123 ∷ 123 ∷ 32 ∷ 120 ∷ 32 ∷ 125 ∷ 125 ∷ [])) (item (text (codes "b")) (no_items)))) (field (codes "stdout") (text (codes "a")) (field (codes "stdout_lines") (list (item (text (codes "b")) (no_items))) (no_fields)))))))) ∷ object (rec (field (codes "changed") (boolean false) (field (codes "failed") (boolean true) (field (codes "msg") (text (codes "a")) (no_fields))))) ∷ []) ∷ []) ≡ (record { ok = 4; changed = 0; unreachable = 0; failed = 0; skipped = 2; rescued = 0; ignored = 0 } ∷ record { ok = 5; changed = 1; unreachable = 0; failed = 0; skipped = 1; rescued = 0; ignored = 0 } ∷ [])
unfolding digits
random_002607_run = refl

-- random_002623:
abbrev random_002623_book : Book
random_002623_book = (record { line = 1; pattern = ((codes "all") ∷ []); gathering = (Some 2); vars = (no_parts); is_linear = true; serial = ([]); pre_tasks = (no_steps); tasks = (task_step (record { line = 3; work = (set_fact_work (part (codes "s1") (literal (text (codes "t"))) (part (codes "s2") (length_of (path (variable (codes "r1")) ((codes "failed") ∷ []))) (no_parts)))); condition = (expression (path_or (variable (codes "r1")) ((codes "changed") ∷ []) (literal (boolean false))) (expression (defined (variable (codes "r1")) ([])) (expression (path_status is_failed (variable (codes "r1")) ([])) (no_expressions)))); loop = (Some (list_of (expression (literal (int (pos 3))) (no_expressions)))); register = None; vars = (no_parts); notify = ([]); changed_when = None; failed_when = None; attempts = None; ignore_errors = None }) (task_step (record { line = 4; work = (debug_work (part (codes "msg") (literal (text (codes "x"))) (no_parts))); condition = (expression (conjunction (expression (defined (variable (codes "r1")) ([])) (expression (path_status is_failed (variable (codes "r1")) ([])) (expression (comparison equal (path (variable (codes "r1")) ((codes "failed") ∷ [])) (literal (text (codes "a")))) (no_expressions))))) (expression (defined (variable (codes "r3")) ([])) (no_expressions))); loop = None; register = (Some (codes "r2")); vars = (no_parts); notify = ([]); changed_when = None; failed_when = None; attempts = None; ignore_errors = None }) (block_step (record { line = 5; condition = (no_expressions); vars = (no_parts); ignore_errors = None }) (task_step (record { line = 6; work = (debug_work (part (codes "msg") (literal (text (codes "x"))) (no_parts))); condition = (no_expressions); loop = None; register = None; vars = (no_parts); notify = ([]); changed_when = None; failed_when = None; attempts = None; ignore_errors = (Some true) }) (task_step (record { line = 7; work = (module_work (codes "command") (part (codes "cmd") (concatenation (expression (literal (text (codes "x "))) (expression (literal (text (codes "t"))) (no_expressions)))) (no_parts))); condition = (no_expressions); loop = (Some (list_of (expression (literal (int (pos 1))) (expression (literal (int (negsuc 0))) (no_expressions))))); register = None; vars = (no_parts); notify = ([]); changed_when = None; failed_when = (Some (expression (comparison equal (path (variable (codes "inventory_hostname")) ([])) (literal (text (codes "a")))) (no_expressions))); attempts = None; ignore_errors = None }) (no_steps))) (no_steps) (task_step (record { line = 8; work = (module_work (codes "odd") (no_parts)); condition = (no_expressions); loop = None; register = (Some (codes "r3")); vars = (part (codes "v2") (path (variable (codes "i1")) ([])) (part (codes "v3") (path (variable (codes "inventory_hostname")) ([])) (no_parts))); notify = ([]); changed_when = None; failed_when = (Some (expression (comparison equal (path (variable (codes "r3")) ((codes "changed") ∷ [])) (literal (int (pos 1)))) (no_expressions))); attempts = None; ignore_errors = None }) (no_steps)) (task_step (record { line = 9; work = (assert_work (conditions_are (expression (conjunction (expression (negation (path_status is_failed (variable (codes "r2")) ([]))) (expression (comparison equal (path (variable (codes "r2")) ((codes "failed") ∷ [])) (literal (int (pos 1)))) (no_expressions)))) (no_expressions))) (no_parts)); condition = (expression (negation (comparison equal (path (variable (codes "inventory_hostname")) ([])) (literal (text (codes "a"))))) (no_expressions)); loop = (Some (path (other (named_host (codes "a")) (codes "s1")) ([]))); register = (Some (codes "r2")); vars = (no_parts); notify = ([]); changed_when = None; failed_when = None; attempts = None; ignore_errors = None }) (no_steps))))); post_tasks = (no_steps); handlers = ([]); forces = false } ∷ record { line = 10; pattern = ((codes "a") ∷ (codes "all") ∷ []); gathering = None; vars = (no_parts); is_linear = true; serial = ([]); pre_tasks = (no_steps); tasks = (task_step (record { line = 11; work = (set_fact_work (part (codes "s3") (literal (int (pos 1))) (no_parts))); condition = (no_expressions); loop = None; register = (Some (codes "r1")); vars = (no_parts); notify = ([]); changed_when = None; failed_when = None; attempts = None; ignore_errors = None }) (no_steps)); post_tasks = (no_steps); handlers = (record { work = (record { line = 12; work = (assert_work (conditions_are (expression (comparison equal (path (variable (codes "inventory_hostname")) ([])) (literal (text (codes "a")))) (no_expressions))) (no_parts)); condition = (no_expressions); loop = (Some (path (variable (codes "ansible_play_batch")) ([]))); register = None; vars = (no_parts); notify = ((codes "h1") ∷ []); changed_when = None; failed_when = None; attempts = None; ignore_errors = None }); name = (Some (codes "h0")); topics = ((codes "t") ∷ []) } ∷ record { work = (record { line = 13; work = (set_fact_work (part (codes "s2") (path_or (other this_host (codes "s2")) ([]) (path (variable (codes "s1")) ([]))) (no_parts))); condition = (no_expressions); loop = None; register = (Some (codes "r1")); vars = (no_parts); notify = ([]); changed_when = (Some (expression (comparison equal (path (variable (codes "r1")) ((codes "failed") ∷ [])) (literal (int (pos 1)))) (no_expressions))); failed_when = None; attempts = None; ignore_errors = None }); name = (Some (codes "h1")); topics = ([]) } ∷ []); forces = false } ∷ [])

abbrev random_002623_inventory : Inventory
random_002623_inventory = record { hosts = (record { name = (codes "a"); variables = (field (codes "i1") (text (codes "no")) (field (codes "i2") (text (codes "t")) (field (codes "op") opaque (no_fields)))) } ∷ []); groups = (record { name = (codes "all"); hosts = ((codes "a") ∷ []) } ∷ record { name = (codes "g1"); hosts = ((codes "a") ∷ []) } ∷ record { name = (codes "g2"); hosts = ([]) } ∷ record { name = (codes "ungrouped"); hosts = ([]) } ∷ []) }

abbrev random_002623_registry : Registry
random_002623_registry = (builtins ++ (record { name = (codes "probe"); params = (record { name = (codes "n"); kind = ints; required = false } ∷ record { name = (codes "l"); kind = (lists texts 3); required = false } ∷ []); ok = recs (slot (codes "changed") true booleans (slot (codes "deep") false (recs (slot (codes "a") true texts (slot (codes "b") false booleans (no_slots)))) (slot (codes "rows") true (lists texts 2) (slot (codes "v") false ints (no_slots))))); failure = recs (slot (codes "changed") true booleans (slot (codes "msg") true texts (slot (codes "v") false texts (slot (codes "why") true ints (no_slots))))); free = None } ∷ record { name = (codes "odd"); params = ([]); ok = recs (slot (codes "changed") true booleans (slot (codes "msg") false ints (no_slots))); failure = recs (slot (codes "changed") true booleans (slot (codes "msg") true texts (no_slots))); free = None } ∷ []))

random_002623 : judged random_002623_registry random_002623_inventory random_002623_book ≡ refused (record { code = 2; line = 9; host = (Some (codes "a")) })
random_002623 = refl

-- random_100013_run:
abbrev random_100013_run_book : Book
random_100013_run_book = (record { line = 1; pattern = ((codes "a") ∷ []); gathering = None; vars = (no_parts); is_linear = true; serial = ([]); pre_tasks = (no_steps); tasks = (task_step (record { line = 2; work = (module_work (codes "command") (part (codes "cmd") (literal (text (codes "x"))) (no_parts))); condition = (expression (defined (variable (codes "op")) ([])) (no_expressions)); loop = None; register = (Some (codes "r1")); vars = (no_parts); notify = ([]); changed_when = None; failed_when = None; attempts = (Some (record { until = (expression (comparison equal (path (variable (codes "r1")) ((codes "rc") ∷ [])) (literal (int (pos 1)))) (no_expressions)); retries = 2 })); ignore_errors = None }) (no_steps)); post_tasks = (no_steps); handlers = (record { work = (record { line = 3; work = (module_work (codes "command") (part (codes "cmd") (literal (text (codes "x"))) (no_parts))); condition = (no_expressions); loop = None; register = (Some (codes "r1")); vars = (no_parts); notify = ([]); changed_when = None; failed_when = None; attempts = None; ignore_errors = None }); name = (Some (codes "h0")); topics = ([]) } ∷ record { work = (record { line = 4; work = (module_work (codes "ping") (no_parts)); condition = (no_expressions); loop = (Some (path_or (variable (codes "r1")) ((codes "results") ∷ []) (list_of (no_expressions)))); register = (Some (codes "r1")); vars = (no_parts); notify = ([]); changed_when = None; failed_when = None; attempts = None; ignore_errors = (Some false) }); name = (Some (codes "h1")); topics = ((codes "t") ∷ []) } ∷ []); forces = false } ∷ [])

abbrev random_100013_run_inventory : Inventory
random_100013_run_inventory = record { hosts = (record { name = (codes "a"); variables = (field (codes "i1") (boolean false) (field (codes "i2") (boolean false) (field (codes "s1") (text (codes "t")) (no_fields)))) } ∷ record { name = (codes "b"); variables = (field (codes "i1") (int (pos 0)) (field (codes "s1") (text (codes "t")) (no_fields))) } ∷ []); groups = (record { name = (codes "all"); hosts = ((codes "a") ∷ (codes "b") ∷ []) } ∷ record { name = (codes "g1"); hosts = ((codes "a") ∷ []) } ∷ record { name = (codes "ungrouped"); hosts = ((codes "b") ∷ []) } ∷ []) }

abbrev random_100013_run_registry : Registry
random_100013_run_registry = (builtins ++ (record { name = (codes "probe"); params = (record { name = (codes "n"); kind = ints; required = false } ∷ record { name = (codes "l"); kind = (lists texts 3); required = false } ∷ []); ok = recs (slot (codes "changed") true booleans (slot (codes "deep") false (recs (slot (codes "a") true texts (slot (codes "b") false booleans (no_slots)))) (slot (codes "rows") true (lists texts 2) (slot (codes "v") false ints (no_slots))))); failure = recs (slot (codes "changed") true booleans (slot (codes "msg") true texts (slot (codes "v") false texts (slot (codes "why") true ints (no_slots))))); free = None } ∷ record { name = (codes "odd"); params = ([]); ok = recs (slot (codes "changed") true booleans (slot (codes "msg") false ints (no_slots))); failure = recs (slot (codes "changed") true booleans (slot (codes "msg") true texts (no_slots))); free = None } ∷ []))

random_100013_run : recaps_of random_100013_run_registry random_100013_run_inventory random_100013_run_book 1 (([]) ∷ ([]) ∷ []) ≡ (record { ok = 0; changed = 0; unreachable = 0; failed = 0; skipped = 1; rescued = 0; ignored = 0 } ∷ record { ok = 0; changed = 0; unreachable = 0; failed = 0; skipped = 0; rescued = 0; ignored = 0 } ∷ [])
unfolding digits
random_100013_run = refl

-- random_100042:
abbrev random_100042_book : Book
random_100042_book = (record { line = 1; pattern = ((codes "all") ∷ []); gathering = (Some 2); vars = (no_parts); is_linear = true; serial = ([]); pre_tasks = (no_steps); tasks = (task_step (record { line = 3; work = (module_work (codes "setup") (no_parts)); condition = (no_expressions); loop = None; register = None; vars = (no_parts); notify = ([]); changed_when = None; failed_when = None; attempts = (Some (record { until = (expression (literal (boolean false)) (no_expressions)); retries = 2 })); ignore_errors = None }) (task_step (record { line = 4; work = (module_work (codes "command") (part (codes "cmd") (literal (boolean true)) (no_parts))); condition = (no_expressions); loop = None; register = (Some (codes "s")); vars = (no_parts); notify = ([]); changed_when = None; failed_when = None; attempts = (Some (record { until = (expression (negation (path_status is_failed (variable (codes "s")) ([]))) (no_expressions)); retries = 1 })); ignore_errors = None }) (no_steps))); post_tasks = (no_steps); handlers = ([]); forces = false } ∷ [])

abbrev random_100042_inventory : Inventory
random_100042_inventory = record { hosts = (record { name = (codes "c"); variables = (field (codes "inv") (list (item (int (pos 1)) (item (int (pos 2)) (no_items)))) (no_fields)) } ∷ record { name = (codes "b"); variables = (field (codes "inv") (list (item (int (pos 1)) (item (int (pos 2)) (no_items)))) (field (codes "k") (rec (field (codes "z") opaque (no_fields))) (no_fields))) } ∷ record { name = (codes "a"); variables = (field (codes "inv") (list (item (text (codes "x")) (no_items))) (field (codes "opq") opaque (no_fields))) } ∷ []); groups = (record { name = (codes "all"); hosts = ((codes "c") ∷ (codes "b") ∷ (codes "a") ∷ []) } ∷ record { name = (codes "g"); hosts = ((codes "b") ∷ (codes "a") ∷ []) } ∷ record { name = (codes "ungrouped"); hosts = ((codes "c") ∷ []) } ∷ []) }

abbrev random_100042_registry : Registry
random_100042_registry = (builtins ++ ([]))

random_100042 : judged random_100042_registry random_100042_inventory random_100042_book ≡ refused (record { code = 4; line = 4; host = (Some (codes "c")) })
random_100042 = refl
