-- Cases of random, computed from the bytes of their files.
use Rattle.std.specs.Prelude.{◌≡◌, refl, Some, None, codes}
use Rattle.pb_language.specs.Verdict.{accepted, refused}
use Rattle.pb_byte_rows.specs.Found.{verdict, found, found_with}
use Rattle.pb_byte_rows.proofs.Computing.{reading}

random_100754 : found (codes "{\"g\": {\"hosts\": [\"b\", \"a\"]}, \"all\": {\"hosts\": [\"c\"], \"vars\": {\"inv\": [1, 2]}}, \"_meta\": {\"hostvars\": {\"a\": {\"opq\": 1.5, \"inv\": [\"x\"]}, \"b\": {\"k\": {\"z\": \"{{ q }}\"}}}}}") (codes "[{\"hosts\": \"g\", \"tasks\": [{\"assert\": {\"that\": \"r.rc is undefined\"}, \"vars\": {\"v2\": {\"k\": \"{{ inventory_hostname.k }}\"}}}, {\"command\": \"x\"}], \"post_tasks\": [{\"stat\": {\"path\": \"p\"}, \"register\": \"s\", \"until\": \"s.changed\", \"retries\": 1}, {\"meta\": \"flush_handlers\"}, {\"fail\": null}, {\"stat\": {\"path\": \"p\"}, \"register\": \"s\"}], \"strategy\": \"free\", \"gather_facts\": true, \"vars\": {\"v1\": \"{{ r.rc }}\"}}]") ≡ verdict (accepted 10)
unfolding reading
random_100754 = refl

random_100758 : found (codes "{\"g\": {\"hosts\": [\"b\", \"a\"]}, \"all\": {\"hosts\": [\"c\"], \"vars\": {\"inv\": [1, 2]}}, \"_meta\": {\"hostvars\": {\"a\": {\"opq\": 1.5, \"inv\": [\"x\"]}, \"b\": {\"k\": {\"z\": \"{{ q }}\"}}}}}") (codes "[{\"hosts\": \"all\", \"handlers\": [{\"setup\": null, \"when\": [\"hostvars['b'].y is defined\", \"r.rc is defined\"], \"register\": \"s\", \"failed_when\": \"s.changed\", \"name\": \"h0\"}], \"tasks\": [{\"block\": [{\"command\": \"x\", \"when\": [\"'a' in ansible_play_batch\"], \"register\": \"r\", \"ignore_errors\": true, \"notify\": \"h0\"}], \"always\": [{\"block\": [{\"command\": \"x\", \"when\": [\"r.hostname == 1\", \"('a' in s.hostname) and (ansible_play_batch.rc)\"], \"ignore_errors\": true}, {\"set_fact\": {\"s\": {\"k\": \"x{{ hostvars['b'].r.stdout_lines }}\"}}, \"register\": \"s\", \"failed_when\": \"s.changed\", \"notify\": \"h0\"}]}]}, {\"set_fact\": {\"s\": [1, 2]}, \"when\": [\"y is defined\"], \"changed_when\": \"zz is changed\"}, {\"ping\": null}, {\"loop\": \"{{ r.stdout_lines }}\", \"set_fact\": {\"y\": \"{{ v2.changed }}\"}, \"when\": \"(not (hostvars[item].r.changed is defined)) and ((s.stat.isdir == 1) and (ansible_facts == 1))\", \"notify\": \"h0\"}], \"post_tasks\": [{\"block\": [{\"setup\": null, \"until\": true, \"ignore_errors\": false, \"notify\": \"h0\"}], \"always\": [{\"stat\": {\"path\": \"p\"}, \"when\": \"(item.stdout_lines == 'a') and (not (r.stdout is not skipped))\", \"failed_when\": \"zz is failed\", \"until\": true, \"retries\": 2}]}, {\"debug\": {\"msg\": \"a\"}, \"notify\": \"h0\"}], \"serial\": 1}]") ≡ verdict (refused (record { code = 3; line = 5; host = Some (codes "c") }))
unfolding reading
random_100758 = refl

random_100761 : found_with (codes "[{\"name\": \"probe\", \"params\": {\"n\": {\"kind\": \"int\", \"required\": false}, \"l\": {\"kind\": {\"list\": \"text\", \"max\": 3}, \"required\": false}}, \"ok\": {\"changed\": {\"kind\": \"bool\", \"always\": true}, \"v\": {\"kind\": \"int\", \"always\": false}, \"rows\": {\"kind\": {\"list\": \"text\", \"max\": 2}, \"always\": true}, \"deep\": {\"kind\": {\"rec\": {\"a\": {\"kind\": \"text\", \"always\": true}, \"b\": {\"kind\": \"bool\", \"always\": false}}}, \"always\": false}}, \"failure\": {\"changed\": {\"kind\": \"bool\", \"always\": true}, \"msg\": {\"kind\": \"text\", \"always\": true}, \"v\": {\"kind\": \"text\", \"always\": false}, \"why\": {\"kind\": \"int\", \"always\": true}}}, {\"name\": \"odd\", \"params\": {}, \"ok\": {\"changed\": {\"kind\": \"bool\", \"always\": true}, \"msg\": {\"kind\": \"int\", \"always\": false}}, \"failure\": {\"changed\": {\"kind\": \"bool\", \"always\": true}, \"msg\": {\"kind\": \"text\", \"always\": true}}}]") (codes "{\"all\": {\"hosts\": [\"a\", \"b\"], \"vars\": {\"i1\": \"a\"}}, \"g2\": {\"hosts\": [\"a\", \"b\"], \"vars\": {\"i1\": 0}}, \"_meta\": {\"hostvars\": {\"a\": {\"i2\": true}, \"b\": {\"op\": 1.5}}}}") (codes "[{\"hosts\": \"all\", \"strategy\": \"free\", \"tasks\": [{\"meta\": \"flush_handlers\"}, {\"ping\": null}, {\"meta\": \"flush_handlers\"}]}]") ≡ verdict (accepted 2)
unfolding reading
random_100761 = refl

random_100762 : found (codes "{\"g\": {\"hosts\": [\"b\", \"a\"]}, \"all\": {\"hosts\": [\"c\"], \"vars\": {\"inv\": [1, 2]}}, \"_meta\": {\"hostvars\": {\"a\": {\"opq\": 1.5, \"inv\": [\"x\"]}, \"b\": {\"k\": {\"z\": \"{{ q }}\"}}}}}") (codes "[{\"hosts\": \"all\", \"handlers\": [{\"ping\": null, \"ignore_errors\": false, \"name\": \"h0\"}, {\"set_fact\": {\"s\": \"a\"}, \"register\": \"r\", \"name\": \"h1\"}], \"tasks\": [{\"assert\": {\"that\": \"(ansible_hostname.rc is not defined) or (hostvars['a'].r.rc is changed)\"}, \"when\": [\"not (r is undefined or r is failed)\"], \"notify\": \"h0\"}, {\"set_fact\": {\"s\": {\"k\": [\"{{ r.results }}\"]}}, \"register\": \"r\"}, {\"command\": {\"cmd\": [{\"k\": \"a\"}]}, \"register\": \"s\", \"failed_when\": \"s.changed\", \"notify\": \"h1\"}], \"vars\": {\"v1\": \"x{{ hostvars['a'].inv is defined }}\"}}]") ≡ verdict (refused (record { code = 2; line = 2; host = Some (codes "c") }))
unfolding reading
random_100762 = refl

random_100764 : found (codes "{\"g\": {\"hosts\": [\"b\", \"a\"]}, \"all\": {\"hosts\": [\"c\"], \"vars\": {\"inv\": [1, 2]}}, \"_meta\": {\"hostvars\": {\"a\": {\"opq\": 1.5, \"inv\": [\"x\"]}, \"b\": {\"k\": {\"z\": \"{{ q }}\"}}}}}") (codes "[{\"hosts\": \"all\", \"tasks\": [{\"loop\": \"{{ inv }}\", \"setup\": null, \"when\": \"hostvars['b'].y == 1\", \"register\": \"r\", \"ignore_errors\": true}], \"force_handlers\": true, \"gather_facts\": true}]") ≡ verdict (refused (record { code = 2; line = 3; host = Some (codes "c") }))
unfolding reading
random_100764 = refl

random_100792 : found (codes "{\"g\": {\"hosts\": [\"b\", \"a\"]}, \"all\": {\"hosts\": [\"c\"], \"vars\": {\"inv\": [1, 2]}}, \"_meta\": {\"hostvars\": {\"a\": {\"opq\": 1.5, \"inv\": [\"x\"]}, \"b\": {\"k\": {\"z\": \"{{ q }}\"}}}}}") (codes "[{\"hosts\": \"all\", \"tasks\": [{\"loop\": \"{{ groups['g'] }}\", \"command\": \"x\"}, {\"loop\": [1, 2], \"fail\": null, \"register\": \"s\"}, {\"setup\": null, \"register\": \"s\", \"vars\": {\"v1\": \"{{ opq.results }}\"}}, {\"command\": {\"cmd\": \"{{ item.stdout }}\"}}]}]") ≡ verdict (refused (record { code = 1; line = 5; host = Some (codes "c") }))
unfolding reading
random_100792 = refl

random_100807 : found_with (codes "[{\"name\": \"probe\", \"params\": {\"n\": {\"kind\": \"int\", \"required\": false}, \"l\": {\"kind\": {\"list\": \"text\", \"max\": 3}, \"required\": false}}, \"ok\": {\"changed\": {\"kind\": \"bool\", \"always\": true}, \"v\": {\"kind\": \"int\", \"always\": false}, \"rows\": {\"kind\": {\"list\": \"text\", \"max\": 2}, \"always\": true}, \"deep\": {\"kind\": {\"rec\": {\"a\": {\"kind\": \"text\", \"always\": true}, \"b\": {\"kind\": \"bool\", \"always\": false}}}, \"always\": false}}, \"failure\": {\"changed\": {\"kind\": \"bool\", \"always\": true}, \"msg\": {\"kind\": \"text\", \"always\": true}, \"v\": {\"kind\": \"text\", \"always\": false}, \"why\": {\"kind\": \"int\", \"always\": true}}}, {\"name\": \"odd\", \"params\": {}, \"ok\": {\"changed\": {\"kind\": \"bool\", \"always\": true}, \"msg\": {\"kind\": \"int\", \"always\": false}}, \"failure\": {\"changed\": {\"kind\": \"bool\", \"always\": true}, \"msg\": {\"kind\": \"text\", \"always\": true}}}]") (codes "{\"all\": {\"hosts\": [\"a\", \"b\", \"c\", \"d\"], \"vars\": {\"i1\": 0, \"i2\": false}}, \"g1\": {\"hosts\": [\"a\", \"b\", \"c\", \"d\"], \"vars\": {\"i1\": null}}, \"_meta\": {\"hostvars\": {\"a\": {\"i1\": true, \"i2\": \"\"}, \"b\": {}, \"c\": {\"op\": 1.5}, \"d\": {}}}}") (codes "[{\"hosts\": \"all\", \"vars\": {\"v2\": \"\"}, \"gather_facts\": true, \"tasks\": [{\"loop\": \"{{ r1.stdout_lines | default([]) }}\", \"vars\": {\"v1\": \"{{ r1.skip_reason }}\", \"v2\": \"{{ (r3.changed) == (ansible_hostname) }}\", \"v3\": \"{{ r2.failed }}\"}, \"debug\": {\"msg\": \"{{ [s1.rc, 1] }}\"}, \"when\": \"s1.rc is defined\", \"register\": \"r1\", \"notify\": \"t\", \"changed_when\": true}, {\"set_fact\": {\"s1\": \"t\"}, \"register\": \"r2\"}, {\"assert\": {\"that\": true}, \"register\": \"r3\"}], \"handlers\": [{\"vars\": {}, \"probe\": {}, \"failed_when\": false, \"until\": true, \"retries\": 3, \"name\": \"h0\", \"listen\": \"t\"}, {\"debug\": {\"msg\": \"x\"}, \"register\": \"r2\", \"failed_when\": \"r2 is failed\", \"ignore_errors\": true, \"name\": \"h1\"}]}]") ≡ verdict (accepted 20)
unfolding reading
random_100807 = refl

random_100812 : found (codes "{\"g\": {\"hosts\": [\"b\", \"a\"]}, \"all\": {\"hosts\": [\"c\"], \"vars\": {\"inv\": [1, 2]}}, \"_meta\": {\"hostvars\": {\"a\": {\"opq\": 1.5, \"inv\": [\"x\"]}, \"b\": {\"k\": {\"z\": \"{{ q }}\"}}}}}") (codes "[{\"hosts\": \"g\", \"handlers\": [{\"set_fact\": {\"s\": \"{{ not (ansible_play_batch.stdout is skipped) }}\"}, \"when\": [\"inventory_hostname in ansible_play_batch\", \"inventory_hostname in ansible_play_batch\"], \"name\": \"h0\"}], \"tasks\": [{\"block\": [{\"assert\": {\"that\": [\"'a' in ansible_play_batch\", \"hostvars['b'].y.os_family is defined\"]}, \"when\": [\"hostvars['a'].r.rc is defined\"], \"notify\": \"h0\"}, {\"command\": \"x\", \"register\": \"s\", \"ignore_errors\": true}], \"always\": [{\"set_fact\": {\"y\": \"{{ ['a', 1] }}\"}, \"register\": \"r\", \"ignore_errors\": false, \"notify\": \"h0\"}], \"when\": [\"zz.hostname is skipped\", \"(r.stat.isdir is failed) or ((v2.os_family is failed) and (r.failed is succeeded))\"]}], \"serial\": 2, \"gather_facts\": true}]") ≡ verdict (refused (record { code = 1; line = 4; host = Some (codes "b") }))
unfolding reading
random_100812 = refl

random_100834 : found (codes "{\"g\": {\"hosts\": [\"b\", \"a\"]}, \"all\": {\"hosts\": [\"c\"], \"vars\": {\"inv\": [1, 2]}}, \"_meta\": {\"hostvars\": {\"a\": {\"opq\": 1.5, \"inv\": [\"x\"]}, \"b\": {\"k\": {\"z\": \"{{ q }}\"}}}}}") (codes "[{\"hosts\": \"all\", \"tasks\": [{\"ping\": null, \"when\": \"hostvars[inventory_hostname].inv is failed\", \"register\": \"r\"}], \"gather_facts\": true}]") ≡ verdict (refused (record { code = 4; line = 3; host = Some (codes "c") }))
unfolding reading
random_100834 = refl

random_100836 : found (codes "{\"g\": {\"hosts\": [\"b\", \"a\"]}, \"all\": {\"hosts\": [\"c\"], \"vars\": {\"inv\": [1, 2]}}, \"_meta\": {\"hostvars\": {\"a\": {\"opq\": 1.5, \"inv\": [\"x\"]}, \"b\": {\"k\": {\"z\": \"{{ q }}\"}}}}}") (codes "[{\"hosts\": \"all\", \"tasks\": [{\"set_fact\": {\"y\": \"{{ inv.stdout_lines }}\"}}, {\"stat\": {\"path\": \"p\"}, \"when\": [\"r.rc is defined\"], \"register\": \"s\", \"failed_when\": \"s.changed\", \"until\": \"s is succeeded\", \"vars\": {\"v2\": null}}, {\"block\": [], \"rescue\": []}, {\"loop\": [\"a\", \"b\"], \"command\": {\"cmd\": \"{{ v2.changed }}\"}, \"when\": \"zz.stdout_lines == 1\", \"register\": \"s\"}], \"force_handlers\": true}]") ≡ verdict (refused (record { code = 4; line = 2; host = Some (codes "c") }))
unfolding reading
random_100836 = refl

random_100839 : found_with (codes "[{\"name\": \"probe\", \"params\": {\"n\": {\"kind\": \"int\", \"required\": false}, \"l\": {\"kind\": {\"list\": \"text\", \"max\": 3}, \"required\": false}}, \"ok\": {\"changed\": {\"kind\": \"bool\", \"always\": true}, \"v\": {\"kind\": \"int\", \"always\": false}, \"rows\": {\"kind\": {\"list\": \"text\", \"max\": 2}, \"always\": true}, \"deep\": {\"kind\": {\"rec\": {\"a\": {\"kind\": \"text\", \"always\": true}, \"b\": {\"kind\": \"bool\", \"always\": false}}}, \"always\": false}}, \"failure\": {\"changed\": {\"kind\": \"bool\", \"always\": true}, \"msg\": {\"kind\": \"text\", \"always\": true}, \"v\": {\"kind\": \"text\", \"always\": false}, \"why\": {\"kind\": \"int\", \"always\": true}}}, {\"name\": \"odd\", \"params\": {}, \"ok\": {\"changed\": {\"kind\": \"bool\", \"always\": true}, \"msg\": {\"kind\": \"int\", \"always\": false}}, \"failure\": {\"changed\": {\"kind\": \"bool\", \"always\": true}, \"msg\": {\"kind\": \"text\", \"always\": true}}}]") (codes "{\"all\": {\"hosts\": [\"a\", \"b\"], \"vars\": {\"i2\": true, \"op\": 1.5}}, \"g1\": {\"hosts\": [\"a\"], \"vars\": {\"i2\": \"no\"}}, \"g2\": {\"hosts\": [], \"vars\": {}}, \"_meta\": {\"hostvars\": {\"a\": {}, \"b\": {\"s1\": 2}}}}") (codes "[{\"hosts\": \"a\", \"strategy\": \"free\", \"gather_facts\": true, \"tasks\": [{\"ping\": null}, {\"probe\": {}, \"register\": \"r3\", \"ignore_errors\": true}, {\"fail\": {\"msg\": \"m\"}, \"when\": \"(op is undefined) or (r3 is not defined)\", \"failed_when\": true}]}]") ≡ verdict (accepted 3)
unfolding reading
random_100839 = refl

random_100840 : found (codes "{\"g\": {\"hosts\": [\"b\", \"a\"]}, \"all\": {\"hosts\": [\"c\"], \"vars\": {\"inv\": [1, 2]}}, \"_meta\": {\"hostvars\": {\"a\": {\"opq\": 1.5, \"inv\": [\"x\"]}, \"b\": {\"k\": {\"z\": \"{{ q }}\"}}}}}") (codes "[{\"hosts\": \"all\", \"tasks\": [{\"block\": [], \"rescue\": [{\"block\": [{\"set_fact\": {\"y\": null}, \"when\": \"(opq.rc) and (inventory_hostname in ansible_play_batch)\", \"failed_when\": \"zz is failed\"}, {\"setup\": null, \"when\": \"not ((ansible_hostname < 3) and (r.failed is defined))\"}], \"rescue\": [{\"set_fact\": {\"y\": \"{{ group_names.changed | length }}\"}, \"when\": \"s.rc is succeeded\", \"register\": \"s\"}, {\"loop\": [\"a\", \"b\"], \"stat\": {\"path\": \"p\"}, \"when\": [\"not (r is undefined or r is failed)\", \"hostvars['b'].y is defined\"]}], \"always\": []}]}, {\"block\": [], \"rescue\": [{\"fail\": null, \"register\": \"s\"}, {\"set_fact\": {\"y\": \"{{ hostvars[item].inv }}\"}, \"changed_when\": false, \"ignore_errors\": true}], \"always\": []}], \"gather_facts\": true}]") ≡ verdict (accepted 6)
unfolding reading
random_100840 = refl

random_100846 : found (codes "{\"g\": {\"hosts\": [\"b\", \"a\"]}, \"all\": {\"hosts\": [\"c\"], \"vars\": {\"inv\": [1, 2]}}, \"_meta\": {\"hostvars\": {\"a\": {\"opq\": 1.5, \"inv\": [\"x\"]}, \"b\": {\"k\": {\"z\": \"{{ q }}\"}}}}}") (codes "[{\"hosts\": \"all\", \"tasks\": [{\"set_fact\": {\"y\": \"{{ s.changed | length }}\"}, \"register\": \"s\", \"ignore_errors\": true}, {\"meta\": \"flush_handlers\"}, {\"assert\": {\"that\": \"hostvars[inventory_hostname].inv is undefined\"}, \"register\": \"r\"}, {\"block\": [{\"set_fact\": {\"s\": [\"{{ inventory_hostname.rc }}\"]}, \"when\": [\"'a' in ansible_play_batch\"], \"changed_when\": false, \"vars\": {\"v2\": [1, 2]}}, {\"assert\": {\"that\": \"(r.changed) and (s.changed is skipped)\"}, \"register\": \"r\"}], \"rescue\": [{\"command\": \"x\", \"ignore_errors\": true}, {\"debug\": {\"msg\": \"x{{ hostvars[item].opq.stat.isdir }}\"}}]}], \"vars\": {\"v1\": \"{{ item }}\"}}]") ≡ verdict (refused (record { code = 1; line = 2; host = Some (codes "c") }))
unfolding reading
random_100846 = refl

random_100848 : found (codes "{\"g\": {\"hosts\": [\"b\", \"a\"]}, \"all\": {\"hosts\": [\"c\"], \"vars\": {\"inv\": [1, 2]}}, \"_meta\": {\"hostvars\": {\"a\": {\"opq\": 1.5, \"inv\": [\"x\"]}, \"b\": {\"k\": {\"z\": \"{{ q }}\"}}}}}") (codes "[{\"hosts\": \"b,a\", \"pre_tasks\": [{\"set_fact\": {\"y\": {\"k\": \"{{ group_names }}\"}}}, {\"debug\": {\"msg\": \"{{ groups.g }}\"}, \"when\": [\"r.stdout\", \"(v2.rc is not skipped) and (r.results is failed)\"]}, {\"setup\": null, \"vars\": {\"v2\": [1]}}, {\"assert\": {\"that\": [\"('b' in ansible_play_batch) and ((r.stdout is succeeded) or (ansible_facts.k is defined))\", \"'a' in v2.results\"]}, \"register\": \"s\"}], \"tasks\": [{\"meta\": \"flush_handlers\"}], \"strategy\": \"free\", \"vars\": {\"v1\": \"{{ 'b' in ansible_play_batch }}\"}}]") ≡ verdict (refused (record { code = 1; line = 3; host = Some (codes "b") }))
unfolding reading
random_100848 = refl

random_100850 : found (codes "{\"g\": {\"hosts\": [\"b\", \"a\"]}, \"all\": {\"hosts\": [\"c\"], \"vars\": {\"inv\": [1, 2]}}, \"_meta\": {\"hostvars\": {\"a\": {\"opq\": 1.5, \"inv\": [\"x\"]}, \"b\": {\"k\": {\"z\": \"{{ q }}\"}}}}}") (codes "[{\"hosts\": \"g\", \"tasks\": [{\"loop\": \"{{ groups.all }}\", \"assert\": {\"that\": [\"not ('b' in ansible_play_batch)\", \"item in ansible_play_batch\"]}, \"when\": [\"ansible_facts.msg is changed\", \"hostvars['b'].y\"], \"changed_when\": false}, {\"block\": []}, {\"meta\": \"flush_handlers\"}], \"serial\": 2}]") ≡ verdict (refused (record { code = 1; line = 2; host = Some (codes "b") }))
unfolding reading
random_100850 = refl

random_100852 : found (codes "{\"g\": {\"hosts\": [\"b\", \"a\"]}, \"all\": {\"hosts\": [\"c\"], \"vars\": {\"inv\": [1, 2]}}, \"_meta\": {\"hostvars\": {\"a\": {\"opq\": 1.5, \"inv\": [\"x\"]}, \"b\": {\"k\": {\"z\": \"{{ q }}\"}}}}}") (codes "[{\"hosts\": \"a\", \"handlers\": [{\"stat\": {\"path\": \"p\"}, \"changed_when\": \"zz is changed\", \"vars\": {\"v1\": \"{{ ansible_facts.stdout_lines }}\"}, \"name\": \"h0\"}], \"pre_tasks\": [{\"block\": [{\"block\": []}]}, {\"block\": [{\"ping\": null, \"when\": [\"'a' in ansible_play_batch\"], \"register\": \"r\"}], \"rescue\": [{\"debug\": {\"msg\": [true]}, \"when\": [\"not (inv.rc == 1)\", \"inv.stdout is not skipped\"], \"vars\": {\"v1\": \"{{ ansible_failed_result.msg }}\"}}], \"ignore_errors\": false}, {\"loop\": \"{{ inv }}\", \"command\": {\"cmd\": \"{{ ansible_facts.stdout_lines }}\"}, \"notify\": \"h0\"}, {\"setup\": null, \"changed_when\": false, \"until\": false, \"retries\": 1, \"ignore_errors\": true, \"notify\": \"h0\"}], \"tasks\": [{\"block\": [{\"set_fact\": {\"s\": 1}, \"register\": \"s\", \"notify\": \"h0\"}]}], \"serial\": 2, \"vars\": {\"v1\": \"{{ hostvars['a'].r.rc }}\"}}, {\"hosts\": \"all\", \"tasks\": [{\"fail\": null}, {\"fail\": {\"msg\": \"m\"}, \"when\": [\"((r.results is changed) or (y.k is failed)) and (s.changed is not skipped)\", \"'a' in ansible_play_batch\"], \"register\": \"r\", \"changed_when\": \"r is changed\"}, {\"block\": [], \"rescue\": [], \"always\": [], \"when\": \"r.failed is undefined\", \"ignore_errors\": false}], \"post_tasks\": [{\"loop\": [\"a\", \"b\"], \"command\": \"x\", \"vars\": {\"v1\": null}}, {\"stat\": {\"path\": \"p\"}, \"when\": [\"'b' in ansible_play_batch\"], \"register\": \"s\"}, {\"command\": {\"cmd\": null}}, {\"setup\": null, \"register\": \"s\"}], \"serial\": 2, \"force_handlers\": true, \"vars\": {\"v1\": \"{{ (r.changed is undefined) and (r.results < 3) }}\"}}]") ≡ verdict (refused (record { code = 4; line = 6; host = Some (codes "a") }))
unfolding reading
random_100852 = refl

random_100868 : found (codes "{\"g\": {\"hosts\": [\"b\", \"a\"]}, \"all\": {\"hosts\": [\"c\"], \"vars\": {\"inv\": [1, 2]}}, \"_meta\": {\"hostvars\": {\"a\": {\"opq\": 1.5, \"inv\": [\"x\"]}, \"b\": {\"k\": {\"z\": \"{{ q }}\"}}}}}") (codes "[{\"hosts\": \"all\", \"tasks\": [{\"loop\": [\"a\", \"b\"], \"set_fact\": {\"y\": \"{{ hostvars[inventory_hostname].inv | default(1) }}\"}}], \"post_tasks\": [{\"command\": \"x\", \"when\": [\"'b' in ansible_play_batch\", \"r is defined and r is succeeded\"]}], \"serial\": 2}]") ≡ verdict (accepted 3)
unfolding reading
random_100868 = refl

random_100869 : found_with (codes "[{\"name\": \"probe\", \"params\": {\"n\": {\"kind\": \"int\", \"required\": false}, \"l\": {\"kind\": {\"list\": \"text\", \"max\": 3}, \"required\": false}}, \"ok\": {\"changed\": {\"kind\": \"bool\", \"always\": true}, \"v\": {\"kind\": \"int\", \"always\": false}, \"rows\": {\"kind\": {\"list\": \"text\", \"max\": 2}, \"always\": true}, \"deep\": {\"kind\": {\"rec\": {\"a\": {\"kind\": \"text\", \"always\": true}, \"b\": {\"kind\": \"bool\", \"always\": false}}}, \"always\": false}}, \"failure\": {\"changed\": {\"kind\": \"bool\", \"always\": true}, \"msg\": {\"kind\": \"text\", \"always\": true}, \"v\": {\"kind\": \"text\", \"always\": false}, \"why\": {\"kind\": \"int\", \"always\": true}}}, {\"name\": \"odd\", \"params\": {}, \"ok\": {\"changed\": {\"kind\": \"bool\", \"always\": true}, \"msg\": {\"kind\": \"int\", \"always\": false}}, \"failure\": {\"changed\": {\"kind\": \"bool\", \"always\": true}, \"msg\": {\"kind\": \"text\", \"always\": true}}}]") (codes "{\"all\": {\"hosts\": [\"a\", \"b\"], \"vars\": {}}, \"g1\": {\"hosts\": [\"a\", \"b\"], \"vars\": {\"i1\": true, \"i2\": [], \"s1\": [\"no\"], \"op\": 1.5}}, \"_meta\": {\"hostvars\": {\"a\": {}, \"b\": {\"op\": 1.5}}}}") (codes "[{\"hosts\": [\"a\", \"all\"], \"gather_facts\": true, \"tasks\": [{\"fail\": null, \"register\": \"r2\", \"failed_when\": true, \"ignore_errors\": true, \"notify\": \"h0\"}, {\"ping\": null, \"register\": \"r3\", \"ignore_errors\": true}], \"handlers\": [{\"debug\": {\"msg\": \"{{ i1 | default(1) }}\"}, \"when\": \"r1.failed is not defined\", \"register\": \"r3\", \"name\": \"h0\", \"listen\": \"t\"}, {\"ping\": null}, {\"ping\": null}]}, {\"hosts\": [\"a\", \"all\"], \"vars\": {\"v1\": false}, \"gather_facts\": true, \"tasks\": [{\"debug\": {\"msg\": \"{{ [r2.changed, 'q'] }}\"}, \"when\": \"r2 is failed\", \"register\": \"r2\"}, {\"command\": \"x\", \"changed_when\": \"inventory_hostname == 'a'\", \"until\": false, \"ignore_errors\": true}], \"handlers\": [{\"command\": {\"cmd\": \"x\"}, \"name\": \"h0\", \"listen\": \"t\"}]}]") ≡ verdict (accepted 20)
unfolding reading
random_100869 = refl

random_100886 : found (codes "{\"g\": {\"hosts\": [\"b\", \"a\"]}, \"all\": {\"hosts\": [\"c\"], \"vars\": {\"inv\": [1, 2]}}, \"_meta\": {\"hostvars\": {\"a\": {\"opq\": 1.5, \"inv\": [\"x\"]}, \"b\": {\"k\": {\"z\": \"{{ q }}\"}}}}}") (codes "[{\"hosts\": \"all\", \"tasks\": [{\"block\": [{\"set_fact\": {\"y\": [\"{{ groups.g }}\"]}, \"ignore_errors\": true}, {\"stat\": {\"path\": \"p\"}}], \"rescue\": [{\"block\": [{\"set_fact\": {\"y\": \"{{ ansible_failed_result.stdout_lines }}\"}, \"ignore_errors\": true}], \"rescue\": [], \"always\": []}, {\"setup\": null, \"register\": \"r\"}]}, {\"loop\": \"{{ r.stdout_lines }}\", \"command\": \"x\", \"ignore_errors\": true}, {\"stat\": {\"path\": \"p\"}, \"when\": \"('a' in ansible_play_batch) and (group_names == 'a')\", \"register\": \"r\", \"failed_when\": true}], \"strategy\": \"free\", \"serial\": [1, 2], \"force_handlers\": true, \"vars\": {\"v1\": \"{{ hostvars['a'].ansible_hostname.stat.isdir }}\"}}]") ≡ verdict (refused (record { code = 3; line = 6; host = Some (codes "c") }))
unfolding reading
random_100886 = refl

random_100887 : found_with (codes "[{\"name\": \"probe\", \"params\": {\"n\": {\"kind\": \"int\", \"required\": false}, \"l\": {\"kind\": {\"list\": \"text\", \"max\": 3}, \"required\": false}}, \"ok\": {\"changed\": {\"kind\": \"bool\", \"always\": true}, \"v\": {\"kind\": \"int\", \"always\": false}, \"rows\": {\"kind\": {\"list\": \"text\", \"max\": 2}, \"always\": true}, \"deep\": {\"kind\": {\"rec\": {\"a\": {\"kind\": \"text\", \"always\": true}, \"b\": {\"kind\": \"bool\", \"always\": false}}}, \"always\": false}}, \"failure\": {\"changed\": {\"kind\": \"bool\", \"always\": true}, \"msg\": {\"kind\": \"text\", \"always\": true}, \"v\": {\"kind\": \"text\", \"always\": false}, \"why\": {\"kind\": \"int\", \"always\": true}}}, {\"name\": \"odd\", \"params\": {}, \"ok\": {\"changed\": {\"kind\": \"bool\", \"always\": true}, \"msg\": {\"kind\": \"int\", \"always\": false}}, \"failure\": {\"changed\": {\"kind\": \"bool\", \"always\": true}, \"msg\": {\"kind\": \"text\", \"always\": true}}}]") (codes "{\"all\": {\"hosts\": [\"a\"], \"vars\": {\"i2\": {\"f\": \"\"}}}, \"g1\": {\"hosts\": [\"a\"], \"vars\": {\"op\": 1.5}}, \"_meta\": {\"hostvars\": {\"a\": {\"i2\": \"b\", \"op\": 1.5}}}}") (codes "[{\"hosts\": \"all\", \"strategy\": \"free\", \"tasks\": [{\"probe\": {}}, {\"command\": {\"cmd\": \"x\"}, \"when\": \"i2 == 'a'\", \"register\": \"r1\"}]}]") ≡ verdict (accepted 2)
unfolding reading
random_100887 = refl

random_100894 : found (codes "{\"g\": {\"hosts\": [\"b\", \"a\"]}, \"all\": {\"hosts\": [\"c\"], \"vars\": {\"inv\": [1, 2]}}, \"_meta\": {\"hostvars\": {\"a\": {\"opq\": 1.5, \"inv\": [\"x\"]}, \"b\": {\"k\": {\"z\": \"{{ q }}\"}}}}}") (codes "[{\"hosts\": \"g\", \"tasks\": [{\"block\": [{\"loop\": \"{{ r.stdout_lines }}\", \"fail\": {\"msg\": \"m\"}, \"failed_when\": true, \"ignore_errors\": true, \"vars\": {\"v2\": \"a\"}}], \"rescue\": [], \"always\": []}, {\"fail\": {\"msg\": \"m\"}}]}]") ≡ verdict (refused (record { code = 1; line = 3; host = Some (codes "b") }))
unfolding reading
random_100894 = refl

random_100910 : found (codes "{\"g\": {\"hosts\": [\"b\", \"a\"]}, \"all\": {\"hosts\": [\"c\"], \"vars\": {\"inv\": [1, 2]}}, \"_meta\": {\"hostvars\": {\"a\": {\"opq\": 1.5, \"inv\": [\"x\"]}, \"b\": {\"k\": {\"z\": \"{{ q }}\"}}}}}") (codes "[{\"hosts\": \"all\", \"tasks\": [{\"block\": [{\"block\": [{\"loop\": \"{{ inv }}\", \"ping\": null, \"when\": [\"hostvars['a'].r.rc is defined\"]}], \"rescue\": []}, {\"block\": [{\"assert\": {\"that\": \"(('a' in inventory_hostname.rc) or (r.changed == 'a')) or ((s.changed is not skipped) and (group_names.results is not skipped))\"}, \"register\": \"s\"}], \"always\": []}], \"rescue\": [{\"fail\": null, \"when\": [\"r is defined\"]}], \"when\": \"r.stdout is not defined\"}, {\"debug\": {\"msg\": [1, 2]}, \"register\": \"r\", \"changed_when\": \"r is changed\"}, {\"block\": [{\"assert\": {\"that\": \"r.results < 3\"}, \"register\": \"r\", \"failed_when\": \"r is failed\"}], \"rescue\": [{\"command\": \"x\", \"vars\": {\"v2\": \"{{ groups.g == 1 }}\"}}, {\"loop\": \"{{ inv }}\", \"debug\": {\"msg\": \"{{ inventory_hostname.msg }}\"}, \"when\": \"item in ansible_play_batch\"}], \"when\": [\"hostvars['a'].r.rc is defined\", \"(hostvars[inventory_hostname].inv < 3) or (y)\"]}, {\"block\": [{\"loop\": \"{{ inv }}\", \"set_fact\": {\"y\": \"{{ groups.g }}\"}, \"register\": \"r\", \"changed_when\": \"r is changed\"}], \"rescue\": []}], \"force_handlers\": true}, {\"hosts\": \"a\", \"tasks\": [{\"ping\": null, \"register\": \"s\", \"ignore_errors\": true}], \"serial\": \"50%\", \"force_handlers\": true}]") ≡ verdict (refused (record { code = 4; line = 6; host = Some (codes "c") }))
unfolding reading
random_100910 = refl

random_100913 : found_with (codes "[{\"name\": \"probe\", \"params\": {\"n\": {\"kind\": \"int\", \"required\": false}, \"l\": {\"kind\": {\"list\": \"text\", \"max\": 3}, \"required\": false}}, \"ok\": {\"changed\": {\"kind\": \"bool\", \"always\": true}, \"v\": {\"kind\": \"int\", \"always\": false}, \"rows\": {\"kind\": {\"list\": \"text\", \"max\": 2}, \"always\": true}, \"deep\": {\"kind\": {\"rec\": {\"a\": {\"kind\": \"text\", \"always\": true}, \"b\": {\"kind\": \"bool\", \"always\": false}}}, \"always\": false}}, \"failure\": {\"changed\": {\"kind\": \"bool\", \"always\": true}, \"msg\": {\"kind\": \"text\", \"always\": true}, \"v\": {\"kind\": \"text\", \"always\": false}, \"why\": {\"kind\": \"int\", \"always\": true}}}, {\"name\": \"odd\", \"params\": {}, \"ok\": {\"changed\": {\"kind\": \"bool\", \"always\": true}, \"msg\": {\"kind\": \"int\", \"always\": false}}, \"failure\": {\"changed\": {\"kind\": \"bool\", \"always\": true}, \"msg\": {\"kind\": \"text\", \"always\": true}}}]") (codes "{\"all\": {\"hosts\": [\"a\"], \"vars\": {\"i1\": \"t\"}}, \"g1\": {\"hosts\": [], \"vars\": {\"op\": 1.5}}, \"g2\": {\"hosts\": [\"a\"], \"vars\": {}}, \"_meta\": {\"hostvars\": {\"a\": {}}}}") (codes "[{\"hosts\": \"g2\", \"tasks\": [{\"loop\": \"{{ r3.results | default([]) }}\", \"stat\": {\"path\": \"/\"}, \"when\": \"r1 is undefined\", \"register\": \"r3\"}, {\"meta\": \"flush_handlers\"}], \"post_tasks\": [{\"probe\": null, \"register\": \"r3\", \"failed_when\": true}], \"handlers\": [{\"vars\": {\"v1\": \"{{ hostvars['a'].r2.failed | default(s1) }}\", \"v2\": \"{{ hostvars[groups['all'][0]].r1.failed }}\", \"v3\": \"{{ true }}\"}, \"command\": {\"cmd\": \"x\"}, \"changed_when\": true, \"failed_when\": true, \"name\": \"h0\", \"listen\": \"t\", \"notify\": \"h1\"}, {\"command\": {\"cmd\": \"x\"}, \"when\": \"'a' in ansible_play_batch\", \"register\": \"r1\", \"changed_when\": \"r1.stdout | default(true) == true\", \"name\": \"h1\", \"listen\": \"t\"}, {\"assert\": {\"that\": [\"'a' in ansible_play_batch\"]}, \"register\": \"r1\", \"changed_when\": false, \"name\": \"h2\", \"listen\": \"t\"}], \"force_handlers\": true}]") ≡ verdict (accepted 7)
unfolding reading
random_100913 = refl

random_100914 : found (codes "{\"g\": {\"hosts\": [\"b\", \"a\"]}, \"all\": {\"hosts\": [\"c\"], \"vars\": {\"inv\": [1, 2]}}, \"_meta\": {\"hostvars\": {\"a\": {\"opq\": 1.5, \"inv\": [\"x\"]}, \"b\": {\"k\": {\"z\": \"{{ q }}\"}}}}}") (codes "[{\"hosts\": \"a\", \"handlers\": [{\"loop\": [\"a\", \"b\"], \"set_fact\": {\"y\": \"{{ true }}\"}, \"when\": [\"y is defined\", \"hostvars['b'].y is defined\"], \"changed_when\": \"zz is changed\", \"name\": \"h0\"}], \"tasks\": [{\"meta\": \"flush_handlers\"}, {\"assert\": {\"that\": [\"'a' in ansible_play_batch\", \"group_names.changed is undefined\"]}, \"register\": \"r\", \"notify\": \"h0\"}], \"strategy\": \"free\"}, {\"hosts\": \"all\", \"tasks\": [{\"block\": []}, {\"setup\": null, \"when\": [\"hostvars['b'].y is defined\", \"r is not skipped\"]}, {\"loop\": \"{{ ansible_play_batch }}\", \"assert\": {\"that\": [\"zz.os_family is defined\", \"hostvars['a'].inv == 1\"]}}]}]") ≡ verdict (refused (record { code = 1; line = 4; host = Some (codes "a") }))
unfolding reading
random_100914 = refl

random_100917 : found_with (codes "[{\"name\": \"probe\", \"params\": {\"n\": {\"kind\": \"int\", \"required\": false}, \"l\": {\"kind\": {\"list\": \"text\", \"max\": 3}, \"required\": false}}, \"ok\": {\"changed\": {\"kind\": \"bool\", \"always\": true}, \"v\": {\"kind\": \"int\", \"always\": false}, \"rows\": {\"kind\": {\"list\": \"text\", \"max\": 2}, \"always\": true}, \"deep\": {\"kind\": {\"rec\": {\"a\": {\"kind\": \"text\", \"always\": true}, \"b\": {\"kind\": \"bool\", \"always\": false}}}, \"always\": false}}, \"failure\": {\"changed\": {\"kind\": \"bool\", \"always\": true}, \"msg\": {\"kind\": \"text\", \"always\": true}, \"v\": {\"kind\": \"text\", \"always\": false}, \"why\": {\"kind\": \"int\", \"always\": true}}}, {\"name\": \"odd\", \"params\": {}, \"ok\": {\"changed\": {\"kind\": \"bool\", \"always\": true}, \"msg\": {\"kind\": \"int\", \"always\": false}}, \"failure\": {\"changed\": {\"kind\": \"bool\", \"always\": true}, \"msg\": {\"kind\": \"text\", \"always\": true}}}]") (codes "{\"all\": {\"hosts\": [\"a\", \"b\"], \"vars\": {\"i2\": [2]}}, \"g2\": {\"hosts\": [\"a\", \"b\"], \"vars\": {\"s1\": []}}, \"_meta\": {\"hostvars\": {\"a\": {\"i1\": 3}, \"b\": {}}}}") (codes "[{\"hosts\": \"all\", \"tasks\": [{\"meta\": \"flush_handlers\"}, {\"set_fact\": {\"s1\": \"t\"}}, {\"assert\": {\"that\": true}, \"ignore_errors\": true}], \"force_handlers\": true}]") ≡ verdict (accepted 0)
unfolding reading
random_100917 = refl

random_100925 : found_with (codes "[{\"name\": \"probe\", \"params\": {\"n\": {\"kind\": \"int\", \"required\": false}, \"l\": {\"kind\": {\"list\": \"text\", \"max\": 3}, \"required\": false}}, \"ok\": {\"changed\": {\"kind\": \"bool\", \"always\": true}, \"v\": {\"kind\": \"int\", \"always\": false}, \"rows\": {\"kind\": {\"list\": \"text\", \"max\": 2}, \"always\": true}, \"deep\": {\"kind\": {\"rec\": {\"a\": {\"kind\": \"text\", \"always\": true}, \"b\": {\"kind\": \"bool\", \"always\": false}}}, \"always\": false}}, \"failure\": {\"changed\": {\"kind\": \"bool\", \"always\": true}, \"msg\": {\"kind\": \"text\", \"always\": true}, \"v\": {\"kind\": \"text\", \"always\": false}, \"why\": {\"kind\": \"int\", \"always\": true}}}, {\"name\": \"odd\", \"params\": {}, \"ok\": {\"changed\": {\"kind\": \"bool\", \"always\": true}, \"msg\": {\"kind\": \"int\", \"always\": false}}, \"failure\": {\"changed\": {\"kind\": \"bool\", \"always\": true}, \"msg\": {\"kind\": \"text\", \"always\": true}}}]") (codes "{\"all\": {\"hosts\": [\"a\", \"b\", \"c\"], \"vars\": {}}, \"g1\": {\"hosts\": [], \"vars\": {\"i2\": [\"a\"], \"s1\": {\"g\": [\"a\", \"b\"]}}}, \"g2\": {\"hosts\": [\"c\"], \"vars\": {}}, \"_meta\": {\"hostvars\": {\"a\": {}, \"b\": {}, \"c\": {}}}}") (codes "[{\"hosts\": \"all\", \"vars\": {\"v1\": \"{{ hostvars['a'].s1 }}\", \"v2\": \"x{{ hostvars[inventory_hostname].i2 }}\", \"v3\": \"{{ r3 }}\"}, \"tasks\": [{\"ping\": null, \"register\": \"r3\", \"failed_when\": \"inventory_hostname == 'a'\", \"ignore_errors\": true}, {\"command\": {\"cmd\": \"x\"}, \"when\": \"inventory_hostname != 'a'\", \"register\": \"r3\", \"ignore_errors\": true}, {\"block\": [{\"odd\": null}, {\"stat\": {\"path\": \"/\"}, \"register\": \"r2\", \"changed_when\": \"r2.changed is defined and r2.changed == 'a'\", \"until\": \"r2 is failed\", \"retries\": 1}]}, {\"probe\": {}, \"register\": \"r1\", \"failed_when\": true}]}]") ≡ verdict (accepted 18)
unfolding reading
random_100925 = refl

random_100942 : found (codes "{\"g\": {\"hosts\": [\"b\", \"a\"]}, \"all\": {\"hosts\": [\"c\"], \"vars\": {\"inv\": [1, 2]}}, \"_meta\": {\"hostvars\": {\"a\": {\"opq\": 1.5, \"inv\": [\"x\"]}, \"b\": {\"k\": {\"z\": \"{{ q }}\"}}}}}") (codes "[{\"hosts\": \"a\", \"handlers\": [{\"command\": \"x\", \"when\": [\"s is defined and s is not failed\"], \"register\": \"r\", \"failed_when\": false, \"name\": \"h0\"}], \"tasks\": [{\"loop\": [\"a\", \"b\"], \"command\": \"x\", \"when\": [\"not (r is undefined or r is failed)\"], \"register\": \"r\", \"notify\": \"h0\"}, {\"setup\": null, \"when\": \"ansible_failed_result.stat.isdir is succeeded\", \"register\": \"r\", \"notify\": \"h0\"}, {\"set_fact\": {\"y\": \"{{ (hostvars['a'].inv is not skipped) or (r.rc is undefined) }}\"}}], \"strategy\": \"free\"}]") ≡ verdict (refused (record { code = 1; line = 3; host = Some (codes "a") }))
unfolding reading
random_100942 = refl

random_100951 : found_with (codes "[{\"name\": \"probe\", \"params\": {\"n\": {\"kind\": \"int\", \"required\": false}, \"l\": {\"kind\": {\"list\": \"text\", \"max\": 3}, \"required\": false}}, \"ok\": {\"changed\": {\"kind\": \"bool\", \"always\": true}, \"v\": {\"kind\": \"int\", \"always\": false}, \"rows\": {\"kind\": {\"list\": \"text\", \"max\": 2}, \"always\": true}, \"deep\": {\"kind\": {\"rec\": {\"a\": {\"kind\": \"text\", \"always\": true}, \"b\": {\"kind\": \"bool\", \"always\": false}}}, \"always\": false}}, \"failure\": {\"changed\": {\"kind\": \"bool\", \"always\": true}, \"msg\": {\"kind\": \"text\", \"always\": true}, \"v\": {\"kind\": \"text\", \"always\": false}, \"why\": {\"kind\": \"int\", \"always\": true}}}, {\"name\": \"odd\", \"params\": {}, \"ok\": {\"changed\": {\"kind\": \"bool\", \"always\": true}, \"msg\": {\"kind\": \"int\", \"always\": false}}, \"failure\": {\"changed\": {\"kind\": \"bool\", \"always\": true}, \"msg\": {\"kind\": \"text\", \"always\": true}}}]") (codes "{\"all\": {\"hosts\": [\"a\", \"b\"], \"vars\": {\"s1\": [\"no\", 2], \"op\": 1.5}}, \"_meta\": {\"hostvars\": {\"a\": {}, \"b\": {\"i2\": false, \"s1\": [0]}}}}") (codes "[{\"hosts\": [\"a\", \"all\"], \"strategy\": \"free\", \"serial\": [1, 2], \"tasks\": [{\"when\": \"r3 is not skipped\", \"block\": [{\"ping\": null}], \"rescue\": [{\"assert\": {\"that\": [\"r1.changed | default(false)\"]}}, {\"command\": {\"cmd\": \"x\"}, \"notify\": \"h0\"}]}, {\"loop\": \"{{ ansible_play_batch }}\", \"command\": {\"cmd\": \"x {{ hostvars['a'].r3.failed | length }}\"}, \"when\": [\"r2.changed | default(false)\", \"item in ansible_play_batch\", \"hostvars['a'].r3 is defined\", \"hostvars['a'].r3 is failed\"], \"register\": \"r3\"}, {\"loop\": \"{{ r1.stdout_lines | default([]) }}\", \"command\": {\"cmd\": \"x\"}}], \"handlers\": [{\"debug\": {\"msg\": \"{{ [s1, 1] }}\"}, \"register\": \"r3\", \"name\": \"h0\", \"listen\": \"t\"}, {\"probe\": {\"n\": \"{{ hostvars['b'].r2.failed }}\"}, \"when\": [\"hostvars['b'].r2 is defined\", \"hostvars['b'].r2 is failed\"], \"register\": \"r3\", \"name\": \"h1\"}]}]") ≡ verdict (refused (record { code = 1; line = 3; host = Some (codes "a") }))
unfolding reading
random_100951 = refl

random_100954 : found (codes "{\"g\": {\"hosts\": [\"b\", \"a\"]}, \"all\": {\"hosts\": [\"c\"], \"vars\": {\"inv\": [1, 2]}}, \"_meta\": {\"hostvars\": {\"a\": {\"opq\": 1.5, \"inv\": [\"x\"]}, \"b\": {\"k\": {\"z\": \"{{ q }}\"}}}}}") (codes "[{\"hosts\": \"all\", \"handlers\": [{\"command\": \"x\", \"register\": \"s\", \"vars\": {\"v1\": \"{{ s.changed }}\"}, \"name\": \"h0\"}], \"tasks\": [{\"block\": [{\"block\": [{\"command\": {\"cmd\": {\"k\": {\"k\": \"x{{ ansible_hostname.msg }}\"}}}, \"when\": \"ansible_play_batch.stdout is changed\", \"changed_when\": \"zz is changed\"}, {\"loop\": [\"a\", \"b\"], \"set_fact\": {\"y\": \"x{{ item.os_family | default(v2.changed) }}\"}, \"when\": [\"hostvars['a'].r.rc is defined\"], \"ignore_errors\": true}], \"always\": []}], \"always\": [{\"block\": [{\"stat\": {\"path\": \"p\"}, \"register\": \"r\", \"notify\": \"h0\"}]}], \"when\": [\"y is not skipped\", \"groups.g is changed\"]}, {\"block\": [{\"debug\": {\"msg\": \"x{{ item.stat.isdir }}\"}, \"when\": [\"y is defined\", \"r is defined\"], \"ignore_errors\": true, \"notify\": \"h0\"}, {\"loop\": \"{{ r.results }}\", \"command\": {\"cmd\": \"{{ r.stdout }}\"}, \"when\": [\"y is defined\", \"hostvars['a'].r.rc is defined\"], \"register\": \"s\", \"notify\": \"h0\"}], \"when\": [\"groups.g is succeeded\", \"inventory_hostname is undefined\"]}, {\"debug\": {\"msg\": \"{{ group_names is skipped }}\"}, \"register\": \"s\", \"failed_when\": \"s is failed\", \"ignore_errors\": true, \"notify\": \"h0\"}], \"strategy\": \"free\"}]") ≡ verdict (refused (record { code = 1; line = 4; host = Some (codes "c") }))
unfolding reading
random_100954 = refl

random_100956 : found (codes "{\"g\": {\"hosts\": [\"b\", \"a\"]}, \"all\": {\"hosts\": [\"c\"], \"vars\": {\"inv\": [1, 2]}}, \"_meta\": {\"hostvars\": {\"a\": {\"opq\": 1.5, \"inv\": [\"x\"]}, \"b\": {\"k\": {\"z\": \"{{ q }}\"}}}}}") (codes "[{\"hosts\": \"all\", \"tasks\": [{\"loop\": \"{{ groups['g'] }}\", \"fail\": {\"msg\": \"m\"}, \"when\": [\"item in ansible_play_batch\", \"r is not skipped\"], \"register\": \"r\"}, {\"set_fact\": {\"s\": \"x{{ v1.rc }}\"}, \"ignore_errors\": false}], \"strategy\": \"free\"}]") ≡ verdict (refused (record { code = 1; line = 2; host = Some (codes "c") }))
unfolding reading
random_100956 = refl

random_100958 : found (codes "{\"g\": {\"hosts\": [\"b\", \"a\"]}, \"all\": {\"hosts\": [\"c\"], \"vars\": {\"inv\": [1, 2]}}, \"_meta\": {\"hostvars\": {\"a\": {\"opq\": 1.5, \"inv\": [\"x\"]}, \"b\": {\"k\": {\"z\": \"{{ q }}\"}}}}}") (codes "[{\"hosts\": \"all\", \"handlers\": [{\"debug\": {\"msg\": \"x{{ hostvars['a'].r.rc }}\"}, \"when\": \"item.k == 1\", \"changed_when\": true, \"name\": \"h0\"}, {\"command\": \"x\", \"when\": [\"r is defined\"], \"until\": \"zz.changed\", \"retries\": 1, \"name\": \"h1\"}], \"tasks\": [{\"set_fact\": {\"s\": \"{{ r.rc | default(group_names) }}\"}, \"notify\": \"h1\"}, {\"command\": \"x\", \"when\": [\"((hostvars['a'].inv < 3) and ('a' in ansible_play_batch)) and (not (y is not defined))\", \"inv.os_family is undefined\"], \"notify\": \"h1\"}, {\"ping\": null, \"when\": [\"y is defined\", \"hostvars['b'].y is defined\"], \"register\": \"s\"}], \"strategy\": \"free\", \"serial\": 1, \"force_handlers\": true}]") ≡ verdict (refused (record { code = 4; line = 3; host = Some (codes "c") }))
unfolding reading
random_100958 = refl

random_100963 : found_with (codes "[{\"name\": \"probe\", \"params\": {\"n\": {\"kind\": \"int\", \"required\": false}, \"l\": {\"kind\": {\"list\": \"text\", \"max\": 3}, \"required\": false}}, \"ok\": {\"changed\": {\"kind\": \"bool\", \"always\": true}, \"v\": {\"kind\": \"int\", \"always\": false}, \"rows\": {\"kind\": {\"list\": \"text\", \"max\": 2}, \"always\": true}, \"deep\": {\"kind\": {\"rec\": {\"a\": {\"kind\": \"text\", \"always\": true}, \"b\": {\"kind\": \"bool\", \"always\": false}}}, \"always\": false}}, \"failure\": {\"changed\": {\"kind\": \"bool\", \"always\": true}, \"msg\": {\"kind\": \"text\", \"always\": true}, \"v\": {\"kind\": \"text\", \"always\": false}, \"why\": {\"kind\": \"int\", \"always\": true}}}, {\"name\": \"odd\", \"params\": {}, \"ok\": {\"changed\": {\"kind\": \"bool\", \"always\": true}, \"msg\": {\"kind\": \"int\", \"always\": false}}, \"failure\": {\"changed\": {\"kind\": \"bool\", \"always\": true}, \"msg\": {\"kind\": \"text\", \"always\": true}}}]") (codes "{\"all\": {\"hosts\": [\"a\", \"b\", \"c\", \"d\"], \"vars\": {}}, \"g1\": {\"hosts\": [\"b\"], \"vars\": {\"i1\": \"t\"}, \"children\": [\"g2\"]}, \"g2\": {\"hosts\": [\"b\", \"c\", \"d\"], \"vars\": {\"i1\": null}}, \"_meta\": {\"hostvars\": {\"a\": {\"i2\": \"b\", \"op\": 1.5}, \"b\": {\"i1\": null, \"s1\": [1]}, \"c\": {\"i1\": [-1], \"op\": 1.5}, \"d\": {\"i1\": false}}}}") (codes "[{\"hosts\": [\"c\", \"all\"], \"vars\": {\"v2\": \"{{ [ansible_facts.hostname, 1] }}\"}, \"strategy\": \"free\", \"tasks\": [{\"set_fact\": {\"s2\": {\"f\": 1}}, \"ignore_errors\": true}, {\"vars\": {\"v2\": \"{{ r3.changed | length }}\"}, \"assert\": {\"that\": [\"not (ansible_hostname is not defined)\"]}, \"register\": \"r2\", \"changed_when\": false}], \"force_handlers\": true}]") ≡ verdict (accepted 0)
unfolding reading
random_100963 = refl

random_100964 : found (codes "{\"g\": {\"hosts\": [\"b\", \"a\"]}, \"all\": {\"hosts\": [\"c\"], \"vars\": {\"inv\": [1, 2]}}, \"_meta\": {\"hostvars\": {\"a\": {\"opq\": 1.5, \"inv\": [\"x\"]}, \"b\": {\"k\": {\"z\": \"{{ q }}\"}}}}}") (codes "[{\"hosts\": \"all\", \"tasks\": [{\"fail\": null, \"changed_when\": \"zz is changed\"}, {\"stat\": {\"path\": \"p\"}, \"register\": \"r\"}, {\"block\": [{\"debug\": {\"msg\": \"{{ inv }}\"}, \"when\": \"(v2.stdout_lines is defined) and (groups['g'][0] in ansible_play_batch)\", \"register\": \"s\", \"ignore_errors\": false}], \"ignore_errors\": true}], \"post_tasks\": [{\"assert\": {\"that\": \"(not (s.results == 'a')) and (not (inv.results is undefined))\"}}, {\"block\": [], \"rescue\": [{\"stat\": {\"path\": \"p\"}, \"register\": \"r\", \"vars\": {\"v1\": [null]}}, {\"block\": [{\"stat\": {\"path\": \"p\"}, \"when\": \"opq.msg is not defined\"}, {\"debug\": {\"msg\": 1}}]}], \"always\": [{\"command\": \"x\", \"register\": \"r\"}]}], \"force_handlers\": true}, {\"hosts\": \"all\", \"tasks\": [{\"loop\": [\"a\", \"b\"], \"setup\": null, \"when\": \"(inventory_hostname is changed) or (r is failed)\", \"register\": \"s\"}, {\"block\": [{\"fail\": null}, {\"stat\": {\"path\": \"p\"}, \"when\": [\"'b' in ansible_play_batch\"], \"register\": \"s\"}], \"rescue\": [{\"debug\": {\"msg\": \"{{ v2.os_family }}\"}}, {\"block\": [{\"ping\": null, \"register\": \"r\"}], \"rescue\": [{\"command\": {\"cmd\": \"{{ inventory_hostname.changed }}\"}, \"changed_when\": \"zz is changed\"}]}], \"always\": [{\"setup\": null}], \"when\": [\"'a' in ansible_play_batch\", \"inventory_hostname in ansible_play_batch\"]}]}]") ≡ verdict (refused (record { code = 1; line = 2; host = Some (codes "c") }))
unfolding reading
random_100964 = refl

random_100981 : found_with (codes "[{\"name\": \"probe\", \"params\": {\"n\": {\"kind\": \"int\", \"required\": false}, \"l\": {\"kind\": {\"list\": \"text\", \"max\": 3}, \"required\": false}}, \"ok\": {\"changed\": {\"kind\": \"bool\", \"always\": true}, \"v\": {\"kind\": \"int\", \"always\": false}, \"rows\": {\"kind\": {\"list\": \"text\", \"max\": 2}, \"always\": true}, \"deep\": {\"kind\": {\"rec\": {\"a\": {\"kind\": \"text\", \"always\": true}, \"b\": {\"kind\": \"bool\", \"always\": false}}}, \"always\": false}}, \"failure\": {\"changed\": {\"kind\": \"bool\", \"always\": true}, \"msg\": {\"kind\": \"text\", \"always\": true}, \"v\": {\"kind\": \"text\", \"always\": false}, \"why\": {\"kind\": \"int\", \"always\": true}}}, {\"name\": \"odd\", \"params\": {}, \"ok\": {\"changed\": {\"kind\": \"bool\", \"always\": true}, \"msg\": {\"kind\": \"int\", \"always\": false}}, \"failure\": {\"changed\": {\"kind\": \"bool\", \"always\": true}, \"msg\": {\"kind\": \"text\", \"always\": true}}}]") (codes "{\"all\": {\"hosts\": [\"a\", \"b\"], \"vars\": {\"i1\": 1}}, \"g2\": {\"hosts\": [\"a\", \"b\"], \"vars\": {}}, \"_meta\": {\"hostvars\": {\"a\": {\"i1\": {\"f\": 1, \"g\": {\"g\": true}}, \"i2\": {\"f\": [\"a\"]}}, \"b\": {\"i2\": {\"f\": {}}}}}}") (codes "[{\"hosts\": \"all\", \"strategy\": \"free\", \"gather_facts\": true, \"tasks\": [{\"block\": [{\"command\": {\"cmd\": \"x\"}, \"register\": \"r1\"}], \"rescue\": [{\"assert\": {\"that\": [\"'g1' in group_names\"]}, \"register\": \"r1\"}]}, {\"assert\": {\"that\": [\"groups['all'][0] not in ansible_play_batch\"]}}, {\"meta\": \"flush_handlers\"}, {\"ping\": null, \"failed_when\": false}]}, {\"hosts\": \"all\", \"strategy\": \"free\", \"serial\": [1, \"100%\"], \"gather_facts\": true, \"tasks\": [{\"vars\": {}, \"fail\": null, \"when\": \"r1 is failed\"}]}]") ≡ verdict (accepted 8)
unfolding reading
random_100981 = refl

random_100988 : found (codes "{\"g\": {\"hosts\": [\"b\", \"a\"]}, \"all\": {\"hosts\": [\"c\"], \"vars\": {\"inv\": [1, 2]}}, \"_meta\": {\"hostvars\": {\"a\": {\"opq\": 1.5, \"inv\": [\"x\"]}, \"b\": {\"k\": {\"z\": \"{{ q }}\"}}}}}") (codes "[{\"hosts\": \"all\", \"tasks\": [{\"block\": [{\"ping\": null}, {\"block\": [], \"rescue\": [{\"debug\": {\"msg\": \"{{ y.changed == 1 }}\"}}], \"when\": \"y.os_family is skipped\"}], \"rescue\": [{\"stat\": {\"path\": \"p\"}, \"when\": \"inv.results is undefined\", \"register\": \"s\"}, {\"setup\": null}], \"when\": \"y is undefined\"}, {\"command\": {\"cmd\": [\"{{ y | length }}\"]}, \"ignore_errors\": true}], \"gather_facts\": true}]") ≡ verdict (refused (record { code = 1; line = 9; host = Some (codes "c") }))
unfolding reading
random_100988 = refl

random_100989 : found_with (codes "[{\"name\": \"probe\", \"params\": {\"n\": {\"kind\": \"int\", \"required\": false}, \"l\": {\"kind\": {\"list\": \"text\", \"max\": 3}, \"required\": false}}, \"ok\": {\"changed\": {\"kind\": \"bool\", \"always\": true}, \"v\": {\"kind\": \"int\", \"always\": false}, \"rows\": {\"kind\": {\"list\": \"text\", \"max\": 2}, \"always\": true}, \"deep\": {\"kind\": {\"rec\": {\"a\": {\"kind\": \"text\", \"always\": true}, \"b\": {\"kind\": \"bool\", \"always\": false}}}, \"always\": false}}, \"failure\": {\"changed\": {\"kind\": \"bool\", \"always\": true}, \"msg\": {\"kind\": \"text\", \"always\": true}, \"v\": {\"kind\": \"text\", \"always\": false}, \"why\": {\"kind\": \"int\", \"always\": true}}}, {\"name\": \"odd\", \"params\": {}, \"ok\": {\"changed\": {\"kind\": \"bool\", \"always\": true}, \"msg\": {\"kind\": \"int\", \"always\": false}}, \"failure\": {\"changed\": {\"kind\": \"bool\", \"always\": true}, \"msg\": {\"kind\": \"text\", \"always\": true}}}]") (codes "{\"all\": {\"hosts\": [\"a\", \"b\", \"c\", \"d\"], \"vars\": {}}, \"g1\": {\"hosts\": [\"a\", \"b\", \"c\"], \"vars\": {}}, \"g2\": {\"hosts\": [\"b\", \"c\", \"d\"], \"vars\": {}}, \"_meta\": {\"hostvars\": {\"a\": {\"i2\": [1]}, \"b\": {\"s1\": \"\"}, \"c\": {\"i2\": 2}, \"d\": {}}}}") (codes "[{\"hosts\": \"g1\", \"pre_tasks\": [{\"loop\": [2], \"command\": {\"cmd\": \"x\"}, \"register\": \"r2\", \"ignore_errors\": true}], \"tasks\": [{\"fail\": null}], \"handlers\": [{\"assert\": {\"that\": true}, \"register\": \"r3\", \"name\": \"h0\", \"notify\": \"h1\"}, {\"ping\": null, \"register\": \"r1\", \"name\": \"h1\", \"listen\": \"t\"}], \"force_handlers\": true}, {\"hosts\": \"all\", \"gather_facts\": true, \"pre_tasks\": [{\"meta\": \"flush_handlers\"}], \"tasks\": [{\"loop\": \"{{ ansible_play_batch }}\", \"command\": \"x\", \"notify\": \"h0\"}], \"handlers\": [{\"loop\": \"{{ r3.results | default([]) }}\", \"command\": {\"cmd\": \"x\"}, \"name\": \"h0\", \"listen\": \"t\"}], \"force_handlers\": false}]") ≡ verdict (accepted 17)
unfolding reading
random_100989 = refl

random_100992 : found (codes "{\"g\": {\"hosts\": [\"b\", \"a\"]}, \"all\": {\"hosts\": [\"c\"], \"vars\": {\"inv\": [1, 2]}}, \"_meta\": {\"hostvars\": {\"a\": {\"opq\": 1.5, \"inv\": [\"x\"]}, \"b\": {\"k\": {\"z\": \"{{ q }}\"}}}}}") (codes "[{\"hosts\": \"all\", \"handlers\": [{\"setup\": null, \"when\": [\"hostvars['a'].r.rc is defined\"], \"register\": \"s\", \"vars\": {\"v2\": \"{{ ansible_hostname | default(1) }}\"}, \"name\": \"h0\"}], \"tasks\": [{\"loop\": \"{{ inv }}\", \"ping\": null, \"when\": [\"not (r is undefined or r is failed)\", \"'a' in ansible_play_batch\"], \"register\": \"r\", \"ignore_errors\": true, \"notify\": \"h0\"}, {\"block\": [{\"assert\": {\"that\": [\"('a' in ansible_play_batch.k) and (inventory_hostname < 3)\", \"(('a' in r.failed) and (r.failed is succeeded)) or ((r.rc) or (hostvars[inventory_hostname].opq.stdout_lines is changed))\"]}, \"when\": \"(inventory_hostname.os_family is failed) or (item is not defined)\", \"register\": \"s\", \"notify\": \"h0\"}], \"rescue\": [{\"set_fact\": {\"y\": \"{{ ansible_facts.changed }}\"}, \"register\": \"s\", \"notify\": \"h0\"}], \"always\": []}, {\"fail\": null, \"when\": [\"ansible_play_batch < 3\", \"hostvars['a'].opq.stat.isdir is failed\"], \"notify\": \"h0\"}], \"vars\": {\"v1\": \"{{ r.failed }}\"}}, {\"hosts\": \"all\", \"handlers\": [{\"debug\": {\"msg\": \"{{ hostvars['a'].opq.stdout }}\"}, \"when\": \"(s.msg is defined) and (not (hostvars[item].inv is failed))\", \"register\": \"s\", \"changed_when\": false, \"ignore_errors\": true, \"name\": \"h0\"}, {\"stat\": {\"path\": \"p\"}, \"when\": [\"r.rc is defined\"], \"name\": \"h1\"}], \"tasks\": [{\"debug\": {\"msg\": \"a\"}}], \"strategy\": \"free\"}]") ≡ verdict (refused (record { code = 4; line = 4; host = Some (codes "c") }))
unfolding reading
random_100992 = refl

random_101000 : found (codes "{\"g\": {\"hosts\": [\"b\", \"a\"]}, \"all\": {\"hosts\": [\"c\"], \"vars\": {\"inv\": [1, 2]}}, \"_meta\": {\"hostvars\": {\"a\": {\"opq\": 1.5, \"inv\": [\"x\"]}, \"b\": {\"k\": {\"z\": \"{{ q }}\"}}}}}") (codes "[{\"hosts\": \"a\", \"tasks\": [{\"ping\": null, \"register\": \"r\"}, {\"command\": \"x\", \"failed_when\": \"zz is failed\", \"vars\": {\"v2\": \"x{{ hostvars[inventory_hostname].r | length }}\"}}]}]") ≡ verdict (refused (record { code = 1; line = 3; host = Some (codes "a") }))
unfolding reading
random_101000 = refl

random_101002 : found (codes "{\"g\": {\"hosts\": [\"b\", \"a\"]}, \"all\": {\"hosts\": [\"c\"], \"vars\": {\"inv\": [1, 2]}}, \"_meta\": {\"hostvars\": {\"a\": {\"opq\": 1.5, \"inv\": [\"x\"]}, \"b\": {\"k\": {\"z\": \"{{ q }}\"}}}}}") (codes "[{\"hosts\": \"all\", \"tasks\": [{\"setup\": null, \"when\": [\"not (r is undefined or r is failed)\", \"'a' in ansible_play_batch\"], \"ignore_errors\": true}, {\"set_fact\": {\"s\": \"{{ hostvars[item].inv }}\"}}, {\"stat\": {\"path\": \"p\"}, \"register\": \"r\"}, {\"block\": [{\"fail\": null, \"when\": [\"r is not skipped\"], \"register\": \"r\"}, {\"loop\": \"{{ ansible_play_batch }}\", \"fail\": {\"msg\": \"m\"}, \"when\": \"v1 is succeeded\", \"register\": \"r\"}], \"rescue\": [{\"block\": [], \"rescue\": [], \"always\": [{\"fail\": null, \"when\": [\"'a' in ansible_play_batch\", \"not (r is undefined or r is failed)\"]}]}], \"always\": [{\"loop\": [1, 2], \"fail\": null}], \"when\": \"r.changed is not skipped\"}]}]") ≡ verdict (refused (record { code = 1; line = 3; host = Some (codes "c") }))
unfolding reading
random_101002 = refl

random_101005 : found_with (codes "[{\"name\": \"probe\", \"params\": {\"n\": {\"kind\": \"int\", \"required\": false}, \"l\": {\"kind\": {\"list\": \"text\", \"max\": 3}, \"required\": false}}, \"ok\": {\"changed\": {\"kind\": \"bool\", \"always\": true}, \"v\": {\"kind\": \"int\", \"always\": false}, \"rows\": {\"kind\": {\"list\": \"text\", \"max\": 2}, \"always\": true}, \"deep\": {\"kind\": {\"rec\": {\"a\": {\"kind\": \"text\", \"always\": true}, \"b\": {\"kind\": \"bool\", \"always\": false}}}, \"always\": false}}, \"failure\": {\"changed\": {\"kind\": \"bool\", \"always\": true}, \"msg\": {\"kind\": \"text\", \"always\": true}, \"v\": {\"kind\": \"text\", \"always\": false}, \"why\": {\"kind\": \"int\", \"always\": true}}}, {\"name\": \"odd\", \"params\": {}, \"ok\": {\"changed\": {\"kind\": \"bool\", \"always\": true}, \"msg\": {\"kind\": \"int\", \"always\": false}}, \"failure\": {\"changed\": {\"kind\": \"bool\", \"always\": true}, \"msg\": {\"kind\": \"text\", \"always\": true}}}]") (codes "{\"all\": {\"hosts\": [\"a\"], \"vars\": {}}, \"g2\": {\"hosts\": [], \"vars\": {\"s1\": 1}}, \"_meta\": {\"hostvars\": {\"a\": {\"s1\": true}}}}") (codes "[{\"hosts\": \"all\", \"strategy\": \"free\", \"serial\": [1, \"100%\"], \"tasks\": [{\"set_fact\": {\"s1\": 1}}], \"post_tasks\": [{\"debug\": {\"msg\": \"{{ [r2.failed, r2.failed] }}\"}, \"when\": \"r2.failed is defined\", \"register\": \"r1\"}, {\"command\": \"x\"}]}]") ≡ verdict (accepted 1)
unfolding reading
random_101005 = refl

random_101008 : found (codes "{\"g\": {\"hosts\": [\"b\", \"a\"]}, \"all\": {\"hosts\": [\"c\"], \"vars\": {\"inv\": [1, 2]}}, \"_meta\": {\"hostvars\": {\"a\": {\"opq\": 1.5, \"inv\": [\"x\"]}, \"b\": {\"k\": {\"z\": \"{{ q }}\"}}}}}") (codes "[{\"hosts\": \"a\", \"tasks\": [{\"block\": [], \"rescue\": [{\"setup\": null, \"when\": \"y is succeeded\", \"register\": \"s\"}]}, {\"debug\": {\"msg\": {\"k\": \"{{ s.changed | length }}\"}}}], \"strategy\": \"free\", \"serial\": 1}]") ≡ verdict (refused (record { code = 1; line = 4; host = Some (codes "a") }))
unfolding reading
random_101008 = refl

random_101010 : found (codes "{\"g\": {\"hosts\": [\"b\", \"a\"]}, \"all\": {\"hosts\": [\"c\"], \"vars\": {\"inv\": [1, 2]}}, \"_meta\": {\"hostvars\": {\"a\": {\"opq\": 1.5, \"inv\": [\"x\"]}, \"b\": {\"k\": {\"z\": \"{{ q }}\"}}}}}") (codes "[{\"hosts\": \"all\", \"handlers\": [{\"ping\": null, \"name\": \"h0\"}, {\"fail\": {\"msg\": \"m\"}, \"name\": \"h1\"}], \"tasks\": [{\"command\": \"x\", \"register\": \"r\"}, {\"loop\": [1, 2], \"assert\": {\"that\": [\"(r.stdout is changed) and (inventory_hostname.stdout_lines < 3)\", \"r.changed == 'a'\"]}, \"register\": \"s\", \"notify\": \"h1\"}, {\"command\": \"x\", \"until\": \"zz is succeeded\", \"notify\": \"h1\"}], \"gather_facts\": true}, {\"hosts\": \"g\", \"handlers\": [{\"loop\": \"{{ groups['g'] }}\", \"fail\": {\"msg\": \"m\"}, \"when\": [\"y is defined\"], \"name\": \"h0\"}, {\"loop\": \"{{ inv }}\", \"stat\": {\"path\": \"p\"}, \"when\": [\"r is not skipped\"], \"register\": \"s\", \"name\": \"h1\"}], \"tasks\": [{\"meta\": \"flush_handlers\"}, {\"ping\": null, \"register\": \"r\", \"ignore_errors\": true, \"notify\": \"h1\"}, {\"meta\": \"flush_handlers\"}], \"serial\": [1, 2]}]") ≡ verdict (refused (record { code = 4; line = 4; host = Some (codes "c") }))
unfolding reading
random_101010 = refl

random_101019 : found_with (codes "[{\"name\": \"probe\", \"params\": {\"n\": {\"kind\": \"int\", \"required\": false}, \"l\": {\"kind\": {\"list\": \"text\", \"max\": 3}, \"required\": false}}, \"ok\": {\"changed\": {\"kind\": \"bool\", \"always\": true}, \"v\": {\"kind\": \"int\", \"always\": false}, \"rows\": {\"kind\": {\"list\": \"text\", \"max\": 2}, \"always\": true}, \"deep\": {\"kind\": {\"rec\": {\"a\": {\"kind\": \"text\", \"always\": true}, \"b\": {\"kind\": \"bool\", \"always\": false}}}, \"always\": false}}, \"failure\": {\"changed\": {\"kind\": \"bool\", \"always\": true}, \"msg\": {\"kind\": \"text\", \"always\": true}, \"v\": {\"kind\": \"text\", \"always\": false}, \"why\": {\"kind\": \"int\", \"always\": true}}}, {\"name\": \"odd\", \"params\": {}, \"ok\": {\"changed\": {\"kind\": \"bool\", \"always\": true}, \"msg\": {\"kind\": \"int\", \"always\": false}}, \"failure\": {\"changed\": {\"kind\": \"bool\", \"always\": true}, \"msg\": {\"kind\": \"text\", \"always\": true}}}]") (codes "{\"all\": {\"hosts\": [\"a\", \"b\"], \"vars\": {}}, \"g1\": {\"hosts\": [\"a\", \"b\"], \"vars\": {\"i2\": [1], \"op\": 1.5}}, \"g2\": {\"hosts\": [\"b\"], \"vars\": {}}, \"_meta\": {\"hostvars\": {\"a\": {\"i2\": 0, \"op\": 1.5}, \"b\": {}}}}") (codes "[{\"hosts\": \"all\", \"gather_facts\": true, \"tasks\": [{\"command\": {\"cmd\": \"x\"}, \"notify\": \"h0\"}, {\"assert\": {\"that\": [\"not ((r2 is defined and r2 is succeeded and r2.changed == 1) and (r2.failed is undefined))\"]}, \"notify\": \"h0\"}], \"post_tasks\": [{\"set_fact\": {\"s1\": 1}, \"register\": \"r2\"}, {\"vars\": {}, \"assert\": {\"that\": [\"'g1' in group_names\"]}, \"register\": \"r1\", \"ignore_errors\": true, \"notify\": \"h2\", \"changed_when\": true}, {\"probe\": null, \"register\": \"r3\"}, {\"setup\": null, \"register\": \"r1\", \"until\": \"r1 is failed\", \"retries\": 3}], \"handlers\": [{\"command\": \"x\", \"register\": \"r1\", \"name\": \"h0\", \"listen\": \"t\"}, {\"vars\": {\"v1\": \"{{ (hostvars['b'].r2.changed) == (r3.rows) }}\", \"v3\": \"{{ op }}\"}, \"odd\": null, \"name\": \"h1\"}, {\"debug\": {\"msg\": \"x{{ ansible_hostname | default([]) }}\"}, \"register\": \"r2\", \"failed_when\": \"inventory_hostname == 'a'\", \"name\": \"h2\", \"listen\": \"t\"}]}]") ≡ verdict (accepted 22)
unfolding reading
random_101019 = refl

random_101021 : found_with (codes "[{\"name\": \"probe\", \"params\": {\"n\": {\"kind\": \"int\", \"required\": false}, \"l\": {\"kind\": {\"list\": \"text\", \"max\": 3}, \"required\": false}}, \"ok\": {\"changed\": {\"kind\": \"bool\", \"always\": true}, \"v\": {\"kind\": \"int\", \"always\": false}, \"rows\": {\"kind\": {\"list\": \"text\", \"max\": 2}, \"always\": true}, \"deep\": {\"kind\": {\"rec\": {\"a\": {\"kind\": \"text\", \"always\": true}, \"b\": {\"kind\": \"bool\", \"always\": false}}}, \"always\": false}}, \"failure\": {\"changed\": {\"kind\": \"bool\", \"always\": true}, \"msg\": {\"kind\": \"text\", \"always\": true}, \"v\": {\"kind\": \"text\", \"always\": false}, \"why\": {\"kind\": \"int\", \"always\": true}}}, {\"name\": \"odd\", \"params\": {}, \"ok\": {\"changed\": {\"kind\": \"bool\", \"always\": true}, \"msg\": {\"kind\": \"int\", \"always\": false}}, \"failure\": {\"changed\": {\"kind\": \"bool\", \"always\": true}, \"msg\": {\"kind\": \"text\", \"always\": true}}}]") (codes "{\"all\": {\"hosts\": [\"a\", \"b\", \"c\"], \"vars\": {\"i2\": 3, \"op\": 1.5}}, \"g1\": {\"hosts\": [\"a\", \"c\"], \"vars\": {\"i2\": {\"f\": [], \"g\": [\"a\"]}}}, \"g2\": {\"hosts\": [\"a\", \"c\"], \"vars\": {\"i2\": false}}, \"_meta\": {\"hostvars\": {\"a\": {\"s1\": true, \"op\": 1.5}, \"b\": {}, \"c\": {\"i1\": -1, \"op\": 1.5}}}}") (codes "[{\"hosts\": \"all\", \"strategy\": \"free\", \"serial\": [1, 2], \"tasks\": [{\"probe\": {}}]}]") ≡ verdict (accepted 3)
unfolding reading
random_101021 = refl

random_101022 : found (codes "{\"g\": {\"hosts\": [\"b\", \"a\"]}, \"all\": {\"hosts\": [\"c\"], \"vars\": {\"inv\": [1, 2]}}, \"_meta\": {\"hostvars\": {\"a\": {\"opq\": 1.5, \"inv\": [\"x\"]}, \"b\": {\"k\": {\"z\": \"{{ q }}\"}}}}}") (codes "[{\"hosts\": \"all\", \"handlers\": [{\"assert\": {\"that\": \"((inventory_hostname.stdout is not skipped) and (s.changed)) or (inventory_hostname.results is defined)\"}, \"register\": \"s\", \"vars\": {\"v2\": \"x{{ hostvars['a'].inv | length }}\"}, \"name\": \"h0\"}], \"tasks\": [{\"command\": {\"cmd\": \"x{{ inventory_hostname }}\"}, \"changed_when\": true}], \"force_handlers\": true}]") ≡ verdict (refused (record { code = 4; line = 3; host = Some (codes "c") }))
unfolding reading
random_101022 = refl

random_101027 : found_with (codes "[{\"name\": \"probe\", \"params\": {\"n\": {\"kind\": \"int\", \"required\": false}, \"l\": {\"kind\": {\"list\": \"text\", \"max\": 3}, \"required\": false}}, \"ok\": {\"changed\": {\"kind\": \"bool\", \"always\": true}, \"v\": {\"kind\": \"int\", \"always\": false}, \"rows\": {\"kind\": {\"list\": \"text\", \"max\": 2}, \"always\": true}, \"deep\": {\"kind\": {\"rec\": {\"a\": {\"kind\": \"text\", \"always\": true}, \"b\": {\"kind\": \"bool\", \"always\": false}}}, \"always\": false}}, \"failure\": {\"changed\": {\"kind\": \"bool\", \"always\": true}, \"msg\": {\"kind\": \"text\", \"always\": true}, \"v\": {\"kind\": \"text\", \"always\": false}, \"why\": {\"kind\": \"int\", \"always\": true}}}, {\"name\": \"odd\", \"params\": {}, \"ok\": {\"changed\": {\"kind\": \"bool\", \"always\": true}, \"msg\": {\"kind\": \"int\", \"always\": false}}, \"failure\": {\"changed\": {\"kind\": \"bool\", \"always\": true}, \"msg\": {\"kind\": \"text\", \"always\": true}}}]") (codes "{\"all\": {\"hosts\": [\"a\"], \"vars\": {}}, \"g2\": {\"hosts\": [], \"vars\": {\"i1\": 1}}, \"_meta\": {\"hostvars\": {\"a\": {}}}}") (codes "[{\"hosts\": \"all\", \"serial\": 1, \"tasks\": [{\"debug\": {\"msg\": \"{{ none }}\"}, \"register\": \"r3\", \"ignore_errors\": true}, {\"when\": \"hostvars[groups['all'][0]].s1 is defined\", \"block\": [{\"loop\": [], \"fail\": {\"msg\": \"m\"}}, {\"vars\": {}, \"probe\": {}, \"register\": \"r1\", \"notify\": \"t\"}, {\"command\": \"x\"}]}], \"handlers\": [{\"loop\": \"{{ r2.results | default([]) }}\", \"ping\": null, \"register\": \"r2\", \"name\": \"h0\", \"listen\": \"t\"}], \"force_handlers\": true}]") ≡ verdict (accepted 2)
unfolding reading
random_101027 = refl

random_101030 : found (codes "{\"g\": {\"hosts\": [\"b\", \"a\"]}, \"all\": {\"hosts\": [\"c\"], \"vars\": {\"inv\": [1, 2]}}, \"_meta\": {\"hostvars\": {\"a\": {\"opq\": 1.5, \"inv\": [\"x\"]}, \"b\": {\"k\": {\"z\": \"{{ q }}\"}}}}}") (codes "[{\"hosts\": \"a\", \"handlers\": [{\"stat\": {\"path\": \"p\"}, \"changed_when\": false, \"name\": \"h0\"}], \"tasks\": [{\"block\": [], \"rescue\": [{\"set_fact\": {\"y\": [\"{{ true }}\"]}, \"when\": [\"'a' in ansible_play_batch\", \"hostvars['a'].r.rc is defined\"], \"register\": \"r\", \"failed_when\": \"r is failed\"}]}, {\"command\": \"x\", \"when\": [\"'b' in ansible_play_batch\", \"hostvars['b'].y is defined\"], \"register\": \"s\", \"notify\": \"h0\", \"vars\": {\"v2\": {\"k\": [[1, 2]]}}}, {\"loop\": \"{{ groups.all }}\", \"set_fact\": {\"s\": \"{{ (hostvars[item].y is not skipped) or (hostvars['b'].y is not defined) }}\"}, \"when\": [\"r.changed < 3\", \"group_names == 'a'\"], \"notify\": \"h0\"}], \"force_handlers\": true, \"vars\": {\"v1\": \"x{{ v2.hostname }}\"}}]") ≡ verdict (refused (record { code = 1; line = 5; host = Some (codes "a") }))
unfolding reading
random_101030 = refl

random_101032 : found (codes "{\"g\": {\"hosts\": [\"b\", \"a\"]}, \"all\": {\"hosts\": [\"c\"], \"vars\": {\"inv\": [1, 2]}}, \"_meta\": {\"hostvars\": {\"a\": {\"opq\": 1.5, \"inv\": [\"x\"]}, \"b\": {\"k\": {\"z\": \"{{ q }}\"}}}}}") (codes "[{\"hosts\": \"b,a\", \"tasks\": [{\"assert\": {\"that\": [\"hostvars[item].ansible_hostname.rc is undefined\", \"hostvars['b'].inv.k < 3\"]}, \"when\": [\"not (r is undefined or r is failed)\", \"y is defined\"], \"vars\": {\"v2\": {\"k\": \"{{ r | length }}\"}}}, {\"stat\": {\"path\": \"p\"}, \"when\": [\"(hostvars['a'].r.rc is changed) and ((hostvars['a'].ansible_hostname.stat.isdir is succeeded) or ('a' in hostvars['a'].r.rc))\", \"inventory_hostname in ansible_play_batch\"], \"ignore_errors\": false}, {\"assert\": {\"that\": \"inv is not skipped\"}}, {\"block\": [{\"debug\": {\"msg\": 1}, \"register\": \"s\"}], \"rescue\": [{\"setup\": null, \"register\": \"s\", \"vars\": {\"v1\": {\"k\": \"{{ hostvars['a'].inv }}\"}}}], \"always\": [{\"loop\": \"{{ groups.all }}\", \"command\": \"x\", \"when\": [\"not (ansible_failed_result.msg is undefined)\", \"not ((item.changed is not skipped) and (zz.os_family is defined))\"]}], \"when\": [\"not (hostvars[item].s.stdout_lines is skipped)\", \"hostvars['b'].y is succeeded\"]}], \"serial\": 1}, {\"hosts\": \"g\", \"tasks\": [{\"block\": [{\"fail\": null, \"when\": \"('a' in ansible_play_batch) and (ansible_facts.results == 'a')\", \"register\": \"s\", \"vars\": {\"v1\": {\"k\": \"{{ v1.os_family }}\"}}}], \"rescue\": [], \"always\": [{\"stat\": {\"path\": \"p\"}, \"register\": \"s\"}]}, {\"command\": {\"cmd\": \"{{ inventory_hostname | length }}\"}, \"ignore_errors\": true}]}]") ≡ verdict (refused (record { code = 10; line = 11; host = None }))
unfolding reading
random_101032 = refl

random_101038 : found (codes "{\"g\": {\"hosts\": [\"b\", \"a\"]}, \"all\": {\"hosts\": [\"c\"], \"vars\": {\"inv\": [1, 2]}}, \"_meta\": {\"hostvars\": {\"a\": {\"opq\": 1.5, \"inv\": [\"x\"]}, \"b\": {\"k\": {\"z\": \"{{ q }}\"}}}}}") (codes "[{\"hosts\": \"all\", \"handlers\": [{\"setup\": null, \"when\": [\"r.rc is defined\", \"y is defined\"], \"name\": \"h0\"}], \"tasks\": [{\"block\": [], \"always\": [{\"block\": [{\"fail\": null, \"ignore_errors\": true}, {\"set_fact\": {\"s\": \"{{ hostvars[inventory_hostname].inv | join(',') }}\"}, \"register\": \"r\", \"notify\": \"h0\"}], \"rescue\": [{\"stat\": {\"path\": \"p\"}, \"register\": \"s\"}], \"when\": \"not ((s.changed < 3) and (hostvars['b'].inv.changed is changed))\"}]}, {\"meta\": \"flush_handlers\"}, {\"command\": \"x\", \"register\": \"s\", \"changed_when\": \"s is changed\", \"notify\": \"h0\"}], \"serial\": 1, \"force_handlers\": true}, {\"hosts\": \"all\", \"tasks\": [{\"loop\": \"{{ r.results }}\", \"stat\": {\"path\": \"p\"}, \"when\": [\"'a' in ansible_play_batch\"], \"register\": \"r\"}, {\"block\": [{\"loop\": \"{{ groups['g'] }}\", \"stat\": {\"path\": \"p\"}, \"when\": [\"s is defined and s is not failed\"], \"changed_when\": \"zz is changed\"}, {\"set_fact\": {\"s\": \"x{{ true }}\"}, \"when\": [\"hostvars['a'].r.rc is defined\"]}], \"rescue\": [], \"always\": []}, {\"command\": \"x\", \"when\": \"((y is undefined) and (group_names is undefined)) or (not (r.rc is not defined))\", \"failed_when\": \"zz.changed\"}, {\"fail\": null, \"register\": \"s\", \"ignore_errors\": true}], \"strategy\": \"free\", \"force_handlers\": true}]") ≡ verdict (refused (record { code = 1; line = 4; host = Some (codes "c") }))
unfolding reading
random_101038 = refl

random_101044 : found (codes "{\"g\": {\"hosts\": [\"b\", \"a\"]}, \"all\": {\"hosts\": [\"c\"], \"vars\": {\"inv\": [1, 2]}}, \"_meta\": {\"hostvars\": {\"a\": {\"opq\": 1.5, \"inv\": [\"x\"]}, \"b\": {\"k\": {\"z\": \"{{ q }}\"}}}}}") (codes "[{\"hosts\": \"g\", \"tasks\": [{\"loop\": [], \"stat\": {\"path\": \"p\"}, \"when\": \"'b' in ansible_play_batch\", \"register\": \"r\"}]}]") ≡ verdict (accepted 0)
unfolding reading
random_101044 = refl

random_101046 : found (codes "{\"g\": {\"hosts\": [\"b\", \"a\"]}, \"all\": {\"hosts\": [\"c\"], \"vars\": {\"inv\": [1, 2]}}, \"_meta\": {\"hostvars\": {\"a\": {\"opq\": 1.5, \"inv\": [\"x\"]}, \"b\": {\"k\": {\"z\": \"{{ q }}\"}}}}}") (codes "[{\"hosts\": \"g\", \"tasks\": [{\"block\": [{\"block\": [{\"fail\": {\"msg\": \"m\"}, \"register\": \"r\", \"changed_when\": true, \"ignore_errors\": false}, {\"set_fact\": {\"s\": [\"{{ 'a' in ansible_play_batch }}\"]}, \"register\": \"r\"}], \"always\": [], \"when\": \"(r.changed is skipped) or (hostvars['b'].r.hostname is changed)\"}], \"always\": [{\"debug\": {\"msg\": \"{{ ansible_hostname.changed }}\"}, \"when\": \"'a' in ansible_play_batch\", \"register\": \"s\"}]}, {\"block\": [], \"when\": \"inv.hostname is not defined\"}, {\"block\": [{\"fail\": null, \"when\": \"group_names is defined\", \"register\": \"s\"}, {\"set_fact\": {\"y\": {\"k\": {\"k\": 1}}}, \"ignore_errors\": true}], \"rescue\": [{\"loop\": \"{{ groups['g'] }}\", \"fail\": null, \"when\": [\"hostvars[item].y is defined\", \"not (r is undefined or r is failed)\"], \"register\": \"s\", \"failed_when\": \"s.changed\"}], \"when\": [\"inventory_hostname is skipped\", \"item in ansible_play_batch\"]}, {\"debug\": {\"msg\": \"{{ r.stdout }}\"}, \"register\": \"s\"}], \"strategy\": \"free\", \"gather_facts\": true}]") ≡ verdict (refused (record { code = 1; line = 5; host = Some (codes "b") }))
unfolding reading
random_101046 = refl

random_101052 : found (codes "{\"g\": {\"hosts\": [\"b\", \"a\"]}, \"all\": {\"hosts\": [\"c\"], \"vars\": {\"inv\": [1, 2]}}, \"_meta\": {\"hostvars\": {\"a\": {\"opq\": 1.5, \"inv\": [\"x\"]}, \"b\": {\"k\": {\"z\": \"{{ q }}\"}}}}}") (codes "[{\"hosts\": \"all\", \"tasks\": [{\"block\": [], \"rescue\": [{\"set_fact\": {\"s\": \"{{ group_names.os_family | default(y) }}\"}}], \"always\": []}], \"serial\": \"50%\"}]") ≡ verdict (accepted 0)
unfolding reading
random_101052 = refl

random_101065 : found_with (codes "[{\"name\": \"probe\", \"params\": {\"n\": {\"kind\": \"int\", \"required\": false}, \"l\": {\"kind\": {\"list\": \"text\", \"max\": 3}, \"required\": false}}, \"ok\": {\"changed\": {\"kind\": \"bool\", \"always\": true}, \"v\": {\"kind\": \"int\", \"always\": false}, \"rows\": {\"kind\": {\"list\": \"text\", \"max\": 2}, \"always\": true}, \"deep\": {\"kind\": {\"rec\": {\"a\": {\"kind\": \"text\", \"always\": true}, \"b\": {\"kind\": \"bool\", \"always\": false}}}, \"always\": false}}, \"failure\": {\"changed\": {\"kind\": \"bool\", \"always\": true}, \"msg\": {\"kind\": \"text\", \"always\": true}, \"v\": {\"kind\": \"text\", \"always\": false}, \"why\": {\"kind\": \"int\", \"always\": true}}}, {\"name\": \"odd\", \"params\": {}, \"ok\": {\"changed\": {\"kind\": \"bool\", \"always\": true}, \"msg\": {\"kind\": \"int\", \"always\": false}}, \"failure\": {\"changed\": {\"kind\": \"bool\", \"always\": true}, \"msg\": {\"kind\": \"text\", \"always\": true}}}]") (codes "{\"all\": {\"hosts\": [\"a\", \"b\"], \"vars\": {\"i2\": \"t\"}}, \"_meta\": {\"hostvars\": {\"a\": {\"i1\": \"b\", \"s1\": [1], \"op\": 1.5}, \"b\": {}}}}") (codes "[{\"hosts\": [\"a\", \"all\"], \"tasks\": [{\"vars\": {\"v1\": \"{{ 't' }}\"}, \"set_fact\": {\"s3\": \"a\"}, \"when\": \"r2 is defined\"}, {\"meta\": \"flush_handlers\"}, {\"set_fact\": {\"s1\": {\"f\": 1}}, \"register\": \"r1\"}]}]") ≡ verdict (accepted 0)
unfolding reading
random_101065 = refl

random_101074 : found (codes "{\"g\": {\"hosts\": [\"b\", \"a\"]}, \"all\": {\"hosts\": [\"c\"], \"vars\": {\"inv\": [1, 2]}}, \"_meta\": {\"hostvars\": {\"a\": {\"opq\": 1.5, \"inv\": [\"x\"]}, \"b\": {\"k\": {\"z\": \"{{ q }}\"}}}}}") (codes "[{\"hosts\": \"b,a\", \"pre_tasks\": [{\"meta\": \"flush_handlers\"}, {\"block\": [], \"when\": [\"ansible_facts.changed is not skipped\", \"v1.changed == 1\"]}, {\"ping\": null}], \"tasks\": [{\"set_fact\": {\"y\": \"{{ hostvars['b'].y | default('d') }}\"}, \"register\": \"s\", \"changed_when\": true}, {\"debug\": {\"msg\": \"{{ opq.os_family | join(',') }}\"}, \"when\": \"not ((r.rc is not skipped) or (group_names.results))\", \"vars\": {\"v1\": \"{{ inventory_hostname.stat.isdir | join(',') }}\"}}, {\"ping\": null, \"when\": [\"'b' in ansible_play_batch\"], \"register\": \"r\", \"failed_when\": true, \"until\": false, \"retries\": 1, \"vars\": {\"v2\": {\"k\": \"{{ group_names.hostname | default(v2.k) }}\"}}}, {\"command\": {\"cmd\": {\"k\": [1, 2]}}, \"when\": \"ansible_facts is skipped\", \"register\": \"r\", \"failed_when\": \"r is failed\", \"ignore_errors\": false}], \"gather_facts\": true}, {\"hosts\": \"b,a\", \"tasks\": [{\"command\": {\"cmd\": \"{{ s.changed }}\"}, \"until\": true, \"retries\": 2}, {\"loop\": \"{{ inv }}\", \"command\": {\"cmd\": \"a\"}, \"ignore_errors\": true}, {\"block\": [{\"stat\": {\"path\": \"p\"}}], \"rescue\": [], \"always\": [{\"debug\": {\"msg\": \"{{ y is undefined }}\"}, \"failed_when\": true}]}], \"post_tasks\": [{\"fail\": {\"msg\": \"m\"}}, {\"block\": [{\"stat\": {\"path\": \"p\"}, \"register\": \"s\"}, {\"stat\": {\"path\": \"p\"}, \"register\": \"s\", \"until\": \"s.changed\"}], \"rescue\": [], \"always\": [{\"setup\": null, \"register\": \"s\"}]}, {\"assert\": {\"that\": \"(not (inventory_hostname.k < 3)) or ('a' in ansible_play_batch)\"}}], \"serial\": 2, \"force_handlers\": true, \"vars\": {\"v1\": \"{{ 1 }}\"}}]") ≡ verdict (refused (record { code = 10; line = 8; host = None }))
unfolding reading
random_101074 = refl
