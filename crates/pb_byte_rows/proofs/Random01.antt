-- Cases of random, computed from the bytes of their files.
use Rattle.std.specs.Prelude.{◌≡◌, refl, Some, codes}
use Rattle.pb_language.specs.Verdict.{accepted, refused}
use Rattle.pb_byte_rows.specs.Found.{verdict, found, found_with}
use Rattle.pb_byte_rows.proofs.Computing.{reading}

random_001004 : found (codes "{\"g\": {\"hosts\": [\"b\", \"a\"]}, \"all\": {\"hosts\": [\"c\"], \"vars\": {\"inv\": [1, 2]}}, \"_meta\": {\"hostvars\": {\"a\": {\"opq\": 1.5, \"inv\": [\"x\"]}, \"b\": {\"k\": {\"z\": \"{{ q }}\"}}}}}") (codes "[{\"hosts\": \"all\", \"tasks\": [{\"meta\": \"flush_handlers\"}, {\"block\": [{\"loop\": \"{{ r.stdout_lines }}\", \"fail\": null, \"register\": \"s\", \"failed_when\": true}, {\"command\": \"x\", \"register\": \"r\"}]}], \"strategy\": \"free\", \"gather_facts\": true}]") ≡ verdict (refused (record { code = 1; line = 5; host = Some (codes "c") }))
unfolding reading
random_001004 = refl

random_001005 : found_with (codes "[{\"name\": \"probe\", \"params\": {\"n\": {\"kind\": \"int\", \"required\": false}, \"l\": {\"kind\": {\"list\": \"text\", \"max\": 3}, \"required\": false}}, \"ok\": {\"changed\": {\"kind\": \"bool\", \"always\": true}, \"v\": {\"kind\": \"int\", \"always\": false}, \"rows\": {\"kind\": {\"list\": \"text\", \"max\": 2}, \"always\": true}, \"deep\": {\"kind\": {\"rec\": {\"a\": {\"kind\": \"text\", \"always\": true}, \"b\": {\"kind\": \"bool\", \"always\": false}}}, \"always\": false}}, \"failure\": {\"changed\": {\"kind\": \"bool\", \"always\": true}, \"msg\": {\"kind\": \"text\", \"always\": true}, \"v\": {\"kind\": \"text\", \"always\": false}, \"why\": {\"kind\": \"int\", \"always\": true}}}, {\"name\": \"odd\", \"params\": {}, \"ok\": {\"changed\": {\"kind\": \"bool\", \"always\": true}, \"msg\": {\"kind\": \"int\", \"always\": false}}, \"failure\": {\"changed\": {\"kind\": \"bool\", \"always\": true}, \"msg\": {\"kind\": \"text\", \"always\": true}}}]") (codes "{\"all\": {\"hosts\": [\"a\", \"b\", \"c\", \"d\"], \"vars\": {\"i2\": false}}, \"g2\": {\"hosts\": [\"a\", \"d\"], \"vars\": {\"op\": 1.5}}, \"_meta\": {\"hostvars\": {\"a\": {\"s1\": \"a\"}, \"b\": {\"i1\": {\"f\": [null], \"g\": 1}}, \"c\": {\"s1\": 1}, \"d\": {\"op\": 1.5}}}}") (codes "[{\"hosts\": \"all\", \"vars\": {\"v1\": \"{{ r2.failed }}\", \"v2\": \"x{{ r1 }}\", \"v3\": \"{{ group_names }}\"}, \"gather_facts\": true, \"tasks\": [{\"vars\": {\"v1\": \"{{ [r3, 1] }}\"}, \"odd\": null}, {\"setup\": null, \"when\": \"i2 is defined\", \"changed_when\": false, \"notify\": \"t\"}, {\"assert\": {\"that\": [\"r3.failed is defined\"]}, \"register\": \"r2\", \"failed_when\": \"r2.msg | default(true) == true\"}, {\"probe\": {}, \"when\": \"'g1' in group_names\", \"register\": \"r3\"}], \"handlers\": [{\"stat\": {\"path\": \"/\"}, \"name\": \"h0\", \"listen\": \"t\"}], \"force_handlers\": false}, {\"hosts\": \"all\", \"gather_facts\": true, \"tasks\": [{\"set_fact\": {\"s3\": 1}, \"register\": \"r3\", \"changed_when\": \"r3.changed | default(true) == true\"}, {\"vars\": {\"v1\": \"{{ r2 | default(1) }}\"}, \"ping\": null}]}]") ≡ verdict (accepted 28)
unfolding reading
random_001005 = refl

random_001032 : found (codes "{\"g\": {\"hosts\": [\"b\", \"a\"]}, \"all\": {\"hosts\": [\"c\"], \"vars\": {\"inv\": [1, 2]}}, \"_meta\": {\"hostvars\": {\"a\": {\"opq\": 1.5, \"inv\": [\"x\"]}, \"b\": {\"k\": {\"z\": \"{{ q }}\"}}}}}") (codes "[{\"hosts\": \"all\", \"handlers\": [{\"debug\": {\"msg\": \"{{ hostvars['a'].inv }}\"}, \"ignore_errors\": true, \"vars\": {\"v2\": \"{{ inv.rc }}\"}, \"name\": \"h0\"}, {\"set_fact\": {\"y\": {\"k\": {\"k\": \"{{ inventory_hostname }}\"}}}, \"when\": [\"y.changed < 3\", \"v1 is skipped\"], \"register\": \"r\", \"ignore_errors\": false, \"vars\": {\"v1\": \"{{ [1, 2] }}\"}, \"name\": \"h1\"}], \"pre_tasks\": [{\"block\": [], \"rescue\": [{\"debug\": {\"msg\": \"{{ hostvars['b'].y }}\"}, \"notify\": \"h1\"}], \"always\": [], \"when\": [\"y < 3\", \"group_names == 'a'\"]}, {\"debug\": {\"msg\": [1, 2]}, \"register\": \"r\"}, {\"setup\": null, \"when\": [\"r is defined and r is succeeded\"], \"register\": \"s\", \"ignore_errors\": true, \"notify\": \"h1\"}, {\"command\": \"x\", \"when\": [\"s is defined and s is not failed\"], \"register\": \"s\", \"notify\": \"h0\"}], \"tasks\": [{\"ping\": null, \"changed_when\": true, \"notify\": \"h0\"}, {\"fail\": {\"msg\": \"m\"}, \"changed_when\": true}, {\"command\": \"x\", \"register\": \"s\", \"failed_when\": false}], \"strategy\": \"free\", \"serial\": \"50%\"}]") ≡ verdict (refused (record { code = 1; line = 11; host = Some (codes "c") }))
unfolding reading
random_001032 = refl

random_001033 : found_with (codes "[{\"name\": \"probe\", \"params\": {\"n\": {\"kind\": \"int\", \"required\": false}, \"l\": {\"kind\": {\"list\": \"text\", \"max\": 3}, \"required\": false}}, \"ok\": {\"changed\": {\"kind\": \"bool\", \"always\": true}, \"v\": {\"kind\": \"int\", \"always\": false}, \"rows\": {\"kind\": {\"list\": \"text\", \"max\": 2}, \"always\": true}, \"deep\": {\"kind\": {\"rec\": {\"a\": {\"kind\": \"text\", \"always\": true}, \"b\": {\"kind\": \"bool\", \"always\": false}}}, \"always\": false}}, \"failure\": {\"changed\": {\"kind\": \"bool\", \"always\": true}, \"msg\": {\"kind\": \"text\", \"always\": true}, \"v\": {\"kind\": \"text\", \"always\": false}, \"why\": {\"kind\": \"int\", \"always\": true}}}, {\"name\": \"odd\", \"params\": {}, \"ok\": {\"changed\": {\"kind\": \"bool\", \"always\": true}, \"msg\": {\"kind\": \"int\", \"always\": false}}, \"failure\": {\"changed\": {\"kind\": \"bool\", \"always\": true}, \"msg\": {\"kind\": \"text\", \"always\": true}}}]") (codes "{\"all\": {\"hosts\": [\"a\", \"b\"], \"vars\": {\"s1\": []}}, \"g2\": {\"hosts\": [], \"vars\": {\"i1\": \"\", \"i2\": {\"f\": {\"f\": 2, \"g\": \"x\"}, \"g\": \"t\"}, \"s1\": null, \"op\": 1.5}}, \"_meta\": {\"hostvars\": {\"a\": {\"i1\": -1}, \"b\": {\"i2\": [], \"op\": 1.5}}}}") (codes "[{\"hosts\": \"all\", \"tasks\": [{\"debug\": {\"msg\": \"{{ r1.changed }}\"}, \"when\": \"r1.changed is defined\", \"register\": \"r2\", \"failed_when\": \"r2.changed is defined and r2.changed == 'a'\", \"notify\": \"t\", \"changed_when\": true}, {\"vars\": {\"v1\": \"{{ (s1) == (r3.changed) }}\", \"v3\": \"{{ r3 | default(s1) }}\"}, \"fail\": null, \"register\": \"r2\"}, {\"setup\": null, \"notify\": \"t\"}], \"handlers\": [{\"debug\": {\"msg\": \"x{{ hostvars[groups['all'][0]].op | default(1) }}\"}, \"name\": \"h0\", \"listen\": \"t\"}]}, {\"hosts\": \"all\", \"strategy\": \"free\", \"serial\": [1, \"100%\"], \"tasks\": [{\"set_fact\": {\"s3\": \"x{{ r1 | length }}\"}, \"when\": \"r1 is defined\", \"notify\": \"h0\"}], \"handlers\": [{\"debug\": {\"msg\": \"{{ i2 }}\"}, \"register\": \"r3\", \"name\": \"h0\", \"listen\": \"t\"}]}]") ≡ verdict (accepted 2)
unfolding reading
random_001033 = refl

random_001036 : found (codes "{\"g\": {\"hosts\": [\"b\", \"a\"]}, \"all\": {\"hosts\": [\"c\"], \"vars\": {\"inv\": [1, 2]}}, \"_meta\": {\"hostvars\": {\"a\": {\"opq\": 1.5, \"inv\": [\"x\"]}, \"b\": {\"k\": {\"z\": \"{{ q }}\"}}}}}") (codes "[{\"hosts\": \"all\", \"tasks\": [{\"block\": [{\"block\": [{\"fail\": {\"msg\": \"m\"}, \"when\": \"'a' in s.stdout\"}]}], \"ignore_errors\": false}], \"strategy\": \"free\", \"serial\": [1, 2]}]") ≡ verdict (refused (record { code = 1; line = 4; host = Some (codes "c") }))
unfolding reading
random_001036 = refl

random_001041 : found_with (codes "[{\"name\": \"probe\", \"params\": {\"n\": {\"kind\": \"int\", \"required\": false}, \"l\": {\"kind\": {\"list\": \"text\", \"max\": 3}, \"required\": false}}, \"ok\": {\"changed\": {\"kind\": \"bool\", \"always\": true}, \"v\": {\"kind\": \"int\", \"always\": false}, \"rows\": {\"kind\": {\"list\": \"text\", \"max\": 2}, \"always\": true}, \"deep\": {\"kind\": {\"rec\": {\"a\": {\"kind\": \"text\", \"always\": true}, \"b\": {\"kind\": \"bool\", \"always\": false}}}, \"always\": false}}, \"failure\": {\"changed\": {\"kind\": \"bool\", \"always\": true}, \"msg\": {\"kind\": \"text\", \"always\": true}, \"v\": {\"kind\": \"text\", \"always\": false}, \"why\": {\"kind\": \"int\", \"always\": true}}}, {\"name\": \"odd\", \"params\": {}, \"ok\": {\"changed\": {\"kind\": \"bool\", \"always\": true}, \"msg\": {\"kind\": \"int\", \"always\": false}}, \"failure\": {\"changed\": {\"kind\": \"bool\", \"always\": true}, \"msg\": {\"kind\": \"text\", \"always\": true}}}]") (codes "{\"all\": {\"hosts\": [\"a\", \"b\", \"c\", \"d\"], \"vars\": {}}, \"g1\": {\"hosts\": [\"a\", \"b\", \"c\"], \"vars\": {\"i1\": \"\", \"s1\": true}}, \"_meta\": {\"hostvars\": {\"a\": {\"i2\": \"no\", \"op\": 1.5}, \"b\": {\"i2\": {\"f\": [true, false], \"g\": \"t\"}}, \"c\": {}, \"d\": {\"op\": 1.5}}}}") (codes "[{\"hosts\": \"g1\", \"vars\": {\"v1\": {}, \"v2\": \"a\"}, \"serial\": [1, \"100%\"], \"tasks\": [{\"block\": [{\"set_fact\": {\"s1\": 1}, \"register\": \"r3\"}], \"rescue\": [{\"command\": {\"cmd\": \"x\"}}], \"always\": [{\"block\": []}, {\"command\": {\"cmd\": \"x {{ 't' }}\"}, \"register\": \"r3\", \"failed_when\": true}]}, {\"debug\": {\"msg\": \"{{ r1.failed }}\"}, \"when\": [\"r1 is defined\", \"r1 is succeeded\"], \"register\": \"r2\"}], \"handlers\": [{\"ping\": null, \"name\": \"h0\", \"listen\": \"t\"}], \"force_handlers\": true}]") ≡ verdict (accepted 9)
unfolding reading
random_001041 = refl

random_001046 : found (codes "{\"g\": {\"hosts\": [\"b\", \"a\"]}, \"all\": {\"hosts\": [\"c\"], \"vars\": {\"inv\": [1, 2]}}, \"_meta\": {\"hostvars\": {\"a\": {\"opq\": 1.5, \"inv\": [\"x\"]}, \"b\": {\"k\": {\"z\": \"{{ q }}\"}}}}}") (codes "[{\"hosts\": \"b,a\", \"handlers\": [{\"loop\": \"{{ ansible_play_batch }}\", \"debug\": {\"msg\": true}, \"when\": [\"item == 'a'\", \"not (hostvars['b'].y.rc == 1)\"], \"register\": \"s\", \"name\": \"h0\"}, {\"loop\": [\"a\", \"b\"], \"debug\": {\"msg\": {\"k\": 1}}, \"failed_when\": true, \"changed_when\": true, \"name\": \"h1\"}], \"pre_tasks\": [{\"loop\": \"{{ groups['g'] }}\", \"command\": \"x\", \"register\": \"r\"}, {\"loop\": [\"a\", \"b\"], \"fail\": null, \"ignore_errors\": true}, {\"meta\": \"flush_handlers\"}, {\"set_fact\": {\"s\": [[\"{{ ['a', 1] }}\"]]}, \"register\": \"s\", \"notify\": \"h0\"}], \"tasks\": [{\"block\": [{\"block\": [{\"loop\": \"{{ ansible_play_batch }}\", \"setup\": null, \"register\": \"s\", \"notify\": \"h1\"}], \"rescue\": [{\"command\": \"x\", \"register\": \"s\"}]}], \"ignore_errors\": false}, {\"command\": {\"cmd\": \"{{ inv }}\"}, \"when\": [\"'a' in ansible_play_batch\"], \"notify\": \"h0\"}, {\"loop\": \"{{ inv }}\", \"stat\": {\"path\": \"p\"}}, {\"set_fact\": {\"s\": \"x{{ hostvars[item].inv }}\"}, \"when\": [\"'a' in ansible_play_batch\"], \"register\": \"s\"}], \"strategy\": \"free\"}]") ≡ verdict (refused (record { code = 4; line = 10; host = Some (codes "b") }))
unfolding reading
random_001046 = refl

random_001048 : found (codes "{\"g\": {\"hosts\": [\"b\", \"a\"]}, \"all\": {\"hosts\": [\"c\"], \"vars\": {\"inv\": [1, 2]}}, \"_meta\": {\"hostvars\": {\"a\": {\"opq\": 1.5, \"inv\": [\"x\"]}, \"b\": {\"k\": {\"z\": \"{{ q }}\"}}}}}") (codes "[{\"hosts\": \"g\", \"tasks\": [{\"set_fact\": {\"s\": [\"{{ ansible_play_batch }}\"]}}], \"serial\": [1, 2], \"gather_facts\": true}]") ≡ verdict (accepted 2)
unfolding reading
random_001048 = refl

random_001052 : found (codes "{\"g\": {\"hosts\": [\"b\", \"a\"]}, \"all\": {\"hosts\": [\"c\"], \"vars\": {\"inv\": [1, 2]}}, \"_meta\": {\"hostvars\": {\"a\": {\"opq\": 1.5, \"inv\": [\"x\"]}, \"b\": {\"k\": {\"z\": \"{{ q }}\"}}}}}") (codes "[{\"hosts\": \"all\", \"tasks\": [{\"set_fact\": {\"y\": \"{{ r.stdout_lines }}\"}, \"when\": \"groups['g'][0] in ansible_play_batch\", \"register\": \"s\", \"changed_when\": false}, {\"ping\": null, \"when\": [\"not (r is undefined or r is failed)\"]}, {\"block\": [{\"block\": [{\"debug\": {\"msg\": 1}, \"failed_when\": \"zz is failed\"}, {\"command\": {\"cmd\": \"x{{ r.rc }}\"}, \"when\": \"s.results < 3\"}], \"rescue\": [{\"set_fact\": {\"y\": \"{{ r.rc }}\"}, \"when\": \"r.stdout is not defined\"}, {\"loop\": [\"a\", \"b\"], \"fail\": null, \"when\": [\"r is defined and r is succeeded\"], \"register\": \"s\"}], \"always\": []}, {\"block\": [{\"ping\": null, \"when\": \"s.changed == 1\"}]}], \"rescue\": [{\"loop\": [], \"command\": \"x\", \"register\": \"s\"}, {\"assert\": {\"that\": [\"not ('a' in s)\", \"'b' in ansible_play_batch\"]}}]}, {\"block\": [], \"rescue\": [], \"always\": [{\"block\": [], \"always\": [], \"when\": [\"(hostvars['a'].s == 1) or ((inv is failed) and (hostvars[inventory_hostname].r == 1))\", \"r.stdout is changed\"]}], \"when\": \"((ansible_play_batch.rc is succeeded) or (ansible_failed_result.os_family is not defined)) and ('b' in ansible_play_batch)\"}], \"force_handlers\": true}]") ≡ verdict (refused (record { code = 1; line = 2; host = Some (codes "c") }))
unfolding reading
random_001052 = refl

random_001056 : found (codes "{\"g\": {\"hosts\": [\"b\", \"a\"]}, \"all\": {\"hosts\": [\"c\"], \"vars\": {\"inv\": [1, 2]}}, \"_meta\": {\"hostvars\": {\"a\": {\"opq\": 1.5, \"inv\": [\"x\"]}, \"b\": {\"k\": {\"z\": \"{{ q }}\"}}}}}") (codes "[{\"hosts\": \"all\", \"handlers\": [{\"debug\": {\"msg\": [\"{{ hostvars['b'].y | default([]) }}\"]}, \"when\": [\"not (r is undefined or r is failed)\", \"hostvars['a'].r.rc is defined\"], \"register\": \"r\", \"name\": \"h0\"}], \"pre_tasks\": [{\"meta\": \"flush_handlers\"}], \"tasks\": [{\"block\": [{\"block\": [{\"set_fact\": {\"y\": [\"a\"]}, \"when\": [\"r is not skipped\"], \"register\": \"r\"}], \"rescue\": [{\"loop\": [\"a\", \"b\"], \"ping\": null}], \"always\": [{\"debug\": {\"msg\": [\"{{ inv | join(',') }}\"]}, \"notify\": \"h0\"}], \"when\": \"s.hostname == 1\"}], \"rescue\": [{\"set_fact\": {\"y\": \"{{ ansible_facts.stat.isdir }}\"}, \"notify\": \"h0\"}, {\"stat\": {\"path\": \"p\"}, \"register\": \"s\", \"notify\": \"h0\"}], \"always\": []}], \"post_tasks\": [{\"command\": {\"cmd\": \"{{ inventory_hostname.hostname | default('d') }}\"}, \"when\": [\"groups['g'][0] in ansible_play_batch\", \"((hostvars['b'].y is defined) or (v2.stat.isdir is not skipped)) or (hostvars['b'].r.stat.isdir is failed)\"], \"register\": \"s\", \"notify\": \"h0\"}, {\"set_fact\": {\"y\": \"{{ r.rc | default(v1.msg) }}\"}, \"failed_when\": false, \"changed_when\": \"zz is changed\", \"notify\": \"h0\"}]}]") ≡ verdict (refused (record { code = 1; line = 5; host = Some (codes "c") }))
unfolding reading
random_001056 = refl

random_001057 : found_with (codes "[{\"name\": \"probe\", \"params\": {\"n\": {\"kind\": \"int\", \"required\": false}, \"l\": {\"kind\": {\"list\": \"text\", \"max\": 3}, \"required\": false}}, \"ok\": {\"changed\": {\"kind\": \"bool\", \"always\": true}, \"v\": {\"kind\": \"int\", \"always\": false}, \"rows\": {\"kind\": {\"list\": \"text\", \"max\": 2}, \"always\": true}, \"deep\": {\"kind\": {\"rec\": {\"a\": {\"kind\": \"text\", \"always\": true}, \"b\": {\"kind\": \"bool\", \"always\": false}}}, \"always\": false}}, \"failure\": {\"changed\": {\"kind\": \"bool\", \"always\": true}, \"msg\": {\"kind\": \"text\", \"always\": true}, \"v\": {\"kind\": \"text\", \"always\": false}, \"why\": {\"kind\": \"int\", \"always\": true}}}, {\"name\": \"odd\", \"params\": {}, \"ok\": {\"changed\": {\"kind\": \"bool\", \"always\": true}, \"msg\": {\"kind\": \"int\", \"always\": false}}, \"failure\": {\"changed\": {\"kind\": \"bool\", \"always\": true}, \"msg\": {\"kind\": \"text\", \"always\": true}}}]") (codes "{\"all\": {\"hosts\": [\"a\", \"b\"], \"vars\": {}}, \"g1\": {\"hosts\": [\"b\"], \"vars\": {\"i1\": -1, \"i2\": false, \"s1\": \"x\"}}, \"g2\": {\"hosts\": [\"a\", \"b\"], \"vars\": {}}, \"_meta\": {\"hostvars\": {\"a\": {}, \"b\": {}}}}") (codes "[{\"hosts\": [\"a\", \"all\"], \"strategy\": \"free\", \"tasks\": [{\"ping\": null, \"register\": \"r3\"}, {\"block\": [{\"vars\": {\"v2\": \"{{ inventory_hostname | default('z') }}\"}, \"command\": {\"cmd\": \"x\"}, \"when\": \"r3.changed is not defined\"}], \"rescue\": [{\"setup\": null, \"register\": \"r1\", \"failed_when\": false}]}], \"post_tasks\": [{\"probe\": {}, \"until\": true, \"retries\": 2}], \"handlers\": [{\"ping\": null, \"changed_when\": \"inventory_hostname == 'a'\", \"name\": \"h0\", \"listen\": \"t\"}, {\"debug\": {\"msg\": \"{{ [1, 2] }}\"}, \"when\": \"'a' in ansible_play_batch\", \"register\": \"r2\", \"name\": \"h1\", \"listen\": \"t\"}, {\"vars\": {\"v1\": \"{{ [r1.changed, 1] }}\"}, \"probe\": {}, \"when\": \"groups['all'][0] in ansible_play_batch\", \"register\": \"r1\", \"until\": \"r1.deep.b | default(true) == true\", \"retries\": 1, \"ignore_errors\": true, \"name\": \"h2\"}]}]") ≡ verdict (accepted 24)
unfolding reading
random_001057 = refl

random_001058 : found (codes "{\"g\": {\"hosts\": [\"b\", \"a\"]}, \"all\": {\"hosts\": [\"c\"], \"vars\": {\"inv\": [1, 2]}}, \"_meta\": {\"hostvars\": {\"a\": {\"opq\": 1.5, \"inv\": [\"x\"]}, \"b\": {\"k\": {\"z\": \"{{ q }}\"}}}}}") (codes "[{\"hosts\": \"b,a\", \"tasks\": [{\"stat\": {\"path\": \"p\"}, \"when\": \"((v1.changed is changed) and (y < 3)) and (r.rc == 'a')\", \"register\": \"s\", \"until\": \"s.changed\"}], \"serial\": 1}]") ≡ verdict (refused (record { code = 1; line = 2; host = Some (codes "b") }))
unfolding reading
random_001058 = refl

random_001088 : found (codes "{\"g\": {\"hosts\": [\"b\", \"a\"]}, \"all\": {\"hosts\": [\"c\"], \"vars\": {\"inv\": [1, 2]}}, \"_meta\": {\"hostvars\": {\"a\": {\"opq\": 1.5, \"inv\": [\"x\"]}, \"b\": {\"k\": {\"z\": \"{{ q }}\"}}}}}") (codes "[{\"hosts\": \"all\", \"handlers\": [{\"command\": \"x\", \"ignore_errors\": true, \"name\": \"h0\"}, {\"fail\": null, \"when\": [\"y is defined\"], \"register\": \"r\", \"name\": \"h1\"}], \"tasks\": [{\"set_fact\": {\"s\": [1, 2]}, \"when\": [\"r is defined\"]}, {\"loop\": \"{{ groups['g'] }}\", \"fail\": null, \"register\": \"r\", \"notify\": \"h0\"}, {\"loop\": [], \"assert\": {\"that\": [\"item in ansible_play_batch\", \"(ansible_play_batch.hostname is changed) and ((r.failed is changed) or (ansible_facts.msg is undefined))\"]}, \"when\": [\"item in ansible_play_batch\"], \"changed_when\": \"zz is changed\", \"notify\": \"h0\"}]}, {\"hosts\": \"b,a\", \"handlers\": [{\"set_fact\": {\"y\": \"{{ r.stdout }}\"}, \"name\": \"h0\"}, {\"ping\": null, \"name\": \"h1\"}], \"tasks\": [{\"block\": [{\"command\": {\"cmd\": {\"k\": \"{{ inventory_hostname }}\"}}, \"when\": [\"'b' in ansible_play_batch\", \"(r.failed < 3) or (group_names.os_family is not defined)\"], \"register\": \"r\", \"ignore_errors\": true, \"notify\": \"h1\"}, {\"block\": [], \"rescue\": [{\"debug\": {\"msg\": {\"k\": 1}}, \"register\": \"s\", \"ignore_errors\": true}], \"always\": []}], \"rescue\": [], \"when\": \"(r is undefined) and ((r.changed is succeeded) or (inv.hostname is not skipped))\"}, {\"set_fact\": {\"y\": true}}, {\"assert\": {\"that\": \"not (zz.rc is succeeded)\"}, \"register\": \"r\"}, {\"block\": [{\"assert\": {\"that\": \"not (hostvars['a'].inv is not skipped)\"}, \"register\": \"s\", \"notify\": \"h0\"}, {\"command\": \"x\", \"when\": [\"r is not skipped\", \"r is defined\"], \"register\": \"r\", \"ignore_errors\": true}]}], \"strategy\": \"free\"}]") ≡ verdict (refused (record { code = 4; line = 4; host = Some (codes "c") }))
unfolding reading
random_001088 = refl

random_001089 : found_with (codes "[{\"name\": \"probe\", \"params\": {\"n\": {\"kind\": \"int\", \"required\": false}, \"l\": {\"kind\": {\"list\": \"text\", \"max\": 3}, \"required\": false}}, \"ok\": {\"changed\": {\"kind\": \"bool\", \"always\": true}, \"v\": {\"kind\": \"int\", \"always\": false}, \"rows\": {\"kind\": {\"list\": \"text\", \"max\": 2}, \"always\": true}, \"deep\": {\"kind\": {\"rec\": {\"a\": {\"kind\": \"text\", \"always\": true}, \"b\": {\"kind\": \"bool\", \"always\": false}}}, \"always\": false}}, \"failure\": {\"changed\": {\"kind\": \"bool\", \"always\": true}, \"msg\": {\"kind\": \"text\", \"always\": true}, \"v\": {\"kind\": \"text\", \"always\": false}, \"why\": {\"kind\": \"int\", \"always\": true}}}, {\"name\": \"odd\", \"params\": {}, \"ok\": {\"changed\": {\"kind\": \"bool\", \"always\": true}, \"msg\": {\"kind\": \"int\", \"always\": false}}, \"failure\": {\"changed\": {\"kind\": \"bool\", \"always\": true}, \"msg\": {\"kind\": \"text\", \"always\": true}}}]") (codes "{\"all\": {\"hosts\": [\"a\", \"b\", \"c\"], \"vars\": {\"i2\": false, \"op\": 1.5}}, \"g2\": {\"hosts\": [\"a\", \"b\", \"c\"], \"vars\": {\"i1\": \"no\", \"i2\": -1, \"op\": 1.5}}, \"_meta\": {\"hostvars\": {\"a\": {\"i2\": 0}, \"b\": {\"i1\": \"\"}, \"c\": {\"op\": 1.5}}}}") (codes "[{\"hosts\": \"all\", \"strategy\": \"free\", \"gather_facts\": true, \"tasks\": [{\"when\": \"op.g | default(false)\", \"block\": [{\"ping\": null}], \"rescue\": [{\"vars\": {\"v2\": \"{{ r3.failed | default([]) }}\"}, \"debug\": {\"msg\": \"x{{ s3 }}\"}, \"register\": \"r2\"}, {\"command\": {\"cmd\": \"x\"}}], \"always\": [{\"stat\": {\"path\": \"/\"}, \"register\": \"r2\", \"ignore_errors\": false}, {\"block\": [{\"ignore_errors\": true, \"block\": [{\"vars\": {\"v1\": \"{{ (i1.stdout) == (hostvars['a'].r2.stat.size) }}\", \"v2\": \"{{ r2.stat }}\"}, \"probe\": {}, \"register\": \"r1\", \"failed_when\": \"r1.deep.a | default(true) == true\"}, {\"command\": {\"cmd\": \"x {{ r2.stat.size }}\"}, \"when\": \"r2 is not skipped\"}, {\"debug\": {\"msg\": \"{{ [r3.skipped, 'q'] }}\"}, \"when\": \"r3 is failed\", \"register\": \"r1\"}]}]}]}, {\"meta\": \"flush_handlers\"}, {\"command\": {\"cmd\": \"x\"}, \"when\": \"s1 is not defined\", \"ignore_errors\": false}, {\"loop\": \"{{ groups['all'] }}\", \"assert\": {\"that\": [\"r2 is changed\"]}, \"when\": \"item in ansible_play_batch\"}]}]") ≡ verdict (refused (record { code = 4; line = 4; host = Some (codes "a") }))
unfolding reading
random_001089 = refl

random_001093 : found_with (codes "[{\"name\": \"probe\", \"params\": {\"n\": {\"kind\": \"int\", \"required\": false}, \"l\": {\"kind\": {\"list\": \"text\", \"max\": 3}, \"required\": false}}, \"ok\": {\"changed\": {\"kind\": \"bool\", \"always\": true}, \"v\": {\"kind\": \"int\", \"always\": false}, \"rows\": {\"kind\": {\"list\": \"text\", \"max\": 2}, \"always\": true}, \"deep\": {\"kind\": {\"rec\": {\"a\": {\"kind\": \"text\", \"always\": true}, \"b\": {\"kind\": \"bool\", \"always\": false}}}, \"always\": false}}, \"failure\": {\"changed\": {\"kind\": \"bool\", \"always\": true}, \"msg\": {\"kind\": \"text\", \"always\": true}, \"v\": {\"kind\": \"text\", \"always\": false}, \"why\": {\"kind\": \"int\", \"always\": true}}}, {\"name\": \"odd\", \"params\": {}, \"ok\": {\"changed\": {\"kind\": \"bool\", \"always\": true}, \"msg\": {\"kind\": \"int\", \"always\": false}}, \"failure\": {\"changed\": {\"kind\": \"bool\", \"always\": true}, \"msg\": {\"kind\": \"text\", \"always\": true}}}]") (codes "{\"all\": {\"hosts\": [\"a\", \"b\", \"c\"], \"vars\": {}}, \"g1\": {\"hosts\": [\"a\"], \"vars\": {\"i2\": \"x\", \"s1\": []}}, \"g2\": {\"hosts\": [\"a\", \"c\"], \"vars\": {}}, \"_meta\": {\"hostvars\": {\"a\": {\"i2\": 0}, \"b\": {}, \"c\": {}}}}") (codes "[{\"hosts\": [\"b\", \"all\"], \"serial\": 2, \"gather_facts\": true, \"pre_tasks\": [{\"vars\": {\"v2\": \"{{ s1 | default('z') }}\"}, \"probe\": {}, \"register\": \"r2\"}, {\"vars\": {\"v1\": \"{{ r2 }}\"}, \"set_fact\": {\"s1\": null}, \"register\": \"r3\"}], \"tasks\": [{\"loop\": [[], \"b\"], \"odd\": null}, {\"block\": [{\"command\": {\"cmd\": \"x\"}}, {\"odd\": null, \"register\": \"r3\"}, {\"loop\": \"{{ groups['all'] }}\", \"debug\": {\"msg\": \"x{{ item.skipped }}\"}, \"when\": [\"r1 is not failed\", \"item in ansible_play_batch\", \"item is succeeded\"], \"changed_when\": false}], \"rescue\": [{\"set_fact\": {\"s2\": \"x{{ groups.all | length }}\"}, \"when\": \"groups is succeeded\"}, {\"debug\": {\"msg\": \"{{ hostvars[inventory_hostname].r1.failed }}\"}, \"when\": [\"inventory_hostname in ansible_play_batch\", \"hostvars[inventory_hostname].r1 is succeeded\"], \"register\": \"r2\", \"failed_when\": \"r2.changed == 1\"}]}, {\"odd\": null, \"register\": \"r3\", \"failed_when\": \"r3.failed is defined and r3.failed == 'a'\", \"until\": false, \"retries\": 2}]}]") ≡ verdict (refused (record { code = 1; line = 9; host = Some (codes "a") }))
unfolding reading
random_001093 = refl

random_001096 : found (codes "{\"g\": {\"hosts\": [\"b\", \"a\"]}, \"all\": {\"hosts\": [\"c\"], \"vars\": {\"inv\": [1, 2]}}, \"_meta\": {\"hostvars\": {\"a\": {\"opq\": 1.5, \"inv\": [\"x\"]}, \"b\": {\"k\": {\"z\": \"{{ q }}\"}}}}}") (codes "[{\"hosts\": \"a\", \"tasks\": [{\"meta\": \"flush_handlers\"}], \"post_tasks\": [{\"stat\": {\"path\": \"p\"}, \"changed_when\": true, \"until\": \"zz.changed\", \"retries\": 1}, {\"set_fact\": {\"y\": {\"k\": true}}, \"when\": \"((hostvars['a'].r.rc is defined) or ('a' in r.stdout)) and ('a' in ansible_play_batch)\"}], \"strategy\": \"free\", \"serial\": \"50%\"}, {\"hosts\": \"a\", \"tasks\": [{\"stat\": {\"path\": \"p\"}, \"when\": \"s.changed is succeeded\", \"ignore_errors\": true}, {\"command\": {\"cmd\": \"{{ ansible_facts.results }}\"}}, {\"set_fact\": {\"y\": \"{{ hostvars[item].inv | length }}\"}, \"when\": [\"hostvars['b'].y is defined\"]}], \"force_handlers\": true, \"vars\": {\"v1\": \"{{ (group_names.changed is skipped) or (ansible_play_batch.stdout_lines is skipped) }}\"}}]") ≡ verdict (refused (record { code = 1; line = 3; host = Some (codes "a") }))
unfolding reading
random_001096 = refl

random_001120 : found (codes "{\"g\": {\"hosts\": [\"b\", \"a\"]}, \"all\": {\"hosts\": [\"c\"], \"vars\": {\"inv\": [1, 2]}}, \"_meta\": {\"hostvars\": {\"a\": {\"opq\": 1.5, \"inv\": [\"x\"]}, \"b\": {\"k\": {\"z\": \"{{ q }}\"}}}}}") (codes "[{\"hosts\": \"all\", \"tasks\": [{\"block\": [{\"loop\": \"{{ groups.all }}\", \"command\": {\"cmd\": \"{{ group_names }}\"}, \"when\": [\"y is defined\"], \"register\": \"s\", \"vars\": {\"v2\": \"{{ ansible_hostname.stdout_lines }}\"}}], \"always\": [{\"block\": [], \"rescue\": []}], \"when\": \"(hostvars[inventory_hostname].r is not skipped) or (inv is succeeded)\"}], \"post_tasks\": [{\"loop\": [\"a\", \"b\"], \"set_fact\": {\"s\": \"{{ r.rc is changed }}\"}, \"register\": \"s\"}, {\"block\": [{\"command\": \"x\", \"when\": \"((hostvars['a'].r.rc is not defined) or (opq.hostname is defined)) or (group_names is not defined)\", \"register\": \"s\"}], \"rescue\": [{\"setup\": null}]}], \"serial\": \"50%\", \"force_handlers\": true}, {\"hosts\": \"a\", \"tasks\": [{\"block\": [{\"command\": \"x\", \"ignore_errors\": true}], \"rescue\": [{\"assert\": {\"that\": \"r.changed is changed\"}, \"when\": [\"r.rc is defined\", \"'a' in ansible_play_batch\"], \"register\": \"s\", \"failed_when\": true, \"ignore_errors\": true}, {\"block\": [], \"always\": [{\"loop\": \"{{ inv }}\", \"setup\": null, \"register\": \"s\"}]}], \"always\": [{\"fail\": null, \"when\": [\"item\", \"((v2 is defined) or (r.results is skipped)) or ('a' in hostvars[inventory_hostname].inv)\"]}], \"when\": \"((r.changed is failed) or (inv == 1)) or (v2.stdout_lines == 'a')\"}, {\"set_fact\": {\"s\": \"{{ inv | join(',') }}\"}, \"ignore_errors\": true}, {\"ping\": null, \"register\": \"s\", \"vars\": {\"v1\": null}}, {\"debug\": {\"msg\": \"x{{ inventory_hostname }}\"}, \"when\": [\"r is not skipped\", \"'b' in ansible_play_batch\"], \"register\": \"s\"}], \"serial\": \"50%\", \"force_handlers\": true, \"vars\": {\"v1\": \"x{{ hostvars['b'].r.msg }}\"}}]") ≡ verdict (refused (record { code = 2; line = 3; host = Some (codes "c") }))
unfolding reading
random_001120 = refl

random_001128 : found (codes "{\"g\": {\"hosts\": [\"b\", \"a\"]}, \"all\": {\"hosts\": [\"c\"], \"vars\": {\"inv\": [1, 2]}}, \"_meta\": {\"hostvars\": {\"a\": {\"opq\": 1.5, \"inv\": [\"x\"]}, \"b\": {\"k\": {\"z\": \"{{ q }}\"}}}}}") (codes "[{\"hosts\": \"b,a\", \"tasks\": [{\"block\": [{\"block\": [{\"ping\": null, \"when\": [\"'b' in ansible_play_batch\"]}, {\"assert\": {\"that\": \"('a' in v1.hostname) and (groups['g'][0] in ansible_play_batch)\"}, \"when\": \"ansible_play_batch.stat.isdir\", \"register\": \"r\"}]}], \"rescue\": [{\"assert\": {\"that\": [\"'b' in ansible_play_batch\", \"('a' in ansible_play_batch.hostname) or ((v2.k is failed) or (hostvars[groups['g'][0]].inv is defined))\"]}, \"when\": [\"hostvars['b'].y is defined\"], \"register\": \"r\", \"changed_when\": true}, {\"block\": [{\"loop\": \"{{ groups.all }}\", \"debug\": {\"msg\": 1}, \"register\": \"s\"}], \"rescue\": [{\"debug\": {\"msg\": \"{{ opq.results }}\"}, \"when\": [\"r is not skipped\"]}, {\"set_fact\": {\"s\": true}, \"register\": \"r\", \"changed_when\": true}], \"always\": []}], \"always\": [], \"ignore_errors\": true}, {\"debug\": {\"msg\": \"x{{ item.changed | default(1) }}\"}, \"register\": \"s\"}, {\"block\": [{\"debug\": {\"msg\": \"{{ y.msg | default([]) }}\"}, \"when\": \"('a' in ansible_play_batch) or (hostvars[item].inv is changed)\"}, {\"setup\": null, \"failed_when\": false}], \"rescue\": [], \"always\": [{\"block\": [{\"set_fact\": {\"y\": {\"k\": \"{{ hostvars[groups['g'][0]].opq.stat.isdir | join(',') }}\"}}, \"when\": \"(group_names is not skipped) and ((ansible_play_batch.hostname is succeeded) and (ansible_play_batch.rc is not skipped))\", \"register\": \"s\"}], \"always\": [{\"set_fact\": {\"y\": [\"{{ ansible_failed_result.msg | default(1) }}\"]}}]}], \"ignore_errors\": true}, {\"set_fact\": {\"y\": \"{{ v1.os_family }}\"}, \"register\": \"s\", \"failed_when\": \"s is failed\"}], \"strategy\": \"free\"}]") ≡ verdict (refused (record { code = 4; line = 5; host = Some (codes "b") }))
unfolding reading
random_001128 = refl

random_001136 : found (codes "{\"g\": {\"hosts\": [\"b\", \"a\"]}, \"all\": {\"hosts\": [\"c\"], \"vars\": {\"inv\": [1, 2]}}, \"_meta\": {\"hostvars\": {\"a\": {\"opq\": 1.5, \"inv\": [\"x\"]}, \"b\": {\"k\": {\"z\": \"{{ q }}\"}}}}}") (codes "[{\"hosts\": \"all\", \"handlers\": [{\"debug\": {\"msg\": \"x{{ y.msg }}\"}, \"failed_when\": true, \"name\": \"h0\"}], \"tasks\": [{\"loop\": \"{{ groups.all }}\", \"command\": \"x\", \"when\": [\"(r.stdout is skipped) and (hostvars[item].y is failed)\", \"(not (ansible_hostname.results is succeeded)) and (opq.stdout_lines == 1)\"]}, {\"debug\": {\"msg\": \"x{{ hostvars[item].inv }}\"}, \"when\": [\"hostvars['b'].y is defined\", \"'a' in ansible_play_batch\"], \"register\": \"r\", \"ignore_errors\": false, \"notify\": \"h0\"}], \"vars\": {\"v1\": \"{{ r.stdout }}\"}}]") ≡ verdict (refused (record { code = 1; line = 2; host = Some (codes "c") }))
unfolding reading
random_001136 = refl

random_001161 : found_with (codes "[{\"name\": \"probe\", \"params\": {\"n\": {\"kind\": \"int\", \"required\": false}, \"l\": {\"kind\": {\"list\": \"text\", \"max\": 3}, \"required\": false}}, \"ok\": {\"changed\": {\"kind\": \"bool\", \"always\": true}, \"v\": {\"kind\": \"int\", \"always\": false}, \"rows\": {\"kind\": {\"list\": \"text\", \"max\": 2}, \"always\": true}, \"deep\": {\"kind\": {\"rec\": {\"a\": {\"kind\": \"text\", \"always\": true}, \"b\": {\"kind\": \"bool\", \"always\": false}}}, \"always\": false}}, \"failure\": {\"changed\": {\"kind\": \"bool\", \"always\": true}, \"msg\": {\"kind\": \"text\", \"always\": true}, \"v\": {\"kind\": \"text\", \"always\": false}, \"why\": {\"kind\": \"int\", \"always\": true}}}, {\"name\": \"odd\", \"params\": {}, \"ok\": {\"changed\": {\"kind\": \"bool\", \"always\": true}, \"msg\": {\"kind\": \"int\", \"always\": false}}, \"failure\": {\"changed\": {\"kind\": \"bool\", \"always\": true}, \"msg\": {\"kind\": \"text\", \"always\": true}}}]") (codes "{\"all\": {\"hosts\": [\"a\", \"b\", \"c\"], \"vars\": {}}, \"g1\": {\"hosts\": [\"b\", \"c\"], \"vars\": {\"s1\": []}}, \"g2\": {\"hosts\": [\"a\", \"b\", \"c\"], \"vars\": {\"i2\": []}}, \"_meta\": {\"hostvars\": {\"a\": {\"i1\": \"t\", \"i2\": true}, \"b\": {\"i2\": true}, \"c\": {}}}}") (codes "[{\"hosts\": \"g2\", \"serial\": [1, 2], \"pre_tasks\": [{\"loop\": \"{{ r2.results | default([]) }}\", \"vars\": {\"v1\": \"{{ ansible_hostname }}\"}, \"ping\": null, \"when\": \"inventory_hostname == 'c'\", \"ignore_errors\": true}, {\"command\": {\"cmd\": \"x\"}, \"ignore_errors\": false}, {\"block\": [{\"ignore_errors\": true, \"block\": [{\"debug\": {\"msg\": \"x\"}, \"register\": \"r2\"}, {\"probe\": null}, {\"command\": \"x\", \"register\": \"r1\"}]}, {\"set_fact\": {\"s2\": \"t\"}, \"register\": \"r3\"}, {\"assert\": {\"that\": [\"hostvars['c'].s3.f is defined\"]}, \"register\": \"r2\", \"ignore_errors\": true}]}], \"tasks\": [{\"command\": {\"cmd\": \"x\"}, \"register\": \"r3\", \"ignore_errors\": false}], \"force_handlers\": true}]") ≡ verdict (accepted 12)
unfolding reading
random_001161 = refl

random_001172 : found (codes "{\"g\": {\"hosts\": [\"b\", \"a\"]}, \"all\": {\"hosts\": [\"c\"], \"vars\": {\"inv\": [1, 2]}}, \"_meta\": {\"hostvars\": {\"a\": {\"opq\": 1.5, \"inv\": [\"x\"]}, \"b\": {\"k\": {\"z\": \"{{ q }}\"}}}}}") (codes "[{\"hosts\": \"b,a\", \"handlers\": [{\"setup\": null, \"name\": \"h0\"}, {\"loop\": \"{{ r.results }}\", \"stat\": {\"path\": \"p\"}, \"register\": \"r\", \"ignore_errors\": true, \"name\": \"h1\"}], \"tasks\": [{\"assert\": {\"that\": \"group_names is not defined\"}, \"register\": \"r\", \"ignore_errors\": true, \"notify\": \"h0\"}, {\"ping\": null, \"register\": \"s\", \"ignore_errors\": true, \"notify\": \"h0\"}, {\"loop\": \"{{ groups['g'] }}\", \"stat\": {\"path\": \"p\"}, \"failed_when\": \"zz is failed\", \"notify\": \"h0\"}, {\"set_fact\": {\"s\": true}, \"register\": \"s\", \"notify\": \"h0\"}], \"strategy\": \"free\", \"serial\": 1}, {\"hosts\": \"all\", \"tasks\": [{\"meta\": \"flush_handlers\"}, {\"set_fact\": {\"y\": \"{{ hostvars['a'].inv }}\"}, \"when\": \"inv.os_family is not skipped\", \"register\": \"s\"}, {\"block\": [{\"block\": [{\"loop\": [\"a\", \"b\"], \"setup\": null, \"ignore_errors\": true}], \"always\": [{\"assert\": {\"that\": \"((r.rc is not defined) or (hostvars[inventory_hostname].opq.stat.isdir is failed)) and (r.failed == 'a')\"}, \"when\": [\"r is defined\", \"s is defined and s is not failed\"]}], \"ignore_errors\": true}, {\"setup\": null, \"when\": [\"hostvars['a'].r.rc is defined\"]}], \"rescue\": [{\"stat\": {\"path\": \"p\"}, \"when\": \"groups['g'][0] in ansible_play_batch\", \"register\": \"s\", \"until\": \"s is succeeded\", \"ignore_errors\": true}, {\"ping\": null, \"when\": [\"r.rc == 1\", \"item in ansible_play_batch\"], \"register\": \"s\"}], \"always\": [{\"block\": []}], \"when\": \"('a' in ansible_play_batch) and (r.rc is skipped)\", \"ignore_errors\": false}], \"force_handlers\": true, \"gather_facts\": true, \"vars\": {\"v1\": {\"k\": \"{{ hostvars[item].opq.stat.isdir }}\"}}}]") ≡ verdict (refused (record { code = 1; line = 4; host = Some (codes "b") }))
unfolding reading
random_001172 = refl

random_001190 : found (codes "{\"g\": {\"hosts\": [\"b\", \"a\"]}, \"all\": {\"hosts\": [\"c\"], \"vars\": {\"inv\": [1, 2]}}, \"_meta\": {\"hostvars\": {\"a\": {\"opq\": 1.5, \"inv\": [\"x\"]}, \"b\": {\"k\": {\"z\": \"{{ q }}\"}}}}}") (codes "[{\"hosts\": \"b,a\", \"tasks\": [{\"setup\": null, \"when\": [\"y is defined\", \"r is defined and r is succeeded\"], \"register\": \"r\", \"ignore_errors\": false}, {\"loop\": \"{{ inv }}\", \"command\": \"x\", \"when\": [\"not (hostvars[groups['g'][0]].opq.os_family is defined)\", \"'b' in ansible_play_batch\"]}, {\"fail\": null, \"when\": [\"hostvars['a'].r.rc is defined\"], \"register\": \"s\", \"ignore_errors\": true}], \"force_handlers\": true, \"gather_facts\": true, \"vars\": {\"v1\": {\"k\": \"{{ 1 }}\"}}}]") ≡ verdict (accepted 7)
unfolding reading
random_001190 = refl

random_001194 : found (codes "{\"g\": {\"hosts\": [\"b\", \"a\"]}, \"all\": {\"hosts\": [\"c\"], \"vars\": {\"inv\": [1, 2]}}, \"_meta\": {\"hostvars\": {\"a\": {\"opq\": 1.5, \"inv\": [\"x\"]}, \"b\": {\"k\": {\"z\": \"{{ q }}\"}}}}}") (codes "[{\"hosts\": \"g\", \"pre_tasks\": [{\"block\": [], \"rescue\": [], \"always\": []}], \"tasks\": [{\"loop\": \"{{ groups['g'] }}\", \"fail\": {\"msg\": \"m\"}, \"register\": \"r\", \"ignore_errors\": true}, {\"stat\": {\"path\": \"p\"}, \"when\": [\"r is defined\"], \"register\": \"r\", \"ignore_errors\": true, \"vars\": {\"v2\": true}}], \"vars\": {\"v1\": \"{{ inventory_hostname.stat.isdir | length }}\"}}, {\"hosts\": \"b,a\", \"handlers\": [{\"loop\": \"{{ inv }}\", \"command\": {\"cmd\": {\"k\": null}}, \"register\": \"r\", \"failed_when\": \"r.changed\", \"name\": \"h0\"}], \"tasks\": [{\"ping\": null, \"register\": \"r\"}, {\"fail\": {\"msg\": \"m\"}, \"register\": \"s\"}, {\"block\": [], \"when\": [\"r.stdout_lines is defined\", \"hostvars['a'].r.stat.isdir is not defined\"]}], \"strategy\": \"free\", \"vars\": {\"v1\": \"{{ s.changed | default(group_names.stdout) }}\"}}]") ≡ verdict (accepted 4)
unfolding reading
random_001194 = refl

random_001198 : found (codes "{\"g\": {\"hosts\": [\"b\", \"a\"]}, \"all\": {\"hosts\": [\"c\"], \"vars\": {\"inv\": [1, 2]}}, \"_meta\": {\"hostvars\": {\"a\": {\"opq\": 1.5, \"inv\": [\"x\"]}, \"b\": {\"k\": {\"z\": \"{{ q }}\"}}}}}") (codes "[{\"hosts\": \"b,a\", \"handlers\": [{\"assert\": {\"that\": \"group_names.stdout_lines is succeeded\"}, \"register\": \"r\", \"vars\": {\"v1\": \"{{ r.changed | default('d') }}\"}, \"name\": \"h0\"}, {\"command\": {\"cmd\": \"{{ hostvars[inventory_hostname].inv is not skipped }}\"}, \"name\": \"h1\"}], \"tasks\": [{\"meta\": \"flush_handlers\"}], \"force_handlers\": true, \"vars\": {\"v1\": {\"k\": [\"{{ ansible_hostname.stdout }}\"]}}}]") ≡ verdict (refused (record { code = 4; line = 3; host = Some (codes "b") }))
unfolding reading
random_001198 = refl

random_001200 : found (codes "{\"g\": {\"hosts\": [\"b\", \"a\"]}, \"all\": {\"hosts\": [\"c\"], \"vars\": {\"inv\": [1, 2]}}, \"_meta\": {\"hostvars\": {\"a\": {\"opq\": 1.5, \"inv\": [\"x\"]}, \"b\": {\"k\": {\"z\": \"{{ q }}\"}}}}}") (codes "[{\"hosts\": \"b,a\", \"handlers\": [{\"loop\": \"{{ ansible_play_batch }}\", \"command\": {\"cmd\": 1}, \"name\": \"h0\"}], \"tasks\": [{\"set_fact\": {\"s\": \"{{ 'a' }}\"}, \"notify\": \"h0\"}], \"post_tasks\": [{\"set_fact\": {\"y\": \"{{ hostvars['a'].inv | length }}\"}, \"when\": [\"'a' in ansible_play_batch\"], \"ignore_errors\": true, \"notify\": \"h0\"}, {\"fail\": {\"msg\": \"m\"}, \"when\": [\"'b' in ansible_play_batch\"], \"register\": \"r\", \"vars\": {\"v2\": {\"k\": \"{{ hostvars[inventory_hostname].inv.msg }}\"}}}], \"vars\": {\"v1\": {\"k\": 1}}}]") ≡ verdict (refused (record { code = 4; line = 5; host = Some (codes "b") }))
unfolding reading
random_001200 = refl

random_001210 : found (codes "{\"g\": {\"hosts\": [\"b\", \"a\"]}, \"all\": {\"hosts\": [\"c\"], \"vars\": {\"inv\": [1, 2]}}, \"_meta\": {\"hostvars\": {\"a\": {\"opq\": 1.5, \"inv\": [\"x\"]}, \"b\": {\"k\": {\"z\": \"{{ q }}\"}}}}}") (codes "[{\"hosts\": \"b,a\", \"handlers\": [{\"ping\": null, \"when\": [\"r is not skipped\"], \"name\": \"h0\"}, {\"command\": \"x\", \"register\": \"s\", \"ignore_errors\": false, \"name\": \"h1\"}], \"tasks\": [{\"block\": [{\"set_fact\": {\"s\": \"{{ hostvars[item].inv | join(',') }}\"}, \"ignore_errors\": true}], \"rescue\": [{\"loop\": \"{{ r.stdout_lines }}\", \"setup\": null, \"register\": \"s\"}, {\"debug\": {\"msg\": \"x{{ v1.stat.isdir | length }}\"}, \"register\": \"r\", \"notify\": \"h1\"}], \"always\": [{\"command\": \"x\", \"when\": [\"r is defined and r is succeeded\"], \"notify\": \"h0\"}]}, {\"block\": [], \"always\": [{\"block\": [{\"ping\": null, \"register\": \"s\", \"ignore_errors\": true, \"notify\": \"h1\"}, {\"setup\": null, \"notify\": \"h1\"}], \"rescue\": [], \"always\": []}], \"when\": [\"y.rc is not defined\", \"'a' in s.changed\"]}], \"strategy\": \"free\", \"force_handlers\": true}]") ≡ verdict (refused (record { code = 1; line = 3; host = Some (codes "b") }))
unfolding reading
random_001210 = refl

random_001219 : found_with (codes "[{\"name\": \"probe\", \"params\": {\"n\": {\"kind\": \"int\", \"required\": false}, \"l\": {\"kind\": {\"list\": \"text\", \"max\": 3}, \"required\": false}}, \"ok\": {\"changed\": {\"kind\": \"bool\", \"always\": true}, \"v\": {\"kind\": \"int\", \"always\": false}, \"rows\": {\"kind\": {\"list\": \"text\", \"max\": 2}, \"always\": true}, \"deep\": {\"kind\": {\"rec\": {\"a\": {\"kind\": \"text\", \"always\": true}, \"b\": {\"kind\": \"bool\", \"always\": false}}}, \"always\": false}}, \"failure\": {\"changed\": {\"kind\": \"bool\", \"always\": true}, \"msg\": {\"kind\": \"text\", \"always\": true}, \"v\": {\"kind\": \"text\", \"always\": false}, \"why\": {\"kind\": \"int\", \"always\": true}}}, {\"name\": \"odd\", \"params\": {}, \"ok\": {\"changed\": {\"kind\": \"bool\", \"always\": true}, \"msg\": {\"kind\": \"int\", \"always\": false}}, \"failure\": {\"changed\": {\"kind\": \"bool\", \"always\": true}, \"msg\": {\"kind\": \"text\", \"always\": true}}}]") (codes "{\"all\": {\"hosts\": [\"a\", \"b\", \"c\", \"d\"], \"vars\": {\"i1\": true, \"s1\": {\"g\": 1}, \"op\": 1.5}}, \"g1\": {\"hosts\": [\"a\", \"b\"], \"vars\": {\"i1\": {\"f\": [0, \"a\"]}}}, \"g2\": {\"hosts\": [\"c\", \"d\"], \"vars\": {\"i1\": []}}, \"_meta\": {\"hostvars\": {\"a\": {}, \"b\": {}, \"c\": {\"op\": 1.5}, \"d\": {\"i1\": {\"f\": []}, \"s1\": \"t\"}}}}") (codes "[{\"hosts\": \"all\", \"serial\": 2, \"tasks\": [{\"debug\": {\"msg\": \"x\"}, \"register\": \"r1\", \"notify\": \"h2\"}, {\"loop\": \"{{ groups['all'] }}\", \"fail\": {\"msg\": \"m\"}, \"when\": [\"((r1.changed is not defined) or (inventory_hostname != 'd')) and (inventory_hostname == 'a')\", \"item in ansible_play_batch\"]}, {\"meta\": \"flush_handlers\"}, {\"debug\": {\"msg\": \"x\"}, \"register\": \"r1\", \"changed_when\": \"r1.failed == 1\", \"notify\": \"h2\"}], \"handlers\": [{\"set_fact\": {\"s2\": {\"f\": 1}}, \"register\": \"r2\", \"name\": \"h0\", \"notify\": \"h1\"}, {\"loop\": [], \"vars\": {\"v1\": \"{{ r2.changed | default(s1) }}\", \"v2\": \"{{ group_names }}\"}, \"command\": {\"cmd\": \"x\"}, \"changed_when\": true, \"name\": \"h1\", \"listen\": \"t\", \"notify\": \"h2\"}, {\"loop\": [[], 3], \"set_fact\": {\"s3\": 1}, \"name\": \"h2\", \"listen\": \"t\"}], \"force_handlers\": true}]") ≡ verdict (accepted 0)
unfolding reading
random_001219 = refl

random_001226 : found (codes "{\"g\": {\"hosts\": [\"b\", \"a\"]}, \"all\": {\"hosts\": [\"c\"], \"vars\": {\"inv\": [1, 2]}}, \"_meta\": {\"hostvars\": {\"a\": {\"opq\": 1.5, \"inv\": [\"x\"]}, \"b\": {\"k\": {\"z\": \"{{ q }}\"}}}}}") (codes "[{\"hosts\": \"all\", \"handlers\": [{\"assert\": {\"that\": [\"item in ansible_play_batch\", \"s.stdout_lines is failed\"]}, \"name\": \"h0\"}], \"tasks\": [{\"block\": [], \"rescue\": [{\"block\": [{\"debug\": {\"msg\": \"{{ hostvars['a'].y.k | default(1) }}\"}, \"when\": [\"(group_names is succeeded) or (y.results is succeeded)\", \"not (('a' in inventory_hostname.rc) or (hostvars['a'].inv is undefined))\"], \"ignore_errors\": true, \"notify\": \"h0\"}, {\"loop\": \"{{ groups['g'] }}\", \"assert\": {\"that\": \"'b' in ansible_play_batch\"}, \"register\": \"r\", \"ignore_errors\": true}], \"rescue\": [], \"always\": []}], \"always\": [], \"ignore_errors\": true}, {\"set_fact\": {\"s\": \"{{ inv | default('d') }}\"}, \"register\": \"r\"}, {\"fail\": {\"msg\": \"m\"}, \"vars\": {\"v1\": \"{{ hostvars[inventory_hostname].inv | default(y.stdout_lines) }}\"}}, {\"command\": \"x\", \"register\": \"s\", \"failed_when\": true}], \"post_tasks\": [{\"meta\": \"flush_handlers\"}, {\"command\": \"x\"}], \"force_handlers\": true}]") ≡ verdict (refused (record { code = 1; line = 11; host = Some (codes "c") }))
unfolding reading
random_001226 = refl

random_001246 : found (codes "{\"g\": {\"hosts\": [\"b\", \"a\"]}, \"all\": {\"hosts\": [\"c\"], \"vars\": {\"inv\": [1, 2]}}, \"_meta\": {\"hostvars\": {\"a\": {\"opq\": 1.5, \"inv\": [\"x\"]}, \"b\": {\"k\": {\"z\": \"{{ q }}\"}}}}}") (codes "[{\"hosts\": \"all\", \"tasks\": [{\"block\": []}, {\"set_fact\": {\"y\": \"{{ y.stat.isdir | join(',') }}\"}, \"when\": [\"r.rc is defined\", \"r is defined and r is succeeded\"]}, {\"set_fact\": {\"y\": \"{{ hostvars['b'].y }}\"}, \"vars\": {\"v2\": null}}], \"gather_facts\": true}]") ≡ verdict (refused (record { code = 1; line = 4; host = Some (codes "c") }))
unfolding reading
random_001246 = refl

random_001296 : found (codes "{\"g\": {\"hosts\": [\"b\", \"a\"]}, \"all\": {\"hosts\": [\"c\"], \"vars\": {\"inv\": [1, 2]}}, \"_meta\": {\"hostvars\": {\"a\": {\"opq\": 1.5, \"inv\": [\"x\"]}, \"b\": {\"k\": {\"z\": \"{{ q }}\"}}}}}") (codes "[{\"hosts\": \"g\", \"pre_tasks\": [{\"command\": {\"cmd\": {\"k\": \"{{ group_names }}\"}}, \"when\": \"'a' in ansible_play_batch.results\", \"failed_when\": false, \"vars\": {\"v1\": {\"k\": {\"k\": \"{{ (r.results is undefined) and ('a' in hostvars['a'].r.os_family) }}\"}}}}, {\"assert\": {\"that\": \"item in ansible_play_batch\"}}, {\"loop\": [\"a\", \"b\"], \"command\": {\"cmd\": {\"k\": [\"{{ r.results | default('d') }}\"]}}, \"register\": \"r\", \"vars\": {\"v1\": \"{{ (r.changed is not skipped) and (y.stdout is defined) }}\"}}, {\"set_fact\": {\"y\": \"{{ inventory_hostname }}\"}, \"when\": [\"s is defined and s is not failed\"], \"register\": \"s\", \"changed_when\": true}], \"tasks\": [{\"stat\": {\"path\": \"p\"}, \"when\": [\"r is not skipped\"]}, {\"block\": [{\"assert\": {\"that\": \"item in ansible_play_batch\"}, \"failed_when\": \"zz.changed\"}], \"rescue\": [], \"always\": []}, {\"command\": \"x\", \"when\": \"not (not (hostvars['a'].inv is failed))\", \"register\": \"r\", \"until\": \"r.changed\", \"retries\": 1}], \"vars\": {\"v1\": {\"k\": \"a\"}}}]") ≡ verdict (refused (record { code = 4; line = 2; host = Some (codes "b") }))
unfolding reading
random_001296 = refl

random_001301 : found_with (codes "[{\"name\": \"probe\", \"params\": {\"n\": {\"kind\": \"int\", \"required\": false}, \"l\": {\"kind\": {\"list\": \"text\", \"max\": 3}, \"required\": false}}, \"ok\": {\"changed\": {\"kind\": \"bool\", \"always\": true}, \"v\": {\"kind\": \"int\", \"always\": false}, \"rows\": {\"kind\": {\"list\": \"text\", \"max\": 2}, \"always\": true}, \"deep\": {\"kind\": {\"rec\": {\"a\": {\"kind\": \"text\", \"always\": true}, \"b\": {\"kind\": \"bool\", \"always\": false}}}, \"always\": false}}, \"failure\": {\"changed\": {\"kind\": \"bool\", \"always\": true}, \"msg\": {\"kind\": \"text\", \"always\": true}, \"v\": {\"kind\": \"text\", \"always\": false}, \"why\": {\"kind\": \"int\", \"always\": true}}}, {\"name\": \"odd\", \"params\": {}, \"ok\": {\"changed\": {\"kind\": \"bool\", \"always\": true}, \"msg\": {\"kind\": \"int\", \"always\": false}}, \"failure\": {\"changed\": {\"kind\": \"bool\", \"always\": true}, \"msg\": {\"kind\": \"text\", \"always\": true}}}]") (codes "{\"all\": {\"hosts\": [\"a\", \"b\", \"c\", \"d\"], \"vars\": {\"op\": 1.5}}, \"g1\": {\"hosts\": [\"a\", \"b\", \"d\"], \"vars\": {}, \"children\": [\"g2\"]}, \"g2\": {\"hosts\": [\"a\", \"d\"], \"vars\": {\"i1\": \"\", \"i2\": []}}, \"_meta\": {\"hostvars\": {\"a\": {}, \"b\": {\"i2\": \"x\", \"s1\": 1}, \"c\": {\"i1\": \"t\"}, \"d\": {}}}}") (codes "[{\"hosts\": \"a\", \"vars\": {\"v1\": \"x{{ [hostvars['a'].r3.changed, 'q'] }}\", \"v3\": \"b\"}, \"gather_facts\": true, \"tasks\": [{\"meta\": \"flush_handlers\"}, {\"set_fact\": {\"s2\": {\"f\": 1}}, \"register\": \"r1\"}, {\"loop\": [\"no\", null], \"command\": {\"cmd\": \"x\"}, \"register\": \"r1\"}], \"post_tasks\": [{\"stat\": {\"path\": \"/\"}, \"register\": \"r3\"}, {\"command\": {\"cmd\": \"x\"}, \"register\": \"r2\"}, {\"vars\": {}, \"probe\": null, \"when\": [\"r2 is defined\", \"r2.stdout_lines is defined\"], \"register\": \"r1\"}, {\"meta\": \"flush_handlers\"}]}]") ≡ verdict (accepted 6)
unfolding reading
random_001301 = refl

random_001305 : found_with (codes "[{\"name\": \"probe\", \"params\": {\"n\": {\"kind\": \"int\", \"required\": false}, \"l\": {\"kind\": {\"list\": \"text\", \"max\": 3}, \"required\": false}}, \"ok\": {\"changed\": {\"kind\": \"bool\", \"always\": true}, \"v\": {\"kind\": \"int\", \"always\": false}, \"rows\": {\"kind\": {\"list\": \"text\", \"max\": 2}, \"always\": true}, \"deep\": {\"kind\": {\"rec\": {\"a\": {\"kind\": \"text\", \"always\": true}, \"b\": {\"kind\": \"bool\", \"always\": false}}}, \"always\": false}}, \"failure\": {\"changed\": {\"kind\": \"bool\", \"always\": true}, \"msg\": {\"kind\": \"text\", \"always\": true}, \"v\": {\"kind\": \"text\", \"always\": false}, \"why\": {\"kind\": \"int\", \"always\": true}}}, {\"name\": \"odd\", \"params\": {}, \"ok\": {\"changed\": {\"kind\": \"bool\", \"always\": true}, \"msg\": {\"kind\": \"int\", \"always\": false}}, \"failure\": {\"changed\": {\"kind\": \"bool\", \"always\": true}, \"msg\": {\"kind\": \"text\", \"always\": true}}}]") (codes "{\"all\": {\"hosts\": [\"a\", \"b\"], \"vars\": {\"s1\": 2}}, \"g1\": {\"hosts\": [], \"vars\": {}}, \"g2\": {\"hosts\": [\"b\"], \"vars\": {}}, \"_meta\": {\"hostvars\": {\"a\": {\"i2\": [\"\"]}, \"b\": {\"i2\": {\"f\": true}}}}}") (codes "[{\"hosts\": \"all\", \"strategy\": \"free\", \"gather_facts\": true, \"tasks\": [{\"ping\": null}, {\"loop\": [], \"probe\": {}}, {\"set_fact\": {\"s3\": \"{{ op | default(s1) }}\", \"s2\": \"t\"}, \"register\": \"r3\", \"notify\": \"h2\", \"changed_when\": true}, {\"odd\": null, \"register\": \"r3\", \"until\": \"r3.changed | default(true) == true\", \"retries\": 2}], \"post_tasks\": [{\"probe\": {}}, {\"set_fact\": {\"s2\": {\"f\": 1}}, \"notify\": \"h0\"}], \"handlers\": [{\"vars\": {\"v1\": \"{{ ansible_facts.hostname }}\", \"v2\": \"{{ hostvars['a'].r2.changed }}\"}, \"command\": {\"cmd\": \"x\"}, \"register\": \"r1\", \"name\": \"h0\", \"listen\": \"t\"}, {\"vars\": {\"v2\": \"{{ r3.failed }}\", \"v3\": \"{{ (r1.stdout_lines) == (hostvars['a'].r2.changed) }}\"}, \"assert\": {\"that\": [\"hostvars[groups['all'][0]].r1.rc is defined\"]}, \"when\": \"hostvars['b'].r1.failed is not defined\", \"register\": \"r1\", \"name\": \"h1\", \"notify\": \"h2\"}, {\"fail\": null, \"name\": \"h2\", \"listen\": \"t\"}]}]") ≡ verdict (accepted 16)
unfolding reading
random_001305 = refl

random_001308 : found (codes "{\"g\": {\"hosts\": [\"b\", \"a\"]}, \"all\": {\"hosts\": [\"c\"], \"vars\": {\"inv\": [1, 2]}}, \"_meta\": {\"hostvars\": {\"a\": {\"opq\": 1.5, \"inv\": [\"x\"]}, \"b\": {\"k\": {\"z\": \"{{ q }}\"}}}}}") (codes "[{\"hosts\": \"b,a\", \"tasks\": [{\"command\": {\"cmd\": \"{{ hostvars['b'].inv.stdout_lines }}\"}, \"when\": [\"r is defined and r is succeeded\"], \"register\": \"s\", \"ignore_errors\": true}, {\"command\": \"x\", \"register\": \"s\"}], \"strategy\": \"free\"}]") ≡ verdict (refused (record { code = 4; line = 2; host = Some (codes "b") }))
unfolding reading
random_001308 = refl

random_001309 : found_with (codes "[{\"name\": \"probe\", \"params\": {\"n\": {\"kind\": \"int\", \"required\": false}, \"l\": {\"kind\": {\"list\": \"text\", \"max\": 3}, \"required\": false}}, \"ok\": {\"changed\": {\"kind\": \"bool\", \"always\": true}, \"v\": {\"kind\": \"int\", \"always\": false}, \"rows\": {\"kind\": {\"list\": \"text\", \"max\": 2}, \"always\": true}, \"deep\": {\"kind\": {\"rec\": {\"a\": {\"kind\": \"text\", \"always\": true}, \"b\": {\"kind\": \"bool\", \"always\": false}}}, \"always\": false}}, \"failure\": {\"changed\": {\"kind\": \"bool\", \"always\": true}, \"msg\": {\"kind\": \"text\", \"always\": true}, \"v\": {\"kind\": \"text\", \"always\": false}, \"why\": {\"kind\": \"int\", \"always\": true}}}, {\"name\": \"odd\", \"params\": {}, \"ok\": {\"changed\": {\"kind\": \"bool\", \"always\": true}, \"msg\": {\"kind\": \"int\", \"always\": false}}, \"failure\": {\"changed\": {\"kind\": \"bool\", \"always\": true}, \"msg\": {\"kind\": \"text\", \"always\": true}}}]") (codes "{\"all\": {\"hosts\": [\"a\", \"b\", \"c\", \"d\"], \"vars\": {}}, \"g1\": {\"hosts\": [\"d\"], \"vars\": {}}, \"_meta\": {\"hostvars\": {\"a\": {\"i2\": \"t\"}, \"b\": {}, \"c\": {\"op\": 1.5}, \"d\": {\"i1\": true, \"s1\": \"a\"}}}}") (codes "[{\"hosts\": \"c\", \"tasks\": [{\"command\": {\"cmd\": \"x\"}, \"register\": \"r1\", \"ignore_errors\": true}, {\"meta\": \"flush_handlers\"}], \"handlers\": [{\"ping\": null, \"register\": \"r2\", \"failed_when\": true, \"name\": \"h0\", \"listen\": \"t\"}]}, {\"hosts\": \"all\", \"vars\": {\"v1\": {\"f\": \"a\", \"g\": true}, \"v2\": \"a\", \"v3\": -1}, \"tasks\": [{\"command\": \"x\", \"when\": \"r1 is defined\", \"register\": \"r1\"}]}]") ≡ verdict (accepted 7)
unfolding reading
random_001309 = refl

random_001312 : found (codes "{\"g\": {\"hosts\": [\"b\", \"a\"]}, \"all\": {\"hosts\": [\"c\"], \"vars\": {\"inv\": [1, 2]}}, \"_meta\": {\"hostvars\": {\"a\": {\"opq\": 1.5, \"inv\": [\"x\"]}, \"b\": {\"k\": {\"z\": \"{{ q }}\"}}}}}") (codes "[{\"hosts\": \"b,a\", \"handlers\": [{\"stat\": {\"path\": \"p\"}, \"failed_when\": \"zz is failed\", \"name\": \"h0\"}], \"tasks\": [{\"meta\": \"flush_handlers\"}], \"serial\": [1, 2], \"gather_facts\": true}, {\"hosts\": \"g\", \"tasks\": [{\"debug\": {\"msg\": true}, \"ignore_errors\": true}, {\"loop\": [1, 2], \"command\": {\"cmd\": \"{{ opq.changed }}\"}, \"register\": \"r\", \"ignore_errors\": true}, {\"setup\": null, \"when\": [\"'a' in ansible_play_batch\", \"item < 3\"]}, {\"command\": \"x\", \"register\": \"s\"}], \"serial\": 1}]") ≡ verdict (refused (record { code = 1; line = 4; host = Some (codes "b") }))
unfolding reading
random_001312 = refl

random_001313 : found_with (codes "[{\"name\": \"probe\", \"params\": {\"n\": {\"kind\": \"int\", \"required\": false}, \"l\": {\"kind\": {\"list\": \"text\", \"max\": 3}, \"required\": false}}, \"ok\": {\"changed\": {\"kind\": \"bool\", \"always\": true}, \"v\": {\"kind\": \"int\", \"always\": false}, \"rows\": {\"kind\": {\"list\": \"text\", \"max\": 2}, \"always\": true}, \"deep\": {\"kind\": {\"rec\": {\"a\": {\"kind\": \"text\", \"always\": true}, \"b\": {\"kind\": \"bool\", \"always\": false}}}, \"always\": false}}, \"failure\": {\"changed\": {\"kind\": \"bool\", \"always\": true}, \"msg\": {\"kind\": \"text\", \"always\": true}, \"v\": {\"kind\": \"text\", \"always\": false}, \"why\": {\"kind\": \"int\", \"always\": true}}}, {\"name\": \"odd\", \"params\": {}, \"ok\": {\"changed\": {\"kind\": \"bool\", \"always\": true}, \"msg\": {\"kind\": \"int\", \"always\": false}}, \"failure\": {\"changed\": {\"kind\": \"bool\", \"always\": true}, \"msg\": {\"kind\": \"text\", \"always\": true}}}]") (codes "{\"all\": {\"hosts\": [\"a\", \"b\", \"c\", \"d\"], \"vars\": {\"i1\": 1}}, \"g1\": {\"hosts\": [\"c\", \"d\"], \"vars\": {\"i1\": false, \"i2\": 1}, \"children\": [\"g2\"]}, \"g2\": {\"hosts\": [\"a\", \"b\", \"c\"], \"vars\": {}}, \"_meta\": {\"hostvars\": {\"a\": {}, \"b\": {\"i1\": false}, \"c\": {\"i1\": {\"g\": {\"f\": \"t\", \"g\": 1}}}, \"d\": {\"i1\": [\"x\", \"no\"], \"i2\": \"\", \"s1\": []}}}}") (codes "[{\"hosts\": \"d\", \"tasks\": [{\"loop\": \"{{ r1.stdout_lines | default([]) }}\", \"command\": {\"cmd\": \"x {{ r1.failed }}\"}, \"when\": [\"r1 is defined\", \"r1 is succeeded\"]}, {\"assert\": {\"that\": [\"r3.results is defined\"]}, \"ignore_errors\": false}], \"handlers\": [{\"command\": {\"cmd\": \"x\"}, \"name\": \"h0\", \"listen\": \"t\"}], \"force_handlers\": true}, {\"hosts\": \"all\", \"tasks\": [{\"ping\": null, \"register\": \"r1\"}, {\"debug\": {\"msg\": \"x{{ r1.ping }}\"}, \"when\": [\"ansible_os_family is defined\", \"r1.ping is defined\"], \"register\": \"r1\", \"ignore_errors\": true}]}]") ≡ verdict (accepted 5)
unfolding reading
random_001313 = refl

random_001316 : found (codes "{\"g\": {\"hosts\": [\"b\", \"a\"]}, \"all\": {\"hosts\": [\"c\"], \"vars\": {\"inv\": [1, 2]}}, \"_meta\": {\"hostvars\": {\"a\": {\"opq\": 1.5, \"inv\": [\"x\"]}, \"b\": {\"k\": {\"z\": \"{{ q }}\"}}}}}") (codes "[{\"hosts\": \"all\", \"pre_tasks\": [{\"block\": [{\"block\": [{\"fail\": {\"msg\": \"m\"}, \"register\": \"r\"}, {\"set_fact\": {\"s\": [\"{{ r.failed }}\"]}, \"when\": [\"s is defined and s is not failed\"]}], \"when\": \"'a' in r.failed\", \"ignore_errors\": false}], \"rescue\": [], \"always\": [], \"ignore_errors\": false}, {\"set_fact\": {\"y\": \"{{ r.changed }}\"}, \"when\": \"'a' in hostvars[item].y.k\", \"ignore_errors\": true}, {\"ping\": null, \"when\": [\"r is not skipped\"], \"register\": \"r\"}, {\"meta\": \"flush_handlers\"}], \"tasks\": [{\"stat\": {\"path\": \"p\"}, \"when\": [\"hostvars[inventory_hostname].inv is succeeded\", \"s.hostname\"]}, {\"fail\": null, \"when\": \"((r.rc is undefined) and (ansible_facts == 'a')) and (groups['g'][0] in ansible_play_batch)\", \"ignore_errors\": false}, {\"setup\": null, \"ignore_errors\": true}]}]") ≡ verdict (refused (record { code = 1; line = 4; host = Some (codes "c") }))
unfolding reading
random_001316 = refl

random_001319 : found_with (codes "[{\"name\": \"probe\", \"params\": {\"n\": {\"kind\": \"int\", \"required\": false}, \"l\": {\"kind\": {\"list\": \"text\", \"max\": 3}, \"required\": false}}, \"ok\": {\"changed\": {\"kind\": \"bool\", \"always\": true}, \"v\": {\"kind\": \"int\", \"always\": false}, \"rows\": {\"kind\": {\"list\": \"text\", \"max\": 2}, \"always\": true}, \"deep\": {\"kind\": {\"rec\": {\"a\": {\"kind\": \"text\", \"always\": true}, \"b\": {\"kind\": \"bool\", \"always\": false}}}, \"always\": false}}, \"failure\": {\"changed\": {\"kind\": \"bool\", \"always\": true}, \"msg\": {\"kind\": \"text\", \"always\": true}, \"v\": {\"kind\": \"text\", \"always\": false}, \"why\": {\"kind\": \"int\", \"always\": true}}}, {\"name\": \"odd\", \"params\": {}, \"ok\": {\"changed\": {\"kind\": \"bool\", \"always\": true}, \"msg\": {\"kind\": \"int\", \"always\": false}}, \"failure\": {\"changed\": {\"kind\": \"bool\", \"always\": true}, \"msg\": {\"kind\": \"text\", \"always\": true}}}]") (codes "{\"all\": {\"hosts\": [\"a\", \"b\", \"c\", \"d\"], \"vars\": {\"i1\": [\"b\", \"t\"], \"i2\": \"b\"}}, \"g1\": {\"hosts\": [\"a\", \"c\", \"d\"], \"vars\": {\"op\": 1.5}, \"children\": [\"g2\"]}, \"g2\": {\"hosts\": [\"b\", \"c\", \"d\"], \"vars\": {}}, \"_meta\": {\"hostvars\": {\"a\": {\"s1\": 0}, \"b\": {\"op\": 1.5}, \"c\": {}, \"d\": {\"op\": 1.5}}}}") (codes "[{\"hosts\": [\"b\", \"all\"], \"serial\": 2, \"gather_facts\": true, \"tasks\": [{\"vars\": {\"v1\": \"{{ ansible_hostname | default(s1) }}\", \"v3\": \"{{ (hostvars['c'].i2) == (s1) }}\"}, \"command\": {\"cmd\": \"x\"}, \"register\": \"r3\", \"ignore_errors\": true}, {\"ping\": null}, {\"vars\": {\"v1\": false}, \"block\": [{\"vars\": {\"v1\": \"{{ (r1.skip_reason) == (groups.all) }}\"}, \"debug\": {\"msg\": \"{{ r2.failed }}\"}, \"ignore_errors\": true, \"notify\": \"t\"}], \"rescue\": [{\"probe\": {}, \"when\": \"(s1 != [1]) or (i1 is defined)\", \"register\": \"r1\", \"changed_when\": \"r1.changed == 'a'\", \"notify\": \"h2\"}]}], \"post_tasks\": [{\"command\": {\"cmd\": \"x\"}, \"register\": \"r3\", \"changed_when\": \"inventory_hostname == 'a'\"}, {\"vars\": {}, \"command\": {\"cmd\": \"x\"}, \"register\": \"r1\"}], \"handlers\": [{\"setup\": null, \"register\": \"r2\", \"name\": \"h0\", \"listen\": \"t\"}, {\"command\": {\"cmd\": \"x\"}, \"name\": \"h1\"}, {\"odd\": null, \"name\": \"h2\"}]}]") ≡ verdict (refused (record { code = 1; line = 6; host = Some (codes "a") }))
unfolding reading
random_001319 = refl

random_001322 : found (codes "{\"g\": {\"hosts\": [\"b\", \"a\"]}, \"all\": {\"hosts\": [\"c\"], \"vars\": {\"inv\": [1, 2]}}, \"_meta\": {\"hostvars\": {\"a\": {\"opq\": 1.5, \"inv\": [\"x\"]}, \"b\": {\"k\": {\"z\": \"{{ q }}\"}}}}}") (codes "[{\"hosts\": \"g\", \"handlers\": [{\"loop\": [], \"command\": \"x\", \"failed_when\": false, \"changed_when\": false, \"ignore_errors\": true, \"name\": \"h0\"}], \"tasks\": [{\"loop\": \"{{ groups.all }}\", \"debug\": {\"msg\": \"{{ item.hostname }}\"}, \"ignore_errors\": true, \"notify\": \"h0\"}], \"strategy\": \"free\", \"force_handlers\": true, \"gather_facts\": true, \"vars\": {\"v1\": \"{{ hostvars['a'].r.rc }}\"}}]") ≡ verdict (refused (record { code = 4; line = 3; host = Some (codes "b") }))
unfolding reading
random_001322 = refl

random_001332 : found (codes "{\"g\": {\"hosts\": [\"b\", \"a\"]}, \"all\": {\"hosts\": [\"c\"], \"vars\": {\"inv\": [1, 2]}}, \"_meta\": {\"hostvars\": {\"a\": {\"opq\": 1.5, \"inv\": [\"x\"]}, \"b\": {\"k\": {\"z\": \"{{ q }}\"}}}}}") (codes "[{\"hosts\": \"a\", \"tasks\": [{\"block\": []}], \"strategy\": \"free\", \"gather_facts\": true}]") ≡ verdict (accepted 1)
unfolding reading
random_001332 = refl

random_001334 : found (codes "{\"g\": {\"hosts\": [\"b\", \"a\"]}, \"all\": {\"hosts\": [\"c\"], \"vars\": {\"inv\": [1, 2]}}, \"_meta\": {\"hostvars\": {\"a\": {\"opq\": 1.5, \"inv\": [\"x\"]}, \"b\": {\"k\": {\"z\": \"{{ q }}\"}}}}}") (codes "[{\"hosts\": \"a\", \"pre_tasks\": [{\"loop\": \"{{ r.stdout_lines }}\", \"set_fact\": {\"s\": \"{{ (ansible_hostname.msg < 3) and (r.rc is failed) }}\"}, \"register\": \"s\"}, {\"meta\": \"flush_handlers\"}, {\"set_fact\": {\"s\": [\"{{ ansible_play_batch.os_family | default(1) }}\"]}, \"when\": \"inv.stat.isdir < 3\"}, {\"block\": [{\"loop\": \"{{ groups.all }}\", \"assert\": {\"that\": \"(hostvars['b'].opq.os_family is failed) or (groups['g'][0] in ansible_play_batch)\"}, \"register\": \"s\", \"ignore_errors\": true}, {\"loop\": \"{{ groups.all }}\", \"setup\": null, \"when\": [\"hostvars['a'].r.rc is defined\", \"s is defined and s is not failed\"]}], \"rescue\": []}], \"tasks\": [{\"block\": [{\"debug\": {\"msg\": {\"k\": 1}}, \"when\": [\"r is defined and r is succeeded\", \"'a' in ansible_play_batch\"], \"ignore_errors\": false}]}, {\"stat\": {\"path\": \"p\"}, \"when\": \"((s.stat.isdir is not defined) or (item.os_family is defined)) and (hostvars['a'].r.rc < 3)\"}, {\"assert\": {\"that\": \"hostvars['b'].y is failed\"}, \"register\": \"s\"}, {\"block\": []}], \"serial\": [1, 2]}, {\"hosts\": \"all\", \"tasks\": [{\"stat\": {\"path\": \"p\"}, \"register\": \"s\", \"failed_when\": \"s.changed\", \"changed_when\": \"s is changed\", \"until\": \"s.changed\", \"retries\": 1, \"vars\": {\"v1\": [1, 2]}}, {\"debug\": {\"msg\": {\"k\": \"{{ hostvars[groups['g'][0]].y.stat.isdir }}\"}}, \"when\": \"(groups.g == 1) or ((opq.k is changed) or (opq.msg is changed))\"}, {\"assert\": {\"that\": \"'a' in inventory_hostname\"}, \"when\": [\"r is defined and r is succeeded\"], \"register\": \"r\"}, {\"block\": [{\"assert\": {\"that\": \"'a' in ansible_play_batch\"}}, {\"block\": [], \"rescue\": [{\"loop\": \"{{ r.results }}\", \"ping\": null, \"when\": [\"y is defined\"]}]}], \"rescue\": [{\"set_fact\": {\"y\": {\"k\": {\"k\": 1}}}}, {\"fail\": {\"msg\": \"m\"}, \"when\": [\"s is defined and s is not failed\"], \"register\": \"r\"}], \"when\": \"'a' in ansible_play_batch\", \"ignore_errors\": false}]}]") ≡ verdict (refused (record { code = 1; line = 2; host = Some (codes "a") }))
unfolding reading
random_001334 = refl

random_001342 : found (codes "{\"g\": {\"hosts\": [\"b\", \"a\"]}, \"all\": {\"hosts\": [\"c\"], \"vars\": {\"inv\": [1, 2]}}, \"_meta\": {\"hostvars\": {\"a\": {\"opq\": 1.5, \"inv\": [\"x\"]}, \"b\": {\"k\": {\"z\": \"{{ q }}\"}}}}}") (codes "[{\"hosts\": \"g\", \"handlers\": [{\"assert\": {\"that\": \"hostvars['b'].y == 1\"}, \"when\": [\"item in ansible_play_batch\", \"'b' in ansible_play_batch\"], \"ignore_errors\": true, \"vars\": {\"v2\": {\"k\": [{\"k\": \"{{ ansible_hostname.changed }}\"}]}}, \"name\": \"h0\"}, {\"command\": {\"cmd\": \"{{ inv.hostname }}\"}, \"name\": \"h1\"}], \"tasks\": [{\"block\": [], \"rescue\": [{\"command\": {\"cmd\": \"x{{ hostvars[inventory_hostname].r.stdout_lines }}\"}, \"notify\": \"h1\"}]}], \"strategy\": \"free\", \"gather_facts\": true}]") ≡ verdict (refused (record { code = 1; line = 5; host = Some (codes "b") }))
unfolding reading
random_001342 = refl

random_001345 : found_with (codes "[{\"name\": \"probe\", \"params\": {\"n\": {\"kind\": \"int\", \"required\": false}, \"l\": {\"kind\": {\"list\": \"text\", \"max\": 3}, \"required\": false}}, \"ok\": {\"changed\": {\"kind\": \"bool\", \"always\": true}, \"v\": {\"kind\": \"int\", \"always\": false}, \"rows\": {\"kind\": {\"list\": \"text\", \"max\": 2}, \"always\": true}, \"deep\": {\"kind\": {\"rec\": {\"a\": {\"kind\": \"text\", \"always\": true}, \"b\": {\"kind\": \"bool\", \"always\": false}}}, \"always\": false}}, \"failure\": {\"changed\": {\"kind\": \"bool\", \"always\": true}, \"msg\": {\"kind\": \"text\", \"always\": true}, \"v\": {\"kind\": \"text\", \"always\": false}, \"why\": {\"kind\": \"int\", \"always\": true}}}, {\"name\": \"odd\", \"params\": {}, \"ok\": {\"changed\": {\"kind\": \"bool\", \"always\": true}, \"msg\": {\"kind\": \"int\", \"always\": false}}, \"failure\": {\"changed\": {\"kind\": \"bool\", \"always\": true}, \"msg\": {\"kind\": \"text\", \"always\": true}}}]") (codes "{\"all\": {\"hosts\": [\"a\"], \"vars\": {\"s1\": {\"f\": [\"no\", \"no\"], \"g\": null}, \"op\": 1.5}}, \"g2\": {\"hosts\": [\"a\"], \"vars\": {\"s1\": []}}, \"_meta\": {\"hostvars\": {\"a\": {\"i1\": true, \"op\": 1.5}}}}") (codes "[{\"hosts\": \"all\", \"tasks\": [{\"loop\": \"{{ groups['all'] }}\", \"ping\": null, \"when\": \"item in ansible_play_batch\"}, {\"probe\": {}, \"register\": \"r1\", \"until\": \"r1 is failed\", \"retries\": 3, \"ignore_errors\": true, \"notify\": \"t\"}], \"handlers\": [{\"command\": {\"cmd\": \"x {{ s1 }}\"}, \"register\": \"r1\", \"ignore_errors\": true, \"name\": \"h0\", \"listen\": \"t\"}, {\"vars\": {\"v3\": \"x{{ r2.changed }}\"}, \"fail\": null, \"ignore_errors\": true, \"name\": \"h1\"}]}]") ≡ verdict (refused (record { code = 4; line = 4; host = Some (codes "a") }))
unfolding reading
random_001345 = refl

random_001356 : found (codes "{\"g\": {\"hosts\": [\"b\", \"a\"]}, \"all\": {\"hosts\": [\"c\"], \"vars\": {\"inv\": [1, 2]}}, \"_meta\": {\"hostvars\": {\"a\": {\"opq\": 1.5, \"inv\": [\"x\"]}, \"b\": {\"k\": {\"z\": \"{{ q }}\"}}}}}") (codes "[{\"hosts\": \"all\", \"tasks\": [{\"assert\": {\"that\": \"(r.rc is succeeded) or (group_names.stdout is not defined)\"}, \"when\": [\"hostvars['a'].r.rc is defined\", \"s is defined and s is not failed\"], \"register\": \"s\"}, {\"block\": [{\"ping\": null, \"register\": \"r\", \"ignore_errors\": true}, {\"block\": [{\"loop\": [1, 2], \"command\": {\"cmd\": \"{{ (hostvars['b'].y is failed) or (item is skipped) }}\"}, \"vars\": {\"v2\": \"{{ 1 }}\"}}, {\"set_fact\": {\"y\": [\"x{{ hostvars['a'].inv }}\"]}}], \"always\": [{\"setup\": null, \"when\": [\"r is not skipped\"], \"register\": \"s\", \"ignore_errors\": false}]}], \"always\": [{\"block\": [{\"set_fact\": {\"y\": \"{{ inventory_hostname.results }}\"}, \"when\": [\"not (r is undefined or r is failed)\", \"hostvars['a'].r.rc is defined\"]}, {\"stat\": {\"path\": \"p\"}, \"when\": [\"r is defined and r is succeeded\"], \"register\": \"r\", \"ignore_errors\": true}], \"when\": [\"v2.k == 1\", \"hostvars[groups['g'][0]].y.hostname is defined\"]}]}, {\"loop\": [\"a\", \"b\"], \"debug\": {\"msg\": true}}], \"post_tasks\": [{\"stat\": {\"path\": \"p\"}, \"until\": \"zz.changed\", \"retries\": 1}], \"strategy\": \"free\", \"force_handlers\": true}]") ≡ verdict (refused (record { code = 1; line = 2; host = Some (codes "c") }))
unfolding reading
random_001356 = refl

random_001358 : found (codes "{\"g\": {\"hosts\": [\"b\", \"a\"]}, \"all\": {\"hosts\": [\"c\"], \"vars\": {\"inv\": [1, 2]}}, \"_meta\": {\"hostvars\": {\"a\": {\"opq\": 1.5, \"inv\": [\"x\"]}, \"b\": {\"k\": {\"z\": \"{{ q }}\"}}}}}") (codes "[{\"hosts\": \"all\", \"tasks\": [{\"stat\": {\"path\": \"p\"}, \"register\": \"r\"}], \"vars\": {\"v1\": [null]}}]") ≡ verdict (accepted 3)
unfolding reading
random_001358 = refl

random_001360 : found (codes "{\"g\": {\"hosts\": [\"b\", \"a\"]}, \"all\": {\"hosts\": [\"c\"], \"vars\": {\"inv\": [1, 2]}}, \"_meta\": {\"hostvars\": {\"a\": {\"opq\": 1.5, \"inv\": [\"x\"]}, \"b\": {\"k\": {\"z\": \"{{ q }}\"}}}}}") (codes "[{\"hosts\": \"all\", \"handlers\": [{\"setup\": null, \"when\": \"(not (hostvars[inventory_hostname].r.hostname is not defined)) or ((hostvars[item].inv) or (hostvars[inventory_hostname].inv is not skipped))\", \"failed_when\": true, \"name\": \"h0\"}, {\"setup\": null, \"when\": [\"r is defined and r is succeeded\"], \"name\": \"h1\"}], \"tasks\": [{\"ping\": null, \"when\": \"v1.stdout_lines is succeeded\", \"register\": \"s\", \"changed_when\": false}, {\"debug\": {\"msg\": {\"k\": [\"{{ hostvars['b'].y | length }}\"]}}, \"when\": [\"'a' in ansible_play_batch\", \"r is defined\"], \"register\": \"r\", \"changed_when\": \"r is changed\"}, {\"loop\": \"{{ ansible_play_batch }}\", \"setup\": null, \"when\": [\"y is defined\"], \"register\": \"r\", \"notify\": \"h1\"}, {\"set_fact\": {\"s\": \"{{ groups.g }}\"}, \"register\": \"r\", \"changed_when\": false, \"ignore_errors\": false, \"notify\": \"h1\"}]}, {\"hosts\": \"all\", \"pre_tasks\": [{\"set_fact\": {\"s\": \"x{{ hostvars[item].inv | length }}\"}, \"register\": \"r\"}], \"tasks\": [{\"block\": [{\"stat\": {\"path\": \"p\"}, \"when\": [\"'b' in ansible_play_batch\"], \"until\": \"zz.changed\", \"retries\": 1, \"ignore_errors\": true}, {\"command\": {\"cmd\": \"{{ hostvars[item].inv }}\"}, \"failed_when\": true}]}, {\"setup\": null, \"when\": [\"inventory_hostname is succeeded\", \"inventory_hostname in ansible_play_batch\"], \"register\": \"s\", \"ignore_errors\": true}, {\"loop\": \"{{ r.stdout_lines }}\", \"set_fact\": {\"y\": {\"k\": \"{{ r.results }}\"}}}, {\"set_fact\": {\"y\": \"{{ opq }}\"}, \"register\": \"r\"}]}]") ≡ verdict (refused (record { code = 1; line = 2; host = Some (codes "c") }))
unfolding reading
random_001360 = refl

random_001362 : found (codes "{\"g\": {\"hosts\": [\"b\", \"a\"]}, \"all\": {\"hosts\": [\"c\"], \"vars\": {\"inv\": [1, 2]}}, \"_meta\": {\"hostvars\": {\"a\": {\"opq\": 1.5, \"inv\": [\"x\"]}, \"b\": {\"k\": {\"z\": \"{{ q }}\"}}}}}") (codes "[{\"hosts\": \"all\", \"tasks\": [{\"fail\": null, \"when\": \"r.rc is changed\"}], \"serial\": [1, 2], \"gather_facts\": true}]") ≡ verdict (refused (record { code = 1; line = 3; host = Some (codes "c") }))
unfolding reading
random_001362 = refl

random_001386 : found (codes "{\"g\": {\"hosts\": [\"b\", \"a\"]}, \"all\": {\"hosts\": [\"c\"], \"vars\": {\"inv\": [1, 2]}}, \"_meta\": {\"hostvars\": {\"a\": {\"opq\": 1.5, \"inv\": [\"x\"]}, \"b\": {\"k\": {\"z\": \"{{ q }}\"}}}}}") (codes "[{\"hosts\": \"all\", \"handlers\": [{\"setup\": null, \"when\": \"inventory_hostname is not defined\", \"register\": \"r\", \"name\": \"h0\"}], \"tasks\": [{\"block\": [], \"rescue\": [{\"set_fact\": {\"s\": [{\"k\": 1}]}, \"register\": \"r\", \"notify\": \"h0\"}, {\"ping\": null, \"when\": [\"r is not skipped\"], \"register\": \"r\", \"changed_when\": true, \"until\": true, \"notify\": \"h0\", \"vars\": {\"v2\": [1, 2]}}]}, {\"setup\": null, \"when\": [\"r is defined\"], \"until\": \"zz is succeeded\", \"retries\": 1, \"notify\": \"h0\"}, {\"loop\": [\"a\", \"b\"], \"setup\": null, \"when\": [\"hostvars['b'].y is defined\"], \"failed_when\": true}], \"post_tasks\": [{\"set_fact\": {\"s\": \"{{ 'b' in ansible_play_batch }}\"}, \"register\": \"r\", \"ignore_errors\": true, \"notify\": \"h0\"}], \"serial\": [1, 2]}, {\"hosts\": \"all\", \"handlers\": [{\"debug\": {\"msg\": \"{{ y.rc is failed }}\"}, \"when\": \"s.os_family < 3\", \"register\": \"r\", \"name\": \"h0\"}, {\"debug\": {\"msg\": \"{{ s.stdout_lines | length }}\"}, \"when\": [\"r.rc is defined\"], \"register\": \"s\", \"ignore_errors\": false, \"name\": \"h1\"}], \"tasks\": [{\"stat\": {\"path\": \"p\"}, \"register\": \"s\", \"until\": true, \"retries\": 1}, {\"loop\": \"{{ groups['g'] }}\", \"debug\": {\"msg\": \"{{ ('a' in item) and (inventory_hostname is skipped) }}\"}}, {\"fail\": null, \"changed_when\": false}]}]") ≡ verdict (refused (record { code = 1; line = 5; host = Some (codes "c") }))
unfolding reading
random_001386 = refl

random_001390 : found (codes "{\"g\": {\"hosts\": [\"b\", \"a\"]}, \"all\": {\"hosts\": [\"c\"], \"vars\": {\"inv\": [1, 2]}}, \"_meta\": {\"hostvars\": {\"a\": {\"opq\": 1.5, \"inv\": [\"x\"]}, \"b\": {\"k\": {\"z\": \"{{ q }}\"}}}}}") (codes "[{\"hosts\": \"all\", \"tasks\": [{\"block\": [], \"always\": [], \"when\": \"(groups['g'][0] in ansible_play_batch) or ((hostvars['b'].y == 'a') and ('a' in r.changed))\"}, {\"block\": [{\"set_fact\": {\"s\": \"{{ inventory_hostname in ansible_play_batch }}\"}, \"when\": \"item.k is changed\", \"register\": \"s\"}]}, {\"command\": \"x\", \"when\": \"opq.hostname < 3\", \"register\": \"r\"}]}]") ≡ verdict (refused (record { code = 1; line = 4; host = Some (codes "c") }))
unfolding reading
random_001390 = refl

random_001392 : found (codes "{\"g\": {\"hosts\": [\"b\", \"a\"]}, \"all\": {\"hosts\": [\"c\"], \"vars\": {\"inv\": [1, 2]}}, \"_meta\": {\"hostvars\": {\"a\": {\"opq\": 1.5, \"inv\": [\"x\"]}, \"b\": {\"k\": {\"z\": \"{{ q }}\"}}}}}") (codes "[{\"hosts\": \"a\", \"tasks\": [{\"block\": [], \"always\": [{\"fail\": null, \"when\": \"group_names.os_family is changed\", \"register\": \"s\"}], \"when\": \"groups['g'][0] in ansible_play_batch\"}, {\"command\": \"x\", \"when\": [\"not ('a' in ansible_play_batch)\", \"'a' in inventory_hostname.k\"], \"until\": \"zz.changed\"}], \"force_handlers\": true}]") ≡ verdict (refused (record { code = 4; line = 3; host = Some (codes "a") }))
unfolding reading
random_001392 = refl

random_001398 : found (codes "{\"g\": {\"hosts\": [\"b\", \"a\"]}, \"all\": {\"hosts\": [\"c\"], \"vars\": {\"inv\": [1, 2]}}, \"_meta\": {\"hostvars\": {\"a\": {\"opq\": 1.5, \"inv\": [\"x\"]}, \"b\": {\"k\": {\"z\": \"{{ q }}\"}}}}}") (codes "[{\"hosts\": \"g\", \"handlers\": [{\"loop\": \"{{ ansible_play_batch }}\", \"set_fact\": {\"s\": \"a\"}, \"ignore_errors\": true, \"name\": \"h0\"}], \"pre_tasks\": [{\"loop\": [], \"stat\": {\"path\": \"p\"}, \"when\": \"r is defined\", \"register\": \"r\", \"notify\": \"h0\"}, {\"block\": []}, {\"block\": [{\"set_fact\": {\"s\": \"{{ 1 }}\"}, \"when\": [\"hostvars['b'].y is defined\"], \"register\": \"s\"}], \"rescue\": [{\"stat\": {\"path\": \"p\"}, \"register\": \"r\"}], \"when\": [\"not (inventory_hostname is changed)\", \"groups['g'][0] in ansible_play_batch\"], \"ignore_errors\": true}, {\"block\": [{\"block\": [{\"fail\": null, \"register\": \"r\"}], \"rescue\": [{\"fail\": null, \"when\": \"not ('a' in ansible_play_batch)\", \"register\": \"s\", \"notify\": \"h0\", \"vars\": {\"v2\": \"{{ groups.g | length }}\"}}]}, {\"debug\": {\"msg\": \"{{ 'a' }}\"}, \"when\": \"item in ansible_play_batch\", \"register\": \"s\"}], \"rescue\": [{\"block\": [{\"debug\": {\"msg\": 1}, \"register\": \"s\", \"notify\": \"h0\"}], \"always\": [{\"ping\": null, \"register\": \"s\", \"notify\": \"h0\"}]}], \"always\": [{\"set_fact\": {\"y\": \"{{ groups.g }}\"}, \"ignore_errors\": true, \"notify\": \"h0\", \"vars\": {\"v2\": {\"k\": 1}}}]}], \"tasks\": [{\"block\": [{\"block\": [{\"loop\": \"{{ groups['g'] }}\", \"set_fact\": {\"y\": {\"k\": 1}}, \"when\": \"item == 1\", \"register\": \"s\", \"notify\": \"h0\"}], \"rescue\": [{\"loop\": [1, 2], \"setup\": null, \"register\": \"s\"}, {\"set_fact\": {\"s\": \"{{ r.rc | default(r.failed) }}\"}, \"when\": [\"hostvars['a'].r.rc is defined\", \"hostvars['b'].y is defined\"], \"notify\": \"h0\"}], \"when\": \"r.os_family == 1\", \"ignore_errors\": false}], \"always\": []}, {\"command\": \"x\", \"register\": \"r\", \"notify\": \"h0\"}], \"force_handlers\": true}]") ≡ verdict (refused (record { code = 4; line = 5; host = Some (codes "b") }))
unfolding reading
random_001398 = refl

random_001401 : found_with (codes "[{\"name\": \"probe\", \"params\": {\"n\": {\"kind\": \"int\", \"required\": false}, \"l\": {\"kind\": {\"list\": \"text\", \"max\": 3}, \"required\": false}}, \"ok\": {\"changed\": {\"kind\": \"bool\", \"always\": true}, \"v\": {\"kind\": \"int\", \"always\": false}, \"rows\": {\"kind\": {\"list\": \"text\", \"max\": 2}, \"always\": true}, \"deep\": {\"kind\": {\"rec\": {\"a\": {\"kind\": \"text\", \"always\": true}, \"b\": {\"kind\": \"bool\", \"always\": false}}}, \"always\": false}}, \"failure\": {\"changed\": {\"kind\": \"bool\", \"always\": true}, \"msg\": {\"kind\": \"text\", \"always\": true}, \"v\": {\"kind\": \"text\", \"always\": false}, \"why\": {\"kind\": \"int\", \"always\": true}}}, {\"name\": \"odd\", \"params\": {}, \"ok\": {\"changed\": {\"kind\": \"bool\", \"always\": true}, \"msg\": {\"kind\": \"int\", \"always\": false}}, \"failure\": {\"changed\": {\"kind\": \"bool\", \"always\": true}, \"msg\": {\"kind\": \"text\", \"always\": true}}}]") (codes "{\"all\": {\"hosts\": [\"a\", \"b\", \"c\", \"d\"], \"vars\": {}}, \"_meta\": {\"hostvars\": {\"a\": {}, \"b\": {}, \"c\": {}, \"d\": {}}}}") (codes "[{\"hosts\": \"d\", \"tasks\": [{\"meta\": \"flush_handlers\"}], \"force_handlers\": true}, {\"hosts\": \"all\", \"vars\": {\"v1\": \"{{ [hostvars['b'].op, hostvars['b'].op] }}\", \"v3\": false}, \"gather_facts\": true, \"tasks\": [{\"vars\": {\"v2\": \"{{ r2.changed | default([]) }}\"}, \"probe\": {}, \"when\": \"inventory_hostname == 'c'\", \"register\": \"r2\", \"notify\": \"t\", \"changed_when\": true}], \"handlers\": [{\"debug\": {\"msg\": \"x\"}, \"register\": \"r3\", \"name\": \"h0\", \"listen\": \"t\"}, {\"vars\": {\"v1\": \"{{ [hostvars[groups['all'][0]].r2.deep, hostvars[groups['all'][0]].r2.deep] }}\", \"v3\": \"{{ [hostvars['c'].r1.changed, 1] }}\"}, \"command\": {\"cmd\": \"x\"}, \"register\": \"r2\", \"failed_when\": \"r2.changed | default(true) == true\", \"until\": \"inventory_hostname == 'a'\", \"retries\": 3, \"name\": \"h1\"}]}]") ≡ verdict (accepted 24)
unfolding reading
random_001401 = refl

random_001415 : found_with (codes "[{\"name\": \"probe\", \"params\": {\"n\": {\"kind\": \"int\", \"required\": false}, \"l\": {\"kind\": {\"list\": \"text\", \"max\": 3}, \"required\": false}}, \"ok\": {\"changed\": {\"kind\": \"bool\", \"always\": true}, \"v\": {\"kind\": \"int\", \"always\": false}, \"rows\": {\"kind\": {\"list\": \"text\", \"max\": 2}, \"always\": true}, \"deep\": {\"kind\": {\"rec\": {\"a\": {\"kind\": \"text\", \"always\": true}, \"b\": {\"kind\": \"bool\", \"always\": false}}}, \"always\": false}}, \"failure\": {\"changed\": {\"kind\": \"bool\", \"always\": true}, \"msg\": {\"kind\": \"text\", \"always\": true}, \"v\": {\"kind\": \"text\", \"always\": false}, \"why\": {\"kind\": \"int\", \"always\": true}}}, {\"name\": \"odd\", \"params\": {}, \"ok\": {\"changed\": {\"kind\": \"bool\", \"always\": true}, \"msg\": {\"kind\": \"int\", \"always\": false}}, \"failure\": {\"changed\": {\"kind\": \"bool\", \"always\": true}, \"msg\": {\"kind\": \"text\", \"always\": true}}}]") (codes "{\"all\": {\"hosts\": [\"a\", \"b\", \"c\", \"d\"], \"vars\": {\"i2\": [\"b\", false], \"s1\": \"no\"}}, \"g1\": {\"hosts\": [\"a\", \"d\"], \"vars\": {}}, \"_meta\": {\"hostvars\": {\"a\": {}, \"b\": {\"s1\": false}, \"c\": {\"op\": 1.5}, \"d\": {\"i1\": [null], \"op\": 1.5}}}}") (codes "[{\"hosts\": \"a\", \"vars\": {\"v1\": {\"f\": 2, \"g\": \"\"}, \"v3\": \"{{ s3 | default([]) }}\"}, \"pre_tasks\": [{\"set_fact\": {\"s2\": 1}, \"when\": [\"hostvars['b'].r3.failed | default(false)\", \"r2 is defined\", \"r2 is not skipped\"], \"register\": \"r2\"}, {\"debug\": {\"msg\": \"x\"}}, {\"meta\": \"flush_handlers\"}, {\"vars\": {}, \"debug\": {\"msg\": \"x\"}, \"register\": \"r1\"}], \"tasks\": [{\"loop\": \"{{ hostvars['d'].i1 }}\", \"stat\": {\"path\": \"/\"}, \"register\": \"r1\"}, {\"set_fact\": {\"s1\": \"{{ hostvars['a'].r3.changed }}\"}, \"when\": [\"hostvars['a'].r3 is defined\", \"hostvars['a'].r3 is succeeded\"]}]}]") ≡ verdict (accepted 1)
unfolding reading
random_001415 = refl

random_001416 : found (codes "{\"g\": {\"hosts\": [\"b\", \"a\"]}, \"all\": {\"hosts\": [\"c\"], \"vars\": {\"inv\": [1, 2]}}, \"_meta\": {\"hostvars\": {\"a\": {\"opq\": 1.5, \"inv\": [\"x\"]}, \"b\": {\"k\": {\"z\": \"{{ q }}\"}}}}}") (codes "[{\"hosts\": \"all\", \"handlers\": [{\"command\": \"x\", \"register\": \"s\", \"failed_when\": \"s.changed\", \"until\": false, \"name\": \"h0\"}, {\"command\": \"x\", \"when\": [\"'a' in ansible_play_batch\"], \"register\": \"r\", \"failed_when\": true, \"name\": \"h1\"}], \"tasks\": [{\"block\": [{\"setup\": null, \"until\": \"zz is succeeded\", \"retries\": 2, \"notify\": \"h0\"}, {\"set_fact\": {\"y\": \"x{{ 1 }}\"}, \"notify\": \"h0\", \"vars\": {\"v2\": \"{{ group_names.results | default('d') }}\"}}], \"always\": []}, {\"set_fact\": {\"y\": \"{{ y }}\"}, \"failed_when\": \"zz is failed\"}, {\"block\": [{\"loop\": \"{{ inv }}\", \"ping\": null, \"failed_when\": \"zz is failed\", \"notify\": \"h1\"}, {\"block\": [], \"rescue\": [{\"command\": {\"cmd\": \"x{{ hostvars[item].inv }}\"}, \"when\": [\"r is not skipped\"], \"register\": \"r\", \"until\": false, \"retries\": 2, \"notify\": \"h1\"}, {\"ping\": null, \"register\": \"s\", \"until\": false, \"retries\": 2, \"ignore_errors\": true, \"notify\": \"h1\"}]}], \"always\": [{\"ping\": null, \"when\": [\"hostvars['a'].r.rc is defined\", \"s is defined and s is not failed\"], \"register\": \"s\", \"notify\": \"h0\"}], \"when\": \"'b' in ansible_play_batch\"}], \"vars\": {\"v1\": \"{{ not (group_names.rc is failed) }}\"}}]") ≡ verdict (refused (record { code = 1; line = 3; host = Some (codes "c") }))
unfolding reading
random_001416 = refl

random_001436 : found (codes "{\"g\": {\"hosts\": [\"b\", \"a\"]}, \"all\": {\"hosts\": [\"c\"], \"vars\": {\"inv\": [1, 2]}}, \"_meta\": {\"hostvars\": {\"a\": {\"opq\": 1.5, \"inv\": [\"x\"]}, \"b\": {\"k\": {\"z\": \"{{ q }}\"}}}}}") (codes "[{\"hosts\": \"b,a\", \"tasks\": [{\"set_fact\": {\"s\": \"{{ ansible_facts.stat.isdir is failed }}\"}, \"when\": \"not (ansible_facts.rc is failed)\"}], \"force_handlers\": true, \"gather_facts\": true}]") ≡ verdict (refused (record { code = 3; line = 3; host = Some (codes "b") }))
unfolding reading
random_001436 = refl

random_001438 : found (codes "{\"g\": {\"hosts\": [\"b\", \"a\"]}, \"all\": {\"hosts\": [\"c\"], \"vars\": {\"inv\": [1, 2]}}, \"_meta\": {\"hostvars\": {\"a\": {\"opq\": 1.5, \"inv\": [\"x\"]}, \"b\": {\"k\": {\"z\": \"{{ q }}\"}}}}}") (codes "[{\"hosts\": \"all\", \"handlers\": [{\"fail\": null, \"when\": \"y.k is succeeded\", \"name\": \"h0\"}, {\"loop\": \"{{ groups['g'] }}\", \"command\": {\"cmd\": \"{{ (s.stdout_lines is skipped) or (ansible_facts.hostname is not defined) }}\"}, \"when\": [\"(group_names is not skipped) or ((ansible_failed_result.stdout_lines == 1) or (r.changed is succeeded))\", \"item is succeeded\"], \"ignore_errors\": true, \"name\": \"h1\"}], \"pre_tasks\": [{\"loop\": \"{{ r.results }}\", \"command\": \"x\", \"failed_when\": \"zz is failed\", \"changed_when\": true}, {\"fail\": {\"msg\": \"m\"}, \"when\": \"(inventory_hostname in ansible_play_batch) and (item.msg is changed)\", \"notify\": \"h1\"}], \"tasks\": [{\"set_fact\": {\"y\": \"{{ ansible_failed_result.k | length }}\"}, \"notify\": \"h1\"}, {\"setup\": null, \"when\": \"(v2.hostname == 1) or (r.results is skipped)\"}, {\"loop\": \"{{ r.stdout_lines }}\", \"stat\": {\"path\": \"p\"}}], \"post_tasks\": [{\"block\": [], \"always\": [{\"command\": \"x\", \"register\": \"r\", \"failed_when\": false, \"notify\": \"h0\"}], \"when\": \"hostvars[item].inv is not skipped\"}, {\"debug\": {\"msg\": \"{{ hostvars[item].inv }}\"}, \"register\": \"r\"}], \"strategy\": \"free\", \"vars\": {\"v1\": \"x{{ inv.msg | default([]) }}\"}}]") ≡ verdict (refused (record { code = 1; line = 2; host = Some (codes "c") }))
unfolding reading
random_001438 = refl

random_001442 : found (codes "{\"g\": {\"hosts\": [\"b\", \"a\"]}, \"all\": {\"hosts\": [\"c\"], \"vars\": {\"inv\": [1, 2]}}, \"_meta\": {\"hostvars\": {\"a\": {\"opq\": 1.5, \"inv\": [\"x\"]}, \"b\": {\"k\": {\"z\": \"{{ q }}\"}}}}}") (codes "[{\"hosts\": \"all\", \"handlers\": [{\"loop\": \"{{ inv }}\", \"stat\": {\"path\": \"p\"}, \"register\": \"r\", \"failed_when\": \"r is failed\", \"name\": \"h0\"}], \"tasks\": [{\"set_fact\": {\"y\": \"x{{ ansible_failed_result.k }}\"}, \"when\": \"((inv.hostname == 1) or (s.changed is changed)) or (hostvars[item].inv)\", \"failed_when\": true, \"notify\": \"h0\"}, {\"stat\": {\"path\": \"p\"}, \"changed_when\": \"zz is changed\", \"ignore_errors\": true}, {\"set_fact\": {\"y\": [1, 2]}, \"register\": \"s\"}, {\"block\": [{\"loop\": \"{{ r.stdout_lines }}\", \"set_fact\": {\"y\": \"{{ inventory_hostname.k | default(1) }}\"}, \"notify\": \"h0\"}], \"rescue\": [{\"fail\": {\"msg\": \"m\"}, \"when\": [\"hostvars['a'].r.rc is defined\"], \"register\": \"s\", \"notify\": \"h0\"}, {\"block\": [{\"set_fact\": {\"s\": \"{{ hostvars[item].inv }}\"}, \"register\": \"s\", \"changed_when\": true, \"notify\": \"h0\", \"vars\": {\"v2\": {\"k\": {\"k\": {\"k\": [1, 2]}}}}}]}]}]}, {\"hosts\": \"a\", \"handlers\": [{\"fail\": null, \"name\": \"h0\"}], \"tasks\": [{\"block\": [], \"always\": [{\"set_fact\": {\"y\": {\"k\": \"{{ y.rc }}\"}}, \"register\": \"r\", \"changed_when\": \"r is changed\", \"ignore_errors\": true, \"notify\": \"h0\", \"vars\": {\"v2\": null}}]}], \"strategy\": \"free\", \"serial\": \"50%\"}]") ≡ verdict (refused (record { code = 4; line = 2; host = Some (codes "c") }))
unfolding reading
random_001442 = refl

random_001449 : found_with (codes "[{\"name\": \"probe\", \"params\": {\"n\": {\"kind\": \"int\", \"required\": false}, \"l\": {\"kind\": {\"list\": \"text\", \"max\": 3}, \"required\": false}}, \"ok\": {\"changed\": {\"kind\": \"bool\", \"always\": true}, \"v\": {\"kind\": \"int\", \"always\": false}, \"rows\": {\"kind\": {\"list\": \"text\", \"max\": 2}, \"always\": true}, \"deep\": {\"kind\": {\"rec\": {\"a\": {\"kind\": \"text\", \"always\": true}, \"b\": {\"kind\": \"bool\", \"always\": false}}}, \"always\": false}}, \"failure\": {\"changed\": {\"kind\": \"bool\", \"always\": true}, \"msg\": {\"kind\": \"text\", \"always\": true}, \"v\": {\"kind\": \"text\", \"always\": false}, \"why\": {\"kind\": \"int\", \"always\": true}}}, {\"name\": \"odd\", \"params\": {}, \"ok\": {\"changed\": {\"kind\": \"bool\", \"always\": true}, \"msg\": {\"kind\": \"int\", \"always\": false}}, \"failure\": {\"changed\": {\"kind\": \"bool\", \"always\": true}, \"msg\": {\"kind\": \"text\", \"always\": true}}}]") (codes "{\"all\": {\"hosts\": [\"a\"], \"vars\": {\"s1\": [\"b\"]}}, \"g1\": {\"hosts\": [\"a\"], \"vars\": {\"op\": 1.5}}, \"g2\": {\"hosts\": [], \"vars\": {\"i2\": []}}, \"_meta\": {\"hostvars\": {\"a\": {\"i2\": [false], \"op\": 1.5}}}}") (codes "[{\"hosts\": \"all\", \"strategy\": \"free\", \"gather_facts\": true, \"tasks\": [{\"meta\": \"flush_handlers\"}, {\"set_fact\": {\"s1\": {\"f\": 1}}}, {\"ping\": null, \"register\": \"r1\"}], \"force_handlers\": true}]") ≡ verdict (accepted 2)
unfolding reading
random_001449 = refl

random_001456 : found (codes "{\"g\": {\"hosts\": [\"b\", \"a\"]}, \"all\": {\"hosts\": [\"c\"], \"vars\": {\"inv\": [1, 2]}}, \"_meta\": {\"hostvars\": {\"a\": {\"opq\": 1.5, \"inv\": [\"x\"]}, \"b\": {\"k\": {\"z\": \"{{ q }}\"}}}}}") (codes "[{\"hosts\": \"all\", \"tasks\": [{\"block\": [{\"loop\": \"{{ r.stdout_lines }}\", \"set_fact\": {\"y\": 1}, \"when\": [\"s is defined and s is not failed\"], \"vars\": {\"v2\": {\"k\": \"{{ v1.os_family | default(1) }}\"}}}, {\"loop\": \"{{ r.stdout_lines }}\", \"setup\": null}], \"rescue\": []}]}]") ≡ verdict (refused (record { code = 1; line = 3; host = Some (codes "c") }))
unfolding reading
random_001456 = refl

random_001458 : found (codes "{\"g\": {\"hosts\": [\"b\", \"a\"]}, \"all\": {\"hosts\": [\"c\"], \"vars\": {\"inv\": [1, 2]}}, \"_meta\": {\"hostvars\": {\"a\": {\"opq\": 1.5, \"inv\": [\"x\"]}, \"b\": {\"k\": {\"z\": \"{{ q }}\"}}}}}") (codes "[{\"hosts\": \"all\", \"handlers\": [{\"set_fact\": {\"y\": \"{{ v2.stdout_lines }}\"}, \"name\": \"h0\"}, {\"debug\": {\"msg\": \"{{ hostvars['b'].inv.rc | length }}\"}, \"register\": \"s\", \"ignore_errors\": false, \"name\": \"h1\"}], \"tasks\": [{\"block\": [], \"always\": [{\"fail\": {\"msg\": \"m\"}, \"when\": [\"r is not skipped\"], \"notify\": \"h0\"}]}, {\"set_fact\": {\"s\": \"{{ inventory_hostname }}\"}}, {\"debug\": {\"msg\": null}, \"register\": \"s\", \"notify\": \"h0\"}], \"post_tasks\": [{\"command\": {\"cmd\": \"x{{ v2.stdout_lines }}\"}, \"when\": \"('a' in ansible_play_batch) or ((opq) and (hostvars[inventory_hostname].inv is undefined))\", \"changed_when\": false}, {\"stat\": {\"path\": \"p\"}, \"when\": [\"'b' in ansible_play_batch\"], \"register\": \"r\", \"notify\": \"h1\"}, {\"block\": [{\"block\": [{\"setup\": null, \"when\": [\"r.rc is defined\", \"s is defined and s is not failed\"], \"until\": true}]}], \"rescue\": [], \"always\": [{\"ping\": null, \"when\": \"'a' in r.rc\", \"ignore_errors\": true, \"notify\": \"h1\"}]}], \"serial\": 1}]") ≡ verdict (refused (record { code = 1; line = 3; host = Some (codes "c") }))
unfolding reading
random_001458 = refl

random_001462 : found (codes "{\"g\": {\"hosts\": [\"b\", \"a\"]}, \"all\": {\"hosts\": [\"c\"], \"vars\": {\"inv\": [1, 2]}}, \"_meta\": {\"hostvars\": {\"a\": {\"opq\": 1.5, \"inv\": [\"x\"]}, \"b\": {\"k\": {\"z\": \"{{ q }}\"}}}}}") (codes "[{\"hosts\": \"all\", \"tasks\": [{\"block\": [{\"block\": [], \"rescue\": [{\"setup\": null, \"when\": [\"not (r is undefined or r is failed)\"], \"register\": \"r\"}]}], \"rescue\": [{\"ping\": null, \"register\": \"r\"}], \"ignore_errors\": false}, {\"block\": [{\"block\": [{\"fail\": null, \"when\": \"hostvars[inventory_hostname].inv\", \"register\": \"r\"}]}], \"rescue\": [], \"always\": []}, {\"command\": \"x\", \"when\": [\"hostvars['b'].y is defined\"], \"changed_when\": false}, {\"stat\": {\"path\": \"p\"}, \"when\": [\"y is defined\"], \"until\": \"zz.changed\", \"retries\": 2}]}]") ≡ verdict (refused (record { code = 4; line = 8; host = Some (codes "c") }))
unfolding reading
random_001462 = refl

random_001465 : found_with (codes "[{\"name\": \"probe\", \"params\": {\"n\": {\"kind\": \"int\", \"required\": false}, \"l\": {\"kind\": {\"list\": \"text\", \"max\": 3}, \"required\": false}}, \"ok\": {\"changed\": {\"kind\": \"bool\", \"always\": true}, \"v\": {\"kind\": \"int\", \"always\": false}, \"rows\": {\"kind\": {\"list\": \"text\", \"max\": 2}, \"always\": true}, \"deep\": {\"kind\": {\"rec\": {\"a\": {\"kind\": \"text\", \"always\": true}, \"b\": {\"kind\": \"bool\", \"always\": false}}}, \"always\": false}}, \"failure\": {\"changed\": {\"kind\": \"bool\", \"always\": true}, \"msg\": {\"kind\": \"text\", \"always\": true}, \"v\": {\"kind\": \"text\", \"always\": false}, \"why\": {\"kind\": \"int\", \"always\": true}}}, {\"name\": \"odd\", \"params\": {}, \"ok\": {\"changed\": {\"kind\": \"bool\", \"always\": true}, \"msg\": {\"kind\": \"int\", \"always\": false}}, \"failure\": {\"changed\": {\"kind\": \"bool\", \"always\": true}, \"msg\": {\"kind\": \"text\", \"always\": true}}}]") (codes "{\"all\": {\"hosts\": [\"a\", \"b\"], \"vars\": {\"op\": 1.5}}, \"g1\": {\"hosts\": [\"b\"], \"vars\": {}}, \"_meta\": {\"hostvars\": {\"a\": {\"i2\": 0}, \"b\": {\"i1\": \"b\"}}}}") (codes "[{\"hosts\": \"a\", \"tasks\": [{\"command\": {\"cmd\": \"x\"}, \"register\": \"r3\", \"changed_when\": \"r3.stderr == 1\"}, {\"command\": {\"cmd\": \"x\"}, \"register\": \"r2\"}, {\"probe\": {}, \"register\": \"r3\"}, {\"assert\": {\"that\": [\"r2 is not changed\"]}, \"when\": \"r2 is changed\", \"register\": \"r3\"}], \"post_tasks\": [{\"ping\": null, \"failed_when\": false}]}]") ≡ verdict (accepted 4)
unfolding reading
random_001465 = refl

random_001467 : found_with (codes "[{\"name\": \"probe\", \"params\": {\"n\": {\"kind\": \"int\", \"required\": false}, \"l\": {\"kind\": {\"list\": \"text\", \"max\": 3}, \"required\": false}}, \"ok\": {\"changed\": {\"kind\": \"bool\", \"always\": true}, \"v\": {\"kind\": \"int\", \"always\": false}, \"rows\": {\"kind\": {\"list\": \"text\", \"max\": 2}, \"always\": true}, \"deep\": {\"kind\": {\"rec\": {\"a\": {\"kind\": \"text\", \"always\": true}, \"b\": {\"kind\": \"bool\", \"always\": false}}}, \"always\": false}}, \"failure\": {\"changed\": {\"kind\": \"bool\", \"always\": true}, \"msg\": {\"kind\": \"text\", \"always\": true}, \"v\": {\"kind\": \"text\", \"always\": false}, \"why\": {\"kind\": \"int\", \"always\": true}}}, {\"name\": \"odd\", \"params\": {}, \"ok\": {\"changed\": {\"kind\": \"bool\", \"always\": true}, \"msg\": {\"kind\": \"int\", \"always\": false}}, \"failure\": {\"changed\": {\"kind\": \"bool\", \"always\": true}, \"msg\": {\"kind\": \"text\", \"always\": true}}}]") (codes "{\"all\": {\"hosts\": [\"a\", \"b\", \"c\"], \"vars\": {\"i2\": \"a\"}}, \"g1\": {\"hosts\": [\"b\", \"c\"], \"vars\": {\"i1\": {\"f\": true, \"g\": \"b\"}, \"i2\": -1}}, \"g2\": {\"hosts\": [\"c\"], \"vars\": {}}, \"_meta\": {\"hostvars\": {\"a\": {}, \"b\": {\"s1\": 3}, \"c\": {}}}}") (codes "[{\"hosts\": \"all\", \"serial\": 1, \"gather_facts\": true, \"tasks\": [{\"debug\": {\"msg\": \"x\"}}]}, {\"hosts\": \"all\", \"tasks\": [{\"setup\": null, \"register\": \"r3\"}, {\"loop\": \"{{ r3.stdout_lines | default([]) }}\", \"probe\": {}, \"register\": \"r1\", \"failed_when\": \"r1 is failed\", \"notify\": \"t\"}], \"handlers\": [{\"vars\": {\"v2\": \"{{ groups.all }}\", \"v3\": \"{{ r1.why }}\"}, \"setup\": null, \"register\": \"r3\", \"name\": \"h0\", \"listen\": \"t\"}, {\"loop\": \"{{ r1.results | default([]) }}\", \"set_fact\": {\"s1\": [true]}, \"name\": \"h1\"}], \"force_handlers\": true}, {\"hosts\": \"g2\", \"tasks\": [{\"setup\": null, \"register\": \"r1\"}, {\"ignore_errors\": true, \"block\": [{\"set_fact\": {\"s1\": 1}, \"register\": \"r2\"}], \"rescue\": [{\"vars\": {\"v2\": \"{{ r1.failed }}\"}, \"debug\": {\"msg\": \"{{ groups.all }}\"}, \"when\": \"groups.all is defined\"}], \"always\": [{\"command\": {\"cmd\": \"x\"}}, {\"probe\": {}, \"register\": \"r1\"}, {\"ping\": null, \"changed_when\": true}]}]}]") ≡ verdict (accepted 13)
unfolding reading
random_001467 = refl

random_001480 : found (codes "{\"g\": {\"hosts\": [\"b\", \"a\"]}, \"all\": {\"hosts\": [\"c\"], \"vars\": {\"inv\": [1, 2]}}, \"_meta\": {\"hostvars\": {\"a\": {\"opq\": 1.5, \"inv\": [\"x\"]}, \"b\": {\"k\": {\"z\": \"{{ q }}\"}}}}}") (codes "[{\"hosts\": \"all\", \"tasks\": [{\"set_fact\": {\"s\": \"{{ r.results }}\"}, \"failed_when\": false}, {\"command\": \"x\", \"register\": \"r\", \"vars\": {\"v2\": \"{{ hostvars[item].inv }}\"}}, {\"set_fact\": {\"s\": \"{{ ansible_play_batch | default(1) }}\"}}, {\"ping\": null, \"register\": \"r\"}], \"vars\": {\"v1\": \"{{ r | join(',') }}\"}}, {\"hosts\": \"b,a\", \"tasks\": [{\"loop\": \"{{ inv }}\", \"stat\": {\"path\": \"p\"}, \"when\": [\"groups['g'][0] in ansible_play_batch\", \"y is changed\"], \"register\": \"r\", \"changed_when\": false}, {\"ping\": null, \"when\": \"hostvars['b'].y is not defined\", \"register\": \"s\", \"until\": true, \"retries\": 1, \"ignore_errors\": true}], \"serial\": 1}]") ≡ verdict (refused (record { code = 1; line = 2; host = Some (codes "c") }))
unfolding reading
random_001480 = refl

random_001486 : found (codes "{\"g\": {\"hosts\": [\"b\", \"a\"]}, \"all\": {\"hosts\": [\"c\"], \"vars\": {\"inv\": [1, 2]}}, \"_meta\": {\"hostvars\": {\"a\": {\"opq\": 1.5, \"inv\": [\"x\"]}, \"b\": {\"k\": {\"z\": \"{{ q }}\"}}}}}") (codes "[{\"hosts\": \"b,a\", \"handlers\": [{\"fail\": null, \"register\": \"s\", \"failed_when\": \"s is failed\", \"name\": \"h0\"}, {\"setup\": null, \"when\": [\"r is defined\"], \"register\": \"r\", \"name\": \"h1\"}], \"pre_tasks\": [{\"set_fact\": {\"s\": {\"k\": 1}}, \"register\": \"s\", \"notify\": \"h0\"}], \"tasks\": [{\"block\": [{\"block\": [{\"set_fact\": {\"y\": true}, \"when\": [\"('b' in ansible_play_batch) or ((y.changed is skipped) or (group_names.os_family is undefined))\", \"((hostvars['b'].y is skipped) and (hostvars['a'].s)) and ('a' in ansible_play_batch)\"], \"notify\": \"h0\"}], \"always\": [{\"loop\": [], \"ping\": null, \"register\": \"r\"}]}]}, {\"block\": [{\"set_fact\": {\"y\": \"{{ inv.changed }}\"}}, {\"block\": [{\"fail\": null, \"when\": [\"(not ('a' in item.changed)) and ((hostvars['a'].inv is failed) or (r.results is defined))\", \"hostvars[item].inv is failed\"], \"notify\": \"h1\"}, {\"setup\": null, \"when\": [\"y is defined\"], \"register\": \"r\", \"until\": true, \"retries\": 2, \"notify\": \"h0\"}], \"always\": []}], \"rescue\": [], \"ignore_errors\": false}, {\"block\": [], \"always\": []}, {\"block\": [{\"block\": [{\"loop\": \"{{ r.stdout_lines }}\", \"stat\": {\"path\": \"p\"}, \"register\": \"r\", \"ignore_errors\": false}, {\"command\": {\"cmd\": \"x{{ r.changed | join(',') }}\"}, \"when\": [\"((r.rc is failed) or (hostvars['a'].inv is not skipped)) or ('a' in r.k)\", \"(hostvars['a'].inv is succeeded) and ('a' in r.rc)\"]}], \"always\": [], \"ignore_errors\": false}, {\"debug\": {\"msg\": \"x{{ y.changed }}\"}, \"failed_when\": \"zz is failed\"}]}], \"post_tasks\": [{\"loop\": \"{{ r.results }}\", \"ping\": null, \"register\": \"r\", \"ignore_errors\": true, \"notify\": \"h1\"}, {\"setup\": null, \"when\": [\"'a' in ansible_play_batch\"], \"register\": \"s\"}], \"serial\": [1, 2], \"gather_facts\": true}]") ≡ verdict (refused (record { code = 1; line = 6; host = Some (codes "b") }))
unfolding reading
random_001486 = refl

random_001493 : found_with (codes "[{\"name\": \"probe\", \"params\": {\"n\": {\"kind\": \"int\", \"required\": false}, \"l\": {\"kind\": {\"list\": \"text\", \"max\": 3}, \"required\": false}}, \"ok\": {\"changed\": {\"kind\": \"bool\", \"always\": true}, \"v\": {\"kind\": \"int\", \"always\": false}, \"rows\": {\"kind\": {\"list\": \"text\", \"max\": 2}, \"always\": true}, \"deep\": {\"kind\": {\"rec\": {\"a\": {\"kind\": \"text\", \"always\": true}, \"b\": {\"kind\": \"bool\", \"always\": false}}}, \"always\": false}}, \"failure\": {\"changed\": {\"kind\": \"bool\", \"always\": true}, \"msg\": {\"kind\": \"text\", \"always\": true}, \"v\": {\"kind\": \"text\", \"always\": false}, \"why\": {\"kind\": \"int\", \"always\": true}}}, {\"name\": \"odd\", \"params\": {}, \"ok\": {\"changed\": {\"kind\": \"bool\", \"always\": true}, \"msg\": {\"kind\": \"int\", \"always\": false}}, \"failure\": {\"changed\": {\"kind\": \"bool\", \"always\": true}, \"msg\": {\"kind\": \"text\", \"always\": true}}}]") (codes "{\"all\": {\"hosts\": [\"a\", \"b\"], \"vars\": {\"i1\": [\"no\"], \"s1\": {\"f\": {\"f\": 1}, \"g\": \"\"}, \"op\": 1.5}}, \"g1\": {\"hosts\": [\"a\", \"b\"], \"vars\": {\"i1\": [], \"s1\": [true, \"b\"], \"op\": 1.5}}, \"_meta\": {\"hostvars\": {\"a\": {\"i1\": 3, \"op\": 1.5}, \"b\": {}}}}") (codes "[{\"hosts\": \"all\", \"serial\": 1, \"pre_tasks\": [{\"loop\": [\"no\"], \"set_fact\": {\"s2\": \"t\"}, \"register\": \"r3\"}, {\"set_fact\": {\"s1\": 1}, \"register\": \"r3\"}, {\"loop\": \"{{ ansible_play_batch }}\", \"debug\": {\"msg\": \"{{ r2.skipped }}\"}, \"when\": [\"inventory_hostname == 'a'\", \"item in ansible_play_batch\", \"r2 is defined\", \"r2 is succeeded\"], \"failed_when\": \"inventory_hostname == 'a'\"}], \"tasks\": [{\"debug\": {\"msg\": \"{{ r2.failed | default([]) }}\"}}], \"handlers\": [{\"set_fact\": {\"s2\": {\"f\": 1}}, \"register\": \"r3\", \"name\": \"h0\", \"listen\": \"t\", \"notify\": \"h2\"}, {\"loop\": \"{{ r2.results | default([]) }}\", \"ping\": null, \"register\": \"r3\", \"name\": \"h1\"}, {\"debug\": {\"msg\": \"x\"}, \"name\": \"h2\"}]}]") ≡ verdict (accepted 0)
unfolding reading
random_001493 = refl

random_001509 : found_with (codes "[{\"name\": \"probe\", \"params\": {\"n\": {\"kind\": \"int\", \"required\": false}, \"l\": {\"kind\": {\"list\": \"text\", \"max\": 3}, \"required\": false}}, \"ok\": {\"changed\": {\"kind\": \"bool\", \"always\": true}, \"v\": {\"kind\": \"int\", \"always\": false}, \"rows\": {\"kind\": {\"list\": \"text\", \"max\": 2}, \"always\": true}, \"deep\": {\"kind\": {\"rec\": {\"a\": {\"kind\": \"text\", \"always\": true}, \"b\": {\"kind\": \"bool\", \"always\": false}}}, \"always\": false}}, \"failure\": {\"changed\": {\"kind\": \"bool\", \"always\": true}, \"msg\": {\"kind\": \"text\", \"always\": true}, \"v\": {\"kind\": \"text\", \"always\": false}, \"why\": {\"kind\": \"int\", \"always\": true}}}, {\"name\": \"odd\", \"params\": {}, \"ok\": {\"changed\": {\"kind\": \"bool\", \"always\": true}, \"msg\": {\"kind\": \"int\", \"always\": false}}, \"failure\": {\"changed\": {\"kind\": \"bool\", \"always\": true}, \"msg\": {\"kind\": \"text\", \"always\": true}}}]") (codes "{\"all\": {\"hosts\": [\"a\", \"b\", \"c\"], \"vars\": {\"op\": 1.5}}, \"g2\": {\"hosts\": [\"a\", \"c\"], \"vars\": {\"i1\": \"x\", \"i2\": 3}}, \"_meta\": {\"hostvars\": {\"a\": {\"i1\": [\"a\"]}, \"b\": {\"i1\": true}, \"c\": {\"i1\": [], \"s1\": 3, \"op\": 1.5}}}}") (codes "[{\"hosts\": \"a\", \"tasks\": [{\"probe\": {}, \"register\": \"r3\", \"notify\": \"h0\"}, {\"command\": {\"cmd\": \"x\"}, \"register\": \"r1\", \"failed_when\": \"r1.changed == 1\"}, {\"setup\": null, \"register\": \"r1\", \"notify\": \"h0\", \"changed_when\": true}], \"handlers\": [{\"set_fact\": {\"s3\": 1, \"s1\": []}, \"register\": \"r1\", \"ignore_errors\": true, \"name\": \"h0\", \"listen\": \"t\"}, {\"loop\": \"{{ groups['all'] }}\", \"vars\": {}, \"assert\": {\"that\": [\"item in ansible_play_batch\"]}, \"when\": \"item in ansible_play_batch\", \"register\": \"r1\", \"failed_when\": true, \"name\": \"h1\", \"notify\": \"h2\"}, {\"probe\": {}, \"when\": \"not (('g1' in group_names) and (r2.changed is defined))\", \"register\": \"r3\", \"changed_when\": \"r3 is changed\", \"failed_when\": \"r3.why | default(true) == true\", \"name\": \"h2\"}]}]") ≡ verdict (refused (record { code = 4; line = 7; host = Some (codes "a") }))
unfolding reading
random_001509 = refl

random_001515 : found_with (codes "[{\"name\": \"probe\", \"params\": {\"n\": {\"kind\": \"int\", \"required\": false}, \"l\": {\"kind\": {\"list\": \"text\", \"max\": 3}, \"required\": false}}, \"ok\": {\"changed\": {\"kind\": \"bool\", \"always\": true}, \"v\": {\"kind\": \"int\", \"always\": false}, \"rows\": {\"kind\": {\"list\": \"text\", \"max\": 2}, \"always\": true}, \"deep\": {\"kind\": {\"rec\": {\"a\": {\"kind\": \"text\", \"always\": true}, \"b\": {\"kind\": \"bool\", \"always\": false}}}, \"always\": false}}, \"failure\": {\"changed\": {\"kind\": \"bool\", \"always\": true}, \"msg\": {\"kind\": \"text\", \"always\": true}, \"v\": {\"kind\": \"text\", \"always\": false}, \"why\": {\"kind\": \"int\", \"always\": true}}}, {\"name\": \"odd\", \"params\": {}, \"ok\": {\"changed\": {\"kind\": \"bool\", \"always\": true}, \"msg\": {\"kind\": \"int\", \"always\": false}}, \"failure\": {\"changed\": {\"kind\": \"bool\", \"always\": true}, \"msg\": {\"kind\": \"text\", \"always\": true}}}]") (codes "{\"all\": {\"hosts\": [\"a\", \"b\", \"c\"], \"vars\": {}}, \"g1\": {\"hosts\": [\"a\", \"b\"], \"vars\": {}}, \"_meta\": {\"hostvars\": {\"a\": {}, \"b\": {\"i2\": {\"f\": 2}}, \"c\": {\"i2\": 1, \"s1\": []}}}}") (codes "[{\"hosts\": \"all\", \"serial\": 1, \"tasks\": [{\"probe\": {}, \"changed_when\": false, \"until\": \"inventory_hostname == 'a'\"}, {\"ping\": null, \"register\": \"r3\"}, {\"vars\": {\"v3\": \"{{ r1.changed | default('z') }}\"}, \"command\": {\"cmd\": \"x\"}, \"register\": \"r3\", \"ignore_errors\": true}, {\"debug\": {\"msg\": \"x\"}}]}]") ≡ verdict (accepted 18)
unfolding reading
random_001515 = refl

random_001523 : found_with (codes "[{\"name\": \"probe\", \"params\": {\"n\": {\"kind\": \"int\", \"required\": false}, \"l\": {\"kind\": {\"list\": \"text\", \"max\": 3}, \"required\": false}}, \"ok\": {\"changed\": {\"kind\": \"bool\", \"always\": true}, \"v\": {\"kind\": \"int\", \"always\": false}, \"rows\": {\"kind\": {\"list\": \"text\", \"max\": 2}, \"always\": true}, \"deep\": {\"kind\": {\"rec\": {\"a\": {\"kind\": \"text\", \"always\": true}, \"b\": {\"kind\": \"bool\", \"always\": false}}}, \"always\": false}}, \"failure\": {\"changed\": {\"kind\": \"bool\", \"always\": true}, \"msg\": {\"kind\": \"text\", \"always\": true}, \"v\": {\"kind\": \"text\", \"always\": false}, \"why\": {\"kind\": \"int\", \"always\": true}}}, {\"name\": \"odd\", \"params\": {}, \"ok\": {\"changed\": {\"kind\": \"bool\", \"always\": true}, \"msg\": {\"kind\": \"int\", \"always\": false}}, \"failure\": {\"changed\": {\"kind\": \"bool\", \"always\": true}, \"msg\": {\"kind\": \"text\", \"always\": true}}}]") (codes "{\"all\": {\"hosts\": [\"a\", \"b\"], \"vars\": {\"i2\": \"a\"}}, \"g1\": {\"hosts\": [], \"vars\": {}, \"children\": [\"g2\"]}, \"g2\": {\"hosts\": [\"a\"], \"vars\": {\"op\": 1.5}}, \"_meta\": {\"hostvars\": {\"a\": {\"i1\": 0}, \"b\": {}}}}") (codes "[{\"hosts\": [\"b\", \"all\"], \"vars\": {\"v1\": {\"f\": -1, \"g\": \"\"}, \"v2\": \"{{ r2.failed }}\", \"v3\": \"x{{ r1 }}\"}, \"strategy\": \"free\", \"serial\": [1, \"100%\"], \"tasks\": [{\"command\": {\"cmd\": \"x {{ r1 }}\"}, \"when\": \"r1 is defined\", \"register\": \"r3\", \"ignore_errors\": true}, {\"vars\": {\"v1\": \"{{ hostvars['b'].i1 }}\"}, \"ping\": null}, {\"block\": [{\"probe\": null, \"register\": \"r1\"}, {\"vars\": {\"v3\": \"{{ ansible_play_batch | length }}\"}, \"command\": {\"cmd\": \"x\"}}]}, {\"meta\": \"flush_handlers\"}], \"force_handlers\": true}]") ≡ verdict (accepted 8)
unfolding reading
random_001523 = refl

random_001530 : found (codes "{\"g\": {\"hosts\": [\"b\", \"a\"]}, \"all\": {\"hosts\": [\"c\"], \"vars\": {\"inv\": [1, 2]}}, \"_meta\": {\"hostvars\": {\"a\": {\"opq\": 1.5, \"inv\": [\"x\"]}, \"b\": {\"k\": {\"z\": \"{{ q }}\"}}}}}") (codes "[{\"hosts\": \"a\", \"handlers\": [{\"command\": {\"cmd\": \"{{ r.changed }}\"}, \"name\": \"h0\"}], \"tasks\": [{\"meta\": \"flush_handlers\"}], \"serial\": [1, 2], \"gather_facts\": true}]") ≡ verdict (refused (record { code = 1; line = 4; host = Some (codes "a") }))
unfolding reading
random_001530 = refl

random_001539 : found_with (codes "[{\"name\": \"probe\", \"params\": {\"n\": {\"kind\": \"int\", \"required\": false}, \"l\": {\"kind\": {\"list\": \"text\", \"max\": 3}, \"required\": false}}, \"ok\": {\"changed\": {\"kind\": \"bool\", \"always\": true}, \"v\": {\"kind\": \"int\", \"always\": false}, \"rows\": {\"kind\": {\"list\": \"text\", \"max\": 2}, \"always\": true}, \"deep\": {\"kind\": {\"rec\": {\"a\": {\"kind\": \"text\", \"always\": true}, \"b\": {\"kind\": \"bool\", \"always\": false}}}, \"always\": false}}, \"failure\": {\"changed\": {\"kind\": \"bool\", \"always\": true}, \"msg\": {\"kind\": \"text\", \"always\": true}, \"v\": {\"kind\": \"text\", \"always\": false}, \"why\": {\"kind\": \"int\", \"always\": true}}}, {\"name\": \"odd\", \"params\": {}, \"ok\": {\"changed\": {\"kind\": \"bool\", \"always\": true}, \"msg\": {\"kind\": \"int\", \"always\": false}}, \"failure\": {\"changed\": {\"kind\": \"bool\", \"always\": true}, \"msg\": {\"kind\": \"text\", \"always\": true}}}]") (codes "{\"all\": {\"hosts\": [\"a\"], \"vars\": {\"s1\": \"no\"}}, \"g2\": {\"hosts\": [], \"vars\": {\"s1\": 1}}, \"_meta\": {\"hostvars\": {\"a\": {}}}}") (codes "[{\"hosts\": \"all\", \"tasks\": [{\"command\": \"x\"}, {\"assert\": {\"that\": true}, \"notify\": \"h2\"}, {\"setup\": null}, {\"block\": [{\"stat\": {\"path\": \"/\"}}, {\"command\": {\"cmd\": \"x\"}, \"register\": \"r3\"}, {\"vars\": {}, \"command\": \"x\", \"register\": \"r3\", \"notify\": \"t\"}], \"always\": [{\"vars\": {\"v1\": \"{{ r1 }}\"}, \"command\": {\"cmd\": \"x\"}, \"notify\": \"t\"}, {\"fail\": null}]}], \"handlers\": [{\"debug\": {\"msg\": \"{{ [groups.all, 1] }}\"}, \"when\": [\"inventory_hostname != 'a'\", \"groups.all is defined\"], \"name\": \"h0\", \"listen\": \"t\", \"notify\": \"h2\"}, {\"debug\": {\"msg\": \"{{ r2.failed | default(s1) }}\"}, \"register\": \"r2\", \"name\": \"h1\", \"notify\": \"h2\"}, {\"setup\": null, \"register\": \"r1\", \"changed_when\": \"r1.changed == 1\", \"name\": \"h2\", \"listen\": \"t\"}]}]") ≡ verdict (accepted 7)
unfolding reading
random_001539 = refl

random_001556 : found (codes "{\"g\": {\"hosts\": [\"b\", \"a\"]}, \"all\": {\"hosts\": [\"c\"], \"vars\": {\"inv\": [1, 2]}}, \"_meta\": {\"hostvars\": {\"a\": {\"opq\": 1.5, \"inv\": [\"x\"]}, \"b\": {\"k\": {\"z\": \"{{ q }}\"}}}}}") (codes "[{\"hosts\": \"b,a\", \"handlers\": [{\"debug\": {\"msg\": \"{{ v2.os_family }}\"}, \"ignore_errors\": true, \"name\": \"h0\"}], \"tasks\": [{\"debug\": {\"msg\": null}, \"when\": [\"r is defined and r is succeeded\", \"r.rc is defined\"], \"ignore_errors\": false, \"notify\": \"h0\"}, {\"command\": {\"cmd\": \"x{{ (r.results == 1) or (r.failed is defined) }}\"}, \"when\": [\"hostvars['b'].y is defined\", \"hostvars['a'].r.rc is defined\"]}, {\"ping\": null, \"when\": [\"not (r is undefined or r is failed)\"], \"vars\": {\"v1\": \"x{{ r.changed }}\"}}, {\"stat\": {\"path\": \"p\"}, \"register\": \"s\", \"ignore_errors\": false}], \"post_tasks\": [{\"stat\": {\"path\": \"p\"}, \"when\": [\"y is defined\"], \"register\": \"s\", \"changed_when\": true, \"notify\": \"h0\"}], \"force_handlers\": true, \"vars\": {\"v1\": \"{{ r.rc }}\"}}]") ≡ verdict (refused (record { code = 1; line = 3; host = Some (codes "b") }))
unfolding reading
random_001556 = refl

random_001563 : found_with (codes "[{\"name\": \"probe\", \"params\": {\"n\": {\"kind\": \"int\", \"required\": false}, \"l\": {\"kind\": {\"list\": \"text\", \"max\": 3}, \"required\": false}}, \"ok\": {\"changed\": {\"kind\": \"bool\", \"always\": true}, \"v\": {\"kind\": \"int\", \"always\": false}, \"rows\": {\"kind\": {\"list\": \"text\", \"max\": 2}, \"always\": true}, \"deep\": {\"kind\": {\"rec\": {\"a\": {\"kind\": \"text\", \"always\": true}, \"b\": {\"kind\": \"bool\", \"always\": false}}}, \"always\": false}}, \"failure\": {\"changed\": {\"kind\": \"bool\", \"always\": true}, \"msg\": {\"kind\": \"text\", \"always\": true}, \"v\": {\"kind\": \"text\", \"always\": false}, \"why\": {\"kind\": \"int\", \"always\": true}}}, {\"name\": \"odd\", \"params\": {}, \"ok\": {\"changed\": {\"kind\": \"bool\", \"always\": true}, \"msg\": {\"kind\": \"int\", \"always\": false}}, \"failure\": {\"changed\": {\"kind\": \"bool\", \"always\": true}, \"msg\": {\"kind\": \"text\", \"always\": true}}}]") (codes "{\"all\": {\"hosts\": [\"a\", \"b\", \"c\"], \"vars\": {\"i1\": 2}}, \"g1\": {\"hosts\": [\"a\", \"b\"], \"vars\": {\"i2\": \"no\"}}, \"g2\": {\"hosts\": [\"a\", \"b\", \"c\"], \"vars\": {}}, \"_meta\": {\"hostvars\": {\"a\": {}, \"b\": {\"op\": 1.5}, \"c\": {}}}}") (codes "[{\"hosts\": \"all\", \"serial\": [1, \"100%\"], \"pre_tasks\": [{\"block\": [{\"ping\": null, \"when\": \"r1.failed is defined\", \"register\": \"r1\", \"changed_when\": \"r1.failed is defined and r1.failed == 'a'\"}, {\"when\": \"not (ansible_play_batch is defined)\", \"block\": [{\"probe\": {}, \"register\": \"r2\"}]}, {\"vars\": {\"v2\": \"x{{ hostvars['a'].i2 }}\", \"v3\": \"{{ op | default(s1) }}\"}, \"command\": \"x\"}], \"rescue\": [{\"command\": {\"cmd\": \"x\"}, \"until\": true, \"retries\": 1}, {\"assert\": {\"that\": [\"hostvars[groups['all'][0]].s3 is not defined\"]}}], \"always\": [{\"set_fact\": {\"s2\": {\"f\": 1}}, \"register\": \"r2\"}, {\"loop\": [\"x\", [null, \"\"]], \"command\": {\"cmd\": \"x\"}}]}, {\"assert\": {\"that\": [\"('c' not in ansible_play_batch) and (not (r3 is defined and r3 is failed and r3.changed == 1))\"]}, \"register\": \"r1\", \"failed_when\": true}, {\"assert\": {\"that\": true}, \"register\": \"r2\"}], \"tasks\": [{\"probe\": null, \"register\": \"r1\"}], \"force_handlers\": true}]") ≡ verdict (accepted 24)
unfolding reading
random_001563 = refl

random_001566 : found (codes "{\"g\": {\"hosts\": [\"b\", \"a\"]}, \"all\": {\"hosts\": [\"c\"], \"vars\": {\"inv\": [1, 2]}}, \"_meta\": {\"hostvars\": {\"a\": {\"opq\": 1.5, \"inv\": [\"x\"]}, \"b\": {\"k\": {\"z\": \"{{ q }}\"}}}}}") (codes "[{\"hosts\": \"b,a\", \"tasks\": [{\"fail\": {\"msg\": \"m\"}, \"when\": \"ansible_hostname.stdout is not skipped\", \"register\": \"r\"}, {\"loop\": \"{{ ansible_play_batch }}\", \"command\": \"x\", \"when\": [\"r is not skipped\"]}, {\"block\": [], \"rescue\": [{\"set_fact\": {\"y\": \"{{ hostvars['b'].inv.msg | join(',') }}\"}, \"register\": \"s\"}, {\"loop\": [\"a\", \"b\"], \"stat\": {\"path\": \"p\"}}], \"always\": [{\"ping\": null, \"ignore_errors\": true}]}], \"force_handlers\": true}]") ≡ verdict (refused (record { code = 1; line = 2; host = Some (codes "b") }))
unfolding reading
random_001566 = refl

random_001569 : found_with (codes "[{\"name\": \"probe\", \"params\": {\"n\": {\"kind\": \"int\", \"required\": false}, \"l\": {\"kind\": {\"list\": \"text\", \"max\": 3}, \"required\": false}}, \"ok\": {\"changed\": {\"kind\": \"bool\", \"always\": true}, \"v\": {\"kind\": \"int\", \"always\": false}, \"rows\": {\"kind\": {\"list\": \"text\", \"max\": 2}, \"always\": true}, \"deep\": {\"kind\": {\"rec\": {\"a\": {\"kind\": \"text\", \"always\": true}, \"b\": {\"kind\": \"bool\", \"always\": false}}}, \"always\": false}}, \"failure\": {\"changed\": {\"kind\": \"bool\", \"always\": true}, \"msg\": {\"kind\": \"text\", \"always\": true}, \"v\": {\"kind\": \"text\", \"always\": false}, \"why\": {\"kind\": \"int\", \"always\": true}}}, {\"name\": \"odd\", \"params\": {}, \"ok\": {\"changed\": {\"kind\": \"bool\", \"always\": true}, \"msg\": {\"kind\": \"int\", \"always\": false}}, \"failure\": {\"changed\": {\"kind\": \"bool\", \"always\": true}, \"msg\": {\"kind\": \"text\", \"always\": true}}}]") (codes "{\"all\": {\"hosts\": [\"a\", \"b\", \"c\", \"d\"], \"vars\": {\"s1\": \"b\"}}, \"g1\": {\"hosts\": [\"a\", \"b\", \"c\"], \"vars\": {\"s1\": true, \"op\": 1.5}}, \"g2\": {\"hosts\": [\"a\", \"c\"], \"vars\": {\"i1\": \"x\", \"i2\": null}}, \"_meta\": {\"hostvars\": {\"a\": {}, \"b\": {\"s1\": false}, \"c\": {\"i2\": false}, \"d\": {}}}}") (codes "[{\"hosts\": \"all\", \"tasks\": [{\"stat\": {\"path\": \"/\"}, \"register\": \"r3\"}, {\"command\": {\"cmd\": \"x\"}, \"when\": \"inventory_hostname in ansible_play_batch\", \"register\": \"r2\", \"changed_when\": \"r2.rc | default(true) == true\"}, {\"set_fact\": {\"s1\": {\"f\": \"{{ r1.failed }}\", \"rc\": 1}, \"s2\": false}, \"when\": [\"r1 is defined\", \"r1 is not failed\"], \"register\": \"r1\", \"failed_when\": \"r1.changed is defined and r1.changed == 'a'\", \"ignore_errors\": true}, {\"ignore_errors\": true, \"block\": [{\"command\": {\"cmd\": \"x\"}, \"when\": \"(r2 is not succeeded) and ('c' in ansible_play_batch and hostvars['c'].s1 == 1)\", \"register\": \"r3\"}], \"always\": [{\"command\": {\"cmd\": \"x\"}, \"changed_when\": true}]}], \"handlers\": [{\"probe\": {}, \"when\": \"r3 is succeeded\", \"register\": \"r3\", \"name\": \"h0\", \"listen\": \"t\"}, {\"command\": {\"cmd\": \"x\"}, \"name\": \"h1\", \"notify\": \"h2\"}, {\"odd\": null, \"when\": \"r2 is not defined\", \"register\": \"r3\", \"name\": \"h2\"}]}]") ≡ verdict (refused (record { code = 4; line = 6; host = Some (codes "a") }))
unfolding reading
random_001569 = refl

random_001581 : found_with (codes "[{\"name\": \"probe\", \"params\": {\"n\": {\"kind\": \"int\", \"required\": false}, \"l\": {\"kind\": {\"list\": \"text\", \"max\": 3}, \"required\": false}}, \"ok\": {\"changed\": {\"kind\": \"bool\", \"always\": true}, \"v\": {\"kind\": \"int\", \"always\": false}, \"rows\": {\"kind\": {\"list\": \"text\", \"max\": 2}, \"always\": true}, \"deep\": {\"kind\": {\"rec\": {\"a\": {\"kind\": \"text\", \"always\": true}, \"b\": {\"kind\": \"bool\", \"always\": false}}}, \"always\": false}}, \"failure\": {\"changed\": {\"kind\": \"bool\", \"always\": true}, \"msg\": {\"kind\": \"text\", \"always\": true}, \"v\": {\"kind\": \"text\", \"always\": false}, \"why\": {\"kind\": \"int\", \"always\": true}}}, {\"name\": \"odd\", \"params\": {}, \"ok\": {\"changed\": {\"kind\": \"bool\", \"always\": true}, \"msg\": {\"kind\": \"int\", \"always\": false}}, \"failure\": {\"changed\": {\"kind\": \"bool\", \"always\": true}, \"msg\": {\"kind\": \"text\", \"always\": true}}}]") (codes "{\"all\": {\"hosts\": [\"a\", \"b\", \"c\"], \"vars\": {\"i1\": -1, \"s1\": \"x\"}}, \"g2\": {\"hosts\": [\"a\", \"b\"], \"vars\": {\"i1\": \"x\", \"s1\": 1}}, \"_meta\": {\"hostvars\": {\"a\": {\"s1\": \"a\"}, \"b\": {\"i1\": \"x\", \"i2\": \"\", \"s1\": \"x\"}, \"c\": {}}}}") (codes "[{\"hosts\": \"g2\", \"vars\": {\"v1\": {\"f\": \"a\"}}, \"strategy\": \"free\", \"serial\": [1, 2], \"gather_facts\": true, \"tasks\": [{\"debug\": {\"msg\": \"x\"}, \"register\": \"r1\"}, {\"fail\": {\"msg\": \"m\"}, \"when\": \"not ((group_names != 'x') or (r1 is skipped))\"}], \"force_handlers\": true}, {\"hosts\": \"all\", \"serial\": 2, \"gather_facts\": true, \"tasks\": [{\"debug\": {\"msg\": \"{{ hostvars['c'].s1 }}\"}, \"register\": \"r2\", \"failed_when\": false, \"ignore_errors\": false, \"notify\": \"h1\", \"changed_when\": true}], \"handlers\": [{\"vars\": {\"v1\": \"x{{ (r2.failed) == (hostvars['b'].r1.changed) }}\", \"v3\": \"{{ r3 }}\"}, \"debug\": {\"msg\": \"{{ s1 }}\"}, \"when\": \"inventory_hostname == 'a'\", \"register\": \"r1\", \"name\": \"h0\"}, {\"command\": {\"cmd\": \"x\"}, \"register\": \"r1\", \"name\": \"h1\", \"listen\": \"t\", \"notify\": \"h2\"}, {\"assert\": {\"that\": true}, \"when\": \"(inventory_hostname != 'c') and (r2.failed is defined)\", \"register\": \"r3\", \"ignore_errors\": true, \"name\": \"h2\"}]}]") ≡ verdict (accepted 8)
unfolding reading
random_001581 = refl

random_001586 : found (codes "{\"g\": {\"hosts\": [\"b\", \"a\"]}, \"all\": {\"hosts\": [\"c\"], \"vars\": {\"inv\": [1, 2]}}, \"_meta\": {\"hostvars\": {\"a\": {\"opq\": 1.5, \"inv\": [\"x\"]}, \"b\": {\"k\": {\"z\": \"{{ q }}\"}}}}}") (codes "[{\"hosts\": \"all\", \"tasks\": [{\"loop\": \"{{ groups['g'] }}\", \"fail\": null, \"register\": \"r\"}, {\"block\": [{\"block\": [{\"command\": \"x\", \"when\": \"'a' in s.changed\", \"register\": \"r\"}, {\"assert\": {\"that\": [\"(ansible_failed_result.stdout is changed) and ((ansible_hostname.results is not skipped) and (y.results is failed))\", \"r.results is not skipped\"]}, \"changed_when\": false}], \"rescue\": [{\"ping\": null, \"until\": \"zz.changed\", \"retries\": 1, \"ignore_errors\": true}], \"always\": [{\"command\": \"x\", \"register\": \"r\", \"vars\": {\"v1\": [1, 2]}}]}], \"rescue\": [{\"loop\": \"{{ inv }}\", \"set_fact\": {\"s\": \"{{ inv }}\"}, \"when\": [\"((r.rc == 'a') or (r.results is skipped)) and (inventory_hostname.stdout_lines is changed)\", \"hostvars['a'].r.rc is undefined\"], \"changed_when\": false, \"ignore_errors\": true, \"vars\": {\"v2\": null}}], \"always\": [{\"block\": [], \"rescue\": []}]}], \"strategy\": \"free\"}]") ≡ verdict (refused (record { code = 1; line = 5; host = Some (codes "c") }))
unfolding reading
random_001586 = refl

random_001608 : found (codes "{\"g\": {\"hosts\": [\"b\", \"a\"]}, \"all\": {\"hosts\": [\"c\"], \"vars\": {\"inv\": [1, 2]}}, \"_meta\": {\"hostvars\": {\"a\": {\"opq\": 1.5, \"inv\": [\"x\"]}, \"b\": {\"k\": {\"z\": \"{{ q }}\"}}}}}") (codes "[{\"hosts\": \"b,a\", \"handlers\": [{\"command\": \"x\", \"until\": \"zz.changed\", \"retries\": 2, \"name\": \"h0\"}], \"tasks\": [{\"setup\": null}, {\"setup\": null, \"when\": [\"r is defined\"], \"register\": \"s\", \"notify\": \"h0\"}, {\"block\": [{\"stat\": {\"path\": \"p\"}, \"register\": \"s\", \"changed_when\": \"s is changed\", \"notify\": \"h0\"}, {\"stat\": {\"path\": \"p\"}, \"when\": [\"hostvars[groups['g'][0]].y.stdout is changed\", \"hostvars[inventory_hostname].r.k is succeeded\"], \"register\": \"r\", \"ignore_errors\": true}]}, {\"fail\": {\"msg\": \"m\"}, \"register\": \"s\", \"ignore_errors\": true}], \"vars\": {\"v1\": \"{{ group_names }}\"}}]") ≡ verdict (refused (record { code = 2; line = 6; host = Some (codes "b") }))
unfolding reading
random_001608 = refl

random_001612 : found (codes "{\"g\": {\"hosts\": [\"b\", \"a\"]}, \"all\": {\"hosts\": [\"c\"], \"vars\": {\"inv\": [1, 2]}}, \"_meta\": {\"hostvars\": {\"a\": {\"opq\": 1.5, \"inv\": [\"x\"]}, \"b\": {\"k\": {\"z\": \"{{ q }}\"}}}}}") (codes "[{\"hosts\": \"a\", \"tasks\": [{\"block\": [], \"always\": []}, {\"block\": [], \"rescue\": [{\"block\": [], \"rescue\": [{\"fail\": null, \"register\": \"s\"}], \"always\": [{\"loop\": \"{{ r.results }}\", \"set_fact\": {\"s\": {\"k\": \"{{ ['a', 1] }}\"}}, \"when\": [\"r is defined and r is succeeded\", \"hostvars['a'].r.rc is defined\"], \"register\": \"r\"}], \"when\": \"opq.stdout_lines is skipped\"}, {\"ping\": null, \"register\": \"r\"}]}, {\"block\": [{\"command\": \"x\"}, {\"ping\": null}], \"rescue\": [{\"ping\": null, \"register\": \"s\"}, {\"set_fact\": {\"y\": \"{{ hostvars[inventory_hostname].s.os_family | default(inv) }}\"}, \"when\": [\"not (inventory_hostname.hostname is not defined)\", \"s.changed\"]}], \"when\": \"not (hostvars['a'].r.rc is not skipped)\"}, {\"set_fact\": {\"s\": \"x{{ inv.hostname }}\"}}], \"force_handlers\": true}]") ≡ verdict (refused (record { code = 2; line = 9; host = Some (codes "a") }))
unfolding reading
random_001612 = refl

random_001619 : found_with (codes "[{\"name\": \"probe\", \"params\": {\"n\": {\"kind\": \"int\", \"required\": false}, \"l\": {\"kind\": {\"list\": \"text\", \"max\": 3}, \"required\": false}}, \"ok\": {\"changed\": {\"kind\": \"bool\", \"always\": true}, \"v\": {\"kind\": \"int\", \"always\": false}, \"rows\": {\"kind\": {\"list\": \"text\", \"max\": 2}, \"always\": true}, \"deep\": {\"kind\": {\"rec\": {\"a\": {\"kind\": \"text\", \"always\": true}, \"b\": {\"kind\": \"bool\", \"always\": false}}}, \"always\": false}}, \"failure\": {\"changed\": {\"kind\": \"bool\", \"always\": true}, \"msg\": {\"kind\": \"text\", \"always\": true}, \"v\": {\"kind\": \"text\", \"always\": false}, \"why\": {\"kind\": \"int\", \"always\": true}}}, {\"name\": \"odd\", \"params\": {}, \"ok\": {\"changed\": {\"kind\": \"bool\", \"always\": true}, \"msg\": {\"kind\": \"int\", \"always\": false}}, \"failure\": {\"changed\": {\"kind\": \"bool\", \"always\": true}, \"msg\": {\"kind\": \"text\", \"always\": true}}}]") (codes "{\"all\": {\"hosts\": [\"a\"], \"vars\": {\"i1\": []}}, \"g1\": {\"hosts\": [\"a\"], \"vars\": {\"op\": 1.5}}, \"g2\": {\"hosts\": [], \"vars\": {}}, \"_meta\": {\"hostvars\": {\"a\": {\"s1\": 2}}}}") (codes "[{\"hosts\": [\"a\", \"all\"], \"serial\": [1, 2], \"tasks\": [{\"meta\": \"flush_handlers\"}, {\"set_fact\": {\"s2\": {\"f\": \"{{ r2 }}\", \"rc\": 1}}, \"ignore_errors\": true}, {\"loop\": [1, \"b\"], \"vars\": {\"v1\": \"{{ item.rc }}\", \"v3\": \"{{ op }}\"}, \"set_fact\": {\"s2\": [\"{{ r3.changed }}\"]}, \"when\": \"r3 is not skipped\", \"register\": \"r2\", \"failed_when\": \"inventory_hostname == 'a'\"}]}]") ≡ verdict (refused (record { code = 1; line = 3; host = Some (codes "a") }))
unfolding reading
random_001619 = refl

random_001623 : found_with (codes "[{\"name\": \"probe\", \"params\": {\"n\": {\"kind\": \"int\", \"required\": false}, \"l\": {\"kind\": {\"list\": \"text\", \"max\": 3}, \"required\": false}}, \"ok\": {\"changed\": {\"kind\": \"bool\", \"always\": true}, \"v\": {\"kind\": \"int\", \"always\": false}, \"rows\": {\"kind\": {\"list\": \"text\", \"max\": 2}, \"always\": true}, \"deep\": {\"kind\": {\"rec\": {\"a\": {\"kind\": \"text\", \"always\": true}, \"b\": {\"kind\": \"bool\", \"always\": false}}}, \"always\": false}}, \"failure\": {\"changed\": {\"kind\": \"bool\", \"always\": true}, \"msg\": {\"kind\": \"text\", \"always\": true}, \"v\": {\"kind\": \"text\", \"always\": false}, \"why\": {\"kind\": \"int\", \"always\": true}}}, {\"name\": \"odd\", \"params\": {}, \"ok\": {\"changed\": {\"kind\": \"bool\", \"always\": true}, \"msg\": {\"kind\": \"int\", \"always\": false}}, \"failure\": {\"changed\": {\"kind\": \"bool\", \"always\": true}, \"msg\": {\"kind\": \"text\", \"always\": true}}}]") (codes "{\"all\": {\"hosts\": [\"a\", \"b\"], \"vars\": {\"i1\": null}}, \"g2\": {\"hosts\": [], \"vars\": {\"i1\": null, \"i2\": [false, \"x\"]}}, \"_meta\": {\"hostvars\": {\"a\": {\"i2\": {\"g\": {\"f\": false, \"g\": -1}}, \"s1\": {\"f\": {\"f\": false}, \"g\": \"t\"}}, \"b\": {\"i2\": \"a\", \"op\": 1.5}}}}") (codes "[{\"hosts\": \"all\", \"tasks\": [{\"set_fact\": {\"s2\": \"{{ r1.changed | default('z') }}\"}, \"register\": \"r3\", \"notify\": \"t\"}, {\"block\": [{\"command\": \"x\", \"register\": \"r3\"}, {\"ping\": null}], \"always\": [{\"command\": {\"cmd\": \"x\"}, \"register\": \"r1\"}, {\"vars\": {\"v2\": \"{{ r3.stdout }}\", \"v3\": \"{{ [r2.failed, 1] }}\"}, \"fail\": null, \"register\": \"r3\"}]}, {\"debug\": {\"msg\": \"{{ (hostvars['b'].r3.msg) == (r2) }}\"}, \"ignore_errors\": true}], \"handlers\": [{\"vars\": {\"v1\": \"{{ (r2.changed) == (hostvars['a'].s1.f) }}\"}, \"probe\": {}, \"register\": \"r3\", \"until\": \"r3.failed | default(true) == true\", \"retries\": 1, \"name\": \"h0\", \"notify\": \"h1\", \"listen\": \"t\"}, {\"set_fact\": {\"s2\": {\"f\": \"{{ ansible_play_batch }}\", \"rc\": 1}}, \"changed_when\": \"inventory_hostname == 'a'\", \"name\": \"h1\"}]}]") ≡ verdict (accepted 10)
unfolding reading
random_001623 = refl

random_001628 : found (codes "{\"g\": {\"hosts\": [\"b\", \"a\"]}, \"all\": {\"hosts\": [\"c\"], \"vars\": {\"inv\": [1, 2]}}, \"_meta\": {\"hostvars\": {\"a\": {\"opq\": 1.5, \"inv\": [\"x\"]}, \"b\": {\"k\": {\"z\": \"{{ q }}\"}}}}}") (codes "[{\"hosts\": \"b,a\", \"handlers\": [{\"set_fact\": {\"y\": null}, \"when\": [\"r is not skipped\", \"r is defined and r is succeeded\"], \"ignore_errors\": true, \"name\": \"h0\"}], \"tasks\": [{\"set_fact\": {\"y\": \"{{ 'a' in r.changed }}\"}, \"when\": [\"r.rc is defined\", \"hostvars['b'].y is defined\"]}, {\"block\": [{\"set_fact\": {\"s\": \"{{ 1 }}\"}, \"register\": \"s\", \"notify\": \"h0\"}, {\"loop\": [1, 2], \"fail\": null, \"ignore_errors\": true, \"notify\": \"h0\"}], \"rescue\": [{\"set_fact\": {\"s\": \"{{ hostvars['a'].inv | default([]) }}\"}, \"register\": \"r\"}, {\"block\": [], \"always\": [], \"ignore_errors\": true}]}, {\"block\": [], \"rescue\": [{\"block\": [{\"setup\": null, \"when\": \"groups['g'][0] in ansible_play_batch\"}], \"rescue\": []}], \"always\": []}], \"strategy\": \"free\", \"gather_facts\": true, \"vars\": {\"v1\": \"{{ r.rc | length }}\"}}]") ≡ verdict (refused (record { code = 1; line = 12; host = Some (codes "b") }))
unfolding reading
random_001628 = refl

random_001629 : found_with (codes "[{\"name\": \"probe\", \"params\": {\"n\": {\"kind\": \"int\", \"required\": false}, \"l\": {\"kind\": {\"list\": \"text\", \"max\": 3}, \"required\": false}}, \"ok\": {\"changed\": {\"kind\": \"bool\", \"always\": true}, \"v\": {\"kind\": \"int\", \"always\": false}, \"rows\": {\"kind\": {\"list\": \"text\", \"max\": 2}, \"always\": true}, \"deep\": {\"kind\": {\"rec\": {\"a\": {\"kind\": \"text\", \"always\": true}, \"b\": {\"kind\": \"bool\", \"always\": false}}}, \"always\": false}}, \"failure\": {\"changed\": {\"kind\": \"bool\", \"always\": true}, \"msg\": {\"kind\": \"text\", \"always\": true}, \"v\": {\"kind\": \"text\", \"always\": false}, \"why\": {\"kind\": \"int\", \"always\": true}}}, {\"name\": \"odd\", \"params\": {}, \"ok\": {\"changed\": {\"kind\": \"bool\", \"always\": true}, \"msg\": {\"kind\": \"int\", \"always\": false}}, \"failure\": {\"changed\": {\"kind\": \"bool\", \"always\": true}, \"msg\": {\"kind\": \"text\", \"always\": true}}}]") (codes "{\"all\": {\"hosts\": [\"a\", \"b\", \"c\", \"d\"], \"vars\": {\"i2\": [\"\"]}}, \"g1\": {\"hosts\": [\"a\", \"d\"], \"vars\": {\"i2\": \"no\", \"op\": 1.5}}, \"g2\": {\"hosts\": [\"b\", \"c\", \"d\"], \"vars\": {\"i2\": [\"\"]}}, \"_meta\": {\"hostvars\": {\"a\": {\"i1\": \"a\", \"op\": 1.5}, \"b\": {\"i1\": true}, \"c\": {\"i1\": {\"f\": null}, \"s1\": -1}, \"d\": {\"i1\": {\"f\": \"x\"}}}}}") (codes "[{\"hosts\": [\"b\", \"all\"], \"serial\": [1, 2], \"gather_facts\": true, \"tasks\": [{\"meta\": \"flush_handlers\"}, {\"meta\": \"flush_handlers\"}, {\"debug\": {\"msg\": \"{{ inventory_hostname }}\"}, \"register\": \"r3\", \"changed_when\": true}], \"handlers\": [{\"debug\": {\"msg\": \"{{ 't' }}\"}, \"register\": \"r3\", \"changed_when\": \"r3 is failed\", \"name\": \"h0\", \"listen\": \"t\"}]}]") ≡ verdict (accepted 4)
unfolding reading
random_001629 = refl

random_001633 : found_with (codes "[{\"name\": \"probe\", \"params\": {\"n\": {\"kind\": \"int\", \"required\": false}, \"l\": {\"kind\": {\"list\": \"text\", \"max\": 3}, \"required\": false}}, \"ok\": {\"changed\": {\"kind\": \"bool\", \"always\": true}, \"v\": {\"kind\": \"int\", \"always\": false}, \"rows\": {\"kind\": {\"list\": \"text\", \"max\": 2}, \"always\": true}, \"deep\": {\"kind\": {\"rec\": {\"a\": {\"kind\": \"text\", \"always\": true}, \"b\": {\"kind\": \"bool\", \"always\": false}}}, \"always\": false}}, \"failure\": {\"changed\": {\"kind\": \"bool\", \"always\": true}, \"msg\": {\"kind\": \"text\", \"always\": true}, \"v\": {\"kind\": \"text\", \"always\": false}, \"why\": {\"kind\": \"int\", \"always\": true}}}, {\"name\": \"odd\", \"params\": {}, \"ok\": {\"changed\": {\"kind\": \"bool\", \"always\": true}, \"msg\": {\"kind\": \"int\", \"always\": false}}, \"failure\": {\"changed\": {\"kind\": \"bool\", \"always\": true}, \"msg\": {\"kind\": \"text\", \"always\": true}}}]") (codes "{\"all\": {\"hosts\": [\"a\", \"b\", \"c\", \"d\"], \"vars\": {\"i1\": [0], \"s1\": \"t\"}}, \"g1\": {\"hosts\": [\"d\"], \"vars\": {\"i2\": -1}, \"children\": [\"g2\"]}, \"g2\": {\"hosts\": [\"a\"], \"vars\": {\"i1\": {}, \"op\": 1.5}}, \"_meta\": {\"hostvars\": {\"a\": {\"i1\": []}, \"b\": {\"i2\": 1, \"op\": 1.5}, \"c\": {}, \"d\": {}}}}") (codes "[{\"hosts\": \"all\", \"vars\": {\"v1\": \"no\"}, \"tasks\": [{\"set_fact\": {\"s2\": \"t\"}, \"register\": \"r1\", \"notify\": \"h0\"}], \"handlers\": [{\"command\": \"x\", \"name\": \"h0\", \"listen\": \"t\"}]}]") ≡ verdict (accepted 4)
unfolding reading
random_001633 = refl

random_001644 : found (codes "{\"g\": {\"hosts\": [\"b\", \"a\"]}, \"all\": {\"hosts\": [\"c\"], \"vars\": {\"inv\": [1, 2]}}, \"_meta\": {\"hostvars\": {\"a\": {\"opq\": 1.5, \"inv\": [\"x\"]}, \"b\": {\"k\": {\"z\": \"{{ q }}\"}}}}}") (codes "[{\"hosts\": \"all\", \"tasks\": [{\"loop\": \"{{ r.results }}\", \"setup\": null, \"when\": [\"hostvars['b'].y is defined\"], \"register\": \"r\", \"failed_when\": \"r.changed\"}], \"post_tasks\": [{\"fail\": {\"msg\": \"m\"}, \"when\": [\"y is defined\"]}]}]") ≡ verdict (refused (record { code = 1; line = 2; host = Some (codes "c") }))
unfolding reading
random_001644 = refl

random_001647 : found_with (codes "[{\"name\": \"probe\", \"params\": {\"n\": {\"kind\": \"int\", \"required\": false}, \"l\": {\"kind\": {\"list\": \"text\", \"max\": 3}, \"required\": false}}, \"ok\": {\"changed\": {\"kind\": \"bool\", \"always\": true}, \"v\": {\"kind\": \"int\", \"always\": false}, \"rows\": {\"kind\": {\"list\": \"text\", \"max\": 2}, \"always\": true}, \"deep\": {\"kind\": {\"rec\": {\"a\": {\"kind\": \"text\", \"always\": true}, \"b\": {\"kind\": \"bool\", \"always\": false}}}, \"always\": false}}, \"failure\": {\"changed\": {\"kind\": \"bool\", \"always\": true}, \"msg\": {\"kind\": \"text\", \"always\": true}, \"v\": {\"kind\": \"text\", \"always\": false}, \"why\": {\"kind\": \"int\", \"always\": true}}}, {\"name\": \"odd\", \"params\": {}, \"ok\": {\"changed\": {\"kind\": \"bool\", \"always\": true}, \"msg\": {\"kind\": \"int\", \"always\": false}}, \"failure\": {\"changed\": {\"kind\": \"bool\", \"always\": true}, \"msg\": {\"kind\": \"text\", \"always\": true}}}]") (codes "{\"all\": {\"hosts\": [\"a\", \"b\", \"c\", \"d\"], \"vars\": {\"s1\": [-1, -1]}}, \"g1\": {\"hosts\": [\"a\", \"b\", \"c\", \"d\"], \"vars\": {}}, \"g2\": {\"hosts\": [\"a\", \"b\", \"c\", \"d\"], \"vars\": {\"op\": 1.5}}, \"_meta\": {\"hostvars\": {\"a\": {\"i2\": \"x\", \"op\": 1.5}, \"b\": {\"i2\": 1}, \"c\": {\"op\": 1.5}, \"d\": {\"op\": 1.5}}}}") (codes "[{\"hosts\": \"g2\", \"strategy\": \"free\", \"tasks\": [{\"vars\": {}, \"ping\": null, \"when\": \"not ('d' in ansible_play_batch)\"}, {\"meta\": \"flush_handlers\"}, {\"vars\": {\"v1\": \"{{ r3.failed | default([]) }}\", \"v2\": \"{{ r3.failed | length }}\"}, \"set_fact\": {\"s2\": {\"f\": 1}}, \"register\": \"r1\", \"ignore_errors\": true}], \"handlers\": [{\"set_fact\": {\"s2\": 1}, \"register\": \"r3\", \"name\": \"h0\", \"listen\": \"t\"}], \"force_handlers\": true}]") ≡ verdict (accepted 4)
unfolding reading
random_001647 = refl

random_001662 : found (codes "{\"g\": {\"hosts\": [\"b\", \"a\"]}, \"all\": {\"hosts\": [\"c\"], \"vars\": {\"inv\": [1, 2]}}, \"_meta\": {\"hostvars\": {\"a\": {\"opq\": 1.5, \"inv\": [\"x\"]}, \"b\": {\"k\": {\"z\": \"{{ q }}\"}}}}}") (codes "[{\"hosts\": \"g\", \"handlers\": [{\"set_fact\": {\"y\": \"x{{ item.stdout_lines }}\"}, \"when\": [\"r is not skipped\"], \"register\": \"r\", \"name\": \"h0\"}], \"pre_tasks\": [{\"loop\": [1, 2], \"stat\": {\"path\": \"p\"}}], \"tasks\": [{\"block\": [{\"assert\": {\"that\": [\"(('a' in r.changed) and (inv == 'a')) or (r.failed)\", \"inventory_hostname is not defined\"]}, \"register\": \"r\", \"notify\": \"h0\", \"vars\": {\"v1\": \"{{ r.results }}\"}}], \"rescue\": [], \"always\": [{\"command\": \"x\"}], \"when\": \"((inventory_hostname.results is failed) and (ansible_hostname.hostname is skipped)) and ('a' in ansible_play_batch)\"}, {\"fail\": null, \"register\": \"s\"}, {\"fail\": null, \"when\": [\"ansible_play_batch.os_family is skipped\", \"(v2.changed is skipped) or (group_names.changed == 1)\"], \"notify\": \"h0\"}], \"strategy\": \"free\", \"vars\": {\"v1\": {\"k\": true}}}, {\"hosts\": \"b,a\", \"handlers\": [{\"set_fact\": {\"s\": \"{{ hostvars['a'].r.rc | length }}\"}, \"register\": \"r\", \"name\": \"h0\"}, {\"debug\": {\"msg\": \"{{ r.stdout | length }}\"}, \"when\": [\"not (r is undefined or r is failed)\"], \"name\": \"h1\"}], \"pre_tasks\": [{\"block\": []}, {\"stat\": {\"path\": \"p\"}, \"when\": [\"y is defined\"], \"register\": \"r\"}, {\"block\": [{\"loop\": [1, 2], \"command\": \"x\", \"register\": \"s\", \"notify\": \"h1\"}, {\"set_fact\": {\"y\": \"a\"}, \"when\": [\"s is defined and s is not failed\"], \"register\": \"r\", \"ignore_errors\": true}]}], \"tasks\": [{\"loop\": [\"a\", \"b\"], \"fail\": null, \"when\": [\"'a' in ansible_play_batch\"], \"register\": \"r\"}, {\"loop\": \"{{ ansible_play_batch }}\", \"command\": {\"cmd\": {\"k\": \"x{{ ansible_facts }}\"}}, \"when\": [\"r is not skipped\"]}, {\"debug\": {\"msg\": [1, 2]}, \"register\": \"s\"}], \"vars\": {\"v1\": \"{{ 'a' }}\"}}]") ≡ verdict (refused (record { code = 4; line = 4; host = Some (codes "b") }))
unfolding reading
random_001662 = refl

random_001672 : found (codes "{\"g\": {\"hosts\": [\"b\", \"a\"]}, \"all\": {\"hosts\": [\"c\"], \"vars\": {\"inv\": [1, 2]}}, \"_meta\": {\"hostvars\": {\"a\": {\"opq\": 1.5, \"inv\": [\"x\"]}, \"b\": {\"k\": {\"z\": \"{{ q }}\"}}}}}") (codes "[{\"hosts\": \"g\", \"tasks\": [{\"block\": [], \"always\": [{\"loop\": [\"a\", \"b\"], \"stat\": {\"path\": \"p\"}}]}], \"strategy\": \"free\", \"serial\": 1, \"vars\": {\"v1\": \"{{ inv }}\"}}, {\"hosts\": \"all\", \"handlers\": [{\"set_fact\": {\"y\": \"{{ group_names.msg }}\"}, \"when\": \"((opq.hostname) and (group_names.changed is not defined)) or (inventory_hostname.msg is changed)\", \"register\": \"s\", \"name\": \"h0\"}], \"tasks\": [{\"ping\": null, \"register\": \"s\", \"notify\": \"h0\"}, {\"command\": {\"cmd\": \"{{ hostvars['b'].ansible_hostname.hostname }}\"}, \"when\": [\"r.rc is defined\", \"s is defined and s is not failed\"], \"register\": \"s\", \"until\": false, \"retries\": 2, \"ignore_errors\": true, \"notify\": \"h0\"}, {\"meta\": \"flush_handlers\"}], \"serial\": \"50%\"}]") ≡ verdict (refused (record { code = 2; line = 6; host = Some (codes "c") }))
unfolding reading
random_001672 = refl

random_001674 : found (codes "{\"g\": {\"hosts\": [\"b\", \"a\"]}, \"all\": {\"hosts\": [\"c\"], \"vars\": {\"inv\": [1, 2]}}, \"_meta\": {\"hostvars\": {\"a\": {\"opq\": 1.5, \"inv\": [\"x\"]}, \"b\": {\"k\": {\"z\": \"{{ q }}\"}}}}}") (codes "[{\"hosts\": \"all\", \"tasks\": [{\"ping\": null}, {\"meta\": \"flush_handlers\"}], \"post_tasks\": [{\"command\": \"x\", \"register\": \"s\"}, {\"block\": [], \"rescue\": [], \"when\": [\"r.changed == 1\", \"item in ansible_play_batch\"]}, {\"set_fact\": {\"y\": \"a\"}, \"when\": \"((ansible_facts.changed == 'a') or (inventory_hostname is succeeded)) or (groups['g'][0] in ansible_play_batch)\", \"failed_when\": \"zz.changed\"}], \"strategy\": \"free\"}]") ≡ verdict (refused (record { code = 1; line = 6; host = Some (codes "c") }))
unfolding reading
random_001674 = refl

random_001678 : found (codes "{\"g\": {\"hosts\": [\"b\", \"a\"]}, \"all\": {\"hosts\": [\"c\"], \"vars\": {\"inv\": [1, 2]}}, \"_meta\": {\"hostvars\": {\"a\": {\"opq\": 1.5, \"inv\": [\"x\"]}, \"b\": {\"k\": {\"z\": \"{{ q }}\"}}}}}") (codes "[{\"hosts\": \"b,a\", \"handlers\": [{\"fail\": null, \"register\": \"r\", \"ignore_errors\": true, \"name\": \"h0\"}], \"tasks\": [{\"setup\": null, \"when\": \"'b' in ansible_play_batch\", \"register\": \"r\", \"failed_when\": \"r.changed\"}, {\"ping\": null, \"when\": \"hostvars[inventory_hostname].inv is not defined\", \"failed_when\": false}], \"strategy\": \"free\"}]") ≡ verdict (accepted 4)
unfolding reading
random_001678 = refl

random_001682 : found (codes "{\"g\": {\"hosts\": [\"b\", \"a\"]}, \"all\": {\"hosts\": [\"c\"], \"vars\": {\"inv\": [1, 2]}}, \"_meta\": {\"hostvars\": {\"a\": {\"opq\": 1.5, \"inv\": [\"x\"]}, \"b\": {\"k\": {\"z\": \"{{ q }}\"}}}}}") (codes "[{\"hosts\": \"g\", \"tasks\": [{\"set_fact\": {\"s\": \"x{{ group_names.msg }}\"}, \"register\": \"r\", \"ignore_errors\": false}, {\"assert\": {\"that\": \"hostvars['a'].r.rc\"}, \"when\": [\"((hostvars[groups['g'][0]].ansible_hostname is failed) and (group_names is failed)) or (v2.rc is not defined)\", \"item in ansible_play_batch\"], \"changed_when\": false, \"vars\": {\"v2\": [\"{{ ansible_failed_result.changed }}\"]}}, {\"block\": [], \"rescue\": []}], \"strategy\": \"free\", \"serial\": [1, 2]}]") ≡ verdict (refused (record { code = 4; line = 2; host = Some (codes "b") }))
unfolding reading
random_001682 = refl

random_001691 : found_with (codes "[{\"name\": \"probe\", \"params\": {\"n\": {\"kind\": \"int\", \"required\": false}, \"l\": {\"kind\": {\"list\": \"text\", \"max\": 3}, \"required\": false}}, \"ok\": {\"changed\": {\"kind\": \"bool\", \"always\": true}, \"v\": {\"kind\": \"int\", \"always\": false}, \"rows\": {\"kind\": {\"list\": \"text\", \"max\": 2}, \"always\": true}, \"deep\": {\"kind\": {\"rec\": {\"a\": {\"kind\": \"text\", \"always\": true}, \"b\": {\"kind\": \"bool\", \"always\": false}}}, \"always\": false}}, \"failure\": {\"changed\": {\"kind\": \"bool\", \"always\": true}, \"msg\": {\"kind\": \"text\", \"always\": true}, \"v\": {\"kind\": \"text\", \"always\": false}, \"why\": {\"kind\": \"int\", \"always\": true}}}, {\"name\": \"odd\", \"params\": {}, \"ok\": {\"changed\": {\"kind\": \"bool\", \"always\": true}, \"msg\": {\"kind\": \"int\", \"always\": false}}, \"failure\": {\"changed\": {\"kind\": \"bool\", \"always\": true}, \"msg\": {\"kind\": \"text\", \"always\": true}}}]") (codes "{\"all\": {\"hosts\": [\"a\", \"b\", \"c\"], \"vars\": {}}, \"g1\": {\"hosts\": [\"c\"], \"vars\": {\"op\": 1.5}}, \"_meta\": {\"hostvars\": {\"a\": {\"s1\": 0}, \"b\": {}, \"c\": {\"s1\": {\"f\": \"no\", \"g\": 1}}}}}") (codes "[{\"hosts\": \"c\", \"tasks\": [{\"debug\": {\"msg\": \"x\"}}, {\"loop\": \"{{ r2.results | default([]) }}\", \"vars\": {\"v2\": \"{{ i1.rc | length }}\"}, \"assert\": {\"that\": [\"('b' in ansible_play_batch) and (r3.skipped | default(false))\"]}, \"when\": \"(r2.failed is defined) or (inventory_hostname != 'a')\", \"register\": \"r2\", \"failed_when\": false, \"ignore_errors\": true}, {\"set_fact\": {\"s1\": {\"f\": 1}}}], \"handlers\": [{\"loop\": \"{{ ansible_play_batch }}\", \"vars\": {\"v1\": \"{{ hostvars[item].s2.f | length }}\", \"v3\": \"{{ [hostvars[item].s2.f, hostvars[item].s2.f] }}\"}, \"odd\": null, \"when\": \"item in ansible_play_batch\", \"name\": \"h0\", \"notify\": \"h1\"}, {\"loop\": \"{{ r2.results | default([]) }}\", \"debug\": {\"msg\": \"x\"}, \"changed_when\": true, \"name\": \"h1\", \"listen\": \"t\"}], \"force_handlers\": false}]") ≡ verdict (accepted 1)
unfolding reading
random_001691 = refl

random_001692 : found (codes "{\"g\": {\"hosts\": [\"b\", \"a\"]}, \"all\": {\"hosts\": [\"c\"], \"vars\": {\"inv\": [1, 2]}}, \"_meta\": {\"hostvars\": {\"a\": {\"opq\": 1.5, \"inv\": [\"x\"]}, \"b\": {\"k\": {\"z\": \"{{ q }}\"}}}}}") (codes "[{\"hosts\": \"all\", \"tasks\": [{\"stat\": {\"path\": \"p\"}}], \"serial\": \"50%\", \"force_handlers\": true, \"vars\": {\"v1\": \"{{ s.changed == 'a' }}\"}}]") ≡ verdict (accepted 3)
unfolding reading
random_001692 = refl

random_001694 : found (codes "{\"g\": {\"hosts\": [\"b\", \"a\"]}, \"all\": {\"hosts\": [\"c\"], \"vars\": {\"inv\": [1, 2]}}, \"_meta\": {\"hostvars\": {\"a\": {\"opq\": 1.5, \"inv\": [\"x\"]}, \"b\": {\"k\": {\"z\": \"{{ q }}\"}}}}}") (codes "[{\"hosts\": \"all\", \"tasks\": [{\"command\": \"x\", \"ignore_errors\": true}, {\"block\": [{\"stat\": {\"path\": \"p\"}, \"when\": [\"'b' in ansible_play_batch\"]}], \"rescue\": []}], \"post_tasks\": [{\"stat\": {\"path\": \"p\"}, \"when\": [\"'a' in ansible_play_batch\"], \"register\": \"r\"}], \"strategy\": \"free\"}, {\"hosts\": \"all\", \"handlers\": [{\"debug\": {\"msg\": {\"k\": true}}, \"name\": \"h0\"}, {\"fail\": null, \"name\": \"h1\"}], \"tasks\": [{\"set_fact\": {\"s\": \"{{ inv | default(1) }}\"}, \"register\": \"s\", \"notify\": \"h0\"}]}]") ≡ verdict (accepted 9)
unfolding reading
random_001694 = refl

random_001698 : found (codes "{\"g\": {\"hosts\": [\"b\", \"a\"]}, \"all\": {\"hosts\": [\"c\"], \"vars\": {\"inv\": [1, 2]}}, \"_meta\": {\"hostvars\": {\"a\": {\"opq\": 1.5, \"inv\": [\"x\"]}, \"b\": {\"k\": {\"z\": \"{{ q }}\"}}}}}") (codes "[{\"hosts\": \"all\", \"tasks\": [{\"loop\": \"{{ r.results }}\", \"assert\": {\"that\": [\"r.rc is undefined\", \"(r == 'a') or (inventory_hostname.hostname is failed)\"]}, \"register\": \"r\"}], \"strategy\": \"free\"}]") ≡ verdict (refused (record { code = 1; line = 2; host = Some (codes "c") }))
unfolding reading
random_001698 = refl

random_001702 : found (codes "{\"g\": {\"hosts\": [\"b\", \"a\"]}, \"all\": {\"hosts\": [\"c\"], \"vars\": {\"inv\": [1, 2]}}, \"_meta\": {\"hostvars\": {\"a\": {\"opq\": 1.5, \"inv\": [\"x\"]}, \"b\": {\"k\": {\"z\": \"{{ q }}\"}}}}}") (codes "[{\"hosts\": \"all\", \"handlers\": [{\"loop\": [1, 2], \"command\": \"x\", \"name\": \"h0\"}], \"tasks\": [{\"block\": [{\"setup\": null, \"register\": \"r\", \"changed_when\": true, \"notify\": \"h0\", \"vars\": {\"v2\": {\"k\": 1}}}, {\"block\": [{\"set_fact\": {\"y\": \"{{ group_names }}\"}, \"register\": \"s\"}], \"rescue\": [], \"always\": [{\"loop\": \"{{ inv }}\", \"command\": \"x\", \"when\": [\"hostvars['b'].y is defined\"], \"notify\": \"h0\"}], \"when\": \"(s.changed < 3) or ((inventory_hostname.msg is defined) or (hostvars['a'].inv == 1))\", \"ignore_errors\": true}], \"rescue\": [{\"command\": {\"cmd\": null}, \"notify\": \"h0\"}, {\"set_fact\": {\"y\": \"{{ hostvars[inventory_hostname].r.os_family | default([]) }}\"}, \"failed_when\": false}]}, {\"block\": []}, {\"block\": [{\"block\": [], \"rescue\": [{\"assert\": {\"that\": \"y is not skipped\"}, \"notify\": \"h0\"}], \"ignore_errors\": true}, {\"block\": [], \"rescue\": [{\"set_fact\": {\"s\": \"{{ none }}\"}, \"register\": \"r\", \"ignore_errors\": true, \"vars\": {\"v1\": [{\"k\": \"{{ zz.stat.isdir | length }}\"}]}}, {\"fail\": null, \"register\": \"r\"}], \"ignore_errors\": true}], \"rescue\": [], \"always\": []}, {\"ping\": null, \"when\": [\"inventory_hostname in ansible_play_batch\", \"group_names.stdout == 1\"], \"failed_when\": \"zz is failed\", \"notify\": \"h0\"}], \"vars\": {\"v1\": \"{{ inventory_hostname | join(',') }}\"}}]") ≡ verdict (refused (record { code = 1; line = 5; host = Some (codes "c") }))
unfolding reading
random_001702 = refl

random_001705 : found_with (codes "[{\"name\": \"probe\", \"params\": {\"n\": {\"kind\": \"int\", \"required\": false}, \"l\": {\"kind\": {\"list\": \"text\", \"max\": 3}, \"required\": false}}, \"ok\": {\"changed\": {\"kind\": \"bool\", \"always\": true}, \"v\": {\"kind\": \"int\", \"always\": false}, \"rows\": {\"kind\": {\"list\": \"text\", \"max\": 2}, \"always\": true}, \"deep\": {\"kind\": {\"rec\": {\"a\": {\"kind\": \"text\", \"always\": true}, \"b\": {\"kind\": \"bool\", \"always\": false}}}, \"always\": false}}, \"failure\": {\"changed\": {\"kind\": \"bool\", \"always\": true}, \"msg\": {\"kind\": \"text\", \"always\": true}, \"v\": {\"kind\": \"text\", \"always\": false}, \"why\": {\"kind\": \"int\", \"always\": true}}}, {\"name\": \"odd\", \"params\": {}, \"ok\": {\"changed\": {\"kind\": \"bool\", \"always\": true}, \"msg\": {\"kind\": \"int\", \"always\": false}}, \"failure\": {\"changed\": {\"kind\": \"bool\", \"always\": true}, \"msg\": {\"kind\": \"text\", \"always\": true}}}]") (codes "{\"all\": {\"hosts\": [\"a\"], \"vars\": {\"i1\": [\"t\", null], \"op\": 1.5}}, \"g2\": {\"hosts\": [], \"vars\": {\"i2\": \"b\"}}, \"_meta\": {\"hostvars\": {\"a\": {}}}}") (codes "[{\"hosts\": \"a\", \"serial\": \"50%\", \"tasks\": [{\"fail\": null}]}]") ≡ verdict (accepted 0)
unfolding reading
random_001705 = refl

random_001706 : found (codes "{\"g\": {\"hosts\": [\"b\", \"a\"]}, \"all\": {\"hosts\": [\"c\"], \"vars\": {\"inv\": [1, 2]}}, \"_meta\": {\"hostvars\": {\"a\": {\"opq\": 1.5, \"inv\": [\"x\"]}, \"b\": {\"k\": {\"z\": \"{{ q }}\"}}}}}") (codes "[{\"hosts\": \"b,a\", \"handlers\": [{\"setup\": null, \"when\": [\"'b' in ansible_play_batch\", \"r is defined and r is succeeded\"], \"ignore_errors\": true, \"name\": \"h0\"}, {\"set_fact\": {\"y\": 1}, \"register\": \"r\", \"ignore_errors\": true, \"name\": \"h1\"}], \"tasks\": [{\"stat\": {\"path\": \"p\"}, \"when\": [\"r is defined\"], \"register\": \"r\", \"ignore_errors\": true, \"notify\": \"h0\", \"vars\": {\"v2\": [[\"{{ inv.changed }}\"]]}}, {\"stat\": {\"path\": \"p\"}, \"notify\": \"h0\", \"vars\": {\"v1\": \"{{ hostvars['a'].inv }}\"}}], \"vars\": {\"v1\": \"a\"}}]") ≡ verdict (accepted 6)
unfolding reading
random_001706 = refl

random_001720 : found (codes "{\"g\": {\"hosts\": [\"b\", \"a\"]}, \"all\": {\"hosts\": [\"c\"], \"vars\": {\"inv\": [1, 2]}}, \"_meta\": {\"hostvars\": {\"a\": {\"opq\": 1.5, \"inv\": [\"x\"]}, \"b\": {\"k\": {\"z\": \"{{ q }}\"}}}}}") (codes "[{\"hosts\": \"a\", \"handlers\": [{\"assert\": {\"that\": \"not (hostvars[inventory_hostname].inv is defined)\"}, \"register\": \"s\", \"ignore_errors\": true, \"name\": \"h0\"}], \"tasks\": [{\"stat\": {\"path\": \"p\"}, \"register\": \"s\", \"notify\": \"h0\"}, {\"fail\": null, \"changed_when\": true, \"ignore_errors\": true, \"notify\": \"h0\"}, {\"block\": [], \"always\": [{\"block\": [], \"rescue\": [{\"loop\": [\"a\", \"b\"], \"stat\": {\"path\": \"p\"}, \"when\": \"s.changed < 3\", \"register\": \"r\", \"notify\": \"h0\"}]}]}, {\"block\": [{\"loop\": \"{{ r.results }}\", \"command\": {\"cmd\": \"{{ none }}\"}, \"register\": \"r\", \"notify\": \"h0\"}]}], \"post_tasks\": [{\"ping\": null, \"when\": [\"hostvars['a'].r.rc is defined\"], \"vars\": {\"v2\": \"{{ hostvars['a'].inv }}\"}}, {\"fail\": {\"msg\": \"m\"}, \"register\": \"s\"}, {\"block\": [{\"set_fact\": {\"y\": \"{{ true }}\"}, \"when\": [\"'b' in ansible_play_batch\"], \"notify\": \"h0\"}, {\"fail\": {\"msg\": \"m\"}, \"register\": \"s\", \"failed_when\": \"s is failed\", \"notify\": \"h0\"}], \"rescue\": [{\"set_fact\": {\"s\": \"{{ r.rc is changed }}\"}, \"notify\": \"h0\"}], \"always\": [{\"command\": \"x\", \"register\": \"r\", \"notify\": \"h0\"}]}, {\"assert\": {\"that\": \"'b' in ansible_play_batch\"}, \"when\": [\"r.rc is defined\"], \"register\": \"r\", \"notify\": \"h0\"}], \"strategy\": \"free\", \"serial\": 1, \"force_handlers\": true}]") ≡ verdict (refused (record { code = 1; line = 8; host = Some (codes "a") }))
unfolding reading
random_001720 = refl

random_001721 : found_with (codes "[{\"name\": \"probe\", \"params\": {\"n\": {\"kind\": \"int\", \"required\": false}, \"l\": {\"kind\": {\"list\": \"text\", \"max\": 3}, \"required\": false}}, \"ok\": {\"changed\": {\"kind\": \"bool\", \"always\": true}, \"v\": {\"kind\": \"int\", \"always\": false}, \"rows\": {\"kind\": {\"list\": \"text\", \"max\": 2}, \"always\": true}, \"deep\": {\"kind\": {\"rec\": {\"a\": {\"kind\": \"text\", \"always\": true}, \"b\": {\"kind\": \"bool\", \"always\": false}}}, \"always\": false}}, \"failure\": {\"changed\": {\"kind\": \"bool\", \"always\": true}, \"msg\": {\"kind\": \"text\", \"always\": true}, \"v\": {\"kind\": \"text\", \"always\": false}, \"why\": {\"kind\": \"int\", \"always\": true}}}, {\"name\": \"odd\", \"params\": {}, \"ok\": {\"changed\": {\"kind\": \"bool\", \"always\": true}, \"msg\": {\"kind\": \"int\", \"always\": false}}, \"failure\": {\"changed\": {\"kind\": \"bool\", \"always\": true}, \"msg\": {\"kind\": \"text\", \"always\": true}}}]") (codes "{\"all\": {\"hosts\": [\"a\", \"b\"], \"vars\": {\"i1\": -1}}, \"g1\": {\"hosts\": [\"b\"], \"vars\": {\"op\": 1.5}}, \"_meta\": {\"hostvars\": {\"a\": {}, \"b\": {}}}}") (codes "[{\"hosts\": \"all\", \"serial\": 2, \"tasks\": [{\"set_fact\": {\"s3\": \"{{ r3.changed | default([]) }}\"}, \"ignore_errors\": false}], \"force_handlers\": true}]") ≡ verdict (accepted 0)
unfolding reading
random_001721 = refl

random_001724 : found (codes "{\"g\": {\"hosts\": [\"b\", \"a\"]}, \"all\": {\"hosts\": [\"c\"], \"vars\": {\"inv\": [1, 2]}}, \"_meta\": {\"hostvars\": {\"a\": {\"opq\": 1.5, \"inv\": [\"x\"]}, \"b\": {\"k\": {\"z\": \"{{ q }}\"}}}}}") (codes "[{\"hosts\": \"a\", \"handlers\": [{\"fail\": {\"msg\": \"m\"}, \"when\": [\"'b' in ansible_play_batch\"], \"register\": \"s\", \"name\": \"h0\"}, {\"set_fact\": {\"y\": [\"a\"]}, \"register\": \"r\", \"name\": \"h1\"}], \"tasks\": [{\"block\": [{\"block\": [], \"rescue\": [{\"set_fact\": {\"y\": [{\"k\": 1}]}, \"notify\": \"h0\"}]}, {\"block\": [], \"rescue\": [{\"fail\": {\"msg\": \"m\"}, \"register\": \"s\"}], \"always\": [{\"debug\": {\"msg\": true}, \"register\": \"s\"}]}], \"rescue\": [{\"fail\": {\"msg\": \"m\"}, \"when\": \"v1.stdout_lines is not skipped\"}, {\"block\": [{\"setup\": null, \"when\": \"'a' in groups.g\"}, {\"loop\": \"{{ r.stdout_lines }}\", \"fail\": {\"msg\": \"m\"}, \"when\": [\"not (r is undefined or r is failed)\"]}], \"rescue\": [], \"always\": []}]}, {\"fail\": null, \"register\": \"r\"}]}]") ≡ verdict (accepted 1)
unfolding reading
random_001724 = refl

random_001729 : found_with (codes "[{\"name\": \"probe\", \"params\": {\"n\": {\"kind\": \"int\", \"required\": false}, \"l\": {\"kind\": {\"list\": \"text\", \"max\": 3}, \"required\": false}}, \"ok\": {\"changed\": {\"kind\": \"bool\", \"always\": true}, \"v\": {\"kind\": \"int\", \"always\": false}, \"rows\": {\"kind\": {\"list\": \"text\", \"max\": 2}, \"always\": true}, \"deep\": {\"kind\": {\"rec\": {\"a\": {\"kind\": \"text\", \"always\": true}, \"b\": {\"kind\": \"bool\", \"always\": false}}}, \"always\": false}}, \"failure\": {\"changed\": {\"kind\": \"bool\", \"always\": true}, \"msg\": {\"kind\": \"text\", \"always\": true}, \"v\": {\"kind\": \"text\", \"always\": false}, \"why\": {\"kind\": \"int\", \"always\": true}}}, {\"name\": \"odd\", \"params\": {}, \"ok\": {\"changed\": {\"kind\": \"bool\", \"always\": true}, \"msg\": {\"kind\": \"int\", \"always\": false}}, \"failure\": {\"changed\": {\"kind\": \"bool\", \"always\": true}, \"msg\": {\"kind\": \"text\", \"always\": true}}}]") (codes "{\"all\": {\"hosts\": [\"a\"], \"vars\": {\"s1\": \"no\"}}, \"g1\": {\"hosts\": [\"a\"], \"vars\": {}, \"children\": [\"g2\"]}, \"g2\": {\"hosts\": [\"a\"], \"vars\": {}}, \"_meta\": {\"hostvars\": {\"a\": {\"i1\": 3, \"i2\": [\"t\", \"x\"], \"op\": 1.5}}}}") (codes "[{\"hosts\": \"g2\", \"strategy\": \"free\", \"serial\": 1, \"tasks\": [{\"when\": \"op != [1]\", \"block\": [{\"ping\": null}, {\"probe\": {}, \"register\": \"r1\", \"ignore_errors\": true}, {\"loop\": \"{{ r1.deep.a }}\", \"command\": {\"cmd\": \"x\"}}]}, {\"vars\": {}, \"command\": {\"cmd\": \"x x{{ (r3.changed) == (hostvars['a'].r2) }}\"}, \"ignore_errors\": true}, {\"loop\": \"{{ r1.results | default([]) }}\", \"set_fact\": {\"s3\": 1}, \"register\": \"r2\"}, {\"vars\": {\"v1\": \"{{ s2 }}\", \"v2\": \"{{ r3.changed | default('z') }}\"}, \"command\": {\"cmd\": \"x\"}, \"register\": \"r2\"}], \"force_handlers\": true}]") ≡ verdict (refused (record { code = 4; line = 3; host = Some (codes "a") }))
unfolding reading
random_001729 = refl

random_001734 : found (codes "{\"g\": {\"hosts\": [\"b\", \"a\"]}, \"all\": {\"hosts\": [\"c\"], \"vars\": {\"inv\": [1, 2]}}, \"_meta\": {\"hostvars\": {\"a\": {\"opq\": 1.5, \"inv\": [\"x\"]}, \"b\": {\"k\": {\"z\": \"{{ q }}\"}}}}}") (codes "[{\"hosts\": \"a\", \"handlers\": [{\"loop\": \"{{ r.results }}\", \"setup\": null, \"changed_when\": false, \"name\": \"h0\"}], \"tasks\": [{\"command\": {\"cmd\": [\"{{ 'a' }}\"]}, \"when\": [\"r is defined and r is succeeded\"], \"failed_when\": \"zz is failed\", \"notify\": \"h0\"}, {\"assert\": {\"that\": \"(inv.changed < 3) and ((hostvars[item].inv is undefined) or ('a' in inv.stdout_lines))\"}, \"when\": [\"r is defined\"], \"register\": \"r\", \"vars\": {\"v2\": true}}, {\"meta\": \"flush_handlers\"}]}]") ≡ verdict (refused (record { code = 4; line = 2; host = Some (codes "a") }))
unfolding reading
random_001734 = refl

random_001736 : found (codes "{\"g\": {\"hosts\": [\"b\", \"a\"]}, \"all\": {\"hosts\": [\"c\"], \"vars\": {\"inv\": [1, 2]}}, \"_meta\": {\"hostvars\": {\"a\": {\"opq\": 1.5, \"inv\": [\"x\"]}, \"b\": {\"k\": {\"z\": \"{{ q }}\"}}}}}") (codes "[{\"hosts\": \"all\", \"handlers\": [{\"loop\": [1, 2], \"command\": {\"cmd\": \"x{{ v1.os_family | length }}\"}, \"name\": \"h0\"}], \"pre_tasks\": [{\"set_fact\": {\"s\": \"x{{ v1.results }}\"}, \"register\": \"r\", \"failed_when\": true, \"vars\": {\"v1\": \"{{ r.failed }}\"}}], \"tasks\": [{\"loop\": [\"a\", \"b\"], \"command\": \"x\"}], \"strategy\": \"free\", \"force_handlers\": true}]") ≡ verdict (refused (record { code = 1; line = 2; host = Some (codes "c") }))
unfolding reading
random_001736 = refl

random_001738 : found (codes "{\"g\": {\"hosts\": [\"b\", \"a\"]}, \"all\": {\"hosts\": [\"c\"], \"vars\": {\"inv\": [1, 2]}}, \"_meta\": {\"hostvars\": {\"a\": {\"opq\": 1.5, \"inv\": [\"x\"]}, \"b\": {\"k\": {\"z\": \"{{ q }}\"}}}}}") (codes "[{\"hosts\": \"all\", \"handlers\": [{\"assert\": {\"that\": \"(not (y)) and ((hostvars[item].inv) and (y is succeeded))\"}, \"register\": \"r\", \"ignore_errors\": false, \"name\": \"h0\"}, {\"setup\": null, \"register\": \"r\", \"name\": \"h1\"}], \"pre_tasks\": [{\"setup\": null, \"register\": \"s\", \"notify\": \"h1\"}, {\"debug\": {\"msg\": \"{{ inventory_hostname }}\"}, \"notify\": \"h1\"}, {\"block\": [{\"loop\": [\"a\", \"b\"], \"assert\": {\"that\": [\"inventory_hostname.hostname == 'a'\", \"s.changed == 1\"]}, \"register\": \"r\", \"failed_when\": true}, {\"assert\": {\"that\": \"not (ansible_hostname.stdout is defined)\"}, \"notify\": \"h0\"}]}, {\"ping\": null}], \"tasks\": [{\"loop\": [], \"setup\": null, \"notify\": \"h1\"}, {\"block\": [], \"always\": [{\"assert\": {\"that\": \"r.stdout is failed\"}, \"notify\": \"h1\"}]}, {\"setup\": null, \"when\": [\"r is not skipped\"], \"until\": false, \"retries\": 2, \"notify\": \"h1\"}, {\"block\": [{\"ping\": null, \"when\": [\"hostvars['b'].y is defined\"], \"notify\": \"h1\"}], \"always\": [{\"setup\": null}]}], \"vars\": {\"v1\": \"{{ hostvars[item].s.os_family }}\"}}, {\"hosts\": \"all\", \"tasks\": [{\"loop\": [], \"fail\": null, \"register\": \"r\", \"failed_when\": \"r.changed\", \"ignore_errors\": false}, {\"loop\": [1, 2], \"set_fact\": {\"y\": \"a\"}}, {\"command\": {\"cmd\": null}}]}]") ≡ verdict (refused (record { code = 4; line = 5; host = Some (codes "c") }))
unfolding reading
random_001738 = refl

random_001749 : found_with (codes "[{\"name\": \"probe\", \"params\": {\"n\": {\"kind\": \"int\", \"required\": false}, \"l\": {\"kind\": {\"list\": \"text\", \"max\": 3}, \"required\": false}}, \"ok\": {\"changed\": {\"kind\": \"bool\", \"always\": true}, \"v\": {\"kind\": \"int\", \"always\": false}, \"rows\": {\"kind\": {\"list\": \"text\", \"max\": 2}, \"always\": true}, \"deep\": {\"kind\": {\"rec\": {\"a\": {\"kind\": \"text\", \"always\": true}, \"b\": {\"kind\": \"bool\", \"always\": false}}}, \"always\": false}}, \"failure\": {\"changed\": {\"kind\": \"bool\", \"always\": true}, \"msg\": {\"kind\": \"text\", \"always\": true}, \"v\": {\"kind\": \"text\", \"always\": false}, \"why\": {\"kind\": \"int\", \"always\": true}}}, {\"name\": \"odd\", \"params\": {}, \"ok\": {\"changed\": {\"kind\": \"bool\", \"always\": true}, \"msg\": {\"kind\": \"int\", \"always\": false}}, \"failure\": {\"changed\": {\"kind\": \"bool\", \"always\": true}, \"msg\": {\"kind\": \"text\", \"always\": true}}}]") (codes "{\"all\": {\"hosts\": [\"a\", \"b\"], \"vars\": {}}, \"_meta\": {\"hostvars\": {\"a\": {\"i2\": \"a\", \"s1\": [true], \"op\": 1.5}, \"b\": {\"i2\": 2}}}}") (codes "[{\"hosts\": [\"b\", \"all\"], \"vars\": {\"v2\": [\"x\"], \"v3\": \"{{ s3 }}\"}, \"tasks\": [{\"command\": {\"cmd\": \"x\"}, \"register\": \"r1\"}, {\"ping\": null, \"register\": \"r2\", \"until\": false}, {\"ping\": null}], \"force_handlers\": true}]") ≡ verdict (accepted 12)
unfolding reading
random_001749 = refl

random_001752 : found (codes "{\"g\": {\"hosts\": [\"b\", \"a\"]}, \"all\": {\"hosts\": [\"c\"], \"vars\": {\"inv\": [1, 2]}}, \"_meta\": {\"hostvars\": {\"a\": {\"opq\": 1.5, \"inv\": [\"x\"]}, \"b\": {\"k\": {\"z\": \"{{ q }}\"}}}}}") (codes "[{\"hosts\": \"all\", \"tasks\": [{\"command\": \"x\", \"register\": \"r\", \"ignore_errors\": false}, {\"block\": [{\"stat\": {\"path\": \"p\"}, \"when\": \"hostvars[item].opq.msg is succeeded\", \"ignore_errors\": true}, {\"loop\": [1, 2], \"set_fact\": {\"y\": \"{{ not (r.stat.isdir < 3) }}\"}, \"when\": [\"r is defined\", \"not (r is undefined or r is failed)\"], \"register\": \"r\", \"ignore_errors\": false}]}], \"strategy\": \"free\"}]") ≡ verdict (refused (record { code = 1; line = 4; host = Some (codes "c") }))
unfolding reading
random_001752 = refl

random_001766 : found (codes "{\"g\": {\"hosts\": [\"b\", \"a\"]}, \"all\": {\"hosts\": [\"c\"], \"vars\": {\"inv\": [1, 2]}}, \"_meta\": {\"hostvars\": {\"a\": {\"opq\": 1.5, \"inv\": [\"x\"]}, \"b\": {\"k\": {\"z\": \"{{ q }}\"}}}}}") (codes "[{\"hosts\": \"g\", \"handlers\": [{\"setup\": null, \"name\": \"h0\"}, {\"loop\": [], \"set_fact\": {\"y\": [1, 2]}, \"register\": \"r\", \"failed_when\": \"r.changed\", \"name\": \"h1\"}], \"pre_tasks\": [{\"loop\": [], \"command\": {\"cmd\": \"{{ v2.stat.isdir == 'a' }}\"}, \"notify\": \"h1\"}, {\"set_fact\": {\"s\": \"{{ r.stdout }}\"}, \"when\": [\"'a' in ansible_play_batch\", \"'b' in ansible_play_batch\"], \"register\": \"s\", \"notify\": \"h0\"}], \"tasks\": [{\"command\": \"x\", \"when\": [\"y is defined\"], \"register\": \"s\", \"failed_when\": \"s.changed\"}, {\"fail\": null, \"when\": [\"r is defined and r is succeeded\"], \"register\": \"s\", \"failed_when\": false}], \"strategy\": \"free\", \"vars\": {\"v1\": {\"k\": {\"k\": \"{{ inventory_hostname.os_family }}\"}}}}]") ≡ verdict (refused (record { code = 1; line = 2; host = Some (codes "b") }))
unfolding reading
random_001766 = refl

random_001775 : found_with (codes "[{\"name\": \"probe\", \"params\": {\"n\": {\"kind\": \"int\", \"required\": false}, \"l\": {\"kind\": {\"list\": \"text\", \"max\": 3}, \"required\": false}}, \"ok\": {\"changed\": {\"kind\": \"bool\", \"always\": true}, \"v\": {\"kind\": \"int\", \"always\": false}, \"rows\": {\"kind\": {\"list\": \"text\", \"max\": 2}, \"always\": true}, \"deep\": {\"kind\": {\"rec\": {\"a\": {\"kind\": \"text\", \"always\": true}, \"b\": {\"kind\": \"bool\", \"always\": false}}}, \"always\": false}}, \"failure\": {\"changed\": {\"kind\": \"bool\", \"always\": true}, \"msg\": {\"kind\": \"text\", \"always\": true}, \"v\": {\"kind\": \"text\", \"always\": false}, \"why\": {\"kind\": \"int\", \"always\": true}}}, {\"name\": \"odd\", \"params\": {}, \"ok\": {\"changed\": {\"kind\": \"bool\", \"always\": true}, \"msg\": {\"kind\": \"int\", \"always\": false}}, \"failure\": {\"changed\": {\"kind\": \"bool\", \"always\": true}, \"msg\": {\"kind\": \"text\", \"always\": true}}}]") (codes "{\"all\": {\"hosts\": [\"a\", \"b\", \"c\", \"d\"], \"vars\": {}}, \"g2\": {\"hosts\": [\"a\", \"b\", \"c\"], \"vars\": {}}, \"_meta\": {\"hostvars\": {\"a\": {\"op\": 1.5}, \"b\": {\"i1\": 1}, \"c\": {\"i2\": {\"f\": \"t\", \"g\": [-1]}, \"s1\": 1}, \"d\": {\"i1\": \"\", \"i2\": {}, \"s1\": \"\"}}}}") (codes "[{\"hosts\": [\"c\", \"all\"], \"vars\": {}, \"tasks\": [{\"loop\": \"{{ ansible_play_batch }}\", \"set_fact\": {\"s2\": 1}, \"register\": \"r2\"}]}, {\"hosts\": \"all\", \"vars\": {\"v2\": \"no\"}, \"pre_tasks\": [{\"set_fact\": {\"s1\": \"x{{ r2 | length }}\", \"s2\": \"x\"}, \"ignore_errors\": true}, {\"loop\": \"{{ groups['all'] }}\", \"probe\": {}, \"changed_when\": \"inventory_hostname == 'a'\", \"ignore_errors\": false}, {\"vars\": {}, \"assert\": {\"that\": [\"inventory_hostname in ansible_play_batch\"]}}], \"tasks\": [{\"meta\": \"flush_handlers\"}, {\"loop\": [[\"no\"], \"\"], \"fail\": null, \"register\": \"r3\", \"changed_when\": \"r3.changed == 'a'\", \"ignore_errors\": true}, {\"set_fact\": {\"s1\": [\"{{ r2.failed }}\"]}, \"when\": \"r2 is failed\", \"register\": \"r1\"}]}]") ≡ verdict (accepted 16)
unfolding reading
random_001775 = refl

random_001782 : found (codes "{\"g\": {\"hosts\": [\"b\", \"a\"]}, \"all\": {\"hosts\": [\"c\"], \"vars\": {\"inv\": [1, 2]}}, \"_meta\": {\"hostvars\": {\"a\": {\"opq\": 1.5, \"inv\": [\"x\"]}, \"b\": {\"k\": {\"z\": \"{{ q }}\"}}}}}") (codes "[{\"hosts\": \"all\", \"tasks\": [{\"debug\": {\"msg\": \"{{ r.stdout | default([]) }}\"}, \"register\": \"r\", \"vars\": {\"v2\": \"{{ y }}\"}}, {\"fail\": {\"msg\": \"m\"}, \"when\": [\"s is defined and s is not failed\", \"hostvars['a'].r.rc is defined\"], \"ignore_errors\": true}, {\"set_fact\": {\"s\": null}, \"register\": \"r\", \"failed_when\": \"r is failed\"}, {\"setup\": null, \"until\": true, \"retries\": 2}], \"force_handlers\": true}]") ≡ verdict (accepted 9)
unfolding reading
random_001782 = refl

random_001790 : found (codes "{\"g\": {\"hosts\": [\"b\", \"a\"]}, \"all\": {\"hosts\": [\"c\"], \"vars\": {\"inv\": [1, 2]}}, \"_meta\": {\"hostvars\": {\"a\": {\"opq\": 1.5, \"inv\": [\"x\"]}, \"b\": {\"k\": {\"z\": \"{{ q }}\"}}}}}") (codes "[{\"hosts\": \"b,a\", \"handlers\": [{\"command\": {\"cmd\": \"x{{ hostvars['a'].inv.changed }}\"}, \"when\": [\"r.rc is defined\", \"'b' in ansible_play_batch\"], \"name\": \"h0\"}], \"tasks\": [{\"block\": [{\"block\": [{\"setup\": null, \"register\": \"s\", \"changed_when\": false, \"notify\": \"h0\"}], \"rescue\": [], \"always\": [{\"set_fact\": {\"s\": \"a\"}}], \"when\": \"not (not (v2.changed is skipped))\"}, {\"block\": [{\"set_fact\": {\"y\": \"{{ zz.changed | default(1) }}\"}, \"when\": [\"r is defined\"], \"notify\": \"h0\"}], \"rescue\": [{\"command\": \"x\", \"when\": \"hostvars[inventory_hostname].inv is not skipped\", \"register\": \"r\", \"until\": \"r is succeeded\", \"ignore_errors\": true}]}], \"rescue\": [], \"always\": []}], \"strategy\": \"free\"}]") ≡ verdict (refused (record { code = 1; line = 4; host = Some (codes "b") }))
unfolding reading
random_001790 = refl

random_001794 : found (codes "{\"g\": {\"hosts\": [\"b\", \"a\"]}, \"all\": {\"hosts\": [\"c\"], \"vars\": {\"inv\": [1, 2]}}, \"_meta\": {\"hostvars\": {\"a\": {\"opq\": 1.5, \"inv\": [\"x\"]}, \"b\": {\"k\": {\"z\": \"{{ q }}\"}}}}}") (codes "[{\"hosts\": \"a\", \"pre_tasks\": [{\"ping\": null, \"when\": [\"r is not skipped\"], \"register\": \"r\", \"until\": false}, {\"loop\": \"{{ r.stdout_lines }}\", \"setup\": null, \"when\": \"not ((r.stdout) or (ansible_facts is changed))\", \"failed_when\": \"zz.changed\", \"changed_when\": false}, {\"debug\": {\"msg\": \"x{{ group_names.k | default('d') }}\"}, \"changed_when\": false, \"ignore_errors\": false, \"vars\": {\"v2\": \"{{ s.stdout_lines }}\"}}], \"tasks\": [{\"assert\": {\"that\": \"(hostvars['a'].inv is succeeded) or (hostvars['b'].r == 1)\"}}, {\"block\": [{\"ping\": null, \"register\": \"r\", \"changed_when\": false, \"ignore_errors\": true}], \"rescue\": [{\"setup\": null, \"when\": \"not (inventory_hostname in ansible_play_batch)\", \"register\": \"s\"}, {\"setup\": null, \"when\": [\"hostvars['b'].y is defined\", \"not (r is undefined or r is failed)\"], \"register\": \"s\", \"changed_when\": \"s is changed\", \"until\": true, \"retries\": 1}], \"always\": [{\"command\": {\"cmd\": [\"{{ hostvars['a'].y }}\"]}, \"when\": \"(item in ansible_play_batch) and (groups['g'][0] in ansible_play_batch)\", \"register\": \"r\"}]}], \"serial\": [1, 2]}]") ≡ verdict (refused (record { code = 1; line = 2; host = Some (codes "a") }))
unfolding reading
random_001794 = refl

random_001810 : found (codes "{\"g\": {\"hosts\": [\"b\", \"a\"]}, \"all\": {\"hosts\": [\"c\"], \"vars\": {\"inv\": [1, 2]}}, \"_meta\": {\"hostvars\": {\"a\": {\"opq\": 1.5, \"inv\": [\"x\"]}, \"b\": {\"k\": {\"z\": \"{{ q }}\"}}}}}") (codes "[{\"hosts\": \"all\", \"tasks\": [{\"debug\": {\"msg\": [{\"k\": [\"{{ none }}\"]}]}, \"register\": \"r\"}, {\"block\": [{\"assert\": {\"that\": \"(hostvars['a'].r.rc is succeeded) or (not (ansible_hostname.results is succeeded))\"}, \"register\": \"r\"}, {\"loop\": \"{{ ansible_play_batch }}\", \"stat\": {\"path\": \"p\"}, \"when\": \"ansible_play_batch.stdout_lines is not skipped\", \"register\": \"s\", \"failed_when\": false}], \"rescue\": []}], \"post_tasks\": [{\"set_fact\": {\"y\": 1}, \"changed_when\": true}, {\"assert\": {\"that\": [\"inventory_hostname.results == 'a'\", \"(not (v1.stdout_lines == 'a')) or ((item.results is defined) or (y == 'a'))\"]}, \"register\": \"r\", \"failed_when\": false}, {\"set_fact\": {\"y\": \"{{ hostvars[item].ansible_hostname.k | default(inv.stdout) }}\"}, \"register\": \"r\", \"failed_when\": false}, {\"assert\": {\"that\": [\"hostvars['b'].y is not defined\", \"not ('b' in ansible_play_batch)\"]}}], \"gather_facts\": true}]") ≡ verdict (refused (record { code = 2; line = 5; host = Some (codes "c") }))
unfolding reading
random_001810 = refl

random_001817 : found_with (codes "[{\"name\": \"probe\", \"params\": {\"n\": {\"kind\": \"int\", \"required\": false}, \"l\": {\"kind\": {\"list\": \"text\", \"max\": 3}, \"required\": false}}, \"ok\": {\"changed\": {\"kind\": \"bool\", \"always\": true}, \"v\": {\"kind\": \"int\", \"always\": false}, \"rows\": {\"kind\": {\"list\": \"text\", \"max\": 2}, \"always\": true}, \"deep\": {\"kind\": {\"rec\": {\"a\": {\"kind\": \"text\", \"always\": true}, \"b\": {\"kind\": \"bool\", \"always\": false}}}, \"always\": false}}, \"failure\": {\"changed\": {\"kind\": \"bool\", \"always\": true}, \"msg\": {\"kind\": \"text\", \"always\": true}, \"v\": {\"kind\": \"text\", \"always\": false}, \"why\": {\"kind\": \"int\", \"always\": true}}}, {\"name\": \"odd\", \"params\": {}, \"ok\": {\"changed\": {\"kind\": \"bool\", \"always\": true}, \"msg\": {\"kind\": \"int\", \"always\": false}}, \"failure\": {\"changed\": {\"kind\": \"bool\", \"always\": true}, \"msg\": {\"kind\": \"text\", \"always\": true}}}]") (codes "{\"all\": {\"hosts\": [\"a\", \"b\", \"c\", \"d\"], \"vars\": {\"i1\": {\"f\": {\"f\": \"t\", \"g\": \"a\"}, \"g\": [-1, false]}, \"i2\": \"x\"}}, \"g1\": {\"hosts\": [\"a\", \"b\", \"d\"], \"vars\": {\"i2\": {\"g\": [\"\", 3]}}}, \"g2\": {\"hosts\": [\"b\", \"c\"], \"vars\": {}}, \"_meta\": {\"hostvars\": {\"a\": {\"s1\": \"no\"}, \"b\": {\"i2\": 1}, \"c\": {\"i2\": {\"f\": false, \"g\": 2}}, \"d\": {\"op\": 1.5}}}}") (codes "[{\"hosts\": \"all\", \"tasks\": [{\"set_fact\": {\"s2\": \"t\"}, \"failed_when\": true}, {\"odd\": null}, {\"probe\": null, \"changed_when\": true}, {\"meta\": \"flush_handlers\"}], \"post_tasks\": [{\"loop\": \"{{ groups['all'] }}\", \"odd\": null, \"when\": \"r2 is succeeded\", \"register\": \"r1\", \"ignore_errors\": true}]}, {\"hosts\": [\"c\", \"all\"], \"strategy\": \"free\", \"gather_facts\": true, \"tasks\": [{\"set_fact\": {\"s2\": \"{{ r2 }}\"}, \"ignore_errors\": false}, {\"fail\": null, \"when\": \"hostvars[groups['all'][0]].s3 is undefined\", \"register\": \"r2\"}], \"handlers\": [{\"command\": {\"cmd\": \"x\"}, \"ignore_errors\": false, \"name\": \"h0\", \"notify\": \"h1\", \"listen\": \"t\"}, {\"loop\": \"{{ groups['all'] }}\", \"command\": {\"cmd\": \"x\"}, \"when\": \"item in ansible_play_batch\", \"register\": \"r2\", \"name\": \"h1\"}]}]") ≡ verdict (refused (record { code = 1; line = 6; host = Some (codes "a") }))
unfolding reading
random_001817 = refl

random_001823 : found_with (codes "[{\"name\": \"probe\", \"params\": {\"n\": {\"kind\": \"int\", \"required\": false}, \"l\": {\"kind\": {\"list\": \"text\", \"max\": 3}, \"required\": false}}, \"ok\": {\"changed\": {\"kind\": \"bool\", \"always\": true}, \"v\": {\"kind\": \"int\", \"always\": false}, \"rows\": {\"kind\": {\"list\": \"text\", \"max\": 2}, \"always\": true}, \"deep\": {\"kind\": {\"rec\": {\"a\": {\"kind\": \"text\", \"always\": true}, \"b\": {\"kind\": \"bool\", \"always\": false}}}, \"always\": false}}, \"failure\": {\"changed\": {\"kind\": \"bool\", \"always\": true}, \"msg\": {\"kind\": \"text\", \"always\": true}, \"v\": {\"kind\": \"text\", \"always\": false}, \"why\": {\"kind\": \"int\", \"always\": true}}}, {\"name\": \"odd\", \"params\": {}, \"ok\": {\"changed\": {\"kind\": \"bool\", \"always\": true}, \"msg\": {\"kind\": \"int\", \"always\": false}}, \"failure\": {\"changed\": {\"kind\": \"bool\", \"always\": true}, \"msg\": {\"kind\": \"text\", \"always\": true}}}]") (codes "{\"all\": {\"hosts\": [\"a\", \"b\", \"c\"], \"vars\": {\"s1\": \"b\"}}, \"g1\": {\"hosts\": [\"b\"], \"vars\": {}}, \"_meta\": {\"hostvars\": {\"a\": {\"i2\": \"\"}, \"b\": {\"i2\": \"t\"}, \"c\": {\"i2\": null, \"s1\": [1, \"x\"]}}}}") (codes "[{\"hosts\": \"b\", \"gather_facts\": true, \"tasks\": [{\"vars\": {\"v1\": {\"g\": []}}, \"block\": [{\"when\": \"r1 is not failed\", \"block\": [{\"ping\": null}, {\"command\": {\"cmd\": \"x {{ i1 }}\"}, \"when\": \"r2.stat is undefined\", \"register\": \"r3\", \"changed_when\": \"r3 is failed\"}, {\"debug\": {\"msg\": \"{{ r2 | default(1) }}\"}, \"register\": \"r1\"}]}, {\"debug\": {\"msg\": \"{{ op }}\"}, \"register\": \"r3\"}, {\"loop\": \"{{ r2.results | default([]) }}\", \"vars\": {}, \"stat\": {\"path\": \"/\"}, \"register\": \"r1\"}], \"always\": [{\"assert\": {\"that\": [\"r2 is defined\"]}, \"failed_when\": \"inventory_hostname == 'a'\"}, {\"vars\": {\"v2\": \"{{ r1.skip_reason }}\", \"v3\": \"{{ ansible_play_batch }}\"}, \"setup\": null, \"register\": \"r3\"}]}, {\"command\": {\"cmd\": \"x\"}, \"when\": \"i2 != [1]\", \"register\": \"r1\"}], \"force_handlers\": true}]") ≡ verdict (refused (record { code = 1; line = 5; host = Some (codes "b") }))
unfolding reading
random_001823 = refl

random_001824 : found (codes "{\"g\": {\"hosts\": [\"b\", \"a\"]}, \"all\": {\"hosts\": [\"c\"], \"vars\": {\"inv\": [1, 2]}}, \"_meta\": {\"hostvars\": {\"a\": {\"opq\": 1.5, \"inv\": [\"x\"]}, \"b\": {\"k\": {\"z\": \"{{ q }}\"}}}}}") (codes "[{\"hosts\": \"all\", \"handlers\": [{\"ping\": null, \"when\": \"inventory_hostname.changed == 'a'\", \"register\": \"r\", \"ignore_errors\": true, \"name\": \"h0\"}, {\"setup\": null, \"name\": \"h1\"}], \"tasks\": [{\"block\": [], \"rescue\": [{\"stat\": {\"path\": \"p\"}, \"when\": [\"s.changed\", \"'a' in ansible_play_batch\"], \"register\": \"s\", \"notify\": \"h1\"}, {\"block\": [], \"always\": [{\"assert\": {\"that\": [\"ansible_failed_result.os_family is not skipped\", \"inv.k is not skipped\"]}}]}], \"always\": [{\"fail\": {\"msg\": \"m\"}, \"register\": \"r\"}]}, {\"block\": []}, {\"fail\": null, \"when\": [\"hostvars['a'].inv == 1\", \"((v1.stdout_lines is failed) and (s.msg is not skipped)) or (hostvars['b'].y is skipped)\"], \"ignore_errors\": true, \"notify\": \"h0\"}, {\"block\": [], \"rescue\": []}], \"vars\": {\"v1\": \"{{ opq }}\"}}]") ≡ verdict (accepted 9)
unfolding reading
random_001824 = refl

random_001827 : found_with (codes "[{\"name\": \"probe\", \"params\": {\"n\": {\"kind\": \"int\", \"required\": false}, \"l\": {\"kind\": {\"list\": \"text\", \"max\": 3}, \"required\": false}}, \"ok\": {\"changed\": {\"kind\": \"bool\", \"always\": true}, \"v\": {\"kind\": \"int\", \"always\": false}, \"rows\": {\"kind\": {\"list\": \"text\", \"max\": 2}, \"always\": true}, \"deep\": {\"kind\": {\"rec\": {\"a\": {\"kind\": \"text\", \"always\": true}, \"b\": {\"kind\": \"bool\", \"always\": false}}}, \"always\": false}}, \"failure\": {\"changed\": {\"kind\": \"bool\", \"always\": true}, \"msg\": {\"kind\": \"text\", \"always\": true}, \"v\": {\"kind\": \"text\", \"always\": false}, \"why\": {\"kind\": \"int\", \"always\": true}}}, {\"name\": \"odd\", \"params\": {}, \"ok\": {\"changed\": {\"kind\": \"bool\", \"always\": true}, \"msg\": {\"kind\": \"int\", \"always\": false}}, \"failure\": {\"changed\": {\"kind\": \"bool\", \"always\": true}, \"msg\": {\"kind\": \"text\", \"always\": true}}}]") (codes "{\"all\": {\"hosts\": [\"a\", \"b\", \"c\"], \"vars\": {\"s1\": [false, true]}}, \"_meta\": {\"hostvars\": {\"a\": {\"op\": 1.5}, \"b\": {}, \"c\": {\"s1\": [\"x\"], \"op\": 1.5}}}}") (codes "[{\"hosts\": [\"b\", \"all\"], \"serial\": [1, \"100%\"], \"tasks\": [{\"vars\": {\"v3\": [\"a\"]}, \"block\": [{\"vars\": {\"v1\": \"no\"}, \"block\": [{\"ping\": null}, {\"probe\": {}}], \"rescue\": [{\"command\": {\"cmd\": \"x\"}, \"register\": \"r3\"}, {\"command\": {\"cmd\": \"x\"}, \"ignore_errors\": true}]}, {\"debug\": {\"msg\": \"x\"}}, {\"vars\": {\"v2\": [\"a\"]}, \"block\": [{\"vars\": {}, \"odd\": null}, {\"command\": \"x\", \"register\": \"r1\"}, {\"ping\": null, \"when\": \"r2.changed is not defined\", \"register\": \"r3\", \"failed_when\": \"inventory_hostname == 'a'\"}]}], \"rescue\": [{\"command\": \"x\", \"register\": \"r3\"}, {\"assert\": {\"that\": true}}], \"always\": [{\"vars\": {}, \"ping\": null, \"register\": \"r2\"}]}, {\"debug\": {\"msg\": \"x\"}, \"ignore_errors\": true}, {\"loop\": \"{{ ansible_play_batch }}\", \"debug\": {\"msg\": \"x{{ s3.f }}\"}, \"when\": [\"item in ansible_play_batch\", \"s3 is defined\", \"s3 is succeeded\"], \"register\": \"r3\", \"changed_when\": \"r3.failed is defined and r3.failed == 'a'\"}]}, {\"hosts\": \"all\", \"tasks\": [{\"probe\": null}], \"force_handlers\": true}]") ≡ verdict (accepted 30)
unfolding reading
random_001827 = refl

random_001828 : found (codes "{\"g\": {\"hosts\": [\"b\", \"a\"]}, \"all\": {\"hosts\": [\"c\"], \"vars\": {\"inv\": [1, 2]}}, \"_meta\": {\"hostvars\": {\"a\": {\"opq\": 1.5, \"inv\": [\"x\"]}, \"b\": {\"k\": {\"z\": \"{{ q }}\"}}}}}") (codes "[{\"hosts\": \"b,a\", \"tasks\": [{\"set_fact\": {\"s\": {\"k\": 1}}, \"when\": [\"s is defined and s is not failed\"], \"register\": \"r\"}, {\"loop\": \"{{ ansible_play_batch }}\", \"ping\": null, \"ignore_errors\": true}, {\"loop\": \"{{ ansible_play_batch }}\", \"assert\": {\"that\": [\"inventory_hostname in ansible_play_batch\", \"v2 is failed\"]}, \"register\": \"r\", \"vars\": {\"v1\": \"{{ (hostvars['b'].opq.stat.isdir) and (ansible_hostname.results is skipped) }}\"}}, {\"assert\": {\"that\": [\"item in ansible_play_batch\", \"((r.stdout is changed) or (hostvars[inventory_hostname].opq.stdout is not skipped)) and (s.changed is not defined)\"]}, \"when\": \"(hostvars[item].y.hostname is undefined) or (inv == 'a')\", \"vars\": {\"v2\": {\"k\": \"x{{ hostvars['a'].inv | default('d') }}\"}}}], \"force_handlers\": true, \"vars\": {\"v1\": \"x{{ hostvars['b'].opq.os_family }}\"}}, {\"hosts\": \"a\", \"handlers\": [{\"set_fact\": {\"y\": true}, \"when\": [\"r is defined\", \"not (r is undefined or r is failed)\"], \"name\": \"h0\"}], \"tasks\": [{\"block\": [{\"loop\": \"{{ r.stdout_lines }}\", \"set_fact\": {\"y\": \"{{ group_names }}\"}, \"when\": [\"hostvars['a'].r.rc is defined\"], \"register\": \"r\", \"ignore_errors\": true, \"notify\": \"h0\"}, {\"assert\": {\"that\": \"hostvars[inventory_hostname].opq.hostname is succeeded\"}, \"register\": \"r\"}], \"rescue\": [{\"block\": []}], \"always\": []}, {\"loop\": \"{{ r.stdout_lines }}\", \"stat\": {\"path\": \"p\"}}], \"strategy\": \"free\", \"serial\": 2}]") ≡ verdict (refused (record { code = 1; line = 4; host = Some (codes "b") }))
unfolding reading
random_001828 = refl

random_001840 : found (codes "{\"g\": {\"hosts\": [\"b\", \"a\"]}, \"all\": {\"hosts\": [\"c\"], \"vars\": {\"inv\": [1, 2]}}, \"_meta\": {\"hostvars\": {\"a\": {\"opq\": 1.5, \"inv\": [\"x\"]}, \"b\": {\"k\": {\"z\": \"{{ q }}\"}}}}}") (codes "[{\"hosts\": \"all\", \"handlers\": [{\"stat\": {\"path\": \"p\"}, \"when\": \"groups['g'][0] in ansible_play_batch\", \"register\": \"r\", \"ignore_errors\": false, \"name\": \"h0\"}, {\"debug\": {\"msg\": \"{{ (s.changed == 1) and ('a' in y.msg) }}\"}, \"register\": \"r\", \"name\": \"h1\"}], \"tasks\": [{\"block\": [{\"assert\": {\"that\": \"hostvars[item].inv < 3\"}, \"register\": \"r\", \"ignore_errors\": true, \"notify\": \"h0\"}, {\"command\": {\"cmd\": \"{{ 1 }}\"}}], \"always\": [{\"block\": [{\"stat\": {\"path\": \"p\"}}, {\"command\": {\"cmd\": \"{{ y.msg | default(1) }}\"}, \"failed_when\": true, \"notify\": \"h0\"}], \"rescue\": [{\"setup\": null, \"until\": false, \"retries\": 1}], \"always\": [{\"loop\": \"{{ r.results }}\", \"set_fact\": {\"y\": [null]}, \"when\": \"ansible_facts is skipped\", \"notify\": \"h1\"}]}]}, {\"block\": [], \"rescue\": [{\"block\": [{\"fail\": {\"msg\": \"m\"}, \"when\": [\"r is defined and r is succeeded\"], \"notify\": \"h1\"}], \"rescue\": []}, {\"setup\": null, \"when\": \"inventory_hostname.stdout == 1\", \"register\": \"r\"}], \"always\": [], \"when\": \"zz.hostname == 1\"}], \"post_tasks\": [{\"loop\": \"{{ r.results }}\", \"setup\": null, \"notify\": \"h1\"}, {\"assert\": {\"that\": \"item in ansible_play_batch\"}, \"ignore_errors\": false, \"notify\": \"h1\"}]}]") ≡ verdict (refused (record { code = 1; line = 3; host = Some (codes "c") }))
unfolding reading
random_001840 = refl

random_001842 : found (codes "{\"g\": {\"hosts\": [\"b\", \"a\"]}, \"all\": {\"hosts\": [\"c\"], \"vars\": {\"inv\": [1, 2]}}, \"_meta\": {\"hostvars\": {\"a\": {\"opq\": 1.5, \"inv\": [\"x\"]}, \"b\": {\"k\": {\"z\": \"{{ q }}\"}}}}}") (codes "[{\"hosts\": \"all\", \"tasks\": [{\"meta\": \"flush_handlers\"}]}]") ≡ verdict (accepted 0)
unfolding reading
random_001842 = refl
