-- Cases of random, computed from the bytes of their files.
use Rattle.std.specs.Prelude.{◌≡◌, refl, Some, None, codes}
use Rattle.pb_language.specs.Verdict.{accepted, refused}
use Rattle.pb_byte_rows.specs.Found.{verdict, found, found_with}
use Rattle.pb_byte_rows.proofs.Computing.{reading}

random_100016 : found (codes "{\"g\": {\"hosts\": [\"b\", \"a\"]}, \"all\": {\"hosts\": [\"c\"], \"vars\": {\"inv\": [1, 2]}}, \"_meta\": {\"hostvars\": {\"a\": {\"opq\": 1.5, \"inv\": [\"x\"]}, \"b\": {\"k\": {\"z\": \"{{ q }}\"}}}}}") (codes "[{\"hosts\": \"g\", \"tasks\": [{\"set_fact\": {\"s\": 1}, \"when\": [\"r is defined and r is succeeded\"]}, {\"block\": [{\"assert\": {\"that\": \"(not (opq.stdout_lines == 1)) or ((group_names is not skipped) or ('a' in ansible_play_batch.msg))\"}, \"register\": \"r\", \"changed_when\": \"r is changed\"}, {\"debug\": {\"msg\": [null]}, \"when\": [\"r.rc is defined\", \"r is defined\"], \"register\": \"r\", \"failed_when\": true}], \"rescue\": [{\"command\": {\"cmd\": \"x{{ inv }}\"}, \"register\": \"s\", \"ignore_errors\": true}, {\"loop\": \"{{ groups.all }}\", \"stat\": {\"path\": \"p\"}, \"when\": [\"s is defined and s is not failed\"], \"register\": \"r\"}]}, {\"block\": [], \"always\": [{\"command\": \"x\", \"when\": [\"r is not skipped\", \"not (r is undefined or r is failed)\"]}]}, {\"assert\": {\"that\": \"'a' in hostvars['b'].y\"}, \"register\": \"s\"}], \"serial\": 2}, {\"hosts\": \"all\", \"handlers\": [{\"command\": \"x\", \"register\": \"r\", \"name\": \"h0\"}, {\"debug\": {\"msg\": \"{{ s.os_family | length }}\"}, \"when\": [\"hostvars['a'].r.rc is defined\"], \"name\": \"h1\"}], \"tasks\": [{\"block\": [{\"loop\": \"{{ groups.all }}\", \"ping\": null, \"register\": \"s\"}], \"rescue\": [], \"always\": [{\"block\": [], \"when\": \"zz is not skipped\", \"ignore_errors\": true}]}], \"vars\": {\"v1\": \"a\"}}]") ≡ verdict (refused (record { code = 1; line = 4; host = Some (codes "b") }))
unfolding reading
random_100016 = refl

random_100020 : found (codes "{\"g\": {\"hosts\": [\"b\", \"a\"]}, \"all\": {\"hosts\": [\"c\"], \"vars\": {\"inv\": [1, 2]}}, \"_meta\": {\"hostvars\": {\"a\": {\"opq\": 1.5, \"inv\": [\"x\"]}, \"b\": {\"k\": {\"z\": \"{{ q }}\"}}}}}") (codes "[{\"hosts\": \"all\", \"handlers\": [{\"set_fact\": {\"s\": [\"x{{ zz.results }}\"]}, \"when\": \"inventory_hostname.stdout_lines is failed\", \"register\": \"r\", \"failed_when\": \"r.changed\", \"name\": \"h0\"}], \"tasks\": [{\"block\": [], \"rescue\": [{\"block\": [{\"set_fact\": {\"y\": \"{{ zz.hostname | default(hostvars[item].s.stat.isdir) }}\"}, \"when\": \"not ((inventory_hostname is not skipped) and (item.msg is undefined))\", \"failed_when\": \"zz.changed\"}, {\"loop\": \"{{ r.stdout_lines }}\", \"set_fact\": {\"y\": {\"k\": 1}}, \"register\": \"s\", \"notify\": \"h0\"}], \"rescue\": []}, {\"ping\": null, \"when\": \"(groups.g < 3) and (r.results is changed)\", \"failed_when\": \"zz is failed\", \"notify\": \"h0\"}]}, {\"loop\": \"{{ groups['g'] }}\", \"debug\": {\"msg\": \"{{ inv.stat.isdir | default(1) }}\"}, \"register\": \"r\"}], \"serial\": 2, \"force_handlers\": true}]") ≡ verdict (refused (record { code = 4; line = 8; host = Some (codes "c") }))
unfolding reading
random_100020 = refl

random_100022 : found (codes "{\"g\": {\"hosts\": [\"b\", \"a\"]}, \"all\": {\"hosts\": [\"c\"], \"vars\": {\"inv\": [1, 2]}}, \"_meta\": {\"hostvars\": {\"a\": {\"opq\": 1.5, \"inv\": [\"x\"]}, \"b\": {\"k\": {\"z\": \"{{ q }}\"}}}}}") (codes "[{\"hosts\": \"a\", \"handlers\": [{\"assert\": {\"that\": \"(inv.rc is skipped) and ((r.rc is failed) or (hostvars['a'].r.rc is not skipped))\"}, \"when\": \"ansible_facts.os_family < 3\", \"register\": \"r\", \"name\": \"h0\"}, {\"command\": \"x\", \"when\": [\"hostvars['a'].r.rc is defined\", \"not (r is undefined or r is failed)\"], \"register\": \"r\", \"name\": \"h1\"}], \"pre_tasks\": [{\"block\": [{\"loop\": [1, 2], \"stat\": {\"path\": \"p\"}, \"changed_when\": true}, {\"assert\": {\"that\": \"hostvars['a'].r.rc is not skipped\"}, \"register\": \"r\", \"changed_when\": \"r is changed\", \"ignore_errors\": true}], \"rescue\": [], \"always\": [{\"stat\": {\"path\": \"p\"}, \"when\": [\"r.rc is defined\"], \"register\": \"s\", \"notify\": \"h0\", \"vars\": {\"v1\": \"{{ opq.stdout | default('d') }}\"}}]}], \"tasks\": [{\"block\": [], \"rescue\": []}, {\"ping\": null, \"register\": \"s\"}, {\"block\": [{\"setup\": null, \"when\": [\"r.rc is defined\"]}], \"always\": [], \"ignore_errors\": false}], \"force_handlers\": true}, {\"hosts\": \"g\", \"pre_tasks\": [{\"meta\": \"flush_handlers\"}, {\"fail\": null, \"register\": \"s\", \"ignore_errors\": false}], \"tasks\": [{\"debug\": {\"msg\": \"{{ r.changed }}\"}, \"changed_when\": false}, {\"set_fact\": {\"y\": \"{{ s.os_family }}\"}, \"register\": \"s\"}, {\"command\": \"x\", \"register\": \"s\", \"vars\": {\"v1\": \"{{ ansible_hostname.os_family }}\"}}], \"serial\": 1, \"force_handlers\": true}]") ≡ verdict (refused (record { code = 2; line = 4; host = Some (codes "a") }))
unfolding reading
random_100022 = refl

random_100023 : found_with (codes "[{\"name\": \"probe\", \"params\": {\"n\": {\"kind\": \"int\", \"required\": false}, \"l\": {\"kind\": {\"list\": \"text\", \"max\": 3}, \"required\": false}}, \"ok\": {\"changed\": {\"kind\": \"bool\", \"always\": true}, \"v\": {\"kind\": \"int\", \"always\": false}, \"rows\": {\"kind\": {\"list\": \"text\", \"max\": 2}, \"always\": true}, \"deep\": {\"kind\": {\"rec\": {\"a\": {\"kind\": \"text\", \"always\": true}, \"b\": {\"kind\": \"bool\", \"always\": false}}}, \"always\": false}}, \"failure\": {\"changed\": {\"kind\": \"bool\", \"always\": true}, \"msg\": {\"kind\": \"text\", \"always\": true}, \"v\": {\"kind\": \"text\", \"always\": false}, \"why\": {\"kind\": \"int\", \"always\": true}}}, {\"name\": \"odd\", \"params\": {}, \"ok\": {\"changed\": {\"kind\": \"bool\", \"always\": true}, \"msg\": {\"kind\": \"int\", \"always\": false}}, \"failure\": {\"changed\": {\"kind\": \"bool\", \"always\": true}, \"msg\": {\"kind\": \"text\", \"always\": true}}}]") (codes "{\"all\": {\"hosts\": [\"a\"], \"vars\": {\"i1\": \"a\"}}, \"g1\": {\"hosts\": [], \"vars\": {\"i1\": null, \"i2\": true}}, \"g2\": {\"hosts\": [], \"vars\": {\"i1\": 1, \"i2\": true}}, \"_meta\": {\"hostvars\": {\"a\": {\"i1\": null, \"i2\": {}, \"s1\": []}}}}") (codes "[{\"hosts\": \"all\", \"serial\": [1, \"100%\"], \"pre_tasks\": [{\"meta\": \"flush_handlers\"}], \"tasks\": [{\"debug\": {\"msg\": \"{{ s3.rc | default('z') }}\"}, \"register\": \"r1\"}], \"handlers\": [{\"command\": {\"cmd\": \"x\"}, \"when\": \"hostvars[inventory_hostname].i1 is undefined\", \"failed_when\": \"inventory_hostname == 'a'\", \"name\": \"h0\"}, {\"loop\": \"{{ r1.results | default([]) }}\", \"probe\": {}, \"when\": \"s1.changed is not defined\", \"register\": \"r1\", \"name\": \"h1\", \"listen\": \"t\"}, {\"vars\": {\"v2\": \"{{ 't' }}\"}, \"command\": {\"cmd\": \"x x{{ r2 | default([]) }}\"}, \"when\": \"inventory_hostname != 'a'\", \"name\": \"h2\", \"listen\": \"t\"}]}]") ≡ verdict (refused (record { code = 4; line = 6; host = Some (codes "a") }))
unfolding reading
random_100023 = refl

random_100030 : found (codes "{\"g\": {\"hosts\": [\"b\", \"a\"]}, \"all\": {\"hosts\": [\"c\"], \"vars\": {\"inv\": [1, 2]}}, \"_meta\": {\"hostvars\": {\"a\": {\"opq\": 1.5, \"inv\": [\"x\"]}, \"b\": {\"k\": {\"z\": \"{{ q }}\"}}}}}") (codes "[{\"hosts\": \"g\", \"handlers\": [{\"fail\": {\"msg\": \"m\"}, \"when\": [\"r is defined\"], \"vars\": {\"v1\": \"{{ ansible_failed_result }}\"}, \"name\": \"h0\"}, {\"command\": \"x\", \"name\": \"h1\"}], \"tasks\": [{\"block\": []}, {\"block\": [{\"stat\": {\"path\": \"p\"}, \"register\": \"r\", \"vars\": {\"v2\": {\"k\": 1}}}], \"rescue\": [{\"command\": {\"cmd\": \"x{{ y | join(',') }}\"}, \"when\": [\"r.rc is defined\", \"hostvars['b'].y is defined\"]}], \"always\": []}], \"strategy\": \"free\", \"serial\": \"50%\"}]") ≡ verdict (refused (record { code = 1; line = 5; host = Some (codes "b") }))
unfolding reading
random_100030 = refl

random_100032 : found (codes "{\"g\": {\"hosts\": [\"b\", \"a\"]}, \"all\": {\"hosts\": [\"c\"], \"vars\": {\"inv\": [1, 2]}}, \"_meta\": {\"hostvars\": {\"a\": {\"opq\": 1.5, \"inv\": [\"x\"]}, \"b\": {\"k\": {\"z\": \"{{ q }}\"}}}}}") (codes "[{\"hosts\": \"g\", \"tasks\": [{\"block\": [{\"debug\": {\"msg\": \"{{ ansible_play_batch.hostname }}\"}, \"when\": [\"'a' in ansible_play_batch\", \"r.rc is defined\"]}], \"rescue\": [{\"setup\": null, \"register\": \"s\"}]}], \"force_handlers\": true, \"gather_facts\": true}]") ≡ verdict (refused (record { code = 4; line = 4; host = Some (codes "b") }))
unfolding reading
random_100032 = refl

random_100039 : found_with (codes "[{\"name\": \"probe\", \"params\": {\"n\": {\"kind\": \"int\", \"required\": false}, \"l\": {\"kind\": {\"list\": \"text\", \"max\": 3}, \"required\": false}}, \"ok\": {\"changed\": {\"kind\": \"bool\", \"always\": true}, \"v\": {\"kind\": \"int\", \"always\": false}, \"rows\": {\"kind\": {\"list\": \"text\", \"max\": 2}, \"always\": true}, \"deep\": {\"kind\": {\"rec\": {\"a\": {\"kind\": \"text\", \"always\": true}, \"b\": {\"kind\": \"bool\", \"always\": false}}}, \"always\": false}}, \"failure\": {\"changed\": {\"kind\": \"bool\", \"always\": true}, \"msg\": {\"kind\": \"text\", \"always\": true}, \"v\": {\"kind\": \"text\", \"always\": false}, \"why\": {\"kind\": \"int\", \"always\": true}}}, {\"name\": \"odd\", \"params\": {}, \"ok\": {\"changed\": {\"kind\": \"bool\", \"always\": true}, \"msg\": {\"kind\": \"int\", \"always\": false}}, \"failure\": {\"changed\": {\"kind\": \"bool\", \"always\": true}, \"msg\": {\"kind\": \"text\", \"always\": true}}}]") (codes "{\"all\": {\"hosts\": [\"a\", \"b\", \"c\", \"d\"], \"vars\": {}}, \"g1\": {\"hosts\": [\"a\", \"c\"], \"vars\": {\"i1\": [true]}}, \"_meta\": {\"hostvars\": {\"a\": {\"op\": 1.5}, \"b\": {\"i2\": \"a\"}, \"c\": {}, \"d\": {\"op\": 1.5}}}}") (codes "[{\"hosts\": \"all\", \"vars\": {\"v1\": \"{{ r1.failed }}\", \"v2\": \"{{ hostvars['b'].i1 | default([]) }}\", \"v3\": \"{{ r2.failed }}\"}, \"tasks\": [{\"debug\": {\"msg\": \"{{ hostvars['b'].i2.f | default(1) }}\"}, \"register\": \"r3\"}, {\"vars\": {\"v2\": \"{{ r1.changed | default('z') }}\", \"v3\": \"{{ (r3.failed) == (r3.failed) }}\"}, \"command\": {\"cmd\": \"x\"}, \"when\": \"'d' not in ansible_play_batch\"}, {\"command\": \"x\"}]}]") ≡ verdict (accepted 8)
unfolding reading
random_100039 = refl

random_100042 : found (codes "{\"g\": {\"hosts\": [\"b\", \"a\"]}, \"all\": {\"hosts\": [\"c\"], \"vars\": {\"inv\": [1, 2]}}, \"_meta\": {\"hostvars\": {\"a\": {\"opq\": 1.5, \"inv\": [\"x\"]}, \"b\": {\"k\": {\"z\": \"{{ q }}\"}}}}}") (codes "[{\"hosts\": \"all\", \"tasks\": [{\"setup\": null, \"until\": false, \"retries\": 2}, {\"command\": {\"cmd\": true}, \"register\": \"s\", \"until\": \"s is succeeded\", \"retries\": 1}], \"gather_facts\": true}]") ≡ verdict (refused (record { code = 4; line = 4; host = Some (codes "c") }))
unfolding reading
random_100042 = refl

random_100062 : found (codes "{\"g\": {\"hosts\": [\"b\", \"a\"]}, \"all\": {\"hosts\": [\"c\"], \"vars\": {\"inv\": [1, 2]}}, \"_meta\": {\"hostvars\": {\"a\": {\"opq\": 1.5, \"inv\": [\"x\"]}, \"b\": {\"k\": {\"z\": \"{{ q }}\"}}}}}") (codes "[{\"hosts\": \"b,a\", \"tasks\": [{\"command\": {\"cmd\": 1}, \"register\": \"r\"}, {\"debug\": {\"msg\": \"{{ inventory_hostname }}\"}, \"register\": \"s\"}], \"post_tasks\": [{\"command\": \"x\", \"when\": [\"'b' in ansible_play_batch\"], \"failed_when\": \"zz.changed\", \"until\": false, \"retries\": 2}, {\"stat\": {\"path\": \"p\"}, \"register\": \"r\"}, {\"block\": [{\"block\": [{\"ping\": null, \"register\": \"s\", \"vars\": {\"v1\": \"{{ [1, 2] }}\"}}, {\"loop\": \"{{ ansible_play_batch }}\", \"set_fact\": {\"s\": [\"{{ hostvars[item].r.changed }}\"]}, \"register\": \"s\", \"changed_when\": true, \"ignore_errors\": true}]}, {\"set_fact\": {\"y\": \"{{ hostvars['b'].inv.msg }}\"}, \"register\": \"s\", \"vars\": {\"v1\": true}}], \"rescue\": [{\"block\": [{\"assert\": {\"that\": \"(inventory_hostname in ansible_play_batch) or (ansible_failed_result.changed is succeeded)\"}, \"when\": \"not (ansible_facts.changed is failed)\"}]}], \"always\": []}], \"force_handlers\": true, \"vars\": {\"v1\": [{\"k\": [1, 2]}]}}, {\"hosts\": \"all\", \"tasks\": [{\"debug\": {\"msg\": \"{{ y }}\"}, \"register\": \"s\"}, {\"meta\": \"flush_handlers\"}, {\"command\": \"x\", \"when\": [\"r is not skipped\"], \"register\": \"s\", \"failed_when\": true}]}]") ≡ verdict (refused (record { code = 4; line = 2; host = Some (codes "b") }))
unfolding reading
random_100062 = refl

random_100068 : found (codes "{\"g\": {\"hosts\": [\"b\", \"a\"]}, \"all\": {\"hosts\": [\"c\"], \"vars\": {\"inv\": [1, 2]}}, \"_meta\": {\"hostvars\": {\"a\": {\"opq\": 1.5, \"inv\": [\"x\"]}, \"b\": {\"k\": {\"z\": \"{{ q }}\"}}}}}") (codes "[{\"hosts\": \"all\", \"handlers\": [{\"loop\": [\"a\", \"b\"], \"command\": {\"cmd\": \"{{ 'a' }}\"}, \"when\": [\"group_names is succeeded\", \"(y.stat.isdir) and ('b' in ansible_play_batch)\"], \"register\": \"r\", \"name\": \"h0\"}], \"tasks\": [{\"block\": [], \"rescue\": [], \"always\": [{\"command\": \"x\", \"register\": \"s\", \"until\": \"s is succeeded\", \"ignore_errors\": true}]}, {\"set_fact\": {\"y\": 1}, \"register\": \"s\", \"failed_when\": \"s is failed\", \"changed_when\": true, \"vars\": {\"v2\": \"{{ group_names | length }}\"}}, {\"assert\": {\"that\": [\"(hostvars['b'].y == 'a') and (opq.changed == 'a')\", \"not (inv)\"]}, \"failed_when\": false}, {\"command\": {\"cmd\": \"{{ r.rc }}\"}, \"when\": [\"((inventory_hostname is changed) or (v1.stdout is skipped)) or ((hostvars[inventory_hostname].inv.k) or (hostvars['b'].y is changed))\", \"group_names.rc == 'a'\"], \"failed_when\": false, \"notify\": \"h0\"}], \"serial\": 2, \"gather_facts\": true}]") ≡ verdict (refused (record { code = 2; line = 6; host = Some (codes "c") }))
unfolding reading
random_100068 = refl

random_100070 : found (codes "{\"g\": {\"hosts\": [\"b\", \"a\"]}, \"all\": {\"hosts\": [\"c\"], \"vars\": {\"inv\": [1, 2]}}, \"_meta\": {\"hostvars\": {\"a\": {\"opq\": 1.5, \"inv\": [\"x\"]}, \"b\": {\"k\": {\"z\": \"{{ q }}\"}}}}}") (codes "[{\"hosts\": \"all\", \"tasks\": [{\"block\": []}, {\"stat\": {\"path\": \"p\"}, \"register\": \"s\"}], \"force_handlers\": true, \"vars\": {\"v1\": \"{{ group_names.stdout }}\"}}]") ≡ verdict (accepted 3)
unfolding reading
random_100070 = refl

random_100072 : found (codes "{\"g\": {\"hosts\": [\"b\", \"a\"]}, \"all\": {\"hosts\": [\"c\"], \"vars\": {\"inv\": [1, 2]}}, \"_meta\": {\"hostvars\": {\"a\": {\"opq\": 1.5, \"inv\": [\"x\"]}, \"b\": {\"k\": {\"z\": \"{{ q }}\"}}}}}") (codes "[{\"hosts\": \"g\", \"pre_tasks\": [{\"set_fact\": {\"y\": true}, \"when\": [\"y is defined\"], \"register\": \"s\", \"ignore_errors\": true}], \"tasks\": [{\"setup\": null, \"when\": [\"r is not skipped\", \"'b' in ansible_play_batch\"], \"register\": \"r\", \"changed_when\": false}], \"serial\": [1, 2]}, {\"hosts\": \"g\", \"tasks\": [{\"set_fact\": {\"s\": \"{{ r.changed }}\"}}, {\"loop\": [], \"set_fact\": {\"y\": \"x{{ s.changed }}\"}, \"when\": [\"'a' in ansible_play_batch\", \"r is not skipped\"], \"register\": \"s\"}, {\"block\": [{\"loop\": \"{{ r.results }}\", \"set_fact\": {\"y\": \"{{ r.changed }}\"}, \"when\": [\"hostvars['b'].y is defined\"]}, {\"fail\": null, \"ignore_errors\": true}], \"rescue\": [{\"block\": [{\"command\": \"x\", \"when\": \"item in ansible_play_batch\", \"register\": \"s\"}, {\"command\": \"x\", \"register\": \"s\"}]}]}, {\"assert\": {\"that\": \"v1.results is skipped\"}, \"ignore_errors\": false}], \"post_tasks\": [{\"debug\": {\"msg\": \"{{ true }}\"}, \"register\": \"s\"}, {\"loop\": \"{{ r.stdout_lines }}\", \"setup\": null}], \"vars\": {\"v1\": \"{{ r.stdout | default([]) }}\"}}]") ≡ verdict (refused (record { code = 1; line = 3; host = Some (codes "b") }))
unfolding reading
random_100072 = refl

random_100075 : found_with (codes "[{\"name\": \"probe\", \"params\": {\"n\": {\"kind\": \"int\", \"required\": false}, \"l\": {\"kind\": {\"list\": \"text\", \"max\": 3}, \"required\": false}}, \"ok\": {\"changed\": {\"kind\": \"bool\", \"always\": true}, \"v\": {\"kind\": \"int\", \"always\": false}, \"rows\": {\"kind\": {\"list\": \"text\", \"max\": 2}, \"always\": true}, \"deep\": {\"kind\": {\"rec\": {\"a\": {\"kind\": \"text\", \"always\": true}, \"b\": {\"kind\": \"bool\", \"always\": false}}}, \"always\": false}}, \"failure\": {\"changed\": {\"kind\": \"bool\", \"always\": true}, \"msg\": {\"kind\": \"text\", \"always\": true}, \"v\": {\"kind\": \"text\", \"always\": false}, \"why\": {\"kind\": \"int\", \"always\": true}}}, {\"name\": \"odd\", \"params\": {}, \"ok\": {\"changed\": {\"kind\": \"bool\", \"always\": true}, \"msg\": {\"kind\": \"int\", \"always\": false}}, \"failure\": {\"changed\": {\"kind\": \"bool\", \"always\": true}, \"msg\": {\"kind\": \"text\", \"always\": true}}}]") (codes "{\"all\": {\"hosts\": [\"a\", \"b\"], \"vars\": {\"op\": 1.5}}, \"g1\": {\"hosts\": [\"a\", \"b\"], \"vars\": {}, \"children\": [\"g2\"]}, \"g2\": {\"hosts\": [], \"vars\": {}}, \"_meta\": {\"hostvars\": {\"a\": {\"i2\": \"x\"}, \"b\": {\"i2\": [1, \"no\"]}}}}") (codes "[{\"hosts\": \"b\", \"vars\": {\"v1\": \"{{ r2.changed }}\"}, \"tasks\": [{\"vars\": {\"v1\": \"{{ (hostvars['b'].i1.rc) == (r3.failed) }}\"}, \"command\": {\"cmd\": \"x\"}, \"register\": \"r1\", \"changed_when\": \"r1.stdout is defined and r1.stdout == 'a'\"}]}]") ≡ verdict (accepted 1)
unfolding reading
random_100075 = refl

random_100092 : found (codes "{\"g\": {\"hosts\": [\"b\", \"a\"]}, \"all\": {\"hosts\": [\"c\"], \"vars\": {\"inv\": [1, 2]}}, \"_meta\": {\"hostvars\": {\"a\": {\"opq\": 1.5, \"inv\": [\"x\"]}, \"b\": {\"k\": {\"z\": \"{{ q }}\"}}}}}") (codes "[{\"hosts\": \"b,a\", \"handlers\": [{\"stat\": {\"path\": \"p\"}, \"when\": [\"(not (hostvars[inventory_hostname].inv < 3)) and (not (hostvars[item].ansible_hostname.results is skipped))\", \"hostvars['a'].y.stdout is defined\"], \"register\": \"r\", \"ignore_errors\": true, \"name\": \"h0\"}], \"tasks\": [{\"block\": [], \"always\": [{\"block\": [{\"ping\": null, \"when\": [\"r is defined\"], \"failed_when\": \"zz.changed\", \"until\": false, \"retries\": 2, \"notify\": \"h0\"}, {\"fail\": {\"msg\": \"m\"}, \"notify\": \"h0\"}], \"rescue\": [], \"always\": [{\"set_fact\": {\"y\": \"{{ r.stdout }}\"}, \"when\": [\"r is not skipped\"], \"register\": \"s\", \"ignore_errors\": true}], \"when\": \"inventory_hostname.stdout is not defined\"}]}, {\"set_fact\": {\"s\": \"{{ none }}\"}, \"when\": [\"y is defined\", \"r is defined\"], \"changed_when\": true, \"notify\": \"h0\"}, {\"command\": \"x\", \"register\": \"s\"}, {\"command\": \"x\", \"when\": [\"r is not skipped\"], \"until\": false, \"retries\": 1}]}, {\"hosts\": \"all\", \"tasks\": [{\"stat\": {\"path\": \"p\"}, \"when\": \"r.failed is not skipped\"}], \"strategy\": \"free\", \"force_handlers\": true}]") ≡ verdict (refused (record { code = 1; line = 4; host = Some (codes "b") }))
unfolding reading
random_100092 = refl

random_100100 : found (codes "{\"g\": {\"hosts\": [\"b\", \"a\"]}, \"all\": {\"hosts\": [\"c\"], \"vars\": {\"inv\": [1, 2]}}, \"_meta\": {\"hostvars\": {\"a\": {\"opq\": 1.5, \"inv\": [\"x\"]}, \"b\": {\"k\": {\"z\": \"{{ q }}\"}}}}}") (codes "[{\"hosts\": \"g\", \"handlers\": [{\"set_fact\": {\"s\": \"{{ 1 }}\"}, \"register\": \"s\", \"name\": \"h0\"}, {\"command\": {\"cmd\": \"{{ true }}\"}, \"when\": [\"s is defined and s is not failed\"], \"register\": \"s\", \"changed_when\": false, \"until\": true, \"retries\": 1, \"ignore_errors\": true, \"name\": \"h1\"}], \"tasks\": [{\"loop\": \"{{ groups.all }}\", \"setup\": null, \"register\": \"s\"}, {\"debug\": {\"msg\": [\"x{{ (ansible_facts.stat.isdir is undefined) and (y is failed) }}\"]}, \"when\": [\"not ('a' in ansible_play_batch)\", \"((y is changed) and (hostvars['b'].ansible_hostname.os_family is changed)) and (groups.g == 1)\"]}, {\"loop\": [], \"ping\": null, \"when\": \"((y < 3) and (r.changed is defined)) or (ansible_hostname.hostname is not skipped)\", \"notify\": \"h1\"}, {\"ping\": null, \"when\": [\"ansible_play_batch == 1\", \"('b' in ansible_play_batch) or ((y.changed is succeeded) or (ansible_play_batch == 'a'))\"], \"register\": \"s\"}], \"serial\": \"50%\"}, {\"hosts\": \"a\", \"handlers\": [{\"loop\": \"{{ groups.all }}\", \"fail\": {\"msg\": \"m\"}, \"when\": [\"item in ansible_play_batch\", \"'a' in hostvars[item].s.os_family\"], \"register\": \"r\", \"name\": \"h0\"}, {\"loop\": \"{{ groups['g'] }}\", \"fail\": {\"msg\": \"m\"}, \"register\": \"r\", \"name\": \"h1\"}], \"tasks\": [{\"setup\": null, \"when\": \"not (item is skipped)\", \"register\": \"s\", \"notify\": \"h1\", \"vars\": {\"v1\": \"{{ (item.os_family is changed) and (y is changed) }}\"}}]}]") ≡ verdict (refused (record { code = 1; line = 3; host = Some (codes "b") }))
unfolding reading
random_100100 = refl

random_100112 : found (codes "{\"g\": {\"hosts\": [\"b\", \"a\"]}, \"all\": {\"hosts\": [\"c\"], \"vars\": {\"inv\": [1, 2]}}, \"_meta\": {\"hostvars\": {\"a\": {\"opq\": 1.5, \"inv\": [\"x\"]}, \"b\": {\"k\": {\"z\": \"{{ q }}\"}}}}}") (codes "[{\"hosts\": \"all\", \"handlers\": [{\"fail\": {\"msg\": \"m\"}, \"name\": \"h0\"}, {\"assert\": {\"that\": [\"('a' in ansible_play_batch) or (not (groups.g is failed))\", \"not (item in ansible_play_batch)\"]}, \"when\": \"groups['g'][0] in ansible_play_batch\", \"register\": \"r\", \"name\": \"h1\"}], \"tasks\": [{\"debug\": {\"msg\": \"{{ v2 }}\"}, \"register\": \"s\", \"notify\": \"h1\"}, {\"block\": [], \"rescue\": [{\"set_fact\": {\"s\": \"{{ opq.results | join(',') }}\"}}], \"always\": [], \"ignore_errors\": false}], \"force_handlers\": true, \"vars\": {\"v1\": \"{{ group_names }}\"}}]") ≡ verdict (refused (record { code = 1; line = 2; host = Some (codes "c") }))
unfolding reading
random_100112 = refl

random_100113 : found_with (codes "[{\"name\": \"probe\", \"params\": {\"n\": {\"kind\": \"int\", \"required\": false}, \"l\": {\"kind\": {\"list\": \"text\", \"max\": 3}, \"required\": false}}, \"ok\": {\"changed\": {\"kind\": \"bool\", \"always\": true}, \"v\": {\"kind\": \"int\", \"always\": false}, \"rows\": {\"kind\": {\"list\": \"text\", \"max\": 2}, \"always\": true}, \"deep\": {\"kind\": {\"rec\": {\"a\": {\"kind\": \"text\", \"always\": true}, \"b\": {\"kind\": \"bool\", \"always\": false}}}, \"always\": false}}, \"failure\": {\"changed\": {\"kind\": \"bool\", \"always\": true}, \"msg\": {\"kind\": \"text\", \"always\": true}, \"v\": {\"kind\": \"text\", \"always\": false}, \"why\": {\"kind\": \"int\", \"always\": true}}}, {\"name\": \"odd\", \"params\": {}, \"ok\": {\"changed\": {\"kind\": \"bool\", \"always\": true}, \"msg\": {\"kind\": \"int\", \"always\": false}}, \"failure\": {\"changed\": {\"kind\": \"bool\", \"always\": true}, \"msg\": {\"kind\": \"text\", \"always\": true}}}]") (codes "{\"all\": {\"hosts\": [\"a\", \"b\", \"c\"], \"vars\": {\"op\": 1.5}}, \"g2\": {\"hosts\": [\"a\", \"b\"], \"vars\": {\"s1\": [\"\", \"b\"]}}, \"_meta\": {\"hostvars\": {\"a\": {\"op\": 1.5}, \"b\": {\"i1\": false, \"s1\": true}, \"c\": {}}}}") (codes "[{\"hosts\": \"all\", \"tasks\": [{\"when\": \"r2.changed is defined\", \"block\": [{\"probe\": {}, \"register\": \"r1\"}, {\"loop\": \"{{ r1.stdout_lines | default([]) }}\", \"ping\": null, \"register\": \"r1\"}], \"always\": [{\"fail\": {\"msg\": \"m\"}, \"register\": \"r2\", \"notify\": \"h1\", \"changed_when\": true}]}], \"handlers\": [{\"loop\": \"{{ ansible_play_batch }}\", \"stat\": {\"path\": \"/\"}, \"when\": \"item in ansible_play_batch\", \"register\": \"r2\", \"name\": \"h0\", \"notify\": \"h1\"}, {\"command\": \"x\", \"register\": \"r2\", \"name\": \"h1\", \"listen\": \"t\", \"notify\": \"h2\"}, {\"assert\": {\"that\": [\"r1 is not succeeded\"]}, \"register\": \"r1\", \"name\": \"h2\", \"listen\": \"t\"}]}]") ≡ verdict (accepted 15)
unfolding reading
random_100113 = refl

random_100118 : found (codes "{\"g\": {\"hosts\": [\"b\", \"a\"]}, \"all\": {\"hosts\": [\"c\"], \"vars\": {\"inv\": [1, 2]}}, \"_meta\": {\"hostvars\": {\"a\": {\"opq\": 1.5, \"inv\": [\"x\"]}, \"b\": {\"k\": {\"z\": \"{{ q }}\"}}}}}") (codes "[{\"hosts\": \"all\", \"handlers\": [{\"loop\": [\"a\", \"b\"], \"setup\": null, \"register\": \"r\", \"name\": \"h0\"}], \"tasks\": [{\"loop\": \"{{ r.results }}\", \"command\": \"x\"}, {\"block\": [{\"loop\": \"{{ ansible_play_batch }}\", \"set_fact\": {\"y\": \"{{ inv }}\"}, \"when\": \"((item.msg < 3) or (r)) or (not (r.failed is succeeded))\", \"register\": \"s\", \"notify\": \"h0\"}]}, {\"set_fact\": {\"s\": {\"k\": 1}}, \"notify\": \"h0\"}], \"post_tasks\": [{\"loop\": \"{{ inv }}\", \"fail\": null}, {\"loop\": [], \"ping\": null, \"register\": \"r\", \"ignore_errors\": true}, {\"fail\": {\"msg\": \"m\"}, \"register\": \"s\", \"ignore_errors\": true, \"vars\": {\"v2\": \"x{{ hostvars[item].inv }}\"}}, {\"meta\": \"flush_handlers\"}], \"force_handlers\": true}]") ≡ verdict (refused (record { code = 1; line = 2; host = Some (codes "c") }))
unfolding reading
random_100118 = refl

random_100125 : found_with (codes "[{\"name\": \"probe\", \"params\": {\"n\": {\"kind\": \"int\", \"required\": false}, \"l\": {\"kind\": {\"list\": \"text\", \"max\": 3}, \"required\": false}}, \"ok\": {\"changed\": {\"kind\": \"bool\", \"always\": true}, \"v\": {\"kind\": \"int\", \"always\": false}, \"rows\": {\"kind\": {\"list\": \"text\", \"max\": 2}, \"always\": true}, \"deep\": {\"kind\": {\"rec\": {\"a\": {\"kind\": \"text\", \"always\": true}, \"b\": {\"kind\": \"bool\", \"always\": false}}}, \"always\": false}}, \"failure\": {\"changed\": {\"kind\": \"bool\", \"always\": true}, \"msg\": {\"kind\": \"text\", \"always\": true}, \"v\": {\"kind\": \"text\", \"always\": false}, \"why\": {\"kind\": \"int\", \"always\": true}}}, {\"name\": \"odd\", \"params\": {}, \"ok\": {\"changed\": {\"kind\": \"bool\", \"always\": true}, \"msg\": {\"kind\": \"int\", \"always\": false}}, \"failure\": {\"changed\": {\"kind\": \"bool\", \"always\": true}, \"msg\": {\"kind\": \"text\", \"always\": true}}}]") (codes "{\"all\": {\"hosts\": [\"a\", \"b\"], \"vars\": {\"i2\": false}}, \"g1\": {\"hosts\": [], \"vars\": {\"i2\": \"a\"}}, \"_meta\": {\"hostvars\": {\"a\": {\"i2\": \"x\"}, \"b\": {\"i2\": \"a\"}}}}") (codes "[{\"hosts\": \"b\", \"vars\": {\"v3\": {}}, \"gather_facts\": true, \"tasks\": [{\"debug\": {\"msg\": \"x\"}, \"register\": \"r1\"}, {\"debug\": {\"msg\": \"{{ [1, 2] }}\"}, \"register\": \"r1\"}]}, {\"hosts\": [\"a\", \"all\"], \"pre_tasks\": [{\"vars\": {\"v2\": \"{{ r2.skip_reason | length }}\", \"v3\": \"{{ [r2.changed, r2.changed] }}\"}, \"command\": {\"cmd\": \"x {{ v2 | default(1) }}\"}, \"register\": \"r2\"}], \"tasks\": [{\"vars\": {}, \"odd\": null, \"register\": \"r2\"}, {\"stat\": {\"path\": \"/\"}, \"register\": \"r1\"}]}]") ≡ verdict (refused (record { code = 1; line = 6; host = Some (codes "a") }))
unfolding reading
random_100125 = refl

random_100126 : found (codes "{\"g\": {\"hosts\": [\"b\", \"a\"]}, \"all\": {\"hosts\": [\"c\"], \"vars\": {\"inv\": [1, 2]}}, \"_meta\": {\"hostvars\": {\"a\": {\"opq\": 1.5, \"inv\": [\"x\"]}, \"b\": {\"k\": {\"z\": \"{{ q }}\"}}}}}") (codes "[{\"hosts\": \"all\", \"handlers\": [{\"set_fact\": {\"y\": \"{{ group_names.stdout_lines | join(',') }}\"}, \"name\": \"h0\"}], \"tasks\": [{\"block\": [], \"rescue\": [{\"set_fact\": {\"s\": \"{{ r.results | default(ansible_facts.stat.isdir) }}\"}, \"register\": \"s\", \"notify\": \"h0\"}], \"always\": [], \"when\": \"not ((hostvars[inventory_hostname].inv is failed) and (r.changed is not defined))\"}], \"post_tasks\": [{\"set_fact\": {\"y\": \"{{ 'a' }}\"}, \"register\": \"s\", \"notify\": \"h0\"}, {\"debug\": {\"msg\": \"{{ r.results | default('d') }}\"}, \"when\": \"'b' in ansible_play_batch\", \"register\": \"r\"}], \"vars\": {\"v1\": \"{{ hostvars['a'].inv | join(',') }}\"}}]") ≡ verdict (refused (record { code = 4; line = 6; host = Some (codes "c") }))
unfolding reading
random_100126 = refl

random_100127 : found_with (codes "[{\"name\": \"probe\", \"params\": {\"n\": {\"kind\": \"int\", \"required\": false}, \"l\": {\"kind\": {\"list\": \"text\", \"max\": 3}, \"required\": false}}, \"ok\": {\"changed\": {\"kind\": \"bool\", \"always\": true}, \"v\": {\"kind\": \"int\", \"always\": false}, \"rows\": {\"kind\": {\"list\": \"text\", \"max\": 2}, \"always\": true}, \"deep\": {\"kind\": {\"rec\": {\"a\": {\"kind\": \"text\", \"always\": true}, \"b\": {\"kind\": \"bool\", \"always\": false}}}, \"always\": false}}, \"failure\": {\"changed\": {\"kind\": \"bool\", \"always\": true}, \"msg\": {\"kind\": \"text\", \"always\": true}, \"v\": {\"kind\": \"text\", \"always\": false}, \"why\": {\"kind\": \"int\", \"always\": true}}}, {\"name\": \"odd\", \"params\": {}, \"ok\": {\"changed\": {\"kind\": \"bool\", \"always\": true}, \"msg\": {\"kind\": \"int\", \"always\": false}}, \"failure\": {\"changed\": {\"kind\": \"bool\", \"always\": true}, \"msg\": {\"kind\": \"text\", \"always\": true}}}]") (codes "{\"all\": {\"hosts\": [\"a\", \"b\", \"c\", \"d\"], \"vars\": {}}, \"g1\": {\"hosts\": [\"a\", \"b\", \"c\"], \"vars\": {}}, \"g2\": {\"hosts\": [\"a\", \"b\", \"c\", \"d\"], \"vars\": {}}, \"_meta\": {\"hostvars\": {\"a\": {}, \"b\": {\"s1\": \"\"}, \"c\": {\"i2\": true, \"s1\": true}, \"d\": {}}}}") (codes "[{\"hosts\": \"all\", \"pre_tasks\": [{\"block\": [{\"vars\": {\"v3\": \"{{ r1.changed }}\"}, \"ping\": null}], \"always\": [{\"loop\": \"{{ ansible_play_batch }}\", \"debug\": {\"msg\": \"{{ r2.failed }}\"}, \"when\": [\"item in ansible_play_batch\", \"r2.failed is defined\"], \"register\": \"r3\", \"failed_when\": \"r3 is failed\"}]}], \"tasks\": [{\"command\": {\"cmd\": \"x {{ s2 }}\"}, \"when\": [\"(s1 is not defined) and (not (r3 is not failed))\", \"s2 is defined\"]}, {\"set_fact\": {\"s1\": \"{{ r3.changed }}\"}, \"when\": [\"not (('g2' in group_names) or (r3 is succeeded))\", \"r3 is not failed\"], \"register\": \"r3\"}, {\"loop\": \"{{ ansible_play_batch }}\", \"debug\": {\"msg\": \"{{ [1, 2] }}\"}, \"register\": \"r3\"}, {\"vars\": {\"v1\": \"{{ s3 }}\", \"v2\": \"{{ r3.skip_reason | default(1) }}\", \"v3\": \"{{ hostvars['a'].r2.changed }}\"}, \"ping\": null, \"register\": \"r2\", \"notify\": \"h0\", \"changed_when\": true}], \"handlers\": [{\"set_fact\": {\"s2\": \"t\"}, \"register\": \"r2\", \"name\": \"h0\", \"listen\": \"t\"}]}]") ≡ verdict (accepted 12)
unfolding reading
random_100127 = refl

random_100130 : found (codes "{\"g\": {\"hosts\": [\"b\", \"a\"]}, \"all\": {\"hosts\": [\"c\"], \"vars\": {\"inv\": [1, 2]}}, \"_meta\": {\"hostvars\": {\"a\": {\"opq\": 1.5, \"inv\": [\"x\"]}, \"b\": {\"k\": {\"z\": \"{{ q }}\"}}}}}") (codes "[{\"hosts\": \"all\", \"handlers\": [{\"fail\": null, \"ignore_errors\": true, \"name\": \"h0\"}], \"tasks\": [{\"command\": \"x\", \"register\": \"s\", \"failed_when\": \"s is failed\", \"until\": false, \"retries\": 2, \"vars\": {\"v2\": \"{{ hostvars['a'].inv | default('d') }}\"}}, {\"set_fact\": {\"s\": \"{{ hostvars[item].y.hostname }}\"}, \"notify\": \"h0\"}, {\"debug\": {\"msg\": \"{{ y }}\"}, \"changed_when\": true, \"notify\": \"h0\"}, {\"loop\": \"{{ r.stdout_lines }}\", \"stat\": {\"path\": \"p\"}, \"register\": \"s\", \"notify\": \"h0\"}], \"strategy\": \"free\"}]") ≡ verdict (refused (record { code = 1; line = 3; host = Some (codes "c") }))
unfolding reading
random_100130 = refl

random_100134 : found (codes "{\"g\": {\"hosts\": [\"b\", \"a\"]}, \"all\": {\"hosts\": [\"c\"], \"vars\": {\"inv\": [1, 2]}}, \"_meta\": {\"hostvars\": {\"a\": {\"opq\": 1.5, \"inv\": [\"x\"]}, \"b\": {\"k\": {\"z\": \"{{ q }}\"}}}}}") (codes "[{\"hosts\": \"all\", \"handlers\": [{\"loop\": \"{{ inv }}\", \"set_fact\": {\"s\": \"{{ hostvars[inventory_hostname].inv | length }}\"}, \"when\": [\"(v2.stdout_lines is undefined) or (zz.stdout_lines < 3)\", \"((hostvars[groups['g'][0]].ansible_hostname.msg is changed) or (inv.os_family is skipped)) and (not (hostvars[item].s is failed))\"], \"name\": \"h0\"}], \"tasks\": [{\"block\": [{\"block\": [{\"command\": {\"cmd\": [{\"k\": \"{{ ansible_facts.results | length }}\"}]}}, {\"setup\": null, \"when\": [\"((hostvars['b'].y is not defined) or (s.results < 3)) or ('a' in hostvars['b'].y.k)\", \"s is not skipped\"], \"register\": \"r\", \"ignore_errors\": true, \"notify\": \"h0\"}]}]}, {\"debug\": {\"msg\": \"x{{ ansible_failed_result.results }}\"}, \"when\": [\"r is not skipped\", \"r.rc is defined\"], \"register\": \"r\"}, {\"command\": \"x\", \"until\": true, \"retries\": 1, \"ignore_errors\": true}, {\"debug\": {\"msg\": [\"{{ inv.stat.isdir | length }}\"]}, \"when\": \"'a' in inventory_hostname\", \"notify\": \"h0\"}], \"strategy\": \"free\", \"vars\": {\"v1\": null}}]") ≡ verdict (refused (record { code = 1; line = 4; host = Some (codes "c") }))
unfolding reading
random_100134 = refl

random_100140 : found (codes "{\"g\": {\"hosts\": [\"b\", \"a\"]}, \"all\": {\"hosts\": [\"c\"], \"vars\": {\"inv\": [1, 2]}}, \"_meta\": {\"hostvars\": {\"a\": {\"opq\": 1.5, \"inv\": [\"x\"]}, \"b\": {\"k\": {\"z\": \"{{ q }}\"}}}}}") (codes "[{\"hosts\": \"b,a\", \"pre_tasks\": [{\"block\": [{\"assert\": {\"that\": [\"not (r.rc is not skipped)\", \"inventory_hostname in ansible_play_batch\"]}, \"when\": [\"'a' in ansible_play_batch\", \"r is defined\"]}], \"rescue\": [{\"setup\": null, \"until\": false, \"retries\": 2}]}], \"tasks\": [{\"set_fact\": {\"y\": \"{{ hostvars[inventory_hostname].inv }}\"}, \"register\": \"r\"}, {\"block\": [{\"debug\": {\"msg\": \"{{ group_names }}\"}, \"register\": \"r\", \"failed_when\": \"r.changed\"}], \"rescue\": [{\"command\": \"x\", \"register\": \"s\", \"failed_when\": \"s is failed\", \"ignore_errors\": true}], \"always\": [{\"command\": {\"cmd\": \"{{ r.failed }}\"}, \"register\": \"r\", \"changed_when\": \"r is changed\"}]}, {\"block\": [], \"rescue\": [{\"set_fact\": {\"y\": \"{{ r.stat.isdir | length }}\"}, \"when\": [\"hostvars['a'].r.rc is defined\"], \"failed_when\": true}], \"always\": []}], \"gather_facts\": true, \"vars\": {\"v1\": \"{{ hostvars[inventory_hostname].inv | default(1) }}\"}}]") ≡ verdict (refused (record { code = 4; line = 10; host = Some (codes "b") }))
unfolding reading
random_100140 = refl

random_100142 : found (codes "{\"g\": {\"hosts\": [\"b\", \"a\"]}, \"all\": {\"hosts\": [\"c\"], \"vars\": {\"inv\": [1, 2]}}, \"_meta\": {\"hostvars\": {\"a\": {\"opq\": 1.5, \"inv\": [\"x\"]}, \"b\": {\"k\": {\"z\": \"{{ q }}\"}}}}}") (codes "[{\"hosts\": \"g\", \"tasks\": [{\"assert\": {\"that\": \"group_names.results is defined\"}}], \"strategy\": \"free\", \"serial\": \"50%\"}]") ≡ verdict (accepted 0)
unfolding reading
random_100142 = refl

random_100163 : found_with (codes "[{\"name\": \"probe\", \"params\": {\"n\": {\"kind\": \"int\", \"required\": false}, \"l\": {\"kind\": {\"list\": \"text\", \"max\": 3}, \"required\": false}}, \"ok\": {\"changed\": {\"kind\": \"bool\", \"always\": true}, \"v\": {\"kind\": \"int\", \"always\": false}, \"rows\": {\"kind\": {\"list\": \"text\", \"max\": 2}, \"always\": true}, \"deep\": {\"kind\": {\"rec\": {\"a\": {\"kind\": \"text\", \"always\": true}, \"b\": {\"kind\": \"bool\", \"always\": false}}}, \"always\": false}}, \"failure\": {\"changed\": {\"kind\": \"bool\", \"always\": true}, \"msg\": {\"kind\": \"text\", \"always\": true}, \"v\": {\"kind\": \"text\", \"always\": false}, \"why\": {\"kind\": \"int\", \"always\": true}}}, {\"name\": \"odd\", \"params\": {}, \"ok\": {\"changed\": {\"kind\": \"bool\", \"always\": true}, \"msg\": {\"kind\": \"int\", \"always\": false}}, \"failure\": {\"changed\": {\"kind\": \"bool\", \"always\": true}, \"msg\": {\"kind\": \"text\", \"always\": true}}}]") (codes "{\"all\": {\"hosts\": [\"a\"], \"vars\": {\"i1\": true, \"i2\": \"\"}}, \"g1\": {\"hosts\": [], \"vars\": {\"i2\": [], \"s1\": null}}, \"_meta\": {\"hostvars\": {\"a\": {\"s1\": \"b\"}}}}") (codes "[{\"hosts\": \"g1\", \"tasks\": [{\"set_fact\": {\"s3\": [\"{{ hostvars['a'].s3 | default(1) }}\"]}, \"when\": \"not (ansible_os_family is not defined)\", \"register\": \"r1\", \"notify\": \"h0\", \"changed_when\": true}, {\"meta\": \"flush_handlers\"}, {\"command\": {\"cmd\": \"x {{ hostvars[groups['all'][0]].r1.changed }}\"}, \"register\": \"r3\"}, {\"meta\": \"flush_handlers\"}], \"handlers\": [{\"vars\": {\"v1\": \"{{ i1 }}\"}, \"command\": {\"cmd\": \"x\"}, \"register\": \"r3\", \"name\": \"h0\", \"listen\": \"t\"}, {\"vars\": {\"v1\": \"{{ hostvars[inventory_hostname].r2.failed | default([]) }}\"}, \"assert\": {\"that\": [\"s3 | default(false)\"]}, \"when\": \"v1.g != true\", \"name\": \"h1\"}]}, {\"hosts\": \"a\", \"strategy\": \"free\", \"serial\": \"50%\", \"gather_facts\": true, \"tasks\": [{\"ping\": null}, {\"set_fact\": {\"s1\": \"x{{ s1 | default([]) }}\"}, \"register\": \"r2\", \"failed_when\": true}], \"force_handlers\": true}]") ≡ verdict (accepted 2)
unfolding reading
random_100163 = refl

random_100164 : found (codes "{\"g\": {\"hosts\": [\"b\", \"a\"]}, \"all\": {\"hosts\": [\"c\"], \"vars\": {\"inv\": [1, 2]}}, \"_meta\": {\"hostvars\": {\"a\": {\"opq\": 1.5, \"inv\": [\"x\"]}, \"b\": {\"k\": {\"z\": \"{{ q }}\"}}}}}") (codes "[{\"hosts\": \"all\", \"tasks\": [{\"block\": [{\"command\": \"x\", \"when\": \"groups['g'][0] in ansible_play_batch\"}], \"always\": [{\"command\": \"x\", \"changed_when\": true}]}]}]") ≡ verdict (accepted 6)
unfolding reading
random_100164 = refl

random_100170 : found (codes "{\"g\": {\"hosts\": [\"b\", \"a\"]}, \"all\": {\"hosts\": [\"c\"], \"vars\": {\"inv\": [1, 2]}}, \"_meta\": {\"hostvars\": {\"a\": {\"opq\": 1.5, \"inv\": [\"x\"]}, \"b\": {\"k\": {\"z\": \"{{ q }}\"}}}}}") (codes "[{\"hosts\": \"b,a\", \"tasks\": [{\"debug\": {\"msg\": \"{{ item.hostname }}\"}}], \"strategy\": \"free\", \"serial\": 1, \"force_handlers\": true}, {\"hosts\": \"b,a\", \"tasks\": [{\"loop\": \"{{ ansible_play_batch }}\", \"assert\": {\"that\": \"groups['g'][0] in ansible_play_batch\"}, \"when\": [\"(ansible_failed_result.rc is undefined) and (ansible_hostname.changed is succeeded)\", \"('a' in v1) and (groups.g is succeeded)\"]}, {\"set_fact\": {\"s\": \"a\"}, \"register\": \"r\"}], \"strategy\": \"free\"}]") ≡ verdict (refused (record { code = 1; line = 2; host = Some (codes "b") }))
unfolding reading
random_100170 = refl

random_100188 : found (codes "{\"g\": {\"hosts\": [\"b\", \"a\"]}, \"all\": {\"hosts\": [\"c\"], \"vars\": {\"inv\": [1, 2]}}, \"_meta\": {\"hostvars\": {\"a\": {\"opq\": 1.5, \"inv\": [\"x\"]}, \"b\": {\"k\": {\"z\": \"{{ q }}\"}}}}}") (codes "[{\"hosts\": \"all\", \"handlers\": [{\"stat\": {\"path\": \"p\"}, \"when\": [\"'b' in ansible_play_batch\"], \"register\": \"s\", \"name\": \"h0\"}, {\"set_fact\": {\"s\": \"{{ y.os_family | length }}\"}, \"when\": \"(r.failed is undefined) or (s.changed is failed)\", \"register\": \"s\", \"failed_when\": \"s is failed\", \"name\": \"h1\"}], \"tasks\": [{\"debug\": {\"msg\": {\"k\": true}}, \"register\": \"r\", \"changed_when\": \"r is changed\", \"notify\": \"h1\"}, {\"block\": [{\"setup\": null, \"when\": \"inventory_hostname.rc == 'a'\", \"vars\": {\"v2\": {\"k\": \"x{{ ansible_play_batch.hostname is undefined }}\"}}}], \"rescue\": [{\"block\": [{\"command\": {\"cmd\": \"{{ v1.os_family | length }}\"}, \"when\": [\"hostvars['b'].y is defined\", \"r is not skipped\"]}, {\"set_fact\": {\"y\": \"a\"}, \"register\": \"s\", \"vars\": {\"v2\": \"{{ hostvars[item].inv | length }}\"}}], \"rescue\": [], \"always\": [{\"set_fact\": {\"y\": \"x{{ s.changed }}\"}, \"ignore_errors\": true}]}], \"always\": [{\"command\": {\"cmd\": \"{{ r.results }}\"}, \"when\": [\"r is defined and r is succeeded\"], \"register\": \"s\", \"until\": \"s is succeeded\"}], \"when\": [\"groups['g'][0] in ansible_play_batch\", \"r.msg == 1\"]}, {\"loop\": [1, 2], \"set_fact\": {\"s\": \"x{{ s }}\"}, \"register\": \"r\", \"failed_when\": \"r is failed\"}, {\"loop\": [1, 2], \"ping\": null, \"register\": \"s\", \"failed_when\": false, \"notify\": \"h1\"}], \"force_handlers\": true}]") ≡ verdict (refused (record { code = 3; line = 4; host = Some (codes "c") }))
unfolding reading
random_100188 = refl

random_100191 : found_with (codes "[{\"name\": \"probe\", \"params\": {\"n\": {\"kind\": \"int\", \"required\": false}, \"l\": {\"kind\": {\"list\": \"text\", \"max\": 3}, \"required\": false}}, \"ok\": {\"changed\": {\"kind\": \"bool\", \"always\": true}, \"v\": {\"kind\": \"int\", \"always\": false}, \"rows\": {\"kind\": {\"list\": \"text\", \"max\": 2}, \"always\": true}, \"deep\": {\"kind\": {\"rec\": {\"a\": {\"kind\": \"text\", \"always\": true}, \"b\": {\"kind\": \"bool\", \"always\": false}}}, \"always\": false}}, \"failure\": {\"changed\": {\"kind\": \"bool\", \"always\": true}, \"msg\": {\"kind\": \"text\", \"always\": true}, \"v\": {\"kind\": \"text\", \"always\": false}, \"why\": {\"kind\": \"int\", \"always\": true}}}, {\"name\": \"odd\", \"params\": {}, \"ok\": {\"changed\": {\"kind\": \"bool\", \"always\": true}, \"msg\": {\"kind\": \"int\", \"always\": false}}, \"failure\": {\"changed\": {\"kind\": \"bool\", \"always\": true}, \"msg\": {\"kind\": \"text\", \"always\": true}}}]") (codes "{\"all\": {\"hosts\": [\"a\", \"b\", \"c\", \"d\"], \"vars\": {\"s1\": [null, \"a\"]}}, \"g2\": {\"hosts\": [\"a\", \"c\", \"d\"], \"vars\": {}}, \"_meta\": {\"hostvars\": {\"a\": {\"i1\": -1, \"i2\": [1, \"\"], \"s1\": {\"f\": [\"x\"], \"g\": {\"f\": null, \"g\": true}}}, \"b\": {\"s1\": [], \"op\": 1.5}, \"c\": {}, \"d\": {}}}}") (codes "[{\"hosts\": \"all\", \"strategy\": \"free\", \"tasks\": [{\"command\": {\"cmd\": \"x\"}, \"until\": true, \"retries\": 2}], \"handlers\": [{\"loop\": [], \"vars\": {\"v2\": \"{{ op | default(s1) }}\"}, \"fail\": null, \"register\": \"r1\", \"failed_when\": \"r1.msg | default(true) == true\", \"name\": \"h0\", \"listen\": \"t\"}]}, {\"hosts\": \"all\", \"strategy\": \"free\", \"serial\": 2, \"tasks\": [{\"command\": \"x\"}, {\"debug\": {\"msg\": \"x\"}, \"register\": \"r1\", \"notify\": \"t\"}], \"handlers\": [{\"stat\": {\"path\": \"/\"}, \"name\": \"h0\", \"listen\": \"t\"}]}]") ≡ verdict (accepted 20)
unfolding reading
random_100191 = refl

random_100192 : found (codes "{\"g\": {\"hosts\": [\"b\", \"a\"]}, \"all\": {\"hosts\": [\"c\"], \"vars\": {\"inv\": [1, 2]}}, \"_meta\": {\"hostvars\": {\"a\": {\"opq\": 1.5, \"inv\": [\"x\"]}, \"b\": {\"k\": {\"z\": \"{{ q }}\"}}}}}") (codes "[{\"hosts\": \"all\", \"handlers\": [{\"fail\": null, \"when\": [\"hostvars['b'].y is defined\", \"not (r is undefined or r is failed)\"], \"name\": \"h0\"}], \"tasks\": [{\"command\": \"x\", \"failed_when\": false, \"ignore_errors\": true}, {\"debug\": {\"msg\": [1, 2]}, \"register\": \"s\", \"changed_when\": \"s is changed\", \"notify\": \"h0\"}, {\"block\": [{\"block\": [{\"fail\": {\"msg\": \"m\"}, \"notify\": \"h0\"}], \"rescue\": []}, {\"set_fact\": {\"s\": \"{{ s.changed }}\"}, \"ignore_errors\": false}]}], \"force_handlers\": true, \"vars\": {\"v1\": [{\"k\": null}]}}]") ≡ verdict (accepted 3)
unfolding reading
random_100192 = refl

random_100197 : found_with (codes "[{\"name\": \"probe\", \"params\": {\"n\": {\"kind\": \"int\", \"required\": false}, \"l\": {\"kind\": {\"list\": \"text\", \"max\": 3}, \"required\": false}}, \"ok\": {\"changed\": {\"kind\": \"bool\", \"always\": true}, \"v\": {\"kind\": \"int\", \"always\": false}, \"rows\": {\"kind\": {\"list\": \"text\", \"max\": 2}, \"always\": true}, \"deep\": {\"kind\": {\"rec\": {\"a\": {\"kind\": \"text\", \"always\": true}, \"b\": {\"kind\": \"bool\", \"always\": false}}}, \"always\": false}}, \"failure\": {\"changed\": {\"kind\": \"bool\", \"always\": true}, \"msg\": {\"kind\": \"text\", \"always\": true}, \"v\": {\"kind\": \"text\", \"always\": false}, \"why\": {\"kind\": \"int\", \"always\": true}}}, {\"name\": \"odd\", \"params\": {}, \"ok\": {\"changed\": {\"kind\": \"bool\", \"always\": true}, \"msg\": {\"kind\": \"int\", \"always\": false}}, \"failure\": {\"changed\": {\"kind\": \"bool\", \"always\": true}, \"msg\": {\"kind\": \"text\", \"always\": true}}}]") (codes "{\"all\": {\"hosts\": [\"a\", \"b\", \"c\", \"d\"], \"vars\": {\"i2\": \"\"}}, \"g1\": {\"hosts\": [\"a\", \"d\"], \"vars\": {\"i2\": 3}}, \"_meta\": {\"hostvars\": {\"a\": {\"i1\": 1}, \"b\": {}, \"c\": {\"i1\": 0}, \"d\": {\"s1\": false}}}}") (codes "[{\"hosts\": [\"b\", \"all\"], \"vars\": {\"v3\": 1}, \"strategy\": \"free\", \"gather_facts\": true, \"tasks\": [{\"meta\": \"flush_handlers\"}, {\"vars\": {\"v1\": null}, \"when\": \"ansible_facts is undefined\", \"block\": [{\"loop\": [], \"vars\": {\"v2\": \"x{{ (r3) == (r3.failed) }}\"}, \"set_fact\": {\"s3\": [\"{{ ansible_facts }}\"]}, \"when\": \"not ('c' in ansible_play_batch)\", \"register\": \"r2\", \"failed_when\": \"r2.changed == 'a'\"}, {\"assert\": {\"that\": true}}], \"rescue\": [{\"set_fact\": {\"s1\": {\"f\": 1}}, \"register\": \"r3\"}, {\"vars\": {\"v2\": \"{{ r3.changed }}\"}, \"stat\": {\"path\": \"/\"}, \"failed_when\": \"inventory_hostname == 'a'\"}, {\"loop\": \"{{ r1.results | default([]) }}\", \"command\": {\"cmd\": \"x\"}, \"register\": \"r1\"}]}, {\"loop\": [2], \"set_fact\": {\"s2\": 1}, \"when\": \"hostvars[groups['all'][0]].r2.changed | default(false)\"}], \"force_handlers\": true}]") ≡ verdict (accepted 8)
unfolding reading
random_100197 = refl

random_100207 : found_with (codes "[{\"name\": \"probe\", \"params\": {\"n\": {\"kind\": \"int\", \"required\": false}, \"l\": {\"kind\": {\"list\": \"text\", \"max\": 3}, \"required\": false}}, \"ok\": {\"changed\": {\"kind\": \"bool\", \"always\": true}, \"v\": {\"kind\": \"int\", \"always\": false}, \"rows\": {\"kind\": {\"list\": \"text\", \"max\": 2}, \"always\": true}, \"deep\": {\"kind\": {\"rec\": {\"a\": {\"kind\": \"text\", \"always\": true}, \"b\": {\"kind\": \"bool\", \"always\": false}}}, \"always\": false}}, \"failure\": {\"changed\": {\"kind\": \"bool\", \"always\": true}, \"msg\": {\"kind\": \"text\", \"always\": true}, \"v\": {\"kind\": \"text\", \"always\": false}, \"why\": {\"kind\": \"int\", \"always\": true}}}, {\"name\": \"odd\", \"params\": {}, \"ok\": {\"changed\": {\"kind\": \"bool\", \"always\": true}, \"msg\": {\"kind\": \"int\", \"always\": false}}, \"failure\": {\"changed\": {\"kind\": \"bool\", \"always\": true}, \"msg\": {\"kind\": \"text\", \"always\": true}}}]") (codes "{\"all\": {\"hosts\": [\"a\"], \"vars\": {}}, \"g2\": {\"hosts\": [], \"vars\": {}}, \"_meta\": {\"hostvars\": {\"a\": {\"s1\": \"no\"}}}}") (codes "[{\"hosts\": \"all\", \"strategy\": \"free\", \"tasks\": [{\"debug\": {\"msg\": \"x\"}}, {\"meta\": \"flush_handlers\"}], \"handlers\": [{\"vars\": {\"v2\": \"{{ s3 }}\"}, \"command\": {\"cmd\": \"x {{ true }}\"}, \"register\": \"r2\", \"until\": \"r2.changed is defined and r2.changed == 'a'\", \"retries\": 1, \"ignore_errors\": true, \"name\": \"h0\", \"listen\": \"t\"}]}, {\"hosts\": \"g2\", \"vars\": {\"v3\": true}, \"pre_tasks\": [{\"loop\": \"{{ s1 }}\", \"debug\": {\"msg\": \"{{ r3.changed }}\"}, \"when\": [\"not (ansible_os_family is undefined)\", \"r3 is not failed\"], \"register\": \"r2\"}, {\"command\": {\"cmd\": \"x\"}, \"failed_when\": false}], \"tasks\": [{\"command\": {\"cmd\": \"x\"}}, {\"command\": {\"cmd\": \"x\"}, \"until\": \"inventory_hostname == 'a'\", \"retries\": 2}, {\"vars\": {\"v1\": \"{{ none }}\", \"v2\": \"{{ r1.failed | default(s1) }}\", \"v3\": \"{{ [r3.changed, 1] }}\"}, \"set_fact\": {\"s2\": [\"{{ (hostvars['a'].i2) == (v3) }}\"], \"s3\": 1}}]}]") ≡ verdict (accepted 4)
unfolding reading
random_100207 = refl

random_100216 : found (codes "{\"g\": {\"hosts\": [\"b\", \"a\"]}, \"all\": {\"hosts\": [\"c\"], \"vars\": {\"inv\": [1, 2]}}, \"_meta\": {\"hostvars\": {\"a\": {\"opq\": 1.5, \"inv\": [\"x\"]}, \"b\": {\"k\": {\"z\": \"{{ q }}\"}}}}}") (codes "[{\"hosts\": \"b,a\", \"handlers\": [{\"set_fact\": {\"y\": {\"k\": \"x{{ none }}\"}}, \"when\": [\"ansible_failed_result.stdout_lines is skipped\", \"opq is succeeded\"], \"register\": \"r\", \"name\": \"h0\"}, {\"stat\": {\"path\": \"p\"}, \"register\": \"s\", \"name\": \"h1\"}], \"tasks\": [{\"block\": [{\"set_fact\": {\"s\": \"{{ none }}\"}, \"register\": \"r\"}]}], \"serial\": [1, 2], \"force_handlers\": true, \"vars\": {\"v1\": \"a\"}}]") ≡ verdict (refused (record { code = 1; line = 4; host = Some (codes "b") }))
unfolding reading
random_100216 = refl

random_100228 : found (codes "{\"g\": {\"hosts\": [\"b\", \"a\"]}, \"all\": {\"hosts\": [\"c\"], \"vars\": {\"inv\": [1, 2]}}, \"_meta\": {\"hostvars\": {\"a\": {\"opq\": 1.5, \"inv\": [\"x\"]}, \"b\": {\"k\": {\"z\": \"{{ q }}\"}}}}}") (codes "[{\"hosts\": \"all\", \"tasks\": [{\"stat\": {\"path\": \"p\"}, \"when\": [\"'b' in ansible_play_batch\", \"'a' in ansible_play_batch\"], \"register\": \"s\"}, {\"setup\": null, \"register\": \"s\"}, {\"set_fact\": {\"y\": 1}, \"when\": [\"'a' in ansible_play_batch\", \"r is defined\"], \"ignore_errors\": true}], \"post_tasks\": [{\"block\": []}, {\"ping\": null, \"when\": \"'a' in ansible_play_batch\"}, {\"block\": [{\"command\": {\"cmd\": \"{{ group_names }}\"}, \"register\": \"s\"}, {\"block\": [{\"setup\": null, \"when\": \"hostvars['b'].y is not defined\", \"register\": \"r\", \"until\": false, \"vars\": {\"v2\": [[\"x{{ inventory_hostname | join(',') }}\"]]}}], \"always\": []}], \"rescue\": [{\"stat\": {\"path\": \"p\"}, \"ignore_errors\": true}], \"always\": [], \"when\": [\"r.results is not skipped\", \"groups['g'][0] in ansible_play_batch\"]}, {\"loop\": \"{{ r.stdout_lines }}\", \"debug\": {\"msg\": \"{{ item in ansible_play_batch }}\"}}], \"force_handlers\": true, \"gather_facts\": true, \"vars\": {\"v1\": \"x{{ hostvars[item].inv.rc }}\"}}]") ≡ verdict (refused (record { code = 1; line = 9; host = Some (codes "c") }))
unfolding reading
random_100228 = refl

random_100232 : found (codes "{\"g\": {\"hosts\": [\"b\", \"a\"]}, \"all\": {\"hosts\": [\"c\"], \"vars\": {\"inv\": [1, 2]}}, \"_meta\": {\"hostvars\": {\"a\": {\"opq\": 1.5, \"inv\": [\"x\"]}, \"b\": {\"k\": {\"z\": \"{{ q }}\"}}}}}") (codes "[{\"hosts\": \"all\", \"handlers\": [{\"stat\": {\"path\": \"p\"}, \"name\": \"h0\"}, {\"set_fact\": {\"s\": [1, 2]}, \"when\": [\"not (r is undefined or r is failed)\"], \"name\": \"h1\"}], \"tasks\": [{\"block\": [], \"rescue\": [{\"loop\": [1, 2], \"command\": {\"cmd\": [null]}}, {\"block\": []}], \"always\": [{\"command\": \"x\", \"when\": [\"s is defined and s is not failed\"]}]}, {\"assert\": {\"that\": [\"r.failed is skipped\", \"opq.stdout is changed\"]}, \"register\": \"s\", \"notify\": \"h1\"}, {\"block\": [], \"rescue\": [], \"ignore_errors\": false}, {\"loop\": [1, 2], \"stat\": {\"path\": \"p\"}, \"register\": \"s\"}], \"strategy\": \"free\"}]") ≡ verdict (refused (record { code = 1; line = 6; host = Some (codes "c") }))
unfolding reading
random_100232 = refl

random_100237 : found_with (codes "[{\"name\": \"probe\", \"params\": {\"n\": {\"kind\": \"int\", \"required\": false}, \"l\": {\"kind\": {\"list\": \"text\", \"max\": 3}, \"required\": false}}, \"ok\": {\"changed\": {\"kind\": \"bool\", \"always\": true}, \"v\": {\"kind\": \"int\", \"always\": false}, \"rows\": {\"kind\": {\"list\": \"text\", \"max\": 2}, \"always\": true}, \"deep\": {\"kind\": {\"rec\": {\"a\": {\"kind\": \"text\", \"always\": true}, \"b\": {\"kind\": \"bool\", \"always\": false}}}, \"always\": false}}, \"failure\": {\"changed\": {\"kind\": \"bool\", \"always\": true}, \"msg\": {\"kind\": \"text\", \"always\": true}, \"v\": {\"kind\": \"text\", \"always\": false}, \"why\": {\"kind\": \"int\", \"always\": true}}}, {\"name\": \"odd\", \"params\": {}, \"ok\": {\"changed\": {\"kind\": \"bool\", \"always\": true}, \"msg\": {\"kind\": \"int\", \"always\": false}}, \"failure\": {\"changed\": {\"kind\": \"bool\", \"always\": true}, \"msg\": {\"kind\": \"text\", \"always\": true}}}]") (codes "{\"all\": {\"hosts\": [\"a\", \"b\", \"c\"], \"vars\": {\"i2\": [\"x\"]}}, \"g1\": {\"hosts\": [\"a\", \"b\", \"c\"], \"vars\": {}, \"children\": [\"g2\"]}, \"g2\": {\"hosts\": [\"a\", \"c\"], \"vars\": {\"s1\": -1}}, \"_meta\": {\"hostvars\": {\"a\": {\"i1\": 0}, \"b\": {}, \"c\": {\"i1\": true, \"s1\": []}}}}") (codes "[{\"hosts\": [\"c\", \"all\"], \"strategy\": \"free\", \"serial\": \"50%\", \"tasks\": [{\"block\": [{\"set_fact\": {\"s1\": 1}}, {\"vars\": {\"v1\": \"{{ hostvars['b'].i1 | default(s1) }}\"}, \"command\": {\"cmd\": \"x\"}, \"when\": \"hostvars['a'].r2.failed | default(false)\", \"failed_when\": \"inventory_hostname == 'a'\"}], \"rescue\": [{\"ping\": null}]}]}, {\"hosts\": [\"a\", \"all\"], \"strategy\": \"free\", \"pre_tasks\": [{\"command\": \"x\", \"register\": \"r3\", \"notify\": \"h0\"}, {\"vars\": {\"v2\": \"{{ s2 | default([]) }}\"}, \"command\": {\"cmd\": \"x\"}, \"when\": \"r2.failed is not defined\", \"register\": \"r1\"}], \"tasks\": [{\"meta\": \"flush_handlers\"}, {\"vars\": {\"v3\": \"{{ [1, 2] }}\"}, \"ping\": null, \"register\": \"r2\"}], \"handlers\": [{\"debug\": {\"msg\": \"{{ [groups.all, 1] }}\"}, \"name\": \"h0\", \"listen\": \"t\"}]}]") ≡ verdict (accepted 15)
unfolding reading
random_100237 = refl

random_100244 : found (codes "{\"g\": {\"hosts\": [\"b\", \"a\"]}, \"all\": {\"hosts\": [\"c\"], \"vars\": {\"inv\": [1, 2]}}, \"_meta\": {\"hostvars\": {\"a\": {\"opq\": 1.5, \"inv\": [\"x\"]}, \"b\": {\"k\": {\"z\": \"{{ q }}\"}}}}}") (codes "[{\"hosts\": \"all\", \"handlers\": [{\"ping\": null, \"when\": [\"r is defined and r is succeeded\"], \"until\": \"zz.changed\", \"retries\": 2, \"name\": \"h0\"}], \"tasks\": [{\"setup\": null, \"register\": \"r\", \"vars\": {\"v2\": \"{{ y is failed }}\"}}, {\"loop\": [1, 2], \"command\": \"x\", \"register\": \"r\", \"notify\": \"h0\"}], \"post_tasks\": [{\"setup\": null, \"when\": \"hostvars[item].s.hostname is succeeded\", \"notify\": \"h0\"}], \"serial\": 1}, {\"hosts\": \"g\", \"handlers\": [{\"setup\": null, \"register\": \"r\", \"name\": \"h0\"}], \"pre_tasks\": [{\"loop\": \"{{ inv }}\", \"set_fact\": {\"s\": {\"k\": \"{{ inventory_hostname.stdout }}\"}}, \"register\": \"s\", \"notify\": \"h0\"}], \"tasks\": [{\"loop\": \"{{ r.results }}\", \"stat\": {\"path\": \"p\"}, \"when\": [\"hostvars['b'].y is defined\", \"s is defined and s is not failed\"], \"failed_when\": true, \"notify\": \"h0\"}, {\"set_fact\": {\"s\": \"x{{ true }}\"}, \"register\": \"r\", \"notify\": \"h0\"}, {\"command\": {\"cmd\": \"{{ hostvars[item].inv }}\"}, \"when\": \"hostvars[inventory_hostname].inv is undefined\", \"register\": \"r\", \"notify\": \"h0\"}], \"post_tasks\": [{\"set_fact\": {\"s\": \"x{{ r | length }}\"}, \"when\": \"'a' in ansible_play_batch\", \"register\": \"r\", \"changed_when\": \"r is changed\", \"notify\": \"h0\"}, {\"fail\": null, \"register\": \"r\", \"notify\": \"h0\"}], \"force_handlers\": true}]") ≡ verdict (refused (record { code = 1; line = 4; host = Some (codes "c") }))
unfolding reading
random_100244 = refl

random_100260 : found (codes "{\"g\": {\"hosts\": [\"b\", \"a\"]}, \"all\": {\"hosts\": [\"c\"], \"vars\": {\"inv\": [1, 2]}}, \"_meta\": {\"hostvars\": {\"a\": {\"opq\": 1.5, \"inv\": [\"x\"]}, \"b\": {\"k\": {\"z\": \"{{ q }}\"}}}}}") (codes "[{\"hosts\": \"all\", \"tasks\": [{\"command\": {\"cmd\": \"{{ hostvars['a'].inv }}\"}, \"when\": [\"hostvars['a'].r.rc is defined\", \"not (r is undefined or r is failed)\"], \"until\": true, \"retries\": 1}, {\"fail\": {\"msg\": \"m\"}}], \"serial\": [1, 2]}]") ≡ verdict (refused (record { code = 4; line = 2; host = Some (codes "c") }))
unfolding reading
random_100260 = refl

random_100267 : found_with (codes "[{\"name\": \"probe\", \"params\": {\"n\": {\"kind\": \"int\", \"required\": false}, \"l\": {\"kind\": {\"list\": \"text\", \"max\": 3}, \"required\": false}}, \"ok\": {\"changed\": {\"kind\": \"bool\", \"always\": true}, \"v\": {\"kind\": \"int\", \"always\": false}, \"rows\": {\"kind\": {\"list\": \"text\", \"max\": 2}, \"always\": true}, \"deep\": {\"kind\": {\"rec\": {\"a\": {\"kind\": \"text\", \"always\": true}, \"b\": {\"kind\": \"bool\", \"always\": false}}}, \"always\": false}}, \"failure\": {\"changed\": {\"kind\": \"bool\", \"always\": true}, \"msg\": {\"kind\": \"text\", \"always\": true}, \"v\": {\"kind\": \"text\", \"always\": false}, \"why\": {\"kind\": \"int\", \"always\": true}}}, {\"name\": \"odd\", \"params\": {}, \"ok\": {\"changed\": {\"kind\": \"bool\", \"always\": true}, \"msg\": {\"kind\": \"int\", \"always\": false}}, \"failure\": {\"changed\": {\"kind\": \"bool\", \"always\": true}, \"msg\": {\"kind\": \"text\", \"always\": true}}}]") (codes "{\"all\": {\"hosts\": [\"a\", \"b\"], \"vars\": {}}, \"g1\": {\"hosts\": [\"a\"], \"vars\": {}}, \"g2\": {\"hosts\": [\"a\", \"b\"], \"vars\": {}}, \"_meta\": {\"hostvars\": {\"a\": {\"i1\": [\"b\", 0], \"i2\": \"x\"}, \"b\": {\"op\": 1.5}}}}") (codes "[{\"hosts\": \"all\", \"serial\": 2, \"pre_tasks\": [{\"meta\": \"flush_handlers\"}, {\"loop\": [true, []], \"vars\": {\"v2\": \"{{ r2.failed | default('z') }}\"}, \"command\": {\"cmd\": \"x\"}, \"changed_when\": \"inventory_hostname == 'a'\"}, {\"set_fact\": {\"s1\": {\"f\": 1}}, \"register\": \"r2\", \"ignore_errors\": true}, {\"assert\": {\"that\": true}, \"register\": \"r2\"}], \"tasks\": [{\"block\": [{\"ping\": null, \"register\": \"r2\"}], \"always\": [{\"command\": {\"cmd\": \"x\"}, \"register\": \"r3\"}, {\"stat\": {\"path\": \"/\"}, \"when\": \"r2 is not changed\"}, {\"block\": [{\"vars\": {\"v2\": \"{{ groups.all }}\", \"v3\": \"{{ inventory_hostname }}\"}, \"command\": {\"cmd\": \"x\"}}], \"always\": [{\"command\": {\"cmd\": \"x\"}, \"register\": \"r1\", \"ignore_errors\": true}]}]}, {\"probe\": null, \"register\": \"r2\"}, {\"set_fact\": {\"s1\": 1}, \"when\": [\"r1 is defined\", \"r1 is not failed\"]}, {\"loop\": \"{{ r2.stdout_lines | default([]) }}\", \"vars\": {}, \"probe\": {}, \"register\": \"r2\"}]}]") ≡ verdict (accepted 16)
unfolding reading
random_100267 = refl

random_100268 : found (codes "{\"g\": {\"hosts\": [\"b\", \"a\"]}, \"all\": {\"hosts\": [\"c\"], \"vars\": {\"inv\": [1, 2]}}, \"_meta\": {\"hostvars\": {\"a\": {\"opq\": 1.5, \"inv\": [\"x\"]}, \"b\": {\"k\": {\"z\": \"{{ q }}\"}}}}}") (codes "[{\"hosts\": \"all\", \"handlers\": [{\"loop\": \"{{ groups['g'] }}\", \"command\": \"x\", \"when\": \"(inventory_hostname in ansible_play_batch) and ('a' in hostvars[item].s.hostname)\", \"ignore_errors\": true, \"name\": \"h0\"}], \"pre_tasks\": [{\"setup\": null, \"when\": \"not ((hostvars[inventory_hostname].inv == 1) or (y == 'a'))\", \"notify\": \"h0\"}, {\"assert\": {\"that\": \"((ansible_failed_result.os_family == 'a') and (inv < 3)) or ((group_names is not defined) and (groups.g is succeeded))\"}, \"when\": [\"y is defined\", \"r is defined and r is succeeded\"], \"register\": \"s\", \"notify\": \"h0\"}, {\"debug\": {\"msg\": \"{{ group_names }}\"}, \"notify\": \"h0\"}], \"tasks\": [{\"set_fact\": {\"y\": \"{{ inventory_hostname.results }}\"}, \"when\": \"(ansible_facts.stat.isdir is changed) or (s.changed is defined)\", \"register\": \"s\", \"changed_when\": false, \"notify\": \"h0\"}, {\"command\": {\"cmd\": \"x{{ ['a', 1] }}\"}, \"when\": \"('a' in r.changed) and (hostvars[inventory_hostname].opq.msg is succeeded)\", \"register\": \"s\"}, {\"set_fact\": {\"y\": \"x{{ ansible_failed_result.stat.isdir }}\"}}, {\"loop\": \"{{ r.results }}\", \"ping\": null, \"when\": [\"y is defined\"]}]}]") ≡ verdict (refused (record { code = 1; line = 2; host = Some (codes "c") }))
unfolding reading
random_100268 = refl

random_100272 : found (codes "{\"g\": {\"hosts\": [\"b\", \"a\"]}, \"all\": {\"hosts\": [\"c\"], \"vars\": {\"inv\": [1, 2]}}, \"_meta\": {\"hostvars\": {\"a\": {\"opq\": 1.5, \"inv\": [\"x\"]}, \"b\": {\"k\": {\"z\": \"{{ q }}\"}}}}}") (codes "[{\"hosts\": \"g\", \"handlers\": [{\"debug\": {\"msg\": \"x{{ 1 }}\"}, \"when\": [\"y is defined\"], \"register\": \"s\", \"name\": \"h0\"}, {\"command\": \"x\", \"name\": \"h1\"}], \"tasks\": [{\"loop\": [\"a\", \"b\"], \"assert\": {\"that\": [\"not (item < 3)\", \"hostvars['b'].y == 1\"]}, \"when\": [\"hostvars[item].y is defined\"]}], \"post_tasks\": [{\"stat\": {\"path\": \"p\"}, \"register\": \"r\", \"vars\": {\"v2\": \"{{ hostvars[item].r.stat.isdir }}\"}}, {\"command\": {\"cmd\": \"{{ opq.stdout_lines }}\"}, \"when\": [\"'b' in ansible_play_batch\"]}, {\"block\": [{\"block\": [], \"rescue\": [{\"loop\": \"{{ inv }}\", \"command\": \"x\", \"failed_when\": \"zz.changed\", \"vars\": {\"v1\": \"{{ ansible_hostname.msg }}\"}}], \"always\": [{\"ping\": null, \"register\": \"s\"}]}], \"rescue\": [{\"set_fact\": {\"y\": \"a\"}, \"when\": \"r.rc is succeeded\"}], \"always\": [{\"block\": [{\"command\": \"x\", \"register\": \"r\", \"notify\": \"h0\"}, {\"command\": \"x\"}], \"rescue\": [{\"set_fact\": {\"s\": null}, \"ignore_errors\": true}, {\"stat\": {\"path\": \"p\"}}], \"always\": [], \"ignore_errors\": true}]}, {\"assert\": {\"that\": [\"hostvars['a'].r.rc is succeeded\", \"r.stdout is failed\"]}, \"changed_when\": \"zz is changed\", \"notify\": \"h1\"}], \"strategy\": \"free\", \"serial\": 2, \"force_handlers\": true}, {\"hosts\": \"all\", \"tasks\": [{\"meta\": \"flush_handlers\"}, {\"debug\": {\"msg\": {\"k\": {\"k\": null}}}, \"register\": \"s\", \"ignore_errors\": true}, {\"ping\": null, \"when\": [\"not (r is undefined or r is failed)\"], \"register\": \"s\", \"failed_when\": \"s is failed\"}, {\"fail\": null, \"failed_when\": \"zz.changed\"}], \"post_tasks\": [{\"loop\": \"{{ r.results }}\", \"debug\": {\"msg\": 1}, \"when\": \"hostvars['a'].opq.stat.isdir is not skipped\", \"register\": \"r\"}, {\"meta\": \"flush_handlers\"}, {\"meta\": \"flush_handlers\"}], \"strategy\": \"free\", \"force_handlers\": true}]") ≡ verdict (refused (record { code = 4; line = 2; host = Some (codes "b") }))
unfolding reading
random_100272 = refl

random_100276 : found (codes "{\"g\": {\"hosts\": [\"b\", \"a\"]}, \"all\": {\"hosts\": [\"c\"], \"vars\": {\"inv\": [1, 2]}}, \"_meta\": {\"hostvars\": {\"a\": {\"opq\": 1.5, \"inv\": [\"x\"]}, \"b\": {\"k\": {\"z\": \"{{ q }}\"}}}}}") (codes "[{\"hosts\": \"all\", \"handlers\": [{\"loop\": \"{{ r.results }}\", \"command\": \"x\", \"name\": \"h0\"}], \"tasks\": [{\"block\": [{\"stat\": {\"path\": \"p\"}, \"when\": [\"'b' in ansible_play_batch\"], \"failed_when\": false, \"notify\": \"h0\"}, {\"loop\": \"{{ r.results }}\", \"ping\": null, \"when\": [\"not (r is undefined or r is failed)\"], \"ignore_errors\": true, \"notify\": \"h0\"}], \"rescue\": [], \"always\": [{\"set_fact\": {\"y\": \"a\"}, \"register\": \"r\"}], \"ignore_errors\": true}, {\"block\": [{\"assert\": {\"that\": [\"'a' in y.stdout_lines\", \"hostvars[item].inv < 3\"]}, \"notify\": \"h0\"}], \"rescue\": [{\"setup\": null, \"register\": \"r\", \"notify\": \"h0\"}], \"always\": [{\"block\": [{\"set_fact\": {\"y\": [\"{{ ['a', 1] }}\"]}, \"register\": \"s\", \"notify\": \"h0\", \"vars\": {\"v2\": \"{{ hostvars[inventory_hostname].inv | join(',') }}\"}}, {\"loop\": \"{{ ansible_play_batch }}\", \"command\": {\"cmd\": [[{\"k\": true}]]}, \"when\": [\"hostvars['a'].r.rc is defined\"], \"changed_when\": true}], \"always\": []}]}, {\"command\": \"x\", \"notify\": \"h0\"}, {\"command\": \"x\", \"when\": \"item in ansible_play_batch\", \"changed_when\": false, \"notify\": \"h0\"}], \"serial\": 1, \"force_handlers\": true, \"gather_facts\": true}]") ≡ verdict (refused (record { code = 1; line = 5; host = Some (codes "c") }))
unfolding reading
random_100276 = refl

random_100279 : found_with (codes "[{\"name\": \"probe\", \"params\": {\"n\": {\"kind\": \"int\", \"required\": false}, \"l\": {\"kind\": {\"list\": \"text\", \"max\": 3}, \"required\": false}}, \"ok\": {\"changed\": {\"kind\": \"bool\", \"always\": true}, \"v\": {\"kind\": \"int\", \"always\": false}, \"rows\": {\"kind\": {\"list\": \"text\", \"max\": 2}, \"always\": true}, \"deep\": {\"kind\": {\"rec\": {\"a\": {\"kind\": \"text\", \"always\": true}, \"b\": {\"kind\": \"bool\", \"always\": false}}}, \"always\": false}}, \"failure\": {\"changed\": {\"kind\": \"bool\", \"always\": true}, \"msg\": {\"kind\": \"text\", \"always\": true}, \"v\": {\"kind\": \"text\", \"always\": false}, \"why\": {\"kind\": \"int\", \"always\": true}}}, {\"name\": \"odd\", \"params\": {}, \"ok\": {\"changed\": {\"kind\": \"bool\", \"always\": true}, \"msg\": {\"kind\": \"int\", \"always\": false}}, \"failure\": {\"changed\": {\"kind\": \"bool\", \"always\": true}, \"msg\": {\"kind\": \"text\", \"always\": true}}}]") (codes "{\"all\": {\"hosts\": [\"a\", \"b\", \"c\"], \"vars\": {}}, \"g2\": {\"hosts\": [\"a\", \"c\"], \"vars\": {\"s1\": \"b\"}}, \"_meta\": {\"hostvars\": {\"a\": {\"i1\": 1, \"s1\": false, \"op\": 1.5}, \"b\": {\"s1\": \"no\"}, \"c\": {\"i2\": []}}}}") (codes "[{\"hosts\": \"a\", \"tasks\": [{\"set_fact\": {\"s1\": {\"f\": 1}}, \"register\": \"r1\"}], \"handlers\": [{\"probe\": {}, \"register\": \"r2\", \"name\": \"h0\", \"notify\": \"h2\"}, {\"command\": {\"cmd\": \"x\"}, \"name\": \"h1\"}, {\"assert\": {\"that\": [\"r2 is defined\"]}, \"failed_when\": false, \"name\": \"h2\", \"listen\": \"t\"}]}]") ≡ verdict (accepted 2)
unfolding reading
random_100279 = refl

random_100280 : found (codes "{\"g\": {\"hosts\": [\"b\", \"a\"]}, \"all\": {\"hosts\": [\"c\"], \"vars\": {\"inv\": [1, 2]}}, \"_meta\": {\"hostvars\": {\"a\": {\"opq\": 1.5, \"inv\": [\"x\"]}, \"b\": {\"k\": {\"z\": \"{{ q }}\"}}}}}") (codes "[{\"hosts\": \"all\", \"tasks\": [{\"block\": [], \"rescue\": [{\"ping\": null, \"when\": [\"r.rc is defined\"], \"register\": \"r\"}], \"always\": [{\"block\": [{\"loop\": \"{{ r.results }}\", \"setup\": null, \"register\": \"r\"}]}]}], \"vars\": {\"v1\": \"{{ group_names.k }}\"}}, {\"hosts\": \"all\", \"pre_tasks\": [{\"loop\": \"{{ ansible_play_batch }}\", \"setup\": null, \"register\": \"r\", \"failed_when\": \"r.changed\"}, {\"block\": [], \"rescue\": [], \"always\": [{\"block\": []}]}], \"tasks\": [{\"loop\": \"{{ inv }}\", \"assert\": {\"that\": \"s.changed is defined\"}, \"register\": \"r\", \"vars\": {\"v1\": \"x{{ v1.results }}\"}}, {\"block\": [], \"always\": [{\"block\": [{\"command\": {\"cmd\": [\"{{ zz.stdout_lines }}\"]}, \"vars\": {\"v2\": \"{{ y | default('d') }}\"}}], \"rescue\": [{\"set_fact\": {\"s\": \"{{ hostvars[inventory_hostname].inv }}\"}}], \"always\": []}]}], \"force_handlers\": true, \"vars\": {\"v1\": \"{{ zz.results | default(1) }}\"}}]") ≡ verdict (refused (record { code = 10; line = 10; host = None }))
unfolding reading
random_100280 = refl

random_100288 : found (codes "{\"g\": {\"hosts\": [\"b\", \"a\"]}, \"all\": {\"hosts\": [\"c\"], \"vars\": {\"inv\": [1, 2]}}, \"_meta\": {\"hostvars\": {\"a\": {\"opq\": 1.5, \"inv\": [\"x\"]}, \"b\": {\"k\": {\"z\": \"{{ q }}\"}}}}}") (codes "[{\"hosts\": \"a\", \"handlers\": [{\"loop\": \"{{ ansible_play_batch }}\", \"debug\": {\"msg\": \"{{ y }}\"}, \"register\": \"r\", \"name\": \"h0\"}], \"tasks\": [{\"loop\": \"{{ r.results }}\", \"assert\": {\"that\": [\"not (groups['g'][0] in ansible_play_batch)\", \"item in ansible_play_batch\"]}, \"when\": \"group_names\"}], \"serial\": 2}]") ≡ verdict (refused (record { code = 1; line = 2; host = Some (codes "a") }))
unfolding reading
random_100288 = refl

random_100294 : found (codes "{\"g\": {\"hosts\": [\"b\", \"a\"]}, \"all\": {\"hosts\": [\"c\"], \"vars\": {\"inv\": [1, 2]}}, \"_meta\": {\"hostvars\": {\"a\": {\"opq\": 1.5, \"inv\": [\"x\"]}, \"b\": {\"k\": {\"z\": \"{{ q }}\"}}}}}") (codes "[{\"hosts\": \"b,a\", \"tasks\": [{\"loop\": \"{{ ansible_play_batch }}\", \"debug\": {\"msg\": {\"k\": [\"{{ inventory_hostname }}\"]}}, \"when\": [\"'a' in ansible_play_batch\", \"s is defined and s is not failed\"]}], \"strategy\": \"free\", \"gather_facts\": true, \"vars\": {\"v1\": \"{{ (s.changed is not skipped) or (y == 1) }}\"}}, {\"hosts\": \"all\", \"tasks\": [{\"meta\": \"flush_handlers\"}, {\"block\": [], \"rescue\": [{\"set_fact\": {\"y\": \"{{ group_names.hostname }}\"}, \"register\": \"s\"}, {\"block\": [{\"loop\": [], \"command\": \"x\", \"when\": [\"hostvars['a'].r.rc is defined\"], \"register\": \"r\", \"vars\": {\"v1\": null}}, {\"debug\": {\"msg\": \"a\"}, \"register\": \"s\", \"failed_when\": \"s is failed\", \"ignore_errors\": true}], \"rescue\": [{\"loop\": \"{{ inv }}\", \"fail\": {\"msg\": \"m\"}, \"register\": \"r\"}, {\"assert\": {\"that\": \"opq.k\"}}]}], \"always\": [{\"block\": [{\"command\": {\"cmd\": \"x{{ inventory_hostname.rc | join(',') }}\"}}]}], \"when\": \"(not (hostvars['a'].r.rc)) and (not (v2.results is skipped))\"}, {\"command\": {\"cmd\": \"a\"}}, {\"loop\": [], \"debug\": {\"msg\": {\"k\": \"{{ ansible_play_batch.stat.isdir }}\"}}, \"when\": [\"r is not skipped\", \"'a' in ansible_play_batch\"], \"ignore_errors\": false}], \"strategy\": \"free\"}]") ≡ verdict (refused (record { code = 2; line = 14; host = Some (codes "c") }))
unfolding reading
random_100294 = refl

random_100296 : found (codes "{\"g\": {\"hosts\": [\"b\", \"a\"]}, \"all\": {\"hosts\": [\"c\"], \"vars\": {\"inv\": [1, 2]}}, \"_meta\": {\"hostvars\": {\"a\": {\"opq\": 1.5, \"inv\": [\"x\"]}, \"b\": {\"k\": {\"z\": \"{{ q }}\"}}}}}") (codes "[{\"hosts\": \"g\", \"tasks\": [{\"ping\": null, \"when\": [\"'a' in ansible_play_batch\"], \"register\": \"s\"}, {\"loop\": [1, 2], \"setup\": null, \"when\": [\"r is defined and r is succeeded\", \"hostvars['a'].r.rc is defined\"], \"register\": \"r\"}], \"strategy\": \"free\", \"serial\": 1}, {\"hosts\": \"a\", \"tasks\": [{\"block\": [{\"setup\": null, \"register\": \"r\", \"failed_when\": \"r.changed\", \"changed_when\": false}, {\"command\": {\"cmd\": [\"{{ (item.k is skipped) or (hostvars['b'].s.hostname is undefined) }}\"]}}], \"rescue\": [], \"always\": []}, {\"command\": \"x\", \"until\": true}, {\"block\": [{\"block\": [], \"when\": \"group_names is succeeded\"}, {\"command\": {\"cmd\": \"{{ inventory_hostname | length }}\"}, \"when\": [\"'b' in ansible_play_batch\"], \"ignore_errors\": true}], \"always\": []}, {\"block\": []}], \"gather_facts\": true}]") ≡ verdict (refused (record { code = 1; line = 8; host = Some (codes "a") }))
unfolding reading
random_100296 = refl

random_100297 : found_with (codes "[{\"name\": \"probe\", \"params\": {\"n\": {\"kind\": \"int\", \"required\": false}, \"l\": {\"kind\": {\"list\": \"text\", \"max\": 3}, \"required\": false}}, \"ok\": {\"changed\": {\"kind\": \"bool\", \"always\": true}, \"v\": {\"kind\": \"int\", \"always\": false}, \"rows\": {\"kind\": {\"list\": \"text\", \"max\": 2}, \"always\": true}, \"deep\": {\"kind\": {\"rec\": {\"a\": {\"kind\": \"text\", \"always\": true}, \"b\": {\"kind\": \"bool\", \"always\": false}}}, \"always\": false}}, \"failure\": {\"changed\": {\"kind\": \"bool\", \"always\": true}, \"msg\": {\"kind\": \"text\", \"always\": true}, \"v\": {\"kind\": \"text\", \"always\": false}, \"why\": {\"kind\": \"int\", \"always\": true}}}, {\"name\": \"odd\", \"params\": {}, \"ok\": {\"changed\": {\"kind\": \"bool\", \"always\": true}, \"msg\": {\"kind\": \"int\", \"always\": false}}, \"failure\": {\"changed\": {\"kind\": \"bool\", \"always\": true}, \"msg\": {\"kind\": \"text\", \"always\": true}}}]") (codes "{\"all\": {\"hosts\": [\"a\", \"b\"], \"vars\": {\"s1\": []}}, \"g1\": {\"hosts\": [\"a\", \"b\"], \"vars\": {}, \"children\": [\"g2\"]}, \"g2\": {\"hosts\": [\"b\"], \"vars\": {\"i1\": {\"f\": 0}, \"i2\": {\"f\": [\"\", \"a\"]}}}, \"_meta\": {\"hostvars\": {\"a\": {\"s1\": 3, \"op\": 1.5}, \"b\": {\"i1\": {\"f\": \"x\", \"g\": [\"x\", \"t\"]}}}}}") (codes "[{\"hosts\": \"g2\", \"serial\": 1, \"tasks\": [{\"set_fact\": {\"s1\": 1}, \"register\": \"r2\", \"ignore_errors\": true}], \"force_handlers\": true}]") ≡ verdict (accepted 0)
unfolding reading
random_100297 = refl

random_100300 : found (codes "{\"g\": {\"hosts\": [\"b\", \"a\"]}, \"all\": {\"hosts\": [\"c\"], \"vars\": {\"inv\": [1, 2]}}, \"_meta\": {\"hostvars\": {\"a\": {\"opq\": 1.5, \"inv\": [\"x\"]}, \"b\": {\"k\": {\"z\": \"{{ q }}\"}}}}}") (codes "[{\"hosts\": \"all\", \"handlers\": [{\"ping\": null, \"when\": [\"r is defined\", \"r is not skipped\"], \"until\": false, \"retries\": 1, \"name\": \"h0\"}, {\"setup\": null, \"when\": [\"r is defined and r is succeeded\", \"r is defined\"], \"register\": \"s\", \"until\": \"s.changed\", \"retries\": 2, \"name\": \"h1\"}], \"tasks\": [{\"block\": [{\"block\": [], \"rescue\": [{\"set_fact\": {\"y\": \"x{{ s.changed | default(hostvars[item].r.os_family) }}\"}, \"when\": [\"r is not skipped\"], \"vars\": {\"v2\": null}}, {\"assert\": {\"that\": [\"'a' in item.os_family\", \"inventory_hostname in ansible_play_batch\"]}}], \"always\": []}, {\"block\": [{\"loop\": \"{{ groups['g'] }}\", \"assert\": {\"that\": \"((hostvars['b'].y is undefined) or ('a' in inventory_hostname.k)) or ((item is not skipped) and (hostvars[inventory_hostname].ansible_hostname.results is succeeded))\"}, \"when\": \"hostvars[groups['g'][0]].opq.stdout is defined\", \"register\": \"s\", \"changed_when\": true, \"ignore_errors\": true, \"notify\": \"h1\"}], \"always\": [{\"setup\": null, \"when\": [\"r is not skipped\"]}], \"when\": [\"inventory_hostname in ansible_play_batch\", \"hostvars['b'].y == 1\"]}], \"rescue\": [], \"always\": [{\"block\": [{\"stat\": {\"path\": \"p\"}, \"changed_when\": true, \"vars\": {\"v2\": [\"{{ group_names is not skipped }}\"]}}, {\"set_fact\": {\"s\": \"{{ inventory_hostname in ansible_play_batch }}\"}, \"when\": [\"'b' in ansible_play_batch\", \"'b' in ansible_play_batch\"], \"ignore_errors\": true}], \"rescue\": [{\"stat\": {\"path\": \"p\"}, \"changed_when\": true, \"until\": \"zz is succeeded\", \"retries\": 2, \"vars\": {\"v2\": \"{{ (hostvars['a'].inv.k is changed) and (r.rc is changed) }}\"}}], \"ignore_errors\": true}]}], \"serial\": \"50%\", \"vars\": {\"v1\": \"x{{ inventory_hostname }}\"}}]") ≡ verdict (refused (record { code = 2; line = 7; host = Some (codes "c") }))
unfolding reading
random_100300 = refl

random_100310 : found (codes "{\"g\": {\"hosts\": [\"b\", \"a\"]}, \"all\": {\"hosts\": [\"c\"], \"vars\": {\"inv\": [1, 2]}}, \"_meta\": {\"hostvars\": {\"a\": {\"opq\": 1.5, \"inv\": [\"x\"]}, \"b\": {\"k\": {\"z\": \"{{ q }}\"}}}}}") (codes "[{\"hosts\": \"a\", \"tasks\": [{\"block\": [], \"rescue\": [{\"loop\": \"{{ r.results }}\", \"debug\": {\"msg\": \"x{{ hostvars[inventory_hostname].ansible_hostname.stdout_lines | default(1) }}\"}, \"register\": \"s\", \"failed_when\": true, \"ignore_errors\": true}], \"when\": [\"((opq.results is not defined) and (ansible_hostname is not skipped)) or (ansible_hostname.os_family < 3)\", \"hostvars[item].inv is defined\"], \"ignore_errors\": false}, {\"fail\": {\"msg\": \"m\"}, \"when\": \"(inventory_hostname is not defined) or ((groups.g is not skipped) and (hostvars['a'].r.rc is not skipped))\", \"ignore_errors\": true}, {\"setup\": null}], \"post_tasks\": [{\"meta\": \"flush_handlers\"}], \"strategy\": \"free\", \"gather_facts\": true, \"vars\": {\"v1\": \"{{ inv.stdout_lines | join(',') }}\"}}]") ≡ verdict (refused (record { code = 4; line = 5; host = Some (codes "a") }))
unfolding reading
random_100310 = refl

random_100314 : found (codes "{\"g\": {\"hosts\": [\"b\", \"a\"]}, \"all\": {\"hosts\": [\"c\"], \"vars\": {\"inv\": [1, 2]}}, \"_meta\": {\"hostvars\": {\"a\": {\"opq\": 1.5, \"inv\": [\"x\"]}, \"b\": {\"k\": {\"z\": \"{{ q }}\"}}}}}") (codes "[{\"hosts\": \"all\", \"tasks\": [{\"block\": []}, {\"debug\": {\"msg\": {\"k\": 1}}, \"when\": [\"(inventory_hostname in ansible_play_batch) or (group_names.hostname is skipped)\", \"not (not (group_names is not defined))\"], \"failed_when\": false}, {\"meta\": \"flush_handlers\"}], \"post_tasks\": [{\"block\": []}, {\"ping\": null, \"register\": \"s\"}], \"serial\": \"50%\", \"force_handlers\": true}]") ≡ verdict (refused (record { code = 4; line = 3; host = Some (codes "c") }))
unfolding reading
random_100314 = refl

random_100326 : found (codes "{\"g\": {\"hosts\": [\"b\", \"a\"]}, \"all\": {\"hosts\": [\"c\"], \"vars\": {\"inv\": [1, 2]}}, \"_meta\": {\"hostvars\": {\"a\": {\"opq\": 1.5, \"inv\": [\"x\"]}, \"b\": {\"k\": {\"z\": \"{{ q }}\"}}}}}") (codes "[{\"hosts\": \"a\", \"handlers\": [{\"debug\": {\"msg\": true}, \"name\": \"h0\"}], \"pre_tasks\": [{\"block\": []}, {\"ping\": null, \"when\": [\"'a' in ansible_play_batch\"]}], \"tasks\": [{\"block\": [{\"block\": [{\"command\": {\"cmd\": [{\"k\": 1}]}, \"when\": [\"'b' in ansible_play_batch\"], \"until\": \"zz.changed\", \"retries\": 1}]}, {\"block\": [{\"command\": \"x\", \"register\": \"r\"}], \"when\": [\"not ((r.changed == 'a') and (ansible_failed_result.changed))\", \"((group_names == 'a') and (hostvars['b'].ansible_hostname == 'a')) or ('b' in ansible_play_batch)\"]}], \"always\": []}, {\"debug\": {\"msg\": \"{{ hostvars['a'].r.rc is defined }}\"}, \"register\": \"r\"}], \"serial\": 2, \"force_handlers\": true}]") ≡ verdict (refused (record { code = 4; line = 6; host = Some (codes "a") }))
unfolding reading
random_100326 = refl

random_100336 : found (codes "{\"g\": {\"hosts\": [\"b\", \"a\"]}, \"all\": {\"hosts\": [\"c\"], \"vars\": {\"inv\": [1, 2]}}, \"_meta\": {\"hostvars\": {\"a\": {\"opq\": 1.5, \"inv\": [\"x\"]}, \"b\": {\"k\": {\"z\": \"{{ q }}\"}}}}}") (codes "[{\"hosts\": \"all\", \"tasks\": [{\"command\": {\"cmd\": \"a\"}, \"until\": true, \"retries\": 2}, {\"meta\": \"flush_handlers\"}, {\"stat\": {\"path\": \"p\"}, \"register\": \"r\", \"vars\": {\"v2\": {\"k\": 1}}}, {\"stat\": {\"path\": \"p\"}, \"until\": false, \"retries\": 2}], \"force_handlers\": true}]") ≡ verdict (accepted 21)
unfolding reading
random_100336 = refl

random_100337 : found_with (codes "[{\"name\": \"probe\", \"params\": {\"n\": {\"kind\": \"int\", \"required\": false}, \"l\": {\"kind\": {\"list\": \"text\", \"max\": 3}, \"required\": false}}, \"ok\": {\"changed\": {\"kind\": \"bool\", \"always\": true}, \"v\": {\"kind\": \"int\", \"always\": false}, \"rows\": {\"kind\": {\"list\": \"text\", \"max\": 2}, \"always\": true}, \"deep\": {\"kind\": {\"rec\": {\"a\": {\"kind\": \"text\", \"always\": true}, \"b\": {\"kind\": \"bool\", \"always\": false}}}, \"always\": false}}, \"failure\": {\"changed\": {\"kind\": \"bool\", \"always\": true}, \"msg\": {\"kind\": \"text\", \"always\": true}, \"v\": {\"kind\": \"text\", \"always\": false}, \"why\": {\"kind\": \"int\", \"always\": true}}}, {\"name\": \"odd\", \"params\": {}, \"ok\": {\"changed\": {\"kind\": \"bool\", \"always\": true}, \"msg\": {\"kind\": \"int\", \"always\": false}}, \"failure\": {\"changed\": {\"kind\": \"bool\", \"always\": true}, \"msg\": {\"kind\": \"text\", \"always\": true}}}]") (codes "{\"all\": {\"hosts\": [\"a\", \"b\"], \"vars\": {\"i1\": true, \"s1\": \"x\"}}, \"g1\": {\"hosts\": [\"a\", \"b\"], \"vars\": {\"op\": 1.5}}, \"g2\": {\"hosts\": [\"a\"], \"vars\": {\"s1\": \"t\"}}, \"_meta\": {\"hostvars\": {\"a\": {\"i1\": \"\"}, \"b\": {\"i2\": {\"g\": 1}}}}}") (codes "[{\"hosts\": \"all\", \"vars\": {\"v1\": \"x\", \"v3\": 0}, \"tasks\": [{\"set_fact\": {\"s2\": {\"f\": \"no\", \"g\": 1}}, \"register\": \"r1\"}, {\"vars\": {\"v1\": \"{{ hostvars['b'].r3.failed | default([]) }}\", \"v2\": \"{{ hostvars['a'].s1 }}\", \"v3\": \"{{ r1.skip_reason }}\"}, \"ping\": null, \"register\": \"r3\", \"ignore_errors\": true, \"notify\": \"h0\"}], \"handlers\": [{\"loop\": [true, true, 0], \"vars\": {\"v2\": \"{{ r2.failed | default(1) }}\", \"v3\": \"{{ r1.changed }}\"}, \"debug\": {\"msg\": \"x{{ s1 }}\"}, \"when\": \"s1 is defined\", \"register\": \"r1\", \"changed_when\": \"r1.changed is defined and r1.changed == 'a'\", \"name\": \"h0\", \"notify\": \"h1\", \"listen\": \"t\"}, {\"loop\": \"{{ ansible_play_batch }}\", \"set_fact\": {\"s2\": \"x\"}, \"when\": \"item in ansible_play_batch\", \"name\": \"h1\"}, {\"command\": {\"cmd\": \"x\"}, \"when\": \"s1 is undefined\", \"name\": \"h2\"}]}]") ≡ verdict (accepted 4)
unfolding reading
random_100337 = refl

random_100344 : found (codes "{\"g\": {\"hosts\": [\"b\", \"a\"]}, \"all\": {\"hosts\": [\"c\"], \"vars\": {\"inv\": [1, 2]}}, \"_meta\": {\"hostvars\": {\"a\": {\"opq\": 1.5, \"inv\": [\"x\"]}, \"b\": {\"k\": {\"z\": \"{{ q }}\"}}}}}") (codes "[{\"hosts\": \"a\", \"handlers\": [{\"fail\": {\"msg\": \"m\"}, \"when\": [\"hostvars['a'].r.rc is defined\"], \"register\": \"s\", \"failed_when\": \"s.changed\", \"ignore_errors\": true, \"vars\": {\"v2\": {\"k\": 1}}, \"name\": \"h0\"}, {\"set_fact\": {\"y\": \"{{ r.results }}\"}, \"register\": \"s\", \"vars\": {\"v1\": \"{{ group_names }}\"}, \"name\": \"h1\"}], \"tasks\": [{\"loop\": \"{{ r.results }}\", \"assert\": {\"that\": [\"(item in ansible_play_batch) and (opq < 3)\", \"((group_names.results == 'a') or (opq.stdout_lines < 3)) or (hostvars['a'].r.rc == 1)\"]}, \"when\": \"'a' in ansible_play_batch\", \"register\": \"s\", \"ignore_errors\": true}, {\"command\": {\"cmd\": \"x{{ opq.stat.isdir | default(1) }}\"}, \"when\": [\"hostvars['b'].y is succeeded\", \"hostvars['b'].y is failed\"], \"changed_when\": false, \"notify\": \"h1\"}], \"strategy\": \"free\", \"vars\": {\"v1\": \"{{ none }}\"}}]") ≡ verdict (refused (record { code = 1; line = 2; host = Some (codes "a") }))
unfolding reading
random_100344 = refl

random_100360 : found (codes "{\"g\": {\"hosts\": [\"b\", \"a\"]}, \"all\": {\"hosts\": [\"c\"], \"vars\": {\"inv\": [1, 2]}}, \"_meta\": {\"hostvars\": {\"a\": {\"opq\": 1.5, \"inv\": [\"x\"]}, \"b\": {\"k\": {\"z\": \"{{ q }}\"}}}}}") (codes "[{\"hosts\": \"a\", \"tasks\": [{\"loop\": \"{{ groups['g'] }}\", \"setup\": null, \"when\": [\"groups['g'][0] in ansible_play_batch\", \"y == 'a'\"]}, {\"fail\": {\"msg\": \"m\"}, \"when\": [\"(hostvars['a'].r.rc is changed) or (hostvars['a'].inv is succeeded)\", \"v2.hostname is not defined\"], \"register\": \"r\", \"changed_when\": true}, {\"block\": [], \"rescue\": [{\"command\": \"x\", \"when\": \"(not (group_names.hostname is not defined)) and (hostvars[item].inv == 1)\", \"register\": \"s\", \"changed_when\": \"s is changed\", \"until\": true, \"ignore_errors\": true}], \"when\": \"((r.stdout is succeeded) and (ansible_play_batch.rc == 1)) and (hostvars['a'].inv is changed)\"}, {\"set_fact\": {\"y\": \"{{ groups.g }}\"}, \"when\": [\"'b' in ansible_play_batch\"]}], \"vars\": {\"v1\": [\"{{ opq }}\"]}}]") ≡ verdict (refused (record { code = 1; line = 2; host = Some (codes "a") }))
unfolding reading
random_100360 = refl

random_100363 : found_with (codes "[{\"name\": \"probe\", \"params\": {\"n\": {\"kind\": \"int\", \"required\": false}, \"l\": {\"kind\": {\"list\": \"text\", \"max\": 3}, \"required\": false}}, \"ok\": {\"changed\": {\"kind\": \"bool\", \"always\": true}, \"v\": {\"kind\": \"int\", \"always\": false}, \"rows\": {\"kind\": {\"list\": \"text\", \"max\": 2}, \"always\": true}, \"deep\": {\"kind\": {\"rec\": {\"a\": {\"kind\": \"text\", \"always\": true}, \"b\": {\"kind\": \"bool\", \"always\": false}}}, \"always\": false}}, \"failure\": {\"changed\": {\"kind\": \"bool\", \"always\": true}, \"msg\": {\"kind\": \"text\", \"always\": true}, \"v\": {\"kind\": \"text\", \"always\": false}, \"why\": {\"kind\": \"int\", \"always\": true}}}, {\"name\": \"odd\", \"params\": {}, \"ok\": {\"changed\": {\"kind\": \"bool\", \"always\": true}, \"msg\": {\"kind\": \"int\", \"always\": false}}, \"failure\": {\"changed\": {\"kind\": \"bool\", \"always\": true}, \"msg\": {\"kind\": \"text\", \"always\": true}}}]") (codes "{\"all\": {\"hosts\": [\"a\"], \"vars\": {\"i2\": []}}, \"_meta\": {\"hostvars\": {\"a\": {\"i1\": \"x\"}}}}") (codes "[{\"hosts\": \"all\", \"serial\": 1, \"pre_tasks\": [{\"block\": [{\"command\": \"x\", \"register\": \"r1\", \"changed_when\": \"r1 is changed\"}, {\"block\": [{\"ping\": null, \"when\": \"r1 is succeeded\", \"register\": \"r3\", \"ignore_errors\": true}], \"rescue\": [{\"loop\": [\"x\", \"x\"], \"assert\": {\"that\": [\"'g2' in group_names\"]}, \"when\": \"not (r2 is skipped)\", \"register\": \"r2\", \"notify\": \"t\", \"changed_when\": true}]}, {\"set_fact\": {\"s2\": \"no\"}, \"register\": \"r3\", \"notify\": \"h0\"}], \"rescue\": [{\"debug\": {\"msg\": \"x\"}, \"register\": \"r1\"}]}], \"tasks\": [{\"vars\": {}, \"set_fact\": {\"s1\": 1}}], \"handlers\": [{\"probe\": {}, \"when\": \"not ('g1' in group_names)\", \"register\": \"r3\", \"name\": \"h0\", \"listen\": \"t\"}], \"force_handlers\": true}]") ≡ verdict (accepted 4)
unfolding reading
random_100363 = refl

random_100399 : found_with (codes "[{\"name\": \"probe\", \"params\": {\"n\": {\"kind\": \"int\", \"required\": false}, \"l\": {\"kind\": {\"list\": \"text\", \"max\": 3}, \"required\": false}}, \"ok\": {\"changed\": {\"kind\": \"bool\", \"always\": true}, \"v\": {\"kind\": \"int\", \"always\": false}, \"rows\": {\"kind\": {\"list\": \"text\", \"max\": 2}, \"always\": true}, \"deep\": {\"kind\": {\"rec\": {\"a\": {\"kind\": \"text\", \"always\": true}, \"b\": {\"kind\": \"bool\", \"always\": false}}}, \"always\": false}}, \"failure\": {\"changed\": {\"kind\": \"bool\", \"always\": true}, \"msg\": {\"kind\": \"text\", \"always\": true}, \"v\": {\"kind\": \"text\", \"always\": false}, \"why\": {\"kind\": \"int\", \"always\": true}}}, {\"name\": \"odd\", \"params\": {}, \"ok\": {\"changed\": {\"kind\": \"bool\", \"always\": true}, \"msg\": {\"kind\": \"int\", \"always\": false}}, \"failure\": {\"changed\": {\"kind\": \"bool\", \"always\": true}, \"msg\": {\"kind\": \"text\", \"always\": true}}}]") (codes "{\"all\": {\"hosts\": [\"a\", \"b\"], \"vars\": {\"s1\": [], \"op\": 1.5}}, \"g1\": {\"hosts\": [], \"vars\": {\"i2\": \"no\"}}, \"g2\": {\"hosts\": [\"a\"], \"vars\": {\"i1\": {\"f\": {\"f\": \"\", \"g\": true}, \"g\": [true, 3]}, \"op\": 1.5}}, \"_meta\": {\"hostvars\": {\"a\": {\"i1\": \"b\", \"op\": 1.5}, \"b\": {}}}}") (codes "[{\"hosts\": \"all\", \"serial\": 1, \"tasks\": [{\"meta\": \"flush_handlers\"}, {\"when\": \"('b' not in ansible_play_batch) or (r1 is skipped)\", \"block\": [{\"ping\": null}, {\"probe\": {}, \"register\": \"r3\", \"failed_when\": \"r3.changed | default(true) == true\"}, {\"ping\": null, \"changed_when\": true}], \"rescue\": [{\"command\": {\"cmd\": \"x {{ [r3.deep.b, 'q'] }}\"}, \"when\": \"r3.deep.b is defined\", \"failed_when\": \"inventory_hostname == 'a'\"}, {\"vars\": {\"v3\": \"{{ (ansible_facts.hostname) == (hostvars[groups['all'][0]].r1.changed) }}\"}, \"stat\": {\"path\": \"/\"}, \"register\": \"r2\"}, {\"command\": {\"cmd\": \"x\"}, \"when\": \"r1 is succeeded\", \"ignore_errors\": true}]}, {\"command\": {\"cmd\": \"x\"}, \"register\": \"r3\"}], \"force_handlers\": true}]") ≡ verdict (refused (record { code = 1; line = 4; host = Some (codes "a") }))
unfolding reading
random_100399 = refl

random_100402 : found (codes "{\"g\": {\"hosts\": [\"b\", \"a\"]}, \"all\": {\"hosts\": [\"c\"], \"vars\": {\"inv\": [1, 2]}}, \"_meta\": {\"hostvars\": {\"a\": {\"opq\": 1.5, \"inv\": [\"x\"]}, \"b\": {\"k\": {\"z\": \"{{ q }}\"}}}}}") (codes "[{\"hosts\": \"a\", \"handlers\": [{\"command\": {\"cmd\": \"{{ groups.g }}\"}, \"name\": \"h0\"}, {\"command\": \"x\", \"when\": \"inventory_hostname in ansible_play_batch\", \"ignore_errors\": false, \"name\": \"h1\"}], \"tasks\": [{\"command\": {\"cmd\": \"{{ ansible_failed_result.stdout_lines }}\"}}, {\"block\": [], \"rescue\": [], \"always\": [{\"debug\": {\"msg\": true}}]}, {\"meta\": \"flush_handlers\"}], \"strategy\": \"free\"}]") ≡ verdict (refused (record { code = 1; line = 2; host = Some (codes "a") }))
unfolding reading
random_100402 = refl

random_100406 : found (codes "{\"g\": {\"hosts\": [\"b\", \"a\"]}, \"all\": {\"hosts\": [\"c\"], \"vars\": {\"inv\": [1, 2]}}, \"_meta\": {\"hostvars\": {\"a\": {\"opq\": 1.5, \"inv\": [\"x\"]}, \"b\": {\"k\": {\"z\": \"{{ q }}\"}}}}}") (codes "[{\"hosts\": \"all\", \"handlers\": [{\"assert\": {\"that\": \"s.changed is changed\"}, \"failed_when\": true, \"vars\": {\"v2\": \"{{ r.failed }}\"}, \"name\": \"h0\"}], \"tasks\": [{\"stat\": {\"path\": \"p\"}, \"when\": \"(v2 is not defined) or (v1.k == 1)\"}, {\"block\": [{\"set_fact\": {\"y\": null}, \"when\": [\"hostvars['b'].y is defined\", \"r is not skipped\"], \"ignore_errors\": true, \"notify\": \"h0\", \"vars\": {\"v1\": true}}, {\"debug\": {\"msg\": \"{{ inventory_hostname is changed }}\"}, \"when\": [\"y is defined\"], \"register\": \"r\", \"ignore_errors\": true, \"notify\": \"h0\"}], \"rescue\": []}], \"force_handlers\": true}, {\"hosts\": \"all\", \"handlers\": [{\"loop\": \"{{ r.stdout_lines }}\", \"set_fact\": {\"y\": \"x{{ inventory_hostname.stat.isdir | length }}\"}, \"register\": \"s\", \"name\": \"h0\"}, {\"stat\": {\"path\": \"p\"}, \"ignore_errors\": true, \"name\": \"h1\"}], \"tasks\": [{\"command\": {\"cmd\": \"{{ inv }}\"}}, {\"fail\": null, \"register\": \"s\", \"notify\": \"h0\"}, {\"block\": []}], \"force_handlers\": true, \"vars\": {\"v1\": [null]}}]") ≡ verdict (refused (record { code = 1; line = 2; host = Some (codes "c") }))
unfolding reading
random_100406 = refl

random_100412 : found (codes "{\"g\": {\"hosts\": [\"b\", \"a\"]}, \"all\": {\"hosts\": [\"c\"], \"vars\": {\"inv\": [1, 2]}}, \"_meta\": {\"hostvars\": {\"a\": {\"opq\": 1.5, \"inv\": [\"x\"]}, \"b\": {\"k\": {\"z\": \"{{ q }}\"}}}}}") (codes "[{\"hosts\": \"b,a\", \"handlers\": [{\"stat\": {\"path\": \"p\"}, \"register\": \"s\", \"name\": \"h0\"}], \"tasks\": [{\"block\": [{\"loop\": \"{{ r.stdout_lines }}\", \"fail\": {\"msg\": \"m\"}}], \"rescue\": [{\"ping\": null, \"changed_when\": false}, {\"block\": [{\"fail\": null, \"when\": [\"s is defined and s is not failed\", \"r is not skipped\"]}, {\"ping\": null, \"register\": \"s\", \"notify\": \"h0\"}], \"rescue\": [{\"command\": {\"cmd\": \"{{ zz.hostname | join(',') }}\"}, \"when\": [\"'a' in r.results\", \"item is undefined\"], \"register\": \"s\", \"ignore_errors\": false}, {\"ping\": null, \"when\": \"hostvars[inventory_hostname].y.rc is changed\"}]}], \"always\": [{\"set_fact\": {\"s\": \"{{ 'b' in ansible_play_batch }}\"}, \"register\": \"s\", \"notify\": \"h0\"}]}, {\"block\": [{\"set_fact\": {\"s\": \"{{ v1.stdout_lines is not skipped }}\"}, \"notify\": \"h0\"}]}], \"post_tasks\": [{\"block\": [], \"rescue\": [{\"debug\": {\"msg\": \"x{{ r.results < 3 }}\"}, \"register\": \"r\", \"ignore_errors\": false, \"notify\": \"h0\"}, {\"block\": [], \"always\": []}]}, {\"command\": {\"cmd\": 1}, \"when\": [\"hostvars['a'].r.rc is defined\", \"r is defined\"], \"register\": \"r\", \"notify\": \"h0\"}, {\"block\": []}, {\"block\": [{\"stat\": {\"path\": \"p\"}, \"when\": [\"s is defined and s is not failed\"], \"register\": \"s\", \"notify\": \"h0\"}, {\"setup\": null, \"when\": \"('b' in ansible_play_batch) or (s.changed == 'a')\", \"notify\": \"h0\"}]}], \"strategy\": \"free\", \"vars\": {\"v1\": \"{{ y.rc }}\"}}]") ≡ verdict (refused (record { code = 1; line = 3; host = Some (codes "b") }))
unfolding reading
random_100412 = refl

random_100416 : found (codes "{\"g\": {\"hosts\": [\"b\", \"a\"]}, \"all\": {\"hosts\": [\"c\"], \"vars\": {\"inv\": [1, 2]}}, \"_meta\": {\"hostvars\": {\"a\": {\"opq\": 1.5, \"inv\": [\"x\"]}, \"b\": {\"k\": {\"z\": \"{{ q }}\"}}}}}") (codes "[{\"hosts\": \"g\", \"tasks\": [{\"stat\": {\"path\": \"p\"}, \"when\": [\"s is defined and s is not failed\"], \"vars\": {\"v1\": \"{{ group_names.rc }}\"}}, {\"block\": [{\"loop\": [\"a\", \"b\"], \"setup\": null, \"register\": \"r\"}]}, {\"meta\": \"flush_handlers\"}], \"strategy\": \"free\", \"serial\": \"50%\", \"force_handlers\": true}]") ≡ verdict (accepted 6)
unfolding reading
random_100416 = refl

random_100430 : found (codes "{\"g\": {\"hosts\": [\"b\", \"a\"]}, \"all\": {\"hosts\": [\"c\"], \"vars\": {\"inv\": [1, 2]}}, \"_meta\": {\"hostvars\": {\"a\": {\"opq\": 1.5, \"inv\": [\"x\"]}, \"b\": {\"k\": {\"z\": \"{{ q }}\"}}}}}") (codes "[{\"hosts\": \"all\", \"tasks\": [{\"setup\": null, \"register\": \"s\", \"ignore_errors\": true}, {\"ping\": null, \"when\": \"opq.stat.isdir is skipped\"}, {\"loop\": \"{{ inv }}\", \"command\": {\"cmd\": \"{{ ['a', 1] }}\"}, \"when\": [\"ansible_play_batch.k is succeeded\", \"not (('a' in hostvars['b'].y.msg) and (hostvars[item].r.changed is skipped))\"]}], \"post_tasks\": [{\"block\": [{\"loop\": [], \"setup\": null, \"when\": [\"hostvars['b'].y is defined\"], \"ignore_errors\": true}, {\"assert\": {\"that\": \"hostvars['b'].y is defined\"}, \"when\": \"groups['g'][0] in ansible_play_batch\"}], \"always\": []}, {\"command\": {\"cmd\": \"x{{ hostvars[inventory_hostname].inv }}\"}, \"register\": \"r\"}, {\"set_fact\": {\"s\": \"{{ ansible_facts.msg is defined }}\"}, \"when\": [\"y is defined\"], \"register\": \"r\", \"ignore_errors\": true}, {\"block\": [{\"command\": {\"cmd\": true}, \"register\": \"s\", \"changed_when\": false, \"until\": true, \"retries\": 2, \"ignore_errors\": true}], \"rescue\": [], \"always\": []}], \"vars\": {\"v1\": \"{{ s.changed | length }}\"}}]") ≡ verdict (refused (record { code = 1; line = 3; host = Some (codes "c") }))
unfolding reading
random_100430 = refl

random_100432 : found (codes "{\"g\": {\"hosts\": [\"b\", \"a\"]}, \"all\": {\"hosts\": [\"c\"], \"vars\": {\"inv\": [1, 2]}}, \"_meta\": {\"hostvars\": {\"a\": {\"opq\": 1.5, \"inv\": [\"x\"]}, \"b\": {\"k\": {\"z\": \"{{ q }}\"}}}}}") (codes "[{\"hosts\": \"b,a\", \"handlers\": [{\"command\": {\"cmd\": [1, 2]}, \"name\": \"h0\"}], \"tasks\": [{\"set_fact\": {\"y\": \"{{ ansible_play_batch }}\"}, \"when\": \"hostvars[inventory_hostname].inv is failed\", \"notify\": \"h0\"}, {\"block\": [], \"rescue\": [{\"set_fact\": {\"s\": \"{{ hostvars[groups['g'][0]].r.stdout_lines | length }}\"}, \"when\": \"'a' in opq.stdout_lines\", \"failed_when\": true, \"notify\": \"h0\"}], \"ignore_errors\": true}], \"strategy\": \"free\", \"serial\": \"50%\", \"force_handlers\": true}]") ≡ verdict (refused (record { code = 4; line = 2; host = Some (codes "b") }))
unfolding reading
random_100432 = refl

random_100435 : found_with (codes "[{\"name\": \"probe\", \"params\": {\"n\": {\"kind\": \"int\", \"required\": false}, \"l\": {\"kind\": {\"list\": \"text\", \"max\": 3}, \"required\": false}}, \"ok\": {\"changed\": {\"kind\": \"bool\", \"always\": true}, \"v\": {\"kind\": \"int\", \"always\": false}, \"rows\": {\"kind\": {\"list\": \"text\", \"max\": 2}, \"always\": true}, \"deep\": {\"kind\": {\"rec\": {\"a\": {\"kind\": \"text\", \"always\": true}, \"b\": {\"kind\": \"bool\", \"always\": false}}}, \"always\": false}}, \"failure\": {\"changed\": {\"kind\": \"bool\", \"always\": true}, \"msg\": {\"kind\": \"text\", \"always\": true}, \"v\": {\"kind\": \"text\", \"always\": false}, \"why\": {\"kind\": \"int\", \"always\": true}}}, {\"name\": \"odd\", \"params\": {}, \"ok\": {\"changed\": {\"kind\": \"bool\", \"always\": true}, \"msg\": {\"kind\": \"int\", \"always\": false}}, \"failure\": {\"changed\": {\"kind\": \"bool\", \"always\": true}, \"msg\": {\"kind\": \"text\", \"always\": true}}}]") (codes "{\"all\": {\"hosts\": [\"a\", \"b\", \"c\", \"d\"], \"vars\": {}}, \"g1\": {\"hosts\": [\"a\", \"b\", \"c\"], \"vars\": {\"s1\": \"x\", \"op\": 1.5}, \"children\": [\"g2\"]}, \"g2\": {\"hosts\": [\"c\", \"d\"], \"vars\": {\"i2\": 0}}, \"_meta\": {\"hostvars\": {\"a\": {\"s1\": {\"f\": -1, \"g\": null}}, \"b\": {\"s1\": 3}, \"c\": {\"s1\": false}, \"d\": {\"i1\": 1, \"op\": 1.5}}}}") (codes "[{\"hosts\": \"all\", \"strategy\": \"free\", \"serial\": 2, \"tasks\": [{\"set_fact\": {\"s2\": \"{{ [r2, r2] }}\"}, \"when\": [\"'d' in ansible_play_batch\", \"r2 is defined\"], \"register\": \"r3\"}, {\"when\": \"(('c' not in ansible_play_batch) or (hostvars['c'].r1 is defined and hostvars['c'].r1 is failed and hostvars['c'].r1.failed != 'x')) or (r3 is changed)\", \"block\": [{\"loop\": \"{{ r1.results | default([]) }}\", \"vars\": {}, \"command\": {\"cmd\": \"x\"}}]}]}]") ≡ verdict (accepted 0)
unfolding reading
random_100435 = refl

random_100436 : found (codes "{\"g\": {\"hosts\": [\"b\", \"a\"]}, \"all\": {\"hosts\": [\"c\"], \"vars\": {\"inv\": [1, 2]}}, \"_meta\": {\"hostvars\": {\"a\": {\"opq\": 1.5, \"inv\": [\"x\"]}, \"b\": {\"k\": {\"z\": \"{{ q }}\"}}}}}") (codes "[{\"hosts\": \"all\", \"handlers\": [{\"debug\": {\"msg\": \"x{{ 1 }}\"}, \"register\": \"r\", \"name\": \"h0\"}, {\"ping\": null, \"register\": \"r\", \"name\": \"h1\"}], \"tasks\": [{\"command\": {\"cmd\": \"{{ zz.stat.isdir }}\"}, \"when\": [\"not (r is undefined or r is failed)\"], \"register\": \"r\", \"until\": \"r.changed\", \"ignore_errors\": false}, {\"set_fact\": {\"s\": {\"k\": \"{{ hostvars[inventory_hostname].s.stdout | default('d') }}\"}}, \"changed_when\": \"zz is changed\", \"ignore_errors\": true}], \"strategy\": \"free\", \"serial\": 2, \"vars\": {\"v1\": \"{{ [1, 2] }}\"}}]") ≡ verdict (refused (record { code = 1; line = 2; host = Some (codes "c") }))
unfolding reading
random_100436 = refl

random_100442 : found (codes "{\"g\": {\"hosts\": [\"b\", \"a\"]}, \"all\": {\"hosts\": [\"c\"], \"vars\": {\"inv\": [1, 2]}}, \"_meta\": {\"hostvars\": {\"a\": {\"opq\": 1.5, \"inv\": [\"x\"]}, \"b\": {\"k\": {\"z\": \"{{ q }}\"}}}}}") (codes "[{\"hosts\": \"all\", \"tasks\": [{\"command\": \"x\"}, {\"block\": []}, {\"assert\": {\"that\": \"hostvars[inventory_hostname].inv is changed\"}, \"register\": \"r\"}], \"post_tasks\": [{\"loop\": \"{{ groups.all }}\", \"command\": {\"cmd\": \"x{{ none }}\"}, \"when\": [\"hostvars[item].y is defined\", \"r is not skipped\"]}, {\"loop\": \"{{ inv }}\", \"set_fact\": {\"s\": [1, 2]}, \"ignore_errors\": true}], \"force_handlers\": true}]") ≡ verdict (refused (record { code = 4; line = 4; host = Some (codes "c") }))
unfolding reading
random_100442 = refl

random_100445 : found_with (codes "[{\"name\": \"probe\", \"params\": {\"n\": {\"kind\": \"int\", \"required\": false}, \"l\": {\"kind\": {\"list\": \"text\", \"max\": 3}, \"required\": false}}, \"ok\": {\"changed\": {\"kind\": \"bool\", \"always\": true}, \"v\": {\"kind\": \"int\", \"always\": false}, \"rows\": {\"kind\": {\"list\": \"text\", \"max\": 2}, \"always\": true}, \"deep\": {\"kind\": {\"rec\": {\"a\": {\"kind\": \"text\", \"always\": true}, \"b\": {\"kind\": \"bool\", \"always\": false}}}, \"always\": false}}, \"failure\": {\"changed\": {\"kind\": \"bool\", \"always\": true}, \"msg\": {\"kind\": \"text\", \"always\": true}, \"v\": {\"kind\": \"text\", \"always\": false}, \"why\": {\"kind\": \"int\", \"always\": true}}}, {\"name\": \"odd\", \"params\": {}, \"ok\": {\"changed\": {\"kind\": \"bool\", \"always\": true}, \"msg\": {\"kind\": \"int\", \"always\": false}}, \"failure\": {\"changed\": {\"kind\": \"bool\", \"always\": true}, \"msg\": {\"kind\": \"text\", \"always\": true}}}]") (codes "{\"all\": {\"hosts\": [\"a\", \"b\", \"c\", \"d\"], \"vars\": {\"i2\": false}}, \"g1\": {\"hosts\": [\"a\", \"b\", \"d\"], \"vars\": {}}, \"_meta\": {\"hostvars\": {\"a\": {\"i2\": \"no\"}, \"b\": {\"op\": 1.5}, \"c\": {}, \"d\": {}}}}") (codes "[{\"hosts\": \"all\", \"vars\": {\"v2\": -1}, \"gather_facts\": true, \"tasks\": [{\"loop\": \"{{ s1 }}\", \"ping\": null}, {\"meta\": \"flush_handlers\"}, {\"loop\": \"{{ groups['all'] }}\", \"command\": {\"cmd\": \"x\"}, \"when\": \"item in ansible_play_batch\", \"register\": \"r1\"}, {\"loop\": \"{{ r1.results | default([]) }}\", \"probe\": {}, \"register\": \"r1\"}]}, {\"hosts\": \"all\", \"strategy\": \"free\", \"tasks\": [{\"command\": {\"cmd\": \"x\"}}, {\"command\": {\"cmd\": \"x\"}, \"when\": \"'g2' in group_names\", \"register\": \"r3\"}, {\"loop\": [{\"f\": []}], \"ping\": null, \"register\": \"r2\", \"failed_when\": \"r2.ping == 1\"}, {\"command\": {\"cmd\": \"x\"}, \"when\": \"r2 is not skipped\", \"register\": \"r2\", \"failed_when\": true}]}]") ≡ verdict (refused (record { code = 1; line = 3; host = Some (codes "a") }))
unfolding reading
random_100445 = refl

random_100452 : found (codes "{\"g\": {\"hosts\": [\"b\", \"a\"]}, \"all\": {\"hosts\": [\"c\"], \"vars\": {\"inv\": [1, 2]}}, \"_meta\": {\"hostvars\": {\"a\": {\"opq\": 1.5, \"inv\": [\"x\"]}, \"b\": {\"k\": {\"z\": \"{{ q }}\"}}}}}") (codes "[{\"hosts\": \"b,a\", \"tasks\": [{\"block\": [{\"loop\": \"{{ r.stdout_lines }}\", \"assert\": {\"that\": \"(groups['g'][0] in ansible_play_batch) and (item in ansible_play_batch)\"}, \"when\": \"'a' in r.rc\"}, {\"block\": [{\"ping\": null, \"ignore_errors\": true}], \"rescue\": [], \"always\": [{\"command\": {\"cmd\": [\"{{ ansible_play_batch.stdout }}\"]}}]}]}, {\"ping\": null, \"when\": [\"r is defined\", \"y is defined\"], \"vars\": {\"v1\": \"{{ hostvars['b'].ansible_hostname.changed }}\"}}, {\"stat\": {\"path\": \"p\"}, \"ignore_errors\": false}, {\"setup\": null, \"register\": \"s\"}]}]") ≡ verdict (refused (record { code = 1; line = 3; host = Some (codes "b") }))
unfolding reading
random_100452 = refl

random_100462 : found (codes "{\"g\": {\"hosts\": [\"b\", \"a\"]}, \"all\": {\"hosts\": [\"c\"], \"vars\": {\"inv\": [1, 2]}}, \"_meta\": {\"hostvars\": {\"a\": {\"opq\": 1.5, \"inv\": [\"x\"]}, \"b\": {\"k\": {\"z\": \"{{ q }}\"}}}}}") (codes "[{\"hosts\": \"all\", \"handlers\": [{\"command\": {\"cmd\": \"{{ group_names.changed }}\"}, \"until\": false, \"retries\": 2, \"name\": \"h0\"}, {\"stat\": {\"path\": \"p\"}, \"failed_when\": \"zz is failed\", \"name\": \"h1\"}], \"tasks\": [{\"meta\": \"flush_handlers\"}, {\"fail\": null, \"notify\": \"h0\"}, {\"loop\": \"{{ r.stdout_lines }}\", \"debug\": {\"msg\": 1}, \"when\": \"(r.stdout is not defined) or (item.stdout_lines)\", \"failed_when\": false, \"ignore_errors\": true, \"notify\": \"h1\"}], \"gather_facts\": true}]") ≡ verdict (refused (record { code = 4; line = 6; host = Some (codes "c") }))
unfolding reading
random_100462 = refl

random_100471 : found_with (codes "[{\"name\": \"probe\", \"params\": {\"n\": {\"kind\": \"int\", \"required\": false}, \"l\": {\"kind\": {\"list\": \"text\", \"max\": 3}, \"required\": false}}, \"ok\": {\"changed\": {\"kind\": \"bool\", \"always\": true}, \"v\": {\"kind\": \"int\", \"always\": false}, \"rows\": {\"kind\": {\"list\": \"text\", \"max\": 2}, \"always\": true}, \"deep\": {\"kind\": {\"rec\": {\"a\": {\"kind\": \"text\", \"always\": true}, \"b\": {\"kind\": \"bool\", \"always\": false}}}, \"always\": false}}, \"failure\": {\"changed\": {\"kind\": \"bool\", \"always\": true}, \"msg\": {\"kind\": \"text\", \"always\": true}, \"v\": {\"kind\": \"text\", \"always\": false}, \"why\": {\"kind\": \"int\", \"always\": true}}}, {\"name\": \"odd\", \"params\": {}, \"ok\": {\"changed\": {\"kind\": \"bool\", \"always\": true}, \"msg\": {\"kind\": \"int\", \"always\": false}}, \"failure\": {\"changed\": {\"kind\": \"bool\", \"always\": true}, \"msg\": {\"kind\": \"text\", \"always\": true}}}]") (codes "{\"all\": {\"hosts\": [\"a\", \"b\", \"c\", \"d\"], \"vars\": {\"i1\": \"no\"}}, \"g1\": {\"hosts\": [\"a\", \"d\"], \"vars\": {}}, \"g2\": {\"hosts\": [\"b\"], \"vars\": {}}, \"_meta\": {\"hostvars\": {\"a\": {\"i1\": false}, \"b\": {\"i2\": [], \"s1\": 1}, \"c\": {\"i1\": \"x\", \"s1\": null}, \"d\": {\"s1\": {\"f\": \"x\", \"g\": [2, 3]}, \"op\": 1.5}}}}") (codes "[{\"hosts\": [\"d\", \"all\"], \"tasks\": [{\"debug\": {\"msg\": \"{{ group_names | default('z') }}\"}, \"register\": \"r3\"}, {\"loop\": \"{{ groups['all'] }}\", \"set_fact\": {\"s3\": \"{{ hostvars['d'].r3.failed | length }}\", \"s1\": \"b\"}, \"when\": [\"item in ansible_play_batch\", \"'d' in ansible_play_batch\", \"hostvars['d'].r3 is failed\"], \"register\": \"r1\", \"changed_when\": \"r1.failed is defined and r1.failed == 'a'\"}, {\"loop\": \"{{ ansible_play_batch }}\", \"assert\": {\"that\": [\"s1 is undefined\"]}, \"when\": \"item in ansible_play_batch\", \"register\": \"r2\"}], \"handlers\": [{\"command\": \"x\", \"until\": false, \"ignore_errors\": true, \"name\": \"h0\", \"notify\": \"h1\", \"listen\": \"t\"}, {\"vars\": {\"v1\": \"{{ (hostvars['a'].s1) == (hostvars['a'].r1.changed) }}\", \"v2\": \"{{ r3.skipped }}\", \"v3\": \"{{ r3.failed }}\"}, \"odd\": null, \"name\": \"h1\", \"notify\": \"h2\"}, {\"command\": {\"cmd\": \"x\"}, \"name\": \"h2\"}]}]") ≡ verdict (accepted 24)
unfolding reading
random_100471 = refl

random_100476 : found (codes "{\"g\": {\"hosts\": [\"b\", \"a\"]}, \"all\": {\"hosts\": [\"c\"], \"vars\": {\"inv\": [1, 2]}}, \"_meta\": {\"hostvars\": {\"a\": {\"opq\": 1.5, \"inv\": [\"x\"]}, \"b\": {\"k\": {\"z\": \"{{ q }}\"}}}}}") (codes "[{\"hosts\": \"b,a\", \"tasks\": [{\"set_fact\": {\"s\": true}, \"register\": \"s\"}, {\"debug\": {\"msg\": \"{{ ansible_failed_result.results }}\"}, \"register\": \"s\", \"ignore_errors\": true}, {\"ping\": null, \"register\": \"r\", \"failed_when\": \"r is failed\"}, {\"stat\": {\"path\": \"p\"}, \"when\": [\"r is not skipped\"]}], \"strategy\": \"free\", \"serial\": 2, \"gather_facts\": true}, {\"hosts\": \"all\", \"handlers\": [{\"debug\": {\"msg\": \"a\"}, \"when\": [\"((ansible_hostname.rc < 3) or (inventory_hostname == 1)) and ((hostvars[item].inv.msg is defined) or (v1.stdout == 1))\", \"(inventory_hostname is changed) and (item in ansible_play_batch)\"], \"failed_when\": true, \"name\": \"h0\"}], \"tasks\": [{\"assert\": {\"that\": \"hostvars['b'].y is failed\"}, \"when\": [\"'a' in ansible_play_batch\", \"r is defined\"], \"register\": \"s\", \"vars\": {\"v1\": \"{{ s.changed | length }}\"}}, {\"fail\": null, \"register\": \"r\", \"notify\": \"h0\"}, {\"block\": [{\"loop\": \"{{ inv }}\", \"set_fact\": {\"y\": \"{{ inventory_hostname | default([]) }}\"}, \"vars\": {\"v2\": \"{{ ['a', 1] }}\"}}, {\"set_fact\": {\"s\": \"x{{ v1.stat.isdir }}\"}, \"when\": \"hostvars['a'].r.rc == 'a'\"}], \"when\": \"(inventory_hostname is undefined) and ('b' in ansible_play_batch)\"}, {\"fail\": null, \"when\": [\"r is not skipped\"], \"failed_when\": false, \"notify\": \"h0\"}], \"serial\": 2, \"vars\": {\"v1\": 1}}]") ≡ verdict (refused (record { code = 1; line = 4; host = Some (codes "b") }))
unfolding reading
random_100476 = refl

random_100477 : found_with (codes "[{\"name\": \"probe\", \"params\": {\"n\": {\"kind\": \"int\", \"required\": false}, \"l\": {\"kind\": {\"list\": \"text\", \"max\": 3}, \"required\": false}}, \"ok\": {\"changed\": {\"kind\": \"bool\", \"always\": true}, \"v\": {\"kind\": \"int\", \"always\": false}, \"rows\": {\"kind\": {\"list\": \"text\", \"max\": 2}, \"always\": true}, \"deep\": {\"kind\": {\"rec\": {\"a\": {\"kind\": \"text\", \"always\": true}, \"b\": {\"kind\": \"bool\", \"always\": false}}}, \"always\": false}}, \"failure\": {\"changed\": {\"kind\": \"bool\", \"always\": true}, \"msg\": {\"kind\": \"text\", \"always\": true}, \"v\": {\"kind\": \"text\", \"always\": false}, \"why\": {\"kind\": \"int\", \"always\": true}}}, {\"name\": \"odd\", \"params\": {}, \"ok\": {\"changed\": {\"kind\": \"bool\", \"always\": true}, \"msg\": {\"kind\": \"int\", \"always\": false}}, \"failure\": {\"changed\": {\"kind\": \"bool\", \"always\": true}, \"msg\": {\"kind\": \"text\", \"always\": true}}}]") (codes "{\"all\": {\"hosts\": [\"a\", \"b\"], \"vars\": {\"i1\": \"x\"}}, \"g1\": {\"hosts\": [], \"vars\": {\"i2\": false, \"op\": 1.5}}, \"_meta\": {\"hostvars\": {\"a\": {}, \"b\": {\"s1\": \"no\", \"op\": 1.5}}}}") (codes "[{\"hosts\": \"g1\", \"tasks\": [{\"loop\": [{\"g\": \"\"}, {\"g\": [\"x\", 1]}, true], \"debug\": {\"msg\": \"{{ r2.failed | default([]) }}\"}, \"when\": \"r3.results is defined\", \"register\": \"r2\"}, {\"odd\": null, \"ignore_errors\": true}, {\"loop\": [], \"vars\": {\"v2\": \"{{ r1.failed }}\", \"v3\": \"{{ ansible_facts.hostname }}\"}, \"stat\": {\"path\": \"/\"}, \"register\": \"r3\", \"failed_when\": true}]}, {\"hosts\": \"all\", \"serial\": 2, \"tasks\": [{\"probe\": {}, \"register\": \"r2\"}, {\"loop\": \"{{ r3.stdout_lines | default([]) }}\", \"vars\": {}, \"fail\": null, \"register\": \"r3\"}, {\"debug\": {\"msg\": \"{{ s1 | default([]) }}\"}, \"register\": \"r1\"}]}]") ≡ verdict (accepted 2)
unfolding reading
random_100477 = refl

random_100478 : found (codes "{\"g\": {\"hosts\": [\"b\", \"a\"]}, \"all\": {\"hosts\": [\"c\"], \"vars\": {\"inv\": [1, 2]}}, \"_meta\": {\"hostvars\": {\"a\": {\"opq\": 1.5, \"inv\": [\"x\"]}, \"b\": {\"k\": {\"z\": \"{{ q }}\"}}}}}") (codes "[{\"hosts\": \"all\", \"tasks\": [{\"block\": [], \"rescue\": [{\"block\": [{\"loop\": [], \"set_fact\": {\"s\": \"{{ y.results | length }}\"}, \"when\": [\"hostvars['b'].y is defined\"], \"changed_when\": true, \"vars\": {\"v2\": \"{{ inventory_hostname }}\"}}, {\"ping\": null, \"when\": \"not ((s.stdout == 1) or (inventory_hostname is changed))\", \"failed_when\": false, \"until\": \"zz.changed\", \"retries\": 1}], \"always\": []}, {\"fail\": null, \"when\": [\"ansible_failed_result.stdout_lines is not skipped\", \"(not (inv is defined)) and ((inv < 3) and (r.failed == 'a'))\"], \"ignore_errors\": true}], \"always\": [{\"assert\": {\"that\": \"(r.rc is skipped) and ('a' in ansible_play_batch)\"}, \"register\": \"s\"}], \"when\": \"(r.changed < 3) or ('a' in ansible_play_batch)\"}, {\"block\": [{\"debug\": {\"msg\": {\"k\": \"{{ group_names.stdout_lines | length }}\"}}, \"when\": \"'a' in item.changed\", \"ignore_errors\": true}, {\"ping\": null, \"when\": [\"hostvars['a'].r.rc is defined\", \"not (r is undefined or r is failed)\"], \"register\": \"r\", \"vars\": {\"v2\": \"x{{ 'a' in ansible_play_batch }}\"}}]}, {\"block\": [{\"block\": [], \"rescue\": [], \"always\": [], \"ignore_errors\": false}], \"rescue\": [{\"debug\": {\"msg\": \"{{ r.results }}\"}, \"when\": \"(groups['g'][0] in ansible_play_batch) and (not (r.failed < 3))\", \"failed_when\": true}]}, {\"block\": [{\"command\": \"x\", \"when\": \"((hostvars[groups['g'][0]].inv.stat.isdir == 1) and ('a' in ansible_failed_result.stat.isdir)) and ('a' in ansible_play_batch)\", \"register\": \"s\"}, {\"block\": []}], \"when\": \"inv is skipped\"}]}]") ≡ verdict (refused (record { code = 1; line = 7; host = Some (codes "c") }))
unfolding reading
random_100478 = refl

random_100482 : found (codes "{\"g\": {\"hosts\": [\"b\", \"a\"]}, \"all\": {\"hosts\": [\"c\"], \"vars\": {\"inv\": [1, 2]}}, \"_meta\": {\"hostvars\": {\"a\": {\"opq\": 1.5, \"inv\": [\"x\"]}, \"b\": {\"k\": {\"z\": \"{{ q }}\"}}}}}") (codes "[{\"hosts\": \"all\", \"handlers\": [{\"command\": \"x\", \"when\": [\"r is not skipped\", \"y is defined\"], \"name\": \"h0\"}], \"pre_tasks\": [{\"loop\": \"{{ groups.all }}\", \"command\": \"x\", \"register\": \"r\", \"notify\": \"h0\"}, {\"set_fact\": {\"s\": [{\"k\": \"{{ none }}\"}]}, \"notify\": \"h0\"}, {\"setup\": null, \"when\": \"not (item in ansible_play_batch)\", \"until\": false, \"retries\": 2, \"notify\": \"h0\"}], \"tasks\": [{\"loop\": \"{{ groups.all }}\", \"set_fact\": {\"s\": {\"k\": \"a\"}}, \"when\": [\"inv.stdout is failed\", \"groups['g'][0] in ansible_play_batch\"], \"register\": \"r\", \"notify\": \"h0\"}], \"vars\": {\"v1\": \"x{{ inventory_hostname in ansible_play_batch }}\"}}]") ≡ verdict (refused (record { code = 1; line = 4; host = Some (codes "c") }))
unfolding reading
random_100482 = refl

random_100489 : found_with (codes "[{\"name\": \"probe\", \"params\": {\"n\": {\"kind\": \"int\", \"required\": false}, \"l\": {\"kind\": {\"list\": \"text\", \"max\": 3}, \"required\": false}}, \"ok\": {\"changed\": {\"kind\": \"bool\", \"always\": true}, \"v\": {\"kind\": \"int\", \"always\": false}, \"rows\": {\"kind\": {\"list\": \"text\", \"max\": 2}, \"always\": true}, \"deep\": {\"kind\": {\"rec\": {\"a\": {\"kind\": \"text\", \"always\": true}, \"b\": {\"kind\": \"bool\", \"always\": false}}}, \"always\": false}}, \"failure\": {\"changed\": {\"kind\": \"bool\", \"always\": true}, \"msg\": {\"kind\": \"text\", \"always\": true}, \"v\": {\"kind\": \"text\", \"always\": false}, \"why\": {\"kind\": \"int\", \"always\": true}}}, {\"name\": \"odd\", \"params\": {}, \"ok\": {\"changed\": {\"kind\": \"bool\", \"always\": true}, \"msg\": {\"kind\": \"int\", \"always\": false}}, \"failure\": {\"changed\": {\"kind\": \"bool\", \"always\": true}, \"msg\": {\"kind\": \"text\", \"always\": true}}}]") (codes "{\"all\": {\"hosts\": [\"a\", \"b\"], \"vars\": {\"i1\": true, \"op\": 1.5}}, \"g2\": {\"hosts\": [\"a\", \"b\"], \"vars\": {}}, \"_meta\": {\"hostvars\": {\"a\": {\"i2\": [], \"s1\": false}, \"b\": {\"s1\": \"no\"}}}}") (codes "[{\"hosts\": \"b\", \"strategy\": \"free\", \"serial\": 2, \"gather_facts\": true, \"tasks\": [{\"when\": \"(r2.failed is defined) or ('b' in ansible_play_batch)\", \"block\": [{\"loop\": \"{{ r1.stdout_lines | default([]) }}\", \"set_fact\": {\"s1\": \"{{ item }}\", \"s3\": {\"g\": [1]}}, \"ignore_errors\": true}, {\"fail\": null, \"when\": \"groups['all'][0] in ansible_play_batch\", \"register\": \"r3\", \"changed_when\": \"r3.failed is defined and r3.failed == 'a'\"}], \"rescue\": [{\"set_fact\": {\"s2\": {\"f\": 1}}, \"register\": \"r1\"}, {\"vars\": {\"v2\": [2]}, \"block\": [{\"vars\": {}, \"probe\": {}}, {\"block\": [{\"odd\": null, \"register\": \"r3\"}]}, {\"assert\": {\"that\": true}, \"notify\": \"h0\", \"changed_when\": true}]}], \"always\": [{\"command\": {\"cmd\": \"x\"}, \"register\": \"r2\"}]}, {\"odd\": null, \"failed_when\": false, \"notify\": \"h0\"}], \"handlers\": [{\"fail\": null, \"register\": \"r3\", \"name\": \"h0\", \"listen\": \"t\"}], \"force_handlers\": true}]") ≡ verdict (accepted 5)
unfolding reading
random_100489 = refl

random_100494 : found (codes "{\"g\": {\"hosts\": [\"b\", \"a\"]}, \"all\": {\"hosts\": [\"c\"], \"vars\": {\"inv\": [1, 2]}}, \"_meta\": {\"hostvars\": {\"a\": {\"opq\": 1.5, \"inv\": [\"x\"]}, \"b\": {\"k\": {\"z\": \"{{ q }}\"}}}}}") (codes "[{\"hosts\": \"all\", \"tasks\": [{\"set_fact\": {\"y\": \"a\"}, \"register\": \"r\"}, {\"loop\": \"{{ r.stdout_lines }}\", \"ping\": null, \"register\": \"s\"}, {\"command\": {\"cmd\": \"{{ s.changed | join(',') }}\"}}, {\"block\": []}]}]") ≡ verdict (refused (record { code = 3; line = 3; host = Some (codes "c") }))
unfolding reading
random_100494 = refl

random_100512 : found (codes "{\"g\": {\"hosts\": [\"b\", \"a\"]}, \"all\": {\"hosts\": [\"c\"], \"vars\": {\"inv\": [1, 2]}}, \"_meta\": {\"hostvars\": {\"a\": {\"opq\": 1.5, \"inv\": [\"x\"]}, \"b\": {\"k\": {\"z\": \"{{ q }}\"}}}}}") (codes "[{\"hosts\": \"g\", \"tasks\": [{\"block\": [], \"rescue\": [{\"ping\": null, \"when\": [\"hostvars['b'].y is defined\", \"r.rc is defined\"], \"register\": \"r\", \"failed_when\": true}, {\"command\": \"x\", \"when\": [\"y.stat.isdir == 'a'\", \"hostvars[inventory_hostname].inv < 3\"], \"register\": \"r\", \"ignore_errors\": true}], \"always\": []}, {\"command\": {\"cmd\": \"{{ item.k }}\"}, \"when\": \"inventory_hostname.results == 1\", \"register\": \"r\"}, {\"assert\": {\"that\": \"(r.results is failed) or (hostvars[item].opq.os_family is failed)\"}, \"register\": \"r\"}, {\"block\": [{\"debug\": {\"msg\": {\"k\": \"{{ r.rc | length }}\"}}}, {\"block\": [], \"rescue\": []}], \"always\": [], \"when\": \"r.results == 1\"}]}]") ≡ verdict (refused (record { code = 4; line = 5; host = Some (codes "b") }))
unfolding reading
random_100512 = refl

random_100514 : found (codes "{\"g\": {\"hosts\": [\"b\", \"a\"]}, \"all\": {\"hosts\": [\"c\"], \"vars\": {\"inv\": [1, 2]}}, \"_meta\": {\"hostvars\": {\"a\": {\"opq\": 1.5, \"inv\": [\"x\"]}, \"b\": {\"k\": {\"z\": \"{{ q }}\"}}}}}") (codes "[{\"hosts\": \"all\", \"handlers\": [{\"set_fact\": {\"s\": {\"k\": [{\"k\": \"x{{ v2.rc }}\"}]}}, \"failed_when\": \"zz.changed\", \"name\": \"h0\"}], \"pre_tasks\": [{\"assert\": {\"that\": \"hostvars[inventory_hostname].inv\"}, \"failed_when\": false, \"notify\": \"h0\"}], \"tasks\": [{\"block\": [{\"loop\": \"{{ groups.all }}\", \"setup\": null, \"when\": [\"s.stat.isdir == 'a'\", \"'b' in ansible_play_batch\"], \"register\": \"r\", \"notify\": \"h0\"}, {\"loop\": [], \"command\": \"x\", \"notify\": \"h0\"}], \"rescue\": [], \"always\": [{\"block\": [{\"ping\": null, \"register\": \"r\", \"changed_when\": false}], \"rescue\": [{\"ping\": null, \"register\": \"r\", \"ignore_errors\": false, \"notify\": \"h0\"}]}]}, {\"assert\": {\"that\": \"((ansible_facts.rc is changed) and (item.stat.isdir)) or ('a' in ansible_play_batch)\"}}, {\"fail\": {\"msg\": \"m\"}, \"when\": [\"r is defined\"], \"register\": \"r\", \"notify\": \"h0\"}, {\"ping\": null, \"when\": \"('b' in ansible_play_batch) or ((r.rc == 1) or (r.stdout))\", \"ignore_errors\": true, \"notify\": \"h0\"}], \"force_handlers\": true}]") ≡ verdict (refused (record { code = 4; line = 2; host = Some (codes "c") }))
unfolding reading
random_100514 = refl

random_100518 : found (codes "{\"g\": {\"hosts\": [\"b\", \"a\"]}, \"all\": {\"hosts\": [\"c\"], \"vars\": {\"inv\": [1, 2]}}, \"_meta\": {\"hostvars\": {\"a\": {\"opq\": 1.5, \"inv\": [\"x\"]}, \"b\": {\"k\": {\"z\": \"{{ q }}\"}}}}}") (codes "[{\"hosts\": \"a\", \"tasks\": [{\"setup\": null, \"when\": \"hostvars[inventory_hostname].inv is defined\", \"until\": \"zz.changed\", \"retries\": 1, \"vars\": {\"v1\": {\"k\": 1}}}]}]") ≡ verdict (refused (record { code = 1; line = 2; host = Some (codes "a") }))
unfolding reading
random_100518 = refl

random_100522 : found (codes "{\"g\": {\"hosts\": [\"b\", \"a\"]}, \"all\": {\"hosts\": [\"c\"], \"vars\": {\"inv\": [1, 2]}}, \"_meta\": {\"hostvars\": {\"a\": {\"opq\": 1.5, \"inv\": [\"x\"]}, \"b\": {\"k\": {\"z\": \"{{ q }}\"}}}}}") (codes "[{\"hosts\": \"all\", \"handlers\": [{\"command\": \"x\", \"register\": \"s\", \"changed_when\": false, \"name\": \"h0\"}, {\"setup\": null, \"when\": [\"(inv is failed) or ((hostvars[item].s.changed is failed) and (r.rc is not defined))\", \"item in ansible_play_batch\"], \"register\": \"r\", \"vars\": {\"v2\": 1}, \"name\": \"h1\"}], \"tasks\": [{\"block\": [], \"rescue\": [{\"loop\": \"{{ r.stdout_lines }}\", \"set_fact\": {\"y\": \"a\"}, \"when\": \"'a' in ansible_play_batch\", \"register\": \"r\"}], \"always\": [{\"block\": [{\"assert\": {\"that\": [\"hostvars[groups['g'][0]].s.hostname is undefined\", \"groups['g'][0] in ansible_play_batch\"]}, \"register\": \"r\", \"notify\": \"h1\"}, {\"loop\": \"{{ r.stdout_lines }}\", \"ping\": null}], \"rescue\": [{\"command\": \"x\", \"when\": [\"(s.changed == 1) and ((inv is changed) or (s is skipped))\", \"v2.k is skipped\"], \"register\": \"s\", \"changed_when\": \"s is changed\", \"until\": false, \"retries\": 1, \"notify\": \"h1\"}]}]}], \"force_handlers\": true}]") ≡ verdict (refused (record { code = 3; line = 6; host = Some (codes "c") }))
unfolding reading
random_100522 = refl

random_100526 : found (codes "{\"g\": {\"hosts\": [\"b\", \"a\"]}, \"all\": {\"hosts\": [\"c\"], \"vars\": {\"inv\": [1, 2]}}, \"_meta\": {\"hostvars\": {\"a\": {\"opq\": 1.5, \"inv\": [\"x\"]}, \"b\": {\"k\": {\"z\": \"{{ q }}\"}}}}}") (codes "[{\"hosts\": \"g\", \"tasks\": [{\"loop\": \"{{ r.results }}\", \"ping\": null}, {\"fail\": {\"msg\": \"m\"}, \"register\": \"r\"}, {\"block\": [{\"loop\": \"{{ ansible_play_batch }}\", \"set_fact\": {\"y\": \"{{ hostvars['a'].r.rc }}\"}, \"when\": [\"'b' in ansible_play_batch\", \"item in ansible_play_batch\"]}], \"rescue\": [], \"always\": []}], \"post_tasks\": [{\"loop\": \"{{ ansible_play_batch }}\", \"stat\": {\"path\": \"p\"}, \"vars\": {\"v2\": [{\"k\": {\"k\": 1}}]}}, {\"block\": [{\"block\": [{\"fail\": {\"msg\": \"m\"}, \"changed_when\": \"zz is changed\"}, {\"loop\": \"{{ groups.all }}\", \"stat\": {\"path\": \"p\"}, \"ignore_errors\": true}]}], \"rescue\": [{\"debug\": {\"msg\": \"x{{ r.changed }}\"}, \"when\": \"hostvars[inventory_hostname].y == 1\"}, {\"block\": [{\"setup\": null, \"register\": \"s\", \"changed_when\": true, \"ignore_errors\": false}], \"always\": []}], \"always\": [{\"stat\": {\"path\": \"p\"}, \"register\": \"r\", \"changed_when\": \"r is changed\"}]}, {\"fail\": {\"msg\": \"m\"}, \"register\": \"r\", \"ignore_errors\": true}, {\"setup\": null, \"register\": \"r\"}], \"serial\": 2, \"gather_facts\": true}]") ≡ verdict (refused (record { code = 1; line = 3; host = Some (codes "b") }))
unfolding reading
random_100526 = refl

random_100528 : found (codes "{\"g\": {\"hosts\": [\"b\", \"a\"]}, \"all\": {\"hosts\": [\"c\"], \"vars\": {\"inv\": [1, 2]}}, \"_meta\": {\"hostvars\": {\"a\": {\"opq\": 1.5, \"inv\": [\"x\"]}, \"b\": {\"k\": {\"z\": \"{{ q }}\"}}}}}") (codes "[{\"hosts\": \"all\", \"tasks\": [{\"assert\": {\"that\": \"not (hostvars['b'].y is undefined)\"}, \"when\": [\"r.rc is defined\"]}, {\"meta\": \"flush_handlers\"}, {\"stat\": {\"path\": \"p\"}, \"when\": \"(inventory_hostname is skipped) and (hostvars[inventory_hostname].s.changed is undefined)\", \"register\": \"r\"}, {\"command\": {\"cmd\": {\"k\": \"{{ ansible_hostname.hostname }}\"}}}], \"serial\": \"50%\"}, {\"hosts\": \"all\", \"handlers\": [{\"loop\": [\"a\", \"b\"], \"set_fact\": {\"y\": null}, \"when\": [\"groups['g'][0] in ansible_play_batch\", \"ansible_facts.msg < 3\"], \"ignore_errors\": false, \"vars\": {\"v2\": \"{{ group_names.results is not defined }}\"}, \"name\": \"h0\"}, {\"setup\": null, \"register\": \"r\", \"vars\": {\"v1\": \"a\"}, \"name\": \"h1\"}], \"tasks\": [{\"block\": [], \"rescue\": [], \"always\": []}, {\"set_fact\": {\"y\": \"a\"}, \"when\": [\"r is defined\"], \"failed_when\": \"zz is failed\"}]}]") ≡ verdict (refused (record { code = 4; line = 4; host = Some (codes "c") }))
unfolding reading
random_100528 = refl

random_100530 : found (codes "{\"g\": {\"hosts\": [\"b\", \"a\"]}, \"all\": {\"hosts\": [\"c\"], \"vars\": {\"inv\": [1, 2]}}, \"_meta\": {\"hostvars\": {\"a\": {\"opq\": 1.5, \"inv\": [\"x\"]}, \"b\": {\"k\": {\"z\": \"{{ q }}\"}}}}}") (codes "[{\"hosts\": \"g\", \"tasks\": [{\"set_fact\": {\"s\": \"a\"}, \"when\": [\"r is defined\", \"'a' in ansible_play_batch\"], \"register\": \"r\", \"ignore_errors\": true, \"vars\": {\"v1\": null}}, {\"command\": {\"cmd\": \"{{ r.rc | length }}\"}, \"failed_when\": \"zz is failed\"}]}]") ≡ verdict (refused (record { code = 3; line = 3; host = Some (codes "b") }))
unfolding reading
random_100530 = refl

random_100532 : found (codes "{\"g\": {\"hosts\": [\"b\", \"a\"]}, \"all\": {\"hosts\": [\"c\"], \"vars\": {\"inv\": [1, 2]}}, \"_meta\": {\"hostvars\": {\"a\": {\"opq\": 1.5, \"inv\": [\"x\"]}, \"b\": {\"k\": {\"z\": \"{{ q }}\"}}}}}") (codes "[{\"hosts\": \"all\", \"handlers\": [{\"setup\": null, \"when\": [\"'a' in ansible_play_batch\", \"r is not skipped\"], \"register\": \"s\", \"changed_when\": \"s is changed\", \"name\": \"h0\"}], \"tasks\": [{\"command\": \"x\", \"failed_when\": \"zz is failed\", \"notify\": \"h0\"}, {\"block\": [{\"fail\": {\"msg\": \"m\"}, \"notify\": \"h0\"}, {\"set_fact\": {\"y\": {\"k\": \"{{ ansible_play_batch.msg }}\"}}, \"when\": [\"s is defined and s is not failed\"], \"notify\": \"h0\"}], \"always\": [{\"assert\": {\"that\": \"groups['g'][0] in ansible_play_batch\"}, \"when\": [\"r is not skipped\"], \"register\": \"r\", \"ignore_errors\": true}]}], \"post_tasks\": [{\"block\": [{\"assert\": {\"that\": \"(not ('a' in hostvars[inventory_hostname].inv)) and (r.stdout is succeeded)\"}, \"register\": \"r\", \"vars\": {\"v2\": {\"k\": 1}}}], \"always\": [{\"block\": [], \"rescue\": [{\"set_fact\": {\"s\": \"{{ hostvars['a'].s }}\"}, \"when\": [\"(s.stdout == 'a') and (inv is changed)\", \"groups['g'][0] in ansible_play_batch\"], \"ignore_errors\": true}], \"always\": []}]}], \"strategy\": \"free\"}]") ≡ verdict (refused (record { code = 1; line = 2; host = Some (codes "c") }))
unfolding reading
random_100532 = refl

random_100535 : found_with (codes "[{\"name\": \"probe\", \"params\": {\"n\": {\"kind\": \"int\", \"required\": false}, \"l\": {\"kind\": {\"list\": \"text\", \"max\": 3}, \"required\": false}}, \"ok\": {\"changed\": {\"kind\": \"bool\", \"always\": true}, \"v\": {\"kind\": \"int\", \"always\": false}, \"rows\": {\"kind\": {\"list\": \"text\", \"max\": 2}, \"always\": true}, \"deep\": {\"kind\": {\"rec\": {\"a\": {\"kind\": \"text\", \"always\": true}, \"b\": {\"kind\": \"bool\", \"always\": false}}}, \"always\": false}}, \"failure\": {\"changed\": {\"kind\": \"bool\", \"always\": true}, \"msg\": {\"kind\": \"text\", \"always\": true}, \"v\": {\"kind\": \"text\", \"always\": false}, \"why\": {\"kind\": \"int\", \"always\": true}}}, {\"name\": \"odd\", \"params\": {}, \"ok\": {\"changed\": {\"kind\": \"bool\", \"always\": true}, \"msg\": {\"kind\": \"int\", \"always\": false}}, \"failure\": {\"changed\": {\"kind\": \"bool\", \"always\": true}, \"msg\": {\"kind\": \"text\", \"always\": true}}}]") (codes "{\"all\": {\"hosts\": [\"a\", \"b\", \"c\"], \"vars\": {\"s1\": []}}, \"_meta\": {\"hostvars\": {\"a\": {}, \"b\": {}, \"c\": {\"i1\": \"a\", \"i2\": -1}}}}") (codes "[{\"hosts\": \"all\", \"serial\": [1, \"100%\"], \"pre_tasks\": [{\"loop\": \"{{ r2.results | default([]) }}\", \"assert\": {\"that\": true}, \"register\": \"r3\"}, {\"loop\": [[\"a\", false], \"no\", {\"f\": -1, \"g\": [\"b\"]}], \"vars\": {\"v1\": \"{{ [s1, s1] }}\", \"v2\": \"x{{ r3.msg }}\"}, \"debug\": {\"msg\": \"{{ group_names | default(1) }}\"}, \"failed_when\": true, \"notify\": \"t\", \"changed_when\": true}], \"tasks\": [{\"loop\": \"{{ r3.stdout_lines | default([]) }}\", \"setup\": null, \"register\": \"r1\", \"ignore_errors\": false}], \"handlers\": [{\"fail\": null, \"register\": \"r1\", \"name\": \"h0\", \"listen\": \"t\"}], \"force_handlers\": false}]") ≡ verdict (accepted 0)
unfolding reading
random_100535 = refl

random_100542 : found (codes "{\"g\": {\"hosts\": [\"b\", \"a\"]}, \"all\": {\"hosts\": [\"c\"], \"vars\": {\"inv\": [1, 2]}}, \"_meta\": {\"hostvars\": {\"a\": {\"opq\": 1.5, \"inv\": [\"x\"]}, \"b\": {\"k\": {\"z\": \"{{ q }}\"}}}}}") (codes "[{\"hosts\": \"all\", \"handlers\": [{\"command\": \"x\", \"register\": \"r\", \"ignore_errors\": true, \"name\": \"h0\"}, {\"setup\": null, \"when\": [\"s is defined and s is not failed\", \"r.rc is defined\"], \"register\": \"r\", \"name\": \"h1\"}], \"tasks\": [{\"command\": \"x\", \"register\": \"s\"}, {\"command\": \"x\", \"register\": \"r\", \"failed_when\": false, \"vars\": {\"v1\": [{\"k\": true}]}}, {\"set_fact\": {\"y\": \"x{{ ['a', 1] }}\"}, \"notify\": \"h1\"}, {\"loop\": \"{{ inv }}\", \"stat\": {\"path\": \"p\"}, \"register\": \"r\"}], \"post_tasks\": [{\"loop\": \"{{ r.stdout_lines }}\", \"set_fact\": {\"s\": \"{{ inventory_hostname.os_family }}\"}, \"register\": \"s\", \"ignore_errors\": true, \"notify\": \"h1\"}, {\"block\": [], \"rescue\": [{\"setup\": null, \"register\": \"r\", \"notify\": \"h1\"}], \"always\": [{\"block\": [], \"rescue\": [{\"debug\": {\"msg\": \"{{ inventory_hostname.stdout }}\"}, \"when\": [\"r.rc is defined\", \"not (r is undefined or r is failed)\"]}]}]}], \"strategy\": \"free\", \"force_handlers\": true}]") ≡ verdict (refused (record { code = 4; line = 4; host = Some (codes "c") }))
unfolding reading
random_100542 = refl

random_100544 : found (codes "{\"g\": {\"hosts\": [\"b\", \"a\"]}, \"all\": {\"hosts\": [\"c\"], \"vars\": {\"inv\": [1, 2]}}, \"_meta\": {\"hostvars\": {\"a\": {\"opq\": 1.5, \"inv\": [\"x\"]}, \"b\": {\"k\": {\"z\": \"{{ q }}\"}}}}}") (codes "[{\"hosts\": \"all\", \"handlers\": [{\"loop\": \"{{ inv }}\", \"ping\": null, \"register\": \"r\", \"name\": \"h0\"}, {\"ping\": null, \"when\": [\"r is not skipped\"], \"failed_when\": \"zz is failed\", \"ignore_errors\": true, \"name\": \"h1\"}], \"tasks\": [{\"block\": [{\"loop\": [], \"ping\": null, \"when\": [\"not (r is undefined or r is failed)\"], \"register\": \"r\", \"vars\": {\"v2\": [1, 2]}}, {\"loop\": [\"a\", \"b\"], \"set_fact\": {\"y\": [\"a\"]}, \"when\": [\"y is defined\", \"r is defined\"], \"register\": \"r\", \"changed_when\": true, \"ignore_errors\": true, \"notify\": \"h0\"}], \"rescue\": [{\"debug\": {\"msg\": true}, \"register\": \"s\", \"failed_when\": \"s.changed\"}, {\"debug\": {\"msg\": \"{{ v2.stat.isdir }}\"}, \"failed_when\": \"zz.changed\"}], \"always\": [], \"ignore_errors\": false}], \"gather_facts\": true}]") ≡ verdict (refused (record { code = 1; line = 7; host = Some (codes "c") }))
unfolding reading
random_100544 = refl

random_100572 : found (codes "{\"g\": {\"hosts\": [\"b\", \"a\"]}, \"all\": {\"hosts\": [\"c\"], \"vars\": {\"inv\": [1, 2]}}, \"_meta\": {\"hostvars\": {\"a\": {\"opq\": 1.5, \"inv\": [\"x\"]}, \"b\": {\"k\": {\"z\": \"{{ q }}\"}}}}}") (codes "[{\"hosts\": \"a\", \"handlers\": [{\"assert\": {\"that\": \"((hostvars['a'].inv == 1) and (group_names.results is not defined)) or (hostvars['a'].inv < 3)\"}, \"ignore_errors\": false, \"name\": \"h0\"}], \"tasks\": [{\"command\": \"x\"}], \"force_handlers\": true}, {\"hosts\": \"b,a\", \"handlers\": [{\"stat\": {\"path\": \"p\"}, \"when\": [\"hostvars['a'].r.rc is defined\"], \"name\": \"h0\"}, {\"ping\": null, \"register\": \"s\", \"name\": \"h1\"}], \"tasks\": [{\"command\": \"x\", \"changed_when\": false}, {\"loop\": \"{{ inv }}\", \"set_fact\": {\"s\": {\"k\": \"{{ r.rc | default('d') }}\"}}, \"when\": [\"hostvars['b'].y is defined\", \"r is not skipped\"], \"register\": \"s\", \"notify\": \"h0\"}, {\"set_fact\": {\"s\": \"{{ y }}\"}}, {\"block\": [{\"loop\": \"{{ r.results }}\", \"assert\": {\"that\": [\"('a' in ansible_play_batch) and (groups['g'][0] in ansible_play_batch)\", \"item.results is skipped\"]}, \"when\": \"(v2.stat.isdir is defined) or ('a' in ansible_play_batch)\", \"changed_when\": false}], \"rescue\": []}], \"serial\": 2, \"force_handlers\": true}]") ≡ verdict (refused (record { code = 4; line = 3; host = Some (codes "a") }))
unfolding reading
random_100572 = refl

random_100575 : found_with (codes "[{\"name\": \"probe\", \"params\": {\"n\": {\"kind\": \"int\", \"required\": false}, \"l\": {\"kind\": {\"list\": \"text\", \"max\": 3}, \"required\": false}}, \"ok\": {\"changed\": {\"kind\": \"bool\", \"always\": true}, \"v\": {\"kind\": \"int\", \"always\": false}, \"rows\": {\"kind\": {\"list\": \"text\", \"max\": 2}, \"always\": true}, \"deep\": {\"kind\": {\"rec\": {\"a\": {\"kind\": \"text\", \"always\": true}, \"b\": {\"kind\": \"bool\", \"always\": false}}}, \"always\": false}}, \"failure\": {\"changed\": {\"kind\": \"bool\", \"always\": true}, \"msg\": {\"kind\": \"text\", \"always\": true}, \"v\": {\"kind\": \"text\", \"always\": false}, \"why\": {\"kind\": \"int\", \"always\": true}}}, {\"name\": \"odd\", \"params\": {}, \"ok\": {\"changed\": {\"kind\": \"bool\", \"always\": true}, \"msg\": {\"kind\": \"int\", \"always\": false}}, \"failure\": {\"changed\": {\"kind\": \"bool\", \"always\": true}, \"msg\": {\"kind\": \"text\", \"always\": true}}}]") (codes "{\"all\": {\"hosts\": [\"a\", \"b\"], \"vars\": {}}, \"g1\": {\"hosts\": [\"b\"], \"vars\": {\"op\": 1.5}}, \"g2\": {\"hosts\": [\"a\", \"b\"], \"vars\": {\"i1\": [\"x\", false]}}, \"_meta\": {\"hostvars\": {\"a\": {\"i1\": true, \"i2\": [true]}, \"b\": {}}}}") (codes "[{\"hosts\": \"all\", \"strategy\": \"free\", \"pre_tasks\": [{\"ping\": null, \"register\": \"r3\"}, {\"debug\": {\"msg\": \"x\"}, \"register\": \"r2\"}], \"tasks\": [{\"probe\": {}, \"register\": \"r3\"}], \"post_tasks\": [{\"command\": {\"cmd\": \"x\"}, \"until\": false, \"retries\": 3}, {\"fail\": {\"msg\": \"m\"}, \"register\": \"r1\"}, {\"command\": {\"cmd\": \"x\"}, \"register\": \"r3\", \"until\": \"r3 is failed\", \"retries\": 1}], \"force_handlers\": true}]") ≡ verdict (accepted 16)
unfolding reading
random_100575 = refl

random_100576 : found (codes "{\"g\": {\"hosts\": [\"b\", \"a\"]}, \"all\": {\"hosts\": [\"c\"], \"vars\": {\"inv\": [1, 2]}}, \"_meta\": {\"hostvars\": {\"a\": {\"opq\": 1.5, \"inv\": [\"x\"]}, \"b\": {\"k\": {\"z\": \"{{ q }}\"}}}}}") (codes "[{\"hosts\": \"a\", \"handlers\": [{\"loop\": [\"a\", \"b\"], \"command\": \"x\", \"when\": [\"not (r is undefined or r is failed)\", \"r is not skipped\"], \"name\": \"h0\"}], \"pre_tasks\": [{\"block\": [{\"block\": [], \"rescue\": [{\"ping\": null, \"ignore_errors\": true, \"notify\": \"h0\"}, {\"loop\": \"{{ r.results }}\", \"fail\": {\"msg\": \"m\"}, \"when\": \"inventory_hostname in ansible_play_batch\", \"notify\": \"h0\"}], \"always\": []}, {\"set_fact\": {\"s\": \"{{ ansible_play_batch.results | length }}\"}, \"ignore_errors\": true}], \"rescue\": [], \"always\": []}, {\"block\": [{\"block\": [{\"set_fact\": {\"y\": {\"k\": [[1, 2]]}}, \"when\": [\"'b' in ansible_play_batch\", \"y is defined\"], \"failed_when\": true, \"ignore_errors\": true}], \"rescue\": [{\"fail\": null, \"vars\": {\"v2\": [1, 2]}}], \"ignore_errors\": false}], \"rescue\": [{\"assert\": {\"that\": \"('a' in v2) and (not (zz.hostname == 'a'))\"}, \"ignore_errors\": true}]}, {\"block\": [{\"ping\": null, \"until\": \"zz.changed\", \"retries\": 1, \"ignore_errors\": true, \"notify\": \"h0\"}, {\"stat\": {\"path\": \"p\"}, \"when\": \"(('a' in r.results) or (group_names.rc is skipped)) or (hostvars[item].y.changed == 'a')\", \"notify\": \"h0\"}]}], \"tasks\": [{\"block\": [], \"rescue\": []}, {\"ping\": null, \"when\": \"((item.results is failed) and (r.stdout is defined)) or (inventory_hostname in ansible_play_batch)\", \"register\": \"r\"}], \"strategy\": \"free\", \"serial\": 1, \"vars\": {\"v1\": {\"k\": \"{{ r.failed | default([]) }}\"}}}]") ≡ verdict (refused (record { code = 4; line = 6; host = Some (codes "a") }))
unfolding reading
random_100576 = refl

random_100578 : found (codes "{\"g\": {\"hosts\": [\"b\", \"a\"]}, \"all\": {\"hosts\": [\"c\"], \"vars\": {\"inv\": [1, 2]}}, \"_meta\": {\"hostvars\": {\"a\": {\"opq\": 1.5, \"inv\": [\"x\"]}, \"b\": {\"k\": {\"z\": \"{{ q }}\"}}}}}") (codes "[{\"hosts\": \"all\", \"tasks\": [{\"set_fact\": {\"y\": {\"k\": [\"{{ 'a' in ansible_failed_result.k }}\"]}}, \"vars\": {\"v1\": [\"x{{ inv | length }}\"]}}, {\"ping\": null}, {\"command\": {\"cmd\": \"{{ y }}\"}, \"ignore_errors\": false, \"vars\": {\"v2\": \"{{ hostvars[item].inv.hostname }}\"}}, {\"block\": [{\"block\": [{\"command\": \"x\"}, {\"loop\": \"{{ r.stdout_lines }}\", \"ping\": null, \"register\": \"s\"}], \"rescue\": [{\"assert\": {\"that\": \"r.results < 3\"}, \"when\": [\"s is defined and s is not failed\"], \"ignore_errors\": true}]}, {\"block\": [], \"rescue\": [{\"stat\": {\"path\": \"p\"}, \"register\": \"r\", \"ignore_errors\": true}], \"always\": []}], \"rescue\": []}]}]") ≡ verdict (refused (record { code = 1; line = 2; host = Some (codes "c") }))
unfolding reading
random_100578 = refl

random_100582 : found (codes "{\"g\": {\"hosts\": [\"b\", \"a\"]}, \"all\": {\"hosts\": [\"c\"], \"vars\": {\"inv\": [1, 2]}}, \"_meta\": {\"hostvars\": {\"a\": {\"opq\": 1.5, \"inv\": [\"x\"]}, \"b\": {\"k\": {\"z\": \"{{ q }}\"}}}}}") (codes "[{\"hosts\": \"all\", \"tasks\": [{\"loop\": \"{{ inv }}\", \"stat\": {\"path\": \"p\"}, \"when\": \"ansible_failed_result == 'a'\"}, {\"debug\": {\"msg\": [\"{{ hostvars['b'].y | join(',') }}\"]}}, {\"loop\": \"{{ r.results }}\", \"setup\": null, \"register\": \"s\"}], \"vars\": {\"v1\": true}}, {\"hosts\": \"b,a\", \"pre_tasks\": [{\"fail\": {\"msg\": \"m\"}, \"register\": \"s\"}, {\"set_fact\": {\"y\": \"a\"}}, {\"block\": [{\"setup\": null, \"changed_when\": true, \"ignore_errors\": true}], \"rescue\": [], \"always\": [{\"debug\": {\"msg\": {\"k\": 1}}, \"when\": [\"ansible_play_batch.changed is not skipped\", \"(not (v1.rc is succeeded)) or (r.rc is defined)\"]}], \"when\": [\"(hostvars[inventory_hostname].y.stdout) or ((r.stdout < 3) and (inventory_hostname is succeeded))\", \"hostvars['b'].ansible_hostname.changed\"]}, {\"command\": \"x\"}], \"tasks\": [{\"block\": [{\"stat\": {\"path\": \"p\"}, \"when\": [\"r is defined and r is succeeded\"], \"register\": \"s\", \"ignore_errors\": true}, {\"block\": [{\"debug\": {\"msg\": [true]}, \"failed_when\": false}], \"rescue\": [{\"debug\": {\"msg\": \"a\"}, \"register\": \"r\"}, {\"set_fact\": {\"y\": \"{{ (ansible_play_batch) or (groups.g < 3) }}\"}, \"register\": \"r\"}], \"always\": [{\"debug\": {\"msg\": \"{{ v2.stdout_lines | default('d') }}\"}, \"register\": \"s\", \"vars\": {\"v2\": \"{{ r.rc }}\"}}]}]}, {\"block\": [{\"ping\": null, \"when\": \"inventory_hostname in ansible_play_batch\", \"register\": \"r\", \"failed_when\": true, \"until\": true, \"retries\": 2, \"ignore_errors\": true}], \"rescue\": [{\"loop\": \"{{ r.results }}\", \"command\": {\"cmd\": \"{{ v2.results }}\"}, \"register\": \"r\", \"failed_when\": \"r.changed\"}, {\"debug\": {\"msg\": \"x{{ group_names }}\"}, \"register\": \"s\", \"ignore_errors\": true}]}], \"force_handlers\": true, \"vars\": {\"v1\": {\"k\": \"{{ hostvars[item].inv | default('d') }}\"}}}]") ≡ verdict (refused (record { code = 1; line = 2; host = Some (codes "c") }))
unfolding reading
random_100582 = refl

random_100590 : found (codes "{\"g\": {\"hosts\": [\"b\", \"a\"]}, \"all\": {\"hosts\": [\"c\"], \"vars\": {\"inv\": [1, 2]}}, \"_meta\": {\"hostvars\": {\"a\": {\"opq\": 1.5, \"inv\": [\"x\"]}, \"b\": {\"k\": {\"z\": \"{{ q }}\"}}}}}") (codes "[{\"hosts\": \"all\", \"tasks\": [{\"block\": [], \"rescue\": [], \"always\": [{\"command\": {\"cmd\": \"{{ r.stdout | default([]) }}\"}, \"register\": \"r\", \"ignore_errors\": true}]}, {\"ping\": null}], \"force_handlers\": true}]") ≡ verdict (refused (record { code = 4; line = 3; host = Some (codes "c") }))
unfolding reading
random_100590 = refl

random_100592 : found (codes "{\"g\": {\"hosts\": [\"b\", \"a\"]}, \"all\": {\"hosts\": [\"c\"], \"vars\": {\"inv\": [1, 2]}}, \"_meta\": {\"hostvars\": {\"a\": {\"opq\": 1.5, \"inv\": [\"x\"]}, \"b\": {\"k\": {\"z\": \"{{ q }}\"}}}}}") (codes "[{\"hosts\": \"all\", \"handlers\": [{\"assert\": {\"that\": \"groups['g'][0] in ansible_play_batch\"}, \"when\": [\"'a' in ansible_play_batch\"], \"name\": \"h0\"}, {\"loop\": \"{{ r.results }}\", \"stat\": {\"path\": \"p\"}, \"when\": [\"item in ansible_play_batch\", \"not (r is undefined or r is failed)\"], \"register\": \"r\", \"failed_when\": true, \"name\": \"h1\"}], \"tasks\": [{\"loop\": \"{{ groups['g'] }}\", \"stat\": {\"path\": \"p\"}, \"when\": [\"r is defined\"], \"vars\": {\"v2\": \"x{{ r.rc | default('d') }}\"}}, {\"command\": {\"cmd\": true}, \"register\": \"r\", \"failed_when\": \"r.changed\"}], \"vars\": {\"v1\": {\"k\": \"{{ hostvars[inventory_hostname].y.os_family }}\"}}}, {\"hosts\": \"g\", \"handlers\": [{\"ping\": null, \"name\": \"h0\"}, {\"loop\": \"{{ r.results }}\", \"set_fact\": {\"s\": \"{{ r.stdout }}\"}, \"register\": \"r\", \"failed_when\": \"r.changed\", \"name\": \"h1\"}], \"tasks\": [{\"meta\": \"flush_handlers\"}, {\"set_fact\": {\"s\": \"{{ v2.stdout_lines | default(1) }}\"}, \"register\": \"r\", \"failed_when\": false, \"notify\": \"h0\", \"vars\": {\"v2\": {\"k\": \"x{{ groups['g'][0] in ansible_play_batch }}\"}}}], \"gather_facts\": true}]") ≡ verdict (refused (record { code = 4; line = 3; host = Some (codes "c") }))
unfolding reading
random_100592 = refl

random_100594 : found (codes "{\"g\": {\"hosts\": [\"b\", \"a\"]}, \"all\": {\"hosts\": [\"c\"], \"vars\": {\"inv\": [1, 2]}}, \"_meta\": {\"hostvars\": {\"a\": {\"opq\": 1.5, \"inv\": [\"x\"]}, \"b\": {\"k\": {\"z\": \"{{ q }}\"}}}}}") (codes "[{\"hosts\": \"all\", \"tasks\": [{\"block\": [{\"ping\": null}], \"rescue\": [{\"block\": [{\"command\": \"x\", \"until\": false, \"retries\": 2}, {\"setup\": null, \"when\": [\"y is defined\", \"not (r is undefined or r is failed)\"], \"register\": \"r\"}], \"rescue\": []}, {\"setup\": null, \"when\": [\"r is defined and r is succeeded\"]}], \"always\": [{\"assert\": {\"that\": \"not (groups.g is undefined)\"}, \"register\": \"s\"}]}, {\"stat\": {\"path\": \"p\"}, \"ignore_errors\": true}, {\"command\": \"x\", \"when\": [\"not ((r.failed is undefined) or ('a' in inventory_hostname))\", \"(inventory_hostname in ansible_play_batch) and (r.os_family is failed)\"]}, {\"command\": {\"cmd\": \"{{ zz.results | length }}\"}, \"when\": [\"r is not skipped\", \"not (r is undefined or r is failed)\"], \"register\": \"s\"}], \"force_handlers\": true, \"vars\": {\"v1\": null}}, {\"hosts\": \"g\", \"handlers\": [{\"setup\": null, \"register\": \"r\", \"name\": \"h0\"}, {\"debug\": {\"msg\": \"{{ ansible_hostname.changed }}\"}, \"changed_when\": true, \"name\": \"h1\"}], \"tasks\": [{\"block\": []}], \"strategy\": \"free\", \"vars\": {\"v1\": \"{{ inv.rc }}\"}}]") ≡ verdict (refused (record { code = 3; line = 10; host = Some (codes "c") }))
unfolding reading
random_100594 = refl

random_100597 : found_with (codes "[{\"name\": \"probe\", \"params\": {\"n\": {\"kind\": \"int\", \"required\": false}, \"l\": {\"kind\": {\"list\": \"text\", \"max\": 3}, \"required\": false}}, \"ok\": {\"changed\": {\"kind\": \"bool\", \"always\": true}, \"v\": {\"kind\": \"int\", \"always\": false}, \"rows\": {\"kind\": {\"list\": \"text\", \"max\": 2}, \"always\": true}, \"deep\": {\"kind\": {\"rec\": {\"a\": {\"kind\": \"text\", \"always\": true}, \"b\": {\"kind\": \"bool\", \"always\": false}}}, \"always\": false}}, \"failure\": {\"changed\": {\"kind\": \"bool\", \"always\": true}, \"msg\": {\"kind\": \"text\", \"always\": true}, \"v\": {\"kind\": \"text\", \"always\": false}, \"why\": {\"kind\": \"int\", \"always\": true}}}, {\"name\": \"odd\", \"params\": {}, \"ok\": {\"changed\": {\"kind\": \"bool\", \"always\": true}, \"msg\": {\"kind\": \"int\", \"always\": false}}, \"failure\": {\"changed\": {\"kind\": \"bool\", \"always\": true}, \"msg\": {\"kind\": \"text\", \"always\": true}}}]") (codes "{\"all\": {\"hosts\": [\"a\", \"b\"], \"vars\": {\"i1\": \"a\"}}, \"g1\": {\"hosts\": [\"a\"], \"vars\": {\"i1\": \"a\", \"s1\": {\"f\": true, \"g\": 1}}}, \"_meta\": {\"hostvars\": {\"a\": {\"op\": 1.5}, \"b\": {\"op\": 1.5}}}}") (codes "[{\"hosts\": \"all\", \"pre_tasks\": [{\"command\": {\"cmd\": \"x\"}, \"failed_when\": false}, {\"ping\": null, \"when\": \"not (r1.failed is defined)\", \"register\": \"r2\", \"changed_when\": \"r2.failed is defined and r2.failed == 'a'\"}], \"tasks\": [{\"setup\": null, \"register\": \"r3\"}], \"handlers\": [{\"set_fact\": {\"s3\": \"{{ hostvars[groups['all'][0]].s1.rc | default(s1) }}\"}, \"when\": \"r3 is not succeeded\", \"register\": \"r3\", \"name\": \"h0\", \"listen\": \"t\"}]}]") ≡ verdict (refused (record { code = 1; line = 5; host = Some (codes "a") }))
unfolding reading
random_100597 = refl

random_100598 : found (codes "{\"g\": {\"hosts\": [\"b\", \"a\"]}, \"all\": {\"hosts\": [\"c\"], \"vars\": {\"inv\": [1, 2]}}, \"_meta\": {\"hostvars\": {\"a\": {\"opq\": 1.5, \"inv\": [\"x\"]}, \"b\": {\"k\": {\"z\": \"{{ q }}\"}}}}}") (codes "[{\"hosts\": \"all\", \"tasks\": [{\"ping\": null, \"register\": \"r\", \"ignore_errors\": false}, {\"block\": []}], \"post_tasks\": [{\"set_fact\": {\"y\": \"{{ 1 }}\"}, \"when\": \"ansible_facts.changed is succeeded\", \"changed_when\": false}, {\"loop\": \"{{ ansible_play_batch }}\", \"ping\": null, \"changed_when\": true}], \"force_handlers\": true}, {\"hosts\": \"b,a\", \"tasks\": [{\"stat\": {\"path\": \"p\"}, \"register\": \"s\", \"until\": \"s is succeeded\", \"retries\": 2, \"vars\": {\"v1\": \"{{ not (groups.g is succeeded) }}\"}}, {\"meta\": \"flush_handlers\"}], \"serial\": [1, 2], \"force_handlers\": true, \"vars\": {\"v1\": \"{{ inv }}\"}}]") ≡ verdict (refused (record { code = 1; line = 4; host = Some (codes "c") }))
unfolding reading
random_100598 = refl

random_100601 : found_with (codes "[{\"name\": \"probe\", \"params\": {\"n\": {\"kind\": \"int\", \"required\": false}, \"l\": {\"kind\": {\"list\": \"text\", \"max\": 3}, \"required\": false}}, \"ok\": {\"changed\": {\"kind\": \"bool\", \"always\": true}, \"v\": {\"kind\": \"int\", \"always\": false}, \"rows\": {\"kind\": {\"list\": \"text\", \"max\": 2}, \"always\": true}, \"deep\": {\"kind\": {\"rec\": {\"a\": {\"kind\": \"text\", \"always\": true}, \"b\": {\"kind\": \"bool\", \"always\": false}}}, \"always\": false}}, \"failure\": {\"changed\": {\"kind\": \"bool\", \"always\": true}, \"msg\": {\"kind\": \"text\", \"always\": true}, \"v\": {\"kind\": \"text\", \"always\": false}, \"why\": {\"kind\": \"int\", \"always\": true}}}, {\"name\": \"odd\", \"params\": {}, \"ok\": {\"changed\": {\"kind\": \"bool\", \"always\": true}, \"msg\": {\"kind\": \"int\", \"always\": false}}, \"failure\": {\"changed\": {\"kind\": \"bool\", \"always\": true}, \"msg\": {\"kind\": \"text\", \"always\": true}}}]") (codes "{\"all\": {\"hosts\": [\"a\"], \"vars\": {\"i2\": true}}, \"g1\": {\"hosts\": [], \"vars\": {\"i2\": 1}}, \"g2\": {\"hosts\": [], \"vars\": {}}, \"_meta\": {\"hostvars\": {\"a\": {}}}}") (codes "[{\"hosts\": \"all\", \"tasks\": [{\"loop\": \"{{ r1.results | default([]) }}\", \"vars\": {\"v1\": \"{{ ansible_facts | length }}\", \"v3\": \"x{{ r3.failed | default(s1) }}\"}, \"command\": \"x\", \"register\": \"r3\"}], \"handlers\": [{\"command\": \"x\", \"name\": \"h0\", \"listen\": \"t\"}], \"force_handlers\": false}]") ≡ verdict (accepted 1)
unfolding reading
random_100601 = refl

random_100609 : found_with (codes "[{\"name\": \"probe\", \"params\": {\"n\": {\"kind\": \"int\", \"required\": false}, \"l\": {\"kind\": {\"list\": \"text\", \"max\": 3}, \"required\": false}}, \"ok\": {\"changed\": {\"kind\": \"bool\", \"always\": true}, \"v\": {\"kind\": \"int\", \"always\": false}, \"rows\": {\"kind\": {\"list\": \"text\", \"max\": 2}, \"always\": true}, \"deep\": {\"kind\": {\"rec\": {\"a\": {\"kind\": \"text\", \"always\": true}, \"b\": {\"kind\": \"bool\", \"always\": false}}}, \"always\": false}}, \"failure\": {\"changed\": {\"kind\": \"bool\", \"always\": true}, \"msg\": {\"kind\": \"text\", \"always\": true}, \"v\": {\"kind\": \"text\", \"always\": false}, \"why\": {\"kind\": \"int\", \"always\": true}}}, {\"name\": \"odd\", \"params\": {}, \"ok\": {\"changed\": {\"kind\": \"bool\", \"always\": true}, \"msg\": {\"kind\": \"int\", \"always\": false}}, \"failure\": {\"changed\": {\"kind\": \"bool\", \"always\": true}, \"msg\": {\"kind\": \"text\", \"always\": true}}}]") (codes "{\"all\": {\"hosts\": [\"a\", \"b\", \"c\", \"d\"], \"vars\": {\"s1\": \"\"}}, \"_meta\": {\"hostvars\": {\"a\": {}, \"b\": {\"i1\": {\"g\": 1}, \"i2\": \"t\"}, \"c\": {\"i2\": [1, -1]}, \"d\": {\"op\": 1.5}}}}") (codes "[{\"hosts\": \"all\", \"strategy\": \"free\", \"pre_tasks\": [{\"probe\": {}, \"register\": \"r2\", \"changed_when\": \"r2 is changed\", \"failed_when\": \"r2.failed is defined and r2.failed == 'a'\", \"ignore_errors\": true}], \"tasks\": [{\"command\": {\"cmd\": \"x\"}, \"register\": \"r3\", \"notify\": \"h0\"}], \"handlers\": [{\"command\": {\"cmd\": \"x\"}, \"name\": \"h0\", \"listen\": \"t\"}], \"force_handlers\": true}]") ≡ verdict (accepted 16)
unfolding reading
random_100609 = refl

random_100613 : found_with (codes "[{\"name\": \"probe\", \"params\": {\"n\": {\"kind\": \"int\", \"required\": false}, \"l\": {\"kind\": {\"list\": \"text\", \"max\": 3}, \"required\": false}}, \"ok\": {\"changed\": {\"kind\": \"bool\", \"always\": true}, \"v\": {\"kind\": \"int\", \"always\": false}, \"rows\": {\"kind\": {\"list\": \"text\", \"max\": 2}, \"always\": true}, \"deep\": {\"kind\": {\"rec\": {\"a\": {\"kind\": \"text\", \"always\": true}, \"b\": {\"kind\": \"bool\", \"always\": false}}}, \"always\": false}}, \"failure\": {\"changed\": {\"kind\": \"bool\", \"always\": true}, \"msg\": {\"kind\": \"text\", \"always\": true}, \"v\": {\"kind\": \"text\", \"always\": false}, \"why\": {\"kind\": \"int\", \"always\": true}}}, {\"name\": \"odd\", \"params\": {}, \"ok\": {\"changed\": {\"kind\": \"bool\", \"always\": true}, \"msg\": {\"kind\": \"int\", \"always\": false}}, \"failure\": {\"changed\": {\"kind\": \"bool\", \"always\": true}, \"msg\": {\"kind\": \"text\", \"always\": true}}}]") (codes "{\"all\": {\"hosts\": [\"a\", \"b\"], \"vars\": {\"i2\": true, \"s1\": [true, null]}}, \"g1\": {\"hosts\": [], \"vars\": {\"s1\": [\"t\"]}, \"children\": [\"g2\"]}, \"g2\": {\"hosts\": [], \"vars\": {\"i1\": \"b\", \"i2\": \"t\"}}, \"_meta\": {\"hostvars\": {\"a\": {\"s1\": {\"g\": \"x\"}}, \"b\": {\"i1\": 0}}}}") (codes "[{\"hosts\": \"all\", \"tasks\": [{\"ping\": null, \"register\": \"r1\"}, {\"vars\": {\"v1\": \"{{ s3.rc | length }}\"}, \"command\": {\"cmd\": \"x\"}, \"when\": \"r2 is not defined\", \"register\": \"r1\", \"failed_when\": \"r1.failed is defined and r1.failed == 'a'\", \"notify\": \"h0\"}, {\"set_fact\": {\"s1\": \"{{ s3.stdout }}\"}, \"when\": [\"s3 is defined\", \"s3.stdout is defined\"], \"register\": \"r3\", \"changed_when\": \"inventory_hostname == 'a'\"}, {\"set_fact\": {\"s3\": {\"f\": \"{{ 't' }}\", \"rc\": 1}}, \"register\": \"r1\"}], \"handlers\": [{\"debug\": {\"msg\": \"x\"}, \"register\": \"r1\", \"name\": \"h0\"}, {\"loop\": \"{{ groups['all'] }}\", \"vars\": {}, \"command\": {\"cmd\": \"x\"}, \"when\": \"not (group_names is undefined)\", \"ignore_errors\": true, \"name\": \"h1\", \"listen\": \"t\", \"notify\": \"h2\"}, {\"vars\": {\"v2\": \"{{ [i1, 1] }}\"}, \"set_fact\": {\"s1\": \"{{ [1, 2] }}\"}, \"register\": \"r3\", \"ignore_errors\": true, \"name\": \"h2\", \"listen\": \"t\"}]}]") ≡ verdict (accepted 8)
unfolding reading
random_100613 = refl

random_100615 : found_with (codes "[{\"name\": \"probe\", \"params\": {\"n\": {\"kind\": \"int\", \"required\": false}, \"l\": {\"kind\": {\"list\": \"text\", \"max\": 3}, \"required\": false}}, \"ok\": {\"changed\": {\"kind\": \"bool\", \"always\": true}, \"v\": {\"kind\": \"int\", \"always\": false}, \"rows\": {\"kind\": {\"list\": \"text\", \"max\": 2}, \"always\": true}, \"deep\": {\"kind\": {\"rec\": {\"a\": {\"kind\": \"text\", \"always\": true}, \"b\": {\"kind\": \"bool\", \"always\": false}}}, \"always\": false}}, \"failure\": {\"changed\": {\"kind\": \"bool\", \"always\": true}, \"msg\": {\"kind\": \"text\", \"always\": true}, \"v\": {\"kind\": \"text\", \"always\": false}, \"why\": {\"kind\": \"int\", \"always\": true}}}, {\"name\": \"odd\", \"params\": {}, \"ok\": {\"changed\": {\"kind\": \"bool\", \"always\": true}, \"msg\": {\"kind\": \"int\", \"always\": false}}, \"failure\": {\"changed\": {\"kind\": \"bool\", \"always\": true}, \"msg\": {\"kind\": \"text\", \"always\": true}}}]") (codes "{\"all\": {\"hosts\": [\"a\"], \"vars\": {}}, \"g1\": {\"hosts\": [\"a\"], \"vars\": {}}, \"_meta\": {\"hostvars\": {\"a\": {\"i1\": 1, \"s1\": [false, 1]}}}}") (codes "[{\"hosts\": \"all\", \"serial\": 1, \"tasks\": [{\"block\": [{\"command\": {\"cmd\": \"x\"}, \"register\": \"r2\", \"changed_when\": false, \"until\": \"r2.rc == 1\", \"retries\": 3, \"notify\": \"h1\"}], \"rescue\": [{\"probe\": {}, \"when\": \"hostvars['a'].i1 != [1]\", \"register\": \"r2\", \"failed_when\": \"r2.changed == 1\"}]}], \"handlers\": [{\"command\": {\"cmd\": \"x\"}, \"name\": \"h0\", \"listen\": \"t\", \"notify\": \"h2\"}, {\"command\": {\"cmd\": \"x {{ i1 }}\"}, \"name\": \"h1\", \"notify\": \"h2\"}, {\"fail\": null, \"name\": \"h2\", \"listen\": \"t\"}]}]") ≡ verdict (accepted 7)
unfolding reading
random_100615 = refl

random_100628 : found (codes "{\"g\": {\"hosts\": [\"b\", \"a\"]}, \"all\": {\"hosts\": [\"c\"], \"vars\": {\"inv\": [1, 2]}}, \"_meta\": {\"hostvars\": {\"a\": {\"opq\": 1.5, \"inv\": [\"x\"]}, \"b\": {\"k\": {\"z\": \"{{ q }}\"}}}}}") (codes "[{\"hosts\": \"g\", \"tasks\": [{\"assert\": {\"that\": \"r.failed is not skipped\"}}, {\"loop\": \"{{ r.results }}\", \"command\": {\"cmd\": \"a\"}, \"register\": \"r\"}, {\"debug\": {\"msg\": \"{{ inv == 1 }}\"}, \"when\": [\"hostvars['b'].y is defined\"]}]}, {\"hosts\": \"a\", \"handlers\": [{\"loop\": \"{{ r.stdout_lines }}\", \"set_fact\": {\"s\": \"{{ y.stat.isdir | default(ansible_facts.results) }}\"}, \"failed_when\": \"zz is failed\", \"name\": \"h0\"}], \"pre_tasks\": [{\"meta\": \"flush_handlers\"}, {\"loop\": \"{{ groups.all }}\", \"ping\": null, \"when\": [\"r is defined and r is succeeded\"], \"register\": \"s\", \"ignore_errors\": true}], \"tasks\": [{\"set_fact\": {\"y\": \"{{ [1, 2] }}\"}, \"when\": [\"r.rc is defined\", \"'a' in ansible_play_batch\"], \"notify\": \"h0\"}, {\"debug\": {\"msg\": \"{{ r.changed | length }}\"}, \"when\": \"(ansible_play_batch.stdout_lines) or (r.failed is changed)\", \"register\": \"r\"}, {\"debug\": {\"msg\": \"x{{ groups.g | default(1) }}\"}, \"register\": \"r\", \"notify\": \"h0\"}, {\"meta\": \"flush_handlers\"}], \"serial\": [1, 2], \"force_handlers\": true, \"gather_facts\": true, \"vars\": {\"v1\": [1, 2]}}]") ≡ verdict (refused (record { code = 1; line = 2; host = Some (codes "b") }))
unfolding reading
random_100628 = refl

random_100632 : found (codes "{\"g\": {\"hosts\": [\"b\", \"a\"]}, \"all\": {\"hosts\": [\"c\"], \"vars\": {\"inv\": [1, 2]}}, \"_meta\": {\"hostvars\": {\"a\": {\"opq\": 1.5, \"inv\": [\"x\"]}, \"b\": {\"k\": {\"z\": \"{{ q }}\"}}}}}") (codes "[{\"hosts\": \"b,a\", \"tasks\": [{\"assert\": {\"that\": [\"y is failed\", \"ansible_play_batch.k is skipped\"]}, \"when\": \"(item in ansible_play_batch) and ((item.os_family is defined) and (r.results is defined))\", \"register\": \"s\"}, {\"block\": [], \"always\": [{\"block\": [{\"command\": {\"cmd\": [\"{{ r.stdout | length }}\"]}, \"register\": \"s\"}, {\"loop\": [1, 2], \"setup\": null, \"register\": \"r\", \"ignore_errors\": false}]}]}, {\"ping\": null, \"register\": \"r\", \"until\": \"r.changed\", \"retries\": 2}]}, {\"hosts\": \"g\", \"handlers\": [{\"assert\": {\"that\": [\"(hostvars[item].inv < 3) or ((ansible_hostname.results is skipped) and (group_names is skipped))\", \"'b' in ansible_play_batch\"]}, \"register\": \"s\", \"name\": \"h0\"}, {\"loop\": \"{{ groups.all }}\", \"set_fact\": {\"s\": {\"k\": 1}}, \"name\": \"h1\"}], \"tasks\": [{\"block\": [], \"rescue\": [{\"fail\": null, \"register\": \"s\", \"notify\": \"h1\"}, {\"block\": [], \"rescue\": [{\"fail\": null, \"ignore_errors\": true}, {\"loop\": \"{{ groups['g'] }}\", \"debug\": {\"msg\": \"{{ groups.g }}\"}, \"register\": \"r\", \"changed_when\": false, \"ignore_errors\": true, \"notify\": \"h0\"}], \"ignore_errors\": false}]}], \"serial\": 1, \"force_handlers\": true}]") ≡ verdict (refused (record { code = 1; line = 2; host = Some (codes "b") }))
unfolding reading
random_100632 = refl

random_100634 : found (codes "{\"g\": {\"hosts\": [\"b\", \"a\"]}, \"all\": {\"hosts\": [\"c\"], \"vars\": {\"inv\": [1, 2]}}, \"_meta\": {\"hostvars\": {\"a\": {\"opq\": 1.5, \"inv\": [\"x\"]}, \"b\": {\"k\": {\"z\": \"{{ q }}\"}}}}}") (codes "[{\"hosts\": \"all\", \"tasks\": [{\"loop\": [], \"setup\": null, \"register\": \"s\"}, {\"loop\": [\"a\", \"b\"], \"command\": \"x\", \"when\": [\"item in ansible_play_batch\", \"r is not skipped\"], \"register\": \"s\"}, {\"debug\": {\"msg\": \"{{ r.failed | length }}\"}, \"register\": \"r\"}], \"gather_facts\": true, \"vars\": {\"v1\": \"{{ s.changed }}\"}}]") ≡ verdict (refused (record { code = 1; line = 4; host = Some (codes "c") }))
unfolding reading
random_100634 = refl

random_100638 : found (codes "{\"g\": {\"hosts\": [\"b\", \"a\"]}, \"all\": {\"hosts\": [\"c\"], \"vars\": {\"inv\": [1, 2]}}, \"_meta\": {\"hostvars\": {\"a\": {\"opq\": 1.5, \"inv\": [\"x\"]}, \"b\": {\"k\": {\"z\": \"{{ q }}\"}}}}}") (codes "[{\"hosts\": \"g\", \"handlers\": [{\"command\": {\"cmd\": \"{{ ansible_failed_result is undefined }}\"}, \"name\": \"h0\"}], \"tasks\": [{\"loop\": \"{{ r.stdout_lines }}\", \"command\": {\"cmd\": [{\"k\": \"{{ hostvars['b'].y | length }}\"}]}, \"register\": \"r\", \"failed_when\": \"r is failed\", \"notify\": \"h0\"}], \"strategy\": \"free\", \"serial\": \"50%\", \"force_handlers\": true, \"gather_facts\": true, \"vars\": {\"v1\": \"{{ (inventory_hostname.os_family is skipped) and (inv.stat.isdir == 1) }}\"}}, {\"hosts\": \"all\", \"handlers\": [{\"debug\": {\"msg\": \"a\"}, \"register\": \"s\", \"name\": \"h0\"}, {\"set_fact\": {\"s\": [1, 2]}, \"when\": \"((inv is changed) or (item.hostname < 3)) and (ansible_facts is not defined)\", \"register\": \"s\", \"name\": \"h1\"}], \"tasks\": [{\"assert\": {\"that\": \"(hostvars['a'].r.rc is not defined) or ((v1 is not defined) and (opq.stat.isdir is failed))\"}, \"when\": [\"r is not skipped\"], \"register\": \"s\", \"notify\": \"h0\", \"vars\": {\"v1\": true}}, {\"fail\": null, \"when\": [\"hostvars['a'].r.rc is defined\", \"r is defined and r is succeeded\"]}, {\"ping\": null, \"when\": [\"y is defined\", \"r is defined and r is succeeded\"], \"register\": \"s\"}, {\"loop\": [\"a\", \"b\"], \"set_fact\": {\"y\": {\"k\": \"{{ groups['g'][0] in ansible_play_batch }}\"}}, \"register\": \"r\", \"notify\": \"h0\"}], \"strategy\": \"free\", \"gather_facts\": true}]") ≡ verdict (refused (record { code = 1; line = 3; host = Some (codes "b") }))
unfolding reading
random_100638 = refl

random_100641 : found_with (codes "[{\"name\": \"probe\", \"params\": {\"n\": {\"kind\": \"int\", \"required\": false}, \"l\": {\"kind\": {\"list\": \"text\", \"max\": 3}, \"required\": false}}, \"ok\": {\"changed\": {\"kind\": \"bool\", \"always\": true}, \"v\": {\"kind\": \"int\", \"always\": false}, \"rows\": {\"kind\": {\"list\": \"text\", \"max\": 2}, \"always\": true}, \"deep\": {\"kind\": {\"rec\": {\"a\": {\"kind\": \"text\", \"always\": true}, \"b\": {\"kind\": \"bool\", \"always\": false}}}, \"always\": false}}, \"failure\": {\"changed\": {\"kind\": \"bool\", \"always\": true}, \"msg\": {\"kind\": \"text\", \"always\": true}, \"v\": {\"kind\": \"text\", \"always\": false}, \"why\": {\"kind\": \"int\", \"always\": true}}}, {\"name\": \"odd\", \"params\": {}, \"ok\": {\"changed\": {\"kind\": \"bool\", \"always\": true}, \"msg\": {\"kind\": \"int\", \"always\": false}}, \"failure\": {\"changed\": {\"kind\": \"bool\", \"always\": true}, \"msg\": {\"kind\": \"text\", \"always\": true}}}]") (codes "{\"all\": {\"hosts\": [\"a\", \"b\", \"c\", \"d\"], \"vars\": {}}, \"_meta\": {\"hostvars\": {\"a\": {}, \"b\": {\"s1\": [3]}, \"c\": {}, \"d\": {\"s1\": 1}}}}") (codes "[{\"hosts\": \"all\", \"tasks\": [{\"block\": [], \"rescue\": [{\"command\": {\"cmd\": \"x\"}, \"register\": \"r3\", \"until\": \"r3.stdout == 1\", \"retries\": 3}, {\"debug\": {\"msg\": \"{{ 't' }}\"}, \"register\": \"r1\"}]}, {\"probe\": null, \"register\": \"r2\"}, {\"set_fact\": {\"s1\": [\"{{ hostvars['c'].r1.failed }}\"]}, \"when\": [\"hostvars['c'].r1 is defined\", \"hostvars['c'].r1 is succeeded\"]}, {\"ping\": null, \"register\": \"r1\"}]}]") ≡ verdict (accepted 24)
unfolding reading
random_100641 = refl

random_100644 : found (codes "{\"g\": {\"hosts\": [\"b\", \"a\"]}, \"all\": {\"hosts\": [\"c\"], \"vars\": {\"inv\": [1, 2]}}, \"_meta\": {\"hostvars\": {\"a\": {\"opq\": 1.5, \"inv\": [\"x\"]}, \"b\": {\"k\": {\"z\": \"{{ q }}\"}}}}}") (codes "[{\"hosts\": \"b,a\", \"handlers\": [{\"command\": {\"cmd\": \"{{ groups.g | length }}\"}, \"register\": \"r\", \"name\": \"h0\"}, {\"assert\": {\"that\": [\"hostvars['b'].s.results is not defined\", \"(s.changed is skipped) or ((hostvars[inventory_hostname].s.k is failed) and (hostvars[inventory_hostname].inv.msg is changed))\"]}, \"when\": \"'b' in ansible_play_batch\", \"name\": \"h1\"}], \"tasks\": [{\"stat\": {\"path\": \"p\"}, \"when\": [\"v1.results == 1\", \"(hostvars[inventory_hostname].inv is not defined) and (hostvars[item].inv.stat.isdir == 1)\"], \"register\": \"s\"}, {\"block\": [{\"fail\": null, \"when\": \"hostvars[inventory_hostname].opq.hostname == 1\"}], \"always\": [{\"block\": [{\"set_fact\": {\"s\": [1, 2]}, \"register\": \"r\", \"notify\": \"h0\"}, {\"ping\": null, \"register\": \"r\"}], \"rescue\": [{\"loop\": \"{{ r.stdout_lines }}\", \"setup\": null, \"register\": \"r\", \"vars\": {\"v2\": {\"k\": \"{{ (s.stdout) or (group_names is skipped) }}\"}}}, {\"fail\": {\"msg\": \"m\"}, \"when\": [\"y is defined\"]}], \"when\": \"not ((inv is succeeded) or (inv.rc is defined))\"}]}, {\"loop\": \"{{ ansible_play_batch }}\", \"command\": {\"cmd\": \"{{ ansible_failed_result.results }}\"}, \"when\": \"(not (groups.g == 1)) and ('a' in v2.stat.isdir)\", \"register\": \"s\", \"notify\": \"h1\"}]}]") ≡ verdict (refused (record { code = 1; line = 2; host = Some (codes "b") }))
unfolding reading
random_100644 = refl

random_100645 : found_with (codes "[{\"name\": \"probe\", \"params\": {\"n\": {\"kind\": \"int\", \"required\": false}, \"l\": {\"kind\": {\"list\": \"text\", \"max\": 3}, \"required\": false}}, \"ok\": {\"changed\": {\"kind\": \"bool\", \"always\": true}, \"v\": {\"kind\": \"int\", \"always\": false}, \"rows\": {\"kind\": {\"list\": \"text\", \"max\": 2}, \"always\": true}, \"deep\": {\"kind\": {\"rec\": {\"a\": {\"kind\": \"text\", \"always\": true}, \"b\": {\"kind\": \"bool\", \"always\": false}}}, \"always\": false}}, \"failure\": {\"changed\": {\"kind\": \"bool\", \"always\": true}, \"msg\": {\"kind\": \"text\", \"always\": true}, \"v\": {\"kind\": \"text\", \"always\": false}, \"why\": {\"kind\": \"int\", \"always\": true}}}, {\"name\": \"odd\", \"params\": {}, \"ok\": {\"changed\": {\"kind\": \"bool\", \"always\": true}, \"msg\": {\"kind\": \"int\", \"always\": false}}, \"failure\": {\"changed\": {\"kind\": \"bool\", \"always\": true}, \"msg\": {\"kind\": \"text\", \"always\": true}}}]") (codes "{\"all\": {\"hosts\": [\"a\", \"b\", \"c\"], \"vars\": {\"op\": 1.5}}, \"g2\": {\"hosts\": [\"a\", \"c\"], \"vars\": {}}, \"_meta\": {\"hostvars\": {\"a\": {\"i2\": 2, \"op\": 1.5}, \"b\": {}, \"c\": {\"i1\": [1, \"x\"]}}}}") (codes "[{\"hosts\": \"all\", \"strategy\": \"free\", \"serial\": \"50%\", \"tasks\": [{\"meta\": \"flush_handlers\"}]}]") ≡ verdict (accepted 0)
unfolding reading
random_100645 = refl

random_100657 : found_with (codes "[{\"name\": \"probe\", \"params\": {\"n\": {\"kind\": \"int\", \"required\": false}, \"l\": {\"kind\": {\"list\": \"text\", \"max\": 3}, \"required\": false}}, \"ok\": {\"changed\": {\"kind\": \"bool\", \"always\": true}, \"v\": {\"kind\": \"int\", \"always\": false}, \"rows\": {\"kind\": {\"list\": \"text\", \"max\": 2}, \"always\": true}, \"deep\": {\"kind\": {\"rec\": {\"a\": {\"kind\": \"text\", \"always\": true}, \"b\": {\"kind\": \"bool\", \"always\": false}}}, \"always\": false}}, \"failure\": {\"changed\": {\"kind\": \"bool\", \"always\": true}, \"msg\": {\"kind\": \"text\", \"always\": true}, \"v\": {\"kind\": \"text\", \"always\": false}, \"why\": {\"kind\": \"int\", \"always\": true}}}, {\"name\": \"odd\", \"params\": {}, \"ok\": {\"changed\": {\"kind\": \"bool\", \"always\": true}, \"msg\": {\"kind\": \"int\", \"always\": false}}, \"failure\": {\"changed\": {\"kind\": \"bool\", \"always\": true}, \"msg\": {\"kind\": \"text\", \"always\": true}}}]") (codes "{\"all\": {\"hosts\": [\"a\", \"b\", \"c\"], \"vars\": {\"i1\": 3}}, \"g2\": {\"hosts\": [\"a\", \"b\", \"c\"], \"vars\": {}}, \"_meta\": {\"hostvars\": {\"a\": {\"s1\": \"b\"}, \"b\": {\"op\": 1.5}, \"c\": {\"op\": 1.5}}}}") (codes "[{\"hosts\": \"a\", \"serial\": 1, \"gather_facts\": true, \"tasks\": [{\"loop\": \"{{ r2.results | default([]) }}\", \"vars\": {}, \"odd\": null, \"register\": \"r1\"}, {\"command\": {\"cmd\": \"x\"}}], \"handlers\": [{\"vars\": {\"v1\": \"{{ s2 }}\", \"v3\": \"{{ r2.changed }}\"}, \"debug\": {\"msg\": \"{{ 't' }}\"}, \"register\": \"r3\", \"name\": \"h0\", \"listen\": \"t\"}, {\"setup\": null, \"register\": \"r3\", \"ignore_errors\": true, \"name\": \"h1\"}, {\"loop\": \"{{ groups['all'] }}\", \"command\": {\"cmd\": \"x\"}, \"ignore_errors\": true, \"name\": \"h2\", \"listen\": \"t\"}]}, {\"hosts\": \"c\", \"strategy\": \"free\", \"tasks\": [{\"loop\": \"{{ r3.stdout_lines | default([]) }}\", \"setup\": null, \"register\": \"r2\", \"failed_when\": true, \"notify\": \"h0\", \"changed_when\": true}, {\"command\": {\"cmd\": \"x\"}}, {\"meta\": \"flush_handlers\"}, {\"debug\": {\"msg\": \"x\"}, \"register\": \"r1\", \"notify\": \"t\"}], \"handlers\": [{\"command\": \"x\", \"when\": \"r3.ansible_facts.ansible_hostname is defined\", \"ignore_errors\": true, \"name\": \"h0\", \"listen\": \"t\"}]}]") ≡ verdict (accepted 9)
unfolding reading
random_100657 = refl

random_100658 : found (codes "{\"g\": {\"hosts\": [\"b\", \"a\"]}, \"all\": {\"hosts\": [\"c\"], \"vars\": {\"inv\": [1, 2]}}, \"_meta\": {\"hostvars\": {\"a\": {\"opq\": 1.5, \"inv\": [\"x\"]}, \"b\": {\"k\": {\"z\": \"{{ q }}\"}}}}}") (codes "[{\"hosts\": \"all\", \"handlers\": [{\"debug\": {\"msg\": \"{{ (hostvars['a'].r.rc is not defined) or (ansible_hostname is succeeded) }}\"}, \"register\": \"s\", \"name\": \"h0\"}], \"tasks\": [{\"loop\": [], \"debug\": {\"msg\": \"{{ hostvars[item].r.changed }}\"}, \"ignore_errors\": false, \"notify\": \"h0\"}, {\"debug\": {\"msg\": \"{{ s.changed | default('d') }}\"}, \"when\": [\"r is defined\", \"not (r is undefined or r is failed)\"], \"register\": \"r\", \"failed_when\": \"r.changed\", \"ignore_errors\": true, \"notify\": \"h0\"}, {\"stat\": {\"path\": \"p\"}, \"notify\": \"h0\"}], \"strategy\": \"free\", \"force_handlers\": true}, {\"hosts\": \"b,a\", \"tasks\": [{\"debug\": {\"msg\": \"a\"}, \"register\": \"s\", \"failed_when\": true}], \"serial\": 2, \"vars\": {\"v1\": \"x{{ hostvars[groups['g'][0]].ansible_hostname.changed }}\"}}]") ≡ verdict (refused (record { code = 1; line = 5; host = Some (codes "c") }))
unfolding reading
random_100658 = refl

random_100663 : found_with (codes "[{\"name\": \"probe\", \"params\": {\"n\": {\"kind\": \"int\", \"required\": false}, \"l\": {\"kind\": {\"list\": \"text\", \"max\": 3}, \"required\": false}}, \"ok\": {\"changed\": {\"kind\": \"bool\", \"always\": true}, \"v\": {\"kind\": \"int\", \"always\": false}, \"rows\": {\"kind\": {\"list\": \"text\", \"max\": 2}, \"always\": true}, \"deep\": {\"kind\": {\"rec\": {\"a\": {\"kind\": \"text\", \"always\": true}, \"b\": {\"kind\": \"bool\", \"always\": false}}}, \"always\": false}}, \"failure\": {\"changed\": {\"kind\": \"bool\", \"always\": true}, \"msg\": {\"kind\": \"text\", \"always\": true}, \"v\": {\"kind\": \"text\", \"always\": false}, \"why\": {\"kind\": \"int\", \"always\": true}}}, {\"name\": \"odd\", \"params\": {}, \"ok\": {\"changed\": {\"kind\": \"bool\", \"always\": true}, \"msg\": {\"kind\": \"int\", \"always\": false}}, \"failure\": {\"changed\": {\"kind\": \"bool\", \"always\": true}, \"msg\": {\"kind\": \"text\", \"always\": true}}}]") (codes "{\"all\": {\"hosts\": [\"a\"], \"vars\": {\"i1\": \"no\"}}, \"g1\": {\"hosts\": [], \"vars\": {}}, \"_meta\": {\"hostvars\": {\"a\": {\"s1\": false, \"op\": 1.5}}}}") (codes "[{\"hosts\": \"all\", \"vars\": {\"v2\": \"a\", \"v3\": \"{{ hostvars['a'].r2.failed }}\"}, \"serial\": 1, \"gather_facts\": true, \"tasks\": [{\"vars\": {\"v1\": \"{{ r3.changed | length }}\", \"v3\": \"{{ (r3.failed) == (r2.changed) }}\"}, \"probe\": {}, \"until\": false, \"retries\": 2}, {\"probe\": {}, \"register\": \"r1\", \"changed_when\": false, \"failed_when\": \"r1 is changed\"}, {\"ping\": null, \"register\": \"r2\"}]}]") ≡ verdict (accepted 6)
unfolding reading
random_100663 = refl

random_100675 : found_with (codes "[{\"name\": \"probe\", \"params\": {\"n\": {\"kind\": \"int\", \"required\": false}, \"l\": {\"kind\": {\"list\": \"text\", \"max\": 3}, \"required\": false}}, \"ok\": {\"changed\": {\"kind\": \"bool\", \"always\": true}, \"v\": {\"kind\": \"int\", \"always\": false}, \"rows\": {\"kind\": {\"list\": \"text\", \"max\": 2}, \"always\": true}, \"deep\": {\"kind\": {\"rec\": {\"a\": {\"kind\": \"text\", \"always\": true}, \"b\": {\"kind\": \"bool\", \"always\": false}}}, \"always\": false}}, \"failure\": {\"changed\": {\"kind\": \"bool\", \"always\": true}, \"msg\": {\"kind\": \"text\", \"always\": true}, \"v\": {\"kind\": \"text\", \"always\": false}, \"why\": {\"kind\": \"int\", \"always\": true}}}, {\"name\": \"odd\", \"params\": {}, \"ok\": {\"changed\": {\"kind\": \"bool\", \"always\": true}, \"msg\": {\"kind\": \"int\", \"always\": false}}, \"failure\": {\"changed\": {\"kind\": \"bool\", \"always\": true}, \"msg\": {\"kind\": \"text\", \"always\": true}}}]") (codes "{\"all\": {\"hosts\": [\"a\"], \"vars\": {\"i1\": \"b\", \"i2\": {\"f\": \"no\", \"g\": false}}}, \"g2\": {\"hosts\": [], \"vars\": {\"i1\": [\"\"], \"i2\": 0, \"s1\": \"\"}}, \"_meta\": {\"hostvars\": {\"a\": {\"i2\": 3}}}}") (codes "[{\"hosts\": \"all\", \"serial\": [1, \"100%\"], \"gather_facts\": true, \"tasks\": [{\"ping\": null}, {\"meta\": \"flush_handlers\"}], \"handlers\": [{\"probe\": {}, \"name\": \"h0\", \"listen\": \"t\"}, {\"setup\": null, \"register\": \"r1\", \"name\": \"h1\", \"listen\": \"t\"}, {\"debug\": {\"msg\": \"x\"}, \"register\": \"r2\", \"name\": \"h2\"}]}]") ≡ verdict (accepted 6)
unfolding reading
random_100675 = refl

random_100678 : found (codes "{\"g\": {\"hosts\": [\"b\", \"a\"]}, \"all\": {\"hosts\": [\"c\"], \"vars\": {\"inv\": [1, 2]}}, \"_meta\": {\"hostvars\": {\"a\": {\"opq\": 1.5, \"inv\": [\"x\"]}, \"b\": {\"k\": {\"z\": \"{{ q }}\"}}}}}") (codes "[{\"hosts\": \"all\", \"tasks\": [{\"block\": [], \"rescue\": [], \"always\": []}, {\"meta\": \"flush_handlers\"}, {\"fail\": {\"msg\": \"m\"}, \"when\": \"not ((hostvars[inventory_hostname].inv is skipped) or (r.rc == 1))\"}], \"vars\": {\"v1\": \"{{ inventory_hostname in ansible_play_batch }}\"}}]") ≡ verdict (refused (record { code = 4; line = 4; host = Some (codes "c") }))
unfolding reading
random_100678 = refl

random_100696 : found (codes "{\"g\": {\"hosts\": [\"b\", \"a\"]}, \"all\": {\"hosts\": [\"c\"], \"vars\": {\"inv\": [1, 2]}}, \"_meta\": {\"hostvars\": {\"a\": {\"opq\": 1.5, \"inv\": [\"x\"]}, \"b\": {\"k\": {\"z\": \"{{ q }}\"}}}}}") (codes "[{\"hosts\": \"a\", \"handlers\": [{\"ping\": null, \"register\": \"s\", \"name\": \"h0\"}, {\"fail\": {\"msg\": \"m\"}, \"when\": [\"'b' in ansible_play_batch\"], \"register\": \"s\", \"vars\": {\"v1\": \"{{ r.results }}\"}, \"name\": \"h1\"}], \"pre_tasks\": [{\"block\": [{\"ping\": null, \"register\": \"s\", \"failed_when\": \"s.changed\", \"notify\": \"h1\"}]}, {\"block\": [{\"assert\": {\"that\": \"('a' in r.stdout) or (not (ansible_play_batch.stdout_lines == 'a'))\"}, \"when\": [\"not (r is undefined or r is failed)\", \"r is not skipped\"], \"register\": \"r\", \"ignore_errors\": true, \"notify\": \"h0\"}, {\"set_fact\": {\"y\": [{\"k\": {\"k\": 1}}]}, \"register\": \"s\", \"ignore_errors\": true}], \"when\": \"(not (zz is changed)) or (not (r.failed is not skipped))\"}], \"tasks\": [{\"set_fact\": {\"s\": \"{{ ansible_failed_result.stdout_lines }}\"}, \"register\": \"s\", \"notify\": \"h1\"}]}]") ≡ verdict (refused (record { code = 1; line = 5; host = Some (codes "a") }))
unfolding reading
random_100696 = refl

random_100719 : found_with (codes "[{\"name\": \"probe\", \"params\": {\"n\": {\"kind\": \"int\", \"required\": false}, \"l\": {\"kind\": {\"list\": \"text\", \"max\": 3}, \"required\": false}}, \"ok\": {\"changed\": {\"kind\": \"bool\", \"always\": true}, \"v\": {\"kind\": \"int\", \"always\": false}, \"rows\": {\"kind\": {\"list\": \"text\", \"max\": 2}, \"always\": true}, \"deep\": {\"kind\": {\"rec\": {\"a\": {\"kind\": \"text\", \"always\": true}, \"b\": {\"kind\": \"bool\", \"always\": false}}}, \"always\": false}}, \"failure\": {\"changed\": {\"kind\": \"bool\", \"always\": true}, \"msg\": {\"kind\": \"text\", \"always\": true}, \"v\": {\"kind\": \"text\", \"always\": false}, \"why\": {\"kind\": \"int\", \"always\": true}}}, {\"name\": \"odd\", \"params\": {}, \"ok\": {\"changed\": {\"kind\": \"bool\", \"always\": true}, \"msg\": {\"kind\": \"int\", \"always\": false}}, \"failure\": {\"changed\": {\"kind\": \"bool\", \"always\": true}, \"msg\": {\"kind\": \"text\", \"always\": true}}}]") (codes "{\"all\": {\"hosts\": [\"a\", \"b\", \"c\", \"d\"], \"vars\": {\"op\": 1.5}}, \"g1\": {\"hosts\": [\"a\", \"b\"], \"vars\": {\"i2\": {\"f\": 2}, \"s1\": {}}}, \"_meta\": {\"hostvars\": {\"a\": {\"i1\": \"t\", \"i2\": \"t\", \"s1\": true}, \"b\": {\"op\": 1.5}, \"c\": {\"i2\": [null, \"b\"]}, \"d\": {}}}}") (codes "[{\"hosts\": \"all\", \"vars\": {\"v1\": {\"g\": true}, \"v2\": null, \"v3\": [\"a\", true]}, \"gather_facts\": true, \"tasks\": [{\"debug\": {\"msg\": \"x\"}, \"register\": \"r2\"}, {\"meta\": \"flush_handlers\"}, {\"odd\": null, \"register\": \"r1\"}], \"handlers\": [{\"debug\": {\"msg\": \"{{ [r2.failed, 'q'] }}\"}, \"when\": \"r2 is not failed\", \"register\": \"r2\", \"failed_when\": false, \"name\": \"h0\", \"listen\": \"t\"}]}]") ≡ verdict (accepted 8)
unfolding reading
random_100719 = refl

random_100728 : found (codes "{\"g\": {\"hosts\": [\"b\", \"a\"]}, \"all\": {\"hosts\": [\"c\"], \"vars\": {\"inv\": [1, 2]}}, \"_meta\": {\"hostvars\": {\"a\": {\"opq\": 1.5, \"inv\": [\"x\"]}, \"b\": {\"k\": {\"z\": \"{{ q }}\"}}}}}") (codes "[{\"hosts\": \"a\", \"handlers\": [{\"set_fact\": {\"s\": \"{{ 'a' }}\"}, \"failed_when\": \"zz.changed\", \"ignore_errors\": true, \"name\": \"h0\"}], \"tasks\": [{\"debug\": {\"msg\": \"{{ inventory_hostname }}\"}, \"register\": \"s\", \"changed_when\": \"s is changed\", \"notify\": \"h0\"}, {\"meta\": \"flush_handlers\"}, {\"set_fact\": {\"y\": \"a\"}, \"notify\": \"h0\"}], \"gather_facts\": true, \"vars\": {\"v1\": [1, 2]}}]") ≡ verdict (refused (record { code = 1; line = 6; host = Some (codes "a") }))
unfolding reading
random_100728 = refl

random_100735 : found_with (codes "[{\"name\": \"probe\", \"params\": {\"n\": {\"kind\": \"int\", \"required\": false}, \"l\": {\"kind\": {\"list\": \"text\", \"max\": 3}, \"required\": false}}, \"ok\": {\"changed\": {\"kind\": \"bool\", \"always\": true}, \"v\": {\"kind\": \"int\", \"always\": false}, \"rows\": {\"kind\": {\"list\": \"text\", \"max\": 2}, \"always\": true}, \"deep\": {\"kind\": {\"rec\": {\"a\": {\"kind\": \"text\", \"always\": true}, \"b\": {\"kind\": \"bool\", \"always\": false}}}, \"always\": false}}, \"failure\": {\"changed\": {\"kind\": \"bool\", \"always\": true}, \"msg\": {\"kind\": \"text\", \"always\": true}, \"v\": {\"kind\": \"text\", \"always\": false}, \"why\": {\"kind\": \"int\", \"always\": true}}}, {\"name\": \"odd\", \"params\": {}, \"ok\": {\"changed\": {\"kind\": \"bool\", \"always\": true}, \"msg\": {\"kind\": \"int\", \"always\": false}}, \"failure\": {\"changed\": {\"kind\": \"bool\", \"always\": true}, \"msg\": {\"kind\": \"text\", \"always\": true}}}]") (codes "{\"all\": {\"hosts\": [\"a\", \"b\", \"c\", \"d\"], \"vars\": {\"op\": 1.5}}, \"_meta\": {\"hostvars\": {\"a\": {\"op\": 1.5}, \"b\": {}, \"c\": {\"i2\": [3], \"s1\": 0, \"op\": 1.5}, \"d\": {}}}}") (codes "[{\"hosts\": [\"c\", \"all\"], \"tasks\": [{\"probe\": null, \"changed_when\": \"inventory_hostname == 'a'\"}, {\"debug\": {\"msg\": \"{{ r2.changed }}\"}, \"when\": \"r2 is defined and r2 is not failed and r2.changed == 'a'\", \"changed_when\": false, \"ignore_errors\": true}], \"force_handlers\": true}, {\"hosts\": \"c\", \"tasks\": [{\"vars\": {\"v3\": \"{{ hostvars['b'].s1 }}\"}, \"odd\": null, \"register\": \"r2\", \"ignore_errors\": true}, {\"ping\": null, \"register\": \"r2\"}]}]") ≡ verdict (accepted 6)
unfolding reading
random_100735 = refl

random_100746 : found (codes "{\"g\": {\"hosts\": [\"b\", \"a\"]}, \"all\": {\"hosts\": [\"c\"], \"vars\": {\"inv\": [1, 2]}}, \"_meta\": {\"hostvars\": {\"a\": {\"opq\": 1.5, \"inv\": [\"x\"]}, \"b\": {\"k\": {\"z\": \"{{ q }}\"}}}}}") (codes "[{\"hosts\": \"all\", \"handlers\": [{\"ping\": null, \"when\": [\"r.rc is defined\"], \"until\": false, \"retries\": 1, \"name\": \"h0\"}, {\"setup\": null, \"register\": \"r\", \"failed_when\": true, \"vars\": {\"v1\": \"{{ hostvars[item].opq.results }}\"}, \"name\": \"h1\"}], \"tasks\": [{\"assert\": {\"that\": \"hostvars[inventory_hostname].inv is defined\"}}, {\"stat\": {\"path\": \"p\"}, \"when\": [\"opq.rc is skipped\", \"not ('b' in ansible_play_batch)\"], \"register\": \"s\"}], \"strategy\": \"free\"}]") ≡ verdict (refused (record { code = 1; line = 3; host = Some (codes "c") }))
unfolding reading
random_100746 = refl
