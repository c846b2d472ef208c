-- Cases of random, computed from the bytes of their files.
use Rattle.std.specs.Prelude.{◌≡◌, refl, Some, None, codes}
use Rattle.pb_language.specs.Verdict.{accepted, refused}
use Rattle.pb_byte_rows.specs.Found.{wrong_book, verdict, found, found_with}
use Rattle.pb_byte_rows.proofs.Computing.{reading}

random_001848 : found (codes "{\"g\": {\"hosts\": [\"b\", \"a\"]}, \"all\": {\"hosts\": [\"c\"], \"vars\": {\"inv\": [1, 2]}}, \"_meta\": {\"hostvars\": {\"a\": {\"opq\": 1.5, \"inv\": [\"x\"]}, \"b\": {\"k\": {\"z\": \"{{ q }}\"}}}}}") (codes "[{\"hosts\": \"all\", \"handlers\": [{\"command\": {\"cmd\": \"{{ true }}\"}, \"when\": \"hostvars[inventory_hostname].inv is undefined\", \"register\": \"s\", \"failed_when\": \"s.changed\", \"name\": \"h0\"}, {\"loop\": \"{{ inv }}\", \"command\": {\"cmd\": {\"k\": {\"k\": 1}}}, \"when\": [\"r is defined and r is succeeded\"], \"name\": \"h1\"}], \"tasks\": [{\"loop\": \"{{ groups.all }}\", \"command\": \"x\", \"when\": \"((hostvars['a'].inv is undefined) or ('a' in v2.msg)) and ((item is defined) and (hostvars[item].r.changed is not skipped))\", \"register\": \"r\", \"notify\": \"h0\"}, {\"set_fact\": {\"y\": \"x{{ ansible_facts.hostname }}\"}, \"when\": \"'a' in y.os_family\", \"register\": \"r\"}, {\"setup\": null, \"vars\": {\"v1\": \"x{{ 'a' }}\"}}], \"serial\": 1, \"vars\": {\"v1\": [1, 2]}}]") ≡ verdict (refused (record { code = 1; line = 2; host = Some (codes "c") }))
unfolding reading
random_001848 = refl

random_001851 : found_with (codes "[{\"name\": \"probe\", \"params\": {\"n\": {\"kind\": \"int\", \"required\": false}, \"l\": {\"kind\": {\"list\": \"text\", \"max\": 3}, \"required\": false}}, \"ok\": {\"changed\": {\"kind\": \"bool\", \"always\": true}, \"v\": {\"kind\": \"int\", \"always\": false}, \"rows\": {\"kind\": {\"list\": \"text\", \"max\": 2}, \"always\": true}, \"deep\": {\"kind\": {\"rec\": {\"a\": {\"kind\": \"text\", \"always\": true}, \"b\": {\"kind\": \"bool\", \"always\": false}}}, \"always\": false}}, \"failure\": {\"changed\": {\"kind\": \"bool\", \"always\": true}, \"msg\": {\"kind\": \"text\", \"always\": true}, \"v\": {\"kind\": \"text\", \"always\": false}, \"why\": {\"kind\": \"int\", \"always\": true}}}, {\"name\": \"odd\", \"params\": {}, \"ok\": {\"changed\": {\"kind\": \"bool\", \"always\": true}, \"msg\": {\"kind\": \"int\", \"always\": false}}, \"failure\": {\"changed\": {\"kind\": \"bool\", \"always\": true}, \"msg\": {\"kind\": \"text\", \"always\": true}}}]") (codes "{\"all\": {\"hosts\": [\"a\", \"b\", \"c\", \"d\"], \"vars\": {\"i1\": 1, \"i2\": {\"f\": [\"\", -1], \"g\": []}, \"s1\": 1}}, \"g1\": {\"hosts\": [], \"vars\": {}, \"children\": [\"g2\"]}, \"g2\": {\"hosts\": [\"a\"], \"vars\": {\"i2\": []}}, \"_meta\": {\"hostvars\": {\"a\": {\"s1\": [], \"op\": 1.5}, \"b\": {\"op\": 1.5}, \"c\": {\"op\": 1.5}, \"d\": {\"i1\": false, \"i2\": 2, \"op\": 1.5}}}}") (codes "[{\"hosts\": \"a\", \"tasks\": [{\"debug\": {\"msg\": \"{{ i2 | length }}\"}, \"register\": \"r3\", \"failed_when\": \"r3.failed == 'a'\", \"ignore_errors\": true}, {\"command\": {\"cmd\": \"x {{ hostvars['d'].r2.failed | default([]) }}\"}, \"register\": \"r3\"}], \"handlers\": [{\"command\": {\"cmd\": \"x\"}, \"register\": \"r3\", \"name\": \"h0\", \"listen\": \"t\"}]}]") ≡ verdict (refused (record { code = 4; line = 3; host = Some (codes "a") }))
unfolding reading
random_001851 = refl

random_001856 : found (codes "{\"g\": {\"hosts\": [\"b\", \"a\"]}, \"all\": {\"hosts\": [\"c\"], \"vars\": {\"inv\": [1, 2]}}, \"_meta\": {\"hostvars\": {\"a\": {\"opq\": 1.5, \"inv\": [\"x\"]}, \"b\": {\"k\": {\"z\": \"{{ q }}\"}}}}}") (codes "[{\"hosts\": \"a\", \"handlers\": [{\"stat\": {\"path\": \"p\"}, \"when\": \"hostvars['b'].opq < 3\", \"register\": \"r\", \"name\": \"h0\"}], \"tasks\": [{\"block\": [], \"always\": [{\"debug\": {\"msg\": \"x{{ s.changed }}\"}, \"register\": \"r\", \"notify\": \"h0\", \"vars\": {\"v2\": [1, 2]}}], \"when\": \"not (not (s.changed is failed))\"}, {\"command\": \"x\", \"notify\": \"h0\"}], \"force_handlers\": true}, {\"hosts\": \"b,a\", \"handlers\": [{\"ping\": null, \"ignore_errors\": true, \"name\": \"h0\"}, {\"command\": \"x\", \"register\": \"s\", \"until\": \"s is succeeded\", \"retries\": 2, \"name\": \"h1\"}], \"tasks\": [{\"stat\": {\"path\": \"p\"}, \"register\": \"r\"}, {\"block\": [], \"rescue\": [{\"fail\": null, \"register\": \"r\", \"changed_when\": false}], \"when\": \"hostvars['b'].y is skipped\"}, {\"set_fact\": {\"s\": \"{{ group_names.stdout_lines }}\"}, \"register\": \"r\", \"failed_when\": false, \"ignore_errors\": true}], \"post_tasks\": [{\"meta\": \"flush_handlers\"}, {\"ping\": null, \"register\": \"s\", \"failed_when\": \"s is failed\"}, {\"debug\": {\"msg\": \"a\"}, \"ignore_errors\": false, \"notify\": \"h1\"}, {\"block\": [], \"when\": [\"groups.g is defined\", \"r.results is changed\"]}]}]") ≡ verdict (refused (record { code = 1; line = 3; host = Some (codes "a") }))
unfolding reading
random_001856 = refl

random_001859 : found_with (codes "[{\"name\": \"probe\", \"params\": {\"n\": {\"kind\": \"int\", \"required\": false}, \"l\": {\"kind\": {\"list\": \"text\", \"max\": 3}, \"required\": false}}, \"ok\": {\"changed\": {\"kind\": \"bool\", \"always\": true}, \"v\": {\"kind\": \"int\", \"always\": false}, \"rows\": {\"kind\": {\"list\": \"text\", \"max\": 2}, \"always\": true}, \"deep\": {\"kind\": {\"rec\": {\"a\": {\"kind\": \"text\", \"always\": true}, \"b\": {\"kind\": \"bool\", \"always\": false}}}, \"always\": false}}, \"failure\": {\"changed\": {\"kind\": \"bool\", \"always\": true}, \"msg\": {\"kind\": \"text\", \"always\": true}, \"v\": {\"kind\": \"text\", \"always\": false}, \"why\": {\"kind\": \"int\", \"always\": true}}}, {\"name\": \"odd\", \"params\": {}, \"ok\": {\"changed\": {\"kind\": \"bool\", \"always\": true}, \"msg\": {\"kind\": \"int\", \"always\": false}}, \"failure\": {\"changed\": {\"kind\": \"bool\", \"always\": true}, \"msg\": {\"kind\": \"text\", \"always\": true}}}]") (codes "{\"all\": {\"hosts\": [\"a\", \"b\", \"c\"], \"vars\": {\"i1\": 3, \"s1\": {\"f\": \"no\", \"g\": \"x\"}}}, \"g2\": {\"hosts\": [\"a\", \"b\", \"c\"], \"vars\": {\"i1\": []}}, \"_meta\": {\"hostvars\": {\"a\": {\"i1\": {\"f\": {\"f\": \"a\", \"g\": \"no\"}, \"g\": [\"\", 0]}}, \"b\": {\"i2\": \"\"}, \"c\": {}}}}") (codes "[{\"hosts\": \"all\", \"gather_facts\": true, \"tasks\": [{\"meta\": \"flush_handlers\"}, {\"debug\": {\"msg\": \"x\"}, \"register\": \"r2\"}, {\"block\": [{\"block\": [{\"command\": {\"cmd\": \"x\"}}]}], \"always\": [{\"set_fact\": {\"s3\": 1}, \"when\": \"'g2' in group_names\", \"register\": \"r3\", \"failed_when\": \"r3.failed == 'a'\"}, {\"fail\": null, \"register\": \"r3\", \"notify\": \"t\"}, {\"probe\": {\"l\": \"{{ hostvars['b'].i1 | length }}\"}, \"when\": \"hostvars['b'].i1 is defined\", \"until\": true, \"ignore_errors\": true}]}, {\"set_fact\": {\"s1\": {\"f\": \"{{ ansible_play_batch }}\", \"rc\": 1}}, \"register\": \"r3\", \"notify\": \"t\"}], \"handlers\": [{\"loop\": \"{{ groups['all'] }}\", \"debug\": {\"msg\": \"x\"}, \"name\": \"h0\", \"listen\": \"t\"}, {\"vars\": {\"v2\": \"{{ r3.results | length }}\"}, \"odd\": null, \"name\": \"h1\"}]}]") ≡ verdict (accepted 24)
unfolding reading
random_001859 = refl

random_001860 : found (codes "{\"g\": {\"hosts\": [\"b\", \"a\"]}, \"all\": {\"hosts\": [\"c\"], \"vars\": {\"inv\": [1, 2]}}, \"_meta\": {\"hostvars\": {\"a\": {\"opq\": 1.5, \"inv\": [\"x\"]}, \"b\": {\"k\": {\"z\": \"{{ q }}\"}}}}}") (codes "[{\"hosts\": \"g\", \"handlers\": [{\"ping\": null, \"when\": [\"hostvars['b'].y is defined\", \"not (r is undefined or r is failed)\"], \"name\": \"h0\"}, {\"stat\": {\"path\": \"p\"}, \"when\": [\"(ansible_failed_result.stat.isdir is not skipped) or ('a' in ansible_play_batch)\", \"(r.failed is succeeded) or ((hostvars['a'].r.rc < 3) or (hostvars[inventory_hostname].inv is succeeded))\"], \"ignore_errors\": false, \"name\": \"h1\"}], \"tasks\": [{\"command\": {\"cmd\": \"{{ y.rc }}\"}, \"when\": [\"r is defined\"]}, {\"stat\": {\"path\": \"p\"}, \"when\": [\"r is defined and r is succeeded\", \"'b' in ansible_play_batch\"], \"register\": \"s\", \"ignore_errors\": true}], \"vars\": {\"v1\": \"{{ y | default([]) }}\"}}, {\"hosts\": \"all\", \"handlers\": [{\"command\": {\"cmd\": \"{{ r.stdout is undefined }}\"}, \"when\": [\"'b' in ansible_play_batch\"], \"name\": \"h0\"}, {\"loop\": \"{{ inv }}\", \"ping\": null, \"name\": \"h1\"}], \"tasks\": [{\"set_fact\": {\"y\": [1, 2]}, \"register\": \"r\", \"changed_when\": true}, {\"assert\": {\"that\": \"('a' in s.k) and (not (inv is skipped))\"}, \"vars\": {\"v1\": [\"x{{ ['a', 1] }}\"]}}, {\"set_fact\": {\"y\": \"{{ 'a' }}\"}, \"register\": \"r\"}, {\"block\": []}]}]") ≡ verdict (refused (record { code = 1; line = 2; host = Some (codes "b") }))
unfolding reading
random_001860 = refl

random_001861 : found_with (codes "[{\"name\": \"probe\", \"params\": {\"n\": {\"kind\": \"int\", \"required\": false}, \"l\": {\"kind\": {\"list\": \"text\", \"max\": 3}, \"required\": false}}, \"ok\": {\"changed\": {\"kind\": \"bool\", \"always\": true}, \"v\": {\"kind\": \"int\", \"always\": false}, \"rows\": {\"kind\": {\"list\": \"text\", \"max\": 2}, \"always\": true}, \"deep\": {\"kind\": {\"rec\": {\"a\": {\"kind\": \"text\", \"always\": true}, \"b\": {\"kind\": \"bool\", \"always\": false}}}, \"always\": false}}, \"failure\": {\"changed\": {\"kind\": \"bool\", \"always\": true}, \"msg\": {\"kind\": \"text\", \"always\": true}, \"v\": {\"kind\": \"text\", \"always\": false}, \"why\": {\"kind\": \"int\", \"always\": true}}}, {\"name\": \"odd\", \"params\": {}, \"ok\": {\"changed\": {\"kind\": \"bool\", \"always\": true}, \"msg\": {\"kind\": \"int\", \"always\": false}}, \"failure\": {\"changed\": {\"kind\": \"bool\", \"always\": true}, \"msg\": {\"kind\": \"text\", \"always\": true}}}]") (codes "{\"all\": {\"hosts\": [\"a\", \"b\", \"c\", \"d\"], \"vars\": {\"i2\": \"b\"}}, \"g1\": {\"hosts\": [\"a\", \"b\", \"c\", \"d\"], \"vars\": {}}, \"g2\": {\"hosts\": [\"b\", \"d\"], \"vars\": {\"i1\": \"x\", \"s1\": \"b\"}}, \"_meta\": {\"hostvars\": {\"a\": {\"i1\": [1]}, \"b\": {}, \"c\": {}, \"d\": {}}}}") (codes "[{\"hosts\": \"all\", \"tasks\": [{\"vars\": {\"v1\": \"x{{ r2.changed }}\", \"v3\": \"{{ group_names }}\"}, \"command\": {\"cmd\": \"x\"}, \"register\": \"r2\"}, {\"command\": {\"cmd\": \"x\"}, \"register\": \"r3\"}]}]") ≡ verdict (accepted 8)
unfolding reading
random_001861 = refl

random_001864 : found (codes "{\"g\": {\"hosts\": [\"b\", \"a\"]}, \"all\": {\"hosts\": [\"c\"], \"vars\": {\"inv\": [1, 2]}}, \"_meta\": {\"hostvars\": {\"a\": {\"opq\": 1.5, \"inv\": [\"x\"]}, \"b\": {\"k\": {\"z\": \"{{ q }}\"}}}}}") (codes "[{\"hosts\": \"all\", \"handlers\": [{\"ping\": null, \"when\": \"inv.k < 3\", \"name\": \"h0\"}], \"tasks\": [{\"loop\": \"{{ groups['g'] }}\", \"setup\": null, \"register\": \"r\", \"ignore_errors\": true, \"notify\": \"h0\"}, {\"block\": [], \"rescue\": [{\"block\": [{\"assert\": {\"that\": \"inventory_hostname.msg is undefined\"}, \"when\": \"inv.os_family < 3\", \"register\": \"s\", \"notify\": \"h0\"}, {\"command\": {\"cmd\": [true]}, \"when\": [\"hostvars['a'].inv is succeeded\", \"s.changed\"], \"register\": \"s\"}], \"rescue\": [{\"assert\": {\"that\": [\"(r.stdout) and ((ansible_play_batch is succeeded) and (r.stdout is changed))\", \"inv is failed\"]}, \"register\": \"s\", \"notify\": \"h0\"}], \"always\": []}, {\"block\": [], \"rescue\": [{\"fail\": {\"msg\": \"m\"}, \"failed_when\": false, \"ignore_errors\": true}, {\"loop\": \"{{ r.results }}\", \"fail\": {\"msg\": \"m\"}, \"register\": \"r\", \"failed_when\": \"r is failed\"}], \"always\": [], \"when\": [\"(opq.stat.isdir is not skipped) or (r.rc is not defined)\", \"groups['g'][0] in ansible_play_batch\"], \"ignore_errors\": false}], \"always\": [], \"when\": \"r.changed\", \"ignore_errors\": false}, {\"block\": [{\"loop\": \"{{ groups.all }}\", \"command\": \"x\", \"when\": \"not ('a' in ansible_play_batch)\", \"ignore_errors\": true, \"notify\": \"h0\"}, {\"ping\": null, \"until\": \"zz.changed\"}], \"rescue\": [{\"debug\": {\"msg\": [\"{{ hostvars[groups['g'][0]].inv.changed }}\"]}}, {\"setup\": null, \"when\": \"(('a' in hostvars[item].inv) or ('a' in inv)) and (r.changed is skipped)\", \"ignore_errors\": true}], \"always\": []}], \"vars\": {\"v1\": \"{{ r.rc }}\"}}]") ≡ verdict (refused (record { code = 1; line = 13; host = Some (codes "c") }))
unfolding reading
random_001864 = refl

random_001876 : found (codes "{\"g\": {\"hosts\": [\"b\", \"a\"]}, \"all\": {\"hosts\": [\"c\"], \"vars\": {\"inv\": [1, 2]}}, \"_meta\": {\"hostvars\": {\"a\": {\"opq\": 1.5, \"inv\": [\"x\"]}, \"b\": {\"k\": {\"z\": \"{{ q }}\"}}}}}") (codes "[{\"hosts\": \"b,a\", \"tasks\": [{\"setup\": null, \"when\": \"inv == 'a'\"}, {\"block\": []}], \"serial\": [1, 2]}]") ≡ verdict (accepted 2)
unfolding reading
random_001876 = refl

random_001879 : found_with (codes "[{\"name\": \"probe\", \"params\": {\"n\": {\"kind\": \"int\", \"required\": false}, \"l\": {\"kind\": {\"list\": \"text\", \"max\": 3}, \"required\": false}}, \"ok\": {\"changed\": {\"kind\": \"bool\", \"always\": true}, \"v\": {\"kind\": \"int\", \"always\": false}, \"rows\": {\"kind\": {\"list\": \"text\", \"max\": 2}, \"always\": true}, \"deep\": {\"kind\": {\"rec\": {\"a\": {\"kind\": \"text\", \"always\": true}, \"b\": {\"kind\": \"bool\", \"always\": false}}}, \"always\": false}}, \"failure\": {\"changed\": {\"kind\": \"bool\", \"always\": true}, \"msg\": {\"kind\": \"text\", \"always\": true}, \"v\": {\"kind\": \"text\", \"always\": false}, \"why\": {\"kind\": \"int\", \"always\": true}}}, {\"name\": \"odd\", \"params\": {}, \"ok\": {\"changed\": {\"kind\": \"bool\", \"always\": true}, \"msg\": {\"kind\": \"int\", \"always\": false}}, \"failure\": {\"changed\": {\"kind\": \"bool\", \"always\": true}, \"msg\": {\"kind\": \"text\", \"always\": true}}}]") (codes "{\"all\": {\"hosts\": [\"a\", \"b\"], \"vars\": {\"op\": 1.5}}, \"g1\": {\"hosts\": [\"a\", \"b\"], \"vars\": {\"s1\": true}}, \"g2\": {\"hosts\": [], \"vars\": {\"i1\": false}}, \"_meta\": {\"hostvars\": {\"a\": {}, \"b\": {\"op\": 1.5}}}}") (codes "[{\"hosts\": \"all\", \"tasks\": [{\"set_fact\": {\"s1\": \"{{ r2.failed }}\"}, \"when\": \"r2.failed is defined\", \"register\": \"r3\"}], \"handlers\": [{\"command\": {\"cmd\": \"x\"}, \"when\": \"hostvars['b'].s3.rc is undefined\", \"name\": \"h0\", \"listen\": \"t\"}]}, {\"hosts\": \"all\", \"tasks\": [{\"ping\": null, \"when\": \"not ('g2' in group_names)\"}, {\"debug\": {\"msg\": \"x\"}}], \"handlers\": [{\"set_fact\": {\"s2\": \"t\"}, \"name\": \"h0\", \"listen\": \"t\"}, {\"debug\": {\"msg\": \"x\"}, \"register\": \"r1\", \"name\": \"h1\", \"listen\": \"t\"}]}]") ≡ verdict (accepted 4)
unfolding reading
random_001879 = refl

random_001880 : found (codes "{\"g\": {\"hosts\": [\"b\", \"a\"]}, \"all\": {\"hosts\": [\"c\"], \"vars\": {\"inv\": [1, 2]}}, \"_meta\": {\"hostvars\": {\"a\": {\"opq\": 1.5, \"inv\": [\"x\"]}, \"b\": {\"k\": {\"z\": \"{{ q }}\"}}}}}") (codes "[{\"hosts\": \"all\", \"tasks\": [{\"set_fact\": {\"y\": \"{{ inv | join(',') }}\"}, \"when\": \"hostvars['b'].y is undefined\", \"changed_when\": false, \"ignore_errors\": true}, {\"meta\": \"flush_handlers\"}, {\"ping\": null, \"when\": [\"r.rc is defined\", \"y is defined\"]}], \"force_handlers\": true, \"vars\": {\"v1\": {\"k\": {\"k\": {\"k\": \"x{{ item.changed }}\"}}}}}, {\"hosts\": \"all\", \"tasks\": [{\"setup\": null, \"register\": \"s\"}, {\"fail\": {\"msg\": \"m\"}, \"when\": [\"(group_names == 1) or (r.stdout_lines is changed)\", \"'b' in ansible_play_batch\"], \"register\": \"s\"}], \"serial\": [1, 2]}]") ≡ verdict (refused (record { code = 1; line = 7; host = Some (codes "c") }))
unfolding reading
random_001880 = refl

random_001888 : found (codes "{\"g\": {\"hosts\": [\"b\", \"a\"]}, \"all\": {\"hosts\": [\"c\"], \"vars\": {\"inv\": [1, 2]}}, \"_meta\": {\"hostvars\": {\"a\": {\"opq\": 1.5, \"inv\": [\"x\"]}, \"b\": {\"k\": {\"z\": \"{{ q }}\"}}}}}") (codes "[{\"hosts\": \"all\", \"handlers\": [{\"loop\": \"{{ ansible_play_batch }}\", \"debug\": {\"msg\": \"{{ hostvars[item].y }}\"}, \"vars\": {\"v2\": \"{{ (r.hostname is failed) or (hostvars['b'].y is defined) }}\"}, \"name\": \"h0\"}, {\"debug\": {\"msg\": \"{{ inventory_hostname }}\"}, \"when\": \"(s.changed < 3) or ((r.failed < 3) and (ansible_play_batch.stat.isdir is succeeded))\", \"register\": \"s\", \"name\": \"h1\"}], \"tasks\": [{\"assert\": {\"that\": [\"hostvars[item].inv is not defined\", \"(('a' in r.changed) or (group_names is not defined)) and ((r.results) or (hostvars[inventory_hostname].s is failed))\"]}}, {\"set_fact\": {\"y\": {\"k\": true}}, \"register\": \"r\", \"notify\": \"h0\"}, {\"block\": [{\"command\": \"x\", \"when\": \"item in ansible_play_batch\"}, {\"debug\": {\"msg\": \"{{ zz.hostname }}\"}, \"register\": \"r\", \"changed_when\": true}], \"rescue\": [], \"always\": [{\"set_fact\": {\"s\": true}, \"ignore_errors\": true}], \"ignore_errors\": false}, {\"assert\": {\"that\": \"r.changed is not defined\"}, \"register\": \"r\", \"changed_when\": false, \"notify\": \"h1\"}], \"strategy\": \"free\", \"serial\": 2, \"force_handlers\": true, \"gather_facts\": true}, {\"hosts\": \"all\", \"tasks\": [{\"assert\": {\"that\": \"inv < 3\"}, \"when\": [\"hostvars['b'].y is defined\", \"y is defined\"], \"failed_when\": false}, {\"set_fact\": {\"s\": \"{{ inv.msg | length }}\"}, \"register\": \"s\"}, {\"stat\": {\"path\": \"p\"}}], \"force_handlers\": true, \"vars\": {\"v1\": \"a\"}}]") ≡ verdict (refused (record { code = 1; line = 3; host = Some (codes "c") }))
unfolding reading
random_001888 = refl

random_001890 : found (codes "{\"g\": {\"hosts\": [\"b\", \"a\"]}, \"all\": {\"hosts\": [\"c\"], \"vars\": {\"inv\": [1, 2]}}, \"_meta\": {\"hostvars\": {\"a\": {\"opq\": 1.5, \"inv\": [\"x\"]}, \"b\": {\"k\": {\"z\": \"{{ q }}\"}}}}}") (codes "[{\"hosts\": \"b,a\", \"tasks\": [{\"block\": [{\"command\": {\"cmd\": \"{{ ansible_play_batch.results }}\"}, \"register\": \"r\"}], \"always\": [{\"block\": [{\"loop\": \"{{ r.stdout_lines }}\", \"stat\": {\"path\": \"p\"}, \"register\": \"s\"}, {\"set_fact\": {\"y\": {\"k\": {\"k\": \"{{ (hostvars[item].opq.stdout is not skipped) or (r.changed is changed) }}\"}}}, \"register\": \"r\", \"failed_when\": \"r is failed\", \"ignore_errors\": true}], \"rescue\": [{\"loop\": [1, 2], \"ping\": null, \"when\": [\"hostvars[item].y is defined\", \"r is not skipped\"], \"ignore_errors\": true}, {\"loop\": \"{{ r.results }}\", \"assert\": {\"that\": [\"((hostvars[item].y.rc) and (zz.hostname is not defined)) or (not (item is undefined))\", \"v2.changed < 3\"]}, \"when\": \"((inv is undefined) and (item is defined)) and ((s.results is undefined) and ('a' in opq.stdout_lines))\"}]}], \"ignore_errors\": true}, {\"loop\": \"{{ ansible_play_batch }}\", \"debug\": {\"msg\": \"{{ groups.g }}\"}}, {\"set_fact\": {\"y\": \"{{ inv }}\"}, \"register\": \"s\", \"vars\": {\"v2\": [\"{{ v2.rc }}\"]}}], \"gather_facts\": true}]") ≡ verdict (refused (record { code = 10; line = 11; host = None }))
unfolding reading
random_001890 = refl

random_001896 : found (codes "{\"g\": {\"hosts\": [\"b\", \"a\"]}, \"all\": {\"hosts\": [\"c\"], \"vars\": {\"inv\": [1, 2]}}, \"_meta\": {\"hostvars\": {\"a\": {\"opq\": 1.5, \"inv\": [\"x\"]}, \"b\": {\"k\": {\"z\": \"{{ q }}\"}}}}}") (codes "[{\"hosts\": \"all\", \"tasks\": [{\"set_fact\": {\"y\": 1}, \"when\": [\"not (r is undefined or r is failed)\"], \"ignore_errors\": true}, {\"meta\": \"flush_handlers\"}], \"force_handlers\": true}, {\"hosts\": \"a\", \"handlers\": [{\"loop\": \"{{ groups['g'] }}\", \"setup\": null, \"name\": \"h0\"}], \"tasks\": [{\"block\": [{\"fail\": {\"msg\": \"m\"}, \"when\": \"item is failed\", \"register\": \"s\", \"notify\": \"h0\"}], \"rescue\": [{\"block\": [{\"stat\": {\"path\": \"p\"}, \"register\": \"s\", \"failed_when\": false}, {\"set_fact\": {\"s\": \"x{{ hostvars['a'].s.stat.isdir | length }}\"}, \"when\": [\"not (r is undefined or r is failed)\"], \"register\": \"s\", \"notify\": \"h0\"}]}]}, {\"stat\": {\"path\": \"p\"}, \"when\": [\"y is defined\"], \"register\": \"r\", \"changed_when\": \"r is changed\"}, {\"block\": [], \"always\": [], \"when\": [\"((zz.rc is skipped) and (hostvars['a'].inv == 1)) and (hostvars['a'].r.rc is failed)\", \"zz < 3\"]}], \"strategy\": \"free\"}]") ≡ verdict (refused (record { code = 1; line = 6; host = Some (codes "a") }))
unfolding reading
random_001896 = refl

random_001904 : found (codes "{\"g\": {\"hosts\": [\"b\", \"a\"]}, \"all\": {\"hosts\": [\"c\"], \"vars\": {\"inv\": [1, 2]}}, \"_meta\": {\"hostvars\": {\"a\": {\"opq\": 1.5, \"inv\": [\"x\"]}, \"b\": {\"k\": {\"z\": \"{{ q }}\"}}}}}") (codes "[{\"hosts\": \"a\", \"tasks\": [{\"command\": \"x\", \"ignore_errors\": true}, {\"loop\": \"{{ groups.all }}\", \"debug\": {\"msg\": {\"k\": \"{{ y.hostname | default(hostvars['a'].opq.changed) }}\"}}, \"when\": \"r.failed is not skipped\", \"register\": \"r\"}], \"post_tasks\": [{\"stat\": {\"path\": \"p\"}, \"when\": [\"inventory_hostname in ansible_play_batch\", \"hostvars['b'].y is not defined\"], \"register\": \"s\", \"failed_when\": \"s is failed\"}, {\"set_fact\": {\"s\": {\"k\": 1}}, \"when\": \"'a' in ansible_play_batch\"}, {\"assert\": {\"that\": \"y.os_family is not defined\"}, \"ignore_errors\": true}], \"serial\": [1, 2], \"gather_facts\": true}]") ≡ verdict (refused (record { code = 1; line = 4; host = Some (codes "a") }))
unfolding reading
random_001904 = refl

random_001905 : found_with (codes "[{\"name\": \"probe\", \"params\": {\"n\": {\"kind\": \"int\", \"required\": false}, \"l\": {\"kind\": {\"list\": \"text\", \"max\": 3}, \"required\": false}}, \"ok\": {\"changed\": {\"kind\": \"bool\", \"always\": true}, \"v\": {\"kind\": \"int\", \"always\": false}, \"rows\": {\"kind\": {\"list\": \"text\", \"max\": 2}, \"always\": true}, \"deep\": {\"kind\": {\"rec\": {\"a\": {\"kind\": \"text\", \"always\": true}, \"b\": {\"kind\": \"bool\", \"always\": false}}}, \"always\": false}}, \"failure\": {\"changed\": {\"kind\": \"bool\", \"always\": true}, \"msg\": {\"kind\": \"text\", \"always\": true}, \"v\": {\"kind\": \"text\", \"always\": false}, \"why\": {\"kind\": \"int\", \"always\": true}}}, {\"name\": \"odd\", \"params\": {}, \"ok\": {\"changed\": {\"kind\": \"bool\", \"always\": true}, \"msg\": {\"kind\": \"int\", \"always\": false}}, \"failure\": {\"changed\": {\"kind\": \"bool\", \"always\": true}, \"msg\": {\"kind\": \"text\", \"always\": true}}}]") (codes "{\"all\": {\"hosts\": [\"a\"], \"vars\": {\"i1\": {}}}, \"g2\": {\"hosts\": [\"a\"], \"vars\": {\"i1\": [], \"i2\": \"\", \"s1\": \"no\"}}, \"_meta\": {\"hostvars\": {\"a\": {\"i1\": null, \"i2\": \"\", \"s1\": \"no\"}}}}") (codes "[{\"hosts\": [\"a\", \"all\"], \"serial\": [1, \"100%\"], \"tasks\": [{\"stat\": {\"path\": \"/\"}, \"register\": \"r3\", \"ignore_errors\": true, \"notify\": \"h0\"}, {\"loop\": \"{{ ansible_play_batch }}\", \"vars\": {\"v1\": \"{{ s1 }}\"}, \"command\": {\"cmd\": \"x\"}, \"when\": \"item in ansible_play_batch\", \"register\": \"r3\"}, {\"command\": {\"cmd\": \"x\"}, \"register\": \"r2\"}], \"handlers\": [{\"command\": {\"cmd\": \"x {{ i2 | default(s1) }}\"}, \"register\": \"r2\", \"name\": \"h0\"}, {\"loop\": \"{{ ansible_play_batch }}\", \"odd\": null, \"register\": \"r2\", \"name\": \"h1\", \"notify\": \"h2\"}, {\"debug\": {\"msg\": \"{{ r2 }}\"}, \"when\": \"r2 is defined\", \"name\": \"h2\", \"listen\": \"t\"}]}]") ≡ verdict (accepted 5)
unfolding reading
random_001905 = refl

random_001928 : found (codes "{\"g\": {\"hosts\": [\"b\", \"a\"]}, \"all\": {\"hosts\": [\"c\"], \"vars\": {\"inv\": [1, 2]}}, \"_meta\": {\"hostvars\": {\"a\": {\"opq\": 1.5, \"inv\": [\"x\"]}, \"b\": {\"k\": {\"z\": \"{{ q }}\"}}}}}") (codes "[{\"hosts\": \"all\", \"handlers\": [{\"command\": {\"cmd\": \"{{ 1 }}\"}, \"ignore_errors\": true, \"vars\": {\"v2\": \"{{ hostvars[inventory_hostname].inv is succeeded }}\"}, \"name\": \"h0\"}, {\"command\": \"x\", \"register\": \"r\", \"name\": \"h1\"}], \"tasks\": [{\"set_fact\": {\"s\": \"x{{ ansible_hostname.os_family }}\"}, \"when\": [\"r is defined\", \"hostvars['a'].r.rc is defined\"], \"register\": \"s\", \"ignore_errors\": false, \"notify\": \"h0\", \"vars\": {\"v1\": \"{{ hostvars['a'].r.hostname is succeeded }}\"}}]}]") ≡ verdict (refused (record { code = 1; line = 2; host = Some (codes "c") }))
unfolding reading
random_001928 = refl

random_001943 : found_with (codes "[{\"name\": \"probe\", \"params\": {\"n\": {\"kind\": \"int\", \"required\": false}, \"l\": {\"kind\": {\"list\": \"text\", \"max\": 3}, \"required\": false}}, \"ok\": {\"changed\": {\"kind\": \"bool\", \"always\": true}, \"v\": {\"kind\": \"int\", \"always\": false}, \"rows\": {\"kind\": {\"list\": \"text\", \"max\": 2}, \"always\": true}, \"deep\": {\"kind\": {\"rec\": {\"a\": {\"kind\": \"text\", \"always\": true}, \"b\": {\"kind\": \"bool\", \"always\": false}}}, \"always\": false}}, \"failure\": {\"changed\": {\"kind\": \"bool\", \"always\": true}, \"msg\": {\"kind\": \"text\", \"always\": true}, \"v\": {\"kind\": \"text\", \"always\": false}, \"why\": {\"kind\": \"int\", \"always\": true}}}, {\"name\": \"odd\", \"params\": {}, \"ok\": {\"changed\": {\"kind\": \"bool\", \"always\": true}, \"msg\": {\"kind\": \"int\", \"always\": false}}, \"failure\": {\"changed\": {\"kind\": \"bool\", \"always\": true}, \"msg\": {\"kind\": \"text\", \"always\": true}}}]") (codes "{\"all\": {\"hosts\": [\"a\"], \"vars\": {\"s1\": \"t\"}}, \"g1\": {\"hosts\": [\"a\"], \"vars\": {\"s1\": \"t\"}}, \"g2\": {\"hosts\": [], \"vars\": {}}, \"_meta\": {\"hostvars\": {\"a\": {\"i2\": 1}}}}") (codes "[{\"hosts\": \"a\", \"pre_tasks\": [{\"command\": {\"cmd\": \"x\"}, \"when\": \"groups['all'][0] in ansible_play_batch\", \"register\": \"r1\", \"notify\": \"t\", \"changed_when\": true}], \"tasks\": [{\"assert\": {\"that\": [\"not (s1 is defined)\"]}, \"register\": \"r1\"}, {\"assert\": {\"that\": true}}, {\"loop\": \"{{ r1.results | default([]) }}\", \"odd\": null}], \"handlers\": [{\"debug\": {\"msg\": \"x\"}, \"ignore_errors\": true, \"name\": \"h0\", \"notify\": \"h2\"}, {\"command\": {\"cmd\": \"x\"}, \"register\": \"r2\", \"name\": \"h1\"}, {\"debug\": {\"msg\": \"x\"}, \"register\": \"r2\", \"name\": \"h2\", \"listen\": \"t\"}], \"force_handlers\": true}]") ≡ verdict (accepted 3)
unfolding reading
random_001943 = refl

random_001967 : found_with (codes "[{\"name\": \"probe\", \"params\": {\"n\": {\"kind\": \"int\", \"required\": false}, \"l\": {\"kind\": {\"list\": \"text\", \"max\": 3}, \"required\": false}}, \"ok\": {\"changed\": {\"kind\": \"bool\", \"always\": true}, \"v\": {\"kind\": \"int\", \"always\": false}, \"rows\": {\"kind\": {\"list\": \"text\", \"max\": 2}, \"always\": true}, \"deep\": {\"kind\": {\"rec\": {\"a\": {\"kind\": \"text\", \"always\": true}, \"b\": {\"kind\": \"bool\", \"always\": false}}}, \"always\": false}}, \"failure\": {\"changed\": {\"kind\": \"bool\", \"always\": true}, \"msg\": {\"kind\": \"text\", \"always\": true}, \"v\": {\"kind\": \"text\", \"always\": false}, \"why\": {\"kind\": \"int\", \"always\": true}}}, {\"name\": \"odd\", \"params\": {}, \"ok\": {\"changed\": {\"kind\": \"bool\", \"always\": true}, \"msg\": {\"kind\": \"int\", \"always\": false}}, \"failure\": {\"changed\": {\"kind\": \"bool\", \"always\": true}, \"msg\": {\"kind\": \"text\", \"always\": true}}}]") (codes "{\"all\": {\"hosts\": [\"a\", \"b\", \"c\"], \"vars\": {}}, \"g1\": {\"hosts\": [\"a\", \"b\", \"c\"], \"vars\": {}, \"children\": [\"g2\"]}, \"g2\": {\"hosts\": [\"a\", \"c\"], \"vars\": {\"i2\": \"no\"}}, \"_meta\": {\"hostvars\": {\"a\": {\"i1\": [true, null], \"s1\": [\"x\"]}, \"b\": {\"op\": 1.5}, \"c\": {\"i2\": {\"f\": false}}}}}") (codes "[{\"hosts\": \"all\", \"vars\": {\"v2\": [\"a\", \"x\"], \"v3\": false}, \"serial\": [1, 2], \"tasks\": [{\"meta\": \"flush_handlers\"}, {\"loop\": \"{{ groups['all'] }}\", \"odd\": null, \"when\": \"item in ansible_play_batch\"}, {\"block\": [{\"set_fact\": {\"s2\": \"{{ hostvars['c'].r3.failed }}\"}, \"when\": [\"'c' in ansible_play_batch\", \"hostvars['c'].r3.failed is defined\"]}, {\"command\": {\"cmd\": \"x\"}, \"when\": \"hostvars['a'].s3 | default(false)\", \"register\": \"r3\", \"ignore_errors\": true}], \"rescue\": [{\"debug\": {\"msg\": \"{{ r2 }}\"}, \"when\": [\"r2 is changed\", \"r2 is defined\"], \"register\": \"r1\"}, {\"vars\": {}, \"fail\": null, \"when\": \"r2 is not failed\"}]}, {\"probe\": {}, \"register\": \"r2\"}], \"post_tasks\": [{\"ignore_errors\": true, \"block\": [{\"set_fact\": {\"s1\": {\"f\": 3, \"g\": {\"g\": \"x\"}}}, \"register\": \"r1\"}]}, {\"fail\": {\"msg\": \"m\"}}], \"force_handlers\": true}]") ≡ verdict (accepted 15)
unfolding reading
random_001967 = refl

random_001970 : found (codes "{\"g\": {\"hosts\": [\"b\", \"a\"]}, \"all\": {\"hosts\": [\"c\"], \"vars\": {\"inv\": [1, 2]}}, \"_meta\": {\"hostvars\": {\"a\": {\"opq\": 1.5, \"inv\": [\"x\"]}, \"b\": {\"k\": {\"z\": \"{{ q }}\"}}}}}") (codes "[{\"hosts\": \"all\", \"tasks\": [{\"command\": \"x\", \"register\": \"s\", \"failed_when\": true, \"until\": \"s.changed\", \"retries\": 1}, {\"loop\": [1, 2], \"debug\": {\"msg\": [\"{{ r.results }}\"]}, \"register\": \"s\", \"ignore_errors\": true}], \"strategy\": \"free\", \"serial\": \"50%\"}]") ≡ verdict (refused (record { code = 1; line = 3; host = Some (codes "c") }))
unfolding reading
random_001970 = refl

random_001973 : found_with (codes "[{\"name\": \"probe\", \"params\": {\"n\": {\"kind\": \"int\", \"required\": false}, \"l\": {\"kind\": {\"list\": \"text\", \"max\": 3}, \"required\": false}}, \"ok\": {\"changed\": {\"kind\": \"bool\", \"always\": true}, \"v\": {\"kind\": \"int\", \"always\": false}, \"rows\": {\"kind\": {\"list\": \"text\", \"max\": 2}, \"always\": true}, \"deep\": {\"kind\": {\"rec\": {\"a\": {\"kind\": \"text\", \"always\": true}, \"b\": {\"kind\": \"bool\", \"always\": false}}}, \"always\": false}}, \"failure\": {\"changed\": {\"kind\": \"bool\", \"always\": true}, \"msg\": {\"kind\": \"text\", \"always\": true}, \"v\": {\"kind\": \"text\", \"always\": false}, \"why\": {\"kind\": \"int\", \"always\": true}}}, {\"name\": \"odd\", \"params\": {}, \"ok\": {\"changed\": {\"kind\": \"bool\", \"always\": true}, \"msg\": {\"kind\": \"int\", \"always\": false}}, \"failure\": {\"changed\": {\"kind\": \"bool\", \"always\": true}, \"msg\": {\"kind\": \"text\", \"always\": true}}}]") (codes "{\"all\": {\"hosts\": [\"a\", \"b\"], \"vars\": {\"op\": 1.5}}, \"g1\": {\"hosts\": [\"a\", \"b\"], \"vars\": {\"i2\": {}}}, \"g2\": {\"hosts\": [\"a\"], \"vars\": {\"i1\": [\"b\"], \"op\": 1.5}}, \"_meta\": {\"hostvars\": {\"a\": {\"i1\": []}, \"b\": {}}}}") (codes "[{\"hosts\": \"g1\", \"vars\": {\"v1\": 3}, \"gather_facts\": true, \"tasks\": [{\"vars\": {\"v3\": \"{{ hostvars[inventory_hostname].r2.failed }}\"}, \"set_fact\": {\"s1\": []}, \"register\": \"r1\", \"ignore_errors\": true, \"notify\": \"h0\"}, {\"loop\": \"{{ ansible_play_batch }}\", \"ping\": null, \"register\": \"r3\"}], \"handlers\": [{\"loop\": [{\"f\": [\"x\", 2], \"g\": 0}, true, [false, null]], \"set_fact\": {\"s1\": \"{{ [hostvars[item].op.f, 'q'] }}\"}, \"when\": [\"hostvars[item].op is defined\", \"hostvars[item].op is not failed\"], \"register\": \"r2\", \"name\": \"h0\", \"listen\": \"t\"}], \"force_handlers\": true}, {\"hosts\": \"all\", \"tasks\": [{\"debug\": {\"msg\": \"{{ i2 | length }}\"}, \"register\": \"r3\"}], \"handlers\": [{\"set_fact\": {\"s1\": 1}, \"when\": \"(groups['all'][0 in ansible_play_batch and hostvars[groups['all'][0]. is succeeded and hostvars[groups['all'][0]].i2 == 1) and (r3.changed | default(false))\", \"register\": \"r3\", \"ignore_errors\": true, \"name\": \"h0\", \"listen\": \"t\"}], \"force_handlers\": true}]") ≡ wrong_book (record { line = 8; code = 7 })
unfolding reading
random_001973 = refl

random_001982 : found (codes "{\"g\": {\"hosts\": [\"b\", \"a\"]}, \"all\": {\"hosts\": [\"c\"], \"vars\": {\"inv\": [1, 2]}}, \"_meta\": {\"hostvars\": {\"a\": {\"opq\": 1.5, \"inv\": [\"x\"]}, \"b\": {\"k\": {\"z\": \"{{ q }}\"}}}}}") (codes "[{\"hosts\": \"all\", \"handlers\": [{\"loop\": \"{{ groups.all }}\", \"fail\": {\"msg\": \"m\"}, \"when\": [\"item in ansible_play_batch\", \"'b' in ansible_play_batch\"], \"vars\": {\"v2\": [{\"k\": {\"k\": 1}}]}, \"name\": \"h0\"}], \"tasks\": [{\"set_fact\": {\"s\": \"{{ ('a' in hostvars[item].inv) or (v2.hostname is failed) }}\"}, \"when\": [\"'b' in ansible_play_batch\"], \"register\": \"r\", \"failed_when\": false, \"vars\": {\"v1\": \"{{ inv | default(1) }}\"}}]}]") ≡ verdict (refused (record { code = 1; line = 2; host = Some (codes "c") }))
unfolding reading
random_001982 = refl

random_002004 : found (codes "{\"g\": {\"hosts\": [\"b\", \"a\"]}, \"all\": {\"hosts\": [\"c\"], \"vars\": {\"inv\": [1, 2]}}, \"_meta\": {\"hostvars\": {\"a\": {\"opq\": 1.5, \"inv\": [\"x\"]}, \"b\": {\"k\": {\"z\": \"{{ q }}\"}}}}}") (codes "[{\"hosts\": \"all\", \"tasks\": [{\"fail\": null, \"register\": \"r\"}]}, {\"hosts\": \"a\", \"tasks\": [{\"set_fact\": {\"y\": null}, \"when\": [\"hostvars['a'].r.rc is defined\"], \"register\": \"r\", \"ignore_errors\": true}, {\"meta\": \"flush_handlers\"}, {\"set_fact\": {\"y\": {\"k\": [{\"k\": \"{{ (r.results is defined) and (y is not skipped) }}\"}]}}, \"when\": \"((hostvars['b'].y is changed) and (ansible_hostname.results is changed)) and ('a' in zz)\", \"register\": \"s\"}, {\"set_fact\": {\"y\": \"{{ (ansible_facts.stdout is succeeded) and (y.os_family == 'a') }}\"}}], \"vars\": {\"v1\": [1, 2]}}]") ≡ verdict (accepted 0)
unfolding reading
random_002004 = refl

random_002007 : found_with (codes "[{\"name\": \"probe\", \"params\": {\"n\": {\"kind\": \"int\", \"required\": false}, \"l\": {\"kind\": {\"list\": \"text\", \"max\": 3}, \"required\": false}}, \"ok\": {\"changed\": {\"kind\": \"bool\", \"always\": true}, \"v\": {\"kind\": \"int\", \"always\": false}, \"rows\": {\"kind\": {\"list\": \"text\", \"max\": 2}, \"always\": true}, \"deep\": {\"kind\": {\"rec\": {\"a\": {\"kind\": \"text\", \"always\": true}, \"b\": {\"kind\": \"bool\", \"always\": false}}}, \"always\": false}}, \"failure\": {\"changed\": {\"kind\": \"bool\", \"always\": true}, \"msg\": {\"kind\": \"text\", \"always\": true}, \"v\": {\"kind\": \"text\", \"always\": false}, \"why\": {\"kind\": \"int\", \"always\": true}}}, {\"name\": \"odd\", \"params\": {}, \"ok\": {\"changed\": {\"kind\": \"bool\", \"always\": true}, \"msg\": {\"kind\": \"int\", \"always\": false}}, \"failure\": {\"changed\": {\"kind\": \"bool\", \"always\": true}, \"msg\": {\"kind\": \"text\", \"always\": true}}}]") (codes "{\"all\": {\"hosts\": [\"a\", \"b\"], \"vars\": {\"i1\": [\"b\", \"t\"], \"i2\": true}}, \"_meta\": {\"hostvars\": {\"a\": {}, \"b\": {}}}}") (codes "[{\"hosts\": \"all\", \"vars\": {\"v3\": \"{{ r1 }}\"}, \"strategy\": \"free\", \"serial\": [1, \"100%\"], \"tasks\": [{\"command\": {\"cmd\": \"x\"}, \"register\": \"r2\"}, {\"command\": {\"cmd\": \"x\"}, \"register\": \"r3\", \"failed_when\": \"r3.stdout | default(true) == true\", \"until\": \"r3.stdout | default(true) == true\"}], \"handlers\": [{\"set_fact\": {\"s3\": [\"{{ r2.failed }}\"], \"s2\": true}, \"when\": \"r2 is succeeded\", \"register\": \"r2\", \"ignore_errors\": true, \"name\": \"h0\", \"notify\": \"h1\"}, {\"command\": \"x\", \"name\": \"h1\", \"listen\": \"t\", \"notify\": \"h2\"}, {\"command\": {\"cmd\": \"x\"}, \"register\": \"r2\", \"name\": \"h2\", \"listen\": \"t\"}], \"force_handlers\": true}]") ≡ verdict (accepted 14)
unfolding reading
random_002007 = refl

random_002028 : found (codes "{\"g\": {\"hosts\": [\"b\", \"a\"]}, \"all\": {\"hosts\": [\"c\"], \"vars\": {\"inv\": [1, 2]}}, \"_meta\": {\"hostvars\": {\"a\": {\"opq\": 1.5, \"inv\": [\"x\"]}, \"b\": {\"k\": {\"z\": \"{{ q }}\"}}}}}") (codes "[{\"hosts\": \"all\", \"tasks\": [{\"stat\": {\"path\": \"p\"}, \"ignore_errors\": true}, {\"setup\": null, \"register\": \"s\", \"failed_when\": \"s.changed\", \"ignore_errors\": true}, {\"debug\": {\"msg\": \"{{ opq }}\"}, \"when\": [\"item in ansible_play_batch\", \"((ansible_play_batch.changed == 'a') or (hostvars['a'].inv == 1)) and (y.stdout_lines == 1)\"]}], \"post_tasks\": [{\"set_fact\": {\"y\": {\"k\": null}}, \"when\": [\"not (r is undefined or r is failed)\"], \"ignore_errors\": true}, {\"stat\": {\"path\": \"p\"}, \"when\": [\"'b' in ansible_play_batch\", \"s is defined and s is not failed\"], \"ignore_errors\": true, \"vars\": {\"v1\": \"{{ s.stat.isdir | default(1) }}\"}}, {\"command\": {\"cmd\": 1}, \"when\": [\"y is skipped\", \"(item.k is succeeded) and ('b' in ansible_play_batch)\"], \"register\": \"r\", \"until\": false, \"retries\": 1, \"vars\": {\"v1\": \"{{ ansible_facts.changed == 1 }}\"}}, {\"assert\": {\"that\": \"item in ansible_play_batch\"}, \"register\": \"r\"}], \"vars\": {\"v1\": {\"k\": \"{{ hostvars['a'].inv }}\"}}}]") ≡ verdict (refused (record { code = 1; line = 4; host = Some (codes "c") }))
unfolding reading
random_002028 = refl

random_002029 : found_with (codes "[{\"name\": \"probe\", \"params\": {\"n\": {\"kind\": \"int\", \"required\": false}, \"l\": {\"kind\": {\"list\": \"text\", \"max\": 3}, \"required\": false}}, \"ok\": {\"changed\": {\"kind\": \"bool\", \"always\": true}, \"v\": {\"kind\": \"int\", \"always\": false}, \"rows\": {\"kind\": {\"list\": \"text\", \"max\": 2}, \"always\": true}, \"deep\": {\"kind\": {\"rec\": {\"a\": {\"kind\": \"text\", \"always\": true}, \"b\": {\"kind\": \"bool\", \"always\": false}}}, \"always\": false}}, \"failure\": {\"changed\": {\"kind\": \"bool\", \"always\": true}, \"msg\": {\"kind\": \"text\", \"always\": true}, \"v\": {\"kind\": \"text\", \"always\": false}, \"why\": {\"kind\": \"int\", \"always\": true}}}, {\"name\": \"odd\", \"params\": {}, \"ok\": {\"changed\": {\"kind\": \"bool\", \"always\": true}, \"msg\": {\"kind\": \"int\", \"always\": false}}, \"failure\": {\"changed\": {\"kind\": \"bool\", \"always\": true}, \"msg\": {\"kind\": \"text\", \"always\": true}}}]") (codes "{\"all\": {\"hosts\": [\"a\", \"b\", \"c\", \"d\"], \"vars\": {\"op\": 1.5}}, \"g1\": {\"hosts\": [], \"vars\": {\"s1\": \"b\", \"op\": 1.5}}, \"g2\": {\"hosts\": [\"a\", \"b\", \"d\"], \"vars\": {\"i1\": false}}, \"_meta\": {\"hostvars\": {\"a\": {\"op\": 1.5}, \"b\": {\"i2\": 1}, \"c\": {\"op\": 1.5}, \"d\": {\"i1\": true, \"s1\": [\"no\"]}}}}") (codes "[{\"hosts\": \"all\", \"strategy\": \"free\", \"tasks\": [{\"vars\": {\"v3\": \"{{ i2 | length }}\"}, \"setup\": null, \"changed_when\": false}, {\"probe\": {}, \"when\": \"r3.skip_reason is not defined\", \"notify\": \"t\"}, {\"loop\": \"{{ r2.results | default([]) }}\", \"debug\": {\"msg\": \"{{ hostvars[item].s1 }}\"}, \"register\": \"r2\", \"notify\": \"t\"}, {\"debug\": {\"msg\": \"x\"}, \"register\": \"r2\", \"ignore_errors\": true}], \"handlers\": [{\"loop\": \"{{ groups['all'] }}\", \"command\": {\"cmd\": \"x\"}, \"when\": \"item in ansible_play_batch\", \"register\": \"r2\", \"name\": \"h0\", \"listen\": \"t\"}]}]") ≡ verdict (accepted 24)
unfolding reading
random_002029 = refl

random_002030 : found (codes "{\"g\": {\"hosts\": [\"b\", \"a\"]}, \"all\": {\"hosts\": [\"c\"], \"vars\": {\"inv\": [1, 2]}}, \"_meta\": {\"hostvars\": {\"a\": {\"opq\": 1.5, \"inv\": [\"x\"]}, \"b\": {\"k\": {\"z\": \"{{ q }}\"}}}}}") (codes "[{\"hosts\": \"a\", \"handlers\": [{\"ping\": null, \"register\": \"s\", \"vars\": {\"v1\": \"{{ r.stdout }}\"}, \"name\": \"h0\"}], \"tasks\": [{\"block\": [], \"always\": []}], \"force_handlers\": true, \"gather_facts\": true}]") ≡ verdict (accepted 2)
unfolding reading
random_002030 = refl

random_002032 : found (codes "{\"g\": {\"hosts\": [\"b\", \"a\"]}, \"all\": {\"hosts\": [\"c\"], \"vars\": {\"inv\": [1, 2]}}, \"_meta\": {\"hostvars\": {\"a\": {\"opq\": 1.5, \"inv\": [\"x\"]}, \"b\": {\"k\": {\"z\": \"{{ q }}\"}}}}}") (codes "[{\"hosts\": \"b,a\", \"handlers\": [{\"loop\": \"{{ ansible_play_batch }}\", \"set_fact\": {\"s\": \"{{ v2 | length }}\"}, \"when\": [\"r is defined\"], \"ignore_errors\": false, \"name\": \"h0\"}, {\"stat\": {\"path\": \"p\"}, \"register\": \"s\", \"name\": \"h1\"}], \"tasks\": [{\"fail\": null, \"when\": \"opq.k == 1\", \"register\": \"r\", \"notify\": \"h1\"}, {\"block\": [{\"block\": [], \"rescue\": [{\"setup\": null, \"register\": \"r\", \"until\": false, \"retries\": 1}], \"always\": [{\"set_fact\": {\"y\": \"x{{ (inv) or (hostvars['a'].inv is undefined) }}\"}, \"when\": [\"not (item in ansible_play_batch)\", \"v2.stdout is defined\"], \"notify\": \"h1\"}], \"when\": \"(groups['g'][0] in ansible_play_batch) or (('a' in hostvars['a'].r) and (s.changed is succeeded))\"}], \"rescue\": [{\"stat\": {\"path\": \"p\"}, \"notify\": \"h1\"}, {\"assert\": {\"that\": [\"y is succeeded\", \"(v1.rc is not defined) and ((r.results is failed) and ('a' in inv))\"]}}], \"always\": [{\"loop\": \"{{ r.stdout_lines }}\", \"stat\": {\"path\": \"p\"}, \"when\": [\"r is defined and r is succeeded\"], \"register\": \"r\", \"ignore_errors\": true, \"notify\": \"h0\"}], \"ignore_errors\": false}], \"strategy\": \"free\", \"serial\": [1, 2]}]") ≡ verdict (refused (record { code = 1; line = 2; host = Some (codes "b") }))
unfolding reading
random_002032 = refl

random_002049 : found_with (codes "[{\"name\": \"probe\", \"params\": {\"n\": {\"kind\": \"int\", \"required\": false}, \"l\": {\"kind\": {\"list\": \"text\", \"max\": 3}, \"required\": false}}, \"ok\": {\"changed\": {\"kind\": \"bool\", \"always\": true}, \"v\": {\"kind\": \"int\", \"always\": false}, \"rows\": {\"kind\": {\"list\": \"text\", \"max\": 2}, \"always\": true}, \"deep\": {\"kind\": {\"rec\": {\"a\": {\"kind\": \"text\", \"always\": true}, \"b\": {\"kind\": \"bool\", \"always\": false}}}, \"always\": false}}, \"failure\": {\"changed\": {\"kind\": \"bool\", \"always\": true}, \"msg\": {\"kind\": \"text\", \"always\": true}, \"v\": {\"kind\": \"text\", \"always\": false}, \"why\": {\"kind\": \"int\", \"always\": true}}}, {\"name\": \"odd\", \"params\": {}, \"ok\": {\"changed\": {\"kind\": \"bool\", \"always\": true}, \"msg\": {\"kind\": \"int\", \"always\": false}}, \"failure\": {\"changed\": {\"kind\": \"bool\", \"always\": true}, \"msg\": {\"kind\": \"text\", \"always\": true}}}]") (codes "{\"all\": {\"hosts\": [\"a\", \"b\", \"c\"], \"vars\": {\"i2\": \"\"}}, \"g1\": {\"hosts\": [\"a\", \"b\", \"c\"], \"vars\": {\"i1\": 1, \"i2\": \"x\", \"op\": 1.5}}, \"g2\": {\"hosts\": [\"a\", \"b\", \"c\"], \"vars\": {\"i1\": 1, \"op\": 1.5}}, \"_meta\": {\"hostvars\": {\"a\": {\"i2\": [1], \"s1\": -1}, \"b\": {\"s1\": [2, \"b\"]}, \"c\": {\"op\": 1.5}}}}") (codes "[{\"hosts\": \"all\", \"strategy\": \"free\", \"tasks\": [{\"ping\": null, \"register\": \"r3\"}], \"handlers\": [{\"debug\": {\"msg\": \"x\"}, \"register\": \"r2\", \"name\": \"h0\", \"listen\": \"t\", \"notify\": \"h1\"}, {\"command\": {\"cmd\": \"x {{ r1 }}\"}, \"failed_when\": \"inventory_hostname == 'a'\", \"name\": \"h1\", \"notify\": \"h2\"}, {\"command\": {\"cmd\": \"x {{ s1 }}\"}, \"register\": \"r3\", \"ignore_errors\": true, \"name\": \"h2\"}]}]") ≡ verdict (refused (record { code = 1; line = 4; host = Some (codes "a") }))
unfolding reading
random_002049 = refl

random_002050 : found (codes "{\"g\": {\"hosts\": [\"b\", \"a\"]}, \"all\": {\"hosts\": [\"c\"], \"vars\": {\"inv\": [1, 2]}}, \"_meta\": {\"hostvars\": {\"a\": {\"opq\": 1.5, \"inv\": [\"x\"]}, \"b\": {\"k\": {\"z\": \"{{ q }}\"}}}}}") (codes "[{\"hosts\": \"g\", \"tasks\": [{\"set_fact\": {\"s\": \"{{ r.stdout }}\"}, \"when\": [\"r is defined\"], \"ignore_errors\": true}, {\"loop\": [1, 2], \"command\": \"x\", \"register\": \"s\"}, {\"setup\": null, \"when\": [\"hostvars['a'].r.rc is defined\"], \"register\": \"s\", \"vars\": {\"v2\": \"{{ r.changed }}\"}}], \"strategy\": \"free\", \"gather_facts\": true}, {\"hosts\": \"all\", \"tasks\": [{\"loop\": \"{{ r.stdout_lines }}\", \"debug\": {\"msg\": {\"k\": \"{{ not (item is defined) }}\"}}, \"when\": [\"r is not skipped\"], \"register\": \"s\", \"vars\": {\"v2\": \"{{ true }}\"}}]}]") ≡ verdict (refused (record { code = 1; line = 7; host = Some (codes "c") }))
unfolding reading
random_002050 = refl

random_002056 : found (codes "{\"g\": {\"hosts\": [\"b\", \"a\"]}, \"all\": {\"hosts\": [\"c\"], \"vars\": {\"inv\": [1, 2]}}, \"_meta\": {\"hostvars\": {\"a\": {\"opq\": 1.5, \"inv\": [\"x\"]}, \"b\": {\"k\": {\"z\": \"{{ q }}\"}}}}}") (codes "[{\"hosts\": \"all\", \"handlers\": [{\"set_fact\": {\"s\": \"x{{ hostvars['a'].r.rc }}\"}, \"register\": \"r\", \"name\": \"h0\"}], \"tasks\": [{\"block\": [{\"debug\": {\"msg\": \"{{ item.changed }}\"}, \"changed_when\": \"zz is changed\", \"vars\": {\"v2\": \"{{ hostvars[inventory_hostname].s.stat.isdir }}\"}}, {\"debug\": {\"msg\": {\"k\": {\"k\": {\"k\": \"{{ s.changed | length }}\"}}}}, \"when\": [\"r is defined and r is succeeded\"], \"register\": \"r\", \"vars\": {\"v2\": \"{{ r.failed }}\"}}], \"always\": [{\"loop\": \"{{ inv }}\", \"command\": \"x\", \"when\": [\"r is defined\"], \"failed_when\": true, \"ignore_errors\": false}]}]}, {\"hosts\": \"all\", \"tasks\": [{\"assert\": {\"that\": [\"(ansible_hostname.changed is changed) and (r.results < 3)\", \"(y is changed) or (hostvars[inventory_hostname].inv is undefined)\"]}, \"ignore_errors\": true}, {\"set_fact\": {\"y\": \"x{{ 'a' in ansible_play_batch }}\"}, \"ignore_errors\": false}, {\"fail\": null, \"changed_when\": true}], \"strategy\": \"free\"}]") ≡ verdict (refused (record { code = 1; line = 3; host = Some (codes "c") }))
unfolding reading
random_002056 = refl

random_002062 : found (codes "{\"g\": {\"hosts\": [\"b\", \"a\"]}, \"all\": {\"hosts\": [\"c\"], \"vars\": {\"inv\": [1, 2]}}, \"_meta\": {\"hostvars\": {\"a\": {\"opq\": 1.5, \"inv\": [\"x\"]}, \"b\": {\"k\": {\"z\": \"{{ q }}\"}}}}}") (codes "[{\"hosts\": \"b,a\", \"handlers\": [{\"command\": \"x\", \"name\": \"h0\"}, {\"command\": \"x\", \"register\": \"r\", \"name\": \"h1\"}], \"tasks\": [{\"assert\": {\"that\": \"(zz.stdout == 'a') and (r.stdout is changed)\"}, \"when\": [\"y is defined\"], \"register\": \"s\", \"notify\": \"h0\"}, {\"meta\": \"flush_handlers\"}], \"strategy\": \"free\", \"serial\": 1}]") ≡ verdict (refused (record { code = 1; line = 2; host = Some (codes "b") }))
unfolding reading
random_002062 = refl

random_002067 : found_with (codes "[{\"name\": \"probe\", \"params\": {\"n\": {\"kind\": \"int\", \"required\": false}, \"l\": {\"kind\": {\"list\": \"text\", \"max\": 3}, \"required\": false}}, \"ok\": {\"changed\": {\"kind\": \"bool\", \"always\": true}, \"v\": {\"kind\": \"int\", \"always\": false}, \"rows\": {\"kind\": {\"list\": \"text\", \"max\": 2}, \"always\": true}, \"deep\": {\"kind\": {\"rec\": {\"a\": {\"kind\": \"text\", \"always\": true}, \"b\": {\"kind\": \"bool\", \"always\": false}}}, \"always\": false}}, \"failure\": {\"changed\": {\"kind\": \"bool\", \"always\": true}, \"msg\": {\"kind\": \"text\", \"always\": true}, \"v\": {\"kind\": \"text\", \"always\": false}, \"why\": {\"kind\": \"int\", \"always\": true}}}, {\"name\": \"odd\", \"params\": {}, \"ok\": {\"changed\": {\"kind\": \"bool\", \"always\": true}, \"msg\": {\"kind\": \"int\", \"always\": false}}, \"failure\": {\"changed\": {\"kind\": \"bool\", \"always\": true}, \"msg\": {\"kind\": \"text\", \"always\": true}}}]") (codes "{\"all\": {\"hosts\": [\"a\"], \"vars\": {\"i2\": \"a\"}}, \"g1\": {\"hosts\": [\"a\"], \"vars\": {\"i2\": true}}, \"g2\": {\"hosts\": [\"a\"], \"vars\": {\"s1\": true, \"op\": 1.5}}, \"_meta\": {\"hostvars\": {\"a\": {\"s1\": -1}}}}") (codes "[{\"hosts\": \"a\", \"strategy\": \"free\", \"gather_facts\": true, \"tasks\": [{\"command\": \"x\"}], \"handlers\": [{\"command\": {\"cmd\": \"x\"}, \"register\": \"r1\", \"name\": \"h0\"}, {\"loop\": \"{{ r1.results | default([]) }}\", \"probe\": {}, \"register\": \"r2\", \"name\": \"h1\"}, {\"command\": {\"cmd\": \"x\"}, \"name\": \"h2\", \"listen\": \"t\"}], \"force_handlers\": true}]") ≡ verdict (accepted 4)
unfolding reading
random_002067 = refl

random_002076 : found (codes "{\"g\": {\"hosts\": [\"b\", \"a\"]}, \"all\": {\"hosts\": [\"c\"], \"vars\": {\"inv\": [1, 2]}}, \"_meta\": {\"hostvars\": {\"a\": {\"opq\": 1.5, \"inv\": [\"x\"]}, \"b\": {\"k\": {\"z\": \"{{ q }}\"}}}}}") (codes "[{\"hosts\": \"b,a\", \"tasks\": [{\"assert\": {\"that\": [\"hostvars['a'].r.rc == 1\", \"((hostvars['b'].opq.os_family is skipped) or (hostvars[inventory_hostname].inv is skipped)) and (not (ansible_play_batch.os_family))\"]}, \"register\": \"s\", \"changed_when\": true, \"ignore_errors\": true}, {\"block\": [{\"fail\": {\"msg\": \"m\"}, \"failed_when\": \"zz is failed\"}]}, {\"block\": [{\"block\": [{\"debug\": {\"msg\": \"{{ r.stdout | length }}\"}}], \"rescue\": [], \"when\": [\"hostvars[item].ansible_hostname.hostname\", \"'a' in ansible_play_batch\"]}, {\"block\": [{\"stat\": {\"path\": \"p\"}, \"vars\": {\"v1\": \"{{ [1, 2] }}\"}}], \"always\": [{\"debug\": {\"msg\": \"{{ y.changed }}\"}, \"when\": [\"'b' in ansible_play_batch\"], \"register\": \"s\"}]}], \"always\": [{\"set_fact\": {\"y\": \"{{ item in ansible_play_batch }}\"}, \"when\": [\"r is defined\"]}]}], \"post_tasks\": [{\"block\": [], \"rescue\": [{\"ping\": null, \"when\": \"(not (r.stdout_lines is changed)) or (('a' in inv) and (v1.stdout is changed))\", \"register\": \"s\"}]}, {\"block\": [], \"ignore_errors\": false}], \"force_handlers\": true}]") ≡ verdict (refused (record { code = 2; line = 2; host = Some (codes "b") }))
unfolding reading
random_002076 = refl

random_002077 : found_with (codes "[{\"name\": \"probe\", \"params\": {\"n\": {\"kind\": \"int\", \"required\": false}, \"l\": {\"kind\": {\"list\": \"text\", \"max\": 3}, \"required\": false}}, \"ok\": {\"changed\": {\"kind\": \"bool\", \"always\": true}, \"v\": {\"kind\": \"int\", \"always\": false}, \"rows\": {\"kind\": {\"list\": \"text\", \"max\": 2}, \"always\": true}, \"deep\": {\"kind\": {\"rec\": {\"a\": {\"kind\": \"text\", \"always\": true}, \"b\": {\"kind\": \"bool\", \"always\": false}}}, \"always\": false}}, \"failure\": {\"changed\": {\"kind\": \"bool\", \"always\": true}, \"msg\": {\"kind\": \"text\", \"always\": true}, \"v\": {\"kind\": \"text\", \"always\": false}, \"why\": {\"kind\": \"int\", \"always\": true}}}, {\"name\": \"odd\", \"params\": {}, \"ok\": {\"changed\": {\"kind\": \"bool\", \"always\": true}, \"msg\": {\"kind\": \"int\", \"always\": false}}, \"failure\": {\"changed\": {\"kind\": \"bool\", \"always\": true}, \"msg\": {\"kind\": \"text\", \"always\": true}}}]") (codes "{\"all\": {\"hosts\": [\"a\", \"b\", \"c\"], \"vars\": {\"i2\": \"a\"}}, \"g1\": {\"hosts\": [\"a\", \"b\"], \"vars\": {}}, \"g2\": {\"hosts\": [\"a\", \"b\"], \"vars\": {\"op\": 1.5}}, \"_meta\": {\"hostvars\": {\"a\": {\"i1\": 3}, \"b\": {\"s1\": []}, \"c\": {\"i1\": true, \"op\": 1.5}}}}") (codes "[{\"hosts\": \"all\", \"serial\": 1, \"tasks\": [{\"probe\": null, \"notify\": \"h0\"}, {\"command\": {\"cmd\": \"x x{{ hostvars['b'].r2.changed }}\"}, \"when\": [\"groups.all is defined\", \"hostvars['b'].r2 is defined\", \"hostvars['b'].r2 is not failed\"], \"notify\": \"h0\", \"changed_when\": true}, {\"vars\": {\"v3\": \"{{ hostvars['b'].op | default(1) }}\"}, \"probe\": {}}], \"handlers\": [{\"loop\": \"{{ r2.stdout_lines | default([]) }}\", \"probe\": {}, \"name\": \"h0\", \"listen\": \"t\"}]}]") ≡ verdict (accepted 9)
unfolding reading
random_002077 = refl

random_002080 : found (codes "{\"g\": {\"hosts\": [\"b\", \"a\"]}, \"all\": {\"hosts\": [\"c\"], \"vars\": {\"inv\": [1, 2]}}, \"_meta\": {\"hostvars\": {\"a\": {\"opq\": 1.5, \"inv\": [\"x\"]}, \"b\": {\"k\": {\"z\": \"{{ q }}\"}}}}}") (codes "[{\"hosts\": \"a\", \"handlers\": [{\"set_fact\": {\"s\": \"{{ inv }}\"}, \"name\": \"h0\"}, {\"loop\": \"{{ r.stdout_lines }}\", \"fail\": null, \"when\": [\"'a' in ansible_play_batch\", \"s is defined and s is not failed\"], \"register\": \"s\", \"name\": \"h1\"}], \"pre_tasks\": [{\"ping\": null, \"when\": [\"'a' in ansible_play_batch\"], \"failed_when\": false, \"ignore_errors\": true}, {\"loop\": \"{{ inv }}\", \"set_fact\": {\"s\": [{\"k\": \"{{ v1 | default(item) }}\"}]}}], \"tasks\": [{\"command\": {\"cmd\": [1, 2]}, \"when\": [\"r is not skipped\"], \"failed_when\": \"zz is failed\", \"notify\": \"h0\"}]}]") ≡ verdict (refused (record { code = 1; line = 4; host = Some (codes "a") }))
unfolding reading
random_002080 = refl

random_002095 : found_with (codes "[{\"name\": \"probe\", \"params\": {\"n\": {\"kind\": \"int\", \"required\": false}, \"l\": {\"kind\": {\"list\": \"text\", \"max\": 3}, \"required\": false}}, \"ok\": {\"changed\": {\"kind\": \"bool\", \"always\": true}, \"v\": {\"kind\": \"int\", \"always\": false}, \"rows\": {\"kind\": {\"list\": \"text\", \"max\": 2}, \"always\": true}, \"deep\": {\"kind\": {\"rec\": {\"a\": {\"kind\": \"text\", \"always\": true}, \"b\": {\"kind\": \"bool\", \"always\": false}}}, \"always\": false}}, \"failure\": {\"changed\": {\"kind\": \"bool\", \"always\": true}, \"msg\": {\"kind\": \"text\", \"always\": true}, \"v\": {\"kind\": \"text\", \"always\": false}, \"why\": {\"kind\": \"int\", \"always\": true}}}, {\"name\": \"odd\", \"params\": {}, \"ok\": {\"changed\": {\"kind\": \"bool\", \"always\": true}, \"msg\": {\"kind\": \"int\", \"always\": false}}, \"failure\": {\"changed\": {\"kind\": \"bool\", \"always\": true}, \"msg\": {\"kind\": \"text\", \"always\": true}}}]") (codes "{\"all\": {\"hosts\": [\"a\", \"b\", \"c\"], \"vars\": {\"op\": 1.5}}, \"g1\": {\"hosts\": [\"b\", \"c\"], \"vars\": {\"s1\": \"x\"}, \"children\": [\"g2\"]}, \"g2\": {\"hosts\": [\"b\"], \"vars\": {}}, \"_meta\": {\"hostvars\": {\"a\": {}, \"b\": {\"op\": 1.5}, \"c\": {\"i1\": \"b\", \"s1\": null}}}}") (codes "[{\"hosts\": \"all\", \"vars\": {}, \"serial\": 1, \"tasks\": [{\"loop\": \"{{ ansible_play_batch }}\", \"odd\": null, \"when\": [\"inventory_hostname == 'b'\", \"item in ansible_play_batch\"], \"register\": \"r1\", \"ignore_errors\": true}, {\"debug\": {\"msg\": \"{{ hostvars['b'].r3.failed | default([]) }}\"}, \"register\": \"r3\"}, {\"probe\": {}, \"when\": \"s1 is not defined\", \"changed_when\": false, \"until\": true}], \"handlers\": [{\"loop\": \"{{ r1.msg }}\", \"vars\": {\"v1\": \"{{ r3.changed }}\", \"v2\": \"{{ ansible_hostname | length }}\"}, \"probe\": {}, \"when\": \"hostvars['b'].i1 is defined\", \"register\": \"r1\", \"name\": \"h0\", \"listen\": \"t\"}, {\"vars\": {\"v3\": \"x{{ hostvars['b'].i2.f }}\"}, \"set_fact\": {\"s3\": [\"{{ v3 | default(1) }}\"]}, \"when\": \"ansible_facts.hostname | default(false)\", \"register\": \"r3\", \"name\": \"h1\"}]}]") ≡ verdict (refused (record { code = 4; line = 3; host = Some (codes "a") }))
unfolding reading
random_002095 = refl

random_002103 : found_with (codes "[{\"name\": \"probe\", \"params\": {\"n\": {\"kind\": \"int\", \"required\": false}, \"l\": {\"kind\": {\"list\": \"text\", \"max\": 3}, \"required\": false}}, \"ok\": {\"changed\": {\"kind\": \"bool\", \"always\": true}, \"v\": {\"kind\": \"int\", \"always\": false}, \"rows\": {\"kind\": {\"list\": \"text\", \"max\": 2}, \"always\": true}, \"deep\": {\"kind\": {\"rec\": {\"a\": {\"kind\": \"text\", \"always\": true}, \"b\": {\"kind\": \"bool\", \"always\": false}}}, \"always\": false}}, \"failure\": {\"changed\": {\"kind\": \"bool\", \"always\": true}, \"msg\": {\"kind\": \"text\", \"always\": true}, \"v\": {\"kind\": \"text\", \"always\": false}, \"why\": {\"kind\": \"int\", \"always\": true}}}, {\"name\": \"odd\", \"params\": {}, \"ok\": {\"changed\": {\"kind\": \"bool\", \"always\": true}, \"msg\": {\"kind\": \"int\", \"always\": false}}, \"failure\": {\"changed\": {\"kind\": \"bool\", \"always\": true}, \"msg\": {\"kind\": \"text\", \"always\": true}}}]") (codes "{\"all\": {\"hosts\": [\"a\"], \"vars\": {}}, \"g1\": {\"hosts\": [\"a\"], \"vars\": {\"s1\": -1}}, \"g2\": {\"hosts\": [\"a\"], \"vars\": {}}, \"_meta\": {\"hostvars\": {\"a\": {}}}}") (codes "[{\"hosts\": \"all\", \"strategy\": \"free\", \"tasks\": [{\"meta\": \"flush_handlers\"}, {\"command\": {\"cmd\": \"x\"}, \"changed_when\": false}], \"post_tasks\": [{\"ping\": null, \"until\": false, \"retries\": 1, \"ignore_errors\": true, \"notify\": \"h0\", \"changed_when\": true}, {\"loop\": \"{{ r3.stdout_lines | default([]) }}\", \"probe\": {}, \"when\": \"inventory_hostname == 'a'\", \"register\": \"r2\"}, {\"meta\": \"flush_handlers\"}, {\"meta\": \"flush_handlers\"}], \"handlers\": [{\"odd\": null, \"register\": \"r3\", \"name\": \"h0\", \"listen\": \"t\", \"notify\": \"h1\"}, {\"loop\": \"{{ r3.results | default([]) }}\", \"command\": {\"cmd\": \"x\"}, \"when\": \"hostvars['a'].r3.failed is undefined\", \"register\": \"r3\", \"failed_when\": \"r3.rc == 'a'\", \"name\": \"h1\"}]}]") ≡ verdict (accepted 8)
unfolding reading
random_002103 = refl

random_002114 : found (codes "{\"g\": {\"hosts\": [\"b\", \"a\"]}, \"all\": {\"hosts\": [\"c\"], \"vars\": {\"inv\": [1, 2]}}, \"_meta\": {\"hostvars\": {\"a\": {\"opq\": 1.5, \"inv\": [\"x\"]}, \"b\": {\"k\": {\"z\": \"{{ q }}\"}}}}}") (codes "[{\"hosts\": \"all\", \"handlers\": [{\"set_fact\": {\"s\": \"{{ inv | length }}\"}, \"register\": \"s\", \"changed_when\": \"s is changed\", \"name\": \"h0\"}, {\"fail\": null, \"name\": \"h1\"}], \"tasks\": [{\"debug\": {\"msg\": {\"k\": [\"{{ v2.hostname | default(1) }}\"]}}, \"when\": \"((v2.stdout_lines is changed) and (hostvars[item].s.results is not defined)) and (not (groups.g == 'a'))\", \"failed_when\": \"zz is failed\", \"notify\": \"h0\"}, {\"block\": [{\"command\": \"x\", \"register\": \"r\"}, {\"command\": \"x\", \"when\": [\"((hostvars[inventory_hostname].opq.results is changed) and (hostvars[groups['g'][0]].inv.results == 1)) and (r.results is changed)\", \"ansible_failed_result.hostname\"], \"failed_when\": true}], \"rescue\": [{\"setup\": null, \"when\": [\"(s.results is defined) and (v1.stdout_lines is changed)\", \"((hostvars['a'].r.rc == 1) and ('a' in groups.g)) and (v2.stdout_lines is not defined)\"], \"register\": \"s\", \"ignore_errors\": true, \"notify\": \"h1\"}, {\"ping\": null, \"when\": \"(hostvars[inventory_hostname].y is changed) or (not (r.results is skipped))\", \"register\": \"s\", \"vars\": {\"v1\": \"{{ r.rc == 'a' }}\"}}], \"always\": []}], \"serial\": \"50%\", \"gather_facts\": true}]") ≡ verdict (refused (record { code = 1; line = 3; host = Some (codes "c") }))
unfolding reading
random_002114 = refl

random_002120 : found (codes "{\"g\": {\"hosts\": [\"b\", \"a\"]}, \"all\": {\"hosts\": [\"c\"], \"vars\": {\"inv\": [1, 2]}}, \"_meta\": {\"hostvars\": {\"a\": {\"opq\": 1.5, \"inv\": [\"x\"]}, \"b\": {\"k\": {\"z\": \"{{ q }}\"}}}}}") (codes "[{\"hosts\": \"a\", \"pre_tasks\": [{\"block\": [{\"block\": [{\"setup\": null, \"register\": \"r\"}], \"rescue\": []}], \"rescue\": [], \"always\": [{\"debug\": {\"msg\": [1, 2]}, \"when\": \"hostvars['b'].s.rc\", \"failed_when\": \"zz is failed\"}], \"when\": [\"item in ansible_play_batch\", \"(hostvars['b'].inv == 'a') or (not (ansible_facts.rc is defined))\"]}, {\"block\": [{\"block\": [], \"rescue\": [], \"always\": []}], \"ignore_errors\": true}, {\"block\": [], \"always\": [{\"block\": [], \"rescue\": [{\"loop\": \"{{ inv }}\", \"command\": \"x\", \"register\": \"s\", \"vars\": {\"v1\": {\"k\": \"x{{ group_names }}\"}}}, {\"command\": \"x\", \"when\": [\"'a' in ansible_play_batch\", \"r is defined and r is succeeded\"], \"until\": false, \"retries\": 1}]}]}, {\"meta\": \"flush_handlers\"}], \"tasks\": [{\"loop\": \"{{ r.stdout_lines }}\", \"set_fact\": {\"s\": {\"k\": \"{{ r.changed }}\"}}}], \"serial\": 1, \"force_handlers\": true, \"gather_facts\": true}, {\"hosts\": \"a\", \"tasks\": [{\"command\": {\"cmd\": \"{{ inv.os_family | join(',') }}\"}, \"register\": \"r\", \"changed_when\": \"r is changed\"}, {\"stat\": {\"path\": \"p\"}, \"register\": \"s\", \"ignore_errors\": false}], \"strategy\": \"free\", \"serial\": 1, \"vars\": {\"v1\": [\"{{ hostvars[inventory_hostname].y.stdout | default([]) }}\"]}}]") ≡ verdict (refused (record { code = 1; line = 5; host = Some (codes "a") }))
unfolding reading
random_002120 = refl

random_002132 : found (codes "{\"g\": {\"hosts\": [\"b\", \"a\"]}, \"all\": {\"hosts\": [\"c\"], \"vars\": {\"inv\": [1, 2]}}, \"_meta\": {\"hostvars\": {\"a\": {\"opq\": 1.5, \"inv\": [\"x\"]}, \"b\": {\"k\": {\"z\": \"{{ q }}\"}}}}}") (codes "[{\"hosts\": \"all\", \"tasks\": [{\"command\": {\"cmd\": \"{{ (hostvars['a'].inv is skipped) and (group_names == 1) }}\"}, \"register\": \"s\", \"vars\": {\"v1\": \"{{ not ('a' in hostvars['a'].inv) }}\"}}, {\"meta\": \"flush_handlers\"}, {\"debug\": {\"msg\": \"{{ y }}\"}, \"register\": \"r\"}, {\"set_fact\": {\"y\": \"x{{ ansible_play_batch.stdout | default(1) }}\"}, \"changed_when\": \"zz is changed\"}], \"gather_facts\": true}]") ≡ verdict (refused (record { code = 4; line = 3; host = Some (codes "c") }))
unfolding reading
random_002132 = refl

random_002134 : found (codes "{\"g\": {\"hosts\": [\"b\", \"a\"]}, \"all\": {\"hosts\": [\"c\"], \"vars\": {\"inv\": [1, 2]}}, \"_meta\": {\"hostvars\": {\"a\": {\"opq\": 1.5, \"inv\": [\"x\"]}, \"b\": {\"k\": {\"z\": \"{{ q }}\"}}}}}") (codes "[{\"hosts\": \"g\", \"handlers\": [{\"command\": {\"cmd\": {\"k\": [1, 2]}}, \"when\": [\"s is defined and s is not failed\"], \"ignore_errors\": true, \"name\": \"h0\"}, {\"command\": {\"cmd\": \"{{ group_names.msg }}\"}, \"register\": \"r\", \"failed_when\": false, \"changed_when\": \"r is changed\", \"name\": \"h1\"}], \"tasks\": [{\"command\": \"x\", \"register\": \"r\", \"notify\": \"h0\"}, {\"stat\": {\"path\": \"p\"}, \"until\": true, \"retries\": 1, \"vars\": {\"v2\": {\"k\": {\"k\": \"{{ y }}\"}}}}, {\"command\": \"x\", \"when\": [\"y is defined\"], \"notify\": \"h1\", \"vars\": {\"v2\": [\"{{ r.results }}\"]}}], \"force_handlers\": true}]") ≡ verdict (refused (record { code = 4; line = 5; host = Some (codes "b") }))
unfolding reading
random_002134 = refl

random_002153 : found_with (codes "[{\"name\": \"probe\", \"params\": {\"n\": {\"kind\": \"int\", \"required\": false}, \"l\": {\"kind\": {\"list\": \"text\", \"max\": 3}, \"required\": false}}, \"ok\": {\"changed\": {\"kind\": \"bool\", \"always\": true}, \"v\": {\"kind\": \"int\", \"always\": false}, \"rows\": {\"kind\": {\"list\": \"text\", \"max\": 2}, \"always\": true}, \"deep\": {\"kind\": {\"rec\": {\"a\": {\"kind\": \"text\", \"always\": true}, \"b\": {\"kind\": \"bool\", \"always\": false}}}, \"always\": false}}, \"failure\": {\"changed\": {\"kind\": \"bool\", \"always\": true}, \"msg\": {\"kind\": \"text\", \"always\": true}, \"v\": {\"kind\": \"text\", \"always\": false}, \"why\": {\"kind\": \"int\", \"always\": true}}}, {\"name\": \"odd\", \"params\": {}, \"ok\": {\"changed\": {\"kind\": \"bool\", \"always\": true}, \"msg\": {\"kind\": \"int\", \"always\": false}}, \"failure\": {\"changed\": {\"kind\": \"bool\", \"always\": true}, \"msg\": {\"kind\": \"text\", \"always\": true}}}]") (codes "{\"all\": {\"hosts\": [\"a\"], \"vars\": {\"i1\": \"no\"}}, \"g1\": {\"hosts\": [\"a\"], \"vars\": {\"i2\": \"b\"}}, \"g2\": {\"hosts\": [], \"vars\": {\"s1\": true}}, \"_meta\": {\"hostvars\": {\"a\": {\"s1\": 3}}}}") (codes "[{\"hosts\": \"all\", \"tasks\": [{\"ping\": null, \"register\": \"r2\"}, {\"command\": {\"cmd\": \"x\"}, \"changed_when\": false, \"failed_when\": false, \"notify\": \"h0\"}, {\"command\": {\"cmd\": \"x {{ hostvars[groups['all'][0]].s3 }}\"}, \"when\": [\"groups['all'][0 in ansible_play_batch\", \"hostvars[groups['all'][0]].s3 is defined\"], \"changed_when\": true, \"ignore_errors\": false}], \"handlers\": [{\"set_fact\": {\"s3\": 1}, \"when\": \"not (groups.all | default(false))\", \"name\": \"h0\", \"listen\": \"t\"}]}]") ≡ wrong_book (record { line = 4; code = 7 })
unfolding reading
random_002153 = refl

random_002156 : found (codes "{\"g\": {\"hosts\": [\"b\", \"a\"]}, \"all\": {\"hosts\": [\"c\"], \"vars\": {\"inv\": [1, 2]}}, \"_meta\": {\"hostvars\": {\"a\": {\"opq\": 1.5, \"inv\": [\"x\"]}, \"b\": {\"k\": {\"z\": \"{{ q }}\"}}}}}") (codes "[{\"hosts\": \"a\", \"tasks\": [{\"ping\": null}], \"strategy\": \"free\", \"force_handlers\": true}, {\"hosts\": \"all\", \"pre_tasks\": [{\"setup\": null, \"when\": [\"s is defined and s is not failed\"], \"register\": \"s\"}], \"tasks\": [{\"command\": {\"cmd\": \"{{ v1.os_family }}\"}, \"ignore_errors\": true}], \"strategy\": \"free\", \"force_handlers\": true}]") ≡ verdict (refused (record { code = 1; line = 5; host = Some (codes "c") }))
unfolding reading
random_002156 = refl

random_002158 : found (codes "{\"g\": {\"hosts\": [\"b\", \"a\"]}, \"all\": {\"hosts\": [\"c\"], \"vars\": {\"inv\": [1, 2]}}, \"_meta\": {\"hostvars\": {\"a\": {\"opq\": 1.5, \"inv\": [\"x\"]}, \"b\": {\"k\": {\"z\": \"{{ q }}\"}}}}}") (codes "[{\"hosts\": \"a\", \"handlers\": [{\"debug\": {\"msg\": \"{{ item.k }}\"}, \"name\": \"h0\"}], \"tasks\": [{\"loop\": \"{{ inv }}\", \"setup\": null, \"register\": \"r\", \"notify\": \"h0\"}, {\"ping\": null, \"vars\": {\"v1\": \"x{{ ('a' in inv) or (s.changed == 1) }}\"}}, {\"command\": {\"cmd\": 1}, \"register\": \"s\"}, {\"block\": []}], \"serial\": 1}, {\"hosts\": \"a\", \"handlers\": [{\"set_fact\": {\"y\": \"{{ hostvars['a'].r.rc }}\"}, \"when\": [\"hostvars['a'].r.rc is defined\"], \"failed_when\": true, \"name\": \"h0\"}, {\"stat\": {\"path\": \"p\"}, \"ignore_errors\": true, \"name\": \"h1\"}], \"pre_tasks\": [{\"meta\": \"flush_handlers\"}], \"tasks\": [{\"loop\": \"{{ r.results }}\", \"command\": {\"cmd\": \"x{{ hostvars[groups['g'][0]].inv.hostname }}\"}, \"when\": [\"item in ansible_play_batch\"], \"register\": \"s\", \"notify\": \"h0\"}, {\"debug\": {\"msg\": \"x{{ s.changed < 3 }}\"}, \"when\": \"inventory_hostname in ansible_play_batch\", \"register\": \"s\", \"notify\": \"h0\"}], \"strategy\": \"free\"}]") ≡ verdict (refused (record { code = 4; line = 4; host = Some (codes "a") }))
unfolding reading
random_002158 = refl

random_002176 : found (codes "{\"g\": {\"hosts\": [\"b\", \"a\"]}, \"all\": {\"hosts\": [\"c\"], \"vars\": {\"inv\": [1, 2]}}, \"_meta\": {\"hostvars\": {\"a\": {\"opq\": 1.5, \"inv\": [\"x\"]}, \"b\": {\"k\": {\"z\": \"{{ q }}\"}}}}}") (codes "[{\"hosts\": \"b,a\", \"pre_tasks\": [{\"debug\": {\"msg\": [\"x{{ hostvars[inventory_hostname].inv }}\"]}, \"when\": [\"r is defined\"], \"register\": \"s\"}, {\"set_fact\": {\"s\": \"{{ ansible_failed_result.stat.isdir == 1 }}\"}, \"when\": [\"not (r is undefined or r is failed)\", \"r is defined and r is succeeded\"], \"ignore_errors\": true}, {\"debug\": {\"msg\": \"{{ inv.rc | length }}\"}, \"when\": [\"'b' in ansible_play_batch\"], \"register\": \"r\", \"ignore_errors\": true}, {\"command\": {\"cmd\": \"{{ hostvars['b'].y | join(',') }}\"}, \"ignore_errors\": false}], \"tasks\": [{\"set_fact\": {\"y\": \"x{{ not (ansible_facts == 'a') }}\"}, \"when\": \"ansible_failed_result < 3\"}, {\"block\": []}, {\"debug\": {\"msg\": \"{{ s.stdout is defined }}\"}, \"when\": [\"s is defined and s is not failed\"], \"register\": \"s\"}, {\"ping\": null, \"when\": [\"y is defined\"]}], \"strategy\": \"free\", \"vars\": {\"v1\": \"a\"}}]") ≡ verdict (refused (record { code = 4; line = 2; host = Some (codes "b") }))
unfolding reading
random_002176 = refl

random_002186 : found (codes "{\"g\": {\"hosts\": [\"b\", \"a\"]}, \"all\": {\"hosts\": [\"c\"], \"vars\": {\"inv\": [1, 2]}}, \"_meta\": {\"hostvars\": {\"a\": {\"opq\": 1.5, \"inv\": [\"x\"]}, \"b\": {\"k\": {\"z\": \"{{ q }}\"}}}}}") (codes "[{\"hosts\": \"all\", \"handlers\": [{\"setup\": null, \"register\": \"r\", \"until\": \"r.changed\", \"retries\": 1, \"name\": \"h0\"}], \"pre_tasks\": [{\"meta\": \"flush_handlers\"}, {\"setup\": null}], \"tasks\": [{\"fail\": {\"msg\": \"m\"}, \"when\": [\"not (groups['g'][0] in ansible_play_batch)\", \"v1.k < 3\"], \"failed_when\": \"zz.changed\", \"ignore_errors\": true, \"notify\": \"h0\", \"vars\": {\"v2\": \"{{ ansible_failed_result.stdout_lines }}\"}}, {\"block\": [{\"command\": {\"cmd\": \"{{ inv.msg }}\"}, \"register\": \"s\", \"notify\": \"h0\"}], \"always\": []}], \"post_tasks\": [{\"meta\": \"flush_handlers\"}, {\"set_fact\": {\"y\": \"{{ y | join(',') }}\"}, \"ignore_errors\": true}, {\"ping\": null, \"register\": \"s\", \"until\": \"s is succeeded\"}, {\"loop\": [1, 2], \"ping\": null, \"vars\": {\"v2\": [{\"k\": 1}]}}], \"strategy\": \"free\", \"vars\": {\"v1\": true}}]") ≡ verdict (refused (record { code = 4; line = 4; host = Some (codes "c") }))
unfolding reading
random_002186 = refl

random_002203 : found_with (codes "[{\"name\": \"probe\", \"params\": {\"n\": {\"kind\": \"int\", \"required\": false}, \"l\": {\"kind\": {\"list\": \"text\", \"max\": 3}, \"required\": false}}, \"ok\": {\"changed\": {\"kind\": \"bool\", \"always\": true}, \"v\": {\"kind\": \"int\", \"always\": false}, \"rows\": {\"kind\": {\"list\": \"text\", \"max\": 2}, \"always\": true}, \"deep\": {\"kind\": {\"rec\": {\"a\": {\"kind\": \"text\", \"always\": true}, \"b\": {\"kind\": \"bool\", \"always\": false}}}, \"always\": false}}, \"failure\": {\"changed\": {\"kind\": \"bool\", \"always\": true}, \"msg\": {\"kind\": \"text\", \"always\": true}, \"v\": {\"kind\": \"text\", \"always\": false}, \"why\": {\"kind\": \"int\", \"always\": true}}}, {\"name\": \"odd\", \"params\": {}, \"ok\": {\"changed\": {\"kind\": \"bool\", \"always\": true}, \"msg\": {\"kind\": \"int\", \"always\": false}}, \"failure\": {\"changed\": {\"kind\": \"bool\", \"always\": true}, \"msg\": {\"kind\": \"text\", \"always\": true}}}]") (codes "{\"all\": {\"hosts\": [\"a\", \"b\", \"c\"], \"vars\": {\"i1\": \"no\", \"s1\": [null]}}, \"g2\": {\"hosts\": [\"b\"], \"vars\": {\"op\": 1.5}}, \"_meta\": {\"hostvars\": {\"a\": {\"i1\": [false, \"no\"], \"i2\": [\"\"], \"s1\": 1}, \"b\": {\"i2\": \"t\", \"op\": 1.5}, \"c\": {}}}}") (codes "[{\"hosts\": [\"c\", \"all\"], \"strategy\": \"free\", \"serial\": \"50%\", \"tasks\": [{\"ping\": null, \"register\": \"r3\"}, {\"set_fact\": {\"s1\": {\"f\": 1}}, \"register\": \"r1\"}], \"handlers\": [{\"command\": \"x\", \"register\": \"r1\", \"name\": \"h0\", \"listen\": \"t\"}], \"force_handlers\": true}]") ≡ verdict (accepted 6)
unfolding reading
random_002203 = refl

random_002205 : found_with (codes "[{\"name\": \"probe\", \"params\": {\"n\": {\"kind\": \"int\", \"required\": false}, \"l\": {\"kind\": {\"list\": \"text\", \"max\": 3}, \"required\": false}}, \"ok\": {\"changed\": {\"kind\": \"bool\", \"always\": true}, \"v\": {\"kind\": \"int\", \"always\": false}, \"rows\": {\"kind\": {\"list\": \"text\", \"max\": 2}, \"always\": true}, \"deep\": {\"kind\": {\"rec\": {\"a\": {\"kind\": \"text\", \"always\": true}, \"b\": {\"kind\": \"bool\", \"always\": false}}}, \"always\": false}}, \"failure\": {\"changed\": {\"kind\": \"bool\", \"always\": true}, \"msg\": {\"kind\": \"text\", \"always\": true}, \"v\": {\"kind\": \"text\", \"always\": false}, \"why\": {\"kind\": \"int\", \"always\": true}}}, {\"name\": \"odd\", \"params\": {}, \"ok\": {\"changed\": {\"kind\": \"bool\", \"always\": true}, \"msg\": {\"kind\": \"int\", \"always\": false}}, \"failure\": {\"changed\": {\"kind\": \"bool\", \"always\": true}, \"msg\": {\"kind\": \"text\", \"always\": true}}}]") (codes "{\"all\": {\"hosts\": [\"a\"], \"vars\": {\"s1\": true}}, \"g1\": {\"hosts\": [\"a\"], \"vars\": {\"i2\": {\"f\": 1}}}, \"g2\": {\"hosts\": [\"a\"], \"vars\": {\"op\": 1.5}}, \"_meta\": {\"hostvars\": {\"a\": {\"s1\": -1}}}}") (codes "[{\"hosts\": \"a\", \"vars\": {}, \"pre_tasks\": [{\"vars\": {\"v3\": \"x{{ hostvars['a'].r3.failed }}\"}, \"debug\": {\"msg\": \"{{ r3 }}\"}, \"when\": \"r3 is defined\", \"notify\": \"t\", \"changed_when\": true}, {\"command\": {\"cmd\": \"x\"}, \"register\": \"r2\"}], \"tasks\": [{\"block\": [], \"always\": [{\"vars\": {}, \"probe\": {}, \"register\": \"r2\", \"changed_when\": \"r2.changed == 'a'\"}]}], \"post_tasks\": [{\"set_fact\": {\"s3\": 1}, \"when\": [\"'g1' in group_names\", \"hostvars['a'].r3 is defined\", \"hostvars['a'].r3.failed is defined\"], \"register\": \"r3\", \"notify\": \"h0\", \"changed_when\": true}], \"handlers\": [{\"set_fact\": {\"s2\": {\"f\": \"{{ r3.failed }}\", \"rc\": 1}}, \"register\": \"r3\", \"name\": \"h0\", \"listen\": \"t\"}], \"force_handlers\": true}]") ≡ verdict (refused (record { code = 1; line = 7; host = Some (codes "a") }))
unfolding reading
random_002205 = refl

random_002214 : found (codes "{\"g\": {\"hosts\": [\"b\", \"a\"]}, \"all\": {\"hosts\": [\"c\"], \"vars\": {\"inv\": [1, 2]}}, \"_meta\": {\"hostvars\": {\"a\": {\"opq\": 1.5, \"inv\": [\"x\"]}, \"b\": {\"k\": {\"z\": \"{{ q }}\"}}}}}") (codes "[{\"hosts\": \"all\", \"handlers\": [{\"set_fact\": {\"y\": \"x{{ s }}\"}, \"register\": \"r\", \"name\": \"h0\"}, {\"fail\": {\"msg\": \"m\"}, \"name\": \"h1\"}], \"tasks\": [{\"fail\": null}, {\"debug\": {\"msg\": \"{{ ansible_play_batch | length }}\"}, \"failed_when\": false, \"notify\": \"h1\"}], \"strategy\": \"free\", \"serial\": [1, 2]}]") ≡ verdict (accepted 0)
unfolding reading
random_002214 = refl

random_002217 : found_with (codes "[{\"name\": \"probe\", \"params\": {\"n\": {\"kind\": \"int\", \"required\": false}, \"l\": {\"kind\": {\"list\": \"text\", \"max\": 3}, \"required\": false}}, \"ok\": {\"changed\": {\"kind\": \"bool\", \"always\": true}, \"v\": {\"kind\": \"int\", \"always\": false}, \"rows\": {\"kind\": {\"list\": \"text\", \"max\": 2}, \"always\": true}, \"deep\": {\"kind\": {\"rec\": {\"a\": {\"kind\": \"text\", \"always\": true}, \"b\": {\"kind\": \"bool\", \"always\": false}}}, \"always\": false}}, \"failure\": {\"changed\": {\"kind\": \"bool\", \"always\": true}, \"msg\": {\"kind\": \"text\", \"always\": true}, \"v\": {\"kind\": \"text\", \"always\": false}, \"why\": {\"kind\": \"int\", \"always\": true}}}, {\"name\": \"odd\", \"params\": {}, \"ok\": {\"changed\": {\"kind\": \"bool\", \"always\": true}, \"msg\": {\"kind\": \"int\", \"always\": false}}, \"failure\": {\"changed\": {\"kind\": \"bool\", \"always\": true}, \"msg\": {\"kind\": \"text\", \"always\": true}}}]") (codes "{\"all\": {\"hosts\": [\"a\", \"b\"], \"vars\": {\"i1\": \"x\"}}, \"g1\": {\"hosts\": [], \"vars\": {\"i1\": [\"b\"]}, \"children\": [\"g2\"]}, \"g2\": {\"hosts\": [\"a\"], \"vars\": {\"i1\": [true, 0]}}, \"_meta\": {\"hostvars\": {\"a\": {}, \"b\": {}}}}") (codes "[{\"hosts\": [\"b\", \"all\"], \"vars\": {\"v2\": \"x\"}, \"strategy\": \"free\", \"tasks\": [{\"set_fact\": {\"s1\": 1}, \"register\": \"r3\", \"failed_when\": \"inventory_hostname == 'a'\"}, {\"command\": {\"cmd\": \"x\"}, \"register\": \"r3\", \"ignore_errors\": true}], \"handlers\": [{\"ping\": null, \"failed_when\": \"inventory_hostname == 'a'\", \"name\": \"h0\", \"listen\": \"t\"}]}]") ≡ verdict (accepted 4)
unfolding reading
random_002217 = refl

random_002229 : found_with (codes "[{\"name\": \"probe\", \"params\": {\"n\": {\"kind\": \"int\", \"required\": false}, \"l\": {\"kind\": {\"list\": \"text\", \"max\": 3}, \"required\": false}}, \"ok\": {\"changed\": {\"kind\": \"bool\", \"always\": true}, \"v\": {\"kind\": \"int\", \"always\": false}, \"rows\": {\"kind\": {\"list\": \"text\", \"max\": 2}, \"always\": true}, \"deep\": {\"kind\": {\"rec\": {\"a\": {\"kind\": \"text\", \"always\": true}, \"b\": {\"kind\": \"bool\", \"always\": false}}}, \"always\": false}}, \"failure\": {\"changed\": {\"kind\": \"bool\", \"always\": true}, \"msg\": {\"kind\": \"text\", \"always\": true}, \"v\": {\"kind\": \"text\", \"always\": false}, \"why\": {\"kind\": \"int\", \"always\": true}}}, {\"name\": \"odd\", \"params\": {}, \"ok\": {\"changed\": {\"kind\": \"bool\", \"always\": true}, \"msg\": {\"kind\": \"int\", \"always\": false}}, \"failure\": {\"changed\": {\"kind\": \"bool\", \"always\": true}, \"msg\": {\"kind\": \"text\", \"always\": true}}}]") (codes "{\"all\": {\"hosts\": [\"a\", \"b\", \"c\", \"d\"], \"vars\": {\"i1\": true, \"i2\": null}}, \"g1\": {\"hosts\": [\"a\", \"c\"], \"vars\": {\"s1\": {\"f\": null, \"g\": {\"f\": 2, \"g\": 1}}}}, \"g2\": {\"hosts\": [\"a\", \"b\", \"c\", \"d\"], \"vars\": {\"i1\": 2, \"s1\": \"x\"}}, \"_meta\": {\"hostvars\": {\"a\": {\"i1\": [true, \"b\"]}, \"b\": {}, \"c\": {\"i2\": [true]}, \"d\": {\"i2\": [\"b\"], \"op\": 1.5}}}}") (codes "[{\"hosts\": \"all\", \"vars\": {\"v2\": \"{{ hostvars['d'].i1 }}\", \"v3\": \"no\"}, \"tasks\": [{\"odd\": null, \"when\": \"r1.skipped is not defined\"}, {\"loop\": \"{{ r2.stdout_lines | default([]) }}\", \"set_fact\": {\"s2\": \"{{ s2 | default('z') }}\"}, \"when\": \"r3.skipped is defined\", \"register\": \"r1\"}, {\"block\": [{\"command\": {\"cmd\": \"x\"}, \"register\": \"r1\"}, {\"set_fact\": {\"s1\": 1}, \"register\": \"r2\"}], \"always\": [{\"vars\": {\"v2\": \"{{ [op.f, 1] }}\"}, \"fail\": null, \"when\": \"inventory_hostname == 'd'\", \"register\": \"r3\"}, {\"vars\": {\"v1\": \"{{ hostvars['c'].r1.stdout | default(s1) }}\", \"v2\": \"{{ r2 }}\"}, \"probe\": {}, \"register\": \"r1\", \"changed_when\": true}]}, {\"set_fact\": {\"s2\": {\"f\": \"{{ [r1.failed, r1.failed] }}\", \"rc\": 1}}, \"when\": \"r1 is failed\"}], \"force_handlers\": true}]") ≡ verdict (accepted 12)
unfolding reading
random_002229 = refl

random_002230 : found (codes "{\"g\": {\"hosts\": [\"b\", \"a\"]}, \"all\": {\"hosts\": [\"c\"], \"vars\": {\"inv\": [1, 2]}}, \"_meta\": {\"hostvars\": {\"a\": {\"opq\": 1.5, \"inv\": [\"x\"]}, \"b\": {\"k\": {\"z\": \"{{ q }}\"}}}}}") (codes "[{\"hosts\": \"g\", \"tasks\": [{\"loop\": \"{{ r.stdout_lines }}\", \"debug\": {\"msg\": \"{{ ansible_play_batch | default(zz.stdout_lines) }}\"}, \"when\": \"((opq.hostname) and (opq.results is undefined)) and (item.results == 1)\", \"register\": \"s\"}, {\"set_fact\": {\"y\": \"{{ hostvars[inventory_hostname].r.hostname | default('d') }}\"}, \"when\": \"ansible_facts.hostname is not defined\"}], \"serial\": [1, 2]}]") ≡ verdict (refused (record { code = 1; line = 2; host = Some (codes "b") }))
unfolding reading
random_002230 = refl

random_002234 : found (codes "{\"g\": {\"hosts\": [\"b\", \"a\"]}, \"all\": {\"hosts\": [\"c\"], \"vars\": {\"inv\": [1, 2]}}, \"_meta\": {\"hostvars\": {\"a\": {\"opq\": 1.5, \"inv\": [\"x\"]}, \"b\": {\"k\": {\"z\": \"{{ q }}\"}}}}}") (codes "[{\"hosts\": \"all\", \"tasks\": [{\"meta\": \"flush_handlers\"}]}, {\"hosts\": \"all\", \"tasks\": [{\"block\": [{\"command\": {\"cmd\": [\"{{ hostvars['a'].inv is not defined }}\"]}, \"register\": \"s\", \"until\": true, \"retries\": 1, \"ignore_errors\": true}, {\"fail\": {\"msg\": \"m\"}, \"register\": \"r\"}], \"rescue\": [{\"stat\": {\"path\": \"p\"}, \"register\": \"s\", \"changed_when\": \"s is changed\", \"until\": true, \"retries\": 1}], \"always\": [{\"block\": [{\"command\": {\"cmd\": {\"k\": 1}}}], \"always\": []}], \"when\": \"r.results < 3\"}], \"force_handlers\": true}]") ≡ verdict (refused (record { code = 1; line = 5; host = Some (codes "c") }))
unfolding reading
random_002234 = refl

random_002242 : found (codes "{\"g\": {\"hosts\": [\"b\", \"a\"]}, \"all\": {\"hosts\": [\"c\"], \"vars\": {\"inv\": [1, 2]}}, \"_meta\": {\"hostvars\": {\"a\": {\"opq\": 1.5, \"inv\": [\"x\"]}, \"b\": {\"k\": {\"z\": \"{{ q }}\"}}}}}") (codes "[{\"hosts\": \"b,a\", \"handlers\": [{\"setup\": null, \"when\": [\"not ((r.rc) or (hostvars[groups['g'][0]].y is changed))\", \"((s.hostname is skipped) and (r.results == 'a')) or (ansible_failed_result.stdout == 'a')\"], \"register\": \"s\", \"until\": \"s is succeeded\", \"retries\": 1, \"name\": \"h0\"}], \"tasks\": [{\"setup\": null}, {\"set_fact\": {\"s\": [\"a\"]}, \"when\": [\"'b' in ansible_play_batch\"], \"failed_when\": \"zz.changed\", \"notify\": \"h0\"}, {\"block\": [], \"rescue\": [{\"command\": {\"cmd\": \"{{ [1, 2] }}\"}, \"register\": \"s\", \"notify\": \"h0\"}], \"always\": [{\"set_fact\": {\"y\": \"{{ r.stdout_lines }}\"}}]}, {\"command\": \"x\", \"when\": [\"r is defined and r is succeeded\", \"r.rc is defined\"], \"register\": \"s\", \"failed_when\": \"s is failed\"}], \"strategy\": \"free\", \"force_handlers\": true}, {\"hosts\": \"a\", \"handlers\": [{\"loop\": \"{{ groups.all }}\", \"stat\": {\"path\": \"p\"}, \"changed_when\": \"zz is changed\", \"ignore_errors\": true, \"name\": \"h0\"}, {\"assert\": {\"that\": \"inventory_hostname in ansible_play_batch\"}, \"when\": \"inventory_hostname is skipped\", \"register\": \"r\", \"name\": \"h1\"}], \"tasks\": [{\"loop\": \"{{ r.stdout_lines }}\", \"setup\": null, \"when\": \"'a' in ansible_play_batch\", \"notify\": \"h1\"}, {\"setup\": null, \"register\": \"s\", \"until\": true, \"retries\": 2, \"ignore_errors\": true, \"notify\": \"h0\"}, {\"loop\": [1, 2], \"ping\": null, \"when\": \"('a' in hostvars['a'].r.rc) or (not (hostvars[groups['g'][0]].opq.stdout_lines is failed))\", \"notify\": \"h0\"}], \"force_handlers\": true}]") ≡ verdict (refused (record { code = 1; line = 3; host = Some (codes "b") }))
unfolding reading
random_002242 = refl

random_002244 : found (codes "{\"g\": {\"hosts\": [\"b\", \"a\"]}, \"all\": {\"hosts\": [\"c\"], \"vars\": {\"inv\": [1, 2]}}, \"_meta\": {\"hostvars\": {\"a\": {\"opq\": 1.5, \"inv\": [\"x\"]}, \"b\": {\"k\": {\"z\": \"{{ q }}\"}}}}}") (codes "[{\"hosts\": \"all\", \"tasks\": [{\"set_fact\": {\"y\": \"{{ hostvars['a'].r.rc }}\"}}], \"strategy\": \"free\", \"serial\": [1, 2], \"force_handlers\": true}, {\"hosts\": \"a\", \"tasks\": [{\"set_fact\": {\"y\": \"x{{ inventory_hostname in ansible_play_batch }}\"}, \"failed_when\": true, \"vars\": {\"v1\": \"{{ 1 }}\"}}, {\"loop\": \"{{ inv }}\", \"ping\": null, \"when\": [\"s is defined and s is not failed\"], \"register\": \"s\", \"failed_when\": \"s is failed\"}, {\"debug\": {\"msg\": null}, \"when\": \"r.rc < 3\", \"vars\": {\"v2\": {\"k\": 1}}}, {\"set_fact\": {\"y\": [\"{{ inv | length }}\"]}, \"when\": \"r.rc is skipped\", \"register\": \"s\"}]}]") ≡ verdict (refused (record { code = 2; line = 2; host = Some (codes "c") }))
unfolding reading
random_002244 = refl

random_002245 : found_with (codes "[{\"name\": \"probe\", \"params\": {\"n\": {\"kind\": \"int\", \"required\": false}, \"l\": {\"kind\": {\"list\": \"text\", \"max\": 3}, \"required\": false}}, \"ok\": {\"changed\": {\"kind\": \"bool\", \"always\": true}, \"v\": {\"kind\": \"int\", \"always\": false}, \"rows\": {\"kind\": {\"list\": \"text\", \"max\": 2}, \"always\": true}, \"deep\": {\"kind\": {\"rec\": {\"a\": {\"kind\": \"text\", \"always\": true}, \"b\": {\"kind\": \"bool\", \"always\": false}}}, \"always\": false}}, \"failure\": {\"changed\": {\"kind\": \"bool\", \"always\": true}, \"msg\": {\"kind\": \"text\", \"always\": true}, \"v\": {\"kind\": \"text\", \"always\": false}, \"why\": {\"kind\": \"int\", \"always\": true}}}, {\"name\": \"odd\", \"params\": {}, \"ok\": {\"changed\": {\"kind\": \"bool\", \"always\": true}, \"msg\": {\"kind\": \"int\", \"always\": false}}, \"failure\": {\"changed\": {\"kind\": \"bool\", \"always\": true}, \"msg\": {\"kind\": \"text\", \"always\": true}}}]") (codes "{\"all\": {\"hosts\": [\"a\", \"b\"], \"vars\": {}}, \"g2\": {\"hosts\": [\"a\", \"b\"], \"vars\": {\"s1\": {\"f\": \"x\", \"g\": {\"f\": true, \"g\": -1}}}}, \"_meta\": {\"hostvars\": {\"a\": {\"s1\": \"x\", \"op\": 1.5}, \"b\": {\"s1\": {\"f\": {\"f\": -1, \"g\": \"\"}}}}}}") (codes "[{\"hosts\": \"a\", \"tasks\": [{\"meta\": \"flush_handlers\"}, {\"ping\": null, \"register\": \"r2\"}, {\"meta\": \"flush_handlers\"}, {\"command\": {\"cmd\": \"x\"}, \"failed_when\": \"inventory_hostname == 'a'\"}], \"handlers\": [{\"probe\": {}, \"register\": \"r1\", \"name\": \"h0\", \"listen\": \"t\", \"notify\": \"h1\"}, {\"command\": {\"cmd\": \"x\"}, \"register\": \"r1\", \"until\": \"r1.stderr is defined and r1.stderr == 'a'\", \"retries\": 3, \"name\": \"h1\", \"notify\": \"h2\"}, {\"command\": {\"cmd\": \"x\"}, \"failed_when\": \"inventory_hostname == 'a'\", \"name\": \"h2\"}]}]") ≡ verdict (accepted 20)
unfolding reading
random_002245 = refl

random_002250 : found (codes "{\"g\": {\"hosts\": [\"b\", \"a\"]}, \"all\": {\"hosts\": [\"c\"], \"vars\": {\"inv\": [1, 2]}}, \"_meta\": {\"hostvars\": {\"a\": {\"opq\": 1.5, \"inv\": [\"x\"]}, \"b\": {\"k\": {\"z\": \"{{ q }}\"}}}}}") (codes "[{\"hosts\": \"a\", \"handlers\": [{\"setup\": null, \"when\": [\"s is defined and s is not failed\"], \"register\": \"r\", \"failed_when\": false, \"name\": \"h0\"}, {\"stat\": {\"path\": \"p\"}, \"failed_when\": true, \"until\": \"zz is succeeded\", \"retries\": 1, \"name\": \"h1\"}], \"pre_tasks\": [{\"stat\": {\"path\": \"p\"}, \"register\": \"r\", \"until\": true, \"retries\": 1}, {\"block\": [], \"rescue\": [], \"always\": [], \"when\": \"hostvars[inventory_hostname].inv\"}, {\"stat\": {\"path\": \"p\"}, \"when\": [\"hostvars['a'].inv is undefined\", \"not ((s.changed == 'a') or (s.changed is undefined))\"], \"until\": \"zz is succeeded\", \"retries\": 1, \"notify\": \"h0\"}], \"tasks\": [{\"block\": [], \"always\": [{\"fail\": {\"msg\": \"m\"}, \"when\": [\"r.rc is defined\"], \"changed_when\": \"zz is changed\", \"ignore_errors\": true, \"vars\": {\"v2\": \"{{ (r.changed is succeeded) or (inventory_hostname == 1) }}\"}}], \"when\": \"(inventory_hostname.k is succeeded) and ((hostvars[inventory_hostname].inv is changed) or (zz.rc is skipped))\"}], \"post_tasks\": [{\"block\": []}, {\"loop\": \"{{ inv }}\", \"set_fact\": {\"s\": \"{{ r.failed }}\"}, \"register\": \"s\"}, {\"block\": [{\"set_fact\": {\"y\": [1, 2]}, \"register\": \"s\", \"ignore_errors\": true}, {\"ping\": null, \"when\": [\"'b' in ansible_play_batch\", \"y is defined\"], \"register\": \"r\"}], \"rescue\": []}], \"gather_facts\": true}]") ≡ verdict (refused (record { code = 1; line = 5; host = Some (codes "a") }))
unfolding reading
random_002250 = refl

random_002254 : found (codes "{\"g\": {\"hosts\": [\"b\", \"a\"]}, \"all\": {\"hosts\": [\"c\"], \"vars\": {\"inv\": [1, 2]}}, \"_meta\": {\"hostvars\": {\"a\": {\"opq\": 1.5, \"inv\": [\"x\"]}, \"b\": {\"k\": {\"z\": \"{{ q }}\"}}}}}") (codes "[{\"hosts\": \"b,a\", \"tasks\": [{\"block\": [{\"block\": [{\"loop\": [1, 2], \"set_fact\": {\"s\": null}}, {\"ping\": null}], \"always\": [{\"command\": {\"cmd\": null}, \"register\": \"r\"}]}], \"always\": []}, {\"setup\": null, \"when\": [\"r is defined\"], \"register\": \"s\"}], \"force_handlers\": true}]") ≡ verdict (refused (record { code = 4; line = 6; host = Some (codes "b") }))
unfolding reading
random_002254 = refl

random_002262 : found (codes "{\"g\": {\"hosts\": [\"b\", \"a\"]}, \"all\": {\"hosts\": [\"c\"], \"vars\": {\"inv\": [1, 2]}}, \"_meta\": {\"hostvars\": {\"a\": {\"opq\": 1.5, \"inv\": [\"x\"]}, \"b\": {\"k\": {\"z\": \"{{ q }}\"}}}}}") (codes "[{\"hosts\": \"g\", \"handlers\": [{\"setup\": null, \"when\": \"'a' in hostvars['a'].r.changed\", \"register\": \"s\", \"name\": \"h0\"}, {\"fail\": {\"msg\": \"m\"}, \"name\": \"h1\"}], \"tasks\": [{\"debug\": {\"msg\": \"x{{ item in ansible_play_batch }}\"}, \"register\": \"s\"}, {\"block\": [], \"rescue\": [{\"loop\": [\"a\", \"b\"], \"debug\": {\"msg\": [1]}, \"notify\": \"h1\"}, {\"loop\": \"{{ r.stdout_lines }}\", \"set_fact\": {\"s\": \"{{ inv }}\"}}]}, {\"block\": [], \"rescue\": [{\"setup\": null, \"when\": [\"(r.os_family is undefined) or (hostvars['a'].inv < 3)\", \"ansible_play_batch == 'a'\"], \"register\": \"s\", \"ignore_errors\": true, \"notify\": \"h0\"}]}, {\"command\": \"x\", \"register\": \"r\", \"ignore_errors\": true}], \"strategy\": \"free\"}]") ≡ verdict (refused (record { code = 1; line = 2; host = Some (codes "b") }))
unfolding reading
random_002262 = refl

random_002276 : found (codes "{\"g\": {\"hosts\": [\"b\", \"a\"]}, \"all\": {\"hosts\": [\"c\"], \"vars\": {\"inv\": [1, 2]}}, \"_meta\": {\"hostvars\": {\"a\": {\"opq\": 1.5, \"inv\": [\"x\"]}, \"b\": {\"k\": {\"z\": \"{{ q }}\"}}}}}") (codes "[{\"hosts\": \"all\", \"tasks\": [{\"block\": [{\"stat\": {\"path\": \"p\"}, \"when\": [\"(r.changed is undefined) or (item in ansible_play_batch)\", \"'a' in ansible_play_batch\"]}, {\"set_fact\": {\"y\": {\"k\": {\"k\": {\"k\": \"{{ inv.os_family is not defined }}\"}}}}, \"ignore_errors\": false}], \"rescue\": [{\"debug\": {\"msg\": {\"k\": {\"k\": \"{{ v1.results }}\"}}}}]}, {\"block\": [{\"loop\": \"{{ inv }}\", \"stat\": {\"path\": \"p\"}, \"when\": [\"r is not skipped\"], \"register\": \"r\"}], \"rescue\": [{\"stat\": {\"path\": \"p\"}, \"when\": \"item in ansible_play_batch\", \"failed_when\": \"zz.changed\", \"ignore_errors\": true}, {\"loop\": [1, 2], \"command\": \"x\"}], \"when\": \"(not (hostvars['b'].y is failed)) and ((v1 is not defined) or (s.changed is not defined))\"}, {\"ping\": null, \"when\": \"(inventory_hostname is not defined) and (y.stdout is defined)\", \"register\": \"r\", \"until\": \"r.changed\", \"retries\": 2}], \"gather_facts\": true}]") ≡ verdict (refused (record { code = 1; line = 4; host = Some (codes "c") }))
unfolding reading
random_002276 = refl

random_002281 : found_with (codes "[{\"name\": \"probe\", \"params\": {\"n\": {\"kind\": \"int\", \"required\": false}, \"l\": {\"kind\": {\"list\": \"text\", \"max\": 3}, \"required\": false}}, \"ok\": {\"changed\": {\"kind\": \"bool\", \"always\": true}, \"v\": {\"kind\": \"int\", \"always\": false}, \"rows\": {\"kind\": {\"list\": \"text\", \"max\": 2}, \"always\": true}, \"deep\": {\"kind\": {\"rec\": {\"a\": {\"kind\": \"text\", \"always\": true}, \"b\": {\"kind\": \"bool\", \"always\": false}}}, \"always\": false}}, \"failure\": {\"changed\": {\"kind\": \"bool\", \"always\": true}, \"msg\": {\"kind\": \"text\", \"always\": true}, \"v\": {\"kind\": \"text\", \"always\": false}, \"why\": {\"kind\": \"int\", \"always\": true}}}, {\"name\": \"odd\", \"params\": {}, \"ok\": {\"changed\": {\"kind\": \"bool\", \"always\": true}, \"msg\": {\"kind\": \"int\", \"always\": false}}, \"failure\": {\"changed\": {\"kind\": \"bool\", \"always\": true}, \"msg\": {\"kind\": \"text\", \"always\": true}}}]") (codes "{\"all\": {\"hosts\": [\"a\", \"b\", \"c\"], \"vars\": {\"i2\": \"\", \"op\": 1.5}}, \"g1\": {\"hosts\": [\"a\"], \"vars\": {\"i2\": [false, \"a\"], \"op\": 1.5}}, \"_meta\": {\"hostvars\": {\"a\": {\"s1\": 1}, \"b\": {}, \"c\": {}}}}") (codes "[{\"hosts\": \"g1\", \"tasks\": [{\"when\": \"r3 is succeeded\", \"block\": [{\"ping\": null, \"changed_when\": true}, {\"set_fact\": {\"s2\": {\"f\": \"{{ op.g | default([]) }}\", \"rc\": 1}}, \"failed_when\": \"inventory_hostname == 'a'\", \"ignore_errors\": true}]}, {\"debug\": {\"msg\": \"x{{ s2 }}\"}, \"when\": \"r2 is failed\", \"register\": \"r2\"}]}, {\"hosts\": \"all\", \"strategy\": \"free\", \"tasks\": [{\"ping\": null, \"until\": \"inventory_hostname == 'a'\", \"ignore_errors\": true, \"notify\": \"h0\", \"changed_when\": true}], \"handlers\": [{\"set_fact\": {\"s1\": 1}, \"register\": \"r3\", \"name\": \"h0\", \"listen\": \"t\"}, {\"fail\": {\"msg\": \"m\"}, \"register\": \"r3\", \"name\": \"h1\", \"notify\": \"h2\"}, {\"assert\": {\"that\": [\"r3.skipped | default(false)\"]}, \"when\": \"'c' not in ansible_play_batch\", \"name\": \"h2\", \"listen\": \"t\"}]}]") ≡ verdict (refused (record { code = 1; line = 3; host = Some (codes "a") }))
unfolding reading
random_002281 = refl

random_002296 : found (codes "{\"g\": {\"hosts\": [\"b\", \"a\"]}, \"all\": {\"hosts\": [\"c\"], \"vars\": {\"inv\": [1, 2]}}, \"_meta\": {\"hostvars\": {\"a\": {\"opq\": 1.5, \"inv\": [\"x\"]}, \"b\": {\"k\": {\"z\": \"{{ q }}\"}}}}}") (codes "[{\"hosts\": \"b,a\", \"pre_tasks\": [{\"assert\": {\"that\": [\"s.stdout == 'a'\", \"inventory_hostname in ansible_play_batch\"]}, \"ignore_errors\": true}, {\"stat\": {\"path\": \"p\"}, \"register\": \"s\", \"failed_when\": true, \"ignore_errors\": true}], \"tasks\": [{\"assert\": {\"that\": \"ansible_facts.os_family is defined\"}, \"when\": [\"s is defined and s is not failed\", \"r.rc is defined\"], \"register\": \"r\", \"ignore_errors\": true}, {\"ping\": null, \"vars\": {\"v1\": \"{{ hostvars['a'].opq.hostname }}\"}}, {\"fail\": null, \"when\": \"r.rc is undefined\", \"register\": \"s\"}], \"strategy\": \"free\", \"serial\": \"50%\", \"force_handlers\": true}]") ≡ verdict (refused (record { code = 1; line = 2; host = Some (codes "b") }))
unfolding reading
random_002296 = refl

random_002299 : found_with (codes "[{\"name\": \"probe\", \"params\": {\"n\": {\"kind\": \"int\", \"required\": false}, \"l\": {\"kind\": {\"list\": \"text\", \"max\": 3}, \"required\": false}}, \"ok\": {\"changed\": {\"kind\": \"bool\", \"always\": true}, \"v\": {\"kind\": \"int\", \"always\": false}, \"rows\": {\"kind\": {\"list\": \"text\", \"max\": 2}, \"always\": true}, \"deep\": {\"kind\": {\"rec\": {\"a\": {\"kind\": \"text\", \"always\": true}, \"b\": {\"kind\": \"bool\", \"always\": false}}}, \"always\": false}}, \"failure\": {\"changed\": {\"kind\": \"bool\", \"always\": true}, \"msg\": {\"kind\": \"text\", \"always\": true}, \"v\": {\"kind\": \"text\", \"always\": false}, \"why\": {\"kind\": \"int\", \"always\": true}}}, {\"name\": \"odd\", \"params\": {}, \"ok\": {\"changed\": {\"kind\": \"bool\", \"always\": true}, \"msg\": {\"kind\": \"int\", \"always\": false}}, \"failure\": {\"changed\": {\"kind\": \"bool\", \"always\": true}, \"msg\": {\"kind\": \"text\", \"always\": true}}}]") (codes "{\"all\": {\"hosts\": [\"a\", \"b\"], \"vars\": {\"op\": 1.5}}, \"g1\": {\"hosts\": [\"a\", \"b\"], \"vars\": {}}, \"g2\": {\"hosts\": [\"a\"], \"vars\": {\"s1\": false}}, \"_meta\": {\"hostvars\": {\"a\": {\"s1\": [\"t\", \"a\"]}, \"b\": {\"op\": 1.5}}}}") (codes "[{\"hosts\": \"all\", \"strategy\": \"free\", \"tasks\": [{\"command\": {\"cmd\": \"x\"}, \"changed_when\": \"inventory_hostname == 'a'\", \"notify\": \"h2\"}, {\"set_fact\": {\"s1\": \"t\"}, \"register\": \"r3\", \"ignore_errors\": false, \"notify\": \"t\"}, {\"set_fact\": {\"s1\": \"t\"}, \"register\": \"r2\", \"notify\": \"h0\"}, {\"vars\": {\"v3\": \"{{ (hostvars['a'].r1) == (hostvars['a'].op) }}\"}, \"debug\": {\"msg\": \"x{{ r3.skip_reason | default(s1) }}\"}, \"register\": \"r2\", \"notify\": \"t\"}], \"handlers\": [{\"probe\": null, \"register\": \"r1\", \"name\": \"h0\", \"listen\": \"t\"}, {\"loop\": \"{{ ansible_play_batch }}\", \"set_fact\": {\"s1\": 1}, \"name\": \"h1\", \"notify\": \"h2\"}, {\"vars\": {}, \"command\": {\"cmd\": \"x\"}, \"register\": \"r1\", \"failed_when\": true, \"until\": \"r1.stderr == 'a'\", \"name\": \"h2\"}]}]") ≡ verdict (accepted 12)
unfolding reading
random_002299 = refl

random_002302 : found (codes "{\"g\": {\"hosts\": [\"b\", \"a\"]}, \"all\": {\"hosts\": [\"c\"], \"vars\": {\"inv\": [1, 2]}}, \"_meta\": {\"hostvars\": {\"a\": {\"opq\": 1.5, \"inv\": [\"x\"]}, \"b\": {\"k\": {\"z\": \"{{ q }}\"}}}}}") (codes "[{\"hosts\": \"all\", \"tasks\": [{\"block\": [{\"command\": \"x\", \"when\": [\"y is defined\"], \"vars\": {\"v1\": \"{{ group_names | length }}\"}}], \"rescue\": [{\"set_fact\": {\"s\": {\"k\": \"{{ 1 }}\"}}}, {\"command\": {\"cmd\": \"{{ (r.stat.isdir is not defined) or (hostvars['a'].opq.stdout_lines is skipped) }}\"}, \"changed_when\": \"zz is changed\", \"vars\": {\"v1\": \"{{ hostvars['a'].r.rc | join(',') }}\"}}], \"always\": [], \"when\": \"ansible_hostname.stdout is skipped\"}, {\"loop\": \"{{ groups['g'] }}\", \"debug\": {\"msg\": {\"k\": {\"k\": \"{{ [1, 2] }}\"}}}, \"when\": \"item in ansible_play_batch\", \"changed_when\": true, \"vars\": {\"v2\": \"{{ not (group_names is not defined) }}\"}}, {\"loop\": \"{{ ansible_play_batch }}\", \"debug\": {\"msg\": \"x{{ none }}\"}, \"when\": \"'a' in ansible_play_batch\", \"register\": \"s\", \"changed_when\": true}, {\"block\": [{\"assert\": {\"that\": \"hostvars[item].ansible_hostname.hostname is changed\"}}, {\"command\": {\"cmd\": \"{{ r.results | default([]) }}\"}, \"when\": [\"r is not skipped\", \"hostvars['b'].y is defined\"], \"register\": \"r\"}], \"when\": \"not (r.rc is defined)\"}], \"strategy\": \"free\", \"force_handlers\": true}]") ≡ verdict (refused (record { code = 1; line = 3; host = Some (codes "c") }))
unfolding reading
random_002302 = refl

random_002304 : found (codes "{\"g\": {\"hosts\": [\"b\", \"a\"]}, \"all\": {\"hosts\": [\"c\"], \"vars\": {\"inv\": [1, 2]}}, \"_meta\": {\"hostvars\": {\"a\": {\"opq\": 1.5, \"inv\": [\"x\"]}, \"b\": {\"k\": {\"z\": \"{{ q }}\"}}}}}") (codes "[{\"hosts\": \"g\", \"handlers\": [{\"command\": {\"cmd\": 1}, \"register\": \"r\", \"name\": \"h0\"}, {\"command\": {\"cmd\": \"{{ group_names.stdout is changed }}\"}, \"name\": \"h1\"}], \"tasks\": [{\"debug\": {\"msg\": \"{{ hostvars['b'].y }}\"}, \"when\": [\"hostvars['a'].r.rc is defined\"], \"register\": \"r\"}, {\"command\": \"x\", \"when\": [\"r.rc is defined\"], \"until\": false, \"retries\": 1}], \"strategy\": \"free\", \"serial\": \"50%\"}, {\"hosts\": \"all\", \"pre_tasks\": [{\"command\": {\"cmd\": \"{{ y | length }}\"}, \"vars\": {\"v1\": \"{{ opq.k }}\"}}, {\"debug\": {\"msg\": {\"k\": \"{{ r.rc }}\"}}, \"register\": \"r\", \"changed_when\": true}, {\"loop\": \"{{ r.results }}\", \"stat\": {\"path\": \"p\"}}], \"tasks\": [{\"block\": [], \"rescue\": [{\"ping\": null, \"when\": [\"s is defined and s is not failed\"], \"register\": \"r\", \"ignore_errors\": false}, {\"block\": [{\"loop\": [1, 2], \"set_fact\": {\"y\": \"a\"}, \"register\": \"s\", \"changed_when\": false}, {\"loop\": [1, 2], \"setup\": null, \"when\": [\"hostvars['b'].y is defined\", \"hostvars[item].y is defined\"], \"register\": \"r\"}], \"rescue\": [{\"fail\": {\"msg\": \"m\"}, \"register\": \"r\"}], \"always\": []}], \"ignore_errors\": true}, {\"set_fact\": {\"s\": \"{{ hostvars[inventory_hostname].inv }}\"}}, {\"block\": [], \"rescue\": []}, {\"set_fact\": {\"y\": [1, 2]}, \"register\": \"s\"}], \"strategy\": \"free\", \"serial\": [1, 2], \"vars\": {\"v1\": \"{{ 'a' }}\"}}]") ≡ verdict (refused (record { code = 2; line = 2; host = Some (codes "b") }))
unfolding reading
random_002304 = refl

random_002308 : found (codes "{\"g\": {\"hosts\": [\"b\", \"a\"]}, \"all\": {\"hosts\": [\"c\"], \"vars\": {\"inv\": [1, 2]}}, \"_meta\": {\"hostvars\": {\"a\": {\"opq\": 1.5, \"inv\": [\"x\"]}, \"b\": {\"k\": {\"z\": \"{{ q }}\"}}}}}") (codes "[{\"hosts\": \"all\", \"tasks\": [{\"command\": {\"cmd\": {\"k\": \"{{ 1 }}\"}}, \"when\": [\"r is defined\", \"r is not skipped\"], \"ignore_errors\": true}, {\"set_fact\": {\"s\": null}, \"when\": [\"r is defined and r is succeeded\", \"y is defined\"]}], \"vars\": {\"v1\": \"{{ item in ansible_play_batch }}\"}}]") ≡ verdict (refused (record { code = 4; line = 2; host = Some (codes "c") }))
unfolding reading
random_002308 = refl

random_002318 : found (codes "{\"g\": {\"hosts\": [\"b\", \"a\"]}, \"all\": {\"hosts\": [\"c\"], \"vars\": {\"inv\": [1, 2]}}, \"_meta\": {\"hostvars\": {\"a\": {\"opq\": 1.5, \"inv\": [\"x\"]}, \"b\": {\"k\": {\"z\": \"{{ q }}\"}}}}}") (codes "[{\"hosts\": \"g\", \"tasks\": [{\"ping\": null, \"vars\": {\"v1\": \"{{ ansible_facts.k }}\"}}], \"strategy\": \"free\", \"serial\": \"50%\"}]") ≡ verdict (accepted 2)
unfolding reading
random_002318 = refl

random_002320 : found (codes "{\"g\": {\"hosts\": [\"b\", \"a\"]}, \"all\": {\"hosts\": [\"c\"], \"vars\": {\"inv\": [1, 2]}}, \"_meta\": {\"hostvars\": {\"a\": {\"opq\": 1.5, \"inv\": [\"x\"]}, \"b\": {\"k\": {\"z\": \"{{ q }}\"}}}}}") (codes "[{\"hosts\": \"a\", \"handlers\": [{\"fail\": {\"msg\": \"m\"}, \"failed_when\": true, \"name\": \"h0\"}], \"tasks\": [{\"block\": []}], \"strategy\": \"free\", \"vars\": {\"v1\": \"{{ not (hostvars['a'].r.rc is changed) }}\"}}]") ≡ verdict (accepted 0)
unfolding reading
random_002320 = refl

random_002322 : found (codes "{\"g\": {\"hosts\": [\"b\", \"a\"]}, \"all\": {\"hosts\": [\"c\"], \"vars\": {\"inv\": [1, 2]}}, \"_meta\": {\"hostvars\": {\"a\": {\"opq\": 1.5, \"inv\": [\"x\"]}, \"b\": {\"k\": {\"z\": \"{{ q }}\"}}}}}") (codes "[{\"hosts\": \"all\", \"handlers\": [{\"command\": {\"cmd\": \"{{ y }}\"}, \"register\": \"r\", \"name\": \"h0\"}, {\"command\": \"x\", \"when\": [\"hostvars['a'].r.rc is defined\"], \"register\": \"s\", \"changed_when\": true, \"vars\": {\"v1\": \"x{{ inventory_hostname | default(1) }}\"}, \"name\": \"h1\"}], \"tasks\": [{\"block\": [{\"stat\": {\"path\": \"p\"}, \"when\": \"(hostvars[groups['g'][0]].y is not defined) or (groups.g is not skipped)\", \"register\": \"s\", \"ignore_errors\": true}, {\"set_fact\": {\"y\": [1, 2]}, \"when\": [\"r is defined\", \"hostvars['b'].y is defined\"], \"register\": \"r\"}], \"always\": [{\"ping\": null, \"when\": [\"hostvars['a'].r.rc is defined\", \"not (r is undefined or r is failed)\"], \"failed_when\": \"zz.changed\", \"ignore_errors\": true}]}, {\"setup\": null, \"when\": [\"hostvars['a'].r.rc is defined\"], \"ignore_errors\": true}], \"serial\": 1, \"vars\": {\"v1\": \"{{ inventory_hostname }}\"}}, {\"hosts\": \"all\", \"pre_tasks\": [{\"block\": [], \"rescue\": [{\"command\": {\"cmd\": {\"k\": 1}}}, {\"set_fact\": {\"y\": [[\"{{ hostvars[inventory_hostname].r.hostname | join(',') }}\"]]}}], \"always\": [], \"when\": \"opq.hostname is changed\"}, {\"assert\": {\"that\": \"r.rc is skipped\"}, \"register\": \"r\", \"failed_when\": \"r.changed\", \"ignore_errors\": true}], \"tasks\": [{\"ping\": null, \"when\": [\"'a' in ansible_play_batch\"], \"changed_when\": false}, {\"loop\": \"{{ groups['g'] }}\", \"command\": \"x\", \"failed_when\": \"zz is failed\"}, {\"command\": \"x\", \"register\": \"r\", \"ignore_errors\": true}], \"strategy\": \"free\", \"force_handlers\": true, \"vars\": {\"v1\": null}}]") ≡ verdict (refused (record { code = 4; line = 3; host = Some (codes "c") }))
unfolding reading
random_002322 = refl

random_002328 : found (codes "{\"g\": {\"hosts\": [\"b\", \"a\"]}, \"all\": {\"hosts\": [\"c\"], \"vars\": {\"inv\": [1, 2]}}, \"_meta\": {\"hostvars\": {\"a\": {\"opq\": 1.5, \"inv\": [\"x\"]}, \"b\": {\"k\": {\"z\": \"{{ q }}\"}}}}}") (codes "[{\"hosts\": \"b,a\", \"handlers\": [{\"set_fact\": {\"s\": true}, \"name\": \"h0\"}, {\"command\": {\"cmd\": \"x{{ inv | length }}\"}, \"when\": [\"hostvars['a'].r.rc is defined\", \"r.rc is defined\"], \"name\": \"h1\"}], \"tasks\": [{\"command\": {\"cmd\": \"{{ group_names | length }}\"}, \"when\": [\"r.rc is defined\"], \"register\": \"r\", \"notify\": \"h1\"}, {\"meta\": \"flush_handlers\"}, {\"meta\": \"flush_handlers\"}, {\"set_fact\": {\"y\": \"{{ ansible_hostname.stdout_lines | join(',') }}\"}, \"when\": [\"(not ('a' in inventory_hostname.stat.isdir)) or ('a' in item.os_family)\", \"not ('a' in opq.k)\"], \"register\": \"r\", \"failed_when\": false, \"notify\": \"h0\"}], \"force_handlers\": true}]") ≡ verdict (refused (record { code = 4; line = 2; host = Some (codes "b") }))
unfolding reading
random_002328 = refl

random_002335 : found_with (codes "[{\"name\": \"probe\", \"params\": {\"n\": {\"kind\": \"int\", \"required\": false}, \"l\": {\"kind\": {\"list\": \"text\", \"max\": 3}, \"required\": false}}, \"ok\": {\"changed\": {\"kind\": \"bool\", \"always\": true}, \"v\": {\"kind\": \"int\", \"always\": false}, \"rows\": {\"kind\": {\"list\": \"text\", \"max\": 2}, \"always\": true}, \"deep\": {\"kind\": {\"rec\": {\"a\": {\"kind\": \"text\", \"always\": true}, \"b\": {\"kind\": \"bool\", \"always\": false}}}, \"always\": false}}, \"failure\": {\"changed\": {\"kind\": \"bool\", \"always\": true}, \"msg\": {\"kind\": \"text\", \"always\": true}, \"v\": {\"kind\": \"text\", \"always\": false}, \"why\": {\"kind\": \"int\", \"always\": true}}}, {\"name\": \"odd\", \"params\": {}, \"ok\": {\"changed\": {\"kind\": \"bool\", \"always\": true}, \"msg\": {\"kind\": \"int\", \"always\": false}}, \"failure\": {\"changed\": {\"kind\": \"bool\", \"always\": true}, \"msg\": {\"kind\": \"text\", \"always\": true}}}]") (codes "{\"all\": {\"hosts\": [\"a\", \"b\", \"c\"], \"vars\": {\"i2\": {\"f\": {\"f\": null, \"g\": 1}, \"g\": \"b\"}, \"op\": 1.5}}, \"g1\": {\"hosts\": [\"b\", \"c\"], \"vars\": {\"i1\": 1}, \"children\": [\"g2\"]}, \"g2\": {\"hosts\": [\"a\", \"c\"], \"vars\": {}}, \"_meta\": {\"hostvars\": {\"a\": {\"s1\": \"\"}, \"b\": {\"i2\": \"a\"}, \"c\": {\"i1\": true, \"op\": 1.5}}}}") (codes "[{\"hosts\": [\"b\", \"all\"], \"vars\": {\"v3\": \"x{{ r3 }}\"}, \"strategy\": \"free\", \"gather_facts\": true, \"tasks\": [{\"block\": []}, {\"vars\": {\"v1\": \"{{ [hostvars['b'].r2.changed, 'q'] }}\", \"v2\": \"{{ (r3) == (ansible_facts) }}\"}, \"command\": {\"cmd\": \"x {{ r3.failed }}\"}, \"when\": [\"r3 is defined\", \"r3 is failed\"], \"register\": \"r3\", \"changed_when\": true}]}, {\"hosts\": [\"c\", \"all\"], \"strategy\": \"free\", \"serial\": 2, \"tasks\": [{\"ping\": null, \"register\": \"r3\"}], \"force_handlers\": true}, {\"hosts\": \"all\", \"vars\": {\"v2\": \"{{ (hostvars['a'].r2.changed) == (r3.changed) }}\", \"v3\": \"{{ [hostvars['c'].r1.failed, 1] }}\"}, \"tasks\": [{\"ping\": null, \"register\": \"r1\", \"ignore_errors\": false}, {\"probe\": null, \"register\": \"r3\"}, {\"vars\": {\"v2\": \"{{ r3.v }}\"}, \"command\": {\"cmd\": \"x\"}}], \"force_handlers\": true}]") ≡ verdict (accepted 18)
unfolding reading
random_002335 = refl

random_002336 : found (codes "{\"g\": {\"hosts\": [\"b\", \"a\"]}, \"all\": {\"hosts\": [\"c\"], \"vars\": {\"inv\": [1, 2]}}, \"_meta\": {\"hostvars\": {\"a\": {\"opq\": 1.5, \"inv\": [\"x\"]}, \"b\": {\"k\": {\"z\": \"{{ q }}\"}}}}}") (codes "[{\"hosts\": \"a\", \"handlers\": [{\"fail\": null, \"vars\": {\"v1\": {\"k\": \"x{{ inv.stat.isdir }}\"}}, \"name\": \"h0\"}, {\"loop\": \"{{ ansible_play_batch }}\", \"ping\": null, \"when\": [\"s is defined and s is not failed\"], \"name\": \"h1\"}], \"tasks\": [{\"assert\": {\"that\": [\"ansible_play_batch < 3\", \"((y.stdout is skipped) or (r.stdout is failed)) or (ansible_failed_result.k < 3)\"]}, \"when\": [\"'a' in ansible_play_batch\"], \"notify\": \"h1\"}], \"gather_facts\": true, \"vars\": {\"v1\": \"{{ ansible_facts.msg | length }}\"}}]") ≡ verdict (refused (record { code = 4; line = 3; host = Some (codes "a") }))
unfolding reading
random_002336 = refl

random_002350 : found (codes "{\"g\": {\"hosts\": [\"b\", \"a\"]}, \"all\": {\"hosts\": [\"c\"], \"vars\": {\"inv\": [1, 2]}}, \"_meta\": {\"hostvars\": {\"a\": {\"opq\": 1.5, \"inv\": [\"x\"]}, \"b\": {\"k\": {\"z\": \"{{ q }}\"}}}}}") (codes "[{\"hosts\": \"b,a\", \"tasks\": [{\"meta\": \"flush_handlers\"}, {\"block\": [], \"ignore_errors\": false}], \"post_tasks\": [{\"loop\": \"{{ ansible_play_batch }}\", \"assert\": {\"that\": [\"(ansible_failed_result.results is succeeded) and (item in ansible_play_batch)\", \"(not (hostvars[item].r.changed is skipped)) or (inventory_hostname in ansible_play_batch)\"]}, \"when\": [\"y is defined\"], \"register\": \"r\"}, {\"block\": []}, {\"block\": [], \"always\": [], \"when\": [\"not (groups['g'][0] in ansible_play_batch)\", \"not (not (hostvars[item].s.results is not skipped))\"]}, {\"ping\": null, \"when\": [\"not (r is undefined or r is failed)\"], \"changed_when\": \"zz is changed\", \"vars\": {\"v1\": null}}], \"serial\": 1, \"vars\": {\"v1\": \"{{ groups.g }}\"}}, {\"hosts\": \"a\", \"handlers\": [{\"debug\": {\"msg\": \"{{ hostvars['a'].r.rc | length }}\"}, \"when\": [\"'b' in ansible_play_batch\"], \"name\": \"h0\"}], \"tasks\": [{\"loop\": \"{{ ansible_play_batch }}\", \"set_fact\": {\"s\": \"x{{ item | default('d') }}\"}, \"register\": \"s\", \"failed_when\": \"s is failed\", \"notify\": \"h0\"}, {\"stat\": {\"path\": \"p\"}, \"register\": \"s\", \"ignore_errors\": true, \"notify\": \"h0\"}], \"post_tasks\": [{\"meta\": \"flush_handlers\"}], \"gather_facts\": true}]") ≡ verdict (refused (record { code = 1; line = 4; host = Some (codes "b") }))
unfolding reading
random_002350 = refl

random_002352 : found (codes "{\"g\": {\"hosts\": [\"b\", \"a\"]}, \"all\": {\"hosts\": [\"c\"], \"vars\": {\"inv\": [1, 2]}}, \"_meta\": {\"hostvars\": {\"a\": {\"opq\": 1.5, \"inv\": [\"x\"]}, \"b\": {\"k\": {\"z\": \"{{ q }}\"}}}}}") (codes "[{\"hosts\": \"all\", \"handlers\": [{\"ping\": null, \"when\": [\"r is defined\", \"r is defined and r is succeeded\"], \"failed_when\": false, \"name\": \"h0\"}], \"tasks\": [{\"command\": {\"cmd\": \"{{ hostvars[inventory_hostname].inv | join(',') }}\"}, \"when\": [\"y is defined\"], \"register\": \"s\", \"failed_when\": false, \"notify\": \"h0\", \"vars\": {\"v1\": \"{{ hostvars[item].y.k }}\"}}, {\"assert\": {\"that\": \"(r.os_family is failed) and ('a' in ansible_play_batch)\"}, \"when\": \"groups['g'][0] in ansible_play_batch\", \"notify\": \"h0\"}, {\"command\": \"x\"}, {\"block\": [{\"block\": [{\"setup\": null, \"when\": [\"r.rc is defined\"], \"register\": \"s\", \"changed_when\": false, \"ignore_errors\": true}], \"rescue\": [], \"always\": []}, {\"fail\": {\"msg\": \"m\"}, \"register\": \"s\"}]}], \"vars\": {\"v1\": \"{{ hostvars['a'].r.rc }}\"}}]") ≡ verdict (refused (record { code = 1; line = 3; host = Some (codes "c") }))
unfolding reading
random_002352 = refl

random_002359 : found_with (codes "[{\"name\": \"probe\", \"params\": {\"n\": {\"kind\": \"int\", \"required\": false}, \"l\": {\"kind\": {\"list\": \"text\", \"max\": 3}, \"required\": false}}, \"ok\": {\"changed\": {\"kind\": \"bool\", \"always\": true}, \"v\": {\"kind\": \"int\", \"always\": false}, \"rows\": {\"kind\": {\"list\": \"text\", \"max\": 2}, \"always\": true}, \"deep\": {\"kind\": {\"rec\": {\"a\": {\"kind\": \"text\", \"always\": true}, \"b\": {\"kind\": \"bool\", \"always\": false}}}, \"always\": false}}, \"failure\": {\"changed\": {\"kind\": \"bool\", \"always\": true}, \"msg\": {\"kind\": \"text\", \"always\": true}, \"v\": {\"kind\": \"text\", \"always\": false}, \"why\": {\"kind\": \"int\", \"always\": true}}}, {\"name\": \"odd\", \"params\": {}, \"ok\": {\"changed\": {\"kind\": \"bool\", \"always\": true}, \"msg\": {\"kind\": \"int\", \"always\": false}}, \"failure\": {\"changed\": {\"kind\": \"bool\", \"always\": true}, \"msg\": {\"kind\": \"text\", \"always\": true}}}]") (codes "{\"all\": {\"hosts\": [\"a\"], \"vars\": {\"i2\": \"a\", \"s1\": \"\"}}, \"g1\": {\"hosts\": [\"a\"], \"vars\": {}}, \"g2\": {\"hosts\": [\"a\"], \"vars\": {\"i1\": false, \"i2\": \"x\", \"s1\": []}}, \"_meta\": {\"hostvars\": {\"a\": {\"i1\": \"no\", \"i2\": true}}}}") (codes "[{\"hosts\": \"a\", \"tasks\": [{\"setup\": null, \"when\": \"r2.skip_reason is undefined\", \"register\": \"r1\", \"ignore_errors\": true}, {\"block\": [{\"debug\": {\"msg\": \"x\"}, \"when\": \"r1 is succeeded\", \"register\": \"r2\"}, {\"vars\": {}, \"set_fact\": {\"s3\": {\"f\": \"{{ r3.failed }}\", \"rc\": 1}}, \"when\": [\"r3 is defined\", \"r3.failed is defined\"]}], \"rescue\": [{\"command\": {\"cmd\": \"x\"}, \"register\": \"r3\", \"failed_when\": false}, {\"ping\": null, \"when\": \"inventory_hostname is defined\"}, {\"loop\": [\"no\", {\"f\": \"\", \"g\": \"b\"}, [2]], \"vars\": {}, \"command\": {\"cmd\": \"x\"}, \"when\": \"inventory_hostname == 'a'\", \"register\": \"r2\"}]}, {\"assert\": {\"that\": true}, \"register\": \"r1\"}, {\"meta\": \"flush_handlers\"}], \"force_handlers\": true}]") ≡ verdict (accepted 3)
unfolding reading
random_002359 = refl

random_002378 : found (codes "{\"g\": {\"hosts\": [\"b\", \"a\"]}, \"all\": {\"hosts\": [\"c\"], \"vars\": {\"inv\": [1, 2]}}, \"_meta\": {\"hostvars\": {\"a\": {\"opq\": 1.5, \"inv\": [\"x\"]}, \"b\": {\"k\": {\"z\": \"{{ q }}\"}}}}}") (codes "[{\"hosts\": \"g\", \"handlers\": [{\"set_fact\": {\"s\": [[null]]}, \"changed_when\": \"zz is changed\", \"name\": \"h0\"}, {\"command\": {\"cmd\": \"{{ r.stdout | join(',') }}\"}, \"when\": \"inventory_hostname in ansible_play_batch\", \"register\": \"s\", \"failed_when\": true, \"name\": \"h1\"}], \"tasks\": [{\"loop\": \"{{ r.stdout_lines }}\", \"setup\": null, \"when\": \"item.changed is failed\", \"notify\": \"h1\"}, {\"block\": [{\"assert\": {\"that\": [\"not (zz == 'a')\", \"((v1.msg is not defined) and (hostvars['a'].r.rc is succeeded)) or (r.failed == 1)\"]}, \"register\": \"s\"}], \"rescue\": [{\"command\": {\"cmd\": [\"{{ hostvars[item].inv }}\"]}, \"when\": [\"(groups['g'][0] in ansible_play_batch) or (not (hostvars[item].r.msg is succeeded))\", \"r.changed == 1\"], \"register\": \"r\"}], \"when\": [\"(item in ansible_play_batch) and (hostvars['a'].inv is not defined)\", \"not (hostvars['a'].y.msg)\"]}, {\"stat\": {\"path\": \"p\"}, \"ignore_errors\": true, \"notify\": \"h1\"}, {\"block\": [], \"always\": [{\"block\": []}]}], \"strategy\": \"free\", \"serial\": 1, \"force_handlers\": true}]") ≡ verdict (refused (record { code = 1; line = 2; host = Some (codes "b") }))
unfolding reading
random_002378 = refl

random_002390 : found (codes "{\"g\": {\"hosts\": [\"b\", \"a\"]}, \"all\": {\"hosts\": [\"c\"], \"vars\": {\"inv\": [1, 2]}}, \"_meta\": {\"hostvars\": {\"a\": {\"opq\": 1.5, \"inv\": [\"x\"]}, \"b\": {\"k\": {\"z\": \"{{ q }}\"}}}}}") (codes "[{\"hosts\": \"g\", \"tasks\": [{\"command\": \"x\", \"when\": [\"s is defined and s is not failed\"], \"register\": \"r\"}, {\"ping\": null}], \"strategy\": \"free\", \"serial\": 2}]") ≡ verdict (accepted 4)
unfolding reading
random_002390 = refl

random_002400 : found (codes "{\"g\": {\"hosts\": [\"b\", \"a\"]}, \"all\": {\"hosts\": [\"c\"], \"vars\": {\"inv\": [1, 2]}}, \"_meta\": {\"hostvars\": {\"a\": {\"opq\": 1.5, \"inv\": [\"x\"]}, \"b\": {\"k\": {\"z\": \"{{ q }}\"}}}}}") (codes "[{\"hosts\": \"all\", \"handlers\": [{\"loop\": [], \"setup\": null, \"register\": \"s\", \"name\": \"h0\"}, {\"command\": {\"cmd\": \"{{ ansible_failed_result.changed }}\"}, \"register\": \"r\", \"name\": \"h1\"}], \"tasks\": [{\"block\": [{\"ping\": null, \"register\": \"r\", \"notify\": \"h0\"}, {\"fail\": {\"msg\": \"m\"}, \"register\": \"s\", \"failed_when\": true, \"vars\": {\"v2\": \"x{{ group_names }}\"}}]}, {\"block\": []}, {\"command\": \"x\", \"when\": \"groups['g'][0] in ansible_play_batch\", \"register\": \"s\"}, {\"stat\": {\"path\": \"p\"}, \"register\": \"r\", \"changed_when\": true, \"notify\": \"h0\"}]}]") ≡ verdict (refused (record { code = 1; line = 9; host = Some (codes "c") }))
unfolding reading
random_002400 = refl

random_002402 : found (codes "{\"g\": {\"hosts\": [\"b\", \"a\"]}, \"all\": {\"hosts\": [\"c\"], \"vars\": {\"inv\": [1, 2]}}, \"_meta\": {\"hostvars\": {\"a\": {\"opq\": 1.5, \"inv\": [\"x\"]}, \"b\": {\"k\": {\"z\": \"{{ q }}\"}}}}}") (codes "[{\"hosts\": \"all\", \"handlers\": [{\"setup\": null, \"register\": \"s\", \"until\": true, \"name\": \"h0\"}], \"tasks\": [{\"command\": \"x\", \"register\": \"s\", \"notify\": \"h0\"}, {\"meta\": \"flush_handlers\"}], \"gather_facts\": true}, {\"hosts\": \"all\", \"handlers\": [{\"assert\": {\"that\": \"(item in ansible_play_batch) or (ansible_failed_result.stdout_lines is succeeded)\"}, \"when\": [\"'b' in ansible_play_batch\"], \"register\": \"r\", \"name\": \"h0\"}, {\"set_fact\": {\"s\": \"{{ ['a', 1] }}\"}, \"when\": [\"s is defined and s is not failed\"], \"name\": \"h1\"}], \"tasks\": [{\"set_fact\": {\"y\": \"{{ r.stdout | default([]) }}\"}, \"register\": \"r\"}], \"gather_facts\": true, \"vars\": {\"v1\": \"a\"}}]") ≡ verdict (refused (record { code = 1; line = 9; host = Some (codes "c") }))
unfolding reading
random_002402 = refl

random_002420 : found (codes "{\"g\": {\"hosts\": [\"b\", \"a\"]}, \"all\": {\"hosts\": [\"c\"], \"vars\": {\"inv\": [1, 2]}}, \"_meta\": {\"hostvars\": {\"a\": {\"opq\": 1.5, \"inv\": [\"x\"]}, \"b\": {\"k\": {\"z\": \"{{ q }}\"}}}}}") (codes "[{\"hosts\": \"all\", \"tasks\": [{\"block\": [], \"always\": []}, {\"stat\": {\"path\": \"p\"}, \"when\": [\"not (r is undefined or r is failed)\"]}, {\"debug\": {\"msg\": \"{{ inventory_hostname }}\"}, \"when\": [\"'b' in ansible_play_batch\"], \"register\": \"r\", \"changed_when\": \"r is changed\", \"vars\": {\"v1\": \"{{ item.results }}\"}}, {\"loop\": [\"a\", \"b\"], \"fail\": {\"msg\": \"m\"}, \"register\": \"s\"}], \"post_tasks\": [{\"command\": {\"cmd\": null}, \"when\": [\"'a' in inv\", \"'a' in ansible_play_batch\"], \"changed_when\": true}], \"vars\": {\"v1\": \"{{ s.changed }}\"}}]") ≡ verdict (refused (record { code = 4; line = 6; host = Some (codes "c") }))
unfolding reading
random_002420 = refl

random_002428 : found (codes "{\"g\": {\"hosts\": [\"b\", \"a\"]}, \"all\": {\"hosts\": [\"c\"], \"vars\": {\"inv\": [1, 2]}}, \"_meta\": {\"hostvars\": {\"a\": {\"opq\": 1.5, \"inv\": [\"x\"]}, \"b\": {\"k\": {\"z\": \"{{ q }}\"}}}}}") (codes "[{\"hosts\": \"all\", \"tasks\": [{\"set_fact\": {\"y\": {\"k\": \"{{ r.stdout }}\"}}, \"when\": \"'a' in ansible_play_batch\"}, {\"ping\": null, \"when\": [\"r is defined\", \"s is defined and s is not failed\"]}, {\"command\": {\"cmd\": \"{{ y.hostname | length }}\"}, \"when\": [\"'a' in ansible_failed_result.stdout\", \"inventory_hostname.changed\"], \"register\": \"s\", \"failed_when\": false, \"changed_when\": \"s is changed\"}], \"strategy\": \"free\", \"serial\": 1, \"vars\": {\"v1\": {\"k\": \"{{ v2.stdout_lines == 1 }}\"}}}]") ≡ verdict (refused (record { code = 1; line = 2; host = Some (codes "c") }))
unfolding reading
random_002428 = refl

random_002430 : found (codes "{\"g\": {\"hosts\": [\"b\", \"a\"]}, \"all\": {\"hosts\": [\"c\"], \"vars\": {\"inv\": [1, 2]}}, \"_meta\": {\"hostvars\": {\"a\": {\"opq\": 1.5, \"inv\": [\"x\"]}, \"b\": {\"k\": {\"z\": \"{{ q }}\"}}}}}") (codes "[{\"hosts\": \"all\", \"tasks\": [{\"block\": [], \"rescue\": [], \"always\": []}, {\"block\": [{\"set_fact\": {\"s\": \"{{ ansible_failed_result.stat.isdir }}\"}, \"ignore_errors\": true}, {\"loop\": [], \"command\": {\"cmd\": \"{{ item }}\"}, \"when\": \"not (inventory_hostname.results == 1)\"}], \"rescue\": [{\"block\": [{\"fail\": {\"msg\": \"m\"}, \"when\": \"(v1.hostname == 'a') or (inv.os_family == 1)\", \"register\": \"r\", \"failed_when\": \"r.changed\", \"vars\": {\"v2\": \"{{ ansible_hostname.stat.isdir | default(r.failed) }}\"}}], \"rescue\": [{\"set_fact\": {\"y\": {\"k\": 1}}, \"when\": \"((v1.hostname is skipped) or (v1 == 1)) and (inventory_hostname in ansible_play_batch)\", \"failed_when\": true}, {\"set_fact\": {\"y\": null}, \"vars\": {\"v2\": \"x{{ r.stdout }}\"}}]}, {\"set_fact\": {\"y\": [true]}}], \"when\": \"not (ansible_play_batch is failed)\"}, {\"command\": \"x\", \"when\": [\"y is defined\"], \"register\": \"s\", \"until\": \"s is succeeded\", \"retries\": 1, \"ignore_errors\": true, \"vars\": {\"v1\": \"a\"}}]}]") ≡ verdict (refused (record { code = 4; line = 4; host = Some (codes "c") }))
unfolding reading
random_002430 = refl

random_002436 : found (codes "{\"g\": {\"hosts\": [\"b\", \"a\"]}, \"all\": {\"hosts\": [\"c\"], \"vars\": {\"inv\": [1, 2]}}, \"_meta\": {\"hostvars\": {\"a\": {\"opq\": 1.5, \"inv\": [\"x\"]}, \"b\": {\"k\": {\"z\": \"{{ q }}\"}}}}}") (codes "[{\"hosts\": \"a\", \"handlers\": [{\"assert\": {\"that\": \"group_names.hostname == 1\"}, \"register\": \"s\", \"changed_when\": false, \"name\": \"h0\"}, {\"set_fact\": {\"y\": [{\"k\": [1, 2]}]}, \"changed_when\": \"zz is changed\", \"name\": \"h1\"}], \"pre_tasks\": [{\"stat\": {\"path\": \"p\"}, \"register\": \"r\"}], \"tasks\": [{\"meta\": \"flush_handlers\"}, {\"stat\": {\"path\": \"p\"}, \"notify\": \"h0\"}, {\"setup\": null, \"until\": false}, {\"loop\": \"{{ groups.all }}\", \"set_fact\": {\"y\": \"{{ ansible_facts }}\"}, \"register\": \"s\", \"notify\": \"h0\"}], \"post_tasks\": [{\"loop\": [1, 2], \"debug\": {\"msg\": \"{{ r.failed }}\"}, \"when\": [\"'a' in ansible_play_batch\", \"r is defined\"], \"register\": \"s\"}], \"strategy\": \"free\", \"force_handlers\": true, \"gather_facts\": true}]") ≡ verdict (refused (record { code = 4; line = 9; host = Some (codes "a") }))
unfolding reading
random_002436 = refl

random_002440 : found (codes "{\"g\": {\"hosts\": [\"b\", \"a\"]}, \"all\": {\"hosts\": [\"c\"], \"vars\": {\"inv\": [1, 2]}}, \"_meta\": {\"hostvars\": {\"a\": {\"opq\": 1.5, \"inv\": [\"x\"]}, \"b\": {\"k\": {\"z\": \"{{ q }}\"}}}}}") (codes "[{\"hosts\": \"b,a\", \"handlers\": [{\"command\": {\"cmd\": {\"k\": \"{{ r.changed == 1 }}\"}}, \"when\": [\"s is defined and s is not failed\"], \"failed_when\": true, \"until\": true, \"name\": \"h0\"}, {\"ping\": null, \"name\": \"h1\"}], \"pre_tasks\": [{\"setup\": null, \"when\": \"r.changed == 1\", \"ignore_errors\": true, \"notify\": \"h0\"}, {\"block\": [{\"command\": \"x\", \"when\": [\"(not (hostvars[item].inv is defined)) or (groups['g'][0] in ansible_play_batch)\", \"((r.stdout is not skipped) or ('a' in ansible_failed_result.msg)) or ((v2.rc is succeeded) and (r.rc))\"], \"failed_when\": true, \"notify\": \"h1\"}]}], \"tasks\": [{\"block\": [{\"command\": {\"cmd\": \"{{ hostvars[item].ansible_hostname.stdout }}\"}, \"register\": \"r\", \"notify\": \"h0\"}], \"ignore_errors\": true}, {\"block\": [{\"block\": [{\"assert\": {\"that\": \"hostvars['b'].y is changed\"}, \"register\": \"s\", \"vars\": {\"v2\": \"{{ s.os_family }}\"}}, {\"loop\": \"{{ r.stdout_lines }}\", \"command\": {\"cmd\": \"{{ hostvars['a'].r.rc }}\"}, \"register\": \"r\", \"changed_when\": true}], \"rescue\": [{\"loop\": \"{{ ansible_play_batch }}\", \"set_fact\": {\"y\": \"{{ 1 }}\"}}], \"always\": [{\"setup\": null, \"register\": \"r\"}]}, {\"debug\": {\"msg\": \"{{ (inv is changed) and (y is skipped) }}\"}, \"failed_when\": \"zz is failed\"}], \"always\": [{\"loop\": \"{{ r.results }}\", \"assert\": {\"that\": \"hostvars['a'].inv is failed\"}, \"when\": [\"y is defined\"], \"notify\": \"h1\"}]}], \"force_handlers\": true}]") ≡ verdict (refused (record { code = 1; line = 2; host = Some (codes "b") }))
unfolding reading
random_002440 = refl

random_002443 : found_with (codes "[{\"name\": \"probe\", \"params\": {\"n\": {\"kind\": \"int\", \"required\": false}, \"l\": {\"kind\": {\"list\": \"text\", \"max\": 3}, \"required\": false}}, \"ok\": {\"changed\": {\"kind\": \"bool\", \"always\": true}, \"v\": {\"kind\": \"int\", \"always\": false}, \"rows\": {\"kind\": {\"list\": \"text\", \"max\": 2}, \"always\": true}, \"deep\": {\"kind\": {\"rec\": {\"a\": {\"kind\": \"text\", \"always\": true}, \"b\": {\"kind\": \"bool\", \"always\": false}}}, \"always\": false}}, \"failure\": {\"changed\": {\"kind\": \"bool\", \"always\": true}, \"msg\": {\"kind\": \"text\", \"always\": true}, \"v\": {\"kind\": \"text\", \"always\": false}, \"why\": {\"kind\": \"int\", \"always\": true}}}, {\"name\": \"odd\", \"params\": {}, \"ok\": {\"changed\": {\"kind\": \"bool\", \"always\": true}, \"msg\": {\"kind\": \"int\", \"always\": false}}, \"failure\": {\"changed\": {\"kind\": \"bool\", \"always\": true}, \"msg\": {\"kind\": \"text\", \"always\": true}}}]") (codes "{\"all\": {\"hosts\": [\"a\", \"b\", \"c\", \"d\"], \"vars\": {\"s1\": [1], \"op\": 1.5}}, \"g2\": {\"hosts\": [\"a\", \"c\"], \"vars\": {\"i1\": 2, \"op\": 1.5}}, \"_meta\": {\"hostvars\": {\"a\": {\"i2\": \"b\"}, \"b\": {\"s1\": 3}, \"c\": {}, \"d\": {\"s1\": \"no\", \"op\": 1.5}}}}") (codes "[{\"hosts\": \"all\", \"tasks\": [{\"loop\": \"{{ r1.stdout_lines | default([]) }}\", \"command\": {\"cmd\": \"x\"}, \"register\": \"r3\"}, {\"odd\": null, \"notify\": \"t\"}], \"handlers\": [{\"command\": \"x\", \"register\": \"r2\", \"name\": \"h0\", \"listen\": \"t\", \"notify\": \"h1\"}, {\"odd\": null, \"when\": \"r1 is changed\", \"ignore_errors\": true, \"name\": \"h1\"}]}]") ≡ verdict (refused (record { code = 1; line = 5; host = Some (codes "a") }))
unfolding reading
random_002443 = refl

random_002446 : found (codes "{\"g\": {\"hosts\": [\"b\", \"a\"]}, \"all\": {\"hosts\": [\"c\"], \"vars\": {\"inv\": [1, 2]}}, \"_meta\": {\"hostvars\": {\"a\": {\"opq\": 1.5, \"inv\": [\"x\"]}, \"b\": {\"k\": {\"z\": \"{{ q }}\"}}}}}") (codes "[{\"hosts\": \"all\", \"handlers\": [{\"ping\": null, \"register\": \"s\", \"name\": \"h0\"}], \"tasks\": [{\"block\": [], \"rescue\": [], \"always\": [{\"debug\": {\"msg\": \"{{ [1, 2] }}\"}, \"changed_when\": true, \"notify\": \"h0\", \"vars\": {\"v2\": \"x{{ hostvars[item].opq }}\"}}]}, {\"command\": {\"cmd\": \"{{ zz.stdout_lines }}\"}, \"when\": \"'a' in opq.stdout_lines\", \"register\": \"r\", \"notify\": \"h0\"}, {\"fail\": null, \"notify\": \"h0\"}], \"strategy\": \"free\", \"vars\": {\"v1\": \"x{{ ansible_hostname.hostname | length }}\"}}]") ≡ verdict (refused (record { code = 1; line = 4; host = Some (codes "c") }))
unfolding reading
random_002446 = refl

random_002448 : found (codes "{\"g\": {\"hosts\": [\"b\", \"a\"]}, \"all\": {\"hosts\": [\"c\"], \"vars\": {\"inv\": [1, 2]}}, \"_meta\": {\"hostvars\": {\"a\": {\"opq\": 1.5, \"inv\": [\"x\"]}, \"b\": {\"k\": {\"z\": \"{{ q }}\"}}}}}") (codes "[{\"hosts\": \"all\", \"tasks\": [{\"set_fact\": {\"s\": \"{{ hostvars[inventory_hostname].inv.msg }}\"}, \"register\": \"r\"}, {\"meta\": \"flush_handlers\"}, {\"assert\": {\"that\": [\"not (group_names.rc)\", \"(hostvars['b'].s.rc == 'a') or ('b' in ansible_play_batch)\"]}, \"when\": [\"hostvars[inventory_hostname].ansible_hostname is not skipped\", \"y is failed\"]}], \"serial\": \"50%\", \"force_handlers\": true}]") ≡ verdict (refused (record { code = 4; line = 2; host = Some (codes "c") }))
unfolding reading
random_002448 = refl

random_002449 : found_with (codes "[{\"name\": \"probe\", \"params\": {\"n\": {\"kind\": \"int\", \"required\": false}, \"l\": {\"kind\": {\"list\": \"text\", \"max\": 3}, \"required\": false}}, \"ok\": {\"changed\": {\"kind\": \"bool\", \"always\": true}, \"v\": {\"kind\": \"int\", \"always\": false}, \"rows\": {\"kind\": {\"list\": \"text\", \"max\": 2}, \"always\": true}, \"deep\": {\"kind\": {\"rec\": {\"a\": {\"kind\": \"text\", \"always\": true}, \"b\": {\"kind\": \"bool\", \"always\": false}}}, \"always\": false}}, \"failure\": {\"changed\": {\"kind\": \"bool\", \"always\": true}, \"msg\": {\"kind\": \"text\", \"always\": true}, \"v\": {\"kind\": \"text\", \"always\": false}, \"why\": {\"kind\": \"int\", \"always\": true}}}, {\"name\": \"odd\", \"params\": {}, \"ok\": {\"changed\": {\"kind\": \"bool\", \"always\": true}, \"msg\": {\"kind\": \"int\", \"always\": false}}, \"failure\": {\"changed\": {\"kind\": \"bool\", \"always\": true}, \"msg\": {\"kind\": \"text\", \"always\": true}}}]") (codes "{\"all\": {\"hosts\": [\"a\"], \"vars\": {\"i2\": \"no\"}}, \"g1\": {\"hosts\": [], \"vars\": {}}, \"_meta\": {\"hostvars\": {\"a\": {\"i1\": {}, \"i2\": []}}}}") (codes "[{\"hosts\": \"all\", \"gather_facts\": true, \"tasks\": [{\"vars\": {\"v3\": 1}, \"block\": [{\"assert\": {\"that\": true}, \"register\": \"r1\", \"notify\": \"h0\"}], \"always\": [{\"loop\": \"{{ ansible_play_batch }}\", \"probe\": {}, \"when\": [\"'a' in ansible_play_batch\", \"item in ansible_play_batch\"], \"register\": \"r2\"}]}, {\"loop\": [], \"command\": {\"cmd\": \"x\"}, \"register\": \"r2\", \"ignore_errors\": true}], \"post_tasks\": [{\"meta\": \"flush_handlers\"}, {\"loop\": \"{{ r3.stdout_lines | default([]) }}\", \"command\": {\"cmd\": \"x\"}, \"notify\": \"t\"}], \"handlers\": [{\"command\": {\"cmd\": \"x\"}, \"name\": \"h0\"}, {\"vars\": {\"v1\": \"{{ r1.failed }}\", \"v3\": \"x{{ (r1.changed) == (r3) }}\"}, \"ping\": null, \"register\": \"r1\", \"name\": \"h1\", \"listen\": \"t\"}], \"force_handlers\": true}]") ≡ verdict (accepted 8)
unfolding reading
random_002449 = refl

random_002455 : found_with (codes "[{\"name\": \"probe\", \"params\": {\"n\": {\"kind\": \"int\", \"required\": false}, \"l\": {\"kind\": {\"list\": \"text\", \"max\": 3}, \"required\": false}}, \"ok\": {\"changed\": {\"kind\": \"bool\", \"always\": true}, \"v\": {\"kind\": \"int\", \"always\": false}, \"rows\": {\"kind\": {\"list\": \"text\", \"max\": 2}, \"always\": true}, \"deep\": {\"kind\": {\"rec\": {\"a\": {\"kind\": \"text\", \"always\": true}, \"b\": {\"kind\": \"bool\", \"always\": false}}}, \"always\": false}}, \"failure\": {\"changed\": {\"kind\": \"bool\", \"always\": true}, \"msg\": {\"kind\": \"text\", \"always\": true}, \"v\": {\"kind\": \"text\", \"always\": false}, \"why\": {\"kind\": \"int\", \"always\": true}}}, {\"name\": \"odd\", \"params\": {}, \"ok\": {\"changed\": {\"kind\": \"bool\", \"always\": true}, \"msg\": {\"kind\": \"int\", \"always\": false}}, \"failure\": {\"changed\": {\"kind\": \"bool\", \"always\": true}, \"msg\": {\"kind\": \"text\", \"always\": true}}}]") (codes "{\"all\": {\"hosts\": [\"a\", \"b\", \"c\", \"d\"], \"vars\": {\"i1\": []}}, \"g1\": {\"hosts\": [\"a\", \"c\", \"d\"], \"vars\": {\"s1\": {\"f\": \"t\", \"g\": -1}, \"op\": 1.5}}, \"_meta\": {\"hostvars\": {\"a\": {\"i1\": [\"t\"]}, \"b\": {\"i2\": \"b\", \"s1\": [\"t\"], \"op\": 1.5}, \"c\": {}, \"d\": {\"i2\": \"t\", \"s1\": {}}}}}") (codes "[{\"hosts\": [\"b\", \"all\"], \"vars\": {\"v1\": 1, \"v2\": \"b\", \"v3\": {\"f\": \"a\", \"g\": 1}}, \"strategy\": \"free\", \"tasks\": [{\"loop\": \"{{ r1.stdout_lines | default([]) }}\", \"command\": {\"cmd\": \"x {{ inventory_hostname | length }}\"}}, {\"command\": {\"cmd\": \"x\"}}, {\"vars\": {\"v3\": \"{{ inventory_hostname }}\"}, \"assert\": {\"that\": [\"r3 is not skipped\"]}, \"changed_when\": false}], \"force_handlers\": true}]") ≡ verdict (refused (record { code = 1; line = 4; host = Some (codes "a") }))
unfolding reading
random_002455 = refl

random_002468 : found (codes "{\"g\": {\"hosts\": [\"b\", \"a\"]}, \"all\": {\"hosts\": [\"c\"], \"vars\": {\"inv\": [1, 2]}}, \"_meta\": {\"hostvars\": {\"a\": {\"opq\": 1.5, \"inv\": [\"x\"]}, \"b\": {\"k\": {\"z\": \"{{ q }}\"}}}}}") (codes "[{\"hosts\": \"a\", \"handlers\": [{\"command\": {\"cmd\": \"{{ inventory_hostname.rc }}\"}, \"when\": [\"hostvars['a'].inv\", \"ansible_failed_result.results is defined\"], \"name\": \"h0\"}], \"tasks\": [{\"set_fact\": {\"y\": \"{{ r.stdout }}\"}, \"register\": \"r\", \"vars\": {\"v2\": 1}}, {\"fail\": {\"msg\": \"m\"}, \"ignore_errors\": true}, {\"stat\": {\"path\": \"p\"}, \"failed_when\": false, \"ignore_errors\": true}, {\"loop\": [\"a\", \"b\"], \"fail\": {\"msg\": \"m\"}, \"register\": \"r\", \"failed_when\": true, \"notify\": \"h0\"}], \"post_tasks\": [{\"ping\": null, \"when\": \"((ansible_failed_result.stat.isdir == 'a') or (r.results)) or (('a' in r.changed) or (ansible_facts is succeeded))\"}, {\"block\": [{\"stat\": {\"path\": \"p\"}}], \"always\": []}]}]") ≡ verdict (refused (record { code = 1; line = 2; host = Some (codes "a") }))
unfolding reading
random_002468 = refl

random_002484 : found (codes "{\"g\": {\"hosts\": [\"b\", \"a\"]}, \"all\": {\"hosts\": [\"c\"], \"vars\": {\"inv\": [1, 2]}}, \"_meta\": {\"hostvars\": {\"a\": {\"opq\": 1.5, \"inv\": [\"x\"]}, \"b\": {\"k\": {\"z\": \"{{ q }}\"}}}}}") (codes "[{\"hosts\": \"all\", \"handlers\": [{\"command\": {\"cmd\": [1, 2]}, \"when\": [\"r is defined and r is succeeded\"], \"register\": \"r\", \"name\": \"h0\"}], \"tasks\": [{\"fail\": null, \"when\": [\"'a' in ansible_play_batch\"], \"register\": \"r\", \"ignore_errors\": true, \"notify\": \"h0\"}, {\"command\": {\"cmd\": \"x{{ hostvars['a'].inv | default(hostvars[groups['g'][0]].ansible_hostname.stdout) }}\"}, \"failed_when\": false, \"changed_when\": false}], \"strategy\": \"free\", \"force_handlers\": true}, {\"hosts\": \"a\", \"handlers\": [{\"set_fact\": {\"y\": \"x{{ ansible_failed_result.changed | length }}\"}, \"name\": \"h0\"}], \"tasks\": [{\"stat\": {\"path\": \"p\"}, \"notify\": \"h0\"}, {\"command\": \"x\", \"until\": false, \"ignore_errors\": true, \"notify\": \"h0\", \"vars\": {\"v1\": \"x{{ y | length }}\"}}], \"strategy\": \"free\", \"vars\": {\"v1\": \"{{ inventory_hostname.stdout }}\"}}]") ≡ verdict (refused (record { code = 2; line = 3; host = Some (codes "c") }))
unfolding reading
random_002484 = refl

random_002499 : found_with (codes "[{\"name\": \"probe\", \"params\": {\"n\": {\"kind\": \"int\", \"required\": false}, \"l\": {\"kind\": {\"list\": \"text\", \"max\": 3}, \"required\": false}}, \"ok\": {\"changed\": {\"kind\": \"bool\", \"always\": true}, \"v\": {\"kind\": \"int\", \"always\": false}, \"rows\": {\"kind\": {\"list\": \"text\", \"max\": 2}, \"always\": true}, \"deep\": {\"kind\": {\"rec\": {\"a\": {\"kind\": \"text\", \"always\": true}, \"b\": {\"kind\": \"bool\", \"always\": false}}}, \"always\": false}}, \"failure\": {\"changed\": {\"kind\": \"bool\", \"always\": true}, \"msg\": {\"kind\": \"text\", \"always\": true}, \"v\": {\"kind\": \"text\", \"always\": false}, \"why\": {\"kind\": \"int\", \"always\": true}}}, {\"name\": \"odd\", \"params\": {}, \"ok\": {\"changed\": {\"kind\": \"bool\", \"always\": true}, \"msg\": {\"kind\": \"int\", \"always\": false}}, \"failure\": {\"changed\": {\"kind\": \"bool\", \"always\": true}, \"msg\": {\"kind\": \"text\", \"always\": true}}}]") (codes "{\"all\": {\"hosts\": [\"a\", \"b\", \"c\"], \"vars\": {\"i2\": \"\", \"s1\": true}}, \"_meta\": {\"hostvars\": {\"a\": {\"op\": 1.5}, \"b\": {\"i2\": \"t\"}, \"c\": {}}}}") (codes "[{\"hosts\": \"b\", \"tasks\": [{\"loop\": \"{{ r2.stdout_lines | default([]) }}\", \"setup\": null, \"register\": \"r2\", \"failed_when\": \"r2.ansible_facts.ansible_os_family == 1\"}, {\"block\": []}, {\"command\": {\"cmd\": \"x {{ [ansible_hostname, 1] }}\"}}, {\"set_fact\": {\"s2\": \"{{ inventory_hostname | default('z') }}\"}, \"when\": \"inventory_hostname in ansible_play_batch\"}]}]") ≡ verdict (refused (record { code = 3; line = 2; host = Some (codes "b") }))
unfolding reading
random_002499 = refl

random_002500 : found (codes "{\"g\": {\"hosts\": [\"b\", \"a\"]}, \"all\": {\"hosts\": [\"c\"], \"vars\": {\"inv\": [1, 2]}}, \"_meta\": {\"hostvars\": {\"a\": {\"opq\": 1.5, \"inv\": [\"x\"]}, \"b\": {\"k\": {\"z\": \"{{ q }}\"}}}}}") (codes "[{\"hosts\": \"all\", \"handlers\": [{\"ping\": null, \"register\": \"s\", \"until\": \"s is succeeded\", \"retries\": 1, \"name\": \"h0\"}, {\"ping\": null, \"failed_when\": \"zz.changed\", \"ignore_errors\": false, \"name\": \"h1\"}], \"tasks\": [{\"loop\": [], \"debug\": {\"msg\": [null]}, \"register\": \"s\"}], \"strategy\": \"free\", \"vars\": {\"v1\": \"{{ hostvars[item].opq.stat.isdir | length }}\"}}]") ≡ verdict (refused (record { code = 1; line = 4; host = Some (codes "c") }))
unfolding reading
random_002500 = refl

random_002501 : found_with (codes "[{\"name\": \"probe\", \"params\": {\"n\": {\"kind\": \"int\", \"required\": false}, \"l\": {\"kind\": {\"list\": \"text\", \"max\": 3}, \"required\": false}}, \"ok\": {\"changed\": {\"kind\": \"bool\", \"always\": true}, \"v\": {\"kind\": \"int\", \"always\": false}, \"rows\": {\"kind\": {\"list\": \"text\", \"max\": 2}, \"always\": true}, \"deep\": {\"kind\": {\"rec\": {\"a\": {\"kind\": \"text\", \"always\": true}, \"b\": {\"kind\": \"bool\", \"always\": false}}}, \"always\": false}}, \"failure\": {\"changed\": {\"kind\": \"bool\", \"always\": true}, \"msg\": {\"kind\": \"text\", \"always\": true}, \"v\": {\"kind\": \"text\", \"always\": false}, \"why\": {\"kind\": \"int\", \"always\": true}}}, {\"name\": \"odd\", \"params\": {}, \"ok\": {\"changed\": {\"kind\": \"bool\", \"always\": true}, \"msg\": {\"kind\": \"int\", \"always\": false}}, \"failure\": {\"changed\": {\"kind\": \"bool\", \"always\": true}, \"msg\": {\"kind\": \"text\", \"always\": true}}}]") (codes "{\"all\": {\"hosts\": [\"a\", \"b\"], \"vars\": {}}, \"g1\": {\"hosts\": [], \"vars\": {\"i2\": [1], \"s1\": null}}, \"g2\": {\"hosts\": [\"b\"], \"vars\": {\"i2\": {\"f\": {\"f\": 1, \"g\": \"x\"}, \"g\": []}, \"s1\": false}}, \"_meta\": {\"hostvars\": {\"a\": {\"s1\": []}, \"b\": {}}}}") (codes "[{\"hosts\": \"g1\", \"tasks\": [{\"probe\": {}, \"register\": \"r2\", \"changed_when\": \"r2.deep == 'a'\"}, {\"loop\": [[\"t\", false], {\"f\": \"a\", \"g\": 1}], \"debug\": {\"msg\": \"{{ 't' }}\"}, \"register\": \"r3\", \"failed_when\": \"inventory_hostname == 'a'\"}, {\"command\": {\"cmd\": \"x\"}, \"until\": \"inventory_hostname == 'a'\", \"retries\": 1}, {\"meta\": \"flush_handlers\"}], \"force_handlers\": true}]") ≡ verdict (accepted 0)
unfolding reading
random_002501 = refl

random_002502 : found (codes "{\"g\": {\"hosts\": [\"b\", \"a\"]}, \"all\": {\"hosts\": [\"c\"], \"vars\": {\"inv\": [1, 2]}}, \"_meta\": {\"hostvars\": {\"a\": {\"opq\": 1.5, \"inv\": [\"x\"]}, \"b\": {\"k\": {\"z\": \"{{ q }}\"}}}}}") (codes "[{\"hosts\": \"all\", \"tasks\": [{\"loop\": [], \"set_fact\": {\"s\": [true]}}, {\"command\": \"x\"}, {\"loop\": [\"a\", \"b\"], \"ping\": null}], \"serial\": 1, \"force_handlers\": true}]") ≡ verdict (accepted 9)
unfolding reading
random_002502 = refl

random_002504 : found (codes "{\"g\": {\"hosts\": [\"b\", \"a\"]}, \"all\": {\"hosts\": [\"c\"], \"vars\": {\"inv\": [1, 2]}}, \"_meta\": {\"hostvars\": {\"a\": {\"opq\": 1.5, \"inv\": [\"x\"]}, \"b\": {\"k\": {\"z\": \"{{ q }}\"}}}}}") (codes "[{\"hosts\": \"all\", \"tasks\": [{\"assert\": {\"that\": \"y.msg is defined\"}, \"when\": [\"s is defined and s is not failed\", \"r is defined\"], \"register\": \"r\"}, {\"block\": [], \"ignore_errors\": true}], \"serial\": [1, 2]}]") ≡ verdict (accepted 0)
unfolding reading
random_002504 = refl

random_002511 : found_with (codes "[{\"name\": \"probe\", \"params\": {\"n\": {\"kind\": \"int\", \"required\": false}, \"l\": {\"kind\": {\"list\": \"text\", \"max\": 3}, \"required\": false}}, \"ok\": {\"changed\": {\"kind\": \"bool\", \"always\": true}, \"v\": {\"kind\": \"int\", \"always\": false}, \"rows\": {\"kind\": {\"list\": \"text\", \"max\": 2}, \"always\": true}, \"deep\": {\"kind\": {\"rec\": {\"a\": {\"kind\": \"text\", \"always\": true}, \"b\": {\"kind\": \"bool\", \"always\": false}}}, \"always\": false}}, \"failure\": {\"changed\": {\"kind\": \"bool\", \"always\": true}, \"msg\": {\"kind\": \"text\", \"always\": true}, \"v\": {\"kind\": \"text\", \"always\": false}, \"why\": {\"kind\": \"int\", \"always\": true}}}, {\"name\": \"odd\", \"params\": {}, \"ok\": {\"changed\": {\"kind\": \"bool\", \"always\": true}, \"msg\": {\"kind\": \"int\", \"always\": false}}, \"failure\": {\"changed\": {\"kind\": \"bool\", \"always\": true}, \"msg\": {\"kind\": \"text\", \"always\": true}}}]") (codes "{\"all\": {\"hosts\": [\"a\", \"b\", \"c\", \"d\"], \"vars\": {}}, \"g2\": {\"hosts\": [\"a\", \"b\", \"c\", \"d\"], \"vars\": {\"s1\": \"a\"}}, \"_meta\": {\"hostvars\": {\"a\": {}, \"b\": {\"s1\": \"x\"}, \"c\": {}, \"d\": {}}}}") (codes "[{\"hosts\": [\"c\", \"all\"], \"vars\": {\"v2\": [false], \"v3\": \"x{{ r1.changed }}\"}, \"tasks\": [{\"vars\": {}, \"ping\": null, \"when\": \"r2.failed is defined\", \"failed_when\": \"inventory_hostname == 'a'\"}, {\"set_fact\": {\"s2\": \"{{ [1, 2] }}\"}, \"changed_when\": false}, {\"meta\": \"flush_handlers\"}, {\"ping\": null, \"register\": \"r3\", \"ignore_errors\": true}], \"force_handlers\": true}, {\"hosts\": [\"c\", \"all\"], \"tasks\": [{\"loop\": \"{{ r3.results | default([]) }}\", \"ping\": null, \"when\": \"'d' in ansible_play_batch\", \"notify\": \"t\", \"changed_when\": true}], \"handlers\": [{\"vars\": {\"v1\": \"{{ hostvars['c'].r2.changed }}\"}, \"fail\": {\"msg\": \"m\"}, \"register\": \"r3\", \"changed_when\": true, \"name\": \"h0\", \"listen\": \"t\"}, {\"vars\": {\"v1\": \"{{ ansible_os_family }}\"}, \"set_fact\": {\"s3\": [\"x{{ r2.changed | default(1) }}\"]}, \"when\": \"hostvars['a'].r3.msg is undefined\", \"name\": \"h1\"}]}]") ≡ verdict (accepted 8)
unfolding reading
random_002511 = refl

random_002515 : found_with (codes "[{\"name\": \"probe\", \"params\": {\"n\": {\"kind\": \"int\", \"required\": false}, \"l\": {\"kind\": {\"list\": \"text\", \"max\": 3}, \"required\": false}}, \"ok\": {\"changed\": {\"kind\": \"bool\", \"always\": true}, \"v\": {\"kind\": \"int\", \"always\": false}, \"rows\": {\"kind\": {\"list\": \"text\", \"max\": 2}, \"always\": true}, \"deep\": {\"kind\": {\"rec\": {\"a\": {\"kind\": \"text\", \"always\": true}, \"b\": {\"kind\": \"bool\", \"always\": false}}}, \"always\": false}}, \"failure\": {\"changed\": {\"kind\": \"bool\", \"always\": true}, \"msg\": {\"kind\": \"text\", \"always\": true}, \"v\": {\"kind\": \"text\", \"always\": false}, \"why\": {\"kind\": \"int\", \"always\": true}}}, {\"name\": \"odd\", \"params\": {}, \"ok\": {\"changed\": {\"kind\": \"bool\", \"always\": true}, \"msg\": {\"kind\": \"int\", \"always\": false}}, \"failure\": {\"changed\": {\"kind\": \"bool\", \"always\": true}, \"msg\": {\"kind\": \"text\", \"always\": true}}}]") (codes "{\"all\": {\"hosts\": [\"a\", \"b\"], \"vars\": {\"i1\": \"t\", \"op\": 1.5}}, \"g1\": {\"hosts\": [\"a\", \"b\"], \"vars\": {\"op\": 1.5}}, \"_meta\": {\"hostvars\": {\"a\": {\"i1\": [\"a\", \"x\"], \"i2\": 0, \"s1\": [2]}, \"b\": {\"s1\": {\"g\": [\"\"]}}}}}") (codes "[{\"hosts\": \"all\", \"strategy\": \"free\", \"tasks\": [{\"meta\": \"flush_handlers\"}]}]") ≡ verdict (accepted 0)
unfolding reading
random_002515 = refl

random_002518 : found (codes "{\"g\": {\"hosts\": [\"b\", \"a\"]}, \"all\": {\"hosts\": [\"c\"], \"vars\": {\"inv\": [1, 2]}}, \"_meta\": {\"hostvars\": {\"a\": {\"opq\": 1.5, \"inv\": [\"x\"]}, \"b\": {\"k\": {\"z\": \"{{ q }}\"}}}}}") (codes "[{\"hosts\": \"all\", \"handlers\": [{\"set_fact\": {\"s\": \"{{ hostvars['a'].inv }}\"}, \"ignore_errors\": true, \"name\": \"h0\"}, {\"ping\": null, \"when\": [\"not (r is undefined or r is failed)\"], \"register\": \"s\", \"vars\": {\"v1\": \"{{ opq.stdout }}\"}, \"name\": \"h1\"}], \"tasks\": [{\"set_fact\": {\"s\": [\"{{ 'a' }}\"]}, \"register\": \"s\", \"ignore_errors\": false, \"notify\": \"h1\"}, {\"stat\": {\"path\": \"p\"}, \"register\": \"s\"}], \"serial\": \"50%\", \"gather_facts\": true, \"vars\": {\"v1\": \"{{ r.rc is succeeded }}\"}}]") ≡ verdict (accepted 9)
unfolding reading
random_002518 = refl

random_002526 : found (codes "{\"g\": {\"hosts\": [\"b\", \"a\"]}, \"all\": {\"hosts\": [\"c\"], \"vars\": {\"inv\": [1, 2]}}, \"_meta\": {\"hostvars\": {\"a\": {\"opq\": 1.5, \"inv\": [\"x\"]}, \"b\": {\"k\": {\"z\": \"{{ q }}\"}}}}}") (codes "[{\"hosts\": \"a\", \"handlers\": [{\"stat\": {\"path\": \"p\"}, \"changed_when\": false, \"name\": \"h0\"}, {\"stat\": {\"path\": \"p\"}, \"changed_when\": false, \"until\": false, \"ignore_errors\": true, \"name\": \"h1\"}], \"tasks\": [{\"assert\": {\"that\": [\"'a' in r.hostname\", \"(not (hostvars['a'].ansible_hostname.k == 1)) or (hostvars['b'].s is failed)\"]}, \"failed_when\": true}, {\"block\": [{\"loop\": \"{{ groups.all }}\", \"stat\": {\"path\": \"p\"}, \"register\": \"r\", \"failed_when\": \"r is failed\"}], \"rescue\": [], \"always\": [{\"setup\": null, \"when\": [\"hostvars['a'].r.rc is defined\", \"r is defined and r is succeeded\"], \"register\": \"s\", \"until\": \"s.changed\", \"retries\": 2, \"ignore_errors\": true, \"notify\": \"h0\"}]}, {\"assert\": {\"that\": \"'a' in ansible_play_batch\"}, \"register\": \"r\", \"notify\": \"h0\"}, {\"assert\": {\"that\": [\"v2.k is succeeded\", \"not (r.results == 1)\"]}, \"notify\": \"h1\"}], \"post_tasks\": [{\"meta\": \"flush_handlers\"}, {\"loop\": \"{{ r.stdout_lines }}\", \"command\": {\"cmd\": [{\"k\": 1}]}}, {\"set_fact\": {\"y\": \"{{ inv }}\"}, \"when\": [\"not (r is undefined or r is failed)\"], \"register\": \"r\", \"failed_when\": false, \"notify\": \"h1\"}, {\"stat\": {\"path\": \"p\"}, \"until\": false, \"retries\": 2, \"notify\": \"h1\"}], \"vars\": {\"v1\": \"{{ inventory_hostname.k | join(',') }}\"}}]") ≡ verdict (refused (record { code = 1; line = 2; host = Some (codes "a") }))
unfolding reading
random_002526 = refl

random_002527 : found_with (codes "[{\"name\": \"probe\", \"params\": {\"n\": {\"kind\": \"int\", \"required\": false}, \"l\": {\"kind\": {\"list\": \"text\", \"max\": 3}, \"required\": false}}, \"ok\": {\"changed\": {\"kind\": \"bool\", \"always\": true}, \"v\": {\"kind\": \"int\", \"always\": false}, \"rows\": {\"kind\": {\"list\": \"text\", \"max\": 2}, \"always\": true}, \"deep\": {\"kind\": {\"rec\": {\"a\": {\"kind\": \"text\", \"always\": true}, \"b\": {\"kind\": \"bool\", \"always\": false}}}, \"always\": false}}, \"failure\": {\"changed\": {\"kind\": \"bool\", \"always\": true}, \"msg\": {\"kind\": \"text\", \"always\": true}, \"v\": {\"kind\": \"text\", \"always\": false}, \"why\": {\"kind\": \"int\", \"always\": true}}}, {\"name\": \"odd\", \"params\": {}, \"ok\": {\"changed\": {\"kind\": \"bool\", \"always\": true}, \"msg\": {\"kind\": \"int\", \"always\": false}}, \"failure\": {\"changed\": {\"kind\": \"bool\", \"always\": true}, \"msg\": {\"kind\": \"text\", \"always\": true}}}]") (codes "{\"all\": {\"hosts\": [\"a\", \"b\"], \"vars\": {\"i1\": {\"f\": [-1, \"no\"], \"g\": true}}}, \"g2\": {\"hosts\": [\"a\"], \"vars\": {}}, \"_meta\": {\"hostvars\": {\"a\": {}, \"b\": {\"s1\": \"t\"}}}}") (codes "[{\"hosts\": \"all\", \"tasks\": [{\"ping\": null, \"register\": \"r1\", \"until\": \"r1.changed | default(true) == true\"}, {\"command\": {\"cmd\": \"x {{ r1.failed }}\"}, \"when\": \"(s1 is defined and s1 != 'x') or (inventory_hostname != 'a')\", \"register\": \"r1\", \"ignore_errors\": true, \"notify\": \"h1\"}, {\"vars\": {\"v1\": \"x\"}, \"block\": [{\"debug\": {\"msg\": \"{{ v1 }}\"}, \"register\": \"r3\"}]}], \"handlers\": [{\"loop\": \"{{ ansible_play_batch }}\", \"setup\": null, \"when\": \"item in ansible_play_batch\", \"register\": \"r1\", \"changed_when\": \"r1.failed == 'a'\", \"name\": \"h0\", \"listen\": \"t\"}, {\"odd\": null, \"changed_when\": \"inventory_hostname == 'a'\", \"name\": \"h1\", \"notify\": \"h2\"}, {\"debug\": {\"msg\": \"{{ hostvars['a'].r1.changed }}\"}, \"when\": [\"hostvars['a'].r1 is defined\", \"hostvars['a'].r1 is failed\"], \"register\": \"r3\", \"name\": \"h2\"}]}]") ≡ verdict (accepted 16)
unfolding reading
random_002527 = refl

random_002530 : found (codes "{\"g\": {\"hosts\": [\"b\", \"a\"]}, \"all\": {\"hosts\": [\"c\"], \"vars\": {\"inv\": [1, 2]}}, \"_meta\": {\"hostvars\": {\"a\": {\"opq\": 1.5, \"inv\": [\"x\"]}, \"b\": {\"k\": {\"z\": \"{{ q }}\"}}}}}") (codes "[{\"hosts\": \"all\", \"handlers\": [{\"setup\": null, \"register\": \"s\", \"name\": \"h0\"}], \"tasks\": [{\"loop\": \"{{ groups['g'] }}\", \"set_fact\": {\"s\": \"{{ v2.k | default(1) }}\"}, \"when\": [\"r is not skipped\"]}, {\"ping\": null, \"register\": \"s\", \"notify\": \"h0\"}], \"post_tasks\": [{\"block\": [{\"assert\": {\"that\": [\"((s.changed is failed) or ('a' in zz.stat.isdir)) and ((r.rc is changed) and (v1.stdout_lines is defined))\", \"hostvars['a'].opq.os_family is undefined\"]}, \"when\": [\"hostvars['b'].y is defined\"], \"notify\": \"h0\"}], \"always\": [], \"ignore_errors\": true}, {\"stat\": {\"path\": \"p\"}, \"when\": [\"hostvars['a'].r.rc is defined\"]}]}, {\"hosts\": \"all\", \"handlers\": [{\"setup\": null, \"when\": [\"r.rc is defined\"], \"register\": \"s\", \"name\": \"h0\"}, {\"stat\": {\"path\": \"p\"}, \"register\": \"s\", \"name\": \"h1\"}], \"tasks\": [{\"loop\": \"{{ inv }}\", \"stat\": {\"path\": \"p\"}, \"register\": \"s\"}], \"strategy\": \"free\", \"force_handlers\": true}]") ≡ verdict (refused (record { code = 1; line = 2; host = Some (codes "c") }))
unfolding reading
random_002530 = refl

random_002534 : found (codes "{\"g\": {\"hosts\": [\"b\", \"a\"]}, \"all\": {\"hosts\": [\"c\"], \"vars\": {\"inv\": [1, 2]}}, \"_meta\": {\"hostvars\": {\"a\": {\"opq\": 1.5, \"inv\": [\"x\"]}, \"b\": {\"k\": {\"z\": \"{{ q }}\"}}}}}") (codes "[{\"hosts\": \"g\", \"handlers\": [{\"loop\": \"{{ ansible_play_batch }}\", \"debug\": {\"msg\": \"a\"}, \"when\": \"inventory_hostname in ansible_play_batch\", \"register\": \"r\", \"ignore_errors\": true, \"name\": \"h0\"}, {\"set_fact\": {\"y\": \"{{ group_names.os_family }}\"}, \"register\": \"r\", \"name\": \"h1\"}], \"tasks\": [{\"ping\": null, \"when\": \"((r.failed is defined) and (ansible_play_batch.stdout < 3)) and ('b' in ansible_play_batch)\", \"register\": \"r\", \"changed_when\": false, \"until\": \"r is succeeded\", \"retries\": 2, \"ignore_errors\": false}, {\"set_fact\": {\"y\": \"{{ inventory_hostname | length }}\"}, \"ignore_errors\": true, \"notify\": \"h0\"}, {\"set_fact\": {\"y\": {\"k\": 1}}, \"when\": [\"s is defined and s is not failed\", \"r is not skipped\"], \"notify\": \"h0\"}], \"strategy\": \"free\", \"force_handlers\": true}, {\"hosts\": \"all\", \"tasks\": [{\"block\": [{\"command\": {\"cmd\": [{\"k\": null}]}, \"when\": [\"not (r is undefined or r is failed)\"], \"register\": \"s\", \"failed_when\": true}]}, {\"block\": [], \"rescue\": [{\"block\": [{\"command\": \"x\", \"when\": [\"y is defined\"], \"register\": \"s\", \"ignore_errors\": true}, {\"setup\": null, \"when\": [\"'a' in ansible_play_batch\"]}], \"rescue\": [], \"always\": [{\"debug\": {\"msg\": \"{{ inventory_hostname }}\"}, \"register\": \"s\"}], \"when\": [\"item.k is failed\", \"(('a' in hostvars['a'].r.rc) or (inventory_hostname.stdout is not defined)) or ((groups.g is failed) or (r.stdout is changed))\"]}], \"always\": []}, {\"ping\": null, \"when\": [\"hostvars['b'].y < 3\", \"'b' in ansible_play_batch\"]}], \"serial\": 2}]") ≡ verdict (refused (record { code = 4; line = 2; host = Some (codes "b") }))
unfolding reading
random_002534 = refl

random_002536 : found (codes "{\"g\": {\"hosts\": [\"b\", \"a\"]}, \"all\": {\"hosts\": [\"c\"], \"vars\": {\"inv\": [1, 2]}}, \"_meta\": {\"hostvars\": {\"a\": {\"opq\": 1.5, \"inv\": [\"x\"]}, \"b\": {\"k\": {\"z\": \"{{ q }}\"}}}}}") (codes "[{\"hosts\": \"a\", \"handlers\": [{\"loop\": [1, 2], \"assert\": {\"that\": \"inv.stdout\"}, \"when\": [\"s is defined and s is not failed\"], \"register\": \"r\", \"ignore_errors\": true, \"name\": \"h0\"}, {\"loop\": \"{{ ansible_play_batch }}\", \"set_fact\": {\"y\": 1}, \"when\": [\"hostvars['a'].inv is not skipped\", \"hostvars['b'].opq.rc is skipped\"], \"changed_when\": false, \"name\": \"h1\"}], \"tasks\": [{\"loop\": [], \"setup\": null, \"when\": [\"'a' in ansible_play_batch\", \"s is defined and s is not failed\"], \"notify\": \"h1\"}], \"serial\": [1, 2]}]") ≡ verdict (refused (record { code = 4; line = 3; host = Some (codes "a") }))
unfolding reading
random_002536 = refl

random_002548 : found (codes "{\"g\": {\"hosts\": [\"b\", \"a\"]}, \"all\": {\"hosts\": [\"c\"], \"vars\": {\"inv\": [1, 2]}}, \"_meta\": {\"hostvars\": {\"a\": {\"opq\": 1.5, \"inv\": [\"x\"]}, \"b\": {\"k\": {\"z\": \"{{ q }}\"}}}}}") (codes "[{\"hosts\": \"all\", \"handlers\": [{\"command\": \"x\", \"until\": true, \"name\": \"h0\"}, {\"setup\": null, \"failed_when\": true, \"until\": \"zz.changed\", \"retries\": 1, \"name\": \"h1\"}], \"tasks\": [{\"loop\": \"{{ groups.all }}\", \"setup\": null, \"when\": \"y\", \"register\": \"r\"}]}]") ≡ verdict (refused (record { code = 1; line = 2; host = Some (codes "c") }))
unfolding reading
random_002548 = refl

random_002550 : found (codes "{\"g\": {\"hosts\": [\"b\", \"a\"]}, \"all\": {\"hosts\": [\"c\"], \"vars\": {\"inv\": [1, 2]}}, \"_meta\": {\"hostvars\": {\"a\": {\"opq\": 1.5, \"inv\": [\"x\"]}, \"b\": {\"k\": {\"z\": \"{{ q }}\"}}}}}") (codes "[{\"hosts\": \"b,a\", \"handlers\": [{\"assert\": {\"that\": \"inventory_hostname.stdout is undefined\"}, \"register\": \"r\", \"name\": \"h0\"}, {\"set_fact\": {\"s\": \"a\"}, \"register\": \"s\", \"name\": \"h1\"}], \"tasks\": [{\"command\": \"x\", \"register\": \"s\", \"ignore_errors\": true, \"notify\": \"h1\"}, {\"setup\": null, \"when\": [\"r is not skipped\"], \"register\": \"r\", \"notify\": \"h1\"}], \"vars\": {\"v1\": \"{{ r.results }}\"}}]") ≡ verdict (refused (record { code = 1; line = 3; host = Some (codes "b") }))
unfolding reading
random_002550 = refl

random_002556 : found (codes "{\"g\": {\"hosts\": [\"b\", \"a\"]}, \"all\": {\"hosts\": [\"c\"], \"vars\": {\"inv\": [1, 2]}}, \"_meta\": {\"hostvars\": {\"a\": {\"opq\": 1.5, \"inv\": [\"x\"]}, \"b\": {\"k\": {\"z\": \"{{ q }}\"}}}}}") (codes "[{\"hosts\": \"g\", \"tasks\": [{\"meta\": \"flush_handlers\"}, {\"block\": [], \"rescue\": [{\"command\": \"x\", \"when\": [\"s is defined and s is not failed\"]}, {\"assert\": {\"that\": \"(ansible_play_batch.rc) or (not (group_names.k is not defined))\"}}]}, {\"loop\": [], \"set_fact\": {\"s\": 1}}], \"serial\": [1, 2], \"gather_facts\": true}]") ≡ verdict (accepted 4)
unfolding reading
random_002556 = refl

random_002560 : found (codes "{\"g\": {\"hosts\": [\"b\", \"a\"]}, \"all\": {\"hosts\": [\"c\"], \"vars\": {\"inv\": [1, 2]}}, \"_meta\": {\"hostvars\": {\"a\": {\"opq\": 1.5, \"inv\": [\"x\"]}, \"b\": {\"k\": {\"z\": \"{{ q }}\"}}}}}") (codes "[{\"hosts\": \"g\", \"tasks\": [{\"meta\": \"flush_handlers\"}, {\"block\": [{\"block\": [{\"fail\": {\"msg\": \"m\"}, \"when\": [\"'b' in ansible_play_batch\"]}, {\"loop\": \"{{ r.results }}\", \"set_fact\": {\"s\": true}}], \"always\": []}, {\"loop\": \"{{ groups.all }}\", \"ping\": null}]}, {\"set_fact\": {\"y\": \"{{ s.changed }}\"}, \"when\": \"r.stdout is changed\", \"register\": \"s\", \"ignore_errors\": true}, {\"loop\": \"{{ ansible_play_batch }}\", \"set_fact\": {\"s\": [\"{{ true }}\"]}, \"when\": [\"item in ansible_play_batch\", \"r is not skipped\"], \"register\": \"r\"}], \"post_tasks\": [{\"block\": [{\"block\": [{\"loop\": [1, 2], \"debug\": {\"msg\": \"{{ hostvars['a'].inv | length }}\"}, \"register\": \"r\", \"changed_when\": false}], \"rescue\": [{\"loop\": \"{{ groups['g'] }}\", \"command\": {\"cmd\": [1, 2]}, \"when\": [\"hostvars['a'].r.rc is defined\"]}]}, {\"assert\": {\"that\": \"v1.stdout_lines is not defined\"}}], \"rescue\": [], \"always\": [{\"block\": [], \"rescue\": []}]}, {\"block\": [{\"stat\": {\"path\": \"p\"}, \"when\": [\"y is defined\"], \"register\": \"s\", \"until\": true, \"retries\": 2}], \"rescue\": [{\"fail\": {\"msg\": \"m\"}, \"when\": \"r.stdout is changed\", \"register\": \"r\"}, {\"set_fact\": {\"y\": \"{{ ansible_hostname.stdout }}\"}, \"when\": [\"r is not skipped\", \"r is defined\"], \"register\": \"s\", \"ignore_errors\": true}]}, {\"block\": []}], \"serial\": \"50%\", \"gather_facts\": true, \"vars\": {\"v1\": \"x{{ hostvars['a'].inv }}\"}}]") ≡ verdict (refused (record { code = 1; line = 7; host = Some (codes "b") }))
unfolding reading
random_002560 = refl

random_002568 : found (codes "{\"g\": {\"hosts\": [\"b\", \"a\"]}, \"all\": {\"hosts\": [\"c\"], \"vars\": {\"inv\": [1, 2]}}, \"_meta\": {\"hostvars\": {\"a\": {\"opq\": 1.5, \"inv\": [\"x\"]}, \"b\": {\"k\": {\"z\": \"{{ q }}\"}}}}}") (codes "[{\"hosts\": \"a\", \"tasks\": [{\"block\": [], \"always\": []}], \"strategy\": \"free\", \"serial\": [1, 2]}, {\"hosts\": \"a\", \"handlers\": [{\"loop\": \"{{ r.stdout_lines }}\", \"command\": \"x\", \"register\": \"s\", \"ignore_errors\": true, \"name\": \"h0\"}], \"tasks\": [{\"set_fact\": {\"y\": \"{{ item.hostname | default('d') }}\"}, \"when\": [\"hostvars['a'].r.rc is defined\", \"'b' in ansible_play_batch\"], \"notify\": \"h0\", \"vars\": {\"v2\": {\"k\": \"{{ groups.g }}\"}}}, {\"loop\": [\"a\", \"b\"], \"command\": {\"cmd\": {\"k\": 1}}, \"register\": \"r\", \"notify\": \"h0\"}], \"post_tasks\": [{\"loop\": [], \"assert\": {\"that\": [\"ansible_play_batch.k is failed\", \"hostvars['b'].s.msg is changed\"]}, \"when\": [\"not (r is undefined or r is failed)\"], \"register\": \"r\", \"vars\": {\"v2\": \"{{ [1, 2] }}\"}}, {\"command\": {\"cmd\": \"{{ (hostvars[item].inv is not defined) and (hostvars[inventory_hostname].inv is not skipped) }}\"}, \"register\": \"r\"}]}]") ≡ verdict (refused (record { code = 4; line = 5; host = Some (codes "a") }))
unfolding reading
random_002568 = refl

random_002569 : found_with (codes "[{\"name\": \"probe\", \"params\": {\"n\": {\"kind\": \"int\", \"required\": false}, \"l\": {\"kind\": {\"list\": \"text\", \"max\": 3}, \"required\": false}}, \"ok\": {\"changed\": {\"kind\": \"bool\", \"always\": true}, \"v\": {\"kind\": \"int\", \"always\": false}, \"rows\": {\"kind\": {\"list\": \"text\", \"max\": 2}, \"always\": true}, \"deep\": {\"kind\": {\"rec\": {\"a\": {\"kind\": \"text\", \"always\": true}, \"b\": {\"kind\": \"bool\", \"always\": false}}}, \"always\": false}}, \"failure\": {\"changed\": {\"kind\": \"bool\", \"always\": true}, \"msg\": {\"kind\": \"text\", \"always\": true}, \"v\": {\"kind\": \"text\", \"always\": false}, \"why\": {\"kind\": \"int\", \"always\": true}}}, {\"name\": \"odd\", \"params\": {}, \"ok\": {\"changed\": {\"kind\": \"bool\", \"always\": true}, \"msg\": {\"kind\": \"int\", \"always\": false}}, \"failure\": {\"changed\": {\"kind\": \"bool\", \"always\": true}, \"msg\": {\"kind\": \"text\", \"always\": true}}}]") (codes "{\"all\": {\"hosts\": [\"a\", \"b\", \"c\"], \"vars\": {\"i1\": [\"b\", \"t\"], \"i2\": 0}}, \"g2\": {\"hosts\": [\"a\", \"b\"], \"vars\": {\"i1\": 3}}, \"_meta\": {\"hostvars\": {\"a\": {}, \"b\": {}, \"c\": {\"s1\": \"a\", \"op\": 1.5}}}}") (codes "[{\"hosts\": \"all\", \"strategy\": \"free\", \"gather_facts\": true, \"tasks\": [{\"vars\": {}, \"assert\": {\"that\": [\"r1 is skipped\"]}, \"register\": \"r3\", \"failed_when\": true}, {\"debug\": {\"msg\": \"{{ r2 }}\"}, \"when\": \"r2 is defined\", \"register\": \"r3\", \"ignore_errors\": true}, {\"set_fact\": {\"s3\": [false]}, \"when\": [\"s1 is defined\", \"s1 is succeeded\"], \"register\": \"r2\"}, {\"when\": \"r2 == 'a'\", \"block\": [{\"vars\": {\"v3\": \"{{ r3.results }}\"}, \"stat\": {\"path\": \"/\"}, \"register\": \"r3\", \"failed_when\": \"r3.stat.size | default(true) == true\"}, {\"setup\": null, \"register\": \"r3\", \"until\": false, \"retries\": 2}], \"rescue\": [{\"debug\": {\"msg\": \"x{{ none }}\"}, \"register\": \"r2\", \"changed_when\": \"inventory_hostname == 'a'\", \"failed_when\": \"r2.failed | default(true) == true\", \"ignore_errors\": true}]}], \"force_handlers\": true}]") ≡ verdict (refused (record { code = 1; line = 3; host = Some (codes "a") }))
unfolding reading
random_002569 = refl

random_002578 : found (codes "{\"g\": {\"hosts\": [\"b\", \"a\"]}, \"all\": {\"hosts\": [\"c\"], \"vars\": {\"inv\": [1, 2]}}, \"_meta\": {\"hostvars\": {\"a\": {\"opq\": 1.5, \"inv\": [\"x\"]}, \"b\": {\"k\": {\"z\": \"{{ q }}\"}}}}}") (codes "[{\"hosts\": \"all\", \"tasks\": [{\"ping\": null, \"when\": [\"'b' in ansible_play_batch\"], \"register\": \"r\"}]}]") ≡ verdict (accepted 3)
unfolding reading
random_002578 = refl

random_002586 : found (codes "{\"g\": {\"hosts\": [\"b\", \"a\"]}, \"all\": {\"hosts\": [\"c\"], \"vars\": {\"inv\": [1, 2]}}, \"_meta\": {\"hostvars\": {\"a\": {\"opq\": 1.5, \"inv\": [\"x\"]}, \"b\": {\"k\": {\"z\": \"{{ q }}\"}}}}}") (codes "[{\"hosts\": \"a\", \"tasks\": [{\"block\": [{\"block\": [{\"ping\": null, \"when\": \"'a' in s.os_family\", \"register\": \"r\", \"changed_when\": false, \"ignore_errors\": true}, {\"assert\": {\"that\": [\"hostvars[item].inv < 3\", \"('a' in hostvars['a'].ansible_hostname) or (r.failed < 3)\"]}, \"ignore_errors\": true}], \"when\": \"inv is succeeded\", \"ignore_errors\": false}], \"rescue\": [{\"block\": [{\"stat\": {\"path\": \"p\"}, \"ignore_errors\": false}], \"rescue\": []}]}], \"strategy\": \"free\", \"serial\": \"50%\"}]") ≡ verdict (refused (record { code = 4; line = 4; host = Some (codes "a") }))
unfolding reading
random_002586 = refl

random_002590 : found (codes "{\"g\": {\"hosts\": [\"b\", \"a\"]}, \"all\": {\"hosts\": [\"c\"], \"vars\": {\"inv\": [1, 2]}}, \"_meta\": {\"hostvars\": {\"a\": {\"opq\": 1.5, \"inv\": [\"x\"]}, \"b\": {\"k\": {\"z\": \"{{ q }}\"}}}}}") (codes "[{\"hosts\": \"all\", \"handlers\": [{\"command\": \"x\", \"register\": \"r\", \"ignore_errors\": true, \"name\": \"h0\"}, {\"assert\": {\"that\": \"not (hostvars[groups['g'][0]].opq.os_family is not defined)\"}, \"ignore_errors\": true, \"name\": \"h1\"}], \"tasks\": [{\"setup\": null, \"when\": [\"'b' in ansible_play_batch\", \"r is defined\"], \"register\": \"r\", \"ignore_errors\": true}, {\"set_fact\": {\"s\": 1}, \"when\": [\"r is defined and r is succeeded\"], \"register\": \"r\", \"notify\": \"h0\"}, {\"block\": [], \"rescue\": [{\"setup\": null, \"ignore_errors\": true}]}, {\"assert\": {\"that\": \"v1.rc is failed\"}, \"when\": [\"'a' in ansible_play_batch\"]}]}, {\"hosts\": \"a\", \"handlers\": [{\"fail\": {\"msg\": \"m\"}, \"register\": \"r\", \"name\": \"h0\"}], \"tasks\": [{\"fail\": {\"msg\": \"m\"}, \"ignore_errors\": false, \"notify\": \"h0\"}, {\"block\": [{\"set_fact\": {\"s\": \"{{ hostvars['a'].inv | length }}\"}, \"when\": [\"(item == 1) or (('a' in inventory_hostname.changed) and (hostvars['a'].inv < 3))\", \"'b' in ansible_play_batch\"], \"changed_when\": \"zz is changed\"}, {\"stat\": {\"path\": \"p\"}, \"register\": \"s\", \"changed_when\": \"s is changed\", \"ignore_errors\": true}]}, {\"loop\": [1, 2], \"ping\": null, \"when\": [\"hostvars[inventory_hostname].ansible_hostname.k\", \"not (v1.hostname is defined)\"], \"register\": \"s\"}, {\"assert\": {\"that\": [\"((group_names is not defined) or (hostvars[inventory_hostname].inv < 3)) and (inventory_hostname == 'a')\", \"group_names.rc is changed\"]}, \"changed_when\": false, \"notify\": \"h0\", \"vars\": {\"v1\": [\"{{ s.stat.isdir }}\"]}}]}]") ≡ verdict (refused (record { code = 1; line = 6; host = Some (codes "c") }))
unfolding reading
random_002590 = refl

random_002599 : found_with (codes "[{\"name\": \"probe\", \"params\": {\"n\": {\"kind\": \"int\", \"required\": false}, \"l\": {\"kind\": {\"list\": \"text\", \"max\": 3}, \"required\": false}}, \"ok\": {\"changed\": {\"kind\": \"bool\", \"always\": true}, \"v\": {\"kind\": \"int\", \"always\": false}, \"rows\": {\"kind\": {\"list\": \"text\", \"max\": 2}, \"always\": true}, \"deep\": {\"kind\": {\"rec\": {\"a\": {\"kind\": \"text\", \"always\": true}, \"b\": {\"kind\": \"bool\", \"always\": false}}}, \"always\": false}}, \"failure\": {\"changed\": {\"kind\": \"bool\", \"always\": true}, \"msg\": {\"kind\": \"text\", \"always\": true}, \"v\": {\"kind\": \"text\", \"always\": false}, \"why\": {\"kind\": \"int\", \"always\": true}}}, {\"name\": \"odd\", \"params\": {}, \"ok\": {\"changed\": {\"kind\": \"bool\", \"always\": true}, \"msg\": {\"kind\": \"int\", \"always\": false}}, \"failure\": {\"changed\": {\"kind\": \"bool\", \"always\": true}, \"msg\": {\"kind\": \"text\", \"always\": true}}}]") (codes "{\"all\": {\"hosts\": [\"a\"], \"vars\": {}}, \"g1\": {\"hosts\": [], \"vars\": {}}, \"_meta\": {\"hostvars\": {\"a\": {\"i2\": [], \"s1\": \"a\", \"op\": 1.5}}}}") (codes "[{\"hosts\": \"all\", \"strategy\": \"free\", \"gather_facts\": true, \"tasks\": [{\"set_fact\": {\"s2\": 1}}, {\"fail\": null, \"when\": \"inventory_hostname in ansible_play_batch\", \"register\": \"r1\"}], \"post_tasks\": [{\"loop\": \"{{ ansible_play_batch }}\", \"setup\": null, \"when\": \"item in ansible_play_batch\", \"register\": \"r1\", \"changed_when\": \"inventory_hostname == 'a'\"}], \"force_handlers\": true}]") ≡ verdict (accepted 2)
unfolding reading
random_002599 = refl

random_002604 : found (codes "{\"g\": {\"hosts\": [\"b\", \"a\"]}, \"all\": {\"hosts\": [\"c\"], \"vars\": {\"inv\": [1, 2]}}, \"_meta\": {\"hostvars\": {\"a\": {\"opq\": 1.5, \"inv\": [\"x\"]}, \"b\": {\"k\": {\"z\": \"{{ q }}\"}}}}}") (codes "[{\"hosts\": \"g\", \"tasks\": [{\"fail\": null, \"when\": [\"r is not skipped\"], \"register\": \"r\"}, {\"fail\": {\"msg\": \"m\"}, \"when\": [\"'a' in ansible_play_batch\"], \"register\": \"s\", \"ignore_errors\": true}], \"serial\": [1, 2]}]") ≡ verdict (refused (record { code = 1; line = 2; host = Some (codes "b") }))
unfolding reading
random_002604 = refl

random_002616 : found (codes "{\"g\": {\"hosts\": [\"b\", \"a\"]}, \"all\": {\"hosts\": [\"c\"], \"vars\": {\"inv\": [1, 2]}}, \"_meta\": {\"hostvars\": {\"a\": {\"opq\": 1.5, \"inv\": [\"x\"]}, \"b\": {\"k\": {\"z\": \"{{ q }}\"}}}}}") (codes "[{\"hosts\": \"all\", \"tasks\": [{\"fail\": {\"msg\": \"m\"}, \"when\": [\"r is defined\", \"s is defined and s is not failed\"]}, {\"meta\": \"flush_handlers\"}, {\"loop\": \"{{ inv }}\", \"assert\": {\"that\": \"r.k is succeeded\"}, \"register\": \"s\"}]}]") ≡ verdict (refused (record { code = 1; line = 4; host = Some (codes "c") }))
unfolding reading
random_002616 = refl

random_002620 : found (codes "{\"g\": {\"hosts\": [\"b\", \"a\"]}, \"all\": {\"hosts\": [\"c\"], \"vars\": {\"inv\": [1, 2]}}, \"_meta\": {\"hostvars\": {\"a\": {\"opq\": 1.5, \"inv\": [\"x\"]}, \"b\": {\"k\": {\"z\": \"{{ q }}\"}}}}}") (codes "[{\"hosts\": \"all\", \"handlers\": [{\"loop\": [\"a\", \"b\"], \"debug\": {\"msg\": \"x{{ hostvars[item].r.changed }}\"}, \"register\": \"r\", \"changed_when\": true, \"name\": \"h0\"}, {\"command\": {\"cmd\": \"{{ inv.changed | length }}\"}, \"register\": \"r\", \"ignore_errors\": true, \"name\": \"h1\"}], \"tasks\": [{\"block\": [{\"block\": [{\"loop\": [], \"ping\": null, \"register\": \"s\", \"notify\": \"h1\"}, {\"command\": {\"cmd\": \"{{ opq.stdout }}\"}}], \"rescue\": [], \"always\": [{\"fail\": {\"msg\": \"m\"}, \"when\": \"(groups['g'][0] in ansible_play_batch) and (r.stdout is defined)\", \"register\": \"s\", \"vars\": {\"v1\": \"{{ groups.g | length }}\"}}], \"when\": \"(r.changed is changed) or (hostvars['a'].inv is skipped)\"}], \"always\": [{\"block\": [{\"setup\": null, \"when\": [\"r is not skipped\"], \"register\": \"r\", \"vars\": {\"v1\": \"{{ v2.rc is skipped }}\"}}]}]}, {\"debug\": {\"msg\": 1}, \"when\": [\"hostvars['b'].s.hostname == 'a'\", \"inv.rc is changed\"], \"register\": \"r\", \"notify\": \"h0\"}, {\"debug\": {\"msg\": \"{{ ansible_play_batch }}\"}, \"when\": [\"r.k is not defined\", \"('a' in ansible_play_batch) or ('a' in ansible_play_batch)\"], \"register\": \"s\", \"ignore_errors\": true}], \"post_tasks\": [{\"block\": [], \"rescue\": [{\"debug\": {\"msg\": {\"k\": \"{{ none }}\"}}, \"failed_when\": true, \"notify\": \"h0\"}, {\"block\": [{\"set_fact\": {\"s\": \"x{{ [1, 2] }}\"}, \"when\": [\"y is defined\", \"r.rc is defined\"]}], \"always\": []}]}, {\"loop\": \"{{ inv }}\", \"command\": \"x\", \"ignore_errors\": true, \"notify\": \"h0\"}, {\"command\": \"x\", \"when\": \"not (inventory_hostname < 3)\", \"register\": \"s\"}], \"strategy\": \"free\"}, {\"hosts\": \"b,a\", \"tasks\": [{\"block\": [], \"always\": [], \"when\": \"ansible_facts is undefined\"}, {\"setup\": null, \"register\": \"s\"}], \"serial\": [1, 2], \"force_handlers\": true}]") ≡ verdict (refused (record { code = 1; line = 4; host = Some (codes "c") }))
unfolding reading
random_002620 = refl

random_100004 : found (codes "{\"g\": {\"hosts\": [\"b\", \"a\"]}, \"all\": {\"hosts\": [\"c\"], \"vars\": {\"inv\": [1, 2]}}, \"_meta\": {\"hostvars\": {\"a\": {\"opq\": 1.5, \"inv\": [\"x\"]}, \"b\": {\"k\": {\"z\": \"{{ q }}\"}}}}}") (codes "[{\"hosts\": \"g\", \"tasks\": [{\"block\": [], \"rescue\": [{\"assert\": {\"that\": \"item in ansible_play_batch\"}, \"when\": [\"'a' in ansible_play_batch\", \"r.rc is defined\"], \"register\": \"r\", \"changed_when\": false}, {\"stat\": {\"path\": \"p\"}, \"when\": \"not (r.results is succeeded)\"}], \"always\": [], \"when\": \"(group_names < 3) or ((opq.stdout_lines == 1) and (s.os_family is defined))\"}, {\"block\": [{\"fail\": {\"msg\": \"m\"}, \"changed_when\": false}, {\"block\": []}], \"rescue\": [], \"always\": [{\"block\": []}]}]}]") ≡ verdict (accepted 2)
unfolding reading
random_100004 = refl

random_100005 : found_with (codes "[{\"name\": \"probe\", \"params\": {\"n\": {\"kind\": \"int\", \"required\": false}, \"l\": {\"kind\": {\"list\": \"text\", \"max\": 3}, \"required\": false}}, \"ok\": {\"changed\": {\"kind\": \"bool\", \"always\": true}, \"v\": {\"kind\": \"int\", \"always\": false}, \"rows\": {\"kind\": {\"list\": \"text\", \"max\": 2}, \"always\": true}, \"deep\": {\"kind\": {\"rec\": {\"a\": {\"kind\": \"text\", \"always\": true}, \"b\": {\"kind\": \"bool\", \"always\": false}}}, \"always\": false}}, \"failure\": {\"changed\": {\"kind\": \"bool\", \"always\": true}, \"msg\": {\"kind\": \"text\", \"always\": true}, \"v\": {\"kind\": \"text\", \"always\": false}, \"why\": {\"kind\": \"int\", \"always\": true}}}, {\"name\": \"odd\", \"params\": {}, \"ok\": {\"changed\": {\"kind\": \"bool\", \"always\": true}, \"msg\": {\"kind\": \"int\", \"always\": false}}, \"failure\": {\"changed\": {\"kind\": \"bool\", \"always\": true}, \"msg\": {\"kind\": \"text\", \"always\": true}}}]") (codes "{\"all\": {\"hosts\": [\"a\", \"b\", \"c\"], \"vars\": {\"i1\": 1, \"i2\": 0, \"op\": 1.5}}, \"_meta\": {\"hostvars\": {\"a\": {\"i1\": 3}, \"b\": {\"op\": 1.5}, \"c\": {}}}}") (codes "[{\"hosts\": \"all\", \"serial\": \"50%\", \"tasks\": [{\"probe\": {}, \"changed_when\": true, \"failed_when\": true}, {\"meta\": \"flush_handlers\"}]}]") ≡ verdict (accepted 3)
unfolding reading
random_100005 = refl

random_100012 : found (codes "{\"g\": {\"hosts\": [\"b\", \"a\"]}, \"all\": {\"hosts\": [\"c\"], \"vars\": {\"inv\": [1, 2]}}, \"_meta\": {\"hostvars\": {\"a\": {\"opq\": 1.5, \"inv\": [\"x\"]}, \"b\": {\"k\": {\"z\": \"{{ q }}\"}}}}}") (codes "[{\"hosts\": \"b,a\", \"tasks\": [{\"ping\": null, \"when\": [\"hostvars[item].inv\", \"(inventory_hostname.msg is not defined) and ('b' in ansible_play_batch)\"]}, {\"fail\": {\"msg\": \"m\"}, \"when\": [\"r is defined\"]}, {\"command\": {\"cmd\": \"{{ hostvars['a'].inv }}\"}}, {\"meta\": \"flush_handlers\"}], \"force_handlers\": true}]") ≡ verdict (refused (record { code = 1; line = 2; host = Some (codes "b") }))
unfolding reading
random_100012 = refl
