-- Cases of thin, computed from the bytes of their files.
use Rattle.std.specs.Prelude.{◌≡◌, refl, Some, codes}
use Rattle.pb_language.specs.Verdict.{accepted, refused}
use Rattle.pb_byte_rows.specs.Found.{verdict, found}
use Rattle.pb_byte_rows.proofs.Computing.{reading}

thin_000001 : found (codes "{\"all\":{\"hosts\":[\"h1\"]}}") (codes "[{\"hosts\": \"all\", \"tasks\": [{\"debug\": {\"msg\": {}}, \"register\": \"s1\"}, {\"command\": \"x\"}]}]") ≡ verdict (accepted 1)
unfolding reading
thin_000001 = refl

thin_000002 : found (codes "{\"all\":{\"hosts\":[\"h1\"]}}") (codes "[{\"hosts\": \"all\", \"tasks\": [{\"set_fact\": {\"s2\": \"{{ false }}\"}}]}]") ≡ verdict (accepted 0)
unfolding reading
thin_000002 = refl

thin_000003 : found (codes "{\"all\":{\"hosts\":[\"h1\"]}}") (codes "[{\"hosts\": \"all\", \"tasks\": [{\"command\": {\"cmd\": \"{{ inventory_hostname }}\"}, \"register\": \"r1\", \"when\": true}, {\"set_fact\": {\"s1\": {}}, \"register\": \"r3\"}]}]") ≡ verdict (accepted 1)
unfolding reading
thin_000003 = refl

thin_000004 : found (codes "{\"all\":{\"hosts\":[\"h1\"]}}") (codes "[{\"hosts\": \"all\", \"tasks\": [{\"command\": \"x\", \"name\": \"task 0\"}, {\"command\": \"x\", \"register\": \"r2\"}]}]") ≡ verdict (accepted 2)
unfolding reading
thin_000004 = refl

thin_000005 : found (codes "{\"all\":{\"hosts\":[\"h1\"]}}") (codes "[{\"hosts\": \"all\", \"tasks\": [{\"command\": \"x\"}, {\"debug\": {\"msg\": {}}, \"name\": \"task 1\"}, {\"ping\": null, \"name\": \"task 2\"}, {\"command\": \"x\", \"name\": \"task 3\"}, {\"command\": \"x\", \"register\": \"r2\"}, {\"command\": {\"cmd\": \"{{ inventory_hostname }}\"}, \"register\": \"s1\", \"when\": \"'h' in inventory_hostname\"}]}]") ≡ verdict (accepted 5)
unfolding reading
thin_000005 = refl

thin_000006 : found (codes "{\"all\":{\"hosts\":[\"h1\"]}}") (codes "[{\"hosts\": \"all\", \"tasks\": [{\"set_fact\": {\"s1\": \"{{ not 'web' not in '' }}\"}, \"name\": \"task 0\"}, {\"command\": {\"cmd\": {\"g\": \"{{ inventory_hostname == 'h1' }}\", \"h\": -1}}, \"register\": \"r1\", \"name\": \"task 1\"}]}]") ≡ verdict (refused (record { code = 4; line = 3; host = Some (codes "h1") }))
unfolding reading
thin_000006 = refl

thin_000007 : found (codes "{\"all\":{\"hosts\":[\"h1\"]}}") (codes "[{\"hosts\": \"all\", \"tasks\": [{\"ping\": null}, {\"command\": \"x\", \"register\": \"r1\"}, {\"set_fact\": {\"s3\": {}, \"s1\": []}}], \"name\": \"play\"}]") ≡ verdict (accepted 2)
unfolding reading
thin_000007 = refl

thin_000008 : found (codes "{\"all\":{\"hosts\":[\"h1\"]}}") (codes "[{\"hosts\": \"all\", \"tasks\": [{\"command\": \"x\", \"register\": \"r2\", \"when\": true}, {\"command\": \"x\", \"register\": \"s1\", \"when\": \"r2.failed\"}]}]") ≡ verdict (accepted 2)
unfolding reading
thin_000008 = refl

thin_000009 : found (codes "{\"all\":{\"hosts\":[\"h1\"]}}") (codes "[{\"hosts\": \"all\", \"tasks\": [{\"debug\": {\"msg\": \"{{ 'it\\\\'s' }}\"}, \"register\": \"r3\", \"when\": \"r1.failed and r1.changed\"}], \"name\": \"play\"}]") ≡ verdict (refused (record { code = 1; line = 2; host = Some (codes "h1") }))
unfolding reading
thin_000009 = refl

thin_000010 : found (codes "{\"all\":{\"hosts\":[\"h1\"]}}") (codes "[{\"hosts\": \"all\", \"tasks\": [{\"command\": \"x\", \"register\": \"s1\"}, {\"command\": {\"cmd\": \"x\", \"chdir\": \"/t\"}, \"register\": \"s1\", \"when\": \"s1.failed\", \"name\": \"task 1\"}, {\"command\": {\"cmd\": \"x\", \"chdir\": \"/t\"}, \"name\": \"task 2\"}, {\"set_fact\": {\"s3\": \"a { b } c\", \"s2\": {}}}, {\"debug\": {\"msg\": \"{{ True and s3.changed=='a' }}\"}}]}]") ≡ verdict (refused (record { code = 4; line = 6; host = Some (codes "h1") }))
unfolding reading
thin_000010 = refl

thin_000011 : found (codes "{\"all\":{\"hosts\":[\"h1\"]}}") (codes "[{\"hosts\": \"all\", \"tasks\": [{\"command\": \"x\"}, {\"command\": \"x\", \"when\": \"inventory_hostname == 'h1'\"}, {\"debug\": {\"msg\": \"{{ true }}\"}, \"register\": \"r3\", \"name\": \"task 2\"}, {\"command\": {\"cmd\": \"{{ inventory_hostname }}\"}, \"name\": \"task 3\"}], \"name\": \"play\"}]") ≡ verdict (accepted 3)
unfolding reading
thin_000011 = refl

thin_000012 : found (codes "{\"all\":{\"hosts\":[\"h1\"]}}") (codes "[{\"hosts\": \"all\", \"tasks\": [{\"command\": \"x\", \"register\": \"r3\"}, {\"set_fact\": {\"s2\": {}, \"s1\": -1}}, {\"debug\": {\"msg\": \"text\"}, \"register\": \"s1\"}, {\"command\": \"x\", \"name\": \"task 3\"}]}]") ≡ verdict (accepted 2)
unfolding reading
thin_000012 = refl

thin_000013 : found (codes "{\"all\":{\"hosts\":[\"h1\"]}}") (codes "[{\"hosts\": \"all\", \"tasks\": [{\"command\": {\"cmd\": \"{{ inventory_hostname }}\"}}, {\"command\": \"x\", \"register\": \"r3\"}, {\"ping\": null, \"register\": \"r3\", \"when\": \"r3.failed and r3.changed\"}]}]") ≡ verdict (accepted 3)
unfolding reading
thin_000013 = refl

thin_000014 : found (codes "{\"all\":{\"hosts\":[\"h1\"]}}") (codes "[{\"hosts\": \"all\", \"tasks\": [{\"command\": {\"cmd\": \"x\", \"chdir\": \"/t\"}}]}]") ≡ verdict (accepted 1)
unfolding reading
thin_000014 = refl

thin_000015 : found (codes "{\"all\":{\"hosts\":[\"h1\"]}}") (codes "[{\"hosts\": \"all\", \"tasks\": [{\"ping\": null}, {\"command\": \"x\", \"register\": \"s1\", \"name\": \"task 1\"}]}]") ≡ verdict (accepted 2)
unfolding reading
thin_000015 = refl

thin_000016 : found (codes "{\"all\":{\"hosts\":[\"h1\"]}}") (codes "[{\"hosts\": \"all\", \"tasks\": [{\"set_fact\": {\"s2\": [\"{{ inventory_hostname }}\"]}, \"register\": \"r1\", \"name\": \"task 0\"}, {\"command\": \"x\", \"register\": \"s1\", \"name\": \"task 1\"}, {\"set_fact\": {\"s2\": []}, \"register\": \"s1\"}]}]") ≡ verdict (accepted 1)
unfolding reading
thin_000016 = refl

thin_000017 : found (codes "{\"all\":{\"hosts\":[\"h1\"]}}") (codes "[{\"hosts\": \"all\", \"tasks\": [{\"ping\": null, \"register\": \"r3\", \"when\": \"true\", \"name\": \"task 0\"}, {\"command\": \"x\", \"register\": \"r1\"}, {\"command\": \"x\", \"when\": \"r3.changed\"}, {\"command\": {\"cmd\": \"{{ inventory_hostname }}\"}, \"when\": \"r1.failed and r1.changed\", \"name\": \"task 3\"}, {\"set_fact\": {\"s1\": \"{{ True }}\"}, \"when\": true}, {\"command\": \"x\"}]}]") ≡ verdict (accepted 5)
unfolding reading
thin_000017 = refl

thin_000018 : found (codes "{\"all\":{\"hosts\":[\"h1\"]}}") (codes "[{\"hosts\": \"all\", \"tasks\": [{\"command\": \"x\", \"register\": \"s1\", \"when\": \"true\"}, {\"debug\": {\"msg\": []}, \"register\": \"r3\", \"name\": \"task 1\"}]}]") ≡ verdict (accepted 1)
unfolding reading
thin_000018 = refl

thin_000019 : found (codes "{\"all\":{\"hosts\":[\"h1\"]}}") (codes "[{\"hosts\": \"all\", \"tasks\": [{\"command\": \"x\", \"register\": \"r1\"}, {\"command\": {\"cmd\": \"x\", \"chdir\": \"/t\"}, \"name\": \"task 1\"}, {\"set_fact\": {\"s3\": []}, \"register\": \"s1\", \"when\": \"r1.failed\"}, {\"debug\": {\"msg\": {\"g\": \"{{ r1 }}\"}}, \"register\": \"r3\"}, {\"ping\": null, \"register\": \"r3\", \"name\": \"task 4\"}, {\"command\": {\"cmd\": \"x\", \"chdir\": \"/t\"}, \"when\": \"'web' in group_names\", \"name\": \"task 5\"}, {\"ping\": null}, {\"debug\": {\"msg\": [{\"h\": 7, \"g\": -1}, \"{{ False }}\"]}, \"register\": \"r1\"}, {\"command\": \"x\", \"register\": \"r3\", \"when\": \"r1.failed\"}], \"name\": \"play\"}]") ≡ verdict (accepted 6)
unfolding reading
thin_000019 = refl

thin_000020 : found (codes "{\"all\":{\"hosts\":[\"h1\"]}}") (codes "[{\"hosts\": \"all\", \"tasks\": [{\"debug\": {\"msg\": []}, \"register\": \"r1\"}, {\"command\": \"x\", \"when\": \"r1.changed\"}, {\"command\": \"x\", \"when\": \"r1.failed and r1.changed\"}, {\"ping\": null}, {\"set_fact\": {\"s1\": \"{{ not true }}\", \"s2\": \"{{ '' }}\"}, \"name\": \"task 4\"}, {\"debug\": {\"msg\": \"{{ s2 }}\"}, \"register\": \"r1\"}, {\"debug\": {\"msg\": []}, \"register\": \"r1\", \"when\": true}, {\"command\": \"x\", \"when\": \"false\"}, {\"set_fact\": {\"s2\": {\"g\": \"{{ not (not s1.failed) }}\", \"f\": \"a { b } c\"}}, \"register\": \"r3\", \"when\": \"r1.failed\"}]}]") ≡ verdict (refused (record { code = 4; line = 10; host = Some (codes "h1") }))
unfolding reading
thin_000020 = refl

thin_000021 : found (codes "{\"all\":{\"hosts\":[\"h1\"]}}") (codes "[{\"hosts\": \"all\", \"tasks\": [{\"ping\": null, \"register\": \"s1\"}, {\"debug\": {\"msg\": \"{{ 'h' in inventory_hostname }}\"}, \"register\": \"r2\"}]}]") ≡ verdict (accepted 1)
unfolding reading
thin_000021 = refl

thin_000022 : found (codes "{\"all\":{\"hosts\":[\"h1\"]}}") (codes "[{\"hosts\": \"all\", \"tasks\": [{\"command\": {\"cmd\": \"x\", \"chdir\": \"/t\"}, \"register\": \"r3\", \"name\": \"task 0\"}, {\"command\": \"x\", \"when\": \"true\"}]}]") ≡ verdict (accepted 2)
unfolding reading
thin_000022 = refl

thin_000023 : found (codes "{\"all\":{\"hosts\":[\"h1\"]}}") (codes "[{\"hosts\": \"all\", \"tasks\": [{\"command\": \"x\", \"register\": \"r2\", \"name\": \"task 0\"}, {\"ping\": null, \"when\": \"r2.failed\"}, {\"ping\": null, \"register\": \"r1\"}], \"name\": \"play\"}]") ≡ verdict (accepted 3)
unfolding reading
thin_000023 = refl

thin_000024 : found (codes "{\"all\":{\"hosts\":[\"h1\"]}}") (codes "[{\"hosts\": \"all\", \"tasks\": [{\"command\": \"x\", \"register\": \"r2\", \"name\": \"task 0\"}, {\"command\": {\"cmd\": \"x\", \"chdir\": \"/t\"}, \"name\": \"task 1\"}, {\"set_fact\": {\"s2\": [\"{{ false }}\"]}}, {\"ping\": null, \"register\": \"r3\", \"when\": \"r2.failed\"}, {\"debug\": {\"msg\": \"{{ r2.failed }}\"}, \"register\": \"r1\", \"name\": \"task 4\"}, {\"command\": \"x\", \"register\": \"r2\", \"when\": \"'h' in inventory_hostname\"}, {\"command\": \"x\", \"register\": \"r3\", \"name\": \"task 6\"}, {\"debug\": {\"msg\": \"\"}, \"register\": \"s1\", \"when\": \"true\"}, {\"ping\": null, \"register\": \"r1\"}]}]") ≡ verdict (accepted 6)
unfolding reading
thin_000024 = refl

thin_000025 : found (codes "{\"all\":{\"hosts\":[\"h1\"]}}") (codes "[{\"hosts\": \"all\", \"tasks\": [{\"debug\": {\"msg\": {}}, \"register\": \"s1\", \"when\": false, \"name\": \"task 0\"}, {\"debug\": {\"msg\": \"{{ (True != inventory_hostname) }}\"}}, {\"ping\": null, \"register\": \"r1\", \"name\": \"task 2\"}, {\"command\": \"x\"}]}]") ≡ verdict (accepted 2)
unfolding reading
thin_000025 = refl

thin_000026 : found (codes "{\"all\":{\"hosts\":[\"h1\"]}}") (codes "[{\"hosts\": \"all\", \"tasks\": [{\"command\": \"x\", \"register\": \"r3\"}, {\"command\": \"x\", \"when\": \"not r3.failed and r3.changed\"}, {\"command\": \"x\", \"register\": \"r3\", \"when\": \"r3.failed\"}, {\"set_fact\": {\"s3\": [-1], \"s1\": {}}}, {\"debug\": {\"msg\": {\"f\": null}}}, {\"command\": {\"cmd\": \"{{ inventory_hostname }}\"}, \"register\": \"r1\", \"when\": \"r3.failed\"}, {\"debug\": {\"msg\": \"{{ 'web' in group_names }}\"}, \"register\": \"r1\"}, {\"command\": \"x\", \"when\": \"r1.failed and r1.changed\"}, {\"debug\": {\"msg\": null}, \"register\": \"s1\"}]}]") ≡ verdict (accepted 5)
unfolding reading
thin_000026 = refl

thin_000027 : found (codes "{\"all\":{\"hosts\":[\"h1\"]}}") (codes "[{\"hosts\": \"all\", \"tasks\": [{\"ping\": null, \"register\": \"r3\"}, {\"ping\": null}, {\"command\": {\"cmd\": \"{{ inventory_hostname }}\"}, \"when\": \"r3.failed\"}, {\"debug\": {\"msg\": \"{{ r3.ping }}\"}, \"when\": true}, {\"set_fact\": {\"s1\": \"{{ true }}\"}, \"register\": \"r3\", \"when\": \"r3.changed\"}, {\"ping\": null, \"register\": \"r2\"}, {\"debug\": {\"msg\": \"{{ 'h' in inventory_hostname }}\"}, \"when\": \"r3.changed\"}, {\"command\": {\"cmd\": \"{{ inventory_hostname }}\"}, \"register\": \"r1\", \"when\": \"r2.changed\", \"name\": \"task 7\"}, {\"set_fact\": {\"s3\": null}, \"register\": \"r2\", \"name\": \"task 8\"}], \"name\": \"play\"}]") ≡ verdict (accepted 5)
unfolding reading
thin_000027 = refl

thin_000028 : found (codes "{\"all\":{\"hosts\":[\"h1\"]}}") (codes "[{\"hosts\": \"all\", \"tasks\": [{\"debug\": {\"msg\": true}, \"register\": \"s1\", \"name\": \"task 0\"}], \"name\": \"play\"}]") ≡ verdict (accepted 0)
unfolding reading
thin_000028 = refl

thin_000029 : found (codes "{\"all\":{\"hosts\":[\"h1\"]}}") (codes "[{\"hosts\": \"all\", \"tasks\": [{\"command\": \"x\", \"when\": false}, {\"command\": \"x\", \"register\": \"s1\"}, {\"debug\": {\"msg\": true}, \"register\": \"r1\"}, {\"debug\": {\"msg\": \"{{ not r1.failed and r1.changed }}\"}, \"register\": \"r3\", \"when\": \"r1.changed\", \"name\": \"task 3\"}, {\"command\": \"x\"}, {\"command\": \"x\"}]}]") ≡ verdict (accepted 4)
unfolding reading
thin_000029 = refl

thin_000030 : found (codes "{\"all\":{\"hosts\":[\"h1\"]}}") (codes "[{\"hosts\": \"all\", \"tasks\": [{\"debug\": {\"msg\": \"{{ 9223372036854775807 }}\"}}, {\"command\": {\"cmd\": \"{{ inventory_hostname }}\"}}, {\"set_fact\": {\"s3\": {}}}, {\"ping\": null, \"register\": \"s1\"}, {\"command\": {\"cmd\": \"{{ inventory_hostname }}\"}}, {\"set_fact\": {\"s2\": \"a { b } c\"}, \"register\": \"r3\"}]}]") ≡ verdict (accepted 3)
unfolding reading
thin_000030 = refl

thin_000031 : found (codes "{\"all\":{\"hosts\":[\"h1\"]}}") (codes "[{\"hosts\": \"all\", \"tasks\": [{\"command\": {\"cmd\": \"{{ inventory_hostname }}\"}, \"register\": \"r1\"}]}]") ≡ verdict (accepted 1)
unfolding reading
thin_000031 = refl

thin_000032 : found (codes "{\"all\":{\"hosts\":[\"h1\"]}}") (codes "[{\"hosts\": \"all\", \"tasks\": [{\"set_fact\": {\"s1\": \"{{ inventory_hostname }}\"}}]}]") ≡ verdict (accepted 0)
unfolding reading
thin_000032 = refl

thin_000034 : found (codes "{\"all\":{\"hosts\":[\"h1\"]}}") (codes "[{\"hosts\": \"all\", \"tasks\": [{\"command\": \"x\", \"register\": \"s1\"}, {\"ping\": null, \"register\": \"r2\", \"when\": \"inventory_hostname == 'h1'\"}, {\"command\": \"x\", \"register\": \"r1\"}, {\"debug\": {\"msg\": \"a { b } c\"}, \"register\": \"s1\"}, {\"debug\": {\"msg\": \"{{ 'it\\\\'s' }}\"}, \"when\": \"'h' in inventory_hostname\", \"name\": \"task 4\"}, {\"command\": \"x\"}]}]") ≡ verdict (accepted 4)
unfolding reading
thin_000034 = refl

thin_000035 : found (codes "{\"all\":{\"hosts\":[\"h1\"]}}") (codes "[{\"hosts\": \"all\", \"tasks\": [{\"command\": \"x\", \"register\": \"s1\"}, {\"debug\": {\"msg\": [[7, 7]]}, \"register\": \"r1\", \"when\": \"s1.changed\", \"name\": \"task 1\"}, {\"debug\": {\"msg\": \"{{ r1 }}\"}, \"register\": \"r3\"}, {\"set_fact\": {\"s3\": []}, \"register\": \"r3\"}, {\"set_fact\": {\"s3\": null}}, {\"set_fact\": {\"s1\": \"{{ 'h' in inventory_hostname }}\"}, \"name\": \"task 5\"}]}]") ≡ verdict (accepted 1)
unfolding reading
thin_000035 = refl

thin_000036 : found (codes "{\"all\":{\"hosts\":[\"h1\"]}}") (codes "[{\"hosts\": \"all\", \"tasks\": [{\"command\": \"x\", \"name\": \"task 0\"}, {\"command\": \"x\", \"register\": \"s1\", \"name\": \"task 1\"}, {\"command\": \"x\", \"register\": \"s1\"}], \"name\": \"play\"}]") ≡ verdict (accepted 3)
unfolding reading
thin_000036 = refl

thin_000037 : found (codes "{\"all\":{\"hosts\":[\"h1\"]}}") (codes "[{\"hosts\": \"all\", \"tasks\": [{\"command\": \"x\", \"register\": \"r1\", \"name\": \"task 0\"}, {\"debug\": {\"msg\": [\"a { b } c\", \"a { b } c\"]}, \"register\": \"r2\", \"when\": \"r1.changed\"}, {\"command\": {\"cmd\": \"x\", \"chdir\": \"/t\"}, \"register\": \"r3\", \"name\": \"task 2\"}, {\"command\": \"x\"}, {\"command\": \"x\", \"register\": \"r2\", \"when\": \"'h' in inventory_hostname\"}, {\"debug\": {\"msg\": {}}}, {\"set_fact\": {\"s1\": {}}, \"register\": \"r1\", \"when\": \"r1.failed\"}, {\"debug\": {\"msg\": \"text\"}, \"register\": \"s1\"}, {\"command\": \"x\", \"when\": \"r3.changed\"}]}]") ≡ verdict (accepted 5)
unfolding reading
thin_000037 = refl

thin_000038 : found (codes "{\"all\":{\"hosts\":[\"h1\"]}}") (codes "[{\"hosts\": \"all\", \"tasks\": [{\"command\": \"x\", \"register\": \"s1\", \"when\": \"true\"}, {\"debug\": {\"msg\": {\"f\": \"text\"}}, \"name\": \"task 1\"}, {\"command\": \"x\"}, {\"command\": \"x\", \"name\": \"task 3\"}, {\"command\": {\"cmd\": \"x\", \"chdir\": \"/t\"}, \"when\": \"'web' in group_names\"}, {\"command\": \"x\", \"register\": \"r3\", \"when\": \"false\"}, {\"command\": \"x\"}, {\"ping\": null, \"when\": \"false\"}, {\"command\": \"x\"}]}]") ≡ verdict (accepted 8)
unfolding reading
thin_000038 = refl

thin_000039 : found (codes "{\"all\":{\"hosts\":[\"h1\"]}}") (codes "[{\"hosts\": \"all\", \"tasks\": [{\"command\": \"x\", \"register\": \"r1\", \"name\": \"task 0\"}, {\"command\": \"x\", \"when\": \"r1.changed\"}]}]") ≡ verdict (accepted 2)
unfolding reading
thin_000039 = refl

thin_000040 : found (codes "{\"all\":{\"hosts\":[\"h1\"]}}") (codes "[{\"hosts\": \"all\", \"tasks\": [{\"ping\": null}, {\"command\": {\"cmd\": \"text\"}, \"register\": \"r2\", \"when\": \"inventory_hostname == 'h1'\", \"name\": \"task 1\"}, {\"ping\": null, \"register\": \"s1\", \"when\": \"'h' in inventory_hostname\"}, {\"set_fact\": {\"s2\": \"{{ 9223372036854775807 }}\"}, \"register\": \"r2\", \"name\": \"task 3\"}]}]") ≡ verdict (accepted 3)
unfolding reading
thin_000040 = refl

thin_000041 : found (codes "{\"all\":{\"hosts\":[\"h1\"]}}") (codes "[{\"hosts\": \"all\", \"tasks\": [{\"command\": {\"cmd\": \"{{ inventory_hostname }}\"}}, {\"command\": \"x\", \"name\": \"task 1\"}, {\"command\": {\"cmd\": \"{{ inventory_hostname }}\"}, \"register\": \"r2\"}, {\"command\": {\"cmd\": \"x\", \"chdir\": \"/t\"}, \"when\": \"1 == 1\"}], \"name\": \"play\"}]") ≡ verdict (accepted 4)
unfolding reading
thin_000041 = refl

thin_000042 : found (codes "{\"all\":{\"hosts\":[\"h1\"]}}") (codes "[{\"hosts\": \"all\", \"tasks\": [{\"debug\": {\"msg\": \"\"}, \"register\": \"r1\", \"name\": \"task 0\"}, {\"command\": \"x\", \"when\": \"not r1.failed and r1.changed\", \"name\": \"task 1\"}, {\"command\": {\"cmd\": \"{{ inventory_hostname }}\"}}, {\"set_fact\": {\"s1\": []}, \"register\": \"s1\"}, {\"debug\": {\"msg\": \"{{ not r1.failed and r1.changed }}\"}, \"when\": \"r1.failed\"}, {\"debug\": {\"msg\": \"text\"}, \"when\": \"not r1.failed and r1.changed\"}, {\"debug\": {\"msg\": \"text\"}, \"name\": \"task 6\"}, {\"command\": {\"cmd\": \"{{ inventory_hostname }}\"}, \"when\": \"not r1.failed and r1.changed\"}, {\"command\": \"x\", \"register\": \"r2\", \"when\": \"r1.failed\"}]}]") ≡ verdict (accepted 4)
unfolding reading
thin_000042 = refl

thin_000043 : found (codes "{\"all\":{\"hosts\":[\"h1\"]}}") (codes "[{\"hosts\": \"all\", \"tasks\": [{\"command\": \"x\", \"register\": \"r1\"}]}]") ≡ verdict (accepted 1)
unfolding reading
thin_000043 = refl

thin_000044 : found (codes "{\"all\":{\"hosts\":[\"h1\"]}}") (codes "[{\"hosts\": \"all\", \"tasks\": [{\"command\": \"x\"}, {\"command\": \"x\"}, {\"ping\": null, \"name\": \"task 2\"}, {\"command\": \"x\"}]}]") ≡ verdict (accepted 4)
unfolding reading
thin_000044 = refl

thin_000045 : found (codes "{\"all\":{\"hosts\":[\"h1\"]}}") (codes "[{\"hosts\": \"all\", \"tasks\": [{\"command\": \"x\", \"when\": \"inventory_hostname == 'h1'\"}, {\"command\": \"x\", \"register\": \"r2\", \"name\": \"task 1\"}, {\"command\": {\"cmd\": \"{{ inventory_hostname }}\"}, \"when\": \"r2.stderr.stdout or r2.stderr and nope.x and r2.ping\"}]}]") ≡ verdict (refused (record { code = 4; line = 4; host = Some (codes "h1") }))
unfolding reading
thin_000045 = refl

thin_000047 : found (codes "{\"all\":{\"hosts\":[\"h1\"]}}") (codes "[{\"hosts\": \"all\", \"tasks\": [{\"debug\": {\"msg\": []}}, {\"command\": \"x\", \"register\": \"r1\"}, {\"command\": {\"cmd\": [\"{{ r1.stderr_lines or \\\"b\\\" and (r1.rc) and not r1.changed and false }}\", {\"g\": 7, \"h\": \"{{ False == 'web' or r1.stdout or r1.g.msg }}\"}]}, \"register\": \"s1\"}], \"name\": \"play\"}]") ≡ verdict (refused (record { code = 4; line = 4; host = Some (codes "h1") }))
unfolding reading
thin_000047 = refl

thin_000048 : found (codes "{\"all\":{\"hosts\":[\"h1\"]}}") (codes "[{\"hosts\": \"all\", \"tasks\": [{\"command\": \"x\"}, {\"debug\": {\"msg\": true}, \"register\": \"r2\"}, {\"debug\": {\"msg\": []}}, {\"set_fact\": {\"s1\": {}}}, {\"ping\": null}, {\"debug\": {\"msg\": []}, \"register\": \"s1\", \"name\": \"task 5\"}], \"name\": \"play\"}]") ≡ verdict (accepted 2)
unfolding reading
thin_000048 = refl

thin_000049 : found (codes "{\"all\":{\"hosts\":[\"h1\"]}}") (codes "[{\"hosts\": \"all\", \"tasks\": [{\"command\": {\"cmd\": \"{{ inventory_hostname }}\"}, \"register\": \"r1\"}], \"name\": \"play\"}]") ≡ verdict (accepted 1)
unfolding reading
thin_000049 = refl

thin_000050 : found (codes "{\"all\":{\"hosts\":[\"h1\"]}}") (codes "[{\"hosts\": \"all\", \"tasks\": [{\"set_fact\": {\"s1\": \"{{ r1.failed }}\"}, \"register\": \"r2\"}]}]") ≡ verdict (refused (record { code = 1; line = 2; host = Some (codes "h1") }))
unfolding reading
thin_000050 = refl

thin_000051 : found (codes "{\"all\":{\"hosts\":[\"h1\"]}}") (codes "[{\"hosts\": \"all\", \"tasks\": [{\"set_fact\": {\"s1\": {\"g\": 5}, \"s3\": \"a { b } c\"}}, {\"ping\": null, \"name\": \"task 1\"}]}]") ≡ verdict (accepted 1)
unfolding reading
thin_000051 = refl

thin_000052 : found (codes "{\"all\":{\"hosts\":[\"h1\"]}}") (codes "[{\"hosts\": \"all\", \"tasks\": [{\"ping\": null, \"name\": \"task 0\"}, {\"command\": \"x\"}, {\"command\": \"x\", \"name\": \"task 2\"}]}]") ≡ verdict (accepted 3)
unfolding reading
thin_000052 = refl

thin_000054 : found (codes "{\"all\":{\"hosts\":[\"h1\"]}}") (codes "[{\"hosts\": \"all\", \"tasks\": [{\"ping\": null, \"name\": \"task 0\"}, {\"command\": {\"cmd\": \"{{ inventory_hostname }}\"}}], \"name\": \"play\"}]") ≡ verdict (accepted 2)
unfolding reading
thin_000054 = refl

thin_000055 : found (codes "{\"all\":{\"hosts\":[\"h1\"]}}") (codes "[{\"hosts\": \"all\", \"tasks\": [{\"command\": \"x\", \"register\": \"r1\", \"name\": \"task 0\"}], \"name\": \"play\"}]") ≡ verdict (accepted 1)
unfolding reading
thin_000055 = refl

thin_000056 : found (codes "{\"all\":{\"hosts\":[\"h1\"]}}") (codes "[{\"hosts\": \"all\", \"tasks\": [{\"command\": {\"cmd\": \"x\", \"chdir\": \"/t\"}, \"register\": \"s1\", \"name\": \"task 0\"}, {\"debug\": {\"msg\": \"{{ inventory_hostname }}\"}}, {\"debug\": {\"msg\": \"\"}, \"register\": \"s1\"}, {\"command\": \"x\", \"when\": \"'web' in group_names\"}, {\"debug\": {\"msg\": -1}, \"register\": \"s1\", \"when\": \"0 == -3\", \"name\": \"task 4\"}, {\"command\": \"x\", \"when\": \"(False != \\\"b\\\")\"}]}]") ≡ verdict (accepted 3)
unfolding reading
thin_000056 = refl

thin_000057 : found (codes "{\"all\":{\"hosts\":[\"h1\"]}}") (codes "[{\"hosts\": \"all\", \"tasks\": [{\"command\": {\"cmd\": \"x\", \"chdir\": \"/t\"}, \"register\": \"s1\", \"when\": false, \"name\": \"task 0\"}]}]") ≡ verdict (accepted 1)
unfolding reading
thin_000057 = refl

thin_000058 : found (codes "{\"all\":{\"hosts\":[\"h1\"]}}") (codes "[{\"hosts\": \"all\", \"tasks\": [{\"ping\": null, \"register\": \"r1\"}, {\"command\": \"x\", \"register\": \"r1\"}, {\"command\": \"x\", \"register\": \"r2\"}, {\"command\": \"x\", \"register\": \"r2\", \"when\": \"not r2.failed and r2.changed\"}, {\"debug\": {\"msg\": \"{{ true }}\"}, \"register\": \"r1\", \"when\": \"not r1.failed and r2.changed\", \"name\": \"task 4\"}, {\"set_fact\": {\"s3\": {\"g\": null}}}], \"name\": \"play\"}]") ≡ verdict (accepted 4)
unfolding reading
thin_000058 = refl

thin_000059 : found (codes "{\"all\":{\"hosts\":[\"h1\"]}}") (codes "[{\"hosts\": \"all\", \"tasks\": [{\"command\": {\"cmd\": \"x\", \"chdir\": \"/t\"}, \"register\": \"r3\"}, {\"command\": \"x\", \"name\": \"task 1\"}]}]") ≡ verdict (accepted 2)
unfolding reading
thin_000059 = refl

thin_000060 : found (codes "{\"all\":{\"hosts\":[\"h1\"]}}") (codes "[{\"hosts\": \"all\", \"tasks\": [{\"command\": \"x\", \"register\": \"r3\", \"name\": \"task 0\"}, {\"set_fact\": {\"s1\": \"{{ not r3.failed and r3.changed }}\"}, \"register\": \"r2\"}, {\"debug\": {\"msg\": \"text\"}, \"when\": true, \"name\": \"task 2\"}], \"name\": \"play\"}]") ≡ verdict (accepted 1)
unfolding reading
thin_000060 = refl

thin_000061 : found (codes "{\"all\":{\"hosts\":[\"h1\"]}}") (codes "[{\"hosts\": \"all\", \"tasks\": [{\"ping\": null, \"register\": \"r1\"}, {\"debug\": {\"msg\": \"{{ 9223372036854775807 }}\"}, \"register\": \"s1\", \"when\": \"not group_names and nope and not r1.skipped\"}]}]") ≡ verdict (refused (record { code = 4; line = 3; host = Some (codes "h1") }))
unfolding reading
thin_000061 = refl

thin_000062 : found (codes "{\"all\":{\"hosts\":[\"h1\"]}}") (codes "[{\"hosts\": \"all\", \"tasks\": [{\"command\": {\"cmd\": \"{{ inventory_hostname }}\"}, \"register\": \"r3\", \"when\": \"r1.changed\"}]}]") ≡ verdict (refused (record { code = 1; line = 2; host = Some (codes "h1") }))
unfolding reading
thin_000062 = refl

thin_000063 : found (codes "{\"all\":{\"hosts\":[\"h1\"]}}") (codes "[{\"hosts\": \"all\", \"tasks\": [{\"command\": \"x\", \"name\": \"task 0\"}, {\"debug\": {\"msg\": 5}, \"name\": \"task 1\"}, {\"command\": \"x\", \"register\": \"r1\", \"when\": \"not r1.failed in r1 or r1.rc\"}]}]") ≡ verdict (refused (record { code = 1; line = 4; host = Some (codes "h1") }))
unfolding reading
thin_000063 = refl

thin_000064 : found (codes "{\"all\":{\"hosts\":[\"h1\"]}}") (codes "[{\"hosts\": \"all\", \"tasks\": [{\"command\": {\"cmd\": \"x\", \"chdir\": \"/t\"}, \"name\": \"task 0\"}, {\"command\": {\"cmd\": \"{{ inventory_hostname }}\"}}, {\"debug\": {\"msg\": {}}}, {\"command\": {\"cmd\": \"x\", \"chdir\": \"/t\"}, \"register\": \"r1\"}], \"name\": \"play\"}]") ≡ verdict (accepted 3)
unfolding reading
thin_000064 = refl

thin_000065 : found (codes "{\"all\":{\"hosts\":[\"h1\"]}}") (codes "[{\"hosts\": \"all\", \"tasks\": [{\"command\": \"x\", \"register\": \"s1\"}, {\"debug\": {\"msg\": {}}, \"name\": \"task 1\"}, {\"ping\": null, \"register\": \"r2\"}, {\"command\": \"x\", \"name\": \"task 3\"}]}]") ≡ verdict (accepted 3)
unfolding reading
thin_000065 = refl

thin_000066 : found (codes "{\"all\":{\"hosts\":[\"h1\"]}}") (codes "[{\"hosts\": \"all\", \"tasks\": [{\"command\": {\"cmd\": \"{{ inventory_hostname }}\"}, \"when\": true}]}]") ≡ verdict (accepted 1)
unfolding reading
thin_000066 = refl

thin_000067 : found (codes "{\"all\":{\"hosts\":[\"h1\"]}}") (codes "[{\"hosts\": \"all\", \"tasks\": [{\"command\": \"x\", \"register\": \"s1\", \"name\": \"task 0\"}]}]") ≡ verdict (accepted 1)
unfolding reading
thin_000067 = refl

thin_000068 : found (codes "{\"all\":{\"hosts\":[\"h1\"]}}") (codes "[{\"hosts\": \"all\", \"tasks\": [{\"ping\": null}, {\"command\": \"x\"}, {\"debug\": {\"msg\": \"{{ false }}\"}}, {\"debug\": {\"msg\": \"{{ (false) and group_names }}\"}, \"register\": \"s1\", \"when\": \"r1.changed\"}]}]") ≡ verdict (refused (record { code = 1; line = 5; host = Some (codes "h1") }))
unfolding reading
thin_000068 = refl

thin_000069 : found (codes "{\"all\":{\"hosts\":[\"h1\"]}}") (codes "[{\"hosts\": \"all\", \"tasks\": [{\"set_fact\": {\"s2\": \"text\"}}, {\"debug\": {\"msg\": \"{{ true }}\"}, \"name\": \"task 1\"}, {\"debug\": {\"msg\": true}, \"register\": \"r2\"}, {\"ping\": null, \"register\": \"r3\", \"name\": \"task 3\"}, {\"command\": {\"cmd\": \"text\"}, \"register\": \"s1\", \"when\": \"inventory_hostname == 'h1'\", \"name\": \"task 4\"}, {\"set_fact\": {\"s1\": 5}, \"register\": \"r1\"}, {\"debug\": {\"msg\": {}}, \"when\": \"\\\"b\\\"\", \"name\": \"task 6\"}]}]") ≡ verdict (refused (record { code = 4; line = 8; host = Some (codes "h1") }))
unfolding reading
thin_000069 = refl

thin_000070 : found (codes "{\"all\":{\"hosts\":[\"h1\"]}}") (codes "[{\"hosts\": \"all\", \"tasks\": [{\"debug\": {\"msg\": {}}, \"register\": \"r3\"}]}]") ≡ verdict (accepted 0)
unfolding reading
thin_000070 = refl

thin_000071 : found (codes "{\"all\":{\"hosts\":[\"h1\"]}}") (codes "[{\"hosts\": \"all\", \"tasks\": [{\"debug\": {\"msg\": [{}]}, \"register\": \"r1\"}, {\"command\": \"x\"}, {\"ping\": null, \"register\": \"r2\"}]}]") ≡ verdict (accepted 2)
unfolding reading
thin_000071 = refl

thin_000072 : found (codes "{\"all\":{\"hosts\":[\"h1\"]}}") (codes "[{\"hosts\": \"all\", \"tasks\": [{\"debug\": {\"msg\": []}, \"register\": \"r3\", \"when\": \"True\", \"name\": \"task 0\"}], \"name\": \"play\"}]") ≡ verdict (accepted 0)
unfolding reading
thin_000072 = refl

thin_000073 : found (codes "{\"all\":{\"hosts\":[\"h1\"]}}") (codes "[{\"hosts\": \"all\", \"tasks\": [{\"command\": \"x\", \"register\": \"r1\"}, {\"command\": \"x\", \"register\": \"r1\"}, {\"set_fact\": {\"s3\": \"{{ r1 }}\"}, \"register\": \"r2\", \"when\": \"true\"}]}]") ≡ verdict (accepted 2)
unfolding reading
thin_000073 = refl

thin_000074 : found (codes "{\"all\":{\"hosts\":[\"h1\"]}}") (codes "[{\"hosts\": \"all\", \"tasks\": [{\"command\": {\"cmd\": \"{{ inventory_hostname }}\"}, \"register\": \"r1\", \"when\": true}, {\"ping\": null, \"register\": \"r1\", \"when\": \"r1.failed\", \"name\": \"task 1\"}, {\"set_fact\": {\"s1\": \"a { b } c\"}, \"register\": \"r2\"}, {\"set_fact\": {\"s2\": \"{{ inventory_hostname }}\", \"s3\": true}, \"when\": false, \"name\": \"task 3\"}, {\"debug\": {\"msg\": [\"{{ not 9223372036854775807 }}\", {}]}, \"register\": \"s1\", \"name\": \"task 4\"}], \"name\": \"play\"}]") ≡ verdict (refused (record { code = 4; line = 6; host = Some (codes "h1") }))
unfolding reading
thin_000074 = refl

thin_000075 : found (codes "{\"all\":{\"hosts\":[\"h1\"]}}") (codes "[{\"hosts\": \"all\", \"tasks\": [{\"command\": {\"cmd\": \"x\", \"chdir\": \"/t\"}, \"register\": \"r3\", \"when\": \"1 == 1\"}, {\"debug\": {\"msg\": [\"{{ r3 }}\"]}}, {\"command\": \"x\"}, {\"command\": \"x\", \"when\": \"true\"}]}]") ≡ verdict (accepted 3)
unfolding reading
thin_000075 = refl

thin_000076 : found (codes "{\"all\":{\"hosts\":[\"h1\"]}}") (codes "[{\"hosts\": \"all\", \"tasks\": [{\"set_fact\": {\"s3\": 5}, \"register\": \"r1\"}, {\"set_fact\": {\"s2\": \"{{ not r1.failed and r1.changed }}\"}, \"when\": \"true\"}, {\"debug\": {\"msg\": []}}]}]") ≡ verdict (accepted 0)
unfolding reading
thin_000076 = refl

thin_000077 : found (codes "{\"all\":{\"hosts\":[\"h1\"]}}") (codes "[{\"hosts\": \"all\", \"tasks\": [{\"command\": \"x\", \"when\": \"not r1.failed and r1.changed\"}]}]") ≡ verdict (refused (record { code = 1; line = 2; host = Some (codes "h1") }))
unfolding reading
thin_000077 = refl

thin_000078 : found (codes "{\"all\":{\"hosts\":[\"h1\"]}}") (codes "[{\"hosts\": \"all\", \"tasks\": [{\"set_fact\": {\"s1\": {}}}, {\"command\": \"x\", \"register\": \"s1\", \"name\": \"task 1\"}], \"name\": \"play\"}]") ≡ verdict (accepted 1)
unfolding reading
thin_000078 = refl

thin_000079 : found (codes "{\"all\":{\"hosts\":[\"h1\"]}}") (codes "[{\"hosts\": \"all\", \"tasks\": [{\"debug\": {\"msg\": \"text\"}, \"register\": \"s1\", \"when\": false}, {\"debug\": {\"msg\": \"{{ 1 }}\"}, \"register\": \"r2\", \"when\": \"(False)\"}]}]") ≡ verdict (accepted 0)
unfolding reading
thin_000079 = refl

thin_000080 : found (codes "{\"all\":{\"hosts\":[\"h1\"]}}") (codes "[{\"hosts\": \"all\", \"tasks\": [{\"command\": \"x\", \"register\": \"r3\"}, {\"command\": \"x\", \"register\": \"r3\", \"name\": \"task 1\"}, {\"command\": \"x\", \"register\": \"r1\", \"name\": \"task 2\"}], \"name\": \"play\"}]") ≡ verdict (accepted 3)
unfolding reading
thin_000080 = refl

thin_000081 : found (codes "{\"all\":{\"hosts\":[\"h1\"]}}") (codes "[{\"hosts\": \"all\", \"tasks\": [{\"debug\": {\"msg\": \"{{ \\\"b\\\" }}\"}, \"register\": \"s1\"}, {\"debug\": {\"msg\": []}}, {\"command\": {\"cmd\": \"{{ inventory_hostname }}\"}}, {\"command\": {\"cmd\": \"x\", \"chdir\": \"/t\"}, \"register\": \"r2\", \"name\": \"task 3\"}, {\"debug\": {\"msg\": true}, \"register\": \"r1\"}, {\"debug\": {\"msg\": {}}, \"register\": \"r1\"}]}]") ≡ verdict (accepted 2)
unfolding reading
thin_000081 = refl

thin_000082 : found (codes "{\"all\":{\"hosts\":[\"h1\"]}}") (codes "[{\"hosts\": \"all\", \"tasks\": [{\"debug\": {\"msg\": {}}, \"register\": \"s1\"}, {\"command\": \"x\"}]}]") ≡ verdict (accepted 1)
unfolding reading
thin_000082 = refl

thin_000083 : found (codes "{\"all\":{\"hosts\":[\"h1\"]}}") (codes "[{\"hosts\": \"all\", \"tasks\": [{\"command\": \"x\", \"register\": \"r1\"}, {\"ping\": null, \"register\": \"r1\"}, {\"command\": {\"cmd\": \"x\", \"chdir\": \"/t\"}, \"name\": \"task 2\"}, {\"command\": {\"cmd\": \"{{ inventory_hostname }}\"}}]}]") ≡ verdict (accepted 4)
unfolding reading
thin_000083 = refl

thin_000084 : found (codes "{\"all\":{\"hosts\":[\"h1\"]}}") (codes "[{\"hosts\": \"all\", \"tasks\": [{\"command\": \"x\", \"register\": \"r1\", \"when\": true}, {\"ping\": null}, {\"ping\": {\"data\": \"\"}}, {\"command\": \"x\", \"name\": \"task 3\"}, {\"set_fact\": {\"s3\": {\"f\": \"{{ r1.changed }}\"}}, \"register\": \"s1\"}, {\"command\": {\"cmd\": \"x\", \"chdir\": \"/t\"}, \"register\": \"r1\", \"name\": \"task 5\"}, {\"command\": {\"cmd\": \"{{ inventory_hostname }}\"}}, {\"command\": \"x\", \"name\": \"task 7\"}, {\"command\": {\"cmd\": \"x\", \"chdir\": \"/t\"}, \"register\": \"s1\", \"name\": \"task 8\"}]}]") ≡ verdict (accepted 8)
unfolding reading
thin_000084 = refl

thin_000085 : found (codes "{\"all\":{\"hosts\":[\"h1\"]}}") (codes "[{\"hosts\": \"all\", \"tasks\": [{\"ping\": {\"data\": \"{{ inventory_hostname == 'h1' }}\"}}]}]") ≡ verdict (refused (record { code = 4; line = 2; host = Some (codes "h1") }))
unfolding reading
thin_000085 = refl

thin_000086 : found (codes "{\"all\":{\"hosts\":[\"h1\"]}}") (codes "[{\"hosts\": \"all\", \"tasks\": [{\"ping\": null, \"register\": \"s1\"}]}]") ≡ verdict (accepted 1)
unfolding reading
thin_000086 = refl

thin_000087 : found (codes "{\"all\":{\"hosts\":[\"h1\"]}}") (codes "[{\"hosts\": \"all\", \"tasks\": [{\"command\": \"x\", \"register\": \"r2\", \"name\": \"task 0\"}, {\"command\": {\"cmd\": \"x\", \"chdir\": \"/t\"}, \"register\": \"s1\", \"name\": \"task 1\"}]}]") ≡ verdict (accepted 2)
unfolding reading
thin_000087 = refl

thin_000088 : found (codes "{\"all\":{\"hosts\":[\"h1\"]}}") (codes "[{\"hosts\": \"all\", \"tasks\": [{\"command\": \"x\", \"when\": true}, {\"command\": \"x\", \"register\": \"s1\", \"name\": \"task 1\"}, {\"ping\": null, \"register\": \"s1\", \"when\": \"1 == 1\"}, {\"command\": \"x\", \"register\": \"s1\", \"name\": \"task 3\"}]}]") ≡ verdict (accepted 4)
unfolding reading
thin_000088 = refl

thin_000089 : found (codes "{\"all\":{\"hosts\":[\"h1\"]}}") (codes "[{\"hosts\": \"all\", \"tasks\": [{\"set_fact\": {\"s3\": \"{{ 'web' }}\"}, \"when\": \"r1.changed\", \"name\": \"task 0\"}]}]") ≡ verdict (refused (record { code = 1; line = 2; host = Some (codes "h1") }))
unfolding reading
thin_000089 = refl

thin_000090 : found (codes "{\"all\":{\"hosts\":[\"h1\"]}}") (codes "[{\"hosts\": \"all\", \"tasks\": [{\"debug\": {\"msg\": \"{{ false }}\"}}, {\"ping\": null, \"when\": false}]}]") ≡ verdict (accepted 1)
unfolding reading
thin_000090 = refl

thin_000091 : found (codes "{\"all\":{\"hosts\":[\"h1\"]}}") (codes "[{\"hosts\": \"all\", \"tasks\": [{\"set_fact\": {\"s1\": \"{{ 'web' }}\"}}]}]") ≡ verdict (accepted 0)
unfolding reading
thin_000091 = refl

thin_000092 : found (codes "{\"all\":{\"hosts\":[\"h1\"]}}") (codes "[{\"hosts\": \"all\", \"tasks\": [{\"debug\": {\"msg\": null}}, {\"command\": {\"cmd\": \"x\", \"chdir\": \"/t\"}, \"register\": \"r1\"}, {\"set_fact\": {\"s2\": {\"f\": null}}, \"register\": \"r3\", \"when\": \"r1.failed and r1.changed\"}, {\"set_fact\": {\"s3\": [], \"s1\": \"{{ \\\"b\\\" }}\"}, \"register\": \"r3\", \"when\": \"r3.failed and r1.changed\"}], \"name\": \"play\"}]") ≡ verdict (accepted 1)
unfolding reading
thin_000092 = refl

thin_000093 : found (codes "{\"all\":{\"hosts\":[\"h1\"]}}") (codes "[{\"hosts\": \"all\", \"tasks\": [{\"set_fact\": {\"s1\": \"{{ inventory_hostname == 'h1' }}\", \"s3\": \"text\"}}, {\"command\": \"x\", \"when\": \"not ((false))\"}, {\"set_fact\": {\"s1\": [\"{{ 'web' }}\", -1]}, \"register\": \"r1\", \"name\": \"task 2\"}, {\"ping\": null, \"register\": \"r2\"}]}]") ≡ verdict (accepted 2)
unfolding reading
thin_000093 = refl

thin_000094 : found (codes "{\"all\":{\"hosts\":[\"h1\"]}}") (codes "[{\"hosts\": \"all\", \"tasks\": [{\"command\": {\"cmd\": \"{{ inventory_hostname }}\"}, \"name\": \"task 0\"}, {\"debug\": {\"msg\": \"a { b } c\"}, \"register\": \"s1\"}, {\"debug\": {\"msg\": \"{{ s1==true and not false }}\"}, \"when\": \"'web' in group_names\", \"name\": \"task 2\"}, {\"command\": {\"cmd\": \"x\", \"chdir\": \"/t\"}, \"register\": \"r3\", \"name\": \"task 3\"}, {\"debug\": {\"msg\": [5]}}, {\"set_fact\": {\"s2\": \"{{ r3 }}\"}, \"name\": \"task 5\"}]}]") ≡ verdict (accepted 2)
unfolding reading
thin_000094 = refl

thin_000095 : found (codes "{\"all\":{\"hosts\":[\"h1\"]}}") (codes "[{\"hosts\": \"all\", \"tasks\": [{\"debug\": {\"msg\": null}, \"register\": \"r2\"}, {\"command\": \"x\"}, {\"command\": {\"cmd\": \"x\", \"chdir\": \"/t\"}, \"register\": \"s1\"}, {\"command\": {\"cmd\": \"\"}, \"register\": \"s1\", \"name\": \"task 3\"}, {\"command\": {\"cmd\": \"{{ inventory_hostname }}\"}}, {\"command\": \"x\", \"register\": \"r1\", \"when\": false}]}]") ≡ verdict (accepted 5)
unfolding reading
thin_000095 = refl

thin_000096 : found (codes "{\"all\":{\"hosts\":[\"h1\"]}}") (codes "[{\"hosts\": \"all\", \"tasks\": [{\"command\": \"x\", \"register\": \"r1\"}, {\"debug\": {\"msg\": {\"f\": [7, 7]}}}, {\"command\": {\"cmd\": \"{{ inventory_hostname }}\"}, \"register\": \"r3\"}], \"name\": \"play\"}]") ≡ verdict (accepted 2)
unfolding reading
thin_000096 = refl

thin_000097 : found (codes "{\"all\":{\"hosts\":[\"h1\"]}}") (codes "[{\"hosts\": \"all\", \"tasks\": [{\"ping\": {\"data\": \"text\"}, \"register\": \"r2\"}, {\"set_fact\": {\"s3\": \"{{ 'it\\\\'s' }}\"}, \"name\": \"task 1\"}], \"name\": \"play\"}]") ≡ verdict (accepted 1)
unfolding reading
thin_000097 = refl

thin_000098 : found (codes "{\"all\":{\"hosts\":[\"h1\"]}}") (codes "[{\"hosts\": \"all\", \"tasks\": [{\"command\": \"x\", \"name\": \"task 0\"}, {\"set_fact\": {\"s1\": {\"g\": {\"g\": null, \"f\": 7}}}}, {\"command\": {\"cmd\": \"x\", \"chdir\": \"/t\"}, \"register\": \"r2\", \"when\": false, \"name\": \"task 2\"}]}]") ≡ verdict (accepted 2)
unfolding reading
thin_000098 = refl

thin_000099 : found (codes "{\"all\":{\"hosts\":[\"h1\"]}}") (codes "[{\"hosts\": \"all\", \"tasks\": [{\"command\": {\"cmd\": \"{{ inventory_hostname }}\"}, \"register\": \"r2\", \"when\": \"true\"}, {\"ping\": null, \"register\": \"r1\"}, {\"debug\": {\"msg\": {\"f\": \"{{ 'it\\\\'s' }}\"}}, \"when\": \"r2.changed\", \"name\": \"task 2\"}, {\"debug\": {\"msg\": \"{{ (9223372036854775807) }}\"}, \"register\": \"r2\"}]}]") ≡ verdict (accepted 2)
unfolding reading
thin_000099 = refl

thin_000100 : found (codes "{\"all\":{\"hosts\":[\"h1\"]}}") (codes "[{\"hosts\": \"all\", \"tasks\": [{\"debug\": {\"msg\": \"{{ not True }}\"}, \"name\": \"task 0\"}, {\"command\": \"x\", \"register\": \"s1\"}]}]") ≡ verdict (accepted 1)
unfolding reading
thin_000100 = refl

thin_000101 : found (codes "{\"all\":{\"hosts\":[\"h1\"]}}") (codes "[{\"hosts\": \"all\", \"tasks\": [{\"debug\": {\"msg\": {}}, \"name\": \"task 0\"}, {\"command\": \"x\", \"register\": \"s1\", \"name\": \"task 1\"}, {\"debug\": {\"msg\": [[]]}, \"name\": \"task 2\"}, {\"set_fact\": {\"s1\": \"{{ true }}\", \"s3\": \"a { b } c\"}, \"register\": \"r3\", \"when\": false}, {\"ping\": null, \"name\": \"task 4\"}, {\"command\": {\"cmd\": \"{{ inventory_hostname }}\"}, \"register\": \"s1\"}]}]") ≡ verdict (accepted 3)
unfolding reading
thin_000101 = refl

thin_000102 : found (codes "{\"all\":{\"hosts\":[\"h1\"]}}") (codes "[{\"hosts\": \"all\", \"tasks\": [{\"set_fact\": {\"s1\": true}, \"register\": \"s1\"}, {\"command\": \"x\"}]}]") ≡ verdict (accepted 1)
unfolding reading
thin_000102 = refl

thin_000103 : found (codes "{\"all\":{\"hosts\":[\"h1\"]}}") (codes "[{\"hosts\": \"all\", \"tasks\": [{\"ping\": null, \"name\": \"task 0\"}, {\"debug\": {\"msg\": {}}, \"register\": \"r2\", \"name\": \"task 1\"}, {\"debug\": {\"msg\": {\"h\": null}}, \"when\": \"r2.failed\"}, {\"set_fact\": {\"s2\": true, \"s1\": \"{{ 1 == 1 }}\"}}, {\"set_fact\": {\"s1\": \"{{ true }}\", \"s2\": \"{{ ('web') }}\"}, \"when\": \"r2.changed\"}, {\"debug\": {\"msg\": \"\"}, \"when\": \"not r2.failed and r2.changed\"}, {\"debug\": {\"msg\": \"{{ '' }}\"}, \"register\": \"s1\"}, {\"command\": \"x\", \"register\": \"r1\"}, {\"command\": \"x\", \"register\": \"r3\"}]}]") ≡ verdict (accepted 3)
unfolding reading
thin_000103 = refl

thin_000104 : found (codes "{\"all\":{\"hosts\":[\"h1\"]}}") (codes "[{\"hosts\": \"all\", \"tasks\": [{\"set_fact\": {\"s2\": \"{{ true }}\"}, \"register\": \"r1\", \"name\": \"task 0\"}]}]") ≡ verdict (accepted 0)
unfolding reading
thin_000104 = refl

thin_000105 : found (codes "{\"all\":{\"hosts\":[\"h1\"]}}") (codes "[{\"hosts\": \"all\", \"tasks\": [{\"command\": \"x\", \"name\": \"task 0\"}, {\"set_fact\": {\"s3\": {\"h\": []}}}, {\"command\": \"x\"}, {\"command\": \"x\"}, {\"set_fact\": {\"s3\": [\"{{ \\\"b\\\" }}\"]}, \"register\": \"r3\", \"when\": \"'web' in group_names\"}, {\"command\": \"x\", \"register\": \"r2\"}], \"name\": \"play\"}]") ≡ verdict (accepted 4)
unfolding reading
thin_000105 = refl

thin_000106 : found (codes "{\"all\":{\"hosts\":[\"h1\"]}}") (codes "[{\"hosts\": \"all\", \"tasks\": [{\"command\": \"x\", \"register\": \"s1\", \"name\": \"task 0\"}, {\"command\": \"x\", \"register\": \"r1\"}, {\"ping\": null, \"register\": \"r1\", \"when\": \"r1.f\", \"name\": \"task 2\"}]}]") ≡ verdict (refused (record { code = 3; line = 4; host = Some (codes "h1") }))
unfolding reading
thin_000106 = refl

thin_000107 : found (codes "{\"all\":{\"hosts\":[\"h1\"]}}") (codes "[{\"hosts\": \"all\", \"tasks\": [{\"debug\": {\"msg\": [[7], {\"h\": 7}]}, \"register\": \"r3\", \"name\": \"task 0\"}, {\"set_fact\": {\"s3\": \"\"}, \"register\": \"r2\", \"when\": \"'web' in group_names\", \"name\": \"task 1\"}]}]") ≡ verdict (accepted 0)
unfolding reading
thin_000107 = refl

thin_000108 : found (codes "{\"all\":{\"hosts\":[\"h1\"]}}") (codes "[{\"hosts\": \"all\", \"tasks\": [{\"command\": \"x\", \"register\": \"r1\", \"name\": \"task 0\"}, {\"command\": \"x\"}], \"name\": \"play\"}]") ≡ verdict (accepted 2)
unfolding reading
thin_000108 = refl

thin_000109 : found (codes "{\"all\":{\"hosts\":[\"h1\"]}}") (codes "[{\"hosts\": \"all\", \"tasks\": [{\"command\": \"x\", \"register\": \"s1\"}, {\"command\": \"x\", \"name\": \"task 1\"}, {\"command\": \"x\", \"when\": \"True\"}]}]") ≡ verdict (accepted 3)
unfolding reading
thin_000109 = refl

thin_000110 : found (codes "{\"all\":{\"hosts\":[\"h1\"]}}") (codes "[{\"hosts\": \"all\", \"tasks\": [{\"debug\": {\"msg\": 5}, \"register\": \"r1\"}, {\"command\": {\"cmd\": \"{{ inventory_hostname }}\"}, \"register\": \"r2\", \"name\": \"task 1\"}, {\"command\": \"x\", \"register\": \"r3\", \"name\": \"task 2\"}, {\"command\": {\"cmd\": \"{{ inventory_hostname }}\"}}]}]") ≡ verdict (accepted 3)
unfolding reading
thin_000110 = refl

thin_000111 : found (codes "{\"all\":{\"hosts\":[\"h1\"]}}") (codes "[{\"hosts\": \"all\", \"tasks\": [{\"ping\": null, \"register\": \"r2\", \"when\": \"'web' in group_names\"}, {\"ping\": null}]}]") ≡ verdict (accepted 2)
unfolding reading
thin_000111 = refl

thin_000112 : found (codes "{\"all\":{\"hosts\":[\"h1\"]}}") (codes "[{\"hosts\": \"all\", \"tasks\": [{\"command\": {\"cmd\": \"x\", \"chdir\": \"/t\"}, \"register\": \"r3\"}, {\"debug\": {\"msg\": \"{{ 0 }}\"}, \"register\": \"r2\", \"name\": \"task 1\"}, {\"debug\": {\"msg\": [[\"{{ r2.changed }}\", \"{{ r3.changed }}\"]]}, \"register\": \"r2\"}, {\"command\": \"x\"}], \"name\": \"play\"}]") ≡ verdict (accepted 2)
unfolding reading
thin_000112 = refl

thin_000113 : found (codes "{\"all\":{\"hosts\":[\"h1\"]}}") (codes "[{\"hosts\": \"all\", \"tasks\": [{\"command\": \"x\", \"name\": \"task 0\"}]}]") ≡ verdict (accepted 1)
unfolding reading
thin_000113 = refl

thin_000114 : found (codes "{\"all\":{\"hosts\":[\"h1\"]}}") (codes "[{\"hosts\": \"all\", \"tasks\": [{\"debug\": {\"msg\": {}}, \"name\": \"task 0\"}, {\"debug\": {\"msg\": {\"g\": true}}}]}]") ≡ verdict (accepted 0)
unfolding reading
thin_000114 = refl

thin_000115 : found (codes "{\"all\":{\"hosts\":[\"h1\"]}}") (codes "[{\"hosts\": \"all\", \"tasks\": [{\"command\": \"x\", \"register\": \"r3\"}, {\"set_fact\": {\"s1\": {\"h\": {\"g\": \"text\"}}}, \"register\": \"r2\", \"name\": \"task 1\"}, {\"set_fact\": {\"s2\": \"\"}, \"register\": \"s1\"}]}]") ≡ verdict (accepted 1)
unfolding reading
thin_000115 = refl

thin_000116 : found (codes "{\"all\":{\"hosts\":[\"h1\"]}}") (codes "[{\"hosts\": \"all\", \"tasks\": [{\"ping\": null, \"register\": \"r1\", \"when\": \"nope and r1.g.stderr==r1.failed\", \"name\": \"task 0\"}], \"name\": \"play\"}]") ≡ verdict (refused (record { code = 1; line = 2; host = Some (codes "h1") }))
unfolding reading
thin_000116 = refl

thin_000117 : found (codes "{\"all\":{\"hosts\":[\"h1\"]}}") (codes "[{\"hosts\": \"all\", \"tasks\": [{\"command\": \"x\"}, {\"command\": \"x\", \"register\": \"r1\", \"name\": \"task 1\"}], \"name\": \"play\"}]") ≡ verdict (accepted 2)
unfolding reading
thin_000117 = refl

thin_000118 : found (codes "{\"all\":{\"hosts\":[\"h1\"]}}") (codes "[{\"hosts\": \"all\", \"tasks\": [{\"debug\": {\"msg\": {\"h\": \"text\", \"f\": null}}}, {\"debug\": {\"msg\": \"{{ 'web' }}\"}}, {\"command\": \"x\", \"name\": \"task 2\"}, {\"command\": \"x\"}, {\"command\": {\"cmd\": \"x\", \"chdir\": \"/t\"}}, {\"command\": \"x\", \"when\": \"r1.failed\"}], \"name\": \"play\"}]") ≡ verdict (refused (record { code = 1; line = 7; host = Some (codes "h1") }))
unfolding reading
thin_000118 = refl

thin_000119 : found (codes "{\"all\":{\"hosts\":[\"h1\"]}}") (codes "[{\"hosts\": \"all\", \"tasks\": [{\"set_fact\": {\"s2\": \"{{ r1 }}\"}, \"when\": \"r1.failed\"}], \"name\": \"play\"}]") ≡ verdict (refused (record { code = 1; line = 2; host = Some (codes "h1") }))
unfolding reading
thin_000119 = refl

thin_000120 : found (codes "{\"all\":{\"hosts\":[\"h1\"]}}") (codes "[{\"hosts\": \"all\", \"tasks\": [{\"command\": {\"cmd\": \"{{ inventory_hostname }}\"}}, {\"ping\": null, \"register\": \"r3\", \"name\": \"task 1\"}, {\"command\": {\"cmd\": \"x\", \"chdir\": \"/t\"}, \"register\": \"r3\", \"when\": \"'web' in group_names\"}, {\"set_fact\": {\"s3\": {}}, \"register\": \"r1\"}, {\"command\": {\"cmd\": \"x\", \"chdir\": \"/t\"}, \"register\": \"s1\"}, {\"command\": {\"cmd\": \"{{ \\\"b\\\" }}\"}}]}]") ≡ verdict (accepted 5)
unfolding reading
thin_000120 = refl

thin_000121 : found (codes "{\"all\":{\"hosts\":[\"h1\"]}}") (codes "[{\"hosts\": \"all\", \"tasks\": [{\"ping\": null, \"register\": \"r1\", \"when\": \"not not r1.skip_reason.stderr_lines and true\", \"name\": \"task 0\"}]}]") ≡ verdict (refused (record { code = 1; line = 2; host = Some (codes "h1") }))
unfolding reading
thin_000121 = refl

thin_000122 : found (codes "{\"all\":{\"hosts\":[\"h1\"]}}") (codes "[{\"hosts\": \"all\", \"tasks\": [{\"command\": \"x\"}, {\"debug\": {\"msg\": \"{{ 'web' }}\"}, \"register\": \"r1\"}, {\"set_fact\": {\"s1\": \"{{ r1.failed and r1.changed }}\"}, \"register\": \"r1\", \"name\": \"task 2\"}, {\"command\": \"x\", \"register\": \"r2\", \"when\": \"r1.changed\"}, {\"command\": \"x\", \"register\": \"r2\", \"when\": true}, {\"set_fact\": {\"s2\": \"{{ \\\"b\\\" }}\"}}]}]") ≡ verdict (accepted 3)
unfolding reading
thin_000122 = refl

thin_000123 : found (codes "{\"all\":{\"hosts\":[\"h1\"]}}") (codes "[{\"hosts\": \"all\", \"tasks\": [{\"command\": {\"cmd\": \"{{ nope and r1.stderr }}\"}, \"register\": \"r1\"}]}]") ≡ verdict (refused (record { code = 1; line = 2; host = Some (codes "h1") }))
unfolding reading
thin_000123 = refl
