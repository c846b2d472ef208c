-- Cases of thin, computed from the bytes of their files.
use Rattle.std.specs.Prelude.{◌≡◌, refl, Some, None, codes}
use Rattle.pb_language.specs.Verdict.{accepted, refused}
use Rattle.pb_byte_rows.specs.Found.{verdict, found}
use Rattle.pb_byte_rows.proofs.Computing.{reading}

thin_000124 : found (codes "{\"all\":{\"hosts\":[\"h1\"]}}") (codes "[{\"hosts\": \"all\", \"tasks\": [{\"debug\": {\"msg\": \"{{ 'a' }}\"}, \"register\": \"r3\", \"name\": \"task 0\"}, {\"debug\": {\"msg\": \"{{ r3.failed }}\"}}, {\"debug\": {\"msg\": \"{{ r3.changed }}\"}, \"register\": \"s1\"}], \"name\": \"play\"}]") ≡ verdict (accepted 0)
unfolding reading
thin_000124 = refl

thin_000125 : found (codes "{\"all\":{\"hosts\":[\"h1\"]}}") (codes "[{\"hosts\": \"all\", \"tasks\": [{\"command\": \"x\"}, {\"ping\": null, \"register\": \"r1\"}]}]") ≡ verdict (accepted 2)
unfolding reading
thin_000125 = refl

thin_000126 : found (codes "{\"all\":{\"hosts\":[\"h1\"]}}") (codes "[{\"hosts\": \"all\", \"tasks\": [{\"debug\": {\"msg\": \"\"}, \"register\": \"r3\"}, {\"set_fact\": {\"s3\": [[]]}}, {\"set_fact\": {\"s1\": []}, \"register\": \"r2\"}, {\"debug\": {\"msg\": \"{{ r3 }}\"}, \"register\": \"r1\", \"name\": \"task 3\"}, {\"debug\": {\"msg\": \"{{ not r2.failed and r2.changed }}\"}, \"register\": \"r2\", \"when\": \"r1.changed\"}, {\"debug\": {\"msg\": \"{{ r2 }}\"}, \"name\": \"task 5\"}], \"name\": \"play\"}]") ≡ verdict (accepted 0)
unfolding reading
thin_000126 = refl

thin_000127 : found (codes "{\"all\":{\"hosts\":[\"h1\"]}}") (codes "[{\"hosts\": \"all\", \"tasks\": [{\"debug\": {\"msg\": {\"h\": \"{{ False }}\", \"f\": \"{{ 1 }}\"}}, \"register\": \"s1\"}]}]") ≡ verdict (accepted 0)
unfolding reading
thin_000127 = refl

thin_000128 : found (codes "{\"all\":{\"hosts\":[\"h1\"]}}") (codes "[{\"hosts\": \"all\", \"tasks\": [{\"command\": \"x\", \"register\": \"s1\"}, {\"command\": \"x\", \"register\": \"r1\", \"when\": \"'h' in inventory_hostname\"}]}]") ≡ verdict (accepted 2)
unfolding reading
thin_000128 = refl

thin_000129 : found (codes "{\"all\":{\"hosts\":[\"h1\"]}}") (codes "[{\"hosts\": \"all\", \"tasks\": [{\"command\": \"x\", \"when\": \"r1.failed and r1.changed\", \"name\": \"task 0\"}]}]") ≡ verdict (refused (record { code = 1; line = 2; host = Some (codes "h1") }))
unfolding reading
thin_000129 = refl

thin_000130 : found (codes "{\"all\":{\"hosts\":[\"h1\"]}}") (codes "[{\"hosts\": \"all\", \"tasks\": [{\"ping\": null, \"name\": \"task 0\"}, {\"command\": \"x\"}, {\"command\": \"x\", \"when\": \"true\"}, {\"command\": \"x\", \"register\": \"r3\"}, {\"command\": \"x\", \"register\": \"s1\", \"when\": \"'h' in inventory_hostname\", \"name\": \"task 4\"}, {\"set_fact\": {\"s2\": \"{{ false }}\"}, \"register\": \"r3\", \"name\": \"task 5\"}]}]") ≡ verdict (accepted 5)
unfolding reading
thin_000130 = refl

thin_000131 : found (codes "{\"all\":{\"hosts\":[\"h1\"]}}") (codes "[{\"hosts\": \"all\", \"tasks\": [{\"debug\": {\"msg\": \"{{ 1 == True }}\"}, \"register\": \"s1\", \"when\": \"not False\"}, {\"command\": \"x\", \"register\": \"r1\"}, {\"set_fact\": {\"s3\": {}, \"s2\": 5}, \"when\": false}], \"name\": \"play\"}]") ≡ verdict (accepted 1)
unfolding reading
thin_000131 = refl

thin_000132 : found (codes "{\"all\":{\"hosts\":[\"h1\"]}}") (codes "[{\"hosts\": \"all\", \"tasks\": [{\"command\": \"x\", \"register\": \"r1\"}, {\"command\": \"x\"}, {\"debug\": {\"msg\": \"{{ true }}\"}}, {\"command\": {\"cmd\": [\"{{ r1.g }}\"]}, \"name\": \"task 3\"}]}]") ≡ verdict (refused (record { code = 3; line = 5; host = Some (codes "h1") }))
unfolding reading
thin_000132 = refl

thin_000133 : found (codes "{\"all\":{\"hosts\":[\"h1\"]}}") (codes "[{\"hosts\": \"all\", \"tasks\": [{\"command\": \"x\"}, {\"debug\": {\"msg\": []}}, {\"command\": \"x\", \"register\": \"r2\", \"when\": \"False or true\"}, {\"command\": {\"cmd\": \"{{ inventory_hostname }}\"}, \"register\": \"r1\", \"name\": \"task 3\"}]}]") ≡ verdict (accepted 3)
unfolding reading
thin_000133 = refl

thin_000134 : found (codes "{\"all\":{\"hosts\":[\"h1\"]}}") (codes "[{\"hosts\": \"all\", \"tasks\": [{\"debug\": {\"msg\": \"{{ true }}\"}, \"register\": \"r2\"}, {\"command\": {\"cmd\": \"{{ inventory_hostname }}\"}, \"register\": \"s1\", \"name\": \"task 1\"}, {\"debug\": {\"msg\": []}, \"register\": \"r3\"}, {\"debug\": {\"msg\": -1}, \"when\": \"r2.changed\", \"name\": \"task 3\"}]}]") ≡ verdict (accepted 1)
unfolding reading
thin_000134 = refl

thin_000135 : found (codes "{\"all\":{\"hosts\":[\"h1\"]}}") (codes "[{\"hosts\": \"all\", \"tasks\": [{\"command\": {\"cmd\": \"x\", \"chdir\": \"/t\"}, \"register\": \"r1\", \"name\": \"task 0\"}, {\"debug\": {\"msg\": \"{{ r1.changed }}\"}}, {\"command\": \"x\", \"register\": \"r2\", \"when\": \"inventory_hostname == 'h1'\"}, {\"ping\": null, \"register\": \"r2\"}, {\"command\": \"x\", \"when\": \"r2.failed\", \"name\": \"task 4\"}, {\"command\": \"x\", \"when\": \"r1.changed\"}, {\"debug\": {\"msg\": [5]}, \"when\": \"1 == 1\"}, {\"command\": \"x\", \"register\": \"r2\"}, {\"ping\": null, \"name\": \"task 8\"}]}]") ≡ verdict (accepted 7)
unfolding reading
thin_000135 = refl

thin_000136 : found (codes "{\"all\":{\"hosts\":[\"h1\"]}}") (codes "[{\"hosts\": \"all\", \"tasks\": [{\"debug\": {\"msg\": \"{{ r1.zz != r1.changed }}\"}, \"register\": \"r2\", \"name\": \"task 0\"}]}]") ≡ verdict (refused (record { code = 1; line = 2; host = Some (codes "h1") }))
unfolding reading
thin_000136 = refl

thin_000137 : found (codes "{\"all\":{\"hosts\":[\"h1\"]}}") (codes "[{\"hosts\": \"all\", \"tasks\": [{\"command\": \"x\", \"register\": \"r1\"}]}]") ≡ verdict (accepted 1)
unfolding reading
thin_000137 = refl

thin_000138 : found (codes "{\"all\":{\"hosts\":[\"h1\"]}}") (codes "[{\"hosts\": \"all\", \"tasks\": [{\"command\": {\"cmd\": \"{{ inventory_hostname }}\"}, \"register\": \"r3\", \"when\": \"1 == 1\"}, {\"command\": \"x\", \"register\": \"s1\"}]}]") ≡ verdict (accepted 2)
unfolding reading
thin_000138 = refl

thin_000139 : found (codes "{\"all\":{\"hosts\":[\"h1\"]}}") (codes "[{\"hosts\": \"all\", \"tasks\": [{\"set_fact\": {\"s3\": \"{{ True }}\", \"s2\": null}, \"register\": \"r3\"}]}]") ≡ verdict (accepted 0)
unfolding reading
thin_000139 = refl

thin_000140 : found (codes "{\"all\":{\"hosts\":[\"h1\"]}}") (codes "[{\"hosts\": \"all\", \"tasks\": [{\"command\": \"x\", \"name\": \"task 0\"}]}]") ≡ verdict (accepted 1)
unfolding reading
thin_000140 = refl

thin_000141 : found (codes "{\"all\":{\"hosts\":[\"h1\"]}}") (codes "[{\"hosts\": \"all\", \"tasks\": [{\"debug\": {\"msg\": 5}, \"register\": \"r1\"}, {\"command\": {\"cmd\": \"{{ inventory_hostname }}\"}, \"register\": \"r3\"}, {\"debug\": {\"msg\": \"{{ ((not r3.failed)) }}\"}, \"register\": \"r3\"}, {\"debug\": {\"msg\": true}, \"when\": \"r3.failed\"}, {\"command\": \"x\", \"register\": \"r1\", \"name\": \"task 4\"}, {\"command\": \"x\", \"register\": \"r1\", \"when\": \"not r1.failed and r1.changed\"}]}]") ≡ verdict (accepted 3)
unfolding reading
thin_000141 = refl

thin_000142 : found (codes "{\"all\":{\"hosts\":[\"h1\"]}}") (codes "[{\"hosts\": \"all\", \"tasks\": [{\"command\": \"x\"}, {\"set_fact\": {\"s3\": {}}}, {\"debug\": {\"msg\": \"{{ -3 }}\"}}, {\"command\": {\"cmd\": \"{{ inventory_hostname }}\"}, \"register\": \"r1\", \"name\": \"task 3\"}, {\"ping\": null, \"when\": \"True\"}, {\"command\": {\"cmd\": \"{{ inventory_hostname }}\"}, \"when\": \"r1.failed and r1.changed\"}], \"name\": \"play\"}]") ≡ verdict (accepted 4)
unfolding reading
thin_000142 = refl

thin_000143 : found (codes "{\"all\":{\"hosts\":[\"h1\"]}}") (codes "[{\"hosts\": \"all\", \"tasks\": [{\"command\": \"x\"}, {\"command\": \"x\", \"register\": \"s1\", \"name\": \"task 1\"}]}]") ≡ verdict (accepted 2)
unfolding reading
thin_000143 = refl

thin_000144 : found (codes "{\"all\":{\"hosts\":[\"h1\"]}}") (codes "[{\"hosts\": \"all\", \"tasks\": [{\"command\": \"x\", \"register\": \"r2\", \"name\": \"task 0\"}, {\"command\": \"x\", \"register\": \"s1\"}, {\"debug\": {\"msg\": \"{{ inventory_hostname == 'h1' }}\"}, \"register\": \"s1\"}, {\"command\": \"x\"}], \"name\": \"play\"}]") ≡ verdict (accepted 3)
unfolding reading
thin_000144 = refl

thin_000145 : found (codes "{\"all\":{\"hosts\":[\"h1\"]}}") (codes "[{\"hosts\": \"all\", \"tasks\": [{\"debug\": {\"msg\": []}}, {\"ping\": {\"data\": \"{{ ('') }}\"}, \"register\": \"s1\"}, {\"ping\": null, \"register\": \"r1\", \"name\": \"task 2\"}, {\"command\": \"x\", \"register\": \"r2\"}]}]") ≡ verdict (accepted 3)
unfolding reading
thin_000145 = refl

thin_000146 : found (codes "{\"all\":{\"hosts\":[\"h1\"]}}") (codes "[{\"hosts\": \"all\", \"tasks\": [{\"debug\": {\"msg\": []}, \"register\": \"s1\"}, {\"ping\": null, \"register\": \"r2\", \"when\": \"inventory_hostname == 'h1'\", \"name\": \"task 1\"}]}]") ≡ verdict (accepted 1)
unfolding reading
thin_000146 = refl

thin_000147 : found (codes "{\"all\":{\"hosts\":[\"h1\"]}}") (codes "[{\"hosts\": \"all\", \"tasks\": [{\"debug\": {\"msg\": {\"g\": \"\"}}}, {\"set_fact\": {\"s1\": \"{{ True }}\"}, \"register\": \"s1\", \"name\": \"task 1\"}, {\"command\": \"x\", \"name\": \"task 2\"}, {\"ping\": null, \"register\": \"s1\"}, {\"debug\": {\"msg\": \"{{ True }}\"}}, {\"ping\": null, \"register\": \"s1\", \"when\": \"'web' in group_names\", \"name\": \"task 5\"}]}]") ≡ verdict (accepted 3)
unfolding reading
thin_000147 = refl

thin_000148 : found (codes "{\"all\":{\"hosts\":[\"h1\"]}}") (codes "[{\"hosts\": \"all\", \"tasks\": [{\"debug\": {\"msg\": []}}, {\"command\": \"x\"}, {\"debug\": {\"msg\": \"\"}, \"register\": \"r1\"}, {\"command\": \"x\", \"register\": \"r2\"}]}]") ≡ verdict (accepted 2)
unfolding reading
thin_000148 = refl

thin_000149 : found (codes "{\"all\":{\"hosts\":[\"h1\"]}}") (codes "[{\"hosts\": \"all\", \"tasks\": [{\"command\": \"x\", \"register\": \"r2\"}], \"name\": \"play\"}]") ≡ verdict (accepted 1)
unfolding reading
thin_000149 = refl

thin_000150 : found (codes "{\"all\":{\"hosts\":[\"h1\"]}}") (codes "[{\"hosts\": \"all\", \"tasks\": [{\"set_fact\": {\"s3\": \"a { b } c\"}, \"register\": \"r2\"}, {\"command\": \"x\", \"register\": \"r3\", \"when\": \"r2.failed\"}, {\"command\": \"x\", \"register\": \"s1\", \"name\": \"task 2\"}], \"name\": \"play\"}]") ≡ verdict (accepted 2)
unfolding reading
thin_000150 = refl

thin_000151 : found (codes "{\"all\":{\"hosts\":[\"h1\"]}}") (codes "[{\"hosts\": \"all\", \"tasks\": [{\"ping\": null, \"register\": \"s1\", \"name\": \"task 0\"}, {\"debug\": {\"msg\": \"{{ (9223372036854775807==9223372036854775807) and 'it\\\\'s' == s1 }}\"}}, {\"command\": {\"cmd\": \"{{ inventory_hostname }}\"}, \"register\": \"r1\", \"when\": false}, {\"debug\": {\"msg\": \"{{ inventory_hostname }}\"}, \"register\": \"r3\", \"name\": \"task 3\"}, {\"command\": \"x\", \"register\": \"r1\"}, {\"command\": \"x\", \"register\": \"r2\", \"name\": \"task 5\"}, {\"debug\": {\"msg\": []}, \"name\": \"task 6\"}, {\"ping\": null, \"register\": \"r2\"}, {\"command\": \"x\", \"register\": \"r2\", \"name\": \"task 8\"}]}]") ≡ verdict (accepted 6)
unfolding reading
thin_000151 = refl

thin_000152 : found (codes "{\"all\":{\"hosts\":[\"h1\"]}}") (codes "[{\"hosts\": \"all\", \"tasks\": [{\"debug\": {\"msg\": \"{{ True }}\"}}, {\"set_fact\": {\"s2\": 5}, \"register\": \"r1\"}, {\"ping\": null, \"register\": \"r2\", \"name\": \"task 2\"}, {\"command\": {\"cmd\": \"{{ inventory_hostname }}\"}, \"register\": \"r2\", \"when\": \"'h' in inventory_hostname\"}]}]") ≡ verdict (accepted 2)
unfolding reading
thin_000152 = refl

thin_000153 : found (codes "{\"all\":{\"hosts\":[\"h1\"]}}") (codes "[{\"hosts\": \"all\", \"tasks\": [{\"command\": \"x\"}, {\"command\": \"x\", \"register\": \"r3\", \"name\": \"task 1\"}, {\"debug\": {\"msg\": []}, \"when\": \"r3.changed\"}, {\"command\": \"x\", \"register\": \"r2\", \"when\": \"r3.failed and r3.changed\"}]}]") ≡ verdict (accepted 3)
unfolding reading
thin_000153 = refl

thin_000154 : found (codes "{\"all\":{\"hosts\":[\"h1\"]}}") (codes "[{\"hosts\": \"all\", \"tasks\": [{\"set_fact\": {\"s1\": \"{{ true }}\"}, \"register\": \"r1\"}, {\"command\": \"x\"}], \"name\": \"play\"}]") ≡ verdict (accepted 1)
unfolding reading
thin_000154 = refl

thin_000155 : found (codes "{\"all\":{\"hosts\":[\"h1\"]}}") (codes "[{\"hosts\": \"all\", \"tasks\": [{\"debug\": {\"msg\": {\"h\": [5]}}, \"name\": \"task 0\"}, {\"debug\": {\"msg\": \"{{ True }}\"}}, {\"command\": \"x\", \"register\": \"r1\", \"name\": \"task 2\"}, {\"debug\": {\"msg\": -1}, \"register\": \"r3\", \"when\": \"true\", \"name\": \"task 3\"}, {\"command\": \"x\"}, {\"set_fact\": {\"s3\": []}}]}]") ≡ verdict (accepted 2)
unfolding reading
thin_000155 = refl

thin_000156 : found (codes "{\"all\":{\"hosts\":[\"h1\"]}}") (codes "[{\"hosts\": \"all\", \"tasks\": [{\"command\": \"x\", \"register\": \"s1\"}, {\"command\": {\"cmd\": \"x\", \"chdir\": \"/t\"}}, {\"command\": \"x\", \"register\": \"r3\"}, {\"debug\": {\"msg\": \"{{ False and False == -3 }}\"}, \"register\": \"r2\", \"when\": \"r3.changed\"}]}]") ≡ verdict (accepted 3)
unfolding reading
thin_000156 = refl

thin_000157 : found (codes "{\"all\":{\"hosts\":[\"h1\"]}}") (codes "[{\"hosts\": \"all\", \"tasks\": [{\"ping\": null, \"register\": \"r3\", \"name\": \"task 0\"}, {\"command\": \"x\", \"register\": \"s1\"}, {\"debug\": {\"msg\": 5}, \"register\": \"r1\"}, {\"command\": \"x\"}, {\"debug\": {\"msg\": \"{{ ('it\\\\'s') }}\"}}, {\"command\": {\"cmd\": \"{{ inventory_hostname }}\"}}], \"name\": \"play\"}]") ≡ verdict (accepted 4)
unfolding reading
thin_000157 = refl

thin_000158 : found (codes "{\"all\":{\"hosts\":[\"h1\"]}}") (codes "[{\"hosts\": \"all\", \"tasks\": [{\"set_fact\": {\"s1\": [{}]}, \"register\": \"r2\"}, {\"command\": {\"cmd\": \"x\", \"chdir\": \"/t\"}, \"register\": \"r1\", \"when\": \"r2.failed\"}, {\"command\": \"x\", \"when\": \"true\", \"name\": \"task 2\"}, {\"debug\": {\"msg\": \"{{ r2.failed and r2.changed }}\"}}, {\"command\": \"x\", \"register\": \"r1\"}, {\"command\": {\"cmd\": \"x\", \"chdir\": \"/t\"}, \"when\": \"r2.failed\"}, {\"set_fact\": {\"s3\": {\"f\": \"\"}, \"s2\": [\"{{ r1.failed }}\", {\"h\": 7, \"f\": \"{{ -3 }}\"}]}, \"when\": \"1 == 1\", \"name\": \"task 6\"}, {\"debug\": {\"msg\": \"a { b } c\"}, \"when\": \"r1.changed\"}, {\"command\": \"x\"}]}]") ≡ verdict (accepted 5)
unfolding reading
thin_000158 = refl

thin_000159 : found (codes "{\"all\":{\"hosts\":[\"h1\"]}}") (codes "[{\"hosts\": \"all\", \"tasks\": [{\"ping\": null}, {\"command\": \"x\"}, {\"set_fact\": {\"s3\": \"{{ false }}\"}}, {\"ping\": null, \"register\": \"r2\", \"name\": \"task 3\"}], \"name\": \"play\"}]") ≡ verdict (accepted 3)
unfolding reading
thin_000159 = refl

thin_000160 : found (codes "{\"all\":{\"hosts\":[\"h1\"]}}") (codes "[{\"hosts\": \"all\", \"tasks\": [{\"debug\": {\"msg\": \"{{ false }}\"}}]}]") ≡ verdict (accepted 0)
unfolding reading
thin_000160 = refl

thin_000161 : found (codes "{\"all\":{\"hosts\":[\"h1\"]}}") (codes "[{\"hosts\": \"all\", \"tasks\": [{\"command\": \"x\"}, {\"command\": {\"cmd\": \"{{ inventory_hostname }}\"}}, {\"ping\": null}, {\"command\": \"x\", \"register\": \"r3\"}, {\"command\": \"x\", \"name\": \"task 4\"}, {\"command\": \"x\", \"register\": \"r1\", \"when\": \"r3.changed\"}]}]") ≡ verdict (accepted 6)
unfolding reading
thin_000161 = refl

thin_000162 : found (codes "{\"all\":{\"hosts\":[\"h1\"]}}") (codes "[{\"hosts\": \"all\", \"tasks\": [{\"debug\": {\"msg\": -1}, \"register\": \"r3\", \"name\": \"task 0\"}], \"name\": \"play\"}]") ≡ verdict (accepted 0)
unfolding reading
thin_000162 = refl

thin_000163 : found (codes "{\"all\":{\"hosts\":[\"h1\"]}}") (codes "[{\"hosts\": \"all\", \"tasks\": [{\"ping\": null, \"register\": \"s1\"}, {\"debug\": {\"msg\": \"{{ 'it\\\\'s' }}\"}, \"register\": \"s1\", \"when\": \"true\", \"name\": \"task 1\"}, {\"command\": {\"cmd\": \"x\", \"chdir\": \"/t\"}}, {\"ping\": null}, {\"command\": \"x\"}, {\"debug\": {\"msg\": {\"g\": 5, \"h\": \"{{ True }}\"}}, \"when\": \"1 == 1\", \"name\": \"task 5\"}], \"name\": \"play\"}]") ≡ verdict (accepted 4)
unfolding reading
thin_000163 = refl

thin_000164 : found (codes "{\"all\":{\"hosts\":[\"h1\"]}}") (codes "[{\"hosts\": \"all\", \"tasks\": [{\"set_fact\": {\"s1\": \"{{ r1.stderr.f }}\", \"s2\": \"{{ r1.failed and r1.changed }}\"}, \"register\": \"r3\", \"name\": \"task 0\"}], \"name\": \"play\"}]") ≡ verdict (refused (record { code = 1; line = 2; host = Some (codes "h1") }))
unfolding reading
thin_000164 = refl

thin_000165 : found (codes "{\"all\":{\"hosts\":[\"h1\"]}}") (codes "[{\"hosts\": \"all\", \"tasks\": [{\"command\": \"x\", \"register\": \"r2\"}], \"name\": \"play\"}]") ≡ verdict (accepted 1)
unfolding reading
thin_000165 = refl

thin_000166 : found (codes "{\"all\":{\"hosts\":[\"h1\"]}}") (codes "[{\"hosts\": \"all\", \"tasks\": [{\"debug\": {\"msg\": []}, \"register\": \"r1\"}, {\"ping\": {\"data\": {\"h\": \"{{ 1 == 1 }}\", \"f\": \"{{ nope.x }}\"}}, \"when\": \"true\", \"name\": \"task 1\"}]}]") ≡ verdict (refused (record { code = 1; line = 3; host = Some (codes "h1") }))
unfolding reading
thin_000166 = refl

thin_000167 : found (codes "{\"all\":{\"hosts\":[\"h1\"]}}") (codes "[{\"hosts\": \"all\", \"tasks\": [{\"set_fact\": {\"s1\": {}, \"s3\": [\"{{ 1 }}\"]}, \"register\": \"s1\", \"name\": \"task 0\"}, {\"debug\": {\"msg\": [{}]}}], \"name\": \"play\"}]") ≡ verdict (accepted 0)
unfolding reading
thin_000167 = refl

thin_000168 : found (codes "{\"all\":{\"hosts\":[\"h1\"]}}") (codes "[{\"hosts\": \"all\", \"tasks\": [{\"command\": \"x\", \"register\": \"r2\"}, {\"debug\": {\"msg\": -1}, \"when\": \"1 == 1\"}, {\"debug\": {\"msg\": \"{{ (not r2.f or nope.x) }}\"}, \"register\": \"s1\", \"name\": \"task 2\"}], \"name\": \"play\"}]") ≡ verdict (refused (record { code = 3; line = 4; host = Some (codes "h1") }))
unfolding reading
thin_000168 = refl

thin_000169 : found (codes "{\"all\":{\"hosts\":[\"h1\"]}}") (codes "[{\"hosts\": \"all\", \"tasks\": [{\"ping\": null, \"register\": \"s1\"}, {\"command\": {\"cmd\": \"x\", \"chdir\": \"/t\"}, \"name\": \"task 1\"}, {\"command\": \"x\"}]}]") ≡ verdict (accepted 3)
unfolding reading
thin_000169 = refl

thin_000170 : found (codes "{\"all\":{\"hosts\":[\"h1\"]}}") (codes "[{\"hosts\": \"all\", \"tasks\": [{\"ping\": null, \"register\": \"r2\", \"when\": \"true\"}, {\"command\": \"x\", \"register\": \"r1\", \"when\": \"r2.failed\"}, {\"command\": {\"cmd\": \"{{ inventory_hostname }}\"}, \"register\": \"s1\", \"when\": \"r2.changed\", \"name\": \"task 2\"}], \"name\": \"play\"}]") ≡ verdict (accepted 3)
unfolding reading
thin_000170 = refl

thin_000171 : found (codes "{\"all\":{\"hosts\":[\"h1\"]}}") (codes "[{\"hosts\": \"all\", \"tasks\": [{\"command\": \"x\"}, {\"debug\": {\"msg\": -1}, \"register\": \"s1\", \"name\": \"task 1\"}, {\"command\": {\"cmd\": \"x\", \"chdir\": \"/t\"}}, {\"set_fact\": {\"s3\": [{\"h\": \"{{ 'h' in inventory_hostname }}\"}, \"{{ 0 }}\"]}, \"when\": \"'web' in group_names\"}, {\"command\": \"x\", \"register\": \"hostvars\", \"when\": \"'h' in inventory_hostname\"}]}]") ≡ verdict (refused (record { code = 8; line = 6; host = None }))
unfolding reading
thin_000171 = refl

thin_000172 : found (codes "{\"all\":{\"hosts\":[\"h1\"]}}") (codes "[{\"hosts\": \"all\", \"tasks\": [{\"command\": \"x\", \"register\": \"s1\"}, {\"debug\": {\"msg\": \"{{ (\\\"b\\\" != 'web') }}\"}, \"register\": \"r2\", \"when\": \"'web' in group_names\"}, {\"ping\": null}], \"name\": \"play\"}]") ≡ verdict (accepted 2)
unfolding reading
thin_000172 = refl

thin_000173 : found (codes "{\"all\":{\"hosts\":[\"h1\"]}}") (codes "[{\"hosts\": \"all\", \"tasks\": [{\"ping\": null, \"register\": \"r3\"}, {\"set_fact\": {\"s2\": \"{{ inventory_hostname == 'h1' }}\", \"s1\": true}, \"when\": \"not True==(r3)\"}, {\"command\": \"x\", \"register\": \"r2\"}]}]") ≡ verdict (accepted 2)
unfolding reading
thin_000173 = refl

thin_000174 : found (codes "{\"all\":{\"hosts\":[\"h1\"]}}") (codes "[{\"hosts\": \"all\", \"tasks\": [{\"ping\": null, \"register\": \"r2\", \"when\": \"1 == 1\"}], \"name\": \"play\"}]") ≡ verdict (accepted 1)
unfolding reading
thin_000174 = refl

thin_000175 : found (codes "{\"all\":{\"hosts\":[\"h1\"]}}") (codes "[{\"hosts\": \"all\", \"tasks\": [{\"command\": \"x\"}, {\"ping\": null, \"register\": \"r2\"}, {\"ping\": null, \"register\": \"r3\", \"when\": \"r2.failed\", \"name\": \"task 2\"}, {\"debug\": {\"msg\": \"a { b } c\"}, \"when\": \"inventory_hostname == 'h1'\"}]}]") ≡ verdict (accepted 3)
unfolding reading
thin_000175 = refl

thin_000176 : found (codes "{\"all\":{\"hosts\":[\"h1\"]}}") (codes "[{\"hosts\": \"all\", \"tasks\": [{\"command\": {\"cmd\": \"{{ inventory_hostname }}\"}}]}]") ≡ verdict (accepted 1)
unfolding reading
thin_000176 = refl

thin_000177 : found (codes "{\"all\":{\"hosts\":[\"h1\"]}}") (codes "[{\"hosts\": \"all\", \"tasks\": [{\"ping\": null, \"name\": \"task 0\"}, {\"ping\": null, \"register\": \"r1\"}], \"name\": \"play\"}]") ≡ verdict (accepted 2)
unfolding reading
thin_000177 = refl

thin_000178 : found (codes "{\"all\":{\"hosts\":[\"h1\"]}}") (codes "[{\"hosts\": \"all\", \"tasks\": [{\"set_fact\": {\"s1\": {}}}]}]") ≡ verdict (accepted 0)
unfolding reading
thin_000178 = refl

thin_000179 : found (codes "{\"all\":{\"hosts\":[\"h1\"]}}") (codes "[{\"hosts\": \"all\", \"tasks\": [{\"command\": {\"cmd\": \"text\"}, \"name\": \"task 0\"}, {\"set_fact\": {\"s1\": \"a { b } c\"}, \"register\": \"r2\", \"name\": \"task 1\"}]}]") ≡ verdict (accepted 1)
unfolding reading
thin_000179 = refl

thin_000180 : found (codes "{\"all\":{\"hosts\":[\"h1\"]}}") (codes "[{\"hosts\": \"all\", \"tasks\": [{\"command\": \"x\", \"when\": \"r1.stderr in r1.skip_reason\"}]}]") ≡ verdict (refused (record { code = 1; line = 2; host = Some (codes "h1") }))
unfolding reading
thin_000180 = refl

thin_000181 : found (codes "{\"all\":{\"hosts\":[\"h1\"]}}") (codes "[{\"hosts\": \"all\", \"tasks\": [{\"debug\": {\"msg\": \"{{ nope.x not in 'web' }}\"}, \"name\": \"task 0\"}], \"name\": \"play\"}]") ≡ verdict (refused (record { code = 1; line = 2; host = Some (codes "h1") }))
unfolding reading
thin_000181 = refl

thin_000182 : found (codes "{\"all\":{\"hosts\":[\"h1\"]}}") (codes "[{\"hosts\": \"all\", \"tasks\": [{\"command\": \"x\", \"register\": \"r1\", \"name\": \"task 0\"}, {\"debug\": {\"msg\": \"{{ r1 }}\"}, \"register\": \"r2\"}, {\"set_fact\": {\"s1\": true}, \"register\": \"r2\"}, {\"command\": \"x\", \"register\": \"r2\"}]}]") ≡ verdict (accepted 2)
unfolding reading
thin_000182 = refl

thin_000183 : found (codes "{\"all\":{\"hosts\":[\"h1\"]}}") (codes "[{\"hosts\": \"all\", \"tasks\": [{\"set_fact\": {\"s3\": []}, \"name\": \"task 0\"}], \"name\": \"play\"}]") ≡ verdict (accepted 0)
unfolding reading
thin_000183 = refl

thin_000184 : found (codes "{\"all\":{\"hosts\":[\"h1\"]}}") (codes "[{\"hosts\": \"all\", \"tasks\": [{\"debug\": {\"msg\": {}}}, {\"command\": \"x\", \"register\": \"r3\"}, {\"set_fact\": {\"s1\": \"{{ not r3.failed not in r3.rc }}\"}, \"register\": \"r3\", \"when\": \"r3.failed\"}], \"name\": \"play\"}]") ≡ verdict (refused (record { code = 4; line = 4; host = Some (codes "h1") }))
unfolding reading
thin_000184 = refl

thin_000185 : found (codes "{\"all\":{\"hosts\":[\"h1\"]}}") (codes "[{\"hosts\": \"all\", \"tasks\": [{\"command\": \"x\"}], \"name\": \"play\"}]") ≡ verdict (accepted 1)
unfolding reading
thin_000185 = refl

thin_000186 : found (codes "{\"all\":{\"hosts\":[\"h1\"]}}") (codes "[{\"hosts\": \"all\", \"tasks\": [{\"debug\": {\"msg\": \"a { b } c\"}, \"when\": \"r1.changed\", \"name\": \"task 0\"}]}]") ≡ verdict (refused (record { code = 1; line = 2; host = Some (codes "h1") }))
unfolding reading
thin_000186 = refl

thin_000187 : found (codes "{\"all\":{\"hosts\":[\"h1\"]}}") (codes "[{\"hosts\": \"all\", \"tasks\": [{\"ping\": null, \"name\": \"task 0\"}, {\"command\": \"x\", \"when\": \"inventory_hostname\", \"name\": \"task 1\"}]}]") ≡ verdict (refused (record { code = 4; line = 3; host = Some (codes "h1") }))
unfolding reading
thin_000187 = refl

thin_000188 : found (codes "{\"all\":{\"hosts\":[\"h1\"]}}") (codes "[{\"hosts\": \"all\", \"tasks\": [{\"set_fact\": {\"s1\": \"{{ True }}\"}, \"register\": \"r1\"}, {\"ping\": null, \"register\": \"r3\"}, {\"debug\": {\"msg\": []}, \"register\": \"r2\"}, {\"command\": {\"cmd\": \"x\", \"chdir\": \"/t\"}, \"name\": \"task 3\"}, {\"debug\": {\"msg\": \"{{ s1.stderr_lines }}\"}, \"when\": \"inventory_hostname == 'h1'\"}]}]") ≡ verdict (refused (record { code = 4; line = 6; host = Some (codes "h1") }))
unfolding reading
thin_000188 = refl

thin_000189 : found (codes "{\"all\":{\"hosts\":[\"h1\"]}}") (codes "[{\"hosts\": \"all\", \"tasks\": [{\"command\": \"x\"}, {\"debug\": {\"msg\": \"a { b } c\"}}, {\"command\": \"x\", \"register\": \"r3\"}, {\"debug\": {\"msg\": []}, \"register\": \"r2\", \"when\": \"true\"}], \"name\": \"play\"}]") ≡ verdict (accepted 2)
unfolding reading
thin_000189 = refl

thin_000190 : found (codes "{\"all\":{\"hosts\":[\"h1\"]}}") (codes "[{\"hosts\": \"all\", \"tasks\": [{\"command\": \"x\", \"register\": \"s1\", \"name\": \"task 0\"}]}]") ≡ verdict (accepted 1)
unfolding reading
thin_000190 = refl

thin_000191 : found (codes "{\"all\":{\"hosts\":[\"h1\"]}}") (codes "[{\"hosts\": \"all\", \"tasks\": [{\"command\": \"x\", \"register\": \"r1\"}, {\"debug\": {\"msg\": [\"{{ true }}\", \"text\"]}}, {\"ping\": null, \"register\": \"r1\"}, {\"set_fact\": {\"s2\": \"{{ ('it\\\\'s') }}\"}, \"register\": \"s1\", \"when\": \"r1.changed\"}, {\"command\": {\"cmd\": \"{{ inventory_hostname }}\"}, \"register\": \"r3\"}, {\"ping\": null, \"register\": \"r3\"}], \"name\": \"play\"}]") ≡ verdict (accepted 4)
unfolding reading
thin_000191 = refl

thin_000192 : found (codes "{\"all\":{\"hosts\":[\"h1\"]}}") (codes "[{\"hosts\": \"all\", \"tasks\": [{\"command\": \"x\", \"when\": true}, {\"set_fact\": {\"s1\": true, \"s3\": \"{{ true }}\"}}, {\"command\": \"x\", \"register\": \"r3\"}]}]") ≡ verdict (accepted 2)
unfolding reading
thin_000192 = refl

thin_000193 : found (codes "{\"all\":{\"hosts\":[\"h1\"]}}") (codes "[{\"hosts\": \"all\", \"tasks\": [{\"debug\": {\"msg\": [\"{{ 'web' }}\", [7]]}, \"register\": \"r3\"}, {\"debug\": {\"msg\": \"{{ False }}\"}, \"when\": \"r3.failed\", \"name\": \"task 1\"}, {\"debug\": {\"msg\": {}}, \"register\": \"r2\", \"name\": \"task 2\"}, {\"debug\": {\"msg\": []}, \"name\": \"task 3\"}, {\"command\": {\"cmd\": \"{{ inventory_hostname }}\"}, \"when\": \"not r3.failed and r3.changed\"}, {\"command\": \"x\"}]}]") ≡ verdict (accepted 2)
unfolding reading
thin_000193 = refl

thin_000194 : found (codes "{\"all\":{\"hosts\":[\"h1\"]}}") (codes "[{\"hosts\": \"all\", \"tasks\": [{\"command\": \"x\", \"register\": \"s1\"}, {\"debug\": {\"msg\": {\"f\": true}}, \"register\": \"r2\"}, {\"debug\": {\"msg\": \"\"}, \"register\": \"s1\", \"when\": \"inventory_hostname == 'h1'\"}, {\"set_fact\": {\"s3\": \"{{ r2.failed and r2.changed }}\"}, \"register\": \"r1\"}, {\"command\": {\"cmd\": \"{{ inventory_hostname }}\"}}, {\"debug\": {\"msg\": {}}}], \"name\": \"play\"}]") ≡ verdict (accepted 2)
unfolding reading
thin_000194 = refl

thin_000195 : found (codes "{\"all\":{\"hosts\":[\"h1\"]}}") (codes "[{\"hosts\": \"all\", \"tasks\": [{\"command\": {\"cmd\": \"x\", \"chdir\": \"/t\"}, \"name\": \"task 0\"}, {\"set_fact\": {\"s3\": \"{{ \\\"b\\\" }}\"}, \"register\": \"s1\"}, {\"command\": \"x\", \"when\": \"1 == 1\"}, {\"command\": \"x\", \"when\": true}, {\"command\": \"x\", \"register\": \"r1\", \"when\": \"1 == 1\", \"name\": \"task 4\"}, {\"command\": \"x\", \"register\": \"r1\", \"name\": \"task 5\"}]}]") ≡ verdict (accepted 5)
unfolding reading
thin_000195 = refl

thin_000196 : found (codes "{\"all\":{\"hosts\":[\"h1\"]}}") (codes "[{\"hosts\": \"all\", \"tasks\": [{\"set_fact\": {\"s2\": [\"text\"], \"s3\": 5}, \"name\": \"task 0\"}, {\"command\": \"x\", \"register\": \"r3\"}, {\"command\": {\"cmd\": []}, \"register\": \"r2\"}]}]") ≡ verdict (refused (record { code = 4; line = 4; host = Some (codes "h1") }))
unfolding reading
thin_000196 = refl

thin_000197 : found (codes "{\"all\":{\"hosts\":[\"h1\"]}}") (codes "[{\"hosts\": \"all\", \"tasks\": [{\"command\": \"x\", \"name\": \"task 0\"}, {\"ping\": null, \"register\": \"s1\"}, {\"command\": \"x\", \"register\": \"r3\"}, {\"debug\": {\"msg\": \"{{ ('it\\\\'s') }}\"}, \"when\": \"r3.failed and r3.changed\"}, {\"set_fact\": {\"s2\": \"a { b } c\"}, \"register\": \"r1\", \"when\": true, \"name\": \"task 4\"}, {\"set_fact\": {\"s3\": []}, \"register\": \"s1\", \"when\": \"r3.failed\"}]}]") ≡ verdict (accepted 3)
unfolding reading
thin_000197 = refl

thin_000198 : found (codes "{\"all\":{\"hosts\":[\"h1\"]}}") (codes "[{\"hosts\": \"all\", \"tasks\": [{\"set_fact\": {\"s3\": [\"{{ r1.failed }}\", {\"g\": 7}]}, \"register\": \"r1\", \"when\": \"r1.changed\"}]}]") ≡ verdict (refused (record { code = 1; line = 2; host = Some (codes "h1") }))
unfolding reading
thin_000198 = refl

thin_000199 : found (codes "{\"all\":{\"hosts\":[\"h1\"]}}") (codes "[{\"hosts\": \"all\", \"tasks\": [{\"debug\": {\"msg\": [\"\", {\"f\": \"text\"}]}, \"register\": \"r1\", \"name\": \"task 0\"}, {\"command\": \"x\"}, {\"command\": \"x\", \"register\": \"s1\", \"when\": \"r1.failed\"}]}]") ≡ verdict (accepted 2)
unfolding reading
thin_000199 = refl

thin_000200 : found (codes "{\"all\":{\"hosts\":[\"h1\"]}}") (codes "[{\"hosts\": \"all\", \"tasks\": [{\"command\": {\"cmd\": \"x\", \"chdir\": \"/t\"}, \"name\": \"task 0\"}]}]") ≡ verdict (accepted 1)
unfolding reading
thin_000200 = refl

thin_000201 : found (codes "{\"all\":{\"hosts\":[\"h1\"]}}") (codes "[{\"hosts\": \"all\", \"tasks\": [{\"command\": {\"cmd\": \"x\", \"chdir\": \"/t\"}, \"when\": \"inventory_hostname == 'h1'\"}]}]") ≡ verdict (accepted 1)
unfolding reading
thin_000201 = refl

thin_000202 : found (codes "{\"all\":{\"hosts\":[\"h1\"]}}") (codes "[{\"hosts\": \"all\", \"tasks\": [{\"command\": \"x\", \"name\": \"task 0\"}, {\"command\": \"x\", \"register\": \"r3\"}, {\"command\": {\"cmd\": \"x\", \"chdir\": \"/t\"}, \"register\": \"r1\", \"when\": true}, {\"set_fact\": {\"s3\": [\"{{ (True) }}\", [7, 7]]}}]}]") ≡ verdict (accepted 3)
unfolding reading
thin_000202 = refl

thin_000203 : found (codes "{\"all\":{\"hosts\":[\"h1\"]}}") (codes "[{\"hosts\": \"all\", \"tasks\": [{\"command\": \"x\", \"when\": false}]}]") ≡ verdict (accepted 1)
unfolding reading
thin_000203 = refl

thin_000204 : found (codes "{\"all\":{\"hosts\":[\"h1\"]}}") (codes "[{\"hosts\": \"all\", \"tasks\": [{\"command\": {\"cmd\": \"{{ inventory_hostname }}\"}, \"register\": \"r3\"}, {\"set_fact\": {\"s2\": \"{{ True }}\"}, \"name\": \"task 1\"}, {\"command\": \"x\", \"register\": \"r1\"}, {\"debug\": {\"msg\": \"\"}, \"name\": \"task 3\"}], \"name\": \"play\"}]") ≡ verdict (accepted 2)
unfolding reading
thin_000204 = refl

thin_000205 : found (codes "{\"all\":{\"hosts\":[\"h1\"]}}") (codes "[{\"hosts\": \"all\", \"tasks\": [{\"ping\": null}, {\"set_fact\": {\"s1\": [], \"s3\": []}}, {\"set_fact\": {\"s3\": {\"f\": {\"h\": 7}, \"h\": \"{{ 1 == 1 }}\"}}}, {\"debug\": {\"msg\": \"{{ false }}\"}, \"name\": \"task 3\"}]}]") ≡ verdict (accepted 1)
unfolding reading
thin_000205 = refl

thin_000206 : found (codes "{\"all\":{\"hosts\":[\"h1\"]}}") (codes "[{\"hosts\": \"all\", \"tasks\": [{\"command\": {\"cmd\": \"{{ inventory_hostname }}\"}, \"register\": \"r2\", \"name\": \"task 0\"}], \"name\": \"play\"}]") ≡ verdict (accepted 1)
unfolding reading
thin_000206 = refl

thin_000207 : found (codes "{\"all\":{\"hosts\":[\"h1\"]}}") (codes "[{\"hosts\": \"all\", \"tasks\": [{\"debug\": {\"msg\": \"\"}, \"when\": true}, {\"command\": \"x\", \"register\": \"s1\"}, {\"debug\": {\"msg\": {}}, \"register\": \"s1\", \"when\": \"true\"}, {\"command\": \"x\", \"register\": \"r1\", \"when\": \"(((s1.changed)))\"}, {\"set_fact\": {\"s3\": [5]}}, {\"command\": \"x\", \"register\": \"r2\"}]}]") ≡ verdict (accepted 3)
unfolding reading
thin_000207 = refl

thin_000208 : found (codes "{\"all\":{\"hosts\":[\"h1\"]}}") (codes "[{\"hosts\": \"all\", \"tasks\": [{\"command\": {\"cmd\": \"x\", \"chdir\": \"/t\"}, \"register\": \"s1\", \"when\": \"inventory_hostname == 'h1'\"}, {\"debug\": {\"msg\": true}, \"name\": \"task 1\"}, {\"set_fact\": {\"s2\": null}, \"when\": \"1 == 1\"}]}]") ≡ verdict (accepted 1)
unfolding reading
thin_000208 = refl

thin_000209 : found (codes "{\"all\":{\"hosts\":[\"h1\"]}}") (codes "[{\"hosts\": \"all\", \"tasks\": [{\"command\": \"x\", \"register\": \"r3\"}, {\"debug\": {\"msg\": -1}, \"register\": \"r2\", \"name\": \"task 1\"}, {\"command\": \"x\", \"register\": \"r1\", \"when\": \"r2.failed\", \"name\": \"task 2\"}, {\"set_fact\": {\"s1\": \"a { b } c\"}, \"when\": \"r2.failed\"}, {\"command\": \"x\", \"when\": \"r3.changed\"}, {\"debug\": {\"msg\": []}}]}]") ≡ verdict (accepted 3)
unfolding reading
thin_000209 = refl

thin_000210 : found (codes "{\"all\":{\"hosts\":[\"h1\"]}}") (codes "[{\"hosts\": \"all\", \"tasks\": [{\"command\": {\"cmd\": \"{{ inventory_hostname }}\"}}, {\"debug\": {\"msg\": \"{{ 0 }}\"}}, {\"command\": \"x\", \"register\": \"r3\"}, {\"set_fact\": {\"s3\": \"{{ r3=='it\\\\'s' }}\", \"s1\": {}}}]}]") ≡ verdict (accepted 2)
unfolding reading
thin_000210 = refl

thin_000211 : found (codes "{\"all\":{\"hosts\":[\"h1\"]}}") (codes "[{\"hosts\": \"all\", \"tasks\": [{\"command\": \"x\", \"register\": \"r3\"}, {\"command\": \"x\"}, {\"command\": \"x\", \"register\": \"s1\", \"when\": \"r3.failed\"}, {\"debug\": {\"msg\": [\"{{ not r3.f or ((group_names)) }}\", null]}, \"name\": \"task 3\"}], \"name\": \"play\"}]") ≡ verdict (refused (record { code = 3; line = 5; host = Some (codes "h1") }))
unfolding reading
thin_000211 = refl

thin_000212 : found (codes "{\"all\":{\"hosts\":[\"h1\"]}}") (codes "[{\"hosts\": \"all\", \"tasks\": [{\"debug\": {\"msg\": \"{{ r1.stdout }}\"}, \"name\": \"task 0\"}]}]") ≡ verdict (refused (record { code = 1; line = 2; host = Some (codes "h1") }))
unfolding reading
thin_000212 = refl

thin_000213 : found (codes "{\"all\":{\"hosts\":[\"h1\"]}}") (codes "[{\"hosts\": \"all\", \"tasks\": [{\"command\": \"x\", \"name\": \"task 0\"}, {\"command\": \"x\", \"name\": \"task 1\"}], \"name\": \"play\"}]") ≡ verdict (accepted 2)
unfolding reading
thin_000213 = refl

thin_000214 : found (codes "{\"all\":{\"hosts\":[\"h1\"]}}") (codes "[{\"hosts\": \"all\", \"tasks\": [{\"command\": \"x\", \"register\": \"s1\", \"when\": \"True\", \"name\": \"task 0\"}, {\"ping\": null}, {\"set_fact\": {\"s2\": {}}, \"register\": \"s1\", \"when\": \"1 == 1\"}, {\"command\": \"x\"}, {\"command\": \"x\"}, {\"command\": \"x\"}]}]") ≡ verdict (accepted 5)
unfolding reading
thin_000214 = refl

thin_000215 : found (codes "{\"all\":{\"hosts\":[\"h1\"]}}") (codes "[{\"hosts\": \"all\", \"tasks\": [{\"debug\": {\"msg\": \"{{ 9223372036854775807 }}\"}, \"register\": \"r1\"}], \"name\": \"play\"}]") ≡ verdict (accepted 0)
unfolding reading
thin_000215 = refl

thin_000216 : found (codes "{\"all\":{\"hosts\":[\"h1\"]}}") (codes "[{\"hosts\": \"all\", \"tasks\": [{\"command\": \"x\", \"register\": \"r1\", \"when\": \"'h' in inventory_hostname\"}, {\"set_fact\": {\"s3\": true}, \"name\": \"task 1\"}]}]") ≡ verdict (accepted 1)
unfolding reading
thin_000216 = refl

thin_000217 : found (codes "{\"all\":{\"hosts\":[\"h1\"]}}") (codes "[{\"hosts\": \"all\", \"tasks\": [{\"command\": \"x\", \"register\": \"r3\"}, {\"set_fact\": {\"s3\": \"text\", \"s2\": {}}}, {\"command\": \"x\", \"register\": \"r2\"}]}]") ≡ verdict (accepted 2)
unfolding reading
thin_000217 = refl

thin_000218 : found (codes "{\"all\":{\"hosts\":[\"h1\"]}}") (codes "[{\"hosts\": \"all\", \"tasks\": [{\"command\": {\"cmd\": \"a { b } c\"}, \"register\": \"r1\"}, {\"ping\": null, \"when\": \"r1.failed and r1.changed\"}, {\"ping\": null, \"register\": \"r1\"}], \"name\": \"play\"}]") ≡ verdict (accepted 3)
unfolding reading
thin_000218 = refl

thin_000219 : found (codes "{\"all\":{\"hosts\":[\"h1\"]}}") (codes "[{\"hosts\": \"all\", \"tasks\": [{\"ping\": null, \"when\": \"1 == 1\"}, {\"command\": \"x\", \"name\": \"task 1\"}, {\"set_fact\": {\"s3\": \"a { b } c\"}, \"name\": \"task 2\"}, {\"set_fact\": {\"s3\": []}, \"when\": \"1 == 1\"}, {\"command\": {\"cmd\": \"x\", \"chdir\": \"/t\"}, \"register\": \"r2\", \"when\": \"'web' in group_names\"}, {\"debug\": {\"msg\": \"{{ (True) }}\"}}, {\"ping\": null, \"register\": \"r3\", \"when\": \"r2.failed\"}, {\"command\": \"x\", \"when\": \"r3.failed and r2.changed\"}, {\"set_fact\": {\"s3\": \"\"}, \"name\": \"task 8\"}], \"name\": \"play\"}]") ≡ verdict (accepted 5)
unfolding reading
thin_000219 = refl

thin_000220 : found (codes "{\"all\":{\"hosts\":[\"h1\"]}}") (codes "[{\"hosts\": \"all\", \"tasks\": [{\"debug\": {\"msg\": {\"h\": {\"f\": 7}, \"g\": []}}, \"name\": \"task 0\"}, {\"command\": \"x\"}, {\"command\": \"x\", \"register\": \"r2\"}, {\"set_fact\": {\"s3\": \"{{ r2.changed }}\"}, \"register\": \"r1\", \"when\": \"true\"}, {\"debug\": {\"msg\": {\"g\": \"{{ r2.failed and r2.changed }}\"}}, \"register\": \"r3\", \"name\": \"task 4\"}, {\"debug\": {\"msg\": null}, \"register\": \"r3\", \"when\": \"inventory_hostname == 'h1'\", \"name\": \"task 5\"}, {\"ping\": null}, {\"debug\": {\"msg\": \"a { b } c\"}}, {\"ping\": null}]}]") ≡ verdict (accepted 4)
unfolding reading
thin_000220 = refl

thin_000221 : found (codes "{\"all\":{\"hosts\":[\"h1\"]}}") (codes "[{\"hosts\": \"all\", \"tasks\": [{\"ping\": null}, {\"ping\": null, \"when\": false}], \"name\": \"play\"}]") ≡ verdict (accepted 2)
unfolding reading
thin_000221 = refl

thin_000222 : found (codes "{\"all\":{\"hosts\":[\"h1\"]}}") (codes "[{\"hosts\": \"all\", \"tasks\": [{\"command\": \"x\", \"register\": \"s1\"}], \"name\": \"play\"}]") ≡ verdict (accepted 1)
unfolding reading
thin_000222 = refl

thin_000223 : found (codes "{\"all\":{\"hosts\":[\"h1\"]}}") (codes "[{\"hosts\": \"all\", \"tasks\": [{\"command\": \"x\"}, {\"set_fact\": {\"s3\": \"{{ 1 }}\"}}, {\"set_fact\": {\"item\": \"{{ '' }}\", \"s3\": \"{{ 9223372036854775807 != nope }}\"}, \"register\": \"r1\"}]}]") ≡ verdict (refused (record { code = 8; line = 4; host = None }))
unfolding reading
thin_000223 = refl

thin_000224 : found (codes "{\"all\":{\"hosts\":[\"h1\"]}}") (codes "[{\"hosts\": \"all\", \"tasks\": [{\"set_fact\": {\"s3\": {}}, \"register\": \"r2\", \"when\": \"'web' in group_names\", \"name\": \"task 0\"}]}]") ≡ verdict (accepted 0)
unfolding reading
thin_000224 = refl

thin_000225 : found (codes "{\"all\":{\"hosts\":[\"h1\"]}}") (codes "[{\"hosts\": \"all\", \"tasks\": [{\"set_fact\": {\"s3\": []}, \"register\": \"r2\"}, {\"debug\": {\"msg\": \"a { b } c\"}, \"name\": \"task 1\"}, {\"command\": \"x\", \"name\": \"task 2\"}, {\"command\": \"x\", \"name\": \"task 3\"}, {\"set_fact\": {\"s3\": \"a { b } c\"}, \"register\": \"r2\", \"when\": \"not r2.failed and r2.changed\", \"name\": \"task 4\"}, {\"command\": \"x\", \"register\": \"r3\", \"name\": \"task 5\"}, {\"ping\": null, \"when\": \"r2.failed and r3.changed\"}, {\"set_fact\": {\"s3\": {\"h\": {}}, \"s2\": \"{{ 9223372036854775807 }}\"}, \"register\": \"r3\", \"name\": \"task 7\"}, {\"debug\": {\"msg\": {}}}]}]") ≡ verdict (accepted 4)
unfolding reading
thin_000225 = refl

thin_000226 : found (codes "{\"all\":{\"hosts\":[\"h1\"]}}") (codes "[{\"hosts\": \"all\", \"tasks\": [{\"command\": {\"cmd\": \"x\", \"chdir\": \"/t\"}, \"name\": \"task 0\"}, {\"command\": {\"cmd\": \"{{ inventory_hostname }}\"}}, {\"command\": \"x\", \"name\": \"task 2\"}, {\"command\": \"x\", \"when\": \"r1.g or 'a' not in r1.stderr_lines\"}]}]") ≡ verdict (refused (record { code = 1; line = 5; host = Some (codes "h1") }))
unfolding reading
thin_000226 = refl

thin_000227 : found (codes "{\"all\":{\"hosts\":[\"h1\"]}}") (codes "[{\"hosts\": \"all\", \"tasks\": [{\"set_fact\": {\"s1\": {\"g\": 5, \"h\": \"{{ true }}\"}}, \"name\": \"task 0\"}, {\"command\": \"x\", \"when\": \"inventory_hostname == 'h1'\", \"name\": \"task 1\"}, {\"command\": \"x\"}, {\"debug\": {\"msg\": \"{{ inventory_hostname == 'h1' }}\"}}]}]") ≡ verdict (accepted 2)
unfolding reading
thin_000227 = refl

thin_000228 : found (codes "{\"all\":{\"hosts\":[\"h1\"]}}") (codes "[{\"hosts\": \"all\", \"tasks\": [{\"debug\": {\"msg\": \"\"}, \"register\": \"s1\"}, {\"command\": \"x\"}, {\"set_fact\": {\"s2\": null}, \"name\": \"task 2\"}, {\"command\": \"x\", \"when\": \"true\", \"name\": \"task 3\"}, {\"set_fact\": {\"s2\": \"\"}, \"register\": \"s1\"}, {\"debug\": {\"msg\": \"{{ true }}\"}, \"register\": \"r1\"}, {\"command\": \"x\", \"register\": \"r2\", \"when\": \"r1.changed\", \"name\": \"task 6\"}, {\"command\": \"x\", \"name\": \"task 7\"}, {\"command\": \"x\"}], \"name\": \"play\"}]") ≡ verdict (accepted 5)
unfolding reading
thin_000228 = refl

thin_000229 : found (codes "{\"all\":{\"hosts\":[\"h1\"]}}") (codes "[{\"hosts\": \"all\", \"tasks\": [{\"command\": {\"cmd\": \"{{ inventory_hostname }}\"}, \"register\": \"r2\"}, {\"ping\": null}, {\"command\": \"x\", \"register\": \"r1\", \"name\": \"task 2\"}, {\"debug\": {\"msg\": \"{{ 1 == 1 }}\"}, \"register\": \"r2\", \"name\": \"task 3\"}, {\"command\": {\"cmd\": \"\"}}, {\"command\": \"x\", \"register\": \"s1\", \"name\": \"task 5\"}]}]") ≡ verdict (accepted 5)
unfolding reading
thin_000229 = refl

thin_000230 : found (codes "{\"all\":{\"hosts\":[\"h1\"]}}") (codes "[{\"hosts\": \"all\", \"tasks\": [{\"set_fact\": {\"s2\": {\"f\": {}}}, \"name\": \"task 0\"}, {\"debug\": {\"msg\": {\"h\": \"{{ ((not False)) }}\"}}, \"register\": \"r2\"}, {\"command\": \"x\", \"register\": \"r1\"}, {\"debug\": {\"msg\": \"{{ r1.failed != '' }}\"}, \"when\": \"r2.failed\"}, {\"command\": {\"cmd\": \"{{ inventory_hostname }}\"}, \"name\": \"task 4\"}, {\"command\": {\"cmd\": \"x\", \"chdir\": \"/t\"}, \"when\": \"not r2.failed and r2.changed\"}, {\"command\": {\"cmd\": \"x\", \"chdir\": \"/t\"}, \"register\": \"s1\"}, {\"debug\": {\"msg\": null}, \"register\": \"r2\", \"when\": \"'h' in inventory_hostname\"}, {\"command\": {\"cmd\": \"{{ inventory_hostname }}\"}}]}]") ≡ verdict (accepted 5)
unfolding reading
thin_000230 = refl

thin_000231 : found (codes "{\"all\":{\"hosts\":[\"h1\"]}}") (codes "[{\"hosts\": \"all\", \"tasks\": [{\"debug\": {\"msg\": []}, \"when\": \"inventory_hostname == 'h1'\"}]}]") ≡ verdict (accepted 0)
unfolding reading
thin_000231 = refl

thin_000232 : found (codes "{\"all\":{\"hosts\":[\"h1\"]}}") (codes "[{\"hosts\": \"all\", \"tasks\": [{\"set_fact\": {\"s2\": null}, \"register\": \"r2\"}, {\"ping\": null, \"when\": \"r2.failed\"}, {\"command\": \"x\", \"register\": \"r1\", \"name\": \"task 2\"}], \"name\": \"play\"}]") ≡ verdict (accepted 2)
unfolding reading
thin_000232 = refl

thin_000233 : found (codes "{\"all\":{\"hosts\":[\"h1\"]}}") (codes "[{\"hosts\": \"all\", \"tasks\": [{\"command\": \"x\"}, {\"set_fact\": {\"s2\": [[]]}, \"register\": \"r3\"}, {\"ping\": null, \"register\": \"r2\"}, {\"set_fact\": {\"x-y\": \"{{ s2.rc }}\", \"s2\": null}, \"when\": false}]}]") ≡ verdict (refused (record { code = 7; line = 5; host = None }))
unfolding reading
thin_000233 = refl

thin_000234 : found (codes "{\"all\":{\"hosts\":[\"h1\"]}}") (codes "[{\"hosts\": \"all\", \"tasks\": [{\"command\": \"x\"}, {\"command\": {\"cmd\": \"{{ inventory_hostname }}\"}}, {\"ping\": null, \"register\": \"r1\"}], \"name\": \"play\"}]") ≡ verdict (accepted 3)
unfolding reading
thin_000234 = refl

thin_000235 : found (codes "{\"all\":{\"hosts\":[\"h1\"]}}") (codes "[{\"hosts\": \"all\", \"tasks\": [{\"debug\": {\"msg\": []}, \"register\": \"s1\", \"name\": \"task 0\"}, {\"command\": \"x\", \"register\": \"r2\"}, {\"command\": \"x\", \"register\": \"s1\"}]}]") ≡ verdict (accepted 2)
unfolding reading
thin_000235 = refl

thin_000236 : found (codes "{\"all\":{\"hosts\":[\"h1\"]}}") (codes "[{\"hosts\": \"all\", \"tasks\": [{\"command\": {\"cmd\": \"{{ inventory_hostname }}\"}, \"register\": \"r2\"}, {\"command\": {\"cmd\": \"x\", \"chdir\": \"/t\"}}, {\"command\": \"x\", \"register\": \"r1\", \"name\": \"task 2\"}, {\"command\": {\"cmd\": \"{{ True }}\"}}], \"name\": \"play\"}]") ≡ verdict (refused (record { code = 4; line = 5; host = Some (codes "h1") }))
unfolding reading
thin_000236 = refl

thin_000237 : found (codes "{\"all\":{\"hosts\":[\"h1\"]}}") (codes "[{\"hosts\": \"all\", \"tasks\": [{\"ping\": null, \"register\": \"r2\"}, {\"command\": \"x\", \"name\": \"task 1\"}, {\"command\": \"x\", \"register\": \"r2\", \"name\": \"task 2\"}, {\"command\": {\"cmd\": \"{{ inventory_hostname }}\"}}, {\"command\": \"x\", \"name\": \"task 4\"}, {\"ping\": null}], \"name\": \"play\"}]") ≡ verdict (accepted 6)
unfolding reading
thin_000237 = refl

thin_000238 : found (codes "{\"all\":{\"hosts\":[\"h1\"]}}") (codes "[{\"hosts\": \"all\", \"tasks\": [{\"set_fact\": {\"s3\": {\"f\": true}}, \"when\": \"r1.failed\", \"name\": \"task 0\"}]}]") ≡ verdict (refused (record { code = 1; line = 2; host = Some (codes "h1") }))
unfolding reading
thin_000238 = refl

thin_000239 : found (codes "{\"all\":{\"hosts\":[\"h1\"]}}") (codes "[{\"hosts\": \"all\", \"tasks\": [{\"command\": \"x\", \"register\": \"s1\"}]}]") ≡ verdict (accepted 1)
unfolding reading
thin_000239 = refl

thin_000240 : found (codes "{\"all\":{\"hosts\":[\"h1\"]}}") (codes "[{\"hosts\": \"all\", \"tasks\": [{\"command\": \"x\", \"register\": \"r3\"}, {\"command\": \"x\", \"when\": \"r3.failed\"}, {\"debug\": {\"msg\": \"{{ 'it\\\\'s' }}\"}, \"register\": \"r1\", \"name\": \"task 2\"}, {\"debug\": {\"msg\": \"\"}, \"register\": \"r3\", \"name\": \"task 3\"}, {\"set_fact\": {\"s3\": {\"g\": [\"{{ False }}\", \"{{ 'web' and 'a'==1 and True }}\"]}}, \"when\": \"r3.failed\"}]}]") ≡ verdict (refused (record { code = 4; line = 6; host = Some (codes "h1") }))
unfolding reading
thin_000240 = refl

thin_000241 : found (codes "{\"all\":{\"hosts\":[\"h1\"]}}") (codes "[{\"hosts\": \"all\", \"tasks\": [{\"debug\": {\"msg\": {\"h\": []}}, \"register\": \"r1\", \"when\": \"1 == 1\"}, {\"command\": {\"cmd\": \"x\", \"chdir\": \"/t\"}, \"register\": \"r3\"}, {\"command\": \"x\", \"register\": \"s1\"}, {\"set_fact\": {\"s1\": [\"{{ r1.changed }}\"]}, \"register\": \"r1\"}, {\"command\": \"x\", \"register\": \"r1\", \"name\": \"task 4\"}, {\"debug\": {\"msg\": {\"g\": \"{{ s1 }}\"}}, \"register\": \"s1\"}, {\"command\": {\"cmd\": \"x\", \"chdir\": \"/t\"}}, {\"debug\": {\"msg\": \"{{ s1 }}\"}}, {\"set_fact\": {\"s1\": [\"{{ 9223372036854775807 }}\"]}, \"register\": \"r3\", \"when\": \"r3.failed\", \"name\": \"task 8\"}], \"name\": \"play\"}]") ≡ verdict (accepted 4)
unfolding reading
thin_000241 = refl

thin_000242 : found (codes "{\"all\":{\"hosts\":[\"h1\"]}}") (codes "[{\"hosts\": \"all\", \"tasks\": [{\"command\": \"x\"}, {\"command\": \"x\", \"when\": \"9223372036854775807\"}]}]") ≡ verdict (refused (record { code = 4; line = 3; host = Some (codes "h1") }))
unfolding reading
thin_000242 = refl

thin_000243 : found (codes "{\"all\":{\"hosts\":[\"h1\"]}}") (codes "[{\"hosts\": \"all\", \"tasks\": [{\"command\": \"x\", \"name\": \"task 0\"}, {\"debug\": {\"msg\": 5}, \"when\": true, \"name\": \"task 1\"}, {\"set_fact\": {\"s1\": \"{{ -3 }}\"}, \"register\": \"r3\"}, {\"debug\": {\"msg\": []}, \"register\": \"r1\"}, {\"ping\": null, \"register\": \"r3\", \"when\": \"r1.failed and r3.changed\"}, {\"command\": \"x\"}]}]") ≡ verdict (accepted 3)
unfolding reading
thin_000243 = refl
