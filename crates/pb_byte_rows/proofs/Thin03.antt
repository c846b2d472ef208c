-- Cases of thin, computed from the bytes of their files.
use Rattle.std.specs.Prelude.{◌≡◌, refl, Some, None, codes}
use Rattle.pb_language.specs.Verdict.{accepted, refused}
use Rattle.pb_byte_rows.specs.Found.{verdict, found}
use Rattle.pb_byte_rows.proofs.Computing.{reading}

thin_000244 : found (codes "{\"all\":{\"hosts\":[\"h1\"]}}") (codes "[{\"hosts\": \"all\", \"tasks\": [{\"command\": \"x\", \"when\": \"r1.failed and r1.changed\", \"name\": \"task 0\"}], \"name\": \"play\"}]") ≡ verdict (refused (record { code = 1; line = 2; host = Some (codes "h1") }))
unfolding reading
thin_000244 = refl

thin_000245 : found (codes "{\"all\":{\"hosts\":[\"h1\"]}}") (codes "[{\"hosts\": \"all\", \"tasks\": [{\"command\": \"x\", \"register\": \"s1\"}, {\"set_fact\": {\"s2\": true}, \"register\": \"r1\"}]}]") ≡ verdict (accepted 1)
unfolding reading
thin_000245 = refl

thin_000246 : found (codes "{\"all\":{\"hosts\":[\"h1\"]}}") (codes "[{\"hosts\": \"all\", \"tasks\": [{\"set_fact\": {\"s1\": {}}, \"register\": \"r3\"}], \"name\": \"play\"}]") ≡ verdict (accepted 0)
unfolding reading
thin_000246 = refl

thin_000247 : found (codes "{\"all\":{\"hosts\":[\"h1\"]}}") (codes "[{\"hosts\": \"all\", \"tasks\": [{\"command\": \"x\", \"register\": \"r1\", \"name\": \"task 0\"}, {\"command\": \"x\"}, {\"set_fact\": {\"s3\": \"{{ r1.failed }}\", \"s1\": \"{{ r1.skip_reason }}\"}, \"register\": \"r3\"}]}]") ≡ verdict (refused (record { code = 3; line = 4; host = Some (codes "h1") }))
unfolding reading
thin_000247 = refl

thin_000248 : found (codes "{\"all\":{\"hosts\":[\"h1\"]}}") (codes "[{\"hosts\": \"all\", \"tasks\": [{\"command\": \"x\"}, {\"ping\": null, \"name\": \"task 1\"}, {\"ping\": null, \"register\": \"r1\", \"when\": true}, {\"set_fact\": {\"s3\": 5}, \"when\": \"not r1.failed and r1.changed\"}]}]") ≡ verdict (accepted 3)
unfolding reading
thin_000248 = refl

thin_000249 : found (codes "{\"all\":{\"hosts\":[\"h1\"]}}") (codes "[{\"hosts\": \"all\", \"tasks\": [{\"debug\": {\"msg\": -1}}, {\"debug\": {\"msg\": \"text\"}}, {\"command\": \"x\"}], \"name\": \"play\"}]") ≡ verdict (accepted 1)
unfolding reading
thin_000249 = refl

thin_000250 : found (codes "{\"all\":{\"hosts\":[\"h1\"]}}") (codes "[{\"hosts\": \"all\", \"tasks\": [{\"ping\": null}, {\"set_fact\": {\"s2\": {\"h\": \"a { b } c\"}}}, {\"ping\": null, \"name\": \"task 2\"}, {\"debug\": {\"msg\": \"{{ (\\\"b\\\") }}\"}}]}]") ≡ verdict (accepted 2)
unfolding reading
thin_000250 = refl

thin_000251 : found (codes "{\"all\":{\"hosts\":[\"h1\"]}}") (codes "[{\"hosts\": \"all\", \"tasks\": [{\"command\": \"x\", \"when\": true}, {\"ping\": null, \"name\": \"task 1\"}, {\"command\": {\"cmd\": \"{{ inventory_hostname }}\"}, \"register\": \"r3\"}, {\"debug\": {\"msg\": \"{{ r3.failed and r3.changed }}\"}, \"register\": \"r3\"}]}]") ≡ verdict (accepted 3)
unfolding reading
thin_000251 = refl

thin_000252 : found (codes "{\"all\":{\"hosts\":[\"h1\"]}}") (codes "[{\"hosts\": \"all\", \"tasks\": [{\"command\": {\"cmd\": \"x\", \"chdir\": \"/t\"}}, {\"ping\": null}, {\"debug\": {\"msg\": \"{{ 'web' and not r1.msg.stdout and 9223372036854775807 }}\"}}]}]") ≡ verdict (refused (record { code = 1; line = 4; host = Some (codes "h1") }))
unfolding reading
thin_000252 = refl

thin_000253 : found (codes "{\"all\":{\"hosts\":[\"h1\"]}}") (codes "[{\"hosts\": \"all\", \"tasks\": [{\"command\": \"x\", \"register\": \"s1\", \"name\": \"task 0\"}, {\"command\": \"x\", \"register\": \"r3\"}, {\"command\": \"x\", \"register\": \"r1\"}, {\"command\": \"x\"}, {\"command\": {\"cmd\": \"x\", \"chdir\": \"/t\"}, \"register\": \"r2\"}, {\"command\": \"x\", \"register\": \"r3\"}]}]") ≡ verdict (accepted 6)
unfolding reading
thin_000253 = refl

thin_000254 : found (codes "{\"all\":{\"hosts\":[\"h1\"]}}") (codes "[{\"hosts\": \"all\", \"tasks\": [{\"debug\": {\"msg\": \"{{ (nope.x) }}\"}}], \"name\": \"play\"}]") ≡ verdict (refused (record { code = 1; line = 2; host = Some (codes "h1") }))
unfolding reading
thin_000254 = refl

thin_000255 : found (codes "{\"all\":{\"hosts\":[\"h1\"]}}") (codes "[{\"hosts\": \"all\", \"tasks\": [{\"command\": {\"cmd\": \"x\", \"chdir\": \"/t\"}}]}]") ≡ verdict (accepted 1)
unfolding reading
thin_000255 = refl

thin_000256 : found (codes "{\"all\":{\"hosts\":[\"h1\"]}}") (codes "[{\"hosts\": \"all\", \"tasks\": [{\"command\": \"x\"}, {\"set_fact\": {\"s2\": \"a { b } c\"}, \"name\": \"task 1\"}, {\"command\": \"x\", \"name\": \"task 2\"}, {\"set_fact\": {\"s1\": []}, \"when\": \"true\", \"name\": \"task 3\"}]}]") ≡ verdict (accepted 2)
unfolding reading
thin_000256 = refl

thin_000257 : found (codes "{\"all\":{\"hosts\":[\"h1\"]}}") (codes "[{\"hosts\": \"all\", \"tasks\": [{\"debug\": {\"msg\": \"{{ False and 0 == false }}\"}}, {\"command\": {\"cmd\": \"{{ inventory_hostname }}\"}}, {\"command\": {\"cmd\": \"x\", \"chdir\": \"/t\"}, \"name\": \"task 2\"}]}]") ≡ verdict (accepted 2)
unfolding reading
thin_000257 = refl

thin_000258 : found (codes "{\"all\":{\"hosts\":[\"h1\"]}}") (codes "[{\"hosts\": \"all\", \"tasks\": [{\"ping\": null, \"name\": \"task 0\"}, {\"command\": \"x\", \"register\": \"r1\"}, {\"ping\": null}, {\"debug\": {\"msg\": \"\"}, \"name\": \"task 3\"}, {\"debug\": {\"msg\": null}, \"name\": \"task 4\"}, {\"command\": \"x\"}, {\"ping\": null, \"register\": \"r2\"}, {\"ping\": {\"data\": \"{{ r1.ping }}\"}, \"when\": \"r2.changed\"}], \"name\": \"play\"}]") ≡ verdict (refused (record { code = 3; line = 9; host = Some (codes "h1") }))
unfolding reading
thin_000258 = refl

thin_000259 : found (codes "{\"all\":{\"hosts\":[\"h1\"]}}") (codes "[{\"hosts\": \"all\", \"tasks\": [{\"set_fact\": {\"s2\": []}, \"name\": \"task 0\"}]}]") ≡ verdict (accepted 0)
unfolding reading
thin_000259 = refl

thin_000260 : found (codes "{\"all\":{\"hosts\":[\"h1\"]}}") (codes "[{\"hosts\": \"all\", \"tasks\": [{\"set_fact\": {\"s2\": {\"h\": \"{{ False }}\"}, \"s1\": \"\"}, \"name\": \"task 0\"}, {\"set_fact\": {\"s2\": 5}}]}]") ≡ verdict (accepted 0)
unfolding reading
thin_000260 = refl

thin_000261 : found (codes "{\"all\":{\"hosts\":[\"h1\"]}}") (codes "[{\"hosts\": \"all\", \"tasks\": [{\"set_fact\": {\"s1\": true}}, {\"command\": \"x\", \"register\": \"r3\"}, {\"command\": {\"cmd\": \"{{ inventory_hostname }}\"}, \"register\": \"r2\"}, {\"command\": \"x\"}], \"name\": \"play\"}]") ≡ verdict (accepted 3)
unfolding reading
thin_000261 = refl

thin_000262 : found (codes "{\"all\":{\"hosts\":[\"h1\"]}}") (codes "[{\"hosts\": \"all\", \"tasks\": [{\"debug\": {\"msg\": \"{{ 'web' in group_names }}\"}}, {\"command\": {\"cmd\": \"{{ inventory_hostname }}\"}}, {\"set_fact\": {\"s1\": \"a { b } c\"}, \"name\": \"task 2\"}], \"name\": \"play\"}]") ≡ verdict (accepted 1)
unfolding reading
thin_000262 = refl

thin_000263 : found (codes "{\"all\":{\"hosts\":[\"h1\"]}}") (codes "[{\"hosts\": \"all\", \"tasks\": [{\"set_fact\": {\"s2\": []}, \"register\": \"r1\", \"when\": \"1 == 1\"}, {\"ping\": null, \"when\": \"False\", \"name\": \"task 1\"}, {\"set_fact\": {\"s1\": [\"{{ False }}\", []]}, \"register\": \"r1\", \"name\": \"task 2\"}, {\"set_fact\": {\"s3\": \"{{ true }}\"}, \"when\": \"r1.failed\"}, {\"command\": {\"cmd\": \"{{ inventory_hostname }}\"}}, {\"command\": {\"cmd\": \"{{ inventory_hostname }}\"}}, {\"debug\": {\"msg\": \"text\"}}, {\"set_fact\": {\"s2\": \"{{ r1.failed and r1.changed }}\"}, \"when\": \"true\"}, {\"set_fact\": {\"s2\": []}, \"register\": \"r2\"}], \"name\": \"play\"}]") ≡ verdict (accepted 3)
unfolding reading
thin_000263 = refl

thin_000264 : found (codes "{\"all\":{\"hosts\":[\"h1\"]}}") (codes "[{\"hosts\": \"all\", \"tasks\": [{\"command\": \"x\", \"name\": \"task 0\"}, {\"debug\": {\"msg\": {}}, \"register\": \"s1\", \"name\": \"task 1\"}, {\"ping\": {\"data\": \"\"}, \"register\": \"r1\", \"name\": \"task 2\"}, {\"command\": \"x\", \"register\": \"r3\", \"when\": \"r1.failed\"}, {\"command\": \"x\", \"register\": \"r3\", \"when\": \"inventory_hostname == 'h1'\"}, {\"command\": {\"cmd\": \"x\", \"chdir\": \"/t\"}, \"register\": \"r1\"}]}]") ≡ verdict (accepted 5)
unfolding reading
thin_000264 = refl

thin_000265 : found (codes "{\"all\":{\"hosts\":[\"h1\"]}}") (codes "[{\"hosts\": \"all\", \"tasks\": [{\"ping\": null, \"register\": \"r1\"}, {\"command\": \"x\", \"name\": \"task 1\"}, {\"command\": \"x\", \"register\": \"s1\"}, {\"command\": \"x\", \"register\": \"r1\"}]}]") ≡ verdict (accepted 4)
unfolding reading
thin_000265 = refl

thin_000266 : found (codes "{\"all\":{\"hosts\":[\"h1\"]}}") (codes "[{\"hosts\": \"all\", \"tasks\": [{\"command\": \"x\"}], \"name\": \"play\"}]") ≡ verdict (accepted 1)
unfolding reading
thin_000266 = refl

thin_000267 : found (codes "{\"all\":{\"hosts\":[\"h1\"]}}") (codes "[{\"hosts\": \"all\", \"tasks\": [{\"command\": {\"cmd\": \"{{ inventory_hostname }}\"}, \"when\": \"true\"}, {\"debug\": {\"msg\": \"{{ 'h' in inventory_hostname }}\"}, \"when\": true}]}]") ≡ verdict (accepted 1)
unfolding reading
thin_000267 = refl

thin_000268 : found (codes "{\"all\":{\"hosts\":[\"h1\"]}}") (codes "[{\"hosts\": \"all\", \"tasks\": [{\"debug\": {\"msg\": []}, \"when\": \"'h' in inventory_hostname\", \"name\": \"task 0\"}, {\"debug\": {\"msg\": \"{{ 0 }}\"}}, {\"set_fact\": {\"s3\": [5]}, \"name\": \"task 2\"}, {\"command\": \"x\", \"register\": \"r2\"}, {\"debug\": {\"msg\": \"{{ s3 }}\"}, \"when\": \"r2.failed and r2.changed\"}, {\"ping\": null, \"register\": \"r1\", \"name\": \"task 5\"}]}]") ≡ verdict (accepted 2)
unfolding reading
thin_000268 = refl

thin_000269 : found (codes "{\"all\":{\"hosts\":[\"h1\"]}}") (codes "[{\"hosts\": \"all\", \"tasks\": [{\"command\": \"x\"}]}]") ≡ verdict (accepted 1)
unfolding reading
thin_000269 = refl

thin_000270 : found (codes "{\"all\":{\"hosts\":[\"h1\"]}}") (codes "[{\"hosts\": \"all\", \"tasks\": [{\"set_fact\": {\"s2\": []}, \"register\": \"r1\"}, {\"command\": \"x\", \"register\": \"s1\", \"name\": \"task 1\"}], \"name\": \"play\"}]") ≡ verdict (accepted 1)
unfolding reading
thin_000270 = refl

thin_000271 : found (codes "{\"all\":{\"hosts\":[\"h1\"]}}") (codes "[{\"hosts\": \"all\", \"tasks\": [{\"set_fact\": {\"s3\": []}, \"register\": \"r2\"}, {\"ping\": null, \"name\": \"task 1\"}, {\"command\": \"x\", \"register\": \"r1\", \"when\": false, \"name\": \"task 2\"}, {\"set_fact\": {\"s1\": \"{{ (r1) }}\"}, \"register\": \"r2\", \"when\": \"r1.failed\", \"name\": \"task 3\"}]}]") ≡ verdict (accepted 2)
unfolding reading
thin_000271 = refl

thin_000272 : found (codes "{\"all\":{\"hosts\":[\"h1\"]}}") (codes "[{\"hosts\": \"all\", \"tasks\": [{\"command\": {\"cmd\": \"x\", \"chdir\": \"/t\"}, \"register\": \"r3\", \"name\": \"task 0\"}, {\"debug\": {\"msg\": \"{{ False }}\"}, \"register\": \"r2\"}, {\"debug\": {\"msg\": true}}, {\"ping\": {\"data\": \"{{ 'a' }}\"}, \"when\": \"true\"}]}]") ≡ verdict (accepted 2)
unfolding reading
thin_000272 = refl

thin_000273 : found (codes "{\"all\":{\"hosts\":[\"h1\"]}}") (codes "[{\"hosts\": \"all\", \"tasks\": [{\"debug\": {\"msg\": \"a { b } c\"}, \"name\": \"task 0\"}, {\"command\": \"x\", \"register\": \"r2\"}]}]") ≡ verdict (accepted 1)
unfolding reading
thin_000273 = refl

thin_000274 : found (codes "{\"all\":{\"hosts\":[\"h1\"]}}") (codes "[{\"hosts\": \"all\", \"tasks\": [{\"command\": \"x\", \"register\": \"r3\"}, {\"debug\": {\"msg\": \"{{ 1 == 1 }}\"}}]}]") ≡ verdict (accepted 1)
unfolding reading
thin_000274 = refl

thin_000275 : found (codes "{\"all\":{\"hosts\":[\"h1\"]}}") (codes "[{\"hosts\": \"all\", \"tasks\": [{\"command\": \"x\", \"when\": \"1 == 1\"}]}]") ≡ verdict (accepted 1)
unfolding reading
thin_000275 = refl

thin_000276 : found (codes "{\"all\":{\"hosts\":[\"h1\"]}}") (codes "[{\"hosts\": \"all\", \"tasks\": [{\"command\": {\"cmd\": \"{{ inventory_hostname }}\"}, \"name\": \"task 0\"}, {\"command\": \"x\", \"when\": \"inventory_hostname == 'h1'\"}, {\"command\": \"x\", \"when\": \"1 == 1\", \"name\": \"task 2\"}], \"name\": \"play\"}]") ≡ verdict (accepted 3)
unfolding reading
thin_000276 = refl

thin_000277 : found (codes "{\"all\":{\"hosts\":[\"h1\"]}}") (codes "[{\"hosts\": \"all\", \"tasks\": [{\"set_fact\": {\"s1\": \"{{ (group_names) }}\"}, \"register\": \"r3\", \"name\": \"task 0\"}], \"name\": \"play\"}]") ≡ verdict (accepted 0)
unfolding reading
thin_000277 = refl

thin_000278 : found (codes "{\"all\":{\"hosts\":[\"h1\"]}}") (codes "[{\"hosts\": \"all\", \"tasks\": [{\"ping\": null}, {\"ping\": null, \"register\": \"s1\"}, {\"debug\": {\"msg\": []}, \"register\": \"r3\", \"name\": \"task 2\"}]}]") ≡ verdict (accepted 2)
unfolding reading
thin_000278 = refl

thin_000279 : found (codes "{\"all\":{\"hosts\":[\"h1\"]}}") (codes "[{\"hosts\": \"all\", \"tasks\": [{\"command\": {\"cmd\": \"{{ inventory_hostname }}\"}, \"register\": \"r3\", \"when\": \"r1.changed\"}]}]") ≡ verdict (refused (record { code = 1; line = 2; host = Some (codes "h1") }))
unfolding reading
thin_000279 = refl

thin_000280 : found (codes "{\"all\":{\"hosts\":[\"h1\"]}}") (codes "[{\"hosts\": \"all\", \"tasks\": [{\"debug\": {\"msg\": \"{{ group_names }}\"}}, {\"set_fact\": {\"s3\": []}}, {\"debug\": {\"msg\": {}}, \"register\": \"r1\"}]}]") ≡ verdict (accepted 0)
unfolding reading
thin_000280 = refl

thin_000281 : found (codes "{\"all\":{\"hosts\":[\"h1\"]}}") (codes "[{\"hosts\": \"all\", \"tasks\": [{\"command\": \"x\", \"register\": \"r2\", \"name\": \"task 0\"}]}]") ≡ verdict (accepted 1)
unfolding reading
thin_000281 = refl

thin_000282 : found (codes "{\"all\":{\"hosts\":[\"h1\"]}}") (codes "[{\"hosts\": \"all\", \"tasks\": [{\"command\": {\"cmd\": \"x\", \"chdir\": \"/t\"}}, {\"command\": \"x\", \"register\": \"r3\"}, {\"ping\": null, \"when\": \"r3.failed\"}, {\"command\": \"x\", \"register\": \"r3\"}, {\"set_fact\": {\"s3\": [{\"g\": \"{{ 1 }}\", \"h\": 7}]}}, {\"ping\": null, \"when\": \"r3.failed\", \"name\": \"task 5\"}, {\"command\": \"x\", \"register\": \"r1\", \"name\": \"task 6\"}, {\"command\": \"x\", \"name\": \"task 7\"}, {\"ping\": null}]}]") ≡ verdict (accepted 8)
unfolding reading
thin_000282 = refl

thin_000283 : found (codes "{\"all\":{\"hosts\":[\"h1\"]}}") (codes "[{\"hosts\": \"all\", \"tasks\": [{\"command\": \"x\"}, {\"set_fact\": {\"s1\": \"{{ nope.x and inventory_hostname }}\"}, \"register\": \"s1\", \"when\": \"''\", \"name\": \"task 1\"}], \"name\": \"play\"}]") ≡ verdict (refused (record { code = 4; line = 3; host = Some (codes "h1") }))
unfolding reading
thin_000283 = refl

thin_000284 : found (codes "{\"all\":{\"hosts\":[\"h1\"]}}") (codes "[{\"hosts\": \"all\", \"tasks\": [{\"command\": {\"cmd\": \"{{ inventory_hostname }}\"}, \"register\": \"r1\"}]}]") ≡ verdict (accepted 1)
unfolding reading
thin_000284 = refl

thin_000285 : found (codes "{\"all\":{\"hosts\":[\"h1\"]}}") (codes "[{\"hosts\": \"all\", \"tasks\": [{\"command\": \"x\", \"register\": \"s1\", \"name\": \"task 0\"}, {\"ping\": null, \"name\": \"task 1\"}, {\"set_fact\": {\"s3\": \"{{ s1.failed }}\"}, \"register\": \"r2\", \"name\": \"task 2\"}, {\"ping\": null}, {\"command\": {\"cmd\": \"x\", \"chdir\": \"/t\"}, \"register\": \"r2\", \"name\": \"task 4\"}, {\"command\": {\"cmd\": \"x\", \"chdir\": \"/t\"}, \"register\": \"r2\", \"when\": \"r2.failed\"}]}]") ≡ verdict (accepted 5)
unfolding reading
thin_000285 = refl

thin_000286 : found (codes "{\"all\":{\"hosts\":[\"h1\"]}}") (codes "[{\"hosts\": \"all\", \"tasks\": [{\"command\": {\"cmd\": \"x\", \"chdir\": \"/t\"}, \"register\": \"s1\"}, {\"debug\": {\"msg\": {}}, \"register\": \"r1\", \"when\": \"True\"}, {\"command\": \"x\", \"when\": \"'web' in group_names\", \"name\": \"task 2\"}, {\"command\": {\"cmd\": \"{{ inventory_hostname }}\"}, \"when\": \"r1.changed\"}], \"name\": \"play\"}]") ≡ verdict (accepted 3)
unfolding reading
thin_000286 = refl

thin_000287 : found (codes "{\"all\":{\"hosts\":[\"h1\"]}}") (codes "[{\"hosts\": \"all\", \"tasks\": [{\"command\": \"x\"}, {\"command\": \"x\", \"when\": \"'web' in group_names\", \"name\": \"task 1\"}, {\"ping\": null, \"register\": \"s1\", \"when\": \"(True)\"}, {\"ping\": null, \"register\": \"r2\"}, {\"command\": \"x\", \"when\": \"inventory_hostname == 'h1'\"}, {\"debug\": {\"msg\": 5}, \"register\": \"s1\", \"when\": \"'h' in inventory_hostname\"}]}]") ≡ verdict (accepted 5)
unfolding reading
thin_000287 = refl

thin_000288 : found (codes "{\"all\":{\"hosts\":[\"h1\"]}}") (codes "[{\"hosts\": \"all\", \"tasks\": [{\"set_fact\": {\"s1\": true, \"s2\": null}, \"register\": \"r2\"}, {\"ping\": {\"data\": {\"f\": \"{{ r2.failed }}\"}}, \"register\": \"r3\"}], \"name\": \"play\"}]") ≡ verdict (refused (record { code = 4; line = 3; host = Some (codes "h1") }))
unfolding reading
thin_000288 = refl

thin_000289 : found (codes "{\"all\":{\"hosts\":[\"h1\"]}}") (codes "[{\"hosts\": \"all\", \"tasks\": [{\"set_fact\": {\"s2\": \"{{ (false == 9223372036854775807) }}\"}, \"register\": \"s1\"}, {\"command\": {\"cmd\": \"{{ inventory_hostname }}\"}}, {\"debug\": {\"msg\": \"{{ not nope.x != \\\"b\\\" }}\"}}]}]") ≡ verdict (refused (record { code = 1; line = 4; host = Some (codes "h1") }))
unfolding reading
thin_000289 = refl

thin_000290 : found (codes "{\"all\":{\"hosts\":[\"h1\"]}}") (codes "[{\"hosts\": \"all\", \"tasks\": [{\"command\": \"x\", \"register\": \"r2\"}, {\"command\": \"x\", \"when\": \"not r2.failed and r2.changed\"}, {\"command\": \"x\", \"register\": \"s1\", \"when\": \"not r2.failed and r2.changed\"}, {\"command\": \"x\", \"register\": \"s1\", \"when\": \"'web' in group_names\"}, {\"command\": {\"cmd\": []}, \"register\": \"s1\", \"name\": \"task 4\"}], \"name\": \"play\"}]") ≡ verdict (refused (record { code = 4; line = 6; host = Some (codes "h1") }))
unfolding reading
thin_000290 = refl

thin_000291 : found (codes "{\"all\":{\"hosts\":[\"h1\"]}}") (codes "[{\"hosts\": \"all\", \"tasks\": [{\"ping\": null, \"when\": \"'web' in group_names\"}, {\"command\": \"x\"}, {\"debug\": {\"msg\": [[\"text\"], null]}, \"when\": \"true\"}, {\"command\": \"x\", \"register\": \"r1\", \"name\": \"task 3\"}, {\"ping\": null, \"when\": false}, {\"command\": \"x\", \"when\": \"r1.failed\"}, {\"command\": {\"cmd\": \"{{ inventory_hostname }}\"}, \"register\": \"r2\"}, {\"command\": \"x\", \"when\": \"r1.changed\"}, {\"command\": \"x\", \"register\": \"r2\", \"name\": \"task 8\"}], \"name\": \"play\"}]") ≡ verdict (accepted 8)
unfolding reading
thin_000291 = refl

thin_000292 : found (codes "{\"all\":{\"hosts\":[\"h1\"]}}") (codes "[{\"hosts\": \"all\", \"tasks\": [{\"debug\": {\"msg\": \"{{ True }}\"}, \"register\": \"s1\", \"name\": \"task 0\"}, {\"debug\": {\"msg\": {\"h\": \"text\", \"g\": {}}}, \"register\": \"r2\"}], \"name\": \"play\"}]") ≡ verdict (accepted 0)
unfolding reading
thin_000292 = refl

thin_000293 : found (codes "{\"all\":{\"hosts\":[\"h1\"]}}") (codes "[{\"hosts\": \"all\", \"tasks\": [{\"command\": {\"cmd\": \"\"}, \"when\": \"false and r1==r1.f\"}], \"name\": \"play\"}]") ≡ verdict (refused (record { code = 1; line = 2; host = Some (codes "h1") }))
unfolding reading
thin_000293 = refl

thin_000294 : found (codes "{\"all\":{\"hosts\":[\"h1\"]}}") (codes "[{\"hosts\": \"all\", \"tasks\": [{\"set_fact\": {\"s3\": null}, \"register\": \"s1\", \"name\": \"task 0\"}, {\"command\": \"x\", \"register\": \"r2\"}], \"name\": \"play\"}]") ≡ verdict (accepted 1)
unfolding reading
thin_000294 = refl

thin_000295 : found (codes "{\"all\":{\"hosts\":[\"h1\"]}}") (codes "[{\"hosts\": \"all\", \"tasks\": [{\"command\": \"x\", \"register\": \"r1\", \"name\": \"task 0\"}, {\"set_fact\": {\"s1\": {}}}, {\"ping\": null, \"register\": \"r2\", \"when\": \"not r1.failed and r1.changed\", \"name\": \"task 2\"}]}]") ≡ verdict (accepted 2)
unfolding reading
thin_000295 = refl

thin_000296 : found (codes "{\"all\":{\"hosts\":[\"h1\"]}}") (codes "[{\"hosts\": \"all\", \"tasks\": [{\"command\": \"x\", \"register\": \"r1\", \"when\": \"'h' in inventory_hostname\"}], \"name\": \"play\"}]") ≡ verdict (accepted 1)
unfolding reading
thin_000296 = refl

thin_000297 : found (codes "{\"all\":{\"hosts\":[\"h1\"]}}") (codes "[{\"hosts\": \"all\", \"tasks\": [{\"command\": {\"cmd\": \"{{ inventory_hostname }}\"}, \"register\": \"r1\", \"when\": \"1 == 1\"}, {\"command\": \"x\"}, {\"debug\": {\"msg\": \"a { b } c\"}, \"register\": \"r1\"}, {\"debug\": {\"msg\": \"{{ \\\"b\\\" }}\"}, \"register\": \"s1\"}, {\"command\": \"x\", \"when\": \"'h' in inventory_hostname\"}, {\"debug\": {\"msg\": {\"g\": {\"h\": \"{{ not r1.failed and r1.changed }}\", \"g\": 7}}}}], \"name\": \"play\"}]") ≡ verdict (accepted 3)
unfolding reading
thin_000297 = refl

thin_000298 : found (codes "{\"all\":{\"hosts\":[\"h1\"]}}") (codes "[{\"hosts\": \"all\", \"tasks\": [{\"debug\": {\"msg\": -1}, \"register\": \"s1\"}, {\"debug\": {\"msg\": \"{{ 1 == 1 }}\"}}]}]") ≡ verdict (accepted 0)
unfolding reading
thin_000298 = refl

thin_000299 : found (codes "{\"all\":{\"hosts\":[\"h1\"]}}") (codes "[{\"hosts\": \"all\", \"tasks\": [{\"debug\": {\"msg\": {\"g\": \"{{ (1) }}\"}}, \"name\": \"task 0\"}, {\"command\": \"x\", \"register\": \"r3\"}, {\"ping\": {\"data\": \"text\"}, \"register\": \"r3\", \"when\": \"not r3.failed and r3.changed\"}]}]") ≡ verdict (accepted 2)
unfolding reading
thin_000299 = refl

thin_000300 : found (codes "{\"all\":{\"hosts\":[\"h1\"]}}") (codes "[{\"hosts\": \"all\", \"tasks\": [{\"command\": {\"cmd\": \"{{ inventory_hostname }}\"}, \"register\": \"s1\", \"name\": \"task 0\"}, {\"command\": \"x\"}, {\"set_fact\": {\"s3\": \"{{ 'web' and True==False or nope }}\"}, \"register\": \"r3\", \"when\": \"inventory_hostname == 'h1'\", \"name\": \"task 2\"}]}]") ≡ verdict (refused (record { code = 4; line = 4; host = Some (codes "h1") }))
unfolding reading
thin_000300 = refl

thin_000301 : found (codes "{\"all\":{\"hosts\":[\"h1\"]}}") (codes "[{\"hosts\": \"all\", \"tasks\": [{\"command\": \"x\", \"name\": \"task 0\"}, {\"command\": \"x\", \"register\": \"r2\"}, {\"set_fact\": {\"s3\": \"text\"}, \"when\": \"r2.changed\"}, {\"ping\": null, \"name\": \"task 3\"}], \"name\": \"play\"}]") ≡ verdict (accepted 3)
unfolding reading
thin_000301 = refl

thin_000302 : found (codes "{\"all\":{\"hosts\":[\"h1\"]}}") (codes "[{\"hosts\": \"all\", \"tasks\": [{\"debug\": {\"msg\": 5}}, {\"command\": {\"cmd\": \"{{ inventory_hostname }}\"}, \"register\": \"r1\"}, {\"debug\": {\"msg\": -1}}, {\"set_fact\": {\"s2\": \"{{ 1 and r1.f }}\"}, \"register\": \"s1\", \"name\": \"task 3\"}], \"name\": \"play\"}]") ≡ verdict (refused (record { code = 3; line = 5; host = Some (codes "h1") }))
unfolding reading
thin_000302 = refl

thin_000303 : found (codes "{\"all\":{\"hosts\":[\"h1\"]}}") (codes "[{\"hosts\": \"all\", \"tasks\": [{\"command\": \"x\", \"register\": \"r3\", \"name\": \"task 0\"}]}]") ≡ verdict (accepted 1)
unfolding reading
thin_000303 = refl

thin_000304 : found (codes "{\"all\":{\"hosts\":[\"h1\"]}}") (codes "[{\"hosts\": \"all\", \"tasks\": [{\"ping\": null, \"register\": \"r3\"}, {\"command\": \"x\", \"register\": \"r2\"}], \"name\": \"play\"}]") ≡ verdict (accepted 2)
unfolding reading
thin_000304 = refl

thin_000305 : found (codes "{\"all\":{\"hosts\":[\"h1\"]}}") (codes "[{\"hosts\": \"all\", \"tasks\": [{\"command\": \"x\", \"register\": \"r1\"}, {\"set_fact\": {\"s1\": true}}], \"name\": \"play\"}]") ≡ verdict (accepted 1)
unfolding reading
thin_000305 = refl

thin_000306 : found (codes "{\"all\":{\"hosts\":[\"h1\"]}}") (codes "[{\"hosts\": \"all\", \"tasks\": [{\"set_fact\": {\"s3\": \"{{ 0 }}\"}}, {\"command\": \"x\", \"register\": \"r3\", \"name\": \"task 1\"}, {\"debug\": {\"msg\": []}, \"name\": \"task 2\"}, {\"command\": \"x\", \"register\": \"r2\"}], \"name\": \"play\"}]") ≡ verdict (accepted 2)
unfolding reading
thin_000306 = refl

thin_000307 : found (codes "{\"all\":{\"hosts\":[\"h1\"]}}") (codes "[{\"hosts\": \"all\", \"tasks\": [{\"debug\": {\"msg\": [5]}, \"register\": \"r2\", \"name\": \"task 0\"}, {\"debug\": {\"msg\": \"{{ 'web' in group_names }}\"}, \"register\": \"r2\", \"when\": \"r2.failed\"}, {\"debug\": {\"msg\": -1}, \"register\": \"r3\", \"when\": \"r2.changed\", \"name\": \"task 2\"}, {\"command\": {\"cmd\": \"{{ inventory_hostname }}\"}, \"name\": \"task 3\"}, {\"ping\": null, \"register\": \"r2\", \"name\": \"task 4\"}, {\"command\": {\"cmd\": \"{{ inventory_hostname }}\"}, \"when\": \"r2.failed\"}, {\"debug\": {\"msg\": \"{{ true }}\"}}, {\"debug\": {\"msg\": \"text\"}, \"register\": \"r2\"}, {\"set_fact\": {\"s3\": \"{{ 1 }}\"}, \"register\": \"s1\"}]}]") ≡ verdict (accepted 3)
unfolding reading
thin_000307 = refl

thin_000308 : found (codes "{\"all\":{\"hosts\":[\"h1\"]}}") (codes "[{\"hosts\": \"all\", \"tasks\": [{\"command\": \"x\", \"register\": \"r2\"}, {\"set_fact\": {\"s3\": true}, \"register\": \"r3\"}], \"name\": \"play\"}]") ≡ verdict (accepted 1)
unfolding reading
thin_000308 = refl

thin_000309 : found (codes "{\"all\":{\"hosts\":[\"h1\"]}}") (codes "[{\"hosts\": \"all\", \"tasks\": [{\"command\": \"x\"}]}]") ≡ verdict (accepted 1)
unfolding reading
thin_000309 = refl

thin_000310 : found (codes "{\"all\":{\"hosts\":[\"h1\"]}}") (codes "[{\"hosts\": \"all\", \"tasks\": [{\"command\": {\"cmd\": \"x\", \"chdir\": \"/t\"}, \"register\": \"s1\", \"name\": \"task 0\"}, {\"ping\": null}, {\"debug\": {\"msg\": \"{{ 'h' in inventory_hostname }}\"}, \"when\": \"'web' in group_names\"}, {\"command\": {\"cmd\": \"{{ inventory_hostname }}\"}, \"when\": \"'h' in inventory_hostname\"}, {\"set_fact\": {\"s3\": 5, \"s2\": \"{{ true }}\"}, \"register\": \"r3\"}, {\"debug\": {\"msg\": \"{{ r3.failed and r3.changed }}\"}, \"register\": \"s1\", \"when\": \"true\", \"name\": \"task 5\"}], \"name\": \"play\"}]") ≡ verdict (accepted 3)
unfolding reading
thin_000310 = refl

thin_000311 : found (codes "{\"all\":{\"hosts\":[\"h1\"]}}") (codes "[{\"hosts\": \"all\", \"tasks\": [{\"command\": \"x\", \"register\": \"r2\", \"when\": \"1 == 1\"}, {\"command\": \"x\", \"register\": \"r3\", \"name\": \"task 1\"}, {\"command\": {\"cmd\": \"{{ inventory_hostname }}\"}, \"register\": \"s1\"}], \"name\": \"play\"}]") ≡ verdict (accepted 3)
unfolding reading
thin_000311 = refl

thin_000312 : found (codes "{\"all\":{\"hosts\":[\"h1\"]}}") (codes "[{\"hosts\": \"all\", \"tasks\": [{\"command\": \"x\", \"when\": \"true\", \"name\": \"task 0\"}, {\"debug\": {\"msg\": \"{{ '' }}\"}, \"name\": \"task 1\"}, {\"ping\": null, \"name\": \"task 2\"}, {\"set_fact\": {\"s3\": -1}}, {\"set_fact\": {\"s1\": \"{{ 9223372036854775807 }}\"}, \"register\": \"r1\", \"name\": \"task 4\"}, {\"command\": \"x\"}, {\"command\": \"x\", \"register\": \"r1\"}, {\"set_fact\": {\"s3\": \"text\"}, \"register\": \"s1\"}, {\"command\": \"x\"}]}]") ≡ verdict (accepted 5)
unfolding reading
thin_000312 = refl

thin_000313 : found (codes "{\"all\":{\"hosts\":[\"h1\"]}}") (codes "[{\"hosts\": \"all\", \"tasks\": [{\"command\": \"x\", \"name\": \"task 0\"}, {\"set_fact\": {\"s1\": {\"g\": \"{{ 'it\\\\'s' }}\"}}, \"register\": \"r1\"}, {\"command\": \"x\", \"register\": \"r1\", \"when\": \"'web' in group_names\", \"name\": \"task 2\"}, {\"debug\": {\"msg\": \"text\"}}, {\"debug\": {\"msg\": \"{{ (True) }}\"}}, {\"command\": \"x\", \"register\": \"s1\", \"when\": \"true\"}], \"name\": \"play\"}]") ≡ verdict (accepted 3)
unfolding reading
thin_000313 = refl

thin_000314 : found (codes "{\"all\":{\"hosts\":[\"h1\"]}}") (codes "[{\"hosts\": \"all\", \"tasks\": [{\"ping\": null, \"when\": \"true\", \"name\": \"task 0\"}, {\"command\": {\"cmd\": \"x\", \"chdir\": \"/t\"}, \"register\": \"s1\", \"name\": \"task 1\"}], \"name\": \"play\"}]") ≡ verdict (accepted 2)
unfolding reading
thin_000314 = refl

thin_000315 : found (codes "{\"all\":{\"hosts\":[\"h1\"]}}") (codes "[{\"hosts\": \"all\", \"tasks\": [{\"command\": {\"cmd\": \"x\", \"chdir\": \"/t\"}}, {\"command\": \"x\", \"name\": \"task 1\"}, {\"command\": \"x\"}, {\"command\": \"x\", \"name\": \"task 3\"}]}]") ≡ verdict (accepted 4)
unfolding reading
thin_000315 = refl

thin_000316 : found (codes "{\"all\":{\"hosts\":[\"h1\"]}}") (codes "[{\"hosts\": \"all\", \"tasks\": [{\"set_fact\": {\"s1\": {}}, \"register\": \"s1\"}]}]") ≡ verdict (accepted 0)
unfolding reading
thin_000316 = refl

thin_000317 : found (codes "{\"all\":{\"hosts\":[\"h1\"]}}") (codes "[{\"hosts\": \"all\", \"tasks\": [{\"set_fact\": {\"s1\": 5}, \"name\": \"task 0\"}, {\"command\": \"x\", \"register\": \"r1\", \"when\": \"'web' in group_names\", \"name\": \"task 1\"}, {\"set_fact\": {\"s2\": {\"h\": \"{{ '' }}\"}}}, {\"command\": \"x\"}], \"name\": \"play\"}]") ≡ verdict (accepted 2)
unfolding reading
thin_000317 = refl

thin_000318 : found (codes "{\"all\":{\"hosts\":[\"h1\"]}}") (codes "[{\"hosts\": \"all\", \"tasks\": [{\"debug\": {\"msg\": \"{{ 'web' }}\"}, \"register\": \"s1\"}, {\"set_fact\": {\"s3\": {}}}, {\"ping\": null}, {\"debug\": {\"msg\": \"{{ 1 == 1 }}\"}, \"register\": \"r1\", \"name\": \"task 3\"}, {\"command\": \"x\", \"register\": \"r3\", \"when\": \"'web' in group_names\"}, {\"debug\": {\"msg\": []}, \"register\": \"r3\"}, {\"debug\": {\"msg\": \"text\"}, \"register\": \"r3\"}, {\"debug\": {\"msg\": null}, \"when\": \"r3.failed\"}, {\"ping\": null, \"register\": \"s1\"}], \"name\": \"play\"}]") ≡ verdict (accepted 3)
unfolding reading
thin_000318 = refl

thin_000319 : found (codes "{\"all\":{\"hosts\":[\"h1\"]}}") (codes "[{\"hosts\": \"all\", \"tasks\": [{\"debug\": {\"msg\": \"{{ False }}\"}, \"register\": \"r1\", \"when\": false}, {\"debug\": {\"msg\": \"a { b } c\"}, \"name\": \"task 1\"}], \"name\": \"play\"}]") ≡ verdict (accepted 0)
unfolding reading
thin_000319 = refl

thin_000320 : found (codes "{\"all\":{\"hosts\":[\"h1\"]}}") (codes "[{\"hosts\": \"all\", \"tasks\": [{\"ping\": null}, {\"command\": {\"cmd\": \"x\", \"chdir\": \"/t\"}}, {\"set_fact\": {\"s1\": {\"h\": 5}}}, {\"debug\": {\"msg\": \"{{ inventory_hostname == 'h1' }}\"}, \"register\": \"r3\", \"when\": \"nope.x\", \"name\": \"task 3\"}], \"name\": \"play\"}]") ≡ verdict (refused (record { code = 1; line = 5; host = Some (codes "h1") }))
unfolding reading
thin_000320 = refl

thin_000321 : found (codes "{\"all\":{\"hosts\":[\"h1\"]}}") (codes "[{\"hosts\": \"all\", \"tasks\": [{\"ping\": null}, {\"debug\": {\"msg\": {}}, \"name\": \"task 1\"}, {\"command\": \"x\"}], \"name\": \"play\"}]") ≡ verdict (accepted 2)
unfolding reading
thin_000321 = refl

thin_000322 : found (codes "{\"all\":{\"hosts\":[\"h1\"]}}") (codes "[{\"hosts\": \"all\", \"tasks\": [{\"debug\": {\"msg\": -1}, \"register\": \"r3\", \"name\": \"task 0\"}, {\"ping\": null, \"register\": \"r3\", \"when\": \"r3.changed\", \"name\": \"task 1\"}, {\"command\": {\"cmd\": \"{{ inventory_hostname }}\"}, \"register\": \"hostvars\", \"name\": \"task 2\"}], \"name\": \"play\"}]") ≡ verdict (refused (record { code = 8; line = 4; host = None }))
unfolding reading
thin_000322 = refl

thin_000323 : found (codes "{\"all\":{\"hosts\":[\"h1\"]}}") (codes "[{\"hosts\": \"all\", \"tasks\": [{\"command\": {\"cmd\": \"{{ inventory_hostname }}\"}}, {\"command\": \"x\"}, {\"command\": \"x\", \"register\": \"r1\", \"name\": \"task 2\"}, {\"command\": {\"cmd\": \"x\", \"chdir\": \"/t\"}, \"register\": \"r3\", \"when\": true}, {\"command\": {\"cmd\": \"x\", \"chdir\": \"/t\"}, \"name\": \"task 4\"}, {\"command\": \"x\", \"when\": \"r1.changed\"}, {\"set_fact\": {\"s3\": {\"g\": \"\", \"f\": \"{{ \\\"b\\\" }}\"}}, \"register\": \"r2\"}, {\"ping\": null, \"when\": \"r2.failed\"}, {\"command\": \"x\", \"when\": \"r2.changed\", \"name\": \"task 8\"}], \"name\": \"play\"}]") ≡ verdict (accepted 8)
unfolding reading
thin_000323 = refl

thin_000324 : found (codes "{\"all\":{\"hosts\":[\"h1\"]}}") (codes "[{\"hosts\": \"all\", \"tasks\": [{\"set_fact\": {\"s2\": [null]}, \"register\": \"r2\", \"name\": \"task 0\"}, {\"command\": \"x\", \"register\": \"s1\"}, {\"debug\": {\"msg\": {\"f\": \"{{ s2.stderr }}\"}}, \"register\": \"r3\", \"name\": \"task 2\"}]}]") ≡ verdict (refused (record { code = 4; line = 4; host = Some (codes "h1") }))
unfolding reading
thin_000324 = refl

thin_000325 : found (codes "{\"all\":{\"hosts\":[\"h1\"]}}") (codes "[{\"hosts\": \"all\", \"tasks\": [{\"set_fact\": {\"s1\": \"{{ 1 == 1 }}\", \"s2\": \"{{ 1 == 1 }}\"}, \"register\": \"r3\"}, {\"command\": \"x\", \"register\": \"s1\", \"when\": \"r3.changed\"}, {\"debug\": {\"msg\": \"{{ not r3.failed and r3.changed }}\"}}, {\"command\": {\"cmd\": \"{{ inventory_hostname }}\"}, \"name\": \"task 3\"}, {\"ping\": null}, {\"debug\": {\"msg\": \"{{ 'it\\\\'s' }}\"}, \"register\": \"r2\"}], \"name\": \"play\"}]") ≡ verdict (accepted 3)
unfolding reading
thin_000325 = refl

thin_000326 : found (codes "{\"all\":{\"hosts\":[\"h1\"]}}") (codes "[{\"hosts\": \"all\", \"tasks\": [{\"ping\": null, \"register\": \"r1\"}]}]") ≡ verdict (accepted 1)
unfolding reading
thin_000326 = refl

thin_000327 : found (codes "{\"all\":{\"hosts\":[\"h1\"]}}") (codes "[{\"hosts\": \"all\", \"tasks\": [{\"set_fact\": {\"s3\": \"{{ inventory_hostname == 'h1' }}\"}, \"register\": \"r2\", \"when\": \"not r1.failed and r1.changed\", \"name\": \"task 0\"}]}]") ≡ verdict (refused (record { code = 1; line = 2; host = Some (codes "h1") }))
unfolding reading
thin_000327 = refl

thin_000328 : found (codes "{\"all\":{\"hosts\":[\"h1\"]}}") (codes "[{\"hosts\": \"all\", \"tasks\": [{\"command\": \"x\"}, {\"set_fact\": {\"s2\": \"{{ inventory_hostname == 'h1' }}\"}}, {\"command\": \"x\"}, {\"debug\": {\"msg\": \"{{ s2 == true }}\"}, \"name\": \"task 3\"}, {\"set_fact\": {\"s3\": \"{{ 'a' }}\", \"s1\": -1}}, {\"debug\": {\"msg\": 5}}, {\"debug\": {\"msg\": \"{{ 'h' in inventory_hostname }}\"}, \"when\": \"1 == 1\"}, {\"command\": \"x\", \"name\": \"task 7\"}, {\"set_fact\": {\"s2\": []}, \"when\": \"'h' in inventory_hostname\"}], \"name\": \"play\"}]") ≡ verdict (accepted 3)
unfolding reading
thin_000328 = refl

thin_000329 : found (codes "{\"all\":{\"hosts\":[\"h1\"]}}") (codes "[{\"hosts\": \"all\", \"tasks\": [{\"command\": \"x\", \"register\": \"r1\"}, {\"ping\": null, \"when\": true, \"name\": \"task 1\"}, {\"command\": \"x\"}, {\"command\": \"x\", \"register\": \"r3\"}]}]") ≡ verdict (accepted 4)
unfolding reading
thin_000329 = refl

thin_000330 : found (codes "{\"all\":{\"hosts\":[\"h1\"]}}") (codes "[{\"hosts\": \"all\", \"tasks\": [{\"command\": \"x\"}, {\"command\": \"x\", \"register\": \"r2\"}, {\"command\": {\"cmd\": \"x\", \"chdir\": \"/t\"}, \"name\": \"task 2\"}, {\"ping\": {\"data\": \"text\"}, \"register\": \"r2\", \"when\": \"True\"}, {\"command\": \"x\", \"register\": \"s1\"}, {\"ping\": null, \"register\": \"s1\", \"when\": false}]}]") ≡ verdict (accepted 6)
unfolding reading
thin_000330 = refl

thin_000331 : found (codes "{\"all\":{\"hosts\":[\"h1\"]}}") (codes "[{\"hosts\": \"all\", \"tasks\": [{\"command\": \"x\"}, {\"command\": \"x\", \"register\": \"r1\", \"when\": true}, {\"debug\": {\"msg\": \"{{ not r1.failed and r1.changed }}\"}, \"when\": \"'h' in inventory_hostname\", \"name\": \"task 2\"}, {\"set_fact\": {\"s2\": -1}, \"register\": \"s1\"}, {\"set_fact\": {\"s2\": \"{{ (not not r1.changed) }}\"}, \"register\": \"s1\", \"name\": \"task 4\"}, {\"command\": {\"cmd\": \"{{ inventory_hostname }}\"}}, {\"command\": \"x\"}, {\"set_fact\": {\"s3\": {\"h\": \"{{ not r1.failed and r1.changed }}\", \"g\": null}}}, {\"command\": {\"cmd\": \"{{ inventory_hostname }}\"}, \"name\": \"task 8\"}]}]") ≡ verdict (accepted 5)
unfolding reading
thin_000331 = refl

thin_000332 : found (codes "{\"all\":{\"hosts\":[\"h1\"]}}") (codes "[{\"hosts\": \"all\", \"tasks\": [{\"command\": {\"cmd\": \"x\", \"chdir\": \"/t\"}, \"register\": \"r1\"}, {\"ping\": null, \"register\": \"r3\"}]}]") ≡ verdict (accepted 2)
unfolding reading
thin_000332 = refl

thin_000333 : found (codes "{\"all\":{\"hosts\":[\"h1\"]}}") (codes "[{\"hosts\": \"all\", \"tasks\": [{\"command\": \"x\", \"register\": \"r3\", \"name\": \"task 0\"}, {\"debug\": {\"msg\": \"\"}, \"when\": \"r3.failed\"}, {\"command\": \"x\"}, {\"debug\": {\"msg\": \"text\"}, \"register\": \"r3\"}, {\"ping\": null}, {\"ping\": null, \"register\": \"s1\"}], \"name\": \"play\"}]") ≡ verdict (accepted 4)
unfolding reading
thin_000333 = refl

thin_000334 : found (codes "{\"all\":{\"hosts\":[\"h1\"]}}") (codes "[{\"hosts\": \"all\", \"tasks\": [{\"command\": \"x\", \"register\": \"s1\", \"name\": \"task 0\"}, {\"set_fact\": {\"s3\": {}}, \"register\": \"s1\"}]}]") ≡ verdict (accepted 1)
unfolding reading
thin_000334 = refl

thin_000335 : found (codes "{\"all\":{\"hosts\":[\"h1\"]}}") (codes "[{\"hosts\": \"all\", \"tasks\": [{\"command\": \"x\", \"register\": \"s1\", \"name\": \"task 0\"}, {\"set_fact\": {\"s2\": [[]]}, \"register\": \"s1\", \"name\": \"task 1\"}]}]") ≡ verdict (accepted 1)
unfolding reading
thin_000335 = refl

thin_000336 : found (codes "{\"all\":{\"hosts\":[\"h1\"]}}") (codes "[{\"hosts\": \"all\", \"tasks\": [{\"debug\": {\"msg\": \"\"}, \"register\": \"r2\"}]}]") ≡ verdict (accepted 0)
unfolding reading
thin_000336 = refl

thin_000337 : found (codes "{\"all\":{\"hosts\":[\"h1\"]}}") (codes "[{\"hosts\": \"all\", \"tasks\": [{\"ping\": null}, {\"command\": \"x\"}]}]") ≡ verdict (accepted 2)
unfolding reading
thin_000337 = refl

thin_000338 : found (codes "{\"all\":{\"hosts\":[\"h1\"]}}") (codes "[{\"hosts\": \"all\", \"tasks\": [{\"ping\": null, \"register\": \"r1\"}]}]") ≡ verdict (accepted 1)
unfolding reading
thin_000338 = refl

thin_000339 : found (codes "{\"all\":{\"hosts\":[\"h1\"]}}") (codes "[{\"hosts\": \"all\", \"tasks\": [{\"debug\": {\"msg\": {}}, \"register\": \"s1\"}, {\"command\": {\"cmd\": \"x\", \"chdir\": \"/t\"}, \"when\": \"'web' in group_names\"}], \"name\": \"play\"}]") ≡ verdict (accepted 1)
unfolding reading
thin_000339 = refl

thin_000340 : found (codes "{\"all\":{\"hosts\":[\"h1\"]}}") (codes "[{\"hosts\": \"all\", \"tasks\": [{\"command\": \"x\", \"register\": \"s1\"}, {\"command\": \"x\", \"register\": \"r2\"}, {\"command\": \"x\"}, {\"command\": \"x\", \"register\": \"s1\", \"name\": \"task 3\"}], \"name\": \"play\"}]") ≡ verdict (accepted 4)
unfolding reading
thin_000340 = refl

thin_000341 : found (codes "{\"all\":{\"hosts\":[\"h1\"]}}") (codes "[{\"hosts\": \"all\", \"tasks\": [{\"command\": {\"cmd\": \"{{ inventory_hostname }}\"}, \"register\": \"r1\", \"when\": \"true\", \"name\": \"task 0\"}, {\"ping\": null, \"when\": \"r1.changed\"}, {\"debug\": {\"msg\": \"{{ r1 }}\"}, \"when\": \"'h' in inventory_hostname\", \"name\": \"task 2\"}, {\"debug\": {\"msg\": \"{{ r1 }}\"}, \"when\": \"r1.failed\"}, {\"command\": {\"cmd\": \"{{ r1.changed }}\"}}]}]") ≡ verdict (refused (record { code = 4; line = 6; host = Some (codes "h1") }))
unfolding reading
thin_000341 = refl

thin_000342 : found (codes "{\"all\":{\"hosts\":[\"h1\"]}}") (codes "[{\"hosts\": \"all\", \"tasks\": [{\"command\": \"x\", \"register\": \"r1\"}]}]") ≡ verdict (accepted 1)
unfolding reading
thin_000342 = refl

thin_000343 : found (codes "{\"all\":{\"hosts\":[\"h1\"]}}") (codes "[{\"hosts\": \"all\", \"tasks\": [{\"command\": \"x\", \"register\": \"r1\"}, {\"debug\": {\"msg\": {}}}]}]") ≡ verdict (accepted 1)
unfolding reading
thin_000343 = refl

thin_000344 : found (codes "{\"all\":{\"hosts\":[\"h1\"]}}") (codes "[{\"hosts\": \"all\", \"tasks\": [{\"command\": \"x\"}, {\"debug\": {\"msg\": [\"{{ 1 == 1 }}\", \"{{ False }}\"]}, \"register\": \"r3\", \"name\": \"task 1\"}, {\"debug\": {\"msg\": {}}, \"register\": \"r1\"}, {\"command\": \"x\"}]}]") ≡ verdict (accepted 2)
unfolding reading
thin_000344 = refl

thin_000345 : found (codes "{\"all\":{\"hosts\":[\"h1\"]}}") (codes "[{\"hosts\": \"all\", \"tasks\": [{\"command\": {\"cmd\": \"{{ inventory_hostname }}\"}, \"register\": \"r2\"}, {\"command\": \"x\", \"register\": \"r3\", \"when\": \"r2.failed and r2.changed\"}, {\"command\": {\"cmd\": \"{{ inventory_hostname }}\"}}]}]") ≡ verdict (accepted 3)
unfolding reading
thin_000345 = refl

thin_000346 : found (codes "{\"all\":{\"hosts\":[\"h1\"]}}") (codes "[{\"hosts\": \"all\", \"tasks\": [{\"command\": {\"cmd\": \"{{ inventory_hostname }}\"}}, {\"debug\": {\"msg\": 5}, \"register\": \"r2\", \"name\": \"task 1\"}, {\"command\": \"x\", \"register\": \"s1\"}, {\"command\": \"x\", \"register\": \"r2\", \"name\": \"task 3\"}, {\"debug\": {\"msg\": {\"h\": {\"h\": \"{{ (s1) }}\"}}}, \"when\": \"r2.changed\"}, {\"set_fact\": {\"s3\": \"{{ (group_names) }}\"}, \"register\": \"r2\", \"name\": \"task 5\"}]}]") ≡ verdict (accepted 3)
unfolding reading
thin_000346 = refl

thin_000347 : found (codes "{\"all\":{\"hosts\":[\"h1\"]}}") (codes "[{\"hosts\": \"all\", \"tasks\": [{\"command\": \"x\"}, {\"set_fact\": {\"s3\": {}}, \"register\": \"s1\"}, {\"ping\": null}]}]") ≡ verdict (accepted 2)
unfolding reading
thin_000347 = refl

thin_000348 : found (codes "{\"all\":{\"hosts\":[\"h1\"]}}") (codes "[{\"hosts\": \"all\", \"tasks\": [{\"ping\": {\"data\": \"{{ 'it\\\\'s' }}\"}, \"register\": \"s1\"}, {\"debug\": {\"msg\": null}, \"register\": \"r2\", \"when\": \"1 == 1\"}, {\"debug\": {\"msg\": [null, []]}, \"register\": \"r3\"}]}]") ≡ verdict (accepted 1)
unfolding reading
thin_000348 = refl

thin_000349 : found (codes "{\"all\":{\"hosts\":[\"h1\"]}}") (codes "[{\"hosts\": \"all\", \"tasks\": [{\"command\": {\"cmd\": \"{{ inventory_hostname }}\"}}, {\"debug\": {\"msg\": []}, \"name\": \"task 1\"}, {\"debug\": {\"msg\": {}}}, {\"debug\": {\"msg\": {\"h\": \"{{ r1.stdout }}\"}}}]}]") ≡ verdict (refused (record { code = 1; line = 5; host = Some (codes "h1") }))
unfolding reading
thin_000349 = refl

thin_000350 : found (codes "{\"all\":{\"hosts\":[\"h1\"]}}") (codes "[{\"hosts\": \"all\", \"tasks\": [{\"set_fact\": {\"s2\": [[]]}}, {\"command\": \"x\", \"when\": \"true\"}, {\"ping\": null}]}]") ≡ verdict (accepted 2)
unfolding reading
thin_000350 = refl

thin_000351 : found (codes "{\"all\":{\"hosts\":[\"h1\"]}}") (codes "[{\"hosts\": \"all\", \"tasks\": [{\"set_fact\": {\"s3\": {}}, \"register\": \"r2\"}, {\"command\": \"x\", \"register\": \"r3\"}, {\"set_fact\": {\"s3\": \"{{ not not False }}\"}, \"when\": \"r2.failed\"}, {\"set_fact\": {\"s1\": \"{{ False }}\", \"s2\": \"{{ not s3 and s3.f }}\"}}]}]") ≡ verdict (refused (record { code = 4; line = 5; host = Some (codes "h1") }))
unfolding reading
thin_000351 = refl

thin_000352 : found (codes "{\"all\":{\"hosts\":[\"h1\"]}}") (codes "[{\"hosts\": \"all\", \"tasks\": [{\"command\": \"x\", \"when\": false, \"name\": \"task 0\"}, {\"debug\": {\"msg\": []}, \"register\": \"r2\"}, {\"set_fact\": {\"s2\": {\"h\": \"text\", \"g\": \"{{ true }}\"}}, \"register\": \"r3\", \"when\": \"r2.changed\"}]}]") ≡ verdict (accepted 1)
unfolding reading
thin_000352 = refl

thin_000353 : found (codes "{\"all\":{\"hosts\":[\"h1\"]}}") (codes "[{\"hosts\": \"all\", \"tasks\": [{\"command\": \"x\", \"register\": \"s1\", \"name\": \"task 0\"}]}]") ≡ verdict (accepted 1)
unfolding reading
thin_000353 = refl

thin_000354 : found (codes "{\"all\":{\"hosts\":[\"h1\"]}}") (codes "[{\"hosts\": \"all\", \"tasks\": [{\"command\": {\"cmd\": \"x\", \"chdir\": \"/t\"}, \"name\": \"task 0\"}, {\"command\": {\"cmd\": \"{{ inventory_hostname }}\"}}], \"name\": \"play\"}]") ≡ verdict (accepted 2)
unfolding reading
thin_000354 = refl

thin_000355 : found (codes "{\"all\":{\"hosts\":[\"h1\"]}}") (codes "[{\"hosts\": \"all\", \"tasks\": [{\"set_fact\": {\"s2\": \"{{ 'web' in group_names }}\"}, \"register\": \"r1\"}, {\"command\": \"x\", \"register\": \"r3\"}], \"name\": \"play\"}]") ≡ verdict (accepted 1)
unfolding reading
thin_000355 = refl

thin_000356 : found (codes "{\"all\":{\"hosts\":[\"h1\"]}}") (codes "[{\"hosts\": \"all\", \"tasks\": [{\"command\": {\"cmd\": \"x\", \"chdir\": \"/t\"}}, {\"command\": \"x\", \"register\": \"r3\"}, {\"debug\": {\"msg\": [\"\"]}}, {\"command\": {\"cmd\": \"{{ inventory_hostname }}\"}, \"register\": \"r2\"}, {\"command\": \"x\", \"register\": \"r2\"}, {\"debug\": {\"msg\": {\"f\": [7, 7], \"g\": {\"g\": 7}}}, \"register\": \"r2\", \"when\": \"r2.stdout\"}]}]") ≡ verdict (refused (record { code = 4; line = 7; host = Some (codes "h1") }))
unfolding reading
thin_000356 = refl

thin_000357 : found (codes "{\"all\":{\"hosts\":[\"h1\"]}}") (codes "[{\"hosts\": \"all\", \"tasks\": [{\"command\": {\"cmd\": \"x\", \"chdir\": \"/t\"}, \"register\": \"r2\", \"name\": \"task 0\"}, {\"ping\": null, \"register\": \"r3\", \"when\": \"r2.changed\"}]}]") ≡ verdict (accepted 2)
unfolding reading
thin_000357 = refl

thin_000358 : found (codes "{\"all\":{\"hosts\":[\"h1\"]}}") (codes "[{\"hosts\": \"all\", \"tasks\": [{\"debug\": {\"msg\": {\"g\": []}}, \"register\": \"s1\", \"when\": \"r1.failed and r1.changed\"}]}]") ≡ verdict (refused (record { code = 1; line = 2; host = Some (codes "h1") }))
unfolding reading
thin_000358 = refl

thin_000359 : found (codes "{\"all\":{\"hosts\":[\"h1\"]}}") (codes "[{\"hosts\": \"all\", \"tasks\": [{\"ping\": null, \"name\": \"task 0\"}], \"name\": \"play\"}]") ≡ verdict (accepted 1)
unfolding reading
thin_000359 = refl

thin_000360 : found (codes "{\"all\":{\"hosts\":[\"h1\"]}}") (codes "[{\"hosts\": \"all\", \"tasks\": [{\"command\": {\"cmd\": \"{{ inventory_hostname }}\"}, \"register\": \"r2\", \"name\": \"task 0\"}, {\"set_fact\": {\"s1\": [\"{{ r2.changed or true }}\"]}, \"name\": \"task 1\"}]}]") ≡ verdict (accepted 1)
unfolding reading
thin_000360 = refl

thin_000361 : found (codes "{\"all\":{\"hosts\":[\"h1\"]}}") (codes "[{\"hosts\": \"all\", \"tasks\": [{\"command\": \"x\", \"register\": \"r2\", \"name\": \"task 0\"}, {\"command\": \"x\", \"name\": \"task 1\"}, {\"command\": \"x\", \"when\": \"inventory_hostname == 'h1'\"}, {\"command\": {\"cmd\": \"{{ inventory_hostname }}\"}, \"register\": \"s1\"}, {\"command\": \"x\", \"register\": \"r2\", \"when\": \"not r2.failed and r2.changed\"}, {\"command\": \"x\"}]}]") ≡ verdict (accepted 6)
unfolding reading
thin_000361 = refl

thin_000362 : found (codes "{\"all\":{\"hosts\":[\"h1\"]}}") (codes "[{\"hosts\": \"all\", \"tasks\": [{\"debug\": {\"msg\": {}}}, {\"debug\": {\"msg\": {\"f\": [], \"g\": {}}}}, {\"debug\": {\"msg\": true}, \"name\": \"task 2\"}, {\"set_fact\": {\"s1\": \"{{ (True) }}\"}}, {\"debug\": {\"msg\": \"{{ 'a' }}\"}, \"register\": \"r2\", \"when\": \"inventory_hostname == 'h1'\"}, {\"debug\": {\"msg\": [\"{{ true }}\", null]}, \"when\": \"r2.failed and r2.changed\"}], \"name\": \"play\"}]") ≡ verdict (accepted 0)
unfolding reading
thin_000362 = refl

thin_000363 : found (codes "{\"all\":{\"hosts\":[\"h1\"]}}") (codes "[{\"hosts\": \"all\", \"tasks\": [{\"debug\": {\"msg\": \"{{ 1 }}\"}}, {\"command\": \"x\", \"when\": true}], \"name\": \"play\"}]") ≡ verdict (accepted 1)
unfolding reading
thin_000363 = refl
