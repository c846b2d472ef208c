-- Cases of thin, computed from the bytes of their files.
use Rattle.std.specs.Prelude.{◌≡◌, refl, Some, None, codes}
use Rattle.pb_language.specs.Verdict.{accepted, refused}
use Rattle.pb_byte_rows.specs.Found.{verdict, found}
use Rattle.pb_byte_rows.proofs.Computing.{reading}

thin_000364 : found (codes "{\"all\":{\"hosts\":[\"h1\"]}}") (codes "[{\"hosts\": \"all\", \"tasks\": [{\"command\": {\"cmd\": \"{{ inventory_hostname }}\"}, \"when\": \"inventory_hostname == 'h1'\"}]}]") ≡ verdict (accepted 1)
unfolding reading
thin_000364 = refl

thin_000365 : found (codes "{\"all\":{\"hosts\":[\"h1\"]}}") (codes "[{\"hosts\": \"all\", \"tasks\": [{\"command\": \"x\", \"name\": \"task 0\"}, {\"debug\": {\"msg\": {}}, \"name\": \"task 1\"}, {\"set_fact\": {\"s1\": -1}, \"register\": \"r3\"}, {\"command\": {\"cmd\": \"{{ inventory_hostname }}\"}}, {\"debug\": {\"msg\": \"{{ 0 }}\"}, \"when\": \"r3.failed and r3.changed\"}, {\"ping\": null, \"when\": false}, {\"command\": \"x\"}, {\"set_fact\": {\"s1\": {\"h\": -1, \"f\": []}}, \"register\": \"r1\", \"name\": \"task 7\"}, {\"command\": \"x\", \"register\": \"r3\", \"name\": \"task 8\"}]}]") ≡ verdict (accepted 5)
unfolding reading
thin_000365 = refl

thin_000366 : found (codes "{\"all\":{\"hosts\":[\"h1\"]}}") (codes "[{\"hosts\": \"all\", \"tasks\": [{\"command\": \"x\"}]}]") ≡ verdict (accepted 1)
unfolding reading
thin_000366 = refl

thin_000367 : found (codes "{\"all\":{\"hosts\":[\"h1\"]}}") (codes "[{\"hosts\": \"all\", \"tasks\": [{\"command\": \"x\"}]}]") ≡ verdict (accepted 1)
unfolding reading
thin_000367 = refl

thin_000368 : found (codes "{\"all\":{\"hosts\":[\"h1\"]}}") (codes "[{\"hosts\": \"all\", \"tasks\": [{\"debug\": {\"msg\": \"{{ -3 }}\"}, \"register\": \"s1\"}, {\"ping\": null, \"register\": \"r3\"}, {\"debug\": {\"msg\": \"{{ not ''==True }}\"}}, {\"command\": \"x\", \"name\": \"task 3\"}]}]") ≡ verdict (accepted 2)
unfolding reading
thin_000368 = refl

thin_000369 : found (codes "{\"all\":{\"hosts\":[\"h1\"]}}") (codes "[{\"hosts\": \"all\", \"tasks\": [{\"set_fact\": {\"s1\": \"text\"}, \"register\": \"r2\"}, {\"debug\": {\"msg\": {\"g\": \"{{ -3 }}\"}}}, {\"command\": {\"cmd\": \"{{ inventory_hostname }}\"}}], \"name\": \"play\"}]") ≡ verdict (accepted 1)
unfolding reading
thin_000369 = refl

thin_000370 : found (codes "{\"all\":{\"hosts\":[\"h1\"]}}") (codes "[{\"hosts\": \"all\", \"tasks\": [{\"command\": \"x\", \"register\": \"r1\"}]}]") ≡ verdict (accepted 1)
unfolding reading
thin_000370 = refl

thin_000371 : found (codes "{\"all\":{\"hosts\":[\"h1\"]}}") (codes "[{\"hosts\": \"all\", \"tasks\": [{\"set_fact\": {\"s3\": {}}}, {\"command\": \"x\", \"register\": \"r2\", \"name\": \"task 1\"}, {\"command\": \"x\", \"register\": \"r3\", \"when\": \"r2.failed\", \"name\": \"task 2\"}], \"name\": \"play\"}]") ≡ verdict (accepted 2)
unfolding reading
thin_000371 = refl

thin_000372 : found (codes "{\"all\":{\"hosts\":[\"h1\"]}}") (codes "[{\"hosts\": \"all\", \"tasks\": [{\"command\": \"x\", \"when\": \"true\"}]}]") ≡ verdict (accepted 1)
unfolding reading
thin_000372 = refl

thin_000373 : found (codes "{\"all\":{\"hosts\":[\"h1\"]}}") (codes "[{\"hosts\": \"all\", \"tasks\": [{\"command\": {\"cmd\": \"x\", \"chdir\": \"/t\"}, \"name\": \"task 0\"}]}]") ≡ verdict (accepted 1)
unfolding reading
thin_000373 = refl

thin_000374 : found (codes "{\"all\":{\"hosts\":[\"h1\"]}}") (codes "[{\"hosts\": \"all\", \"tasks\": [{\"ping\": null}, {\"command\": \"x\"}, {\"debug\": {\"msg\": \"text\"}, \"register\": \"r3\"}]}]") ≡ verdict (accepted 2)
unfolding reading
thin_000374 = refl

thin_000375 : found (codes "{\"all\":{\"hosts\":[\"h1\"]}}") (codes "[{\"hosts\": \"all\", \"tasks\": [{\"debug\": {\"msg\": \"{{ 'it\\\\'s' or (r1.g.stderr_lines) }}\"}, \"register\": \"r3\"}]}]") ≡ verdict (refused (record { code = 1; line = 2; host = Some (codes "h1") }))
unfolding reading
thin_000375 = refl

thin_000376 : found (codes "{\"all\":{\"hosts\":[\"h1\"]}}") (codes "[{\"hosts\": \"all\", \"tasks\": [{\"debug\": {\"msg\": \"text\"}, \"register\": \"s1\"}, {\"command\": {\"cmd\": \"x\", \"chdir\": \"/t\"}, \"register\": \"r1\"}, {\"command\": {\"cmd\": \"x\", \"chdir\": \"/t\"}, \"register\": \"r2\"}, {\"command\": \"x\", \"name\": \"task 3\"}, {\"command\": \"x\", \"name\": \"task 4\"}, {\"command\": {\"cmd\": \"{{ inventory_hostname }}\"}, \"when\": \"group_names==-3\", \"name\": \"task 5\"}, {\"command\": \"x\"}, {\"debug\": {\"msg\": \"{{ r1.changed }}\"}}, {\"debug\": {\"msg\": {\"g\": \"a { b } c\"}}, \"when\": \"1 == 1\"}]}]") ≡ verdict (accepted 6)
unfolding reading
thin_000376 = refl

thin_000377 : found (codes "{\"all\":{\"hosts\":[\"h1\"]}}") (codes "[{\"hosts\": \"all\", \"tasks\": [{\"debug\": {\"msg\": []}, \"register\": \"r1\"}, {\"debug\": {\"msg\": \"{{ true }}\"}, \"register\": \"r3\", \"when\": \"'h' in inventory_hostname\", \"name\": \"task 1\"}]}]") ≡ verdict (accepted 0)
unfolding reading
thin_000377 = refl

thin_000378 : found (codes "{\"all\":{\"hosts\":[\"h1\"]}}") (codes "[{\"hosts\": \"all\", \"tasks\": [{\"command\": \"x\", \"register\": \"s1\", \"name\": \"task 0\"}]}]") ≡ verdict (accepted 1)
unfolding reading
thin_000378 = refl

thin_000379 : found (codes "{\"all\":{\"hosts\":[\"h1\"]}}") (codes "[{\"hosts\": \"all\", \"tasks\": [{\"command\": \"x\", \"register\": \"r3\"}]}]") ≡ verdict (accepted 1)
unfolding reading
thin_000379 = refl

thin_000380 : found (codes "{\"all\":{\"hosts\":[\"h1\"]}}") (codes "[{\"hosts\": \"all\", \"tasks\": [{\"command\": \"x\"}, {\"command\": {\"cmd\": \"{{ inventory_hostname }}\"}}], \"name\": \"play\"}]") ≡ verdict (accepted 2)
unfolding reading
thin_000380 = refl

thin_000381 : found (codes "{\"all\":{\"hosts\":[\"h1\"]}}") (codes "[{\"hosts\": \"all\", \"tasks\": [{\"ping\": null, \"register\": \"r2\"}, {\"debug\": {\"msg\": true}, \"register\": \"s1\", \"when\": \"r2.changed\"}, {\"debug\": {\"msg\": [[\"{{ true }}\"]]}, \"when\": \"r2.failed\"}, {\"command\": {\"cmd\": \"{{ inventory_hostname }}\"}, \"when\": \"not r2.failed and r2.changed\"}], \"name\": \"play\"}]") ≡ verdict (accepted 2)
unfolding reading
thin_000381 = refl

thin_000382 : found (codes "{\"all\":{\"hosts\":[\"h1\"]}}") (codes "[{\"hosts\": \"all\", \"tasks\": [{\"command\": {\"cmd\": \"{{ inventory_hostname }}\"}, \"register\": \"s1\", \"when\": \"not r1\", \"name\": \"task 0\"}], \"name\": \"play\"}]") ≡ verdict (refused (record { code = 1; line = 2; host = Some (codes "h1") }))
unfolding reading
thin_000382 = refl

thin_000383 : found (codes "{\"all\":{\"hosts\":[\"h1\"]}}") (codes "[{\"hosts\": \"all\", \"tasks\": [{\"set_fact\": {\"s2\": \"{{ 'a' }}\"}, \"name\": \"task 0\"}, {\"set_fact\": {\"s2\": \"{{ True }}\"}, \"register\": \"r2\", \"name\": \"task 1\"}, {\"debug\": {\"msg\": {\"f\": {}, \"g\": \"a { b } c\"}}, \"register\": \"s1\", \"when\": \"r2.failed and r2.changed\", \"name\": \"task 2\"}, {\"debug\": {\"msg\": {}}, \"register\": \"s1\"}, {\"command\": \"x\"}, {\"debug\": {\"msg\": {\"h\": 5, \"f\": \"{{ False }}\"}}}]}]") ≡ verdict (accepted 1)
unfolding reading
thin_000383 = refl

thin_000384 : found (codes "{\"all\":{\"hosts\":[\"h1\"]}}") (codes "[{\"hosts\": \"all\", \"tasks\": [{\"set_fact\": {\"s3\": []}}, {\"command\": \"x\", \"register\": \"r2\", \"name\": \"task 1\"}, {\"command\": {\"cmd\": \"{{ inventory_hostname }}\"}, \"register\": \"r3\"}, {\"command\": {\"cmd\": \"{{ inventory_hostname }}\"}, \"register\": \"r3\"}, {\"command\": \"x\", \"when\": \"r2.changed\"}, {\"debug\": {\"msg\": true}, \"when\": \"'h' in inventory_hostname\"}, {\"ping\": null}, {\"set_fact\": {\"s1\": true}, \"name\": \"task 7\"}, {\"debug\": {\"msg\": null}, \"when\": \"r3.failed and r3.changed\"}], \"name\": \"play\"}]") ≡ verdict (accepted 5)
unfolding reading
thin_000384 = refl

thin_000385 : found (codes "{\"all\":{\"hosts\":[\"h1\"]}}") (codes "[{\"hosts\": \"all\", \"tasks\": [{\"set_fact\": {\"s1\": {}}}]}]") ≡ verdict (accepted 0)
unfolding reading
thin_000385 = refl

thin_000386 : found (codes "{\"all\":{\"hosts\":[\"h1\"]}}") (codes "[{\"hosts\": \"all\", \"tasks\": [{\"command\": \"x\", \"register\": \"r1\"}, {\"command\": \"x\"}, {\"command\": {\"cmd\": \"{{ inventory_hostname }}\"}}, {\"command\": \"x\", \"register\": \"r1\"}, {\"debug\": {\"msg\": \"{{ False }}\"}, \"register\": \"r1\"}, {\"command\": \"x\", \"register\": \"r1\", \"when\": \"r1.failed\"}]}]") ≡ verdict (accepted 5)
unfolding reading
thin_000386 = refl

thin_000387 : found (codes "{\"all\":{\"hosts\":[\"h1\"]}}") (codes "[{\"hosts\": \"all\", \"tasks\": [{\"set_fact\": {\"s3\": null}}, {\"command\": \"x\", \"register\": \"r1\", \"when\": \"'web' in group_names\", \"name\": \"task 1\"}, {\"command\": {\"cmd\": \"{{ (s3 or true) or r1.changed }}\"}}]}]") ≡ verdict (refused (record { code = 4; line = 4; host = Some (codes "h1") }))
unfolding reading
thin_000387 = refl

thin_000388 : found (codes "{\"all\":{\"hosts\":[\"h1\"]}}") (codes "[{\"hosts\": \"all\", \"tasks\": [{\"command\": {\"cmd\": \"x\", \"chdir\": \"/t\"}}, {\"command\": \"x\", \"register\": \"r1\", \"when\": \"'h' in inventory_hostname\"}, {\"ping\": null, \"register\": \"r1\", \"name\": \"task 2\"}]}]") ≡ verdict (accepted 3)
unfolding reading
thin_000388 = refl

thin_000389 : found (codes "{\"all\":{\"hosts\":[\"h1\"]}}") (codes "[{\"hosts\": \"all\", \"tasks\": [{\"set_fact\": {\"s2\": \"\"}, \"register\": \"r2\"}, {\"command\": \"x\"}, {\"ping\": null, \"register\": \"r3\", \"name\": \"task 2\"}, {\"command\": \"x\"}, {\"debug\": {\"msg\": -1}, \"register\": \"r3\", \"when\": \"r3.failed\"}, {\"debug\": {\"msg\": \"{{ r2.changed }}\"}, \"name\": \"task 5\"}, {\"command\": \"x\", \"register\": \"r3\", \"name\": \"task 6\"}, {\"set_fact\": {\"s3\": [], \"s1\": \"\"}, \"register\": \"s1\"}, {\"debug\": {\"msg\": {\"g\": \"{{ True }}\", \"f\": {\"h\": 7}}}, \"when\": \"r2.failed\"}]}]") ≡ verdict (accepted 4)
unfolding reading
thin_000389 = refl

thin_000390 : found (codes "{\"all\":{\"hosts\":[\"h1\"]}}") (codes "[{\"hosts\": \"all\", \"tasks\": [{\"debug\": {\"msg\": \"{{ 'web' }}\"}, \"register\": \"r3\"}, {\"command\": {\"cmd\": \"x\", \"chdir\": \"/t\"}}, {\"set_fact\": {\"s2\": [], \"s3\": \"text\"}, \"register\": \"r2\"}, {\"command\": \"x\", \"register\": \"s1\", \"name\": \"task 3\"}, {\"debug\": {\"msg\": \"{{ false }}\"}, \"register\": \"s1\"}, {\"command\": \"x\", \"name\": \"task 5\"}]}]") ≡ verdict (accepted 3)
unfolding reading
thin_000390 = refl

thin_000391 : found (codes "{\"all\":{\"hosts\":[\"h1\"]}}") (codes "[{\"hosts\": \"all\", \"tasks\": [{\"command\": \"x\", \"register\": \"r3\"}, {\"command\": \"x\", \"register\": \"r2\"}, {\"ping\": null, \"register\": \"r2\", \"when\": \"'h' in inventory_hostname\", \"name\": \"task 2\"}, {\"set_fact\": {\"s2\": {}}}]}]") ≡ verdict (accepted 3)
unfolding reading
thin_000391 = refl

thin_000392 : found (codes "{\"all\":{\"hosts\":[\"h1\"]}}") (codes "[{\"hosts\": \"all\", \"tasks\": [{\"set_fact\": {\"s3\": {}}, \"register\": \"r1\"}, {\"command\": \"x\"}, {\"command\": {\"cmd\": \"{{ inventory_hostname }}\"}, \"register\": \"r3\", \"when\": \"r1.changed\", \"name\": \"task 2\"}, {\"set_fact\": {\"s1\": true}, \"register\": \"r1\", \"name\": \"task 3\"}, {\"ping\": null, \"when\": \"r1.changed\"}, {\"set_fact\": {\"s3\": [\"{{ r1.failed }}\", \"{{ r3.failed and r1.changed }}\"]}, \"register\": \"s1\"}]}]") ≡ verdict (accepted 3)
unfolding reading
thin_000392 = refl

thin_000393 : found (codes "{\"all\":{\"hosts\":[\"h1\"]}}") (codes "[{\"hosts\": \"all\", \"tasks\": [{\"command\": {\"cmd\": \"{{ inventory_hostname }}\"}}, {\"command\": \"x\", \"when\": \"inventory_hostname == 'h1'\", \"name\": \"task 1\"}, {\"debug\": {\"msg\": 5}, \"register\": \"s1\", \"when\": \"'h' in inventory_hostname\"}], \"name\": \"play\"}]") ≡ verdict (accepted 2)
unfolding reading
thin_000393 = refl

thin_000394 : found (codes "{\"all\":{\"hosts\":[\"h1\"]}}") (codes "[{\"hosts\": \"all\", \"tasks\": [{\"set_fact\": {\"s3\": \"\"}, \"register\": \"r1\"}, {\"ping\": null, \"when\": \"'web' in group_names\"}]}]") ≡ verdict (accepted 1)
unfolding reading
thin_000394 = refl

thin_000395 : found (codes "{\"all\":{\"hosts\":[\"h1\"]}}") (codes "[{\"hosts\": \"all\", \"tasks\": [{\"command\": {\"cmd\": \"{{ inventory_hostname }}\"}}, {\"command\": \"x\"}, {\"command\": \"x\"}]}]") ≡ verdict (accepted 3)
unfolding reading
thin_000395 = refl

thin_000396 : found (codes "{\"all\":{\"hosts\":[\"h1\"]}}") (codes "[{\"hosts\": \"all\", \"tasks\": [{\"debug\": {\"msg\": [{}]}, \"register\": \"r2\"}]}]") ≡ verdict (accepted 0)
unfolding reading
thin_000396 = refl

thin_000397 : found (codes "{\"all\":{\"hosts\":[\"h1\"]}}") (codes "[{\"hosts\": \"all\", \"tasks\": [{\"command\": \"x\"}], \"name\": \"play\"}]") ≡ verdict (accepted 1)
unfolding reading
thin_000397 = refl

thin_000398 : found (codes "{\"all\":{\"hosts\":[\"h1\"]}}") (codes "[{\"hosts\": \"all\", \"tasks\": [{\"command\": \"x\"}, {\"command\": \"x\", \"register\": \"r3\", \"name\": \"task 1\"}, {\"command\": \"x\", \"name\": \"task 2\"}, {\"set_fact\": {\"s1\": [\"{{ r3.failed }}\"]}, \"register\": \"r3\", \"name\": \"task 3\"}]}]") ≡ verdict (accepted 3)
unfolding reading
thin_000398 = refl

thin_000399 : found (codes "{\"all\":{\"hosts\":[\"h1\"]}}") (codes "[{\"hosts\": \"all\", \"tasks\": [{\"command\": {\"cmd\": \"x\", \"chdir\": \"/t\"}, \"when\": \"'web' in group_names\", \"name\": \"task 0\"}]}]") ≡ verdict (accepted 1)
unfolding reading
thin_000399 = refl

thin_000400 : found (codes "{\"all\":{\"hosts\":[\"h1\"]}}") (codes "[{\"hosts\": \"all\", \"tasks\": [{\"debug\": {\"msg\": []}}, {\"ping\": null, \"register\": \"s1\", \"name\": \"task 1\"}, {\"command\": \"x\", \"when\": false}], \"name\": \"play\"}]") ≡ verdict (accepted 2)
unfolding reading
thin_000400 = refl

thin_000401 : found (codes "{\"all\":{\"hosts\":[\"h1\"]}}") (codes "[{\"hosts\": \"all\", \"tasks\": [{\"command\": \"x\", \"register\": \"r2\"}, {\"command\": {\"cmd\": \"{{ inventory_hostname }}\"}, \"register\": \"r1\", \"name\": \"task 1\"}, {\"command\": {}, \"when\": \"'h' in inventory_hostname\"}]}]") ≡ verdict (refused (record { code = 7; line = 4; host = None }))
unfolding reading
thin_000401 = refl

thin_000402 : found (codes "{\"all\":{\"hosts\":[\"h1\"]}}") (codes "[{\"hosts\": \"all\", \"tasks\": [{\"command\": {\"cmd\": \"x\", \"chdir\": \"/t\"}, \"register\": \"s1\"}, {\"debug\": {\"msg\": []}}, {\"debug\": {\"msg\": [\"{{ 'h' in inventory_hostname }}\", \"{{ 1 == 1 }}\"]}}, {\"debug\": {\"msg\": [{\"f\": 7}, \"{{ 'h' in inventory_hostname }}\"]}}]}]") ≡ verdict (accepted 1)
unfolding reading
thin_000402 = refl

thin_000403 : found (codes "{\"all\":{\"hosts\":[\"h1\"]}}") (codes "[{\"hosts\": \"all\", \"tasks\": [{\"set_fact\": {\"s3\": [\"{{ 'web' in group_names }}\", []]}, \"register\": \"r2\"}, {\"debug\": {\"msg\": true}, \"register\": \"r1\"}]}]") ≡ verdict (accepted 0)
unfolding reading
thin_000403 = refl
