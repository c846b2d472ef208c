-- Cases of flow, computed from the bytes of their files.
use Rattle.std.specs.Prelude.{◌≡◌, refl, Some, codes}
use Rattle.pb_language.specs.Verdict.{accepted, refused}
use Rattle.pb_byte_rows.specs.Found.{verdict, found}
use Rattle.pb_byte_rows.proofs.Computing.{reading}

-- set_fact can't fail, so the fact is there in the rescue
flow_001 : found (codes "{\"all\": {\"hosts\": [\"h1\"]}}") (codes "[{\"hosts\": \"all\", \"tasks\": [{\"block\": [{\"set_fact\": {\"a\": 1}}, {\"command\": \"x\"}], \"rescue\": [{\"debug\": {\"msg\": \"{{ a }}\"}}]}, {\"debug\": {\"msg\": \"{{ a }}\"}}]}]") ≡ verdict (accepted 1)
unfolding reading
flow_001 = refl

-- no rescue: after the block only the ok way
flow_002 : found (codes "{\"all\": {\"hosts\": [\"h1\"]}}") (codes "[{\"hosts\": \"all\", \"tasks\": [{\"block\": [{\"command\": \"x\"}, {\"set_fact\": {\"a\": 1}}]}, {\"debug\": {\"msg\": \"{{ a }}\"}}]}]") ≡ verdict (accepted 1)
unfolding reading
flow_002 = refl

-- after a rescue the fact is only perhaps there
flow_003 : found (codes "{\"all\": {\"hosts\": [\"h1\"]}}") (codes "[{\"hosts\": \"all\", \"tasks\": [{\"block\": [{\"command\": \"x\"}, {\"set_fact\": {\"a\": 1}}], \"rescue\": [{\"ping\": null}]}, {\"debug\": {\"msg\": \"{{ a }}\"}}]}]") ≡ verdict (refused (record { code = 1; line = 6; host = Some (codes "h1") }))
unfolding reading
flow_003 = refl

-- Int in one way, Text in the other: Any
flow_005 : found (codes "{\"all\": {\"hosts\": [\"h1\"]}}") (codes "[{\"hosts\": \"all\", \"tasks\": [{\"block\": [{\"command\": \"x\"}, {\"set_fact\": {\"a\": 1}}], \"rescue\": [{\"ping\": null}, {\"set_fact\": {\"a\": \"x\"}}]}, {\"debug\": {\"msg\": \"{{ a }}\"}}]}]") ≡ verdict (refused (record { code = 4; line = 7; host = Some (codes "h1") }))
unfolding reading
flow_005 = refl

-- failed mode of always: the environment of the failing exit
flow_006 : found (codes "{\"all\": {\"hosts\": [\"h1\"]}}") (codes "[{\"hosts\": \"all\", \"tasks\": [{\"block\": [{\"command\": \"x\", \"register\": \"out\"}], \"always\": [{\"debug\": {\"msg\": \"{{ out.rc }}\"}}, {\"ping\": null}]}]}]") ≡ verdict (accepted 2)
unfolding reading
flow_006 = refl

-- always: msg where failed
flow_008 : found (codes "{\"all\": {\"hosts\": [\"h1\"]}}") (codes "[{\"hosts\": \"all\", \"tasks\": [{\"block\": [{\"command\": \"x\", \"register\": \"out\"}], \"always\": [{\"debug\": {\"msg\": \"{{ out.msg }}\"}, \"when\": \"out is failed\"}]}]}]") ≡ verdict (accepted 1)
unfolding reading
flow_008 = refl

-- always of a block inside the rescue: it is there
flow_010 : found (codes "{\"all\": {\"hosts\": [\"h1\"]}}") (codes "[{\"hosts\": \"all\", \"tasks\": [{\"block\": [{\"command\": \"x\"}], \"rescue\": [{\"block\": [{\"ping\": null}], \"always\": [{\"debug\": {\"msg\": \"{{ ansible_failed_result.msg }}\"}}]}]}]}]") ≡ verdict (accepted 2)
unfolding reading
flow_010 = refl

-- after the rescue it is gone
flow_011 : found (codes "{\"all\": {\"hosts\": [\"h1\"]}}") (codes "[{\"hosts\": \"all\", \"tasks\": [{\"block\": [{\"command\": \"x\"}], \"rescue\": [{\"ping\": null}]}, {\"debug\": {\"msg\": \"{{ ansible_failed_result.msg }}\"}}]}]") ≡ verdict (refused (record { code = 1; line = 5; host = Some (codes "h1") }))
unfolding reading
flow_011 = refl

-- in the block part it isn't there
flow_012 : found (codes "{\"all\": {\"hosts\": [\"h1\"]}}") (codes "[{\"hosts\": \"all\", \"tasks\": [{\"block\": [{\"debug\": {\"msg\": \"{{ ansible_failed_result.msg }}\"}}, {\"command\": \"x\"}], \"rescue\": [{\"ping\": null}]}]}]") ≡ verdict (refused (record { code = 1; line = 3; host = Some (codes "h1") }))
unfolding reading
flow_012 = refl

-- a loop in an unreached rescue doesn't
flow_015 : found (codes "{\"all\": {\"hosts\": [\"h1\"]}}") (codes "[{\"hosts\": \"all\", \"tasks\": [{\"block\": [{\"debug\": {\"msg\": \"x\"}}], \"rescue\": [{\"command\": \"x\", \"loop\": [1, 2]}]}]}]") ≡ verdict (accepted 0)
unfolding reading
flow_015 = refl

-- nothing is reached after fail
flow_016 : found (codes "{\"all\": {\"hosts\": [\"h1\"]}}") (codes "[{\"hosts\": \"all\", \"tasks\": [{\"fail\": null}, {\"debug\": {\"msg\": \"{{ zz }}\"}}]}]") ≡ verdict (accepted 0)
unfolding reading
flow_016 = refl

-- fail with ignore_errors goes on
flow_018 : found (codes "{\"all\": {\"hosts\": [\"h1\"]}}") (codes "[{\"hosts\": \"all\", \"tasks\": [{\"fail\": null, \"ignore_errors\": true}, {\"debug\": {\"msg\": \"{{ zz }}\"}}]}]") ≡ verdict (refused (record { code = 1; line = 3; host = Some (codes "h1") }))
unfolding reading
flow_018 = refl

-- fail with failed_when false goes on
flow_019 : found (codes "{\"all\": {\"hosts\": [\"h1\"]}}") (codes "[{\"hosts\": \"all\", \"tasks\": [{\"fail\": null, \"failed_when\": false}, {\"debug\": {\"msg\": \"{{ zz }}\"}}]}]") ≡ verdict (refused (record { code = 1; line = 3; host = Some (codes "h1") }))
unfolding reading
flow_019 = refl

-- fail with a loop goes on (an empty list)
flow_020 : found (codes "{\"all\": {\"hosts\": [\"h1\"]}}") (codes "[{\"hosts\": \"all\", \"tasks\": [{\"fail\": null, \"loop\": [1]}, {\"debug\": {\"msg\": \"{{ zz }}\"}}]}]") ≡ verdict (refused (record { code = 1; line = 3; host = Some (codes "h1") }))
unfolding reading
flow_020 = refl

-- failure in rescue goes outwards
flow_023 : found (codes "{\"all\": {\"hosts\": [\"h1\"]}}") (codes "[{\"hosts\": \"all\", \"tasks\": [{\"block\": [{\"fail\": null}], \"rescue\": [{\"fail\": null}]}, {\"debug\": {\"msg\": \"{{ zz }}\"}}]}]") ≡ verdict (accepted 0)
unfolding reading
flow_023 = refl

-- an empty always part is none
flow_025 : found (codes "{\"all\": {\"hosts\": [\"h1\"]}}") (codes "[{\"hosts\": \"all\", \"tasks\": [{\"block\": [{\"command\": \"x\"}], \"rescue\": [{\"ping\": null}], \"always\": []}, {\"debug\": {\"msg\": \"{{ zz }}\"}}]}]") ≡ verdict (refused (record { code = 1; line = 5; host = Some (codes "h1") }))
unfolding reading
flow_025 = refl

-- assert registers msg
flow_028 : found (codes "{\"all\": {\"hosts\": [\"h1\"]}}") (codes "[{\"hosts\": \"all\", \"tasks\": [{\"assert\": {\"that\": \"true\"}, \"register\": \"o\"}, {\"debug\": {\"msg\": \"{{ o.msg }}\"}}]}]") ≡ verdict (accepted 0)
unfolding reading
flow_028 = refl

-- skipped perhaps
flow_029 : found (codes "{\"all\": {\"hosts\": [\"h1\"]}}") (codes "[{\"hosts\": \"all\", \"tasks\": [{\"command\": \"x\", \"register\": \"out\", \"when\": \"true\"}, {\"debug\": {\"msg\": \"{{ out.rc }}\"}}]}]") ≡ verdict (refused (record { code = 3; line = 3; host = Some (codes "h1") }))
unfolding reading
flow_029 = refl

-- a block's when applies
flow_030 : found (codes "{\"all\": {\"hosts\": [\"h1\"]}}") (codes "[{\"hosts\": \"all\", \"tasks\": [{\"block\": [{\"command\": \"x\", \"register\": \"out\"}], \"when\": \"true\"}, {\"debug\": {\"msg\": \"{{ out.rc }}\"}}]}]") ≡ verdict (refused (record { code = 3; line = 4; host = Some (codes "h1") }))
unfolding reading
flow_030 = refl

-- is not changed teaches nothing
flow_033 : found (codes "{\"all\": {\"hosts\": [\"h1\"]}}") (codes "[{\"hosts\": \"all\", \"tasks\": [{\"command\": \"x\", \"register\": \"out\", \"when\": \"true\"}, {\"debug\": {\"msg\": \"{{ out.rc }}\"}, \"when\": \"out is not changed\"}]}]") ≡ verdict (refused (record { code = 3; line = 3; host = Some (codes "h1") }))
unfolding reading
flow_033 = refl

-- is succeeded keeps the skipped case
flow_034 : found (codes "{\"all\": {\"hosts\": [\"h1\"]}}") (codes "[{\"hosts\": \"all\", \"tasks\": [{\"command\": \"x\", \"register\": \"out\", \"when\": \"true\"}, {\"debug\": {\"msg\": \"{{ out.rc }}\"}, \"when\": \"out is succeeded\"}]}]") ≡ verdict (refused (record { code = 3; line = 3; host = Some (codes "h1") }))
unfolding reading
flow_034 = refl

-- failed_when: the ok shape may be failed
flow_038 : found (codes "{\"all\": {\"hosts\": [\"h1\"]}}") (codes "[{\"hosts\": \"all\", \"tasks\": [{\"command\": \"x\", \"register\": \"out\", \"failed_when\": false, \"ignore_errors\": true}, {\"debug\": {\"msg\": \"{{ out.msg }}\"}, \"when\": \"out is failed\"}]}]") ≡ verdict (refused (record { code = 3; line = 3; host = Some (codes "h1") }))
unfolding reading
flow_038 = refl

-- failed or changed: both have rc
flow_040 : found (codes "{\"all\": {\"hosts\": [\"h1\"]}}") (codes "[{\"hosts\": \"all\", \"tasks\": [{\"command\": \"x\", \"register\": \"out\", \"when\": \"true\", \"ignore_errors\": true}, {\"debug\": {\"msg\": \"{{ out.rc }}\"}, \"when\": \"out is failed or out is changed\"}]}]") ≡ verdict (accepted 1)
unfolding reading
flow_040 = refl

-- not (skipped)
flow_041 : found (codes "{\"all\": {\"hosts\": [\"h1\"]}}") (codes "[{\"hosts\": \"all\", \"tasks\": [{\"command\": \"x\", \"register\": \"out\", \"when\": \"true\"}, {\"debug\": {\"msg\": \"{{ out.rc }}\"}, \"when\": \"not (out is skipped)\"}]}]") ≡ verdict (accepted 1)
unfolding reading
flow_041 = refl

-- or: the right side learns from the false left
flow_042 : found (codes "{\"all\": {\"hosts\": [\"h1\"]}}") (codes "[{\"hosts\": \"all\", \"tasks\": [{\"command\": \"x\", \"register\": \"out\", \"when\": \"true\"}, {\"debug\": {\"msg\": \"{{ out is skipped or out.rc == 0 }}\"}}]}]") ≡ verdict (accepted 1)
unfolding reading
flow_042 = refl

-- an argument doesn't teach another
flow_044 : found (codes "{\"all\": {\"hosts\": [\"h1\"]}}") (codes "[{\"hosts\": \"all\", \"tasks\": [{\"command\": \"x\", \"register\": \"out\", \"when\": \"true\"}, {\"copy\": {\"content\": \"{{ [out is not skipped] | join }}\", \"dest\": \"{{ out.stdout }}\"}}]}]") ≡ verdict (refused (record { code = 3; line = 3; host = Some (codes "h1") }))
unfolding reading
flow_044 = refl

-- and not from right to left
flow_046 : found (codes "{\"all\": {\"hosts\": [\"h1\"]}}") (codes "[{\"hosts\": \"all\", \"tasks\": [{\"command\": \"x\", \"register\": \"out\", \"when\": \"true\"}, {\"debug\": {\"msg\": \"{{ 1 }}\"}, \"when\": [\"out.rc == 0\", \"out is not skipped\"]}]}]") ≡ verdict (refused (record { code = 3; line = 3; host = Some (codes "h1") }))
unfolding reading
flow_046 = refl

-- assert's list teaches from left to right
flow_047 : found (codes "{\"all\": {\"hosts\": [\"h1\"]}}") (codes "[{\"hosts\": \"all\", \"tasks\": [{\"command\": \"x\", \"register\": \"out\", \"when\": \"true\"}, {\"assert\": {\"that\": [\"out is not skipped\", \"out.rc == 0\"]}}]}]") ≡ verdict (accepted 1)
unfolding reading
flow_047 = refl

-- assert teaches nothing to later tasks
flow_048 : found (codes "{\"all\": {\"hosts\": [\"h1\"]}}") (codes "[{\"hosts\": \"all\", \"tasks\": [{\"command\": \"x\", \"register\": \"out\", \"when\": \"true\"}, {\"assert\": {\"that\": \"out is not skipped\"}}, {\"debug\": {\"msg\": \"{{ out.rc }}\"}}]}]") ≡ verdict (refused (record { code = 3; line = 4; host = Some (codes "h1") }))
unfolding reading
flow_048 = refl

-- changed_when teaches failed_when nothing
flow_051 : found (codes "{\"all\": {\"hosts\": [\"h1\"]}}") (codes "[{\"hosts\": \"all\", \"tasks\": [{\"command\": \"x\", \"changed_when\": [\"zz is defined\", \"zz == 1\"], \"failed_when\": \"zz == 1\"}]}]") ≡ verdict (refused (record { code = 1; line = 2; host = Some (codes "h1") }))
unfolding reading
flow_051 = refl

-- own result as admitted: msg perhaps
flow_052 : found (codes "{\"all\": {\"hosts\": [\"h1\"]}}") (codes "[{\"hosts\": \"all\", \"tasks\": [{\"command\": \"x\", \"register\": \"out\", \"failed_when\": \"out.msg == 'x'\"}]}]") ≡ verdict (refused (record { code = 3; line = 2; host = Some (codes "h1") }))
unfolding reading
flow_052 = refl

-- own result, msg where failed
flow_053 : found (codes "{\"all\": {\"hosts\": [\"h1\"]}}") (codes "[{\"hosts\": \"all\", \"tasks\": [{\"command\": \"x\", \"register\": \"out\", \"failed_when\": \"out is failed and out.msg == 'x'\"}]}]") ≡ verdict (accepted 1)
unfolding reading
flow_053 = refl

-- until sees rc in both shapes
flow_056 : found (codes "{\"all\": {\"hosts\": [\"h1\"]}}") (codes "[{\"hosts\": \"all\", \"tasks\": [{\"command\": \"x\", \"register\": \"out\", \"until\": \"out.rc == 0\"}]}]") ≡ verdict (accepted 4)
unfolding reading
flow_056 = refl

-- a loop with when: skipped items
flow_061 : found (codes "{\"all\": {\"hosts\": [\"h1\"]}}") (codes "[{\"hosts\": \"all\", \"tasks\": [{\"command\": \"x\", \"register\": \"out\", \"loop\": [1, 2], \"when\": \"item == 1\"}, {\"debug\": {\"msg\": \"{{ item.rc }}\"}, \"loop\": \"{{ out.results }}\"}]}]") ≡ verdict (refused (record { code = 3; line = 3; host = Some (codes "h1") }))
unfolding reading
flow_061 = refl

-- a looped result has no rc
flow_064 : found (codes "{\"all\": {\"hosts\": [\"h1\"]}}") (codes "[{\"hosts\": \"all\", \"tasks\": [{\"command\": \"x\", \"register\": \"out\", \"loop\": [1, 2]}, {\"debug\": {\"msg\": \"{{ out.rc }}\"}}]}]") ≡ verdict (refused (record { code = 3; line = 3; host = Some (codes "h1") }))
unfolding reading
flow_064 = refl

-- item in the loop itself
flow_066 : found (codes "{\"all\": {\"hosts\": [\"h1\"]}}") (codes "[{\"hosts\": \"all\", \"tasks\": [{\"ping\": null, \"loop\": \"{{ [item] }}\"}]}]") ≡ verdict (refused (record { code = 1; line = 2; host = Some (codes "h1") }))
unfolding reading
flow_066 = refl

-- item after the loop
flow_067 : found (codes "{\"all\": {\"hosts\": [\"h1\"]}}") (codes "[{\"hosts\": \"all\", \"tasks\": [{\"ping\": null, \"loop\": [1]}, {\"debug\": {\"msg\": \"{{ item }}\"}}]}]") ≡ verdict (refused (record { code = 1; line = 3; host = Some (codes "h1") }))
unfolding reading
flow_067 = refl

-- set_fact with when only perhaps sets
flow_069 : found (codes "{\"all\": {\"hosts\": [\"h1\"]}}") (codes "[{\"hosts\": \"all\", \"tasks\": [{\"set_fact\": {\"a\": 1}, \"when\": \"true\"}, {\"debug\": {\"msg\": \"{{ a }}\"}}]}]") ≡ verdict (refused (record { code = 1; line = 3; host = Some (codes "h1") }))
unfolding reading
flow_069 = refl

-- setup with failed_when may go on with the failure shape
flow_078 : found (codes "{\"all\": {\"hosts\": [\"h1\"]}}") (codes "[{\"hosts\": \"all\", \"tasks\": [{\"setup\": null, \"failed_when\": false}, {\"debug\": {\"msg\": \"{{ ansible_hostname }}\"}}]}]") ≡ verdict (refused (record { code = 1; line = 3; host = Some (codes "h1") }))
unfolding reading
flow_078 = refl

-- setup with changed_when is sure
flow_079 : found (codes "{\"all\": {\"hosts\": [\"h1\"]}}") (codes "[{\"hosts\": \"all\", \"tasks\": [{\"setup\": null, \"changed_when\": false}, {\"debug\": {\"msg\": \"{{ ansible_hostname }}\"}}]}]") ≡ verdict (accepted 1)
unfolding reading
flow_079 = refl

-- setup in a loop
flow_080 : found (codes "{\"all\": {\"hosts\": [\"h1\"]}}") (codes "[{\"hosts\": \"all\", \"tasks\": [{\"setup\": null, \"loop\": [1]}, {\"debug\": {\"msg\": \"{{ ansible_hostname }}\"}}]}]") ≡ verdict (refused (record { code = 1; line = 3; host = Some (codes "h1") }))
unfolding reading
flow_080 = refl

-- os_family where it is defined
flow_081 : found (codes "{\"all\": {\"hosts\": [\"h1\"]}}") (codes "[{\"hosts\": \"all\", \"tasks\": [{\"debug\": {\"msg\": \"{{ ansible_os_family }}\"}, \"when\": \"ansible_os_family is defined\"}], \"gather_facts\": true}]") ≡ verdict (accepted 1)
unfolding reading
flow_081 = refl

-- the second handler after the first, guarded
flow_085 : found (codes "{\"all\": {\"hosts\": [\"h1\"]}}") (codes "[{\"hosts\": \"all\", \"tasks\": [{\"ping\": null}], \"handlers\": [{\"command\": \"x\", \"register\": \"out\", \"name\": \"a\"}, {\"debug\": {\"msg\": \"{{ out.rc }}\"}, \"name\": \"b\", \"when\": \"out is defined\"}]}]") ≡ verdict (accepted 2)
unfolding reading
flow_085 = refl

-- with no section no flush
flow_088 : found (codes "{\"all\": {\"hosts\": [\"h1\"]}}") (codes "[{\"hosts\": \"all\", \"handlers\": [{\"debug\": {\"msg\": \"{{ zz }}\"}, \"name\": \"x\"}]}, {\"hosts\": \"all\", \"tasks\": [{\"ping\": null}, {\"ping\": null}, {\"ping\": null}]}]") ≡ verdict (accepted 3)
unfolding reading
flow_088 = refl

-- forced flush: from the failing exit inside a block
flow_089 : found (codes "{\"all\": {\"hosts\": [\"h1\"]}}") (codes "[{\"hosts\": \"all\", \"tasks\": [{\"block\": [{\"command\": \"x\"}, {\"command\": \"x\", \"register\": \"out\"}]}], \"handlers\": [{\"debug\": {\"msg\": \"{{ out.rc }}\"}, \"name\": \"r\"}], \"force_handlers\": true}]") ≡ verdict (refused (record { code = 1; line = 5; host = Some (codes "h1") }))
unfolding reading
flow_089 = refl

-- gathering that fails doesn't reach the forced flush
flow_091 : found (codes "{\"all\": {\"hosts\": [\"h1\"]}}") (codes "[{\"hosts\": \"all\", \"tasks\": [{\"debug\": {\"msg\": \"{{ 1 }}\"}}], \"handlers\": [{\"debug\": {\"msg\": \"{{ ansible_hostname }}\"}, \"name\": \"r\"}], \"gather_facts\": true, \"force_handlers\": true}]") ≡ verdict (accepted 1)
unfolding reading
flow_091 = refl

-- what a rescued play may have registered
flow_092 : found (codes "{\"all\": {\"hosts\": [\"h1\"]}}") (codes "[{\"hosts\": \"all\", \"tasks\": [{\"block\": [{\"command\": \"x\", \"register\": \"out\"}], \"rescue\": [{\"debug\": {\"msg\": 1}}]}]}, {\"hosts\": \"all\", \"tasks\": [{\"debug\": {\"msg\": \"{{ out.msg }}\"}}]}]") ≡ verdict (refused (record { code = 3; line = 6; host = Some (codes "h1") }))
unfolding reading
flow_092 = refl

-- a play that nobody leaves alive: the next isn't reached
flow_093 : found (codes "{\"all\": {\"hosts\": [\"h1\"]}}") (codes "[{\"hosts\": \"all\", \"tasks\": [{\"fail\": null}]}, {\"hosts\": \"all\", \"tasks\": [{\"debug\": {\"msg\": \"{{ zz }}\"}}]}]") ≡ verdict (accepted 0)
unfolding reading
flow_093 = refl

-- registered in an earlier play
flow_094 : found (codes "{\"all\": {\"hosts\": [\"h1\"]}}") (codes "[{\"hosts\": \"all\", \"tasks\": [{\"command\": \"x\", \"register\": \"out\"}]}, {\"hosts\": \"all\", \"tasks\": [{\"debug\": {\"msg\": \"{{ out.rc }}\"}}]}]") ≡ verdict (accepted 1)
unfolding reading
flow_094 = refl

-- read before it is registered
flow_096 : found (codes "{\"all\": {\"hosts\": [\"db1\", \"web1\"]}}") (codes "[{\"hosts\": \"all\", \"tasks\": [{\"debug\": {\"msg\": \"{{ hostvars['db1'].out.rc }}\"}, \"when\": \"'db1' in ansible_play_batch\"}, {\"command\": \"x\", \"register\": \"out\"}]}]") ≡ verdict (refused (record { code = 2; line = 2; host = Some (codes "db1") }))
unfolding reading
flow_096 = refl

-- read without the guard
flow_097 : found (codes "{\"all\": {\"hosts\": [\"db1\", \"web1\"]}}") (codes "[{\"hosts\": \"all\", \"tasks\": [{\"command\": \"x\", \"register\": \"out\"}, {\"debug\": {\"msg\": \"{{ hostvars['db1'].out.rc }}\"}}]}]") ≡ verdict (refused (record { code = 2; line = 3; host = Some (codes "db1") }))
unfolding reading
flow_097 = refl

-- guarded by item
flow_098 : found (codes "{\"all\": {\"hosts\": [\"db1\", \"web1\"]}}") (codes "[{\"hosts\": \"all\", \"tasks\": [{\"command\": \"x\", \"register\": \"out\"}, {\"debug\": {\"msg\": \"{{ hostvars[item].out.rc }}\"}, \"loop\": \"{{ groups.all }}\", \"when\": \"item in ansible_play_batch\"}]}]") ≡ verdict (accepted 2)
unfolding reading
flow_098 = refl

-- guarded by another term
flow_099 : found (codes "{\"all\": {\"hosts\": [\"db1\", \"web1\"]}}") (codes "[{\"hosts\": \"all\", \"tasks\": [{\"command\": \"x\", \"register\": \"out\"}, {\"debug\": {\"msg\": \"{{ hostvars[item].out.rc }}\"}, \"loop\": \"{{ groups.all }}\", \"when\": \"'db1' in ansible_play_batch\"}]}]") ≡ verdict (refused (record { code = 2; line = 3; host = Some (codes "db1") }))
unfolding reading
flow_099 = refl

-- inventory_hostname names the host
flow_101 : found (codes "{\"all\": {\"hosts\": [\"db1\", \"web1\"]}}") (codes "[{\"hosts\": \"all\", \"tasks\": [{\"command\": \"x\", \"register\": \"out\"}, {\"debug\": {\"msg\": \"{{ hostvars['db1'].out.rc }}\"}, \"when\": \"inventory_hostname in ansible_play_batch and 'db1' in ansible_play_batch\"}]}]") ≡ verdict (accepted 2)
unfolding reading
flow_101 = refl

-- inventory_hostname names db1 on db1 alone
flow_102 : found (codes "{\"all\": {\"hosts\": [\"db1\", \"web1\"]}}") (codes "[{\"hosts\": \"all\", \"tasks\": [{\"command\": \"x\", \"register\": \"out\"}, {\"debug\": {\"msg\": \"{{ hostvars['db1'].out.rc }}\"}, \"when\": \"inventory_hostname in ansible_play_batch\"}]}]") ≡ verdict (refused (record { code = 2; line = 3; host = Some (codes "web1") }))
unfolding reading
flow_102 = refl

-- of the name alone, not of the field
flow_106 : found (codes "{\"all\": {\"hosts\": [\"db1\", \"web1\"]}}") (codes "[{\"hosts\": \"all\", \"tasks\": [{\"command\": \"x\", \"register\": \"out\", \"when\": \"true\"}, {\"debug\": {\"msg\": \"{{ hostvars['db1'].out.rc }}\"}, \"when\": \"hostvars['db1'].out is defined\"}]}]") ≡ verdict (refused (record { code = 3; line = 3; host = Some (codes "db1") }))
unfolding reading
flow_106 = refl

-- and cases by a test
flow_107 : found (codes "{\"all\": {\"hosts\": [\"db1\", \"web1\"]}}") (codes "[{\"hosts\": \"all\", \"tasks\": [{\"command\": \"x\", \"register\": \"out\", \"when\": \"true\"}, {\"debug\": {\"msg\": \"{{ hostvars['db1'].out.rc }}\"}, \"when\": [\"hostvars['db1'].out is defined\", \"hostvars['db1'].out is not skipped\"]}]}]") ≡ verdict (accepted 2)
unfolding reading
flow_107 = refl

-- the table joins all writes
flow_108 : found (codes "{\"all\": {\"hosts\": [\"db1\", \"web1\"]}}") (codes "[{\"hosts\": \"all\", \"tasks\": [{\"command\": \"x\", \"register\": \"out\"}, {\"command\": \"x\", \"register\": \"out\", \"when\": \"true\"}, {\"debug\": {\"msg\": \"{{ hostvars['db1'].out.rc }}\"}, \"when\": \"'db1' in ansible_play_batch\"}]}]") ≡ verdict (refused (record { code = 3; line = 4; host = Some (codes "db1") }))
unfolding reading
flow_108 = refl

-- inventory names need no guard
flow_109 : found (codes "{\"all\": {\"hosts\": [\"db1\", \"web1\"], \"vars\": {\"x\": 1}}}") (codes "[{\"hosts\": \"all\", \"tasks\": [{\"debug\": {\"msg\": \"{{ hostvars['web1'].x }}\"}}]}]") ≡ verdict (accepted 0)
unfolding reading
flow_109 = refl

-- vars aren't seen by hostvars
flow_112 : found (codes "{\"all\": {\"hosts\": [\"db1\", \"web1\"]}}") (codes "[{\"hosts\": \"all\", \"tasks\": [{\"ping\": null}, {\"debug\": {\"msg\": \"{{ hostvars['db1'].v }}\"}, \"when\": \"'db1' in ansible_play_batch\"}], \"vars\": {\"v\": 1}}]") ≡ verdict (refused (record { code = 2; line = 3; host = Some (codes "db1") }))
unfolding reading
flow_112 = refl

-- one's own name by hostvars needs a guard
flow_116 : found (codes "{\"all\": {\"hosts\": [\"h1\"]}}") (codes "[{\"hosts\": \"all\", \"tasks\": [{\"set_fact\": {\"x\": 1}}, {\"debug\": {\"msg\": \"{{ hostvars['h1'].x }}\"}}]}]") ≡ verdict (refused (record { code = 2; line = 3; host = Some (codes "h1") }))
unfolding reading
flow_116 = refl

-- hostvars before default: Never or Int
flow_118 : found (codes "{\"all\": {\"hosts\": [\"h1\"]}}") (codes "[{\"hosts\": \"all\", \"tasks\": [{\"debug\": {\"msg\": \"{{ hostvars['h1'].x | default(1) < 2 }}\"}}]}]") ≡ verdict (accepted 0)
unfolding reading
flow_118 = refl

-- hostvars before default: Text from the table joined with Int
flow_119 : found (codes "{\"all\": {\"hosts\": [\"h1\"]}}") (codes "[{\"hosts\": \"all\", \"tasks\": [{\"debug\": {\"msg\": \"{{ hostvars['h1'].x | default(1) < 2 }}\"}}, {\"set_fact\": {\"x\": \"t\"}}]}]") ≡ verdict (refused (record { code = 4; line = 2; host = Some (codes "h1") }))
unfolding reading
flow_119 = refl

-- a vars value is judged where it is used
flow_120 : found (codes "{\"all\": {\"hosts\": [\"h1\"]}}") (codes "[{\"hosts\": \"all\", \"tasks\": [{\"debug\": {\"msg\": \"{{ v }}\"}, \"vars\": {\"v\": \"{{ zz }}\"}}]}]") ≡ verdict (refused (record { code = 1; line = 2; host = Some (codes "h1") }))
unfolding reading
flow_120 = refl

-- also under is defined
flow_121 : found (codes "{\"all\": {\"hosts\": [\"h1\"]}}") (codes "[{\"hosts\": \"all\", \"tasks\": [{\"debug\": {\"msg\": \"{{ v is defined }}\"}, \"vars\": {\"v\": \"{{ zz }}\"}}]}]") ≡ verdict (refused (record { code = 1; line = 2; host = Some (codes "h1") }))
unfolding reading
flow_121 = refl

-- also before default
flow_122 : found (codes "{\"all\": {\"hosts\": [\"h1\"]}}") (codes "[{\"hosts\": \"all\", \"tasks\": [{\"debug\": {\"msg\": \"{{ v | default(1) }}\"}, \"vars\": {\"v\": \"{{ zz }}\"}}]}]") ≡ verdict (refused (record { code = 1; line = 2; host = Some (codes "h1") }))
unfolding reading
flow_122 = refl

-- whole, also where one field is read
flow_123 : found (codes "{\"all\": {\"hosts\": [\"h1\"]}}") (codes "[{\"hosts\": \"all\", \"tasks\": [{\"debug\": {\"msg\": \"{{ v.a }}\"}, \"vars\": {\"v\": {\"a\": 1, \"b\": \"{{ zz }}\"}}}]}]") ≡ verdict (refused (record { code = 1; line = 2; host = Some (codes "h1") }))
unfolding reading
flow_123 = refl

-- with what earlier tests taught
flow_124 : found (codes "{\"all\": {\"hosts\": [\"h1\"]}}") (codes "[{\"hosts\": \"all\", \"tasks\": [{\"debug\": {\"msg\": \"{{ v }}\"}, \"when\": \"zz is defined\", \"vars\": {\"v\": \"{{ zz }}\"}}]}]") ≡ verdict (accepted 0)
unfolding reading
flow_124 = refl

-- what nobody reads is asked nothing
flow_125 : found (codes "{\"all\": {\"hosts\": [\"h1\"]}}") (codes "[{\"hosts\": \"all\", \"tasks\": [{\"debug\": {\"msg\": \"{{ 1 }}\"}, \"vars\": {\"v\": \"{{ zz }}\"}}]}]") ≡ verdict (accepted 0)
unfolding reading
flow_125 = refl

-- vars of the task hide those of the block and the play
flow_130 : found (codes "{\"all\": {\"hosts\": [\"h1\"]}}") (codes "[{\"hosts\": \"all\", \"tasks\": [{\"block\": [{\"debug\": {\"msg\": \"{{ v < 1 }}\"}, \"vars\": {\"v\": 1}}], \"vars\": {\"v\": \"b\"}}], \"vars\": {\"v\": \"a\"}}]") ≡ verdict (accepted 0)
unfolding reading
flow_130 = refl

-- the block's hide the play's
flow_131 : found (codes "{\"all\": {\"hosts\": [\"h1\"]}}") (codes "[{\"hosts\": \"all\", \"tasks\": [{\"block\": [{\"debug\": {\"msg\": \"{{ v < 1 }}\"}}], \"vars\": {\"v\": \"b\"}}], \"vars\": {\"v\": 1}}]") ≡ verdict (refused (record { code = 4; line = 3; host = Some (codes "h1") }))
unfolding reading
flow_131 = refl
