-- Cases of rules, computed from the bytes of their files.
use Rattle.std.specs.Prelude.{◌≡◌, refl, Some, None, codes}
use Rattle.pb_language.specs.Verdict.{accepted, refused}
use Rattle.pb_byte_rows.specs.Found.{verdict, found}
use Rattle.pb_byte_rows.proofs.Computing.{reading}

-- V07 missing parameter
rules_002 : found (codes "{\"all\": {\"hosts\": [\"h1\"]}}") (codes "[{\"hosts\": \"all\", \"tasks\": [{\"copy\": {\"src\": \"x\"}}]}]") ≡ verdict (refused (record { code = 7; line = 2; host = None }))
unfolding reading
rules_002 = refl

-- V07 command with an empty object
rules_003 : found (codes "{\"all\": {\"hosts\": [\"h1\"]}}") (codes "[{\"hosts\": \"all\", \"tasks\": [{\"command\": {}}]}]") ≡ verdict (refused (record { code = 7; line = 2; host = None }))
unfolding reading
rules_003 = refl

-- V07 debug with msg and verbosity
rules_006 : found (codes "{\"all\": {\"hosts\": [\"h1\"]}}") (codes "[{\"hosts\": \"all\", \"tasks\": [{\"debug\": {\"msg\": \"x\", \"verbosity\": 1}}]}]") ≡ verdict (refused (record { code = 7; line = 2; host = None }))
unfolding reading
rules_006 = refl

-- V07 set_fact null
rules_008 : found (codes "{\"all\": {\"hosts\": [\"h1\"]}}") (codes "[{\"hosts\": \"all\", \"tasks\": [{\"set_fact\": null}]}]") ≡ verdict (refused (record { code = 7; line = 2; host = None }))
unfolding reading
rules_008 = refl

-- V07 set_fact of no variable name
rules_010 : found (codes "{\"all\": {\"hosts\": [\"h1\"]}}") (codes "[{\"hosts\": \"all\", \"tasks\": [{\"set_fact\": {\"a-b\": 1}}]}]") ≡ verdict (refused (record { code = 7; line = 2; host = None }))
unfolding reading
rules_010 = refl

-- V07 assert that a list with a number
rules_014 : found (codes "{\"all\": {\"hosts\": [\"h1\"]}}") (codes "[{\"hosts\": \"all\", \"tasks\": [{\"assert\": {\"that\": [\"true\", 1]}}]}]") ≡ verdict (refused (record { code = 7; line = 2; host = None }))
unfolding reading
rules_014 = refl

-- assert that false
rules_017 : found (codes "{\"all\": {\"hosts\": [\"h1\"]}}") (codes "[{\"hosts\": \"all\", \"tasks\": [{\"assert\": {\"that\": false}}]}]") ≡ verdict (accepted 0)
unfolding reading
rules_017 = refl

-- assert that null
rules_018 : found (codes "{\"all\": {\"hosts\": [\"h1\"]}}") (codes "[{\"hosts\": \"all\", \"tasks\": [{\"assert\": {\"that\": null}}]}]") ≡ verdict (refused (record { code = 7; line = 2; host = None }))
unfolding reading
rules_018 = refl

-- assert with success_msg
rules_019 : found (codes "{\"all\": {\"hosts\": [\"h1\"]}}") (codes "[{\"hosts\": \"all\", \"tasks\": [{\"assert\": {\"that\": true, \"success_msg\": \"x\"}}]}]") ≡ verdict (refused (record { code = 7; line = 2; host = None }))
unfolding reading
rules_019 = refl

-- V04 fail_msg a number
rules_020 : found (codes "{\"all\": {\"hosts\": [\"h1\"]}}") (codes "[{\"hosts\": \"all\", \"tasks\": [{\"assert\": {\"that\": true, \"fail_msg\": 1}}]}]") ≡ verdict (refused (record { code = 4; line = 2; host = Some (codes "h1") }))
unfolding reading
rules_020 = refl

-- V07 fail with an unknown parameter
rules_022 : found (codes "{\"all\": {\"hosts\": [\"h1\"]}}") (codes "[{\"hosts\": \"all\", \"tasks\": [{\"fail\": {\"message\": \"x\"}}]}]") ≡ verdict (refused (record { code = 7; line = 2; host = None }))
unfolding reading
rules_022 = refl

-- V04 an int for a text
rules_023 : found (codes "{\"all\": {\"hosts\": [\"h1\"]}}") (codes "[{\"hosts\": \"all\", \"tasks\": [{\"copy\": {\"dest\": \"x\", \"mode\": 644}}]}]") ≡ verdict (refused (record { code = 4; line = 2; host = Some (codes "h1") }))
unfolding reading
rules_023 = refl

-- V01 by the order of names
rules_026 : found (codes "{\"all\": {\"hosts\": [\"h1\"]}}") (codes "[{\"hosts\": \"all\", \"tasks\": [{\"copy\": {\"dest\": 1, \"content\": \"{{ zz }}\"}}]}]") ≡ verdict (refused (record { code = 1; line = 2; host = Some (codes "h1") }))
unfolding reading
rules_026 = refl

-- register inventory_hostname
rules_029 : found (codes "{\"all\": {\"hosts\": [\"h1\"]}}") (codes "[{\"hosts\": \"all\", \"tasks\": [{\"ping\": null, \"register\": \"inventory_hostname\"}]}]") ≡ verdict (refused (record { code = 8; line = 2; host = None }))
unfolding reading
rules_029 = refl

-- vars inventory_hostname of a task
rules_031 : found (codes "{\"all\": {\"hosts\": [\"h1\"]}}") (codes "[{\"hosts\": \"all\", \"tasks\": [{\"ping\": null, \"vars\": {\"inventory_hostname\": 1}}]}]") ≡ verdict (refused (record { code = 8; line = 2; host = None }))
unfolding reading
rules_031 = refl

-- vars groups of a task
rules_034 : found (codes "{\"all\": {\"hosts\": [\"h1\"]}}") (codes "[{\"hosts\": \"all\", \"tasks\": [{\"ping\": null, \"vars\": {\"groups\": 1}}]}]") ≡ verdict (refused (record { code = 8; line = 2; host = None }))
unfolding reading
rules_034 = refl

-- register group_names
rules_035 : found (codes "{\"all\": {\"hosts\": [\"h1\"]}}") (codes "[{\"hosts\": \"all\", \"tasks\": [{\"ping\": null, \"register\": \"group_names\"}]}]") ≡ verdict (refused (record { code = 8; line = 2; host = None }))
unfolding reading
rules_035 = refl

-- register hostvars
rules_038 : found (codes "{\"all\": {\"hosts\": [\"h1\"]}}") (codes "[{\"hosts\": \"all\", \"tasks\": [{\"ping\": null, \"register\": \"hostvars\"}]}]") ≡ verdict (refused (record { code = 8; line = 2; host = None }))
unfolding reading
rules_038 = refl

-- set_fact hostvars
rules_039 : found (codes "{\"all\": {\"hosts\": [\"h1\"]}}") (codes "[{\"hosts\": \"all\", \"tasks\": [{\"set_fact\": {\"hostvars\": 1}}]}]") ≡ verdict (refused (record { code = 8; line = 2; host = None }))
unfolding reading
rules_039 = refl

-- register ansible_play_batch
rules_041 : found (codes "{\"all\": {\"hosts\": [\"h1\"]}}") (codes "[{\"hosts\": \"all\", \"tasks\": [{\"ping\": null, \"register\": \"ansible_play_batch\"}]}]") ≡ verdict (refused (record { code = 8; line = 2; host = None }))
unfolding reading
rules_041 = refl

-- set_fact ansible_play_batch
rules_042 : found (codes "{\"all\": {\"hosts\": [\"h1\"]}}") (codes "[{\"hosts\": \"all\", \"tasks\": [{\"set_fact\": {\"ansible_play_batch\": 1}}]}]") ≡ verdict (refused (record { code = 8; line = 2; host = None }))
unfolding reading
rules_042 = refl

-- vars ansible_play_batch of a task
rules_043 : found (codes "{\"all\": {\"hosts\": [\"h1\"]}}") (codes "[{\"hosts\": \"all\", \"tasks\": [{\"ping\": null, \"vars\": {\"ansible_play_batch\": 1}}]}]") ≡ verdict (refused (record { code = 8; line = 2; host = None }))
unfolding reading
rules_043 = refl

-- set_fact item
rules_045 : found (codes "{\"all\": {\"hosts\": [\"h1\"]}}") (codes "[{\"hosts\": \"all\", \"tasks\": [{\"set_fact\": {\"item\": 1}}]}]") ≡ verdict (refused (record { code = 8; line = 2; host = None }))
unfolding reading
rules_045 = refl

-- register ansible_failed_result
rules_047 : found (codes "{\"all\": {\"hosts\": [\"h1\"]}}") (codes "[{\"hosts\": \"all\", \"tasks\": [{\"ping\": null, \"register\": \"ansible_failed_result\"}]}]") ≡ verdict (refused (record { code = 8; line = 2; host = None }))
unfolding reading
rules_047 = refl

-- set_fact ansible_failed_result
rules_048 : found (codes "{\"all\": {\"hosts\": [\"h1\"]}}") (codes "[{\"hosts\": \"all\", \"tasks\": [{\"set_fact\": {\"ansible_failed_result\": 1}}]}]") ≡ verdict (refused (record { code = 8; line = 2; host = None }))
unfolding reading
rules_048 = refl

-- register ansible_facts
rules_050 : found (codes "{\"all\": {\"hosts\": [\"h1\"]}}") (codes "[{\"hosts\": \"all\", \"tasks\": [{\"ping\": null, \"register\": \"ansible_facts\"}]}]") ≡ verdict (refused (record { code = 8; line = 2; host = None }))
unfolding reading
rules_050 = refl

-- set_fact ansible_facts
rules_051 : found (codes "{\"all\": {\"hosts\": [\"h1\"]}}") (codes "[{\"hosts\": \"all\", \"tasks\": [{\"set_fact\": {\"ansible_facts\": 1}}]}]") ≡ verdict (refused (record { code = 8; line = 2; host = None }))
unfolding reading
rules_051 = refl

-- vars ansible_facts of a task
rules_052 : found (codes "{\"all\": {\"hosts\": [\"h1\"]}}") (codes "[{\"hosts\": \"all\", \"tasks\": [{\"ping\": null, \"vars\": {\"ansible_facts\": 1}}]}]") ≡ verdict (refused (record { code = 8; line = 2; host = None }))
unfolding reading
rules_052 = refl

-- set_fact ansible_hostname
rules_054 : found (codes "{\"all\": {\"hosts\": [\"h1\"]}}") (codes "[{\"hosts\": \"all\", \"tasks\": [{\"set_fact\": {\"ansible_hostname\": 1}}]}]") ≡ verdict (refused (record { code = 8; line = 2; host = None }))
unfolding reading
rules_054 = refl

-- set_fact ansible_memtotal_mb
rules_057 : found (codes "{\"all\": {\"hosts\": [\"h1\"]}}") (codes "[{\"hosts\": \"all\", \"tasks\": [{\"set_fact\": {\"ansible_memtotal_mb\": 1}}]}]") ≡ verdict (refused (record { code = 8; line = 2; host = None }))
unfolding reading
rules_057 = refl

-- vars ansible_memtotal_mb of a task
rules_058 : found (codes "{\"all\": {\"hosts\": [\"h1\"]}}") (codes "[{\"hosts\": \"all\", \"tasks\": [{\"ping\": null, \"vars\": {\"ansible_memtotal_mb\": 1}}]}]") ≡ verdict (refused (record { code = 8; line = 2; host = None }))
unfolding reading
rules_058 = refl

-- register and
rules_059 : found (codes "{\"all\": {\"hosts\": [\"h1\"]}}") (codes "[{\"hosts\": \"all\", \"tasks\": [{\"ping\": null, \"register\": \"and\"}]}]") ≡ verdict (refused (record { code = 8; line = 2; host = None }))
unfolding reading
rules_059 = refl

-- vars and of a task
rules_061 : found (codes "{\"all\": {\"hosts\": [\"h1\"]}}") (codes "[{\"hosts\": \"all\", \"tasks\": [{\"ping\": null, \"vars\": {\"and\": 1}}]}]") ≡ verdict (refused (record { code = 8; line = 2; host = None }))
unfolding reading
rules_061 = refl

-- register none
rules_062 : found (codes "{\"all\": {\"hosts\": [\"h1\"]}}") (codes "[{\"hosts\": \"all\", \"tasks\": [{\"ping\": null, \"register\": \"none\"}]}]") ≡ verdict (refused (record { code = 8; line = 2; host = None }))
unfolding reading
rules_062 = refl

-- set_fact none
rules_063 : found (codes "{\"all\": {\"hosts\": [\"h1\"]}}") (codes "[{\"hosts\": \"all\", \"tasks\": [{\"set_fact\": {\"none\": 1}}]}]") ≡ verdict (refused (record { code = 8; line = 2; host = None }))
unfolding reading
rules_063 = refl

-- vars none of a task
rules_064 : found (codes "{\"all\": {\"hosts\": [\"h1\"]}}") (codes "[{\"hosts\": \"all\", \"tasks\": [{\"ping\": null, \"vars\": {\"none\": 1}}]}]") ≡ verdict (refused (record { code = 8; line = 2; host = None }))
unfolding reading
rules_064 = refl

-- register None
rules_065 : found (codes "{\"all\": {\"hosts\": [\"h1\"]}}") (codes "[{\"hosts\": \"all\", \"tasks\": [{\"ping\": null, \"register\": \"None\"}]}]") ≡ verdict (refused (record { code = 8; line = 2; host = None }))
unfolding reading
rules_065 = refl

-- set_fact None
rules_066 : found (codes "{\"all\": {\"hosts\": [\"h1\"]}}") (codes "[{\"hosts\": \"all\", \"tasks\": [{\"set_fact\": {\"None\": 1}}]}]") ≡ verdict (refused (record { code = 8; line = 2; host = None }))
unfolding reading
rules_066 = refl

-- vars if of a task
rules_070 : found (codes "{\"all\": {\"hosts\": [\"h1\"]}}") (codes "[{\"hosts\": \"all\", \"tasks\": [{\"ping\": null, \"vars\": {\"if\": 1}}]}]") ≡ verdict (refused (record { code = 8; line = 2; host = None }))
unfolding reading
rules_070 = refl

-- register else
rules_071 : found (codes "{\"all\": {\"hosts\": [\"h1\"]}}") (codes "[{\"hosts\": \"all\", \"tasks\": [{\"ping\": null, \"register\": \"else\"}]}]") ≡ verdict (refused (record { code = 8; line = 2; host = None }))
unfolding reading
rules_071 = refl

-- vars else of a task
rules_073 : found (codes "{\"all\": {\"hosts\": [\"h1\"]}}") (codes "[{\"hosts\": \"all\", \"tasks\": [{\"ping\": null, \"vars\": {\"else\": 1}}]}]") ≡ verdict (refused (record { code = 8; line = 2; host = None }))
unfolding reading
rules_073 = refl

-- register is
rules_074 : found (codes "{\"all\": {\"hosts\": [\"h1\"]}}") (codes "[{\"hosts\": \"all\", \"tasks\": [{\"ping\": null, \"register\": \"is\"}]}]") ≡ verdict (refused (record { code = 8; line = 2; host = None }))
unfolding reading
rules_074 = refl

-- register true
rules_077 : found (codes "{\"all\": {\"hosts\": [\"h1\"]}}") (codes "[{\"hosts\": \"all\", \"tasks\": [{\"ping\": null, \"register\": \"true\"}]}]") ≡ verdict (refused (record { code = 8; line = 2; host = None }))
unfolding reading
rules_077 = refl

-- set_fact true
rules_078 : found (codes "{\"all\": {\"hosts\": [\"h1\"]}}") (codes "[{\"hosts\": \"all\", \"tasks\": [{\"set_fact\": {\"true\": 1}}]}]") ≡ verdict (refused (record { code = 8; line = 2; host = None }))
unfolding reading
rules_078 = refl

-- vars true of a task
rules_079 : found (codes "{\"all\": {\"hosts\": [\"h1\"]}}") (codes "[{\"hosts\": \"all\", \"tasks\": [{\"ping\": null, \"vars\": {\"true\": 1}}]}]") ≡ verdict (refused (record { code = 8; line = 2; host = None }))
unfolding reading
rules_079 = refl

-- register False
rules_080 : found (codes "{\"all\": {\"hosts\": [\"h1\"]}}") (codes "[{\"hosts\": \"all\", \"tasks\": [{\"ping\": null, \"register\": \"False\"}]}]") ≡ verdict (refused (record { code = 8; line = 2; host = None }))
unfolding reading
rules_080 = refl

-- set_fact False
rules_081 : found (codes "{\"all\": {\"hosts\": [\"h1\"]}}") (codes "[{\"hosts\": \"all\", \"tasks\": [{\"set_fact\": {\"False\": 1}}]}]") ≡ verdict (refused (record { code = 8; line = 2; host = None }))
unfolding reading
rules_081 = refl

-- vars False of a task
rules_082 : found (codes "{\"all\": {\"hosts\": [\"h1\"]}}") (codes "[{\"hosts\": \"all\", \"tasks\": [{\"ping\": null, \"vars\": {\"False\": 1}}]}]") ≡ verdict (refused (record { code = 8; line = 2; host = None }))
unfolding reading
rules_082 = refl

-- register default
rules_083 : found (codes "{\"all\": {\"hosts\": [\"h1\"]}}") (codes "[{\"hosts\": \"all\", \"tasks\": [{\"ping\": null, \"register\": \"default\"}]}]") ≡ verdict (accepted 1)
unfolding reading
rules_083 = refl

-- set_fact default
rules_084 : found (codes "{\"all\": {\"hosts\": [\"h1\"]}}") (codes "[{\"hosts\": \"all\", \"tasks\": [{\"set_fact\": {\"default\": 1}}]}]") ≡ verdict (accepted 0)
unfolding reading
rules_084 = refl

-- vars defined of a task
rules_088 : found (codes "{\"all\": {\"hosts\": [\"h1\"]}}") (codes "[{\"hosts\": \"all\", \"tasks\": [{\"ping\": null, \"vars\": {\"defined\": 1}}]}]") ≡ verdict (accepted 1)
unfolding reading
rules_088 = refl

-- register length
rules_089 : found (codes "{\"all\": {\"hosts\": [\"h1\"]}}") (codes "[{\"hosts\": \"all\", \"tasks\": [{\"ping\": null, \"register\": \"length\"}]}]") ≡ verdict (accepted 1)
unfolding reading
rules_089 = refl

-- set_fact length
rules_090 : found (codes "{\"all\": {\"hosts\": [\"h1\"]}}") (codes "[{\"hosts\": \"all\", \"tasks\": [{\"set_fact\": {\"length\": 1}}]}]") ≡ verdict (accepted 0)
unfolding reading
rules_090 = refl

-- set_fact ansible_fqdn
rules_093 : found (codes "{\"all\": {\"hosts\": [\"h1\"]}}") (codes "[{\"hosts\": \"all\", \"tasks\": [{\"set_fact\": {\"ansible_fqdn\": 1}}]}]") ≡ verdict (accepted 0)
unfolding reading
rules_093 = refl

-- register play_hosts
rules_095 : found (codes "{\"all\": {\"hosts\": [\"h1\"]}}") (codes "[{\"hosts\": \"all\", \"tasks\": [{\"ping\": null, \"register\": \"play_hosts\"}]}]") ≡ verdict (accepted 1)
unfolding reading
rules_095 = refl

-- set_fact play_hosts
rules_096 : found (codes "{\"all\": {\"hosts\": [\"h1\"]}}") (codes "[{\"hosts\": \"all\", \"tasks\": [{\"set_fact\": {\"play_hosts\": 1}}]}]") ≡ verdict (accepted 0)
unfolding reading
rules_096 = refl

-- vars vars of a task
rules_100 : found (codes "{\"all\": {\"hosts\": [\"h1\"]}}") (codes "[{\"hosts\": \"all\", \"tasks\": [{\"ping\": null, \"vars\": {\"vars\": 1}}]}]") ≡ verdict (accepted 1)
unfolding reading
rules_100 = refl

-- V08 vars of a block
rules_101 : found (codes "{\"all\": {\"hosts\": [\"h1\"]}}") (codes "[{\"hosts\": \"all\", \"tasks\": [{\"ping\": null}, {\"block\": [{\"ping\": null}], \"vars\": {\"item\": 1}}]}]") ≡ verdict (refused (record { code = 8; line = 3; host = None }))
unfolding reading
rules_101 = refl

-- V08 vars of a handler
rules_102 : found (codes "{\"all\": {\"hosts\": [\"h1\"]}}") (codes "[{\"hosts\": \"all\", \"tasks\": [{\"ping\": null}], \"handlers\": [{\"ping\": null, \"vars\": {\"item\": 1}}]}]") ≡ verdict (refused (record { code = 8; line = 3; host = None }))
unfolding reading
rules_102 = refl

-- V08 register and vars of the same task
rules_103 : found (codes "{\"all\": {\"hosts\": [\"h1\"]}}") (codes "[{\"hosts\": \"all\", \"tasks\": [{\"ping\": null, \"register\": \"x\", \"vars\": {\"x\": 1}}]}]") ≡ verdict (refused (record { code = 8; line = 2; host = None }))
unfolding reading
rules_103 = refl

-- V08 register, vars in an earlier task
rules_105 : found (codes "{\"all\": {\"hosts\": [\"h1\"]}}") (codes "[{\"hosts\": \"all\", \"tasks\": [{\"ping\": null, \"vars\": {\"x\": 1}}, {\"ping\": null, \"register\": \"x\"}]}]") ≡ verdict (refused (record { code = 8; line = 3; host = None }))
unfolding reading
rules_105 = refl

-- V08 register, vars in another play
rules_106 : found (codes "{\"all\": {\"hosts\": [\"h1\"]}}") (codes "[{\"hosts\": \"all\", \"tasks\": [{\"ping\": null, \"register\": \"x\"}]}, {\"hosts\": \"all\", \"tasks\": [{\"ping\": null}], \"vars\": {\"x\": 1}}]") ≡ verdict (refused (record { code = 8; line = 2; host = None }))
unfolding reading
rules_106 = refl

-- V10 a cycle
rules_108 : found (codes "{\"all\": {\"hosts\": [\"h1\"]}}") (codes "[{\"hosts\": \"all\", \"tasks\": [{\"ping\": null}], \"vars\": {\"a\": \"{{ b }}\", \"b\": \"{{ a }}\"}}]") ≡ verdict (refused (record { code = 10; line = 2; host = None }))
unfolding reading
rules_108 = refl

-- V10 no task: nothing is asked
rules_110 : found (codes "{\"all\": {\"hosts\": [\"h1\"]}}") (codes "[{\"hosts\": \"all\", \"tasks\": [], \"vars\": {\"a\": \"{{ a }}\"}}]") ≡ verdict (accepted 0)
unfolding reading
rules_110 = refl

-- V10 asked at the gathering
rules_111 : found (codes "{\"all\": {\"hosts\": [\"h1\"]}}") (codes "[{\"hosts\": \"all\", \"tasks\": [], \"vars\": {\"a\": \"{{ a }}\"}, \"gather_facts\": true}]") ≡ verdict (refused (record { code = 10; line = 2; host = None }))
unfolding reading
rules_111 = refl

-- V10 asked at meta
rules_112 : found (codes "{\"all\": {\"hosts\": [\"h1\"]}}") (codes "[{\"hosts\": \"all\", \"tasks\": [{\"meta\": \"flush_handlers\"}], \"vars\": {\"a\": \"{{ a }}\"}}]") ≡ verdict (refused (record { code = 10; line = 2; host = None }))
unfolding reading
rules_112 = refl

-- V10 task vars shadow: a cycle
rules_114 : found (codes "{\"all\": {\"hosts\": [\"h1\"]}}") (codes "[{\"hosts\": \"all\", \"tasks\": [{\"ping\": null}, {\"ping\": null, \"vars\": {\"a\": \"{{ a }}\"}}], \"vars\": {\"a\": 1}}]") ≡ verdict (refused (record { code = 10; line = 3; host = None }))
unfolding reading
rules_114 = refl

-- V10 in a record
rules_118 : found (codes "{\"all\": {\"hosts\": [\"h1\"]}}") (codes "[{\"hosts\": \"all\", \"tasks\": [{\"ping\": null}], \"vars\": {\"a\": {\"k\": [\"{{ a.k }}\"]}}}]") ≡ verdict (refused (record { code = 10; line = 2; host = None }))
unfolding reading
rules_118 = refl

-- V06 unknown host
rules_121 : found (codes "{\"all\": {\"hosts\": [\"h1\"]}}") (codes "[{\"hosts\": \"all\", \"tasks\": [{\"debug\": {\"msg\": \"{{ hostvars['zz'].x }}\"}}]}]") ≡ verdict (refused (record { code = 6; line = 2; host = None }))
unfolding reading
rules_121 = refl

-- V06 under is defined
rules_123 : found (codes "{\"all\": {\"hosts\": [\"h1\"]}}") (codes "[{\"hosts\": \"all\", \"tasks\": [{\"debug\": {\"msg\": \"{{ hostvars['zz'].x is defined }}\"}}]}]") ≡ verdict (accepted 0)
unfolding reading
rules_123 = refl

-- V06 under is undefined
rules_124 : found (codes "{\"all\": {\"hosts\": [\"h1\"]}}") (codes "[{\"hosts\": \"all\", \"tasks\": [{\"debug\": {\"msg\": \"{{ hostvars['zz'].x is undefined }}\"}}]}]") ≡ verdict (accepted 0)
unfolding reading
rules_124 = refl

-- V06 before default
rules_125 : found (codes "{\"all\": {\"hosts\": [\"h1\"]}}") (codes "[{\"hosts\": \"all\", \"tasks\": [{\"debug\": {\"msg\": \"{{ hostvars['zz'].x | default(1) }}\"}}]}]") ≡ verdict (accepted 0)
unfolding reading
rules_125 = refl

-- V06 under is failed
rules_128 : found (codes "{\"all\": {\"hosts\": [\"h1\"]}}") (codes "[{\"hosts\": \"all\", \"tasks\": [{\"debug\": {\"msg\": \"{{ hostvars['zz'].x is failed }}\"}}]}]") ≡ verdict (refused (record { code = 6; line = 2; host = None }))
unfolding reading
rules_128 = refl

-- V06 after a test
rules_129 : found (codes "{\"all\": {\"hosts\": [\"h1\"]}}") (codes "[{\"hosts\": \"all\", \"tasks\": [{\"debug\": {\"msg\": \"{{ hostvars['zz'].x }}\"}, \"when\": \"hostvars['zz'].x is defined\"}]}]") ≡ verdict (refused (record { code = 6; line = 2; host = None }))
unfolding reading
rules_129 = refl

-- V06 in vars that nobody reads
rules_130 : found (codes "{\"all\": {\"hosts\": [\"h1\"]}}") (codes "[{\"hosts\": \"all\", \"tasks\": [{\"ping\": null}], \"vars\": {\"a\": \"{{ hostvars['zz'].x }}\"}}]") ≡ verdict (accepted 1)
unfolding reading
rules_130 = refl

-- V06 in vars, read under is defined
rules_132 : found (codes "{\"all\": {\"hosts\": [\"h1\"]}}") (codes "[{\"hosts\": \"all\", \"tasks\": [{\"ping\": null}, {\"debug\": {\"msg\": \"{{ a is defined }}\"}}], \"vars\": {\"a\": \"{{ hostvars['zz'].x }}\"}}]") ≡ verdict (refused (record { code = 6; line = 3; host = None }))
unfolding reading
rules_132 = refl

-- V06 in vars through vars
rules_134 : found (codes "{\"all\": {\"hosts\": [\"h1\"]}}") (codes "[{\"hosts\": \"all\", \"tasks\": [{\"ping\": null}, {\"debug\": {\"msg\": \"{{ b }}\"}}], \"vars\": {\"a\": \"{{ hostvars['zz'].x }}\", \"b\": \"{{ a }}\"}}]") ≡ verdict (refused (record { code = 6; line = 3; host = None }))
unfolding reading
rules_134 = refl

-- V06 in a block's when: at its task
rules_135 : found (codes "{\"all\": {\"hosts\": [\"h1\"]}}") (codes "[{\"hosts\": \"all\", \"tasks\": [{\"block\": [{\"ping\": null}], \"when\": \"hostvars['zz'].x == 1\"}]}]") ≡ verdict (refused (record { code = 6; line = 3; host = None }))
unfolding reading
rules_135 = refl

-- V06 in a block's when: no task
rules_136 : found (codes "{\"all\": {\"hosts\": [\"h1\"]}}") (codes "[{\"hosts\": \"all\", \"tasks\": [{\"block\": [], \"when\": \"hostvars['zz'].x == 1\"}]}]") ≡ verdict (accepted 0)
unfolding reading
rules_136 = refl

-- V06 groups past the end
rules_137 : found (codes "{\"all\": {\"hosts\": [\"h1\"]}}") (codes "[{\"hosts\": \"all\", \"tasks\": [{\"debug\": {\"msg\": \"{{ groups['all'][1] }}\"}}]}]") ≡ verdict (refused (record { code = 6; line = 2; host = None }))
unfolding reading
rules_137 = refl

-- V06 unknown group
rules_140 : found (codes "{\"all\": {\"hosts\": [\"h1\"]}}") (codes "[{\"hosts\": \"all\", \"tasks\": [{\"debug\": {\"msg\": \"{{ groups['zz'] }}\"}}]}]") ≡ verdict (refused (record { code = 6; line = 2; host = None }))
unfolding reading
rules_140 = refl

-- V06 in until
rules_142 : found (codes "{\"all\": {\"hosts\": [\"h1\"]}}") (codes "[{\"hosts\": \"all\", \"tasks\": [{\"command\": \"x\", \"register\": \"out\", \"until\": \"groups['zz'][0] == 'a'\"}]}]") ≡ verdict (refused (record { code = 6; line = 2; host = None }))
unfolding reading
rules_142 = refl

-- V06 in an unreachable task
rules_144 : found (codes "{\"all\": {\"hosts\": [\"h1\"]}}") (codes "[{\"hosts\": \"all\", \"tasks\": [{\"fail\": null}, {\"debug\": {\"msg\": \"{{ groups['zz'] }}\"}}]}]") ≡ verdict (refused (record { code = 6; line = 3; host = None }))
unfolding reading
rules_144 = refl

-- V05 a handler of another play
rules_151 : found (codes "{\"all\": {\"hosts\": [\"h1\"]}}") (codes "[{\"hosts\": \"all\", \"tasks\": [{\"ping\": null, \"notify\": \"a\"}]}, {\"hosts\": \"all\", \"tasks\": [], \"handlers\": [{\"ping\": null, \"name\": \"a\"}, {\"ping\": null, \"name\": \"b\", \"listen\": [\"t\", \"u\"]}, {\"ping\": null, \"name\": \"c\", \"listen\": \"t\"}]}]") ≡ verdict (refused (record { code = 5; line = 2; host = None }))
unfolding reading
rules_151 = refl

-- V12 itself by topic
rules_152 : found (codes "{\"all\": {\"hosts\": [\"h1\"]}}") (codes "[{\"hosts\": \"all\", \"tasks\": [{\"ping\": null}], \"handlers\": [{\"ping\": null, \"name\": \"a\", \"listen\": \"t\", \"notify\": \"t\"}]}]") ≡ verdict (refused (record { code = 12; line = 3; host = None }))
unfolding reading
rules_152 = refl

-- V12 an earlier one
rules_153 : found (codes "{\"all\": {\"hosts\": [\"h1\"]}}") (codes "[{\"hosts\": \"all\", \"tasks\": [{\"ping\": null}], \"handlers\": [{\"ping\": null, \"name\": \"a\"}, {\"ping\": null, \"name\": \"b\", \"notify\": \"a\"}]}]") ≡ verdict (refused (record { code = 12; line = 4; host = None }))
unfolding reading
rules_153 = refl

-- V12 an earlier one by topic, a later one too
rules_154 : found (codes "{\"all\": {\"hosts\": [\"h1\"]}}") (codes "[{\"hosts\": \"all\", \"tasks\": [{\"ping\": null}], \"handlers\": [{\"ping\": null, \"name\": \"a\", \"listen\": \"t\"}, {\"ping\": null, \"name\": \"b\", \"notify\": \"t\"}, {\"ping\": null, \"name\": \"c\", \"listen\": \"t\"}]}]") ≡ verdict (refused (record { code = 12; line = 4; host = None }))
unfolding reading
rules_154 = refl

-- V05 before V12 on one line
rules_156 : found (codes "{\"all\": {\"hosts\": [\"h1\"]}}") (codes "[{\"hosts\": \"all\", \"tasks\": [{\"ping\": null}], \"handlers\": [{\"ping\": null, \"name\": \"a\", \"notify\": [\"a\", \"zz\"]}]}]") ≡ verdict (refused (record { code = 5; line = 3; host = None }))
unfolding reading
rules_156 = refl

-- V09 hostvars
rules_157 : found (codes "{\"all\": {\"hosts\": [\"h1\"]}}") (codes "[{\"hosts\": \"all\", \"tasks\": [{\"command\": \"x\", \"register\": \"out\", \"failed_when\": \"hostvars['h1'].inv == 1\"}]}]") ≡ verdict (refused (record { code = 9; line = 2; host = None }))
unfolding reading
rules_157 = refl

-- V09 ansible_play_batch
rules_158 : found (codes "{\"all\": {\"hosts\": [\"h1\"]}}") (codes "[{\"hosts\": \"all\", \"tasks\": [{\"command\": \"x\", \"register\": \"out\", \"changed_when\": \"'h1' in ansible_play_batch\"}]}]") ≡ verdict (refused (record { code = 9; line = 2; host = None }))
unfolding reading
rules_158 = refl

-- V09 through vars
rules_161 : found (codes "{\"all\": {\"hosts\": [\"h1\"]}}") (codes "[{\"hosts\": \"all\", \"tasks\": [{\"command\": \"x\", \"register\": \"out\", \"failed_when\": \"v\"}], \"vars\": {\"v\": \"{{ hostvars['h1'].x is defined }}\"}}]") ≡ verdict (refused (record { code = 9; line = 2; host = None }))
unfolding reading
rules_161 = refl

-- V09 through vars, twice
rules_162 : found (codes "{\"all\": {\"hosts\": [\"h1\"]}}") (codes "[{\"hosts\": \"all\", \"tasks\": [{\"command\": \"x\", \"register\": \"out\", \"failed_when\": \"w\"}], \"vars\": {\"v\": \"{{ hostvars['h1'].x is defined }}\", \"w\": \"{{ v }}\"}}]") ≡ verdict (refused (record { code = 9; line = 2; host = None }))
unfolding reading
rules_162 = refl

-- V12 before V09 on one line
rules_165 : found (codes "{\"all\": {\"hosts\": [\"h1\"]}}") (codes "[{\"hosts\": \"all\", \"tasks\": [{\"ping\": null}], \"handlers\": [{\"command\": \"x\", \"register\": \"out\", \"name\": \"a\", \"notify\": \"a\", \"failed_when\": \"'a' in ansible_play_batch\"}]}]") ≡ verdict (refused (record { code = 12; line = 3; host = None }))
unfolding reading
rules_165 = refl

-- the least line of all
rules_166 : found (codes "{\"all\": {\"hosts\": [\"h1\"]}}") (codes "[{\"hosts\": \"all\", \"tasks\": [{\"debug\": {\"msg\": \"{{ zz }}\"}}, {\"ping\": null, \"notify\": \"zz\"}, {\"ping\": {\"zz\": 1}}]}]") ≡ verdict (refused (record { code = 5; line = 3; host = None }))
unfolding reading
rules_166 = refl

-- the rules without flow come before V01 of an earlier line
rules_167 : found (codes "{\"all\": {\"hosts\": [\"h1\"]}}") (codes "[{\"hosts\": \"all\", \"tasks\": [{\"debug\": {\"msg\": \"{{ zz }}\"}}, {\"ping\": null, \"register\": \"item\"}]}]") ≡ verdict (refused (record { code = 8; line = 3; host = None }))
unfolding reading
rules_167 = refl

-- V10 before V06 on one line
rules_169 : found (codes "{\"all\": {\"hosts\": [\"h1\"]}}") (codes "[{\"hosts\": \"all\", \"tasks\": [{\"debug\": {\"msg\": \"{{ groups['zz'] }}\"}, \"vars\": {\"a\": \"{{ a }}\"}}]}]") ≡ verdict (refused (record { code = 10; line = 2; host = None }))
unfolding reading
rules_169 = refl

-- V07 on a task that no way reaches
rules_170 : found (codes "{\"all\": {\"hosts\": [\"h1\"]}}") (codes "[{\"hosts\": \"all\", \"tasks\": [{\"fail\": null}, {\"ping\": {\"zz\": 1}}]}]") ≡ verdict (refused (record { code = 7; line = 3; host = None }))
unfolding reading
rules_170 = refl

-- V01 on a task that no way reaches
rules_171 : found (codes "{\"all\": {\"hosts\": [\"h1\"]}}") (codes "[{\"hosts\": \"all\", \"tasks\": [{\"fail\": null}, {\"debug\": {\"msg\": \"{{ zz }}\"}}]}]") ≡ verdict (accepted 0)
unfolding reading
rules_171 = refl

-- host order: only the second lacks it
rules_174 : found (codes "{\"all\": {\"hosts\": [\"b\", \"a\"]}, \"_meta\": {\"hostvars\": {\"b\": {\"x\": 1}}}}") (codes "[{\"hosts\": \"all\", \"tasks\": [{\"debug\": {\"msg\": \"{{ x }}\"}}]}]") ≡ verdict (refused (record { code = 1; line = 2; host = Some (codes "a") }))
unfolding reading
rules_174 = refl

-- least line before host order
rules_175 : found (codes "{\"all\": {\"hosts\": [\"b\", \"a\"]}, \"_meta\": {\"hostvars\": {\"b\": {\"y\": 1}}}}") (codes "[{\"hosts\": \"all\", \"tasks\": [{\"debug\": {\"msg\": \"{{ y }}\"}}, {\"debug\": {\"msg\": \"{{ x }}\"}}]}]") ≡ verdict (refused (record { code = 1; line = 2; host = Some (codes "a") }))
unfolding reading
rules_175 = refl

-- order: loop before when
rules_176 : found (codes "{\"all\": {\"hosts\": [\"h1\"]}}") (codes "[{\"hosts\": \"all\", \"tasks\": [{\"ping\": null, \"loop\": \"{{ 5 }}\", \"when\": \"zz\"}]}]") ≡ verdict (refused (record { code = 4; line = 2; host = Some (codes "h1") }))
unfolding reading
rules_176 = refl

-- order: when before arguments
rules_177 : found (codes "{\"all\": {\"hosts\": [\"h1\"]}}") (codes "[{\"hosts\": \"all\", \"tasks\": [{\"debug\": {\"msg\": \"{{ zz }}\"}, \"when\": \"1\"}]}]") ≡ verdict (refused (record { code = 4; line = 2; host = Some (codes "h1") }))
unfolding reading
rules_177 = refl

-- order: changed_when before failed_when
rules_178 : found (codes "{\"all\": {\"hosts\": [\"h1\"]}}") (codes "[{\"hosts\": \"all\", \"tasks\": [{\"command\": \"x\", \"register\": \"out\", \"failed_when\": \"zz\", \"changed_when\": \"1\"}]}]") ≡ verdict (refused (record { code = 4; line = 2; host = Some (codes "h1") }))
unfolding reading
rules_178 = refl

-- order: failed_when before until
rules_179 : found (codes "{\"all\": {\"hosts\": [\"h1\"]}}") (codes "[{\"hosts\": \"all\", \"tasks\": [{\"command\": \"x\", \"register\": \"out\", \"until\": \"zz\", \"failed_when\": \"1\"}]}]") ≡ verdict (refused (record { code = 4; line = 2; host = Some (codes "h1") }))
unfolding reading
rules_179 = refl

-- order: block's when before the task's
rules_180 : found (codes "{\"all\": {\"hosts\": [\"h1\"]}}") (codes "[{\"hosts\": \"all\", \"tasks\": [{\"block\": [{\"ping\": null, \"when\": \"1\"}], \"when\": \"zz\"}]}]") ≡ verdict (refused (record { code = 1; line = 3; host = Some (codes "h1") }))
unfolding reading
rules_180 = refl

-- hostvars['h1'] alone
rules_183 : found (codes "{\"all\": {\"hosts\": [\"h1\"]}}") (codes "[{\"hosts\": \"all\", \"tasks\": [{\"debug\": {\"msg\": \"{{ hostvars['h1'] }}\"}}]}]") ≡ verdict (refused (record { code = 4; line = 2; host = Some (codes "h1") }))
unfolding reading
rules_183 = refl

-- hostvars[item] over texts
rules_188 : found (codes "{\"all\": {\"hosts\": [\"h1\"]}}") (codes "[{\"hosts\": \"all\", \"tasks\": [{\"debug\": {\"msg\": \"{{ hostvars[item].x is defined }}\"}, \"loop\": [\"h1\"]}]}]") ≡ verdict (refused (record { code = 4; line = 2; host = Some (codes "h1") }))
unfolding reading
rules_188 = refl

-- hostvars[item] over hosts
rules_189 : found (codes "{\"all\": {\"hosts\": [\"h1\"]}}") (codes "[{\"hosts\": \"all\", \"tasks\": [{\"debug\": {\"msg\": \"{{ hostvars[item].x is defined }}\"}, \"loop\": \"{{ groups.all }}\"}]}]") ≡ verdict (accepted 0)
unfolding reading
rules_189 = refl

-- a loop of a mixed list
rules_191 : found (codes "{\"all\": {\"hosts\": [\"h1\"]}}") (codes "[{\"hosts\": \"all\", \"tasks\": [{\"ping\": null, \"loop\": [1, \"a\"]}]}]") ≡ verdict (accepted 2)
unfolding reading
rules_191 = refl

-- a loop of a mixed list, item read
rules_192 : found (codes "{\"all\": {\"hosts\": [\"h1\"]}}") (codes "[{\"hosts\": \"all\", \"tasks\": [{\"debug\": {\"msg\": \"{{ item }}\"}, \"loop\": [1, \"a\"]}]}]") ≡ verdict (refused (record { code = 4; line = 2; host = Some (codes "h1") }))
unfolding reading
rules_192 = refl

-- default on what isn't a path
rules_193 : found (codes "{\"all\": {\"hosts\": [\"h1\"]}}") (codes "[{\"hosts\": \"all\", \"tasks\": [{\"debug\": {\"msg\": \"{{ 1 | default(zz) }}\"}}]}]") ≡ verdict (refused (record { code = 1; line = 2; host = Some (codes "h1") }))
unfolding reading
rules_193 = refl

-- default on a path in parentheses
rules_194 : found (codes "{\"all\": {\"hosts\": [\"h1\"]}}") (codes "[{\"hosts\": \"all\", \"tasks\": [{\"debug\": {\"msg\": \"{{ (zz) | default(1) }}\"}}]}]") ≡ verdict (accepted 0)
unfolding reading
rules_194 = refl
