-- Cases of book, computed from the bytes of their files.
use Rattle.std.specs.Prelude.{◌≡◌, refl, None, codes}
use Rattle.pb_language.specs.Verdict.{accepted, refused}
use Rattle.pb_byte_rows.specs.Found.{wrong_book, verdict, found}
use Rattle.pb_byte_rows.proofs.Computing.{reading}

-- no hosts
book_001 : found (codes "{\"all\": {\"hosts\": [\"h1\"]}}") (codes "[{}]") ≡ wrong_book (record { line = 1; code = 2 })
unfolding reading
book_001 = refl

-- hosts empty
book_003 : found (codes "{\"all\": {\"hosts\": [\"h1\"]}}") (codes "[{\"hosts\": \"\"}]") ≡ wrong_book (record { line = 1; code = 4 })
unfolding reading
book_003 = refl

-- hosts a number
book_004 : found (codes "{\"all\": {\"hosts\": [\"h1\"]}}") (codes "[{\"hosts\": 1}]") ≡ wrong_book (record { line = 1; code = 4 })
unfolding reading
book_004 = refl

-- hosts an empty list
book_005 : found (codes "{\"all\": {\"hosts\": [\"h1\"]}}") (codes "[{\"hosts\": []}]") ≡ verdict (accepted 0)
unfolding reading
book_005 = refl

-- hosts a list with an empty text
book_006 : found (codes "{\"all\": {\"hosts\": [\"h1\"]}}") (codes "[{\"hosts\": [\"all\", \"\"]}]") ≡ wrong_book (record { line = 1; code = 4 })
unfolding reading
book_006 = refl

-- hosts a blank
book_008 : found (codes "{\"all\": {\"hosts\": [\"h1\"]}}") (codes "[{\"hosts\": \" \"}]") ≡ verdict (refused (record { code = 6; line = 1; host = None }))
unfolding reading
book_008 = refl

-- unknown keyword
book_009 : found (codes "{\"all\": {\"hosts\": [\"h1\"]}}") (codes "[{\"hosts\": \"all\", \"become\": true}]") ≡ wrong_book (record { line = 1; code = 3 })
unfolding reading
book_009 = refl

-- max_fail_percentage
book_010 : found (codes "{\"all\": {\"hosts\": [\"h1\"]}}") (codes "[{\"hosts\": \"all\", \"max_fail_percentage\": 1}]") ≡ wrong_book (record { line = 1; code = 3 })
unfolding reading
book_010 = refl

-- play when
book_011 : found (codes "{\"all\": {\"hosts\": [\"h1\"]}}") (codes "[{\"hosts\": \"all\", \"when\": \"x\"}]") ≡ wrong_book (record { line = 1; code = 3 })
unfolding reading
book_011 = refl

-- play ignore_errors
book_012 : found (codes "{\"all\": {\"hosts\": [\"h1\"]}}") (codes "[{\"hosts\": \"all\", \"ignore_errors\": true}]") ≡ wrong_book (record { line = 1; code = 3 })
unfolding reading
book_012 = refl

-- play name a template is fine
book_014 : found (codes "{\"all\": {\"hosts\": [\"h1\"]}}") (codes "[{\"hosts\": \"all\", \"name\": \"{{ x\"}]") ≡ verdict (accepted 0)
unfolding reading
book_014 = refl

-- gather_facts a text
book_015 : found (codes "{\"all\": {\"hosts\": [\"h1\"]}}") (codes "[{\"hosts\": \"all\", \"gather_facts\": \"yes\"}]") ≡ wrong_book (record { line = 1; code = 4 })
unfolding reading
book_015 = refl

-- gather_facts null
book_016 : found (codes "{\"all\": {\"hosts\": [\"h1\"]}}") (codes "[{\"hosts\": \"all\", \"gather_facts\": null}]") ≡ wrong_book (record { line = 1; code = 4 })
unfolding reading
book_016 = refl

-- vars null
book_018 : found (codes "{\"all\": {\"hosts\": [\"h1\"]}}") (codes "[{\"hosts\": \"all\", \"vars\": null}]") ≡ wrong_book (record { line = 1; code = 4 })
unfolding reading
book_018 = refl

-- vars name bad
book_019 : found (codes "{\"all\": {\"hosts\": [\"h1\"]}}") (codes "[{\"hosts\": \"all\", \"vars\": {\"a-b\": 1}}]") ≡ wrong_book (record { line = 1; code = 4 })
unfolding reading
book_019 = refl

-- force_handlers true
book_029 : found (codes "{\"all\": {\"hosts\": [\"h1\"]}}") (codes "[{\"hosts\": \"all\", \"force_handlers\": true}]") ≡ verdict (accepted 0)
unfolding reading
book_029 = refl

-- P02 and P04
book_032 : found (codes "{\"all\": {\"hosts\": [\"h1\"]}}") (codes "[{\"name\": 5}]") ≡ wrong_book (record { line = 1; code = 2 })
unfolding reading
book_032 = refl

-- 1.5 in vars
book_035 : found (codes "{\"all\": {\"hosts\": [\"h1\"]}}") (codes "[{\"hosts\": \"all\", \"vars\": {\"v\": [1.5]}}]") ≡ wrong_book (record { line = 1; code = 4 })
unfolding reading
book_035 = refl

-- 1.5 as a task
book_036 : found (codes "{\"all\": {\"hosts\": [\"h1\"]}}") (codes "[{\"hosts\": \"all\", \"tasks\": [1.5]}]") ≡ wrong_book (record { line = 2; code = 2 })
unfolding reading
book_036 = refl

-- serial -1
book_041 : found (codes "{\"all\": {\"hosts\": [\"h1\"]}}") (codes "[{\"hosts\": \"all\", \"tasks\": [], \"serial\": -1}]") ≡ wrong_book (record { line = 1; code = 4 })
unfolding reading
book_041 = refl

-- serial "0%"
book_042 : found (codes "{\"all\": {\"hosts\": [\"h1\"]}}") (codes "[{\"hosts\": \"all\", \"tasks\": [], \"serial\": \"0%\"}]") ≡ wrong_book (record { line = 1; code = 4 })
unfolding reading
book_042 = refl

-- serial "1%"
book_043 : found (codes "{\"all\": {\"hosts\": [\"h1\"]}}") (codes "[{\"hosts\": \"all\", \"tasks\": [], \"serial\": \"1%\"}]") ≡ verdict (accepted 0)
unfolding reading
book_043 = refl

-- serial "100%"
book_044 : found (codes "{\"all\": {\"hosts\": [\"h1\"]}}") (codes "[{\"hosts\": \"all\", \"tasks\": [], \"serial\": \"100%\"}]") ≡ verdict (accepted 0)
unfolding reading
book_044 = refl

-- serial " 5%"
book_050 : found (codes "{\"all\": {\"hosts\": [\"h1\"]}}") (codes "[{\"hosts\": \"all\", \"tasks\": [], \"serial\": \" 5%\"}]") ≡ wrong_book (record { line = 1; code = 4 })
unfolding reading
book_050 = refl

-- serial "1.5%"
book_053 : found (codes "{\"all\": {\"hosts\": [\"h1\"]}}") (codes "[{\"hosts\": \"all\", \"tasks\": [], \"serial\": \"1.5%\"}]") ≡ wrong_book (record { line = 1; code = 4 })
unfolding reading
book_053 = refl

-- serial []
book_054 : found (codes "{\"all\": {\"hosts\": [\"h1\"]}}") (codes "[{\"hosts\": \"all\", \"tasks\": [], \"serial\": []}]") ≡ wrong_book (record { line = 1; code = 4 })
unfolding reading
book_054 = refl

-- serial ["5%", 2]
book_056 : found (codes "{\"all\": {\"hosts\": [\"h1\"]}}") (codes "[{\"hosts\": \"all\", \"tasks\": [], \"serial\": [\"5%\", 2]}]") ≡ verdict (accepted 0)
unfolding reading
book_056 = refl

-- serial [[1]]
book_058 : found (codes "{\"all\": {\"hosts\": [\"h1\"]}}") (codes "[{\"hosts\": \"all\", \"tasks\": [], \"serial\": [[1]]}]") ≡ wrong_book (record { line = 1; code = 4 })
unfolding reading
book_058 = refl

-- serial true
book_060 : found (codes "{\"all\": {\"hosts\": [\"h1\"]}}") (codes "[{\"hosts\": \"all\", \"tasks\": [], \"serial\": true}]") ≡ wrong_book (record { line = 1; code = 4 })
unfolding reading
book_060 = refl

-- task a text
book_064 : found (codes "{\"all\": {\"hosts\": [\"h1\"]}}") (codes "[{\"hosts\": \"all\", \"tasks\": [\"x\"]}]") ≡ wrong_book (record { line = 2; code = 2 })
unfolding reading
book_064 = refl

-- task empty
book_066 : found (codes "{\"all\": {\"hosts\": [\"h1\"]}}") (codes "[{\"hosts\": \"all\", \"tasks\": [{}]}]") ≡ wrong_book (record { line = 2; code = 5 })
unfolding reading
book_066 = refl

-- task with a name alone
book_067 : found (codes "{\"all\": {\"hosts\": [\"h1\"]}}") (codes "[{\"hosts\": \"all\", \"tasks\": [{\"name\": \"x\"}]}]") ≡ wrong_book (record { line = 2; code = 5 })
unfolding reading
book_067 = refl

-- two modules
book_068 : found (codes "{\"all\": {\"hosts\": [\"h1\"]}}") (codes "[{\"hosts\": \"all\", \"tasks\": [{\"ping\": null, \"command\": \"x\"}]}]") ≡ wrong_book (record { line = 2; code = 5 })
unfolding reading
book_068 = refl

-- two modules, one with a prefix
book_069 : found (codes "{\"all\": {\"hosts\": [\"h1\"]}}") (codes "[{\"hosts\": \"all\", \"tasks\": [{\"ping\": null, \"ansible.builtin.ping\": null}]}]") ≡ wrong_book (record { line = 2; code = 5 })
unfolding reading
book_069 = refl

-- two modules, one unknown
book_070 : found (codes "{\"all\": {\"hosts\": [\"h1\"]}}") (codes "[{\"hosts\": \"all\", \"tasks\": [{\"ping\": null, \"nope\": null}]}]") ≡ wrong_book (record { line = 2; code = 5 })
unfolding reading
book_070 = refl

-- two modules, one with a bad value: P04 is less
book_071 : found (codes "{\"all\": {\"hosts\": [\"h1\"]}}") (codes "[{\"hosts\": \"all\", \"tasks\": [{\"ping\": 5, \"command\": \"x\"}]}]") ≡ wrong_book (record { line = 2; code = 4 })
unfolding reading
book_071 = refl

-- unknown module with a bad number
book_073 : found (codes "{\"all\": {\"hosts\": [\"h1\"]}}") (codes "[{\"hosts\": \"all\", \"tasks\": [{\"nope\": {\"a\": 1.5}}]}]") ≡ wrong_book (record { line = 2; code = 4 })
unfolding reading
book_073 = refl

-- unknown module with an unreadable text
book_074 : found (codes "{\"all\": {\"hosts\": [\"h1\"]}}") (codes "[{\"hosts\": \"all\", \"tasks\": [{\"nope\": {\"a\": \"{{\"}}]}]") ≡ wrong_book (record { line = 2; code = 6 })
unfolding reading
book_074 = refl

-- include_tasks
book_075 : found (codes "{\"all\": {\"hosts\": [\"h1\"]}}") (codes "[{\"hosts\": \"all\", \"tasks\": [{\"include_tasks\": \"x.yml\"}]}]") ≡ wrong_book (record { line = 2; code = 6 })
unfolding reading
book_075 = refl

-- import_role
book_076 : found (codes "{\"all\": {\"hosts\": [\"h1\"]}}") (codes "[{\"hosts\": \"all\", \"tasks\": [{\"import_role\": {\"name\": \"x\"}}]}]") ≡ wrong_book (record { line = 2; code = 6 })
unfolding reading
book_076 = refl

-- prefix twice
book_078 : found (codes "{\"all\": {\"hosts\": [\"h1\"]}}") (codes "[{\"hosts\": \"all\", \"tasks\": [{\"ansible.builtin.ansible.builtin.ping\": null}]}]") ≡ wrong_book (record { line = 2; code = 6 })
unfolding reading
book_078 = refl

-- prefix on an action
book_079 : found (codes "{\"all\": {\"hosts\": [\"h1\"]}}") (codes "[{\"hosts\": \"all\", \"tasks\": [{\"ansible.builtin.debug\": {\"msg\": \"x\"}}]}]") ≡ verdict (accepted 0)
unfolding reading
book_079 = refl

-- prefix on a keyword
book_081 : found (codes "{\"all\": {\"hosts\": [\"h1\"]}}") (codes "[{\"hosts\": \"all\", \"tasks\": [{\"ansible.builtin.when\": \"x\", \"ping\": null}]}]") ≡ wrong_book (record { line = 2; code = 5 })
unfolding reading
book_081 = refl

-- ping with a text
book_083 : found (codes "{\"all\": {\"hosts\": [\"h1\"]}}") (codes "[{\"hosts\": \"all\", \"tasks\": [{\"ping\": \"x\"}]}]") ≡ wrong_book (record { line = 2; code = 4 })
unfolding reading
book_083 = refl

-- ping with an empty text
book_084 : found (codes "{\"all\": {\"hosts\": [\"h1\"]}}") (codes "[{\"hosts\": \"all\", \"tasks\": [{\"ping\": \"\"}]}]") ≡ wrong_book (record { line = 2; code = 4 })
unfolding reading
book_084 = refl

-- ping with a list
book_085 : found (codes "{\"all\": {\"hosts\": [\"h1\"]}}") (codes "[{\"hosts\": \"all\", \"tasks\": [{\"ping\": []}]}]") ≡ wrong_book (record { line = 2; code = 4 })
unfolding reading
book_085 = refl

-- ping with false
book_086 : found (codes "{\"all\": {\"hosts\": [\"h1\"]}}") (codes "[{\"hosts\": \"all\", \"tasks\": [{\"ping\": false}]}]") ≡ wrong_book (record { line = 2; code = 4 })
unfolding reading
book_086 = refl

-- ping with an object
book_087 : found (codes "{\"all\": {\"hosts\": [\"h1\"]}}") (codes "[{\"hosts\": \"all\", \"tasks\": [{\"ping\": {}}]}]") ≡ verdict (accepted 1)
unfolding reading
book_087 = refl

-- debug with a text
book_088 : found (codes "{\"all\": {\"hosts\": [\"h1\"]}}") (codes "[{\"hosts\": \"all\", \"tasks\": [{\"debug\": \"x\"}]}]") ≡ wrong_book (record { line = 2; code = 4 })
unfolding reading
book_088 = refl

-- command with null
book_089 : found (codes "{\"all\": {\"hosts\": [\"h1\"]}}") (codes "[{\"hosts\": \"all\", \"tasks\": [{\"command\": null}]}]") ≡ verdict (refused (record { code = 7; line = 2; host = None }))
unfolding reading
book_089 = refl

-- shell with a number
book_092 : found (codes "{\"all\": {\"hosts\": [\"h1\"]}}") (codes "[{\"hosts\": \"all\", \"tasks\": [{\"shell\": 5}]}]") ≡ wrong_book (record { line = 2; code = 4 })
unfolding reading
book_092 = refl

-- left-out word action
book_093 : found (codes "{\"all\": {\"hosts\": [\"h1\"]}}") (codes "[{\"hosts\": \"all\", \"tasks\": [{\"ping\": null, \"action\": null}]}]") ≡ wrong_book (record { line = 2; code = 3 })
unfolding reading
book_093 = refl

-- left-out word any_errors_fatal
book_094 : found (codes "{\"all\": {\"hosts\": [\"h1\"]}}") (codes "[{\"hosts\": \"all\", \"tasks\": [{\"ping\": null, \"any_errors_fatal\": null}]}]") ≡ wrong_book (record { line = 2; code = 3 })
unfolding reading
book_094 = refl

-- left-out word environment
book_100 : found (codes "{\"all\": {\"hosts\": [\"h1\"]}}") (codes "[{\"hosts\": \"all\", \"tasks\": [{\"ping\": null, \"environment\": null}]}]") ≡ wrong_book (record { line = 2; code = 3 })
unfolding reading
book_100 = refl

-- left-out word no_log
book_103 : found (codes "{\"all\": {\"hosts\": [\"h1\"]}}") (codes "[{\"hosts\": \"all\", \"tasks\": [{\"ping\": null, \"no_log\": null}]}]") ≡ wrong_book (record { line = 2; code = 3 })
unfolding reading
book_103 = refl

-- left-out word poll
book_104 : found (codes "{\"all\": {\"hosts\": [\"h1\"]}}") (codes "[{\"hosts\": \"all\", \"tasks\": [{\"ping\": null, \"poll\": null}]}]") ≡ wrong_book (record { line = 2; code = 3 })
unfolding reading
book_104 = refl

-- left-out word throttle
book_107 : found (codes "{\"all\": {\"hosts\": [\"h1\"]}}") (codes "[{\"hosts\": \"all\", \"tasks\": [{\"ping\": null, \"throttle\": null}]}]") ≡ wrong_book (record { line = 2; code = 3 })
unfolding reading
book_107 = refl

-- left-out word with_
book_110 : found (codes "{\"all\": {\"hosts\": [\"h1\"]}}") (codes "[{\"hosts\": \"all\", \"tasks\": [{\"ping\": null, \"with_\": null}]}]") ≡ wrong_book (record { line = 2; code = 3 })
unfolding reading
book_110 = refl

-- left-out word rescue
book_111 : found (codes "{\"all\": {\"hosts\": [\"h1\"]}}") (codes "[{\"hosts\": \"all\", \"tasks\": [{\"ping\": null, \"rescue\": null}]}]") ≡ wrong_book (record { line = 2; code = 3 })
unfolding reading
book_111 = refl

-- left-out word always
book_112 : found (codes "{\"all\": {\"hosts\": [\"h1\"]}}") (codes "[{\"hosts\": \"all\", \"tasks\": [{\"ping\": null, \"always\": null}]}]") ≡ wrong_book (record { line = 2; code = 3 })
unfolding reading
book_112 = refl

-- left-out word listen
book_113 : found (codes "{\"all\": {\"hosts\": [\"h1\"]}}") (codes "[{\"hosts\": \"all\", \"tasks\": [{\"ping\": null, \"listen\": null}]}]") ≡ wrong_book (record { line = 2; code = 3 })
unfolding reading
book_113 = refl

-- left-out word and an unknown module: P03
book_114 : found (codes "{\"all\": {\"hosts\": [\"h1\"]}}") (codes "[{\"hosts\": \"all\", \"tasks\": [{\"nope\": null, \"tags\": []}]}]") ≡ wrong_book (record { line = 2; code = 3 })
unfolding reading
book_114 = refl

-- left-out word and no module: P03
book_115 : found (codes "{\"all\": {\"hosts\": [\"h1\"]}}") (codes "[{\"hosts\": \"all\", \"tasks\": [{\"tags\": []}]}]") ≡ wrong_book (record { line = 2; code = 3 })
unfolding reading
book_115 = refl

-- when with braces
book_124 : found (codes "{\"all\": {\"hosts\": [\"h1\"]}}") (codes "[{\"hosts\": \"all\", \"tasks\": [{\"ping\": null, \"when\": \"{{ true }}\"}]}]") ≡ wrong_book (record { line = 2; code = 7 })
unfolding reading
book_124 = refl

-- changed_when a record
book_127 : found (codes "{\"all\": {\"hosts\": [\"h1\"]}}") (codes "[{\"hosts\": \"all\", \"tasks\": [{\"ping\": null, \"changed_when\": {}}]}]") ≡ wrong_book (record { line = 2; code = 4 })
unfolding reading
book_127 = refl

-- failed_when true
book_128 : found (codes "{\"all\": {\"hosts\": [\"h1\"]}}") (codes "[{\"hosts\": \"all\", \"tasks\": [{\"ping\": null, \"failed_when\": true}]}]") ≡ verdict (accepted 1)
unfolding reading
book_128 = refl

-- ignore_errors a text
book_129 : found (codes "{\"all\": {\"hosts\": [\"h1\"]}}") (codes "[{\"hosts\": \"all\", \"tasks\": [{\"ping\": null, \"ignore_errors\": \"yes\"}]}]") ≡ wrong_book (record { line = 2; code = 4 })
unfolding reading
book_129 = refl

-- register empty
book_130 : found (codes "{\"all\": {\"hosts\": [\"h1\"]}}") (codes "[{\"hosts\": \"all\", \"tasks\": [{\"ping\": null, \"register\": \"\"}]}]") ≡ wrong_book (record { line = 2; code = 4 })
unfolding reading
book_130 = refl

-- register null
book_133 : found (codes "{\"all\": {\"hosts\": [\"h1\"]}}") (codes "[{\"hosts\": \"all\", \"tasks\": [{\"ping\": null, \"register\": null}]}]") ≡ wrong_book (record { line = 2; code = 4 })
unfolding reading
book_133 = refl

-- notify a number
book_134 : found (codes "{\"all\": {\"hosts\": [\"h1\"]}}") (codes "[{\"hosts\": \"all\", \"tasks\": [{\"ping\": null, \"notify\": 1}]}]") ≡ wrong_book (record { line = 2; code = 4 })
unfolding reading
book_134 = refl

-- notify an empty list
book_135 : found (codes "{\"all\": {\"hosts\": [\"h1\"]}}") (codes "[{\"hosts\": \"all\", \"tasks\": [{\"ping\": null, \"notify\": []}]}]") ≡ verdict (accepted 1)
unfolding reading
book_135 = refl

-- notify a list of a number
book_136 : found (codes "{\"all\": {\"hosts\": [\"h1\"]}}") (codes "[{\"hosts\": \"all\", \"tasks\": [{\"ping\": null, \"notify\": [\"a\", 1]}]}]") ≡ wrong_book (record { line = 2; code = 4 })
unfolding reading
book_136 = refl

-- notify {{ x }}
book_137 : found (codes "{\"all\": {\"hosts\": [\"h1\"]}}") (codes "[{\"hosts\": \"all\", \"tasks\": [{\"ping\": null, \"notify\": \"{{ x }}\"}], \"handlers\": [{\"ping\": null, \"name\": \"h\", \"listen\": [\"{ x\", \"}} x\"]}]}]") ≡ wrong_book (record { line = 2; code = 4 })
unfolding reading
book_137 = refl

-- handler named {{ x }}
book_138 : found (codes "{\"all\": {\"hosts\": [\"h1\"]}}") (codes "[{\"hosts\": \"all\", \"tasks\": [], \"handlers\": [{\"ping\": null, \"name\": \"{{ x }}\"}]}]") ≡ wrong_book (record { line = 2; code = 4 })
unfolding reading
book_138 = refl

-- notify {{ x
book_140 : found (codes "{\"all\": {\"hosts\": [\"h1\"]}}") (codes "[{\"hosts\": \"all\", \"tasks\": [{\"ping\": null, \"notify\": \"{{ x\"}], \"handlers\": [{\"ping\": null, \"name\": \"h\", \"listen\": [\"{ x\", \"}} x\"]}]}]") ≡ wrong_book (record { line = 2; code = 4 })
unfolding reading
book_140 = refl

-- handler named {{ x
book_141 : found (codes "{\"all\": {\"hosts\": [\"h1\"]}}") (codes "[{\"hosts\": \"all\", \"tasks\": [], \"handlers\": [{\"ping\": null, \"name\": \"{{ x\"}]}]") ≡ wrong_book (record { line = 2; code = 4 })
unfolding reading
book_141 = refl

-- handler that listens to {{ x
book_142 : found (codes "{\"all\": {\"hosts\": [\"h1\"]}}") (codes "[{\"hosts\": \"all\", \"tasks\": [], \"handlers\": [{\"ping\": null, \"name\": \"h\", \"listen\": [\"{{ x\"]}]}]") ≡ wrong_book (record { line = 2; code = 4 })
unfolding reading
book_142 = refl

-- notify {% x
book_143 : found (codes "{\"all\": {\"hosts\": [\"h1\"]}}") (codes "[{\"hosts\": \"all\", \"tasks\": [{\"ping\": null, \"notify\": \"{% x\"}], \"handlers\": [{\"ping\": null, \"name\": \"h\", \"listen\": [\"{ x\", \"}} x\"]}]}]") ≡ wrong_book (record { line = 2; code = 4 })
unfolding reading
book_143 = refl

-- handler named {% x
book_144 : found (codes "{\"all\": {\"hosts\": [\"h1\"]}}") (codes "[{\"hosts\": \"all\", \"tasks\": [], \"handlers\": [{\"ping\": null, \"name\": \"{% x\"}]}]") ≡ wrong_book (record { line = 2; code = 4 })
unfolding reading
book_144 = refl

-- handler that listens to {% x
book_145 : found (codes "{\"all\": {\"hosts\": [\"h1\"]}}") (codes "[{\"hosts\": \"all\", \"tasks\": [], \"handlers\": [{\"ping\": null, \"name\": \"h\", \"listen\": [\"{% x\"]}]}]") ≡ wrong_book (record { line = 2; code = 4 })
unfolding reading
book_145 = refl

-- notify { x
book_149 : found (codes "{\"all\": {\"hosts\": [\"h1\"]}}") (codes "[{\"hosts\": \"all\", \"tasks\": [{\"ping\": null, \"notify\": \"{ x\"}], \"handlers\": [{\"ping\": null, \"name\": \"h\", \"listen\": [\"{ x\", \"}} x\"]}]}]") ≡ verdict (accepted 2)
unfolding reading
book_149 = refl

-- handler named { x
book_150 : found (codes "{\"all\": {\"hosts\": [\"h1\"]}}") (codes "[{\"hosts\": \"all\", \"tasks\": [], \"handlers\": [{\"ping\": null, \"name\": \"{ x\"}]}]") ≡ verdict (accepted 0)
unfolding reading
book_150 = refl

-- handler that listens to { x
book_151 : found (codes "{\"all\": {\"hosts\": [\"h1\"]}}") (codes "[{\"hosts\": \"all\", \"tasks\": [], \"handlers\": [{\"ping\": null, \"name\": \"h\", \"listen\": [\"{ x\"]}]}]") ≡ verdict (accepted 0)
unfolding reading
book_151 = refl

-- notify }} x
book_152 : found (codes "{\"all\": {\"hosts\": [\"h1\"]}}") (codes "[{\"hosts\": \"all\", \"tasks\": [{\"ping\": null, \"notify\": \"}} x\"}], \"handlers\": [{\"ping\": null, \"name\": \"h\", \"listen\": [\"{ x\", \"}} x\"]}]}]") ≡ verdict (accepted 2)
unfolding reading
book_152 = refl

-- handler named }} x
book_153 : found (codes "{\"all\": {\"hosts\": [\"h1\"]}}") (codes "[{\"hosts\": \"all\", \"tasks\": [], \"handlers\": [{\"ping\": null, \"name\": \"}} x\"}]}]") ≡ verdict (accepted 0)
unfolding reading
book_153 = refl

-- handler that listens to }} x
book_154 : found (codes "{\"all\": {\"hosts\": [\"h1\"]}}") (codes "[{\"hosts\": \"all\", \"tasks\": [], \"handlers\": [{\"ping\": null, \"name\": \"h\", \"listen\": [\"}} x\"]}]}]") ≡ verdict (accepted 0)
unfolding reading
book_154 = refl

-- loop two templates
book_156 : found (codes "{\"all\": {\"hosts\": [\"h1\"]}}") (codes "[{\"hosts\": \"all\", \"tasks\": [{\"ping\": null, \"loop\": \"{{ [1] }}{{ [2] }}\"}]}]") ≡ wrong_book (record { line = 2; code = 4 })
unfolding reading
book_156 = refl

-- loop an unreadable template
book_158 : found (codes "{\"all\": {\"hosts\": [\"h1\"]}}") (codes "[{\"hosts\": \"all\", \"tasks\": [{\"ping\": null, \"loop\": \"{{ a b }}\"}]}]") ≡ wrong_book (record { line = 2; code = 7 })
unfolding reading
book_158 = refl

-- loop a template without an end
book_159 : found (codes "{\"all\": {\"hosts\": [\"h1\"]}}") (codes "[{\"hosts\": \"all\", \"tasks\": [{\"ping\": null, \"loop\": \"{{ [1]\"}]}]") ≡ wrong_book (record { line = 2; code = 4 })
unfolding reading
book_159 = refl

-- loop an empty template
book_160 : found (codes "{\"all\": {\"hosts\": [\"h1\"]}}") (codes "[{\"hosts\": \"all\", \"tasks\": [{\"ping\": null, \"loop\": \"{{ }}\"}]}]") ≡ wrong_book (record { line = 2; code = 7 })
unfolding reading
book_160 = refl

-- loop a record
book_161 : found (codes "{\"all\": {\"hosts\": [\"h1\"]}}") (codes "[{\"hosts\": \"all\", \"tasks\": [{\"ping\": null, \"loop\": {}}]}]") ≡ wrong_book (record { line = 2; code = 4 })
unfolding reading
book_161 = refl

-- loop null
book_162 : found (codes "{\"all\": {\"hosts\": [\"h1\"]}}") (codes "[{\"hosts\": \"all\", \"tasks\": [{\"ping\": null, \"loop\": null}]}]") ≡ wrong_book (record { line = 2; code = 4 })
unfolding reading
book_162 = refl

-- meta an object
book_166 : found (codes "{\"all\": {\"hosts\": [\"h1\"]}}") (codes "[{\"hosts\": \"all\", \"tasks\": [{\"meta\": {\"x\": 1}}]}]") ≡ wrong_book (record { line = 2; code = 4 })
unfolding reading
book_166 = refl

-- meta among handlers
book_173 : found (codes "{\"all\": {\"hosts\": [\"h1\"]}}") (codes "[{\"hosts\": \"all\", \"tasks\": [], \"handlers\": [{\"meta\": \"flush_handlers\"}]}]") ≡ wrong_book (record { line = 2; code = 4 })
unfolding reading
book_173 = refl

-- block null
book_174 : found (codes "{\"all\": {\"hosts\": [\"h1\"]}}") (codes "[{\"hosts\": \"all\", \"tasks\": [{\"block\": null}]}]") ≡ wrong_book (record { line = 2; code = 4 })
unfolding reading
book_174 = refl

-- block a text
book_175 : found (codes "{\"all\": {\"hosts\": [\"h1\"]}}") (codes "[{\"hosts\": \"all\", \"tasks\": [{\"block\": \"x\"}]}]") ≡ wrong_book (record { line = 2; code = 4 })
unfolding reading
book_175 = refl

-- block empty
book_176 : found (codes "{\"all\": {\"hosts\": [\"h1\"]}}") (codes "[{\"hosts\": \"all\", \"tasks\": [{\"block\": []}]}]") ≡ verdict (accepted 0)
unfolding reading
book_176 = refl

-- block with loop
book_179 : found (codes "{\"all\": {\"hosts\": [\"h1\"]}}") (codes "[{\"hosts\": \"all\", \"tasks\": [{\"block\": [], \"loop\": []}]}]") ≡ wrong_book (record { line = 2; code = 3 })
unfolding reading
book_179 = refl

-- block with a module
book_180 : found (codes "{\"all\": {\"hosts\": [\"h1\"]}}") (codes "[{\"hosts\": \"all\", \"tasks\": [{\"block\": [], \"ping\": null}]}]") ≡ wrong_book (record { line = 2; code = 3 })
unfolding reading
book_180 = refl

-- block with until
book_182 : found (codes "{\"all\": {\"hosts\": [\"h1\"]}}") (codes "[{\"hosts\": \"all\", \"tasks\": [{\"block\": [], \"until\": \"true\"}]}]") ≡ wrong_book (record { line = 2; code = 3 })
unfolding reading
book_182 = refl

-- block with register
book_183 : found (codes "{\"all\": {\"hosts\": [\"h1\"]}}") (codes "[{\"hosts\": \"all\", \"tasks\": [{\"block\": [], \"register\": \"x\"}]}]") ≡ wrong_book (record { line = 2; code = 3 })
unfolding reading
book_183 = refl

-- block with a bad when and a bad task inside: the block's line
book_184 : found (codes "{\"all\": {\"hosts\": [\"h1\"]}}") (codes "[{\"hosts\": \"all\", \"tasks\": [{\"block\": [5], \"when\": \"a b\"}]}]") ≡ wrong_book (record { line = 2; code = 7 })
unfolding reading
book_184 = refl

-- bad tasks in rescue and always: the least line
book_185 : found (codes "{\"all\": {\"hosts\": [\"h1\"]}}") (codes "[{\"hosts\": \"all\", \"tasks\": [{\"block\": [{\"ping\": null}], \"rescue\": [{\"nope\": null}], \"always\": [5]}]}]") ≡ wrong_book (record { line = 4; code = 6 })
unfolding reading
book_185 = refl

-- keys in another order: lines go block, rescue, always
book_186 : found (codes "{\"all\": {\"hosts\": [\"h1\"]}}") (codes "[{\"hosts\": \"all\", \"tasks\": [{\"always\": [5], \"rescue\": [{\"nope\": null}], \"block\": [{\"ping\": null}, {\"ping\": null}]}]}]") ≡ wrong_book (record { line = 5; code = 6 })
unfolding reading
book_186 = refl

-- a block among handlers
book_187 : found (codes "{\"all\": {\"hosts\": [\"h1\"]}}") (codes "[{\"hosts\": \"all\", \"tasks\": [], \"handlers\": [{\"block\": []}]}]") ≡ wrong_book (record { line = 2; code = 3 })
unfolding reading
book_187 = refl

-- a block among handlers, its tasks aren't lines
book_188 : found (codes "{\"all\": {\"hosts\": [\"h1\"]}}") (codes "[{\"hosts\": \"all\", \"tasks\": [], \"handlers\": [{\"block\": [5, 5], \"name\": \"a\"}, 5]}]") ≡ wrong_book (record { line = 2; code = 3 })
unfolding reading
book_188 = refl

-- handler with rescue
book_189 : found (codes "{\"all\": {\"hosts\": [\"h1\"]}}") (codes "[{\"hosts\": \"all\", \"tasks\": [], \"handlers\": [{\"ping\": null, \"rescue\": []}]}]") ≡ wrong_book (record { line = 2; code = 3 })
unfolding reading
book_189 = refl

-- handler name twice and P08 no: P07 on the same line
book_191 : found (codes "{\"all\": {\"hosts\": [\"h1\"]}}") (codes "[{\"hosts\": \"all\", \"tasks\": [], \"handlers\": [{\"ping\": null, \"name\": \"a\"}, {\"ping\": null, \"name\": \"a\", \"when\": \"a b\"}]}]") ≡ wrong_book (record { line = 3; code = 7 })
unfolding reading
book_191 = refl

-- handler name twice in two plays
book_192 : found (codes "{\"all\": {\"hosts\": [\"h1\"]}}") (codes "[{\"hosts\": \"all\", \"tasks\": [], \"handlers\": [{\"ping\": null, \"name\": \"a\"}]}, {\"hosts\": \"all\", \"tasks\": [], \"handlers\": [{\"ping\": null, \"name\": \"a\"}]}]") ≡ verdict (accepted 0)
unfolding reading
book_192 = refl

-- handlers without a name twice
book_193 : found (codes "{\"all\": {\"hosts\": [\"h1\"]}}") (codes "[{\"hosts\": \"all\", \"tasks\": [], \"handlers\": [{\"ping\": null}, {\"ping\": null}]}]") ≡ verdict (accepted 0)
unfolding reading
book_193 = refl

-- handler's listen a number
book_194 : found (codes "{\"all\": {\"hosts\": [\"h1\"]}}") (codes "[{\"hosts\": \"all\", \"tasks\": [], \"handlers\": [{\"ping\": null, \"listen\": 1}]}]") ≡ wrong_book (record { line = 2; code = 4 })
unfolding reading
book_194 = refl

-- lines: sections in running order whatever the order of keys
book_196 : found (codes "{\"all\": {\"hosts\": [\"h1\"]}}") (codes "[{\"handlers\":[5],\"post_tasks\":[5],\"tasks\":[{\"ping\":null}],\"pre_tasks\":[{\"ping\":null}],\"hosts\":\"all\"}]") ≡ wrong_book (record { line = 4; code = 2 })
unfolding reading
book_196 = refl

-- lines: the gathering is a line
book_197 : found (codes "{\"all\": {\"hosts\": [\"h1\"]}}") (codes "[{\"hosts\": \"all\", \"tasks\": [5], \"gather_facts\": true}]") ≡ wrong_book (record { line = 3; code = 2 })
unfolding reading
book_197 = refl

-- lines: second play
book_198 : found (codes "{\"all\": {\"hosts\": [\"h1\"]}}") (codes "[{\"hosts\": \"all\", \"tasks\": [{\"ping\": null}, {\"block\": [{\"ping\": null}], \"rescue\": [{\"ping\": null}], \"always\": [{\"ping\": null}]}]}, 5]") ≡ wrong_book (record { line = 7; code = 2 })
unfolding reading
book_198 = refl

-- until on an action
book_199 : found (codes "{\"all\": {\"hosts\": [\"h1\"]}}") (codes "[{\"hosts\": \"all\", \"tasks\": [{\"debug\": {\"msg\": \"x\"}, \"until\": \"true\"}]}]") ≡ wrong_book (record { line = 2; code = 4 })
unfolding reading
book_199 = refl

-- until with loop
book_200 : found (codes "{\"all\": {\"hosts\": [\"h1\"]}}") (codes "[{\"hosts\": \"all\", \"tasks\": [{\"ping\": null, \"until\": \"true\", \"loop\": [1]}]}]") ≡ wrong_book (record { line = 2; code = 4 })
unfolding reading
book_200 = refl

-- retries 0
book_202 : found (codes "{\"all\": {\"hosts\": [\"h1\"]}}") (codes "[{\"hosts\": \"all\", \"tasks\": [{\"ping\": null, \"until\": \"true\", \"retries\": 0}]}]") ≡ wrong_book (record { line = 2; code = 4 })
unfolding reading
book_202 = refl

-- retries 1
book_203 : found (codes "{\"all\": {\"hosts\": [\"h1\"]}}") (codes "[{\"hosts\": \"all\", \"tasks\": [{\"ping\": null, \"until\": \"true\", \"retries\": 1}]}]") ≡ verdict (accepted 2)
unfolding reading
book_203 = refl

-- retries 255
book_204 : found (codes "{\"all\": {\"hosts\": [\"h1\"]}}") (codes "[{\"hosts\": \"all\", \"tasks\": [{\"ping\": null, \"until\": \"true\", \"retries\": 255}]}]") ≡ verdict (accepted 256)
unfolding reading
book_204 = refl

-- retries 256
book_205 : found (codes "{\"all\": {\"hosts\": [\"h1\"]}}") (codes "[{\"hosts\": \"all\", \"tasks\": [{\"ping\": null, \"until\": \"true\", \"retries\": 256}]}]") ≡ wrong_book (record { line = 2; code = 4 })
unfolding reading
book_205 = refl
