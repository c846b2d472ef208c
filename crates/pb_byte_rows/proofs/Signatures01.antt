-- Cases of signatures, computed from the bytes of their files.
use Rattle.std.specs.Prelude.{◌≡◌, refl, Some, codes}
use Rattle.pb_language.specs.Verdict.{accepted, refused}
use Rattle.pb_byte_rows.specs.Found.{wrong_signatures, verdict, found_with}
use Rattle.pb_byte_rows.proofs.Computing.{reading}

-- none
signatures_001 : found_with (codes "[]") (codes "{\"all\": {\"hosts\": [\"h1\"]}}") (codes "[]") ≡ verdict (accepted 0)
unfolding reading
signatures_001 = refl

-- an object
signatures_003 : found_with (codes "{}") (codes "{\"all\": {\"hosts\": [\"h1\"]}}") (codes "[]") ≡ wrong_signatures 2
unfolding reading
signatures_003 = refl

-- not JSON
signatures_004 : found_with (codes "[") (codes "{\"all\": {\"hosts\": [\"h1\"]}}") (codes "[]") ≡ wrong_signatures 1
unfolding reading
signatures_004 = refl

-- no name
signatures_006 : found_with (codes "[{\"params\": {}, \"ok\": {\"changed\": {\"kind\": \"bool\", \"always\": true}}, \"failure\": {\"changed\": {\"kind\": \"bool\", \"always\": true}, \"msg\": {\"kind\": \"text\", \"always\": true}}}]") (codes "{\"all\": {\"hosts\": [\"h1\"]}}") (codes "[]") ≡ wrong_signatures 2
unfolding reading
signatures_006 = refl

-- name a number
signatures_008 : found_with (codes "[{\"name\": 5, \"params\": {}, \"ok\": {\"changed\": {\"kind\": \"bool\", \"always\": true}}, \"failure\": {\"changed\": {\"kind\": \"bool\", \"always\": true}, \"msg\": {\"kind\": \"text\", \"always\": true}}}]") (codes "{\"all\": {\"hosts\": [\"h1\"]}}") (codes "[]") ≡ wrong_signatures 2
unfolding reading
signatures_008 = refl

-- name Probe
signatures_010 : found_with (codes "[{\"name\": \"Probe\", \"params\": {}, \"ok\": {\"changed\": {\"kind\": \"bool\", \"always\": true}}, \"failure\": {\"changed\": {\"kind\": \"bool\", \"always\": true}, \"msg\": {\"kind\": \"text\", \"always\": true}}}]") (codes "{\"all\": {\"hosts\": [\"h1\"]}}") (codes "[]") ≡ wrong_signatures 2
unfolding reading
signatures_010 = refl

-- name _a
signatures_012 : found_with (codes "[{\"name\": \"_a\", \"params\": {}, \"ok\": {\"changed\": {\"kind\": \"bool\", \"always\": true}}, \"failure\": {\"changed\": {\"kind\": \"bool\", \"always\": true}, \"msg\": {\"kind\": \"text\", \"always\": true}}}]") (codes "{\"all\": {\"hosts\": [\"h1\"]}}") (codes "[]") ≡ wrong_signatures 2
unfolding reading
signatures_012 = refl

-- name a-b
signatures_013 : found_with (codes "[{\"name\": \"a-b\", \"params\": {}, \"ok\": {\"changed\": {\"kind\": \"bool\", \"always\": true}}, \"failure\": {\"changed\": {\"kind\": \"bool\", \"always\": true}, \"msg\": {\"kind\": \"text\", \"always\": true}}}]") (codes "{\"all\": {\"hosts\": [\"h1\"]}}") (codes "[]") ≡ wrong_signatures 2
unfolding reading
signatures_013 = refl

-- name a b
signatures_014 : found_with (codes "[{\"name\": \"a b\", \"params\": {}, \"ok\": {\"changed\": {\"kind\": \"bool\", \"always\": true}}, \"failure\": {\"changed\": {\"kind\": \"bool\", \"always\": true}, \"msg\": {\"kind\": \"text\", \"always\": true}}}]") (codes "{\"all\": {\"hosts\": [\"h1\"]}}") (codes "[]") ≡ wrong_signatures 2
unfolding reading
signatures_014 = refl

-- name ping
signatures_017 : found_with (codes "[{\"name\": \"ping\", \"params\": {}, \"ok\": {\"changed\": {\"kind\": \"bool\", \"always\": true}}, \"failure\": {\"changed\": {\"kind\": \"bool\", \"always\": true}, \"msg\": {\"kind\": \"text\", \"always\": true}}}]") (codes "{\"all\": {\"hosts\": [\"h1\"]}}") (codes "[]") ≡ wrong_signatures 4
unfolding reading
signatures_017 = refl

-- name setup
signatures_018 : found_with (codes "[{\"name\": \"setup\", \"params\": {}, \"ok\": {\"changed\": {\"kind\": \"bool\", \"always\": true}}, \"failure\": {\"changed\": {\"kind\": \"bool\", \"always\": true}, \"msg\": {\"kind\": \"text\", \"always\": true}}}]") (codes "{\"all\": {\"hosts\": [\"h1\"]}}") (codes "[]") ≡ wrong_signatures 4
unfolding reading
signatures_018 = refl

-- name debug
signatures_019 : found_with (codes "[{\"name\": \"debug\", \"params\": {}, \"ok\": {\"changed\": {\"kind\": \"bool\", \"always\": true}}, \"failure\": {\"changed\": {\"kind\": \"bool\", \"always\": true}, \"msg\": {\"kind\": \"text\", \"always\": true}}}]") (codes "{\"all\": {\"hosts\": [\"h1\"]}}") (codes "[]") ≡ wrong_signatures 4
unfolding reading
signatures_019 = refl

-- name assert
signatures_021 : found_with (codes "[{\"name\": \"assert\", \"params\": {}, \"ok\": {\"changed\": {\"kind\": \"bool\", \"always\": true}}, \"failure\": {\"changed\": {\"kind\": \"bool\", \"always\": true}, \"msg\": {\"kind\": \"text\", \"always\": true}}}]") (codes "{\"all\": {\"hosts\": [\"h1\"]}}") (codes "[]") ≡ wrong_signatures 4
unfolding reading
signatures_021 = refl

-- name fail
signatures_022 : found_with (codes "[{\"name\": \"fail\", \"params\": {}, \"ok\": {\"changed\": {\"kind\": \"bool\", \"always\": true}}, \"failure\": {\"changed\": {\"kind\": \"bool\", \"always\": true}, \"msg\": {\"kind\": \"text\", \"always\": true}}}]") (codes "{\"all\": {\"hosts\": [\"h1\"]}}") (codes "[]") ≡ wrong_signatures 4
unfolding reading
signatures_022 = refl

-- name name
signatures_025 : found_with (codes "[{\"name\": \"name\", \"params\": {}, \"ok\": {\"changed\": {\"kind\": \"bool\", \"always\": true}}, \"failure\": {\"changed\": {\"kind\": \"bool\", \"always\": true}, \"msg\": {\"kind\": \"text\", \"always\": true}}}]") (codes "{\"all\": {\"hosts\": [\"h1\"]}}") (codes "[]") ≡ wrong_signatures 4
unfolding reading
signatures_025 = refl

-- name hosts
signatures_026 : found_with (codes "[{\"name\": \"hosts\", \"params\": {}, \"ok\": {\"changed\": {\"kind\": \"bool\", \"always\": true}}, \"failure\": {\"changed\": {\"kind\": \"bool\", \"always\": true}, \"msg\": {\"kind\": \"text\", \"always\": true}}}]") (codes "{\"all\": {\"hosts\": [\"h1\"]}}") (codes "[]") ≡ wrong_signatures 4
unfolding reading
signatures_026 = refl

-- name serial
signatures_027 : found_with (codes "[{\"name\": \"serial\", \"params\": {}, \"ok\": {\"changed\": {\"kind\": \"bool\", \"always\": true}}, \"failure\": {\"changed\": {\"kind\": \"bool\", \"always\": true}, \"msg\": {\"kind\": \"text\", \"always\": true}}}]") (codes "{\"all\": {\"hosts\": [\"h1\"]}}") (codes "[]") ≡ wrong_signatures 4
unfolding reading
signatures_027 = refl

-- name block
signatures_028 : found_with (codes "[{\"name\": \"block\", \"params\": {}, \"ok\": {\"changed\": {\"kind\": \"bool\", \"always\": true}}, \"failure\": {\"changed\": {\"kind\": \"bool\", \"always\": true}, \"msg\": {\"kind\": \"text\", \"always\": true}}}]") (codes "{\"all\": {\"hosts\": [\"h1\"]}}") (codes "[]") ≡ wrong_signatures 4
unfolding reading
signatures_028 = refl

-- name listen
signatures_029 : found_with (codes "[{\"name\": \"listen\", \"params\": {}, \"ok\": {\"changed\": {\"kind\": \"bool\", \"always\": true}}, \"failure\": {\"changed\": {\"kind\": \"bool\", \"always\": true}, \"msg\": {\"kind\": \"text\", \"always\": true}}}]") (codes "{\"all\": {\"hosts\": [\"h1\"]}}") (codes "[]") ≡ wrong_signatures 4
unfolding reading
signatures_029 = refl

-- name until
signatures_030 : found_with (codes "[{\"name\": \"until\", \"params\": {}, \"ok\": {\"changed\": {\"kind\": \"bool\", \"always\": true}}, \"failure\": {\"changed\": {\"kind\": \"bool\", \"always\": true}, \"msg\": {\"kind\": \"text\", \"always\": true}}}]") (codes "{\"all\": {\"hosts\": [\"h1\"]}}") (codes "[]") ≡ wrong_signatures 4
unfolding reading
signatures_030 = refl

-- name retries
signatures_031 : found_with (codes "[{\"name\": \"retries\", \"params\": {}, \"ok\": {\"changed\": {\"kind\": \"bool\", \"always\": true}}, \"failure\": {\"changed\": {\"kind\": \"bool\", \"always\": true}, \"msg\": {\"kind\": \"text\", \"always\": true}}}]") (codes "{\"all\": {\"hosts\": [\"h1\"]}}") (codes "[]") ≡ wrong_signatures 4
unfolding reading
signatures_031 = refl

-- name tags
signatures_033 : found_with (codes "[{\"name\": \"tags\", \"params\": {}, \"ok\": {\"changed\": {\"kind\": \"bool\", \"always\": true}}, \"failure\": {\"changed\": {\"kind\": \"bool\", \"always\": true}, \"msg\": {\"kind\": \"text\", \"always\": true}}}]") (codes "{\"all\": {\"hosts\": [\"h1\"]}}") (codes "[]") ≡ wrong_signatures 4
unfolding reading
signatures_033 = refl

-- name with_items
signatures_034 : found_with (codes "[{\"name\": \"with_items\", \"params\": {}, \"ok\": {\"changed\": {\"kind\": \"bool\", \"always\": true}}, \"failure\": {\"changed\": {\"kind\": \"bool\", \"always\": true}, \"msg\": {\"kind\": \"text\", \"always\": true}}}]") (codes "{\"all\": {\"hosts\": [\"h1\"]}}") (codes "[]") ≡ wrong_signatures 4
unfolding reading
signatures_034 = refl

-- name withx
signatures_035 : found_with (codes "[{\"name\": \"withx\", \"params\": {}, \"ok\": {\"changed\": {\"kind\": \"bool\", \"always\": true}}, \"failure\": {\"changed\": {\"kind\": \"bool\", \"always\": true}, \"msg\": {\"kind\": \"text\", \"always\": true}}}]") (codes "{\"all\": {\"hosts\": [\"h1\"]}}") (codes "[]") ≡ verdict (accepted 0)
unfolding reading
signatures_035 = refl

-- name ansible
signatures_037 : found_with (codes "[{\"name\": \"ansible\", \"params\": {}, \"ok\": {\"changed\": {\"kind\": \"bool\", \"always\": true}}, \"failure\": {\"changed\": {\"kind\": \"bool\", \"always\": true}, \"msg\": {\"kind\": \"text\", \"always\": true}}}]") (codes "{\"all\": {\"hosts\": [\"h1\"]}}") (codes "[]") ≡ verdict (accepted 0)
unfolding reading
signatures_037 = refl

-- name ansible_x
signatures_038 : found_with (codes "[{\"name\": \"ansible_x\", \"params\": {}, \"ok\": {\"changed\": {\"kind\": \"bool\", \"always\": true}}, \"failure\": {\"changed\": {\"kind\": \"bool\", \"always\": true}, \"msg\": {\"kind\": \"text\", \"always\": true}}}]") (codes "{\"all\": {\"hosts\": [\"h1\"]}}") (codes "[]") ≡ verdict (accepted 0)
unfolding reading
signatures_038 = refl

-- name ansible.builtin.ping
signatures_039 : found_with (codes "[{\"name\": \"ansible.builtin.ping\", \"params\": {}, \"ok\": {\"changed\": {\"kind\": \"bool\", \"always\": true}}, \"failure\": {\"changed\": {\"kind\": \"bool\", \"always\": true}, \"msg\": {\"kind\": \"text\", \"always\": true}}}]") (codes "{\"all\": {\"hosts\": [\"h1\"]}}") (codes "[]") ≡ wrong_signatures 4
unfolding reading
signatures_039 = refl

-- params a list
signatures_045 : found_with (codes "[{\"name\": \"probe\", \"params\": [], \"ok\": {\"changed\": {\"kind\": \"bool\", \"always\": true}}, \"failure\": {\"changed\": {\"kind\": \"bool\", \"always\": true}, \"msg\": {\"kind\": \"text\", \"always\": true}}}]") (codes "{\"all\": {\"hosts\": [\"h1\"]}}") (codes "[]") ≡ wrong_signatures 2
unfolding reading
signatures_045 = refl

-- a parameter's name
signatures_046 : found_with (codes "[{\"name\": \"probe\", \"params\": {\"a-b\": {\"kind\": \"int\", \"required\": true}}, \"ok\": {\"changed\": {\"kind\": \"bool\", \"always\": true}}, \"failure\": {\"changed\": {\"kind\": \"bool\", \"always\": true}, \"msg\": {\"kind\": \"text\", \"always\": true}}}]") (codes "{\"all\": {\"hosts\": [\"h1\"]}}") (codes "[]") ≡ wrong_signatures 2
unfolding reading
signatures_046 = refl

-- required a text
signatures_048 : found_with (codes "[{\"name\": \"probe\", \"params\": {\"a\": {\"kind\": \"int\", \"required\": \"yes\"}}, \"ok\": {\"changed\": {\"kind\": \"bool\", \"always\": true}}, \"failure\": {\"changed\": {\"kind\": \"bool\", \"always\": true}, \"msg\": {\"kind\": \"text\", \"always\": true}}}]") (codes "{\"all\": {\"hosts\": [\"h1\"]}}") (codes "[]") ≡ wrong_signatures 2
unfolding reading
signatures_048 = refl

-- kind null
signatures_052 : found_with (codes "[{\"name\": \"probe\", \"params\": {\"a\": {\"kind\": null, \"required\": true}}, \"ok\": {\"changed\": {\"kind\": \"bool\", \"always\": true}}, \"failure\": {\"changed\": {\"kind\": \"bool\", \"always\": true}, \"msg\": {\"kind\": \"text\", \"always\": true}}}]") (codes "{\"all\": {\"hosts\": [\"h1\"]}}") (codes "[]") ≡ wrong_signatures 2
unfolding reading
signatures_052 = refl

-- kind {"list": "int", "max": 1.5}
signatures_056 : found_with (codes "[{\"name\": \"probe\", \"params\": {\"a\": {\"kind\": {\"list\": \"int\", \"max\": 1.5}, \"required\": true}}, \"ok\": {\"changed\": {\"kind\": \"bool\", \"always\": true}}, \"failure\": {\"changed\": {\"kind\": \"bool\", \"always\": true}, \"msg\": {\"kind\": \"text\", \"always\": true}}}]") (codes "{\"all\": {\"hosts\": [\"h1\"]}}") (codes "[]") ≡ wrong_signatures 2
unfolding reading
signatures_056 = refl

-- kind {"rec": {"a": "int"}}
signatures_059 : found_with (codes "[{\"name\": \"probe\", \"params\": {\"a\": {\"kind\": {\"rec\": {\"a\": \"int\"}}, \"required\": true}}, \"ok\": {\"changed\": {\"kind\": \"bool\", \"always\": true}}, \"failure\": {\"changed\": {\"kind\": \"bool\", \"always\": true}, \"msg\": {\"kind\": \"text\", \"always\": true}}}]") (codes "{\"all\": {\"hosts\": [\"h1\"]}}") (codes "[]") ≡ wrong_signatures 2
unfolding reading
signatures_059 = refl

-- kind {"list": "zz", "max": 1}
signatures_061 : found_with (codes "[{\"name\": \"probe\", \"params\": {\"a\": {\"kind\": {\"list\": \"zz\", \"max\": 1}, \"required\": true}}, \"ok\": {\"changed\": {\"kind\": \"bool\", \"always\": true}}, \"failure\": {\"changed\": {\"kind\": \"bool\", \"always\": true}, \"msg\": {\"kind\": \"text\", \"always\": true}}}]") (codes "{\"all\": {\"hosts\": [\"h1\"]}}") (codes "[]") ≡ wrong_signatures 2
unfolding reading
signatures_061 = refl

-- kind {"rec": {"a": {"kind": "int", "always": 1}}}
signatures_062 : found_with (codes "[{\"name\": \"probe\", \"params\": {\"a\": {\"kind\": {\"rec\": {\"a\": {\"kind\": \"int\", \"always\": 1}}}, \"required\": true}}, \"ok\": {\"changed\": {\"kind\": \"bool\", \"always\": true}}, \"failure\": {\"changed\": {\"kind\": \"bool\", \"always\": true}, \"msg\": {\"kind\": \"text\", \"always\": true}}}]") (codes "{\"all\": {\"hosts\": [\"h1\"]}}") (codes "[]") ≡ wrong_signatures 2
unfolding reading
signatures_062 = refl

-- changed an int
signatures_067 : found_with (codes "[{\"name\": \"probe\", \"params\": {}, \"ok\": {\"changed\": {\"kind\": \"int\", \"always\": true}}, \"failure\": {\"changed\": {\"kind\": \"bool\", \"always\": true}, \"msg\": {\"kind\": \"text\", \"always\": true}}}]") (codes "{\"all\": {\"hosts\": [\"h1\"]}}") (codes "[]") ≡ wrong_signatures 3
unfolding reading
signatures_067 = refl

-- msg maybe
signatures_069 : found_with (codes "[{\"name\": \"probe\", \"params\": {}, \"ok\": {\"changed\": {\"kind\": \"bool\", \"always\": true}}, \"failure\": {\"changed\": {\"kind\": \"bool\", \"always\": true}, \"msg\": {\"kind\": \"text\", \"always\": false}}}]") (codes "{\"all\": {\"hosts\": [\"h1\"]}}") (codes "[]") ≡ wrong_signatures 3
unfolding reading
signatures_069 = refl

-- a field unreachable
signatures_075 : found_with (codes "[{\"name\": \"probe\", \"params\": {}, \"ok\": {\"changed\": {\"kind\": \"bool\", \"always\": true}, \"unreachable\": {\"kind\": \"bool\", \"always\": false}}, \"failure\": {\"changed\": {\"kind\": \"bool\", \"always\": true}, \"msg\": {\"kind\": \"text\", \"always\": true}}}]") (codes "{\"all\": {\"hosts\": [\"h1\"]}}") (codes "[]") ≡ wrong_signatures 3
unfolding reading
signatures_075 = refl

-- S04 and S05
signatures_078 : found_with (codes "[{\"name\": \"ping\", \"params\": {\"p\": {\"kind\": {\"list\": \"int\", \"max\": 65537}, \"required\": false}}, \"ok\": {\"changed\": {\"kind\": \"bool\", \"always\": true}}, \"failure\": {\"changed\": {\"kind\": \"bool\", \"always\": true}, \"msg\": {\"kind\": \"text\", \"always\": true}}}]") (codes "{\"all\": {\"hosts\": [\"h1\"]}}") (codes "[]") ≡ wrong_signatures 4
unfolding reading
signatures_078 = refl

-- declared module, list too long
signatures_083 : found_with (codes "[{\"name\": \"probe\", \"params\": {\"p\": {\"kind\": {\"list\": \"int\", \"max\": 1}, \"required\": true}}, \"ok\": {\"changed\": {\"kind\": \"bool\", \"always\": true}}, \"failure\": {\"changed\": {\"kind\": \"bool\", \"always\": true}, \"msg\": {\"kind\": \"text\", \"always\": true}}}]") (codes "{\"all\": {\"hosts\": [\"h1\"]}}") (codes "[{\"hosts\": \"all\", \"tasks\": [{\"probe\": {\"p\": [1, 2]}}]}]") ≡ verdict (refused (record { code = 4; line = 2; host = Some (codes "h1") }))
unfolding reading
signatures_083 = refl

-- declared module, record with a field more
signatures_084 : found_with (codes "[{\"name\": \"probe\", \"params\": {\"p\": {\"kind\": {\"rec\": {\"a\": {\"kind\": \"int\", \"always\": true}}}, \"required\": true}}, \"ok\": {\"changed\": {\"kind\": \"bool\", \"always\": true}}, \"failure\": {\"changed\": {\"kind\": \"bool\", \"always\": true}, \"msg\": {\"kind\": \"text\", \"always\": true}}}]") (codes "{\"all\": {\"hosts\": [\"h1\"]}}") (codes "[{\"hosts\": \"all\", \"tasks\": [{\"probe\": {\"p\": {\"a\": 1, \"b\": 2}}}]}]") ≡ verdict (refused (record { code = 4; line = 2; host = Some (codes "h1") }))
unfolding reading
signatures_084 = refl
