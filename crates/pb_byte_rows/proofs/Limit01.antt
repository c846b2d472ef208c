-- Cases of limit, computed from the bytes of their files.
use Rattle.std.specs.Prelude.{◌≡◌, refl, None, codes}
use Rattle.pb_language.specs.Verdict.{accepted, refused}
use Rattle.pb_byte_rows.specs.Found.{wrong_signatures, wrong_inventory, wrong_book, verdict, found, found_with}
use Rattle.pb_byte_rows.proofs.Computing.{reading}

-- 64 plays
limit_012 : found (codes "{\"all\": {\"hosts\": [\"h1\"]}}") (codes "[{\"hosts\":\"all\"},{\"hosts\":\"all\"},{\"hosts\":\"all\"},{\"hosts\":\"all\"},{\"hosts\":\"all\"},{\"hosts\":\"all\"},{\"hosts\":\"all\"},{\"hosts\":\"all\"},{\"hosts\":\"all\"},{\"hosts\":\"all\"},{\"hosts\":\"all\"},{\"hosts\":\"all\"},{\"hosts\":\"all\"},{\"hosts\":\"all\"},{\"hosts\":\"all\"},{\"hosts\":\"all\"},{\"hosts\":\"all\"},{\"hosts\":\"all\"},{\"hosts\":\"all\"},{\"hosts\":\"all\"},{\"hosts\":\"all\"},{\"hosts\":\"all\"},{\"hosts\":\"all\"},{\"hosts\":\"all\"},{\"hosts\":\"all\"},{\"hosts\":\"all\"},{\"hosts\":\"all\"},{\"hosts\":\"all\"},{\"hosts\":\"all\"},{\"hosts\":\"all\"},{\"hosts\":\"all\"},{\"hosts\":\"all\"},{\"hosts\":\"all\"},{\"hosts\":\"all\"},{\"hosts\":\"all\"},{\"hosts\":\"all\"},{\"hosts\":\"all\"},{\"hosts\":\"all\"},{\"hosts\":\"all\"},{\"hosts\":\"all\"},{\"hosts\":\"all\"},{\"hosts\":\"all\"},{\"hosts\":\"all\"},{\"hosts\":\"all\"},{\"hosts\":\"all\"},{\"hosts\":\"all\"},{\"hosts\":\"all\"},{\"hosts\":\"all\"},{\"hosts\":\"all\"},{\"hosts\":\"all\"},{\"hosts\":\"all\"},{\"hosts\":\"all\"},{\"hosts\":\"all\"},{\"hosts\":\"all\"},{\"hosts\":\"all\"},{\"hosts\":\"all\"},{\"hosts\":\"all\"},{\"hosts\":\"all\"},{\"hosts\":\"all\"},{\"hosts\":\"all\"},{\"hosts\":\"all\"},{\"hosts\":\"all\"},{\"hosts\":\"all\"},{\"hosts\":\"all\"}]") ≡ verdict (accepted 0)
unfolding reading
limit_012 = refl

-- blocks nested 16
limit_022 : found (codes "{\"all\": {\"hosts\": [\"h1\"]}}") (codes "[{\"hosts\":\"all\",\"tasks\":[{\"block\":[{\"block\":[{\"block\":[{\"block\":[{\"block\":[{\"block\":[{\"block\":[{\"block\":[{\"block\":[{\"block\":[{\"block\":[{\"block\":[{\"block\":[{\"block\":[{\"block\":[{\"block\":[{\"ping\":null}]}]}]}]}]}]}]}]}]}]}]}]}]}]}]}]}]}]") ≡ verdict (accepted 1)
unfolding reading
limit_022 = refl

-- blocks nested 16 in always
limit_023 : found (codes "{\"all\": {\"hosts\": [\"h1\"]}}") (codes "[{\"hosts\":\"all\",\"tasks\":[{\"block\":[],\"rescue\":[{\"block\":[],\"rescue\":[{\"block\":[],\"rescue\":[{\"block\":[],\"rescue\":[{\"block\":[],\"rescue\":[{\"block\":[],\"rescue\":[{\"block\":[],\"rescue\":[{\"block\":[],\"rescue\":[{\"block\":[],\"rescue\":[{\"block\":[],\"rescue\":[{\"block\":[],\"rescue\":[{\"block\":[],\"rescue\":[{\"block\":[],\"rescue\":[{\"block\":[],\"rescue\":[{\"block\":[],\"rescue\":[{\"block\":[],\"rescue\":[{\"ping\":null}]}]}]}]}]}]}]}]}]}]}]}]}]}]}]}]}]}]") ≡ verdict (accepted 1)
unfolding reading
limit_023 = refl

-- blocks nested 17
limit_024 : found (codes "{\"all\": {\"hosts\": [\"h1\"]}}") (codes "[{\"hosts\":\"all\",\"tasks\":[{\"block\":[{\"block\":[{\"block\":[{\"block\":[{\"block\":[{\"block\":[{\"block\":[{\"block\":[{\"block\":[{\"block\":[{\"block\":[{\"block\":[{\"block\":[{\"block\":[{\"block\":[{\"block\":[{\"block\":[{\"ping\":null}]}]}]}]}]}]}]}]}]}]}]}]}]}]}]}]}]}]}]") ≡ wrong_book (record { line = 18; code = 8 })
unfolding reading
limit_024 = refl

-- 32 levels: vars
limit_062 : found (codes "{\"all\": {\"hosts\": [\"h1\"]}}") (codes "[{\"hosts\": \"all\", \"tasks\": [{\"ping\": null}], \"vars\": {\"v\": [[[[[[[[[[[[[[[[[[[[[[[[[[[[[[[[]]]]]]]]]]]]]]]]]]]]]]]]]]]]]]]]}}]") ≡ verdict (accepted 1)
unfolding reading
limit_062 = refl

-- 32 levels: an item of loop
limit_064 : found (codes "{\"all\": {\"hosts\": [\"h1\"]}}") (codes "[{\"hosts\": \"all\", \"tasks\": [{\"ping\": null, \"loop\": [[[[[[[[[[[[[[[[[[[[[[[[[[[[[[[[[]]]]]]]]]]]]]]]]]]]]]]]]]]]]]]]]]}]}]") ≡ verdict (accepted 1)
unfolding reading
limit_064 = refl

-- 33 levels: vars
limit_067 : found (codes "{\"all\": {\"hosts\": [\"h1\"]}}") (codes "[{\"hosts\": \"all\", \"tasks\": [{\"ping\": null}], \"vars\": {\"v\": [[[[[[[[[[[[[[[[[[[[[[[[[[[[[[[[[]]]]]]]]]]]]]]]]]]]]]]]]]]]]]]]]]}}]") ≡ wrong_book (record { line = 1; code = 8 })
unfolding reading
limit_067 = refl

-- 33 levels: debug msg
limit_068 : found (codes "{\"all\": {\"hosts\": [\"h1\"]}}") (codes "[{\"hosts\": \"all\", \"tasks\": [{\"debug\": {\"msg\": [[[[[[[[[[[[[[[[[[[[[[[[[[[[[[[[[]]]]]]]]]]]]]]]]]]]]]]]]]]]]]]]]]}}]}]") ≡ wrong_book (record { line = 2; code = 8 })
unfolding reading
limit_068 = refl

-- 33 levels: an item of loop
limit_069 : found (codes "{\"all\": {\"hosts\": [\"h1\"]}}") (codes "[{\"hosts\": \"all\", \"tasks\": [{\"ping\": null, \"loop\": [[[[[[[[[[[[[[[[[[[[[[[[[[[[[[[[[[]]]]]]]]]]]]]]]]]]]]]]]]]]]]]]]]]]}]}]") ≡ wrong_book (record { line = 2; code = 8 })
unfolding reading
limit_069 = refl

-- 33 levels: a fact
limit_070 : found (codes "{\"all\": {\"hosts\": [\"h1\"]}}") (codes "[{\"hosts\": \"all\", \"tasks\": [{\"set_fact\": {\"y\": [[[[[[[[[[[[[[[[[[[[[[[[[[[[[[[[[]]]]]]]]]]]]]]]]]]]]]]]]]]]]]]]]]}}]}]") ≡ wrong_book (record { line = 2; code = 8 })
unfolding reading
limit_070 = refl

-- 33 levels, records
limit_071 : found (codes "{\"all\": {\"hosts\": [\"h1\"]}}") (codes "[{\"hosts\":\"all\",\"tasks\":[{\"debug\":{\"msg\":{\"k\":{\"k\":{\"k\":{\"k\":{\"k\":{\"k\":{\"k\":{\"k\":{\"k\":{\"k\":{\"k\":{\"k\":{\"k\":{\"k\":{\"k\":{\"k\":{\"k\":{\"k\":{\"k\":{\"k\":{\"k\":{\"k\":{\"k\":{\"k\":{\"k\":{\"k\":{\"k\":{\"k\":{\"k\":{\"k\":{\"k\":{\"k\":{\"k\":1}}}}}}}}}}}}}}}}}}}}}}}}}}}}}}}}}}}]}]") ≡ wrong_book (record { line = 2; code = 8 })
unfolding reading
limit_071 = refl

-- vars name of 128 bytes
limit_073 : found (codes "{\"all\": {\"hosts\": [\"h1\"]}}") (codes "[{\"hosts\":\"all\",\"vars\":{\"rrrrrrrrrrrrrrrrrrrrrrrrrrrrrrrrrrrrrrrrrrrrrrrrrrrrrrrrrrrrrrrrrrrrrrrrrrrrrrrrrrrrrrrrrrrrrrrrrrrrrrrrrrrrrrrrrrrrrrrrrrrrrrrr\":1}}]") ≡ verdict (accepted 0)
unfolding reading
limit_073 = refl

-- register of 129 bytes
limit_075 : found (codes "{\"all\": {\"hosts\": [\"h1\"]}}") (codes "[{\"hosts\":\"all\",\"tasks\":[{\"ping\":null,\"register\":\"rrrrrrrrrrrrrrrrrrrrrrrrrrrrrrrrrrrrrrrrrrrrrrrrrrrrrrrrrrrrrrrrrrrrrrrrrrrrrrrrrrrrrrrrrrrrrrrrrrrrrrrrrrrrrrrrrrrrrrrrrrrrrrrrr\"}]}]") ≡ wrong_book (record { line = 2; code = 4 })
unfolding reading
limit_075 = refl

-- set_fact name of 129 bytes
limit_077 : found (codes "{\"all\": {\"hosts\": [\"h1\"]}}") (codes "[{\"hosts\":\"all\",\"tasks\":[{\"set_fact\":{\"rrrrrrrrrrrrrrrrrrrrrrrrrrrrrrrrrrrrrrrrrrrrrrrrrrrrrrrrrrrrrrrrrrrrrrrrrrrrrrrrrrrrrrrrrrrrrrrrrrrrrrrrrrrrrrrrrrrrrrrrrrrrrrrrr\":1}}]}]") ≡ verdict (refused (record { code = 7; line = 2; host = None }))
unfolding reading
limit_077 = refl

-- host name of 253
limit_092 : found (codes "{\"all\":[\"hhhhhhhhhhhhhhhhhhhhhhhhhhhhhhhhhhhhhhhhhhhhhhhhhhhhhhhhhhhhhhhhhhhhhhhhhhhhhhhhhhhhhhhhhhhhhhhhhhhhhhhhhhhhhhhhhhhhhhhhhhhhhhhhhhhhhhhhhhhhhhhhhhhhhhhhhhhhhhhhhhhhhhhhhhhhhhhhhhhhhhhhhhhhhhhhhhhhhhhhhhhhhhhhhhhhhhhhhhhhhhhhhhhhhhhhhhhhhhhhhhhhhhhhhhhhh\"]}") (codes "[]") ≡ verdict (accepted 0)
unfolding reading
limit_092 = refl

-- host name of 254
limit_093 : found (codes "{\"all\":[\"hhhhhhhhhhhhhhhhhhhhhhhhhhhhhhhhhhhhhhhhhhhhhhhhhhhhhhhhhhhhhhhhhhhhhhhhhhhhhhhhhhhhhhhhhhhhhhhhhhhhhhhhhhhhhhhhhhhhhhhhhhhhhhhhhhhhhhhhhhhhhhhhhhhhhhhhhhhhhhhhhhhhhhhhhhhhhhhhhhhhhhhhhhhhhhhhhhhhhhhhhhhhhhhhhhhhhhhhhhhhhhhhhhhhhhhhhhhhhhhhhhhhhhhhhhhhhh\"]}") (codes "[]") ≡ wrong_inventory 3
unfolding reading
limit_093 = refl

-- group name of 100
limit_094 : found (codes "{\"gggggggggggggggggggggggggggggggggggggggggggggggggggggggggggggggggggggggggggggggggggggggggggggggggggg\":[]}") (codes "[]") ≡ verdict (accepted 0)
unfolding reading
limit_094 = refl

-- group name of 101
limit_096 : found (codes "{\"ggggggggggggggggggggggggggggggggggggggggggggggggggggggggggggggggggggggggggggggggggggggggggggggggggggg\":[]}") (codes "[]") ≡ wrong_inventory 2
unfolding reading
limit_096 = refl

-- list bound 65537
limit_113 : found_with (codes "[{\"name\": \"probe\", \"params\": {\"p\": {\"kind\": {\"list\": \"int\", \"max\": 65537}, \"required\": false}}, \"ok\": {\"changed\": {\"kind\": \"bool\", \"always\": true}}, \"failure\": {\"changed\": {\"kind\": \"bool\", \"always\": true}, \"msg\": {\"kind\": \"text\", \"always\": true}}}]") (codes "{\"all\": {\"hosts\": [\"h1\"]}}") (codes "[]") ≡ wrong_signatures 5
unfolding reading
limit_113 = refl

-- list bound -1
limit_114 : found_with (codes "[{\"name\": \"probe\", \"params\": {\"p\": {\"kind\": {\"list\": \"int\", \"max\": -1}, \"required\": false}}, \"ok\": {\"changed\": {\"kind\": \"bool\", \"always\": true}}, \"failure\": {\"changed\": {\"kind\": \"bool\", \"always\": true}, \"msg\": {\"kind\": \"text\", \"always\": true}}}]") (codes "{\"all\": {\"hosts\": [\"h1\"]}}") (codes "[]") ≡ wrong_signatures 2
unfolding reading
limit_114 = refl

-- JSON depth 126
limit_117 : found (codes "{\"all\": {\"hosts\": [\"h1\"]}}") (codes "[[[[[[[[[[[[[[[[[[[[[[[[[[[[[[[[[[[[[[[[[[[[[[[[[[[[[[[[[[[[[[[[[[[[[[[[[[[[[[[[[[[[[[[[[[[[[[[[[[[[[[[[[[[[[[[[[[[[[[[[[[[[[[]]]]]]]]]]]]]]]]]]]]]]]]]]]]]]]]]]]]]]]]]]]]]]]]]]]]]]]]]]]]]]]]]]]]]]]]]]]]]]]]]]]]]]]]]]]]]]]]]]]]]]]]]]]]]]]]]]]]]]]]]]]]]]") ≡ wrong_book (record { line = 1; code = 2 })
unfolding reading
limit_117 = refl

-- JSON depth 126 in the inventory
limit_118 : found (codes "{\"all\":[[[[[[[[[[[[[[[[[[[[[[[[[[[[[[[[[[[[[[[[[[[[[[[[[[[[[[[[[[[[[[[[[[[[[[[[[[[[[[[[[[[[[[[[[[[[[[[[[[[[[[[[[[[[[[[[[[[[[[[[[[[[[]]]]]]]]]]]]]]]]]]]]]]]]]]]]]]]]]]]]]]]]]]]]]]]]]]]]]]]]]]]]]]]]]]]]]]]]]]]]]]]]]]]]]]]]]]]]]]]]]]]]]]]]]]]]]]]]]]]]]]]]]]]]]}") (codes "[]") ≡ wrong_inventory 2
unfolding reading
limit_118 = refl

-- JSON depth 128
limit_121 : found (codes "{\"all\": {\"hosts\": [\"h1\"]}}") (codes "[[[[[[[[[[[[[[[[[[[[[[[[[[[[[[[[[[[[[[[[[[[[[[[[[[[[[[[[[[[[[[[[[[[[[[[[[[[[[[[[[[[[[[[[[[[[[[[[[[[[[[[[[[[[[[[[[[[[[[[[[[[[[[[[]]]]]]]]]]]]]]]]]]]]]]]]]]]]]]]]]]]]]]]]]]]]]]]]]]]]]]]]]]]]]]]]]]]]]]]]]]]]]]]]]]]]]]]]]]]]]]]]]]]]]]]]]]]]]]]]]]]]]]]]]]]]]]]]") ≡ wrong_book (record { line = 0; code = 1 })
unfolding reading
limit_121 = refl

-- JSON depth 128 in the inventory
limit_122 : found (codes "{\"all\":[[[[[[[[[[[[[[[[[[[[[[[[[[[[[[[[[[[[[[[[[[[[[[[[[[[[[[[[[[[[[[[[[[[[[[[[[[[[[[[[[[[[[[[[[[[[[[[[[[[[[[[[[[[[[[[[[[[[[[[[[[[[[[[]]]]]]]]]]]]]]]]]]]]]]]]]]]]]]]]]]]]]]]]]]]]]]]]]]]]]]]]]]]]]]]]]]]]]]]]]]]]]]]]]]]]]]]]]]]]]]]]]]]]]]]]]]]]]]]]]]]]]]]]]]]]]]]}") (codes "[]") ≡ wrong_inventory 1
unfolding reading
limit_122 = refl
