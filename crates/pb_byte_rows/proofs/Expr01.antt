-- Cases of expr, computed from the bytes of their files.
use Rattle.std.specs.Prelude.{◌≡◌, refl, [], ◌∷◌, Some, None, codes}
use Rattle.pb_language.specs.Verdict.{accepted, refused}
use Rattle.pb_byte_rows.specs.Found.{wrong_book, verdict, found}
use Rattle.pb_byte_rows.proofs.Computing.{reading}

-- when
expr_001 : found (codes "{\"all\": {\"hosts\": [\"h1\"], \"vars\": {\"inv\": 3}}}") (codes "[{\"hosts\": \"all\", \"tasks\": [{\"command\": \"x\", \"register\": \"out\"}, {\"ping\": null, \"when\": \"\"}]}]") ≡ wrong_book (record { line = 3; code = 7 })
unfolding reading
expr_001 = refl

-- when
expr_002 : found (codes "{\"all\": {\"hosts\": [\"h1\"], \"vars\": {\"inv\": 3}}}") (codes "[{\"hosts\": \"all\", \"tasks\": [{\"command\": \"x\", \"register\": \"out\"}, {\"ping\": null, \"when\": \"a ==\"}]}]") ≡ wrong_book (record { line = 3; code = 7 })
unfolding reading
expr_002 = refl

-- when
expr_003 : found (codes "{\"all\": {\"hosts\": [\"h1\"], \"vars\": {\"inv\": 3}}}") (codes "[{\"hosts\": \"all\", \"tasks\": [{\"command\": \"x\", \"register\": \"out\"}, {\"ping\": null, \"when\": \"a + b\"}]}]") ≡ wrong_book (record { line = 3; code = 7 })
unfolding reading
expr_003 = refl

-- when
expr_004 : found (codes "{\"all\": {\"hosts\": [\"h1\"], \"vars\": {\"inv\": 3}}}") (codes "[{\"hosts\": \"all\", \"tasks\": [{\"command\": \"x\", \"register\": \"out\"}, {\"ping\": null, \"when\": \"a.\"}]}]") ≡ wrong_book (record { line = 3; code = 7 })
unfolding reading
expr_004 = refl

-- when
expr_005 : found (codes "{\"all\": {\"hosts\": [\"h1\"], \"vars\": {\"inv\": 3}}}") (codes "[{\"hosts\": \"all\", \"tasks\": [{\"command\": \"x\", \"register\": \"out\"}, {\"ping\": null, \"when\": \"a..b\"}]}]") ≡ wrong_book (record { line = 3; code = 7 })
unfolding reading
expr_005 = refl

-- when
expr_007 : found (codes "{\"all\": {\"hosts\": [\"h1\"], \"vars\": {\"inv\": 3}}}") (codes "[{\"hosts\": \"all\", \"tasks\": [{\"command\": \"x\", \"register\": \"out\"}, {\"ping\": null, \"when\": \"a['x']\"}]}]") ≡ verdict (refused (record { code = 1; line = 3; host = Some (codes "h1") }))
unfolding reading
expr_007 = refl

-- when
expr_010 : found (codes "{\"all\": {\"hosts\": [\"h1\"], \"vars\": {\"inv\": 3}}}") (codes "[{\"hosts\": \"all\", \"tasks\": [{\"command\": \"x\", \"register\": \"out\"}, {\"ping\": null, \"when\": \"a[0]\"}]}]") ≡ wrong_book (record { line = 3; code = 7 })
unfolding reading
expr_010 = refl

-- when
expr_011 : found (codes "{\"all\": {\"hosts\": [\"h1\"], \"vars\": {\"inv\": 3}}}") (codes "[{\"hosts\": \"all\", \"tasks\": [{\"command\": \"x\", \"register\": \"out\"}, {\"ping\": null, \"when\": \"a[']\"}]}]") ≡ wrong_book (record { line = 3; code = 7 })
unfolding reading
expr_011 = refl

-- when
expr_014 : found (codes "{\"all\": {\"hosts\": [\"h1\"], \"vars\": {\"inv\": 3}}}") (codes "[{\"hosts\": \"all\", \"tasks\": [{\"command\": \"x\", \"register\": \"out\"}, {\"ping\": null, \"when\": \"'a\\\\n'\"}]}]") ≡ verdict (refused (record { code = 4; line = 3; host = Some (codes "h1") }))
unfolding reading
expr_014 = refl

-- when
expr_016 : found (codes "{\"all\": {\"hosts\": [\"h1\"], \"vars\": {\"inv\": 3}}}") (codes "[{\"hosts\": \"all\", \"tasks\": [{\"command\": \"x\", \"register\": \"out\"}, {\"ping\": null, \"when\": \"'\\\\''\"}]}]") ≡ verdict (refused (record { code = 4; line = 3; host = Some (codes "h1") }))
unfolding reading
expr_016 = refl

-- when
expr_017 : found (codes "{\"all\": {\"hosts\": [\"h1\"], \"vars\": {\"inv\": 3}}}") (codes "[{\"hosts\": \"all\", \"tasks\": [{\"command\": \"x\", \"register\": \"out\"}, {\"ping\": null, \"when\": \"\\\"a'b\\\"\"}]}]") ≡ verdict (refused (record { code = 4; line = 3; host = Some (codes "h1") }))
unfolding reading
expr_017 = refl

-- when
expr_019 : found (codes "{\"all\": {\"hosts\": [\"h1\"], \"vars\": {\"inv\": 3}}}") (codes "[{\"hosts\": \"all\", \"tasks\": [{\"command\": \"x\", \"register\": \"out\"}, {\"ping\": null, \"when\": \"-1\"}]}]") ≡ verdict (refused (record { code = 4; line = 3; host = Some (codes "h1") }))
unfolding reading
expr_019 = refl

-- when
expr_021 : found (codes "{\"all\": {\"hosts\": [\"h1\"], \"vars\": {\"inv\": 3}}}") (codes "[{\"hosts\": \"all\", \"tasks\": [{\"command\": \"x\", \"register\": \"out\"}, {\"ping\": null, \"when\": \"--1\"}]}]") ≡ wrong_book (record { line = 3; code = 7 })
unfolding reading
expr_021 = refl

-- when
expr_022 : found (codes "{\"all\": {\"hosts\": [\"h1\"], \"vars\": {\"inv\": 3}}}") (codes "[{\"hosts\": \"all\", \"tasks\": [{\"command\": \"x\", \"register\": \"out\"}, {\"ping\": null, \"when\": \"01\"}]}]") ≡ wrong_book (record { line = 3; code = 7 })
unfolding reading
expr_022 = refl

-- when
expr_023 : found (codes "{\"all\": {\"hosts\": [\"h1\"], \"vars\": {\"inv\": 3}}}") (codes "[{\"hosts\": \"all\", \"tasks\": [{\"command\": \"x\", \"register\": \"out\"}, {\"ping\": null, \"when\": \"-0\"}]}]") ≡ verdict (refused (record { code = 4; line = 3; host = Some (codes "h1") }))
unfolding reading
expr_023 = refl

-- when
expr_025 : found (codes "{\"all\": {\"hosts\": [\"h1\"], \"vars\": {\"inv\": 3}}}") (codes "[{\"hosts\": \"all\", \"tasks\": [{\"command\": \"x\", \"register\": \"out\"}, {\"ping\": null, \"when\": \"1.5\"}]}]") ≡ wrong_book (record { line = 3; code = 7 })
unfolding reading
expr_025 = refl

-- when
expr_026 : found (codes "{\"all\": {\"hosts\": [\"h1\"], \"vars\": {\"inv\": 3}}}") (codes "[{\"hosts\": \"all\", \"tasks\": [{\"command\": \"x\", \"register\": \"out\"}, {\"ping\": null, \"when\": \"1e3\"}]}]") ≡ wrong_book (record { line = 3; code = 7 })
unfolding reading
expr_026 = refl

-- when
expr_028 : found (codes "{\"all\": {\"hosts\": [\"h1\"], \"vars\": {\"inv\": 3}}}") (codes "[{\"hosts\": \"all\", \"tasks\": [{\"command\": \"x\", \"register\": \"out\"}, {\"ping\": null, \"when\": \"9223372036854775808\"}]}]") ≡ wrong_book (record { line = 3; code = 7 })
unfolding reading
expr_028 = refl

-- when
expr_029 : found (codes "{\"all\": {\"hosts\": [\"h1\"], \"vars\": {\"inv\": 3}}}") (codes "[{\"hosts\": \"all\", \"tasks\": [{\"command\": \"x\", \"register\": \"out\"}, {\"ping\": null, \"when\": \"-9223372036854775808\"}]}]") ≡ verdict (refused (record { code = 4; line = 3; host = Some (codes "h1") }))
unfolding reading
expr_029 = refl

-- when
expr_030 : found (codes "{\"all\": {\"hosts\": [\"h1\"], \"vars\": {\"inv\": 3}}}") (codes "[{\"hosts\": \"all\", \"tasks\": [{\"command\": \"x\", \"register\": \"out\"}, {\"ping\": null, \"when\": \"-9223372036854775809\"}]}]") ≡ wrong_book (record { line = 3; code = 7 })
unfolding reading
expr_030 = refl

-- when
expr_031 : found (codes "{\"all\": {\"hosts\": [\"h1\"], \"vars\": {\"inv\": 3}}}") (codes "[{\"hosts\": \"all\", \"tasks\": [{\"command\": \"x\", \"register\": \"out\"}, {\"ping\": null, \"when\": \"true\"}]}]") ≡ verdict (accepted 2)
unfolding reading
expr_031 = refl

-- when
expr_032 : found (codes "{\"all\": {\"hosts\": [\"h1\"], \"vars\": {\"inv\": 3}}}") (codes "[{\"hosts\": \"all\", \"tasks\": [{\"command\": \"x\", \"register\": \"out\"}, {\"ping\": null, \"when\": \"TRUE\"}]}]") ≡ verdict (refused (record { code = 1; line = 3; host = Some (codes "h1") }))
unfolding reading
expr_032 = refl

-- when
expr_034 : found (codes "{\"all\": {\"hosts\": [\"h1\"], \"vars\": {\"inv\": 3}}}") (codes "[{\"hosts\": \"all\", \"tasks\": [{\"command\": \"x\", \"register\": \"out\"}, {\"ping\": null, \"when\": \"None\"}]}]") ≡ verdict (refused (record { code = 4; line = 3; host = Some (codes "h1") }))
unfolding reading
expr_034 = refl

-- when
expr_035 : found (codes "{\"all\": {\"hosts\": [\"h1\"], \"vars\": {\"inv\": 3}}}") (codes "[{\"hosts\": \"all\", \"tasks\": [{\"command\": \"x\", \"register\": \"out\"}, {\"ping\": null, \"when\": \"null\"}]}]") ≡ verdict (refused (record { code = 1; line = 3; host = Some (codes "h1") }))
unfolding reading
expr_035 = refl

-- when
expr_037 : found (codes "{\"all\": {\"hosts\": [\"h1\"], \"vars\": {\"inv\": 3}}}") (codes "[{\"hosts\": \"all\", \"tasks\": [{\"command\": \"x\", \"register\": \"out\"}, {\"ping\": null, \"when\": \"not\"}]}]") ≡ wrong_book (record { line = 3; code = 7 })
unfolding reading
expr_037 = refl

-- when
expr_042 : found (codes "{\"all\": {\"hosts\": [\"h1\"], \"vars\": {\"inv\": 3}}}") (codes "[{\"hosts\": \"all\", \"tasks\": [{\"command\": \"x\", \"register\": \"out\"}, {\"ping\": null, \"when\": \"true)\"}]}]") ≡ wrong_book (record { line = 3; code = 7 })
unfolding reading
expr_042 = refl

-- when
expr_046 : found (codes "{\"all\": {\"hosts\": [\"h1\"], \"vars\": {\"inv\": 3}}}") (codes "[{\"hosts\": \"all\", \"tasks\": [{\"command\": \"x\", \"register\": \"out\"}, {\"ping\": null, \"when\": \"[,1]\"}]}]") ≡ wrong_book (record { line = 3; code = 7 })
unfolding reading
expr_046 = refl

-- when
expr_047 : found (codes "{\"all\": {\"hosts\": [\"h1\"], \"vars\": {\"inv\": 3}}}") (codes "[{\"hosts\": \"all\", \"tasks\": [{\"command\": \"x\", \"register\": \"out\"}, {\"ping\": null, \"when\": \"[1 2]\"}]}]") ≡ wrong_book (record { line = 3; code = 7 })
unfolding reading
expr_047 = refl

-- when
expr_048 : found (codes "{\"all\": {\"hosts\": [\"h1\"], \"vars\": {\"inv\": 3}}}") (codes "[{\"hosts\": \"all\", \"tasks\": [{\"command\": \"x\", \"register\": \"out\"}, {\"ping\": null, \"when\": \"[1, 'a', [true]]\"}]}]") ≡ verdict (refused (record { code = 4; line = 3; host = Some (codes "h1") }))
unfolding reading
expr_048 = refl

-- when
expr_049 : found (codes "{\"all\": {\"hosts\": [\"h1\"], \"vars\": {\"inv\": 3}}}") (codes "[{\"hosts\": \"all\", \"tasks\": [{\"command\": \"x\", \"register\": \"out\"}, {\"ping\": null, \"when\": \"1 < 2\"}]}]") ≡ verdict (accepted 2)
unfolding reading
expr_049 = refl

-- when
expr_050 : found (codes "{\"all\": {\"hosts\": [\"h1\"], \"vars\": {\"inv\": 3}}}") (codes "[{\"hosts\": \"all\", \"tasks\": [{\"command\": \"x\", \"register\": \"out\"}, {\"ping\": null, \"when\": \"1 < 2 < 3\"}]}]") ≡ wrong_book (record { line = 3; code = 7 })
unfolding reading
expr_050 = refl

-- when
expr_052 : found (codes "{\"all\": {\"hosts\": [\"h1\"], \"vars\": {\"inv\": 3}}}") (codes "[{\"hosts\": \"all\", \"tasks\": [{\"command\": \"x\", \"register\": \"out\"}, {\"ping\": null, \"when\": \"1 = 1\"}]}]") ≡ wrong_book (record { line = 3; code = 7 })
unfolding reading
expr_052 = refl

-- when
expr_053 : found (codes "{\"all\": {\"hosts\": [\"h1\"], \"vars\": {\"inv\": 3}}}") (codes "[{\"hosts\": \"all\", \"tasks\": [{\"command\": \"x\", \"register\": \"out\"}, {\"ping\": null, \"when\": \"1 != 2\"}]}]") ≡ verdict (accepted 2)
unfolding reading
expr_053 = refl

-- when
expr_055 : found (codes "{\"all\": {\"hosts\": [\"h1\"], \"vars\": {\"inv\": 3}}}") (codes "[{\"hosts\": \"all\", \"tasks\": [{\"command\": \"x\", \"register\": \"out\"}, {\"ping\": null, \"when\": \"1 in [1]\"}]}]") ≡ verdict (accepted 2)
unfolding reading
expr_055 = refl

-- when
expr_056 : found (codes "{\"all\": {\"hosts\": [\"h1\"], \"vars\": {\"inv\": 3}}}") (codes "[{\"hosts\": \"all\", \"tasks\": [{\"command\": \"x\", \"register\": \"out\"}, {\"ping\": null, \"when\": \"1 not in [1]\"}]}]") ≡ verdict (accepted 2)
unfolding reading
expr_056 = refl

-- when
expr_057 : found (codes "{\"all\": {\"hosts\": [\"h1\"], \"vars\": {\"inv\": 3}}}") (codes "[{\"hosts\": \"all\", \"tasks\": [{\"command\": \"x\", \"register\": \"out\"}, {\"ping\": null, \"when\": \"not 1 in [1]\"}]}]") ≡ verdict (accepted 2)
unfolding reading
expr_057 = refl

-- when
expr_058 : found (codes "{\"all\": {\"hosts\": [\"h1\"], \"vars\": {\"inv\": 3}}}") (codes "[{\"hosts\": \"all\", \"tasks\": [{\"command\": \"x\", \"register\": \"out\"}, {\"ping\": null, \"when\": \"1 is in [1]\"}]}]") ≡ wrong_book (record { line = 3; code = 7 })
unfolding reading
expr_058 = refl

-- when
expr_061 : found (codes "{\"all\": {\"hosts\": [\"h1\"], \"vars\": {\"inv\": 3}}}") (codes "[{\"hosts\": \"all\", \"tasks\": [{\"command\": \"x\", \"register\": \"out\"}, {\"ping\": null, \"when\": \"a is not not defined\"}]}]") ≡ wrong_book (record { line = 3; code = 7 })
unfolding reading
expr_061 = refl

-- when
expr_062 : found (codes "{\"all\": {\"hosts\": [\"h1\"], \"vars\": {\"inv\": 3}}}") (codes "[{\"hosts\": \"all\", \"tasks\": [{\"command\": \"x\", \"register\": \"out\"}, {\"ping\": null, \"when\": \"a isdefined\"}]}]") ≡ wrong_book (record { line = 3; code = 7 })
unfolding reading
expr_062 = refl

-- when
expr_064 : found (codes "{\"all\": {\"hosts\": [\"h1\"], \"vars\": {\"inv\": 3}}}") (codes "[{\"hosts\": \"all\", \"tasks\": [{\"command\": \"x\", \"register\": \"out\"}, {\"ping\": null, \"when\": \"a is none\"}]}]") ≡ wrong_book (record { line = 3; code = 7 })
unfolding reading
expr_064 = refl

-- when
expr_066 : found (codes "{\"all\": {\"hosts\": [\"h1\"], \"vars\": {\"inv\": 3}}}") (codes "[{\"hosts\": \"all\", \"tasks\": [{\"command\": \"x\", \"register\": \"out\"}, {\"ping\": null, \"when\": \"out is failed\"}]}]") ≡ verdict (accepted 2)
unfolding reading
expr_066 = refl

-- when
expr_067 : found (codes "{\"all\": {\"hosts\": [\"h1\"], \"vars\": {\"inv\": 3}}}") (codes "[{\"hosts\": \"all\", \"tasks\": [{\"command\": \"x\", \"register\": \"out\"}, {\"ping\": null, \"when\": \"a is defined == true\"}]}]") ≡ wrong_book (record { line = 3; code = 7 })
unfolding reading
expr_067 = refl

-- when
expr_069 : found (codes "{\"all\": {\"hosts\": [\"h1\"], \"vars\": {\"inv\": 3}}}") (codes "[{\"hosts\": \"all\", \"tasks\": [{\"command\": \"x\", \"register\": \"out\"}, {\"ping\": null, \"when\": \"a and b is defined\"}]}]") ≡ verdict (refused (record { code = 1; line = 3; host = Some (codes "h1") }))
unfolding reading
expr_069 = refl

-- when
expr_073 : found (codes "{\"all\": {\"hosts\": [\"h1\"], \"vars\": {\"inv\": 3}}}") (codes "[{\"hosts\": \"all\", \"tasks\": [{\"command\": \"x\", \"register\": \"out\"}, {\"ping\": null, \"when\": \"a | length is defined\"}]}]") ≡ verdict (refused (record { code = 1; line = 3; host = Some (codes "h1") }))
unfolding reading
expr_073 = refl

-- when
expr_077 : found (codes "{\"all\": {\"hosts\": [\"h1\"], \"vars\": {\"inv\": 3}}}") (codes "[{\"hosts\": \"all\", \"tasks\": [{\"command\": \"x\", \"register\": \"out\"}, {\"ping\": null, \"when\": \"[1] | length\"}]}]") ≡ verdict (refused (record { code = 4; line = 3; host = Some (codes "h1") }))
unfolding reading
expr_077 = refl

-- when
expr_079 : found (codes "{\"all\": {\"hosts\": [\"h1\"], \"vars\": {\"inv\": 3}}}") (codes "[{\"hosts\": \"all\", \"tasks\": [{\"command\": \"x\", \"register\": \"out\"}, {\"ping\": null, \"when\": \"a | default\"}]}]") ≡ wrong_book (record { line = 3; code = 7 })
unfolding reading
expr_079 = refl

-- when
expr_082 : found (codes "{\"all\": {\"hosts\": [\"h1\"], \"vars\": {\"inv\": 3}}}") (codes "[{\"hosts\": \"all\", \"tasks\": [{\"command\": \"x\", \"register\": \"out\"}, {\"ping\": null, \"when\": \"a | default(1, true)\"}]}]") ≡ wrong_book (record { line = 3; code = 7 })
unfolding reading
expr_082 = refl

-- when
expr_084 : found (codes "{\"all\": {\"hosts\": [\"h1\"], \"vars\": {\"inv\": 3}}}") (codes "[{\"hosts\": \"all\", \"tasks\": [{\"command\": \"x\", \"register\": \"out\"}, {\"ping\": null, \"when\": \"['a'] | join\"}]}]") ≡ verdict (refused (record { code = 4; line = 3; host = Some (codes "h1") }))
unfolding reading
expr_084 = refl

-- when
expr_087 : found (codes "{\"all\": {\"hosts\": [\"h1\"], \"vars\": {\"inv\": 3}}}") (codes "[{\"hosts\": \"all\", \"tasks\": [{\"command\": \"x\", \"register\": \"out\"}, {\"ping\": null, \"when\": \"a | upper\"}]}]") ≡ wrong_book (record { line = 3; code = 7 })
unfolding reading
expr_087 = refl

-- when
expr_088 : found (codes "{\"all\": {\"hosts\": [\"h1\"], \"vars\": {\"inv\": 3}}}") (codes "[{\"hosts\": \"all\", \"tasks\": [{\"command\": \"x\", \"register\": \"out\"}, {\"ping\": null, \"when\": \"a | map('x')\"}]}]") ≡ wrong_book (record { line = 3; code = 7 })
unfolding reading
expr_088 = refl

-- when
expr_091 : found (codes "{\"all\": {\"hosts\": [\"h1\"], \"vars\": {\"inv\": 3}}}") (codes "[{\"hosts\": \"all\", \"tasks\": [{\"command\": \"x\", \"register\": \"out\"}, {\"ping\": null, \"when\": \"{}\"}]}]") ≡ wrong_book (record { line = 3; code = 7 })
unfolding reading
expr_091 = refl

-- when
expr_095 : found (codes "{\"all\": {\"hosts\": [\"h1\"], \"vars\": {\"inv\": 3}}}") (codes "[{\"hosts\": \"all\", \"tasks\": [{\"command\": \"x\", \"register\": \"out\"}, {\"ping\": null, \"when\": \"a - b\"}]}]") ≡ wrong_book (record { line = 3; code = 7 })
unfolding reading
expr_095 = refl

-- when
expr_096 : found (codes "{\"all\": {\"hosts\": [\"h1\"], \"vars\": {\"inv\": 3}}}") (codes "[{\"hosts\": \"all\", \"tasks\": [{\"command\": \"x\", \"register\": \"out\"}, {\"ping\": null, \"when\": \"a -1\"}]}]") ≡ wrong_book (record { line = 3; code = 7 })
unfolding reading
expr_096 = refl

-- when
expr_097 : found (codes "{\"all\": {\"hosts\": [\"h1\"], \"vars\": {\"inv\": 3}}}") (codes "[{\"hosts\": \"all\", \"tasks\": [{\"command\": \"x\", \"register\": \"out\"}, {\"ping\": null, \"when\": \"a*b\"}]}]") ≡ wrong_book (record { line = 3; code = 7 })
unfolding reading
expr_097 = refl

-- when
expr_101 : found (codes "{\"all\": {\"hosts\": [\"h1\"], \"vars\": {\"inv\": 3}}}") (codes "[{\"hosts\": \"all\", \"tasks\": [{\"command\": \"x\", \"register\": \"out\"}, {\"ping\": null, \"when\": \"a#b\"}]}]") ≡ wrong_book (record { line = 3; code = 7 })
unfolding reading
expr_101 = refl

-- when
expr_103 : found (codes "{\"all\": {\"hosts\": [\"h1\"], \"vars\": {\"inv\": 3}}}") (codes "[{\"hosts\": \"all\", \"tasks\": [{\"command\": \"x\", \"register\": \"out\"}, {\"ping\": null, \"when\": \"!a\"}]}]") ≡ wrong_book (record { line = 3; code = 7 })
unfolding reading
expr_103 = refl

-- when
expr_104 : found (codes "{\"all\": {\"hosts\": [\"h1\"], \"vars\": {\"inv\": 3}}}") (codes "[{\"hosts\": \"all\", \"tasks\": [{\"command\": \"x\", \"register\": \"out\"}, {\"ping\": null, \"when\": \"a && b\"}]}]") ≡ wrong_book (record { line = 3; code = 7 })
unfolding reading
expr_104 = refl

-- when
expr_107 : found (codes "{\"all\": {\"hosts\": [\"h1\"], \"vars\": {\"inv\": 3}}}") (codes "[{\"hosts\": \"all\", \"tasks\": [{\"command\": \"x\", \"register\": \"out\"}, {\"ping\": null, \"when\": \"a?b\"}]}]") ≡ wrong_book (record { line = 3; code = 7 })
unfolding reading
expr_107 = refl

-- when
expr_109 : found (codes "{\"all\": {\"hosts\": [\"h1\"], \"vars\": {\"inv\": 3}}}") (91 ∷ 123 ∷ 34 ∷ 104 ∷ 111 ∷ 115 ∷ 116 ∷ 115 ∷ 34 ∷ 58 ∷ 32 ∷ 34 ∷ 97 ∷ 108 ∷ 108 ∷ 34 ∷ 44 ∷ 32 ∷ 34 ∷ 116 ∷ 97 ∷ 115 ∷ 107 ∷ 115 ∷ 34 ∷ 58 ∷ 32 ∷ 91 ∷ 123 ∷ 34 ∷ 99 ∷ 111 ∷ 109 ∷ 109 ∷ 97 ∷ 110 ∷ 100 ∷ 34 ∷ 58 ∷ 32 ∷ 34 ∷ 120 ∷ 34 ∷ 44 ∷ 32 ∷ 34 ∷ 114 ∷ 101 ∷ 103 ∷ 105 ∷ 115 ∷ 116 ∷ 101 ∷ 114 ∷ 34 ∷ 58 ∷ 32 ∷ 34 ∷ 111 ∷ 117 ∷ 116 ∷ 34 ∷ 125 ∷ 44 ∷ 32 ∷ 123 ∷ 34 ∷ 112 ∷ 105 ∷ 110 ∷ 103 ∷ 34 ∷ 58 ∷ 32 ∷ 110 ∷ 117 ∷ 108 ∷ 108 ∷ 44 ∷ 32 ∷ 34 ∷ 119 ∷ 104 ∷ 101 ∷ 110 ∷ 34 ∷ 58 ∷ 32 ∷ 34 ∷ 195 ∷ 169 ∷ 34 ∷ 125 ∷ 93 ∷ 125 ∷ 93 ∷ []) ≡ wrong_book (record { line = 3; code = 7 })
unfolding reading
expr_109 = refl

-- when
expr_111 : found (codes "{\"all\": {\"hosts\": [\"h1\"], \"vars\": {\"inv\": 3}}}") (91 ∷ 123 ∷ 34 ∷ 104 ∷ 111 ∷ 115 ∷ 116 ∷ 115 ∷ 34 ∷ 58 ∷ 32 ∷ 34 ∷ 97 ∷ 108 ∷ 108 ∷ 34 ∷ 44 ∷ 32 ∷ 34 ∷ 116 ∷ 97 ∷ 115 ∷ 107 ∷ 115 ∷ 34 ∷ 58 ∷ 32 ∷ 91 ∷ 123 ∷ 34 ∷ 99 ∷ 111 ∷ 109 ∷ 109 ∷ 97 ∷ 110 ∷ 100 ∷ 34 ∷ 58 ∷ 32 ∷ 34 ∷ 120 ∷ 34 ∷ 44 ∷ 32 ∷ 34 ∷ 114 ∷ 101 ∷ 103 ∷ 105 ∷ 115 ∷ 116 ∷ 101 ∷ 114 ∷ 34 ∷ 58 ∷ 32 ∷ 34 ∷ 111 ∷ 117 ∷ 116 ∷ 34 ∷ 125 ∷ 44 ∷ 32 ∷ 123 ∷ 34 ∷ 112 ∷ 105 ∷ 110 ∷ 103 ∷ 34 ∷ 58 ∷ 32 ∷ 110 ∷ 117 ∷ 108 ∷ 108 ∷ 44 ∷ 32 ∷ 34 ∷ 119 ∷ 104 ∷ 101 ∷ 110 ∷ 34 ∷ 58 ∷ 32 ∷ 34 ∷ 97 ∷ 46 ∷ 195 ∷ 169 ∷ 34 ∷ 125 ∷ 93 ∷ 125 ∷ 93 ∷ []) ≡ wrong_book (record { line = 3; code = 7 })
unfolding reading
expr_111 = refl

-- when
expr_114 : found (codes "{\"all\": {\"hosts\": [\"h1\"], \"vars\": {\"inv\": 3}}}") (codes "[{\"hosts\": \"all\", \"tasks\": [{\"command\": \"x\", \"register\": \"out\"}, {\"ping\": null, \"when\": \"hostvars['h1']\"}]}]") ≡ verdict (refused (record { code = 4; line = 3; host = Some (codes "h1") }))
unfolding reading
expr_114 = refl

-- when
expr_119 : found (codes "{\"all\": {\"hosts\": [\"h1\"], \"vars\": {\"inv\": 3}}}") (codes "[{\"hosts\": \"all\", \"tasks\": [{\"command\": \"x\", \"register\": \"out\"}, {\"ping\": null, \"when\": \"hostvars[item].x\"}]}]") ≡ verdict (refused (record { code = 1; line = 3; host = Some (codes "h1") }))
unfolding reading
expr_119 = refl

-- when
expr_122 : found (codes "{\"all\": {\"hosts\": [\"h1\"], \"vars\": {\"inv\": 3}}}") (codes "[{\"hosts\": \"all\", \"tasks\": [{\"command\": \"x\", \"register\": \"out\"}, {\"ping\": null, \"when\": \"hostvars[groups.all[0]].inv\"}]}]") ≡ verdict (refused (record { code = 4; line = 3; host = Some (codes "h1") }))
unfolding reading
expr_122 = refl

-- when
expr_123 : found (codes "{\"all\": {\"hosts\": [\"h1\"], \"vars\": {\"inv\": 3}}}") (codes "[{\"hosts\": \"all\", \"tasks\": [{\"command\": \"x\", \"register\": \"out\"}, {\"ping\": null, \"when\": \"hostvars[groups['all']].x\"}]}]") ≡ wrong_book (record { line = 3; code = 7 })
unfolding reading
expr_123 = refl

-- when
expr_124 : found (codes "{\"all\": {\"hosts\": [\"h1\"], \"vars\": {\"inv\": 3}}}") (codes "[{\"hosts\": \"all\", \"tasks\": [{\"command\": \"x\", \"register\": \"out\"}, {\"ping\": null, \"when\": \"hostvars[groups.all].x\"}]}]") ≡ wrong_book (record { line = 3; code = 7 })
unfolding reading
expr_124 = refl

-- when
expr_127 : found (codes "{\"all\": {\"hosts\": [\"h1\"], \"vars\": {\"inv\": 3}}}") (codes "[{\"hosts\": \"all\", \"tasks\": [{\"command\": \"x\", \"register\": \"out\"}, {\"ping\": null, \"when\": \"hostvars[0]\"}]}]") ≡ wrong_book (record { line = 3; code = 7 })
unfolding reading
expr_127 = refl

-- when
expr_128 : found (codes "{\"all\": {\"hosts\": [\"h1\"], \"vars\": {\"inv\": 3}}}") (codes "[{\"hosts\": \"all\", \"tasks\": [{\"command\": \"x\", \"register\": \"out\"}, {\"ping\": null, \"when\": \"hostvars[(item)].x\"}]}]") ≡ wrong_book (record { line = 3; code = 7 })
unfolding reading
expr_128 = refl

-- when
expr_130 : found (codes "{\"all\": {\"hosts\": [\"h1\"], \"vars\": {\"inv\": 3}}}") (codes "[{\"hosts\": \"all\", \"tasks\": [{\"command\": \"x\", \"register\": \"out\"}, {\"ping\": null, \"when\": \"groups\"}]}]") ≡ verdict (refused (record { code = 4; line = 3; host = Some (codes "h1") }))
unfolding reading
expr_130 = refl

-- when
expr_131 : found (codes "{\"all\": {\"hosts\": [\"h1\"], \"vars\": {\"inv\": 3}}}") (codes "[{\"hosts\": \"all\", \"tasks\": [{\"command\": \"x\", \"register\": \"out\"}, {\"ping\": null, \"when\": \"groups.all\"}]}]") ≡ verdict (refused (record { code = 4; line = 3; host = Some (codes "h1") }))
unfolding reading
expr_131 = refl

-- when
expr_132 : found (codes "{\"all\": {\"hosts\": [\"h1\"], \"vars\": {\"inv\": 3}}}") (codes "[{\"hosts\": \"all\", \"tasks\": [{\"command\": \"x\", \"register\": \"out\"}, {\"ping\": null, \"when\": \"groups['all']\"}]}]") ≡ verdict (refused (record { code = 4; line = 3; host = Some (codes "h1") }))
unfolding reading
expr_132 = refl

-- when
expr_133 : found (codes "{\"all\": {\"hosts\": [\"h1\"], \"vars\": {\"inv\": 3}}}") (codes "[{\"hosts\": \"all\", \"tasks\": [{\"command\": \"x\", \"register\": \"out\"}, {\"ping\": null, \"when\": \"groups['all'][0]\"}]}]") ≡ verdict (refused (record { code = 4; line = 3; host = Some (codes "h1") }))
unfolding reading
expr_133 = refl

-- when
expr_134 : found (codes "{\"all\": {\"hosts\": [\"h1\"], \"vars\": {\"inv\": 3}}}") (codes "[{\"hosts\": \"all\", \"tasks\": [{\"command\": \"x\", \"register\": \"out\"}, {\"ping\": null, \"when\": \"groups.all[0]\"}]}]") ≡ verdict (refused (record { code = 4; line = 3; host = Some (codes "h1") }))
unfolding reading
expr_134 = refl

-- when
expr_137 : found (codes "{\"all\": {\"hosts\": [\"h1\"], \"vars\": {\"inv\": 3}}}") (codes "[{\"hosts\": \"all\", \"tasks\": [{\"command\": \"x\", \"register\": \"out\"}, {\"ping\": null, \"when\": \"groups.all[-1]\"}]}]") ≡ wrong_book (record { line = 3; code = 7 })
unfolding reading
expr_137 = refl

-- when
expr_138 : found (codes "{\"all\": {\"hosts\": [\"h1\"], \"vars\": {\"inv\": 3}}}") (codes "[{\"hosts\": \"all\", \"tasks\": [{\"command\": \"x\", \"register\": \"out\"}, {\"ping\": null, \"when\": \"groups.all[0].x\"}]}]") ≡ wrong_book (record { line = 3; code = 7 })
unfolding reading
expr_138 = refl

-- when
expr_139 : found (codes "{\"all\": {\"hosts\": [\"h1\"], \"vars\": {\"inv\": 3}}}") (codes "[{\"hosts\": \"all\", \"tasks\": [{\"command\": \"x\", \"register\": \"out\"}, {\"ping\": null, \"when\": \"groups.all[0]['x']\"}]}]") ≡ wrong_book (record { line = 3; code = 7 })
unfolding reading
expr_139 = refl

-- when
expr_142 : found (codes "{\"all\": {\"hosts\": [\"h1\"], \"vars\": {\"inv\": 3}}}") (codes "[{\"hosts\": \"all\", \"tasks\": [{\"command\": \"x\", \"register\": \"out\"}, {\"ping\": null, \"when\": \"groups.all.x\"}]}]") ≡ verdict (refused (record { code = 4; line = 3; host = Some (codes "h1") }))
unfolding reading
expr_142 = refl

-- when
expr_143 : found (codes "{\"all\": {\"hosts\": [\"h1\"], \"vars\": {\"inv\": 3}}}") (codes "[{\"hosts\": \"all\", \"tasks\": [{\"command\": \"x\", \"register\": \"out\"}, {\"ping\": null, \"when\": \"groups.all[99999999999999999999]\"}]}]") ≡ verdict (refused (record { code = 6; line = 3; host = None }))
unfolding reading
expr_143 = refl

-- when
expr_144 : found (codes "{\"all\": {\"hosts\": [\"h1\"], \"vars\": {\"inv\": 3}}}") (codes "[{\"hosts\": \"all\", \"tasks\": [{\"command\": \"x\", \"register\": \"out\"}, {\"ping\": null, \"when\": \"groups.all[1]\"}]}]") ≡ verdict (refused (record { code = 6; line = 3; host = None }))
unfolding reading
expr_144 = refl

-- when
expr_145 : found (codes "{\"all\": {\"hosts\": [\"h1\"], \"vars\": {\"inv\": 3}}}") (codes "[{\"hosts\": \"all\", \"tasks\": [{\"command\": \"x\", \"register\": \"out\"}, {\"ping\": null, \"when\": \"groups['zz']\"}]}]") ≡ verdict (refused (record { code = 6; line = 3; host = None }))
unfolding reading
expr_145 = refl

-- when
expr_147 : found (codes "{\"all\": {\"hosts\": [\"h1\"], \"vars\": {\"inv\": 3}}}") (codes "[{\"hosts\": \"all\", \"tasks\": [{\"command\": \"x\", \"register\": \"out\"}, {\"ping\": null, \"when\": \"groups['zz'][0]\"}]}]") ≡ verdict (refused (record { code = 6; line = 3; host = None }))
unfolding reading
expr_147 = refl

-- when
expr_148 : found (codes "{\"all\": {\"hosts\": [\"h1\"], \"vars\": {\"inv\": 3}}}") (codes "[{\"hosts\": \"all\", \"tasks\": [{\"command\": \"x\", \"register\": \"out\"}, {\"ping\": null, \"when\": \"hostvars['zz'].x\"}]}]") ≡ verdict (refused (record { code = 6; line = 3; host = None }))
unfolding reading
expr_148 = refl

-- when
expr_149 : found (codes "{\"all\": {\"hosts\": [\"h1\"], \"vars\": {\"inv\": 3}}}") (codes "[{\"hosts\": \"all\", \"tasks\": [{\"command\": \"x\", \"register\": \"out\"}, {\"ping\": null, \"when\": \"hostvars.zz\"}]}]") ≡ verdict (refused (record { code = 6; line = 3; host = None }))
unfolding reading
expr_149 = refl

-- when
expr_150 : found (codes "{\"all\": {\"hosts\": [\"h1\"], \"vars\": {\"inv\": 3}}}") (codes "[{\"hosts\": \"all\", \"tasks\": [{\"command\": \"x\", \"register\": \"out\"}, {\"ping\": null, \"when\": \"'zz' in groups\"}]}]") ≡ verdict (accepted 2)
unfolding reading
expr_150 = refl

-- when
expr_151 : found (codes "{\"all\": {\"hosts\": [\"h1\"], \"vars\": {\"inv\": 3}}}") (codes "[{\"hosts\": \"all\", \"tasks\": [{\"command\": \"x\", \"register\": \"out\"}, {\"ping\": null, \"when\": \"inventory_hostname\"}]}]") ≡ verdict (refused (record { code = 4; line = 3; host = Some (codes "h1") }))
unfolding reading
expr_151 = refl

-- when
expr_152 : found (codes "{\"all\": {\"hosts\": [\"h1\"], \"vars\": {\"inv\": 3}}}") (codes "[{\"hosts\": \"all\", \"tasks\": [{\"command\": \"x\", \"register\": \"out\"}, {\"ping\": null, \"when\": \"group_names\"}]}]") ≡ verdict (refused (record { code = 4; line = 3; host = Some (codes "h1") }))
unfolding reading
expr_152 = refl

-- when
expr_154 : found (codes "{\"all\": {\"hosts\": [\"h1\"], \"vars\": {\"inv\": 3}}}") (codes "[{\"hosts\": \"all\", \"tasks\": [{\"command\": \"x\", \"register\": \"out\"}, {\"ping\": null, \"when\": \"item\"}]}]") ≡ verdict (refused (record { code = 1; line = 3; host = Some (codes "h1") }))
unfolding reading
expr_154 = refl

-- when
expr_155 : found (codes "{\"all\": {\"hosts\": [\"h1\"], \"vars\": {\"inv\": 3}}}") (codes "[{\"hosts\": \"all\", \"tasks\": [{\"command\": \"x\", \"register\": \"out\"}, {\"ping\": null, \"when\": \"a.not\"}]}]") ≡ verdict (refused (record { code = 1; line = 3; host = Some (codes "h1") }))
unfolding reading
expr_155 = refl

-- when
expr_156 : found (codes "{\"all\": {\"hosts\": [\"h1\"], \"vars\": {\"inv\": 3}}}") (codes "[{\"hosts\": \"all\", \"tasks\": [{\"command\": \"x\", \"register\": \"out\"}, {\"ping\": null, \"when\": \"a.in.is\"}]}]") ≡ verdict (refused (record { code = 1; line = 3; host = Some (codes "h1") }))
unfolding reading
expr_156 = refl

-- when
expr_158 : found (codes "{\"all\": {\"hosts\": [\"h1\"], \"vars\": {\"inv\": 3}}}") (codes "[{\"hosts\": \"all\", \"tasks\": [{\"command\": \"x\", \"register\": \"out\"}, {\"ping\": null, \"when\": \"not.a\"}]}]") ≡ wrong_book (record { line = 3; code = 7 })
unfolding reading
expr_158 = refl

-- when
expr_160 : found (codes "{\"all\": {\"hosts\": [\"h1\"], \"vars\": {\"inv\": 3}}}") (codes "[{\"hosts\": \"all\", \"tasks\": [{\"command\": \"x\", \"register\": \"out\"}, {\"ping\": null, \"when\": \"true.a\"}]}]") ≡ wrong_book (record { line = 3; code = 7 })
unfolding reading
expr_160 = refl

-- when
expr_162 : found (codes "{\"all\": {\"hosts\": [\"h1\"], \"vars\": {\"inv\": 3}}}") (codes "[{\"hosts\": \"all\", \"tasks\": [{\"command\": \"x\", \"register\": \"out\"}, {\"ping\": null, \"when\": \"a . b\"}]}]") ≡ verdict (refused (record { code = 1; line = 3; host = Some (codes "h1") }))
unfolding reading
expr_162 = refl

-- when
expr_165 : found (codes "{\"all\": {\"hosts\": [\"h1\"], \"vars\": {\"inv\": 3}}}") (codes "[{\"hosts\": \"all\", \"tasks\": [{\"command\": \"x\", \"register\": \"out\"}, {\"ping\": null, \"when\": \"is\"}]}]") ≡ wrong_book (record { line = 3; code = 7 })
unfolding reading
expr_165 = refl

-- when
expr_167 : found (codes "{\"all\": {\"hosts\": [\"h1\"], \"vars\": {\"inv\": 3}}}") (codes "[{\"hosts\": \"all\", \"tasks\": [{\"command\": \"x\", \"register\": \"out\"}, {\"ping\": null, \"when\": \"a not is b\"}]}]") ≡ wrong_book (record { line = 3; code = 7 })
unfolding reading
expr_167 = refl

-- when
expr_169 : found (codes "{\"all\": {\"hosts\": [\"h1\"], \"vars\": {\"inv\": 3}}}") (codes "[{\"hosts\": \"all\", \"tasks\": [{\"command\": \"x\", \"register\": \"out\"}, {\"ping\": null, \"when\": \"[not]\"}]}]") ≡ wrong_book (record { line = 3; code = 7 })
unfolding reading
expr_169 = refl

-- when
expr_170 : found (codes "{\"all\": {\"hosts\": [\"h1\"], \"vars\": {\"inv\": 3}}}") (codes "[{\"hosts\": \"all\", \"tasks\": [{\"command\": \"x\", \"register\": \"out\"}, {\"ping\": null, \"when\": \"1 is not failed\"}]}]") ≡ verdict (refused (record { code = 4; line = 3; host = Some (codes "h1") }))
unfolding reading
expr_170 = refl

-- when
expr_172 : found (codes "{\"all\": {\"hosts\": [\"h1\"], \"vars\": {\"inv\": 3}}}") (codes "[{\"hosts\": \"all\", \"tasks\": [{\"command\": \"x\", \"register\": \"out\"}, {\"ping\": null, \"when\": \"((((1))))\"}]}]") ≡ verdict (refused (record { code = 4; line = 3; host = Some (codes "h1") }))
unfolding reading
expr_172 = refl

-- when
expr_175 : found (codes "{\"all\": {\"hosts\": [\"h1\"], \"vars\": {\"inv\": 3}}}") (codes "[{\"hosts\": \"all\", \"tasks\": [{\"command\": \"x\", \"register\": \"out\"}, {\"ping\": null, \"when\": \"1 in 'abc'\"}]}]") ≡ verdict (refused (record { code = 4; line = 3; host = Some (codes "h1") }))
unfolding reading
expr_175 = refl

-- when
expr_177 : found (codes "{\"all\": {\"hosts\": [\"h1\"], \"vars\": {\"inv\": 3}}}") (codes "[{\"hosts\": \"all\", \"tasks\": [{\"command\": \"x\", \"register\": \"out\"}, {\"ping\": null, \"when\": \"true == 1\"}]}]") ≡ verdict (accepted 2)
unfolding reading
expr_177 = refl

-- when
expr_179 : found (codes "{\"all\": {\"hosts\": [\"h1\"], \"vars\": {\"inv\": 3}}}") (codes "[{\"hosts\": \"all\", \"tasks\": [{\"command\": \"x\", \"register\": \"out\"}, {\"ping\": null, \"when\": \"none == none\"}]}]") ≡ verdict (accepted 2)
unfolding reading
expr_179 = refl

-- when
expr_180 : found (codes "{\"all\": {\"hosts\": [\"h1\"], \"vars\": {\"inv\": 3}}}") (codes "[{\"hosts\": \"all\", \"tasks\": [{\"command\": \"x\", \"register\": \"out\"}, {\"ping\": null, \"when\": \"[1] == [1]\"}]}]") ≡ verdict (accepted 2)
unfolding reading
expr_180 = refl

-- when
expr_181 : found (codes "{\"all\": {\"hosts\": [\"h1\"], \"vars\": {\"inv\": 3}}}") (codes "[{\"hosts\": \"all\", \"tasks\": [{\"command\": \"x\", \"register\": \"out\"}, {\"ping\": null, \"when\": \"1 < '2'\"}]}]") ≡ verdict (refused (record { code = 4; line = 3; host = Some (codes "h1") }))
unfolding reading
expr_181 = refl

-- when
expr_182 : found (codes "{\"all\": {\"hosts\": [\"h1\"], \"vars\": {\"inv\": 3}}}") (codes "[{\"hosts\": \"all\", \"tasks\": [{\"command\": \"x\", \"register\": \"out\"}, {\"ping\": null, \"when\": \"not 1\"}]}]") ≡ verdict (refused (record { code = 4; line = 3; host = Some (codes "h1") }))
unfolding reading
expr_182 = refl

-- when
expr_186 : found (codes "{\"all\": {\"hosts\": [\"h1\"], \"vars\": {\"inv\": 3}}}") (codes "[{\"hosts\": \"all\", \"tasks\": [{\"command\": \"x\", \"register\": \"out\"}, {\"ping\": null, \"when\": \"inv is changed\"}]}]") ≡ verdict (refused (record { code = 4; line = 3; host = Some (codes "h1") }))
unfolding reading
expr_186 = refl

-- when
expr_188 : found (codes "{\"all\": {\"hosts\": [\"h1\"], \"vars\": {\"inv\": 3}}}") (91 ∷ 123 ∷ 34 ∷ 104 ∷ 111 ∷ 115 ∷ 116 ∷ 115 ∷ 34 ∷ 58 ∷ 32 ∷ 34 ∷ 97 ∷ 108 ∷ 108 ∷ 34 ∷ 44 ∷ 32 ∷ 34 ∷ 116 ∷ 97 ∷ 115 ∷ 107 ∷ 115 ∷ 34 ∷ 58 ∷ 32 ∷ 91 ∷ 123 ∷ 34 ∷ 99 ∷ 111 ∷ 109 ∷ 109 ∷ 97 ∷ 110 ∷ 100 ∷ 34 ∷ 58 ∷ 32 ∷ 34 ∷ 120 ∷ 34 ∷ 44 ∷ 32 ∷ 34 ∷ 114 ∷ 101 ∷ 103 ∷ 105 ∷ 115 ∷ 116 ∷ 101 ∷ 114 ∷ 34 ∷ 58 ∷ 32 ∷ 34 ∷ 111 ∷ 117 ∷ 116 ∷ 34 ∷ 125 ∷ 44 ∷ 32 ∷ 123 ∷ 34 ∷ 112 ∷ 105 ∷ 110 ∷ 103 ∷ 34 ∷ 58 ∷ 32 ∷ 110 ∷ 117 ∷ 108 ∷ 108 ∷ 44 ∷ 32 ∷ 34 ∷ 119 ∷ 104 ∷ 101 ∷ 110 ∷ 34 ∷ 58 ∷ 32 ∷ 34 ∷ 97 ∷ 194 ∷ 160 ∷ 61 ∷ 61 ∷ 32 ∷ 49 ∷ 34 ∷ 125 ∷ 93 ∷ 125 ∷ 93 ∷ []) ≡ wrong_book (record { line = 3; code = 7 })
unfolding reading
expr_188 = refl

-- when
expr_189 : found (codes "{\"all\": {\"hosts\": [\"h1\"], \"vars\": {\"inv\": 3}}}") (codes "[{\"hosts\": \"all\", \"tasks\": [{\"command\": \"x\", \"register\": \"out\"}, {\"ping\": null, \"when\": \"a\\u000b\"}]}]") ≡ wrong_book (record { line = 3; code = 7 })
unfolding reading
expr_189 = refl

-- when
expr_190 : found (codes "{\"all\": {\"hosts\": [\"h1\"], \"vars\": {\"inv\": 3}}}") (codes "[{\"hosts\": \"all\", \"tasks\": [{\"command\": \"x\", \"register\": \"out\"}, {\"ping\": null, \"when\": \"1 == 1 \"}]}]") ≡ verdict (accepted 2)
unfolding reading
expr_190 = refl

-- when
expr_192 : found (codes "{\"all\": {\"hosts\": [\"h1\"], \"vars\": {\"inv\": 3}}}") (codes "[{\"hosts\": \"all\", \"tasks\": [{\"command\": \"x\", \"register\": \"out\"}, {\"ping\": null, \"when\": \"a ==\\n\"}]}]") ≡ wrong_book (record { line = 3; code = 7 })
unfolding reading
expr_192 = refl

-- when
expr_194 : found (codes "{\"all\": {\"hosts\": [\"h1\"], \"vars\": {\"inv\": 3}}}") (codes "[{\"hosts\": \"all\", \"tasks\": [{\"command\": \"x\", \"register\": \"out\"}, {\"ping\": null, \"when\": \"'a\\nb' == 'x'\"}]}]") ≡ verdict (accepted 2)
unfolding reading
expr_194 = refl

-- when
expr_198 : found (codes "{\"all\": {\"hosts\": [\"h1\"], \"vars\": {\"inv\": 3}}}") (codes "[{\"hosts\": \"all\", \"tasks\": [{\"command\": \"x\", \"register\": \"out\"}, {\"ping\": null, \"when\": \"(((((((((((((((((((((((((((((((((\"}]}]") ≡ wrong_book (record { line = 3; code = 7 })
unfolding reading
expr_198 = refl

-- when
expr_202 : found (codes "{\"all\": {\"hosts\": [\"h1\"], \"vars\": {\"inv\": 3}}}") (codes "[{\"hosts\": \"all\", \"tasks\": [{\"command\": \"x\", \"register\": \"out\"}, {\"ping\": null, \"when\": \"not not not not not not not not not not not not not not not not not not not not not not not not not not not not not not not not not \"}]}]") ≡ wrong_book (record { line = 3; code = 7 })
unfolding reading
expr_202 = refl

-- when
expr_203 : found (codes "{\"all\": {\"hosts\": [\"h1\"], \"vars\": {\"inv\": 3}}}") (codes "[{\"hosts\": \"all\", \"tasks\": [{\"command\": \"x\", \"register\": \"out\"}, {\"ping\": null, \"when\": \"[[[[[[[[[[[[[[[[[[[[[[[[[[[[[[[[]]]]]]]]]]]]]]]]]]]]]]]]]]]]]]]] == 1\"}]}]") ≡ verdict (accepted 2)
unfolding reading
expr_203 = refl

-- when
expr_204 : found (codes "{\"all\": {\"hosts\": [\"h1\"], \"vars\": {\"inv\": 3}}}") (codes "[{\"hosts\": \"all\", \"tasks\": [{\"command\": \"x\", \"register\": \"out\"}, {\"ping\": null, \"when\": \"[[[[[[[[[[[[[[[[[[[[[[[[[[[[[[[[[]]]]]]]]]]]]]]]]]]]]]]]]]]]]]]]]] == 1\"}]}]") ≡ wrong_book (record { line = 3; code = 7 })
unfolding reading
expr_204 = refl

-- when
expr_205 : found (codes "{\"all\": {\"hosts\": [\"h1\"], \"vars\": {\"inv\": 3}}}") (codes "[{\"hosts\": \"all\", \"tasks\": [{\"command\": \"x\", \"register\": \"out\"}, {\"ping\": null, \"when\": \"a.b.b.b.b.b.b.b.b.b.b.b.b.b.b.b.b is defined\"}]}]") ≡ verdict (accepted 2)
unfolding reading
expr_205 = refl

-- when
expr_209 : found (codes "{\"all\": {\"hosts\": [\"h1\"], \"vars\": {\"inv\": 3}}}") (codes "[{\"hosts\": \"all\", \"tasks\": [{\"command\": \"x\", \"register\": \"out\"}, {\"ping\": null, \"when\": \"groups.all.b.b.b.b.b.b.b.b.b.b.b.b.b.b.b is defined\"}]}]") ≡ verdict (accepted 2)
unfolding reading
expr_209 = refl

-- when
expr_211 : found (codes "{\"all\": {\"hosts\": [\"h1\"], \"vars\": {\"inv\": 3}}}") (codes "[{\"hosts\": \"all\", \"tasks\": [{\"command\": \"x\", \"register\": \"out\"}, {\"ping\": null, \"when\": \"true and true and true and true and true and true and true and true and true and true and true and true and true and true and true and true and true and true and true and true and true and true and true and true and true and true and true and true and true and true and true and true and true and true and true and true and true and true and true and true and true and true and true and true and true and true and true and true and true and true and true and true and true and true and true and true and true and true and true and true\"}]}]") ≡ verdict (accepted 2)
unfolding reading
expr_211 = refl

-- when
expr_212 : found (codes "{\"all\": {\"hosts\": [\"h1\"], \"vars\": {\"inv\": 3}}}") (codes "[{\"hosts\": \"all\", \"tasks\": [{\"command\": \"x\", \"register\": \"out\"}, {\"ping\": null, \"when\": \"false or false or false or false or false or false or false or false or false or false or false or false or false or false or false or false or false or false or false or false or false or false or false or false or false or false or false or false or false or false or false or false or false or false or false or false or false or false or false or false or false or false or false or false or false or false or false or false or false or false or false or false or false or false or false or false or false or false or false or false\"}]}]") ≡ verdict (accepted 2)
unfolding reading
expr_212 = refl

-- when
expr_213 : found (codes "{\"all\": {\"hosts\": [\"h1\"], \"vars\": {\"inv\": 3}}}") (codes "[{\"hosts\": \"all\", \"tasks\": [{\"command\": \"x\", \"register\": \"out\"}, {\"ping\": null, \"when\": \"not not not not not not not not not not not not not not not not ((((((((((((((((true))))))))))))))))\"}]}]") ≡ verdict (accepted 2)
unfolding reading
expr_213 = refl

-- when
expr_214 : found (codes "{\"all\": {\"hosts\": [\"h1\"], \"vars\": {\"inv\": 3}}}") (codes "[{\"hosts\": \"all\", \"tasks\": [{\"command\": \"x\", \"register\": \"out\"}, {\"ping\": null, \"when\": \"not not not not not not not not not not not not not not not not not ((((((((((((((((true))))))))))))))))\"}]}]") ≡ wrong_book (record { line = 3; code = 7 })
unfolding reading
expr_214 = refl

-- when
expr_217 : found (codes "{\"all\": {\"hosts\": [\"h1\"], \"vars\": {\"inv\": 3}}}") (codes "[{\"hosts\": \"all\", \"tasks\": [{\"command\": \"x\", \"register\": \"out\"}, {\"ping\": null, \"when\": \"1 + (((((((((((((((((((((((((((((((((\"}]}]") ≡ wrong_book (record { line = 3; code = 7 })
unfolding reading
expr_217 = refl

-- when
expr_218 : found (codes "{\"all\": {\"hosts\": [\"h1\"], \"vars\": {\"inv\": 3}}}") (codes "[{\"hosts\": \"all\", \"tasks\": [{\"command\": \"x\", \"register\": \"out\"}, {\"ping\": null, \"when\": \"true | default(true | default(true | default(true | default(true | default(true | default(true | default(true | default(true | default(true | default(true | default(true | default(true | default(true | default(true | default(true | default(true | default(true | default(true | default(true | default(true | default(true | default(true | default(true | default(true | default(true | default(true | default(true | default(true | default(true | default(true | default(true | default(true))))))))))))))))))))))))))))))))\"}]}]") ≡ verdict (accepted 2)
unfolding reading
expr_218 = refl
