-- Cases of pattern, computed from the bytes of their files.
use Rattle.std.specs.Prelude.{◌≡◌, refl, [], ◌∷◌, None, codes}
use Rattle.pb_language.specs.Verdict.{accepted, refused}
use Rattle.pb_byte_rows.specs.Found.{verdict, found}
use Rattle.pb_byte_rows.proofs.Computing.{reading}

-- pattern "db,web"
pattern_009 : found (codes "{\"web\": [\"h1\", \"h2\"], \"db\": [\"h3\", \"h1\"], \"h2\": [\"h3\"]}") (codes "[{\"hosts\": \"db,web\", \"tasks\": [{\"ping\": null}]}]") ≡ verdict (accepted 3)
unfolding reading
pattern_009 = refl

-- pattern " web , db "
pattern_011 : found (codes "{\"web\": [\"h1\", \"h2\"], \"db\": [\"h3\", \"h1\"], \"h2\": [\"h3\"]}") (codes "[{\"hosts\": \" web , db \", \"tasks\": [{\"ping\": null}]}]") ≡ verdict (accepted 3)
unfolding reading
pattern_011 = refl

-- pattern "web:db,h1"
pattern_013 : found (codes "{\"web\": [\"h1\", \"h2\"], \"db\": [\"h3\", \"h1\"], \"h2\": [\"h3\"]}") (codes "[{\"hosts\": \"web:db,h1\", \"tasks\": [{\"ping\": null}]}]") ≡ verdict (accepted 3)
unfolding reading
pattern_013 = refl

-- pattern "web::db"
pattern_015 : found (codes "{\"web\": [\"h1\", \"h2\"], \"db\": [\"h3\", \"h1\"], \"h2\": [\"h3\"]}") (codes "[{\"hosts\": \"web::db\", \"tasks\": [{\"ping\": null}]}]") ≡ verdict (refused (record { code = 6; line = 1; host = None }))
unfolding reading
pattern_015 = refl

-- pattern "web::db", all break
pattern_016 : found (codes "{\"web\": [\"h1\", \"h2\"], \"db\": [\"h3\", \"h1\"], \"h2\": [\"h3\"]}") (codes "[{\"hosts\": \"web::db\", \"tasks\": [{\"ping\": null}]}]") ≡ verdict (refused (record { code = 6; line = 1; host = None }))
unfolding reading
pattern_016 = refl

-- pattern ":", all break
pattern_020 : found (codes "{\"web\": [\"h1\", \"h2\"], \"db\": [\"h3\", \"h1\"], \"h2\": [\"h3\"]}") (codes "[{\"hosts\": \":\", \"tasks\": [{\"ping\": null}]}]") ≡ verdict (refused (record { code = 6; line = 1; host = None }))
unfolding reading
pattern_020 = refl

-- pattern ","
pattern_021 : found (codes "{\"web\": [\"h1\", \"h2\"], \"db\": [\"h3\", \"h1\"], \"h2\": [\"h3\"]}") (codes "[{\"hosts\": \",\", \"tasks\": [{\"ping\": null}]}]") ≡ verdict (refused (record { code = 6; line = 1; host = None }))
unfolding reading
pattern_021 = refl

-- pattern "zz"
pattern_023 : found (codes "{\"web\": [\"h1\", \"h2\"], \"db\": [\"h3\", \"h1\"], \"h2\": [\"h3\"]}") (codes "[{\"hosts\": \"zz\", \"tasks\": [{\"ping\": null}]}]") ≡ verdict (refused (record { code = 6; line = 1; host = None }))
unfolding reading
pattern_023 = refl

-- pattern "web,zz"
pattern_025 : found (codes "{\"web\": [\"h1\", \"h2\"], \"db\": [\"h3\", \"h1\"], \"h2\": [\"h3\"]}") (codes "[{\"hosts\": \"web,zz\", \"tasks\": [{\"ping\": null}]}]") ≡ verdict (refused (record { code = 6; line = 1; host = None }))
unfolding reading
pattern_025 = refl

-- pattern "h2"
pattern_027 : found (codes "{\"web\": [\"h1\", \"h2\"], \"db\": [\"h3\", \"h1\"], \"h2\": [\"h3\"]}") (codes "[{\"hosts\": \"h2\", \"tasks\": [{\"ping\": null}]}]") ≡ verdict (accepted 1)
unfolding reading
pattern_027 = refl

-- pattern "web ", all break
pattern_032 : found (codes "{\"web\": [\"h1\", \"h2\"], \"db\": [\"h3\", \"h1\"], \"h2\": [\"h3\"]}") (91 ∷ 123 ∷ 34 ∷ 104 ∷ 111 ∷ 115 ∷ 116 ∷ 115 ∷ 34 ∷ 58 ∷ 32 ∷ 34 ∷ 119 ∷ 101 ∷ 98 ∷ 194 ∷ 160 ∷ 34 ∷ 44 ∷ 32 ∷ 34 ∷ 116 ∷ 97 ∷ 115 ∷ 107 ∷ 115 ∷ 34 ∷ 58 ∷ 32 ∷ 91 ∷ 123 ∷ 34 ∷ 112 ∷ 105 ∷ 110 ∷ 103 ∷ 34 ∷ 58 ∷ 32 ∷ 110 ∷ 117 ∷ 108 ∷ 108 ∷ 125 ∷ 93 ∷ 125 ∷ 93 ∷ []) ≡ verdict (refused (record { code = 6; line = 1; host = None }))
unfolding reading
pattern_032 = refl

-- pattern "WEB"
pattern_035 : found (codes "{\"web\": [\"h1\", \"h2\"], \"db\": [\"h3\", \"h1\"], \"h2\": [\"h3\"]}") (codes "[{\"hosts\": \"WEB\", \"tasks\": [{\"ping\": null}]}]") ≡ verdict (refused (record { code = 6; line = 1; host = None }))
unfolding reading
pattern_035 = refl

-- pattern "web db", all break
pattern_038 : found (codes "{\"web\": [\"h1\", \"h2\"], \"db\": [\"h3\", \"h1\"], \"h2\": [\"h3\"]}") (codes "[{\"hosts\": \"web db\", \"tasks\": [{\"ping\": null}]}]") ≡ verdict (refused (record { code = 6; line = 1; host = None }))
unfolding reading
pattern_038 = refl

-- pattern "!web"
pattern_039 : found (codes "{\"web\": [\"h1\", \"h2\"], \"db\": [\"h3\", \"h1\"], \"h2\": [\"h3\"]}") (codes "[{\"hosts\": \"!web\", \"tasks\": [{\"ping\": null}]}]") ≡ verdict (refused (record { code = 6; line = 1; host = None }))
unfolding reading
pattern_039 = refl

-- pattern "*"
pattern_043 : found (codes "{\"web\": [\"h1\", \"h2\"], \"db\": [\"h3\", \"h1\"], \"h2\": [\"h3\"]}") (codes "[{\"hosts\": \"*\", \"tasks\": [{\"ping\": null}]}]") ≡ verdict (refused (record { code = 6; line = 1; host = None }))
unfolding reading
pattern_043 = refl

-- pattern "~h"
pattern_045 : found (codes "{\"web\": [\"h1\", \"h2\"], \"db\": [\"h3\", \"h1\"], \"h2\": [\"h3\"]}") (codes "[{\"hosts\": \"~h\", \"tasks\": [{\"ping\": null}]}]") ≡ verdict (refused (record { code = 6; line = 1; host = None }))
unfolding reading
pattern_045 = refl

-- pattern "~h", all break
pattern_046 : found (codes "{\"web\": [\"h1\", \"h2\"], \"db\": [\"h3\", \"h1\"], \"h2\": [\"h3\"]}") (codes "[{\"hosts\": \"~h\", \"tasks\": [{\"ping\": null}]}]") ≡ verdict (refused (record { code = 6; line = 1; host = None }))
unfolding reading
pattern_046 = refl

-- pattern ["web", "zz"], all break
pattern_052 : found (codes "{\"web\": [\"h1\", \"h2\"], \"db\": [\"h3\", \"h1\"], \"h2\": [\"h3\"]}") (codes "[{\"hosts\": [\"web\", \"zz\"], \"tasks\": [{\"ping\": null}]}]") ≡ verdict (refused (record { code = 6; line = 1; host = None }))
unfolding reading
pattern_052 = refl

-- pattern ["all:h1"]
pattern_053 : found (codes "{\"web\": [\"h1\", \"h2\"], \"db\": [\"h3\", \"h1\"], \"h2\": [\"h3\"]}") (codes "[{\"hosts\": [\"all:h1\"], \"tasks\": [{\"ping\": null}]}]") ≡ verdict (accepted 3)
unfolding reading
pattern_053 = refl

-- pattern []
pattern_055 : found (codes "{\"web\": [\"h1\", \"h2\"], \"db\": [\"h3\", \"h1\"], \"h2\": [\"h3\"]}") (codes "[{\"hosts\": [], \"tasks\": [{\"ping\": null}]}]") ≡ verdict (accepted 0)
unfolding reading
pattern_055 = refl
