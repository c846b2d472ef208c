-- Cases of book, computed from the bytes of their files.
use Rattle.std.specs.Prelude.{◌≡◌, refl, None, codes}
use Rattle.pb_language.specs.Verdict.{accepted, refused}
use Rattle.pb_byte_rows.specs.Found.{wrong_book, verdict, found}
use Rattle.pb_byte_rows.proofs.Computing.{reading}

-- retries a text
book_206 : found (codes "{\"all\": {\"hosts\": [\"h1\"]}}") (codes "[{\"hosts\": \"all\", \"tasks\": [{\"ping\": null, \"until\": \"true\", \"retries\": \"3\"}]}]") ≡ wrong_book (record { line = 2; code = 4 })
unfolding reading
book_206 = refl

-- until alone: 3 retries
book_208 : found (codes "{\"all\": {\"hosts\": [\"h1\"]}}") (codes "[{\"hosts\": \"all\", \"tasks\": [{\"ping\": null, \"until\": \"true\"}]}]") ≡ verdict (accepted 4)
unfolding reading
book_208 = refl

-- until a number
book_209 : found (codes "{\"all\": {\"hosts\": [\"h1\"]}}") (codes "[{\"hosts\": \"all\", \"tasks\": [{\"ping\": null, \"until\": 1}]}]") ≡ wrong_book (record { line = 2; code = 4 })
unfolding reading
book_209 = refl

-- until an empty list
book_212 : found (codes "{\"all\": {\"hosts\": [\"h1\"]}}") (codes "[{\"hosts\": \"all\", \"tasks\": [{\"ping\": null, \"until\": []}]}]") ≡ verdict (accepted 4)
unfolding reading
book_212 = refl

-- several codes on one line: P03 P04 P05 P07
book_215 : found (codes "{\"all\": {\"hosts\": [\"h1\"]}}") (codes "[{\"hosts\": \"all\", \"tasks\": [{\"ping\": null, \"command\": \"x\", \"tags\": 1, \"when\": \"a b\", \"register\": 5}]}]") ≡ wrong_book (record { line = 2; code = 3 })
unfolding reading
book_215 = refl

-- several codes on one line: P04 P05 P07
book_216 : found (codes "{\"all\": {\"hosts\": [\"h1\"]}}") (codes "[{\"hosts\": \"all\", \"tasks\": [{\"ping\": null, \"command\": \"x\", \"when\": \"a b\", \"register\": 5}]}]") ≡ wrong_book (record { line = 2; code = 4 })
unfolding reading
book_216 = refl

-- several codes on one line: P05 P07
book_217 : found (codes "{\"all\": {\"hosts\": [\"h1\"]}}") (codes "[{\"hosts\": \"all\", \"tasks\": [{\"ping\": null, \"command\": \"x\", \"when\": \"a b\"}]}]") ≡ wrong_book (record { line = 2; code = 5 })
unfolding reading
book_217 = refl

-- P before V06
book_222 : found (codes "{\"all\": {\"hosts\": [\"h1\"]}}") (codes "[{\"hosts\": \"zz\", \"tasks\": [5]}]") ≡ wrong_book (record { line = 2; code = 2 })
unfolding reading
book_222 = refl

-- A after V
book_223 : found (codes "{\"all\": {\"hosts\": [\"h1\"]}}") (codes "[{\"hosts\": \"zz\"}]") ≡ verdict (refused (record { code = 6; line = 1; host = None }))
unfolding reading
book_223 = refl

-- A after P
book_224 : found (codes "{\"all\": {\"hosts\": [\"h1\"]}}") (codes "x") ≡ wrong_book (record { line = 0; code = 1 })
unfolding reading
book_224 = refl
