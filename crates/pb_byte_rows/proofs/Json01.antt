-- Cases of json, computed from the bytes of their files.
use Rattle.std.specs.Prelude.{◌≡◌, refl, [], ◌∷◌, Some, codes}
use Rattle.pb_language.specs.Verdict.{accepted, refused}
use Rattle.pb_byte_rows.specs.Found.{wrong_inventory, wrong_book, verdict, found}
use Rattle.pb_byte_rows.proofs.Computing.{reading}

-- BOM (book)
json_003 : found (codes "{\"all\": {\"hosts\": [\"h1\"]}}") (239 ∷ 187 ∷ 191 ∷ 91 ∷ 93 ∷ []) ≡ wrong_book (record { line = 0; code = 1 })
unfolding reading
json_003 = refl

-- Infinity (book)
json_008 : found (codes "{\"all\": {\"hosts\": [\"h1\"]}}") (codes "[Infinity]") ≡ wrong_book (record { line = 0; code = 1 })
unfolding reading
json_008 = refl

-- comment (book)
json_010 : found (codes "{\"all\": {\"hosts\": [\"h1\"]}}") (codes "[] // x") ≡ wrong_book (record { line = 0; code = 1 })
unfolding reading
json_010 = refl

-- leading zero (book)
json_011 : found (codes "{\"all\": {\"hosts\": [\"h1\"]}}") (codes "[01]") ≡ wrong_book (record { line = 0; code = 1 })
unfolding reading
json_011 = refl

-- plus (book)
json_012 : found (codes "{\"all\": {\"hosts\": [\"h1\"]}}") (codes "[+1]") ≡ wrong_book (record { line = 0; code = 1 })
unfolding reading
json_012 = refl

-- dot without digits (book)
json_013 : found (codes "{\"all\": {\"hosts\": [\"h1\"]}}") (codes "[1.]") ≡ wrong_book (record { line = 0; code = 1 })
unfolding reading
json_013 = refl

-- exponent without digits (book)
json_015 : found (codes "{\"all\": {\"hosts\": [\"h1\"]}}") (codes "[1e]") ≡ wrong_book (record { line = 0; code = 1 })
unfolding reading
json_015 = refl

-- small number (book)
json_018 : found (codes "{\"all\": {\"hosts\": [\"h1\"]}}") (codes "[1e-400]") ≡ wrong_book (record { line = 1; code = 2 })
unfolding reading
json_018 = refl

-- DEL in a text (book)
json_022 : found (codes "{\"all\": {\"hosts\": [\"h1\"]}}") (91 ∷ 34 ∷ 97 ∷ 127 ∷ 98 ∷ 34 ∷ 93 ∷ []) ≡ wrong_book (record { line = 1; code = 2 })
unfolding reading
json_022 = refl

-- bad escape (book)
json_027 : found (codes "{\"all\": {\"hosts\": [\"h1\"]}}") (codes "[\"\\x41\"]") ≡ wrong_book (record { line = 0; code = 1 })
unfolding reading
json_027 = refl

-- short \u (book)
json_028 : found (codes "{\"all\": {\"hosts\": [\"h1\"]}}") (codes "[\"\\u12\"]") ≡ wrong_book (record { line = 0; code = 1 })
unfolding reading
json_028 = refl

-- surrogate in UTF-8 (book)
json_031 : found (codes "{\"all\": {\"hosts\": [\"h1\"]}}") (91 ∷ 34 ∷ 237 ∷ 160 ∷ 128 ∷ 34 ∷ 93 ∷ []) ≡ wrong_book (record { line = 0; code = 1 })
unfolding reading
json_031 = refl

-- over U+10FFFF (book)
json_032 : found (codes "{\"all\": {\"hosts\": [\"h1\"]}}") (91 ∷ 34 ∷ 244 ∷ 144 ∷ 128 ∷ 128 ∷ 34 ∷ 93 ∷ []) ≡ wrong_book (record { line = 0; code = 1 })
unfolding reading
json_032 = refl

-- form feed (book)
json_034 : found (codes "{\"all\": {\"hosts\": [\"h1\"]}}") (12 ∷ 91 ∷ 93 ∷ []) ≡ wrong_book (record { line = 0; code = 1 })
unfolding reading
json_034 = refl

-- key twice, bad last (book)
json_041 : found (codes "{\"all\": {\"hosts\": [\"h1\"]}}") (codes "[{\"hosts\":\"all\",\"hosts\":5}]") ≡ wrong_book (record { line = 1; code = 4 })
unfolding reading
json_041 = refl

-- key twice by escape (book)
json_042 : found (codes "{\"all\": {\"hosts\": [\"h1\"]}}") (codes "[{\"hosts\":5,\"h\\u006fsts\":\"all\"}]") ≡ verdict (accepted 0)
unfolding reading
json_042 = refl

-- a text (book)
json_043 : found (codes "{\"all\": {\"hosts\": [\"h1\"]}}") (codes "\"x\"") ≡ wrong_book (record { line = 0; code = 2 })
unfolding reading
json_043 = refl

-- an object (book)
json_045 : found (codes "{\"all\": {\"hosts\": [\"h1\"]}}") (codes "{}") ≡ wrong_book (record { line = 0; code = 2 })
unfolding reading
json_045 = refl

-- a list of a list (book)
json_047 : found (codes "{\"all\": {\"hosts\": [\"h1\"]}}") (codes "[[]]") ≡ wrong_book (record { line = 1; code = 2 })
unfolding reading
json_047 = refl

-- unclosed text (book)
json_048 : found (codes "{\"all\": {\"hosts\": [\"h1\"]}}") (codes "[\"a") ≡ wrong_book (record { line = 0; code = 1 })
unfolding reading
json_048 = refl

-- backslash at the end (book)
json_049 : found (codes "{\"all\": {\"hosts\": [\"h1\"]}}") (codes "[\"a\\") ≡ wrong_book (record { line = 0; code = 1 })
unfolding reading
json_049 = refl

-- number 1.0 in the book
json_051 : found (codes "{\"all\": {\"hosts\": [\"h1\"]}}") (codes "[{\"hosts\":\"all\",\"tasks\":[{\"debug\":{\"msg\":1.0}}]}]") ≡ wrong_book (record { line = 2; code = 4 })
unfolding reading
json_051 = refl

-- number 1.0 in the inventory, read
json_052 : found (codes "{\"all\":{\"hosts\":[\"h1\"],\"vars\":{\"n\":1.0}}}") (codes "[{\"hosts\": \"all\", \"tasks\": [{\"debug\": {\"msg\": \"{{ n }}\"}}]}]") ≡ verdict (refused (record { code = 4; line = 2; host = Some (codes "h1") }))
unfolding reading
json_052 = refl

-- number 1.0 as serial
json_053 : found (codes "{\"all\": {\"hosts\": [\"h1\"]}}") (codes "[{\"hosts\":\"all\",\"serial\":1.0}]") ≡ wrong_book (record { line = 1; code = 4 })
unfolding reading
json_053 = refl

-- number 1e3 in the book
json_054 : found (codes "{\"all\": {\"hosts\": [\"h1\"]}}") (codes "[{\"hosts\":\"all\",\"tasks\":[{\"debug\":{\"msg\":1e3}}]}]") ≡ wrong_book (record { line = 2; code = 4 })
unfolding reading
json_054 = refl

-- number 1e3 as serial
json_056 : found (codes "{\"all\": {\"hosts\": [\"h1\"]}}") (codes "[{\"hosts\":\"all\",\"serial\":1e3}]") ≡ wrong_book (record { line = 1; code = 4 })
unfolding reading
json_056 = refl

-- number -0 in the book
json_057 : found (codes "{\"all\": {\"hosts\": [\"h1\"]}}") (codes "[{\"hosts\":\"all\",\"tasks\":[{\"debug\":{\"msg\":-0}}]}]") ≡ wrong_book (record { line = 2; code = 4 })
unfolding reading
json_057 = refl

-- number i64 max in the book
json_060 : found (codes "{\"all\": {\"hosts\": [\"h1\"]}}") (codes "[{\"hosts\":\"all\",\"tasks\":[{\"debug\":{\"msg\":9223372036854775807}}]}]") ≡ verdict (accepted 0)
unfolding reading
json_060 = refl

-- number i64 max + 1 in the inventory, read
json_064 : found (codes "{\"all\":{\"hosts\":[\"h1\"],\"vars\":{\"n\":9223372036854775808}}}") (codes "[{\"hosts\": \"all\", \"tasks\": [{\"debug\": {\"msg\": \"{{ n }}\"}}]}]") ≡ verdict (refused (record { code = 4; line = 2; host = Some (codes "h1") }))
unfolding reading
json_064 = refl

-- number i64 min in the book
json_066 : found (codes "{\"all\": {\"hosts\": [\"h1\"]}}") (codes "[{\"hosts\":\"all\",\"tasks\":[{\"debug\":{\"msg\":-9223372036854775808}}]}]") ≡ verdict (accepted 0)
unfolding reading
json_066 = refl

-- number i64 min in the inventory, read
json_067 : found (codes "{\"all\":{\"hosts\":[\"h1\"],\"vars\":{\"n\":-9223372036854775808}}}") (codes "[{\"hosts\": \"all\", \"tasks\": [{\"debug\": {\"msg\": \"{{ n }}\"}}]}]") ≡ verdict (accepted 0)
unfolding reading
json_067 = refl

-- number i64 min - 1 in the book
json_069 : found (codes "{\"all\": {\"hosts\": [\"h1\"]}}") (codes "[{\"hosts\":\"all\",\"tasks\":[{\"debug\":{\"msg\":-9223372036854775809}}]}]") ≡ wrong_book (record { line = 2; code = 4 })
unfolding reading
json_069 = refl

-- number i64 min - 1 in the inventory, read
json_070 : found (codes "{\"all\":{\"hosts\":[\"h1\"],\"vars\":{\"n\":-9223372036854775809}}}") (codes "[{\"hosts\": \"all\", \"tasks\": [{\"debug\": {\"msg\": \"{{ n }}\"}}]}]") ≡ verdict (refused (record { code = 4; line = 2; host = Some (codes "h1") }))
unfolding reading
json_070 = refl

-- number i64 min - 1 as serial
json_071 : found (codes "{\"all\": {\"hosts\": [\"h1\"]}}") (codes "[{\"hosts\":\"all\",\"serial\":-9223372036854775809}]") ≡ wrong_book (record { line = 1; code = 4 })
unfolding reading
json_071 = refl

-- number u64 max in the inventory, read
json_073 : found (codes "{\"all\":{\"hosts\":[\"h1\"],\"vars\":{\"n\":18446744073709551615}}}") (codes "[{\"hosts\": \"all\", \"tasks\": [{\"debug\": {\"msg\": \"{{ n }}\"}}]}]") ≡ verdict (refused (record { code = 4; line = 2; host = Some (codes "h1") }))
unfolding reading
json_073 = refl

-- number 1E400 in the inventory, read
json_076 : found (codes "{\"all\":{\"hosts\":[\"h1\"],\"vars\":{\"n\":1E400}}}") (codes "[{\"hosts\": \"all\", \"tasks\": [{\"debug\": {\"msg\": \"{{ n }}\"}}]}]") ≡ wrong_inventory 1
unfolding reading
json_076 = refl

-- number -1 in the book
json_081 : found (codes "{\"all\": {\"hosts\": [\"h1\"]}}") (codes "[{\"hosts\":\"all\",\"tasks\":[{\"debug\":{\"msg\":-1}}]}]") ≡ verdict (accepted 0)
unfolding reading
json_081 = refl

-- number -1 in the inventory, read
json_082 : found (codes "{\"all\":{\"hosts\":[\"h1\"],\"vars\":{\"n\":-1}}}") (codes "[{\"hosts\": \"all\", \"tasks\": [{\"debug\": {\"msg\": \"{{ n }}\"}}]}]") ≡ verdict (accepted 0)
unfolding reading
json_082 = refl

-- inventory that is a list
json_084 : found (codes "[]") (codes "[]") ≡ wrong_inventory 2
unfolding reading
json_084 = refl
