-- Cases of expr, computed from the bytes of their files.
use Rattle.std.specs.Prelude.{◌≡◌, refl, codes}
use Rattle.pb_language.specs.Verdict.{accepted}
use Rattle.pb_byte_rows.specs.Found.{wrong_book, verdict, found}
use Rattle.pb_byte_rows.proofs.Computing.{reading}

-- when
expr_220 : found (codes "{\"all\": {\"hosts\": [\"h1\"], \"vars\": {\"inv\": 3}}}") (codes "[{\"hosts\": \"all\", \"tasks\": [{\"command\": \"x\", \"register\": \"out\"}, {\"ping\": null, \"when\": \"a.b.b.b.b.b.b.b.b.b.b.b.b.b.b.b.b.b +\"}]}]") ≡ wrong_book (record { line = 3; code = 7 })
unfolding reading
expr_220 = refl

-- when
expr_221 : found (codes "{\"all\": {\"hosts\": [\"h1\"], \"vars\": {\"inv\": 3}}}") (codes "[{\"hosts\": \"all\", \"tasks\": [{\"command\": \"x\", \"register\": \"out\"}, {\"ping\": null, \"when\": \"true | default(true) | default(true) | default(true) | default(true) | default(true) | default(true) | default(true) | default(true) | default(true) | default(true) | default(true) | default(true) | default(true) | default(true) | default(true) | default(true) | default(true) | default(true) | default(true) | default(true) | default(true) | default(true) | default(true) | default(true) | default(true) | default(true) | default(true) | default(true) | default(true) | default(true) | default(true) | default(true) | default(true) | default(true) | default(true) | default(true) | default(true) | default(true) | default(true) | default(true)\"}]}]") ≡ verdict (accepted 2)
unfolding reading
expr_221 = refl
