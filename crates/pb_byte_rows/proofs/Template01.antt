-- Cases of template, computed from the bytes of their files.
use Rattle.std.specs.Prelude.{◌≡◌, refl, Some, codes}
use Rattle.pb_language.specs.Verdict.{refused}
use Rattle.pb_byte_rows.specs.Found.{wrong_book, verdict, found}
use Rattle.pb_byte_rows.proofs.Computing.{reading}

-- debug message
template_012 : found (codes "{\"all\": {\"hosts\": [\"h1\"]}}") (codes "[{\"hosts\": \"all\", \"tasks\": [{\"command\": \"x\", \"register\": \"out\"}, {\"debug\": {\"msg\": \"{{ 1 }\"}}]}]") ≡ wrong_book (record { line = 3; code = 7 })
unfolding reading
template_012 = refl

-- debug message
template_019 : found (codes "{\"all\": {\"hosts\": [\"h1\"]}}") (codes "[{\"hosts\": \"all\", \"tasks\": [{\"command\": \"x\", \"register\": \"out\"}, {\"debug\": {\"msg\": \"{{{ 1 }}}\"}}]}]") ≡ wrong_book (record { line = 3; code = 7 })
unfolding reading
template_019 = refl

-- debug message
template_020 : found (codes "{\"all\": {\"hosts\": [\"h1\"]}}") (codes "[{\"hosts\": \"all\", \"tasks\": [{\"command\": \"x\", \"register\": \"out\"}, {\"debug\": {\"msg\": \"{{ {1} }}\"}}]}]") ≡ wrong_book (record { line = 3; code = 7 })
unfolding reading
template_020 = refl

-- debug message
template_022 : found (codes "{\"all\": {\"hosts\": [\"h1\"]}}") (codes "[{\"hosts\": \"all\", \"tasks\": [{\"command\": \"x\", \"register\": \"out\"}, {\"debug\": {\"msg\": \"{{}}\"}}]}]") ≡ wrong_book (record { line = 3; code = 7 })
unfolding reading
template_022 = refl

-- debug message
template_030 : found (codes "{\"all\": {\"hosts\": [\"h1\"]}}") (codes "[{\"hosts\": \"all\", \"tasks\": [{\"command\": \"x\", \"register\": \"out\"}, {\"debug\": {\"msg\": \"{%\"}}]}]") ≡ wrong_book (record { line = 3; code = 7 })
unfolding reading
template_030 = refl

-- debug message
template_031 : found (codes "{\"all\": {\"hosts\": [\"h1\"]}}") (codes "[{\"hosts\": \"all\", \"tasks\": [{\"command\": \"x\", \"register\": \"out\"}, {\"debug\": {\"msg\": \"{% if x %}\"}}]}]") ≡ wrong_book (record { line = 3; code = 7 })
unfolding reading
template_031 = refl

-- debug message
template_035 : found (codes "{\"all\": {\"hosts\": [\"h1\"]}}") (codes "[{\"hosts\": \"all\", \"tasks\": [{\"command\": \"x\", \"register\": \"out\"}, {\"debug\": {\"msg\": \"{{ 1 }}{%\"}}]}]") ≡ wrong_book (record { line = 3; code = 7 })
unfolding reading
template_035 = refl

-- debug message
template_036 : found (codes "{\"all\": {\"hosts\": [\"h1\"]}}") (codes "[{\"hosts\": \"all\", \"tasks\": [{\"command\": \"x\", \"register\": \"out\"}, {\"debug\": {\"msg\": \"{% {{ 1 }}\"}}]}]") ≡ wrong_book (record { line = 3; code = 7 })
unfolding reading
template_036 = refl

-- debug message
template_041 : found (codes "{\"all\": {\"hosts\": [\"h1\"]}}") (codes "[{\"hosts\": \"all\", \"tasks\": [{\"command\": \"x\", \"register\": \"out\"}, {\"debug\": {\"msg\": \"{{ it's }}\"}}]}]") ≡ wrong_book (record { line = 3; code = 7 })
unfolding reading
template_041 = refl

-- debug message
template_044 : found (codes "{\"all\": {\"hosts\": [\"h1\"]}}") (codes "[{\"hosts\": \"all\", \"tasks\": [{\"command\": \"x\", \"register\": \"out\"}, {\"debug\": {\"msg\": \"x{{ [1] }}\"}}]}]") ≡ verdict (refused (record { code = 4; line = 3; host = Some (codes "h1") }))
unfolding reading
template_044 = refl

-- debug message
template_047 : found (codes "{\"all\": {\"hosts\": [\"h1\"]}}") (codes "[{\"hosts\": \"all\", \"tasks\": [{\"command\": \"x\", \"register\": \"out\"}, {\"debug\": {\"msg\": \"{{ {'a': 1} }}\"}}]}]") ≡ wrong_book (record { line = 3; code = 7 })
unfolding reading
template_047 = refl

-- debug message
template_051 : found (codes "{\"all\": {\"hosts\": [\"h1\"]}}") (codes "[{\"hosts\": \"all\", \"tasks\": [{\"command\": \"x\", \"register\": \"out\"}, {\"debug\": {\"msg\": \"{{ 'a' }}{{\"}}]}]") ≡ wrong_book (record { line = 3; code = 7 })
unfolding reading
template_051 = refl

-- debug message
template_055 : found (codes "{\"all\": {\"hosts\": [\"h1\"]}}") (codes "[{\"hosts\": \"all\", \"tasks\": [{\"command\": \"x\", \"register\": \"out\"}, {\"debug\": {\"msg\": \"{{ [1] }} {{ zz }}\"}}]}]") ≡ verdict (refused (record { code = 1; line = 3; host = Some (codes "h1") }))
unfolding reading
template_055 = refl

-- debug message
template_056 : found (codes "{\"all\": {\"hosts\": [\"h1\"]}}") (codes "[{\"hosts\": \"all\", \"tasks\": [{\"command\": \"x\", \"register\": \"out\"}, {\"debug\": {\"msg\": \"{{ zz }} {{ [1] }}\"}}]}]") ≡ verdict (refused (record { code = 1; line = 3; host = Some (codes "h1") }))
unfolding reading
template_056 = refl

-- debug message
template_059 : found (codes "{\"all\": {\"hosts\": [\"h1\"]}}") (codes "[{\"hosts\": \"all\", \"tasks\": [{\"command\": \"x\", \"register\": \"out\"}, {\"debug\": {\"msg\": \"{{ 1 %}\"}}]}]") ≡ wrong_book (record { line = 3; code = 7 })
unfolding reading
template_059 = refl

-- debug message
template_060 : found (codes "{\"all\": {\"hosts\": [\"h1\"]}}") (codes "[{\"hosts\": \"all\", \"tasks\": [{\"command\": \"x\", \"register\": \"out\"}, {\"debug\": {\"msg\": \"{{ 1 {# }}\"}}]}]") ≡ wrong_book (record { line = 3; code = 7 })
unfolding reading
template_060 = refl

-- debug message
template_066 : found (codes "{\"all\": {\"hosts\": [\"h1\"]}}") (codes "[{\"hosts\": \"all\", \"tasks\": [{\"command\": \"x\", \"register\": \"out\"}, {\"debug\": {\"msg\": \"{{ {% }}\"}}]}]") ≡ wrong_book (record { line = 3; code = 7 })
unfolding reading
template_066 = refl

-- debug message
template_067 : found (codes "{\"all\": {\"hosts\": [\"h1\"]}}") (codes "[{\"hosts\": \"all\", \"tasks\": [{\"command\": \"x\", \"register\": \"out\"}, {\"debug\": {\"msg\": \"{{{{ 1 }}}}\"}}]}]") ≡ wrong_book (record { line = 3; code = 7 })
unfolding reading
template_067 = refl

-- debug message
template_073 : found (codes "{\"all\": {\"hosts\": [\"h1\"]}}") (codes "[{\"hosts\": \"all\", \"tasks\": [{\"command\": \"x\", \"register\": \"out\"}, {\"debug\": {\"msg\": \"{{ [not 1, zz] }}\"}}]}]") ≡ verdict (refused (record { code = 4; line = 3; host = Some (codes "h1") }))
unfolding reading
template_073 = refl

-- debug message
template_074 : found (codes "{\"all\": {\"hosts\": [\"h1\"]}}") (codes "[{\"hosts\": \"all\", \"tasks\": [{\"command\": \"x\", \"register\": \"out\"}, {\"debug\": {\"msg\": \"{{ zz == [not 1] }}\"}}]}]") ≡ verdict (refused (record { code = 1; line = 3; host = Some (codes "h1") }))
unfolding reading
template_074 = refl

-- debug message
template_075 : found (codes "{\"all\": {\"hosts\": [\"h1\"]}}") (codes "[{\"hosts\": \"all\", \"tasks\": [{\"command\": \"x\", \"register\": \"out\"}, {\"debug\": {\"msg\": \"{{ (not 1) == zz }}\"}}]}]") ≡ verdict (refused (record { code = 4; line = 3; host = Some (codes "h1") }))
unfolding reading
template_075 = refl

-- debug message
template_078 : found (codes "{\"all\": {\"hosts\": [\"h1\"]}}") (codes "[{\"hosts\": \"all\", \"tasks\": [{\"command\": \"x\", \"register\": \"out\"}, {\"debug\": {\"msg\": \"{{ [1] | join(zz) }}\"}}]}]") ≡ verdict (refused (record { code = 1; line = 3; host = Some (codes "h1") }))
unfolding reading
template_078 = refl

-- debug message
template_083 : found (codes "{\"all\": {\"hosts\": [\"h1\"]}}") (codes "[{\"hosts\": \"all\", \"tasks\": [{\"command\": \"x\", \"register\": \"out\"}, {\"debug\": {\"msg\": \"{{ (((((((((((((((((((((((((((((((((\"}}]}]") ≡ wrong_book (record { line = 3; code = 7 })
unfolding reading
template_083 = refl
