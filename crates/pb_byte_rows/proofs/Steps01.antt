-- Cases of steps, computed from the bytes of their files.
use Rattle.std.specs.Prelude.{◌≡◌, refl, None, codes}
use Rattle.pb_language.specs.Verdict.{accepted, refused}
use Rattle.pb_byte_rows.specs.Found.{verdict, found}
use Rattle.pb_byte_rows.proofs.Computing.{reading}

-- 8,192 steps
steps_001 : found (codes "{\"all\": {\"hosts\": [\"h1\"]}}") (codes "[{\"hosts\": \"all\", \"tasks\": [{\"block\": [], \"always\": [{\"block\": [], \"always\": [{\"block\": [], \"always\": [{\"block\": [], \"always\": [{\"block\": [], \"always\": [{\"block\": [], \"always\": [{\"block\": [], \"always\": [{\"block\": [], \"always\": [{\"block\": [], \"always\": [{\"block\": [], \"always\": [{\"block\": [], \"always\": [{\"block\": [], \"always\": [{\"ping\": null}, {\"ping\": null}]}]}]}]}]}]}]}]}]}]}]}]}]}]") ≡ verdict (accepted 2)
unfolding reading
steps_001 = refl

-- 12,288 steps
steps_003 : found (codes "{\"all\": {\"hosts\": [\"h1\"]}}") (codes "[{\"hosts\": \"all\", \"tasks\": [{\"block\": [], \"always\": [{\"block\": [], \"always\": [{\"block\": [], \"always\": [{\"block\": [], \"always\": [{\"block\": [], \"always\": [{\"block\": [], \"always\": [{\"block\": [], \"always\": [{\"block\": [], \"always\": [{\"block\": [], \"always\": [{\"block\": [], \"always\": [{\"block\": [], \"always\": [{\"block\": [], \"always\": [{\"ping\": null}, {\"ping\": null}, {\"ping\": null}]}]}]}]}]}]}]}]}]}]}]}]}]}]") ≡ verdict (refused (record { code = 13; line = 1; host = None }))
unfolding reading
steps_003 = refl

-- 8,192 and a gathering
steps_004 : found (codes "{\"all\": {\"hosts\": [\"h1\"]}}") (codes "[{\"hosts\": \"all\", \"tasks\": [{\"block\": [], \"always\": [{\"block\": [], \"always\": [{\"block\": [], \"always\": [{\"block\": [], \"always\": [{\"block\": [], \"always\": [{\"block\": [], \"always\": [{\"block\": [], \"always\": [{\"block\": [], \"always\": [{\"block\": [], \"always\": [{\"block\": [], \"always\": [{\"block\": [], \"always\": [{\"block\": [], \"always\": [{\"ping\": null}, {\"ping\": null}]}]}]}]}]}]}]}]}]}]}]}]}], \"gather_facts\": true}]") ≡ verdict (refused (record { code = 13; line = 1; host = None }))
unfolding reading
steps_004 = refl

-- 16 always, one task
steps_006 : found (codes "{\"all\": {\"hosts\": [\"h1\"]}}") (codes "[{\"hosts\": \"all\", \"tasks\": [{\"block\": [], \"always\": [{\"block\": [], \"always\": [{\"block\": [], \"always\": [{\"block\": [], \"always\": [{\"block\": [], \"always\": [{\"block\": [], \"always\": [{\"block\": [], \"always\": [{\"block\": [], \"always\": [{\"block\": [], \"always\": [{\"block\": [], \"always\": [{\"block\": [], \"always\": [{\"block\": [], \"always\": [{\"block\": [], \"always\": [{\"block\": [], \"always\": [{\"block\": [], \"always\": [{\"block\": [], \"always\": [{\"ping\": null}]}]}]}]}]}]}]}]}]}]}]}]}]}]}]}]}]}]") ≡ verdict (refused (record { code = 13; line = 1; host = None }))
unfolding reading
steps_006 = refl

-- the sum of two plays: the second one's line
steps_007 : found (codes "{\"all\": {\"hosts\": [\"h1\"]}}") (codes "[{\"hosts\": \"all\", \"tasks\": [{\"block\": [], \"always\": [{\"block\": [], \"always\": [{\"block\": [], \"always\": [{\"block\": [], \"always\": [{\"block\": [], \"always\": [{\"block\": [], \"always\": [{\"block\": [], \"always\": [{\"block\": [], \"always\": [{\"block\": [], \"always\": [{\"block\": [], \"always\": [{\"block\": [], \"always\": [{\"block\": [], \"always\": [{\"ping\": null}, {\"ping\": null}]}]}]}]}]}]}]}]}]}]}]}]}]}, {\"hosts\": \"all\", \"tasks\": [{\"ping\": null}]}]") ≡ verdict (refused (record { code = 13; line = 16; host = None }))
unfolding reading
steps_007 = refl

-- an action counts
steps_009 : found (codes "{\"all\": {\"hosts\": [\"h1\"]}}") (codes "[{\"hosts\": \"all\", \"tasks\": [{\"block\": [], \"always\": [{\"block\": [], \"always\": [{\"block\": [], \"always\": [{\"block\": [], \"always\": [{\"block\": [], \"always\": [{\"block\": [], \"always\": [{\"block\": [], \"always\": [{\"block\": [], \"always\": [{\"block\": [], \"always\": [{\"block\": [], \"always\": [{\"block\": [], \"always\": [{\"block\": [], \"always\": [{\"ping\": null}, {\"ping\": null}]}]}]}]}]}]}]}]}]}]}]}]}, {\"debug\": {\"msg\": \"x\"}}]}]") ≡ verdict (refused (record { code = 13; line = 1; host = None }))
unfolding reading
steps_009 = refl

-- V13 comes before V08 on the play's line
steps_023 : found (codes "{\"all\": {\"hosts\": [\"h1\"]}}") (codes "[{\"hosts\": \"all\", \"tasks\": [{\"block\": [], \"always\": [{\"block\": [], \"always\": [{\"block\": [], \"always\": [{\"block\": [], \"always\": [{\"block\": [], \"always\": [{\"block\": [], \"always\": [{\"block\": [], \"always\": [{\"block\": [], \"always\": [{\"block\": [], \"always\": [{\"block\": [], \"always\": [{\"block\": [], \"always\": [{\"block\": [], \"always\": [{\"block\": [], \"always\": [{\"block\": [], \"always\": [{\"ping\": null}]}]}]}]}]}]}]}]}]}]}]}]}]}]}], \"vars\": {\"item\": 1}}]") ≡ verdict (refused (record { code = 13; line = 1; host = None }))
unfolding reading
steps_023 = refl

-- V13 comes before V06 of the pattern
steps_024 : found (codes "{\"all\": {\"hosts\": [\"h1\"]}}") (codes "[{\"hosts\": \"zz\", \"tasks\": [{\"block\": [], \"always\": [{\"block\": [], \"always\": [{\"block\": [], \"always\": [{\"block\": [], \"always\": [{\"block\": [], \"always\": [{\"block\": [], \"always\": [{\"block\": [], \"always\": [{\"block\": [], \"always\": [{\"block\": [], \"always\": [{\"block\": [], \"always\": [{\"block\": [], \"always\": [{\"block\": [], \"always\": [{\"block\": [], \"always\": [{\"block\": [], \"always\": [{\"ping\": null}]}]}]}]}]}]}]}]}]}]}]}]}]}]}]}]") ≡ verdict (refused (record { code = 13; line = 1; host = None }))
unfolding reading
steps_024 = refl

-- an earlier line comes before V13
steps_026 : found (codes "{\"all\": {\"hosts\": [\"h1\"]}}") (codes "[{\"hosts\": \"all\", \"tasks\": [{\"ping\": null}], \"vars\": {\"item\": 1}}, {\"hosts\": \"all\", \"tasks\": [{\"block\": [], \"always\": [{\"block\": [], \"always\": [{\"block\": [], \"always\": [{\"block\": [], \"always\": [{\"block\": [], \"always\": [{\"block\": [], \"always\": [{\"block\": [], \"always\": [{\"block\": [], \"always\": [{\"block\": [], \"always\": [{\"block\": [], \"always\": [{\"block\": [], \"always\": [{\"block\": [], \"always\": [{\"block\": [], \"always\": [{\"block\": [], \"always\": [{\"ping\": null}]}]}]}]}]}]}]}]}]}]}]}]}]}]}]}]") ≡ verdict (refused (record { code = 8; line = 1; host = None }))
unfolding reading
steps_026 = refl

-- both plays past the limit: the first one's line
steps_027 : found (codes "{\"all\": {\"hosts\": [\"h1\"]}}") (codes "[{\"hosts\": \"all\", \"tasks\": [{\"block\": [], \"always\": [{\"block\": [], \"always\": [{\"block\": [], \"always\": [{\"block\": [], \"always\": [{\"block\": [], \"always\": [{\"block\": [], \"always\": [{\"block\": [], \"always\": [{\"block\": [], \"always\": [{\"block\": [], \"always\": [{\"block\": [], \"always\": [{\"block\": [], \"always\": [{\"block\": [], \"always\": [{\"block\": [], \"always\": [{\"block\": [], \"always\": [{\"ping\": null}]}]}]}]}]}]}]}]}]}]}]}]}]}]}]}, {\"hosts\": \"all\", \"tasks\": [{\"block\": [], \"always\": [{\"block\": [], \"always\": [{\"block\": [], \"always\": [{\"block\": [], \"always\": [{\"block\": [], \"always\": [{\"block\": [], \"always\": [{\"block\": [], \"always\": [{\"block\": [], \"always\": [{\"block\": [], \"always\": [{\"block\": [], \"always\": [{\"block\": [], \"always\": [{\"block\": [], \"always\": [{\"block\": [], \"always\": [{\"block\": [], \"always\": [{\"ping\": null}]}]}]}]}]}]}]}]}]}]}]}]}]}]}]}]") ≡ verdict (refused (record { code = 13; line = 1; host = None }))
unfolding reading
steps_027 = refl

-- V13 of the second play comes before V07 of its task
steps_028 : found (codes "{\"all\": {\"hosts\": [\"h1\"]}}") (codes "[{\"hosts\": \"all\", \"tasks\": [{\"block\": [], \"always\": [{\"block\": [], \"always\": [{\"block\": [], \"always\": [{\"block\": [], \"always\": [{\"block\": [], \"always\": [{\"block\": [], \"always\": [{\"block\": [], \"always\": [{\"block\": [], \"always\": [{\"block\": [], \"always\": [{\"block\": [], \"always\": [{\"block\": [], \"always\": [{\"block\": [], \"always\": [{\"block\": [], \"always\": [{\"block\": [], \"always\": []}]}]}]}]}]}]}]}]}]}]}]}]}]}, {\"ping\": null}]}, {\"hosts\": \"all\", \"tasks\": [{\"block\": [], \"always\": [{\"block\": [], \"always\": [{\"block\": [], \"always\": [{\"block\": [], \"always\": [{\"block\": [], \"always\": [{\"block\": [], \"always\": [{\"block\": [], \"always\": [{\"block\": [], \"always\": [{\"block\": [], \"always\": [{\"block\": [], \"always\": [{\"block\": [], \"always\": [{\"block\": [], \"always\": [{\"block\": [], \"always\": [{\"block\": [], \"always\": [{\"command\": {}}]}]}]}]}]}]}]}]}]}]}]}]}]}]}]}]") ≡ verdict (refused (record { code = 13; line = 17; host = None }))
unfolding reading
steps_028 = refl

-- V07 of the first play comes before V13 of the second
steps_029 : found (codes "{\"all\": {\"hosts\": [\"h1\"]}}") (codes "[{\"hosts\": \"all\", \"tasks\": [{\"command\": {}}]}, {\"hosts\": \"all\", \"tasks\": [{\"block\": [], \"always\": [{\"block\": [], \"always\": [{\"block\": [], \"always\": [{\"block\": [], \"always\": [{\"block\": [], \"always\": [{\"block\": [], \"always\": [{\"block\": [], \"always\": [{\"block\": [], \"always\": [{\"block\": [], \"always\": [{\"block\": [], \"always\": [{\"block\": [], \"always\": [{\"block\": [], \"always\": [{\"block\": [], \"always\": [{\"block\": [], \"always\": [{\"ping\": null}]}]}]}]}]}]}]}]}]}]}]}]}]}]}]}]") ≡ verdict (refused (record { code = 7; line = 2; host = None }))
unfolding reading
steps_029 = refl
