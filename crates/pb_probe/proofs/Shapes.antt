-- What the shape of a module says of its fields.
use Rattle.std.proofs.Common.{◌≡◌, true, false, not, ◌&&◌, codes}
use Rattle.pb_semantics.specs.Kind.{Slots, recs, slot_at, is_listed}
use Rattle.pb_semantics.specs.Signature.{is_shape, are_free, is_certain_boolean}
use Rattle.pb_semantics.proofs.Bools.{and-right, not-true}

-- no shape has a final status of its own
pub is_listed-failed : (ss : Slots) → is_shape (recs ss) ≡ true → is_listed (codes "failed") ss ≡ false
is_listed-failed ss h =
    not-true (is_listed (codes "failed") ss)
    (and-right (is_certain_boolean (slot_at (codes "changed") ss)) (not (is_listed (codes "failed") ss))
    (and-right (are_free ss) (is_certain_boolean (slot_at (codes "changed") ss) && not (is_listed (codes "failed") ss)) h))
