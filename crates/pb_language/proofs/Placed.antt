-- Slots in the order of their names, with one put in place of any other of its name.
use Rattle.std.proofs.Common.{◌≡◌, ℕ, List, Bool, true, false, cond, bytes_eq, sym, ◌∙◌}
use Rattle.pb_semantics.specs.Kind.{KindData, Slots, no_slots, slot, put_slot}
use Rattle.pb_semantics.proofs.Ascents.{Before, Ascend, ascend_put, same_slots}
use Rattle.pb_semantics.proofs.PutSlots.{at_put}
use Rattle.pb_language.specs.Scope.{without_slot, with_slot}
use Rattle.pb_language.proofs.WithSlot.{at_with}

before-either : (q : Bool) (p : List ℕ) (ss ts : Slots) → Before p ss → Before p ts → Before p (cond q ss ts)
before-either true p ss ts h i = h
before-either false p ss ts h i = i

before-without : (p n : List ℕ) (ss : Slots) → Before p ss → Before p (without_slot n ss)
before-without p n no_slots h = tt
before-without p n (slot m a k ss) h =
    let rest = before-without p n ss h.1 in
    before-either (bytes_eq n m) p (without_slot n ss) (slot m a k (without_slot n ss)) rest (h.0, rest)

ascend-either : (q : Bool) (ss ts : Slots) → Ascend ss → Ascend ts → Ascend (cond q ss ts)
ascend-either true ss ts h i = h
ascend-either false ss ts h i = i

ascend-without : (n : List ℕ) (ss : Slots) → Ascend ss → Ascend (without_slot n ss)
ascend-without n no_slots h = tt
ascend-without n (slot m a k ss) h =
    let rest = ascend-without n ss h.1 in
    ascend-either (bytes_eq n m) (without_slot n ss) (slot m a k (without_slot n ss)) rest (before-without m n ss h.0, rest)

-- a name stands once, so to put one is to put it in place of the other
pub put-placed : (n : List ℕ) (a : Bool) (k : KindData) (ss : Slots) → Ascend ss → put_slot n a k ss ≡ with_slot n a k ss
put-placed n a k ss h =
    same_slots (put_slot n a k ss) (with_slot n a k ss) (ascend_put n a k ss h) (ascend_put n a k (without_slot n ss) (ascend-without n ss h))
    (λ p. at_put p n a k ss ∙ sym (at_with p n a k ss))
