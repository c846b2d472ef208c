-- What is sound is in order.
use Rattle.std.proofs.Common.{◌≡◌, List, [], ◌∷◌, true, refl}
use Rattle.pb_semantics.proofs.Bools.{and-both}
use Rattle.pb_language.specs.Book.{Registry}
use Rattle.pb_task.specs.declared.task.Task.{Task}
use Rattle.pb_play.specs.Sound.{AreSound}
use Rattle.pb_book.specs.Ordered.{are_in_order, is_in_order}

pub all-ordered : (ms : Registry) (ts : List Task) → AreSound ms ts → are_in_order ts ≡ true
all-ordered ms [] h = refl
all-ordered ms (t ∷ ts) h = and-both (is_in_order t) (are_in_order ts) (and-both _ _ h.0.1.0 h.0.1.1) (all-ordered ms ts h.1)
