use Rattle.std.specs.Str.{IsCharBoundary}
use Rattle.pb_inventory.proofs.WordBytes.{Ended}
use Rattle.pb_inventory.proofs.pattern.without_last_blanks.Given as goal

abbrev pub invariant-loop-end : goal.invariant-loop-end
invariant-loop-end l = record { ends : IsCharBoundary l.fn.text l.end; left : Ended l.fn.text l.end }

abbrev pub decreases-loop-end : goal.decreases-loop-end
decreases-loop-end l = l.end
