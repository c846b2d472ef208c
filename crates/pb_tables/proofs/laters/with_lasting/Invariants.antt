use Rattle.std.proofs.Common.{◌≡◌, length}
use Rattle.pb_tables.specs.Listed.{lasting_lists, put_each}
use Rattle.pb_tables.proofs.laters.with_lasting.Given as goal

abbrev pub invariant-loop-last : goal.invariant-loop-last
invariant-loop-last l = put_each (lasting_lists l.laters.items) l.left.items ≡ put_each (lasting_lists l.fn.before.items) l.fn.lasting.items

abbrev pub decreases-loop-last : goal.decreases-loop-last
decreases-loop-last l = length l.left.items
