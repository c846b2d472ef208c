use Rattle.std.proofs.Common.{◌≡◌, drop}
use Rattle.pb_language.specs.Cases.{append_sets}
use Rattle.pb_transfer.specs.Written.{sets_view}
use Rattle.pb_visit.proofs.writes.copies.Given as goal

abbrev pub invariant-loop-set : goal.invariant-loop-set
invariant-loop-set l = append_sets (sets_view l.copies.items) (sets_view (drop l.set-index l.sets)) ≡ sets_view l.sets
