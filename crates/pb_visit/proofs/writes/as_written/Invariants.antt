use Rattle.std.proofs.Common.{◌≡◌}
use Rattle.pb_language.specs.Cases.{append_sets}
use Rattle.pb_fit.specs.SetsView.{sets_view as found_view}
use Rattle.pb_transfer.specs.Written.{sets_view}
use Rattle.pb_visit.proofs.writes.as_written.Given as goal

abbrev pub invariant-loop-name : goal.invariant-loop-name
invariant-loop-name l = append_sets (sets_view l.sets.items) (found_view l.is_certain l.name-iterator.rest.items) ≡ found_view l.is_certain l.fn.found.items
