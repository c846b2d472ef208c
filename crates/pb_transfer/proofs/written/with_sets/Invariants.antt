use Rattle.std.proofs.Common.{drop}
use Rattle.pb_language.specs.Cases.{with_sets}
use Rattle.pb_language.specs.Wells.{WellSets}
use Rattle.pb_lattice.specs.Words.{IsKept, Stands, exit_of}
use Rattle.pb_transfer.specs.Written.{AreSame, sets_view, where_led}
use Rattle.pb_transfer.proofs.written.with_sets.Given as goal

abbrev pub invariant-loop-set : goal.invariant-loop-set
invariant-loop-set l = record {
  kept : IsKept l.initial.space l.space;
  stands : Stands l.space l.at;
  well : WellSets (sets_view (drop l.set-index l.sets));
  same : AreSame (where_led (with_sets (sets_view (drop l.set-index l.sets))) (exit_of l.space l.at)) (where_led (with_sets (sets_view l.sets)) (exit_of l.initial.space l.initial.at));
}
