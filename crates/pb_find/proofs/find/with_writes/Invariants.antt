use Rattle.std.proofs.Common.{drop}
use Rattle.pb_semantics.specs.Kind.{recs}
use Rattle.pb_semantics.specs.Well.{Well}
use Rattle.pb_language.specs.Wells.{WellSets}
use Rattle.pb_kind.specs.KindView.{slots_view}
use Rattle.pb_transfer.specs.Written.{sets_view}
use Rattle.pb_route.specs.Station.{station_task}
use Rattle.pb_visit.specs.Visits.{writes_view}
use Rattle.pb_find.specs.Written.{Written}
use Rattle.pb_find.specs.declared.find.Find.{Find}
use Rattle.pb_find.proofs.find.with_writes.Given as goal

abbrev pub invariant-loop-set : goal.invariant-loop-set
invariant-loop-set l = record {
  next : Well (recs (slots_view l.found.next.entries));
  well : WellSets (sets_view (drop l.set-index l.set-items));
  rest : (f : Find) → Written (sets_view (drop l.set-index l.set-items)) (slots_view l.view.entries) l.found f
      → Written (writes_view (station_task l.station).register l.fn.writes) (slots_view l.view.entries) l.fn.before f;
}
