use Rattle.std.proofs.Common.{drop, suc}
use Rattle.pb_semantics.specs.Kind.{recs}
use Rattle.pb_semantics.specs.Well.{Well}
use Rattle.pb_language.specs.Expression.{Name}
use Rattle.pb_kind.specs.KindView.{slots_view}
use Rattle.pb_find.specs.Finds.{Finds}
use Rattle.pb_find.specs.Ways.{visits_from, way_visits}
use Rattle.pb_find.specs.declared.find.Find.{Find}
use Rattle.pb_find.proofs.find.find_play.Given as goal

abbrev pub invariant-loop-index : goal.invariant-loop-index
invariant-loop-index g l = record {
  next : Well (recs (slots_view l.found.next.entries));
  rest : (h : Name) (f : Find) → Finds h (slots_view l.view.entries) (visits_from (g.O.Outlook.setting l.outlook) (drop l.index l.stations) l.space l.values (suc l.index)) l.found f
      → Finds h (slots_view l.view.entries) (way_visits (g.O.Outlook.setting l.outlook) l.stations l.space l.values) l.fn.before f;
}
