use Rattle.std.proofs.Common.{◌≡◌, ◌+◌, ◌≤◌, [], ◌∷◌, List, drop, length, map, suc, subst, sym, arith}
use Rattle.std.proofs.lemmas.List.{drop_all}
use Rattle.pb_language.specs.Walk.{visits_at}
use Rattle.pb_syntax.proofs.Left.{drop-at}
use Rattle.pb_kind.specs.KindView.{slots_view}
use Rattle.pb_route.specs.Station.{station_task}
use Rattle.pb_route.specs.declared.station.Station.{Station}
use Rattle.pb_route.specs.Visited.{nodes_visits}
use Rattle.pb_find.specs.Finds.{Finds}
use Rattle.pb_find.specs.Ways.{nothing_known, value_at, visits_from}
use Rattle.pb_find.proofs.Finding.{finds_node, finds_nothing, values_well}
use Rattle.pb_find.proofs.find.find_play.Goals as goal

pub loop-index-preserved : goal.loop-index-preserved
loop-index-preserved g c =
    let l = c.loop-index in
    let x = c.index-stations-index.result in
    let i = l.index in
    let ss = c.args.stations.now in
    let s = c.args.space.now in
    let es = c.args.values.now in
    let st = g.O.Outlook.setting c.args.outlook.now in
    let view = slots_view c.args.view.now.entries in
    let now = c.in_ok-found.found in
    let rest = drop (i + 1) ss in
    let left : drop i ss ≡ x ∷ rest = drop-at ss i x (omega arith) c.index-stations-index.is in
    let next : i + 1 ≡ suc i = omega arith in
    record {
      next = (c.in_ok-found.ensures []).well;
      rest = λ h f y.
          let here : Finds h view (visits_at st (station_task x) (value_at s es (suc i))) l.found now = subst (λ j. Finds h view (visits_at st (station_task x) (value_at s es j)) l.found now) next (c.in_ok-found.ensures h) in
          let later : Finds h view (nodes_visits st (map station_task rest) (value_at s es) (suc (suc i))) now f = subst (λ j. Finds h view (nodes_visits st (map station_task rest) (value_at s es) (suc j)) now f) next y in
          l.invariant.rest h f
          (subst (λ (xs : List Station). Finds h view (visits_from st xs s es (suc i)) l.found f) (sym left)
          (finds_node h view st (station_task x) (map station_task rest) (value_at s es) (suc i) l.found now f (c.views_are_well.ensures c.args.outlook.now) (λ m. values_well s es m (λ k lt. c.requires.values k nothing_known lt)) l.invariant.next here later));
    }

pub returns : goal.returns
returns g c = λ h.
    let l = c.loop-index in
    let ss = c.args.stations.now in
    let s = c.args.space.now in
    let es = c.args.values.now in
    let st = g.O.Outlook.setting c.args.outlook.now in
    let view = slots_view c.args.view.now.entries in
    let past : length ss ≤ l.index = omega arith in
    l.invariant.rest h l.found
    (subst (λ (xs : List Station). Finds h view (visits_from st xs s es (suc l.index)) l.found l.found) (sym (drop_all l.index ss past)) (finds_nothing h view l.found l.invariant.next))
