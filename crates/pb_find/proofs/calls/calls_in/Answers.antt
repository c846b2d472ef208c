use Rattle.std.proofs.Common.{◌≡◌, ◌+◌, ◌∷◌, ◌<◌, List, ap, drop, eq-eqb, get_or, length, map, suc, refl, ◌∙◌, arith}
use Rattle.std.proofs.lemmas.Bool.{ne_eqb}
use Rattle.std.proofs.lemmas.List.{get_or_read}
use Rattle.pb_syntax.proofs.Left.{drop-at}
use Rattle.pb_route.specs.Station.{station_task}
use Rattle.pb_route.specs.declared.station.Station.{Station}
use Rattle.pb_route.specs.Places.{length_at, places_calls}
use Rattle.pb_find.specs.Ways.{way_visits}
use Rattle.pb_find.proofs.Counting.{first_counted, other_counted}
use Rattle.pb_find.proofs.calls.calls_in.Goals.{then-from-next+in_ok-here+in_ok-calls, else-from-next}
use Rattle.pb_find.proofs.calls.calls_in.Goals as goal

pub loop-station-preserved : goal.loop-station-preserved
loop-station-preserved g c =
    let l = c.loop-station in
    let x = c.station-item.result in
    let i = l.station-index in
    let ss = c.args.stations.now in
    let rest = drop (i + 1) ss in
    let left : drop i ss ≡ x ∷ rest = drop-at ss i x (omega arith) c.station-item.is in
    let vs = way_visits (g.O.Outlook.setting c.args.outlook.now) ss c.args.space.now c.args.values.now in
    let all = places_calls vs 0 (map station_task ss) in
    let was : l.calls + places_calls vs l.next (map station_task (x ∷ rest)) ≡ all = ap (λ (xs : List Station). l.calls + places_calls vs l.next (map station_task xs)) (let turned : x ∷ rest ≡ drop i ss = cc in turned) ∙ l.invariant.counted in
    let ts = map station_task rest in
    elim c.if-from-next.branch [
      | then-from-next+in_ok-here+in_ok-calls w ↦
          let all_placed : (get_or ss i x).place < c.in_ok-lengths.lengths.len = c.in_ok-lengths.ensures.places i x c.loop-station-test.true in
          let place : x.place ≡ (get_or ss i x).place = ap (λ (s : Station). s.place) c.station-item.is in
          let within : x.place < length c.in_ok-lengths.lengths.items = omega (arith, all_placed, place, c.in_ok-lengths.lengths.ok.0) in
          let most : w.index.result.now ≡ length_at x.place vs = get_or_read c.in_ok-lengths.lengths.items x.place w.index.result.now within w.index.ensures 0 ∙ c.in_ok-lengths.ensures.lengths x.place in
          let here = w.in_ok-here.here in
          let same : x.place ≡ l.next = omega (arith, c.from.ensures, w.if-from-next.true) in
          let done = first_counted vs (station_task x) ts x.place l.next here l.calls all refl (eq-eqb x.place l.next same) (w.in_ok-here.ensures vs most) was in
          let next : c.if-from-next.next ≡ suc l.next = omega (arith, w.next-is) in
          record {
            few = omega arith;
            counted = ap (λ n. n + places_calls vs c.if-from-next.next ts) (w.calls-is ∙ w.in_ok-calls.ensures) ∙ ap (λ n. (l.calls + here) + places_calls vs n ts) next ∙ done;
          }
      | else-from-next w ↦
          let done = other_counted vs (station_task x) ts x.place l.next l.calls all refl (ne_eqb x.place l.next (λ e. omega (arith, c.from.ensures, w.if-from-next.false, e))) was in
          record {
            few = omega (arith, w.next-is);
            counted = ap (λ n. n + places_calls vs c.if-from-next.next ts) w.calls-is ∙ ap (λ n. l.calls + places_calls vs n ts) w.next-is ∙ done;
          }
    ]
