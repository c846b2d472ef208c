use Rattle.std.proofs.Common.{◌≡◌, ◌+◌, ◌++◌, ◌∷◌, List, ap, drop, length, max, slice_index, suc, take, ◌∙◌, arith}
use Rattle.pb_language.specs.Walk.{visits_at}
use Rattle.pb_syntax.proofs.Left.{drop-at}
use Rattle.pb_route.specs.Station.{station_task}
use Rattle.pb_route.specs.declared.station.Station.{Station}
use Rattle.pb_route.specs.Places.{length_at}
use Rattle.pb_find.specs.Ways.{Visits, value_at, visits_from}
use Rattle.pb_find.proofs.Counting.{written_back}
use Rattle.pb_find.proofs.calls.lengths_in.Goals as goal

pub loop-index-preserved : goal.loop-index-preserved
loop-index-preserved g c =
    let l = c.loop-index in
    let x = c.index-stations-index.result in
    let i = l.index in
    let ss = c.args.stations.now in
    let s = c.args.space.now in
    let es = c.args.values.now in
    let st = g.O.Outlook.setting c.args.outlook.now in
    let rest = drop (i + 1) ss in
    let here = visits_at st (station_task x) (value_at s es (i + 1)) in
    let later = visits_from st rest s es ((i + 1) + 1) in
    let left : drop i ss ≡ x ∷ rest = drop-at ss i x (omega arith) c.index-stations-index.is in
    let next : suc (i + 1) ≡ (i + 1) + 1 = omega arith in
    let split : visits_from st (drop i ss) s es (i + 1) ≡ here ++ later = ap (λ (xs : List Station). visits_from st xs s es (i + 1)) left ∙ ap (λ n. here ++ visits_from st rest s es n) next in
    let now = c.put_length.new.lengths in
    let old = l.lengths.items in
    let same : length now ≡ length old = c.put_length.ensures.number ∙ ap length c.deref_mut.ensures.value in
    let back : take l.lengths.len (now ++ drop (length now) old) ≡ now = written_back now old l.lengths.len same (omega (arith, l.lengths.ok.0)) in
    record {
      placed = l.invariant.placed;
      left = λ p.
          ap (λ xs. max (slice_index xs p) (length_at p later)) back
          ∙ c.in_ok-put_length.ensures.lengths p later
          ∙ ap (λ xs. max (slice_index xs p) (length_at p (here ++ later))) c.deref_mut.ensures.value
          ∙ ap (λ (vs : Visits). max (slice_index old p) (length_at p vs)) (let back : here ++ later ≡ visits_from st (drop i ss) s es (i + 1) = cc in back)
          ∙ l.invariant.left p;
    }
