use Rattle.std.proofs.Common.{◌≡◌, ◌<◌, ◌≤◌, ◌+◌, ◌++◌, ◌∷◌, [], Bool, drop, take, length, map, suc, subst, sym, ap, ◌∙◌, arith, rules}
use Rattle.std.proofs.lemmas.List.{drop_all, length-map, take_all, take_at, take_more}
use Rattle.pb_language.specs.Expression.{Name}
use Rattle.pb_language.specs.Scope.{is_certain}
use Rattle.pb_lattice.specs.Words.{exit_of, lost_marks, spot_in}
use Rattle.pb_syntax.proofs.Left.{drop-at}
use Rattle.pb_route.specs.declared.station.Station.{Station}
use Rattle.pb_find.specs.Ways.{value_at, way_visits}
use Rattle.pb_hosts.specs.Tables.{never_lasts}
use Rattle.pb_lasting.specs.Losses.{AreAll, reached}
use Rattle.pb_lasting.proofs.Marks.{Counted, all_counted, counted_too, none_counted, none_marked}
use Rattle.pb_lasting.proofs.Order.{places_before, reached_at}
use Rattle.pb_lasting.proofs.Visits.{certain-stations}
use Rattle.pb_lasting.proofs.lasting.marks_before.Goals as goal

pub loop-index-init : goal.loop-index-init
loop-index-init c =
    let s = c.args.space.now in
    let e = exit_of s c.args.end in
    let val = value_at s c.args.values.now in
    let ys = c.in_ok-nodes.nodes.items in
    let bare = λ (x : Name). ap (λ f. is_certain (spot_in x f)) c.empty.ensures.means in
    let first = c.as_mut_slice.ensures.value ∙ c.in_ok-from.ensures.items_if_clones_equal (λ y h. h) ∙ none_marked c.names.result.now s.names c.names.ensures.names in
    let new = c.mark_lost.new.marks in
    let whole = take_at new (drop (length new) c.in_ok-from.from.items) c.in_ok-from.from.len (omega arith) in
    none_counted s.names e (exit_of s c.empty.result) val ys c.as_mut_slice.result.now (take c.in_ok-from.from.len (new ++ drop (length new) c.in_ok-from.from.items)) bare first (whole ∙ c.mark_lost.ensures)

pub bounds-values-node : goal.bounds-values-node
bounds-values-node c =
    let s = c.args.space.now in
    let es = c.args.values.now in
    let ss = c.args.stations.now in
    let ps = map (λ (t : Station). t.place) ss in
    let few : length ps < length es = omega (arith, length-map ss (λ (t : Station). t.place)) in
    (reached_at (value_at s es) (length es) ps c.in_ok-nodes.nodes.items c.loop-index.index c.index.result.now (c.in_ok-nodes.ensures s) few (omega arith) c.index.ensures).0

pub offset_bounds-values-node : goal.offset_bounds-values-node
offset_bounds-values-node c =
    let lt : c.index.result.now.1 < length c.args.values.now = bounds-values-node c in
    search rules

pub loop-index-preserved : goal.loop-index-preserved
loop-index-preserved c =
    let l = c.loop-index in
    let s = c.args.space.now in
    let es = c.args.values.now in
    let val = value_at s es in
    let e = exit_of s c.args.end in
    let ps = map (λ (t : Station). t.place) c.args.stations.now in
    let ys = c.in_ok-nodes.nodes.items in
    let i = l.index in
    let x = c.index.result.now in
    let next = exit_of s c.known_next-next.result in
    let new = c.mark_between.new.from in
    let told = c.in_ok-mark_between.ensures in
    let lt : i < length ys = omega arith in
    let few : length ps < length es = omega (arith, length-map c.args.stations.now (λ (t : Station). t.place)) in
    let alive = (reached_at val (length es) ps ys i x (c.in_ok-nodes.ensures s) few lt c.index.ensures).1 in
    let left : drop i ys ≡ x ∷ drop (i + 1) ys = drop-at ys i x lt c.index.ensures in
    let done : take (i + 1) ys ≡ take i ys ++ x ∷ [] = take_more ys i x lt ∙ ap (λ y. take i ys ++ y ∷ []) (sym c.index.ensures) in
    let was = subst (λ zs. Counted s.names e val (take i ys) zs l.from.items) left l.invariant in
    let marks = told.marks ∙ ap (λ ks. lost_marks never_lasts (val x.1) next s.names (lost_marks (suc x.0) next (val x.1) s.names ks)) c.as_mut_slice-in-loop-index.ensures.value in
    let on : suc i ≡ i + 1 = omega arith in
    let same = λ (n : Name) (b : Bool) (are : AreAll b n e val (drop (i + 1) ys)). c.known_next-next.ensures.next s n b (subst (λ zs. AreAll b n e val (drop (suc i) zs)) (sym c.as_slice.ensures.value) (subst (λ j. AreAll b n e val (drop j ys)) (sym on) are)) in
    let whole = take_at new (drop (length new) l.from.items) l.from.len (omega arith) in
    subst (λ zs. Counted s.names e val zs (drop (i + 1) ys) (take l.from.len (new ++ drop (length new) l.from.items))) (sym done)
    (subst (λ ks. Counted s.names e val (take i ys ++ x ∷ []) (drop (i + 1) ys) ks) (sym whole)
    (counted_too s.names e val (take i ys) (drop (i + 1) ys) x next l.from.items new (places_before ys i x (c.in_ok-nodes.ensures s).rising lt c.index.ensures) alive told.small same marks was))

pub returns-clause-marks : goal.returns-clause-marks
returns-clause-marks c = λ st.
    let l = c.loop-index in
    let s = c.args.space.now in
    let ss = c.args.stations.now in
    let val = value_at s c.args.values.now in
    let e = exit_of s c.args.end in
    let ys = c.in_ok-nodes.nodes.items in
    let past : length ys ≤ l.index = omega arith in
    let counted = subst (λ zs. Counted s.names e val zs [] l.from.items) (take_all l.index ys past) (subst (λ zs. Counted s.names e val (take l.index ys) zs l.from.items) (drop_all l.index ys past) l.invariant) in
    all_counted s.names e val (reached val 1 (map (λ (t : Station). t.place) ss)) ys l.from.items (way_visits st ss s c.args.values.now) (c.in_ok-nodes.ensures s) (λ n. certain-stations n st ss val 1) counted
