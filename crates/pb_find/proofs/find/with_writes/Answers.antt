use Rattle.std.proofs.Common.{◌≡◌, ◌+◌, ◌≤◌, ◌∷◌, List, Option, String, Global, true, drop, length, option_map, string_bytes, subst, sym, ap, ◌∙◌, arith}
use Rattle.std.proofs.lemmas.List.{drop_all}
use Rattle.pb_language.specs.Cases.{Sets, append_sets, no_sets, sets}
use Rattle.pb_language.specs.Expression.{Name}
use Rattle.pb_language.specs.Wells.{WellSets}
use Rattle.pb_syntax.proofs.Left.{drop-at}
use Rattle.pb_transfer.specs.Written.{sets_view}
use Rattle.pb_transfer.specs.declared.written.Set.{Set}
use Rattle.pb_kind.specs.KindView.{kind_view, slots_view}
use Rattle.pb_route.specs.Station.{station_task}
use Rattle.pb_visit.specs.Visits.{registered, writes_view}
use Rattle.pb_visit.specs.declared.writes.Writes.{Writes}
use Rattle.pb_find.specs.Written.{Written}
use Rattle.pb_find.proofs.Either.{append_again, either_well, either_written}
use Rattle.pb_find.proofs.Writes.{any_flag, well_first, well_second, written_nothing, written_then}
use Rattle.pb_find.proofs.find.with_writes.Goals as goal

-- the results before what is set
results_first : (n : Option Name) (w : Writes) → WellSets (writes_view n w)
    → WellSets (append_sets (append_sets (registered n (option_map kind_view w.going)) (registered n (option_map kind_view w.failing))) (sets_view w.sets.items))
results_first n w u =
    subst (λ (r : Sets). WellSets r) (sym (append_again (registered n (option_map kind_view w.going)) (registered n (option_map kind_view w.failing)) (sets_view w.sets.items))) u

pub with_registered-requires-clause-writes : goal.with_registered-requires-clause-writes
with_registered-requires-clause-writes c =
    let n = (station_task c.args.station.now).register in
    let w = c.args.writes in
    let results = append_sets (registered n (option_map kind_view w.going)) (registered n (option_map kind_view w.failing)) in
    either_well n (option_map kind_view w.going) (option_map kind_view w.failing) (option_map kind_view w.either) c.requires.either
    (well_first results (sets_view w.sets.items) (results_first n w c.requires.writes))

pub loop-set-init : goal.loop-set-init
loop-set-init c =
    let n = (station_task c.args.station.now).register in
    let w = c.args.writes in
    let view = slots_view c.args.view.now.entries in
    let going = registered n (option_map kind_view w.going) in
    let failing = registered n (option_map kind_view w.failing) in
    let results = append_sets going failing in
    let others = sets_view w.sets.items in
    let all : WellSets (append_sets results others) = results_first n w c.requires.writes in
    let items = c.deref-set-items.ensures.value in
    let now = c.in_ok-found.found in
    let one : Written results view c.args.before now = either_written n (option_map kind_view w.going) (option_map kind_view w.failing) (option_map kind_view w.either) view c.args.before now c.requires.either (well_first results others all) c.requires.next c.in_ok-found.ensures in
    record {
      next = one.well;
      well = subst (λ (xs : List Set). WellSets (sets_view xs)) (sym items) (well_second results others all);
      rest = λ f x.
          subst (λ (r : Sets). Written r view c.args.before f) (append_again going failing others)
          (written_then results others view c.args.before now f all c.requires.next one (subst (λ (xs : List Set). Written (sets_view xs) view now f) items x));
    }

pub loop-set-preserved : goal.loop-set-preserved
loop-set-preserved c =
    let l = c.loop-set in
    let x = c.set-item.result in
    let i = l.set-index in
    let all = c.deref-set-items.result.now in
    let rest = drop (i + 1) all in
    let view = slots_view c.args.view.now.entries in
    let left : drop i all ≡ x ∷ rest = drop-at all i x (omega arith) c.set-item.is in
    let well : WellSets (sets_view (x ∷ rest)) = subst (λ (xs : List Set). WellSets (sets_view xs)) left l.invariant.well in
    let n = string_bytes x.name.value in
    let k = kind_view x.kind in
    let name : c.as_str.result.now ≡ n = c.as_str.ensures.value ∙ ap (λ (s : String Global). string_bytes s) c.deref.ensures in
    let now = c.in_ok-found-2.found in
    let one : Written (sets n true k no_sets) view l.found now = subst (λ m. Written (sets m true k no_sets) view l.found now) name c.in_ok-found-2.ensures in
    record {
      next = c.in_ok-found-2.ensures.well;
      well = well.1;
      rest = λ f y.
          l.invariant.rest f
          (subst (λ (xs : List Set). Written (sets_view xs) view l.found f) (sym left)
          (written_then (sets n x.is_certain k no_sets) (sets_view rest) view l.found now f well l.invariant.next (any_flag n true x.is_certain k view l.found now one) y));
    }

pub returns : goal.returns
returns c =
    let l = c.loop-set in
    let all = c.deref-set-items.result.now in
    let view = slots_view c.args.view.now.entries in
    let past : length all ≤ l.set-index = omega arith in
    l.invariant.rest l.found (subst (λ (xs : List Set). Written (sets_view xs) view l.found l.found) (sym (drop_all l.set-index all past)) (written_nothing view l.found l.invariant.next))
