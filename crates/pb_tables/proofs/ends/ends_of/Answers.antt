use Rattle.std.proofs.Common.{◌≡◌, ◌∙◌, ◌+◌, ◌<◌, ◌≤◌, [], ◌∷◌, List, Some, length, slice_get, ap, sym, refl, subst, arith}
use Rattle.std.proofs.lemmas.List.{length-append}
use Rattle.pb_inventory.specs.Inventory.{inventory_view}
use Rattle.pb_hosts.specs.Shown.{views_view}
use Rattle.pb_tables.specs.Ends.{AreEnds}
use Rattle.pb_tables.specs.Tabled.{laters_in}
use Rattle.pb_tables.specs.declared.end.HostEnd.{HostEnd}
use Rattle.pb_tables.proofs.Standing.{end_found, ends_more, no_ends}
use Rattle.pb_tables.proofs.ends.ends_of.Goals as goal

pub loop-host-init : goal.loop-host-init
loop-host-init c = record {
  names = refl;
  count = ap length c.in_ok-ends.ensures.items;
  ends = λ ps scenes shared.
      let stage = c.args.stage.now in
      let tables = c.args.tables.now in
      let i = inventory_view stage.inventory.now in
      subst (AreEnds i ps (views_view tables.views) (laters_in stage tables.laters.items)) (sym c.in_ok-ends.ensures.items) (no_ends i ps (views_view tables.views) (laters_in stage tables.laters.items));
}

pub loop-host-preserved : goal.loop-host-preserved
loop-host-preserved c =
    let l = c.loop-host in
    let stage = c.args.stage.now in
    let tables = c.args.tables.now in
    let i = inventory_view stage.inventory.now in
    let vs = views_view tables.views in
    let ls = laters_in stage tables.laters.items in
    let e = c.in_ok-end.end in
    let within : l.host < length i.hosts = omega (arith, c.hosts-host-end.ensures, c.loop-host-test.true) in
    record {
      names = c.in_ok-end.ensures.names ∙ l.invariant.names;
      count = ap length c.in_ok-push.ensures.items ∙ length-append l.ends.items (e ∷ []) ∙ ap (λ n. n + 1) l.invariant.count;
      ends = λ ps scenes shared. subst (AreEnds i ps vs ls) (sym c.in_ok-push.ensures.items)
          (ends_more i ps vs ls l.ends.items e (l.invariant.ends ps scenes shared)
          (λ x at.
          let there = subst (λ n. slice_get i.hosts n ≡ Some x) l.invariant.count at in
          let few : length l.ends.items ≤ length i.hosts = omega (arith, within, l.invariant.count) in
          end_found i ps vs ls c.args.firsts.now l.ends.items c.end_of_first-first.result e x l.host
          (λ d h. let first = c.end_of_first-first.ensures d h in (first.0, first.1, subst (λ (es : List HostEnd). slice_get es first.0 ≡ Some d) c.deref.ensures.value first.2))
          c.in_ok-end.ensures.shared (λ none. c.in_ok-end.ensures.walked none ps x scenes there) shared (l.invariant.ends ps scenes shared) few there));
    }
