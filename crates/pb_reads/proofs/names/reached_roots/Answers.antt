use Rattle.std.proofs.Common.{rules, ◌≡◌, ◌∙◌, ◌+◌, ◌-◌, drop, ap, arith}
use Rattle.pb_vars.specs.Borrowed.{borrowed_view, entry_name}
use Rattle.pb_vars.specs.InScope.{in_scope}
use Rattle.pb_reads.specs.Reached.{reached}
use Rattle.pb_reads.specs.RootsView.{roots_view}
use Rattle.pb_reads.proofs.Gathered.{reached-next}
use Rattle.pb_reads.proofs.names.reached_roots.Goals as goal

pub loop-index-preserved : goal.loop-index-preserved
loop-index-preserved c =
    let l = c.loop-index in
    let es = c.args.order.now in
    let scope = in_scope c.args.scope.now in
    let rs = roots_view c.args.roots.now in
    let j = l.index - 1 in
    let up : drop l.index es ≡ drop (j + 1) es = ap (λ i. drop i es) (omega arith) in
    let e = c.index-order-index.result in (
      reached-next scope es j e (entry_name e) rs (roots_view l.all.items) (roots_view c.put_value.new.all.items) (omega arith) c.index-order-index.is (search rules) (search rules)
          (l.invariant.0 ∙ ap (λ xs. reached scope (borrowed_view xs) rs) up),
      λ n. c.in_ok-put_value.ensures.names n,
    )
