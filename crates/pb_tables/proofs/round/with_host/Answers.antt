use Rattle.std.proofs.Common.{◌≡◌, ◌∙◌, ap, sym, ◌&&◌}
use Rattle.pb_kind.specs.KindView.{slots_view}
use Rattle.pb_tables.specs.Ends.{found_in}
use Rattle.pb_tables.proofs.Rounded.{host_more, slots_pushed}
use Rattle.pb_tables.proofs.round.with_host.Goals.{then-before, else-before, then-before-2, else-before-2}
use Rattle.pb_tables.proofs.round.with_host.Goals as goal

pub returns-clause-found : goal.returns-clause-found
returns-clause-found c =
    let s = c.args.before in
    let e = c.args.end.now in
    let settled : c.if-before.result ≡ s.is_settled && e.is_settled = elim c.if-before.branch [
      | then-before w ↦ w.result-is ∙ ap (λ q. q && e.is_settled) (sym w.if-before.true)
      | else-before w ↦ w.result-is ∙ w.if-before.false ∙ ap (λ q. q && e.is_settled) (sym w.if-before.false)
    ] in
    let same : c.if-before-2.result ≡ s.is_same && e.is_same = elim c.if-before-2.branch [
      | then-before-2 w ↦ w.result-is ∙ ap (λ q. q && e.is_same) (sym w.if-before-2.true)
      | else-before-2 w ↦ w.result-is ∙ w.if-before-2.false ∙ ap (λ q. q && e.is_same) (sym w.if-before-2.false)
    ] in
    λ ps vs ls xs x at found before.
    host_more _ ps vs ls xs x (found_in e) s _ before found (c.in_ok-fault.ensures x at) settled same c.in_ok-calls.ensures
    (slots_pushed s.next.items _ _ (slots_view e.next.value.entries) c.in_ok-push.ensures.items (ap (λ m. slots_view m.entries) c.in_ok-clone.ensures.cases))
