use Rattle.std.proofs.Common.{sym, ◌∙◌}
use Rattle.std.proofs.lemmas.Result.{IfOk-weaker}
use Rattle.pb_taught.specs.TaughtView.{scope_view, scopes_view}
use Rattle.pb_expr.proofs.Ways.{last-taken, taught-last}
use Rattle.pb_expr.proofs.narrow.taught_by_all.Goals as goal

pub returns : goal.returns
returns c =
    let ws = c.pop.new.self.items in
    let last = c.in-Some.last in
    IfOk-weaker c.taught_by_each.result _ _
    (λ t h. λ k. h k ∙ taught-last (scopes_view k ws) (scope_view k last) (scope_view k last)
    ∙ sym (last-taken k c.args.ways.items ws last (scope_view k c.args.before) c.in-Some.ensures.items)) c.taught_by_each.ensures
