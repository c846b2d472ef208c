use Rattle.std.proofs.Common.{◌≡◌, [], sym, ap, ◌∙◌, arith}
use Rattle.pb_taught.specs.TaughtView.{scope_view, scopes_view}
use Rattle.pb_expr.proofs.Ways.{met_by, no-entries, taught-last, way-met}
use Rattle.pb_expr.proofs.narrow.taught_by_each.Goals as goal

pub loop-way-preserved : goal.loop-way-preserved
loop-way-preserved c = λ k.
    let l = c.loop-way in
    l.invariant k ∙ way-met k l.ways.items c.pop.new.self.items c.in-Some.way l.all c.in_ok-all.all c.in-Some.ensures.items (c.in_ok-all.ensures k)

pub returns : goal.returns
returns c = λ k.
    let l = c.loop-way in
    let last = scope_view k c.args.last in
    let none : l.ways.items ≡ [] = no-entries l.ways.items (omega (arith, l.ways.ok, c.in_default.ensures.cases.0)) in
    sym (taught-last (scopes_view k c.args.before.items) last last ∙ l.invariant k ∙ ap (λ us. met_by (scopes_view k us) (scope_view k l.all)) none)
