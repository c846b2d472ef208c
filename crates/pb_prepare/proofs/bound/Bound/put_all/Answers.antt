use Rattle.std.proofs.Common.{◌≡◌, ◌∙◌, ◌++◌, ap, map}
use Rattle.std.proofs.lemmas.List.{take_all}
use Rattle.pb_syntax.specs.ExprView.{expr_view}
use Rattle.pb_prepare.proofs.Lists.{put-next, put-whole}
use Rattle.pb_prepare.proofs.bound.Bound.put_all.Goals as goal

pub loop-expr-preserved : goal.loop-expr-preserved
loop-expr-preserved c =
    let l = c.loop-expr in
    put-next c.args.all.now.items l.all.items c.push.new.self.items c.args.exprs.now l.expr-index c.expr-item.result c.in_ok-bound.bound c.loop-expr-test.true c.expr-item.is c.in_ok-bound.ensures.same c.in_ok-push.ensures.items l.invariant

pub returns : goal.returns
returns c =
    let l = c.loop-expr in
    put-whole c.args.all.now.items l.all.items c.args.exprs.now (l.invariant ∙ ap (λ xs. map expr_view c.args.all.now.items ++ map expr_view xs) (take_all l.expr-index c.args.exprs.now c.loop-expr-test.false))
