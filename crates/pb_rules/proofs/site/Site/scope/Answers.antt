use Rattle.std.proofs.lemmas.Result.{IfOk-weaker}
use Rattle.pb_template.specs.Entries.{entries_view}
use Rattle.pb_vars.specs.InScope.{in_scope}
use Rattle.pb_rules.proofs.ScopesRound.{outer-line, outer-scope}
use Rattle.pb_rules.proofs.site.Site.scope.Goals as goal

pub returns-in_ok-outer-in-Block : goal.returns-in_ok-outer-in-Block
returns-in_ok-outer-in-Block c =
    let s = c.args.self.now in
    IfOk-weaker c.with-in-Block.result _ _
    (λ x h. outer-scope (in_scope x) (in_scope c.in_ok-outer-in-Block.outer) (entries_view c.vars-in-Block.result.now) s c.deref.result.now c.deref.ensures c.vars-in-Block.ensures c.in_ok-outer-in-Block.ensures h
    (outer-line s.around.value s.thing c.in-Block.is)) c.with-in-Block.ensures
