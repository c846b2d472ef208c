use Rattle.std.proofs.Common.{sym, subst}
use Rattle.pb_expr.specs.Found.{AreRight}
use Rattle.pb_taught.specs.TaughtView.{scope_view}
use Rattle.pb_expr.proofs.asked.Here.copy.Goals as goal

pub returns-clause-right : goal.returns-clause-right
returns-clause-right c = λ b h.
    subst (λ s. AreRight s b.trees c.in_ok-asked.asked.found.entries) (sym (c.in_ok-taught.ensures b))
    (c.in_ok-asked.ensures (scope_view b c.args.taught.now) b.trees h)
