use Rattle.pb_taught.specs.TaughtView.{scope_view}
use Rattle.pb_expr.proofs.asked.here_anew.Goals as goal

pub returns-clause-right : goal.returns-clause-right
returns-clause-right c = λ b. c.nothing.ensures (scope_view b c.args.taught) b.trees
