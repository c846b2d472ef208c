use Rattle.pb_syntax.specs.ExprView.{exprs_view}
use Rattle.pb_fit.proofs.InTurn.{expanded-append}
use Rattle.pb_fit.proofs.laws.tasks_are_asked_by_their_parts.Goals as goal

pub returns-clause-conditions : goal.returns-clause-conditions
returns-clause-conditions c = λ s p t f. expanded-append f s.conditions (exprs_view t.when.items)
