use Rattle.std.proofs.Common.{sym, subst}
use Rattle.std.proofs.Common.{IfSome}
use Rattle.pb_task.specs.Tasks.{Resolves}
use Rattle.pb_task.proofs.text.task_of.Goals as goal

pub returns-in_ok-task_with-in-Some-clause-resolved : goal.returns-in_ok-task_with-in-Some-clause-resolved
returns-in_ok-task_with-in-Some-clause-resolved c = λ ms found.
    subst (Resolves ms) (sym c.in_ok-task_with-in-Some.ensures.work)
    (subst (λ w. IfSome w (λ p. Resolves ms p.0)) c.in-Some.is (c.in_ok-work_with.ensures.resolved ms found))
