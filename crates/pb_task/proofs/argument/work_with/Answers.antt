use Rattle.pb_task.proofs.argument.work_with.Goals as goal

pub returns-in_ok-assertion-in-Assert-clause-resolved : goal.returns-in_ok-assertion-in-Assert-clause-resolved
returns-in_ok-assertion-in-Assert-clause-resolved c = λ ms found. c.in_ok-assertion-in-Assert.ensures.resolved ms
