use Rattle.pb_finish.proofs.admission.admit_call.Goals as goal

pub returns-in-Some-clause-admits : goal.returns-in-Some-clause-admits
returns-in-Some-clause-admits c = rw c.in-Some.is c.admit_answer.ensures.admits

pub returns-in-Some-clause-explains : goal.returns-in-Some-clause-explains
returns-in-Some-clause-explains c = rw c.in-Some.is c.admit_answer.ensures.explains
