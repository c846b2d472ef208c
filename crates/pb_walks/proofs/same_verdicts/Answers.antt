use Rattle.pb_walks.proofs.SameOffence.{same_offence}
use Rattle.pb_walks.proofs.SameBudget.{same_budget}
use Rattle.pb_walks.proofs.SameWrites.{same_settled}
use Rattle.pb_walks.proofs.same_verdicts.Goals as goal

pub returns-clause-offence : goal.returns-clause-offence
returns-clause-offence c = same_offence

pub returns-clause-budget : goal.returns-clause-budget
returns-clause-budget c = same_budget

pub returns-clause-settled : goal.returns-clause-settled
returns-clause-settled c = same_settled
