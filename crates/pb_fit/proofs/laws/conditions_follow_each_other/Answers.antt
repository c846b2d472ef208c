use Rattle.pb_fit.proofs.InTurn.{conditions-append, expanded-append, narrow_each-append}
use Rattle.pb_fit.proofs.laws.conditions_follow_each_other.Goals as goal

pub returns-clause-fault : goal.returns-clause-fault
returns-clause-fault c = conditions-append

pub returns-clause-taught : goal.returns-clause-taught
returns-clause-taught c = narrow_each-append

pub returns-clause-expanded : goal.returns-clause-expanded
returns-clause-expanded c = expanded-append
