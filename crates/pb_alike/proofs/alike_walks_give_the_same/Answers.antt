use Rattle.pb_alike.proofs.AlikeCalls.{calls_alike}
use Rattle.pb_alike.proofs.AlikeVerdicts.{offence_alike, writes_alike, settled_alike, handlers_alike}
use Rattle.pb_alike.proofs.alike_walks_give_the_same.Goals as goal

pub returns-clause-calls : goal.returns-clause-calls
returns-clause-calls c = calls_alike

pub returns-clause-offence : goal.returns-clause-offence
returns-clause-offence c = offence_alike

pub returns-clause-writes : goal.returns-clause-writes
returns-clause-writes c = writes_alike

pub returns-clause-settled : goal.returns-clause-settled
returns-clause-settled c = settled_alike

pub returns-clause-handlers : goal.returns-clause-handlers
returns-clause-handlers c = handlers_alike
