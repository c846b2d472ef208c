use Rattle.pb_facts.proofs.variables.slots_are_variables.Goals as goal
use Rattle.pb_facts.proofs.InSlots.{read, put}

pub returns-clause-read : goal.returns-clause-read
returns-clause-read c = read

pub returns-clause-put : goal.returns-clause-put
returns-clause-put c = put
