use Rattle.pb_machine.proofs.Joins.{steps_join, steps_have_tasks}
use Rattle.pb_machine.proofs.steps_join.Goals as goal

pub returns-clause-join : goal.returns-clause-join
returns-clause-join c = steps_join

pub returns-clause-tasks : goal.returns-clause-tasks
returns-clause-tasks c = steps_have_tasks
