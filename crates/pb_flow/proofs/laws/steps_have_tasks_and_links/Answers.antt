use Rattle.pb_flow.proofs.Sections.{steps-links, steps-tasks}
use Rattle.pb_flow.proofs.laws.steps_have_tasks_and_links.Goals as goal

pub returns-clause-tasks : goal.returns-clause-tasks
returns-clause-tasks c = steps-tasks

pub returns-clause-links : goal.returns-clause-links
returns-clause-links c = steps-links
