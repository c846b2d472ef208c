use Rattle.pb_language.proofs.TasksSame.{tasks_same}
use Rattle.pb_language.proofs.order.same_task_faults.Goals as goal

pub returns : goal.returns
returns c = tasks_same
