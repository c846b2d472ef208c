-- Tasks may go to another thread, and be shared with one.
use denote.Param.Send.{IsSend, IsSync, sendable}
use Rattle.std.proofs.Crossing as own
use Rattle.pb_task.specs.contracts.task.Asserted as Asserted
use Rattle.pb_task.specs.contracts.task.Work as Work
use Rattle.pb_task.specs.contracts.task.Attempts as Attempts
use Rattle.pb_task.specs.contracts.task.Task as Task
use Rattle.pb_crossing.proofs.ExpressionsCross as expressions
use Rattle.pb_crossing.proofs.EntriesCross as entries
use Rattle.pb_crossing.proofs.ModulesCross as modules

pub Asserted-field-send : IsSend (Asserted.the_field).row
Asserted-field-send = search (expressions.crosses, entries.crosses, modules.crosses, own.crosses, sendable) depth 20

pub Asserted-field-sync : IsSync (Asserted.the_field).row
Asserted-field-sync = search (expressions.crosses, entries.crosses, modules.crosses, own.crosses, sendable) depth 20

pub Asserted-send : IsSend Asserted.the_row
Asserted-send = search (Asserted-field-send, sendable)

pub Asserted-sync : IsSync Asserted.the_row
Asserted-sync = search (Asserted-field-sync, sendable)

pub ruleset asserted = (Asserted-field-send, Asserted-field-sync, Asserted-send, Asserted-sync)

pub Work-field-send : IsSend (Work.the_field).row
Work-field-send = search (asserted, expressions.crosses, entries.crosses, modules.crosses, own.crosses, sendable) depth 20

pub Work-field-sync : IsSync (Work.the_field).row
Work-field-sync = search (asserted, expressions.crosses, entries.crosses, modules.crosses, own.crosses, sendable) depth 20

pub Work-send : IsSend Work.the_row
Work-send = search (Work-field-send, sendable)

pub Work-sync : IsSync Work.the_row
Work-sync = search (Work-field-sync, sendable)

pub ruleset work = (Work-field-send, Work-field-sync, Work-send, Work-sync)

pub Attempts-field-send : IsSend (Attempts.the_field).row
Attempts-field-send = search (expressions.crosses, entries.crosses, modules.crosses, own.crosses, sendable) depth 20

pub Attempts-field-sync : IsSync (Attempts.the_field).row
Attempts-field-sync = search (expressions.crosses, entries.crosses, modules.crosses, own.crosses, sendable) depth 20

pub Attempts-send : IsSend Attempts.the_row
Attempts-send = search (Attempts-field-send, sendable)

pub Attempts-sync : IsSync Attempts.the_row
Attempts-sync = search (Attempts-field-sync, sendable)

pub ruleset attempts = (Attempts-field-send, Attempts-field-sync, Attempts-send, Attempts-sync)

pub Task-field-send : IsSend (Task.the_field).row
Task-field-send = search (work, attempts, expressions.crosses, entries.crosses, modules.crosses, own.crosses, sendable) depth 20

pub Task-field-sync : IsSync (Task.the_field).row
Task-field-sync = search (work, attempts, expressions.crosses, entries.crosses, modules.crosses, own.crosses, sendable) depth 20

pub Task-send : IsSend Task.the_row
Task-send = search (Task-field-send, sendable)

pub Task-sync : IsSync Task.the_row
Task-sync = search (Task-field-sync, sendable)

pub ruleset task = (Task-field-send, Task-field-sync, Task-send, Task-sync)

pub ruleset crosses = (asserted, work, attempts, task)
