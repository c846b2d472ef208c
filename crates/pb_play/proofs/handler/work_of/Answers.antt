use Rattle.std.proofs.Common.{◌∙◌, Ok, option_map, ap}
use Rattle.pb_sig.specs.Modules.{modules_of}
use Rattle.pb_task.specs.Tasks.{task_view}
use Rattle.pb_value.specs.View.{fields_view}
use Rattle.pb_play.proofs.Handlers.{work-done, work-missing, work-refused}
use Rattle.pb_play.proofs.Refusals.{of-task}
use Rattle.pb_play.proofs.handler.work_of.Goals as goal

pub returns-in-Ok-Some-clause-given : goal.returns-in-Ok-Some-clause-given
returns-in-Ok-Some-clause-given c =
    work-done (modules_of c.args.registry.now) c.args.line (fields_view c.args.fields.now.entries) (task_view c.in-Ok-Some.task) (c.in-Ok-Some.ensures.given ∙ ap (λ t. Ok (option_map task_view t)) c.in-Ok-Some.field-0-is)

pub returns-in-Ok-None-clause-given : goal.returns-in-Ok-None-clause-given
returns-in-Ok-None-clause-given c =
    rw c.at.ensures (work-missing (modules_of c.args.registry.now) c.args.line (fields_view c.args.fields.now.entries) (c.in-Ok-None.ensures.given ∙ ap (λ t. Ok (option_map task_view t)) c.in-Ok-None.field-0-is))

pub returns-in-Err-clause-given : goal.returns-in-Err-clause-given
returns-in-Err-clause-given c =
    of-task c.args.line c.in-Err.fault c.of_task.result _ _ c.of_task.ensures c.in-Err.ensures.given (λ n h. work-refused (modules_of c.args.registry.now) c.args.line n (fields_view c.args.fields.now.entries) h)
