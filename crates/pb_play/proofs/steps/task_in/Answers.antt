use Rattle.std.proofs.Common.{◌∙◌, option_map, ap, sym, add-one}
use Rattle.std.proofs.lemmas.Bool.{le-ltb, lt-ltb}
use Rattle.pb_language.specs.BookForm.{most_lines}
use Rattle.pb_sig.specs.Modules.{modules_of}
use Rattle.pb_task.specs.Offences.{task_read}
use Rattle.pb_task.specs.Tasks.{task_view}
use Rattle.pb_value.specs.View.{fields_view}
use Rattle.pb_play.proofs.Refusals.{of-task}
use Rattle.pb_play.proofs.Tasks.{task-long, task-read, task-refused}
use Rattle.pb_play.proofs.steps.task_in.Goals as goal

pub returns-in-Err-clause-given : goal.returns-in-Err-clause-given
returns-in-Err-clause-given c =
    let ms = modules_of c.args.registry.now in
    let fs = fields_view c.args.fields.now.entries in
    let there = ap (λ s. task_read ms s c.args.line fs) c.standing.ensures in
    of-task c.args.line c.in-Err.fault c.of_task.result _ _ c.of_task.ensures c.in-Err.ensures.given (λ n h. task-refused ms c.args.depth c.args.line n fs (sym there ∙ h))

pub returns-then-line-gt-MOST_LINES-clause-given : goal.returns-then-line-gt-MOST_LINES-clause-given
returns-then-line-gt-MOST_LINES-clause-given c =
    let ms = modules_of c.args.registry.now in
    let fs = fields_view c.args.fields.now.entries in
    let there = ap (λ s. task_read ms s c.args.line fs) c.standing.ensures in
    rw c.at.ensures (task-long ms c.args.depth c.args.line fs (option_map task_view c.in-Ok.task) (sym there ∙ c.in-Ok.ensures.given) (lt-ltb most_lines c.args.line c.if-line-gt-MOST_LINES.true))

pub returns-clause-given : goal.returns-clause-given
returns-clause-given c =
    let ms = modules_of c.args.registry.now in
    let fs = fields_view c.args.fields.now.entries in
    let there = ap (λ s. task_read ms s c.args.line fs) c.standing.ensures in
    let read = task-read ms c.args.depth c.args.line fs (option_map task_view c.in-Ok.task) (sym there ∙ c.in-Ok.ensures.given) (le-ltb most_lines c.args.line c.if-line-gt-MOST_LINES.false) in
    rw (c.step_with-step.ensures.given, add-one c.args.line) read
