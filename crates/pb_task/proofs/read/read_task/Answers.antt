use Rattle.std.proofs.Common.{◌≡◌, ◌∙◌, Option, None, Result, Ok, Err, ℕ, List, Bor, option_map, ap, sym}
use Rattle.std.proofs.lemmas.Result.{err_from_is_err_and}
use Rattle.std.specs.Result.{IsErrAnd}
use Rattle.pb_semantics.specs.Gives.{FaultGives, Gives}
use Rattle.pb_language.specs.Book.{TaskData}
use Rattle.pb_sig.specs.Modules.{modules_of}
use Rattle.pb_template.specs.Faults.{refused}
use Rattle.pb_template.specs.declared.fault.TemplateFault.{TemplateFault}
use Rattle.pb_template.specs.declared.fault.TemplateFault.TheVariants as template
use Rattle.pb_value.specs.View.{view, fields_view}
use Rattle.pb_value.specs.declared.value.Value.{Value}
use Rattle.pb_task.specs.Doings.{doing_view}
use Rattle.pb_task.specs.Faults.{from_template, offence_of}
use Rattle.pb_task.specs.Offences.{number_of}
use Rattle.pb_task.specs.Standings.{standing_view}
use Rattle.pb_task.specs.Tasks.{task_view}
use Rattle.pb_task.specs.declared.fault.TaskFault.{TaskFault}
use Rattle.pb_task.specs.declared.task.Task.{Task}
use Rattle.pb_task.proofs.Glue.{known-there, lone-there, read-long, read-none, read-task, refused-form}
use Rattle.pb_task.proofs.read.read_task.Goals as goal

-- a text that can't be read is the code for it
passed : (r : Result (Option Task) TaskFault) (f : TemplateFault) (y : Option (Option TaskData)) (z : Result (Option TaskData) ℕ) → IsErrAnd r (λ e. e ≡ from_template f) → FaultGives (refused f) y → (y ≡ None → z ≡ Err 7)
    → Gives (λ t. Ok (option_map task_view t)) offence_of r z
passed r template.Unreadable y z is none read = let p = err_from_is_err_and r is in rw (p.1, p.2) (read none)
passed r template.NoMemory y z is none read = let p = err_from_is_err_and r is in rw (p.1, p.2) tt

pub returns-in-Some-clause-given : goal.returns-in-Some-clause-given
returns-in-Some-clause-given c =
    refused-form (modules_of c.args.registry.now) (standing_view c.args.standing) c.args.line (fields_view c.args.fields.now.entries) (number_of c.in-Some.code)
    (sym c.form_offence.ensures ∙ ap (option_map number_of) c.in-Some.is)

pub returns-in_default-lone_work-clause-given : goal.returns-in_default-lone_work-clause-given
returns-in_default-lone_work-clause-given c =
    let form = sym c.form_offence.ensures ∙ ap (option_map number_of) c.in_default.is in
    let none = sym c.lone_work.ensures ∙ ap (option_map (λ (e : Bor (List ℕ) × Bor Value). (e.0.now, view e.1.now))) c.in_default-lone_work.is in
    absurd (lone-there (modules_of c.args.registry.now) (standing_view c.args.standing) (fields_view c.args.fields.now.entries) form none)

pub returns-in_default-doing_in-clause-given : goal.returns-in_default-doing_in-clause-given
returns-in_default-doing_in-clause-given c =
    let form = sym c.form_offence.ensures ∙ ap (option_map number_of) c.in_default.is in
    let one = sym c.lone_work.ensures ∙ ap (option_map (λ (e : Bor (List ℕ) × Bor Value). (e.0.now, view e.1.now))) c.in-Some-lone_work.is in
    let none = sym c.doing_in.ensures.given ∙ ap (option_map doing_view) c.in_default-doing_in.is in
    absurd (known-there (modules_of c.args.registry.now) (standing_view c.args.standing) (fields_view c.args.fields.now.entries) c.in-Some-lone_work.name.now (view c.in-Some-lone_work.given.now) form one none)

pub returns-in_err-task-clause-given : goal.returns-in_err-task-clause-given
returns-in_err-task-clause-given c =
    let form = sym c.form_offence.ensures ∙ ap (option_map number_of) c.in_default.is in
    let one = sym c.lone_work.ensures ∙ ap (option_map (λ (e : Bor (List ℕ) × Bor Value). (e.0.now, view e.1.now))) c.in-Some-lone_work.is in
    let does = sym c.doing_in.ensures.given ∙ ap (option_map doing_view) c.in-Some-doing_in.is in
    passed c.from_residual.result c.in_err-task.field-0.0 _ _ c.from_residual.ensures.1 c.in_err-task.ensures.given
    (λ none. read-none (modules_of c.args.registry.now) (standing_view c.args.standing) c.args.line (fields_view c.args.fields.now.entries) c.in-Some-lone_work.name.now (view c.in-Some-lone_work.given.now) (doing_view c.in-Some-doing_in.doing) form one does none)

pub returns-then-is_past_limits-clause-given : goal.returns-then-is_past_limits-clause-given
returns-then-is_past_limits-clause-given c =
    let form = sym c.form_offence.ensures ∙ ap (option_map number_of) c.in_default.is in
    let one = sym c.lone_work.ensures ∙ ap (option_map (λ (e : Bor (List ℕ) × Bor Value). (e.0.now, view e.1.now))) c.in-Some-lone_work.is in
    let does = sym c.doing_in.ensures.given ∙ ap (option_map doing_view) c.in-Some-doing_in.is in
    read-long (modules_of c.args.registry.now) (standing_view c.args.standing) c.args.line (fields_view c.args.fields.now.entries) c.in-Some-lone_work.name.now (view c.in-Some-lone_work.given.now) (doing_view c.in-Some-doing_in.doing)
    (option_map task_view c.in_ok-task.task) form one does c.in_ok-task.ensures.given (sym c.is_past_limits.ensures ∙ c.if-is_past_limits.true)

pub returns-clause-given : goal.returns-clause-given
returns-clause-given c =
    let form = sym c.form_offence.ensures ∙ ap (option_map number_of) c.in_default.is in
    let one = sym c.lone_work.ensures ∙ ap (option_map (λ (e : Bor (List ℕ) × Bor Value). (e.0.now, view e.1.now))) c.in-Some-lone_work.is in
    let does = sym c.doing_in.ensures.given ∙ ap (option_map doing_view) c.in-Some-doing_in.is in
    read-task (modules_of c.args.registry.now) (standing_view c.args.standing) c.args.line (fields_view c.args.fields.now.entries) c.in-Some-lone_work.name.now (view c.in-Some-lone_work.given.now) (doing_view c.in-Some-doing_in.doing)
    (option_map task_view c.in_ok-task.task) form one does c.in_ok-task.ensures.given (sym c.is_past_limits.ensures ∙ c.if-is_past_limits.false)
