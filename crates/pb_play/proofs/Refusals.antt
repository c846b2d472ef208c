-- Faults that are passed on, and what they tell of what was to be read.
use Rattle.std.proofs.Common.{◌≡◌, ℕ, Option, None, Result, Ok, Err}
use Rattle.std.proofs.lemmas.Result.{err_from_is_err_and}
use Rattle.std.specs.Result.{IsErrAnd}
use Rattle.pb_semantics.specs.Gives.{FaultGives, Gives}
use Rattle.pb_language.specs.BookForm.{Offence}
use Rattle.pb_template.specs.Faults.{refused}
use Rattle.pb_template.specs.declared.fault.TemplateFault.{TemplateFault}
use Rattle.pb_template.specs.declared.fault.TemplateFault.TheVariants as template
use Rattle.pb_task.specs.Faults as task
use Rattle.pb_task.specs.declared.fault.TaskFault.{TaskFault}
use Rattle.pb_task.specs.declared.fault.TaskFault.TheVariants as tasks
use Rattle.pb_play.specs.Faults.{from_task, from_template, offence_of, offence_view}
use Rattle.pb_play.specs.declared.fault.PlayFault.{PlayFault}
use Rattle.pb_play.specs.declared.fault.PlayFault.TheVariants.{Refused, NoMemory}

-- what isn't read within isn't read without
refused-both : {Y W : Type 0} (f : PlayFault) (y : Result Y Offence) (z : Result W Offence) → FaultGives (offence_of f) y → ((o : Offence) → y ≡ Err o → z ≡ Err o) → FaultGives (offence_of f) z
refused-both (Refused o) y z h k = k (offence_view o) h
refused-both NoMemory y z h k = tt

pub passed-on : {Y Z W : Type 0} (g : Z → W) (r : Result Z PlayFault) (f : PlayFault) (y : Result Y Offence) (z : Result W Offence) → IsErrAnd r (λ d. d ≡ f) → FaultGives (offence_of f) y
    → ((o : Offence) → y ≡ Err o → z ≡ Err o) → Gives (λ x. Ok (g x)) offence_of r z
passed-on g r f y z is h k =
    let p = err_from_is_err_and r is in
    rw (p.1, p.2) (refused-both f y z h k)

-- a text that can't be read is the code for it
pub of-text : {Y W : Type 0} (l : ℕ) (e : TemplateFault) (f : PlayFault) (y : Option Y) (z : Result W Offence) → f ≡ from_template l e → FaultGives (refused e) y
    → (y ≡ None → z ≡ Err (record { line = l; code = 7 })) → FaultGives (offence_of f) z
of-text l template.Unreadable f y z is h k = rw is (k h)
of-text l template.NoMemory f y z is h k = rw is tt

-- the code of a task is that of its line
pub of-task : {Y W : Type 0} (l : ℕ) (e : TaskFault) (f : PlayFault) (y : Result Y ℕ) (z : Result W Offence) → f ≡ from_task l e → FaultGives (task.offence_of e) y
    → ((n : ℕ) → y ≡ Err n → z ≡ Err (record { line = l; code = n })) → FaultGives (offence_of f) z
of-task l (tasks.Refused c) f y z is h k = rw is (k _ h)
of-task l tasks.NoMemory f y z is h k = rw is tt
