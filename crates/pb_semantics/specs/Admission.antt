-- What is made of an answer.
use Rattle.std.specs.Prelude.{Bool, true, false, cond, Option, Some, None, is_some, codes}
use Rattle.pb_semantics.specs.Data.{Data, Fields, boolean, rec, field_value, put_field}
use Rattle.pb_semantics.specs.Kind.{KindData}
use Rattle.pb_semantics.specs.Project.{projected}

pub data AdmissionData : Type 0 where
  taken : Data → AdmissionData
  failed : Data → AdmissionData
  breach : AdmissionData

-- whether an answer is failed, by the value of that field; none where that is no truth value
abbrev pub failed_of : Option Data → Option Bool
failed_of None = Some false
failed_of (Some (boolean b)) = Some b
failed_of (Some d) = None

-- an answer that doesn't say so has changed nothing
abbrev pub changed_fields : Fields → Fields
changed_fields fs = cond (is_some (field_value (codes "changed") fs)) fs
    (put_field (codes "changed") (boolean false) fs)

-- the kept fields with how the answer ended; none kept is a breach
abbrev pub ended : Bool → Option Data → AdmissionData
ended false (Some (rec fs)) = taken (rec (put_field (codes "failed") (boolean false) fs))
ended true (Some (rec fs)) = failed (rec (put_field (codes "failed") (boolean true) fs))
ended b o = breach

abbrev pub judged : Option Bool → KindData → KindData → Fields → AdmissionData
judged (Some false) ok failure fs = ended false (projected (rec (changed_fields fs)) ok)
judged (Some true) ok failure fs = ended true (projected (rec (changed_fields fs)) failure)
judged None ok failure fs = breach

-- the shapes of an answer that isn't failed and of a failed one, and the answer
abbrev pub admission : KindData → KindData → Data → AdmissionData
admission ok failure (rec fs) = judged (failed_of (field_value (codes "failed") fs)) ok failure fs
admission ok failure d = breach
