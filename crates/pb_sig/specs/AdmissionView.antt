-- What an `Admission` means.
use Rattle.pb_value.specs.View.{view}
use Rattle.pb_semantics.specs.Admission.{AdmissionData, taken, failed, breach}
use Rattle.pb_sig.specs.declared.admission.Admission.{Admission}
use Rattle.pb_sig.specs.declared.admission.Admission.TheVariants.{Ok, Failed, Breach}

abbrev pub admission_view : Admission → AdmissionData
admission_view (Ok v) = taken (view v)
admission_view (Failed v) = failed (view v)
admission_view Breach = breach
