-- How an answer ends, by what is kept of it.
use Rattle.std.proofs.Common.{◌≡◌, Bool, true, false, Some, codes, cond, String, Global, BTreeMap, ap}
use Rattle.std.specs.declared.sync.Arc.{Arc}
use Rattle.pb_semantics.specs.Data.{boolean, put_field, rec}
use Rattle.pb_value.specs.View.{view, fields_view}
use Rattle.pb_value.specs.declared.value.Value.{Value}
use Rattle.pb_value.specs.declared.value.Value as Value-of
use Rattle.pb_value.specs.declared.weight.Weighed.{Weighed}
use Rattle.pb_value.proofs.Views.{view-Rec}
use Rattle.pb_semantics.specs.Admission.{ended, failed, taken}
use Rattle.pb_sig.specs.AdmissionView.{admission_view}
use Rattle.pb_sig.specs.declared.admission.Admission.TheVariants as Admission-of

abbrev pub SharedFields : Type 0
SharedFields = Arc (Weighed (BTreeMap (String Global) Value)) Global

pub ended-kept : (k : Value) (m : SharedFields) (v : Value) (b : Bool) → k ≡ Value-of.Rec m → view v ≡ rec (put_field (codes "failed") (boolean b) (fields_view m.value.parts.entries))
    → admission_view (cond b (Admission-of.Failed v) (Admission-of.Ok v)) ≡ ended b (Some (view k))
ended-kept k m v true p h = rw (p, view-Rec m) (ap failed h)
ended-kept k m v false p h = rw (p, view-Rec m) (ap taken h)
