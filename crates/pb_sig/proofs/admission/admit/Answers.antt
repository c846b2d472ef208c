use Rattle.std.proofs.Common.{◌≡◌, ◌∙◌, BTreeMap, String, Global, None, codes, ap, sym, refl}
use Rattle.pb_semantics.specs.Data.{field_value}
use Rattle.pb_value.specs.View.{fields_view}
use Rattle.pb_value.specs.declared.value.Value.{Value}
use Rattle.pb_value.proofs.Views.{view-Rec}
use Rattle.pb_semantics.specs.Admission.{failed_of}
use Rattle.pb_sig.proofs.admission.admit.Goals as goal

pub returns-in-None : goal.returns-in-None
returns-in-None g c =
    let m = c.in-Rec.fields in
    let status = λ (x : BTreeMap (String Global) Value). failed_of (field_value (codes "failed") (fields_view x.entries)) in
    let none : status m.value.parts ≡ None = ap status (sym (c.deref-2.ensures ∙ ap (λ w. w.parts) c.deref.ensures)) ∙ sym c.failed_in.ensures ∙ c.in-None.is in
    rw (c.in-Rec.is, view-Rec m, none) refl
