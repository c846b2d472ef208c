use Rattle.std.proofs.Common.{◌≡◌, ◌∙◌, BTreeMap, Bor, String, Global, is_some, true, codes, ap, sym, refl}
use Rattle.pb_semantics.specs.Data.{field_value, rec}
use Rattle.pb_value.specs.View.{view, fields_view}
use Rattle.pb_value.specs.declared.value.Value.{Value}
use Rattle.pb_value.specs.declared.weight.Weighed.{Weighed}
use Rattle.pb_value.proofs.Views.{view-Rec}
use Rattle.pb_value.proofs.Fields.{is_some-option_map}
use Rattle.pb_sig.proofs.admission.with_changed.Goals as goal

pub returns-then-is_some : goal.returns-then-is_some
returns-then-is_some c =
    let fs = fields_view c.args.fields.now.value.parts.entries in
    let there : is_some (field_value (codes "changed") fs) ≡ true = ap is_some (sym (c.field_of.ensures ∙ ap (λ (x : BTreeMap (String Global) Value). field_value (codes "changed") (fields_view x.entries)) (c.deref-2.ensures ∙ ap (λ w. w.parts) c.deref.ensures)))
    ∙ is_some-option_map (λ (v : Bor Value). view v.now) c.field_of.result ∙ sym c.is_some.ensures ∙ c.if-is_some.true in
    let same : fields_view c.in_ok-clone.field-0.value.parts.entries ≡ fs = ap (λ (x : Weighed (BTreeMap (String Global) Value)). fields_view x.parts.entries) c.in_ok-clone.ensures.cases in
    view-Rec c.in_ok-clone.field-0 ∙ ap rec (same ∙ rw there refl)
