use Rattle.std.proofs.Common.{◌≡◌, ◌≢◌, length, option_map, sym, ap, ◌∙◌}
use Rattle.pb_semantics.proofs.Bools.{and-both}
use Rattle.pb_language.specs.Cases.{are_plain}
use Rattle.pb_kind.specs.KindView.{slots_view}
use Rattle.pb_value.specs.View.{view}
use Rattle.pb_sig.specs.Signatures.{module_name, parameters_of, shape_of}
use Rattle.pb_sig.proofs.Forms.{module_form-other, module_form-whole}
use Rattle.pb_sig.proofs.Plain.{are_plain-shape}
use Rattle.pb_sig.proofs.form.module_of.Goals as goal

pub returns-then-len-ne4 : goal.returns-then-len-ne4
returns-then-len-ne4 c =
    let es = c.args.fields.now.entries in
    let other : length es ≢ 4 = λ h. c.if-len-ne4.true (c.len.ensures.len ∙ h) in
    module_form-other es other

pub invariant_of-result : goal.invariant_of-result
invariant_of-result c = record {
  plain = and-both (are_plain (slots_view c.in_ok-ok.ok.entries)) (are_plain (slots_view c.in_ok-failure.failure.entries)) (are_plain-shape (option_map (λ v. view v.now) c.field_of-3.result) _ c.in_ok-ok.ensures) (are_plain-shape (option_map (λ v. view v.now) c.field_of-4.result) _ c.in_ok-failure.ensures);
}

pub returns : goal.returns
returns c =
    let es = c.args.fields.now.entries in
    let four : length es ≡ 4 = sym c.len.ensures.len ∙ c.if-len-ne4.false in
    module_form-whole es _ _ _ _ four (ap module_name (sym c.field_of.ensures) ∙ c.in_ok-name.ensures) (ap parameters_of (sym c.field_of-2.ensures) ∙ c.in_ok-parameters.ensures) (ap shape_of (sym c.field_of-3.ensures) ∙ c.in_ok-ok.ensures)
    (ap shape_of (sym c.field_of-4.ensures) ∙ c.in_ok-failure.ensures)
