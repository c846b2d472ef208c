use Rattle.std.proofs.Common.{BTreeMap, String, Global, ap, ◌∙◌}
use Rattle.pb_value.specs.View.{fields_view}
use Rattle.pb_value.specs.declared.value.Value.{Value}
use Rattle.pb_value.proofs.Copies.{fields_view-own}
use Rattle.pb_value.proofs.value.own_fields.Goals as goal

pub returns : goal.returns
returns c =
    ap (λ (m : BTreeMap (String Global) Value). fields_view m.entries) c.into_parts.ensures ∙ fields_view-own c.args.fields.value c.in_ok-unwrap_or_clone.field-0 c.in_ok-unwrap_or_clone.ensures.ok
