use Rattle.std.proofs.Common.{◌∙◌, refl}
use Rattle.pb_value.proofs.Views.{view-Bool}
use Rattle.pb_sig.proofs.admission.put.Goals as goal

pub returns : goal.returns
returns c = c.in_ok-put_field.ensures ∙ rw (c.in_ok-from_str.ensures.ok, view-Bool c.args.flag) refl
