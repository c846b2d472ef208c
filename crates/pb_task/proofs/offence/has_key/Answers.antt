use Rattle.std.proofs.Common.{◌∙◌, is_some, ap, sym}
use Rattle.pb_value.specs.View.{view, fields_view}
use Rattle.pb_value.specs.declared.value.Value.{Value}
use Rattle.std.proofs.Common.{Bor}
use Rattle.pb_task.proofs.Values.{has_key-found}
use Rattle.pb_task.proofs.Works.{mapped-some}
use Rattle.pb_task.proofs.offence.has_key.Goals as goal

pub returns : goal.returns
returns c =
    c.is_some.ensures ∙ sym (mapped-some (λ (v : Bor Value). view v.now) c.field_of.result) ∙ ap is_some c.field_of.ensures
    ∙ has_key-found c.args.key.now (fields_view c.args.fields.now.entries)
