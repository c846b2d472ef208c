use Rattle.std.proofs.Common.{ap, ◌∙◌}
use Rattle.pb_value.specs.View.{fields_view}
use Rattle.pb_value.proofs.Fields.{fields_view-insert_entry}
use Rattle.pb_value.proofs.value.put_field.Goals as goal

pub returns : goal.returns
returns c = ap fields_view c.in_ok-insert.ensures.entries ∙ fields_view-insert_entry c.args.fields.now.entries c.args.name c.args.value
