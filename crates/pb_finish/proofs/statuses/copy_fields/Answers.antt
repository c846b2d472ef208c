use Rattle.pb_value.proofs.Copies.{fields_view-copy}
use Rattle.pb_finish.proofs.statuses.copy_fields.Goals as goal

pub returns : goal.returns
returns c = fields_view-copy c.args.fields.now.entries c.in_ok-clone.field-0.entries c.in_ok-clone.ensures.cases
