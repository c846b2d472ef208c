use Rattle.std.proofs.Common.{sym, ◌∙◌}
use Rattle.pb_semantics.specs.Data.{boolean, field_value}
use Rattle.pb_value.specs.View.{fields_view}
use Rattle.pb_value.proofs.Fields.{put_same}
use Rattle.pb_finish.proofs.Statused.{flag-there}
use Rattle.pb_finish.proofs.statuses.has_flag.Goals as goal

pub returns : goal.returns
returns c = λ so.
    put_same c.args.fields.now.entries c.args.name.now (boolean c.args.flag) c.iter.ensures.ordered
    (flag-there c.args.flag (field_value c.args.name.now (fields_view c.args.fields.now.entries)) (rw c.field_of.ensures at (sym c.is_flag.ensures ∙ so)))
