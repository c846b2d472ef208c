use Rattle.std.proofs.Common.{option_map, ap, ◌∙◌}
use Rattle.pb_value.specs.View.{view}
use Rattle.pb_value.proofs.Fields.{view_of_ref, view-lookup}
use Rattle.pb_eval.proofs.vars.FieldsVars.value.Goals as goal

pub returns : goal.returns
returns c = view_of_ref c.get.result ∙ ap (option_map view) c.get.ensures.value ∙ view-lookup c.args.name.now c.args.self.now.entries
