use Rattle.std.proofs.Common.{◌∙◌, ap}
use Rattle.pb_language.specs.Written.{is_there}
use Rattle.pb_inventory.proofs.Named.{is_there-some}
use Rattle.pb_inventory.proofs.document.has_field.Goals as goal

pub returns : goal.returns
returns c = c.is_some.ensures ∙ is_there-some c.field_of.result ∙ ap is_there c.field_of.ensures
