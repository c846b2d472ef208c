use Rattle.std.proofs.Common.{◌∙◌}
use Rattle.pb_inventory.proofs.Keys.{any-among}
use Rattle.pb_inventory.proofs.form.is_known.Goals as goal

pub returns : goal.returns
returns c = c.contains.ensures ∙ any-among c.args.name.now c.args.hosts.now.keys
