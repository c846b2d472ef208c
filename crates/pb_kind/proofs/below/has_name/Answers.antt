use Rattle.std.proofs.Common.{◌∙◌}
use Rattle.pb_kind.proofs.KindLemmas.{is_among-list_any}
use Rattle.pb_kind.proofs.below.has_name.Goals as goal

pub returns : goal.returns
returns c = c.contains.ensures ∙ is_among-list_any c.args.name.now c.args.names.now.keys
