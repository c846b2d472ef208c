use Rattle.std.proofs.Common.{◌∙◌, sym}
use Rattle.pb_kind.proofs.Adding.{same_hosts}
use Rattle.pb_kind.proofs.adds.adds_no_hosts.Goals as goal

pub returns : goal.returns
returns c = λ h. same_hosts c.args.leads c.args.joined.now.keys c.args.names.now.keys c.len.ensures.ordered (sym c.eq.ensures ∙ h)
