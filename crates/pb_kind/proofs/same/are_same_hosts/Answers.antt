use Rattle.std.proofs.Common.{sym, ap, ◌∙◌}
use Rattle.pb_semantics.specs.Kind.{hosts}
use Rattle.pb_kind.proofs.Adding.{same_keys}
use Rattle.pb_kind.proofs.same.are_same_hosts.Goals as goal

pub returns : goal.returns
returns c = λ h. ap hosts (sym (same_keys c.args.names.now.keys c.args.others.now.keys (sym c.eq.ensures ∙ h)))
