use Rattle.pb_language.proofs.Values.{value_keeps_kind}
use Rattle.pb_language.proofs.laws.value_keeps_kind.Goals as goal

pub returns : goal.returns
returns c = value_keeps_kind
