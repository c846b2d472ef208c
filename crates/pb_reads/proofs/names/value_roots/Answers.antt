use Rattle.std.proofs.Common.{◌∙◌, ap}
use Rattle.std.proofs.lemmas.Result.{IfOk-weaker}
use Rattle.pb_reads.specs.Reached.{value_roots}
use Rattle.pb_reads.proofs.names.value_roots.Goals as goal

pub returns-in-Some : goal.returns-in-Some
returns-in-Some c = IfOk-weaker c.roots_of.result _ _ (λ rs h. h ∙ ap value_roots c.in-Some.ensures.given) c.roots_of.ensures
