use Rattle.std.proofs.Common.{refl, ◌∙◌}
use Rattle.std.proofs.lemmas.Result.{IfOk-weaker}
use Rattle.pb_sig.proofs.builtin.Builtin.telling_msg.Goals as goal

pub returns : goal.returns
returns c = IfOk-weaker c.named.result _ _ (λ m h. h ∙ rw (c.in_ok-failure.ensures) refl) c.named.ensures
