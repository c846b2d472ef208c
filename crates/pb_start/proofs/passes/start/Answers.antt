use Rattle.std.proofs.lemmas.Result.{IfOk-weaker}
use Rattle.pb_start.proofs.passes.start.Goals as goal

pub returns-in-None : goal.returns-in-None
returns-in-None g c = IfOk-weaker c.alone.result _ _ (λ ps h t d. rw (d.loop, c.in-None.is) (h t d)) c.alone.ensures

pub returns-in-Some : goal.returns-in-Some
returns-in-Some g c = IfOk-weaker c.over.result _ _ (λ ps h t d. rw (d.loop, c.in-Some.is) (h t d)) c.over.ensures
