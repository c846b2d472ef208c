use Rattle.pb_flow.proofs.Blocks.{on-ok}
use Rattle.pb_flow.proofs.build.put_gathering.Goals as goal

pub returns-in-Some-clause-sound : goal.returns-in-Some-clause-sound
returns-in-Some-clause-sound c = on-ok c.put.result _ _ c.put.ensures.sound (λ f. λ ms. f ms c.args.gathering c.in-Some.is)
