use Rattle.std.proofs.Common.{arith}
use Rattle.pb_pool.proofs.worker.work.Goals as goal

pub take_and_end-requires-clause-few : goal.take_and_end-requires-clause-few
take_and_end-requires-clause-few g c =
    (g.W.Runner.calls c.args.worker.runner, c.requires.few, omega (arith, c.loop.invariant.made))
