use Rattle.std.proofs.Common.{refl}
use Rattle.pb_pool.specs.Executed.{IsOpenedWith}
use Rattle.pb_pool.proofs.Executions.{each_may}
use Rattle.pb_pool.proofs.execution.execute.Goals as goal

pub execute_by-requires-clause-told : goal.execute_by-requires-clause-told
execute_by-requires-clause-told g c κs lives =
    each_may g.W.Runner.answers g.W.Runner.short (IsOpenedWith c.args.checked.now c.args.forks) c.args.runners.items
