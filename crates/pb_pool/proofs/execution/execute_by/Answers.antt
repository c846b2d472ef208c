use Rattle.std.proofs.Common.{ap, arith, take}
use Rattle.pb_verify.specs.declared.checked.Accepted.{Accepted}
use Rattle.pb_pool.proofs.Executions.{are_left, is_left}
use Rattle.pb_pool.specs.Executed.{IsLeft}
use Rattle.pb_pool.specs.Pools.{IsPooled, fault_run}
use Rattle.pb_pool.proofs.execution.execute_by.Goals as goal

pub run_pool-requires-clause-few : goal.run_pool-requires-clause-few
run_pool-requires-clause-few g c κs lives = λ opened r ruled.
    let book = c.requires.book r.accepted r.forks (take opened r.history) ruled.opening in
    omega (arith, c.requires.few, ap (λ (a : Accepted). a.budget) book.book_is)

pub returns-in-Err-run_pool-clause-fault : goal.returns-in-Err-run_pool-clause-fault
returns-in-Err-run_pool-clause-fault g c =
    are_left (fault_run c.in-Err-run_pool.fault) (IsPooled g.P.Rule.of g.P.Rule.told) (IsLeft c.args.checked.now c.args.forks) (is_left g.P.Rule.of g.P.Rule.told c.args.checked.now c.args.forks c.requires.book) c.in-Err-run_pool.ensures.fault
