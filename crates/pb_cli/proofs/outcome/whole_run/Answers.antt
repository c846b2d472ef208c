use Rattle.std.proofs.Common.{subst, sym}
use Rattle.pb_pool.specs.Executed.{IsAnswerOfOne, IsOpenedWith}
use Rattle.pb_pool.specs.Kept.{AllTold}
use Rattle.pb_cli.proofs.outcome.whole_run.Goals as goal

pub returns-in-Ok-clause-told : goal.returns-in-Ok-clause-told
returns-in-Ok-clause-told g c =
    let run = c.in-Ok.run' in
    let e = c.in-Ok.ensures in
    subst (λ n. AllTold (IsAnswerOfOne g.W.Runner.answers g.W.Runner.short c.args.runners.items (IsOpenedWith c.args.checked.now n)) run.history) (sym e.executed.run.forks_are) e.told
