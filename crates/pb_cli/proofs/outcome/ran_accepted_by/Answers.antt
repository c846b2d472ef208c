use Rattle.std.proofs.Common.{◌≡◌, max, min, take, ap, subst, sym, ◌∙◌}
use Rattle.pb_pool.specs.Executed.{IsAnswerOfOne, IsOpenedWith}
use Rattle.pb_pool.specs.Kept.{AllTold}
use Rattle.pb_cli.specs.Outcomes.{workers}
use Rattle.pb_cli.proofs.Runs.{says_with}
use Rattle.pb_cli.proofs.outcome.ran_accepted_by.Goals as goal

pub returns : goal.returns
returns g c =
    let run = c.in_ok-run.run' in
    let all = c.args.programs.items in
    let count : c.workers_of.result ≡ workers c.args.forks c.args.checked.now = c.workers_of.ensures ∙ ap (λ n. max (min c.args.forks n) 1) c.hosts.ensures in
    let taken = c.truncate.ensures.items ∙ ap (λ n. take n all) count in
    says_with g.W.Runner.answers g.W.Runner.short all c.run_outcome-outcome.result c.args.forks c.args.checked.now run (record {
      whole = c.in_ok-run.ensures.whole;
      told = subst (λ rs. AllTold (IsAnswerOfOne g.W.Runner.answers g.W.Runner.short rs (IsOpenedWith c.args.checked.now run.forks)) run.history) taken c.in_ok-run.ensures.told;
    }) c.run_outcome-outcome.ensures
