use Rattle.std.proofs.Common.{◌≡◌, ◌≤◌, length, Ok, rules}
use Rattle.pb_semantics.specs.Limits.{most_answer_bytes}
use Rattle.pb_runner.specs.Scripts.{answers_in, script_in}
use Rattle.pb_pool.specs.Executed.{IsOpenedWith}
use Rattle.pb_cli.proofs.Filed.{told_by_file}
use Rattle.pb_cli.proofs.outcome.scripted_run.Goals as goal

pub returns : goal.returns
returns g c =
    let run = c.in_ok-run.run' in
    let first = c.in-Ok.first in
    let runners = c.in_ok-runners.field-0.items in
    let short : length c.args.answers.now ≤ most_answer_bytes = search rules in
    let gives = c.in-Ok.ensures.read short in record {
      whole = c.in_ok-run.ensures.whole;
      file = answers_in first;
      short = short;
      read = search rules;
      answered = record {
        runners = runners;
        told = told_by_file (IsOpenedWith c.args.checked.now run.forks) runners (answers_in first) run c.in_ok-runners.ensures.file c.in_ok-run.ensures.told;
      };
    }
