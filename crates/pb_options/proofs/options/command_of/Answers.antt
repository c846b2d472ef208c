use Rattle.std.proofs.Common.{ap, ap₂, ◌∙◌}
use Rattle.std.proofs.lemmas.Result.{IfOk-weaker}
use Rattle.clap.specs.Words.{with_subcommand}
use Rattle.pb_options.proofs.options.command_of.Goals as goal

pub returns : goal.returns
returns c =
    let checks = c.in_ok-command.ensures.shape c.in_ok-check.ensures.local ∙ ap₂ with_subcommand c.in_ok-top_command.ensures (ap (λ a. a.top) c.in_ok-check.ensures.app) in
    IfOk-weaker c.subcommand-2.result _ _
    (λ r more. more.shape c.in_ok-run_command.ensures.local ∙ ap₂ with_subcommand checks (ap (λ a. a.top) c.in_ok-run_command.ensures.app))
    c.subcommand-2.ensures
