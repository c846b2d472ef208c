use Rattle.std.proofs.Common.{ap, ◌∙◌}
use Rattle.std.proofs.lemmas.Result.{IfOk-weaker}
use Rattle.clap.specs.Words.{rule_of}
use Rattle.pb_options.specs.Options.{arguments_rule, timeout_rule}
use Rattle.pb_options.proofs.Commands.{Reads, Extends-two}
use Rattle.pb_options.proofs.options.with_calling.Goals as goal

pub returns : goal.returns
returns c =
    let arguments : Reads c.help.result arguments_rule = record {
      local = ap (λ a. a.global) c.help.ensures ∙ c.option.ensures.local;
      rule = ap rule_of c.help.ensures ∙ c.option.ensures.rule;
    } in
    let timeout : Reads c.help-2.result timeout_rule = record {
      local = ap (λ a. a.global) c.help-2.ensures ∙ c.option-2.ensures.local;
      rule = ap rule_of c.help-2.ensures ∙ c.option-2.ensures.rule;
    } in
    IfOk-weaker c.arg-2.result _ _
    (λ r second. Extends-two c.args.command c.in_ok-arg.field-0 r c.help.result c.help-2.result arguments_rule timeout_rule
    c.in_ok-arg.ensures second arguments timeout)
    c.arg-2.ensures
