use Rattle.std.proofs.Common.{Some, ap, ◌∙◌}
use Rattle.std.proofs.lemmas.Result.{IfOk-weaker}
use Rattle.clap.specs.Words.{Rule, rule_of}
use Rattle.pb_options.specs.Options.{answers_rule, forks_rule, modules_rule}
use Rattle.pb_options.proofs.Commands.{Reads, Extends-three}
use Rattle.pb_options.proofs.options.with_workers.Goals as goal

pub returns : goal.returns
returns c =
    let forks : Reads c.help.result forks_rule = record {
      local = ap (λ a. a.global) c.help.ensures ∙ ap (λ a. a.global) c.short.ensures ∙ c.option.ensures.local;
      rule = ap rule_of c.help.ensures ∙ ap rule_of c.short.ensures ∙ ap {A = Rule} (λ r. record r { short = Some 102 }) c.option.ensures.rule;
    } in
    let answers : Reads c.help-2.result answers_rule = record {
      local = ap (λ a. a.global) c.help-2.ensures ∙ c.option-2.ensures.local;
      rule = ap rule_of c.help-2.ensures ∙ c.option-2.ensures.rule;
    } in
    let modules : Reads c.help-3.result modules_rule = record {
      local = ap (λ a. a.global) c.help-3.ensures ∙ c.option-3.ensures.local;
      rule = ap rule_of c.help-3.ensures ∙ c.option-3.ensures.rule;
    } in
    IfOk-weaker c.arg-3.result _ _
    (λ r third. Extends-three c.args.command c.in_ok-arg.field-0 c.in_ok-arg-2.field-0 r c.help.result c.help-2.result c.help-3.result forks_rule answers_rule modules_rule
    c.in_ok-arg.ensures c.in_ok-arg-2.ensures third forks answers modules)
    c.arg-3.ensures
