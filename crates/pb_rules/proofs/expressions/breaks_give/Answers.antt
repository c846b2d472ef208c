use Rattle.std.proofs.Common.{◌∙◌, ap}
use Rattle.std.proofs.lemmas.Result.{IfOk-weaker}
use Rattle.pb_language.specs.Expansion.{trees}
use Rattle.pb_language.specs.Rules.{expanded_reads, give_expressions, of_task}
use Rattle.pb_task.specs.Tasks.{task_view}
use Rattle.pb_vars.specs.InScope.{in_scope}
use Rattle.pb_vars.proofs.Scopes.{same-trees}
use Rattle.pb_rules.specs.Sites.{site_view}
use Rattle.pb_rules.proofs.expressions.breaks_give.Goals as goal

pub returns-in-Some : goal.returns-in-Some
returns-in-Some c =
    let s = site_view c.args.site.now in
    let give = give_expressions (task_view c.in-Some.task.now) in
    IfOk-weaker c.reads_others.result _ _ (λ b e. e ∙ ap (λ f. expanded_reads f give) (same-trees (in_scope c.args.scope.now) s.scope c.requires.scope)
    ∙ ap (λ o. of_task o (λ u. expanded_reads (trees s.scope) (give_expressions u))) c.in-Some.ensures.meaning) c.reads_others.ensures
