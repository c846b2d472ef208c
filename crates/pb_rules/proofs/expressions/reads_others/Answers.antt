use Rattle.std.proofs.Common.{◌∙◌, ap, not, sym}
use Rattle.pb_language.specs.Expansion.{trees}
use Rattle.pb_language.specs.Rules.{give_expressions}
use Rattle.pb_task.specs.Tasks.{task_view}
use Rattle.pb_vars.specs.InScope.{in_scope}
use Rattle.pb_vars.proofs.Own.{own-expanded}
use Rattle.pb_rules.proofs.expressions.reads_others.Goals as goal

pub returns : goal.returns
returns c = ap not c.give_holds.ensures ∙ sym (own-expanded (trees (in_scope c.args.scope.now)) (give_expressions (task_view c.args.task.now)))
