use Rattle.std.proofs.Common.{◌∙◌, ◌&&◌, Bool, ap}
use Rattle.std.proofs.lemmas.Result.{IfOk-weaker}
use Rattle.pb_language.specs.Rules.{any_too_long}
use Rattle.pb_vars.specs.InScope.{in_scope}
use Rattle.pb_vars.proofs.Scopes.{same-lengths}
use Rattle.pb_rules.specs.Sites.{site_view}
use Rattle.pb_rules.proofs.expressions.breaks_chains.Goals as goal

pub returns : goal.returns
returns c =
    let scope = (site_view c.args.site.now).scope in
    IfOk-weaker c.has_long_chain.result _ _ (λ b e. e ∙ same-lengths (in_scope c.args.scope.now) scope c.requires.scope ∙ ap (λ (x : Bool). x && any_too_long scope scope) c.if-not-is_task_line.ensures) c.has_long_chain.ensures
