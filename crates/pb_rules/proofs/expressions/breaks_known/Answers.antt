use Rattle.std.proofs.Common.{◌∙◌, not, refl}
use Rattle.std.proofs.lemmas.Result.{IfOk-weaker}
use Rattle.pb_language.specs.Rules.{breaks_known, expanded_known}
use Rattle.pb_inventory.specs.Inventory.{inventory_view}
use Rattle.pb_vars.specs.InScope.{in_scope}
use Rattle.pb_rules.proofs.ScopesRound.{handler-told, task-told}
use Rattle.pb_rules.proofs.expressions.breaks_known.Goals as goal

pub returns-in-Task : goal.returns-in-Task
returns-in-Task c =
    let v = inventory_view c.args.known.now.inventory.now in
    IfOk-weaker c.reads_unknown.result _ _
    (λ b e. e ∙ task-told (λ f es. not (expanded_known v f es)) (λ x. breaks_known v x x.thing) (λ a t. refl) (λ a i t. refl) (in_scope c.args.scope.now) c.args.site.now c.deref-in-Task.result.now c.in-Task.task c.in-Task.is c.deref-in-Task.ensures
    c.requires.scope) c.reads_unknown.ensures

pub returns-in-Handler : goal.returns-in-Handler
returns-in-Handler c =
    let v = inventory_view c.args.known.now.inventory.now in
    IfOk-weaker c.reads_unknown-in-Handler.result _ _
    (λ b e. e ∙ handler-told (λ f es. not (expanded_known v f es)) (λ x. breaks_known v x x.thing) (λ a t. refl) (λ a i t. refl) (in_scope c.args.scope.now) c.args.site.now c.deref-in-Handler.result.now c.in-Handler.field-0 c.in-Handler.task
    c.in-Handler.is c.deref-in-Handler.ensures c.requires.scope) c.reads_unknown-in-Handler.ensures
