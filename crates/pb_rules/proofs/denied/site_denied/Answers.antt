use Rattle.std.proofs.Common.{◌∙◌, not, refl}
use Rattle.std.proofs.lemmas.Result.{IfOk-weaker}
use Rattle.pb_vars.specs.InScope.{in_scope}
use Rattle.pb_vars.specs.Reads.{expanded_every_read}
use Rattle.pb_rules.specs.Denied.{site_denied}
use Rattle.pb_rules.proofs.ScopesRound.{handler-told, task-told}
use Rattle.pb_rules.proofs.denied.site_denied.Goals as goal

pub returns-in-Task : goal.returns-in-Task
returns-in-Task g c =
    let f = g.Q.Question.holds c.args.question.now in
    IfOk-weaker c.task_denied.result _ _
    (λ b e. e ∙ task-told (λ t es. not (expanded_every_read t f es)) (site_denied f) (λ a t. refl) (λ a i t. refl) (in_scope c.in_ok-scope.scope) c.args.site.now c.deref.result.now c.in-Task.task c.in-Task.is c.deref.ensures c.in_ok-scope.ensures)
    c.task_denied.ensures

pub returns-in-Handler : goal.returns-in-Handler
returns-in-Handler g c =
    let f = g.Q.Question.holds c.args.question.now in
    IfOk-weaker c.task_denied-in-Handler.result _ _
    (λ b e. e ∙ handler-told (λ t es. not (expanded_every_read t f es)) (site_denied f) (λ a t. refl) (λ a i t. refl) (in_scope c.in_ok-scope.scope) c.args.site.now c.deref-in-Handler.result.now c.in-Handler.field-0 c.in-Handler.task c.in-Handler.is
    c.deref-in-Handler.ensures c.in_ok-scope.ensures) c.task_denied-in-Handler.ensures
