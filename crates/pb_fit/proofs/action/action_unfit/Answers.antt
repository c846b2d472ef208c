use Rattle.std.proofs.Common.{subst, sym, ap, ◌∙◌}
use Rattle.std.proofs.lemmas.Result.{IfOk-weaker}
use Rattle.pb_language.specs.Expansion.{parts_expanded}
use Rattle.pb_language.specs.Judgement.{action_fault, arguments_fault}
use Rattle.pb_language.specs.Plays.{action_of}
use Rattle.pb_taught.specs.TaughtView.{scope_view}
use Rattle.pb_sig.specs.ModuleView.{known_view}
use Rattle.pb_sig.specs.declared.registry.Known.{Known}
use Rattle.pb_task.specs.Tasks.{Resolves, work_view}
use Rattle.pb_task.specs.declared.task.Work.{Work}
use Rattle.pb_template.specs.Entries.{entries_view}
use Rattle.pb_fit.proofs.Calls.{action_fault-call}
use Rattle.pb_fit.proofs.action.action_unfit.Goals as goal

pub returns-in-Module : goal.returns-in-Module
returns-in-Module g c =
    let b = g.K.Known.before c.args.known.now in
    let s = scope_view b c.args.taught.now in
    let es = entries_view c.args.arguments.now in
    let ps = parts_expanded b.trees es in
    IfOk-weaker c.arguments_unfit.result _ _ (λ u h. λ ms found.
    h ∙ ap (λ qs. arguments_fault s qs ps) (c.params.ensures ∙ ap (λ (k : Known). (known_view k).params) c.deref.ensures)
    ∙ action_fault-call s ms c.in-Module.called.value ps (subst (λ (w : Work). Resolves ms w) c.in-Module.is found)
    ∙ ap (λ (w : Work). action_fault s (action_of ms b.trees (work_view w es))) (sym c.in-Module.is)) c.arguments_unfit.ensures
