use Rattle.std.proofs.Common.{◌≡◌, ◌∙◌, ◌&&◌, Some, map, ap, sym, subst}
use Rattle.pb_language.specs.Rules.{are_parameters, has_required, is_well_formed}
use Rattle.pb_language.specs.TaskForm.{module_at}
use Rattle.pb_sig.specs.ModuleView.{known_view}
use Rattle.pb_sig.specs.Views.{parameter_view}
use Rattle.pb_sig.specs.declared.registry.Known.{Known}
use Rattle.pb_task.specs.Tasks.{Resolves, work_view}
use Rattle.pb_template.specs.Entries.{entries_view}
use Rattle.pb_rules.proofs.Modules.{named-found}
use Rattle.pb_rules.proofs.parameters.is_well_formed.Goals as goal

pub returns-in-Module : goal.returns-in-Module
returns-in-Module c ms h =
    let parts = entries_view c.args.arguments.now in
    let m = c.in-Module.module.value in
    let found : module_at (known_view m).name ms ≡ Some (known_view m) = subst (Resolves ms) c.in-Module.is h in
    let given : map parameter_view c.params.result.now ≡ (known_view m).params = c.params.ensures ∙ ap (λ (k : Known). (known_view k).params) c.deref.ensures in
    c.fills.ensures ∙ ap (λ ps. are_parameters ps parts && has_required ps parts) (given ∙ ap (λ k. k.params) (sym (named-found (known_view m).name ms (known_view m) found)))
    ∙ ap (λ w. is_well_formed ms (work_view w parts)) (sym c.in-Module.is)
