use Rattle.std.proofs.Common.{◌∙◌, ap, option_map, sym}
use Rattle.std.proofs.lemmas.Result.{IfOk-weaker}
use Rattle.pb_language.specs.Fit.{asks, unknown_handler}
use Rattle.pb_language.specs.Judgement.{action_fault, conditions_fault, keyword_fault, loop_fault, until_fault}
use Rattle.pb_language.specs.Notify.{all_notified, names_something}
use Rattle.pb_language.specs.Setting.{action_scope, give_scope, item_scope, start_scope, until_scope}
use Rattle.pb_forms.specs.FitView.{fault_view}
use Rattle.pb_visit.specs.Visits.{env_of, task_there}
use Rattle.pb_visit.proofs.OnGround.{faults_in_order}
use Rattle.pb_visit.proofs.faults.fault.Goals as goal

pub returns : goal.returns
returns g c =
    let st = g.O.Outlook.setting c.args.outlook.now in
    let t = task_there c.args.visit.now in
    let env = env_of c.args.visit.now in
    IfOk-weaker c.give_unfit.result _ _
    (λ u is. faults_in_order (loop_fault (start_scope st t env) t.loop) (conditions_fault (item_scope st t env) t.conditions) (action_fault (action_scope st t env) t.action)
    (keyword_fault (give_scope st t env) t.changed_when) (keyword_fault (give_scope st t env) t.failed_when) (until_fault (until_scope st t env) t.attempts)
    (asks unknown_handler (names_something (all_notified st.handlers t.notifies))) (option_map fault_view u)
    (sym (ap (option_map fault_view) c.in_default.is) ∙ c.fault_of_loop.ensures ∙ c.in_ok-found.ensures.fault)
    (sym (ap (option_map fault_view) c.in_default-2.is) ∙ c.in_ok-unfit.ensures) is) c.give_unfit.ensures
