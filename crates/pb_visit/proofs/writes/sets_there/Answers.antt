use Rattle.std.proofs.Common.{ap}
use Rattle.std.proofs.lemmas.Result.{IfOk-weaker}
use Rattle.pb_language.specs.Expansion.{trees}
use Rattle.pb_language.specs.Setting.{action_scope}
use Rattle.pb_template.specs.Entries.{entries_view}
use Rattle.pb_transfer.specs.Written.{sets_view}
use Rattle.pb_vars.specs.InScope.{in_scope}
use Rattle.pb_visit.specs.Visits.{env_of, task_there}
use Rattle.pb_visit.proofs.OnGround.{module_sets_there}
use Rattle.pb_visit.proofs.writes.sets_there.Goals as goal

pub returns-in-Module : goal.returns-in-Module
returns-in-Module g c =
    let v = c.args.visit.now in
    let s = v.station.now in
    let t = task_there v in
    let scope = action_scope (g.O.Outlook.setting c.args.outlook.now) t (env_of v) in
    IfOk-weaker c.copies.result _ _
    (λ x is. module_sets_there t s.task.now.work (trees (in_scope s.vars)) (entries_view s.task.now.arguments.items) scope c.in-Module.field-0 (sets_view x.items) (sets_view c.deref.result.now) (sets_view s.facts.items)
    c.in-Module.is is (ap sets_view c.deref.ensures.value) (c.requires.station.facts scope)) c.copies.ensures
