use Rattle.std.proofs.Common.{refl, sym, subst}
use Rattle.std.proofs.lemmas.Result.{IfOk-weaker}
use Rattle.pb_language.specs.Cases.{Sets}
use Rattle.pb_language.specs.Walk.{Visit}
use Rattle.pb_language.specs.Wells.{WellSets}
use Rattle.pb_language.proofs.After.{after_claim}
use Rattle.pb_lattice.specs.Environments.{exit_of}
use Rattle.pb_lattice.proofs.Exits.{stands_well}
use Rattle.pb_kind.specs.KindView.{slots_view}
use Rattle.pb_visit.specs.Visits.{env_of, task_there}
use Rattle.pb_find.specs.Written.{Written}
use Rattle.pb_find.specs.declared.find.Find.{Find}
use Rattle.pb_find.proofs.Finding.{found_there, known_well, one_found}
use Rattle.pb_find.proofs.find.find_visit.Goals as goal

pub with_writes-requires-clause-writes : goal.with_writes-requires-clause-writes
with_writes-requires-clause-writes g c =
    let v = c.args.visit.now in
    let s = v.space.now in
    subst (λ (r : Sets). WellSets r) (sym c.in_ok-writes.ensures.writes)
    (after_claim (g.O.Outlook.setting c.args.outlook.now) (c.views_are_well.ensures c.args.outlook.now) (task_there v) (env_of v) (known_well (exit_of s v.at) (stands_well s v.at c.requires.reached.stands))).2

pub returns : goal.returns
returns g c =
    let v : Visit = record { setting = g.O.Outlook.setting c.args.outlook.now; visited = task_there c.args.visit.now; env = env_of c.args.visit.now } in
    let view = slots_view c.args.view.now.entries in
    let old = c.args.before in
    let now : Find = record old { fault = c.sooner-found.result } in
    IfOk-weaker c.with_writes.result _ _
    (λ f x h. one_found h view v old now f c.fault_at.result (found_there h v c.args.visit.now.station.now.task.now.line c.in_ok-unfit.unfit refl c.fault_at.result c.fault_at.ensures c.in_ok-unfit.ensures) (c.sooner-found.ensures h) refl refl refl
    (subst (λ (r : Sets). Written r view now f) c.in_ok-writes.ensures.writes x)) c.with_writes.ensures
