use Rattle.std.proofs.Common.{refl, ap, sym, ◌∙◌}
use Rattle.std.proofs.lemmas.Result.{err_from_is_err_and}
use Rattle.pb_core.specs.Hosts.{recap_after, recap_view}
use Rattle.pb_position.specs.declared.position.TaskEnd.{TaskEnd}
use Rattle.pb_core.proofs.Hosts.{there, same_item}
use Rattle.pb_core.proofs.Cores.{tickets_set, settles_by, gone_job, no_running_job, full_recap}
use Rattle.pb_core.proofs.run.RunCore.settle.Goals as goal

pub returns-clause-settles : goal.returns-clause-settles
returns-clause-settles g c =
    let o = c.args.outcome in
    let within = c.in-Some.ensures.within in
    let same = same_item c.args.self.now.hosts.items c.args.host c.index_mut-state.result.now c.index.result.now within c.index_mut-state.ensures.value c.index.ensures in
    let end : TaskEnd = record { has_failed = c.goes_wrong.result; text = o.text; notified = o.notified } in
    settles_by c.args.self.now _ c.go_on-2.new.self c.args.host c.in-Some.from o end c.in_ok-onward.onward c.index_mut-state.result.now _
    (there c.args.self.now.hosts.items c.args.host c.index_mut-state.result.now within c.index_mut-state.ensures.value) refl
    c.goes_wrong.ensures refl refl c.in_ok-onward.ensures.goes refl refl refl
    (c.in-Some-after.ensures.counts ∙ ap (λ x. recap_after o.status (recap_view x.recap)) (sym same)) c.in-Some.ensures.place c.in_ok-go_on.ensures.goes

pub returns-in_default-clause-there : goal.returns-in_default-clause-there
returns-in_default-clause-there g c = λ e. no_running_job c.args.self.now c.args.host c.args.outcome.notified.items c.in_default.ensures.place

pub returns-in_default-after-clause-full : goal.returns-in_default-after-clause-full
returns-in_default-after-clause-full g c = λ e room.
    full_recap c.args.self.now c.args.host c.index.result.now c.after.result (there c.args.self.now.hosts.items c.args.host c.index.result.now c.in-Some.ensures.within c.index.ensures) c.after.ensures.room c.in_default-after.not-Some room

pub returns-in_err-onward-clause-there : goal.returns-in_err-onward-clause-there
returns-in_err-onward-clause-there g c =
    let p = err_from_is_err_and c.from_residual.result c.from_residual.ensures.1 in
    rw (p.1, p.2) (λ e. gone_job c.args.self.now c.args.host c.args.outcome.notified.items (c.in_err-onward.ensures.there e))

pub returns-in_err-onward-clause-full : goal.returns-in_err-onward-clause-full
returns-in_err-onward-clause-full g c =
    let p = err_from_is_err_and c.from_residual.result c.from_residual.ensures.1 in
    rw (p.1, p.2) (λ e room. c.in_err-onward.ensures.full e)

pub returns-in_err-go_on-clause-full : goal.returns-in_err-go_on-clause-full
returns-in_err-go_on-clause-full g c =
    let p = err_from_is_err_and c.from_residual-in_err-go_on.result c.from_residual-in_err-go_on.ensures.1 in
    rw (p.1, p.2) (λ e room. cc)

pub invariant_of-state : goal.invariant_of-state
invariant_of-state g c = record {
  room = c.in_ok-onward.ensures.goes.handlers c.index_mut-state.result.now (there c.args.self.now.hosts.items c.args.host c.index_mut-state.result.now c.in-Some.ensures.within c.index_mut-state.ensures.value);
}

pub returns-clause-tickets : goal.returns-clause-tickets
returns-clause-tickets g c = tickets_set c.args.self.now.hosts.items c.args.host _
