use Rattle.std.proofs.Common.{refl, ap, sym, ◌∙◌}
use Rattle.pb_core.specs.Hosts.{left_recap, recap_view}
use Rattle.pb_core.proofs.Hosts.{there, same_item}
use Rattle.pb_core.proofs.Cores.{tickets_set, leaves_by, cannot_give, full_recap}
use Rattle.pb_core.proofs.run.RunCore.leave.Goals as goal

pub returns-clause-leaves : goal.returns-clause-leaves
returns-clause-leaves g c =
    let within = c.in-Some.ensures.within in
    let same = same_item c.args.self.now.hosts.items c.args.host c.index_mut-state.result.now c.index.result.now within c.index_mut-state.ensures.value c.index.ensures in
    leaves_by c.args.self.now _ c.leave.new.self c.args.host c.in-Some.from c.args.is_reached c.index_mut-state.result.now _
    (there c.args.self.now.hosts.items c.args.host c.index_mut-state.result.now within c.index_mut-state.ensures.value) refl
    c.leave-2.ensures.host refl (c.in-Some-left.ensures.counts ∙ ap (λ x. left_recap c.args.is_reached (recap_view x.recap)) (sym same)) c.in-Some.ensures.place c.leave.ensures

pub returns-in_default-clause-there : goal.returns-in_default-clause-there
returns-in_default-clause-there g c = λ e. cannot_give c.args.self.now c.args.host c.in_default.ensures.place

pub returns-in_default-left-clause-full : goal.returns-in_default-left-clause-full
returns-in_default-left-clause-full g c = λ e room.
    full_recap c.args.self.now c.args.host c.index.result.now c.left.result (there c.args.self.now.hosts.items c.args.host c.index.result.now c.in-Some.ensures.within c.index.ensures) c.left.ensures.room c.in_default-left.not-Some room

pub returns-clause-tickets : goal.returns-clause-tickets
returns-clause-tickets g c = tickets_set c.args.self.now.hosts.items c.args.host _
