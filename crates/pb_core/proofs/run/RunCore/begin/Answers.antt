use Rattle.std.proofs.Common.{refl}
use Rattle.pb_core.proofs.Hosts.{there}
use Rattle.pb_core.proofs.Cores.{tickets_set, begins_by, cannot_start}
use Rattle.pb_core.proofs.run.RunCore.begin.Goals as goal

pub returns-clause-begins : goal.returns-clause-begins
returns-clause-begins g c =
    begins_by c.args.self.now _ c.begin.new.self c.args.host c.in-Some-ready_at.place c.args.calls c.in-Some.handed c.args.ticket c.args.passes c.index_mut.result.now _
    (there c.args.self.now.hosts.items c.args.host c.index_mut.result.now c.in-Some-ready_at.ensures.within c.index_mut.ensures.value) refl c.in-Some-ready_at.ensures.place c.in_ok-begin.ensures.begins c.in-Some.ensures.1

pub returns-in_default-ready_at-clause-there : goal.returns-in_default-ready_at-clause-there
returns-in_default-ready_at-clause-there g c = λ e. cannot_start c.args.self.now c.args.host c.in_default-ready_at.ensures.place

pub returns-clause-tickets : goal.returns-clause-tickets
returns-clause-tickets g c = tickets_set c.args.self.now.hosts.items c.args.host _
