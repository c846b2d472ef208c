use Rattle.std.proofs.Common.{length, refl}
use Rattle.pb_core.proofs.Indexes.{idle_waits, idle_runs}
use Rattle.pb_core.proofs.index.ReadyIndex.is_idle.Goals as goal

pub returns-in-Some : goal.returns-in-Some
returns-in-Some c = λ hosts i. idle_waits hosts c.lowest_in.result _ c.in-Some.is (c.lowest_in.ensures hosts i.waiting)

pub returns : goal.returns
returns c = λ hosts i.
    idle_runs hosts c.len.result (length c.args.self.now.running.keys) _ (c.in_default.ensures hosts i.waiting) i.count c.len.ensures.len refl
