use Rattle.std.proofs.Common.{◌≡◌, length, ap, arith}
use Rattle.pb_core.specs.Cores.{scheduled_batches}
use Rattle.pb_core.specs.declared.batch.Schedule.{Schedule}
use Rattle.pb_core.proofs.Runs.{ends_by}
use Rattle.pb_core.proofs.run.RunCore.has_ended.Goals as goal

pub returns-clause-ended : goal.returns-clause-ended
returns-clause-ended g c =
    let same = ap (λ (x : Schedule). length x.batches.items) c.schedule.ensures in
    let count : c.len.result ≡ length (scheduled_batches c.args.self.now) = omega (arith, c.schedule.result.now.batches.ok, c.len.ensures, same) in
    ends_by c.args.self.now c.len.result count
