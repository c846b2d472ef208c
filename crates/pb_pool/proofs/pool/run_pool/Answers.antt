use Rattle.std.proofs.Common.{arith}
use Rattle.pb_pool.proofs.pool.run_pool.Goals as goal

pub returns-in_default-want-clause-made : goal.returns-in_default-want-clause-made
returns-in_default-want-clause-made g c =
    let all = c.work_all-workers.ensures.made c.in_default-want.is in record {
      pooled = c.closed-run.ensures.0;
      made = omega (arith, all, c.parted.ensures.made, c.parted.ensures.handed, c.closed-run.ensures.1, c.in-Ok.ensures.made, c.in-Ok.ensures.handed);
    }
