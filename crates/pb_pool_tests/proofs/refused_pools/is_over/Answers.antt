use Rattle.std.proofs.Common.{arith}
use Rattle.pb_pool_tests.proofs.refused_pools.is_over.Goals as goal

-- a run that is dropped has a row of slots for each host, at both ways out; asked one by one, what
-- else its machine keeps goes by itself
pub invariant_of-run-inside-clause-each_host : goal.invariant_of-run-inside-clause-each_host
invariant_of-run-inside-clause-each_host c = omega arith

pub invariant_of-run-inside-2-clause-each_host : goal.invariant_of-run-inside-2-clause-each_host
invariant_of-run-inside-2-clause-each_host c = omega arith
