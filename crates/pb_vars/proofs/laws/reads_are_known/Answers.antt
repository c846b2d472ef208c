use Rattle.pb_vars.proofs.KnownReads.{known-reads, known-expanded}
use Rattle.pb_vars.proofs.laws.reads_are_known.Goals as goal

pub returns-clause-one : goal.returns-clause-one
returns-clause-one c = known-reads

pub returns-clause-all : goal.returns-clause-all
returns-clause-all c = known-expanded
