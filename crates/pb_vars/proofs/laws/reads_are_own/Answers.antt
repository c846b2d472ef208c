use Rattle.pb_vars.proofs.Own.{own-reads, own-expanded}
use Rattle.pb_vars.proofs.laws.reads_are_own.Goals as goal

pub returns-clause-one : goal.returns-clause-one
returns-clause-one c = own-reads

pub returns-clause-all : goal.returns-clause-all
returns-clause-all c = own-expanded
