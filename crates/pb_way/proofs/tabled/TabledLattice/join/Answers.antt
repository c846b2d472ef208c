use Rattle.pb_way.proofs.Tables.{known-kept}
use Rattle.pb_way.proofs.tabled.TabledLattice.join.Goals as goal

pub returns-in_err-at-clause-kept : goal.returns-in_err-at-clause-kept
returns-in_err-at-clause-kept g c = λ v h. known-kept c.args.space.now c.join.new.space v.at c.join.ensures.kept h

pub returns-clause-kept : goal.returns-clause-kept
returns-clause-kept g c = λ v h. known-kept c.args.space.now c.join.new.space v.at c.join.ensures.kept h
