use Rattle.pb_lattice.proofs.flowing.FlowingLattice.join.Goals as goal

pub returns-in_err-at-clause-kept : goal.returns-in_err-at-clause-kept
returns-in_err-at-clause-kept g c = λ v h. c.join.ensures.kept.stays v.at h

pub returns-clause-kept : goal.returns-clause-kept
returns-clause-kept g c = λ v h. c.join.ensures.kept.stays v.at h
