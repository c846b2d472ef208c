use Rattle.pb_judgement.proofs.status.add_perhaps.Goals as goal

pub returns-then-case : goal.returns-then-case
returns-then-case c = rw c.if-case.true c.add.ensures

pub returns-else-case : goal.returns-else-case
returns-else-case c = rw c.if-case.false c.add_either.ensures
