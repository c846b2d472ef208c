use Rattle.pb_flow.proofs.Solved.{solution_walk}
use Rattle.pb_flow.proofs.laws.solution_is_walk.Goals as goal

pub returns : goal.returns
returns c = solution_walk
