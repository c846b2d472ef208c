use Rattle.pb_language.proofs.FaultsSame.{faults_same}
use Rattle.pb_language.proofs.order.same_faults.Goals as goal

pub returns : goal.returns
returns c = λ x y e w v s. faults_same e x y w v s.0 s.1
