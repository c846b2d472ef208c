use Rattle.std.proofs.Common.{subst}
use Rattle.pb_executor.specs.Sound.{IsSound}
use Rattle.pb_executor.proofs.Insides.{sound_run}
use Rattle.pb_executor.proofs.run.Run.history.Goals as goal

pub returns-clause-sound : goal.returns-clause-sound
returns-clause-sound c = subst IsSound c.self.view_is (sound_run c.self.inside c.self.invariant)
