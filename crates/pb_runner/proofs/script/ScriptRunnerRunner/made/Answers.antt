use Rattle.std.proofs.Common.{refl}
use Rattle.pb_runner.proofs.script.ScriptRunnerRunner.made.Goals as goal

pub returns : goal.returns
returns c = refl
