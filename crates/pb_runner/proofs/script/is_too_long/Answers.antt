use Rattle.std.proofs.lemmas.Bool.{lt-ltb, ltb-true}
use Rattle.pb_runner.proofs.script.is_too_long.Goals as goal

pub returns : goal.returns
returns c = (ltb-true 67108864 _, lt-ltb 67108864 _)
