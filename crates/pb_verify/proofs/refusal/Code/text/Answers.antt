use Rattle.std.proofs.Common.{refl}
use Rattle.pb_verify.proofs.refusal.Code.text.Goals as goal

pub returns-in-V03 : goal.returns-in-V03
returns-in-V03 c = rw c.in-V03.is refl
