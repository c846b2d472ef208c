use Rattle.std.proofs.Common.{ap, cond, sym}
use Rattle.pb_sig.specs.declared.admission.Admission.TheVariants.{Ok, Failed}
use Rattle.pb_sig.proofs.admission.admitted.Goals as goal

pub returns-then-failed : goal.returns-then-failed
returns-then-failed c = ap (λ b. cond b (Failed c.args.value) (Ok c.args.value)) (sym c.if-failed.true)
