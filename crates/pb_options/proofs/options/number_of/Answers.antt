use Rattle.std.proofs.Common.{Some, refl, sym, ap}
use Rattle.pb_options.proofs.options.number_of.Goals as goal

pub returns-in-None-clause-number : goal.returns-in-None-clause-number
returns-in-None-clause-number c = rw c.in-None.is refl

pub returns-in-None-clause-fits : goal.returns-in-None-clause-fits
returns-in-None-clause-fits c = rw c.in-None.is (λ n e small. ap (λ x. Some x) (sym e))
