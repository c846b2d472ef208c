use Rattle.pb_language.proofs.Fits.{fit_has_value}
use Rattle.pb_language.proofs.laws.fit_has_value.Goals as goal

pub returns : goal.returns
returns c = fit_has_value
