use Rattle.pb_language.proofs.After.{after_claim}
use Rattle.pb_language.proofs.Given.{give_claim}
use Rattle.pb_language.proofs.Started.{start_claim}
use Rattle.pb_language.proofs.Sound.{within_budget_from}
use Rattle.pb_language.proofs.laws.within_budget.Goals as goal

pub returns : goal.returns
returns c = within_budget_from after_claim start_claim give_claim
