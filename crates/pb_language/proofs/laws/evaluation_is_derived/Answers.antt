use Rattle.pb_language.proofs.Evaluated.{outcomes_are_derived}
use Rattle.pb_language.proofs.Determined.{derived_are_outcomes}
use Rattle.pb_language.proofs.laws.evaluation_is_derived.Goals as goal

pub returns-clause-derived : goal.returns-clause-derived
returns-clause-derived c = outcomes_are_derived

pub returns-clause-read : goal.returns-clause-read
returns-clause-read c = derived_are_outcomes
