use Rattle.pb_language.proofs.Ended.{results_are_derived, derived_are_results, notified_are_derived, derived_are_notified}
use Rattle.pb_language.proofs.laws.give_is_derived.Goals as goal

pub returns-clause-derived : goal.returns-clause-derived
returns-clause-derived c = results_are_derived

pub returns-clause-read : goal.returns-clause-read
returns-clause-read c = derived_are_results

pub returns-clause-handlers_derived : goal.returns-clause-handlers_derived
returns-clause-handlers_derived c = notified_are_derived

pub returns-clause-handlers_read : goal.returns-clause-handlers_read
returns-clause-handlers_read c = derived_are_notified
