use Rattle.pb_language.proofs.Planned.{plans_are_derived, derived_are_plans, stuck_start_marks, start_hands_out}
use Rattle.pb_language.proofs.laws.start_is_derived.Goals as goal

pub returns-clause-derived : goal.returns-clause-derived
returns-clause-derived c = plans_are_derived

pub returns-clause-read : goal.returns-clause-read
returns-clause-read c = derived_are_plans

pub returns-clause-stuck : goal.returns-clause-stuck
returns-clause-stuck c = stuck_start_marks

pub returns-clause-fine : goal.returns-clause-fine
returns-clause-fine c = start_hands_out
