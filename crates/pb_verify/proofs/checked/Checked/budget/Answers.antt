use Rattle.std.proofs.Common.{◌≡◌, true, subst}
use Rattle.pb_verify.specs.Judges.{is_accepted}
use Rattle.pb_verify.specs.declared.checked.Accepted.{Accepted}
use Rattle.pb_verify.proofs.AcceptedRuns.{is_stuck-accepted, handed-accepted}
use Rattle.pb_verify.proofs.checked.Checked.budget.Goals as goal

pub returns-clause-accepted : goal.returns-clause-accepted
returns-clause-accepted c = subst (λ (a : Accepted). is_accepted a ≡ true) c.self.view_is c.self.invariant.accepted

pub returns-clause-sound : goal.returns-clause-sound
returns-clause-sound c = is_stuck-accepted c.args.self.now (returns-clause-accepted c)

pub returns-clause-within : goal.returns-clause-within
returns-clause-within c = handed-accepted c.args.self.now (returns-clause-accepted c)
