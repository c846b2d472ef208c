-- What `run` makes of a verdict and of a run.
use Rattle.std.proofs.Common.{◌≡◌, ℕ, List, Bool, Result, Ok, Err, IfOk, inl, inr, refl, subst}
use Rattle.pb_finish.specs.declared.answer.Answer.{Answer}
use Rattle.pb_jobs.specs.declared.job.Call.{Call}
use Rattle.pb_verify.specs.declared.checked.Accepted.{Accepted}
use Rattle.pb_executor.specs.States.{RunState}
use Rattle.pb_cli.specs.Outcomes.{IsRunBy, JudgesFiles, RunSays, RunsAccepted, RunsAcceptedAs, RunsAcceptedWith, RunsAs, RunsWith}
use Rattle.pb_cli.specs.declared.judge.Fault.{Fault}
use Rattle.pb_cli.specs.declared.outcome.Bytes.{Bytes}
use Rattle.pb_cli.specs.declared.outcome.Outcome.{Outcome}
use Rattle.pb_cli.specs.declared.want.Want.{Want}

-- the verdict comes first
pub accepted_runs : (r : Result Outcome Want) (forks : ℕ) (b : Bytes) (a : Accepted) (answers : List ℕ) → answers ≡ b.answers.items → JudgesFiles b (Ok a) → IfOk r (RunsAcceptedAs forks answers a) → IfOk r (RunsAs forks b)
accepted_runs (Ok o) forks b a answers same judges x = (x.0, (inr (a, (judges, subst (λ xs. RunsAccepted forks xs a x.0) same x.1.0)), x.1.1))
accepted_runs (Err e) forks b a answers same judges x = x

pub refused_runs : (r : Result Outcome Want) (forks : ℕ) (b : Bytes) (f : Fault) → JudgesFiles b (Err f) → IfOk r (RunSays (Err f)) → IfOk r (RunsAs forks b)
refused_runs (Ok o) forks b f judges says = (Err f, (inl (f, (judges, refl)), says))
refused_runs (Err e) forks b f judges says = says

-- and so it does where runners answer the calls
module _ {R : Type 0} (answers : R → Call → Answer → R → Type 0) (short : R → Bool) (programs : List R) where
  pub says_with : (x : Result Outcome Want) (forks : ℕ) (a : Accepted) (r : RunState) → IsRunBy answers short programs forks a r → IfOk x (RunSays (Ok r)) → IfOk x (RunsAcceptedWith answers short programs forks a)
  says_with (Ok o) forks a r is says = (r, (is, says))
  says_with (Err e) forks a r is says = says

  pub accepted_with : (x : Result Outcome Want) (forks : ℕ) (b : Bytes) (a : Accepted) → JudgesFiles b (Ok a) → IfOk x (RunsAcceptedWith answers short programs forks a) → IfOk x (RunsWith answers short programs forks b)
  accepted_with (Ok o) forks b a judges runs = inr (a, (judges, runs))
  accepted_with (Err e) forks b a judges runs = runs

  pub refused_with : (x : Result Outcome Want) (forks : ℕ) (b : Bytes) (f : Fault) → JudgesFiles b (Err f) → IfOk x (RunSays (Err f)) → IfOk x (RunsWith answers short programs forks b)
  refused_with (Ok o) forks b f judges says = inl (f, (judges, says))
  refused_with (Err e) forks b f judges says = says
