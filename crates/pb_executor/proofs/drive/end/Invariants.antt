use Rattle.std.proofs.Common.{◌≡◌, ◌≤◌, ◌<◌, ◌+◌, ◌-◌, ◌^◌, length}
use Rattle.pb_executor.specs.Drives.{Ends, GoesOn}
use Rattle.pb_executor.specs.States.{state_of}
use Rattle.pb_executor.proofs.drive.end.Given as goal

-- what ends the job from here ends it from the start
abbrev pub invariant-loop-attempt : goal.invariant-loop-attempt
invariant-loop-attempt g l = record {
  ends : (new : _) (s : _) → Ends g.R.Runner.answers l.run l.runner l.job new s → Ends g.R.Runner.answers l.fn.run l.fn.runner l.fn.job new s;
  same : GoesOn l.fn.run l.run;
  within : (state_of l.run).handed ≤ l.run.accepted.budget;
  few : g.R.Runner.calls l.runner + length l.job.calls.items + (l.run.accepted.budget - (state_of l.run).handed) < 2 ^ 64;
  made : g.R.Runner.calls l.runner + length l.job.calls.items + (state_of l.fn.run).handed ≡ g.R.Runner.calls l.fn.runner + length l.fn.job.calls.items + (state_of l.run).handed;
  long : l._attempt + length l.fn.run.history ≤ length l.run.history;
  short : l._attempt ≤ 2 ^ 63;
}
