use Rattle.std.proofs.Common.{◌≡◌, ◌≤◌, ◌+◌, ◌^◌, length}
use Rattle.pb_executor.specs.Drives.{Drives, GoesOn}
use Rattle.pb_executor.specs.States.{state_of}
use Rattle.pb_executor.proofs.drive.drive.Given as goal

-- what drives it from here drives it from the start
abbrev pub invariant-loop-turn : goal.invariant-loop-turn
invariant-loop-turn g l = record {
  made : g.R.Runner.calls l.runner + (state_of l.fn.run).handed ≡ g.R.Runner.calls l.fn.runner + (state_of l.run).handed;
  same : GoesOn l.fn.run l.run;
  driven : (new : _) (s : _) → Drives g.R.Runner.answers l.run l.runner new s → Drives g.R.Runner.answers l.fn.run l.fn.runner new s;
  long : l._turn ≤ length l.run.history;
  short : l._turn ≤ 2 ^ 63;
}
