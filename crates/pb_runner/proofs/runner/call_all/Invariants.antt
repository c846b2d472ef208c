use Rattle.std.proofs.Common.{◌≡◌, ◌+◌, take}
use Rattle.pb_runner.specs.Answered.{AreAnswered}
use Rattle.pb_runner.proofs.runner.call_all.Given as goal

abbrev pub invariant-loop-call : goal.invariant-loop-call
invariant-loop-call g l = record {
  made : g.R.Runner.calls l.runner ≡ g.R.Runner.calls l.fn.runner + l.call-index;
  answered : AreAnswered g.R.Runner.answers l.fn.runner (take l.call-index l.calls) l.answers.items l.runner;
}
