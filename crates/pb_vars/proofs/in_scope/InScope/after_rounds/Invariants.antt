use Rattle.std.proofs.Common.{◌≡◌, ◌-◌, []}
use Rattle.pb_vars.specs.InScope.{in_scope}
use Rattle.pb_vars.specs.Rounds.{after_rounds}
use Rattle.pb_vars.proofs.in_scope.InScope.after_rounds.Given as goal

abbrev pub invariant-loop-done : goal.invariant-loop-done
invariant-loop-done g l = after_rounds (l.most - l._done) (g.Q.Question.holds l.question) (in_scope l.self) l.answers.items ≡ after_rounds l.most (g.Q.Question.holds l.question) (in_scope l.self) []
