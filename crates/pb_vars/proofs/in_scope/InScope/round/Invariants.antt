use Rattle.std.proofs.Common.{◌≡◌, take}
use Rattle.pb_vars.specs.Borrowed.{borrowed_view}
use Rattle.pb_vars.specs.InScope.{in_scope}
use Rattle.pb_vars.specs.Rounds.{answer_named, through, value_answers}
use Rattle.pb_vars.proofs.in_scope.InScope.round.Given as goal

abbrev pub invariant-loop-entry : goal.invariant-loop-entry
invariant-loop-entry g l = l.next.items ≡ value_answers (through (λ n. answer_named n (in_scope l.self) l.answers) (g.Q.Question.holds l.question)) (borrowed_view (take l.entry-index l.self.entries.items))
