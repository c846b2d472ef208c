use Rattle.std.proofs.Common.{length, ◌-◌, ◌≤◌}
use Rattle.smallvec.specs.SmallVec.{small_vec_len}
use Rattle.pb_language.specs.Grammar.{steps_of}
use Rattle.pb_syntax.specs.ExprView.{names_of}
use Rattle.pb_syntax.specs.Letters.{tokens_at}
use Rattle.pb_syntax.specs.Lexed.{IsToken}
use Rattle.pb_syntax.proofs.Steps.{Left}
use Rattle.pb_syntax.proofs.path.steps_at.Given as goal

abbrev pub invariant-steps : goal.invariant-steps
invariant-steps l = record { short : small_vec_len l.steps ≤ l.most; begins : l.fn.token.start ≤ l.after.start; next : IsToken l.text l.after; left : Left (steps_of l.most (tokens_at l.text l.fn.token)) (names_of l.steps.items) (l.most - small_vec_len l.steps) (tokens_at l.text l.after) }

abbrev pub decreases-steps : goal.decreases-steps
decreases-steps l = length l.text - l.after.start
