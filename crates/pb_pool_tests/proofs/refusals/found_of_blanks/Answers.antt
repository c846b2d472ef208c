use Rattle.std.proofs.Common.{◌≡◌, ◌∙◌, ℕ, List, [], ap, arith, subst, sym}
use Rattle.pb_executor.specs.Words.{RunState, opened}
use Rattle.pb_pool.specs.Kept.{AllTold, AnswerRule, OpeningRule}
use Rattle.pb_run.specs.declared.event.Event.{Event}
use Rattle.pb_verify.specs.declared.checked.Accepted.{Accepted}
use Rattle.pb_pool_tests.proofs.refusals.found_of_blanks.Goals as goal

-- nothing was answered where nothing has happened
none_told : (told : AnswerRule) → AllTold told []
none_told told i e at = cc

-- a fresh run may stand at a board of a rule that allows each run
may_stand : (of : OpeningRule) (told : AnswerRule) (a : Accepted) (r : RunState)
    → ((b : Accepted) (f : ℕ) (es : List Event) → of b f es) → r ≡ opened a 2
    → of r.accepted r.forks r.history × AllTold told r.history
may_stand of told a r free fresh =
    let empty : r.history ≡ [] = ap (λ s. s.history) fresh in
    (free _ _ _, subst (AllTold told) (sym empty) (none_told told))

pub open-requires-clause-rule : goal.open-requires-clause-rule
open-requires-clause-rule g c =
    may_stand g.P.Rule.of g.P.Rule.told _ _ c.requires.free c.in_ok-run.ensures

-- the run that came back is the fresh one
pub found_over-requires-clause-rule : goal.found_over-requires-clause-rule
found_over-requires-clause-rule g c =
    let fresh = c.in-Err.ensures.back ∙ c.in_ok-run.ensures in
    may_stand g.P.Rule.of g.P.Rule.told _ _ c.requires.free fresh

-- a run that is dropped has a row of slots for each host; asked one by one, what else its machine
-- keeps goes by itself
pub invariant_of-run-inside-clause-each_host : goal.invariant_of-run-inside-clause-each_host
invariant_of-run-inside-clause-each_host g c = omega arith
