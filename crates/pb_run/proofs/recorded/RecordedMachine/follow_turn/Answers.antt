use Rattle.std.proofs.Common.{◌++◌, ◌∷◌, [], refl, ap, ◌∙◌}
use Rattle.std.proofs.lemmas.Result.{err_from_is_err_and}
use Rattle.pb_run.specs.declared.event.Event.TheVariants.{Turn}
use Rattle.pb_run.proofs.Faults.{turn_faults, turns_when}
use Rattle.pb_run.proofs.Follows.{follows_no_turn, follows_turn}
use Rattle.pb_run.proofs.Records.{on_err, stays_by}
use Rattle.pb_run.proofs.recorded.RecordedMachine.follow_turn.Goals as goal

pub returns-then-not-can_turn-clause-follows : goal.returns-then-not-can_turn-clause-follows
returns-then-not-can_turn-clause-follows c = follows_no_turn c.args.self.now c.can_turn.result c.can_turn.ensures.turn c.if-not-can_turn.true

pub returns-clause-follows : goal.returns-clause-follows
returns-clause-follows c =
    let e = c.in_ok-turn.ensures in
    let history = c.push_reserved.ensures.items ∙ ap (λ xs. xs ++ Turn ∷ []) c.reserve.ensures.items in
    follows_turn c.args.self.now _ c.can_turn.result c.can_turn.ensures.turn c.if-not-can_turn.false refl history e.turns e.tickets e.counts

pub returns-in_err-turn-clause-err : goal.returns-in_err-turn-clause-err
returns-in_err-turn-clause-err c =
    on_err c.from_residual-in_err-turn.result _ (stays_by c.args.self.now _ c.reserve.ensures.items refl c.in_err-turn.ensures.err)

pub returns-in_err-turn-clause-faults : goal.returns-in_err-turn-clause-faults
returns-in_err-turn-clause-faults c =
    let p = err_from_is_err_and c.from_residual-in_err-turn.result c.from_residual-in_err-turn.ensures.1 in
    let m = c.args.self.now in
    rw (p.1, p.2) (turn_faults m _ (turns_when m.machine.core c.can_turn.result c.can_turn.ensures.turn c.if-not-can_turn.false) c.in_err-turn.ensures.there c.in_err-turn.ensures.full)
