use Rattle.std.proofs.lemmas.Result.{err_from_is_err_and}
use Rattle.pb_core.proofs.Runs.{turns_by, turn_off, next_play}
use Rattle.pb_core.proofs.run.RunCore.turn_from.Goals as goal

pub returns-clause-turns : goal.returns-clause-turns
returns-clause-turns g c = turns_by c.args.self.now c.next_batch-next.result c.begin_batch.new.self c.next_batch-next.ensures.leads c.in_ok-index.ensures.runs

pub returns-then-not-can_turn-clause-there : goal.returns-then-not-can_turn-clause-there
returns-then-not-can_turn-clause-there g c = λ e. turn_off c.args.self.now c.can_turn.result c.can_turn.ensures.turn c.if-not-can_turn.true

pub returns-in_err-index-clause-there : goal.returns-in_err-index-clause-there
returns-in_err-index-clause-there g c =
    let p = err_from_is_err_and c.from_residual.result c.from_residual.ensures.1 in
    rw (p.1, p.2) (λ e. next_play c.args.self.now c.next_batch-next.result c.next_batch-next.ensures.leads (c.in_err-index.ensures.there e))

pub returns-in_err-index-clause-full : goal.returns-in_err-index-clause-full
returns-in_err-index-clause-full g c =
    let p = err_from_is_err_and c.from_residual.result c.from_residual.ensures.1 in
    rw (p.1, p.2) (λ e. c.in_err-index.ensures.full e)
