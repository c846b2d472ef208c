use Rattle.std.proofs.Common.{◌≡◌, ◌++◌, ◌∷◌, [], ◌+◌, length, refl, ap, ◌∙◌, arith}
use Rattle.std.proofs.lemmas.Result.{err_from_is_err_and}
use Rattle.pb_run.specs.declared.event.Event.TheVariants.{Start}
use Rattle.pb_run.proofs.Faults.{begin_faults}
use Rattle.pb_run.proofs.Records.{on_err, starts_job, stays_by}
use Rattle.pb_run.proofs.recorded.RecordedMachine.begin.Goals as goal

pub returns-in_err-calls-clause-err : goal.returns-in_err-calls-clause-err
returns-in_err-calls-clause-err c =
    on_err c.from_residual-in_err-calls.result _ (stays_by c.args.self.now _ c.reserve.ensures.items refl c.in_err-calls.ensures.err)

pub returns-in_err-calls-clause-faults : goal.returns-in_err-calls-clause-faults
returns-in_err-calls-clause-faults c =
    let p = err_from_is_err_and c.from_residual-in_err-calls.result c.from_residual-in_err-calls.ensures.1 in
    let m = c.args.self.now in
    rw (p.1, p.2) (begin_faults m m.machine 0 c.args.host (λ reading s is. is) refl c.requires.ready _ c.in_err-calls.ensures.there c.in_err-calls.ensures.full)

pub returns-clause-starts : goal.returns-clause-starts
returns-clause-starts c =
    let e = c.in_ok-calls.ensures in
    let history = c.push_reserved.ensures.items ∙ ap (λ xs. xs ++ Start c.args.host ∷ []) c.reserve.ensures.items in
    let place : c.len-ticket.result ≡ length c.args.self.now.history.items + 0 = omega (arith, c.len-ticket.ensures, c.args.self.now.history.ok) in
    starts_job c.args.self.now _ 0 c.args.host _ c.requires.going c.requires.going history refl place e.begins e.tickets e.counts
