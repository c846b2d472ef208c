use Rattle.std.proofs.Common.{◌≡◌, ◌++◌, ◌∷◌, [], ◌+◌, length, replicate, refl, sym, ap, ◌∙◌, append_assoc, arith}
use Rattle.std.proofs.lemmas.Result.{err_from_is_err_and}
use Rattle.pb_run.specs.declared.event.Event.TheVariants.{Start, Turn}
use Rattle.pb_run.proofs.Behind.{begins_after, counts_after, same_machine, tickets_after}
use Rattle.pb_run.proofs.Faults.{begin_faults}
use Rattle.pb_run.proofs.Records.{on_err, starts_job}
use Rattle.pb_run.proofs.recorded.RecordedMachine.begin_behind.Goals as goal

pub returns-clause-starts : goal.returns-clause-starts
returns-clause-starts c = λ old turned.
    let e = c.in_ok-calls.ensures in
    let n = c.args.turns in
    let k = c.args.host in
    let es = c.args.self.now.history.items in
    let history = c.push_reserved.ensures.items
    ∙ ap (λ xs. xs ++ Start k ∷ []) (c.push_turns.ensures.items ∙ ap (λ xs. xs ++ replicate n Turn) (c.make_room.ensures.items ∙ turned.history))
    ∙ append_assoc old.history.items (replicate n Turn) (Start k ∷ []) in
    let place : c.len.result + n ≡ length old.history.items + n = omega (arith, c.len.ensures, c.make_room.new.history.ok, ap length c.make_room.ensures.items, ap length turned.history) in
    let m = c.args.self.now.machine in
    let new = c.begin.new.self in
    starts_job old _ n k _ (sym turned.stopped ∙ c.requires.going) c.requires.going history refl place
    (begins_after n k old.machine m new turned.machine _ e.begins) (tickets_after n k old.machine m new turned.machine _ e.tickets) (counts_after n k old.machine m new turned.machine _ e.counts)

pub returns-in_err-make_room-clause-err : goal.returns-in_err-make_room-clause-err
returns-in_err-make_room-clause-err c =
    on_err c.from_residual.result _ (record {
      history = c.make_room.ensures.items;
      stopped = refl;
      machine = same_machine c.args.self.now.machine;
    })

pub returns-in_err-calls-clause-err : goal.returns-in_err-calls-clause-err
returns-in_err-calls-clause-err c =
    on_err c.from_residual-in_err-calls.result _ (record {
      history = c.make_room.ensures.items;
      stopped = refl;
      machine = c.in_err-calls.ensures.err;
    })

pub returns-in_err-calls-clause-faults : goal.returns-in_err-calls-clause-faults
returns-in_err-calls-clause-faults c =
    let p = err_from_is_err_and c.from_residual-in_err-calls.result c.from_residual-in_err-calls.ensures.1 in
    rw (p.1, p.2) (λ old turned.
    begin_faults old c.args.self.now.machine c.args.turns c.args.host turned.machine.machine turned.machine.calls c.requires.ready _ c.in_err-calls.ensures.there c.in_err-calls.ensures.full)
