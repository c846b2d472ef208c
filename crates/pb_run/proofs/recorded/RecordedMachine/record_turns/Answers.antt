use Rattle.std.proofs.Common.{◌++◌, replicate, refl, ap, ◌∙◌}
use Rattle.pb_run.specs.declared.event.Event.TheVariants.{Turn}
use Rattle.pb_run.proofs.Behind.{same_machine}
use Rattle.pb_run.proofs.Records.{goes_on_by, on_err}
use Rattle.pb_run.proofs.recorded.RecordedMachine.record_turns.Goals as goal

pub returns-clause-goes : goal.returns-clause-goes
returns-clause-goes c = λ old turned.
    let n = c.args.turns in
    let history = c.push_turns.ensures.items ∙ ap (λ xs. xs ++ replicate n Turn) (c.make_room.ensures.items ∙ turned.history) in
    goes_on_by old _ n turned.stopped history turned.machine.machine turned.machine.tickets (record {
      calls = turned.machine.calls;
      slots = turned.machine.slots;
    })

pub returns-in_err-make_room-clause-err : goal.returns-in_err-make_room-clause-err
returns-in_err-make_room-clause-err c =
    on_err c.from_residual.result _ (record {
      history = c.make_room.ensures.items;
      stopped = refl;
      machine = same_machine c.args.self.now.machine;
    })
