use Rattle.std.proofs.Common.{ap}
use Rattle.pb_slots.specs.Words.{names_of_slots}
use Rattle.pb_run.proofs.Opened.{is_opened, none_out}
use Rattle.pb_run.proofs.recorded.RecordedMachine.open.Goals as goal

pub returns-clause-opens : goal.returns-clause-opens
returns-clause-opens c = λ o is.
    let e = c.in_ok-machine.ensures in
    let m = c.in_ok-machine.machine in
    record {
      recorded = rw c.in_ok-history.ensures.items (is_opened c.args.inventory.now c.args.schedule c.args.forks m o is e.opens e.inventory e.tickets e.calls);
      none_out = none_out c.args.inventory.now c.args.schedule c.args.forks m o is e.opens e.inventory e.tickets e.calls;
      slots = ap names_of_slots e.slots;
    }
