use Rattle.std.proofs.Common.{ℕ, Option, sym, subst}
use Rattle.pb_core.specs.Indexes.{GoesOnIn}
use Rattle.pb_core.specs.declared.index.ReadyIndex.{ReadyIndex}
use Rattle.pb_core.proofs.Indexes.{goes_on_in, leaves_on}
use Rattle.pb_core.proofs.index.ReadyIndex.go_on.Goals as goal

pub returns-in_ok-put_in-in-Some-clause-goes : goal.returns-in_ok-put_in-in-Some-clause-goes
returns-in_ok-put_in-in-Some-clause-goes c =
    let new : ReadyIndex = record { waiting = c.put_in.new.places; running = c.take_out.new.places } in
    subst (λ (o : Option ℕ). GoesOnIn c.args.host c.args.from o c.args.self.now new) (sym c.in-Some.is)
    (goes_on_in c.args.self.now c.args.host c.args.from c.take_out.new.places c.take_out.ensures c.put_in.new.places c.in-Some.place c.in_ok-put_in-in-Some.ensures.put)

pub returns-in-None-clause-goes : goal.returns-in-None-clause-goes
returns-in-None-clause-goes c =
    subst (λ (o : Option ℕ). GoesOnIn c.args.host c.args.from o c.args.self.now c.leave.new.self) (sym c.in-None.is)
    (leaves_on c.args.host c.args.from c.args.self.now c.leave.new.self c.leave.ensures)
