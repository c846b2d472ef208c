use Rattle.std.proofs.Common.{refl}
use Rattle.pb_inventory.specs.Inventory.{inventory_view}
use Rattle.pb_jobs.proofs.machine.Machine.look.Goals as goal

pub returns : goal.returns
returns c = record {
  same = record {
    inventory = refl;
    slots = refl;
    constants = refl;
    facts = refl;
    core = refl;
    calls = refl;
    batch = λ reading s m. rw c.know.ensures (c.in_ok-batch.ensures.active reading (inventory_view c.args.self.now.inventory.now) s m.kept.constants m.kept.core);
  };
  known = rw c.know.ensures refl;
}
