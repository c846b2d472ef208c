use Rattle.std.proofs.Common.{◌≡◌, Option, IfSome, length, ◌∙◌, refl, sym, subst}
use Rattle.pb_inventory.specs.Inventory.{inventory_view}
use Rattle.pb_core.proofs.Tickets.{hosts_same}
use Rattle.pb_jobs.specs.declared.active.ActiveBatch.{ActiveBatch}
use Rattle.pb_jobs.proofs.machine.Machine.turn_back.Goals as goal

pub invariant_of-self : goal.invariant_of-self
invariant_of-self c =
    let old = c.args.self.now in record {
      each_host = old.each_host;
      each_slot = old.each_slot;
      each_constant = old.each_constant;
      each_active = subst (λ (o : Option ActiveBatch). IfSome o (λ b. b.hosts.hosts ≡ length (inventory_view old.inventory.now).hosts)) (sym c.know.ensures) tt;
      each_place = hosts_same old.core c.turn_back.new.self c.turn_back.ensures.tickets ∙ old.each_place;
      each_count = old.each_count;
    }

pub returns-clause-back : goal.returns-clause-back
returns-clause-back c = record {
  inventory = refl;
  slots = refl;
  constants = refl;
  facts = refl;
  core = c.turn_back.ensures.back;
  calls = refl;
}
