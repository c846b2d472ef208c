use Rattle.std.proofs.Common.{◌≡◌, Option, IfSome, length, ◌∙◌, refl, sym, subst}
use Rattle.pb_inventory.specs.Inventory.{inventory_view}
use Rattle.pb_core.proofs.Tickets.{hosts_same}
use Rattle.pb_jobs.specs.Machines.{kept_in}
use Rattle.pb_jobs.specs.declared.active.ActiveBatch.{ActiveBatch}
use Rattle.pb_jobs.proofs.Turns.{kept_turned}
use Rattle.pb_jobs.proofs.machine.Machine.turn_all.Goals as goal

pub invariant_of-self-2 : goal.invariant_of-self-2
invariant_of-self-2 c =
    let old = c.args.self.now in record {
      each_host = old.each_host;
      each_slot = old.each_slot;
      each_constant = old.each_constant;
      each_active = subst (λ (o : Option ActiveBatch). IfSome o (λ b. b.hosts.hosts ≡ length (inventory_view old.inventory.now).hosts)) (sym c.know.ensures) tt;
      each_place = hosts_same old.core c.turn_all.new.self c.in_ok-turned.ensures.tickets ∙ old.each_place;
      each_count = old.each_count;
    }

pub returns-clause-turns : goal.returns-clause-turns
returns-clause-turns c =
    let e = c.in_ok-turned.ensures in record {
      core = e.turns;
      machine = λ reading s is. record {
        kept = kept_turned (kept_in c.args.self.now) c.turn_all.new.self reading s c.in_ok-turned.turned.turns is.kept e.turns.turns e.tickets;
        batch = rw c.know.ensures tt;
      };
      tickets = e.tickets;
      calls = refl;
      slots = refl;
    }

pub returns-clause-back : goal.returns-clause-back
returns-clause-back c = record {
  inventory = refl;
  slots = refl;
  constants = refl;
  facts = refl;
  core = sym c.in_ok-turned.ensures.back;
  calls = refl;
}
