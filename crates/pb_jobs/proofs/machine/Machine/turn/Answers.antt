use Rattle.std.proofs.Common.{◌≡◌, Option, IfSome, length, ◌∙◌, sym, subst}
use Rattle.pb_inventory.specs.Inventory.{inventory_view}
use Rattle.pb_core.proofs.Tickets.{hosts_same}
use Rattle.pb_jobs.specs.Machines.{kept_in}
use Rattle.pb_jobs.specs.declared.active.ActiveBatch.{ActiveBatch}
use Rattle.pb_jobs.proofs.Turns.{kept_turn}
use Rattle.pb_jobs.proofs.machine.Machine.turn.Goals as goal

pub returns-clause-turns : goal.returns-clause-turns
returns-clause-turns c = λ reading s is on. record {
  kept = kept_turn (kept_in c.args.self.now) c.turn.new.self reading s is.kept c.in_ok-turn.ensures.turns c.in_ok-turn.ensures.tickets on;
  batch = rw c.know.ensures tt;
}

pub invariant_of-self-2 : goal.invariant_of-self-2
invariant_of-self-2 c =
    let old = c.args.self.now in record {
      each_host = old.each_host;
      each_slot = old.each_slot;
      each_constant = old.each_constant;
      each_active = subst (λ (o : Option ActiveBatch). IfSome o (λ b. b.hosts.hosts ≡ length (inventory_view old.inventory.now).hosts)) (sym c.know.ensures) tt;
      each_place = hosts_same old.core c.turn.new.self c.in_ok-turn.ensures.tickets ∙ old.each_place;
      each_count = old.each_count;
    }
