use Rattle.std.proofs.Common.{◌∙◌, refl}
use Rattle.pb_inventory.specs.Inventory.{inventory_view}
use Rattle.pb_core.proofs.Tickets.{hosts_same}
use Rattle.pb_jobs.specs.Machines.{kept_in}
use Rattle.pb_jobs.proofs.Turns.{active_stopped, kept_stopped}
use Rattle.pb_jobs.proofs.machine.Machine.stop.Goals as goal

pub invariant_of-self : goal.invariant_of-self
invariant_of-self c =
    let old = c.args.self.now in record {
      each_host = old.each_host;
      each_slot = old.each_slot;
      each_constant = old.each_constant;
      each_active = old.each_active;
      each_place = hosts_same old.core c.stop.new.self c.stop.ensures.tickets ∙ old.each_place;
      each_count = old.each_count;
    }

pub returns-clause-stops : goal.returns-clause-stops
returns-clause-stops c = λ reading s is.
    let old = c.args.self.now in (
      λ can. record {
        kept = kept_stopped (kept_in old) c.stop.new.self reading s is.kept c.stop.ensures.stops c.stop.ensures.tickets can;
        batch = active_stopped old.batch reading (inventory_view old.inventory.now) s is.batch;
      },
      λ none. record { inventory = refl; slots = refl; constants = refl; facts = refl; core = (c.stop.ensures.stops reading s is.kept.core).1 none; calls = refl; batch = λ r t m. m.batch },
    )
