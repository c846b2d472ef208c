use Rattle.std.proofs.Common.{[], length, None, sym, ap, ◌∙◌}
use Rattle.std.proofs.lemmas.List.{length-replicate}
use Rattle.std.proofs.lemmas.Result.{err_from_is_err_and}
use Rattle.pb_history.proofs.Histories.{inventory_is}
use Rattle.pb_inventory.specs.Inventory.{inventory_view}
use Rattle.pb_facts.specs.Facts.{Held}
use Rattle.pb_core.proofs.Tickets.{tickets_count}
use Rattle.pb_jobs.proofs.Openings.{are_given, opens_not}
use Rattle.pb_jobs.proofs.machine.Machine.open.Goals as goal

pub invariant_of-result : goal.invariant_of-result
invariant_of-result c = record {
  each_host = ap (λ (h : Held). h.hosts) c.in_ok-facts.ensures ∙ c.hosts-hosts.ensures;
  each_slot = ap (λ (h : Held). h.slots) c.in_ok-facts.ensures ∙ c.count.ensures;
  each_constant = c.in_ok-constants.ensures.count;
  each_active = tt;
  each_place = sym (tickets_count c.in_ok-core.core) ∙ ap length c.in_ok-core.ensures.tickets ∙ length-replicate c.hosts-hosts.result None ∙ c.hosts-hosts.ensures;
  each_count = ap length (c.in_ok-calls.ensures.items_if_clones_equal (λ y same. same)) ∙ length-replicate c.hosts-hosts.result 0 ∙ c.hosts-hosts.ensures;
}

pub returns-clause-opens : goal.returns-clause-opens
returns-clause-opens c = λ reading program reads batches. record {
  kept = record {
    reads = reads;
    core = c.in_ok-core.ensures.opens reading program (inventory_view c.args.inventory.now) (are_given _ reading c.hosts-hosts.result c.count.result reads c.in_ok-facts.ensures c.hosts-hosts.ensures) batches;
    inventory = inventory_is program (inventory_view c.args.inventory.now) c.args.forks [];
    constants = c.in_ok-constants.ensures.constants;
    count = sym (tickets_count c.in_ok-core.core) ∙ ap length c.in_ok-core.ensures.tickets ∙ length-replicate c.hosts-hosts.result None ∙ c.hosts-hosts.ensures;
  };
  batch = tt;
}

pub returns-in_err-core-clause-err : goal.returns-in_err-core-clause-err
returns-in_err-core-clause-err c =
    let p = err_from_is_err_and c.from_residual-in_err-core.result c.from_residual-in_err-core.ensures.1 in
    rw (p.1, p.2) (opens_not c.args.schedule _ c.in_err-core.ensures.there c.in_err-core.ensures.full)
