use Rattle.std.proofs.Common.{ap, refl, subst, sym}
use Rattle.pb_hosts.proofs.Distinct.{distinct_hosts}
use Rattle.pb_inventory.specs.Inventory.{inventory_view}
use Rattle.pb_run.specs.Recorded.{IsOpened}
use Rattle.pb_executor.specs.Inside.{AllNamed}
use Rattle.pb_executor.specs.States.{opening_for}
use Rattle.pb_executor.proofs.Insides.{opens_memory}
use Rattle.pb_executor.proofs.run.Run.open.Goals as goal

is_opened : (c : goal.In-Ok) → IsOpened (opening_for c.args.checked.now c.args.forks) c.in_ok-slots.field-0.slots c.in-Ok.recorded
is_opened c =
    c.in-Ok.ensures.opens (opening_for c.args.checked.now c.args.forks) (record {
      inventory = ap inventory_view (sym c.inventory-inventory.ensures);
      forks_are = refl;
      distinct = distinct_hosts c.args.checked.now.inventory;
      batches = c.in_ok-slots.ensures.batches;
    })

pub refused_by-requires : goal.refused_by-requires
refused_by-requires c = opens_memory c.args.checked.now c.in_ok-slots.field-0.schedule c.in_ok-slots.ensures.batches c.in-Err.fault c.in-Err.ensures.err

pub invariant_of-result : goal.invariant_of-result
invariant_of-result c = record {
  accepted = c.budget-budget.ensures.accepted;
  recorded = (is_opened c).recorded;
  forks = c.requires;
  slots = subst (AllNamed c.args.checked.now) (sym (is_opened c).slots) c.in_ok-slots.ensures.whole;
}

pub returns-in-Ok-clause-none_out : goal.returns-in-Ok-clause-none_out
returns-in-Ok-clause-none_out c = λ k. rw c.in-Ok.ensures.none ((is_opened c).none_out k)
