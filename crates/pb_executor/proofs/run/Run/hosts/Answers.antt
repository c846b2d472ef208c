use Rattle.std.proofs.Common.{◌≡◌, length, subst, sym, ◌∙◌}
use Rattle.std.proofs.lemmas.List.{length-map}
use Rattle.pb_inventory.specs.Inventory.{inventory_view}
use Rattle.pb_run.specs.Recorded.{recaps_in}
use Rattle.pb_executor.specs.States.{RunState, opening_for, state_of}
use Rattle.pb_executor.proofs.run.Run.hosts.Goals as goal

pub returns-clause-inventory : goal.returns-clause-inventory
returns-clause-inventory c =
    let a = c.self.inside in
    subst (λ (r : RunState). c.hosts.result ≡ length (inventory_view r.accepted.inventory).hosts) c.self.view_is
    (c.hosts.ensures (opening_for a.checked.now a.forks) c.self.invariant.recorded).1

pub returns-clause-recaps : goal.returns-clause-recaps
returns-clause-recaps c =
    let a = c.self.inside in
    subst (λ (r : RunState). c.hosts.result ≡ length (recaps_in (state_of r))) c.self.view_is
    ((c.hosts.ensures (opening_for a.checked.now a.forks) c.self.invariant.recorded).0 ∙ sym (length-map _ (λ h. h.recap)))
