use Rattle.std.proofs.Common.{◌≡◌, length, None, false, not, IfSome, nat_eq, cond, ap, subst, sym, ◌∙◌, refl, arith}
use Rattle.std.proofs.lemmas.Result.{err_from_is_err_and}
use Rattle.pb_language.specs.Give.{last_attempts, written_variables}
use Rattle.pb_language.specs.Machine.{give}
use Rattle.pb_machine.specs.Run.{step}
use Rattle.pb_history.specs.Happens.{step_in}
use Rattle.pb_inventory.specs.Inventory.{inventory_view}
use Rattle.pb_semantics.specs.Data.{put_all}
use Rattle.pb_slots.specs.Words.{names_of_slots}
use Rattle.pb_value.specs.View.{fields_view}
use Rattle.pb_world.specs.Variables.{host_variables}
use Rattle.pb_world.specs.Writes.{slot_fields}
use Rattle.pb_core.specs.Cores.{size_of}
use Rattle.pb_core.specs.Readings.{with_variables}
use Rattle.pb_core.proofs.Tickets.{hosts_stay}
use Rattle.pb_jobs.specs.Active.{IsActiveBatch}
use Rattle.pb_jobs.specs.declared.active.ActiveBatch.{ActiveBatch}
use Rattle.pb_jobs.specs.Machines.{kept_in}
use Rattle.pb_jobs.proofs.Faults.{core_settles, past_settles, unslotted_settles}
use Rattle.pb_jobs.proofs.Gives.{active_settled, active_stays, known_if, reads_written}
use Rattle.pb_jobs.proofs.Seen.{kept_stepped}
use Rattle.pb_jobs.proofs.Worlds.{host_is}
use Rattle.pb_jobs.proofs.machine.Machine.settle.Goals as goal

pub invariant_of-self-2 : goal.invariant_of-self-2
invariant_of-self-2 c =
    let x = c.args.self.now in record {
      each_host = c.write_all.ensures.hosts ∙ x.each_host;
      each_slot = c.write_all.ensures.slots ∙ x.each_slot;
      each_constant = x.each_constant;
      each_active = subst (λ o. IfSome o (λ b. b.hosts.hosts ≡ length (inventory_view x.inventory.now).hosts)) (sym c.forget.ensures)
          (known_if c.has_left.result (λ b. b.hosts.hosts ≡ length (inventory_view x.inventory.now).hosts) (λ b. b.hosts.hosts ≡ length (inventory_view x.inventory.now).hosts) x.batch (λ e b same. same) x.each_active);
      each_place = hosts_stay x.core c.settle.new.self c.args.host None c.in_ok-settle.ensures.tickets ∙ x.each_place;
      each_count = x.each_count;
    }

pub returns-clause-settles : goal.returns-clause-settles
returns-clause-settles c = λ reading s is w xs e.
    let x = c.args.self.now in
    let k = c.args.host in
    let i = inventory_view x.inventory.now in
    let names = names_of_slots x.slots in
    let before = host_variables i.hosts names x.facts in
    let t = (step_in w).task in
    let ended = last_attempts e.results in
    let after = step s (give k xs) in
    let fs = written_variables t ended w.host.variables in
    let new = with_variables k fs reading in
    let core = c.in_ok-settle.ensures.settles reading s is.kept.core w xs e.results e.comes e.last e.notified e.outcome in
    let named : slot_fields names c.in_ok-placed-2.placed.items ≡ fields_view c.args.writes.items =
    c.in_ok-placed-2.ensures.named names ∙ subst (λ o. IfSome o (λ ws. slot_fields names ws.items ≡ fields_view c.args.writes.items)) c.in-Some.is c.in_ok-placed.ensures.named in
    let had : before k ≡ w.host.variables = sym (is.kept.reads.variables k) ∙ sym (host_is (kept_in x) reading s is.kept k w.host w.there).1 in
    let puts : put_all (slot_fields names c.in_ok-placed-2.placed.items) (before k) ≡ fs = ap (λ ws. put_all ws (before k)) named ∙ e.writes (before k) ∙ ap (written_variables t ended) had in
    let reads = reads_written (kept_in x) c.write_all.new.facts reading k fs is.kept.reads (λ j. c.write_all.ensures.variables x.slots i.hosts j (sym x.each_slot) ∙ ap (λ v. cond (nat_eq j k) v (before j)) puts) in
    let stays : c.has_left.result ≡ false → (b : ActiveBatch) → IsActiveBatch reading i s b → IsActiveBatch new i after b =
    λ here. active_stays reading new i s after refl
    (active_settled s k w xs e.results e.comes c.args.outcome.notified.items e.last e.notified (sym (ap not here) ∙ c.has_left.ensures new (size_of after.batches) after.hosts core.hosts)) in
    record {
      reading = new;
      machine = record {
        kept = kept_stepped (kept_in x) c.write_all.new.facts c.settle.new.self reading new s (give k xs) is.kept reads core (hosts_stay x.core c.settle.new.self k None c.in_ok-settle.ensures.tickets);
        batch = subst (λ o. IfSome o (IsActiveBatch new i after)) (sym c.forget.ensures) (known_if c.has_left.result (IsActiveBatch reading i s) (IsActiveBatch new i after) x.batch stays is.batch);
      };
    }

pub returns-then-host-hosts-clause-there : goal.returns-then-host-hosts-clause-there
returns-then-host-hosts-clause-there c = λ e. past_settles c.args.self.now c.args.host c.args.outcome c.args.writes.items (omega (arith, c.if-host-hosts.true, c.hosts.ensures))

pub returns-in_default-clause-there : goal.returns-in_default-clause-there
returns-in_default-clause-there c = λ e. unslotted_settles c.args.self.now c.args.host c.args.outcome c.args.writes.items _ c.in_ok-placed.ensures.found c.in_default.not-Some

pub returns-in_err-settle-clause-there : goal.returns-in_err-settle-clause-there
returns-in_err-settle-clause-there c =
    let p = err_from_is_err_and c.from_residual-in_err-settle.result c.from_residual-in_err-settle.ensures.1 in
    rw (p.1, p.2) (λ e. core_settles c.args.self.now c.args.host c.args.outcome c.args.writes.items (c.in_err-settle.ensures.there e))

pub returns-in_err-settle-clause-full : goal.returns-in_err-settle-clause-full
returns-in_err-settle-clause-full c =
    let p = err_from_is_err_and c.from_residual-in_err-settle.result c.from_residual-in_err-settle.ensures.1 in
    rw (p.1, p.2) (λ e. c.in_err-settle.ensures.full e)
