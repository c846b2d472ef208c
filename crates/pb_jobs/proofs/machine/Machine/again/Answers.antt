use Rattle.std.proofs.Common.{◌≡◌, false, length, Some, ap, subst, ◌∙◌, IfSome, refl, get_or, arith}
use Rattle.std.proofs.lemmas.List.{length-set}
use Rattle.std.proofs.lemmas.Result.{err_from_is_err_and}
use Rattle.pb_language.specs.Cases.{action_name}
use Rattle.pb_language.specs.Machine.{give}
use Rattle.pb_machine.specs.Run.{step}
use Rattle.pb_history.specs.Happens.{step_in}
use Rattle.pb_history.specs.Jobs.{pass_calls}
use Rattle.pb_inventory.specs.Inventory.{inventory_view}
use Rattle.pb_core.proofs.Tickets.{hosts_stay}
use Rattle.pb_jobs.specs.Active.{IsActiveBatch}
use Rattle.pb_jobs.specs.Machines.{kept_in}
use Rattle.pb_jobs.proofs.Faults.{again_off, calls_again, core_again, not_out_again, scene_again}
use Rattle.pb_jobs.proofs.Gives.{active_again, active_stays, known_if}
use Rattle.pb_jobs.proofs.Seen.{kept_stepped, scene_is}
use Rattle.pb_jobs.proofs.machine.Machine.again.Goals as goal

pub invariant_of-self-2 : goal.invariant_of-self-2
invariant_of-self-2 c =
    let x = c.args.self.now in record {
      each_host = x.each_host;
      each_slot = x.each_slot;
      each_constant = x.each_constant;
      each_active = x.each_active;
      each_place = hosts_stay x.core c.again.new.self c.args.host (Some c.args.ticket) c.in_ok-again.ensures.tickets ∙ x.each_place;
      each_count = length-set x.calls.items c.args.host c.in-Some-total.total ∙ x.each_count;
    }

pub returns-clause-repeats : goal.returns-clause-repeats
returns-clause-repeats c = λ reading s is w xs again.
    let x = c.args.self.now in
    let after = step s (give c.args.host xs) in
    let active = subst (λ o. IfSome o (IsActiveBatch reading (inventory_view x.inventory.now) s)) c.in-Some.is is.batch in
    let count = subst (λ o. IfSome o (λ b. b.hosts.hosts ≡ length (inventory_view x.inventory.now).hosts)) c.in-Some.is x.each_active in
    let seen = scene_is x x.core c.in-Some.batch c.scene.result reading s is.kept c.scene.ensures active count in (
      record {
        reading = reading;
        machine = record {
          kept = kept_stepped (kept_in x) x.facts c.again.new.self reading reading s (give c.args.host xs) is.kept is.kept.reads (c.in_ok-again.ensures.repeats reading s is.kept.core w xs again.0 again.1 again.2) (hosts_stay x.core c.again.new.self c.args.host (Some c.args.ticket) c.in_ok-again.ensures.tickets);
          batch = known_if false (IsActiveBatch reading (inventory_view x.inventory.now) s) (IsActiveBatch reading (inventory_view x.inventory.now) after) x.batch
              (λ e. active_stays reading reading (inventory_view x.inventory.now) s after refl (active_again s c.args.host w xs again.0 again.1 again.2)) is.batch;
        };
      },
      c.in_ok-calls.ensures.repeats reading s seen w
          ∙ ap (λ cs. pass_calls c.args.host w.host.name (action_name (step_in w).task.action) w.passes (get_or cs c.args.host 0)) c.scene.ensures.calls,
    )

pub returns-in_err-calls-clause-there : goal.returns-in_err-calls-clause-there
returns-in_err-calls-clause-there c =
    let p = err_from_is_err_and c.from_residual.result c.from_residual.ensures.1 in
    rw (p.1, p.2) (λ e. not_out_again c.args.self.now c.in-Some.batch c.scene.result c.in-Some.is c.scene.ensures c.args.host (c.in_err-calls.ensures.there e))

pub returns-in_err-calls-clause-full : goal.returns-in_err-calls-clause-full
returns-in_err-calls-clause-full c =
    let p = err_from_is_err_and c.from_residual.result c.from_residual.ensures.1 in
    rw (p.1, p.2) (λ e. scene_again c.args.self.now c.in-Some.batch c.scene.result c.in-Some.is c.scene.ensures c.args.host (c.in_err-calls.ensures.full e))

pub returns-in_default-total-clause-full : goal.returns-in_default-total-clause-full
returns-in_default-total-clause-full c = λ e.
    calls_again c.args.self.now c.in-Some.batch c.scene.result c.in-Some.is c.scene.ensures c.args.host c.in_ok-calls.calls.items c.in_ok-calls.ensures.repeats (omega (arith, c.in_default-total.ensures.full refl, c.len.ensures, c.in_ok-calls.calls.ok))

pub returns-in_err-again-clause-there : goal.returns-in_err-again-clause-there
returns-in_err-again-clause-there c =
    let p = err_from_is_err_and c.from_residual-in_err-again.result c.from_residual-in_err-again.ensures.1 in
    rw (p.1, p.2) (λ e. again_off c.args.self.now c.args.host (c.in_err-again.ensures.there e))

pub returns-in_err-again-clause-full : goal.returns-in_err-again-clause-full
returns-in_err-again-clause-full c =
    let p = err_from_is_err_and c.from_residual-in_err-again.result c.from_residual-in_err-again.ensures.1 in
    rw (p.1, p.2) (λ e. core_again c.args.self.now c.args.host (c.in_err-again.ensures.full e))
