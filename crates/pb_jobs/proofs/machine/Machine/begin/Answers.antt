use Rattle.std.proofs.Common.{◌≡◌, Option, Some, IfSome, length, get_or, ◌∙◌, refl, ap, subst, arith}
use Rattle.std.proofs.lemmas.List.{length-set}
use Rattle.std.proofs.lemmas.Result.{err_from_is_err_and}
use Rattle.pb_inventory.specs.Inventory.{inventory_view}
use Rattle.pb_core.proofs.Tickets.{hosts_stay}
use Rattle.pb_jobs.specs.Active.{IsActiveBatch}
use Rattle.pb_jobs.specs.declared.active.ActiveBatch.{ActiveBatch}
use Rattle.pb_jobs.proofs.Begins.{has_begun}
use Rattle.pb_jobs.proofs.Faults.{calls_past, core_past, disabled_begins, no_task_begins, scene_past}
use Rattle.pb_jobs.proofs.Seen.{machine_same}
use Rattle.pb_jobs.proofs.machine.Machine.begin.Goals as goal

-- the active hosts are known by then
pub returns-clause-begins : goal.returns-clause-begins
returns-clause-begins c = λ reading s is m fine.
    let old = c.look.new.self in
    let begun = c.in_ok-passes.field-0 in
    let now = machine_same c.args.self.now old reading s c.look.ensures.same is in
    let active = subst (λ (o : Option ActiveBatch). IfSome o (IsActiveBatch reading (inventory_view old.inventory.now) s)) c.in-Some.is now.batch in
    let many = subst (λ (o : Option ActiveBatch). IfSome o (λ b. b.hosts.hosts ≡ length (inventory_view old.inventory.now).hosts)) c.in-Some.is old.each_active in
    has_begun old _ old.core c.in-Some.batch c.scene.result begun reading s c.args.host c.args.ticket c.len-2.result _ now.kept active many c.scene.ensures c.in_ok-passes.ensures.starts
    (ap (λ cs. get_or cs c.args.host 0) (c.scene.ensures.calls ∙ ap (λ v. v.items) c.look.ensures.same.calls))
    c.in_ok-begin.ensures.begins (omega (arith, c.len-2.ensures, begun.calls.ok)) c.in_ok-begin.ensures.tickets refl c.in-Some.is m fine

pub invariant_of-self-2 : goal.invariant_of-self-2
invariant_of-self-2 c =
    let old = c.look.new.self in record {
      each_host = old.each_host;
      each_slot = old.each_slot;
      each_constant = old.each_constant;
      each_active = old.each_active;
      each_place = hosts_stay old.core c.begin.new.self c.args.host (Some c.args.ticket) c.in_ok-begin.ensures.tickets ∙ old.each_place;
      each_count = length-set old.calls.items c.args.host c.in-Some-total.total ∙ old.each_count;
    }

pub returns-in_err-passes-clause-there : goal.returns-in_err-passes-clause-there
returns-in_err-passes-clause-there c =
    let p = err_from_is_err_and c.from_residual-in_err-passes.result c.from_residual-in_err-passes.ensures.1 in
    rw (p.1, p.2) (λ e. no_task_begins c.args.self.now c.look.new.self c.in-Some.batch c.scene.result c.look.ensures.same c.in-Some.is c.scene.ensures c.args.host (c.in_err-passes.ensures.there e))

pub returns-in_err-passes-clause-full : goal.returns-in_err-passes-clause-full
returns-in_err-passes-clause-full c =
    let p = err_from_is_err_and c.from_residual-in_err-passes.result c.from_residual-in_err-passes.ensures.1 in
    rw (p.1, p.2) (λ e. scene_past c.args.self.now c.look.new.self c.in-Some.batch c.scene.result c.look.ensures.same c.in-Some.is c.scene.ensures c.args.host (c.in_err-passes.ensures.full e))

pub returns-in_default-total-clause-full : goal.returns-in_default-total-clause-full
returns-in_default-total-clause-full c = λ e.
    let begun = c.in_ok-passes.field-0 in
    calls_past c.args.self.now c.look.new.self c.in-Some.batch c.scene.result c.look.ensures.same c.in-Some.is c.scene.ensures c.args.host begun c.in_ok-passes.ensures.starts (omega (arith, c.in_default-total.ensures.full refl, c.len.ensures, begun.calls.ok))

pub returns-in_err-begin-clause-there : goal.returns-in_err-begin-clause-there
returns-in_err-begin-clause-there c =
    let p = err_from_is_err_and c.from_residual-in_err-begin.result c.from_residual-in_err-begin.ensures.1 in
    rw (p.1, p.2) (λ e. disabled_begins c.args.self.now c.look.new.self c.in-Some.batch c.scene.result c.look.ensures.same c.in-Some.is c.scene.ensures c.args.host (c.in_err-begin.ensures.there e))

pub returns-in_err-begin-clause-full : goal.returns-in_err-begin-clause-full
returns-in_err-begin-clause-full c =
    let p = err_from_is_err_and c.from_residual-in_err-begin.result c.from_residual-in_err-begin.ensures.1 in
    let begun = c.in_ok-passes.field-0 in
    rw (p.1, p.2) (λ e. core_past c.args.self.now c.look.new.self c.in-Some.batch c.scene.result c.look.ensures.same c.in-Some.is c.scene.ensures c.args.host begun c.len-2.result c.in_ok-passes.ensures.starts (omega (arith, c.len-2.ensures, begun.calls.ok)) (c.in_err-begin.ensures.full e))
