use Rattle.std.proofs.Common.{◌<◌, ◌≤◌, length, false, sym, ap, subst, ◌∙◌, arith}
use Rattle.std.proofs.lemmas.List.{drop_all}
use Rattle.std.proofs.lemmas.Result.{err_from_is_err_and}
use Rattle.pb_core.specs.declared.batch.Schedule.{Schedule}
use Rattle.pb_core.specs.Cores.{scheduled_batches}
use Rattle.pb_core.specs.Entries.{waits_in}
use Rattle.pb_core.specs.Formers.{before_all}
use Rattle.pb_core.specs.Indexes.{HoldsOnly}
use Rattle.pb_core.proofs.Beginnings.{entered_tickets, runs_none}
use Rattle.pb_core.proofs.Formers.{core_back}
use Rattle.pb_core.proofs.Runs.{runs_at}
use Rattle.pb_core.proofs.run.RunCore.begin_batch.Goals as goal

pub returns-then-number-len-clause-runs : goal.returns-then-number-len-clause-runs
returns-then-number-len-clause-runs g c =
    let same = ap (λ (x : Schedule). length x.batches.items) c.schedule.ensures in
    let over : length (scheduled_batches c.args.self.now) ≤ c.args.number = omega (arith, c.if-number-len.true, c.schedule.result.now.batches.ok, same) in
    runs_none c.args.self.now c.args.number c.replace.new.dest (drop_all c.args.number (scheduled_batches c.args.self.now) over) (subst (HoldsOnly (λ place host. false)) (sym c.replace.ensures.after) c.new.ensures)

pub returns-clause-runs : goal.returns-clause-runs
returns-clause-runs g c =
    let same = ap (λ (x : Schedule). length x.batches.items) c.schedule.ensures in
    let few : c.args.number < length (scheduled_batches c.args.self.now) = omega (arith, c.if-number-len.false, c.schedule.result.now.batches.ok, same) in
    runs_at c.args.self.now c.enter.new.hosts c.replace-2.new.dest c.in_ok-entries.entries.items c.args.number few c.in_ok-entries.ensures.entries
    (subst (HoldsOnly (λ place host. waits_in place host c.in_ok-entries.entries.items)) (sym c.replace-2.ensures.after)
    (subst (λ es. HoldsOnly (λ place host. waits_in place host es) c.in_ok-index.index) c.deref.ensures.value c.in_ok-index.ensures)) c.enter.ensures.entered

pub returns-clause-back : goal.returns-clause-back
returns-clause-back g c =
    core_back c.args.self.now c.args.number c.replace-2.new.dest c.enter.new.hosts c.args.formers.now.items c.enter.new.formers.items
    (c.enter.ensures.back ∙ ap (λ fs. before_all fs c.args.self.now.hosts) c.reserve.ensures.items)

pub returns-in_err-entries-clause-there : goal.returns-in_err-entries-clause-there
returns-in_err-entries-clause-there g c =
    let p = err_from_is_err_and c.from_residual.result c.from_residual.ensures.1 in
    rw (p.1, p.2) (λ e. c.in_err-entries.ensures.there e)

pub returns-in_err-entries-clause-full : goal.returns-in_err-entries-clause-full
returns-in_err-entries-clause-full g c =
    let p = err_from_is_err_and c.from_residual.result c.from_residual.ensures.1 in
    rw (p.1, p.2) (λ e. c.in_err-entries.ensures.full e)

pub returns-clause-tickets : goal.returns-clause-tickets
returns-clause-tickets g c = entered_tickets c.in_ok-entries.entries.items c.args.self.now.hosts.items c.enter.new.hosts.items c.enter.ensures.entered
