use Rattle.std.proofs.Common.{◌≤◌, ◌∙◌, length, refl, ap, subst, arith}
use Rattle.std.proofs.lemmas.List.{drop_all}
use Rattle.std.proofs.lemmas.Result.{err_from_is_err_and}
use Rattle.pb_core.specs.declared.batch.Schedule.{Schedule}
use Rattle.pb_core.specs.Cores.{AreOfNoProgram}
use Rattle.pb_core.proofs.Runs.{opens_by}
use Rattle.pb_core.proofs.Tickets.{fresh_tickets}
use Rattle.pb_core.proofs.run.RunCore.open.Goals as goal

pub returns-clause-opens : goal.returns-clause-opens
returns-clause-opens g c =
    let is = c.in_ok-schedule.ensures in
    let same = ap (λ (x : Schedule). length x.batches.items) is in
    let over : length c.in_ok-schedule.schedule.value.batches.items ≤ c.len-current.result = omega (arith, c.args.batches.ok, same) in
    opens_by c.args.plays.items c.args.batches.items c.args.hosts c.args.forks _ c.begin_batch.new.self (ap (λ (x : Schedule). x.plays.items) is) (ap (λ (x : Schedule). x.batches.items) is) refl refl refl
    (drop_all c.len-current.result c.in_ok-schedule.schedule.value.batches.items over)
    c.in_ok-hosts.ensures.fresh c.in_ok-hosts.ensures.count c.new.ensures c.in_ok-begin_batch.ensures.runs

pub returns-in_err-begin_batch-clause-there : goal.returns-in_err-begin_batch-clause-there
returns-in_err-begin_batch-clause-there g c =
    let p = err_from_is_err_and c.from_residual-in_err-begin_batch.result c.from_residual-in_err-begin_batch.ensures.1 in
    rw (p.1, p.2) (λ e. subst (λ (x : Schedule). AreOfNoProgram x.plays.items x.batches.items) c.in_ok-schedule.ensures (c.in_err-begin_batch.ensures.there e))

pub returns-in_err-begin_batch-clause-full : goal.returns-in_err-begin_batch-clause-full
returns-in_err-begin_batch-clause-full g c =
    let p = err_from_is_err_and c.from_residual-in_err-begin_batch.result c.from_residual-in_err-begin_batch.ensures.1 in
    rw (p.1, p.2) (λ e. c.in_err-begin_batch.ensures.full e)

pub returns-clause-tickets : goal.returns-clause-tickets
returns-clause-tickets g c = c.in_ok-begin_batch.ensures.tickets ∙ fresh_tickets c.in_ok-hosts.hosts.items c.args.hosts c.in_ok-hosts.ensures.fresh c.in_ok-hosts.ensures.count
