use Rattle.std.proofs.Common.{◌<◌, ◌≤◌, length, inl, inr, refl, ap, sym, ◌∙◌, arith}
use Rattle.pb_core.specs.Cores.{job_in}
use Rattle.pb_core.specs.Hosts.{job_of}
use Rattle.pb_core.proofs.Hosts.{there, past, same_item}
use Rattle.pb_core.proofs.Cores.{tickets_again, repeats_by, cannot_give, missing_runs, no_job_runs}
use Rattle.pb_core.proofs.run.RunCore.again.Goals as goal

pub returns-clause-repeats : goal.returns-clause-repeats
returns-clause-repeats g c =
    let within : c.args.host < length c.args.self.now.hosts.items = omega (arith, c.if-host-len.false, c.args.self.now.hosts.ok) in
    let same = same_item c.args.self.now.hosts.items c.args.host c.index_mut.result.now c.index.result.now within c.index_mut.ensures.value c.index.ensures in
    repeats_by c.args.self.now _ c.args.host c.in-Some.attempts c.in-Some.calls c.in-Some-checked_add.handed c.args.ticket c.in-Some-checked_add-2.times c.index_mut.result.now _ _
    (there c.args.self.now.hosts.items c.args.host c.index_mut.result.now within c.index_mut.ensures.value) refl c.repeat.ensures
    (ap (λ x. job_of x.stage) same ∙ sym c.in-Some.ensures) c.in-Some-checked_add-2.ensures.1 c.in-Some-checked_add.ensures.1

pub returns-then-host-len-clause-there : goal.returns-then-host-len-clause-there
returns-then-host-len-clause-there g c = λ e.
    let over : length c.args.self.now.hosts.items ≤ c.args.host = omega (arith, c.if-host-len.true, c.args.self.now.hosts.ok) in
    cannot_give c.args.self.now c.args.host (missing_runs c.args.self.now c.args.host (past c.args.self.now.hosts.items c.args.host over))

pub returns-in_default-clause-there : goal.returns-in_default-clause-there
returns-in_default-clause-there g c = λ e.
    let within : c.args.host < length c.args.self.now.hosts.items = omega (arith, c.if-host-len.false, c.args.self.now.hosts.ok) in
    cannot_give c.args.self.now c.args.host (no_job_runs c.args.self.now c.args.host c.index.result.now (there c.args.self.now.hosts.items c.args.host c.index.result.now within c.index.ensures) (sym c.in_default.ensures))

pub returns-clause-tickets : goal.returns-clause-tickets
returns-clause-tickets g c =
    let within : c.args.host < length c.args.self.now.hosts.items = omega (arith, c.if-host-len.false, c.args.self.now.hosts.ok) in
    let same = same_item c.args.self.now.hosts.items c.args.host c.index_mut.result.now c.index.result.now within c.index_mut.ensures.value c.index.ensures in
    tickets_again c.args.self.now.hosts.items c.args.host c.args.ticket c.in-Some-checked_add-2.times c.index_mut.result.now.stage (c.in-Some.attempts, c.in-Some.calls) _
    (ap (λ x. job_of x.stage) same ∙ sym c.in-Some.ensures) c.repeat.ensures

pub returns-in_default-checked_add-clause-full : goal.returns-in_default-checked_add-clause-full
returns-in_default-checked_add-clause-full g c = λ e.
    let within : c.args.host < length c.args.self.now.hosts.items = omega (arith, c.if-host-len.false, c.args.self.now.hosts.ok) in (
      (c.in-Some.attempts, c.in-Some.calls),
      ap job_in (there c.args.self.now.hosts.items c.args.host c.index.result.now within c.index.ensures) ∙ sym c.in-Some.ensures,
      inr (omega (arith, c.in_default-checked_add.ensures)),
    )

pub returns-in_default-checked_add-2-clause-full : goal.returns-in_default-checked_add-2-clause-full
returns-in_default-checked_add-2-clause-full g c = λ e.
    let within : c.args.host < length c.args.self.now.hosts.items = omega (arith, c.if-host-len.false, c.args.self.now.hosts.ok) in (
      (c.in-Some.attempts, c.in-Some.calls),
      ap job_in (there c.args.self.now.hosts.items c.args.host c.index.result.now within c.index.ensures) ∙ sym c.in-Some.ensures,
      inl (omega (arith, c.in_default-checked_add-2.ensures)),
    )
