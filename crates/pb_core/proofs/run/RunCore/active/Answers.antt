use Rattle.std.proofs.Common.{sym, subst, subst₂}
use Rattle.pb_core.specs.Events.{AreActive}
use Rattle.pb_core.specs.Entries.{AreHere}
use Rattle.pb_core.proofs.Turnings.{active_none, active_by}
use Rattle.pb_core.proofs.run.RunCore.active.Goals as goal

pub returns-in_default-clause-active : goal.returns-in_default-clause-active
returns-in_default-clause-active g c = subst (AreActive c.args.self.now) (sym c.new.ensures.items) (active_none c.args.self.now (sym c.in_default.ensures))

pub returns-clause-active : goal.returns-clause-active
returns-clause-active g c =
    active_by c.args.self.now c.in-Some.batch.now c.in_ok-active.active.items (sym c.in-Some.ensures)
    (subst₂ (λ xs ms. AreHere xs ms c.in_ok-active.active.items) c.deref.ensures.value c.deref-2.ensures.value c.in_ok-active.ensures.active)
