use Rattle.std.proofs.Common.{◌≡◌, sym, ap, subst₂, ◌∙◌, get_or}
use Rattle.pb_core.specs.declared.batch.Schedule.{Schedule}
use Rattle.pb_core.specs.Cores.{scheduled_batches}
use Rattle.pb_core.specs.Entries.{AreEntries}
use Rattle.pb_core.proofs.Hosts.{there}
use Rattle.pb_core.proofs.Runs.{no_play_at, entries_at}
use Rattle.pb_core.proofs.run.RunCore.entries_at.Goals as goal

pub returns-in_default-clause-there : goal.returns-in_default-clause-there
returns-in_default-clause-there g c = λ e. no_play_at c.args.self.now c.args.number c.requires (sym c.in_default.ensures)

pub returns-clause-entries : goal.returns-clause-entries
returns-clause-entries g c =
    let is : c.index.result.now ≡ get_or (scheduled_batches c.args.self.now) c.args.number c.index.result.now = c.index.ensures ∙ ap (λ (x : Schedule). get_or x.batches.items c.args.number c.index.result.now) c.schedule.ensures in
    entries_at c.args.self.now c.args.number c.in_ok-entries.entries.items c.index.result.now c.in-Some.play.now
    (there (scheduled_batches c.args.self.now) c.args.number c.index.result.now c.requires is) (sym c.in-Some.ensures)
    (subst₂ (λ ms xs. AreEntries c.in-Some.play.now ms xs c.in_ok-entries.entries.items) c.deref-2.ensures.value c.deref.ensures.value c.in_ok-entries.ensures)
