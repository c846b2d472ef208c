use Rattle.std.proofs.Common.{◌≡◌, ◌<◌, ◌≤◌, ◌+◌, ◌∙◌, suc, length, get_or, drop, true, false, ap, subst, subst₂, arith}
use Rattle.std.proofs.lemmas.List.{drop_all}
use Rattle.pb_core.specs.declared.batch.Schedule.{Schedule}
use Rattle.pb_core.specs.Cores.{scheduled_batches}
use Rattle.pb_core.specs.Entries.{IsAnyHere}
use Rattle.pb_core.proofs.Hosts.{there}
use Rattle.pb_core.proofs.Runs.{leads_to}
use Rattle.pb_core.proofs.run.RunCore.next_batch.Goals as goal

pub returns-then-is_any_here-clause-leads : goal.returns-then-is_any_here-clause-leads
returns-then-is_any_here-clause-leads g c =
    let now = c.args.self.now in
    let few : now.current < length (scheduled_batches now) = omega (arith, c.requires) in
    let next : now.current + 1 ≡ suc now.current = omega arith in
    let is : c.index.result.now ≡ get_or (scheduled_batches now) now.current c.index.result.now = c.index.ensures ∙ ap (λ (x : Schedule). get_or x.batches.items now.current c.index.result.now) c.schedule.ensures in
    leads_to now c.index.result.now (now.current + 1) true (there (scheduled_batches now) now.current c.index.result.now few is)
    (subst (IsAnyHere now.hosts.items c.index.result.now.members.items) c.if-is_any_here.true
    (subst₂ (λ xs ms. IsAnyHere xs ms c.is_any_here.result) c.deref.ensures.value c.deref-2.ensures.value c.is_any_here.ensures))
    (ap (λ n. drop n (scheduled_batches now)) next)

pub returns-else-is_any_here-clause-leads : goal.returns-else-is_any_here-clause-leads
returns-else-is_any_here-clause-leads g c =
    let now = c.args.self.now in
    let few : now.current < length (scheduled_batches now) = omega (arith, c.requires) in
    let is : c.index.result.now ≡ get_or (scheduled_batches now) now.current c.index.result.now = c.index.ensures ∙ ap (λ (x : Schedule). get_or x.batches.items now.current c.index.result.now) c.schedule.ensures in
    let same = ap (λ (x : Schedule). length x.batches.items) c.schedule.ensures in
    let over : length (scheduled_batches now) ≤ c.len.result = omega (arith, c.schedule.result.now.batches.ok, same) in
    leads_to now c.index.result.now c.len.result false (there (scheduled_batches now) now.current c.index.result.now few is)
    (subst (IsAnyHere now.hosts.items c.index.result.now.members.items) c.if-is_any_here.false
    (subst₂ (λ xs ms. IsAnyHere xs ms c.is_any_here.result) c.deref.ensures.value c.deref-2.ensures.value c.is_any_here.ensures))
    (drop_all c.len.result (scheduled_batches now) over)
