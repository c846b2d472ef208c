use Rattle.std.proofs.Common.{refl, sym, subst}
use Rattle.pb_position.specs.Calls.{BeginsPlay}
use Rattle.pb_core.specs.Hosts.{IsPlaceAt}
use Rattle.pb_core.specs.Entries.{IsHere}
use Rattle.pb_core.proofs.Hosts.{there, past}
use Rattle.pb_core.proofs.Beginnings.{entry_past, entry_left, entry_here}
use Rattle.pb_core.proofs.entries.entry_of.Goals as goal

pub returns-then-host-hosts-clause-entry : goal.returns-then-host-hosts-clause-entry
returns-then-host-hosts-clause-entry g c = entry_past c.args.hosts.now c.args.host c.args.play.now (past c.args.hosts.now c.args.host c.if-host-hosts.true)

pub returns-then-not-is_here-clause-entry : goal.returns-then-not-is_here-clause-entry
returns-then-not-is_here-clause-entry g c = entry_left c.args.hosts.now c.args.host c.args.play.now (subst (IsHere c.args.hosts.now c.args.host) c.if-not-is_here.true c.is_here.ensures.here)

pub returns-clause-entry : goal.returns-clause-entry
returns-clause-entry g c =
    entry_here c.args.hosts.now c.args.host c.args.play.now c.deref.result.now c.index-hosts-host.result _
    (there c.args.hosts.now c.args.host c.index-hosts-host.result c.if-host-hosts.false c.index-hosts-host.is)
    (subst (IsHere c.args.hosts.now c.args.host) c.if-not-is_here.false c.is_here.ensures.here) c.deref.ensures.value
    (subst (λ x. BeginsPlay c.deref.result.now c.args.play.now.plan.begin x.position c.in_ok-position.position) (sym c.index-hosts-host.is) c.in_ok-position.ensures.host)
    (subst (λ xs. IsPlaceAt xs c.in_ok-position.position c.place_at-place.result) c.deref-2.ensures.value c.place_at-place.ensures) refl
