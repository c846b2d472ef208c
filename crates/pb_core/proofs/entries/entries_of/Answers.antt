use Rattle.std.proofs.Common.{get_or, refl, subst, take_all, arith}
use Rattle.pb_core.specs.Entries.{AreEntries}
use Rattle.pb_core.proofs.Beginnings.{entries_by}
use Rattle.pb_core.proofs.entries.entries_of.Goals as goal

pub loop-member-preserved : goal.loop-member-preserved
loop-member-preserved g c =
    entries_by c.args.play.now c.args.members.now c.args.members.now c.loop-member.member-index c.args.hosts.now c.args.hosts.now c.loop-member.entries.items c.add_entry.new.entries.items
    (get_or c.args.members.now c.loop-member.member-index 0) c.in_ok-entry.entry c.loop-member.invariant c.in_ok-entry.ensures.entry c.in_ok-entry.ensures.host refl (omega arith) c.in_ok-add_entry.ensures

pub returns : goal.returns
returns g c =
    subst (λ ms. AreEntries c.args.play.now ms c.args.hosts.now c.loop-member.entries.items) (take_all c.loop-member.member-index c.args.members.now c.loop-member-test.false) c.loop-member.invariant
