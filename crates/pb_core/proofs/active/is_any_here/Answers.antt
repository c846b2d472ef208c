use Rattle.std.proofs.Common.{get_or, subst}
use Rattle.std.proofs.lemmas.List.{drop_all}
use Rattle.pb_core.specs.Entries.{IsHere}
use Rattle.pb_core.proofs.Beginnings.{gone_more, one_here, none_here}
use Rattle.pb_core.proofs.active.is_any_here.Goals as goal

pub returns-then-is_here : goal.returns-then-is_here
returns-then-is_here g c =
    one_here c.args.hosts.now c.args.members.now c.loop-member.member-index c.loop-member.invariant c.loop-member-test.true
    (subst (IsHere c.args.hosts.now (get_or c.args.members.now c.loop-member.member-index 0)) c.if-is_here.true c.is_here.ensures.here)

pub loop-member-preserved : goal.loop-member-preserved
loop-member-preserved g c =
    gone_more c.args.hosts.now c.args.members.now c.loop-member.member-index c.loop-member.invariant c.loop-member-test.true
    (subst (IsHere c.args.hosts.now (get_or c.args.members.now c.loop-member.member-index 0)) c.if-is_here.false c.is_here.ensures.here)

pub returns : goal.returns
returns g c = none_here c.args.hosts.now c.args.members.now c.loop-member.member-index c.loop-member.invariant (drop_all c.loop-member.member-index c.args.members.now c.loop-member-test.false)
