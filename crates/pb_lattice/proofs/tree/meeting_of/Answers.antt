use Rattle.pb_lattice.specs.Arena.{tree_at}
use Rattle.pb_lattice.proofs.Meetings.{bare_known_meets, known_bare_meets, known_meets, fork_bare_meets}
use Rattle.pb_lattice.proofs.tree.meeting_of.Goals as goal

pub returns-in_ok-maybe-in-Bare-Known : goal.returns-in_ok-maybe-in-Bare-Known
returns-in_ok-maybe-in-Bare-Known c =
    bare_known_meets (tree_at c.args.nodes.now) c.args.first c.args.second c.part.result.now c.part-2.result.now c.part.ensures.means c.part-2.ensures.means
    c.in-Bare-Known.slot c.in_ok-maybe-in-Bare-Known.field-0 c.in-Bare-Known.is-0 c.in-Bare-Known.is-1 c.part-2.ensures.well c.in_ok-maybe-in-Bare-Known.ensures.presence c.in_ok-maybe-in-Bare-Known.ensures.kind

pub returns-in_ok-maybe-in-Known-Bare : goal.returns-in_ok-maybe-in-Known-Bare
returns-in_ok-maybe-in-Known-Bare c =
    known_bare_meets (tree_at c.args.nodes.now) c.args.first c.args.second c.part.result.now c.part-2.result.now c.part.ensures.means c.part-2.ensures.means
    c.in-Known-Bare.slot c.in_ok-maybe-in-Known-Bare.field-0 c.in-Known-Bare.is-0 c.in-Known-Bare.is-1 c.part.ensures.well c.in_ok-maybe-in-Known-Bare.ensures.presence c.in_ok-maybe-in-Known-Bare.ensures.kind

pub returns-in_ok-join_slots-in-Known-Known : goal.returns-in_ok-join_slots-in-Known-Known
returns-in_ok-join_slots-in-Known-Known c =
    known_meets (tree_at c.args.nodes.now) c.args.first c.args.second c.part.result.now c.part-2.result.now c.part.ensures.means c.part-2.ensures.means
    c.in-Known-Known.slot c.in-Known-Known.other c.in_ok-join_slots-in-Known-Known.field-0 c.in-Known-Known.is-0 c.in-Known-Known.is-1 c.part.ensures.well c.part-2.ensures.well
    c.in_ok-join_slots-in-Known-Known.ensures.presence c.in_ok-join_slots-in-Known-Known.ensures.kind

pub returns-in-Fork-Bare : goal.returns-in-Fork-Bare
returns-in-Fork-Bare c =
    fork_bare_meets (tree_at c.args.nodes.now) c.args.first c.args.second c.part.result.now c.part-2.result.now c.part.ensures.means c.part-2.ensures.means
    c.in-Fork-Bare.left c.in-Fork-Bare.right c.in-Fork-Bare.is-0 c.in-Fork-Bare.is-1 c.part.ensures.below
