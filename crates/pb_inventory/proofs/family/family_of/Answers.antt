use Rattle.std.proofs.Common.{◌≡◌, ap, sym, ◌∙◌, get_or}
use Rattle.pb_inventory.specs.Graph.{children_at}
use Rattle.pb_inventory.specs.Families.{add_numbers, lists_of}
use Rattle.pb_inventory.proofs.Marks.{marked-none}
use Rattle.pb_inventory.proofs.Onces.{once-more}
use Rattle.pb_inventory.proofs.Rows.{row_read}
use Rattle.pb_inventory.proofs.family.family_of.Goals as goal

pub add_hosts-requires-clause-marks : goal.add_hosts-requires-clause-marks
add_hosts-requires-clause-marks c = rw c.new-family.ensures.items (marked-none c.args.seen.now c.args.stamp c.requires.stamp)

pub loop-child-preserved : goal.loop-child-preserved
loop-child-preserved c =
    let l = c.loop-child in
    let vs = c.args.members.now in
    let cs = c.args.children.now in
    let child = get_or cs l.child-index 0 in
    let row : c.as_slice.result.now ≡ children_at (lists_of vs) child =
    c.as_slice.ensures.value ∙ sym (row_read vs child c.index-members-child.result (c.requires.children l.child-index 0 c.loop-child-test.true) c.index-members-child.is) in
    record {
      members = c.in_ok-add_hosts-2.ensures.members ∙ ap (add_numbers l.family.items) row
          ∙ ap (λ ns. add_numbers ns (children_at (lists_of vs) child)) l.invariant.members
          ∙ once-more (children_at (lists_of vs)) c.args.own.now cs l.child-index c.loop-child-test.true;
      marks = c.in_ok-add_hosts-2.ensures.marks;
    }
