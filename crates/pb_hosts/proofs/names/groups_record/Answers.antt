use Rattle.std.proofs.Common.{◌≡◌, ◌∙◌, ◌+◌, ◌-◌, ap, drop, arith}
use Rattle.pb_language.specs.Setting.{group_slots}
use Rattle.pb_kind.specs.KindView.{slots_view}
use Rattle.pb_inventory.specs.Inventory.{inventory_view}
use Rattle.pb_hosts.proofs.Groups.{group_more}
use Rattle.pb_hosts.proofs.names.groups_record.Goals as goal

pub loop-group-preserved : goal.loop-group-preserved
loop-group-preserved c =
    let l = c.loop-group in
    let gs = (inventory_view c.args.inventory.now).groups in
    let same : l.group ≡ (l.group - 1) + 1 = omega arith in
    group_more gs (l.group - 1) (slots_view l.slots.entries) (slots_view c.put_group.new.slots.entries) (l.invariant ∙ ap (λ i. group_slots (drop i gs)) same) c.in_ok-put_group.ensures
