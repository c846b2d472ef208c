use Rattle.std.proofs.Common.{◌≡◌, ◌∙◌, ◌+◌, ◌-◌, ap, drop, arith}
use Rattle.pb_inventory.specs.Inventory.{inventory_view}
use Rattle.pb_language.specs.Setting.{group_fields}
use Rattle.pb_value.specs.View.{fields_view}
use Rattle.pb_world.proofs.GroupFields.{group-next}
use Rattle.pb_world.proofs.constants.groups_of.Goals as goal

pub loop-group-preserved : goal.loop-group-preserved
loop-group-preserved c =
    let l = c.loop-group in
    let gs = (inventory_view c.args.inventory.now).groups in
    let same : l.group ≡ (l.group - 1) + 1 = omega arith in
    group-next gs (l.group - 1) (fields_view l.fields.entries) (fields_view c.put_group.new.fields.entries) c.groups.ensures.ascending (l.invariant ∙ ap (λ i. group_fields (drop i gs)) same) c.in_ok-put_group.ensures
