use Rattle.std.proofs.Common.{◌∙◌, sym, ap}
use Rattle.pb_inventory.specs.Inventory.{inventory_view}
use Rattle.pb_world.proofs.HostNames.{member-in, member_in}
use Rattle.pb_world.proofs.members.member_at.Goals as goal

pub returns-in-Some : goal.returns-in-Some
returns-in-Some c =
    c.name_in.ensures ∙ ap (member_in c.args.place) c.in-Some.ensures.named ∙ sym (member-in c.args.group.now c.args.place (inventory_view c.args.inventory.now).groups)

pub returns-in-None : goal.returns-in-None
returns-in-None c =
    ap (member_in c.args.place) c.in-None.ensures.named ∙ sym (member-in c.args.group.now c.args.place (inventory_view c.args.inventory.now).groups)
