use Rattle.std.proofs.Common.{◌∙◌, ap}
use Rattle.pb_inventory.specs.Inventory.{inventory_view}
use Rattle.pb_language.specs.Program.{memberships_of}
use Rattle.pb_language.specs.Setting.{names_list}
use Rattle.pb_language.specs.World.{HostVariables}
use Rattle.pb_semantics.specs.Data.{list, text}
use Rattle.pb_value.specs.View.{view}
use Rattle.pb_world.specs.Constants.{host_groups, host_names}
use Rattle.pb_world.specs.declared.constants.HostConstants.{HostConstants}
use Rattle.pb_world.proofs.HostLists.{made-next}
use Rattle.pb_world.proofs.constants.hosts_of.Goals as goal

pub loop-host-preserved : goal.loop-host-preserved
loop-host-preserved c =
    let l = c.loop-host in
    let i = inventory_view c.args.inventory.now in
    let x = c.in_ok-host_of.field-0 in
    let name = λ (h : HostVariables). h.name in
    record {
      names = ap host_names c.in_ok-push.ensures.items ∙ made-next (λ (h : HostConstants). view h.name) name text l.hosts.items i.hosts l.host x l.invariant.names c.in_ok-host_of.ensures.name;
      group_names = ap host_groups c.in_ok-push.ensures.items
          ∙ made-next (λ (h : HostConstants). view h.group_names) name (λ n. list (names_list (memberships_of n i.groups))) l.hosts.items i.hosts l.host x l.invariant.group_names c.in_ok-host_of.ensures.group_names;
    }
